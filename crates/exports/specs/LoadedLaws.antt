-- The requests that are written of a file are the adds and links of its build, so that a list which begins with them goes on from the
-- graph that a load of the file gives.
use Rattle.std.specs.Prelude.{◌≡◌, refl, ℕ, ◌+◌, ◌*◌, ◌/◌, ◌%◌, ◌≤◌, length, Result, Ok}
use Rattle.std.proofs.Common.{sym, ◌∙◌, arith, length-append}
use Rattle.std.proofs.Math.Path.{ap}
use mathlib.Core.List.{List, [], ◌∷◌, ◌++◌, map, flat_map, append-nil}
use Rattle.multiportgraph.specs.declared.multiportgraph.MultiPortGraph.{MultiPortGraph}
use Rattle.port_tables.specs.declared.release.Release.TheVariants.{One}
use Rattle.theorems.specs.Book.{Call}
use Rattle.theorems.specs.History.{run}
use Rattle.records.specs.Words.{word_at, bytes_of, Request, request_at, requests_from, requests_of}
use Rattle.records.specs.WordLaws.{bytes_long}
use Rattle.records.specs.Run.{asked, asked_by, after, graph_from, calls_of, first_graph}
use Rattle.records.specs.RunLaws.{run_is_history}
use Rattle.records.specs.RunSteps.{requests_on}
use Rattle.files.specs.View.{BlockPorts, RankWire, View}
use Rattle.files.specs.Layout.{unbytes}
use Rattle.files.specs.Loading.{out_port, in_port, add_of, link_of, build_of, load_answer, graph_if, load_graph, load_graph_under}
use Rattle.files.specs.BuildList.{add_pair, link_pair}
use Rattle.files.specs.LoadAnswers.{loaded_few}
use Rattle.files.specs.declared.load.LoadError.{LoadError}
use Rattle.exports.specs.Exports.{graph_left, build_requests, file_requests, pair_requests}
use Rattle.exports.specs.LoadedSteps.{build_split, requests_many}
use Rattle.multiportgraph.specs.ScanLaws.{flat_map_map, flat_map_append}

-- Requests read back.

abbrev request_words : Request → List ℕ
request_words q = q.code ∷ q.a ∷ q.b ∷ q.c ∷ q.d ∷ []

request_read : (q : Request) → request_at (bytes_of (request_words q)) 0 ≡ q
unfolding request_at word_at bytes_of
request_read q =
    let w : (x : ℕ) → x % 256 + 256 * (x / 256 % 256) + 65536 * (x / 65536 % 256) + 16777216 * (x / 16777216) ≡ x = λ x. omega arith in
    λ j. record { code = w q.code j; a = w q.a j; b = w q.b j; c = w q.c j; d = w q.d j }

requests_back : (rs : List Request) (more : List ℕ) → requests_of (bytes_of (flat_map request_words rs) ++ more) ≡ rs ++ requests_of more
unfolding flat_map bytes_of
requests_back [] more = refl
requests_back (q ∷ rs) more =
    let u = bytes_of (request_words q) in
    let l = bytes_of (flat_map request_words rs) ++ more in
    requests_on (u ++ l) u l refl (bytes_long (request_words q)) ∙ (λ j. request_read q j ∷ requests_back rs more j)

-- Those of a build.

abbrev add_request : BlockPorts → Request
add_request b = record { code = 1; a = b.incoming; b = b.outgoing; c = 0; d = 0 }

abbrev link_request : List BlockPorts → RankWire → Request
link_request blocks w = record { code = 4; a = out_port blocks w; b = in_port blocks w; c = 0; d = 0 }

abbrev requests_in : View → List Request
requests_in v = map add_request v.blocks ++ map (link_request v.blocks) v.wires

bytes_are : (v : View) → build_requests v ≡ bytes_of (flat_map request_words (requests_in v))
unfolding build_requests
bytes_are v =
    ap bytes_of
    ((λ j. sym (flat_map_map request_words add_request v.blocks) j ++ sym (flat_map_map request_words (link_request v.blocks) v.wires) j)
    ∙ sym (flat_map_append request_words (map add_request v.blocks) (map (link_request v.blocks) v.wires)))

-- what is read of them, and of what follows
requests_are : (v : View) (more : List ℕ) → requests_of (build_requests v ++ more) ≡ requests_in v ++ requests_of more
requests_are v more = ap (λ (l : List ℕ). requests_of (l ++ more)) (bytes_are v) ∙ requests_back (requests_in v) more

adds_called : (l : List BlockPorts) (k : List Request) → calls_of (map add_request l ++ k) ≡ map add_of l ++ calls_of k
unfolding calls_of asked_by
adds_called [] k = refl
adds_called (b ∷ l) k = ap (λ c. add_of b ∷ c) (adds_called l k)

links_called : (blocks : List BlockPorts) (l : List RankWire) → calls_of (map (link_request blocks) l) ≡ map (link_of blocks) l
unfolding calls_of asked_by
links_called blocks [] = refl
links_called blocks (w ∷ l) = ap (λ c. link_of blocks w ∷ c) (links_called blocks l)

calls_are : (v : View) → calls_of (requests_in v) ≡ build_of v
unfolding build_of
calls_are v = adds_called v.blocks (map (link_request v.blocks) v.wires) ∙ ap (λ k. map add_of v.blocks ++ k) (links_called v.blocks v.wires)

-- The requests of a view ask for its adds and links, in file order.
pub requests_are_the_build : (v : View) → calls_of (requests_of (build_requests v)) ≡ build_of v
unfolding requests_of requests_from
requests_are_the_build v =
    ap calls_of (ap requests_of (sym (append-nil (build_requests v))) ∙ (requests_are v [] ∙ append-nil (requests_in v))) ∙ calls_are v

-- Histories.

graph_append : (m : MultiPortGraph) (l k : List Request) → graph_from m (l ++ k) ≡ graph_from (graph_from m l) k
unfolding graph_from
graph_append m [] k = refl
graph_append m (q ∷ l) k = graph_append (after m (asked q)) l k

loaded_graph : (file : List ℕ) → load_answer One file ≡ Ok tt → load_graph One file ≡ (run One (build_of (unbytes file))).graph
unfolding load_graph_under
loaded_graph file e = ap (λ (a : Result (Unit {0}) LoadError). graph_if One a (run One (build_of (unbytes file))).graph) e

module _ (file : List ℕ) (accepted : load_answer One file ≡ Ok tt) where
  -- A list that begins with the requests of an accepted file goes on from the graph that its load gives,
  pub list_goes_on_from_the_load : (more : List ℕ) → graph_left (file_requests file ++ more) ≡ graph_from (load_graph One file) (requests_of more)
  list_goes_on_from_the_load more =
      let v = unbytes file in
      ap (graph_from first_graph) (requests_are v more)
      ∙ (graph_append first_graph (requests_in v) (requests_of more)
      ∙ ap (λ (m : MultiPortGraph). graph_from m (requests_of more))
      (run_is_history (requests_in v) ∙ (ap (λ (c : List Call). (run One c).graph) (calls_are v) ∙ sym (loaded_graph file accepted))))

  -- and the requests alone leave that graph.
  pub requests_leave_the_load : graph_left (file_requests file) ≡ load_graph One file
  unfolding requests_of requests_from graph_from
  requests_leave_the_load = ap graph_left (sym (append-nil (file_requests file))) ∙ list_goes_on_from_the_load []

  -- They have at most 51,200 bytes, so a buffer of so many is never too short, and no length could be taken for a refusal.
  pub requests_are_short : length (file_requests file) ≤ 51200
  requests_are_short =
      let v = unbytes file in
      let f = loaded_few One file accepted in
      let a = ap length (build_split v) ∙ length-append (pair_requests 1 (flat_map add_pair v.blocks)) (pair_requests 4 (flat_map (link_pair v.blocks) v.wires)) in
      let b = requests_many 1 add_pair (λ x. refl) v.blocks in
      let c = requests_many 4 (link_pair v.blocks) (λ x. refl) v.wires in
      let x = f.0 in
      let y = f.1 in
      omega arith
