-- What the functions that build a file's wiring cite: calls one after the other, as far as the first that is refused; first ports; and
-- blocks and wires read where they stand.
use Rattle.std.specs.Option.{ok_or}
use Rattle.std.specs.Result.{result_and, result_unwrap_or}
use Rattle.std.specs.List.{list_all}
use Rattle.std.specs.Prelude.{◌≡◌, refl, Bool, true, false, cond, ◌&&◌, List, [], ◌∷◌, ◌++◌, map, ℕ, suc, ◌+◌, ◌*◌, ◌%◌, ◌≤◌, ◌<◌, eqb, ltb, length, get_or, set, drop, Option, Some, None, Result, Ok, Err, is_ok, IsErrAnd, MatchOption, MatchResult}
use Rattle.std.proofs.Math.Path.{sym, ap, subst}
use Rattle.std.proofs.Common.{◌∙◌, ⊎_elim, arith, drop_of_length-le, length-set, drop-cons, get_or-set_same, get_or-set_other, ltb-true, eqb-true}
use Rattle.std.proofs.lemmas.Bool.{and_parts, eqb-false}
use Rattle.std.proofs.lemmas.List.Sums.{AllPass-from_list_all}
use Rattle.port_tables.specs.Limits.{node_slots}
use Rattle.multiportgraph.specs.Calls.{add_block, link_pair}
use Rattle.multiportgraph.specs.HiddenStays.{true_not_false}
use Rattle.multiportgraph.specs.Graph.{empty_graph}
use Rattle.multiportgraph.specs.WellFormed.{MultiWf}
use Rattle.multiportgraph.specs.declared.multiportgraph.MultiPortGraph.{MultiPortGraph}
use Rattle.port_tables.specs.declared.release.Release.{Release}
use Rattle.theorems.specs.Book.{Call, AnswerOf, empty_book}
use Rattle.theorems.specs.History.{step, State, next, run_from, run_from_under, run, run_under}
use Rattle.theorems.proofs.CallLaws.{empty_kept, step_kept}
use Rattle.files.specs.View.{BlockPorts, RankWire, View}
use Rattle.files.specs.Layout.{Record, block_of, wire_of, units_for, unbytes}
use Rattle.files.specs.Loading.{unit_list, units_right, is_laid, ranks_right, block_at, positions_right, order_right, view_right, first_port, out_port, in_port, add_of, link_of, build_of, after_call, first_refusal, first_refusal_under, graph_if, is_whole, load_answer, load_answer_under, load_graph, load_graph_under}
use Rattle.files.specs.Merging.{layout_answer}
use Rattle.files.specs.NextSlots.{next_slots, first_port_first, first_port_next}
use Rattle.files.specs.BuildLaws.{goes_or_stops, refusal_after, first_refused}
use Rattle.files.specs.LoadForms.{place_of, record_in, no_wire, BlocksRead, WiresRead, ShapeIs, Laid, graph_after, StepIs, StepStops, Built, Firsts, Linkable}
use Rattle.files.specs.declared.load.LoadError.{LoadError}
use Rattle.files.specs.declared.check.Shape.{Shape}
use Rattle.files.specs.declared.load.LoadError.TheVariants.{BadSums, BadLayout, Refused}
use Rattle.files.specs.declared.load.FileLoaded.{FileLoaded}
use Rattle.port_tables.specs.declared.index.NodeIndex.{NodeIndex}
use Rattle.port_tables.specs.declared.index.PortIndex.{PortIndex}
use Rattle.multi_tables.specs.declared.answers.Refusal.{Refusal}
use Rattle.multi_tables.specs.declared.answers.SubportIndex.{SubportIndex}

-- What a `?` passes on.

pub err_says : {T E : Type 0} (P : T → Type 0) (Q : E → Type 0) {e : E} (r : Result T E) → IsErrAnd r (λ told. told ≡ e) → Q e → MatchResult r P Q
err_says P Q (Ok x) h q = absurd h
err_says P Q (Err x) h q = subst Q (sym h) q

-- One call.

after_loaded : (c : Call) (v : AnswerOf c) (rest : Result (Unit {0}) LoadError) → is_ok (after_call c v (Ok tt)) ≡ true → after_call c v rest ≡ rest
after_loaded c v rest h = ⊎_elim (λ goes. goes rest) (λ stops. absurd (true_not_false h (ap is_ok (stops.2 (Ok tt))))) (goes_or_stops c v)

after_refused : (c : Call) (v : AnswerOf c) (rest : Result (Unit {0}) LoadError) → is_ok (after_call c v (Ok tt)) ≡ false → after_call c v rest ≡ after_call c v (Ok tt)
after_refused c v rest h = ⊎_elim (λ goes. absurd (true_not_false (ap is_ok (goes (Ok tt))) h)) (λ stops. stops.2 rest ∙ sym (stops.2 (Ok tt))) (goes_or_stops c v)

module _ (m : MultiPortGraph) (c : Call) {v u : AnswerOf c} (e : v ≡ (step m c).answer) (t : v ≡ u) where
  step_is : MultiWf m → {m' : MultiPortGraph} → m' ≡ (step m c).graph → after_call c u (Ok tt) ≡ Ok tt → StepIs m c m'
  step_is w g h = record { graph = g; told = ap (λ (x : AnswerOf c). after_call c x (Ok tt)) (sym e ∙ t) ∙ h; kept = subst MultiWf (sym g) (step_kept m c w) }

  step_stops : {told : LoadError} → after_call c u (Ok tt) ≡ Err told → StepStops m c told
  step_stops h = ap (λ (x : AnswerOf c). after_call c x (Ok tt)) (sym e ∙ t) ∙ h

pub add_stepped : (m : MultiPortGraph) (b : BlockPorts) {i o : ℕ} {v : Result (NodeIndex × PortIndex) Refusal} → i ≡ b.incoming → o ≡ b.outgoing → v ≡ (add_block m i o).answer →
    MultiWf m → {m' : MultiPortGraph} → m' ≡ (add_block m i o).graph → {x : NodeIndex × PortIndex} → v ≡ Ok x → StepIs m (add_of b) m'
add_stepped m b p q e w g t = step_is m (add_of b) (e ∙ (λ j. (add_block m (p j) (q j)).answer)) t w (g ∙ (λ j. (add_block m (p j) (q j)).graph)) refl

module _ (m : MultiPortGraph) (blocks : List BlockPorts) (w : RankWire) {x y : ℕ} {v : Result (SubportIndex × SubportIndex) Refusal} (p : x ≡ out_port blocks w) (q : y ≡ in_port blocks w) (e : v ≡ (link_pair m x y).answer) where
  link_answered : v ≡ (step m (link_of blocks w)).answer
  link_answered = e ∙ (λ j. (link_pair m (p j) (q j)).answer)

  pub link_stepped : MultiWf m → {m' : MultiPortGraph} → m' ≡ (link_pair m x y).graph → {z : SubportIndex × SubportIndex} → v ≡ Ok z → StepIs m (link_of blocks w) m'
  link_stepped wf g t = step_is m (link_of blocks w) link_answered t wf (g ∙ (λ j. (link_pair m (p j) (q j)).graph)) refl

  pub link_stops : {r : Refusal} → v ≡ Err r → {told : LoadError} → told ≡ Refused r → StepStops m (link_of blocks w) told
  link_stops t h = step_stops m (link_of blocks w) link_answered t (ap Err (sym h))

-- Calls one after the other.

-- what is left of the calls amounts to all
pub record Building (m₀ : MultiPortGraph) (calls : List Call) (m : MultiPortGraph) (left : List Call) : Type 0 where
  pub kept : MultiWf m
  pub told : first_refusal m left ≡ first_refusal m₀ calls
  pub graph : graph_after m left ≡ graph_after m₀ calls

module _ {m₀ m : MultiPortGraph} {calls left : List Call} (b : Building m₀ calls m left) where
  pub build_ends : left ≡ [] → Built m₀ calls m
  unfolding first_refusal_under graph_after
  build_ends e = record { told = sym b.told ∙ ap (first_refusal m) e; graph = sym (ap (graph_after m) e) ∙ b.graph; kept = b.kept }

  module _ {c : Call} {l : List Call} (e : left ≡ c ∷ l) where
    told_on : first_refusal m left ≡ after_call c (step m c).answer (first_refusal (step m c).graph l)
    unfolding first_refusal_under
    told_on = ap (first_refusal m) e

    graph_on : graph_after m left ≡ graph_after (step m c).graph l
    unfolding graph_after
    graph_on = ap (graph_after m) e

    pub build_stops : {r : LoadError} → StepStops m c r → first_refusal m₀ calls ≡ Err r
    build_stops h = sym b.told ∙ (told_on ∙ (after_refused c (step m c).answer _ (ap is_ok h) ∙ h))

    pub build_turns : {m' : MultiPortGraph} → StepIs m c m' → Building m₀ calls m' l
    build_turns s =
        record {
          kept = s.kept;
          told = ap (λ (x : MultiPortGraph). first_refusal x l) s.graph ∙ (sym (told_on ∙ after_loaded c (step m c).answer _ (ap is_ok s.told)) ∙ b.told);
          graph = ap (λ (x : MultiPortGraph). graph_after x l) s.graph ∙ (sym graph_on ∙ b.graph);
        }

-- Blocks and wires where they stand.

module _ {bytes : List ℕ} {n : ℕ} (r : BlocksRead bytes n) where
  pub adds_on : {i : ℕ} {block : Record} → i < n → block ≡ record_in bytes (place_of 0 i) → map add_of (drop i (unbytes bytes).blocks) ≡ add_of (block_of block) ∷ map add_of (drop (i + 1) (unbytes bytes).blocks)
  adds_on {i} {block} h e =
      let m = r.many in
      let s : suc i ≡ i + 1 = omega arith in
      let x : block_at (unbytes bytes).blocks i ≡ block_of block = r.each i h ∙ ap block_of (sym e) in
      ap (map add_of) (drop-cons (unbytes bytes).blocks i (record { incoming = 0; outgoing = 0 }) (omega arith))
      ∙ (λ j. add_of (x j) ∷ map add_of (drop (s j) (unbytes bytes).blocks))

  pub adds_none : {i : ℕ} → n ≤ i → map add_of (drop i (unbytes bytes).blocks) ≡ []
  adds_none {i} h = let m = r.many in ap (map add_of) (drop_of_length-le (unbytes bytes).blocks {i = i} (omega arith))

module _ {bytes : List ℕ} {u n : ℕ} (r : WiresRead bytes u n) where
  pub links_on : {i : ℕ} {wire : Record} → i < n → wire ≡ record_in bytes (place_of u i) →
      map (link_of (unbytes bytes).blocks) (drop i (unbytes bytes).wires) ≡ link_of (unbytes bytes).blocks (wire_of wire) ∷ map (link_of (unbytes bytes).blocks) (drop (i + 1) (unbytes bytes).wires)
  links_on {i} {wire} h e =
      let m = r.many in
      let s : suc i ≡ i + 1 = omega arith in
      let x : get_or (unbytes bytes).wires i no_wire ≡ wire_of wire = r.each i h ∙ ap wire_of (sym e) in
      ap (map (link_of (unbytes bytes).blocks)) (drop-cons (unbytes bytes).wires i no_wire (omega arith))
      ∙ (λ j. link_of (unbytes bytes).blocks (x j) ∷ map (link_of (unbytes bytes).blocks) (drop (s j) (unbytes bytes).wires))

  pub links_none : {i : ℕ} → n ≤ i → map (link_of (unbytes bytes).blocks) (drop i (unbytes bytes).wires) ≡ []
  links_none {i} h = let m = r.many in ap (map (link_of (unbytes bytes).blocks)) (drop_of_length-le (unbytes bytes).wires {i = i} (omega arith))

-- First ports.

pub record Filling (bytes : List ℕ) (blocks : ℕ) (table : List ℕ) (next i : ℕ) : Type 0 where
  pub inside : i ≤ blocks
  pub long : length table ≡ node_slots
  pub next_is : next ≡ first_port (unbytes bytes).blocks i
  pub next_small : next ≤ 131070 * i
  pub each : (r : ℕ) → r < i → get_or table r 0 ≡ first_port (unbytes bytes).blocks r
  pub small : (r : ℕ) → r < i → get_or table r 0 ≤ 131070 * r

pub filling_begins : (bytes : List ℕ) (blocks : ℕ) (table : List ℕ) → length table ≡ node_slots → Filling bytes blocks table 0 0
filling_begins bytes blocks table l =
    record {
      inside = omega arith;
      long = l;
      next_is = sym (first_port_first (unbytes bytes).blocks);
      next_small = omega arith;
      each = λ r h. absurd (omega arith);
      small = λ r h. absurd (omega arith);
    }

module _ {bytes : List ℕ} {blocks : ℕ} {table : List ℕ} {next i : ℕ} (read : BlocksRead bytes blocks) (few : blocks ≤ node_slots) (f : Filling bytes blocks table next i) where
  pub filling_turns : {block : Record} → i < blocks → block ≡ record_in bytes (place_of 0 i) → block.a < 65536 → block.b < 65536 → Filling bytes blocks (set table i next) (next + (block.a + block.b)) (i + 1)
  filling_turns {block} h e x y =
      let m = read.many in
      let t : length table ≡ node_slots = f.long in
      let s : suc i ≡ i + 1 = omega arith in
      let z : block_at (unbytes bytes).blocks i ≡ block_of block = read.each i h ∙ ap block_of (sym e) in
      let z₁ = ap (λ (k : BlockPorts). k.incoming) z in
      let z₂ = ap (λ (k : BlockPorts). k.outgoing) z in
      let n = first_port_next (unbytes bytes).blocks i (omega arith) in
      let n₂ = ap (first_port (unbytes bytes).blocks) s in
      let k = f.next_is in
      let l = f.next_small in
      record {
        inside = omega arith;
        long = length-set table i next ∙ f.long;
        next_is = omega arith;
        next_small = omega arith;
        each = λ r j. totals r (λ (x : ℕ). x ≡ first_port (unbytes bytes).blocks r) j (λ w. f.each r w) (λ w. f.next_is ∙ ap (first_port (unbytes bytes).blocks) (sym w));
        small = λ r j. totals r (λ (x : ℕ). x ≤ 131070 * r) j (λ w. f.small r w) (λ w. omega arith);
      }
    where
      -- what the table holds: the entries before, and the new one
      totals : (r : ℕ) (P : ℕ → Type 0) → r < i + 1 → (r < i → P (get_or table r 0)) → (r ≡ i → P next) → P (get_or (set table i next) r 0)
      totals r P j old new = go (eqb r i) refl
        where
          go : (t : Bool) → eqb r i ≡ t → P (get_or (set table i next) r 0)
          go true e =
              let w = eqb-true r i e in
              let l = f.long in
              subst P (sym (ap (λ (k : ℕ). get_or (set table i next) k 0) w ∙ get_or-set_same table i next 0 (omega arith))) (new w)
          go false e =
              let w = eqb-false r i e in
              subst P (sym (get_or-set_other table i r next 0 w)) (old (below r i j w))
            where
              below : (r i : ℕ) → r < i + 1 → (r ≡ i → ⊥) → r < i
              below r i j w = omega arith

-- The ports of a wire.

pub linkable : {table bytes : List ℕ} {blocks u n i : ℕ} {wire : Record} → Firsts table bytes blocks → BlocksRead bytes blocks → WiresRead bytes u n → view_right (unbytes bytes) ≡ true →
    blocks ≤ node_slots → i < n → wire ≡ record_in bytes (place_of u i) → Linkable table bytes blocks wire
unfolding view_right ranks_right
linkable {table} {bytes} {blocks} {u} {n} {i} {wire} f b w e few h p =
    let v = unbytes bytes in
    let m = w.many in
    let k = b.many in
    let x = and_parts (order_right v.wires) (list_all (ranks_right v.blocks) v.wires && list_all (positions_right v.blocks) v.wires) e in
    let y = and_parts (list_all (ranks_right v.blocks) v.wires) (list_all (positions_right v.blocks) v.wires) x.1 in
    let z = AllPass-from_list_all (ranks_right v.blocks) v.wires y.0 i no_wire (omega arith) in
    let g : get_or v.wires i no_wire ≡ wire_of wire = w.each i h ∙ ap wire_of (sym p) in
    let r = subst (λ (x : RankWire). (ltb x.source (length v.blocks) && ltb x.target (length v.blocks)) ≡ true) g z in
    let s = and_parts (ltb wire.a (length v.blocks)) (ltb wire.c (length v.blocks)) r in
    let a = ltb-true wire.a (length v.blocks) s.0 in
    let c = ltb-true wire.c (length v.blocks) s.1 in
    record { firsts = f; read = b; few = few; source = omega arith; target = omega arith }

-- A laid file.

module _ (bytes : List ℕ) (w : is_whole bytes ≡ true) where
  pub units_wrong : units_right (unit_list bytes) ≡ false → layout_answer bytes ≡ Err BadLayout
  unfolding layout_answer is_laid
  units_wrong e = rw (w, e) refl

  -- the shape of units that are right, and the refusal of those that are not
  pub shape_found : (o : Option Shape) {s : Shape} → Ok s ≡ ok_or o BadLayout → MatchOption o (units_right (unit_list bytes) ≡ false) (λ s. ShapeIs bytes s.blocks s.wires)
      → ShapeIs bytes s.blocks s.wires
  shape_found (Some x) {s = s} h m = subst (λ (t : Shape). ShapeIs bytes t.blocks t.wires) (sym (ap (λ (v : Result Shape LoadError). result_unwrap_or v s) h)) m
  shape_found None h m = absurd (true_not_false refl (ap is_ok h))

  pub shape_missing : (o : Option Shape) {r : LoadError} → Err r ≡ ok_or o BadLayout
      → MatchOption o (units_right (unit_list bytes) ≡ false) (λ s. ShapeIs bytes s.blocks s.wires) → layout_answer bytes ≡ Err r
  shape_missing (Some x) h m = absurd (true_not_false refl (ap is_ok (sym h)))
  shape_missing None h m = units_wrong m ∙ ap (λ (v : Result Shape LoadError). result_and v (Ok tt)) (sym h)

  module _ {blocks wires : ℕ} (s : ShapeIs bytes blocks wires) where
    pub view_wrong : false ≡ view_right (unbytes bytes) → layout_answer bytes ≡ Err BadLayout
    unfolding layout_answer is_laid
    view_wrong f = let u = s.units in rw (w, u, ← f) refl

    pub laid_is : BlocksRead bytes blocks → WiresRead bytes (units_for blocks) wires → true ≡ view_right (unbytes bytes) → Laid bytes blocks wires
    unfolding is_laid
    laid_is b v f = let u = s.units in record { whole = w; answer = rw (u, ← f) refl; blocks_are = b; wires_are = v; sound = sym f }

pub sums_wrong : (bytes : List ℕ) → false ≡ is_whole bytes → layout_answer bytes ≡ Err BadSums
unfolding layout_answer
sums_wrong bytes h = rw (← h) refl

-- The whole build.

after_append : (m : MultiPortGraph) (a b : List Call) → graph_after m (a ++ b) ≡ graph_after (graph_after m a) b
unfolding graph_after
after_append m [] b = refl
after_append m (c ∷ a) b = after_append (step m c).graph a b

run_from_graph : (s : State) (calls : List Call) → (run_from s calls).graph ≡ graph_after s.graph calls
unfolding run_from_under graph_after
run_from_graph s [] = refl
run_from_graph s (c ∷ l) = run_from_graph (next s c) l

pub run_graph : (release : Release) (calls : List Call) → (run release calls).graph ≡ graph_after (empty_graph release) calls
unfolding run_under
run_graph release calls = run_from_graph (record { graph = empty_graph release; book = empty_book }) calls

module _ (release : Release) (v : View) where
  abbrev adds : List Call
  adds = map add_of v.blocks

  abbrev links : List Call
  links = map (link_of v.blocks) v.wires

  module _ {m₀ : MultiPortGraph} (start : m₀ ≡ empty_graph release) where
    -- refused at a block,
    pub built_blocks : {r : LoadError} → first_refusal m₀ adds ≡ Err r → first_refusal (empty_graph release) (build_of v) ≡ Err r
    unfolding build_of
    built_blocks h =
        let e = ap (λ (m : MultiPortGraph). first_refusal m adds) (sym start) ∙ h in
        first_refused (empty_graph release) adds links (ap is_ok e) ∙ e

    module _ {m₁ : MultiPortGraph} (added : Built m₀ adds m₁) where
      first : Built (empty_graph release) adds m₁
      first = subst (λ (m : MultiPortGraph). Built m adds m₁) start added

      pub blocks_fit_table : length v.blocks ≤ node_slots
      blocks_fit_table = (next_slots release v.blocks first.told).nodes_fit

      on : first_refusal (empty_graph release) (adds ++ links) ≡ first_refusal m₁ links
      on =
          let s : State = record { graph = empty_graph release; book = empty_book } in
          refusal_after s adds links first.told ∙ ap (λ (m : MultiPortGraph). first_refusal m links) (run_from_graph s adds ∙ sym first.graph)

      -- at a wire,
      pub stopped_wires : {r : LoadError} → first_refusal m₁ links ≡ Err r → first_refusal (empty_graph release) (build_of v) ≡ Err r
      unfolding build_of
      stopped_wires h = on ∙ h

      -- or not
      pub built_wires : {m₂ : MultiPortGraph} → Built m₁ links m₂ → Built (empty_graph release) (build_of v) m₂
      unfolding build_of
      built_wires second =
          record {
            told = on ∙ second.told;
            graph = second.graph ∙ (ap (λ (x : MultiPortGraph). graph_after x links) first.graph ∙ sym (after_append (empty_graph release) adds links));
            kept = second.kept;
          }

-- The load.

module _ (release : Release) (bytes : List ℕ) where
  pub load_unlaid : {r : LoadError} → layout_answer bytes ≡ Err r → load_answer release bytes ≡ Err r
  unfolding layout_answer load_answer_under
  load_unlaid {r} e = go (is_whole bytes) (is_laid bytes) e
    where
      go : (w l : Bool) → cond w (cond l (Ok (tt {0})) (Err BadLayout)) (Err BadSums) ≡ Err r →
          cond w (cond l (first_refusal (empty_graph release) (build_of (unbytes bytes))) (Err BadLayout)) (Err BadSums) ≡ Err r
      go true true e = absurd (true_not_false refl (ap is_ok e))
      go true false e = e
      go false l e = e

  -- a refused load gives the empty graph
  pub load_refused : {r : LoadError} → load_answer release bytes ≡ Err r → (f : FileLoaded) → f ≡ record { graph = empty_graph release; answer = Err r } →
      (f ≡ record { graph = load_graph release bytes; answer = load_answer release bytes }) × MultiWf f.graph
  unfolding load_graph_under
  load_refused {r} e f g =
      let k : empty_graph release ≡ load_graph release bytes = ap (λ (a : Result (Unit {0}) LoadError). graph_if release a (run release (build_of (unbytes bytes))).graph) (sym e) in
      (g ∙ (λ j. record { graph = k j; answer = sym e j }), subst MultiWf (sym (ap (λ (x : FileLoaded). x.graph) g)) (empty_kept release))

  module _ {blocks wires : ℕ} (l : Laid bytes blocks wires) where
    -- the load of a laid file is its build
    pub load_is_build : load_answer release bytes ≡ first_refusal (empty_graph release) (build_of (unbytes bytes))
    unfolding load_answer_under
    load_is_build = let w = l.whole in let a = l.answer in rw (w, a) refl

    pub answer_is : (m : MultiPortGraph) (r : Result (Unit {0}) LoadError) →
        MatchResult r (λ _. Built (empty_graph release) (build_of (unbytes bytes)) m) (λ e. first_refusal (empty_graph release) (build_of (unbytes bytes)) ≡ Err e) → r ≡ load_answer release bytes
    answer_is m (Ok tt) b = sym (load_is_build ∙ b.told)
    answer_is m (Err e) h = sym (load_is_build ∙ h)

    pub load_done : {m m' : MultiPortGraph} → Built (empty_graph release) (build_of (unbytes bytes)) m → m' ≡ m →
        (◌≡◌ {A = FileLoaded} (record { graph = m'; answer = Ok tt }) (record { graph = load_graph release bytes; answer = load_answer release bytes })) × MultiWf m'
    unfolding load_graph_under
    load_done {m} {m'} b e =
        let t : load_answer release bytes ≡ Ok tt = load_is_build ∙ b.told in
        let g : m' ≡ (run release (build_of (unbytes bytes))).graph = e ∙ (b.graph ∙ sym (run_graph release (build_of (unbytes bytes)))) in
        let k : m' ≡ load_graph release bytes = g ∙ ap (λ (a : Result (Unit {0}) LoadError). graph_if release a (run release (build_of (unbytes bytes))).graph) (sym t) in
        ((λ j. record { graph = k j; answer = sym t j }), subst MultiWf (sym e) b.kept)

-- a file of right sums has whole units
pub whole_length : (bytes : List ℕ) → true ≡ is_whole bytes → length bytes % 512 ≡ 0
unfolding is_whole
whole_length bytes h = eqb-true (length bytes % 512) 0 (and_parts (eqb (length bytes % 512) 0) _ (sym h)).0
