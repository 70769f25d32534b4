-- Histories and loads under two limits.
use Rattle.std.proofs.Math.Path.{◌≡◌, refl, ap}
use Rattle.std.proofs.Common.{sym, ◌∙◌, subst, inr, arith}
use Rattle.std.specs.Prelude.{Bool, true, false, cond, ◌⊎◌, ◌↔◌, ℕ, ◌≤◌, Result, Ok, Err, Some, None}
use mathlib.Core.List.{List, [], ◌∷◌, ◌++◌, map, head-eq_of_cons-eq, tail-eq_of_cons-eq}
use Rattle.std.proofs.Math.Logic.{inl}
use Rattle.std.proofs.lemmas.Bool.{false_from_ne_true}
use Rattle.port_tables.specs.Limits.{Limits, present}
use Rattle.port_tables.specs.Entries.{port_entry}
use Rattle.port_tables.specs.Lists.{Member}
use Rattle.portgraph.specs.Lookups.{is_some, is_port, port_at}
use Rattle.portgraph.specs.Calls.{new_graph}
use Rattle.portgraph.specs.Model as model
use Rattle.portgraph.specs.Model.{Model, Slots, gone, live, Valid, slot_of, owner_of_who}
use Rattle.portgraph.specs.GoodSlots.{zero_is_not_one}
use Rattle.portgraph.specs.PlaceLaws.{port_of_place, gone_has_no_meta, entry_of_none}
use Rattle.port_tables.specs.declared.port_entry.PortEntry.TheVariants as port_variants
use Rattle.multi_tables.specs.EndAnswers.{refusal_numbers}
use Rattle.multiportgraph.specs.Graph.{empty_graph}
use Rattle.multiportgraph.specs.Reading.{is_hidden, is_split}
use Rattle.multiportgraph.specs.WellFormed.{Fine, MultiWf, Marked, copy_port, main_port_lem, copy_place}
use Rattle.multiportgraph.specs.declared.multiportgraph.MultiPortGraph.{MultiPortGraph}
use Rattle.port_tables.specs.declared.release.Release.{Release}
use Rattle.multi_tables.specs.declared.answers.Refusal.{Refusal}
use Rattle.multi_tables.specs.declared.answers.Refusal.TheVariants.{BadOffset, TooManyPorts, UnknownNode, HiddenNode, MovesTooShort, UnknownPort, HiddenPort, UnknownOffset, NoRoom, UnknownSecondPort, IncompatibleDirections, AlreadyLinked, InputWired}
use Rattle.theorems.specs.Book as book
use Rattle.theorems.specs.Book.{Call, AnswerOf, empty_book, book_answer}
use Rattle.theorems.specs.History.{Stepped, step_under, State, marks_named, ports_shown, next_under, run_from_under, run_under, numbers_of}
use Rattle.theorems.proofs.CallLaws.{empty_kept, step_kept}
use Rattle.theorems.specs.Conditions.{RefusedBy}
use Rattle.files.specs.View.{BlockPorts, RankWire, View}
use Rattle.files.specs.Layout.{unbytes}
use Rattle.files.specs.Loading.{add_of, link_of, build_of, after_call, first_refusal_under, is_whole, is_laid, graph_if, load_answer_under, load_graph_under}
use Rattle.files.specs.BuildLaws.{goes_or_stops, refused_not_loaded}
use Rattle.files.specs.declared.load.LoadError.{LoadError}
use Rattle.files.specs.declared.load.LoadError.TheVariants.{BadSums, BadLayout, Refused}
use Rattle.kits.specs.Kits.{Lower, Within, Past, FreeBeyond, answers_from, answers_under}
use Rattle.kits.specs.UnderLaws.{Longer, longer_still, same_length, past_longer, within_not_past}
use Rattle.kits.specs.StepLaws.{ten_of, StepExact, step_alike, step_longer, step_fits}

-- The number 10.

refusal_known : (r : Refusal) → refusal_numbers r ≡ 10 ∷ [] → r ≡ NoRoom
refusal_known BadOffset e = let h = head-eq_of_cons-eq e in absurd (omega arith)
refusal_known TooManyPorts e = let h = head-eq_of_cons-eq e in absurd (omega arith)
refusal_known UnknownNode e = let h = head-eq_of_cons-eq e in absurd (omega arith)
refusal_known HiddenNode e = let h = head-eq_of_cons-eq e in absurd (omega arith)
refusal_known MovesTooShort e = let h = head-eq_of_cons-eq e in absurd (omega arith)
refusal_known (UnknownPort p) e = let h = head-eq_of_cons-eq e in absurd (omega arith)
refusal_known (HiddenPort p) e = let h = head-eq_of_cons-eq e in absurd (omega arith)
refusal_known (UnknownOffset p) e = let h = head-eq_of_cons-eq e in absurd (omega arith)
refusal_known NoRoom e = refl
refusal_known (UnknownSecondPort p) e = let h = head-eq_of_cons-eq e in absurd (omega arith)
refusal_known (IncompatibleDirections p q d) e = let h = head-eq_of_cons-eq e in absurd (omega arith)
refusal_known (AlreadyLinked p) e = let h = head-eq_of_cons-eq e in absurd (omega arith)
refusal_known InputWired e = let h = head-eq_of_cons-eq e in absurd (omega arith)

-- an answer with the number 10 is that refusal
ten_known : (c : Call) (v : AnswerOf c) → numbers_of c v ≡ 10 ∷ [] → v ≡ ten_of c
ten_known (book.add_call i o) (Ok (n, p)) e = let h = head-eq_of_cons-eq e in absurd (omega arith)
ten_known (book.add_call i o) (Err r) e = ap Err (refusal_known r e)
ten_known (book.remove_call n) (Ok tt) e = let h = head-eq_of_cons-eq e in absurd (omega arith)
ten_known (book.remove_call n) (Err r) e = ap Err (refusal_known r e)
ten_known (book.set_call n i o room) (Ok x) e = let h = head-eq_of_cons-eq e in absurd (omega arith)
ten_known (book.set_call n i o room) (Err r) e = ap Err (refusal_known r e)
ten_known (book.link_call a b) (Ok (s, t)) e = let h = head-eq_of_cons-eq e in absurd (omega arith)
ten_known (book.link_call a b) (Err r) e = ap Err (refusal_known r e)
ten_known (book.link_clean_call a b) (Ok (s, t)) e = let h = head-eq_of_cons-eq e in absurd (omega arith)
ten_known (book.link_clean_call a b) (Err r) e = ap Err (refusal_known r e)
ten_known (book.link_sub_call p o q u) (Ok (s, t)) e = let h = head-eq_of_cons-eq e in absurd (omega arith)
ten_known (book.link_sub_call p o q u) (Err r) e = ap Err (refusal_known r e)
ten_known (book.cut_call p) (Ok (Some (s, x))) e = let h = head-eq_of_cons-eq e in absurd (omega arith)
ten_known (book.cut_call p) (Ok None) e = let h = head-eq_of_cons-eq e in absurd (omega arith)
ten_known (book.cut_call p) (Err r) e = ap Err (refusal_known r e)
ten_known (book.cut_sub_call p o) (Ok (Some (s, x))) e = let h = head-eq_of_cons-eq e in absurd (omega arith)
ten_known (book.cut_sub_call p o) (Ok None) e = let h = head-eq_of_cons-eq e in absurd (omega arith)
ten_known (book.cut_sub_call p o) (Err r) e = ap Err (refusal_known r e)
ten_known (book.tidy_call p) (Ok tt) e = let h = head-eq_of_cons-eq e in absurd (omega arith)
ten_known (book.tidy_call p) (Err r) e = ap Err (refusal_known r e)

ten_numbers : (c : Call) → numbers_of c (ten_of c) ≡ 10 ∷ []
ten_numbers (book.add_call i o) = refl
ten_numbers (book.remove_call n) = refl
ten_numbers (book.set_call n i o room) = refl
ten_numbers (book.link_call a b) = refl
ten_numbers (book.link_clean_call a b) = refl
ten_numbers (book.link_sub_call p o q r) = refl
ten_numbers (book.cut_call p) = refl
ten_numbers (book.cut_sub_call p o) = refl
ten_numbers (book.tidy_call p) = refl

-- Histories.

-- the state after a call, by what the call gave
abbrev after : State → (c : Call) → Stepped c → State
after s c v = record { graph = v.graph; book = book_answer s.book c v.answer (marks_named s.graph c) (ports_shown v.graph c) }

module _ {L K : Limits} (low : Lower L K) where
  -- equal answers, equal graphs and books
  same_answers : (calls : List Call) (s : State) → answers_from L s.graph calls ≡ answers_from K s.graph calls → run_from_under L s calls ≡ run_from_under K s calls
  unfolding answers_from run_from_under
  same_answers [] s e = refl
  same_answers (c ∷ l) s e = go (same_answers l) (step_under L s.graph c) (step_under K s.graph c) (step_alike low s.graph c) e
    where
      go : ((t : State) → answers_from L t.graph l ≡ answers_from K t.graph l → run_from_under L t l ≡ run_from_under K t l) →
          (v w : Stepped c) → StepExact low s.graph v w →
          ◌≡◌ {A = List (List ℕ)} (numbers_of c v.answer ∷ answers_from L v.graph l) (numbers_of c w.answer ∷ answers_from K w.graph l) →
          run_from_under L (after s c v) l ≡ run_from_under K (after s c w) l
      go rest v w (inl q) x =
          rest (after s c v) (tail-eq_of_cons-eq x ∙ ap (λ (u : Stepped c). answers_from K u.graph l) (sym q)) ∙ ap (λ (u : Stepped c). run_from_under K (after s c u) l) q
      go rest v w (inr q) x =
          absurd (q.1 (ten_known c w.answer (sym (head-eq_of_cons-eq x) ∙ ap (λ (u : Stepped c). numbers_of c u.answer) q.0 ∙ ten_numbers c)))

  pub same_answers_same_state : (release : Release) (calls : List Call) → answers_under L release calls ≡ answers_under K release calls → run_under L release calls ≡ run_under K release calls
  unfolding answers_under run_under
  same_answers_same_state release calls = same_answers calls (record { graph = empty_graph release; book = empty_book })

  -- where the lower limits never answer 10, the answers are equal
  ten_decides : (calls : List Call) (m : MultiPortGraph) → (Member (10 ∷ []) (answers_from L m calls) → ⊥) → answers_from L m calls ≡ answers_from K m calls
  unfolding answers_from
  ten_decides [] m h = refl
  ten_decides (c ∷ l) m h = go (ten_decides l) (step_under L m c) (step_under K m c) (step_alike low m c) h
    where
      go : ((n : MultiPortGraph) → (Member (10 ∷ []) (answers_from L n l) → ⊥) → answers_from L n l ≡ answers_from K n l) →
          (v w : Stepped c) → StepExact low m v w → (Member (10 ∷ []) (numbers_of c v.answer ∷ answers_from L v.graph l) → ⊥) →
          ◌≡◌ {A = List (List ℕ)} (numbers_of c v.answer ∷ answers_from L v.graph l) (numbers_of c w.answer ∷ answers_from K w.graph l)
      go rest v w (inl q) x =
          ap (λ (u : List (List ℕ)). numbers_of c v.answer ∷ u) (rest v.graph (λ i. x (inr i)))
          ∙ ap (λ (u : Stepped c). numbers_of c u.answer ∷ answers_from K u.graph l) q
      go rest v w (inr q) x = absurd (x (inl (sym (ap (λ (u : Stepped c). numbers_of c u.answer) q.0 ∙ ten_numbers c))))

  pub same_without_ten : (release : Release) (calls : List Call) → (Member (10 ∷ []) (answers_under L release calls) → ⊥) → answers_under L release calls ≡ answers_under K release calls
  unfolding answers_under
  same_without_ten release calls = ten_decides calls (empty_graph release)

-- No history passes its limits, and none shortens a table.

empty_fits : (K : Limits) (release : Release) → Within K (empty_graph release).graph
unfolding empty_graph new_graph
empty_fits K release = record { nodes = omega arith; ports = omega arith }

run_from_fits : (K : Limits) (calls : List Call) (s : State) → Within K s.graph.graph → Within K (run_from_under K s calls).graph.graph
unfolding run_from_under
run_from_fits K [] s w = w
run_from_fits K (c ∷ l) s w = run_from_fits K l (next_under K s c) (step_fits K s.graph w c)

run_fits : (K : Limits) (release : Release) (calls : List Call) → Within K (run_under K release calls).graph.graph
unfolding run_under
run_fits K release calls = run_from_fits K calls (record { graph = empty_graph release; book = empty_book }) (empty_fits K release)

run_longer : (K : Limits) (calls : List Call) (s : State) → Longer s.graph.graph (run_from_under K s calls).graph.graph
unfolding run_from_under
run_longer K [] s = same_length s.graph.graph
run_longer K (c ∷ l) s = longer_still (step_longer K s.graph c) (run_longer K l (next_under K s c))

-- Every history under lower limits leaves a graph of these calls.

kept_from : {L : Limits} (low : Lower L present) (calls : List Call) (s : State) → MultiWf s.graph → MultiWf (run_from_under L s calls).graph
unfolding run_from_under
kept_from low [] s w = w
kept_from {L} low (c ∷ l) s w =
    kept_from low l (next_under L s c) (go (step_under L s.graph c) (step_under present s.graph c) (step_alike low s.graph c) (step_kept s.graph c w))
  where
    go : (v u : Stepped c) → StepExact low s.graph v u → MultiWf u.graph → MultiWf v.graph
    go v u (inl q) k = subst (λ (x : Stepped c). MultiWf x.graph) (sym q) k
    go v u (inr q) k = subst (λ (x : Stepped c). MultiWf x.graph) (sym q.0) w

kept_under : {L : Limits} → Lower L present → (release : Release) (calls : List Call) → MultiWf (run_under L release calls).graph
unfolding run_under
kept_under low release calls = kept_from low calls (record { graph = empty_graph release; book = empty_book }) (empty_kept release)

-- The slots beyond limits that hold the used lengths are free.

module _ {L : Limits} {m : MultiPortGraph} {M : Model} (f : Fine m M) (w : Within L m.graph) where
  gone_beyond : (n : ℕ) → L.nodes ≤ n → M.node n ≡ gone
  gone_beyond n h = go (M.node n) refl
    where
      go : (v : Slots) → M.node n ≡ v → v ≡ gone
      go gone e = refl
      go (live k) e =
          let u = f.good.node_used n k e in
          let l = f.holds.node_len in
          let i = w.nodes in
          absurd (omega arith)

  port_beyond : (p : ℕ) → L.ports ≤ p → port_at m.graph p ≡ port_variants.Free
  port_beyond p h =
      let l = f.holds.port_len in
      let i = w.ports in
      ap port_entry (f.holds.owners p ∙ ap (λ (u : model.Who). owner_of_who M.node u p) (f.good.unused_beyond p (omega arith))) ∙ entry_of_none

  -- a slot with a port is not beyond
  no_port_beyond : (x : model.InnerPlace) → Valid M.node x → L.ports ≤ slot_of M.node x → ⊥
  no_port_beyond x v h = let a = port_of_place f.good f.holds x v in let b = port_beyond (slot_of M.node x) h in zero_is_not_one (cc)

  free_beyond : FreeBeyond L m
  free_beyond =
      record {
        nodes = λ n h. ap is_some (gone_has_no_meta f.good f.holds n (gone_beyond n h));
        ports = λ p h. ap is_port (port_beyond p h);
        hidden = λ n h. false_from_ne_true (is_hidden m n) (λ e. let c = f.copy n e in let g = gone_beyond n h in let k = c.here in zero_is_not_one (cc));
        split = λ p h. false_from_ne_true (is_split m p) (λ e. unmarked p h (f.only_marked p e));
      }
    where
      unmarked : (p : ℕ) → L.ports ≤ p → Marked m M p → ⊥
      unmarked p h (copy_port c i e) =
          no_port_beyond (copy_place m c) (f.good.join_valid (copy_place m c) (f.copy c i).main (f.copy c i).joined) (subst (λ (q : ℕ). L.ports ≤ q) (sym e) h)
      unmarked p h (main_port_lem c x i j e) =
          no_port_beyond x (f.good.join_valid x (copy_place m c) (f.good.join_back (copy_place m c) x j)) (subst (λ (q : ℕ). L.ports ≤ q) (sym e) h)

-- Builds: lists of calls that a refusal with 10 stops, as an add's and a link's does.

abbrev Stops : Call → Type 0
Stops c = (rest : Result (Unit {0}) LoadError) → after_call c (ten_of c) rest ≡ Err (Refused NoRoom)

abbrev Building : List Call → Type 0
Building [] = Unit {0}
Building (c ∷ l) = Stops c × Building l

building_after : (l k : List Call) → Building l → Building k → Building (l ++ k)
building_after [] k a b = b
building_after (c ∷ l) k a b = (a.0, building_after l k a.1 b)

adds_build : (bs : List BlockPorts) → Building (map add_of bs)
adds_build [] = tt
adds_build (b ∷ l) = ((λ rest. refl), adds_build l)

links_build : (bs : List BlockPorts) (ws : List RankWire) → Building (map (link_of bs) ws)
links_build bs [] = tt
links_build bs (w ∷ l) = ((λ rest. refl), links_build bs l)

build_builds : (v : View) → Building (build_of v)
unfolding build_of
build_builds v = building_after (map add_of v.blocks) (map (link_of v.blocks) v.wires) (adds_build v.blocks) (links_build v.blocks v.wires)

module _ {L K : Limits} (low : Lower L K) where
  -- a build: the same first refusal, and the same state where there is none; or 10, and the higher limits build past the lower ones
  abbrev BuildExact : State → List Call → Type 0
  BuildExact s l =
      ((first_refusal_under L s.graph l ≡ first_refusal_under K s.graph l) × (first_refusal_under L s.graph l ≡ Ok tt → run_from_under L s l ≡ run_from_under K s l))
      ⊎ ((first_refusal_under L s.graph l ≡ Err (Refused NoRoom)) × Past L (run_from_under K s l).graph.graph)

  build_exact : (l : List Call) → Building l → (s : State) → BuildExact s l
  unfolding first_refusal_under run_from_under
  build_exact [] b s = inl (refl, λ e. refl)
  build_exact (c ∷ l) b s = go (build_exact l b.1) (step_under L s.graph c) (step_under K s.graph c) (step_alike low s.graph c)
    where
      Says : Stepped c → Stepped c → Type 0
      Says v w =
          ((after_call c v.answer (first_refusal_under L v.graph l) ≡ after_call c w.answer (first_refusal_under K w.graph l))
          × (after_call c v.answer (first_refusal_under L v.graph l) ≡ Ok tt → run_from_under L (after s c v) l ≡ run_from_under K (after s c w) l))
          ⊎ ((after_call c v.answer (first_refusal_under L v.graph l) ≡ Err (Refused NoRoom)) × Past L (run_from_under K (after s c w) l).graph.graph)

      on : (v : Stepped c) → BuildExact (after s c v) l → ((rest : Result (Unit {0}) LoadError) → after_call c v.answer rest ≡ rest) → Says v v
      on v (inl x) g = inl (g _ ∙ x.0 ∙ sym (g _), λ e. x.1 (sym (g _) ∙ e))
      on v (inr x) g = inr (g _ ∙ x.0, x.1)

      same : ((t : State) → BuildExact t l) → (v : Stepped c) → Says v v
      same rest v = by (goes_or_stops c v.answer)
        where
          by : ((more : Result (Unit {0}) LoadError) → after_call c v.answer more ≡ more) ⊎ ((r : Refusal) × RefusedBy c v.answer r × ((more : Result (Unit {0}) LoadError) → after_call c v.answer more ≡ Err (Refused r))) → Says v v
          by (inl g) = on v (rest (after s c v)) g
          by (inr g) = inl (g.2 _ ∙ sym (g.2 _), λ e. absurd (refused_not_loaded g.0 (sym (g.2 _) ∙ e)))

      go : ((t : State) → BuildExact t l) → (v w : Stepped c) → StepExact low s.graph v w → Says v w
      go rest v w (inl q) = subst (Says v) q (same rest v)
      go rest v w (inr q) =
          inr (ap (λ (u : Stepped c). after_call c u.answer (first_refusal_under L u.graph l)) q.0 ∙ b.0 _, past_longer (run_longer K l (after s c w)) q.2)

  -- a load: the same, or 10 and the empty graph; under the higher limits it then loads past the lower ones, where it loads
  abbrev LoadExact : Release → List ℕ → Type 0
  LoadExact release bytes =
      ((load_answer_under L release bytes ≡ load_answer_under K release bytes) × (load_graph_under L release bytes ≡ load_graph_under K release bytes))
      ⊎ ((load_answer_under L release bytes ≡ Err (Refused NoRoom)) × (load_graph_under L release bytes ≡ empty_graph release) × (load_answer_under K release bytes ≡ Ok tt → Past L (load_graph_under K release bytes).graph))

  load_exact : (release : Release) (bytes : List ℕ) → LoadExact release bytes
  unfolding load_answer_under load_graph_under run_under
  load_exact release bytes = go (is_whole bytes) (is_laid bytes) (build_exact (build_of (unbytes bytes)) (build_builds (unbytes bytes)) start)
    where
      start : State
      start = record { graph = empty_graph release; book = empty_book }

      answer : Limits → Bool → Bool → Result (Unit {0}) LoadError
      answer J x y = cond x (cond y (first_refusal_under J (empty_graph release) (build_of (unbytes bytes))) (Err BadLayout)) (Err BadSums)

      graph : Limits → Bool → Bool → MultiPortGraph
      graph J x y = graph_if release (answer J x y) (run_from_under J start (build_of (unbytes bytes))).graph

      same_graph : (v : Result (Unit {0}) LoadError) (m n : MultiPortGraph) → (v ≡ Ok tt → m ≡ n) → graph_if release v m ≡ graph_if release v n
      same_graph (Ok _) m n e = e refl
      same_graph (Err _) m n e = refl

      go : (x y : Bool) → BuildExact start (build_of (unbytes bytes)) →
          ((answer L x y ≡ answer K x y) × (graph L x y ≡ graph K x y))
          ⊎ ((answer L x y ≡ Err (Refused NoRoom)) × (graph L x y ≡ empty_graph release) × (answer K x y ≡ Ok tt → Past L (graph K x y).graph))
      go false y e = inl (refl, refl)
      go true false e = inl (refl, refl)
      go true true (inl e) =
          inl (
            e.0,
            same_graph (answer L true true) _ _ (λ q. ap (λ (t : State). t.graph) (e.1 q))
                ∙ ap (λ (v : Result (Unit {0}) LoadError). graph_if release v (run_from_under K start (build_of (unbytes bytes))).graph) e.0,
          )
      go true true (inr e) =
          inr (
            e.0,
            ap (λ (v : Result (Unit {0}) LoadError). graph_if release v (run_from_under L start (build_of (unbytes bytes))).graph) e.0,
            λ q. subst (λ (v : Result (Unit {0}) LoadError). Past L (graph_if release v (run_from_under K start (build_of (unbytes bytes))).graph).graph) (sym q) e.1,
          )

-- What a load leaves under limits is within them, and is a graph of these calls.

load_fits : (K : Limits) (release : Release) (bytes : List ℕ) → Within K (load_graph_under K release bytes).graph
unfolding load_graph_under
load_fits K release bytes = go (load_answer_under K release bytes)
  where
    go : (v : Result (Unit {0}) LoadError) → Within K (graph_if release v (run_under K release (build_of (unbytes bytes))).graph).graph
    go (Ok _) = run_fits K release (build_of (unbytes bytes))
    go (Err _) = empty_fits K release

load_kept : {L : Limits} → Lower L present → (release : Release) (bytes : List ℕ) → MultiWf (load_graph_under L release bytes)
unfolding load_graph_under
load_kept {L} low release bytes = go (load_answer_under L release bytes)
  where
    go : (v : Result (Unit {0}) LoadError) → MultiWf (graph_if release v (run_under L release (build_of (unbytes bytes))).graph)
    go (Ok _) = kept_under low release (build_of (unbytes bytes))
    go (Err _) = empty_kept release

module _ {L K : Limits} (low : Lower L K) (release : Release) (bytes : List ℕ) where
  -- what loads under the lower limits loads to the same graph under the higher ones
  pub loads_also : load_answer_under L release bytes ≡ Ok tt → (load_answer_under K release bytes ≡ Ok tt) × (load_graph_under K release bytes ≡ load_graph_under L release bytes)
  loads_also e = go (load_exact low release bytes)
    where
      go : LoadExact low release bytes → (load_answer_under K release bytes ≡ Ok tt) × (load_graph_under K release bytes ≡ load_graph_under L release bytes)
      go (inl q) = (sym q.0 ∙ e, sym q.1)
      go (inr q) = absurd (refused_not_loaded NoRoom (sym q.0 ∙ e))

  -- what loads under the higher limits loads to the same graph under the lower ones, or is refused whole with 10
  pub refuses_whole : load_answer_under K release bytes ≡ Ok tt →
      ((load_answer_under L release bytes ≡ Ok tt) × (load_graph_under L release bytes ≡ load_graph_under K release bytes))
      ⊎ ((load_answer_under L release bytes ≡ Err (Refused NoRoom)) × (load_graph_under L release bytes ≡ empty_graph release))
  refuses_whole e = go (load_exact low release bytes)
    where
      go : LoadExact low release bytes →
          ((load_answer_under L release bytes ≡ Ok tt) × (load_graph_under L release bytes ≡ load_graph_under K release bytes)) ⊎ ((load_answer_under L release bytes ≡ Err (Refused NoRoom)) × (load_graph_under L release bytes ≡ empty_graph release))
      go (inl q) = inl (q.0 ∙ e, q.1)
      go (inr q) = inr (q.0, q.1)

  -- and it is refused exactly if it is past the lower limits
  pub refuses_larger : load_answer_under K release bytes ≡ Ok tt → (load_answer_under L release bytes ≡ Err (Refused NoRoom)) ↔ Past L (load_graph_under K release bytes).graph
  refuses_larger e = go (load_exact low release bytes)
    where
      go : LoadExact low release bytes → (load_answer_under L release bytes ≡ Err (Refused NoRoom)) ↔ Past L (load_graph_under K release bytes).graph
      go (inl q) = (
        (λ r. absurd (refused_not_loaded NoRoom (sym r ∙ (q.0 ∙ e)))),
        (λ p. absurd (within_not_past (subst (λ (m : MultiPortGraph). Within L m.graph) q.1 (load_fits L release bytes)) p)),
      )
      go (inr q) = ((λ r. q.2 e), (λ p. q.0))

  -- the answer is the same, or 10
  pub answers_or_ten : (load_answer_under L release bytes ≡ load_answer_under K release bytes) ⊎ (load_answer_under L release bytes ≡ Err (Refused NoRoom))
  answers_or_ten = go (load_exact low release bytes)
    where
      go : LoadExact low release bytes → (load_answer_under L release bytes ≡ load_answer_under K release bytes) ⊎ (load_answer_under L release bytes ≡ Err (Refused NoRoom))
      go (inl q) = inl q.0
      go (inr q) = inr q.0

-- limits below these: what a load leaves is within them, and every slot beyond them is free
pub load_within : {L : Limits} → Lower L present → (release : Release) (bytes : List ℕ) → Within L (load_graph_under L release bytes).graph × FreeBeyond L (load_graph_under L release bytes)
load_within {L} low release bytes = (load_fits L release bytes, free_beyond (load_kept low release bytes).fine (load_fits L release bytes))

pub run_within : {L : Limits} → Lower L present → (release : Release) (calls : List Call) →
    Within L (run_under L release calls).graph.graph × FreeBeyond L (run_under L release calls).graph
run_within {L} low release calls = (run_fits L release calls, free_beyond (kept_under low release calls).fine (run_fits L release calls))
