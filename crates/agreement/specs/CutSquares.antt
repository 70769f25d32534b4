-- The squares of the two cuts: at an end, and of every wire at a port.
use Rattle.std.specs.Prelude.{◌≡◌, refl, true, not, [], map, ◌⊎◌, ℕ, ◌≤◌, eqb, ltb, Option, Some, None, Result, Ok, Err}
use Rattle.std.proofs.Common.{sym, ◌∙◌, subst, inl, inr, arith, ltb-true, ltb-false, ne_eqb}
use Rattle.std.proofs.Math.Path.{ap}
use Rattle.std.proofs.Math.Bool.{Bool, false, cond}
use Rattle.std.proofs.Math.Logic.{⊎_elim}
use Rattle.portgraph.specs.Lookups.{port_link}
use Rattle.portgraph.specs.Calls.{unlink_port}
use Rattle.portgraph.specs.Meaning.{unlink_model, remove_model, at_node, same_place}
use Rattle.portgraph.specs.Sums.{drop_kept, same_place_distinct, upd_other}
use Rattle.portgraph.specs.Model as model
use Rattle.portgraph.specs.Model.{Model, nowhere, to, gone, slot_of}
use Rattle.portgraph.specs.PlaceLaws.{port_link_to, port_link_none}
use Rattle.portgraph.specs.declared.portgraph.PortGraph.{PortGraph}
use Rattle.multiportgraph.specs.WellFormed.{copy_place, Fine, Seen, outer, IsEnd, SameBlocks, Wiring}
use Rattle.multiportgraph.specs.Ends.{Hangs, EndOf, split_has_copy, unsplit_is_end, ends_join_ends}
use Rattle.multiportgraph.specs.HiddenStays.{true_not_false, hidden_below, split_below, same_slot}
use Rattle.multiportgraph.specs.LinkCutLaws.{end_is, end_is_here, end_is_same, cut_end_lem}
use Rattle.multiportgraph.specs.CopyLaws.{CopyGone, copy_goes, unsplit_split, same_test, hidden_other}
use Rattle.multiportgraph.proofs.CutLaws.{cut_cases}
use Rattle.multiportgraph.specs.Cases.{cut_refused, cut_seen}
use Rattle.multiportgraph.specs.Calls.{cut_port, cut_sub, cut_plain}
use Rattle.multiportgraph.specs.Graph.{with_graph}
use Rattle.multiportgraph.specs.HiddenNodes.{remove_copy, unsplit}
use Rattle.port_tables.specs.Places.{Place, Spot, spot, at_spot, at_end, without}
use Rattle.multiportgraph.specs.Reading.{port_place, is_hidden, is_split, copy_side, end_at, standing, far_subport}
use Rattle.multi_tables.specs.Forms.{End, inner, lacking, subport#}
use Rattle.multiportgraph.specs.SetLaws.{SameSplit}
use Rattle.multiportgraph.specs.declared.multiportgraph.MultiPortGraph.{MultiPortGraph}
use Rattle.multi_tables.specs.declared.answers.PortPlace.{PortPlace}
use Rattle.multiportgraph.specs.declared.multiportgraph.PortUnlinked.{PortUnlinked}
use Rattle.multi_tables.specs.declared.answers.Refusal.{Refusal}
use Rattle.theorems.specs.Book as book
use Rattle.theorems.specs.Book.{spot_of, read_by, book_cut}
use Rattle.theorems.proofs.AnswerWires.{place_at}
use Rattle.theorems.specs.Conditions.{SubRefused, sub_offset, sub_dead, sub_lacks, cut_dead}
use Rattle.theorems.proofs.CutCall.{cut_refuses}
use Rattle.theorems.proofs.CutSubCall.{cut_sub_refuses, cut_sub_there}
use Rattle.theorems.specs.PortCases.{seen_block_port, is_lacking, end_is_lem}
use Rattle.theorems.proofs.WireRule.{rel_cut}
use Rattle.sketches.specs.Plan.{Plan, is_there, spot_named, far_from, offset_read, subports_of, set_subports, with_wires}
use Rattle.sketches.specs.PlanCalls as sketch
use Rattle.sketches.specs.PlanCalls.{Sketched, leaves, is_refused, port_found}
use Rattle.sketches.specs.PlanNumbers.{reason_number}
use Rattle.sketches.specs.declared.sketch.SketchPort.{SketchPort}
use Rattle.sketches.specs.declared.sketch.Reason.TheVariants as reason
use Rattle.agreement.specs.Meaning.{Both, PortMeans, means_cut, means_cut_sub}
use Rattle.agreement.specs.Agreement.{StandsAt, CutAlike, EndAlike}
use Rattle.agreement.specs.Alike.{Alike, subports_at, wire_renamed}
use Rattle.agreement.specs.Square.{Square, squared, as_both}
use Rattle.agreement.specs.Names.{naming, SameTest, same_spot, without_renamed, far_renamed, far_renamed_lem}
use Rattle.agreement.specs.Standing.{PortHere, PortGone, here#, port_meant, wires_named, is_split_lem}
use Rattle.agreement.specs.PlanLaws.{set_release, set_adds, set_blocks, set_wires}
use Rattle.agreement.specs.KeptSplits.{split_kept, same_subports, copies_apart}
use Rattle.agreement.specs.Carry.{alike_after, subports_set, set_there}
use Rattle.agreement.specs.Asked.{same_tests, asked_alike, far_stands, far_of_end, far_of_free, whole_here, whole_only}
use Rattle.sketches.specs.declared.sketch.Reason.{Reason}
use Rattle.sketches.specs.declared.sketch.SketchEnd.{SketchEnd}
use Rattle.port_tables.specs.declared.index.PortIndex.{PortIndex}
use Rattle.portgraph.specs.declared.portgraph.NoSuchPort.{NoSuchPort}
use Rattle.multi_tables.specs.declared.answers.SubportIndex.{SubportIndex}
use Rattle.std.proofs.lemmas.Bool.{false_from_ne_true}
use Rattle.multiportgraph.specs.LowerSteps.{link_cut}
use Rattle.agreement.specs.LinkSteps.{spot_here}
use Rattle.std.specs.Cmp.{both_ways}

-- Cutting an end keeps every port as split as it was.

module _ {m : MultiPortGraph} {M : Model} (f : Fine m M) (z : model.InnerPlace) (ez : IsEnd m M z) where
  pub cut_keeps_splits : (y : model.InnerPlace) → Seen m M y → SameSplit m M (with_graph m (unlink_port m.graph (slot_of M.node z)).graph) (unlink_model M z) y
  cut_keeps_splits y s =
      split_kept f (cut_end_lem f z ez).fine y s
      (λ h. (
        hidden_below m _ h.copy ∙ h.is_copy,
        refl,
        drop_kept (same_place z) M.join y (copy_place m h.copy) h.back
            (same_place_distinct z y
            (λ e. true_not_false (f.main_marked h.copy y h.is_copy h.from)
            (ap (λ (v : model.InnerPlace). is_split m (slot_of M.node v)) (sym e) ∙ ez.unsplit (ap (λ (v : model.InnerPlace). is_hidden m v.node) e ∙ s.1))))
            (same_place_distinct z (copy_place m h.copy)
            (λ e. ez.subport (ap (λ (v : model.InnerPlace). is_hidden m v.node) e ∙ h.is_copy)
            (ap (λ (v : model.InnerPlace). v.side) e ∙ ap (λ (v : model.InnerPlace). copy_side m v.node) (sym e)))),
      ))
      (λ e. split_below m _ (slot_of M.node y) ∙ e)

-- At an end.

module _ {b : Both} {M : Model} (a : Alike b M) (p o : ℕ) (x : SketchPort) where
  abbrev m : MultiPortGraph
  m = b.kit.graph

  abbrev entry : Place → Bool
  entry = at_end (spot_of b.kit.book.blocks p) (read_by (is_split m p) o)

  abbrev plan_cut : Plan
  plan_cut = with_wires b.plan (without (at_end (spot_named x) (offset_read b.plan x o)) b.plan.wires)

  -- what is left by a cut that answers w, where the sketch answers u
  abbrev Left : PortUnlinked → Result (Option SketchEnd) Reason → Type 0
  Left w u =
      (M' : Model) × Alike
      (record { kit = record { graph = w.graph; book = book_cut b.kit.book entry w.answer }; names = b.names; plan = cond (is_refused u) b.plan plan_cut }) M'

  left_refused : (r : Refusal) (u : Result (Option SketchEnd) Reason) → EndAlike b.names (Err r) u → Left (cut_refused m r) u
  left_refused r (Ok (Some y)) e = absurd e
  left_refused r (Ok None) e = absurd e
  left_refused r (Err q) e = (M, a)

  module _ (h : PortHere b M p x) (q : ℕ) (e : EndOf m M (here# h) o q) where
    abbrev graph : MultiPortGraph
    graph = with_graph m (unlink_port m.graph q).graph

    abbrev model' : Model
    model' = unlink_model M e.end

    cut_is : end_is (outer m M e.end) ≡ entry
    cut_is =
        ap end_is e.is
        ∙ (ap (λ (s : ℕ). at_end (spot h.node x.side x.position) (read_by (is_split m s) o)) h.slot ∙ ap (λ (t : Spot). at_end t (read_by (is_split m p) o)) (sym (spot_here a h)))

    wires_left : plan_cut.wires ≡ map (wire_renamed b.names) (without entry b.kit.book.wires)
    wires_left =
        ap (without (at_end (spot_named x) (offset_read b.plan x o))) a.wires
        ∙ (sym (without_renamed b.names (at_end (spot h.node x.side x.position) (read_by (is_split m p) o)) (at_end (spot_named x) (offset_read b.plan x o)) (same_tests a h o) b.kit.book.wires (wires_named a))
        ∙ ap (λ (t : Spot). map (wire_renamed b.names) (without (at_end t (read_by (is_split m p) o)) b.kit.book.wires)) (sym (spot_here a h)))

    done : Alike (record { kit = record { graph = graph; book = book.with_wires b.kit.book (without entry b.kit.book.wires) }; names = b.names; plan = plan_cut }) model'
    done =
        let c = cut_end_lem a.rel.fine e.end e.is_end in
        subst (λ (s : ℕ). Alike (record { kit = record { graph = with_graph m (unlink_port m.graph s).graph; book = book.with_wires b.kit.book (without entry b.kit.book.wires) }; names = b.names; plan = plan_cut }) model') e.slot
        (alike_after a _ plan_cut (rel_cut a.rel c.fine c.blocks _ entry cut_is c.wires) c.blocks refl refl refl refl
        (λ y s k i. a.subports y s (naming y.node k) i refl ∙ sym (same_subports m M _ model' y (cut_keeps_splits a.rel.fine e.end e.is_end y s)))
        a.splits_there wires_left)

    left_done : (v : Result (Option PortIndex) NoSuchPort) (u : Result (Option SketchEnd) Reason) → EndAlike b.names (far_subport m v) u → Left (record { graph = graph; answer = far_subport m v }) u
    left_done (Ok (Some c)) (Ok (Some y)) l = (model', done)
    left_done (Ok (Some c)) (Ok None) l = absurd l
    left_done (Ok (Some c)) (Err r) l = absurd l
    left_done (Ok None) (Ok (Some y)) l = absurd l
    left_done (Ok None) (Ok None) l = (model', done)
    left_done (Ok None) (Err r) l = absurd l
    left_done (Err c) (Ok (Some y)) l = absurd l
    left_done (Err c) (Ok None) l = (model', done)
    left_done (Err c) (Err r) l = absurd l

  -- whatever is answered, alike
  abbrev LeftBy : PortUnlinked → Type 0
  LeftBy w = (u : Result (Option SketchEnd) Reason) → EndAlike b.names w.answer u → Left w u

  cut_left : PortMeans b p x → LeftBy (cut_sub m p o)
  cut_left means = start (ltb o 65535) refl (port_meant a p x means)
    where
      refused : (r : Refusal) → SubRefused m M p o r → LeftBy (cut_sub m p o)
      refused r k = subst LeftBy (sym (cut_sub_refuses a.rel.fine p o r k)) (left_refused r)

      ends : (h : PortHere b M p x) → o ≤ 65534 → (v : End) → end_at m p x.side o ≡ v → LeftBy (cut_sub m p o)
      ends h small lacking e = refused _ (sub_lacks small (here# h) (h.is_seen, h.slot) (is_lacking a.rel.fine p (here# h) o (h.is_seen, h.slot) e))
      ends h small (inner q) e =
          subst LeftBy (sym (cut_sub_there a.rel.fine p o (here# h) small (h.is_seen, h.slot) q e)) (left_done h q (end_is_lem a.rel.fine p (here# h) o q (h.is_seen, h.slot) e) (unlink_port m.graph q).answer)

      start : (t : Bool) → ltb o 65535 ≡ t → PortHere b M p x ⊎ PortGone b M p x → LeftBy (cut_sub m p o)
      start false e k = let l = ltb-false o 65535 e in refused _ (sub_offset (omega arith))
      start true e (inl h) = let l = ltb-true o 65535 e in ends h (omega arith) (end_at m p x.side o) refl
      start true e (inr g) = let l = ltb-true o 65535 e in refused _ (sub_dead (omega arith) g.0)

pub cut_sub_square : {b : Both} {M : Model} (p o : ℕ) (x : SketchPort) (means : PortMeans b p x) → Square b M (means_cut_sub p o x means)
unfolding sketch.cut_subport
cut_sub_square {b} {M} p o x means a room =
    let k = subst (λ (v : Result (Option (SubportIndex × PortPlace)) Refusal). EndAlike b.names v (sketch.subport_link b.plan x o)) (link_cut b.kit.graph p o) (asked_alike a p o x means) in
    squared (k, cut_left a p o x means (sketch.subport_link b.plan x o) k)

-- Every wire at a port.

-- the hidden node of a port goes: every other port is as split as it was
module _ {m : MultiPortGraph} {M : Model} (f : Fine m M) (x : model.InnerPlace) (h : Hangs m M x) where
  abbrev without# : MultiPortGraph
  without# = remove_copy m (slot_of M.node x) h.copy

  abbrev model_without : Model
  model_without = remove_model M h.copy (f.copy h.copy h.is_copy).meta

  pub copy_keeps_splits : (y : model.InnerPlace) → Seen m M y → (y ≡ x → ⊥) → SameSplit m M without# model_without y
  copy_keeps_splits y s away =
      split_kept f g.fine y s
      (λ k.
      let other : k.copy ≡ h.copy → ⊥ = copies_apart h k away in (
        hidden_other m (slot_of M.node x) h.copy k.copy other ∙ k.is_copy,
        upd_other M.node h.copy gone k.copy other,
        drop_kept (at_node h.copy) M.join y (copy_place m k.copy) k.back (ne_eqb y.node h.copy shown) (ne_eqb k.copy h.copy other),
      ))
      (λ e. false_from_ne_true _ (λ t. true_not_false (g.only_split (slot_of M.node y) (ap (is_split without#) (sym slot) ∙ t)) e))
    where
      g : CopyGone m M x without# model_without
      g = copy_goes f x h

      shown : y.node ≡ h.copy → ⊥
      shown e = true_not_false h.is_copy (ap (is_hidden m) (sym e) ∙ s.1)

      slot : slot_of model_without.node y ≡ slot_of M.node y
      slot = same_slot M model_without y (upd_other M.node h.copy gone y.node shown)

release_still : (m : MultiPortGraph) (p c : ℕ) → (remove_copy m p c).release ≡ m.release
unfolding remove_copy
release_still m p c = refl

cut_link : (g : PortGraph) (p : ℕ) → (unlink_port g p).answer ≡ port_link g p
unfolding unlink_port
cut_link g p = refl

-- an unsplit port is one end
whole_test : {m : MultiPortGraph} {M : Model} (f : Fine m M) (x : model.InnerPlace) (s : Seen m M x) → is_split m (slot_of M.node x) ≡ false →
    (z : model.InnerPlace) → IsEnd m M z → end_is (outer m M x) (outer m M z) ≡ at_spot (spot x.node x.side x.pos) (outer m M z)
whole_test {m} {M} f x s n z ez =
    both_ways (end_is (outer m M x) (outer m M z)) (at_spot (spot x.node x.side x.pos) (outer m M z))
    (λ t. ap (at_spot (spot x.node x.side x.pos)) (end_is_same (outer m M x) (outer m M z) t) ∙ whole_here f x s)
    (λ t. ap (λ (v : model.InnerPlace). end_is (outer m M x) (outer m M v)) (whole_only f x n z ez t) ∙ end_is_here (outer m M x))

module _ {b : Both} {M : Model} (a : Alike b M) (p : ℕ) (x : SketchPort) where
  abbrev kit_graph : MultiPortGraph
  kit_graph = b.kit.graph

  abbrev spot_entry : Place → Bool
  spot_entry = at_spot (spot_of b.kit.book.blocks p)

  abbrev rest : Plan
  rest = with_wires b.plan (without (at_spot (spot_named x)) b.plan.wires)

  abbrev WholeLeft : PortUnlinked → Sketched (Result (Option SketchPort) Reason) → Type 0
  WholeLeft w v =
      CutAlike b.names w.answer v.answer
      × ((M' : Model) × Alike (record { kit = record { graph = w.graph; book = book_cut b.kit.book spot_entry w.answer }; names = b.names; plan = v.plan }) M')

  module _ (h : PortHere b M p x) where
    spot_tests : SameTest b.names (at_spot (spot h.node x.side x.position)) (at_spot (spot_named x))
    spot_tests = same_spot b.names a.apart h.node x.block h.named x.side x.position

    rest_wires : (set_subports rest x 0).wires ≡ map (wire_renamed b.names) (without spot_entry b.kit.book.wires)
    rest_wires =
        set_wires rest x 0
        ∙ (ap (without (at_spot (spot_named x))) a.wires
        ∙ (sym (without_renamed b.names (at_spot (spot h.node x.side x.position)) (at_spot (spot_named x)) spot_tests b.kit.book.wires (wires_named a))
        ∙ ap (λ (t : Spot). map (wire_renamed b.names) (without (at_spot t) b.kit.book.wires)) (sym (spot_here a h))))

    -- the graph that is left, by what happened to blocks, wires and subports
    whole_done : (g : MultiPortGraph) (M' : Model) → Fine g M' → SameBlocks kit_graph M g M' → Wiring kit_graph M g M' (at_spot (spot h.node x.side x.position)) [] →
        g.release ≡ kit_graph.release → subports_at g M' (here# h) ≡ 0 →
        ((y : model.InnerPlace) → Seen kit_graph M y → (y ≡ here# h → ⊥) → subports_at g M' y ≡ subports_at kit_graph M y) →
        Alike (record { kit = record { graph = g; book = book.with_wires b.kit.book (without spot_entry b.kit.book.wires) }; names = b.names; plan = set_subports rest x 0 }) M'
    whole_done g M' f' blocks wires release now others =
        alike_after a _ (set_subports rest x 0) (rel_cut a.rel f' blocks _ spot_entry (ap at_spot (sym (spot_here a h))) wires) blocks
        (set_release rest x 0) release (set_adds rest x 0) (set_blocks rest x 0) (subports_set a h rest refl 0 g M' now others) (set_there a h rest refl 0) rest_wires

    split_left : is_split kit_graph p ≡ true →
        WholeLeft (record { graph = unsplit kit_graph p; answer = Ok (Some (subport# p 0, standing kit_graph (subport# p 0))) }) (leaves (set_subports rest x 0) (Ok (Some x)))
    split_left t =
        let f = a.rel.fine in
        let e : is_split kit_graph (slot_of M.node (here# h)) ≡ true = ap (is_split kit_graph) h.slot ∙ t in
        let k = split_has_copy f (here# h) h.is_seen e in
        let g = copy_goes f (here# h) k in
        let M' = remove_model M k.copy (f.copy k.copy k.is_copy).meta in
        let is : unsplit kit_graph p ≡ remove_copy kit_graph (slot_of M.node (here# h)) k.copy =
        ap (unsplit kit_graph) (sym h.slot) ∙ (unsplit_split kit_graph (slot_of M.node (here# h)) e ∙ ap (remove_copy kit_graph (slot_of M.node (here# h))) k.copy_is) in (
          subst (λ (v : PortPlace). StandsAt b.names v x) (sym (ap port_place (place_at f (here# h) h.is_seen p 0 h.slot))) (record { named = h.named; side = refl; position = refl }),
          (
            M',
            subst (λ (v : MultiPortGraph). Alike (record { kit = record { graph = v; book = book.with_wires b.kit.book (without spot_entry b.kit.book.wires) }; names = b.names; plan = set_subports rest x 0 }) M') (sym is)
                (whole_done (remove_copy kit_graph (slot_of M.node (here# h)) k.copy) M' g.fine g.blocks g.wires (release_still kit_graph (slot_of M.node (here# h)) k.copy)
                (rw (g.slot, g.unsplit) refl)
                (λ y s away. same_subports kit_graph M _ M' y (copy_keeps_splits f (here# h) k y s away))),
          ),
        )

    plain_left : is_split kit_graph p ≡ false →
        WholeLeft (record { graph = with_graph kit_graph (unlink_port kit_graph.graph p).graph; answer = cut_plain kit_graph (unlink_port kit_graph.graph p).answer })
        (leaves (set_subports rest x 0) (port_found (far_from (at_spot (spot_named x)) b.plan.wires)))
    plain_left t = answered (unlink_port kit_graph.graph p).answer refl
      where
        f : Fine kit_graph M
        f = a.rel.fine

        n : is_split kit_graph (slot_of M.node (here# h)) ≡ false
        n = ap (is_split kit_graph) h.slot ∙ t

        end : IsEnd kit_graph M (here# h)
        end = unsplit_is_end f (here# h) h.is_seen n

        left : Alike (record { kit = record { graph = with_graph kit_graph (unlink_port kit_graph.graph p).graph; book = book.with_wires b.kit.book (without spot_entry b.kit.book.wires) }; names = b.names; plan = set_subports rest x 0 }) (unlink_model M (here# h))
        left =
            let c = cut_end_lem f (here# h) end in
            subst (λ (s : ℕ). Alike (record { kit = record { graph = with_graph kit_graph (unlink_port kit_graph.graph s).graph; book = book.with_wires b.kit.book (without spot_entry b.kit.book.wires) }; names = b.names; plan = set_subports rest x 0 }) (unlink_model M (here# h))) h.slot
            (whole_done _ (unlink_model M (here# h)) c.fine c.blocks (same_test f _ _ (whole_test f (here# h) h.is_seen n) c.wires) refl
            (rw (split_below kit_graph (unlink_port kit_graph.graph (slot_of M.node (here# h))).graph (slot_of M.node (here# h)), n) refl)
            (λ y s away. same_subports kit_graph M _ (unlink_model M (here# h)) y (cut_keeps_splits f (here# h) end y s)))

        far_plan : far_from (at_spot (spot_named x)) b.plan.wires
            ≡ far_renamed b.names (at_spot (spot h.node x.side x.position)) (at_spot (spot_named x)) spot_tests (far_from (at_spot (spot h.node x.side x.position)) b.kit.book.wires)
        far_plan = ap (far_from (at_spot (spot_named x))) a.wires ∙ sym (far_renamed_lem b.names _ (at_spot (spot_named x)) spot_tests b.kit.book.wires (wires_named a))

        alike : CutAlike b.names (cut_plain kit_graph (port_link kit_graph.graph p)) (port_found (far_from (at_spot (spot_named x)) b.plan.wires))
        alike = go (M.join (here# h)) refl
          where
            go : (v : model.Far) → M.join (here# h) ≡ v → CutAlike b.names (cut_plain kit_graph (port_link kit_graph.graph p)) (port_found (far_from (at_spot (spot_named x)) b.plan.wires))
            go nowhere j =
                let k = ap (port_link kit_graph.graph) (sym h.slot) ∙ port_link_none f.good f.holds (here# h) end.valid j in
                let l = far_plan ∙ ap (far_renamed b.names _ (at_spot (spot_named x)) spot_tests) (far_of_free a.rel (here# h) end _ (whole_here f (here# h) h.is_seen) (whole_only f (here# h) n) j) in
                rw (k, l) tt
            go (to y) j =
                let k = ap (port_link kit_graph.graph) (sym h.slot) ∙ port_link_to f.good f.holds (here# h) y end.valid j in
                let l = far_plan ∙ ap (far_renamed b.names _ (at_spot (spot_named x)) spot_tests) (far_of_end a.rel (here# h) end _ (whole_here f (here# h) h.is_seen) (whole_only f (here# h) n) y j) in
                rw (k, l) (far_stands a y (ends_join_ends f (here# h) y end j))

        answered : (v : Result (Option PortIndex) NoSuchPort) → (unlink_port kit_graph.graph p).answer ≡ v →
            WholeLeft (record { graph = with_graph kit_graph (unlink_port kit_graph.graph p).graph; answer = cut_plain kit_graph v }) (leaves (set_subports rest x 0) (port_found (far_from (at_spot (spot_named x)) b.plan.wires)))
        answered (Ok (Some q)) e = (rw (sym (cut_link kit_graph.graph p) ∙ e) at alike, (_, left))
        answered (Ok None) e = (rw (sym (cut_link kit_graph.graph p) ∙ e) at alike, (_, left))
        answered (Err q) e = (rw (sym (cut_link kit_graph.graph p) ∙ e) at alike, (_, left))

  plan_cut_lem : is_there b.plan x ≡ true → (t : Bool) → eqb (subports_of b.plan x) 0 ≡ t →
      sketch.cut_port b.plan x ≡ leaves (set_subports rest x 0) (cond t (port_found (far_from (at_spot (spot_named x)) b.plan.wires)) (Ok (Some x)))
  unfolding sketch.cut_port
  plan_cut_lem there t e =
      ap (λ (u : Bool). cond (not u) (leaves b.plan (Err reason.UnknownPort)) (leaves (set_subports rest x 0) (cond (eqb (subports_of b.plan x) 0) (port_found (far_from (at_spot (spot_named x)) b.plan.wires)) (Ok (Some x))))) there
      ∙ ap (λ (u : Bool). leaves (set_subports rest x 0) (cond u (port_found (far_from (at_spot (spot_named x)) b.plan.wires)) (Ok (Some x)))) e

  whole_left : PortMeans b p x → WholeLeft (cut_port kit_graph p) (sketch.cut_port b.plan x)
  unfolding sketch.cut_port reason_number
  whole_left means = ⊎_elim here away (port_meant a p x means)
    where
      -- the engine's cut of a port of a block, by its mark
      whole : Bool → PortUnlinked
      whole t =
          cond t (record { graph = unsplit kit_graph p; answer = Ok (Some (subport# p 0, standing kit_graph (subport# p 0))) })
          (record { graph = with_graph kit_graph (unlink_port kit_graph.graph p).graph; answer = cut_plain kit_graph (unlink_port kit_graph.graph p).answer })

      away : PortGone b M p x → WholeLeft (cut_port kit_graph p) (sketch.cut_port b.plan x)
      away g = rw (cut_refuses a.rel.fine p _ (cut_dead g.0), g.1) ((_, refl), (M, a))

      here : PortHere b M p x → WholeLeft (cut_port kit_graph p) (sketch.cut_port b.plan x)
      here h = go (is_split kit_graph p) refl
        where
          cases : (t : Bool) → is_split kit_graph p ≡ t → cut_port kit_graph p ≡ whole t
          cases t e =
              cut_cases kit_graph p
              ∙ (ap (cut_seen kit_graph p) (seen_block_port a.rel.fine p (here# h) (h.is_seen, h.slot)) ∙ ap whole e)

          go : (t : Bool) → is_split kit_graph p ≡ t → WholeLeft (cut_port kit_graph p) (sketch.cut_port b.plan x)
          go true e =
              as_both WholeLeft _ (cases true e) (plan_cut_lem h.there false (is_split_lem a h ∙ ap not e)) (split_left h e)
          go false e =
              as_both WholeLeft _ (cases false e) (plan_cut_lem h.there true (is_split_lem a h ∙ ap not e)) (plain_left h e)

pub cut_square : {b : Both} {M : Model} (p : ℕ) (x : SketchPort) (means : PortMeans b p x) → Square b M (means_cut p x means)
cut_square {b} {M} p x means a room = squared (whole_left a p x means)
