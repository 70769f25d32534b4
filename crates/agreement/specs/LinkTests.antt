-- The tests that a link makes on ports, in an engine and a sketch that are alike: whether an input named has a wire (18), whether an end has one (13),
-- and which offset is the lowest without one.
use Rattle.std.specs.Prelude.{◌≡◌, Bool, List, [], ◌∷◌, ◌⊎◌, ℕ, ◌<◌}
use Rattle.std.proofs.Math.Path.{refl, sym, ap}
use Rattle.std.proofs.Common.{◌∙◌, subst, inl, inr, ⊎_elim}
use Rattle.std.proofs.Math.Bool.{true, false, cond}
use Rattle.port_tables.specs.Lists.{Member}
use Rattle.portgraph.specs.Model as model
use Rattle.portgraph.specs.Model.{Model, Far, nowhere, to}
use Rattle.portgraph.specs.GoodSlots.{zero_is_not_one, slots_apart}
use Rattle.port_tables.specs.declared.direction.Direction.{Direction}
use Rattle.port_tables.specs.declared.direction.Direction.TheVariants.{Incoming, Outgoing}
use Rattle.multiportgraph.specs.Reading.{is_split, seen}
use Rattle.multi_tables.specs.Forms.{visible}
use Rattle.multiportgraph.specs.WellFormed.{lift, outer, WireIn, HasEnd}
use Rattle.multiportgraph.specs.Ends.{EndOf, out_side, outer_apart, seen_block, seen_dead}
use Rattle.multiportgraph.specs.HiddenStays.{true_not_false}
use Rattle.port_tables.specs.Places.{Place, Wire, spot, at_spot, at_end, touches, any_touches, next_offset}
use Rattle.multiportgraph.specs.LinkCutLaws.{at_spot_here, at_spot_is}
use Rattle.multiportgraph.specs.Refusals as kit
use Rattle.multi_tables.specs.Forms as kit_forms
use Rattle.multiportgraph.specs.Refusals.{wired_input, wired_seen}
use Rattle.multiportgraph.specs.SplitLaws.{end_of_wire, wire_of_end}
use Rattle.multiportgraph.specs.declared.multiportgraph.MultiPortGraph.{MultiPortGraph}
use Rattle.port_tables.specs.declared.release.Release.{Release}
use Rattle.port_tables.specs.declared.release.Release.TheVariants.{One, Two}
use Rattle.theorems.specs.Book.{read_by}
use Rattle.theorems.specs.BookLaws.{any_touches_lem}
use Rattle.std.specs.Cmp.{both_ways}
use Rattle.theorems.specs.TakenLaws.{wired_input_lem, input_wired}
use Rattle.theorems.proofs.WireRule.{has_end_touches, touches_has_end, offset_of_lem}
use Rattle.sketches.specs.Plan.{spot_named, wired_side, taken_under, input_taken, offset_ready}
use Rattle.sketches.specs.PlanCalls.{is_wired}
use Rattle.sketches.specs.declared.sketch.SketchPort.{SketchPort}
use Rattle.agreement.specs.Meaning.{Both}
use Rattle.agreement.specs.Alike.{Alike}
use Rattle.agreement.specs.Names.{any_renamed, next_renamed, same_end, same_spot}
use Rattle.agreement.specs.Standing.{PortHere, PortGone, here#, offset_read_lem, wires_named}
use Rattle.std.proofs.lemmas.Bool.{or_right, or_cases}
use Rattle.theorems.specs.PortCases.{free_unless}

-- some wire has an end that passes a test
pub touching : (f : Place → Bool) (l : List Wire) → any_touches f l ≡ true → (w : Wire) × Member w l × (touches f w ≡ true)
unfolding any_touches
touching f [] e = absurd (zero_is_not_one (cc))
touching f (w ∷ l) e = go (or_cases (touches f w) (any_touches f l) e) (touching f l)
  where
    go : (touches f w ≡ true) ⊎ (any_touches f l ≡ true) → (any_touches f l ≡ true → (v : Wire) × Member v l × (touches f v ≡ true)) →
        (v : Wire) × Member v (w ∷ l) × (touches f v ≡ true)
    go (inl t) rest = (w, inl refl, t)
    go (inr t) rest = let r = rest t in (r.0, inr r.1, r.2)

module _ {b : Both} {M : Model} (a : Alike b M) where
  abbrev m : MultiPortGraph
  m = b.kit.graph

  abbrev wires : List Wire
  wires = b.kit.book.wires

  module _ {p : ℕ} {x : SketchPort} (h : PortHere b M p x) where
    abbrev place : model.InnerPlace
    place = here# h

    -- wires of the plan at the port are the book's
    pub at_spot_alike : any_touches (at_spot (spot_named x)) b.plan.wires ≡ any_touches (at_spot (spot h.node x.side x.position)) wires
    at_spot_alike =
        ap (any_touches (at_spot (spot_named x))) a.wires
        ∙ sym (any_renamed b.names _ _ (same_spot b.names a.apart h.node x.block h.named x.side x.position) wires (wires_named a))

    pub at_end_alike : (o : ℕ) → any_touches (at_end (spot_named x) o) b.plan.wires ≡ any_touches (at_end (spot h.node x.side x.position) o) wires
    at_end_alike o =
        ap (any_touches (at_end (spot_named x) o)) a.wires
        ∙ sym (any_renamed b.names _ _ (same_end b.names a.apart h.node x.block h.named x.side x.position o) wires (wires_named a))

    -- the lowest offset without a wire
    pub next_alike : offset_ready b.plan x ≡ next_offset wires (spot h.node x.side x.position)
    next_alike =
        ap (λ (l : List Wire). next_offset l (spot_named x)) a.wires
        ∙ sym (next_renamed b.names a.apart h.node x.block h.named x.side x.position wires (wires_named a))

    pub ready_offset : (o : ℕ) → ((i : ℕ) → i < o → (w : Wire) × WireIn m M w × HasEnd w (lift place i)) → ((w : Wire) → WireIn m M w → HasEnd w (lift place o) → ⊥) →
        offset_ready b.plan x ≡ o
    ready_offset o lower none = next_alike ∙ offset_of_lem a.rel place o lower none

    -- 18.

    wired_there : x.side ≡ Incoming → any_touches (at_spot (spot h.node x.side x.position)) wires ≡ true → wired_input m p ≡ true
    wired_there side t =
        let r = touching _ wires t in
        let w = r.0 in
        let is_wire = a.rel.wires.booked w r.1 in
        ⊎_elim (λ e. absurd (out w is_wire (at_spot_is h.node x.side x.position w.out e).1)) (λ e. into w is_wire (at_spot_is h.node x.side x.position w.into e))
        (or_cases _ _ r.2)
      where
        out : (w : Wire) → WireIn m M w → w.out.side ≡ x.side → ⊥
        out w i e = let k = out_side a.rel.fine w i in zero_is_not_one (cc)

        into : (w : Wire) → WireIn m M w → (w.into.node ≡ h.node) × (w.into.side ≡ x.side) × (w.into.pos ≡ x.position) → wired_input m p ≡ true
        into w i e =
            let q : w.into ≡ lift place w.into.offset = λ j. record { node = e.0 j; side = e.1 j; pos = e.2 j; offset = w.into.offset } in
            wired_input_lem a.rel.fine p (place, (h.is_seen, h.slot), side, w, w.into.offset, i, q)

    there_wired : wired_input m p ≡ true → any_touches (at_spot (spot h.node x.side x.position)) wires ≡ true
    there_wired t =
        let k = input_wired a.rel.fine p t in
        let y = k.0 in
        let q : y ≡ place = slots_apart a.rel.fine.good y place k.1.0.0 h.is_seen.0 (k.1.1 ∙ sym h.slot) in
        let w = k.3 in
        let e : w.into ≡ lift place k.4 = k.6 ∙ ap (λ (z : model.InnerPlace). lift z k.4) q in
        any_touches_lem _ w wires (a.rel.wires.walks w k.5)
        (or_right (at_spot (spot h.node x.side x.position) w.out) _
        (ap (at_spot (spot h.node x.side x.position)) e ∙ at_spot_here h.node x.side x.position (lift place k.4) refl refl refl))

    pub wired_alike : wired_side b.plan x x.side ≡ wired_input m p
    unfolding wired_input
    wired_alike = go x.side refl
      where
        is : seen m p ≡ visible h.node x.side
        is = ap (seen m) (sym h.slot) ∙ seen_block a.rel.fine place h.is_seen

        go : (d : Direction) → x.side ≡ d → wired_side b.plan x d ≡ wired_input m p
        go Outgoing e = sym (ap (wired_seen m p) (is ∙ ap (visible h.node) e))
        go Incoming e =
            ap (λ (t : Bool). cond t (any_touches (at_spot (spot_named x)) b.plan.wires) false) h.there
            ∙ (at_spot_alike ∙ both_ways _ _ (wired_there e) there_wired)

    -- 13: an end as read has a wire exactly if its inner end is linked.

    module _ (o u : ℕ) (e : EndOf m M place o u) where
      its_place : outer m M e.end ≡ lift place (read_by (is_split m p) o)
      its_place = e.is ∙ ap (λ (s : ℕ). lift place (read_by (is_split m s) o)) h.slot

      wired_is : is_wired b.plan x o ≡ any_touches (at_end (spot h.node x.side x.position) (read_by (is_split m p) o)) wires
      wired_is = ap (λ (i : ℕ). any_touches (at_end (spot_named x) i) b.plan.wires) (offset_read_lem a h o) ∙ at_end_alike (read_by (is_split m p) o)

      pub wired_linked : is_wired b.plan x o ≡ true → M.join e.end ≡ nowhere → ⊥
      wired_linked t free =
          let r = touching _ wires (sym wired_is ∙ t) in
          let l = end_of_wire a.rel.fine r.0 (lift place (read_by (is_split m p) o)) (a.rel.wires.booked r.0 r.1) (touches_has_end place _ r.0 r.2) in
          let q : l.near ≡ e.end = outer_apart a.rel.fine l.near e.end l.end e.is_end (l.is ∙ sym its_place) in
          let j = l.joined in
          let k = ap M.join q in
          zero_is_not_one (cc)

      pub unwired_free : is_wired b.plan x o ≡ false → M.join e.end ≡ nowhere
      unwired_free t =
          free_unless (M.join e.end) (λ y j.
          let w = wire_of_end a.rel.fine e.end y e.is_end j in
          let k : HasEnd w.0 (lift place (read_by (is_split m p) o)) = subst (HasEnd w.0) its_place w.2 in
          true_not_false (wired_is ∙ any_touches_lem _ w.0 wires (a.rel.wires.walks w.0 w.1) (has_end_touches place _ w.0 k)) t)

  gone_unwired : (p : ℕ) (x : SketchPort) → PortGone b M p x → wired_side b.plan x x.side ≡ wired_input m p
  unfolding wired_input
  gone_unwired p x g = go x.side ∙ sym (ap (wired_seen m p) (seen_dead a.rel.fine p g.0))
    where
      go : (d : Direction) → wired_side b.plan x d ≡ false
      go Incoming = rw g.1 refl
      go Outgoing = refl

  port_wired : (p : ℕ) (x : SketchPort) → PortHere b M p x ⊎ PortGone b M p x → wired_side b.plan x x.side ≡ wired_input m p
  port_wired p x = ⊎_elim (λ h. wired_alike h) (gone_unwired p x)

  -- both give 18 for the same ports
  pub taken_alike : (p q : ℕ) (x y : SketchPort) → PortHere b M p x ⊎ PortGone b M p x → PortHere b M q y ⊎ PortGone b M q y → input_taken b.plan x y ≡ kit.input_taken m p q
  unfolding input_taken kit.input_taken
  taken_alike p q x y h k = go b.plan.release m.release a.release
    where
      go : (r s : Release) → r ≡ s → taken_under r (wired_side b.plan x x.side) (wired_side b.plan y y.side) ≡ kit_forms.taken_under s (wired_input m p) (wired_input m q)
      go One One e = refl
      go Two Two e = let i = port_wired p x h in let j = port_wired q y k in λ t. cond (i t) true (j t)
      go One Two e = absurd (zero_is_not_one (cc))
      go Two One e = absurd (zero_is_not_one (cc))
