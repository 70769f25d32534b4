-- What an end is linked with: the far end of its wire is the first that the sketch finds, under the names; so both answer alike where an end is asked.
use Rattle.std.specs.Prelude.{◌≡◌, Bool, cond, not, ◌||◌, List, [], ◌∷◌, ◌⊎◌, ℕ, ◌≤◌, ltb, Err, Option, Result}
use Rattle.std.proofs.Math.Path.{refl, ap, subst}
use Rattle.std.proofs.Common.{sym, ◌∙◌, inl, inr, ⊎_elim, arith, ltb-true, ltb-false}
use Rattle.std.proofs.Math.Bool.{true, false}
use Rattle.port_tables.specs.Lists.{Member}
use Rattle.portgraph.specs.Lookups.{port_link}
use Rattle.portgraph.specs.Model as model
use Rattle.portgraph.specs.Model.{Model, nowhere, to, slot_of}
use Rattle.portgraph.specs.PlaceLaws.{port_link_to, port_link_none}
use Rattle.multiportgraph.specs.WellFormed.{Fine, Seen, lift, outer, IsEnd, WireIn}
use Rattle.multiportgraph.specs.Ends.{EndOf, outer_seen, outer_apart, ends_join_ends, subport_of_lem, outer_of_block, outer_of_subport, unsplit_no_copy, wire_at}
use Rattle.multiportgraph.specs.HiddenStays.{true_not_false}
use Rattle.multiportgraph.specs.LinkCutLaws.{end_is_here, end_is_same}
use Rattle.multiportgraph.specs.CopyLaws.{port_at_is, port_at_here}
use Rattle.multiportgraph.specs.Calls.{subport_link}
use Rattle.port_tables.specs.Places.{Place, Wire, spot, at_spot, at_end, touches, any_touches}
use Rattle.multiportgraph.specs.Reading.{port_place, is_hidden, is_split, end_at, subport_of, standing_of, far_subport}
use Rattle.multi_tables.specs.Forms.{End, inner, lacking}
use Rattle.multiportgraph.specs.Wires.{place_of}
use Rattle.multiportgraph.specs.declared.multiportgraph.MultiPortGraph.{MultiPortGraph}
use Rattle.multi_tables.specs.declared.answers.PortPlace.{PortPlace}
use Rattle.theorems.specs.Book.{Book, read_by}
use Rattle.theorems.specs.BookLaws.{any_touches_lem, none_touches}
use Rattle.theorems.specs.Conditions.{sub_offset, sub_dead, sub_lacks}
use Rattle.theorems.proofs.CutSubCall.{subport_link_refuses, link_of_there}
use Rattle.theorems.specs.PortCases.{is_lacking, end_is_lem}
use Rattle.theorems.proofs.WireRule.{Rel}
use Rattle.sketches.specs.Plan.{nothing, far, far_from, is_there, spot_named, offset_read, lacks_offset, port_at}
use Rattle.sketches.specs.PlanCalls as sketch
use Rattle.sketches.specs.PlanCalls.{end_found}
use Rattle.sketches.specs.PlanNumbers.{reason_number}
use Rattle.sketches.specs.declared.sketch.SketchPort.{SketchPort}
use Rattle.sketches.specs.declared.sketch.Reason.TheVariants as reason
use Rattle.agreement.specs.Meaning.{Both, PortMeans}
use Rattle.agreement.specs.Agreement.{StandsAt, EndAlike}
use Rattle.agreement.specs.Alike.{Alike, place_renamed}
use Rattle.agreement.specs.Names.{naming, HasName, SameTest, name_of_lem, same_end, far_renamed, far_renamed_lem}
use Rattle.agreement.specs.Standing.{PortHere, PortGone, here#, port_meant, wires_named, seen_name, offset_read_lem, lacks_so, lacks_not}
use Rattle.port_tables.specs.declared.index.PortIndex.{PortIndex}
use Rattle.portgraph.specs.declared.portgraph.NoSuchPort.{NoSuchPort}
use Rattle.multi_tables.specs.declared.answers.Refusal.{Refusal}
use Rattle.multi_tables.specs.declared.answers.SubportIndex.{SubportIndex}
use Rattle.std.proofs.lemmas.Bool.{false_from_ne_true, or_cases}
use Rattle.portgraph.specs.Joins.{nowhere_not_to, to_same}
use Rattle.theorems.specs.ListedLinks.{own_touches}

-- The first far end that a list of wires has.

pub far_is : (f : Place → Bool) (P : Place) (ws : List Wire) →
    ((w : Wire) → Member w ws → (f w.out ≡ true → w.into ≡ P) × (f w.into ≡ true → w.out ≡ P)) → any_touches f ws ≡ true → far_from f ws ≡ far P
unfolding far_from any_touches
far_is f P [] h t = absurd (true_not_false t refl)
far_is f P (w ∷ ws) h t = go (f w.out) (f w.into) refl refl (h w (inl refl)) t (far_is f P ws (λ v i. h v (inr i)))
  where
    go : (p q : Bool) → f w.out ≡ p → f w.into ≡ q → (f w.out ≡ true → w.into ≡ P) × (f w.into ≡ true → w.out ≡ P) → ((p || q) || any_touches f ws) ≡ true →
        (any_touches f ws ≡ true → far_from f ws ≡ far P) → cond p (far w.into) (cond q (far w.out) (far_from f ws)) ≡ far P
    go true q a b k u rest = ap far (k.0 a)
    go false true a b k u rest = ap far (k.1 b)
    go false false a b k u rest = rest u

pub far_none : (f : Place → Bool) (ws : List Wire) → any_touches f ws ≡ false → far_from f ws ≡ nothing
unfolding far_from any_touches
far_none f [] t = refl
far_none f (w ∷ ws) t = go (f w.out) (f w.into) t (far_none f ws)
  where
    go : (p q : Bool) → ((p || q) || any_touches f ws) ≡ false → (any_touches f ws ≡ false → far_from f ws ≡ nothing) → cond p (far w.into) (cond q (far w.out) (far_from f ws)) ≡ nothing
    go true q u rest = absurd (true_not_false refl u)
    go false true u rest = absurd (true_not_false refl u)
    go false false u rest = rest u

-- A test that holds of one end alone.

module _ {m : MultiPortGraph} {M : Model} {B : Book} (r : Rel m M B) (z : model.InnerPlace) (ez : IsEnd m M z) (f : Place → Bool)
    (here : f (outer m M z) ≡ true) (only : (v : model.InnerPlace) → IsEnd m M v → f (outer m M v) ≡ true → v ≡ z) where
  -- the wire of its link
  pub wire_there : (y : model.InnerPlace) → M.join z ≡ to y → any_touches f B.wires ≡ true
  wire_there y j = any_touches_lem f _ B.wires (r.wires.walks _ (wire_at r.fine z y ez j)) (own_touches z.side f (outer m M z) (outer m M y) here)

  -- of each wire with that end the other one is the far end
  out_far : (w : Wire) → WireIn m M w → f w.out ≡ true → (y : model.InnerPlace) × (M.join z ≡ to y) × (w.into ≡ outer m M y)
  out_far w h t =
      let q : h.x ≡ z = only h.x h.end (ap (λ (v : Wire). f v.out) (sym h.is) ∙ t) in
      (h.y, ap M.join (sym q) ∙ h.joined, ap (λ (v : Wire). v.into) h.is)

  into_far : (w : Wire) → WireIn m M w → f w.into ≡ true → (y : model.InnerPlace) × (M.join z ≡ to y) × (w.out ≡ outer m M y)
  into_far w h t =
      let e : IsEnd m M h.y = ends_join_ends r.fine h.x h.y h.end h.joined in
      let q : h.y ≡ z = only h.y e (ap (λ (v : Wire). f v.into) (sym h.is) ∙ t) in
      (h.x, ap M.join (sym q) ∙ r.fine.good.join_back h.x h.y h.joined, ap (λ (v : Wire). v.out) h.is)

  pub far_of_end : (y : model.InnerPlace) → M.join z ≡ to y → far_from f B.wires ≡ far (outer m M y)
  far_of_end y j =
      far_is f (outer m M y) B.wires
      (λ w i.
      let h = r.wires.booked w i in (
        (λ t. let k = out_far w h t in k.2 ∙ ap (outer m M) (to_same k.1 j)),
        (λ t. let k = into_far w h t in k.2 ∙ ap (outer m M) (to_same k.1 j)),
      ))
      (wire_there y j)

  pub far_of_free : M.join z ≡ nowhere → far_from f B.wires ≡ nothing
  far_of_free j =
      far_none f B.wires
      (none_touches f B.wires
      (λ w i. false_from_ne_true (touches f w)
      (λ t. let h = r.wires.booked w i in
      ⊎_elim (λ p. nowhere_not_to j (out_far w h p).1) (λ p. nowhere_not_to j (into_far w h p).1) (or_cases (f w.out) (f w.into) t))))

-- Such tests: an offset of a port as read, and an unsplit port whole.

module _ {m : MultiPortGraph} {M : Model} (f : Fine m M) where
  pub offset_here : (x : model.InnerPlace) (o q : ℕ) (e : EndOf m M x o q) →
      at_end (spot x.node x.side x.pos) (read_by (is_split m (slot_of M.node x)) o) (outer m M e.end) ≡ true
  offset_here x o q e =
      ap (at_end (spot x.node x.side x.pos) (read_by (is_split m (slot_of M.node x)) o)) e.is ∙ end_is_here (lift x (read_by (is_split m (slot_of M.node x)) o))

  pub offset_only : (x : model.InnerPlace) (o q : ℕ) (e : EndOf m M x o q) (v : model.InnerPlace) → IsEnd m M v →
      at_end (spot x.node x.side x.pos) (read_by (is_split m (slot_of M.node x)) o) (outer m M v) ≡ true → v ≡ e.end
  offset_only x o q e v ev t =
      outer_apart f v e.end ev e.is_end (end_is_same (lift x (read_by (is_split m (slot_of M.node x)) o)) (outer m M v) t ∙ sym e.is)

  pub whole_here : (x : model.InnerPlace) → Seen m M x → at_spot (spot x.node x.side x.pos) (outer m M x) ≡ true
  whole_here x s = ap (at_spot (spot x.node x.side x.pos)) (outer_of_block f x s.1) ∙ port_at_here x 0

  pub whole_only : (x : model.InnerPlace) → is_split m (slot_of M.node x) ≡ false → (v : model.InnerPlace) → IsEnd m M v →
      at_spot (spot x.node x.side x.pos) (outer m M v) ≡ true → v ≡ x
  whole_only x n v ev t = go (is_hidden m v.node) refl
    where
      go : (b : Bool) → is_hidden m v.node ≡ b → v ≡ x
      go true h =
          let c = f.copy v.node h in
          let q : c.main ≡ x = port_at_is x c.main v.pos (ap (at_spot (spot x.node x.side x.pos)) (sym (outer_of_subport f v c.main h c.joined)) ∙ t) in
          absurd (unsplit_no_copy f x n v.node h (c.joined ∙ ap to q))
      go false h = port_at_is x v 0 (ap (at_spot (spot x.node x.side x.pos)) (sym (outer_of_block f v h)) ∙ t)

-- What is answered of a far end.

module _ {b : Both} {M : Model} (a : Alike b M) where
  pub end_name : (y : model.InnerPlace) → IsEnd b.kit.graph M y → HasName b.names (outer b.kit.graph M y).node
  end_name y e =
      let r = outer_seen a.rel.fine y e in
      subst (HasName b.names) (ap (λ (v : Place). v.node) (sym r.is)) (seen_name a r.main r.is_seen)

  -- a far end stands where the place under the names does
  pub far_stands : (y : model.InnerPlace) → IsEnd b.kit.graph M y →
      StandsAt b.names (standing_of b.kit.graph (slot_of M.node y)) (port_at (place_renamed b.names (outer b.kit.graph M y)))
  far_stands y e =
      let p = ap port_place (subport_of_lem a.rel.fine y e) in
      let n = end_name y e in
      subst (λ (v : PortPlace). StandsAt b.names v (port_at (place_renamed b.names (outer b.kit.graph M y)))) (sym p)
      (record {
        named =
            subst (λ (k : ℕ). Member (naming (outer b.kit.graph M y).node k) b.names) (sym (name_of_lem b.names a.apart (outer b.kit.graph M y).node n.0 n.1))
            n.1;
        side = refl;
        position = refl;
      })

  far_offset : (y : model.InnerPlace) → IsEnd b.kit.graph M y → (subport_of b.kit.graph (slot_of M.node y)).subport_offset ≡ (outer b.kit.graph M y).offset
  unfolding place_of
  far_offset y e = ap (λ (v : Place). v.offset) (subport_of_lem a.rel.fine y e)

  -- An end that is there.

  module _ {p : ℕ} {x : SketchPort} (h : PortHere b M p x) (o : ℕ) where
    abbrev test : Place → Bool
    test = at_end (spot h.node x.side x.position) (read_by (is_split b.kit.graph p) o)

    abbrev plan_test : Place → Bool
    plan_test = at_end (spot_named x) (offset_read b.plan x o)

    pub same_tests : SameTest b.names test plan_test
    same_tests =
        subst (λ (c : ℕ). SameTest b.names test (at_end (spot_named x) c)) (sym (offset_read_lem a h o))
        (same_end b.names a.apart h.node x.block h.named x.side x.position (read_by (is_split b.kit.graph p) o))

    pub plan_far : far_from plan_test b.plan.wires ≡ far_renamed b.names test plan_test same_tests (far_from test b.kit.book.wires)
    plan_far = ap (far_from plan_test) a.wires ∙ sym (far_renamed_lem b.names test plan_test same_tests b.kit.book.wires (wires_named a))

    module _ (q : ℕ) (e : EndOf b.kit.graph M (here# h) o q) where
      end_there : test (outer b.kit.graph M e.end) ≡ true
      end_there =
          subst (λ (s : ℕ). at_end (spot h.node x.side x.position) (read_by (is_split b.kit.graph s) o) (outer b.kit.graph M e.end) ≡ true) h.slot
          (offset_here a.rel.fine (here# h) o q e)

      end_only : (v : model.InnerPlace) → IsEnd b.kit.graph M v → test (outer b.kit.graph M v) ≡ true → v ≡ e.end
      end_only v ev t =
          offset_only a.rel.fine (here# h) o q e v ev
          (subst (λ (s : ℕ). at_end (spot h.node x.side x.position) (read_by (is_split b.kit.graph s) o) (outer b.kit.graph M v) ≡ true) (sym h.slot) t)

      found_alike : EndAlike b.names (far_subport b.kit.graph (port_link b.kit.graph.graph q)) (end_found (far_from plan_test b.plan.wires))
      found_alike = go (M.join e.end) refl
        where
          link_at : (v : Result (Option PortIndex) NoSuchPort) → port_link b.kit.graph.graph (slot_of M.node e.end) ≡ v → port_link b.kit.graph.graph q ≡ v
          link_at v k = ap (port_link b.kit.graph.graph) (sym e.slot) ∙ k

          go : (v : model.Far) → M.join e.end ≡ v → EndAlike b.names (far_subport b.kit.graph (port_link b.kit.graph.graph q)) (end_found (far_from plan_test b.plan.wires))
          go nowhere j =
              let k = link_at _ (port_link_none a.rel.fine.good a.rel.fine.holds e.end e.is_end.valid j) in
              let n = plan_far ∙ ap (far_renamed b.names test plan_test same_tests) (far_of_free a.rel e.end e.is_end test end_there end_only j) in
              rw (k, n) tt
          go (to y) j =
              let k = link_at _ (port_link_to a.rel.fine.good a.rel.fine.holds e.end y e.is_end.valid j) in
              let n = plan_far ∙ ap (far_renamed b.names test plan_test same_tests) (far_of_end a.rel e.end e.is_end test end_there end_only y j) in
              let ey = ends_join_ends a.rel.fine e.end y e.is_end j in
              rw (k, n) (far_stands y ey, far_offset y ey)

  -- Asking.

  pub asked_alike : (p o : ℕ) (x : SketchPort) → PortMeans b p x → EndAlike b.names (subport_link b.kit.graph p o) (sketch.subport_link b.plan x o)
  unfolding sketch.subport_link reason_number
  asked_alike p o x means = start (ltb o 65535) refl (port_meant a p x means)
    where
      lacks : (h : PortHere b M p x) → o ≤ 65534 → (t : Bool) → lacks_offset b.plan x o ≡ t →
          EndAlike b.names (subport_link b.kit.graph p o) (cond t (Err reason.UnknownOffset) (end_found (far_from (at_end (spot_named x) (offset_read b.plan x o)) b.plan.wires)))
      lacks h small true l = rw (subport_link_refuses a.rel.fine p o _ (sub_lacks small (here# h) (h.is_seen, h.slot) (lacks_so a h o l))) (_, refl)
      lacks h small false l = ends (end_at b.kit.graph p x.side o) refl
        where
          ends : (v : End) → end_at b.kit.graph p x.side o ≡ v →
              EndAlike b.names (subport_link b.kit.graph p o) (end_found (far_from (at_end (spot_named x) (offset_read b.plan x o)) b.plan.wires))
          ends lacking e = absurd (lacks_not a h o l (is_lacking a.rel.fine p (here# h) o (h.is_seen, h.slot) e))
          ends (inner q) e =
              let g : subport_link b.kit.graph p o ≡ far_subport b.kit.graph (port_link b.kit.graph.graph q) = link_of_there a.rel.fine p o (here# h) small (h.is_seen, h.slot) q e in
              subst (λ (v : Result (Option (SubportIndex × PortPlace)) Refusal). EndAlike b.names v (end_found (far_from (at_end (spot_named x) (offset_read b.plan x o)) b.plan.wires))) (sym g)
              (found_alike h o q (end_is_lem a.rel.fine p (here# h) o q (h.is_seen, h.slot) e))

      start : (t : Bool) → ltb o 65535 ≡ t → PortHere b M p x ⊎ PortGone b M p x →
          EndAlike b.names (subport_link b.kit.graph p o)
          (cond (not t) (Err reason.BadOffset) (cond (not (is_there b.plan x)) (Err reason.UnknownPort) (cond (lacks_offset b.plan x o) (Err reason.UnknownOffset) (end_found (far_from (at_end (spot_named x) (offset_read b.plan x o)) b.plan.wires)))))
      start false e k = let l = ltb-false o 65535 e in rw (subport_link_refuses a.rel.fine p o _ (sub_offset (omega arith))) (_, refl)
      start true e (inl h) = let l = ltb-true o 65535 e in rw h.there (lacks h (omega arith) (lacks_offset b.plan x o) refl)
      start true e (inr g) = let l = ltb-true o 65535 e in rw (g.1, subport_link_refuses a.rel.fine p o _ (sub_dead (omega arith) g.0)) (_, refl)
