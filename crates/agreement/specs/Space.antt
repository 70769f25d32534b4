-- Space: a sketch that is alike has at most 1,024 blocks, 3,072 ports of blocks and 1,536 wires, so where the engine does not refuse a call for space the
-- sketch does not either, but for the count of adds.
use Rattle.std.proofs.lemmas.List.{length-map}
use Rattle.std.specs.Prelude.{◌≡◌, not, ◌||◌, List, [], ◌∷◌, map, ◌⊎◌, ℕ, ◌+◌, ◌*◌, ◌≤◌, ◌<◌, eqb, length, Option, Result, Ok, Err}
use Rattle.std.proofs.Math.Path.{refl}
use Rattle.std.proofs.Common.{sym, ◌∙◌, ap, subst, inl, inr, ⊎_elim, arith, leb-true, le-ltb}
use Rattle.std.proofs.Math.Bool.{Bool, true, false, cond}
use Rattle.std.proofs.Math.Dec.{leb, ltb}
use Rattle.std.proofs.lemmas.Bool.{lt-leb}
use Rattle.port_tables.specs.Limits.{node_slots, port_slots, node_ports}
use Rattle.port_tables.specs.Lists.{Member, Once, Rising, range}
use Rattle.port_tables.specs.Entries.{same_side}
use Rattle.portgraph.specs.Model as model
use Rattle.portgraph.specs.Model.{Model, slot_of}
use Rattle.portgraph.specs.GoodSlots.{zero_is_not_one, slots_apart, slot_in_range, joined_is_valid}
use Rattle.port_tables.specs.declared.direction.Direction.TheVariants.{Outgoing}
use Rattle.multiportgraph.specs.CountLaws.{visible_nodes_lem}
use Rattle.multiportgraph.specs.WellFormed.{Fine, WireIn, outer}
use Rattle.port_tables.specs.Listing.{Apart, apart_below, member_filter, member_range}
use Rattle.port_tables.specs.Places.{Wire, at_spot, at_end}
use Rattle.multiportgraph.specs.Reading.{seen}
use Rattle.multiportgraph.specs.Walks.{all_ports, is_seen}
use Rattle.multiportgraph.specs.declared.multiportgraph.MultiPortGraph.{MultiPortGraph}
use Rattle.multi_tables.specs.declared.answers.Refusal.TheVariants.{NoRoom, MovesTooShort}
use Rattle.theorems.specs.Book as book
use Rattle.theorems.specs.Book.{Call}
use Rattle.theorems.specs.Conditions.{RefusedBy}
use Rattle.theorems.specs.History.{step}
use Rattle.theorems.proofs.PortListing.{ascending_lists, visible_ports_ascending}
use Rattle.sketches.specs.Plan.{Plan, has_block, ports_in_all, is_there, subports_of, lacks_offset, input_taken, Far, nothing, far, far_from, spot_named, offset_read}
use Rattle.sketches.specs.PlanCalls as sketch
use Rattle.sketches.specs.PlanCalls.{Sketched, leaves, most_adds, is_full, is_wired, bad_offset, recount, port_found, end_found}
use Rattle.sketches.specs.declared.sketch.SketchPort.{SketchPort}
use Rattle.sketches.specs.declared.sketch.Reason.TheVariants as reason
use Rattle.agreement.specs.Meaning.{PlanCall, plan_step, Both, Means, means_add, means_remove, means_set, means_link, means_link_clean, means_link_sub, means_cut, means_cut_sub, means_tidy}
use Rattle.agreement.specs.Agreement.{PlanRefusedBy}
use Rattle.agreement.specs.Alike.{Alike, wire_renamed}
use Rattle.agreement.specs.Standing.{BlockHere, BlockGone, block_meant}
use Rattle.agreement.specs.AddSquare as add_square
use Rattle.agreement.specs.SetSquare as set_square
use Rattle.agreement.specs.LooksCounts.{same_nodes_count, same_ports_count}
use Rattle.sketches.specs.declared.sketch.Reason.{Reason}
use Rattle.sketches.specs.declared.sketch.SketchEnd.{SketchEnd}
use Rattle.portgraph.specs.Joins.{to_same}
use Rattle.multiportgraph.specs.WalkRule.{blocks_are_few}
use Rattle.agreement.specs.PlanLaws.{either_way}

-- How much there can be.

-- the slots of both ends of wires: no slot twice
module _ {m : MultiPortGraph} {M : Model} (f : Fine m M) where
  -- the slot of an end of a wire of a list
  abbrev EndSlot : List Wire → ℕ → Type 0
  EndSlot ws s = (w : Wire) × Member w ws × (h : WireIn m M w) × ((s ≡ slot_of M.node h.x) ⊎ (s ≡ slot_of M.node h.y))

  far_side : (w : Wire) (h : WireIn m M w) → h.y.side ≡ Outgoing → ⊥
  far_side w h e = f.good.join_sides h.x h.y h.joined (h.outgoing ∙ sym e)

  by_out : (w v : Wire) (h : WireIn m M w) (k : WireIn m M v) → slot_of M.node h.x ≡ slot_of M.node k.x → w ≡ v
  by_out w v h k e =
      let q : h.x ≡ k.x = slots_apart f.good h.x k.x h.end.valid k.end.valid e in
      let r : h.y ≡ k.y = to_same h.joined (ap M.join q ∙ k.joined) in
      h.is ∙ ((λ i. record { out = outer m M (q i); into = outer m M (r i) }) ∙ sym k.is)

  by_into : (w v : Wire) (h : WireIn m M w) (k : WireIn m M v) → slot_of M.node h.y ≡ slot_of M.node k.y → w ≡ v
  by_into w v h k e =
      let a = joined_is_valid f.good h.x h.y h.joined in
      let b = joined_is_valid f.good k.x k.y k.joined in
      let q : h.y ≡ k.y = slots_apart f.good h.y k.y a b e in
      let r : h.x ≡ k.x = to_same (f.good.join_back h.x h.y h.joined) (ap M.join q ∙ f.good.join_back k.x k.y k.joined) in
      h.is ∙ ((λ i. record { out = outer m M (r i); into = outer m M (q i) }) ∙ sym k.is)

  mixed : (w v : Wire) (h : WireIn m M w) (k : WireIn m M v) → slot_of M.node h.x ≡ slot_of M.node k.y → ⊥
  mixed w v h k e =
      let q : h.x ≡ k.y = slots_apart f.good h.x k.y h.end.valid (joined_is_valid f.good k.x k.y k.joined) e in
      far_side v k (ap (λ (z : model.InnerPlace). z.side) (sym q) ∙ h.outgoing)

  end_slots : (ws : List Wire) → Once ws → ((w : Wire) → Member w ws → WireIn m M w) → (l : List ℕ) × Rising Apart l × (length l ≡ 2 * length ws) × ((s : ℕ) → Member s l → EndSlot ws s)
  end_slots [] o d = ([], tt, refl, λ s i. absurd i)
  end_slots (w ∷ ws) o d =
      let r = end_slots ws o.1 (λ v i. d v (inr i)) in
      let h = d w (inl refl) in
      let n = r.2 in (
        slot_of M.node h.x ∷ slot_of M.node h.y ∷ r.0,
        (
          (λ s i. ⊎_elim (λ e q. mixed w w h h (q ∙ e)) (λ j q. not_out s (r.3 s j) q) i),
          ((λ s j q. not_into s (r.3 s j) q), r.1),
        ),
        omega arith,
        λ s i. ⊎_elim (λ e. (w, inl refl, h, inl e)) (⊎_elim (λ e. (w, inl refl, h, inr e)) (λ j. let g = r.3 s j in (g.0, inr g.1, g.2, g.3))) i,
      )
    where
      other : (v : Wire) → Member v ws → w ≡ v → ⊥
      other v i e = o.0 (subst (λ (u : Wire). Member u ws) (sym e) i)

      not_out : (s : ℕ) → EndSlot ws s → slot_of M.node (d w (inl refl)).x ≡ s → ⊥
      not_out s g q =
          ⊎_elim (λ e. other g.0 g.1 (by_out w g.0 (d w (inl refl)) g.2 (q ∙ e))) (λ e. mixed w g.0 (d w (inl refl)) g.2 (q ∙ e)) g.3

      not_into : (s : ℕ) → EndSlot ws s → slot_of M.node (d w (inl refl)).y ≡ s → ⊥
      not_into s g q =
          ⊎_elim (λ e. mixed g.0 w g.2 (d w (inl refl)) (sym (q ∙ e))) (λ e. other g.0 g.1 (by_into w g.0 (d w (inl refl)) g.2 (q ∙ e))) g.3

  pub wires_few : (ws : List Wire) → Once ws → ((w : Wire) → Member w ws → WireIn m M w) → 2 * length ws ≤ port_slots
  wires_few ws o d =
      let r = end_slots ws o d in
      let n = r.2 in
      let b = apart_below port_slots r.0 r.1
      (λ s i.
      let g = r.3 s i in
      ⊎_elim (λ e. let z = slot_in_range f.good g.2.x g.2.end.valid in omega arith)
      (λ e. let z = slot_in_range f.good g.2.y (joined_is_valid f.good g.2.x g.2.y g.2.joined) in omega arith) g.3) in
      omega arith

  ports_few : length (all_ports m) ≤ port_slots
  unfolding all_ports
  ports_few =
      apart_below port_slots (all_ports m) (ascending_lists f).once
      (λ p i. let k = member_range p 0 port_slots (member_filter (λ p. is_seen (seen m p)) p (range 0 port_slots) i).0 in omega arith)

module _ {b : Both} {M : Model} (a : Alike b M) where
  pub few_blocks : length b.plan.blocks ≤ node_slots
  few_blocks = let e = same_nodes_count a in let v = visible_nodes_lem a.rel.fine in let n = blocks_are_few b.kit.graph in omega arith

  pub few_ports : ports_in_all b.plan.blocks ≤ port_slots
  few_ports = let e = same_ports_count a in let v = visible_ports_ascending a.rel.fine in let n = ports_few a.rel.fine in omega arith

  pub few_wires : 2 * length b.plan.wires ≤ port_slots
  few_wires =
      let e : length b.plan.wires ≡ length b.kit.book.wires = ap length a.wires ∙ length-map b.kit.book.wires (wire_renamed b.names) in
      let n = wires_few a.rel.fine b.kit.book.wires a.rel.wires.once a.rel.wires.booked in
      omega arith

  not_full : is_full b.plan ≡ false
  not_full = let w = few_wires in lt-leb port_slots (length b.plan.wires) (omega arith)

-- The calls of the sketch, where there is room for wires.

-- an answer that does not refuse for space
abbrev Fits : {A : Type 0} → Sketched (Result A Reason) → Type 0
Fits v = v.answer ≡ Err reason.NoRoom → ⊥

module _ (K : Plan) where
  links_fit : is_full K ≡ false → (x y : SketchPort) → (sketch.link_ports K x y).answer ≡ Err reason.NoRoom → ⊥
  unfolding sketch.link_ports
  links_fit room x y =
      rw room
      (either_way Fits (not (is_there K x)) (λ q. zero_is_not_one (cc))
      (either_way Fits (input_taken K x y) (λ q. zero_is_not_one (cc))
      (either_way Fits (not (is_there K y)) (λ q. zero_is_not_one (cc)) (either_way Fits (same_side x.side y.side) (λ q. zero_is_not_one (cc)) (λ q. zero_is_not_one (cc))))))

  clean_fits : is_full K ≡ false → (x y : SketchPort) → (sketch.link_clean K x y).answer ≡ Err reason.NoRoom → ⊥
  unfolding sketch.link_clean
  clean_fits room x y =
      rw room
      (either_way Fits (not (is_there K x)) (λ q. zero_is_not_one (cc))
      (either_way Fits (input_taken K x y) (λ q. zero_is_not_one (cc))
      (either_way Fits (not (is_there K y)) (λ q. zero_is_not_one (cc)) (either_way Fits (same_side x.side y.side) (λ q. zero_is_not_one (cc)) (λ q. zero_is_not_one (cc))))))

  subports_fit : is_full K ≡ false → (x : SketchPort) (o : ℕ) (y : SketchPort) (r : ℕ) → (sketch.link_subports K x o y r).answer ≡ Err reason.NoRoom → ⊥
  unfolding sketch.link_subports
  subports_fit room x o y r =
      rw room
      (either_way Fits (bad_offset o || bad_offset r) (λ q. zero_is_not_one (cc))
      (either_way Fits (not (is_there K x)) (λ q. zero_is_not_one (cc))
      (either_way Fits (lacks_offset K x o || cond (is_there K y) (lacks_offset K y r) false) (λ q. zero_is_not_one (cc))
      (either_way Fits (input_taken K x y) (λ q. zero_is_not_one (cc))
      (either_way Fits (not (is_there K y)) (λ q. zero_is_not_one (cc))
      (either_way Fits (same_side x.side y.side) (λ q. zero_is_not_one (cc))
      (either_way Fits (is_wired K x o || is_wired K y r) (λ q. zero_is_not_one (cc)) (λ q. zero_is_not_one (cc)))))))))

  -- other calls need none
  removal_fits : (n : ℕ) → (sketch.remove_block K n).answer ≡ Err reason.NoRoom → ⊥
  unfolding sketch.remove_block
  removal_fits n = either_way Fits (not (has_block K.blocks n)) (λ q. zero_is_not_one (cc)) (λ q. zero_is_not_one (cc))

  cut_fits : (x : SketchPort) → (sketch.cut_port K x).answer ≡ Err reason.NoRoom → ⊥
  unfolding sketch.cut_port
  cut_fits x =
      either_way Fits (not (is_there K x)) (λ q. zero_is_not_one (cc))
      (either_way (λ (v : Result (Option SketchPort) Reason). v ≡ Err reason.NoRoom → ⊥) (eqb (subports_of K x) 0) (found (far_from (at_spot (spot_named x)) K.wires)) (λ q. zero_is_not_one (cc)))
    where
      found : (w : Far) → port_found w ≡ Err reason.NoRoom → ⊥
      found nothing q = zero_is_not_one (cc)
      found (far z) q = zero_is_not_one (cc)

  asked_fits : (x : SketchPort) (o : ℕ) → sketch.subport_link K x o ≡ Err reason.NoRoom → ⊥
  unfolding sketch.subport_link
  asked_fits x o =
      either_way Refuses (bad_offset o) (λ q. zero_is_not_one (cc))
      (either_way Refuses (not (is_there K x)) (λ q. zero_is_not_one (cc))
      (either_way Refuses (lacks_offset K x o) (λ q. zero_is_not_one (cc)) (found (far_from (at_end (spot_named x) (offset_read K x o)) K.wires))))
    where
      Refuses : Result (Option SketchEnd) Reason → Type 0
      Refuses v = v ≡ Err reason.NoRoom → ⊥

      found : (w : Far) → end_found w ≡ Err reason.NoRoom → ⊥
      found nothing q = zero_is_not_one (cc)
      found (far z) q = zero_is_not_one (cc)

  cut_sub_fits : (x : SketchPort) (o : ℕ) → (sketch.cut_subport K x o).answer ≡ Err reason.NoRoom → ⊥
  unfolding sketch.cut_subport
  cut_sub_fits x o = asked_fits x o

  tidy_fits : (x : SketchPort) → (sketch.tidy_port K x).answer ≡ Err reason.NoRoom → ⊥
  unfolding sketch.tidy_port
  tidy_fits x = either_way Fits (not (is_there K x)) (λ q. zero_is_not_one (cc)) (λ q. zero_is_not_one (cc))

-- Adds and resizes.

module _ {b : Both} {M : Model} (a : Alike b M) where
  add_fits : (i o : ℕ) → ((step b.kit.graph (book.add_call i o)).answer ≡ Err NoRoom → ⊥) → b.plan.adds < most_adds → (sketch.add_block b.plan i o).answer ≡ Err reason.NoRoom → ⊥
  unfolding sketch.add_block ports_in_all
  add_fits i o room few = go (leb (i + o) node_ports) refl
    where
      full : Bool
      full = leb most_adds b.plan.adds || (leb node_slots (length b.plan.blocks) || ltb port_slots (ports_in_all b.plan.blocks + (i + o)))

      roomy : i + o ≤ node_ports → full ≡ false
      roomy small =
          let g = add_square.grown_if a i o small room in
          let p = ap (λ (K : Plan). length K.blocks) g.1 in
          let q = ap (λ (K : Plan). ports_in_all K.blocks) g.1 in
          let x = few_blocks g.2.1 in
          let y = few_ports g.2.1 in
          rw (lt-leb most_adds b.plan.adds few, lt-leb node_slots (length b.plan.blocks) (omega arith), le-ltb port_slots (ports_in_all b.plan.blocks + (i + o)) (omega arith)) refl

      go : (t : Bool) → leb (i + o) node_ports ≡ t →
          (cond {A = Sketched (Result ℕ Reason)} (not t) (leaves b.plan (Err reason.TooManyPorts)) (cond full (leaves b.plan (Err reason.NoRoom)) (leaves (add_square.plan_grown a i o) (Ok b.plan.adds)))).answer
          ≡ Err reason.NoRoom → ⊥
      go false e = λ q. zero_is_not_one (cc)
      go true e = rw (roomy (leb-true (i + o) node_ports e)) (λ q. zero_is_not_one (cc))

  set_fits : (n k i o room : ℕ) → BlockHere b M n k ⊎ BlockGone b M n k → ((step b.kit.graph (book.set_call n i o room)).answer ≡ Err MovesTooShort → ⊥) →
      ((step b.kit.graph (book.set_call n i o room)).answer ≡ Err NoRoom → ⊥) → (sketch.set_counts b.plan k i o).answer ≡ Err reason.NoRoom → ⊥
  unfolding sketch.set_counts
  set_fits n k i o room means moves space = go means (leb (i + o) node_ports) refl
    where
      full : Bool
      full = ltb port_slots (ports_in_all (map (recount k i o) b.plan.blocks))

      roomy : BlockHere b M n k → i + o ≤ node_ports → full ≡ false
      roomy h small =
          let g = set_square.set_if a n k i o room small h moves space in
          let q = ap (λ (K : Plan). ports_in_all K.blocks) g.1 in
          let y = few_ports g.2.1 in
          le-ltb port_slots (ports_in_all (map (recount k i o) b.plan.blocks)) (omega arith)

      last : (t y : Bool) (l : Plan) → y ≡ false →
          (cond {A = Sketched (Result (Unit {0}) Reason)} (not t) (leaves b.plan (Err reason.UnknownBlock)) (cond y (leaves b.plan (Err reason.NoRoom)) (leaves l (Ok tt)))).answer ≡ Err reason.NoRoom → ⊥
      last false y l e q = zero_is_not_one (cc)
      last true false l e q = zero_is_not_one (cc)
      last true true l e q = zero_is_not_one (cc)

      gone : (y : Bool) (l : Plan) → has_block b.plan.blocks k ≡ false →
          (cond {A = Sketched (Result (Unit {0}) Reason)} (not (has_block b.plan.blocks k)) (leaves b.plan (Err reason.UnknownBlock)) (cond y (leaves b.plan (Err reason.NoRoom)) (leaves l (Ok tt)))).answer ≡ Err reason.NoRoom → ⊥
      gone y l e = rw e (λ q. zero_is_not_one (cc))

      go : BlockHere b M n k ⊎ BlockGone b M n k → (t : Bool) → leb (i + o) node_ports ≡ t →
          (cond {A = Sketched (Result (Unit {0}) Reason)} (not t) (leaves b.plan (Err reason.TooManyPorts))
          (cond (not (has_block b.plan.blocks k)) (leaves b.plan (Err reason.UnknownBlock)) (cond full (leaves b.plan (Err reason.NoRoom)) (leaves (set_square.plan_set a n k i o) (Ok tt))))).answer
          ≡ Err reason.NoRoom → ⊥
      go means false e = λ q. zero_is_not_one (cc)
      go (inl h) true e = last (has_block b.plan.blocks k) full (set_square.plan_set a n k i o) (roomy h (leb-true (i + o) node_ports e))
      go (inr g) true e = gone full (set_square.plan_set a n k i o) g.1

  -- where the engine does not refuse a call for space, nor for its move list, the sketch does not refuse for space
  pub room_for_both : {c : Call} {k : PlanCall} → Means b c k → (RefusedBy c (step b.kit.graph c).answer MovesTooShort → ⊥) → (RefusedBy c (step b.kit.graph c).answer NoRoom → ⊥) →
      b.plan.adds < most_adds → PlanRefusedBy k (plan_step b.plan k).answer reason.NoRoom → ⊥
  room_for_both (means_add i o) moves room few = add_fits i o room few
  room_for_both (means_remove n k m) moves room few = removal_fits b.plan k
  room_for_both (means_set n k i o r m) moves room few = set_fits n k i o r (block_meant a n k m) moves room
  room_for_both (means_link p q x y m l) moves room few = links_fit b.plan (not_full a) x y
  room_for_both (means_link_clean p q x y m l) moves room few = clean_fits b.plan (not_full a) x y
  room_for_both (means_link_sub p o q r x y m l) moves room few = subports_fit b.plan (not_full a) x o y r
  room_for_both (means_cut p x m) moves room few = cut_fits b.plan x
  room_for_both (means_cut_sub p o x m) moves room few = cut_sub_fits b.plan x o
  room_for_both (means_tidy p x m) moves room few = tidy_fits b.plan x
