-- What preparing an end of a port does (`PreparedEnd`), and its first case: splitting a linked port. A hidden node with two
-- subports comes, the port's link moves to offset 0, and offset 1 is free.
use Rattle.std.proofs.lemmas.Bool.{cases_eq}
use Rattle.std.specs.Prelude.{◌≡◌, Bool, ◌⊎◌, ℕ, suc, ◌+◌, ◌-◌, ◌≤◌, ◌<◌, leb, Ok}
use Rattle.std.proofs.Math.Path.{refl, ap, subst, transport}
use Rattle.std.proofs.Common.{sym, ◌∙◌, inl, inr, ⊎_elim, lt-length-set}
use Rattle.std.proofs.Math.Bool.{true, false, cond}
use mathlib.Core.List.{List}
use native.Mathlib.Omega.{arith}
use Rattle.std.proofs.Math.Dec.{eqb}
use Rattle.std.proofs.Math.ListN.{length, get_or, set, length-set}
use Rattle.std.proofs.Math.Seq.{get_or-set_same, get_or-set_other}
use borrow.Author.Tests.{eqb-true, ne_eqb, leb-true, leb-false}
use Rattle.port_tables.specs.Limits.{node_slots, port_slots, node_ports}
use Rattle.port_tables.specs.Entries.{reversed, ports_on, node#, port#, meta_of}
use Rattle.port_tables.specs.Tables.{at, cut, link_both, link_count}
use Rattle.portgraph.specs.Lookups.{num_ports, count_in}
use Rattle.portgraph.specs.Sums.{place_cases, total_one, upd_same, upd_other, same_place_refl, drop_here, drop_there, drop_nowhere, link_near, link_far, link_other, cut_elsewhere}
use Rattle.portgraph.specs.Meaning.{add_model, link_model, unlink_model, same_place, next_slot, next_block, growth}
use Rattle.portgraph.specs.Calls.{add_node, link_ports, unlink_port, place_node, with_links}
use Rattle.port_tables.specs.ResizeLinks.{round_up}
use Rattle.portgraph.specs.GoodSlots.{gone_not_live, zero_is_not_one, slots_apart, joined_is_valid, same_place_lem, node_below}
use Rattle.portgraph.specs.GoodLaws.{good_link, good_unlink, good_add, next_slot_gone}
use Rattle.portgraph.specs.LinkHolds.{link_done, link_holds, unlink_linked, unlink_holds}
use Rattle.portgraph.specs.SlotHolds.{add_law, add_where, place_holds, slot_room, block_room}
use Rattle.portgraph.specs.PlaceLaws.{meta_of_node, port_index_is, port_link_to, link_to}
use Rattle.port_tables.specs.declared.node_entry.NodeMeta.{NodeMeta}
use Rattle.port_tables.specs.declared.index.NodeIndex.{NodeIndex}
use Rattle.port_tables.specs.declared.index.PortIndex.{PortIndex}
use Rattle.portgraph.specs.declared.portgraph.PortGraph.{PortGraph}
use Rattle.portgraph.specs.declared.portgraph.PortsLinked as lower_linked
use Rattle.portgraph.specs.declared.portgraph.PortUnlinked as lower_unlinked
use Rattle.portgraph.specs.declared.alloc.NodeAdded.{NodeAdded}
use Rattle.portgraph.specs.Model as model
use Rattle.portgraph.specs.Model.{Model, Far, nowhere, to, gone, live, Good, Holds, Valid, slot_of, ports_of, count_of, first_of, side_start}
use Rattle.port_tables.specs.declared.direction.Direction.{Direction}
use Rattle.port_tables.specs.declared.direction.Direction.TheVariants.{Incoming, Outgoing}
use Rattle.multiportgraph.specs.Reading.{is_hidden, is_split, copy_side, port_of, port_number, far_port, link_number}
use Rattle.multiportgraph.specs.Needs.{need_of}
use Rattle.multiportgraph.specs.NeedStays.{Alike, alike_same, alike_linked, need_alike}
use Rattle.multi_tables.specs.TableReads.{far_in, hang_on, copy_at, subports_at}
use Rattle.multiportgraph.specs.WellFormed.{inner#, copy_place, Copy, Marked, copy_port, main_port_lem, Fine, Seen, lift, lift_far, outer, IsEnd, WireIn, SameBlocks, SameWires, subports_of_slot, HasEnd}
use Rattle.multiportgraph.specs.Ends.{mark_below, wire_at, ends_join_ends, unsplit_no_copy, outer_of_subport, outer_of_block, not_reversed, side_cases, lift_place}
use Rattle.multiportgraph.specs.HiddenStays.{same_copy, same_wire, wire_again, same_slot}
use Rattle.multiportgraph.specs.declared.multiportgraph.MultiPortGraph.{MultiPortGraph}
use Rattle.port_tables.specs.Places.{Place, Wire, wire_of_sides, flag}
use Rattle.multiportgraph.specs.HiddenNodes.{copy_incoming, copy_outgoing, Prepared, ready, full, split, split_by, split_port, split_graph, split_under}
use Rattle.multiportgraph.specs.Ends.{twice_reversed}

-- a free end that stays as it is
pub record KeptEnd (m : MultiPortGraph) (M : Model) (m' : MultiPortGraph) (M' : Model) (v : model.InnerPlace) : Type 0 where
  pub end : IsEnd m' M' v
  pub free : M'.join v ≡ nowhere
  pub slot : slot_of M'.node v ≡ slot_of M.node v
  pub is : outer m' M' v ≡ outer m M v

-- An end of the port at x is prepared: q is an inner port that is free, and it is the end of x with the lowest unwired offset o.
-- Blocks and wires are the same.
pub record PreparedEnd (m : MultiPortGraph) (M : Model) (x : model.InnerPlace) (m' : MultiPortGraph) (M' : Model) (q o : ℕ) : Type 0 where
  pub fine : Fine m' M'
  pub wires : SameWires m M m' M'
  pub blocks : SameBlocks m M m' M'
  pub z : model.InnerPlace
  pub end : IsEnd m' M' z
  pub slot : slot_of M'.node z ≡ q
  pub side : z.side ≡ x.side
  pub free : M'.join z ≡ nowhere
  pub is : outer m' M' z ≡ lift x o
  pub lower : (i : ℕ) → i < o → (w : Wire) × WireIn m M w × HasEnd w (lift x i)
  pub none : (w : Wire) → WireIn m M w → HasEnd w (lift x o) → ⊥
  -- free ends on the other side stay as they are
  pub keeps : (v : model.InnerPlace) → IsEnd m M v → M.join v ≡ nowhere → (v.side ≡ x.side → ⊥) → KeptEnd m M m' M' v
  -- every other port needs what it needed
  pub others : (v : model.InnerPlace) → Seen m M v → (v ≡ x → ⊥) → need_of m' (slot_of M.node v) v.side ≡ need_of m (slot_of M.node v) v.side

-- Wires and their ends.

lift_same : (x y : model.InnerPlace) (o r : ℕ) → lift x o ≡ lift y r → (x ≡ y) × (o ≡ r)
lift_same x y o r e = (lift_place e, ap (λ (w : Place). w.offset) e)

-- a linked end at a place
pub record LinkedEnd (m : MultiPortGraph) (M : Model) (p : Place) : Type 0 where
  pub near : model.InnerPlace
  pub far : model.InnerPlace
  pub joined : M.join near ≡ to far
  pub end : IsEnd m M near
  pub is : outer m M near ≡ p

module _ {m : MultiPortGraph} {M : Model} (f : Fine m M) where
  pub end_of_wire : (w : Wire) (p : Place) → WireIn m M w → HasEnd w p → LinkedEnd m M p
  end_of_wire w p h (inl e) =
      record { near = h.x; far = h.y; joined = h.joined; end = h.end; is = sym (ap (λ (v : Wire). v.out) h.is) ∙ e }
  end_of_wire w p h (inr e) =
      record {
        near = h.y;
        far = h.x;
        joined = f.good.join_back h.x h.y h.joined;
        end = ends_join_ends f h.x h.y h.end h.joined;
        is = sym (ap (λ (v : Wire). v.into) h.is) ∙ e;
      }

  pub wire_of_end : (x y : model.InnerPlace) → IsEnd m M x → M.join x ≡ to y → (w : Wire) × WireIn m M w × HasEnd w (outer m M x)
  wire_of_end x y e j = (wire_of_sides x.side (outer m M x) (outer m M y), wire_at f x y e j, has x.side)
    where
      has : (d : Direction) → HasEnd (wire_of_sides d (outer m M x) (outer m M y)) (outer m M x)
      has Outgoing = inl refl
      has Incoming = inr refl

-- a linked place is not the one it is linked with
linked_apart : {M : Model} → Good M → (x y : model.InnerPlace) → M.join x ≡ to y → y ≡ x → ⊥
linked_apart g x y j q = g.join_sides x y j (ap (λ (w : model.InnerPlace). w.side) (sym q))

-- The copy port's side, by the counts and one mark.

abbrev pub side_by : ℕ → ℕ → Bool → Direction
side_by i o mark = cond (eqb i 1) (cond (eqb o 1) (cond mark Incoming Outgoing) Incoming) Outgoing

module _ {g : PortGraph} {M : Model} (good : Good M) (holds : Holds g M) where
  counts_at : (n : ℕ) (k : NodeMeta) → M.node n ≡ live k → (d : Direction) → num_ports g n d ≡ ports_on k d
  counts_at n k e d = ap (λ v. count_in v d) (meta_of_node good holds n k e)

  port_at : (z : model.InnerPlace) → Valid M.node z → port_of g z.node z.side z.pos ≡ slot_of M.node z
  unfolding port_of
  port_at z v = ap port_number (port_index_is good holds z v)

module _ (m : MultiPortGraph) {M : Model} (good : Good M) (holds : Holds m.graph M) where
  pub copy_side_by : (n : ℕ) (k : NodeMeta) → M.node n ≡ live k →
      copy_side m n ≡ side_by k.incoming k.outgoing (is_split m (slot_of M.node (inner# n Incoming 0)))
  unfolding copy_side
  copy_side_by n k e = rw (counts_at good holds n k e Incoming, counts_at good holds n k e Outgoing) (go (eqb k.incoming 1) refl)
    where
      go : (b : Bool) → eqb k.incoming 1 ≡ b →
          side_by k.incoming k.outgoing (is_split m (port_of m.graph n Incoming 0))
          ≡ side_by k.incoming k.outgoing (is_split m (slot_of M.node (inner# n Incoming 0)))
      go true h =
          let one : k.incoming ≡ 1 = eqb-true _ _ h in
          let v : Valid M.node (inner# n Incoming 0) = rw e (omega arith) in
          ap (λ s. side_by k.incoming k.outgoing (is_split m s)) (port_at good holds (inner# n Incoming 0) v)
      go false h = rw h

-- The port at x is split: node c comes, linked with x, and the old link of x, with y, is at the first subport.
record Divided (m : MultiPortGraph) (M : Model) (x y : model.InnerPlace) (m' : MultiPortGraph) (M' : Model) (c : ℕ) : Type 0 where
  good : Good M'
  holds : Holds m'.graph M'
  marks_long : length m'.multiport ≡ port_slots
  flags_long : length m'.copy_node ≡ node_slots
  unused : M.node c ≡ gone
  below : c < node_slots
  k : NodeMeta
  here : M'.node c ≡ live k
  ins : k.incoming ≡ copy_incoming x.side
  outs : k.outgoing ≡ copy_outgoing x.side
  node : (n : ℕ) → (n ≡ c → ⊥) → M'.node n ≡ M.node n
  at_port : M'.join x ≡ to (inner# c (reversed x.side) 0)
  at_copy : M'.join (inner# c (reversed x.side) 0) ≡ to x
  at_first : M'.join (inner# c x.side 0) ≡ to y
  at_far : M'.join y ≡ to (inner# c x.side 0)
  at_second : M'.join (inner# c x.side 1) ≡ nowhere
  elsewhere : (z : model.InnerPlace) → (z ≡ x → ⊥) → (z ≡ y → ⊥) → (z.node ≡ c → ⊥) → M'.join z ≡ M.join z
  hidden_here : is_hidden m' c ≡ true
  hidden_else : (n : ℕ) → (n ≡ c → ⊥) → is_hidden m' n ≡ is_hidden m n
  port_marked : is_split m' (slot_of M.node x) ≡ true
  copy_marked : is_split m' (slot_of M'.node (inner# c (reversed x.side) 0)) ≡ true
  marked_else : (s : ℕ) → (s ≡ slot_of M.node x → ⊥) → (s ≡ slot_of M'.node (inner# c (reversed x.side) 0) → ⊥) → is_split m' s ≡ is_split m s
  copies : m'.copy_node_count ≡ m.copy_node_count + 1
  subs : m'.subport_count ≡ m.subport_count + 2

pub two_subports : (d : Direction) (k : NodeMeta) → k.incoming ≡ copy_incoming d → k.outgoing ≡ copy_outgoing d → ports_on k d ≡ 2
two_subports Incoming k i o = i
two_subports Outgoing k i o = o

one_copy_port : (d : Direction) (k : NodeMeta) → k.incoming ≡ copy_incoming d → k.outgoing ≡ copy_outgoing d → ports_on k (reversed d) ≡ 1
one_copy_port Incoming k i o = o
one_copy_port Outgoing k i o = i

copy_side_apart : (d : Direction) (mark : Bool) → side_by (copy_incoming d) (copy_outgoing d) mark ≡ reversed d
copy_side_apart Incoming mark = refl
copy_side_apart Outgoing mark = refl

three_ports : (d : Direction) → copy_incoming d + copy_outgoing d ≡ 3
three_ports Incoming = refl
three_ports Outgoing = refl

module _ {m : MultiPortGraph} {M : Model} {x y : model.InnerPlace} {m' : MultiPortGraph} {M' : Model} {c : ℕ}
    (f : Fine m M) (s : Divided m M x y m' M' c) (sx : Seen m M x) (plain : is_split m (slot_of M.node x) ≡ false) (linked : M.join x ≡ to y) where
  abbrev copy# : model.InnerPlace
  copy# = inner# c (reversed x.side) 0

  abbrev sub# : ℕ → model.InnerPlace
  sub# i = inner# c x.side i

  was_plain : is_hidden m c ≡ false
  was_plain = go (is_hidden m c) refl
    where
      go : (b : Bool) → is_hidden m c ≡ b → is_hidden m c ≡ false
      go true h = absurd (gone_not_live s.unused (f.copy c h).here)
      go false h = h

  not_new : (z : model.InnerPlace) → Valid M.node z → z.node ≡ c → ⊥
  not_new z v q = let v' : z.pos < 0 = subst (λ w. z.pos < count_of w z.side) (ap M.node q ∙ s.unused) v in omega arith

  hidden_not_new : (n : ℕ) → is_hidden m n ≡ true → n ≡ c → ⊥
  hidden_not_new n h q = zero_is_not_one (let e = ap (is_hidden m) q in let e' = was_plain in cc)

  slot_same : (z : model.InnerPlace) → (z.node ≡ c → ⊥) → slot_of M'.node z ≡ slot_of M.node z
  slot_same z n = same_slot M M' z (s.node z.node n)

  valid_kept : (z : model.InnerPlace) → Valid M.node z → Valid M'.node z
  valid_kept z v = subst (λ w. z.pos < count_of w z.side) (sym (s.node z.node (not_new z v))) v

  valid_back : (z : model.InnerPlace) → (z.node ≡ c → ⊥) → Valid M'.node z → Valid M.node z
  valid_back z n v = subst (λ w. z.pos < count_of w z.side) (s.node z.node n) v

  valid_copy : Valid M'.node copy#
  valid_copy = s.good.join_valid copy# x s.at_copy

  split_kept : (z : model.InnerPlace) → Valid M.node z → (z ≡ x → ⊥) → is_split m' (slot_of M'.node z) ≡ is_split m (slot_of M.node z)
  split_kept z v n =
      let e = slot_same z (not_new z v) in
      ap (is_split m') e
      ∙ s.marked_else (slot_of M.node z) (λ q. n (slots_apart f.good z x v sx.0 q))
      (λ q. not_new z v (ap (λ (w : model.InnerPlace). w.node) (slots_apart s.good z copy# (valid_kept z v) valid_copy (e ∙ q))))

  split_more : (p : ℕ) → is_split m p ≡ true → is_split m' p ≡ true
  split_more p e = ⊎_elim (λ q. ap (is_split m') q ∙ s.port_marked) (λ n. ⊎_elim (λ q. ap (is_split m') q ∙ s.copy_marked) (λ k. s.marked_else p n k ∙ e)
      (cases_eq p (slot_of M'.node copy#))) (cases_eq p (slot_of M.node x))

  side_new : copy_side m' c ≡ reversed x.side
  side_new = copy_side_by m' s.good s.holds c s.k s.here ∙ rw (s.ins, s.outs) (copy_side_apart x.side (is_split m' (slot_of M'.node (inner# c Incoming 0))))

  side_kept : (n : ℕ) → is_hidden m n ≡ true → copy_side m' n ≡ copy_side m n
  side_kept n h =
      copy_side_by m' s.good s.holds n r.meta (s.node n (hidden_not_new n h) ∙ r.here)
      ∙ (go (eqb r.meta.incoming 1) refl
      ∙ sym (copy_side_by m f.good f.holds n r.meta r.here))
    where
      r : Copy m M n
      r = f.copy n h

      go : (b : Bool) → eqb r.meta.incoming 1 ≡ b →
          side_by r.meta.incoming r.meta.outgoing (is_split m' (slot_of M'.node (inner# n Incoming 0)))
          ≡ side_by r.meta.incoming r.meta.outgoing (is_split m (slot_of M.node (inner# n Incoming 0)))
      go true e =
          let one : r.meta.incoming ≡ 1 = eqb-true _ _ e in
          let v : Valid M.node (inner# n Incoming 0) = rw r.here (omega arith) in
          ap (side_by r.meta.incoming r.meta.outgoing) (split_kept (inner# n Incoming 0) v
          (λ q. zero_is_not_one (let a = ap (λ (w : model.InnerPlace). is_hidden m w.node) q in let b = sx.1 in cc)))
      go false e = rw e

  far_no_copy : (n : ℕ) → is_hidden m n ≡ true → copy_place m n ≡ y → ⊥
  far_no_copy n h q =
      zero_is_not_one (let a = f.main_marked n x h (ap M.join q ∙ f.good.join_back x y linked) in cc)

  copy_joined : (n : ℕ) → is_hidden m n ≡ true → M'.join (copy_place m' n) ≡ M.join (copy_place m n)
  copy_joined n h =
      ap M'.join (same_copy (side_kept n h))
      ∙ s.elsewhere (copy_place m n)
      (λ q. zero_is_not_one (let a = ap (λ (w : model.InnerPlace). is_hidden m w.node) q in let b = sx.1 in cc))
      (far_no_copy n h) (hidden_not_new n h)

  outer_kept : (z : model.InnerPlace) → (z.node ≡ c → ⊥) → outer m' M' z ≡ outer m M z
  unfolding outer
  outer_kept z n = go (is_hidden m z.node) refl
    where
      go : (b : Bool) → is_hidden m z.node ≡ b →
          cond (is_hidden m' z.node) (lift_far (M'.join (copy_place m' z.node)) z.pos z) (lift z 0)
          ≡ cond (is_hidden m z.node) (lift_far (M.join (copy_place m z.node)) z.pos z) (lift z 0)
      go true h = rw (s.hidden_else z.node n, h) (ap (λ w. lift_far w z.pos z) (copy_joined z.node h))
      go false h = rw (s.hidden_else z.node n, h) refl

  outer_first : outer m' M' (sub# 0) ≡ lift x 0
  unfolding outer
  outer_first = rw s.hidden_here (ap (λ d. lift_far (M'.join (inner# c d 0)) 0 (sub# 0)) side_new ∙ ap (λ w. lift_far w 0 (sub# 0)) s.at_copy)

  outer_second : outer m' M' (sub# 1) ≡ lift x 1
  unfolding outer
  outer_second = rw s.hidden_here (ap (λ d. lift_far (M'.join (inner# c d 0)) 1 (sub# 1)) side_new ∙ ap (λ w. lift_far w 1 (sub# 1)) s.at_copy)

  outer_port : outer m M x ≡ lift x 0
  outer_port = outer_of_block f x sx.1

  end_kept : (z : model.InnerPlace) → IsEnd m M z → (z ≡ x → ⊥) → IsEnd m' M' z
  end_kept z e n =
      let new = not_new z e.valid in
      let same = s.hidden_else z.node new in
      record {
        valid = valid_kept z e.valid;
        unsplit = λ h. split_kept z e.valid n ∙ e.unsplit (sym same ∙ h);
        subport = λ h q. e.subport (sym same ∙ h) (q ∙ side_kept z.node (sym same ∙ h));
      }

  end_back : (z : model.InnerPlace) → IsEnd m' M' z → (z ≡ x → ⊥) → (z.node ≡ c → ⊥) → IsEnd m M z
  end_back z e n new =
      let same = s.hidden_else z.node new in
      let v = valid_back z new e.valid in
      record {
        valid = v;
        unsplit = λ h. sym (split_kept z v n) ∙ e.unsplit (same ∙ h);
        subport = λ h q. e.subport (same ∙ h) (q ∙ sym (side_kept z.node h));
      }

  port_end : IsEnd m M x
  port_end = record { valid = sx.0; unsplit = λ h. plain; subport = λ h q. zero_is_not_one (let a = sx.1 in cc) }

  valid_sub : (i : ℕ) → i < 2 → Valid M'.node (sub# i)
  valid_sub i l = rw (s.here, two_subports x.side s.k s.ins s.outs) l

  sub_end : (i : ℕ) → i < 2 → IsEnd m' M' (sub# i)
  sub_end i l =
      record {
        valid = valid_sub i l;
        unsplit = λ h. absurd (zero_is_not_one (let a = s.hidden_here in cc));
        subport = λ h q. not_reversed x.side (sym side_new ∙ sym q);
      }

  port_no_end : IsEnd m' M' x → ⊥
  port_no_end e =
      let new = not_new x sx.0 in
      let a : is_split m' (slot_of M'.node x) ≡ true = ap (is_split m') (slot_same x new) ∙ s.port_marked in
      let b = e.unsplit (s.hidden_else x.node new ∙ sx.1) in
      zero_is_not_one (cc)

  far_end : IsEnd m M y
  far_end = ends_join_ends f x y port_end linked

  far_valid : Valid M.node y
  far_valid = far_end.valid

  -- The invariant.

  new_joined : M'.join (copy_place m' c) ≡ to x
  new_joined = ap (λ d. M'.join (inner# c d 0)) side_new ∙ s.at_copy

  copy_after : Copy m' M' c
  copy_after =
      record {
        meta = s.k;
        here = s.here;
        single = rw side_new (one_copy_port x.side s.k s.ins s.outs);
        several = rw (side_new, twice_reversed) (let e = two_subports x.side s.k s.ins s.outs in omega arith);
        main = x;
        joined = new_joined;
        main_seen = s.hidden_else x.node (not_new x sx.0) ∙ sx.1;
      }

  hidden_before : (n : ℕ) → (n ≡ c → ⊥) → is_hidden m' n ≡ true → is_hidden m n ≡ true
  hidden_before n new h = sym (s.hidden_else n new) ∙ h

  copy_other : (n : ℕ) → (n ≡ c → ⊥) → is_hidden m n ≡ true → Copy m' M' n
  copy_other n new h =
      let r = f.copy n h in
      record {
        meta = r.meta;
        here = s.node n new ∙ r.here;
        single = rw (side_kept n h) r.single;
        several = rw (side_kept n h) r.several;
        main = r.main;
        joined = copy_joined n h ∙ r.joined;
        main_seen = s.hidden_else r.main.node (not_new r.main (joined_is_valid f.good (copy_place m n) r.main r.joined)) ∙ r.main_seen;
      }

  main_after : (n : ℕ) (z : model.InnerPlace) → is_hidden m' n ≡ true → M'.join (copy_place m' n) ≡ to z → is_split m' (slot_of M'.node z) ≡ true
  main_after n z h j = ⊎_elim new old (cases_eq n c)
    where
      new : n ≡ c → is_split m' (slot_of M'.node z) ≡ true
      new q =
          let e : M'.join (copy_place m' n) ≡ to x = ap (λ k. M'.join (copy_place m' k)) q ∙ new_joined in
          let r : z ≡ x = cc in
          ap (λ w. is_split m' (slot_of M'.node w)) r ∙ (ap (is_split m') (slot_same x (not_new x sx.0)) ∙ s.port_marked)

      old : (n ≡ c → ⊥) → is_split m' (slot_of M'.node z) ≡ true
      old q =
          let b = hidden_before n q h in
          let e : M.join (copy_place m n) ≡ to z = sym (copy_joined n b) ∙ j in
          ap (is_split m') (slot_same z (not_new z (joined_is_valid f.good (copy_place m n) z e))) ∙ split_more _ (f.main_marked n z b e)

  mark_kept : (p : ℕ) → Marked m M p → Marked m' M' p
  mark_kept p (copy_port n h q) =
      let new = hidden_not_new n h in
      copy_port n (s.hidden_else n new ∙ h) (ap (slot_of M'.node) (same_copy (side_kept n h)) ∙ (slot_same (copy_place m n) new ∙ q))
  mark_kept p (main_port_lem n z h j q) =
      main_port_lem n z (s.hidden_else n (hidden_not_new n h) ∙ h) (copy_joined n h ∙ j)
      (slot_same z (not_new z (joined_is_valid f.good (copy_place m n) z j)) ∙ q)

  subports_new : subports_of_slot m' M' c ≡ 2
  subports_new = rw (s.hidden_here, s.here, s.ins, s.outs, three_ports x.side)

  subports_old : subports_of_slot m M c ≡ 0
  subports_old = rw was_plain

  split_fine : Fine m' M'
  split_fine =
      record {
        good = s.good;
        holds = s.holds;
        marks_long = s.marks_long;
        flags_long = s.flags_long;
        copy = λ n h. ⊎_elim (λ q. subst (Copy m' M') (sym q) copy_after) (λ q. copy_other n q (hidden_before n q h)) (cases_eq n c);
        copy_marked = λ n h.
            ⊎_elim
            (λ q. ap (λ k. is_split m' (slot_of M'.node (copy_place m' k))) q
            ∙ (ap (λ d. is_split m' (slot_of M'.node (inner# c d 0))) side_new ∙ s.copy_marked))
            (λ q. ap (is_split m') (ap (slot_of M'.node) (same_copy (side_kept n (hidden_before n q h))) ∙ slot_same (copy_place m n) q)
            ∙ split_more _ (f.copy_marked n (hidden_before n q h)))
            (cases_eq n c);
        main_marked = main_after;
        only_marked = λ p e.
            ⊎_elim (λ q. main_port_lem c x s.hidden_here (new_joined) (slot_same x (not_new x sx.0) ∙ sym q))
            (λ n. ⊎_elim (λ q. copy_port c s.hidden_here (ap (λ d. slot_of M'.node (inner# c d 0)) side_new ∙ sym q))
            (λ k. mark_kept p (f.only_marked p (sym (s.marked_else p n k) ∙ e)))
            (cases_eq p (slot_of M'.node copy#))) (cases_eq p (slot_of M.node x));
        copies =
            let t = total_one node_slots c (λ n. flag (is_hidden m n)) (λ n. flag (is_hidden m' n)) s.below (λ i l n. ap flag (sym (s.hidden_else i n))) in
            let a = ap flag was_plain in
            let b = ap flag s.hidden_here in
            let d = s.copies in
            let e = f.copies in
            omega arith;
        subs =
            let t = total_one node_slots c (subports_of_slot m M) (subports_of_slot m' M') s.below
            (λ i l n. sym (ap (λ b. cond b (ports_of (M'.node i) - 1) 0) (s.hidden_else i n) ∙ ap (λ w. cond (is_hidden m i) (ports_of w - 1) 0) (s.node i n))) in
            let a = subports_old in
            let b = subports_new in
            let d = s.subs in
            let e = f.subs in
            omega arith;
      }

  -- Wires and blocks.

  place_of_new : (z : model.InnerPlace) → z.node ≡ c → Valid M'.node z → (z ≡ copy#) ⊎ ((z ≡ sub# 0) ⊎ (z ≡ sub# 1))
  place_of_new z q v = ⊎_elim (λ d. inr (sub d)) (λ d. inl (copied d)) (side_cases z.side x.side)
    where
      count : z.pos < count_of (M'.node c) z.side
      count = subst (λ n. z.pos < count_of (M'.node n) z.side) q v

      sub : z.side ≡ x.side → (z ≡ sub# 0) ⊎ (z ≡ sub# 1)
      sub d =
          let l : z.pos < 2 = subst (λ k. z.pos < k) (ap (λ w. count_of w x.side) s.here ∙ two_subports x.side s.k s.ins s.outs) (subst (λ e. z.pos < count_of (M'.node c) e) d count) in
          ⊎_elim (λ h. inl (same_place_lem z (sub# 0) q d h)) (λ h. inr (same_place_lem z (sub# 1) q d (omega arith))) (cases_eq z.pos 0)

      copied : z.side ≡ reversed x.side → z ≡ copy#
      copied d =
          let l : z.pos < 1 = subst (λ k. z.pos < k) (ap (λ w. count_of w (reversed x.side)) s.here ∙ one_copy_port x.side s.k s.ins s.outs) (subst (λ e. z.pos < count_of (M'.node c) e) d count) in
          same_place_lem z copy# q d (omega arith)

  wire_kept : (w : Wire) → WireIn m M w → WireIn m' M' w
  wire_kept w h = ⊎_elim near (λ n. ⊎_elim far (other n) (place_cases h.x y)) (place_cases h.x x)
    where
      near : h.x ≡ x → WireIn m' M' w
      near q =
          let j = h.joined in
          let e = ap M.join q in
          let r : h.y ≡ y = cc in
          record {
            x = sub# 0;
            y = y;
            joined = s.at_first;
            outgoing = ap (λ (a : model.InnerPlace). a.side) (sym q) ∙ h.outgoing;
            end = sub_end 0 (omega arith);
            is = h.is ∙ same_wire (ap (outer m M) q ∙ (outer_port ∙ sym outer_first)) (ap (outer m M) r ∙ sym (outer_kept y (not_new y far_valid)));
          }

      far : h.x ≡ y → WireIn m' M' w
      far q =
          let j = h.joined in
          let e = ap M.join q in
          let b = f.good.join_back x y linked in
          let r : h.y ≡ x = cc in
          record {
            x = y;
            y = sub# 0;
            joined = s.at_far;
            outgoing = ap (λ (a : model.InnerPlace). a.side) (sym q) ∙ h.outgoing;
            end = end_kept y far_end (linked_apart f.good x y linked);
            is = h.is ∙ same_wire (ap (outer m M) q ∙ sym (outer_kept y (not_new y far_valid))) (ap (outer m M) r ∙ (outer_port ∙ sym outer_first));
          }

      other : (h.x ≡ x → ⊥) → (h.x ≡ y → ⊥) → WireIn m' M' w
      other a b =
          let new = not_new h.x h.end.valid in
          wire_again h (s.elsewhere h.x a b new ∙ h.joined) (end_kept h.x h.end a) (outer_kept h.x new) (outer_kept h.y (not_new h.y (joined_is_valid f.good h.x h.y h.joined)))

  wire_back : (w : Wire) → WireIn m' M' w → WireIn m M w
  wire_back w h =
      ⊎_elim (λ q. absurd (port_no_end (subst (IsEnd m' M') q h.end)))
      (λ n. ⊎_elim far (λ k. ⊎_elim (λ q. new q (place_of_new h.x q h.end.valid)) (other n k) (cases_eq h.x.node c)) (place_cases h.x y))
      (place_cases h.x x)
    where
      far : h.x ≡ y → WireIn m M w
      far q =
          let j = h.joined in
          let e = ap M'.join q in
          let b = s.at_far in
          let r : h.y ≡ sub# 0 = cc in
          record {
            x = y;
            y = x;
            joined = f.good.join_back x y linked;
            outgoing = ap (λ (a : model.InnerPlace). a.side) (sym q) ∙ h.outgoing;
            end = far_end;
            is = h.is ∙ same_wire (ap (outer m' M') q ∙ outer_kept y (not_new y far_valid)) (ap (outer m' M') r ∙ (outer_first ∙ sym outer_port));
          }

      first : h.x ≡ sub# 0 → WireIn m M w
      first q =
          let j = h.joined in
          let e = ap M'.join q in
          let b = s.at_first in
          let r : h.y ≡ y = cc in
          record {
            x = x;
            y = y;
            joined = linked;
            outgoing = ap (λ (a : model.InnerPlace). a.side) (sym q) ∙ h.outgoing;
            end = port_end;
            is = h.is ∙ same_wire (ap (outer m' M') q ∙ (outer_first ∙ sym outer_port)) (ap (outer m' M') r ∙ outer_kept y (not_new y far_valid));
          }

      new : h.x.node ≡ c → (h.x ≡ copy#) ⊎ ((h.x ≡ sub# 0) ⊎ (h.x ≡ sub# 1)) → WireIn m M w
      new n (inl q) =
          absurd (h.end.subport (ap (is_hidden m') n ∙ s.hidden_here) (ap (λ (a : model.InnerPlace). a.side) q ∙ (sym side_new ∙ ap (copy_side m') (sym n))))
      new n (inr (inl q)) = first q
      new n (inr (inr q)) = absurd (zero_is_not_one (let j = h.joined in let e = ap M'.join q in let b = s.at_second in cc))

      other : (h.x ≡ x → ⊥) → (h.x ≡ y → ⊥) → (h.x.node ≡ c → ⊥) → WireIn m M w
      other a b n =
          let j : M.join h.x ≡ to h.y = sym (s.elsewhere h.x a b n) ∙ h.joined in
          wire_again h j (end_back h.x h.end a n) (sym (outer_kept h.x n)) (sym (outer_kept h.y (not_new h.y (joined_is_valid f.good h.x h.y j))))

  split_blocks : SameBlocks m M m' M'
  split_blocks = (
    (λ n k b. let new : n ≡ c → ⊥ = λ q. gone_not_live (ap M.node q ∙ s.unused) b.1 in (s.hidden_else n new ∙ b.0, s.node n new ∙ b.1)),
    (λ n k b.
        let new : n ≡ c → ⊥ = λ q. zero_is_not_one (let e = ap (is_hidden m') q in let h = b.0 in let t = s.hidden_here in cc) in
        (sym (s.hidden_else n new) ∙ b.0, sym (s.node n new) ∙ b.1)),
  )

  -- the port had offset 0 only
  no_second : (z : model.InnerPlace) → IsEnd m M z → outer m M z ≡ lift x 1 → ⊥
  no_second z e q = go (is_hidden m z.node) refl
    where
      go : (b : Bool) → is_hidden m z.node ≡ b → ⊥
      go true h =
          let r = f.copy z.node h in
          let a = lift_same r.main x z.pos 1 (sym (outer_of_subport f z r.main h r.joined) ∙ q) in
          unsplit_no_copy f x plain z.node h (r.joined ∙ ap to a.0)
      go false h = zero_is_not_one (lift_same z x 0 1 (sym (outer_of_block f z h) ∙ q)).1

  -- other ports, and the subports of other hidden nodes, are linked where they were
  linked_still : (v : model.InnerPlace) → Valid M.node v → (v ≡ x → ⊥) → Alike (M'.join v) (M.join v)
  linked_still v e other =
      ⊎_elim
      (λ q. alike_linked (M'.join v) (M.join v) (sub# 0) x (ap M'.join q ∙ s.at_far) (ap M.join q ∙ f.good.join_back x y linked))
      (λ apart. alike_same (M'.join v) (M.join v) (s.elsewhere v other apart (not_new v e)))
      (place_cases v y)

  others_need : (v : model.InnerPlace) → Seen m M v → (v ≡ x → ⊥) → need_of m' (slot_of M.node v) v.side ≡ need_of m (slot_of M.node v) v.side
  others_need v sv other =
      let new = not_new v sv.0 in
      need_alike f split_fine v sv (s.node v.node new) (ap (is_split m') (sym (slot_same v new)) ∙ split_kept v sv.0 other) (linked_still v sv.0 other)
      (λ h.
      record {
        hid = s.hidden_else h.copy (hidden_not_new h.copy h.is_copy) ∙ h.is_copy;
        from = copy_joined h.copy h.is_copy ∙ h.from;
        node = s.node h.copy (hidden_not_new h.copy h.is_copy);
        links = λ i l.
            linked_still (inner# h.copy v.side i) l
            (λ q. zero_is_not_one (let a = ap (λ (w : model.InnerPlace). is_hidden m w.node) q in let b = sx.1 in let k = h.is_copy in cc));
      })

  split_prepared : PreparedEnd m M x m' M' (slot_of M'.node (sub# 1)) 1
  split_prepared =
      record {
        fine = split_fine;
        wires = record { kept = λ w h t. wire_kept w h; came = λ w h. absurd h; only = λ w h. inl (wire_back w h, refl) };
        blocks = split_blocks;
        z = sub# 1;
        end = sub_end 1 (omega arith);
        slot = refl;
        side = refl;
        free = s.at_second;
        is = outer_second;
        lower = λ i l.
            let r = wire_of_end f x y port_end linked in
            let z : i ≡ 0 = omega arith in
            (r.0, r.1, subst (HasEnd r.0) (outer_port ∙ ap (lift x) (sym z)) r.2);
        none = λ w h e. let r = end_of_wire f w (lift x 1) h e in no_second r.near r.end r.is;
        keeps = λ v e j n.
            let other : v ≡ x → ⊥ = λ q. zero_is_not_one (let a = ap M.join q in cc) in
            let apart : v ≡ y → ⊥ = λ q. zero_is_not_one (let a = ap M.join q in let b = f.good.join_back x y linked in cc) in
            let new = not_new v e.valid in
            record {
              end = end_kept v e other;
              free = s.elsewhere v other apart new ∙ j;
              slot = slot_same v new;
              is = outer_kept v new;
            };
        others = others_need;
      }

-- What a split does to the tables of a graph in which node c was added, with its block from first on.
pub record SplitTables (p : ℕ) (d : Direction) (g : PortGraph) (c first : ℕ) : Type 0 where
  pub graph : split_graph g p d c
      ≡ with_links g (hang_on g.port_link p (first + copy_at d) (first + subports_at d)) (g.link_count - link_count (at g.port_link p) + 2)
  pub copy : port_of g c (reversed d) 0 ≡ first + copy_at d
  pub old : port_of g c d 0 ≡ first + subports_at d
  pub new : port_of g c d 1 ≡ first + subports_at d + 1
  pub held : link_count (at g.port_link p) ≡ 1
  pub fits : first + 3 ≤ port_slots

-- The lower graph's steps.

module _ {g : PortGraph} {M : Model} (good : Good M) (holds : Holds g M) where
  cut_step : (x y : model.InnerPlace) → M.join x ≡ to y → Holds (unlink_port g (slot_of M.node x)).graph (unlink_model M x)
  cut_step x y j =
      let v = good.join_valid x y j in
      rw (unlink_linked good holds x y v j) (unlink_holds good holds x v)

  pub link_step : (x y : model.InnerPlace) → Valid M.node x → Valid M.node y → M.join x ≡ nowhere → M.join y ≡ nowhere → (x.side ≡ y.side → ⊥) →
      Holds (link_ports g (slot_of M.node x) (slot_of M.node y)).graph (link_model M x y)
  link_step x y vx vy fx fy d = rw (link_done good holds x y vx vy d fx fy) (link_holds good holds x y vx vy fx fy d)

  far_at : (x y : model.InnerPlace) → M.join x ≡ to y → far_port g (slot_of M.node x) ≡ slot_of M.node y
  unfolding far_port
  far_at x y j = ap link_number (port_link_to good holds x y (good.join_valid x y j) j)

-- a graph with one link more
abbrev linked_to : ℕ → ℕ → PortGraph → PortGraph
linked_to a b g = with_links g (link_both g.port_link a b) (g.link_count + 1)

module _ {m : MultiPortGraph} {M : Model} (f : Fine m M) (x y : model.InnerPlace) (sx : Seen m M x) (linked : M.join x ≡ to y)
    (small : copy_incoming x.side + copy_outgoing x.side ≤ node_ports)
    (node_room : M.node_len + growth 1 M.free_nodes ≤ node_slots)
    (port_room : M.port_len + growth (copy_incoming x.side + copy_outgoing x.side) (M.free_blocks (copy_incoming x.side + copy_outgoing x.side)) ≤ port_slots) where
  abbrev c# : ℕ
  c# = next_slot M

  abbrev new# : NodeMeta
  new# = meta_of (next_block M (copy_incoming x.side + copy_outgoing x.side)) (copy_incoming x.side) (copy_outgoing x.side) (copy_incoming x.side + copy_outgoing x.side)

  abbrev g₁ : PortGraph
  g₁ = place_node m.graph c# (next_block M (copy_incoming x.side + copy_outgoing x.side)) (copy_incoming x.side) (copy_outgoing x.side)

  abbrev M₁ : Model
  M₁ = add_model M (copy_incoming x.side) (copy_outgoing x.side)

  abbrev cp : model.InnerPlace
  cp = inner# c# (reversed x.side) 0

  abbrev sp : ℕ → model.InnerPlace
  sp i = inner# c# x.side i

  abbrev M₂ : Model
  M₂ = unlink_model M₁ x

  abbrev M₃ : Model
  M₃ = link_model M₂ x cp

  abbrev M₄ : Model
  M₄ = link_model M₃ (sp 0) y

  good₁ : Good M₁
  good₁ = good_add f.good (copy_incoming x.side) (copy_outgoing x.side) small node_room port_room

  holds₁ : Holds g₁ M₁
  holds₁ = place_holds f.good f.holds (copy_incoming x.side) (copy_outgoing x.side) small node_room port_room

  was_gone : M.node c# ≡ gone
  was_gone = next_slot_gone f.good

  is_new : M₁.node c# ≡ live new#
  is_new = upd_same M.node c# (live new#)

  old_place : (z : model.InnerPlace) → Valid M.node z → z.node ≡ c# → ⊥
  old_place z v q = let v' : z.pos < 0 = subst (λ w. z.pos < count_of w z.side) (ap M.node q ∙ was_gone) v in omega arith

  old_node : (n : ℕ) → (n ≡ c# → ⊥) → M₁.node n ≡ M.node n
  old_node n k = upd_other M.node c# (live new#) n k

  x_old : x.node ≡ c# → ⊥
  x_old = old_place x sx.0

  y_old : y.node ≡ c# → ⊥
  y_old = old_place y (joined_is_valid f.good x y linked)

  apart_from : (z : model.InnerPlace) (d : Direction) (i : ℕ) → (z.node ≡ c# → ⊥) → z ≡ inner# c# d i → ⊥
  apart_from z d i n q = n (ap (λ (w : model.InnerPlace). w.node) q)

  slot_of_x : slot_of M₁.node x ≡ slot_of M.node x
  slot_of_x = ap (λ w. first_of w + (side_start w x.side + x.pos)) (old_node x.node x_old)

  valid_x : Valid M₁.node x
  valid_x = good₁.join_valid x y linked

  valid_y : Valid M₁.node y
  valid_y = joined_is_valid good₁ x y linked

  valid_cp : Valid M₁.node cp
  valid_cp = rw (is_new, one_copy_port x.side new# refl refl) (omega arith)

  valid_sp : (i : ℕ) → i < 2 → Valid M₁.node (sp i)
  valid_sp i l = rw (is_new, two_subports x.side new# refl refl) l

  no_join : (z : model.InnerPlace) → z.node ≡ c# → M.join z ≡ nowhere
  no_join z q = go (M.join z) refl
    where
      go : (w : Far) → M.join z ≡ w → M.join z ≡ nowhere
      go nowhere e = e
      go (to u) e = absurd (old_place z (f.good.join_valid z u e) q)

  x_cut : M₂.join x ≡ nowhere
  x_cut = drop_here (same_place x) M.join x (same_place_refl x)

  y_cut : M₂.join y ≡ nowhere
  y_cut = drop_there (same_place x) M.join y x (f.good.join_back x y linked) (same_place_refl x)

  new_free : (z : model.InnerPlace) → z.node ≡ c# → M₂.join z ≡ nowhere
  new_free z q = drop_nowhere (same_place x) M.join z (no_join z q)

  sub_not_copy : (i : ℕ) → sp i ≡ cp → ⊥
  sub_not_copy i q = not_reversed x.side (ap (λ (w : model.InnerPlace). w.side) (sym q))

  first_free : M₃.join (sp 0) ≡ nowhere
  first_free = link_other x cp M₂.join (sp 0) (λ q. apart_from x x.side 0 x_old (sym q)) (sub_not_copy 0) ∙ new_free (sp 0) refl

  y_free : M₃.join y ≡ nowhere
  y_free = link_other x cp M₂.join y (linked_apart f.good x y linked) (apart_from y (reversed x.side) 0 y_old) ∙ y_cut

  good₃ : Good M₃
  good₃ = good_link (good_unlink good₁ x) x cp valid_x valid_cp x_cut (new_free cp refl) (λ q. not_reversed x.side (sym q))

  holds₃ : Holds (link_ports (unlink_port g₁ (slot_of M₁.node x)).graph (slot_of M₁.node x) (slot_of M₁.node cp)).graph M₃
  holds₃ = link_step (good_unlink good₁ x) (cut_step good₁ holds₁ x y linked) x cp valid_x valid_cp x_cut (new_free cp refl) (λ q. not_reversed x.side (sym q))

  good₄ : Good M₄
  good₄ = good_link good₃ (sp 0) y (valid_sp 0 (omega arith)) valid_y first_free y_free (f.good.join_sides x y linked)

  holds₄ : Holds (split_graph g₁ (slot_of M.node x) x.side c#) M₄
  unfolding split_graph
  holds₄ =
      let a = port_at good₁ holds₁ cp valid_cp in
      let b = port_at good₁ holds₁ (sp 0) (valid_sp 0 (omega arith)) in
      let e : far_port g₁ (slot_of M.node x) ≡ slot_of M₁.node y = ap (far_port g₁) (sym slot_of_x) ∙ far_at good₁ holds₁ x y linked in
      subst (λ (g : PortGraph). Holds g M₄)
      (λ i. (link_ports (link_ports (unlink_port g₁ (slot_of_x i)).graph (slot_of_x i) (sym a i)).graph (sym b i) (sym e i)).graph)
      (link_step good₃ holds₃ (sp 0) y (valid_sp 0 (omega arith)) valid_y first_free y_free (f.good.join_sides x y linked))

  -- the same by the tables
  copy_at_lem : slot_of M₁.node cp ≡ next_block M (copy_incoming x.side + copy_outgoing x.side) + copy_at x.side
  copy_at_lem = ap (λ w. first_of w + (side_start w (reversed x.side) + 0)) is_new ∙ go x.side
    where
      go : (d : Direction) → first_of (live new#) + (side_start (live (meta_of (first_of (live new#)) (copy_incoming d) (copy_outgoing d) (copy_incoming d + copy_outgoing d))) (reversed d) + 0) ≡ first_of (live new#) + copy_at d
      go Incoming = omega arith
      go Outgoing = omega arith

  subport_at : (i : ℕ) → slot_of M₁.node (sp i) ≡ next_block M (copy_incoming x.side + copy_outgoing x.side) + subports_at x.side + i
  subport_at i = ap (λ w. first_of w + (side_start w x.side + i)) is_new ∙ go x.side
    where
      go : (d : Direction) → first_of (live new#) + (side_start (live (meta_of (first_of (live new#)) (copy_incoming d) (copy_outgoing d) (copy_incoming d + copy_outgoing d))) d + i) ≡ first_of (live new#) + subports_at d + i
      go Incoming = omega arith
      go Outgoing = omega arith

  far_in_lem : far_in g₁.port_link (slot_of M.node x) ≡ slot_of M₁.node y
  unfolding far_in
  far_in_lem = let e = link_to good₁ holds₁ x y valid_x linked in ap (λ (s : ℕ). at g₁.port_link s - 1) (sym slot_of_x) ∙ omega arith

  -- one link is cut
  held_lem : link_count (at g₁.port_link (slot_of M.node x)) ≡ 1
  unfolding link_count
  held_lem = let e = link_to good₁ holds₁ x y valid_x linked in rw (← slot_of_x, e, ne_eqb (suc (slot_of M₁.node y)) 0 (λ z. omega arith))

  links₄ : split_graph g₁ (slot_of M.node x) x.side c#
      ≡ with_links g₁
      (hang_on g₁.port_link (slot_of M.node x) (next_block M (copy_incoming x.side + copy_outgoing x.side) + copy_at x.side) (next_block M (copy_incoming x.side + copy_outgoing x.side) + subports_at x.side))
      (g₁.link_count - link_count (at g₁.port_link (slot_of M.node x)) + 2)
  unfolding split_graph hang_on
  links₄ =
      let a = port_at good₁ holds₁ cp valid_cp in
      let b = port_at good₁ holds₁ (sp 0) (valid_sp 0 (omega arith)) in
      let e : far_port g₁ (slot_of M.node x) ≡ slot_of M₁.node y = ap (far_port g₁) (sym slot_of_x) ∙ far_at good₁ holds₁ x y linked in
      let cut₁ = ap (λ (r : lower_unlinked.PortUnlinked). r.graph) (unlink_linked good₁ holds₁ x y valid_x linked) in
      let link₁ = ap (λ (r : lower_linked.PortsLinked). r.graph)
      (link_done (good_unlink good₁ x) (cut_step good₁ holds₁ x y linked) x cp valid_x valid_cp (λ q. not_reversed x.side (sym q)) x_cut (new_free cp refl)) in
      let link₂ = ap (λ (r : lower_linked.PortsLinked). r.graph)
      (link_done good₃ holds₃ (sp 0) y (valid_sp 0 (omega arith)) valid_y (f.good.join_sides x y linked) first_free y_free) in
      let first : slot_of M₁.node (sp 0) ≡ next_block M (copy_incoming x.side + copy_outgoing x.side) + subports_at x.side = subport_at 0 ∙ omega arith in
      let count : (n : ℕ) → n + 1 + 1 ≡ n + 2 = λ n. omega arith in
      (λ i. (link_ports (link_ports (unlink_port g₁ (sym slot_of_x i)).graph (sym slot_of_x i) (a i)).graph (b i) (e i)).graph)
      ∙ (link₂
      ∙ (ap (linked_to (slot_of M₁.node (sp 0)) (slot_of M₁.node y)) (link₁ ∙ ap (linked_to (slot_of M₁.node x) (slot_of M₁.node cp)) cut₁)
      ∙ (λ i. with_links g₁ (link_both (link_both (cut g₁.port_link (slot_of_x i)) (slot_of_x i) (copy_at_lem i)) (first i) (sym far_in_lem i))
      (count (g₁.link_count - link_count (at g₁.port_link (slot_of_x i))) i))))

  tables₄ : SplitTables (slot_of M.node x) x.side g₁ c# (next_block M (copy_incoming x.side + copy_outgoing x.side))
  tables₄ =
      record {
        graph = links₄;
        copy = port_at good₁ holds₁ cp valid_cp ∙ copy_at_lem;
        old = port_at good₁ holds₁ (sp 0) (valid_sp 0 (omega arith)) ∙ (subport_at 0 ∙ omega arith);
        new = port_at good₁ holds₁ (sp 1) (valid_sp 1 (omega arith)) ∙ subport_at 1;
        held = held_lem;
        fits = let e = good₁.block_ends c# new# is_new in let l = good₁.ports_fit in let t = three_ports x.side in omega arith;
      }

  abbrev m₄ : MultiPortGraph
  m₄ = split_port m (slot_of M.node x) x.side g₁ c#

  copy_slot : port_of g₁ c# (reversed x.side) 0 ≡ slot_of M₁.node cp
  copy_slot = port_at good₁ holds₁ cp valid_cp

  marks_after : m₄.multiport ≡ set (set m.multiport (slot_of M₁.node cp) true) (slot_of M.node x) true
  unfolding split_port
  marks_after = ap (λ t. set (set m.multiport t true) (slot_of M.node x) true) copy_slot

  c_below : c# < node_slots
  c_below =
      let a = node_below good₁ c# new# is_new in
      omega arith

  cp_slot_apart : slot_of M₁.node cp ≡ slot_of M.node x → ⊥
  cp_slot_apart q = apart_from x (reversed x.side) 0 x_old (slots_apart good₁ x cp valid_x valid_cp (slot_of_x ∙ sym q))

  join_elsewhere : (z : model.InnerPlace) → (z ≡ x → ⊥) → (z ≡ y → ⊥) → (z.node ≡ c# → ⊥) → M₄.join z ≡ M.join z
  join_elsewhere z a b n =
      link_other (sp 0) y M₃.join z (apart_from z x.side 0 n) b
      ∙ (link_other x cp M₂.join z a (apart_from z (reversed x.side) 0 n)
      ∙ cut_elsewhere M.join x z a (λ j. b (let k = f.good.join_back z x j in cc)))

  divided : Divided m M x y m₄ M₄ c#
  unfolding split_port is_hidden is_split
  divided =
      record {
        good = good₄;
        holds = holds₄;
        marks_long = ap (λ (l : List Bool). length l) marks_after ∙ simp length-set f.marks_long;
        flags_long = length-set m.copy_node c# true ∙ f.flags_long;
        unused = was_gone;
        below = c_below;
        k = new#;
        here = is_new;
        ins = refl;
        outs = refl;
        node = old_node;
        at_port = link_other (sp 0) y M₃.join x (apart_from x x.side 0 x_old) (λ q. linked_apart f.good x y linked (sym q)) ∙ link_near x cp M₂.join;
        at_copy =
            link_other (sp 0) y M₃.join cp (λ q. sub_not_copy 0 (sym q)) (λ q. apart_from y (reversed x.side) 0 y_old (sym q))
            ∙ link_far x cp M₂.join (λ q. apart_from x (reversed x.side) 0 x_old (sym q));
        at_first = link_near (sp 0) y M₃.join;
        at_far = link_far (sp 0) y M₃.join (apart_from y x.side 0 y_old);
        at_second =
            link_other (sp 0) y M₃.join (sp 1) (λ q. zero_is_not_one (ap (λ (w : model.InnerPlace). w.pos) (sym q))) (λ q. apart_from y x.side 1 y_old (sym q))
            ∙ (link_other x cp M₂.join (sp 1) (λ q. apart_from x x.side 1 x_old (sym q)) (sub_not_copy 1) ∙ new_free (sp 1) refl);
        elsewhere = join_elsewhere;
        hidden_here = get_or-set_same m.copy_node c# true false (rw f.flags_long c_below);
        hidden_else = λ n k. get_or-set_other m.copy_node c# n true false k;
        port_marked = ap (λ (l : List Bool). get_or l (slot_of M.node x) false) marks_after
            ∙ get_or-set_same (set m.multiport (slot_of M₁.node cp) true) (slot_of M.node x) true false (lt-length-set m.multiport (slot_of M₁.node cp) true (mark_below m f.marks_long f.good x sx.0));
        copy_marked = ap (λ (l : List Bool). get_or l (slot_of M₁.node cp) false) marks_after
            ∙ (get_or-set_other (set m.multiport (slot_of M₁.node cp) true) (slot_of M.node x) (slot_of M₁.node cp) true false cp_slot_apart
            ∙ get_or-set_same m.multiport (slot_of M₁.node cp) true false (mark_below m f.marks_long good₁ cp valid_cp));
        marked_else = λ s a b. ap (λ (l : List Bool). get_or l s false) marks_after
            ∙ (get_or-set_other (set m.multiport (slot_of M₁.node cp) true) (slot_of M.node x) s true false a
            ∙ get_or-set_other m.multiport (slot_of M₁.node cp) s true false b);
        copies = refl;
        subs = refl;
      }

  split_ready : is_split m (slot_of M.node x) ≡ false → PreparedEnd m M x m₄ M₄ (port_of g₁ c# x.side 1) 1
  split_ready plain =
      subst (λ p. PreparedEnd m M x m₄ M₄ p 1) (sym (port_at good₁ holds₁ (sp 1) (valid_sp 1 (omega arith)))) (split_prepared f divided sx plain linked)

-- Why no end of the port at x can be prepared: what is taken would lengthen a table past its limit.

-- every subport of a hidden node is linked
abbrev pub AllLinked : Model → ℕ → Direction → Type 0
AllLinked M c d = (j : ℕ) → j < count_of (M.node c) d → (y : model.InnerPlace) × (M.join (inner# c d j) ≡ to y)

pub data NoSpace (m : MultiPortGraph) (M : Model) (x : model.InnerPlace) : Type 0 where
  -- for a split: a slot, a block of 3
  no_slot : (y : model.InnerPlace) → is_split m (slot_of M.node x) ≡ false → M.join x ≡ to y → node_slots < M.node_len + growth 1 M.free_nodes → NoSpace m M x
  no_block : (y : model.InnerPlace) → is_split m (slot_of M.node x) ≡ false → M.join x ≡ to y → port_slots < M.port_len + growth 3 (M.free_blocks 3) → NoSpace m M x
  -- for one more subport: a larger block; none is large enough for more ports than a node may have
  no_subport : (c : ℕ) (k : NodeMeta) → is_hidden m c ≡ true → M.join x ≡ to (copy_place m c) → AllLinked M c x.side → M.node c ≡ live k
      → k.capacity ≤ suc (k.incoming + k.outgoing)
      → port_slots < M.port_len + growth (round_up (suc (k.incoming + k.outgoing))) (M.free_blocks (round_up (suc (k.incoming + k.outgoing)))) → NoSpace m M x

-- What a preparation of an end of the port at x says.
abbrev pub PreparedSays : MultiPortGraph → Model → model.InnerPlace → Prepared → Type 0
PreparedSays m M x (ready m' q o) = (M' : Model) × PreparedEnd m M x m' M' q o
PreparedSays m M x full = NoSpace m M x

pub split_says : {m : MultiPortGraph} {M : Model} → Fine m M → (x y : model.InnerPlace) → Seen m M x → is_split m (slot_of M.node x) ≡ false → M.join x ≡ to y →
    PreparedSays m M x (split m (slot_of M.node x) x.side)
unfolding split_under
split_says {m} {M} f x y sx plain linked =
    rw (add_law f.good f.holds (copy_incoming x.side) (copy_outgoing x.side))
    (go (leb (copy_incoming x.side + copy_outgoing x.side) node_ports) (slot_room M) (block_room M (copy_incoming x.side + copy_outgoing x.side)) refl refl refl)
  where
    go : (few slot block : Bool) → leb (copy_incoming x.side + copy_outgoing x.side) node_ports ≡ few → slot_room M ≡ slot → block_room M (copy_incoming x.side + copy_outgoing x.side) ≡ block →
        PreparedSays m M x
        (split_by m (slot_of M.node x) x.side (add_where m.graph M (copy_incoming x.side) (copy_outgoing x.side) few slot block).graph
        (add_where m.graph M (copy_incoming x.side) (copy_outgoing x.side) few slot block).answer)
    go true true true p q r =
        let small = leb-true (copy_incoming x.side + copy_outgoing x.side) node_ports p in
        let node_room = leb-true (M.node_len + growth 1 M.free_nodes) node_slots q in
        let port_room = leb-true (M.port_len + growth (copy_incoming x.side + copy_outgoing x.side) (M.free_blocks (copy_incoming x.side + copy_outgoing x.side))) port_slots r in
        (M₄ f x y sx linked small node_room port_room, split_ready f x y sx linked small node_room port_room plain)
    go true true false p q r =
        no_block y plain linked
        (subst (λ n. port_slots < M.port_len + growth n (M.free_blocks n)) (three_ports x.side)
        (leb-false (M.port_len + growth (copy_incoming x.side + copy_outgoing x.side) (M.free_blocks (copy_incoming x.side + copy_outgoing x.side))) port_slots r))
    go true false block p q r = no_slot y plain linked (leb-false (M.node_len + growth 1 M.free_nodes) node_slots q)
    go false slot block p q r =
        absurd
        (let a = leb-false (copy_incoming x.side + copy_outgoing x.side) node_ports p in
        let b = three_ports x.side in
        omega arith)

-- the tables after a split
pub split_tables : {m : MultiPortGraph} {M : Model} → Fine m M → (x y : model.InnerPlace) → Seen m M x → M.join x ≡ to y →
    (r : NodeAdded) → r ≡ add_node m.graph (copy_incoming x.side) (copy_outgoing x.side) → (n : NodeIndex) (p : PortIndex) → r.answer ≡ Ok (n, p) →
    SplitTables (slot_of M.node x) x.side r.graph n.0 p.0
split_tables {m} {M} f x y sx linked r e n p h =
    go (leb (copy_incoming x.side + copy_outgoing x.side) node_ports) (slot_room M) (block_room M (copy_incoming x.side + copy_outgoing x.side)) refl refl refl
    (e ∙ add_law f.good f.holds (copy_incoming x.side) (copy_outgoing x.side))
  where
    go : (few slot block : Bool) → leb (copy_incoming x.side + copy_outgoing x.side) node_ports ≡ few → slot_room M ≡ slot → block_room M (copy_incoming x.side + copy_outgoing x.side) ≡ block →
        r ≡ add_where m.graph M (copy_incoming x.side) (copy_outgoing x.side) few slot block → SplitTables (slot_of M.node x) x.side r.graph n.0 p.0
    go true true true a b c k =
        let small = leb-true (copy_incoming x.side + copy_outgoing x.side) node_ports a in
        let node_room = leb-true (M.node_len + growth 1 M.free_nodes) node_slots b in
        let port_room = leb-true (M.port_len + growth (copy_incoming x.side + copy_outgoing x.side) (M.free_blocks (copy_incoming x.side + copy_outgoing x.side))) port_slots c in
        let is : r.answer ≡ Ok (node# (next_slot M), port# (next_block M (copy_incoming x.side + copy_outgoing x.side))) = ap (λ (z : NodeAdded). z.answer) k in
        let both : ◌≡◌ {A = NodeIndex × PortIndex} (node# (next_slot M), port# (next_block M (copy_incoming x.side + copy_outgoing x.side))) (n, p) = cc in
        let same : node# (next_slot M) ≡ n = ap (λ (z : NodeIndex × PortIndex). z.0) both in
        let at₁ : port# (next_block M (copy_incoming x.side + copy_outgoing x.side)) ≡ p = ap (λ (z : NodeIndex × PortIndex). z.1) both in
        transport (λ i. SplitTables (slot_of M.node x) x.side (sym k i).graph (same i).0 (at₁ i).0) (tables₄ f x y sx linked small node_room port_room)
    go true true false a b c k = absurd (zero_is_not_one (let z = ap (λ (u : NodeAdded). u.answer) k in cc))
    go true false block a b c k = absurd (zero_is_not_one (let z = ap (λ (u : NodeAdded). u.answer) k in cc))
    go false slot block a b c k = absurd (zero_is_not_one (let z = ap (λ (u : NodeAdded). u.answer) k in cc))
