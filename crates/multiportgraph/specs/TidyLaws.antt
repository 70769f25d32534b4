-- Tidying a port: what is left of its hidden node, that every wire and every block stays where it is, that tidying again changes
-- nothing, and that nothing is taken for it.
use Rattle.std.proofs.lemmas.Bool.{cases_eq}
use Rattle.std.specs.Prelude.{◌≡◌, Bool, [], ◌∷◌, ◌⊎◌, eqb, ltb, Some, Result, Ok, Err}
use Rattle.std.proofs.Math.Path.{refl, ap, subst, transport}
use Rattle.std.proofs.Common.{sym, ◌∙◌, inl, inr, ⊎_elim}
use Rattle.std.proofs.Math.Bool.{true, false, cond}
use Prim.Native.Nat.{ℕ, zero, suc, ◌+◌, ◌-◌, ◌*◌, ◌≤◌, ◌<◌}
use native.Mathlib.Omega.{arith}
use Rattle.std.proofs.Math.ListN.{set}
use borrow.Author.Tests.{ltb-true, ltb-false, lt-ltb, eq-eqb, eqb-true}
use Rattle.port_tables.specs.Limits.{node_slots, node_ports}
use Rattle.port_tables.specs.Entries.{reversed, ports_on, meta_of}
use Rattle.portgraph.specs.Lookups.{num_ports, meta_at}
use Rattle.portgraph.specs.Model as model
use Rattle.portgraph.specs.Model.{Model, Far, nowhere, to, Slots, live, Valid, slot_of, ports_of, count_of}
use Rattle.portgraph.specs.Meaning.{at_node, link_model, remove_model}
use Rattle.portgraph.specs.Sums.{total_has, drop_there, upd_same}
use Rattle.portgraph.specs.Calls.{link_ports}
use Rattle.portgraph.specs.Resize.{set_num_ports, resize_inside, dropped}
use Rattle.port_tables.specs.ResizeLinks.{same_counts, kept_outgoing}
use Rattle.portgraph.specs.ResizeLaws.{set_same, set_inside}
use Rattle.portgraph.specs.PlaceLaws.{meta_of_node}
use Rattle.portgraph.specs.InsideHolds.{inside_holds}
use Rattle.portgraph.specs.GoodLaws.{good_resize}
use Rattle.portgraph.specs.GoodSlots.{same_place_lem, ports_end, node_below}
use Rattle.port_tables.specs.declared.direction.Direction.{Direction}
use Rattle.port_tables.specs.declared.direction.Direction.TheVariants.{Incoming, Outgoing}
use Rattle.port_tables.specs.declared.node_entry.NodeMeta.{NodeMeta}
use Rattle.portgraph.specs.declared.portgraph.PortGraph.{PortGraph}
use Rattle.portgraph.specs.declared.resize.PortsSet.{PortsSet}
use Rattle.multiportgraph.specs.Reading.{far_port, has_link, port_of, is_hidden, is_split, copy_side, copy_node, subports, subport_at, seen}
use Rattle.multi_tables.specs.Forms.{Port, dead, hidden, visible}
use Rattle.multiportgraph.specs.WellFormed.{inner#, copy_place, Fine, Seen, outer, IsEnd, WireIn, SameBlocks, SameWires, subports_of_slot}
use Rattle.multiportgraph.specs.Ends.{BlockPort, Hangs, port_of_lem, count_of_lem, linked_is, unlinked_is, far_of, block_seen, seen_block, seen_still, end_side, ends_join_ends, hangs, one_copy, split_has_copy, unsplit_is_end, outer_of_block, wire_at}
use Rattle.multiportgraph.specs.HiddenStays.{same_copy, same_wire, true_not_false, end_kept, outer_kept, slot_alike, split_below}
use Rattle.multi_tables.specs.MarkLaws.{lay_same}
use Rattle.multiportgraph.specs.LinkCutLaws.{Joined, join_ends, touches_neither}
use Rattle.multiportgraph.specs.CopyLaws.{port_at, CopyGone, copy_goes, copy_frame, copy_alike, hidden_other, end_elsewhere, unsplit_split}
use Rattle.multiportgraph.specs.RecountLaws.{SomeRecount, set_recounts, counted, same_wires, recount_ends, recount_fine, recount_blocks, reversed_twice, both_sides}
use Rattle.multiportgraph.specs.declared.multiportgraph.MultiPortGraph.{MultiPortGraph}
use Rattle.multiportgraph.specs.declared.multiportgraph.PortTidied.{PortTidied}
use Rattle.port_tables.specs.Places.{Wire, touches, wire_of_sides}
use Rattle.multiportgraph.specs.Graph.{with_graph, with_marks, with_subports}
use Rattle.multiportgraph.specs.HiddenNodes.{enough, recounted, remove_copy, unsplit}
use Rattle.multiportgraph.specs.Calls.{tidy_port}
use Rattle.multiportgraph.specs.Cases.{tidy_seen}
use Rattle.multiportgraph.specs.CaseLaws.{tidy_cases}
use Rattle.multi_tables.specs.TableReads.{far_in}
use Rattle.multiportgraph.specs.TableReadLaws.{far_is}
use Rattle.multiportgraph.specs.GrowLaws.{slot_x, mark_moves}
use Rattle.multiportgraph.specs.Tidy.{linked_up_to, subports_left, left_incoming, left_outgoing, resized_within, drop_subports, link_directly, tidied}
use Rattle.multi_tables.specs.declared.answers.Refusal.{Refusal}
use Rattle.portgraph.specs.Joins.{to_same, nowhere_not_to}

-- What is left.

-- r of the first n positions of a node's side are left: those above have no link, and the last one that is left has one
pub record LastLinked (M : Model) (c : ℕ) (d : Direction) (n r : ℕ) : Type 0 where
  pub most : r ≤ n
  pub empty : (i : ℕ) → r ≤ i → i < n → M.join (inner# c d i) ≡ nowhere
  pub linked : (i : ℕ) → r ≡ suc i → (y : model.InnerPlace) × (M.join (inner# c d i) ≡ to y)

module _ {m : MultiPortGraph} {M : Model} (f : Fine m M) where
  pub last_linked : (c : ℕ) (d : Direction) (n : ℕ) → n ≤ count_of (M.node c) d → LastLinked M c d n (linked_up_to m.graph c d n)
  unfolding linked_up_to
  last_linked c d zero l = record { most = omega arith; empty = λ i a b. absurd (omega arith); linked = λ i e. absurd (omega arith) }
  last_linked c d (suc n) l = go (M.join (inner# c d n)) refl (last_linked c d n (omega arith))
    where
      v : Valid M.node (inner# c d n)
      v = omega arith

      go : (w : Far) → M.join (inner# c d n) ≡ w → LastLinked M c d n (linked_up_to m.graph c d n)
          → LastLinked M c d (suc n) (cond (has_link m.graph (port_of m.graph c d n)) (suc n) (linked_up_to m.graph c d n))
      go (to y) j k =
          rw (port_of_lem f c d n v, linked_is f (inner# c d n) y j)
          (record {
            most = omega arith;
            empty = λ i a b. absurd (omega arith);
            linked = λ i e. (y, ap (λ (u : ℕ). M.join (inner# c d u)) (let q : i ≡ n = omega arith in q) ∙ j);
          })
      go nowhere j k =
          rw (port_of_lem f c d n v, unlinked_is f (inner# c d n) v j)
          (let a = k.most in
          record {
            most = omega arith;
            empty = λ i a b. ⊎_elim (λ q. ap (λ (u : ℕ). M.join (inner# c d u)) q ∙ j) (λ q. k.empty i a (omega arith)) (cases_eq i n);
            linked = k.linked;
          })

  -- a place that is no port has no link
  none_past : (c : ℕ) (d : Direction) (i : ℕ) → count_of (M.node c) d ≤ i → M.join (inner# c d i) ≡ nowhere
  none_past c d i l = go (M.join (inner# c d i)) refl
    where
      go : (w : Far) → M.join (inner# c d i) ≡ w → M.join (inner# c d i) ≡ nowhere
      go nowhere e = e
      go (to y) e = let v = f.good.join_valid (inner# c d i) y e in absurd (omega arith)

  -- no subport from the last one that is left on has a link
  pub empty_above : (c : ℕ) (d : Direction) (r : ℕ) → LastLinked M c d (count_of (M.node c) d) r → (i : ℕ) → r ≤ i → M.join (inner# c d i) ≡ nowhere
  empty_above c d r k i l = go (ltb i (count_of (M.node c) d)) refl
    where
      go : (b : Bool) → ltb i (count_of (M.node c) d) ≡ b → M.join (inner# c d i) ≡ nowhere
      go true e = k.empty i l (ltb-true i (count_of (M.node c) d) e)
      go false e = none_past c d i (ltb-false i (count_of (M.node c) d) e)

-- A graph with the same blocks and the same wires.

pub record TidyDone (m : MultiPortGraph) (M : Model) (m' : MultiPortGraph) : Type 0 where
  pub model : Model
  pub fine : Fine m' model
  pub blocks : SameBlocks m M m' model
  pub wires : SameWires m M m' model

-- Empty subports go, and two or more are left.

-- a resize within the block, to equal counts and to others
same_within : (g : PortGraph) (n i o : ℕ) (k : NodeMeta) → meta_at g n ≡ Some k → i ≡ k.incoming → o ≡ k.outgoing → resized_within g n i o ≡ g
unfolding resized_within same_counts
same_within g n i o k e a b = rw (e, eq-eqb i k.incoming a, eq-eqb o k.outgoing b) refl

other_within : (g : PortGraph) (n i o : ℕ) (k : NodeMeta) → meta_at g n ≡ Some k → (i ≡ k.incoming → o ≡ k.outgoing → ⊥) → resized_within g n i o ≡ resize_inside g n k i o
unfolding resized_within same_counts
other_within g n i o k e other = rw e (go (eqb i k.incoming) (eqb o k.outgoing) refl refl)
  where
    go : (a b : Bool) → eqb i k.incoming ≡ a → eqb o k.outgoing ≡ b → cond (cond a b false) g (resize_inside g n k i o) ≡ resize_inside g n k i o
    go true true p q = absurd (other (eqb-true i k.incoming p) (eqb-true o k.outgoing q))
    go true false p q = refl
    go false b p q = refl

-- a resize, as of any node, that changes no count, or is done within the block
pub data DropWithin (g : PortGraph) (n : ℕ) (k : NodeMeta) (incoming outgoing : ℕ) : Type 0 where
  no_change : set_num_ports g n incoming outgoing enough ≡ record { graph = g; answer = Ok 0 } → resized_within g n incoming outgoing ≡ g →
      DropWithin g n k incoming outgoing
  in_block : 3 ≤ incoming + outgoing → incoming + outgoing < k.capacity →
      set_num_ports g n incoming outgoing enough
      ≡ record { graph = resize_inside g n k incoming outgoing; answer = Ok (dropped k incoming outgoing + kept_outgoing k outgoing) } →
      resized_within g n incoming outgoing ≡ resize_inside g n k incoming outgoing → DropWithin g n k incoming outgoing

-- so dropping within the block is the resize as of any node, which is not refused
pub within_is : {g : PortGraph} {n : ℕ} {k : NodeMeta} {i o : ℕ} → DropWithin g n k i o → resized_within g n i o ≡ (set_num_ports g n i o enough).graph
within_is (no_change e w) = w ∙ sym (ap (λ (r : PortsSet). r.graph) e)
within_is (in_block some less e w) = w ∙ sym (ap (λ (r : PortsSet). r.graph) e)

pub within_set : {g : PortGraph} {n : ℕ} {k : NodeMeta} {i o : ℕ} → DropWithin g n k i o → (e : ℕ) × ((set_num_ports g n i o enough).answer ≡ Ok e)
within_set (no_change e w) = (0, ap (λ (r : PortsSet). r.answer) e)
within_set (in_block some less e w) = (_, ap (λ (r : PortsSet). r.answer) e)

-- a node has the block that it had
pub record SameBlock (g g' : PortGraph) (n : ℕ) : Type 0 where
  pub before : NodeMeta
  pub after : NodeMeta
  pub was : meta_at g n ≡ Some before
  pub is : meta_at g' n ≡ Some after
  pub first : after.first_port.0 ≡ before.first_port.0
  pub capacity : after.capacity ≡ before.capacity

-- the hidden node c of the port at x is left with n subports, and no link went
pub record Shorter (m : MultiPortGraph) (M : Model) (x : model.InnerPlace) (c n : ℕ) (m' : MultiPortGraph) (M' : Model) : Type 0 where
  pub fine : Fine m' M'
  pub blocks : SameBlocks m M m' M'
  pub wires : SameWires m M m' M'
  pub is_copy : is_hidden m' c ≡ true
  pub from : M'.join (copy_place m' c) ≡ to x
  pub count : count_of (M'.node c) x.side ≡ n
  pub joins : (y : model.InnerPlace) → M'.join y ≡ M.join y
  pub linked : (y z : model.InnerPlace) → M.join y ≡ to z → Valid M'.node y

pub record ShorterDone (m : MultiPortGraph) (M : Model) (x : model.InnerPlace) (c n : ℕ) (m' : MultiPortGraph) : Type 0 where
  pub model : Model
  pub is : Shorter m M x c n m' model

shorter_done : {m : MultiPortGraph} {M : Model} {x : model.InnerPlace} {c n : ℕ} {m' : MultiPortGraph} → ShorterDone m M x c n m' → TidyDone m M m'
shorter_done s = record { model = s.model; fine = s.is.fine; blocks = s.is.blocks; wires = s.is.wires }

left_counts : (d : Direction) (n : ℕ) → left_incoming d n + left_outgoing d n ≡ n + 1
left_counts Incoming n = omega arith
left_counts Outgoing n = omega arith

left_on : (b : NodeMeta) (d : Direction) (n : ℕ) → b.incoming ≡ left_incoming d n → b.outgoing ≡ left_outgoing d n → (ports_on b d ≡ n) × (ports_on b (reversed d) ≡ 1)
left_on b Incoming n p q = (p, q)
left_on b Outgoing n p q = (q, p)

left_of : (b : NodeMeta) (d : Direction) → ports_on b (reversed d) ≡ 1 → (left_incoming d (ports_on b d) ≡ b.incoming) × (left_outgoing d (ports_on b d) ≡ b.outgoing)
left_of b Incoming e = (refl, sym e)
left_of b Outgoing e = (sym e, refl)

module _ {m : MultiPortGraph} {M : Model} (f : Fine m M) (x : model.InnerPlace) (h : Hangs m M x) (n : ℕ) (several : 2 ≤ n)
    (few : n ≤ count_of (M.node h.copy) x.side) (empty : (i : ℕ) → n ≤ i → M.join (inner# h.copy x.side i) ≡ nowhere) where
  abbrev k : NodeMeta
  k = (f.copy h.copy h.is_copy).meta

  here : M.node h.copy ≡ live k
  here = (f.copy h.copy h.is_copy).here

  one : ports_on k (reversed x.side) ≡ 1
  one = ap (ports_on k) (reversed_twice x.side (copy_side m h.copy) h.side) ∙ (f.copy h.copy h.is_copy).single

  count : count_of (M.node h.copy) x.side ≡ ports_on k x.side
  count = ap (λ (s : Slots). count_of s x.side) here

  abbrev sized : PortsSet
  sized = set_num_ports m.graph h.copy (left_incoming x.side n) (left_outgoing x.side n) enough

  -- the new total is from 3 to capacity - 1, so that the node keeps its block and nothing is taken; or no count changes
  pub drop_within : DropWithin m.graph h.copy k (left_incoming x.side n) (left_outgoing x.side n)
  drop_within =
      let a = f.good.ports_in_block h.copy k here in
      let b = f.good.block_small h.copy k here in
      let s = both_sides k x.side in
      let t = left_counts x.side n in
      let u = one in
      let v = count in
      go (cases_eq n (ports_on k x.side)) (omega arith) (omega arith) (omega arith)
    where
      go : (n ≡ ports_on k x.side) ⊎ (n ≡ ports_on k x.side → ⊥) → left_incoming x.side n + left_outgoing x.side n ≤ node_ports → 3 * (k.incoming + k.outgoing) ≤ enough
          → ((n ≡ ports_on k x.side → ⊥) → left_incoming x.side n + left_outgoing x.side n < k.capacity) → DropWithin m.graph h.copy k (left_incoming x.side n) (left_outgoing x.side n)
      go (inl q) a b c =
          let l = left_of k x.side one in
          let i = ap (left_incoming x.side) q ∙ l.0 in
          let o = ap (left_outgoing x.side) q ∙ l.1 in
          no_change (set_same f.good f.holds h.copy _ _ enough a k here b i o) (same_within m.graph h.copy _ _ k (meta_of_node f.good f.holds h.copy k here) i o)
      go (inr q) a b c =
          let t = left_counts x.side n in
          in_block (omega arith) (c q) (set_inside f.good f.holds h.copy _ _ enough a k here b (λ i o. q (sym (left_on k x.side n (sym i) (sym o)).0)) (omega arith) (c q))
          (other_within m.graph h.copy _ _ k (meta_of_node f.good f.holds h.copy k here) (λ i o. q (sym (left_on k x.side n (sym i) (sym o)).0)))

  -- so it is never refused for room
  pub drop_set : (e : ℕ) × (sized.answer ≡ Ok e)
  drop_set = within_set drop_within

  abbrev subs_left : ℕ
  subs_left = m.subport_count - (num_ports m.graph h.copy x.side - n)

  -- as many subports less as went
  subs_left_lem : subs_left + ports_on k x.side ≡ m.subport_count + n
  subs_left_lem =
      let used = node_below f.good h.copy k here in
      let t = total_has node_slots h.copy (subports_of_slot m M) (omega arith) in
      let a : subports_of_slot m M h.copy ≡ ports_of (live k) - 1 = ap (λ (b : Bool). cond b (ports_of (M.node h.copy) - 1) 0) h.is_copy ∙ ap (λ (s : Slots). ports_of s - 1) here in
      let s = f.subs in
      let b = both_sides k x.side in
      let u = one in
      let v = count in
      let w = count_of_lem f h.copy x.side in
      omega arith

  -- the graph afterwards, by what the lower resize made of the model
  shorter : (s : SomeRecount sized.graph M h.copy (left_incoming x.side n) (left_outgoing x.side n)) → Shorter m M x h.copy n (counted m h.copy sized.graph subs_left) s.model'
  shorter s =
      let r = s.is in
      let l = left_on s.new x.side n r.ins r.outs in
      let e = r.here in
      let d = here in
      let q : s.old ≡ k = cc in
      let o : ports_on s.new (reversed x.side) ≡ ports_on s.old (reversed x.side) =
      l.1 ∙ sym (ap (λ (z : NodeMeta). ports_on z (reversed x.side)) q ∙ one) in
      let left : 2 ≤ ports_on s.new x.side = subst (λ (z : ℕ). 2 ≤ z) (sym l.0) several in
      let none : (i : ℕ) → ports_on s.new x.side ≤ i → M.join (inner# h.copy x.side i) ≡ nowhere = λ i z. empty i (subst (λ (y : ℕ). y ≤ i) l.0 z) in
      let p : subs_left + ports_on s.old x.side ≡ m.subport_count + ports_on s.new x.side =
      ap (λ (z : NodeMeta). subs_left + ports_on z x.side) q ∙ (subs_left_lem ∙ ap (λ (z : ℕ). m.subport_count + z) (sym l.0)) in
      let t = recount_ends f x h r left o none subs_left p in
      record {
        fine = recount_fine f x h r left o none subs_left p;
        blocks = recount_blocks f x h r left o none subs_left p;
        wires = same_wires f t;
        is_copy = t.hid h.copy ∙ h.is_copy;
        from = ap s.model'.join (same_copy (t.sides h.copy h.is_copy)) ∙ (t.joins _ ∙ h.from);
        count = ap (λ (v : Slots). count_of v x.side) r.there ∙ l.0;
        joins = t.joins;
        linked = t.linked;
      }

  pub drop_done : ShorterDone m M x h.copy n (drop_subports m h.copy x.side n)
  unfolding drop_subports
  drop_done =
      let s = set_recounts f.good f.holds h.copy (left_incoming x.side n) (left_outgoing x.side n) enough drop_set.0 drop_set.1 in
      subst (λ (g : PortGraph). ShorterDone m M x h.copy n (counted m h.copy g subs_left)) (sym (within_is drop_within)) (record { model = s.model'; is = shorter s })

  -- what it does to the marks: the copy port's moves with it
  pub drop_marks : Seen m M x → (recounted m h.copy sized.graph).multiport
      ≡ set (set m.multiport (far_in m.graph.port_link (slot_of M.node x)) false) (far_in sized.graph.port_link (slot_of M.node x)) true
  unfolding recounted
  drop_marks sx = go (set_recounts f.good f.holds h.copy (left_incoming x.side n) (left_outgoing x.side n) enough drop_set.0 drop_set.1)
    where
      go : SomeRecount sized.graph M h.copy (left_incoming x.side n) (left_outgoing x.side n) → (recounted m h.copy sized.graph).multiport
          ≡ set (set m.multiport (far_in m.graph.port_link (slot_of M.node x)) false) (far_in sized.graph.port_link (slot_of M.node x)) true
      go s =
          let r = s.is in
          let t = shorter s in
          let c = copy_place m h.copy in
          let v : Valid s.model'.node c = t.linked c x h.from in
          let e : slot_of s.model'.node x ≡ slot_of M.node x = slot_x f x h r v sx in
          let before : far_in m.graph.port_link (slot_of M.node x) ≡ slot_of M.node c = far_is f x c h.back in
          let after : far_in sized.graph.port_link (slot_of M.node x) ≡ slot_of s.model'.node c =
          ap (far_in sized.graph.port_link) (sym e) ∙ far_is t.fine x c (t.joins x ∙ h.back) in
          mark_moves f x h r v ∙ (λ i. set (set m.multiport (sym before i) false) (sym after i) true)

  -- the node keeps its block
  pub drop_block : SameBlock m.graph (drop_subports m h.copy x.side n).graph h.copy
  unfolding drop_subports recounted
  drop_block = subst (λ (g : PortGraph). SameBlock m.graph g h.copy) (sym (within_is drop_within)) (go drop_within)
    where
      go : DropWithin m.graph h.copy k (left_incoming x.side n) (left_outgoing x.side n) → SameBlock m.graph sized.graph h.copy
      go (no_change e w) =
          record { before = k; after = k; was = meta_of_node f.good f.holds h.copy k here; is = ap (λ (r : PortsSet). meta_at r.graph h.copy) e ∙ meta_of_node f.good f.holds h.copy k here; first = refl; capacity = refl }
      go (in_block some less e w) =
          let i = left_incoming x.side n in
          let o = left_outgoing x.side n in
          record {
            before = k;
            after = meta_of k.first_port.0 i o k.capacity;
            was = meta_of_node f.good f.holds h.copy k here;
            is = ap (λ (r : PortsSet). meta_at r.graph h.copy) e
                ∙ meta_of_node (good_resize f.good h.copy k here i o (omega arith)) (inside_holds f.good f.holds h.copy k here i o (omega arith)) h.copy
                (meta_of k.first_port.0 i o k.capacity) (upd_same M.node h.copy _);
            first = refl;
            capacity = refl;
          }

-- The hidden node goes.

module _ {m : MultiPortGraph} {M : Model} (f : Fine m M) (x : model.InnerPlace) (sx : Seen m M x) (h : Hangs m M x) where
  abbrev first : model.InnerPlace
  first = inner# h.copy x.side 0

  first_end : IsEnd m M first
  first_end = h.ends 0 (let l = h.several in omega arith)

  abbrev bare : MultiPortGraph
  bare = remove_copy m (slot_of M.node x) h.copy

  abbrev bare_model : Model
  bare_model = remove_model M h.copy (f.copy h.copy h.is_copy).meta

  pub went : CopyGone m M x bare bare_model
  went = copy_goes f x h

  module _ (y : model.InnerPlace) (linked : M.join first ≡ to y) where
    far_end : IsEnd m M y
    far_end = ends_join_ends f first y first_end linked

    far_elsewhere : y.node ≡ h.copy → ⊥
    far_elsewhere n =
        f.good.join_sides first y linked
        (h.side ∙ (ap (λ (c : ℕ). reversed (copy_side m c)) (sym n) ∙ sym (end_side f y far_end (ap (is_hidden m) n ∙ h.is_copy))))

    far_not_main : y ≡ x → ⊥
    far_not_main q =
        true_not_false (f.main_marked h.copy x h.is_copy h.from)
        (ap (λ (z : model.InnerPlace). is_split m (slot_of M.node z)) (sym q) ∙ far_end.unsplit (ap (λ (z : model.InnerPlace). is_hidden m z.node) q ∙ sx.1))

    near_end' : IsEnd bare bare_model x
    near_end' = unsplit_is_end went.fine x went.is_seen (ap (is_split bare) went.slot ∙ went.unsplit)

    far_end' : IsEnd bare bare_model y
    far_end' = end_kept f (copy_frame f x h.copy h.is_copy h.from) y (copy_alike f x h.copy h.is_copy h.from y far_end.valid far_elsewhere far_not_main) far_end

    far_slot : slot_of bare_model.node y ≡ slot_of M.node y
    far_slot = slot_alike f (copy_frame f x h.copy h.is_copy h.from) y (copy_alike f x h.copy h.is_copy h.from y far_end.valid far_elsewhere far_not_main)

    far_outer : outer bare bare_model y ≡ outer m M y
    far_outer = outer_kept f (copy_frame f x h.copy h.is_copy h.from) y (hidden_other m (slot_of M.node x) h.copy y.node far_elsewhere)

    near_outer : outer bare bare_model x ≡ outer m M first
    near_outer = outer_of_block went.fine x went.is_seen.1 ∙ sym (h.outers 0)

    far_free : bare_model.join y ≡ nowhere
    far_free = drop_there (at_node h.copy) M.join y first (f.good.join_back first y linked) (eq-eqb h.copy h.copy refl)

    -- the wire that was at offset 0
    abbrev wire : Wire
    wire = wire_of_sides x.side (outer m M first) (outer m M y)

    wire_was : WireIn m M wire
    wire_was = wire_at f first y first_end linked

    linked_up : Joined bare bare_model (with_graph bare (link_ports bare.graph (slot_of M.node x) (slot_of M.node y)).graph) (link_model bare_model x y) (wire ∷ [])
    linked_up =
        subst (λ (v : Wire). Joined bare bare_model (with_graph bare (link_ports bare.graph (slot_of M.node x) (slot_of M.node y)).graph) (link_model bare_model x y) (v ∷ []))
        (λ i. wire_of_sides x.side (near_outer i) (far_outer i))
        (subst (λ (q : ℕ). Joined bare bare_model (with_graph bare (link_ports bare.graph (slot_of M.node x) q).graph) (link_model bare_model x y) (wire_of_sides x.side (outer bare bare_model x) (outer bare bare_model y) ∷ [])) far_slot
        (subst (λ (p : ℕ). Joined bare bare_model (with_graph bare (link_ports bare.graph p (slot_of bare_model.node y)).graph) (link_model bare_model x y) (wire_of_sides x.side (outer bare bare_model x) (outer bare bare_model y) ∷ [])) went.slot
        (join_ends went.fine x y near_end' far_end' went.free far_free (f.good.join_sides first y linked))))

  -- by the definition
  first_port : subport_at m (slot_of M.node x) x.side 0 ≡ slot_of M.node first
  first_port = h.reads 0 (let l = h.several in omega arith)

  pub bare_is : is_split m (slot_of M.node x) ≡ true → unsplit m (slot_of M.node x) ≡ bare
  bare_is s = unsplit_split m (slot_of M.node x) s ∙ ap (remove_copy m (slot_of M.node x)) h.copy_is

  -- and the port is unsplit
  pub direct_whole : is_split m (slot_of M.node x) ≡ true → is_split (link_directly m (slot_of M.node x) x.side) (slot_of M.node x) ≡ false
  unfolding link_directly
  direct_whole s = go (has_link m.graph (subport_at m (slot_of M.node x) x.side 0))
    where
      gone : is_split (unsplit m (slot_of M.node x)) (slot_of M.node x) ≡ false
      gone = ap (λ (u : MultiPortGraph). is_split u (slot_of M.node x)) (bare_is s) ∙ went.unsplit

      go : (b : Bool) →
          is_split
          (cond b
          (with_graph (unsplit m (slot_of M.node x)) (link_ports (unsplit m (slot_of M.node x)).graph (slot_of M.node x) (far_port m.graph (subport_at m (slot_of M.node x) x.side 0))).graph)
          (unsplit m (slot_of M.node x))) (slot_of M.node x) ≡ false
      go true = split_below (unsplit m (slot_of M.node x)) _ (slot_of M.node x) ∙ gone
      go false = gone

-- At most its first subport is linked.
module _ {m : MultiPortGraph} {M : Model} (f : Fine m M) (x : model.InnerPlace) (sx : Seen m M x) (h : Hangs m M x)
    (empty : (i : ℕ) → 1 ≤ i → M.join (inner# h.copy x.side i) ≡ nowhere) where
  -- a linked end of the hidden node is the first
  only_first : (z y : model.InnerPlace) → IsEnd m M z → M.join z ≡ to y → z.node ≡ h.copy → z ≡ (first f x sx h)
  only_first z y e j n = go (ltb 0 z.pos) refl
    where
      side : z.side ≡ x.side
      side = end_side f z e (ap (is_hidden m) n ∙ h.is_copy) ∙ (ap (λ (c : ℕ). reversed (copy_side m c)) n ∙ sym h.side)

      go : (b : Bool) → ltb 0 z.pos ≡ b → z ≡ (first f x sx h)
      go true q =
          absurd
          (nowhere_not_to (empty z.pos (ltb-true 0 z.pos q))
          (ap M.join (sym (same_place_lem z (inner# h.copy x.side z.pos) n side refl)) ∙ j))
      go false q = same_place_lem z (first f x sx h) n side (let l = ltb-false 0 z.pos q in omega arith)

  -- a wire away from the port
  away : (w : Wire) (e : WireIn m M w) → (e.x.node ≡ h.copy → ⊥) → (e.y.node ≡ h.copy → ⊥) → WireIn (bare f x sx h) (bare_model f x sx h) w
  away w e a b =
      (went f x sx h).wires.kept w e
      (ap (touches (port_at x)) e.is
      ∙ touches_neither (port_at x) _ (end_elsewhere f x h.copy h.is_copy h.from e.x e.end a)
      (end_elsewhere f x h.copy h.is_copy h.from e.y (ends_join_ends f e.x e.y e.end e.joined) b))

  -- no wire at all at the port
  none_done : M.join (first f x sx h) ≡ nowhere → TidyDone m M (bare f x sx h)
  none_done free =
      record {
        model = (bare_model f x sx h);
        fine = (went f x sx h).fine;
        blocks = (went f x sx h).blocks;
        wires =
            record {
              kept = λ w e t.
                  away w e (never e.x e.y e.end e.joined)
                  (never e.y e.x (ends_join_ends f e.x e.y e.end e.joined) (f.good.join_back e.x e.y e.joined));
              came = λ w b. absurd b;
              only = λ w e. ⊎_elim (λ a. inl (a.0, refl)) absurd ((went f x sx h).wires.only w e);
            };
      }
    where
      never : (z y : model.InnerPlace) → IsEnd m M z → M.join z ≡ to y → z.node ≡ h.copy → ⊥
      never z y e j n = nowhere_not_to free (ap M.join (sym (only_first z y e j n)) ∙ j)

  module _ (y : model.InnerPlace) (linked : M.join (first f x sx h) ≡ to y) where
    one_done : TidyDone m M (with_graph (bare f x sx h) (link_ports (bare f x sx h).graph (slot_of M.node x) (slot_of M.node y)).graph)
    one_done =
        record {
          model = link_model (bare_model f x sx h) x y;
          fine = (linked_up f x sx h y linked).fine;
          blocks = ((λ n l b. (linked_up f x sx h y linked).blocks.0 n l ((went f x sx h).blocks.0 n l b)), λ n l b. (went f x sx h).blocks.1 n l ((linked_up f x sx h y linked).blocks.1 n l b));
          wires =
              record {
                kept = λ w e t. stays w e (cases_eq e.x.node h.copy) (cases_eq e.y.node h.copy);
                came = λ w b. absurd b;
                only = λ w e.
                    ⊎_elim (λ a. ⊎_elim (λ b. inl (b.0, refl)) absurd ((went f x sx h).wires.only w a.0))
                    (⊎_elim (λ q. inl (subst (WireIn m M) (sym q) (wire_was f x sx h y linked), refl)) absurd) ((linked_up f x sx h y linked).wires.only w e);
              };
        }
      where
        is_wire : (w : Wire) → w ≡ (wire f x sx h y linked) → WireIn (with_graph (bare f x sx h) (link_ports (bare f x sx h).graph (slot_of M.node x) (slot_of M.node y)).graph) (link_model (bare_model f x sx h) x y) w
        is_wire w q = (linked_up f x sx h y linked).wires.came w (inl q)

        stays : (w : Wire) (e : WireIn m M w) → (e.x.node ≡ h.copy) ⊎ (e.x.node ≡ h.copy → ⊥) → (e.y.node ≡ h.copy) ⊎ (e.y.node ≡ h.copy → ⊥)
            → WireIn (with_graph (bare f x sx h) (link_ports (bare f x sx h).graph (slot_of M.node x) (slot_of M.node y)).graph) (link_model (bare_model f x sx h) x y) w
        stays w e (inl a) b =
            let q : e.x ≡ (first f x sx h) = only_first e.x e.y e.end e.joined a in
            let r : e.y ≡ y = to_same e.joined (ap M.join q ∙ linked) in
            let s : x.side ≡ Outgoing = ap (λ (z : model.InnerPlace). z.side) (sym q) ∙ e.outgoing in
            is_wire w (e.is ∙ (same_wire (ap (outer m M) q) (ap (outer m M) r) ∙ ap (λ (d : Direction). wire_of_sides d (outer m M (first f x sx h)) (outer m M y)) (sym s)))
        stays w e (inr a) (inl b) =
            let back = f.good.join_back e.x e.y e.joined in
            let q : e.y ≡ (first f x sx h) = only_first e.y e.x (ends_join_ends f e.x e.y e.end e.joined) back b in
            let r : e.x ≡ y = to_same back (ap M.join q ∙ linked) in
            let s : x.side ≡ Incoming = incoming x.side refl (ap (λ (z : model.InnerPlace). z.side) (sym r) ∙ e.outgoing) in
            is_wire w (e.is ∙ (same_wire (ap (outer m M) r) (ap (outer m M) q) ∙ ap (λ (d : Direction). wire_of_sides d (outer m M (first f x sx h)) (outer m M y)) (sym s)))
          where
            incoming : (d : Direction) → x.side ≡ d → y.side ≡ Outgoing → x.side ≡ Incoming
            incoming Incoming p q = p
            incoming Outgoing p q = absurd (f.good.join_sides (first f x sx h) y linked (p ∙ sym q))
        stays w e (inr a) (inr b) = (linked_up f x sx h y linked).wires.kept w (away w e a b) refl

  pub direct_done : is_split m (slot_of M.node x) ≡ true → TidyDone m M (link_directly m (slot_of M.node x) x.side)
  unfolding link_directly
  direct_done s = go (M.join (first f x sx h)) refl
    where
      go : (w : Far) → M.join (first f x sx h) ≡ w
          → TidyDone m M
          (cond (has_link m.graph (subport_at m (slot_of M.node x) x.side 0))
          (with_graph (unsplit m (slot_of M.node x)) (link_ports (unsplit m (slot_of M.node x)).graph (slot_of M.node x) (far_port m.graph (subport_at m (slot_of M.node x) x.side 0))).graph)
          (unsplit m (slot_of M.node x)))
      go nowhere j = rw ((first_port f x sx h), unlinked_is f (first f x sx h) (first_end f x sx h).valid j, (bare_is f x sx h) s) (none_done j)
      go (to y) j = rw ((first_port f x sx h), linked_is f (first f x sx h) y j, far_of f (first f x sx h) y j, (bare_is f x sx h) s) (one_done y j)

-- What a tidied port has: no hidden node, or one whose last subport is wired and not its only one.

pub data TidyLeft (m : MultiPortGraph) (p : ℕ) (d : Direction) : Type 0 where
  whole : is_split m p ≡ false → TidyLeft m p d
  shared : is_split m p ≡ true → 2 ≤ subports m p d → subports_left m p d ≡ subports m p d → TidyLeft m p d

module _ {m : MultiPortGraph} {M : Model} (f : Fine m M) where
  -- a resize to the same counts changes nothing
  same_recount : (n : ℕ) (k : NodeMeta) → M.node n ≡ live k → recounted m n m.graph ≡ m
  unfolding recounted
  same_recount n k e =
      let a = ports_end f.good n k e in
      let l = f.marks_long in
      rw (meta_of_node f.good f.holds n k e) (ap (with_marks m) (lay_same m.multiport k (omega arith)))

  pub unchanged : (x : model.InnerPlace) (h : Hangs m M x) → drop_subports m h.copy x.side (count_of (M.node h.copy) x.side) ≡ m
  unfolding drop_subports
  unchanged x h =
      let k = f.copy h.copy h.is_copy in
      let c : count_of (M.node h.copy) x.side ≡ ports_on k.meta x.side = ap (λ (s : Slots). count_of s x.side) k.here in
      let one : ports_on k.meta (reversed x.side) ≡ 1 = ap (ports_on k.meta) (reversed_twice x.side (copy_side m h.copy) h.side) ∙ k.single in
      let l = left_of k.meta x.side one in
      let i : left_incoming x.side (count_of (M.node h.copy) x.side) ≡ k.meta.incoming = ap (left_incoming x.side) c ∙ l.0 in
      let o : left_outgoing x.side (count_of (M.node h.copy) x.side) ≡ k.meta.outgoing = ap (left_outgoing x.side) c ∙ l.1 in
      let g : resized_within m.graph h.copy (left_incoming x.side (count_of (M.node h.copy) x.side)) (left_outgoing x.side (count_of (M.node h.copy) x.side)) ≡ m.graph =
      same_within m.graph h.copy _ _ k.meta (meta_of_node f.good f.holds h.copy k.meta k.here) i o in
      let z : m.subport_count - (count_of (M.node h.copy) x.side - count_of (M.node h.copy) x.side) ≡ m.subport_count = omega arith in
      rw (g, count_of_lem f h.copy x.side, z) (ap (λ (u : MultiPortGraph). with_subports u m.subport_count) (same_recount h.copy k.meta k.here))

-- a port whose hidden node is left with some subports is split
shorter_split : {m : MultiPortGraph} {M : Model} (f : Fine m M) (x : model.InnerPlace) → Seen m M x → (c r : ℕ) {m' : MultiPortGraph} → ShorterDone m M x c r m' → is_split m' (slot_of M.node x) ≡ true
shorter_split f x sx c r {m'} s = ap (is_split m') (sym (seen_still f s.is.fine s.is.blocks x sx).1) ∙ s.is.fine.main_marked c x s.is.is_copy s.is.from

-- a hidden node that is left with r subports, of which the last one is linked
left_shared : {m : MultiPortGraph} {M : Model} (f : Fine m M) (x : model.InnerPlace) → Seen m M x → (c r : ℕ) → 2 ≤ r → {m' : MultiPortGraph} → ShorterDone m M x c r m' →
    (y : model.InnerPlace) × (M.join (inner# c x.side (r - 1)) ≡ to y) → TidyLeft m' (slot_of M.node x) x.side
unfolding subports_left
left_shared {m} {M} f x sx c r several {m'} s last =
    let h = hangs s.is.fine c x s.is.is_copy s.is.from in
    let own : h.copy ≡ c = one_copy s.is.fine h.copy c x h.from s.is.from in
    let slot = (seen_still f s.is.fine s.is.blocks x sx).1 in
    let same : subports m' (slot_of M.node x) x.side ≡ r = ap (λ (q : ℕ). subports m' q x.side) (sym slot) ∙ (h.count ∙ (ap (λ (e : ℕ). count_of (s.model.node e) x.side) own ∙ s.is.count)) in
    let copy : copy_node m' (slot_of M.node x) ≡ c = ap (copy_node m') (sym slot) ∙ (h.copy_is ∙ own) in
    shared (shorter_split f x sx c r s) (subst (λ (q : ℕ). 2 ≤ q) (sym same) several)
    (rw (copy, same) (all (linked_up_to m'.graph c x.side r) (last_linked s.is.fine c x.side r (let q = s.is.count in omega arith))))
  where
    all : (u : ℕ) → LastLinked s.model c x.side r u → u ≡ r
    all u l = go (ltb u r) refl
      where
        go : (b : Bool) → ltb u r ≡ b → u ≡ r
        go true e =
            let q = ltb-true u r e in
            absurd (nowhere_not_to (l.empty (r - 1) (omega arith) (omega arith)) (s.is.joins (inner# c x.side (r - 1)) ∙ last.1))
        go false e = let q = ltb-false u r e in let z = l.most in omega arith

module _ {m : MultiPortGraph} {M : Model} (f : Fine m M) where
  module _ (x : model.InnerPlace) (sx : Seen m M x) where
    abbrev p : ℕ
    p = slot_of M.node x

    -- what is said of a tidied port is said of its hidden node left with some of its subports, and of the port linked directly
    tidied_by : (P : MultiPortGraph → Type 0) → is_split m p ≡ true →
        ((h : Hangs m M x) (r : ℕ) → subports_left m p x.side ≡ r → LastLinked M h.copy x.side (count_of (M.node h.copy) x.side) r → 1 < r → P (drop_subports m h.copy x.side r)) →
        ((h : Hangs m M x) (r : ℕ) → subports_left m p x.side ≡ r → LastLinked M h.copy x.side (count_of (M.node h.copy) x.side) r → r ≤ 1 → P (link_directly m p x.side)) →
        P (tidied m p x.side)
    unfolding tidied subports_left
    tidied_by P s drops goes = go (split_has_copy f x sx s)
      where
        go : Hangs m M x → P (cond (ltb 1 (linked_up_to m.graph (copy_node m p) x.side (subports m p x.side)))
            (drop_subports m (copy_node m p) x.side (linked_up_to m.graph (copy_node m p) x.side (subports m p x.side))) (link_directly m p x.side))
        go h =
            rw (h.copy_is, h.count)
            (some (ltb 1 (linked_up_to m.graph h.copy x.side (count_of (M.node h.copy) x.side))) refl)
          where
            r : ℕ
            r = linked_up_to m.graph h.copy x.side (count_of (M.node h.copy) x.side)

            is : linked_up_to m.graph (copy_node m p) x.side (subports m p x.side) ≡ r
            is = λ i. linked_up_to m.graph (h.copy_is i) x.side (h.count i)

            l : LastLinked M h.copy x.side (count_of (M.node h.copy) x.side) r
            l = last_linked f h.copy x.side (count_of (M.node h.copy) x.side) (omega arith)

            some : (b : Bool) → ltb 1 r ≡ b → P (cond b (drop_subports m h.copy x.side r) (link_directly m p x.side))
            some true e = drops h r is l (ltb-true 1 r e)
            some false e = goes h r is l (ltb-false 1 r e)

    pub tidied_done : is_split m p ≡ true → TidyDone m M (tidied m p x.side)
    tidied_done s =
        tidied_by (TidyDone m M) s (λ h r is l more. shorter_done (drop_done f x h r more l.most (empty_above f h.copy x.side r l)))
        (λ h r is l few. direct_done f x sx h (λ i q. empty_above f h.copy x.side r l i (omega arith)) s)

    pub tidied_left : is_split m p ≡ true → TidyLeft (tidied m p x.side) p x.side
    tidied_left s =
        tidied_by (λ m'. TidyLeft m' p x.side) s
        (λ h r is l more.
        left_shared f x sx h.copy r more (drop_done f x h r more l.most (empty_above f h.copy x.side r l)) (let y = l.linked (r - 1) (omega arith) in (y.0, y.1)))
        (λ h r is l few. whole (direct_whole f x sx h s))

    -- the hidden node stays exactly if two subports or more are left, and has its block then
    pub tidied_split : is_split m p ≡ true → ((is_split (tidied m p x.side) p ≡ true) × (1 < subports_left m p x.side) × SameBlock m.graph (tidied m p x.side).graph (copy_node m p))
        ⊎ ((is_split (tidied m p x.side) p ≡ false) × (subports_left m p x.side ≤ 1))
    tidied_split s =
        tidied_by
        (λ m'. ((is_split m' p ≡ true) × (1 < subports_left m p x.side) × SameBlock m.graph m'.graph (copy_node m p)) ⊎ ((is_split m' p ≡ false) × (subports_left m p x.side ≤ 1))) s
        (λ h r is l more.
        let e = empty_above f h.copy x.side r l in
        inl (shorter_split f x sx h.copy r (drop_done f x h r more l.most e), omega arith, subst (SameBlock m.graph (drop_subports m h.copy x.side r).graph) (sym h.copy_is) (drop_block f x h r more l.most e)))
        (λ h r is l few. inr (direct_whole f x sx h s, omega arith))

    -- a port that stays split is left with what a resize within the block gives
    pub left_within : (h : Hangs m M x) → 1 < subports_left m p x.side →
        DropWithin m.graph h.copy (f.copy h.copy h.is_copy).meta (left_incoming x.side (subports_left m p x.side)) (left_outgoing x.side (subports_left m p x.side))
    unfolding subports_left
    left_within h more =
        let l = last_linked f h.copy x.side (count_of (M.node h.copy) x.side) (omega arith) in
        let e : linked_up_to m.graph (copy_node m p) x.side (subports m p x.side) ≡ linked_up_to m.graph h.copy x.side (count_of (M.node h.copy) x.side) =
        λ i. linked_up_to m.graph (h.copy_is i) x.side (h.count i) in
        rw e
        (drop_within f x h (linked_up_to m.graph h.copy x.side (count_of (M.node h.copy) x.side)) (rw e at more) l.most
        (empty_above f h.copy x.side (linked_up_to m.graph h.copy x.side (count_of (M.node h.copy) x.side)) l))

    -- the last subport of a tidied port has a link
    pub left_linked : (h : Hangs m M x) → TidyLeft m p x.side → is_split m p ≡ true →
        (2 ≤ subports m p x.side) × ((y : model.InnerPlace) × (M.join (inner# h.copy x.side (subports m p x.side - 1)) ≡ to y))
    unfolding subports_left
    left_linked h (whole e) t = absurd (true_not_false t e)
    left_linked h (shared s several same) t =
        let l = last_linked f h.copy x.side (count_of (M.node h.copy) x.side) (omega arith) in
        let q : linked_up_to m.graph h.copy x.side (count_of (M.node h.copy) x.side) ≡ suc (subports m p x.side - 1) =
        (λ i. linked_up_to m.graph (sym h.copy_is i) x.side (sym h.count i)) ∙ (same ∙ omega arith) in
        (several, l.linked (subports m p x.side - 1) q)

    -- a port that is tidied stays as it is
    pub tidied_again : TidyLeft m p x.side → cond (is_split m p) (tidied m p x.side) m ≡ m
    unfolding tidied
    tidied_again (whole e) = rw e
    tidied_again (shared e several same) = rw e (go (split_has_copy f x sx e))
      where
        go : Hangs m M x → cond (ltb 1 (subports_left m p x.side)) (drop_subports m (copy_node m p) x.side (subports_left m p x.side)) (link_directly m p x.side) ≡ m
        go h = rw (same, lt-ltb 1 (subports m p x.side) several, h.copy_is, h.count) (unchanged f x h)

-- The call.

abbrev pub TidySays : MultiPortGraph → Model → MultiPortGraph → Result (Unit {0}) Refusal → Type 0
TidySays m M m' (Ok tt) = TidyDone m M m'
TidySays m M m' (Err r) = m' ≡ m

module _ {m : MultiPortGraph} {M : Model} (f : Fine m M) (p : ℕ) where
  abbrev TidySaid : PortTidied → Type 0
  TidySaid v = TidySays m M v.graph v.answer

  -- accepted: every block and every wire is where it was; refused: the graph stays
  pub tidy_port_law : TidySays m M (tidy_port m p).graph (tidy_port m p).answer
  tidy_port_law = subst TidySaid (sym (tidy_cases m p)) (ports (seen m p) refl)
    where
      marks : (n : ℕ) (d : Direction) → BlockPort m M p n d → (b : Bool) → is_split m p ≡ b → TidyDone m M (cond b (tidied m p d) m)
      marks n d b true e =
          subst (λ (v : Direction). TidyDone m M (tidied m p v)) b.side
          (subst (λ (q : ℕ). TidyDone m M (tidied m q b.place.side)) b.slot (tidied_done f b.place b.is_seen (ap (is_split m) b.slot ∙ e)))
      marks n d b false e =
          record {
            model = M;
            fine = f;
            blocks = ((λ i l c. c), λ i l c. c);
            wires = record { kept = λ w i t. i; came = λ w c. absurd c; only = λ w i. inl (i, refl) };
          }

      ports : (v : Port) → seen m p ≡ v → TidySaid (tidy_seen m p v)
      ports dead e = refl
      ports hidden e = refl
      ports (visible n d) e = marks n d (block_seen f p n d e) (is_split m p) refl

  -- what the port of a block has afterwards
  pub tidy_left : (n : ℕ) (d : Direction) → seen m p ≡ visible n d → TidyLeft (tidy_port m p).graph p d
  tidy_left n d e = subst (λ (v : PortTidied). TidyLeft v.graph p d) (sym (tidy_cases m p ∙ ap (tidy_seen m p) e)) (marks (block_seen f p n d e) (is_split m p) refl)
    where
      marks : BlockPort m M p n d → (b : Bool) → is_split m p ≡ b → TidyLeft (cond b (tidied m p d) m) p d
      marks b true s = transport (λ i. TidyLeft (tidied m (b.slot i) (b.side i)) (b.slot i) (b.side i)) (tidied_left f b.place b.is_seen (ap (is_split m) b.slot ∙ s))
      marks b false s = whole s

  pub tidy_again : tidy_port (tidy_port m p).graph p ≡ tidy_port m p
  tidy_again = subst (λ (v : PortTidied). tidy_port v.graph p ≡ v) (sym (tidy_cases m p)) (ports (seen m p) refl)
    where
      port : (n : ℕ) (d : Direction) → seen m p ≡ visible n d → BlockPort m M p n d → is_split m p ≡ true → tidy_port (tidied m p d) p ≡ record { graph = tidied m p d; answer = Ok tt }
      port n d e b s =
          let t = tidied_done f b.place b.is_seen (ap (is_split m) b.slot ∙ s) in
          let u = tidied_left f b.place b.is_seen (ap (is_split m) b.slot ∙ s) in
          transport
          (λ i. tidy_port (tidied m (b.slot i) (b.side i)) p ≡ record { graph = tidied m (b.slot i) (b.side i); answer = Ok tt }) (again n d e b t u)
        where
          again : (n : ℕ) (d : Direction) → seen m p ≡ visible n d → (b : BlockPort m M p n d) → TidyDone m M (tidied m (slot_of M.node b.place) b.place.side)
              → TidyLeft (tidied m (slot_of M.node b.place) b.place.side) (slot_of M.node b.place) b.place.side
              → tidy_port (tidied m (slot_of M.node b.place) b.place.side) p
              ≡ record { graph = tidied m (slot_of M.node b.place) b.place.side; answer = Ok tt }
          again n d e b t u =
              let m' : MultiPortGraph = tidied m (slot_of M.node b.place) b.place.side in
              let x = b.place in
              let k = seen_still f t.fine t.blocks x b.is_seen in
              let q : slot_of t.model.node x ≡ p = k.1 ∙ b.slot in
              let z = tidied_again t.fine x k.0 (subst (λ (i : ℕ). TidyLeft m' i x.side) (sym k.1) u) in
              let y : cond (is_split m' p) (tidied m' p x.side) m' ≡ m' = subst (λ (i : ℕ). cond (is_split m' i) (tidied m' i x.side) m' ≡ m') q z in
              let o : seen m' p ≡ visible x.node x.side = ap (seen m') (sym q) ∙ seen_block t.fine x k.0 in
              tidy_cases m' p ∙ (ap (tidy_seen m' p) o ∙ (λ i. record { graph = y i; answer = Ok tt }))

      marks : (n : ℕ) (d : Direction) → seen m p ≡ visible n d → (b : Bool) → is_split m p ≡ b →
          tidy_port (cond b (tidied m p d) m) p ≡ record { graph = cond b (tidied m p d) m; answer = Ok tt }
      marks n d e true s = port n d e (block_seen f p n d e) s
      marks n d e false s = tidy_cases m p ∙ (ap (tidy_seen m p) e ∙ rw s refl)

      ports : (v : Port) → seen m p ≡ v → tidy_port (tidy_seen m p v).graph p ≡ tidy_seen m p v
      ports dead e = tidy_cases m p ∙ ap (tidy_seen m p) e
      ports hidden e = tidy_cases m p ∙ ap (tidy_seen m p) e
      ports (visible n d) e = marks n d e (is_split m p) refl
