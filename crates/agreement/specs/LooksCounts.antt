-- Counts, fan-outs and starts of walks are alike, from the relation.
use Rattle.std.proofs.lemmas.List.{length-map}
use Rattle.std.specs.Prelude.{◌≡◌, refl, Bool, false, cond, not, ◌⊎◌, ℕ, ◌+◌, length}
use Rattle.std.proofs.Common.{sym, ◌∙◌, ap, subst, inl, inr, arith, length-append, eq-eqb, ne_eqb}
use Rattle.std.proofs.Math.Bool.{true}
use mathlib.Core.List.{List, [], ◌∷◌, map, flat_map}
use Rattle.std.proofs.Math.Logic.{⊎_elim}
use Rattle.std.proofs.Math.Dec.{eqb}
use Rattle.std.proofs.lemmas.Bool.{eqb-false, not-true}
use Rattle.port_tables.specs.Lists.{Member, Rising, range}
use Rattle.std.specs.List.{filter}
use Rattle.portgraph.specs.Lookups.{num_ports}
use Rattle.portgraph.specs.Model.{Model, Slots, count_of}
use Rattle.port_tables.specs.declared.direction.Direction.{Direction}
use Rattle.port_tables.specs.declared.direction.Direction.TheVariants.{Incoming, Outgoing}
use Rattle.port_tables.specs.declared.node_entry.NodeMeta.{NodeMeta}
use Rattle.multiportgraph.specs.Calls.{visible_nodes, visible_ports, visible_links}
use Rattle.multiportgraph.specs.CountLaws.{visible_nodes_lem}
use Rattle.multiportgraph.specs.Ends.{count_of_lem}
use Rattle.multiportgraph.specs.HiddenStays.{true_not_false}
use Rattle.multiportgraph.specs.WellFormed.{inner#, BlockIs}
use Rattle.theorems.proofs.ListingWires.{spot_back}
use Rattle.port_tables.specs.Listing as listing
use Rattle.port_tables.specs.Listing.{rising_once, member_map, map_member, member_filter, filter_member, filter_all, rising_filter, rising_map, length_range}
use Rattle.multiportgraph.specs.Lookups.{port_fan_out, node_fan_out}
use Rattle.port_tables.specs.Places.{spot, at_spot, touches}
use Rattle.multiportgraph.specs.Walks.{start_at_port, start_at_node, start_between}
use Rattle.multiportgraph.specs.Wires.{blocks, ports_of_side}
use Rattle.multiportgraph.specs.declared.multiportgraph.MultiPortGraph.{MultiPortGraph}
use Rattle.theorems.specs.Claims.{FanOutIsWires}
use Rattle.theorems.specs.Conditions.{cut_dead, remove_unknown}
use Rattle.theorems.proofs.FanOutWires.{fans_booked}
use Rattle.theorems.proofs.HistoryCounts.{counted}
use Rattle.theorems.specs.PortCases.{seen_block_port, seen_none, live_contained, gone_not_contained}
use Rattle.theorems.proofs.PortListing.{ListsBlocks, blocks_as_many, blocks_list, both_sides, by_blocks_lists, lists_as_long, ascending_lists, visible_ports_ascending}
use Rattle.theorems.proofs.StartLaws.{port_fan_out_refused, node_fan_out_refused}
use Rattle.sketches.specs.Plan.{PlanBlock, has_block, ports_on_side, ports_in_all, spot_named, is_there}
use Rattle.sketches.specs.PlanLists as listed
use Rattle.sketches.specs.PlanNumbers.{reason_number}
use Rattle.sketches.specs.declared.sketch.SketchPort.{SketchPort}
use Rattle.sketches.specs.declared.sketch.Reason.TheVariants as reason
use Rattle.agreement.specs.Meaning.{Naming, Both, PortMeans, same_port, no_port, BlockMeans}
use Rattle.agreement.specs.Agreement.{CountAlike, StartAlike, BlocksAlike, SameBlock}
use Rattle.agreement.specs.Alike.{Alike, Apart, OtherName, wire_renamed}
use Rattle.agreement.specs.Names.{naming, same_spot, same_touches, named_eqb}
use Rattle.agreement.specs.Standing.{BlockHere, BlockGone, block_here, block_meant, PortHere, PortGone, here#, port_meant}
use Rattle.agreement.specs.Looks.{as_many}

-- Sums over the blocks of a plan, and over the names.

unfoldable weigh : (PlanBlock → ℕ) → List PlanBlock → ℕ
weigh f [] = 0
weigh f (p ∷ l) = f p + weigh f l

unfoldable sum : (Naming → ℕ) → List Naming → ℕ
sum g [] = 0
sum g (x ∷ l) = g x + sum g l

abbrev not_named : ℕ → PlanBlock → Bool
not_named n b = not (eqb b.name n)

weigh_without : (f : PlanBlock → ℕ) (l : List PlanBlock) → Rising OtherName l → (p : PlanBlock) → Member p l → weigh f l ≡ f p + weigh f (filter (not_named p.name) l)
unfolding weigh
weigh_without f [] r p never = absurd never
weigh_without f (q ∷ l) r p (inl e) =
    let others : filter (not_named p.name) l ≡ l =
    filter_all (not_named p.name) l (λ c i. ap not (ne_eqb c.name p.name (λ z. r.0 c i (ap (λ (v : PlanBlock). v.name) (sym e) ∙ sym z)))) in
    rw (eq-eqb q.name p.name (ap (λ (v : PlanBlock). v.name) (sym e)), others, e) refl
weigh_without f (q ∷ l) r p (inr i) =
    let k = weigh_without f l r.1 p i in
    rw (ne_eqb q.name p.name (r.0 p i)) (omega arith)

-- blocks and names go together, so the sums are the same
same_weights : (f : PlanBlock → ℕ) (g : Naming → ℕ) (ns : List Naming) (l : List PlanBlock) → Rising Apart ns → Rising OtherName l →
    ((x : Naming) → Member x ns → (p : PlanBlock) × Member p l × (p.name ≡ x.name) × (f p ≡ g x)) → ((p : PlanBlock) → Member p l → (x : Naming) × Member x ns × (x.name ≡ p.name)) →
    weigh f l ≡ sum g ns
unfolding weigh sum
same_weights f g [] [] r s there back = refl
same_weights f g [] (p ∷ l) r s there back = absurd (back p (inl refl)).1
same_weights f g (x ∷ ns) l r s there back =
    let k = there x (inl refl) in
    let p = k.0 in
    let w = weigh_without f l s p k.1 in
    let rest = same_weights f g ns (filter (not_named p.name) l) r.1 (rising_filter OtherName (not_named p.name) l s)
    (λ y i.
    let q = there y (inr i) in
    (q.0, filter_member (not_named p.name) q.0 l q.1 (ap not (ne_eqb q.0.name p.name (λ z. (r.0 y i).1 (sym k.2 ∙ (sym z ∙ q.2))))), q.2, q.3))
    (λ q i.
    let m = member_filter (not_named p.name) q l i in
    let y = back q m.0 in
    (y.0, ⊎_elim (λ e. absurd (eqb-false q.name p.name (not-true _ m.1) (sym y.2 ∙ (ap (λ (v : Naming). v.name) e ∙ sym k.2)))) (λ j. j) y.1, y.2)) in
    let e = k.3 in
    omega arith

weigh_ones : (l : List PlanBlock) → weigh (λ p. 1) l ≡ length l
unfolding weigh
weigh_ones [] = refl
weigh_ones (p ∷ l) = let e = weigh_ones l in omega arith

sum_ones : (l : List Naming) → sum (λ x. 1) l ≡ length l
unfolding sum
sum_ones [] = refl
sum_ones (x ∷ l) = let e = sum_ones l in omega arith

abbrev size : PlanBlock → ℕ
size p = p.incoming + p.outgoing

weigh_sizes : (l : List PlanBlock) → ports_in_all l ≡ weigh size l
unfolding weigh ports_in_all
weigh_sizes [] = refl
weigh_sizes (p ∷ l) = let e = weigh_sizes l in omega arith

abbrev node_of : Naming → ℕ
node_of x = x.node

sum_gathered : (m : MultiPortGraph) (l : List Naming) → length (flat_map (both_sides m) (map node_of l)) ≡ sum (λ x. num_ports m.graph x.node Incoming + num_ports m.graph x.node Outgoing) l
unfolding sum flat_map ports_of_side
sum_gathered m [] = refl
sum_gathered m (x ∷ l) =
    let e = sum_gathered m l in
    let side : (d : Direction) → length (ports_of_side m d x.node) ≡ num_ports m.graph x.node d = λ d. length-map (range 0 (num_ports m.graph x.node d)) _ ∙ length_range 0 _ in
    let i = side Incoming in
    let o = side Outgoing in
    let both = length-append (ports_of_side m Incoming x.node) (ports_of_side m Outgoing x.node) in
    let all = length-append (both_sides m x.node) (flat_map (both_sides m) (map node_of l)) in
    omega arith

-- Lists without repeats.

module _ {b : Both} {M : Model} (a : Alike b M) where
  abbrev m : MultiPortGraph
  m = b.kit.graph

  names_list : ListsBlocks m M (map node_of b.names)
  names_list =
      record {
        once = rising_map Apart listing.Apart node_of b.names a.apart (λ x y i j k. k.0);
        only = λ n i.
            let e = member_map node_of n b.names i in
            let r = a.named e.0 e.1 in
            subst (λ (k : ℕ). (c : NodeMeta) × BlockIs m M k c) (sym e.2) (r.0, r.1);
        all = λ n k c. let x = a.kit_named n k c in subst (λ (v : ℕ). Member v (map node_of b.names)) x.2 (map_member node_of x.0 b.names x.1);
      }

  -- the block of a name
  block_of : (x : Naming) → Member x b.names → (p : PlanBlock) × Member p b.plan.blocks × (p.name ≡ x.name)
  block_of x i = let r = a.named x i in (_, r.2, refl)

  pub same_nodes_count : visible_nodes m ≡ listed.block_count b.plan
  same_nodes_count =
      visible_nodes_lem a.rel.fine
      ∙ (blocks_as_many (blocks_list a.rel.fine) names_list
      ∙ (length-map b.names node_of
      ∙ (sym (sum_ones b.names)
      ∙ (sym (same_weights (λ p. 1) (λ x. 1) b.names b.plan.blocks a.apart a.plan_once (λ x i. let r = block_of x i in (r.0, r.1, r.2, refl)) a.plan_named) ∙ weigh_ones b.plan.blocks))))

  pub same_side_ports : (n k : ℕ) → SameBlock b n k → (d : Direction) → num_ports m.graph n d ≡ ports_on_side b.plan.blocks k d
  same_side_ports n k i d =
      let h = block_here a n k i in
      count_of_lem a.rel.fine n d ∙ (ap (λ (s : Slots). count_of s d) h.block.1 ∙ sym (h.counts d))

  pub same_ports_count : visible_ports m ≡ listed.port_count b.plan
  same_ports_count =
      visible_ports_ascending a.rel.fine
      ∙ (lists_as_long (ascending_lists a.rel.fine) (by_blocks_lists a.rel.fine names_list)
      ∙ (sum_gathered m b.names
      ∙ (sym (same_weights size (λ x. num_ports m.graph x.node Incoming + num_ports m.graph x.node Outgoing) b.names b.plan.blocks a.apart a.plan_once
      (λ x i.
      let r = a.named x i in
      let ins = count_of_lem a.rel.fine x.node Incoming ∙ ap (λ (s : Slots). count_of s Incoming) r.1.1 in
      let outs = count_of_lem a.rel.fine x.node Outgoing ∙ ap (λ (s : Slots). count_of s Outgoing) r.1.1 in
      (_, r.2, refl, omega arith)) a.plan_named)
      ∙ sym (weigh_sizes b.plan.blocks))))

  -- Starts of walks.

  pub starts_at_port_lem : (p : ℕ) (x : SketchPort) → PortMeans b p x → StartAlike (start_at_port m p) (is_there b.plan x) reason.UnknownPort
  unfolding start_at_port reason_number
  starts_at_port_lem p x means =
      ⊎_elim (λ (h : PortHere b M p x). rw (seen_block_port a.rel.fine p (here# h) (h.is_seen, h.slot), h.there) tt) (λ (g : PortGone b M p x). rw (seen_none a.rel.fine p g.0, g.1) (_, refl)) (port_meant a p x means)

  pub starts_at_block_lem : (n k : ℕ) → BlockMeans b n k → StartAlike (start_at_node m n) (has_block b.plan.blocks k) reason.UnknownBlock
  unfolding start_at_node reason_number
  starts_at_block_lem n k means =
      ⊎_elim (λ (h : BlockHere b M n k). rw (live_contained a.rel.fine n h.meta h.block.1, h.block.0, h.there) tt) (λ (g : BlockGone b M n k). rw (gone_not_contained a.rel.fine n g.0, g.1) (_, refl)) (block_meant a n k means)

  pub starts_between_lem : (n k c j : ℕ) → BlockMeans b n k → BlockMeans b c j →
      StartAlike (start_between m n c) (cond (has_block b.plan.blocks k) (has_block b.plan.blocks j) false) reason.UnknownBlock
  unfolding start_between start_at_node reason_number
  starts_between_lem n k c j first second = go (block_meant a n k first) (block_meant a c j second)
    where
      go : BlockHere b M n k ⊎ BlockGone b M n k → BlockHere b M c j ⊎ BlockGone b M c j →
          StartAlike (start_between m n c) (cond (has_block b.plan.blocks k) (has_block b.plan.blocks j) false) reason.UnknownBlock
      go (inr g) t = rw (gone_not_contained a.rel.fine n g.0, g.1) (_, refl)
      go (inl h) (inr g) = rw (live_contained a.rel.fine n h.meta h.block.1, gone_not_contained a.rel.fine c g.0, h.there, g.1) (_, refl)
      go (inl h) (inl g) = rw (live_contained a.rel.fine n h.meta h.block.1, live_contained a.rel.fine c g.meta g.block.1, h.block.0, g.block.0, h.there, g.there) tt

  -- The blocks.

  pub same_blocks : BlocksAlike b.names (blocks m) (listed.block_names b.plan)
  same_blocks =
      let l = blocks_list a.rel.fine in
      record {
        kit_once = rising_once listing.Apart (λ x d. d refl) (blocks m) l.once;
        sketch_once = rising_once listing.Apart (λ x d. d refl) (listed.block_names b.plan) (rising_map OtherName listing.Apart (λ (p : PlanBlock). p.name) b.plan.blocks a.plan_once (λ p q i j e. e));
        there = λ n i.
            let k = l.only n i in
            let x = a.kit_named n k.0 k.1 in
            let r = a.named x.0 x.1 in
            (x.0.name, subst (λ (v : ℕ). Member (naming v x.0.name) b.names) x.2 x.1, map_member (λ (p : PlanBlock). p.name) _ b.plan.blocks r.2);
        back = λ k i.
            let p = member_map (λ (p : PlanBlock). p.name) k b.plan.blocks i in
            let x = a.plan_named p.0 p.1 in
            let r = a.named x.0 x.1 in
            (x.0.node, subst (λ (v : ℕ). Member (naming x.0.node v) b.names) (x.2 ∙ sym p.2) x.1, l.all x.0.node r.0 r.1);
      }

  -- With the engine's book.

  pub same_links_count : visible_links m ≡ listed.wire_count b.plan
  same_links_count = counted b.kit M a.rel ∙ sym (ap length a.wires ∙ length-map b.kit.book.wires (wire_renamed b.names))

  fans : FanOutIsWires b.kit
  fans = fans_booked b.kit a.rel

  pub same_fan_out : (p : ℕ) (x : SketchPort) → PortMeans b p x → CountAlike (port_fan_out m p) (listed.port_fan_out b.plan x)
  unfolding listed.port_fan_out reason_number
  same_fan_out p x (no_port e g) =
      ⊎_elim (λ (h : PortHere b M p x). absurd (true_not_false h.there g)) (λ (d : PortGone b M p x). rw ((port_fan_out_refused a.rel.fine p _).1 (cut_dead d.0), d.1) (_, refl)) (port_meant a p x (no_port e g))
  same_fan_out p x (same_port n e i) =
      let k : port_fan_out m p ≡ _ = fans.of_port p n x.side x.position e in
      let t : is_there b.plan x ≡ true = ⊎_elim (λ (h : PortHere b M p x). h.there) (λ (d : PortGone b M p x). absurd (here_or_gone d)) (port_meant a p x (same_port n e i)) in
      rw (k, t)
      (sym (as_many a (touches (at_spot (spot n x.side x.position))) (touches (at_spot (spot_named x)))
      (same_touches b.names (at_spot (spot n x.side x.position)) (at_spot (spot_named x)) (same_spot b.names a.apart n x.block i x.side x.position))))
    where
      here_or_gone : PortGone b M p x → ⊥
      here_or_gone d = let s = spot_back a.rel p n x.side x.position e in d.0 (inner# n x.side x.position) s.0.0 s.1

  pub same_block_fan_out : (n k : ℕ) → BlockMeans b n k → CountAlike (node_fan_out m n) (listed.block_fan_out b.plan k)
  unfolding listed.block_fan_out reason_number
  same_block_fan_out n k means = ⊎_elim here (λ (g : BlockGone b M n k). rw ((node_fan_out_refused a.rel.fine n _).1 (remove_unknown g.0), g.1) (_, refl)) (block_meant a n k means)
    where
      here : BlockHere b M n k → CountAlike (node_fan_out m n) (listed.block_fan_out b.plan k)
      here h =
          let c = a.rel.blocks.all n h.meta h.block in
          rw (fans.of_block n c.0 c.1 c.2, h.there)
          (sym (as_many a (λ w. eqb w.out.node n) (λ w. eqb w.out.node k) (λ w q. named_eqb b.names a.apart n k w.out.node h.named q.0)))
