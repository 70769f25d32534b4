-- When the start of a walk, a lookup or a fan-out is refused: 4 exactly if the node is not live, 5 exactly if it is hidden, 7
-- exactly if the port is not live, 8 exactly if it belongs to a hidden node, and nothing else. Else the walk starts, or the
-- lookup answers what the graph has; fan-out is the number of links listed.
use Rattle.std.specs.Prelude.{◌≡◌, Bool, ◌↔◌, ℕ, ◌≤◌, Option, Some, None, Ok, Err}
use Rattle.std.proofs.Math.Path.{refl, sym, ap}
use Rattle.std.proofs.Common.{◌∙◌, subst, inl, inr, arith, length-append}
use Rattle.std.proofs.Math.Bool.{true, false, cond}
use mathlib.Core.List.{List, [], ◌∷◌, flat_map}
use Rattle.std.proofs.Math.Dec.{eqb}
use Rattle.std.proofs.Math.ListN.{length}
use borrow.Author.Tests.{le-ltb, eqb-true, eq-eqb}
use Rattle.port_tables.specs.Limits.{node_slots}
use Rattle.port_tables.specs.Lists.{Member}
use Rattle.port_tables.specs.Entries.{ports_on, node#, port#}
use Rattle.portgraph.specs.Lookups.{contains_node, num_ports, count_in, capacity_in, node_port_capacity, port_index, port_in}
use Rattle.portgraph.specs.Model as model
use Rattle.portgraph.specs.Model.{Model, Slots, gone, live, slot_of, is_live, ports_of}
use Rattle.portgraph.specs.GoodSlots.{zero_is_not_one, gone_not_live}
use Rattle.portgraph.specs.PlaceLaws.{offset_of_place, meta_of_node, port_index_is}
use Rattle.port_tables.specs.declared.direction.Direction.{Direction}
use Rattle.port_tables.specs.declared.direction.Direction.TheVariants.{Outgoing}
use Rattle.port_tables.specs.declared.index.NodeIndex.{NodeIndex}
use Rattle.port_tables.specs.declared.index.PortIndex.{PortIndex}
use Rattle.port_tables.specs.declared.index.PortOffset.{PortOffset}
use Rattle.port_tables.specs.declared.sides.Sides.{Sides}
use Rattle.port_tables.specs.declared.node_entry.NodeMeta.{NodeMeta}
use Rattle.multiportgraph.specs.Reading.{is_hidden, position_of, seen}
use Rattle.multi_tables.specs.Forms.{Port, dead, hidden, visible, sum_of}
use Rattle.multiportgraph.specs.Calls.{visible_nodes}
use Rattle.multiportgraph.specs.Wires.{blocks, ports_of_side, side_links}
use Rattle.multiportgraph.specs.Walks.{port_links, fan_out, block_fan_out, Start, started, refused, start_at_node, start_between, start_seen, start_at_port, is_seen, node_ports_from, start_node_ports, subports_from, start_subports, port_links_from, start_port_links, links_from, start_links, neighbours_from, start_neighbours, connections_from, start_connections}
use Rattle.multiportgraph.specs.Lookups.{direction_seen, direction_of, node_seen, node_of, offset_seen, offset_of, fan_out_seen, port_fan_out, contains_port_of, counted, num_ports_of, capacity_of, node_fan_out, port_found, port_index_of, empty_of}
use Rattle.multiportgraph.specs.WellFormed.{Fine, BlockIs, Seen}
use Rattle.multiportgraph.specs.Ends as ends
use Rattle.multiportgraph.specs.ScanLaws.{side_in_row, side_links_in_row}
use Rattle.multiportgraph.specs.CountLaws.{visible_nodes_lem}
use Rattle.theorems.proofs.PortListing.{blocks_list}
use Rattle.theorems.proofs.WireRule.{seen_live}
use Rattle.multiportgraph.specs.declared.multiportgraph.MultiPortGraph.{MultiPortGraph}
use Rattle.multi_tables.specs.declared.answers.Refusal.{Refusal}
use Rattle.multi_tables.specs.declared.answers.Refusal.TheVariants.{UnknownNode, HiddenNode, UnknownPort, HiddenPort}
use Rattle.theorems.specs.Conditions.{OfBlock, PortIs, no_port, hidden_port, block_port, remove_unknown, remove_hidden, cut_dead, cut_hidden, NodeRefused, PortRefused, BetweenRefused, NodeIs, between_unknown, between_hidden, no_node, hidden_node, block_node}
use Rattle.theorems.specs.PortCases.{port_is, seen_block_port, live_contained, gone_not_contained}
use Rattle.std.proofs.lemmas.List.{nil_from_length}
use Rattle.portgraph.specs.LinkHolds.{total_none}

-- Conditions.

-- Answers that refuse as a start does.
module _ {A : Type 0} (no : Refusal → A) (one : (r s : Refusal) → no r ≡ no s → r ≡ s) (answer : Start → A) (denied : (r : Refusal) → answer (refused r) ≡ no r)
    (given : (r : Refusal) → answer started ≡ no r → ⊥) where
  by_start : (v : Start) (r : Refusal) (C : Type 0) → (v ≡ refused r) ↔ C → (answer v ≡ no r) ↔ C
  by_start v r C i = ((λ e. i.0 (go v e)), (λ c. ap answer (i.1 c) ∙ denied r))
    where
      go : (v : Start) → answer v ≡ no r → v ≡ refused r
      go started e = absurd (given r e)
      go (refused s) e = ap refused (one s r (sym (denied s) ∙ e))

module _ {m : MultiPortGraph} {M : Model} (f : Fine m M) where
  -- At a node.

  pub node_is : (n : ℕ) → NodeIs m M n
  node_is n = go (is_hidden m n) (M.node n) refl refl
    where
      go : (b : Bool) (v : Slots) → is_hidden m n ≡ b → M.node n ≡ v → NodeIs m M n
      go true v h e = hidden_node h
      go false gone h e = no_node e
      go false (live k) h e = block_node k (h, e)

  hidden_live : (n : ℕ) → is_hidden m n ≡ true → M.node n ≡ gone → ⊥
  hidden_live n h e = gone_not_live e (f.copy n h).here

  start_unknown : (n : ℕ) → M.node n ≡ gone → start_at_node m n ≡ refused UnknownNode
  unfolding start_at_node
  start_unknown n e = rw (gone_not_contained f n e)

  start_hidden : (n : ℕ) → is_hidden m n ≡ true → start_at_node m n ≡ refused HiddenNode
  unfolding start_at_node
  start_hidden n h = let k = f.copy n h in rw (live_contained f n k.meta k.here, h)

  start_block : (n : ℕ) (k : NodeMeta) → BlockIs m M n k → start_at_node m n ≡ started
  unfolding start_at_node
  start_block n k b = rw (live_contained f n k b.1, b.0)

  pub start_at_node_refused : (n : ℕ) (r : Refusal) → (start_at_node m n ≡ refused r) ↔ NodeRefused m M n r
  start_at_node_refused n r = ((λ e. go (node_is n) e), back r)
    where
      go : NodeIs m M n → start_at_node m n ≡ refused r → NodeRefused m M n r
      go (no_node h) e = let q : UnknownNode ≡ r = let z = start_unknown n h in cc in subst (NodeRefused m M n) q (remove_unknown h)
      go (hidden_node h) e = let q : HiddenNode ≡ r = let z = start_hidden n h in cc in subst (NodeRefused m M n) q (remove_hidden h)
      go (block_node k b) e = let z = start_block n k b in absurd (zero_is_not_one (cc))

      back : (r : Refusal) → NodeRefused m M n r → start_at_node m n ≡ refused r
      back r (remove_unknown h) = start_unknown n h
      back r (remove_hidden h) = start_hidden n h

  pub start_at_node_starts : (n : ℕ) → (start_at_node m n ≡ started) ↔ ((k : NodeMeta) × BlockIs m M n k)
  start_at_node_starts n = ((λ e. go (node_is n) e), (λ b. start_block n b.0 b.1))
    where
      go : NodeIs m M n → start_at_node m n ≡ started → (k : NodeMeta) × BlockIs m M n k
      go (no_node h) e = let z = start_unknown n h in absurd (zero_is_not_one (cc))
      go (hidden_node h) e = let z = start_hidden n h in absurd (zero_is_not_one (cc))
      go (block_node k b) e = (k, b)

  -- From one node to another.

  contained : (n : ℕ) → (M.node n ≡ gone → ⊥) → contains_node m.graph n ≡ true
  contained n h = go (M.node n) refl
    where
      go : (v : Slots) → M.node n ≡ v → contains_node m.graph n ≡ true
      go gone e = absurd (h e)
      go (live k) e = live_contained f n k e

  block_live : (n : ℕ) (k : NodeMeta) → BlockIs m M n k → M.node n ≡ gone → ⊥
  block_live n k b e = gone_not_live e b.1

  between_live : (n k : ℕ) → (M.node n ≡ gone → ⊥) → (M.node k ≡ gone → ⊥) → start_between m n k ≡ cond (is_hidden m n) (refused HiddenNode) (start_at_node m k)
  unfolding start_between
  between_live n k h j = rw (contained n h, contained k j)

  pub start_between_refuses : (n k : ℕ) (r : Refusal) → BetweenRefused m M n k r → start_between m n k ≡ refused r
  unfolding start_between
  start_between_refuses n k r (between_unknown (inl e)) = rw (gone_not_contained f n e)
  start_between_refuses n k r (between_unknown (inr e)) = go (contains_node m.graph n)
    where
      go : (b : Bool) →
          cond b (cond (contains_node m.graph k) (cond (is_hidden m n) (refused HiddenNode) (start_at_node m k)) (refused UnknownNode)) (refused UnknownNode)
          ≡ refused UnknownNode
      go true = rw (gone_not_contained f k e)
      go false = refl
  start_between_refuses n k r (between_hidden h j (inl t)) = between_live n k h j ∙ rw t
  start_between_refuses n k r (between_hidden h j (inr t)) = between_live n k h j ∙ go (is_hidden m n)
    where
      go : (b : Bool) → cond b (refused HiddenNode) (start_at_node m k) ≡ refused HiddenNode
      go true = refl
      go false = start_hidden k t

  -- both are blocks, or the start is refused with its condition
  data BetweenIs (n k : ℕ) : Type 0 where
    refused_so : (r : Refusal) → BetweenRefused m M n k r → BetweenIs n k
    both_blocks : (a b : NodeMeta) → BlockIs m M n a → BlockIs m M k b → BetweenIs n k

  between_is : (n k : ℕ) → BetweenIs n k
  between_is n k = go (node_is n) (node_is k)
    where
      go : NodeIs m M n → NodeIs m M k → BetweenIs n k
      go (no_node e) j = refused_so UnknownNode (between_unknown (inl e))
      go (hidden_node h) (no_node e) = refused_so UnknownNode (between_unknown (inr e))
      go (hidden_node h) (hidden_node t) = refused_so HiddenNode (between_hidden (hidden_live n h) (hidden_live k t) (inl h))
      go (hidden_node h) (block_node b t) = refused_so HiddenNode (between_hidden (hidden_live n h) (block_live k b t) (inl h))
      go (block_node a h) (no_node e) = refused_so UnknownNode (between_unknown (inr e))
      go (block_node a h) (hidden_node t) = refused_so HiddenNode (between_hidden (block_live n a h) (hidden_live k t) (inr t))
      go (block_node a h) (block_node b t) = both_blocks a b h t

  start_blocks : (n k : ℕ) (a b : NodeMeta) → BlockIs m M n a → BlockIs m M k b → start_between m n k ≡ started
  start_blocks n k a b h t = between_live n k (block_live n a h) (block_live k b t) ∙ rw h.0 (start_block k b t)

  pub start_between_refused : (n k : ℕ) (r : Refusal) → (start_between m n k ≡ refused r) ↔ BetweenRefused m M n k r
  start_between_refused n k r = (go (between_is n k), start_between_refuses n k r)
    where
      go : BetweenIs n k → start_between m n k ≡ refused r → BetweenRefused m M n k r
      go (refused_so s c) e = let q : s ≡ r = let z = start_between_refuses n k s c in cc in subst (BetweenRefused m M n k) q c
      go (both_blocks a b h t) e = let z = start_blocks n k a b h t in absurd (zero_is_not_one (cc))

  pub start_between_starts : (n k : ℕ) → (start_between m n k ≡ started) ↔ ((a : NodeMeta) × (b : NodeMeta) × BlockIs m M n a × BlockIs m M k b)
  start_between_starts n k = (go (between_is n k), (λ b. start_blocks n k b.0 b.1 b.2 b.3))
    where
      go : BetweenIs n k → start_between m n k ≡ started → (a : NodeMeta) × (b : NodeMeta) × BlockIs m M n a × BlockIs m M k b
      go (refused_so s c) e = let z = start_between_refuses n k s c in absurd (zero_is_not_one (cc))
      go (both_blocks a b h t) e = (a, b, h, t)

  -- At a port.

  -- what answers by the cases of a port number refuses with 7 and 8 alone
  module _ {A : Type 0} (no : Refusal → A) (one : (r s : Refusal) → no r ≡ no s → r ≡ s) (p : ℕ) (answer : Port → A) (on-dead : answer dead ≡ no (UnknownPort (port# p)))
      (on-hidden : answer hidden ≡ no (HiddenPort (port# p))) (given : (n : ℕ) (d : Direction) (r : Refusal) → answer (visible n d) ≡ no r → ⊥) where
    port_refuses : (r : Refusal) → PortRefused m M p r → answer (seen m p) ≡ no r
    port_refuses r (cut_dead d) = ap answer (ends.seen_dead f p d) ∙ on-dead
    port_refuses r (cut_hidden h) = ap answer (ap (seen m) (sym h.1.1) ∙ ends.seen_hidden f h.0 h.1.0 h.2) ∙ on-hidden

    by_port : (r : Refusal) → (answer (seen m p) ≡ no r) ↔ PortRefused m M p r
    by_port r = (go (port_is f p), port_refuses r)
      where
        go : PortIs m M p → answer (seen m p) ≡ no r → PortRefused m M p r
        go (no_port d) e = subst (PortRefused m M p) (one _ r (sym (port_refuses _ (cut_dead d)) ∙ e)) (cut_dead d)
        go (hidden_port h) e = subst (PortRefused m M p) (one _ r (sym (port_refuses _ (cut_hidden h)) ∙ e)) (cut_hidden h)
        go (block_port x b) e = absurd (given x.node x.side r (ap answer (sym (seen_block_port f p x b)) ∙ e))

  pub start_at_port_refused : (p : ℕ) (r : Refusal) → (start_at_port m p ≡ refused r) ↔ PortRefused m M p r
  unfolding start_at_port
  start_at_port_refused p r = by_port refused (λ r s e. cc) p (start_seen p) refl refl (λ n d r e. zero_is_not_one (cc)) r

  pub start_at_port_starts : (p : ℕ) → (start_at_port m p ≡ started) ↔ ((x : model.InnerPlace) × OfBlock m M p x)
  unfolding start_at_port
  start_at_port_starts p = (go (port_is f p), (λ x. ap (start_seen p) (seen_block_port f p x.0 x.1)))
    where
      go : PortIs m M p → start_at_port m p ≡ started → (x : model.InnerPlace) × OfBlock m M p x
      go (no_port d) e = let z = (start_at_port_refused p _).1 (cut_dead d) in absurd (zero_is_not_one (cc))
      go (hidden_port h) e = let z = (start_at_port_refused p _).1 (cut_hidden h) in absurd (zero_is_not_one (cc))
      go (block_port x b) e = (x, b)

  -- The walks.

  pub node_ports_refused : (n : NodeIndex) (sides : Sides) (r : Refusal) → (start_node_ports m n sides ≡ Err r) ↔ NodeRefused m M n.0 r
  node_ports_refused n sides r =
      by_start Err (λ r s e. cc) (node_ports_from n sides) (λ r. refl) (λ r e. zero_is_not_one (cc)) (start_at_node m n.0) r _ (start_at_node_refused n.0 r)

  pub subports_refused : (n : NodeIndex) (sides : Sides) (r : Refusal) → (start_subports m n sides ≡ Err r) ↔ NodeRefused m M n.0 r
  subports_refused n sides r =
      by_start Err (λ r s e. cc) (subports_from n sides) (λ r. refl) (λ r e. zero_is_not_one (cc)) (start_at_node m n.0) r _ (start_at_node_refused n.0 r)

  pub port_links_refused : (p : PortIndex) (r : Refusal) → (start_port_links m p ≡ Err r) ↔ PortRefused m M p.0 r
  port_links_refused p r =
      by_start Err (λ r s e. cc) (port_links_from p) (λ r. refl) (λ r e. zero_is_not_one (cc)) (start_at_port m p.0) r _ (start_at_port_refused p.0 r)

  pub node_links_refused : (n : NodeIndex) (sides : Sides) (lo hi : ℕ) (r : Refusal) → (start_links m n sides lo hi ≡ Err r) ↔ NodeRefused m M n.0 r
  node_links_refused n sides lo hi r =
      by_start Err (λ r s e. cc) (links_from n sides lo hi) (λ r. refl) (λ r e. zero_is_not_one (cc)) (start_at_node m n.0) r _ (start_at_node_refused n.0 r)

  pub neighbours_refused : (n : NodeIndex) (sides : Sides) (flag : Bool) (r : Refusal) → (start_neighbours m n sides flag ≡ Err r) ↔ NodeRefused m M n.0 r
  neighbours_refused n sides flag r =
      by_start Err (λ r s e. cc) (neighbours_from n sides flag) (λ r. refl) (λ r e. zero_is_not_one (cc)) (start_at_node m n.0) r _ (start_at_node_refused n.0 r)

  pub connections_refused : (n k : NodeIndex) (r : Refusal) → (start_connections m n k ≡ Err r) ↔ BetweenRefused m M n.0 k.0 r
  connections_refused n k r =
      by_start Err (λ r s e. cc) (connections_from n k) (λ r. refl) (λ r e. zero_is_not_one (cc)) (start_between m n.0 k.0) r _ (start_between_refused n.0 k.0 r)

  -- Lookups at a port.

  pub direction_refused : (p : ℕ) (r : Refusal) → (direction_of m p ≡ Err r) ↔ PortRefused m M p r
  unfolding direction_of
  direction_refused p r = by_port Err (λ r s e. cc) p (direction_seen p) refl refl (λ n d r e. zero_is_not_one (cc)) r

  pub direction_found : (p : ℕ) (x : model.InnerPlace) → OfBlock m M p x → direction_of m p ≡ Ok x.side
  unfolding direction_of
  direction_found p x b = ap (direction_seen p) (seen_block_port f p x b)

  pub node_refused : (p : ℕ) (r : Refusal) → (node_of m p ≡ Err r) ↔ PortRefused m M p r
  unfolding node_of
  node_refused p r = by_port Err (λ r s e. cc) p (node_seen p) refl refl (λ n d r e. zero_is_not_one (cc)) r

  pub node_found : (p : ℕ) (x : model.InnerPlace) → OfBlock m M p x → node_of m p ≡ Ok (node# x.node)
  unfolding node_of
  node_found p x b = ap (node_seen p) (seen_block_port f p x b)

  pub offset_refused : (p : ℕ) (r : Refusal) → (offset_of m p ≡ Err r) ↔ PortRefused m M p r
  unfolding offset_of
  offset_refused p r = by_port Err (λ r s e. cc) p (offset_seen m p) refl refl (λ n d r e. zero_is_not_one (cc)) r

  pub offset_found : (p : ℕ) (x : model.InnerPlace) → OfBlock m M p x → offset_of m p ≡ Ok (offset_of_place x)
  unfolding offset_of
  offset_found p x b =
      ap (offset_seen m p) (seen_block_port f p x b)
      ∙ ap (λ (i : ℕ). Ok (record { direction = x.side; index = i })) (ap (position_of m.graph) (sym b.1) ∙ ends.position_of_lem f x b.0.0)

  pub port_fan_out_refused : (p : ℕ) (r : Refusal) → (port_fan_out m p ≡ Err r) ↔ PortRefused m M p r
  unfolding port_fan_out
  port_fan_out_refused p r = by_port Err (λ r s e. cc) p (fan_out_seen m p) refl refl (λ n d r e. zero_is_not_one (cc)) r

  pub contains_port_is : (p : ℕ) → (contains_port_of m p ≡ true) ↔ ((x : model.InnerPlace) × OfBlock m M p x)
  unfolding contains_port_of
  contains_port_is p = (go (seen m p) refl, (λ x. ap is_seen (seen_block_port f p x.0 x.1)))
    where
      go : (v : Port) → seen m p ≡ v → is_seen (seen m p) ≡ true → (x : model.InnerPlace) × OfBlock m M p x
      go dead e t = let z = ap is_seen e in absurd (zero_is_not_one (cc))
      go hidden e t = let z = ap is_seen e in absurd (zero_is_not_one (cc))
      go (visible n d) e t = let b = ends.block_seen f p n d e in (b.place, (b.is_seen, b.slot))

  -- Lookups at a node.

  count_refused : (n k : ℕ) (r : Refusal) → (counted (start_at_node m n) k ≡ Err r) ↔ NodeRefused m M n r
  count_refused n k r =
      by_start Err (λ r s e. cc) (λ v. counted v k) (λ r. refl) (λ r e. zero_is_not_one (cc)) (start_at_node m n) r _ (start_at_node_refused n r)

  count_found : (n c : ℕ) (k : NodeMeta) → BlockIs m M n k → counted (start_at_node m n) c ≡ Ok c
  count_found n c k b = ap (λ (v : Start). counted v c) (start_block n k b)

  pub num_ports_refused : (n : ℕ) (d : Direction) (r : Refusal) → (num_ports_of m n d ≡ Err r) ↔ NodeRefused m M n r
  unfolding num_ports_of
  num_ports_refused n d r = count_refused n (num_ports m.graph n d) r

  pub num_ports_found : (n : ℕ) (d : Direction) (k : NodeMeta) → BlockIs m M n k → num_ports_of m n d ≡ Ok (ports_on k d)
  unfolding num_ports_of
  num_ports_found n d k b =
      count_found n (num_ports m.graph n d) k b ∙ ap (λ (v : Option NodeMeta). Ok (count_in v d)) (meta_of_node f.good f.holds n k b.1)

  pub capacity_refused : (n : ℕ) (r : Refusal) → (capacity_of m n ≡ Err r) ↔ NodeRefused m M n r
  unfolding capacity_of
  capacity_refused n r = count_refused n (node_port_capacity m.graph n) r

  pub capacity_found : (n : ℕ) (k : NodeMeta) → BlockIs m M n k → capacity_of m n ≡ Ok k.capacity
  unfolding capacity_of
  capacity_found n k b =
      count_found n (node_port_capacity m.graph n) k b ∙ ap (λ (v : Option NodeMeta). Ok (capacity_in v)) (meta_of_node f.good f.holds n k b.1)

  pub node_fan_out_refused : (n : ℕ) (r : Refusal) → (node_fan_out m n ≡ Err r) ↔ NodeRefused m M n r
  unfolding node_fan_out
  node_fan_out_refused n r = count_refused n (block_fan_out m n) r

  pub port_index_refused : (n : ℕ) (o : PortOffset) (r : Refusal) → (port_index_of m n o ≡ Err r) ↔ NodeRefused m M n r
  unfolding port_index_of
  port_index_refused n o r =
      by_start Err (λ r s e. cc) (λ v. port_found v (port_index m.graph n o)) (λ r. refl) (never (port_index m.graph n o)) (start_at_node m n) r _ (start_at_node_refused n r)
    where
      never : (v : Option PortIndex) (r : Refusal) → port_found started v ≡ Err r → ⊥
      never (Some p) r e = zero_is_not_one (cc)
      never None r e = zero_is_not_one (cc)

  -- the port at a place; nothing where the block's side has no such position
  pub port_index_found : (x : model.InnerPlace) → Seen m M x → port_index_of m x.node (offset_of_place x) ≡ Ok (Some (port# (slot_of M.node x)))
  unfolding port_index_of
  port_index_found x s =
      let b = seen_live f x s in
      ap (λ (v : Start). port_found v (port_index m.graph x.node (offset_of_place x))) (start_block x.node b.0 b.1)
      ∙ ap (port_found started) (port_index_is f.good f.holds x s.0)

  pub port_index_nothing : (n : ℕ) (o : PortOffset) (k : NodeMeta) → BlockIs m M n k → ports_on k o.direction ≤ o.index → port_index_of m n o ≡ Ok None
  unfolding port_index_of
  port_index_nothing n o k b l =
      let e : port_index m.graph n o ≡ None =
      ap (λ (v : Option NodeMeta). port_in v o) (meta_of_node f.good f.holds n k b.1) ∙ rw (le-ltb o.index (ports_on k o.direction) l) in
      ap (λ (v : Start). port_found v (port_index m.graph n o)) (start_block n k b) ∙ ap (port_found started) e

-- Fan-out: as many as the links listed.

sum_listed : (m : MultiPortGraph) (l : List ℕ) → sum_of (fan_out m) l ≡ length (flat_map (port_links m) l)
unfolding sum_of flat_map fan_out
sum_listed m [] = refl
sum_listed m (p ∷ l) =
    let b = sum_listed m l in
    let c = length-append (port_links m p) (flat_map (port_links m) l) in
    omega arith

module _ {m : MultiPortGraph} {M : Model} (f : Fine m M) where
  -- a block's is the number of links that its outgoing side lists
  block_fan_out_listed : (n : ℕ) (k : NodeMeta) → BlockIs m M n k → block_fan_out m n ≡ length (side_links m Outgoing n)
  unfolding block_fan_out
  block_fan_out_listed n k b =
      let e = meta_of_node f.good f.holds n k b.1 in
      sum_listed m (ports_of_side m Outgoing n)
      ∙ ap length
      (ap (flat_map (port_links m)) (side_in_row m n k e Outgoing) ∙ sym (side_links_in_row (record { model = M; fine = f }) n k b.0 e Outgoing))

  -- the calls answer so
  pub port_fan_out_found : (p : ℕ) (x : model.InnerPlace) → OfBlock m M p x → port_fan_out m p ≡ Ok (length (port_links m p))
  unfolding port_fan_out fan_out
  port_fan_out_found p x b = ap (fan_out_seen m p) (seen_block_port f p x b)

  pub node_fan_out_found : (n : ℕ) (k : NodeMeta) → BlockIs m M n k → node_fan_out m n ≡ Ok (length (side_links m Outgoing n))
  unfolding node_fan_out
  node_fan_out_found n k b = count_found f n (block_fan_out m n) k b ∙ ap Ok (block_fan_out_listed n k b)

-- Empty: no blocks.

module _ {m : MultiPortGraph} {M : Model} (f : Fine m M) where
  -- where there are no blocks there are no hidden nodes either
  all_gone : blocks m ≡ [] → (n : ℕ) → M.node n ≡ gone
  all_gone e n = go (node_is f n)
    where
      no_block : (n : ℕ) (k : NodeMeta) → BlockIs m M n k → ⊥
      no_block n k b = subst (Member n) e ((blocks_list f).all n k b)

      go : NodeIs m M n → M.node n ≡ gone
      go (no_node h) = h
      go (hidden_node h) = let k = f.copy n h in let b = seen_live f k.main (ends.main_seen f n k.main h k.joined) in absurd (no_block k.main.node b.0 b.1)
      go (block_node k b) = absurd (no_block n k b)

  pub empty_is : (empty_of m ≡ true) ↔ (blocks m ≡ [])
  unfolding empty_of visible_nodes
  empty_is = (there (eqb m.graph.node_count 0) refl, back)
    where
      there : (b : Bool) → eqb m.graph.node_count 0 ≡ b → cond b (eqb m.graph.port_count 0) false ≡ true → blocks m ≡ []
      there true e t =
          let z : m.graph.node_count ≡ 0 = eqb-true _ _ e in
          let v = visible_nodes_lem f in
          nil_from_length (blocks m) (omega arith)
      there false e t = absurd (zero_is_not_one (cc))

      back : blocks m ≡ [] → cond (eqb m.graph.node_count 0) (eqb m.graph.port_count 0) false ≡ true
      back e =
          let n : m.graph.node_count ≡ 0 = f.holds.node_count ∙ total_none node_slots (λ n. is_live (M.node n)) (λ n. ap is_live (all_gone e n)) in
          let p : m.graph.port_count ≡ 0 = f.holds.port_count ∙ total_none node_slots (λ n. ports_of (M.node n)) (λ n. ap ports_of (all_gone e n)) in
          rw (eq-eqb _ _ n, eq-eqb _ _ p)
