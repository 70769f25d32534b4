-- The ports of blocks, listed by ascending number or block after block: the same ports, each once. So the number of visible
-- ports is the length of every such listing.
use Rattle.std.specs.Prelude.{◌≡◌, Bool, length}
use Rattle.std.proofs.Math.Path.{refl, sym, ap, subst}
use Rattle.std.proofs.Common.{◌∙◌, ⊎_elim, arith}
use Rattle.std.proofs.Math.Bool.{true}
use mathlib.Core.List.{List, ◌++◌, flat_map}
use Prim.Native.Nat.{ℕ, ◌+◌, ◌<◌}
use Rattle.port_tables.specs.Limits.{node_slots, port_slots}
use Rattle.port_tables.specs.Lists.{range, Member, Rising}
use Rattle.std.specs.List.{filter}
use Rattle.portgraph.specs.Lookups.{num_ports}
use Rattle.portgraph.specs.Model as model
use Rattle.portgraph.specs.Model.{Model, Slots, gone, live, Valid, slot_of, count_of}
use Rattle.portgraph.specs.GoodSlots.{zero_is_not_one, slot_in_range, slots_apart, node_below}
use Rattle.portgraph.specs.PlaceLaws.{node_of_meta}
use Rattle.port_tables.specs.declared.direction.Direction.{Direction}
use Rattle.port_tables.specs.declared.direction.Direction.TheVariants.{Incoming, Outgoing}
use Rattle.port_tables.specs.declared.node_entry.NodeMeta.{NodeMeta}
use Rattle.multiportgraph.specs.Reading.{port_of, is_hidden, seen}
use Rattle.multi_tables.specs.Forms.{Port, dead, hidden, visible}
use Rattle.multiportgraph.specs.Calls.{visible_ports}
use Rattle.multiportgraph.specs.Wires.{is_block, blocks, ports_of_side}
use Rattle.multiportgraph.specs.Walks.{is_seen, all_ports, ports_by_block}
use Rattle.multiportgraph.specs.WellFormed.{inner#, Fine, BlockIs, Seen}
use Rattle.multiportgraph.specs.Ends as ends
use Rattle.port_tables.specs.Listing.{Apart, member_left, member_right, member_append, member_filter, filter_member, member_flat_map, flat_map_member, member_map, map_member, member_range, range_member, rising_append, rising_filter, rising_flat_map, rising_map, range_rises, numbers_apart}
use Rattle.theorems.proofs.WireRule.{seen_live}
use Rattle.multiportgraph.specs.CountLaws.{visible_ports_lem}
use Rattle.multiportgraph.specs.declared.multiportgraph.MultiPortGraph.{MultiPortGraph}
use Rattle.theorems.specs.PortCases.{live_contained}
use Rattle.multiportgraph.specs.ScanLaws.{block_not_hidden, block_has_meta}
pub use Rattle.theorems.specs.BookLaws.{same_length}

-- the number of a port of a block
abbrev pub PortOfBlock : MultiPortGraph → Model → ℕ → Type 0
PortOfBlock m M p = (x : model.InnerPlace) × Seen m M x × (slot_of M.node x ≡ p)

-- a list has the ports of blocks, each once, and nothing else
pub record ListsPorts (m : MultiPortGraph) (M : Model) (l : List ℕ) : Type 0 where
  pub once : Rising Apart l
  pub only : (p : ℕ) → Member p l → PortOfBlock m M p
  pub all : (p : ℕ) → PortOfBlock m M p → Member p l

pub lists_as_long : {m : MultiPortGraph} {M : Model} {a b : List ℕ} → ListsPorts m M a → ListsPorts m M b → length a ≡ length b
lists_as_long {a = a} {b = b} r s = same_length a b r.once s.once (λ p i. s.all p (r.only p i)) (λ p i. r.all p (s.only p i))

-- a list has the blocks, each once, and nothing else
pub record ListsBlocks (m : MultiPortGraph) (M : Model) (l : List ℕ) : Type 0 where
  pub once : Rising Apart l
  pub only : (n : ℕ) → Member n l → (k : NodeMeta) × BlockIs m M n k
  pub all : (n : ℕ) (k : NodeMeta) → BlockIs m M n k → Member n l

pub blocks_as_many : {m : MultiPortGraph} {M : Model} {a b : List ℕ} → ListsBlocks m M a → ListsBlocks m M b → length a ≡ length b
blocks_as_many {a = a} {b = b} r s =
    same_length a b r.once s.once (λ n i. let k = r.only n i in s.all n k.0 k.1) (λ n i. let k = s.only n i in r.all n k.0 k.1)

-- the ports of a node, incoming first
abbrev pub both_sides : MultiPortGraph → ℕ → List ℕ
both_sides m n = ports_of_side m Incoming n ++ ports_of_side m Outgoing n

-- a port number that walks show
abbrev shown : MultiPortGraph → ℕ → Bool
shown m p = is_seen (seen m p)

module _ {m : MultiPortGraph} {M : Model} (f : Fine m M) where
  -- By ascending number.

  pub ascending_lists : ListsPorts m M (all_ports m)
  unfolding all_ports
  ascending_lists =
      record {
        once = numbers_apart (filter (shown m) (range 0 port_slots)) (rising_filter ◌<◌ (shown m) (range 0 port_slots) (range_rises 0 port_slots));
        only = λ p i. go p (seen m p) refl (member_filter (shown m) p (range 0 port_slots) i).1;
        all = λ p x.
            filter_member (shown m) p (range 0 port_slots) (range_member p 0 port_slots (omega arith) (in_table p x))
            (ap (shown m) (sym x.2) ∙ ap is_seen (ends.seen_block f x.0 x.1));
      }
    where
      go : (p : ℕ) (v : Port) → seen m p ≡ v → is_seen v ≡ true → PortOfBlock m M p
      go p dead e t = absurd (zero_is_not_one (cc))
      go p hidden e t = absurd (zero_is_not_one (cc))
      go p (visible n d) e t = let b = ends.block_seen f p n d e in (b.place, b.is_seen, b.slot)

      in_table : (p : ℕ) → PortOfBlock m M p → p < 0 + port_slots
      in_table p x = let h = slot_in_range f.good x.0 x.1.0 in let e = x.2 in omega arith

  -- Blocks.

  pub is_block_lem : (n : ℕ) (k : NodeMeta) → BlockIs m M n k → is_block m n ≡ true
  unfolding is_block
  is_block_lem n k b = rw b.0 (live_contained f n k b.1)

  pub block_at : (n : ℕ) → is_block m n ≡ true → (k : NodeMeta) × BlockIs m M n k
  block_at n b = let k = block_has_meta m n b in (k.0, (block_not_hidden m n b, node_of_meta f.good f.holds n k.0 k.1))

  pub blocks_list : ListsBlocks m M (blocks m)
  unfolding blocks
  blocks_list =
      record {
        once = numbers_apart (filter (is_block m) (range 0 node_slots)) (rising_filter ◌<◌ (is_block m) (range 0 node_slots) (range_rises 0 node_slots));
        only = λ n i. block_at n (member_filter (is_block m) n (range 0 node_slots) i).1;
        all = λ n k b.
            let u = node_below f.good n k b.1 in
            filter_member (is_block m) n (range 0 node_slots) (range_member n 0 node_slots (omega arith) (omega arith)) (is_block_lem n k b);
      }

  -- Block after block.

  side_place : (n : ℕ) (d : Direction) (i : ℕ) → i < num_ports m.graph n d → Valid M.node (inner# n d i) × (port_of m.graph n d i ≡ slot_of M.node (inner# n d i))
  side_place n d i l =
      let v : i < count_of (M.node n) d = subst (λ (c : ℕ). i < c) (ends.count_of_lem f n d) l in
      (v, ends.port_of_lem f n d i v)

  -- a port listed at a node's side
  pub side_listed : (n : ℕ) (d : Direction) (p : ℕ) → Member p (ports_of_side m d n) → (i : ℕ) × Valid M.node (inner# n d i) × (slot_of M.node (inner# n d i) ≡ p)
  unfolding ports_of_side
  side_listed n d p h =
      let e = member_map (port_of m.graph n d) p (range 0 (num_ports m.graph n d)) h in
      let r = member_range e.0 0 (num_ports m.graph n d) e.1 in
      let s = side_place n d e.0 (omega arith) in
      (e.0, s.0, sym s.1 ∙ sym e.2)

  side_once : (n : ℕ) (d : Direction) → Rising Apart (ports_of_side m d n)
  unfolding ports_of_side
  side_once n d =
      rising_map ◌<◌ Apart (port_of m.graph n d) (range 0 (num_ports m.graph n d)) (range_rises 0 (num_ports m.graph n d))
      (λ a c i j l e.
      let u = member_range a 0 (num_ports m.graph n d) i in
      let v = member_range c 0 (num_ports m.graph n d) j in
      let x = side_place n d a (omega arith) in
      let y = side_place n d c (omega arith) in
      let q : a ≡ c = ap (λ (z : model.InnerPlace). z.pos) (slots_apart f.good (inner# n d a) (inner# n d c) x.0 y.0 (sym x.1 ∙ (e ∙ y.1))) in
      omega arith)

  both_listed : (n p : ℕ) → Member p (both_sides m n) → (x : model.InnerPlace) × Valid M.node x × (slot_of M.node x ≡ p) × (x.node ≡ n)
  both_listed n p h =
      ⊎_elim (λ i. let s = side_listed n Incoming p i in (inner# n Incoming s.0, s.1, s.2, refl))
      (λ i. let s = side_listed n Outgoing p i in (inner# n Outgoing s.0, s.1, s.2, refl))
      (member_append p (ports_of_side m Incoming n) (ports_of_side m Outgoing n) h)

  both_once : (n : ℕ) → Rising Apart (both_sides m n)
  both_once n =
      rising_append Apart (ports_of_side m Incoming n) (ports_of_side m Outgoing n) (side_once n Incoming) (side_once n Outgoing)
      (λ p q i j e.
      let s = side_listed n Incoming p i in
      let t = side_listed n Outgoing q j in
      let z = ap (λ (y : model.InnerPlace). y.side) (slots_apart f.good (inner# n Incoming s.0) (inner# n Outgoing t.0) s.1 t.1 (s.2 ∙ (e ∙ sym t.2))) in
      zero_is_not_one (cc))

  -- the port of a place is listed at its side, and so at its node
  pub side_has : (x : model.InnerPlace) → Valid M.node x → Member (slot_of M.node x) (ports_of_side m x.side x.node)
  unfolding ports_of_side
  side_has x v =
      let l : x.pos < num_ports m.graph x.node x.side = subst (λ (c : ℕ). x.pos < c) (sym (ends.count_of_lem f x.node x.side)) v in
      subst (λ (p : ℕ). Member p (ports_of_side m x.side x.node)) (side_place x.node x.side x.pos l).1
      (map_member (port_of m.graph x.node x.side) x.pos (range 0 (num_ports m.graph x.node x.side)) (range_member x.pos 0 _ (omega arith) (omega arith)))

  both_has : (x : model.InnerPlace) → Valid M.node x → Member (slot_of M.node x) (both_sides m x.node)
  both_has x v = go x.side (side_has x v)
    where
      go : (d : Direction) → Member (slot_of M.node x) (ports_of_side m d x.node) → Member (slot_of M.node x) (both_sides m x.node)
      go Incoming h = member_left _ (ports_of_side m Incoming x.node) (ports_of_side m Outgoing x.node) h
      go Outgoing h = member_right _ (ports_of_side m Incoming x.node) (ports_of_side m Outgoing x.node) h

  -- the ports of listed blocks, block after block, are listed ports
  pub by_blocks_lists : {l : List ℕ} → ListsBlocks m M l → ListsPorts m M (flat_map (both_sides m) l)
  by_blocks_lists {l} b =
      record {
        once =
            rising_flat_map Apart Apart (both_sides m) l b.once (λ n i. both_once n)
            (λ n c p q i j other h k e.
            let x = both_listed n p h in
            let y = both_listed c q k in
            other (sym x.3 ∙ (ap (λ (z : model.InnerPlace). z.node) (slots_apart f.good x.0 y.0 x.1 y.1 (x.2 ∙ (e ∙ sym y.2))) ∙ y.3)));
        only = λ p i.
            let g = member_flat_map (both_sides m) p l i in
            let x = both_listed g.0 p g.2 in
            let k = b.only g.0 g.1 in
            (x.0, (x.1, ap (is_hidden m) x.3 ∙ k.1.0), x.2);
        all = λ p x.
            let k = seen_live f x.0 x.1 in
            flat_map_member (both_sides m) p x.0.node l (b.all x.0.node k.0 k.1)
            (subst (λ (q : ℕ). Member q (both_sides m x.0.node)) x.2 (both_has x.0 x.1.0));
      }

  -- the number of visible ports is the length of the ascending listing
  pub visible_ports_ascending : visible_ports m ≡ length (all_ports m)
  unfolding ports_by_block
  visible_ports_ascending = visible_ports_lem f ∙ lists_as_long (by_blocks_lists blocks_list) ascending_lists
