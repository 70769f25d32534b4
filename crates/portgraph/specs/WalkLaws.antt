-- Laws of the walks: a walk from its start gives the whole listing, in order, each item once, and comes to its end.
-- From any position that is still there it gives the rest of the listing; where that is gone it ends.
use Rattle.std.specs.Prelude.{◌≡◌, refl, Bool, true, false, cond, List, [], ◌∷◌, ◌⊎◌, ℕ, zero, suc, ◌+◌, ◌-◌, ◌≤◌, ◌<◌, max, ltb, get_or, Option, Some, None}
use Rattle.std.proofs.Common.{sym, ap, ◌∙◌, inl, inr, arith, lt-ltb, le-ltb, ne_eqb, ltb-true, ltb-false}
use Rattle.port_tables.specs.Limits.{node_slots, port_slots, node_ports}
use Rattle.port_tables.specs.Lists.{range, Member, Once}
use Rattle.std.specs.List.{filter}
use Rattle.port_tables.specs.Entries.{fresh_slot, is_node, port_entry, owner_number, node#, port#, meta_of_entry, ports_from, ports_to}
use Rattle.portgraph.specs.Model.{Model, Good, Holds, live, held as held_by, owner_in_block, owner_of_slots, owner_of_who}
use Rattle.portgraph.specs.Lookups.{entry_at, meta_at, is_some, contains_node, port_at, is_port, contains_port, start_of, offset_in, offset_of, port_offset}
use Rattle.port_tables.specs.ResizeLinks.{BlockFits}
use Rattle.portgraph.specs.Joins.{either_way}
use Rattle.portgraph.specs.PlaceLaws.{entry_of_owner, meta_of_node}
use Rattle.portgraph.specs.Walks.{node_from, node_held, step_nodes, port_held, ports_item, ports_beyond, step_ports, offset_found, offset_of_step, step_offsets, ports_of_node, Walked, whole, unfinished, more}
use Rattle.port_tables.specs.declared.direction.Direction.{Direction}
use Rattle.port_tables.specs.declared.direction.Direction.TheVariants.{Incoming, Outgoing}
use Rattle.port_tables.specs.declared.index.PortOffset.{PortOffset}
use Rattle.port_tables.specs.declared.port_entry.PortEntry.TheVariants.{Port}
use Rattle.port_tables.specs.declared.node_entry.NodeMeta.{NodeMeta}
use Rattle.port_tables.specs.declared.node_entry.NodeSlot.{NodeSlot}
use Rattle.port_tables.specs.declared.node_entry.NodeEntry.{NodeEntry}
use Rattle.port_tables.specs.declared.node_entry.NodeEntry.TheVariants.{Free, Node}
use Rattle.portgraph.specs.declared.portgraph.PortGraph.{PortGraph}
use Rattle.port_tables.specs.declared.sides.Sides.{Sides}
use Rattle.port_tables.specs.declared.sides.Sides.TheVariants.{One, Both}
use Rattle.portgraph.specs.declared.iter.NodePorts.{NodePorts}
use Rattle.portgraph.specs.declared.iter.NodePortOffsets.{NodePortOffsets}
use Rattle.port_tables.specs.declared.index.NodeIndex.{NodeIndex}
use Rattle.port_tables.specs.declared.index.PortIndex.{PortIndex}
use Rattle.portgraph.specs.declared.iter.Nodes.{Nodes}
use Rattle.port_tables.specs.Listing.{member_filter, filter_member, range_member, range_rises, rising_filter, rising_once, range_none, range_first}

-- Nodes.

-- the live nodes from n on, among k slots
unfoldable pub nodes_from : List NodeSlot → ℕ → ℕ → List ℕ
nodes_from nodes n zero = []
nodes_from nodes n (suc k) = cond (is_node (get_or nodes n fresh_slot).entry) (n ∷ nodes_from nodes (suc n) k) (nodes_from nodes (suc n) k)

-- the live nodes of a graph
abbrev pub nodes_of : PortGraph → List ℕ
nodes_of g = nodes_from g.node_meta 0 node_slots

abbrev pub after_node : (ℕ → Walked ℕ) → Option (NodeIndex × Nodes) → Walked ℕ
after_node walk (Some (n, c)) = more n.0 (walk c.held)
after_node walk None = whole []

-- at most as many steps as fuel
unfoldable pub walk_nodes : PortGraph → ℕ → ℕ → Walked ℕ
walk_nodes g zero held = unfinished
walk_nodes g (suc fuel) held = after_node (walk_nodes g fuel) (step_nodes g held)

-- the first node from n on heads the listing
record Next (nodes : List NodeSlot) (n k m : ℕ) : Type 0 where
  pub found : node_from nodes n k ≡ Some (node# m, record { held = suc m })
  pub listed : nodes_from nodes n k ≡ m ∷ nodes_from nodes (suc m) (n + k - suc m)
  pub after : n ≤ m
  pub before : m < n + k
  pub there : is_node (get_or nodes m fresh_slot).entry ≡ true

record NoneLeft (nodes : List NodeSlot) (n k : ℕ) : Type 0 where
  pub found : node_from nodes n k ≡ None
  pub listed : nodes_from nodes n k ≡ []

-- one slot of the table: a node there is the next one, and a free slot is passed over
pub node_here : (nodes : List NodeSlot) (n k : ℕ) → is_node (get_or nodes n fresh_slot).entry ≡ true → node_from nodes n (suc k) ≡ Some (node# n, record { held = suc n })
unfolding node_from
node_here nodes n k e = rw e

pub node_not_here : (nodes : List NodeSlot) (n k : ℕ) → is_node (get_or nodes n fresh_slot).entry ≡ false → node_from nodes n (suc k) ≡ node_from nodes (suc n) k
unfolding node_from
node_not_here nodes n k e = rw e

pub no_node_left : (nodes : List NodeSlot) (n : ℕ) → node_from nodes n 0 ≡ None
unfolding node_from
no_node_left nodes n = refl

listed_here : (nodes : List NodeSlot) (n k : ℕ) → is_node (get_or nodes n fresh_slot).entry ≡ true → nodes_from nodes n (suc k) ≡ n ∷ nodes_from nodes (suc n) k
unfolding nodes_from
listed_here nodes n k e = rw e

not_listed_here : (nodes : List NodeSlot) (n k : ℕ) → is_node (get_or nodes n fresh_slot).entry ≡ false → nodes_from nodes n (suc k) ≡ nodes_from nodes (suc n) k
unfolding nodes_from
not_listed_here nodes n k e = rw e

none_listed : (nodes : List NodeSlot) (n : ℕ) → nodes_from nodes n 0 ≡ []
unfolding nodes_from
none_listed nodes n = refl

same_rest : (nodes : List NodeSlot) (n m i j : ℕ) → i ≡ j → m ∷ nodes_from nodes n i ≡ m ∷ nodes_from nodes n j
same_rest nodes n m i j e = ap (λ r. m ∷ nodes_from nodes n r) e

next_or_none : (nodes : List NodeSlot) (n k : ℕ) → ((m : ℕ) × Next nodes n k m) ⊎ NoneLeft nodes n k
next_or_none nodes n zero = inr (record { found = no_node_left nodes n; listed = none_listed nodes n })
next_or_none nodes n (suc k) = go (is_node (get_or nodes n fresh_slot).entry) refl (next_or_none nodes (suc n) k)
  where
    later : is_node (get_or nodes n fresh_slot).entry ≡ false → ((m : ℕ) × Next nodes (suc n) k m) ⊎ NoneLeft nodes (suc n) k → ((m : ℕ) × Next nodes n (suc k) m) ⊎ NoneLeft nodes n (suc k)
    later e (inl x) =
        let m = x.0 in
        let a : suc n ≤ m = x.1.after in
        let b : m < suc n + k = x.1.before in
        inl (
          m,
          record {
            found = node_not_here nodes n k e ∙ x.1.found;
            listed = not_listed_here nodes n k e ∙ (x.1.listed ∙ same_rest nodes (suc m) m (suc n + k - suc m) (n + suc k - suc m) (omega arith));
            after = omega arith;
            before = omega arith;
            there = x.1.there;
          },
        )
    later e (inr x) = inr (record { found = node_not_here nodes n k e ∙ x.found; listed = not_listed_here nodes n k e ∙ x.listed })

    go : (b : Bool) → is_node (get_or nodes n fresh_slot).entry ≡ b → ((m : ℕ) × Next nodes (suc n) k m) ⊎ NoneLeft nodes (suc n) k → ((m : ℕ) × Next nodes n (suc k) m) ⊎ NoneLeft nodes n (suc k)
    go true e x =
        inl (
          n,
          record {
            found = node_here nodes n k e;
            listed = listed_here nodes n k e ∙ same_rest nodes (suc n) n k (n + suc k - suc n) (omega arith);
            after = omega arith;
            before = omega arith;
            there = e;
          },
        )
    go false e x = later e x

-- a slot has a node where the table says so
pub some_is_node : (e : NodeEntry) → is_some (meta_of_entry e) ≡ is_node e
some_is_node (Free f) = refl
some_is_node (Node m) = refl

pub one_less : (n : ℕ) → suc n - 1 ≡ n
one_less n = omega arith

-- the cursor after a node or a port holds that one
held_is_node : (g : PortGraph) (n : ℕ) → node_held g (suc n) ≡ contains_node g n
held_is_node g n = rw (ne_eqb (suc n) 0 (λ z. omega arith), one_less n)

held_is_port : (g : PortGraph) (p : ℕ) → port_held g (suc p) ≡ contains_port g p
held_is_port g p = rw (ne_eqb (suc p) 0 (λ z. omega arith), one_less p)

step_where_held : (g : PortGraph) (held : ℕ) → node_held g held ≡ true → step_nodes g held ≡ node_from g.node_meta held (node_slots - held)
unfolding step_nodes
step_where_held g held h = rw h

pub step_where_gone : (g : PortGraph) (held : ℕ) → node_held g held ≡ false → step_nodes g held ≡ None
unfolding step_nodes
step_where_gone g held h = rw h

walk_on : (g : PortGraph) (fuel held : ℕ) → walk_nodes g (suc fuel) held ≡ after_node (walk_nodes g fuel) (step_nodes g held)
unfolding walk_nodes
walk_on g fuel held = refl

-- from any position that is still there a walk gives the rest of the listing, and ends
pub walk_gives_rest : (g : PortGraph) (fuel held : ℕ) → node_slots - held < fuel → node_held g held ≡ true → walk_nodes g fuel held ≡ whole (nodes_from g.node_meta held (node_slots - held))
walk_gives_rest g zero held l h = absurd (omega arith)
walk_gives_rest g (suc fuel) held l h = go (walk_gives_rest g fuel) (next_or_none g.node_meta held (node_slots - held))
  where
    to_step : (s : Option (NodeIndex × Nodes)) → node_from g.node_meta held (node_slots - held) ≡ s → walk_nodes g (suc fuel) held ≡ after_node (walk_nodes g fuel) s
    to_step s e = walk_on g fuel held ∙ ap (after_node (walk_nodes g fuel)) (step_where_held g held h ∙ e)

    go : ((after : ℕ) → node_slots - after < fuel → node_held g after ≡ true → walk_nodes g fuel after ≡ whole (nodes_from g.node_meta after (node_slots - after)))
        → ((m : ℕ) × Next g.node_meta held (node_slots - held) m) ⊎ NoneLeft g.node_meta held (node_slots - held) → walk_nodes g (suc fuel) held ≡ whole (nodes_from g.node_meta held (node_slots - held))
    go rest (inl x) =
        let m = x.0 in
        let a : held ≤ m = x.1.after in
        let b : m < held + (node_slots - held) = x.1.before in
        let ih : walk_nodes g fuel (suc m) ≡ whole (nodes_from g.node_meta (suc m) (node_slots - suc m)) =
        rest (suc m) (omega arith) (held_is_node g m ∙ (some_is_node (entry_at g m) ∙ x.1.there)) in
        to_step (Some (node# m, record { held = suc m })) x.1.found ∙
        (ap (more m) ih ∙
        ap whole (same_rest g.node_meta (suc m) m (node_slots - suc m) (held + (node_slots - held) - suc m) (omega arith) ∙ sym x.1.listed))
    go rest (inr x) = to_step None x.found ∙ ap whole (sym x.listed)

-- from the start: all nodes of the graph, and then the end
pub walk_gives_all_nodes : (g : PortGraph) → walk_nodes g (node_slots + 1) 0 ≡ whole (nodes_of g)
walk_gives_all_nodes g = walk_gives_rest g (node_slots + 1) 0 (omega arith) refl

-- the listing is the node slots that have a node, so that it ascends and has exactly the live ones
abbrev has_node : List NodeSlot → ℕ → Bool
has_node nodes n = is_node (get_or nodes n fresh_slot).entry

nodes_filtered : (nodes : List NodeSlot) (n k : ℕ) → nodes_from nodes n k ≡ filter (has_node nodes) (range n k)
unfolding nodes_from range
nodes_filtered nodes n zero = refl
nodes_filtered nodes n (suc k) = rw (nodes_filtered nodes (suc n) k) refl

pub no_node_twice : (g : PortGraph) → Once (nodes_of g)
no_node_twice g =
    rw (nodes_filtered g.node_meta 0 node_slots)
    (rising_once ◌<◌ (λ x l. omega arith) (filter (has_node g.node_meta) (range 0 node_slots)) (rising_filter ◌<◌ (has_node g.node_meta) (range 0 node_slots) (range_rises 0 node_slots)))

pub listed_is_live : (g : PortGraph) (n : ℕ) → Member n (nodes_of g) → contains_node g n ≡ true
listed_is_live g n i = some_is_node (entry_at g n) ∙ (member_filter (has_node g.node_meta) n (range 0 node_slots) (rw (nodes_filtered g.node_meta 0 node_slots) at i)).1

pub live_is_listed : (g : PortGraph) (n : ℕ) → n < node_slots → contains_node g n ≡ true → Member n (nodes_of g)
live_is_listed g n l h =
    rw (nodes_filtered g.node_meta 0 node_slots)
    (filter_member (has_node g.node_meta) n (range 0 node_slots) (range_member n 0 node_slots (omega arith) (omega arith)) (sym (some_is_node (entry_at g n)) ∙ h))

-- Ports of a node.

abbrev pub ports_cursor : ℕ → Sides → ℕ → NodePorts
ports_cursor n sides held = record { node = node# n; sides = sides; held = held }

abbrev pub after_port : (NodePorts → Walked ℕ) → Option (PortIndex × NodePorts) → Walked ℕ
after_port walk (Some (p, c)) = more p.0 (walk c)
after_port walk None = whole []

unfoldable pub walk_ports : PortGraph → ℕ → NodePorts → Walked ℕ
walk_ports g zero c = unfinished
walk_ports g (suc fuel) c = after_port (walk_ports g fuel) (step_ports g c)

walk_ports_on : (g : PortGraph) (fuel : ℕ) (c : NodePorts) → walk_ports g (suc fuel) c ≡ after_port (walk_ports g fuel) (step_ports g c)
unfolding walk_ports
walk_ports_on g fuel c = refl

-- a step of a walk over a live node's ports, from a position that is still there
pub step_of_node : (g : PortGraph) (c : NodePorts) (m : NodeMeta) → meta_at g c.node.0 ≡ Some m → port_held g c.held ≡ true → step_ports g c ≡ ports_item c.node.0 c.sides (max (ports_from m c.sides) c.held) (ports_to m c.sides)
unfolding step_ports
step_of_node g c m e h = rw h (ap (ports_beyond c.node.0 c.sides c.held) e)

pub step_where_port_gone : (g : PortGraph) (c : NodePorts) → port_held g c.held ≡ false → step_ports g c ≡ None
unfolding step_ports
step_where_port_gone g c h = rw h

pub item_there : (n : ℕ) (sides : Sides) (p end : ℕ) → p < end → ports_item n sides p end ≡ Some (port# p, ports_cursor n sides (suc p))
item_there n sides p end l = rw (lt-ltb p end l)

pub item_beyond : (n : ℕ) (sides : Sides) (p end : ℕ) → end ≤ p → ports_item n sides p end ≡ None
item_beyond n sides p end l = rw (le-ltb p end l)

module _ (g : PortGraph) (n : ℕ) (sides : Sides) (m : NodeMeta) (node : meta_at g n ≡ Some m)
    (alive : (p : ℕ) → ports_from m sides ≤ p → p < ports_to m sides → contains_port g p ≡ true) where
  ports_rest : (fuel held p : ℕ) → p ≡ max (ports_from m sides) held → ports_to m sides - p < fuel → port_held g held ≡ true → walk_ports g fuel (ports_cursor n sides held) ≡ whole (range p (ports_to m sides - p))
  ports_rest zero held p e l h = absurd (omega arith)
  ports_rest (suc fuel) held p e l h = go (ltb p (ports_to m sides)) refl (ports_rest fuel (suc p) (suc p))
    where
      to_step : (s : Option (PortIndex × NodePorts)) → ports_item n sides p (ports_to m sides) ≡ s → walk_ports g (suc fuel) (ports_cursor n sides held) ≡ after_port (walk_ports g fuel) s
      to_step s d =
          walk_ports_on g fuel (ports_cursor n sides held) ∙
          ap (after_port (walk_ports g fuel)) (step_of_node g (ports_cursor n sides held) m node h ∙ (ap (λ q. ports_item n sides q (ports_to m sides)) (sym e) ∙ d))

      go : (b : Bool) → ltb p (ports_to m sides) ≡ b
          → (suc p ≡ max (ports_from m sides) (suc p) → ports_to m sides - suc p < fuel → port_held g (suc p) ≡ true → walk_ports g fuel (ports_cursor n sides (suc p)) ≡ whole (range (suc p) (ports_to m sides - suc p)))
          → walk_ports g (suc fuel) (ports_cursor n sides held) ≡ whole (range p (ports_to m sides - p))
      go true t rest =
          let a : p < ports_to m sides = ltb-true _ _ t in
          let ih : walk_ports g fuel (ports_cursor n sides (suc p)) ≡ whole (range (suc p) (ports_to m sides - suc p)) =
          rest (omega arith) (omega arith) (held_is_port g p ∙ alive p (omega arith) a) in
          to_step (Some (port# p, ports_cursor n sides (suc p))) (item_there n sides p (ports_to m sides) a) ∙
          (ap (more p) ih ∙ ap whole (sym (range_first p (ports_to m sides - p) (ports_to m sides - suc p) (omega arith))))
      go false t rest =
          let a : ports_to m sides ≤ p = ltb-false _ _ t in
          to_step None (item_beyond n sides p (ports_to m sides) a) ∙
          ap whole (sym (range_none p (ports_to m sides - p) (omega arith)))

-- the ports on these sides lie within the node's ports
pub ports_within : (m : NodeMeta) (sides : Sides) (p : ℕ) → ports_from m sides ≤ p → p < ports_to m sides → (m.first_port.0 ≤ p) × (p < m.first_port.0 + (m.incoming + m.outgoing))
ports_within m (One Incoming) p a b = (omega arith, omega arith)
ports_within m (One Outgoing) p a b = (omega arith, omega arith)
ports_within m Both p a b = (omega arith, omega arith)

pub ports_few : (m : NodeMeta) (sides : Sides) → ports_to m sides - ports_from m sides ≤ m.incoming + m.outgoing
ports_few m (One Incoming) = omega arith
ports_few m (One Outgoing) = omega arith
ports_few m Both = omega arith

-- the side of a node's port, and its offset, by its slot
abbrev pub side_at : NodeMeta → ℕ → Direction
side_at m p = cond (ltb p (m.first_port.0 + m.incoming)) Incoming Outgoing

abbrev pub offset_at : NodeMeta → ℕ → PortOffset
offset_at m p = record { direction = side_at m p; index = p - m.first_port.0 - start_of m (side_at m p) }

abbrev pub offsets_at : NodeMeta → List ℕ → List PortOffset
offsets_at m [] = []
offsets_at m (p ∷ l) = offset_at m p ∷ offsets_at m l

-- a walk with the offset of each port
abbrev pub each_offset : NodeMeta → Walked ℕ → Walked PortOffset
each_offset m w = record { items = offsets_at m w.items; ended = w.ended }

abbrev pub after_offset : (NodePortOffsets → Walked PortOffset) → Option (PortOffset × NodePortOffsets) → Walked PortOffset
after_offset walk (Some (o, c)) = more o (walk c)
after_offset walk None = whole []

unfoldable pub walk_offsets : PortGraph → ℕ → NodePortOffsets → Walked PortOffset
walk_offsets g zero c = unfinished
walk_offsets g (suc fuel) c = after_offset (walk_offsets g fuel) (step_offsets g c)

walk_offsets_on : (g : PortGraph) (fuel : ℕ) (c : NodePorts) → walk_offsets g (suc fuel) (record { ports = c }) ≡ after_offset (walk_offsets g fuel) (offset_of_step g (step_ports g c))
unfolding walk_offsets
walk_offsets_on g fuel c = refl

no_fuel : (g : PortGraph) (m : NodeMeta) (c : NodePorts) → walk_offsets g 0 (record { ports = c }) ≡ each_offset m (walk_ports g 0 c)
unfolding walk_offsets walk_ports
no_fuel g m c = refl

owner_in_block_lem : (n : ℕ) (m : NodeMeta) (p : ℕ) → p < m.first_port.0 + (m.incoming + m.outgoing) → owner_in_block n m p ≡ owner_number n (side_at m p)
owner_in_block_lem n m p l = go (ltb p (m.first_port.0 + m.incoming))
  where
    go : (b : Bool) → cond b (owner_number n Incoming) (cond (ltb p (m.first_port.0 + (m.incoming + m.outgoing))) (owner_number n Outgoing) 0) ≡ owner_number n (cond b Incoming Outgoing)
    go true = refl
    go false = rw (lt-ltb p (m.first_port.0 + (m.incoming + m.outgoing)) l)

module _ (g : PortGraph) (M : Model) (good : Good M) (holds : Holds g M) (n : ℕ) (m : NodeMeta) (node : M.node n ≡ live m) where
  -- each slot from a live node's first port to its last is a port of that node
  port_of_node : (p : ℕ) → m.first_port.0 ≤ p → p < m.first_port.0 + (m.incoming + m.outgoing) → port_at g p ≡ Port (record { node = node# n; direction = side_at m p })
  port_of_node p a b =
      let cap = good.ports_in_block n m node in
      let who : M.who p ≡ held_by n = good.held_by n m p node (a, omega arith) in
      ap port_entry (holds.owners p ∙ (ap (λ w. owner_of_who M.node w p) who ∙ (ap (λ s. owner_of_slots n s p) node ∙ owner_in_block_lem n m p b))) ∙
      entry_of_owner n (side_at m p)

  pub ports_alive : (p : ℕ) → m.first_port.0 ≤ p → p < m.first_port.0 + (m.incoming + m.outgoing) → contains_port g p ≡ true
  ports_alive p a b = ap is_port (port_of_node p a b)

  pub offset_of_port : (p : ℕ) → m.first_port.0 ≤ p → p < m.first_port.0 + (m.incoming + m.outgoing) → port_offset g p ≡ Some (offset_at m p)
  offset_of_port p a b = ap (offset_of g p) (port_of_node p a b) ∙ ap (offset_in p (side_at m p)) (meta_of_node good holds n m node)

  -- from any position that is still there a walk gives the rest of the node's ports, and ends
  pub walk_gives_rest_of_ports : (sides : Sides) (fuel held : ℕ) → ports_to m sides - max (ports_from m sides) held < fuel → port_held g held ≡ true → walk_ports g fuel (ports_cursor n sides held) ≡ whole (range (max (ports_from m sides) held) (ports_to m sides - max (ports_from m sides) held))
  walk_gives_rest_of_ports sides fuel held l h =
      ports_rest g n sides m (meta_of_node good holds n m node) (λ p a b. let w = ports_within m sides p a b in ports_alive p w.0 w.1) fuel held (max (ports_from m sides) held) refl l h

  -- from the start: all ports of the node on these sides, in order, and then the end
  pub walk_gives_all_ports : (sides : Sides) → walk_ports g (node_ports + 1) (ports_cursor n sides 0) ≡ whole (ports_of_node m sides)
  walk_gives_all_ports sides =
      let cap = good.ports_in_block n m node in
      let small = good.block_small n m node in
      let few = ports_few m sides in
      ports_rest g n sides m (meta_of_node good holds n m node) (λ p a b. let w = ports_within m sides p a b in ports_alive p w.0 w.1) (node_ports + 1) 0 (ports_from m sides) (omega arith) (omega arith) refl

  -- Offsets: the same walk, with the offset of each port.

  step_cases : (sides : Sides) (held : ℕ)
      → (step_ports g (ports_cursor n sides held) ≡ None)
      ⊎ ((p : ℕ) × (step_ports g (ports_cursor n sides held) ≡ Some (port# p, ports_cursor n sides (suc p))) × (ports_from m sides ≤ p) × (p < ports_to m sides))
  step_cases sides held = go (port_held g held) refl (ltb (max (ports_from m sides) held) (ports_to m sides)) refl
    where
      go : (b : Bool) → port_held g held ≡ b → (l : Bool) → ltb (max (ports_from m sides) held) (ports_to m sides) ≡ l
          → (step_ports g (ports_cursor n sides held) ≡ None)
          ⊎ ((p : ℕ) × (step_ports g (ports_cursor n sides held) ≡ Some (port# p, ports_cursor n sides (suc p))) × (ports_from m sides ≤ p) × (p < ports_to m sides))
      go false h l e = inl (step_where_port_gone g (ports_cursor n sides held) h)
      go true h true e =
          let a : max (ports_from m sides) held < ports_to m sides = ltb-true _ _ e in
          inr (max (ports_from m sides) held, step_of_node g (ports_cursor n sides held) m (meta_of_node good holds n m node) h ∙ item_there n sides (max (ports_from m sides) held) (ports_to m sides) a, omega arith, a)
      go true h false e =
          inl (step_of_node g (ports_cursor n sides held) m (meta_of_node good holds n m node) h ∙ item_beyond n sides (max (ports_from m sides) held) (ports_to m sides) (ltb-false _ _ e))

  -- a walk over the offsets gives the offset of each port that the walk over the ports gives, and ends with it
  pub offsets_walk_with_ports : (sides : Sides) (fuel held : ℕ) → walk_offsets g fuel (record { ports = ports_cursor n sides held }) ≡ each_offset m (walk_ports g fuel (ports_cursor n sides held))
  offsets_walk_with_ports sides zero held = no_fuel g m (ports_cursor n sides held)
  offsets_walk_with_ports sides (suc fuel) held = go (step_cases sides held) (λ h. offsets_walk_with_ports sides fuel h)
    where
      go : (step_ports g (ports_cursor n sides held) ≡ None)
          ⊎ ((p : ℕ) × (step_ports g (ports_cursor n sides held) ≡ Some (port# p, ports_cursor n sides (suc p))) × (ports_from m sides ≤ p) × (p < ports_to m sides))
          → ((h : ℕ) → walk_offsets g fuel (record { ports = ports_cursor n sides h }) ≡ each_offset m (walk_ports g fuel (ports_cursor n sides h)))
          → walk_offsets g (suc fuel) (record { ports = ports_cursor n sides held }) ≡ each_offset m (walk_ports g (suc fuel) (ports_cursor n sides held))
      go (inl e) rest =
          walk_offsets_on g fuel (ports_cursor n sides held) ∙
          (ap (λ s. after_offset (walk_offsets g fuel) (offset_of_step g s)) e ∙
          sym (ap (each_offset m) (walk_ports_on g fuel (ports_cursor n sides held) ∙ ap (after_port (walk_ports g fuel)) e)))
      go (inr x) rest =
          let p = x.0 in
          let w = ports_within m sides p x.2 x.3 in
          walk_offsets_on g fuel (ports_cursor n sides held) ∙
          (ap (λ s. after_offset (walk_offsets g fuel) (offset_of_step g s)) x.1 ∙
          (ap (λ o. after_offset (walk_offsets g fuel) (offset_found (ports_cursor n sides (suc p)) o)) (offset_of_port p w.0 w.1) ∙
          (ap (more (offset_at m p)) (rest (suc p)) ∙
          sym (ap (each_offset m) (walk_ports_on g fuel (ports_cursor n sides held) ∙ ap (after_port (walk_ports g fuel)) x.1)))))

  -- from the start: the offsets of all ports of the node on these sides, in order, and then the end
  pub walk_gives_all_offsets : (sides : Sides) → walk_offsets g (node_ports + 1) (record { ports = ports_cursor n sides 0 }) ≡ whole (offsets_at m (ports_of_node m sides))
  walk_gives_all_offsets sides = offsets_walk_with_ports sides (node_ports + 1) 0 ∙ ap (each_offset m) (walk_gives_all_ports sides)

pub no_port_twice : (m : NodeMeta) (sides : Sides) → Once (ports_of_node m sides)
no_port_twice m sides = rising_once ◌<◌ (λ x l. omega arith) (ports_of_node m sides) (range_rises (ports_from m sides) (ports_to m sides - ports_from m sides))

-- A cursor whose node or port is gone ends the walk.

pub gone_node_ends_walk : (g : PortGraph) (n : ℕ) → contains_node g n ≡ false → step_nodes g (suc n) ≡ None
gone_node_ends_walk g n e = step_where_gone g (suc n) (held_is_node g n ∙ e)

pub gone_port_ends_walk : (g : PortGraph) (n : ℕ) (sides : Sides) (p : ℕ) → contains_port g p ≡ false → step_ports g (ports_cursor n sides (suc p)) ≡ None
gone_port_ends_walk g n sides p e = step_where_port_gone g (ports_cursor n sides (suc p)) (held_is_port g p ∙ e)

pub gone_node_ends_its_ports : (g : PortGraph) (c : NodePorts) → meta_at g c.node.0 ≡ None → step_ports g c ≡ None
unfolding step_ports
gone_node_ends_its_ports g c e =
    ap (λ x. cond (port_held g c.held) (ports_beyond c.node.0 c.sides c.held x) None) e ∙ either_way (port_held g c.held) None

-- What the code of a step finds.

-- the ports of a block lie within the tables
pub ports_end_within : (m : NodeMeta) (sides : Sides) → BlockFits m → ports_to m sides ≤ port_slots
ports_end_within m (One Incoming) fits = let a = fits.ends in let b = fits.ports in omega arith
ports_end_within m (One Outgoing) fits = let a = fits.ends in let b = fits.ports in omega arith
ports_end_within m Both fits = let a = fits.ends in let b = fits.ports in omega arith
