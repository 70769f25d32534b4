-- Every other walk of 01: the list that it gives, and the step of its cursor on any graph.
-- A step gives the next item of the present listing beyond the port and offset held; a cursor whose node or port is gone or
-- hidden ends the walk.
use Rattle.std.specs.Prelude.{Bool, true, false, cond, ℕ, suc, ◌-◌, eqb, leb, ltb, length, Option, Some, None, Result, Ok, Err}
use mathlib.Core.List.{List, [], ◌++◌, flat_map, map}
use Rattle.port_tables.specs.Limits.{port_slots}
use Rattle.port_tables.specs.Lists.{on_first, on_last, range}
use Rattle.std.specs.List.{filter}
use Rattle.port_tables.specs.Entries.{same_side, node#, port#}
use Rattle.portgraph.specs.Lookups.{contains_node}
use Rattle.port_tables.specs.declared.index.NodeIndex.{NodeIndex}
use Rattle.port_tables.specs.declared.index.PortIndex.{PortIndex}
use Rattle.port_tables.specs.declared.direction.Direction.{Direction}
use Rattle.port_tables.specs.declared.direction.Direction.TheVariants.{Incoming, Outgoing}
use Rattle.port_tables.specs.declared.sides.Sides.{Sides}
use Rattle.port_tables.specs.declared.sides.Sides.TheVariants.{One, Both}
use Rattle.multiportgraph.specs.Reading.{owner_of, is_hidden, seen}
use Rattle.multi_tables.specs.Forms.{Port, dead, hidden, visible, sum_of}
use Rattle.multiportgraph.specs.Wires.{is_block, blocks, ports_of_side, subports_of_side, subports_of_port, side_links, wire_of, is_beyond, held_at}
use Rattle.multiportgraph.specs.declared.multiportgraph.MultiPortGraph.{MultiPortGraph}
use Rattle.multi_tables.specs.declared.answers.Refusal.{Refusal}
use Rattle.multi_tables.specs.declared.answers.Refusal.TheVariants.{UnknownNode, HiddenNode, UnknownPort, HiddenPort}
use Rattle.multi_tables.specs.declared.answers.SubportIndex.{SubportIndex}
use Rattle.multi_tables.specs.declared.answers.SubportLink.{SubportLink}
use Rattle.multiportgraph.specs.declared.iter.Nodes.{Nodes}
use Rattle.multiportgraph.specs.declared.iter.Ports.{Ports}
use Rattle.multiportgraph.specs.declared.iter.NodePorts.{NodePorts}
use Rattle.multiportgraph.specs.declared.iter.NodeSubports.{NodeSubports}
use Rattle.multiportgraph.specs.declared.iter.PortLinks.{PortLinks}
use Rattle.multiportgraph.specs.declared.iter.NodeLinks.{NodeLinks}
use Rattle.multiportgraph.specs.declared.iter.Neighbours.{Neighbours}
use Rattle.multiportgraph.specs.declared.iter.NodeConnections.{NodeConnections}

-- Starting a walk is a call.

pub data Start : Type 0 where
  started : Start
  refused : Refusal → Start

-- over the blocks or all wires: never refused. At a node: 4, 5
unfoldable pub start_at_node : MultiPortGraph → ℕ → Start
start_at_node m n =
    cond (contains_node m.graph n) (cond (is_hidden m n) (refused HiddenNode) started) (refused UnknownNode)

-- from one node to another: 4 for either, then 5 for either
unfoldable pub start_between : MultiPortGraph → ℕ → ℕ → Start
start_between m n k =
    cond (contains_node m.graph n)
    (cond (contains_node m.graph k) (cond (is_hidden m n) (refused HiddenNode) (start_at_node m k)) (refused UnknownNode))
    (refused UnknownNode)

abbrev pub start_seen : ℕ → Port → Start
start_seen p dead = refused (UnknownPort (port# p))
start_seen p hidden = refused (HiddenPort (port# p))
start_seen p (visible n d) = started

-- at a port: 7, 8
unfoldable pub start_at_port : MultiPortGraph → ℕ → Start
start_at_port m p = start_seen p (seen m p)

-- What a cursor holds is still there.

abbrev pub is_seen : Port → Bool
is_seen dead = false
is_seen hidden = false
is_seen (visible n d) = true

abbrev pub held_seen : MultiPortGraph → ℕ → Bool
held_seen m held = cond (eqb held 0) true (is_seen (seen m (held - 1)))

abbrev pub both_seen : MultiPortGraph → ℕ → ℕ → Bool
both_seen m n held = cond (is_block m n) (held_seen m held) false

-- The first and the last of a list, as a step has them.

-- strictly between what was given last from the front and from the back, each one higher and 0 for none
unfoldable pub between : ℕ → ℕ → ℕ → Bool
between front back x = cond (leb front x) (cond (eqb back 0) true (ltb (suc x) back)) false

-- Blocks, from either end.

unfoldable pub node_held : MultiPortGraph → ℕ → Bool
node_held m held = cond (eqb held 0) true (is_block m (held - 1))

-- the blocks that a cursor has left; none where a block that it holds is gone or hidden
unfoldable pub blocks_left : MultiPortGraph → Nodes → List ℕ
blocks_left m c =
    cond (node_held m c.front) (cond (node_held m c.back) (filter (between c.front c.back) (blocks m)) []) []

unfoldable pub step_nodes : MultiPortGraph → Nodes → Option (NodeIndex × Nodes)
step_nodes m c = on_first None (λ n. Some (node# n, record { front = suc n; back = c.back })) (blocks_left m c)

unfoldable pub step_nodes_back : MultiPortGraph → Nodes → Option (NodeIndex × Nodes)
step_nodes_back m c = on_last None (λ n. Some (node# n, record { front = c.front; back = suc n })) (blocks_left m c)

-- All ports of blocks, by ascending number, from either end.

unfoldable pub all_ports : MultiPortGraph → List ℕ
all_ports m = filter (λ p. is_seen (seen m p)) (range 0 port_slots)

unfoldable pub ports_left : MultiPortGraph → Ports → List ℕ
ports_left m c =
    cond (held_seen m c.front) (cond (held_seen m c.back) (filter (between c.front c.back) (all_ports m)) []) []

unfoldable pub step_all_ports : MultiPortGraph → Ports → Option (PortIndex × Ports)
step_all_ports m c = on_first None (λ p. Some (port# p, record { front = suc p; back = c.back })) (ports_left m c)

unfoldable pub step_all_ports_back : MultiPortGraph → Ports → Option (PortIndex × Ports)
step_all_ports_back m c = on_last None (λ p. Some (port# p, record { front = c.front; back = suc p })) (ports_left m c)

-- the same ports by ascending block, incoming first: what the count of ports counts
unfoldable pub ports_by_block : MultiPortGraph → List ℕ
ports_by_block m = flat_map (λ n. ports_of_side m Incoming n ++ ports_of_side m Outgoing n) (blocks m)

-- Ports of a block, on one side or both.

abbrev pub by_sides {ℓ} : {A : Type ℓ} → (Direction → List A) → Sides → List A
by_sides f (One d) = f d
by_sides f Both = f Incoming ++ f Outgoing

unfoldable pub ports_of_node : MultiPortGraph → ℕ → Sides → List ℕ
ports_of_node m n sides = by_sides (λ d. ports_of_side m d n) sides

unfoldable pub step_node_ports : MultiPortGraph → NodePorts → Option (PortIndex × NodePorts)
step_node_ports m c =
    cond (both_seen m c.node.0 c.held)
    (on_first None (λ p. Some (port# p, record { node = c.node; sides = c.sides; held = suc p }))
    (filter (leb c.held) (ports_of_node m c.node.0 c.sides)))
    None

-- Subports of a block, on one side or both.

unfoldable pub subports_of : MultiPortGraph → ℕ → Sides → List SubportIndex
subports_of m n sides = by_sides (subports_of_side m n) sides

unfoldable pub subport_beyond : ℕ → ℕ → SubportIndex → Bool
subport_beyond held o s =
    cond (eqb held 0) true (cond (eqb s.port.0 (held - 1)) (ltb o s.subport_offset) (ltb (held - 1) s.port.0))

unfoldable pub step_subports : MultiPortGraph → NodeSubports → Option (SubportIndex × NodeSubports)
step_subports m c =
    cond (both_seen m c.node.0 c.held.port)
    (on_first None
    (λ s. Some (s, record { node = c.node; sides = c.sides; held = held_at s }))
    (filter (subport_beyond c.held.port c.held.offset) (subports_of m c.node.0 c.sides)))
    None

-- Links of a port, from either end.

abbrev pub port_links_seen : MultiPortGraph → ℕ → Port → List SubportLink
port_links_seen m p dead = []
port_links_seen m p hidden = []
port_links_seen m p (visible n d) = flat_map (wire_of m d) (subports_of_port m d p)

unfoldable pub port_links : MultiPortGraph → ℕ → List SubportLink
port_links m p = port_links_seen m p (seen m p)

-- Fan-out, in place of 01's: the number of wires on a port, 0 for one that is not linked; a block's is the sum over its outgoing ports.

unfoldable pub fan_out : MultiPortGraph → ℕ → ℕ
fan_out m p = length (port_links m p)

unfoldable pub block_fan_out : MultiPortGraph → ℕ → ℕ
block_fan_out m n = sum_of (fan_out m) (ports_of_side m Outgoing n)

-- those strictly between the offsets given from the front and from the back
unfoldable pub links_left : MultiPortGraph → PortLinks → List SubportLink
links_left m c = filter (λ w. between c.front c.back w.from.subport_offset) (port_links m c.port.0)

unfoldable pub step_front : MultiPortGraph → PortLinks → Option (SubportLink × PortLinks)
step_front m c =
    on_first None (λ w. Some (w, record { port = c.port; front = suc w.from.subport_offset; back = c.back }))
    (links_left m c)

unfoldable pub step_back : MultiPortGraph → PortLinks → Option (SubportLink × PortLinks)
step_back m c =
    on_last None (λ w. Some (w, record { port = c.port; front = c.front; back = suc w.from.subport_offset }))
    (links_left m c)

-- Links of a block, on one side or both, without those to a range of ports.

abbrev pub not_skipped : ℕ → ℕ → SubportLink → Bool
not_skipped lo hi w = cond (leb lo w.to.port.0) (leb hi w.to.port.0) true

unfoldable pub node_links : MultiPortGraph → ℕ → Sides → ℕ → ℕ → List SubportLink
node_links m n sides lo hi = filter (not_skipped lo hi) (by_sides (λ d. side_links m d n) sides)

abbrev pub link_beyond : ℕ → ℕ → SubportLink → Bool
link_beyond held o w = cond (eqb held 0) true (is_beyond (held - 1) o w)

abbrev pub links_item : NodeLinks → SubportLink → Option (SubportLink × NodeLinks)
links_item c w =
    Some (
      w,
      record {
        node = c.node;
        sides = c.sides;
        skip = c.skip;
        held = held_at w.from;
      },
    )

unfoldable pub step_links : MultiPortGraph → NodeLinks → Option (SubportLink × NodeLinks)
step_links m c =
    cond (both_seen m c.node.0 c.held.port)
    (on_first None (links_item c)
    (filter (link_beyond c.held.port c.held.offset) (node_links m c.node.0 c.sides c.skip.from c.skip.to)))
    None

-- Neighbours, one for each link.

abbrev pub is_own_output : MultiPortGraph → ℕ → Port → Bool
is_own_output m n dead = false
is_own_output m n hidden = false
is_own_output m n (visible k d) = cond (eqb k n) (same_side d Outgoing) false

abbrev pub not_ignored : MultiPortGraph → ℕ → Bool → SubportLink → Bool
not_ignored m n flag w = cond flag (cond (is_own_output m n (seen m w.to.port.0)) false true) true

-- the links that lead to the neighbours
unfoldable pub neighbour_links : MultiPortGraph → ℕ → Sides → Bool → List SubportLink
neighbour_links m n sides flag = filter (not_ignored m n flag) (by_sides (λ d. side_links m d n) sides)

unfoldable pub neighbours : MultiPortGraph → ℕ → Sides → Bool → List ℕ
neighbours m n sides flag = map (λ (w : SubportLink). owner_of m.graph w.to.port.0) (neighbour_links m n sides flag)

abbrev pub neighbours_item : MultiPortGraph → Neighbours → SubportLink → Option (NodeIndex × Neighbours)
neighbours_item m c w =
    Some (
      node# (owner_of m.graph w.to.port.0),
      record {
        node = c.node;
        sides = c.sides;
        ignore_self = c.ignore_self;
        held = held_at w.from;
      },
    )

unfoldable pub step_neighbours : MultiPortGraph → Neighbours → Option (NodeIndex × Neighbours)
step_neighbours m c =
    cond (both_seen m c.node.0 c.held.port)
    (on_first None (neighbours_item m c)
    (filter (link_beyond c.held.port c.held.offset) (neighbour_links m c.node.0 c.sides c.ignore_self)))
    None

-- Connections from one block's outgoing side to another block, repeated per wire.

unfoldable pub connections : MultiPortGraph → ℕ → ℕ → List SubportLink
connections m n k = filter (λ (w : SubportLink). eqb (owner_of m.graph w.to.port.0) k) (side_links m Outgoing n)

abbrev pub connections_item : NodeConnections → SubportLink → Option (SubportLink × NodeConnections)
connections_item c w =
    Some (w, record { node = c.node; target = c.target; held = held_at w.from })

-- both blocks are still there, and the port held
unfoldable pub step_connections : MultiPortGraph → NodeConnections → Option (SubportLink × NodeConnections)
step_connections m c =
    cond (is_block m c.target.0)
    (cond (both_seen m c.node.0 c.held.port)
    (on_first None (connections_item c)
    (filter (link_beyond c.held.port c.held.offset) (connections m c.node.0 c.target.0)))
    None)
    None

-- Starts: 4 and 5 at a node, 7 and 8 at a port, else a cursor that holds nothing yet.

abbrev pub node_ports_from : NodeIndex → Sides → Start → Result NodePorts Refusal
node_ports_from n sides started = Ok (record { node = n; sides = sides; held = 0 })
node_ports_from n sides (refused r) = Err r

abbrev pub start_node_ports : MultiPortGraph → NodeIndex → Sides → Result NodePorts Refusal
start_node_ports m n sides = node_ports_from n sides (start_at_node m n.0)

abbrev pub subports_from : NodeIndex → Sides → Start → Result NodeSubports Refusal
subports_from n sides started = Ok (record { node = n; sides = sides; held = record { port = 0; offset = 0 } })
subports_from n sides (refused r) = Err r

abbrev pub start_subports : MultiPortGraph → NodeIndex → Sides → Result NodeSubports Refusal
start_subports m n sides = subports_from n sides (start_at_node m n.0)

abbrev pub port_links_from : PortIndex → Start → Result PortLinks Refusal
port_links_from p started = Ok (record { port = p; front = 0; back = 0 })
port_links_from p (refused r) = Err r

abbrev pub start_port_links : MultiPortGraph → PortIndex → Result PortLinks Refusal
start_port_links m p = port_links_from p (start_at_port m p.0)

abbrev pub links_from : NodeIndex → Sides → ℕ → ℕ → Start → Result NodeLinks Refusal
links_from n sides lo hi started =
    Ok (record { node = n; sides = sides; skip = record { from = lo; to = hi }; held = record { port = 0; offset = 0 } })
links_from n sides lo hi (refused r) = Err r

abbrev pub start_links : MultiPortGraph → NodeIndex → Sides → ℕ → ℕ → Result NodeLinks Refusal
start_links m n sides lo hi = links_from n sides lo hi (start_at_node m n.0)

abbrev pub neighbours_from : NodeIndex → Sides → Bool → Start → Result Neighbours Refusal
neighbours_from n sides flag started =
    Ok (record { node = n; sides = sides; ignore_self = flag; held = record { port = 0; offset = 0 } })
neighbours_from n sides flag (refused r) = Err r

abbrev pub start_neighbours : MultiPortGraph → NodeIndex → Sides → Bool → Result Neighbours Refusal
start_neighbours m n sides flag = neighbours_from n sides flag (start_at_node m n.0)

abbrev pub connections_from : NodeIndex → NodeIndex → Start → Result NodeConnections Refusal
connections_from n k started = Ok (record { node = n; target = k; held = record { port = 0; offset = 0 } })
connections_from n k (refused r) = Err r

abbrev pub start_connections : MultiPortGraph → NodeIndex → NodeIndex → Result NodeConnections Refusal
start_connections m n k = connections_from n k (start_between m n.0 k.0)
