-- Walks: for any cursor a step gives the next item of the present listing beyond what the cursor holds.
-- A cursor holds the number given last, one higher than it; 0 at the start. It ends where what it holds is gone.
use Rattle.std.specs.Prelude.{Bool, true, cond, List, [], ◌∷◌, ℕ, zero, suc, ◌-◌, max, eqb, ltb, get_or, Option, Some, None, Result, Ok, Err, false}
use Rattle.port_tables.specs.Limits.{node_slots}
use Rattle.port_tables.specs.Entries.{fresh_slot, is_node, node#, port#, ports_from, ports_to}
use Rattle.portgraph.specs.Lookups.{meta_at, contains_node, contains_port, port_offset, offset_numbers}
use Rattle.port_tables.specs.declared.index.NodeIndex.{NodeIndex}
use Rattle.port_tables.specs.declared.node_entry.NodeSlot.{NodeSlot}
use Rattle.portgraph.specs.declared.portgraph.PortGraph.{PortGraph}
use Rattle.port_tables.specs.declared.sides.Sides.{Sides}
use Rattle.portgraph.specs.declared.iter.NodePorts.{NodePorts}
use Rattle.portgraph.specs.declared.iter.NodePortOffsets.{NodePortOffsets}
use Rattle.port_tables.specs.declared.index.PortIndex.{PortIndex}
use Rattle.port_tables.specs.declared.index.PortOffset.{PortOffset}
use Rattle.port_tables.specs.declared.node_entry.NodeMeta.{NodeMeta}
use Rattle.portgraph.specs.declared.alloc.NoSuchNode.{NoSuchNode}
use Rattle.portgraph.specs.declared.iter.Nodes.{Nodes}
use Rattle.port_tables.specs.Lists.{range}

-- Nodes, by ascending number.

-- the first node from n on, among k slots
unfoldable pub node_from : List NodeSlot → ℕ → ℕ → Option (NodeIndex × Nodes)
node_from nodes n zero = None
node_from nodes n (suc k) =
    let next = node_from nodes (suc n) k in
    cond (is_node (get_or nodes n fresh_slot).entry) (Some (node# n, record { held = suc n })) next

-- what the cursor holds is still there
abbrev pub node_held : PortGraph → ℕ → Bool
node_held g held = cond (eqb held 0) true (contains_node g (held - 1))

unfoldable pub step_nodes : PortGraph → ℕ → Option (NodeIndex × Nodes)
step_nodes g held = cond (node_held g held) (node_from g.node_meta held (node_slots - held)) None

-- a step is never refused: the item, and nothing at the end
abbrev pub nodes_step_numbers : Option (NodeIndex × Nodes) → List ℕ
nodes_step_numbers (Some (n, c)) = n.0 ∷ []
nodes_step_numbers None = []

abbrev pub port_held : PortGraph → ℕ → Bool
port_held g held = cond (eqb held 0) true (contains_port g (held - 1))

abbrev pub ports_item : ℕ → Sides → ℕ → ℕ → Option (PortIndex × NodePorts)
ports_item n sides p end =
    cond (ltb p end) (Some (port# p, record { node = node# n; sides = sides; held = suc p })) None

abbrev pub ports_beyond : ℕ → Sides → ℕ → Option NodeMeta → Option (PortIndex × NodePorts)
ports_beyond n sides held None = None
ports_beyond n sides held (Some m) = ports_item n sides (max (ports_from m sides) held) (ports_to m sides)

unfoldable pub step_ports : PortGraph → NodePorts → Option (PortIndex × NodePorts)
step_ports g c = cond (port_held g c.held) (ports_beyond c.node.0 c.sides c.held (meta_at g c.node.0)) None

abbrev pub ports_step_numbers : Option (PortIndex × NodePorts) → List ℕ
ports_step_numbers (Some (p, c)) = p.0 ∷ []
ports_step_numbers None = []

abbrev pub started_ports : NodeIndex → Sides → Option NodeMeta → Result NodePorts NoSuchNode
started_ports n sides None = Err (record {})
started_ports n sides (Some m) = Ok (record { node = n; sides = sides; held = 0 })

-- refused for a node that is not live
abbrev pub start_ports : PortGraph → NodeIndex → Sides → Result NodePorts NoSuchNode
start_ports g n sides = started_ports n sides (meta_at g n.0)

-- a start answers no value, or refusal 4
abbrev pub ports_start_numbers : Result NodePorts NoSuchNode → List ℕ
ports_start_numbers (Ok c) = 0 ∷ []
ports_start_numbers (Err _) = 4 ∷ []

-- Port offsets of a node: the offset of each of those ports.

abbrev pub offset_found : NodePorts → Option PortOffset → Option (PortOffset × NodePortOffsets)
offset_found c None = None
offset_found c (Some o) = Some (o, record { ports = c })

abbrev pub offset_of_step : PortGraph → Option (PortIndex × NodePorts) → Option (PortOffset × NodePortOffsets)
offset_of_step g (Some (p, c)) = offset_found c (port_offset g p.0)
offset_of_step g None = None

abbrev pub step_offsets : PortGraph → NodePortOffsets → Option (PortOffset × NodePortOffsets)
step_offsets g c = offset_of_step g (step_ports g c.ports)

abbrev pub offsets_step_numbers : Option (PortOffset × NodePortOffsets) → List ℕ
offsets_step_numbers (Some (o, c)) = offset_numbers o
offsets_step_numbers None = []

abbrev pub started_offsets : Result NodePorts NoSuchNode → Result NodePortOffsets NoSuchNode
started_offsets (Ok c) = Ok (record { ports = c })
started_offsets (Err _) = Err (record {})

abbrev pub start_offsets : PortGraph → NodeIndex → Sides → Result NodePortOffsets NoSuchNode
start_offsets g n sides = started_offsets (start_ports g n sides)

abbrev pub offsets_start_numbers : Result NodePortOffsets NoSuchNode → List ℕ
offsets_start_numbers (Ok c) = 0 ∷ []
offsets_start_numbers (Err _) = 4 ∷ []

-- the ports of a node on these sides
abbrev pub ports_of_node : NodeMeta → Sides → List ℕ
ports_of_node m sides = range (ports_from m sides) (ports_to m sides - ports_from m sides)

-- What a walk of several steps gives: its items, and whether it came to its end.
pub record Walked (A : Type 0) : Type 0 where
  pub items : List A
  pub ended : Bool

-- all of these, and then the end
abbrev pub whole : {A : Type 0} → List A → Walked A
whole l = record { items = l; ended = true }

-- a walk that is out of fuel has not ended
abbrev pub unfinished : {A : Type 0} → Walked A
unfinished = record { items = []; ended = false }

abbrev pub more : {A : Type 0} → A → Walked A → Walked A
more n w = record { items = n ∷ w.items; ended = w.ended }
