-- What the lookups answer, and each answer's number and values in 01.
use Rattle.std.specs.Prelude.{Bool, true, false, cond, List, [], ◌∷◌, ℕ, ◌+◌, ◌-◌, eqb, ltb, get_or, Option, Some, None, Result, Ok, Err}
use Rattle.port_tables.specs.Entries.{fresh_slot, port_entry, ports_on, side_number, meta_of_entry, node_of, port#}
use Rattle.port_tables.specs.Tables.{at}
use Rattle.port_tables.specs.declared.direction.Direction.{Direction}
use Rattle.port_tables.specs.declared.direction.Direction.TheVariants.{Incoming, Outgoing}
use Rattle.port_tables.specs.declared.index.PortOffset.{PortOffset}
use Rattle.port_tables.specs.declared.node_entry.NodeMeta.{NodeMeta}
use Rattle.port_tables.specs.declared.node_entry.NodeEntry.{NodeEntry}
use Rattle.port_tables.specs.declared.port_entry.PortEntry.{PortEntry}
use Rattle.port_tables.specs.declared.port_entry.PortEntry.TheVariants as port_variants
use Rattle.portgraph.specs.declared.portgraph.PortGraph.{PortGraph}
use Rattle.port_tables.specs.declared.index.NodeIndex.{NodeIndex}
use Rattle.port_tables.specs.declared.index.PortIndex.{PortIndex}
use Rattle.portgraph.specs.declared.portgraph.NoSuchPort.{NoSuchPort}

-- what the node table holds for a number; a number outside the table has no node
abbrev pub entry_at : PortGraph → ℕ → NodeEntry
entry_at g n = (get_or g.node_meta n fresh_slot).entry

-- the node with a number, if it is live
abbrev pub meta_at : PortGraph → ℕ → Option NodeMeta
meta_at g n = meta_of_entry (entry_at g n)

-- a node's first slot, counts and capacity; nothing where there is no node
abbrev pub meta_numbers : Option NodeMeta → List ℕ
meta_numbers None = []
meta_numbers (Some m) = m.first_port.0 ∷ m.incoming ∷ m.outgoing ∷ m.capacity ∷ []

-- the port with a number, if it is live
abbrev pub port_at : PortGraph → ℕ → PortEntry
port_at g p = port_entry (at g.port_meta p)

abbrev pub direction_of : PortEntry → Option Direction
direction_of port_variants.Free = None
direction_of (port_variants.Port m) = Some m.direction

abbrev pub port_direction : PortGraph → ℕ → Option Direction
port_direction g p = direction_of (port_at g p)

-- 0 incoming, 1 outgoing; nothing for a port that is not live
abbrev pub maybe_direction_numbers : Option Direction → List ℕ
maybe_direction_numbers None = []
maybe_direction_numbers (Some d) = side_number d ∷ []

abbrev pub port_node : PortGraph → ℕ → Option NodeIndex
port_node g p = node_of (port_at g p)

abbrev pub maybe_node_numbers : Option NodeIndex → List ℕ
maybe_node_numbers None = []
maybe_node_numbers (Some n) = n.0 ∷ []

-- the position of a node's first port on a side, within its block
abbrev pub start_of : NodeMeta → Direction → ℕ
start_of m Incoming = 0
start_of m Outgoing = m.incoming

abbrev pub offset_in : ℕ → Direction → Option NodeMeta → Option PortOffset
offset_in p d None = None
offset_in p d (Some m) =
    Some (record { direction = d; index = p - m.first_port.0 - start_of m d })

abbrev pub offset_of : PortGraph → ℕ → PortEntry → Option PortOffset
offset_of g p port_variants.Free = None
offset_of g p (port_variants.Port m) = offset_in p m.direction (meta_at g m.node.0)

-- the side and position of a port
abbrev pub port_offset : PortGraph → ℕ → Option PortOffset
port_offset g p = offset_of g p (port_at g p)

-- side and position
abbrev pub offset_numbers : PortOffset → List ℕ
offset_numbers o = side_number o.direction ∷ o.index ∷ []

abbrev pub maybe_offset_numbers : Option PortOffset → List ℕ
maybe_offset_numbers None = []
maybe_offset_numbers (Some o) = offset_numbers o

abbrev pub port_in : Option NodeMeta → PortOffset → Option PortIndex
port_in None o = None
port_in (Some m) o =
    cond (ltb o.index (ports_on m o.direction))
    (Some (port# (m.first_port.0 + start_of m o.direction + o.index)))
    None

-- the port at a side and position of a node
abbrev pub port_index : PortGraph → ℕ → PortOffset → Option PortIndex
port_index g n o = port_in (meta_at g n) o

abbrev pub maybe_port_numbers : Option PortIndex → List ℕ
maybe_port_numbers None = []
maybe_port_numbers (Some p) = p.0 ∷ []

abbrev pub link_of : PortGraph → ℕ → PortEntry → Result (Option PortIndex) NoSuchPort
link_of g p port_variants.Free = Err (record { 0 = port# p })
link_of g p (port_variants.Port m) =
    cond (eqb (at g.port_link p) 0) (Ok None) (Ok (Some (port# (at g.port_link p - 1))))

-- the port that a port is linked with
abbrev pub port_link : PortGraph → ℕ → Result (Option PortIndex) NoSuchPort
port_link g p = link_of g p (port_at g p)

-- found: 1 and the port; nothing: zeros; a port that is not live: refusal 7 with that port
abbrev pub port_link_numbers : Result (Option PortIndex) NoSuchPort → List ℕ
port_link_numbers (Ok (Some q)) = 0 ∷ 1 ∷ q.0 ∷ []
port_link_numbers (Ok None) = 0 ∷ 0 ∷ 0 ∷ []
port_link_numbers (Err p) = 7 ∷ p.0.0 ∷ []

abbrev pub count_in : Option NodeMeta → Direction → ℕ
count_in None d = 0
count_in (Some m) d = ports_on m d

abbrev pub num_ports : PortGraph → ℕ → Direction → ℕ
num_ports g n d = count_in (meta_at g n) d

abbrev pub capacity_in : Option NodeMeta → ℕ
capacity_in None = 0
capacity_in (Some m) = m.capacity

abbrev pub node_port_capacity : PortGraph → ℕ → ℕ
node_port_capacity g n = capacity_in (meta_at g n)

abbrev pub is_some : Option NodeMeta → Bool
is_some None = false
is_some (Some m) = true

abbrev pub contains_node : PortGraph → ℕ → Bool
contains_node g n = is_some (meta_at g n)

abbrev pub is_port : PortEntry → Bool
is_port port_variants.Free = false
is_port (port_variants.Port m) = true

abbrev pub contains_port : PortGraph → ℕ → Bool
contains_port g p = is_port (port_at g p)

abbrev pub is_empty : PortGraph → Bool
is_empty g = cond (eqb g.node_count 0) (eqb g.port_count 0) false
