-- How a port number is read: live or not, hidden or not, split or not, and which end a subport is.
use Rattle.std.specs.Prelude.{Bool, true, false, cond, ℕ, eqb, ltb, get_or, Option, Some, None, Result, Ok, Err}
use Rattle.portgraph.specs.Lookups.{port_at, port_link, port_node, port_index, port_offset, num_ports}
use Rattle.port_tables.specs.Entries.{node#, port#}
use Rattle.port_tables.specs.declared.direction.Direction.{Direction}
use Rattle.port_tables.specs.declared.direction.Direction.TheVariants.{Incoming, Outgoing}
use Rattle.port_tables.specs.declared.port_entry.PortEntry.{PortEntry}
use Rattle.port_tables.specs.declared.port_entry.PortEntry.TheVariants as port_variants
use Rattle.portgraph.specs.declared.portgraph.PortGraph.{PortGraph}
use Rattle.multiportgraph.specs.declared.multiportgraph.MultiPortGraph.{MultiPortGraph}
use Rattle.multi_tables.specs.declared.answers.SubportIndex.{SubportIndex}
use Rattle.multi_tables.specs.declared.answers.PortPlace.{PortPlace}
use Rattle.multi_tables.specs.declared.answers.Refusal.TheVariants.{UnknownOffset}
use Rattle.port_tables.specs.Places.{Place}
use Rattle.multi_tables.specs.Forms.{End, Port, dead, hidden, inner, lacking, node_number, subport#, visible}
use Rattle.port_tables.specs.declared.index.PortIndex.{PortIndex}
use Rattle.port_tables.specs.declared.index.PortOffset.{PortOffset}
use Rattle.portgraph.specs.declared.portgraph.NoSuchPort.{NoSuchPort}
use Rattle.multi_tables.specs.declared.answers.Refusal.{Refusal}

-- the place of an end as answers and walks give it: its offset stands in the subport beside it
abbrev pub port_place : Place → PortPlace
port_place x = record { node = node# x.node; side = x.side; position = x.pos }

-- Numbers out of the lower graph's lookups; 0 where there is nothing, which no graph of the calls shows.

abbrev pub link_number : Result (Option PortIndex) NoSuchPort → ℕ
link_number (Ok (Some q)) = q.0
link_number (Ok None) = 0
link_number (Err p) = 0

abbrev pub is_linked : Result (Option PortIndex) NoSuchPort → Bool
is_linked (Ok (Some q)) = true
is_linked (Ok None) = false
is_linked (Err p) = false

-- the port that a port is linked with
unfoldable pub far_port : PortGraph → ℕ → ℕ
far_port g p = link_number (port_link g p)

-- a port has a link
unfoldable pub has_link : PortGraph → ℕ → Bool
has_link g p = is_linked (port_link g p)

-- the node that has a port
unfoldable pub owner_of : PortGraph → ℕ → ℕ
owner_of g p = node_number (port_node g p)

abbrev pub port_number : Option PortIndex → ℕ
port_number (Some p) = p.0
port_number None = 0

-- the port of a node at a side and position
unfoldable pub port_of : PortGraph → ℕ → Direction → ℕ → ℕ
port_of g n d i = port_number (port_index g n (record { direction = d; index = i }))

abbrev pub position_number : Option PortOffset → ℕ
position_number (Some o) = o.index
position_number None = 0

-- the position of a port on its side
unfoldable pub position_of : PortGraph → ℕ → ℕ
position_of g p = position_number (port_offset g p)

-- 01's words.

-- a node is hidden
unfoldable pub is_hidden : MultiPortGraph → ℕ → Bool
is_hidden m n = get_or m.copy_node n false

-- a port outside hidden nodes is split
unfoldable pub is_split : MultiPortGraph → ℕ → Bool
is_split m p = get_or m.multiport p false

abbrev pub seen_entry : MultiPortGraph → PortEntry → Port
seen_entry m port_variants.Free = dead
seen_entry m (port_variants.Port k) = cond (is_hidden m k.node.0) hidden (visible k.node.0 k.direction)

unfoldable pub seen : MultiPortGraph → ℕ → Port
seen m p = seen_entry m (port_at m.graph p)

-- the side of a port of a block
abbrev pub side_of : Port → Direction
side_of dead = Incoming
side_of hidden = Incoming
side_of (visible n d) = d

-- the hidden node of a split port
unfoldable pub copy_node : MultiPortGraph → ℕ → ℕ
copy_node m p = owner_of m.graph (far_port m.graph p)

-- how many subports a split port has
unfoldable pub subports : MultiPortGraph → ℕ → Direction → ℕ
subports m p d = num_ports m.graph (copy_node m p) d

-- the inner port of a subport of a split port
unfoldable pub subport_at : MultiPortGraph → ℕ → Direction → ℕ → ℕ
subport_at m p d o = port_of m.graph (copy_node m p) d o

unfoldable pub end_at : MultiPortGraph → ℕ → Direction → ℕ → End
end_at m p d o = cond (is_split m p) (cond (ltb o (subports m p d)) (inner (subport_at m p d o)) lacking) (inner p)

-- an end as read: on an unsplit port every offset means the port itself
unfoldable pub as_read : MultiPortGraph → ℕ → ℕ → SubportIndex
as_read m p o = subport# p (cond (is_split m p) o 0)

-- the side of a hidden node that has its copy port: the one with a single port, by the mark where both have one
unfoldable pub copy_side : MultiPortGraph → ℕ → Direction
copy_side m c =
    cond (eqb (num_ports m.graph c Incoming) 1)
    (cond (eqb (num_ports m.graph c Outgoing) 1) (cond (is_split m (port_of m.graph c Incoming 0)) Incoming Outgoing) Incoming)
    Outgoing

-- the split port of a hidden node
unfoldable pub main_port : MultiPortGraph → ℕ → ℕ
main_port m c = far_port m.graph (port_of m.graph c (copy_side m c) 0)

-- the subport that an inner port is
unfoldable pub subport_of : MultiPortGraph → ℕ → SubportIndex
subport_of m q =
    cond (is_hidden m (owner_of m.graph q))
    (subport# (main_port m (owner_of m.graph q)) (position_of m.graph q))
    (subport# q 0)

-- the place of an end
unfoldable pub place_of : MultiPortGraph → SubportIndex → Place
place_of m s =
    record {
      node = owner_of m.graph s.port.0;
      side = side_of (seen m s.port.0);
      pos = position_of m.graph s.port.0;
      offset = s.subport_offset;
    }

-- where an end stands, and where the visible end that an inner port is
abbrev pub standing : MultiPortGraph → SubportIndex → PortPlace
standing m s = port_place (place_of m s)

abbrev pub standing_of : MultiPortGraph → ℕ → PortPlace
standing_of m q = standing m (subport_of m q)

-- the subport at the far end, and where it stands
abbrev pub far_subport : MultiPortGraph → Result (Option PortIndex) NoSuchPort → Result (Option (SubportIndex × PortPlace)) Refusal
far_subport m (Ok (Some q)) = Ok (Some (subport_of m q.0, standing_of m q.0))
far_subport m (Ok None) = Ok None
far_subport m (Err p) = Ok None

-- what an end is linked with; 9 where a split port has no such offset
abbrev pub link_of_end : MultiPortGraph → ℕ → End → Result (Option (SubportIndex × PortPlace)) Refusal
link_of_end m p lacking = Err (UnknownOffset (port# p))
link_of_end m p (inner x) = far_subport m (port_link m.graph x)
