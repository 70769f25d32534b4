-- What the entries of the tables mean.
use Rattle.std.specs.Prelude.{cond, Bool, true, false, List, [], ◌∷◌, ℕ, ◌+◌, ◌*◌, ◌-◌, ◌/◌, ◌%◌, eqb, get_or, set, Option, Some, None}
use Rattle.port_tables.specs.declared.direction.Direction.{Direction}
use Rattle.port_tables.specs.declared.direction.Direction.TheVariants.{Incoming, Outgoing}
use Rattle.port_tables.specs.declared.port_entry.PortMeta.{PortMeta}
use Rattle.port_tables.specs.declared.port_entry.PortEntry.{PortEntry}
use Rattle.port_tables.specs.declared.node_entry.NodeEntry.TheVariants.{Free, Node}
use Rattle.port_tables.specs.declared.node_entry.NodeSlot.{NodeSlot}
use Rattle.port_tables.specs.declared.node_entry.NodeMeta.{NodeMeta}
use Rattle.port_tables.specs.declared.node_entry.NodeEntry.{NodeEntry}
use Rattle.port_tables.specs.declared.index.NodeIndex.{NodeIndex}
use Rattle.port_tables.specs.declared.index.PortIndex.{PortIndex}
use Rattle.port_tables.specs.declared.sides.Sides.{Sides}
use Rattle.port_tables.specs.declared.sides.Sides.TheVariants.{One, Both}
use Rattle.port_tables.specs.declared.port_entry.PortEntry.TheVariants as port_variants
use Rattle.port_tables.specs.declared.node_entry.NodeEntry.TheVariants as node_variants

abbrev pub reversed : Direction → Direction
reversed Incoming = Outgoing
reversed Outgoing = Incoming

-- 01's number of a direction: 0 incoming, 1 outgoing
abbrev pub side_number : Direction → ℕ
side_number Incoming = 0
side_number Outgoing = 1

-- an owner's number: 0 is a free slot
abbrev pub owner_number : ℕ → Direction → ℕ
owner_number n Incoming = 2 * n + 1
owner_number n Outgoing = 2 * n + 2

-- an owner's number, read
unfoldable pub port_entry : ℕ → PortEntry
port_entry e =
    cond (eqb e 0) port_variants.Free
    (port_variants.Port (record { node = record { 0 = (e - 1) / 2 }; direction = cond (eqb ((e - 1) % 2) 0) Incoming Outgoing }))

-- a port's owner and side; nothing for a free slot
abbrev pub port_entry_numbers : PortEntry → List ℕ
port_entry_numbers port_variants.Free = []
port_entry_numbers (port_variants.Port m) = m.node.0 ∷ side_number m.direction ∷ []

abbrev pub free_slot_of : ℕ → ℕ → NodeSlot
free_slot_of prev next = record { entry = Free (record { prev = prev; next = next }) }

abbrev pub node_slot_of : NodeMeta → NodeSlot
node_slot_of m = record { entry = Node m }

-- a slot that has never been used
abbrev pub fresh_slot : NodeSlot
fresh_slot = free_slot_of 0 0

abbrev pub is_node : NodeEntry → Bool
is_node (Free f) = false
is_node (Node m) = true

-- the next free entry after this one, one higher than its number; 0 for none
abbrev pub next_of : NodeEntry → ℕ
next_of (Free f) = f.next
next_of (Node m) = 0

abbrev pub with_prev_entry : NodeEntry → ℕ → NodeEntry
with_prev_entry (Free f) p = Free (record { prev = p; next = f.next })
with_prev_entry (Node m) p = Node m

-- the slot with another free entry before it; a node stays as it is
abbrev pub with_prev : NodeSlot → ℕ → NodeSlot
with_prev s p = record { entry = with_prev_entry s.entry p }

abbrev pub ports_on : NodeMeta → Direction → ℕ
ports_on m Incoming = m.incoming
ports_on m Outgoing = m.outgoing

-- the node table where a free entry, given one higher than its number, has another one before it; 0 changes nothing
unfoldable pub set_prev : List NodeSlot → ℕ → ℕ → List NodeSlot
set_prev nodes code p = cond (eqb code 0) nodes (set nodes (code - 1) (with_prev (get_or nodes (code - 1) fresh_slot) p))

abbrev pub node# : ℕ → NodeIndex
node# n = record { 0 = n }

abbrev pub port# : ℕ → PortIndex
port# p = record { 0 = p }

abbrev pub meta_of_entry : NodeEntry → Option NodeMeta
meta_of_entry (node_variants.Free f) = None
meta_of_entry (node_variants.Node m) = Some m

abbrev pub port_of_entry : PortEntry → Option PortMeta
port_of_entry port_variants.Free = None
port_of_entry (port_variants.Port m) = Some m

abbrev pub node_of : PortEntry → Option NodeIndex
node_of port_variants.Free = None
node_of (port_variants.Port m) = Some m.node

abbrev pub node_number : Option NodeIndex → ℕ
node_number (Some n) = n.0
node_number None = 0

abbrev pub same_side : Direction → Direction → Bool
same_side Incoming Incoming = true
same_side Incoming Outgoing = false
same_side Outgoing Incoming = false
same_side Outgoing Outgoing = true

abbrev pub new_count : ℕ → ℕ → Direction → ℕ
new_count incoming outgoing Incoming = incoming
new_count incoming outgoing Outgoing = outgoing

-- a node's block and counts
abbrev pub meta_of : ℕ → ℕ → ℕ → ℕ → NodeMeta
meta_of first incoming outgoing capacity =
    record { first_port = record { 0 = first }; incoming = incoming; outgoing = outgoing; capacity = capacity }

-- Ports of a node, on one side or both, incoming first.

-- the first slot of a node's ports on these sides, and the one after their last
abbrev pub ports_from : NodeMeta → Sides → ℕ
ports_from m (One Incoming) = m.first_port.0
ports_from m (One Outgoing) = m.first_port.0 + m.incoming
ports_from m Both = m.first_port.0

abbrev pub ports_to : NodeMeta → Sides → ℕ
ports_to m (One Incoming) = m.first_port.0 + m.incoming
ports_to m (One Outgoing) = m.first_port.0 + m.incoming + m.outgoing
ports_to m Both = m.first_port.0 + m.incoming + m.outgoing
