-- The node table: what is read of it, and one slot stored.
use Rattle.std.specs.Prelude.{cond, List, ℕ, ltb, get_or, set, Option}
use Rattle.port_tables.specs.Entries.{fresh_slot, meta_of_entry}
use Rattle.port_tables.specs.declared.node_entry.NodeSlot.{NodeSlot}
use Rattle.port_tables.specs.Limits.{node_slots}
use Rattle.port_tables.specs.declared.node_entry.NodeMeta.{NodeMeta}

-- one slot; a free one outside the table
abbrev pub slot_in : List NodeSlot → ℕ → NodeSlot
slot_in nodes n = get_or nodes n fresh_slot

-- the node table with another slot; outside nothing changes
unfoldable pub put_slot : List NodeSlot → ℕ → NodeSlot → List NodeSlot
put_slot nodes n s = cond (ltb n node_slots) (set nodes n s) nodes

-- the node with a number, if it is live
abbrev pub meta_in : List NodeSlot → ℕ → Option NodeMeta
meta_in nodes n = meta_of_entry (slot_in nodes n).entry
