-- What a resize does to the link table alone: which counts fit inside a block, and where kept and dropped ports go.
use Rattle.std.specs.Prelude.{cond, Bool, false, List, ◌++◌, ℕ, zero, suc, ◌*◌, ◌+◌, ◌≤◌, min, ◌-◌, leb, eqb, ltb}
use Rattle.port_tables.specs.declared.node_entry.NodeMeta.{NodeMeta}
use Rattle.port_tables.specs.Limits.{node_ports, port_slots}
use Rattle.port_tables.specs.Tables.{cut_range, cut_count, drop_events, fill_range, shift, transfer}

-- the first power of two from p on that is at least n, doubling p at most as often as said
unfoldable pub doubled : ℕ → ℕ → ℕ → ℕ
doubled zero p n = p
doubled (suc times) p n = cond (leb n p) p (doubled times (p * 2) n)

-- a total rounded up to a power of two; 1 for a total of 0
unfoldable pub round_up : ℕ → ℕ
round_up n = doubled n 1 n

-- equal counts change nothing
unfoldable pub same_counts : NodeMeta → ℕ → ℕ → Bool
same_counts m incoming outgoing = cond (eqb incoming m.incoming) (eqb outgoing m.outgoing) false

-- a total from 1 to capacity - 1 is done within the block
unfoldable pub fits_inside : NodeMeta → ℕ → ℕ → Bool
fits_inside m incoming outgoing = cond (ltb 0 (incoming + outgoing)) (ltb (incoming + outgoing) m.capacity) false

-- a block within the tables that has room for its ports
pub record BlockFits (m : NodeMeta) : Type 0 where
  pub ends : m.first_port.0 + m.capacity ≤ port_slots
  pub ports : m.incoming + m.outgoing ≤ m.capacity
  pub small : m.capacity ≤ node_ports

-- Dropped ports: the highest positions of each side, incoming ones first.

abbrev pub first_slot : NodeMeta → ℕ
first_slot m = m.first_port.0

-- the ports that stay on each side
abbrev pub kept_incoming : NodeMeta → ℕ → ℕ
kept_incoming m incoming = min m.incoming incoming

abbrev pub kept_outgoing : NodeMeta → ℕ → ℕ
kept_outgoing m outgoing = min m.outgoing outgoing

unfoldable pub drop_incoming : List ℕ → NodeMeta → ℕ → List ℕ
drop_incoming t m incoming = cut_range t (first_slot m + kept_incoming m incoming) (m.incoming - kept_incoming m incoming)

unfoldable pub drop_links : List ℕ → NodeMeta → ℕ → ℕ → List ℕ
drop_links t m incoming outgoing =
    cut_range (drop_incoming t m incoming) (first_slot m + m.incoming + kept_outgoing m outgoing) (m.outgoing - kept_outgoing m outgoing)

-- how many links that cuts
unfoldable pub drop_count : List ℕ → NodeMeta → ℕ → ℕ → ℕ
drop_count t m incoming outgoing =
    cut_count t (first_slot m + kept_incoming m incoming) (m.incoming - kept_incoming m incoming)
    + cut_count (drop_incoming t m incoming) (first_slot m + m.incoming + kept_outgoing m outgoing) (m.outgoing - kept_outgoing m outgoing)

unfoldable pub drop_told : List ℕ → NodeMeta → ℕ → ℕ → List ℕ
drop_told t m incoming outgoing =
    drop_events t (first_slot m + kept_incoming m incoming) (m.incoming - kept_incoming m incoming)
    ++ drop_events (drop_incoming t m incoming) (first_slot m + m.incoming + kept_outgoing m outgoing) (m.outgoing - kept_outgoing m outgoing)

-- Within the block.

-- the outgoing ports that stay move with the end of the incoming ones; new slots and slots no longer used hold no link
unfoldable pub inside_links : List ℕ → NodeMeta → ℕ → ℕ → List ℕ
inside_links t m incoming outgoing =
    fill_range
    (fill_range
    (fill_range
    (shift t (ltb incoming m.incoming) (first_slot m + m.incoming) (first_slot m + incoming) (kept_outgoing m outgoing))
    (first_slot m + m.incoming) (incoming - m.incoming) 0)
    (first_slot m + incoming + m.outgoing) (outgoing - m.outgoing) 0)
    (first_slot m + (incoming + outgoing)) ((m.incoming + m.outgoing) - (incoming + outgoing)) 0

-- In a new block.

-- the links of the ports that stay, incoming first, go over to the new block, whose slots hold no link at first
unfoldable pub anew_links : List ℕ → NodeMeta → ℕ → ℕ → ℕ → ℕ → List ℕ
anew_links t m incoming outgoing first size =
    transfer
    (transfer (fill_range t first size 0) (first_slot m) first (kept_incoming m incoming))
    (first_slot m + m.incoming) (first + incoming) (kept_outgoing m outgoing)
