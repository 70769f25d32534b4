-- The links of ports as the lent tables tell them, in the order of the walks, and the first of them.
use mathlib.Core.List.{List, [], ◌∷◌, flat_map, ◌++◌}
use Rattle.std.specs.Prelude.{Bool, cond, true, ℕ, min, ◌+◌, ◌-◌, zero, suc, eqb, leb, get_or, Option, Some, None}
use Rattle.multi_tables.specs.declared.answers.SubportLink.{SubportLink}
use Rattle.port_tables.specs.Limits.{port_slots, node_slots}
use Rattle.port_tables.specs.declared.direction.Direction.{Direction}
use Rattle.multi_tables.specs.Forms.{flag_at, seen_as, subport#, wire_to, Port, dead, hidden, visible}
use Rattle.multi_tables.specs.TableReads.{first_in, subports_in, owner_in, seen_in, wire_in}
use Rattle.port_tables.specs.Entries.{same_side, ports_from, ports_to, fresh_slot}
use Rattle.port_tables.specs.declared.direction.Direction.TheVariants.{Incoming, Outgoing}
use Rattle.multi_tables.specs.declared.seen.SeenPort.{SeenPort}
use Rattle.multi_tables.specs.declared.scans.LinkFilter.{LinkFilter}
use Rattle.port_tables.specs.Lists.{range}
use Rattle.port_tables.specs.declared.sides.Sides.TheVariants.{One}
use Rattle.port_tables.specs.declared.node_entry.NodeEntry.{NodeEntry}
use Rattle.port_tables.specs.declared.node_entry.NodeSlot.{NodeSlot}
use Rattle.multi_tables.specs.declared.seen.SeenPort.TheVariants as seen_port
use Rattle.multi_tables.specs.declared.scans.LinkFilter.TheVariants as filters
use Rattle.port_tables.specs.declared.node_entry.NodeEntry.TheVariants as node_variants

unfoldable pub first_found : {A : Type 0} → List A → Option A
first_found [] = None
first_found (w ∷ l) = Some w

-- the port of a link that was found, or a given number
abbrev pub link_port : ℕ → Option SubportLink → ℕ
link_port p (Some w) = w.from.port.0
link_port p None = p

-- The ends of a port: their first slot, one slot for each offset, and how many.

unfoldable pub span_first : List Bool → List ℕ → List ℕ → ℕ → Direction → ℕ
span_first marks links owners p d = min (cond (flag_at marks port_slots p) (first_in links owners p d) p) port_slots

unfoldable pub span_count : List Bool → List ℕ → List ℕ → ℕ → Direction → ℕ
span_count marks links owners p d = cond (flag_at marks port_slots p) (subports_in links owners p d) 1

-- Filters.

abbrev pub not_own_output : ℕ → SeenPort → Bool
not_own_output n seen_port.Dead = true
not_own_output n seen_port.Hidden = true
not_own_output n (seen_port.Visible k d) = cond (eqb k.0 n) (same_side d Incoming) true

abbrev pub passes_in : List ℕ → List Bool → LinkFilter → ℕ → Bool
passes_in owners flags filters.All p = true
passes_in owners flags (filters.Skip r) p = cond (leb r.from p) (leb r.to p) true
passes_in owners flags (filters.NotOutputOf n) p = not_own_output n.0 (seen_as (seen_in owners flags p))
passes_in owners flags (filters.To n) p = eqb (owner_in owners p) n.0

-- Links.

-- so many offsets of a port from o on; its ends begin at a slot
unfoldable pub links_in : List ℕ → List ℕ → List Bool → ℕ → ℕ → ℕ → ℕ → List SubportLink
links_in links owners flags p first o count = flat_map (λ i. wire_to (subport# p i) (wire_in links owners flags (first + i))) (range o count)

abbrev pub port_links_by : List Bool → List ℕ → List ℕ → List Bool → ℕ → ℕ → Port → List SubportLink
port_links_by marks links owners flags p o dead = []
port_links_by marks links owners flags p o hidden = []
port_links_by marks links owners flags p o (visible n d) =
    links_in links owners flags p (span_first marks links owners p d) o (span_count marks links owners p d - o)

-- the links of a port from an offset on
unfoldable pub port_links_in : List Bool → List ℕ → List ℕ → List Bool → ℕ → ℕ → List SubportLink
port_links_in marks links owners flags p o = port_links_by marks links owners flags p o (seen_in owners flags p)

-- the links of so many ports from p on, those of p from an offset on
unfoldable pub links_rest : List Bool → List ℕ → List ℕ → List Bool → ℕ → ℕ → ℕ → List SubportLink
links_rest marks links owners flags p o zero = []
links_rest marks links owners flags p o (suc c) =
    port_links_in marks links owners flags p o ++ links_rest marks links owners flags (suc p) 0 c

-- the links of the ports from `from` on and below `end` that lie beyond what a cursor holds
unfoldable pub beyond_in : List Bool → List ℕ → List ℕ → List Bool → ℕ → ℕ → ℕ → ℕ → List SubportLink
beyond_in marks links owners flags from end held o =
    cond (leb held from)
    (links_rest marks links owners flags from 0 (min end port_slots - from))
    (links_rest marks links owners flags (held - 1) (suc o) (min end port_slots - (held - 1)))

-- those of the outgoing side of a node slot
abbrev pub block_links_in : List Bool → List ℕ → List ℕ → List Bool → NodeEntry → Bool → ℕ → ℕ → List SubportLink
block_links_in marks links owners flags (node_variants.Free f) h held o = []
block_links_in marks links owners flags (node_variants.Node k) h held o =
    cond h [] (beyond_in marks links owners flags (ports_from k (One Outgoing)) (ports_to k (One Outgoing)) held o)

-- those of so many node slots from n on, of n those beyond what a cursor holds
unfoldable pub wires_in : List Bool → List ℕ → List ℕ → List Bool → List NodeSlot → ℕ → ℕ → ℕ → ℕ → List SubportLink
wires_in marks links owners flags nodes n held o zero = []
wires_in marks links owners flags nodes n held o (suc c) =
    block_links_in marks links owners flags (get_or nodes n fresh_slot).entry (flag_at flags node_slots n) held o
    ++ wires_in marks links owners flags nodes (suc n) 0 0 c

-- the offset after the last one that a back end leaves of c; 0 for a back end that gave none
abbrev pub end_before : ℕ → ℕ → ℕ
end_before back c = cond (eqb back 0) c (min c (back - 1))
