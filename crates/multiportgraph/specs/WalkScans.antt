-- What the steps of walks find, over lent tables and over the graph's listings.
use Rattle.std.specs.Prelude.{Bool, true, false, cond, List, [], ◌++◌, map, ℕ, get_or, zero, suc, ◌-◌, min, eqb, leb, Option, Some, None}
use Rattle.port_tables.specs.Limits.{node_slots, port_slots}
use Rattle.port_tables.specs.Lists.{range, on_last}
use Rattle.std.specs.List.{filter}
use Rattle.port_tables.specs.Entries.{fresh_slot, is_node}
use Rattle.port_tables.specs.declared.direction.Direction.{Direction}
use Rattle.port_tables.specs.declared.index.NodeIndex.{NodeIndex}
use Rattle.port_tables.specs.declared.sides.Sides.{Sides}
use Rattle.port_tables.specs.declared.node_entry.NodeEntry.{NodeEntry}
use Rattle.port_tables.specs.declared.node_entry.NodeSlot.{NodeSlot}
use Rattle.multi_tables.specs.Forms.{Port, dead, hidden, visible, subport#, flag_at}
use Rattle.multi_tables.specs.TableReads.{seen_in}
use Rattle.multiportgraph.specs.Wires.{side_links, held_at}
use Rattle.multiportgraph.specs.Walks.{is_seen, both_seen, by_sides, link_beyond}
use Rattle.multi_tables.specs.Scans.{span_first, span_count, passes_in, links_in, end_before}
use Rattle.multiportgraph.specs.declared.multiportgraph.MultiPortGraph.{MultiPortGraph}
use Rattle.multi_tables.specs.declared.answers.SubportIndex.{SubportIndex}
use Rattle.multi_tables.specs.declared.answers.SubportLink.{SubportLink}
use Rattle.multi_tables.specs.declared.scans.LinkFilter.{LinkFilter}
use Rattle.multi_tables.specs.declared.scans.LinkFilter.TheVariants as filters
use Rattle.multiportgraph.specs.declared.iter.Wires.{Wires}

-- the port that a cursor holds is still there
unfoldable pub held_in : List ℕ → List Bool → ℕ → Bool
held_in owners flags held = cond (eqb held 0) true (is_seen (seen_in owners flags (held - 1)))

abbrev pub wires_found : Option SubportLink → Option (SubportLink × Wires)
wires_found (Some w) = Some (w, record { held = held_at w.from })
wires_found None = None

-- the links of a block that a cursor has left, under a filter
unfoldable pub block_left : MultiPortGraph → ℕ → Sides → LinkFilter → ℕ → ℕ → List SubportLink
block_left m n sides only held o =
    cond (both_seen m n held)
    (filter (link_beyond held o) (filter (λ w. passes_in m.graph.port_meta m.copy_node only w.to.port.0) (by_sides (λ d. side_links m d n) sides)))
    []

abbrev pub self_filter : NodeIndex → Bool → LinkFilter
self_filter n flag = cond flag (filters.NotOutputOf n) filters.All

-- the last link of a list
unfoldable pub last_found : List SubportLink → Option SubportLink
last_found l = on_last None Some l

-- the links of a port strictly between the offsets given from the front and from the back
unfoldable pub left_in : List Bool → List ℕ → List ℕ → List Bool → ℕ → Direction → ℕ → ℕ → List SubportLink
left_in marks links owners flags p d front back =
    links_in links owners flags p (span_first marks links owners p d) front (end_before back (span_count marks links owners p d) - front)

-- a node slot holds a block
abbrev pub block_slot : NodeEntry → Bool → Bool
block_slot e h = cond h false (is_node e)

-- a node slot of lent tables holds a block
abbrev pub block_in : List NodeSlot → List Bool → ℕ → Bool
block_in slots flags n = block_slot (get_or slots n fresh_slot).entry (flag_at flags node_slots n)

-- the ports of blocks, from one slot on and below another
unfoldable pub ports_in : List ℕ → List Bool → ℕ → ℕ → List ℕ
ports_in owners flags from end = filter (λ p. is_seen (seen_in owners flags p)) (range from (end - from))

-- Subports.

-- the port of a subport that was found, or a given number
abbrev pub subport_port : ℕ → Option SubportIndex → ℕ
subport_port p (Some s) = s.port.0
subport_port p None = p

abbrev pub port_subports_by : List Bool → List ℕ → List ℕ → ℕ → ℕ → Port → List SubportIndex
port_subports_by marks links owners p o dead = []
port_subports_by marks links owners p o hidden = []
port_subports_by marks links owners p o (visible n d) = map (subport# p) (range o (span_count marks links owners p d - o))

-- the subports of a port from an offset on
unfoldable pub port_subports_in : List Bool → List ℕ → List ℕ → List Bool → ℕ → ℕ → List SubportIndex
port_subports_in marks links owners flags p o = port_subports_by marks links owners p o (seen_in owners flags p)

-- the subports of so many ports from p on, those of p from an offset on
unfoldable pub subports_rest : List Bool → List ℕ → List ℕ → List Bool → ℕ → ℕ → ℕ → List SubportIndex
subports_rest marks links owners flags p o zero = []
subports_rest marks links owners flags p o (suc c) =
    port_subports_in marks links owners flags p o ++ subports_rest marks links owners flags (suc p) 0 c

-- the subports of the ports from `from` on and below `end` that lie beyond what a cursor holds
unfoldable pub subports_beyond : List Bool → List ℕ → List ℕ → List Bool → ℕ → ℕ → ℕ → ℕ → List SubportIndex
subports_beyond marks links owners flags from end held o =
    cond (leb held from)
    (subports_rest marks links owners flags from 0 (min end port_slots - from))
    (subports_rest marks links owners flags (held - 1) (suc o) (min end port_slots - (held - 1)))
