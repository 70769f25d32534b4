-- The list of all wires, and the cursor that walks it.
use Rattle.std.specs.Prelude.{Bool, true, false, cond, ℕ, zero, suc, ◌-◌, eqb, ltb, Option, Some, None}
use mathlib.Core.List.{List, [], ◌∷◌, ◌++◌, map, flat_map}
use Rattle.port_tables.specs.Limits.{node_slots, port_slots}
use Rattle.port_tables.specs.Lists.{range}
use Rattle.std.specs.List.{filter}
use Rattle.portgraph.specs.Lookups.{num_ports, contains_node}
use Rattle.port_tables.specs.declared.direction.Direction.{Direction}
use Rattle.port_tables.specs.declared.direction.Direction.TheVariants.{Incoming, Outgoing}
use Rattle.multiportgraph.specs.Reading.{port_of, is_hidden, is_split, seen, subports, end_at, link_of_end}
use Rattle.multi_tables.specs.Forms.{Port, dead, hidden, visible, subport#, wire_to}
unfoldable pub use Rattle.multiportgraph.specs.Reading.{place_of}
use Rattle.multiportgraph.specs.declared.multiportgraph.MultiPortGraph.{MultiPortGraph}
use Rattle.multi_tables.specs.declared.answers.SubportIndex.{SubportIndex}
use Rattle.multi_tables.specs.declared.answers.SubportLink.{SubportLink}
use Rattle.multiportgraph.specs.declared.iter.Wires.{Wires}
use Rattle.multi_tables.specs.declared.scans.Held.{Held}
use Rattle.port_tables.specs.Places.{Wire}

-- Listings.

-- the blocks, by ascending number
unfoldable pub is_block : MultiPortGraph → ℕ → Bool
is_block m n = cond (is_hidden m n) false (contains_node m.graph n)

unfoldable pub blocks : MultiPortGraph → List ℕ
blocks m = filter (is_block m) (range 0 node_slots)

-- the ports of a node on a side, by position
unfoldable pub ports_of_side : MultiPortGraph → Direction → ℕ → List ℕ
ports_of_side m d n = map (port_of m.graph n d) (range 0 (num_ports m.graph n d))

-- the subports of a port, by offset, unlinked ones included
unfoldable pub subports_of_port : MultiPortGraph → Direction → ℕ → List SubportIndex
subports_of_port m d p = cond (is_split m p) (map (subport# p) (range 0 (subports m p d))) (subport# p 0 ∷ [])

-- the subports of a node on a side
unfoldable pub subports_of_side : MultiPortGraph → ℕ → Direction → List SubportIndex
subports_of_side m n d = flat_map (subports_of_port m d) (ports_of_side m d n)

-- the wire at a subport, if there is one
unfoldable pub wire_of : MultiPortGraph → Direction → SubportIndex → List SubportLink
wire_of m d s = wire_to s (link_of_end m s.port.0 (end_at m s.port.0 d s.subport_offset))

-- the links of a node's side
unfoldable pub side_links : MultiPortGraph → Direction → ℕ → List SubportLink
side_links m d n = flat_map (wire_of m d) (subports_of_side m n d)

-- all wires: block after block, the links of its outgoing side
unfoldable pub all_wires : MultiPortGraph → List SubportLink
all_wires m = flat_map (side_links m Outgoing) (blocks m)

-- The cursor.

-- an item beyond a port and offset
unfoldable pub is_beyond : ℕ → ℕ → SubportLink → Bool
is_beyond p o w = cond (eqb w.from.port.0 p) (ltb o w.from.subport_offset) (ltb p w.from.port.0)

-- what a cursor holds that gave this subport, or a link from it, last
abbrev pub held_at : SubportIndex → Held
held_at s = record { port = suc s.port.0; offset = s.subport_offset }

abbrev pub first_item : List SubportLink → Option (SubportLink × Wires)
first_item [] = None
first_item (w ∷ l) = Some (w, record { held = held_at w.from })

-- what is left of the listing beyond a port of block n and an offset: the rest of that block, then later blocks
unfoldable pub wires_beyond : MultiPortGraph → ℕ → ℕ → ℕ → List SubportLink
wires_beyond m n p o =
    filter (is_beyond p o) (side_links m Outgoing n) ++ flat_map (side_links m Outgoing) (filter (ltb n) (blocks m))

-- a cursor whose port is gone or hidden ends the walk
abbrev pub wires_seen : MultiPortGraph → ℕ → ℕ → Port → Option (SubportLink × Wires)
wires_seen m p o dead = None
wires_seen m p o hidden = None
wires_seen m p o (visible n d) = first_item (wires_beyond m n p o)

unfoldable pub step_wires : MultiPortGraph → Wires → Option (SubportLink × Wires)
step_wires m c = cond (eqb c.held.port 0) (first_item (all_wires m)) (wires_seen m (c.held.port - 1) c.held.offset (seen m (c.held.port - 1)))

abbrev pub start_wires : Wires
start_wires = record { held = record { port = 0; offset = 0 } }

-- A walk from a cursor, with so many steps at the most: the items, and whether the last step answered the end.
pub record Walked : Type 0 where
  pub items : List SubportLink
  pub ended : Bool

abbrev pub walked_on : SubportLink → Walked → Walked
walked_on w r = record { items = w ∷ r.items; ended = r.ended }

abbrev pub walk_by : (Wires → Walked) → Option (SubportLink × Wires) → Walked
walk_by go None = record { items = []; ended = true }
walk_by go (Some (w, c)) = walked_on w (go c)

unfoldable pub walk_wires : MultiPortGraph → ℕ → Wires → Walked
walk_wires m zero c = record { items = []; ended = false }
walk_wires m (suc fuel) c = walk_by (walk_wires m fuel) (step_wires m c)

-- Places.

abbrev pub wire_places : MultiPortGraph → SubportLink → Wire
wire_places m w = record { out = place_of m w.from; into = place_of m w.to }

-- a port slot starts at most as many wires as there are places in the tables, so a walk of so many steps ends
abbrev pub long_walk : ℕ
long_walk = suc port_slots

-- the wires, walked from the start by the cursor, as places
unfoldable pub walked : MultiPortGraph → Walked
walked m = walk_wires m long_walk start_wires

unfoldable pub wires_walked : MultiPortGraph → List Wire
wires_walked m = map (wire_places m) (walked m).items

-- A node's ports as walked.

abbrev pub is_first : SubportIndex → Bool
is_first s = eqb s.subport_offset 0

-- a node's ports as walked: the walk over its subports, each port once
unfoldable pub ports_walked : MultiPortGraph → ℕ → List ℕ
ports_walked m n =
    map (λ (s : SubportIndex). s.port.0)
    (filter is_first (subports_of_side m n Incoming ++ subports_of_side m n Outgoing))
