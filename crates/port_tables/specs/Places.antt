-- Places, the wires between them and lists of wires, with no graph in their types: what the graph, the wire book and the sketch speak of.
use Rattle.std.specs.Prelude.{Bool, false, cond, ◌||◌, true, not, List, [], ◌∷◌, ℕ, zero, suc, eqb, leb, length}
use Rattle.port_tables.specs.declared.direction.Direction.{Direction}
use Rattle.port_tables.specs.declared.direction.Direction.TheVariants.{Incoming, Outgoing}
use Rattle.port_tables.specs.Entries.{same_side, new_count}
use Rattle.std.specs.List.{filter}

-- 01's place of an end: node, side, port position on that side, subport offset
pub record Place : Type 0 where
  pub node : ℕ
  pub side : Direction
  pub pos : ℕ
  pub offset : ℕ

-- a wire between places, the outgoing one first
pub record Wire : Type 0 where
  pub out : Place
  pub into : Place

-- a wire between two ends, the outgoing one first
abbrev pub wire_of_sides : Direction → Place → Place → Wire
wire_of_sides Incoming x y = record { out = y; into = x }
wire_of_sides Outgoing x y = record { out = x; into = y }

-- where a port stands: node, side and position
pub data Spot : Type 0 where
  nowhere : Spot
  spot : ℕ → Direction → ℕ → Spot

-- an end of a wire is at a spot
unfoldable pub at_spot : Spot → Place → Bool
at_spot nowhere x = false
at_spot (spot n d i) x = cond (eqb x.node n) (cond (same_side x.side d) (eqb x.pos i) false) false

-- at a spot with an offset
unfoldable pub at_end : Spot → ℕ → Place → Bool
at_end s o x = cond (at_spot s x) (eqb x.offset o) false

-- a wire has an end for which a test holds
abbrev pub touches : (Place → Bool) → Wire → Bool
touches f w = f w.out || f w.into

-- the places of a node
abbrev pub of_node : ℕ → Place → Bool
of_node n x = eqb x.node n

-- the dropped positions of a node
abbrev pub of_dropped : ℕ → ℕ → ℕ → Place → Bool
of_dropped n incoming outgoing x = cond (eqb x.node n) (leb (new_count incoming outgoing x.side) x.pos) false

-- 1 where a test holds
abbrev pub flag : Bool → ℕ
flag true = 1
flag false = 0

-- the end of a wire on a side, and the far one
abbrev pub end_on : Direction → Wire → Place
end_on Incoming w = w.into
end_on Outgoing w = w.out

abbrev pub far_from : Direction → Wire → Place
far_from Incoming w = w.out
far_from Outgoing w = w.into

-- Lists of wires.

-- the wires with no such end
abbrev pub without : (Place → Bool) → List Wire → List Wire
without f l = filter (λ w. not (touches f w)) l

unfoldable pub any_touches : (Place → Bool) → List Wire → Bool
any_touches f [] = false
any_touches f (w ∷ l) = touches f w || any_touches f l

-- the lowest offset from o on that no wire has at a spot, looking at most so far
unfoldable pub lowest_unwired : List Wire → Spot → ℕ → ℕ → ℕ
lowest_unwired wires s o zero = o
lowest_unwired wires s o (suc n) = cond (any_touches (at_end s o) wires) (lowest_unwired wires s (suc o) n) o

-- there are at most as many wired offsets as wires
abbrev pub next_offset : List Wire → Spot → ℕ
next_offset wires s = lowest_unwired wires s 0 (length wires)
