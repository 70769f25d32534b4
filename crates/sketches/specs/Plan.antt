-- What a sketch holds: the release that it is made for, how many adds were accepted, the blocks, for each split port how many subports it has, and
-- the wires between places. The newest stands first in each list. Places and wires are the book's, with the name of a block for its node.
use Rattle.std.specs.Prelude.{Bool, true, false, cond, not, List, [], ◌∷◌, ℕ, suc, ◌+◌, max, eqb, leb, ltb}
use Rattle.std.specs.List.{filter}
use Rattle.port_tables.specs.Entries.{new_count}
use Rattle.port_tables.specs.declared.direction.Direction.{Direction}
use Rattle.port_tables.specs.declared.direction.Direction.TheVariants.{Incoming, Outgoing}
use Rattle.port_tables.specs.Places.{Place, Wire, Spot, spot, at_spot, any_touches, next_offset}
use Rattle.port_tables.specs.declared.release.Release.{Release}
use Rattle.port_tables.specs.declared.release.Release.TheVariants as release
use Rattle.sketches.specs.declared.sketch.SketchPort.{SketchPort}
use Rattle.sketches.specs.declared.sketch.SketchEnd.{SketchEnd}

-- A block: its name is how many adds were accepted before it.
pub record PlanBlock : Type 0 where
  pub name : ℕ
  pub incoming : ℕ
  pub outgoing : ℕ

-- A split port: its place, with the number of its subports where a place has an offset.
pub record Plan : Type 0 where
  pub release : Release
  -- adds accepted so far
  pub adds : ℕ
  pub blocks : List PlanBlock
  pub splits : List Place
  pub wires : List Wire

abbrev pub empty_plan : Release → Plan
empty_plan r = record { release = r; adds = 0; blocks = []; splits = []; wires = [] }

abbrev pub with_splits : Plan → List Place → Plan
with_splits K l = record { release = K.release; adds = K.adds; blocks = K.blocks; splits = l; wires = K.wires }

abbrev pub with_wires : Plan → List Wire → Plan
with_wires K l = record { release = K.release; adds = K.adds; blocks = K.blocks; splits = K.splits; wires = l }

-- Blocks.

unfoldable pub has_block : List PlanBlock → ℕ → Bool
has_block [] n = false
has_block (b ∷ l) n = cond (eqb b.name n) true (has_block l n)

-- how many ports a block has on a side; 0 where it is not there
unfoldable pub ports_on_side : List PlanBlock → ℕ → Direction → ℕ
ports_on_side [] n d = 0
ports_on_side (b ∷ l) n d = cond (eqb b.name n) (new_count b.incoming b.outgoing d) (ports_on_side l n d)

-- the ports of all blocks
unfoldable pub ports_in_all : List PlanBlock → ℕ
ports_in_all [] = 0
ports_in_all (b ∷ l) = b.incoming + b.outgoing + ports_in_all l

-- Ports. A port is at a spot, by the name of its block.

abbrev pub spot_named : SketchPort → Spot
spot_named x = spot x.block x.side x.position

-- it is there: its block has that position on that side
unfoldable pub is_there : Plan → SketchPort → Bool
is_there K x = ltb x.position (ports_on_side K.blocks x.block x.side)

-- how many subports a port has; 0 where it is not split
unfoldable pub subports_among : List Place → Spot → ℕ
subports_among [] s = 0
subports_among (x ∷ l) s = cond (at_spot s x) x.offset (subports_among l s)

abbrev pub subports_of : Plan → SketchPort → ℕ
subports_of K x = subports_among K.splits (spot_named x)

-- with another number of subports, where it is another; 0 is that of an unsplit port
abbrev pub set_subports : Plan → SketchPort → ℕ → Plan
set_subports K x c =
    cond (eqb (subports_of K x) c) K
    (with_splits K
    (cond (eqb c 0) (filter (λ s. not (at_spot (spot_named x) s)) K.splits)
    (record { node = x.block; side = x.side; pos = x.position; offset = c } ∷ filter (λ s. not (at_spot (spot_named x) s)) K.splits)))

-- Ends.

-- an offset as read: 0 on a port that is not split
abbrev pub offset_read : Plan → SketchPort → ℕ → ℕ
offset_read K x o = cond (eqb (subports_of K x) 0) 0 o

-- a port is split and has no such offset
abbrev pub lacks_offset : Plan → SketchPort → ℕ → Bool
lacks_offset K x o = cond (eqb (subports_of K x) 0) false (leb (subports_of K x) o)

abbrev pub end# : SketchPort → ℕ → SketchEnd
end# x o = record { port = x; offset = o }

abbrev pub port_at : Place → SketchPort
port_at x = record { block = x.node; side = x.side; position = x.pos }

abbrev pub end_at_place : Place → SketchEnd
end_at_place x = end# (port_at x) x.offset

abbrev pub place_named : SketchPort → ℕ → Place
place_named x o = record { node = x.block; side = x.side; pos = x.position; offset = o }

-- Wires.

-- an input that is there already has a wire
abbrev pub wired_side : Plan → SketchPort → Direction → Bool
wired_side K x Incoming = cond (is_there K x) (any_touches (at_spot (spot_named x)) K.wires) false
wired_side K x Outgoing = false

abbrev pub taken_under : Release → Bool → Bool → Bool
taken_under release.One first second = false
taken_under release.Two first second = cond first true second

-- the sketch is made for release 2, and a port named by either end of a link is such an input
unfoldable pub input_taken : Plan → SketchPort → SketchPort → Bool
input_taken K x y = taken_under K.release (wired_side K x x.side) (wired_side K y y.side)

-- the far end of the first wire that has an end for which a test holds
pub data Far : Type 0 where
  nothing : Far
  far : Place → Far

unfoldable pub far_from : (Place → Bool) → List Wire → Far
far_from f [] = nothing
far_from f (w ∷ l) = cond (f w.out) (far w.into) (cond (f w.into) (far w.out) (far_from f l))

-- one more than the highest wired offset at a spot; 0 where none is wired
abbrev pub above_end : Spot → Place → ℕ → ℕ
above_end s x n = cond (at_spot s x) (max (suc x.offset) n) n

unfoldable pub above_wired : Spot → List Wire → ℕ
above_wired s [] = 0
above_wired s (w ∷ l) = above_end s w.out (above_end s w.into (above_wired s l))

-- Making an end ready: an unsplit port without a wire is the end itself; with one it becomes two subports, and offset 1 is the end; a split port
-- gives its lowest offset without a wire, or one subport more.

abbrev pub offset_ready : Plan → SketchPort → ℕ
offset_ready K x = next_offset K.wires (spot_named x)

abbrev pub subports_ready : ℕ → ℕ → ℕ
subports_ready c o = cond (eqb c 0) (cond (eqb o 0) 0 2) (max c (suc o))

unfoldable pub ready : Plan → SketchPort → Plan
ready K x = set_subports K x (subports_ready (subports_of K x) (offset_ready K x))
