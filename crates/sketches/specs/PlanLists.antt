-- What each walk lists, the counts and the fan-outs. Wires are listed as wires; a program prints the end that a walk is about first.
use Rattle.std.specs.Prelude.{Bool, false, cond, not, ℕ, zero, suc, eqb, length, Result, Ok, Err}
use mathlib.Core.List.{List, [], ◌∷◌, map, flat_map}
use Rattle.port_tables.specs.Lists.{range}
use Rattle.std.specs.List.{filter}
use Rattle.port_tables.specs.Entries.{same_side}
use Rattle.port_tables.specs.declared.direction.Direction.{Direction}
use Rattle.port_tables.specs.declared.direction.Direction.TheVariants.{Outgoing}
use Rattle.port_tables.specs.Places.{Place, Wire, at_spot, touches, end_on, far_from}
use Rattle.sketches.specs.Plan.{Plan, has_block, ports_on_side, ports_in_all, spot_named, is_there, subports_of, end#}
use Rattle.sketches.specs.declared.sketch.SketchPort.{SketchPort}
use Rattle.sketches.specs.declared.sketch.SketchEnd.{SketchEnd}
use Rattle.sketches.specs.declared.sketch.Reason.TheVariants.{UnknownBlock, UnknownPort}
use Rattle.sketches.specs.declared.sketch.Reason.{Reason}

-- Wires.

-- at a port
abbrev pub links_of_port : Plan → SketchPort → List Wire
links_of_port K x = filter (touches (at_spot (spot_named x))) K.wires

-- of a block, on a side
abbrev pub links_of_side : Plan → ℕ → Direction → List Wire
links_of_side K n d = filter (λ w. eqb (end_on d w).node n) K.wires

-- the far blocks of these, one for each wire; with the flag, without those whose far end is on the block's own outgoing side
abbrev pub is_own_output : ℕ → Bool → Place → Bool
is_own_output n flag x = cond flag (cond (eqb x.node n) (same_side x.side Outgoing) false) false

abbrev pub neighbours_of_side : Plan → ℕ → Direction → Bool → List ℕ
neighbours_of_side K n d flag = map (λ w. (far_from d w).node) (filter (λ w. not (is_own_output n flag (far_from d w))) (links_of_side K n d))

-- from one block to another
abbrev pub connections : Plan → ℕ → ℕ → List Wire
connections K n k = filter (λ w. eqb w.into.node k) (links_of_side K n Outgoing)

-- Blocks and subports.

abbrev pub block_names : Plan → List ℕ
block_names K = map (λ b. b.name) K.blocks

-- the subports of a port: every offset, unlinked ones included; an unsplit port is its offset 0
abbrev pub offsets_of : ℕ → List ℕ
offsets_of zero = 0 ∷ []
offsets_of (suc c) = range 0 (suc c)

abbrev pub port_on : ℕ → Direction → ℕ → SketchPort
port_on n d i = record { block = n; side = d; position = i }

abbrev pub subports_of_side : Plan → ℕ → Direction → List SketchEnd
subports_of_side K n d =
    flat_map (λ i. map (end# (port_on n d i)) (offsets_of (subports_of K (port_on n d i)))) (range 0 (ports_on_side K.blocks n d))

-- Counts.

abbrev pub block_count : Plan → ℕ
block_count K = length K.blocks

abbrev pub port_count : Plan → ℕ
port_count K = ports_in_all K.blocks

abbrev pub wire_count : Plan → ℕ
wire_count K = length K.wires

-- 7: the wires at a port
unfoldable pub port_fan_out : Plan → SketchPort → Result ℕ Reason
port_fan_out K x = cond (is_there K x) (Ok (length (links_of_port K x))) (Err UnknownPort)

-- 4: the wires that leave a block
unfoldable pub block_fan_out : Plan → ℕ → Result ℕ Reason
block_fan_out K n = cond (has_block K.blocks n) (Ok (length (links_of_side K n Outgoing))) (Err UnknownBlock)
