-- What a step of each walk gives.
use Rattle.std.specs.Prelude.{◌≡◌, Bool, cond, List, eqb, leb, ltb, Option, Some, None, Result, Ok, Err}
use Prim.Native.Nat.{ℕ, zero, suc, ◌-◌, ◌≤◌, min}
use Rattle.port_tables.specs.Places.{Wire}
use Rattle.port_tables.specs.declared.direction.Direction.{Direction}
use Rattle.sketches.specs.Plan.{Plan, ports_on_side, subports_of, end#, end_at_place}
use Rattle.sketches.specs.PlanLists.{port_on}
use Rattle.sketches.specs.PlanWf.{most_subports}
use Rattle.sketches.specs.Rows.{row_at, wire_of, hits, newest_hit, oldest_hit}
use Rattle.sketches.specs.declared.rows.Row.{Row}
use Rattle.sketches.specs.declared.tests.Test.{Test}
use Rattle.sketches.specs.declared.tests.Walk.{Walk}
use Rattle.sketches.specs.declared.walks.SketchWire.{SketchWire}
use Rattle.sketches.specs.declared.walks.SubportWalk.{SubportWalk}
use Rattle.sketches.specs.declared.sketch.SketchPort.{SketchPort}
use Rattle.sketches.specs.declared.sketch.Reason.{Reason}
use Rattle.sketches.specs.declared.sketch.SketchEnd.{SketchEnd}

-- Starts.

abbrev pub whole_walk : ℕ → Test → Walk
whole_walk n x = record { low = 0; high = n; test = x }

abbrev pub start_of : {A : Type 0} → Bool → Reason → A → Result A Reason
start_of b r w = cond b (Ok w) (Err r)

-- the subports of a block's side, from the first port on
abbrev pub subports_from : ℕ → Direction → SubportWalk
subports_from n d = record { port = port_on n d 0; offset = 0 }

-- Wires.

-- a wire as it is given
abbrev pub wire_held : Wire → SketchWire
wire_held w = record { out = end_at_place w.out; into = end_at_place w.into }

-- the walk goes on below the row that was found
abbrev pub wire_below : List Row → Walk → ℕ → Option (SketchWire × Walk)
wire_below t w zero = None
wire_below t w (suc k) = Some (wire_held (wire_of (row_at t k)), record { low = w.low; high = k; test = w.test })

-- or above it
abbrev pub wire_above : List Row → Walk → ℕ → Option (SketchWire × Walk)
wire_above t w zero = None
wire_above t w (suc k) = Some (wire_held (wire_of (row_at t k)), record { low = suc k; high = w.high; test = w.test })

unfoldable pub next_wire : List Row → ℕ → Walk → Option (SketchWire × Walk)
next_wire t n w = wire_below t w (newest_hit (hits w.test) t w.low (min w.high n))

unfoldable pub previous_wire : List Row → ℕ → Walk → Option (SketchWire × Walk)
previous_wire t n w = wire_above t w (oldest_hit (hits w.test) t w.low (min w.high n - w.low))

-- Blocks.

abbrev pub block_below : List Row → Walk → ℕ → Option (ℕ × Walk)
block_below t w zero = None
block_below t w (suc k) = Some ((row_at t k).0, record { low = w.low; high = k; test = w.test })

unfoldable pub next_block : List Row → ℕ → Walk → Option (ℕ × Walk)
next_block t n w = block_below t w (newest_hit (hits w.test) t w.low (min w.high (min n 3072)))

-- Subports.

-- how many offsets a port has
abbrev pub offset_count : ℕ → ℕ
offset_count c = cond (eqb c 0) 1 c

pub record Knows (K : Plan) (x : SketchPort) (n : ℕ) : Type 0 where
  pub count : n ≡ offset_count (subports_of K x)
  pub within : n ≤ most_subports

unfoldable pub next_subport : Plan → SubportWalk → Option (SketchEnd × SubportWalk)
next_subport K w =
    cond (leb (ports_on_side K.blocks w.port.block w.port.side) w.port.position) None
    (cond (ltb w.offset (offset_count (subports_of K w.port))) (Some (end# w.port w.offset, record { port = w.port; offset = suc w.offset }))
    (cond (leb (ports_on_side K.blocks w.port.block w.port.side) (suc w.port.position)) None
    (Some (end# (port_on w.port.block w.port.side (suc w.port.position)) 0, record { port = port_on w.port.block w.port.side (suc w.port.position); offset = 1 }))))
