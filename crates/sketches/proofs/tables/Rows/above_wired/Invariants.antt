-- `Rows::above_wired` meets its contract. Invariant: one more than the highest offset of the wires so far.
use mathlib.Core.Path.{◌≡◌}
use Prim.Native.Nat.{◌≤◌}
use Rattle.sketches.specs.Plan.{spot_named, above_wired}
use Rattle.sketches.specs.Rows.{wires_in}
use Rattle.sketches.proofs.tables.Rows.above_wired.Given as goal

abbrev pub invariant-loop-row : goal.invariant-loop-row
invariant-loop-row l = (l.row-index ≤ l.self.count) × (l.above ≡ above_wired (spot_named l.port) (wires_in l.self.rows l.row-index))
