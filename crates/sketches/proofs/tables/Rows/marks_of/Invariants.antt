-- `Rows::marks_of` meets its contract. Invariant: the offsets of the wires so far are marked.
use Prim.Native.Nat.{◌≤◌}
use Rattle.sketches.specs.Plan.{spot_named}
use Rattle.sketches.specs.Rows.{wires_in}
use Rattle.sketches.specs.CallParts.{Marks}
use Rattle.sketches.proofs.tables.Rows.marks_of.Given as goal

abbrev pub invariant-loop-row : goal.invariant-loop-row
invariant-loop-row l = (l.row-index ≤ l.self.count) × Marks (spot_named l.port) (wires_in l.self.rows l.row-index) l.marks
