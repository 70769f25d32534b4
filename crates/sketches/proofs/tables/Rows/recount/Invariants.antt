-- `Rows::recount` meets its contract. Invariant: the rows so far are changed, and what comes is as it was.
use mathlib.Core.Path.{◌≡◌}
use Rattle.sketches.specs.PlanCalls.{recount}
use Rattle.sketches.specs.RowSteps.{Changing}
use Rattle.sketches.proofs.tables.Rows.recount.Given as goal

abbrev pub invariant-loop-i : goal.invariant-loop-i
invariant-loop-i l = (l.self.count ≡ l.initial.self.count) × Changing (recount l.block.0 l.block.1 l.block.2) l.initial.self.rows l.initial.self.count l.self.rows l.i
