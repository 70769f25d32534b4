-- `Rows::drop_where` meets its contract. Invariant: the kept rows so far stand first, and what comes is as it was.
use Rattle.sketches.specs.Rows.{missed}
use Rattle.sketches.specs.RowSteps.{Closing}
use Rattle.sketches.proofs.tables.Rows.drop_where.Given as goal

abbrev pub invariant-loop-i : goal.invariant-loop-i
invariant-loop-i l = Closing (missed l.test) l.initial.self.rows l.initial.self.count l.self.rows l.kept l.i
