-- `Rows::marks_of` meets its contract. Invariant: the offsets of the wires so far are marked.
use native.Mathlib.Omega.{arith}
use Rattle.sketches.specs.Rows.{rows_in}
use Rattle.sketches.specs.Offsets.{no_marks, marks_turn}
use Rattle.sketches.specs.RowSteps.{row_taken}
use Rattle.sketches.proofs.tables.Rows.marks_of.Goals as goal

pub loop-row-init : goal.loop-row-init
unfolding rows_in
loop-row-init c = (omega arith, no_marks _)

pub loop-row-preserved : goal.loop-row-preserved
loop-row-preserved c = (omega arith, marks_turn _ _ _ _ _ c.loop-row.invariant.1 (row_taken c.args.self.now.rows c.args.self.now.count c.loop-row.row-index (omega arith)) c.out_end.ensures c.in_end.ensures c.mark_end.ensures c.mark_end-in-loop-row.ensures)
