-- `Sketch::link_sheet` meets its contract: too many entries, and the answer of each.
use native.Mathlib.Omega.{arith}
use Rattle.sketches.specs.SheetSteps.{sheeting_ends}
use Rattle.sketches.proofs.totals.Sketch.link_sheet.Goals as goal

pub returns : goal.returns
returns c = sheeting_ends (omega arith) c.loop-entry.invariant (omega arith)
