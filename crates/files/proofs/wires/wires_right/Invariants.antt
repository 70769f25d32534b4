-- `files::wires::wires_right` meets its contract. Invariant: the wires from one on amount to all.
use Rattle.files.specs.Layout.{units_for}
use Rattle.files.specs.WireSteps.{Wiring}
use Rattle.files.proofs.wires.wires_right.Given as goal

abbrev pub invariant-loop-i : goal.invariant-loop-i
invariant-loop-i l = Wiring l.file (units_for l.shape.blocks) l.shape.wires l.before l.i
