-- `files::merge::read_wires` meets its contract. Invariant: the numbers so far are those of the first wires.
use Rattle.files.specs.Layout.{units_for}
use Rattle.files.specs.MergeForms.{wire_read}
use Rattle.files.specs.MergeSteps.{Numbered}
use Rattle.files.proofs.merge.read_wires.Given as goal

abbrev pub invariant-loop-i : goal.invariant-loop-i
invariant-loop-i l = Numbered (wire_read l.file.bytes.now (units_for l.file.shape.blocks) l.raise) l.file.shape.wires l.numbers l.i
