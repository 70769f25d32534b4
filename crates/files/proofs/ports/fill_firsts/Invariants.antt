-- `files::ports::fill_firsts` meets its contract. Invariant: the first ports of the blocks so far.
use Rattle.files.specs.BuildSteps.{Filling}
use Rattle.files.proofs.ports.fill_firsts.Given as goal

abbrev pub invariant-loop-i : goal.invariant-loop-i
invariant-loop-i l = Filling l.file.bytes.now l.file.shape.blocks l.firsts l.next l.i
