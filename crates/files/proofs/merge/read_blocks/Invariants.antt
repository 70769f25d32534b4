-- `files::merge::read_blocks` meets its contract. Invariant: the numbers so far are those of the first blocks.
use Rattle.files.specs.MergeForms.{block_read}
use Rattle.files.specs.MergeSteps.{Numbered}
use Rattle.files.proofs.merge.read_blocks.Given as goal

abbrev pub invariant-loop-i : goal.invariant-loop-i
invariant-loop-i l = Numbered (block_read l.file.bytes.now) l.file.shape.blocks l.numbers l.i
