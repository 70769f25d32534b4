-- `files::merge::read_blocks` meets its contract. Invariant: the numbers so far are those of the first blocks.
use native.Mathlib.Omega.{arith}
use Rattle.files.specs.MergeSteps.{block_stored}
use Rattle.files.proofs.merge.read_blocks.Goals as goal

pub loop-i-preserved : goal.loop-i-preserved
loop-i-preserved c = block_stored _ c.loop-i.invariant (omega arith) c.block.ensures c.block_number.ensures
