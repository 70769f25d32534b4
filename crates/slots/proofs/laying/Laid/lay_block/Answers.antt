-- `slots::laying::Laid::lay_block` meets its contract: both numbers are stored at the block's first slot.
use Rattle.slots.specs.LaySteps.{lays_one}
use Rattle.slots.proofs.laying.Laid.lay_block.Goals as goal

pub returns : goal.returns
returns c = lays_one _ _ _ _ _ _ _ _ c.wide-slot.ensures c.put.ensures c.put-2.ensures
