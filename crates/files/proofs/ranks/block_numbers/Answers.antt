-- `files::ranks::block_numbers` meets its contract. Invariant: the turns that are left amount to all.
use Rattle.files.specs.TurnSteps.{block_turned}
use Rattle.files.proofs.ranks.block_numbers.Goals as goal

pub loop-i-preserved : goal.loop-i-preserved
loop-i-preserved c = block_turned _ c.loop-i.invariant c.in-Some.ensures.steps c.number.ensures
