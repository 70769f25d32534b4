-- `files::ranks::wire_numbers` meets its contract. Invariant: the turns that are left amount to all.
use Rattle.files.specs.TurnSteps.{wire_turned}
use Rattle.files.proofs.ranks.wire_numbers.Goals as goal

pub loop-i-preserved : goal.loop-i-preserved
loop-i-preserved c = wire_turned _ _ c.loop-i.invariant c.in-Some.ensures.steps c.wire_number.ensures
