-- `files::ranks::fill_ranks` meets its contract. Invariant: the turns that are left amount to all.
use Rattle.files.specs.TurnSteps.{rank_turned}
use Rattle.files.proofs.ranks.fill_ranks.Goals as goal

pub loop-i-preserved : goal.loop-i-preserved
loop-i-preserved c = rank_turned _ c.loop-i.invariant c.in-Some.ensures.steps c.store.ensures
