-- `files::save::put_sorted` meets its contract: the numbers are sorted, then the units of kind 2.
use Rattle.files.specs.SortSteps.{sorted_is}
use Rattle.files.proofs.save.put_sorted.Goals as goal

pub returns : goal.returns
returns c = rw (sorted_is _ _ c.sort_unstable.ensures.permutation c.sort_unstable.ensures.sorted) at c.put_units.ensures.1
