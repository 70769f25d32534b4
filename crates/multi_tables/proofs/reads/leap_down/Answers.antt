-- `multi_tables::reads::leap_down` meets its contract: what `find` gives is where the row ends.
use Rattle.std.proofs.Common.{rules}
use borrow.Author.Tests.{tests}
use Rattle.multi_tables.specs.TableReads.{leap_down, leaps_down}
use Rattle.multi_tables.specs.TableReadSteps.{row_read}
use Rattle.multi_tables.proofs.reads.leap_down.Goals as goal

pub returns : goal.returns
unfolding leap_down leaps_down
returns c = rw (← c.min-most.ensures) (row_read _ _ _ c.unwrap_or.ensures c.find.ensures.ran (λ x b q k. search (rules, tests)))
