-- `multi_tables::reads::run_up` meets its contract: what `find` gives is where the row ends.
use Rattle.std.proofs.Common.{rules}
use borrow.Author.Tests.{tests}
use Rattle.multi_tables.specs.TableReads.{run_up, owns_up}
use Rattle.multi_tables.specs.TableReadSteps.{row_read}
use Rattle.multi_tables.proofs.reads.run_up.Goals as goal

pub returns : goal.returns
unfolding run_up owns_up
returns c = row_read _ _ _ c.unwrap_or.ensures c.find.ensures.ran (λ x b q k. search (rules, tests))
