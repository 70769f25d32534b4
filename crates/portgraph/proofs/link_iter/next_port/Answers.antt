-- `portgraph::link_iter::next_port` meets its contract: what `find` gives is what the search finds.
use Rattle.std.proofs.Common.{rules}
use borrow.Author.Tests.{tests}
use Rattle.portgraph.specs.LinkWalkSteps.{found_where}
use Rattle.portgraph.proofs.link_iter.next_port.Goals as goal

pub returns-clause-is : goal.returns-clause-is
returns-clause-is c = found_where _ _ _ c.find.ensures.ran (λ x b q k. search (rules, tests))
