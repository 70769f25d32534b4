-- `multiportgraph::multiportgraph::MultiPortGraph::last_port` meets its contract: what `find` gives from the back is the last of them.
use Rattle.std.proofs.Common.{rules}
use borrow.Author.Tests.{tests}
use Rattle.multi_tables.specs.TableReads.{seen_in}
use Rattle.multiportgraph.specs.Walks.{is_seen}
use Rattle.multiportgraph.specs.WalkScans.{ports_in}
use Rattle.multiportgraph.specs.RangeSearches.{found_last}
use Rattle.multiportgraph.proofs.multiportgraph.MultiPortGraph.last_port.Goals as goal

pub returns : goal.returns
unfolding ports_in
returns c = found_last (λ p. is_seen (seen_in c.args.self.now.graph.port_meta c.args.self.now.copy_node p)) _ c.rev.ensures.source c.find.ensures.ran (λ x b q k. search (rules, tests))
