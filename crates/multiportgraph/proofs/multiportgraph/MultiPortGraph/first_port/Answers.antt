-- `multiportgraph::multiportgraph::MultiPortGraph::first_port` meets its contract: what `find` gives is the first of them.
use Rattle.std.proofs.Common.{rules}
use borrow.Author.Tests.{tests}
use Rattle.multi_tables.specs.TableReads.{seen_in}
use Rattle.multiportgraph.specs.Walks.{is_seen}
use Rattle.multiportgraph.specs.WalkScans.{ports_in}
use Rattle.multiportgraph.specs.RangeSearches.{found_first}
use Rattle.multiportgraph.proofs.multiportgraph.MultiPortGraph.first_port.Goals as goal

pub returns : goal.returns
unfolding ports_in
returns c = found_first (λ p. is_seen (seen_in c.args.self.now.graph.port_meta c.args.self.now.copy_node p)) _ c.find.ensures.ran (λ x b q k. search (rules, tests))
