-- `multiportgraph::multiportgraph::MultiPortGraph::node_port_capacity` meets its contract: a node that is refused, and a block.
use Rattle.port_tables.specs.TableSteps.{with_numbers}
use Rattle.multiportgraph.specs.Lookups.{count_numbers}
use Rattle.multiportgraph.specs.LookupSteps.{capacity_counted}
use Rattle.multiportgraph.proofs.multiportgraph.MultiPortGraph.node_port_capacity.Goals as goal

pub returns : goal.returns
returns c = with_numbers count_numbers (capacity_counted c.args.self.now c.args.node.0 c.block.ensures c.in_ok-meta.was c.capacity.ensures)
