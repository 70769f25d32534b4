-- `multiportgraph::multiportgraph::MultiPortGraph::new` meets its contract: the empty graph.
use Rattle.multiportgraph.specs.CallSteps.{empty_made}
use Rattle.multiportgraph.proofs.multiportgraph.MultiPortGraph.new.Goals as goal

pub returns : goal.returns
returns c = empty_made _ _ c.new.ensures
