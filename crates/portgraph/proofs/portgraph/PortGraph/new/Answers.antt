-- `portgraph::portgraph::PortGraph::new` meets its contract: every slot is free.
use Rattle.portgraph.specs.LookupSteps.{graph_of_fresh}
use Rattle.portgraph.proofs.portgraph.PortGraph.new.Goals as goal

pub returns : goal.returns
returns c = graph_of_fresh _ c.new_free.ensures
