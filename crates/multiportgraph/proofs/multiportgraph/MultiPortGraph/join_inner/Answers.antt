-- `multiportgraph::multiportgraph::MultiPortGraph::join_inner` meets its contract: so many links are counted in no graph of the calls that one more would not fit.
use Rattle.portgraph.specs.WfFacts.{link_count_fits}
use Rattle.multiportgraph.specs.CallSteps.{lower_wf}
use Rattle.multiportgraph.proofs.multiportgraph.MultiPortGraph.join_inner.Goals as goal

pub draw_link-requires : goal.draw_link-requires
draw_link-requires c = link_count_fits _ (lower_wf _ c.requires)
