-- `multiportgraph::multiportgraph::MultiPortGraph::link_directly` meets its contract: the single-link graph that is left is one of its calls.
use Rattle.multiportgraph.specs.TidySteps.{bare_wf}
use Rattle.multiportgraph.proofs.multiportgraph.MultiPortGraph.link_directly.Goals as goal

pub link_ports_lent-requires : goal.link_ports_lent-requires
link_ports_lent-requires c = bare_wf c.requires c.unsplit.ensures
