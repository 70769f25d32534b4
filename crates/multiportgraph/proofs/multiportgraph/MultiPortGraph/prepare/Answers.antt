-- `multiportgraph::multiportgraph::MultiPortGraph::prepare` meets its contract: what a need says of the port.
use Rattle.multiportgraph.specs.NeedLaws.{grow_for, split_for}
use Rattle.multiportgraph.proofs.multiportgraph.MultiPortGraph.prepare.Goals as goal

pub grow-requires : goal.grow-requires
grow-requires c = grow_for c.requires.0 c.requires.1 c.in-Grow.is

pub split-requires : goal.split-requires
split-requires c = split_for c.requires.0 c.requires.1 c.in-Split.is
