-- `multiportgraph::multiportgraph::MultiPortGraph::links` meets its contract: a node that is refused, and a block.
use mathlib.Core.Path.{sym, ap, ◌∙◌}
use Rattle.multiportgraph.specs.Walks.{links_from}
use Rattle.multiportgraph.specs.WalkNumbers.{node_links_start_numbers}
use Rattle.multiportgraph.specs.LookupSteps.{start_at}
use Rattle.multiportgraph.specs.StartSteps.{passed_told}
use Rattle.multiportgraph.proofs.multiportgraph.MultiPortGraph.links.Goals as goal

pub returns-in_err-block : goal.returns-in_err-block
returns-in_err-block c = passed_told node_links_start_numbers _ c.from_residual.ensures.1 (ap (links_from c.args.node c.args.sides c.args.skip.from c.args.skip.to) (start_at c.args.self.now c.args.node.0 _ (sym c.block.ensures ∙ c.in_err-block.was)))
