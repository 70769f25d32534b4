-- `multiportgraph::MultiPortGraph::remove_lent` meets its contract: a refusal.
use Rattle.port_tables.specs.TableSteps.{passed_on}
use Rattle.portgraph.specs.Numbered.{and_numbers}
use Rattle.multiportgraph.specs.Answers.{remove_numbers}
use Rattle.multiportgraph.specs.BlockSteps.{remove_refused_lem}
use Rattle.multiportgraph.proofs.multiportgraph.MultiPortGraph.remove_lent.Goals as goal

pub returns-in_err-meta : goal.returns-in_err-meta
returns-in_err-meta c =
    rw (passed_on c.from_residual.ensures.1) (and_numbers remove_numbers (remove_refused_lem c.args.self.now c.args.node.0 c.block.ensures c.in_err-meta.was))
