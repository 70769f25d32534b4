-- `multiportgraph::list_ends::ListTables::list_nodes` meets its contract. Invariant: writing the wires of the node slots that are left amounts to writing all.
use Rattle.multiportgraph.specs.ListSteps.{item_laid}
use Rattle.multiportgraph.proofs.list_ends.ListTables.list_nodes.Goals as goal

pub loop-node-preserved : goal.loop-node-preserved
loop-node-preserved c = item_laid c.loop-node.invariant.0 c.loop-node-test.true c.requires.2 c.list_node-next.ensures.0 c.list_node-next.ensures.1
