-- `multiportgraph::list_ends::ListTables::list_slots` meets its contract. Invariant: writing the blocks of the node slots that are left amounts to writing all.
use Rattle.multiportgraph.specs.ListSteps.{item_laid}
use Rattle.multiportgraph.proofs.list_ends.ListTables.list_slots.Goals as goal

pub loop-node-preserved : goal.loop-node-preserved
loop-node-preserved c = item_laid c.loop-node.invariant.0 c.loop-node-test.true c.requires.1 c.list_block-next.ensures.0 c.list_block-next.ensures.1
