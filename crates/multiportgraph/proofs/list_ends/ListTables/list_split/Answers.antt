-- `multiportgraph::list_ends::ListTables::list_split` meets its contract. Invariant: writing the wires of the offsets that are left amounts to writing all.
use Rattle.multiportgraph.specs.ListScans.{subport_wire}
use Rattle.multiportgraph.specs.ListSteps.{item_laid}
use Rattle.multiportgraph.proofs.list_ends.ListTables.list_split.Goals as goal

pub loop-offset-preserved : goal.loop-offset-preserved
unfolding subport_wire
loop-offset-preserved c = item_laid c.loop-offset.invariant.0 c.loop-offset-test.true c.requires c.list_slot-next.ensures.0 c.list_slot-next.ensures.1
