-- `multiportgraph::list_ends::ListTables::list_side` meets its contract. Invariant: writing the wires of the ports that are left amounts to writing all.
use Rattle.multiportgraph.specs.ListScans.{place_wires}
use Rattle.multiportgraph.specs.ListSteps.{item_laid}
use Rattle.multiportgraph.proofs.list_ends.ListTables.list_side.Goals as goal

pub loop-position-preserved : goal.loop-position-preserved
unfolding place_wires
loop-position-preserved c = item_laid c.loop-position.invariant.0 c.loop-position-test.true c.requires.1 c.list_port-next.ensures.0 c.list_port-next.ensures.1
