-- `slots::laying::Laid::lay_nodes` meets its contract. Invariant: laying the blocks of the nodes that are left on what is laid amounts to laying
-- all.
use Rattle.port_tables.specs.Limits.{node_slots}
use Rattle.slots.specs.LaySteps.{held_begun, range_turn}
use Rattle.slots.proofs.laying.Laid.lay_nodes.Goals as goal

pub loop-n-init : goal.loop-n-init
loop-n-init c = held_begun _ _ _

pub loop-n-preserved : goal.loop-n-preserved
loop-n-preserved c = range_turn _ c.loop-n.n node_slots c.loop-n.invariant c.loop-n-test.true c.lay_node.ensures
