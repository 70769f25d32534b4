-- `multiportgraph::iter::NodePorts::step` meets its contract: a port that is left lies within the tables.
use Prim.Native.Nat.{◌<◌}
use native.Mathlib.Omega.{arith}
use Rattle.port_tables.specs.Limits.{port_slots}
use Rattle.multiportgraph.specs.WalkSteps.{ports_inside}
use Rattle.multi_tables.specs.NamedEndSteps.{read_ok}
use Rattle.multiportgraph.proofs.iter.NodePorts.step.Goals as goal
use Rattle.multiportgraph.proofs.iter.NodePorts.step.Goals.{Else-ports_to-port}

room : (c : Else-ports_to-port) → c.max-port.result < port_slots
room c = ports_inside c.args.graph.now c.args.self c.requires _ (read_ok c.block.ensures c.ok.ensures.value c.in_ok-meta.was) _ _ c.ports_to.ensures c.if-ports_to-port.false

pub overflow_cast-result : goal.overflow_cast-result
overflow_cast-result c = let h = room c in omega arith

pub overflow_cast-result-2 : goal.overflow_cast-result-2
overflow_cast-result-2 c = let h = room c in omega arith

pub overflow_add-result : goal.overflow_add-result
overflow_add-result c = let h = room c in omega arith
