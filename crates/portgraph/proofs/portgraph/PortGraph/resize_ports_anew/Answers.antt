-- `portgraph::PortGraph::resize_ports_anew` meets its contract: the incoming ports that stay lie in the block that was found.
use native.Mathlib.Omega.{arith}
use Rattle.portgraph.specs.ResizeSteps.{room_found}
use Rattle.portgraph.proofs.portgraph.PortGraph.resize_ports_anew.Goals as goal

pub tell_moves-requires : goal.tell_moves-requires
tell_moves-requires c = grind (arith, room_found)
