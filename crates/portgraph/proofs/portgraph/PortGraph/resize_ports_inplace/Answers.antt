-- `portgraph::PortGraph::resize_ports_inplace` meets its contract: the count of ports is far from wrapping.
use native.Mathlib.Omega.{arith}
use Rattle.portgraph.specs.WfFacts.{port_count_fits}
use Rattle.portgraph.proofs.portgraph.PortGraph.resize_ports_inplace.Goals as goal

pub overflow_add-self : goal.overflow_add-self
overflow_add-self c = omega (arith, c.requires, port_count_fits _ c.requires.0)
