-- `portgraph::portgraph::PortGraph::link_ports_lent` meets its contract: one link more fits.
use native.Mathlib.Omega.{arith}
use Rattle.portgraph.specs.WfFacts.{link_count_fits}
use Rattle.portgraph.proofs.portgraph.PortGraph.link_ports_lent.Goals as goal

pub draw_link-requires : goal.draw_link-requires
draw_link-requires c = let h = link_count_fits c.args.self.now c.requires in omega arith
