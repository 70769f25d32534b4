-- `multiportgraph::multiportgraph::MultiPortGraph::next_wire` meets its contract. Invariant: what is found from `n` on is what is found from `node` on.
use mathlib.Core.Path.{◌≡◌}
use Prim.Native.Nat.{◌-◌}
use Rattle.port_tables.specs.Limits.{node_slots}
use Rattle.multi_tables.specs.Scans.{first_found, wires_in}
use Rattle.multiportgraph.proofs.multiportgraph.MultiPortGraph.next_wire.Given as goal

abbrev pub invariant-loop-n : goal.invariant-loop-n
invariant-loop-n l = first_found (wires_in l.fn.self.multiport l.fn.self.graph.port_link l.fn.self.graph.port_meta l.fn.self.copy_node l.fn.self.graph.node_meta l.n l.left.port l.left.offset (node_slots - l.n)) ≡ first_found (wires_in l.fn.self.multiport l.fn.self.graph.port_link l.fn.self.graph.port_meta l.fn.self.copy_node l.fn.self.graph.node_meta l.node l.fn.held.port l.fn.held.offset (node_slots - l.node))
