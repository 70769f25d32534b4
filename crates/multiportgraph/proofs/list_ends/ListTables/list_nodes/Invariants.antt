-- `multiportgraph::list_ends::ListTables::list_nodes` meets its contract. Invariant: writing the wires of the node slots that are left amounts to writing all.
use Prim.Native.Nat.{◌≤◌}
use lib.ListN.{length}
use Rattle.multiportgraph.specs.ListScans.{node_wires, table_wires, Passing}
use Rattle.multiportgraph.proofs.list_ends.ListTables.list_nodes.Given as goal

abbrev pub invariant-loop-node : goal.invariant-loop-node
invariant-loop-node l =
    Passing l.initial.list (table_wires l.self.nodes.now l.self.wires.links.now l.self.wires.owners.now l.self.wires.marks.now l.self.wires.flags.now l.self.len) l.list l.next
    (node_wires l.self.nodes.now l.self.wires.links.now l.self.wires.owners.now l.self.wires.marks.now l.self.wires.flags.now) l.node l.self.len
    × (l.next ≤ length l.list)
