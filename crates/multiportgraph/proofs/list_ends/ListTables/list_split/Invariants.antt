-- `multiportgraph::list_ends::ListTables::list_split` meets its contract. Invariant: writing the wires of the offsets that are left amounts to writing all.
use Prim.Native.Nat.{◌≤◌}
use lib.ListN.{length}
use Rattle.multiportgraph.specs.ListScans.{subport_wire, split_wires, Passing}
use Rattle.multiportgraph.proofs.list_ends.ListTables.list_split.Given as goal

abbrev pub invariant-loop-offset : goal.invariant-loop-offset
invariant-loop-offset l =
    Passing l.initial.list (split_wires l.self.nodes.now l.self.wires.links.now l.self.wires.owners.now l.self.wires.flags.now l.port.port l.port.node l.port.position l.fn.copy) l.list l.next
    (subport_wire l.self.nodes.now l.self.wires.links.now l.self.wires.owners.now l.self.wires.flags.now l.port.port l.port.node l.port.position l.first) l.offset l.count
    × (l.next ≤ length l.list)
