-- `multiportgraph::list_ends::ListTables::list_side` meets its contract. Invariant: writing the wires of the ports that are left amounts to writing all.
use Prim.Native.Nat.{◌≤◌}
use lib.ListN.{length}
use Rattle.multiportgraph.specs.ListScans.{place_wires, side_wires, Passing}
use Rattle.multiportgraph.proofs.list_ends.ListTables.list_side.Given as goal

abbrev pub invariant-loop-position : goal.invariant-loop-position
invariant-loop-position l =
    Passing l.initial.list (side_wires l.self.nodes.now l.self.wires.links.now l.self.wires.owners.now l.self.wires.marks.now l.self.wires.flags.now l.node l.fn.meta) l.list l.next
    (place_wires l.self.nodes.now l.self.wires.links.now l.self.wires.owners.now l.self.wires.marks.now l.self.wires.flags.now l.node l.first) l.position l.count
    × (l.next ≤ length l.list)
