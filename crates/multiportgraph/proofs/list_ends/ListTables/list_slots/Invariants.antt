-- `multiportgraph::list_ends::ListTables::list_slots` meets its contract. Invariant: writing the blocks of the node slots that are left amounts to writing all.
use Prim.Native.Nat.{◌≤◌}
use lib.ListN.{length}
use Rattle.multiportgraph.specs.ListScans.{node_block, table_blocks, Passing}
use Rattle.multiportgraph.proofs.list_ends.ListTables.list_slots.Given as goal

abbrev pub invariant-loop-node : goal.invariant-loop-node
invariant-loop-node l =
    Passing l.initial.list (table_blocks l.self.nodes.now l.self.wires.flags.now l.self.len) l.list l.next
    (node_block l.self.nodes.now l.self.wires.flags.now) l.node l.self.len
    × (l.next ≤ length l.list)
