-- `Settling::settle` meets its contract. Invariant: the blocks that are left amount to all, and sums are small. Measure: the slots that are left.
use Prim.Native.Nat.{◌-◌, ◌≤◌}
use mathlib.Core.Path.{◌≡◌}
use Rattle.port_tables.specs.Limits.{node_slots}
use Rattle.timing.specs.Settling.{feeds_listed, settle, settled, Bounded}
use Rattle.timing.proofs.settle.Settling.settle.Given as goal

abbrev pub invariant-loop-head : goal.invariant-loop-head
invariant-loop-head l = (l.head ≤ node_slots) × Bounded l.self.best l.head
    × (settle (feeds_listed l.ends) l.firsts l.times (node_slots - l.head) l.head l.self ≡ settled (feeds_listed l.ends) l.times)

abbrev pub decreases-loop-head : goal.decreases-loop-head
decreases-loop-head l = node_slots - l.head
