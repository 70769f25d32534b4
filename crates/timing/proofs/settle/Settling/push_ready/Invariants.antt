-- `Settling::push_ready` meets its contract. Invariant: the slots that are left amount to all.
use Prim.Native.Nat.{◌-◌}
use mathlib.Core.Path.{◌≡◌}
use Rattle.port_tables.specs.Limits.{node_slots}
use Rattle.port_tables.specs.Lists.{range}
use Rattle.timing.specs.Settling.{with_order, push_ready}
use Rattle.timing.proofs.settle.Settling.push_ready.Given as goal

abbrev pub invariant-loop-n : goal.invariant-loop-n
invariant-loop-n l = with_order l.self (push_ready l.self.waits (range l.n (node_slots - l.n)) l.self.order) ≡ with_order l.initial.self (push_ready l.initial.self.waits (range 0 node_slots) l.initial.self.order)
