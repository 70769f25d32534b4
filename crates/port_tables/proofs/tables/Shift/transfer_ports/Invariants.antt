-- `port_tables::tables::Shift::transfer_ports` meets its contract. Invariant: moving the ports that are left amounts to moving all from the start.
use mathlib.Core.Path.{◌≡◌}
use Prim.Native.Nat.{◌+◌, ◌-◌}
use Rattle.port_tables.specs.Tables.{transfer}
use Rattle.port_tables.proofs.tables.Shift.transfer_ports.Given as goal

abbrev pub invariant-loop-k : goal.invariant-loop-k
invariant-loop-k l = transfer l.links (l.self.from + l.k) (l.self.to + l.k) (l.self.count - l.k) ≡ transfer l.initial.links l.self.from l.self.to l.self.count
