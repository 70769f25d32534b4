-- `port_tables::tables::Shift::move_ports` meets its contract. Invariant: moving the ports that are left amounts to moving all from the start.
use mathlib.Core.Path.{◌≡◌}
use Rattle.port_tables.specs.Tables.{shift}
use Rattle.port_tables.specs.TableSteps.{shift_left}
use Rattle.port_tables.proofs.tables.Shift.move_ports.Given as goal

abbrev pub invariant-loop-k : goal.invariant-loop-k
invariant-loop-k l = shift_left l.links l.ascending l.self.from l.self.to l.self.count l.k ≡ shift l.initial.links l.ascending l.self.from l.self.to l.self.count
