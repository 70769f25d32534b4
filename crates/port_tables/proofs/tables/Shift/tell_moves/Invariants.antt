-- `port_tables::tables::Shift::tell_moves` meets its contract. Invariant: telling the ports that are left amounts to telling all from the start.
use mathlib.Core.Path.{◌≡◌}
use Prim.Native.Nat.{◌+◌, ◌*◌}
use lib.Seq.{sets}
use Rattle.port_tables.specs.Tables.{shift_events}
use Rattle.port_tables.specs.TableSteps.{shift_events_left}
use Rattle.port_tables.proofs.tables.Shift.tell_moves.Given as goal

abbrev pub invariant-loop-k : goal.invariant-loop-k
invariant-loop-k l =
    sets l.moves (3 * (l.event + l.k)) (shift_events_left l.ascending l.self.from l.self.to l.self.count l.k)
    ≡ sets l.initial.moves (3 * l.event) (shift_events l.ascending l.self.from l.self.to l.self.count)
