-- `port_tables::tables::drop_ports` meets its contract. Invariant: dropping the ports that are left amounts to dropping all from the start, in the
-- links, in their number and in the events.
use mathlib.Core.Path.{◌≡◌}
use Prim.Native.Nat.{◌+◌, ◌-◌, ◌*◌, ◌≤◌}
use lib.Seq.{sets}
use Rattle.port_tables.specs.Tables.{cut_range, cut_count, drop_events}
use Rattle.port_tables.proofs.tables.drop_ports.Given as goal

abbrev pub invariant-loop-k : goal.invariant-loop-k
invariant-loop-k l = (l.n ≤ l.k) × (cut_range l.links (l.first + l.k) (l.count - l.k) ≡ cut_range l.initial.links l.first l.count)
    × (l.n + cut_count l.links (l.first + l.k) (l.count - l.k) ≡ cut_count l.initial.links l.first l.count)
    × (sets l.moves (3 * (l.event + l.k)) (drop_events l.links (l.first + l.k) (l.count - l.k)) ≡ sets l.initial.moves (3 * l.event) (drop_events l.initial.links l.first l.count))
