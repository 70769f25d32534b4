-- `port_tables::tables::cut_range` meets its contract. Invariant: cutting the ports that are left amounts to cutting all from the start, in the links
-- and in their number.
use mathlib.Core.Path.{◌≡◌}
use Prim.Native.Nat.{◌+◌, ◌-◌, ◌≤◌}
use Rattle.port_tables.specs.Tables.{cut_range, cut_count}
use Rattle.port_tables.proofs.tables.cut_range.Given as goal

abbrev pub invariant-loop-k : goal.invariant-loop-k
invariant-loop-k l = (l.n ≤ l.k) × (cut_range l.links (l.first + l.k) (l.count - l.k) ≡ cut_range l.initial.links l.first l.count)
    × (l.n + cut_count l.links (l.first + l.k) (l.count - l.k) ≡ cut_count l.initial.links l.first l.count)
