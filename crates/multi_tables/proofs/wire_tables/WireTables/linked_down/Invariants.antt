-- `multi_tables::wire_tables::WireTables::linked_down` meets its contract. Invariant: every slot passed has the owner, the linked ones among them are counted,
-- and the rest is left to run.
use mathlib.Core.Path.{◌≡◌}
use Prim.Native.Nat.{◌+◌, ◌-◌, ◌≤◌}
use Rattle.multi_tables.specs.TableReads.{in_row, owns_down, run_down}
use Rattle.multi_tables.specs.FanOutScans.{linked_down}
use Rattle.multi_tables.proofs.wire_tables.WireTables.linked_down.Given as goal

abbrev pub invariant-loop-k : goal.invariant-loop-k
invariant-loop-k l = (l.linked ≤ l.k) × (l.linked ≡ linked_down l.self.links.now l.from l.k)
    × (run_down l.self.owners.now l.owner l.from ≡ l.k + in_row (owns_down l.self.owners.now l.owner l.from) l.k (l.most - l.k))
