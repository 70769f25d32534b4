-- `multi_tables::wire_tables::WireTables::linked_up` meets its contract. Invariant: every slot passed has the owner, the linked ones among them are counted,
-- and the rest is left to run.
use mathlib.Core.Path.{◌≡◌}
use Prim.Native.Nat.{◌+◌, ◌-◌, ◌≤◌}
use Rattle.port_tables.specs.Limits.{port_slots}
use Rattle.multi_tables.specs.TableReads.{in_row, owns_up, run_up}
use Rattle.multi_tables.specs.FanOutScans.{linked_up}
use Rattle.multi_tables.proofs.wire_tables.WireTables.linked_up.Given as goal

abbrev pub invariant-loop-k : goal.invariant-loop-k
invariant-loop-k l = (l.linked ≤ l.k) × (l.linked ≡ linked_up l.self.links.now l.from l.k) × (run_up l.self.owners.now l.owner l.from ≡ l.k + in_row (owns_up l.self.owners.now l.owner l.from) l.k (port_slots - l.k))
