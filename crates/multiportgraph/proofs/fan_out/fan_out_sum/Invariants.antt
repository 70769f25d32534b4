-- `multiportgraph::fan_out::fan_out_sum` meets its contract. Invariant: the sum so far and the fan-out of the ports left make the whole.
use mathlib.Core.Path.{◌≡◌}
use Prim.Native.Nat.{◌+◌, ◌-◌, ◌*◌, ◌≤◌, min}
use Rattle.port_tables.specs.Limits.{port_slots}
use Rattle.multi_tables.specs.FanOutScans.{fan_out_in}
use Rattle.multiportgraph.proofs.fan_out.fan_out_sum.Given as goal

abbrev pub invariant-loop-port : goal.invariant-loop-port
invariant-loop-port l = (l.sum ≤ port_slots * l.port) × (l.sum + fan_out_in l.tables.marks.now l.tables.links.now l.tables.owners.now l.port (l.stop - l.port) ≡ fan_out_in l.tables.marks.now l.tables.links.now l.tables.owners.now l.from (min l.end port_slots - l.from))
