-- `multiportgraph::subports::next_subport` meets its contract. Invariant: what is found from `port` and `first` on is what is found from the start on.
use mathlib.Core.Path.{◌≡◌}
use Prim.Native.Nat.{◌-◌, min}
use Rattle.port_tables.specs.Limits.{port_slots}
use Rattle.multi_tables.specs.Scans.{first_found}
use Rattle.multiportgraph.specs.WalkScans.{subports_rest}
use Rattle.multiportgraph.proofs.subports.next_subport.Given as goal

abbrev pub invariant-loop-port : goal.invariant-loop-port
invariant-loop-port l = first_found (subports_rest l.tables.marks.now l.tables.links.now l.tables.owners.now l.tables.flags.now l.port l.first (l.stop - l.port)) ≡ first_found (subports_rest l.tables.marks.now l.tables.links.now l.tables.owners.now l.tables.flags.now l.from l.offset (min l.end port_slots - l.from))
