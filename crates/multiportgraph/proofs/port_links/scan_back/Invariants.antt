-- `multiportgraph::port_links::scan_back` meets its contract. Invariant: the last link below `offset` is the last below `end`.
use mathlib.Core.Path.{◌≡◌}
use Prim.Native.Nat.{◌-◌}
use Rattle.multi_tables.specs.Scans.{links_in}
use Rattle.multiportgraph.specs.WalkScans.{last_found}
use Rattle.multiportgraph.proofs.port_links.scan_back.Given as goal

abbrev pub invariant-loop-offset : goal.invariant-loop-offset
invariant-loop-offset l = last_found (links_in l.tables.links.now l.tables.owners.now l.tables.flags.now l.ends.port l.ends.first l.ends.from (l.offset - l.ends.from)) ≡ last_found (links_in l.tables.links.now l.tables.owners.now l.tables.flags.now l.ends.port l.ends.first l.ends.from (l.ends.end - l.ends.from))
