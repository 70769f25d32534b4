-- `multi_tables::wire_tables::WireTables::scan_port` meets its contract. Invariant: what is found from `offset` on is what is found from `from` on.
use mathlib.Core.Path.{◌≡◌}
use Prim.Native.Nat.{ℕ, ◌-◌}
use Rattle.multi_tables.specs.Scans.{first_found, passes_in, links_in}
use Rattle.std.specs.List.{filter}
use Rattle.multi_tables.proofs.wire_tables.WireTables.scan_port.Given as goal

abbrev pub invariant-loop-offset : goal.invariant-loop-offset
invariant-loop-offset l =
    let found = λ (o : ℕ). first_found (filter (λ w. passes_in l.self.owners.now l.self.flags.now l.only w.to.port.0) (links_in l.self.links.now l.self.owners.now l.self.flags.now l.ends.port l.ends.first o (l.ends.end - o))) in
    found l.offset ≡ found l.ends.from
