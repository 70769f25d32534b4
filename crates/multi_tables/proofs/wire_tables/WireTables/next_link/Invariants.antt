-- `multi_tables::wire_tables::WireTables::next_link` meets its contract. Invariant: what is found from `port` and `first` on is what is found from the start on.
use mathlib.Core.Path.{◌≡◌}
use Prim.Native.Nat.{ℕ, ◌-◌, min}
use Rattle.port_tables.specs.Limits.{port_slots}
use Rattle.std.specs.List.{filter}
use Rattle.multi_tables.specs.Scans.{first_found, passes_in, links_rest}
use Rattle.multi_tables.proofs.wire_tables.WireTables.next_link.Given as goal

abbrev pub invariant-loop-port : goal.invariant-loop-port
invariant-loop-port l =
    let found = λ (p o stop : ℕ). first_found (filter (λ w. passes_in l.self.owners.now l.self.flags.now l.only w.to.port.0) (links_rest l.self.marks.now l.self.links.now l.self.owners.now l.self.flags.now p o (stop - p))) in
    found l.port l.first l.stop ≡ found l.from l.offset (min l.end port_slots)
