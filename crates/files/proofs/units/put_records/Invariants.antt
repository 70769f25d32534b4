-- `files::units::put_records` meets its contract. Invariant: laying the records that are left amounts to laying all.
use Prim.Native.Nat.{◌+◌, ◌*◌}
use lib.ListN.{drop}
use Rattle.multiportgraph.specs.ListScans.{Writing}
use Rattle.files.specs.UnitSteps.{bytes_of_records}
use Rattle.files.proofs.units.put_records.Given as goal

abbrev pub invariant-loop-i : goal.invariant-loop-i
invariant-loop-i l = Writing l.initial.bytes l.at (bytes_of_records l.records) l.bytes (l.at + 8 * l.i) (bytes_of_records (drop l.i l.records))
