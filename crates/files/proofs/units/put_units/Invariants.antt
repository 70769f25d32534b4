-- `files::units::put_units` meets its contract. Invariant: laying the units that are left amounts to laying all.
use mathlib.Core.Path.{◌≡◌}
use Prim.Native.Nat.{◌+◌, ◌*◌}
use Rattle.std.specs.Iterator.Adapters.{enumerate_source, enumerate_count}
use Rattle.std.specs.Slice.Iter.{chunks_rest, chunks_size}
use Rattle.files.specs.UnitSteps.{Laying}
use Rattle.files.proofs.units.put_units.Given as goal

abbrev pub invariant-loop-i : goal.invariant-loop-i
invariant-loop-i l =
    (chunks_size (enumerate_source l.i-iterator) ≡ 63)
    × Laying l.kind l.records (chunks_rest (enumerate_source l.i-iterator)) l.initial.bytes l.bytes l.at (l.at + 512 * enumerate_count l.i-iterator)
