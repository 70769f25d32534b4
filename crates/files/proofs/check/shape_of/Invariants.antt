-- `files::check::shape_of` meets its contract. Invariant: the units behind those that are left are right, and have the counts so far.
use mathlib.Core.Path.{◌≡◌}
use Rattle.std.specs.Slice.Exact.{rchunks_exact_rest, rchunks_exact_size}
use Rattle.files.specs.CheckSteps.{Shaping}
use Rattle.files.proofs.check.shape_of.Given as goal

abbrev pub invariant-loop-unit : goal.invariant-loop-unit
invariant-loop-unit l = (rchunks_exact_size l.unit-iterator ≡ 512) × Shaping l.file (rchunks_exact_rest l.unit-iterator) l.next l.blocks l.wires
