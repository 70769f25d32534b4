-- `files::merge::read_wires` meets its contract. Invariant: the numbers so far are those of the first wires.
use native.Mathlib.Omega.{arith}
use Rattle.files.specs.MergeSteps.{wire_stored}
use Rattle.files.proofs.merge.read_wires.Goals as goal

pub loop-i-preserved : goal.loop-i-preserved
loop-i-preserved c = wire_stored _ _ _ c.loop-i.invariant (omega arith) c.wire.ensures c.raised_number.ensures
