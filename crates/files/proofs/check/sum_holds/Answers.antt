-- `files::check::sum_holds` meets its contract: the sum is read and reckoned.
use native.Mathlib.Omega.{arith}
use lib.Seq.{length-take-le}
use Rattle.files.proofs.check.sum_holds.Goals as goal

pub slice_bounds-sum_words-end : goal.slice_bounds-sum_words-end
slice_bounds-sum_words-end c = let n = length-take-le 508 c.args.unit.now (omega arith) in omega arith
