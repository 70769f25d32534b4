-- `files::merge::Both::put` meets its contract: the units of the blocks, and behind them those of the wires.
use native.Mathlib.Omega.{arith}
use Rattle.files.specs.Layout.{file_length}
use Rattle.files.specs.MergeSteps.{both_laid, result_length, both_put}
use Rattle.files.proofs.merge.Both.put.Goals as goal

pub put_blocks-at-requires : goal.put_blocks-at-requires
unfolding file_length
put_blocks-at-requires c =
    let s = c.args.self in
    let e = result_length (both_laid s.first s.second) in
    let n = s.few.one in
    let k = s.few.two in
    (omega arith, omega arith)

pub returns : goal.returns
returns c = both_put (both_laid c.args.self.first c.args.self.second) _ _ _ _ c.put_blocks-at.ensures.0 c.put_blocks-at.ensures.1 c.put_wires.ensures
