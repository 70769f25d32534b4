-- `files::merge::merge` meets its contract: sums and layout of the first file and of the second, then the loads.
use mathlib.Core.Path.{subst}
use Rattle.files.specs.LoadForms.{Laid}
use Rattle.files.specs.MergeSteps.{second_unlaid}
use Rattle.files.proofs.merge.merge.Goals as goal

pub returns-in_err-laid-2 : goal.returns-in_err-laid-2
returns-in_err-laid-2 c =
    let one = c.in_ok-laid.field-0 in
    let laid = subst (λ b. Laid b one.shape.blocks one.shape.wires) c.in_ok-laid.ensures one.laid in
    second_unlaid c.args.first.now c.args.second.now c.args.buffer.now laid c.in_err-laid-2.ensures c.from_residual-in_err-laid-2.ensures.1
