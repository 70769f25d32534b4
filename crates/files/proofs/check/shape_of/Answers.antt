-- `files::check::shape_of` meets its contract. Invariant: the units behind those that are left are right, and have the counts so far.
use native.Mathlib.Omega.{arith}
use mathlib.Core.Path.{sym, ◌∙◌}
use Rattle.files.specs.CheckSteps.{shape_broken, shape_ends}
use Rattle.files.proofs.check.shape_of.Goals as goal

pub returns-then-not-unit_right : goal.returns-then-not-unit_right
returns-then-not-unit_right c =
    let k = c.in-Some.ensures.steps in
    let i = c.loop-unit.invariant in
    shape_broken i.1 _ _ k.2.0 (k.2.1 ∙ i.0) (sym c.if-not-unit_right.true ∙ c.unit_right.ensures)

pub returns : goal.returns
returns c =
    let k = c.in-None.ensures.steps in
    let i = c.loop-unit.invariant in
    shape_ends i.1 (omega (arith, k.2.0, i.0))
