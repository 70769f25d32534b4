-- `files::check::unit_right` meets its contract: one test after the other.
use mathlib.Core.Path.{sym, ◌∙◌}
use Rattle.files.specs.CheckSteps.{unit_few, unit_of_blocks, zeros_lent}
use Rattle.files.proofs.check.unit_right.Goals as goal

pub returns-then-kind-eq1 : goal.returns-then-kind-eq1
returns-then-kind-eq1 c =
    let k = sym c.if-not-kind_right.false ∙ c.kind_right.ensures in
    let n = sym c.if-not-count_right.false ∙ c.count_right.ensures in
    let few = unit_few c.args.unit.now c.args.next _ _ c.field_at-kind.ensures c.field_at-count.ensures k n in
    unit_of_blocks c.args.unit.now c.args.next _ _ c.field_at-kind.ensures c.field_at-count.ensures k n (sym c.if-not-zeros_from.false ∙ c.zeros_from.ensures) _ c.if-kind-eq1.true
    (zeros_lent c.args.unit.now _ c.requires few c.block_zeros.ensures)
