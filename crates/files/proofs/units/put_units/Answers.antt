-- `files::units::put_units` meets its contract. Invariant: laying the units that are left amounts to laying all.
use mathlib.Core.Path.{◌≡◌, ◌∙◌}
use lib.ListN.{length}
use Rattle.std.specs.Prelude.{min}
use Rattle.std.specs.Iterator.Adapters.{enumerate_source}
use Rattle.std.specs.Slice.Iter.{chunks_rest}
use Rattle.files.specs.Layout.{unit_records}
use Rattle.files.specs.UnitSteps.{unit_turn}
use Rattle.files.proofs.units.put_units.Goals as goal
use Rattle.files.proofs.units.put_units.Goals.{In-Some}

-- the part is a unit's, or all that is left
part_long : (c : In-Some) → length c.in-Some.part.now ≡ min unit_records (length (chunks_rest (enumerate_source c.loop-i.i-iterator)))
part_long c =
    let k = c.in-Some.ensures.steps in
    rw c.loop-i.invariant.0 at k.0.1.1

pub loop-i-preserved : goal.loop-i-preserved
loop-i-preserved c =
    let k = c.in-Some.ensures.steps in
    let i = c.loop-i.invariant in
    (k.0.0 ∙ i.0, unit_turn c.args.kind i.1 _ _ k.0.1.2 k.0.1.0 (part_long (goal.at.loop-i-preserved c).In-Some) k.1 k.2 c.put_unit.ensures)
