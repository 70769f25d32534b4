-- `files::units::put_records` meets its contract. Invariant: laying the records that are left amounts to laying all.
use mathlib.Core.Path.{refl}
use Rattle.files.specs.UnitSteps.{record_turn, records_filled}
use Rattle.files.proofs.units.put_records.Goals as goal

pub loop-i-preserved : goal.loop-i-preserved
loop-i-preserved c = record_turn c.args.records.now c.loop-i.i c.loop-i.invariant c.loop-i-test.true c.put_record.ensures

pub returns : goal.returns
returns c = records_filled c.args.records.now c.loop-i.i c.loop-i.invariant c.loop-i-test.false c.requires.1 c.requires.0 refl refl (c.fill.ensures.after (λ y e. e)) refl
