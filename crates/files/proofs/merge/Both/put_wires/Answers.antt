-- `files::merge::Both::put_wires` meets its contract: the records of both as numbers, then the units of kind 2.
use mathlib.Core.Path.{ap, ◌∙◌}
use mathlib.Core.List.{map}
use borrow.Author.Rules.{rules}
use Rattle.files.specs.Layout.{units_for}
use Rattle.files.specs.Forms.{record_of}
use Rattle.files.specs.MergeForms.{wire_read}
use Rattle.files.specs.MergeSteps.{both_laid, both_taken, both_wire_records, unraised_fit, raised_fit}
use Rattle.files.proofs.merge.Both.put_wires.Goals as goal

pub read_wires-requires : goal.read_wires-requires
read_wires-requires c = let f = c.args.self.first in (unraised_fit f.bytes.now f.small (units_for f.shape.blocks) f.shape.wires, search rules)

pub read_wires-requires-2 : goal.read_wires-requires-2
read_wires-requires-2 c = let s = c.args.self in (raised_fit (both_laid s.first s.second) s.few, search rules)

pub returns : goal.returns
returns c =
    let s = c.args.self in
    let u = units_for s.first.shape.blocks in
    let v = units_for s.second.shape.blocks in
    let t =
    both_taken (wire_read s.first.bytes.now u 0) (wire_read s.second.bytes.now v s.first.shape.blocks) s.first.shape.wires s.second.shape.wires _ c.args.numbers.now c.shape-count.ensures.1 c.read_wires.ensures c.read_wires-2.ensures in
    let fit = raised_fit (both_laid s.first s.second) s.few in
    let r =
    ap (map record_of) t
    ∙ both_wire_records s.first.bytes.now s.second.bytes.now s.first.small s.second.small s.first.shape.wires s.second.shape.wires u v s.first.shape.blocks s.first.laid.wires_are s.second.laid.wires_are fit in
    rw r at c.put_units.ensures.1
