-- `files::merge::Both::put_blocks` meets its contract: the records of both as numbers, then the units of kind 1.
use native.Mathlib.Omega.{arith}
use mathlib.Core.Path.{ap, ◌∙◌}
use mathlib.Core.List.{List, map}
use Prim.Native.Nat.{ℕ}
use lib.ListN.{length}
use Rattle.files.specs.Layout.{units_for}
use Rattle.files.specs.Forms.{record_of}
use Rattle.files.specs.MergeForms.{block_read}
use Rattle.files.specs.MergeSteps.{both_taken, both_long, both_block_records}
use Rattle.files.proofs.merge.Both.put_blocks.Goals as goal

pub returns : goal.returns
returns c =
    let s = c.args.self in
    let f = block_read s.first.bytes.now in
    let g = block_read s.second.bytes.now in
    let t = both_taken f g s.first.shape.blocks s.second.shape.blocks _ c.args.numbers.now c.shape-count.ensures.0 c.read_blocks.ensures c.read_blocks-2.ensures in
    let e = ap (λ (l : List ℕ). units_for (length l)) t ∙ ap units_for (both_long f g s.first.shape.blocks s.second.shape.blocks) in
    let r = ap (map record_of) t ∙ both_block_records s.first.bytes.now s.second.bytes.now s.first.small s.second.small s.first.shape.blocks s.second.shape.blocks s.first.laid.blocks_are s.second.laid.blocks_are in
    (omega (arith, c.put_units.ensures.0, e), rw r at c.put_units.ensures.1)
