-- `files::save::put_blocks` meets its contract: the records as numbers, then the units of kind 1.
use native.Mathlib.Omega.{arith}
use mathlib.Core.Path.{◌≡◌, ap, ◌∙◌}
use mathlib.Core.List.{List, map}
use Prim.Native.Nat.{ℕ}
use lib.ListN.{length, take}
use lib.Seq.{length-take-le}
use Rattle.files.specs.Layout.{units_for}
use Rattle.files.specs.Forms.{record_of, blocks_in}
use Rattle.files.specs.SaveSteps.{block_records}
use Rattle.files.proofs.save.put_blocks.Goals as goal
use Rattle.files.proofs.save.put_blocks.Goals.{After-slice_known-3-1}

-- as many numbers are lent as there are blocks
many : (c : After-slice_known-3-1) → length (take (blocks_in c.args.listed.now) c.block_numbers.new.numbers) ≡ blocks_in c.args.listed.now
many c = length-take-le (blocks_in c.args.listed.now) c.block_numbers.new.numbers (omega (arith, c.numbers-1.given, c.requires.0))

pub returns : goal.returns
returns c =
    let e = ap units_for (many (goal.at.returns c).After-slice_known-3-1) in
    let n = blocks_in c.args.listed.now in
    let r = ap (λ (l : List ℕ). map record_of (take n l)) c.block_numbers.ensures ∙ block_records c.args.listed.now c.args.numbers.now c.requires.0 c.requires.1 in
    (omega (arith, c.put_units.ensures.0, e), rw r at c.put_units.ensures.1)
