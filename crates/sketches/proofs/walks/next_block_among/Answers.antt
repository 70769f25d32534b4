-- `next_block_among` meets its contract: what is found is a row of the table.
use native.Mathlib.Omega.{arith}
use Rattle.std.specs.Prelude.{◌<◌}
use Rattle.sketches.specs.WalkSteps.{block_within}
use Rattle.sketches.proofs.walks.next_block_among.Goals as goal
use Rattle.sketches.proofs.walks.next_block_among.Goals.{In_ok-i}

within : (c : In_ok-i) → c.in_ok-i.i < 3072
within c = block_within c.args.rows.now c.args.count c.args.walk c.newest_among.result c.min.ensures c.newest_among.ensures c.in_ok-i.was

pub offset_bounds-rows-i : goal.offset_bounds-rows-i
offset_bounds-rows-i c = let h = within c in omega arith

pub bounds-rows-i : goal.bounds-rows-i
bounds-rows-i c = within c
