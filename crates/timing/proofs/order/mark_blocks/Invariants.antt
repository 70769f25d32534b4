-- `timing::order::mark_blocks` meets its contract. Invariant: the blocks that are left amount to all.
use lib.ListN.{drop}
use mathlib.Core.Path.{◌≡◌}
use Rattle.files.specs.Forms.{nodes_of}
use Rattle.timing.specs.Naming.{marked}
use Rattle.timing.specs.Passing.{Passing}
use Rattle.timing.proofs.order.mark_blocks.Given as goal

abbrev pub invariant-loop-block : goal.invariant-loop-block
invariant-loop-block l = Passing 4 l.listed l.block-iterator (λ i. marked (drop i (nodes_of l.listed)) l.places ≡ marked (nodes_of l.listed) l.initial.places)
