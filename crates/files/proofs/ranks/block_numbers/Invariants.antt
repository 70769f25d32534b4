-- `files::ranks::block_numbers` meets its contract. Invariant: the turns that are left amount to all.
use Rattle.files.specs.Forms.{blocks_in, block_turn}
use Rattle.files.specs.TurnSteps.{Turning}
use Rattle.files.proofs.ranks.block_numbers.Given as goal

abbrev pub invariant-loop-i : goal.invariant-loop-i
invariant-loop-i l = Turning 4 (blocks_in l.listed) (block_turn l.listed) l.listed l.initial.numbers l.i-iterator l.numbers
