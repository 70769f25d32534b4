-- `files::ranks::fill_ranks` meets its contract. Invariant: the turns that are left amount to all.
use Rattle.files.specs.Forms.{blocks_in, rank_turn}
use Rattle.files.specs.TurnSteps.{Turning}
use Rattle.files.proofs.ranks.fill_ranks.Given as goal

abbrev pub invariant-loop-i : goal.invariant-loop-i
invariant-loop-i l = Turning 4 (blocks_in l.listed) (rank_turn l.listed) l.listed l.initial.ranks l.i-iterator l.ranks
