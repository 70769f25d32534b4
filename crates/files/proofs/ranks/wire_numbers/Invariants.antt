-- `files::ranks::wire_numbers` meets its contract. Invariant: the turns that are left amount to all.
use Rattle.files.specs.Forms.{wires_in, wire_turn}
use Rattle.files.specs.TurnSteps.{Turning}
use Rattle.files.proofs.ranks.wire_numbers.Given as goal

abbrev pub invariant-loop-i : goal.invariant-loop-i
invariant-loop-i l = Turning 8 (wires_in l.ends) (wire_turn l.ends l.ranks) l.ends l.initial.numbers l.i-iterator l.numbers
