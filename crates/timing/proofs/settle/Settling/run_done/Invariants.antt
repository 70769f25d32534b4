-- `Settling::run_done` meets its contract. Invariant: the wires in a row that are left amount to all.
use lib.ListN.{drop}
use mathlib.Core.Path.{◌≡◌}
use Rattle.timing.specs.Passing.{Passing}
use Rattle.timing.specs.Settling.{feeds_listed, run_done}
use Rattle.timing.proofs.settle.Settling.run_done.Given as goal

abbrev pub invariant-loop-wire : goal.invariant-loop-wire
invariant-loop-wire l = Passing 8 l.ends l.wire-iterator (λ i. run_done l.block l.sum (drop i (feeds_listed l.ends)) l.self ≡ run_done l.block l.sum (drop l.from (feeds_listed l.ends)) l.initial.self)
