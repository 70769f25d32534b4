-- `timing::settle::count_wires` meets its contract. Invariant: the wires that are left amount to all.
use Rattle.timing.specs.Passing.{Passing}
use Rattle.timing.specs.SettleSteps.{Counting}
use Rattle.timing.proofs.settle.count_wires.Given as goal

abbrev pub invariant-loop-wire : goal.invariant-loop-wire
invariant-loop-wire l = Passing 8 l.ends l.wire-iterator (Counting l.ends l.waits)
