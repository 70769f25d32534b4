-- `timing::order::name_all` meets its contract. Invariant: the numbers that are left amount to all.
use lib.ListN.{drop}
use mathlib.Core.Path.{◌≡◌}
use Rattle.timing.specs.Naming.{named}
use Rattle.timing.proofs.order.name_all.Given as goal

abbrev pub invariant-loop-i : goal.invariant-loop-i
invariant-loop-i l = named l.places l.i (drop l.i l.order) ≡ named l.initial.places 0 l.order
