-- `Sketch::link_sheet` meets its contract. Invariant: the entries so far have their answers, and those that are left, on the sketch as it is, amount to the whole.
use Rattle.sketches.specs.Held.{plan_of}
use Rattle.sketches.specs.SheetSteps.{Sheeting}
use Rattle.sketches.proofs.totals.Sketch.link_sheet.Given as goal

abbrev pub invariant-loop-entry : goal.invariant-loop-entry
invariant-loop-entry l = Sheeting (plan_of l.initial.self) l.initial.entries l.self l.entries l.entry-index
