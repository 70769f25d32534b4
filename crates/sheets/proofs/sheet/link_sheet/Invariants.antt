-- `sheet::link_sheet`. Invariant: the entries that are left, done from here, leave what all leave from the start.
use Rattle.std.proofs.Common.{length, ◌-◌, ◌≡◌}
use Rattle.multiportgraph.specs.WellFormed.{MultiWf}
use Rattle.sheets.specs.SheetSteps.{finish}
use Rattle.sheets.proofs.sheet.link_sheet.Given as goal

abbrev pub invariant-loop-entry : goal.invariant-loop-entry
invariant-loop-entry l =
    MultiWf l.after × (finish (length l.sheet - l.entry-index) l.entry-index l.after l.sheet ≡ finish (length l.initial.sheet) 0 l.initial.after l.initial.sheet)
