-- `lines::orders::with_numbers` meets its contract. Invariant: the words so far are as many names, and their numbers are stored. Assumes nothing.
use Rattle.lines.specs.OrderSteps.{Reading}
use Rattle.lines.specs.Text.{next_word}
use Rattle.lines.proofs.orders.with_numbers.Given as goal

abbrev pub invariant-loop-place : goal.invariant-loop-place
invariant-loop-place g l = Reading l.fn.command l.text l.fn.from l.usage (next_word l.usage 0).to l.order l.word l.name l.place
