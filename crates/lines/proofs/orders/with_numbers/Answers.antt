-- `lines::orders::with_numbers` meets its contract. Assumes nothing.
use Rattle.lines.specs.OrderSteps.{reading_start, reading_on}
use Rattle.lines.proofs.orders.with_numbers.Goals as goal

pub loop-place-init : goal.loop-place-init
loop-place-init g c = reading_start _ _ _ _ _ _ _ _ c.to-order.ensures c.next_word-word.ensures c.next_word-first.ensures c.next_word-name.ensures

pub loop-place-preserved : goal.loop-place-preserved
loop-place-preserved g c = reading_on _ _ _ _ c.loop-place.invariant _ _ _ _ _ c.is_empty-in-loop-place-2.ensures c.if-is_empty-2.false c.with-order.ensures c.in_ok-value_as.ensures c.next_word-word-in-loop-place.ensures c.next_word-name-in-loop-place.ensures
