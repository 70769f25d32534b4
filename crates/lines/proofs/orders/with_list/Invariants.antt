-- `lines::orders::with_list` meets its contract. The order keeps its command and its place. Assumes nothing.
use Rattle.lines.specs.Orders.{Asks}
use Rattle.lines.proofs.orders.with_list.Given as goal

abbrev pub invariant-loop-count : goal.invariant-loop-count
invariant-loop-count g l = Asks l.fn.command l.from l.order
