-- `Settling::wire_done` meets its contract: the far end is settled with its last wire.
use mathlib.Core.Path.{◌∙◌}
use Rattle.timing.specs.SettleSteps.{wire_last, wire_stays}
use Rattle.timing.proofs.settle.Settling.wire_done.Goals as goal

pub returns-then-left-eq0 : goal.returns-then-left-eq0
returns-then-left-eq0 c = wire_last _ _ _ c.wide-c.ensures (c.self.view_is ∙ c.raise.ensures) (rw c.at.ensures at c.saturating_sub-left.ensures) c.store.ensures c.if-left-eq0.true c.push.ensures

pub returns-else-left-eq0 : goal.returns-else-left-eq0
returns-else-left-eq0 c = wire_stays _ _ _ c.wide-c.ensures (c.self.view_is ∙ c.raise.ensures) (rw c.at.ensures at c.saturating_sub-left.ensures) c.store.ensures c.if-left-eq0.false
