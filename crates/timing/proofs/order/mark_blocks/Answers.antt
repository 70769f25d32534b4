-- `timing::order::mark_blocks` meets its contract. Invariant: the blocks that are left amount to all.
use mathlib.Core.Path.{◌∙◌}
use native.Mathlib.Omega.{arith}
use Rattle.timing.specs.AnswerSteps.{mark_turn, mark_end}
use Rattle.timing.specs.Passing.{passing_on, passing_ends}
use Rattle.timing.proofs.order.mark_blocks.Goals as goal

pub loop-block-preserved : goal.loop-block-preserved
loop-block-preserved c =
    passing_on c.loop-block.invariant (omega arith) c.next.new.self c.in-Some.block c.in-Some.ensures.steps (λ i l r p. mark_turn c.args.listed.now i c.loop-block.places l (c.wide.ensures ∙ r 0 (omega arith)) c.store.ensures ∙ p)

pub returns : goal.returns
returns c =
    passing_ends c.loop-block.invariant (omega arith) c.next.new.self c.in-None.ensures.steps (λ i l p. mark_end c.args.listed.now i c.loop-block.places l ∙ p)
