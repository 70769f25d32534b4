-- `timing::settle::count_wires` meets its contract. Invariant: the wires that are left amount to all.
use mathlib.Core.Path.{◌∙◌}
use native.Mathlib.Omega.{arith}
use Rattle.timing.specs.Passing.{passing_from, passing_on, passing_ends}
use Rattle.timing.specs.SettleSteps.{counting_begins, counting_turns, counting_ends}
use Rattle.timing.proofs.settle.count_wires.Goals as goal

pub loop-wire-init : goal.loop-wire-init
loop-wire-init c =
    passing_from 0 c.into_iter-wire-iterator.ensures.into_iter_gives c.chunks_exact-wire-items.ensures.size c.chunks_exact-wire-items.ensures.rest (counting_begins c.args.ends.now c.args.waits.now c.requires.1)

pub loop-wire-preserved : goal.loop-wire-preserved
loop-wire-preserved c =
    passing_on c.loop-wire.invariant (omega arith) c.next.new.self c.in-Some.wire c.in-Some.ensures.steps (λ i l r p. counting_turns p l (c.wide-target.ensures ∙ c.target_of.ensures ∙ r 6 (omega arith)) c.at-before.ensures c.store.ensures)

pub returns : goal.returns
returns c =
    passing_ends c.loop-wire.invariant (omega arith) c.next.new.self c.in-None.ensures.steps (λ i l p. counting_ends p l)
