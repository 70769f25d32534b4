-- `Settling::run_done` meets its contract. Invariant: the wires in a row that are left amount to all.
use Prim.Native.Nat.{ℕ, ◌+◌}
use lib.ListN.{drop}
use mathlib.Core.Path.{sym, ◌∙◌, ap}
use native.Mathlib.Omega.{arith}
use Rattle.timing.specs.Passing.{passing_at, passing_on, passing_ends}
use Rattle.timing.specs.SettleSteps.{run_turn, run_stop, run_end}
use Rattle.timing.specs.Settling.{feeds_listed, run_done, wire_done}
use Rattle.timing.proofs.settle.Settling.run_done.Goals as goal

pub returns-then-source_of-block : goal.returns-then-source_of-block
returns-then-source_of-block c =
    passing_at c.loop-wire.invariant (omega arith) c.next.new.self c.in-Some-wire.wire c.in-Some-wire.ensures.steps
    (λ i l r p. run_stop c.args.ends.now c.args.block c.args.sum i c.loop-wire.self l (λ e. c.if-source_of-block.true (c.source_of.ensures ∙ r 2 (omega arith) ∙ e)) ∙ p)

pub loop-wire-preserved : goal.loop-wire-preserved
loop-wire-preserved c =
    passing_on c.loop-wire.invariant (omega arith) c.next.new.self c.in-Some-wire.wire c.in-Some-wire.ensures.steps
    (λ i l r p.
    ap (run_done c.args.block c.args.sum (drop (i + 1) (feeds_listed c.args.ends.now))) (c.wire_done.ensures ∙ ap (λ (x : ℕ). wire_done c.args.block c.args.sum x c.loop-wire.self) (c.target_of.ensures ∙ r 6 (omega arith)))
    ∙ (run_turn c.args.ends.now c.args.block c.args.sum i c.loop-wire.self l (sym (r 2 (omega arith)) ∙ sym c.source_of.ensures ∙ c.if-source_of-block.false) ∙ p))

pub returns : goal.returns
returns c =
    passing_ends c.loop-wire.invariant (omega arith) c.next.new.self c.in-None.ensures.steps (λ i l p. run_end c.args.ends.now c.args.block c.args.sum i c.loop-wire.self l ∙ p)
