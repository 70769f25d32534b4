-- `Settling::settle` meets its contract. Invariant: the blocks that are left amount to all, and sums are small. Measure: the slots that are left.
use Prim.Native.Nat.{ℕ, ◌+◌, ◌-◌}
use lib.ListN.{get_or}
use mathlib.Core.Path.{◌≡◌, sym, ◌∙◌, ap, subst}
use native.Mathlib.Omega.{arith}
use Rattle.port_tables.specs.Limits.{node_slots}
use Rattle.timing.specs.SettleSteps.{settle_turn, settle_end, bounded_block, starts, start_bounded, settled_is}
use Rattle.timing.specs.Settling.{feeds_listed, Tables, zeros, start_tables, block_done, settle, Bounded}
use Rattle.timing.proofs.settle.Settling.settle.Goals as goal

pub loop-head-init : goal.loop-head-init
unfolding zeros
loop-head-init c =
    let feeds = feeds_listed c.args.ends.now in
    let e : c.push_ready.new.self ≡ start_tables feeds = starts feeds (c.self.view_is ∙ c.requires.1) c.count_wires.ensures c.push_ready.ensures in
    (omega arith, start_bounded feeds e, settled_is feeds c.args.times.now c.find_firsts.ensures e)

pub loop-head-preserved : goal.loop-head-preserved
loop-head-preserved c =
    let feeds = feeds_listed c.args.ends.now in
    let firsts = c.find_firsts.new.firsts in
    let seen = ap (λ (t : Tables). t.order) c.self-in-loop-head.view_is in
    let e = c.block_done.ensures ∙ ap (λ (x : ℕ). block_done feeds firsts c.args.times.now x c.loop-head.self) c.at-block.ensures in (
      omega (arith, c.self-in-loop-head.invariant),
      subst (λ (t : Tables). Bounded t.best (c.loop-head.head + 1)) (sym e) (bounded_block feeds firsts c.args.times.now (get_or c.self-in-loop-head.inside.queue c.loop-head.head 0) c.loop-head.head c.loop-head.self (λ n. omega (arith, c.type_inv.times n)) c.loop-head.invariant.1),
      ap (settle feeds firsts c.args.times.now (node_slots - (c.loop-head.head + 1)) (c.loop-head.head + 1)) e
          ∙ (settle_turn _ _ _ _ _ _ _ c.self-in-loop-head.told.3 c.self-in-loop-head.invariant seen c.loop-head-test.true ∙ c.loop-head.invariant.2),
    )

pub returns-clause-tables : goal.returns-clause-tables
returns-clause-tables c =
    settle_end _ _ _ _ _ _ _ c.self-in-loop-head.told.3 c.self-in-loop-head.invariant (ap (λ (t : Tables). t.order) c.self-in-loop-head.view_is) c.loop-head-test.false
    ∙ c.loop-head.invariant.2
