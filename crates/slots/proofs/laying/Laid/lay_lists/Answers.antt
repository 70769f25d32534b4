-- `slots::laying::Laid::lay_lists` meets its contract. Invariant: laying the blocks of the sizes that are left on what is laid amounts to laying
-- all.
use native.Mathlib.Omega.{arith}
use Rattle.port_tables.specs.Limits.{free_lists}
use Rattle.slots.specs.LaySteps.{free_begun, range_turn, from_head}
use Rattle.slots.proofs.laying.Laid.lay_lists.Goals as goal

pub loop-size-init : goal.loop-size-init
loop-size-init c = free_begun _ _ _ _

pub loop-size-preserved : goal.loop-size-preserved
loop-size-preserved c =
    range_turn _ c.loop-size.size free_lists c.loop-size.invariant (omega (arith, c.loop-size-test.true)) (from_head _ _ c.loop-size.size _ c.head_at-head.ensures c.lay_list.ensures)
