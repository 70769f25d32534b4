-- `slots::laying::Laid::lay_list` meets its contract. Invariant: laying the blocks that are left on what is laid amounts to laying all.
use native.Mathlib.Omega.{arith}
use Rattle.slots.specs.LaySteps.{list_turn}
use Rattle.slots.proofs.laying.Laid.lay_list.Goals as goal

pub loop-count-preserved : goal.loop-count-preserved
loop-count-preserved c =
    list_turn _ c.loop-count.next _ c.loop-count._count _ c.wide.result _ c.loop-count.invariant (λ z. omega (arith, z, c.in-Some.ensures.0))
    c.loop-count-test.true c.in-Some.ensures.1 c.lay_block.ensures c.wide.ensures c.at-next.ensures
