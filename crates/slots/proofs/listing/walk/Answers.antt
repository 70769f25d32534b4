-- `slots::listing::walk` meets its contract. Invariant: so many blocks are listed, and listing those that are left amounts to listing all.
use Rattle.std.proofs.Math.Path.{refl}
use Rattle.slots.specs.LaySteps.{walk_turn}
use Rattle.slots.proofs.listing.walk.Goals as goal

pub loop-count-preserved : goal.loop-count-preserved
loop-count-preserved c =
    walk_turn _ _ c.loop-count.slot c.loop-count.count _ _ c.wide-slot.result c.node_of.result c.loop-count.invariant c.loop-count-test.true
    c.at-size.ensures c.if-size-eq0.false c.at-holder.ensures c.node_of.ensures refl
    c.wide-slot.ensures
