-- `Sketch::add` meets its contract: too many ports, no room, and the new row.
use Prim.Native.Nat.{◌+◌}
use Rattle.std.specs.Prelude.{Ok}
use Rattle.sketches.specs.PlanCalls.{add_block}
use Rattle.sketches.specs.PlanNumbers.{add_numbers}
use Rattle.sketches.specs.Held.{Left, held, plan_of}
use Rattle.sketches.specs.BlockSteps.{added}
use Rattle.sketches.proofs.totals.Sketch.add.Goals as goal
use Rattle.sketches.proofs.totals.Sketch.add.Goals.{After-push}

done : (c : After-push) → Left add_numbers (add_block (plan_of c.args.self.now) c.args.incoming c.args.outgoing) (held c.self.inside.release (c.self.inside.adds + 1) c.push.new.self c.self.inside.splits c.self.inside.wires) (Ok c.self.inside.adds)
done c = added c.self.view_is c.self.invariant _ _ _ _ c.wide.ensures c.wide-2.ensures c.if-ports-gt-NODE_PORTS.false c.no_room.ensures c.if-no_room.false c.push.ensures c.push.new.self.full

pub invariant_of-self : goal.invariant_of-self
invariant_of-self c = (done (goal.at.invariant_of-self c).After-push).wf

pub returns : goal.returns
returns c = done (goal.at.returns c).After-push
