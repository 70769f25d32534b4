-- `Sketch::ready_port` meets its contract: the number of subports that the port has when it is ready.
use Rattle.std.proofs.Common.{refl}
use Rattle.sketches.specs.Plan.{ready}
use Rattle.sketches.specs.Held.{held, plan_of}
use Rattle.sketches.specs.CallParts.{HeldPlan}
use Rattle.sketches.specs.SplitSteps.{port_ready}
use Rattle.sketches.proofs.totals.Sketch.ready_port.Goals as goal
use Rattle.sketches.proofs.totals.Sketch.ready_port.Goals.{After-set_subports}

done : (c : After-set_subports) → HeldPlan (ready (plan_of c.args.self.now) c.args.port) (held c.self.inside.release c.self.inside.adds c.self.inside.blocks c.set_subports.new.self c.self.inside.wires)
done c = port_ready c.self.view_is c.self.invariant _ c.requires c.offset_ready-offset.ensures c.subports_of.ensures.count c.subports_ready-subports.ensures _ _ refl c.set_subports.ensures c.set_subports.new.self.full

pub invariant_of-self : goal.invariant_of-self
invariant_of-self c = (done (goal.at.invariant_of-self c).After-set_subports).wf

pub returns-clause-is : goal.returns-clause-is
returns-clause-is c = done (goal.at.returns-clause-is c).After-set_subports
