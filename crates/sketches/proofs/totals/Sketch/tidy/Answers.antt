-- `Sketch::tidy` meets its contract: an unknown port, an unsplit one, and the subports that are left.
use Rattle.std.specs.Prelude.{Ok}
use Rattle.std.proofs.Common.{refl}
use Rattle.sketches.specs.PlanCalls.{tidy_port}
use Rattle.sketches.specs.PlanNumbers.{done_numbers}
use Rattle.sketches.specs.Held.{Left, held, plan_of}
use Rattle.sketches.specs.CutSteps.{tidy_split}
use Rattle.sketches.proofs.totals.Sketch.tidy.Goals as goal
use Rattle.sketches.proofs.totals.Sketch.tidy.Goals.{After-set_subports}

done : (c : After-set_subports) → Left done_numbers (tidy_port (plan_of c.args.self.now) c.args.port) (held c.self.inside.release c.self.inside.adds c.self.inside.blocks c.set_subports.new.self c.self.inside.wires) (Ok tt)
done c = tidy_split c.self.view_is c.self.invariant _ c.find_port.ensures.found c.in_ok-find_port.was c.above_wired.ensures c.subports_left-left.ensures _ _ refl c.set_subports.ensures c.set_subports.new.self.full c.subports_of.ensures.count c.if-subports_of-eq0.false

pub invariant_of-self : goal.invariant_of-self
invariant_of-self c = (done (goal.at.invariant_of-self c).After-set_subports).wf

pub returns : goal.returns
returns c = done (goal.at.returns c).After-set_subports
