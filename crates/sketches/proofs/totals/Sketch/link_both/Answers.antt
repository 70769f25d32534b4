-- `Sketch::link_both` meets its contract: both ports are ready, and one more row.
use Rattle.std.specs.Prelude.{Ok}
use Rattle.std.proofs.Common.{refl}
use Rattle.sketches.specs.PlanCalls.{both_linked}
use Rattle.sketches.specs.PlanNumbers.{link_numbers}
use Rattle.sketches.specs.Held.{Left, held, plan_of}
use Rattle.sketches.specs.SplitSteps.{plan_back}
use Rattle.sketches.specs.LinkSteps.{both_linked_lem}
use Rattle.sketches.proofs.totals.Sketch.link_both.Goals as goal
use Rattle.sketches.proofs.totals.Sketch.link_both.Goals.{After-push}

done : (c : After-push) → Left link_numbers (both_linked (plan_of c.args.self.now) c.args.x c.args.y) (held c.self.inside.release c.self.inside.adds c.self.inside.blocks c.self.inside.splits c.push.new.self) (Ok (c.ready_port-first.result, c.ready_port-second.result))
done c = both_linked_lem _ _ _ _ _ _ c.requires c.ready_port-first.ensures.is (plan_back c.self.view_is c.ready_port-second.ensures.is) c.ready_port-first.ensures.end c.ready_port-second.ensures.end c.wire_row.ensures _ _ refl c.push.ensures c.push.new.self.full

pub invariant_of-self : goal.invariant_of-self
invariant_of-self c = (done (goal.at.invariant_of-self c).After-push).wf

pub returns : goal.returns
returns c = done (goal.at.returns c).After-push
