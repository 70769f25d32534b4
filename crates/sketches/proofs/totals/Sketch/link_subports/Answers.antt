-- `Sketch::link_subports` meets its contract: one more wire.
use Rattle.std.specs.Prelude.{Ok}
use Rattle.std.proofs.Common.{refl}
use Rattle.sketches.specs.Plan.{end#}
use Rattle.sketches.specs.PlanCalls.{link_subports}
use Rattle.sketches.specs.PlanNumbers.{link_numbers}
use Rattle.sketches.specs.Held.{Left, held, plan_of}
use Rattle.sketches.specs.EndSteps.{ends_linked}
use Rattle.sketches.proofs.totals.Sketch.link_subports.Goals as goal
use Rattle.sketches.proofs.totals.Sketch.link_subports.Goals.{After-push}

done : (c : After-push) → Left link_numbers (link_subports (plan_of c.args.self.now) c.args.x.port c.args.x.offset c.args.y.port c.args.y.offset) (held c.self.inside.release c.self.inside.adds c.self.inside.blocks c.self.inside.splits c.push.new.self) (Ok (end# c.args.x.port c.offset_read.result, end# c.args.y.port c.offset_read-2.result))
done c = ends_linked c.self.view_is c.self.invariant _ _ _ _ c.judge_ends.ensures c.in_ok-judge_ends.was c.offset_read.ensures.read c.offset_read-2.ensures.read c.wire_row.ensures c.push.ensures c.push.new.self.full refl

pub invariant_of-self : goal.invariant_of-self
invariant_of-self c = (done (goal.at.invariant_of-self c).After-push).wf

pub returns : goal.returns
returns c = done (goal.at.returns c).After-push
