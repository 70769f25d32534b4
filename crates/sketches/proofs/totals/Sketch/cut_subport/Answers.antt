-- `Sketch::cut_subport` meets its contract: what is refused, and the rows that are dropped.
use Rattle.std.specs.Prelude.{Ok}
use Rattle.std.proofs.Common.{refl}
use Rattle.sketches.specs.PlanCalls.{cut_subport}
use Rattle.sketches.specs.PlanNumbers.{found_numbers}
use Rattle.sketches.specs.Held.{Left, held, plan_of}
use Rattle.sketches.specs.CutSteps.{end_cut}
use Rattle.sketches.proofs.totals.Sketch.cut_subport.Goals as goal
use Rattle.sketches.proofs.totals.Sketch.cut_subport.Goals.{After-drop_where}

done : (c : After-drop_where) → Left found_numbers (cut_subport (plan_of c.args.self.now) c.args.end.port c.args.end.offset) (held c.self.inside.release c.self.inside.adds c.self.inside.blocks c.self.inside.splits c.drop_where.new.self) (Ok c.in_ok-far.far)
done c = end_cut c.self.view_is c.self.invariant _ _ c.subport_link.ensures.answered c.in_ok-far.was c.end_test.ensures.is _ _ refl c.drop_where.ensures c.drop_where.new.self.full

pub invariant_of-self : goal.invariant_of-self
invariant_of-self c = (done (goal.at.invariant_of-self c).After-drop_where).wf

pub returns : goal.returns
returns c = done (goal.at.returns c).After-drop_where
