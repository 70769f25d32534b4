-- `Sketch::remove` meets its contract: an unknown block, and the rows that are dropped in each table.
use Rattle.std.specs.Prelude.{Ok}
use Rattle.std.proofs.Common.{refl}
use Rattle.sketches.specs.PlanCalls.{remove_block}
use Rattle.sketches.specs.PlanNumbers.{done_numbers}
use Rattle.sketches.specs.Held.{Left, held, plan_of}
use Rattle.sketches.specs.BlockSteps.{removed}
use Rattle.sketches.proofs.totals.Sketch.remove.Goals as goal
use Rattle.sketches.proofs.totals.Sketch.remove.Goals.{After-drop_where-3}

done : (c : After-drop_where-3) → Left done_numbers (remove_block (plan_of c.args.self.now) c.args.name) (held c.self.inside.release c.self.inside.adds c.drop_where.new.self c.drop_where-2.new.self c.drop_where-3.new.self) (Ok tt)
done c = removed c.self.view_is c.self.invariant _ c.find_block.ensures.found c.in_ok-find_block.was _ _ _ _ _ _ refl c.drop_where.new.self.full c.drop_where-2.new.self.full c.drop_where-3.new.self.full c.drop_where.ensures c.drop_where-2.ensures c.drop_where-3.ensures

pub invariant_of-self : goal.invariant_of-self
invariant_of-self c = (done (goal.at.invariant_of-self c).After-drop_where-3).wf

pub returns : goal.returns
returns c = done (goal.at.returns c).After-drop_where-3
