-- `Sketch::resize` meets its contract: too many ports, an unknown block, no room, and the rows that are changed and dropped.
use Rattle.std.specs.Prelude.{Ok}
use Rattle.std.proofs.Common.{refl}
use Rattle.sketches.specs.PlanCalls.{set_counts}
use Rattle.sketches.specs.PlanNumbers.{done_numbers}
use Rattle.sketches.specs.Held.{Left, held, plan_of}
use Rattle.sketches.specs.BlockSteps.{resized}
use Rattle.sketches.proofs.totals.Sketch.resize.Goals as goal
use Rattle.sketches.proofs.totals.Sketch.resize.Goals.{After-drop_where-2}

done : (c : After-drop_where-2) → Left done_numbers (set_counts (plan_of c.args.self.now) c.args.name c.args.incoming c.args.outgoing) (held c.self.inside.release c.self.inside.adds c.recount.new.self c.drop_where.new.self c.drop_where-2.new.self) (Ok tt)
done c = resized c.self.view_is c.self.invariant _ c.find_block.ensures.found c.in_ok-find_block.was _ _ _ _ _ _ refl c.recount.new.self.full c.drop_where.new.self.full c.drop_where-2.new.self.full _ _ c.wide.ensures c.wide-2.ensures c.if-wide-gt-NODE_PORTS.false c.ports_recounted.ensures c.if-ports_recounted-gt-PORT_SLOTS.false c.recount.ensures c.drop_where.ensures c.drop_where-2.ensures

pub invariant_of-self : goal.invariant_of-self
invariant_of-self c = (done (goal.at.invariant_of-self c).After-drop_where-2).wf

pub returns : goal.returns
returns c = done (goal.at.returns c).After-drop_where-2
