-- `Sketch::cut` meets its contract: an unknown port, an unsplit one, and a split one.
use Rattle.std.proofs.Common.{rules, refl}
use Rattle.sketches.specs.Held.{held, plan_of}
use Rattle.sketches.specs.CallParts.{HeldPlan}
use Rattle.sketches.specs.CutSteps.{port_gone, port_cut, cut_unsplit, cut_split, port_answered}
use Rattle.sketches.proofs.totals.Sketch.cut.Goals as goal
use Rattle.sketches.proofs.totals.Sketch.cut.Goals.{After-set_subports}

done : (c : After-set_subports) → HeldPlan (port_gone (plan_of c.args.self.now) c.args.port) (held c.self.inside.release c.self.inside.adds c.self.inside.blocks c.set_subports.new.self c.drop_where.new.self)
done c = port_cut c.args.self.now _ c.find_port.ensures.found c.in_ok-find_port.was c.self.view_is c.self.invariant _ _ _ _ refl c.drop_where.ensures c.drop_where.new.self.full c.set_subports.ensures c.set_subports.new.self.full

pub invariant_of-self : goal.invariant_of-self
invariant_of-self c = (done (goal.at.invariant_of-self c).After-set_subports).wf

pub invariant_of-self-2 : goal.invariant_of-self-2
invariant_of-self-2 c = (done (goal.at.invariant_of-self-2 c).After-set_subports).wf

pub returns-then-subports-eq0 : goal.returns-then-subports-eq0
returns-then-subports-eq0 c = cut_unsplit c.args.self.now _ c.find_port.ensures.found c.in_ok-find_port.was (done (goal.at.returns-then-subports-eq0 c).After-set_subports) c.subports_of-subports.ensures.count c.if-subports-eq0.true c.far_from-far.result c.far_from-far.ensures (port_answered _ {m = c.map.result} (search rules))

pub returns : goal.returns
returns c = cut_split c.args.self.now _ c.find_port.ensures.found c.in_ok-find_port.was (done (goal.at.returns c).After-set_subports) c.subports_of-subports.ensures.count c.if-subports-eq0.false
