-- `Sketch::subport_link` meets its contract: what is refused, and the far end.
use Rattle.sketches.specs.CutSteps.{answers_as, far_fits, end_answered, end_asked}
use Rattle.std.proofs.Common.{rules}
use Rattle.sketches.specs.Held.{plan_of}
use Rattle.sketches.proofs.totals.Sketch.subport_link.Goals as goal

pub map-requires : goal.map-requires
map-requires c = λ x e p q. far_fits _ _ _ _ c.end_test.ensures.wf _ c.far_from-far.result c.far_from-far.ensures x e

pub returns : goal.returns
returns c = answers_as (end_asked (plan_of c.args.self.now) c.args.end.port c.args.end.offset c.judge_end.ensures c.in_ok-judge_end.was c.far_from-far.result c.end_test.ensures.is c.far_from-far.ensures (end_answered _ (search rules)))
