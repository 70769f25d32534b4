-- `records::run::run_on` meets its contract. The invariant: the graph that the rest of the requests leaves is that of the whole list; the
-- graph is one of the calls. Assumes nothing.
use mathlib.Core.Path.{◌∙◌}
use Rattle.records.specs.RunSteps.{going_turns}
use Rattle.records.proofs.run.run_on.Goals as goal

pub loop-request-preserved : goal.loop-request-preserved
loop-request-preserved c =
    let k = c.in-Some.ensures.steps in
    let i = c.loop-request.invariant in
    (k.0 ∙ i.0, going_turns i.1 _ _ k.1.0 (k.1.1 ∙ i.0) c.request_in.ensures c.ask_lent.ensures)
