-- `exports::loaded::put_requests` meets its contract. Invariant: the requests that are left amount to all.
use mathlib.Core.Path.{◌∙◌}
use Rattle.exports.specs.LoadedSteps.{request_turn}
use Rattle.exports.proofs.loaded.put_requests.Goals as goal

pub loop-k-preserved : goal.loop-k-preserved
loop-k-preserved c =
    let k = c.in-Some.ensures.steps in
    let i = c.loop-k.invariant in
    (k.0.0 ∙ i.0, request_turn i.1 _ _ k.0.1.0 (k.0.1.1 ∙ i.0) k.1 k.2 c.put_words.ensures)
