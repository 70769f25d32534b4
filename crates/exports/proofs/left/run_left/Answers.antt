-- `exports::left::run_left` meets its contract: the run from the empty graph.
use mathlib.Core.Path.{sym, subst}
use Rattle.multiportgraph.specs.WellFormed.{MultiWf}
use Rattle.theorems.proofs.CallLaws.{empty_kept}
use Rattle.exports.proofs.left.run_left.Goals as goal

pub run_on-requires : goal.run_on-requires
run_on-requires c = subst MultiWf (sym c.requires) (empty_kept _)
