-- The graph stays well formed.
use Rattle.multiportgraph.specs.WellFormed.{MultiWf}
use Rattle.wiring.proofs.console.converse.Given as goal

abbrev pub invariant-loop-turn : goal.invariant-loop-turn
invariant-loop-turn g l = MultiWf l.graph
