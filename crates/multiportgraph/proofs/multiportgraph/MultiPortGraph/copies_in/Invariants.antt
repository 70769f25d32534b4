-- `multiportgraph::MultiPortGraph::copies_in` meets its contract. Invariant: listing what is left amounts to listing all from the start.
use Rattle.multiportgraph.specs.BlockSteps.{CopiesLeft}
use Rattle.multiportgraph.proofs.multiportgraph.MultiPortGraph.copies_in.Given as goal

abbrev pub invariant-loop-k : goal.invariant-loop-k
invariant-loop-k l = CopiesLeft l.fn.self l.first l.count l.k l.initial.list l.list l.place
