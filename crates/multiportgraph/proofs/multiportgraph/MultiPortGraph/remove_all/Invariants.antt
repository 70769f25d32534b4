-- `multiportgraph::MultiPortGraph::remove_all` meets its contract. Invariant: what is left to do amounts to all that was to do.
use mathlib.Core.Path.{◌≡◌}
use lib.ListN.{drop}
use Rattle.portgraph.specs.Model.{Wf}
use Rattle.multiportgraph.specs.HiddenNodes.{remove_all}
use Rattle.multiportgraph.proofs.multiportgraph.MultiPortGraph.remove_all.Given as goal

abbrev pub invariant-loop-node : goal.invariant-loop-node
invariant-loop-node l = Wf l.self.graph × (remove_all l.self (drop l.node-index l.list) ≡ remove_all l.initial.self l.list)
