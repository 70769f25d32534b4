-- `multiportgraph::MultiPortGraph::unsplit_range` meets its contract. Invariant: what is left to do amounts to all that was to do.
use mathlib.Core.Path.{◌≡◌}
use Prim.Native.Nat.{◌+◌, ◌-◌}
use Rattle.portgraph.specs.Model.{Wf}
use Rattle.multiportgraph.specs.HiddenNodes.{unsplit_range}
use Rattle.multiportgraph.proofs.multiportgraph.MultiPortGraph.unsplit_range.Given as goal

abbrev pub invariant-loop-k : goal.invariant-loop-k
invariant-loop-k l = Wf l.self.graph × (unsplit_range l.self (l.first + l.k) (l.count - l.k) ≡ unsplit_range l.initial.self l.first l.count)
