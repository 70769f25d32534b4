-- `records::ask::link_clean` meets its contract: the call and its answer. Assumes nothing.
use mathlib.Core.Path.{refl, ap}
use Rattle.multiportgraph.specs.declared.multiportgraph.PortsLinked.{PortsLinked}
use Rattle.records.specs.AskSteps.{answered}
use Rattle.records.proofs.ask.link_clean.Goals as goal

pub returns : goal.returns
returns c =
    answered c.requires refl (rw c.link_ports_clean-linked.ensures.1 at c.link_words.ensures)
    (ap (λ (r : PortsLinked). r.graph) c.link_ports_clean-linked.ensures.0)
