-- `multiportgraph::iter::Wires::next_link` meets its contract: a cursor that holds nothing, one whose port is gone or hidden, and one that goes on.
use native.Mathlib.Omega.{arith}
use Rattle.multiportgraph.specs.WireSteps.{step_on}
use Rattle.multiportgraph.proofs.iter.Wires.next_link.Goals as goal

pub returns : goal.returns
returns c = (step_on c.args.graph.now c.requires c.args.self (λ z. omega (arith, z, c.in-Some.ensures.0)) c.in-Some.ensures.1 c.block_port.ensures c.ok.ensures.value c.in_ok-node.was c.wide.ensures c.next_wire-2.ensures.0, c.next_wire-2.ensures.1)
