-- `multiportgraph::MultiPortGraph::set_quiet_lent` meets its contract: each refusal, and the resize.
use native.Mathlib.Omega.{arith}
use Rattle.port_tables.specs.TableSteps.{passed_on}
use Rattle.portgraph.specs.Numbered.{and_numbers}
use Rattle.multiportgraph.specs.Answers.{set_numbers}
use Rattle.multiportgraph.specs.BlockSteps.{found_fits, block_refused, resizes_found}
use Rattle.multiportgraph.specs.HiddenNodes.{enough}
use Rattle.multiportgraph.specs.Presumed.{Resizes}
use Rattle.multiportgraph.proofs.multiportgraph.MultiPortGraph.set_quiet_lent.Goals as goal
use Rattle.multiportgraph.proofs.multiportgraph.MultiPortGraph.set_quiet_lent.Goals.{In_ok-meta}

pub returns-in_err-meta : goal.returns-in_err-meta
returns-in_err-meta c =
    rw (passed_on c.from_residual.ensures.1) (and_numbers set_numbers (block_refused c.args.self.now c.args.node.0 c.args.incoming c.args.outgoing enough c.too_many_ports.ensures c.if-too_many_ports.false c.block.ensures c.in_err-meta.was))

here : (c : In_ok-meta) → Resizes c.args.self.now c.args.node.0 c.in_ok-meta.meta c.args.incoming c.args.outgoing
here c = resizes_found c.requires c.too_many_ports.ensures c.if-too_many_ports.false c.block.ensures c.in_ok-meta.was

pub resize_listing-requires : goal.resize_listing-requires
resize_listing-requires c = (here (goal.at.resize_listing-requires c).In_ok-meta, omega (arith, c.dropped.ensures, c.if-dropped-le-FEW.true))

pub resize_listing-requires-2 : goal.resize_listing-requires-2
resize_listing-requires-2 c =
    let f = found_fits c.args.node.0 c.requires c.block.ensures c.in_ok-meta.was in
    (here (goal.at.resize_listing-requires-2 c).In_ok-meta, omega (arith, f.ports, f.small))
