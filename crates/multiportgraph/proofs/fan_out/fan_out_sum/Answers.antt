-- `multiportgraph::fan_out::fan_out_sum` meets its contract. Invariant: the sum so far and the fan-out of the ports left make the whole.
use mathlib.Core.Path.{◌∙◌}
use native.Mathlib.Omega.{arith}
use Rattle.multi_tables.specs.FanOutScanSteps.{fan_out_turn, fan_out_done}
use Rattle.multiportgraph.proofs.fan_out.fan_out_sum.Goals as goal

pub loop-port-preserved : goal.loop-port-preserved
loop-port-preserved c = (omega arith, fan_out_turn c.args.tables.marks.now c.args.tables.links.now c.args.tables.owners.now c.loop-port.port c.min-stop.result c.loop-port.sum _ c.loop-port-test.true c.wires_at-sum.ensures.0 ∙ c.loop-port.invariant.1)

pub returns : goal.returns
returns c = fan_out_done c.args.tables.marks.now c.args.tables.links.now c.args.tables.owners.now c.loop-port.port c.min-stop.result c.loop-port.sum c.loop-port-test.false ∙ c.loop-port.invariant.1
