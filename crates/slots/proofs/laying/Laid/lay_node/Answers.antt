-- `slots::laying::Laid::lay_node` meets its contract: no node, a node without a block, and a block.
use Rattle.slots.specs.LaySteps.{node_gone, node_blockless}
use Rattle.slots.proofs.laying.Laid.lay_node.Goals as goal

pub returns-in_default : goal.returns-in_default
returns-in_default c = node_gone c.args.nodes.now c.args.node _ _ _ c.meta_in.ensures c.in_default.is

pub returns-then-meta-eq0 : goal.returns-then-meta-eq0
returns-then-meta-eq0 c = node_blockless c.args.nodes.now c.args.node _ _ _ _ c.meta_in.ensures c.in-Some.is c.if-meta-eq0.true
