-- `multiportgraph::multiportgraph::MultiPortGraph::split` meets its contract: no room, and the hidden node that is made.
use mathlib.Core.Path.{refl}
use Prim.Native.Nat.{◌≤◌}
use native.Mathlib.Omega.{arith}
use Rattle.port_tables.specs.declared.direction.Direction.{Direction}
use Rattle.port_tables.specs.declared.direction.Direction.TheVariants.{Incoming, Outgoing}
use Rattle.portgraph.specs.WfFacts.{link_count_fits}
use Rattle.multi_tables.specs.TableReads.{copy_at, subports_at}
use Rattle.multiportgraph.specs.PrepareSteps.{or_ok, few_copies, few_subs}
use Rattle.multiportgraph.specs.SplitLaws.{SplitTables}
use Rattle.multiportgraph.specs.TableSteps.{added_wf, split_told, split_done}
use Rattle.multiportgraph.proofs.multiportgraph.MultiPortGraph.split.Goals as goal
use Rattle.multiportgraph.proofs.multiportgraph.MultiPortGraph.split.Goals.{In_ok-node}

copy_small : (d : Direction) → copy_at d ≤ 2
copy_small Incoming = omega arith
copy_small Outgoing = omega arith

subports_small : (d : Direction) → subports_at d ≤ 1
subports_small Incoming = omega arith
subports_small Outgoing = omega arith

-- what the split does to the tables
told : (c : In_ok-node) → SplitTables c.args.port.port c.args.port.side c.add_node_lent.new.self c.in_ok-node.node.0 c.in_ok-node.first.0
told c = split_told c.requires c.new-shape.ensures.0 c.new-shape.ensures.1 c.add_node_lent.ensures.0 c.add_node_lent.ensures.1 (or_ok _ _ c.or.ensures c.in_ok-node.was)

pub overflow_add-copy : goal.overflow_add-copy
overflow_add-copy c = omega (arith, (told (goal.at.overflow_add-copy c).In_ok-node).fits, c.new-shape.ensures.2, copy_small c.args.port.side)

pub overflow_add-old : goal.overflow_add-old
overflow_add-old c = omega (arith, (told (goal.at.overflow_add-old c).In_ok-node).fits, c.new-shape.ensures.3, subports_small c.args.port.side)

pub hang-requires : goal.hang-requires
hang-requires c =
    (link_count_fits _ (added_wf c.requires c.new-shape.ensures.0 c.new-shape.ensures.1 c.add_node_lent.ensures.0 c.add_node_lent.ensures.1), (told (goal.at.hang-requires c).In_ok-node).held)

pub overflow_add-self : goal.overflow_add-self
overflow_add-self c = omega (arith, few_copies c.args.self.now c.requires.block.wf)

pub overflow_add-self-2 : goal.overflow_add-self-2
overflow_add-self-2 c = omega (arith, few_subs c.args.self.now c.requires.block.wf)

pub overflow_add-result : goal.overflow_add-result
overflow_add-result c = omega (arith, (told (goal.at.overflow_add-result c).In_ok-node).fits, c.new-shape.ensures.3, subports_small c.args.port.side)

pub returns : goal.returns
returns c =
    split_done c.requires c.new-shape.ensures.0 c.new-shape.ensures.1 c.add_node_lent.ensures.0 c.add_node_lent.ensures.1 (or_ok _ _ c.or.ensures c.in_ok-node.was)
    c.new-shape.ensures.2 refl c.new-shape.ensures.3 refl c.hang.ensures c.put_marks.ensures c.wide.ensures c.put_flag.ensures
