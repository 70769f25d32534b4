-- `multiportgraph::multiportgraph::MultiPortGraph::grow` meets its contract: no room, and one more subport.
use native.Mathlib.Omega.{arith}
use Rattle.multiportgraph.specs.PrepareSteps.{or_ok, or_err, few_subs}
use Rattle.port_tables.specs.TableSteps.{passed_on}
use Rattle.multiportgraph.specs.TableSteps.{grow_full, copy_low, grow_done}
use Rattle.multiportgraph.specs.LinkMade.{grow_few}
use Rattle.multiportgraph.proofs.multiportgraph.MultiPortGraph.grow.Goals as goal

pub returns-in_err-or : goal.returns-in_err-or
returns-in_err-or c =
    let e = or_err _ c.or.ensures c.in_err-or.was in
    rw (passed_on c.from_residual.ensures.1, e.0) (grow_full c.requires c.num_ports-count.ensures c.hidden_counts-incoming.ensures c.set_num_ports_quiet_lent.ensures.0 c.set_num_ports_quiet_lent.ensures.1 e.1)

pub overflow_add-self : goal.overflow_add-self
overflow_add-self c = omega (arith, few_subs c.args.self.now c.requires.port.block.wf)

-- `copy_low` and `grow_done` follow from the same steps. A step of its own for both would have to state what `grow_done` gives, which is longer than they are.
pub last_beside-requires : goal.last_beside-requires
last_beside-requires c =
    omega (arith, copy_low c.requires c.num_ports-count.ensures c.hidden_counts-incoming.ensures c.set_num_ports_quiet_lent.ensures.0 c.set_num_ports_quiet_lent.ensures.1 (or_ok _ _ c.or.ensures c.in_ok-or.was) c.wide-2.ensures (rw c.link_table-2.ensures at c.far_in-moved.ensures), grow_few c.requires, c.num_ports-count.ensures)

pub returns : goal.returns
returns c =
    grow_done c.requires c.num_ports-count.ensures c.hidden_counts-incoming.ensures c.set_num_ports_quiet_lent.ensures.0 c.set_num_ports_quiet_lent.ensures.1 (or_ok _ _ c.or.ensures c.in_ok-or.was) c.wide-2.ensures (rw c.link_table-2.ensures at c.far_in-moved.ensures)
    c.wide.ensures (rw c.link_table.ensures at c.far_in-copy.ensures) c.put_marks.ensures c.last_beside.ensures
