-- `multiportgraph::multiportgraph::MultiPortGraph::link_second` meets its contract: one side, two ends that are linked, and no room.
use mathlib.Core.Path.{sym, ◌∙◌}
use Rattle.port_tables.specs.SameSides.{sides_compared}
use Rattle.multiportgraph.specs.LinkMade.{second_linked, second_after}
use Rattle.multiportgraph.proofs.multiportgraph.MultiPortGraph.link_second.Goals as goal

pub join_inner-requires : goal.join_inner-requires
join_inner-requires c = second_after c.requires.0 c.prepare.result c.prepare.ensures c.in_ok-y.was

pub returns : goal.returns
returns c =
    rw (c.new_multi.ensures, c.new_multi-2.ensures)
    (second_linked c.requires.0 c.prepare.result c.prepare.ensures c.in_ok-y.was (sym (sides_compared _ _ c.eq.ensures) ∙ c.if-eq.false) c.join_inner.ensures)
