-- `multiportgraph::multiportgraph::MultiPortGraph::next_of_block` meets its contract: a node that is refused, a port held that is gone or hidden, and a scan.
use mathlib.Core.Path.{sym, ◌∙◌}
use Rattle.multiportgraph.specs.LinkWalkSteps.{left_found}
use Rattle.multi_tables.specs.NamedEndSteps.{read_ok}
use Rattle.multiportgraph.proofs.multiportgraph.MultiPortGraph.next_of_block.Goals as goal

pub returns : goal.returns
returns c =
    let e = c.wire_tables.ensures in
    (left_found c.args.self.now c.args.node.0 c.args.sides c.args.filter c.args.held.port c.args.held.offset c.requires _ (read_ok c.block.ensures c.ok.ensures.value c.in_ok-meta.was) (sym c.held_seen.ensures ∙ c.if-not-held_seen.false) _ _ _ c.ports_from.ensures c.ports_to.ensures (rw (e.0, e.1, e.2, e.3) at c.next_beyond.ensures.0), c.next_beyond.ensures.1)
