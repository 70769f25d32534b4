-- `multiportgraph::iter::NodeSubports::step` meets its contract: a node that is refused, nothing left, a subport, and a port held that is gone or hidden.
use mathlib.Core.Path.{sym, ◌∙◌}
use Rattle.port_tables.specs.TableSteps.{with_numbers}
use Rattle.multiportgraph.specs.WalkNumbers.{node_subports_values}
use Rattle.multiportgraph.specs.SubportSteps.{subports_item_lem}
use Rattle.multi_tables.specs.NamedEndSteps.{read_ok}
use Rattle.multiportgraph.proofs.iter.NodeSubports.step.Goals as goal

pub returns : goal.returns
returns c =
    let e = c.wire_tables.ensures in
    with_numbers node_subports_values (subports_item_lem c.args.graph.now c.args.self c.requires _ (read_ok c.block.ensures c.ok.ensures.value c.in_ok-meta.was) (sym c.held_seen.ensures ∙ c.if-not-held_seen.false) _ _ _ c.ports_from-from.ensures c.ports_to.ensures (rw (e.0, e.1, e.2, e.3) at c.subport_beyond.ensures.0) _ _ c.in_ok-subport.was c.held_at.ensures)
