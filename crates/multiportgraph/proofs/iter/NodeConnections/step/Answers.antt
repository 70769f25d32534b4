-- `multiportgraph::iter::NodeConnections::step` meets its contract: the other block is gone or hidden, nothing found, and a link.
use mathlib.Core.Path.{sym, ◌∙◌}
use Rattle.port_tables.specs.TableSteps.{with_numbers}
use Rattle.multiportgraph.specs.WalkNumbers.{node_connections_values}
use Rattle.multiportgraph.specs.LinkWalkSteps.{connections_item_lem}
use Rattle.multiportgraph.proofs.iter.NodeConnections.step.Goals as goal

pub returns : goal.returns
returns c = with_numbers node_connections_values (connections_item_lem c.args.graph.now c.args.self _ (sym c.contains_node.ensures ∙ c.if-not-contains_node.false) c.next_of_block.ensures.0 _ _ c.in_ok-link.was c.held_at.ensures)
