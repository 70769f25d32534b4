-- `multiportgraph::iter::NodeLinks::step` meets its contract: nothing found, and a link.
use Rattle.port_tables.specs.TableSteps.{with_numbers}
use Rattle.multiportgraph.specs.WalkNumbers.{node_links_values}
use Rattle.multiportgraph.specs.LinkWalkSteps.{links_item_lem}
use Rattle.multiportgraph.proofs.iter.NodeLinks.step.Goals as goal

pub returns : goal.returns
returns c = with_numbers node_links_values (links_item_lem c.args.graph.now c.args.self _ c.next_of_block.ensures.0 _ _ c.in_ok-link.was c.held_at.ensures)
