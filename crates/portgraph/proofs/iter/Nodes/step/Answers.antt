-- `portgraph::iter::Nodes::step` meets its contract: what `find` gives is what the search finds.
use mathlib.Core.Path.{sym, ◌∙◌}
use Rattle.std.proofs.Common.{rules, ◌≡◌, ◌-◌, add-one}
use borrow.Author.Tests.{tests}
use Rattle.port_tables.specs.Limits.{node_slots}
use Rattle.port_tables.specs.TableSteps.{with_numbers}
use Rattle.portgraph.specs.LinkWalks.{before, first_where}
use Rattle.portgraph.specs.LinkWalkSteps.{found_where, node_hit, nodes_given}
use Rattle.portgraph.specs.Walks.{nodes_step_numbers}
use Rattle.portgraph.proofs.iter.Nodes.step.Goals as goal
use Rattle.portgraph.proofs.iter.Nodes.step.Goals.{After-find}

searched : (c : After-find) → c.find.result ≡ before node_slots (first_where (node_hit c.args.graph.now.node_meta) c.args.self.held (node_slots - c.args.self.held))
searched c = rw (← c.wide.ensures) (found_where _ _ _ c.find.ensures.ran (λ x b q k. search (rules, tests)))

pub returns-in_err-n : goal.returns-in_err-n
returns-in_err-n c =
    rw c.from_residual.ensures
    (with_numbers nodes_step_numbers (nodes_given _ _ _ (sym c.node_held.ensures ∙ c.if-not-node_held.false) (sym c.in_err-n.was ∙ searched (goal.at.returns-in_err-n c).After-find)))

pub returns : goal.returns
returns c = with_numbers nodes_step_numbers (rw add-one (nodes_given _ _ _ (sym c.node_held.ensures ∙ c.if-not-node_held.false) (sym c.in_ok-n.was ∙ searched (goal.at.returns c).After-find)))
