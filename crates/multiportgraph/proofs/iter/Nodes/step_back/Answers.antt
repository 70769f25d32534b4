-- `multiportgraph::iter::Nodes::step_back` meets its contract: what `find` gives from the back is the last block that is left.
use mathlib.Core.Path.{sym, ◌∙◌}
use native.Mathlib.Omega.{arith}
use Rattle.std.specs.Prelude.{ℕ, ◌<◌, MatchOption, Option, Some, None}
use Rattle.std.proofs.Common.{rules, ◌≡◌, ◌+◌, ◌-◌, Bool}
use borrow.Author.Tests.{tests}
use Rattle.port_tables.specs.Limits.{node_slots}
use Rattle.port_tables.specs.Lists.{range, on_last}
use Rattle.std.specs.List.{filter}
use Rattle.port_tables.specs.TableSteps.{with_numbers}
use Rattle.std.specs.Option.{option_map_or}
use Rattle.port_tables.specs.Entries.{node#}
use Rattle.multiportgraph.specs.Walks.{step_nodes_back}
use Rattle.multiportgraph.specs.WalkNumbers.{nodes_values}
use Rattle.multiportgraph.specs.WalkScans.{block_in}
use Rattle.multiportgraph.specs.RangeSearches.{found_last, found_below}
use Rattle.multiportgraph.specs.WalkSteps.{back_found}
use Rattle.multiportgraph.proofs.iter.Nodes.step_back.Goals as goal
use Rattle.multiportgraph.proofs.iter.Nodes.step_back.Goals.{After-find, In_ok-n}

abbrev hit : After-find → ℕ → Bool
hit c = block_in c.node_table-slots.result.now c.args.graph.now.copy_node

searched : (c : After-find) → (c.find.result ≡ on_last None Some (filter (hit c) (range c.wide.result (c.end_before-end.result - c.wide.result)))) × MatchOption c.find.result (Unit {0}) (λ i. i < c.end_before-end.result)
searched c = found_last (hit c) _ c.rev.ensures.source c.find.ensures.ran (λ x b q k. search (rules, tests))

-- a block that is found is one of the table's
below : (c : In_ok-n) → c.in_ok-n.n < node_slots
below c = found_below (searched (goal.at.In_ok-n c).After-find).1 c.end_before-end.ensures.1 c.in_ok-n.was

pub overflow_cast-result : goal.overflow_cast-result
overflow_cast-result c = let h = below (goal.at.overflow_cast-result c).In_ok-n in omega arith

pub overflow_cast-result-2 : goal.overflow_cast-result-2
overflow_cast-result-2 c = let h = below (goal.at.overflow_cast-result-2 c).In_ok-n in omega arith

pub overflow_add-result : goal.overflow_add-result
overflow_add-result c = let h = below (goal.at.overflow_add-result c).In_ok-n in omega arith

stepped : (c : After-find) {r : Option ℕ} → c.find.result ≡ r → option_map_or (λ n. Some (node# n, record { front = c.args.self.front; back = n + 1 })) r None ≡ step_nodes_back c.args.graph.now c.args.self
stepped c e =
    back_found c.args.graph.now c.args.self c.wide.result c.end_before-end.result c.node_table-slots.ensures (search rules) (sym c.node_held.ensures ∙ c.if-not-node_held.false) (sym c.node_held-else-not-node_held.ensures ∙ c.if-not-node_held-2.false) c.wide.ensures c.end_before-end.ensures.0
    (sym e ∙ (searched c).0)

pub returns-in_err-n : goal.returns-in_err-n
returns-in_err-n c = rw c.from_residual.ensures (with_numbers nodes_values (stepped (goal.at.returns-in_err-n c).After-find c.in_err-n.was))

pub returns : goal.returns
returns c = with_numbers nodes_values (stepped (goal.at.returns c).After-find c.in_ok-n.was)
