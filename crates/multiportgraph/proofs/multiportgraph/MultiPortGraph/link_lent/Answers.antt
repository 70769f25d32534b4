-- `multiportgraph::multiportgraph::MultiPortGraph::link_lent` meets its contract: an input that has a wire, and else by how the first port is seen.
use mathlib.Core.Path.{sym, ◌∙◌}
use Rattle.port_tables.specs.TableSteps.{passed_on}
use Rattle.portgraph.specs.Numbered.{and_numbers}
use Rattle.multiportgraph.specs.Answers.{link_numbers}
use Rattle.multiportgraph.specs.InputSteps.{input_refused, inputs_passed}
use Rattle.multiportgraph.specs.LinkMade.{link_parts, call_refused}
use Rattle.multiportgraph.proofs.multiportgraph.MultiPortGraph.link_lent.Goals as goal

pub returns-in_err-inputs_free : goal.returns-in_err-inputs_free
returns-in_err-inputs_free c = rw (passed_on c.from_residual.ensures.1) (and_numbers link_numbers (link_parts (input_refused c.requires _ _ c.wire_tables-tables.ensures c.inputs_free.ensures c.in_err-inputs_free.was)))

pub returns-in_err-side : goal.returns-in_err-side
returns-in_err-side c =
    let e = c.wire_tables-tables.ensures in
    let refused = call_refused c.requires _ _ (sym (rw (e.2, e.3) at c.block_port.ensures) ∙ c.in_err-side.was) in
    rw (passed_on c.from_residual-in_err-side.ensures.1) (and_numbers link_numbers (link_parts (inputs_passed c.requires _ _ e c.inputs_free.ensures c.in_ok-inputs_free.was refused)))
