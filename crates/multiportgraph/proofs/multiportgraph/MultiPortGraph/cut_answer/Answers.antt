-- `multiportgraph::MultiPortGraph::cut_answer` meets its contract: a split port, and one that is not.
use mathlib.Core.Path.{refl, sym, ap, ◌∙◌}
use Rattle.multiportgraph.specs.LowerSteps.{port_cut_below}
use Rattle.multiportgraph.specs.Presumed.{OnBlock}
use Rattle.multiportgraph.specs.declared.multiportgraph.PortUnlinked.{PortUnlinked}
use Rattle.multiportgraph.proofs.CutLaws.{block_of_side}
use Rattle.multiportgraph.proofs.multiportgraph.MultiPortGraph.cut_answer.Goals as goal
use Rattle.multiportgraph.proofs.multiportgraph.MultiPortGraph.cut_answer.Goals.{In_ok-port_direction}

on_block : (c : In_ok-port_direction) → OnBlock c.args.self.now c.args.port.0 c.in_ok-port_direction.field-0
on_block c = block_of_side c.requires c.args.port.0 (sym c.port_direction.ensures.0 ∙ c.in_ok-port_direction.was)

pub returns : goal.returns
returns c =
    let e = c.wire_tables.ensures in
    let b = on_block (goal.at.returns c).In_ok-port_direction in
    ap (λ (u : PortUnlinked). u.answer) (port_cut_below c.requires b (sym c.is_split.ensures ∙ c.if-is_split.false) refl (rw (e.1, e.2, e.3) at c.plain_in.ensures))
