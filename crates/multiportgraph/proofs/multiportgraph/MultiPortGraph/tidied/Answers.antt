-- `multiportgraph::MultiPortGraph::tidied` meets its contract: the row of a split port's subports lies within the tables.
use mathlib.Core.Path.{sym, ◌∙◌}
use Rattle.multiportgraph.specs.TidySteps.{row_fits}
use Rattle.multiportgraph.proofs.multiportgraph.MultiPortGraph.tidied.Goals as goal

pub linked_from-left-requires : goal.linked_from-left-requires
linked_from-left-requires c =
    let e = c.wire_tables-tables.ensures in
    row_fits (record { block = c.requires; split = sym c.is_split.ensures ∙ c.if-is_split.true })
    (rw (e.1, e.2) at c.first_in-first.ensures) (rw (e.1, e.2) at c.subports_in-count.ensures)
