-- `multiportgraph::multiportgraph::MultiPortGraph::list_wires` meets its contract: what the tables list is what the graph lists.
use Rattle.multiportgraph.specs.ListReads.{wires_list_fits, wires_list_told}
use Rattle.multiportgraph.proofs.multiportgraph.MultiPortGraph.list_wires.Goals as goal

pub list_wires-requires : goal.list_wires-requires
list_wires-requires c = let e = c.list_tables.ensures in rw (e.0, e.1, e.2, e.3, e.4, e.5) (wires_list_fits c.args.self.now c.requires c.link_count-count.ensures)

pub returns : goal.returns
returns c =
    let e = c.list_tables.ensures in
    wires_list_told c.args.self.now c.requires c.args.list.now c.link_count-count.ensures (rw (e.0, e.1, e.2, e.3, e.4, e.5) at c.list_wires.ensures)
