-- `multiportgraph::multiportgraph::MultiPortGraph::list_blocks` meets its contract: what the tables list is what the graph lists.
use Rattle.multiportgraph.specs.ListReads.{blocks_list_fits, blocks_list_told}
use Rattle.multiportgraph.proofs.multiportgraph.MultiPortGraph.list_blocks.Goals as goal

pub list_blocks-requires : goal.list_blocks-requires
list_blocks-requires c = let e = c.list_tables.ensures in rw (e.0, e.4, e.5) (blocks_list_fits c.args.self.now c.requires c.node_count-count.ensures)

pub returns : goal.returns
returns c =
    let e = c.list_tables.ensures in
    blocks_list_told c.args.self.now c.requires c.args.list.now c.node_count-count.ensures (rw (e.0, e.4, e.5) at c.list_blocks.ensures)
