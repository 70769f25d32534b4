-- `slots::listing::list_slots` meets its contract: the blocks of the single-link graph's tables are its blocks.
use Rattle.slots.specs.LaySteps.{listed_of}
use Rattle.slots.proofs.listing.list_slots.Goals as goal

pub returns : goal.returns
returns c = listed_of c.args.graph.now.graph c.args.list.now _ _ (rw c.as_portgraph.ensures at c.list_in.ensures)
