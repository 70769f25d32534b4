-- `multiportgraph::multiportgraph::MultiPortGraph::link_self` meets its contract: the end is prepared and found again, or there is no room.
use Rattle.multiportgraph.specs.LinkMade.{self_stays, self_first, self_done}
use Rattle.multiportgraph.proofs.multiportgraph.MultiPortGraph.link_self.Goals as goal

pub need_of-again-requires : goal.need_of-again-requires
need_of-again-requires c = self_stays _ _ _ _ c.prepare.ensures c.requires c.in_ok-first.was

pub link_second-requires : goal.link_second-requires
link_second-requires c = (self_first _ _ _ _ c.prepare.ensures c.requires c.in_ok-first.was, c.need_of-again.ensures)

pub returns : goal.returns
returns c = self_done _ _ _ _ c.prepare.ensures c.requires c.in_ok-first.was c.link_second.ensures
