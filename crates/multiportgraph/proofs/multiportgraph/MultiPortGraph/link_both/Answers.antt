-- `multiportgraph::multiportgraph::MultiPortGraph::link_both` meets its contract: the first end is ready, both are prepared, and no room.
use Rattle.portgraph.specs.WfFacts.{node_len_fits, port_len_fits}
use Rattle.multiportgraph.specs.CallSteps.{lower_wf}
use Rattle.multiportgraph.specs.NeedLaws.{grows_few, takes_small}
use Rattle.multiportgraph.specs.LinkMade.{both_ready, both_done}
use Rattle.multiportgraph.proofs.multiportgraph.MultiPortGraph.link_both.Goals as goal

pub takes_of-requires : goal.takes_of-requires
takes_of-requires c = grows_few c.requires.0.first c.need_of-one.ensures

pub takes_of-requires-2 : goal.takes_of-requires-2
takes_of-requires-2 c = grows_few c.requires.0.second c.need_of-two.ensures

pub room_for-requires : goal.room_for-requires
room_for-requires c =
    let w = lower_wf c.args.self.now c.requires.0.first.wf in
    (node_len_fits _ w, port_len_fits _ w, takes_small c.need_of-one.result (grows_few c.requires.0.first c.need_of-one.ensures) c.takes_of.ensures, takes_small c.need_of-two.result (grows_few c.requires.0.second c.need_of-two.ensures) c.takes_of-2.ensures)

pub link_second-requires-2 : goal.link_second-requires-2
link_second-requires-2 c = both_ready _ c.requires.0 c.requires.1 c.need_of-one.ensures c.need_of-two.ensures c.takes_of.ensures c.takes_of-2.ensures c.room_for.ensures c.if-not-room_for.false _ c.prepare.ensures c.in_ok-first.was

pub returns : goal.returns
returns c = both_done _ c.requires.0 c.requires.1 c.need_of-one.ensures c.need_of-two.ensures c.takes_of.ensures c.takes_of-2.ensures c.room_for.ensures c.if-not-room_for.false _ c.prepare.ensures c.in_ok-first.was c.link_second-2.ensures
