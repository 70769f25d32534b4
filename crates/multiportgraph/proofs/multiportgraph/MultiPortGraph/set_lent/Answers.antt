-- `multiportgraph::MultiPortGraph::set_lent` meets its contract: refused here, refused below, and done.
use mathlib.Core.Path.{◌∙◌}
use Prim.Native.Nat.{◌≤◌}
use native.Mathlib.Omega.{arith}
use lib.ListN.{length}
use Rattle.std.proofs.lemmas.List.{length-take-le}
use Rattle.port_tables.specs.Limits.{node_ports}
use Rattle.port_tables.specs.ResizeLinks.{BlockFits}
use Rattle.port_tables.specs.TableSteps.{passed_on}
use Rattle.multiportgraph.specs.BlockSteps.{wf_set_is, found_fits, resizes_found, set_too_many, set_refused_lem, set_left, set_done, copies_dropped_few, list_taken, recounted_is}
use Rattle.multiportgraph.specs.Presumed.{Resizes}
use Rattle.multiportgraph.specs.HiddenNodes.{copies_dropped, remove_all}
use Rattle.multiportgraph.proofs.multiportgraph.MultiPortGraph.set_lent.Goals as goal
use Rattle.multiportgraph.proofs.multiportgraph.MultiPortGraph.set_lent.Goals.{In_ok-meta, After-recount}

-- the block, as it is found
here : (c : In_ok-meta) → Resizes c.args.self.now c.args.node.0 c.in_ok-meta.meta c.args.incoming c.args.outgoing
here c = resizes_found c.requires c.too_many_ports.ensures c.if-too_many_ports.false c.block.ensures c.in_ok-meta.was

fits : (c : In_ok-meta) → BlockFits c.in_ok-meta.meta
fits c = found_fits c.args.node.0 c.requires c.block.ensures c.in_ok-meta.was

pub returns-then-too_many_ports : goal.returns-then-too_many_ports
returns-then-too_many_ports c = set_too_many c.args.self.now c.args.node.0 c.args.incoming c.args.outgoing c.args.moves.now c.too_many_ports.ensures c.if-too_many_ports.true

pub returns-in_err-meta : goal.returns-in_err-meta
returns-in_err-meta c =
    rw (passed_on c.from_residual.ensures.1) (set_refused_lem c.args.self.now c.args.node.0 c.args.incoming c.args.outgoing c.args.moves.now c.too_many_ports.ensures c.if-too_many_ports.false c.block.ensures c.in_err-meta.was)

pub copies_dropped-count-requires : goal.copies_dropped-count-requires
copies_dropped-count-requires c = let f = fits (goal.at.copies_dropped-count-requires c).In_ok-meta in (f, omega (arith, f.ports, f.small))

pub returns-in_err-events : goal.returns-in_err-events
returns-in_err-events c =
    rw (passed_on c.from_residual-in_err-events.ensures.1) (set_left (here (goal.at.returns-in_err-events c).In_ok-meta) c.args.moves.now c.set_num_ports_lent.ensures.0 c.set_num_ports_lent.ensures.1 c.set_num_ports_lent.ensures.2 c.set_answer.ensures c.in_err-events.was)

pub recount-requires : goal.recount-requires
recount-requires c = (wf_set_is c.args.self.now _ _ _ _ _ c.requires c.set_num_ports_lent.ensures.0, fits (goal.at.recount-requires c).In_ok-meta)

-- what goes is listed
few : (c : After-recount) → length (copies_dropped c.args.self.now c.in_ok-meta.meta c.args.incoming c.args.outgoing) ≤ node_ports
few c = copies_dropped_few c.args.self.now c.in_ok-meta.meta c.args.incoming c.args.outgoing (fits (goal.at.After-recount c).In_ok-meta)

pub slice_bounds-list-end : goal.slice_bounds-list-end
slice_bounds-list-end c = let f = few (goal.at.slice_bounds-list-end c).After-recount in omega (arith, f, c.copies_dropped-count.ensures.0)

pub slice_bounds-remove_all-end : goal.slice_bounds-remove_all-end
slice_bounds-remove_all-end c =
    let f = list_taken _ (few (goal.at.slice_bounds-remove_all-end c).After-recount) c.copies_dropped-count.ensures.1 c.copies_dropped-count.ensures.0 in
    let l = length-take-le c.copies_dropped-count.result c.copies_dropped-count.new.list f.0 in
    omega arith

pub remove_all-requires : goal.remove_all-requires
remove_all-requires c = rw c.recount.ensures (wf_set_is c.args.self.now _ _ _ _ _ c.requires c.set_num_ports_lent.ensures.0)

pub returns : goal.returns
returns c =
    let h = here (goal.at.returns c).In_ok-meta in
    let loose = recounted_is c.args.self.now c.args.node.0 c.set_num_ports_lent.new.self c.in_ok-meta.meta h.meta c.recount.ensures in
    let taken = list_taken _ (few (goal.at.returns c).After-recount) c.copies_dropped-count.ensures.1 c.copies_dropped-count.ensures.0 in
    set_done h c.args.moves.now c.set_num_ports_lent.ensures.0 c.set_num_ports_lent.ensures.1 c.set_num_ports_lent.ensures.2 c.set_answer.ensures c.in_ok-events.was (c.remove_all.ensures ∙ (λ i. remove_all (loose i) (taken.1 i)))
