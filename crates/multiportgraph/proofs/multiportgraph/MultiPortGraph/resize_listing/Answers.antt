-- `multiportgraph::MultiPortGraph::resize_listing` meets its contract: refused below, and done.
use mathlib.Core.Path.{◌∙◌}
use native.Mathlib.Omega.{arith}
use Rattle.port_tables.specs.TableSteps.{passed_on}
use Rattle.portgraph.specs.WfFacts.{resizes}
use Rattle.portgraph.specs.LookupSteps.{entry_of_meta}
use Rattle.multiportgraph.specs.CallSteps.{lower_wf}
use Rattle.multiportgraph.specs.BlockSteps.{block_left, block_done, copies_dropped_most, list_taken, recounted_is}
use Rattle.multiportgraph.specs.HiddenNodes.{remove_all}
use Rattle.multiportgraph.proofs.multiportgraph.MultiPortGraph.resize_listing.Goals as goal

pub resize_quiet_lent-requires : goal.resize_quiet_lent-requires
resize_quiet_lent-requires c = resizes c.args.self.now.graph (lower_wf c.args.self.now c.requires.0.wf) c.args.node.0 _ _ _ (entry_of_meta _ _ c.requires.0.meta) c.requires.0.few

pub returns-in_err-events : goal.returns-in_err-events
returns-in_err-events c =
    rw (passed_on c.from_residual.ensures.1) (block_left c.requires.0 _ c.resize_quiet_lent.ensures.0 c.resize_quiet_lent.ensures.1 c.set_answer.ensures c.in_err-events.was)

pub returns : goal.returns
returns c =
    let loose = recounted_is c.args.self.now c.args.node.0 c.resize_quiet_lent.new.self c.args.resize.meta c.requires.0.meta c.recount.ensures in
    let most = copies_dropped_most c.args.self.now c.args.resize.meta c.args.resize.incoming c.args.resize.outgoing in
    let taken = list_taken c.args.list.now (omega (arith, most, c.requires.1)) c.copies_dropped-count.ensures.1 c.copies_dropped-count.ensures.0 in
    block_done c.requires.0 _ c.resize_quiet_lent.ensures.0 c.resize_quiet_lent.ensures.1 c.set_answer.ensures c.in_ok-events.was (c.remove_all.ensures ∙ (λ i. remove_all (loose i) (taken.1 i)))
