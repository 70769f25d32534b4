-- `records::run::run_list` meets its contract. The invariant: what is laid, with the rest of the run on the present graph, is the whole;
-- the graph is one of the calls. Assumes nothing.
use mathlib.Core.Path.{ap, ◌∙◌}
use Rattle.std.specs.Iterator.Adapters.{enumerate_source, enumerate_count}
use Rattle.std.specs.Slice.Iter.{chunks_exact_rest, chunks_exact_size}
use Rattle.records.specs.RunSteps.{run_starts, run_turns}
use Rattle.records.proofs.run.run_list.Goals as goal

pub loop-k-init : goal.loop-k-init
loop-k-init c =
    let g = c.into_iter-k-iterator.ensures.into_iter_gives in
    let s = ap enumerate_source g ∙ c.enumerate-k-items.ensures.source in (
      ap chunks_exact_size s ∙ c.chunks_exact.ensures.size,
      run_starts c.new-graph.ensures c.requires.0 c.requires.1 (ap chunks_exact_rest s ∙ c.chunks_exact.ensures.rest) (ap enumerate_count g ∙ c.enumerate-k-items.ensures.count),
    )

pub loop-k-preserved : goal.loop-k-preserved
loop-k-preserved c =
    let k = c.in-Some.ensures.steps in
    let i = c.loop-k.invariant in
    (k.0.0 ∙ i.0, run_turns i.1 _ _ k.0.1.0 (k.0.1.1 ∙ i.0) k.1 k.2 c.request_in.ensures c.ask_lent.ensures c.put_answer.ensures)
