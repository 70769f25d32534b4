-- `records::run::run_on` meets its contract. The invariant: the graph that the rest of the requests leaves is that of the whole list; the
-- graph is one of the calls. Assumes nothing.
use mathlib.Core.Path.{◌≡◌}
use Rattle.std.specs.Slice.Iter.{chunks_exact_rest, chunks_exact_size}
use Rattle.records.specs.RunSteps.{Going}
use Rattle.records.proofs.run.run_on.Given as goal

abbrev pub invariant-loop-request : goal.invariant-loop-request
invariant-loop-request l = (chunks_exact_size l.request-iterator ≡ 20) × Going l.requests (chunks_exact_rest l.request-iterator) l.initial.graph l.graph
