-- `records::run::run_list` meets its contract. The invariant: what is laid, with the rest of the run on the present graph, is the whole;
-- the graph is one of the calls. Assumes nothing.
use Prim.Native.Nat.{◌*◌}
use mathlib.Core.Path.{◌≡◌}
use Rattle.std.specs.Iterator.Adapters.{enumerate_source, enumerate_count}
use Rattle.std.specs.Slice.Iter.{chunks_exact_rest, chunks_exact_size}
use Rattle.records.specs.RunSteps.{Running}
use Rattle.records.proofs.run.run_list.Given as goal

abbrev pub invariant-loop-k : goal.invariant-loop-k
invariant-loop-k l = (chunks_exact_size (enumerate_source l.k-iterator) ≡ 20) × Running l.requests (chunks_exact_rest (enumerate_source l.k-iterator)) l.answers l.graph (20 * enumerate_count l.k-iterator)
