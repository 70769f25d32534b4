-- `exports::loaded::put_requests` meets its contract. Invariant: the requests that are left amount to all.
use mathlib.Core.Path.{◌≡◌}
use Prim.Native.Nat.{◌+◌, ◌*◌}
use Rattle.std.specs.Iterator.Adapters.{enumerate_source, enumerate_count}
use Rattle.std.specs.Slice.Iter.{chunks_exact_rest, chunks_exact_size}
use Rattle.exports.specs.LoadedSteps.{Requesting}
use Rattle.exports.proofs.loaded.put_requests.Given as goal

abbrev pub invariant-loop-k : goal.invariant-loop-k
invariant-loop-k l =
    (chunks_exact_size (enumerate_source l.k-iterator) ≡ 2)
    × Requesting l.code l.numbers (chunks_exact_rest (enumerate_source l.k-iterator)) l.initial.requests l.requests l.at (l.at + 20 * enumerate_count l.k-iterator)
