-- `timing::settle::find_firsts` meets its contract. Invariant: the firsts among the wires passed.
use mathlib.Core.Path.{◌≡◌}
use Rattle.std.specs.Iterator.Adapters.{rev_source, enumerate_source, enumerate_count}
use Rattle.std.specs.Slice.Iter.{chunks_exact_rest, chunks_exact_size}
use Rattle.timing.specs.Passing.{Returning}
use Rattle.timing.specs.SettleSteps.{Finding}
use Rattle.timing.proofs.settle.find_firsts.Given as goal

abbrev pub invariant-loop-i : goal.invariant-loop-i
invariant-loop-i l =
    (goal.iterator-loop-i).can_next l.i-iterator × (goal.iterator-loop-i).is_finite l.i-iterator × (enumerate_count (rev_source l.i-iterator) ≡ 0) × (chunks_exact_size (enumerate_source (rev_source l.i-iterator)) ≡ 8)
    × Returning l.ends (chunks_exact_rest (enumerate_source (rev_source l.i-iterator))) (Finding l.ends l.initial.firsts l.firsts)
