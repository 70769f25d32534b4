-- `timing::settle::find_firsts` meets its contract. Invariant: the firsts among the wires passed.
use Prim.Native.Nat.{ℕ, ◌+◌, ◌-◌, ◌*◌, ◌/◌, ◌%◌, ◌<◌, ◌≤◌}
use lib.ListN.{length, set}
use mathlib.Core.List.{List}
use mathlib.Core.Path.{◌≡◌, sym, ◌∙◌, ap}
use native.Mathlib.Omega.{arith}
use Rattle.std.specs.declared.iter.Enumerate.{Enumerate}
use Rattle.std.specs.declared.iter.Rev.{Rev}
use Rattle.std.proofs.Math.Nat.{div-le_self}
use Rattle.std.specs.Iterator.Adapters.{rev_source, enumerate_source, enumerate_count}
use Rattle.std.specs.Slice.Iter.{chunks_exact_rest, chunks_exact_size}
use Rattle.std.specs.declared.slice.ChunksExact.{ChunksExact}
use Rattle.port_tables.specs.Limits.{port_slots}
use Rattle.timing.specs.Passing.{Returning, short, returning_begins, returning_on, returning_ends}
use Rattle.timing.specs.SettleSteps.{Finding, finding_begins, finding_turns}
use Rattle.timing.proofs.settle.find_firsts.Given as given
use Rattle.timing.proofs.settle.find_firsts.Goals as goal

-- so few wires are left that the walk goes on
stands : {ends firsts₀ firsts : List ℕ} (it : Rev (Enumerate (ChunksExact ℕ))) → length ends ≤ 8 * port_slots → enumerate_count (rev_source it) ≡ 0 → chunks_exact_size (enumerate_source (rev_source it)) ≡ 8 →
    Returning ends (chunks_exact_rest (enumerate_source (rev_source it))) (Finding ends firsts₀ firsts) →
    (given.iterator-loop-i).can_next it × (given.iterator-loop-i).is_finite it × (enumerate_count (rev_source it) ≡ 0) × (chunks_exact_size (enumerate_source (rev_source it)) ≡ 8)
    × Returning ends (chunks_exact_rest (enumerate_source (rev_source it))) (Finding ends firsts₀ firsts)
stands it few count size back =
    let left = short back in
    let m = div-le_self (length (chunks_exact_rest (enumerate_source (rev_source it)))) (chunks_exact_size (enumerate_source (rev_source it))) in
    ((omega arith, tt, omega arith), tt, count, size, back)

pub loop-i-init : goal.loop-i-init
loop-i-init c =
    let s = ap (λ x. enumerate_source (rev_source x)) c.into_iter-i-iterator.ensures.into_iter_gives ∙ ap enumerate_source c.rev-i-items.ensures.source ∙ c.enumerate.ensures.source in
    let count = ap (λ x. enumerate_count (rev_source x)) c.into_iter-i-iterator.ensures.into_iter_gives ∙ ap enumerate_count c.rev-i-items.ensures.source ∙ c.enumerate.ensures.count in
    stands c.into_iter-i-iterator.result c.requires count (ap chunks_exact_size s ∙ c.chunks_exact.ensures.size) (returning_begins (ap chunks_exact_rest s ∙ c.chunks_exact.ensures.rest) (finding_begins c.args.ends.now c.args.firsts.now))

pub source_of-requires : goal.source_of-requires
source_of-requires c = c.in-Some.ensures.steps.1.0.2.2 ∙ c.loop-i.invariant.3

pub loop-i-preserved : goal.loop-i-preserved
loop-i-preserved c =
    let h = c.in-Some.ensures.steps in
    let k = h.1.0 in
    let rest = chunks_exact_rest (enumerate_source (rev_source c.loop-i.i-iterator)) in
    let left = chunks_exact_rest (enumerate_source (rev_source c.next.new.self)) in
    let place : c.in-Some.i ≡ length left / 8 = h.1.1 ∙ ap (λ (n : ℕ). enumerate_count (rev_source c.loop-i.i-iterator) + length left / n) (k.0 ∙ c.loop-i.invariant.3) ∙ (let z = c.loop-i.invariant.2 in omega arith) in
    let back : Returning c.args.ends.now left (Finding c.args.ends.now c.args.firsts.now c.store.new.list) =
    returning_on c.loop-i.invariant.4 _ _ k.2.0 k.2.1 (k.2.2 ∙ c.loop-i.invariant.3) (k.2.3 ∙ ap (λ (n : ℕ). length rest % n) c.loop-i.invariant.3)
    (λ i e r p. let u : 0 < i + 1 = omega arith in let v : i ≡ i + 1 - 1 = omega arith in finding_turns p u v (c.wide.ensures ∙ c.source_of.ensures ∙ r 2 (omega arith)) (c.store.ensures ∙ ap (set c.loop-i.firsts c.wide.result) (place ∙ sym e))) in
    stands c.next.new.self c.requires (h.0 ∙ c.loop-i.invariant.2) (k.0 ∙ c.loop-i.invariant.3) back

pub returns : goal.returns
returns c =
    let h = c.in-None.ensures.steps in
    let e = c.loop-i.invariant.3 in
    (returning_ends c.loop-i.invariant.4 (omega (arith, h.1.2.0, e))).found
