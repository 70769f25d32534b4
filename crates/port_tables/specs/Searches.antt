-- What `find` gives over a range of numbers, from either end, where its closure answers a test.
use Rattle.std.specs.Prelude.{◌≡◌, Bool, Option, Some, None, MatchOption}
use Rattle.std.proofs.Math.Path.{refl, sym, ap, subst}
use Rattle.std.proofs.Common.{◌∙◌, get_or}
use Rattle.std.proofs.Math.Bool.{true, false}
use mathlib.Core.List.{List, [], ◌∷◌}
use Prim.Native.Nat.{ℕ, zero, suc, ◌+◌, ◌-◌, ◌≤◌, ◌<◌}
use native.Mathlib.Omega.{arith}
use denote.Ref.{Bor}
use denote.Param.Members.{Mut}
use Rattle.std.proofs.Math.ListN.{length}
use Rattle.std.specs.Iterator.{YieldsThen}
use Rattle.std.specs.List.{FoldsTo}
use Rattle.std.specs.Fn.{CalledAt}
use Rattle.std.specs.Bool.{⊤}
use Rattle.std.specs.declared.iter.Rev.{Rev}
use Rattle.std.specs.declared.ops.Range.{Range}
use Rattle.std.proofs.lemmas.Iterator.{YieldsList, first_from_Range, first_from_find}
use Rattle.std.proofs.lemmas.Iterator.Consumers.{YieldsList-from_shown}

-- a number that a search finds is the first that passes
abbrev pub Searched : (ℕ → Bool) → ℕ → ℕ → Option ℕ → Type 0
Searched g from end r = MatchOption r ((k : ℕ) → from ≤ k → k < end → g k ≡ false) (λ i. (from ≤ i) × (i < end) × (g i ≡ true) × ((k : ℕ) → from ≤ k → k < i → g k ≡ false))

-- a number that a search from the high end finds is the last that passes
abbrev pub SearchedBack : (ℕ → Bool) → ℕ → ℕ → Option ℕ → Type 0
SearchedBack g low high r = MatchOption r ((k : ℕ) → low ≤ k → k < high → g k ≡ false) (λ i. (low ≤ i) × (i < high) × (g i ≡ true) × ((k : ℕ) → i < k → k < high → g k ≡ false))

-- what `find` says of its own run: steps from s by which it came to r, and what the closure, which is f, answered
abbrev pub Ran : {S F : Type 0} → (S → Option ℕ → S → Type 0) → Mut F (Bor ℕ × Unit {0}) Bool → S → F → S → Option ℕ → Type 0
Ran {S} {F} steps g s f u r = (xs : List ℕ) × (j : F) × YieldsThen steps s xs r u × FoldsTo (λ p x q. CalledAt g p x false q) f xs j × MatchOption r ⊤ (λ x. (h : F) × CalledAt g j x true h)

-- the closure answers T and stays as it is
abbrev pub Tells : {F : Type 0} → Mut F (Bor ℕ × Unit {0}) Bool → F → (ℕ → Bool) → Type 0
Tells {F} g f T = (x : ℕ) (b : Bool) (q : F) → CalledAt g f x b q → (q ≡ f) × (b ≡ T x)

-- what one step of a range does
abbrev pub turn : Range ℕ → Option ℕ → Range ℕ → Type 0
turn s r t = (t.end ≡ s.end) × MatchOption r ((s.end - s.start ≡ 0) × (t.start ≡ s.start)) (λ x. (0 < s.end - s.start) × (x ≡ s.start) × (t.start ≡ s.start + 1))

pub found_by : {F : Type 0} {g : Mut F (Bor ℕ × Unit {0}) Bool} {s : Range ℕ} {f : F} (T : ℕ → Bool) (u : Range ℕ) (r : Option ℕ) → Ran turn g s f u r → Tells g f T → Searched T s.start s.end r
found_by {s = s} {f = f} T u r ran told =
    first_from_Range s u f r (λ n. T n ≡ true) (λ n. T n ≡ false) ran (λ x q k. sym (told x true q k).1) (λ x q k. let t = told x false q k in (t.0, sym t.1))

-- the numbers of a range, the highest first
unfoldable down : ℕ → ℕ → List ℕ
down low zero = []
down low (suc n) = (low + n) ∷ down low n

length_down : (low n : ℕ) → length (down low n) ≡ n
unfolding down
length_down low zero = refl
length_down low (suc n) = ap suc (length_down low n)

at_down : (low n j d : ℕ) → j < n → get_or (down low n) j d ≡ low + n - suc j
unfolding down
at_down low zero j d h = absurd (omega arith)
at_down low (suc n) zero d h = omega arith
at_down low (suc n) (suc j) d h = omega (arith, at_down low n j d (omega arith))

-- a step of a range from its high end
abbrev pub back : Rev (Range ℕ) → Option ℕ → Rev (Range ℕ) → Type 0
back s r t = (t.iter.start ≡ s.iter.start) × MatchOption r ((s.iter.end - s.iter.start ≡ 0) × (t.iter.end ≡ s.iter.end)) (λ x. (0 < s.iter.end - s.iter.start) × (x ≡ t.iter.end) × (s.iter.end ≡ t.iter.end + 1))

one_down : (a n m x : ℕ) → n ≡ suc m → x ≡ a + m → down a n ≡ x ∷ down a m
unfolding down
one_down a n m x e f = rw (e, f) refl

yields_down : (s : Rev (Range ℕ)) → YieldsList back (λ n. n) s (down s.iter.start (s.iter.end - s.iter.start))
yields_down s =
    YieldsList-from_shown back (λ n. n) (λ v. down v.iter.start (v.iter.end - v.iter.start))
    (λ v t p. length_down v.iter.start (v.iter.end - v.iter.start) ∙ p.1.0)
    (λ v x t p. rw p.0 (one_down v.iter.start (v.iter.end - v.iter.start) (t.iter.end - v.iter.start) x (omega (arith, p.0, p.1.0, p.1.1, p.1.2)) (omega (arith, p.0, p.1.0, p.1.1, p.1.2))))
    s

-- what `find` says of the listed numbers
abbrev Found : (ℕ → Bool) → List ℕ → Option ℕ → Type 0
Found test l o = MatchOption o ((k d : ℕ) → 0 ≤ k → k < length l → test (get_or l k d) ≡ false) (λ x. (test x ≡ true) × (i : ℕ) × (i < length l) × ((d : ℕ) → get_or l i d ≡ x) × ((k d : ℕ) → 0 ≤ k → k < i → test (get_or l k d) ≡ false))

last_listed : (test : ℕ → Bool) (low high : ℕ) (o : Option ℕ) → Found test (down low (high - low)) o → SearchedBack test low high o
last_listed test low high None h = λ k a b.
    let l = length_down low (high - low) in
    let e = at_down low (high - low) (high - suc k) 0 (omega arith) in
    subst (λ n. test n ≡ false) (omega (arith, e)) (h (high - suc k) 0 (omega arith) (omega arith))
last_listed test low high (Some x) (t, i, l, y, h) =
    let n = length_down low (high - low) in
    let p = at_down low (high - low) i 0 (omega arith) in
    let q = y 0 in (
      omega arith,
      omega arith,
      t,
      λ k a b.
          let e = at_down low (high - low) (high - suc k) 0 (omega arith) in
          subst (λ n. test n ≡ false) (omega (arith, e)) (h (high - suc k) 0 (omega arith) (omega arith)),
    )

last_found : (test : ℕ → Bool) (low high : ℕ) (o : Option ℕ) {s : Range ℕ} → s ≡ record { start = low; end = high } → Found test (down s.start (s.end - s.start)) o → SearchedBack test low high o
last_found test low high o e h = last_listed test low high o (subst (λ (k : Range ℕ). Found test (down k.start (k.end - k.start)) o) e h)

pub found_back : {F : Type 0} {g : Mut F (Bor ℕ × Unit {0}) Bool} {s : Rev (Range ℕ)} {f : F} {low high : ℕ} (T : ℕ → Bool) (u : Rev (Range ℕ)) (r : Option ℕ) → s.iter ≡ record { start = low; end = high } → Ran back g s f u r → Tells g f T
    → SearchedBack T low high r
found_back {s = s} {f = f} T u r e ran told =
    last_found T _ _ r e (first_from_find u f r (λ n. T n ≡ true) (λ n. T n ≡ false) ran (yields_down s) (λ x q k. sym (told x true q k).1) (λ x q k. let t = told x false q k in (t.0, sym t.1)))
