-- Searches of a range of numbers by `find`, from the front and from the back: what is found is the first, or the last, of the numbers that pass.
use Rattle.std.specs.Prelude.{◌≡◌, Bool, true, false, Option, Some, None, MatchOption}
use Rattle.std.proofs.Math.Path.{refl, sym, ap, subst}
use Rattle.std.proofs.Common.{◌∙◌}
use mathlib.Core.List.{List, [], ◌∷◌, ◌++◌, append-nil}
use Prim.Native.Nat.{ℕ, suc, ◌+◌, ◌-◌, ◌≤◌, ◌<◌}
use native.Mathlib.Omega.{arith}
use Rattle.port_tables.specs.Lists.{range, on_first, on_last}
use Rattle.port_tables.specs.Listing.{filter_none, member_range}
use denote.Ref.{Bor}
use denote.Param.Members.{Mut}
use Rattle.std.specs.declared.iter.Rev.{Rev}
use Rattle.std.specs.declared.ops.Range.{Range}
use Rattle.port_tables.specs.Searches.{Searched, SearchedBack, Ran, Tells, turn, back, found_by, found_back}
use Rattle.std.specs.List.{filter}
use Rattle.multiportgraph.specs.ScanLaws.{range_append}
use Rattle.std.proofs.lemmas.List.Elements.{filter-append}

-- the last item of a list that ends with n
pub last_append : {A B : Type 0} (x : B) (g : A → B) (l : List A) (n : A) → on_last x g (l ++ (n ∷ [])) ≡ g n
unfolding on_last
last_append x g [] n = refl
last_append x g (y ∷ l) n = last_append (g y) g l n

module _ (f : ℕ → Bool) (from end : ℕ) where
  abbrev passing : List ℕ
  passing = filter f (range from (end - from))

  none_pass : (a n : ℕ) → ((k : ℕ) → a ≤ k → k < a + n → f k ≡ false) → filter f (range a n) ≡ []
  none_pass a n h = filter_none f (range a n) (λ k i. let r = member_range k a n i in h k r.0 r.1)

  -- those before a number that passes, the number, and those after it
  around : (i : ℕ) → from ≤ i → i < end → f i ≡ true → passing ≡ filter f (range from (i - from)) ++ (i ∷ filter f (range (suc i) (end - suc i)))
  unfolding range
  around i l h e =
      let here : from + (i - from) ≡ i = omega arith in
      let more : end - i ≡ suc (end - suc i) = omega arith in
      let rest : filter f (range (from + (i - from)) (end - i)) ≡ i ∷ filter f (range (suc i) (end - suc i)) = rw (here, more, e) in
      ap (filter f) (range_append from (i - from) (end - i) (end - from) (omega arith))
      ∙ filter-append f (range from (i - from)) (range (from + (i - from)) (end - i))
      ∙ ap (λ (l : List ℕ). filter f (range from (i - from)) ++ l) rest

  -- from the front
  first_of : (r : Option ℕ) → Searched f from end r → (r ≡ on_first None Some passing) × MatchOption r (Unit {0}) (λ i. i < end)
  unfolding on_first
  first_of None h = (sym (ap (on_first None Some) (none_pass from (end - from) (λ k l m. h k l (omega arith)))), tt)
  first_of (Some i) h =
      let none = none_pass from (i - from) (λ k l m. h.3 k l (omega (arith, h.0))) in
      (sym (ap (on_first None Some) (around i h.0 h.1 h.2 ∙ ap (λ (l : List ℕ). l ++ (i ∷ filter f (range (suc i) (end - suc i)))) none)), h.1)

  -- from the back
  last_of : (r : Option ℕ) → SearchedBack f from end r → (r ≡ on_last None Some passing) × MatchOption r (Unit {0}) (λ i. i < end)
  unfolding on_last
  last_of None h = (sym (ap (on_last None Some) (none_pass from (end - from) (λ k l m. h k l (omega arith)))), tt)
  last_of (Some i) h =
      let none = none_pass (suc i) (end - suc i) (λ k l m. h.3 k (omega arith) (omega (arith, h.1))) in (
        sym (ap (on_last None Some) (around i h.0 h.1 h.2 ∙ ap (λ (l : List ℕ). filter f (range from (i - from)) ++ (i ∷ l)) none) ∙ last_append None Some (filter f (range from (i - from))) i),
        h.1,
      )

-- what a search gives whose closure answers the test T, from the front and from the back
pub found_first : {F : Type 0} {g : Mut F (Bor ℕ × Unit {0}) Bool} {s : Range ℕ} {f : F} {r : Option ℕ} (T : ℕ → Bool) (u : Range ℕ) → Ran turn g s f u r → Tells g f T
    → (r ≡ on_first None Some (passing T s.start s.end)) × MatchOption r (Unit {0}) (λ i. i < s.end)
found_first {r = r} T u ran told = first_of T _ _ r (found_by T u r ran told)

pub found_last : {F : Type 0} {g : Mut F (Bor ℕ × Unit {0}) Bool} {s : Rev (Range ℕ)} {f : F} {low high : ℕ} {r : Option ℕ} (T : ℕ → Bool) (u : Rev (Range ℕ)) → s.iter ≡ record { start = low; end = high } → Ran back g s f u r → Tells g f T
    → (r ≡ on_last None Some (passing T low high)) × MatchOption r (Unit {0}) (λ i. i < high)
found_last {r = r} T u e ran told = last_of T _ _ r (found_back T u r e ran told)

-- what is found below an end
pub found_below : {end most n : ℕ} {r : Option ℕ} → MatchOption r (Unit {0}) (λ i. i < end) → end ≤ most → r ≡ Some n → n < most
found_below {end} h l e = let f : _ < end = subst (λ (o : Option ℕ). MatchOption o (Unit {0}) (λ i. i < end)) e h in omega (arith, l)

-- one number more at the back
module _ (f : ℕ → Bool) (a : ℕ) where
  one_more : (n : ℕ) → filter f (range a (suc n)) ≡ filter f (range a n) ++ filter f (range (a + n) 1)
  one_more n =
      let s : suc n ≡ n + 1 = omega arith in
      ap (filter f) (range_append a n 1 (suc n) s) ∙ filter-append f (range a n) (range (a + n) 1)

  pub top_passed : (n : ℕ) → f (a + n) ≡ false → filter f (range a (suc n)) ≡ filter f (range a n)
  unfolding range
  top_passed n e = let none : filter f (range (a + n) 1) ≡ [] = rw e in one_more n ∙ ap (λ (l : List ℕ). filter f (range a n) ++ l) none ∙ append-nil (filter f (range a n))

  pub top_found : (n : ℕ) → f (a + n) ≡ true → on_last {A = ℕ} {B = Option ℕ} None Some (filter f (range a (suc n))) ≡ Some (a + n)
  unfolding range
  top_found n e =
      let one : filter f (range (a + n) 1) ≡ (a + n) ∷ [] = rw e in
      ap (on_last None Some) (one_more n ∙ ap (λ (l : List ℕ). filter f (range a n) ++ l) one) ∙ last_append None Some (filter f (range a n)) (a + n)
