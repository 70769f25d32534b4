-- Turns of the loops over a table, and what a store of a row leaves.
use Rattle.std.specs.Prelude.{◌≡◌, Bool, cond, Option, Some, None, is_some}
use Rattle.std.proofs.Math.Path.{refl, sym, ap}
use Rattle.std.proofs.Common.{◌∙◌, length-set, get_or-set_same, get_or-set_other, get_or, take}
use Rattle.std.proofs.lemmas.List.{get_or-take}
use Rattle.std.proofs.lemmas.List.Sums.{count_by_more_yes, count_by_more_no, sum_by_more}
use Rattle.std.specs.List.{count_by, sum_by}
use Rattle.std.proofs.Math.Bool.{true, false}
use mathlib.Core.List.{List, [], ◌∷◌, map}
use Prim.Native.Nat.{ℕ, zero, suc, ◌+◌, ◌-◌, ◌^◌, ◌≤◌, ◌<◌}
use Rattle.std.proofs.Math.Numerals.{add-one}
use native.Mathlib.Omega.{arith}
use Rattle.std.proofs.Math.ListN.{length}
use borrow.Author.Tests.{le-leb, leb-true, eqb-true, eqb-false}
use Rattle.std.proofs.Math.Dec.{eqb, leb}
use Rattle.std.specs.List.{filter}
use Rattle.port_tables.specs.Searches.{Searched, SearchedBack}
use Rattle.sketches.specs.Plan.{PlanBlock, ports_in_all}
use denote.Ref.{Bor}
use denote.Param.Members.{Mut}
use Rattle.std.specs.declared.iter.Map.{Map}
use Rattle.std.specs.declared.slice.Iter.{Iter}
use Rattle.std.specs.Fn.{Called}
use Rattle.std.specs.Iterator.Adapters.{map_source, map_callee, map_steps}
use Rattle.std.specs.Iterator.Runs.{EachRunFrom}
use Rattle.std.specs.List.{fold}
use Rattle.std.specs.Slice.Iter.{iter_rest}
use Rattle.std.proofs.iter.Yields.{fronts}
use Rattle.std.proofs.lemmas.Iterator.{YieldsList-from_slice}
use Rattle.std.proofs.lemmas.Iterator.Adapters.{fits_from_length, at_most_from_yields_List}
use Rattle.sketches.specs.Rows.{row_slots, hits, row_at, put_row, rows_in, Table, newest_hit, oldest_hit, block_of, past, first, is_there_any, no_row}
use Rattle.sketches.specs.declared.tests.Test.{Test}
use Rattle.sketches.specs.declared.rows.Row.{Row}

-- The newest and the oldest row that is hit.

module _ (f : Row → Bool) (t : List Row) where
  oldest_passed : (i n : ℕ) → ((k : ℕ) → i ≤ k → k < i + n → f (row_at t k) ≡ false) → 0 ≡ oldest_hit f t i n
  unfolding oldest_hit
  oldest_passed i zero h = refl
  oldest_passed i (suc n) h = rw (h i (omega arith) (omega arith)) (oldest_passed (suc i) n (λ k a b. h k (omega arith) (omega arith)))

  oldest_stopped : (i n d : ℕ) → d < n → f (row_at t (i + d)) ≡ true → ((k : ℕ) → i ≤ k → k < i + d → f (row_at t k) ≡ false) → suc (i + d) ≡ oldest_hit f t i n
  unfolding oldest_hit
  oldest_stopped i zero d l e h = absurd (omega arith)
  oldest_stopped i (suc n) zero l e h = let s : i + 0 ≡ i = omega arith in rw (rw s at e, s)
  oldest_stopped i (suc n) (suc d) l e h =
      let s : i + suc d ≡ suc i + d = omega arith in
      rw (h i (omega arith) (omega arith), s) (oldest_stopped (suc i) n d (omega arith) (rw s at e) (λ k a b. h k (omega arith) (omega arith)))

  pub oldest_searched : (from end : ℕ) (r : Option ℕ) → Searched (λ k. f (row_at t k)) from end r → past r ≡ oldest_hit f t from (end - from)
  oldest_searched from end None h = oldest_passed from (end - from) (λ k a b. h k a (omega arith))
  oldest_searched from end (Some i) (low, high, hit, passed) =
      let s : from + (i - from) ≡ i = omega arith in
      rw (sym s) (oldest_stopped from (end - from) (i - from) (omega arith) (rw s hit) (λ k a b. passed k a (omega arith)))

module _ (f : Row → Bool) (t : List Row) (low : ℕ) where
  newest_passed : (high : ℕ) → ((k : ℕ) → low ≤ k → k < high → f (row_at t k) ≡ false) → 0 ≡ newest_hit f t low high
  unfolding newest_hit
  newest_passed zero h = refl
  newest_passed (suc n) h = go (leb low n) refl (newest_passed n (λ k a b. h k a (omega arith)))
    where
      go : (b : Bool) → leb low n ≡ b → 0 ≡ newest_hit f t low n → 0 ≡ cond b (cond (f (row_at t n)) (suc n) (newest_hit f t low n)) 0
      go true e rest = rw (h n (leb-true low n e) (omega arith)) rest
      go false e rest = refl

  newest_stopped : (high i : ℕ) → low ≤ i → i < high → f (row_at t i) ≡ true → ((k : ℕ) → i < k → k < high → f (row_at t k) ≡ false) → suc i ≡ newest_hit f t low high
  unfolding newest_hit
  newest_stopped zero i l m e h = absurd (omega arith)
  newest_stopped (suc n) i l m e h = rw (le-leb low n (omega arith)) (go (eqb i n) refl (λ q. newest_stopped n i l q e (λ k a b. h k a (omega arith))))
    where
      go : (b : Bool) → eqb i n ≡ b → (i < n → suc i ≡ newest_hit f t low n) → suc i ≡ cond (f (row_at t n)) (suc n) (newest_hit f t low n)
      go true q rest = let s : i ≡ n = eqb-true i n q in rw (rw s at e) (ap suc s)
      go false q rest = let d = eqb-false i n q in rw (h n (omega (arith, d)) (omega arith)) (rest (omega (arith, d)))

  pub newest_searched : (high : ℕ) (r : Option ℕ) → SearchedBack (λ k. f (row_at t k)) low high r → past r ≡ newest_hit f t low high
  newest_searched high None h = newest_passed high h
  newest_searched high (Some i) (l, m, e, h) = newest_stopped high i l m e h

-- Rows whose numbers are summed.

pub ports_taken : (k : Row → PlanBlock) (seen : List Row → List PlanBlock) → seen [] ≡ [] → ((r : Row) (l : List Row) → seen (r ∷ l) ≡ k r ∷ seen l) → (t : List Row) (n : ℕ) → n ≤ length t
    → sum_by (λ r. (k r).incoming + (k r).outgoing) (take n t) ≡ ports_in_all (seen (rows_in t n))
unfolding rows_in ports_in_all
ports_taken k seen a b t zero h = rw a refl
ports_taken k seen a b t (suc n) h =
    let q : sum_by (λ r. (k r).incoming + (k r).outgoing) (take (n + 1) t) ≡ sum_by (λ r. (k r).incoming + (k r).outgoing) (take n t) + ((k (row_at t n)).incoming + (k (row_at t n)).outgoing) = sum_by_more (λ r. (k r).incoming + (k r).outgoing) t n no_row (omega arith) in
    let p = ports_taken k seen a b t n (omega arith) in
    rw (b (row_at t n) (rows_in t n)) (rw add-one at q ∙ omega arith)

-- what `sum` asks of rows of which each gives few
pub sum_fits : {F : Type 0} {g : Mut F (Bor Row × Unit {0}) ℕ} {f : F} {s : Map (Iter Row) F} (t : List Row) → iter_rest (map_source s) ≡ t → length t ≤ row_slots → map_callee s ≡ f
    → ((x : Bor Row) (r : ℕ) (q : F) → Called g f (x, tt) r q → (q ≡ f) × (r ≤ 8589934590)) → EachRunFrom (map_steps fronts g) s (λ p. fold (λ a x. a + x) 0 p.items < 2 ^ 64)
sum_fits {g = g} {f = f} t e few same told = fits_from_length g f row_slots (2 ^ 64) (at_most_from_yields_List (YieldsList-from_slice t e) few) same (omega arith) (λ x r q k. let p = told x r q k in (p.0, omega (arith, p.1)))

-- Rows that are counted.

module _ (f : Row → Bool) (t : List Row) where
  pub none_more_hit : (i : ℕ) → f (row_at t i) ≡ false → filter f (rows_in t (i + 1)) ≡ filter f (rows_in t i)
  unfolding rows_in
  none_more_hit i e = rw (add-one i, e)

  pub one_more_kept : (i : ℕ) → f (row_at t i) ≡ true → filter f (rows_in t (i + 1)) ≡ row_at t i ∷ filter f (rows_in t i)
  unfolding rows_in
  one_more_kept i e = rw (add-one i, e)

-- the same rows as the front of a list
pub row_taken : (t : List Row) (n i : ℕ) → i < n → get_or (take n t) i no_row ≡ row_at t i
row_taken t n i h = get_or-take n t i no_row h

pub count_taken : (f : Row → Bool) (t : List Row) (n : ℕ) → n ≤ length t → count_by f (take n t) ≡ length (filter f (rows_in t n))
unfolding rows_in
count_taken f t zero h = refl
count_taken f t (suc n) h = go (f (row_at t n)) refl (count_taken f t n (omega arith))
  where
    go : (b : Bool) → f (row_at t n) ≡ b → count_by f (take n t) ≡ length (filter f (rows_in t n)) → count_by f (take (suc n) t) ≡ length (filter f (rows_in t (suc n)))
    go true p e = let q : count_by f (take (n + 1) t) ≡ count_by f (take n t) + 1 = count_by_more_yes f t n no_row (omega arith) p in rw p (rw (add-one, add-one) at q ∙ ap suc e)
    go false p e = let q : count_by f (take (n + 1) t) ≡ count_by f (take n t) = count_by_more_no f t n no_row (omega arith) p in rw p (rw add-one at q ∙ e)

-- A row is stored.

pub length_put : (t : List Row) (k : ℕ) (r : Row) → length (put_row t k r) ≡ length t
length_put t k r = length-set t k r

-- what stands beyond the row, or before it, stays
pub put_other : (t : List Row) (k : ℕ) (r : Row) (j : ℕ) → (k ≡ j → ⊥) → row_at (put_row t k r) j ≡ row_at t j
put_other t k r j h = get_or-set_other t k j r no_row (λ e. omega (arith, h))

pub rows_before : (t : List Row) (k : ℕ) (r : Row) (n : ℕ) → n ≤ k → rows_in (put_row t k r) n ≡ rows_in t n
unfolding rows_in
rows_before t k r zero h = refl
rows_before t k r (suc n) h =
    rw (put_other t k r n (λ e. omega arith), rows_before t k r n (omega arith))

-- so many rows and the next
pub rows_more : (t : List Row) (i : ℕ) → rows_in t (i + 1) ≡ row_at t i ∷ rows_in t i
unfolding rows_in
rows_more t i = rw (add-one i)

-- one more row
pub row_added : (t : List Row) (k : ℕ) (r : Row) → Table t → k < 3072 → rows_in (put_row t k r) (k + 1) ≡ r ∷ rows_in t k
unfolding rows_in
row_added t k r h l = rw (add-one k, get_or-set_same t k r no_row (omega arith), rows_before t k r k (omega arith))

-- Dropping: the kept rows stand first, and from the place of the next one on the table is as it was.

pub record Closing (f : Row → Bool) (t₀ : List Row) (count : ℕ) (t : List Row) (kept i : ℕ) : Type 0 where
  pub within : i ≤ count
  pub fewer : kept ≤ i
  pub table : Table t
  pub rest : (j : ℕ) → kept ≤ j → row_at t j ≡ row_at t₀ j
  pub rows : rows_in t kept ≡ filter f (rows_in t₀ i)

-- Changing: the rows so far are changed, and what comes is as it was.

pub record Changing (g : PlanBlock → PlanBlock) (t₀ : List Row) (count : ℕ) (t : List Row) (i : ℕ) : Type 0 where
  pub within : i ≤ count
  pub table : Table t
  pub rest : (j : ℕ) → i ≤ j → row_at t j ≡ row_at t₀ j
  pub rows : map block_of (rows_in t i) ≡ map g (map block_of (rows_in t₀ i))

-- The newest row that is hit is the first of those that are.

pub newest_none : (f : Row → Bool) (t : List Row) (n : ℕ) → newest_hit f t 0 n ≡ 0 → filter f (rows_in t n) ≡ []
unfolding newest_hit rows_in
newest_none f t zero e = refl
newest_none f t (suc n) e = go (f (row_at t n)) refl (rw (le-leb 0 n (omega arith)) at e) (newest_none f t n)
  where
    go : (b : Bool) → f (row_at t n) ≡ b → cond (f (row_at t n)) (suc n) (newest_hit f t 0 n) ≡ 0 → (newest_hit f t 0 n ≡ 0 → filter f (rows_in t n) ≡ []) →
        cond (f (row_at t n)) (row_at t n ∷ filter f (rows_in t n)) (filter f (rows_in t n)) ≡ []
    go true p q rest = let s : suc n ≡ 0 = rw p at q in absurd (omega arith)
    go false p q rest = let s : newest_hit f t 0 n ≡ 0 = rw p at q in rw p (rest s)

pub newest_some : (f : Row → Bool) (t : List Row) (n k : ℕ) → newest_hit f t 0 n ≡ suc k → (filter f (rows_in t n) ≡ row_at t k ∷ filter f (rows_in t k)) × (k < n)
unfolding newest_hit rows_in
newest_some f t zero k e = absurd (omega arith)
newest_some f t (suc n) k e = go (f (row_at t n)) refl (rw (le-leb 0 n (omega arith)) at e) (newest_some f t n k)
  where
    go : (b : Bool) → f (row_at t n) ≡ b → cond (f (row_at t n)) (suc n) (newest_hit f t 0 n) ≡ suc k →
        (newest_hit f t 0 n ≡ suc k → (filter f (rows_in t n) ≡ row_at t k ∷ filter f (rows_in t k)) × (k < n)) →
        (cond (f (row_at t n)) (row_at t n ∷ filter f (rows_in t n)) (filter f (rows_in t n)) ≡ row_at t k ∷ filter f (rows_in t k)) × (k < suc n)
    go true p q rest =
        let s : suc n ≡ suc k = rw p at q in
        let e : n ≡ k = omega arith in
        (rw p (ap (λ (m : ℕ). row_at t m ∷ filter f (rows_in t m)) e), omega arith)
    go false p q rest =
        let s : newest_hit f t 0 n ≡ suc k = rw p at q in
        let r = rest s in
        let l = r.1 in
        (rw p r.0, omega arith)

-- the row before a place; none before the first
abbrev pub row_before : List Row → ℕ → Option Row
row_before t zero = None
row_before t (suc i) = Some (row_at t i)

module _ (q : Test) (t : List Row) (n : ℕ) where
  pub newest_is_none : newest_hit (hits q) t 0 n ≡ 0 → first (filter (hits q) (rows_in t n)) ≡ None
  newest_is_none e = ap first (newest_none (hits q) t n e)

  pub newest_is : 0 < newest_hit (hits q) t 0 n → first (filter (hits q) (rows_in t n)) ≡ Some (row_at t (newest_hit (hits q) t 0 n - 1))
  newest_is l = let e : newest_hit (hits q) t 0 n ≡ suc (newest_hit (hits q) t 0 n - 1) = omega arith in ap first (newest_some (hits q) t n (newest_hit (hits q) t 0 n - 1) e).0

  pub any_read : is_there_any (filter (hits q) (rows_in t n)) ≡ is_some (row_before t (newest_hit (hits q) t 0 n))
  any_read = go (newest_hit (hits q) t 0 n) refl
    where
      go : (k : ℕ) → newest_hit (hits q) t 0 n ≡ k → is_there_any (filter (hits q) (rows_in t n)) ≡ is_some (row_before t k)
      go zero e = ap is_there_any (newest_none (hits q) t n e)
      go (suc k) e = ap is_there_any (newest_some (hits q) t n k e).0

  pub newest_few : newest_hit (hits q) t 0 n ≤ n
  newest_few = go (newest_hit (hits q) t 0 n) refl
    where
      go : (k : ℕ) → newest_hit (hits q) t 0 n ≡ k → k ≤ n
      go zero e = omega arith
      go (suc k) e = let l = (newest_some (hits q) t n k e).1 in omega arith
