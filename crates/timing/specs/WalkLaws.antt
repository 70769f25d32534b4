-- Laws of walks: a block is come to along any number of wires exactly if a cycle reaches it, and the largest sum is that of some walk, and
-- of none larger.
use Rattle.std.specs.Prelude.{◌≡◌, Bool, false, ◌||◌, ◌⊎◌, eqb}
use Rattle.std.proofs.Math.Path.{refl, subst}
use Rattle.std.proofs.Common.{sym, ap, ◌∙◌, inl, inr, ⊎_elim, eqb-true}
use Rattle.std.proofs.Math.Bool.{true}
use mathlib.Core.List.{List, [], ◌∷◌, ◌++◌}
use Prim.Native.Nat.{ℕ, zero, suc, ◌+◌, ◌-◌, ◌≤◌, ◌<◌, max}
use native.Mathlib.Omega.{arith}
use Rattle.std.proofs.Math.ListN.{length, length-append}
use Rattle.std.proofs.lemmas.Bool.{eqb-false, cases_lt, false_from_ne_true}
use Rattle.port_tables.specs.Lists.{Member, Rising}
use Rattle.multiportgraph.specs.HiddenStays.{true_not_false}
use Rattle.port_tables.specs.Listing.{Apart, apart_below}
use Rattle.timing.specs.Longest.{Feed, feeders, any_of, largest_of, comes, largest_sum}
use Rattle.timing.specs.TimingClaims.{Leads, CycleReaches, sum_along}

-- Some and the largest.

pub any_some : (t : ℕ → Bool) (l : List ℕ) → any_of t l ≡ true → (p : ℕ) × Member p l × (t p ≡ true)
unfolding any_of
any_some t [] e = absurd (true_not_false e refl)
any_some t (p ∷ l) e = go (t p) refl (any_some t l) e
  where
    go : (b : Bool) → t p ≡ b → (any_of t l ≡ true → (q : ℕ) × Member q l × (t q ≡ true)) → (b || any_of t l) ≡ true → (q : ℕ) × Member q (p ∷ l) × (t q ≡ true)
    go true h rest k = (p, inl refl, h)
    go false h rest k = let r = rest k in (r.0, inr r.1, r.2)

pub some_any : (t : ℕ → Bool) (l : List ℕ) (p : ℕ) → Member p l → t p ≡ true → any_of t l ≡ true
unfolding any_of
some_any t [] p never h = absurd never
some_any t (q ∷ l) p (inl e) h = rw (← e, h)
some_any t (q ∷ l) p (inr i) h = go (t q) (some_any t l p i h)
  where
    go : (b : Bool) → any_of t l ≡ true → (b || any_of t l) ≡ true
    go true e = refl
    go false e = e

pub none_any : (t : ℕ → Bool) (l : List ℕ) → ((p : ℕ) → Member p l → t p ≡ false) → any_of t l ≡ false
unfolding any_of
none_any t [] h = refl
none_any t (p ∷ l) h = rw (h p (inl refl)) (none_any t l (λ q i. h q (inr i)))

pub any_none : (t : ℕ → Bool) (l : List ℕ) → any_of t l ≡ false → (p : ℕ) → Member p l → t p ≡ false
any_none t l e p i = false_from_ne_true (t p) (λ h. true_not_false (some_any t l p i h) e)

pub largest_above : (v : ℕ → ℕ) (l : List ℕ) (p : ℕ) → Member p l → v p ≤ largest_of v l
unfolding largest_of
largest_above v [] p never = absurd never
largest_above v (q ∷ l) p (inl e) = rw (← e) (omega arith)
largest_above v (q ∷ l) p (inr i) = let h = largest_above v l p i in omega arith

-- it is that of some item, or 0 where there is none
pub largest_some : (v : ℕ → ℕ) (l : List ℕ) → ((l ≡ []) × (largest_of v l ≡ 0)) ⊎ ((p : ℕ) × Member p l × (largest_of v l ≡ v p))
unfolding largest_of
largest_some v [] = inl (refl, refl)
largest_some v (p ∷ l) = inr (go (largest_some v l))
  where
    pick : (q : ℕ) → Member q l → largest_of v l ≡ v q → v p < v q ⊎ v q ≤ v p → (r : ℕ) × Member r (p ∷ l) × (max (v p) (largest_of v l) ≡ v r)
    pick q i e (inl h) = (q, inr i, omega arith)
    pick q i e (inr h) = (p, inl refl, omega arith)

    go : ((l ≡ []) × (largest_of v l ≡ 0)) ⊎ ((q : ℕ) × Member q l × (largest_of v l ≡ v q)) → (q : ℕ) × Member q (p ∷ l) × (max (v p) (largest_of v l) ≡ v q)
    go (inl h) = let e = h.1 in (p, inl refl, omega arith)
    go (inr h) = pick h.0 h.1 h.2 (cases_lt (v p) (v h.0))

-- it is known by being above all and that of some
pub largest_is : (v : ℕ → ℕ) (l : List ℕ) (x : ℕ) → ((p : ℕ) → Member p l → v p ≤ x) → (x ≡ 0) ⊎ ((p : ℕ) × Member p l × (x ≡ v p)) → x ≡ largest_of v l
unfolding largest_of
largest_is v l x above some = go (largest_some v l) some
  where
    go : ((l ≡ []) × (largest_of v l ≡ 0)) ⊎ ((p : ℕ) × Member p l × (largest_of v l ≡ v p)) → (x ≡ 0) ⊎ ((p : ℕ) × Member p l × (x ≡ v p)) → x ≡ largest_of v l
    go (inl h) (inl e) = let k = h.1 in omega arith
    go (inl h) (inr s) = absurd (subst (Member s.0) h.0 s.1)
    go (inr h) (inl e) = let a = above h.0 h.1 in let k = h.2 in omega arith
    go (inr h) (inr s) = let a = above h.0 h.1 in let k = h.2 in let b = largest_above v l s.0 s.1 in let c = s.2 in omega arith

pub largest_more : (v w : ℕ → ℕ) (l : List ℕ) → ((p : ℕ) → v p ≤ w p) → largest_of v l ≤ largest_of w l
unfolding largest_of
largest_more v w [] h = omega arith
largest_more v w (p ∷ l) h = let a = h p in let b = largest_more v w l h in omega arith

pub largest_same : (v w : ℕ → ℕ) (l : List ℕ) → ((p : ℕ) → Member p l → v p ≡ w p) → largest_of v l ≡ largest_of w l
unfolding largest_of
largest_same v w [] h = refl
largest_same v w (p ∷ l) h = let a = h p (inl refl) in let b = largest_same v w l (λ q i. h q (inr i)) in λ j. max (a j) (b j)

-- Walks by whatever relation.

module _ (R : ℕ → ℕ → Type 0) where
  pub leads_on : (a p n : ℕ) (l : List ℕ) → Leads R a p l → R p n → Leads R a n (l ++ (n ∷ []))
  leads_on a p n [] e r = (subst (λ (x : ℕ). R x n) (sym e) r, refl)
  leads_on a p n (c ∷ l) h r = (h.0, leads_on c p n l h.1 r)

  pub leads_split : (a n c : ℕ) (l on : List ℕ) → Leads R a n (l ++ (c ∷ on)) → Leads R a c (l ++ (c ∷ [])) × Leads R c n on
  leads_split a n c [] on h = ((h.0, refl), h.1)
  leads_split a n c (b ∷ l) on h = let r = leads_split b n c l on h.1 in ((h.0, r.0), r.1)

  -- the blocks of a walk of at least one wire have the test that ends of wires have
  pub leads_all : (T : ℕ → Type 0) → ((p n : ℕ) → R p n → T p × T n) → (a n : ℕ) (l : List ℕ) → T n → Leads R a n l → (x : ℕ) → Member x (a ∷ l) → T x
  leads_all T ends a n [] t e x (inr never) = absurd never
  leads_all T ends a n [] t e x (inl p) = subst T (sym (p ∙ e)) t
  leads_all T ends a n (c ∷ l) t h x (inl p) = subst T (sym p) (ends a c h.0).0
  leads_all T ends a n (c ∷ l) t h x (inr i) = leads_all T ends c n l t h.1 x i

pub leads_by : (R S : ℕ → ℕ → Type 0) → ((p n : ℕ) → R p n → S p n) → (a n : ℕ) (l : List ℕ) → Leads R a n l → Leads S a n l
leads_by R S f a n [] h = h
leads_by R S f a n (c ∷ l) h = (f a c h.0, leads_by R S f c n l h.1)

pub sum_append : (t : ℕ → ℕ) (a b : List ℕ) → sum_along t (a ++ b) ≡ sum_along t a + sum_along t b
sum_append t [] b = omega arith
sum_append t (n ∷ a) b = let h = sum_append t a b in omega arith

-- Repeats.

member_split : (c : ℕ) (l : List ℕ) → Member c l → (x : List ℕ) × (y : List ℕ) × (l ≡ x ++ (c ∷ y))
member_split c [] never = absurd never
member_split c (n ∷ l) (inl e) = ([], l, ap (λ (k : ℕ). k ∷ l) (sym e))
member_split c (n ∷ l) (inr i) = let r = member_split c l i in (n ∷ r.0, r.1, ap (λ (k : List ℕ). n ∷ k) r.2)

pub member_or_not : (c : ℕ) (l : List ℕ) → Member c l ⊎ (Member c l → ⊥)
member_or_not c [] = inr (λ i. i)
member_or_not c (n ∷ l) = go (eqb c n) refl (member_or_not c l)
  where
    go : (b : Bool) → eqb c n ≡ b → Member c l ⊎ (Member c l → ⊥) → Member c (n ∷ l) ⊎ (Member c (n ∷ l) → ⊥)
    go true e h = inl (inl (eqb-true c n e))
    go false e (inl i) = inl (inr i)
    go false e (inr h) = inr (⊎_elim (eqb-false c n e) h)

-- a list has no repeats, or some item stands in it twice
pub repeats : (l : List ℕ) → Rising Apart l ⊎ ((c : ℕ) × (x : List ℕ) × (y : List ℕ) × (z : List ℕ) × (l ≡ x ++ (c ∷ (y ++ (c ∷ z)))))
repeats [] = inl tt
repeats (n ∷ l) = go (member_or_not n l) (repeats l)
  where
    go : Member n l ⊎ (Member n l → ⊥) → Rising Apart l ⊎ ((c : ℕ) × (x : List ℕ) × (y : List ℕ) × (z : List ℕ) × (l ≡ x ++ (c ∷ (y ++ (c ∷ z))))) →
        Rising Apart (n ∷ l) ⊎ ((c : ℕ) × (x : List ℕ) × (y : List ℕ) × (z : List ℕ) × (n ∷ l ≡ x ++ (c ∷ (y ++ (c ∷ z)))))
    go (inl i) r = let s = member_split n l i in inr (n, [], s.0, s.1, ap (λ (k : List ℕ). n ∷ k) s.2)
    go (inr h) (inl r) = inl ((λ y i e. h (subst (λ (k : ℕ). Member k l) (sym e) i)), r)
    go (inr h) (inr s) = inr (s.0, n ∷ s.1, s.2, s.3, ap (λ (k : List ℕ). n ∷ k) s.4)

-- Walks along feeds.

module _ (feeds : List Feed) where
  -- a block feeds another
  abbrev pub Fed : ℕ → ℕ → Type 0
  Fed p n = Member p (feeders feeds n)

  pub comes_less : (k n : ℕ) → comes feeds (suc k) n ≡ true → comes feeds k n ≡ true
  unfolding comes
  comes_less zero n e = refl
  comes_less (suc k) n e =
      let r = any_some (comes feeds (suc k)) (feeders feeds n) e in
      some_any (comes feeds k) (feeders feeds n) r.0 r.1 (comes_less k r.0 r.2)

  pub comes_fewer : (d k n : ℕ) → comes feeds (d + k) n ≡ true → comes feeds k n ≡ true
  comes_fewer zero k n e = let z : 0 + k ≡ k = omega arith in subst (λ (j : ℕ). comes feeds j n ≡ true) z e
  comes_fewer (suc d) k n e =
      let z : suc d + k ≡ suc (d + k) = omega arith in
      comes_fewer d k n (comes_less (d + k) n (subst (λ (j : ℕ). comes feeds j n ≡ true) z e))

  pub comes_along : (k a n : ℕ) (l : List ℕ) → comes feeds k a ≡ true → Leads Fed a n l → comes feeds (length l + k) n ≡ true
  unfolding comes
  comes_along k a n [] e h = let z : k ≡ 0 + k = omega arith in subst (λ (j : ℕ). comes feeds j n ≡ true) z (subst (λ (x : ℕ). comes feeds k x ≡ true) h e)
  comes_along k a n (c ∷ l) e h =
      let s : comes feeds (suc k) c ≡ true = some_any (comes feeds k) (feeders feeds c) a h.0 e in
      let z : length l + suc k ≡ suc (length l) + k = omega arith in
      subst (λ (j : ℕ). comes feeds j n ≡ true) z (comes_along (suc k) c n l s h.1)

  pub walk_of : (k n : ℕ) → comes feeds k n ≡ true → (a : ℕ) × (l : List ℕ) × Leads Fed a n l × (length l ≡ k)
  unfolding comes
  walk_of zero n e = (n, [], refl, refl)
  walk_of (suc k) n e =
      let r = any_some (comes feeds k) (feeders feeds n) e in
      let w = walk_of k r.0 r.2 in
      let s = length-append w.1 (n ∷ []) in
      let q = w.3 in
      (w.0, w.1 ++ (n ∷ []), leads_on Fed w.0 r.0 n w.1 w.2 r.1, omega arith)

  cycle_comes : (a b : ℕ) (l : List ℕ) → Leads Fed a a (b ∷ l) → (k : ℕ) → comes feeds k a ≡ true
  cycle_comes a b l h zero = unfold comes in refl
  cycle_comes a b l h (suc k) =
      let c = comes_along k a a (b ∷ l) (cycle_comes a b l h k) h in
      let z : suc (length l) + k ≡ length l + suc k = omega arith in
      comes_fewer (length l) (suc k) a (subst (λ (j : ℕ). comes feeds j a ≡ true) z c)

  -- a cycle that reaches a block gives walks of any length
  pub cycle_reaches_comes : (n : ℕ) → CycleReaches Fed n → (k : ℕ) → comes feeds k n ≡ true
  cycle_reaches_comes n c k =
      comes_fewer (length c.3) k n (comes_along k c.0 n c.3 (cycle_comes c.0 c.1 c.2 c.4 k) c.5)

  -- a walk that passes a block twice passes a cycle
  pub repeat_reaches : (a n : ℕ) (l : List ℕ) → Leads Fed a n l → (c : ℕ) (x y z : List ℕ) → a ∷ l ≡ x ++ (c ∷ (y ++ (c ∷ z))) → CycleReaches Fed n
  repeat_reaches a n l w c x y z = go x
    where
      ended : (y : List ℕ) → Leads Fed c c (y ++ (c ∷ [])) → Leads Fed c n z → CycleReaches Fed n
      ended [] w k = (c, c, [], z, w, k)
      ended (b ∷ y) w k = (c, b, y ++ (c ∷ []), z, w, k)

      go : (x : List ℕ) → a ∷ l ≡ x ++ (c ∷ (y ++ (c ∷ z))) → CycleReaches Fed n
      go [] q =
          let p : a ≡ c = cc in
          let r : l ≡ y ++ (c ∷ z) = cc in
          let s = leads_split Fed a n c y z (subst (λ (k : List ℕ). Leads Fed a n k) r w) in
          ended y (subst (λ (k : ℕ). Leads Fed k c (y ++ (c ∷ []))) p s.0) s.1
      go (b ∷ x) q =
          let r : l ≡ x ++ (c ∷ (y ++ (c ∷ z))) = cc in
          let s = leads_split Fed a n c x (y ++ (c ∷ z)) (subst (λ (k : List ℕ). Leads Fed a n k) r w) in
          let t = leads_split Fed c n c y z s.1 in
          ended y t.0 t.1

  -- so does one along as many wires as there are slots
  pub comes_cycle_reaches : (slots : ℕ) → ((p n : ℕ) → Fed p n → (p < slots) × (n < slots)) → (n : ℕ) → n < slots → comes feeds slots n ≡ true → CycleReaches Fed n
  comes_cycle_reaches slots below n h e = go (walk_of slots n e)
    where
      go : (a : ℕ) × (l : List ℕ) × Leads Fed a n l × (length l ≡ slots) → CycleReaches Fed n
      go (a, l, w, q) =
          ⊎_elim
          (λ r. let k = apart_below slots (a ∷ l) r (leads_all Fed (λ x. x < slots) below a n l h w) in absurd (omega arith))
          (λ s. repeat_reaches a n l w s.0 s.1 s.2 s.3 s.4)
          (repeats (a ∷ l))

  -- where no walk is so long, each is short, and passes no block twice
  pub walk_short : (slots a n : ℕ) (l : List ℕ) → comes feeds slots n ≡ false → Leads Fed a n l → length l ≤ slots
  walk_short slots a n l e w = go (cases_lt slots (length l))
    where
      go : slots < length l ⊎ length l ≤ slots → length l ≤ slots
      go (inr h) = h
      go (inl h) =
          let z : length l + 0 ≡ (length l - slots) + slots = omega arith in
          absurd (true_not_false (comes_fewer (length l - slots) slots n (subst (λ (k : ℕ). comes feeds k n ≡ true) z (comes_along 0 a n l (unfold comes in refl) w))) e)

  pub walk_apart : (slots a n : ℕ) (l : List ℕ) → comes feeds slots n ≡ false → Leads Fed a n l → Rising Apart (a ∷ l)
  walk_apart slots a n l e w =
      ⊎_elim (λ r. r) (λ s. absurd (true_not_false (cycle_reaches_comes n (repeat_reaches a n l w s.0 s.1 s.2 s.3 s.4) slots) e)) (repeats (a ∷ l))

  -- Sums.

  module _ (time : ℕ → ℕ) where
    sum_more : (k n : ℕ) → largest_sum feeds time k n ≤ largest_sum feeds time (suc k) n
    unfolding largest_sum
    sum_more zero n = omega arith
    sum_more (suc k) n = let h = largest_more (largest_sum feeds time k) (largest_sum feeds time (suc k)) (feeders feeds n) (sum_more k) in omega arith

    pub sum_of_more : (d k n : ℕ) → largest_sum feeds time k n ≤ largest_sum feeds time (d + k) n
    sum_of_more zero k n = let z : 0 + k ≡ k = omega arith in subst (λ (j : ℕ). largest_sum feeds time k n ≤ largest_sum feeds time j n) (sym z) (omega arith)
    sum_of_more (suc d) k n =
        let z : suc (d + k) ≡ suc d + k = omega arith in
        let a = sum_of_more d k n in
        let b = sum_more (d + k) n in
        subst (λ (j : ℕ). largest_sum feeds time k n ≤ largest_sum feeds time j n) z (omega arith)

    sum_along_lem : (k a n x : ℕ) (l : List ℕ) → x ≤ largest_sum feeds time k a → Leads Fed a n l → x + sum_along time l ≤ largest_sum feeds time (length l + k) n
    unfolding largest_sum
    sum_along_lem k a n x [] h e =
        let z : k ≡ 0 + k = omega arith in
        subst (λ (j : ℕ). x + 0 ≤ largest_sum feeds time j n) z (subst (λ (y : ℕ). x + 0 ≤ largest_sum feeds time k y) e (omega arith))
    sum_along_lem k a n x (c ∷ l) h w =
        let g = largest_above (largest_sum feeds time k) (feeders feeds c) a w.0 in
        let z : length l + suc k ≡ suc (length l) + k = omega arith in
        let y : (x + time c) + sum_along time l ≡ x + (time c + sum_along time l) = omega arith in
        let b : x + time c ≤ time c + largest_of (largest_sum feeds time k) (feeders feeds c) = omega arith in
        let s = sum_along_lem (suc k) c n (x + time c) l b w.1 in
        subst (λ (j : ℕ). x + (time c + sum_along time l) ≤ largest_sum feeds time j n) z (subst (λ (j : ℕ). j ≤ largest_sum feeds time (length l + suc k) n) y s)

    -- no walk has a larger sum, if it has no more wires
    pub sum_above : (k a n : ℕ) (l : List ℕ) → Leads Fed a n l → length l ≤ k → sum_along time (a ∷ l) ≤ largest_sum feeds time k n
    sum_above k a n l w h =
        let s = sum_along_lem 0 a n (time a) l (unfold largest_sum in omega arith) w in
        let e : (k - length l) + (length l + 0) ≡ k = omega arith in
        let m = sum_of_more (k - length l) (length l + 0) n in
        subst (λ (j : ℕ). time a + sum_along time l ≤ largest_sum feeds time j n) e (omega arith)

    -- some walk has it
    pub sum_some : (k n : ℕ) → (a : ℕ) × (l : List ℕ) × Leads Fed a n l × (sum_along time (a ∷ l) ≡ largest_sum feeds time k n)
    unfolding largest_sum
    sum_some zero n = (n, [], refl, omega arith)
    sum_some (suc k) n = go (sum_some k) (largest_some (largest_sum feeds time k) (feeders feeds n))
      where
        go : ((p : ℕ) → (a : ℕ) × (l : List ℕ) × Leads Fed a p l × (sum_along time (a ∷ l) ≡ largest_sum feeds time k p)) →
            ((feeders feeds n ≡ []) × (largest_of (largest_sum feeds time k) (feeders feeds n) ≡ 0))
            ⊎ ((p : ℕ) × Member p (feeders feeds n) × (largest_of (largest_sum feeds time k) (feeders feeds n) ≡ largest_sum feeds time k p)) →
            (a : ℕ) × (l : List ℕ) × Leads Fed a n l × (sum_along time (a ∷ l) ≡ time n + largest_of (largest_sum feeds time k) (feeders feeds n))
        go rest (inl h) = let e = h.1 in (n, [], refl, omega arith)
        go rest (inr h) =
            let w = rest h.0 in
            let e = h.2 in
            let q = w.3 in
            let s = sum_append time w.1 (n ∷ []) in
            (w.0, w.1 ++ (n ∷ []), leads_on Fed w.0 h.0 n w.1 w.2 h.1, omega arith)
