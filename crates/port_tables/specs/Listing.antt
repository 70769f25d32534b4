-- Laws of lists: who stands in a list that is gathered, mapped or sifted, lists in which each item precedes all later ones,
-- and how many different numbers there are below a bound.
use Rattle.std.specs.Prelude.{◌≡◌, Bool, not, ◌⊎◌, suc, ℕ, zero, ◌+◌, ◌≤◌, ◌<◌, length, eqb, ltb, get_or, ◌-◌}
use Rattle.std.proofs.Math.Path.{refl, ap}
use Rattle.std.proofs.Common.{◌∙◌, subst, sym, arith}
use Rattle.std.proofs.Math.Bool.{true, false, cond}
use mathlib.Core.List.{List, [], ◌∷◌, ◌++◌, flat_map, map}
use Rattle.std.proofs.Math.Logic.{inl, inr, ⊎_elim}
use borrow.Author.Tests.{eqb-true, eqb-false, lt-ltb, le-ltb, ne_eqb, eq-eqb}
use Rattle.port_tables.specs.Lists.{Member, range, Rising, Once}
use Rattle.std.specs.List.{filter}
use Rattle.port_tables.specs.Places.{flag}
use Rattle.std.proofs.Math.ListN.{replicate}
use Rattle.std.proofs.lemmas.List.Elements.{filter-append}

-- Members.

module _ {A : Type 0} where
  pub member_left : (x : A) (a b : List A) → Member x a → Member x (a ++ b)
  member_left x (y ∷ a) b (inl e) = inl e
  member_left x (y ∷ a) b (inr i) = inr (member_left x a b i)
  member_left x [] b x'' = elim x'' [ ]

  pub member_right : (x : A) (a b : List A) → Member x b → Member x (a ++ b)
  member_right x [] b i = i
  member_right x (y ∷ a) b i = inr (member_right x a b i)

  pub member_append : (x : A) (a b : List A) → Member x (a ++ b) → Member x a ⊎ Member x b
  member_append x [] b i = inr i
  member_append x (y ∷ a) b (inl e) = inl (inl e)
  member_append x (y ∷ a) b (inr i) = ⊎_elim (λ h. inl (inr h)) inr (member_append x a b i)

  pub member_filter : (t : A → Bool) (x : A) (l : List A) → Member x (filter t l) → Member x l × (t x ≡ true)
  member_filter t x [] i = absurd i
  member_filter t x (y ∷ l) i = go (t y) refl (λ h. let r = member_filter t x l h in (inr r.0, r.1)) i
    where
      go : (b : Bool) → t y ≡ b → (Member x (filter t l) → Member x (y ∷ l) × (t x ≡ true)) → Member x (cond b (y ∷ filter t l) (filter t l)) → Member x (y ∷ l) × (t x ≡ true)
      go true e rest (inl p) = (inl p, ap t p ∙ e)
      go true e rest (inr h) = rest h
      go false e rest h = rest h

  pub filter_member : (t : A → Bool) (x : A) (l : List A) → Member x l → t x ≡ true → Member x (filter t l)
  filter_member t x (y ∷ l) (inl p) h = rw (← p, h) (inl refl)
  filter_member t x (y ∷ l) (inr i) h = go (t y) (filter_member t x l i h)
    where
      go : (b : Bool) → Member x (filter t l) → Member x (cond b (y ∷ filter t l) (filter t l))
      go true k = inr k
      go false k = k
  filter_member t x [] x3 h = elim x3 [ ]

module _ {A B : Type 0} where
  pub member_flat_map : (f : A → List B) (b : B) (l : List A) → Member b (flat_map f l) → (a : A) × Member a l × Member b (f a)
  unfolding flat_map
  member_flat_map f b [] i = absurd i
  member_flat_map f b (x ∷ l) i =
      ⊎_elim (λ h. (x, inl refl, h)) (λ h. let r = member_flat_map f b l h in (r.0, inr r.1, r.2)) (member_append b (f x) (flat_map f l) i)

  pub flat_map_member : (f : A → List B) (b : B) (a : A) (l : List A) → Member a l → Member b (f a) → Member b (flat_map f l)
  unfolding flat_map
  flat_map_member f b a (x ∷ l) (inl p) h = member_left b (f x) (flat_map f l) (subst (λ (y : A). Member b (f y)) p h)
  flat_map_member f b a (x ∷ l) (inr i) h = member_right b (f x) (flat_map f l) (flat_map_member f b a l i h)
  flat_map_member f b a [] x'' h = elim x'' [ ]

  pub member_map : (f : A → B) (b : B) (l : List A) → Member b (map f l) → (a : A) × Member a l × (b ≡ f a)
  member_map f b [] i = absurd i
  member_map f b (x ∷ l) (inl p) = (x, inl refl, p)
  member_map f b (x ∷ l) (inr i) = let r = member_map f b l i in (r.0, inr r.1, r.2)

  pub map_member : (f : A → B) (a : A) (l : List A) → Member a l → Member (f a) (map f l)
  map_member f a (x ∷ l) (inl p) = inl (ap f p)
  map_member f a (x ∷ l) (inr i) = inr (map_member f a l i)
  map_member f a [] x' = elim x' [ ]

  -- functions that agree on the items
  pub map_same_on : (f g : A → B) (l : List A) → ((x : A) → Member x l → f x ≡ g x) → map f l ≡ map g l
  map_same_on f g [] h = refl
  map_same_on f g (x ∷ l) h = λ j. h x (inl refl) j ∷ map_same_on f g l (λ y i. h y (inr i)) j

pub member_range : (x i n : ℕ) → Member x (range i n) → (i ≤ x) × (x < i + n)
unfolding range
member_range x i zero h = absurd h
member_range x i (suc n) (inl p) = omega arith
member_range x i (suc n) (inr h) = let r = member_range x (suc i) n h in omega arith

pub range_member : (x i n : ℕ) → i ≤ x → x < i + n → Member x (range i n)
unfolding range
range_member x i zero h k = absurd (omega arith)
range_member x i (suc n) h k = go (eqb x i) refl (λ l. range_member x (suc i) n l (omega arith))
  where
    go : (b : Bool) → eqb x i ≡ b → (suc i ≤ x → Member x (range (suc i) n)) → (x ≡ i) ⊎ Member x (range (suc i) n)
    go true e rest = inl (eqb-true x i e)
    go false e rest = let d = eqb-false x i e in inr (rest (omega arith))

pub flag_small : (b : Bool) → flag b ≤ 1
flag_small true = omega arith
flag_small false = omega arith

-- what a run of numbers gives, its first one apart
module _ {A : Type 0} (f : ℕ → List A) (o n : ℕ) where
  pub flat_map_on : o < n → flat_map f (range o (n - o)) ≡ f o ++ flat_map f (range (o + 1) (n - (o + 1)))
  unfolding flat_map range
  flat_map_on h =
      let e : n - o ≡ suc (n - (o + 1)) = omega arith in
      let s : o + 1 ≡ suc o = omega arith in
      rw (e, s)

  pub flat_map_end : n ≤ o → flat_map f (range o (n - o)) ≡ []
  unfolding flat_map range
  flat_map_end h = let e : n - o ≡ 0 = omega arith in rw e

-- a table of one value reads as it everywhere
pub get_or-replicate_default : {A : Type 0} (k n : ℕ) (d : A) → get_or (replicate k d) n d ≡ d
get_or-replicate_default zero n d = refl
get_or-replicate_default (suc k) zero d = refl
get_or-replicate_default (suc k) (suc n) d = get_or-replicate_default k n d

-- Sifting.

module _ {A : Type 0} (t : A → Bool) where
  pub filter_none : (l : List A) → ((x : A) → Member x l → t x ≡ false) → filter t l ≡ []
  filter_none [] h = refl
  filter_none (x ∷ l) h = rw (h x (inl refl)) (filter_none l (λ y i. h y (inr i)))

  pub filter_all : (l : List A) → ((x : A) → Member x l → t x ≡ true) → filter t l ≡ l
  filter_all [] h = refl
  filter_all (x ∷ l) h = rw (h x (inl refl)) (ap (λ (r : List A). x ∷ r) (filter_all l (λ y i. h y (inr i))))

  pub filter_shorter : (l : List A) → length (filter t l) ≤ length l
  filter_shorter [] = omega arith
  filter_shorter (x ∷ l) = go (t x) (filter_shorter l)
    where
      go : (b : Bool) → length (filter t l) ≤ length l → length (cond b (x ∷ filter t l) (filter t l)) ≤ suc (length l)
      go true h = omega arith
      go false h = omega arith

  pub filter_same : (u : A → Bool) (l : List A) → ((x : A) → Member x l → t x ≡ u x) → filter t l ≡ filter u l
  filter_same u [] h = refl
  filter_same u (x ∷ l) h = go (t x) (u x) (h x (inl refl)) (filter_same u l (λ y i. h y (inr i)))
    where
      go : (b c : Bool) → b ≡ c → filter t l ≡ filter u l → cond b (x ∷ filter t l) (filter t l) ≡ cond c (x ∷ filter u l) (filter u l)
      go b c p q = cc

  pub filter_flat_map : {B : Type 0} (f : B → List A) (l : List B) → filter t (flat_map f l) ≡ flat_map (λ b. filter t (f b)) l
  unfolding flat_map
  filter_flat_map f [] = refl
  filter_flat_map f (x ∷ l) = filter-append t (f x) (flat_map f l) ∙ ap (λ (r : List A). filter t (f x) ++ r) (filter_flat_map f l)

pub filter_map : {A B : Type 0} (h : A → B) (t : B → Bool) (l : List A) → filter t (map h l) ≡ map h (filter (λ a. t (h a)) l)
filter_map h t [] = refl
filter_map {A} {B} h t (x ∷ l) = go (t (h x)) (filter_map h t l)
  where
    go : (b : Bool) → filter t (map h l) ≡ map h (filter (λ a. t (h a)) l) →
        cond b (h x ∷ filter t (map h l)) (filter t (map h l)) ≡ map h (cond b (x ∷ filter (λ a. t (h a)) l) (filter (λ a. t (h a)) l))
    go true e = ap (λ (r : List B). h x ∷ r) e
    go false e = e

-- Lists in which each item precedes all later ones.

module _ {A : Type 0} (R : A → A → Type 0) where
  pub rising_append : (a b : List A) → Rising R a → Rising R b → ((x y : A) → Member x a → Member y b → R x y) → Rising R (a ++ b)
  rising_append [] b p q h = q
  rising_append (x ∷ a) b p q h =
      ((λ y i. ⊎_elim (p.0 y) (h x y (inl refl)) (member_append y a b i)), rising_append a b p.1 q (λ z y i j. h z y (inr i) j))

  pub rising_filter : (t : A → Bool) (l : List A) → Rising R l → Rising R (filter t l)
  rising_filter t [] r = tt
  rising_filter t (x ∷ l) r = go (t x) (rising_filter t l r.1)
    where
      go : (b : Bool) → Rising R (filter t l) → Rising R (cond b (x ∷ filter t l) (filter t l))
      go true s = ((λ y i. r.0 y (member_filter t y l i).0), s)
      go false s = s

  -- the rest of a list after an item: what the item precedes
  pub filter_rest : (t : A → Bool) (w : A) → t w ≡ false → ((v : A) → R w v → t v ≡ true) → ((v : A) → R v w → t v ≡ false) →
      (a rest : List A) → Rising R (a ++ (w ∷ rest)) → filter t (a ++ (w ∷ rest)) ≡ rest
  filter_rest t w h later earlier [] rest r = rw h (filter_all t rest (λ v i. later v (r.0 v i)))
  filter_rest t w h later earlier (x ∷ a) rest r =
      rw (earlier x (r.0 w (member_right w a (w ∷ rest) (inl refl)))) (filter_rest t w h later earlier a rest r.1)

  -- such a list is known by its items, where no two items precede each other
  module _ (asym : (x y : A) → R x y → R y x → ⊥) where
    pub rising_by_items : (a b : List A) → Rising R a → Rising R b → ((x : A) → Member x a → Member x b) → ((x : A) → Member x b → Member x a) → a ≡ b
    rising_by_items [] [] r s f g = refl
    rising_by_items [] (y ∷ b) r s f g = absurd (g y (inl refl))
    rising_by_items (x ∷ a) [] r s f g = absurd (f x (inl refl))
    rising_by_items (x ∷ a) (y ∷ b) r s f g =
        let e : x ≡ y = first (f x (inl refl)) (g y (inl refl)) in
        let down : (z : A) → Member z a → Member z b = λ z i. ⊎_elim (λ p. absurd (asym x x (subst (R x) (p ∙ sym e) (r.0 z i)) (subst (R x) (p ∙ sym e) (r.0 z i)))) (λ j. j) (f z (inr i)) in
        let up : (z : A) → Member z b → Member z a = λ z i. ⊎_elim (λ p. absurd (asym y y (subst (R y) (p ∙ e) (s.0 z i)) (subst (R y) (p ∙ e) (s.0 z i)))) (λ j. j) (g z (inr i)) in
        let q : a ≡ b = rising_by_items a b r.1 s.1 down up in
        cc
      where
        first : (x ≡ y) ⊎ Member x b → (y ≡ x) ⊎ Member y a → x ≡ y
        first (inl p) j = p
        first (inr i) (inl p) = sym p
        first (inr i) (inr j) = absurd (asym x y (r.0 y j) (s.0 x i))

module _ {A B : Type 0} (S : A → A → Type 0) (R : B → B → Type 0) where
  pub rising_flat_map : (f : A → List B) (l : List A) → Rising S l → ((a : A) → Member a l → Rising R (f a)) →
      ((a c : A) (x y : B) → Member a l → Member c l → S a c → Member x (f a) → Member y (f c) → R x y) → Rising R (flat_map f l)
  unfolding flat_map
  rising_flat_map f [] r map-rises across = tt
  rising_flat_map f (a ∷ l) r map-rises across =
      rising_append R (f a) (flat_map f l) (map-rises a (inl refl))
      (rising_flat_map f l r.1 (λ c i. map-rises c (inr i)) (λ c d x y i j. across c d x y (inr i) (inr j)))
      (λ x y i j. let g = member_flat_map f y l j in across a g.0 x y (inl refl) (inr g.1) (r.0 g.0 g.1) i g.2)

  pub rising_map : (f : A → B) (l : List A) → Rising S l → ((a c : A) → Member a l → Member c l → S a c → R (f a) (f c)) → Rising R (map f l)
  rising_map f [] r h = tt
  rising_map f (a ∷ l) r h = (
    (λ y i. let g = member_map f y l i in subst (R (f a)) (sym g.2) (h a g.0 (inl refl) (inr g.1) (r.0 g.0 g.1))),
    rising_map f l r.1 (λ c d i j. h c d (inr i) (inr j)),
  )

pub range_rises : (i n : ℕ) → Rising ◌<◌ (range i n)
unfolding range
range_rises i zero = tt
range_rises i (suc n) = ((λ y h. let r = member_range y (suc i) n h in omega arith), range_rises (suc i) n)

-- Lists gathered over ascending numbers, and what is left of them beyond n: a part of the list at n, and the later lists whole.
module _ {A : Type 0} (f : ℕ → List A) (n : ℕ) (t u : A → Bool) where
  pub flat_map_later : (l : List ℕ) → ((k : ℕ) → Member k l → n < k) → ((k : ℕ) → Member k l → (x : A) → Member x (f k) → t x ≡ true) →
      flat_map (λ k. filter t (f k)) l ≡ flat_map f (filter (ltb n) l)
  unfolding flat_map
  flat_map_later [] h later = refl
  flat_map_later (k ∷ l) h later =
      rw (lt-ltb n k (h k (inl refl)), filter_all t (f k) (later k (inl refl)))
      (ap (λ (r : List A). f k ++ r) (flat_map_later l (λ j i. h j (inr i)) (λ j i. later j (inr i))))

  pub flat_map_beyond : (l : List ℕ) → Rising ◌<◌ l → Member n l →
      ((k : ℕ) → Member k l → k < n → (x : A) → Member x (f k) → t x ≡ false) →
      ((k : ℕ) → Member k l → k ≡ n → (x : A) → Member x (f k) → t x ≡ u x) →
      ((k : ℕ) → Member k l → n < k → (x : A) → Member x (f k) → t x ≡ true) →
      flat_map (λ k. filter t (f k)) l ≡ filter u (f n) ++ flat_map f (filter (ltb n) l)
  unfolding flat_map
  flat_map_beyond (k ∷ l) r (inl e) before here later =
      let a : filter t (f k) ≡ filter u (f n) = filter_same t u (f k) (here k (inl refl) (sym e)) ∙ ap (λ (j : ℕ). filter u (f j)) (sym e) in
      let b = flat_map_later l (λ j i. let q = r.0 j i in omega arith) (λ j i. let q = r.0 j i in later j (inr i) (omega arith)) in
      rw (a, le-ltb n k (omega arith), b) refl
  flat_map_beyond (k ∷ l) r (inr i) before here later =
      let q = r.0 n i in
      rw (filter_none t (f k) (before k (inl refl) q), le-ltb n k (omega arith))
      (flat_map_beyond l r.1 i (λ j h. before j (inr h)) (λ j h. here j (inr h)) (λ j h. later j (inr h)))
  flat_map_beyond [] r x5 before here later = elim x5 [ ]

-- Different numbers below a bound.

abbrev pub Apart : {A : Type 0} → A → A → Type 0
Apart x y = x ≡ y → ⊥

-- a list that rises has no item twice
pub rising_apart : {A : Type 0} (R : A → A → Type 0) (l : List A) → ((x : A) → R x x → ⊥) → Rising R l → Rising Apart l
rising_apart R [] h r = tt
rising_apart R (x ∷ l) h r = ((λ y i e. h x (subst (R x) (sym e) (r.0 y i))), rising_apart R l h r.1)

pub numbers_apart : (l : List ℕ) → Rising ◌<◌ l → Rising Apart l
numbers_apart l r = rising_apart ◌<◌ l (λ x h. omega arith) r

abbrev other : ℕ → ℕ → Bool
other n x = not (eqb x n)

without_one : (n : ℕ) (l : List ℕ) → Rising Apart l → length l ≤ suc (length (filter (other n) l))
without_one n [] r = omega arith
without_one n (x ∷ l) r = go (eqb x n) refl (without_one n l r.1)
  where
    go : (b : Bool) → eqb x n ≡ b → length l ≤ suc (length (filter (other n) l)) →
        suc (length l) ≤ suc (length (cond (not b) (x ∷ filter (other n) l) (filter (other n) l)))
    go true e h =
        let p : filter (other n) l ≡ l =
        filter_all (other n) l (λ y i. ap not (ne_eqb y n (λ q. r.0 y i (eqb-true x n e ∙ sym q)))) in
        let k : length (filter (other n) l) ≡ length l = ap length p in
        omega arith
    go false e h = omega arith

pub once_apart : {A : Type 0} (l : List A) → Once l → Rising Apart l
once_apart [] o = tt
once_apart (x ∷ l) o = ((λ y i e. o.0 (subst (λ z. Member z l) (sym e) i)), once_apart l o.1)

pub rising_once : {A : Type 0} (R : A → A → Type 0) → ((x : A) → R x x → ⊥) → (l : List A) → Rising R l → Once l
rising_once R irr [] r = tt
rising_once R irr (x ∷ l) r = ((λ i. irr x (r.0 x i)), rising_once R irr l r.1)

-- Lengths.

pub range_none : (i n : ℕ) → n ≡ 0 → range i n ≡ []
unfolding range
range_none i n e = rw e

pub range_first : (i n k : ℕ) → n ≡ suc k → range i n ≡ i ∷ range (suc i) k
unfolding range
range_first i n k e = rw e

pub length_range : (i n : ℕ) → length (range i n) ≡ n
unfolding range
length_range i zero = refl
length_range i (suc n) = ap suc (length_range (suc i) n)

-- Two lists of which each item of the one has a partner in the other, and no partner twice.

module _ {B : Type 0} where
  -- a list without the item at one of its places
  abbrev except : (y : B) (l : List B) → Member y l → List B
  except y (x ∷ l) (inl e) = l
  except y (x ∷ l) (inr i) = x ∷ except y l i
  except y [] x' = elim x' [ ]

  length_except : (y : B) (l : List B) (i : Member y l) → suc (length (except y l i)) ≡ length l
  length_except y (x ∷ l) (inl e) = refl
  length_except y (x ∷ l) (inr i) = ap suc (length_except y l i)
  length_except y [] i = elim i [ ]

  still_there : (y : B) (l : List B) (i : Member y l) (z : B) → Member z l → (z ≡ y) ⊎ Member z (except y l i)
  still_there y (x ∷ l) (inl e) z (inl p) = inl (p ∙ sym e)
  still_there y (x ∷ l) (inl e) z (inr j) = inr j
  still_there y (x ∷ l) (inr i) z (inl p) = inr (inl p)
  still_there y (x ∷ l) (inr i) z (inr j) = ⊎_elim inl (λ k. inr (inr k)) (still_there y l i z j)
  still_there y [] i z _ = elim i [ ]

module _ {A B : Type 0} (R : A → B → Type 0) (own : (x z : A) (y : B) → R x y → R z y → x ≡ z) where
  pub partners : (a : List A) (b : List B) → Rising Apart a → ((x : A) → Member x a → (y : B) × Member y b × R x y) → length a ≤ length b
  partners [] b r h = omega arith
  partners (x ∷ a) b r h =
      let k = partners a (except p.0 b p.1) r.1 others in
      let l = length_except p.0 b p.1 in
      omega arith
    where
      p : (y : B) × Member y b × R x y
      p = h x (inl refl)

      others : (z : A) → Member z a → (y : B) × Member y (except p.0 b p.1) × R z y
      others z i =
          let q = h z (inr i) in
          ⊎_elim (λ e. absurd (r.0 z i (own x z p.0 p.2 (subst (R z) e q.2)))) (λ j. (q.0, j, q.2)) (still_there p.0 b p.1 q.0 q.1)

-- equations between different constructors, read as 0 ≡ 1
pub zero_is_not_one : ◌≡◌ {A = ℕ} 0 1 → ⊥
zero_is_not_one e = omega arith

pub apart_below : (n : ℕ) (l : List ℕ) → Rising Apart l → ((x : ℕ) → Member x l → x < n) → length l ≤ n
apart_below zero [] r h = omega arith
apart_below zero (x ∷ l) r h = let k = h x (inl refl) in absurd (omega arith)
apart_below (suc n) l r h =
    let k = apart_below n (filter (other n) l) (rising_filter Apart (other n) l r) below in
    let j = without_one n l r in
    omega arith
  where
    below : (x : ℕ) → Member x (filter (other n) l) → x < n
    below x i =
        let g = member_filter (other n) x l i in
        let b = h x g.0 in
        let d : x ≡ n → ⊥ = λ e. zero_is_not_one (let q = ap not (eq-eqb x n e) in let p = g.1 in cc) in
        omega arith
