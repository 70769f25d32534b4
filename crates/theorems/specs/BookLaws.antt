-- Laws of the wire book and its lists: which wires and blocks are left by a test, where a port stands among blocks whose ports
-- are runs of slots, which offset is the lowest unwired one, and how many wires of a list pass a test.
use Rattle.std.specs.Prelude.{◌≡◌, refl, Bool, cond, not, ◌||◌, ◌⊎◌, ℕ, zero, suc, ◌+◌, ◌≤◌, ◌<◌, eqb, length}
use Rattle.std.proofs.Common.{sym, ap, ◌∙◌, inl, inr, arith, eqb-true, eq-eqb, ne_eqb}
use Rattle.std.proofs.Math.Bool.{true, false}
use mathlib.Core.List.{List, [], ◌∷◌}
use Rattle.std.proofs.lemmas.Bool.{eqb-false, false_from_ne_true, or_right, not-true, or_cases}
use Rattle.port_tables.specs.Lists.{range, Member, Once, Rising}
use Rattle.std.specs.List.{filter}
use Rattle.portgraph.specs.Model.{total}
use Rattle.portgraph.specs.Sums.{total_same}
use Rattle.port_tables.specs.declared.direction.Direction.{Direction}
use Rattle.port_tables.specs.declared.direction.Direction.TheVariants.{Incoming, Outgoing}
use Rattle.theorems.specs.Book.{spot_among}
use Rattle.port_tables.specs.Places.{without, any_touches, lowest_unwired, next_offset, Place, Wire, Spot, spot, at_end, touches, flag}
use Rattle.port_tables.specs.Listing.{member_filter, filter_member, flag_small, partners, Apart, once_apart, rising_once, rising_filter}
use Rattle.multiportgraph.specs.LinkCutLaws.{end_is_same}
use Rattle.theorems.specs.Claims.{count}
use Rattle.multiportgraph.specs.CountLaws.{total_add}
use Rattle.portgraph.specs.LinkHolds.{total_none}

-- Wires left by a test.

module _ (f : Wire → Bool) where
  pub left_once : (l : List Wire) → Once l → Once (filter f l)
  left_once l o = rising_once Apart (λ x d. d refl) (filter f l) (rising_filter Apart f l (once_apart l o))

pub wire_stays : (f : Place → Bool) (w : Wire) (l : List Wire) → Member w l → touches f w ≡ false → Member w (without f l)
wire_stays f w l i t = filter_member (λ v. not (touches f v)) w l i (ap not t)

pub stayed_wire : (f : Place → Bool) (w : Wire) (l : List Wire) → Member w (without f l) → Member w l × (touches f w ≡ false)
stayed_wire f w l i =
    let r = member_filter (λ v. not (touches f v)) w l i in
    (r.0, not-true (touches f w) r.1)

-- Runs of slots.

-- a port among a run of slots, or beside it
pub among_run : (n : ℕ) (d : Direction) (a k j i : ℕ) (other : Spot) → i < k → spot_among n d (a + i) (range a k) j other ≡ spot n d (j + i)
unfolding spot_among range
among_run n d a zero j i other h = absurd (omega arith)
among_run n d a (suc k) j zero other h =
    let e : eqb (a + 0) a ≡ true = eq-eqb (a + 0) a (omega arith) in
    let z : j + 0 ≡ j = omega arith in
    rw (e, z)
among_run n d a (suc k) j (suc i) other h =
    let e : eqb (a + suc i) a ≡ false = ne_eqb (a + suc i) a (λ q. omega arith) in
    let z : a + suc i ≡ suc a + i = omega arith in
    let y : suc j + i ≡ j + suc i = omega arith in
    rw e (ap (λ (p : ℕ). spot_among n d p (range (suc a) k) (suc j) other) z ∙ (among_run n d (suc a) k (suc j) i other (omega arith) ∙ ap (spot n d) y))

pub beside_run : (n : ℕ) (d : Direction) (p a k j : ℕ) (other : Spot) → ((i : ℕ) → i < k → p ≡ a + i → ⊥) → spot_among n d p (range a k) j other ≡ other
unfolding spot_among range
beside_run n d p a zero j other h = refl
beside_run n d p a (suc k) j other h =
    let e : eqb p a ≡ false = ne_eqb p a (λ q. h 0 (omega arith) (omega arith)) in
    rw e (beside_run n d p (suc a) k (suc j) other (λ i l q. h (suc i) (omega arith) (omega arith)))

-- A test that some wire's end passes.

pub any_touches_lem : (f : Place → Bool) (w : Wire) (l : List Wire) → Member w l → touches f w ≡ true → any_touches f l ≡ true
unfolding any_touches
any_touches_lem f w [] i t = absurd i
any_touches_lem f w (v ∷ l) (inl p) t = rw (← p, t) refl
any_touches_lem f w (v ∷ l) (inr h) t = or_right (touches f v) (any_touches f l) (any_touches_lem f w l h t)

pub none_touches : (f : Place → Bool) (l : List Wire) → ((w : Wire) → Member w l → touches f w ≡ false) → any_touches f l ≡ false
unfolding any_touches
none_touches f [] h = refl
none_touches f (v ∷ l) h =
    rw (h v (inl refl)) (none_touches f l (λ w i. h w (inr i)))

-- The lowest unwired offset.

pub lowest_from : (l : List Wire) (s : Spot) (i n o : ℕ) → i ≤ o → o ≤ i + n → ((j : ℕ) → i ≤ j → j < o → any_touches (at_end s j) l ≡ true) →
    any_touches (at_end s o) l ≡ false → lowest_unwired l s i n ≡ o
unfolding lowest_unwired
lowest_from l s i zero o a b wired free = omega arith
lowest_from l s i (suc n) o a b wired free = go (eqb i o) refl (λ h. lowest_from l s (suc i) n o h (omega arith) (λ j k. wired j (omega arith)) free)
  where
    go : (t : Bool) → eqb i o ≡ t → (suc i ≤ o → lowest_unwired l s (suc i) n ≡ o) → cond (any_touches (at_end s i) l) (lowest_unwired l s (suc i) n) i ≡ o
    go true e rest = let p : i ≡ o = eqb-true i o e in rw p (rw free refl)
    go false e rest =
        let h : i ≡ o → ⊥ = eqb-false i o e in
        let k : suc i ≤ o = omega (arith, h) in
        let t : any_touches (at_end s i) l ≡ true = wired i (omega arith) k in
        rw t (rest k)

-- each wire runs from the outgoing side to the incoming one
abbrev pub Sided : Wire → Type 0
Sided w = (w.out.side ≡ Outgoing) × (w.into.side ≡ Incoming)

total_le : (n : ℕ) (f g : ℕ → ℕ) → ((i : ℕ) → i < n → f i ≤ g i) → total n f ≤ total n g
unfolding total
total_le zero f g h = omega arith
total_le (suc n) f g h =
    let e : total n f ≤ total n g = total_le n f g (λ i k. h i (omega arith)) in
    let d : f n ≤ g n = h n (omega arith) in
    omega arith

total_ones : (n : ℕ) → total n (λ i. 1) ≡ n
unfolding total
total_ones zero = refl
total_ones (suc n) = let e : total n (λ i. 1) ≡ n = total_ones n in omega arith

flag_or : (a b : Bool) → flag (a || b) ≤ flag a + flag b
flag_or true b = omega arith
flag_or false b = omega arith

-- a test that passes at one number at most
at_most_once : (n : ℕ) (f : ℕ → Bool) → ((i j : ℕ) → f i ≡ true → f j ≡ true → i ≡ j) → total n (λ i. flag (f i)) ≤ 1
unfolding total
at_most_once zero f one = omega arith
at_most_once (suc n) f one = go (f n) refl (at_most_once n f one)
  where
    go : (b : Bool) → f n ≡ b → total n (λ i. flag (f i)) ≤ 1 → total n (λ i. flag (f i)) + flag (f n) ≤ 1
    go true e r =
        let z : total n (λ i. flag (f i)) ≡ total n (λ i. 0) =
        total_same n (λ i. flag (f i)) (λ i. 0) (λ i k. ap flag (false_from_ne_true (f i) (λ t. let q : i ≡ n = one i n t e in omega arith))) in
        omega (arith, total_none n (λ i. 0) (λ i. refl), flag_small (f n))
    go false e r = rw e (omega arith)

-- a wire has one end at most at a spot
one_offset : (n : ℕ) (d : Direction) (p : ℕ) (w : Wire) → Sided w → (i j : ℕ) → touches (at_end (spot n d p) i) w ≡ true → touches (at_end (spot n d p) j) w ≡ true → i ≡ j
one_offset n d p w s i j a b =
    go (or_cases (at_end (spot n d p) i w.out) (at_end (spot n d p) i w.into) a) (or_cases (at_end (spot n d p) j w.out) (at_end (spot n d p) j w.into) b)
  where
    clash : {e : Direction} → Outgoing ≡ e → Incoming ≡ e → i ≡ j
    clash x y = cc

    stands : (k : ℕ) (z : Place) → at_end (spot n d p) k z ≡ true → (z.side ≡ d) × (z.offset ≡ k)
    stands k z t =
        let e = end_is_same (record { node = n; side = d; pos = p; offset = k }) z t in (ap (λ (v : Place). v.side) e, ap (λ (v : Place). v.offset) e)

    go : (at_end (spot n d p) i w.out ≡ true) ⊎ (at_end (spot n d p) i w.into ≡ true) → (at_end (spot n d p) j w.out ≡ true) ⊎ (at_end (spot n d p) j w.into ≡ true) → i ≡ j
    go (inl x) (inl y) = sym (stands i w.out x).1 ∙ (stands j w.out y).1
    go (inr x) (inr y) = sym (stands i w.into x).1 ∙ (stands j w.into y).1
    go (inl x) (inr y) = clash (sym s.0 ∙ (stands i w.out x).0) (sym s.1 ∙ (stands j w.into y).0)
    go (inr x) (inl y) = clash (sym s.0 ∙ (stands j w.out y).0) (sym s.1 ∙ (stands i w.into x).0)

-- so many offsets are wired at a spot, at most as many as there are wires
wired_offsets : (n : ℕ) (d : Direction) (p o : ℕ) (l : List Wire) → ((w : Wire) → Member w l → Sided w) →
    total o (λ j. flag (any_touches (at_end (spot n d p) j) l)) ≤ length l
unfolding any_touches
wired_offsets n d p o [] s = omega (arith, total_none o (λ i. 0) (λ i. refl))
wired_offsets n d p o (w ∷ l) s =
    let r : total o (λ j. flag (any_touches (at_end (spot n d p) j) l)) ≤ length l = wired_offsets n d p o l (λ v i. s v (inr i)) in
    let one : total o (λ j. flag (touches (at_end (spot n d p) j) w)) ≤ 1 =
    at_most_once o (λ j. touches (at_end (spot n d p) j) w) (one_offset n d p w (s w (inl refl))) in
    let le = total_le o (λ j. flag ((touches (at_end (spot n d p) j) w) || (any_touches (at_end (spot n d p) j) l)))
    (λ j. flag (touches (at_end (spot n d p) j) w) + flag (any_touches (at_end (spot n d p) j) l))
    (λ j k. flag_or (touches (at_end (spot n d p) j) w) (any_touches (at_end (spot n d p) j) l)) in
    let sum = total_add o (λ j. flag (touches (at_end (spot n d p) j) w)) (λ j. flag (any_touches (at_end (spot n d p) j) l)) in
    omega arith

-- every offset below o is wired at the spot, and o is not
pub next_offset_lem : (n : ℕ) (d : Direction) (p o : ℕ) (l : List Wire) → ((w : Wire) → Member w l → Sided w) →
    ((j : ℕ) → j < o → any_touches (at_end (spot n d p) j) l ≡ true) → any_touches (at_end (spot n d p) o) l ≡ false → next_offset l (spot n d p) ≡ o
next_offset_lem n d p o l s wired free =
    let e : total o (λ j. flag (any_touches (at_end (spot n d p) j) l)) ≡ total o (λ j. 1) =
    total_same o (λ j. flag (any_touches (at_end (spot n d p) j) l)) (λ j. 1) (λ j h. ap flag (wired j h)) in
    let b : o ≤ length l = omega (arith, wired_offsets n d p o l s, total_ones o) in
    lowest_from l (spot n d p) 0 (length l) o (omega arith) (omega arith) (λ j h. wired j) free

-- How many wires of a list pass a test.

-- two lists without repeats that have the same items are as long
pub same_length : {A : Type 0} (a b : List A) → Rising Apart a → Rising Apart b → ((x : A) → Member x a → Member x b) → ((x : A) → Member x b → Member x a) → length a ≡ length b
same_length a b r s f g =
    let p = partners (λ x y. x ≡ y) (λ x z y i j. i ∙ sym j) a b r (λ x i. (x, f x i, refl)) in
    let q = partners (λ x y. x ≡ y) (λ x z y i j. i ∙ sym j) b a s (λ x i. (x, g x i, refl)) in
    omega arith

pub count_is : (f : Wire → Bool) (l : List Wire) → length (filter f l) ≡ count f l
count_is f [] = refl
count_is f (w ∷ l) = go (f w) (count_is f l)
  where
    go : (t : Bool) → length (filter f l) ≡ count f l → length (cond t (w ∷ filter f l) (filter f l)) ≡ flag t + count f l
    go true e = omega arith
    go false e = omega arith

-- two lists, each wire once, that have the same wires
pub same_count : (f : Wire → Bool) (l k : List Wire) → Once l → Once k → ((w : Wire) → Member w l → Member w k) → ((w : Wire) → Member w k → Member w l) →
    count f l ≡ count f k
same_count f l k o u s t =
    sym (count_is f l)
    ∙ (same_length (filter f l) (filter f k) (once_apart (filter f l) (left_once f l o)) (once_apart (filter f k) (left_once f k u))
    (λ w i. let r = member_filter f w l i in filter_member f w k (s w r.0) r.1) (λ w i. let r = member_filter f w k i in filter_member f w l (t w r.0) r.1)
    ∙ count_is f k)
