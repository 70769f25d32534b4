-- Steps that the proofs of these functions cite: rounding up, and links of ports that are dropped or moved.
use Rattle.std.specs.Prelude.{◌≡◌, refl, List, [], ◌∷◌, ◌++◌, ℕ, zero, suc, ◌≤◌, ◌*◌, ◌/◌, ◌^◌, ◌<◌, ◌+◌, max, length, set}
use Rattle.std.specs.Int.{IsPowerOfTwo}
use Rattle.std.proofs.Common.{◌∙◌, sym, ap, arith, le-leb}
use Rattle.std.proofs.lemmas.List.Edits.{sets}
use Rattle.std.proofs.lemmas.Bool.{lt-leb}
use Rattle.std.proofs.lemmas.Nat.{pow_pos}
use Rattle.std.proofs.Math.Nat.{pow-suc, pow-succ', mul_assoc, one-mul, le-mul_of_pos_right}
use Rattle.port_tables.specs.ResizeLinks.{doubled, round_up}
use Rattle.port_tables.specs.Tables.{cut, drop_events, at, cut_count}
use Rattle.port_tables.specs.TableSteps.{link_count_at_most_one}

-- Rounding up.

-- doubling stops at once where the power is large enough
pub doubled_enough : (t p n : ℕ) → n ≤ p → doubled t p n ≡ p
unfolding doubled
doubled_enough zero p n h = refl
doubled_enough (suc t) p n h = rw (le-leb n p h)

pub doubled_more : (t p n : ℕ) → p < n → doubled (suc t) p n ≡ doubled t (p * 2) n
unfolding doubled
doubled_more t p n h = rw (lt-leb n p h)

-- one doubling taken off a power, and what it says of where the doubling stands
doubled_next : (d p : ℕ) → p * 2 ^ suc d ≡ p * 2 * 2 ^ d
doubled_next d p = ap (λ x. p * x) (pow-succ' 2 d) ∙ sym (mul_assoc p 2 (2 ^ d))

doubled_below : (d p q n : ℕ) → q ≡ p * 2 ^ suc d → 0 < p → q / 2 < max 1 n → p < n
doubled_below d p q n is pos least =
    let half : ℕ = p * 2 ^ d in
    let twice : q ≡ half * 2 = is ∙ ap (λ x. p * x) (pow-suc 2 d) ∙ sym (mul_assoc p (2 ^ d) 2) in
    let more : p ≤ half = le-mul_of_pos_right p (pow_pos d) in
    omega arith

-- enough doublings of p end at the least p * 2 ^ d that is at least n
pub doubled_to : (d t p q n : ℕ) → q ≡ p * 2 ^ d → 0 < p → n ≤ q → q / 2 < max 1 n → n ≤ p + t → doubled t p n ≡ q
doubled_to zero t p q n is pos above least enough = let e : q ≡ p = omega arith in doubled_enough t p n (omega arith) ∙ sym e
doubled_to (suc d) zero p q n is pos above least enough = let l = doubled_below d p q n is pos least in absurd (omega arith)
doubled_to (suc d) (suc t) p q n is pos above least enough =
    let l = doubled_below d p q n is pos least in
    doubled_more t p n l ∙ doubled_to d t (p * 2) q n (is ∙ doubled_next d p) (omega arith) above least (omega arith)

-- the next power of two is the rounded total
pub round_up_power : (n q : ℕ) → IsPowerOfTwo q → n ≤ q → q / 2 < max 1 n → q ≡ round_up n
unfolding round_up
round_up_power n q power above least = sym (doubled_to power.0 n 1 q n (power.1 ∙ sym (one-mul (2 ^ power.0))) (omega arith) above least (omega arith))

-- Events.

pub sets_append : (l : List ℕ) (i : ℕ) (xs ys : List ℕ) → sets (sets l i xs) (i + length xs) ys ≡ sets l i (xs ++ ys)
sets_append l i [] ys = let e : i + 0 ≡ i = omega arith in rw e
sets_append l i (x ∷ xs) ys =
    let e : i + suc (length xs) ≡ suc i + length xs = omega arith in
    rw e (sets_append (set l i x) (suc i) xs ys)

pub length_drop_events : (t : List ℕ) (p n : ℕ) → length (drop_events t p n) ≡ 3 * n
unfolding drop_events
length_drop_events t p zero = refl
length_drop_events t p (suc n) = let h = length_drop_events (cut t p) (suc p) n in omega arith

-- what is told after n ports that were dropped
pub told_after : (m t : List ℕ) (p n : ℕ) (l : List ℕ) → sets (sets m 0 (drop_events t p n)) (3 * n) l ≡ sets m 0 (drop_events t p n ++ l)
told_after m t p n l =
    let long = length_drop_events t p n in
    let h : 3 * n ≡ 0 + length (drop_events t p n) = omega arith in
    rw h (sets_append m 0 (drop_events t p n) l)

-- Single steps of the code.

pub cut_count_small : (t : List ℕ) (p n : ℕ) → cut_count t p n ≤ n
unfolding cut_count
cut_count_small t p zero = omega arith
cut_count_small t p (suc n) =
    let h = cut_count_small (cut t p) (suc p) n in
    let l = link_count_at_most_one (at t p) in
    omega arith
