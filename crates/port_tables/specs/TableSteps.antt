-- What single steps and single turns of a loop do to the port tables.
-- A law of a step says which definition its stores amount to; a law of a range takes one port off it.
use Rattle.std.specs.Prelude.{◌≡◌, refl, List, [], ◌∷◌, ◌++◌, Bool, true, false, cond, ℕ, ◌<◌, ◌≤◌, zero, suc, ◌+◌, ◌-◌, get_or, set, length, take, drop, eqb, Result, Err}
use Rattle.std.specs.Result.{IsErrAnd}
use Rattle.std.proofs.lemmas.Result.{err_from_is_err_and}
use Rattle.std.proofs.Common.{add-one, ap, sym, ◌∙◌, arith, length-drop, suc-add, zero-add, lt-ltb, le-ltb, le-leb, ne_eqb, eq-eqb}
use Rattle.std.proofs.Math.ListN.{replicate}
use Rattle.std.proofs.lemmas.List.Edits.{sets}
use Rattle.std.proofs.Math.Seq.{length-take-le, length-sets}
use Rattle.std.proofs.lemmas.List.{nil_from_length}
pub use Rattle.std.proofs.Math.Seq.{set_out}
use Rattle.port_tables.specs.Limits.{port_slots, no_port}
use Rattle.port_tables.specs.Tables.{at, put, put_head, fill, fill_range, link_both, cut_far, cut, link_count, told_link, move_port, cut_range, cut_count, move_up, transfer, drop_events, move_up_events, move_down_events, move_down}

-- Reading and storing.
pub at_inside : (t : List ℕ) (s : ℕ) → s < port_slots → get_or t s 0 ≡ at t s
unfolding at
at_inside t s h = rw (lt-ltb s port_slots h)

pub at_outside : (t : List ℕ) (s : ℕ) → port_slots ≤ s → 0 ≡ at t s
unfolding at
at_outside t s h = rw (le-ltb s port_slots h)

pub put_head_nothing : (t : List ℕ) (n v : ℕ) → n ≤ 0 → t ≡ put_head t n v
unfolding put_head
put_head_nothing t n v h = rw (le-ltb 0 n h)

-- A range that is filled from its first slot on.
pub fill_none {ℓ} : {A : Type ℓ} (t : List A) (i : ℕ) (v : A) → t ≡ fill t i 0 v
unfolding fill
fill_none [] i v = refl
fill_none (x ∷ l) zero v = refl
fill_none (x ∷ l) (suc i) v = ap (λ r. x ∷ r) (fill_none l i v)

pub fill_more {ℓ} : {A : Type ℓ} (t : List A) (i k : ℕ) (v : A) → set (fill t i k v) (i + k) v ≡ fill t i (suc k) v
unfolding fill
fill_more [] i k v = refl
fill_more (x ∷ l) zero zero v = ap (λ r. v ∷ r) (fill_none l 0 v)
fill_more (x ∷ l) zero (suc k) v = rw zero-add (ap (λ r. v ∷ r) (rw zero-add at (fill_more l zero k v)))
fill_more (x ∷ l) (suc i) k v = rw suc-add (ap (λ r. x ∷ r) (fill_more l i k v))

-- the list with a part of n elements, all of them v, in the place of those that stood there
pub fill_part {ℓ} : {A : Type ℓ} (t : List A) (i n : ℕ) (v : A) → i + n ≤ length t → take i t ++ (replicate n v ++ drop n (drop i t)) ≡ fill t i n v
unfolding fill
fill_part [] zero zero v h = refl
fill_part [] zero (suc n) v h = absurd (omega arith)
fill_part [] (suc i) n v h = absurd (omega arith)
fill_part (x ∷ l) zero zero v h = refl
fill_part (x ∷ l) zero (suc n) v h = ap (λ r. v ∷ r) (fill_part l zero n v (omega arith))
fill_part (x ∷ l) (suc i) n v h = ap (λ r. x ∷ r) (fill_part l i n v (omega arith))

-- what `fill` on the part of m = n slots from the i-th on leaves
pub part_filled : (t new : List ℕ) (i m n v : ℕ) → m ≡ n → i + n ≤ length t → new ≡ replicate (length (take m (drop i t))) v → take i t ++ (new ++ drop m (drop i t)) ≡ fill t i n v
part_filled t new i m n v e h f =
    let long : n ≤ length (drop i t) = omega (arith, length-drop i t) in
    rw (f, e, length-take-le n (drop i t) long) (fill_part t i n v h)

pub fill_range_done : (t t' : List ℕ) (i i' n k v : ℕ) → i' ≡ i → k ≡ n → i + n ≤ port_slots → t' ≡ fill t i' k v → t' ≡ fill_range t i n v
unfolding fill_range
fill_range_done t t' i i' n k v e f h j = rw (j, e, f, le-leb (i + n) port_slots h)

-- Links.
pub linked_both : (t : List ℕ) (a b : ℕ) → a < port_slots → b < port_slots → put (put t a (b + 1)) b (a + 1) ≡ link_both t a b
unfolding link_both
linked_both t a b h l = rw (lt-ltb a port_slots h, lt-ltb b port_slots l)

pub cut_both : (t : List ℕ) (p far : ℕ) → far ≡ at t p → (far ≡ 0 → ⊥) → put (put t p 0) (far - 1) 0 ≡ cut t p
unfolding cut cut_far
cut_both t p far e h = rw (← e, ne_eqb far 0 h)

pub link_count_none : (far : ℕ) → far ≡ 0 → 0 ≡ link_count far
unfolding link_count
link_count_none far h = rw (eq-eqb far 0 h)

pub link_count_at_most_one : (far : ℕ) → link_count far ≤ 1
unfolding link_count
link_count_at_most_one far = go (eqb far 0)
  where
    go : (b : Bool) → cond b 0 1 ≤ 1
    go true = omega arith
    go false = omega arith

pub told_none : (far : ℕ) → far ≡ 0 → no_port ≡ told_link far
unfolding told_link
told_none far h = rw (eq-eqb far 0 h)

pub told_far : (far : ℕ) → (far ≡ 0 → ⊥) → far - 1 ≡ told_link far
unfolding told_link
told_far far h = rw (ne_eqb far 0 h)

-- an event is three stores in a row
pub stored_event : (m : List ℕ) (e a b d : ℕ) → set (set (set m e a) (e + 1) b) (e + 2) d ≡ sets m e (a ∷ b ∷ d ∷ [])
stored_event m e a b d = let f : e + 1 ≡ suc e = omega arith in let g : e + 2 ≡ suc (suc e) = omega arith in rw (f, g)

-- one place fewer to go
pub left_one : (k n : ℕ) → k < n → n - k ≡ suc (n - (k + 1))
left_one k n h = omega arith

-- The first of n ports, or the last, and what is left; with no port left nothing changes.
pub cut_range_first : (t : List ℕ) (p : ℕ) (n : ℕ) → 0 < n → cut_range t p n ≡ cut_range (cut t p) (p + 1) (n - 1)
unfolding cut_range
cut_range_first t p zero h = absurd (omega arith)
cut_range_first t p (suc n) h = let e : suc n - 1 ≡ n = omega arith in rw (e, add-one p)

pub cut_range_none : (t : List ℕ) (p : ℕ) (n : ℕ) → n ≤ 0 → cut_range t p n ≡ t
unfolding cut_range
cut_range_none t p zero h = refl
cut_range_none t p (suc n) h = absurd (omega arith)

pub cut_count_first : (t : List ℕ) (p : ℕ) (n : ℕ) → 0 < n → cut_count t p n ≡ link_count (at t p) + cut_count (cut t p) (p + 1) (n - 1)
unfolding cut_count
cut_count_first t p zero h = absurd (omega arith)
cut_count_first t p (suc n) h = let e : suc n - 1 ≡ n = omega arith in rw (e, add-one p)

pub cut_count_none : (t : List ℕ) (p : ℕ) (n : ℕ) → n ≤ 0 → cut_count t p n ≡ 0
unfolding cut_count
cut_count_none t p zero h = refl
cut_count_none t p (suc n) h = absurd (omega arith)

pub move_up_first : (t : List ℕ) (old new : ℕ) (n : ℕ) → 0 < n → move_up t old new n ≡ move_up (move_port t old new) (old + 1) (new + 1) (n - 1)
unfolding move_up
move_up_first t old new zero h = absurd (omega arith)
move_up_first t old new (suc n) h = let e : suc n - 1 ≡ n = omega arith in rw (e, add-one old, add-one new)

pub move_up_none : (t : List ℕ) (old new : ℕ) (n : ℕ) → n ≤ 0 → move_up t old new n ≡ t
unfolding move_up
move_up_none t old new zero h = refl
move_up_none t old new (suc n) h = absurd (omega arith)

pub move_down_first : (t : List ℕ) (old new : ℕ) (n : ℕ) → 0 < n → move_down t old new n ≡ move_down (move_port t (old + (n - 1)) (new + (n - 1))) old new (n - 1)
unfolding move_down
move_down_first t old new zero h = absurd (omega arith)
move_down_first t old new (suc n) h = let e : suc n - 1 ≡ n = omega arith in rw (e)

pub move_down_none : (t : List ℕ) (old new : ℕ) (n : ℕ) → n ≤ 0 → move_down t old new n ≡ t
unfolding move_down
move_down_none t old new zero h = refl
move_down_none t old new (suc n) h = absurd (omega arith)

pub transfer_first : (t : List ℕ) (old new : ℕ) (n : ℕ) → 0 < n → transfer t old new n ≡ transfer (put (move_port t old new) old 0) (old + 1) (new + 1) (n - 1)
unfolding transfer
transfer_first t old new zero h = absurd (omega arith)
transfer_first t old new (suc n) h = let e : suc n - 1 ≡ n = omega arith in rw (e, add-one old, add-one new)

pub transfer_none : (t : List ℕ) (old new : ℕ) (n : ℕ) → n ≤ 0 → transfer t old new n ≡ t
unfolding transfer
transfer_none t old new zero h = refl
transfer_none t old new (suc n) h = absurd (omega arith)

pub drop_events_first : (t : List ℕ) (p : ℕ) (n : ℕ) → 0 < n → drop_events t p n ≡ p ∷ 1 ∷ told_link (at t p) ∷ drop_events (cut t p) (p + 1) (n - 1)
unfolding drop_events
drop_events_first t p zero h = absurd (omega arith)
drop_events_first t p (suc n) h = let e : suc n - 1 ≡ n = omega arith in rw (e, add-one p)

pub drop_events_none : (t : List ℕ) (p : ℕ) (n : ℕ) → n ≤ 0 → drop_events t p n ≡ []
unfolding drop_events
drop_events_none t p zero h = refl
drop_events_none t p (suc n) h = absurd (omega arith)

pub move_up_events_first : (old new : ℕ) (n : ℕ) → 0 < n → move_up_events old new n ≡ old ∷ 0 ∷ new ∷ move_up_events (old + 1) (new + 1) (n - 1)
unfolding move_up_events
move_up_events_first old new zero h = absurd (omega arith)
move_up_events_first old new (suc n) h = let e : suc n - 1 ≡ n = omega arith in rw (e, add-one old, add-one new)

pub move_up_events_none : (old new : ℕ) (n : ℕ) → n ≤ 0 → move_up_events old new n ≡ []
unfolding move_up_events
move_up_events_none old new zero h = refl
move_up_events_none old new (suc n) h = absurd (omega arith)

pub move_down_events_first : (old new : ℕ) (n : ℕ) → 0 < n → move_down_events old new n ≡ (old + (n - 1)) ∷ 0 ∷ (new + (n - 1)) ∷ move_down_events old new (n - 1)
unfolding move_down_events
move_down_events_first old new zero h = absurd (omega arith)
move_down_events_first old new (suc n) h = let e : suc n - 1 ≡ n = omega arith in rw (e)

pub move_down_events_none : (old new : ℕ) (n : ℕ) → n ≤ 0 → move_down_events old new n ≡ []
unfolding move_down_events
move_down_events_none old new zero h = refl
move_down_events_none old new (suc n) h = absurd (omega arith)

-- an event, and those after it
pub told_first : (m : List ℕ) (e a b d : ℕ) (l : List ℕ) → sets m e (a ∷ b ∷ d ∷ l) ≡ sets (sets m e (a ∷ b ∷ d ∷ [])) (e + 3) l
told_first m e a b d l = let f : e + 3 ≡ suc (suc (suc e)) = omega arith in rw f

-- into an empty list nothing is told
pub untold : (m : List ℕ) (e : ℕ) (l : List ℕ) → length m ≡ 0 → m ≡ sets m e l
untold m e l h = nil_from_length m h ∙ sym (nil_from_length (sets m e l) (length-sets m e l ∙ h))

-- What is left of a shift of n ports, and of what is told of it, once k of them are done.
abbrev pub shift_left : List ℕ → Bool → ℕ → ℕ → ℕ → ℕ → List ℕ
shift_left t ascending old new n k = cond ascending (move_up t (old + k) (new + k) (n - k)) (move_down t old new (n - k))

abbrev pub shift_events_left : Bool → ℕ → ℕ → ℕ → ℕ → List ℕ
shift_events_left ascending old new n k = cond ascending (move_up_events (old + k) (new + k) (n - k)) (move_down_events old new (n - k))

-- what `?` passes on
pub passed_on : {A E : Type 0} {r : Result A E} {e : E} → IsErrAnd r (λ y. y ≡ e) → r ≡ Err e
passed_on {r} h = let p = err_from_is_err_and r h in p.1 ∙ ap Err p.2

-- equal answers have equal numbers
pub with_numbers : {A B : Type 0} (f : A → B) {x y : A} → x ≡ y → (x ≡ y) × (f x ≡ f y)
with_numbers f e = (e, ap f e)

pub length_fill {ℓ} : {A : Type ℓ} (l : List A) (i n : ℕ) (v : A) → length (fill l i n v) ≡ length l
unfolding fill
length_fill [] i n v = refl
length_fill (x ∷ l) zero zero v = refl
length_fill (x ∷ l) zero (suc n) v = ap suc (length_fill l zero n v)
length_fill (x ∷ l) (suc i) n v = ap suc (length_fill l i n v)

pub get_d_fill_in {ℓ} : {A : Type ℓ} (l : List A) (i n s : ℕ) (v d : A) → s < length l → i ≤ s → s < i + n → get_or (fill l i n v) s d ≡ v
unfolding fill
get_d_fill_in [] i n s v d h a b = absurd (omega arith)
get_d_fill_in (x ∷ l) zero zero s v d h a b = absurd (omega arith)
get_d_fill_in (x ∷ l) zero (suc n) zero v d h a b = refl
get_d_fill_in (x ∷ l) zero (suc n) (suc s) v d h a b = get_d_fill_in l zero n s v d (omega arith) (omega arith) (omega arith)
get_d_fill_in (x ∷ l) (suc i) n zero v d h a b = absurd (omega arith)
get_d_fill_in (x ∷ l) (suc i) n (suc s) v d h a b = get_d_fill_in l i n s v d (omega arith) (omega arith) (omega arith)

pub get_d_fill_out {ℓ} : {A : Type ℓ} (l : List A) (i n s : ℕ) (v d : A) → (i ≤ s → s < i + n → ⊥) → get_or (fill l i n v) s d ≡ get_or l s d
unfolding fill
get_d_fill_out [] i n s v d h = refl
get_d_fill_out (x ∷ l) zero zero s v d h = refl
get_d_fill_out (x ∷ l) zero (suc n) zero v d h = absurd (h (omega arith) (omega arith))
get_d_fill_out (x ∷ l) zero (suc n) (suc s) v d h = get_d_fill_out l zero n s v d (λ a b. h (omega arith) (omega arith))
get_d_fill_out (x ∷ l) (suc i) n zero v d h = refl
get_d_fill_out (x ∷ l) (suc i) n (suc s) v d h = get_d_fill_out l i n s v d (λ a b. h (omega arith) (omega arith))
