-- The offsets of a port that are wired, as marks: the lowest unwired offset is the lowest without a mark.
use Rattle.std.specs.Prelude.{◌≡◌, refl, Bool, true, false, cond, not, ◌||◌, List, [], ◌∷◌, eqb, ltb, length, get_or, set, replicate, Some, None}
use Rattle.std.proofs.Common.{sym, ap, ◌∙◌, subst, add-one, length-set, get_or-set_same, get_or-set_other, eqb-true, ltb-false, length-take-le}
use Rattle.std.specs.List.{position, position_or_len}
use Rattle.std.specs.Option.{unwrap_or}
use Rattle.std.proofs.lemmas.List.Sums.{prefix_len-le-length}
use Rattle.std.proofs.Math.Seq.{drop-cons}
use Rattle.std.proofs.Math.ListN.{take, drop}
use Prim.Native.Nat.{ℕ, zero, suc, ◌+◌, ◌≤◌, ◌<◌}
use native.Mathlib.Omega.{arith}
use Rattle.std.proofs.lemmas.List.{length-map, length-replicate, get_or-replicate}
use Rattle.std.proofs.lemmas.Bool.{eqb-false}
use Rattle.port_tables.specs.Places.{Place, Wire, Spot, at_spot, at_end, any_touches, lowest_unwired}
use Rattle.sketches.specs.Rows.{row_slots, rows_in, row_at, wire_of, wires_in}
use Rattle.sketches.specs.declared.rows.Row.{Row}
use Rattle.sketches.specs.CallParts.{mark, marked, Marks}

pub no_marks : (s : Spot) → Marks s [] (replicate row_slots false)
unfolding any_touches
no_marks s = record { long = length-replicate {A = Bool} row_slots false; right = λ o h. get_or-replicate row_slots o false false h }

length_mark : (m : List Bool) (o : ℕ) → length (mark m o) ≡ length m
length_mark m o = go (ltb o row_slots)
  where
    go : (b : Bool) → length (cond b (set m o true) m) ≡ length m
    go true = length-set m o true
    go false = refl

length_marked : (s : Spot) (x : Place) (m : List Bool) → length (marked s x m) ≡ length m
length_marked s x m = go (at_spot s x)
  where
    go : (b : Bool) → length (cond b (mark m x.offset) m) ≡ length m
    go true = length_mark m x.offset
    go false = refl

mark_at : (m : List Bool) (k o : ℕ) → length m ≡ row_slots → o < row_slots → get_or (mark m k) o false ≡ (eqb k o || get_or m o false)
mark_at m k o l h = go (eqb k o) refl (ltb k row_slots) refl
  where
    go : (e : Bool) → eqb k o ≡ e → (b : Bool) → ltb k row_slots ≡ b → get_or (cond b (set m k true) m) o false ≡ (e || get_or m o false)
    go true p true q = let e = eqb-true k o p in rw e (get_or-set_same m o true false (omega arith))
    go true p false q = let e = eqb-true k o p in let n = ltb-false k row_slots q in absurd (omega arith)
    go false p true q = get_or-set_other m k o true false (λ e. eqb-false k o p (sym e))
    go false p false q = refl

marked_at : (s : Spot) (x : Place) (m : List Bool) (o : ℕ) → length m ≡ row_slots → o < row_slots → get_or (marked s x m) o false ≡ (at_end s o x || get_or m o false)
unfolding at_end
marked_at s x m o l h = go (at_spot s x)
  where
    go : (b : Bool) → get_or (cond b (mark m x.offset) m) o false ≡ (cond b (eqb x.offset o) false || get_or m o false)
    go true = mark_at m x.offset o l h
    go false = refl

or_swap : (a b c : Bool) → (b || (a || c)) ≡ ((a || b) || c)
or_swap true true c = refl
or_swap true false c = refl
or_swap false b c = refl

-- both ends of one more wire
pub marks_more : (s : Spot) (l : List Wire) (w : Wire) (m : List Bool) → Marks s l m → Marks s (w ∷ l) (marked s w.into (marked s w.out m))
unfolding any_touches
marks_more s l w m k =
    let n = k.long in
    let e = length_marked s w.out m in
    record {
      long = length_marked s w.into (marked s w.out m) ∙ e ∙ n;
      right = λ o h.
          marked_at s w.into (marked s w.out m) o (e ∙ n) h
          ∙ ap (λ (b : Bool). at_end s o w.into || b) (marked_at s w.out m o n h ∙ ap (λ (b : Bool). at_end s o w.out || b) (k.right o h))
          ∙ or_swap (at_end s o w.out) (at_end s o w.into) (any_touches (at_end s o) l);
    }

-- what is sought from an offset on, among so many
lowest_marked_in : (s : Spot) (l : List Wire) (m : List Bool) (o n : ℕ) → o + n ≤ row_slots → Marks s l m → o + position_or_len not (take n (drop o m)) ≡ lowest_unwired l s o n
unfolding lowest_unwired
lowest_marked_in s l m o zero h k = omega arith
lowest_marked_in s l m o (suc n) h k =
    let long = k.long in
    let within : o < length m = omega arith in
    rw (drop-cons m o false) (go (get_or m o false) (any_touches (at_end s o) l) (k.right o (omega arith)) (lowest_marked_in s l m (suc o) n (omega arith) k))
  where
    go : (a b : Bool) → a ≡ b → suc o + position_or_len not (take n (drop (suc o) m)) ≡ lowest_unwired l s (suc o) n → o + position_or_len not (a ∷ take n (drop (suc o) m)) ≡ cond b (lowest_unwired l s (suc o) n) o
    go true true p e = omega arith
    go false false p e = omega arith
    go true false p e = absurd (let z : ◌≡◌ {A = ℕ} 0 1 = cc in omega arith)
    go false true p e = absurd (let z : ◌≡◌ {A = ℕ} 0 1 = cc in omega arith)

pub lowest_marked : (s : Spot) (l : List Wire) (m : List Bool) (n : ℕ) → n ≤ row_slots → Marks s l m → unwrap_or (position not (take n m)) n ≡ lowest_unwired l s 0 n
lowest_marked s l m n h k = go (ltb (position_or_len not (take n m)) (length (take n m))) refl
  where
    left : position_or_len not (take n m) ≡ lowest_unwired l s 0 n
    left = let e = lowest_marked_in s l m 0 n (omega arith) k in omega arith

    go : (b : Bool) → ltb (position_or_len not (take n m)) (length (take n m)) ≡ b → unwrap_or (cond b (Some (position_or_len not (take n m))) None) n ≡ lowest_unwired l s 0 n
    go true p = left
    go false p =
        let long = k.long in
        let all = length-take-le n m (omega arith) in
        let most = prefix_len-le-length (λ (x : Bool). not (not x)) (take n m) in
        let past = ltb-false (position_or_len not (take n m)) (length (take n m)) p in
        let e = left in
        omega arith

-- One more row.

pub wires_more : (t : List Row) (i : ℕ) → wires_in t (i + 1) ≡ wire_of (row_at t i) ∷ wires_in t i
unfolding rows_in
wires_more t i = rw (add-one i)

pub length_rows : (t : List Row) (n : ℕ) → length (rows_in t n) ≡ n
unfolding rows_in
length_rows t zero = refl
length_rows t (suc n) = ap suc (length_rows t n)

-- A turn of each loop.

pub marks_turn : (s : Spot) (t : List Row) (i : ℕ) (r : Row) (m : List Bool) {x y : Place} {m' m'' : List Bool} → Marks s (wires_in t i) m → r ≡ row_at t i → x ≡ (wire_of r).out → y ≡ (wire_of r).into →
    m' ≡ marked s x m → m'' ≡ marked s y m' → Marks s (wires_in t (i + 1)) m''
marks_turn s t i r m {x} {y} {m'} k e p q a b =
    subst (Marks s (wires_in t (i + 1)))
    (sym (b ∙ ap (λ (z : Place). marked s z m') q ∙ ap (marked s (wire_of r).into) (a ∙ ap (λ (z : Place). marked s z m) p)))
    (subst (λ (l : List Wire). Marks s l (marked s (wire_of r).into (marked s (wire_of r).out m)))
    (ap (λ (z : Row). wire_of z ∷ wires_in t i) e ∙ sym (wires_more t i))
    (marks_more s (wires_in t i) (wire_of r) m k))

pub length_wires : (t : List Row) (n : ℕ) → length (wires_in t n) ≡ n
length_wires t n = length-map (rows_in t n) wire_of ∙ length_rows t n
