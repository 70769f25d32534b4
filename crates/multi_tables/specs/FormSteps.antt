-- Readings, marks and flags, step by step: what the functions' proofs cite.
use Rattle.port_tables.specs.Limits.{port_slots}
use Rattle.port_tables.specs.TableSteps.{at_inside}
use Rattle.std.specs.Prelude.{not, eqb, unwrap_or}
use Rattle.std.specs.List.{position, position_or_len}
use Rattle.std.proofs.Common.{length-take-le}
use Rattle.std.proofs.lemmas.List.Sums.{prefix_len-le-length}
use Rattle.std.proofs.Math.Seq.{drop-cons}
use Rattle.std.proofs.Math.ListN.{take}
use Rattle.std.specs.Prelude.{◌≡◌, refl, true, false, Bool, cond, List, ℕ, ◌<◌, ◌≤◌, zero, suc, ◌+◌, get_or, set, length, ltb, Some, None}
use Rattle.std.proofs.Common.{ap, ◌∙◌, sym, arith, ltb-false}
use Rattle.multi_tables.specs.Forms.{flag_at, put_flag, lowest_unlinked}
use Rattle.port_tables.specs.Tables.{fill}
use Rattle.port_tables.specs.TableSteps.{fill_none, fill_more}
use Rattle.std.proofs.Math.ListN.{replicate, drop}
use Rattle.std.proofs.Math.Seq.{paste, paste-zero, paste-suc}
use Rattle.std.proofs.lemmas.List.{get_or_past, set_past, get_or-replicate, length-replicate, length-take, length-drop}
use Rattle.std.proofs.lemmas.Slice.{put_mid-paste}
use borrow.Rule.Slice.PartMut.{mid_of, put_mid}

-- Flags in a table of a size.

-- a table of that size reads and stores as a list does
flag_by : (t : List Bool) (size i : ℕ) (q : Bool) → ltb i size ≡ q → (size ≤ i → get_or t i false ≡ false) → (q ≡ false → size ≤ i) → cond q (get_or t i false) false ≡ get_or t i false
flag_by t size i true e f g = refl
flag_by t size i false e f g = sym (f (g refl))

put_by : (t : List Bool) (size i : ℕ) (b q : Bool) → ltb i size ≡ q → (size ≤ i → set t i b ≡ t) → (q ≡ false → size ≤ i) → cond q (set t i b) t ≡ set t i b
put_by t size i b true e f g = refl
put_by t size i b false e f g = sym (f (g refl))

pub flag_is : (t : List Bool) (size i : ℕ) → length t ≡ size → flag_at t size i ≡ get_or t i false
unfolding flag_at
flag_is t size i e = flag_by t size i (ltb i size) refl (λ h. get_or_past t i false (omega arith)) (λ h. ltb-false i size h)

pub put_flag_is : (t : List Bool) (size i : ℕ) (b : Bool) → length t ≡ size → put_flag t size i b ≡ set t i b
unfolding put_flag
put_flag_is t size i b e = put_by t size i b (ltb i size) refl (λ h. set_past t i b (omega arith)) (λ h. ltb-false i size h)

-- Marks of a part of the table.

filled : (t : List Bool) (i n k : ℕ) (v : Bool) → i + n ≤ length t → k ≤ n → paste t i (replicate n v) k ≡ fill t i k v
filled t i n zero v fit h = sym (paste-zero t i (replicate n v)) ∙ fill_none t i v
filled t i n (suc k) v fit h =
    let long = length-replicate n v in
    sym (paste-suc t i (replicate n v) k v (omega arith) (omega arith))
    ∙ rw (get_or-replicate n k v v (omega arith), filled t i n k v fit (omega arith)) (fill_more t i k v)

-- a part of the table that holds one mark alone
pub part_filled : (t x : List Bool) (i k n : ℕ) (v : Bool) → k ≡ n → i + n ≤ length t → x ≡ replicate (length (mid_of i k t)) v → put_mid i k t x ≡ fill t i n v
part_filled t x i k n v e fit f =
    let long : length (mid_of i k t) ≡ n = omega (arith, length-take k (drop i t), length-drop i t) in
    put_mid-paste i k t x (replicate n v) n (f ∙ ap (λ (m : ℕ). replicate m v) long) (sym e) (sym (length-replicate n v)) ∙ filled t i n n v fit (omega arith)

-- The search of lowest_unlinked.

lowest_in : (t : List ℕ) (f o n : ℕ) → f + o + n ≤ port_slots → length t ≡ port_slots → o + position_or_len (λ x. eqb x 0) (take n (drop (f + o) t)) ≡ lowest_unlinked t f o n
unfolding lowest_unlinked
lowest_in t f o zero h k = omega arith
lowest_in t f o (suc n) h k =
    let within : f + o < length t = omega arith in
    let next : suc (f + o) ≡ f + suc o = omega arith in
    rw (drop-cons t (f + o) 0, sym (at_inside t (f + o) (omega arith)), next) (go (eqb (get_or t (f + o) 0) 0) (lowest_in t f (suc o) n (omega arith) k))
  where
    go : (b : Bool) → suc o + position_or_len (λ x. eqb x 0) (take n (drop (f + suc o) t)) ≡ lowest_unlinked t f (suc o) n
        → o + cond (not b) (1 + position_or_len (λ x. eqb x 0) (take n (drop (f + suc o) t))) 0 ≡ cond b o (lowest_unlinked t f (suc o) n)
    go true e = omega arith
    go false e = omega arith

pub lowest_found : (t : List ℕ) (f n : ℕ) → f + n ≤ port_slots → length t ≡ port_slots → unwrap_or (position (λ x. eqb x 0) (take n (drop f t))) n ≡ lowest_unlinked t f 0 n
lowest_found t f n h k = go (ltb (position_or_len (λ x. eqb x 0) (take n (drop f t))) (length (take n (drop f t)))) refl
  where
    left : position_or_len (λ x. eqb x 0) (take n (drop f t)) ≡ lowest_unlinked t f 0 n
    left =
        let z : f + 0 ≡ f = omega arith in
        let e = rw z at (lowest_in t f 0 n (omega arith) k) in
        omega arith

    go : (b : Bool) → ltb (position_or_len (λ x. eqb x 0) (take n (drop f t))) (length (take n (drop f t))) ≡ b
        → unwrap_or (cond b (Some (position_or_len (λ x. eqb x 0) (take n (drop f t)))) None) n ≡ lowest_unlinked t f 0 n
    go true p = left
    go false p =
        let long = length-drop f t in
        let all = length-take-le n (drop f t) (omega arith) in
        let most = prefix_len-le-length (λ (x : ℕ). not (eqb x 0)) (take n (drop f t)) in
        let past = ltb-false (position_or_len (λ x. eqb x 0) (take n (drop f t))) (length (take n (drop f t))) p in
        let e = left in
        omega arith
