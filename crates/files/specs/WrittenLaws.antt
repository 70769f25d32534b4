-- A laid file is what is written of the view that it says: fields, records, units and kinds, byte for byte.
use Rattle.std.specs.List.{list_all}
use Rattle.std.specs.Prelude.{◌≡◌, refl, Bool, cond, ◌&&◌, eqb, drop}
use Rattle.std.proofs.Math.Path.{sym, ap, subst}
use Rattle.std.proofs.Common.{◌∙◌, take_all, take_at, drop_at, drop-drop, take-add, take-take, get_or-drop}
use Rattle.std.proofs.Math.Bool.{true}
use Rattle.std.proofs.lemmas.Bool.{and_parts}
use Rattle.std.proofs.lemmas.List.{map-id}
use Rattle.std.proofs.lemmas.Simd.{map-map}
use mathlib.Core.List.{List, [], ◌∷◌, ◌++◌, map, flat_map, append-nil}
use Prim.Native.Nat.{ℕ, zero, suc, ◌+◌, ◌-◌, ◌*◌, ◌/◌, ◌%◌, ◌≤◌, ◌<◌}
use native.Mathlib.Omega.{arith}
use Rattle.std.proofs.Math.ListN.{length, get_or, take, replicate, length-drop}
use Rattle.std.proofs.Math.Seq.{take-nil, drop-cons, length-take-le}
use borrow.Author.Tests.{eqb-true, eq-eqb}
use Rattle.portgraph.specs.Sums.{total_same}
use Rattle.files.specs.Layout.{Record, block_record, wire_record, field_bytes, word_bytes, field_at, word_at, record_bytes, unit_records, unit_head, sum_of, unit, units_for, units_from, units_of, bytes_of, block_of, wire_of, record_at, records_at, records_of, unbytes}
use Rattle.files.specs.Loading.{sum_holds, units_in, unit_list, is_whole, count_of, of_kind, zeros_from, block_zeros, zeros_right, units_right, view_right, is_laid}
use Rattle.files.specs.Claims.{Bytes}
use Rattle.files.specs.LaidLaws.{field_taken, records_many, records_in, UnitOf, Units, units_counted, parts, said}

-- Parts of a list.

module _ {A : Type 0} where
  pub drop_taken : (i n : ℕ) (l : List A) → drop i (take n l) ≡ take (n - i) (drop i l)
  drop_taken zero n l = let e : n - 0 ≡ n = omega arith in rw e
  drop_taken (suc i) zero l = let e : 0 - suc i ≡ 0 = omega arith in rw e
  drop_taken (suc i) (suc n) [] = sym (take-nil (suc n - suc i))
  drop_taken (suc i) (suc n) (x ∷ l) = let e : suc n - suc i ≡ n - i = omega arith in rw e (drop_taken i n l)

  pub part_taken : (k i n : ℕ) (l : List A) → i + k ≤ n → take k (drop i (take n l)) ≡ take k (drop i l)
  part_taken k i n l h = ap (take k) (drop_taken i n l) ∙ take-take k (n - i) (drop i l) (omega arith)

  -- a part, and the part behind it
  pub parts_joined : (n m i : ℕ) (l : List A) → take n (drop i l) ++ take m (drop (i + n) l) ≡ take (n + m) (drop i l)
  parts_joined n m i l = ap (λ (k : List A). take n (drop i l) ++ take m k) (sym (drop-drop n i l)) ∙ sym (take-add n m (drop i l))

pub bytes_after : (bytes : List ℕ) (k : ℕ) → Bytes bytes → Bytes (drop k bytes)
bytes_after bytes k b i = let e = get_or-drop k bytes i 0 in let h = b (k + i) in omega arith

-- Fields, words, records.

low_byte : (x y : ℕ) → x < 256 → (x + 256 * y) % 256 ≡ x
low_byte x y h = omega arith

high_byte : (x y : ℕ) → x < 256 → y < 256 → (x + 256 * y) / 256 % 256 ≡ y
high_byte x y h k =
    let e : (x + 256 * y) / 256 ≡ y = omega arith in
    let f : y % 256 ≡ y = omega arith in
    ap (λ (n : ℕ). n % 256) e ∙ f

module _ (bytes : List ℕ) (b : Bytes bytes) where
  pub field_small : (i : ℕ) → field_at bytes i < 65536
  unfolding field_at
  field_small i = let h = b i in let k = b (i + 1) in omega arith

  field_back : (i : ℕ) → i + 2 ≤ length bytes → field_bytes (field_at bytes i) ≡ take 2 (drop i bytes)
  unfolding field_bytes field_at
  field_back i h =
      let x = b i in
      let y = b (i + 1) in
      let n : i + 1 ≡ suc i = omega arith in
      let p = low_byte (get_or bytes i 0) (get_or bytes (i + 1) 0) x in
      let q = high_byte (get_or bytes i 0) (get_or bytes (i + 1) 0) x y ∙ ap (λ (k : ℕ). get_or bytes k 0) n in
      let e = drop-cons bytes i 0 (omega arith) in
      let f = drop-cons bytes (suc i) 0 (omega arith) in
      (λ j. p j ∷ q j ∷ []) ∙ sym (ap (take 2) e ∙ ap (λ (k : List ℕ). get_or bytes i 0 ∷ take 1 k) f)

  word_back : (i : ℕ) → i + 4 ≤ length bytes → word_bytes (word_at bytes i) ≡ take 4 (drop i bytes)
  unfolding word_bytes word_at
  word_back i h =
      let x = field_small i in
      let p : (field_at bytes i + 65536 * field_at bytes (i + 2)) % 65536 ≡ field_at bytes i = omega arith in
      let q : (field_at bytes i + 65536 * field_at bytes (i + 2)) / 65536 ≡ field_at bytes (i + 2) = omega arith in
      let s = field_back i (omega arith) in
      let t = field_back (i + 2) (omega arith) in
      (λ j. field_bytes (p j) ++ field_bytes (q j)) ∙ ((λ j. s j ++ t j) ∙ parts_joined 2 2 i bytes)

  record_back : 8 ≤ length bytes → record_bytes (record_at bytes) ≡ take 8 bytes
  unfolding record_bytes record_at
  record_back h =
      let p = field_back 0 (omega arith) in
      let q = field_back 2 (omega arith) in
      let r = field_back 4 (omega arith) in
      let s = field_back 6 (omega arith) in
      (λ j. p j ++ (q j ++ (r j ++ s j)))
      ∙ (ap (λ (l : List ℕ). take 2 bytes ++ (take 2 (drop 2 bytes) ++ l)) (parts_joined 2 2 4 bytes)
      ∙ (ap (λ (l : List ℕ). take 2 bytes ++ l) (parts_joined 2 4 2 bytes) ∙ parts_joined 2 6 0 bytes))

records_back : (n : ℕ) (bytes : List ℕ) → Bytes bytes → 8 * n ≤ length bytes → flat_map record_bytes (records_at n bytes) ≡ take (8 * n) bytes
unfolding flat_map records_at
records_back zero bytes b h = refl
records_back (suc n) bytes b h =
    let l = length-drop 8 bytes in
    let z : 8 + 8 * n ≡ 8 * suc n = omega arith in
    let e = record_back bytes b (omega arith) in
    let r = records_back n (drop 8 bytes) (bytes_after bytes 8 b) (omega arith) in
    (λ j. e j ++ r j) ∙ (parts_joined 8 (8 * n) 0 bytes ∙ ap (λ (k : ℕ). take k bytes) z)

record_taken : (n : ℕ) (bytes : List ℕ) → 8 ≤ n → record_at (take n bytes) ≡ record_at bytes
unfolding record_at
record_taken n bytes h =
    let p = field_taken n 0 bytes (omega arith) in
    let q = field_taken n 2 bytes (omega arith) in
    let r = field_taken n 4 bytes (omega arith) in
    let s = field_taken n 6 bytes (omega arith) in
    λ j. record { a = p j; b = q j; c = r j; d = s j }

pub records_taken : (n k : ℕ) (bytes : List ℕ) → 8 * n ≤ k → records_at n (take k bytes) ≡ records_at n bytes
unfolding records_at
records_taken zero k bytes h = refl
records_taken (suc n) k bytes h =
    let e = record_taken k bytes (omega arith) in
    let r = ap (records_at n) (drop_taken 8 k bytes) ∙ records_taken n (k - 8) (drop 8 bytes) (omega arith) in
    λ j. e j ∷ r j

-- the records of a unit stand in its 512 bytes
unit_records_lem : (bytes : List ℕ) → field_at bytes 2 ≤ unit_records → records_of (take 512 bytes) ≡ records_of bytes
unfolding records_of
unit_records_lem bytes h =
    let e = field_taken 512 2 bytes (omega arith) in
    ap (λ (n : ℕ). records_at n (drop 4 (take 512 bytes))) e
    ∙ (ap (records_at (field_at bytes 2)) (drop_taken 4 512 bytes) ∙ records_taken (field_at bytes 2) 508 (drop 4 bytes) (omega arith))

-- Sums.

pub word_taken : (n i : ℕ) (bytes : List ℕ) → i + 4 ≤ n → word_at (take n bytes) i ≡ word_at bytes i
unfolding word_at
word_taken n i bytes h =
    let p = field_taken n i bytes (omega arith) in
    let q = field_taken n (i + 2) bytes (omega arith) in
    λ j. p j + 65536 * q j

-- only the first 508 bytes count
pub sum_taken : (n : ℕ) (bytes : List ℕ) → 508 ≤ n → sum_of (take n bytes) ≡ sum_of bytes
unfolding sum_of
sum_taken n bytes h = ap (λ (k : ℕ). k % 4294967296) (total_same 127 (λ i. word_at (take n bytes) (4 * i)) (λ i. word_at bytes (4 * i)) (λ i k. word_taken n (4 * i) bytes (omega arith)))

-- Units.

zeros_back : (l : List ℕ) → list_all (eqb 0) l ≡ true → l ≡ replicate (length l) 0
zeros_back [] e = refl
zeros_back (x ∷ l) e =
    let h = and_parts (eqb 0 x) (list_all (eqb 0) l) e in
    let a = sym (eqb-true 0 x h.0) in
    let r = zeros_back l h.1 in
    λ j. a j ∷ r j

module _ (kind left : ℕ) (bytes : List ℕ) (u : UnitOf kind left bytes) (b : Bytes bytes) (long : 512 ≤ length bytes) where
  unused : take (8 * (unit_records - field_at bytes 2)) (drop (4 + 8 * field_at bytes 2) bytes) ≡ replicate (8 * (unit_records - field_at bytes 2)) 0
  unfolding zeros_right
  unused =
      let c = field_at bytes 2 in
      let f = u.few in
      let e : field_at (take 512 bytes) 2 ≡ c = field_taken 512 2 bytes (omega arith) in
      let z = (and_parts _ _ u.zeros).0 in
      let y : list_all (eqb 0) (take (8 * (unit_records - c)) (drop (4 + 8 * c) (take 512 bytes))) ≡ true =
      subst (λ (n : ℕ). list_all (eqb 0) (take (8 * (unit_records - n)) (drop (4 + 8 * n) (take 512 bytes))) ≡ true) e z in
      let p = part_taken (8 * (unit_records - c)) (4 + 8 * c) 512 bytes (omega arith) in
      let x = subst (λ (l : List ℕ). list_all (eqb 0) l ≡ true) p y in
      let n = length-drop (4 + 8 * c) bytes in
      let m : length (take (8 * (unit_records - c)) (drop (4 + 8 * c) bytes)) ≡ 8 * (unit_records - c) = length-take-le (8 * (unit_records - c)) (drop (4 + 8 * c) bytes) (omega arith) in
      zeros_back (take (8 * (unit_records - c)) (drop (4 + 8 * c) bytes)) x ∙ ap (λ (k : ℕ). replicate k 0) m

  head_back : unit_head kind (records_of bytes) ≡ take 508 bytes
  unfolding unit_head records_of
  head_back =
      let c = field_at bytes 2 in
      let f = u.few in
      let n = records_many c (drop 4 bytes) in
      let p = ap field_bytes (sym u.kind_is) ∙ field_back bytes b 0 (omega arith) in
      let q = ap field_bytes n ∙ field_back bytes b 2 (omega arith) in
      let l = length-drop 4 bytes in
      let r = records_back c (drop 4 bytes) (bytes_after bytes 4 b) (omega arith) in
      let s = ap (λ (k : ℕ). replicate (8 * (unit_records - k)) 0) n ∙ sym unused in
      let z : 8 * c + 8 * (unit_records - c) ≡ 504 = omega arith in
      (λ j. p j ++ (q j ++ (r j ++ s j)))
      ∙ (ap (λ (k : List ℕ). take 2 bytes ++ (take 2 (drop 2 bytes) ++ k)) (parts_joined (8 * c) (8 * (unit_records - c)) 4 bytes ∙ ap (λ (k : ℕ). take k (drop 4 bytes)) z)
      ∙ (ap (λ (k : List ℕ). take 2 bytes ++ k) (parts_joined 2 504 2 bytes) ∙ parts_joined 2 506 0 bytes))

  unit_back : sum_holds (take 512 bytes) ≡ true → unit kind (records_of bytes) ≡ take 512 bytes
  unfolding unit sum_holds
  unit_back h =
      let e = eqb-true _ _ h in
      let s : sum_of (unit_head kind (records_of bytes)) ≡ word_at bytes 508 =
      ap sum_of head_back ∙ (sum_taken 508 bytes (omega arith) ∙ (sym (sum_taken 512 bytes (omega arith)) ∙ (sym e ∙ word_taken 512 508 bytes (omega arith)))) in
      let w = ap word_bytes s ∙ word_back bytes b 508 (omega arith) in
      (λ j. head_back j ++ w j) ∙ parts_joined 508 4 0 bytes

-- so many units of a kind
units_back : (kind n : ℕ) (bytes : List ℕ) → Units kind n bytes → Bytes bytes → 512 * n ≤ length bytes → list_all sum_holds (units_in n bytes) ≡ true →
    units_from kind n (records_in n bytes) ≡ take (512 * n) bytes
unfolding units_from records_in units_in records_of
units_back kind zero bytes u b h s = refl
units_back kind (suc n) bytes u b h s =
    let t = and_parts (sum_holds (take 512 bytes)) (list_all sum_holds (units_in n (drop 512 bytes))) s in
    let l = length-drop 512 bytes in
    let z : 512 + 512 * n ≡ 512 * suc n = omega arith in
    let e = unit_back kind n bytes u.0 b (omega arith) t.0 in
    let r = units_back kind n (drop 512 bytes) u.1 (bytes_after bytes 512 b) (omega arith) t.1 in
    let f = first n u.0.full (records_in n (drop 512 bytes)) (λ k. ap (λ (m : ℕ). records_in m (drop 512 bytes)) k) in
    (λ j. unit kind (f.0 j) ++ f.1 j) ∙ ((λ j. e j ++ r j) ∙ (parts_joined 512 (512 * n) 0 bytes ∙ ap (λ (k : ℕ). take k bytes) z))
  where
    many : length (records_of bytes) ≡ field_at bytes 2
    many = records_many (field_at bytes 2) (drop 4 bytes)

    first : (k : ℕ) → (0 < k → unit_records ≤ field_at bytes 2) → (later : List Record) → (k ≡ 0 → later ≡ []) →
        (take unit_records (records_of bytes ++ later) ≡ records_of bytes) × (units_from kind k (drop unit_records (records_of bytes ++ later)) ≡ units_from kind k later)
    first zero g later y =
        let x = u.0.few in
        let m = many in
        (ap (λ (k : List Record). take unit_records (records_of bytes ++ k)) (y refl) ∙ (ap (take unit_records) (append-nil (records_of bytes)) ∙ take_all unit_records (records_of bytes) (omega arith)), refl)
    first (suc k) g later y =
        let x = u.0.few in
        let w = g (omega arith) in
        let m = many in
        let n : length (records_of bytes) ≡ unit_records = omega arith in
        (take_at (records_of bytes) later unit_records n, ap (units_from kind (suc k)) (drop_at (records_of bytes) later unit_records n))

-- The file.

blocks_same : (n : ℕ) (bytes : List ℕ) → Units 1 n bytes → map block_record (map block_of (records_in n bytes)) ≡ records_in n bytes
unfolding records_in zeros_right
blocks_same zero bytes u = refl
blocks_same (suc n) bytes u = each (records_of bytes) (records_in n (drop 512 bytes)) zeros (blocks_same n (drop 512 bytes) u.1)
  where
    each : (l m : List Record) → list_all block_zeros l ≡ true → map block_record (map block_of m) ≡ m → map block_record (map block_of (l ++ m)) ≡ l ++ m
    each [] m e r = r
    each (x ∷ l) m e r =
        let h = and_parts (block_zeros x) (list_all block_zeros l) e in
        let k = and_parts (eqb 0 x.c) (eqb 0 x.d) h.0 in
        let p = eqb-true 0 x.c k.0 in
        let q = eqb-true 0 x.d k.1 in
        let s = each l m h.1 r in
        λ j. record { a = x.a; b = x.b; c = p j; d = q j } ∷ s j

    zeros : list_all block_zeros (records_of bytes) ≡ true
    zeros =
        let z = (and_parts (zeros_from (4 + 8 * count_of (take 512 bytes)) (take 512 bytes)) (cond (of_kind 1 (take 512 bytes)) (list_all block_zeros (records_of (take 512 bytes))) true) u.0.zeros).1 in
        let k : of_kind 1 (take 512 bytes) ≡ true = eq-eqb (field_at (take 512 bytes) 0) 1 (field_taken 512 0 bytes (omega arith) ∙ u.0.kind_is) in
        let y : list_all block_zeros (records_of (take 512 bytes)) ≡ true = subst (λ (t : Bool). cond t (list_all block_zeros (records_of (take 512 bytes))) true ≡ true) k z in
        subst (λ (l : List Record). list_all block_zeros l ≡ true) (unit_records_lem bytes u.0.few) y

-- the units of the second kind, after those of the first
units_after : (p q : ℕ) (f : List ℕ → Bool) (bytes : List ℕ) → list_all f (units_in (p + q) bytes) ≡ true → (list_all f (units_in p bytes) ≡ true) × (list_all f (units_in q (drop (512 * p) bytes)) ≡ true)
unfolding units_in
units_after zero q f bytes e = let n : 0 + q ≡ q = omega arith in (refl, subst (λ (k : ℕ). list_all f (units_in k bytes) ≡ true) n e)
units_after (suc p) q f bytes e =
    let n : suc p + q ≡ suc (p + q) = omega arith in
    let h = and_parts (f (take 512 bytes)) (list_all f (units_in (p + q) (drop 512 bytes))) (subst (λ (k : ℕ). list_all f (units_in k bytes) ≡ true) n e) in
    let r = units_after p q f (drop 512 bytes) h.1 in
    let z : 512 + 512 * p ≡ 512 * suc p = omega arith in
    let d = drop-drop (512 * p) 512 bytes ∙ ap (λ (k : ℕ). drop k bytes) z in
    ((λ j. h.0 j && r.0 j), subst (λ (l : List ℕ). list_all f (units_in q l) ≡ true) d r.1)

-- a laid file is what is written of its view
pub laid_written : (b : List ℕ) → Bytes b → is_whole b ≡ true → is_laid b ≡ true → bytes_of (unbytes b) ≡ b
unfolding is_whole is_laid unit_list bytes_of units_of
laid_written b bytes w l =
    let e = (and_parts (units_right (units_in (length b / 512) b)) (view_right (unbytes b)) l).0 in
    let h = and_parts (eqb (length b % 512) 0) (list_all sum_holds (units_in (length b / 512) b)) w in
    let s = parts b e in
    let p = s.first in
    let q = s.second in
    let o = s.whole in
    let whole = eqb-true (length b % 512) 0 h.0 in
    let sums = units_after p q sum_holds b (subst (λ (n : ℕ). list_all sum_holds (units_in n b) ≡ true) o h.1) in
    let after = drop (512 * p) b in
    let d = length-drop (512 * p) b in
    let x : units_from 1 (units_for (length (records_in p b))) (records_in p b) ≡ take (512 * p) b =
    ap (λ (n : ℕ). units_from 1 n (records_in p b)) (units_counted 1 p b s.blocks) ∙ units_back 1 p b s.blocks bytes (omega arith) sums.0 in
    let y : units_from 2 (units_for (length (records_in q after))) (records_in q after) ≡ take (512 * q) after =
    ap (λ (n : ℕ). units_from 2 n (records_in q after)) (units_counted 2 q after s.wires) ∙ units_back 2 q after s.wires (bytes_after b (512 * p) bytes) (omega arith) sums.1 in
    let m = blocks_same p b s.blocks in
    let n = map-map wire_record wire_of (records_in q after) ∙ map-id (records_in q after) in
    let z : length b ≤ 512 * p + 512 * q = omega arith in
    ap bytes_of (said b e)
    ∙ ((λ j. units_from 1 (units_for (length (m j))) (m j) ++ units_from 2 (units_for (length (n j))) (n j))
    ∙ ((λ j. x j ++ y j) ∙ (sym (take-add (512 * p) (512 * q) b) ∙ take_all (512 * p + 512 * q) b z)))
