-- What is written is laid: the file of a sound view whose numbers fit fields passes the tests of sums and layout.
use Rattle.std.specs.List.{list_all}
use Rattle.std.specs.Prelude.{◌≡◌, Bool, ◌&&◌, length, get_or}
use Rattle.std.proofs.Math.Path.{refl, sym, ap, subst}
use Rattle.std.proofs.Common.{◌∙◌, length-append, drop-drop, get_or-drop}
use Rattle.std.proofs.Math.Bool.{true, false, cond}
use mathlib.Core.List.{List, [], ◌++◌, map, flat_map, append_assoc, append-nil}
use Prim.Native.Nat.{ℕ, zero, suc, ◌+◌, ◌-◌, ◌*◌, ◌/◌, ◌%◌, ◌≤◌, ◌<◌}
use native.Mathlib.Omega.{arith}
use Rattle.std.proofs.Math.Dec.{eqb}
use Rattle.std.proofs.Math.ListN.{take, drop, replicate, length-take, length-drop, take-append-drop}
use Rattle.std.proofs.lemmas.Bool.{and_parts}
use Rattle.std.proofs.lemmas.List.{length-replicate}
use Rattle.std.proofs.lemmas.List.Elements.{All-replicate}
use Rattle.std.proofs.lemmas.List.Sums.{list_all-from_AllPass}
use Rattle.std.proofs.Math.Seq.{take_at, drop_at}
use borrow.Author.Tests.{eq-eqb, le-leb}
use Rattle.port_tables.specs.Lists.{Member}
use Rattle.multiportgraph.specs.HiddenStays.{true_not_false}
use Rattle.port_tables.specs.Listing.{member_left, member_right, member_map}
use Rattle.files.specs.View.{View}
use Rattle.files.specs.Layout.{Record, block_record, wire_record, field_bytes, word_bytes, field_at, word_at, record_bytes, unit_records, unit_head, sum_of, unit, units_for, units_from, units_of, bytes_of, records_of, unbytes, AllFit, ViewFits}
use Rattle.files.specs.LayoutLaws.{records_length, head_length, unit_length, taken_few, units_length, unit_then, kind_read, unit_read, units_enough, view_read_back}
use Rattle.files.specs.Loading.{sum_holds, units_in, unit_list, is_whole, kind_of, count_of, of_kind, kinds_right, goes_on, counts_right, zeros_from, block_zeros, zeros_right, units_right, view_right, is_laid}
use Rattle.files.specs.Claims.{Sound}
use Rattle.files.specs.LaidLaws.{field_taken, UnitOf, Units}
use Rattle.files.specs.WrittenLaws.{sum_taken}
use Rattle.files.specs.SoundLaws.{item_every, sound_right}

-- Words.

field_after : (k i : ℕ) (bytes : List ℕ) → field_at (drop k bytes) i ≡ field_at bytes (k + i)
unfolding field_at
field_after k i bytes =
    let e : k + (i + 1) ≡ k + i + 1 = omega arith in
    let p = get_or-drop k bytes i 0 in
    let q = get_or-drop k bytes (i + 1) 0 ∙ ap (λ (n : ℕ). get_or bytes n 0) e in
    λ j. p j + 256 * q j

word_after : (k : ℕ) (bytes : List ℕ) → word_at bytes k ≡ word_at (drop k bytes) 0
unfolding word_at
word_after k bytes =
    let e : k + 0 ≡ k = omega arith in
    let p = field_after k 0 bytes ∙ ap (field_at bytes) e in
    let q = field_after k 2 bytes in
    sym (λ j. p j + 65536 * q j)

field_again : (x : ℕ) → x < 65536 → x % 256 + 256 * (x / 256 % 256) ≡ x
field_again x h = omega arith

word_again : (x : ℕ) → x < 4294967296 → word_at (word_bytes x) 0 ≡ x
unfolding word_at word_bytes field_at field_bytes
word_again x h =
    let p = field_again (x % 65536) (omega arith) in
    let q = field_again (x / 65536) (omega arith) in
    let e : x % 65536 + 65536 * (x / 65536) ≡ x = omega arith in
    (λ j. p j + 65536 * q j) ∙ e

sum_small : (l : List ℕ) → sum_of l < 4294967296
unfolding sum_of
sum_small l = omega arith

-- A unit.

module _ (kind : ℕ) (records : List Record) (few : length records ≤ unit_records) where
  abbrev many : ℕ
  many = length records

  count_read : (l : List ℕ) → field_at (unit kind records ++ l) 2 ≡ many
  unfolding field_at field_bytes
  count_read l = rw (unit_then kind records l) (omega arith)

  -- the records that it doesn't use
  unused_read : (l : List ℕ) → take (8 * (unit_records - many)) (drop (4 + 8 * many) (unit kind records ++ l)) ≡ replicate (8 * (unit_records - many)) 0
  unfolding field_bytes
  unused_read l =
      let zeros : List ℕ = replicate (8 * (unit_records - many)) 0 in
      let rest = word_bytes (sum_of (unit_head kind records)) ++ l in
      let d : drop (4 + 8 * many) (unit kind records ++ l) ≡ zeros ++ rest =
      sym (drop-drop (8 * many) 4 (unit kind records ++ l))
      ∙ (ap (λ (k : List ℕ). drop (8 * many) (drop 4 k)) (unit_then kind records l) ∙ drop_at (flat_map record_bytes records) (zeros ++ rest) (8 * many) (records_length records)) in
      ap (take (8 * (unit_records - many))) d ∙ take_at zeros rest (8 * (unit_records - many)) (length-replicate {A = ℕ} (8 * (unit_records - many)) 0)

  sum_read : sum_holds (unit kind records) ≡ true
  unfolding sum_holds unit
  sum_read =
      let head = unit_head kind records in
      let n = head_length kind records few in
      let w = word_bytes (sum_of head) in
      let a : sum_of (head ++ w) ≡ sum_of head = sym (sum_taken 508 (head ++ w) (omega arith)) ∙ ap sum_of (take_at head w 508 n) in
      let b : word_at (head ++ w) 508 ≡ sum_of head = word_after 508 (head ++ w) ∙ (ap (λ (l : List ℕ). word_at l 0) (drop_at head w 508 n) ∙ word_again (sum_of head) (sum_small head)) in
      eq-eqb (word_at (head ++ w) 508) (sum_of (head ++ w)) (b ∙ sym a)

  module _ (kindSmall : kind < 65536) (fit : AllFit records) (blocks : eqb kind 1 ≡ true → (r : Record) → Member r records → block_zeros r ≡ true) where
    zeros_read : zeros_right (unit kind records ++ []) ≡ true
    unfolding zeros_right
    zeros_read =
        let u = unit kind records ++ [] in
        let c = count_read [] in
        let z : zeros_from (4 + 8 * count_of u) u ≡ true =
        ap (λ (n : ℕ). list_all (eqb 0) (take (8 * (unit_records - n)) (drop (4 + 8 * n) u))) c ∙ (ap (list_all (eqb 0)) (unused_read []) ∙ list_all-from_AllPass (eqb 0) (replicate (8 * (unit_records - many)) 0) (All-replicate (λ (x : ℕ). eqb 0 x ≡ true) (8 * (unit_records - many)) 0 refl)) in
        let k = kind_read kind records [] kindSmall in
        let r = unit_read kind records [] few fit in
        let y : cond (of_kind 1 u) (list_all block_zeros (records_of u)) true ≡ true = (λ j. cond (eqb (k j) 1) (list_all block_zeros (r j)) true) ∙ go (eqb kind 1) refl in
        λ j. z j && y j
      where
        go : (t : Bool) → eqb kind 1 ≡ t → cond t (list_all block_zeros records) true ≡ true
        go true e = item_every block_zeros records (blocks e)
        go false e = refl

    unit_again : (left : ℕ) (l : List ℕ) → 1 ≤ many → (0 < left → unit_records ≤ many) → UnitOf kind left (unit kind records ++ l)
    unit_again left l h f =
        let c = count_read l in
        let t : take 512 (unit kind records ++ l) ≡ unit kind records ++ [] = take_at (unit kind records) l 512 (unit_length kind records few) ∙ sym (append-nil (unit kind records)) in
        record {
          kind_is = kind_read kind records l kindSmall;
          some = omega arith;
          few = omega arith;
          full = λ k. let g = f k in omega arith;
          zeros = ap zeros_right t ∙ zeros_read;
        }

-- Units of a kind.

module _ (kind : ℕ) (kindSmall : kind < 65536) where
  units_again : (n : ℕ) (records : List Record) (l : List ℕ) → length records ≤ unit_records * n → unit_records * n ≤ length records + 62 → AllFit records →
      (eqb kind 1 ≡ true → (r : Record) → Member r records → block_zeros r ≡ true) → Units kind n (units_from kind n records ++ l)
  unfolding units_from
  units_again zero records l most least fit z = tt
  units_again (suc n) records l most least fit z =
      let first = take unit_records records in
      let later = drop unit_records records in
      let a = length-take unit_records records in
      let b = length-drop unit_records records in
      let few = taken_few records in
      let whole : first ++ later ≡ records = take-append-drop unit_records records in
      let left : (r : Record) → Member r first → Member r records = λ r i. subst (λ (x : List Record). Member r x) whole (member_left r first later i) in
      let right : (r : Record) → Member r later → Member r records = λ r i. subst (λ (x : List Record). Member r x) whole (member_right r first later i) in
      let u = unit_again kind first few kindSmall (λ r i. fit r (left r i)) (λ e r i. z e r (left r i)) n (units_from kind n later ++ l) (omega arith) (λ h. omega arith) in
      let rest = units_again n later l (omega arith) (omega arith) (λ r i. fit r (right r i)) (λ e r i. z e r (right r i)) in
      let d = drop_at (unit kind first) (units_from kind n later ++ l) 512 (unit_length kind first few) in
      subst (Units kind (suc n)) (sym (append_assoc (unit kind first) (units_from kind n later) l)) (u, subst (Units kind n) (sym d) rest)

  sums_again : (n : ℕ) (records : List Record) (l : List ℕ) → list_all sum_holds (units_in n (units_from kind n records ++ l)) ≡ true
  unfolding units_from units_in
  sums_again zero records l = refl
  sums_again (suc n) records l =
      let first = take unit_records records in
      let later = drop unit_records records in
      let few = taken_few records in
      let e = append_assoc (unit kind first) (units_from kind n later) l in
      let t = take_at (unit kind first) (units_from kind n later ++ l) 512 (unit_length kind first few) in
      let d = drop_at (unit kind first) (units_from kind n later ++ l) 512 (unit_length kind first few) in
      let s = sum_read kind first few in
      let r = sums_again n later l in
      ap (λ (x : List ℕ). sum_holds (take 512 x) && list_all sum_holds (units_in n (drop 512 x))) e
      ∙ ((λ j. sum_holds (t j) && list_all sum_holds (units_in n (d j))) ∙ (λ j. s j && r j))

-- What the tests find.

every_kind : (kind n : ℕ) (bytes : List ℕ) → Units kind n bytes → list_all (of_kind kind) (units_in n bytes) ≡ true
unfolding units_in
every_kind kind zero bytes u = refl
every_kind kind (suc n) bytes u =
    let a = eq-eqb (kind_of (take 512 bytes)) kind (field_taken 512 0 bytes (omega arith) ∙ u.0.kind_is) in
    let r = every_kind kind n (drop 512 bytes) u.1 in
    λ j. a j && r j

every_zeros : (kind n : ℕ) (bytes : List ℕ) → Units kind n bytes → list_all zeros_right (units_in n bytes) ≡ true
unfolding units_in
every_zeros kind zero bytes u = refl
every_zeros kind (suc n) bytes u =
    let a = u.0.zeros in
    let r = every_zeros kind n (drop 512 bytes) u.1 in
    λ j. a j && r j

-- units one after the other
module _ (q : ℕ) where
  next_units : (p : ℕ) (bytes : List ℕ) → drop (512 * suc p) bytes ≡ drop (512 * p) (drop 512 bytes)
  next_units p bytes = let z : 512 * suc p ≡ 512 + 512 * p = omega arith in ap (λ (m : ℕ). drop m bytes) z ∙ sym (drop-drop (512 * p) 512 bytes)

  units_before : (p : ℕ) (f : List ℕ → Bool) (bytes : List ℕ) → list_all f (units_in p bytes) ≡ true → list_all f (units_in q (drop (512 * p) bytes)) ≡ true → list_all f (units_in (p + q) bytes) ≡ true
  unfolding units_in
  units_before zero f bytes e h = let n : 0 + q ≡ q = omega arith in rw n h
  units_before (suc p) f bytes e h =
      let n : suc p + q ≡ suc (p + q) = omega arith in
      let k = and_parts (f (take 512 bytes)) (list_all f (units_in p (drop 512 bytes))) e in
      let r = units_before p f (drop 512 bytes) k.1 (subst (λ (l : List ℕ). list_all f (units_in q l) ≡ true) (next_units p bytes) h) in
      let a = k.0 in
      rw n (λ j. a j && r j)

  -- kinds
  kinds_pass : (p : ℕ) (bytes : List ℕ) → Units 1 p bytes → Units 2 q (drop (512 * p) bytes) → kinds_right (units_in (p + q) bytes) ≡ true
  unfolding units_in kinds_right
  kinds_pass zero bytes u v = let n : 0 + q ≡ q = omega arith in rw n (second q v)
    where
      second : (k : ℕ) → Units 2 k bytes → kinds_right (units_in k bytes) ≡ true
      second zero v = refl
      second (suc k) v = rw (field_taken 512 0 bytes (omega arith) ∙ v.0.kind_is) (every_kind 2 k (drop 512 bytes) v.1)
  kinds_pass (suc p) bytes u v =
      let n : suc p + q ≡ suc (p + q) = omega arith in
      let r = kinds_pass p (drop 512 bytes) u.1 (subst (Units 2 q) (next_units p bytes) v) in
      rw n (rw (field_taken 512 0 bytes (omega arith) ∙ u.0.kind_is) r)

  -- counts of a kind, after which come none or others
  counts_pass : (kind p : ℕ) (bytes : List ℕ) → Units kind p bytes → ((u : List ℕ) → kind_of u ≡ kind → goes_on u (units_in q (drop (512 * p) bytes)) ≡ false) →
      counts_right (units_in q (drop (512 * p) bytes)) ≡ true → counts_right (units_in (p + q) bytes) ≡ true
  unfolding units_in counts_right
  counts_pass kind zero bytes s g e = let n : 0 + q ≡ q = omega arith in rw n e
  counts_pass kind (suc p) bytes s g e =
      let n : suc p + q ≡ suc (p + q) = omega arith in
      let d = next_units p bytes in
      let r = counts_pass kind p (drop 512 bytes) s.1 (λ u k. ap (λ (l : List ℕ). goes_on u (units_in q l)) (sym d) ∙ g u k) (subst (λ (l : List ℕ). counts_right (units_in q l) ≡ true) d e) in
      let u = take 512 bytes in
      let c = field_taken 512 2 bytes (omega arith) in
      let f = s.0.few in
      let a = le-leb (cond (goes_on u (units_in (p + q) (drop 512 bytes))) unit_records 1) (count_of u) (least p refl) in
      let b = le-leb (count_of u) unit_records (omega arith) in
      rw n (λ j. a j && (b j && r j))
    where
      at_most : (t : Bool) → cond t unit_records 1 ≤ unit_records
      at_most true = omega arith
      at_most false = omega arith

      least : (k : ℕ) → p ≡ k → cond (goes_on (take 512 bytes) (units_in (p + q) (drop 512 bytes))) unit_records 1 ≤ count_of (take 512 bytes)
      least zero y =
          let z : p + q ≡ q = omega arith in
          let o : 512 * suc p ≡ 512 = omega arith in
          let h : goes_on (take 512 bytes) (units_in (p + q) (drop 512 bytes)) ≡ false =
          (λ j. goes_on (take 512 bytes) (units_in (z j) (drop (sym o j) bytes))) ∙ g (take 512 bytes) (field_taken 512 0 bytes (omega arith) ∙ s.0.kind_is) in
          let c = field_taken 512 2 bytes (omega arith) in
          let w = s.0.some in
          rw h (omega arith)
      least (suc k) y =
          let c = field_taken 512 2 bytes (omega arith) in
          let f = s.0.full (omega arith) in
          let m = at_most (goes_on (take 512 bytes) (units_in (p + q) (drop 512 bytes))) in
          omega arith

-- no unit of wires goes on with the blocks
wires_next : (q : ℕ) (bytes u : List ℕ) → Units 2 q bytes → kind_of u ≡ 1 → goes_on u (units_in q bytes) ≡ false
unfolding units_in
wires_next zero bytes u s k = refl
wires_next (suc q) bytes u s k = let e = field_taken 512 0 bytes (omega arith) ∙ s.0.kind_is in λ j. eqb (e j) (k j)

parts_right : (p q : ℕ) (bytes : List ℕ) → Units 1 p bytes → Units 2 q (drop (512 * p) bytes) → units_right (units_in (p + q) bytes) ≡ true
unfolding units_right units_in counts_right
parts_right p q bytes u v =
    let after = drop (512 * p) bytes in
    let z : q + 0 ≡ q = omega arith in
    let a = kinds_pass q p bytes u v in
    let w : counts_right (units_in q after) ≡ true = ap (λ (n : ℕ). counts_right (units_in n after)) (sym z) ∙ counts_pass 0 2 q after v (λ x k. none x (drop (512 * q) after)) (nothing (drop (512 * q) after)) in
    let b = counts_pass q 1 p bytes u (λ x k. wires_next q after x v k) w in
    let c = units_before q p zeros_right bytes (every_zeros 1 p bytes u) (every_zeros 2 q after v) in
    λ j. a j && (b j && c j)
  where
    none : (x l : List ℕ) → goes_on x (units_in 0 l) ≡ false
    none x l = refl

    nothing : (l : List ℕ) → counts_right (units_in 0 l) ≡ true
    nothing l = refl

-- The file.

units_least : (count : ℕ) → unit_records * units_for count ≤ count + 62
unfolding units_for
units_least count = omega arith

laid : (v : View) → bytes_of v ≡ units_from 1 (units_for (length (map block_record v.blocks))) (map block_record v.blocks) ++ units_from 2 (units_for (length (map wire_record v.wires))) (map wire_record v.wires)
unfolding bytes_of units_of
laid v = refl

block_zeros_lem : (v : View) (r : Record) → Member r (map block_record v.blocks) → block_zeros r ≡ true
block_zeros_lem v r i = let g = member_map block_record r v.blocks i in ap block_zeros g.2

pub written_laid : (v : View) → ViewFits v → Sound v → (is_whole (bytes_of v) ≡ true) × (is_laid (bytes_of v) ≡ true)
unfolding is_whole is_laid unit_list
written_laid v f s =
    let blocks = map block_record v.blocks in
    let wires = map wire_record v.wires in
    let p = units_for (length blocks) in
    let q = units_for (length wires) in
    let first = units_from 1 p blocks in
    let second = units_from 2 q wires in
    let a = units_length 1 p blocks in
    let b = units_length 2 q wires in
    let c = length-append first second in
    let e : bytes_of v ≡ first ++ second = laid v in
    let many : length (first ++ second) / 512 ≡ p + q = omega arith in
    let even : length (first ++ second) % 512 ≡ 0 = omega arith in
    let d = drop_at first second (512 * p) a in
    let u = units_again 1 (omega arith) p blocks second (units_enough (length blocks)) (units_least (length blocks)) f.0 (λ k r i. block_zeros_lem v r i) in
    let w = subst (Units 2 q) (append-nil second) (units_again 2 (omega arith) q wires [] (units_enough (length wires)) (units_least (length wires)) f.1 (λ k r i. absurd (true_not_false k refl))) in
    let x = sums_again 1 (omega arith) p blocks second in
    let y = subst (λ (l : List ℕ). list_all sum_holds (units_in q l) ≡ true) (append-nil second) (sums_again 2 (omega arith) q wires []) in
    let sums = units_before q p sum_holds (first ++ second) x (subst (λ (l : List ℕ). list_all sum_holds (units_in q l) ≡ true) (sym d) y) in
    let right = parts_right p q (first ++ second) u (subst (Units 2 q) (sym d) w) in
    let whole = eq-eqb (length (first ++ second) % 512) 0 even in
    let seen = ap view_right (view_read_back v f) ∙ sound_right v s in (
      ap (λ (l : List ℕ). eqb (length l % 512) 0 && list_all sum_holds (units_in (length l / 512) l)) e ∙ ((λ j. whole j && list_all sum_holds (units_in (many j) (first ++ second))) ∙ sums),
      ap (λ (l : List ℕ). units_right (units_in (length l / 512) l) && view_right (unbytes (bytes_of v))) e
          ∙ ((λ j. units_right (units_in (many j) (first ++ second)) && view_right (unbytes (bytes_of v))) ∙ (λ j. right j && seen j)),
    )
