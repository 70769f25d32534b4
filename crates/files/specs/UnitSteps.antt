-- What the functions over units lay: the records of a unit, its sum, and unit after unit.
use Rattle.std.specs.Iterator.Runs.{Run, IsChunksExactRun}
use Rattle.std.specs.Option.{option_map}
use Rattle.std.specs.List.{IsSubsliceAt}
use Rattle.std.specs.Prelude.{slice_index_or, fold, Option, Some, None, IfSome, ◌≡◌, Bool, true, false, leb, ℕ, suc, ◌+◌, ◌-◌, ◌*◌, ◌/◌, ◌%◌, ◌≤◌, ◌<◌, min, get_or, take, drop, replicate}
use Rattle.std.proofs.Math.Path.{refl, sym, ap, subst}
use Rattle.std.proofs.Common.{Bor, ◌∙◌, leb-true, leb-false, length-drop, drop_of_length-le, drop-cons, length-take-le, take_at, drop_at, take_all}
use mathlib.Core.List.{List, [], ◌∷◌, ◌++◌, map, flat_map, append_assoc, append-nil}
use native.Mathlib.Omega.{arith}
use Rattle.std.proofs.Math.ListN.{length, length-append, length-replicate}
use Rattle.std.proofs.lemmas.List.{length-map, nil_from_length, map-append}
use Rattle.std.proofs.Math.Seq.{sets, length-sets}
use Rattle.std.proofs.lemmas.List.Edits.{sets-eq}
use Rattle.port_tables.specs.Listing.{zero_is_not_one}
use Rattle.multiportgraph.specs.ListScans.{Writing}
use Rattle.multiportgraph.specs.ListSteps.{laid}
use Rattle.portgraph.specs.Model.{total}
use Rattle.portgraph.specs.Sums.{total_same}
use Rattle.multiportgraph.specs.CountLaws.{total_first}
use Rattle.port_tables.specs.ResizeLinkSteps.{sets_append}
use Rattle.files.specs.Layout.{Record, field_bytes, word_bytes, field_at, word_at, record_bytes, unit_records, unit_head, sum_of, unit, units_for, units_from, units_of}
use Rattle.files.specs.LayoutLaws.{head_length, unit_length}
use Rattle.files.specs.Forms.{record_of}
use Rattle.files.specs.ByteSteps.{field_then}

-- how many units hold so many records
pub units_counted : (records : ℕ) → records / 63 + min 1 (records % 63) ≡ units_for records
unfolding units_for
units_counted records = omega arith

-- Records one after the other.

abbrev pub bytes_of_records : List ℕ → List ℕ
bytes_of_records numbers = flat_map record_bytes (map record_of numbers)

record_eight : (x : ℕ) → length (record_bytes (record_of x)) ≡ 8
unfolding record_bytes field_bytes
record_eight x = refl

pub records_eight : (numbers : List ℕ) → length (bytes_of_records numbers) ≡ 8 * length numbers
unfolding flat_map
records_eight [] = refl
records_eight (x ∷ l) = let a = records_eight l in let b = length-append (record_bytes (record_of x)) (bytes_of_records l) in let c = record_eight x in omega arith

module _ (numbers : List ℕ) (i : ℕ) {l₀ l : List ℕ} {at : ℕ} (w : Writing l₀ at (bytes_of_records numbers) l (at + 8 * i) (bytes_of_records (drop i numbers))) where
  pub record_turn : i < length numbers → {l' : List ℕ} → l' ≡ sets l (at + 8 * i) (record_bytes (record_of (get_or numbers i 0))) → Writing l₀ at (bytes_of_records numbers) l' (at + 8 * (i + 1)) (bytes_of_records (drop (i + 1) numbers))
  unfolding flat_map
  record_turn h {l'} e =
      let s : suc i ≡ i + 1 = omega arith in
      let u = record_bytes (record_of (get_or numbers i 0)) in
      let n = record_eight (get_or numbers i 0) in
      let on : bytes_of_records (drop i numbers) ≡ u ++ bytes_of_records (drop (i + 1) numbers) = ap bytes_of_records (drop-cons numbers i 0 h ∙ ap (λ (k : ℕ). get_or numbers i 0 ∷ drop k numbers) s) in
      let a = w.counted in
      let b = ap length on ∙ length-append u (bytes_of_records (drop (i + 1) numbers)) in
      let q : at + 8 * (i + 1) ≡ at + 8 * i + length u = omega arith in
      record {
        counted = omega arith;
        same =
            (λ j. sets (e j) (q j) (bytes_of_records (drop (i + 1) numbers)))
            ∙ (sets_append l (at + 8 * i) u (bytes_of_records (drop (i + 1) numbers)) ∙ (ap (sets l (at + 8 * i)) (sym on) ∙ w.same));
        long = ap length e ∙ (length-sets l (at + 8 * i) u ∙ w.long);
      }

  -- behind the last record the unit is zero
  pub records_filled : length numbers ≤ i → length numbers ≤ unit_records → at + 504 ≤ length l₀ → {from many : ℕ} {zeros l' : List ℕ} → from ≡ at + 8 * length numbers → many ≡ at + 504 - from →
      zeros ≡ replicate (length (take many (drop from l))) 0 → l' ≡ take from l ++ (zeros ++ drop many (drop from l)) → l' ≡ sets l₀ at (bytes_of_records numbers ++ replicate (8 * (unit_records - length numbers)) 0)
  unfolding flat_map
  records_filled h few room {from} {many} {zeros} {l'} f m z e =
      let none : bytes_of_records (drop i numbers) ≡ [] = ap bytes_of_records (drop_of_length-le numbers {i = i} h) in
      let done : l ≡ sets l₀ at (bytes_of_records numbers) = ap (sets l (at + 8 * i)) (sym none) ∙ w.same in
      let n = records_eight numbers in
      let v = replicate (8 * (unit_records - length numbers)) 0 in
      let k = length-replicate {A = ℕ} (8 * (unit_records - length numbers)) 0 in
      let o = w.long in
      let d = length-drop from l in
      let t = length-take-le many (drop from l) (omega arith) in
      let c : length (take many (drop from l)) ≡ 8 * (unit_records - length numbers) = omega arith in
      let g = laid l zeros v from many (omega arith) (z ∙ ap (λ (x : ℕ). replicate x 0) c) (omega arith) in
      let p : from ≡ at + length (bytes_of_records numbers) = omega arith in
      e ∙ (g ∙ ((λ j. sets (done j) (p j) v) ∙ sets_append l₀ at (bytes_of_records numbers) v))

-- The sum.

-- words that are added one after the other
abbrev pub added : ℕ → Bor (List ℕ) → ℕ
added sum word = (sum + word_at word.now 0) % 4294967296

words_added : (words : List ℕ) (d : Bor (List ℕ)) (l : List (Bor (List ℕ))) (i sum : ℕ) → sum < 4294967296 → ((k : ℕ) → k < length l → word_at (slice_index_or l k d).now 0 ≡ word_at words (4 * (i + k))) →
    fold added sum l ≡ (sum + total (length l) (λ k. word_at words (4 * (i + k)))) % 4294967296
unfolding total
words_added words d [] i sum s h = omega arith
words_added words d (x ∷ l) i sum s h =
    let e : word_at x.now 0 ≡ word_at words (4 * (i + 0)) = h 0 (omega arith) in
    let t = total_first (length l) (λ k. word_at words (4 * (i + k))) in
    let same = total_same (length l) (λ k. word_at words (4 * (suc i + k))) (λ k. word_at words (4 * (i + suc k))) (λ k j. ap (λ (n : ℕ). word_at words (4 * n)) (omega arith)) in
    let r = words_added words d l (suc i) (added sum x) (omega arith) (λ k j. h (suc k) (omega arith) ∙ ap (λ (n : ℕ). word_at words (4 * n)) (omega arith)) in
    r ∙ omega arith

pub there : {A : Type 0} (P : A → Type 0) (o : Option A) (z : A) → IfSome o P → option_map (λ y. y) o ≡ Some z → P z
there P None z h e = absurd (zero_is_not_one (cc))
there P (Some y) z h e = let q : y ≡ z = cc in subst P q h

-- the chunks of 127 words, added one after the other, amount to their sum
module _ {S : Type 0} {steps : S → Option (Bor (List ℕ)) → S → Type 0} (p : Run steps) (words : List ℕ) (n : length words ≡ 508) (w : p.whole ≡ true) (r : IsChunksExactRun p 4 words) where
  chunk_read : (k : ℕ) (d : Bor (List ℕ)) → k < p.len → word_at (slice_index_or p.items k d).now 0 ≡ word_at words (4 * (0 + k))
  unfolding word_at field_at
  chunk_read k d h =
      let x = slice_index_or p.items k d in
      let t = there (λ (x : Bor (List ℕ)). (length x.now ≡ 4) × (k * 4 + 4 ≤ length words) × IsSubsliceAt 4 words (k * 4) x.now) (p.at k) x (r.2 k) (p.reads k d h) in
      let g : (j i : ℕ) → j < 4 → i ≡ k * 4 + j → get_or x.now j 0 ≡ get_or words i 0 = λ j i h e. t.2.2 j 0 h ∙ ap (λ (m : ℕ). get_or words m 0) (sym e) in
      let a = g 0 (4 * (0 + k)) (omega arith) (omega arith) in
      let b = g (0 + 1) (4 * (0 + k) + 1) (omega arith) (omega arith) in
      let c = g (0 + 2) (4 * (0 + k) + 2) (omega arith) (omega arith) in
      let e = g (0 + 2 + 1) (4 * (0 + k) + 2 + 1) (omega arith) (omega arith) in
      λ j. a j + 256 * b j + 65536 * (c j + 256 * e j)

  pub words_folded : fold added 0 p.items ≡ sum_of words
  unfolding sum_of
  words_folded = go p.items refl
    where
      many : length p.items ≡ 127
      many = let l = p.long in let k = r.1 w in omega arith

      go : (l : List (Bor (List ℕ))) → p.items ≡ l → fold added 0 p.items ≡ sum_of words
      go [] e = let m = many in let z = ap length e in absurd (omega arith)
      go (d ∷ l) e =
          let same = total_same 127 (λ k. word_at words (4 * (0 + k))) (λ k. word_at words (4 * k)) (λ k h. ap (λ (m : ℕ). word_at words (4 * m)) (omega arith)) in
          let sums : 0 + total 127 (λ k. word_at words (4 * (0 + k))) ≡ total 127 (λ k. word_at words (4 * k)) = omega (arith, same) in
          words_added words d p.items 0 0 (omega arith) (λ k h. chunk_read k d (let l = p.long in omega arith))
          ∙ (ap (λ (m : ℕ). (0 + total m (λ k. word_at words (4 * (0 + k)))) % 4294967296) many ∙ ap (λ (m : ℕ). m % 4294967296) sums)

-- A unit.

-- a part that was laid is read back
laid_back : (l : List ℕ) (at : ℕ) (v : List ℕ) (n : ℕ) → at + length v ≤ length l → n ≡ length v → take n (drop at (sets l at v)) ≡ v
laid_back l at v n h e =
    let k = length-take-le at l (omega arith) in
    let f = sets-eq v l at h ∙ append_assoc (take at l) v (drop (at + length v) l) in
    ap (λ (x : List ℕ). take n (drop at x)) f ∙ (ap (take n) (drop_at (take at l) (v ++ drop (at + length v) l) at k) ∙ take_at v (drop (at + length v) l) n (sym e))

module _ (numbers : List ℕ) (few : length numbers ≤ unit_records) where
  abbrev records : List Record
  records = map record_of numbers

  many : length records ≡ length numbers
  many = length-map numbers record_of

  -- kind, count and records are the head
  head_laid : (l l₁ l₂ l₃ : List ℕ) (at kind : ℕ) → l₁ ≡ sets l at (field_bytes kind) → l₂ ≡ sets l₁ (at + 2) (field_bytes (length numbers))
      → l₃ ≡ sets l₂ (at + 4) (bytes_of_records numbers ++ replicate (8 * (unit_records - length numbers)) 0) → l₃ ≡ sets l at (unit_head kind records)
  unfolding unit_head
  head_laid l l₁ l₂ l₃ at kind e₁ e₂ e₃ =
      let n : at + 4 ≡ at + 2 + 2 = omega arith in
      let rest = bytes_of_records numbers ++ replicate (8 * (unit_records - length numbers)) 0 in
      let q₂ : l₃ ≡ sets l₁ (at + 2) (field_bytes (length numbers) ++ rest) = e₃ ∙ rw (n, e₂) (field_then l₁ (at + 2) (length numbers) rest) in
      let q₁ : l₃ ≡ sets l at (field_bytes kind ++ (field_bytes (length numbers) ++ rest)) = q₂ ∙ rw e₁ (field_then l at kind (field_bytes (length numbers) ++ rest)) in
      q₁ ∙ (λ j. sets l at (field_bytes kind ++ (field_bytes (sym many j) ++ (bytes_of_records numbers ++ replicate (8 * (unit_records - sym many j)) 0))))

  -- and with the sum of its words the unit
  pub unit_laid : (l l₁ l₂ l₃ l₄ : List ℕ) (at kind end count sum : ℕ) → at + 512 ≤ length l → l₁ ≡ sets l at (field_bytes kind) → l₂ ≡ sets l₁ (at + 2) (field_bytes (length numbers))
      → l₃ ≡ sets l₂ (at + 4) (bytes_of_records numbers ++ replicate (8 * (unit_records - length numbers)) 0) → end ≡ at + 508 → count ≡ end - at
      → sum ≡ sum_of (take count (drop at l₃)) → l₄ ≡ sets l₃ end (word_bytes sum) → l₄ ≡ sets l at (unit kind records)
  unfolding unit
  unit_laid l l₁ l₂ l₃ l₄ at kind end count sum room e₁ e₂ e₃ p c e₄ e₅ =
      let head = head_laid l l₁ l₂ l₃ at kind e₁ e₂ e₃ in
      let m = many in
      let n = head_length kind records (omega arith) in
      let s : sum ≡ sum_of (unit_head kind records) = e₄ ∙ ap sum_of (ap (λ (x : List ℕ). take count (drop at x)) head ∙ laid_back l at (unit_head kind records) count (omega arith) (omega arith)) in
      let q : end ≡ at + length (unit_head kind records) = omega arith in
      e₅ ∙ ((λ j. sets (head j) (q j) (word_bytes (s j))) ∙ sets_append l at (unit_head kind records) (word_bytes (sum_of (unit_head kind records))))

-- Unit after unit.

-- the records of the first unit, and those behind them
first_unit : (records part next : List Record) → records ≡ part ++ next → length part ≡ min unit_records (length records) → (take unit_records records ≡ part) × (drop unit_records records ≡ next)
first_unit records part next e n = go (leb unit_records (length records)) refl
  where
    go : (b : Bool) → leb unit_records (length records) ≡ b → (take unit_records records ≡ part) × (drop unit_records records ≡ next)
    go true t =
        let h = leb-true unit_records (length records) t in
        let k : length part ≡ unit_records = omega arith in
        (ap (take unit_records) e ∙ take_at part next unit_records k, ap (drop unit_records) e ∙ drop_at part next unit_records k)
    go false t =
        let h = leb-false unit_records (length records) t in
        let l = ap length e ∙ length-append part next in
        let z : next ≡ [] = nil_from_length next (omega arith) in
        let a : records ≡ part = e ∙ (ap (λ (x : List Record). part ++ x) z ∙ append-nil part) in
        (take_all unit_records records (omega arith) ∙ a, drop_of_length-le records {i = unit_records} (omega arith) ∙ sym z)

module _ (kind : ℕ) where
  abbrev pub units_said : List ℕ → List ℕ
  units_said numbers = units_of kind (map record_of numbers)

  units_on : (rest part next : List ℕ) → 0 < length rest → rest ≡ part ++ next → length part ≡ min unit_records (length rest) → units_said rest ≡ unit kind (map record_of part) ++ units_said next
  unfolding units_of units_from units_for
  units_on rest part next some e n =
      let a = length-map rest record_of in
      let b = length-map part record_of in
      let c = length-map next record_of in
      let l = ap length e ∙ length-append part next in
      let m : map record_of rest ≡ map record_of part ++ map record_of next = ap (map record_of) e ∙ map-append record_of part next in
      let f = first_unit (map record_of rest) (map record_of part) (map record_of next) m (omega arith) in
      let k : (length (map record_of rest) + 62) / 63 ≡ suc ((length (map record_of next) + 62) / 63) = omega arith in
      ap (λ (x : ℕ). units_from kind x (map record_of rest)) k ∙ (λ j. unit kind (f.0 j) ++ units_from kind ((length (map record_of next) + 62) / 63) (f.1 j))

  -- the units of the records that are left amount to all
  pub record Laying (numbers rest l₀ l : List ℕ) (at p : ℕ) : Type 0 where
    pub counted : p + 512 * units_for (length rest) ≡ at + 512 * units_for (length numbers)
    pub same : sets l p (units_said rest) ≡ sets l₀ at (units_said numbers)
    pub long : length l ≡ length l₀

  module _ {numbers rest l₀ l : List ℕ} {at p : ℕ} (w : Laying numbers rest l₀ l at p) where
    pub laying_ends : length rest ≡ 0 → l ≡ sets l₀ at (units_said numbers)
    unfolding units_of units_from units_for
    laying_ends h =
        let a = length-map rest record_of in
        let z : (length (map record_of rest) + 62) / 63 ≡ 0 = omega arith in
        let e : units_said rest ≡ [] = ap (λ (k : ℕ). units_from kind k (map record_of rest)) z in
        ap (sets l p) (sym e) ∙ w.same

    module _ (part next : List ℕ) (some : 0 < length rest) (e : rest ≡ part ++ next) (n : length part ≡ min unit_records (length rest)) where
      pub unit_room : at + 512 * units_for (length numbers) ≤ length l₀ → p + 512 ≤ length l
      unfolding units_for
      unit_room r = let a = w.counted in let b = w.long in omega arith

  module _ {numbers rest l₀ l : List ℕ} {at count : ℕ} (w : Laying numbers rest l₀ l at (at + 512 * count)) (part next : List ℕ) where
    pub unit_turn : 0 < length rest → rest ≡ part ++ next → length part ≡ min unit_records (length rest) → {l' : List ℕ} {here there : ℕ} → here ≡ count → there ≡ count + 1 →
        l' ≡ sets l (at + 512 * here) (unit kind (map record_of part)) → Laying numbers next l₀ l' at (at + 512 * there)
    unfolding units_for
    unit_turn some e n {l'} {here} {there} h t laid_here =
        let p = at + 512 * count in
        let g : l' ≡ sets l p (unit kind (map record_of part)) = rw h at laid_here in
        let u = unit kind (map record_of part) in
        let k = length-map part record_of in
        let c : length u ≡ 512 = unit_length kind (map record_of part) (omega arith) in
        let m = ap length e ∙ length-append part next in
        let a = w.counted in
        let q : at + 512 * there ≡ p + length u = omega arith in
        record {
          counted = omega arith;
          same = (λ j. sets (g j) (q j) (units_said next)) ∙ (sets_append l p u (units_said next) ∙ (ap (sets l p) (sym (units_on rest part next some e n)) ∙ w.same));
          long = ap length g ∙ (length-sets l p u ∙ w.long);
        }
