-- What the functions that hold a file against its layout cite: units from the front, one after the other; what each says by itself; and
-- how many blocks and wires they have.
use Rattle.std.specs.Iterator.Runs.{Run, AllItemsGive, AnyItemGives, CallKeepsClosure, IsChunksExactRun}
use denote.Param.Members.{Mut, Called}
use Rattle.std.specs.Option.{option_map}
use Rattle.std.specs.List.{list_all, IsSubsliceAt}
use Rattle.std.specs.Prelude.{slice_index_or, Option, Some, None, IsSomeAnd, MatchBool, ◌≡◌, refl, Bool, true, false, cond, ◌&&◌, leb, take}
use Rattle.std.proofs.Math.Path.{sym, ap, subst}
use Rattle.std.proofs.Common.{Bor, ◌∙◌, length-append, eqb-true, eq-eqb, ne_eqb, leb-true, leb-false, le-leb}
use Rattle.std.proofs.Math.Bool.{and_assoc, and-false}
use mathlib.Core.List.{◌++◌, List, [], ◌∷◌, map, append_assoc, append-nil}
use Rattle.std.proofs.lemmas.List.{length-map, nil_from_length, drop-append-le, drop-drop}
use Rattle.std.proofs.Math.Nat.{suc-mul}
use Prim.Native.Nat.{ℕ, zero, suc, ◌+◌, ◌-◌, ◌*◌, ◌/◌, ◌%◌, ◌≤◌, ◌<◌}
use native.Mathlib.Omega.{arith}
use Rattle.std.proofs.Math.Dec.{eqb}
use Rattle.std.proofs.Math.ListN.{length, drop, length-drop}
use Rattle.std.proofs.Math.Seq.{take_at, drop_at, length-take-le}
use Rattle.std.proofs.lemmas.Bool.{and_parts, eqb-false, lt-leb}
use Rattle.portgraph.specs.Sums.{total_same}
use Rattle.files.specs.View.{View}
use Rattle.files.specs.Layout.{Record, unit_records, field_at, word_at, sum_of, block_of, wire_of, record_at, records_at, records_of, with_records, with_unit, read_units, unbytes}
use Rattle.files.specs.Loading.{sum_holds, units_in, unit_list, is_whole, kind_of, count_of, of_kind, kinds_right, goes_on, counts_right, block_zeros, zeros_right, units_right}
use Rattle.files.specs.LaidLaws.{field_taken, records_many}
use Rattle.files.specs.WrittenLaws.{records_taken, word_taken}
use Rattle.files.specs.UnitSteps.{there}
use Rattle.files.specs.LoadForms.{next_kind, kind_fits, count_fits, unit_fits, units_fit, ShapeIs}

-- Sums.

pub sum_is : (unit : List ℕ) (a b : ℕ) → length unit ≡ 512 → a ≡ word_at unit 508 → b ≡ sum_of (take 508 unit) → eqb a b ≡ sum_holds unit
unfolding sum_holds sum_of
sum_is unit a b n e f =
    let z = total_same 127 (λ i. word_at (take 508 unit) (4 * i)) (λ i. word_at unit (4 * i)) (λ i h. word_taken 508 (4 * i) unit (omega arith)) in
    λ j. eqb (e j) ((f ∙ ap (λ (n : ℕ). n % 4294967296) z) j)

-- Units from the front.

module _ (l : List ℕ) (some : 0 < length l) (whole : length l % 512 ≡ 0) where
  pub units_on : unit_list l ≡ take 512 l ∷ unit_list (drop 512 l)
  unfolding unit_list units_in
  units_on =
      let d = length-drop 512 l in
      let n : length l / 512 ≡ suc (length (drop 512 l) / 512) = omega arith in
      rw n

  pub view_on : unbytes l ≡ with_unit (field_at l 0) (records_of l) (unbytes (drop 512 l))
  unfolding unbytes read_units
  view_on =
      let d = length-drop 512 l in
      let n : length l / 512 ≡ suc (length (drop 512 l) / 512) = omega arith in
      rw n

-- Chunks of one length, each of which passes a test, or one of which does not.

unfoldable pub chunks : ℕ → ℕ → List ℕ → List (List ℕ)
chunks n zero l = []
chunks n (suc m) l = take n l ∷ chunks n m (drop n l)

-- the chunk of a number
abbrev chunk : ℕ → List ℕ → ℕ → List ℕ
chunk n l k = take n (drop (k * n) l)

chunk_later : (n : ℕ) (l : List ℕ) (k : ℕ) → chunk n (drop n l) k ≡ chunk n l (suc k)
chunk_later n l k =
    let s = suc-mul k n in
    ap (take n) (drop-drop (k * n) n l ∙ ap (λ (m : ℕ). drop m l) (omega arith))

chunks_pass : (test : List ℕ → Bool) (n m : ℕ) (l : List ℕ) → ((k : ℕ) → k < m → test (chunk n l k) ≡ true) → list_all test (chunks n m l) ≡ true
unfolding chunks
chunks_pass test n zero l h = refl
chunks_pass test n (suc m) l h =
    let z : 0 * n ≡ 0 = omega arith in
    let first : test (take n l) ≡ true = ap (λ (j : ℕ). test (take n (drop j l))) (sym z) ∙ h 0 (omega arith) in
    let later = chunks_pass test n m (drop n l) (λ k j. ap test (chunk_later n l k) ∙ h (suc k) (omega arith)) in
    λ i. first i && later i

chunks_fail : (test : List ℕ → Bool) (n m : ℕ) (l : List ℕ) (k : ℕ) → k < m → test (chunk n l k) ≡ false → list_all test (chunks n m l) ≡ false
unfolding chunks
chunks_fail test n zero l k h e = absurd (omega arith)
chunks_fail test n (suc m) l zero h e =
    let z : 0 * n ≡ 0 = omega arith in
    let first : test (take n l) ≡ false = ap (λ (j : ℕ). test (take n (drop j l))) (sym z) ∙ e in
    ap (λ (b : Bool). b && list_all test (chunks n m (drop n l))) first
chunks_fail test n (suc m) l (suc k) h e = go (test (take n l)) (chunks_fail test n m (drop n l) k (omega arith) (ap test (chunk_later n l k) ∙ e))
  where
    go : (b : Bool) → list_all test (chunks n m (drop n l)) ≡ false → (b && list_all test (chunks n m (drop n l))) ≡ false
    go true q = q
    go false q = refl

found : {A : Type 0} (P : A → Type 0) (o : Option A) (z : A) → IsSomeAnd o P → option_map (λ y. y) o ≡ Some z → P z
found P None z s e = absurd s
found P (Some y) z s e = let q : y ≡ z = cc in subst P q s

-- what `all` says of a run over them: each passed, or one did not
module _ {S F : Type 0} {steps : S → Option (Bor (List ℕ)) → S → Type 0} (n : ℕ) (l : Bor (List ℕ)) (small : (k : ℕ) → k * n + n ≤ length l.now → k < length l.now / n) (test : List ℕ → Bool) {g : Mut F (Bor (List ℕ) × Unit {0}) Bool} {f : F}
    (said : (x : Bor (List ℕ)) (b : Bool) → Called g f (x, tt) b f → b ≡ test x.now) (keeps : CallKeepsClosure g f) where
  pub chunks_tested : (p : Run steps) → IsChunksExactRun p n l.now → (b : Bool) → MatchBool b ((p.whole ≡ true) × AllItemsGive p g f true) (AnyItemGives p g f false) → b ≡ list_all test (chunks n (length l.now / n) l.now)
  chunks_tested p r true h =
      sym (chunks_pass test n (length l.now / n) l.now
      (λ k j.
      let d = p.reads k l (subst (λ (m : ℕ). k < m) (sym (r.1 h.0)) j) in
      let t = there (λ x. Called g f (x, tt) true f) (p.at k) (slice_index_or p.items k l) (h.1 keeps k) d in
      let e = there (λ (x : Bor (List ℕ)). (length x.now ≡ n) × (k * n + n ≤ length l.now) × IsSubsliceAt n l.now (k * n) x.now) (p.at k) (slice_index_or p.items k l) (r.2 k) d in
      ap test (sym e.2.0) ∙ sym (said (slice_index_or p.items k l) true t)))
  chunks_tested p r false h =
      let a = h keeps in
      let k = a.0 in
      let d = p.reads k l a.1 in
      let t = found (λ x. Called g f (x, tt) false f) (p.at k) (slice_index_or p.items k l) a.2 d in
      let e = there (λ (x : Bor (List ℕ)). (length x.now ≡ n) × (k * n + n ≤ length l.now) × IsSubsliceAt n l.now (k * n) x.now) (p.at k) (slice_index_or p.items k l) (r.2 k) d in
      sym (chunks_fail test n (length l.now / n) l.now k (small k e.1) (ap test (sym e.2.0) ∙ sym (said (slice_index_or p.items k l) false t)))

-- Whole files.

units_are : (m : ℕ) (l : List ℕ) → chunks 512 m l ≡ units_in m l
unfolding chunks units_in
units_are zero l = refl
units_are (suc m) l = ap (λ k. take 512 l ∷ k) (units_are m (drop 512 l))

module _ {S F : Type 0} {steps : S → Option (Bor (List ℕ)) → S → Type 0} {g : Mut F (Bor (List ℕ) × Unit {0}) Bool} {f : F} (l : Bor (List ℕ)) (p : Run steps) (r : IsChunksExactRun p 512 l.now) (b : Bool)
    (h : MatchBool b ((p.whole ≡ true) × AllItemsGive p g f true) (AnyItemGives p g f false)) (said : (x : Bor (List ℕ)) (b : Bool) → Called g f (x, tt) b f → b ≡ sum_holds x.now) (keeps : CallKeepsClosure g f) where
  pub units_tested : length l.now % 512 ≡ 0 → b ≡ is_whole l.now
  unfolding is_whole unit_list
  units_tested e =
      chunks_tested 512 l (λ k h. omega arith) sum_holds said keeps p r b h
      ∙ (ap (list_all sum_holds) (units_are (length l.now / 512) l.now) ∙ ap (λ (t : Bool). t && list_all sum_holds (units_in (length l.now / 512) l.now)) (sym (eq-eqb (length l.now % 512) 0 e)))

-- Zeros.

-- the fields behind a record's second
two_zeros : (c d : ℕ) → (eqb 0 c && eqb 0 d) ≡ eqb (c + 65536 * d) 0
two_zeros c d = go (eqb 0 c) refl (eqb 0 d) refl
  where
    go : (s : Bool) → eqb 0 c ≡ s → (t : Bool) → eqb 0 d ≡ t → (s && t) ≡ eqb (c + 65536 * d) 0
    go true e true f = let p = eqb-true 0 c e in let q = eqb-true 0 d f in sym (eq-eqb (c + 65536 * d) 0 (omega arith))
    go true e false f = let q = eqb-false 0 d f in sym (ne_eqb (c + 65536 * d) 0 (λ z. q (omega arith)))
    go false e t f = let p = eqb-false 0 c e in sym (ne_eqb (c + 65536 * d) 0 (λ z. p (omega arith)))

records_are : (m : ℕ) (l : List ℕ) → list_all (λ c. eqb (word_at c 4) 0) (chunks 8 m l) ≡ list_all block_zeros (records_at m l)
unfolding chunks records_at record_at word_at
records_are zero l = refl
records_are (suc m) l =
    let c = field_taken 8 4 l (omega arith) in
    let d = field_taken 8 6 l (omega arith) in
    let first = sym (two_zeros (field_at (take 8 l) 4) (field_at (take 8 l) 6)) ∙ (λ i. eqb 0 (c i) && eqb 0 (d i)) in
    λ i. first i && records_are m (drop 8 l) i

module _ {S F : Type 0} {steps : S → Option (Bor (List ℕ)) → S → Type 0} {g : Mut F (Bor (List ℕ) × Unit {0}) Bool} {f : F} (l : Bor (List ℕ)) (p : Run steps) (r : IsChunksExactRun p 8 l.now) (b : Bool)
    (h : MatchBool b ((p.whole ≡ true) × AllItemsGive p g f true) (AnyItemGives p g f false)) (said : (x : Bor (List ℕ)) (b : Bool) → Called g f (x, tt) b f → b ≡ eqb (word_at x.now 4) 0) (keeps : CallKeepsClosure g f) where
  pub zeros_tested : b ≡ list_all block_zeros (records_at (length l.now / 8) l.now)
  zeros_tested = chunks_tested 8 l (λ k h. omega arith) (λ c. eqb (word_at c 4) 0) said keeps p r b h ∙ records_are (length l.now / 8) l.now

-- those of a unit that are lent
pub zeros_lent : (unit : List ℕ) (count : ℕ) {b : Bool} → length unit ≡ 512 → count ≤ unit_records →
    b ≡ list_all block_zeros (records_at (length (take (4 + 8 * count - 4) (drop 4 unit)) / 8) (take (4 + 8 * count - 4) (drop 4 unit))) → b ≡ list_all block_zeros (records_at count (drop 4 unit))
zeros_lent unit count long few h =
    let d = length-drop 4 unit in
    let l = length-take-le (4 + 8 * count - 4) (drop 4 unit) (omega arith) in
    let n : length (take (4 + 8 * count - 4) (drop 4 unit)) / 8 ≡ count = omega arith in
    h ∙ (ap (λ (m : ℕ). list_all block_zeros (records_at m (take (4 + 8 * count - 4) (drop 4 unit)))) n ∙ ap (list_all block_zeros) (records_taken count (4 + 8 * count - 4) (drop 4 unit) (omega arith)))

-- What a unit says by itself.

module _ (kind next : ℕ) where
  -- a kind that fits is one of the two
  kind_some : kind_fits kind next ≡ true → kind ≡ 0 → ⊥
  kind_some e z = absurd_kind (rw z at e)
    where
      absurd_kind : cond (eqb next 1) false false ≡ true → ⊥
      absurd_kind = go (eqb next 1)
        where
          go : (b : Bool) → cond b false false ≡ true → ⊥
          go true f = let q : ◌≡◌ {A = ℕ} 0 1 = cc in omega arith
          go false f = let q : ◌≡◌ {A = ℕ} 0 1 = cc in omega arith

  module _ (count : ℕ) where
    pub count_few : count_fits kind next count ≡ true → count ≤ unit_records
    count_few = go (eqb count 0) (eqb next kind)
      where
        go : (a b : Bool) → cond a false (cond b (eqb count unit_records) (leb count unit_records)) ≡ true → count ≤ unit_records
        go true b e = absurd (let q : ◌≡◌ {A = ℕ} 0 1 = cc in omega arith)
        go false true e = let q = eqb-true count unit_records e in omega arith
        go false false e = leb-true count unit_records e

module _ (unit : List ℕ) (next kind count : ℕ) (isKind : kind ≡ field_at unit 0) (isCount : count ≡ field_at unit 2) where
  unit_parts : (k c z b : Bool) → k ≡ kind_fits kind next → c ≡ count_fits kind next count → z ≡ list_all (eqb 0) (take (508 - (4 + 8 * count)) (drop (4 + 8 * count) unit)) →
      count ≤ unit_records → b ≡ cond (eqb kind 1) (list_all block_zeros (records_at count (drop 4 unit))) true → (k && (c && (z && b))) ≡ unit_fits unit next
  unfolding unit_fits zeros_right records_of
  unit_parts k c z b e f g h i =
      let n : 508 - (4 + 8 * count) ≡ 8 * (unit_records - count) = omega arith in
      let g₂ : z ≡ list_all (eqb 0) (take (8 * (unit_records - count)) (drop (4 + 8 * count) unit)) = rw n at g in
      rw (← isKind, ← isCount) (λ j. e j && (f j && (g₂ j && i j)))

  module _ (k : true ≡ kind_fits kind next) (c : true ≡ count_fits kind next count) where
    pub unit_few : count ≤ 63
    unit_few = count_few kind next count (sym c)

    module _ (z : true ≡ list_all (eqb 0) (take (508 - (4 + 8 * count)) (drop (4 + 8 * count) unit))) where
      pub unit_of_blocks : (b : Bool) → kind ≡ 1 → b ≡ list_all block_zeros (records_at count (drop 4 unit)) → b ≡ unit_fits unit next
      unit_of_blocks b e h = unit_parts true true true b k c z unit_few (h ∙ sym (rw (eq-eqb kind 1 e) refl))

-- All units.

and_under : (k x y : Bool) → (k ≡ true → x ≡ y) → (k && x) ≡ (k && y)
and_under true x y h = h refl
and_under false x y h = refl

-- three tests of the first, and of the others
pub and_three : (k c z K C Z : Bool) → ((k && K) && ((c && C) && (z && Z))) ≡ ((k && (c && z)) && (K && (C && Z)))
and_three false c z K C Z = refl
and_three true false z K C Z = and-false K
and_three true true false K C Z = ap (λ (b : Bool). K && b) (and-false C) ∙ and-false K
and_three true true true K C Z = refl

kinds_first : (u : List ℕ) (l : List (List ℕ)) → kinds_right (u ∷ l) ≡ (kind_fits (kind_of u) (next_kind l) && kinds_right l)
unfolding kinds_right
kinds_first u [] = go (eqb (kind_of u) 1) (eqb (kind_of u) 2)
  where
    go : (a b : Bool) → cond a true (b && true) ≡ (cond a true b && true)
    go true b = refl
    go false b = refl
kinds_first u (v ∷ l) = go (eqb (kind_of u) 1) (eqb (kind_of u) 2) (eqb (kind_of v) 1) refl
  where
    go : (a b e : Bool) → eqb (kind_of v) 1 ≡ e →
        cond a (cond e (kinds_right l) (list_all (of_kind 2) (v ∷ l))) (b && list_all (of_kind 2) (v ∷ l)) ≡ (cond a true (cond e false b) && cond e (kinds_right l) (list_all (of_kind 2) (v ∷ l)))
    go true b e h = refl
    go false b true h =
        let k = eqb-true (kind_of v) 1 h in
        let g : eqb (kind_of v) 2 ≡ false = ne_eqb (kind_of v) 2 (λ z. omega arith) in
        ap (λ (t : Bool). b && (t && list_all (of_kind 2) l)) g ∙ and-false b
    go false b false h = refl

goes_on_lem : (u : List ℕ) (l : List (List ℕ)) → kind_fits (kind_of u) (next_kind l) ≡ true → goes_on u l ≡ eqb (next_kind l) (kind_of u)
goes_on_lem u [] h = sym (ne_eqb 0 (kind_of u) (λ z. kind_some (kind_of u) 0 h (sym z)))
goes_on_lem u (v ∷ l) h = refl

count_tested : (t : Bool) (n : ℕ) → (leb (cond t unit_records 1) n && leb n unit_records) ≡ cond (eqb n 0) false (cond t (eqb n unit_records) (leb n unit_records))
count_tested t n = go t (eqb n 0) refl
  where
    full : (a b : Bool) → leb unit_records n ≡ a → leb n unit_records ≡ b → (a && b) ≡ eqb n unit_records
    full true true p q = let x = leb-true unit_records n p in let y = leb-true n unit_records q in sym (eq-eqb n unit_records (omega arith))
    full true false p q = let y = leb-false n unit_records q in sym (ne_eqb n unit_records (λ z. omega arith))
    full false b p q = let x = leb-false unit_records n p in sym (ne_eqb n unit_records (λ z. omega arith))

    go : (t s : Bool) → eqb n 0 ≡ s → (leb (cond t unit_records 1) n && leb n unit_records) ≡ cond s false (cond t (eqb n unit_records) (leb n unit_records))
    go true true e = let z = eqb-true n 0 e in rw (lt-leb unit_records n (omega arith))
    go false true e = let z = eqb-true n 0 e in rw (lt-leb 1 n (omega arith))
    go true false e = full (leb unit_records n) (leb n unit_records) refl refl
    go false false e = let z = eqb-false n 0 e in rw (le-leb 1 n (some n z))
      where
        some : (n : ℕ) → (n ≡ 0 → ⊥) → 1 ≤ n
        some n z = omega arith

pub units_as_fit : (l : List (List ℕ)) → units_right l ≡ units_fit l
unfolding units_right units_fit kinds_right counts_right unit_fits
units_as_fit [] = refl
units_as_fit (u ∷ l) =
    let k = kind_fits (kind_of u) (next_kind l) in
    let n = count_of u in
    let c = leb (cond (goes_on u l) unit_records 1) n && leb n unit_records in
    let a : counts_right (u ∷ l) ≡ (c && counts_right l) = sym (and_assoc (leb (cond (goes_on u l) unit_records 1) n) (leb n unit_records) (counts_right l)) in
    let s : (k && (c && zeros_right u)) ≡ unit_fits u (next_kind l) = and_under k (c && zeros_right u) _ (λ h. ap (λ (b : Bool). b && zeros_right u) (ap (λ (t : Bool). leb (cond t unit_records 1) n && leb n unit_records) (goes_on_lem u l h) ∙ count_tested (eqb (next_kind l) (kind_of u)) n)) in
    (λ j. kinds_first u l j && (a j && (zeros_right u && list_all zeros_right l)))
    ∙ (and_three k c (zeros_right u) (kinds_right l) (counts_right l) (list_all zeros_right l) ∙ (λ j. s j && units_as_fit l j))

-- The shape.

-- a unit before others
module _ (unit behind : List ℕ) (n : length unit ≡ 512) (w : length behind % 512 ≡ 0) where
  abbrev both : List ℕ
  both = unit ++ behind

  units_before : unit_list both ≡ unit ∷ unit_list behind
  units_before =
      let l = length-append unit behind in
      let a = take_at unit behind 512 n in
      let b = drop_at unit behind 512 n in
      units_on both (omega arith) (omega arith) ∙ (λ j. a j ∷ unit_list (b j))

  field_first : (i : ℕ) → i + 2 ≤ 512 → field_at both i ≡ field_at unit i
  field_first i h = sym (field_taken 512 i both h) ∙ ap (λ (l : List ℕ). field_at l i) (take_at unit behind 512 n)

  counts_before : (t : Bool) → eqb (field_at unit 0) 1 ≡ t →
      (length (unbytes both).blocks ≡ cond t (field_at unit 2) 0 + length (unbytes behind).blocks) × (length (unbytes both).wires ≡ cond t 0 (field_at unit 2) + length (unbytes behind).wires)
  unfolding records_of
  counts_before t e = let l = long in go t (view_on both (omega arith) (omega arith) ∙ (λ j. with_records ((ap (λ (k : ℕ). eqb k 1) (field_first 0 (omega arith)) ∙ e) j) records (unbytes (drop_at unit behind 512 n j))))
    where
      long : length both ≡ 512 + length behind
      long = let l = length-append unit behind in omega arith

      records : List Record
      records = records_at (field_at both 2) (drop 4 both)

      many : length records ≡ field_at unit 2
      many = records_many (field_at both 2) (drop 4 both) ∙ field_first 2 (omega arith)

      go : (t : Bool) → unbytes both ≡ with_records t records (unbytes behind) →
          (length (unbytes both).blocks ≡ cond t (field_at unit 2) 0 + length (unbytes behind).blocks) × (length (unbytes both).wires ≡ cond t 0 (field_at unit 2) + length (unbytes behind).wires)
      go true v =
          let n = length-append (map block_of records) (unbytes behind).blocks in
          let m = length-map records block_of in
          let k = many in
          let a = ap (λ (x : View). length x.blocks) v in
          let b = ap (λ (x : View). length x.wires) v in
          (omega arith, omega arith)
      go false v =
          let n = length-append (map wire_of records) (unbytes behind).wires in
          let m = length-map records wire_of in
          let k = many in
          let a = ap (λ (x : View). length x.blocks) v in
          let b = ap (λ (x : View). length x.wires) v in
          (omega arith, omega arith)

-- units that do not fit are not mended by those before them
fit_not : (k : ℕ) (before l : List ℕ) → length before ≡ 512 * k → length l % 512 ≡ 0 → units_fit (unit_list l) ≡ false → units_fit (unit_list (before ++ l)) ≡ false
unfolding units_fit
fit_not zero before l h w e = ap (λ (x : List ℕ). units_fit (unit_list (x ++ l))) (nil_from_length before (omega arith)) ∙ e
fit_not (suc k) before l h w e =
    let a = length-append before l in
    let d = length-drop 512 before in
    let b : drop 512 (before ++ l) ≡ drop 512 before ++ l = drop-append-le 512 before l (omega arith) in
    ap units_fit (units_on (before ++ l) (omega arith) (omega arith))
    ∙ (ap (λ (x : List ℕ). unit_fits (take 512 (before ++ l)) (next_kind (unit_list (drop 512 (before ++ l)))) && units_fit (unit_list x)) b
    ∙ (ap (λ (x : Bool). unit_fits (take 512 (before ++ l)) (next_kind (unit_list (drop 512 (before ++ l)))) && x) (fit_not k (drop 512 before) l (omega arith) w e)
    ∙ and-false (unit_fits (take 512 (before ++ l)) (next_kind (unit_list (drop 512 (before ++ l)))))))

-- the units behind those that are left are right, and have the counts so far
pub record Shaping (file rest : List ℕ) (next blocks wires : ℕ) : Type 0 where
  pub behind : List ℕ
  pub split : file ≡ rest ++ behind
  pub whole : length rest % 512 ≡ 0
  pub whole_behind : length behind % 512 ≡ 0
  pub next_is : next ≡ next_kind (unit_list behind)
  pub fit : units_fit (unit_list behind) ≡ true
  pub blocks_many : blocks ≡ length (unbytes behind).blocks
  pub wires_many : wires ≡ length (unbytes behind).wires
  pub blocks_few : blocks + length rest ≤ length file
  pub wires_few : wires + length rest ≤ length file

pub shape_begins : (file aside : List ℕ) {rest : List ℕ} → length file % 512 ≡ 0 → file ≡ aside ++ rest → length aside ≡ length file % 512 → Shaping file rest 0 0 0
unfolding unit_list units_in units_fit unbytes read_units
shape_begins file aside {rest} h e l =
    let z = nil_from_length aside (omega arith) in
    let s : file ≡ rest = e ∙ ap (λ (x : List ℕ). x ++ rest) z in
    let n = ap length s in
    record {
      behind = [];
      split = s ∙ sym (append-nil rest);
      whole = omega arith;
      whole_behind = refl;
      next_is = refl;
      fit = refl;
      blocks_many = refl;
      wires_many = refl;
      blocks_few = omega arith;
      wires_few = omega arith;
    }

module _ {file rest : List ℕ} {next blocks wires : ℕ} (s : Shaping file rest next blocks wires) where
  pub shape_ends : length rest < 512 → ShapeIs file blocks wires
  shape_ends h =
      let w = s.whole in
      let e : file ≡ s.behind = s.split ∙ ap (λ (l : List ℕ). l ++ s.behind) (nil_from_length rest (omega arith)) in
      record {
        units = ap (λ (l : List ℕ). units_right (unit_list l)) e ∙ (units_as_fit (unit_list s.behind) ∙ s.fit);
        blocks_many = s.blocks_many ∙ ap (λ (l : List ℕ). length (unbytes l).blocks) (sym e);
        wires_many = s.wires_many ∙ ap (λ (l : List ℕ). length (unbytes l).wires) (sym e);
      }

  module _ (unit before : List ℕ) (e : rest ≡ before ++ unit) (n : length unit ≡ 512) where
    split_on : file ≡ before ++ (unit ++ s.behind)
    split_on = s.split ∙ (ap (λ (l : List ℕ). l ++ s.behind) e ∙ append_assoc before unit s.behind)

    fit_on : units_fit (unit_list (unit ++ s.behind)) ≡ (unit_fits unit next && units_fit (unit_list s.behind))
    unfolding units_fit
    fit_on = ap units_fit (units_before unit s.behind n s.whole_behind) ∙ ap (λ (k : ℕ). unit_fits unit k && units_fit (unit_list s.behind)) (sym s.next_is)

    whole_before : length before % 512 ≡ 0
    whole_before = let l = ap length e ∙ length-append before unit in let w = s.whole in omega arith

    pub shape_broken : false ≡ unit_fits unit next → units_right (unit_list file) ≡ false
    shape_broken f =
        let w = whole_before in
        let l = length-append unit s.behind in
        let v = s.whole_behind in
        let here : units_fit (unit_list (unit ++ s.behind)) ≡ false = fit_on ∙ ap (λ (b : Bool). b && units_fit (unit_list s.behind)) (sym f) in
        ap (λ (x : List ℕ). units_right (unit_list x)) split_on
        ∙ (units_as_fit (unit_list (before ++ (unit ++ s.behind))) ∙ fit_not (length before / 512) before (unit ++ s.behind) (omega arith) (omega arith) here)

    module _ (fits : true ≡ unit_fits unit next) where
      shape_few : field_at unit 2 ≤ unit_records
      unfolding unit_fits
      shape_few =
          let a = and_parts (kind_fits (kind_of unit) next) _ (sym fits) in
          let b = and_parts (count_fits (kind_of unit) next (count_of unit)) _ a.1 in
          count_few (kind_of unit) next (count_of unit) b.0

      module _ {kind count b w : ℕ} (isKind : kind ≡ field_at unit 0) (isCount : count ≡ field_at unit 2) where
        shaped : (t : Bool) → eqb (field_at unit 0) 1 ≡ t → b ≡ blocks + cond t count 0 → w ≡ wires + cond t 0 count → Shaping file before kind b w
        shaped t q x y =
            let c = counts_before unit s.behind n s.whole_behind t q in
            let l = ap length e ∙ length-append before unit in
            let m = length-append unit s.behind in
            let v = s.whole_behind in
            let f = shape_few in
            let k = small t in
            record {
              behind = unit ++ s.behind;
              split = split_on;
              whole = whole_before;
              whole_behind = omega arith;
              next_is = isKind ∙ ap next_kind (sym (units_before unit s.behind n s.whole_behind));
              fit = fit_on ∙ (λ j. sym fits j && s.fit j);
              blocks_many = x ∙ ((λ j. s.blocks_many j + cond t (isCount j) 0) ∙ (omega (arith, c.0)));
              wires_many = y ∙ ((λ j. s.wires_many j + cond t 0 (isCount j)) ∙ (omega (arith, c.1)));
              blocks_few = let r = s.blocks_few in omega (arith, k.0);
              wires_few = let r = s.wires_few in omega (arith, k.1);
            }
          where
            small : (t : Bool) → (cond t count 0 ≤ 512) × (cond t 0 count ≤ 512)
            small true = let f = shape_few in (omega arith, omega arith)
            small false = let f = shape_few in (omega arith, omega arith)

        pub shape_blocks : kind ≡ 1 → b ≡ blocks + count → w ≡ wires → Shaping file before kind b w
        shape_blocks z p q = shaped true (eq-eqb (field_at unit 0) 1 (sym isKind ∙ z)) p (omega arith)

        pub shape_wires : (kind ≡ 1 → ⊥) → b ≡ blocks → w ≡ wires + count → Shaping file before kind b w
        shape_wires z p q = shaped false (ne_eqb (field_at unit 0) 1 (λ y. z (isKind ∙ y))) (omega arith) q
