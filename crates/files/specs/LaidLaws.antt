-- What a laid file is: units of kind 1 and then units of kind 2, all but the last of a kind full. So each record stands where its
-- number says.
use Rattle.std.specs.List.{list_all}
use Rattle.std.specs.Prelude.{◌≡◌, refl, Bool, true, false, cond, List, [], ◌∷◌, ◌++◌, map, ℕ, zero, suc, ◌+◌, ◌-◌, ◌*◌, ◌/◌, ◌%◌, ◌≤◌, ◌<◌, leb, ltb, length, get_or, take, drop}
use Rattle.std.proofs.Common.{sym, ap, ◌∙◌, subst, arith, length-append, drop-drop, get_or-take, get_or-append-add, eqb-true, eq-eqb, leb-true, ltb-true, ltb-false}
use Rattle.std.proofs.Math.ListN.{get_or-append}
use Rattle.multiportgraph.specs.HiddenStays.{true_not_false}
use Rattle.std.proofs.lemmas.Bool.{and_parts}
use Rattle.std.proofs.lemmas.List.{length-map, get_or-map, map-append}
use Rattle.files.specs.View.{BlockPorts, RankWire, View}
use Rattle.files.specs.Layout.{Record, field_at, unit_records, units_for, block_of, wire_of, record_at, records_at, records_of, read_units, unbytes}
use Rattle.files.specs.Loading.{units_in, unit_list, kind_of, count_of, of_kind, kinds_right, goes_on, counts_right, zeros_right, units_right}

-- Fields.

pub field_taken : (n i : ℕ) (bytes : List ℕ) → i + 2 ≤ n → field_at (take n bytes) i ≡ field_at bytes i
unfolding field_at
field_taken n i bytes h =
    let a = get_or-take n bytes i 0 (omega arith) in
    let b = get_or-take n bytes (i + 1) 0 (omega arith) in
    λ j. a j + 256 * b j

-- Records.

pub records_many : (n : ℕ) (bytes : List ℕ) → length (records_at n bytes) ≡ n
unfolding records_at
records_many zero bytes = refl
records_many (suc n) bytes = ap suc (records_many n (drop 8 bytes))

pub record_in : (n i : ℕ) (bytes : List ℕ) (d : Record) → i < n → get_or (records_at n bytes) i d ≡ record_at (drop (8 * i) bytes)
unfolding records_at
record_in zero i bytes d h = absurd (omega arith)
record_in (suc n) zero bytes d h = refl
record_in (suc n) (suc i) bytes d h =
    let e : 8 + 8 * i ≡ 8 * suc i = omega arith in
    record_in n i (drop 8 bytes) d (omega arith) ∙ ap record_at (drop-drop (8 * i) 8 bytes ∙ ap (λ (k : ℕ). drop k bytes) e)

-- the records of so many units
unfoldable pub records_in : ℕ → List ℕ → List Record
records_in zero bytes = []
records_in (suc n) bytes = records_of bytes ++ records_in n (drop 512 bytes)

-- Units of one kind.

-- a unit, before so many others of its kind
pub record UnitOf (kind left : ℕ) (bytes : List ℕ) : Type 0 where
  pub kind_is : field_at bytes 0 ≡ kind
  pub some : 1 ≤ field_at bytes 2
  pub few : field_at bytes 2 ≤ unit_records
  pub full : 0 < left → unit_records ≤ field_at bytes 2
  pub zeros : zeros_right (take 512 bytes) ≡ true

abbrev pub Units : ℕ → ℕ → List ℕ → Type 0
Units kind zero bytes = Unit {0}
Units kind (suc n) bytes = UnitOf kind n bytes × Units kind n (drop 512 bytes)

-- so many records: more than all units but the last hold
records_between : (kind n : ℕ) (bytes : List ℕ) → Units kind n bytes → (length (records_in n bytes) ≤ unit_records * n) × (unit_records * n ≤ length (records_in n bytes) + 62)
unfolding records_in records_of
records_between kind zero bytes u = (omega arith, omega arith)
records_between kind (suc n) bytes u = go n (records_between kind n (drop 512 bytes) u.1) u.0.full
  where
    go : (k : ℕ) → (length (records_in n (drop 512 bytes)) ≤ unit_records * k) × (unit_records * k ≤ length (records_in n (drop 512 bytes)) + 62) →
        (0 < k → unit_records ≤ field_at bytes 2) →
        (length (records_at (field_at bytes 2) (drop 4 bytes) ++ records_in n (drop 512 bytes)) ≤ unit_records * suc k)
        × (unit_records * suc k ≤ length (records_at (field_at bytes 2) (drop 4 bytes) ++ records_in n (drop 512 bytes)) + 62)
    go zero r f =
        let a = length-append (records_at (field_at bytes 2) (drop 4 bytes)) (records_in n (drop 512 bytes)) in
        let b = records_many (field_at bytes 2) (drop 4 bytes) in
        let c = u.0.some in
        let d = u.0.few in
        let x = r.0 in
        let y = r.1 in
        (omega arith, omega arith)
    go (suc k) r f =
        let a = length-append (records_at (field_at bytes 2) (drop 4 bytes)) (records_in n (drop 512 bytes)) in
        let b = records_many (field_at bytes 2) (drop 4 bytes) in
        let c = f (omega arith) in
        let d = u.0.few in
        let x = r.0 in
        let y = r.1 in
        (omega arith, omega arith)

-- they need as many units
pub units_counted : (kind n : ℕ) (bytes : List ℕ) → Units kind n bytes → units_for (length (records_in n bytes)) ≡ n
unfolding units_for
units_counted kind n bytes u =
    let r = records_between kind n bytes u in
    let a = r.0 in
    let b = r.1 in
    omega arith

-- a record stands where its number says
pub record_placed : (kind n : ℕ) (bytes : List ℕ) → Units kind n bytes → (i : ℕ) (d : Record) → i < length (records_in n bytes) →
    get_or (records_in n bytes) i d ≡ record_at (drop (512 * (i / 63) + 4 + 8 * (i % 63)) bytes)
unfolding records_in records_of
record_placed kind zero bytes u i d h = absurd (omega arith)
record_placed kind (suc n) bytes u i d h = go (ltb i (field_at bytes 2)) refl (record_placed kind n (drop 512 bytes) u.1)
  where
    first : List Record
    first = records_at (field_at bytes 2) (drop 4 bytes)

    later : List Record
    later = records_in n (drop 512 bytes)

    long : length first ≡ field_at bytes 2
    long = records_many (field_at bytes 2) (drop 4 bytes)

    both : length (first ++ later) ≡ length first + length later
    both = length-append first later

    another : (k : ℕ) → 0 < length (records_in k (drop 512 bytes)) → 0 < k
    another zero h = h
    another (suc k) h = omega arith

    go : (t : Bool) → ltb i (field_at bytes 2) ≡ t →
        ((i : ℕ) (d : Record) → i < length later → get_or later i d ≡ record_at (drop (512 * (i / 63) + 4 + 8 * (i % 63)) (drop 512 bytes))) →
        get_or (first ++ later) i d ≡ record_at (drop (512 * (i / 63) + 4 + 8 * (i % 63)) bytes)
    go true e rest =
        let k = ltb-true i (field_at bytes 2) e in
        let l = long in
        let f = u.0.few in
        let z : 4 + 8 * i ≡ 512 * (i / 63) + 4 + 8 * (i % 63) = omega arith in
        get_or-append first later d i (omega arith)
        ∙ (record_in (field_at bytes 2) i (drop 4 bytes) d k ∙ ap record_at (drop-drop (8 * i) 4 bytes ∙ ap (λ (m : ℕ). drop m bytes) z))
    go false e rest =
        let k = ltb-false i (field_at bytes 2) e in
        let l = long in
        let b = both in
        let s = another n (omega arith) in
        let f = u.0.full s in
        let g = u.0.few in
        let y : i ≡ length first + (i - 63) = omega arith in
        let z : 512 + (512 * ((i - 63) / 63) + 4 + 8 * ((i - 63) % 63)) ≡ 512 * (i / 63) + 4 + 8 * (i % 63) = omega arith in
        ap (λ (m : ℕ). get_or (first ++ later) m d) y
        ∙ (get_or-append-add first later (i - 63) d
        ∙ (rest (i - 63) d (omega arith)
        ∙ ap record_at (drop-drop (512 * ((i - 63) / 63) + 4 + 8 * ((i - 63) % 63)) 512 bytes ∙ ap (λ (m : ℕ). drop m bytes) z)))

-- The two kinds.

pub record Parts (n : ℕ) (bytes : List ℕ) : Type 0 where
  pub first : ℕ
  pub second : ℕ
  pub whole : n ≡ first + second
  pub blocks : Units 1 first bytes
  pub wires : Units 2 second (drop (512 * first) bytes)

-- what they say
wires_said : (n : ℕ) (bytes : List ℕ) → Units 2 n bytes → read_units n bytes ≡ record { blocks = []; wires = map wire_of (records_in n bytes) }
unfolding read_units records_in
wires_said zero bytes u = refl
wires_said (suc n) bytes u =
    let r = wires_said n (drop 512 bytes) u.1 in
    let e = sym (map-append wire_of (records_of bytes) (records_in n (drop 512 bytes))) in
    rw (u.0.kind_is, r) (λ i. record { blocks = []; wires = e i })

parts_said : (p q : ℕ) (bytes : List ℕ) → Units 1 p bytes → Units 2 q (drop (512 * p) bytes) →
    read_units (p + q) bytes ≡ record { blocks = map block_of (records_in p bytes); wires = map wire_of (records_in q (drop (512 * p) bytes)) }
unfolding read_units records_in
parts_said zero q bytes u v = let e : 0 + q ≡ q = omega arith in rw e (wires_said q bytes v)
parts_said (suc p) q bytes u v =
    let n : suc p + q ≡ suc (p + q) = omega arith in
    let d : drop (512 * suc p) bytes ≡ drop (512 * p) (drop 512 bytes) =
    let z : 512 * suc p ≡ 512 + 512 * p = omega arith in ap (λ (m : ℕ). drop m bytes) z ∙ sym (drop-drop (512 * p) 512 bytes) in
    let r = parts_said p q (drop 512 bytes) u.1 (subst (Units 2 q) d v) in
    let e = sym (map-append block_of (records_of bytes) (records_in p (drop 512 bytes))) in
    rw n (rw (u.0.kind_is, r) (λ i. record { blocks = e i; wires = map wire_of (records_in q (sym d i)) }))

-- Where the tests hold.

module _ (u : List ℕ) (l : List (List ℕ)) (e : counts_right (u ∷ l) ≡ true) where
  count_parts : (leb (cond (goes_on u l) unit_records 1) (count_of u) ≡ true) × (leb (count_of u) unit_records ≡ true) × (counts_right l ≡ true)
  unfolding counts_right
  count_parts = let a = and_parts _ _ e in let b = and_parts _ _ a.1 in (a.0, b.0, b.1)

  count_least : (1 ≤ count_of u) × (goes_on u l ≡ true → unit_records ≤ count_of u)
  count_least = go (goes_on u l) refl (leb-true _ _ count_parts.0)
    where
      go : (t : Bool) → goes_on u l ≡ t → cond t unit_records 1 ≤ count_of u → (1 ≤ count_of u) × (goes_on u l ≡ true → unit_records ≤ count_of u)
      go true f h = (omega arith, λ k. h)
      go false f h = (h, λ k. absurd (true_not_false k f))

-- another unit of the kind comes next
goes_on_lem : (kind p n : ℕ) (u bytes : List ℕ) → kind_of u ≡ kind → 0 < p → p ≤ n → Units kind p bytes → goes_on u (units_in n bytes) ≡ true
unfolding units_in
goes_on_lem kind zero n u bytes k h l s = absurd (omega arith)
goes_on_lem kind (suc p) zero u bytes k h l s = absurd (omega arith)
goes_on_lem kind (suc p) (suc n) u bytes k h l s = eq-eqb _ _ (field_taken 512 0 bytes (omega arith) ∙ (s.0.kind_is ∙ sym k))

first_unit : (kind p n : ℕ) (bytes : List ℕ) → p ≤ n → field_at bytes 0 ≡ kind → counts_right (units_in (suc n) bytes) ≡ true → zeros_right (take 512 bytes) ≡ true →
    Units kind p (drop 512 bytes) → UnitOf kind p bytes
unfolding units_in
first_unit kind p n bytes l k c z s =
    let u = take 512 bytes in
    let rest = units_in n (drop 512 bytes) in
    let a = count_least u rest c in
    let b = leb-true (count_of u) unit_records (count_parts u rest c).1 in
    let x = field_taken 512 0 bytes (omega arith) in
    let y = field_taken 512 2 bytes (omega arith) in
    let w = a.0 in
    record {
      kind_is = k;
      some = omega arith;
      few = omega arith;
      full = λ h. let f = a.1 (goes_on_lem kind p n u (drop 512 bytes) (x ∙ k) h l s) in omega arith;
      zeros = z;
    }

second_part : (n : ℕ) (bytes : List ℕ) → list_all (of_kind 2) (units_in n bytes) ≡ true → counts_right (units_in n bytes) ≡ true → list_all zeros_right (units_in n bytes) ≡ true → Units 2 n bytes
unfolding units_in
second_part zero bytes k c z = tt
second_part (suc n) bytes k c z =
    let u = take 512 bytes in
    let rest = units_in n (drop 512 bytes) in
    let a = and_parts _ _ k in
    let b = and_parts _ _ z in
    let later = second_part n (drop 512 bytes) a.1 (count_parts u rest c).2 b.1 in
    (first_unit 2 n n bytes (omega arith) (sym (field_taken 512 0 bytes (omega arith)) ∙ eqb-true _ _ a.0) c b.0 later, later)

pub parts_of : (n : ℕ) (bytes : List ℕ) → kinds_right (units_in n bytes) ≡ true → counts_right (units_in n bytes) ≡ true → list_all zeros_right (units_in n bytes) ≡ true → Parts n bytes
unfolding units_in kinds_right
parts_of zero bytes k c z = record { first = 0; second = 0; whole = refl; blocks = tt; wires = tt }
parts_of (suc n) bytes k c z = go (of_kind 1 (take 512 bytes)) refl k (parts_of n (drop 512 bytes))
  where
    rest : List (List ℕ)
    rest = units_in n (drop 512 bytes)

    go : (t : Bool) → of_kind 1 (take 512 bytes) ≡ t → cond t (kinds_right rest) (list_all (of_kind 2) (take 512 bytes ∷ rest)) ≡ true →
        (kinds_right rest ≡ true → counts_right rest ≡ true → list_all zeros_right rest ≡ true → Parts n (drop 512 bytes)) → Parts (suc n) bytes
    go true e k more =
        let b = and_parts (zeros_right (take 512 bytes)) (list_all zeros_right rest) z in
        let s = more k (count_parts (take 512 bytes) rest c).2 b.1 in
        let w = s.whole in
        let d : drop (512 * s.first) (drop 512 bytes) ≡ drop (512 * suc s.first) bytes =
        let y : 512 + 512 * s.first ≡ 512 * suc s.first = omega arith in drop-drop (512 * s.first) 512 bytes ∙ ap (λ (m : ℕ). drop m bytes) y in
        record {
          first = suc s.first;
          second = s.second;
          whole = omega arith;
          blocks = (first_unit 1 s.first n bytes (omega arith) (sym (field_taken 512 0 bytes (omega arith)) ∙ eqb-true _ _ e) c b.0 s.blocks, s.blocks);
          wires = subst (Units 2 s.second) d s.wires;
        }
    go false e k more = record { first = 0; second = suc n; whole = omega arith; blocks = tt; wires = second_part (suc n) bytes k c z }

-- By index.

module _ (b : List ℕ) (e : units_right (unit_list b) ≡ true) where
  pub parts : Parts (length b / 512) b
  unfolding units_right unit_list
  parts = let x = and_parts _ _ e in let y = and_parts _ _ x.1 in parts_of (length b / 512) b x.0 y.0 y.1

  pub said : unbytes b ≡ record { blocks = map block_of (records_in parts.first b); wires = map wire_of (records_in parts.second (drop (512 * parts.first) b)) }
  unfolding unbytes
  said = rw parts.whole (parts_said parts.first parts.second b parts.blocks parts.wires)

  -- the units of the blocks, and of the wires
  pub block_units : units_for (length (unbytes b).blocks) ≡ parts.first
  block_units =
      ap (λ (v : View). units_for (length v.blocks)) said
      ∙ (ap units_for (length-map (records_in parts.first b) block_of) ∙ units_counted 1 parts.first b parts.blocks)

  pub wire_units : units_for (length (unbytes b).wires) ≡ parts.second
  wire_units =
      ap (λ (v : View). units_for (length v.wires)) said
      ∙ (ap units_for (length-map (records_in parts.second (drop (512 * parts.first) b)) wire_of) ∙ units_counted 2 parts.second (drop (512 * parts.first) b) parts.wires)

  pub all_units : length b / 512 ≡ units_for (length (unbytes b).blocks) + units_for (length (unbytes b).wires)
  all_units = let a = parts.whole in let x = block_units in let y = wire_units in omega arith

  -- the block of a rank
  pub block_placed : (i : ℕ) (d : BlockPorts) → i < length (unbytes b).blocks → get_or (unbytes b).blocks i d ≡ block_of (record_at (drop (512 * (i / 63) + 4 + 8 * (i % 63)) b))
  block_placed i d h =
      let records = records_in parts.first b in
      let n : length (unbytes b).blocks ≡ length records = ap (λ (v : View). length v.blocks) said ∙ length-map records block_of in
      let r = record_at b in
      ap (λ (v : View). get_or v.blocks i d) said
      ∙ (get_or-map block_of records i r d (omega arith) ∙ ap block_of (record_placed 1 parts.first b parts.blocks i r (omega arith)))

  -- a wire by its number
  pub wire_placed : (j : ℕ) (d : RankWire) → j < length (unbytes b).wires →
      get_or (unbytes b).wires j d ≡ wire_of (record_at (drop (512 * (units_for (length (unbytes b).blocks) + j / 63) + 4 + 8 * (j % 63)) b))
  wire_placed j d h =
      let after = drop (512 * parts.first) b in
      let records = records_in parts.second after in
      let n : length (unbytes b).wires ≡ length records = ap (λ (v : View). length v.wires) said ∙ length-map records wire_of in
      let r = record_at b in
      let k = 512 * (j / 63) + 4 + 8 * (j % 63) in
      let u = block_units in
      let z : 512 * parts.first + k ≡ 512 * (units_for (length (unbytes b).blocks) + j / 63) + 4 + 8 * (j % 63) = omega arith in
      ap (λ (v : View). get_or v.wires j d) said
      ∙ (get_or-map wire_of records j r d (omega arith)
      ∙ ap wire_of (record_placed 2 parts.second after parts.wires j r (omega arith) ∙ ap record_at (drop-drop k (512 * parts.first) b ∙ ap (λ (m : ℕ). drop m b) z)))
