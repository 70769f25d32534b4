-- Laws of the layout: how long a file is, and that the view is read back from its bytes, so that equal bytes have equal views.
use Rattle.std.specs.Prelude.{◌≡◌, refl, Bool, true, false, ℕ, zero, suc, ◌+◌, ◌-◌, ◌*◌, ◌/◌, ◌%◌, ◌≤◌, ◌<◌, eqb, take, drop, replicate}
use Rattle.std.proofs.Common.{sym, ap, ◌∙◌, subst, inl, inr, length-append, length-take, length-drop, take-append-drop, drop_at}
use mathlib.Core.List.{List, [], ◌∷◌, ◌++◌, map, flat_map, append_assoc, append-nil}
use native.Mathlib.Omega.{arith}
use Rattle.std.proofs.Math.ListN.{length}
use Rattle.std.proofs.lemmas.List.{length-map, length-replicate, map-id}
use Rattle.std.proofs.lemmas.Simd.{map-map}
use Rattle.multiportgraph.specs.ListReads.{flat_map_length}
use Rattle.port_tables.specs.Lists.{Member}
use Rattle.port_tables.specs.Listing.{member_left, member_right}
use Rattle.files.specs.View.{View}
use Rattle.files.specs.Layout.{Record, FieldsFit, AllFit, ViewFits, block_record, wire_record, field_bytes, word_bytes, field_at, record_bytes, unit_records, unit_head, sum_of, unit, units_for, units_from, units_of, bytes_of, file_length, block_of, wire_of, record_at, records_at, records_of, empty_view, with_records, with_unit, read_units, unbytes}

-- Lengths.

pub records_length : (records : List Record) → length (flat_map record_bytes records) ≡ 8 * length records
unfolding record_bytes field_bytes
records_length records = flat_map_length record_bytes 8 (λ r. refl) records

pub head_length : (kind : ℕ) (records : List Record) → length records ≤ unit_records → length (unit_head kind records) ≡ 508
unfolding unit_head field_bytes
head_length kind records h =
    let a = records_length records in
    let b = length-append (flat_map record_bytes records) (replicate (8 * (unit_records - length records)) 0) in
    let c = length-replicate {A = ℕ} (8 * (unit_records - length records)) 0 in
    omega arith

pub unit_length : (kind : ℕ) (records : List Record) → length records ≤ unit_records → length (unit kind records) ≡ 512
unfolding unit word_bytes field_bytes
unit_length kind records h =
    let a = head_length kind records h in
    let b = length-append (unit_head kind records) (word_bytes (sum_of (unit_head kind records))) in
    omega arith

pub taken_few : (records : List Record) → length (take unit_records records) ≤ unit_records
taken_few records = let e = length-take unit_records records in omega arith

pub units_length : (kind n : ℕ) (records : List Record) → length (units_from kind n records) ≡ 512 * n
unfolding units_from
units_length kind zero records = refl
units_length kind (suc n) records =
    let a = unit_length kind (take unit_records records) (taken_few records) in
    let b = units_length kind n (drop unit_records records) in
    let c = length-append (unit kind (take unit_records records)) (units_from kind n (drop unit_records records)) in
    omega arith

-- the length of a file follows from the counts alone
pub file_length_lem : (v : View) → length (bytes_of v) ≡ file_length (length v.blocks) (length v.wires)
unfolding bytes_of units_of file_length
file_length_lem v =
    let blocks = map block_record v.blocks in
    let wires = map wire_record v.wires in
    let a = units_length 1 (units_for (length blocks)) blocks in
    let b = units_length 2 (units_for (length wires)) wires in
    let c = length-append (units_from 1 (units_for (length blocks)) blocks) (units_from 2 (units_for (length wires)) wires) in
    let d = ap units_for (length-map v.blocks block_record) in
    let e = ap units_for (length-map v.wires wire_record) in
    omega arith

-- Reading back.

record_read : (r : Record) (l : List ℕ) → FieldsFit r → record_at (record_bytes r ++ l) ≡ r
unfolding record_at record_bytes field_bytes field_at
record_read r l f =
    let h = f.a in
    let k = f.b in
    let m = f.c in
    let n = f.d in
    let a : r.a % 256 + 256 * (r.a / 256 % 256) ≡ r.a = omega arith in
    let b : r.b % 256 + 256 * (r.b / 256 % 256) ≡ r.b = omega arith in
    let c : r.c % 256 + 256 * (r.c / 256 % 256) ≡ r.c = omega arith in
    let d : r.d % 256 + 256 * (r.d / 256 % 256) ≡ r.d = omega arith in
    λ i. record { a = a i; b = b i; c = c i; d = d i }

record_passed : (r : Record) (l : List ℕ) → drop 8 (record_bytes r ++ l) ≡ l
unfolding record_bytes field_bytes
record_passed r l = refl

records_read : (records : List Record) (l : List ℕ) → AllFit records → records_at (length records) (flat_map record_bytes records ++ l) ≡ records
unfolding records_at flat_map
records_read [] l f = refl
records_read (r ∷ records) l f =
    let rest = records_read records l (λ s i. f s (inr i)) in
    rw (append_assoc (record_bytes r) (flat_map record_bytes records) l)
    (rw (record_read r (flat_map record_bytes records ++ l) (f r (inl refl)), record_passed r (flat_map record_bytes records ++ l)) (ap (λ k. r ∷ k) rest))

module _ (kind : ℕ) (records : List Record) (l : List ℕ) where
  -- a unit and what follows it
  pub unit_then : unit kind records ++ l
      ≡ field_bytes kind ++ (field_bytes (length records) ++ (flat_map record_bytes records ++ (replicate (8 * (unit_records - length records)) 0 ++ (word_bytes (sum_of (unit_head kind records)) ++ l))))
  unfolding unit unit_head
  unit_then = simp append_assoc

  pub kind_read : kind < 65536 → field_at (unit kind records ++ l) 0 ≡ kind
  unfolding field_at field_bytes
  kind_read h = rw unit_then (omega arith)

  pub unit_read : length records ≤ unit_records → AllFit records → records_of (unit kind records ++ l) ≡ records
  unfolding records_of field_bytes field_at
  unit_read h f =
      let c : length records % 256 + 256 * (length records / 256 % 256) ≡ length records = omega arith in
      rw unit_then (rw c (records_read records _ f))

-- records one after the other
with_both : (t : Bool) (a b : List Record) (v : View) → with_records t a (with_records t b v) ≡ with_records t (a ++ b) v
with_both t a b v = go t
  where
    map_both : {A B : Type 0} (f : A → B) (x y : List A) (z : List B) → map f x ++ (map f y ++ z) ≡ map f (x ++ y) ++ z
    map_both f [] y z = refl
    map_both f (e ∷ x) y z = ap (λ k. f e ∷ k) (map_both f x y z)

    go : (t : Bool) → with_records t a (with_records t b v) ≡ with_records t (a ++ b) v
    go true = let e = map_both block_of a b v.blocks in λ i. record { blocks = e i; wires = v.wires }
    go false = let e = map_both wire_of a b v.wires in λ i. record { blocks = v.blocks; wires = e i }

with_none : (t : Bool) (v : View) → with_records t [] v ≡ v
with_none true v = refl
with_none false v = refl

-- units of one kind, and what follows them
units_read : (kind : ℕ) → kind < 65536 → (n j : ℕ) (records : List Record) (l : List ℕ) → length records ≤ unit_records * n → AllFit records →
    read_units (n + j) (units_from kind n records ++ l) ≡ with_unit kind records (read_units j l)
unfolding units_from read_units
units_read kind k zero j [] l h f = let e : 0 + j ≡ j = omega arith in rw e (sym (with_none (eqb kind 1) (read_units j l)))
units_read kind k zero j (r ∷ records) l h f = absurd (omega arith)
units_read kind k (suc n) j records l h f =
    let first = take unit_records records in
    let later = drop unit_records records in
    let e : suc n + j ≡ suc (n + j) = omega arith in
    let few = taken_few records in
    let whole : first ++ later ≡ records = take-append-drop unit_records records in
    let rest = units_read kind k n j later l (let z = length-drop unit_records records in omega arith)
    (λ r i. f r (subst (λ (x : List Record). Member r x) whole (member_right r first later i))) in
    let a = kind_read kind first (units_from kind n later ++ l) k in
    let b = unit_read kind first (units_from kind n later ++ l) few (λ r i. f r (subst (λ (x : List Record). Member r x) whole (member_left r first later i))) in
    let c = drop_at (unit kind first) (units_from kind n later ++ l) 512 (unit_length kind first few) in
    rw (e, append_assoc (unit kind first) (units_from kind n later) l)
    (rw (a, b, c, rest) (with_both (eqb kind 1) first later (read_units j l) ∙ ap (λ (x : List Record). with_unit kind x (read_units j l)) whole))

pub units_enough : (count : ℕ) → count ≤ unit_records * units_for count
unfolding units_for
units_enough count = omega arith

-- a view is read back from its bytes
pub view_read_back : (v : View) → ViewFits v → unbytes (bytes_of v) ≡ v
unfolding unbytes bytes_of units_of read_units
view_read_back v f =
    let blocks = map block_record v.blocks in
    let wires = map wire_record v.wires in
    let n = units_for (length blocks) in
    let k = units_for (length wires) in
    let a = units_length 1 n blocks in
    let b = units_length 2 k wires in
    let c = length-append (units_from 1 n blocks) (units_from 2 k wires) in
    let many : length (units_from 1 n blocks ++ units_from 2 k wires) / 512 ≡ n + k = omega arith in
    let first = units_read 1 (omega arith) n k blocks (units_from 2 k wires) (units_enough (length blocks)) f.0 in
    let second = units_read 2 (omega arith) k 0 wires [] (units_enough (length wires)) f.1 in
    let e : read_units k (units_from 2 k wires) ≡ with_unit 2 wires empty_view =
    (λ i. read_units (zeros k i) (sym (append-nil (units_from 2 k wires)) i)) ∙ second in
    let p : map block_of blocks ≡ v.blocks = map-map block_of block_record v.blocks ∙ map-id v.blocks in
    let q : map wire_of wires ≡ v.wires = map-map wire_of wire_record v.wires ∙ map-id v.wires in
    rw many (first ∙ (ap (with_unit 1 blocks) e ∙ (λ i. record { blocks = (append-nil (map block_of blocks) ∙ p) i; wires = (append-nil (map wire_of wires) ∙ q) i })))
  where
    zeros : (k : ℕ) → k ≡ k + 0
    zeros k = omega arith

-- equal bytes have equal views
pub same_bytes_same_view : (v w : View) → ViewFits v → ViewFits w → bytes_of v ≡ bytes_of w → v ≡ w
same_bytes_same_view v w f g e = sym (view_read_back v f) ∙ (ap unbytes e ∙ view_read_back w g)
