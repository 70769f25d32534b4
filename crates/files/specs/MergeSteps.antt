-- What the functions that merge files cite: the records of both as numbers, the result laid and built, and the answers in their order.
use Rattle.std.specs.Prelude.{◌≡◌, true, ℕ, suc, ◌+◌, ◌-◌, ◌*◌, ◌≤◌, ◌<◌, get_or, set, take, Result, Ok, Err, IsErrAnd}
use Rattle.std.proofs.Math.Path.{refl, ap}
use Rattle.std.proofs.Common.{sym, ◌∙◌, subst, length-append, length-set, take_at}
use mathlib.Core.List.{List, [], ◌∷◌, ◌++◌, map}
use native.Mathlib.Omega.{arith}
use Rattle.std.proofs.Math.ListN.{length, drop}
use Rattle.std.proofs.Math.Seq.{sets}
use Rattle.std.proofs.lemmas.Bool.{and_parts}
use Rattle.std.proofs.lemmas.List.Edits.{sets-eq}
use Rattle.std.proofs.lemmas.List.{length-map, take_all, take_more_set}
use Rattle.std.proofs.lemmas.Slice.{take-put_mid}
use borrow.Rule.Slice.PartMut.{put_mid}
use borrow.Author.Tests.{le-leb}
use Rattle.std.proofs.lemmas.List.{map-append}
use Rattle.std.proofs.lemmas.Simd.{map-map}
use Rattle.port_tables.specs.Lists.{range, Member}
use Rattle.port_tables.specs.ResizeLinkSteps.{sets_append}
use Rattle.multiportgraph.specs.Listed.{list_after}
use Rattle.multiportgraph.specs.ScanLaws.{range_append}
use Rattle.port_tables.specs.Listing.{length_range}
use Rattle.port_tables.specs.declared.release.Release.TheVariants.{One}
use Rattle.files.specs.View.{RankWire, View}
use Rattle.files.specs.Layout.{Record, block_of, wire_of, block_record, wire_record, field_at, units_for, units_of, bytes_of, file_length, unbytes, FieldsFit, ViewFits}
use Rattle.files.specs.LayoutLaws.{units_length, file_length_lem, view_read_back}
use Rattle.files.specs.Loading.{is_whole, is_laid, unit_list, units_right, view_right, load_answer}
use Rattle.files.specs.Claims.{Bytes, Sound}
use Rattle.files.specs.SoundLaws.{laid_sound, said_fits}
use Rattle.files.specs.LaidAgain.{written_laid}
use Rattle.files.specs.Forms.{number_of, record_of}
use Rattle.files.specs.LoadForms.{place_of, record_in, no_wire, BlocksRead, WiresRead, Laid}
use Rattle.files.specs.RankLaws.{at_member, at_below, at_read, at_get, items_hold}
use Rattle.files.specs.SaveSteps.{records_back, listed_map}
use Rattle.files.specs.WireSteps.{blocks_read, wires_read}
use Rattle.files.specs.Merging.{raised, merged_view, merged_file, layout_answer, result_answer, merge_answer, buffer_if, merge_buffer}
use Rattle.files.specs.MergeForms.{block_read, wire_read, RaisedFit, BothLaid, BothFew}
use Rattle.files.specs.MergeLaws.{map_unraised, merged_appends, merged_sound, merged_fits}
use Rattle.files.specs.LoadAnswers.{loaded_few}
use Rattle.files.specs.declared.file.File.{File}
use Rattle.files.specs.declared.load.LoadError.{LoadError}
use Rattle.files.specs.declared.merge.MergeError.{MergeError}
use Rattle.files.specs.declared.merge.MergeError.TheVariants.{Load}

-- Records as numbers.

-- a record that is read fits its fields
pub record_fits : (bytes : List ℕ) → Bytes bytes → (at : ℕ) → FieldsFit (record_in bytes at)
unfolding field_at
record_fits bytes small at =
    let f : (i : ℕ) → get_or bytes i 0 + 256 * get_or bytes (i + 1) 0 < 65536 = λ i. let x = small i in let y = small (i + 1) in omega arith in
    record { a = f at; b = f (at + 2); c = f (at + 4); d = f (at + 6) }

-- a list whose items are read one after the other: what is read of each, as a number, and the record of that number again
records_read : {A : Type 0} (f : A → Record) (l : List A) (d : A) {n : ℕ} (got : ℕ → A) → length l ≡ n → ((i : ℕ) → i < n → get_or l i d ≡ got i) → ((i : ℕ) → i < n → FieldsFit (f (got i))) →
    map record_of (map (λ i. number_of (f (got i))) (range 0 n)) ≡ map f l
records_read {A} f l d {n} got many each fits =
    ap (map record_of)
    (ap (λ (k : ℕ). map (λ i. number_of (f (got i))) (range 0 k)) (sym many)
    ∙ listed_map (λ i. number_of (f (got i))) (λ x. number_of (f x)) l 0
    (λ i x k.
    let h = at_below l i x k in
    let z : 0 + i ≡ i = omega arith in
    ap (λ (j : ℕ). number_of (f (got j))) z ∙ ap (λ (y : A). number_of (f y)) (sym (each i (omega arith)) ∙ at_read l i x d k)))
    ∙ records_back f l (items_hold (λ x. FieldsFit (f x)) l d (λ i h. subst (λ x. FieldsFit (f x)) (sym (each i (omega arith))) (fits i (omega arith))))

module _ (bytes : List ℕ) (small : Bytes bytes) where
  -- the records of its blocks
  pub block_records_read : (n : ℕ) → BlocksRead bytes n → map record_of (map (block_read bytes) (range 0 n)) ≡ map block_record (unbytes bytes).blocks
  block_records_read n r =
      records_read block_record (unbytes bytes).blocks (record { incoming = 0; outgoing = 0 }) (λ i. block_of (record_in bytes (place_of 0 i))) r.many r.each
      (λ i h. let f = record_fits bytes small (place_of 0 i) in record { a = f.a; b = f.b; c = omega arith; d = omega arith })

  -- and of its wires, their ranks raised
  pub wire_records_read : (unit n raise : ℕ) → WiresRead bytes unit n → RaisedFit bytes unit n raise →
      map record_of (map (wire_read bytes unit raise) (range 0 n)) ≡ map wire_record (map (raised raise) (unbytes bytes).wires)
  wire_records_read unit n raise r fit =
      records_read (λ (w : RankWire). wire_record (raised raise w)) (unbytes bytes).wires no_wire (λ i. wire_of (record_in bytes (place_of unit i))) r.many r.each
      (λ i h. let f = record_fits bytes small (place_of unit i) in let k = fit i h in record { a = k.0; b = f.b; c = k.1; d = f.d })
      ∙ sym (map-map wire_record (raised raise) (unbytes bytes).wires)

  -- ranks that are not raised fit
  pub unraised_fit : (unit n : ℕ) → RaisedFit bytes unit n 0
  unraised_fit unit n i h = let f = record_fits bytes small (place_of unit i) in (let a = f.a in omega arith, let c = f.c in omega arith)

-- Numbers stored in a list, one after the other.

-- so many numbers, of which the first ones are those of a function
pub record Numbered (f : ℕ → ℕ) (n : ℕ) (numbers : List ℕ) (i : ℕ) : Type 0 where
  pub long : length numbers ≡ n
  pub first : take i numbers ≡ map f (range 0 i)

pub numbers_begin : (f : ℕ → ℕ) (n : ℕ) (numbers : List ℕ) → length numbers ≡ n → Numbered f n numbers 0
unfolding range
numbers_begin f n numbers l = record { long = l; first = refl }

numbers_turn : {f : ℕ → ℕ} {n i : ℕ} {numbers : List ℕ} {x : ℕ} → Numbered f n numbers i → i < n → x ≡ f i → Numbered f n (set numbers i x) (i + 1)
unfolding range
numbers_turn {f} {n} {i} {numbers} {x} s h e =
    let l = s.long in
    let z : i ≡ 0 + i = omega arith in
    let k : suc i ≡ i + 1 = omega arith in
    record {
      long = length-set numbers i x ∙ l;
      first =
          take_more_set numbers i x (omega arith)
          ∙ ((λ j. s.first j ++ ((e ∙ ap f z) j ∷ [])) ∙ (sym (map-append f (range 0 i) ((0 + i) ∷ [])) ∙ (ap (map f) (sym (range_append 0 i 1 (suc i) (omega arith))) ∙ ap (λ (j : ℕ). map f (range 0 j)) k)));
    }

-- one turn: the number of a block, and of a wire, that is read
pub block_stored : (bytes : List ℕ) {numbers : List ℕ} {n i x : ℕ} {r : Record} → Numbered (block_read bytes) n numbers i → i < n → r ≡ record_in bytes (place_of 0 i) → x ≡ number_of (block_record (block_of r)) →
    Numbered (block_read bytes) n (set numbers i x) (i + 1)
block_stored bytes s h e f = numbers_turn s h (f ∙ ap (λ (r : Record). number_of (block_record (block_of r))) e)

pub wire_stored : (bytes : List ℕ) (unit raise : ℕ) {numbers : List ℕ} {n i x : ℕ} {r : Record} → Numbered (wire_read bytes unit raise) n numbers i → i < n → r ≡ record_in bytes (place_of unit i) →
    x ≡ number_of (wire_record (raised raise (wire_of r))) → Numbered (wire_read bytes unit raise) n (set numbers i x) (i + 1)
wire_stored bytes unit raise s h e f = numbers_turn s h (f ∙ ap (λ (r : Record). number_of (wire_record (raised raise (wire_of r)))) e)

pub numbers_all : {f : ℕ → ℕ} {n i : ℕ} {numbers : List ℕ} → Numbered f n numbers i → i ≡ n → numbers ≡ map f (range 0 n)
numbers_all {f} {n} {i} {numbers} s e = let l = s.long in sym (take_all n numbers (omega arith)) ∙ rw e at s.first

-- two lists, one lent behind the other: the first so many are both
pub both_taken : (f g : ℕ → ℕ) (n k count : ℕ) (numbers : List ℕ) {a b : List ℕ} → count ≡ n + k → a ≡ map f (range 0 n) → b ≡ map g (range 0 k) →
    take count (put_mid n (count - n) (a ++ drop n numbers) b) ≡ map f (range 0 n) ++ map g (range 0 k)
both_taken f g n k count numbers {a} {b} e p q =
    let u = ap length p ∙ (length-map (range 0 n) f ∙ length_range 0 n) in
    let v = ap length q ∙ (length-map (range 0 k) g ∙ length_range 0 k) in
    let l = length-append a (drop n numbers) in
    take-put_mid n (count - n) (a ++ drop n numbers) b count (omega arith) (omega arith) ∙ ((λ j. take_at a (drop n numbers) n (omega arith) j ++ b) ∙ (λ j. p j ++ q j))

pub both_long : (f g : ℕ → ℕ) (n k : ℕ) → length (map f (range 0 n) ++ map g (range 0 k)) ≡ n + k
both_long f g n k =
    let a = length-map (range 0 n) f ∙ length_range 0 n in
    let b = length-map (range 0 k) g ∙ length_range 0 k in
    length-append (map f (range 0 n)) (map g (range 0 k)) ∙ (omega arith)

-- the records that are written of the blocks, and of the wires, of both
module _ (first second : List ℕ) (small : Bytes first) (small₂ : Bytes second) (n k : ℕ) where
  pub both_block_records : BlocksRead first n → BlocksRead second k → map record_of (map (block_read first) (range 0 n) ++ map (block_read second) (range 0 k)) ≡ map block_record ((unbytes first).blocks ++ (unbytes second).blocks)
  both_block_records r s =
      let a = block_records_read first small n r in
      let b = block_records_read second small₂ k s in
      map-append record_of (map (block_read first) (range 0 n)) (map (block_read second) (range 0 k)) ∙ ((λ j. a j ++ b j) ∙ sym (map-append block_record (unbytes first).blocks (unbytes second).blocks))

  pub both_wire_records : (unit unit₂ raise : ℕ) → WiresRead first unit n → WiresRead second unit₂ k → RaisedFit second unit₂ k raise →
      map record_of (map (wire_read first unit 0) (range 0 n) ++ map (wire_read second unit₂ raise) (range 0 k)) ≡ map wire_record ((unbytes first).wires ++ map (raised raise) (unbytes second).wires)
  both_wire_records unit unit₂ raise r s fit =
      let a = wire_records_read first small unit n 0 r (unraised_fit first small unit n) ∙ ap (map wire_record) (map_unraised (unbytes first).wires) in
      let b = wire_records_read second small₂ unit₂ k raise s fit in
      map-append record_of (map (wire_read first unit 0) (range 0 n)) (map (wire_read second unit₂ raise) (range 0 k))
      ∙ ((λ j. a j ++ b j) ∙ sym (map-append wire_record (unbytes first).wires (map (raised raise) (unbytes second).wires)))

-- The result of two laid files.

abbrev pub both_laid : (one two : File) → BothLaid one.bytes.now two.bytes.now one.shape.blocks one.shape.wires two.shape.blocks two.shape.wires
both_laid one two = record { one = one.laid; two = two.laid }

-- a file that is laid has so many blocks and wires, each read where it stands
laid_from : (bytes : List ℕ) (n k : ℕ) → is_whole bytes ≡ true → is_laid bytes ≡ true → n ≡ length (unbytes bytes).blocks → k ≡ length (unbytes bytes).wires → Laid bytes n k
unfolding is_laid
laid_from bytes n k w e p q =
    let both = and_parts (units_right (unit_list bytes)) (view_right (unbytes bytes)) e in
    record {
      whole = w;
      answer = e;
      blocks_are = blocks_read bytes both.0 n p;
      wires_are = wires_read bytes both.0 (units_for n) k (ap units_for p) q;
      sound = both.1;
    }

module _ {first second : List ℕ} {blocks wires blocks₂ wires₂ : ℕ} (l : BothLaid first second blocks wires blocks₂ wires₂) where
  abbrev result : List ℕ
  result = merged_file first second

  abbrev v : View
  v = unbytes first

  abbrev w : View
  w = unbytes second

  one_sound : Sound v
  one_sound = laid_sound first l.one.answer

  two_sound : Sound w
  two_sound = laid_sound second l.two.answer

  blocks_many : length v.blocks ≡ blocks
  blocks_many = (l.one.blocks_are).many

  appended : merged_view v w ≡ record { blocks = v.blocks ++ w.blocks; wires = v.wires ++ map (raised blocks) w.wires }
  appended =
      let e = blocks_many in
      merged_appends one_sound two_sound ∙ (λ j. record { blocks = v.blocks ++ w.blocks; wires = v.wires ++ map (raised (e j)) w.wires })

  counts : (length (merged_view v w).blocks ≡ blocks + blocks₂) × (length (merged_view v w).wires ≡ wires + wires₂)
  counts =
      let a = blocks_many in
      let b = (l.two.blocks_are).many in
      let c = (l.one.wires_are).many in
      let d = (l.two.wires_are).many in
      let e = length-append v.blocks w.blocks in
      let f = length-append v.wires (map (raised blocks) w.wires) in
      let g = length-map w.wires (raised blocks) in
      let p = ap (λ (u : View). length u.blocks) appended in
      let q = ap (λ (u : View). length u.wires) appended in
      (omega arith, omega arith)

  pub result_length : length (merged_file first second) ≡ file_length (blocks + blocks₂) (wires + wires₂)
  unfolding merged_file
  result_length = let c = counts in file_length_lem (merged_view v w) ∙ (λ j. file_length (c.0 j) (c.1 j))

  -- the units of both kinds laid one behind the other are the result
  pub both_put : (buffer buffer₁ buffer₂ : List ℕ) (at : ℕ) → at ≡ 512 * units_for (blocks + blocks₂) →
      buffer₁ ≡ sets buffer 0 (units_of 1 (map block_record ((unbytes first).blocks ++ (unbytes second).blocks))) →
      buffer₂ ≡ sets buffer₁ at (units_of 2 (map wire_record ((unbytes first).wires ++ map (raised blocks) (unbytes second).wires))) → buffer₂ ≡ sets buffer 0 (merged_file first second)
  unfolding merged_file bytes_of units_of
  both_put buffer buffer₁ buffer₂ at is_at e₁ e₂ =
      let records = map block_record (v.blocks ++ w.blocks) in
      let a = units_of 1 records in
      let b = units_of 2 (map wire_record (v.wires ++ map (raised blocks) w.wires)) in
      let n : length records ≡ blocks + blocks₂ = length-map (v.blocks ++ w.blocks) block_record ∙ (ap (λ (u : View). length u.blocks) (sym appended) ∙ counts.0) in
      let long : at ≡ 0 + length a = is_at ∙ (ap (λ (k : ℕ). 512 * units_for k) (sym n) ∙ (sym (units_length 1 (units_for (length records)) records) ∙ (omega arith))) in
      e₂ ∙ ((λ j. sets (e₁ j) (long j) b) ∙ (sets_append buffer 0 a b ∙ ap (λ (u : View). sets buffer 0 (bytes_of u)) (sym appended)))

  module _ (few : BothFew blocks wires blocks₂ wires₂) where
    -- so few records fit the longest result
    pub result_fits_longest : length (merged_file first second) ≤ 41984
    unfolding file_length units_for
    result_fits_longest =
        let e = result_length in
        let a = few.one in
        let b = few.two in
        let c = few.wires_few in
        omega arith

    -- the second's ranks, raised, fit their fields
    pub raised_fit : RaisedFit second (units_for blocks₂) wires₂ blocks
    raised_fit i h =
        let r = l.two.wires_are in
        let m = r.many in
        let n = (l.two.blocks_are).many in
        let a = few.one in
        let b = few.two in
        let x = get_or w.wires i no_wire in
        let there : Member x w.wires = at_member w.wires i x (at_get w.wires i no_wire (omega arith)) in
        let e = r.each i h in
        let p = two_sound.source x there in
        let q = two_sound.target x there in
        let s = ap (λ (y : RankWire). y.source) e in
        let t = ap (λ (y : RankWire). y.target) e in
        (omega arith, omega arith)

    module _ (small : Bytes first) (small₂ : Bytes second) where
      fits : ViewFits (merged_view v w)
      fits =
          let a = few.one in
          let b = few.two in
          let c = blocks_many in
          let d = (l.two.blocks_are).many in
          merged_fits one_sound two_sound (said_fits first small) (said_fits second small₂) (omega arith)

      pub result_laid : Laid (merged_file first second) (blocks + blocks₂) (wires + wires₂)
      unfolding merged_file
      result_laid =
          let written = written_laid (merged_view v w) fits (merged_sound one_sound two_sound) in
          let said = view_read_back (merged_view v w) fits in
          let c = counts in
          laid_from (merged_file first second) (blocks + blocks₂) (wires + wires₂) written.0 written.1 (sym (ap (λ (u : View). length u.blocks) said ∙ c.0))
          (sym (ap (λ (u : View). length u.wires) said ∙ c.1))

-- Loading.

pub both_few : {first second : List ℕ} {blocks wires blocks₂ wires₂ : ℕ} → BothLaid first second blocks wires blocks₂ wires₂ → Ok tt ≡ load_answer One first → Ok tt ≡ load_answer One second →
    BothFew blocks wires blocks₂ wires₂
both_few {first} {second} l e f =
    let a = loaded_few One first (sym e) in
    let b = loaded_few One second (sym f) in
    let n = (l.one.blocks_are).many in
    let k = (l.two.blocks_are).many in
    let p = (l.one.wires_are).many in
    let q = (l.two.wires_are).many in
    record { one = omega arith; two = omega arith; wires_few = omega arith }

-- The answers in their order.

layout_right : {bytes : List ℕ} {blocks wires : ℕ} → Laid bytes blocks wires → layout_answer bytes ≡ Ok tt
unfolding layout_answer
layout_right l = let w = l.whole in let a = l.answer in rw (w, a) refl

module _ (first second buffer : List ℕ) where
  -- answer and buffer together
  pub merge_done : {r : Result ℕ MergeError} {after : List ℕ} → r ≡ merge_answer first second buffer → after ≡ buffer_if r (merged_file first second) buffer →
      (r ≡ merge_answer first second buffer) × (after ≡ merge_buffer first second buffer)
  unfolding merge_buffer
  merge_done e f = (e, f ∙ ap (λ (x : Result ℕ MergeError). buffer_if x (merged_file first second) buffer) e)

  -- a refusal with the buffer as it was
  refused : {r : MergeError} (a : Result ℕ MergeError) → IsErrAnd a (λ t. t ≡ r) → merge_answer first second buffer ≡ Err r → (a ≡ merge_answer first second buffer) × (buffer ≡ merge_buffer first second buffer)
  refused (Ok n) e f = absurd e
  refused (Err t) e f = merge_done (ap (λ (x : MergeError). Err x) e ∙ sym f) refl

  pub second_unlaid : {blocks wires : ℕ} → Laid first blocks wires → {r : LoadError} {a : Result ℕ MergeError} → layout_answer second ≡ Err r → IsErrAnd a (λ t. t ≡ Load r) →
      (a ≡ merge_answer first second buffer) × (buffer ≡ merge_buffer first second buffer)
  unfolding merge_answer
  second_unlaid l h e = let x = layout_right l in refused _ e (rw (x, h) refl)

  module _ {blocks wires blocks₂ wires₂ : ℕ} (l : BothLaid first second blocks wires blocks₂ wires₂) where
    -- the loads of the first, the second and the result, and writing
    pub first_unloaded : {r : LoadError} {a : Result ℕ MergeError} → Err r ≡ load_answer One first → IsErrAnd a (λ t. t ≡ Load r) →
        (a ≡ merge_answer first second buffer) × (buffer ≡ merge_buffer first second buffer)
    unfolding merge_answer
    first_unloaded h e = let x = layout_right l.one in let y = layout_right l.two in refused _ e (rw (x, y, ← h) refl)

    module _ (one : Ok tt ≡ load_answer One first) where
      pub second_unloaded : {r : LoadError} {a : Result ℕ MergeError} → Err r ≡ load_answer One second → IsErrAnd a (λ t. t ≡ Load r) →
          (a ≡ merge_answer first second buffer) × (buffer ≡ merge_buffer first second buffer)
      unfolding merge_answer
      second_unloaded h e = let x = layout_right l.one in let y = layout_right l.two in refused _ e (rw (x, y, ← one, ← h) refl)

      module _ (two : Ok tt ≡ load_answer One second) where
        pub result_unloaded : {r : LoadError} {a : Result ℕ MergeError} → Err r ≡ load_answer One (merged_file first second) → IsErrAnd a (λ t. t ≡ Load r) →
            (a ≡ merge_answer first second buffer) × (buffer ≡ merge_buffer first second buffer)
        unfolding merge_answer
        result_unloaded h e = let x = layout_right l.one in let y = layout_right l.two in refused _ e (rw (x, y, ← one, ← two, ← h) refl)

        pub result_written : Ok tt ≡ load_answer One (merged_file first second) → {r : Result ℕ MergeError} {after : List ℕ} → r ≡ result_answer (merged_file first second) buffer →
            after ≡ buffer_if r (merged_file first second) buffer → (r ≡ merge_answer first second buffer) × (after ≡ merge_buffer first second buffer)
        unfolding merge_answer
        result_written h e f = let a = layout_right l.one in let b = layout_right l.two in merge_done (rw (a, b, ← one, ← two, ← h) e) f

-- Writing.

module _ (result buffer : List ℕ) (size : ℕ) (sized : size ≡ length result) where
  pub result_put : size ≤ length buffer → {after : List ℕ} → after ≡ sets buffer 0 result → (Ok size ≡ result_answer result buffer) × (after ≡ buffer_if (Ok size) result buffer)
  unfolding result_answer list_after
  result_put h e =
      let t = le-leb (length result) (length buffer) (omega arith) in
      let y : 0 + length result ≡ length result = omega arith in
      (rw t (ap Ok sized), rw t (e ∙ (sets-eq result buffer 0 (omega arith) ∙ ap (λ (k : ℕ). result ++ drop k buffer) y)))
