-- The tests of a view say that it is sound, and what a file says fits its fields.
use Rattle.std.specs.List.{list_all}
use Rattle.std.specs.Prelude.{◌≡◌, refl, Bool, true, false, not, ◌&&◌, List, [], ◌∷◌, ◌++◌, map, ℕ, zero, suc, ◌/◌, eqb, ltb, length, drop}
use Rattle.std.proofs.Common.{sym, ap, ◌∙◌, subst, inl, inr, ⊎_elim, arith, ltb-true, lt-ltb}
use Rattle.std.proofs.lemmas.Bool.{and_parts, not-true}
use Rattle.port_tables.specs.Lists.{Member, Rising}
use Rattle.port_tables.specs.Listing.{member_append, member_map, map_member}
use Rattle.files.specs.View.{RankWire, View, is_before}
use Rattle.files.specs.Layout.{Record, block_record, wire_record, field_at, block_of, wire_of, record_at, records_at, records_of, with_records, read_units, unbytes, FieldsFit, AllFit, ViewFits}
use Rattle.files.specs.Loading.{block_at, order_right, ranks_right, positions_right, unit_list, units_right, view_right, is_laid}
use Rattle.files.specs.Claims.{AtMost, Sound, Bytes}
use Rattle.files.specs.OrderLaws.{at_most_twice}
use Rattle.files.specs.WrittenLaws.{bytes_after, field_small}

-- Tests of all items.

module _ {A : Type 0} (f : A → Bool) where
  pub every_item : (l : List A) → list_all f l ≡ true → (x : A) → Member x l → f x ≡ true
  every_item [] e x never = absurd never
  every_item (y ∷ l) e x (inl p) = ap f p ∙ (and_parts (f y) (list_all f l) e).0
  every_item (y ∷ l) e x (inr i) = every_item l (and_parts (f y) (list_all f l) e).1 x i

  pub item_every : (l : List A) → ((x : A) → Member x l → f x ≡ true) → list_all f l ≡ true
  item_every [] h = refl
  item_every (y ∷ l) h = rw (h y (inl refl)) (item_every l (λ x i. h x (inr i)))

-- Order.

pub order_rises : (l : List RankWire) → order_right l ≡ true → Rising AtMost l
unfolding order_right
order_rises [] e = tt
order_rises (w ∷ []) e = ((λ y i. absurd i), tt)
order_rises (w ∷ v ∷ l) e =
    let h = and_parts (not (is_before v w)) (order_right (v ∷ l)) e in
    let n : AtMost w v = not-true (is_before v w) h.0 in
    let r = order_rises (v ∷ l) h.1 in
    ((λ y. ⊎_elim (λ p. subst (AtMost w) (sym p) n) (λ i. at_most_twice w v y n (r.0 y i))), r)

pub rises_order : (l : List RankWire) → Rising AtMost l → order_right l ≡ true
unfolding order_right
rises_order [] r = refl
rises_order (w ∷ []) r = refl
rises_order (w ∷ v ∷ l) r = rw (r.0 v (inl refl)) (rises_order (v ∷ l) r.1)

-- The tests of a view.

pub right_sound : (v : View) → view_right v ≡ true → Sound v
unfolding view_right ranks_right positions_right
right_sound v e =
    let wires = v.wires in
    let h = and_parts (order_right wires) (list_all (ranks_right v.blocks) wires && list_all (positions_right v.blocks) wires) e in
    let k = and_parts (list_all (ranks_right v.blocks) wires) (list_all (positions_right v.blocks) wires) h.1 in
    let ranks : (w : RankWire) → Member w wires → (ltb w.source (length v.blocks) ≡ true) × (ltb w.target (length v.blocks) ≡ true) =
    λ w i. and_parts _ _ (every_item (ranks_right v.blocks) wires k.0 w i) in
    let ports : (w : RankWire) → Member w wires → (ltb w.output (block_at v.blocks w.source).outgoing ≡ true) × (ltb w.input (block_at v.blocks w.target).incoming ≡ true) =
    λ w i. and_parts _ _ (every_item (positions_right v.blocks) wires k.1 w i) in
    record {
      rise = order_rises wires h.0;
      source = λ w i. ltb-true _ _ (ranks w i).0;
      output = λ w i. ltb-true _ _ (ports w i).0;
      target = λ w i. ltb-true _ _ (ranks w i).1;
      input = λ w i. ltb-true _ _ (ports w i).1;
    }

pub sound_right : (v : View) → Sound v → view_right v ≡ true
unfolding view_right ranks_right positions_right
sound_right v s =
    let wires = v.wires in
    let a = rises_order wires s.rise in
    let b = item_every (ranks_right v.blocks) wires (λ w i. let p = lt-ltb _ _ (s.source w i) in let q = lt-ltb _ _ (s.target w i) in λ j. p j && q j) in
    let c = item_every (positions_right v.blocks) wires (λ w i. let p = lt-ltb _ _ (s.output w i) in let q = lt-ltb _ _ (s.input w i) in λ j. p j && q j) in
    λ j. a j && (b j && c j)

-- a laid file says a sound view
pub laid_sound : (b : List ℕ) → is_laid b ≡ true → Sound (unbytes b)
unfolding is_laid
laid_sound b e = right_sound (unbytes b) (and_parts (units_right (unit_list b)) (view_right (unbytes b)) e).1

-- Fields.

record_fits : (bytes : List ℕ) → Bytes bytes → FieldsFit (record_at bytes)
unfolding record_at
record_fits bytes b = record { a = field_small bytes b 0; b = field_small bytes b 2; c = field_small bytes b 4; d = field_small bytes b 6 }

records_fit : (n : ℕ) (bytes : List ℕ) → Bytes bytes → AllFit (records_at n bytes)
unfolding records_at
records_fit zero bytes b r i = absurd i
records_fit (suc n) bytes b r (inl p) = subst FieldsFit (sym p) (record_fits bytes b)
records_fit (suc n) bytes b r (inr i) = records_fit n (drop 8 bytes) (bytes_after bytes 8 b) r i

with_fits : (t : Bool) (records : List Record) (v : View) → AllFit records → ViewFits v → ViewFits (with_records t records v)
with_fits true records v f h = (
  (λ r i. let g = member_map block_record r (map block_of records ++ v.blocks) i in
      ⊎_elim (λ j. let k = member_map block_of g.0 records j in let e = g.2 ∙ ap block_record k.2 in let q = f k.0 k.1 in
      subst FieldsFit (sym e) (record { a = q.a; b = q.b; c = omega arith; d = omega arith }))
      (λ j. subst FieldsFit (sym g.2) (h.0 (block_record g.0) (map_member block_record g.0 v.blocks j)))
      (member_append g.0 (map block_of records) v.blocks g.1)),
  h.1,
)
with_fits false records v f h = (
  h.0,
  (λ r i. let g = member_map wire_record r (map wire_of records ++ v.wires) i in
      ⊎_elim (λ j. let k = member_map wire_of g.0 records j in let e = g.2 ∙ ap wire_record k.2 in subst FieldsFit (sym e) (f k.0 k.1))
      (λ j. subst FieldsFit (sym g.2) (h.1 (wire_record g.0) (map_member wire_record g.0 v.wires j)))
      (member_append g.0 (map wire_of records) v.wires g.1)),
)

read_fits : (n : ℕ) (bytes : List ℕ) → Bytes bytes → ViewFits (read_units n bytes)
unfolding read_units records_of
read_fits zero bytes b = ((λ r i. absurd i), (λ r i. absurd i))
read_fits (suc n) bytes b =
    with_fits (eqb (field_at bytes 0) 1) (records_at (field_at bytes 2) (drop 4 bytes)) (read_units n (drop 512 bytes))
    (records_fit (field_at bytes 2) (drop 4 bytes) (bytes_after bytes 4 b)) (read_fits n (drop 512 bytes) (bytes_after bytes 512 b))

-- what bytes say fits fields, whatever they are
pub said_fits : (b : List ℕ) → Bytes b → ViewFits (unbytes b)
unfolding unbytes
said_fits b h = read_fits (length b / 512) b h
