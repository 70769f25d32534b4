-- What the functions that hold the wires of a file against its blocks cite.
use Rattle.std.specs.List.{list_all}
use Rattle.std.specs.Prelude.{◌≡◌, refl, Bool, true, false, not, ◌&&◌, List, [], ◌∷◌, ℕ, suc, ◌+◌, ◌*◌, ◌/◌, ◌%◌, ◌≤◌, ◌<◌, ltb, length, get_or, drop}
use Rattle.std.proofs.Math.Path.{sym, ap}
use Rattle.std.proofs.Common.{◌∙◌, inl, inr, drop-cons, get_or-drop}
use Rattle.std.proofs.Math.Bool.{and_assoc}
use native.Mathlib.Omega.{arith}
use Rattle.std.proofs.Math.Dec.{leb}
use Rattle.std.proofs.Math.ListN.{drop_of_length-le}
use borrow.Author.Tests.{ltb-true, ltb-false, le-leb, lt-leb}
use Rattle.port_tables.specs.Listing.{map_member}
use Rattle.files.specs.View.{BlockPorts, RankWire, View}
use Rattle.files.specs.Layout.{Record, field_at, units_for, block_of, wire_of, wire_record, record_at, unbytes, FieldsFit}
use Rattle.files.specs.Loading.{unit_list, order_right, ranks_right, positions_right, units_right, view_right}
use Rattle.files.specs.LaidLaws.{block_placed, wire_placed, all_units}
use Rattle.files.specs.SoundLaws.{said_fits}
use Rattle.files.specs.Forms.{number_of, wire_number}
use Rattle.files.specs.SortSteps.{number_order, WiresSmall}
use Rattle.files.specs.LoadForms.{place_of, record_in, no_wire, BlocksRead, WiresRead, wire_fits, wires_fit}
use Rattle.files.specs.CheckSteps.{and_three}

-- Records where they stand.

record_there : (bytes : List ℕ) (at : ℕ) → record_at (drop at bytes) ≡ record_in bytes at
unfolding record_at field_at
record_there bytes at =
    let g : (k n : ℕ) → at + k ≡ n → get_or (drop at bytes) k 0 ≡ get_or bytes n 0 = λ k n e. get_or-drop at bytes k 0 ∙ ap (λ (m : ℕ). get_or bytes m 0) e in
    let a₀ = g 0 at (omega arith) in
    let a₁ = g (0 + 1) (at + 1) (omega arith) in
    let b₀ = g 2 (at + 2) (omega arith) in
    let b₁ = g (2 + 1) (at + 2 + 1) (omega arith) in
    let c₀ = g 4 (at + 4) (omega arith) in
    let c₁ = g (4 + 1) (at + 4 + 1) (omega arith) in
    let d₀ = g 6 (at + 6) (omega arith) in
    let d₁ = g (6 + 1) (at + 6 + 1) (omega arith) in
    λ j. record { a = a₀ j + 256 * a₁ j; b = b₀ j + 256 * b₁ j; c = c₀ j + 256 * c₁ j; d = d₀ j + 256 * d₁ j }

module _ (bytes : List ℕ) (right : units_right (unit_list bytes) ≡ true) where
  -- the units of blocks and wires are the file
  units_there : 512 * (units_for (length (unbytes bytes).blocks) + units_for (length (unbytes bytes).wires)) ≤ length bytes
  units_there = let e = all_units bytes right in omega arith

  pub blocks_read : (n : ℕ) → n ≡ length (unbytes bytes).blocks → BlocksRead bytes n
  unfolding units_for
  blocks_read n e =
      record {
        many = sym e;
        each = λ i h.
            let z : 512 * (i / 63) + 4 + 8 * (i % 63) ≡ place_of 0 i = omega arith in
            block_placed bytes right i (record { incoming = 0; outgoing = 0 }) (omega arith) ∙ ap block_of (ap (λ (p : ℕ). record_at (drop p bytes)) z ∙ record_there bytes (place_of 0 i));
        there = λ i h. let u = units_there in omega arith;
      }

  pub wires_read : (u n : ℕ) → u ≡ units_for (length (unbytes bytes).blocks) → n ≡ length (unbytes bytes).wires → WiresRead bytes u n
  unfolding units_for
  wires_read u n f e =
      record {
        many = sym e;
        each = λ i h.
            let z : 512 * (units_for (length (unbytes bytes).blocks) + i / 63) + 4 + 8 * (i % 63) ≡ place_of u i = omega arith in
            wire_placed bytes right i no_wire (omega arith) ∙ ap wire_of (ap (λ (p : ℕ). record_at (drop p bytes)) z ∙ record_there bytes (place_of u i));
        there = λ i h. let u = units_there in omega arith;
      }

-- A wire.

module _ (bytes : List ℕ) (blocks : ℕ) (r : Record) (read : BlocksRead bytes blocks) where
  abbrev all : List BlockPorts
  all = (unbytes bytes).blocks

-- Wires one after the other.

rises : ℕ → List RankWire → Bool
rises n [] = true
rises n (w ∷ l) = leb n (wire_number w) && rises (wire_number w) l

not_below : (a b : ℕ) → not (ltb a b) ≡ leb b a
not_below a b = go (ltb a b) refl
  where
    go : (t : Bool) → ltb a b ≡ t → not t ≡ leb b a
    go true e = sym (lt-leb b a (ltb-true a b e))
    go false e = sym (le-leb b a (ltb-false a b e))

order_from : (w : RankWire) (l : List RankWire) → FieldsFit (wire_record w) → WiresSmall l → order_right (w ∷ l) ≡ rises (wire_number w) l
unfolding order_right rises
order_from w [] f g = refl
order_from w (v ∷ l) f g =
    let a = ap not (number_order v w (g v (inl refl)) f) ∙ not_below (wire_number v) (wire_number w) in
    let b = order_from v l (g v (inl refl)) (λ u i. g u (inr i)) in
    λ j. a j && b j

order_as : (l : List RankWire) → WiresSmall l → order_right l ≡ rises 0 l
unfolding order_right rises
order_as [] g = refl
order_as (w ∷ l) g = order_from w l (g w (inl refl)) (λ u i. g u (inr i)) ∙ sym (rw (le-leb 0 (wire_number w) (omega arith)) refl)

wires_as : (blocks : List BlockPorts) (n : ℕ) (l : List RankWire) → wires_fit blocks n l ≡ (rises n l && (list_all (ranks_right blocks) l && list_all (positions_right blocks) l))
unfolding wires_fit rises wire_fits
wires_as blocks n [] = refl
wires_as blocks n (w ∷ l) =
    let r = ranks_right blocks w in
    let p = positions_right blocks w in
    ap (λ (b : Bool). leb n (wire_number w) && ((r && p) && b)) (wires_as blocks (wire_number w) l)
    ∙ (sym (and_assoc (leb n (wire_number w)) (r && p) _)
    ∙ sym (and_three (leb n (wire_number w)) r p (rises (wire_number w) l) (list_all (ranks_right blocks) l) (list_all (positions_right blocks) l)))

view_as : (v : View) → WiresSmall v.wires → wires_fit v.blocks 0 v.wires ≡ view_right v
unfolding view_right
view_as v g = wires_as v.blocks 0 v.wires ∙ ap (λ (b : Bool). b && (list_all (ranks_right v.blocks) v.wires && list_all (positions_right v.blocks) v.wires)) (sym (order_as v.wires g))

wires_small : (bytes : List ℕ) → ((k : ℕ) → get_or bytes k 0 < 256) → WiresSmall (unbytes bytes).wires
wires_small bytes h w k = (said_fits bytes h).1 (wire_record w) (map_member wire_record w (unbytes bytes).wires k)

-- The loop.

pub record Wiring (bytes : List ℕ) (unit wires before i : ℕ) : Type 0 where
  pub inside : i ≤ wires
  pub rest : wires_fit (unbytes bytes).blocks before (drop i (unbytes bytes).wires) ≡ view_right (unbytes bytes)

pub wires_begin : (bytes : List ℕ) (u n : ℕ) → ((k : ℕ) → get_or bytes k 0 < 256) → WiresRead bytes u n → Wiring bytes u n 0 0
wires_begin bytes u n h r = record { inside = omega arith; rest = view_as (unbytes bytes) (wires_small bytes h) }

module _ {bytes : List ℕ} {u n before i : ℕ} (r : WiresRead bytes u n) (w : Wiring bytes u n before i) where
  pub wires_end : n ≤ i → true ≡ view_right (unbytes bytes)
  unfolding wires_fit
  wires_end h =
      let m = r.many in
      let e = drop_of_length-le (unbytes bytes).wires {i = i} (omega arith) in
      sym (ap (wires_fit (unbytes bytes).blocks before) e) ∙ w.rest

  module _ (h : i < n) where
    module _ {unit at number : ℕ} {one : Record} (is_unit : unit ≡ u) (is_at : at ≡ place_of unit i) (is_one : one ≡ record_in bytes at) (is_number : number ≡ number_of one) where
      abbrev next : RankWire
      next = wire_of one

      rest_on : drop i (unbytes bytes).wires ≡ next ∷ drop (suc i) (unbytes bytes).wires
      rest_on =
          let m = r.many in
          drop-cons (unbytes bytes).wires i no_wire (omega arith)
          ∙ ap (λ (v : RankWire). v ∷ drop (suc i) (unbytes bytes).wires) (r.each i h ∙ (ap (λ (p : ℕ). wire_of (record_in bytes p)) (sym (is_at ∙ ap (λ (v : ℕ). place_of v i) is_unit)) ∙ ap wire_of (sym is_one)))

      fit_on : wires_fit (unbytes bytes).blocks before (drop i (unbytes bytes).wires)
          ≡ (leb before number && (wire_fits (unbytes bytes).blocks next && wires_fit (unbytes bytes).blocks number (drop (suc i) (unbytes bytes).wires)))
      unfolding wires_fit
      fit_on =
          ap (wires_fit (unbytes bytes).blocks before) rest_on
          ∙ (λ j. leb before (sym is_number j) && (wire_fits (unbytes bytes).blocks next && wires_fit (unbytes bytes).blocks (sym is_number j) (drop (suc i) (unbytes bytes).wires)))

      pub order_wrong : number < before → false ≡ view_right (unbytes bytes)
      order_wrong k = sym (fit_on ∙ rw (lt-leb before number k) refl) ∙ w.rest

      module _ (k : before ≤ number) {t : Bool} (tested : t ≡ wire_fits (unbytes bytes).blocks next) where
        pub wire_wrong : t ≡ false → false ≡ view_right (unbytes bytes)
        wire_wrong e = sym (fit_on ∙ rw (le-leb before number k, ← tested, e) refl) ∙ w.rest

        pub wire_next : t ≡ true → Wiring bytes u n number (i + 1)
        wire_next e =
            let s : i + 1 ≡ suc i = omega arith in
            record {
              inside = omega arith;
              rest =
                  ap (λ (m : ℕ). wires_fit (unbytes bytes).blocks number (drop m (unbytes bytes).wires)) s
                  ∙ (sym (fit_on ∙ rw (le-leb before number k, ← tested, e) refl) ∙ w.rest);
            }
