-- A step of each walk over the tables.
use Rattle.std.specs.Prelude.{◌≡◌, refl, Bool, true, false, cond, List, ◌∷◌, eqb, leb, Option, Some, None}
use Rattle.std.proofs.Common.{sym, ◌∙◌, inl, inr}
use Rattle.std.proofs.Math.Path.{ap}
use Prim.Native.Nat.{ℕ, zero, suc, ◌+◌, ◌-◌, ◌≤◌, ◌<◌, min, max}
use native.Mathlib.Omega.{arith}
use Rattle.std.proofs.Math.Numerals.{add-one}
use borrow.Author.Tests.{eqb-true, eqb-false, leb-true, leb-false, lt-leb, le-ltb}
use Rattle.port_tables.specs.Lists.{Member}
use Rattle.port_tables.specs.Listing.{map_member}
use Rattle.sketches.specs.Plan.{Plan, ports_on_side, subports_of, end#}
use Rattle.sketches.specs.PlanLists.{port_on}
use Rattle.sketches.specs.PlanWf.{most_subports}
use Rattle.sketches.specs.Rows.{row_at, rows_in, wire_of, place_in, hits, past, newest_hit, oldest_hit}
use Rattle.sketches.specs.Held.{Held, held_in}
use Rattle.port_tables.specs.Places.{Place}
use Rattle.sketches.specs.declared.tests.RowEnd.{RowEnd}
use Rattle.sketches.specs.SketchTables.{Totals, SketchWf}
use Rattle.sketches.specs.declared.rows.Row.{Row}
use Rattle.sketches.specs.declared.tests.Walk.{Walk}
use Rattle.sketches.specs.declared.walks.SketchWire.{SketchWire}
use Rattle.sketches.specs.declared.walks.SubportWalk.{SubportWalk}
use Rattle.sketches.specs.SketchWalks.{wire_held, wire_below, wire_above, next_wire, previous_wire, block_below, next_block, offset_count, Knows, next_subport}

pub newest_high : (f : Row → Bool) (t : List Row) (low n : ℕ) → newest_hit f t low n ≤ n
unfolding newest_hit
newest_high f t low zero = omega arith
newest_high f t low (suc n) = go (leb low n) (f (row_at t n)) (newest_high f t low n)
  where
    go : (a b : Bool) → newest_hit f t low n ≤ n → cond a (cond b (suc n) (newest_hit f t low n)) 0 ≤ suc n
    go true true h = omega arith
    go true false h = omega arith
    go false b h = omega arith

pub oldest_high : (f : Row → Bool) (t : List Row) (i n : ℕ) → oldest_hit f t i n ≤ i + n
unfolding oldest_hit
oldest_high f t i zero = omega arith
oldest_high f t i (suc n) = go (f (row_at t i)) (oldest_high f t (suc i) n)
  where
    go : (b : Bool) → oldest_hit f t (suc i) n ≤ suc i + n → cond b (suc i) (oldest_hit f t (suc i) n) ≤ i + suc n
    go true h = omega arith
    go false h = omega arith

no_rows : (f : Row → Bool) (t : List Row) (i n : ℕ) → n ≡ 0 → oldest_hit f t i n ≡ 0
unfolding oldest_hit
no_rows f t i n c = rw c

row_among : (t : List Row) (n i : ℕ) → i < n → Member (row_at t i) (rows_in t n)
unfolding rows_in
row_among t zero i h = absurd (omega arith)
row_among t (suc n) i h = go (eqb i n) refl (row_among t n i)
  where
    go : (b : Bool) → eqb i n ≡ b → (i < n → Member (row_at t i) (rows_in t n)) → Member (row_at t i) (row_at t n ∷ rows_in t n)
    go true e rest = inl (ap (row_at t) (eqb-true i n e))
    go false e rest = let d = eqb-false i n e in inr (rest (omega (arith, d)))

-- the ends of a row in use have offsets that fit
module _ {b s w : List Row} {h : Totals} {k : Held} (v : held_in b s w h ≡ k) (wf : SketchWf b s w h) {i : ℕ} (l : i < k.totals.wires) where
  row_offsets : ((wire_of (row_at w i)).out.offset < most_subports) × ((wire_of (row_at w i)).into.offset < most_subports)
  row_offsets =
      let e = ap (λ (k : Held). k.totals.wires) v in
      wf.plan.offsets (wire_of (row_at w i)) (map_member wire_of (row_at w i) (rows_in w h.wires) (row_among w h.wires i (omega arith)))

  pub out_offset : (x : RowEnd) → place_in x ≡ (wire_of (row_at w i)).out → x.offset < most_subports
  out_offset x p = let r = row_offsets.0 in let e = ap (λ (y : Place). y.offset) p in omega arith

  pub in_offset : (x : RowEnd) → place_in x ≡ (wire_of (row_at w i)).into → x.offset < most_subports
  in_offset x p = let r = row_offsets.1 in let e = ap (λ (y : Place). y.offset) p in omega arith

module _ (t : List Row) (n : ℕ) (w : Walk) (k : Option ℕ) where
  module _ (e : past k ≡ newest_hit (hits w.test) t w.low (min w.high n)) where
    pub next_ends : k ≡ None → None ≡ next_wire t n w
    unfolding next_wire
    next_ends z = ap (wire_below t w) (sym (ap past z) ∙ e)

    module _ {i : ℕ} (z : k ≡ Some i) where
      pub next_within : i < n
      next_within = let s : suc i ≡ newest_hit (hits w.test) t w.low (min w.high n) = sym (ap past z) ∙ e in let h = newest_high (hits w.test) t w.low (min w.high n) in omega arith

      pub next_gives : {x : SketchWire} → x ≡ wire_held (wire_of (row_at t i)) → Some (x, record { low = w.low; high = i; test = w.test }) ≡ next_wire t n w
      unfolding next_wire
      next_gives {x} q =
          ap (λ (y : SketchWire). Some (y, record { low = w.low; high = i; test = w.test })) q ∙ ap (wire_below t w) (sym (ap past z) ∙ e)

  -- of any table and any number, as many rows as it has are looked through
  module _ {c : ℕ} (m : c ≡ min n 3072) (e : past k ≡ newest_hit (hits w.test) t w.low (min w.high c)) where
    same_block : past k ≡ newest_hit (hits w.test) t w.low (min w.high (min n 3072))
    same_block = e ∙ ap (λ (x : ℕ). newest_hit (hits w.test) t w.low (min w.high x)) m

    pub block_within : {i : ℕ} → k ≡ Some i → i < 3072
    block_within {i} z =
        let s : suc i ≡ newest_hit (hits w.test) t w.low (min w.high (min n 3072)) = sym (ap past z) ∙ same_block in
        let h = newest_high (hits w.test) t w.low (min w.high (min n 3072)) in
        omega arith

    pub block_ends : k ≡ None → None ≡ next_block t n w
    unfolding next_block
    block_ends z = ap (block_below t w) (sym (ap past z) ∙ same_block)

    pub block_gives : {i : ℕ} → k ≡ Some i → Some ((row_at t i).0, record { low = w.low; high = i; test = w.test }) ≡ next_block t n w
    unfolding next_block
    block_gives z = ap (block_below t w) (sym (ap past z) ∙ same_block)

  module _ (e : past k ≡ oldest_hit (hits w.test) t w.low (min w.high n - w.low)) where
    pub previous_ends : k ≡ None → None ≡ previous_wire t n w
    unfolding previous_wire
    previous_ends z = ap (wire_above t w) (sym (ap past z) ∙ e)

    module _ {i : ℕ} (z : k ≡ Some i) where
      found_back : suc i ≡ oldest_hit (hits w.test) t w.low (min w.high n - w.low)
      found_back = sym (ap past z) ∙ e

      pub previous_within : i < n
      previous_within = go (leb w.low (min w.high n)) refl
        where
          go : (b : Bool) → leb w.low (min w.high n) ≡ b → i < n
          go true l = let a = leb-true w.low (min w.high n) l in let h = oldest_high (hits w.test) t w.low (min w.high n - w.low) in let f = found_back in omega arith
          go false l =
              let a = leb-false w.low (min w.high n) l in
              let c : min w.high n - w.low ≡ 0 = omega arith in
              let f : suc i ≡ 0 = found_back ∙ no_rows (hits w.test) t w.low (min w.high n - w.low) c in
              absurd (omega arith)

      pub previous_gives : {x : SketchWire} → x ≡ wire_held (wire_of (row_at t i)) → Some (x, record { low = i + 1; high = w.high; test = w.test }) ≡ previous_wire t n w
      unfolding previous_wire
      previous_gives {x} q =
          ap (λ (y : SketchWire). Some (y, record { low = i + 1; high = w.high; test = w.test })) q
          ∙ ap (λ (j : ℕ). Some (wire_held (wire_of (row_at t i)), record { low = j; high = w.high; test = w.test })) (add-one i) ∙ ap (wire_above t w) (sym (ap past z) ∙ e)

-- Subports.

pub one_or_more : (c : ℕ) → max c 1 ≡ offset_count c
one_or_more c = go (eqb c 0) refl
  where
    go : (b : Bool) → eqb c 0 ≡ b → max c 1 ≡ cond b 1 c
    go true t = let z = eqb-true c 0 t in omega arith
    go false t = let z = eqb-false c 0 t in omega (arith, z)

pub subports_on : (K : Plan) (w : SubportWalk) {n : ℕ} → n ≡ ports_on_side K.blocks w.port.block w.port.side → w.port.position < n → {c : ℕ} → Knows K w.port c → c ≤ w.offset → w.port.position + 1 < n →
    (Some (end# (port_on w.port.block w.port.side (w.port.position + 1)) 0, record { port = port_on w.port.block w.port.side (w.port.position + 1); offset = 1 })) ≡ next_subport K w
unfolding next_subport
subports_on K w e l k h q =
    let a = k.count in
    rw (
      lt-leb (ports_on_side K.blocks w.port.block w.port.side) w.port.position (omega arith),
      le-ltb w.offset (offset_count (subports_of K w.port)) (omega arith),
      lt-leb (ports_on_side K.blocks w.port.block w.port.side) (suc w.port.position) (omega arith),
      add-one w.port.position,
    )
