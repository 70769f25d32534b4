-- The number of subports of a port over the table of split ports.
use Rattle.std.proofs.lemmas.List.{length-map}
use Rattle.std.specs.Prelude.{◌≡◌, refl, Bool, true, false, cond, not, List, ◌∷◌, map, ℕ, ◌≤◌, ◌<◌, eqb, length}
use Rattle.std.proofs.Common.{sym, ap, ◌∙◌, arith, eq-eqb, ne_eqb}
use Rattle.std.proofs.Math.Path.{subst}
use Rattle.std.specs.List.{filter}
use Rattle.port_tables.specs.Entries.{side_number}
use Rattle.port_tables.specs.declared.direction.Direction.{Direction}
use Rattle.port_tables.specs.declared.direction.Direction.TheVariants.{Incoming, Outgoing}
use Rattle.port_tables.specs.Places.{Place, at_spot}
use Rattle.sketches.specs.Plan.{Plan, with_splits, spot_named, is_there, subports_among, subports_of, set_subports, offset_ready, subports_ready, ready}
use Rattle.sketches.specs.PlanCalls.{most_wires}
use Rattle.sketches.specs.PlanWf.{most_subports, splits_set, splits_fit, subports_wf}
use Rattle.sketches.specs.CallsWf.{offset_within, ready_within, subports_within}
use Rattle.sketches.specs.Rows.{row_slots, Table, rows_in, splits_in, split_of, side_of, missed}
use Rattle.sketches.specs.RowReads.{splits_left}
use Rattle.sketches.specs.Offsets.{length_rows}
use Rattle.sketches.specs.BlockSteps.{tables_wf}
use Rattle.sketches.specs.Held.{Held, held_in, plan_of, back}
use Rattle.sketches.specs.SketchTables.{Totals, plan_in, held_splits, SketchWf}
use Rattle.sketches.specs.declared.rows.Row.{Row}
use Rattle.sketches.specs.declared.sketch.SketchPort.{SketchPort}
use Rattle.sketches.specs.declared.tests.EndTest.TheVariants as ask
use Rattle.sketches.specs.declared.tests.Test.TheVariants as test
use Rattle.sketches.specs.CallParts.{splits_with, SplitsRoom, split_row, IsPlan}

pub length_splits : (t : List Row) (n : ℕ) → length (splits_in t n) ≡ n
length_splits t n = length-map (rows_in t n) split_of ∙ length_rows t n

pub set_is_with : (K : Plan) (p : SketchPort) (c : ℕ) → set_subports K p c ≡ with_splits K (splits_with K.splits p c)
set_is_with K p c = go (eqb (subports_of K p) c)
  where
    go : (b : Bool) → cond b K (with_splits K (splits_set K.splits p c)) ≡ with_splits K (cond b K.splits (splits_set K.splits p c))
    go true = refl
    go false = refl

split_row_is : (p : SketchPort) (c : ℕ) → split_of (split_row p c) ≡ record { node = p.block; side = p.side; pos = p.position; offset = c }
split_row_is p c = ap (λ (d : Direction). record { node = p.block; side = d; pos = p.position; offset = c }) (own p.side)
  where
    own : (d : Direction) → side_of (side_number d) ≡ d
    own Incoming = refl
    own Outgoing = refl

module _ (t : List Row) (n : ℕ) (p : SketchPort) (c : ℕ) where
  module _ {k : ℕ} (e : k ≡ subports_among (splits_in t n) (spot_named p)) (h : k ≡ c → ⊥) (t' : List Row) (kept : ℕ) (d : rows_in t' kept ≡ filter (missed (test.Split (ask.AtPort p))) (rows_in t n)) where
    others : splits_in t' kept ≡ filter (λ s. not (at_spot (spot_named p) s)) (splits_in t n)
    others = ap (map split_of) d ∙ splits_left (ask.AtPort p) (rows_in t n)

    changed : splits_with (splits_in t n) p c ≡ splits_set (splits_in t n) p c
    changed = rw (ne_eqb (subports_among (splits_in t n) (spot_named p)) c (λ q. h (e ∙ q)))

    pub subports_none : c ≡ 0 → splits_in t' kept ≡ splits_with (splits_in t n) p c
    subports_none z = others ∙ sym (changed ∙ rw (eq-eqb c 0 z))

    more : (c ≡ 0 → ⊥) → splits_with (splits_in t n) p c ≡ record { node = p.block; side = p.side; pos = p.position; offset = c } ∷ splits_in t' kept
    more z = changed ∙ rw (ne_eqb c 0 z, others)

    pub room_left : (c ≡ 0 → ⊥) → SplitsRoom t n p c → kept < row_slots
    room_left z r = let a = ap length (more z) in let b = length_splits t' kept in omega arith

    pub subports_some : (c ≡ 0 → ⊥) → (t'' : List Row) (k : ℕ) {r : Row} → r ≡ split_row p c → rows_in t'' k ≡ r ∷ rows_in t' kept → splits_in t'' k ≡ splits_with (splits_in t n) p c
    subports_some z t'' k {r} s q =
        ap (map split_of) q ∙ ap (λ (y : Row). split_of y ∷ splits_in t' kept) s
        ∙ ap (λ (y : Place). y ∷ splits_in t' kept) (split_row_is p c) ∙ sym (more z)

-- Making ready.

-- a plan that is proved on the fields of a sketch, and in them
pub plan_seen_as : (f : Plan → Plan) {i k : Held} {b s w : List Row} {h : Totals} → i ≡ k → IsPlan (f (plan_of i)) b s w h → IsPlan (f (plan_of k)) b s w h
plan_seen_as f {i} {k} {b} {s} {w} {h} e p = subst (λ (x : Held). IsPlan (f (plan_of x)) b s w h) e p

pub plan_back : {K : Plan} {i k : Held} → i ≡ k → IsPlan K k.blocks k.splits k.wires k.totals → IsPlan K i.blocks i.splits i.wires i.totals
plan_back {K} e p = subst (λ (x : Held). IsPlan K x.blocks x.splits x.wires x.totals) (sym e) p

module _ (b s w : List Row) (h : Totals) (wf : SketchWf b s w h) (p : SketchPort) (there : is_there (plan_in b s w h) p ≡ true) (c : ℕ) (within : c ≤ most_subports) where
  pub room_for : SplitsRoom s h.splits p c
  room_for =
      let k : length (set_subports (plan_in b s w h) p c).splits ≤ row_slots = splits_fit (set_subports (plan_in b s w h) p c) (subports_wf (plan_in b s w h) p c wf.plan there within) in
      let e = ap (λ (K : Plan). length K.splits) (set_is_with (plan_in b s w h) p c) in
      omega arith

  pub subports_set : {s' : List Row} {n : ℕ} → (splits_in s' n ≡ splits_with (splits_in s h.splits) p c) × Table s' → IsPlan (set_subports (plan_in b s w h) p c) b s' w (held_splits h n)
  subports_set {s'} {n} x =
      let e : plan_in b s' w (held_splits h n) ≡ set_subports (plan_in b s w h) p c = ap (with_splits (plan_in b s w h)) x.0 ∙ sym (set_is_with (plan_in b s w h) p c) in
      record { plan = e; wf = tables_wf wf.block_table x.1 wf.wire_table e (subports_wf (plan_in b s w h) p c wf.plan there within) }

module _ (b s w : List Row) (h : Totals) (wf : SketchWf b s w h) (p : SketchPort) where
  pub ready_offset : {o : ℕ} → o ≡ offset_ready (plan_in b s w h) p → o ≤ most_wires
  ready_offset e = let k = offset_within (plan_in b s w h) p in let l = wf.plan.wires in omega arith

  module _ (there : is_there (plan_in b s w h) p ≡ true) {o c n : ℕ} (e : o ≡ offset_ready (plan_in b s w h) p) (f : c ≡ subports_of (plan_in b s w h) p) (g : n ≡ subports_ready c o) where
    number : n ≡ subports_ready (subports_of (plan_in b s w h) p) (offset_ready (plan_in b s w h) p)
    number = g ∙ ap (λ (k : ℕ). subports_ready k o) f ∙ ap (subports_ready (subports_of (plan_in b s w h) p)) e

    number_within : n ≤ most_subports
    number_within =
        let k = ready_within (subports_of (plan_in b s w h) p) (offset_ready (plan_in b s w h) p) (subports_within (plan_in b s w h) p wf.plan) (let k = offset_within (plan_in b s w h) p in let l = wf.plan.wires in omega arith) in
        let q = number in
        omega arith

    pub ready_room : SplitsRoom s h.splits p n
    ready_room = room_for b s w h wf p there n number_within

module _ {b s w : List Row} {h : Totals} {k : Held} (v : held_in b s w h ≡ k) (wf : SketchWf b s w h) (p : SketchPort) (there : is_there (plan_of k) p ≡ true) {o c n : ℕ} (e : o ≡ offset_ready (plan_of k) p) (f : c ≡ subports_of (plan_of k) p)
    (g : n ≡ subports_ready c o) (s' : List Row) (m : ℕ) {h' : Totals} (u : h' ≡ held_splits h m) (x : splits_in s' m ≡ splits_with (splits_in s h.splits) p n) (table : Table s') where
  pub port_ready : IsPlan (ready (plan_of k) p) b s' w h'
  unfolding ready
  port_ready =
      let there = subst (λ (l : Held). is_there (plan_of l) p ≡ true) (sym v) there in
      let e = back (λ (l : Plan). offset_ready l p) v e in
      let f = back (λ (l : Plan). subports_of l p) v f in
      plan_seen_as (λ (l : Plan). ready l p) v
      (subst (IsPlan (set_subports (plan_in b s w h) p (subports_ready (subports_of (plan_in b s w h) p) (offset_ready (plan_in b s w h) p))) b s' w) (sym u)
      (subst (λ (k : ℕ). IsPlan (set_subports (plan_in b s w h) p k) b s' w (held_splits h m)) (number b s w h wf p there e f g)
      (subports_set b s w h wf p there n (number_within b s w h wf p there e f g) (x, table))))
