-- Cutting, looking up and tidying over the tables.
use Rattle.std.proofs.Math.Path.{◌≡◌, refl, ap, subst}
use Rattle.std.proofs.Common.{sym, ◌∙◌, inl, inr, arith}
use Rattle.std.specs.Prelude.{Bool, not, ℕ, ◌≤◌, ◌<◌, Option, Some, None, option_map, Result, Ok, Err}
use Rattle.std.proofs.Math.Bool.{true, false, cond}
use mathlib.Core.List.{List, [], ◌∷◌, map}
use borrow.Author.Tests.{eq-eqb, ne_eqb}
use Rattle.port_tables.specs.Lists.{Member}
use Rattle.std.specs.List.{filter}
use Rattle.port_tables.specs.Places.{Place, Wire, touches, at_spot, at_end, without}
use Rattle.sketches.specs.Plan.{Plan, with_wires, spot_named, is_there, subports_of, set_subports, offset_read, lacks_offset, Far, nothing, far, far_from, above_wired, end_at_place}
use Rattle.sketches.specs.PlanCalls.{leaves, bad_offset, port_found, end_found, cut_port, subport_link, is_refused, cut_subport, tidied, tidy_port}
use Rattle.sketches.specs.PlanNumbers.{done_numbers, cut_numbers, found_numbers}
use Rattle.sketches.specs.PlanWf.{most_subports}
use Rattle.sketches.specs.CallsWf.{cut_wf, above_within, tidied_within}
use Rattle.sketches.specs.Rows.{Table, rows_in, splits_in, wires_in, wire_of, place_in, end_hits, hits, missed, first}
use Rattle.sketches.specs.RowReads.{wires_left}
use Rattle.sketches.specs.BlockSteps.{leaves_as, tables_wf, port_known}
use Rattle.sketches.specs.Held.{Held, held_in, plan_of, seen_as, back}
use Rattle.sketches.specs.SplitSteps.{plan_seen_as, room_for, subports_set}
use Rattle.sketches.specs.SketchTables.{Totals, plan_in, totals_counts, held_splits, held_wires, SketchWf, Leaves}
use Rattle.sketches.specs.declared.rows.Row.{Row}
use Rattle.sketches.specs.declared.tests.EndTest.{EndTest}
use Rattle.sketches.specs.declared.tests.EndTest.TheVariants as ask
use Rattle.sketches.specs.declared.tests.Test.TheVariants as test
use Rattle.sketches.specs.declared.sketch.SketchPort.{SketchPort}
use Rattle.sketches.specs.declared.sketch.SketchEnd.{SketchEnd}
use Rattle.sketches.specs.declared.sketch.Reason.{Reason}
use Rattle.sketches.specs.declared.sketch.Reason.TheVariants.{BadOffset, UnknownPort, UnknownOffset}
use Rattle.sketches.specs.declared.tests.RowEnd.{RowEnd}
use Rattle.sketches.specs.CallParts.{splits_with, SplitsRoom, IsPlan, judge_port, judge_one, judge_end, Answers, far_of}

pub answers_as : {A : Type 0} {numbers : A → List ℕ} {called answer : A} → answer ≡ called → Answers numbers called answer
answers_as {A} {numbers} e = record { answered = e; numbered = ap numbers e }

-- The far end.

module _ (f : EndTest) where
  far_none : (l : List Row) → filter (hits (test.Wire f)) l ≡ [] → far_from (end_hits f) (map wire_of l) ≡ nothing
  unfolding far_from
  far_none [] e = refl
  far_none (r ∷ l) e = go (end_hits f (wire_of r).out) refl (end_hits f (wire_of r).into) refl e (far_none l)
    where
      go : (a : Bool) → end_hits f (wire_of r).out ≡ a → (b : Bool) → end_hits f (wire_of r).into ≡ b → cond (touches (end_hits f) (wire_of r)) (r ∷ filter (hits (test.Wire f)) l) (filter (hits (test.Wire f)) l) ≡ [] →
          (filter (hits (test.Wire f)) l ≡ [] → far_from (end_hits f) (map wire_of l) ≡ nothing) →
          cond (end_hits f (wire_of r).out) (far (wire_of r).into) (cond (end_hits f (wire_of r).into) (far (wire_of r).out) (far_from (end_hits f) (map wire_of l))) ≡ nothing
      go true p b q h rest = let k : r ∷ filter (hits (test.Wire f)) l ≡ [] = rw p at h in absurd (let z : ◌≡◌ {A = ℕ} 0 1 = cc in omega arith)
      go false p true q h rest = let k : r ∷ filter (hits (test.Wire f)) l ≡ [] = rw (p, q) at h in absurd (let z : ◌≡◌ {A = ℕ} 0 1 = cc in omega arith)
      go false p false q h rest = let k : filter (hits (test.Wire f)) l ≡ [] = rw (p, q) at h in rw (p, q) (rest k)

  far_some : (l : List Row) (x : Row) (k : List Row) → filter (hits (test.Wire f)) l ≡ x ∷ k → far_from (end_hits f) (map wire_of l) ≡ cond (end_hits f (wire_of x).out) (far (wire_of x).into) (far (wire_of x).out)
  unfolding far_from
  far_some [] x k e = absurd (let z : ◌≡◌ {A = ℕ} 0 1 = cc in omega arith)
  far_some (r ∷ l) x k e = go (end_hits f (wire_of r).out) refl (end_hits f (wire_of r).into) refl e (far_some l x k)
    where
      go : (a : Bool) → end_hits f (wire_of r).out ≡ a → (b : Bool) → end_hits f (wire_of r).into ≡ b → cond (touches (end_hits f) (wire_of r)) (r ∷ filter (hits (test.Wire f)) l) (filter (hits (test.Wire f)) l) ≡ x ∷ k →
          (filter (hits (test.Wire f)) l ≡ x ∷ k → far_from (end_hits f) (map wire_of l) ≡ cond (end_hits f (wire_of x).out) (far (wire_of x).into) (far (wire_of x).out)) →
          cond (end_hits f (wire_of r).out) (far (wire_of r).into) (cond (end_hits f (wire_of r).into) (far (wire_of r).out) (far_from (end_hits f) (map wire_of l))) ≡ cond (end_hits f (wire_of x).out) (far (wire_of x).into) (far (wire_of x).out)
      go true p b q h rest =
          let m : r ∷ filter (hits (test.Wire f)) l ≡ x ∷ k = rw p at h in
          let e : r ≡ x = cc in
          rw p (ap (λ (b : Bool). cond b (far (wire_of r).into) (far (wire_of r).out)) (sym p) ∙ ap (λ (y : Row). cond (end_hits f (wire_of y).out) (far (wire_of y).into) (far (wire_of y).out)) e)
      go false p true q h rest =
          let m : r ∷ filter (hits (test.Wire f)) l ≡ x ∷ k = rw (p, q) at h in
          let e : r ≡ x = cc in
          rw (p, q) (ap (λ (b : Bool). cond b (far (wire_of r).into) (far (wire_of r).out)) (sym p) ∙ ap (λ (y : Row). cond (end_hits f (wire_of y).out) (far (wire_of y).into) (far (wire_of y).out)) e)
      go false p false q h rest = let m : filter (hits (test.Wire f)) l ≡ x ∷ k = rw (p, q) at h in rw (p, q) (rest m)

-- the far end of a row, if there is one
abbrev pub far_of_row : EndTest → Option Row → Far
far_of_row f None = nothing
far_of_row f (Some r) = cond (end_hits f (wire_of r).out) (far (wire_of r).into) (far (wire_of r).out)

pub far_read : (f : EndTest) (t : List Row) (n : ℕ) → far_from (end_hits f) (wires_in t n) ≡ far_of_row f (first (filter (hits (test.Wire f)) (rows_in t n)))
far_read f t n = go (filter (hits (test.Wire f)) (rows_in t n)) refl
  where
    go : (l : List Row) → filter (hits (test.Wire f)) (rows_in t n) ≡ l → far_from (end_hits f) (wires_in t n) ≡ far_of_row f (first l)
    go [] p = far_none f (rows_in t n) p
    go (r ∷ l) p = far_some f (rows_in t n) r l p

-- a far end is an end of a wire
far_fits_in : (g : Place → Bool) (l : List Wire) → ((w : Wire) → Member w l → (w.out.offset < most_subports) × (w.into.offset < most_subports)) → (x : Place) → far x ≡ far_from g l → x.offset < most_subports
unfolding far_from
far_fits_in g [] h x e = absurd (let z : ◌≡◌ {A = ℕ} 0 1 = cc in omega arith)
far_fits_in g (w ∷ l) h x e = go (g w.out) (g w.into) e (far_fits_in g l (λ v i. h v (inr i)) x)
  where
    go : (a b : Bool) → far x ≡ cond a (far w.into) (cond b (far w.out) (far_from g l)) → (far x ≡ far_from g l → x.offset < most_subports) → x.offset < most_subports
    go true b p rest = let q : x ≡ w.into = cc in subst (λ (y : Place). y.offset < most_subports) (sym q) (h w (inl refl)).1
    go false true p rest = let q : x ≡ w.out = cc in subst (λ (y : Place). y.offset < most_subports) (sym q) (h w (inl refl)).0
    go false false p rest = rest p

pub far_fits : (b s w : List Row) (h : Totals) → SketchWf b s w h → (g : Place → Bool) (o : Option RowEnd) → far_of o ≡ far_from g (wires_in w h.wires) → (x : RowEnd) → o ≡ Some x → x.offset < most_subports
far_fits b s w h wf g o e x q = far_fits_in g (wires_in w h.wires) wf.plan.offsets (place_in x) (ap far_of (sym q) ∙ e)

-- The far end, as it is answered.

pub port_answered : (o : Option RowEnd) {m : Option SketchPort} → m ≡ option_map (λ (x : RowEnd). x.port) o → ◌≡◌ {A = Result (Option SketchPort) Reason} (Ok m) (port_found (far_of o))
port_answered None e = ap Ok e
port_answered (Some x) e = ap Ok e

pub end_answered : (o : Option RowEnd) {m : Option SketchEnd} → m ≡ option_map (λ (x : RowEnd). end_at_place (place_in x)) o → ◌≡◌ {A = Result (Option SketchEnd) Reason} (Ok m) (end_found (far_of o))
end_answered None e = ap Ok e
end_answered (Some x) e = ap Ok e

-- What an end is linked with.

abbrev pub found_as : Far → Result (Unit {0}) Reason → Result (Option SketchEnd) Reason
found_as x (Err q) = Err q
found_as x (Ok u) = end_found x

pub found_as_judged : (K : Plan) (x : SketchPort) (o : ℕ) → subport_link K x o ≡ found_as (far_from (at_end (spot_named x) (offset_read K x o)) K.wires) (judge_end K x o)
unfolding subport_link judge_end
found_as_judged K x o = go (bad_offset o) (is_there K x) (lacks_offset K x o)
  where
    go : (a b c : Bool) →
        cond a (Err BadOffset) (cond (not b) (Err UnknownPort) (cond c (Err UnknownOffset) (end_found (far_from (at_end (spot_named x) (offset_read K x o)) K.wires))))
        ≡ found_as (far_from (at_end (spot_named x) (offset_read K x o)) K.wires) (judge_one a b c)
    go true b c = refl
    go false false c = refl
    go false true true = refl
    go false true false = refl

module _ (K : Plan) (x : SketchPort) (o : ℕ) {j : Result (Unit {0}) Reason} (e : j ≡ judge_end K x o) where
  pub end_asked : j ≡ Ok tt → (y : Option RowEnd) {t : EndTest} {a : Result (Option SketchEnd) Reason} → t ≡ ask.AtEnd x (offset_read K x o) → far_of y ≡ far_from (end_hits t) K.wires → a ≡ end_found (far_of y) → a ≡ subport_link K x o
  end_asked f y {t} {a} u v c =
      c ∙ ap end_found (v ∙ ap (λ (z : EndTest). far_from (end_hits z) K.wires) u)
      ∙ sym (found_as_judged K x o ∙ ap (found_as (far_from (at_end (spot_named x) (offset_read K x o)) K.wires)) (sym e ∙ f))

-- Cutting at an end.

not_refused : (x : Option SketchEnd) → is_refused (Ok x) ≡ false
not_refused None = refl
not_refused (Some x) = refl

-- a plan without the wire at an end
abbrev end_gone : Plan → SketchPort → ℕ → Plan
end_gone K x o = with_wires K (without (at_end (spot_named x) (offset_read K x o)) K.wires)

end_cut_as : (K : Plan) (x : SketchPort) (o : ℕ) {a : Result (Option SketchEnd) Reason} → a ≡ subport_link K x o → cut_subport K x o ≡ leaves (cond (is_refused a) K (end_gone K x o)) a
unfolding cut_subport
end_cut_as K x o e = ap (λ (y : Result (Option SketchEnd) Reason). leaves (cond (is_refused y) K (end_gone K x o)) y) (sym e)

pub end_cut_refused : (b s w : List Row) (h : Totals) → SketchWf b s w h → (x : SketchPort) (o : ℕ) {a : Result (Option SketchEnd) Reason} → a ≡ subport_link (plan_in b s w h) x o → {q : Reason} → a ≡ Err q →
    Leaves found_numbers (cut_subport (plan_in b s w h) x o) b s w h (Err q)
end_cut_refused b s w h wf x o {a} e f =
    leaves_as (plan_in b s w h) a (end_cut_as (plan_in b s w h) x o e ∙ ap (λ (y : Result (Option SketchEnd) Reason). leaves (cond (is_refused y) (plan_in b s w h) (end_gone (plan_in b s w h) x o)) a) f) refl (sym f) wf

module _ {b s w : List Row} {h : Totals} {k : Held} (v : held_in b s w h ≡ k) (wf : SketchWf b s w h) (x : SketchPort) (o : ℕ) {a : Result (Option SketchEnd) Reason} (e : a ≡ subport_link (plan_of k) x o) {y : Option SketchEnd} (f : a ≡ Ok y)
    {t : EndTest} (g : t ≡ ask.AtEnd x (offset_read (plan_of k) x o)) (w' : List Row) (n : ℕ) {h' : Totals} (c : h' ≡ held_wires h n) (d : rows_in w' n ≡ filter (missed (test.Wire t)) (rows_in w h.wires)) (table : Table w') where
  without_end : plan_in b s w' h' ≡ end_gone (plan_in b s w h) x o
  without_end =
      ap (plan_in b s w') c
      ∙ ap (with_wires (plan_in b s w h)) (ap (map wire_of) d ∙ wires_left t (rows_in w h.wires) ∙ ap (λ (z : EndTest). without (end_hits z) (wires_in w h.wires)) (back (λ (l : Plan). ask.AtEnd x (offset_read l x o)) v g))

  pub end_cut : Leaves found_numbers (cut_subport (plan_of k) x o) b s w' h' (Ok y)
  end_cut =
      seen_as (λ (l : Plan). cut_subport l x o) v
      (leaves_as (end_gone (plan_in b s w h) x o) a
      (end_cut_as (plan_in b s w h) x o (back (λ (l : Plan). subport_link l x o) v e) ∙ ap (λ (t : Bool). leaves (cond t (plan_in b s w h) (end_gone (plan_in b s w h) x o)) a) (ap is_refused f ∙ not_refused y))
      without_end (sym f)
      (tables_wf wf.block_table wf.split_table table without_end (cut_wf (plan_in b s w h) (at_end (spot_named x) (offset_read (plan_in b s w h) x o)) wf.plan)))

-- Cutting a port.

-- a plan without the wires at a port, which is no longer split
abbrev pub port_gone : Plan → SketchPort → Plan
port_gone K x = set_subports (with_wires K (without (at_spot (spot_named x)) K.wires)) x 0

module _ (b s w : List Row) (h : Totals) (wf : SketchWf b s w h) (x : SketchPort) where
  pub cut_unknown : is_there (plan_in b s w h) x ≡ false → Leaves cut_numbers (cut_port (plan_in b s w h) x) b s w h (Err UnknownPort)
  unfolding cut_port
  cut_unknown e = leaves_as (plan_in b s w h) (Err UnknownPort) (rw e) refl refl wf

  module _ (there : is_there (plan_in b s w h) x ≡ true) (w' : List Row) (n : ℕ) (d : (rows_in w' n ≡ filter (missed (test.Wire (ask.AtPort x))) (rows_in w h.wires)) × Table w') where
    wires_cut : plan_in b s w' (held_wires h n) ≡ with_wires (plan_in b s w h) (without (at_spot (spot_named x)) (wires_in w h.wires))
    wires_cut = ap (with_wires (plan_in b s w h)) (ap (map wire_of) d.0 ∙ wires_left (ask.AtPort x) (rows_in w h.wires))

    cut_kept : SketchWf b s w' (held_wires h n)
    cut_kept = tables_wf wf.block_table wf.split_table d.1 wires_cut (cut_wf (plan_in b s w h) (at_spot (spot_named x)) wf.plan)

    still_there : is_there (plan_in b s w' (held_wires h n)) x ≡ true
    unfolding is_there
    still_there = there

    pub cut_room : SplitsRoom s h.splits x 0
    cut_room = room_for b s w' (held_wires h n) cut_kept x still_there 0 (omega arith)

    tables_cut : {s' : List Row} {m : ℕ} → (splits_in s' m ≡ splits_with (splits_in s h.splits) x 0) × Table s' → {h' : Totals} → h' ≡ totals_counts h h.blocks m n → IsPlan (port_gone (plan_in b s w h) x) b s' w' h'
    tables_cut {s'} {m} q c =
        subst (IsPlan (port_gone (plan_in b s w h) x) b s' w') (sym c)
        (subst (λ (k : Plan). IsPlan (set_subports k x 0) b s' w' (totals_counts h h.blocks m n)) wires_cut (subports_set b s w' (held_wires h n) cut_kept x still_there 0 (omega arith) q))

module _ (k : Held) (x : SketchPort) {j : Result (Unit {0}) Reason} (e : j ≡ judge_port (plan_of k) x) (f : j ≡ Ok tt) where
  pub port_cut : {b s w : List Row} {h : Totals} → held_in b s w h ≡ k → SketchWf b s w h → (s' w' : List Row) (m n : ℕ) {h' : Totals} → h' ≡ totals_counts h h.blocks m n →
      rows_in w' n ≡ filter (missed (test.Wire (ask.AtPort x))) (rows_in w h.wires) → Table w' → splits_in s' m ≡ splits_with (splits_in s h.splits) x 0 → Table s' → IsPlan (port_gone (plan_of k) x) b s' w' h'
  port_cut {b} {s} {w} {h} v wf s' w' m n c d tw q ts = plan_seen_as (λ (r : Plan). port_gone r x) v (tables_cut b s w h wf x (port_known v x e f) w' n (d, tw) (q, ts) c)

  module _ {b s w : List Row} {h : Totals} (p : IsPlan (port_gone (plan_of k) x) b s w h) {u : ℕ} (l : u ≡ subports_of (plan_of k) x) where
    pub cut_unsplit : u ≡ 0 → (y : Option RowEnd) → far_of y ≡ far_from (at_spot (spot_named x)) (plan_of k).wires → {a : Result (Option SketchPort) Reason} → a ≡ port_found (far_of y) → Leaves cut_numbers (cut_port (plan_of k) x) b s w h a
    unfolding cut_port
    cut_unsplit z y q g =
        leaves_as (port_gone (plan_of k) x) (port_found (far_from (at_spot (spot_named x)) (plan_of k).wires))
        (rw (port_known refl x e f, eq-eqb (subports_of (plan_of k) x) 0 (sym l ∙ z))) p.plan (g ∙ ap port_found q) p.wf

    pub cut_split : (u ≡ 0 → ⊥) → Leaves cut_numbers (cut_port (plan_of k) x) b s w h (Ok (Some x))
    unfolding cut_port
    cut_split z = leaves_as (port_gone (plan_of k) x) (Ok (Some x)) (rw (port_known refl x e f, ne_eqb (subports_of (plan_of k) x) 0 (λ q. z (l ∙ q)))) p.plan refl p.wf

-- Tidying.

module _ (b s w : List Row) (h : Totals) (wf : SketchWf b s w h) (x : SketchPort) where
  pub tidy_unknown : is_there (plan_in b s w h) x ≡ false → Leaves done_numbers (tidy_port (plan_in b s w h) x) b s w h (Err UnknownPort)
  unfolding tidy_port
  tidy_unknown e = leaves_as (plan_in b s w h) (Err UnknownPort) (rw e) refl refl wf

  pub tidy_unsplit : is_there (plan_in b s w h) x ≡ true → {k : ℕ} → k ≡ subports_of (plan_in b s w h) x → k ≡ 0 → Leaves done_numbers (tidy_port (plan_in b s w h) x) b s w h (Ok tt)
  unfolding tidy_port
  tidy_unsplit there e z = leaves_as (plan_in b s w h) (Ok tt) (rw (there, eq-eqb (subports_of (plan_in b s w h) x) 0 (sym e ∙ z))) refl refl wf

  pub above_fits : {n : ℕ} → n ≡ above_wired (spot_named x) (wires_in w h.wires) → n ≤ most_subports
  above_fits e = let k = above_within (plan_in b s w h) x wf.plan in omega arith

  module _ (there : is_there (plan_in b s w h) x ≡ true) {n m : ℕ} (e : n ≡ above_wired (spot_named x) (wires_in w h.wires)) (f : m ≡ tidied n) where
    left_within : m ≤ most_subports
    left_within = let k = tidied_within n (above_fits e) in omega arith

    pub tidy_room : SplitsRoom s h.splits x m
    tidy_room = room_for b s w h wf x there m left_within

module _ {b s w : List Row} {h : Totals} {k : Held} (v : held_in b s w h ≡ k) (wf : SketchWf b s w h) (x : SketchPort) {j : Result (Unit {0}) Reason} (e : j ≡ judge_port (plan_of k) x) (f : j ≡ Ok tt)
    {n m : ℕ} (p : n ≡ above_wired (spot_named x) (plan_of k).wires) (q : m ≡ tidied n) (s' : List Row) (c : ℕ) {h' : Totals} (g : h' ≡ held_splits h c) (d : splits_in s' c ≡ splits_with (splits_in s h.splits) x m) (table : Table s') where
  port_tidied : IsPlan (set_subports (plan_in b s w h) x (tidied (above_wired (spot_named x) (wires_in w h.wires)))) b s' w h'
  port_tidied =
      let a : n ≡ above_wired (spot_named x) (wires_in w h.wires) = back (λ (l : Plan). above_wired (spot_named x) l.wires) v p in
      let there = port_known v x e f in
      subst (IsPlan (set_subports (plan_in b s w h) x (tidied (above_wired (spot_named x) (wires_in w h.wires)))) b s' w) (sym g)
      (subst (λ (n : ℕ). IsPlan (set_subports (plan_in b s w h) x n) b s' w (held_splits h c)) (q ∙ ap tidied a) (subports_set b s w h wf x there m (left_within b s w h wf x there a q) (d, table)))

  pub tidy_split : {u : ℕ} → u ≡ subports_of (plan_of k) x → (u ≡ 0 → ⊥) → Leaves done_numbers (tidy_port (plan_of k) x) b s' w h' (Ok tt)
  unfolding tidy_port
  tidy_split l z =
      seen_as (λ (r : Plan). tidy_port r x) v
      (leaves_as (set_subports (plan_in b s w h) x (tidied (above_wired (spot_named x) (wires_in w h.wires)))) (Ok tt)
      (rw (port_known v x e f, ne_eqb (subports_of (plan_in b s w h) x) 0 (λ q. z (back (λ (r : Plan). subports_of r x) v l ∙ q)))) port_tidied.plan refl port_tidied.wf)
