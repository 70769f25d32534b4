-- Steps of the leaves that read lent tables, over plain values.
use Rattle.std.specs.Prelude.{Bool, not, ◌≡◌, List, eqb, Option, Some, None, unwrap_or, Result, Ok, Err}
use Rattle.std.proofs.Math.Bool.{true, false, cond}
use Rattle.std.proofs.Math.Path.{refl, sym, ap}
use Rattle.std.proofs.Common.{◌∙◌}
use Prim.Native.Nat.{ℕ, zero, suc, ◌≤◌, ◌+◌, ◌-◌, ◌<◌, ◌*◌, ◌/◌, min}
use native.Mathlib.Omega.{arith}
use borrow.Author.Tests.{eq-eqb, ne_eqb}
use Rattle.multi_tables.specs.TableReads.{in_row, owns_up, owns_down, run_up, run_down, leaps_down, leap_down, row_below, far_in, count_beside, subports_in, subport_in, place_in, far_place_in, wire_in, wire_end_in, plain_in}
use Rattle.port_tables.specs.Limits.{port_slots}
use Rattle.port_tables.specs.Tables.{at}
use Rattle.port_tables.specs.declared.direction.Direction.{Direction}
use Rattle.port_tables.specs.declared.direction.Direction.TheVariants.{Incoming, Outgoing}
use Rattle.multi_tables.specs.Forms.{subport#}
use Rattle.multi_tables.specs.declared.answers.PortPlace.{PortPlace}
use Rattle.multi_tables.specs.declared.answers.SubportIndex.{SubportIndex}
use Rattle.multi_tables.specs.declared.answers.Refusal.{Refusal}
use Rattle.port_tables.specs.TableSteps.{left_one}
use Rattle.port_tables.specs.Searches.{Searched, Ran, turn, Tells, found_by}
use denote.Ref.{Bor}
use denote.Param.Members.{Mut}
use Rattle.std.specs.declared.ops.Range.{Range}
use Rattle.std.proofs.lemmas.Bool.{not-true, not-false}

-- The loop of a run.

pub run_bound : (t : ℕ → Bool) (i n : ℕ) → in_row t i n ≤ n
unfolding in_row
run_bound t i zero = omega arith
run_bound t i (suc n) = go (t i) (run_bound t (suc i) n)
  where
    go : (b : Bool) → in_row t (suc i) n ≤ n → cond b (suc (in_row t (suc i) n)) 0 ≤ suc n
    go true h = omega arith
    go false h = omega arith

-- a run ends where the test first fails, or with the slots
pub run_ends : (t : ℕ → Bool) (i k n : ℕ) → ((j : ℕ) → j < k → t (i + j) ≡ true) → k ≤ n → (k < n → t (i + k) ≡ false) → in_row t i n ≡ k
unfolding in_row
run_ends t i k zero all l end = omega arith
run_ends t i zero (suc n) all l end =
    let e : i + 0 ≡ i = omega arith in
    rw (ap t (sym e) ∙ end (omega arith))
run_ends t i (suc k) (suc n) all l end =
    let e : i + 0 ≡ i = omega arith in
    let r = run_ends t (suc i) k n (λ j h. ap t (omega arith) ∙ all (suc j) (omega arith)) (omega arith) (λ h. ap t (omega arith) ∙ end (omega arith)) in
    rw (ap t (sym e) ∙ all 0 (omega arith)) (ap suc r)

row_found : (t : ℕ → Bool) (n : ℕ) (r : Option ℕ) → Searched (λ k. not (t k)) 0 n r → unwrap_or r n ≡ in_row t 0 n
row_found t n None h = sym (run_ends t 0 n n (λ j l. ap t (omega arith) ∙ not-false (t j) (h j (omega arith) l)) (omega arith) (λ l. absurd (omega arith)))
row_found t n (Some i) (low, high, hit, passed) =
    sym (run_ends t 0 i n (λ j l. ap t (omega arith) ∙ not-false (t j) (passed j (omega arith) l)) (omega arith) (λ l. ap t (omega arith) ∙ not-true (t i) hit))

-- a row ends where `find`, whose closure answers the opposite of the test, stops; else at the end
pub row_read : {F : Type 0} {g : Mut F (Bor ℕ × Unit {0}) Bool} {f : F} {n x : ℕ} (t : ℕ → Bool) (u : Range ℕ) (r : Option ℕ) → x ≡ unwrap_or r n → Ran turn g (record { start = 0; end = n }) f u r → Tells g f (λ k. not (t k)) → x ≡ in_row t 0 n
row_read t u r e ran told = e ∙ row_found t _ r (found_by (λ k. not (t k)) u r ran told)

pub run_turn : (t : ℕ → Bool) (k n : ℕ) → k < n → t k ≡ true → k + in_row t k (n - k) ≡ k + 1 + in_row t (k + 1) (n - (k + 1))
unfolding in_row
run_turn t k n h e =
    let s : k + 1 ≡ suc k = omega arith in
    rw (left_one k n h, e, s) (omega arith)

pub run_stop : (t : ℕ → Bool) (k n : ℕ) → k < n → t k ≡ false → k + in_row t k (n - k) ≡ k
unfolding in_row
run_stop t k n h e = rw (left_one k n h, e) (omega arith)

pub run_end : (t : ℕ → Bool) (k n : ℕ) → n ≤ k → k + in_row t k (n - k) ≡ k
unfolding in_row
run_end t k n h = let e : n - k ≡ zero = omega arith in rw e (omega arith)

module _ (t : List ℕ) (x i : ℕ) where
  pub up_start : run_up t x i ≡ 0 + in_row (owns_up t x i) 0 (port_slots - 0)
  unfolding run_up
  up_start = omega arith

  pub up_yes : (k a : ℕ) → a ≡ at t (i + k) → a ≡ x → owns_up t x i k ≡ true
  unfolding owns_up
  up_yes k a e f = eq-eqb (at t (i + k)) x (sym e ∙ f)

  pub up_no : (k a : ℕ) → a ≡ at t (i + k) → (a ≡ x → ⊥) → owns_up t x i k ≡ false
  unfolding owns_up
  up_no k a e f = ne_eqb (at t (i + k)) x (λ z. f (e ∙ z))

  pub up_bound : run_up t x i ≤ port_slots
  unfolding run_up
  up_bound = run_bound (owns_up t x i) 0 port_slots

  pub down_start : (n : ℕ) → n ≡ min i port_slots → run_down t x i ≡ 0 + in_row (owns_down t x i) 0 (n - 0)
  unfolding run_down
  down_start n e = let z : n - 0 ≡ min i port_slots = omega arith in rw z (omega arith)

  pub down_yes : (k a : ℕ) → a ≡ at t (i - (k + 1)) → a ≡ x → owns_down t x i k ≡ true
  unfolding owns_down
  down_yes k a e f = let s : k + 1 ≡ suc k = omega arith in eq-eqb (at t (i - suc k)) x (ap (λ n. at t (i - n)) (sym s) ∙ sym e ∙ f)

  pub down_no : (k a : ℕ) → a ≡ at t (i - (k + 1)) → (a ≡ x → ⊥) → owns_down t x i k ≡ false
  unfolding owns_down
  down_no k a e f = let s : k + 1 ≡ suc k = omega arith in ne_eqb (at t (i - suc k)) x (λ z. f (e ∙ ap (λ n. at t (i - n)) s ∙ z))

  pub down_bound : run_down t x i ≤ min i port_slots
  unfolding run_down
  down_bound = run_bound (owns_down t x i) 0 (min i port_slots)

  pub leap_bound : leap_down t x i ≤ min i port_slots / 32
  unfolding leap_down
  leap_bound = run_bound (leaps_down t x i) 0 (min i port_slots / 32)

  pub row_told : (k l n : ℕ) → k ≡ leap_down t x i → l ≡ 32 * k → n ≡ run_down t x (i - l) → l + n ≡ row_below t x i
  unfolding row_below
  row_told k l n e f g = rw (g, f, e)

pub row_bound : (t : List ℕ) (x i : ℕ) → row_below t x i ≤ 2 * port_slots
unfolding row_below
row_bound t x i =
    let l = leap_bound t x i in
    let d = down_bound t x (i - 32 * leap_down t x i) in
    omega arith

-- The same with the place, and what cutting an unsplit port answers.
module _ (links owners : List ℕ) (flags : List Bool) (p : ℕ) where
  -- an end that was read without its place, with it
  abbrev pub placed : Result (Option SubportIndex) Refusal → Result (Option (SubportIndex × PortPlace)) Refusal
  placed (Ok (Some s)) = Ok (Some (s, place_in owners s.port.0))
  placed (Ok None) = Ok None
  placed (Err r) = Err r

  -- and with the inner port in place of the end
  abbrev innermost : Result (Option (SubportIndex × PortPlace)) Refusal → Result (Option (SubportIndex × PortPlace)) Refusal
  innermost (Ok (Some (s, x))) = Ok (Some (subport# (far_in links p) 0, x))
  innermost (Ok None) = Ok None
  innermost (Err r) = Err r

  pub wire_placed : placed (wire_end_in links owners flags p) ≡ wire_in links owners flags p
  unfolding wire_end_in wire_in
  wire_placed = go (eqb (at links p) 0)
    where
      go : (b : Bool) → placed (cond b (Ok None) (Ok (Some (subport_in links owners flags (far_in links p)))))
          ≡ cond b (Ok None) (Ok (Some (subport_in links owners flags (far_in links p), far_place_in links owners flags (far_in links p))))
      go true = refl
      go false = refl

  wire_inside : innermost (wire_in links owners flags p) ≡ plain_in links owners flags p
  unfolding wire_in plain_in
  wire_inside = go (eqb (at links p) 0)
    where
      go : (b : Bool) → innermost (cond b (Ok None) (Ok (Some (subport_in links owners flags (far_in links p), far_place_in links owners flags (far_in links p)))))
          ≡ cond b (Ok None) (Ok (Some (subport# (far_in links p) 0, far_place_in links owners flags (far_in links p))))
      go true = refl
      go false = refl

  pub end_wired : (x far : ℕ) (s : SubportIndex) → x ≡ at links p → 1 ≤ x → far ≡ x - 1 → s ≡ subport_in links owners flags far → Ok (Some s) ≡ wire_end_in links owners flags p
  unfolding wire_end_in far_in
  end_wired x far s e h f g = rw (ne_eqb (at links p) 0 (λ z. let k : x ≡ 0 = e ∙ z in omega (arith, h, k)), g, f, e)

  pub wire_none : {r : Option SubportIndex} → Ok r ≡ wire_end_in links owners flags p → r ≡ None → Ok None ≡ wire_in links owners flags p
  wire_none e h = ap placed (ap Ok (sym h) ∙ e) ∙ wire_placed

  pub wire_some : {r : Option SubportIndex} (s : SubportIndex) (x : PortPlace) → Ok r ≡ wire_end_in links owners flags p → r ≡ Some s → x ≡ place_in owners s.port.0
      → Ok (Some (s, x)) ≡ wire_in links owners flags p
  wire_some s x e h k = ap (λ (y : PortPlace). Ok (Some (s, y))) k ∙ ap placed (ap Ok (sym h) ∙ e) ∙ wire_placed

  pub plain_none : {r : Option (SubportIndex × PortPlace)} → Ok r ≡ wire_in links owners flags p → r ≡ None → Ok None ≡ plain_in links owners flags p
  plain_none e h = ap innermost (ap Ok (sym h) ∙ e) ∙ wire_inside

  pub plain_some : {r : Option (SubportIndex × PortPlace)} (s : SubportIndex) (x : PortPlace) (q : ℕ) → Ok r ≡ wire_in links owners flags p → r ≡ Some (s, x) → q ≡ far_in links p
      → Ok (Some (subport# q 0, x)) ≡ plain_in links owners flags p
  plain_some s x q e h k = ap (λ (y : ℕ). Ok (Some (subport# y 0, x))) k ∙ ap innermost (ap Ok (sym h) ∙ e) ∙ wire_inside

pub subports_bound : (links owners : List ℕ) (p : ℕ) (d : Direction) → subports_in links owners p d ≤ port_slots
unfolding subports_in count_beside
subports_bound links owners p Incoming =
    let h = down_bound owners (at owners (far_in links p - 1)) (far_in links p) in omega arith
subports_bound links owners p Outgoing = up_bound owners (at owners (far_in links p + 1)) (far_in links p + 1)
