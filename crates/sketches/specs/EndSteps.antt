-- Linking two ends over the tables: what is refused before any change, then one more wire.
use Rattle.std.specs.Prelude.{◌≡◌, refl, Bool, true, false, cond, not, ◌||◌, List, ◌∷◌, ℕ, ◌<◌, length, Result, Ok, Err}
use Rattle.std.proofs.Common.{sym, ap, ◌∙◌, arith, leb-false}
use Rattle.port_tables.specs.Entries.{same_side}
use Rattle.port_tables.specs.Places.{wire_of_sides}
use Rattle.sketches.specs.Plan.{Plan, is_there, input_taken, place_named, end#, offset_read, lacks_offset}
use Rattle.sketches.specs.PlanCalls.{most_wires, Sketched, leaves, with_wire, is_full, is_wired, bad_offset, link_subports}
use Rattle.sketches.specs.PlanNumbers.{link_numbers}
use Rattle.sketches.specs.CallsWf.{wire_wf, read_within}
use Rattle.sketches.specs.Rows.{Table, rows_in, row_slots, wire_of}
use Rattle.sketches.specs.Offsets.{length_wires}
use Rattle.sketches.specs.BlockSteps.{leaves_as, tables_wf}
use Rattle.sketches.specs.LinkSteps.{wire_laid}
use Rattle.sketches.specs.SketchTables.{Totals, plan_in, held_wires, SketchWf, Leaves}
use Rattle.sketches.specs.declared.rows.Row.{Row}
use Rattle.sketches.specs.declared.sketch.SketchPort.{SketchPort}
use Rattle.sketches.specs.declared.sketch.Reason.{Reason}
use Rattle.sketches.specs.declared.sketch.Reason.TheVariants.{BadOffset, UnknownPort, UnknownOffset, NoRoom, UnknownSecondPort, SameSide, AlreadyLinked, InputWired}
use Rattle.sketches.specs.declared.sketch.SketchEnd.{SketchEnd}
use Rattle.sketches.specs.CallParts.{judge_all, judge_ends}
use Rattle.sketches.specs.Held.{Held, held_in, plan_of, seen_as, back}

-- the call, as it is judged
abbrev pub link_as : Plan → SketchPort → ℕ → SketchPort → ℕ → Result (Unit {0}) Reason → Sketched (Result (SketchEnd × SketchEnd) Reason)
link_as K x o y r (Err q) = leaves K (Err q)
link_as K x o y r (Ok u) = leaves (with_wire K x (offset_read K x o) y (offset_read K y r)) (Ok (end# x (offset_read K x o), end# y (offset_read K y r)))

pub link_as_judged : (K : Plan) (x : SketchPort) (o : ℕ) (y : SketchPort) (r : ℕ) → link_subports K x o y r ≡ link_as K x o y r (judge_ends K x o y r)
unfolding link_subports judge_ends
link_as_judged K x o y r =
    go (bad_offset o || bad_offset r) (is_there K x) (lacks_offset K x o || cond (is_there K y) (lacks_offset K y r) false) (input_taken K x y) (is_there K y) (same_side x.side y.side) (is_wired K x o || is_wired K y r) (is_full K)
  where
    go : (a b c d e f g h : Bool) →
        cond a (leaves K (Err BadOffset))
        (cond (not b) (leaves K (Err UnknownPort))
        (cond c (leaves K (Err UnknownOffset))
        (cond d (leaves K (Err InputWired))
        (cond (not e) (leaves K (Err UnknownSecondPort))
        (cond f (leaves K (Err SameSide))
        (cond g (leaves K (Err AlreadyLinked))
        (cond h (leaves K (Err NoRoom))
        (leaves (with_wire K x (offset_read K x o) y (offset_read K y r)) (Ok (end# x (offset_read K x o), end# y (offset_read K y r)))))))))))
        ≡ link_as K x o y r (judge_all a b c d e f g h)
    go true b c d e f g h = refl
    go false false c d e f g h = refl
    go false true true d e f g h = refl
    go false true false true e f g h = refl
    go false true false false false f g h = refl
    go false true false false true true g h = refl
    go false true false false true false true h = refl
    go false true false false true false false true = refl
    go false true false false true false false false = refl

-- what holds of ends that are judged fine
pub record Judgeable (K : Plan) (x : SketchPort) (o : ℕ) (y : SketchPort) (r : ℕ) : Type 0 where
  pub first : lacks_offset K x o ≡ false
  pub second : lacks_offset K y r ≡ false
  pub sides : same_side x.side y.side ≡ false
  pub room : length K.wires < most_wires

not_fine : {q : Reason} → ◌≡◌ {A = Result (Unit {0}) Reason} (Err q) (Ok tt) → ⊥
not_fine e = let z : ◌≡◌ {A = ℕ} 0 1 = cc in omega arith

pub fine_means : (K : Plan) (x : SketchPort) (o : ℕ) (y : SketchPort) (r : ℕ) → judge_ends K x o y r ≡ Ok tt → Judgeable K x o y r
unfolding judge_ends
fine_means K x o y r p =
    go (bad_offset o || bad_offset r) (is_there K x) (lacks_offset K x o) refl (is_there K y) (lacks_offset K y r) refl (input_taken K x y) (same_side x.side y.side) refl (is_wired K x o || is_wired K y r) (is_full K) refl p
  where
    go : (a b c : Bool) → lacks_offset K x o ≡ c → (e c' : Bool) → lacks_offset K y r ≡ c' → (d f : Bool) → same_side x.side y.side ≡ f → (g h : Bool) → is_full K ≡ h →
        judge_all a b (c || cond e c' false) d e f g h ≡ Ok tt → Judgeable K x o y r
    go true b c c₁ e c' c₂ d f f₁ g h h₁ p = absurd (not_fine p)
    go false false c c₁ e c' c₂ d f f₁ g h h₁ p = absurd (not_fine p)
    go false true true c₁ e c' c₂ d f f₁ g h h₁ p = absurd (not_fine p)
    go false true false c₁ true true c₂ d f f₁ g h h₁ p = absurd (not_fine p)
    go false true false c₁ true false c₂ true f f₁ g h h₁ p = absurd (not_fine p)
    go false true false c₁ false c' c₂ true f f₁ g h h₁ p = absurd (not_fine p)
    go false true false c₁ false c' c₂ false f f₁ g h h₁ p = absurd (not_fine p)
    go false true false c₁ true false c₂ false true f₁ g h h₁ p = absurd (not_fine p)
    go false true false c₁ true false c₂ false false f₁ true h h₁ p = absurd (not_fine p)
    go false true false c₁ true false c₂ false false f₁ false true h₁ p = absurd (not_fine p)
    go false true false c₁ true false c₂ false false f₁ false false h₁ p = record { first = c₁; second = c₂; sides = f₁; room = leb-false most_wires (length K.wires) h₁ }

-- two ends that are judged fine, in the fields of a sketch
module _ {b s w : List Row} {h : Totals} {k : Held} (v : held_in b s w h ≡ k) (wf : SketchWf b s w h) (x : SketchPort) (o : ℕ) (y : SketchPort) (r : ℕ) {j : Result (Unit {0}) Reason} (e : j ≡ judge_ends (plan_of k) x o y r) (f : j ≡ Ok tt) where
  abbrev K : Plan
  K = plan_in b s w h

  judged : judge_ends K x o y r ≡ Ok tt
  judged = sym (back (λ (l : Plan). judge_ends l x o y r) v e) ∙ f

  fine : Judgeable K x o y r
  fine = fine_means K x o y r judged

  pub ends_sides : same_side x.side y.side ≡ false
  ends_sides = fine.sides

  pub ends_room : h.wires < row_slots
  ends_room = let l = fine.room in let n = length_wires w h.wires in omega arith

  module _ {p q : ℕ} (a : p ≡ offset_read (plan_of k) x o) (c : q ≡ offset_read (plan_of k) y r) {row : Row} (d : wire_of row ≡ wire_of_sides x.side (place_named x p) (place_named y q)) {w' : List Row} {m : ℕ}
      (g : rows_in w' m ≡ row ∷ rows_in w h.wires) (t : Table w') {h' : Totals} (u : h' ≡ held_wires h m) where
    pub ends_linked : Leaves link_numbers (link_subports (plan_of k) x o y r) b s w' h' (Ok (end# x p, end# y q))
    ends_linked =
        let i = back (λ (l : Plan). offset_read l x o) v a in
        let n = back (λ (l : Plan). offset_read l y r) v c in
        let z : plan_in b s w' h' ≡ with_wire K x (offset_read K x o) y (offset_read K y r) =
        ap (plan_in b s w') u ∙ wire_laid x y p q b s w w' h m refl d g ∙ ap (λ (n : ℕ). with_wire K x n y q) i ∙ ap (λ (n : ℕ). with_wire K x (offset_read K x o) y n) n in
        seen_as (λ (l : Plan). link_subports l x o y r) v
        (leaves_as (with_wire K x (offset_read K x o) y (offset_read K y r)) (Ok (end# x (offset_read K x o), end# y (offset_read K y r)))
        (link_as_judged K x o y r ∙ ap (link_as K x o y r) judged) z
        (ap (λ (n : ℕ). (Ok (end# x n, end# y q))) i ∙ ap (λ (n : ℕ). (Ok (end# x (offset_read K x o), end# y n))) n)
        (tables_wf wf.block_table wf.split_table t z
        (wire_wf K x (offset_read K x o) y (offset_read K y r) wf.plan fine.room (read_within K x o wf.plan fine.first) (read_within K y r wf.plan fine.second))))
