-- Linking two ports over the tables.
use Rattle.std.specs.Prelude.{◌≡◌, refl, Bool, true, false, cond, not, List, ◌∷◌, map, ℕ, ◌<◌, length, Result, Ok, Err}
use Rattle.std.proofs.Common.{sym, ap, ◌∙◌, subst, arith}
use borrow.Author.Tests.{leb-false}
use Rattle.port_tables.specs.Entries.{same_side}
use Rattle.port_tables.specs.Places.{Wire, wire_of_sides}
use Rattle.port_tables.specs.declared.release.Release.{Release}
use Rattle.port_tables.specs.declared.release.Release.TheVariants as release
use Rattle.sketches.specs.Plan.{Plan, with_wires, is_there, wired_side, taken_under, input_taken, place_named, end#, offset_ready, ready}
use Rattle.sketches.specs.PlanCalls.{most_wires, Sketched, leaves, is_full, with_wire, both_linked, link_ports, link_clean}
use Rattle.sketches.specs.PlanNumbers.{link_numbers}
use Rattle.sketches.specs.CallsWf.{ready_wires, ready_there, linked_wf}
use Rattle.sketches.specs.Rows.{rows_in, row_slots, Table, wires_in, wire_of}
use Rattle.sketches.specs.Offsets.{length_wires}
use Rattle.sketches.specs.BlockSteps.{leaves_as, tables_wf}
use Rattle.sketches.specs.SketchTables.{Totals, plan_in, held_wires, SketchWf, Leaves}
use Rattle.sketches.specs.declared.rows.Row.{Row}
use Rattle.sketches.specs.declared.sketch.SketchPort.{SketchPort}
use Rattle.sketches.specs.declared.sketch.Reason.{Reason}
use Rattle.sketches.specs.declared.sketch.Reason.TheVariants.{UnknownPort, NoRoom, UnknownSecondPort, SameSide, InputWired}
use Rattle.sketches.specs.declared.sketch.SketchEnd.{SketchEnd}
use Rattle.sketches.specs.CallParts.{IsPlan, Linkable, judge_by, judge_ports}

-- Inputs with a wire.

pub taken_one : (K : Plan) (x y : SketchPort) → K.release ≡ release.One → false ≡ input_taken K x y
unfolding input_taken
taken_one K x y e = ap (λ (r : Release). taken_under r (wired_side K x x.side) (wired_side K y y.side)) (sym e)

pub taken_first_lem : (K : Plan) (x y : SketchPort) → K.release ≡ release.Two → wired_side K x x.side ≡ true → true ≡ input_taken K x y
unfolding input_taken
taken_first_lem K x y e h = ap (λ (b : Bool). cond b true (wired_side K y y.side)) (sym h) ∙ ap (λ (r : Release). taken_under r (wired_side K x x.side) (wired_side K y y.side)) (sym e)

pub taken_second_lem : (K : Plan) (x y : SketchPort) → K.release ≡ release.Two → wired_side K x x.side ≡ false → wired_side K y y.side ≡ input_taken K x y
unfolding input_taken
taken_second_lem K x y e h = ap (λ (b : Bool). cond b true (wired_side K y y.side)) (sym h) ∙ ap (λ (r : Release). taken_under r (wired_side K x x.side) (wired_side K y y.side)) (sym e)

-- A wire's row.

-- one more wire in the tables of a plan
pub wire_laid : (x y : SketchPort) (o r : ℕ) (b s w w' : List Row) (h : Totals) (m : ℕ) {K : Plan} {row : Row} → plan_in b s w h ≡ K →
    wire_of row ≡ wire_of_sides x.side (place_named x o) (place_named y r) → rows_in w' m ≡ row ∷ rows_in w h.wires →
    plan_in b s w' (held_wires h m) ≡ with_wire K x o y r
wire_laid x y o r b s w w' h m {K} {row} e c q =
    ap (with_wires (plan_in b s w h)) (ap (map wire_of) q ∙ ap (λ (v : Wire). v ∷ wires_in w h.wires) c) ∙ ap (λ (k : Plan). with_wire k x o y r) e

-- the second port is there after the first was made ready
pub both_there : (K : Plan) (x y : SketchPort) {b s w : List Row} {h : Totals} → IsPlan (ready K x) b s w h → is_there K y ≡ true → is_there (plan_in b s w h) y ≡ true
both_there K x y p e = ap (λ (k : Plan). is_there k y) p.plan ∙ ready_there K x y ∙ e

-- Both ports are linked.

module _ (b s w : List Row) (h : Totals) (x y : SketchPort) (l : Linkable b s w h x y) where
  module _ {b₁ s₁ w₁ : List Row} {h₁ : Totals} (p : IsPlan (ready (plan_in b s w h) x) b₁ s₁ w₁ h₁) where
    module _ {b₂ s₂ w₂ : List Row} {h₂ : Totals} (q : IsPlan (ready (plan_in b₁ s₁ w₁ h₁) y) b₂ s₂ w₂ h₂) where
      both : plan_in b₂ s₂ w₂ h₂ ≡ ready (ready (plan_in b s w h) x) y
      both = q.plan ∙ ap (λ (k : Plan). ready k y) p.plan

      pub still_room : h₂.wires < row_slots
      still_room =
          let e = ap (λ (k : Plan). length k.wires) both ∙ ap length (ready_wires (ready (plan_in b s w h) x) y ∙ ready_wires (plan_in b s w h) x) in
          let a = length_wires w₂ h₂.wires in
          let c = length_wires w h.wires in
          let m = l.room in
          omega arith

      module _ {u v : SketchEnd} (f : u ≡ end# x (offset_ready (plan_in b s w h) x)) (g : v ≡ end# y (offset_ready (plan_in b₁ s₁ w₁ h₁) y)) {row : Row} (c : wire_of row ≡ wire_of_sides u.port.side (place_named u.port u.offset) (place_named v.port v.offset))
          (w₃ : List Row) (n : ℕ) {h' : Totals} (a : h' ≡ held_wires h₂ n) (r : rows_in w₃ n ≡ row ∷ rows_in w₂ h₂.wires) (table : Table w₃) where
        pub both_linked_lem : Leaves link_numbers (both_linked (plan_in b s w h) x y) b₂ s₂ w₃ h' (Ok (u, v))
        unfolding ready
        both_linked_lem =
            let k : v ≡ end# y (offset_ready (plan_in b s w h) y) = g ∙ ap (λ (l : List Wire). end# y (offset_ready (with_wires (plan_in b s w h) l) y)) (ap (λ (k : Plan). k.wires) p.plan ∙ ready_wires (plan_in b s w h) x) in
            let d : wire_of row ≡ wire_of_sides x.side (place_named x (offset_ready (plan_in b s w h) x)) (place_named y (offset_ready (plan_in b s w h) y)) =
            c ∙ ap (λ (z : SketchEnd). wire_of_sides z.port.side (place_named z.port z.offset) (place_named v.port v.offset)) f ∙ ap (λ (z : SketchEnd). wire_of_sides x.side (place_named x (offset_ready (plan_in b s w h) x)) (place_named z.port z.offset)) k in
            let e : plan_in b₂ s₂ w₃ h' ≡ (both_linked (plan_in b s w h) x y).plan =
            ap (plan_in b₂ s₂ w₃) a ∙ wire_laid x y (offset_ready (plan_in b s w h) x) (offset_ready (plan_in b s w h) y) b₂ s₂ w₂ w₃ h₂ n both d r in
            let o = length_wires w h.wires in
            let m = l.room in
            leaves_as (both_linked (plan_in b s w h) x y).plan (both_linked (plan_in b s w h) x y).answer refl e
            (ap (λ (z : SketchEnd). (Ok (z, v))) f ∙ ap (λ (z : SketchEnd). (Ok (end# x (offset_ready (plan_in b s w h) x), z))) k)
            (tables_wf q.wf.block_table q.wf.split_table table e (linked_wf (plan_in b s w h) x y l.wf.plan l.first l.second (omega arith)))

  pub ends_apart : {u v : SketchEnd} {o r : ℕ} → u ≡ end# x o → v ≡ end# y r → same_side u.port.side v.port.side ≡ false
  ends_apart f g = rw (f, g) l.sides

-- The calls, as they are judged.

-- what is left of the plan after a refusal
abbrev pub link_as : (Reason → Plan) → Plan → SketchPort → SketchPort → Result (Unit {0}) Reason → Sketched (Result (SketchEnd × SketchEnd) Reason)
link_as left K x y (Ok u) = both_linked K x y
link_as left K x y (Err q) = leaves (left q) (Err q)

-- a link keeps what was made ready
abbrev pub made_ready : Plan → SketchPort → SketchPort → Reason → Plan
made_ready K x y UnknownSecondPort = ready K x
made_ready K x y SameSide = ready (ready K x) y
made_ready K x y q = K

module _ (K : Plan) (x y : SketchPort) where
  as_judged : (left : Reason → Plan) (a b c d e : Bool) →
      cond (not a) (leaves (left UnknownPort) (Err UnknownPort))
      (cond b (leaves (left InputWired) (Err InputWired))
      (cond (not c) (leaves (left UnknownSecondPort) (Err UnknownSecondPort))
      (cond d (leaves (left SameSide) (Err SameSide))
      (cond e (leaves (left NoRoom) (Err NoRoom))
      (both_linked K x y)))))
      ≡ link_as left K x y (judge_by a b c d e)
  as_judged left false b c d e = refl
  as_judged left true true c d e = refl
  as_judged left true false false d e = refl
  as_judged left true false true true e = refl
  as_judged left true false true false true = refl
  as_judged left true false true false false = refl

  pub link_as_judged : link_ports K x y ≡ link_as (made_ready K x y) K x y (judge_ports K x y)
  unfolding link_ports judge_ports
  link_as_judged = as_judged (made_ready K x y) (is_there K x) (input_taken K x y) (is_there K y) (same_side x.side y.side) (is_full K)

  pub clean_as_judged : link_clean K x y ≡ link_as (λ q. K) K x y (judge_ports K x y)
  unfolding link_clean judge_ports
  clean_as_judged = as_judged (λ q. K) (is_there K x) (input_taken K x y) (is_there K y) (same_side x.side y.side) (is_full K)

-- what is known of ports that are judged so
abbrev pub Known : Plan → SketchPort → SketchPort → Result (Unit {0}) Reason → Type 0
Known K x y (Ok u) = (is_there K x ≡ true) × ((is_there K y ≡ true) × ((same_side x.side y.side ≡ false) × (is_full K ≡ false)))
Known K x y (Err UnknownSecondPort) = is_there K x ≡ true
Known K x y (Err SameSide) = (is_there K x ≡ true) × (is_there K y ≡ true)
Known K x y (Err q) = Unit {0}

known_judged : (K : Plan) (x y : SketchPort) → Known K x y (judge_ports K x y)
unfolding judge_ports
known_judged K x y = go (is_there K x) refl (input_taken K x y) (is_there K y) refl (same_side x.side y.side) refl (is_full K) refl
  where
    go : (a : Bool) → is_there K x ≡ a → (b c : Bool) → is_there K y ≡ c → (d : Bool) → same_side x.side y.side ≡ d → (e : Bool) → is_full K ≡ e → Known K x y (judge_by a b c d e)
    go false p b c q d r e t = tt
    go true p true c q d r e t = tt
    go true p false false q d r e t = p
    go true p false true q true r e t = (p, q)
    go true p false true q false r true t = tt
    go true p false true q false r false t = (p, (q, (r, t)))

module _ (b s w : List Row) (h : Totals) (wf : SketchWf b s w h) (x y : SketchPort) {j : Result (Unit {0}) Reason} (e : j ≡ judge_ports (plan_in b s w h) x y) where
  known : {i : Result (Unit {0}) Reason} → j ≡ i → Known (plan_in b s w h) x y i
  known f = subst (Known (plan_in b s w h) x y) (sym e ∙ f) (known_judged (plan_in b s w h) x y)

  pub judged_linkable : j ≡ Ok tt → Linkable b s w h x y
  judged_linkable f =
      let k = known f in
      let n = length_wires w h.wires in
      let l = leb-false most_wires (length (plan_in b s w h).wires) k.1.1.1 in
      record { wf = wf; first = k.0; second = k.1.0; sides = k.1.1.0; room = omega arith }

  pub judged_second : j ≡ Err UnknownSecondPort → is_there (plan_in b s w h) x ≡ true
  judged_second f = known f

  pub judged_sides : j ≡ Err SameSide → (is_there (plan_in b s w h) x ≡ true) × (is_there (plan_in b s w h) y ≡ true)
  judged_sides f = known f
