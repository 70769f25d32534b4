-- A sketch as contracts see it: its tables and its numbers. What a call leaves of it, by the call's definition.
use Rattle.std.specs.Prelude.{◌≡◌, List, ℕ}
use Rattle.std.proofs.Common.{sym, subst}
use Rattle.sketches.specs.Plan.{Plan}
use Rattle.sketches.specs.PlanCalls.{Sketched}
use Rattle.sketches.specs.SketchTables.{Totals, plan_in, SketchWf, Leaves}
use Rattle.port_tables.specs.declared.release.Release.{Release}
use Rattle.sketches.specs.declared.rows.Row.{Row}
use Rattle.sketches.specs.declared.tables.Rows.{Rows}

pub record Held : Type 0 where
  pub blocks : List Row
  pub splits : List Row
  pub wires : List Row
  pub totals : Totals

abbrev pub held_in : List Row → List Row → List Row → Totals → Held
held_in b s w h = record { blocks = b; splits = s; wires = w; totals = h }

-- what the fields of a sketch amount to
abbrev pub held : Release → ℕ → Rows → Rows → Rows → Held
held r a b s w = record { blocks = b.rows; splits = s.rows; wires = w.rows; totals = record { release = r; adds = a; blocks = b.count; splits = s.count; wires = w.count } }

abbrev pub plan_of : Held → Plan
plan_of k = plan_in k.blocks k.splits k.wires k.totals

-- what holds of every sketch
abbrev pub HeldWf : Held → Type 0
HeldWf k = SketchWf k.blocks k.splits k.wires k.totals

abbrev pub Left : {A : Type 0} → (A → List ℕ) → Sketched A → Held → A → Type 0
Left numbers called k answer = Leaves numbers called k.blocks k.splits k.wires k.totals answer

-- a call that is proved on the fields of a sketch
pub seen_as : {A : Type 0} {numbers : A → List ℕ} (f : Plan → Sketched A) {i k : Held} {b s w : List Row} {h : Totals} {a : A} → i ≡ k → Leaves numbers (f (plan_of i)) b s w h a → Leaves numbers (f (plan_of k)) b s w h a
seen_as {A} {numbers} f {i} {k} {b} {s} {w} {h} {a} e p = subst (λ (x : Held). Leaves numbers (f (plan_of x)) b s w h a) e p

-- what is read of the fields of a sketch, read of the sketch
pub on : {A : Type 0} (f : Plan → A) {i k : Held} {a : A} → i ≡ k → a ≡ f (plan_of i) → a ≡ f (plan_of k)
on {A} f {i} {k} {a} e p = subst (λ (x : Held). a ≡ f (plan_of x)) e p

-- what is read of a sketch, read of its fields
pub back : {A : Type 0} (f : Plan → A) {i k : Held} {a : A} → i ≡ k → a ≡ f (plan_of k) → a ≡ f (plan_of i)
back {A} f {i} {k} {a} e p = subst (λ (x : Held). a ≡ f (plan_of x)) (sym e) p
