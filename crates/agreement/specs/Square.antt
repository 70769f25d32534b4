-- A square: a pair of calls that means the same, made on an engine and a sketch that are alike, answers alike and leaves the two alike.
use Rattle.portgraph.specs.Model.{Model}
use Rattle.theorems.specs.Book.{Call}
use Rattle.theorems.specs.History.{step}
use Rattle.agreement.specs.Meaning.{PlanCall, plan_step, Both, Pair, next_both, Means}
use Rattle.agreement.specs.Agreement.{AnswersAlike, HasRoom}
use Rattle.agreement.specs.Alike.{Alike}
use Rattle.std.specs.Prelude.{◌≡◌}
use Rattle.std.proofs.Common.{sym}
use Rattle.std.proofs.Math.Path.{transport}

abbrev pub pair : Call → PlanCall → Pair
pair c k = record { call = c; sketched = k }

pub record Squared (b : Both) {c : Call} {k : PlanCall} (means : Means b c k) : Type 0 where
  pub answers : AnswersAlike b (next_both b (pair c k)) means (step b.kit.graph c).answer (plan_step b.plan k).answer
  pub model : Model
  pub alike : Alike (next_both b (pair c k)) model

abbrev pub Square : (b : Both) → Model → {c : Call} {k : PlanCall} → Means b c k → Type 0
Square b M {c} {k} means = Alike b M → HasRoom b (pair c k) → Squared b means

-- what two equal outcomes say, the outcomes say
pub as_both : {A B : Type 0} (R : A → B → Type 0) {v v' : A} {w : B} (w' : B) → v ≡ v' → w ≡ w' → R v' w' → R v w
as_both R w' p q r = transport (λ i. R (sym p i) (sym q i)) r

-- a pair of calls that answers alike and leaves both alike
pub squared : {b : Both} {c : Call} {k : PlanCall} {means : Means b c k} →
    AnswersAlike b (next_both b (pair c k)) means (step b.kit.graph c).answer (plan_step b.plan k).answer × ((M : Model) × Alike (next_both b (pair c k)) M) → Squared b means
squared l = record { answers = l.0; model = l.1.0; alike = l.1.1 }
