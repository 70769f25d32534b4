-- What is proved of every call: one bundle, made in a file for each call and collected in CallLaws.
use Rattle.std.specs.Prelude.{◌≡◌, false}
use Rattle.std.proofs.Common.{ap}
use Rattle.portgraph.specs.Model.{Model}
use Rattle.theorems.specs.Book.{Call}
use Rattle.multiportgraph.specs.declared.multiportgraph.MultiPortGraph.{MultiPortGraph}
use Rattle.multi_tables.specs.declared.answers.Refusal.{Refusal}
use Rattle.multi_tables.specs.declared.answers.Refusal.TheVariants.{NoRoom}
use Rattle.theorems.specs.History.{step, entered}
use Rattle.theorems.proofs.WireRule.{Leads}
use Rattle.theorems.specs.Works.{works_of}
use Rattle.theorems.specs.Conditions.{Condition, RefusedBy, leaves_prepared}
use Rattle.multiportgraph.specs.Space.{Spaced}

-- what is proved of a call on a graph that stands for a model
pub record CallLaw (m : MultiPortGraph) (M : Model) (c : Call) : Type 0 where
  -- the graph afterwards stands for a model, and the book goes with it
  pub leads : Leads m M (step m c).graph (entered m c)
  -- each refusal is given under its condition, and leaves the graph but for the preparations that stay
  pub refuses : (r : Refusal) → Condition m M c r → RefusedBy c (step m c).answer r × (leaves_prepared c r ≡ false → (step m c).graph ≡ m)
  -- and under no other
  pub only : (r : Refusal) → RefusedBy c (step m c).answer r → Condition m M c r
  -- refused with 10 exactly if its works overflow, else the room is that after them
  pub space : Spaced m M (works_of m c) (RefusedBy c (step m c).answer NoRoom) (step m c).graph

-- a refusal known whole, answer and graph
pub whole : {R A P : Type 0} {v w : R} (answer : R → A) (graph : R → MultiPortGraph) → v ≡ w → (answer v ≡ answer w) × (P → graph v ≡ graph w)
whole answer graph e = (ap answer e, λ n. ap graph e)
