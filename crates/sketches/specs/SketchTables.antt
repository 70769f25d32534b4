-- The tables of a sketch and its numbers as a plan, and what a call promises: the plan that it leaves, its answer and the numbers of that, by the
-- call's definition. What every call presumes and keeps is `SketchWf`.
use Rattle.std.specs.Prelude.{◌≡◌, List, ℕ}
use Rattle.port_tables.specs.declared.release.Release.{Release}
use Rattle.sketches.specs.Plan.{Plan}
use Rattle.sketches.specs.PlanCalls.{Sketched}
use Rattle.sketches.specs.PlanWf.{PlanWf}
use Rattle.sketches.specs.Rows.{Table, blocks_in, splits_in, wires_in}
use Rattle.sketches.specs.declared.rows.Row.{Row}

-- the numbers of a sketch: its release, the adds that were accepted, and how many rows of each table are in use
pub record Totals : Type 0 where
  pub release : Release
  pub adds : ℕ
  pub blocks : ℕ
  pub splits : ℕ
  pub wires : ℕ

abbrev pub totals_counts : Totals → ℕ → ℕ → ℕ → Totals
totals_counts h b s w = record { release = h.release; adds = h.adds; blocks = b; splits = s; wires = w }

abbrev pub held_splits : Totals → ℕ → Totals
held_splits h s = totals_counts h h.blocks s h.wires

abbrev pub held_wires : Totals → ℕ → Totals
held_wires h w = totals_counts h h.blocks h.splits w

-- the plan of three tables
abbrev pub plan_in : List Row → List Row → List Row → Totals → Plan
plan_in b s w h =
    record {
      release = h.release;
      adds = h.adds;
      blocks = blocks_in b h.blocks;
      splits = splits_in s h.splits;
      wires = wires_in w h.wires;
    }

pub record SketchWf (b s w : List Row) (h : Totals) : Type 0 where
  pub block_table : Table b
  pub split_table : Table s
  pub wire_table : Table w
  pub plan : PlanWf (plan_in b s w h)

-- what a call leaves: the tables, the numbers beside them and the answer
pub record Leaves {A : Type 0} (numbers : A → List ℕ) (called : Sketched A) (b s w : List Row) (h : Totals) (answer : A) : Type 0 where
  pub plan : plan_in b s w h ≡ called.plan
  pub answered : answer ≡ called.answer
  pub numbered : numbers answer ≡ numbers called.answer
  pub wf : SketchWf b s w h
