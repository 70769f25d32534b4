-- Which call of the sketch means which call of the engine. A block of the engine has its number, which is used again after a removal; in the sketch its
-- name is how many adds were accepted before it, which is never used again. Between them stands the list of names, kept along the history.
use Rattle.std.specs.Prelude.{◌≡◌, false, not, List, [], ◌∷◌, ℕ, eqb, Option, Result, Ok, Err}
use Rattle.port_tables.specs.Lists.{Member}
use Rattle.std.specs.List.{filter}
use Rattle.portgraph.specs.Lookups.{contains_node}
use Rattle.port_tables.specs.Places.{spot}
use Rattle.multiportgraph.specs.Reading.{seen}
use Rattle.multi_tables.specs.Forms.{dead}
use Rattle.port_tables.specs.declared.release.Release.{Release}
use Rattle.theorems.specs.Book as book
use Rattle.theorems.specs.Book.{Call, AnswerOf, spot_of}
use Rattle.theorems.specs.History.{State, step, next, run}
use Rattle.sketches.specs.Plan.{Plan, empty_plan, has_block, is_there}
use Rattle.sketches.specs.PlanCalls.{Sketched, add_block, remove_block, set_counts, link_ports, link_clean, link_subports, cut_port, cut_subport, tidy_port}
use Rattle.sketches.specs.declared.sketch.SketchPort.{SketchPort}
use Rattle.sketches.specs.declared.sketch.Reason.{Reason}
use Rattle.sketches.specs.declared.sketch.SketchEnd.{SketchEnd}
use Rattle.port_tables.specs.declared.index.NodeIndex.{NodeIndex}
use Rattle.port_tables.specs.declared.index.PortIndex.{PortIndex}
use Rattle.multi_tables.specs.declared.answers.Refusal.{Refusal}

-- Calls of the sketch that change it.
pub data PlanCall : Type 0 where
  add_plan : ℕ → ℕ → PlanCall
  remove_plan : ℕ → PlanCall
  set_plan : ℕ → ℕ → ℕ → PlanCall
  link_plan : SketchPort → SketchPort → PlanCall
  link_clean_plan : SketchPort → SketchPort → PlanCall
  link_sub_plan : SketchPort → ℕ → SketchPort → ℕ → PlanCall
  cut_plan : SketchPort → PlanCall
  cut_sub_plan : SketchPort → ℕ → PlanCall
  tidy_plan : SketchPort → PlanCall

abbrev pub PlanAnswerOf : PlanCall → Type 0
PlanAnswerOf (add_plan i o) = Result ℕ Reason
PlanAnswerOf (remove_plan n) = Result (Unit {0}) Reason
PlanAnswerOf (set_plan n i o) = Result (Unit {0}) Reason
PlanAnswerOf (link_plan x y) = Result (SketchEnd × SketchEnd) Reason
PlanAnswerOf (link_clean_plan x y) = Result (SketchEnd × SketchEnd) Reason
PlanAnswerOf (link_sub_plan x o y r) = Result (SketchEnd × SketchEnd) Reason
PlanAnswerOf (cut_plan x) = Result (Option SketchPort) Reason
PlanAnswerOf (cut_sub_plan x o) = Result (Option SketchEnd) Reason
PlanAnswerOf (tidy_plan x) = Result (Unit {0}) Reason

abbrev pub plan_step : Plan → (k : PlanCall) → Sketched (PlanAnswerOf k)
plan_step K (add_plan i o) = add_block K i o
plan_step K (remove_plan n) = remove_block K n
plan_step K (set_plan n i o) = set_counts K n i o
plan_step K (link_plan x y) = link_ports K x y
plan_step K (link_clean_plan x y) = link_clean K x y
plan_step K (link_sub_plan x o y r) = link_subports K x o y r
plan_step K (cut_plan x) = cut_port K x
plan_step K (cut_sub_plan x o) = cut_subport K x o
plan_step K (tidy_plan x) = tidy_port K x

-- Names.

-- a block of the engine and its name in the sketch
pub record Naming : Type 0 where
  pub node : ℕ
  pub name : ℕ

-- the engine with its book, the names of its blocks, and the sketch
pub record Both : Type 0 where
  pub kit : State
  pub names : List Naming
  pub plan : Plan

abbrev pub start : Release → Both
start release = record { kit = run release []; names = []; plan = empty_plan release }

-- an add that the engine accepts gives its block the name that is due in the sketch; a removal takes a name out
abbrev pub named_add : List Naming → ℕ → Result (NodeIndex × PortIndex) Refusal → List Naming
named_add l name (Ok (n, p)) = record { node = n.0; name = name } ∷ l
named_add l name (Err r) = l

abbrev pub named_remove : List Naming → ℕ → Result (Unit {0}) Refusal → List Naming
named_remove l n (Ok tt) = filter (λ (x : Naming). not (eqb x.node n)) l
named_remove l n (Err r) = l

abbrev pub names_after : List Naming → ℕ → (c : Call) → AnswerOf c → List Naming
names_after l name (book.add_call i o) v = named_add l name v
names_after l name (book.remove_call n) v = named_remove l n v
names_after l name (book.set_call n i o room) v = l
names_after l name (book.link_call a b) v = l
names_after l name (book.link_clean_call a b) v = l
names_after l name (book.link_sub_call p o q r) v = l
names_after l name (book.cut_call p) v = l
names_after l name (book.cut_sub_call p o) v = l
names_after l name (book.tidy_call p) v = l

-- A call of each, made on both.
pub record Pair : Type 0 where
  pub call : Call
  pub sketched : PlanCall

abbrev pub next_both : Both → Pair → Both
next_both b p =
    record {
      kit = next b.kit p.call;
      names = names_after b.names b.plan.adds p.call (step b.kit.graph p.call).answer;
      plan = (plan_step b.plan p.sketched).plan;
    }

-- Which port and which block mean which. A number of a hidden node or of its ports means nothing, so no call that means something names one.

-- a live port of a block is at the same side and position of the block with its name; a number that is not live means any port that is not there
pub data PortMeans (b : Both) (p : ℕ) (x : SketchPort) : Type 0 where
  same_port : (n : ℕ) → spot_of b.kit.book.blocks p ≡ spot n x.side x.position → Member (record { node = n; name = x.block }) b.names → PortMeans b p x
  no_port : seen b.kit.graph p ≡ dead → is_there b.plan x ≡ false → PortMeans b p x

pub data BlockMeans (b : Both) (n k : ℕ) : Type 0 where
  same_block : Member (record { node = n; name = k }) b.names → BlockMeans b n k
  no_block : contains_node b.kit.graph.graph n ≡ false → has_block b.plan.blocks k ≡ false → BlockMeans b n k

pub data Means (b : Both) : Call → PlanCall → Type 0 where
  means_add : (i o : ℕ) → Means b (book.add_call i o) (add_plan i o)
  means_remove : (n k : ℕ) → BlockMeans b n k → Means b (book.remove_call n) (remove_plan k)
  means_set : (n k i o room : ℕ) → BlockMeans b n k → Means b (book.set_call n i o room) (set_plan k i o)
  means_link : (p q : ℕ) (x y : SketchPort) → PortMeans b p x → PortMeans b q y → Means b (book.link_call p q) (link_plan x y)
  means_link_clean : (p q : ℕ) (x y : SketchPort) → PortMeans b p x → PortMeans b q y → Means b (book.link_clean_call p q) (link_clean_plan x y)
  means_link_sub : (p o q r : ℕ) (x y : SketchPort) → PortMeans b p x → PortMeans b q y → Means b (book.link_sub_call p o q r) (link_sub_plan x o y r)
  means_cut : (p : ℕ) (x : SketchPort) → PortMeans b p x → Means b (book.cut_call p) (cut_plan x)
  means_cut_sub : (p o : ℕ) (x : SketchPort) → PortMeans b p x → Means b (book.cut_sub_call p o) (cut_sub_plan x o)
  means_tidy : (p : ℕ) (x : SketchPort) → PortMeans b p x → Means b (book.tidy_call p) (tidy_plan x)
