-- What is proved of the engine and the sketch together (document 02, Req 11). Words: Meaning, Agreement, Histories.
use Rattle.std.specs.Prelude.{◌≡◌, List, [], map, ℕ, ◌*◌, ◌≤◌, ◌<◌, length, Ok}
use Rattle.multi_tables.specs.declared.answers.Refusal.TheVariants.{NoRoom, MovesTooShort}
use Rattle.port_tables.specs.declared.release.Release.{Release}
use Rattle.theorems.specs.Book.{Call}
use Rattle.theorems.specs.Conditions.{RefusedBy}
use Rattle.theorems.specs.History.{step, run}
use Rattle.sketches.specs.Plan.{ports_in_all}
use Rattle.sketches.specs.PlanCalls.{add_block}
use Rattle.sketches.specs.declared.sketch.Reason.TheVariants as reason
use Rattle.agreement.specs.Meaning.{PlanCall, plan_step, Pair, start, Means}
use Rattle.agreement.specs.Agreement.{NamesNoHidden, PlanRefusedBy}
use Rattle.agreement.specs.Histories.{PairItem, calls, after, accepted_adds, Meant, KitAllows, Agreed}
use Rattle.agreement.specs.Agrees as agrees
use Rattle.agreement.specs.Space as space
use Rattle.agreement.specs.Partners as partners
use Rattle.agreement.specs.NameCounts as counts
use Rattle.agreement.specs.Covered as covered

-- Over any history of calls and sheets that mean the same in both, in which no call names a hidden node or its ports, move lists are long enough and neither
-- refuses for space: every call, and every entry of a sheet, is accepted in both, or refused in both by the same number, and answers the same places; and
-- before every call and at the end both have the same release, counts, fan-outs, blocks, subports and wires, each wire once, in every walk.
pub sketch_agrees : (release : Release) (items : List PairItem) (m : Meant (start release) items) → Agreed (start release) items m
sketch_agrees = agrees.sketch_agrees

-- After such a history a call of the engine that names no hidden node or port has a call of the sketch that means the same,
pub kit_calls_have_partners : (release : Release) (items : List PairItem) → Meant (start release) items → (c : Call) → NamesNoHidden (after (start release) items).kit.graph c →
    (k : PlanCall) × Means (after (start release) items) c k
kit_calls_have_partners release items m = partners.sketch_partner (agrees.alike_history release items m).1

-- and every call of the sketch one of the engine, with a move list of whatever length.
pub sketch_calls_have_partners : (release : Release) (items : List PairItem) → Meant (start release) items → (k : PlanCall) (room : ℕ) →
    (c : Call) × Means (after (start release) items) c k
sketch_calls_have_partners release items m = partners.kit_partner (agrees.alike_history release items m).1

-- So every history of the engine's calls, fewer than 4,294,967,296 of them, in which no call names a hidden node or its ports and none is refused for its move
-- list or for space, is the engine's half of one that `sketch_agrees` speaks of.
pub kit_history_covered : (release : Release) (l : List Call) → KitAllows (run release []) l → length l ≤ 4294967295 →
    (ps : List Pair) × (map (λ (p : Pair). p.call) ps ≡ l) × Meant (start release) (map calls ps)
kit_history_covered = covered.kit_history_covered

-- Where the engine does not refuse a call for space, nor for its move list, the sketch does not refuse it for space either, but for the count of adds.
pub sketch_space : (release : Release) (items : List PairItem) → Meant (start release) items → {c : Call} {k : PlanCall} → Means (after (start release) items) c k →
    (RefusedBy c (step (after (start release) items).kit.graph c).answer MovesTooShort → ⊥) → (RefusedBy c (step (after (start release) items).kit.graph c).answer NoRoom → ⊥) →
    (after (start release) items).plan.adds < 4294967295 → PlanRefusedBy k (plan_step (after (start release) items).plan k).answer reason.NoRoom → ⊥
sketch_space release items m = space.room_for_both (agrees.alike_history release items m).1

-- It then has at most 1,024 blocks, 3,072 ports of blocks and 1,536 wires.
pub sketch_sizes : (release : Release) (items : List PairItem) → Meant (start release) items →
    (length (after (start release) items).plan.blocks ≤ 1024) × (ports_in_all (after (start release) items).plan.blocks ≤ 3072) × (2 * length (after (start release) items).plan.wires ≤ 3072)
sketch_sizes release items m =
    let a = (agrees.alike_history release items m).1 in
    (space.few_blocks a, space.few_ports a, space.few_wires a)

-- After any list of items, whatever they mean, the sketch's count of adds is how many adds it accepted in them,
pub names_are_adds : (release : Release) (items : List PairItem) → (after (start release) items).plan.adds ≡ accepted_adds (start release) items
names_are_adds = counts.names_are_adds

-- and an add that it then accepts answers that number as the name: a block is named by how many adds were accepted before it, so no name is given again.
pub added_name : (release : Release) (items : List PairItem) (i o k : ℕ) → (add_block (after (start release) items).plan i o).answer ≡ Ok k →
    k ≡ accepted_adds (start release) items
added_name = counts.added_name
