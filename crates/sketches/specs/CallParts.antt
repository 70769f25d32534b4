-- The parts of the calls, as the contracts of the functions under them cite them.
use Rattle.std.specs.Prelude.{◌≡◌, Bool, true, false, not, ◌||◌, List, ℕ, ◌+◌, ◌≤◌, ◌<◌, eqb, leb, ltb, length, min, take, drop, Result, Ok, Err, Option, Some, None, cond, get_or, set}
use Rattle.port_tables.specs.Limits.{node_slots, port_slots}
use Rattle.port_tables.specs.Places.{Place, Wire, at_spot, at_end, Spot, any_touches}
use Rattle.sketches.specs.Plan.{PlanBlock, Plan, has_block, ports_in_all, spot_named, is_there, lacks_offset, Far, nothing, far, input_taken, subports_among}
use Rattle.sketches.specs.PlanCalls.{most_adds, bad_offset, is_full, is_wired, sheet_entries, sheet_answered, sheet}
use Rattle.sketches.specs.PlanNumbers.{sheet_numbers}
use Rattle.sketches.specs.PlanWf.{splits_set}
use Rattle.sketches.specs.Rows.{splits_in, place_in, row_slots}
use Rattle.sketches.specs.SketchTables.{Totals, plan_in, SketchWf}
use Rattle.sketches.specs.declared.rows.Row.{Row}
use Rattle.sketches.specs.declared.sketch.Reason.TheVariants.{NoRoom, UnknownBlock, UnknownPort, BadOffset, UnknownOffset, UnknownSecondPort, SameSide, InputWired, AlreadyLinked}
use Rattle.sketches.specs.declared.sketch.Reason.{Reason}
use Rattle.port_tables.specs.declared.direction.Direction.TheVariants.{Incoming}
use Rattle.sketches.specs.PlanLists.{block_count, port_count, wire_count}
use Rattle.sketches.specs.declared.counts.SketchCounts.{SketchCounts}
use Rattle.sketches.specs.declared.sketch.SketchPort.{SketchPort}
use Rattle.sketches.specs.declared.tests.RowEnd.{RowEnd}
use Rattle.port_tables.specs.Entries.{same_side, side_number}
use Rattle.sketches.specs.Held.{Held, plan_of}
use Rattle.sketches.specs.declared.sketch.TooManyEntries.{TooManyEntries}
use Rattle.sketches.specs.declared.sketch.SheetEntry.{SheetEntry}

-- Answers.

-- an answer, by its definition
pub record Answers {A : Type 0} (numbers : A → List ℕ) (called answer : A) : Type 0 where
  pub answered : answer ≡ called
  pub numbered : numbers answer ≡ numbers called

abbrev pub far_of : Option RowEnd → Far
far_of None = nothing
far_of (Some x) = far (place_in x)

abbrev pub counts_of : Plan → SketchCounts
counts_of K = record { blocks = block_count K; ports = port_count K; wires = wire_count K }

-- Blocks.

-- whether an add would pass the adds, the blocks or the ports of a sketch
abbrev pub no_room : ℕ → ℕ → List PlanBlock → ℕ → Bool
no_room adds count blocks ports = leb most_adds adds || (leb node_slots count || ltb port_slots (ports_in_all blocks + ports))

-- The wired offsets of a port, as marks.

-- an offset is marked; one beyond the table is left out
abbrev pub mark : List Bool → ℕ → List Bool
mark m o = cond (ltb o row_slots) (set m o true) m

-- the offset of an end, marked if it is at a spot
abbrev pub marked : Spot → Place → List Bool → List Bool
marked s x m = cond (at_spot s x) (mark m x.offset) m

-- the marks are the wired offsets
pub record Marks (s : Spot) (l : List Wire) (m : List Bool) : Type 0 where
  pub long : length m ≡ row_slots
  pub right : (o : ℕ) → o < row_slots → get_or m o false ≡ any_touches (at_end s o) l

-- Split ports.

-- the split ports with another number of subports at one of them, where it is another
abbrev pub splits_with : List Place → SketchPort → ℕ → List Place
splits_with l p c = cond (eqb (subports_among l (spot_named p)) c) l (splits_set l p c)

-- there is room for the change
abbrev pub SplitsRoom : List Row → ℕ → SketchPort → ℕ → Type 0
SplitsRoom t n p c = length (splits_with (splits_in t n) p c) ≤ row_slots

abbrev pub split_row : SketchPort → ℕ → Row
split_row p c = record { 0 = p.block; 1 = side_number p.side; 2 = p.position; 3 = c; 4 = 0; 5 = 0 }

-- a plan, in these tables
pub record IsPlan (K : Plan) (b s w : List Row) (h : Totals) : Type 0 where
  pub plan : plan_in b s w h ≡ K
  pub wf : SketchWf b s w h

-- the same of a sketch
abbrev pub HeldPlan : Plan → Held → Type 0
HeldPlan K k = IsPlan K k.blocks k.splits k.wires k.totals

-- What is refused before any change.

-- 4
abbrev pub judge_block : Plan → ℕ → Result (Unit {0}) Reason
judge_block K n = cond (has_block K.blocks n) (Ok tt) (Err UnknownBlock)

-- 7
abbrev pub judge_port : Plan → SketchPort → Result (Unit {0}) Reason
judge_port K x = cond (is_there K x) (Ok tt) (Err UnknownPort)

-- 18, 11, 12
abbrev pub judge_second : Plan → SketchPort → SketchPort → Result (Unit {0}) Reason
judge_second K x y = cond (input_taken K x y) (Err InputWired) (cond (not (is_there K y)) (Err UnknownSecondPort) (cond (same_side x.side y.side) (Err SameSide) (Ok tt)))

-- 7, 18, 11, 12, 10
abbrev pub judge_by : Bool → Bool → Bool → Bool → Bool → Result (Unit {0}) Reason
judge_by there taken second sides full =
    cond (not there) (Err UnknownPort)
    (cond taken (Err InputWired)
    (cond (not second) (Err UnknownSecondPort)
    (cond sides (Err SameSide)
    (cond full (Err NoRoom)
    (Ok tt)))))

unfoldable pub judge_ports : Plan → SketchPort → SketchPort → Result (Unit {0}) Reason
judge_ports K x y = judge_by (is_there K x) (input_taken K x y) (is_there K y) (same_side x.side y.side) (is_full K)

-- 2, 7, 9
abbrev pub judge_one : Bool → Bool → Bool → Result (Unit {0}) Reason
judge_one bad there lacks = cond bad (Err BadOffset) (cond (not there) (Err UnknownPort) (cond lacks (Err UnknownOffset) (Ok tt)))

unfoldable pub judge_end : Plan → SketchPort → ℕ → Result (Unit {0}) Reason
judge_end K x o = judge_one (bad_offset o) (is_there K x) (lacks_offset K x o)

-- 2, 7, 9, 18, 11, 12, 13, 10
abbrev pub judge_all : Bool → Bool → Bool → Bool → Bool → Bool → Bool → Bool → Result (Unit {0}) Reason
judge_all bad there lacks taken second sides wired full =
    cond bad (Err BadOffset)
    (cond (not there) (Err UnknownPort)
    (cond lacks (Err UnknownOffset)
    (cond taken (Err InputWired)
    (cond (not second) (Err UnknownSecondPort)
    (cond sides (Err SameSide)
    (cond wired (Err AlreadyLinked)
    (cond full (Err NoRoom)
    (Ok tt))))))))

unfoldable pub judge_ends : Plan → SketchPort → ℕ → SketchPort → ℕ → Result (Unit {0}) Reason
judge_ends K x o y r =
    judge_all (bad_offset o || bad_offset r) (is_there K x) (lacks_offset K x o || cond (is_there K y) (lacks_offset K y r) false) (input_taken K x y) (is_there K y) (same_side x.side y.side)
    (is_wired K x o || is_wired K y r) (is_full K)

-- Links.

-- two ports that may be linked
pub record Linkable (b s w : List Row) (h : Totals) (x y : SketchPort) : Type 0 where
  pub wf : SketchWf b s w h
  pub first : is_there (plan_in b s w h) x ≡ true
  pub second : is_there (plan_in b s w h) y ≡ true
  pub sides : same_side x.side y.side ≡ false
  pub room : h.wires < row_slots

-- Sheets.

abbrev no_port : SketchPort
no_port = record { block = 0; side = Incoming; position = 0 }

abbrev pub no_entry : SheetEntry
no_entry = record { from = no_port; to = no_port; answer = Err NoRoom }

-- what a sheet leaves: the plan, the answer, and in each entry its own answer; a sheet that is too long keeps its entries
pub record SheetLeaves (K : Plan) (entries : List SheetEntry) (k : Held) (after : List SheetEntry) (answer : Result (Unit {0}) TooManyEntries) : Type 0 where
  pub plan : plan_of k ≡ (sheet K entries).plan
  pub answered : answer ≡ (sheet K entries).answer
  pub numbered : sheet_numbers answer ≡ sheet_numbers (sheet K entries).answer
  pub answers : length entries ≤ sheet_entries → after ≡ sheet_answered K entries
  pub untouched : sheet_entries < length entries → after ≡ entries

-- a sheet whose caller holds its entries in an array has one place more than entries, so that one that is too long can be handed in
abbrev pub sheet_places : ℕ
sheet_places = 65

-- The first places, as many as are counted, are the sheet, and all of them where the count is more; the others stay.
pub record FirstLeaves (K : Plan) (places : List SheetEntry) (count : ℕ) (k : Held) (after : List SheetEntry) (answer : Result (Unit {0}) TooManyEntries) : Type 0 where
  pub sheet : SheetLeaves K (take (min count sheet_places) places) k (take (min count sheet_places) after) answer
  pub others : drop (min count sheet_places) after ≡ drop (min count sheet_places) places
