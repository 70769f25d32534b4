-- Histories of both: calls of each that mean the same, and wiring sheets with as many entries, one after the other. What is asked of a history, and what
-- is claimed of it. A sheet is judged entry by entry: what an entry names is read when it is its turn.
use Rattle.std.specs.Prelude.{◌≡◌, List, [], ◌∷◌, ℕ, ◌+◌, ◌<◌, ◌≤◌, length, Result, Ok, Err}
use Rattle.multi_tables.specs.declared.answers.Refusal.TheVariants.{NoRoom, MovesTooShort}
use Rattle.theorems.specs.Book as book
use Rattle.theorems.specs.Book.{Call}
use Rattle.theorems.specs.Conditions.{RefusedBy}
use Rattle.theorems.specs.History.{State, step, next}
use Rattle.sheets.specs.Sheets.{sheet_numbers, link_sheet, sheet_after}
use Rattle.sheets.specs.SheetHistory as sheet
use Rattle.sheets.specs.declared.sheet.SheetEntry.{SheetEntry}
use Rattle.sketches.specs.PlanCalls as sketch
use Rattle.sketches.specs.PlanNumbers as number
use Rattle.sketches.specs.declared.sketch.SheetEntry as plan_entry
use Rattle.agreement.specs.Meaning.{PlanCall, add_plan, remove_plan, set_plan, link_plan, link_clean_plan, link_sub_plan, cut_plan, cut_sub_plan, tidy_plan, PlanAnswerOf, plan_step, Both, Pair, next_both, PortMeans, Means}
use Rattle.agreement.specs.Agreement.{AnswersAlike, LinkAlike, NamesNoHidden, HasRoom, LooksAlike}
use Rattle.sketches.specs.declared.sketch.Reason.{Reason}

-- an entry of a sheet of the sketch
abbrev pub PlanEntry : Type 0
PlanEntry = plan_entry.SheetEntry

-- A call of each, or a sheet of each.
pub data PairItem : Type 0 where
  calls : Pair → PairItem
  sheets : List SheetEntry → List PlanEntry → PairItem

-- both after it
abbrev pub next_item : Both → PairItem → Both
next_item b (calls p) = next_both b p
next_item b (sheets es ps) = record { kit = sheet.next_item b.kit (sheet.whole_sheet es); names = b.names; plan = (sketch.sheet b.plan ps).plan }

-- both after a list of items
abbrev pub after : Both → List PairItem → Both
after b [] = b
after b (i ∷ l) = after (next_item b i) l

-- How many adds the sketch accepts, along a list of items.
abbrev pub adds_of : Result ℕ Reason → ℕ
adds_of (Ok n) = 1
adds_of (Err r) = 0

abbrev pub call_adds : (k : PlanCall) → PlanAnswerOf k → ℕ
call_adds (add_plan i o) v = adds_of v
call_adds (remove_plan n) v = 0
call_adds (set_plan n i o) v = 0
call_adds (link_plan x y) v = 0
call_adds (link_clean_plan x y) v = 0
call_adds (link_sub_plan x o y r) v = 0
call_adds (cut_plan x) v = 0
call_adds (cut_sub_plan x o) v = 0
call_adds (tidy_plan x) v = 0

abbrev pub item_adds : Both → PairItem → ℕ
item_adds b (calls p) = call_adds p.sketched (plan_step b.plan p.sketched).answer
item_adds b (sheets es ps) = 0

abbrev pub accepted_adds : Both → List PairItem → ℕ
accepted_adds b [] = 0
accepted_adds b (i ∷ l) = item_adds b i + accepted_adds (next_item b i) l

-- What is asked.

-- the link that an entry of each asks for
abbrev pub entry_pair : SheetEntry → PlanEntry → Pair
entry_pair e p = record { call = book.link_call e.port_a.0 e.port_b.0; sketched = link_plan p.from p.to }

-- the entries in order: each names ports that mean the same when it is its turn, and has room
abbrev pub MeantEntries : Both → List SheetEntry → List PlanEntry → Type 0
MeantEntries b [] [] = Unit {0}
MeantEntries b [] (p ∷ ps) = ⊥
MeantEntries b (e ∷ es) [] = ⊥
MeantEntries b (e ∷ es) (p ∷ ps) =
    PortMeans b e.port_a.0 p.from × PortMeans b e.port_b.0 p.to × HasRoom b (entry_pair e p) × MeantEntries (next_both b (entry_pair e p)) es ps

-- of a sheet that is too long nothing is asked but that the other is as long
abbrev pub MeantSheet : Both → List SheetEntry → List PlanEntry → Type 0
MeantSheet b es ps = (length es ≡ length ps) × (length es ≤ 64 → MeantEntries b es ps)

abbrev pub MeantItem : Both → PairItem → Type 0
MeantItem b (calls p) = Means b p.call p.sketched × HasRoom b p
MeantItem b (sheets es ps) = MeantSheet b es ps

-- each item means the same in both when it is made; no call names a hidden node or one of its ports, move lists are long enough, and neither refuses
-- for space
abbrev pub Meant : Both → List PairItem → Type 0
Meant b [] = Unit {0}
Meant b (i ∷ l) = MeantItem b i × Meant (next_item b i) l

-- A history of the engine alone, from a state: no call names a hidden node or its ports, none is refused for its move list, and none for space.
abbrev pub KitAllows : State → List Call → Type 0
KitAllows s [] = Unit {0}
KitAllows s (c ∷ l) =
    NamesNoHidden s.graph c × (RefusedBy c (step s.graph c).answer MovesTooShort → ⊥) × (RefusedBy c (step s.graph c).answer NoRoom → ⊥) × KitAllows (next s c) l

-- What is claimed.

-- each entry is answered alike, by the names at its turn
abbrev pub EntriesAlike : Both → List SheetEntry → List PlanEntry → List SheetEntry → List PlanEntry → Type 0
EntriesAlike b [] ps [] [] = Unit {0}
EntriesAlike b [] ps [] (y ∷ ys) = ⊥
EntriesAlike b [] ps (x ∷ xs) ys = ⊥
EntriesAlike b (e ∷ es) [] xs ys = ⊥
EntriesAlike b (e ∷ es) (p ∷ ps) [] ys = ⊥
EntriesAlike b (e ∷ es) (p ∷ ps) (x ∷ xs) [] = ⊥
EntriesAlike b (e ∷ es) (p ∷ ps) (x ∷ xs) (y ∷ ys) = LinkAlike b x.answer y.answer × EntriesAlike (next_both b (entry_pair e p)) es ps xs ys

-- a sheet's own answer has the same number, 0 or 14; where it is done, its entries are answered alike
pub record SheetsAlike (b : Both) (es : List SheetEntry) (ps : List PlanEntry) : Type 0 where
  pub number : sheet_numbers (link_sheet b.kit.graph es).answer ≡ number.sheet_numbers (sketch.sheet b.plan ps).answer
  pub entries : length es ≤ 64 → EntriesAlike b es ps (sheet_after b.kit.graph es) (sketch.sheet_answered b.plan ps)
  -- a sheet that is refused changes neither
  pub refused : 64 < length es → next_item b (sheets es ps) ≡ b

abbrev pub AnsweredAlike : (b : Both) (i : PairItem) → MeantItem b i → Type 0
AnsweredAlike b (calls p) m = AnswersAlike b (next_both b p) m.0 (step b.kit.graph p.call).answer (plan_step b.plan p.sketched).answer
AnsweredAlike b (sheets es ps) m = SheetsAlike b es ps

-- before each item and at the end both look alike, and each item is answered alike
abbrev pub Agreed : (b : Both) (l : List PairItem) → Meant b l → Type 0
Agreed b [] m = LooksAlike b
Agreed b (i ∷ l) m = LooksAlike b × AnsweredAlike b i m.0 × Agreed (next_item b i) l m.1
