-- A sheet is its links made one at a time, and a history with sheets is the history of its calls: so what holds of every list of calls
-- holds with sheets in the list.
use Rattle.std.specs.Prelude.{◌≡◌, refl, Bool, true, false, cond, ◌↔◌, ℕ, zero, suc, ◌+◌, ◌<◌, ◌≤◌, min, length, take, Result, Ok, Err, ⊤}
use Rattle.std.proofs.Common.{sym, ap, subst, ◌∙◌, not-suc-le-zero, le_of_suc-le-suc, arith, lit<, lt-ltb, le-ltb, ltb-true, ltb-false}
use mathlib.Core.List.{List, [], ◌∷◌, ◌++◌, map, flat_map, append-nil}
use Rattle.std.proofs.Math.Nat.{min-eq_left, min-eq_right}
use Rattle.std.proofs.Math.Seq.{take-length, drop-length, take-append_seam, drop-append_seam}
use Rattle.port_tables.specs.declared.index.PortIndex.{PortIndex}
use Rattle.multiportgraph.specs.WellFormed.{MultiWf}
use Rattle.port_tables.specs.declared.release.Release.{Release}
use Rattle.multiportgraph.specs.declared.multiportgraph.MultiPortGraph.{MultiPortGraph}
use Rattle.theorems.specs.Book.{Call, link_call}
use Rattle.theorems.specs.History.{State, step, next, run_from, run_from_under, run, run_under}
use Rattle.theorems.proofs.CallLaws.{step_kept}
use Rattle.theorems.specs.Runs.{run_from_append}
use Rattle.sheets.specs.declared.sheet.SheetEntry.{SheetEntry}
use Rattle.sheets.specs.declared.sheet.SheetLinked.{SheetLinked}
use Rattle.sheets.specs.declared.sheet.TooManyEntries.{TooManyEntries}
use Rattle.sheets.specs.Sheets.{ports_of, entry_at, sheet_entries, sheet_numbers, link_of, graph_after, answered, too_many, link_sheet, sheet_after, too_long}
use Rattle.sheets.specs.declared.held.HeldLinked.{HeldLinked}
use Rattle.sheets.specs.Held.{sheet_places, link_first, link_held}
use Rattle.sheets.specs.SheetHistory.{Item, one_call, whole_sheet, book_entries, book_sheet, next_item, run_items_from, run_items, links_of, calls_of}

-- The limit.

short_is : (es : List SheetEntry) → length es ≤ sheet_entries → too_many es ≡ false
short_is es h = le-ltb _ _ h

long_is : (es : List SheetEntry) → sheet_entries < length es → too_many es ≡ true
long_is es h = lt-ltb _ _ h

-- the sheet's own answer and what it leaves, by the test
abbrev answer_by : Bool → Result ⊤ TooManyEntries
answer_by b = cond b (Err too_long) (Ok tt)

abbrev sheet_by : MultiPortGraph → List SheetEntry → Bool → SheetLinked
sheet_by m es b = cond b (record { graph = m; answer = Err too_long }) (record { graph = graph_after m es; answer = Ok tt })

answer_by_lem : (m : MultiPortGraph) (es : List SheetEntry) (b : Bool) → (sheet_by m es b).answer ≡ answer_by b
answer_by_lem m es true = refl
answer_by_lem m es false = refl

fourteen_by : (b : Bool) → sheet_numbers (answer_by b) ≡ 14 ∷ [] → b ≡ true
fourteen_by true e = refl
fourteen_by false e = cc

zero_by : (b : Bool) → sheet_numbers (answer_by b) ≡ 0 ∷ [] → b ≡ false
zero_by true e = cc
zero_by false e = refl

numbers_by : (m : MultiPortGraph) (es : List SheetEntry) → sheet_numbers (link_sheet m es).answer ≡ sheet_numbers (answer_by (too_many es))
numbers_by m es = ap sheet_numbers (answer_by_lem m es (too_many es))

pub fourteen_exactly : (m : MultiPortGraph) (es : List SheetEntry) → (sheet_numbers (link_sheet m es).answer ≡ 14 ∷ []) ↔ sheet_entries < length es
fourteen_exactly m es = (
  λ e. ltb-true _ _ (fourteen_by (too_many es) (sym (numbers_by m es) ∙ e)),
  λ h. numbers_by m es ∙ ap (λ (b : Bool). sheet_numbers (answer_by b)) (long_is es h),
)

pub accepted_otherwise : (m : MultiPortGraph) (es : List SheetEntry) → (sheet_numbers (link_sheet m es).answer ≡ 0 ∷ []) ↔ length es ≤ sheet_entries
accepted_otherwise m es = (
  λ e. ltb-false _ _ (zero_by (too_many es) (sym (numbers_by m es) ∙ e)),
  λ h. numbers_by m es ∙ ap (λ (b : Bool). sheet_numbers (answer_by b)) (short_is es h),
)

pub too_long_changes_nothing : (m : MultiPortGraph) (es : List SheetEntry) → sheet_entries < length es → ((link_sheet m es).graph ≡ m) × (sheet_after m es ≡ es)
too_long_changes_nothing m es h = (
  ap (λ (b : Bool). (sheet_by m es b).graph) (long_is es h),
  ap {B = List SheetEntry} (λ (b : Bool). cond b es (answered m es)) (long_is es h),
)

-- A sheet keeps what every call presumes of its graph.

graph_kept : (m : MultiPortGraph) (es : List SheetEntry) → MultiWf m → MultiWf (graph_after m es)
unfolding graph_after
graph_kept m [] wf = wf
graph_kept m (e ∷ es) wf = graph_kept (link_of m e).graph es (step_kept m (link_call e.port_a.0 e.port_b.0) wf)

kept_of : (m : MultiPortGraph) (es : List SheetEntry) (b : Bool) → MultiWf m → MultiWf (sheet_by m es b).graph
kept_of m es true wf = wf
kept_of m es false wf = graph_kept m es wf

pub sheet_kept : (m : MultiPortGraph) (es : List SheetEntry) → MultiWf m → MultiWf (link_sheet m es).graph
sheet_kept m es wf = kept_of m es (too_many es) wf

-- so does one whose places its caller holds by value
pub held_kept : (m : MultiPortGraph) (places : List SheetEntry) (count : ℕ) → MultiWf m → MultiWf (link_held m places count).graph
held_kept m places count wf = sheet_kept m (take (min count sheet_places) places) wf

-- One sheet.

links_from : (s : State) (es : List SheetEntry) →
    record { graph = graph_after s.graph es; book = book_entries s.book (answered s.graph es) } ≡ run_from s (links_of es)
unfolding run_from_under graph_after answered book_entries
links_from s [] = refl
links_from s (e ∷ es) = links_from (next s (link_call e.port_a.0 e.port_b.0)) es

-- graph and book after a sheet, by the test
abbrev state_by : State → List SheetEntry → Bool → State
state_by s es b = record {
  graph = (sheet_by s.graph es b).graph;
  book = book_sheet s.book (sheet_by s.graph es b).answer (cond b es (answered s.graph es));
}

pub sheet_is_links : (s : State) (es : List SheetEntry) → length es ≤ sheet_entries → next_item s (whole_sheet es) ≡ run_from s (links_of es)
sheet_is_links s es h = ap (state_by s es) (short_is es h) ∙ links_from s es

pub too_long_counts_nothing : (s : State) (es : List SheetEntry) → sheet_entries < length es → next_item s (whole_sheet es) ≡ s
too_long_counts_nothing s es h = ap (state_by s es) (long_is es h)

pub empty_sheet_changes_nothing : (s : State) → next_item s (whole_sheet []) ≡ s
unfolding graph_after answered book_entries
empty_sheet_changes_nothing s = refl

-- The answers.

answer_from : (s : State) (es : List SheetEntry) (i : ℕ) → i < length es →
    (entry_at (answered s.graph es) i).answer
    ≡ (step (run_from s (links_of (take i es))).graph (link_call (entry_at es i).port_a.0 (entry_at es i).port_b.0)).answer
unfolding run_from_under answered
answer_from s [] i h = absurd (not-suc-le-zero h)
answer_from s (e ∷ es) zero h = refl
answer_from s (e ∷ es) (suc i) h = answer_from (next s (link_call e.port_a.0 e.port_b.0)) es i (le_of_suc-le-suc h)

pub entries_receive_their_answers : (s : State) (es : List SheetEntry) → length es ≤ sheet_entries → (i : ℕ) → i < length es →
    (entry_at (sheet_after s.graph es) i).answer
    ≡ (step (run_from s (links_of (take i es))).graph (link_call (entry_at es i).port_a.0 (entry_at es i).port_b.0)).answer
entries_receive_their_answers s es h i l =
    ap (λ (b : Bool). (entry_at (cond b es (answered s.graph es)) i).answer) (short_is es h) ∙ answer_from s es i l

ports_kept : (m : MultiPortGraph) (es : List SheetEntry) → map ports_of (answered m es) ≡ map ports_of es
unfolding answered
ports_kept m [] = refl
ports_kept m (e ∷ es) = ap {B = List (PortIndex × PortIndex)} (λ l. ports_of e ∷ l) (ports_kept (link_of m e).graph es)

kept_by : (m : MultiPortGraph) (es : List SheetEntry) (b : Bool) → map ports_of (cond b es (answered m es)) ≡ map ports_of es
kept_by m es true = refl
kept_by m es false = ports_kept m es

pub entries_keep_their_ports : (m : MultiPortGraph) (es : List SheetEntry) → map ports_of (sheet_after m es) ≡ map ports_of es
entries_keep_their_ports m es = kept_by m es (too_many es)

-- Histories.

calls_by : (s : State) (es : List SheetEntry) (b : Bool) → state_by s es b ≡ run_from s (cond b [] (links_of es))
unfolding run_from_under
calls_by s es true = refl
calls_by s es false = links_from s es

item_is_its_calls : (s : State) (i : Item) → next_item s i ≡ run_from s (calls_of i)
unfolding run_from_under
item_is_its_calls s (one_call c) = refl
item_is_its_calls s (whole_sheet es) = calls_by s es (too_many es)

history_from : (s : State) (items : List Item) → run_items_from s items ≡ run_from s (flat_map calls_of items)
unfolding run_items_from run_from_under flat_map
history_from s [] = refl
history_from s (i ∷ items) =
    history_from (next_item s i) items
    ∙ ap {B = State} (λ (t : State). run_from t (flat_map calls_of items)) (item_is_its_calls s i)
    ∙ sym (run_from_append s (calls_of i) (flat_map calls_of items))

pub history_of_calls : (release : Release) (items : List Item) → run_items release items ≡ run release (flat_map calls_of items)
unfolding run_items run_under
history_of_calls release items = history_from _ items

pub with_sheets : (release : Release) (P : State → Type 0) → ((calls : List Call) → P (run release calls)) → (items : List Item) → P (run_items release items)
with_sheets release P h items = subst P (sym (history_of_calls release items)) (h (flat_map calls_of items))

-- The entries held by value.

pub first_places_are_the_sheet : (m : MultiPortGraph) (es others : List SheetEntry) → length es + length others ≡ 65 →
    link_held m (es ++ others) (length es) ≡ record { graph = (link_sheet m es).graph; answer = (link_sheet m es).answer; places = sheet_after m es ++ others }
first_places_are_the_sheet m es others h =
    ap {B = HeldLinked} (λ (n : ℕ). link_first m (es ++ others) n) (min-eq_left {n = length es} {m = sheet_places} (omega (arith, h)))
    ∙ (λ i. record {
      graph = (link_sheet m (take-append_seam es others i)).graph;
      answer = (link_sheet m (take-append_seam es others i)).answer;
      places = sheet_after m (take-append_seam es others i) ++ drop-append_seam es others i;
    })

-- all places, by the test
abbrev all_by : MultiPortGraph → List SheetEntry → Bool → HeldLinked
all_by m places b = record { graph = (sheet_by m places b).graph; answer = (sheet_by m places b).answer; places = cond b places (answered m places) ++ [] }

pub uncounted_places_are_too_many : (m : MultiPortGraph) (places : List SheetEntry) (count : ℕ) → length places ≡ 65 → 64 < count →
    link_held m places count ≡ record { graph = m; answer = Err too_long; places = places }
uncounted_places_are_too_many m places count len h =
    ap {B = HeldLinked} (λ (n : ℕ). link_first m places n) (min-eq_right h ∙ sym len)
    ∙ (λ i. record {
      graph = (link_sheet m (take-length places i)).graph;
      answer = (link_sheet m (take-length places i)).answer;
      places = sheet_after m (take-length places i) ++ drop-length places i;
    })
    ∙ ap {B = HeldLinked} (all_by m places) (long_is places (subst (λ (n : ℕ). 64 < n) (sym len) (lit< tt)))
    ∙ ap {B = HeldLinked} (λ (l : List SheetEntry). record { graph = m; answer = Err too_long; places = l }) (append-nil places)
