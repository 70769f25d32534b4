-- What is proved of sheets, in plain order: statements with a sentence each; the proofs stand in SheetLaws. The words are those of
-- Sheets and SheetHistory, over the book and the histories of the crate `theorems`.
use Rattle.std.specs.Prelude.{◌≡◌, false, ◌↔◌, ℕ, ◌+◌, ◌<◌, ◌≤◌, length, take, Err}
use mathlib.Core.List.{List, [], ◌∷◌, ◌++◌, map, flat_map}
use Rattle.port_tables.specs.Lists.{Member}
use Rattle.portgraph.specs.Model.{Model}
use Rattle.port_tables.specs.declared.direction.Direction.TheVariants.{Incoming}
use Rattle.multiportgraph.specs.Calls.{visible_nodes, visible_ports, visible_links}
use Rattle.port_tables.specs.Places.{Spot, Wire}
use Rattle.multiportgraph.specs.Reading.{is_split, seen}
use Rattle.multi_tables.specs.Forms.{visible}
use Rattle.multiportgraph.specs.Wires.{wires_walked}
use Rattle.multiportgraph.specs.WellFormed.{Fine, MultiWf}
use Rattle.multiportgraph.specs.declared.multiportgraph.MultiPortGraph.{MultiPortGraph}
use Rattle.port_tables.specs.declared.release.Release.{Release}
use Rattle.port_tables.specs.declared.release.Release.TheVariants.{Two}
use Rattle.multi_tables.specs.declared.answers.SubportIndex.{SubportIndex}
use Rattle.multi_tables.specs.declared.answers.Refusal.{Refusal}
use Rattle.multi_tables.specs.declared.answers.Refusal.TheVariants.{NoRoom}
use Rattle.theorems.specs.Book.{Call, link_call}
use Rattle.theorems.specs.History.{State, step, next, run_from, run}
use Rattle.theorems.specs.Works.{works_of}
use Rattle.theorems.specs.Claims.{WireRule, Link, linking, LinkedBy, accepted_link, Restored, between, ports_in_book}
use Rattle.theorems.specs.AnswerClaims.{AnswersItsWire, AnswersAreWires}
use Rattle.theorems.specs.PlaceClaims.{PlacesAreWires}
use Rattle.theorems.specs.Conditions.{RefusedBy, Accepted, Condition, leaves_prepared}
use Rattle.theorems.proofs.Theorems as calls
use Rattle.theorems.proofs.ReleaseTheorems as releases
use Rattle.sheets.specs.declared.sheet.SheetEntry.{SheetEntry}
use Rattle.sheets.specs.Sheets.{ports_of, entry_at, sheet_entries, sheet_numbers, link_sheet, sheet_after, too_long}
use Rattle.sheets.specs.Held.{link_held}
use Rattle.sheets.specs.SheetHistory.{Item, whole_sheet, next_item, run_items, links_of, calls_of}
use Rattle.sheets.specs.SheetLaws as proofs
use Rattle.multiportgraph.specs.Space.{Spaced}

-- A sheet and its links.

-- From any graph and book, a sheet of at most 64 entries leaves the graph that its links leave, made one at a time, and the book with
-- these links.
pub sheet_is_links : (s : State) (es : List SheetEntry) → length es ≤ sheet_entries → next_item s (whole_sheet es) ≡ run_from s (links_of es)
sheet_is_links = proofs.sheet_is_links

-- Each entry receives the answer of its link, made after the links of the entries before it, refused ones included.
pub entries_receive_their_answers : (s : State) (es : List SheetEntry) → length es ≤ sheet_entries → (i : ℕ) → i < length es →
    (entry_at (sheet_after s.graph es) i).answer
    ≡ (step (run_from s (links_of (take i es))).graph (link_call (entry_at es i).port_a.0 (entry_at es i).port_b.0)).answer
entries_receive_their_answers = proofs.entries_receive_their_answers

-- There are as many entries as before, each with its two ports.
pub entries_keep_their_ports : (m : MultiPortGraph) (es : List SheetEntry) → map ports_of (sheet_after m es) ≡ map ports_of es
entries_keep_their_ports = proofs.entries_keep_their_ports

-- 14 is given exactly to a sheet of more than 64 entries;
pub fourteen_exactly : (m : MultiPortGraph) (es : List SheetEntry) → (sheet_numbers (link_sheet m es).answer ≡ 14 ∷ []) ↔ 64 < length es
fourteen_exactly = proofs.fourteen_exactly

-- then neither the graph nor any entry changes, and the book has nothing to count;
pub too_long_changes_nothing : (m : MultiPortGraph) (es : List SheetEntry) → 64 < length es → ((link_sheet m es).graph ≡ m) × (sheet_after m es ≡ es)
too_long_changes_nothing = proofs.too_long_changes_nothing

pub too_long_counts_nothing : (s : State) (es : List SheetEntry) → 64 < length es → next_item s (whole_sheet es) ≡ s
too_long_counts_nothing = proofs.too_long_counts_nothing

-- every other sheet is accepted, with no value, also where every entry is refused.
pub accepted_otherwise : (m : MultiPortGraph) (es : List SheetEntry) → (sheet_numbers (link_sheet m es).answer ≡ 0 ∷ []) ↔ length es ≤ 64
accepted_otherwise = proofs.accepted_otherwise

-- An empty sheet changes nothing.
pub empty_sheet_changes_nothing : (s : State) → next_item s (whole_sheet []) ≡ s
empty_sheet_changes_nothing = proofs.empty_sheet_changes_nothing

-- Where the caller holds the entries by value, the sheet is the first places, as many as are counted; the others stay.
pub first_places_are_the_sheet : (m : MultiPortGraph) (es others : List SheetEntry) → length es + length others ≡ 65 →
    link_held m (es ++ others) (length es) ≡ record { graph = (link_sheet m es).graph; answer = (link_sheet m es).answer; places = sheet_after m es ++ others }
first_places_are_the_sheet = proofs.first_places_are_the_sheet

-- and a count above 65 is too long as well.
pub uncounted_places_are_too_many : (m : MultiPortGraph) (places : List SheetEntry) (count : ℕ) → length places ≡ 65 → 64 < count →
    link_held m places count ≡ record { graph = m; answer = Err too_long; places = places }
uncounted_places_are_too_many = proofs.uncounted_places_are_too_many

-- Histories with sheets in them: lists of calls and sheets from the empty graph of either release, refused ones included.

-- Graph and book are those of the calls alone, where each sheet stands for its links,
pub history_of_calls : (release : Release) (items : List Item) → run_items release items ≡ run release (flat_map calls_of items)
history_of_calls = proofs.history_of_calls

-- so that whatever holds of graph and book after every list of calls holds with sheets in the list. These by name:
pub with_sheets : (release : Release) (P : State → Type 0) → ((l : List Call) → P (run release l)) → (items : List Item) → P (run_items release items)
with_sheets = proofs.with_sheets

-- the list of all wires, walked from its start until it ends, holds exactly once each wire that an accepted call or entry made and none
-- has undone since, by the wire book, and nothing else;
pub sheet_wire_rule : (release : Release) (items : List Item) → WireRule (run_items release items)
sheet_wire_rule release = with_sheets release WireRule (calls.wire_rule release)

-- a link of either kind follows and is accepted: cutting either subport that it answered brings back the earlier list of wires;
pub sheet_cut_restores : (release : Release) (items : List Item) (l : Link) (x y : SubportIndex) → LinkedBy (run_items release items) l x y →
    Restored (run_items release items).graph (next (run_items release items) (linking l)).graph x × Restored (run_items release items).graph (next (run_items release items) (linking l)).graph y
sheet_cut_restores release =
    with_sheets release
    (λ s. (l : Link) (x y : SubportIndex) → LinkedBy s l x y → Restored s.graph (next s (linking l)).graph x × Restored s.graph (next s (linking l)).graph y)
    (calls.cut_restores release)

-- two links of either kind, accepted whichever goes first, leave as many wires between any two ports in both orders;
pub sheet_links_in_either_order : (release : Release) (items : List Item) (k l : Link) → accepted_link (run_items release items) k → accepted_link (next (run_items release items) (linking k)) l →
    accepted_link (run_items release items) l → accepted_link (next (run_items release items) (linking l)) k → (a b : Spot) →
    between a b (wires_walked (next (next (run_items release items) (linking k)) (linking l)).graph)
    ≡ between a b (wires_walked (next (next (run_items release items) (linking l)) (linking k)).graph)
sheet_links_in_either_order release =
    with_sheets release
    (λ s. (k l : Link) → accepted_link s k → accepted_link (next s (linking k)) l → accepted_link s l → accepted_link (next s (linking l)) k → (a b : Spot) →
    between a b (wires_walked (next (next s (linking k)) (linking l)).graph) ≡ between a b (wires_walked (next (next s (linking l)) (linking k)).graph))
    (calls.links_in_either_order release)

-- the wire that an accepted link enters in the book has the two answered subports as its ends, the first named first;
pub sheet_link_answers_the_wire : (release : Release) (items : List Item) (l : Link) (x y : SubportIndex) → LinkedBy (run_items release items) l x y → AnswersItsWire (run_items release items) l x y
sheet_link_answers_the_wire release = with_sheets release (λ s. (l : Link) (x y : SubportIndex) → LinkedBy s l x y → AnswersItsWire s l x y) (calls.link_answers_the_wire release)

-- what a subport is linked with, and what a cut answers, is what the book has;
pub sheet_answers_are_wires : (release : Release) (items : List Item) → AnswersAreWires (run_items release items)
sheet_answers_are_wires release = with_sheets release AnswersAreWires (calls.answers_are_wires release)

-- and the place given with an end found, by an answer or by a step of a walk, is that of the book's wire;
pub sheet_places_are_wires : (release : Release) (items : List Item) → PlacesAreWires (run_items release items)
sheet_places_are_wires release = with_sheets release PlacesAreWires (calls.places_are_wires release)

-- the visible nodes, ports and links that a kit counts are the blocks of the book, their ports, and its wires;
pub sheet_visible_nodes : (release : Release) (items : List Item) → visible_nodes (run_items release items).graph ≡ length (run_items release items).book.blocks
sheet_visible_nodes release = with_sheets release (λ s. visible_nodes s.graph ≡ length s.book.blocks) (calls.visible_nodes_of_history release)

pub sheet_visible_ports : (release : Release) (items : List Item) → visible_ports (run_items release items).graph ≡ length (ports_in_book (run_items release items).book)
sheet_visible_ports release = with_sheets release (λ s. visible_ports s.graph ≡ length (ports_in_book s.book)) (calls.visible_ports_of_history release)

pub sheet_visible_links : (release : Release) (items : List Item) → visible_links (run_items release items).graph ≡ length (run_items release items).book.wires
sheet_visible_links release = with_sheets release (λ s. visible_links s.graph ≡ length s.book.wires) (calls.visible_links_of_history release)

-- each refusal of a call is given under its condition and no other, and where none holds the call is done;
pub sheet_refused_under_condition : (release : Release) (items : List Item) (c : Call) → (M : Model) → Fine (run_items release items).graph M → (r : Refusal) →
    Condition (run_items release items).graph M c r → RefusedBy c (step (run_items release items).graph c).answer r
sheet_refused_under_condition release =
    with_sheets release (λ s. (c : Call) → (M : Model) → Fine s.graph M → (r : Refusal) → Condition s.graph M c r → RefusedBy c (step s.graph c).answer r)
    (calls.refused_under_condition release)

pub sheet_refused_under_no_other : (release : Release) (items : List Item) (c : Call) → (M : Model) → Fine (run_items release items).graph M → (r : Refusal) →
    RefusedBy c (step (run_items release items).graph c).answer r → Condition (run_items release items).graph M c r
sheet_refused_under_no_other release =
    with_sheets release (λ s. (c : Call) → (M : Model) → Fine s.graph M → (r : Refusal) → RefusedBy c (step s.graph c).answer r → Condition s.graph M c r)
    (calls.refused_under_no_other release)

pub sheet_accepted_otherwise : (release : Release) (items : List Item) (c : Call) → (M : Model) → Fine (run_items release items).graph M →
    ((r : Refusal) → Condition (run_items release items).graph M c r → ⊥) → Accepted c (step (run_items release items).graph c).answer
sheet_accepted_otherwise release =
    with_sheets release (λ s. (c : Call) → (M : Model) → Fine s.graph M → ((r : Refusal) → Condition s.graph M c r → ⊥) → Accepted c (step s.graph c).answer)
    (calls.accepted_otherwise release)

-- a refused call leaves the graph as it was, save what a link refused with 11 or 12 made ready;
pub sheet_refused_changes_nothing : (release : Release) (items : List Item) (c : Call) (r : Refusal) → RefusedBy c (step (run_items release items).graph c).answer r →
    leaves_prepared c r ≡ false → (step (run_items release items).graph c).graph ≡ (run_items release items).graph
sheet_refused_changes_nothing release =
    with_sheets release (λ s. (c : Call) (r : Refusal) → RefusedBy c (step s.graph c).answer r → leaves_prepared c r ≡ false → (step s.graph c).graph ≡ s.graph)
    (calls.refused_changes_nothing release)

-- 10 is given exactly if the works of the call, one after the other, would lengthen a table past its limit;
pub sheet_call_space : (release : Release) (items : List Item) (c : Call) → (M : Model) → Fine (run_items release items).graph M →
    Spaced (run_items release items).graph M (works_of (run_items release items).graph c) (RefusedBy c (step (run_items release items).graph c).answer NoRoom)
    (step (run_items release items).graph c).graph
sheet_call_space release =
    with_sheets release
    (λ s. (c : Call) → (M : Model) → Fine s.graph M → Spaced s.graph M (works_of s.graph c) (RefusedBy c (step s.graph c).answer NoRoom) (step s.graph c).graph)
    (calls.call_space release)

-- and what every contract presumes of its graph holds, a sheet's own among them.
pub sheet_run_kept : (release : Release) (items : List Item) → MultiWf (run_items release items).graph
sheet_run_kept release = with_sheets release (λ s. MultiWf s.graph) (calls.run_kept release)

-- Under release 2 no input is split,
pub sheet_release_two_never_splits_an_input : (items : List Item) (p n : ℕ) → seen (run_items Two items).graph p ≡ visible n Incoming → is_split (run_items Two items).graph p ≡ false
sheet_release_two_never_splits_an_input =
    with_sheets Two (λ s. (p n : ℕ) → seen s.graph p ≡ visible n Incoming → is_split s.graph p ≡ false) releases.release_two_never_splits_an_input

-- and an input takes one wire only.
pub sheet_release_two_wires_an_input_once : (items : List Item) (w v : Wire) → Member w (run_items Two items).book.wires → Member v (run_items Two items).book.wires →
    w.into.node ≡ v.into.node → w.into.pos ≡ v.into.pos → w ≡ v
sheet_release_two_wires_an_input_once =
    with_sheets Two
    (λ s. (w v : Wire) → Member w s.book.wires → Member v s.book.wires → w.into.node ≡ v.into.node → w.into.pos ≡ v.into.pos → w ≡ v)
    releases.release_two_wires_an_input_once
