-- A build that is refused leaves less than the view says: each call enters one block or wire at most, and a refused one none.
use Rattle.std.proofs.lemmas.List.{length-map}
use Rattle.std.specs.Prelude.{◌≡◌, refl, Bool, not, List, [], ◌∷◌, map, ℕ, suc, ◌+◌, ◌≤◌, ◌<◌, length, Err, Option, Some, None, Result, Ok}
use Rattle.std.proofs.Common.{sym, ap, ◌∙◌, ⊎_elim, arith, length-append}
use Rattle.portgraph.specs.GoodSlots.{zero_is_not_one}
use Rattle.multiportgraph.specs.Graph.{empty_graph}
use Rattle.port_tables.specs.declared.release.Release.{Release}
use Rattle.port_tables.specs.Listing.{filter_shorter}
use Rattle.port_tables.specs.Places.{Place, Wire, Spot, nowhere, spot, touches, at_spot, at_end, of_node, of_dropped, without, next_offset}
use Rattle.multi_tables.specs.declared.answers.Refusal.{Refusal}
use Rattle.theorems.specs.Book as book
use Rattle.theorems.specs.Book.{Call, AnswerOf, Book, empty_book, spot_of, add_wire, read_by, first_mark, second_mark, not_block, book_answer, book_add, book_remove, book_set, book_link, book_link_sub, book_cut}
use Rattle.theorems.specs.History.{State, next, run_from, run_from_under, run, run_under, step}
use Rattle.theorems.proofs.HistoryCounts.{visible_links_of_history, visible_nodes_of_history}
use Rattle.theorems.specs.Conditions.{RefusedBy}
use Rattle.theorems.proofs.CallLaws.{rel_run}
use Rattle.files.specs.View.{View, view_of}
use Rattle.files.specs.Loading.{add_of, link_of, build_of, first_refusal, first_refusal_under}
use Rattle.files.specs.ViewLaws.{view_blocks, view_wires}
use Rattle.files.specs.BuildLaws.{goes_or_stops}
use Rattle.files.specs.declared.load.LoadError.TheVariants.{Refused}
use Rattle.multi_tables.specs.declared.answers.SubportIndex.{SubportIndex}
use Rattle.multi_tables.specs.declared.answers.PortPlace.{PortPlace}

-- blocks and wires of a book
abbrev pub entries : Book → ℕ
entries B = length B.blocks + length B.wires

wire_one : (l : List Wire) (s : Spot) (o : ℕ) (t : Spot) (r : ℕ) → length (add_wire l s o t r) ≤ suc (length l)
wire_one l nowhere o t r = omega arith
wire_one l (spot n d i) o nowhere r = omega arith
wire_one l (spot n d i) o (spot k e j) r = omega arith

without_short : (f : Place → Bool) (l : List Wire) → length (without f l) ≤ length l
without_short f l = filter_shorter (λ w. not (touches f w)) l

link_one : (B : Book) (a b : ℕ) (v : Result (SubportIndex × SubportIndex) Refusal) → entries (book_link B a b v) ≤ suc (entries B)
link_one B a b (Ok (s, t)) =
    let h = wire_one B.wires (spot_of B.blocks a) (next_offset B.wires (spot_of B.blocks a)) (spot_of B.blocks b) (next_offset B.wires (spot_of B.blocks b)) in
    omega arith
link_one B a b (Err r) = omega arith

cut_none : (B : Book) (f : Place → Bool) (v : Result (Option (SubportIndex × PortPlace)) Refusal) → entries (book_cut B f v) ≤ suc (entries B)
cut_none B f (Ok (Some (s, x))) = let h = without_short f B.wires in omega arith
cut_none B f (Ok None) = let h = without_short f B.wires in omega arith
cut_none B f (Err r) = omega arith

-- a call enters one at most,
enters_one : (B : Book) (c : Call) (v : AnswerOf c) (marks : List Bool) (ports : List ℕ) → entries (book_answer B c v marks ports) ≤ suc (entries B)
enters_one B (book.add_call i o) (Ok (n, p)) marks ports = omega arith
enters_one B (book.add_call i o) (Err r) marks ports = omega arith
enters_one B (book.remove_call n) (Ok tt) marks ports = let a = filter_shorter (not_block n) B.blocks in let b = without_short (of_node n) B.wires in omega arith
enters_one B (book.remove_call n) (Err r) marks ports = omega arith
enters_one B (book.set_call n i o room) (Ok e) marks ports = let a = filter_shorter (not_block n) B.blocks in let b = without_short (of_dropped n i o) B.wires in omega arith
enters_one B (book.set_call n i o room) (Err r) marks ports = omega arith
enters_one B (book.link_call a b) v marks ports = link_one B a b v
enters_one B (book.link_clean_call a b) v marks ports = link_one B a b v
enters_one B (book.link_sub_call p o q t) (Ok (x, y)) marks ports =
    let h = wire_one B.wires (spot_of B.blocks p) (read_by (first_mark marks) o) (spot_of B.blocks q) (read_by (second_mark marks) t) in
    omega arith
enters_one B (book.link_sub_call p o q t) (Err r) marks ports = omega arith
enters_one B (book.cut_call p) v marks ports = cut_none B (at_spot (spot_of B.blocks p)) v
enters_one B (book.cut_sub_call p o) v marks ports = cut_none B (at_end (spot_of B.blocks p) (read_by (first_mark marks) o)) v
enters_one B (book.tidy_call p) v marks ports = omega arith

-- and a refused one nothing
pub refused_enters_nothing : (B : Book) (c : Call) (v : AnswerOf c) (marks : List Bool) (ports : List ℕ) (r : Refusal) → RefusedBy c v r → book_answer B c v marks ports ≡ B
refused_enters_nothing B (book.add_call i o) v marks ports r e = ap (book_add B i o) e
refused_enters_nothing B (book.remove_call n) v marks ports r e = ap (book_remove B n) e
refused_enters_nothing B (book.set_call n i o room) v marks ports r e = ap (λ a. book_set B n i o a ports) e
refused_enters_nothing B (book.link_call a b) v marks ports r e = ap (book_link B a b) e
refused_enters_nothing B (book.link_clean_call a b) v marks ports r e = ap (book_link B a b) e
refused_enters_nothing B (book.link_sub_call p o q t) v marks ports r e = ap (λ a. book_link_sub B p o q t a marks) e
refused_enters_nothing B (book.cut_call p) v marks ports r e = ap (book_cut B (at_spot (spot_of B.blocks p))) e
refused_enters_nothing B (book.cut_sub_call p o) v marks ports r e = ap (book_cut B (at_end (spot_of B.blocks p) (read_by (first_mark marks) o))) e
refused_enters_nothing B (book.tidy_call p) v marks ports r e = refl

next_enters_one : (s : State) (c : Call) → entries (next s c).book ≤ suc (entries s.book)
next_enters_one s c = enters_one s.book c (step s.graph c).answer _ _

-- so many calls enter so many at most, and fewer where one is refused
pub calls_enter : (calls : List Call) (s : State) → entries (run_from s calls).book ≤ length calls + entries s.book
unfolding run_from_under
calls_enter [] s = omega arith
calls_enter (c ∷ l) s = let a = calls_enter l (next s c) in let b = next_enters_one s c in omega arith

pub refused_enter_less : (calls : List Call) (s : State) (r : Refusal) → first_refusal s.graph calls ≡ Err (Refused r) → entries (run_from s calls).book < length calls + entries s.book
unfolding run_from_under first_refusal_under
refused_enter_less [] s r e = absurd (zero_is_not_one (cc))
refused_enter_less (c ∷ l) s r e =
    ⊎_elim
    (λ goes. let a = refused_enter_less l (next s c) r (sym (goes _) ∙ e) in let b = next_enters_one s c in omega arith)
    (λ stops.
    let a = calls_enter l (next s c) in
    let b : entries (next s c).book ≡ entries s.book = ap entries (refused_enters_nothing s.book c (step s.graph c).answer _ _ stops.0 stops.1) in
    omega arith)
    (goes_or_stops c (step s.graph c).answer)

-- so the view of what a refused build leaves is not the one to be built
pub partly_built : (release : Release) (v : View) (r : Refusal) → first_refusal (empty_graph release) (build_of v) ≡ Err (Refused r) → view_of (run release (build_of v)).graph ≡ v → ⊥
unfolding build_of run_under
partly_built release v r e same =
    let f = (rel_run release (build_of v)).1.fine in
    let less = refused_enter_less (build_of v) (record { graph = empty_graph release; book = empty_book }) r e in
    let a = length-append (map add_of v.blocks) (map (link_of v.blocks) v.wires) in
    let b = length-map v.blocks add_of in
    let c = length-map v.wires (link_of v.blocks) in
    let x = ap (λ (u : View). length u.blocks) (sym same) ∙ (view_blocks f ∙ visible_nodes_of_history release (build_of v)) in
    let y = ap (λ (u : View). length u.wires) (sym same) ∙ (view_wires f ∙ visible_links_of_history release (build_of v)) in
    omega arith
