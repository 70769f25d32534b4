-- Histories in which a whole sheet may stand where a call stands: lists of calls and sheets from the empty graph of a release, each on the
-- graph that the last one left, with the wire book beside it. The book counts a sheet as its links.
use Rattle.std.specs.Prelude.{cond, List, [], ◌∷◌, map, Result, Ok, Err, ⊤}
use Rattle.multiportgraph.specs.Graph.{empty_graph}
use Rattle.port_tables.specs.declared.release.Release.{Release}
use Rattle.theorems.specs.Book.{Call, link_call, Book, empty_book, book_link}
use Rattle.theorems.specs.History.{State, next}
use Rattle.sheets.specs.declared.sheet.SheetEntry.{SheetEntry}
use Rattle.sheets.specs.declared.sheet.TooManyEntries.{TooManyEntries}
use Rattle.sheets.specs.Sheets.{too_many, link_sheet, sheet_after}

-- One call, or a sheet.
pub data Item : Type 0 where
  one_call : Call → Item
  whole_sheet : List SheetEntry → Item

-- What a sheet does to the book. It sees the sheet's own answer and the entries as they came back, with their answers.

-- one link after the other
unfoldable pub book_entries : Book → List SheetEntry → Book
book_entries B [] = B
book_entries B (e ∷ es) = book_entries (book_link B e.port_a.0 e.port_b.0 e.answer) es

abbrev pub book_sheet : Book → Result ⊤ TooManyEntries → List SheetEntry → Book
book_sheet B (Ok x) es = book_entries B es
book_sheet B (Err x) es = B

-- Graph and book after one item, and after a list of them.

abbrev pub next_item : State → Item → State
next_item s (one_call c) = next s c
next_item s (whole_sheet es) = record {
  graph = (link_sheet s.graph es).graph;
  book = book_sheet s.book (link_sheet s.graph es).answer (sheet_after s.graph es);
}

unfoldable pub run_items_from : State → List Item → State
run_items_from s [] = s
run_items_from s (i ∷ items) = run_items_from (next_item s i) items

unfoldable pub run_items : Release → List Item → State
run_items release items = run_items_from (record { graph = empty_graph release; book = empty_book }) items

-- The same history with every sheet taken apart.

-- the links of a sheet, as calls made one at a time
abbrev pub links_of : List SheetEntry → List Call
links_of es = map (λ e. link_call e.port_a.0 e.port_b.0) es

-- the calls of an item: none for a sheet that is too long
abbrev pub calls_of : Item → List Call
calls_of (one_call c) = c ∷ []
calls_of (whole_sheet es) = cond (too_many es) [] (links_of es)
