-- Histories of the graph in hand: lists of calls, sheets and loads from the empty graph of a release, refused ones included. A load makes
-- a graph of its own, which is then the one in hand; a refused load gives the empty graph.
use Rattle.std.specs.Prelude.{List, [], ◌∷◌, ℕ}
use Rattle.multiportgraph.specs.Graph.{empty_graph}
use Rattle.multiportgraph.specs.declared.multiportgraph.MultiPortGraph.{MultiPortGraph}
use Rattle.port_tables.specs.declared.release.Release.{Release}
use Rattle.theorems.specs.Book.{Call}
use Rattle.theorems.specs.History.{step}
use Rattle.sheets.specs.Sheets.{link_sheet}
use Rattle.sheets.specs.declared.sheet.SheetEntry.{SheetEntry}
use Rattle.files.specs.Loading.{load_graph}

-- one call, a whole sheet, or a load of a file for a release
pub data Item : Type 0 where
  one_call : Call → Item
  whole_sheet : List SheetEntry → Item
  one_load : Release → List ℕ → Item

abbrev pub after_item : MultiPortGraph → Item → MultiPortGraph
after_item m (one_call c) = (step m c).graph
after_item m (whole_sheet entries) = (link_sheet m entries).graph
after_item m (one_load release bytes) = load_graph release bytes

unfoldable pub after_items : MultiPortGraph → List Item → MultiPortGraph
after_items m [] = m
after_items m (i ∷ items) = after_items (after_item m i) items

-- the graph in hand
unfoldable pub in_hand : Release → List Item → MultiPortGraph
in_hand release items = after_items (empty_graph release) items

-- and after more calls
unfoldable pub after_calls : MultiPortGraph → List Call → MultiPortGraph
after_calls m [] = m
after_calls m (c ∷ l) = after_calls (step m c).graph l
