-- A sheet whose entries the caller holds by value, in an array of 65 places.
use Rattle.std.specs.Prelude.{List, ◌++◌, ℕ, min, take, drop}
use Rattle.multiportgraph.specs.declared.multiportgraph.MultiPortGraph.{MultiPortGraph}
use Rattle.sheets.specs.declared.sheet.SheetEntry.{SheetEntry}
use Rattle.sheets.specs.declared.held.HeldLinked.{HeldLinked}
use Rattle.sheets.specs.Sheets.{link_sheet, sheet_after}

abbrev pub sheet_places : ℕ
sheet_places = 65

abbrev pub link_first : MultiPortGraph → List SheetEntry → ℕ → HeldLinked
link_first m places n = record {
  graph = (link_sheet m (take n places)).graph;
  answer = (link_sheet m (take n places)).answer;
  places = sheet_after m (take n places) ++ drop n places;
}

abbrev pub link_held : MultiPortGraph → List SheetEntry → ℕ → HeldLinked
link_held m places count = link_first m places (min count sheet_places)
