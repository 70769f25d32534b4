-- What a wiring sheet does: its entries are done in order, each on the graph that the one before left, a refused one included, and
-- each receives its answer. A sheet of more than 64 entries is refused with 14 before any entry, and nothing is changed.
use Rattle.std.specs.Prelude.{Bool, cond, List, [], ◌∷◌, ℕ, ltb, length, get_or, Result, Ok, Err, ⊤}
use Rattle.port_tables.specs.Entries.{port#}
use Rattle.port_tables.specs.declared.index.PortIndex.{PortIndex}
use Rattle.multiportgraph.specs.Calls.{link_pair}
use Rattle.multiportgraph.specs.declared.multiportgraph.MultiPortGraph.{MultiPortGraph}
use Rattle.multiportgraph.specs.declared.multiportgraph.PortsLinked.{PortsLinked}
use Rattle.multi_tables.specs.declared.answers.Refusal.TheVariants.{NoRoom}
use Rattle.sheets.specs.declared.sheet.SheetEntry.{SheetEntry}
use Rattle.sheets.specs.declared.sheet.SheetLinked.{SheetLinked}
use Rattle.sheets.specs.declared.sheet.TooManyEntries.{TooManyEntries}
use Rattle.multi_tables.specs.declared.answers.Refusal.{Refusal}
use Rattle.multi_tables.specs.declared.answers.SubportIndex.{SubportIndex}

-- the most entries of a sheet
abbrev pub sheet_entries : ℕ
sheet_entries = 64

-- why a sheet is refused
abbrev pub too_long : TooManyEntries
too_long = record {}

-- The numbers of a sheet's own answer; 14 carries nothing.
abbrev pub sheet_numbers : Result ⊤ TooManyEntries → List ℕ
sheet_numbers (Ok x) = 0 ∷ []
sheet_numbers (Err x) = 14 ∷ []

-- One entry.

-- an entry that is to be done, with something in its space for the answer
abbrev pub to_be_done : PortIndex → PortIndex → SheetEntry
to_be_done p q = record { port_a = p; port_b = q; answer = Err NoRoom }

-- its two ports
abbrev pub ports_of : SheetEntry → PortIndex × PortIndex
ports_of e = (e.port_a, e.port_b)

-- the link that an entry asks for
abbrev pub link_of : MultiPortGraph → SheetEntry → PortsLinked
link_of m e = link_pair m e.port_a.0 e.port_b.0

-- an entry keeps its ports and receives an answer
abbrev pub with_answer : SheetEntry → Result (SubportIndex × SubportIndex) Refusal → SheetEntry
with_answer e x = record { port_a = e.port_a; port_b = e.port_b; answer = x }

-- what one entry leaves
pub record EntryLinked : Type 0 where
  pub graph : MultiPortGraph
  pub entry : SheetEntry

abbrev pub entry_linked : MultiPortGraph → SheetEntry → EntryLinked
entry_linked m e = record { graph = (link_of m e).graph; entry = with_answer e (link_of m e).answer }

-- The entries in order.

-- what stands past their end, and the entry with a number from 0
abbrev pub no_entry : SheetEntry
no_entry = to_be_done (port# 0) (port# 0)

abbrev pub entry_at : List SheetEntry → ℕ → SheetEntry
entry_at es i = get_or es i no_entry

-- the graph that they leave
unfoldable pub graph_after : MultiPortGraph → List SheetEntry → MultiPortGraph
graph_after m [] = m
graph_after m (e ∷ es) = graph_after (link_of m e).graph es

-- the entries with their answers
unfoldable pub answered : MultiPortGraph → List SheetEntry → List SheetEntry
answered m [] = []
answered m (e ∷ es) = with_answer e (link_of m e).answer ∷ answered (link_of m e).graph es

-- The sheet.

-- 14
abbrev pub too_many : List SheetEntry → Bool
too_many es = ltb sheet_entries (length es)

-- the graph and the sheet's own answer
abbrev pub link_sheet : MultiPortGraph → List SheetEntry → SheetLinked
link_sheet m es = cond (too_many es) (record { graph = m; answer = Err too_long }) (record { graph = graph_after m es; answer = Ok tt })

-- the lent entries as they come back
abbrev pub sheet_after : MultiPortGraph → List SheetEntry → List SheetEntry
sheet_after m es = cond (too_many es) es (answered m es)
