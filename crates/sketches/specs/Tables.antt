-- A table as contracts see it.
use Rattle.std.specs.Prelude.{List}
use Rattle.sketches.specs.Rows.{rows_in}
use Rattle.sketches.specs.declared.rows.Row.{Row}
use Rattle.sketches.specs.declared.tables.Rows.{Rows}

-- its rows in use, the newest first
abbrev pub listed : Rows → List Row
listed t = rows_in t.rows t.count
