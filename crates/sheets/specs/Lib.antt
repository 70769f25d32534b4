-- A whole wiring sheet at once.
--
-- Read in this order. Statements first:
--   Theorems      every theorem of sheets with a sentence and its statement
-- The words that they use, to be believed together with multiportgraph's and theorems' definitions:
--   Sheets        what a sheet does: its entries in order, the answers, and 14
--   Held          the same where the caller holds the entries by value, in an array
--   SheetHistory  lists of calls and sheets, with the wire book beside them; a sheet's links as calls
-- Proofs and steps, which need not be believed:
--   SheetLaws     a sheet is its links made one at a time, and a history with sheets that of its calls
--   SheetSteps    the loop over the lent entries, which the proof of `link_sheet` cites
pub mod Theorems
pub mod Sheets
pub mod SheetHistory
pub mod Held
-- laws
pub mod SheetLaws
-- steps
pub mod SheetSteps
