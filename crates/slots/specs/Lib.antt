-- Every slot of the port table accounted for (document 02, Req 14).
--
-- Read in this order. Statements first:
--   SlotTheorems  every theorem about slots with a sentence and its statement
-- The words that they use, to be believed together with the definitions of the graph, of sheets and of files:
--   Blocks        the blocks of a graph, read off its tables, and the listing of them by first slot
--   SlotClaims    what is said of them: every slot in one block; what a call asks for; freed and not taken since; split ports
--   SlotHistory   lists of calls, sheets and loads, and the graph in hand after them
--   SlotExample   one small history, its listing number by number
--
-- What is proved, and need not be believed: everything else.
--   TileLaws      blocks that lie end to end
--   BlockLaws     the blocks of the tables are those of the model; every slot lies in one of them, and they are listed
--   KeptLaws      no change of the single-link graph splits or joins a block
--   CallKeeps     nor does any call. A new call is its row in step_leads
--   FreedLaws     a free block of the size asked for is found; what works free and none takes stays free. A new call is its row in
--                 asks_paired, ten_refused and refused_ten
--   HistoryLaws   the same of every history
pub mod SlotTheorems
pub mod Blocks
pub mod SlotClaims
pub mod SlotHistory
pub mod SlotExample
-- the code's own forms
pub mod Forms
-- laws
pub mod TileLaws
pub mod BlockLaws
pub mod KeptLaws
pub mod CallKeeps
pub mod FreedLaws
pub mod HistoryLaws
-- steps that the functions' proofs cite
pub mod LaySteps
