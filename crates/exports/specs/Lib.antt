-- The entries over files, views and times: lists of numbers in and out.
--
-- What must be believed: that these definitions, over those of records, files and timing, say what the entries are for.
--   Exports       what each entry over files returns and leaves in the lent buffer
--   Viewed        the bytes of a view, and the same of the entry that writes it
--   ViewedClaims  what a reader takes from a view, and when that shows a wire book
--   Timed         what the entries for times return, and what the lent list holds afterwards
--
-- What is proved, and need not be believed:
--   ViewedTheorems   a view shows the book of the history: its blocks and ports, and its wires, each once
--   TimedTheorems    a sum returned is the largest along the wires of the history, and a path returned has it
--   ExportLaws    the files that are written are those of histories
--   LoadedLaws    the requests of a file are its build, and a list that begins with them goes on from the loaded graph
--   ViewedLaws    a view is read back, and shows the book that goes with its graph
--   TimedLaws     what a number says that an entry for times returns
--   LoadedSteps, ViewedSteps   what the functions' proofs cite
pub mod Exports
pub mod Viewed
pub mod ViewedClaims
pub mod Timed
-- theorems
pub mod ViewedTheorems
pub mod TimedTheorems
-- laws
pub mod ExportLaws
pub mod LoadedLaws
pub mod ViewedLaws
pub mod TimedLaws
-- steps
pub mod LoadedSteps
pub mod ViewedSteps
