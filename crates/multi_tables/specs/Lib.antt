-- What is read off the tables of the multiport graph, and how marks move in theirs, over lists of numbers and flags: no graph stands here.
--
-- What must be believed: that `EndAnswers` and `Forms` say what document 01 says. The others are the code's own forms, and laws of the
-- graph's crate tie them to its definitions.
--   EndAnswers     01's numbers of a refusal, and of an end
--   Forms          how a port number and an end are read; marks and flags
--   TableReads     what is read off owners, links, marks and flags
--   NamedEnds      what a call names: the inner ports of its ends, or the refusal
--   Scans          the first link from a port and offset on
--   FanOutScans    wires of a port counted
--   TakenInputs    the check of 18
pub mod EndAnswers
pub mod Forms
pub mod TableReads
pub mod NamedEnds
pub mod Scans
pub mod FanOutScans
pub mod TakenInputs
-- laws of marks that move
pub mod MarkLaws
pub mod MarkMoves
-- steps that the functions' proofs cite
pub mod FormSteps
pub mod TableReadSteps
pub mod NamedEndSteps
pub mod ScanSteps
pub mod FanOutScanSteps
pub mod TakenSteps
