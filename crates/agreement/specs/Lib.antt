-- The kit's engine and the sketch agree (document 02, Req 11).
--
-- Read in this order. Statements first:
--   AgreementTheorems     every theorem with a sentence and its statement
-- The words that they use, to be believed together with the definitions of multiportgraph, theorems and sketches:
--   Meaning       which call of the sketch means which call of the engine: blocks and ports under the names of blocks
--   Agreement     what it is for two answers, and for a graph and a plan, to be alike
--   Histories     histories of both, what is asked of them and what is claimed
-- What is proved, and need not be believed:
--   Alike         the relation between the two that every pair of calls keeps
--   Square        what is proved of each pair of calls
--   Names         tests on places and lists of wires under the names
--   Standing      what a pair of calls names, and how its ports are split and read
--   PlanLaws      a plan's split ports, sifted and set
--   KeptSplits    ports that stay split with as many subports
--   Carry         what stays alike where the blocks are kept
--   Asked         what an end is linked with
--   CutSquares    both cuts
--   AddSquare     an add
--   RemoveSplits  ports of other blocks stay split where a block goes
--   RemoveSquare  a removal
--   SetSquare     a resize
--   PreparedSubports  what preparing and linking ends does to subports
--   LinkTests     the tests of a link, alike in both
--   LinkSteps     preparing and joining ends, alike in both
--   LinkSquare, LinkCleanSquare, LinkSubSquare    the squares of the three links
--   TidySplits    what a tidy does to subports
--   TidySquare    a tidy
--   Looks         lists of wires, counts and walks
--   LooksCounts   counts, fan-outs and starts of walks
--   LooksWalks    what walks list, and all that both look like
--   Agrees        every history
--   Space         what 10 of the sketch is given for
--   Partners      every call has a partner
--   NameCounts    a name is how many adds were accepted before
--   Covered       every history of the engine that is asked for
pub mod Meaning
pub mod Agreement
pub mod Histories
-- laws
pub mod Alike
pub mod Square
pub mod Names
pub mod Standing
pub mod PlanLaws
pub mod KeptSplits
pub mod Carry
pub mod Asked
pub mod CutSquares
pub mod AddSquare
pub mod RemoveSplits
pub mod RemoveSquare
pub mod SetSquare
pub mod PreparedSubports
pub mod LinkTests
pub mod LinkSteps
pub mod LinkSquare
pub mod LinkCleanSquare
pub mod LinkSubSquare
pub mod TidySplits
pub mod TidySquare
pub mod Looks
pub mod LooksCounts
pub mod LooksWalks
pub mod Agrees
pub mod Space
pub mod Partners
pub mod NameCounts
pub mod Covered
pub mod AgreementTheorems
