-- Times along wires (document 02, Req 13): the largest sum that comes to a block, a path that has it, and run orders.
--
-- Read in this order. Statements first:
--   TimingTheorems   every theorem with a sentence and its statement
-- The words that they use, to be believed together with multiportgraph's and theorems' definitions:
--   TimingClaims     walks along wires, as lists of blocks; cycles that reach a block; orders of blocks
--   Longest          what `longest` answers: 4, 5, 19, 20, or the largest sum
--   RunOrder         what `run_order` answers
--   Path             what `path` answers and lists; which of several paths it is need not be believed, only `path_is_longest`
-- Proofs and steps, which need not be believed:
--   WalkLaws         a cycle reaches a block exactly if long walks come to it; the largest sum is that of some walk, and of none larger
--   Settling, Naming the passes of the code over lists: blocks settled one after the other, and places of an order
--   SettleLaws       what holds of settling is kept by each wire; at the end the settled blocks are those that no cycle reaches
--   StartLaws        the tables that settling begins with; what the settled tables say is the answer
--   FeedLaws         what the listing of a graph's wires says of its blocks
--   RunOrderLaws     what the table of places says of an order; orders and cycles
--   TimingLaws       the answers by cases, and the theorems of one graph
--   TimingHistory    the theorems over every list of calls
--   Passing                      a listing that is gone through record by record
--   SettleSteps, AnswerSteps     what the proofs of functions cite
pub mod TimingTheorems
pub mod TimingClaims
pub mod Longest
pub mod RunOrder
pub mod Path
-- the code's own forms
pub mod Settling
pub mod Naming
-- laws
pub mod WalkLaws
pub mod SettleLaws
pub mod StartLaws
pub mod FeedLaws
pub mod RunOrderLaws
pub mod TimingLaws
pub mod TimingHistory
-- steps
pub mod Passing
pub mod SettleSteps
pub mod AnswerSteps
