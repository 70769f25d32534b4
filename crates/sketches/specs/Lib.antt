-- A sketch: the calls of the kit over a list of blocks and a list of wires.
--
-- Read in this order:
--   Plan          what a sketch holds, and how a port and an end are read
--   PlanNumbers   01's and 02's number of each refusal, and the numbers of each answer
--   PlanCalls     each call: its refusals in their order, else what is done; sheets
--   PlanLists     what each walk lists, the counts and the fan-outs
--   SketchTables  three tables as a plan, what a call presumes and keeps (SketchWf) and what it promises (Leaves)
--   Held          a sketch as contracts see it
--   Rows          the rows of a table, and the tests on them
--   Tables        a table as contracts see it
--   CallParts     what the functions under the calls answer and leave
--   SketchWalks   what a step of each walk gives
--   WalkLaws, SubportLaws   a walk gives each item of its list once, and ends
--   PlanWf, CallsWf         what holds of a plan after every call: no more split ports than ports, offsets that fit 16 bits
-- The rest are the steps of the code: RowSteps, RowReads and Offsets for one table, BlockSteps, SplitSteps, LinkSteps, EndSteps, CutSteps, CountSteps
-- and SheetSteps for the calls, and WalkSteps for the walks.
pub mod Plan
pub mod PlanNumbers
pub mod PlanCalls
pub mod PlanLists
pub mod Rows
pub mod RowSteps
pub mod RowReads
pub mod Offsets
pub mod PlanWf
pub mod Tables
pub mod SketchTables
pub mod Held
pub mod CallParts
pub mod CallsWf
pub mod BlockSteps
pub mod SplitSteps
pub mod LinkSteps
pub mod EndSteps
pub mod CutSteps
pub mod CountSteps
pub mod SketchWalks
pub mod WalkSteps
pub mod SheetSteps
pub mod WalkLaws
pub mod SubportLaws
