-- What holds of every list of calls from the empty graph of a release: the theorems and their proofs, over the words of specs/.
--
-- Read in this order. Statements first:
--   Theorems      every theorem with a sentence and its statement; proofs stand in the files below
--   ReleaseTheorems     and what is proved of the two releases
-- What is proved of a call, a bundle (CallLaw) in a file for each call: AddCall, RemoveCall, SetCall, LinkCall, LinkCleanCall,
-- LinkSubCall, CutCall, CutSubCall, TidyCall; collected in CallLaws. A new call is: its row in Book, History, Conditions and Works, its file, its row in CallLaws.
-- Proofs over histories: TheoremProofs, AnswerWires, ListingWires, PlaceWires, KeptPorts, MovePlaces, TidyWalks, TidyHistory, WiresHeld, HistoryCounts, FanOutWires.
-- Releases: release 2 is release 1 without 18 (ReleaseRuns); hidden nodes stay on outputs (ReleaseHistory).
-- Starts of walks, lookups and fan-out are refused exactly under 4, 5, 7, 8 (StartLaws). The ports of every graph: PortListing.
pub mod Theorems
-- a call
pub mod CallLaw
pub mod WireRule
pub mod AddCall
pub mod RemoveCall
pub mod SetCall
pub mod LinkCall
pub mod LinkCleanCall
pub mod LinkSubCall
pub mod CutCall
pub mod CutSubCall
pub mod TidyCall
pub mod CallLaws
-- histories
pub mod TheoremProofs
pub mod AnswerWires
pub mod ListingWires
pub mod KeptPorts
pub mod MovePlaces
pub mod WiresHeld
pub mod PlaceWires
pub mod TidyWalks
pub mod TidyHistory
pub mod PortListing
pub mod HistoryCounts
-- walks
pub mod StartLaws
pub mod FanOutWires
-- releases
pub mod ReleaseTheorems
pub mod ReleaseRuns
pub mod ReleaseHistory
