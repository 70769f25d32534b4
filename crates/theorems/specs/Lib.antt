-- What holds of every list of calls from the empty graph of a release.
--
-- The theorems stand in proofs/: Theorems has every theorem with a sentence and its statement, ReleaseTheorems what is proved of the two releases;
-- proofs/Lib.antt is their map. Here are the words that they use, to be believed together with multiportgraph's definitions:
--   Book          the wire book of document 01, with no graph in its types
--   History       one call, and lists of calls from the empty graph, with the book beside them
--   Claims        what is said of a history: the wire rule, cuts that restore, wires between ports, counts
--   AnswerClaims, ListingClaims     what calls answer of a wire, and what walks list, against the book
--   PlaceClaims   where an end that is answered or given by a walk stands, against the book
--   MoveClaims    which ports a resize tells, and what it tells of each, by side and position; the hidden nodes that go; what stays split
--   TidyClaims    what a tidy leaves as it is, and how what it gives back is found again
--   CursorClaims  what lies beyond the port and offset that the cursor over all wires holds
--   Conditions    when each refusal of a call is given, in words about the model, and what a refusal leaves
--   Works         what a call takes of the tables and gives back, which is what refusal 10 counts
--   ReleaseClaims what is said of the two releases: a call without the check of 18, and histories by their answers
-- The links listed at a port are its wires (ListedLinks); so 18's test is its condition (TakenLaws).
-- Runs of lists: Runs. The bench wiring, cases A to K, a few resizes, fan-outs, second wires into an input and tidies: Bench; 01's numbers: NumberTable.
-- Releases: no call looks at the release but for 18 (ReleaseLaws); what every outcome of a call without that check has (CallCases); hidden nodes
-- stay on outputs (ReleaseHidden, ReleaseInputs).
-- Walks: each gives its listing whole, in order, and then the end (WalkStepLaws, BlockWalkLaws: the laws named .._whole); by turns from
-- both ends no item comes twice (nodes_turns, ports_turns, port_links_turns); a cursor whose node or port is gone or hidden ends, and a
-- step gives only what is listed beyond what its cursor holds (WalkHeldLaws).
pub mod Pairs
pub mod Book
pub mod History
pub mod Claims
pub mod AnswerClaims
pub mod ListingClaims
pub mod PlaceClaims
pub mod MoveClaims
pub mod TidyClaims
pub mod CursorClaims
pub mod Conditions
pub mod Works
-- a call
pub mod PortCases
pub mod ListedLinks
pub mod TakenLaws
pub mod LinkLaw
pub mod RemoveLaws
pub mod BookLaws
-- histories
pub mod Runs
pub mod Bench
pub mod NumberTable
-- walks
pub mod Cursors
pub mod WalkStepLaws
pub mod BlockWalkLaws
pub mod WalkHeldLaws
-- releases
pub mod ReleaseClaims
pub mod ReleaseLaws
pub mod CallCases
pub mod ReleaseHidden
pub mod ReleaseInputs
