-- The multiport graph: several links share a port through hidden copy nodes. What holds of lists of calls stands in the crate
-- `theorems`; here stand the definitions that contracts and theorems cite, and the laws behind the code.
--
-- What must be believed: that these definitions, over those of `port_tables`, `portgraph` and `multi_tables` (numbers of refusals, how a port
-- number is read), say what document 01 says. In this order:
--   Reading       how a port number is read: live, hidden, split; ends and subports, and where an end stands
--   Graph         a graph from its parts: every other graph is made by these (`with_graph`, `with_marks`, `with_hidden`)
--   Answers       01's numbers and values of each answer
--   HiddenNodes   how hidden nodes go, how they move with their ports, and how an end of a link is prepared
--   Tidy          what is left of a split port's hidden node where the port is tidied
--   Refusals      the refusals of each call in their order, as a table: condition, refusal, graph left
--   Calls         each call: the first line of its table that applies, else what is done
--   Wires         the list of all wires and the cursor that walks it
--   Walks, WalkNumbers     the other walks, their starts, and fan-out
--   Lookups       lookups on blocks and ports
--   Listed        all wires and all blocks as numbers in a list
--
-- What is proved, and need not be believed: everything else. A contract presumes of its graph only that it came from these calls
-- (MultiWf, in WellFormed over the lower crate's Model). What that says nobody has to believe: the empty graph has it and every call keeps
-- it, so it holds of every graph of the calls (`run_kept` of `theorems`). These laws a reviewer looks for, of every such graph:
--   visible_nodes_lem, visible_ports_lem, visible_links_lem, split_one_copy, copy_one_split, no_wire_at_hidden (CountLaws)
--   the work of a call is what it takes and gives back, and 10 is given exactly if a table would grow past its limit (SpaceLaws;
--   for the cut of a port, CutLaws of proofs/)
-- They speak in the words of Model (a node is live, a port stands at a place) and, for 10, of Space (the work of a call).
pub mod Reading
pub mod Graph
pub mod Answers
pub mod HiddenNodes
pub mod Tidy
pub mod Refusals
pub mod Calls
pub mod Wires
pub mod Walks
pub mod WalkNumbers
pub mod Lookups
pub mod Listed
-- the code's own forms of these: the calls by cases, what inner functions give and presume, what is read off lent tables
pub mod Cases
pub mod CodeForms
pub mod OwnTables
pub mod Presumed
pub mod Named
pub mod Needs
pub mod WalkScans
pub mod ListScans
-- what MultiWf says, and the room behind 10
pub mod WellFormed
pub mod Space
-- laws: calls by cases; ends and listings; each change of a graph; readings off tables; room
pub mod CutSteps
pub mod CaseLaws
pub mod Ends
pub mod WalkRule
pub mod CountLaws
pub mod ScanLaws
pub mod HiddenStays
pub mod LinkCutLaws
pub mod CopyLaws
pub mod SplitLaws
pub mod RecountLaws
pub mod SetLaws
pub mod PrepareLaws
pub mod GrowLaws
pub mod TidyLaws
pub mod TableReadLaws
pub mod NamedLaws
pub mod NeedStays
pub mod NeedLaws
pub mod SpaceLaws
-- steps that the functions' proofs cite
pub mod CodeFormSteps
pub mod CopySteps
pub mod PrepareSteps
pub mod CallSteps
pub mod TidySteps
pub mod LinkSteps
pub mod LinkMade
pub mod TableSteps
pub mod LowerSteps
pub mod NeedSteps
pub mod BlockSteps
pub mod LookupSteps
pub mod StartSteps
pub mod ScanReads
pub mod WireSteps
pub mod RangeSearches
pub mod WalkSteps
pub mod LinkWalkSteps
pub mod SubportSteps
pub mod FanOutSteps
pub mod InputSteps
pub mod ListSteps
pub mod ListReads
