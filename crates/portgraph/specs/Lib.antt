-- The single-link graph: what it is, what its calls do, and the laws.
--
-- What must be believed: that the definitions which contracts cite say what document 01 says. Over those of
-- `port_tables` (limits, entries, tables, places) they stand in this order:
--   Lookups, Calls, Resize      each call: answer, graph and move list as the contracts cite them
--   Walks, LinkWalks            the steps of the cursors
--   Parts                       a graph in parts: its tables, and the numbers beside them
--
-- What is proved, and need not be believed: everything else. A contract presumes of its graph only that it came from these calls
-- (Wf), and what that says nobody has to believe: the empty graph has it, and every call keeps it.
--   Model                       what the tables stand for (Model), what is always true of it (Good), and how they stand
--                               for it (Holds); Wf is what a graph of these calls has
--   Meaning                     what each call does to the model: links between places, node slots and blocks taken or given
-- The laws:
--   wf_new, wf_link, wf_unlink (LinkHolds), wf_add, wf_remove (SlotHolds), wf_set (ResizeLaws): every call keeps Wf
--   link_law, unlink_law (LinkHolds), add_law, remove_law (SlotHolds), set_law (ResizeLaws): when each answer is given
--   link_holds, unlink_holds, place_holds, free_holds, inside_holds, anew_holds: the tables after each call stand for the
--   model that Meaning gives
--   slot_found, block_found_lem (SlotHolds, BlockHolds): the slot or block freed last is taken first, else the end
--   told_length, told_first, moves_kept, kept_link (ResizeLaws): the move list, and that a kept port keeps its link
--   walk_gives_all_nodes, walk_gives_all_ports, walk_gives_all_offsets (WalkLaws), walk_gives_all_links, walk_gives_all_neighbours,
--   walk_gives_all_connections, walk_gives_all_live_ports (LinkWalkLaws)
pub mod Lookups
pub mod Calls
pub mod Resize
pub mod Walks
pub mod LinkWalks
pub mod Parts
-- what is proved: what the tables stand for
pub mod Model
pub mod Meaning
-- laws: single changes; tables, sums and chains; links under any numbering of places; the model stays good
pub mod Joins
pub mod TableLaws
pub mod Chains
pub mod Sums
pub mod LinkLaws
pub mod GoodSlots
pub mod GoodLaws
-- laws: tables against model, and walks
pub mod PlaceLaws
pub mod LinkHolds
pub mod BlockHolds
pub mod SlotHolds
pub mod DropHolds
pub mod InsideHolds
pub mod AnewHolds
pub mod ResizeLaws
pub mod WalkLaws
pub mod LinkWalkLaws
-- steps that the functions' proofs cite
pub mod LookupSteps
pub mod SlotSteps
pub mod ResizeSteps
pub mod Numbered
pub mod WfFacts
pub mod LinkWalkSteps
