-- What is proved of the slots of the port table, in plain order: statements with a sentence each. The words stand in Blocks, SlotClaims and
-- SlotHistory; the proofs in the files that each line names.
--
-- The graph in hand comes of any list of calls, sheets and loads from the empty graph of a release, refused ones included.
use Rattle.std.specs.Prelude.{◌≡◌, List, ◌++◌, ℕ}
use mathlib.Core.List.{flat_map}
use Rattle.port_tables.specs.Lists.{Member}
use Rattle.multiportgraph.specs.Graph.{empty_graph}
use Rattle.multiportgraph.specs.declared.multiportgraph.MultiPortGraph.{MultiPortGraph}
use Rattle.port_tables.specs.declared.release.Release.{Release}
use Rattle.theorems.specs.Book.{Call}
use Rattle.theorems.specs.History.{run}
use Rattle.portgraph.specs.declared.portgraph.PortGraph.{PortGraph}
use Rattle.slots.specs.Blocks.{Holder, by_node, free, slot_block, blocks_of, slot_list, slot_numbers, slots_told, told_numbers}
use Rattle.slots.specs.LaySteps.{told_alike}
use Rattle.slots.specs.SlotClaims.{SlotsAccounted, SlotsListed, OneForOne, Cut, cuts_of, AsksOnly, NeverForPorts, FreedSince, empty_room, works_along}
use Rattle.slots.specs.SlotHistory.{Item, in_hand, after_calls}
use Rattle.slots.specs.HistoryLaws as proofs

-- Each slot of the port table's used length lies in exactly one block, and that block is either held by one live node or listed once as
-- free.
pub every_slot_in_one_block : (release : Release) (items : List Item) → SlotsAccounted (in_hand release items).graph
every_slot_in_one_block release items = proofs.accounted (in_hand release items) (proofs.in_hand_kept release items)

-- The listing of `slots` has exactly these blocks, each once, end to end from slot 0 to the used length.
pub blocks_are_listed : (release : Release) (items : List Item) → SlotsListed (in_hand release items).graph
blocks_are_listed release items = proofs.listed (in_hand release items) (proofs.in_hand_kept release items)

-- The blocks that `slots` is given have these numbers, three each: first slot, size, and who has it.
pub blocks_have_numbers : (g : PortGraph) → flat_map told_numbers (slots_told g) ≡ slot_numbers g
unfolding slots_told slot_numbers
blocks_have_numbers g = told_alike (slot_list g)

-- A split port has one hidden node, and each hidden node one split port.
pub one_hidden_for_one_split : (release : Release) (items : List Item) → OneForOne (in_hand release items)
one_hidden_for_one_split release items = proofs.one_for_one (in_hand release items) (proofs.in_hand_kept release items)

-- No block is ever split or joined: after any more calls the table is cut where it was, and new blocks come only at its end.
pub blocks_only_grow_at_the_end : (release : Release) (items : List Item) (later : List Call) →
    (more : List Cut) × (cuts_of (after_calls (in_hand release items) later).graph ≡ cuts_of (in_hand release items).graph ++ more)
blocks_only_grow_at_the_end release items later = proofs.blocks_go_on (in_hand release items) (proofs.in_hand_kept release items) later

-- Once a block of some size has been freed and not taken since, a call that asks for one block only, of that size, is never refused for port
-- slots. (A graph that was loaded has the adds and links of its load as its first calls.)
pub freed_block_is_found : (release : Release) (calls : List Call) (first size : ℕ) → FreedSince first size empty_room (works_along (empty_graph release) calls) →
    (c : Call) → AsksOnly (run release calls).graph c size → NeverForPorts (run release calls).graph c
freed_block_is_found = proofs.freed_found

-- The same as it shows in the listing: a block has been there, whoever had it, and after any more calls no node holds it;
pub unheld_block_is_found : (release : Release) (items : List Item) (later : List Call) (first size : ℕ) (holder : Holder) →
    Member (slot_block first size holder) (blocks_of (in_hand release items).graph) →
    ((n : ℕ) → Member (slot_block first size (by_node n)) (blocks_of (after_calls (in_hand release items) later).graph) → ⊥) →
    (c : Call) → AsksOnly (after_calls (in_hand release items) later) c size → NeverForPorts (after_calls (in_hand release items) later) c
unheld_block_is_found release items = proofs.unheld_found (in_hand release items) (proofs.in_hand_kept release items)

-- or a block is listed as free now.
pub free_block_is_found : (release : Release) (items : List Item) (first size : ℕ) → Member (slot_block first size free) (blocks_of (in_hand release items).graph) →
    (c : Call) → AsksOnly (in_hand release items) c size → NeverForPorts (in_hand release items) c
free_block_is_found release items = proofs.free_found (in_hand release items) (proofs.in_hand_kept release items)

-- The graph in hand is that of a list of calls alone: of a load's adds and links and what followed it, a sheet's links one at a time. So
-- whatever holds after every list of calls holds of it.
pub in_hand_is_history : (release : Release) (items : List Item) → (r : Release) × (calls : List Call) × (in_hand release items ≡ (run r calls).graph)
in_hand_is_history = proofs.in_hand_comes

pub with_loads_and_sheets : (P : MultiPortGraph → Type 0) → ((release : Release) (calls : List Call) → P (run release calls).graph) →
    (release : Release) (items : List Item) → P (in_hand release items)
with_loads_and_sheets = proofs.in_hand_lem
