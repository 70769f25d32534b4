-- What is proved, in plain order: statements with a sentence each. The proofs stand in the files that each line names; the words
-- stand in Claims, Conditions and Works, over Book and History.
--
-- A history is any list of calls from the empty graph of a release, refused ones included. What stands here holds under both releases.
use Rattle.std.specs.Prelude.{◌≡◌, Bool, true, false, List, [], ◌∷◌, ◌++◌, map, ◌↔◌, ◌⊎◌, ℕ, suc, ◌<◌, ◌*◌, length, drop, Some, None, Ok}
use Rattle.port_tables.specs.Lists.{Member}
use Rattle.std.specs.List.{filter}
use Rattle.portgraph.specs.Lookups.{num_ports, meta_at}
use Rattle.port_tables.specs.Entries.{new_count}
use Rattle.portgraph.specs.Model.{Model}
use Rattle.port_tables.specs.declared.direction.Direction.{Direction}
use Rattle.port_tables.specs.declared.direction.Direction.TheVariants.{Outgoing}
use Rattle.port_tables.specs.declared.node_entry.NodeMeta.{NodeMeta}
use Rattle.port_tables.specs.declared.sides.Sides.{Sides}
use Rattle.port_tables.specs.declared.release.Release.{Release}
use Rattle.multiportgraph.specs.Calls.{set_counts, moves_told, visible_nodes, visible_ports, visible_links}
use Rattle.multi_tables.specs.EndAnswers.{refusal_numbers}
use Rattle.port_tables.specs.Places.{Spot, spot, at_spot, touches, end_on, far_from}
use Rattle.multiportgraph.specs.Reading.{seen, is_split, copy_node}
use Rattle.multi_tables.specs.Forms.{visible}
use Rattle.multiportgraph.specs.Wires.{wires_walked, walk_wires, step_wires, all_wires, side_links, is_block}
use Rattle.multiportgraph.specs.Walks.{is_seen, port_links, node_links, neighbours, connections}
use Rattle.multiportgraph.specs.WellFormed.{Fine, MultiWf}
use Rattle.multiportgraph.specs.Space.{room_of, Spaced}
use Rattle.multiportgraph.specs.TidyLaws.{SameBlock}
use Rattle.theorems.specs.Book.{Call, link_clean_call, set_call, tidy_call, spot_of}
use Rattle.theorems.specs.History.{State, step, next, run_from, run}
use Rattle.theorems.specs.Works.{works_of}
use Rattle.theorems.specs.Claims.{WireRule, Link, by_ports, by_ports_clean, linking, LinkedBy, accepted_link, Restored, between, FanOutIsWires, ports_in_book}
use Rattle.theorems.specs.AnswerClaims.{AnswersItsWire, AnswersAreWires}
use Rattle.theorems.specs.PlaceClaims.{PlacesAreWires}
use Rattle.theorems.specs.TidyClaims.{PlacesKept, WalksKept, LeftByWires, FoundAgain}
use Rattle.theorems.proofs.TidyHistory as tidy
use Rattle.theorems.specs.ListingClaims.{wire_from, Exactly, InBook, OverSides, OutOfRange, FarNodes, NotOwnOutput}
use Rattle.theorems.specs.Conditions.{RefusedBy, Accepted, Condition, leaves_prepared}
use Rattle.theorems.specs.Bench as bench
use Rattle.theorems.specs.Bench.{asked_all, asked_under, expected_all, bench_lines, resize_lines, fan_out_lines, input_lines, tidy_lines}
use Rattle.theorems.specs.NumberTable as numbers
use Rattle.theorems.specs.NumberTable.{refusals, refusal_table, answers, answer_table, Cursors, walk_answers, walk_table}
use Rattle.theorems.specs.Runs as runs
use Rattle.theorems.proofs.CallLaws as every
use Rattle.theorems.proofs.LinkCleanCall as clean
use Rattle.theorems.proofs.TheoremProofs as proofs
use Rattle.theorems.proofs.AnswerWires as answered
use Rattle.theorems.proofs.ListingWires as listed
use Rattle.theorems.proofs.PlaceWires as placed
use Rattle.theorems.proofs.KeptPorts as kept
use Rattle.theorems.proofs.MovePlaces as moved
use Rattle.theorems.specs.MoveClaims.{told_events, told_places, hidden_told, given_back, SplitAsBefore}
use Rattle.theorems.proofs.WiresHeld as cursor
use Rattle.theorems.specs.CursorClaims.{Beyond, FirstOf, holding, lies_beyond}
use Rattle.theorems.proofs.HistoryCounts as counts
use Rattle.theorems.proofs.FanOutWires as fans
use Rattle.multi_tables.specs.declared.answers.SubportIndex.{SubportIndex}
use Rattle.multi_tables.specs.declared.answers.SubportLink.{SubportLink}
use Rattle.multiportgraph.specs.declared.iter.Wires.{Wires}
use Rattle.multi_tables.specs.declared.answers.Refusal.{Refusal}
use Rattle.multi_tables.specs.declared.answers.Refusal.TheVariants.{NoRoom}

-- The wires.

-- The list of all wires, walked from its start until it ends, holds exactly once each wire that an accepted call made and none has
-- undone since, by the wire book, and nothing else.
pub wire_rule : (release : Release) (calls : List Call) → WireRule (run release calls)
wire_rule = proofs.wire_rule

-- A link of any kind follows and is accepted: cutting either subport that it answered brings back the earlier list of wires.
pub cut_restores : (release : Release) (calls : List Call) (l : Link) (x y : SubportIndex) → LinkedBy (run release calls) l x y →
    Restored (run release calls).graph (next (run release calls) (linking l)).graph x × Restored (run release calls).graph (next (run release calls) (linking l)).graph y
cut_restores = proofs.cut_restores

-- Two links of any kinds, both accepted whichever goes first, leave as many wires between any two ports in both orders. (Under release 2 a
-- wire into an input may be what the other link is refused for.)
pub links_in_either_order : (release : Release) (calls : List Call) (k l : Link) → accepted_link (run release calls) k → accepted_link (next (run release calls) (linking k)) l →
    accepted_link (run release calls) l → accepted_link (next (run release calls) (linking l)) k → (s t : Spot) →
    between s t (wires_walked (next (next (run release calls) (linking k)) (linking l)).graph) ≡ between s t (wires_walked (next (next (run release calls) (linking l)) (linking k)).graph)
links_in_either_order = proofs.links_in_either_order

-- The link that leaves no stub is accepted exactly where the link of ports is, with the same two subports answered; graph and book are then
-- the same.
pub clean_link_is_link : (release : Release) (calls : List Call) (a b : ℕ) (x y : SubportIndex) →
    (LinkedBy (run release calls) (by_ports_clean a b) x y ↔ LinkedBy (run release calls) (by_ports a b) x y)
    × (LinkedBy (run release calls) (by_ports_clean a b) x y → next (run release calls) (linking (by_ports_clean a b)) ≡ next (run release calls) (linking (by_ports a b)))
clean_link_is_link release calls = clean.clean_link_is_link (run release calls)

-- Refused, it leaves graph and book as they were, whatever the refusal.
pub clean_link_refused_leaves_all : (release : Release) (calls : List Call) (a b : ℕ) (r : Refusal) →
    RefusedBy (link_clean_call a b) (step (run release calls).graph (link_clean_call a b)).answer r → next (run release calls) (link_clean_call a b) ≡ run release calls
clean_link_refused_leaves_all release calls = clean.clean_refused_leaves (run release calls) (every.run_kept release calls).fine

-- A tidy is no change: the book stays, no wire changes its place at either end, and no block's port changes its number.
pub tidy_keeps_places : (release : Release) (calls : List Call) (p : ℕ) → PlacesKept (run release calls) (next (run release calls) (tidy_call p))
tidy_keeps_places = tidy.tidy_keeps_places

-- A cursor from before a tidy goes on as if nothing had happened, in every walk that gives wires.
pub tidy_keeps_walks : (release : Release) (calls : List Call) (p : ℕ) → WalksKept (run release calls).graph (next (run release calls) (tidy_call p)).graph
tidy_keeps_walks = tidy.tidy_keeps_walks

-- A port that is not split stays as it is, with all else.
pub tidy_leaves_an_unsplit_port : (release : Release) (calls : List Call) (p : ℕ) → is_split (run release calls).graph p ≡ false →
    next (run release calls) (tidy_call p) ≡ run release calls
tidy_leaves_an_unsplit_port = tidy.tidy_leaves_an_unsplit_port

-- A port that is tidied is left with what its wires need: no hidden node where none ends there at an offset above 0, else its subports up to the
-- highest wired one.
pub tidy_leaves_what_is_wired : (release : Release) (calls : List Call) (p n : ℕ) (d : Direction) (i : ℕ) → spot_of (run release calls).book.blocks p ≡ spot n d i →
    LeftByWires (next (run release calls) (tidy_call p)) p n d i
tidy_leaves_what_is_wired = tidy.tidy_leaves_what_is_wired

-- A second tidy of the same port finds nothing to do: answer, graph and book are those of the first.
pub tidy_twice_is_once : (release : Release) (calls : List Call) (p : ℕ) →
    (step (step (run release calls).graph (tidy_call p)).graph (tidy_call p) ≡ step (run release calls).graph (tidy_call p))
    × (next (next (run release calls) (tidy_call p)) (tidy_call p) ≡ next (run release calls) (tidy_call p))
tidy_twice_is_once = tidy.tidy_twice_is_once

-- A port that stays split keeps its hidden node in its block, whatever the block's size, and nothing is taken or given back.
pub tidy_drops_within_the_block : (release : Release) (calls : List Call) (p n : ℕ) (d : Direction) → seen (run release calls).graph p ≡ visible n d → is_split (run release calls).graph p ≡ true →
    is_split (next (run release calls) (tidy_call p)).graph p ≡ true →
    SameBlock (run release calls).graph.graph (next (run release calls) (tidy_call p)).graph.graph (copy_node (run release calls).graph p)
    × ((M N : Model) → Fine (run release calls).graph M → Fine (next (run release calls) (tidy_call p)).graph N → room_of N ≡ room_of M)
tidy_drops_within_the_block = tidy.tidy_drops_within_the_block

-- A port that was split and is not any more: the slot and the block of its hidden node are the last that were freed, and are found again by
-- adds and links of that size.
pub tidied_slots_are_found : (release : Release) (calls : List Call) (p : ℕ) (k : NodeMeta) → is_split (run release calls).graph p ≡ true → is_split (next (run release calls) (tidy_call p)).graph p ≡ false →
    meta_at (run release calls).graph.graph (copy_node (run release calls).graph p) ≡ Some k →
    FoundAgain (run release calls).graph (next (run release calls) (tidy_call p)).graph (copy_node (run release calls).graph p) k
tidied_slots_are_found = tidy.tidied_slots_are_found

-- A tidy is never refused for room.
pub tidy_needs_no_room : (release : Release) (calls : List Call) (p : ℕ) → RefusedBy (tidy_call p) (step (run release calls).graph (tidy_call p)).answer NoRoom → ⊥
tidy_needs_no_room = tidy.tidy_needs_no_room

-- Answers and listings, which are all that a tablet sees.

-- The wire that an accepted link enters in the book has the two answered subports as its ends, the first named first.
pub link_answers_the_wire : (release : Release) (calls : List Call) (l : Link) (x y : SubportIndex) → LinkedBy (run release calls) l x y → AnswersItsWire (run release calls) l x y
link_answers_the_wire = answered.link_answers_the_wire

-- What a subport is linked with, and what a cut answers, is what the book has: found exactly if there is a wire, with the subport at its
-- other end; nothing exactly if there is none.
pub answers_are_wires : (release : Release) (calls : List Call) → AnswersAreWires (run release calls)
answers_are_wires = answered.answers_are_wires

-- The place that is given with an end found, by an answer or by any step of a walk over links, is where the far end of the book's wire
-- between the two subports stands: node, side and position. A cut answers that of the wire that goes, for an inner port that of its visible
-- end; a split port that is cut answers itself, with the place that the book has for it.
pub places_are_wires : (release : Release) (calls : List Call) → PlacesAreWires (run release calls)
places_are_wires = placed.places_are_wires

-- What each walk lists is exactly the book's wires that it is about, each once for its end there: the links of a side of a block,
pub listings_are_wires_of_side : (release : Release) (calls : List Call) (d : Direction) (n : ℕ) → InBook (run release calls).book n →
    Exactly (run release calls).book.wires (λ w. (end_on d w).node ≡ n) (map (wire_from (run release calls).graph d) (side_links (run release calls).graph d n))
listings_are_wires_of_side = listed.listings_are_wires_of_side

-- the links of a port,
pub listings_are_wires_of_port : (release : Release) (calls : List Call) (p n : ℕ) (d : Direction) (i : ℕ) → spot_of (run release calls).book.blocks p ≡ spot n d i →
    Exactly (run release calls).book.wires (λ w. touches (at_spot (spot n d i)) w ≡ true) (map (wire_from (run release calls).graph d) (port_links (run release calls).graph p))
listings_are_wires_of_port = listed.listings_are_wires_of_port

-- the links of a block over one side or both, less those whose far port lies in the range skipped, its end excluded,
pub listings_are_wires_of_node : (release : Release) (calls : List Call) (n : ℕ) → InBook (run release calls).book n → (sides : Sides) (lo hi : ℕ) →
    OverSides
    (λ d l. Exactly (run release calls).book.wires (λ w. ((end_on d w).node ≡ n) × OutOfRange (run release calls).book lo hi (far_from d w)) (map (wire_from (run release calls).graph d) l))
    sides (node_links (run release calls).graph n sides lo hi)
listings_are_wires_of_node = listed.listings_are_wires_of_node

-- its neighbours, where the flag leaves out only far ends on its own outgoing side,
pub listings_are_wires_of_neighbours : (release : Release) (calls : List Call) (n : ℕ) → InBook (run release calls).book n → (sides : Sides) (flag : Bool) →
    OverSides (λ d. FarNodes (run release calls).book.wires (λ w. ((end_on d w).node ≡ n) × NotOwnOutput n flag (far_from d w)) d) sides (neighbours (run release calls).graph n sides flag)
listings_are_wires_of_neighbours = listed.listings_are_wires_of_neighbours

-- and the connections from one block to another.
pub listings_are_wires_between : (release : Release) (calls : List Call) (n k : ℕ) → InBook (run release calls).book n →
    Exactly (run release calls).book.wires (λ w. (w.out.node ≡ n) × (w.into.node ≡ k)) (map (wire_from (run release calls).graph Outgoing) (connections (run release calls).graph n k))
listings_are_wires_between = listed.listings_are_wires_between

-- The blocks are those of the book.
pub blocks_are_booked : (release : Release) (calls : List Call) (n : ℕ) → (is_block (run release calls).graph n ≡ true) ↔ InBook (run release calls).book n
blocks_are_booked = listed.blocks_are_booked

-- The fan-out of a live port is how many of the book's wires end there; a block's, how many leave it.
pub fan_out_is_wires : (release : Release) (calls : List Call) → FanOutIsWires (run release calls)
fan_out_is_wires = fans.fan_out_is_wires

-- A port that an accepted resize keeps is split afterwards exactly if it was, with as many subports; so are the ports of other blocks.
pub kept_ports_stay_split : (release : Release) (calls : List Call) (n i o room e : ℕ) → (step (run release calls).graph (set_call n i o room)).answer ≡ Ok e →
    (k : ℕ) → InBook (run release calls).book k → (d : Direction) (j : ℕ) → j < num_ports (run release calls).graph.graph k d → (k ≡ n → j < new_count i o d) →
    SplitAsBefore (run release calls).graph (step (run release calls).graph (set_call n i o room)).graph k d j
kept_ports_stay_split = kept.kept_ports_stay_split

-- The move list of an accepted resize: the ports that went, incoming before outgoing, each with the inner port that it was linked with (none
-- where it had no link, or where that port was told before it); then the ports that stayed, as far as they are told, each with the old and
-- the new number of one place; behind them what the list held.
pub moves_are_places : (release : Release) (calls : List Call) (n i o : ℕ) (moves : List ℕ) (e : ℕ) → (set_counts (run release calls).graph n i o (length moves)).answer ≡ Ok e →
    moves_told (run release calls).graph n i o moves
    ≡ told_events (run release calls).graph.graph (set_counts (run release calls).graph n i o (length moves)).graph.graph n i o ++ drop (3 * e) moves
moves_are_places = moved.moves_are_places

-- The number that it answers is that of the ports told.
pub events_answered : (release : Release) (calls : List Call) (n i o room e : ℕ) → (set_counts (run release calls).graph n i o room).answer ≡ Ok e →
    e ≡ length (told_places (run release calls).graph.graph n i o)
events_answered = moved.events_answered

-- The hidden nodes of the split ports that went are given back in the order told, so that the last one's slot is taken next.
pub hidden_go_in_order : (release : Release) (calls : List Call) (n i o room e : ℕ) → (set_counts (run release calls).graph n i o room).answer ≡ Ok e →
    (M N : Model) → Fine (run release calls).graph M → Fine (set_counts (run release calls).graph n i o room).graph N →
    N.free_nodes ≡ given_back (hidden_told (run release calls).graph n i o) M.free_nodes
hidden_go_in_order = moved.hidden_go_in_order

-- The cursor over all wires, on whatever the graph is by then.

-- A step that gives an item: the port held is one of a block, the item is the first of the present listing beyond it and the offset, and
-- the cursor comes back holding it.
pub wires_give : (release : Release) (calls : List Call) (c d : Wires) (p : ℕ) (w : SubportLink) → c.held.port ≡ suc p → step_wires (run release calls).graph c ≡ Some (w, d) →
    (n : ℕ) × (s : Direction) × (seen (run release calls).graph p ≡ visible n s) × FirstOf (Beyond (run release calls).graph n p c.held.offset) (all_wires (run release calls).graph) w × (d ≡ holding w)
wires_give = cursor.wires_give

-- A step that ends the walk: the port held is gone or hidden, or no item of the present listing lies beyond it and the offset.
pub wires_end : (release : Release) (calls : List Call) (c : Wires) (p : ℕ) → c.held.port ≡ suc p → step_wires (run release calls).graph c ≡ None →
    (is_seen (seen (run release calls).graph p) ≡ false)
    ⊎ ((n : ℕ) × (s : Direction) × (seen (run release calls).graph p ≡ visible n s) × ((w : SubportLink) → Member w (all_wires (run release calls).graph) → Beyond (run release calls).graph n p c.held.offset w → ⊥))
wires_end = cursor.wires_end

-- From a cursor that holds a port of a block the walk gives exactly the items beyond it, in the order of the listing, and ends.
pub wires_forward : (release : Release) (calls : List Call) (c : Wires) (p n : ℕ) (s : Direction) (fuel : ℕ) → c.held.port ≡ suc p → seen (run release calls).graph p ≡ visible n s →
    length (filter (lies_beyond (run release calls).graph n p c.held.offset) (all_wires (run release calls).graph)) < fuel →
    walk_wires (run release calls).graph fuel c ≡ record { items = filter (lies_beyond (run release calls).graph n p c.held.offset) (all_wires (run release calls).graph); ended = true }
wires_forward = cursor.wires_forward

-- The counts.

-- The visible nodes, ports and links that a kit counts are the blocks of the book, their ports, and its wires.
pub visible_nodes_of_history : (release : Release) (calls : List Call) → visible_nodes (run release calls).graph ≡ length (run release calls).book.blocks
visible_nodes_of_history = counts.visible_nodes_of_history

pub visible_ports_of_history : (release : Release) (calls : List Call) → visible_ports (run release calls).graph ≡ length (ports_in_book (run release calls).book)
visible_ports_of_history = counts.visible_ports_of_history

pub visible_links_of_history : (release : Release) (calls : List Call) → visible_links (run release calls).graph ≡ length (run release calls).book.wires
visible_links_of_history = counts.visible_links_of_history

-- Every call, on every graph that a history leaves (the model is what its tables stand for, `run_kept`).

-- Each refusal is given under its condition,
pub refused_under_condition : (release : Release) (calls : List Call) (c : Call) → (M : Model) → Fine (run release calls).graph M → (r : Refusal) →
    Condition (run release calls).graph M c r → RefusedBy c (step (run release calls).graph c).answer r
refused_under_condition release calls c M f = every.refused_under_condition f c

-- and under no other;
pub refused_under_no_other : (release : Release) (calls : List Call) (c : Call) → (M : Model) → Fine (run release calls).graph M → (r : Refusal) →
    RefusedBy c (step (run release calls).graph c).answer r → Condition (run release calls).graph M c r
refused_under_no_other release calls c M f = every.refused_under_no_other f c

-- where no condition holds the call is done.
pub accepted_otherwise : (release : Release) (calls : List Call) (c : Call) → (M : Model) → Fine (run release calls).graph M →
    ((r : Refusal) → Condition (run release calls).graph M c r → ⊥) → Accepted c (step (run release calls).graph c).answer
accepted_otherwise release calls c M f = every.accepted_otherwise f c

-- A refused call leaves the graph as it was, save what a link of ports refused with 11 or 12 made ready.
pub refused_changes_nothing : (release : Release) (calls : List Call) (c : Call) (r : Refusal) → RefusedBy c (step (run release calls).graph c).answer r →
    leaves_prepared c r ≡ false → (step (run release calls).graph c).graph ≡ (run release calls).graph
refused_changes_nothing release calls c = every.refused_changes_nothing (every.run_kept release calls).fine c

-- 10 is given exactly if the works of the call, one after the other, would lengthen a table past its limit; else they leave their room.
pub call_space : (release : Release) (calls : List Call) (c : Call) → (M : Model) → Fine (run release calls).graph M →
    Spaced (run release calls).graph M (works_of (run release calls).graph c) (RefusedBy c (step (run release calls).graph c).answer NoRoom) (step (run release calls).graph c).graph
call_space release calls c M f = every.call_space f c

-- What every contract presumes of its graph holds of the graph of every history.
pub run_kept : (release : Release) (calls : List Call) → MultiWf (run release calls).graph
run_kept = every.run_kept

-- Histories.

-- A list of calls that follows another runs on from where that one stopped, from any state;
pub run_from_append : (s : State) (first second : List Call) → run_from s (first ++ second) ≡ run_from (run_from s first) second
run_from_append = runs.run_from_append

-- one call more is the next state.
pub run_next : (release : Release) (calls : List Call) (c : Call) → run release (calls ++ (c ∷ [])) ≡ next (run release calls) c
run_next = runs.run_next

-- 01's bench wiring, cases A to K: every number of every line.
pub bench_table : asked_all bench_lines ≡ expected_all bench_lines
bench_table = bench.bench_table

-- Resizes by smallest inputs: every number told, and the node slots taken next.
pub resize_table : asked_all resize_lines ≡ expected_all resize_lines
resize_table = bench.resize_table

-- Fan-out by smallest inputs: three wires, one cut, 2.
pub fan_out_table : asked_all fan_out_lines ≡ expected_all fan_out_lines
fan_out_table = bench.fan_out_table

-- A second wire into an input by smallest inputs: every number under release 1 and under release 2.
pub input_table : (release : Release) → asked_under release (input_lines release) ≡ expected_all (input_lines release)
input_table = bench.input_table

-- Tidies by smallest inputs: what stays, what goes, and the numbers that later answers carry.
pub tidy_table : asked_all tidy_lines ≡ expected_all tidy_lines
tidy_table = bench.tidy_table

-- 01's numbers of every refusal, with what it carries, and of every kind of answer.
pub refusal_numbers_lem : (p q : ℕ) → map refusal_numbers (refusals p q) ≡ refusal_table p q
refusal_numbers_lem = numbers.refusal_numbers_lem

pub answer_numbers : (n p o q r k : ℕ) → answers n p o q r k ≡ answer_table n p o q r k
answer_numbers = numbers.answer_numbers

-- .. and of every item, end and start of a walk.
pub walk_numbers : (n p o : ℕ) (w : SubportLink) (c : Cursors) → walk_answers n p o w c ≡ walk_table n p o w
walk_numbers = numbers.walk_numbers
