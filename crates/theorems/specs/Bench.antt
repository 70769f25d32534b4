-- 01's bench wiring, cases A to K, as one table with one claim; and smallest inputs of resizes, of fan-out, of wires into an input and of tidies.
use Rattle.std.specs.Prelude.{◌≡◌, refl, ℕ, suc, length, replicate, cond, Option, Some, None}
use mathlib.Core.List.{List, [], ◌∷◌, ◌++◌, flat_map}
use Rattle.port_tables.specs.Limits.{no_port}
use Rattle.port_tables.specs.Entries.{node#}
use Rattle.port_tables.specs.declared.sides.Sides.TheVariants.{Both}
use Rattle.port_tables.specs.declared.direction.Direction.TheVariants.{Incoming, Outgoing}
use Rattle.multiportgraph.specs.Reading.{is_split}
use Rattle.multiportgraph.specs.Calls.{subport_link, visible_nodes, visible_ports, visible_links, moves_told}
use Rattle.multiportgraph.specs.Wires.{subports_of_side, step_wires, wires_walked}
use Rattle.multiportgraph.specs.Walks.{step_subports}
use Rattle.multiportgraph.specs.Lookups.{port_fan_out, node_fan_out, count_numbers}
use Rattle.theorems.specs.Book.{Call, add_call, remove_call, set_call, link_call, link_clean_call, link_sub_call, cut_call, cut_sub_call, tidy_call}
use Rattle.theorems.specs.History.{step, numbers_of}
use Rattle.multiportgraph.specs.declared.multiportgraph.MultiPortGraph.{MultiPortGraph}
use Rattle.port_tables.specs.declared.release.Release.{Release}
use Rattle.port_tables.specs.declared.release.Release.TheVariants.{One, Two}
use Rattle.multi_tables.specs.declared.answers.SubportIndex.{SubportIndex}
use Rattle.multiportgraph.specs.Graph.{empty_graph}
use Rattle.multiportgraph.specs.Answers.{cut_numbers}
use Rattle.multi_tables.specs.declared.answers.SubportLink.{SubportLink}
use Rattle.multiportgraph.specs.declared.iter.NodeSubports.{NodeSubports}
use Rattle.multiportgraph.specs.declared.iter.Wires.{Wires}

-- What a line asks: a call, or a look at the graph.
pub data Ask : Type 0 where
  call : Call → Ask
  -- visible nodes, ports and links
  counts : Ask
  -- the link of a subport
  link_of : ℕ → ℕ → Ask
  -- the subports of a node, both sides, incoming first
  listing : ℕ → Ask
  -- how many wires the walk gives
  wires : Ask
  -- 1 for a split port
  mark : ℕ → Ask
  -- fan-out of a port, and of a block
  fan_out : ℕ → Ask
  block_fan_out : ℕ → Ask
  -- the move list of a resize, from zeros of this length
  moves : ℕ → ℕ → ℕ → ℕ → Ask
  -- a step of a cursor that holds a port and an offset: over all wires, and over the subports of a node
  wire_beyond : ℕ → ℕ → Ask
  subport_beyond : ℕ → ℕ → ℕ → Ask

abbrev subport_numbers : SubportIndex → List ℕ
subport_numbers s = s.port.0 ∷ s.subport_offset ∷ []

-- an item that a step gives, or nothing at the end
abbrev wire_numbers : Option (SubportLink × Wires) → List ℕ
wire_numbers (Some (w, c)) = subport_numbers w.from ++ subport_numbers w.to
wire_numbers None = []

abbrev step_numbers : Option (SubportIndex × NodeSubports) → List ℕ
step_numbers (Some (s, c)) = subport_numbers s
step_numbers None = []

abbrev looked : MultiPortGraph → Ask → List ℕ
looked m (call c) = numbers_of c (step m c).answer
looked m counts = visible_nodes m ∷ visible_ports m ∷ visible_links m ∷ []
looked m (link_of p o) = cut_numbers (subport_link m p o)
looked m (listing n) = flat_map subport_numbers (subports_of_side m n Incoming ++ subports_of_side m n Outgoing)
looked m wires = length (wires_walked m) ∷ []
looked m (mark p) = cond (is_split m p) 1 0 ∷ []
looked m (fan_out p) = count_numbers (port_fan_out m p)
looked m (block_fan_out n) = count_numbers (node_fan_out m n)
looked m (moves n i o k) = moves_told m n i o (replicate k 0)
looked m (wire_beyond p o) = wire_numbers (step_wires m (record { held = record { port = suc p; offset = o } }))
looked m (subport_beyond n p o) = step_numbers (step_subports m (record { node = node# n; sides = Both; held = record { port = suc p; offset = o } }))

abbrev after : MultiPortGraph → Ask → MultiPortGraph
after m (call c) = (step m c).graph
after m counts = m
after m (link_of p o) = m
after m (listing n) = m
after m wires = m
after m (mark p) = m
after m (fan_out p) = m
after m (block_fan_out n) = m
after m (moves n i o k) = m
after m (wire_beyond p o) = m
after m (subport_beyond n p o) = m

unfoldable pub asked : MultiPortGraph → List Ask → List (List ℕ)
asked m [] = []
asked m (a ∷ l) = looked m a ∷ asked (after m a) l

-- the numbers of a release
abbrev pub by : Release → List ℕ → List ℕ → List ℕ
by One first second = first
by Two first second = second

-- what is asked, and 01's numbers for it
pub record Line : Type 0 where
  pub asks : List Ask
  pub numbers : List (List ℕ)

abbrev ask : List Ask → List (List ℕ) → Line
ask a n = record { asks = a; numbers = n }

abbrev start : List Ask
start = call (add_call 0 1) ∷ call (add_call 2 0) ∷ []

abbrev start_numbers : List (List ℕ)
start_numbers = (0 ∷ 0 ∷ 0 ∷ []) ∷ (0 ∷ 1 ∷ 1 ∷ []) ∷ []

abbrev state_a : List Ask
state_a = start ++ (call (link_call 0 1) ∷ [])

abbrev numbers_a : List (List ℕ)
numbers_a = start_numbers ++ ((0 ∷ 0 ∷ 0 ∷ 1 ∷ 0 ∷ []) ∷ [])

abbrev state_b : List Ask
state_b = state_a ++ (call (link_call 0 2) ∷ [])

abbrev numbers_b : List (List ℕ)
numbers_b = numbers_a ++ ((0 ∷ 0 ∷ 1 ∷ 2 ∷ 0 ∷ []) ∷ [])

abbrev pub bench_lines : List Line
bench_lines =
    -- A
    ask (state_a ++ (counts ∷ [])) (numbers_a ++ ((2 ∷ 3 ∷ 1 ∷ []) ∷ []))
    -- B
    ∷ ask (state_b ++ (counts ∷ [])) (numbers_b ++ ((2 ∷ 3 ∷ 2 ∷ []) ∷ []))
    -- C
    ∷ ask (state_b ++ (call (link_call 0 2) ∷ counts ∷ link_of 0 1 ∷ []))
    (numbers_b ++ ((0 ∷ 0 ∷ 2 ∷ 2 ∷ 1 ∷ []) ∷ (2 ∷ 3 ∷ 3 ∷ []) ∷ (0 ∷ 1 ∷ 2 ∷ 0 ∷ 1 ∷ 0 ∷ 1 ∷ []) ∷ []))
    -- D
    ∷ ask (state_a ++ (call (link_call 1 2) ∷ listing 1 ∷ wires ∷ []))
    (numbers_a ++ ((12 ∷ 4 ∷ 2 ∷ 0 ∷ []) ∷ (1 ∷ 0 ∷ 1 ∷ 1 ∷ 2 ∷ 0 ∷ []) ∷ (1 ∷ []) ∷ []))
    -- E
    ∷ ask (state_b ++ (call (cut_call 0) ∷ wires ∷ [])) (numbers_b ++ ((0 ∷ 1 ∷ 0 ∷ 0 ∷ 0 ∷ 1 ∷ 0 ∷ []) ∷ (0 ∷ []) ∷ []))
    ∷ ask (state_b ++ (call (cut_call 2) ∷ [])) (numbers_b ++ ((0 ∷ 1 ∷ 5 ∷ 0 ∷ 0 ∷ 1 ∷ 0 ∷ []) ∷ []))
    -- F
    ∷ ask (state_a ++ (link_of 1 5 ∷ [])) (numbers_a ++ ((0 ∷ 1 ∷ 0 ∷ 0 ∷ 0 ∷ 1 ∷ 0 ∷ []) ∷ []))
    ∷ ask (state_b ++ (link_of 0 2 ∷ [])) (numbers_b ++ ((9 ∷ 0 ∷ []) ∷ []))
    -- G
    ∷ ask (start ++ (call (link_call 0 0) ∷ [])) (start_numbers ++ ((12 ∷ 0 ∷ 0 ∷ 1 ∷ []) ∷ []))
    ∷ ask (start ++ (call (link_call 0 9) ∷ [])) (start_numbers ++ ((11 ∷ 9 ∷ []) ∷ []))
    ∷ ask (start ++ (call (link_call 9 0) ∷ [])) (start_numbers ++ ((7 ∷ 9 ∷ []) ∷ []))
    -- H
    ∷ ask (state_b ++ (call (remove_call 2) ∷ [])) (numbers_b ++ ((5 ∷ []) ∷ []))
    ∷ ask (state_b ++ (call (remove_call 7) ∷ [])) (numbers_b ++ ((4 ∷ []) ∷ []))
    -- I
    ∷ ask (start ++ (call (set_call 0 0 0 3) ∷ call (add_call 0 1) ∷ [])) (start_numbers ++ ((0 ∷ 1 ∷ []) ∷ (0 ∷ 2 ∷ 0 ∷ []) ∷ []))
    -- J, as Req 08 has it: the third add has room, and 10 is given after it
    ∷ ask (call (add_call 512 512) ∷ call (add_call 512 512) ∷ call (add_call 0 1) ∷ call (add_call 512 512) ∷ call (add_call 0 0) ∷ call (add_call 512 513) ∷ [])
    ((0 ∷ 0 ∷ 0 ∷ []) ∷ (0 ∷ 1 ∷ 1024 ∷ []) ∷ (0 ∷ 2 ∷ 2048 ∷ []) ∷ (10 ∷ []) ∷ (0 ∷ 3 ∷ 0 ∷ []) ∷ (3 ∷ []) ∷ [])
    -- K
    ∷ ask (call (add_call 1 1) ∷ call (add_call 0 2) ∷ call (link_call 2 0) ∷ call (link_call 3 0) ∷ moves 0 0 1 6 ∷ call (set_call 0 0 1 6) ∷ wires ∷ mark 0 ∷ [])
    ((0 ∷ 0 ∷ 0 ∷ []) ∷ (0 ∷ 1 ∷ 2 ∷ []) ∷ (0 ∷ 2 ∷ 0 ∷ 0 ∷ 0 ∷ []) ∷ (0 ∷ 3 ∷ 0 ∷ 0 ∷ 1 ∷ [])
    ∷ (0 ∷ 1 ∷ 6 ∷ 1 ∷ 0 ∷ 0 ∷ []) ∷ (0 ∷ 2 ∷ []) ∷ (0 ∷ []) ∷ (0 ∷ []) ∷ [])
    ∷ []

-- the answers, each line from the empty graph of a release
abbrev pub asked_under : Release → List Line → List (List (List ℕ))
asked_under release [] = []
asked_under release (l ∷ ls) = asked (empty_graph release) l.asks ∷ asked_under release ls

-- the bench is of release 1
abbrev pub asked_all : List Line → List (List (List ℕ))
asked_all = asked_under One

abbrev pub expected_all : List Line → List (List (List ℕ))
expected_all [] = []
expected_all (l ∷ ls) = l.numbers ∷ expected_all ls

-- Resizes, smallest inputs: what `moves_are_places` and `hidden_go_in_order` say of every history, on a few.
abbrev pub resize_lines : List Line
resize_lines =
    -- within the block: the dropped port, then the others from the last to the first
    ask (call (add_call 0 3) ∷ moves 0 0 2 10 ∷ [])
    ((0 ∷ 0 ∷ 0 ∷ []) ∷ (2 ∷ 1 ∷ no_port ∷ 1 ∷ 0 ∷ 1 ∷ 0 ∷ 0 ∷ 0 ∷ 0 ∷ []) ∷ [])
    -- the incoming count falls: ascending
    ∷ ask (call (add_call 1 3) ∷ moves 0 0 2 12 ∷ [])
    ((0 ∷ 0 ∷ 0 ∷ []) ∷ (0 ∷ 1 ∷ no_port ∷ 3 ∷ 1 ∷ no_port ∷ 1 ∷ 0 ∷ 0 ∷ 2 ∷ 0 ∷ 1 ∷ []) ∷ [])
    -- in a new block: incoming first
    ∷ ask (call (add_call 1 1) ∷ moves 0 2 1 6 ∷ [])
    ((0 ∷ 0 ∷ 0 ∷ []) ∷ (0 ∷ 0 ∷ 2 ∷ 1 ∷ 0 ∷ 4 ∷ []) ∷ [])
    -- both ends of one wire are dropped
    ∷ ask (call (add_call 1 1) ∷ call (link_call 1 0) ∷ moves 0 0 0 6 ∷ [])
    ((0 ∷ 0 ∷ 0 ∷ []) ∷ (0 ∷ 1 ∷ 0 ∷ 0 ∷ 0 ∷ []) ∷ (0 ∷ 1 ∷ 1 ∷ 1 ∷ 1 ∷ no_port ∷ []) ∷ [])
    -- two split ports are dropped: the node slot of the last one told is taken next
    ∷ ask
    (call (add_call 1 1) ∷ call (add_call 2 2) ∷ call (link_call 4 0) ∷ call (link_call 5 0) ∷ call (link_call 1 2) ∷ call (link_call 1 3)
    ∷ moves 0 0 0 6 ∷ call (set_call 0 0 0 6) ∷ call (add_call 0 0) ∷ call (add_call 0 0) ∷ [])
    ((0 ∷ 0 ∷ 0 ∷ []) ∷ (0 ∷ 1 ∷ 2 ∷ []) ∷ (0 ∷ 4 ∷ 0 ∷ 0 ∷ 0 ∷ []) ∷ (0 ∷ 5 ∷ 0 ∷ 0 ∷ 1 ∷ []) ∷ (0 ∷ 1 ∷ 0 ∷ 2 ∷ 0 ∷ []) ∷ (0 ∷ 1 ∷ 1 ∷ 3 ∷ 0 ∷ [])
    ∷ (0 ∷ 1 ∷ 8 ∷ 1 ∷ 1 ∷ 9 ∷ []) ∷ (0 ∷ 2 ∷ []) ∷ (0 ∷ 3 ∷ 0 ∷ []) ∷ (0 ∷ 2 ∷ 0 ∷ []) ∷ [])
    ∷ []

-- Fan-out, smallest inputs: what `fan_out_is_wires` says of every history, on the customer's page. Three wires, one cut, 2; an output
-- without a wire has none, whether or not it was split; a cut of the lowest subport counts too.
abbrev pub fan_out_lines : List Line
fan_out_lines =
    ask (start ++ (fan_out 0 ∷ block_fan_out 0 ∷ [])) (start_numbers ++ ((0 ∷ 0 ∷ []) ∷ (0 ∷ 0 ∷ []) ∷ []))
    ∷ ask
    (state_b ++ (call (link_call 0 2) ∷ fan_out 0 ∷ call (cut_sub_call 0 1) ∷ fan_out 0 ∷ fan_out 1 ∷ fan_out 2 ∷ block_fan_out 0 ∷ block_fan_out 1
    ∷ call (cut_sub_call 0 0) ∷ fan_out 0 ∷ call (cut_sub_call 0 2) ∷ fan_out 0 ∷ mark 0 ∷ fan_out 3 ∷ block_fan_out 2 ∷ []))
    (numbers_b ++ ((0 ∷ 0 ∷ 2 ∷ 2 ∷ 1 ∷ []) ∷ (0 ∷ 3 ∷ []) ∷ (0 ∷ 1 ∷ 2 ∷ 0 ∷ 1 ∷ 0 ∷ 1 ∷ []) ∷ (0 ∷ 2 ∷ []) ∷ (0 ∷ 1 ∷ []) ∷ (0 ∷ 1 ∷ []) ∷ (0 ∷ 2 ∷ []) ∷ (0 ∷ 0 ∷ [])
    ∷ (0 ∷ 1 ∷ 1 ∷ 0 ∷ 1 ∷ 0 ∷ 0 ∷ []) ∷ (0 ∷ 1 ∷ []) ∷ (0 ∷ 1 ∷ 2 ∷ 1 ∷ 1 ∷ 0 ∷ 1 ∷ []) ∷ (0 ∷ 0 ∷ []) ∷ (1 ∷ []) ∷ (8 ∷ 3 ∷ []) ∷ (5 ∷ []) ∷ []))
    ∷ []

-- One wire into an input, smallest inputs: numbers under release 1 and under release 2.
abbrev pub input_lines : Release → List Line
input_lines release =
    -- A again: either end, or both, or a second port that is not live; 7 before it, and 12 where no input has a wire
    ask (state_a ++ (call (link_call 0 1) ∷ [])) (numbers_a ++ (by release (0 ∷ 0 ∷ 1 ∷ 1 ∷ 1 ∷ []) (18 ∷ []) ∷ []))
    ∷ ask (state_a ++ (call (link_call 1 2) ∷ mark 1 ∷ [])) (numbers_a ++ (by release (12 ∷ 4 ∷ 2 ∷ 0 ∷ []) (18 ∷ []) ∷ by release (1 ∷ []) (0 ∷ []) ∷ []))
    ∷ ask (state_a ++ (call (link_call 2 1) ∷ [])) (numbers_a ++ (by release (12 ∷ 2 ∷ 4 ∷ 0 ∷ []) (18 ∷ []) ∷ []))
    ∷ ask (state_a ++ (call (link_call 1 1) ∷ [])) (numbers_a ++ (by release (12 ∷ 4 ∷ 4 ∷ 0 ∷ []) (18 ∷ []) ∷ []))
    ∷ ask (state_a ++ (call (link_call 1 9) ∷ [])) (numbers_a ++ (by release (11 ∷ 9 ∷ []) (18 ∷ []) ∷ []))
    ∷ ask (state_a ++ (call (link_clean_call 1 9) ∷ call (link_clean_call 1 2) ∷ []))
    (numbers_a ++ (by release (11 ∷ 9 ∷ []) (18 ∷ []) ∷ by release (12 ∷ 1 ∷ 2 ∷ 0 ∷ []) (18 ∷ []) ∷ []))
    ∷ ask (state_a ++ (call (link_sub_call 1 7 9 0) ∷ [])) (numbers_a ++ (by release (11 ∷ 9 ∷ []) (18 ∷ []) ∷ []))
    ∷ ask (state_a ++ (call (link_call 9 1) ∷ call (link_call 2 2) ∷ [])) (numbers_a ++ ((7 ∷ 9 ∷ []) ∷ (12 ∷ 2 ∷ 2 ∷ 0 ∷ []) ∷ []))
    -- B: 8 and 9 before it, 13 after
    ∷ ask (state_b ++ (call (link_call 1 3) ∷ call (link_sub_call 1 0 0 2) ∷ call (link_sub_call 0 0 1 0) ∷ []))
    (numbers_b ++ ((8 ∷ 3 ∷ []) ∷ (9 ∷ 0 ∷ []) ∷ by release (13 ∷ 4 ∷ []) (18 ∷ []) ∷ []))
    -- 10 after it: A, and then no port slot is left
    ∷ ask (state_a ++ (call (add_call 1024 0) ∷ call (add_call 1024 0) ∷ call (add_call 1021 0) ∷ call (link_call 0 1) ∷ []))
    (numbers_a ++ ((0 ∷ 2 ∷ 3 ∷ []) ∷ (0 ∷ 3 ∷ 1027 ∷ []) ∷ (0 ∷ 4 ∷ 2051 ∷ []) ∷ by release (10 ∷ []) (18 ∷ []) ∷ []))
    -- a cut makes room for another wire
    ∷ ask (state_a ++ (call (cut_call 1) ∷ call (link_call 0 1) ∷ fan_out 1 ∷ [])) (numbers_a ++ ((0 ∷ 1 ∷ 0 ∷ 0 ∷ 0 ∷ 1 ∷ 0 ∷ []) ∷ (0 ∷ 0 ∷ 0 ∷ 1 ∷ 0 ∷ []) ∷ (0 ∷ 1 ∷ []) ∷ []))
    ∷ []

-- Tidies, smallest inputs: what the theorems on tidies say of every history, on a few.
abbrev pub tidy_lines : List Line
tidy_lines =
    -- an unsplit port; no live port; a hidden node's
    ask (state_a ++ (call (tidy_call 0) ∷ counts ∷ call (tidy_call 9) ∷ [])) (numbers_a ++ ((0 ∷ []) ∷ (2 ∷ 3 ∷ 1 ∷ []) ∷ (7 ∷ 9 ∷ []) ∷ []))
    ∷ ask (state_b ++ (call (tidy_call 4) ∷ [])) (numbers_b ++ ((8 ∷ 4 ∷ []) ∷ []))
    -- offset 1 is wired: the hidden node stays, with offset 0 empty
    ∷ ask (state_b ++ (call (cut_sub_call 0 0) ∷ call (tidy_call 0) ∷ mark 0 ∷ listing 0 ∷ link_of 0 1 ∷ []))
    (numbers_b ++ ((0 ∷ 1 ∷ 1 ∷ 0 ∷ 1 ∷ 0 ∷ 0 ∷ []) ∷ (0 ∷ []) ∷ (1 ∷ []) ∷ (0 ∷ 0 ∷ 0 ∷ 1 ∷ []) ∷ (0 ∷ 1 ∷ 2 ∷ 0 ∷ 1 ∷ 0 ∷ 1 ∷ []) ∷ []))
    -- offset 0 alone: the wire is linked to the port, and every offset of the port is that wire's end
    ∷ ask (state_b ++ (call (cut_sub_call 0 1) ∷ call (tidy_call 0) ∷ mark 0 ∷ listing 0 ∷ link_of 0 0 ∷ wires ∷ call (cut_sub_call 0 1) ∷ wires ∷ []))
    (numbers_b ++ ((0 ∷ 1 ∷ 2 ∷ 0 ∷ 1 ∷ 0 ∷ 1 ∷ []) ∷ (0 ∷ []) ∷ (0 ∷ []) ∷ (0 ∷ 0 ∷ []) ∷ (0 ∷ 1 ∷ 1 ∷ 0 ∷ 1 ∷ 0 ∷ 0 ∷ []) ∷ (1 ∷ []) ∷ (0 ∷ 1 ∷ 1 ∷ 0 ∷ 1 ∷ 0 ∷ 0 ∷ []) ∷ (0 ∷ []) ∷ []))
    -- cuts of a whole port answer otherwise than they would have
    ∷ ask (state_b ++ (call (cut_sub_call 0 1) ∷ call (tidy_call 0) ∷ call (cut_call 1) ∷ []))
    (numbers_b ++ ((0 ∷ 1 ∷ 2 ∷ 0 ∷ 1 ∷ 0 ∷ 1 ∷ []) ∷ (0 ∷ []) ∷ (0 ∷ 1 ∷ 0 ∷ 0 ∷ 0 ∷ 1 ∷ 0 ∷ []) ∷ []))
    -- no wire: the hidden node goes, and an add of three ports takes its slots
    ∷ ask (state_b ++ (call (cut_sub_call 0 0) ∷ call (cut_sub_call 0 1) ∷ call (tidy_call 0) ∷ mark 0 ∷ counts ∷ call (add_call 1 2) ∷ []))
    (numbers_b ++ ((0 ∷ 1 ∷ 1 ∷ 0 ∷ 1 ∷ 0 ∷ 0 ∷ []) ∷ (0 ∷ 1 ∷ 2 ∷ 0 ∷ 1 ∷ 0 ∷ 1 ∷ []) ∷ (0 ∷ []) ∷ (0 ∷ []) ∷ (2 ∷ 3 ∷ 0 ∷ []) ∷ (0 ∷ 2 ∷ 3 ∷ []) ∷ []))
    -- a split input with three subports, of which the last is cut: its copy port moves from slot 10 to slot 9
    ∷ ask
    (call (add_call 1 0) ∷ call (add_call 0 3) ∷ call (link_call 1 0) ∷ call (link_call 2 0) ∷ call (link_call 3 0) ∷ call (cut_sub_call 0 2) ∷ moves 0 0 0 3
    ∷ call (tidy_call 0) ∷ moves 0 0 0 3 ∷ counts ∷ listing 0 ∷ wires ∷ [])
    ((0 ∷ 0 ∷ 0 ∷ []) ∷ (0 ∷ 1 ∷ 1 ∷ []) ∷ (0 ∷ 1 ∷ 0 ∷ 0 ∷ 0 ∷ []) ∷ (0 ∷ 2 ∷ 0 ∷ 0 ∷ 1 ∷ []) ∷ (0 ∷ 3 ∷ 0 ∷ 0 ∷ 2 ∷ []) ∷ (0 ∷ 1 ∷ 3 ∷ 0 ∷ 1 ∷ 1 ∷ 2 ∷ []) ∷ (0 ∷ 1 ∷ 10 ∷ [])
    ∷ (0 ∷ []) ∷ (0 ∷ 1 ∷ 9 ∷ []) ∷ (2 ∷ 4 ∷ 2 ∷ []) ∷ (0 ∷ 0 ∷ 0 ∷ 1 ∷ []) ∷ (2 ∷ []) ∷ [])
    -- cursors from before a tidy: over wires they go on as if nothing had happened, over subports beyond the offset that they hold
    ∷ ask
    (call (add_call 0 2) ∷ call (add_call 4 0) ∷ call (link_call 0 2) ∷ call (link_call 0 3) ∷ call (link_call 0 4) ∷ call (link_call 1 5) ∷ call (cut_sub_call 0 2)
    ∷ wire_beyond 0 0 ∷ wire_beyond 0 1 ∷ wire_beyond 0 2 ∷ subport_beyond 0 0 1
    ∷ call (tidy_call 0) ∷ wire_beyond 0 0 ∷ wire_beyond 0 1 ∷ wire_beyond 0 2 ∷ subport_beyond 0 0 1 ∷ subport_beyond 0 0 2
    ∷ call (cut_sub_call 0 1) ∷ call (tidy_call 0) ∷ wire_beyond 0 0 ∷ wire_beyond 0 1 ∷ wire_beyond 1 0 ∷ subport_beyond 0 0 0 ∷ subport_beyond 0 0 1 ∷ [])
    ((0 ∷ 0 ∷ 0 ∷ []) ∷ (0 ∷ 1 ∷ 2 ∷ []) ∷ (0 ∷ 0 ∷ 0 ∷ 2 ∷ 0 ∷ []) ∷ (0 ∷ 0 ∷ 1 ∷ 3 ∷ 0 ∷ []) ∷ (0 ∷ 0 ∷ 2 ∷ 4 ∷ 0 ∷ []) ∷ (0 ∷ 1 ∷ 0 ∷ 5 ∷ 0 ∷ [])
    ∷ (0 ∷ 1 ∷ 4 ∷ 0 ∷ 1 ∷ 0 ∷ 2 ∷ [])
    ∷ (0 ∷ 1 ∷ 3 ∷ 0 ∷ []) ∷ (1 ∷ 0 ∷ 5 ∷ 0 ∷ []) ∷ (1 ∷ 0 ∷ 5 ∷ 0 ∷ []) ∷ (0 ∷ 2 ∷ [])
    ∷ (0 ∷ []) ∷ (0 ∷ 1 ∷ 3 ∷ 0 ∷ []) ∷ (1 ∷ 0 ∷ 5 ∷ 0 ∷ []) ∷ (1 ∷ 0 ∷ 5 ∷ 0 ∷ []) ∷ (1 ∷ 0 ∷ []) ∷ (1 ∷ 0 ∷ [])
    ∷ (0 ∷ 1 ∷ 3 ∷ 0 ∷ 1 ∷ 0 ∷ 1 ∷ []) ∷ (0 ∷ []) ∷ (1 ∷ 0 ∷ 5 ∷ 0 ∷ []) ∷ (1 ∷ 0 ∷ 5 ∷ 0 ∷ []) ∷ [] ∷ (1 ∷ 0 ∷ []) ∷ (1 ∷ 0 ∷ []) ∷ [])
    ∷ []

-- every number of every line
all_tables : (asked_all bench_lines ≡ expected_all bench_lines) × (asked_all resize_lines ≡ expected_all resize_lines) × (asked_all fan_out_lines ≡ expected_all fan_out_lines)
    × ((release : Release) → asked_under release (input_lines release) ≡ expected_all (input_lines release))
    × (asked_all tidy_lines ≡ expected_all tidy_lines)
unfolding asked Rattle.port_tables.specs.Tables.at Rattle.port_tables.specs.Tables.put Rattle.port_tables.specs.Tables.fill Rattle.port_tables.specs.Tables.fill_range Rattle.port_tables.specs.Tables.head_at Rattle.port_tables.specs.Tables.put_head Rattle.port_tables.specs.Tables.own_block Rattle.port_tables.specs.Tables.link_both Rattle.port_tables.specs.Tables.cut_far Rattle.port_tables.specs.Tables.cut Rattle.port_tables.specs.Tables.cut_range Rattle.port_tables.specs.Tables.link_count Rattle.port_tables.specs.Tables.cut_count Rattle.port_tables.specs.Tables.relink Rattle.port_tables.specs.Tables.move_port Rattle.port_tables.specs.Tables.move_up Rattle.port_tables.specs.Tables.move_down Rattle.port_tables.specs.Tables.shift Rattle.port_tables.specs.Tables.transfer Rattle.port_tables.specs.Tables.chain_block Rattle.port_tables.specs.Tables.told_link Rattle.port_tables.specs.Tables.drop_events Rattle.port_tables.specs.Tables.move_up_events Rattle.port_tables.specs.Tables.move_down_events Rattle.port_tables.specs.Tables.shift_events Rattle.port_tables.specs.Entries.port_entry Rattle.port_tables.specs.Entries.set_prev Rattle.portgraph.specs.Calls.new_graph Rattle.portgraph.specs.Calls.find_slot_under Rattle.portgraph.specs.Calls.find_block_under Rattle.portgraph.specs.Calls.rest_of Rattle.portgraph.specs.Calls.grown Rattle.portgraph.specs.Calls.slot_after Rattle.portgraph.specs.Calls.place_node Rattle.portgraph.specs.Calls.add_node_under Rattle.portgraph.specs.Calls.free_node Rattle.portgraph.specs.Calls.remove_node Rattle.portgraph.specs.Calls.link_ports Rattle.portgraph.specs.Calls.unlink_port Rattle.port_tables.specs.ResizeLinks.doubled Rattle.port_tables.specs.ResizeLinks.round_up Rattle.port_tables.specs.ResizeLinks.same_counts Rattle.port_tables.specs.ResizeLinks.fits_inside Rattle.portgraph.specs.Resize.plan_of_under Rattle.port_tables.specs.ResizeLinks.drop_incoming Rattle.port_tables.specs.ResizeLinks.drop_links Rattle.port_tables.specs.ResizeLinks.drop_count Rattle.port_tables.specs.ResizeLinks.drop_told Rattle.port_tables.specs.ResizeLinks.inside_links Rattle.portgraph.specs.Resize.resize_inside Rattle.portgraph.specs.Resize.inside_told Rattle.port_tables.specs.ResizeLinks.anew_links Rattle.portgraph.specs.Resize.resize_anew Rattle.portgraph.specs.Resize.anew_told Rattle.portgraph.specs.Resize.set_num_ports_under Rattle.portgraph.specs.Resize.moves_after_under Rattle.portgraph.specs.Meaning.upd Rattle.portgraph.specs.Meaning.same_place Rattle.portgraph.specs.Meaning.drop_join Rattle.portgraph.specs.Meaning.link_join Rattle.portgraph.specs.Meaning.hand_over Rattle.multiportgraph.specs.Reading.far_port Rattle.multiportgraph.specs.Reading.has_link Rattle.multiportgraph.specs.Reading.owner_of Rattle.multiportgraph.specs.Reading.port_of Rattle.multiportgraph.specs.Reading.position_of Rattle.multiportgraph.specs.Reading.is_hidden Rattle.multiportgraph.specs.Reading.is_split Rattle.multiportgraph.specs.Reading.seen Rattle.multiportgraph.specs.Reading.copy_node Rattle.multiportgraph.specs.Reading.subports Rattle.multiportgraph.specs.Reading.subport_at Rattle.multiportgraph.specs.Reading.end_at Rattle.multiportgraph.specs.Reading.as_read Rattle.multiportgraph.specs.Reading.copy_side Rattle.multiportgraph.specs.Reading.main_port Rattle.multiportgraph.specs.Reading.subport_of Rattle.multiportgraph.specs.Graph.empty_graph Rattle.multiportgraph.specs.Calls.add_block_under Rattle.multiportgraph.specs.HiddenNodes.remove_copy Rattle.multiportgraph.specs.HiddenNodes.unsplit Rattle.multiportgraph.specs.HiddenNodes.unsplit_range Rattle.multiportgraph.specs.Calls.drop_block Rattle.multiportgraph.specs.Calls.remove_block Rattle.multi_tables.specs.Forms.lay_range Rattle.multi_tables.specs.Forms.lay_marks Rattle.multiportgraph.specs.HiddenNodes.recounted Rattle.multiportgraph.specs.HiddenNodes.copies_in Rattle.multiportgraph.specs.HiddenNodes.copies_dropped Rattle.multiportgraph.specs.HiddenNodes.remove_lone Rattle.multiportgraph.specs.HiddenNodes.remove_all Rattle.multiportgraph.specs.Calls.set_counts_under Rattle.multiportgraph.specs.Calls.moves_told_under Rattle.multiportgraph.specs.HiddenNodes.split_graph Rattle.multiportgraph.specs.HiddenNodes.split_port Rattle.multiportgraph.specs.HiddenNodes.split_under Rattle.multiportgraph.specs.HiddenNodes.lowest_free Rattle.multiportgraph.specs.HiddenNodes.grow_under Rattle.multiportgraph.specs.HiddenNodes.reuse_under Rattle.multiportgraph.specs.HiddenNodes.prepare_under Rattle.multiportgraph.specs.Calls.link_pair_if Rattle.multiportgraph.specs.Calls.link_clean_if Rattle.multiportgraph.specs.Calls.link_sub_if Rattle.multiportgraph.specs.Refusals.wired_input Rattle.multiportgraph.specs.Refusals.input_taken Rattle.multiportgraph.specs.Calls.cut_port Rattle.multiportgraph.specs.Calls.cut_sub Rattle.multiportgraph.specs.Tidy.linked_up_to Rattle.multiportgraph.specs.Tidy.subports_left Rattle.multiportgraph.specs.Tidy.resized_within Rattle.multiportgraph.specs.Tidy.drop_subports Rattle.multiportgraph.specs.Tidy.link_directly Rattle.multiportgraph.specs.Tidy.tidied Rattle.multiportgraph.specs.Calls.tidy_port Rattle.multiportgraph.specs.Calls.subport_link Rattle.multiportgraph.specs.Calls.visible_nodes Rattle.multiportgraph.specs.Calls.visible_ports Rattle.multiportgraph.specs.Calls.visible_links Rattle.port_tables.specs.Lists.range mathlib.Core.List.flat_map Rattle.multiportgraph.specs.Wires.is_block Rattle.multiportgraph.specs.Wires.blocks Rattle.multiportgraph.specs.Wires.ports_of_side Rattle.multiportgraph.specs.Wires.subports_of_port Rattle.multiportgraph.specs.Wires.subports_of_side Rattle.multiportgraph.specs.Wires.wire_of Rattle.multiportgraph.specs.Wires.side_links Rattle.multiportgraph.specs.Wires.all_wires Rattle.multiportgraph.specs.Wires.is_beyond Rattle.multiportgraph.specs.Wires.wires_beyond Rattle.multiportgraph.specs.Wires.step_wires Rattle.multiportgraph.specs.Wires.walk_wires Rattle.multiportgraph.specs.Reading.place_of Rattle.multiportgraph.specs.Wires.walked Rattle.multiportgraph.specs.Wires.wires_walked Rattle.multiportgraph.specs.Lookups.port_fan_out Rattle.multiportgraph.specs.Lookups.node_fan_out Rattle.multiportgraph.specs.Walks.port_links Rattle.multiportgraph.specs.Walks.fan_out Rattle.multi_tables.specs.Forms.sum_of Rattle.multiportgraph.specs.Walks.block_fan_out Rattle.multiportgraph.specs.Walks.start_at_node Rattle.multiportgraph.specs.Walks.step_subports Rattle.multiportgraph.specs.Walks.subports_of Rattle.multiportgraph.specs.Walks.subport_beyond Rattle.port_tables.specs.Lists.on_first
all_tables = (refl, refl, refl, inputs, refl)
  where
    inputs : (release : Release) → asked_under release (input_lines release) ≡ expected_all (input_lines release)
    inputs One = refl
    inputs Two = refl

pub bench_table : asked_all bench_lines ≡ expected_all bench_lines
bench_table = all_tables.0

pub resize_table : asked_all resize_lines ≡ expected_all resize_lines
resize_table = all_tables.1

pub fan_out_table : asked_all fan_out_lines ≡ expected_all fan_out_lines
fan_out_table = all_tables.2

pub input_table : (release : Release) → asked_under release (input_lines release) ≡ expected_all (input_lines release)
input_table = all_tables.3

pub tidy_table : asked_all tidy_lines ≡ expected_all tidy_lines
tidy_table = all_tables.4
