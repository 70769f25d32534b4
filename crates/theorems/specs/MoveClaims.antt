-- The words of `moves_are_places`, `hidden_go_in_order` and `kept_ports_stay_split`: which ports a resize tells, in which order, and what it
-- tells of each, by side and position; which hidden nodes go with them; a port that stays split.
use Rattle.std.specs.Prelude.{◌≡◌, Bool, true, false, cond, List, [], ◌∷◌, ◌++◌, map, ℕ, zero, suc, ◌+◌, ◌-◌, min, eqb, ltb}
use Rattle.port_tables.specs.Limits.{no_port}
use Rattle.port_tables.specs.Lists.{range}
use Rattle.std.specs.List.{filter}
use Rattle.portgraph.specs.Lookups.{num_ports, node_port_capacity}
use Rattle.port_tables.specs.declared.direction.Direction.{Direction}
use Rattle.port_tables.specs.declared.direction.Direction.TheVariants.{Incoming, Outgoing}
use Rattle.port_tables.specs.declared.index.PortOffset.{PortOffset}
use Rattle.portgraph.specs.declared.portgraph.PortGraph.{PortGraph}
use Rattle.multiportgraph.specs.Reading.{port_of, has_link, far_port, is_split, copy_node, subports}
use Rattle.multiportgraph.specs.declared.multiportgraph.MultiPortGraph.{MultiPortGraph}

-- Places of a block.

abbrev pub on_side : Direction → ℕ → PortOffset
on_side d j = record { direction = d; index = j }

-- the positions of a side from one on, and before another, ascending
unfoldable pub positions : Direction → ℕ → ℕ → List PortOffset
positions d from before = map (on_side d) (range from (before - from))

-- the positions of a side below a count, from the last to the first
unfoldable pub positions_down : Direction → ℕ → List PortOffset
positions_down d zero = []
positions_down d (suc j) = on_side d j ∷ positions_down d j

-- a block of ins incoming and outs outgoing ports in cap slots gets the counts i and o

-- the counts are equal
unfoldable pub equal_counts : (ins outs i o : ℕ) → Bool
equal_counts ins outs i o = cond (eqb i ins) (eqb o outs) false

-- a new total from 1 to capacity - 1 is done within the block
unfoldable pub within_block : (cap i o : ℕ) → Bool
within_block cap i o = cond (ltb 0 (i + o)) (ltb (i + o) cap) false

-- dropped ports are the highest positions of each side, incoming ones first
unfoldable pub dropped_places : (ins outs i o : ℕ) → List PortOffset
dropped_places ins outs i o = positions Incoming i ins ++ positions Outgoing o outs

-- the ports that stay, as far as they are told: none where the counts are equal; within the block the outgoing ones, from the last to
-- the first unless the incoming count falls; in a new block every one, incoming first, ascending
unfoldable pub kept_places : (ins outs cap i o : ℕ) → List PortOffset
kept_places ins outs cap i o =
    cond (equal_counts ins outs i o) []
    (cond (within_block cap i o)
    (cond (ltb i ins) (positions Outgoing 0 (min outs o)) (positions_down Outgoing (min outs o)))
    (positions Incoming 0 (min ins i) ++ positions Outgoing 0 (min outs o)))

-- Events.

-- the port of node n at a place
abbrev pub port_here : PortGraph → ℕ → PortOffset → ℕ
port_here g n x = port_of g n x.direction x.index

-- a number stands in a list
unfoldable pub is_one_of : ℕ → List ℕ → Bool
is_one_of q [] = false
is_one_of q (p ∷ l) = cond (eqb q p) true (is_one_of q l)

-- the inner port that a port is linked with; none where it has no link, or where that port was told as removed already
unfoldable pub far_told : PortGraph → List ℕ → ℕ → ℕ
far_told g earlier p = cond (has_link g p) (cond (is_one_of (far_port g p) earlier) no_port (far_port g p)) no_port

-- ports are removed one after the other: port, 1, and its link in the graph before the call; these were told earlier
unfoldable pub removed_events : PortGraph → List ℕ → List ℕ → List ℕ
removed_events g earlier [] = []
removed_events g earlier (p ∷ l) = p ∷ 1 ∷ far_told g earlier p ∷ removed_events g (p ∷ earlier) l

-- places stay: old number, 0, new number
unfoldable pub moved_events : PortGraph → PortGraph → ℕ → List PortOffset → List ℕ
moved_events g h n [] = []
moved_events g h n (x ∷ l) = port_here g n x ∷ 0 ∷ port_here h n x ∷ moved_events g h n l

-- of node n, with these counts and slots in the graph g before the call; h is the graph after it
unfoldable pub events_at : PortGraph → PortGraph → ℕ → (ins outs cap i o : ℕ) → List ℕ
events_at g h n ins outs cap i o =
    removed_events g [] (map (port_here g n) (dropped_places ins outs i o)) ++ moved_events g h n (kept_places ins outs cap i o)

unfoldable pub told_events : PortGraph → PortGraph → ℕ → ℕ → ℕ → List ℕ
told_events g h n i o = events_at g h n (num_ports g n Incoming) (num_ports g n Outgoing) (node_port_capacity g n) i o

-- the places told, dropped ones first
unfoldable pub told_places : PortGraph → ℕ → ℕ → ℕ → List PortOffset
told_places g n i o =
    dropped_places (num_ports g n Incoming) (num_ports g n Outgoing) i o ++ kept_places (num_ports g n Incoming) (num_ports g n Outgoing) (node_port_capacity g n) i o

-- Hidden nodes of dropped ports.

-- the hidden nodes of the split ports among those dropped, in the order in which these are told
unfoldable pub hidden_told : MultiPortGraph → ℕ → ℕ → ℕ → List ℕ
hidden_told m n i o =
    map (copy_node m) (filter (is_split m) (map (port_here m.graph n) (dropped_places (num_ports m.graph n Incoming) (num_ports m.graph n Outgoing) i o)))

-- node slots given back one after the other: the last of them is the next one taken
abbrev pub given_back : List ℕ → List ℕ → List ℕ
given_back [] free = free
given_back (c ∷ l) free = given_back l (c ∷ free)

-- What a resize keeps.

-- how many subports a port has: an unsplit one is its own
abbrev pub subports_had : MultiPortGraph → ℕ → Direction → ℕ
subports_had m p d = cond (is_split m p) (subports m p d) 1

-- a port of block k, by side and position, is split in a later graph exactly if it was, and has as many subports, an unsplit one
-- counting as 1
abbrev pub SplitAsBefore : MultiPortGraph → MultiPortGraph → ℕ → Direction → ℕ → Type 0
SplitAsBefore m m' k d j =
    (is_split m' (port_of m'.graph k d j) ≡ is_split m (port_of m.graph k d j))
    × (subports_had m' (port_of m'.graph k d j) d ≡ subports_had m (port_of m.graph k d j) d)
