-- Lookups on blocks and their ports, and fan-out as a call: 4 and 5 at a node, 7 and 8 at a port, else what the graph has.
use Rattle.std.specs.Prelude.{Bool, List, [], ◌∷◌, ℕ, Option, Some, None, Result, Ok, Err}
use Rattle.port_tables.specs.Entries.{side_number, node#, port#}
use Rattle.portgraph.specs.Lookups.{num_ports, node_port_capacity, port_index, is_empty}
use Rattle.port_tables.specs.declared.direction.Direction.{Direction}
use Rattle.port_tables.specs.declared.index.PortOffset.{PortOffset}
use Rattle.multiportgraph.specs.Reading.{position_of, seen}
use Rattle.multi_tables.specs.Forms.{Port, dead, hidden, visible}
use Rattle.multiportgraph.specs.Walks.{fan_out, block_fan_out, Start, started, refused, start_at_node, is_seen}
use Rattle.multiportgraph.specs.declared.multiportgraph.MultiPortGraph.{MultiPortGraph}
use Rattle.multi_tables.specs.declared.answers.Refusal.TheVariants.{UnknownPort, HiddenPort}
use Rattle.multi_tables.specs.EndAnswers.{refusal_numbers}
use Rattle.port_tables.specs.declared.index.NodeIndex.{NodeIndex}
use Rattle.port_tables.specs.declared.index.PortIndex.{PortIndex}
use Rattle.multi_tables.specs.declared.answers.Refusal.{Refusal}

-- At a port.

abbrev pub direction_seen : ℕ → Port → Result Direction Refusal
direction_seen p dead = Err (UnknownPort (port# p))
direction_seen p hidden = Err (HiddenPort (port# p))
direction_seen p (visible n d) = Ok d

unfoldable pub direction_of : MultiPortGraph → ℕ → Result Direction Refusal
direction_of m p = direction_seen p (seen m p)

abbrev pub node_seen : ℕ → Port → Result NodeIndex Refusal
node_seen p dead = Err (UnknownPort (port# p))
node_seen p hidden = Err (HiddenPort (port# p))
node_seen p (visible n d) = Ok (node# n)

unfoldable pub node_of : MultiPortGraph → ℕ → Result NodeIndex Refusal
node_of m p = node_seen p (seen m p)

abbrev pub offset_seen : MultiPortGraph → ℕ → Port → Result PortOffset Refusal
offset_seen m p dead = Err (UnknownPort (port# p))
offset_seen m p hidden = Err (HiddenPort (port# p))
offset_seen m p (visible n d) = Ok (record { direction = d; index = position_of m.graph p })

-- the side of a port and its position on it
unfoldable pub offset_of : MultiPortGraph → ℕ → Result PortOffset Refusal
offset_of m p = offset_seen m p (seen m p)

abbrev pub fan_out_seen : MultiPortGraph → ℕ → Port → Result ℕ Refusal
fan_out_seen m p dead = Err (UnknownPort (port# p))
fan_out_seen m p hidden = Err (HiddenPort (port# p))
fan_out_seen m p (visible n d) = Ok (fan_out m p)

unfoldable pub port_fan_out : MultiPortGraph → ℕ → Result ℕ Refusal
port_fan_out m p = fan_out_seen m p (seen m p)

unfoldable pub contains_port_of : MultiPortGraph → ℕ → Bool
contains_port_of m p = is_seen (seen m p)

-- At a node.

abbrev pub counted : Start → ℕ → Result ℕ Refusal
counted started k = Ok k
counted (refused r) k = Err r

unfoldable pub num_ports_of : MultiPortGraph → ℕ → Direction → Result ℕ Refusal
num_ports_of m n d = counted (start_at_node m n) (num_ports m.graph n d)

-- the slots of the block's ports
unfoldable pub capacity_of : MultiPortGraph → ℕ → Result ℕ Refusal
capacity_of m n = counted (start_at_node m n) (node_port_capacity m.graph n)

unfoldable pub node_fan_out : MultiPortGraph → ℕ → Result ℕ Refusal
node_fan_out m n = counted (start_at_node m n) (block_fan_out m n)

abbrev pub port_found : Start → Option PortIndex → Result (Option PortIndex) Refusal
port_found started p = Ok p
port_found (refused r) p = Err r

-- the port at a side and position
unfoldable pub port_index_of : MultiPortGraph → ℕ → PortOffset → Result (Option PortIndex) Refusal
port_index_of m n offset = port_found (start_at_node m n) (port_index m.graph n offset)

unfoldable pub empty_of : MultiPortGraph → Bool
empty_of m = is_empty m.graph

-- 01's numbers and values of each answer.

abbrev pub direction_numbers : Result Direction Refusal → List ℕ
direction_numbers (Ok d) = 0 ∷ side_number d ∷ []
direction_numbers (Err r) = refusal_numbers r

abbrev pub node_numbers : Result NodeIndex Refusal → List ℕ
node_numbers (Ok n) = 0 ∷ n.0 ∷ []
node_numbers (Err r) = refusal_numbers r

abbrev pub offset_numbers : Result PortOffset Refusal → List ℕ
offset_numbers (Ok o) = 0 ∷ side_number o.direction ∷ o.index ∷ []
offset_numbers (Err r) = refusal_numbers r

abbrev pub port_numbers : Result (Option PortIndex) Refusal → List ℕ
port_numbers (Ok (Some p)) = 0 ∷ 1 ∷ p.0 ∷ []
port_numbers (Ok None) = 0 ∷ 0 ∷ 0 ∷ []
port_numbers (Err r) = refusal_numbers r

abbrev pub count_numbers : Result ℕ Refusal → List ℕ
count_numbers (Ok k) = 0 ∷ k ∷ []
count_numbers (Err r) = refusal_numbers r
