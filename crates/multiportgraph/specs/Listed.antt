-- All wires, and all blocks, as numbers in a list that the caller lends: what the calls that list them write and answer.
use Rattle.multiportgraph.specs.declared.list_ends.TooShort.{TooShort}
use mathlib.Core.List.{List, [], ◌∷◌, ◌++◌, flat_map}
use Rattle.std.specs.Prelude.{ℕ, leb, length, drop, get_or, cond, Result, Ok, Err}
use Rattle.portgraph.specs.Lookups.{num_ports}
use Rattle.port_tables.specs.declared.direction.Direction.TheVariants.{Incoming, Outgoing}
use Rattle.multiportgraph.specs.Wires.{blocks, ports_of_side, all_wires, place_of}
use Rattle.multiportgraph.specs.declared.multiportgraph.MultiPortGraph.{MultiPortGraph}
use Rattle.multi_tables.specs.declared.answers.SubportIndex.{SubportIndex}
use Rattle.multi_tables.specs.declared.answers.SubportLink.{SubportLink}

-- an end of a wire: port, offset, node, position on its side
unfoldable pub end_numbers : MultiPortGraph → SubportIndex → List ℕ
end_numbers m s = s.port.0 ∷ s.subport_offset ∷ (place_of m s).node ∷ (place_of m s).pos ∷ []

-- a wire: its outgoing end, then its incoming end
unfoldable pub wire_numbers : MultiPortGraph → SubportLink → List ℕ
wire_numbers m w = end_numbers m w.from ++ end_numbers m w.to

-- all wires, in the order of the walk
unfoldable pub wires_listed : MultiPortGraph → List ℕ
wires_listed m = flat_map (wire_numbers m) (all_wires m)

-- the first port of a block, incoming ports first; 0 for a block without ports
unfoldable pub first_port : MultiPortGraph → ℕ → ℕ
first_port m n = get_or (ports_of_side m Incoming n ++ ports_of_side m Outgoing n) 0 0

-- a block: its number, incoming and outgoing ports, first port
unfoldable pub block_numbers : MultiPortGraph → ℕ → List ℕ
block_numbers m n = n ∷ num_ports m.graph n Incoming ∷ num_ports m.graph n Outgoing ∷ first_port m n ∷ []

-- all blocks, by ascending number
unfoldable pub blocks_listed : MultiPortGraph → List ℕ
blocks_listed m = flat_map (block_numbers m) (blocks m)

-- a list with numbers written from its start on, what lies past them as it was; one that is too short stays as it is
unfoldable pub list_after : List ℕ → List ℕ → List ℕ
list_after numbers list = cond (leb (length numbers) (length list)) (numbers ++ drop (length numbers) list) list

-- how many items were listed; or, of a list that is too short, how many numbers it must have
unfoldable pub list_answer : ℕ → List ℕ → List ℕ → Result ℕ TooShort
list_answer count numbers list = cond (leb (length numbers) (length list)) (Ok count) (Err (record { 0 = length numbers }))
