-- What is said of a tidy: what stays, and that what it gives back is found again.
use Rattle.std.specs.Prelude.{◌≡◌, true, false, [], ◌∷◌, ℕ, ◌+◌, ◌-◌, ◌≤◌, ◌<◌, Ok}
use Rattle.port_tables.specs.Lists.{Member}
use Rattle.portgraph.specs.Lookups.{num_ports}
use Rattle.port_tables.specs.Entries.{node#}
use Rattle.portgraph.specs.Model.{Model}
use Rattle.port_tables.specs.declared.direction.Direction.{Direction}
use Rattle.port_tables.specs.declared.node_entry.NodeMeta.{NodeMeta}
use Rattle.multiportgraph.specs.Calls.{add_block}
use Rattle.multiportgraph.specs.Reading.{is_split, subports}
use Rattle.port_tables.specs.Places.{Wire, spot, at_end, touches}
use Rattle.multiportgraph.specs.WellFormed.{Fine}
use Rattle.multiportgraph.specs.Space.{room_of, after_works, take_node, take_block, give_node, give_block}
use Rattle.multiportgraph.specs.Wires.{step_wires, wires_walked, ports_walked}
use Rattle.multiportgraph.specs.Walks.{step_front, step_back, step_links, step_connections}
use Rattle.multiportgraph.specs.declared.multiportgraph.MultiPortGraph.{MultiPortGraph}
use Rattle.multi_tables.specs.declared.answers.Refusal.TheVariants.{NoRoom}
use Rattle.multiportgraph.specs.declared.iter.Wires.{Wires}
use Rattle.multiportgraph.specs.declared.iter.PortLinks.{PortLinks}
use Rattle.multiportgraph.specs.declared.iter.NodeLinks.{NodeLinks}
use Rattle.multiportgraph.specs.declared.iter.NodeConnections.{NodeConnections}
use Rattle.theorems.specs.Book.{Call}
use Rattle.theorems.specs.History.{State, step}
use Rattle.theorems.specs.ListingClaims.{InBook}
use Rattle.theorems.specs.Works.{works_of}
use Rattle.theorems.specs.Conditions.{RefusedBy}

-- From one state to another no wire changes its place at either end, and no block's port its number.
pub record PlacesKept (s t : State) : Type 0 where
  pub book : t.book ≡ s.book
  -- all wires as places, in the order of the walk
  pub wires : wires_walked t.graph ≡ wires_walked s.graph
  -- the ports of every block as walked, and how many there are on each side
  pub ports : (n : ℕ) → InBook s.book n → ports_walked t.graph n ≡ ports_walked s.graph n
  pub counts : (n : ℕ) → InBook s.book n → (d : Direction) → num_ports t.graph.graph n d ≡ num_ports s.graph.graph n d

-- Between two graphs, a cursor from before goes on as if nothing had happened, in every walk that gives wires.
pub record WalksKept (m m' : MultiPortGraph) : Type 0 where
  pub wires : (c : Wires) → step_wires m' c ≡ step_wires m c
  pub front : (c : PortLinks) → step_front m' c ≡ step_front m c
  pub back : (c : PortLinks) → step_back m' c ≡ step_back m c
  pub links : (c : NodeLinks) → step_links m' c ≡ step_links m c
  pub connections : (c : NodeConnections) → step_connections m' c ≡ step_connections m c

-- What a tidied port, at a spot, has: no hidden node where no wire ends there at an offset above 0; else its subports up to the highest wired
-- one.
pub record LeftByWires (s : State) (p n : ℕ) (d : Direction) (i : ℕ) : Type 0 where
  pub whole : is_split s.graph p ≡ false → (o : ℕ) → 0 < o → (w : Wire) → Member w s.book.wires → touches (at_end (spot n d i) o) w ≡ false
  pub shared : is_split s.graph p ≡ true →
      (2 ≤ subports s.graph p d) × ((w : Wire) × Member w s.book.wires × (touches (at_end (spot n d i) (subports s.graph p d - 1)) w ≡ true))

-- Node c, whose block is that of k, was given back between the graphs m and m', and is found again.
pub record FoundAgain (m m' : MultiPortGraph) (c : ℕ) (k : NodeMeta) : Type 0 where
  -- its slot and its block are the last that were freed, and no table has become longer
  pub given : (M N : Model) → Fine m M → Fine m' N → room_of N ≡ after_works (room_of M) (give_node c ∷ give_block k.first_port.0 k.capacity ∷ [])
  -- an add of as many ports as the block has slots takes both
  pub added : (i o : ℕ) → i + o ≡ k.capacity → (add_block m' i o).answer ≡ Ok (node# c, k.first_port)
  -- an add or a link that takes a node slot and a block of that size is not refused for room, and leaves free what was free before
  pub both : (call : Call) → works_of m' call ≡ take_node ∷ take_block k.capacity ∷ [] →
      (RefusedBy call (step m' call).answer NoRoom → ⊥) × ((M N : Model) → Fine m M → Fine (step m' call).graph N → room_of N ≡ room_of M)
  -- a link that takes a block of that size alone and gives another one back is not refused for room, and lengthens no table
  pub block : (call : Call) (first size : ℕ) → works_of m' call ≡ take_block k.capacity ∷ give_block first size ∷ [] →
      (RefusedBy call (step m' call).answer NoRoom → ⊥)
      × ((M N : Model) → Fine m M → Fine (step m' call).graph N → (N.node_len ≡ M.node_len) × (N.port_len ≡ M.port_len))
