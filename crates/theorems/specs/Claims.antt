-- The words of the theorems: what is said of a history, of a link that follows it, and of the wires between two ports.
use Rattle.std.specs.Prelude.{◌≡◌, Bool, true, false, cond, ◌||◌, ℕ, ◌+◌, eqb, Ok}
use mathlib.Core.List.{List, [], ◌∷◌, ◌++◌, flat_map}
use Rattle.port_tables.specs.Lists.{Member, Once}
use Rattle.port_tables.specs.declared.direction.Direction.{Direction}
use Rattle.multiportgraph.specs.Calls.{link_sub, cut_sub, link_pair, link_clean}
use Rattle.port_tables.specs.Places.{Wire, Spot, spot, at_spot, touches, flag}
use Rattle.multiportgraph.specs.Wires.{walked, wires_walked}
use Rattle.multiportgraph.specs.Lookups.{port_fan_out, node_fan_out}
use Rattle.theorems.specs.Book as book
use Rattle.theorems.specs.Book.{Call, Block, Book, spot_of}
use Rattle.theorems.specs.History.{State}
use Rattle.multiportgraph.specs.declared.multiportgraph.MultiPortGraph.{MultiPortGraph}
use Rattle.multi_tables.specs.declared.answers.SubportIndex.{SubportIndex}

-- the walk from the start ends, and gives exactly once each wire of the book, and nothing else
pub record WireRule (s : State) : Type 0 where
  pub ends : (walked s.graph).ended ≡ true
  pub once : Once (wires_walked s.graph)
  pub booked : (w : Wire) → Member w (wires_walked s.graph) → Member w s.book.wires
  pub walks : (w : Wire) → Member w s.book.wires → Member w (wires_walked s.graph)
  pub book_once : Once s.book.wires

-- Links that follow a history.

-- a link of one of the three kinds
pub data Link : Type 0 where
  by_ports : ℕ → ℕ → Link
  by_ports_clean : ℕ → ℕ → Link
  by_subports : ℕ → ℕ → ℕ → ℕ → Link

abbrev pub linking : Link → Call
linking (by_ports a b) = book.link_call a b
linking (by_ports_clean a b) = book.link_clean_call a b
linking (by_subports p o q r) = book.link_sub_call p o q r

-- it is accepted, with these two ends answered
abbrev pub LinkedBy : State → Link → SubportIndex → SubportIndex → Type 0
LinkedBy s (by_ports a b) x y = (link_pair s.graph a b).answer ≡ Ok (x, y)
LinkedBy s (by_ports_clean a b) x y = (link_clean s.graph a b).answer ≡ Ok (x, y)
LinkedBy s (by_subports p o q r) x y = (link_sub s.graph p o q r).answer ≡ Ok (x, y)

-- it is accepted
abbrev pub accepted_link : State → Link → Type 0
accepted_link s l = (x : SubportIndex) × (y : SubportIndex) × LinkedBy s l x y

-- after a cut of this end, the walked wires are those of the earlier graph
abbrev pub Restored : MultiPortGraph → MultiPortGraph → SubportIndex → Type 0
Restored m m' s = wires_walked (cut_sub m' s.port.0 s.subport_offset).graph ≡ wires_walked m

-- Wires between ports: offsets are left out.

-- How many wires of a list pass a test.
abbrev pub count : (Wire → Bool) → List Wire → ℕ
count f [] = 0
count f (w ∷ l) = flag (f w) + count f l

-- a wire runs between two ports
unfoldable pub joins : Spot → Spot → Wire → Bool
joins s t w = (cond (at_spot s w.out) (at_spot t w.into) false) || (cond (at_spot t w.out) (at_spot s w.into) false)

-- how many wires run between two ports
abbrev pub between : Spot → Spot → List Wire → ℕ
between s t l = count (joins s t) l

-- Fan-out.

-- a live port's is how many of the book's wires end there; a block's, how many leave it
pub record FanOutIsWires (s : State) : Type 0 where
  pub of_port : (p n : ℕ) (d : Direction) (i : ℕ) → spot_of s.book.blocks p ≡ spot n d i →
      port_fan_out s.graph p ≡ Ok (count (touches (at_spot (spot n d i))) s.book.wires)
  pub of_block : (n : ℕ) (b : Block) → Member b s.book.blocks → b.node ≡ n →
      node_fan_out s.graph n ≡ Ok (count (λ w. eqb w.out.node n) s.book.wires)

-- Counts.

-- the ports of a block of the book, and of all its blocks
abbrev pub ports_of_block : Block → List ℕ
ports_of_block b = b.ins ++ b.outs

abbrev pub ports_in_book : Book → List ℕ
ports_in_book B = flat_map ports_of_block B.blocks
