-- The words of `listings_are_wires_..`: a list of wires that has exactly those of the book for which something holds.
use Rattle.std.specs.Prelude.{◌≡◌, Bool, true, List, ◌++◌, map, ℕ, ◌≤◌, ◌<◌}
use Rattle.port_tables.specs.Lists.{Member, Once}
use Rattle.port_tables.specs.declared.direction.Direction.{Direction}
use Rattle.port_tables.specs.declared.direction.Direction.TheVariants.{Incoming, Outgoing}
use Rattle.port_tables.specs.declared.sides.Sides.{Sides}
use Rattle.port_tables.specs.declared.sides.Sides.TheVariants.{One, Both}
use Rattle.port_tables.specs.Places.{Place, Wire, at_spot, wire_of_sides, far_from}
use Rattle.theorems.specs.Book.{Block, Book, spot_of}
use Rattle.multiportgraph.specs.Wires.{place_of}
use Rattle.multiportgraph.specs.declared.multiportgraph.MultiPortGraph.{MultiPortGraph}
use Rattle.multi_tables.specs.declared.answers.SubportLink.{SubportLink}

-- a listed link from a side, read as places: its own end is of that side, and the outgoing place stands first
abbrev pub wire_from : MultiPortGraph → Direction → SubportLink → Wire
wire_from m d w = wire_of_sides d (place_of m w.from) (place_of m w.to)

-- a list has exactly the wires of a book for which something holds, each once
pub record Exactly (booked : List Wire) (P : Wire → Type 0) (l : List Wire) : Type 0 where
  pub once : Once l
  pub only : (w : Wire) → Member w l → Member w booked × P w
  pub all : (w : Wire) → Member w booked → P w → Member w l

-- a node is a block of the book
abbrev pub InBook : Book → ℕ → Type 0
InBook B n = (b : Block) × Member b B.blocks × (b.node ≡ n)

-- a list that is walked over one side, or both, incoming first
abbrev pub OverSides : {A : Type 0} → (Direction → List A → Type 0) → Sides → List A → Type 0
OverSides P (One d) l = P d l
OverSides {A} P Both l = (a : List A) × (b : List A) × (l ≡ a ++ b) × P Incoming a × P Outgoing b

-- no port of a range, its end excluded, stands at a place
abbrev pub OutOfRange : Book → ℕ → ℕ → Place → Type 0
OutOfRange B lo hi x = (p : ℕ) → at_spot (spot_of B.blocks p) x ≡ true → lo ≤ p → p < hi → ⊥

-- a list of nodes: one for each wire for which something holds, that of its far end
abbrev pub FarNodes : List Wire → (Wire → Type 0) → Direction → List ℕ → Type 0
FarNodes booked P d l = (ws : List Wire) × Exactly booked P ws × (l ≡ map (λ (w : Wire). (far_from d w).node) ws)

-- with the flag, a far end is not on the node's own outgoing side
abbrev pub NotOwnOutput : ℕ → Bool → Place → Type 0
NotOwnOutput n flag x = flag ≡ true → x.node ≡ n → x.side ≡ Outgoing → ⊥
