-- The words of the theorems about files: when two histories have the same wiring, and how large the numbers of a view are. They
-- speak of the wire book, with rank in place of node: Req 05's words 'blocks by rank' and 'wires between ports, counted with repeats'.
use Rattle.std.specs.Prelude.{◌≡◌, Bool, cond, false, List, [], ◌∷◌, ◌↔◌, ℕ, zero, suc, ◌+◌, ◌/◌, ◌≤◌, ◌<◌, eqb, ltb, length, get_or}
use Rattle.port_tables.specs.Limits.{node_slots, port_slots, node_ports}
use Rattle.port_tables.specs.Lists.{Member, Rising}
use Rattle.std.specs.List.{filter}
use Rattle.port_tables.specs.Places.{Wire, flag}
use Rattle.theorems.specs.Book.{Block, Book}
use Rattle.theorems.specs.Claims.{count}
use Rattle.files.specs.View.{BlockPorts, RankWire, View, is_before, rank_wire}
use Rattle.files.specs.Layout.{file_length}
use Rattle.files.specs.Loading.{block_at}

-- the rank of a node: how many blocks of the book have a smaller number
unfoldable pub rank_in : Book → ℕ → ℕ
rank_in B n = length (filter (λ (b : Block). ltb b.node n) B.blocks)

-- the book has a block of this rank with so many incoming and outgoing ports
abbrev pub HasBlock : Book → ℕ → ℕ → ℕ → Type 0
HasBlock B r i o = (b : Block) × Member b B.blocks × (rank_in B b.node ≡ r) × (length b.ins ≡ i) × (length b.outs ≡ o)

-- the same four numbers
unfoldable pub same_wire : RankWire → RankWire → Bool
same_wire v w =
    cond (eqb v.source w.source)
    (cond (eqb v.output w.output) (cond (eqb v.target w.target) (eqb v.input w.input) false) false) false

-- how many wires the book has between two ports, which are given as those of a wire
abbrev pub wires_between : Book → RankWire → ℕ
wires_between B v = count (λ (w : Wire). same_wire (rank_wire (rank_in B) w) v) B.wires

-- the same blocks by rank, and as many wires between any two ports
pub record SameWiring (B C : Book) : Type 0 where
  pub blocks : (r i o : ℕ) → HasBlock B r i o ↔ HasBlock C r i o
  pub wires : (w : RankWire) → wires_between B w ≡ wires_between C w

-- What a list has.

-- an item stands at a position
abbrev pub At : {A : Type 0} → List A → ℕ → A → Type 0
At [] r x = ⊥
At (y ∷ l) zero x = x ≡ y
At (y ∷ l) (suc r) x = At l r x

-- how often an item stands in it
abbrev pub how_many : {A : Type 0} → (A → A → Bool) → A → List A → ℕ
how_many same x [] = 0
how_many same x (y ∷ l) = flag (same y x) + how_many same x l

-- a wire stands no later than another
abbrev pub AtMost : RankWire → RankWire → Type 0
AtMost v w = is_before w v ≡ false

-- Sizes.

-- No number of a view passes the limits: ranks stay below the node slots, positions and counts within a node's ports.
pub record WithinLimits (v : View) : Type 0 where
  pub blocks_few : length v.blocks ≤ node_slots
  pub incoming : (b : BlockPorts) → Member b v.blocks → b.incoming ≤ node_ports
  pub outgoing : (b : BlockPorts) → Member b v.blocks → b.outgoing ≤ node_ports
  pub source : (w : RankWire) → Member w v.wires → w.source < node_slots
  pub output : (w : RankWire) → Member w v.wires → w.output < node_ports
  pub target : (w : RankWire) → Member w v.wires → w.target < node_slots
  pub input : (w : RankWire) → Member w v.wires → w.input < node_ports

-- What a file may say: wires that are sorted, each from an output of a block to an input of a block.
pub record Sound (v : View) : Type 0 where
  pub rise : Rising AtMost v.wires
  pub source : (w : RankWire) → Member w v.wires → w.source < length v.blocks
  pub output : (w : RankWire) → Member w v.wires → w.output < (block_at v.blocks w.source).outgoing
  pub target : (w : RankWire) → Member w v.wires → w.target < length v.blocks
  pub input : (w : RankWire) → Member w v.wires → w.input < (block_at v.blocks w.target).incoming

-- every number of a list is a byte
abbrev pub Bytes : List ℕ → Type 0
Bytes l = (i : ℕ) → get_or l i 0 < 256

-- the length of the longest file: every node slot a block, every two port slots a wire
unfoldable pub longest_file : ℕ
longest_file = file_length node_slots (port_slots / 2)
