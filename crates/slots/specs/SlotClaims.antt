-- The words of the theorems about slots.
use Rattle.std.specs.Prelude.{◌≡◌, Bool, true, false, cond, List, [], ◌∷◌, ◌++◌, map, ℕ, ◌+◌, ◌<◌, ◌≤◌, eqb, get_or, Some, Ok}
use Rattle.port_tables.specs.Lists.{Member, Once, Rising}
use Rattle.portgraph.specs.Model.{Model}
use Rattle.port_tables.specs.Tables.{Within}
use Rattle.portgraph.specs.declared.portgraph.PortGraph.{PortGraph}
use Rattle.port_tables.specs.Limits.{node_slots}
use Rattle.portgraph.specs.Meaning.{first_or}
use Rattle.portgraph.specs.Lookups.{port_link}
use Rattle.port_tables.specs.Entries.{port#}
use Rattle.port_tables.specs.declared.direction.Direction.{Direction}
use Rattle.multiportgraph.specs.Reading.{is_hidden, is_split, seen, port_of, copy_side}
use Rattle.multi_tables.specs.Forms.{visible}
use Rattle.multiportgraph.specs.WellFormed.{Fine}
use Rattle.multiportgraph.specs.Space.{Room, room_of, Work, take_node, take_block, give_node, give_block, after_work, ports_short}
use Rattle.multiportgraph.specs.declared.multiportgraph.MultiPortGraph.{MultiPortGraph}
use Rattle.theorems.specs.Book.{Call, AnswerOf}
use Rattle.theorems.specs.History.{step, numbers_of}
use Rattle.theorems.specs.Works.{works_of}
use Rattle.slots.specs.Blocks.{SlotBlock, blocks_of, slot_list}

-- a slot lies in a block
abbrev pub InBlock : SlotBlock → ℕ → Type 0
InBlock b s = Within b.first b.size s

-- blocks lie end to end from one slot to another, each with a slot at least
abbrev pub Tiles : ℕ → List SlotBlock → ℕ → Type 0
Tiles from [] to = from ≡ to
Tiles from (b ∷ l) to = (b.first ≡ from) × (0 < b.size) × Tiles (from + b.size) l to

abbrev pub sizes_total : List SlotBlock → ℕ
sizes_total [] = 0
sizes_total (b ∷ l) = b.size + sizes_total l

-- where a block is cut out of the table, whoever has it
pub record Cut : Type 0 where
  pub first : ℕ
  pub size : ℕ

abbrev pub cut_of : SlotBlock → Cut
cut_of b = record { first = b.first; size = b.size }

abbrev pub TilesCut : ℕ → List Cut → ℕ → Type 0
TilesCut from [] to = from ≡ to
TilesCut from (c ∷ l) to = (c.first ≡ from) × (0 < c.size) × TilesCut (from + c.size) l to

-- Every slot of the used length lies in one block, and in no other: so a block that a node holds is held by no second node and listed by
-- no free list, and a free one is listed once. No block is empty, and none reaches beyond the used length.
pub record SlotsAccounted (g : PortGraph) : Type 0 where
  pub lies : (s : ℕ) → s < g.port_len → (b : SlotBlock) × Member b (blocks_of g) × InBlock b s
  pub alone : (s : ℕ) (a b : SlotBlock) → Member a (blocks_of g) → Member b (blocks_of g) → InBlock a s → InBlock b s → a ≡ b
  pub once : Once (blocks_of g)
  pub some : (b : SlotBlock) → Member b (blocks_of g) → 0 < b.size
  pub used : (b : SlotBlock) → Member b (blocks_of g) → b.first + b.size ≤ g.port_len

-- The listing has exactly these blocks, end to end from slot 0 to the used length: so each once, by ascending first slot, and their sizes
-- add up to it.
pub record SlotsListed (g : PortGraph) : Type 0 where
  pub tiles : Tiles 0 (slot_list g) g.port_len
  pub there : (b : SlotBlock) → Member b (blocks_of g) → Member b (slot_list g)
  pub only : (b : SlotBlock) → Member b (slot_list g) → Member b (blocks_of g)
  pub rises : Rising (λ (a b : SlotBlock). a.first < b.first) (slot_list g)
  pub adds : sizes_total (slot_list g) ≡ g.port_len

-- where the blocks of a graph are cut, from slot 0 on
abbrev pub cuts_of : PortGraph → List Cut
cuts_of g = map cut_of (slot_list g)

-- A call and the slots that it asks for.

-- the sizes of the blocks that works ask for, in order; a size of 0 is none
abbrev pub blocks_asked : List Work → List ℕ
blocks_asked [] = []
blocks_asked (take_node ∷ l) = blocks_asked l
blocks_asked (take_block size ∷ l) = cond (eqb size 0) (blocks_asked l) (size ∷ blocks_asked l)
blocks_asked (give_node n ∷ l) = blocks_asked l
blocks_asked (give_block first size ∷ l) = blocks_asked l

-- works ask for a node slot
abbrev pub asks_node : List Work → Bool
asks_node [] = false
asks_node (take_node ∷ l) = true
asks_node (take_block size ∷ l) = asks_node l
asks_node (give_node n ∷ l) = asks_node l
asks_node (give_block first size ∷ l) = asks_node l

-- a call asks for one block only, of this size
abbrev pub AsksOnly : MultiPortGraph → Call → ℕ → Type 0
AsksOnly m c size = blocks_asked (works_of m c) ≡ size ∷ []

-- an answer gives 10
abbrev pub answers_ten : (c : Call) → AnswerOf c → Bool
answers_ten c v = eqb (get_or (numbers_of c v) 0 0) 10

-- the lack is of a node slot: the call asks for one, none is free, and the node table is used to its end
pub record LacksNode (m : MultiPortGraph) (c : Call) : Type 0 where
  pub asks : asks_node (works_of m c) ≡ true
  pub none : m.graph.node_free ≡ 0
  pub full : m.graph.node_len ≡ node_slots

-- a call is not refused for port slots: its works leave the port table within its limit, and if it gives 10, it is for a node slot
pub record NeverForPorts (m : MultiPortGraph) (c : Call) : Type 0 where
  pub suffice : (M : Model) → Fine m M → ports_short (room_of M) (works_of m c) ≡ false
  pub ten : answers_ten c (step m c).answer ≡ true → LacksNode m c

-- Freed, and not taken since: what the calls of a history did, work by work.

-- what a call did: nothing where it gave 10
abbrev pub works_done : MultiPortGraph → Call → List Work
works_done m c = cond (answers_ten c (step m c).answer) [] (works_of m c)

abbrev pub works_along : MultiPortGraph → List Call → List Work
works_along m [] = []
works_along m (c ∷ l) = works_done m c ++ works_along (step m c).graph l

-- nothing is used yet
abbrev pub empty_room : Room
empty_room = record { free_nodes = []; free_blocks = λ size. []; node_len = 0; port_len = 0 }

-- a work takes this block: of its size the one freed last, else the one that begins at the end of the used length
abbrev pub Takes : Room → Work → ℕ → ℕ → Type 0
Takes r take_node first size = ⊥
Takes r (take_block k) first size = (k ≡ size) × (first_or r.port_len (r.free_blocks k) ≡ first)
Takes r (give_node n) first size = ⊥
Takes r (give_block f k) first size = ⊥

abbrev pub Untaken : ℕ → ℕ → Room → List Work → Type 0
Untaken first size r [] = Unit {0}
Untaken first size r (w ∷ l) = (Takes r w first size → ⊥) × Untaken first size (after_work r w) l

-- one of the works frees this block, and none since takes it
pub data FreedSince (first size : ℕ) : Room → List Work → Type 0 where
  freed_by : (r : Room) (l : List Work) → 0 < size → Untaken first size (after_work r (give_block first size)) l → FreedSince first size r (give_block first size ∷ l)
  freed_later : (r : Room) (w : Work) (l : List Work) → FreedSince first size (after_work r w) l → FreedSince first size r (w ∷ l)

-- Split ports and hidden nodes.

-- a hidden node hangs on a port: its copy port is linked with it
abbrev pub HangsOn : MultiPortGraph → ℕ → ℕ → Type 0
HangsOn m c p = port_link m.graph (port_of m.graph c (copy_side m c) 0) ≡ Ok (Some (port# p))

-- a port of a block
abbrev pub OfBlock : MultiPortGraph → ℕ → Type 0
OfBlock m p = (n : ℕ) × (d : Direction) × (seen m p ≡ visible n d)

-- a split port has one hidden node, and each hidden node one split port
pub record OneForOne (m : MultiPortGraph) : Type 0 where
  pub hidden_of : (p : ℕ) → OfBlock m p → is_split m p ≡ true →
      (c : ℕ) × (is_hidden m c ≡ true) × HangsOn m c p × ((e : ℕ) → is_hidden m e ≡ true → HangsOn m e p → e ≡ c)
  pub split_of : (c : ℕ) → is_hidden m c ≡ true →
      (p : ℕ) × OfBlock m p × (is_split m p ≡ true) × HangsOn m c p × ((q : ℕ) → HangsOn m c q → q ≡ p)
