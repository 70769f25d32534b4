-- The blocks of the port table, read off a graph's tables: those that live nodes hold, hidden ones too, and those that the free lists
-- list. Then the listing of all of them by first slot, as `slots` of the console gives it.
use Rattle.std.specs.Prelude.{cond, ℕ, zero, suc, ◌+◌, ◌-◌, eqb, replicate, Option, Some, None}
use mathlib.Core.List.{List, [], ◌∷◌, ◌++◌, flat_map, map}
use Rattle.port_tables.specs.Limits.{node_slots, port_slots, node_ports}
use Rattle.port_tables.specs.Lists.{range}
use Rattle.port_tables.specs.Tables.{at, put, head_at}
use Rattle.portgraph.specs.Lookups.{meta_at}
use Rattle.port_tables.specs.Entries.{node#}
use Rattle.port_tables.specs.declared.index.NodeIndex.{NodeIndex}
use Rattle.port_tables.specs.declared.node_entry.NodeMeta.{NodeMeta}
use Rattle.portgraph.specs.declared.portgraph.PortGraph.{PortGraph}
use Rattle.slots.specs.declared.listing.SlotBlock as listed

-- who has a block of slots: a live node, or nobody, and then a free list lists it
pub data Holder : Type 0 where
  by_node : ℕ → Holder
  free : Holder

-- a block of slots: its first slot, its size, and who has it
pub record SlotBlock : Type 0 where
  pub first : ℕ
  pub size : ℕ
  pub holder : Holder

abbrev pub slot_block : ℕ → ℕ → Holder → SlotBlock
slot_block first size holder = record { first = first; size = size; holder = holder }

-- The blocks of a graph.

-- a node holds the block that its meta data name; one with a capacity of 0 holds none
abbrev pub block_of_meta : ℕ → NodeMeta → List SlotBlock
block_of_meta n k = cond (eqb k.capacity 0) [] (slot_block k.first_port.0 k.capacity (by_node n) ∷ [])

abbrev pub node_holds : ℕ → Option NodeMeta → List SlotBlock
node_holds n None = []
node_holds n (Some k) = block_of_meta n k

-- the blocks that live nodes hold, by ascending node
unfoldable pub held_blocks : PortGraph → List SlotBlock
held_blocks g = flat_map (λ n. node_holds n (meta_at g n)) (range 0 node_slots)

-- a free list from its head on, through the first slots of its blocks; at most so many
unfoldable pub chained : List ℕ → ℕ → ℕ → List ℕ
chained links head zero = []
chained links head (suc n) = cond (eqb head 0) [] ((head - 1) ∷ chained links (at links (head - 1)) n)

-- the first slots of the free blocks of a size, the one freed last first
unfoldable pub free_of : PortGraph → ℕ → List ℕ
free_of g size = chained g.port_link (head_at g.port_free size) port_slots

abbrev pub listed_free : PortGraph → ℕ → List SlotBlock
listed_free g size = map (λ b. slot_block b size free) (free_of g size)

-- the blocks that the free lists list, by ascending size
unfoldable pub free_blocks : PortGraph → List SlotBlock
free_blocks g = flat_map (listed_free g) (range 1 node_ports)

-- all of them
abbrev pub blocks_of : PortGraph → List SlotBlock
blocks_of g = held_blocks g ++ free_blocks g

-- The listing: each block lays its size and who has it at its first slot, and a walk from slot 0 on reads them off.

-- 0 for a free block, else one higher than the node
abbrev pub holder_number : Holder → ℕ
holder_number (by_node n) = suc n
holder_number free = 0

abbrev pub holder_of : ℕ → Holder
holder_of zero = free
holder_of (suc n) = by_node n

abbrev pub size_of : SlotBlock → ℕ
size_of b = b.size

abbrev pub holder_of_block : SlotBlock → ℕ
holder_of_block b = holder_number b.holder

-- a number of each block is laid at its first slot
unfoldable pub laid : (SlotBlock → ℕ) → List SlotBlock → List ℕ → List ℕ
laid f [] t = t
laid f (b ∷ l) t = laid f l (put t b.first (f b))

unfoldable pub sizes_laid : PortGraph → List ℕ
sizes_laid g = laid size_of (blocks_of g) (replicate port_slots 0)

unfoldable pub holders_laid : PortGraph → List ℕ
holders_laid g = laid holder_of_block (blocks_of g) (replicate port_slots 0)

-- from a slot on, until no size is laid: the block laid there, and on from its end; at most so many
unfoldable pub walk_blocks : List ℕ → List ℕ → ℕ → ℕ → List SlotBlock
walk_blocks sizes holders s zero = []
walk_blocks sizes holders s (suc n) =
    cond (eqb (at sizes s) 0) [] (slot_block s (at sizes s) (holder_of (at holders s)) ∷ walk_blocks sizes holders (s + at sizes s) n)

-- the blocks of a graph by first slot
unfoldable pub slot_list : PortGraph → List SlotBlock
slot_list g = walk_blocks (sizes_laid g) (holders_laid g) 0 port_slots

-- a block as numbers: first slot, size, and who has it
abbrev pub block_numbers : SlotBlock → List ℕ
block_numbers b = b.first ∷ b.size ∷ holder_of_block b ∷ []

unfoldable pub slot_numbers : PortGraph → List ℕ
slot_numbers g = flat_map block_numbers (slot_list g)

-- a block as the code gives it
abbrev pub node_of : Holder → Option NodeIndex
node_of (by_node n) = Some (node# n)
node_of free = None

abbrev pub told : ℕ → ℕ → Option NodeIndex → listed.SlotBlock
told first size holder = record { first = first; size = size; holder = holder }

abbrev pub block_told : SlotBlock → listed.SlotBlock
block_told b = told b.first b.size (node_of b.holder)

unfoldable pub slots_told : PortGraph → List listed.SlotBlock
slots_told g = map block_told (slot_list g)

-- and its numbers again
abbrev pub node_number : Option NodeIndex → ℕ
node_number None = 0
node_number (Some n) = suc n.0

abbrev pub told_numbers : listed.SlotBlock → List ℕ
told_numbers b = b.first ∷ b.size ∷ node_number b.holder ∷ []
