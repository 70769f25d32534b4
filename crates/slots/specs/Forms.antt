-- The code's own forms: blocks read off single tables, and what is laid in two lists.
use Rattle.std.specs.Prelude.{◌≡◌, ℕ, replicate}
use mathlib.Core.List.{List, ◌++◌, flat_map, map}
use Rattle.port_tables.specs.Limits.{node_slots, port_slots, node_ports}
use Rattle.port_tables.specs.Lists.{range}
use Rattle.port_tables.specs.Tables.{head_at}
use Rattle.port_tables.specs.NodeTable.{meta_in}
use Rattle.port_tables.specs.declared.node_entry.NodeSlot.{NodeSlot}
use Rattle.slots.specs.Blocks.{free, SlotBlock, slot_block, node_holds, chained, size_of, holder_of_block, laid, walk_blocks}

unfoldable pub taken_in : List NodeSlot → List SlotBlock
taken_in nodes = flat_map (λ n. node_holds n (meta_in nodes n)) (range 0 node_slots)

-- the blocks of a free list, from its head on
unfoldable pub list_from : List ℕ → ℕ → ℕ → ℕ → List SlotBlock
list_from links head size n = map (λ b. slot_block b size free) (chained links head n)

unfoldable pub free_in : List ℕ → List ℕ → List SlotBlock
free_in links heads = flat_map (λ k. list_from links (head_at heads k) k port_slots) (range 1 node_ports)

-- the blocks of lent tables by first slot
unfoldable pub list_in : List NodeSlot → List ℕ → List ℕ → List SlotBlock
list_in nodes links heads =
    walk_blocks (laid size_of (taken_in nodes ++ free_in links heads) (replicate port_slots 0)) (laid holder_of_block (taken_in nodes ++ free_in links heads) (replicate port_slots 0))
    0 port_slots

-- blocks are laid in both tables
pub record LaysBoth (l : List SlotBlock) (sizes holders sizes' holders' : List ℕ) : Type 0 where
  pub sizes_are : sizes' ≡ laid size_of l sizes
  pub holders_are : holders' ≡ laid holder_of_block l holders
