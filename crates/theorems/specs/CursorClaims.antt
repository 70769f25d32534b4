-- The words of `wires_give`, `wires_end` and `wires_forward`: what lies beyond the port and offset that a cursor over all wires holds.
use Rattle.std.specs.Prelude.{◌≡◌, Bool, cond, List, ◌∷◌, ◌++◌, ℕ, suc, ◌<◌, eqb, ltb}
use Rattle.port_tables.specs.Lists.{Member}
use Rattle.multiportgraph.specs.Reading.{owner_of}
use Rattle.multiportgraph.specs.Wires.{is_beyond}
use Rattle.multiportgraph.specs.declared.multiportgraph.MultiPortGraph.{MultiPortGraph}
use Rattle.multi_tables.specs.declared.answers.SubportLink.{SubportLink}
use Rattle.multiportgraph.specs.declared.iter.Wires.{Wires}

-- the block that an item of the listing starts at
abbrev pub block_of_item : MultiPortGraph → SubportLink → ℕ
block_of_item m w = owner_of m.graph w.from.port.0

-- an item lies beyond port p of block n and an offset: in that block at a later port, or at a later offset of that port; or in a later block
pub data Beyond (m : MultiPortGraph) (n p o : ℕ) (w : SubportLink) : Type 0 where
  later_offset : block_of_item m w ≡ n → w.from.port.0 ≡ p → o < w.from.subport_offset → Beyond m n p o w
  later_port : block_of_item m w ≡ n → p < w.from.port.0 → Beyond m n p o w
  later_block : n < block_of_item m w → Beyond m n p o w

-- an item of a list for which something holds that holds of none before it
pub record FirstOf (P : SubportLink → Type 0) (l : List SubportLink) (w : SubportLink) : Type 0 where
  pub before : List SubportLink
  pub after : List SubportLink
  pub whole : l ≡ before ++ (w ∷ after)
  pub so : P w
  pub none : (v : SubportLink) → Member v before → P v → ⊥

-- the cursor that holds an item
abbrev pub holding : SubportLink → Wires
holding w = record { held = record { port = suc w.from.port.0; offset = w.from.subport_offset } }

-- the same as a test
unfoldable pub lies_beyond : MultiPortGraph → ℕ → ℕ → ℕ → SubportLink → Bool
lies_beyond m n p o w = cond (eqb (block_of_item m w) n) (is_beyond p o w) (ltb n (block_of_item m w))
