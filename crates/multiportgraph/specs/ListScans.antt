-- The numbers of wires and blocks as the lent tables tell them, in the order in which one pass over the tables writes them.
use Rattle.std.specs.Prelude.{Bool, cond, ◌≡◌, ℕ, ◌+◌, ◌-◌, eqb, length, Option, Some, None}
use mathlib.Core.List.{List, [], ◌∷◌, ◌++◌, flat_map}
use Rattle.std.proofs.lemmas.List.Edits.{sets}
use Rattle.port_tables.specs.Limits.{node_slots, port_slots}
use Rattle.port_tables.specs.Lists.{range}
use Rattle.port_tables.specs.Tables.{at}
use Rattle.port_tables.specs.ResizeLinks.{BlockFits}
use Rattle.port_tables.specs.NodeTable.{meta_in}
use Rattle.port_tables.specs.declared.node_entry.NodeMeta.{NodeMeta}
use Rattle.multi_tables.specs.Forms.{flag_at}
use Rattle.multi_tables.specs.TableReads.{far_in, owner_in}
use Rattle.multiportgraph.specs.declared.list_ends.WireEnd.{WireEnd}
use Rattle.port_tables.specs.declared.node_entry.NodeSlot.{NodeSlot}

-- what f gives for a block; nothing for a hidden node and for no node
abbrev pub of_block : (NodeMeta → List ℕ) → Bool → Option NodeMeta → List ℕ
of_block f h None = []
of_block f h (Some k) = cond h [] (f k)

-- what is known of a block: nothing of a hidden node
abbrev pub shown_meta : Bool → Option NodeMeta → Option NodeMeta
shown_meta h k = cond h None k

-- Ends.

-- the four numbers of an end
abbrev pub end_words : WireEnd → List ℕ
end_words e = e.port ∷ e.offset ∷ e.node ∷ e.position ∷ []

abbrev pub first_of_meta : Option NodeMeta → ℕ
first_of_meta None = 0
first_of_meta (Some k) = k.first_port.0

-- an incoming port of a block, at an offset: its position is counted from its node's first port
unfoldable pub in_end : List NodeSlot → List ℕ → ℕ → ℕ → WireEnd
in_end nodes owners p o = record { port = p; offset = o; node = owner_in owners p; position = p - first_of_meta (meta_in nodes (owner_in owners p)) }

-- an incoming subport of a hidden node: its main port hangs on the one outgoing port, behind the incoming ones
abbrev pub subport_end : List NodeSlot → List ℕ → List ℕ → ℕ → Option NodeMeta → WireEnd
subport_end nodes links owners q None = in_end nodes owners q 0
subport_end nodes links owners q (Some k) = in_end nodes owners (far_in links (k.first_port.0 + k.incoming)) (q - k.first_port.0)

-- the incoming end of a wire, by its inner port
unfoldable pub far_end : List NodeSlot → List ℕ → List ℕ → List Bool → ℕ → WireEnd
far_end nodes links owners flags q =
    cond (flag_at flags node_slots (owner_in owners q)) (subport_end nodes links owners q (meta_in nodes (owner_in owners q))) (in_end nodes owners q 0)

abbrev pub out_end : ℕ → ℕ → ℕ → ℕ → WireEnd
out_end p o n i = record { port = p; offset = o; node = n; position = i }

-- Wires.

-- the wire at a slot, of an outgoing end, if there is one
unfoldable pub slot_wire : List NodeSlot → List ℕ → List ℕ → List Bool → WireEnd → ℕ → List ℕ
slot_wire nodes links owners flags from s =
    cond (eqb (at links s) 0) [] (end_words from ++ end_words (far_end nodes links owners flags (far_in links s)))

-- at an offset of a split port whose subports begin at a slot
unfoldable pub subport_wire : List NodeSlot → List ℕ → List ℕ → List Bool → ℕ → ℕ → ℕ → ℕ → ℕ → List ℕ
subport_wire nodes links owners flags p n i first o = slot_wire nodes links owners flags (out_end p o n i) (first + o)

-- at each offset, by its hidden node: the subports stand behind the copy port
unfoldable pub split_wires : List NodeSlot → List ℕ → List ℕ → List Bool → ℕ → ℕ → ℕ → NodeMeta → List ℕ
split_wires nodes links owners flags p n i k = flat_map (subport_wire nodes links owners flags p n i (k.first_port.0 + k.incoming)) (range 0 k.outgoing)

abbrev pub copy_wires : List NodeSlot → List ℕ → List ℕ → List Bool → ℕ → ℕ → ℕ → Option NodeMeta → List ℕ
copy_wires nodes links owners flags p n i None = []
copy_wires nodes links owners flags p n i (Some k) = split_wires nodes links owners flags p n i k

-- at an outgoing port p, at position i of node n
unfoldable pub port_wires : List NodeSlot → List ℕ → List ℕ → List Bool → List Bool → ℕ → ℕ → ℕ → List ℕ
port_wires nodes links owners marks flags p n i =
    cond (flag_at marks port_slots p) (copy_wires nodes links owners flags p n i (meta_in nodes (owner_in owners (far_in links p))))
    (slot_wire nodes links owners flags (out_end p 0 n i) p)

-- at a position of the outgoing side of node n, whose ports there begin at a slot
unfoldable pub place_wires : List NodeSlot → List ℕ → List ℕ → List Bool → List Bool → ℕ → ℕ → ℕ → List ℕ
place_wires nodes links owners marks flags n first i = port_wires nodes links owners marks flags (first + i) n i

-- at each position
unfoldable pub side_wires : List NodeSlot → List ℕ → List ℕ → List Bool → List Bool → ℕ → NodeMeta → List ℕ
side_wires nodes links owners marks flags n k = flat_map (place_wires nodes links owners marks flags n (k.first_port.0 + k.incoming)) (range 0 k.outgoing)

-- of a node slot
unfoldable pub node_wires : List NodeSlot → List ℕ → List ℕ → List Bool → List Bool → ℕ → List ℕ
node_wires nodes links owners marks flags n = of_block (side_wires nodes links owners marks flags n) (flag_at flags node_slots n) (meta_in nodes n)

-- of the first so many node slots
unfoldable pub table_wires : List NodeSlot → List ℕ → List ℕ → List Bool → List Bool → ℕ → List ℕ
table_wires nodes links owners marks flags len = flat_map (node_wires nodes links owners marks flags) (range 0 len)

-- Blocks.

-- the first port of a block; 0 where it has none
unfoldable pub port_of_meta : NodeMeta → ℕ
port_of_meta k = cond (eqb (k.incoming + k.outgoing) 0) 0 k.first_port.0

abbrev pub block_words : ℕ → NodeMeta → List ℕ
block_words n k = n ∷ k.incoming ∷ k.outgoing ∷ port_of_meta k ∷ []

-- of a node slot
unfoldable pub node_block : List NodeSlot → List Bool → ℕ → List ℕ
node_block nodes flags n = of_block (block_words n) (flag_at flags node_slots n) (meta_in nodes n)

-- of the first so many node slots
unfoldable pub table_blocks : List NodeSlot → List Bool → ℕ → List ℕ
table_blocks nodes flags len = flat_map (node_block nodes flags) (range 0 len)

-- What the pass over wires presumes: every block of slots lies within the tables.
abbrev pub AllFit : List NodeSlot → Type 0
AllFit nodes = (n : ℕ) (k : NodeMeta) → meta_in nodes n ≡ Some k → BlockFits k

-- What writing keeps, over a list of which whole is to be written from place at on: where rest is written from the present place on, the
-- whole is.
pub record Writing (list₀ : List ℕ) (at : ℕ) (whole list : List ℕ) (place : ℕ) (rest : List ℕ) : Type 0 where
  pub counted : place + length rest ≡ at + length whole
  pub same : sets list place rest ≡ sets list₀ at whole
  pub long : length list ≡ length list₀

-- and over a pass whose rest is what items gives for each number from `from` on and below `end`
pub record Passing (list₀ whole list : List ℕ) (place : ℕ) (items : ℕ → List ℕ) (from end : ℕ) : Type 0 where
  pub writing : Writing list₀ 0 whole list place (flat_map items (range from (end - from)))
