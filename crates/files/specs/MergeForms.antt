-- The forms in which the code of a merge holds what Merging says: the numbers of the records of a file, its ranks raised; and two laid
-- files.
use Rattle.std.specs.Prelude.{List, ℕ, ◌+◌, ◌<◌, ◌≤◌}
use Rattle.port_tables.specs.Limits.{node_slots, port_slots}
use Rattle.files.specs.Layout.{Record, block_of, block_record, wire_of, wire_record}
use Rattle.files.specs.Forms.{number_of}
use Rattle.files.specs.LoadForms.{place_of, record_in, Laid}
use Rattle.files.specs.Merging.{raised}

-- the number of a block of a file, in a list
abbrev pub block_read : List ℕ → ℕ → ℕ
block_read bytes i = number_of (block_record (block_of (record_in bytes (place_of 0 i))))

-- the number of a wire of a file, its ranks raised, in a list
abbrev pub wire_read : List ℕ → ℕ → ℕ → ℕ → ℕ
wire_read bytes unit raise i = number_of (wire_record (raised raise (wire_of (record_in bytes (place_of unit i)))))

-- the ranks of a wire fit their fields when they are raised
abbrev pub RaisedAt : Record → ℕ → Type 0
RaisedAt r raise = (raise + r.a < 65536) × (raise + r.c < 65536)

-- those of all wires of a file
abbrev pub RaisedFit : List ℕ → ℕ → ℕ → ℕ → Type 0
RaisedFit bytes unit count raise = (i : ℕ) → i < count → RaisedAt (record_in bytes (place_of unit i)) raise

-- two laid files with so many blocks and wires
pub record BothLaid (first second : List ℕ) (blocks wires blocks₂ wires₂ : ℕ) : Type 0 where
  pub one : Laid first blocks wires
  pub two : Laid second blocks₂ wires₂

-- and these so few as those of files that load
pub record BothFew (blocks wires blocks₂ wires₂ : ℕ) : Type 0 where
  pub one : blocks ≤ node_slots
  pub two : blocks₂ ≤ node_slots
  pub wires_few : wires + wires₂ ≤ port_slots
