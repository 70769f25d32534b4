-- The bytes of a view, as Req 05 lays them: units of 512 bytes, blocks first. And what a file says: the view that is read off its
-- bytes, whatever they are.
use Rattle.std.specs.Prelude.{Bool, true, false, ℕ, zero, suc, ◌+◌, ◌-◌, ◌*◌, ◌/◌, ◌%◌, ◌<◌, eqb, length, get_or, take, drop, replicate}
use mathlib.Core.List.{List, [], ◌∷◌, ◌++◌, map, flat_map}
use Rattle.port_tables.specs.Lists.{Member}
use Rattle.portgraph.specs.Model.{total}
use Rattle.files.specs.View.{BlockPorts, RankWire, View}

-- a record: four fields of 16 bits
pub record Record : Type 0 where
  pub a : ℕ
  pub b : ℕ
  pub c : ℕ
  pub d : ℕ

-- incoming, outgoing, 0, 0
abbrev pub block_record : BlockPorts → Record
block_record x = record { a = x.incoming; b = x.outgoing; c = 0; d = 0 }

-- source rank, output position, target rank, input position
abbrev pub wire_record : RankWire → Record
wire_record w = record { a = w.source; b = w.output; c = w.target; d = w.input }

-- What fits.

-- no field passes 16 bits
pub record FieldsFit (r : Record) : Type 0 where
  pub a : r.a < 65536
  pub b : r.b < 65536
  pub c : r.c < 65536
  pub d : r.d < 65536

abbrev pub AllFit : List Record → Type 0
AllFit records = (r : Record) → Member r records → FieldsFit r

-- all records fit where the numbers of the view do
abbrev pub ViewFits : View → Type 0
ViewFits v = AllFit (map block_record v.blocks) × AllFit (map wire_record v.wires)

-- Numbers in bytes, the least significant byte first.

-- a number in two bytes; only one below 65,536 is read back
unfoldable pub field_bytes : ℕ → List ℕ
field_bytes x = x % 256 ∷ x / 256 % 256 ∷ []

-- a word is two fields, the lower one first
unfoldable pub word_bytes : ℕ → List ℕ
word_bytes x = field_bytes (x % 65536) ++ field_bytes (x / 65536)

-- the field at a byte position, and the word
unfoldable pub field_at : List ℕ → ℕ → ℕ
field_at bytes i = get_or bytes i 0 + 256 * get_or bytes (i + 1) 0

unfoldable pub word_at : List ℕ → ℕ → ℕ
word_at bytes i = field_at bytes i + 65536 * field_at bytes (i + 2)

-- Units.

unfoldable pub record_bytes : Record → List ℕ
record_bytes r = field_bytes r.a ++ (field_bytes r.b ++ (field_bytes r.c ++ field_bytes r.d))

-- the most records of a unit
abbrev pub unit_records : ℕ
unit_records = 63

-- the bytes before the sum: kind, record count, the records from byte 4 on, zeros for the unused ones
unfoldable pub unit_head : ℕ → List Record → List ℕ
unit_head kind records =
    field_bytes kind ++ (field_bytes (length records) ++ (flat_map record_bytes records ++ replicate (8 * (unit_records - length records)) 0))

-- the sum, modulo 4,294,967,296, of 127 words
unfoldable pub sum_of : List ℕ → ℕ
sum_of bytes = total 127 (λ i. word_at bytes (4 * i)) % 4294967296

unfoldable pub unit : ℕ → List Record → List ℕ
unit kind records = unit_head kind records ++ word_bytes (sum_of (unit_head kind records))

-- so many units hold so many records: all but the last are full
unfoldable pub units_for : ℕ → ℕ
units_for count = (count + (unit_records - 1)) / unit_records

unfoldable pub units_from : ℕ → ℕ → List Record → List ℕ
units_from kind zero records = []
units_from kind (suc n) records = unit kind (take unit_records records) ++ units_from kind n (drop unit_records records)

-- all units of a kind
unfoldable pub units_of : ℕ → List Record → List ℕ
units_of kind records = units_from kind (units_for (length records)) records

-- The file.

-- all units of kind 1, the blocks, then all of kind 2, the wires; no bytes for an empty view
unfoldable pub bytes_of : View → List ℕ
bytes_of v = units_of 1 (map block_record v.blocks) ++ units_of 2 (map wire_record v.wires)

-- its length follows from the counts
unfoldable pub file_length : ℕ → ℕ → ℕ
file_length blocks wires = 512 * (units_for blocks + units_for wires)

-- What a file says.

abbrev pub block_of : Record → BlockPorts
block_of r = record { incoming = r.a; outgoing = r.b }

abbrev pub wire_of : Record → RankWire
wire_of r = record { source = r.a; output = r.b; target = r.c; input = r.d }

unfoldable pub record_at : List ℕ → Record
record_at bytes = record { a = field_at bytes 0; b = field_at bytes 2; c = field_at bytes 4; d = field_at bytes 6 }

-- so many records, one after the other
unfoldable pub records_at : ℕ → List ℕ → List Record
records_at zero bytes = []
records_at (suc n) bytes = record_at bytes ∷ records_at n (drop 8 bytes)

-- the records of a unit: as many as it says, from byte 4 on
unfoldable pub records_of : List ℕ → List Record
records_of bytes = records_at (field_at bytes 2) (drop 4 bytes)

abbrev pub empty_view : View
empty_view = record { blocks = []; wires = [] }

-- records of blocks, or of wires, before those that follow
abbrev pub with_records : Bool → List Record → View → View
with_records true records v = record { blocks = map block_of records ++ v.blocks; wires = v.wires }
with_records false records v = record { blocks = v.blocks; wires = map wire_of records ++ v.wires }

-- a unit that is not of kind 1 is read as one of wires
abbrev pub with_unit : ℕ → List Record → View → View
with_unit kind records v = with_records (eqb kind 1) records v

unfoldable pub read_units : ℕ → List ℕ → View
read_units zero bytes = empty_view
read_units (suc n) bytes = with_unit (field_at bytes 0) (records_of bytes) (read_units n (drop 512 bytes))

unfoldable pub unbytes : List ℕ → View
unbytes bytes = read_units (length bytes / 512) bytes
