-- The forms in which the code of a load holds what Loading says: what a unit says by itself, before one of a kind; records by their
-- number, at byte positions; wires one after the other, by their numbers; and what building leaves.
use Rattle.std.specs.Prelude.{◌≡◌, Bool, true, false, cond, ◌&&◌, List, [], ◌∷◌, ℕ, ◌+◌, ◌*◌, ◌/◌, ◌%◌, ◌≤◌, ◌<◌, eqb, leb, length, get_or, Ok, Err}
use Rattle.port_tables.specs.Limits.{node_slots}
use Rattle.multiportgraph.specs.WellFormed.{MultiWf}
use Rattle.multiportgraph.specs.declared.multiportgraph.MultiPortGraph.{MultiPortGraph}
use Rattle.theorems.specs.Book.{Call}
use Rattle.theorems.specs.History.{step}
use Rattle.files.specs.View.{BlockPorts, RankWire}
use Rattle.files.specs.Layout.{Record, field_at, block_of, wire_of, unit_records, units_for, unbytes}
use Rattle.files.specs.Loading.{kind_of, count_of, unit_list, zeros_right, units_right, ranks_right, block_at, positions_right, view_right, is_whole, is_laid, first_port, after_call, first_refusal}
use Rattle.files.specs.Forms.{wire_number}
use Rattle.files.specs.declared.load.LoadError.{LoadError}

-- Units.

-- the kind of the first of some units; 0 for none
abbrev pub next_kind : List (List ℕ) → ℕ
next_kind [] = 0
next_kind (u ∷ l) = kind_of u

-- a kind, before a unit of another
abbrev pub kind_fits : ℕ → ℕ → Bool
kind_fits kind next = cond (eqb kind 1) true (cond (eqb next 1) false (eqb kind 2))

abbrev pub count_fits : ℕ → ℕ → ℕ → Bool
count_fits kind next count = cond (eqb count 0) false (cond (eqb next kind) (eqb count unit_records) (leb count unit_records))

unfoldable pub unit_fits : List ℕ → ℕ → Bool
unit_fits unit next = kind_fits (kind_of unit) next && (count_fits (kind_of unit) next (count_of unit) && zeros_right unit)

-- all units, each before the next
unfoldable pub units_fit : List (List ℕ) → Bool
units_fit [] = true
units_fit (u ∷ l) = unit_fits u (next_kind l) && units_fit l

-- the units are right by themselves, and have so many blocks and wires
pub record ShapeIs (bytes : List ℕ) (blocks wires : ℕ) : Type 0 where
  pub units : units_right (unit_list bytes) ≡ true
  pub blocks_many : blocks ≡ length (unbytes bytes).blocks
  pub wires_many : wires ≡ length (unbytes bytes).wires

-- Records by their number.

-- the byte position of a record, among those of the units from one on
abbrev pub place_of : ℕ → ℕ → ℕ
place_of unit i = 512 * (unit + i / 63) + 4 + 8 * (i % 63)

-- the record at a byte position
abbrev pub record_in : List ℕ → ℕ → Record
record_in bytes at = record { a = field_at bytes at; b = field_at bytes (at + 2); c = field_at bytes (at + 4); d = field_at bytes (at + 6) }

abbrev pub no_wire : RankWire
no_wire = record { source = 0; output = 0; target = 0; input = 0 }

-- so many blocks, each read where it stands
pub record BlocksRead (bytes : List ℕ) (n : ℕ) : Type 0 where
  pub many : length (unbytes bytes).blocks ≡ n
  pub each : (i : ℕ) → i < n → block_at (unbytes bytes).blocks i ≡ block_of (record_in bytes (place_of 0 i))
  pub there : (i : ℕ) → i < n → place_of 0 i + 8 ≤ length bytes

-- so many wires, from a unit on
pub record WiresRead (bytes : List ℕ) (unit n : ℕ) : Type 0 where
  pub many : length (unbytes bytes).wires ≡ n
  pub each : (i : ℕ) → i < n → get_or (unbytes bytes).wires i no_wire ≡ wire_of (record_in bytes (place_of unit i))
  pub there : (i : ℕ) → i < n → place_of unit i + 8 ≤ length bytes

-- Wires.

-- a wire goes from an output of a block to an input of one
unfoldable pub wire_fits : List BlockPorts → RankWire → Bool
wire_fits blocks w = ranks_right blocks w && positions_right blocks w

-- wires one after the other, the first not before one of a number
unfoldable pub wires_fit : List BlockPorts → ℕ → List RankWire → Bool
wires_fit blocks n [] = true
wires_fit blocks n (w ∷ l) = leb n (wire_number w) && (wire_fits blocks w && wires_fit blocks (wire_number w) l)

-- laid as the writer lays a file, with right sums and so many blocks and wires, each read where it stands
pub record Laid (bytes : List ℕ) (blocks wires : ℕ) : Type 0 where
  pub whole : is_whole bytes ≡ true
  pub answer : is_laid bytes ≡ true
  pub blocks_are : BlocksRead bytes blocks
  pub wires_are : WiresRead bytes (units_for blocks) wires
  pub sound : view_right (unbytes bytes) ≡ true

-- Building.

-- the graph after calls
unfoldable pub graph_after : MultiPortGraph → List Call → MultiPortGraph
graph_after m [] = m
graph_after m (c ∷ l) = graph_after (step m c).graph l

-- one call that is accepted, and one that is refused, as a load tells it
pub record StepIs (m : MultiPortGraph) (c : Call) (m' : MultiPortGraph) : Type 0 where
  pub graph : m' ≡ (step m c).graph
  pub told : after_call c (step m c).answer (Ok tt) ≡ Ok tt
  pub kept : MultiWf m'

abbrev pub StepStops : MultiPortGraph → Call → LoadError → Type 0
StepStops m c e = after_call c (step m c).answer (Ok tt) ≡ Err e

-- calls that are all accepted
pub record Built (m : MultiPortGraph) (calls : List Call) (m' : MultiPortGraph) : Type 0 where
  pub told : first_refusal m calls ≡ Ok tt
  pub graph : m' ≡ graph_after m calls
  pub kept : MultiWf m'

-- a table of the first ports of blocks
pub record Firsts (table bytes : List ℕ) (blocks : ℕ) : Type 0 where
  pub each : (r : ℕ) → r < blocks → get_or table r 0 ≡ first_port (unbytes bytes).blocks r
  pub small : (r : ℕ) → r < blocks → get_or table r 0 ≤ 131070 * r

-- a wire whose ports can be told
pub record Linkable (table bytes : List ℕ) (blocks : ℕ) (r : Record) : Type 0 where
  pub firsts : Firsts table bytes blocks
  pub read : BlocksRead bytes blocks
  pub few : blocks ≤ node_slots
  pub source : r.a < blocks
  pub target : r.c < blocks
