-- The tables of a sketch as lists: the rows of a table, newest first, and what a row stands for.
use Rattle.std.specs.Prelude.{◌≡◌, Bool, true, false, cond, not, List, [], ◌∷◌, map, ℕ, zero, suc, eqb, leb, length, get_or, set, Option, Some, None}
use Rattle.port_tables.specs.declared.direction.Direction.{Direction}
use Rattle.port_tables.specs.declared.direction.Direction.TheVariants.{Incoming, Outgoing}
use Rattle.port_tables.specs.Places.{Place, Wire, at_spot, at_end, of_node, of_dropped, touches, end_on, far_from}
use Rattle.sketches.specs.Plan.{PlanBlock, spot_named}
use Rattle.sketches.specs.PlanLists.{is_own_output}
use Rattle.sketches.specs.declared.rows.Row.{Row}
use Rattle.sketches.specs.declared.tests.RowEnd.{RowEnd}
use Rattle.sketches.specs.declared.tests.EndTest.{EndTest}
use Rattle.sketches.specs.declared.tests.EndTest.TheVariants as ask
use Rattle.sketches.specs.declared.tests.Test.{Test}
use Rattle.sketches.specs.declared.tests.Test.TheVariants as test

-- the rows of a table
abbrev pub row_slots : ℕ
row_slots = 3072

-- a row of zeros
abbrev pub no_row : Row
no_row = record { 0 = 0; 1 = 0; 2 = 0; 3 = 0; 4 = 0; 5 = 0 }

abbrev pub row_at : List Row → ℕ → Row
row_at t i = get_or t i no_row

abbrev pub put_row : List Row → ℕ → Row → List Row
put_row t i r = set t i r

-- the first rows of a table, so many, the newest first
unfoldable pub rows_in : List Row → ℕ → List Row
rows_in t zero = []
rows_in t (suc i) = row_at t i ∷ rows_in t i

-- a table has room for its rows
abbrev pub Table : List Row → Type 0
Table t = length t ≡ 3072

-- of the rows from low up to high, newest first, one past the first for which a test holds; 0 for none
unfoldable pub newest_hit : (Row → Bool) → List Row → ℕ → ℕ → ℕ
newest_hit f t low zero = 0
newest_hit f t low (suc i) = cond (leb low i) (cond (f (row_at t i)) (suc i) (newest_hit f t low i)) 0

-- of so many rows from a place on, oldest first
unfoldable pub oldest_hit : (Row → Bool) → List Row → ℕ → ℕ → ℕ
oldest_hit f t i zero = 0
oldest_hit f t i (suc n) = cond (f (row_at t i)) (suc i) (oldest_hit f t (suc i) n)

-- What a row stands for.

abbrev pub block_of : Row → PlanBlock
block_of r = record { name = r.0; incoming = r.1; outgoing = r.2 }

abbrev pub side_of : ℕ → Direction
side_of n = cond (eqb n 0) Incoming Outgoing

-- a split port, with the number of its subports for an offset
abbrev pub split_of : Row → Place
split_of r = record { node = r.0; side = side_of r.1; pos = r.2; offset = r.3 }

abbrev pub wire_of : Row → Wire
wire_of r =
    record {
      out = record { node = r.0; side = Outgoing; pos = r.1; offset = r.2 };
      into = record { node = r.3; side = Incoming; pos = r.4; offset = r.5 };
    }

-- what a table's first rows stand for
abbrev pub blocks_in : List Row → ℕ → List PlanBlock
blocks_in t n = map block_of (rows_in t n)

abbrev pub splits_in : List Row → ℕ → List Place
splits_in t n = map split_of (rows_in t n)

abbrev pub wires_in : List Row → ℕ → List Wire
wires_in t n = map wire_of (rows_in t n)

-- Tests.

abbrev pub place_in : RowEnd → Place
place_in x = record { node = x.port.block; side = x.port.side; pos = x.port.position; offset = x.offset }

abbrev pub end_hits : EndTest → Place → Bool
end_hits (ask.OfBlock n) x = of_node n x
end_hits (ask.OfDropped n i o) x = of_dropped n i o x
end_hits (ask.AtPort p) x = at_spot (spot_named p) x
end_hits (ask.AtEnd p o) x = at_end (spot_named p) o x

abbrev pub hits : Test → Row → Bool
hits test.Every r = true
hits (test.Block n) r = eqb (block_of r).name n
hits (test.Split f) r = end_hits f (split_of r)
hits (test.Wire f) r = touches (end_hits f) (wire_of r)
hits (test.Side n d) r = eqb (end_on d (wire_of r)).node n
hits (test.Between n k) r = cond (eqb (wire_of r).out.node n) (eqb (wire_of r).into.node k) false
hits (test.Neighbour n d flag) r = cond (eqb (end_on d (wire_of r)).node n) (not (is_own_output n flag (far_from d (wire_of r)))) false

-- one past the place of a row that is found; 0 for none
abbrev pub past : Option ℕ → ℕ
past None = 0
past (Some i) = suc i

-- the first of some rows
abbrev pub first : List Row → Option Row
first [] = None
first (r ∷ l) = Some r

-- whether there is one
abbrev pub is_there_any : List Row → Bool
is_there_any [] = false
is_there_any (r ∷ l) = true

abbrev pub missed : Test → Row → Bool
missed x r = not (hits x r)
