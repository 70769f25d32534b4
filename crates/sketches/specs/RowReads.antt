-- What is found among the rows of a table is what the definitions read off the lists.
use Rattle.std.specs.Prelude.{◌≡◌, refl, Bool, true, false, cond, not, List, [], ◌∷◌, map, ℕ, eqb, Option, Some, None}
use Rattle.std.proofs.Common.{sym}
use Rattle.std.specs.List.{filter}
use denote.Enum.Bare.{sameb}
use mathlib.Core.Bool.{◌&&◌}
use Rattle.port_tables.specs.Entries.{same_side, new_count}
use Rattle.port_tables.specs.SameSides.{sides_compared}
use Rattle.port_tables.specs.contracts.direction.Direction.{the_type}
use Rattle.port_tables.specs.declared.direction.Direction.{Direction}
use Rattle.port_tables.specs.Places.{at_spot, at_end, touches, any_touches, without}
use Rattle.sketches.specs.Plan.{PlanBlock, has_block, ports_on_side, spot_named, subports_among}
use Rattle.port_tables.specs.Listing.{filter_map}
use Rattle.sketches.specs.Rows.{block_of, split_of, wire_of, place_in, end_hits, hits, missed, first, is_there_any}
use Rattle.sketches.specs.declared.rows.Row.{Row}
use Rattle.sketches.specs.declared.sketch.SketchPort.{SketchPort}
use Rattle.sketches.specs.declared.tests.RowEnd.{RowEnd}
use Rattle.sketches.specs.declared.tests.EndTest.{EndTest}
use Rattle.sketches.specs.declared.tests.EndTest.TheVariants as ask
use Rattle.sketches.specs.declared.tests.Test.TheVariants as test

-- Tests of ports and ends, as they are derived.

module _ (p : SketchPort) (x : RowEnd) where
  pub port_tested : (eqb x.port.block p.block && (sameb the_type x.port.side p.side && eqb x.port.position p.position)) ≡ at_spot (spot_named p) (place_in x)
  unfolding at_spot
  port_tested = rw (sides_compared x.port.side p.side refl) (go (eqb x.port.block p.block) (same_side x.port.side p.side))
    where
      go : (a b : Bool) → (a && (b && eqb x.port.position p.position)) ≡ cond a (cond b (eqb x.port.position p.position) false) false
      go true true = refl
      go true false = refl
      go false b = refl

  pub end_tested : (o : ℕ) → ((eqb x.port.block p.block && (sameb the_type x.port.side p.side && eqb x.port.position p.position)) && eqb x.offset o) ≡ at_end (spot_named p) o (place_in x)
  unfolding at_end
  end_tested o = rw port_tested (go (at_spot (spot_named p) (place_in x)))
    where
      go : (a : Bool) → (a && eqb x.offset o) ≡ cond a (eqb x.offset o) false
      go true = refl
      go false = refl

pub block_found_lem : (n : ℕ) (l : List Row) → is_there_any (filter (hits (test.Block n)) l) ≡ has_block (map block_of l) n
unfolding has_block
block_found_lem n [] = refl
block_found_lem n (r ∷ l) = go (eqb r.0 n) (block_found_lem n l)
  where
    go : (b : Bool) → is_there_any (filter (hits (test.Block n)) l) ≡ has_block (map block_of l) n →
        is_there_any (cond b (r ∷ filter (hits (test.Block n)) l) (filter (hits (test.Block n)) l)) ≡ cond b true (has_block (map block_of l) n)
    go true e = refl
    go false e = e

-- What is read of the first row; 0 where there is none.

abbrev pub count_on : Direction → Row → ℕ
count_on d r = new_count r.1 r.2 d

-- what is read of the first row, if there is one
abbrev pub ports_first : Direction → Option Row → ℕ
ports_first d None = 0
ports_first d (Some r) = count_on d r

pub ports_read : (n : ℕ) (d : Direction) (l : List Row) → ports_on_side (map block_of l) n d ≡ ports_first d (first (filter (hits (test.Block n)) l))
unfolding ports_on_side
ports_read n d [] = refl
ports_read n d (r ∷ l) = go (eqb r.0 n) (ports_read n d l)
  where
    go : (b : Bool) → ports_on_side (map block_of l) n d ≡ ports_first d (first (filter (hits (test.Block n)) l)) →
        cond b (count_on d r) (ports_on_side (map block_of l) n d) ≡ ports_first d (first (cond b (r ∷ filter (hits (test.Block n)) l) (filter (hits (test.Block n)) l)))
    go true e = refl
    go false e = e

abbrev pub subports_first : Option Row → ℕ
subports_first None = 0
subports_first (Some r) = r.3

pub subports_read : (p : SketchPort) (l : List Row) → subports_among (map split_of l) (spot_named p) ≡ subports_first (first (filter (hits (test.Split (ask.AtPort p))) l))
unfolding subports_among
subports_read p [] = refl
subports_read p (r ∷ l) = go (at_spot (spot_named p) (split_of r)) (subports_read p l)
  where
    go : (b : Bool) → subports_among (map split_of l) (spot_named p) ≡ subports_first (first (filter (hits (test.Split (ask.AtPort p))) l)) →
        cond b r.3 (subports_among (map split_of l) (spot_named p)) ≡ subports_first (first (cond b (r ∷ filter (hits (test.Split (ask.AtPort p))) l) (filter (hits (test.Split (ask.AtPort p))) l)))
    go true e = refl
    go false e = e

pub wire_found : (f : EndTest) (l : List Row) → is_there_any (filter (hits (test.Wire f)) l) ≡ any_touches (end_hits f) (map wire_of l)
unfolding any_touches
wire_found f [] = refl
wire_found f (r ∷ l) = go (touches (end_hits f) (wire_of r)) refl (wire_found f l)
  where
    go : (b : Bool) → touches (end_hits f) (wire_of r) ≡ b → is_there_any (filter (hits (test.Wire f)) l) ≡ any_touches (end_hits f) (map wire_of l) →
        is_there_any (cond (touches (end_hits f) (wire_of r)) (r ∷ filter (hits (test.Wire f)) l) (filter (hits (test.Wire f)) l)) ≡ any_touches (end_hits f) (map wire_of (r ∷ l))
    go true p e = rw p
    go false p e = rw p e

-- rows that are kept or dropped by a test of what they stand for
pub wires_left : (f : EndTest) (l : List Row) → map wire_of (filter (missed (test.Wire f)) l) ≡ without (end_hits f) (map wire_of l)
wires_left f l = sym (filter_map wire_of (λ w. not (touches (end_hits f) w)) l)

pub splits_left : (f : EndTest) (l : List Row) → map split_of (filter (missed (test.Split f)) l) ≡ filter (λ s. not (end_hits f s)) (map split_of l)
splits_left f l = sym (filter_map split_of (λ s. not (end_hits f s)) l)

pub blocks_left_lem : (n : ℕ) (l : List Row) → map block_of (filter (missed (test.Block n)) l) ≡ filter (λ (b : PlanBlock). not (eqb b.name n)) (map block_of l)
blocks_left_lem n l = sym (filter_map block_of (λ (b : PlanBlock). not (eqb b.name n)) l)
