-- How the code finds the largest sums, in one pass over the wires: a block is settled once every wire into it comes from a settled block.
-- What the passes come to is what Longest says (SettleLaws); nobody has to believe them.
use Rattle.std.specs.Prelude.{cond, List, [], ◌∷◌, ◌++◌, map, ℕ, zero, suc, ◌+◌, ◌-◌, ◌*◌, ◌/◌, ◌≤◌, eqb, leb, ltb, length, get_or, set, take, drop, replicate, Result, Ok, Err}
use Rattle.port_tables.specs.Limits.{node_slots}
use Rattle.port_tables.specs.Lists.{range}
use Rattle.timing.specs.Longest.{Feed, time_in}
use Rattle.timing.specs.declared.answers.LongestError.{LongestError}
use Rattle.timing.specs.declared.answers.LongestError.TheVariants.{Cycle}

-- Which block feeds which, read off a listing of wires with eight numbers each.

abbrev pub feed_at : List ℕ → ℕ → Feed
feed_at ends i = record { source = get_or ends (8 * i + 2) 0; target = get_or ends (8 * i + 6) 0 }

unfoldable pub feeds_listed : List ℕ → List Feed
feeds_listed ends = map (feed_at ends) (range 0 (length ends / 8))

-- Tables with an entry for each node slot, and the blocks settled so far in their order.
pub record Tables : Type 0 where
  -- how many wires into a block come from blocks that are not done
  pub waits : List ℕ
  -- the largest sum that comes to a block from those that are
  pub best : List ℕ
  -- the block that it comes from, one higher; 0 for none
  pub origin : List ℕ
  pub order : List ℕ

-- the same with the settled blocks in a table, so many of them
abbrev pub tables_of : List ℕ → List ℕ → List ℕ → List ℕ → ℕ → Tables
tables_of waits best origin queue tail = record { waits = waits; best = best; origin = origin; order = take tail queue }

unfoldable pub zeros : List ℕ
zeros = replicate node_slots 0

unfoldable pub unsettled : Tables
unsettled = record { waits = zeros; best = zeros; origin = zeros; order = [] }

-- the wires into each block are counted,
unfoldable pub waits_of : List Feed → List ℕ → List ℕ
waits_of [] waits = waits
waits_of (f ∷ l) waits = waits_of l (set waits f.target (get_or waits f.target 0 + 1))

-- and the first wire out of each is found: the last one first, so that the first one stays
unfoldable pub firsts_of : List Feed → ℕ → List ℕ → List ℕ
firsts_of [] i firsts = firsts
firsts_of (f ∷ l) i firsts = set (firsts_of l (suc i) firsts) f.source i

-- a block is settled, if there is room
unfoldable pub pushed : List ℕ → ℕ → List ℕ
pushed order n = cond (ltb (length order) node_slots) (order ++ (n ∷ [])) order

abbrev pub with_order : Tables → List ℕ → Tables
with_order t order = record { waits = t.waits; best = t.best; origin = t.origin; order = order }

-- blocks into which no wire goes are settled first
unfoldable pub push_ready : List ℕ → List ℕ → List ℕ → List ℕ
push_ready waits [] order = order
push_ready waits (n ∷ l) order = push_ready waits l (cond (eqb (get_or waits n 0) 0) (pushed order n) order)

unfoldable pub start_tables : List Feed → Tables
start_tables feeds =
    record {
      waits = waits_of feeds zeros;
      best = zeros;
      origin = zeros;
      order = push_ready (waits_of feeds zeros) (range 0 node_slots) [];
    }

-- block c holds the larger sum, v from block b or the one before
unfoldable pub raised : ℕ → ℕ → ℕ → Tables → Tables
raised b v c t =
    record {
      waits = t.waits;
      best = cond (leb (get_or t.best c 0) v) (set t.best c v) t.best;
      origin = cond (leb (get_or t.best c 0) v) (set t.origin c (b + 1)) t.origin;
      order = t.order;
    }

-- a wire into block c is done, from block b to which the sum v comes
unfoldable pub wire_done : ℕ → ℕ → ℕ → Tables → Tables
wire_done b v c t =
    record {
      waits = set t.waits c (get_or t.waits c 0 - 1);
      best = cond (leb (get_or t.best c 0) v) (set t.best c v) t.best;
      origin = cond (leb (get_or t.best c 0) v) (set t.origin c (b + 1)) t.origin;
      order = cond (eqb (get_or t.waits c 0 - 1) 0) (pushed t.order c) t.order;
    }

-- the wires of block b that stand in a row
unfoldable pub run_done : ℕ → ℕ → List Feed → Tables → Tables
run_done b v [] t = t
run_done b v (f ∷ l) t = cond (eqb f.source b) (run_done b v l (wire_done b v f.target t)) t

-- a block is done, if its number is one of a slot
unfoldable pub block_done : List Feed → List ℕ → List ℕ → ℕ → Tables → Tables
block_done feeds firsts times b t = cond (ltb b node_slots) (run_done b (get_or t.best b 0 + time_in times b) (drop (get_or firsts b 0) feeds) t) t

-- settled blocks one after the other, from the one at a place on
unfoldable pub settle : List Feed → List ℕ → List ℕ → ℕ → ℕ → Tables → Tables
settle feeds firsts times zero head t = t
settle feeds firsts times (suc fuel) head t =
    cond (ltb head (length t.order)) (settle feeds firsts times fuel (suc head) (block_done feeds firsts times (get_or t.order head 0) t)) t

unfoldable pub settled : List Feed → List ℕ → Tables
settled feeds times = settle feeds (firsts_of feeds 0 zeros) times node_slots 0 (start_tables feeds)

-- what the tables say of a block
unfoldable pub sum_at : Tables → List ℕ → ℕ → Result ℕ LongestError
sum_at t times n = cond (eqb (get_or t.waits n 0) 0) (Ok (get_or t.best n 0 + time_in times n)) (Err Cycle)

-- every sum is that of so many times at the most
abbrev pub Bounded : List ℕ → ℕ → Type 0
Bounded best count = (n : ℕ) → get_or best n 0 ≤ 65535 * count

-- A path, from its first block on, by the blocks that the largest sums come from.

unfoldable pub path_back : List ℕ → ℕ → ℕ → List ℕ → List ℕ
path_back origin zero n path = n ∷ path
path_back origin (suc fuel) n path = cond (eqb (get_or origin n 0) 0) (n ∷ path) (path_back origin fuel (get_or origin n 0 - 1) (n ∷ path))

unfoldable pub path_among : List Feed → List ℕ → ℕ → List ℕ
path_among feeds times n = path_back (settled feeds times).origin (node_slots - 1) n []
