-- What is proved of times along wires, in plain order: statements with a sentence each, over every list of calls from the empty graph of
-- either release. The words stand in TimingClaims: walks are lists of blocks along the wires of the wire book, so no listing has to be
-- believed. The proofs stand in TimingHistory.
use Rattle.std.specs.Prelude.{◌≡◌, true, List, ◌↔◌, ℕ, ◌+◌, ◌≤◌, length, set, Ok, Err}
use Rattle.port_tables.specs.Limits.{node_slots}
use Rattle.portgraph.specs.Model.{Model}
use Rattle.multiportgraph.specs.WellFormed.{Fine}
use Rattle.multi_tables.specs.declared.answers.Refusal.{Refusal}
use Rattle.port_tables.specs.declared.release.Release.{Release}
use Rattle.theorems.specs.Book.{Call}
use Rattle.theorems.specs.History.{run}
use Rattle.theorems.specs.ListingClaims.{InBook}
use Rattle.timing.specs.Longest.{time_in, longest_of}
use Rattle.timing.specs.RunOrder.{run_order}
use Rattle.timing.specs.Path.{path_of}
use Rattle.timing.specs.TimingClaims.{Feeds, WalkTo, CycleReaches, sum_along, RightOrder}
use Rattle.timing.specs.TimingHistory as proofs
use Rattle.timing.specs.declared.answers.LongestError.TheVariants.{Refused, BadTimes, Cycle}
use Rattle.theorems.specs.Conditions.{NodeRefused}

-- The largest sum.

-- It is the sum of some walk along the book's wires that ends at the block, and no such walk has a larger one.
pub longest_is_largest : (release : Release) (calls : List Call) (n : ℕ) (times : List ℕ) (s : ℕ) → longest_of (run release calls).graph n times ≡ Ok s →
    ((l : List ℕ) × WalkTo (run release calls).book.wires n l × (sum_along (time_in times) l ≡ s))
    × ((l : List ℕ) → WalkTo (run release calls).book.wires n l → sum_along (time_in times) l ≤ s)
longest_is_largest = proofs.longest_is_largest

-- One block's time raised or lowered by some amount: there is still a sum, and it has moved by no more than that amount.
pub longest_moves_by_at_most : (release : Release) (calls : List Call) (n : ℕ) (times : List ℕ) (b time by s : ℕ) → time ≤ time_in times b + by → time_in times b ≤ time + by →
    longest_of (run release calls).graph n times ≡ Ok s → (r : ℕ) × (longest_of (run release calls).graph n (set times b time) ≡ Ok r) × (r ≤ s + by) × (s ≤ r + by)
longest_moves_by_at_most = proofs.longest_moves_by_at_most

-- A path that has it: a walk along the book's wires that ends at the block, with this sum, of at most as many blocks as there are slots.
pub path_is_longest : (release : Release) (calls : List Call) (n : ℕ) (times : List ℕ) (s : ℕ) → longest_of (run release calls).graph n times ≡ Ok s →
    WalkTo (run release calls).book.wires n (path_of (run release calls).graph n times) × (sum_along (time_in times) (path_of (run release calls).graph n times) ≡ s)
    × (length (path_of (run release calls).graph n times) ≤ node_slots)
path_is_longest = proofs.path_is_longest

-- The refusals.

-- 4 and 5 as for a removal: not live, hidden; they come first.
pub longest_refused_exactly : (release : Release) (calls : List Call) (n : ℕ) (times : List ℕ) (r : Refusal) (M : Model) → Fine (run release calls).graph M →
    (longest_of (run release calls).graph n times ≡ Err (Refused r)) ↔ NodeRefused (run release calls).graph M n r
longest_refused_exactly = proofs.longest_refused_exactly

-- 19, of a block: exactly if the list does not have one time for each slot, whatever cycles there are.
pub bad_times_exactly : (release : Release) (calls : List Call) (n : ℕ) (times : List ℕ) → InBook (run release calls).book n →
    (longest_of (run release calls).graph n times ≡ Err BadTimes) ↔ (length times ≡ node_slots → ⊥)
bad_times_exactly = proofs.bad_times_exactly

-- 20, of a block and such a list: exactly if a walk of at least one wire from some block to itself can be continued to the block named.
pub cycle_exactly : (release : Release) (calls : List Call) (n : ℕ) (times : List ℕ) → InBook (run release calls).book n → length times ≡ node_slots →
    (longest_of (run release calls).graph n times ≡ Err Cycle) ↔ CycleReaches (Feeds (run release calls).book.wires) n
cycle_exactly = proofs.cycle_exactly

-- Run orders.

-- Yes exactly if the order names each block of the book once and nothing else, and every wire of the book goes from an earlier to a later one.
pub run_order_exactly : (release : Release) (calls : List Call) (order : List ℕ) →
    (run_order (run release calls).graph order ≡ true) ↔ RightOrder (InBook (run release calls).book) (Feeds (run release calls).book.wires) order
run_order_exactly = proofs.run_order_exactly

-- Some order gets yes exactly if no block gives 20, with any list of times that has one for each slot.
pub some_order_exactly : (release : Release) (calls : List Call) (times : List ℕ) → length times ≡ node_slots →
    ((order : List ℕ) × (run_order (run release calls).graph order ≡ true)) ↔ ((n : ℕ) → InBook (run release calls).book n → longest_of (run release calls).graph n times ≡ Err Cycle → ⊥)
some_order_exactly = proofs.some_order_exactly
