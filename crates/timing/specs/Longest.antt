-- The time from receiver to valve: which block feeds which, the largest sum of times along wires that end at a block, and refusals 4, 5,
-- 19 and 20. A cycle is found by its long walks: along as many wires as there are node slots, a walk passes some block twice.
use Rattle.std.specs.Prelude.{Bool, true, false, cond, ◌||◌, List, [], ◌∷◌, map, ℕ, zero, suc, ◌+◌, max, eqb, length, get_or, Result, Ok, Err}
use Rattle.port_tables.specs.Limits.{node_slots}
use Rattle.port_tables.specs.Places.{Wire}
use Rattle.multi_tables.specs.EndAnswers.{refusal_numbers}
use Rattle.multiportgraph.specs.Wires.{wires_walked}
use Rattle.multiportgraph.specs.Walks.{Start, started, refused, start_at_node}
use Rattle.multiportgraph.specs.declared.multiportgraph.MultiPortGraph.{MultiPortGraph}
use Rattle.timing.specs.declared.answers.LongestError.{LongestError}
use Rattle.timing.specs.declared.answers.LongestError.TheVariants.{Refused, BadTimes, Cycle}

-- Which block feeds which.

-- a wire by its blocks alone
pub record Feed : Type 0 where
  pub source : ℕ
  pub target : ℕ

abbrev pub feed_of : Wire → Feed
feed_of w = record { source = w.out.node; target = w.into.node }

unfoldable pub feeds_in : MultiPortGraph → List Feed
feeds_in m = map feed_of (wires_walked m)

-- the blocks that feed one, a block as often as it has wires there
unfoldable pub feeders : List Feed → ℕ → List ℕ
feeders [] n = []
feeders (f ∷ l) n = cond (eqb f.target n) (f.source ∷ feeders l n) (feeders l n)

-- Walks that come to a block.

unfoldable pub any_of : (ℕ → Bool) → List ℕ → Bool
any_of test [] = false
any_of test (p ∷ l) = test p || any_of test l

unfoldable pub largest_of : (ℕ → ℕ) → List ℕ → ℕ
largest_of value [] = 0
largest_of value (p ∷ l) = max (value p) (largest_of value l)

-- some walk along so many wires comes to the block
unfoldable pub comes : List Feed → ℕ → ℕ → Bool
comes feeds zero n = true
comes feeds (suc wires) n = any_of (comes feeds wires) (feeders feeds n)

-- the largest sum of times along walks of at most so many wires that come to the block, its own time included
unfoldable pub largest_sum : List Feed → (ℕ → ℕ) → ℕ → ℕ → ℕ
largest_sum feeds time zero n = time n
largest_sum feeds time (suc wires) n = time n + largest_of (largest_sum feeds time wires) (feeders feeds n)

-- The answer.

-- the time of a node slot
abbrev pub time_in : List ℕ → ℕ → ℕ
time_in times n = get_or times n 0

-- 20
unfoldable pub longest_among : List Feed → List ℕ → ℕ → Result ℕ LongestError
longest_among feeds times n = cond (comes feeds node_slots n) (Err Cycle) (Ok (largest_sum feeds (time_in times) node_slots n))

-- 19
unfoldable pub longest_timed : List Feed → List ℕ → ℕ → Result ℕ LongestError
longest_timed feeds times n = cond (eqb (length times) node_slots) (longest_among feeds times n) (Err BadTimes)

-- 4 and 5
abbrev pub longest_from : Start → Result ℕ LongestError → Result ℕ LongestError
longest_from started answer = answer
longest_from (refused r) answer = Err (Refused r)

unfoldable pub longest_of : MultiPortGraph → ℕ → List ℕ → Result ℕ LongestError
longest_of m n times = longest_from (start_at_node m n) (longest_timed (feeds_in m) times n)

-- The numbers of an answer; 19 and 20 carry nothing.
abbrev pub longest_numbers : Result ℕ LongestError → List ℕ
longest_numbers (Ok s) = 0 ∷ s ∷ []
longest_numbers (Err (Refused r)) = refusal_numbers r
longest_numbers (Err BadTimes) = 19 ∷ []
longest_numbers (Err Cycle) = 20 ∷ []
