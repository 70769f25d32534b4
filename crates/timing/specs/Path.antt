-- A path that has the largest sum, as the code finds it: of several there may be it gives one. That it is one is `path_is_longest` of
-- TimingTheorems.
use Rattle.std.specs.Prelude.{List, ℕ, length, Result, Ok, Err}
use Rattle.multiportgraph.specs.Listed.{list_after}
use Rattle.multiportgraph.specs.declared.multiportgraph.MultiPortGraph.{MultiPortGraph}
use Rattle.timing.specs.Longest.{feeds_in, longest_of}
use Rattle.timing.specs.Settling.{path_among}
use Rattle.timing.specs.declared.answers.LongestError.{LongestError}
use Rattle.timing.specs.declared.answers.PathListed.{PathListed}

-- from its first block to the block named
unfoldable pub path_of : MultiPortGraph → ℕ → List ℕ → List ℕ
path_of m n times = path_among (feeds_in m) times n

abbrev pub if_longest : {A : Type 0} → Result ℕ LongestError → A → A → A
if_longest (Ok s) found other = found
if_longest (Err e) found other = other

-- the sum, and how many blocks the path has
abbrev pub listed_by : Result ℕ LongestError → List ℕ → Result PathListed LongestError
listed_by (Ok s) path = Ok (record { sum = s; blocks = length path })
listed_by (Err e) path = Err e

-- the sum alone
abbrev pub sum_of : Result PathListed LongestError → Result ℕ LongestError
sum_of (Ok p) = Ok p.sum
sum_of (Err e) = Err e

unfoldable pub path_listed : MultiPortGraph → ℕ → List ℕ → Result PathListed LongestError
path_listed m n times = listed_by (longest_of m n times) (path_of m n times)

-- the lent list as it comes back: the path at its start, if there is one and it has room
unfoldable pub path_after : MultiPortGraph → ℕ → List ℕ → List ℕ → List ℕ
path_after m n times list = if_longest (longest_of m n times) (list_after (path_of m n times) list) list
