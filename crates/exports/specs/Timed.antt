-- Times along the wires of the graph that a list of requests leaves: what the two entries return, and what the lent list holds afterwards. They are of release 1, as
-- record runs are. A list of times has one for each node slot.
use Rattle.std.specs.Prelude.{cond, List, ℕ, leb, length, get_or, Result, Ok, Err}
use Rattle.timing.specs.Longest.{longest_of, longest_numbers}
use Rattle.timing.specs.Path.{path_listed, path_after}
use Rattle.timing.specs.declared.answers.LongestError.{LongestError}
use Rattle.timing.specs.declared.answers.LongestError.TheVariants.{Refused, BadTimes, Cycle}
use Rattle.timing.specs.declared.answers.PathListed.{PathListed}
use Rattle.exports.specs.Exports.{refused_with, graph_left, list_whole}

-- the sum, or the number of what the question comes to: 4, 5, 19 or 20
abbrev pub longest_told : Result ℕ LongestError → ℕ
longest_told (Ok s) = s
longest_told (Err (Refused r)) = refused_with (get_or (longest_numbers (Err (Refused r))) 0 0)
longest_told (Err BadTimes) = refused_with (get_or (longest_numbers (Err BadTimes)) 0 0)
longest_told (Err Cycle) = refused_with (get_or (longest_numbers (Err Cycle)) 0 0)

-- what the entry for the sum returns; 1 before all others
unfoldable pub longest_return : List ℕ → List ℕ → ℕ → ℕ
longest_return requests times n = cond (list_whole requests) (longest_told (longest_of (graph_left requests) n times)) (refused_with 1)

-- the number of blocks, or 15 if there is no room for so many; where there is no sum, as above
abbrev pub path_told : Result PathListed LongestError → ℕ → ℕ
path_told (Ok p) room = cond (leb p.blocks room) p.blocks (refused_with 15)
path_told (Err e) room = longest_told (Err e)

-- what the entry for the path returns; 1 before all others
unfoldable pub path_return : List ℕ → List ℕ → ℕ → List ℕ → ℕ
path_return requests times n list = cond (list_whole requests) (path_told (path_listed (graph_left requests) n times) (length list)) (refused_with 1)

-- the lent list afterwards: the path, and past it what it held; as it was if it is too short or the question refused
unfoldable pub path_written : List ℕ → List ℕ → ℕ → List ℕ → List ℕ
path_written requests times n list = cond (list_whole requests) (path_after (graph_left requests) n times list) list
