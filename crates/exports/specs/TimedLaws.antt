-- What the numbers that the entries for times return say.
use Rattle.std.specs.Prelude.{◌≡◌, refl, Bool, true, false, cond, List, ◌++◌, ℕ, ◌≤◌, ◌<◌, leb, length, drop, Result, Ok, Err}
use Rattle.std.proofs.Common.{sym, ap, ◌∙◌, arith, leb-true, le-leb}
use Rattle.multiportgraph.specs.Listed.{list_after}
use Rattle.multiportgraph.specs.declared.multiportgraph.MultiPortGraph.{MultiPortGraph}
use Rattle.port_tables.specs.declared.release.Release.TheVariants.{One}
use Rattle.theorems.specs.History.{run}
use Rattle.records.specs.Words.{requests_of}
use Rattle.records.specs.Run.{calls_of}
use Rattle.timing.specs.Longest.{longest_of}
use Rattle.timing.specs.Path.{path_of, listed_by, path_listed, path_after}
use Rattle.timing.specs.declared.answers.LongestError.{LongestError}
use Rattle.timing.specs.declared.answers.LongestError.TheVariants.{Refused, BadTimes, Cycle}
use Rattle.exports.specs.Exports.{refused_with, graph_left, list_whole}
use Rattle.exports.specs.ExportLaws.{graph_of_history}
use Rattle.exports.specs.Timed.{longest_told, longest_return, path_told, path_return, path_written}

-- What is below every refusal is a sum, or a number of blocks that fit.

sum_told : (whole : Bool) (a : Result ℕ LongestError) (s : ℕ) → cond whole (longest_told a) (refused_with 1) ≡ s → s < 4294967296 → a ≡ Ok s
sum_told true (Ok t) s e h = ap Ok e
sum_told true (Err (Refused r)) s e h = absurd (omega arith)
sum_told true (Err BadTimes) s e h = absurd (omega arith)
sum_told true (Err Cycle) s e h = absurd (omega arith)
sum_told false a s e h = absurd (omega arith)

-- Of the path: there is a sum, the list is whole, and the blocks are so many and fit.
pub record PathTold (whole : Bool) (a : Result ℕ LongestError) (path list : List ℕ) (k : ℕ) : Type 0 where
  pub is_whole : whole ≡ true
  pub sum : ℕ
  pub found : a ≡ Ok sum
  pub counted : k ≡ length path
  pub fits : length path ≤ length list

path_found : (whole : Bool) (a : Result ℕ LongestError) (path list : List ℕ) (k : ℕ) → cond whole (path_told (listed_by a path) (length list)) (refused_with 1) ≡ k →
    k < 4294967296 → PathTold whole a path list k
path_found false a path list k e h = absurd (omega arith)
path_found true (Err (Refused r)) path list k e h = absurd (omega arith)
path_found true (Err BadTimes) path list k e h = absurd (omega arith)
path_found true (Err Cycle) path list k e h = absurd (omega arith)
path_found true (Ok s) path list k e h = go (leb (length path) (length list)) refl e
  where
    go : (b : Bool) → leb (length path) (length list) ≡ b → cond b (length path) (refused_with 15) ≡ k → PathTold true (Ok s) path list k
    go true t e = record { is_whole = refl; sum = s; found = refl; counted = sym e; fits = leb-true (length path) (length list) t }
    go false t e = absurd (omega arith)

-- the graph that the list leaves is the history's
pub in_history : (requests times : List ℕ) (n s : ℕ) → longest_of (graph_left requests) n times ≡ Ok s → longest_of (run One (calls_of (requests_of requests))).graph n times ≡ Ok s
in_history requests times n s e = ap (λ (m : MultiPortGraph). longest_of m n times) (sym (graph_of_history requests)) ∙ e

-- a sum that is returned is the answer of the graph that the history leaves
pub returned_sum : (requests times : List ℕ) (n s : ℕ) → longest_return requests times n ≡ s → s < 4294967296 → longest_of (run One (calls_of (requests_of requests))).graph n times ≡ Ok s
unfolding longest_return
returned_sum requests times n s e h = in_history requests times n s (sum_told (list_whole requests) (longest_of (graph_left requests) n times) s e h)

-- what a number below every refusal says of the path, and what is then written
pub returned : (requests times : List ℕ) (n : ℕ) (list : List ℕ) (k : ℕ) → path_return requests times n list ≡ k → k < 4294967296 →
    PathTold (list_whole requests) (longest_of (graph_left requests) n times) (path_of (graph_left requests) n times) list k
unfolding path_return path_listed
returned requests times n list k e h = path_found (list_whole requests) (longest_of (graph_left requests) n times) (path_of (graph_left requests) n times) list k e h

pub written : (requests times : List ℕ) (n : ℕ) (list : List ℕ) (k : ℕ) → PathTold (list_whole requests) (longest_of (graph_left requests) n times) (path_of (graph_left requests) n times) list k →
    path_written requests times n list ≡ path_of (graph_left requests) n times ++ drop (length (path_of (graph_left requests) n times)) list
unfolding path_written path_after list_after
written requests times n list k t = rw (t.is_whole, t.found, le-leb (length (path_of (graph_left requests) n times)) (length list) t.fits) refl
