-- What is proved of the entries for times, over every list of requests, every list of times and every number: statements with a sentence each. The words are those of
-- TimingClaims, over Timed and the wire book.
use Rattle.std.specs.Prelude.{◌≡◌, List, ℕ, ◌≤◌, ◌<◌, length, take, drop}
use Rattle.std.proofs.Common.{sym, ap, ◌∙◌, subst, take_at, drop_at}
use Rattle.multiportgraph.specs.declared.multiportgraph.MultiPortGraph.{MultiPortGraph}
use Rattle.port_tables.specs.declared.release.Release.TheVariants.{One}
use Rattle.records.specs.Words.{requests_of}
use Rattle.records.specs.Run.{calls_of}
use Rattle.timing.specs.Longest.{time_in}
use Rattle.timing.specs.Path.{path_of}
use Rattle.timing.specs.TimingClaims.{WalkTo, sum_along}
use Rattle.timing.specs.TimingTheorems.{longest_is_largest, path_is_longest}
use Rattle.exports.specs.Exports.{graph_left}
use Rattle.exports.specs.ExportLaws.{graph_of_history}
use Rattle.exports.specs.Timed.{longest_return, path_return, path_written}
use Rattle.exports.specs.TimedLaws as laws
use Rattle.exports.specs.ViewedTheorems.{state_left}

-- A number below 4,294,967,296 is the sum of some walk along the wires of the history's book that ends at the block, and no such walk has a larger one.
pub longest_returned_is_largest : (requests times : List ℕ) (n s : ℕ) → longest_return requests times n ≡ s → s < 4294967296 →
    ((l : List ℕ) × WalkTo (state_left requests).book.wires n l × (sum_along (time_in times) l ≡ s))
    × ((l : List ℕ) → WalkTo (state_left requests).book.wires n l → sum_along (time_in times) l ≤ s)
longest_returned_is_largest requests times n s e h = longest_is_largest One (calls_of (requests_of requests)) n times s (laws.returned_sum requests times n s e h)

-- A number below 4,294,967,296 is that of the blocks at the start of the list afterwards: they are a walk along the book's wires that ends at the block, no such walk has
-- a larger sum, and what stands after them stays.
pub path_returned_is_longest : (requests times : List ℕ) (n : ℕ) (list : List ℕ) (k : ℕ) → path_return requests times n list ≡ k → k < 4294967296 →
    WalkTo (state_left requests).book.wires n (take k (path_written requests times n list))
    × ((l : List ℕ) → WalkTo (state_left requests).book.wires n l → sum_along (time_in times) l ≤ sum_along (time_in times) (take k (path_written requests times n list)))
    × (drop k (path_written requests times n list) ≡ drop k list)
path_returned_is_longest requests times n list k e h =
    let path = path_of (graph_left requests) n times in
    let t = laws.returned requests times n list k e h in
    let calls = calls_of (requests_of requests) in
    let f = laws.in_history requests times n t.sum t.found in
    let p = path_is_longest One calls n times t.sum f in
    let most = (longest_is_largest One calls n times t.sum f).1 in
    let w = laws.written requests times n list k t in
    let taken = ap (take k) w ∙ (take_at path (drop (length path) list) k (sym t.counted) ∙ ap (λ (m : MultiPortGraph). path_of m n times) (graph_of_history requests)) in
    let rest = ap (drop k) w ∙ (drop_at path (drop (length path) list) k (sym t.counted) ∙ ap (λ (j : ℕ). drop j list) (sym t.counted)) in (
      subst (WalkTo (state_left requests).book.wires n) (sym taken) p.0,
      λ l walk. subst (λ (j : ℕ). sum_along (time_in times) l ≤ j) (sym p.1 ∙ ap (sum_along (time_in times)) (sym taken)) (most l walk),
      rest,
    )
