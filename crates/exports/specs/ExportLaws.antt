-- What the entries over files write is the file of a history, so that every theorem about files speaks of it.
use Rattle.std.specs.Prelude.{◌≡◌, refl, List, ◌++◌, ℕ, ◌%◌, ◌≤◌, ◌<◌, length, drop}
use Rattle.std.proofs.Common.{ap, arith, eq-eqb, le-leb}
use Rattle.std.proofs.lemmas.Bool.{lt-leb}
use Rattle.multiportgraph.specs.Listed.{list_after}
use Rattle.port_tables.specs.declared.release.Release.TheVariants.{One}
use Rattle.theorems.specs.History.{run}
use Rattle.records.specs.Words.{requests_of}
use Rattle.records.specs.Run.{calls_of}
use Rattle.records.specs.RunLaws.{run_is_history}
use Rattle.files.specs.Saving.{file_of, save_answer, save_buffer}
use Rattle.files.specs.FileTheorems.{file_is_short, longest_file_lem}
use Rattle.exports.specs.Exports.{graph_left, list_whole, refused_with, save_return, save_written}

-- the graph that a list of requests leaves is that of the history of its calls
pub graph_of_history : (requests : List ℕ) → graph_left requests ≡ (run One (calls_of (requests_of requests))).graph
graph_of_history requests = run_is_history (requests_of requests)

-- the file of that history
abbrev pub file_left : List ℕ → List ℕ
file_left requests = file_of (run One (calls_of (requests_of requests))).graph

same_file : (requests : List ℕ) → file_of (graph_left requests) ≡ file_left requests
same_file requests = ap file_of (graph_of_history requests)

-- a whole list whose file fits the buffer: its length is returned, the file is laid, and what stands after it stays
pub save_writes_the_file : (requests file : List ℕ) → length requests % 20 ≡ 0 → length (file_left requests) ≤ length file →
    (save_return requests file ≡ length (file_left requests)) × (save_written requests file ≡ file_left requests ++ drop (length (file_left requests)) file)
unfolding save_return save_written list_whole save_answer save_buffer list_after
save_writes_the_file requests file h l =
    rw (eq-eqb (length requests % 20) 0 h, same_file requests, le-leb (length (file_left requests)) (length file) l) (refl, refl)

-- one whose file does not fit: 15, and nothing is written
pub save_too_short : (requests file : List ℕ) → length requests % 20 ≡ 0 → length file < length (file_left requests) →
    (save_return requests file ≡ refused_with 15) × (save_written requests file ≡ file)
unfolding save_return save_written list_whole save_answer save_buffer list_after
save_too_short requests file h l =
    rw (eq-eqb (length requests % 20) 0 h, same_file requests, lt-leb (length (file_left requests)) (length file) l) (refl, refl)

-- no file is so long that its length could be taken for a refusal
pub a_length_is_no_refusal : (requests : List ℕ) → length (file_left requests) < 4294967296
a_length_is_no_refusal requests =
    let h = file_is_short One (calls_of (requests_of requests)) in
    let l = longest_file_lem in
    omega arith
