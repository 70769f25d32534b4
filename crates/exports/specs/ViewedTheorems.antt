-- What is proved of views, over every list of requests: statements with a sentence each. The words stand in ViewedClaims, over Viewed and the wire book.
use Rattle.std.specs.Prelude.{◌≡◌, refl, List, ◌++◌, ℕ, ◌+◌, ◌*◌, ◌%◌, ◌≤◌, ◌<◌, length, drop}
use Rattle.std.proofs.Common.{sym, ap, ◌∙◌, subst, arith, eq-eqb, le-leb}
use Rattle.std.proofs.lemmas.Bool.{lt-leb}
use Rattle.multiportgraph.specs.Calls.{visible_nodes, visible_links}
use Rattle.multiportgraph.specs.Listed.{list_after}
use Rattle.port_tables.specs.declared.release.Release.TheVariants.{One}
use Rattle.theorems.proofs.CallLaws.{rel_run}
use Rattle.theorems.specs.History.{State, run}
use Rattle.records.specs.Words.{requests_of}
use Rattle.records.specs.Run.{calls_of}
use Rattle.exports.specs.Exports.{refused_with, list_whole}
use Rattle.exports.specs.ExportLaws.{graph_of_history}
use Rattle.exports.specs.Viewed.{view_bytes, view_told, view_return, view_written}
use Rattle.exports.specs.ViewedClaims.{view_read, Shows}
use Rattle.exports.specs.ViewedLaws as laws
use Rattle.exports.specs.ViewedSteps.{view_length, view_most}

-- the graph and the book of a list's history
abbrev pub state_left : List ℕ → State
state_left requests = run One (calls_of (requests_of requests))

abbrev pub view_left : List ℕ → List ℕ
view_left requests = view_bytes (state_left requests).graph

-- Of a whole list whose view fits the buffer, its length is returned, the view is laid, and what stands after it stays.
pub view_is_written : (requests view : List ℕ) → length requests % 20 ≡ 0 → length (view_left requests) ≤ length view →
    (view_return requests view ≡ length (view_left requests)) × (view_written requests view ≡ view_left requests ++ drop (length (view_left requests)) view)
unfolding view_return view_told view_written list_whole list_after
view_is_written requests view h l =
    rw (eq-eqb (length requests % 20) 0 h, graph_of_history requests, le-leb (length (view_left requests)) (length view) l) (refl, refl)

-- What is read from that buffer shows the book of the list's history: its blocks, each once, by ascending number and with their ports in a row from the first port
-- told; its wires, each once, by their places; and at each end the port that the book has there.
pub view_shows_the_book : (requests view : List ℕ) → length requests % 20 ≡ 0 → length (view_left requests) ≤ length view →
    Shows (state_left requests).book (view_read (view_written requests view))
view_shows_the_book requests view h l =
    let e = ap view_read (view_is_written requests view h l).1 ∙ laws.view_read_back (state_left requests).graph (drop (length (view_left requests)) view) in
    subst (Shows (state_left requests).book) (sym e) (laws.graph_shows (rel_run One (calls_of (requests_of requests))).1)

-- One that does not fit: 15, and nothing is written.
pub view_too_short : (requests view : List ℕ) → length requests % 20 ≡ 0 → length view < length (view_left requests) →
    (view_return requests view ≡ refused_with 15) × (view_written requests view ≡ view)
unfolding view_return view_told view_written list_whole list_after
view_too_short requests view h l =
    rw (eq-eqb (length requests % 20) 0 h, graph_of_history requests, lt-leb (length (view_left requests)) (length view) l) (refl, refl)

-- The length follows from the counts: 8 bytes, 16 for each block and 32 for each wire;
pub view_length_of_counts : (requests : List ℕ) → length (view_left requests) ≡ 8 + 16 * visible_nodes (state_left requests).graph + 32 * visible_links (state_left requests).graph
view_length_of_counts requests = view_length (rel_run One (calls_of (requests_of requests))).1.fine

-- a buffer of 65,544 bytes is never too short, and no length could be taken for a refusal.
pub view_is_short : (requests : List ℕ) → length (view_left requests) ≤ 65544
view_is_short requests =
    let a = view_length_of_counts requests in
    let b = view_most (rel_run One (calls_of (requests_of requests))).1.fine in
    omega arith
