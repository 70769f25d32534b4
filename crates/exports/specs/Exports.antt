-- What the entries over files return and leave in the lent buffer. They are of release 1, as record runs are.
use Rattle.std.specs.Prelude.{Bool, cond, ℕ, ◌+◌, ◌%◌, eqb, leb, length, get_or, Result, Ok, Err}
use mathlib.Core.List.{List, [], ◌∷◌, ◌++◌, flat_map}
use Rattle.multiportgraph.specs.declared.multiportgraph.MultiPortGraph.{MultiPortGraph}
use Rattle.port_tables.specs.declared.release.Release.TheVariants.{One}
use Rattle.multiportgraph.specs.Listed.{list_after}
use Rattle.records.specs.Words.{bytes_of, requests_of}
use Rattle.records.specs.Run.{graph_from, first_graph}
use Rattle.files.specs.View.{BlockPorts, RankWire, View}
use Rattle.files.specs.Layout.{unbytes}
use Rattle.files.specs.Loading.{out_port, in_port, load_answer, load_numbers}
use Rattle.files.specs.BuildList.{if_loaded}
use Rattle.files.specs.Merging.{merge_answer, merge_numbers}
use Rattle.files.specs.Saving.{save_answer, save_buffer}
use Rattle.files.specs.declared.merge.MergeError.{MergeError}
use Rattle.files.specs.declared.save.BufferShort.{BufferShort}

-- a refusal is told above every length
abbrev pub refused_with : ℕ → ℕ
refused_with n = 4294967296 + n

-- the graph that a list of requests leaves
abbrev pub graph_left : List ℕ → MultiPortGraph
graph_left requests = graph_from first_graph (requests_of requests)

-- refusal 1: the length of the list is not a multiple of 20
unfoldable pub list_whole : List ℕ → Bool
list_whole requests = eqb (length requests % 20) 0

abbrev pub save_told : Result ℕ BufferShort → ℕ
save_told (Ok n) = n
save_told (Err e) = refused_with 15

unfoldable pub save_return : List ℕ → List ℕ → ℕ
save_return requests file = cond (list_whole requests) (save_told (save_answer (graph_left requests) file)) (refused_with 1)

unfoldable pub save_written : List ℕ → List ℕ → List ℕ
save_written requests file = cond (list_whole requests) (save_buffer (graph_left requests) file) file

-- The build of a file as requests: adds, of code 1, and links, of code 4.

abbrev pub add_words : BlockPorts → List ℕ
add_words b = 1 ∷ b.incoming ∷ b.outgoing ∷ 0 ∷ 0 ∷ []

abbrev pub link_words : List BlockPorts → RankWire → List ℕ
link_words blocks w = 4 ∷ out_port blocks w ∷ in_port blocks w ∷ 0 ∷ 0 ∷ []

-- a request of a code for each two numbers
abbrev pub pair_request : ℕ → ℕ → ℕ → List ℕ
pair_request code a b = bytes_of (code ∷ a ∷ b ∷ 0 ∷ 0 ∷ [])

unfoldable pub pair_requests : ℕ → List ℕ → List ℕ
pair_requests code [] = []
pair_requests code (a ∷ []) = []
pair_requests code (a ∷ b ∷ l) = pair_request code a b ++ pair_requests code l

unfoldable pub build_requests : View → List ℕ
build_requests v = bytes_of (flat_map add_words v.blocks ++ flat_map (link_words v.blocks) v.wires)

abbrev pub file_requests : List ℕ → List ℕ
file_requests file = build_requests (unbytes file)

-- the length of the requests, 15 last, or what a refused load gives
unfoldable pub records_return : List ℕ → List ℕ → ℕ
records_return file requests =
    if_loaded (load_answer One file)
    (cond (leb (length (file_requests file)) (length requests)) (length (file_requests file)) (refused_with 15))
    (refused_with (get_or (load_numbers (load_answer One file)) 0 0))

-- the requests, and past them what the buffer held; as it was if it is too short or the load is refused
unfoldable pub records_written : List ℕ → List ℕ → List ℕ
records_written file requests = if_loaded (load_answer One file) (list_after (file_requests file) requests) requests

-- Two files as one: the length of the result, or the number of what merging answers. The buffer is as merging leaves it.

abbrev pub merge_told : Result ℕ MergeError → ℕ
merge_told (Ok n) = n
merge_told (Err e) = refused_with (get_or (merge_numbers (Err e)) 0 0)

unfoldable pub merge_return : List ℕ → List ℕ → List ℕ → ℕ
merge_return first second file = merge_told (merge_answer first second file)
