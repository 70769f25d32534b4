-- Req 12: two files as one. What the result says, what merging answers and leaves in the lent buffer.
use Rattle.std.specs.Prelude.{cond, List, [], ◌∷◌, ◌++◌, map, ℕ, ◌+◌, leb, length, Result, Ok, Err}
use Rattle.multiportgraph.specs.Listed.{list_after}
use Rattle.port_tables.specs.declared.release.Release.TheVariants.{One}
use Rattle.files.specs.View.{RankWire, View, insert_all}
use Rattle.files.specs.Layout.{bytes_of, unbytes}
use Rattle.files.specs.Loading.{is_whole, is_laid, load_answer, load_numbers}
use Rattle.files.specs.declared.load.LoadError.{LoadError}
use Rattle.files.specs.declared.load.LoadError.TheVariants as load
use Rattle.files.specs.declared.merge.MergeError.{MergeError}
use Rattle.files.specs.declared.merge.MergeError.TheVariants.{Load, BufferShort}

-- a wire with its ranks raised by so many blocks
abbrev pub raised : ℕ → RankWire → RankWire
raised n w = record { source = n + w.source; output = w.output; target = n + w.target; input = w.input }

-- the blocks of both, the first's before the second's; the second's ranks are raised by the first's block count, and its wires sorted in
-- with the first's
unfoldable pub merged_view : View → View → View
merged_view v w = record { blocks = v.blocks ++ w.blocks; wires = insert_all (map (raised (length v.blocks)) w.wires) v.wires }

-- the file of both
unfoldable pub merged_file : List ℕ → List ℕ → List ℕ
merged_file first second = bytes_of (merged_view (unbytes first) (unbytes second))

-- The answer.

-- 16 and 17 of a file by itself
unfoldable pub layout_answer : List ℕ → Result (Unit {0}) LoadError
layout_answer bytes = cond (is_whole bytes) (cond (is_laid bytes) (Ok tt) (Err load.BadLayout)) (Err load.BadSums)

-- a refusal ends it; else it goes on
abbrev pub unless_refused : Result (Unit {0}) LoadError → Result ℕ MergeError → Result ℕ MergeError
unless_refused (Ok _) rest = rest
unless_refused (Err e) rest = Err (Load e)

-- the length of the result, or 15 if the buffer is shorter
unfoldable pub result_answer : List ℕ → List ℕ → Result ℕ MergeError
result_answer result buffer = cond (leb (length result) (length buffer)) (Ok (length result)) (Err BufferShort)

-- 16 and 17 for the first file, then for the second; then 3 or 10 as loading the first, the second or the result for release 1 gives it; 15
-- last
unfoldable pub merge_answer : List ℕ → List ℕ → List ℕ → Result ℕ MergeError
merge_answer first second buffer =
    unless_refused (layout_answer first)
    (unless_refused (layout_answer second)
    (unless_refused (load_answer One first)
    (unless_refused (load_answer One second)
    (unless_refused (load_answer One (merged_file first second))
    (result_answer (merged_file first second) buffer)))))

-- the buffer afterwards: the result, and past it what it held; as it was where merging is refused
abbrev pub buffer_if : Result ℕ MergeError → List ℕ → List ℕ → List ℕ
buffer_if (Ok n) result buffer = list_after result buffer
buffer_if (Err _) result buffer = buffer

unfoldable pub merge_buffer : List ℕ → List ℕ → List ℕ → List ℕ
merge_buffer first second buffer = buffer_if (merge_answer first second buffer) (merged_file first second) buffer

-- 01's numbers of the answer
abbrev pub merge_numbers : Result ℕ MergeError → List ℕ
merge_numbers (Ok n) = 0 ∷ n ∷ []
merge_numbers (Err (Load e)) = load_numbers (Err e)
merge_numbers (Err BufferShort) = 15 ∷ []
