-- Req 05: what saving answers and leaves in the lent buffer.
use Rattle.std.specs.Prelude.{cond, List, [], ◌∷◌, ℕ, leb, length, Result, Ok, Err}
use Rattle.multiportgraph.specs.Listed.{list_after}
use Rattle.multiportgraph.specs.declared.multiportgraph.MultiPortGraph.{MultiPortGraph}
use Rattle.files.specs.View.{view_of}
use Rattle.files.specs.Layout.{bytes_of}
use Rattle.files.specs.declared.save.BufferShort.{BufferShort}

-- the file of a graph
unfoldable pub file_of : MultiPortGraph → List ℕ
file_of m = bytes_of (view_of m)

-- the file's length, or 15 if the buffer is shorter than the file
unfoldable pub save_answer : MultiPortGraph → List ℕ → Result ℕ BufferShort
save_answer m buffer = cond (leb (length (file_of m)) (length buffer)) (Ok (length (file_of m))) (Err (record {}))

-- the buffer afterwards: the file, and past it what it held; a short one as it was
unfoldable pub save_buffer : MultiPortGraph → List ℕ → List ℕ
save_buffer m buffer = list_after (file_of m) buffer

-- 01's numbers of the answer
abbrev pub save_numbers : Result ℕ BufferShort → List ℕ
save_numbers (Ok n) = 0 ∷ n ∷ []
save_numbers (Err e) = 15 ∷ []
