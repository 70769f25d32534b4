-- The words of the theorems about merging: which answer is given when.
use Rattle.std.specs.Prelude.{◌≡◌, true, false, List, ℕ, ◌≤◌, ◌<◌, length, Result, Ok, Err}
use Rattle.multi_tables.specs.declared.answers.Refusal.{Refusal}
use Rattle.port_tables.specs.declared.release.Release.TheVariants.{One}
use Rattle.files.specs.Loading.{is_whole, is_laid, load_answer}
use Rattle.files.specs.Merging.{merged_file}
use Rattle.files.specs.declared.load.LoadError.TheVariants as load
use Rattle.files.specs.declared.merge.MergeError.{MergeError}
use Rattle.files.specs.declared.merge.MergeError.TheVariants.{Load, BufferShort}

-- neither 16 nor 17
abbrev pub IsLaid : List ℕ → Type 0
IsLaid bytes = (is_whole bytes ≡ true) × (is_laid bytes ≡ true)

-- a file that loads for release 1
abbrev pub Loads : List ℕ → Type 0
Loads bytes = load_answer One bytes ≡ Ok tt

-- Which answer is given, the conditions in their order:
pub data MergeTold (first second buffer : List ℕ) : Result ℕ MergeError → Type 0 where
  -- 16 and 17 for the first file,
  first_sums : is_whole first ≡ false → MergeTold first second buffer (Err (Load load.BadSums))
  first_layout : is_whole first ≡ true → is_laid first ≡ false → MergeTold first second buffer (Err (Load load.BadLayout))
  -- then for the second;
  second_sums : IsLaid first → is_whole second ≡ false → MergeTold first second buffer (Err (Load load.BadSums))
  second_layout : IsLaid first → is_whole second ≡ true → is_laid second ≡ false → MergeTold first second buffer (Err (Load load.BadLayout))
  -- then what loading the first,
  first_refused : {r : Refusal} → IsLaid second → load_answer One first ≡ Err (load.Refused r) → MergeTold first second buffer (Err (Load (load.Refused r)))
  -- the second
  second_refused : {r : Refusal} → Loads first → load_answer One second ≡ Err (load.Refused r) → MergeTold first second buffer (Err (Load (load.Refused r)))
  -- or the result for release 1 gives;
  result_refused : {r : Refusal} → Loads first → Loads second → load_answer One (merged_file first second) ≡ Err (load.Refused r) → MergeTold first second buffer (Err (Load (load.Refused r)))
  -- 15 last,
  buffer_short : Loads first → Loads second → Loads (merged_file first second) → length buffer < length (merged_file first second) → MergeTold first second buffer (Err BufferShort)
  -- and the length where nothing is refused
  accepted : Loads first → Loads second → Loads (merged_file first second) → length (merged_file first second) ≤ length buffer →
      MergeTold first second buffer (Ok (length (merged_file first second)))
