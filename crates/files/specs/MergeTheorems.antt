-- What is proved of merging, in plain order: statements with a sentence each, over every list of bytes. The words stand in Merging, Loading and
-- MergeClaims.
use Rattle.std.specs.Prelude.{◌≡◌, List, [], ◌++◌, map, ◌↔◌, ℕ, ◌≤◌, length, drop, Result, Ok, Err}
use Rattle.std.proofs.Common.{sym, ap, ◌∙◌, subst, arith}
use Rattle.port_tables.specs.declared.release.Release.TheVariants.{One}
use Rattle.multi_tables.specs.declared.answers.Refusal.{Refusal}
use Rattle.multi_tables.specs.declared.answers.Refusal.TheVariants.{NoRoom}
use Rattle.theorems.specs.History.{run}
use Rattle.files.specs.View.{View}
use Rattle.files.specs.Layout.{bytes_of, unbytes, read_units}
use Rattle.files.specs.Saving.{file_of}
use Rattle.files.specs.Loading.{build_of, load_answer}
use Rattle.files.specs.Claims.{Bytes, longest_file}
use Rattle.files.specs.WrittenLaws.{laid_written}
use Rattle.files.specs.SoundLaws.{laid_sound}
use Rattle.files.specs.BuildLaws.{built_view}
use Rattle.files.specs.LoadAnswers.{loaded_parts}
use Rattle.files.specs.Merging.{raised, merged_view, merged_file, merge_answer, buffer_if, merge_buffer}
use Rattle.files.specs.MergeClaims.{IsLaid, Loads, MergeTold, accepted}
use Rattle.files.specs.MergeLaws as laws
use Rattle.files.specs.MergeAnswers as answers
use Rattle.files.specs.declared.load.LoadError.TheVariants as load
use Rattle.files.specs.declared.merge.MergeError.{MergeError}

-- Every answer is given exactly under its condition, the conditions in the order of the request (MergeTold has them).
pub merge_answers_exactly : (first second buffer : List ℕ) → Bytes first → Bytes second → (r : Result ℕ MergeError) → (merge_answer first second buffer ≡ r) ↔ MergeTold first second buffer r
merge_answers_exactly first second buffer small small₂ r = (
  (λ e. subst (MergeTold first second buffer) e (answers.answer_told first second buffer small small₂)),
  (λ t. answers.told_answer first second buffer t),
)

-- A merge that is refused writes nothing;
pub refused_merge_writes_nothing : (first second buffer : List ℕ) → ((n : ℕ) → merge_answer first second buffer ≡ Ok n → ⊥) → merge_buffer first second buffer ≡ buffer
unfolding merge_buffer
refused_merge_writes_nothing first second buffer not = answers.nothing_unless (merge_answer first second buffer) (merged_file first second) buffer not

-- an accepted one writes the result, answers its length, and leaves what stood past it.
pub merge_writes : (first second buffer : List ℕ) (n : ℕ) → Bytes first → Bytes second → merge_answer first second buffer ≡ Ok n →
    (n ≡ length (merged_file first second)) × (merge_buffer first second buffer ≡ merged_file first second ++ drop n buffer)
unfolding merge_buffer
merge_writes first second buffer n small small₂ e =
    let p = answers.accepted_parts ((merge_answers_exactly first second buffer small small₂ (Ok n)).0 e) in
    (p.0, ap (λ (r : Result ℕ MergeError). buffer_if r (merged_file first second) buffer) e ∙ answers.buffer_filled (merged_file first second) buffer n p.0 p.1.3)

-- The result says the blocks of both, the first's before the second's, and the wires of both, the second's with their ranks raised by the first's
-- block count: sorting them in is appending them.
pub merge_is_both : (first second : List ℕ) → Bytes first → Bytes second → Loads first → Loads second →
    ((unbytes (merged_file first second)).blocks ≡ (unbytes first).blocks ++ (unbytes second).blocks)
    × ((unbytes (merged_file first second)).wires ≡ (unbytes first).wires ++ map (raised (length (unbytes first).blocks)) (unbytes second).wires)
merge_is_both first second small small₂ e f =
    let said = answers.result_says first second small small₂ e f ∙ laws.merged_appends (answers.said_sound first e) (answers.said_sound second f) in
    (ap (λ (v : View). v.blocks) said, ap (λ (v : View). v.wires) said)

-- The result of an accepted merge loads for release 1, and writing the graph that it loads to gives it back.
pub merged_loads : (first second buffer : List ℕ) (n : ℕ) → Bytes first → Bytes second → merge_answer first second buffer ≡ Ok n →
    Loads (merged_file first second) × (file_of (run One (build_of (unbytes (merged_file first second)))).graph ≡ merged_file first second)
unfolding file_of merged_file
merged_loads first second buffer n small small₂ e =
    let p = (answers.accepted_parts ((merge_answers_exactly first second buffer small small₂ (Ok n)).0 e)).1 in
    let k = loaded_parts One (merged_file first second) p.2 in
    (p.2, ap bytes_of (built_view One (unbytes (merged_file first second)) (laid_sound (merged_file first second) k.1) k.2 ∙ answers.result_says first second small small₂ p.0 p.1))

-- It is no longer than the longest file, so that a buffer of so many bytes is never too short.
pub merged_is_short : (first second buffer : List ℕ) (n : ℕ) → Bytes first → Bytes second → merge_answer first second buffer ≡ Ok n → n ≤ longest_file
merged_is_short first second buffer n small small₂ e =
    let p = answers.accepted_parts ((merge_answers_exactly first second buffer small small₂ (Ok n)).0 e) in
    let h = answers.result_short first second small small₂ p.1.0 p.1.1 p.1.2 in
    let k = p.0 in
    omega arith

-- A file with no bytes changes nothing on either side: the result is the other file,
pub merge_with_nothing : (bytes : List ℕ) → Bytes bytes → IsLaid bytes → (merged_file [] bytes ≡ bytes) × (merged_file bytes [] ≡ bytes)
unfolding merged_file unbytes read_units
merge_with_nothing bytes small l =
    let k = laws.merged_nothing (laid_sound bytes l.1) in
    let w = laid_written bytes small l.0 l.1 in
    (ap bytes_of k.0 ∙ w, ap bytes_of k.1 ∙ w)

-- and it is accepted where that file loads and the buffer is long enough for it.
pub nothing_accepted : (bytes buffer : List ℕ) → Bytes bytes → Loads bytes → length bytes ≤ length buffer →
    (merge_answer [] bytes buffer ≡ Ok (length bytes)) × (merge_answer bytes [] buffer ≡ Ok (length bytes))
nothing_accepted bytes buffer small e h =
    let p = loaded_parts One bytes e in
    let k = merge_with_nothing bytes small (p.0, p.1) in (
      answers.told_answer [] bytes buffer (accepted answers.nothing_loads e (subst Loads (sym k.0) e) (subst (λ (l : List ℕ). length l ≤ length buffer) (sym k.0) h)) ∙ ap (λ (l : List ℕ). Ok (length l)) k.0,
      answers.told_answer bytes [] buffer (accepted e answers.nothing_loads (subst Loads (sym k.1) e) (subst (λ (l : List ℕ). length l ≤ length buffer) (sym k.1) h)) ∙ ap (λ (l : List ℕ). Ok (length l)) k.1,
    )

-- For three files that load the grouping makes no difference to the bytes.
pub merge_grouping : (one two three : List ℕ) → Bytes one → Bytes two → Bytes three → Loads one → Loads two → Loads three →
    merged_file (merged_file one two) three ≡ merged_file one (merged_file two three)
unfolding merged_file
merge_grouping one two three small small₂ small₃ e f g =
    let left = answers.result_says one two small small₂ e f in
    let right = answers.result_says two three small₂ small₃ f g in
    ap (λ (v : View). bytes_of (merged_view v (unbytes three))) left
    ∙ (ap bytes_of (laws.merged_grouping (answers.said_sound one e) (answers.said_sound two f) (answers.said_sound three g))
    ∙ ap (λ (v : View). bytes_of (merged_view (unbytes one) v)) (sym right))

-- A load gives 3 or 10, and the result of two files that load only 10: no block of it has too many ports.
pub result_never_three : (first second : List ℕ) → Bytes first → Bytes second → Loads first → Loads second → (r : Refusal) →
    load_answer One (merged_file first second) ≡ Err (load.Refused r) → r ≡ NoRoom
result_never_three first second small small₂ e f r told = answers.refused_for_space first second small small₂ e f r told
