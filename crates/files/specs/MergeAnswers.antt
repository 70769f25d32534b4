-- The answers of a merge, case by case.
use Rattle.std.specs.Prelude.{◌≡◌, refl, Bool, true, false, List, [], ◌∷◌, ◌++◌, ◌⊎◌, ℕ, ◌+◌, ◌≤◌, leb, drop, Result, Ok, Err}
use Rattle.std.proofs.Common.{sym, subst, inl, inr}
use Rattle.std.proofs.Math.Path.{ap}
use Rattle.std.proofs.Math.Logic.{⊎_elim}
use native.Mathlib.Omega.{arith}
use Rattle.std.proofs.Math.ListN.{length}
use borrow.Author.Tests.{le-leb, lt-leb, leb-true, leb-false}
use Rattle.port_tables.specs.Limits.{node_ports}
use Rattle.port_tables.specs.Lists.{Member}
use Rattle.multiportgraph.specs.Graph.{empty_graph}
use Rattle.multiportgraph.specs.Listed.{list_after}
use Rattle.port_tables.specs.Listing.{member_right, member_append}
use Rattle.port_tables.specs.declared.release.Release.TheVariants.{One, Two}
use Rattle.multi_tables.specs.declared.answers.Refusal.{Refusal}
use Rattle.multi_tables.specs.declared.answers.Refusal.TheVariants.{NoRoom}
use Rattle.files.specs.View.{BlockPorts, View}
use Rattle.files.specs.Layout.{units_for, file_length, unbytes, read_units, ViewFits}
use Rattle.files.specs.LayoutLaws.{file_length_lem, view_read_back}
use Rattle.files.specs.Loading.{is_whole, is_laid, units_in, unit_list, units_right, kinds_right, counts_right, view_right, order_right, build_of, first_refusal, first_refusal_under, load_answer, load_answer_under}
use Rattle.files.specs.Claims.{Bytes, Sound, longest_file}
use Rattle.files.specs.LoadClaims.{BuildRefused, build_many, build_no_block, build_wired, build_no_wire}
use Rattle.files.specs.SoundLaws.{laid_sound, said_fits}
use Rattle.files.specs.LaidAgain.{written_laid}
use Rattle.files.specs.BuildLaws.{loaded_or_refused}
use Rattle.files.specs.LoadAnswers as answers
use Rattle.files.specs.LoadAnswers.{loaded_parts, loaded_few, loaded_small, parts_loaded}
use Rattle.files.specs.Merging.{merged_view, merged_file, layout_answer, result_answer, merge_answer, buffer_if}
use Rattle.files.specs.MergeLaws.{merged_sound, merged_fits}
use Rattle.files.specs.MergeClaims.{IsLaid, Loads, MergeTold, first_sums, first_layout, second_sums, second_layout, first_refused, second_refused, result_refused, buffer_short, accepted}
use Rattle.files.specs.declared.load.LoadError.TheVariants as load
use Rattle.files.specs.declared.merge.MergeError.{MergeError}
use Rattle.files.specs.declared.merge.MergeError.TheVariants.{Load, BufferShort}

-- A file that loads.

-- what it says
pub said_sound : (bytes : List ℕ) → Loads bytes → Sound (unbytes bytes)
said_sound bytes e = laid_sound bytes (loaded_parts One bytes e).1

laid_refused : (bytes : List ℕ) → IsLaid bytes → (r : Refusal) → first_refusal (empty_graph One) (build_of (unbytes bytes)) ≡ Err (load.Refused r) → load_answer One bytes ≡ Err (load.Refused r)
unfolding load_answer_under
laid_refused bytes l r e = rw (l.0, l.1) e

-- a laid file loads, or a call of its build is refused
laid_loads : (bytes : List ℕ) → IsLaid bytes → Loads bytes ⊎ ((r : Refusal) × (load_answer One bytes ≡ Err (load.Refused r)))
laid_loads bytes l =
    ⊎_elim (λ e. inl (parts_loaded One bytes l.0 l.1 e))
    (λ (k : (r : Refusal) × (first_refusal (empty_graph One) (build_of (unbytes bytes)) ≡ Err (load.Refused r))).
    inr (k.0, laid_refused bytes l k.0 k.1))
    (loaded_or_refused (build_of (unbytes bytes)) (empty_graph One))

releases_differ : One ≡ Two → ⊥
releases_differ e = let z : ◌≡◌ {A = ℕ} 0 1 = cc in omega arith

-- The result of two files that load.

module _ (first second : List ℕ) (small : Bytes first) (small₂ : Bytes second) (e : Loads first) (f : Loads second) where
  pub result_fits : ViewFits (merged_view (unbytes first) (unbytes second))
  result_fits =
      let a = loaded_few One first e in
      let b = loaded_few One second f in
      merged_fits (said_sound first e) (said_sound second f) (said_fits first small) (said_fits second small₂) (omega arith)

  -- it is laid,
  pub result_is_laid : IsLaid (merged_file first second)
  unfolding merged_file
  result_is_laid = written_laid (merged_view (unbytes first) (unbytes second)) result_fits (merged_sound (said_sound first e) (said_sound second f))

  -- and says the view of both
  pub result_says : unbytes (merged_file first second) ≡ merged_view (unbytes first) (unbytes second)
  unfolding merged_file
  result_says = view_read_back (merged_view (unbytes first) (unbytes second)) result_fits

  result_long : length (merged_file first second) ≡ file_length (length (merged_view (unbytes first) (unbytes second)).blocks) (length (merged_view (unbytes first) (unbytes second)).wires)
  unfolding merged_file
  result_long = file_length_lem (merged_view (unbytes first) (unbytes second))

  -- it is no longer than the longest file, where it loads
  pub result_short : Loads (merged_file first second) → length (merged_file first second) ≤ longest_file
  unfolding longest_file file_length units_for
  result_short g =
      let few = loaded_few One (merged_file first second) g in
      let long = result_long in
      let a = ap (λ (u : View). length u.blocks) result_says in
      let b = ap (λ (u : View). length u.wires) result_says in
      omega arith

  -- none of its blocks has too many ports: it is refused for space, if at all
  pub refused_for_space : (r : Refusal) → load_answer One (merged_file first second) ≡ Err (load.Refused r) → r ≡ NoRoom
  unfolding merged_view
  refused_for_space r told = go ((answers.build_answers One (merged_file first second) r).0 told).2
    where
      small_block : (b : BlockPorts) → Member b (unbytes (merged_file first second)).blocks → b.incoming + b.outgoing ≤ node_ports
      small_block b i =
          ⊎_elim (loaded_small One first e b) (loaded_small One second f b)
          (member_append b (unbytes first).blocks (unbytes second).blocks (subst (λ (u : View). Member b u.blocks) result_says i))

      go : {r : Refusal} → BuildRefused One (unbytes (merged_file first second)) r → r ≡ NoRoom
      go (build_many before b later is l h) =
          let k = small_block b (subst (Member b) (sym is) (member_right b before (b ∷ later) (inl refl))) in
          absurd (omega arith)
      go (build_no_block before b later is l h k) = refl
      go (build_wired before w later is l two u i same) = absurd (releases_differ two)
      go (build_no_wire before w later is l over) = refl

-- The answers.

module _ (first second buffer : List ℕ) where
  -- each condition gives its answer
  pub told_answer : {r : Result ℕ MergeError} → MergeTold first second buffer r → merge_answer first second buffer ≡ r
  unfolding merge_answer layout_answer result_answer
  told_answer (first_sums a) = rw a
  told_answer (first_layout a b) = rw (a, b)
  told_answer (second_sums l a) = rw (l.0, l.1, a)
  told_answer (second_layout l a b) = rw (l.0, l.1, a, b)
  told_answer (first_refused {r} l told) = let k = (answers.build_answers One first r).0 told in rw (k.0, k.1, l.0, l.1, told)
  told_answer (second_refused {r} e told) =
      let p = loaded_parts One first e in
      let k = (answers.build_answers One second r).0 told in
      rw (p.0, p.1, k.0, k.1, e, told)
  told_answer (result_refused e f told) =
      let p = loaded_parts One first e in
      let q = loaded_parts One second f in
      rw (p.0, p.1, q.0, q.1, e, f, told)
  told_answer (buffer_short e f g h) =
      let p = loaded_parts One first e in
      let q = loaded_parts One second f in
      rw (p.0, p.1, q.0, q.1, e, f, g, lt-leb (length (merged_file first second)) (length buffer) h)
  told_answer (accepted e f g h) =
      let p = loaded_parts One first e in
      let q = loaded_parts One second f in
      rw (p.0, p.1, q.0, q.1, e, f, g, le-leb (length (merged_file first second)) (length buffer) h)

  -- and one of the conditions holds
  abbrev Some : Type 0
  Some = (r : Result ℕ MergeError) × MergeTold first second buffer r

  some_written : Loads first → Loads second → Loads (merged_file first second) → (t : Bool) → leb (length (merged_file first second)) (length buffer) ≡ t → Some
  some_written e f g true h = (Ok (length (merged_file first second)), accepted e f g (leb-true (length (merged_file first second)) (length buffer) h))
  some_written e f g false h = (Err BufferShort, buffer_short e f g (leb-false (length (merged_file first second)) (length buffer) h))

  some_loaded : Bytes first → Bytes second → IsLaid first → IsLaid second → Some
  some_loaded small small₂ l k =
      ⊎_elim
      (λ (e : Loads first).
      ⊎_elim
      (λ (f : Loads second).
      ⊎_elim (λ (g : Loads (merged_file first second)). some_written e f g (leb (length (merged_file first second)) (length buffer)) refl)
      (λ (g : (r : Refusal) × (load_answer One (merged_file first second) ≡ Err (load.Refused r))). (Err (Load (load.Refused g.0)), result_refused e f g.1))
      (laid_loads (merged_file first second) (result_is_laid first second small small₂ e f)))
      (λ (f : (r : Refusal) × (load_answer One second ≡ Err (load.Refused r))). (Err (Load (load.Refused f.0)), second_refused e f.1)) (laid_loads second k))
      (λ (e : (r : Refusal) × (load_answer One first ≡ Err (load.Refused r))). (Err (Load (load.Refused e.0)), first_refused k e.1)) (laid_loads first l)

  some_second : Bytes first → Bytes second → IsLaid first → (t : Bool) → is_whole second ≡ t → (s : Bool) → is_laid second ≡ s → Some
  some_second small small₂ l true a true b = some_loaded small small₂ l (a, b)
  some_second small small₂ l true a false b = (Err (Load load.BadLayout), second_layout l a b)
  some_second small small₂ l false a s b = (Err (Load load.BadSums), second_sums l a)

  some_first : Bytes first → Bytes second → (t : Bool) → is_whole first ≡ t → (s : Bool) → is_laid first ≡ s → Some
  some_first small small₂ true a true b = some_second small small₂ (a, b) (is_whole second) refl (is_laid second) refl
  some_first small small₂ true a false b = (Err (Load load.BadLayout), first_layout a b)
  some_first small small₂ false a s b = (Err (Load load.BadSums), first_sums a)

  pub answer_told : Bytes first → Bytes second → MergeTold first second buffer (merge_answer first second buffer)
  answer_told small small₂ =
      let k = some_first small small₂ (is_whole first) refl (is_laid first) refl in
      subst (MergeTold first second buffer) (sym (told_answer k.1)) k.1

-- What an accepted merge had.

pub accepted_parts : {first second buffer : List ℕ} {n : ℕ} → MergeTold first second buffer (Ok n) →
    (n ≡ length (merged_file first second)) × (Loads first × Loads second × Loads (merged_file first second) × (length (merged_file first second) ≤ length buffer))
accepted_parts {first} {second} {buffer} {n} t = go t refl
  where
    Parts : Type 0
    Parts = (n ≡ length (merged_file first second)) × (Loads first × Loads second × Loads (merged_file first second) × (length (merged_file first second) ≤ length buffer))

    go : {r : Result ℕ MergeError} → MergeTold first second buffer r → r ≡ Ok n → Parts
    go (first_sums a) q = let z : ◌≡◌ {A = ℕ} 0 1 = cc in absurd (omega arith)
    go (first_layout a b) q = let z : ◌≡◌ {A = ℕ} 0 1 = cc in absurd (omega arith)
    go (second_sums l a) q = let z : ◌≡◌ {A = ℕ} 0 1 = cc in absurd (omega arith)
    go (second_layout l a b) q = let z : ◌≡◌ {A = ℕ} 0 1 = cc in absurd (omega arith)
    go (first_refused l a) q = let z : ◌≡◌ {A = ℕ} 0 1 = cc in absurd (omega arith)
    go (second_refused e a) q = let z : ◌≡◌ {A = ℕ} 0 1 = cc in absurd (omega arith)
    go (result_refused e f a) q = let z : ◌≡◌ {A = ℕ} 0 1 = cc in absurd (omega arith)
    go (buffer_short e f g h) q = let z : ◌≡◌ {A = ℕ} 0 1 = cc in absurd (omega arith)
    go (accepted e f g h) q = let p : n ≡ length (merged_file first second) = cc in (p, (e, f, g, h))

-- The buffer.

pub nothing_unless : (r : Result ℕ MergeError) (result buffer : List ℕ) → ((n : ℕ) → r ≡ Ok n → ⊥) → buffer_if r result buffer ≡ buffer
nothing_unless (Ok n) result buffer not = absurd (not n refl)
nothing_unless (Err _) result buffer not = refl

pub buffer_filled : (result buffer : List ℕ) (n : ℕ) → n ≡ length result → length result ≤ length buffer → list_after result buffer ≡ result ++ drop n buffer
unfolding list_after
buffer_filled result buffer n e h = rw (le-leb (length result) (length buffer) h) (ap (λ (k : ℕ). result ++ drop k buffer) (sym e))

-- a file with no bytes loads
pub nothing_loads : Loads []
unfolding load_answer_under is_whole is_laid unit_list units_in unbytes read_units units_right kinds_right counts_right view_right order_right build_of first_refusal_under
nothing_loads = refl
