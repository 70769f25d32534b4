-- What is proved of loading, in plain order: statements with a sentence each, over every list of bytes, every list of calls from the
-- empty graph and either release. The words stand in Loading, Claims and LoadClaims.
use Rattle.std.specs.Prelude.{◌≡◌, refl, true, false, List, ◌++◌, ◌↔◌, ◌⊎◌, ℕ, Ok, Err}
use Rattle.std.proofs.Common.{sym, ap, ◌∙◌, subst, ⊎_elim}
use Rattle.multiportgraph.specs.declared.multiportgraph.MultiPortGraph.{MultiPortGraph}
use Rattle.port_tables.specs.declared.release.Release.{Release}
use Rattle.port_tables.specs.declared.release.Release.TheVariants.{One, Two}
use Rattle.multi_tables.specs.declared.answers.Refusal.{Refusal}
use Rattle.multi_tables.specs.declared.answers.Refusal.TheVariants.{TooManyPorts, NoRoom, InputWired}
use Rattle.multiportgraph.specs.Graph.{empty_graph}
use Rattle.theorems.specs.Book.{Call}
use Rattle.theorems.specs.History.{run, run_from}
use Rattle.theorems.proofs.CallLaws.{rel_run}
use Rattle.theorems.specs.Runs.{run_append}
use Rattle.theorems.specs.ReleaseClaims.{for_release}
use Rattle.files.specs.View.{View, view_of}
use Rattle.files.specs.Layout.{bytes_of, unbytes, ViewFits}
use Rattle.files.specs.Saving.{file_of}
use Rattle.files.specs.Loading.{is_whole, is_laid, build_of, first_refusal, load_answer, load_graph, load_graph_under}
use Rattle.files.specs.Claims.{SameWiring, Sound, Bytes}
use Rattle.files.specs.LayoutLaws.{view_read_back}
use Rattle.files.specs.ViewLaws.{view_fits}
use Rattle.files.specs.ViewSound.{view_sound}
use Rattle.files.specs.WrittenLaws.{laid_written}
use Rattle.files.specs.SoundLaws.{laid_sound, said_fits}
use Rattle.files.specs.LaidAgain.{written_laid}
use Rattle.files.specs.BuildLaws.{loaded_or_refused, built_view}
use Rattle.files.specs.PartlyBuilt.{partly_built}
use Rattle.files.specs.LoadClaims.{SharesInput, BuildRefused}
use Rattle.files.specs.BuildRefusals.{which_refusal}
use Rattle.files.specs.FileTheorems.{same_file_same_wiring, file_read_back}
use Rattle.files.specs.LoadAnswers as answers
use Rattle.files.specs.ReleaseFiles as releases
use Rattle.files.specs.OneWire as one_wire
use Rattle.files.specs.declared.load.LoadError.TheVariants.{BadSums, BadLayout, Refused}

-- An accepted load is the history of its adds and links in file order, all accepted, so that every theorem over histories speaks of it;
pub load_is_history : (release : Release) (bytes : List ℕ) → load_answer release bytes ≡ Ok tt →
    (load_graph release bytes ≡ (run release (build_of (unbytes bytes))).graph) × (first_refusal (empty_graph release) (build_of (unbytes bytes)) ≡ Ok tt)
unfolding load_graph_under
load_is_history release bytes e = (rw e refl, (answers.loaded_parts release bytes e).2)

-- a history may begin with a load: what follows goes on from its adds and links.
pub load_then_calls : (release : Release) (bytes : List ℕ) (calls : List Call) → load_answer release bytes ≡ Ok tt →
    run_from (record { graph = load_graph release bytes; book = (run release (build_of (unbytes bytes))).book }) calls ≡ run release (build_of (unbytes bytes) ++ calls)
load_then_calls release bytes calls e =
    ap (λ (m : MultiPortGraph). run_from (record { graph = m; book = (run release (build_of (unbytes bytes))).book }) calls) (load_is_history release bytes e).0
    ∙ sym (run_append release (build_of (unbytes bytes)) calls)

-- A refused load gives the empty graph.
pub refused_load_is_empty : (release : Release) (bytes : List ℕ) → (load_answer release bytes ≡ Ok tt → ⊥) → load_graph release bytes ≡ empty_graph release
unfolding load_graph_under
refused_load_is_empty release bytes not = answers.empty_unless release (load_answer release bytes) (run release (build_of (unbytes bytes))).graph not

-- A file is accepted exactly if it is what the writer gives for the graph that its adds and links build;
pub loaded_exactly_written : (release : Release) (bytes : List ℕ) → Bytes bytes → (load_answer release bytes ≡ Ok tt) ↔ (file_of (run release (build_of (unbytes bytes))).graph ≡ bytes)
unfolding file_of
loaded_exactly_written release bytes small = (
  (λ e.
      let p = answers.loaded_parts release bytes e in
      ap bytes_of (built_view release (unbytes bytes) (laid_sound bytes p.1) p.2) ∙ laid_written bytes small p.0 p.1),
  (λ e.
      let m = (run release (build_of (unbytes bytes))).graph in
      let w = written_laid (view_of m) (view_fits (rel_run release (build_of (unbytes bytes))).1.fine) (view_sound release (build_of (unbytes bytes))) in
      let said : unbytes bytes ≡ view_of m = ap unbytes (sym e) ∙ view_read_back (view_of m) (view_fits (rel_run release (build_of (unbytes bytes))).1.fine) in
      answers.parts_loaded release bytes (subst (λ b. is_whole b ≡ true) e w.0) (subst (λ b. is_laid b ≡ true) e w.1)
      (⊎_elim (λ done. done) (λ k. absurd (partly_built release (unbytes bytes) k.0 k.1 (sym said))) (loaded_or_refused (build_of (unbytes bytes)) (empty_graph release)))),
)

-- writing a loaded graph gives the file back;
pub save_of_load : (release : Release) (bytes : List ℕ) → Bytes bytes → load_answer release bytes ≡ Ok tt → file_of (load_graph release bytes) ≡ bytes
save_of_load release bytes small e = ap file_of (load_is_history release bytes e).0 ∙ (loaded_exactly_written release bytes small).0 e

-- loading a saved graph, for its release or another, gives the same blocks by rank and wires between ports, provided that the build is not
-- refused,
pub load_of_save : (release other : Release) (calls : List Call) → load_answer other (file_of (run release calls).graph) ≡ Ok tt →
    SameWiring (run other (build_of (unbytes (file_of (run release calls).graph)))).book (run release calls).book
unfolding file_of
load_of_save release other calls e =
    let b = file_of (run release calls).graph in
    let p = answers.loaded_parts other b e in
    (same_file_same_wiring other release (build_of (unbytes b)) calls).0
    (ap bytes_of (built_view other (unbytes b) (laid_sound b p.1) p.2 ∙ file_read_back release calls))

-- and for its own release it is refused for space if at all: a kit may refuse its own file with 10, and with nothing else;
pub saved_loads_or_no_room : (release : Release) (calls : List Call) →
    (load_answer release (file_of (run release calls).graph) ≡ Ok tt) ⊎ (load_answer release (file_of (run release calls).graph) ≡ Err (Refused NoRoom))
saved_loads_or_no_room release calls = one_wire.saved_or_no_room release calls

-- for another also with 18, for release 2, if two of its wires end at one input.
pub saved_for_another : (release other : Release) (calls : List Call) →
    ((load_answer other (file_of (run release calls).graph) ≡ Ok tt) ⊎ (load_answer other (file_of (run release calls).graph) ≡ Err (Refused NoRoom)))
    ⊎ ((load_answer other (file_of (run release calls).graph) ≡ Err (Refused InputWired)) × (other ≡ Two) × SharesInput (view_of (run release calls).graph).wires)
saved_for_another release other calls = answers.saved_answers release other calls

-- A load for release 2 answers as one for release 1, or with 18;
pub two_answers_as_one : (bytes : List ℕ) → (load_answer Two bytes ≡ load_answer One bytes) ⊎ (load_answer Two bytes ≡ Err (Refused InputWired))
two_answers_as_one bytes = releases.two_answers_as_one bytes

-- what loads for release 2 loads for release 1, to the same graph but for the release;
pub two_loads_one : (bytes : List ℕ) → load_answer Two bytes ≡ Ok tt → (load_answer One bytes ≡ Ok tt) × (load_graph One bytes ≡ for_release One (load_graph Two bytes))
two_loads_one bytes = releases.two_loads_one bytes

-- and it loads for release 2 exactly if it loads for release 1 and no two of its wires end at one input.
pub two_loads_exactly : (bytes : List ℕ) → (load_answer Two bytes ≡ Ok tt) ↔ ((load_answer One bytes ≡ Ok tt) × (SharesInput (unbytes bytes).wires → ⊥))
two_loads_exactly bytes = releases.two_loads_exactly bytes

-- The numbers, each exactly under its condition: 16 if the length or a sum is wrong;
pub sixteen_exactly : (release : Release) (bytes : List ℕ) → (load_answer release bytes ≡ Err BadSums) ↔ (is_whole bytes ≡ false)
sixteen_exactly release bytes = answers.sixteen release bytes

-- 17 if not, and the layout is broken;
pub seventeen_exactly : (release : Release) (bytes : List ℕ) → (load_answer release bytes ≡ Err BadLayout) ↔ ((is_whole bytes ≡ true) × (is_laid bytes ≡ false))
seventeen_exactly release bytes = answers.seventeen release bytes

-- 3, 10 or 18 if not, as the first add or link that is refused gives it (BuildRefused says when);
pub build_refused_exactly : (release : Release) (bytes : List ℕ) (r : Refusal) →
    (load_answer release bytes ≡ Err (Refused r)) ↔ ((is_whole bytes ≡ true) × (is_laid bytes ≡ true) × BuildRefused release (unbytes bytes) r)
build_refused_exactly release bytes r = answers.build_answers release bytes r

-- nothing else, and 18 only for release 2, where a wire of the file ends at the same input as one before it;
pub three_ten_or_eighteen : (release : Release) (bytes : List ℕ) (r : Refusal) → load_answer release bytes ≡ Err (Refused r) →
    ((r ≡ TooManyPorts) ⊎ (r ≡ NoRoom)) ⊎ ((r ≡ InputWired) × (release ≡ Two) × SharesInput (unbytes bytes).wires)
three_ten_or_eighteen release bytes r e = which_refusal ((build_refused_exactly release bytes r).0 e).2

-- and neither 16 nor 17 exactly if the bytes are those of a view whose numbers fit their fields, whose wires are sorted and whose ranks and
-- positions are those of its blocks.
pub laid_exactly_written : (bytes : List ℕ) → Bytes bytes →
    ((is_whole bytes ≡ true) × (is_laid bytes ≡ true)) ↔ ((v : View) × ViewFits v × Sound v × (bytes ≡ bytes_of v))
laid_exactly_written bytes small = (
  (λ (w, l). (unbytes bytes, said_fits bytes small, laid_sound bytes l, sym (laid_written bytes small w l))),
  (λ (v, fits, sound, e).
      let k = written_laid v fits sound in
      (subst (λ b. is_whole b ≡ true) (sym e) k.0, subst (λ b. is_laid b ≡ true) (sym e) k.1)),
)
