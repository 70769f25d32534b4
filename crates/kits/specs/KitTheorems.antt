-- What is proved of kits with other limits (document 02, Req 08), in plain order: statements with a sentence each, over every list of calls
-- from the empty graph of a release and over all bytes, loaded for a release; both kits are then of that release. The words stand in Kits;
-- `former` are the limits of the kits before, 512 node slots and 2,048 port slots. Calls, histories and loads under limits are defined once
-- (Calls, History, Loading), and the plain names are those of this kit.
use Rattle.std.specs.Prelude.{◌≡◌, List, [], ◌∷◌, ◌⊎◌, ◌↔◌, ℕ, Ok, Err}
use Rattle.std.proofs.Common.{ap, sym, subst, arith}
use Rattle.port_tables.specs.Limits.{present}
use Rattle.port_tables.specs.Lists.{Member}
use Rattle.multiportgraph.specs.Graph.{empty_graph}
use Rattle.multiportgraph.specs.declared.multiportgraph.MultiPortGraph.{MultiPortGraph}
use Rattle.port_tables.specs.declared.release.Release.{Release}
use Rattle.multi_tables.specs.declared.answers.Refusal.TheVariants.{NoRoom}
use Rattle.theorems.specs.Book.{Call}
use Rattle.theorems.specs.History.{State, run, run_under}
use Rattle.files.specs.Saving.{file_of}
use Rattle.files.specs.Loading.{load_answer, load_answer_under, load_graph, load_graph_under}
use Rattle.files.specs.declared.load.LoadError.TheVariants.{Refused}
use Rattle.kits.specs.Kits.{former, Lower, Within, Past, FreeBeyond, answers_under}
use Rattle.kits.specs.KitLaws as laws

-- No former limit is above a present one.
pub former_is_lower : Lower former present
former_is_lower = record { nodes = omega arith; ports = omega arith }

-- Saved files change in no byte.

-- A list of calls that has equal answers under the former limits and under these leaves one graph and one wire book,
pub histories_unchanged : (release : Release) (calls : List Call) → answers_under former release calls ≡ answers_under present release calls → run_under former release calls ≡ run release calls
histories_unchanged = laws.same_answers_same_state former_is_lower

-- and gives equal bytes.
pub files_unchanged : (release : Release) (calls : List Call) → answers_under former release calls ≡ answers_under present release calls → file_of (run_under former release calls).graph ≡ file_of (run release calls).graph
files_unchanged release calls e = ap (λ (s : State). file_of s.graph) (histories_unchanged release calls e)

-- The answers are equal wherever none was 10 under the former limits.
pub answers_unchanged : (release : Release) (calls : List Call) → (Member (10 ∷ []) (answers_under former release calls) → ⊥) → answers_under former release calls ≡ answers_under present release calls
answers_unchanged = laws.same_without_ten former_is_lower

-- Every file that loaded under the former limits loads to the same graph.

-- It loads; used lengths, free lists, counts and all slots are equal; the used lengths are within the former limits, and every slot beyond
-- them is free.
pub loads_as_before : (release : Release) (bytes : List ℕ) → load_answer_under former release bytes ≡ Ok tt →
    (load_answer release bytes ≡ Ok tt) × (load_graph release bytes ≡ load_graph_under former release bytes) × Within former (load_graph release bytes).graph × FreeBeyond former (load_graph release bytes)
loads_as_before release bytes e =
    let l = laws.loads_also former_is_lower release bytes e in
    let w = subst (λ (m : MultiPortGraph). Within former m.graph × FreeBeyond former m) (sym l.1) (laws.load_within former_is_lower release bytes) in
    (l.0, l.1, w.0, w.1)

-- A kit with the former limits.

-- Given a file that loads here, it loads it to the same graph, or refuses it with 10 and has the empty graph, never part of it;
pub former_kit_refuses_whole : (release : Release) (bytes : List ℕ) → load_answer release bytes ≡ Ok tt →
    ((load_answer_under former release bytes ≡ Ok tt) × (load_graph_under former release bytes ≡ load_graph release bytes))
    ⊎ ((load_answer_under former release bytes ≡ Err (Refused NoRoom)) × (load_graph_under former release bytes ≡ empty_graph release))
former_kit_refuses_whole = laws.refuses_whole former_is_lower

-- it refuses exactly the larger ones, which leave a used length past its limits.
pub former_kit_refuses_larger : (release : Release) (bytes : List ℕ) → load_answer release bytes ≡ Ok tt → (load_answer_under former release bytes ≡ Err (Refused NoRoom)) ↔ Past former (load_graph release bytes).graph
former_kit_refuses_larger = laws.refuses_larger former_is_lower

-- Given any bytes it answers as this kit does, or 10: 16, 17, 3 and 18 depend on no limit.
pub former_kit_answers : (release : Release) (bytes : List ℕ) → (load_answer_under former release bytes ≡ load_answer release bytes) ⊎ (load_answer_under former release bytes ≡ Err (Refused NoRoom))
former_kit_answers = laws.answers_or_ten former_is_lower

-- Whatever it is asked, its used lengths stay within its limits, and every slot beyond them stays free: of the present tables, in which it is
-- modelled, it needs no more than it had.
pub former_tables_suffice : (release : Release) (calls : List Call) → Within former (run_under former release calls).graph.graph × FreeBeyond former (run_under former release calls).graph
former_tables_suffice = laws.run_within former_is_lower
