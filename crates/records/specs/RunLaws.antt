-- The record run is a history of release 1: its graphs are those of the list of its calls, with refused and reading requests left out,
-- so that the wire rule speaks of them.
use Rattle.std.specs.Prelude.{◌≡◌, refl, List, [], ◌∷◌, ◌++◌}
use Rattle.std.proofs.Common.{sym, ap, ◌∙◌, subst}
use Rattle.theorems.specs.Book.{empty_book}
use Rattle.theorems.specs.History.{State, next, run, run_under, run_from, run_from_under}
use Rattle.theorems.proofs.Theorems.{wire_rule}
use Rattle.multiportgraph.specs.declared.multiportgraph.MultiPortGraph.{MultiPortGraph}
use Rattle.records.specs.Words.{Request}
use Rattle.records.specs.Run.{Asked, call, link_of, counts, refused, asked, after, numbers, five, answers_from, graph_from, call_then, calls_of, first_graph}
use Rattle.port_tables.specs.declared.release.Release.TheVariants.{One}
use Rattle.theorems.specs.Claims.{WireRule}

-- from any state of a history
run_from_lem : (l : List Request) (s : State) → graph_from s.graph l ≡ (run_from s (calls_of l)).graph
unfolding graph_from calls_of run_from_under
run_from_lem [] s = refl
run_from_lem (q ∷ l) s = go (asked q) (run_from_lem l)
  where
    go : (x : Asked) → ((t : State) → graph_from t.graph l ≡ (run_from t (calls_of l)).graph) →
        graph_from (after s.graph x) l ≡ (run_from s (call_then x (calls_of l))).graph
    go (call c) f = f (next s c)
    go (link_of p o) f = f s
    go counts f = f s
    go refused f = f s

-- the graph that a list of requests leaves is the graph of the history of its calls
pub run_is_history : (l : List Request) → graph_from first_graph l ≡ (run One (calls_of l)).graph
unfolding run_under
run_is_history l = run_from_lem l (record { graph = first_graph; book = empty_book })

-- the wire rule holds of it
pub run_obeys_wire_rule : (l : List Request) → WireRule (record { graph = graph_from first_graph l; book = (run One (calls_of l)).book })
run_obeys_wire_rule l =
    subst (λ (m : MultiPortGraph). WireRule (record { graph = m; book = (run One (calls_of l)).book })) (sym (run_is_history l)) (wire_rule One (calls_of l))

-- what comes later changes no earlier answer, and goes on from the graph that was left
pub answers_go_on : (m : MultiPortGraph) (l k : List Request) → answers_from m (l ++ k) ≡ answers_from m l ++ answers_from (graph_from m l) k
unfolding answers_from graph_from
answers_go_on m [] k = refl
answers_go_on m (q ∷ l) k =
    ap (λ r. five (numbers m (asked q)) ++ r) (answers_go_on (after m (asked q)) l k)

-- each answer is what the definitions give on the graph of the calls before it
pub answer_of_history : (l : List Request) (q : Request) (k : List Request) →
    answers_from first_graph (l ++ (q ∷ k))
    ≡ answers_from first_graph l ++ (five (numbers (run One (calls_of l)).graph (asked q)) ++ answers_from (after (run One (calls_of l)).graph (asked q)) k)
unfolding answers_from
answer_of_history l q k =
    answers_go_on first_graph l (q ∷ k)
    ∙ ap (λ m. answers_from first_graph l ++ (five (numbers m (asked q)) ++ answers_from (after m (asked q)) k)) (run_is_history l)
