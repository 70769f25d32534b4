-- The words of the theorems about releases: a graph as made for another release, a call without the check of 18, and the calls of a
-- history with their answers, from which those that gave 18 can be left out.
use Rattle.std.specs.Prelude.{Bool, false, not, List, [], ◌∷◌, map, ℕ, eqb}
use Rattle.port_tables.specs.Limits.{present}
use Rattle.std.specs.List.{filter}
use Rattle.multiportgraph.specs.Graph.{multi, empty_graph}
use Rattle.multiportgraph.specs.Calls.{link_pair_if, link_clean_if, link_sub_if}
use Rattle.multiportgraph.specs.declared.multiportgraph.MultiPortGraph.{MultiPortGraph}
use Rattle.port_tables.specs.declared.release.Release.{Release}
use Rattle.port_tables.specs.declared.release.Release.TheVariants.{Two}
use Rattle.theorems.specs.Book as book
use Rattle.theorems.specs.Book.{Call, AnswerOf, empty_book}
use Rattle.theorems.specs.History.{Stepped, State, step, next, numbers_of}

-- the graph, made for this release; all else is the same
abbrev pub for_release : Release → MultiPortGraph → MultiPortGraph
for_release release m = multi m.graph m.multiport m.copy_node m.copy_node_count m.subport_count release

-- One call without the check of 18. Only the links have it: false stands where they ask whether an input is taken.
abbrev pub step_unchecked : MultiPortGraph → (c : Call) → Stepped c
step_unchecked m (book.add_call i o) = step m (book.add_call i o)
step_unchecked m (book.remove_call n) = step m (book.remove_call n)
step_unchecked m (book.set_call n i o room) = step m (book.set_call n i o room)
step_unchecked m (book.link_call a b) = record { graph = (link_pair_if false present m a b).graph; answer = (link_pair_if false present m a b).answer }
step_unchecked m (book.link_clean_call a b) = record { graph = (link_clean_if false present m a b).graph; answer = (link_clean_if false present m a b).answer }
step_unchecked m (book.link_sub_call p o q r) = record { graph = (link_sub_if false m p o q r).graph; answer = (link_sub_if false m p o q r).answer }
step_unchecked m (book.cut_call p) = step m (book.cut_call p)
step_unchecked m (book.cut_sub_call p o) = step m (book.cut_sub_call p o)
step_unchecked m (book.tidy_call p) = step m (book.tidy_call p)

-- the same step, but that its graph is made for this release
abbrev pub stepped_for : Release → {c : Call} → Stepped c → Stepped c
stepped_for release s = record { graph = for_release release s.graph; answer = s.answer }

-- the number of an answer: the first of its numbers, 0 where the call is accepted
abbrev pub first_of : List ℕ → ℕ
first_of [] = 0
first_of (n ∷ l) = n

abbrev pub number_of : (c : Call) → AnswerOf c → ℕ
number_of c a = first_of (numbers_of c a)

-- A history by its answers.

-- a call with what it answered
pub record Answered : Type 0 where
  pub call : Call
  pub answer : AnswerOf call

-- graph and book at the start
abbrev pub start : Release → State
start release = record { graph = empty_graph release; book = empty_book }

-- the calls with their answers, in order
unfoldable pub answers_from : State → List Call → List Answered
answers_from s [] = []
answers_from s (c ∷ l) = record { call = c; answer = (step s.graph c).answer } ∷ answers_from (next s c) l

abbrev pub answers : Release → List Call → List Answered
answers release calls = answers_from (start release) calls

-- those that did not give 18
abbrev pub passed : Answered → Bool
passed a = not (eqb (number_of a.call a.answer) 18)

abbrev pub without18 : List Answered → List Answered
without18 l = filter passed l

-- the calls alone
abbrev pub calls_of : List Answered → List Call
calls_of l = map (λ (a : Answered). a.call) l

-- a list of calls without those that give 18 when it is run under release 2
abbrev pub calls_passed : List Call → List Call
calls_passed calls = calls_of (without18 (answers Two calls))
