-- Histories: lists of calls from the empty graph, each on the graph that the last one left, with the book beside it.
use Rattle.std.specs.Prelude.{Bool, List, [], ◌∷◌, ℕ}
use Rattle.port_tables.specs.Limits.{Limits, present}
use Rattle.multiportgraph.specs.Reading.{is_split}
use Rattle.multiportgraph.specs.Calls.{add_block_under, remove_block, set_counts_under, link_sub, cut_port, cut_sub, tidy_port, link_pair_under, link_clean_under}
use Rattle.multiportgraph.specs.Answers.{add_numbers, remove_numbers, set_numbers, link_numbers, cut_numbers, tidy_numbers}
use Rattle.multiportgraph.specs.Wires.{ports_walked}
use Rattle.theorems.specs.Book as book
use Rattle.theorems.specs.Book.{Call, AnswerOf, Book, empty_book, book_answer}
use Rattle.multiportgraph.specs.declared.multiportgraph.MultiPortGraph.{MultiPortGraph}
use Rattle.port_tables.specs.declared.release.Release.{Release}
use Rattle.multiportgraph.specs.Graph.{empty_graph}

pub record Stepped (c : Call) : Type 0 where
  pub graph : MultiPortGraph
  pub answer : AnswerOf c

-- one call, under limits
abbrev pub step_under : Limits → MultiPortGraph → (c : Call) → Stepped c
step_under L m (book.add_call i o) = record { graph = (add_block_under L m i o).graph; answer = (add_block_under L m i o).answer }
step_under L m (book.remove_call n) = record { graph = (remove_block m n).graph; answer = (remove_block m n).answer }
step_under L m (book.set_call n i o room) = record { graph = (set_counts_under L m n i o room).graph; answer = (set_counts_under L m n i o room).answer }
step_under L m (book.link_call a b) = record { graph = (link_pair_under L m a b).graph; answer = (link_pair_under L m a b).answer }
step_under L m (book.link_clean_call a b) = record { graph = (link_clean_under L m a b).graph; answer = (link_clean_under L m a b).answer }
step_under L m (book.link_sub_call p o q r) = record { graph = (link_sub m p o q r).graph; answer = (link_sub m p o q r).answer }
step_under L m (book.cut_call p) = record { graph = (cut_port m p).graph; answer = (cut_port m p).answer }
step_under L m (book.cut_sub_call p o) = record { graph = (cut_sub m p o).graph; answer = (cut_sub m p o).answer }
step_under L m (book.tidy_call p) = record { graph = (tidy_port m p).graph; answer = (tidy_port m p).answer }

abbrev pub step : MultiPortGraph → (c : Call) → Stepped c
step = step_under present

-- the marks of the ports that a call names
abbrev pub marks_named : MultiPortGraph → Call → List Bool
marks_named m (book.add_call i o) = []
marks_named m (book.remove_call n) = []
marks_named m (book.set_call n i o room) = []
marks_named m (book.link_call a b) = is_split m a ∷ is_split m b ∷ []
marks_named m (book.link_clean_call a b) = is_split m a ∷ is_split m b ∷ []
marks_named m (book.link_sub_call p o q r) = is_split m p ∷ is_split m q ∷ []
marks_named m (book.cut_call p) = is_split m p ∷ []
marks_named m (book.cut_sub_call p o) = is_split m p ∷ []
marks_named m (book.tidy_call p) = is_split m p ∷ []

-- what the book is shown after an accepted resize
abbrev pub ports_shown : MultiPortGraph → Call → List ℕ
ports_shown m (book.add_call i o) = []
ports_shown m (book.remove_call n) = []
ports_shown m (book.set_call n i o room) = ports_walked m n
ports_shown m (book.link_call a b) = []
ports_shown m (book.link_clean_call a b) = []
ports_shown m (book.link_sub_call p o q r) = []
ports_shown m (book.cut_call p) = []
ports_shown m (book.cut_sub_call p o) = []
ports_shown m (book.tidy_call p) = []

pub record State : Type 0 where
  pub graph : MultiPortGraph
  pub book : Book

-- what a call on a graph does to the book, under limits
abbrev pub entered_under : Limits → MultiPortGraph → Call → Book → Book
entered_under L m c B = book_answer B c (step_under L m c).answer (marks_named m c) (ports_shown (step_under L m c).graph c)

abbrev pub entered : MultiPortGraph → Call → Book → Book
entered = entered_under present

-- graph and book after one call
abbrev pub next_under : Limits → State → Call → State
next_under L s c = record { graph = (step_under L s.graph c).graph; book = entered_under L s.graph c s.book }

abbrev pub next : State → Call → State
next = next_under present

unfoldable pub run_from_under : Limits → State → List Call → State
run_from_under L s [] = s
run_from_under L s (c ∷ l) = run_from_under L (next_under L s c) l

abbrev pub run_from : State → List Call → State
run_from = run_from_under present

-- a history from the empty graph of a release, with the empty book
unfoldable pub run_under : Limits → Release → List Call → State
run_under L release calls = run_from_under L (record { graph = empty_graph release; book = empty_book }) calls

abbrev pub run : Release → List Call → State
run = run_under present

-- 01's numbers of a call's answer
abbrev pub numbers_of : (c : Call) → AnswerOf c → List ℕ
numbers_of (book.add_call i o) v = add_numbers v
numbers_of (book.remove_call n) v = remove_numbers v
numbers_of (book.set_call n i o room) v = set_numbers v
numbers_of (book.link_call a b) v = link_numbers v
numbers_of (book.link_clean_call a b) v = link_numbers v
numbers_of (book.link_sub_call p o q s) v = link_numbers v
numbers_of (book.cut_call p) v = cut_numbers v
numbers_of (book.cut_sub_call p o) v = cut_numbers v
numbers_of (book.tidy_call p) v = tidy_numbers v
