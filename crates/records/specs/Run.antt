-- The record run of 01: what a request asks, its answer, the run from the empty graph of release 1, and refusal 1.
use Rattle.std.specs.Prelude.{◌≡◌, Bool, true, false, cond, List, [], ◌∷◌, ◌++◌, ℕ, ◌%◌, eqb, get_or, length, take}
use Rattle.std.specs.List.{list_all}
use Rattle.multiportgraph.specs.Calls.{subport_link, visible_nodes, visible_ports, visible_links}
use Rattle.theorems.specs.Book.{Call, add_call, remove_call, set_call, link_call, link_clean_call, link_sub_call, cut_call, cut_sub_call, tidy_call}
use Rattle.theorems.specs.History.{step, numbers_of}
use Rattle.multiportgraph.specs.WellFormed.{MultiWf}
use Rattle.multiportgraph.specs.declared.multiportgraph.MultiPortGraph.{MultiPortGraph}
use Rattle.records.specs.Words.{bytes_of, Request, requests_of}
use Rattle.port_tables.specs.declared.release.Release.TheVariants.{One}
use Rattle.multiportgraph.specs.Graph.{empty_graph}
use Rattle.multiportgraph.specs.Answers.{cut_numbers}
use Rattle.multi_tables.specs.Forms.{good_offset}
use Rattle.multiportgraph.specs.HiddenNodes.{enough}

-- What a request asks: a call that gives back a graph, one that reads, or nothing (refusal 2).
pub data Asked : Type 0 where
  call : Call → Asked
  -- the link of a subport
  link_of : ℕ → ℕ → Asked
  -- visible nodes, ports and links
  counts : Asked
  refused : Asked

abbrev pub all_zero : List ℕ → Bool
all_zero = list_all (eqb 0)

-- the unused words have to be 0
abbrev pub unused : List ℕ → Asked → Asked
unused l x = cond (all_zero l) x refused

abbrev pub good_offsets : List ℕ → Bool
good_offsets [] = true
good_offsets (o ∷ l) = cond (good_offset o) (good_offsets l) false

-- no offset may exceed 65,534
abbrev pub offsets : List ℕ → Asked → Asked
offsets l x = cond (good_offsets l) x refused

-- code and arguments; the move list of a run is long enough for every node
unfoldable pub asked_by : ℕ → ℕ → ℕ → ℕ → ℕ → Asked
asked_by code a b c d =
    cond (eqb code 1) (unused (c ∷ d ∷ []) (call (add_call a b)))
    (cond (eqb code 2) (unused (b ∷ c ∷ d ∷ []) (call (remove_call a)))
    (cond (eqb code 3) (unused (d ∷ []) (call (set_call a b c enough)))
    (cond (eqb code 4) (unused (c ∷ d ∷ []) (call (link_call a b)))
    (cond (eqb code 5) (unused (b ∷ c ∷ d ∷ []) (call (cut_call a)))
    (cond (eqb code 6) (offsets (b ∷ d ∷ []) (call (link_sub_call a b c d)))
    (cond (eqb code 7) (unused (c ∷ d ∷ []) (offsets (b ∷ []) (call (cut_sub_call a b))))
    (cond (eqb code 8) (unused (c ∷ d ∷ []) (offsets (b ∷ []) (link_of a b)))
    (cond (eqb code 9) (unused (a ∷ b ∷ c ∷ d ∷ []) counts)
    refused))))))))

abbrev pub asked : Request → Asked
asked q = asked_by q.code q.a q.b q.c q.d

-- the graph afterwards
abbrev pub after : MultiPortGraph → Asked → MultiPortGraph
after m (call x) = (step m x).graph
after m (link_of p o) = m
after m counts = m
after m refused = m

-- a record has no room for the place of an end that is found: the layout keeps the four numbers before it
abbrev pub without_place : List ℕ → List ℕ
without_place l = take 4 l

abbrev pub recorded : Call → List ℕ → List ℕ
recorded (add_call i o) l = l
recorded (remove_call n) l = l
recorded (set_call n i o room) l = l
recorded (link_call a b) l = l
recorded (link_clean_call a b) l = l
recorded (link_sub_call p o q r) l = l
recorded (cut_call p) l = without_place l
recorded (cut_sub_call p o) l = without_place l
recorded (tidy_call p) l = l

-- 0 or the refusal, then values
abbrev pub numbers : MultiPortGraph → Asked → List ℕ
numbers m (call x) = recorded x (numbers_of x (step m x).answer)
numbers m (link_of p o) = without_place (cut_numbers (subport_link m p o))
numbers m counts = 0 ∷ visible_nodes m ∷ visible_ports m ∷ visible_links m ∷ []
numbers m refused = 2 ∷ []

-- five words, the rest 0
abbrev pub five : List ℕ → List ℕ
five l = get_or l 0 0 ∷ get_or l 1 0 ∷ get_or l 2 0 ∷ get_or l 3 0 ∷ get_or l 4 0 ∷ []

-- What is asked of a graph is answered by these words and leaves this graph, which is again one of the calls.
pub record Answered (m : MultiPortGraph) (x : Asked) (words : List ℕ) (m' : MultiPortGraph) : Type 0 where
  pub told : words ≡ five (numbers m x)
  pub graph : m' ≡ after m x
  pub kept : MultiWf m'

-- the words of the answers, and the graph at the end; a refused call does not stop the run
unfoldable pub answers_from : MultiPortGraph → List Request → List ℕ
answers_from m [] = []
answers_from m (q ∷ l) = five (numbers m (asked q)) ++ answers_from (after m (asked q)) l

unfoldable pub graph_from : MultiPortGraph → List Request → MultiPortGraph
graph_from m [] = m
graph_from m (q ∷ l) = graph_from (after m (asked q)) l

-- the calls of a list of requests that give back a graph, for the history that the wire rule speaks of
abbrev pub call_then : Asked → List Call → List Call
call_then (call x) l = x ∷ l
call_then (link_of p o) l = l
call_then counts l = l
call_then refused l = l

unfoldable pub calls_of : List Request → List Call
calls_of [] = []
calls_of (q ∷ l) = call_then (asked q) (calls_of l)

-- a run begins with the empty graph of release 1
abbrev pub first_graph : MultiPortGraph
first_graph = empty_graph One

-- the bytes of every answer to a list of requests
abbrev pub answer_bytes : List ℕ → List ℕ
answer_bytes requests = bytes_of (answers_from first_graph (requests_of requests))

-- refusal 1: the length is not a multiple of 20 or differs from the answer buffer's
unfoldable pub list_taken : List ℕ → List ℕ → Bool
list_taken requests answers = cond (eqb (length requests) (length answers)) (eqb (length requests % 20) 0) false

-- what the entry returns
unfoldable pub returned : List ℕ → List ℕ → ℕ
returned requests answers = cond (list_taken requests answers) 0 1

-- the answer buffer afterwards: every answer, or after refusal 1 what it held
unfoldable pub written : List ℕ → List ℕ → List ℕ
written requests answers = cond (list_taken requests answers) (answer_bytes requests) answers
