-- Req 06: what a file is held to before anything is built from it, the calls that build its wiring, and what a load answers and gives.
-- A load names the release that it builds for (Req 09); the file holds none.
use Rattle.std.specs.List.{list_all}
use Rattle.std.specs.Prelude.{Bool, true, false, cond, not, ◌&&◌, List, [], ◌∷◌, ◌++◌, map, ℕ, zero, suc, ◌+◌, ◌-◌, ◌*◌, ◌/◌, ◌%◌, eqb, leb, ltb, length, get_or, take, drop, Result, Ok, Err}
use Rattle.port_tables.specs.Limits.{Limits, present}
use Rattle.multiportgraph.specs.declared.multiportgraph.MultiPortGraph.{MultiPortGraph}
use Rattle.port_tables.specs.declared.release.Release.{Release}
use Rattle.multi_tables.specs.EndAnswers.{refusal_numbers}
use Rattle.multiportgraph.specs.Graph.{empty_graph}
use Rattle.theorems.specs.Book as book
use Rattle.theorems.specs.Book.{Call, AnswerOf}
use Rattle.theorems.specs.History.{step_under, run_under}
use Rattle.files.specs.View.{BlockPorts, RankWire, View, is_before}
use Rattle.files.specs.Layout.{Record, unit_records, field_at, word_at, sum_of, records_of, unbytes}
use Rattle.files.specs.declared.load.LoadError.{LoadError}
use Rattle.files.specs.declared.load.LoadError.TheVariants.{BadSums, BadLayout, Refused}

-- Refusal 16: the length is not a multiple of 512, or a unit's sum is wrong.

-- what a unit says as its sum is the sum of the words before
unfoldable pub sum_holds : List ℕ → Bool
sum_holds bytes = eqb (word_at bytes 508) (sum_of bytes)

-- the units of a file, each from its first byte on
unfoldable pub units_in : ℕ → List ℕ → List (List ℕ)
units_in zero bytes = []
units_in (suc n) bytes = take 512 bytes ∷ units_in n (drop 512 bytes)

unfoldable pub unit_list : List ℕ → List (List ℕ)
unit_list bytes = units_in (length bytes / 512) bytes

unfoldable pub is_whole : List ℕ → Bool
is_whole bytes = eqb (length bytes % 512) 0 && list_all sum_holds (unit_list bytes)

-- Refusal 17: kinds, counts, zeros, order, ranks or positions break the layout.

abbrev pub kind_of : List ℕ → ℕ
kind_of unit = field_at unit 0

abbrev pub count_of : List ℕ → ℕ
count_of unit = field_at unit 2

-- kinds: units of kind 1, then units of kind 2, and no others
abbrev pub of_kind : ℕ → List ℕ → Bool
of_kind kind unit = eqb (kind_of unit) kind

unfoldable pub kinds_right : List (List ℕ) → Bool
kinds_right [] = true
kinds_right (u ∷ l) = cond (of_kind 1 u) (kinds_right l) (list_all (of_kind 2) (u ∷ l))

-- counts: 1 to 63 records, and 63 where another unit of the same kind comes next
abbrev pub goes_on : List ℕ → List (List ℕ) → Bool
goes_on unit [] = false
goes_on unit (u ∷ l) = of_kind (kind_of unit) u

unfoldable pub counts_right : List (List ℕ) → Bool
counts_right [] = true
counts_right (u ∷ l) = leb (cond (goes_on u l) unit_records 1) (count_of u) && (leb (count_of u) unit_records && counts_right l)

-- zeros: the unused records of a unit, and the last two fields of a block's record
abbrev pub zeros_from : ℕ → List ℕ → Bool
zeros_from i unit = list_all (eqb 0) (take (8 * (unit_records - count_of unit)) (drop i unit))

abbrev pub block_zeros : Record → Bool
block_zeros r = eqb 0 r.c && eqb 0 r.d

unfoldable pub zeros_right : List ℕ → Bool
zeros_right unit = zeros_from (4 + 8 * count_of unit) unit && cond (of_kind 1 unit) (list_all block_zeros (records_of unit)) true

-- order: no wire precedes the one before it
unfoldable pub order_right : List RankWire → Bool
order_right [] = true
order_right (w ∷ []) = true
order_right (w ∷ v ∷ l) = not (is_before v w) && order_right (v ∷ l)

-- ranks: those of blocks of the file
unfoldable pub ranks_right : List BlockPorts → RankWire → Bool
ranks_right blocks w = ltb w.source (length blocks) && ltb w.target (length blocks)

-- positions: an output of the source, an input of the target
abbrev pub block_at : List BlockPorts → ℕ → BlockPorts
block_at blocks r = get_or blocks r (record { incoming = 0; outgoing = 0 })

unfoldable pub positions_right : List BlockPorts → RankWire → Bool
positions_right blocks w = ltb w.output (block_at blocks w.source).outgoing && ltb w.input (block_at blocks w.target).incoming

-- what the units say by themselves, and what the wires say of the blocks
unfoldable pub units_right : List (List ℕ) → Bool
units_right units = kinds_right units && (counts_right units && list_all zeros_right units)

unfoldable pub view_right : View → Bool
view_right v = order_right v.wires && (list_all (ranks_right v.blocks) v.wires && list_all (positions_right v.blocks) v.wires)

unfoldable pub is_laid : List ℕ → Bool
is_laid bytes = units_right (unit_list bytes) && view_right (unbytes bytes)

-- Building.

-- blocks take their ports one after the other, incoming ones first: the first port of the block of a rank
unfoldable pub first_port : List BlockPorts → ℕ → ℕ
first_port [] r = 0
first_port (b ∷ l) zero = 0
first_port (b ∷ l) (suc r) = b.incoming + b.outgoing + first_port l r

abbrev pub out_port : List BlockPorts → RankWire → ℕ
out_port blocks w = first_port blocks w.source + (block_at blocks w.source).incoming + w.output

abbrev pub in_port : List BlockPorts → RankWire → ℕ
in_port blocks w = first_port blocks w.target + w.input

abbrev pub add_of : BlockPorts → Call
add_of b = book.add_call b.incoming b.outgoing

abbrev pub link_of : List BlockPorts → RankWire → Call
link_of blocks w = book.link_call (out_port blocks w) (in_port blocks w)

-- blocks are added in file order, then wires linked in file order, the output named first
unfoldable pub build_of : View → List Call
build_of v = map add_of v.blocks ++ map (link_of v.blocks) v.wires

-- the first refusal of a list of adds and links, each on the graph that the last one left; other calls stand in no build
abbrev pub after_call : (c : Call) → AnswerOf c → Result (Unit {0}) LoadError → Result (Unit {0}) LoadError
after_call (book.add_call i o) (Ok (n, p)) rest = rest
after_call (book.add_call i o) (Err r) rest = Err (Refused r)
after_call (book.link_call a b) (Ok (s, t)) rest = rest
after_call (book.link_call a b) (Err r) rest = Err (Refused r)
after_call (book.remove_call n) v rest = rest
after_call (book.set_call n i o room) v rest = rest
after_call (book.link_clean_call a b) v rest = rest
after_call (book.link_sub_call p o q r) v rest = rest
after_call (book.cut_call p) v rest = rest
after_call (book.cut_sub_call p o) v rest = rest
after_call (book.tidy_call p) v rest = rest

unfoldable pub first_refusal_under : Limits → MultiPortGraph → List Call → Result (Unit {0}) LoadError
first_refusal_under L m [] = Ok tt
first_refusal_under L m (c ∷ l) = after_call c (step_under L m c).answer (first_refusal_under L (step_under L m c).graph l)

abbrev pub first_refusal : MultiPortGraph → List Call → Result (Unit {0}) LoadError
first_refusal = first_refusal_under present

-- The load.

-- 16 over all units before anything else, 17 over the whole file next, then the first add or link that is refused in a graph of the release
unfoldable pub load_answer_under : Limits → Release → List ℕ → Result (Unit {0}) LoadError
load_answer_under L release bytes =
    cond (is_whole bytes) (cond (is_laid bytes) (first_refusal_under L (empty_graph release) (build_of (unbytes bytes))) (Err BadLayout)) (Err BadSums)

abbrev pub load_answer : Release → List ℕ → Result (Unit {0}) LoadError
load_answer = load_answer_under present

-- the graph of an answer: a refused load gives the empty one of the release
abbrev pub graph_if : Release → Result (Unit {0}) LoadError → MultiPortGraph → MultiPortGraph
graph_if release (Ok _) m = m
graph_if release (Err _) m = empty_graph release

unfoldable pub load_graph_under : Limits → Release → List ℕ → MultiPortGraph
load_graph_under L release bytes = graph_if release (load_answer_under L release bytes) (run_under L release (build_of (unbytes bytes))).graph

abbrev pub load_graph : Release → List ℕ → MultiPortGraph
load_graph = load_graph_under present

-- 01's numbers of the answer
abbrev pub load_numbers : Result (Unit {0}) LoadError → List ℕ
load_numbers (Ok _) = 0 ∷ []
load_numbers (Err BadSums) = 16 ∷ []
load_numbers (Err BadLayout) = 17 ∷ []
load_numbers (Err (Refused r)) = refusal_numbers r
