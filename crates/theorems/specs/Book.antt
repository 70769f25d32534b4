-- The wire book of 01: fed each call with its answer, the marks before it of the ports that it names and, after an accepted
-- resize, the node's ports as walked. No graph stands in its types.
use Rattle.std.specs.Prelude.{Bool, false, not, cond, List, [], ◌∷◌, ℕ, suc, ◌+◌, eqb, take, drop, Option, Some, None, Result, Ok, Err}
use Rattle.port_tables.specs.Lists.{range}
use Rattle.std.specs.List.{filter}
use Rattle.port_tables.specs.declared.direction.Direction.{Direction}
use Rattle.port_tables.specs.declared.direction.Direction.TheVariants.{Incoming, Outgoing}
use Rattle.port_tables.specs.Places.{Spot, nowhere, spot, at_spot, at_end, wire_of_sides, of_node, of_dropped, Place, Wire, without, next_offset}
use Rattle.port_tables.specs.declared.index.NodeIndex.{NodeIndex}
use Rattle.port_tables.specs.declared.index.PortIndex.{PortIndex}
use Rattle.multi_tables.specs.declared.answers.Refusal.{Refusal}
use Rattle.multi_tables.specs.declared.answers.SubportIndex.{SubportIndex}
use Rattle.multi_tables.specs.declared.answers.PortPlace.{PortPlace}

-- The calls that give back a graph.
pub data Call : Type 0 where
  add_call : ℕ → ℕ → Call
  remove_call : ℕ → Call
  -- node, incoming, outgoing, and the length of the move list
  set_call : ℕ → ℕ → ℕ → ℕ → Call
  link_call : ℕ → ℕ → Call
  link_clean_call : ℕ → ℕ → Call
  link_sub_call : ℕ → ℕ → ℕ → ℕ → Call
  cut_call : ℕ → Call
  cut_sub_call : ℕ → ℕ → Call
  tidy_call : ℕ → Call

-- what a call answers follows from the call
abbrev pub AnswerOf : Call → Type 0
AnswerOf (add_call i o) = Result (NodeIndex × PortIndex) Refusal
AnswerOf (remove_call n) = Result (Unit {0}) Refusal
AnswerOf (set_call n i o room) = Result ℕ Refusal
AnswerOf (link_call a b) = Result (SubportIndex × SubportIndex) Refusal
AnswerOf (link_clean_call a b) = Result (SubportIndex × SubportIndex) Refusal
AnswerOf (link_sub_call p o q r) = Result (SubportIndex × SubportIndex) Refusal
AnswerOf (cut_call p) = Result (Option (SubportIndex × PortPlace)) Refusal
AnswerOf (cut_sub_call p o) = Result (Option (SubportIndex × PortPlace)) Refusal
AnswerOf (tidy_call p) = Result (Unit {0}) Refusal

-- a block with its ports by side and position
pub record Block : Type 0 where
  pub node : ℕ
  pub ins : List ℕ
  pub outs : List ℕ

pub record Book : Type 0 where
  pub blocks : List Block
  pub wires : List Wire

abbrev pub empty_book : Book
empty_book = record { blocks = []; wires = [] }

-- a port among a side's ports, of which the first has position i
unfoldable pub spot_among : ℕ → Direction → ℕ → List ℕ → ℕ → Spot → Spot
spot_among n d p [] i other = other
spot_among n d p (q ∷ l) i other = cond (eqb p q) (spot n d i) (spot_among n d p l (suc i) other)

unfoldable pub spot_of : List Block → ℕ → Spot
spot_of [] p = nowhere
spot_of (b ∷ l) p = spot_among b.node Incoming p b.ins 0 (spot_among b.node Outgoing p b.outs 0 (spot_of l p))

abbrev pub add_wire : List Wire → Spot → ℕ → Spot → ℕ → List Wire
add_wire wires nowhere o t r = wires
add_wire wires (spot n d i) o nowhere r = wires
add_wire wires (spot n d i) o (spot k e j) r =
    wire_of_sides d (record { node = n; side = d; pos = i; offset = o }) (record { node = k; side = e; pos = j; offset = r }) ∷ wires

-- an offset as read: 0 on a port that is not split
abbrev pub read_by : Bool → ℕ → ℕ
read_by mark o = cond mark o 0

abbrev pub not_block : ℕ → Block → Bool
not_block n b = not (eqb b.node n)

-- the marks before the call, of the ports that it names; a port's own mark is the first
abbrev pub first_mark : List Bool → Bool
first_mark [] = false
first_mark (b ∷ l) = b

abbrev pub second_mark : List Bool → Bool
second_mark [] = false
second_mark (b ∷ l) = first_mark l

-- What each accepted call does to the book. Refused calls change nothing.

abbrev pub book_add : Book → ℕ → ℕ → Result (NodeIndex × PortIndex) Refusal → Book
book_add B incoming outgoing (Ok (n, p)) =
    record {
      blocks = record { node = n.0; ins = range p.0 incoming; outs = range (p.0 + incoming) outgoing } ∷ B.blocks;
      wires = B.wires;
    }
book_add B incoming outgoing (Err r) = B

abbrev pub book_remove : Book → ℕ → Result (Unit {0}) Refusal → Book
book_remove B n (Ok tt) = record { blocks = filter (not_block n) B.blocks; wires = without (of_node n) B.wires }
book_remove B n (Err r) = B

abbrev pub book_set : Book → ℕ → ℕ → ℕ → Result ℕ Refusal → List ℕ → Book
book_set B n incoming outgoing (Ok e) ports =
    record {
      blocks = record { node = n; ins = take incoming ports; outs = drop incoming ports } ∷ filter (not_block n) B.blocks;
      wires = without (of_dropped n incoming outgoing) B.wires;
    }
book_set B n incoming outgoing (Err r) ports = B

abbrev pub with_wires : Book → List Wire → Book
with_wires B wires = record { blocks = B.blocks; wires = wires }

-- one more wire, each named port at its lowest unwired offset
abbrev pub book_link : Book → ℕ → ℕ → Result (SubportIndex × SubportIndex) Refusal → Book
book_link B a b (Ok (s, t)) =
    with_wires B
    (add_wire B.wires
    (spot_of B.blocks a) (next_offset B.wires (spot_of B.blocks a))
    (spot_of B.blocks b) (next_offset B.wires (spot_of B.blocks b)))
book_link B a b (Err r) = B

-- one more, between the ends named
abbrev pub book_link_sub : Book → ℕ → ℕ → ℕ → ℕ → Result (SubportIndex × SubportIndex) Refusal → List Bool → Book
book_link_sub B p o q r (Ok (s, t)) marks =
    with_wires B
    (add_wire B.wires (spot_of B.blocks p) (read_by (first_mark marks) o) (spot_of B.blocks q) (read_by (second_mark marks) r))
book_link_sub B p o q r (Err x) marks = B

abbrev pub book_cut : Book → (Place → Bool) → Result (Option (SubportIndex × PortPlace)) Refusal → Book
book_cut B f (Ok (Some (s, x))) = with_wires B (without f B.wires)
book_cut B f (Ok None) = with_wires B (without f B.wires)
book_cut B f (Err r) = B

abbrev pub book_answer : Book → (c : Call) → AnswerOf c → List Bool → List ℕ → Book
book_answer B (add_call i o) a marks ports = book_add B i o a
book_answer B (remove_call n) a marks ports = book_remove B n a
book_answer B (set_call n i o room) a marks ports = book_set B n i o a ports
book_answer B (link_call a b) x marks ports = book_link B a b x
book_answer B (link_clean_call a b) x marks ports = book_link B a b x
book_answer B (link_sub_call p o q r) x marks ports = book_link_sub B p o q r x marks
book_answer B (cut_call p) x marks ports = book_cut B (at_spot (spot_of B.blocks p)) x
book_answer B (cut_sub_call p o) x marks ports = book_cut B (at_end (spot_of B.blocks p) (read_by (first_mark marks) o)) x
-- a tidy is no change
book_answer B (tidy_call p) x marks ports = B
