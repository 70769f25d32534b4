-- The words of `answers_are_wires` and `link_answers_the_wire`: what a call answers of a wire, against the book.
use Rattle.std.specs.Prelude.{◌≡◌, true, false, ◌∷◌, ◌↔◌, ℕ, ◌≤◌, Option, Some, None, Result, Ok, Err}
use Rattle.port_tables.specs.Lists.{Member}
use Rattle.port_tables.specs.declared.direction.Direction.{Direction}
use Rattle.multiportgraph.specs.Reading.{is_split, seen, end_at, as_read, subport_of}
use Rattle.multi_tables.specs.Forms.{visible, inner, subport#}
use Rattle.multiportgraph.specs.Refusals.{end_of}
use Rattle.multiportgraph.specs.Calls.{subport_link, cut_port, cut_sub}
use Rattle.port_tables.specs.Places.{Wire, wire_of_sides}
use Rattle.multiportgraph.specs.Wires.{place_of}
use Rattle.multiportgraph.specs.declared.multiportgraph.MultiPortGraph.{MultiPortGraph}
use Rattle.multi_tables.specs.declared.answers.SubportIndex.{SubportIndex}
use Rattle.multi_tables.specs.EndAnswers.{unplaced}
use Rattle.theorems.specs.History.{State, next}
use Rattle.theorems.specs.Claims.{Link, by_ports, by_ports_clean, by_subports, linking}
use Rattle.multi_tables.specs.declared.answers.Refusal.{Refusal}
use Rattle.multiportgraph.specs.WellFormed.{HasEnd}

-- the wire between two subports of a graph, the outgoing one first: the side of the first one's port tells which that is
abbrev pub wire_between : MultiPortGraph → SubportIndex → SubportIndex → Wire
wire_between m s t = wire_of_sides (place_of m s).side (place_of m s) (place_of m t)

-- the ports that a link names
abbrev pub first_named : Link → ℕ
first_named (by_ports a b) = a
first_named (by_ports_clean a b) = a
first_named (by_subports p o q r) = p

abbrev pub second_named : Link → ℕ
second_named (by_ports a b) = b
second_named (by_ports_clean a b) = b
second_named (by_subports p o q r) = q

-- An accepted link answers subports of the ports named, the first named first, and enters in the book the wire between them. Their
-- places are read on the graph that the link leaves, which has both subports; the graph handed in may lack one, but puts its port
-- at the same place.
pub record AnswersItsWire (s : State) (l : Link) (x y : SubportIndex) : Type 0 where
  pub first : x.port.0 ≡ first_named l
  pub second : y.port.0 ≡ second_named l
  pub wire : (next s (linking l)).book.wires ≡ wire_between (next s (linking l)).graph x y ∷ s.book.wires
  pub first_place : place_of s.graph x ≡ place_of (next s (linking l)).graph x
  pub second_place : place_of s.graph y ≡ place_of (next s (linking l)).graph y

-- a live port of a block
abbrev pub PortOfBlock : MultiPortGraph → ℕ → Type 0
PortOfBlock m p = (n : ℕ) × (d : Direction) × (seen m p ≡ visible n d)

-- an end that is there, so that naming it is not refused: a live port of a block, and an offset that it has
pub record EndThere (m : MultiPortGraph) (p o : ℕ) : Type 0 where
  pub node : ℕ
  pub side : Direction
  pub in_port : ℕ
  pub shown : seen m p ≡ visible node side
  pub small : o ≤ 65534
  pub there : end_at m p side o ≡ inner in_port

-- a subport that is there, with the offset that answers give: 0 on an unsplit port
abbrev pub SubportThere : MultiPortGraph → SubportIndex → Type 0
SubportThere m t = EndThere m t.port.0 t.subport_offset × (as_read m t.port.0 t.subport_offset ≡ t)

-- What asking and cutting answer, without the place; PlaceClaims says what the place is.
abbrev pub asked : MultiPortGraph → ℕ → ℕ → Result (Option SubportIndex) Refusal
asked m p o = unplaced (subport_link m p o)

abbrev pub cut_answer : MultiPortGraph → ℕ → Result (Option SubportIndex) Refusal
cut_answer m p = unplaced (cut_port m p).answer

-- two subports that are there, each found where the other is asked
pub record EndsFound (m : MultiPortGraph) (x y : SubportIndex) : Type 0 where
  pub first_there : SubportThere m x
  pub second_there : SubportThere m y
  pub of_first : asked m x.port.0 x.subport_offset ≡ Ok (Some y)
  pub of_second : asked m y.port.0 y.subport_offset ≡ Ok (Some x)

-- Asking what the end of a port at an offset, as read, is linked with: found exactly if the book has a wire from there, and then the
-- subport at its other end; nothing exactly if no wire of the book ends there.
pub record AsksTheBook (s : State) (p o : ℕ) : Type 0 where
  pub found : (t : SubportIndex) →
      (asked s.graph p o ≡ Ok (Some t))
      ↔ (PortOfBlock s.graph t.port.0 × Member (wire_between s.graph (as_read s.graph p o) t) s.book.wires)
  pub nothing :
      (asked s.graph p o ≡ Ok None)
      ↔ ((w : Wire) → Member w s.book.wires → HasEnd w (place_of s.graph (as_read s.graph p o)) → ⊥)
  -- a subport found is there, and asking there finds the end named
  pub found_there : (t : SubportIndex) → asked s.graph p o ≡ Ok (Some t) → SubportThere s.graph t
  pub found_back : (t : SubportIndex) → asked s.graph p o ≡ Ok (Some t) →
      asked s.graph t.port.0 t.subport_offset ≡ Ok (Some (as_read s.graph p o))

-- the answer to a cut of an unsplit port, by the subport at the far end: its inner port, with offset 0
abbrev pub cut_far : MultiPortGraph → Result (Option SubportIndex) Refusal → Result (Option SubportIndex) Refusal
cut_far m (Ok (Some t)) = Ok (Some (subport# (end_of m t.port.0 t.subport_offset) 0))
cut_far m (Ok None) = Ok None
cut_far m (Err r) = Err r

-- Cutting a port of a block. Unsplit, it answers the inner port of the far end of its wire, with offset 0, and nothing exactly if
-- the book has no wire at the port, whatever the offset. Split, it answers the port itself with offset 0, with wires or without.
pub record CutsTheBook (s : State) (p : ℕ) : Type 0 where
  pub plain : is_split s.graph p ≡ false → cut_answer s.graph p ≡ cut_far s.graph (asked s.graph p 0)
  pub plain_found : is_split s.graph p ≡ false → (u : SubportIndex) →
      (cut_answer s.graph p ≡ Ok (Some u))
      ↔ ((t : SubportIndex) × PortOfBlock s.graph t.port.0 × Member (wire_between s.graph (subport# p 0) t) s.book.wires
      × (u ≡ subport# (end_of s.graph t.port.0 t.subport_offset) 0))
  pub plain_read : is_split s.graph p ≡ false → (q : ℕ) → cut_answer s.graph p ≡ Ok (Some (subport# q 0)) →
      asked s.graph p 0 ≡ Ok (Some (subport_of s.graph q))
  pub plain_nothing : is_split s.graph p ≡ false →
      (cut_answer s.graph p ≡ Ok None)
      ↔ ((w : Wire) → Member w s.book.wires → (o : ℕ) → HasEnd w (place_of s.graph (subport# p o)) → ⊥)
  pub split : is_split s.graph p ≡ true → cut_answer s.graph p ≡ Ok (Some (subport# p 0))

-- What is answered of a wire is what the book has.
pub record AnswersAreWires (s : State) : Type 0 where
  pub asks : (p o : ℕ) → EndThere s.graph p o → AsksTheBook s p o
  -- a cut at a subport answers what asking does, the place too, whatever port and offset, refused or not
  pub cuts_sub : (p o : ℕ) → (cut_sub s.graph p o).answer ≡ subport_link s.graph p o
  pub cuts : (p : ℕ) → PortOfBlock s.graph p → CutsTheBook s p
