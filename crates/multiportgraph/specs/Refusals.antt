-- The refusals of each call, in the order in which they are tested: a table at the end, each line a condition on the graph handed
-- in, the refusal with what it carries, and the graph that it leaves. The first line that applies refuses the call; where none
-- does the call is done (Calls), and nothing that it then does can fail.
use Rattle.std.specs.Prelude.{Bool, true, false, cond, not, List, [], ◌∷◌, ℕ, ◌+◌, ◌*◌, eqb, leb, Option, Some, None, Ok, Err, Result}
use Rattle.port_tables.specs.Limits.{node_ports, Limits}
use Rattle.port_tables.specs.Entries.{same_side, port#}
use Rattle.portgraph.specs.Lookups.{meta_at, contains_node}
use Rattle.portgraph.specs.Calls.{add_node_under, link_ports}
use Rattle.portgraph.specs.Resize.{set_num_ports_under}
use Rattle.port_tables.specs.declared.direction.Direction.{Direction}
use Rattle.port_tables.specs.declared.direction.Direction.TheVariants.{Incoming, Outgoing}
use Rattle.multiportgraph.specs.Reading.{is_hidden, seen, end_at, side_of}
use Rattle.multi_tables.specs.Forms.{Port, dead, hidden, visible, End, inner, lacking, good_offset, taken_under}
use Rattle.multiportgraph.specs.declared.multiportgraph.MultiPortGraph.{MultiPortGraph}
use Rattle.multiportgraph.specs.Walks.{fan_out}
use Rattle.multi_tables.specs.declared.answers.Refusal.{Refusal}
use Rattle.multi_tables.specs.declared.answers.Refusal.TheVariants.{BadOffset, TooManyPorts, UnknownNode, HiddenNode, MovesTooShort, UnknownPort, HiddenPort, UnknownOffset, NoRoom, UnknownSecondPort, IncompatibleDirections, AlreadyLinked, InputWired}
use Rattle.multiportgraph.specs.HiddenNodes.{prepare_under, Prepared, ready, full}
use Rattle.port_tables.specs.declared.node_entry.NodeMeta.{NodeMeta}
use Rattle.portgraph.specs.declared.alloc.AddError.TheVariants as add_error
use Rattle.portgraph.specs.declared.portgraph.LinkError.TheVariants as link_error
use Rattle.portgraph.specs.declared.resize.SetError.TheVariants as set_error
use Rattle.port_tables.specs.declared.index.NodeIndex.{NodeIndex}
use Rattle.port_tables.specs.declared.index.PortIndex.{PortIndex}
use Rattle.portgraph.specs.declared.alloc.AddError.{AddError}
use Rattle.portgraph.specs.declared.portgraph.LinkError.{LinkError}
use Rattle.portgraph.specs.declared.resize.SetError.{SetError}

-- A line of the table.
pub record Line : Type 0 where
  pub applies : Bool
  pub refusal : Refusal
  pub leaves : MultiPortGraph

-- this graph is left, where this holds, with this refusal
abbrev pub refuse : MultiPortGraph → Bool → Refusal → Line
refuse m b r = record { applies = b; refusal = r; leaves = m }

-- the first line that applies, else what is done
abbrev pub checked : {A : Type 0} → List Line → (Line → A) → A → A
checked [] refused done = done
checked (l ∷ lines) refused done = cond l.applies (refused l) (checked lines refused done)

-- What a line asks.

-- a port is not live; it belongs to a hidden node
abbrev pub is_dead : Port → Bool
is_dead dead = true
is_dead hidden = false
is_dead (visible n d) = false

abbrev pub is_of_hidden : Port → Bool
is_of_hidden dead = false
is_of_hidden hidden = true
is_of_hidden (visible n d) = false

-- a live port of a block is split and has no such offset
abbrev pub is_lacking : End → Bool
is_lacking (inner x) = false
is_lacking lacking = true

abbrev pub lacks_seen : MultiPortGraph → ℕ → ℕ → Port → Bool
lacks_seen m p o dead = false
lacks_seen m p o hidden = false
lacks_seen m p o (visible n d) = is_lacking (end_at m p d o)

abbrev pub lacks_offset : MultiPortGraph → ℕ → ℕ → Bool
lacks_offset m p o = lacks_seen m p o (seen m p)

-- a live input of a block already has a wire
abbrev pub wired_side : MultiPortGraph → ℕ → Direction → Bool
wired_side m p Incoming = not (eqb (fan_out m p) 0)
wired_side m p Outgoing = false

abbrev pub wired_seen : MultiPortGraph → ℕ → Port → Bool
wired_seen m p dead = false
wired_seen m p hidden = false
wired_seen m p (visible n d) = wired_side m p d

unfoldable pub wired_input : MultiPortGraph → ℕ → Bool
wired_input m p = wired_seen m p (seen m p)

unfoldable pub input_taken : MultiPortGraph → ℕ → ℕ → Bool
input_taken m a b = taken_under m.release (wired_input m a) (wired_input m b)

-- the single-link graph has no room for a node, or for other counts of one
abbrev pub add_lacks_room : Result (NodeIndex × PortIndex) AddError → Bool
add_lacks_room (Ok (n, p)) = false
add_lacks_room (Err add_error.TooManyPorts) = false
add_lacks_room (Err add_error.NoRoom) = true

abbrev pub set_lacks_room : Result ℕ SetError → Bool
set_lacks_room (Ok e) = false
set_lacks_room (Err set_error.TooManyPorts) = false
set_lacks_room (Err set_error.UnknownNode) = false
set_lacks_room (Err set_error.MovesTooShort) = false
set_lacks_room (Err set_error.NoRoom) = true

-- the ports of a node; 0 where it is not live
abbrev pub ports_of : Option NodeMeta → ℕ
ports_of None = 0
ports_of (Some k) = k.incoming + k.outgoing

-- the inner ports of two ends are on one side; one of them is linked
abbrev pub on_one_side : Result (PortIndex × PortIndex) LinkError → Bool
on_one_side (Ok (x, y)) = false
on_one_side (Err (link_error.UnknownPort x)) = false
on_one_side (Err (link_error.UnknownSecondPort y)) = false
on_one_side (Err (link_error.IncompatibleDirections x y d)) = true
on_one_side (Err (link_error.AlreadyLinked x)) = false

abbrev pub one_linked : Result (PortIndex × PortIndex) LinkError → Bool
one_linked (Ok (x, y)) = false
one_linked (Err (link_error.UnknownPort x)) = false
one_linked (Err (link_error.UnknownSecondPort y)) = false
one_linked (Err (link_error.IncompatibleDirections x y d)) = false
one_linked (Err (link_error.AlreadyLinked x)) = true

-- and what is then carried
abbrev pub refused_below : Result (PortIndex × PortIndex) LinkError → Refusal
refused_below (Ok (x, y)) = NoRoom
refused_below (Err (link_error.UnknownPort x)) = UnknownPort x
refused_below (Err (link_error.UnknownSecondPort y)) = UnknownSecondPort y
refused_below (Err (link_error.IncompatibleDirections x y d)) = IncompatibleDirections x y d
refused_below (Err (link_error.AlreadyLinked x)) = AlreadyLinked x

-- the two ends of a link of ports: the first is prepared on the graph handed in, the second on what that left
abbrev pub is_full : Prepared → Bool
is_full full = true
is_full (ready m x o) = false

abbrev pub prepared_graph : MultiPortGraph → Prepared → MultiPortGraph
prepared_graph m full = m
prepared_graph m (ready m₁ x o) = m₁

abbrev pub prepared_port : Prepared → ℕ
prepared_port full = 0
prepared_port (ready m x o) = x

abbrev pub prepared_offset : Prepared → ℕ
prepared_offset full = 0
prepared_offset (ready m x o) = o

abbrev pub first_end : Limits → MultiPortGraph → ℕ → Prepared
first_end L m a = prepare_under L m a (side_of (seen m a))

abbrev pub second_end : Limits → MultiPortGraph → ℕ → ℕ → Prepared
second_end L m a b = prepare_under L (prepared_graph m (first_end L m a)) b (side_of (seen m b))

-- the first end finds no room, or else the second, where its port is live
abbrev pub link_lacks_room : Limits → MultiPortGraph → ℕ → ℕ → Bool
link_lacks_room L m a b = cond (is_full (first_end L m a)) true (cond (is_dead (seen m b)) false (is_full (second_end L m a b)))

-- what the single-link graph says of linking the inner ports of two ends
abbrev pub inner_port : End → ℕ
inner_port (inner x) = x
inner_port lacking = 0

abbrev pub end_of : MultiPortGraph → ℕ → ℕ → ℕ
end_of m p o = inner_port (end_at m p (side_of (seen m p)) o)

abbrev pub joining : MultiPortGraph → ℕ → ℕ → ℕ → ℕ → Result (PortIndex × PortIndex) LinkError
joining m p o q r = (link_ports m.graph (end_of m p o) (end_of m q r)).answer

-- The table. The links take whether 18 is given: `input_taken` in their calls (Calls).

-- 3, 10
abbrev pub add_refusals : Limits → MultiPortGraph → ℕ → ℕ → List Line
add_refusals L m incoming outgoing =
    refuse m (not (leb (incoming + outgoing) node_ports)) TooManyPorts
    ∷ refuse m (add_lacks_room (add_node_under L m.graph incoming outgoing).answer) NoRoom
    ∷ []

-- 4, 5
abbrev pub remove_refusals : MultiPortGraph → ℕ → List Line
remove_refusals m n =
    refuse m (not (contains_node m.graph n)) UnknownNode
    ∷ refuse m (is_hidden m n) HiddenNode
    ∷ []

-- 3, 4, 5, 6, 10; room is the length of the move list
abbrev pub set_refusals : Limits → MultiPortGraph → ℕ → ℕ → ℕ → ℕ → List Line
set_refusals L m n incoming outgoing room =
    refuse m (not (leb (incoming + outgoing) node_ports)) TooManyPorts
    ∷ refuse m (not (contains_node m.graph n)) UnknownNode
    ∷ refuse m (is_hidden m n) HiddenNode
    ∷ refuse m (not (leb (3 * ports_of (meta_at m.graph n)) room)) MovesTooShort
    ∷ refuse m (set_lacks_room (set_num_ports_under L m.graph n incoming outgoing room).answer) NoRoom
    ∷ []

-- 7, 8, 18, 10, 11, 12. Whether the second port is live is judged on the graph handed in; 11 and 12 keep what was prepared
abbrev pub link_refusals : Bool → Limits → MultiPortGraph → ℕ → ℕ → List Line
link_refusals taken L m a b =
    refuse m (is_dead (seen m a)) (UnknownPort (port# a))
    ∷ refuse m (is_of_hidden (seen m a)) (HiddenPort (port# a))
    ∷ refuse m (is_of_hidden (seen m b)) (HiddenPort (port# b))
    ∷ refuse m taken InputWired
    ∷ refuse m (link_lacks_room L m a b) NoRoom
    ∷ refuse (prepared_graph m (first_end L m a)) (is_dead (seen m b)) (UnknownSecondPort (port# b))
    ∷ refuse (prepared_graph m (second_end L m a b)) (same_side (side_of (seen m a)) (side_of (seen m b)))
    (IncompatibleDirections (port# (prepared_port (first_end L m a))) (port# (prepared_port (second_end L m a b))) (side_of (seen m a)))
    ∷ []

-- 7, 8, 18, 11, 12, 10, of the link that leaves no stub: 11 and 12 are settled on the graph handed in, so nothing is left, and 12 carries the
-- ports as named
abbrev pub link_clean_refusals : Bool → Limits → MultiPortGraph → ℕ → ℕ → List Line
link_clean_refusals taken L m a b =
    refuse m (is_dead (seen m a)) (UnknownPort (port# a))
    ∷ refuse m (is_of_hidden (seen m a)) (HiddenPort (port# a))
    ∷ refuse m (is_of_hidden (seen m b)) (HiddenPort (port# b))
    ∷ refuse m taken InputWired
    ∷ refuse m (is_dead (seen m b)) (UnknownSecondPort (port# b))
    ∷ refuse m (same_side (side_of (seen m a)) (side_of (seen m b))) (IncompatibleDirections (port# a) (port# b) (side_of (seen m a)))
    ∷ refuse m (link_lacks_room L m a b) NoRoom
    ∷ []

-- 2, 7, 8, 9, 18, 11, 12, 13
abbrev pub link_sub_refusals : Bool → MultiPortGraph → ℕ → ℕ → ℕ → ℕ → List Line
link_sub_refusals taken m p o q r =
    refuse m (not (good_offset o)) BadOffset
    ∷ refuse m (not (good_offset r)) BadOffset
    ∷ refuse m (is_dead (seen m p)) (UnknownPort (port# p))
    ∷ refuse m (is_of_hidden (seen m p)) (HiddenPort (port# p))
    ∷ refuse m (is_of_hidden (seen m q)) (HiddenPort (port# q))
    ∷ refuse m (lacks_offset m p o) (UnknownOffset (port# p))
    ∷ refuse m (lacks_offset m q r) (UnknownOffset (port# q))
    ∷ refuse m taken InputWired
    ∷ refuse m (is_dead (seen m q)) (UnknownSecondPort (port# q))
    ∷ refuse m (on_one_side (joining m p o q r)) (refused_below (joining m p o q r))
    ∷ refuse m (one_linked (joining m p o q r)) (refused_below (joining m p o q r))
    ∷ []

-- 7, 8, of cutting a port and of tidying it
abbrev pub cut_refusals : MultiPortGraph → ℕ → List Line
cut_refusals m p =
    refuse m (is_dead (seen m p)) (UnknownPort (port# p))
    ∷ refuse m (is_of_hidden (seen m p)) (HiddenPort (port# p))
    ∷ []

-- 2, 7, 8, 9, of cutting at a subport and of asking what it is linked with
abbrev pub subport_refusals : MultiPortGraph → ℕ → ℕ → List Line
subport_refusals m p o =
    refuse m (not (good_offset o)) BadOffset
    ∷ refuse m (is_dead (seen m p)) (UnknownPort (port# p))
    ∷ refuse m (is_of_hidden (seen m p)) (HiddenPort (port# p))
    ∷ refuse m (lacks_offset m p o) (UnknownOffset (port# p))
    ∷ []
