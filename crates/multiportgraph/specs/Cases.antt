-- The calls by cases of what they name, as the code goes through them: CaseLaws proves each equal to its definition in Calls.
use Rattle.std.specs.Prelude.{false, cond, ℕ, Option, Some, None, Result, Ok, Err}
use Rattle.port_tables.specs.Limits.{Limits, present}
use Rattle.port_tables.specs.Entries.{same_side, port#}
use Rattle.portgraph.specs.Calls.{link_ports, unlink_port}
use Rattle.portgraph.specs.Resize.{set_num_ports_under}
use Rattle.port_tables.specs.declared.direction.Direction.{Direction}
use Rattle.port_tables.specs.declared.node_entry.NodeMeta.{NodeMeta}
use Rattle.portgraph.specs.declared.portgraph.PortGraph.{PortGraph}
use Rattle.multiportgraph.specs.Reading.{is_hidden, is_split, end_at, as_read, standing, link_of_end, far_subport}
use Rattle.multi_tables.specs.Forms.{Port, dead, hidden, visible, End, inner, lacking, subport#}
use Rattle.multiportgraph.specs.declared.multiportgraph.MultiPortGraph.{MultiPortGraph}
use Rattle.multi_tables.specs.declared.answers.SubportIndex.{SubportIndex}
use Rattle.multi_tables.specs.declared.answers.Refusal.{Refusal}
use Rattle.multi_tables.specs.declared.answers.Refusal.TheVariants.{UnknownNode, HiddenNode, UnknownPort, HiddenPort, UnknownOffset, NoRoom, UnknownSecondPort, IncompatibleDirections, AlreadyLinked}
use Rattle.multiportgraph.specs.declared.multiportgraph.NodeRemoved.{NodeRemoved}
use Rattle.multiportgraph.specs.declared.multiportgraph.PortsSet.{PortsSet}
use Rattle.multiportgraph.specs.declared.multiportgraph.PortsLinked.{PortsLinked}
use Rattle.multiportgraph.specs.declared.multiportgraph.PortUnlinked.{PortUnlinked}
use Rattle.multiportgraph.specs.declared.multiportgraph.PortTidied.{PortTidied}
use Rattle.multiportgraph.specs.Graph.{with_graph}
use Rattle.multiportgraph.specs.HiddenNodes.{copies_dropped, prepare_under, recounted, remove_all, unsplit, Prepared, ready, full}
use Rattle.multiportgraph.specs.Tidy.{tidied}
use Rattle.multiportgraph.specs.Calls.{cut_plain, drop_block, set_as, link_pair_if}
use Rattle.multi_tables.specs.NamedEnds.{taken_ends}
use Rattle.multi_tables.specs.declared.answers.PortPlace.{PortPlace}
use Rattle.portgraph.specs.declared.portgraph.LinkError.TheVariants as link_error
use Rattle.portgraph.specs.declared.resize.SetError.TheVariants as set_error
use Rattle.port_tables.specs.declared.index.PortIndex.{PortIndex}
use Rattle.portgraph.specs.declared.portgraph.LinkError.{LinkError}
use Rattle.portgraph.specs.declared.resize.SetError.{SetError}

-- Removing a block.

abbrev pub remove_refused : MultiPortGraph → Refusal → NodeRemoved
remove_refused m r = record { graph = m; answer = Err r }

abbrev pub remove_meta : MultiPortGraph → ℕ → Option NodeMeta → NodeRemoved
remove_meta m n None = remove_refused m UnknownNode
remove_meta m n (Some k) =
    cond (is_hidden m n) (remove_refused m HiddenNode) (record { graph = drop_block m n k; answer = Ok tt })

-- Changing a block's counts.

abbrev pub set_refused : MultiPortGraph → Refusal → PortsSet
set_refused m r = record { graph = m; answer = Err r }

-- after the resize the hidden nodes of dropped ports go, in the order reported; a refused one changes nothing
abbrev pub resized : MultiPortGraph → ℕ → NodeMeta → ℕ → ℕ → PortGraph → Result ℕ SetError → MultiPortGraph
resized m n k incoming outgoing g (Ok e) =
    remove_all (recounted m n g) (copies_dropped m k incoming outgoing)
resized m n k incoming outgoing g (Err set_error.TooManyPorts) = m
resized m n k incoming outgoing g (Err set_error.UnknownNode) = m
resized m n k incoming outgoing g (Err set_error.MovesTooShort) = m
resized m n k incoming outgoing g (Err set_error.NoRoom) = m

abbrev pub set_meta_under : Limits → MultiPortGraph → ℕ → ℕ → ℕ → ℕ → Option NodeMeta → PortsSet
set_meta_under L m n incoming outgoing room None = set_refused m UnknownNode
set_meta_under L m n incoming outgoing room (Some k) =
    cond (is_hidden m n) (set_refused m HiddenNode)
    (record {
      graph =
          resized m n k incoming outgoing (set_num_ports_under L m.graph n incoming outgoing room).graph
          (set_num_ports_under L m.graph n incoming outgoing room).answer;
      answer = set_as (set_num_ports_under L m.graph n incoming outgoing room).answer;
    })

abbrev pub set_meta : MultiPortGraph → ℕ → ℕ → ℕ → ℕ → Option NodeMeta → PortsSet
set_meta = set_meta_under present

abbrev pub link_refused : MultiPortGraph → Refusal → PortsLinked
link_refused m r = record { graph = m; answer = Err r }

-- both ends are prepared
abbrev pub link_prepared : MultiPortGraph → ℕ → Direction → ℕ → ℕ → ℕ → Direction → ℕ → ℕ → PortsLinked
link_prepared m a d x o b e y r =
    cond (same_side d e) (link_refused m (IncompatibleDirections (port# x) (port# y) d))
    (record { graph = with_graph m (link_ports m.graph x y).graph; answer = Ok (subport# a o, subport# b r) })

-- the first end is prepared, the second port is live; m is the graph handed in
abbrev pub link_second : MultiPortGraph → ℕ → Direction → ℕ → ℕ → ℕ → Direction → Prepared → PortsLinked
link_second m a d x o b e full = link_refused m NoRoom
link_second m a d x o b e (ready m₂ y r) = link_prepared m₂ a d x o b e y r

abbrev pub link_live_under : Limits → MultiPortGraph → ℕ → Direction → ℕ → Direction → Prepared → PortsLinked
link_live_under L m a d b e full = link_refused m NoRoom
link_live_under L m a d b e (ready m₁ x o) = link_second m a d x o b e (prepare_under L m₁ b e)

abbrev pub link_live : MultiPortGraph → ℕ → Direction → ℕ → Direction → Prepared → PortsLinked
link_live = link_live_under present

-- the second port is not live: the preparation of the first stays
abbrev pub link_first : MultiPortGraph → ℕ → Prepared → PortsLinked
link_first m b full = link_refused m NoRoom
link_first m b (ready m₁ x o) = link_refused m₁ (UnknownSecondPort (port# b))

abbrev pub link_seen_under : Limits → MultiPortGraph → ℕ → ℕ → Port → Port → PortsLinked
link_seen_under L m a b dead second = link_refused m (UnknownPort (port# a))
link_seen_under L m a b hidden second = link_refused m (HiddenPort (port# a))
link_seen_under L m a b (visible n d) hidden = link_refused m (HiddenPort (port# b))
link_seen_under L m a b (visible n d) dead = link_first m b (prepare_under L m a d)
link_seen_under L m a b (visible n d) (visible k e) = link_live_under L m a d b e (prepare_under L m a d)

abbrev pub link_seen : MultiPortGraph → ℕ → ℕ → Port → Port → PortsLinked
link_seen = link_seen_under present

abbrev pub link_clean_by : Limits → MultiPortGraph → ℕ → ℕ → Result (Unit {0}) Refusal → PortsLinked
link_clean_by L m a b (Err r) = link_refused m r
link_clean_by L m a b (Ok tt) = link_pair_if false L m a b

abbrev pub taken_sub_seen : MultiPortGraph → ℕ → ℕ → ℕ → ℕ → Port → Port → Refusal
taken_sub_seen m p o q r = taken_ends p (λ d. end_at m p d o) q (λ e. end_at m q e r)

abbrev pub link_inner : MultiPortGraph → SubportIndex → SubportIndex → Result (PortIndex × PortIndex) LinkError → PortGraph → PortsLinked
link_inner m s t (Ok (x, y)) g = record { graph = with_graph m g; answer = Ok (s, t) }
link_inner m s t (Err (link_error.UnknownPort x)) g = link_refused m (UnknownPort x)
link_inner m s t (Err (link_error.UnknownSecondPort y)) g = link_refused m (UnknownSecondPort y)
link_inner m s t (Err (link_error.IncompatibleDirections x y d)) g = link_refused m (IncompatibleDirections x y d)
link_inner m s t (Err (link_error.AlreadyLinked x)) g = link_refused m (AlreadyLinked x)

-- both ends are there: 12, 13, else done
abbrev pub link_ends : MultiPortGraph → SubportIndex → SubportIndex → ℕ → ℕ → PortsLinked
link_ends m s t x y = link_inner m s t (link_ports m.graph x y).answer (link_ports m.graph x y).graph

abbrev pub link_second_end : MultiPortGraph → ℕ → ℕ → ℕ → ℕ → ℕ → End → PortsLinked
link_second_end m p o q r x lacking = link_refused m (UnknownOffset (port# q))
link_second_end m p o q r x (inner y) = link_ends m (as_read m p o) (as_read m q r) x y

abbrev pub link_first_end : MultiPortGraph → ℕ → ℕ → ℕ → ℕ → Port → End → PortsLinked
link_first_end m p o q r second lacking = link_refused m (UnknownOffset (port# p))
link_first_end m p o q r dead (inner x) = link_refused m (UnknownSecondPort (port# q))
link_first_end m p o q r hidden (inner x) = link_refused m (HiddenPort (port# q))
link_first_end m p o q r (visible k e) (inner x) = link_second_end m p o q r x (end_at m q e r)

abbrev pub link_sub_seen : MultiPortGraph → ℕ → ℕ → ℕ → ℕ → Port → Port → PortsLinked
link_sub_seen m p o q r dead second = link_refused m (UnknownPort (port# p))
link_sub_seen m p o q r hidden second = link_refused m (HiddenPort (port# p))
link_sub_seen m p o q r (visible n d) dead = link_first_end m p o q r dead (end_at m p d o)
link_sub_seen m p o q r (visible n d) hidden = link_refused m (HiddenPort (port# q))
link_sub_seen m p o q r (visible n d) (visible k e) = link_first_end m p o q r (visible k e) (end_at m p d o)

-- Cutting.

abbrev pub cut_refused : MultiPortGraph → Refusal → PortUnlinked
cut_refused m r = record { graph = m; answer = Err r }

abbrev pub cut_seen : MultiPortGraph → ℕ → Port → PortUnlinked
cut_seen m p dead = cut_refused m (UnknownPort (port# p))
cut_seen m p hidden = cut_refused m (HiddenPort (port# p))
cut_seen m p (visible n d) =
    cond (is_split m p)
    (record { graph = unsplit m p; answer = Ok (Some (subport# p 0, standing m (subport# p 0))) })
    (record { graph = with_graph m (unlink_port m.graph p).graph; answer = cut_plain m (unlink_port m.graph p).answer })

abbrev pub cut_end : MultiPortGraph → ℕ → End → PortUnlinked
cut_end m p lacking = cut_refused m (UnknownOffset (port# p))
cut_end m p (inner x) =
    record { graph = with_graph m (unlink_port m.graph x).graph; answer = far_subport m (unlink_port m.graph x).answer }

abbrev pub cut_sub_seen : MultiPortGraph → ℕ → ℕ → Port → PortUnlinked
cut_sub_seen m p o dead = cut_refused m (UnknownPort (port# p))
cut_sub_seen m p o hidden = cut_refused m (HiddenPort (port# p))
cut_sub_seen m p o (visible n d) = cut_end m p (end_at m p d o)

-- Tidying.

abbrev pub tidy_refused : MultiPortGraph → Refusal → PortTidied
tidy_refused m r = record { graph = m; answer = Err r }

abbrev pub tidy_seen : MultiPortGraph → ℕ → Port → PortTidied
tidy_seen m p dead = tidy_refused m (UnknownPort (port# p))
tidy_seen m p hidden = tidy_refused m (HiddenPort (port# p))
tidy_seen m p (visible n d) = record { graph = cond (is_split m p) (tidied m p d) m; answer = Ok tt }

-- Reading.

abbrev pub link_of_seen : MultiPortGraph → ℕ → ℕ → Port → Result (Option (SubportIndex × PortPlace)) Refusal
link_of_seen m p o dead = Err (UnknownPort (port# p))
link_of_seen m p o hidden = Err (HiddenPort (port# p))
link_of_seen m p o (visible n d) = link_of_end m p (end_at m p d o)
