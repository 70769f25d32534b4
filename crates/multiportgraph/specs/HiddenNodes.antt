-- Hidden nodes: how they go, how they move with the ports of a node, and how an end of a link is prepared.
use Rattle.std.specs.Prelude.{Bool, true, false, cond, List, [], ◌∷◌, ◌++◌, ℕ, zero, suc, ◌+◌, ◌-◌, ◌*◌, min, ltb, set, Option, Some, None, Ok, Err, Result}
use Rattle.port_tables.specs.Limits.{node_ports, Limits, present}
use Rattle.port_tables.specs.Entries.{reversed}
use Rattle.portgraph.specs.Lookups.{meta_at, num_ports}
use Rattle.portgraph.specs.Calls.{add_node_under, remove_node, link_ports, unlink_port}
use Rattle.portgraph.specs.Resize.{set_num_ports_under}
use Rattle.port_tables.specs.declared.direction.Direction.{Direction}
use Rattle.port_tables.specs.declared.direction.Direction.TheVariants.{Incoming, Outgoing}
use Rattle.port_tables.specs.declared.node_entry.NodeMeta.{NodeMeta}
use Rattle.portgraph.specs.declared.portgraph.PortGraph.{PortGraph}
use Rattle.multiportgraph.specs.Reading.{far_port, has_link, port_of, is_split, copy_node, subports, copy_side}
use Rattle.multi_tables.specs.Forms.{lay_marks}
use Rattle.multiportgraph.specs.declared.multiportgraph.MultiPortGraph.{MultiPortGraph}
use Rattle.multiportgraph.specs.Graph.{with_graph, with_marks, with_hidden, with_subports}
use Rattle.portgraph.specs.declared.alloc.AddError.TheVariants as add_error
use Rattle.portgraph.specs.declared.resize.SetError.TheVariants as set_error
use Rattle.port_tables.specs.declared.index.NodeIndex.{NodeIndex}
use Rattle.port_tables.specs.declared.index.PortIndex.{PortIndex}
use Rattle.portgraph.specs.declared.alloc.AddError.{AddError}
use Rattle.portgraph.specs.declared.resize.SetError.{SetError}

-- the hidden node of a split port goes, with every link at it; neither port is marked any more
unfoldable pub remove_copy : MultiPortGraph → ℕ → ℕ → MultiPortGraph
remove_copy m p c =
    with_hidden
    (with_marks (with_graph m (remove_node m.graph c).graph) (set (set m.multiport (port_of m.graph c (copy_side m c) 0) false) p false))
    (set m.copy_node c false) (m.copy_node_count - 1) (m.subport_count - num_ports m.graph c (reversed (copy_side m c)))

-- a port of a block loses its hidden node, if it has one
unfoldable pub unsplit : MultiPortGraph → ℕ → MultiPortGraph
unsplit m p = cond (is_split m p) (remove_copy m p (copy_node m p)) m

-- n ports from p on lose theirs, the first one first
unfoldable pub unsplit_range : MultiPortGraph → ℕ → ℕ → MultiPortGraph
unsplit_range m p zero = m
unsplit_range m p (suc n) = unsplit_range (unsplit m p) (suc p) n

abbrev pub marks_moved : List Bool → Option NodeMeta → Option NodeMeta → List Bool
marks_moved marks None after = marks
marks_moved marks (Some a) None = marks
marks_moved marks (Some a) (Some b) = lay_marks marks a b

-- the graph with another lower graph, in which node n has other counts: the marks move with the ports
unfoldable pub recounted : MultiPortGraph → ℕ → PortGraph → MultiPortGraph
recounted m n g = with_marks (with_graph m g) (marks_moved m.multiport (meta_at m.graph n) (meta_at g n))

-- Hidden nodes of ports that a resize drops.

-- the hidden nodes of n ports from p on, in order
unfoldable pub copies_in : MultiPortGraph → ℕ → ℕ → List ℕ
copies_in m p zero = []
copies_in m p (suc n) = cond (is_split m p) (copy_node m p ∷ copies_in m (suc p) n) (copies_in m (suc p) n)

-- the hidden nodes of the ports that are dropped, in the order in which these are reported
unfoldable pub copies_dropped : MultiPortGraph → NodeMeta → ℕ → ℕ → List ℕ
copies_dropped m k incoming outgoing =
    copies_in m (k.first_port.0 + min k.incoming incoming) (k.incoming - min k.incoming incoming)
    ++ copies_in m (k.first_port.0 + k.incoming + min k.outgoing outgoing) (k.outgoing - min k.outgoing outgoing)

-- a hidden node whose split port is gone already
unfoldable pub remove_lone : MultiPortGraph → ℕ → MultiPortGraph
remove_lone m c = remove_copy m (port_of m.graph c (copy_side m c) 0) c

unfoldable pub remove_all : MultiPortGraph → List ℕ → MultiPortGraph
remove_all m [] = m
remove_all m (c ∷ l) = remove_all (remove_lone m c) l

-- Preparing an end (01: by the cases of mark and link).

pub data Prepared : Type 0 where
  -- the graph, the inner port, and its offset
  ready : MultiPortGraph → ℕ → ℕ → Prepared
  -- a table would grow past its limit
  full : Prepared

abbrev pub copy_incoming : Direction → ℕ
copy_incoming Incoming = 2
copy_incoming Outgoing = 1

abbrev pub copy_outgoing : Direction → ℕ
copy_outgoing Incoming = 1
copy_outgoing Outgoing = 2

-- the graph after node c was added for port p: p is linked with the copy port, and the old link moves to offset 0
unfoldable pub split_graph : PortGraph → ℕ → Direction → ℕ → PortGraph
split_graph g p d c =
    (link_ports
    (link_ports (unlink_port g p).graph p (port_of g c (reversed d) 0)).graph
    (port_of g c d 0) (far_port g p)).graph

unfoldable pub split_port : MultiPortGraph → ℕ → Direction → PortGraph → ℕ → MultiPortGraph
split_port m p d g c =
    with_hidden
    (with_marks (with_graph m (split_graph g p d c)) (set (set m.multiport (port_of g c (reversed d) 0) true) p true))
    (set m.copy_node c true) (m.copy_node_count + 1) (m.subport_count + 2)

abbrev pub split_by : MultiPortGraph → ℕ → Direction → PortGraph → Result (NodeIndex × PortIndex) AddError → Prepared
split_by m p d g (Ok (c, first)) = ready (split_port m p d g c.0) (port_of g c.0 d 1) 1
split_by m p d g (Err add_error.TooManyPorts) = full
split_by m p d g (Err add_error.NoRoom) = full

-- unsplit and linked: a hidden node with 2 subports is made, the old link moves to offset 0, and offset 1 is given
unfoldable pub split_under : Limits → MultiPortGraph → ℕ → Direction → Prepared
split_under L m p d =
    split_by m p d (add_node_under L m.graph (copy_incoming d) (copy_outgoing d)).graph (add_node_under L m.graph (copy_incoming d) (copy_outgoing d)).answer

abbrev pub split : MultiPortGraph → ℕ → Direction → Prepared
split = split_under present

-- the lowest unlinked position of a node's side from o on, among n; the one after the last where all are linked
unfoldable pub lowest_free : PortGraph → ℕ → Direction → ℕ → ℕ → ℕ
lowest_free g c d o zero = o
lowest_free g c d o (suc n) = cond (has_link g (port_of g c d o)) (lowest_free g c d (suc o) n) o

-- one port more on a side
abbrev pub more_incoming : PortGraph → ℕ → Direction → ℕ
more_incoming g c Incoming = num_ports g c Incoming + 1
more_incoming g c Outgoing = num_ports g c Incoming

abbrev pub more_outgoing : PortGraph → ℕ → Direction → ℕ
more_outgoing g c Incoming = num_ports g c Outgoing
more_outgoing g c Outgoing = num_ports g c Outgoing + 1

-- a move list long enough for every node
abbrev pub enough : ℕ
enough = 3 * node_ports

abbrev pub more : MultiPortGraph → MultiPortGraph
more m = with_subports m (m.subport_count + 1)

abbrev pub grown_by : MultiPortGraph → ℕ → Direction → PortGraph → Result ℕ SetError → Prepared
grown_by m c d g (Ok e) = ready (more (recounted m c g)) (port_of g c d (num_ports m.graph c d)) (num_ports m.graph c d)
grown_by m c d g (Err set_error.TooManyPorts) = full
grown_by m c d g (Err set_error.UnknownNode) = full
grown_by m c d g (Err set_error.MovesTooShort) = full
grown_by m c d g (Err set_error.NoRoom) = full

-- one more subport at the end
unfoldable pub grow_under : Limits → MultiPortGraph → ℕ → Direction → Prepared
grow_under L m c d =
    grown_by m c d (set_num_ports_under L m.graph c (more_incoming m.graph c d) (more_outgoing m.graph c d) enough).graph
    (set_num_ports_under L m.graph c (more_incoming m.graph c d) (more_outgoing m.graph c d) enough).answer

abbrev pub grow : MultiPortGraph → ℕ → Direction → Prepared
grow = grow_under present

-- split: the lowest unlinked offset, else one more subport
unfoldable pub reuse_under : Limits → MultiPortGraph → ℕ → Direction → ℕ → Prepared
reuse_under L m c d o = cond (ltb o (num_ports m.graph c d)) (ready m (port_of m.graph c d o) o) (grow_under L m c d)

abbrev pub reuse : MultiPortGraph → ℕ → Direction → ℕ → Prepared
reuse = reuse_under present

unfoldable pub prepare_under : Limits → MultiPortGraph → ℕ → Direction → Prepared
prepare_under L m p d =
    cond (is_split m p)
    (reuse_under L m (copy_node m p) d (lowest_free m.graph (copy_node m p) d 0 (subports m p d)))
    (cond (has_link m.graph p) (split_under L m p d) (ready m p 0))

abbrev pub prepare : MultiPortGraph → ℕ → Direction → Prepared
prepare = prepare_under present
