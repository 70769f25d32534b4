-- Tidying a split port: empty subports above the highest wired one go. Where only offset 0 is then wired, or none is, the hidden node
-- goes, and the wire, if there is one, is linked to the port directly.
use Rattle.std.specs.Prelude.{cond, ℕ, zero, suc, ◌-◌, ltb, Option, Some, None}
use Rattle.portgraph.specs.Lookups.{meta_at, num_ports}
use Rattle.portgraph.specs.Calls.{link_ports}
use Rattle.portgraph.specs.Resize.{resize_inside}
use Rattle.port_tables.specs.ResizeLinks.{same_counts}
use Rattle.port_tables.specs.declared.direction.Direction.{Direction}
use Rattle.port_tables.specs.declared.direction.Direction.TheVariants.{Incoming, Outgoing}
use Rattle.portgraph.specs.declared.portgraph.PortGraph.{PortGraph}
use Rattle.multiportgraph.specs.Reading.{far_port, has_link, port_of, copy_node, subports, subport_at}
use Rattle.multiportgraph.specs.declared.multiportgraph.MultiPortGraph.{MultiPortGraph}
use Rattle.multiportgraph.specs.Graph.{with_graph, with_subports}
use Rattle.multiportgraph.specs.HiddenNodes.{recounted, unsplit}
use Rattle.port_tables.specs.declared.node_entry.NodeMeta.{NodeMeta}

-- how many of the first n positions of a node's side are left without the unlinked ones above the highest linked one
unfoldable pub linked_up_to : PortGraph → ℕ → Direction → ℕ → ℕ
linked_up_to g c d zero = 0
linked_up_to g c d (suc n) = cond (has_link g (port_of g c d n)) (suc n) (linked_up_to g c d n)

-- how many subports of a split port are left without the empty ones above the highest wired one
unfoldable pub subports_left : MultiPortGraph → ℕ → Direction → ℕ
subports_left m p d = linked_up_to m.graph (copy_node m p) d (subports m p d)

-- the counts of a hidden node with so many subports on a side
abbrev pub left_incoming : Direction → ℕ → ℕ
left_incoming Incoming n = n
left_incoming Outgoing n = 1

abbrev pub left_outgoing : Direction → ℕ → ℕ
left_outgoing Incoming n = 1
left_outgoing Outgoing n = n

-- a node with other counts, by a resize within its block; equal counts change nothing
abbrev pub within_block : PortGraph → ℕ → ℕ → ℕ → Option NodeMeta → PortGraph
within_block g n incoming outgoing None = g
within_block g n incoming outgoing (Some k) = cond (same_counts k incoming outgoing) g (resize_inside g n k incoming outgoing)

unfoldable pub resized_within : PortGraph → ℕ → ℕ → ℕ → PortGraph
resized_within g n incoming outgoing = within_block g n incoming outgoing (meta_at g n)

-- a hidden node is left with its first n subports: it is resized within its block, and the mark of its copy port moves with it
unfoldable pub drop_subports : MultiPortGraph → ℕ → Direction → ℕ → MultiPortGraph
drop_subports m c d n =
    with_subports (recounted m c (resized_within m.graph c (left_incoming d n) (left_outgoing d n)))
    (m.subport_count - (num_ports m.graph c d - n))

-- the hidden node of a split port goes, and what its first subport was linked with is linked to the port
unfoldable pub link_directly : MultiPortGraph → ℕ → Direction → MultiPortGraph
link_directly m p d =
    cond (has_link m.graph (subport_at m p d 0))
    (with_graph (unsplit m p) (link_ports (unsplit m p).graph p (far_port m.graph (subport_at m p d 0))).graph)
    (unsplit m p)

-- the split port p of side d, tidied: an offset above 0 is wired, so that its hidden node stays, or it goes
unfoldable pub tidied : MultiPortGraph → ℕ → Direction → MultiPortGraph
tidied m p d = cond (ltb 1 (subports_left m p d)) (drop_subports m (copy_node m p) d (subports_left m p d)) (link_directly m p d)
