-- What the end that a link of a port takes needs before anything changes, said of the graph and read off its tables; and whether
-- there is room for both ends of a link, by the heads of the free lists and the used lengths alone.
use Rattle.std.specs.Prelude.{Bool, true, false, cond, List, ℕ, ◌+◌, ◌-◌, ◌≤◌, eqb, leb, ltb, Option, Some, None}
use Rattle.port_tables.specs.Limits.{node_slots, port_slots, node_ports}
use Rattle.port_tables.specs.Entries.{ports_on, next_of, node#}
use Rattle.port_tables.specs.Tables.{at, head_at}
use Rattle.portgraph.specs.Lookups.{meta_at, start_of}
use Rattle.portgraph.specs.Calls.{rest_of, grown}
use Rattle.port_tables.specs.ResizeLinks.{round_up}
use Rattle.port_tables.specs.NodeTable.{slot_in}
use Rattle.port_tables.specs.declared.direction.Direction.{Direction}
use Rattle.port_tables.specs.declared.node_entry.NodeMeta.{NodeMeta}
use Rattle.portgraph.specs.declared.portgraph.PortGraph.{PortGraph}
use Rattle.multiportgraph.specs.Reading.{has_link, is_split, copy_node, port_of}
use Rattle.multiportgraph.specs.HiddenNodes as hiding
use Rattle.multi_tables.specs.Forms.{flag_at, lowest_unlinked}
use Rattle.multi_tables.specs.TableReads.{far_in, owner_in}
use Rattle.multiportgraph.specs.declared.multiportgraph.MultiPortGraph.{MultiPortGraph}
use Rattle.multiportgraph.specs.declared.needs.Need.{Need}
use Rattle.multiportgraph.specs.declared.needs.Need.TheVariants as need
use Rattle.multiportgraph.specs.declared.needs.Takes.{Takes}
use Rattle.multiportgraph.specs.HiddenNodes.{lowest_free, split, grow}

-- a hidden node c with its meta data: the lowest unlinked subport of side d, else one more
abbrev pub copy_need : MultiPortGraph → Direction → ℕ → Option NodeMeta → Need
copy_need m d c None = need.Split
copy_need m d c (Some k) =
    cond (ltb (lowest_free m.graph c d 0 (ports_on k d)) (ports_on k d))
    (need.Ready (port_of m.graph c d (lowest_free m.graph c d 0 (ports_on k d))) (lowest_free m.graph c d 0 (ports_on k d)))
    (need.Grow (node# c) k)

-- the cases of mark and link, as `prepare` has them
unfoldable pub need_of : MultiPortGraph → ℕ → Direction → Need
need_of m p d =
    cond (is_split m p) (copy_need m d (copy_node m p) (meta_at m.graph (copy_node m p)))
    (cond (has_link m.graph p) need.Split (need.Ready p 0))

abbrev pub prepared_for : MultiPortGraph → ℕ → Direction → Need → hiding.Prepared
prepared_for m p d (need.Ready x o) = hiding.ready m x o
prepared_for m p d (need.Grow c k) = grow m c.0 d
prepared_for m p d need.Split = split m p d

-- The same, read off the tables.

-- the slot of the first port of a node's side
abbrev pub side_slot : NodeMeta → Direction → ℕ
side_slot k d = k.first_port.0 + start_of k d

abbrev pub copy_need_in : List ℕ → Direction → ℕ → Option NodeMeta → Need
copy_need_in links d c None = need.Split
copy_need_in links d c (Some k) =
    cond (leb (side_slot k d + ports_on k d) port_slots)
    (cond (ltb (lowest_unlinked links (side_slot k d) 0 (ports_on k d)) (ports_on k d))
    (need.Ready (side_slot k d + lowest_unlinked links (side_slot k d) 0 (ports_on k d)) (lowest_unlinked links (side_slot k d) 0 (ports_on k d)))
    (need.Grow (node# c) k))
    (need.Grow (node# c) k)

unfoldable pub need_in : MultiPortGraph → ℕ → Direction → Need
need_in m p d =
    cond (flag_at m.multiport port_slots p)
    (copy_need_in m.graph.port_link d (owner_in m.graph.port_meta (far_in m.graph.port_link p)) (meta_at m.graph (owner_in m.graph.port_meta (far_in m.graph.port_link p))))
    (cond (eqb (at m.graph.port_link p) 0) (need.Ready p 0) need.Split)

-- Room.

-- a hidden node that is to grow has no more ports than a node may have
abbrev pub GrowsFew : Need → Type 0
GrowsFew (need.Ready x o) = Unit {0}
GrowsFew (need.Grow c k) = k.incoming + k.outgoing ≤ node_ports
GrowsFew need.Split = Unit {0}

abbrev pub takes_nothing : Takes
takes_nothing = record { node = false; take = 0; give = 0 }

-- what is taken for an end with this need, and what is free then
abbrev pub takes_of : Need → Takes
takes_of (need.Ready x o) = takes_nothing
takes_of (need.Grow c k) =
    cond (ltb (k.incoming + k.outgoing + 1) k.capacity) takes_nothing
    (record { node = false; take = round_up (k.incoming + k.outgoing + 1); give = k.capacity })
takes_of need.Split = record { node = true; take = 3; give = 0 }

-- the first free node entry after one is taken
abbrev pub next_free : PortGraph → ℕ
next_free g = rest_of g.node_free (next_of (slot_in g.node_meta (g.node_free - 1)).entry)

-- the used length of the node table after both ends took what they take
abbrev pub nodes_left : PortGraph → Bool → Bool → ℕ
nodes_left g true true = grown (next_free g) (grown g.node_free g.node_len 1) 1
nodes_left g true false = grown g.node_free g.node_len 1
nodes_left g false true = grown g.node_free g.node_len 1
nodes_left g false false = g.node_len

-- the first free block of a size after the first end took and gave
abbrev pub head_left : PortGraph → Takes → ℕ → ℕ
head_left g first size =
    cond (eqb size first.give) 1
    (cond (eqb size first.take) (rest_of (head_at g.port_free size) (at g.port_link (head_at g.port_free size - 1))) (head_at g.port_free size))

-- the used length of the port tables after both ends took what they take
abbrev pub ports_left : PortGraph → Takes → Takes → ℕ
ports_left g first second =
    grown (head_left g first second.take) (grown (head_at g.port_free first.take) g.port_len first.take) second.take

unfoldable pub room_for : PortGraph → Takes → Takes → Bool
room_for g first second =
    cond (leb (nodes_left g first.node second.node) node_slots)
    (leb (ports_left g first second) port_slots)
    false
