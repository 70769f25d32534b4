-- Walks over the links of a node and over all ports: the list that each gives, and the step of its cursor on any graph.
-- A step gives the next item of the present listing beyond the port held; a cursor whose node or port is gone ends the walk.
use Rattle.std.specs.Prelude.{Bool, true, false, cond, List, [], ◌∷◌, map, ℕ, suc, ◌-◌, zero, max, eqb, leb, ltb, get_or, Option, Some, None, Result, Ok, Err}
use Rattle.port_tables.specs.Limits.{port_slots}
use Rattle.port_tables.specs.Lists.{on_first, range}
use Rattle.std.specs.List.{filter}
use Rattle.port_tables.specs.Entries.{port_entry, node#, port#, node_of, meta_of_entry, fresh_slot, ports_from, ports_to}
use Rattle.port_tables.specs.Tables.{at, far_in, owner_in}
use Rattle.portgraph.specs.Lookups.{meta_at, contains_node, is_port}
use Rattle.port_tables.specs.declared.direction.Direction.TheVariants.{Outgoing}
use Rattle.port_tables.specs.declared.index.NodeIndex.{NodeIndex}
use Rattle.portgraph.specs.declared.portgraph.PortGraph.{PortGraph}
use Rattle.port_tables.specs.declared.sides.Sides.{Sides}
use Rattle.port_tables.specs.declared.sides.Sides.TheVariants.{One}
use Rattle.portgraph.specs.declared.link_iter.Link.{Link}
use Rattle.portgraph.specs.declared.link_iter.NodeLinks.{NodeLinks}
use Rattle.portgraph.specs.declared.link_iter.Neighbours.{Neighbours}
use Rattle.portgraph.specs.declared.link_iter.NodeConnections.{NodeConnections}
use Rattle.portgraph.specs.declared.link_iter.Ports.{Ports}
use Rattle.std.specs.declared.ops.Range.{Range}
use Rattle.port_tables.specs.declared.node_entry.NodeSlot.{NodeSlot}
use Rattle.port_tables.specs.declared.index.PortIndex.{PortIndex}
use Rattle.port_tables.specs.declared.index.PortRange.{PortRange}
use Rattle.port_tables.specs.declared.node_entry.NodeMeta.{NodeMeta}
use Rattle.portgraph.specs.declared.alloc.NoSuchNode.{NoSuchNode}
use Rattle.portgraph.specs.Walks.{ports_of_node}

-- A step: the first of the ports at which the walk stops, beyond the port held, if that one is still there.
unfoldable pub beyond {ℓ} : {A : Type ℓ} → Bool → ℕ → A → (ℕ → A) → List ℕ → A
beyond there held end item ports = cond there (on_first end item (filter (leb held) ports)) end

-- What the tables say of a port: the links in the one, the owners in the other.

unfoldable pub is_port_in : List ℕ → ℕ → Bool
is_port_in owners p = is_port (port_entry (at owners p))

-- what the cursor holds is still there
unfoldable pub held_in : List ℕ → ℕ → Bool
held_in owners held = cond (eqb held 0) true (is_port_in owners (held - 1))

-- a link, its far port one higher than its number, leads to none of the ports from lo on, hi excluded
unfoldable pub is_kept : ℕ → ℕ → ℕ → Bool
is_kept far lo hi = cond (eqb far 0) false (cond (leb lo (far - 1)) (leb hi (far - 1)) true)

unfoldable pub link_kept : List ℕ → ℕ → ℕ → ℕ → Bool
link_kept links lo hi p = is_kept (at links p) lo hi

abbrev pub is_node_of : ℕ → Option NodeIndex → Bool
is_node_of n (Some k) = eqb k.0 n
is_node_of n None = false

unfoldable pub is_of : ℕ → ℕ → Bool
is_of n owner = is_node_of n (node_of (port_entry owner))

-- a port is linked with a port of a node
unfoldable pub link_to : List ℕ → List ℕ → ℕ → ℕ → Bool
link_to links owners n p = cond (eqb (at links p) 0) false (is_of n (at owners (far_in links p)))

-- the ports of a node on these sides; none where it is not live
abbrev pub ports_in : Option NodeMeta → Sides → List ℕ
ports_in None sides = []
ports_in (Some m) sides = ports_of_node m sides

-- Links of a node, on one side or both, without those to a range of ports.

-- a port's link, told from there
abbrev pub link_in : List ℕ → ℕ → Link
link_in links p = record { from = port# p; to = port# (far_in links p) }

abbrev pub link_at : PortGraph → ℕ → Link
link_at g p = link_in g.port_link p

-- the ports that have such a link
abbrev pub linked_ports : PortGraph → ℕ → Sides → ℕ → ℕ → List ℕ
linked_ports g n sides lo hi = filter (link_kept g.port_link lo hi) (ports_in (meta_at g n) sides)

unfoldable pub node_links : PortGraph → ℕ → Sides → ℕ → ℕ → List Link
node_links g n sides lo hi = map (link_at g) (linked_ports g n sides lo hi)

abbrev pub links_item : PortGraph → NodeLinks → ℕ → Option (Link × NodeLinks)
links_item g c p =
    Some (link_at g p, record { node = c.node; sides = c.sides; skip = c.skip; held = suc p })

unfoldable pub step_links : PortGraph → NodeLinks → Option (Link × NodeLinks)
step_links g c =
    beyond (held_in g.port_meta c.held) c.held None (links_item g c)
    (linked_ports g c.node.0 c.sides c.skip.from c.skip.to)

-- Neighbours of a node, one for each link; with the flag without links to the node's own outgoing ports.

abbrev pub own_from : Bool → Option NodeMeta → ℕ
own_from false m = 0
own_from true None = 0
own_from true (Some m) = ports_from m (One Outgoing)

abbrev pub own_to : Bool → Option NodeMeta → ℕ
own_to false m = 0
own_to true None = 0
own_to true (Some m) = ports_to m (One Outgoing)

-- the ports that are linked with a neighbour
abbrev pub neighbour_ports : PortGraph → ℕ → Sides → Bool → List ℕ
neighbour_ports g n sides flag = linked_ports g n sides (own_from flag (meta_at g n)) (own_to flag (meta_at g n))

-- the node at the other end of a port's link
abbrev pub neighbour_at : PortGraph → ℕ → NodeIndex
neighbour_at g p = node# (owner_in g.port_meta (far_in g.port_link p))

unfoldable pub neighbours : PortGraph → ℕ → Sides → Bool → List NodeIndex
neighbours g n sides flag = map (neighbour_at g) (neighbour_ports g n sides flag)

abbrev pub neighbours_item : PortGraph → Neighbours → ℕ → Option (NodeIndex × Neighbours)
neighbours_item g c p =
    Some (neighbour_at g p, record { node = c.node; sides = c.sides; ignore_self = c.ignore_self; held = suc p })

unfoldable pub step_neighbours : PortGraph → Neighbours → Option (NodeIndex × Neighbours)
step_neighbours g c =
    beyond (held_in g.port_meta c.held) c.held None (neighbours_item g c)
    (neighbour_ports g c.node.0 c.sides c.ignore_self)

-- Connections: the links from one node's outgoing side to another node.

abbrev pub connected_ports : PortGraph → ℕ → ℕ → List ℕ
connected_ports g n k = filter (link_to g.port_link g.port_meta k) (ports_in (meta_at g n) (One Outgoing))

unfoldable pub connections : PortGraph → ℕ → ℕ → List Link
connections g n k = map (link_at g) (connected_ports g n k)

abbrev pub connections_item : PortGraph → NodeConnections → ℕ → Option (Link × NodeConnections)
connections_item g c p = Some (link_at g p, record { node = c.node; target = c.target; held = suc p })

unfoldable pub step_connections : PortGraph → NodeConnections → Option (Link × NodeConnections)
step_connections g c =
    beyond (held_in g.port_meta c.held) c.held None (connections_item g c)
    (connected_ports g c.node.0 c.target.0)

-- All live ports, by ascending number.

unfoldable pub all_ports : PortGraph → List ℕ
all_ports g = filter (is_port_in g.port_meta) (range 0 port_slots)

abbrev pub all_ports_item : ℕ → Option (PortIndex × Ports)
all_ports_item p = Some (port# p, record { held = suc p })

unfoldable pub step_all_ports : PortGraph → Ports → Option (PortIndex × Ports)
step_all_ports g c = beyond (held_in g.port_meta c.held) c.held None all_ports_item (all_ports g)

-- Starts: refused for a node that is not live.

abbrev pub start_links : PortGraph → NodeIndex → Sides → PortRange → Result NodeLinks NoSuchNode
start_links g n sides skip =
    cond (contains_node g n.0)
    (Ok (record { node = n; sides = sides; skip = skip; held = 0 }))
    (Err (record {}))

abbrev pub start_neighbours : PortGraph → NodeIndex → Sides → Bool → Result Neighbours NoSuchNode
start_neighbours g n sides flag =
    cond (contains_node g n.0)
    (Ok (record { node = n; sides = sides; ignore_self = flag; held = 0 }))
    (Err (record {}))

abbrev pub start_connections : PortGraph → NodeIndex → NodeIndex → Result NodeConnections NoSuchNode
start_connections g n k =
    cond (contains_node g n.0)
    (cond (contains_node g k.0) (Ok (record { node = n; target = k; held = 0 })) (Err (record {})))
    (Err (record {}))

-- 01's numbers: a start answers no value, or refusal 4; a step has its item, and nothing at the end.

abbrev pub links_start_numbers : Result NodeLinks NoSuchNode → List ℕ
links_start_numbers (Ok c) = 0 ∷ []
links_start_numbers (Err _) = 4 ∷ []

abbrev pub neighbours_start_numbers : Result Neighbours NoSuchNode → List ℕ
neighbours_start_numbers (Ok c) = 0 ∷ []
neighbours_start_numbers (Err _) = 4 ∷ []

abbrev pub connections_start_numbers : Result NodeConnections NoSuchNode → List ℕ
connections_start_numbers (Ok c) = 0 ∷ []
connections_start_numbers (Err _) = 4 ∷ []

abbrev pub links_numbers : Option (Link × NodeLinks) → List ℕ
links_numbers (Some (w, c)) = w.from.0 ∷ w.to.0 ∷ []
links_numbers None = []

abbrev pub neighbours_numbers : Option (NodeIndex × Neighbours) → List ℕ
neighbours_numbers (Some (n, c)) = n.0 ∷ []
neighbours_numbers None = []

abbrev pub connections_numbers : Option (Link × NodeConnections) → List ℕ
connections_numbers (Some (w, c)) = w.from.0 ∷ w.to.0 ∷ []
connections_numbers None = []

abbrev pub all_ports_numbers : Option (PortIndex × Ports) → List ℕ
all_ports_numbers (Some (p, c)) = p.0 ∷ []
all_ports_numbers None = []

-- How the code goes over ports: the first for which a test holds, and the ports that are left.

-- the first number from p on, among k, for which a test holds; p + k for none
unfoldable pub first_where : (ℕ → Bool) → ℕ → ℕ → ℕ
first_where f p zero = p
first_where f p (suc k) = cond (f p) p (first_where f (suc p) k)

-- where a search stopped before its end; none where it came to the end
unfoldable pub before : ℕ → ℕ → Option ℕ
before end p = cond (ltb p end) (Some p) None

abbrev pub span : ℕ → ℕ → Range ℕ
span a b = record { start = a; end = b }

-- the node at which a walk goes on; none where it is gone, or the port that the walk holds
unfoldable pub node_left : List NodeSlot → List ℕ → ℕ → ℕ → Option NodeMeta
node_left nodes owners n held = cond (held_in owners held) (meta_of_entry (get_or nodes n fresh_slot).entry) None

-- the ports that a walk over a node's ports has left
unfoldable pub ports_left : NodeMeta → Sides → ℕ → Range ℕ
ports_left m sides held = span (max (ports_from m sides) held) (ports_to m sides)

-- a node's outgoing ports, where the flag asks for them
unfoldable pub own_ports : NodeMeta → Bool → PortRange
own_ports m flag = record { from = own_from flag (Some m); to = own_to flag (Some m) }
