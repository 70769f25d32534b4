-- Adding and removing nodes, linking and unlinking ports: answer and graph of each call, and each answer's number and values in 01.
use Rattle.std.specs.Prelude.{cond, List, [], ◌∷◌, ℕ, ◌+◌, ◌-◌, eqb, leb, ltb, set, replicate, Option, Some, None, Result, Ok, Err}
use Rattle.port_tables.specs.Limits.{node_slots, port_slots, node_ports, free_lists, Limits, present}
use Rattle.port_tables.specs.Entries.{fresh_slot, free_slot_of, node_slot_of, next_of, set_prev, side_number, node#, port#, meta_of, same_side}
use Rattle.port_tables.specs.Tables.{at, fill_range, head_at, put_head, own_block, link_both, cut, cut_range, cut_count, link_count, chain_block}
use Rattle.portgraph.specs.Lookups.{entry_at, port_at, port_link}
use Rattle.port_tables.specs.declared.direction.Direction.{Direction}
use Rattle.port_tables.specs.declared.node_entry.NodeMeta.{NodeMeta}
use Rattle.port_tables.specs.declared.node_entry.NodeEntry.{NodeEntry}
use Rattle.port_tables.specs.declared.node_entry.NodeEntry.TheVariants as node_variants
use Rattle.port_tables.specs.declared.port_entry.PortEntry.{PortEntry}
use Rattle.port_tables.specs.declared.port_entry.PortEntry.TheVariants as port_variants
use Rattle.portgraph.specs.declared.portgraph.PortGraph.{PortGraph}
use Rattle.portgraph.specs.declared.portgraph.PortsLinked.{PortsLinked}
use Rattle.portgraph.specs.declared.portgraph.PortUnlinked.{PortUnlinked}
use Rattle.portgraph.specs.declared.alloc.NodeAdded.{NodeAdded}
use Rattle.portgraph.specs.declared.alloc.NodeRemoved.{NodeRemoved}
use Rattle.port_tables.specs.declared.index.NodeIndex.{NodeIndex}
use Rattle.port_tables.specs.declared.index.PortIndex.{PortIndex}
use Rattle.portgraph.specs.declared.alloc.AddError.{AddError}
use Rattle.portgraph.specs.declared.alloc.NoSuchNode.{NoSuchNode}
use Rattle.portgraph.specs.declared.portgraph.LinkError.{LinkError}
use Rattle.portgraph.specs.declared.alloc.AddError.TheVariants as add_error
use Rattle.portgraph.specs.declared.portgraph.LinkError.TheVariants as link_error

-- the empty graph: every slot is free
unfoldable pub new_graph : PortGraph
new_graph =
    record {
      node_meta = replicate node_slots fresh_slot;
      port_link = replicate port_slots 0;
      port_meta = replicate port_slots 0;
      port_free = replicate free_lists 0;
      node_free = 0;
      node_len = 0;
      port_len = 0;
      node_count = 0;
      port_count = 0;
      link_count = 0;
    }

-- Taking slots.

-- the node slot that is taken next: the one freed last, else the next at the end
unfoldable pub find_slot_under : Limits → ℕ → ℕ → Option ℕ
find_slot_under L free len = cond (eqb free 0) (cond (ltb len L.nodes) (Some len) None) (Some (free - 1))

abbrev pub find_slot : ℕ → ℕ → Option ℕ
find_slot = find_slot_under present

-- the block that is taken next: the one of exactly this size freed last, else the end; a size of 0 takes none
unfoldable pub find_block_under : Limits → List ℕ → ℕ → ℕ → Option ℕ
find_block_under L heads len size =
    cond (eqb size 0) (Some 0)
    (cond (eqb (head_at heads size) 0) (cond (leb (len + size) L.ports) (Some len) None) (Some (head_at heads size - 1)))

abbrev pub find_block : List ℕ → ℕ → ℕ → Option ℕ
find_block = find_block_under present

-- the first of a list of free ones after its first is taken, which names the next; an empty list stays empty
unfoldable pub rest_of : ℕ → ℕ → ℕ
rest_of head next = cond (eqb head 0) 0 next

-- a table's used length, where something of this size is taken: from the list, else at the end
unfoldable pub grown : ℕ → ℕ → ℕ → ℕ
grown head len size = cond (eqb head 0) (len + size) len

-- the slot of a free entry that is given one higher than its number, or another slot where there is none
unfoldable pub slot_after : ℕ → ℕ → ℕ
slot_after code other = cond (eqb code 0) other (cond (leb code node_slots) (code - 1) other)

-- Adding a node.

-- the first free node slot after one is taken
abbrev pub free_after : PortGraph → ℕ
free_after g = rest_of g.node_free (next_of (entry_at g (g.node_free - 1)))

-- the first free block of a size after one is taken
abbrev pub head_after : PortGraph → ℕ → ℕ
head_after g size = rest_of (head_at g.port_free size) (at g.port_link (head_at g.port_free size - 1))

-- the graph with a node in slot n, whose block of exactly incoming + outgoing slots starts at first
unfoldable pub place_node : PortGraph → ℕ → ℕ → ℕ → ℕ → PortGraph
place_node g n first incoming outgoing =
    record {
      node_meta = set (set_prev g.node_meta (free_after g) 0) n (node_slot_of (meta_of first incoming outgoing (incoming + outgoing)));
      port_link = fill_range g.port_link first (incoming + outgoing) 0;
      port_meta = own_block g.port_meta n (meta_of first incoming outgoing (incoming + outgoing));
      port_free = put_head g.port_free (incoming + outgoing) (head_after g (incoming + outgoing));
      node_free = free_after g;
      node_len = grown g.node_free g.node_len 1;
      port_len = grown (head_at g.port_free (incoming + outgoing)) g.port_len (incoming + outgoing);
      node_count = g.node_count + 1;
      port_count = g.port_count + (incoming + outgoing);
      link_count = g.link_count;
    }

abbrev pub add_refused : PortGraph → Result (NodeIndex × PortIndex) AddError → NodeAdded
add_refused g a = record { graph = g; answer = a }

abbrev pub add_found : PortGraph → ℕ → ℕ → Option ℕ → Option ℕ → NodeAdded
add_found g incoming outgoing None block = add_refused g (Err add_error.NoRoom)
add_found g incoming outgoing (Some n) None = add_refused g (Err add_error.NoRoom)
add_found g incoming outgoing (Some n) (Some first) =
    record { graph = place_node g n first incoming outgoing; answer = Ok (node# n, port# first) }

-- refused with too many ports, else for lack of space, else done
unfoldable pub add_node_under : Limits → PortGraph → ℕ → ℕ → NodeAdded
add_node_under L g incoming outgoing =
    cond (leb (incoming + outgoing) node_ports)
    (add_found g incoming outgoing (find_slot_under L g.node_free g.node_len) (find_block_under L g.port_free g.port_len (incoming + outgoing)))
    (add_refused g (Err add_error.TooManyPorts))

abbrev pub add_node : PortGraph → ℕ → ℕ → NodeAdded
add_node = add_node_under present

abbrev pub add_numbers : Result (NodeIndex × PortIndex) AddError → List ℕ
add_numbers (Ok (n, p)) = 0 ∷ n.0 ∷ p.0 ∷ []
add_numbers (Err add_error.TooManyPorts) = 3 ∷ []
add_numbers (Err add_error.NoRoom) = 10 ∷ []

-- Removing a node.

-- the links of its ports are cut; its slot and its block are free, and taken first
unfoldable pub free_node : PortGraph → ℕ → NodeMeta → PortGraph
free_node g n m =
    record {
      node_meta = set (set_prev g.node_meta g.node_free (n + 1)) n (free_slot_of 0 g.node_free);
      port_link =
          chain_block (cut_range g.port_link m.first_port.0 m.capacity) m.first_port.0 m.capacity
          (head_at g.port_free m.capacity);
      port_meta = fill_range g.port_meta m.first_port.0 m.capacity 0;
      port_free = put_head g.port_free m.capacity (m.first_port.0 + 1);
      node_free = n + 1;
      node_len = g.node_len;
      port_len = g.port_len;
      node_count = g.node_count - 1;
      port_count = g.port_count - (m.incoming + m.outgoing);
      link_count = g.link_count - cut_count g.port_link m.first_port.0 m.capacity;
    }

abbrev pub remove_entry : PortGraph → ℕ → NodeEntry → NodeRemoved
remove_entry g n (node_variants.Free f) = record { graph = g; answer = Err (record {}) }
remove_entry g n (node_variants.Node m) = record { graph = free_node g n m; answer = Ok tt }

unfoldable pub remove_node : PortGraph → ℕ → NodeRemoved
remove_node g n = remove_entry g n (entry_at g n)

abbrev pub remove_numbers : Result (Unit {0}) NoSuchNode → List ℕ
remove_numbers (Ok tt) = 0 ∷ []
remove_numbers (Err _) = 4 ∷ []

-- Links.

abbrev pub with_links : PortGraph → List ℕ → ℕ → PortGraph
with_links g links count =
    record {
      node_meta = g.node_meta;
      port_link = links;
      port_meta = g.port_meta;
      port_free = g.port_free;
      node_free = g.node_free;
      node_len = g.node_len;
      port_len = g.port_len;
      node_count = g.node_count;
      port_count = g.port_count;
      link_count = count;
    }

abbrev pub link_refused : PortGraph → Result (PortIndex × PortIndex) LinkError → PortsLinked
link_refused g a = record { graph = g; answer = a }

-- both ports are live and on opposite sides: each must be free
abbrev pub link_free : PortGraph → ℕ → ℕ → PortsLinked
link_free g a b =
    cond (eqb (at g.port_link a) 0)
    (cond (eqb (at g.port_link b) 0)
    (record {
      graph = with_links g (link_both g.port_link a b) (g.link_count + 1);
      answer = Ok (port# a, port# b);
    })
    (link_refused g (Err (link_error.AlreadyLinked (port# b)))))
    (link_refused g (Err (link_error.AlreadyLinked (port# a))))

abbrev pub link_sides : PortGraph → ℕ → ℕ → Direction → Direction → PortsLinked
link_sides g a b d e =
    cond (same_side d e) (link_refused g (Err (link_error.IncompatibleDirections (port# a) (port# b) d))) (link_free g a b)

abbrev pub link_entries : PortGraph → ℕ → ℕ → PortEntry → PortEntry → PortsLinked
link_entries g a b port_variants.Free second = link_refused g (Err (link_error.UnknownPort (port# a)))
link_entries g a b (port_variants.Port m) port_variants.Free = link_refused g (Err (link_error.UnknownSecondPort (port# b)))
link_entries g a b (port_variants.Port m) (port_variants.Port k) = link_sides g a b m.direction k.direction

unfoldable pub link_ports : PortGraph → ℕ → ℕ → PortsLinked
link_ports g a b = link_entries g a b (port_at g a) (port_at g b)

abbrev pub link_numbers : Result (PortIndex × PortIndex) LinkError → List ℕ
link_numbers (Ok (a, b)) = 0 ∷ a.0 ∷ b.0 ∷ []
link_numbers (Err (link_error.UnknownPort a)) = 7 ∷ a.0 ∷ []
link_numbers (Err (link_error.UnknownSecondPort b)) = 11 ∷ b.0 ∷ []
link_numbers (Err (link_error.IncompatibleDirections a b d)) = 12 ∷ a.0 ∷ b.0 ∷ side_number d ∷ []
link_numbers (Err (link_error.AlreadyLinked p)) = 13 ∷ p.0 ∷ []

abbrev pub unlink_entry : PortGraph → ℕ → PortEntry → PortGraph
unlink_entry g p port_variants.Free = g
unlink_entry g p (port_variants.Port m) =
    with_links g (cut g.port_link p) (g.link_count - link_count (at g.port_link p))

-- the link of a port is cut, if there is one; the answer is what it was linked with
unfoldable pub unlink_port : PortGraph → ℕ → PortUnlinked
unlink_port g p = record { graph = unlink_entry g p (port_at g p); answer = port_link g p }
