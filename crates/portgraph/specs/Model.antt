-- What a graph means, apart from its tables: which nodes there are, which place is linked with which, and who holds each slot.
use Rattle.std.specs.Prelude.{◌≡◌, cond, List, [], ◌∷◌, ℕ, zero, suc, ◌+◌, ◌≤◌, ◌<◌, ltb, length, get_or}
use Rattle.port_tables.specs.Limits.{node_slots, port_slots, node_ports, free_lists}
use Rattle.port_tables.specs.Lists.{Member, Once}
use Rattle.port_tables.specs.Entries.{owner_number, fresh_slot, ports_on}
use Rattle.port_tables.specs.Tables.{at, head_at, Within}
use Rattle.port_tables.specs.declared.direction.Direction.{Direction}
use Rattle.port_tables.specs.declared.direction.Direction.TheVariants.{Incoming, Outgoing}
use Rattle.port_tables.specs.declared.node_entry.NodeMeta.{NodeMeta}
use Rattle.port_tables.specs.declared.node_entry.NodeSlot.{NodeSlot}
use Rattle.port_tables.specs.declared.node_entry.NodeEntry.{NodeEntry}
use Rattle.port_tables.specs.declared.node_entry.NodeEntry.TheVariants.{Free, Node}
use Rattle.portgraph.specs.declared.portgraph.PortGraph.{PortGraph}

-- the sum of f over the numbers below n
unfoldable pub total : ℕ → (ℕ → ℕ) → ℕ
total zero f = 0
total (suc n) f = total n f + f n

-- 01's inner place: node, side, port position on that side
pub record InnerPlace : Type 0 where
  pub node : ℕ
  pub side : Direction
  pub pos : ℕ

-- the far end of a link
pub data Far : Type 0 where
  nowhere : Far
  to : InnerPlace → Far

-- a node slot: no node, or a node with its block and counts
pub data Slots : Type 0 where
  gone : Slots
  live : NodeMeta → Slots

-- who has a slot of the port tables: a node's block, a free block (its first slot and size), or nobody yet
pub data Who : Type 0 where
  held : ℕ → Who
  idle : ℕ → ℕ → Who
  unused : Who

pub record Model : Type 0 where
  -- the nodes
  pub node : ℕ → Slots
  -- which place is linked with which
  pub join : InnerPlace → Far
  -- free node slots, the one freed last first
  pub free_nodes : List ℕ
  -- free blocks of each size, the one freed last first
  pub free_blocks : ℕ → List ℕ
  -- the used lengths of the node table and the port tables
  pub node_len : ℕ
  pub port_len : ℕ
  -- who has each slot of the port tables
  pub who : ℕ → Who

-- the number of ports of a node slot on one side
abbrev pub count_of : Slots → Direction → ℕ
count_of gone d = 0
count_of (live m) d = ports_on m d

abbrev pub first_of : Slots → ℕ
first_of gone = 0
first_of (live m) = m.first_port.0

-- a place that has a port
abbrev pub Valid : (ℕ → Slots) → InnerPlace → Type 0
Valid node x = x.pos < count_of (node x.node) x.side

-- the position of a node's first port of a side within its block
abbrev pub side_start : Slots → Direction → ℕ
side_start s Incoming = 0
side_start s Outgoing = count_of s Incoming

-- the slot of the port at a place: incoming ports first, then outgoing
abbrev pub slot_of : (ℕ → Slots) → InnerPlace → ℕ
slot_of node x = first_of (node x.node) + (side_start (node x.node) x.side + x.pos)

-- What holds of every model that the calls reach.
pub record Good (M : Model) : Type 0 where
  pub nodes_fit : M.node_len ≤ node_slots
  pub ports_fit : M.port_len ≤ port_slots
  -- a live node has its slot in the used part, and its ports in its block
  pub node_used : (n : ℕ) (m : NodeMeta) → M.node n ≡ live m → n < M.node_len
  pub ports_in_block : (n : ℕ) (m : NodeMeta) → M.node n ≡ live m → m.incoming + m.outgoing ≤ m.capacity
  pub block_small : (n : ℕ) (m : NodeMeta) → M.node n ≡ live m → m.capacity ≤ node_ports
  pub block_ends : (n : ℕ) (m : NodeMeta) → M.node n ≡ live m → m.first_port.0 + m.capacity ≤ M.port_len
  pub portless : (n : ℕ) (m : NodeMeta) → M.node n ≡ live m → m.capacity ≡ 0 → m.first_port.0 ≡ 0
  -- the free node slots are exactly the used ones without a node, each listed once
  pub free_listed : (n : ℕ) → n < M.node_len → M.node n ≡ gone → Member n M.free_nodes
  pub free_gone : (n : ℕ) → Member n M.free_nodes → M.node n ≡ gone
  pub free_used : (n : ℕ) → Member n M.free_nodes → n < M.node_len
  pub free_once : Once M.free_nodes
  -- every slot of the used length lies in exactly one block: of a live node, or listed once as free under its size
  pub held_by : (n : ℕ) (m : NodeMeta) (s : ℕ) → M.node n ≡ live m → Within m.first_port.0 m.capacity s → M.who s ≡ held n
  pub held_in : (s n : ℕ) → M.who s ≡ held n → (m : NodeMeta) × (M.node n ≡ live m) × Within m.first_port.0 m.capacity s
  pub idle_by : (k b s : ℕ) → Member b (M.free_blocks k) → Within b k s → M.who s ≡ idle b k
  pub idle_in : (s b k : ℕ) → M.who s ≡ idle b k → Member b (M.free_blocks k) × Within b k s
  pub idle_ends : (k b : ℕ) → Member b (M.free_blocks k) → (0 < k) × (k ≤ node_ports) × (b + k ≤ M.port_len)
  pub idle_once : (k : ℕ) → Once (M.free_blocks k)
  pub used_has : (s : ℕ) → s < M.port_len → M.who s ≡ unused → ⊥
  pub unused_beyond : (s : ℕ) → M.port_len ≤ s → M.who s ≡ unused
  -- links are symmetric, and join ports of opposite sides
  pub join_valid : (x y : InnerPlace) → M.join x ≡ to y → Valid M.node x
  pub join_back : (x y : InnerPlace) → M.join x ≡ to y → M.join y ≡ to x
  pub join_sides : (x y : InnerPlace) → M.join x ≡ to y → x.side ≡ y.side → ⊥

-- How the tables stand for a model.

-- the number that a link table has for a far end
abbrev pub far_number : (ℕ → Slots) → Far → ℕ
far_number node nowhere = 0
far_number node (to y) = suc (slot_of node y)

-- a list of free blocks runs through the first slots of the blocks
abbrev pub Chain : List ℕ → ℕ → List ℕ → Type 0
Chain t h [] = h ≡ 0
Chain t h (b ∷ bs) = (h ≡ suc b) × Chain t (at t b) bs

abbrev pub slots_of_entry : NodeEntry → Slots
slots_of_entry (Free f) = gone
slots_of_entry (Node m) = live m

-- what the node table has at a number
abbrev pub slots_at : List NodeSlot → ℕ → Slots
slots_at nodes n = slots_of_entry (get_or nodes n fresh_slot).entry

abbrev pub number_of_first : List ℕ → ℕ
number_of_first [] = 0
number_of_first (n ∷ l) = suc n

-- the free entries of the node table, with both neighbours right
abbrev pub NodeChain : List NodeSlot → ℕ → List ℕ → Type 0
NodeChain nodes prev [] = Unit {0}
NodeChain nodes prev (n ∷ l) =
    ((get_or nodes n fresh_slot).entry ≡ Free (record { prev = prev; next = number_of_first l })) × NodeChain nodes (suc n) l

-- the owner's number of a slot of a node's block: by its position
abbrev pub owner_in_block : ℕ → NodeMeta → ℕ → ℕ
owner_in_block n m s =
    cond (ltb s (m.first_port.0 + m.incoming)) (owner_number n Incoming)
    (cond (ltb s (m.first_port.0 + (m.incoming + m.outgoing))) (owner_number n Outgoing) 0)

abbrev pub owner_of_slots : ℕ → Slots → ℕ → ℕ
owner_of_slots n gone s = 0
owner_of_slots n (live m) s = owner_in_block n m s

abbrev pub owner_of_who : (ℕ → Slots) → Who → ℕ → ℕ
owner_of_who node (held n) s = owner_of_slots n (node n) s
owner_of_who node (idle b k) s = 0
owner_of_who node unused s = 0

-- What the counts count.
abbrev pub is_live : Slots → ℕ
is_live gone = 0
is_live (live m) = 1

abbrev pub ports_of : Slots → ℕ
ports_of gone = 0
ports_of (live m) = m.incoming + m.outgoing

abbrev pub is_linked : Far → ℕ
is_linked nowhere = 0
is_linked (to y) = 1

abbrev pub out_place : ℕ → ℕ → InnerPlace
out_place n i = record { node = n; side = Outgoing; pos = i }

-- every link joins one outgoing port, so the links are counted there
abbrev pub links_out : (ℕ → Slots) → (InnerPlace → Far) → ℕ → ℕ
links_out node join n = total (count_of (node n) Outgoing) (λ i. is_linked (join (out_place n i)))

pub record Holds (g : PortGraph) (M : Model) : Type 0 where
  pub nodes_long : length g.node_meta ≡ node_slots
  pub links_long : length g.port_link ≡ port_slots
  pub owners_long : length g.port_meta ≡ port_slots
  pub heads_long : length g.port_free ≡ free_lists
  pub node_len : g.node_len ≡ M.node_len
  pub port_len : g.port_len ≡ M.port_len
  pub nodes : (n : ℕ) → slots_at g.node_meta n ≡ M.node n
  pub node_head : g.node_free ≡ number_of_first M.free_nodes
  pub node_chain : NodeChain g.node_meta 0 M.free_nodes
  pub block_chain : (k : ℕ) → Chain g.port_link (head_at g.port_free k) (M.free_blocks k)
  pub owners : (s : ℕ) → at g.port_meta s ≡ owner_of_who M.node (M.who s) s
  pub links : (x : InnerPlace) → Valid M.node x → at g.port_link (slot_of M.node x) ≡ far_number M.node (M.join x)
  -- a block's slots that no port uses hold no link
  pub spare : (n : ℕ) (m : NodeMeta) (s : ℕ) → M.node n ≡ live m → m.first_port.0 + (m.incoming + m.outgoing) ≤ s → s < m.first_port.0 + m.capacity → at g.port_link s ≡ 0
  pub node_count : g.node_count ≡ total node_slots (λ n. is_live (M.node n))
  pub port_count : g.port_count ≡ total node_slots (λ n. ports_of (M.node n))
  pub link_count : g.link_count ≡ total node_slots (links_out M.node M.join)

-- A graph that came from these calls: its tables stand for a good model.
pub record Wf (g : PortGraph) : Type 0 where
  pub model : Model
  pub good : Good model
  pub holds : Holds g model

-- no place of P has this slot
abbrev pub Vacant : (InnerPlace → Type 0) → (InnerPlace → ℕ) → ℕ → Type 0
Vacant P ν s = (y : InnerPlace) → P y → ν y ≡ s → ⊥

-- the port p is at the place x; no port has the number p
abbrev pub IsPort : Model → ℕ → InnerPlace → Type 0
IsPort M p x = Valid M.node x × (slot_of M.node x ≡ p)

abbrev pub Dead : Model → ℕ → Type 0
Dead M p = Vacant (Valid M.node) (slot_of M.node) p
