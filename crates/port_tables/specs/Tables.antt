-- The port tables: links, owners and heads of the free lists, and what single steps do to them.
-- A number that stands for a port or a node in a table is one higher than it; 0 is none.
use Rattle.std.specs.Prelude.{List, [], ◌∷◌, cond, Bool, ℕ, zero, suc, ◌+◌, ◌-◌, ◌≤◌, ◌<◌, ltb, leb, eqb, get_or, set}
use Rattle.port_tables.specs.Limits.{port_slots, node_ports, no_port}
use Rattle.port_tables.specs.Entries.{owner_number, port_entry, node_of, node_number}
use Rattle.port_tables.specs.declared.direction.Direction.TheVariants.{Incoming, Outgoing}
use Rattle.port_tables.specs.declared.node_entry.NodeMeta.{NodeMeta}
use Rattle.port_tables.specs.declared.tables.Shift.{Shift}

-- what a port table holds at a slot; 0 outside
unfoldable pub at : List ℕ → ℕ → ℕ
at t s = cond (ltb s port_slots) (get_or t s 0) 0

-- the slot that a slot is linked with; 0 for none
unfoldable pub far_in : List ℕ → ℕ → ℕ
far_in links s = at links s - 1

-- the node that has a port; 0 for a port that is not live
unfoldable pub owner_in : List ℕ → ℕ → ℕ
owner_in owners p = node_number (node_of (port_entry (at owners p)))

-- the table with a number stored at a slot; outside nothing changes
unfoldable pub put : List ℕ → ℕ → ℕ → List ℕ
put t s v = cond (ltb s port_slots) (set t s v) t

-- the list with n elements from the i-th on replaced by v
unfoldable pub fill {ℓ} : {A : Type ℓ} → List A → ℕ → ℕ → A → List A
fill [] i n v = []
fill (x ∷ l) zero zero v = x ∷ l
fill (x ∷ l) zero (suc n) v = v ∷ fill l zero n v
fill (x ∷ l) (suc i) n v = x ∷ fill l i n v

-- the table with n slots from the i-th on set to v; a range that runs past the table is left alone
unfoldable pub fill_range : List ℕ → ℕ → ℕ → ℕ → List ℕ
fill_range t i n v = cond (leb (i + n) port_slots) (fill t i n v) t

-- the first free block of a size, one higher than its first slot; 0 for none
unfoldable pub head_at : List ℕ → ℕ → ℕ
head_at heads size = cond (leb size node_ports) (get_or heads size 0) 0

-- the heads with another first free block of a size; there are no blocks of size 0
unfoldable pub put_head : List ℕ → ℕ → ℕ → List ℕ
put_head heads size v = cond (ltb 0 size) (cond (leb size node_ports) (set heads size v) heads) heads

-- a block within the tables that has room for its ports
abbrev pub BlockWithin : NodeMeta → Type 0
BlockWithin m = (m.first_port.0 + m.capacity ≤ port_slots) × (m.incoming + m.outgoing ≤ m.capacity)

-- owners: the slots of a block belong to its node, incoming ports first, then outgoing; what is left is free
unfoldable pub own_block : List ℕ → ℕ → NodeMeta → List ℕ
own_block t n m =
    fill_range
    (fill_range (fill_range t m.first_port.0 m.incoming (owner_number n Incoming))
    (m.first_port.0 + m.incoming)
    m.outgoing
    (owner_number n Outgoing))
    (m.first_port.0 + (m.incoming + m.outgoing))
    (m.capacity - (m.incoming + m.outgoing))
    0

-- links: two ports are linked with one another; outside the table nothing changes
unfoldable pub link_both : List ℕ → ℕ → ℕ → List ℕ
link_both t a b = cond (ltb a port_slots) (cond (ltb b port_slots) (put (put t a (b + 1)) b (a + 1)) t) t

unfoldable pub cut_far : List ℕ → ℕ → ℕ → List ℕ
cut_far t p far = cond (eqb far 0) t (put (put t p 0) (far - 1) 0)

-- the link of a port is cut at both ends, if it has one
unfoldable pub cut : List ℕ → ℕ → List ℕ
cut t p = cut_far t p (at t p)

-- the links of n ports from p on are cut, one after the other
unfoldable pub cut_range : List ℕ → ℕ → ℕ → List ℕ
cut_range t p zero = t
cut_range t p (suc n) = cut_range (cut t p) (suc p) n

unfoldable pub link_count : ℕ → ℕ
link_count far = cond (eqb far 0) 0 1

-- how many links that cuts
unfoldable pub cut_count : List ℕ → ℕ → ℕ → ℕ
cut_count t p zero = 0
cut_count t p (suc n) = link_count (at t p) + cut_count (cut t p) (suc p) n

unfoldable pub relink : List ℕ → ℕ → ℕ → List ℕ
relink t new far = cond (eqb far 0) t (put t (far - 1) (new + 1))

-- a port moves to another slot with its link; what stood at the old slot stays there
unfoldable pub move_port : List ℕ → ℕ → ℕ → List ℕ
move_port t old new = relink (put t new (at t old)) new (at t old)

-- n ports move, the first one first
unfoldable pub move_up : List ℕ → ℕ → ℕ → ℕ → List ℕ
move_up t old new zero = t
move_up t old new (suc n) = move_up (move_port t old new) (suc old) (suc new) n

-- n ports move, the last one first
unfoldable pub move_down : List ℕ → ℕ → ℕ → ℕ → List ℕ
move_down t old new zero = t
move_down t old new (suc n) = move_down (move_port t (old + n) (new + n)) old new n

-- n ports move within their block: from the first one where they go down, else from the last, so that none is overwritten
unfoldable pub shift : List ℕ → Bool → ℕ → ℕ → ℕ → List ℕ
shift t ascending old new n = cond ascending (move_up t old new n) (move_down t old new n)

-- ports that move, where they are and where they go, lie within the tables
abbrev pub ShiftFits : Shift → Type 0
ShiftFits s = (s.from + s.count ≤ port_slots) × (s.to + s.count ≤ port_slots)

-- which of n ports moves k-th: from the first one on, or from the last one down
abbrev pub moved_at : Bool → ℕ → ℕ → ℕ
moved_at ascending n k = cond ascending k (n - (k + 1))

-- n ports move to another block, the first one first; the old slots are left without a link
unfoldable pub transfer : List ℕ → ℕ → ℕ → ℕ → List ℕ
transfer t old new zero = t
transfer t old new (suc n) = transfer (put (move_port t old new) old 0) (suc old) (suc new) n

-- a free block is put before the others of its size: its first slot holds the one that was first
unfoldable pub chain_block : List ℕ → ℕ → ℕ → ℕ → List ℕ
chain_block t first size head = cond (eqb size 0) t (put t first head)

-- The move list. An event is three numbers: port, kind (0 moved, 1 removed), and the new port or the old link.
unfoldable pub told_link : ℕ → ℕ
told_link far = cond (eqb far 0) no_port (far - 1)

-- n ports from p on are removed: what cut_range cuts is told
unfoldable pub drop_events : List ℕ → ℕ → ℕ → List ℕ
drop_events t p zero = []
drop_events t p (suc n) = p ∷ 1 ∷ told_link (at t p) ∷ drop_events (cut t p) (suc p) n

unfoldable pub move_up_events : ℕ → ℕ → ℕ → List ℕ
move_up_events old new zero = []
move_up_events old new (suc n) = old ∷ 0 ∷ new ∷ move_up_events (suc old) (suc new) n

unfoldable pub move_down_events : ℕ → ℕ → ℕ → List ℕ
move_down_events old new zero = []
move_down_events old new (suc n) = (old + n) ∷ 0 ∷ (new + n) ∷ move_down_events old new n

-- n ports moved, in the order of shift
unfoldable pub shift_events : Bool → ℕ → ℕ → ℕ → List ℕ
shift_events ascending old new n = cond ascending (move_up_events old new n) (move_down_events old new n)

-- a slot lies within n slots from f on
abbrev pub Within : ℕ → ℕ → ℕ → Type 0
Within f n s = (f ≤ s) × (s < f + n)
