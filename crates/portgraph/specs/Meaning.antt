-- What each call does, said of the model: which places are linked, which node slot and which block are taken or given back.
-- No table stands here. The laws of each call say that its tables then stand for the model given here.
use Rattle.std.specs.Prelude.{Bool, false, cond, List, [], ◌∷◌, ℕ, ◌+◌, eqb, leb, ltb}
use Rattle.portgraph.specs.Model.{Model, Far, nowhere, to, gone, live, Who, held, idle, InnerPlace}
use Rattle.port_tables.specs.declared.node_entry.NodeMeta.{NodeMeta}
use Rattle.port_tables.specs.Entries.{meta_of, new_count, same_side}

-- a function with another value at one number
unfoldable pub upd {ℓ} : {A : Type ℓ} → (ℕ → A) → ℕ → A → ℕ → A
upd f n v m = cond (eqb m n) v (f m)

unfoldable pub same_place : InnerPlace → InnerPlace → Bool
same_place x y = cond (eqb x.node y.node) (cond (same_side x.side y.side) (eqb x.pos y.pos) false) false

-- Links.

abbrev pub keep_far : (InnerPlace → Bool) → Far → Far
keep_far gone? nowhere = nowhere
keep_far gone? (to y) = cond (gone? y) nowhere (to y)

-- every link with an end among these places goes, the others stay
unfoldable pub drop_join : (InnerPlace → Bool) → (InnerPlace → Far) → InnerPlace → Far
drop_join gone? join x = cond (gone? x) nowhere (keep_far gone? (join x))

-- one link more
unfoldable pub link_join : InnerPlace → InnerPlace → (InnerPlace → Far) → InnerPlace → Far
link_join x y join z = cond (same_place z x) (to y) (cond (same_place z y) (to x) (join z))

-- the places of a node
abbrev pub at_node : ℕ → InnerPlace → Bool
at_node n x = eqb x.node n

-- the places of a node that are dropped where it is left with these counts: the highest positions of each side
abbrev pub beyond : ℕ → ℕ → ℕ → InnerPlace → Bool
beyond n incoming outgoing x = cond (eqb x.node n) (leb (new_count incoming outgoing x.side) x.pos) false

-- Slots. Free node slots and free blocks are stacks: the one freed last is taken first.

abbrev pub first_or : ℕ → List ℕ → ℕ
first_or other [] = other
first_or other (x ∷ l) = x

abbrev pub rest : List ℕ → List ℕ
rest [] = []
rest (x ∷ l) = l

-- how much a table's used length grows where something of this size is taken
abbrev pub growth : ℕ → List ℕ → ℕ
growth size [] = size
growth size (x ∷ l) = 0

-- the node slot that the next node takes: the one freed last, else the next at the end
abbrev pub next_slot : Model → ℕ
next_slot M = first_or M.node_len M.free_nodes

-- the first slot of the block that is taken next: the one of exactly this size freed last, else the end; 0 for a size of 0
abbrev pub next_block : Model → ℕ → ℕ
next_block M size = cond (eqb size 0) 0 (first_or M.port_len (M.free_blocks size))

-- a block becomes free: it is listed under its size; a size of 0 is no block
abbrev pub give_block : (ℕ → List ℕ) → ℕ → ℕ → ℕ → List ℕ
give_block blocks first size = cond (eqb size 0) blocks (upd blocks size (first ∷ blocks size))

-- the slots of a block change hands
unfoldable pub hand_over : (ℕ → Who) → ℕ → ℕ → Who → ℕ → Who
hand_over who first size w s = cond (leb first s) (cond (ltb s (first + size)) w (who s)) (who s)

-- Calls.

-- a node is added with a block of exactly incoming + outgoing slots
abbrev pub add_model : Model → ℕ → ℕ → Model
add_model M incoming outgoing =
    record {
      node = upd M.node (next_slot M) (live (meta_of (next_block M (incoming + outgoing)) incoming outgoing (incoming + outgoing)));
      join = M.join;
      free_nodes = rest M.free_nodes;
      free_blocks = upd M.free_blocks (incoming + outgoing) (rest (M.free_blocks (incoming + outgoing)));
      node_len = M.node_len + growth 1 M.free_nodes;
      port_len = M.port_len + growth (incoming + outgoing) (M.free_blocks (incoming + outgoing));
      who = hand_over M.who (next_block M (incoming + outgoing)) (incoming + outgoing) (held (next_slot M));
    }

-- a node is removed: its links go, its slot and its block become free
abbrev pub remove_model : Model → ℕ → NodeMeta → Model
remove_model M n m =
    record {
      node = upd M.node n gone;
      join = drop_join (at_node n) M.join;
      free_nodes = n ∷ M.free_nodes;
      free_blocks = give_block M.free_blocks m.first_port.0 m.capacity;
      node_len = M.node_len;
      port_len = M.port_len;
      who = hand_over M.who m.first_port.0 m.capacity (idle m.first_port.0 m.capacity);
    }

-- two places are linked
abbrev pub link_model : Model → InnerPlace → InnerPlace → Model
link_model M x y =
    record {
      node = M.node;
      join = link_join x y M.join;
      free_nodes = M.free_nodes;
      free_blocks = M.free_blocks;
      node_len = M.node_len;
      port_len = M.port_len;
      who = M.who;
    }

-- the link of a place goes
abbrev pub unlink_model : Model → InnerPlace → Model
unlink_model M x =
    record {
      node = M.node;
      join = drop_join (same_place x) M.join;
      free_nodes = M.free_nodes;
      free_blocks = M.free_blocks;
      node_len = M.node_len;
      port_len = M.port_len;
      who = M.who;
    }

-- a node gets other counts within its block: the links of dropped places go, all others stay
abbrev pub resize_model : Model → ℕ → NodeMeta → ℕ → ℕ → Model
resize_model M n m incoming outgoing =
    record {
      node = upd M.node n (live (meta_of m.first_port.0 incoming outgoing m.capacity));
      join = drop_join (beyond n incoming outgoing) M.join;
      free_nodes = M.free_nodes;
      free_blocks = M.free_blocks;
      node_len = M.node_len;
      port_len = M.port_len;
      who = M.who;
    }

-- a node gets other counts in a new block of the given size; only then its old block becomes free
abbrev pub move_model : Model → ℕ → NodeMeta → ℕ → ℕ → ℕ → Model
move_model M n m incoming outgoing size =
    record {
      node = upd M.node n (live (meta_of (next_block M size) incoming outgoing size));
      join = drop_join (beyond n incoming outgoing) M.join;
      free_nodes = M.free_nodes;
      free_blocks = give_block (upd M.free_blocks size (rest (M.free_blocks size))) m.first_port.0 m.capacity;
      node_len = M.node_len;
      port_len = M.port_len + growth size (M.free_blocks size);
      who = hand_over (hand_over M.who (next_block M size) size (held n)) m.first_port.0 m.capacity (idle m.first_port.0 m.capacity);
    }
