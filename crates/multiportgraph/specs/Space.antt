-- Refusal 10 by the work it speaks of: the free node slots and blocks with the used lengths (`Room`), what each work takes or
-- gives back without any limit, and the works of each call, in order, up to the answer that it reaches.
use Rattle.std.specs.Prelude.{Bool, cond, ◌||◌, ℕ, ◌+◌, ◌*◌, eqb, leb, ltb, Option, Some, None, ◌≡◌, true, false, ◌↔◌}
use mathlib.Core.List.{List, [], ◌∷◌, ◌++◌, flat_map}
use Rattle.port_tables.specs.Limits.{node_slots, port_slots}
use Rattle.portgraph.specs.Model.{Model, Good, Holds}
use Rattle.portgraph.specs.Meaning as meaning
use Rattle.port_tables.specs.Entries.{same_side}
use Rattle.portgraph.specs.Meaning.{upd, rest, growth}
use Rattle.portgraph.specs.Lookups.{meta_at}
use Rattle.port_tables.specs.ResizeLinks.{round_up, same_counts, fits_inside}
use Rattle.port_tables.specs.declared.direction.Direction.{Direction}
use Rattle.port_tables.specs.declared.node_entry.NodeMeta.{NodeMeta}
use Rattle.multiportgraph.specs.Reading.{has_link, is_split, seen, copy_node, subports}
use Rattle.multi_tables.specs.Forms.{Port, dead, hidden, visible}
use Rattle.multiportgraph.specs.Refusals.{input_taken}
use Rattle.multiportgraph.specs.declared.multiportgraph.MultiPortGraph.{MultiPortGraph}
use Rattle.multiportgraph.specs.Tidy.{subports_left}
use Rattle.multiportgraph.specs.HiddenNodes.{copies_in, copies_dropped, Prepared, ready, full, lowest_free, prepare}
use Rattle.portgraph.specs.declared.portgraph.PortGraph.{PortGraph}

-- free node slots and free blocks of each size, the one freed last first, and the used lengths of the tables
pub record Room : Type 0 where
  pub free_nodes : List ℕ
  pub free_blocks : ℕ → List ℕ
  pub node_len : ℕ
  pub port_len : ℕ

abbrev pub room_of : Model → Room
room_of M = record { free_nodes = M.free_nodes; free_blocks = M.free_blocks; node_len = M.node_len; port_len = M.port_len }

pub data Work : Type 0 where
  take_node : Work
  -- a block of a size
  take_block : ℕ → Work
  give_node : ℕ → Work
  -- the first slot of a block, and its size
  give_block : ℕ → ℕ → Work

-- The one freed last is taken, else the table grows; a size of 0 takes nothing and is no block.
abbrev pub block_taken : Room → ℕ → Room
block_taken r size =
    record {
      free_nodes = r.free_nodes;
      free_blocks = upd r.free_blocks size (rest (r.free_blocks size));
      node_len = r.node_len;
      port_len = r.port_len + growth size (r.free_blocks size);
    }

unfoldable pub after_work : Room → Work → Room
after_work r take_node =
    record {
      free_nodes = rest r.free_nodes;
      free_blocks = r.free_blocks;
      node_len = r.node_len + growth 1 r.free_nodes;
      port_len = r.port_len;
    }
after_work r (take_block size) = cond (eqb size 0) r (block_taken r size)
after_work r (give_node n) =
    record { free_nodes = n ∷ r.free_nodes; free_blocks = r.free_blocks; node_len = r.node_len; port_len = r.port_len }
after_work r (give_block first size) =
    record {
      free_nodes = r.free_nodes;
      free_blocks = meaning.give_block r.free_blocks first size;
      node_len = r.node_len;
      port_len = r.port_len;
    }

unfoldable pub after_works : Room → List Work → Room
after_works r [] = r
after_works r (w ∷ l) = after_works (after_work r w) l

-- a test holds at the start, or after some of the works
unfoldable pub on_the_way : (Room → Bool) → Room → List Work → Bool
on_the_way past r [] = past r
on_the_way past r (w ∷ l) = past r || on_the_way past (after_work r w) l

-- a table is longer than its limit
abbrev pub nodes_past : Room → Bool
nodes_past r = ltb node_slots r.node_len

abbrev pub ports_past : Room → Bool
ports_past r = ltb port_slots r.port_len

-- the works would lengthen the node table, or the port table, past its limit
abbrev pub nodes_short : Room → List Work → Bool
nodes_short r l = on_the_way nodes_past r l

abbrev pub ports_short : Room → List Work → Bool
ports_short r l = on_the_way ports_past r l

abbrev pub overflows : Room → List Work → Bool
overflows r l = nodes_short r l || ports_short r l

-- The works of the calls.

-- adding a block
abbrev pub add_works : ℕ → ℕ → List Work
add_works incoming outgoing = take_node ∷ take_block (incoming + outgoing) ∷ []

-- a node goes
abbrev pub gone_works : ℕ → Option NodeMeta → List Work
gone_works n None = []
gone_works n (Some k) = give_node n ∷ give_block k.first_port.0 k.capacity ∷ []

-- hidden nodes go, one after the other
abbrev pub copies_gone : MultiPortGraph → List ℕ → List Work
copies_gone m l = flat_map (λ c. gone_works c (meta_at m.graph c)) l

-- a new block for a total, and only then the old one is free
abbrev pub move_works : NodeMeta → ℕ → List Work
move_works k total = take_block (round_up total) ∷ give_block k.first_port.0 k.capacity ∷ []

-- other counts: nothing if they are equal, nor for a total from 1 to capacity − 1
unfoldable pub recount_works : NodeMeta → ℕ → ℕ → List Work
recount_works k incoming outgoing =
    cond (same_counts k incoming outgoing) [] (cond (fits_inside k incoming outgoing) [] (move_works k (incoming + outgoing)))

-- changing a block's counts: then the hidden nodes of dropped ports go
abbrev pub set_meta_works : MultiPortGraph → ℕ → ℕ → Option NodeMeta → List Work
set_meta_works m incoming outgoing None = []
set_meta_works m incoming outgoing (Some k) = recount_works k incoming outgoing ++ copies_gone m (copies_dropped m k incoming outgoing)

unfoldable pub set_works : MultiPortGraph → ℕ → ℕ → ℕ → List Work
set_works m n incoming outgoing = set_meta_works m incoming outgoing (meta_at m.graph n)

-- splitting a port: a hidden node with a copy port and two subports
abbrev pub split_works : List Work
split_works = take_node ∷ take_block 3 ∷ []

-- one more subport of a hidden node
abbrev pub grow_works : Option NodeMeta → List Work
grow_works None = []
grow_works (Some k) = cond (ltb (k.incoming + k.outgoing + 1) k.capacity) [] (move_works k (k.incoming + k.outgoing + 1))

-- an end, by the cases of mark and link
unfoldable pub reuse_works : MultiPortGraph → ℕ → ℕ → ℕ → List Work
reuse_works m c o n = cond (ltb o n) [] (grow_works (meta_at m.graph c))

unfoldable pub prepare_works : MultiPortGraph → ℕ → Direction → List Work
prepare_works m p d =
    cond (is_split m p)
    (reuse_works m (copy_node m p) (lowest_free m.graph (copy_node m p) d 0 (subports m p d)) (subports m p d))
    (cond (has_link m.graph p) split_works [])

-- the second end, on the graph after the first
abbrev pub second_works : ℕ → Direction → Prepared → List Work
second_works b e full = []
second_works b e (ready m x o) = prepare_works m b e

abbrev pub link_seen_works : MultiPortGraph → ℕ → ℕ → Port → Port → List Work
link_seen_works m a b dead second = []
link_seen_works m a b hidden second = []
link_seen_works m a b (visible n d) hidden = []
link_seen_works m a b (visible n d) dead = prepare_works m a d
link_seen_works m a b (visible n d) (visible k e) = prepare_works m a d ++ second_works b e (prepare m a d)

-- linking ports: the first end, then the second if its port is live; nothing where 18 is given
unfoldable pub link_works : MultiPortGraph → ℕ → ℕ → List Work
link_works m a b = cond (input_taken m a b) [] (link_seen_works m a b (seen m a) (seen m b))

-- and leaving no stub: the same, once 11 and 12 are settled
abbrev pub link_clean_seen_works : MultiPortGraph → ℕ → ℕ → Port → Port → List Work
link_clean_seen_works m a b dead second = []
link_clean_seen_works m a b hidden second = []
link_clean_seen_works m a b (visible n d) hidden = []
link_clean_seen_works m a b (visible n d) dead = []
link_clean_seen_works m a b (visible n d) (visible k e) = cond (same_side d e) [] (link_seen_works m a b (seen m a) (seen m b))

unfoldable pub link_clean_works : MultiPortGraph → ℕ → ℕ → List Work
link_clean_works m a b = cond (input_taken m a b) [] (link_clean_seen_works m a b (seen m a) (seen m b))

-- removing a block: its hidden nodes by ascending port, then the node itself
abbrev pub remove_meta_works : MultiPortGraph → ℕ → Option NodeMeta → List Work
remove_meta_works m n None = []
remove_meta_works m n (Some k) =
    copies_gone m (copies_in m k.first_port.0 (k.incoming + k.outgoing)) ++ gone_works n (Some k)

unfoldable pub remove_works : MultiPortGraph → ℕ → List Work
remove_works m n = remove_meta_works m n (meta_at m.graph n)

-- cutting a port: the hidden node of a split one goes
unfoldable pub cut_works : MultiPortGraph → ℕ → List Work
cut_works m p = cond (is_split m p) (gone_works (copy_node m p) (meta_at m.graph (copy_node m p))) []

-- tidying a port: the hidden node of a split one goes where no offset above 0 is wired; else nothing is taken or given back
unfoldable pub tidy_works : MultiPortGraph → ℕ → Direction → List Work
tidy_works m p d = cond (is_split m p) (cond (ltb 1 (subports_left m p d)) [] (gone_works (copy_node m p) (meta_at m.graph (copy_node m p)))) []

-- The works of every call; none where it is refused before 10.

abbrev pub told_works : MultiPortGraph → ℕ → ℕ → ℕ → ℕ → Option NodeMeta → List Work
told_works m n incoming outgoing room None = []
told_works m n incoming outgoing room (Some k) =
    cond (leb (3 * (k.incoming + k.outgoing)) room) (set_works m n incoming outgoing) []

abbrev pub cut_seen_works : MultiPortGraph → ℕ → Port → List Work
cut_seen_works m p dead = []
cut_seen_works m p hidden = []
cut_seen_works m p (visible n d) = cut_works m p

abbrev pub tidy_seen_works : MultiPortGraph → ℕ → Port → List Work
tidy_seen_works m p dead = []
tidy_seen_works m p hidden = []
tidy_seen_works m p (visible n d) = tidy_works m p d

-- A graph has a room.
pub record HasRoom (g : PortGraph) (r : Room) : Type 0 where
  pub model : Model
  pub good : Good model
  pub holds : Holds g model
  pub is : room_of model ≡ r

-- What a call has to do with space: it is refused with 10 exactly if its works overflow, and then changes nothing; else the room
-- is that after the works.
pub record Spaced (m : MultiPortGraph) (M : Model) (works : List Work) (refused : Type 0) (m' : MultiPortGraph) : Type 0 where
  pub no_room_iff : refused ↔ (overflows (room_of M) works ≡ true)
  pub unchanged : refused → m' ≡ m
  pub room_after : overflows (room_of M) works ≡ false → HasRoom m'.graph (after_works (room_of M) works)
