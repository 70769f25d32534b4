-- What holds of every graph of the calls, over the lower graph's model: each hidden node hangs on one split port, marks stand
-- exactly at both ends of these links, and wires run between ends.
use Rattle.std.specs.Prelude.{◌≡◌, Bool, true, false, cond, List, [], ◌⊎◌, ℕ, ◌-◌, ◌≤◌, length}
use Rattle.port_tables.specs.Limits.{node_slots, port_slots}
use Rattle.port_tables.specs.Lists.{Member}
use Rattle.port_tables.specs.Entries.{reversed, ports_on}
use Rattle.portgraph.specs.Model as model
use Rattle.portgraph.specs.Model.{Model, Far, nowhere, to, Slots, gone, live, Good, Holds, Valid, slot_of, ports_of, total}
use Rattle.port_tables.specs.declared.direction.Direction.{Direction}
use Rattle.port_tables.specs.declared.direction.Direction.TheVariants.{Outgoing}
use Rattle.port_tables.specs.declared.node_entry.NodeMeta.{NodeMeta}
use Rattle.multiportgraph.specs.Reading.{is_hidden, is_split, copy_side}
use Rattle.multiportgraph.specs.declared.multiportgraph.MultiPortGraph.{MultiPortGraph}
use Rattle.port_tables.specs.Places.{Place, Wire, touches, flag}

-- an inner place
abbrev pub inner# : ℕ → Direction → ℕ → model.InnerPlace
inner# n d i = record { node = n; side = d; pos = i }

-- the place of a hidden node's copy port
abbrev pub copy_place : MultiPortGraph → ℕ → model.InnerPlace
copy_place m c = inner# c (copy_side m c) 0

-- A hidden node: one copy port, two subports or more on the other side, and its copy port is linked with a port of a block.
pub record Copy (m : MultiPortGraph) (M : Model) (c : ℕ) : Type 0 where
  pub meta : NodeMeta
  pub here : M.node c ≡ live meta
  pub single : ports_on meta (copy_side m c) ≡ 1
  pub several : 2 ≤ ports_on meta (reversed (copy_side m c))
  pub main : model.InnerPlace
  pub joined : M.join (copy_place m c) ≡ to main
  pub main_seen : is_hidden m main.node ≡ false

-- why a slot is marked: it is the copy port of a hidden node, or the port that one hangs on
pub data Marked (m : MultiPortGraph) (M : Model) (s : ℕ) : Type 0 where
  copy_port : (c : ℕ) → is_hidden m c ≡ true → slot_of M.node (copy_place m c) ≡ s → Marked m M s
  main_port_lem : (c : ℕ) (x : model.InnerPlace) → is_hidden m c ≡ true → M.join (copy_place m c) ≡ to x → slot_of M.node x ≡ s → Marked m M s

-- subports of a node slot: those of a hidden node are all its ports but the copy port
abbrev pub subports_of_slot : MultiPortGraph → Model → ℕ → ℕ
subports_of_slot m M n = cond (is_hidden m n) (ports_of (M.node n) - 1) 0

pub record Fine (m : MultiPortGraph) (M : Model) : Type 0 where
  pub good : Good M
  pub holds : Holds m.graph M
  pub marks_long : length m.multiport ≡ port_slots
  pub flags_long : length m.copy_node ≡ node_slots
  -- each hidden node hangs on one port of a block
  pub copy : (c : ℕ) → is_hidden m c ≡ true → Copy m M c
  -- both ends of that link are marked, and nothing else is
  pub copy_marked : (c : ℕ) → is_hidden m c ≡ true → is_split m (slot_of M.node (copy_place m c)) ≡ true
  pub main_marked : (c : ℕ) (x : model.InnerPlace) → is_hidden m c ≡ true → M.join (copy_place m c) ≡ to x → is_split m (slot_of M.node x) ≡ true
  pub only_marked : (s : ℕ) → is_split m s ≡ true → Marked m M s
  -- the counts of hidden nodes and of subports
  pub copies : m.copy_node_count ≡ total node_slots (λ n. flag (is_hidden m n))
  pub subs : m.subport_count ≡ total node_slots (subports_of_slot m M)

-- A graph that came from these calls.
pub record MultiWf (m : MultiPortGraph) : Type 0 where
  pub model : Model
  pub fine : Fine m model

-- a node that is a block, with its meta data
abbrev pub BlockIs : MultiPortGraph → Model → ℕ → NodeMeta → Type 0
BlockIs m M n k = (is_hidden m n ≡ false) × (M.node n ≡ live k)

-- a place of a block's port
abbrev pub Seen : MultiPortGraph → Model → model.InnerPlace → Type 0
Seen m M x = Valid M.node x × (is_hidden m x.node ≡ false)

-- 01's place of an end, from the inner place of its port: a hidden node's ports are the subports of its main port
abbrev pub lift : model.InnerPlace → ℕ → Place
lift x o = record { node = x.node; side = x.side; pos = x.pos; offset = o }

abbrev pub lift_far : Far → ℕ → model.InnerPlace → Place
lift_far nowhere o x = lift x o
lift_far (to y) o x = lift y o

unfoldable pub outer : MultiPortGraph → Model → model.InnerPlace → Place
outer m M x = cond (is_hidden m x.node) (lift_far (M.join (copy_place m x.node)) x.pos x) (lift x 0)

-- an end: a port of a block that is not split, or a subport of a hidden node
pub record IsEnd (m : MultiPortGraph) (M : Model) (x : model.InnerPlace) : Type 0 where
  pub valid : Valid M.node x
  pub unsplit : is_hidden m x.node ≡ false → is_split m (slot_of M.node x) ≡ false
  pub subport : is_hidden m x.node ≡ true → x.side ≡ copy_side m x.node → ⊥

-- a wire of the model: a link between ends, the outgoing one first
pub record WireIn (m : MultiPortGraph) (M : Model) (w : Wire) : Type 0 where
  pub x : model.InnerPlace
  pub y : model.InnerPlace
  pub joined : M.join x ≡ to y
  pub outgoing : x.side ≡ Outgoing
  pub end : IsEnd m M x
  pub is : w ≡ record { out = outer m M x; into = outer m M y }

-- What a call did, said of blocks and wires.

-- the same blocks, with their ports where they were
abbrev pub SameBlocks : MultiPortGraph → Model → MultiPortGraph → Model → Type 0
SameBlocks m M m' M' =
    ((n : ℕ) (k : NodeMeta) → BlockIs m M n k → BlockIs m' M' n k) × ((n : ℕ) (k : NodeMeta) → BlockIs m' M' n k → BlockIs m M n k)

-- wires with an end for which a test holds are gone, the others stayed, and those listed came
pub record Wiring (m : MultiPortGraph) (M : Model) (m' : MultiPortGraph) (M' : Model) (dropped : Place → Bool) (more : List Wire) : Type 0 where
  pub kept : (w : Wire) → WireIn m M w → touches dropped w ≡ false → WireIn m' M' w
  pub came : (w : Wire) → Member w more → WireIn m' M' w
  pub only : (w : Wire) → WireIn m' M' w → (WireIn m M w × (touches dropped w ≡ false)) ⊎ Member w more

abbrev pub none : Place → Bool
none x = false

-- no wire changed
abbrev pub SameWires : MultiPortGraph → Model → MultiPortGraph → Model → Type 0
SameWires m M m' M' = Wiring m M m' M' none []

-- a wire has an end at a place
abbrev pub HasEnd : Wire → Place → Type 0
HasEnd w p = (w.out ≡ p) ⊎ (w.into ≡ p)
