-- The relation that every pair of calls keeps: the engine's graph with its model and book, the names, and the plan.
use Rattle.std.specs.Prelude.{◌≡◌, true, cond, List, [], ◌∷◌, map, ℕ, ◌<◌, eqb}
use Rattle.port_tables.specs.Lists.{Member, Rising}
use Rattle.portgraph.specs.Model as model
use Rattle.portgraph.specs.Model.{Model, slot_of}
use Rattle.port_tables.specs.declared.node_entry.NodeMeta.{NodeMeta}
use Rattle.multiportgraph.specs.WellFormed.{BlockIs, Seen}
use Rattle.port_tables.specs.Places.{Place, Wire, spot}
use Rattle.multiportgraph.specs.Reading.{is_split, subports}
use Rattle.multiportgraph.specs.declared.multiportgraph.MultiPortGraph.{MultiPortGraph}
use Rattle.theorems.proofs.WireRule.{Rel}
use Rattle.sketches.specs.Plan.{PlanBlock, port_at, is_there, subports_among}
use Rattle.agreement.specs.Meaning.{Naming, Both}

-- how many subports a port of a block has; 0 where it is not split
abbrev pub subports_at : MultiPortGraph → Model → model.InnerPlace → ℕ
subports_at m M x = cond (is_split m (slot_of M.node x)) (subports m (slot_of M.node x) x.side) 0

-- the name of a node; 0 where it has none, which no wire of a book shows
unfoldable pub name_of : List Naming → ℕ → ℕ
name_of [] n = 0
name_of (x ∷ l) n = cond (eqb x.node n) x.name (name_of l n)

abbrev pub place_renamed : List Naming → Place → Place
place_renamed l x = record { node = name_of l x.node; side = x.side; pos = x.pos; offset = x.offset }

abbrev pub wire_renamed : List Naming → Wire → Wire
wire_renamed l w = record { out = place_renamed l w.out; into = place_renamed l w.into }

abbrev pub Apart : Naming → Naming → Type 0
Apart x y = (x.node ≡ y.node → ⊥) × (x.name ≡ y.name → ⊥)

abbrev pub OtherName : PlanBlock → PlanBlock → Type 0
OtherName x y = x.name ≡ y.name → ⊥

pub record Alike (b : Both) (M : Model) : Type 0 where
  pub rel : Rel b.kit.graph M b.kit.book
  pub release : b.plan.release ≡ b.kit.graph.release
  -- no node has two names, no name two nodes, and every name was given by an add
  pub apart : Rising Apart b.names
  pub given : (x : Naming) → Member x b.names → x.name < b.plan.adds
  -- what has a name is a block of both, with the same counts
  pub named : (x : Naming) → Member x b.names →
      (k : NodeMeta) × BlockIs b.kit.graph M x.node k
      × Member (record { name = x.name; incoming = k.incoming; outgoing = k.outgoing }) b.plan.blocks
  -- every block has a name
  pub kit_named : (n : ℕ) (k : NodeMeta) → BlockIs b.kit.graph M n k → (x : Naming) × Member x b.names × (x.node ≡ n)
  pub plan_named : (p : PlanBlock) → Member p b.plan.blocks → (x : Naming) × Member x b.names × (x.name ≡ p.name)
  pub plan_once : Rising OtherName b.plan.blocks
  -- a port has as many subports in both
  pub subports : (x : model.InnerPlace) → Seen b.kit.graph M x → (n : Naming) → Member n b.names → n.node ≡ x.node →
      subports_among b.plan.splits (spot n.name x.side x.pos) ≡ subports_at b.kit.graph M x
  -- only ports that are there are split
  pub splits_there : (s : Place) → Member s b.plan.splits → is_there b.plan (port_at s) ≡ true
  -- the plan's wires are the book's, under the names
  pub wires : b.plan.wires ≡ map (wire_renamed b.names) b.kit.book.wires
