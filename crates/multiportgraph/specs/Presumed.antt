-- What inner functions presume of the ports and blocks that they are given; what public calls presume is `MultiWf` alone.
use Rattle.std.specs.Prelude.{◌≡◌, true, false, ℕ, ◌+◌, ◌≤◌, ◌<◌, Some}
use Rattle.port_tables.specs.Limits.{node_ports}
use Rattle.port_tables.specs.Tables.{at}
use Rattle.portgraph.specs.Lookups.{meta_at}
use Rattle.port_tables.specs.declared.direction.Direction.{Direction}
use Rattle.port_tables.specs.declared.node_entry.NodeMeta.{NodeMeta}
use Rattle.multiportgraph.specs.Reading.{seen, is_hidden, is_split, copy_node, subports}
use Rattle.multi_tables.specs.Forms.{visible}
use Rattle.multiportgraph.specs.HiddenNodes.{ready, prepare}
use Rattle.multiportgraph.specs.Tidy.{subports_left}
use Rattle.multiportgraph.specs.WellFormed.{MultiWf}
use Rattle.multiportgraph.specs.declared.multiportgraph.MultiPortGraph.{MultiPortGraph}

-- a port of a block on this side, in a graph of the calls
pub record OnBlock (m : MultiPortGraph) (p : ℕ) (d : Direction) : Type 0 where
  pub wf : MultiWf m
  pub node : ℕ
  pub is : seen m p ≡ visible node d

-- one that is linked and not split, and one that is split
pub record LinkedPort (m : MultiPortGraph) (p : ℕ) (d : Direction) : Type 0 where
  pub block : OnBlock m p d
  pub plain : is_split m p ≡ false
  pub linked : at m.graph.port_link p ≡ 0 → ⊥

pub record SplitPort (m : MultiPortGraph) (p : ℕ) (d : Direction) : Type 0 where
  pub block : OnBlock m p d
  pub split : is_split m p ≡ true

-- one that is split, with so many subports, of which so many are left where it is tidied, and more than one
pub record LeftPort (m : MultiPortGraph) (p : ℕ) (d : Direction) (count left : ℕ) : Type 0 where
  pub port : SplitPort m p d
  pub counts : count ≡ subports m p d
  pub leaves : left ≡ subports_left m p d
  pub more : 1 < left

-- two ports of blocks
pub record BothOnBlock (m : MultiPortGraph) (a : ℕ) (d : Direction) (b : ℕ) (e : Direction) : Type 0 where
  pub first : OnBlock m a d
  pub second : OnBlock m b e

-- one that is split, with its hidden node
pub record GrowPort (m : MultiPortGraph) (p : ℕ) (d : Direction) (c : ℕ) (k : NodeMeta) : Type 0 where
  pub port : SplitPort m p d
  pub copy : copy_node m p ≡ c
  pub meta : meta_at m.graph c ≡ Some k

-- two ports of blocks, the first of which has its end ready
pub record FirstReady (m : MultiPortGraph) (a : ℕ) (d : Direction) (x o b : ℕ) (e : Direction) : Type 0 where
  pub both : BothOnBlock m a d b e
  pub is : prepare m a d ≡ ready m x o

-- a block that is there, with counts that are few enough
pub record Resizes (m : MultiPortGraph) (n : ℕ) (k : NodeMeta) (incoming outgoing : ℕ) : Type 0 where
  pub wf : MultiWf m
  pub few : incoming + outgoing ≤ node_ports
  pub meta : Some k ≡ meta_at m.graph n
  pub seen : is_hidden m n ≡ false
