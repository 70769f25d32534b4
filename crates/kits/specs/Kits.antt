-- Kits with other limits (document 02, Req 08): the words of the theorems. A kit is known by its limits: each call, each history and each load
-- is defined under limits, and the plain names are those of this kit. The former kit is this one under the former limits, in tables of
-- the present lengths: its used lengths stay within its limits, so that the slots beyond them are never taken.
use Rattle.std.specs.Prelude.{◌≡◌, false, List, [], ◌∷◌, ℕ, ◌≤◌, ◌<◌}
use Rattle.port_tables.specs.Limits.{Limits}
use Rattle.portgraph.specs.Lookups.{contains_node, contains_port}
use Rattle.portgraph.specs.declared.portgraph.PortGraph.{PortGraph}
use Rattle.multiportgraph.specs.Reading.{is_hidden, is_split}
use Rattle.multiportgraph.specs.Graph.{empty_graph}
use Rattle.multiportgraph.specs.declared.multiportgraph.MultiPortGraph.{MultiPortGraph}
use Rattle.port_tables.specs.declared.release.Release.{Release}
use Rattle.theorems.specs.Book.{Call}
use Rattle.theorems.specs.History.{step_under, numbers_of}

-- the limits of the kits before this request
abbrev pub former : Limits
former = record { nodes = 512; ports = 2048 }

-- no limit is above the other kit's
pub record Lower (L K : Limits) : Type 0 where
  pub nodes : L.nodes ≤ K.nodes
  pub ports : L.ports ≤ K.ports

-- both used lengths of a graph are within limits
pub record Within (L : Limits) (g : PortGraph) : Type 0 where
  pub nodes : g.node_len ≤ L.nodes
  pub ports : g.port_len ≤ L.ports

-- a used length is past its limit
pub data Past (L : Limits) (g : PortGraph) : Type 0 where
  past_nodes : L.nodes < g.node_len → Past L g
  past_ports : L.ports < g.port_len → Past L g

-- every slot beyond limits is free: no node and no port is there, and neither is marked
pub record FreeBeyond (L : Limits) (m : MultiPortGraph) : Type 0 where
  pub nodes : (n : ℕ) → L.nodes ≤ n → contains_node m.graph n ≡ false
  pub ports : (p : ℕ) → L.ports ≤ p → contains_port m.graph p ≡ false
  pub hidden : (n : ℕ) → L.nodes ≤ n → is_hidden m n ≡ false
  pub split : (p : ℕ) → L.ports ≤ p → is_split m p ≡ false

-- the answers of a list of calls, each on the graph that the last one left, as 01's numbers
unfoldable pub answers_from : Limits → MultiPortGraph → List Call → List (List ℕ)
answers_from L m [] = []
answers_from L m (c ∷ l) = numbers_of c (step_under L m c).answer ∷ answers_from L (step_under L m c).graph l

unfoldable pub answers_under : Limits → Release → List Call → List (List ℕ)
answers_under L release calls = answers_from L (empty_graph release) calls
