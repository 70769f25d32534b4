-- The view of a graph: its blocks by rank and its wires between ports by rank. It is what Req 05 saves: no node number, no subport
-- offset and no capacity stands in it.
use Rattle.std.specs.Prelude.{Bool, cond, List, [], ◌∷◌, map, ℕ, suc, eqb, ltb}
use Rattle.portgraph.specs.Lookups.{num_ports}
use Rattle.port_tables.specs.declared.direction.Direction.TheVariants.{Incoming, Outgoing}
use Rattle.port_tables.specs.Places.{Wire}
use Rattle.multiportgraph.specs.Wires.{blocks, wires_walked}
use Rattle.multiportgraph.specs.declared.multiportgraph.MultiPortGraph.{MultiPortGraph}

-- a block: how many ports it has on each side
pub record BlockPorts : Type 0 where
  pub incoming : ℕ
  pub outgoing : ℕ

-- a wire between ports: source rank, output position, target rank, input position
pub record RankWire : Type 0 where
  pub source : ℕ
  pub output : ℕ
  pub target : ℕ
  pub input : ℕ

-- blocks by rank, and wires sorted, repeats kept
pub record View : Type 0 where
  pub blocks : List BlockPorts
  pub wires : List RankWire

-- Ranks.

-- the rank of a block: its position from 0 among the blocks, which stand by ascending number
unfoldable pub rank_among : List ℕ → ℕ → ℕ
rank_among [] n = 0
rank_among (k ∷ l) n = cond (eqb k n) 0 (suc (rank_among l n))

-- Order: by source rank, then output position, then target rank, then input position.

abbrev pub by_first : ℕ → ℕ → Bool → Bool
by_first a b rest = cond (eqb a b) rest (ltb a b)

unfoldable pub is_before : RankWire → RankWire → Bool
is_before v w =
    by_first v.source w.source (by_first v.output w.output (by_first v.target w.target (ltb v.input w.input)))

-- a wire put among sorted ones: before the first that it precedes
unfoldable pub insert : RankWire → List RankWire → List RankWire
insert w [] = w ∷ []
insert w (v ∷ l) = cond (is_before w v) (w ∷ v ∷ l) (v ∷ insert w l)

-- wires put one after the other among sorted ones
unfoldable pub insert_all : List RankWire → List RankWire → List RankWire
insert_all [] among = among
insert_all (w ∷ l) among = insert_all l (insert w among)

unfoldable pub sorted : List RankWire → List RankWire
sorted l = insert_all l []

-- The view.

unfoldable pub block_ports : MultiPortGraph → ℕ → BlockPorts
block_ports m n = record { incoming = num_ports m.graph n Incoming; outgoing = num_ports m.graph n Outgoing }

-- a wire between places, by the ranks of its nodes and with the offsets left out
abbrev pub rank_wire : (ℕ → ℕ) → Wire → RankWire
rank_wire rank w = record { source = rank w.out.node; output = w.out.pos; target = rank w.into.node; input = w.into.pos }

unfoldable pub view_of : MultiPortGraph → View
view_of m =
    record {
      blocks = map (block_ports m) (blocks m);
      wires = sorted (map (rank_wire (rank_among (blocks m))) (wires_walked m));
    }
