-- The words of the theorems about loading: when a build for a release is refused.
use Rattle.std.specs.Prelude.{◌≡◌, true, List, ◌∷◌, ◌++◌, map, ◌⊎◌, suc, ◌+◌, ◌≤◌, ◌<◌, length, Ok}
use Rattle.port_tables.specs.Limits.{node_slots, port_slots, node_ports}
use Rattle.port_tables.specs.Lists.{Member}
use Rattle.multiportgraph.specs.Graph.{empty_graph}
use Rattle.multiportgraph.specs.Space.{room_of, overflows, link_works}
use Rattle.multi_tables.specs.declared.answers.Refusal.{Refusal}
use Rattle.multi_tables.specs.declared.answers.Refusal.TheVariants.{TooManyPorts, NoRoom, InputWired}
use Rattle.port_tables.specs.declared.release.Release.{Release}
use Rattle.port_tables.specs.declared.release.Release.TheVariants.{Two}
use Rattle.theorems.specs.History.{run}
use Rattle.theorems.proofs.CallLaws.{rel_run}
use Rattle.files.specs.View.{BlockPorts, RankWire, View}
use Rattle.files.specs.Loading.{first_port, out_port, in_port, add_of, build_of, first_refusal}

-- a view's blocks with the first of its wires
abbrev pub with_first : View → List RankWire → View
with_first v ws = record { blocks = v.blocks; wires = ws }

-- two wires end at one input
abbrev pub SameInput : RankWire → RankWire → Type 0
SameInput u w = (u.target ≡ w.target) × (u.input ≡ w.input)

-- a wire of a list ends at the same input as one before it
pub record SharesInput (ws : List RankWire) : Type 0 where
  pub first : List RankWire
  pub wire : RankWire
  pub later : List RankWire
  pub is : ws ≡ first ++ (wire ∷ later)
  pub earlier : RankWire
  pub before : Member earlier first
  pub same : SameInput earlier wire

-- All before this block or wire are accepted, and this one is refused:
pub data BuildRefused (release : Release) (v : View) : Refusal → Type 0 where
  -- a block has too many ports,
  build_many : (first : List BlockPorts) (b : BlockPorts) (later : List BlockPorts) → v.blocks ≡ first ++ (b ∷ later) →
      first_refusal (empty_graph release) (map add_of first) ≡ Ok tt →
      node_ports < b.incoming + b.outgoing → BuildRefused release v TooManyPorts
  -- or the node slots end with the block before it, or it would end beyond the port slots,
  build_no_block : (first : List BlockPorts) (b : BlockPorts) (later : List BlockPorts) → v.blocks ≡ first ++ (b ∷ later) →
      first_refusal (empty_graph release) (map add_of first) ≡ Ok tt →
      b.incoming + b.outgoing ≤ node_ports → (node_slots < suc (length first)) ⊎ (port_slots < first_port first (length first) + (b.incoming + b.outgoing)) →
      BuildRefused release v NoRoom
  -- or, for release 2, a wire before it ends at the same input,
  build_wired : (first : List RankWire) (w : RankWire) (later : List RankWire) → v.wires ≡ first ++ (w ∷ later) →
      first_refusal (empty_graph release) (build_of (with_first v first)) ≡ Ok tt →
      release ≡ Two → (u : RankWire) → Member u first → SameInput u w → BuildRefused release v InputWired
  -- or the works of a link overflow (it has none where 18 is given)
  build_no_wire : (first : List RankWire) (w : RankWire) (later : List RankWire) → v.wires ≡ first ++ (w ∷ later) →
      first_refusal (empty_graph release) (build_of (with_first v first)) ≡ Ok tt →
      overflows (room_of (rel_run release (build_of (with_first v first))).0)
      (link_works (run release (build_of (with_first v first))).graph (out_port v.blocks w) (in_port v.blocks w)) ≡ true →
      BuildRefused release v NoRoom
