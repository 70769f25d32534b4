-- What the steps of adding, linking, cutting and reading amount to, over plain values.
use Rattle.multi_tables.specs.declared.answers.Refusal.{Refusal}
use Rattle.std.specs.Prelude.{◌≡◌, false, ℕ, replicate, Option, Result}
use Rattle.std.proofs.Common.{sym, ◌∙◌}
use Rattle.std.proofs.Math.Path.{ap}
use Rattle.port_tables.specs.Limits.{node_slots, port_slots, present}
use Rattle.portgraph.specs.Model.{Wf}
use Rattle.portgraph.specs.Calls.{add_node, unlink_port, new_graph}
use Rattle.port_tables.specs.declared.direction.Direction.{Direction}
use Rattle.portgraph.specs.declared.portgraph.PortGraph.{PortGraph}
use Rattle.portgraph.specs.declared.portgraph.PortUnlinked as lower_unlinked
use Rattle.multiportgraph.specs.Reading.{seen, is_split}
use Rattle.multi_tables.specs.Forms.{visible}
use Rattle.multiportgraph.specs.Calls.{added_as, add_block, cut_plain, cut_port}
use Rattle.multiportgraph.specs.WellFormed.{MultiWf}
use Rattle.multiportgraph.specs.declared.multiportgraph.MultiPortGraph.{MultiPortGraph}
use Rattle.port_tables.specs.declared.release.Release.{Release}
use Rattle.multiportgraph.specs.declared.multiportgraph.NodeAdded.{NodeAdded}
use Rattle.multiportgraph.specs.declared.multiportgraph.PortUnlinked.{PortUnlinked}
use Rattle.multiportgraph.specs.Graph.{multi, empty_graph, with_graph}
use Rattle.multiportgraph.specs.CaseLaws.{add_cases}
use Rattle.port_tables.specs.declared.index.PortIndex.{PortIndex}
use Rattle.portgraph.specs.declared.portgraph.NoSuchPort.{NoSuchPort}
use Rattle.port_tables.specs.declared.index.NodeIndex.{NodeIndex}
use Rattle.portgraph.specs.declared.alloc.AddError.{AddError}

-- the lower graph of a graph of the calls
pub lower_wf : (m : MultiPortGraph) → MultiWf m → Wf m.graph
lower_wf m w = record { model = w.model; good = w.fine.good; holds = w.fine.holds }

pub empty_made : (release : Release) (g : PortGraph) → g ≡ new_graph
    → ◌≡◌ {A = MultiPortGraph}
    (multi g (replicate port_slots false) (replicate node_slots false) 0 0 release)
    (empty_graph release)
unfolding empty_graph
empty_made release g e =
    ap (λ (x : PortGraph). multi x (replicate port_slots false) (replicate node_slots false) 0 0 release) e

module _ (m : MultiPortGraph) where
  -- a block is added, or refused
  pub added_graph : (i o : ℕ) {low : PortGraph} → low ≡ (add_node m.graph i o).graph → with_graph m low ≡ (add_block m i o).graph
  added_graph i o e = ap (with_graph m) e ∙ ap (λ (x : NodeAdded). x.graph) (sym (add_cases present m i o))

  pub added_answer : (i o : ℕ) {r : Result (NodeIndex × PortIndex) AddError} {a : Result (NodeIndex × PortIndex) Refusal} → r ≡ (add_node m.graph i o).answer → a ≡ added_as r → a ≡ (add_block m i o).answer
  added_answer i o e f = f ∙ ap added_as e ∙ ap (λ (x : NodeAdded). x.answer) (sym (add_cases present m i o))

  -- every wire at a port is cut
  module _ (p : ℕ) where
    pub cut_port_plain : (n : ℕ) (d : Direction) (u : lower_unlinked.PortUnlinked) (l : Result (Option PortIndex) NoSuchPort) → seen m p ≡ visible n d → is_split m p ≡ false
        → u ≡ unlink_port m.graph p → u.answer ≡ l → ◌≡◌ {A = PortUnlinked} (record { graph = with_graph m u.graph; answer = cut_plain m l }) (cut_port m p)
    unfolding cut_port
    cut_port_plain n d u l e s h k =
        ap (λ (a : Result (Option PortIndex) NoSuchPort). record { graph = with_graph m u.graph; answer = cut_plain m a }) (sym k)
        ∙ ap (λ (a : lower_unlinked.PortUnlinked). record { graph = with_graph m a.graph; answer = cut_plain m a.answer }) h
        ∙ rw (e, s)
