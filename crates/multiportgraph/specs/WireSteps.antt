-- Steps of the walk over all wires, over plain values.
use Rattle.multi_tables.specs.declared.answers.Refusal.{Refusal}
use Rattle.port_tables.specs.declared.index.NodeIndex.{NodeIndex}
use Rattle.std.specs.Prelude.{◌≡◌, refl, List, [], ◌∷◌, ℕ, suc, ◌-◌, Option, Some, None, Result}
use Rattle.std.proofs.Common.{sym, ◌∙◌, arith, eq-eqb, ne_eqb}
use Rattle.std.proofs.Math.Path.{ap}
use Rattle.port_tables.specs.Limits.{node_slots}
use Rattle.port_tables.specs.declared.direction.Direction.{Direction}
use Rattle.std.specs.Result.{result_ok}
use Rattle.multi_tables.specs.NamedEnds.{block_port}
use Rattle.multiportgraph.specs.StartSteps.{block_unread, block_read}
use Rattle.multiportgraph.specs.Reading.{seen}
use Rattle.multi_tables.specs.Forms.{Port, visible}
use Rattle.multiportgraph.specs.Wires.{all_wires, first_item, wires_beyond, wires_seen, step_wires}
use Rattle.multiportgraph.specs.WellFormed.{MultiWf}
use Rattle.multi_tables.specs.Scans.{first_found, wires_in}
use Rattle.multiportgraph.specs.ScanReads.{wires_read, wires_beyond_read}
use Rattle.multiportgraph.specs.WalkScans.{wires_found}
use Rattle.multiportgraph.specs.declared.multiportgraph.MultiPortGraph.{MultiPortGraph}
use Rattle.multi_tables.specs.declared.answers.SubportLink.{SubportLink}
use Rattle.multiportgraph.specs.declared.iter.Wires.{Wires}

found_first : (l : List SubportLink) → wires_found (first_found l) ≡ first_item l
unfolding first_found
found_first [] = refl
found_first (w ∷ l) = refl

module _ (m : MultiPortGraph) (w : MultiWf m) (c : Wires) where
  pub step_start : (r : Option SubportLink) (s : Option (SubportLink × Wires)) → c.held.port ≡ 0
      → r ≡ first_found (wires_in m.multiport m.graph.port_link m.graph.port_meta m.copy_node m.graph.node_meta 0 0 0 node_slots)
      → s ≡ wires_found r → s ≡ step_wires m c
  unfolding step_wires
  step_start r s z e f =
      let all = wires_read m w in
      f ∙ ap wires_found (e ∙ ap first_found all) ∙ found_first (all_wires m) ∙ rw (eq-eqb c.held.port 0 z)

  pub step_seen : (p : Port) → (c.held.port ≡ 0 → ⊥) → seen m (c.held.port - 1) ≡ p → wires_seen m (c.held.port - 1) c.held.offset p ≡ step_wires m c
  unfolding step_wires
  step_seen p z e = rw (ne_eqb c.held.port 0 z, e)

  -- what is held is a port that is refused
  pub step_gone : {p : ℕ} {b : Result (NodeIndex × Direction) Refusal} {o : Option (NodeIndex × Direction)} → (c.held.port ≡ 0 → ⊥) → p ≡ c.held.port - 1 → b ≡ block_port m.graph.port_meta m.copy_node p → o ≡ result_ok b → o ≡ None
      → None ≡ step_wires m c
  step_gone z q e k n =
      sym (block_unread m (c.held.port - 1) w.fine.flags_long (wires_seen m (c.held.port - 1) c.held.offset) refl refl (e ∙ ap (block_port m.graph.port_meta m.copy_node) q) k n)
      ∙ step_seen (seen m (c.held.port - 1)) z refl

  -- and one of a block
  pub step_on : {p k : ℕ} {y : NodeIndex} {d : Direction} {b : Result (NodeIndex × Direction) Refusal} {o : Option (NodeIndex × Direction)} {r : Option SubportLink} → (c.held.port ≡ 0 → ⊥) → p ≡ c.held.port - 1
      → b ≡ block_port m.graph.port_meta m.copy_node p → o ≡ result_ok b → o ≡ Some (y, d) → k ≡ y.0
      → r ≡ first_found (wires_in m.multiport m.graph.port_link m.graph.port_meta m.copy_node m.graph.node_meta k c.held.port c.held.offset (node_slots - k))
      → wires_found r ≡ step_wires m c
  step_on {y = y} {d = d} z q e k n g h =
      let seen_is = block_read m (c.held.port - 1) w.fine.flags_long (e ∙ ap (block_port m.graph.port_meta m.copy_node) q) k n in
      let beyond = wires_beyond_read m w (c.held.port - 1) y.0 d c.held.offset seen_is in
      let one : c.held.port ≡ suc (c.held.port - 1) = omega arith in
      ap wires_found
      (h ∙ ap (λ (x : ℕ). first_found (wires_in m.multiport m.graph.port_link m.graph.port_meta m.copy_node m.graph.node_meta x c.held.port c.held.offset (node_slots - x))) g
      ∙ ap (λ (x : ℕ). first_found (wires_in m.multiport m.graph.port_link m.graph.port_meta m.copy_node m.graph.node_meta y.0 x c.held.offset (node_slots - y.0))) one
      ∙ ap first_found beyond)
      ∙ found_first (wires_beyond m y.0 (c.held.port - 1) c.held.offset) ∙ step_seen (visible y.0 d) z seen_is
