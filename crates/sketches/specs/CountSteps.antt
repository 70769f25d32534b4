-- Counts and fan-outs over the tables.
use Rattle.std.proofs.lemmas.List.{length-map}
use Rattle.std.specs.Prelude.{◌≡◌, Bool, true, false, List, map, ℕ, length, Ok, Err}
use Rattle.std.proofs.Common.{sym, ◌∙◌}
use Rattle.std.proofs.Math.Path.{ap}
use Rattle.std.proofs.Math.Dec.{eqb}
use Rattle.std.specs.List.{filter}
use Rattle.port_tables.specs.declared.direction.Direction.TheVariants.{Outgoing}
use Rattle.port_tables.specs.Places.{Wire, touches, at_spot}
use Rattle.port_tables.specs.Listing.{filter_map}
use Rattle.sketches.specs.Plan.{has_block, spot_named, is_there}
use Rattle.sketches.specs.PlanLists.{port_fan_out, block_fan_out}
use Rattle.sketches.specs.Rows.{rows_in, wire_of, hits}
use Rattle.sketches.specs.SketchTables.{Totals, plan_in}
use Rattle.sketches.specs.declared.rows.Row.{Row}
use Rattle.sketches.specs.declared.tests.EndTest.TheVariants as ask
use Rattle.sketches.specs.declared.tests.Test.TheVariants as test
use Rattle.sketches.specs.declared.sketch.SketchPort.{SketchPort}
use Rattle.sketches.specs.declared.sketch.Reason.TheVariants.{UnknownBlock, UnknownPort}

-- rows that are hit are as many as the wires of which the test holds
same_number : (g : Wire → Bool) (l : List Row) → length (filter (λ r. g (wire_of r)) l) ≡ length (filter g (map wire_of l))
same_number g l = sym (length-map (filter (λ r. g (wire_of r)) l) wire_of) ∙ ap length (sym (filter_map wire_of g l))

module _ (b s w : List Row) (h : Totals) where
  pub fan_unknown : (x : SketchPort) → is_there (plan_in b s w h) x ≡ false → Err UnknownPort ≡ port_fan_out (plan_in b s w h) x
  unfolding port_fan_out
  fan_unknown x e = rw e

  pub fan_counted : (x : SketchPort) → is_there (plan_in b s w h) x ≡ true → {n : ℕ} → n ≡ length (filter (hits (test.Wire (ask.AtPort x))) (rows_in w h.wires)) → Ok n ≡ port_fan_out (plan_in b s w h) x
  unfolding port_fan_out
  fan_counted x e p = ap (λ (m : ℕ). Ok m) (p ∙ same_number (touches (at_spot (spot_named x))) (rows_in w h.wires)) ∙ rw e

  pub block_fan_unknown : (n : ℕ) → has_block (plan_in b s w h).blocks n ≡ false → Err UnknownBlock ≡ block_fan_out (plan_in b s w h) n
  unfolding block_fan_out
  block_fan_unknown n e = rw e

  pub block_fan_counted : (n : ℕ) → has_block (plan_in b s w h).blocks n ≡ true → {k : ℕ} → k ≡ length (filter (hits (test.Side n Outgoing)) (rows_in w h.wires)) → Ok k ≡ block_fan_out (plan_in b s w h) n
  unfolding block_fan_out
  block_fan_counted n e p = ap (λ (m : ℕ). Ok m) (p ∙ same_number (λ v. eqb v.out.node n) (rows_in w h.wires)) ∙ rw e
