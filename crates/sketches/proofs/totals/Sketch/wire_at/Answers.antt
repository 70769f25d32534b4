-- `Sketch::wire_at` meets its contract: the row is one of those in use, and its offsets fit.
use Rattle.sketches.specs.WalkSteps.{out_offset, in_offset}
use Rattle.sketches.proofs.totals.Sketch.wire_at.Goals as goal

pub named-requires : goal.named-requires
named-requires c = out_offset c.self.view_is c.self.invariant c.requires _ c.out_end.ensures

pub named-requires-2 : goal.named-requires-2
named-requires-2 c = in_offset c.self.view_is c.self.invariant c.requires _ c.in_end.ensures
