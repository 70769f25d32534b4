-- `files::save::put_wires` meets its contract: ranks, the records as numbers, then the units of these sorted.
use mathlib.Core.Path.{sym, subst}
use Prim.Native.Nat.{ℕ}
use lib.ListN.{replicate}
use Rattle.port_tables.specs.Limits.{node_slots}
use Rattle.files.specs.Forms.{WiresFit}
use Rattle.files.specs.SaveSteps.{wires_fit}
use Rattle.files.proofs.save.put_wires.Goals as goal

pub wire_numbers-requires : goal.wire_numbers-requires
wire_numbers-requires c = (c.requires.1, subst (WiresFit c.args.ends.now) (sym c.fill_ranks.ensures) (wires_fit (replicate {A = ℕ} node_slots 0) c.requires.0))
