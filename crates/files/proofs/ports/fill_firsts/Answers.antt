-- `files::ports::fill_firsts` meets its contract. Invariant: the first ports of the blocks so far.
use native.Mathlib.Omega.{arith}
use Prim.Native.Nat.{ℕ}
use lib.ListN.{replicate, length-replicate}
use Rattle.port_tables.specs.Limits.{node_slots}
use Rattle.files.specs.BuildSteps.{filling_begins, filling_turns}
use Rattle.files.proofs.ports.fill_firsts.Goals as goal

pub loop-i-init : goal.loop-i-init
loop-i-init c = filling_begins c.args.file.bytes.now c.args.file.shape.blocks (replicate node_slots 0) (length-replicate {A = ℕ} node_slots 0)

pub loop-i-preserved : goal.loop-i-preserved
loop-i-preserved c = filling_turns c.args.file.laid.blocks_are c.requires c.loop-i.invariant c.loop-i-test.true c.block-block.ensures (omega arith) (omega arith)
