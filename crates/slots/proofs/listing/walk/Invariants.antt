-- `slots::listing::walk` meets its contract. Invariant: so many blocks are listed, and listing those that are left amounts to listing all.
use Prim.Native.Nat.{◌-◌}
use Rattle.port_tables.specs.Limits.{port_slots}
use Rattle.slots.specs.Blocks.{walk_blocks}
use Rattle.slots.specs.LaySteps.{Listing}
use Rattle.slots.proofs.listing.walk.Given as goal

abbrev pub invariant-loop-count : goal.invariant-loop-count
invariant-loop-count l = Listing (walk_blocks l.laid.sizes l.laid.holders 0 port_slots) (walk_blocks l.laid.sizes l.laid.holders l.slot (port_slots - l.count)) l.initial.list l.list l.count
