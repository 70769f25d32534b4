-- `slots::laying::Laid::lay_lists` meets its contract. Invariant: laying the blocks of the sizes that are left on what is laid amounts to laying
-- all.
use mathlib.Core.List.{flat_map}
use Prim.Native.Nat.{◌-◌}
use Rattle.port_tables.specs.Limits.{port_slots, free_lists}
use Rattle.port_tables.specs.Lists.{range}
use Rattle.port_tables.specs.Tables.{head_at}
use Rattle.slots.specs.Forms.{list_from, free_in}
use Rattle.slots.specs.LaySteps.{Left}
use Rattle.slots.proofs.laying.Laid.lay_lists.Given as goal

abbrev pub invariant-loop-size : goal.invariant-loop-size
invariant-loop-size l = Left (free_in l.links l.heads) (flat_map (λ k. list_from l.links (head_at l.heads k) k port_slots) (range l.size (free_lists - l.size))) l.initial.self.sizes l.initial.self.holders l.self.sizes l.self.holders
