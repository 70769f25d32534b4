-- `slots::laying::Laid::lay_list` meets its contract. Invariant: laying the blocks that are left on what is laid amounts to laying all.
use Prim.Native.Nat.{◌-◌}
use Rattle.port_tables.specs.Limits.{port_slots}
use Rattle.slots.specs.Forms.{list_from}
use Rattle.slots.specs.LaySteps.{Left}
use Rattle.slots.proofs.laying.Laid.lay_list.Given as goal

abbrev pub invariant-loop-count : goal.invariant-loop-count
invariant-loop-count l = Left (list_from l.links l.head l.size port_slots) (list_from l.links l.next l.size (port_slots - l._count)) l.initial.self.sizes l.initial.self.holders l.self.sizes l.self.holders
