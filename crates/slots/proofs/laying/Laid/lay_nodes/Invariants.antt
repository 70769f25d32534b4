-- `slots::laying::Laid::lay_nodes` meets its contract. Invariant: laying the blocks of the nodes that are left on what is laid amounts to laying
-- all.
use mathlib.Core.List.{flat_map}
use Prim.Native.Nat.{◌-◌}
use Rattle.port_tables.specs.Limits.{node_slots}
use Rattle.port_tables.specs.Lists.{range}
use Rattle.port_tables.specs.NodeTable.{meta_in}
use Rattle.slots.specs.Blocks.{node_holds}
use Rattle.slots.specs.Forms.{taken_in}
use Rattle.slots.specs.LaySteps.{Left}
use Rattle.slots.proofs.laying.Laid.lay_nodes.Given as goal

abbrev pub invariant-loop-n : goal.invariant-loop-n
invariant-loop-n l = Left (taken_in l.nodes) (flat_map (λ i. node_holds i (meta_in l.nodes i)) (range l.n (node_slots - l.n))) l.initial.self.sizes l.initial.self.holders l.self.sizes l.self.holders
