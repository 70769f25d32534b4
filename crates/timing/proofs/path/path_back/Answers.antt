-- `timing::path::path_back` meets its contract. Invariant: the path back from here on is the whole.
use Prim.Native.Nat.{◌-◌}
use lib.ListN.{drop_of_length-le}
use mathlib.Core.Path.{refl, ap}
use native.Mathlib.Omega.{arith}
use Rattle.port_tables.specs.Limits.{node_slots}
use Rattle.timing.specs.AnswerSteps.{path_stops, path_ends, path_goes}
use Rattle.timing.specs.Settling.{path_back}
use Rattle.timing.proofs.path.path_back.Goals as goal

pub loop-k-init : goal.loop-k-init
loop-k-init c = (omega arith, ap (path_back c.args.origin.now (node_slots - 1) c.args.block) (drop_of_length-le c.args.back.now {i = node_slots} (omega arith)))

pub returns-then-from-eq0 : goal.returns-then-from-eq0
returns-then-from-eq0 c =
    (omega arith, path_stops _ _ _ c.loop-k.invariant.1 c.loop-k.invariant.0 (omega arith) (omega arith) c.store.ensures (rw c.wide.ensures at c.at-from.ensures) c.if-from-eq0.true)

pub loop-k-preserved : goal.loop-k-preserved
loop-k-preserved c =
    (omega arith, path_goes _ _ _ c.loop-k.invariant.1 c.loop-k.invariant.0 (omega arith) (omega arith) c.store.ensures (omega arith) (rw c.wide.ensures at c.at-from.ensures) c.if-from-eq0.false)

pub returns : goal.returns
returns c = (omega arith, path_ends _ _ _ c.loop-k.invariant.1 c.loop-k.invariant.0 (omega arith) (omega arith) c.store-2.ensures refl)
