-- `port_tables::tables::fill` meets its contract.
use native.Mathlib.Omega.{arith}
use Rattle.port_tables.specs.TableSteps.{part_filled, fill_range_done}
use Rattle.port_tables.proofs.tables.fill.Goals as goal

pub returns-then-start-n-le-PORT_SLOTS : goal.returns-then-start-n-le-PORT_SLOTS
returns-then-start-n-le-PORT_SLOTS c =
    fill_range_done _ _ _ _ _ _ _ c.wide-start.ensures c.from-n.ensures (omega arith)
    (part_filled _ _ _ _ _ _ (omega arith) (omega arith) (c.fill.ensures.after (λ y e. e)))
