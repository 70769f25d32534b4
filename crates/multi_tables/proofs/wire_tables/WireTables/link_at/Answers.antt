-- `multi_tables::wire_tables::WireTables::link_at` meets its contract: a slot outside the tables, no link, one that is left out, and one that is given.
use mathlib.Core.Path.{refl, sym, ◌∙◌}
use Rattle.multi_tables.specs.ScanSteps.{end_passed}
use Rattle.multi_tables.proofs.wire_tables.WireTables.link_at.Goals as goal

pub returns-then-not-passes : goal.returns-then-not-passes
returns-then-not-passes c = (end_passed _ _ _ _ _ _ c.wire_end_in.ensures c.in_ok-to.was (sym c.passes.ensures ∙ c.if-not-passes.true), refl)
