-- `newest_among` meets its contract: what `find` gives is what the search finds.
use Rattle.std.proofs.Common.{rules}
use Rattle.port_tables.specs.Searches.{found_back}
use Rattle.sketches.specs.Rows.{row_at, hits}
use Rattle.sketches.specs.RowSteps.{newest_searched}
use Rattle.sketches.proofs.tables.newest_among.Goals as goal

pub returns : goal.returns
returns c =
    rw (← c.min.ensures)
    (newest_searched (hits c.args.walk.test) c.args.rows.now _ _ c.find.result
    (found_back (λ i. hits c.args.walk.test (row_at c.args.rows.now i)) _ c.find.result c.rev.ensures.source c.find.ensures.ran (λ x b q k. search rules)))
