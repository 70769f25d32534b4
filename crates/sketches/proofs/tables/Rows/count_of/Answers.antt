-- `Rows::count_of` meets its contract: the chain counts in the front of the table.
use Rattle.std.proofs.Common.{◌≡◌, rules, take, ◌∙◌, arith}
use Rattle.std.proofs.iter.runs.Made.{chains}
use Rattle.std.specs.List.{count_by}
use Rattle.sketches.specs.Rows.{hits}
use Rattle.sketches.specs.RowSteps.{count_taken}
use Rattle.sketches.proofs.tables.Rows.count_of.Goals as goal

pub returns : goal.returns
returns c =
    let e : c.count.result ≡ count_by (hits c.args.test) (take c.args.self.now.count c.args.self.now.rows) = search (rules, chains) in
    e ∙ count_taken _ _ _ (omega arith)
