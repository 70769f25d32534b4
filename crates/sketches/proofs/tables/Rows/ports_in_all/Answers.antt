-- `Rows::ports_in_all` meets its contract: the rows are few, and each has few ports.
use Rattle.std.proofs.Common.{rules, ◌≡◌, refl, ◌∙◌, arith, ◌+◌, take, sum_by, map}
use Rattle.sketches.specs.Rows.{block_of}
use Rattle.sketches.specs.RowSteps.{sum_fits, ports_taken}
use Rattle.sketches.specs.declared.rows.Row.{Row}
use Rattle.sketches.proofs.tables.Rows.ports_in_all.Goals as goal

pub sum-requires-clause-fits : goal.sum-requires-clause-fits
sum-requires-clause-fits c = sum_fits (take c.args.self.now.count c.args.self.now.rows) (cc) (search rules) c.map.ensures.closure (λ x r q k. search rules)

pub returns : goal.returns
returns c =
    let e : c.sum.result ≡ sum_by (λ (r : Row). (block_of r).incoming + (block_of r).outgoing) (take c.args.self.now.count c.args.self.now.rows) = search rules in
    e ∙ ports_taken block_of (map block_of) refl (λ r l. refl) _ _ (omega arith)
