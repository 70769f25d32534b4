-- `files::check::is_whole` meets its contract: what `all` says of the chunks.
use borrow.Author.Rules.{rules}
use Rattle.files.specs.CheckSteps.{units_tested}
use Rattle.files.proofs.check.is_whole.Goals as goal

pub returns-then-file-eq0 : goal.returns-then-file-eq0
returns-then-file-eq0 c =
    let r = c.all.ensures.runs in
    units_tested c.args.file r.0 (search rules) c.all.result r.2 (λ x b t. search rules) (λ a b f h. search rules) c.if-file-eq0.true
