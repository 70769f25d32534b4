-- `files::units::sum_words` meets its contract: the words of the chunks, added one after the other.
use mathlib.Core.Path.{◌∙◌}
use borrow.Author.Rules.{rules}
use Rattle.files.specs.UnitSteps.{added, words_folded}
use Rattle.files.proofs.units.sum_words.Goals as goal

pub returns : goal.returns
returns c =
    let w = c.fold.ensures.runs in
    w.3 added (λ x y r k h. search rules) ∙ words_folded w.0 c.args.words.now c.requires w.2 (search rules)
