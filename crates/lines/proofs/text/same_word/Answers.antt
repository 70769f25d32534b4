-- `lines::text::same_word` meets its contract: words of two lengths, and what `all` says of the places. Assumes nothing.
use Prim.Native.Nat.{◌+◌}
use native.Mathlib.Omega.{arith}
use lib.ListN.{get_or}
use lib.Dec.{eqb}
use borrow.Author.Tests.{tests}
use Rattle.std.proofs.Common.{rules, refl, ◌∙◌}
use Rattle.std.proofs.lemmas.Iterator.{YieldsList-from_range}
use Rattle.std.proofs.lemmas.Iterator.Search.{all_from_yields_List}
use Rattle.lines.specs.TextSteps.{same_all}
use Rattle.lines.proofs.text.same_word.Goals as goal

pub returns-then-len : goal.returns-then-len
returns-then-len c =
    all_from_yields_List (λ i. eqb (get_or c.args.text.now (c.args.word.from + i) 0) (get_or c.args.other.now (c.args.name.from + i) 0)) _ _ c.all.result c.all.ensures.ran
    (YieldsList-from_range 0 c.len-then-len.result c.len-then-len.result refl (omega arith)) (λ x b q k. search (rules, tests))
    ∙ same_all c.args.text.now c.args.other.now c.args.word c.args.name c.len-then-len.ensures (omega arith)
