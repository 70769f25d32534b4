-- `multiportgraph::tidy::linked_from` meets its contract: what `find` gives from the back is the highest slot that holds a link.
use mathlib.Core.Path.{◌∙◌}
use Rattle.std.specs.Option.{option_map_or}
use Rattle.std.proofs.Common.{rules, ◌≡◌, ◌+◌}
use borrow.Author.Tests.{tests}
use Rattle.multiportgraph.specs.RangeSearches.{found_last}
use Rattle.multiportgraph.specs.TidySteps.{holds_link, left_found}
use Rattle.multiportgraph.proofs.tidy.linked_from.Goals as goal

pub returns : goal.returns
returns c =
    let e : c.map_or.result ≡ option_map_or (λ k. k + 1) c.find.result 0 = search rules in
    e
    ∙ left_found c.args.links.now c.args.first c.args.count _
    (found_last (holds_link c.args.links.now c.args.first) _ c.rev.ensures.source c.find.ensures.ran (λ x b q k. search (rules, tests))).0
