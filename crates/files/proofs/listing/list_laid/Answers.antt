-- `files::listing::list_laid` meets its contract: the adds, then the links behind them.
use mathlib.Core.Path.{refl}
use Rattle.files.specs.ListingSteps.{listed_full}
use Rattle.files.proofs.listing.list_laid.Goals as goal

pub returns : goal.returns
returns c = listed_full c.args.file.laid c.args.numbers.now c.if-numbers-file.false c.list_adds.ensures refl c.list_links.ensures
