-- `files::listing::list_adds` meets its contract. Invariant: the pairs that are left amount to all.
use Rattle.files.specs.Layout.{unbytes}
use Rattle.files.specs.BuildList.{add_pair}
use Rattle.files.specs.ListingSteps.{Pairs}
use Rattle.files.proofs.listing.list_adds.Given as goal

abbrev pub invariant-loop-i : goal.invariant-loop-i
invariant-loop-i l = Pairs add_pair (unbytes l.file.bytes.now).blocks l.initial.numbers 0 l.numbers l.i
