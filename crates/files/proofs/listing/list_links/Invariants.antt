-- `files::listing::list_links` meets its contract. Invariant: the pairs that are left amount to all.
use Rattle.files.specs.Layout.{unbytes}
use Rattle.files.specs.BuildList.{link_pair}
use Rattle.files.specs.ListingSteps.{Pairs}
use Rattle.files.proofs.listing.list_links.Given as goal

abbrev pub invariant-loop-i : goal.invariant-loop-i
invariant-loop-i l = Pairs (link_pair (unbytes l.ports.file.bytes.now).blocks) (unbytes l.ports.file.bytes.now).wires l.initial.numbers l.from l.numbers l.i
