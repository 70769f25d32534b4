-- `files::listing::list_links` meets its contract. Invariant: the pairs that are left amount to all.
use mathlib.Core.Path.{refl}
use Rattle.files.specs.ListingSteps.{link_turn}
use Rattle.files.proofs.listing.list_links.Goals as goal

pub loop-i-preserved : goal.loop-i-preserved
loop-i-preserved c = link_turn c.args.ports.file.laid.wires_are c.loop-i.invariant c.loop-i-test.true refl c.ends.ensures.0 c.ends.ensures.1 refl c.put_pair.ensures
