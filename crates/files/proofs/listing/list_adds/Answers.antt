-- `files::listing::list_adds` meets its contract. Invariant: the pairs that are left amount to all.
use mathlib.Core.Path.{refl}
use Rattle.files.specs.ListingSteps.{add_turn}
use Rattle.files.proofs.listing.list_adds.Goals as goal

pub loop-i-preserved : goal.loop-i-preserved
loop-i-preserved c =
    add_turn c.args.file.laid.blocks_are c.loop-i.invariant c.loop-i-test.true c.block-block.ensures refl c.put_pair.ensures
