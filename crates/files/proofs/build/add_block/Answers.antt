-- `files::build::add_block` meets its contract.
use mathlib.Core.Path.{refl}
use Rattle.files.specs.BuildSteps.{add_stepped}
use Rattle.files.proofs.build.add_block.Goals as goal

pub returns : goal.returns
returns c = add_stepped _ _ refl refl c.add_lent.ensures.1 c.requires c.add_lent.ensures.0 c.in_ok-add_lent.was
