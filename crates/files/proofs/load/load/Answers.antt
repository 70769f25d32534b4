-- `files::load::load` meets its contract: sums, then the layout, then the build.
use Rattle.files.specs.BuildSteps.{load_unlaid, load_refused}
use Rattle.files.proofs.load.load.Goals as goal

pub returns-in-Err : goal.returns-in-Err
returns-in-Err c = load_refused c.args.release c.args.file.now (load_unlaid c.args.release c.args.file.now c.in-Err.ensures) _ c.refused.ensures
