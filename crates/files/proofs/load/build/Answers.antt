-- `files::load::build` meets its contract: the build over tables, and the graph that they are.
use mathlib.Core.Path.{◌∙◌}
use Rattle.files.specs.BuildSteps.{load_is_build, load_refused}
use Rattle.files.proofs.load.build.Goals as goal

pub returns-in-Err : goal.returns-in-Err
returns-in-Err c = load_refused c.args.release c.args.file.bytes.now (load_is_build c.args.release c.args.file.bytes.now c.args.file.laid ∙ c.in-Err.ensures) _ c.refused.ensures
