-- `files::load::build_answer` meets its contract: what the build in a lent graph answers.
use Rattle.files.specs.BuildSteps.{answer_is}
use Rattle.files.proofs.load.build_answer.Goals as goal

pub returns : goal.returns
returns c = answer_is c.args.release c.args.file.bytes.now c.args.file.laid _ _ c.build_over.ensures
