-- `files::listing::list_build` meets its contract: the load's tests, then the listing.
use native.Mathlib.Omega.{arith}
use mathlib.Core.Path.{sym, ap, ◌∙◌}
use Rattle.files.specs.Loading.{load_answer}
use Rattle.files.specs.BuildSteps.{load_unlaid}
use Rattle.files.specs.ListingSteps.{list_refused, list_done}
use Rattle.files.specs.LoadAnswers.{loaded_few}
use Rattle.files.proofs.listing.list_build.Goals as goal

pub returns-in_err-laid : goal.returns-in_err-laid
returns-in_err-laid c = list_refused c.args.release c.args.file.now c.args.numbers.now _ c.from_residual.ensures.1 (load_unlaid c.args.release c.args.file.now c.in_err-laid.ensures)

pub returns-in_err-build_answer : goal.returns-in_err-build_answer
returns-in_err-build_answer c = list_refused c.args.release c.args.file.now c.args.numbers.now _ c.from_residual-in_err-build_answer.ensures.1 (ap (load_answer c.args.release) (sym c.in_ok-laid.ensures) ∙ sym c.in_err-build_answer.ensures)

pub list_laid-requires : goal.list_laid-requires
list_laid-requires c =
    let file = c.in_ok-laid.laid in
    let h = loaded_few c.args.release file.bytes.now (sym c.in_ok-build_answer.ensures) in
    let m = file.laid.blocks_are.many in
    omega (arith, h.0)

pub returns : goal.returns
returns c = let file = c.in_ok-laid.laid in rw (← c.in_ok-laid.ensures) (list_done c.args.release file.bytes.now c.args.numbers.now file.laid c.in_ok-build_answer.ensures c.list_laid.ensures)
