-- `files::merge::merge_laid` meets its contract: what the three loads refuse, or what writing answers.
use Rattle.files.specs.MergeSteps.{both_laid, first_unloaded, second_unloaded, result_unloaded, result_written}
use Rattle.files.proofs.merge.merge_laid.Goals as goal

pub returns-in_err-build_answer : goal.returns-in_err-build_answer
returns-in_err-build_answer c =
    first_unloaded _ _ c.args.buffer.now (both_laid c.args.first c.args.second) c.in_err-build_answer.ensures c.from_residual.ensures.1

pub returns-in_err-build_answer-2 : goal.returns-in_err-build_answer-2
returns-in_err-build_answer-2 c =
    second_unloaded _ _ c.args.buffer.now (both_laid c.args.first c.args.second) c.in_ok-build_answer.ensures c.in_err-build_answer-2.ensures
    c.from_residual-in_err-build_answer-2.ensures.1

pub returns-in_err-answer : goal.returns-in_err-answer
returns-in_err-answer c =
    result_unloaded _ _ c.args.buffer.now (both_laid c.args.first c.args.second) c.in_ok-build_answer.ensures c.in_ok-build_answer-2.ensures c.in_err-answer.ensures
    c.from_residual-in_err-answer.ensures.1

pub returns : goal.returns
returns c =
    result_written _ _ c.args.buffer.now (both_laid c.args.first c.args.second) c.in_ok-build_answer.ensures c.in_ok-build_answer-2.ensures c.in_ok-answer.ensures
    c.write.ensures.0 c.write.ensures.1
