-- `exports::loaded::records_of_file` meets its contract: the refusals, else the adds and behind them the links.
use Rattle.exports.specs.LoadedSteps.{records_refused, records_done}
use Rattle.exports.proofs.loaded.records_of_file.Goals as goal

pub returns-in-Err : goal.returns-in-Err
returns-in-Err c = records_refused c.args.file.now c.args.requests.now c.in-Err.ensures.0 c.error_told.ensures

pub returns : goal.returns
returns c = records_done c.args.file.now c.in-Ok.ensures.0 c.in-Ok.ensures.1 _ c.if-requests-size.false c.put_requests-next.ensures.0 c.put_requests-next.ensures.1 c.put_requests.ensures.1
