-- `multiportgraph::subports::subport_from` meets its contract: a port that is refused, and whether one of a block has the offset.
use mathlib.Core.Path.{refl}
use Rattle.multi_tables.specs.NamedEndSteps.{block_found}
use Rattle.multi_tables.specs.NamedEndSteps.{read_ok}
use Rattle.multiportgraph.specs.SubportSteps.{subport_there}
use Rattle.multiportgraph.proofs.subports.subport_from.Goals as goal

pub returns : goal.returns
returns c = rw c.new_multi.ensures (subport_there c.args.tables.marks.now c.args.tables.links.now c.args.tables.owners.now c.args.tables.flags.now c.args.port c.args.offset _ _ _ (block_found _ _ _ _ _ (read_ok c.block_port.ensures c.ok.ensures.value c.in_ok-direction.was)) c.span_count.ensures.0 c.if-span_count-offset.false, refl)
