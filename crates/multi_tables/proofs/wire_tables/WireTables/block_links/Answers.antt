-- `multi_tables::wire_tables::WireTables::block_links` meets its contract: a hidden node, no node, and a block.
use Rattle.multi_tables.specs.ScanSteps.{block_scanned}
use Rattle.multi_tables.proofs.wire_tables.WireTables.block_links.Goals as goal

pub returns : goal.returns
returns c = (block_scanned _ _ _ _ _ _ _ c.meta.ensures c.in_ok-meta.was c.if-hidden.false c.ports_from.ensures c.ports_to.ensures c.next_beyond.ensures.0, c.next_beyond.ensures.1)
