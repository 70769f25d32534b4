-- `multi_tables::wire_tables::WireTables::port_link_from` meets its contract: the ends of a port that is not refused.
use Rattle.multi_tables.specs.ScanSteps.{port_links_scanned}
use Rattle.multi_tables.proofs.wire_tables.WireTables.port_link_from.Goals as goal

pub returns : goal.returns
returns c = (port_links_scanned _ _ _ _ _ _ _ c.block_port.ensures c.ok.ensures.value c.in_ok-side.was c.span_first-first.ensures.0 c.span_count-end.ensures.0 c.scan_port.ensures.0, c.scan_port.ensures.1)
