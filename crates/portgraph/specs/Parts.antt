-- A graph in parts: its tables, and the numbers that it has beside them.
use Rattle.std.specs.Prelude.{◌≡◌, ℕ, ◌+◌, ◌*◌, ◌≤◌, ◌<◌}
use Rattle.port_tables.specs.Limits.{node_slots, port_slots, node_ports}
use Rattle.portgraph.specs.Lookups.{entry_at}
use Rattle.portgraph.specs.Model.{Wf}
use Rattle.port_tables.specs.ResizeLinks.{BlockFits}
use Rattle.port_tables.specs.declared.node_entry.NodeMeta.{NodeMeta}
use Rattle.port_tables.specs.declared.node_entry.NodeEntry.TheVariants as node_variants
use Rattle.portgraph.specs.declared.portgraph.PortGraph.{PortGraph}
use Rattle.portgraph.specs.declared.tables.Counts.{Counts}

-- what a graph has besides its tables
abbrev pub counts_of : PortGraph → Counts
counts_of g =
    record {
      node_free = g.node_free;
      node_len = g.node_len;
      port_len = g.port_len;
      node_count = g.node_count;
      port_count = g.port_count;
      link_count = g.link_count;
    }

-- a node of a graph of the calls that may get these counts: what of its numbers the steps take
pub record Resizes (g : PortGraph) (n : ℕ) (m : NodeMeta) (incoming outgoing : ℕ) : Type 0 where
  pub wf : Wf g
  pub live : entry_at g n ≡ node_variants.Node m
  pub few : incoming + outgoing ≤ node_ports
  pub fits : BlockFits m
  pub below : n < node_slots
  pub used : g.port_len ≤ port_slots
  pub counted : g.port_count ≤ node_slots * node_ports
