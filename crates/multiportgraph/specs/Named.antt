-- What calls do with what they name (`NamedEnds` of `multi_tables`): links, cuts and prepared ends by the inner ports of their ends.
use Rattle.std.specs.Prelude.{ℕ, ◌+◌, ◌-◌, Option, Result, Ok, Err}
use Rattle.port_tables.specs.Tables.{at, link_both, cut, link_count}
use Rattle.portgraph.specs.Calls.{with_links}
use Rattle.multi_tables.specs.TableReads.{wire_in}
use Rattle.multiportgraph.specs.declared.multiportgraph.MultiPortGraph.{MultiPortGraph}
use Rattle.multi_tables.specs.declared.answers.SubportIndex.{SubportIndex}
use Rattle.multiportgraph.specs.declared.multiportgraph.PortUnlinked.{PortUnlinked}
use Rattle.multiportgraph.specs.declared.multiportgraph.PortsLinked.{PortsLinked}
use Rattle.multiportgraph.specs.Graph.{with_graph}
use Rattle.multiportgraph.specs.Cases.{cut_refused, link_refused}
use Rattle.multi_tables.specs.declared.answers.Refusal.{Refusal}
use Rattle.multi_tables.specs.declared.answers.PortPlace.{PortPlace}

-- What the calls do with what they name.

-- the graph with two inner ports linked, and with the link of one cut
abbrev pub joined_at : MultiPortGraph → ℕ → ℕ → MultiPortGraph
joined_at m x y = with_graph m (with_links m.graph (link_both m.graph.port_link x y) (m.graph.link_count + 1))

abbrev pub cut_at : MultiPortGraph → ℕ → MultiPortGraph
cut_at m x = with_graph m (with_links m.graph (cut m.graph.port_link x) (m.graph.link_count - link_count (at m.graph.port_link x)))

abbrev pub read_named : MultiPortGraph → Result ℕ Refusal → Result (Option (SubportIndex × PortPlace)) Refusal
read_named m (Ok x) = wire_in m.graph.port_link m.graph.port_meta m.copy_node x
read_named m (Err r) = Err r

abbrev pub cut_named : MultiPortGraph → Result ℕ Refusal → PortUnlinked
cut_named m (Ok x) = record { graph = cut_at m x; answer = wire_in m.graph.port_link m.graph.port_meta m.copy_node x }
cut_named m (Err r) = cut_refused m r

abbrev pub link_by : MultiPortGraph → SubportIndex → SubportIndex → Result (ℕ × ℕ) Refusal → PortsLinked
link_by m s t (Ok (x, y)) = record { graph = joined_at m x y; answer = Ok (s, t) }
link_by m s t (Err r) = link_refused m r
