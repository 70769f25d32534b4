-- A graph from its parts: every definition that gives another graph does it by these, and no other record of a graph is written. None of
-- them changes the release.
use Rattle.std.specs.Prelude.{Bool, false, List, ℕ, replicate}
use Rattle.port_tables.specs.Limits.{node_slots, port_slots}
use Rattle.portgraph.specs.Calls.{new_graph}
use Rattle.portgraph.specs.declared.portgraph.PortGraph.{PortGraph}
use Rattle.multiportgraph.specs.declared.multiportgraph.MultiPortGraph.{MultiPortGraph}
use Rattle.port_tables.specs.declared.release.Release.{Release}

abbrev pub multi : PortGraph → List Bool → List Bool → ℕ → ℕ → Release → MultiPortGraph
multi g marks flags copies subs release =
    record {
      graph = g;
      multiport = marks;
      copy_node = flags;
      copy_node_count = copies;
      subport_count = subs;
      release = release;
    }

-- the empty graph that is made for a release
unfoldable pub empty_graph : Release → MultiPortGraph
empty_graph release = multi new_graph (replicate port_slots false) (replicate node_slots false) 0 0 release

-- with another single-link graph
abbrev pub with_graph : MultiPortGraph → PortGraph → MultiPortGraph
with_graph m g = multi g m.multiport m.copy_node m.copy_node_count m.subport_count m.release

-- with other marks of split ports
abbrev pub with_marks : MultiPortGraph → List Bool → MultiPortGraph
with_marks m marks = multi m.graph marks m.copy_node m.copy_node_count m.subport_count m.release

-- with other hidden nodes, in number too, and so many subports in them
abbrev pub with_hidden : MultiPortGraph → List Bool → ℕ → ℕ → MultiPortGraph
with_hidden m flags copies subs = multi m.graph m.multiport flags copies subs m.release

-- with so many subports in the same hidden nodes
abbrev pub with_subports : MultiPortGraph → ℕ → MultiPortGraph
with_subports m subs = with_hidden m m.copy_node m.copy_node_count subs
