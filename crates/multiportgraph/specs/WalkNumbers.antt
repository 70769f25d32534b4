-- 01's numbers and values of a walk's answers: a start has no value or its refusal; a step has its item, and nothing at the end.
use Rattle.std.specs.Prelude.{List, [], ◌∷◌, ℕ, Option, Some, None, Result, Ok, Err}
use Rattle.multi_tables.specs.declared.answers.SubportLink.{SubportLink}
use Rattle.multiportgraph.specs.Answers.{place_numbers}
use Rattle.multi_tables.specs.EndAnswers.{refusal_numbers}
use Rattle.port_tables.specs.declared.index.NodeIndex.{NodeIndex}
use Rattle.port_tables.specs.declared.index.PortIndex.{PortIndex}
use Rattle.multi_tables.specs.declared.answers.Refusal.{Refusal}
use Rattle.multi_tables.specs.declared.answers.SubportIndex.{SubportIndex}
use Rattle.multiportgraph.specs.declared.iter.Nodes.{Nodes}
use Rattle.multiportgraph.specs.declared.iter.Ports.{Ports}
use Rattle.multiportgraph.specs.declared.iter.NodePorts.{NodePorts}
use Rattle.multiportgraph.specs.declared.iter.NodeSubports.{NodeSubports}
use Rattle.multiportgraph.specs.declared.iter.PortLinks.{PortLinks}
use Rattle.multiportgraph.specs.declared.iter.NodeLinks.{NodeLinks}
use Rattle.multiportgraph.specs.declared.iter.Neighbours.{Neighbours}
use Rattle.multiportgraph.specs.declared.iter.NodeConnections.{NodeConnections}
use Rattle.multiportgraph.specs.declared.iter.Wires.{Wires}

-- a wire: both ends, then where the second one stands
abbrev pub link_values : SubportLink → List ℕ
link_values w = w.from.port.0 ∷ w.from.subport_offset ∷ w.to.port.0 ∷ w.to.subport_offset ∷ place_numbers w.place

abbrev pub nodes_values : Option (NodeIndex × Nodes) → List ℕ
nodes_values (Some (n, c)) = n.0 ∷ []
nodes_values None = []

abbrev pub ports_values : Option (PortIndex × Ports) → List ℕ
ports_values (Some (n, c)) = n.0 ∷ []
ports_values None = []

abbrev pub node_ports_values : Option (PortIndex × NodePorts) → List ℕ
node_ports_values (Some (n, c)) = n.0 ∷ []
node_ports_values None = []

abbrev pub node_subports_values : Option (SubportIndex × NodeSubports) → List ℕ
node_subports_values (Some (n, c)) = n.port.0 ∷ n.subport_offset ∷ []
node_subports_values None = []

abbrev pub port_links_values : Option (SubportLink × PortLinks) → List ℕ
port_links_values (Some (n, c)) = link_values n
port_links_values None = []

abbrev pub node_links_values : Option (SubportLink × NodeLinks) → List ℕ
node_links_values (Some (n, c)) = link_values n
node_links_values None = []

abbrev pub neighbours_values : Option (NodeIndex × Neighbours) → List ℕ
neighbours_values (Some (n, c)) = n.0 ∷ []
neighbours_values None = []

abbrev pub node_connections_values : Option (SubportLink × NodeConnections) → List ℕ
node_connections_values (Some (n, c)) = link_values n
node_connections_values None = []

abbrev pub wires_values : Option (SubportLink × Wires) → List ℕ
wires_values (Some (n, c)) = link_values n
wires_values None = []

abbrev pub node_ports_start_numbers : Result NodePorts Refusal → List ℕ
node_ports_start_numbers (Ok c) = 0 ∷ []
node_ports_start_numbers (Err r) = refusal_numbers r

abbrev pub node_subports_start_numbers : Result NodeSubports Refusal → List ℕ
node_subports_start_numbers (Ok c) = 0 ∷ []
node_subports_start_numbers (Err r) = refusal_numbers r

abbrev pub port_links_start_numbers : Result PortLinks Refusal → List ℕ
port_links_start_numbers (Ok c) = 0 ∷ []
port_links_start_numbers (Err r) = refusal_numbers r

abbrev pub node_links_start_numbers : Result NodeLinks Refusal → List ℕ
node_links_start_numbers (Ok c) = 0 ∷ []
node_links_start_numbers (Err r) = refusal_numbers r

abbrev pub neighbours_start_numbers : Result Neighbours Refusal → List ℕ
neighbours_start_numbers (Ok c) = 0 ∷ []
neighbours_start_numbers (Err r) = refusal_numbers r

abbrev pub node_connections_start_numbers : Result NodeConnections Refusal → List ℕ
node_connections_start_numbers (Ok c) = 0 ∷ []
node_connections_start_numbers (Err r) = refusal_numbers r
