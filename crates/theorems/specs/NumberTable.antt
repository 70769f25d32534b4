-- 01's numbers of every refusal with what it carries, and of every kind of answer, as one table with one claim.
use Rattle.std.specs.Prelude.{◌≡◌, refl, List, [], ◌∷◌, map, ℕ, Some, None, Ok, Err}
use Rattle.port_tables.specs.Entries.{node#, port#}
use Rattle.port_tables.specs.declared.direction.Direction.TheVariants.{Incoming, Outgoing}
use Rattle.multi_tables.specs.Forms.{subport#}
use Rattle.multiportgraph.specs.Answers.{add_numbers, remove_numbers, set_numbers, link_numbers, cut_numbers, tidy_numbers}
use Rattle.multi_tables.specs.EndAnswers.{refusal_numbers, unplaced_numbers}
use Rattle.multiportgraph.specs.Lookups.{direction_numbers, node_numbers, offset_numbers, port_numbers, count_numbers}
use Rattle.multiportgraph.specs.WalkNumbers.{link_values, nodes_values, ports_values, node_ports_values, node_subports_values, port_links_values, node_links_values, neighbours_values, node_connections_values, wires_values, node_ports_start_numbers, node_subports_start_numbers, port_links_start_numbers, node_links_start_numbers, neighbours_start_numbers, node_connections_start_numbers}
use Rattle.multi_tables.specs.declared.answers.SubportLink.{SubportLink}
use Rattle.multiportgraph.specs.declared.iter.Nodes.{Nodes}
use Rattle.multiportgraph.specs.declared.iter.Ports.{Ports}
use Rattle.multiportgraph.specs.declared.iter.NodePorts.{NodePorts}
use Rattle.multiportgraph.specs.declared.iter.NodeSubports.{NodeSubports}
use Rattle.multiportgraph.specs.declared.iter.PortLinks.{PortLinks}
use Rattle.multiportgraph.specs.declared.iter.NodeLinks.{NodeLinks}
use Rattle.multiportgraph.specs.declared.iter.Neighbours.{Neighbours}
use Rattle.multiportgraph.specs.declared.iter.NodeConnections.{NodeConnections}
use Rattle.multiportgraph.specs.declared.iter.Wires.{Wires}
use Rattle.multi_tables.specs.declared.answers.Refusal.{Refusal}
use Rattle.multi_tables.specs.declared.answers.Refusal.TheVariants.{BadOffset, TooManyPorts, UnknownNode, HiddenNode, MovesTooShort, UnknownPort, HiddenPort, UnknownOffset, NoRoom, UnknownSecondPort, IncompatibleDirections, AlreadyLinked, InputWired}

-- every refusal, of ports p and q
abbrev pub refusals : ℕ → ℕ → List Refusal
refusals p q =
    BadOffset ∷ TooManyPorts ∷ UnknownNode ∷ HiddenNode ∷ MovesTooShort ∷ UnknownPort (port# p) ∷ HiddenPort (port# p) ∷ UnknownOffset (port# p)
    ∷ NoRoom ∷ UnknownSecondPort (port# q) ∷ IncompatibleDirections (port# p) (port# q) Incoming ∷ IncompatibleDirections (port# p) (port# q) Outgoing
    ∷ AlreadyLinked (port# p) ∷ InputWired ∷ []

-- 01's number of each, and what it carries
abbrev pub refusal_table : ℕ → ℕ → List (List ℕ)
refusal_table p q =
    (2 ∷ []) ∷ (3 ∷ []) ∷ (4 ∷ []) ∷ (5 ∷ []) ∷ (6 ∷ []) ∷ (7 ∷ p ∷ []) ∷ (8 ∷ p ∷ []) ∷ (9 ∷ p ∷ [])
    ∷ (10 ∷ []) ∷ (11 ∷ q ∷ []) ∷ (12 ∷ p ∷ q ∷ 0 ∷ []) ∷ (12 ∷ p ∷ q ∷ 1 ∷ [])
    ∷ (13 ∷ p ∷ []) ∷ (18 ∷ []) ∷ []

-- every kind of answer that is no refusal, with a node n, ports p and q, offsets o and r, and a count or position k
abbrev pub answers : ℕ → ℕ → ℕ → ℕ → ℕ → ℕ → List (List ℕ)
answers n p o q r k =
    add_numbers (Ok (node# n, port# p)) ∷ remove_numbers (Ok tt) ∷ set_numbers (Ok k)
    ∷ link_numbers (Ok (subport# p o, subport# q r))
    ∷ cut_numbers (Ok (Some (subport# p o, record { node = node# n; side = Incoming; position = k })))
    ∷ cut_numbers (Ok (Some (subport# p o, record { node = node# n; side = Outgoing; position = k }))) ∷ cut_numbers (Ok None) ∷ tidy_numbers (Ok tt)
    ∷ unplaced_numbers (Ok (Some (subport# p o))) ∷ unplaced_numbers (Ok None)
    ∷ link_values (record { from = subport# p o; to = subport# q r; place = record { node = node# n; side = Outgoing; position = k } })
    ∷ direction_numbers (Ok Incoming) ∷ direction_numbers (Ok Outgoing) ∷ node_numbers (Ok (node# n))
    ∷ offset_numbers (Ok (record { direction = Incoming; index = k })) ∷ offset_numbers (Ok (record { direction = Outgoing; index = k }))
    ∷ port_numbers (Ok (Some (port# p))) ∷ port_numbers (Ok None) ∷ count_numbers (Ok k) ∷ []

abbrev pub answer_table : ℕ → ℕ → ℕ → ℕ → ℕ → ℕ → List (List ℕ)
answer_table n p o q r k =
    (0 ∷ n ∷ p ∷ []) ∷ (0 ∷ []) ∷ (0 ∷ k ∷ [])
    ∷ (0 ∷ p ∷ o ∷ q ∷ r ∷ [])
    ∷ (0 ∷ 1 ∷ p ∷ o ∷ n ∷ 0 ∷ k ∷ [])
    ∷ (0 ∷ 1 ∷ p ∷ o ∷ n ∷ 1 ∷ k ∷ []) ∷ (0 ∷ 0 ∷ 0 ∷ 0 ∷ []) ∷ (0 ∷ [])
    ∷ (0 ∷ 1 ∷ p ∷ o ∷ []) ∷ (0 ∷ 0 ∷ 0 ∷ 0 ∷ [])
    ∷ (p ∷ o ∷ q ∷ r ∷ n ∷ 1 ∷ k ∷ [])
    ∷ (0 ∷ 0 ∷ []) ∷ (0 ∷ 1 ∷ []) ∷ (0 ∷ n ∷ [])
    ∷ (0 ∷ 0 ∷ k ∷ []) ∷ (0 ∷ 1 ∷ k ∷ [])
    ∷ (0 ∷ 1 ∷ p ∷ []) ∷ (0 ∷ 0 ∷ 0 ∷ []) ∷ (0 ∷ k ∷ []) ∷ []

-- every item of a walk, with whatever cursor it comes, every end, and every start
pub record Cursors : Type 0 where
  pub nodes : Nodes
  pub ports : Ports
  pub node_ports : NodePorts
  pub subports : NodeSubports
  pub port_links : PortLinks
  pub node_links : NodeLinks
  pub neighbours : Neighbours
  pub connections : NodeConnections
  pub wires : Wires

abbrev pub walk_answers : ℕ → ℕ → ℕ → SubportLink → Cursors → List (List ℕ)
walk_answers n p o w c =
    nodes_values (Some (node# n, c.nodes)) ∷ ports_values (Some (port# p, c.ports)) ∷ node_ports_values (Some (port# p, c.node_ports))
    ∷ node_subports_values (Some (subport# p o, c.subports)) ∷ neighbours_values (Some (node# n, c.neighbours))
    ∷ port_links_values (Some (w, c.port_links)) ∷ node_links_values (Some (w, c.node_links)) ∷ node_connections_values (Some (w, c.connections))
    ∷ wires_values (Some (w, c.wires))
    ∷ nodes_values None ∷ ports_values None ∷ node_ports_values None ∷ node_subports_values None ∷ neighbours_values None
    ∷ port_links_values None ∷ node_links_values None ∷ node_connections_values None ∷ wires_values None
    ∷ node_ports_start_numbers (Ok c.node_ports) ∷ node_subports_start_numbers (Ok c.subports) ∷ port_links_start_numbers (Ok c.port_links)
    ∷ node_links_start_numbers (Ok c.node_links) ∷ neighbours_start_numbers (Ok c.neighbours)
    ∷ node_connections_start_numbers (Ok c.connections) ∷ []

abbrev pub walk_table : ℕ → ℕ → ℕ → SubportLink → List (List ℕ)
walk_table n p o w =
    (n ∷ []) ∷ (p ∷ []) ∷ (p ∷ [])
    ∷ (p ∷ o ∷ []) ∷ (n ∷ [])
    ∷ link_values w ∷ link_values w ∷ link_values w
    ∷ link_values w
    ∷ [] ∷ [] ∷ [] ∷ [] ∷ []
    ∷ [] ∷ [] ∷ [] ∷ []
    ∷ (0 ∷ []) ∷ (0 ∷ []) ∷ (0 ∷ [])
    ∷ (0 ∷ []) ∷ (0 ∷ [])
    ∷ (0 ∷ []) ∷ []

-- each answer that can be a refusal gives the refusal's numbers
abbrev pub refused_answers : Refusal → List (List ℕ)
refused_answers r =
    add_numbers (Err r) ∷ remove_numbers (Err r) ∷ set_numbers (Err r) ∷ link_numbers (Err r) ∷ cut_numbers (Err r) ∷ tidy_numbers (Err r) ∷ unplaced_numbers (Err r)
    ∷ direction_numbers (Err r) ∷ node_numbers (Err r) ∷ offset_numbers (Err r) ∷ port_numbers (Err r)
    ∷ count_numbers (Err r)
    ∷ node_ports_start_numbers (Err r) ∷ node_subports_start_numbers (Err r) ∷ port_links_start_numbers (Err r)
    ∷ node_links_start_numbers (Err r) ∷ neighbours_start_numbers (Err r) ∷ node_connections_start_numbers (Err r) ∷ []

pub refusal_numbers_lem : (p q : ℕ) → map refusal_numbers (refusals p q) ≡ refusal_table p q
refusal_numbers_lem p q = refl

pub answer_numbers : (n p o q r k : ℕ) → answers n p o q r k ≡ answer_table n p o q r k
answer_numbers n p o q r k = refl

pub refused_numbers : (r : Refusal) →
    refused_answers r
    ≡ refusal_numbers r ∷ refusal_numbers r ∷ refusal_numbers r ∷ refusal_numbers r ∷ refusal_numbers r ∷ refusal_numbers r ∷ refusal_numbers r ∷ refusal_numbers r ∷ refusal_numbers r
    ∷ refusal_numbers r ∷ refusal_numbers r ∷ refusal_numbers r ∷ refusal_numbers r ∷ refusal_numbers r ∷ refusal_numbers r ∷ refusal_numbers r ∷ refusal_numbers r ∷ refusal_numbers r ∷ []
refused_numbers r = refl

pub walk_numbers : (n p o : ℕ) (w : SubportLink) (c : Cursors) → walk_answers n p o w c ≡ walk_table n p o w
walk_numbers n p o w c = refl
