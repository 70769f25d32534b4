-- Each call: answer and graph. Its refusals, in 01's order, are those of the table (Refusals); else it is done.
use Rattle.std.specs.Prelude.{Bool, true, false, cond, List, ℕ, ◌+◌, ◌-◌, Option, Some, None, Result, Ok, Err}
use Rattle.port_tables.specs.Limits.{Limits, present}
use Rattle.portgraph.specs.Lookups.{meta_at, port_link}
use Rattle.portgraph.specs.Calls.{add_node_under, remove_node, link_ports, unlink_port}
use Rattle.portgraph.specs.Resize.{set_num_ports_under, moves_after_under}
use Rattle.port_tables.specs.declared.node_entry.NodeMeta.{NodeMeta}
use Rattle.portgraph.specs.declared.portgraph.PortGraph.{PortGraph}
use Rattle.multiportgraph.specs.Reading.{is_hidden, is_split, as_read, standing, standing_of, far_subport, side_of, seen}
use Rattle.multi_tables.specs.Forms.{subport#}
use Rattle.multiportgraph.specs.declared.multiportgraph.MultiPortGraph.{MultiPortGraph}
use Rattle.multi_tables.specs.declared.answers.SubportIndex.{SubportIndex}
use Rattle.multi_tables.specs.declared.answers.Refusal.TheVariants.{TooManyPorts, UnknownNode, MovesTooShort, UnknownPort, NoRoom, UnknownSecondPort, IncompatibleDirections, AlreadyLinked}
use Rattle.multiportgraph.specs.declared.multiportgraph.NodeAdded.{NodeAdded}
use Rattle.multiportgraph.specs.declared.multiportgraph.NodeRemoved.{NodeRemoved}
use Rattle.multiportgraph.specs.declared.multiportgraph.PortsSet.{PortsSet}
use Rattle.multiportgraph.specs.declared.multiportgraph.PortsLinked.{PortsLinked}
use Rattle.multiportgraph.specs.declared.multiportgraph.PortUnlinked.{PortUnlinked}
use Rattle.multiportgraph.specs.declared.multiportgraph.PortTidied.{PortTidied}
use Rattle.multiportgraph.specs.Graph.{with_graph}
use Rattle.multiportgraph.specs.HiddenNodes.{copies_dropped, recounted, remove_all, unsplit, unsplit_range}
use Rattle.multiportgraph.specs.Tidy.{tidied}
use Rattle.multiportgraph.specs.Refusals.{add_refusals, checked, cut_refusals, end_of, first_end, input_taken, joining, link_clean_refusals, link_refusals, link_sub_refusals, prepared_graph, prepared_offset, prepared_port, remove_refusals, second_end, set_refusals, subport_refusals}
use Rattle.port_tables.specs.declared.index.NodeIndex.{NodeIndex}
use Rattle.port_tables.specs.declared.index.PortIndex.{PortIndex}
use Rattle.portgraph.specs.declared.portgraph.NoSuchPort.{NoSuchPort}
use Rattle.multi_tables.specs.declared.answers.Refusal.{Refusal}
use Rattle.multi_tables.specs.declared.answers.PortPlace.{PortPlace}
use Rattle.portgraph.specs.declared.alloc.AddError.TheVariants as add_error
use Rattle.portgraph.specs.declared.portgraph.LinkError.TheVariants as link_error
use Rattle.portgraph.specs.declared.resize.SetError.TheVariants as set_error
use Rattle.portgraph.specs.declared.alloc.AddError.{AddError}
use Rattle.portgraph.specs.declared.portgraph.LinkError.{LinkError}
use Rattle.portgraph.specs.declared.resize.SetError.{SetError}

-- Adding a block.

abbrev pub added_as : Result (NodeIndex × PortIndex) AddError → Result (NodeIndex × PortIndex) Refusal
added_as (Ok (n, p)) = Ok (n, p)
added_as (Err add_error.TooManyPorts) = Err TooManyPorts
added_as (Err add_error.NoRoom) = Err NoRoom

-- the single-link graph's node is the block
unfoldable pub add_block_under : Limits → MultiPortGraph → ℕ → ℕ → NodeAdded
add_block_under L m incoming outgoing =
    checked (add_refusals L m incoming outgoing) (λ l. record { graph = l.leaves; answer = Err l.refusal })
    (record {
      graph = with_graph m (add_node_under L m.graph incoming outgoing).graph;
      answer = added_as (add_node_under L m.graph incoming outgoing).answer;
    })

abbrev pub add_block : MultiPortGraph → ℕ → ℕ → NodeAdded
add_block = add_block_under present

-- Removing a block.

-- its hidden nodes go by ascending port, then the node itself
unfoldable pub drop_block : MultiPortGraph → ℕ → NodeMeta → MultiPortGraph
drop_block m n k =
    with_graph (unsplit_range m k.first_port.0 (k.incoming + k.outgoing))
    (remove_node (unsplit_range m k.first_port.0 (k.incoming + k.outgoing)).graph n).graph

abbrev pub drop_meta : MultiPortGraph → ℕ → Option NodeMeta → MultiPortGraph
drop_meta m n None = m
drop_meta m n (Some k) = drop_block m n k

unfoldable pub remove_block : MultiPortGraph → ℕ → NodeRemoved
remove_block m n =
    checked (remove_refusals m n) (λ l. record { graph = l.leaves; answer = Err l.refusal })
    (record { graph = drop_meta m n (meta_at m.graph n); answer = Ok tt })

-- Changing a block's counts.

abbrev pub set_as : Result ℕ SetError → Result ℕ Refusal
set_as (Ok e) = Ok e
set_as (Err set_error.TooManyPorts) = Err TooManyPorts
set_as (Err set_error.UnknownNode) = Err UnknownNode
set_as (Err set_error.MovesTooShort) = Err MovesTooShort
set_as (Err set_error.NoRoom) = Err NoRoom

-- after the resize the hidden nodes of dropped ports go, in the order reported
abbrev pub resized_meta : MultiPortGraph → ℕ → ℕ → ℕ → PortGraph → Option NodeMeta → MultiPortGraph
resized_meta m n incoming outgoing g None = m
resized_meta m n incoming outgoing g (Some k) = remove_all (recounted m n g) (copies_dropped m k incoming outgoing)

-- room is the length of the move list
unfoldable pub set_counts_under : Limits → MultiPortGraph → ℕ → ℕ → ℕ → ℕ → PortsSet
set_counts_under L m n incoming outgoing room =
    checked (set_refusals L m n incoming outgoing room) (λ l. record { graph = l.leaves; answer = Err l.refusal })
    (record {
      graph = resized_meta m n incoming outgoing (set_num_ports_under L m.graph n incoming outgoing room).graph (meta_at m.graph n);
      answer = set_as (set_num_ports_under L m.graph n incoming outgoing room).answer;
    })

abbrev pub set_counts : MultiPortGraph → ℕ → ℕ → ℕ → ℕ → PortsSet
set_counts = set_counts_under present

-- the move list afterwards
abbrev pub told_meta_under : Limits → MultiPortGraph → ℕ → ℕ → ℕ → List ℕ → Bool → List ℕ
told_meta_under L m n incoming outgoing moves true = moves
told_meta_under L m n incoming outgoing moves false = moves_after_under L m.graph n incoming outgoing moves

abbrev pub told_meta : MultiPortGraph → ℕ → ℕ → ℕ → List ℕ → Bool → List ℕ
told_meta = told_meta_under present

unfoldable pub moves_told_under : Limits → MultiPortGraph → ℕ → ℕ → ℕ → List ℕ → List ℕ
moves_told_under L m n incoming outgoing moves = told_meta_under L m n incoming outgoing moves (is_hidden m n)

abbrev pub moves_told : MultiPortGraph → ℕ → ℕ → ℕ → List ℕ → List ℕ
moves_told = moves_told_under present

-- Linking ports.

-- both ends are prepared: their inner ports are linked
abbrev pub both_linked : Limits → MultiPortGraph → ℕ → ℕ → PortsLinked
both_linked L m a b =
    record {
      graph =
          with_graph (prepared_graph m (second_end L m a b))
          (link_ports (prepared_graph m (second_end L m a b)).graph (prepared_port (first_end L m a)) (prepared_port (second_end L m a b))).graph;
      answer = Ok (subport# a (prepared_offset (first_end L m a)), subport# b (prepared_offset (second_end L m a b)));
    }

-- where this is whether 18 is given; with false it is the link without that check
unfoldable pub link_pair_if : Bool → Limits → MultiPortGraph → ℕ → ℕ → PortsLinked
link_pair_if taken L m a b =
    checked (link_refusals taken L m a b) (λ l. record { graph = l.leaves; answer = Err l.refusal }) (both_linked L m a b)

abbrev pub link_pair_under : Limits → MultiPortGraph → ℕ → ℕ → PortsLinked
link_pair_under L m a b = link_pair_if (input_taken m a b) L m a b

abbrev pub link_pair : MultiPortGraph → ℕ → ℕ → PortsLinked
link_pair = link_pair_under present

-- and leaving no stub: the same is done after other refusals
unfoldable pub link_clean_if : Bool → Limits → MultiPortGraph → ℕ → ℕ → PortsLinked
link_clean_if taken L m a b =
    checked (link_clean_refusals taken L m a b) (λ l. record { graph = l.leaves; answer = Err l.refusal }) (both_linked L m a b)

abbrev pub link_clean_under : Limits → MultiPortGraph → ℕ → ℕ → PortsLinked
link_clean_under L m a b = link_clean_if (input_taken m a b) L m a b

abbrev pub link_clean : MultiPortGraph → ℕ → ℕ → PortsLinked
link_clean = link_clean_under present

-- Linking subports: both ends are answered as read.

abbrev pub joined : MultiPortGraph → Result (PortIndex × PortIndex) LinkError → PortGraph → SubportIndex → SubportIndex → PortsLinked
joined m (Ok (x, y)) g s t = record { graph = with_graph m g; answer = Ok (s, t) }
joined m (Err (link_error.UnknownPort x)) g s t = record { graph = m; answer = Err (UnknownPort x) }
joined m (Err (link_error.UnknownSecondPort y)) g s t = record { graph = m; answer = Err (UnknownSecondPort y) }
joined m (Err (link_error.IncompatibleDirections x y d)) g s t = record { graph = m; answer = Err (IncompatibleDirections x y d) }
joined m (Err (link_error.AlreadyLinked x)) g s t = record { graph = m; answer = Err (AlreadyLinked x) }

unfoldable pub link_sub_if : Bool → MultiPortGraph → ℕ → ℕ → ℕ → ℕ → PortsLinked
link_sub_if taken m p o q r =
    checked (link_sub_refusals taken m p o q r) (λ l. record { graph = l.leaves; answer = Err l.refusal })
    (joined m (joining m p o q r) (link_ports m.graph (end_of m p o) (end_of m q r)).graph (as_read m p o) (as_read m q r))

abbrev pub link_sub : MultiPortGraph → ℕ → ℕ → ℕ → ℕ → PortsLinked
link_sub m p o q r = link_sub_if (input_taken m p q) m p o q r

-- Cutting.

-- the inner far port, with offset 0, and where its visible end stands before the cut
abbrev pub cut_plain : MultiPortGraph → Result (Option PortIndex) NoSuchPort → Result (Option (SubportIndex × PortPlace)) Refusal
cut_plain m (Ok (Some q)) = Ok (Some (subport# q.0 0, standing_of m q.0))
cut_plain m (Ok None) = Ok None
cut_plain m (Err p) = Ok None

-- a split port loses its hidden node and every wire on it, and answers itself, where it stands
unfoldable pub cut_port : MultiPortGraph → ℕ → PortUnlinked
cut_port m p =
    checked (cut_refusals m p) (λ l. record { graph = l.leaves; answer = Err l.refusal })
    (cond (is_split m p)
    (record { graph = unsplit m p; answer = Ok (Some (subport# p 0, standing m (subport# p 0))) })
    (record { graph = with_graph m (unlink_port m.graph p).graph; answer = cut_plain m (unlink_port m.graph p).answer }))

unfoldable pub cut_sub : MultiPortGraph → ℕ → ℕ → PortUnlinked
cut_sub m p o =
    checked (subport_refusals m p o) (λ l. record { graph = l.leaves; answer = Err l.refusal })
    (record {
      graph = with_graph m (unlink_port m.graph (end_of m p o)).graph;
      answer = far_subport m (unlink_port m.graph (end_of m p o)).answer;
    })

-- Tidying: a split port is left with what its wires need; an unsplit one is left as it is.

unfoldable pub tidy_port : MultiPortGraph → ℕ → PortTidied
tidy_port m p =
    checked (cut_refusals m p) (λ l. record { graph = l.leaves; answer = Err l.refusal })
    (record { graph = cond (is_split m p) (tidied m p (side_of (seen m p))) m; answer = Ok tt })

-- Reading.

-- what a subport is linked with
unfoldable pub subport_link : MultiPortGraph → ℕ → ℕ → Result (Option (SubportIndex × PortPlace)) Refusal
subport_link m p o =
    checked (subport_refusals m p o) (λ l. Err l.refusal) (far_subport m (port_link m.graph (end_of m p o)))

-- the visible counts
unfoldable pub visible_nodes : MultiPortGraph → ℕ
visible_nodes m = m.graph.node_count - m.copy_node_count

unfoldable pub visible_ports : MultiPortGraph → ℕ
visible_ports m = m.graph.port_count - m.subport_count - m.copy_node_count

unfoldable pub visible_links : MultiPortGraph → ℕ
visible_links m = m.graph.link_count - m.copy_node_count
