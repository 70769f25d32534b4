-- Changing a node's counts: where a new block is taken, what happens to links and owners, and the move list.
use Rattle.std.specs.Prelude.{cond, List, [], ◌∷◌, ◌++◌, ℕ, ◌+◌, ◌-◌, ◌*◌, leb, ltb, set, length, Option, Some, None, Result, Ok, Err}
use Rattle.std.proofs.lemmas.List.Edits.{sets}
use Rattle.port_tables.specs.Limits.{node_ports, Limits, present}
use Rattle.port_tables.specs.Entries.{node_slot_of, meta_of}
use Rattle.port_tables.specs.Tables.{fill_range, head_at, put_head, own_block, cut_range, cut_count, chain_block, move_up_events, shift_events}
use Rattle.portgraph.specs.Lookups.{entry_at}
use Rattle.portgraph.specs.Calls.{find_block_under, head_after, grown}
use Rattle.port_tables.specs.declared.node_entry.NodeMeta.{NodeMeta}
use Rattle.port_tables.specs.declared.node_entry.NodeEntry.{NodeEntry}
use Rattle.port_tables.specs.declared.node_entry.NodeEntry.TheVariants as node_variants
use Rattle.portgraph.specs.declared.portgraph.PortGraph.{PortGraph}
use Rattle.portgraph.specs.declared.resize.PortsSet.{PortsSet}
use Rattle.port_tables.specs.ResizeLinks.{anew_links, drop_count, drop_links, drop_told, first_slot, fits_inside, inside_links, kept_incoming, kept_outgoing, round_up, same_counts}
use Rattle.portgraph.specs.declared.resize.SetError.{SetError}
use Rattle.portgraph.specs.declared.resize.SetError.TheVariants as set_error

-- What is to be done: refused, nothing, within the block, or in a new block.
pub data Plan : Type 0 where
  refuse : Result ℕ SetError → Plan
  same : Plan
  inside : NodeMeta → Plan
  anew : NodeMeta → ℕ → Plan

abbrev pub plan_block : NodeMeta → Option ℕ → Plan
plan_block m (Some first) = anew m first
plan_block m None = refuse (Err set_error.NoRoom)

abbrev pub plan_counts_under : Limits → PortGraph → NodeMeta → ℕ → ℕ → Plan
plan_counts_under L g m incoming outgoing =
    cond (same_counts m incoming outgoing) same
    (cond (fits_inside m incoming outgoing) (inside m)
    (plan_block m (find_block_under L g.port_free g.port_len (round_up (incoming + outgoing)))))

abbrev pub plan_counts : PortGraph → NodeMeta → ℕ → ℕ → Plan
plan_counts = plan_counts_under present

-- the move list has to hold three numbers for each port of the node
abbrev pub plan_entry_under : Limits → PortGraph → ℕ → ℕ → ℕ → NodeEntry → Plan
plan_entry_under L g incoming outgoing room (node_variants.Free f) = refuse (Err set_error.UnknownNode)
plan_entry_under L g incoming outgoing room (node_variants.Node m) =
    cond (leb (3 * (m.incoming + m.outgoing)) room) (plan_counts_under L g m incoming outgoing) (refuse (Err set_error.MovesTooShort))

abbrev pub plan_entry : PortGraph → ℕ → ℕ → ℕ → NodeEntry → Plan
plan_entry = plan_entry_under present

unfoldable pub plan_of_under : Limits → PortGraph → ℕ → ℕ → ℕ → ℕ → Plan
plan_of_under L g n incoming outgoing room =
    cond (leb (incoming + outgoing) node_ports) (plan_entry_under L g incoming outgoing room (entry_at g n)) (refuse (Err set_error.TooManyPorts))

abbrev pub plan_of : PortGraph → ℕ → ℕ → ℕ → ℕ → Plan
plan_of = plan_of_under present

-- how many ports are dropped
abbrev pub dropped : NodeMeta → ℕ → ℕ → ℕ
dropped m incoming outgoing = (m.incoming - kept_incoming m incoming) + (m.outgoing - kept_outgoing m outgoing)

unfoldable pub resize_inside : PortGraph → ℕ → NodeMeta → ℕ → ℕ → PortGraph
resize_inside g n m incoming outgoing =
    record {
      node_meta = set g.node_meta n (node_slot_of (meta_of (first_slot m) incoming outgoing m.capacity));
      port_link = inside_links (drop_links g.port_link m incoming outgoing) m incoming outgoing;
      port_meta = own_block g.port_meta n (meta_of (first_slot m) incoming outgoing m.capacity);
      port_free = g.port_free;
      node_free = g.node_free;
      node_len = g.node_len;
      port_len = g.port_len;
      node_count = g.node_count;
      port_count = g.port_count - (m.incoming + m.outgoing) + (incoming + outgoing);
      link_count = g.link_count - drop_count g.port_link m incoming outgoing;
    }

-- outgoing ports that stay are told too, also where they keep their slot
unfoldable pub inside_told : PortGraph → NodeMeta → ℕ → ℕ → List ℕ
inside_told g m incoming outgoing =
    drop_told g.port_link m incoming outgoing
    ++ shift_events (ltb incoming m.incoming) (first_slot m + m.incoming) (first_slot m + incoming) (kept_outgoing m outgoing)

-- the new block is taken first, and only then the old one is free
unfoldable pub resize_anew : PortGraph → ℕ → NodeMeta → ℕ → ℕ → ℕ → ℕ → PortGraph
resize_anew g n m incoming outgoing first size =
    record {
      node_meta = set g.node_meta n (node_slot_of (meta_of first incoming outgoing size));
      port_link =
          chain_block
          (cut_range (anew_links (drop_links g.port_link m incoming outgoing) m incoming outgoing first size) (first_slot m) m.capacity)
          (first_slot m) m.capacity
          (head_at (put_head g.port_free size (head_after g size)) m.capacity);
      port_meta = fill_range (own_block g.port_meta n (meta_of first incoming outgoing size)) (first_slot m) m.capacity 0;
      port_free = put_head (put_head g.port_free size (head_after g size)) m.capacity (first_slot m + 1);
      node_free = g.node_free;
      node_len = g.node_len;
      port_len = grown (head_at g.port_free size) g.port_len size;
      node_count = g.node_count;
      port_count = g.port_count - (m.incoming + m.outgoing) + (incoming + outgoing);
      link_count =
          g.link_count - drop_count g.port_link m incoming outgoing
          - cut_count (anew_links (drop_links g.port_link m incoming outgoing) m incoming outgoing first size) (first_slot m) m.capacity;
    }

-- every port that stays is told, incoming first
unfoldable pub anew_told : PortGraph → NodeMeta → ℕ → ℕ → ℕ → List ℕ
anew_told g m incoming outgoing first =
    drop_told g.port_link m incoming outgoing
    ++ (move_up_events (first_slot m) first (kept_incoming m incoming)
    ++ move_up_events (first_slot m + m.incoming) (first + incoming) (kept_outgoing m outgoing))

-- The call.

abbrev pub set_by : PortGraph → ℕ → ℕ → ℕ → Plan → PortsSet
set_by g n incoming outgoing (refuse a) = record { graph = g; answer = a }
set_by g n incoming outgoing same = record { graph = g; answer = Ok 0 }
set_by g n incoming outgoing (inside m) =
    record {
      graph = resize_inside g n m incoming outgoing;
      answer = Ok (dropped m incoming outgoing + kept_outgoing m outgoing);
    }
set_by g n incoming outgoing (anew m first) =
    record {
      graph = resize_anew g n m incoming outgoing first (round_up (incoming + outgoing));
      answer = Ok (dropped m incoming outgoing + (kept_incoming m incoming + kept_outgoing m outgoing));
    }

abbrev pub told_by : PortGraph → ℕ → ℕ → Plan → List ℕ
told_by g incoming outgoing (refuse a) = []
told_by g incoming outgoing same = []
told_by g incoming outgoing (inside m) = inside_told g m incoming outgoing
told_by g incoming outgoing (anew m first) = anew_told g m incoming outgoing first

-- answer and graph; room is the length of the move list
unfoldable pub set_num_ports_under : Limits → PortGraph → ℕ → ℕ → ℕ → ℕ → PortsSet
set_num_ports_under L g n incoming outgoing room = set_by g n incoming outgoing (plan_of_under L g n incoming outgoing room)

abbrev pub set_num_ports : PortGraph → ℕ → ℕ → ℕ → ℕ → PortsSet
set_num_ports = set_num_ports_under present

-- the move list afterwards: the events in their order, then what it held before
unfoldable pub moves_after_under : Limits → PortGraph → ℕ → ℕ → ℕ → List ℕ → List ℕ
moves_after_under L g n incoming outgoing moves = sets moves 0 (told_by g incoming outgoing (plan_of_under L g n incoming outgoing (length moves)))

abbrev pub moves_after : PortGraph → ℕ → ℕ → ℕ → List ℕ → List ℕ
moves_after = moves_after_under present

abbrev pub set_numbers : Result ℕ SetError → List ℕ
set_numbers (Ok events) = 0 ∷ events ∷ []
set_numbers (Err set_error.TooManyPorts) = 3 ∷ []
set_numbers (Err set_error.UnknownNode) = 4 ∷ []
set_numbers (Err set_error.MovesTooShort) = 6 ∷ []
set_numbers (Err set_error.NoRoom) = 10 ∷ []
