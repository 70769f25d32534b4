-- Steps of the walks over blocks, ports and a block's ports, over plain values.
use Rattle.port_tables.specs.declared.index.NodeIndex.{NodeIndex}
use Rattle.std.specs.Option.{option_map_or}
use Rattle.portgraph.specs.WalkLaws.{some_is_node}
use Rattle.std.specs.Prelude.{◌≡◌, Bool, eqb, leb, get_or, length, Option, Some, None, Ok, Err}
use Rattle.std.proofs.Math.Path.{sym, ap, fun_ext}
use Rattle.std.proofs.Common.{◌∙◌, add-one}
use Rattle.std.proofs.Math.Bool.{true, false, cond}
use mathlib.Core.List.{List}
use Prim.Native.Nat.{ℕ, suc, ◌+◌, ◌-◌, ◌≤◌, ◌<◌, max}
use native.Mathlib.Omega.{arith}
use Rattle.port_tables.specs.Limits.{node_slots, port_slots}
use Rattle.port_tables.specs.Lists.{range, on_first, on_last}
use Rattle.std.specs.List.{filter}
use Rattle.port_tables.specs.Entries.{is_node, node#, port#, ports_from, ports_to}
use Rattle.portgraph.specs.Lookups.{entry_at}
use Rattle.port_tables.specs.declared.node_entry.NodeMeta.{NodeMeta}
use Rattle.port_tables.specs.declared.node_entry.NodeSlot.{NodeSlot}
use Rattle.multiportgraph.specs.Reading.{is_hidden, seen}
use Rattle.multi_tables.specs.Forms.{Port}
use Rattle.multiportgraph.specs.CodeForms.{block_found}
use Rattle.multi_tables.specs.FormSteps.{flag_is}
use Rattle.multiportgraph.specs.WellFormed.{MultiWf}
use Rattle.multi_tables.specs.TableReads.{seen_in}
use Rattle.multiportgraph.specs.TableReadLaws.{seen_read}
use Rattle.multiportgraph.specs.Wires.{is_block, blocks}
use Rattle.multiportgraph.specs.Walks.{is_seen, held_seen, both_seen, between, node_held, blocks_left, step_nodes, step_nodes_back, all_ports, ports_left, step_all_ports, step_all_ports_back, ports_of_node, step_node_ports}
use Rattle.port_tables.specs.Listing.{filter_same}
use Rattle.multiportgraph.specs.ScanLaws.{first_told, last_told, filter_swap, range_between, block_not_hidden, block_ports_rest, row_fits}
use Rattle.multiportgraph.specs.LookupSteps.{block_at, meta_is}
use Rattle.multiportgraph.specs.WalkScans.{held_in, block_in, ports_in}
use Rattle.multiportgraph.specs.declared.multiportgraph.MultiPortGraph.{MultiPortGraph}
use Rattle.multi_tables.specs.declared.answers.Refusal.{Refusal}
use Rattle.multiportgraph.specs.declared.iter.Nodes.{Nodes}
use Rattle.multiportgraph.specs.declared.iter.Ports.{Ports}
use Rattle.multiportgraph.specs.declared.iter.NodePorts.{NodePorts}
use Rattle.multi_tables.specs.Scans.{end_before}
use Rattle.port_tables.specs.declared.index.PortIndex.{PortIndex}

-- What a cursor holds.

pub held_read : (m : MultiPortGraph) → MultiWf m → (held : ℕ) → held_in m.graph.port_meta m.copy_node held ≡ held_seen m held
unfolding held_in
held_read m w held = ap (λ (s : Port). cond (eqb held 0) true (is_seen s)) (seen_read m w.fine.flags_long (held - 1))

-- a block with the port that a cursor holds
module _ (m : MultiPortGraph) (n : ℕ) where
  pub both_refused : (r : Refusal) (held : ℕ) → block_found m n ≡ Err r → both_seen m n held ≡ false
  both_refused r held e = ap (λ (b : Bool). cond b (held_seen m held) false) (sym (block_at m n (Err r) e))

  pub both_found : (k : NodeMeta) (held : ℕ) (b : Bool) → MultiWf m → block_found m n ≡ Ok k
      → held_in m.graph.port_meta m.copy_node held ≡ b → both_seen m n held ≡ b
  both_found k held b w e h =
      ap (λ (x : Bool). cond x (held_seen m held) false) (sym (block_at m n (Ok k) e)) ∙ sym (held_read m w held) ∙ h

-- Blocks and ports that are left, from either end.

-- what a cursor with two ends has left of the numbers below c that pass a test
left_between : (t : ℕ → Bool) (front back c : ℕ) → filter (between front back) (filter t (range 0 c)) ≡ filter t (range front (end_before back c - front))
left_between t front back c = filter_swap (between front back) t (range 0 c) ∙ ap (filter t) (range_between front back c)

-- Blocks.

module _ (m : MultiPortGraph) where
  -- the slots that hold a block
  blocks_told : {slots : List NodeSlot} → slots ≡ m.graph.node_meta → length m.copy_node ≡ node_slots → block_in slots m.copy_node ≡ is_block m
  unfolding is_block is_hidden
  blocks_told s long =
      ap (λ (l : List NodeSlot). block_in l m.copy_node) s
      ∙ fun_ext (λ n.
      ap (λ (x : Bool). cond x false (is_node (entry_at m.graph n))) (flag_is m.copy_node node_slots n long)
      ∙ ap (cond (get_or m.copy_node n false) false) (sym (some_is_node (entry_at m.graph n))))

  module _ (c : Nodes) where
    pub nodes_front_gone : node_held m c.front ≡ false → None ≡ step_nodes m c
    unfolding step_nodes blocks_left on_first
    nodes_front_gone e = rw e

    pub nodes_back_gone : node_held m c.front ≡ true → node_held m c.back ≡ false → None ≡ step_nodes m c
    unfolding step_nodes blocks_left on_first
    nodes_back_gone e f = rw (e, f)

    pub back_front_gone : node_held m c.front ≡ false → None ≡ step_nodes_back m c
    unfolding step_nodes_back blocks_left on_last
    back_front_gone e = rw e

    pub back_back_gone : node_held m c.front ≡ true → node_held m c.back ≡ false → None ≡ step_nodes_back m c
    unfolding step_nodes_back blocks_left on_last
    back_back_gone e f = rw (e, f)

    module _ (front end : ℕ) {slots : List NodeSlot} (s : slots ≡ m.graph.node_meta) (long : length m.copy_node ≡ node_slots)
        (he : node_held m c.front ≡ true) (hf : node_held m c.back ≡ true) (ef : front ≡ c.front) (ee : end ≡ end_before c.back node_slots) where
      abbrev blocks_seen : List ℕ
      blocks_seen = filter (block_in slots m.copy_node) (range front (end - front))

      blocks_left_lem : blocks_seen ≡ blocks_left m c
      unfolding blocks_left blocks
      blocks_left_lem =
          ap (λ (t : ℕ → Bool). filter t (range front (end - front))) (blocks_told s long)
          ∙ ap (λ (x : ℕ). filter (is_block m) (range x (end - x))) ef
          ∙ ap (λ (x : ℕ). filter (is_block m) (range c.front (x - c.front))) ee
          ∙ rw (he, hf) (sym (left_between (is_block m) c.front c.back node_slots))

      -- what a search from the front, or from the back, finds is what the step gives
      pub nodes_found : {r : Option ℕ} → r ≡ on_first None Some blocks_seen → option_map_or (λ n. Some (node# n, record { front = n + 1; back = c.back })) r None ≡ step_nodes m c
      unfolding step_nodes
      nodes_found e =
          first_told None (λ n. Some (node# n, record { front = n + 1; back = c.back })) _ e
          ∙ ap (on_first None (λ n. Some (node# n, record { front = n + 1; back = c.back }))) blocks_left_lem
          ∙ ap (λ (f : ℕ → Option (NodeIndex × Nodes)). on_first None f (blocks_left m c)) (fun_ext (λ n. ap (λ (x : ℕ). Some (node# n, record { front = x; back = c.back })) (add-one n)))

      pub back_found : {r : Option ℕ} → r ≡ on_last None Some blocks_seen → option_map_or (λ n. Some (node# n, record { front = c.front; back = n + 1 })) r None ≡ step_nodes_back m c
      unfolding step_nodes_back
      back_found e =
          last_told None (λ n. Some (node# n, record { front = c.front; back = n + 1 })) _ e
          ∙ ap (on_last None (λ n. Some (node# n, record { front = c.front; back = n + 1 }))) blocks_left_lem
          ∙ ap (λ (f : ℕ → Option (NodeIndex × Nodes)). on_last None f (blocks_left m c)) (fun_ext (λ n. ap (λ (x : ℕ). Some (node# n, record { front = c.front; back = x })) (add-one n)))

-- All ports.

module _ (m : MultiPortGraph) (w : MultiWf m) (c : Ports) where
  module _ (a : Bool) (ea : a ≡ held_in m.graph.port_meta m.copy_node c.front) where
    front_is : (q : Bool) → a ≡ q → held_seen m c.front ≡ q
    front_is q h = sym (held_read m w c.front) ∙ sym ea ∙ h

    pub ports_front_gone : a ≡ false → None ≡ step_all_ports m c
    unfolding step_all_ports ports_left on_first
    ports_front_gone h = rw (front_is false h)

    pub ports_back_front_gone : a ≡ false → None ≡ step_all_ports_back m c
    unfolding step_all_ports_back ports_left on_last
    ports_back_front_gone h = rw (front_is false h)

    module _ (ha : a ≡ true) (b : Bool) (eb : b ≡ held_in m.graph.port_meta m.copy_node c.back) where
      back_is : (q : Bool) → b ≡ q → held_seen m c.back ≡ q
      back_is q h = sym (held_read m w c.back) ∙ sym eb ∙ h

      pub ports_back_gone : b ≡ false → None ≡ step_all_ports m c
      unfolding step_all_ports ports_left on_first
      ports_back_gone h = rw (front_is true ha, back_is false h)

      pub ports_back_back_gone : b ≡ false → None ≡ step_all_ports_back m c
      unfolding step_all_ports_back ports_left on_last
      ports_back_back_gone h = rw (front_is true ha, back_is false h)

      module _ (hb : b ≡ true) (front end : ℕ) (ef : front ≡ c.front) (ee : end ≡ end_before c.back port_slots) where
        abbrev scanned : List ℕ
        scanned = ports_in m.graph.port_meta m.copy_node front end

        ports_left_lem : scanned ≡ ports_left m c
        unfolding ports_in ports_left all_ports
        ports_left_lem =
            filter_same (λ p. is_seen (seen_in m.graph.port_meta m.copy_node p)) (λ p. is_seen (seen m p)) (range front (end - front)) (λ p i. ap is_seen (seen_read m w.fine.flags_long p))
            ∙ ap (λ (x : ℕ). filter (λ p. is_seen (seen m p)) (range x (end - x))) ef
            ∙ ap (λ (x : ℕ). filter (λ p. is_seen (seen m p)) (range c.front (x - c.front))) ee
            ∙ rw (front_is true ha, back_is true hb) (sym (left_between (λ p. is_seen (seen m p)) c.front c.back port_slots))

        pub ports_item_lem : (p : ℕ) → ◌≡◌ {A = Option ℕ} (Some p) (on_first None Some scanned) → Some (port# p, record { front = p + 1; back = c.back }) ≡ step_all_ports m c
        unfolding step_all_ports
        ports_item_lem p e =
            let one : p + 1 ≡ suc p = omega arith in
            ap (λ (x : ℕ). Some (port# p, record { front = x; back = c.back })) one
            ∙ first_told None (λ x. Some (port# x, record { front = suc x; back = c.back })) _ e
            ∙ ap (on_first None (λ x. Some (port# x, record { front = suc x; back = c.back }))) ports_left_lem

        pub ports_none : ◌≡◌ {A = Option ℕ} None (on_first None Some scanned) → None ≡ step_all_ports m c
        unfolding step_all_ports
        ports_none e =
            first_told None (λ x. Some (port# x, record { front = suc x; back = c.back })) _ e
            ∙ ap (on_first None (λ x. Some (port# x, record { front = suc x; back = c.back }))) ports_left_lem

        pub ports_back_item : (p : ℕ) → ◌≡◌ {A = Option ℕ} (Some p) (on_last None Some scanned) → Some (port# p, record { front = c.front; back = p + 1 }) ≡ step_all_ports_back m c
        unfolding step_all_ports_back
        ports_back_item p e =
            let one : p + 1 ≡ suc p = omega arith in
            ap (λ (x : ℕ). Some (port# p, record { front = c.front; back = x })) one
            ∙ last_told None (λ x. Some (port# x, record { front = c.front; back = suc x })) _ e
            ∙ ap (on_last None (λ x. Some (port# x, record { front = c.front; back = suc x }))) ports_left_lem

        pub ports_back_none : ◌≡◌ {A = Option ℕ} None (on_last None Some scanned) → None ≡ step_all_ports_back m c
        unfolding step_all_ports_back
        ports_back_none e =
            last_told None (λ x. Some (port# x, record { front = c.front; back = suc x })) _ e
            ∙ ap (on_last None (λ x. Some (port# x, record { front = c.front; back = suc x }))) ports_left_lem

-- Ports of a block.

module _ (m : MultiPortGraph) (c : NodePorts) where
  abbrev ports_item : ℕ → Option (PortIndex × NodePorts)
  ports_item p = Some (port# p, record { node = c.node; sides = c.sides; held = suc p })

  pub node_ports_gone : both_seen m c.node.0 c.held ≡ false → None ≡ step_node_ports m c
  unfolding step_node_ports
  node_ports_gone e = rw e

  module _ (w : MultiWf m) (k : NodeMeta) (e : block_found m c.node.0 ≡ Ok k) where
    ports_of_block : filter (leb c.held) (ports_of_node m c.node.0 c.sides) ≡ range (max (ports_from k c.sides) c.held) (ports_to k c.sides - max (ports_from k c.sides) c.held)
    ports_of_block =
        block_ports_rest w c.node.0 k (block_not_hidden m c.node.0 (sym (block_at m c.node.0 (Ok k) e))) (meta_is m c.node.0 k e) c.sides c.held

    -- the slots of a block lie in the tables
    pub ports_inside : (p b : ℕ) → b ≡ ports_to k c.sides → p < b → p < port_slots
    ports_inside p b h l =
        let r = row_fits w c.node.0 k (block_not_hidden m c.node.0 (sym (block_at m c.node.0 (Ok k) e))) (meta_is m c.node.0 k e) c.sides in
        omega arith

    module _ (held-there : held_in m.graph.port_meta m.copy_node c.held ≡ true) (a h p b : ℕ)
        (ea : a ≡ ports_from k c.sides) (eh : h ≡ c.held) (ep : p ≡ max a h) (eb : b ≡ ports_to k c.sides) where
      step_is : on_first None ports_item (range p (b - p)) ≡ step_node_ports m c
      unfolding step_node_ports
      step_is =
          let q : p ≡ max (ports_from k c.sides) c.held = omega arith in
          rw (both_found m c.node.0 k c.held true w e held-there)
          (ap (λ (x : ℕ). on_first None ports_item (range p (x - p))) eb
          ∙ ap (λ (x : ℕ). on_first None ports_item (range x (ports_to k c.sides - x))) q
          ∙ ap (on_first None ports_item) (sym ports_of_block))

      pub node_ports_item : p < b → Some (port# p, record { node = c.node; sides = c.sides; held = p + 1 }) ≡ step_node_ports m c
      unfolding range on_first
      node_ports_item l =
          let one : p + 1 ≡ suc p = omega arith in
          let more : b - p ≡ suc (b - (p + 1)) = omega arith in
          ap (λ (x : ℕ). Some (port# p, record { node = c.node; sides = c.sides; held = x })) one
          ∙ (rw more at step_is)

      pub node_ports_none : b ≤ p → None ≡ step_node_ports m c
      unfolding range on_first
      node_ports_none l =
          let none : b - p ≡ 0 = omega arith in
          (rw none at step_is)
