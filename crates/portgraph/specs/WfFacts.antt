-- What the code takes from a well-formed graph: blocks lie within the tables, and counts are far from wrapping.
use Rattle.std.specs.Prelude.{◌≡◌, refl, List, [], ◌∷◌, ℕ, ◌+◌, ◌-◌, ◌*◌, ◌≤◌, ◌<◌}
use Rattle.std.proofs.Common.{sym, ap, ◌∙◌, inl, arith}
use Rattle.port_tables.specs.Limits.{node_slots, port_slots, node_ports}
use Rattle.port_tables.specs.Lists.{Member}
use Rattle.port_tables.specs.Tables.{head_at}
use Rattle.portgraph.specs.Lookups.{entry_at}
use Rattle.portgraph.specs.Model.{Wf, Slots, gone, live, slots_of_entry, number_of_first, Chain, count_of, ports_of, is_live}
use Rattle.port_tables.specs.ResizeLinks.{BlockFits}
use Rattle.portgraph.specs.GoodSlots.{node_below, block_within}
use Rattle.portgraph.specs.Sums.{total_bound, links_bound}
use Rattle.portgraph.specs.Parts.{Resizes}
use Rattle.port_tables.specs.declared.direction.Direction.TheVariants.{Outgoing}
use Rattle.port_tables.specs.declared.node_entry.NodeMeta.{NodeMeta}
use Rattle.port_tables.specs.declared.node_entry.NodeEntry.TheVariants as node_variants
use Rattle.portgraph.specs.declared.portgraph.PortGraph.{PortGraph}

module _ (g : PortGraph) (w : Wf g) where
  -- a node of the table is a node of the model
  pub node_of_entry : (n : ℕ) (m : NodeMeta) → entry_at g n ≡ node_variants.Node m → w.model.node n ≡ live m
  node_of_entry n m e = sym (w.holds.nodes n) ∙ ap slots_of_entry e

  pub block_fits : (n : ℕ) (m : NodeMeta) → entry_at g n ≡ node_variants.Node m → BlockFits m
  block_fits n m e =
      let h = node_of_entry n m e in
      record { ends = block_within w.good n m h; ports = w.good.ports_in_block n m h; small = w.good.block_small n m h }

  pub node_len_fits : g.node_len ≤ node_slots
  node_len_fits = let e = w.holds.node_len in let h = w.good.nodes_fit in omega arith

  pub port_len_fits : g.port_len ≤ port_slots
  port_len_fits = let e = w.holds.port_len in let h = w.good.ports_fit in omega arith

  node_free_go : (l : List ℕ) → ((n : ℕ) → Member n l → n < w.model.node_len) → number_of_first l ≤ w.model.node_len
  node_free_go [] h = omega arith
  node_free_go (n ∷ l) h = h n (inl refl)

  pub node_free_fits : g.node_free ≤ node_slots
  node_free_fits =
      let e = w.holds.node_head in
      let h = node_free_go w.model.free_nodes w.good.free_used in
      let all = w.good.nodes_fit in
      omega arith

  head_go : (k h : ℕ) (l : List ℕ) → ((b : ℕ) → Member b l → (0 < k) × (k ≤ node_ports) × (b + k ≤ w.model.port_len)) → Chain g.port_link h l → (h ≡ 0 → ⊥) → (h - 1) + k ≤ port_slots
  head_go k h [] f c n = absurd (n c)
  head_go k h (b ∷ l) f c n =
      let e = c.0 in
      let i = (f b (inl refl)).2 in
      let all = w.good.ports_fit in
      omega arith

  -- a block that a free list starts with lies within the tables
  pub head_fits : (k : ℕ) → (head_at g.port_free k ≡ 0 → ⊥) → (head_at g.port_free k - 1) + k ≤ port_slots
  head_fits k n = head_go k (head_at g.port_free k) (w.model.free_blocks k) (w.good.idle_ends k) (w.holds.block_chain k) n

  ports_small : (s : Slots) (n : ℕ) → w.model.node n ≡ s → ports_of s ≤ node_ports
  ports_small gone n e = omega arith
  ports_small (live m) n e =
      let a = w.good.ports_in_block n m e in
      let b = w.good.block_small n m e in
      omega arith

  one_live : (s : Slots) → is_live s ≤ 1
  one_live gone = omega arith
  one_live (live m) = omega arith

  out_small : (s : Slots) → count_of s Outgoing ≤ ports_of s
  out_small gone = omega arith
  out_small (live m) = omega arith

  pub node_count_fits : g.node_count ≤ node_slots
  node_count_fits =
      let e = w.holds.node_count in
      let h = total_bound node_slots 1 (λ n. is_live (w.model.node n)) (λ n _. one_live (w.model.node n)) in
      omega arith

  pub port_count_fits : g.port_count ≤ node_slots * node_ports
  port_count_fits =
      let e = w.holds.port_count in
      let h = total_bound node_slots node_ports (λ n. ports_of (w.model.node n)) (λ n _. ports_small (w.model.node n) n refl) in
      omega arith

  pub link_count_fits : g.link_count ≤ node_slots * node_ports
  link_count_fits =
      let e = w.holds.link_count in
      let h =
      links_bound w.model.node w.model.join
      (λ n _. let a = out_small (w.model.node n) in let b = ports_small (w.model.node n) n refl in omega arith) in
      omega arith

-- a node that is found, with counts that are few enough
pub resizes : (g : PortGraph) → Wf g → (n : ℕ) (m : NodeMeta) (i o : ℕ) → entry_at g n ≡ node_variants.Node m → i + o ≤ node_ports → Resizes g n m i o
resizes g w n m i o e few =
    record {
      wf = w;
      live = e;
      few = few;
      fits = block_fits g w n m e;
      below = node_below w.good n m (node_of_entry g w n m e);
      used = port_len_fits g w;
      counted = port_count_fits g w;
    }
