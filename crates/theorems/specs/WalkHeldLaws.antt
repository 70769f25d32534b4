-- A cursor whose node or port is gone or hidden ends its walk, and a step never gives an item that is not listed or does not lie
-- beyond what its cursor holds. Each holds of any graph and any cursor.
use Rattle.portgraph.specs.Joins.{either_way}
use Rattle.std.specs.Prelude.{◌≡◌, Bool, ◌⊎◌, ℕ, suc, ◌-◌, ◌≤◌, eqb, leb, Some, None, Option}
use Rattle.std.proofs.Math.Path.{refl, sym, ap}
use Rattle.std.proofs.Common.{◌∙◌, subst}
use Rattle.std.proofs.Math.Bool.{true, false, cond}
use mathlib.Core.List.{List, [], ◌∷◌}
use Rattle.std.proofs.Math.Logic.{inl, inr}
use native.Mathlib.Omega.{arith}
use borrow.Author.Tests.{ne_eqb, leb-true}
use Rattle.port_tables.specs.Lists.{on_first, on_last, Member}
use Rattle.std.specs.List.{filter}
use Rattle.port_tables.specs.Entries.{node#, port#}
use Rattle.portgraph.specs.GoodSlots.{zero_is_not_one}
use Rattle.port_tables.specs.declared.index.NodeIndex.{NodeIndex}
use Rattle.port_tables.specs.declared.index.PortIndex.{PortIndex}
use Rattle.multiportgraph.specs.Reading.{seen}
use Rattle.multi_tables.specs.Forms.{Port, dead, hidden, visible}
use Rattle.multiportgraph.specs.Wires.{is_block, blocks, step_wires, wires_seen, first_item, all_wires}
use Rattle.multiportgraph.specs.Walks.{is_seen, held_seen, both_seen, between, node_held, blocks_left, step_nodes, step_nodes_back, all_ports, ports_left, step_all_ports, step_all_ports_back, ports_of_node, step_node_ports, subports_of, subport_beyond, step_subports, port_links_seen, port_links, links_left, step_front, step_back, node_links, link_beyond, links_item, step_links, neighbour_links, neighbours_item, step_neighbours, connections, connections_item, step_connections}
use Rattle.port_tables.specs.Listing.{member_filter}
use Rattle.multiportgraph.specs.declared.multiportgraph.MultiPortGraph.{MultiPortGraph}
use Rattle.multi_tables.specs.declared.answers.SubportIndex.{SubportIndex}
use Rattle.multi_tables.specs.declared.answers.SubportLink.{SubportLink}
use Rattle.multiportgraph.specs.declared.iter.Nodes.{Nodes}
use Rattle.multiportgraph.specs.declared.iter.Ports.{Ports}
use Rattle.multiportgraph.specs.declared.iter.NodePorts.{NodePorts}
use Rattle.multiportgraph.specs.declared.iter.NodeSubports.{NodeSubports}
use Rattle.multiportgraph.specs.declared.iter.PortLinks.{PortLinks}
use Rattle.multiportgraph.specs.declared.iter.NodeLinks.{NodeLinks}
use Rattle.multiportgraph.specs.declared.iter.Neighbours.{Neighbours}
use Rattle.multiportgraph.specs.declared.iter.NodeConnections.{NodeConnections}
use Rattle.multiportgraph.specs.declared.iter.Wires.{Wires}
use Rattle.theorems.specs.WalkStepLaws.{nodes_at, ports_at, link_offset, port_links_at}
use Rattle.portgraph.specs.WalkLaws.{one_less}
use Rattle.std.proofs.lemmas.Option.{some_pair_parts}

-- Gone or hidden: what is held, one higher than its number.

held_gone : (m : MultiPortGraph) (held p : ℕ) → held ≡ suc p → is_seen (seen m p) ≡ false → held_seen m held ≡ false
held_gone m held p e s = ap (held_seen m) e ∙ rw (ne_eqb (suc p) 0 (λ z. omega arith), one_less p) s

node_gone : (m : MultiPortGraph) (held n : ℕ) → held ≡ suc n → is_block m n ≡ false → node_held m held ≡ false
unfolding node_held
node_gone m held n e s = ap (node_held m) e ∙ rw (ne_eqb (suc n) 0 (λ z. omega arith), one_less n) s

both_gone : (m : MultiPortGraph) (n held p : ℕ) → held ≡ suc p → is_seen (seen m p) ≡ false → both_seen m n held ≡ false
both_gone m n held p e s = rw (held_gone m held p e s) (either_way (is_block m n) false)

-- what is read at a port that is not a block's
pub links_unseen : (m : MultiPortGraph) (p : ℕ) (v : Port) → is_seen v ≡ false → port_links_seen m p v ≡ []
links_unseen m p dead e = refl
links_unseen m p hidden e = refl
links_unseen m p (visible n d) e = absurd (zero_is_not_one (cc))

pub wires_unseen : (m : MultiPortGraph) (p o : ℕ) (v : Port) → is_seen v ≡ false → wires_seen m p o v ≡ None
wires_unseen m p o dead e = refl
wires_unseen m p o hidden e = refl
wires_unseen m p o (visible n d) e = absurd (zero_is_not_one (cc))

-- a step over all wires, by the port that its cursor holds
pub step_holding : (m : MultiPortGraph) (c : Wires) (p : ℕ) → c.held.port ≡ suc p → step_wires m c ≡ wires_seen m p c.held.offset (seen m p)
unfolding step_wires
step_holding m c p e =
    ap (λ (h : ℕ). cond (eqb h 0) (first_item (all_wires m)) (wires_seen m (h - 1) c.held.offset (seen m (h - 1)))) e
    ∙ rw (ne_eqb (suc p) 0 (λ z. omega arith), one_less p)

module _ (m : MultiPortGraph) where
  -- Blocks, either end: a block that the cursor holds is not one any more.

  no_blocks_left : (c : Nodes) (n : ℕ) → (c.front ≡ suc n) ⊎ (c.back ≡ suc n) → is_block m n ≡ false → blocks_left m c ≡ []
  unfolding blocks_left
  no_blocks_left c n (inl e) g = rw (node_gone m c.front n e g)
  no_blocks_left c n (inr e) g = rw (node_gone m c.back n e g) (either_way (node_held m c.front) [])

  pub nodes_end : (c : Nodes) (n : ℕ) → (c.front ≡ suc n) ⊎ (c.back ≡ suc n) → is_block m n ≡ false → (step_nodes m c ≡ None) × (step_nodes_back m c ≡ None)
  unfolding step_nodes step_nodes_back on_first on_last
  nodes_end c n e g = (rw (no_blocks_left c n e g), rw (no_blocks_left c n e g))

  -- All ports, either end: a port that the cursor holds is not a block's any more.

  no_ports_left : (c : Ports) (p : ℕ) → (c.front ≡ suc p) ⊎ (c.back ≡ suc p) → is_seen (seen m p) ≡ false → ports_left m c ≡ []
  unfolding ports_left
  no_ports_left c p (inl e) g = rw (held_gone m c.front p e g)
  no_ports_left c p (inr e) g = rw (held_gone m c.back p e g) (either_way (held_seen m c.front) [])

  pub ports_end : (c : Ports) (p : ℕ) → (c.front ≡ suc p) ⊎ (c.back ≡ suc p) → is_seen (seen m p) ≡ false → (step_all_ports m c ≡ None) × (step_all_ports_back m c ≡ None)
  unfolding step_all_ports step_all_ports_back on_first on_last
  ports_end c p e g = (rw (no_ports_left c p e g), rw (no_ports_left c p e g))

  -- The links of a port, either end: the port is not a block's any more.

  no_links_left : (c : PortLinks) → is_seen (seen m c.port.0) ≡ false → links_left m c ≡ []
  unfolding links_left port_links
  no_links_left c g = ap (filter (λ w. between c.front c.back w.from.subport_offset)) (links_unseen m c.port.0 (seen m c.port.0) g)

  pub port_links_end : (c : PortLinks) → is_seen (seen m c.port.0) ≡ false → (step_front m c ≡ None) × (step_back m c ≡ None)
  unfolding step_front step_back on_first on_last
  port_links_end c g = (rw (no_links_left c g), rw (no_links_left c g))

  -- The walks of a block: the block is not one any more, or the port held is not a block's.

  pub node_ports_end : (c : NodePorts) → is_block m c.node.0 ≡ false → step_node_ports m c ≡ None
  unfolding step_node_ports
  node_ports_end c g = rw g

  pub node_ports_port_end : (c : NodePorts) (p : ℕ) → c.held ≡ suc p → is_seen (seen m p) ≡ false → step_node_ports m c ≡ None
  unfolding step_node_ports
  node_ports_port_end c p e g = rw (both_gone m c.node.0 c.held p e g)

  pub subports_end : (c : NodeSubports) → is_block m c.node.0 ≡ false → step_subports m c ≡ None
  unfolding step_subports
  subports_end c g = rw g

  pub subports_port_end : (c : NodeSubports) (p : ℕ) → c.held.port ≡ suc p → is_seen (seen m p) ≡ false → step_subports m c ≡ None
  unfolding step_subports
  subports_port_end c p e g = rw (both_gone m c.node.0 c.held.port p e g)

  pub links_end : (c : NodeLinks) → is_block m c.node.0 ≡ false → step_links m c ≡ None
  unfolding step_links
  links_end c g = rw g

  pub links_port_end : (c : NodeLinks) (p : ℕ) → c.held.port ≡ suc p → is_seen (seen m p) ≡ false → step_links m c ≡ None
  unfolding step_links
  links_port_end c p e g = rw (both_gone m c.node.0 c.held.port p e g)

  pub neighbours_end : (c : Neighbours) → is_block m c.node.0 ≡ false → step_neighbours m c ≡ None
  unfolding step_neighbours
  neighbours_end c g = rw g

  pub neighbours_port_end : (c : Neighbours) (p : ℕ) → c.held.port ≡ suc p → is_seen (seen m p) ≡ false → step_neighbours m c ≡ None
  unfolding step_neighbours
  neighbours_port_end c p e g = rw (both_gone m c.node.0 c.held.port p e g)

  connections_none : (c : NodeConnections) → both_seen m c.node.0 c.held.port ≡ false → step_connections m c ≡ None
  unfolding step_connections
  connections_none c g = rw g (either_way (is_block m c.target.0) None)

  pub connections_end : (c : NodeConnections) → is_block m c.node.0 ≡ false → step_connections m c ≡ None
  connections_end c g = connections_none c (rw g)

  pub connections_target_end : (c : NodeConnections) → is_block m c.target.0 ≡ false → step_connections m c ≡ None
  unfolding step_connections
  connections_target_end c g = rw g

  pub connections_port_end : (c : NodeConnections) (p : ℕ) → c.held.port ≡ suc p → is_seen (seen m p) ≡ false → step_connections m c ≡ None
  connections_port_end c p e g = connections_none c (both_gone m c.node.0 c.held.port p e g)

  -- The list of all wires: the port held is not a block's any more.

  pub wires_end : (c : Wires) (p : ℕ) → c.held.port ≡ suc p → is_seen (seen m p) ≡ false → step_wires m c ≡ None
  wires_end c p e g = step_holding m c p e ∙ wires_unseen m p c.held.offset (seen m p) g

-- What a step gives is listed, lies beyond what the cursor holds, and is what the cursor holds next.

module _ {A S : Type 0} where
  first_found : (b : Bool) (e : S) (f : A → S) (l : List A) (s : S) → cond b (on_first e f l) e ≡ s → (e ≡ s → ⊥) → (x : A) × Member x l × (f x ≡ s)
  unfolding on_first
  first_found true e f [] s p n = absurd (n p)
  first_found true e f (x ∷ l) s p n = (x, inl refl, p)
  first_found false e f l s p n = absurd (n p)

  last_found : (e : S) (f : A → S) (l : List A) (s : S) → on_last e f l ≡ s → (e ≡ s → ⊥) → (x : A) × Member x l × (f x ≡ s)
  unfolding on_last
  last_found e f [] s p n = absurd (n p)
  last_found e f (x ∷ l) s p n = later x l p
    where
      later : (x : A) (l : List A) → on_last (f x) f l ≡ s → (y : A) × Member y (x ∷ l) × (f y ≡ s)
      later x [] q = (x, inl refl, q)
      later x (y ∷ l) q = let r = later y l q in (r.0, inr r.1, r.2)

-- an item given and the cursor that comes with it, by what the item is made of
step_gave : {A B C : Type 0} (make : A → B) (of : B → A) (next : A → C) → ((a : A) → of (make a) ≡ a) → (l : List A) (b : B) (c : C) →
    (x : A) × Member x l × (◌≡◌ {A = Option (B × C)} (Some (make x, next x)) (Some (b, c))) → Member (of b) l × (c ≡ next (of b))
step_gave make of next back l b c r =
    let p = some_pair_parts _ _ _ _ r.2 in
    let v : r.0 ≡ of b = sym (back r.0) ∙ ap of p.0 in
    (subst (λ a. Member a l) v r.1, sym p.1 ∙ ap next v)

member_if : {A : Type 0} (b : Bool) (x : A) (l : List A) → Member x (cond b l []) → Member x l
member_if true x l i = i
member_if false x l i = absurd i

-- the cursors that hold what was given
abbrev pub ports_held : NodePorts → ℕ → NodePorts
ports_held c p = record { node = c.node; sides = c.sides; held = suc p }

abbrev pub subport_held : NodeSubports → SubportIndex → NodeSubports
subport_held c s = record { node = c.node; sides = c.sides; held = record { port = suc s.port.0; offset = s.subport_offset } }

module _ (m : MultiPortGraph) where
  block_left : (c : Nodes) (n : ℕ) → Member n (blocks_left m c) → Member n (blocks m) × (between c.front c.back n ≡ true)
  unfolding blocks_left
  block_left c n i =
      member_filter (between c.front c.back) n (blocks m)
      (member_if (node_held m c.back) n (filter (between c.front c.back) (blocks m))
      (member_if (node_held m c.front) n (cond (node_held m c.back) (filter (between c.front c.back) (blocks m)) []) i))

  pub nodes_give : (c d : Nodes) (n : NodeIndex) → step_nodes m c ≡ Some (n, d) →
      Member n.0 (blocks m) × (between c.front c.back n.0 ≡ true) × (d ≡ nodes_at (suc n.0) c.back)
  unfolding step_nodes
  nodes_give c d n e =
      let r = step_gave (λ k. node# k) (λ (k : NodeIndex). k.0) (λ k. nodes_at (suc k) c.back) (λ a. refl) (blocks_left m c) n d (first_found true None (λ k. Some (node# k, nodes_at (suc k) c.back)) (blocks_left m c) (Some (n, d)) e (λ z. zero_is_not_one (cc))) in
      let b = block_left c n.0 r.0 in
      (b.0, b.1, r.1)

  pub nodes_give_back : (c d : Nodes) (n : NodeIndex) → step_nodes_back m c ≡ Some (n, d) →
      Member n.0 (blocks m) × (between c.front c.back n.0 ≡ true) × (d ≡ nodes_at c.front (suc n.0))
  unfolding step_nodes_back
  nodes_give_back c d n e =
      let r = step_gave (λ k. node# k) (λ (k : NodeIndex). k.0) (λ k. nodes_at c.front (suc k)) (λ a. refl) (blocks_left m c) n d (last_found None (λ k. Some (node# k, nodes_at c.front (suc k))) (blocks_left m c) (Some (n, d)) e (λ z. zero_is_not_one (cc))) in
      let b = block_left c n.0 r.0 in
      (b.0, b.1, r.1)

  port_left : (c : Ports) (p : ℕ) → Member p (ports_left m c) → Member p (all_ports m) × (between c.front c.back p ≡ true)
  unfolding ports_left
  port_left c p i =
      member_filter (between c.front c.back) p (all_ports m)
      (member_if (held_seen m c.back) p (filter (between c.front c.back) (all_ports m))
      (member_if (held_seen m c.front) p (cond (held_seen m c.back) (filter (between c.front c.back) (all_ports m)) []) i))

  pub ports_give : (c d : Ports) (p : PortIndex) → step_all_ports m c ≡ Some (p, d) →
      Member p.0 (all_ports m) × (between c.front c.back p.0 ≡ true) × (d ≡ ports_at (suc p.0) c.back)
  unfolding step_all_ports
  ports_give c d p e =
      let r = step_gave (λ k. port# k) (λ (k : PortIndex). k.0) (λ k. ports_at (suc k) c.back) (λ a. refl) (ports_left m c) p d (first_found true None (λ k. Some (port# k, ports_at (suc k) c.back)) (ports_left m c) (Some (p, d)) e (λ z. zero_is_not_one (cc))) in
      let b = port_left c p.0 r.0 in
      (b.0, b.1, r.1)

  pub ports_give_back : (c d : Ports) (p : PortIndex) → step_all_ports_back m c ≡ Some (p, d) →
      Member p.0 (all_ports m) × (between c.front c.back p.0 ≡ true) × (d ≡ ports_at c.front (suc p.0))
  unfolding step_all_ports_back
  ports_give_back c d p e =
      let r = step_gave (λ k. port# k) (λ (k : PortIndex). k.0) (λ k. ports_at c.front (suc k)) (λ a. refl) (ports_left m c) p d (last_found None (λ k. Some (port# k, ports_at c.front (suc k))) (ports_left m c) (Some (p, d)) e (λ z. zero_is_not_one (cc))) in
      let b = port_left c p.0 r.0 in
      (b.0, b.1, r.1)

  link_left : (c : PortLinks) (w : SubportLink) → Member w (links_left m c) → Member w (port_links m c.port.0) × (between c.front c.back (link_offset w) ≡ true)
  unfolding links_left
  link_left c w i = member_filter (λ v. between c.front c.back (link_offset v)) w (port_links m c.port.0) i

  pub port_links_give : (c d : PortLinks) (w : SubportLink) → step_front m c ≡ Some (w, d) →
      Member w (port_links m c.port.0) × (between c.front c.back (link_offset w) ≡ true) × (d ≡ port_links_at c.port (suc (link_offset w)) c.back)
  unfolding step_front
  port_links_give c d w e =
      let r = step_gave (λ v. v) (λ v. v) (λ v. port_links_at c.port (suc (link_offset v)) c.back) (λ a. refl) (links_left m c) w d (first_found true None (λ v. Some (v, port_links_at c.port (suc (link_offset v)) c.back)) (links_left m c) (Some (w, d)) e (λ z. zero_is_not_one (cc))) in
      let b = link_left c w r.0 in
      (b.0, b.1, r.1)

  pub port_links_give_back : (c d : PortLinks) (w : SubportLink) → step_back m c ≡ Some (w, d) →
      Member w (port_links m c.port.0) × (between c.front c.back (link_offset w) ≡ true) × (d ≡ port_links_at c.port c.front (suc (link_offset w)))
  unfolding step_back
  port_links_give_back c d w e =
      let r = step_gave (λ v. v) (λ v. v) (λ v. port_links_at c.port c.front (suc (link_offset v))) (λ a. refl) (links_left m c) w d (last_found None (λ v. Some (v, port_links_at c.port c.front (suc (link_offset v)))) (links_left m c) (Some (w, d)) e (λ z. zero_is_not_one (cc))) in
      let b = link_left c w r.0 in
      (b.0, b.1, r.1)

  pub node_ports_give : (c d : NodePorts) (p : PortIndex) → step_node_ports m c ≡ Some (p, d) →
      Member p.0 (ports_of_node m c.node.0 c.sides) × (c.held ≤ p.0) × (d ≡ ports_held c p.0)
  unfolding step_node_ports
  node_ports_give c d p e =
      let l = filter (leb c.held) (ports_of_node m c.node.0 c.sides) in
      let r = step_gave (λ k. port# k) (λ (k : PortIndex). k.0) (ports_held c) (λ a. refl) l p d
      (first_found (both_seen m c.node.0 c.held) None (λ k. Some (port# k, ports_held c k)) l (Some (p, d)) e (λ z. zero_is_not_one (cc))) in
      let b = member_filter (leb c.held) p.0 (ports_of_node m c.node.0 c.sides) r.0 in
      (b.0, leb-true c.held p.0 b.1, r.1)

  pub subports_give : (c d : NodeSubports) (s : SubportIndex) → step_subports m c ≡ Some (s, d) →
      Member s (subports_of m c.node.0 c.sides) × (subport_beyond c.held.port c.held.offset s ≡ true) × (d ≡ subport_held c s)
  unfolding step_subports
  subports_give c d s e =
      let l = filter (subport_beyond c.held.port c.held.offset) (subports_of m c.node.0 c.sides) in
      let r = step_gave (λ t. t) (λ t. t) (subport_held c) (λ a. refl) l s d
      (first_found (both_seen m c.node.0 c.held.port) None (λ t. Some (t, subport_held c t)) l (Some (s, d)) e (λ z. zero_is_not_one (cc))) in
      let b = member_filter (subport_beyond c.held.port c.held.offset) s (subports_of m c.node.0 c.sides) r.0 in
      (b.0, b.1, r.1)

  pub links_give : (c d : NodeLinks) (w : SubportLink) → step_links m c ≡ Some (w, d) →
      Member w (node_links m c.node.0 c.sides c.skip.from c.skip.to) × (link_beyond c.held.port c.held.offset w ≡ true) × (Some (w, d) ≡ links_item c w)
  unfolding step_links
  links_give c d w e =
      let r =
      first_found (both_seen m c.node.0 c.held.port) None (links_item c)
      (filter (link_beyond c.held.port c.held.offset) (node_links m c.node.0 c.sides c.skip.from c.skip.to)) (Some (w, d)) e (λ z. zero_is_not_one (cc)) in
      let o = r.2 in
      let v : r.0 ≡ w = (some_pair_parts _ _ _ _ r.2).0 in
      let b = member_filter (link_beyond c.held.port c.held.offset) w (node_links m c.node.0 c.sides c.skip.from c.skip.to)
      (subst (λ (x : SubportLink). Member x (filter (link_beyond c.held.port c.held.offset) (node_links m c.node.0 c.sides c.skip.from c.skip.to))) v r.1) in
      (b.0, b.1, sym o ∙ ap (links_item c) v)

  -- the link that leads to the neighbour given
  pub neighbours_give : (c d : Neighbours) (n : NodeIndex) → step_neighbours m c ≡ Some (n, d) →
      (w : SubportLink) × Member w (neighbour_links m c.node.0 c.sides c.ignore_self) × (link_beyond c.held.port c.held.offset w ≡ true) × (Some (n, d) ≡ neighbours_item m c w)
  unfolding step_neighbours
  neighbours_give c d n e =
      let r =
      first_found (both_seen m c.node.0 c.held.port) None (neighbours_item m c)
      (filter (link_beyond c.held.port c.held.offset) (neighbour_links m c.node.0 c.sides c.ignore_self)) (Some (n, d)) e (λ z. zero_is_not_one (cc)) in
      let b = member_filter (link_beyond c.held.port c.held.offset) r.0 (neighbour_links m c.node.0 c.sides c.ignore_self) r.1 in
      (r.0, b.0, b.1, sym r.2)

  pub connections_give : (c d : NodeConnections) (w : SubportLink) → step_connections m c ≡ Some (w, d) →
      Member w (connections m c.node.0 c.target.0) × (link_beyond c.held.port c.held.offset w ≡ true) × (Some (w, d) ≡ connections_item c w)
  unfolding step_connections
  connections_give c d w e = go (is_block m c.target.0) e
    where
      go : (t : Bool) →
          cond t (cond (both_seen m c.node.0 c.held.port) (on_first None (connections_item c) (filter (link_beyond c.held.port c.held.offset) (connections m c.node.0 c.target.0))) None) None
          ≡ Some (w, d) →
          Member w (connections m c.node.0 c.target.0) × (link_beyond c.held.port c.held.offset w ≡ true) × (Some (w, d) ≡ connections_item c w)
      go true e =
          let r =
          first_found (both_seen m c.node.0 c.held.port) None (connections_item c)
          (filter (link_beyond c.held.port c.held.offset) (connections m c.node.0 c.target.0)) (Some (w, d)) e (λ z. zero_is_not_one (cc)) in
          let o = r.2 in
          let v : r.0 ≡ w = (some_pair_parts _ _ _ _ r.2).0 in
          let b = member_filter (link_beyond c.held.port c.held.offset) w (connections m c.node.0 c.target.0)
          (subst (λ (x : SubportLink). Member x (filter (link_beyond c.held.port c.held.offset) (connections m c.node.0 c.target.0))) v r.1) in
          (b.0, b.1, sym o ∙ ap (connections_item c) v)
      go false e = absurd (zero_is_not_one (cc))
