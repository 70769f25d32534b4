-- Steps of the walks over the links of a block and of a port, over plain values.
use Rattle.std.proofs.Math.Path.{◌≡◌, refl, sym, ap}
use Rattle.std.proofs.Common.{◌∙◌}
use Rattle.std.specs.Result.{result_ok}
use Rattle.std.specs.Prelude.{Bool, cond, eqb, length, Option, Some, None, Result, Ok, Err}
use Rattle.std.proofs.Math.Bool.{true, false}
use mathlib.Core.List.{List, [], ◌++◌, append-nil, flat_map}
use Prim.Native.Nat.{ℕ, suc, ◌+◌, ◌-◌, ◌≤◌, ◌<◌}
use native.Mathlib.Omega.{arith}
use Rattle.port_tables.specs.Lists.{range, on_first, on_last}
use Rattle.std.specs.List.{filter}
use Rattle.port_tables.specs.Entries.{same_side, node#, ports_from, ports_to}
use Rattle.port_tables.specs.declared.direction.Direction.{Direction}
use Rattle.port_tables.specs.declared.direction.Direction.TheVariants.{Incoming, Outgoing}
use Rattle.port_tables.specs.declared.index.NodeIndex.{NodeIndex}
use Rattle.port_tables.specs.declared.sides.Sides.{Sides}
use Rattle.port_tables.specs.declared.sides.Sides.TheVariants.{One}
use Rattle.port_tables.specs.declared.node_entry.NodeMeta.{NodeMeta}
use Rattle.multiportgraph.specs.Reading.{owner_of, seen}
use Rattle.multi_tables.specs.Forms.{Port, dead, hidden, visible, subport#, seen_as, wire_to}
use Rattle.multiportgraph.specs.CodeForms.{block_found}
use Rattle.multiportgraph.specs.WellFormed.{MultiWf}
use Rattle.multi_tables.specs.TableReads.{owner_in, seen_in, wire_in}
use Rattle.multiportgraph.specs.TableReadLaws.{seen_read}
use Rattle.multiportgraph.specs.Wires.{is_block, side_links, held_at}
use Rattle.multiportgraph.specs.Walks.{both_seen, between, by_sides, port_links_seen, port_links, links_left, step_front, step_back, link_beyond, node_links, step_links, is_own_output, not_ignored, neighbour_links, neighbours_item, step_neighbours, connections, connections_item, links_item, step_connections}
use Rattle.port_tables.specs.Listing.{filter_same}
use Rattle.multiportgraph.specs.RangeSearches.{last_append}
use Rattle.port_tables.specs.Limits.{node_slots}
use Rattle.multi_tables.specs.NamedEnds.{block_port}
use Rattle.multiportgraph.specs.StartSteps.{block_unread}
use Rattle.multiportgraph.specs.ScanLaws.{last_told, found_told, found_if, range_append, range_between, block_not_hidden, flat_map_append}
use Rattle.multiportgraph.specs.LookupSteps.{block_at, meta_is}
use Rattle.multi_tables.specs.Scans.{first_found, span_first, span_count, not_own_output, passes_in, links_in, beyond_in, end_before}
use Rattle.multi_tables.specs.ScanSteps.{filter_every}
use Rattle.multiportgraph.specs.ScanReads.{beyond_read, links_under}
use Rattle.multiportgraph.specs.WalkScans.{held_in, block_left, self_filter, last_found, left_in}
use Rattle.multiportgraph.specs.WalkSteps.{both_found}
use Rattle.multiportgraph.specs.declared.multiportgraph.MultiPortGraph.{MultiPortGraph}
use Rattle.multi_tables.specs.declared.answers.SubportIndex.{SubportIndex}
use Rattle.multi_tables.specs.declared.answers.SubportLink.{SubportLink}
use Rattle.multiportgraph.specs.declared.iter.NodeLinks.{NodeLinks}
use Rattle.multiportgraph.specs.declared.iter.Neighbours.{Neighbours}
use Rattle.multiportgraph.specs.declared.iter.NodeConnections.{NodeConnections}
use Rattle.multiportgraph.specs.declared.iter.PortLinks.{PortLinks}
use Rattle.multi_tables.specs.declared.scans.LinkFilter.{LinkFilter}
use Rattle.multi_tables.specs.declared.scans.LinkFilter.TheVariants as filters
use Rattle.multi_tables.specs.declared.answers.Refusal.{Refusal}
use Rattle.multi_tables.specs.declared.answers.PortPlace.{PortPlace}
use Rattle.multi_tables.specs.declared.scans.Held.{Held}
use Rattle.std.proofs.Common.{add-one}

-- A block's links that a cursor has left.

module _ (m : MultiPortGraph) (n : ℕ) (sides : Sides) (f : LinkFilter) (held o : ℕ) where
  abbrev passing : SubportLink → Bool
  passing w = passes_in m.graph.port_meta m.copy_node f w.to.port.0

  pub left_gone : both_seen m n held ≡ false → None ≡ first_found (block_left m n sides f held o)
  unfolding block_left first_found
  left_gone e = rw e

  pub left_found : MultiWf m → (k : NodeMeta) → block_found m n ≡ Ok k → held_in m.graph.port_meta m.copy_node held ≡ true
      → (a b : ℕ) (r : Option SubportLink) → a ≡ ports_from k sides → b ≡ ports_to k sides
      → r ≡ first_found (filter passing (beyond_in m.multiport m.graph.port_link m.graph.port_meta m.copy_node a b held o))
      → r ≡ first_found (block_left m n sides f held o)
  unfolding block_left
  left_found w k e h a b r ea eb er =
      let read = beyond_read m w n k (block_not_hidden m n (sym (block_at m n (Ok k) e))) (meta_is m n k e) passing sides held o in
      er
      ∙ ap (λ (x : ℕ). first_found (filter passing (beyond_in m.multiport m.graph.port_link m.graph.port_meta m.copy_node x b held o))) ea
      ∙ ap (λ (x : ℕ). first_found (filter passing (beyond_in m.multiport m.graph.port_link m.graph.port_meta m.copy_node (ports_from k sides) x held o))) eb
      ∙ rw (both_found m n k held true w e h) (ap first_found read)

-- Links of a block.

module _ (m : MultiPortGraph) (c : NodeLinks) (r : Option SubportLink)
    (e : r ≡ first_found (block_left m c.node.0 c.sides (filters.Skip c.skip) c.held.port c.held.offset)) where
  pub links_item_lem : (w : SubportLink) (k : Held) → r ≡ Some w → k ≡ held_at w.from
      → Some (w, record { node = c.node; sides = c.sides; skip = c.skip; held = k }) ≡ step_links m c
  unfolding step_links node_links block_left
  links_item_lem w k h g =
      ap (λ (x : Held). Some (w, record { node = c.node; sides = c.sides; skip = c.skip; held = x })) g
      ∙ found_if None (links_item c) (both_seen m c.node.0 c.held.port) _ (sym h ∙ e)

  pub links_none : r ≡ None → None ≡ step_links m c
  unfolding step_links node_links block_left
  links_none h = found_if None (links_item c) (both_seen m c.node.0 c.held.port) _ (sym h ∙ e)

-- Neighbours.

own_by : (m : MultiPortGraph) (n : NodeIndex) (s : Port) → not_own_output n.0 (seen_as s) ≡ cond (is_own_output m n.0 s) false true
own_by m n dead = refl
own_by m n hidden = refl
own_by m n (visible k d) = go (eqb k n.0) d
  where
    go : (b : Bool) (d : Direction) → cond b (same_side d Incoming) true ≡ cond (cond b (same_side d Outgoing) false) false true
    go true Incoming = refl
    go true Outgoing = refl
    go false d = refl

module _ (m : MultiPortGraph) (w : MultiWf m) (c : Neighbours) (f : LinkFilter) (r : Option SubportLink) (ef : f ≡ self_filter c.node c.ignore_self)
    (e : r ≡ first_found (block_left m c.node.0 c.sides f c.held.port c.held.offset)) where
  passed_same : (b : Bool) (l : List SubportLink) → filter (λ v. passes_in m.graph.port_meta m.copy_node (self_filter c.node b) v.to.port.0) l ≡ filter (not_ignored m c.node.0 b) l
  passed_same true l =
      filter_same (λ v. not_own_output c.node.0 (seen_as (seen_in m.graph.port_meta m.copy_node v.to.port.0))) (not_ignored m c.node.0 true) l
      (λ v i. own_by m c.node (seen_in m.graph.port_meta m.copy_node v.to.port.0)
      ∙ ap (λ (s : Port). cond (is_own_output m c.node.0 s) false true) (seen_read m w.fine.flags_long v.to.port.0))
  passed_same false l = filter_same (λ v. true) (not_ignored m c.node.0 false) l (λ v i. refl)

  listed : r ≡ first_found (cond (both_seen m c.node.0 c.held.port) (filter (link_beyond c.held.port c.held.offset) (neighbour_links m c.node.0 c.sides c.ignore_self)) [])
  unfolding block_left neighbour_links
  listed =
      e
      ∙ ap (λ (x : LinkFilter). first_found (block_left m c.node.0 c.sides x c.held.port c.held.offset)) ef
      ∙ ap (λ (l : List SubportLink). first_found (cond (both_seen m c.node.0 c.held.port) (filter (link_beyond c.held.port c.held.offset) l) []))
      (passed_same c.ignore_self (by_sides (λ d. side_links m d c.node.0) c.sides))

  pub neighbours_item_lem : (v : SubportLink) (k : ℕ) (x : Held) → r ≡ Some v → k ≡ owner_in m.graph.port_meta v.to.port.0 → x ≡ held_at v.from
      → Some (node# k, record { node = c.node; sides = c.sides; ignore_self = c.ignore_self; held = x }) ≡ step_neighbours m c
  unfolding step_neighbours owner_in owner_of
  neighbours_item_lem v k x h g i =
      (λ j. Some (node# (g j), record { node = c.node; sides = c.sides; ignore_self = c.ignore_self; held = i j }))
      ∙ found_if None (neighbours_item m c) (both_seen m c.node.0 c.held.port) _ (sym h ∙ listed)

  pub neighbours_none : r ≡ None → None ≡ step_neighbours m c
  unfolding step_neighbours
  neighbours_none h = found_if None (neighbours_item m c) (both_seen m c.node.0 c.held.port) _ (sym h ∙ listed)

-- Connections.

module _ (m : MultiPortGraph) (c : NodeConnections) where
  pub connections_gone : is_block m c.target.0 ≡ false → None ≡ step_connections m c
  unfolding step_connections
  connections_gone e = rw e

  module _ (r : Option SubportLink) (t : is_block m c.target.0 ≡ true)
      (e : r ≡ first_found (block_left m c.node.0 (One Outgoing) (filters.To c.target) c.held.port c.held.offset)) where
    connected : r ≡ first_found (cond (both_seen m c.node.0 c.held.port) (filter (link_beyond c.held.port c.held.offset) (connections m c.node.0 c.target.0)) [])
    unfolding block_left connections owner_in owner_of
    connected = e

    pub connections_item_lem : (w : SubportLink) (k : Held) → r ≡ Some w → k ≡ held_at w.from
        → Some (w, record { node = c.node; target = c.target; held = k }) ≡ step_connections m c
    unfolding step_connections
    connections_item_lem w k h g =
        rw t
        (ap (λ (x : Held). Some (w, record { node = c.node; target = c.target; held = x })) g
        ∙ found_if None (connections_item c) (both_seen m c.node.0 c.held.port) _ (sym h ∙ connected))

    pub connections_none : r ≡ None → None ≡ step_connections m c
    unfolding step_connections
    connections_none h = rw t (found_if None (connections_item c) (both_seen m c.node.0 c.held.port) _ (sym h ∙ connected))

-- Links of a port.

module _ (links owners : List ℕ) (flags : List Bool) (p first : ℕ) where
  abbrev link_at : ℕ → List SubportLink
  link_at i = wire_to (subport# p i) (wire_in links owners flags (first + i))

  links_more : (from stop : ℕ) → from < stop → links_in links owners flags p first from (stop - from) ≡ links_in links owners flags p first from (stop - 1 - from) ++ link_at (stop - 1)
  unfolding links_in range flat_map
  links_more from stop h =
      let a : stop - from ≡ (stop - 1 - from) + 1 = omega arith in
      let b : from + (stop - 1 - from) ≡ stop - 1 = omega arith in
      ap (flat_map link_at) (range_append from (stop - 1 - from) 1 (stop - from) a)
      ∙ flat_map_append link_at (range from (stop - 1 - from)) (range (from + (stop - 1 - from)) 1)
      ∙ ap (λ (x : ℕ). flat_map link_at (range from (stop - 1 - from)) ++ (link_at x ++ [])) b
      ∙ ap (λ (l : List SubportLink). flat_map link_at (range from (stop - 1 - from)) ++ l) (append-nil (link_at (stop - 1)))

  -- a single end gives one link at most
  last_of_one : (a : List SubportLink) (s : SubportIndex) (x : Result (Option (SubportIndex × PortPlace)) Refusal) (r : Option SubportLink) → r ≡ first_found (filter (λ (v : SubportLink). true) (wire_to s x))
      → ((w : SubportLink) → r ≡ Some w → r ≡ last_found (a ++ wire_to s x)) × (r ≡ None → last_found a ≡ last_found (a ++ wire_to s x))
  unfolding first_found last_found
  last_of_one a s (Ok (Some (t, x))) r e = (λ w h. e ∙ sym (last_append None Some a (record { from = s; to = t; place = x })), λ h. let z : ◌≡◌ {A = ℕ} 0 1 = cc in absurd (omega arith))
  last_of_one a s (Ok None) r e = (λ w h. let z : ◌≡◌ {A = ℕ} 0 1 = cc in absurd (omega arith), λ h. ap (on_last None Some) (sym (append-nil a)))
  last_of_one a s (Err q) r e = (λ w h. let z : ◌≡◌ {A = ℕ} 0 1 = cc in absurd (omega arith), λ h. ap (on_last None Some) (sym (append-nil a)))

  module _ (from stop : ℕ) (h : from < stop) (r : Option SubportLink) (e : r ≡ first_found (filter (λ (v : SubportLink). true) (link_at (stop - 1)))) where
    pub back_link : (w : SubportLink) → r ≡ Some w → r ≡ last_found (links_in links owners flags p first from (stop - from))
    back_link w g =
        (last_of_one (links_in links owners flags p first from (stop - 1 - from)) (subport# p (stop - 1)) (wire_in links owners flags (first + (stop - 1))) r e).0 w g
        ∙ ap last_found (sym (links_more from stop h))

    pub back_link_turn : r ≡ None → last_found (links_in links owners flags p first from (stop - 1 - from)) ≡ last_found (links_in links owners flags p first from (stop - from))
    back_link_turn g =
        (last_of_one (links_in links owners flags p first from (stop - 1 - from)) (subport# p (stop - 1)) (wire_in links owners flags (first + (stop - 1))) r e).1 g
        ∙ ap last_found (sym (links_more from stop h))

  pub back_link_none : (from stop : ℕ) → stop ≤ from → None ≡ last_found (links_in links owners flags p first from (stop - from))
  unfolding links_in range flat_map last_found on_last
  back_link_none from stop h = let e : stop - from ≡ 0 = omega arith in rw e

module _ (marks : List Bool) (links owners : List ℕ) (flags : List Bool) (p : ℕ) (d : Direction) (front back : ℕ)
    (first count end f : ℕ) (e₁ : first ≡ span_first marks links owners p d) (e₂ : count ≡ span_count marks links owners p d) (e₃ : end ≡ end_before back count) (e₄ : f ≡ front) where
  left_is : links_in links owners flags p first f (end - f) ≡ left_in marks links owners flags p d front back
  unfolding left_in
  left_is =
      ap (λ (x : ℕ). links_in links owners flags p x f (end - f)) e₁
      ∙ ap (λ (x : ℕ). links_in links owners flags p (span_first marks links owners p d) x (end - x)) e₄
      ∙ ap (λ (x : ℕ). links_in links owners flags p (span_first marks links owners p d) front (x - front)) (e₃ ∙ ap (end_before back) e₂)

  pub left_first : (r : Option SubportLink) → r ≡ first_found (filter (λ (v : SubportLink). true) (links_in links owners flags p first f (end - f)))
      → r ≡ first_found (left_in marks links owners flags p d front back)
  left_first r e = e ∙ ap first_found (filter_every (links_in links owners flags p first f (end - f)) ∙ left_is)

-- a port that is refused has none
module _ (m : MultiPortGraph) (c : PortLinks) (long : length m.copy_node ≡ node_slots) {b : Result (NodeIndex × Direction) Refusal} {o : Option (NodeIndex × Direction)}
    (e : b ≡ block_port m.graph.port_meta m.copy_node c.port.0) (k : o ≡ result_ok b) (none : o ≡ None) where
  left_unseen : links_left m c ≡ []
  unfolding links_left port_links
  left_unseen = rw (block_unread m c.port.0 long (port_links_seen m c.port.0) refl refl e k none)

  pub front_unseen : None ≡ step_front m c
  unfolding step_front on_first
  front_unseen = rw left_unseen

  pub back_unseen : None ≡ step_back m c
  unfolding step_back on_last
  back_unseen = rw left_unseen

module _ (m : MultiPortGraph) (c : PortLinks) where
  module _ (w : MultiWf m) (n : ℕ) (d : Direction) (s : seen m c.port.0 ≡ visible n d) (r : Option SubportLink) where
    abbrev left_told : List SubportLink
    left_told = left_in m.multiport m.graph.port_link m.graph.port_meta m.copy_node c.port.0 d c.front c.back

    left_read : left_told ≡ links_left m c
    unfolding left_in links_left
    left_read =
        sym (links_under m w c.port.0 n d s (between c.front c.back) c.front
        (end_before c.back (span_count m.multiport m.graph.port_link m.graph.port_meta c.port.0 d) - c.front)
        (range_between c.front c.back (span_count m.multiport m.graph.port_link m.graph.port_meta c.port.0 d)))

    pub front_item : (v : SubportLink) → r ≡ first_found left_told → r ≡ Some v
        → Some (v, record { port = c.port; front = v.from.subport_offset + 1; back = c.back }) ≡ step_front m c
    unfolding step_front
    front_item v e h =
        ap (λ (x : ℕ). Some (v, record { port = c.port; front = x; back = c.back })) (add-one v.from.subport_offset)
        ∙ found_told None (λ (u : SubportLink). Some (u, record { port = c.port; front = suc u.from.subport_offset; back = c.back })) _ (sym h ∙ e ∙ ap first_found left_read)

    pub front_none : r ≡ first_found left_told → r ≡ None → None ≡ step_front m c
    unfolding step_front
    front_none e h =
        found_told None (λ (u : SubportLink). Some (u, record { port = c.port; front = suc u.from.subport_offset; back = c.back })) _ (sym h ∙ e ∙ ap first_found left_read)

    pub back_link_item : (v : SubportLink) → r ≡ last_found left_told → r ≡ Some v
        → Some (v, record { port = c.port; front = c.front; back = v.from.subport_offset + 1 }) ≡ step_back m c
    unfolding step_back last_found
    back_link_item v e h =
        ap (λ (x : ℕ). Some (v, record { port = c.port; front = c.front; back = x })) (add-one v.from.subport_offset)
        ∙ last_told None (λ (u : SubportLink). Some (u, record { port = c.port; front = c.front; back = suc u.from.subport_offset })) _ (sym h ∙ e ∙ ap last_found left_read)

    pub back_link_end : r ≡ last_found left_told → r ≡ None → None ≡ step_back m c
    unfolding step_back last_found
    back_link_end e h =
        last_told None (λ (u : SubportLink). Some (u, record { port = c.port; front = c.front; back = suc u.from.subport_offset })) _ (sym h ∙ e ∙ ap last_found left_read)
