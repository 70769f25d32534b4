-- The walks of a block, over its ports, subports, links, neighbours and connections: on a graph of the calls each gives its listing
-- whole, in order, and then the end; from any cursor it gives what the cursor leaves of the listing.
use Rattle.std.proofs.lemmas.List.{length-map}
use Rattle.std.specs.Prelude.{◌≡◌, Bool, ◌⊎◌, leb, ltb, Option, Some, None, Ok}
use Rattle.std.proofs.Math.Path.{refl, sym, ap}
use Rattle.std.proofs.Common.{◌∙◌, subst, inr, ⊎_elim, arith}
use Rattle.std.proofs.Math.Bool.{true, false, cond}
use mathlib.Core.List.{List, [], flat_map, map, map-id}
use Rattle.std.proofs.Math.Logic.{inl}
use Prim.Native.Nat.{ℕ, suc, ◌-◌, ◌≤◌, ◌<◌}
use Rattle.std.proofs.Math.Dec.{eqb}
use Rattle.std.proofs.Math.ListN.{length}
use borrow.Author.Tests.{lt-ltb, le-ltb, le-leb, ltb-true, leb-true, eqb-true, eqb-false, leb-false}
use Rattle.port_tables.specs.Lists.{range, on_first, Member, Rising}
use Rattle.std.specs.List.{filter}
use Rattle.port_tables.specs.Entries.{ports_on, port#, ports_from}
use Rattle.portgraph.specs.Lookups.{contains_node}
use Rattle.portgraph.specs.GoodSlots.{zero_is_not_one}
use Rattle.port_tables.specs.declared.index.NodeIndex.{NodeIndex}
use Rattle.port_tables.specs.declared.direction.Direction.{Direction}
use Rattle.port_tables.specs.declared.direction.Direction.TheVariants.{Incoming, Outgoing}
use Rattle.port_tables.specs.declared.sides.Sides.{Sides}
use Rattle.port_tables.specs.declared.sides.Sides.TheVariants.{One, Both}
use Rattle.multiportgraph.specs.Reading.{owner_of, is_hidden, seen}
use Rattle.multi_tables.specs.Forms.{Port, dead, hidden, visible}
use Rattle.multiportgraph.specs.Wires.{is_block, side_links, is_beyond, ports_of_side}
use Rattle.multiportgraph.specs.Walks.{started, refused, start_at_node, start_between, is_seen, held_seen, both_seen, by_sides, ports_of_node, step_node_ports, subports_of, subport_beyond, step_subports, port_links_seen, port_links, not_skipped, node_links, link_beyond, links_item, step_links, not_ignored, neighbour_links, neighbours, neighbours_item, step_neighbours, connections, connections_item, step_connections, node_ports_from, start_node_ports, subports_from, start_subports, links_from, start_links, neighbours_from, start_neighbours, connections_from, start_connections}
use Rattle.multiportgraph.specs.WellFormed.{MultiWf}
use Rattle.port_tables.specs.Listing.{member_flat_map, member_range, member_filter, filter_all, rising_filter, rising_flat_map, range_rises, member_append, filter_same}
use Rattle.multiportgraph.specs.ScanLaws.{first_if, is_past, past_later, past_here, past_earlier, links_from_to, subports_from_to, subports_seen, subports_at, link_at_port, subport_at_port, links_in_row, subports_in_row, ports_in_row, block_not_hidden, block_has_meta, port_seen_there, ports_across, side_in_row}
use Rattle.theorems.specs.Cursors.{Stepped, item, end, walk, Listed, Fronts, walk_front, rising_as, walk_nothing}
use Rattle.multiportgraph.specs.declared.multiportgraph.MultiPortGraph.{MultiPortGraph}
use Rattle.multi_tables.specs.declared.answers.SubportIndex.{SubportIndex}
use Rattle.multi_tables.specs.declared.answers.SubportLink.{SubportLink}
use Rattle.multiportgraph.specs.declared.iter.NodePorts.{NodePorts}
use Rattle.multiportgraph.specs.declared.iter.NodeSubports.{NodeSubports}
use Rattle.multiportgraph.specs.declared.iter.NodeLinks.{NodeLinks}
use Rattle.multiportgraph.specs.declared.iter.Neighbours.{Neighbours}
use Rattle.multiportgraph.specs.declared.iter.NodeConnections.{NodeConnections}
use Rattle.multi_tables.specs.declared.answers.Refusal.TheVariants.{UnknownNode, HiddenNode}
use Rattle.theorems.specs.WalkStepLaws.{seen_stays, subport_offset, link_offset, subports_of_port_rise, port_links_rise, start_gives}
use Rattle.port_tables.specs.declared.index.PortIndex.{PortIndex}
use Rattle.portgraph.specs.Walks.{whole}

-- The steps, in one form.

abbrev node_ports_given : Option (PortIndex × NodePorts) → Stepped ℕ NodePorts
node_ports_given (Some (p, c)) = item p.0 c
node_ports_given None = end

abbrev subports_given : Option (SubportIndex × NodeSubports) → Stepped SubportIndex NodeSubports
subports_given (Some (s, c)) = item s c
subports_given None = end

abbrev links_given : Option (SubportLink × NodeLinks) → Stepped SubportLink NodeLinks
links_given (Some (w, c)) = item w c
links_given None = end

abbrev neighbours_given : Option (NodeIndex × Neighbours) → Stepped ℕ Neighbours
neighbours_given (Some (n, c)) = item n.0 c
neighbours_given None = end

abbrev connections_given : Option (SubportLink × NodeConnections) → Stepped SubportLink NodeConnections
connections_given (Some (w, c)) = item w c
connections_given None = end

abbrev pub by_node_ports : MultiPortGraph → NodePorts → Stepped ℕ NodePorts
by_node_ports m c = node_ports_given (step_node_ports m c)

abbrev pub by_subports : MultiPortGraph → NodeSubports → Stepped SubportIndex NodeSubports
by_subports m c = subports_given (step_subports m c)

abbrev pub by_links : MultiPortGraph → NodeLinks → Stepped SubportLink NodeLinks
by_links m c = links_given (step_links m c)

abbrev pub by_neighbours : MultiPortGraph → Neighbours → Stepped ℕ Neighbours
by_neighbours m c = neighbours_given (step_neighbours m c)

abbrev pub by_connections : MultiPortGraph → NodeConnections → Stepped SubportLink NodeConnections
by_connections m c = connections_given (step_connections m c)

-- What a cursor leaves of its listing; nothing where what it walks or holds is gone or hidden.

unfoldable pub node_ports_left : MultiPortGraph → NodePorts → List ℕ
node_ports_left m c = cond (both_seen m c.node.0 c.held) (filter (leb c.held) (ports_of_node m c.node.0 c.sides)) []

unfoldable pub subports_left : MultiPortGraph → NodeSubports → List SubportIndex
subports_left m c =
    cond (both_seen m c.node.0 c.held.port) (filter (subport_beyond c.held.port c.held.offset) (subports_of m c.node.0 c.sides)) []

unfoldable pub node_links_left : MultiPortGraph → NodeLinks → List SubportLink
node_links_left m c =
    cond (both_seen m c.node.0 c.held.port)
    (filter (link_beyond c.held.port c.held.offset) (node_links m c.node.0 c.sides c.skip.from c.skip.to))
    []

-- the links that lead to the neighbours left
unfoldable pub neighbours_left : MultiPortGraph → Neighbours → List SubportLink
neighbours_left m c =
    cond (both_seen m c.node.0 c.held.port)
    (filter (link_beyond c.held.port c.held.offset) (neighbour_links m c.node.0 c.sides c.ignore_self))
    []

-- both blocks are still there, and the port held
abbrev pub both_ends : MultiPortGraph → ℕ → ℕ → ℕ → Bool
both_ends m n k held = cond (is_block m k) (both_seen m n held) false

unfoldable pub connections_left : MultiPortGraph → NodeConnections → List SubportLink
connections_left m c =
    cond (both_ends m c.node.0 c.target.0 c.held.port) (filter (link_beyond c.held.port c.held.offset) (connections m c.node.0 c.target.0)) []

-- A walk over a list that ascends by port, then offset, while what it holds is still there.

-- by port, then offset
abbrev pub Ahead : {A : Type 0} → (A → ℕ) → (A → ℕ) → A → A → Type 0
Ahead port offset x y = (port x < port y) ⊎ ((port x ≡ port y) × (offset x < offset y))

module _ {A : Type 0} (port offset : A → ℕ) where
  past_true : (h o : ℕ) (x : A) → is_past port offset h o x ≡ true → (h ≤ port x) ⊎ ((h ≡ suc (port x)) × (o < offset x))
  past_true h o x = go (eqb h 0) refl (eqb (port x) (h - 1)) refl
    where
      go : (b : Bool) → eqb h 0 ≡ b → (c : Bool) → eqb (port x) (h - 1) ≡ c → cond b true (cond c (ltb o (offset x)) (ltb (h - 1) (port x))) ≡ true →
          (h ≤ port x) ⊎ ((h ≡ suc (port x)) × (o < offset x))
      go true e c d q = let z = eqb-true h 0 e in inl (omega arith)
      go false e true d q =
          let z = eqb-false h 0 e in
          let v = eqb-true (port x) (h - 1) d in
          inr (omega arith, ltb-true o (offset x) q)
      go false e false d q = let v = ltb-true (h - 1) (port x) q in inl (omega arith)

  past_same_port : (h o : ℕ) (x : A) → h ≡ suc (port x) → o < offset x → is_past port offset h o x ≡ true
  past_same_port h o x e l = ap (λ (v : ℕ). is_past port offset v o x) e ∙ (past_here port offset (port x) o x refl ∙ lt-ltb o (offset x) l)

  not_past_itself : (x : A) → is_past port offset (suc (port x)) (offset x) x ≡ false
  not_past_itself x = past_here port offset (port x) (offset x) x refl ∙ le-ltb (offset x) (offset x) (omega arith)

  past_ahead : (x y : A) → Ahead port offset x y → is_past port offset (suc (port x)) (offset x) y ≡ true
  past_ahead x y (inl l) = past_later port offset (suc (port x)) (offset x) y (omega arith)
  past_ahead x y (inr q) = past_same_port (suc (port x)) (offset x) y (ap suc q.0) q.1

  past_fewer : (h o : ℕ) (x y : A) → is_past port offset h o x ≡ true → is_past port offset (suc (port x)) (offset x) y ≡ true → is_past port offset h o y ≡ true
  past_fewer h o x y a b = go (past_true h o x a) (past_true (suc (port x)) (offset x) y b)
    where
      go : (h ≤ port x) ⊎ ((h ≡ suc (port x)) × (o < offset x)) → (suc (port x) ≤ port y) ⊎ ((suc (port x) ≡ suc (port y)) × (offset x < offset y)) → is_past port offset h o y ≡ true
      go (inl p) (inl q) = past_later port offset h o y (omega arith)
      go (inl p) (inr q) = let e = q.0 in past_later port offset h o y (omega arith)
      go (inr p) (inl q) = let e = p.0 in past_later port offset h o y (omega arith)
      go (inr p) (inr q) =
          let e = p.1 in
          let d = q.1 in
          past_same_port h o y (p.0 ∙ q.0) (omega arith)

-- what is left beyond a port and offset
abbrev left_past : {A : Type 0} → (A → ℕ) → (A → ℕ) → List A → (ℕ → Bool) → ℕ → ℕ → List A
left_past port offset l held h o = cond (held h) (filter (is_past port offset h o) l) []

record OneEnded {A B C : Type 0} (port offset : A → ℕ) (l : List A) (held : ℕ → Bool) (out : A → B) (cursor : ℕ → ℕ → C) (step : C → Stepped B C) : Type 0 where
  pub rises : (h : ℕ) → held h ≡ true → Rising (Ahead port offset) l
  pub stays : (h : ℕ) → held h ≡ true → (x : A) → Member x l → held (suc (port x)) ≡ true
  pub is : (h o : ℕ) → step (cursor h o) ≡ on_first end (λ x. item (out x) (cursor (suc (port x)) (offset x))) (left_past port offset l held h o)

module _ {A B C : Type 0} {port offset : A → ℕ} {l : List A} {held : ℕ → Bool} {out : A → B} {cursor : ℕ → ℕ → C} {step : C → Stepped B C}
    (w : OneEnded port offset l held out cursor step) where
  abbrev by_place : Rising (Ahead port offset) l → Listed A B (ℕ × ℕ) C
  by_place r =
      record {
        listing = l;
        before = Ahead port offset;
        rises = r;
        out = out;
        cursor = λ k. cursor k.0 k.1;
        left = λ k x. is_past port offset k.0 k.1 x;
        there = λ k. held k.0 ≡ true;
      }

  left_there : (h o : ℕ) → held h ≡ true → left_past port offset l held h o ≡ filter (is_past port offset h o) l
  left_there h o t = rw t

  fronts : (r : Rising (Ahead port offset) l) → Fronts (by_place r) step
  fronts r =
      record {
        next = λ k x. (suc (port x), offset x);
        is = λ k t. w.is k.0 k.1 ∙ ap (on_first end (λ x. item (out x) (cursor (suc (port x)) (offset x)))) (left_there k.0 k.1 t);
        stays = λ k x t i. w.stays k.0 t x i;
        itself = λ k x. not_past_itself port offset x;
        later = λ k x y h q. past_ahead port offset x y q;
        fewer = λ k x y h q. past_fewer port offset k.0 k.1 x y h q;
      }

  one_front : (fuel h o : ℕ) → length (left_past port offset l held h o) < fuel → walk step fuel (cursor h o) ≡ whole (map out (left_past port offset l held h o))
  unfolding on_first
  one_front fuel h o = go (held h) refl
    where
      go : (b : Bool) → held h ≡ b → length (cond b (filter (is_past port offset h o) l) []) < fuel → walk step fuel (cursor h o) ≡ whole (map out (cond b (filter (is_past port offset h o) l) []))
      go true t q = let r = w.rises h t in walk_front (by_place r) (fronts r) fuel (h, o) t q
      go false t q =
          let e : left_past port offset l held h o ≡ [] = rw t in
          walk_nothing step fuel (cursor h o) q (w.is h o ∙ ap (on_first end (λ x. item (out x) (cursor (suc (port x)) (offset x)))) e)

-- What is walked is still there.

both_block : (m : MultiPortGraph) (n h : ℕ) → both_seen m n h ≡ true → is_block m n ≡ true
both_block m n h = go (is_block m n)
  where
    go : (b : Bool) → cond b (held_seen m h) false ≡ true → b ≡ true
    go true e = refl
    go false e = absurd (zero_is_not_one (cc))

both_stays : (m : MultiPortGraph) (n h p : ℕ) → both_seen m n h ≡ true → is_seen (seen m p) ≡ true → both_seen m n (suc p) ≡ true
both_stays m n h p b s = rw (both_block m n h b) (seen_stays m p s)

-- What is listed of a block ascends, at ports that are seen.

abbrev pub link_port : SubportLink → ℕ
link_port w = w.from.port.0

abbrev subport_port : SubportIndex → ℕ
subport_port s = s.port.0

link_seen_lem : (m : MultiPortGraph) (p : ℕ) (v : SubportLink) → Member v (port_links m p) → is_seen (seen m p) ≡ true
unfolding port_links
link_seen_lem m p v = go (seen m p)
  where
    go : (s : Port) → Member v (port_links_seen m p s) → is_seen s ≡ true
    go dead i = absurd i
    go hidden i = absurd i
    go (visible n d) i = refl

subport_seen : (m : MultiPortGraph) (p : ℕ) (s : SubportIndex) → Member s (subports_at m p) → is_seen (seen m p) ≡ true
unfolding subports_at
subport_seen m p s = go (seen m p)
  where
    go : (v : Port) → Member s (subports_seen m p v) → is_seen v ≡ true
    go dead i = absurd i
    go hidden i = absurd i
    go (visible n d) i = refl

subports_at_rise : (m : MultiPortGraph) (p : ℕ) → Rising (λ s t. subport_offset s < subport_offset t) (subports_at m p)
unfolding subports_at
subports_at_rise m p = go (seen m p)
  where
    go : (v : Port) → Rising (λ s t. subport_offset s < subport_offset t) (subports_seen m p v)
    go dead = tt
    go hidden = tt
    go (visible n d) = subports_of_port_rise m d p

-- lists that ascend by offset at each port, gathered over consecutive ports
rows_rise : {A : Type 0} (port offset : A → ℕ) (f : ℕ → List A) → ((p : ℕ) (x : A) → Member x (f p) → port x ≡ p) → ((p : ℕ) → Rising (λ x y. offset x < offset y) (f p)) →
    (a c : ℕ) → Rising (Ahead port offset) (flat_map f (range a c))
rows_rise port offset f stands up a c =
    rising_flat_map ◌<◌ (Ahead port offset) f (range a c) (range_rises a c)
    (λ p i. rising_as (λ x y. offset x < offset y) (Ahead port offset) (f p) (λ x y i j l. inr (stands p x i ∙ sym (stands p y j), l)) (up p))
    (λ p q x y i j l h k. let u = stands p x h in let v = stands q y k in inl (omega arith))

-- and stand at ports that are seen
rows_seen : {A : Type 0} (m : MultiPortGraph) (port : A → ℕ) (f : ℕ → List A) → ((p : ℕ) (x : A) → Member x (f p) → port x ≡ p) → ((p : ℕ) (x : A) → Member x (f p) → is_seen (seen m p) ≡ true) →
    (a c : ℕ) (x : A) → Member x (flat_map f (range a c)) → is_seen (seen m (port x)) ≡ true
rows_seen m port f stands shown a c x i =
    let g = member_flat_map f x (range a c) i in
    ap (λ (p : ℕ). is_seen (seen m p)) (stands g.0 x g.2) ∙ shown g.0 x g.2

links_row_rises : (m : MultiPortGraph) (a c : ℕ) → Rising (Ahead link_port link_offset) (links_from_to m a c)
unfolding links_from_to
links_row_rises m a c = rows_rise link_port link_offset (port_links m) (link_at_port m) (port_links_rise m) a c

subports_row_rises : (m : MultiPortGraph) (a c : ℕ) → Rising (Ahead subport_port subport_offset) (subports_from_to m a c)
unfolding subports_from_to
subports_row_rises m a c = rows_rise subport_port subport_offset (subports_at m) (subport_at_port m) (subports_at_rise m) a c

links_row_seen : (m : MultiPortGraph) (a c : ℕ) (v : SubportLink) → Member v (links_from_to m a c) → is_seen (seen m (link_port v)) ≡ true
unfolding links_from_to
links_row_seen m a c = rows_seen m link_port (port_links m) (link_at_port m) (link_seen_lem m) a c

subports_row_seen : (m : MultiPortGraph) (a c : ℕ) (s : SubportIndex) → Member s (subports_from_to m a c) → is_seen (seen m (subport_port s)) ≡ true
unfolding subports_from_to
subports_row_seen m a c = rows_seen m subport_port (subports_at m) (subport_at_port m) (subport_seen m) a c

pub by_sides_member : {A : Type 0} (g : Direction → List A) (sides : Sides) (x : A) → Member x (by_sides g sides) → (d : Direction) × Member x (g d)
by_sides_member g (One d) x i = (d, i)
by_sides_member g Both x i = ⊎_elim (λ h. (Incoming, h)) (λ h. (Outgoing, h)) (member_append x (g Incoming) (g Outgoing) i)

module _ {m : MultiPortGraph} (w : MultiWf m) (n : ℕ) (b : is_block m n ≡ true) (sides : Sides) where
  pub block_links_rise : Rising (Ahead link_port link_offset) (by_sides (λ d. side_links m d n) sides)
  block_links_rise =
      let k = block_has_meta m n b in
      subst (Rising (Ahead link_port link_offset)) (sym (links_in_row w n k.0 (block_not_hidden m n b) k.1 sides))
      (links_row_rises m (ports_from k.0 sides) (ports_across k.0 sides))

  pub block_links_seen : (v : SubportLink) → Member v (by_sides (λ d. side_links m d n) sides) → is_seen (seen m (link_port v)) ≡ true
  block_links_seen v i =
      let k = block_has_meta m n b in
      links_row_seen m (ports_from k.0 sides) (ports_across k.0 sides) v (subst (Member v) (links_in_row w n k.0 (block_not_hidden m n b) k.1 sides) i)

  pub block_subports_rise : Rising (Ahead subport_port subport_offset) (subports_of m n sides)
  block_subports_rise =
      let k = block_has_meta m n b in
      subst (Rising (Ahead subport_port subport_offset)) (sym (subports_in_row w n k.0 (block_not_hidden m n b) k.1 sides))
      (subports_row_rises m (ports_from k.0 sides) (ports_across k.0 sides))

  pub block_subports_seen : (s : SubportIndex) → Member s (subports_of m n sides) → is_seen (seen m (subport_port s)) ≡ true
  block_subports_seen s i =
      let k = block_has_meta m n b in
      subports_row_seen m (ports_from k.0 sides) (ports_across k.0 sides) s (subst (Member s) (subports_in_row w n k.0 (block_not_hidden m n b) k.1 sides) i)

  pub block_ports_rise : Rising ◌<◌ (ports_of_node m n sides)
  block_ports_rise =
      let k = block_has_meta m n b in
      subst (Rising ◌<◌) (sym (ports_in_row m n k.0 k.1 sides)) (range_rises (ports_from k.0 sides) (ports_across k.0 sides))

  pub block_ports_seen : (p : ℕ) → Member p (ports_of_node m n sides) → is_seen (seen m p) ≡ true
  unfolding ports_of_node
  block_ports_seen p i =
      let k = block_has_meta m n b in
      let g = by_sides_member (λ d. ports_of_side m d n) sides p i in
      let r = member_range p (ports_from k.0 (One g.0)) (ports_on k.0 g.0) (subst (Member p) (side_in_row m n k.0 k.1 g.0) g.1) in
      ap is_seen (port_seen_there w n k.0 (block_not_hidden m n b) k.1 g.0 p r.0 r.1)

-- Starts that are not refused are at blocks.

pub started_block : (m : MultiPortGraph) (n : ℕ) → start_at_node m n ≡ started → is_block m n ≡ true
unfolding start_at_node is_block
started_block m n = go (is_hidden m n) (contains_node m.graph n)
  where
    go : (h c : Bool) → cond c (cond h (refused HiddenNode) started) (refused UnknownNode) ≡ started → cond h false c ≡ true
    go true true e = absurd (zero_is_not_one (cc))
    go true false e = absurd (zero_is_not_one (cc))
    go false true e = refl
    go false false e = absurd (zero_is_not_one (cc))

pub started_blocks : (m : MultiPortGraph) (n k : ℕ) → start_between m n k ≡ started → (is_block m n ≡ true) × (is_block m k ≡ true)
unfolding start_between is_block
started_blocks m n k = go (is_hidden m n) (contains_node m.graph n) (contains_node m.graph k)
  where
    go : (h c d : Bool) → cond c (cond d (cond h (refused HiddenNode) (start_at_node m k)) (refused UnknownNode)) (refused UnknownNode) ≡ started → (cond h false c ≡ true) × (is_block m k ≡ true)
    go h false d e = absurd (zero_is_not_one (cc))
    go h true false e = absurd (zero_is_not_one (cc))
    go true true true e = absurd (zero_is_not_one (cc))
    go false true true e = (refl, started_block m k e)

-- Ports of a block.

abbrev node_ports_at : NodeIndex → Sides → ℕ → ℕ → NodePorts
node_ports_at n sides h o = record { node = n; sides = sides; held = h }

past_is_leb : (h o p : ℕ) → is_past (λ q. q) (λ q. 0) h o p ≡ leb h p
past_is_leb h o p = go (leb h p) refl
  where
    go : (b : Bool) → leb h p ≡ b → is_past (λ q. q) (λ q. 0) h o p ≡ b
    go true e = past_later (λ q. q) (λ q. 0) h o p (leb-true h p e)
    go false e =
        let l = leb-false h p e in
        let q : suc (h - 1) ≡ h = omega arith in
        let z : h - 1 ≡ p ⊎ p < h - 1 = last_or_less (eqb p (h - 1)) refl l in
        ap (λ (v : ℕ). is_past (λ q. q) (λ q. 0) v o p) (sym q) ∙ ⊎_elim (λ s. past_here (λ q. q) (λ q. 0) (h - 1) o p (sym s) ∙ le-ltb o 0 (omega arith)) (λ s. past_earlier (λ q. q) (λ q. 0) (h - 1) o p s) z
      where
        last_or_less : (c : Bool) → eqb p (h - 1) ≡ c → p < h → (h - 1 ≡ p) ⊎ (p < h - 1)
        last_or_less true e l = inl (sym (eqb-true p (h - 1) e))
        last_or_less false e l = let d = eqb-false p (h - 1) e in inr (omega arith)

-- Cursors by what they hold.

abbrev subports_cursor : NodeIndex → Sides → ℕ → ℕ → NodeSubports
subports_cursor n sides h o = record { node = n; sides = sides; held = record { port = h; offset = o } }

abbrev links_cursor : NodeIndex → Sides → ℕ → ℕ → ℕ → ℕ → NodeLinks
links_cursor n sides lo hi h o = record { node = n; sides = sides; skip = record { from = lo; to = hi }; held = record { port = h; offset = o } }

abbrev neighbours_cursor : NodeIndex → Sides → Bool → ℕ → ℕ → Neighbours
neighbours_cursor n sides flag h o = record { node = n; sides = sides; ignore_self = flag; held = record { port = h; offset = o } }

abbrev connections_cursor : NodeIndex → NodeIndex → ℕ → ℕ → NodeConnections
connections_cursor n k h o = record { node = n; target = k; held = record { port = h; offset = o } }

-- the block that a link leads to
abbrev pub neighbour_of : MultiPortGraph → SubportLink → ℕ
neighbour_of m w = owner_of m.graph w.to.port.0

ends_block : (m : MultiPortGraph) (n k h : ℕ) → both_ends m n k h ≡ true → is_block m n ≡ true
ends_block m n k h = go (is_block m k)
  where
    go : (b : Bool) → cond b (both_seen m n h) false ≡ true → is_block m n ≡ true
    go true e = both_block m n h e
    go false e = absurd (zero_is_not_one (cc))

ends_stay : (m : MultiPortGraph) (n k h p : ℕ) → both_ends m n k h ≡ true → is_seen (seen m p) ≡ true → both_ends m n k (suc p) ≡ true
ends_stay m n k h p e s = go (is_block m k) e
  where
    go : (b : Bool) → cond b (both_seen m n h) false ≡ true → cond b (both_seen m n (suc p)) false ≡ true
    go true e = both_stays m n h p e s
    go false e = absurd (zero_is_not_one (cc))

connections_step_is : (m : MultiPortGraph) (n k h : ℕ) (f : SubportLink → Option (SubportLink × NodeConnections)) (l : List SubportLink) →
    connections_given (cond (is_block m k) (cond (both_seen m n h) (on_first None f l) None) None)
    ≡ on_first end (λ v. connections_given (f v)) (cond (both_ends m n k h) l [])
unfolding on_first
connections_step_is m n k h f l = go (is_block m k)
  where
    go : (b : Bool) → connections_given (cond b (cond (both_seen m n h) (on_first None f l) None) None)
        ≡ on_first end (λ v. connections_given (f v)) (cond (cond b (both_seen m n h) false) l [])
    go true = first_if connections_given (both_seen m n h) None f l
    go false = refl

-- The walks of a graph of the calls: from any cursor, what it leaves, in order, and then the end.

module _ {m : MultiPortGraph} (w : MultiWf m) where
  node_ports_walk : (n : NodeIndex) (sides : Sides) → OneEnded (λ p. p) (λ p. 0) (ports_of_node m n.0 sides) (both_seen m n.0) (λ p. p) (node_ports_at n sides) (by_node_ports m)
  unfolding step_node_ports
  node_ports_walk n sides =
      record {
        rises = λ h t. rising_as ◌<◌ (Ahead (λ p. p) (λ p. 0)) (ports_of_node m n.0 sides) (λ x y i j l. inl l) (block_ports_rise w n.0 (both_block m n.0 h t) sides);
        stays = λ h t p i. both_stays m n.0 h p t (block_ports_seen w n.0 (both_block m n.0 h t) sides p i);
        is = λ h o.
            first_if node_ports_given (both_seen m n.0 h) None (λ p. Some (port# p, node_ports_at n sides (suc p) 0)) (filter (leb h) (ports_of_node m n.0 sides))
            ∙ ap (λ (v : List ℕ). on_first end (λ p. item p (node_ports_at n sides (suc p) 0)) (cond (both_seen m n.0 h) v []))
            (filter_same (leb h) (is_past (λ q. q) (λ q. 0) h o) (ports_of_node m n.0 sides) (λ p i. sym (past_is_leb h o p)));
      }

  pub node_ports_forward : (c : NodePorts) (fuel : ℕ) → length (node_ports_left m c) < fuel → walk (by_node_ports m) fuel c ≡ whole (node_ports_left m c)
  unfolding node_ports_left
  node_ports_forward c fuel h =
      let e : left_past (λ p. p) (λ p. 0) (ports_of_node m c.node.0 c.sides) (both_seen m c.node.0) c.held 0 ≡ node_ports_left m c =
      ap (λ (v : List ℕ). cond (both_seen m c.node.0 c.held) v [])
      (filter_same (is_past (λ q. q) (λ q. 0) c.held 0) (leb c.held) (ports_of_node m c.node.0 c.sides) (λ p i. past_is_leb c.held 0 p)) in
      one_front (node_ports_walk c.node c.sides) fuel c.held 0 (subst (λ (v : List ℕ). length v < fuel) (sym e) h)
      ∙ (ap whole (map-id (left_past (λ p. p) (λ p. 0) (ports_of_node m c.node.0 c.sides) (both_seen m c.node.0) c.held 0)) ∙ ap whole e)

  subports_walk : (n : NodeIndex) (sides : Sides) → OneEnded subport_port subport_offset (subports_of m n.0 sides) (both_seen m n.0) (λ s. s) (subports_cursor n sides) (by_subports m)
  unfolding step_subports subport_beyond
  subports_walk n sides =
      record {
        rises = λ h t. block_subports_rise w n.0 (both_block m n.0 h t) sides;
        stays = λ h t s i. both_stays m n.0 h (subport_port s) t (block_subports_seen w n.0 (both_block m n.0 h t) sides s i);
        is = λ h o.
            first_if subports_given (both_seen m n.0 h) None (λ s. Some (s, subports_cursor n sides (suc (subport_port s)) (subport_offset s)))
            (filter (subport_beyond h o) (subports_of m n.0 sides));
      }

  pub subports_forward : (c : NodeSubports) (fuel : ℕ) → length (subports_left m c) < fuel → walk (by_subports m) fuel c ≡ whole (subports_left m c)
  unfolding subports_left subport_beyond
  subports_forward c fuel h = one_front (subports_walk c.node c.sides) fuel c.held.port c.held.offset h ∙ ap whole (map-id (subports_left m c))

  -- links of a block, under any test
  link_walk : {B C : Type 0} (n : ℕ) (sides : Sides) (t : SubportLink → Bool) (held : ℕ → Bool) (out : SubportLink → B) (cursor : ℕ → ℕ → C) (step : C → Stepped B C) →
      ((h : ℕ) → held h ≡ true → is_block m n ≡ true) → ((h p : ℕ) → held h ≡ true → is_seen (seen m p) ≡ true → held (suc p) ≡ true) →
      ((h o : ℕ) → step (cursor h o) ≡ on_first end (λ v. item (out v) (cursor (suc (link_port v)) (link_offset v))) (cond (held h) (filter (link_beyond h o) (filter t (by_sides (λ d. side_links m d n) sides))) [])) →
      OneEnded link_port link_offset (filter t (by_sides (λ d. side_links m d n) sides)) held out cursor step
  unfolding is_beyond
  link_walk n sides t held out cursor step block on is =
      record {
        rises = λ h q. rising_filter (Ahead link_port link_offset) t (by_sides (λ d. side_links m d n) sides) (block_links_rise w n (block h q) sides);
        stays = λ h q v i. on h (link_port v) q (block_links_seen w n (block h q) sides v (member_filter t v (by_sides (λ d. side_links m d n) sides) i).0);
        is = is;
      }

  node_links_walk : (n : NodeIndex) (sides : Sides) (lo hi : ℕ) → OneEnded link_port link_offset (node_links m n.0 sides lo hi) (both_seen m n.0) (λ v. v) (links_cursor n sides lo hi) (by_links m)
  unfolding step_links node_links
  node_links_walk n sides lo hi =
      link_walk n.0 sides (not_skipped lo hi) (both_seen m n.0) (λ v. v) (links_cursor n sides lo hi) (by_links m) (both_block m n.0) (both_stays m n.0)
      (λ h o. first_if links_given (both_seen m n.0 h) None (links_item (links_cursor n sides lo hi h o)) (filter (link_beyond h o) (node_links m n.0 sides lo hi)))

  pub node_links_forward : (c : NodeLinks) (fuel : ℕ) → length (node_links_left m c) < fuel → walk (by_links m) fuel c ≡ whole (node_links_left m c)
  unfolding node_links_left is_beyond
  node_links_forward c fuel h =
      one_front (node_links_walk c.node c.sides c.skip.from c.skip.to) fuel c.held.port c.held.offset h ∙ ap whole (map-id (node_links_left m c))

  neighbours_walk : (n : NodeIndex) (sides : Sides) (flag : Bool) → OneEnded link_port link_offset (neighbour_links m n.0 sides flag) (both_seen m n.0) (neighbour_of m) (neighbours_cursor n sides flag) (by_neighbours m)
  unfolding step_neighbours neighbour_links
  neighbours_walk n sides flag =
      link_walk n.0 sides (not_ignored m n.0 flag) (both_seen m n.0) (neighbour_of m) (neighbours_cursor n sides flag) (by_neighbours m) (both_block m n.0) (both_stays m n.0)
      (λ h o. first_if neighbours_given (both_seen m n.0 h) None (neighbours_item m (neighbours_cursor n sides flag h o)) (filter (link_beyond h o) (neighbour_links m n.0 sides flag)))

  pub neighbours_forward : (c : Neighbours) (fuel : ℕ) → length (neighbours_left m c) < fuel → walk (by_neighbours m) fuel c ≡ whole (map (neighbour_of m) (neighbours_left m c))
  unfolding neighbours_left is_beyond
  neighbours_forward c fuel h = one_front (neighbours_walk c.node c.sides c.ignore_self) fuel c.held.port c.held.offset h

  connections_walk : (n k : NodeIndex) → OneEnded link_port link_offset (connections m n.0 k.0) (both_ends m n.0 k.0) (λ v. v) (connections_cursor n k) (by_connections m)
  unfolding step_connections connections
  connections_walk n k =
      link_walk n.0 (One Outgoing) (λ (v : SubportLink). eqb (owner_of m.graph v.to.port.0) k.0) (both_ends m n.0 k.0) (λ v. v) (connections_cursor n k) (by_connections m)
      (ends_block m n.0 k.0) (ends_stay m n.0 k.0)
      (λ h o. connections_step_is m n.0 k.0 h (connections_item (connections_cursor n k h o)) (filter (link_beyond h o) (connections m n.0 k.0)))

  pub connections_forward : (c : NodeConnections) (fuel : ℕ) → length (connections_left m c) < fuel → walk (by_connections m) fuel c ≡ whole (connections_left m c)
  unfolding connections_left is_beyond
  connections_forward c fuel h = one_front (connections_walk c.node c.target) fuel c.held.port c.held.offset h ∙ ap whole (map-id (connections_left m c))

-- A start that is not refused leaves the whole listing.

module _ (m : MultiPortGraph) (n : NodeIndex) (sides : Sides) where
  pub node_ports_at_start : (c : NodePorts) → start_node_ports m n sides ≡ Ok c → node_ports_left m c ≡ ports_of_node m n.0 sides
  unfolding node_ports_left
  node_ports_at_start c e =
      let k = start_gives (node_ports_from n sides) (node_ports_at n sides 0 0) refl (λ r. refl) (start_at_node m n.0) c e in
      ap (node_ports_left m) (sym k.1) ∙ rw (started_block m n.0 k.0) (filter_all (leb 0) (ports_of_node m n.0 sides) (λ p i. le-leb 0 p (omega arith)))

  pub subports_at_start : (c : NodeSubports) → start_subports m n sides ≡ Ok c → subports_left m c ≡ subports_of m n.0 sides
  unfolding subports_left subport_beyond
  subports_at_start c e =
      let k = start_gives (subports_from n sides) (subports_cursor n sides 0 0) refl (λ r. refl) (start_at_node m n.0) c e in
      ap (subports_left m) (sym k.1) ∙ rw (started_block m n.0 k.0) (filter_all (subport_beyond 0 0) (subports_of m n.0 sides) (λ s i. refl))

  pub node_links_at_start : (lo hi : ℕ) (c : NodeLinks) → start_links m n sides lo hi ≡ Ok c → node_links_left m c ≡ node_links m n.0 sides lo hi
  unfolding node_links_left
  node_links_at_start lo hi c e =
      let k = start_gives (links_from n sides lo hi) (links_cursor n sides lo hi 0 0) refl (λ r. refl) (start_at_node m n.0) c e in
      ap (node_links_left m) (sym k.1) ∙ rw (started_block m n.0 k.0) (filter_all (link_beyond 0 0) (node_links m n.0 sides lo hi) (λ v i. refl))

  pub neighbours_at_start : (flag : Bool) (c : Neighbours) → start_neighbours m n sides flag ≡ Ok c → neighbours_left m c ≡ neighbour_links m n.0 sides flag
  unfolding neighbours_left
  neighbours_at_start flag c e =
      let k = start_gives (neighbours_from n sides flag) (neighbours_cursor n sides flag 0 0) refl (λ r. refl) (start_at_node m n.0) c e in
      ap (neighbours_left m) (sym k.1) ∙ rw (started_block m n.0 k.0) (filter_all (link_beyond 0 0) (neighbour_links m n.0 sides flag) (λ v i. refl))

pub connections_at_start : (m : MultiPortGraph) (n k : NodeIndex) (c : NodeConnections) → start_connections m n k ≡ Ok c →
    connections_left m c ≡ connections m n.0 k.0
unfolding connections_left
connections_at_start m n k c e =
    let s = start_gives (connections_from n k) (connections_cursor n k 0 0) refl (λ r. refl) (start_between m n.0 k.0) c e in
    let b = started_blocks m n.0 k.0 s.0 in
    ap (connections_left m) (sym s.1) ∙ rw (b.0, b.1) (filter_all (link_beyond 0 0) (connections m n.0 k.0) (λ v i. refl))

-- So from its start each walk gives its listing, whole and in order, and then the end.

module _ {m : MultiPortGraph} (w : MultiWf m) (n : NodeIndex) (sides : Sides) (fuel : ℕ) where
  pub node_ports_whole : (c : NodePorts) → start_node_ports m n sides ≡ Ok c → length (ports_of_node m n.0 sides) < fuel →
      walk (by_node_ports m) fuel c ≡ whole (ports_of_node m n.0 sides)
  node_ports_whole c e h = let q = node_ports_at_start m n sides c e in rw q at (node_ports_forward w c fuel (rw q h))

  pub subports_whole : (c : NodeSubports) → start_subports m n sides ≡ Ok c → length (subports_of m n.0 sides) < fuel →
      walk (by_subports m) fuel c ≡ whole (subports_of m n.0 sides)
  subports_whole c e h = let q = subports_at_start m n sides c e in rw q at (subports_forward w c fuel (rw q h))

  pub node_links_whole : (lo hi : ℕ) (c : NodeLinks) → start_links m n sides lo hi ≡ Ok c → length (node_links m n.0 sides lo hi) < fuel →
      walk (by_links m) fuel c ≡ whole (node_links m n.0 sides lo hi)
  node_links_whole lo hi c e h = let q = node_links_at_start m n sides lo hi c e in rw q at (node_links_forward w c fuel (rw q h))

  pub neighbours_whole : (flag : Bool) (c : Neighbours) → start_neighbours m n sides flag ≡ Ok c → length (neighbours m n.0 sides flag) < fuel →
      walk (by_neighbours m) fuel c ≡ whole (neighbours m n.0 sides flag)
  unfolding neighbours
  neighbours_whole flag c e h =
      let q = neighbours_at_start m n sides flag c e in
      let s = length-map (neighbour_links m n.0 sides flag) (neighbour_of m) in
      rw q at (neighbours_forward w c fuel (rw q (omega arith)))

pub connections_whole : {m : MultiPortGraph} → MultiWf m → (n k : NodeIndex) (fuel : ℕ) (c : NodeConnections) → start_connections m n k ≡ Ok c →
    length (connections m n.0 k.0) < fuel → walk (by_connections m) fuel c ≡ whole (connections m n.0 k.0)
connections_whole {m} w n k fuel c e h = let q = connections_at_start m n k c e in rw q at (connections_forward w c fuel (rw q h))
