-- What the code of a step finds: a search over consecutive slots stops at the first port of the listing beyond the port held.
use Rattle.port_tables.specs.Listing.{filter_all, member_range, member_filter}
use Rattle.std.specs.Prelude.{◌≡◌, Bool, List, ◌∷◌, Option, Some, None, get_or}
use Rattle.std.proofs.Math.Path.{refl, ap}
use Rattle.std.proofs.Common.{sym, ◌∙◌, arith, add-one}
use Rattle.std.proofs.Math.Bool.{true, false, cond}
use Prim.Native.Nat.{ℕ, zero, suc, ◌+◌, ◌-◌, ◌≤◌, ◌<◌, max}
use Rattle.std.proofs.Math.Dec.{leb, ltb}
use borrow.Author.Tests.{lt-ltb, le-ltb, le-leb, leb-true, leb-false, ltb-true, ltb-false}
use Rattle.port_tables.specs.Limits.{node_slots, port_slots}
use Rattle.port_tables.specs.Lists.{range, on_first}
use Rattle.std.specs.List.{filter}
use Rattle.port_tables.specs.Entries.{is_node, fresh_slot, node#, port#, ports_from, ports_to}
use Rattle.port_tables.specs.ResizeLinks.{BlockFits}
use Rattle.port_tables.specs.Searches.{Searched, Ran, turn, Tells, found_by}
use denote.Ref.{Bor}
use denote.Param.Members.{Mut}
use Rattle.portgraph.specs.Model.{Wf}
use Rattle.portgraph.specs.Lookups.{meta_at}
use Rattle.portgraph.specs.LookupSteps.{found_block_fits}
use Rattle.portgraph.specs.Walks.{node_from, node_held, step_nodes, port_held, ports_item, ports_beyond, step_ports, ports_of_node}
use Rattle.portgraph.specs.LinkWalks.{beyond, is_port_in, held_in, ports_in, own_from, own_to, own_ports, all_ports, all_ports_item, step_all_ports, first_where, before, node_left, ports_left}
use Rattle.port_tables.specs.declared.direction.Direction.TheVariants.{Incoming, Outgoing}
use Rattle.port_tables.specs.declared.node_entry.NodeMeta.{NodeMeta}
use Rattle.portgraph.specs.declared.portgraph.PortGraph.{PortGraph}
use Rattle.port_tables.specs.declared.sides.Sides.{Sides}
use Rattle.port_tables.specs.declared.sides.Sides.TheVariants.{One, Both}
use Rattle.std.specs.declared.ops.Range.{Range}
use Rattle.port_tables.specs.declared.index.PortRange.{PortRange}
use Rattle.portgraph.specs.declared.iter.NodePorts.{NodePorts}
use Rattle.portgraph.specs.declared.iter.Nodes.{Nodes}
use Rattle.port_tables.specs.declared.index.NodeIndex.{NodeIndex}
use Rattle.port_tables.specs.declared.node_entry.NodeSlot.{NodeSlot}
use Rattle.portgraph.specs.declared.link_iter.Ports.{Ports}

-- A search of a range by `find`.

-- none of the numbers of a range is one that is searched
abbrev Passed : (ℕ → Bool) → ℕ → ℕ → Type 0
Passed f p end = (k : ℕ) → p ≤ k → k < end → f k ≡ false

where_none : (f : ℕ → Bool) (p n : ℕ) → Passed f p (p + n) → first_where f p n ≡ p + n
unfolding first_where
where_none f p zero h = omega arith
where_none f p (suc n) h =
    let e = where_none f (suc p) n (λ k a b. h k (omega arith) (omega arith)) in
    rw (h p (omega arith) (omega arith)) (omega arith)

where_some : (f : ℕ → Bool) (p n d : ℕ) → d < n → f (p + d) ≡ true → Passed f p (p + d) → first_where f p n ≡ p + d
unfolding first_where
where_some f p zero d b e h = absurd (omega arith)
where_some f p (suc n) zero b e h = let z : p + 0 ≡ p = omega arith in rw (z, rw z at e) refl
where_some f p (suc n) (suc d) b e h =
    let s : p + suc d ≡ suc p + d = omega arith in
    rw (h p (omega arith) (omega arith), s) (where_some f (suc p) n d (omega arith) (rw s at e) (λ k a g. h k (omega arith) (omega arith)))

where_found : (f : ℕ → Bool) (from end : ℕ) (r : Option ℕ) → Searched f from end r → r ≡ before end (first_where f from (end - from))
unfolding before
where_found f from end None h =
    let e = where_none f from (end - from) (λ k a b. go k a b) in
    let l : end ≤ first_where f from (end - from) = omega arith in
    rw (le-ltb (first_where f from (end - from)) end l) refl
  where
    go : (k : ℕ) → from ≤ k → k < from + (end - from) → f k ≡ false
    go k a b = h k a (omega arith)
where_found f from end (Some i) (low, high, hit, passed) =
    let s : from + (i - from) ≡ i = omega arith in
    let e : first_where f from (end - from) ≡ from + (i - from) = where_some f from (end - from) (i - from) (omega arith) (rw s hit) (rw s passed) in
    rw (e, s, lt-ltb i end high) refl

-- what `find` gives, where its closure answers a test
pub found_where : {F : Type 0} {g : Mut F (Bor ℕ × Unit {0}) Bool} {s : Range ℕ} {h : F} (f : ℕ → Bool) (u : Range ℕ) (r : Option ℕ) → Ran turn g s h u r → Tells g h f → r ≡ before s.end (first_where f s.start (s.end - s.start))
found_where f u r ran told = where_found f _ _ r (found_by f u r ran told)

-- a walk over the nodes is a search too
abbrev pub node_hit : List NodeSlot → ℕ → Bool
node_hit nodes k = is_node (get_or nodes k fresh_slot).entry

abbrev pub node_item : Option ℕ → Option (NodeIndex × Nodes)
node_item None = None
node_item (Some n) = Some (node# n, record { held = suc n })

nodes_by_search : (nodes : List NodeSlot) (p n : ℕ) → node_from nodes p n ≡ node_item (before (p + n) (first_where (node_hit nodes) p n))
unfolding node_from first_where before
nodes_by_search nodes p zero = rw (le-ltb p (p + 0) (omega arith)) refl
nodes_by_search nodes p (suc n) = go (node_hit nodes p) (nodes_by_search nodes (suc p) n)
  where
    go : (b : Bool) → node_from nodes (suc p) n ≡ node_item (before (suc p + n) (first_where (node_hit nodes) (suc p) n)) → cond b (Some (node# p, record { held = suc p })) (node_from nodes (suc p) n) ≡ node_item (before (p + suc n) (cond b p (first_where (node_hit nodes) (suc p) n)))
    go true h = rw (lt-ltb p (p + suc n) (omega arith)) refl
    go false h = let s : p + suc n ≡ suc p + n = omega arith in rw s h

pub nodes_given : (g : PortGraph) (held : ℕ) (r : Option ℕ) → node_held g held ≡ true → r ≡ before node_slots (first_where (node_hit g.node_meta) held (node_slots - held)) → node_item r ≡ step_nodes g held
unfolding step_nodes node_from first_where before
nodes_given g held r h e = rw (h, e) (go (node_slots - held) refl)
  where
    go : (k : ℕ) → node_slots - held ≡ k → node_item (before node_slots (first_where (node_hit g.node_meta) held k)) ≡ node_from g.node_meta held k
    go zero z = rw (le-ltb held node_slots (omega arith)) refl
    go (suc k) z = let s : held + suc k ≡ node_slots = omega arith in rw (← s) (sym (nodes_by_search g.node_meta held (suc k)))

-- what a search says that stopped, and that did not
pub stopped : (end q p : ℕ) → before end q ≡ Some p → (p ≡ q) × (p < end)
unfolding before
stopped end q p h = go (ltb q end) refl h
  where
    go : (b : Bool) → ltb q end ≡ b → cond b (Some q) None ≡ Some p → (p ≡ q) × (p < end)
    go true t e = let same : p ≡ q = cc in (same, omega (arith, ltb-true q end t))
    go false t e = absurd cc

pub not_stopped : (end q : ℕ) → before end q ≡ None → end ≤ q
unfolding before
not_stopped end q h = go (ltb q end) refl h
  where
    go : (b : Bool) → ltb q end ≡ b → cond b (Some q) None ≡ None → end ≤ q
    go true t e = absurd cc
    go false t e = ltb-false q end t

-- A search against the listing.

first_of_filter {ℓ} : {A : Type ℓ} (end : A) (item : ℕ → A) (f : ℕ → Bool) (p k n : ℕ) → n ≡ p + k
    → on_first end item (filter f (range p k)) ≡ cond (ltb (first_where f p k) n) (item (first_where f p k)) end
unfolding on_first range first_where
first_of_filter end item f p zero n e = rw (le-ltb p n (omega arith))
first_of_filter end item f p (suc k) n e = go (f p) (first_of_filter end item f (suc p) k n (omega arith))
  where
    go : (b : Bool) → on_first end item (filter f (range (suc p) k)) ≡ cond (ltb (first_where f (suc p) k) n) (item (first_where f (suc p) k)) end
        → on_first end item (cond b (p ∷ filter f (range (suc p) k)) (filter f (range (suc p) k)))
        ≡ cond (ltb (cond b p (first_where f (suc p) k)) n) (item (cond b p (first_where f (suc p) k))) end
    go true h = rw (lt-ltb p n (omega arith))
    go false h = h

-- what lies beyond the port held is the listing from there on
pub all_beyond : (f : ℕ → Bool) (held p k : ℕ) → held ≤ p → filter (leb held) (filter f (range p k)) ≡ filter f (range p k)
all_beyond f held p k l =
    filter_all (leb held) (filter f (range p k)) (λ x i. le-leb held x (let r = member_range x p k (member_filter f x (range p k) i).0 in omega arith))

pub filter_beyond : (f : ℕ → Bool) (held p k : ℕ) → filter (leb held) (filter f (range p k)) ≡ filter f (range (max p held) (p + k - max p held))
unfolding range
filter_beyond f held p zero = ends (p + 0 - max p held) (omega arith)
  where
    ends : (j : ℕ) → j ≡ 0 → filter (leb held) (filter f (range p zero)) ≡ filter f (range (max p held) j)
    ends j e = rw e
filter_beyond f held p (suc k) = go (leb held p) refl (filter_beyond f held (suc p) k)
  where
    passed : leb held p ≡ false → filter (leb held) (filter f (range p (suc k))) ≡ filter (leb held) (filter f (range (suc p) k))
    passed e = by (f p)
      where
        by : (b : Bool) → filter (leb held) (cond b (p ∷ filter f (range (suc p) k)) (filter f (range (suc p) k))) ≡ filter (leb held) (filter f (range (suc p) k))
        by true = rw e
        by false = refl

    same : (a b i j : ℕ) → a ≡ b → i ≡ j → filter f (range a i) ≡ filter f (range b j)
    same a b i j d e = rw (d, e)

    go : (b : Bool) → leb held p ≡ b → filter (leb held) (filter f (range (suc p) k)) ≡ filter f (range (max (suc p) held) (suc p + k - max (suc p) held))
        → filter (leb held) (filter f (range p (suc k))) ≡ filter f (range (max p held) (p + suc k - max p held))
    go true e h =
        let l : held ≤ p = leb-true _ _ e in
        all_beyond f held p (suc k) l ∙ same p (max p held) (suc k) (p + suc k - max p held) (omega arith) (omega arith)
    go false e h =
        let l : p < held = leb-false _ _ e in
        passed e ∙ (h ∙ same (max (suc p) held) (max p held) (suc p + k - max (suc p) held) (p + suc k - max p held) (omega arith) (omega arith))

-- nothing is left past the end
past {ℓ} : {A : Type ℓ} (end : A) (item : ℕ → A) (f : ℕ → Bool) (p k n : ℕ) → k ≡ 0 → n ≤ p
    → on_first end item (filter f (range p k)) ≡ cond (ltb (first_where f p k) n) (item (first_where f p k)) end
unfolding on_first range first_where
past end item f p k n e l = rw e (rw (le-ltb p n l))

module _ {ℓ} {A : Type ℓ} (end : A) (item : ℕ → A) (f : ℕ → Bool) where
  found_in_node : (m : NodeMeta) (sides : Sides) (held p : ℕ) → ports_from m sides ≤ ports_to m sides → p ≡ max (ports_from m sides) held
      → on_first end item (filter (leb held) (filter f (ports_of_node m sides))) ≡ cond (ltb (first_where f p (ports_to m sides - p)) (ports_to m sides)) (item (first_where f p (ports_to m sides - p))) end
  found_in_node m sides held p l e = ap (on_first end item) (filter_beyond f held (ports_from m sides) (ports_to m sides - ports_from m sides)) ∙ go (max (ports_from m sides) held) (ports_from m sides + (ports_to m sides - ports_from m sides) - max (ports_from m sides) held) (sym e) (omega arith)
    where
      there : (k : ℕ) → k ≡ ports_to m sides - p → on_first end item (filter f (range p k)) ≡ cond (ltb (first_where f p k) (ports_to m sides)) (item (first_where f p k)) end
      there k h = by (leb p (ports_to m sides)) refl
        where
          by : (b : Bool) → leb p (ports_to m sides) ≡ b → on_first end item (filter f (range p k)) ≡ cond (ltb (first_where f p k) (ports_to m sides)) (item (first_where f p k)) end
          by true t = let a : p ≤ ports_to m sides = leb-true _ _ t in first_of_filter end item f p k (ports_to m sides) (omega arith)
          by false t = let a : ports_to m sides < p = leb-false _ _ t in past end item f p k (ports_to m sides) (omega arith) (omega arith)

      go : (q k : ℕ) → q ≡ p → k ≡ ports_to m sides - p → on_first end item (filter f (range q k)) ≡ cond (ltb (first_where f p (ports_to m sides - p)) (ports_to m sides)) (item (first_where f p (ports_to m sides - p))) end
      go q k a b = rw (a, b) (there (ports_to m sides - p) refl)

pub no_node_no_step {ℓ} : {A : Type ℓ} (end : A) (item : ℕ → A) (f : ℕ → Bool) (there : Bool) (held : ℕ) (sides : Sides) (m : Option NodeMeta) → None ≡ m → end ≡ beyond there held end item (filter f (ports_in m sides))
unfolding beyond on_first
no_node_no_step end item f there held sides m e = rw (sym e) (go there)
  where
    go : (b : Bool) → end ≡ cond b end end
    go true = refl
    go false = refl

-- A step of a walk that stops at some ports of a node, by the node that is left and what the search of its ports finds.
module _ {A : Type 0} (item : ℕ → Option A) (f : ℕ → Bool) (g : PortGraph) (n : ℕ) (sides : Sides) (held : ℕ) {o : Option NodeMeta} (left : o ≡ node_left g.node_meta g.port_meta n held) where
  abbrev stepped : Option A
  stepped = beyond (held_in g.port_meta held) held None item (filter f (ports_in (meta_at g n) sides))

  pub step_gone : o ≡ None → None ≡ stepped
  unfolding node_left beyond on_first
  step_gone e = go (held_in g.port_meta held) (meta_at g n) (sym left ∙ e)
    where
      go : (b : Bool) (m : Option NodeMeta) → cond b m None ≡ None → None ≡ beyond b held None item (filter f (ports_in m sides))
      go true None h = refl
      go true (Some m) h = absurd cc
      go false m h = refl

  module _ (m : NodeMeta) {l : Range ℕ} {q : Option ℕ} (is : o ≡ Some m) (ports : l ≡ ports_left m sides held) (search : q ≡ before l.end (first_where f l.start (l.end - l.start))) where
    by_search : stepped ≡ cond (ltb (first_where f l.start (l.end - l.start)) l.end) (item (first_where f l.start (l.end - l.start))) None
    unfolding node_left ports_left beyond
    by_search = rw ports (go (held_in g.port_meta held) (meta_at g n) (sym left ∙ is))
      where
        ordered : (m : NodeMeta) (s : Sides) → ports_from m s ≤ ports_to m s
        ordered m (One Incoming) = omega arith
        ordered m (One Outgoing) = omega arith
        ordered m Both = omega arith

        here : NodeMeta → ℕ
        here k = first_where f (max (ports_from k sides) held) (ports_to k sides - max (ports_from k sides) held)

        go : (b : Bool) (k : Option NodeMeta) → cond b k None ≡ Some m → beyond b held None item (filter f (ports_in k sides)) ≡ cond (ltb (here m) (ports_to m sides)) (item (here m)) None
        go true None h = absurd cc
        go true (Some k) h =
            let same : k ≡ m = cc in
            found_in_node None item f k sides held (max (ports_from k sides) held) (ordered k sides) refl
            ∙ ap (λ (x : NodeMeta). cond (ltb (here x) (ports_to x sides)) (item (here x)) None) same
        go false k h = absurd cc

    pub step_over : q ≡ None → None ≡ stepped
    step_over e = rw (by_search, le-ltb (first_where f l.start (l.end - l.start)) l.end (not_stopped _ _ (sym search ∙ e)))

    pub step_given : (p : ℕ) → q ≡ Some p → item p ≡ stepped
    step_given p e =
        let at = stopped _ _ _ (sym search ∙ e) in
        let below : first_where f l.start (l.end - l.start) < l.end = omega (arith, at.0, at.1) in
        rw (by_search, lt-ltb (first_where f l.start (l.end - l.start)) l.end below) (ap item at.0)

-- the block of the node that is left lies within the tables
pub left_fits : (g : PortGraph) → Wf g → (n held : ℕ) (m : NodeMeta) → Some m ≡ node_left g.node_meta g.port_meta n held → BlockFits m
unfolding node_left
left_fits g wf n held m is = go (held_in g.port_meta held) (meta_at g n) refl (sym is)
  where
    go : (b : Bool) (k : Option NodeMeta) → meta_at g n ≡ k → cond b k None ≡ Some m → BlockFits m
    go true None z h = absurd cc
    go true (Some k) z h = found_block_fits g wf n m (cc)
    go false k z h = absurd cc

-- so do its own outgoing ports, which are those of the node
pub own_left : (g : PortGraph) (n held : ℕ) (flag : Bool) {o : Option NodeMeta} (m : NodeMeta) {s : PortRange} → o ≡ node_left g.node_meta g.port_meta n held → o ≡ Some m → s ≡ own_ports m flag →
    (s.from ≡ own_from flag (meta_at g n)) × (s.to ≡ own_to flag (meta_at g n))
unfolding node_left own_ports
own_left g n held flag m {s} left is own = go (held_in g.port_meta held) (meta_at g n) (sym left ∙ is)
  where
    go : (b : Bool) (k : Option NodeMeta) → cond b k None ≡ Some m → (s.from ≡ own_from flag k) × (s.to ≡ own_to flag k)
    go true None h = absurd cc
    go true (Some k) h = let same : m ≡ k = cc in (ap (λ (x : PortRange). x.from) own ∙ ap (λ x. own_from flag (Some x)) same, ap (λ (x : PortRange). x.to) own ∙ ap (λ x. own_to flag (Some x)) same)
    go false k h = absurd cc

-- the step of a walk over a node's ports
ports_stepped : (g : PortGraph) (c : NodePorts) {o : Option NodeMeta} → o ≡ node_left g.node_meta g.port_meta c.node.0 c.held → ports_beyond c.node.0 c.sides c.held o ≡ step_ports g c
unfolding node_left step_ports held_in is_port_in
ports_stepped g c left = ap (ports_beyond c.node.0 c.sides c.held) left ∙ go (port_held g c.held) (meta_at g c.node.0)
  where
    go : (b : Bool) (m : Option NodeMeta) → ports_beyond c.node.0 c.sides c.held (cond b m None) ≡ cond b (ports_beyond c.node.0 c.sides c.held m) None
    go true m = refl
    go false m = refl

pub port_gone : (g : PortGraph) (c : NodePorts) {o : Option NodeMeta} → o ≡ node_left g.node_meta g.port_meta c.node.0 c.held → o ≡ None → None ≡ step_ports g c
port_gone g c left is = ap (ports_beyond c.node.0 c.sides c.held) (sym is) ∙ ports_stepped g c left

module _ (g : PortGraph) (c : NodePorts) {o : Option NodeMeta} (m : NodeMeta) {l : Range ℕ} (left : o ≡ node_left g.node_meta g.port_meta c.node.0 c.held) (is : o ≡ Some m)
    (ports : l ≡ ports_left m c.sides c.held) where
  stepped_at : step_ports g c ≡ ports_item c.node.0 c.sides l.start l.end
  unfolding ports_left
  stepped_at = sym (ap (ports_beyond c.node.0 c.sides c.held) (sym is) ∙ ports_stepped g c left) ∙ rw ports refl

  pub port_over : l.end ≤ l.start → None ≡ step_ports g c
  port_over h = rw (stepped_at, le-ltb l.start l.end h)

  pub port_given : l.start < l.end → Some (port# l.start, record { node = c.node; sides = c.sides; held = l.start + 1 }) ≡ step_ports g c
  port_given h = rw (stepped_at, lt-ltb l.start l.end h, add-one)

-- the walk over all ports
pub ports_gone : (g : PortGraph) (c : Ports) (there : Bool) → there ≡ held_in g.port_meta c.held → there ≡ false → None ≡ step_all_ports g c
unfolding step_all_ports beyond
ports_gone g c there e h = rw (sym e, h)

module _ (g : PortGraph) (c : Ports) (there : Bool) (w r : ℕ) (held : there ≡ held_in g.port_meta c.held) (t : there ≡ true) (at_held : w ≡ c.held)
    (search : r ≡ first_where (is_port_in g.port_meta) w (port_slots - w)) where
  ports_by_search : step_all_ports g c ≡ cond (ltb r port_slots) (all_ports_item r) None
  unfolding step_all_ports all_ports beyond
  ports_by_search =
      rw (sym held, t, search, at_held)
      (ap (on_first None all_ports_item) (filter_beyond (is_port_in g.port_meta) c.held 0 port_slots) ∙ go (max 0 c.held) (0 + port_slots - max 0 c.held) (omega arith) (omega arith) (leb c.held port_slots) refl)
    where
      go : (p k : ℕ) → p ≡ c.held → k ≡ port_slots - c.held → (b : Bool) → leb c.held port_slots ≡ b
          → on_first None all_ports_item (filter (is_port_in g.port_meta) (range p k))
          ≡ cond (ltb (first_where (is_port_in g.port_meta) c.held (port_slots - c.held)) port_slots) (all_ports_item (first_where (is_port_in g.port_meta) c.held (port_slots - c.held))) None
      go p k a b true e = let i : c.held ≤ port_slots = leb-true _ _ e in rw (a, b) (first_of_filter _ _ _ _ _ port_slots (omega arith))
      go p k a b false e = let i : port_slots < c.held = leb-false _ _ e in rw (a, b) (past _ _ _ _ _ port_slots (omega arith) (omega arith))

  pub ports_given : r < port_slots → Some (port# r, record { held = r + 1 }) ≡ step_all_ports g c
  ports_given h = rw (ports_by_search, lt-ltb r port_slots h, add-one)

  pub ports_over : port_slots ≤ r → None ≡ step_all_ports g c
  ports_over h = rw (ports_by_search, le-ltb r port_slots h)
