-- Laws of the walks over links and over all ports: from its start a walk gives the whole listing, in order, and comes to its end.
-- Each item is a link of the model; a cursor whose node or port is gone ends the walk.
use Rattle.port_tables.specs.Listing.{range_member, filter_member, filter_none, member_filter, rising_once, rising_filter, range_rises}
use Rattle.std.proofs.Math.Path.{◌≡◌, refl, sym, ap}
use Rattle.std.proofs.Common.{◌∙◌, inl, inr}
use Rattle.std.specs.Prelude.{Bool, ◌⊎◌, ℕ, zero, suc, ◌+◌, ◌-◌, ◌≤◌, ◌<◌, max, eqb, leb, Option, Some, None}
use Rattle.std.proofs.Math.Bool.{true, false, cond}
use mathlib.Core.List.{List, [], ◌∷◌, map, map-id}
use native.Mathlib.Omega.{arith}
use Rattle.std.proofs.Math.Dec.{ltb}
use borrow.Author.Tests.{ne_eqb, eqb-true, ltb-true, ltb-false}
use Rattle.port_tables.specs.Limits.{port_slots, node_ports}
use Rattle.port_tables.specs.Lists.{Member, Once, range, on_first}
use Rattle.std.specs.List.{filter}
use Rattle.port_tables.specs.Entries.{port_entry, node#, port#, node_of, node_number, ports_from, ports_to}
use Rattle.port_tables.specs.Tables.{at, far_in, owner_in}
use Rattle.portgraph.specs.Model.{Model, Good, Holds, to, Slots, gone, live, Valid, slot_of, far_number, count_of, side_start, InnerPlace}
use Rattle.portgraph.specs.Lookups.{meta_at, port_at, is_some, contains_node, is_port, contains_port}
use Rattle.portgraph.specs.PlaceLaws.{meta_of_place, meta_of_node, port_of_place, slot_cases}
use Rattle.portgraph.specs.WalkLaws.{ports_few, ports_alive, ports_within}
use Rattle.portgraph.specs.LinkWalks.{beyond, is_port_in, held_in, link_kept, is_node_of, is_of, link_to, ports_in, link_at, node_links, links_item, step_links, own_from, own_to, neighbour_at, neighbours, neighbours_item, step_neighbours, connections, connections_item, step_connections, all_ports, all_ports_item, step_all_ports}
use Rattle.port_tables.specs.TableSteps.{at_outside}
use Rattle.portgraph.specs.LinkWalkSteps.{filter_beyond, all_beyond, no_node_no_step}
use Rattle.port_tables.specs.declared.direction.Direction.{Direction}
use Rattle.port_tables.specs.declared.direction.Direction.TheVariants.{Incoming, Outgoing}
use Rattle.port_tables.specs.declared.index.NodeIndex.{NodeIndex}
use Rattle.port_tables.specs.declared.port_entry.PortMeta.{PortMeta}
use Rattle.port_tables.specs.declared.port_entry.PortEntry.TheVariants as port_variants
use Rattle.port_tables.specs.declared.node_entry.NodeMeta.{NodeMeta}
use Rattle.portgraph.specs.declared.portgraph.PortGraph.{PortGraph}
use Rattle.port_tables.specs.declared.sides.Sides.{Sides}
use Rattle.port_tables.specs.declared.sides.Sides.TheVariants.{One}
use Rattle.portgraph.specs.declared.link_iter.Link.{Link}
use Rattle.portgraph.specs.declared.link_iter.NodeLinks.{NodeLinks}
use Rattle.portgraph.specs.declared.link_iter.Neighbours.{Neighbours}
use Rattle.portgraph.specs.declared.link_iter.NodeConnections.{NodeConnections}
use Rattle.portgraph.specs.declared.link_iter.Ports.{Ports}
use Rattle.port_tables.specs.declared.index.PortIndex.{PortIndex}
use Rattle.portgraph.specs.Walks.{Walked, whole, unfinished, more, ports_of_node}

-- Any walk that stops at some of consecutive slots.

-- the next slot of the listing heads what is left of it
record Next (f : ℕ → Bool) (p k m : ℕ) : Type 0 where
  pub listed : filter f (range p k) ≡ m ∷ filter f (range (suc m) (p + k - suc m))
  pub after : p ≤ m
  pub before : m < p + k
  pub holds : f m ≡ true

next_or_none : (f : ℕ → Bool) (p k : ℕ) → ((m : ℕ) × Next f p k m) ⊎ (filter f (range p k) ≡ [])
unfolding range
next_or_none f p zero = inr refl
next_or_none f p (suc k) = go (f p) refl (next_or_none f (suc p) k)
  where
    same : (n i j : ℕ) → i ≡ j → filter f (range n i) ≡ filter f (range n j)
    same n i j e = ap (λ r. filter f (range n r)) e

    passed : f p ≡ false → filter f (range p (suc k)) ≡ filter f (range (suc p) k)
    passed e = rw e

    here : f p ≡ true → filter f (range p (suc k)) ≡ p ∷ filter f (range (suc p) k)
    here e = rw e

    go : (b : Bool) → f p ≡ b → ((m : ℕ) × Next f (suc p) k m) ⊎ (filter f (range (suc p) k) ≡ []) → ((m : ℕ) × Next f p (suc k) m) ⊎ (filter f (range p (suc k)) ≡ [])
    go true e x = inl (p, record { listed = here e ∙ ap (λ r. p ∷ r) (same (suc p) k (p + suc k - suc p) (omega arith)); after = omega arith; before = omega arith; holds = e })
    go false e (inl x) =
        let m = x.0 in
        let a : suc p ≤ m = x.1.after in
        let b : m < suc p + k = x.1.before in
        inl (m, record { listed = passed e ∙ (x.1.listed ∙ ap (λ r. m ∷ r) (same (suc m) (suc p + k - suc m) (p + suc k - suc m) (omega arith))); after = omega arith; before = omega arith; holds = x.1.holds })
    go false e (inr x) = inr (passed e ∙ x)

first_there {ℓ κ} : {A : Type ℓ} {B : Type κ} (end : B) (g : A → B) (l : List A) (x : A) (r : List A) → l ≡ x ∷ r → on_first end g l ≡ g x
unfolding on_first
first_there end g l x r e = rw e

first_none {ℓ κ} : {A : Type ℓ} {B : Type κ} (end : B) (g : A → B) (l : List A) → l ≡ [] → on_first end g l ≡ end
unfolding on_first
first_none end g l e = rw e

map_there : {A : Type 0} (f : ℕ → A) (l : List ℕ) (x : ℕ) (r : List ℕ) → l ≡ x ∷ r → f x ∷ map f r ≡ map f l
map_there f l x r e = rw e

map_none : {A : Type 0} (f : ℕ → A) (l : List ℕ) → l ≡ [] → [] ≡ map f l
map_none f l e = rw e

step_there {ℓ} : {A : Type ℓ} (there : Bool) (held : ℕ) (end : A) (item : ℕ → A) (l : List ℕ) → there ≡ true → beyond there held end item l ≡ on_first end item (filter (leb held) l)
unfolding beyond
step_there there held end item l e = rw e

step_gone {ℓ} : {A : Type ℓ} (there : Bool) (held : ℕ) (end : A) (item : ℕ → A) (l : List ℕ) → there ≡ false → beyond there held end item l ≡ end
unfolding beyond
step_gone there held end item l e = rw e

nothing_beyond {ℓ} : {A : Type ℓ} (there : Bool) (held : ℕ) (end : A) (item : ℕ → A) → end ≡ beyond there held end item []
unfolding beyond on_first
nothing_beyond true held end item = refl
nothing_beyond false held end item = refl

-- what follows a step is what follows its item, or its end
step_then {ℓ κ} : {A : Type ℓ} {B : Type κ} (f : A → B) (there : Bool) (held : ℕ) (end : A) (item : ℕ → A) (l : List ℕ) → f (beyond there held end item l) ≡ beyond there held (f end) (λ p. f (item p)) l
unfolding beyond on_first
step_then f true held end item l = go (filter (leb held) l)
  where
    go : (r : List ℕ) → f (on_first end item r) ≡ on_first (f end) (λ p. f (item p)) r
    go [] = refl
    go (x ∷ r) = refl
step_then f false held end item l = refl

module _ {A : Type 0} (item : ℕ → A) (f : ℕ → Bool) (there : ℕ → Bool) (first count : ℕ) (walk : ℕ → ℕ → Walked A)
    (on : (fuel held : ℕ) → walk (suc fuel) held ≡ beyond (there held) held (whole []) (λ p. more (item p) (walk fuel (suc p))) (filter f (range first count)))
    (alive : (p : ℕ) → first ≤ p → p < first + count → f p ≡ true → there (suc p) ≡ true) where
  -- from any position that is still there the rest of the listing, and then the end
  rest_walked : (fuel held : ℕ) → first + count - max first held < fuel → there held ≡ true → walk fuel held ≡ whole (map item (filter (leb held) (filter f (range first count))))
  rest_walked zero held l h = absurd (omega arith)
  rest_walked (suc fuel) held l h = go (rest_walked fuel) (next_or_none f (max first held) (first + count - max first held))
    where
      left : filter (leb held) (filter f (range first count)) ≡ filter f (range (max first held) (first + count - max first held))
      left = filter_beyond f held first count

      stepped : walk (suc fuel) held ≡ on_first (whole []) (λ p. more (item p) (walk fuel (suc p))) (filter (leb held) (filter f (range first count)))
      stepped = on fuel held ∙ step_there (there held) held _ _ _ h

      same : (a b i j : ℕ) → a ≡ b → i ≡ j → filter f (range a i) ≡ filter f (range b j)
      same a b i j d e = rw (d, e)

      go : ((h : ℕ) → first + count - max first h < fuel → there h ≡ true → walk fuel h ≡ whole (map item (filter (leb h) (filter f (range first count)))))
          → ((m : ℕ) × Next f (max first held) (first + count - max first held) m) ⊎ (filter f (range (max first held) (first + count - max first held)) ≡ [])
          → walk (suc fuel) held ≡ whole (map item (filter (leb held) (filter f (range first count))))
      go ih (inl x) =
          let m = x.0 in
          let a : max first held ≤ m = x.1.after in
          let b : m < max first held + (first + count - max first held) = x.1.before in
          let ends : filter (leb (suc m)) (filter f (range first count)) ≡ filter f (range (suc m) (max first held + (first + count - max first held) - suc m)) =
          filter_beyond f (suc m) first count ∙ same (max first (suc m)) (suc m) (first + count - max first (suc m)) (max first held + (first + count - max first held) - suc m) (omega arith) (omega arith) in
          stepped ∙
          (first_there (whole []) (λ p. more (item p) (walk fuel (suc p))) _ m _ (left ∙ x.1.listed) ∙
          (ap (more (item m)) (ih (suc m) (omega arith) (alive m (omega arith) (omega arith) x.1.holds) ∙ ap (λ r. whole (map item r)) ends) ∙
          ap whole (map_there item _ m _ (left ∙ x.1.listed))))
      go ih (inr x) =
          stepped ∙ (first_none (whole []) (λ p. more (item p) (walk fuel (suc p))) _ (left ∙ x) ∙ ap whole (map_none item _ (left ∙ x)))

  -- from the start the whole listing, and then the end
  all_walked : (fuel : ℕ) → count < fuel → there 0 ≡ true → walk fuel 0 ≡ whole (map item (filter f (range first count)))
  all_walked fuel l h = rest_walked fuel 0 (omega arith) h ∙ ap (λ r. whole (map item r)) (all_beyond f 0 first count (omega arith))

-- The walks of at most so many steps.

abbrev pub after_link : (NodeLinks → Walked Link) → Option (Link × NodeLinks) → Walked Link
after_link walk (Some (w, c)) = more w (walk c)
after_link walk None = whole []

unfoldable pub walk_links : PortGraph → ℕ → NodeLinks → Walked Link
walk_links g zero c = unfinished
walk_links g (suc fuel) c = after_link (walk_links g fuel) (step_links g c)

abbrev pub after_neighbour : (Neighbours → Walked NodeIndex) → Option (NodeIndex × Neighbours) → Walked NodeIndex
after_neighbour walk (Some (n, c)) = more n (walk c)
after_neighbour walk None = whole []

unfoldable pub walk_neighbours : PortGraph → ℕ → Neighbours → Walked NodeIndex
walk_neighbours g zero c = unfinished
walk_neighbours g (suc fuel) c = after_neighbour (walk_neighbours g fuel) (step_neighbours g c)

abbrev pub after_connection : (NodeConnections → Walked Link) → Option (Link × NodeConnections) → Walked Link
after_connection walk (Some (w, c)) = more w (walk c)
after_connection walk None = whole []

unfoldable pub walk_connections : PortGraph → ℕ → NodeConnections → Walked Link
walk_connections g zero c = unfinished
walk_connections g (suc fuel) c = after_connection (walk_connections g fuel) (step_connections g c)

abbrev pub after_any_port : (Ports → Walked ℕ) → Option (PortIndex × Ports) → Walked ℕ
after_any_port walk (Some (p, c)) = more p.0 (walk c)
after_any_port walk None = whole []

unfoldable pub walk_all_ports : PortGraph → ℕ → Ports → Walked ℕ
walk_all_ports g zero c = unfinished
walk_all_ports g (suc fuel) c = after_any_port (walk_all_ports g fuel) (step_all_ports g c)

abbrev pub links_cursor : ℕ → Sides → ℕ → ℕ → ℕ → NodeLinks
links_cursor n sides lo hi held = record { node = node# n; sides = sides; skip = record { from = lo; to = hi }; held = held }

abbrev pub neighbours_cursor : ℕ → Sides → Bool → ℕ → Neighbours
neighbours_cursor n sides flag held = record { node = node# n; sides = sides; ignore_self = flag; held = held }

abbrev pub connections_cursor : ℕ → ℕ → ℕ → NodeConnections
connections_cursor n k held = record { node = node# n; target = node# k; held = held }

abbrev pub ports_cursor : ℕ → Ports
ports_cursor held = record { held = held }

held_at_start : (t : List ℕ) → held_in t 0 ≡ true
unfolding held_in
held_at_start t = refl

held_is_port : (t : List ℕ) (p : ℕ) → held_in t (suc p) ≡ is_port_in t p
unfolding held_in
held_is_port t p = let e : suc p - 1 ≡ p = omega arith in rw (ne_eqb (suc p) 0 (λ z. omega arith), e)

contained_is_held : (g : PortGraph) (p : ℕ) → contains_port g p ≡ true → held_in g.port_meta (suc p) ≡ true
unfolding is_port_in
contained_is_held g p e = held_is_port g.port_meta p ∙ e

-- All ports.

all_ports_on : (g : PortGraph) (fuel held : ℕ)
    → walk_all_ports g (suc fuel) (ports_cursor held)
    ≡ beyond (held_in g.port_meta held) held (whole []) (λ p. more p (walk_all_ports g fuel (ports_cursor (suc p)))) (filter (is_port_in g.port_meta) (range 0 port_slots))
unfolding walk_all_ports step_all_ports all_ports
all_ports_on g fuel held = step_then (after_any_port (walk_all_ports g fuel)) _ held None all_ports_item _

-- from the start: all live ports of the graph, and then the end
pub walk_gives_all_live_ports : (g : PortGraph) → walk_all_ports g (port_slots + 1) (ports_cursor 0) ≡ whole (all_ports g)
unfolding all_ports
walk_gives_all_live_ports g =
    all_walked (λ p. p) (is_port_in g.port_meta) (held_in g.port_meta) 0 port_slots (λ fuel held. walk_all_ports g fuel (ports_cursor held)) (all_ports_on g)
    (λ p a b h. held_is_port g.port_meta p ∙ h) (port_slots + 1) (omega arith) (held_at_start g.port_meta)
    ∙ ap whole (map-id _)

-- The walks over the links of a node.

module _ (g : PortGraph) (n : ℕ) (m : NodeMeta) (meta : meta_at g n ≡ Some m) where
  links_on : (sides : Sides) (lo hi fuel held : ℕ)
      → walk_links g (suc fuel) (links_cursor n sides lo hi held)
      ≡ beyond (held_in g.port_meta held) held (whole []) (λ p. more (link_at g p) (walk_links g fuel (links_cursor n sides lo hi (suc p)))) (filter (link_kept g.port_link lo hi) (ports_of_node m sides))
  unfolding walk_links step_links
  links_on sides lo hi fuel held =
      step_then (after_link (walk_links g fuel)) _ held None (links_item g (links_cursor n sides lo hi held)) _ ∙
      ap (λ x. beyond (held_in g.port_meta held) held (whole []) (λ p. more (link_at g p) (walk_links g fuel (links_cursor n sides lo hi (suc p)))) (filter (link_kept g.port_link lo hi) (ports_in x sides))) meta

  neighbours_on : (sides : Sides) (flag : Bool) (fuel held : ℕ)
      → walk_neighbours g (suc fuel) (neighbours_cursor n sides flag held)
      ≡ beyond (held_in g.port_meta held) held (whole []) (λ p. more (neighbour_at g p) (walk_neighbours g fuel (neighbours_cursor n sides flag (suc p))))
      (filter (link_kept g.port_link (own_from flag (Some m)) (own_to flag (Some m))) (ports_of_node m sides))
  unfolding walk_neighbours step_neighbours
  neighbours_on sides flag fuel held =
      step_then (after_neighbour (walk_neighbours g fuel)) _ held None (neighbours_item g (neighbours_cursor n sides flag held)) _ ∙
      ap (λ x. beyond (held_in g.port_meta held) held (whole []) (λ p. more (neighbour_at g p) (walk_neighbours g fuel (neighbours_cursor n sides flag (suc p)))) (filter (link_kept g.port_link (own_from flag x) (own_to flag x)) (ports_in x sides))) meta

  connections_on : (k fuel held : ℕ)
      → walk_connections g (suc fuel) (connections_cursor n k held)
      ≡ beyond (held_in g.port_meta held) held (whole []) (λ p. more (link_at g p) (walk_connections g fuel (connections_cursor n k (suc p)))) (filter (link_to g.port_link g.port_meta k) (ports_of_node m (One Outgoing)))
  unfolding walk_connections step_connections
  connections_on k fuel held =
      step_then (after_connection (walk_connections g fuel)) _ held None (connections_item g (connections_cursor n k held)) _ ∙
      ap (λ x. beyond (held_in g.port_meta held) held (whole []) (λ p. more (link_at g p) (walk_connections g fuel (connections_cursor n k (suc p)))) (filter (link_to g.port_link g.port_meta k) (ports_in x (One Outgoing)))) meta

  listed_links : (sides : Sides) (lo hi : ℕ) → map (link_at g) (filter (link_kept g.port_link lo hi) (ports_of_node m sides)) ≡ node_links g n sides lo hi
  unfolding node_links
  listed_links sides lo hi = sym (ap (λ x. map (link_at g) (filter (link_kept g.port_link lo hi) (ports_in x sides))) meta)

  listed_neighbours : (sides : Sides) (flag : Bool) → map (neighbour_at g) (filter (link_kept g.port_link (own_from flag (Some m)) (own_to flag (Some m))) (ports_of_node m sides)) ≡ neighbours g n sides flag
  unfolding neighbours
  listed_neighbours sides flag = sym (ap (λ x. map (neighbour_at g) (filter (link_kept g.port_link (own_from flag x) (own_to flag x)) (ports_in x sides))) meta)

  listed_connections : (k : ℕ) → map (link_at g) (filter (link_to g.port_link g.port_meta k) (ports_of_node m (One Outgoing))) ≡ connections g n k
  unfolding connections
  listed_connections k = sym (ap (λ x. map (link_at g) (filter (link_to g.port_link g.port_meta k) (ports_in x (One Outgoing)))) meta)

module _ (g : PortGraph) (M : Model) (good : Good M) (holds : Holds g M) where
  module _ (n : ℕ) (m : NodeMeta) (node : M.node n ≡ live m) where
    alive : (sides : Sides) (f : ℕ → Bool) (p : ℕ) → ports_from m sides ≤ p → p < ports_from m sides + (ports_to m sides - ports_from m sides) → f p ≡ true → held_in g.port_meta (suc p) ≡ true
    alive sides f p a b h = let w = ports_within m sides p a (omega arith) in contained_is_held g p (ports_alive g M good holds n m node p w.0 w.1)

    enough : (sides : Sides) → ports_to m sides - ports_from m sides < node_ports + 1
    enough sides =
        let a = ports_few m sides in
        let b = good.ports_in_block n m node in
        let c = good.block_small n m node in
        omega arith

    -- from the start: all links of the node on these sides but those skipped, in order, and then the end
    pub walk_gives_all_links : (sides : Sides) (lo hi : ℕ) → walk_links g (node_ports + 1) (links_cursor n sides lo hi 0) ≡ whole (node_links g n sides lo hi)
    walk_gives_all_links sides lo hi =
        all_walked (link_at g) (link_kept g.port_link lo hi) (held_in g.port_meta) (ports_from m sides) (ports_to m sides - ports_from m sides) (λ fuel held. walk_links g fuel (links_cursor n sides lo hi held)) (links_on g n m (meta_of_node good holds n m node) sides lo hi)
        (alive sides (link_kept g.port_link lo hi)) (node_ports + 1) (enough sides) (held_at_start g.port_meta)
        ∙ ap whole (listed_links g n m (meta_of_node good holds n m node) sides lo hi)

    -- from the start: a neighbour for each of the node's links, in order, and then the end
    pub walk_gives_all_neighbours : (sides : Sides) (flag : Bool) → walk_neighbours g (node_ports + 1) (neighbours_cursor n sides flag 0) ≡ whole (neighbours g n sides flag)
    walk_gives_all_neighbours sides flag =
        all_walked (neighbour_at g) (link_kept g.port_link (own_from flag (Some m)) (own_to flag (Some m))) (held_in g.port_meta) (ports_from m sides) (ports_to m sides - ports_from m sides)
        (λ fuel held. walk_neighbours g fuel (neighbours_cursor n sides flag held)) (neighbours_on g n m (meta_of_node good holds n m node) sides flag)
        (alive sides (link_kept g.port_link (own_from flag (Some m)) (own_to flag (Some m)))) (node_ports + 1) (enough sides) (held_at_start g.port_meta)
        ∙ ap whole (listed_neighbours g n m (meta_of_node good holds n m node) sides flag)

    -- from the start: all links from the node's outgoing side to the other node, in order, and then the end
    pub walk_gives_all_connections : (k : ℕ) → walk_connections g (node_ports + 1) (connections_cursor n k 0) ≡ whole (connections g n k)
    walk_gives_all_connections k =
        all_walked (link_at g) (link_to g.port_link g.port_meta k) (held_in g.port_meta) (ports_from m (One Outgoing)) (ports_to m (One Outgoing) - ports_from m (One Outgoing)) (λ fuel held. walk_connections g fuel (connections_cursor n k held)) (connections_on g n m (meta_of_node good holds n m node) k)
        (alive (One Outgoing) (link_to g.port_link g.port_meta k)) (node_ports + 1) (enough (One Outgoing)) (held_at_start g.port_meta)
        ∙ ap whole (listed_connections g n m (meta_of_node good holds n m node) k)

  -- What the items are, in the model.

  -- a linked port's item is the link between the two places' ports, and its neighbour is the node at the far end
  pub link_of_place : (x y : InnerPlace) → M.join x ≡ to y → link_at g (slot_of M.node x) ≡ record { from = port# (slot_of M.node x); to = port# (slot_of M.node y) }
  unfolding far_in
  link_of_place x y e = let h = far_of_place x y e in ap (λ q. record { from = port# (slot_of M.node x); to = port# q }) h
    where
      far_of_place : (x y : InnerPlace) → M.join x ≡ to y → far_in g.port_link (slot_of M.node x) ≡ slot_of M.node y
      far_of_place x y e =
          let h : at g.port_link (slot_of M.node x) ≡ suc (slot_of M.node y) = holds.links x (good.join_valid x y e) ∙ ap (far_number M.node) e in
          omega arith

  -- a claim that nothing below cites, as the laws of the walks below are
  pub neighbour_of_place : (x y : InnerPlace) → M.join x ≡ to y → neighbour_at g (slot_of M.node x) ≡ node# y.node
  unfolding owner_in
  neighbour_of_place x y e =
      ap (λ q. node# (owner_in g.port_meta q)) (ap (λ (w : Link). w.to.0) (link_of_place x y e)) ∙
      ap (λ k. node# (node_number (node_of k))) (port_of_place good holds y (good.join_valid y x (good.join_back x y e)))

  -- the ports that the flag skips are exactly the outgoing ports of the node
  module _ (n : ℕ) (m : NodeMeta) (node : M.node n ≡ live m) (q : ℕ) where
    pub skipped_is_own_output : ports_from m (One Outgoing) ≤ q → q < ports_to m (One Outgoing) → port_at g q ≡ port_variants.Port (record { node = node# n; direction = Outgoing })
    skipped_is_own_output a b =
        ap (port_at g) (go (M.node n) node) ∙ port_of_place good holds x (valid (M.node n) node)
      where
        x : InnerPlace
        x = record { node = n; side = Outgoing; pos = q - (m.first_port.0 + m.incoming) }

        go : (s : Slots) → s ≡ live m → q ≡ slot_of (λ k. s) x
        go s e = rw e (omega arith)

        valid : (s : Slots) → s ≡ live m → x.pos < count_of s Outgoing
        valid s e = rw e (omega arith)

    pub own_output_is_skipped : port_at g q ≡ port_variants.Port (record { node = node# n; direction = Outgoing }) → (ports_from m (One Outgoing) ≤ q) × (q < ports_to m (One Outgoing))
    own_output_is_skipped e = go (slot_cases good holds q)
      where
        at_place : (x : InnerPlace) → x.node ≡ n → x.side ≡ Outgoing → x.pos < count_of (live m) Outgoing → slot_of (λ k. live m) x ≡ q → (ports_from m (One Outgoing) ≤ q) × (q < ports_to m (One Outgoing))
        at_place x a b v s = by x.side b s
          where
            by : (d : Direction) → d ≡ Outgoing → m.first_port.0 + (side_start (live m) d + x.pos) ≡ q → (ports_from m (One Outgoing) ≤ q) × (q < ports_to m (One Outgoing))
            by Incoming h t = let z : ◌≡◌ {A = ℕ} 0 1 = cc in absurd (omega arith)
            by Outgoing h t = (omega arith, omega arith)

        go : ((x : InnerPlace) × Valid M.node x × (slot_of M.node x ≡ q)) ⊎ (port_at g q ≡ port_variants.Free) → (ports_from m (One Outgoing) ≤ q) × (q < ports_to m (One Outgoing))
        go (inl r) =
            let x = r.0 in
            let t : port_variants.Port (meta_of_place x) ≡ port_variants.Port (record { node = node# n; direction = Outgoing }) = sym (port_of_place good holds x r.1) ∙ (ap (port_at g) r.2 ∙ e) in
            let u : ◌≡◌ {A = PortMeta} (meta_of_place x) (record { node = node# n; direction = Outgoing }) = cc in
            let a : x.node ≡ n = ap (λ (k : PortMeta). k.node.0) u in
            let b : x.side ≡ Outgoing = ap (λ (k : PortMeta). k.direction) u in
            let s : M.node x.node ≡ live m = ap M.node a ∙ node in
            let v : x.pos < count_of (live m) x.side = rw s at r.1 in
            let w : x.pos < count_of (live m) Outgoing = rw b at v in
            at_place x a b w (rw s at r.2)
        go (inr f) = let z : ◌≡◌ {A = ℕ} 0 1 = cc in absurd (omega arith)

  -- a port that a node has shows that the node is live
  owner_live : (k q : ℕ) → is_of k (at g.port_meta q) ≡ true → contains_node g k ≡ true
  unfolding is_of
  owner_live k q e = go (slot_cases good holds q)
    where
      meta_of_slots : (j : ℕ) (s : Slots) (p : ℕ) (x : InnerPlace) → M.node j ≡ s → p < count_of s x.side → contains_node g j ≡ true
      meta_of_slots j gone p x h l = absurd (omega arith)
      meta_of_slots j (live m) p x h l = ap is_some (meta_of_node good holds j m h)

      go : ((x : InnerPlace) × Valid M.node x × (slot_of M.node x ≡ q)) ⊎ (port_at g q ≡ port_variants.Free) → contains_node g k ≡ true
      go (inl r) =
          let x = r.0 in
          let t : eqb x.node k ≡ true = ap (λ w. is_node_of k (node_of w)) (sym (port_of_place good holds x r.1) ∙ ap (port_at g) r.2) ∙ e in
          ap (contains_node g) (sym (eqb-true _ _ t)) ∙ meta_of_slots x.node (M.node x.node) x.pos x refl r.1
      go (inr f) =
          let t : false ≡ true = ap (λ w. is_node_of k (node_of w)) (sym f) ∙ e in
          let z : ◌≡◌ {A = ℕ} 0 1 = cc in
          absurd (omega arith)

  -- no link leads to a node that is gone
  pub gone_target_ends_connections : (c : NodeConnections) → contains_node g c.target.0 ≡ false → step_connections g c ≡ None
  unfolding step_connections link_to
  gone_target_ends_connections c h = ap (beyond (held_in g.port_meta c.held) c.held None (connections_item g c)) (filter_none _ _ (λ p i. none p)) ∙ sym (nothing_beyond _ _ _ _)
    where
      none : (p : ℕ) → link_to g.port_link g.port_meta c.target.0 p ≡ false
      none p = go (eqb (at g.port_link p) 0) (is_of c.target.0 (at g.port_meta (far_in g.port_link p))) refl
        where
          go : (z o : Bool) → is_of c.target.0 (at g.port_meta (far_in g.port_link p)) ≡ o → cond z false o ≡ false
          go true o e = refl
          go false false e = refl
          go false true e =
              let t : true ≡ false = sym (owner_live c.target.0 (far_in g.port_link p) e) ∙ h in
              let y : ◌≡◌ {A = ℕ} 0 1 = cc in
              absurd (omega arith)

-- A cursor whose node or port is gone ends the walk.

module _ (g : PortGraph) where
  pub gone_port_ends_links : (c : NodeLinks) → held_in g.port_meta c.held ≡ false → step_links g c ≡ None
  unfolding step_links
  gone_port_ends_links c h = step_gone _ c.held _ _ _ h

  pub gone_port_ends_neighbours : (c : Neighbours) → held_in g.port_meta c.held ≡ false → step_neighbours g c ≡ None
  unfolding step_neighbours
  gone_port_ends_neighbours c h = step_gone _ c.held _ _ _ h

  pub gone_port_ends_connections : (c : NodeConnections) → held_in g.port_meta c.held ≡ false → step_connections g c ≡ None
  unfolding step_connections
  gone_port_ends_connections c h = step_gone _ c.held _ _ _ h

  pub gone_port_ends_all_ports : (c : Ports) → held_in g.port_meta c.held ≡ false → step_all_ports g c ≡ None
  unfolding step_all_ports
  gone_port_ends_all_ports c h = step_gone _ c.held _ _ _ h

  pub gone_node_ends_links : (c : NodeLinks) → meta_at g c.node.0 ≡ None → step_links g c ≡ None
  unfolding step_links
  gone_node_ends_links c h = sym (no_node_no_step _ _ _ _ c.held c.sides _ (sym h))

  pub gone_node_ends_neighbours : (c : Neighbours) → meta_at g c.node.0 ≡ None → step_neighbours g c ≡ None
  unfolding step_neighbours
  gone_node_ends_neighbours c h = sym (no_node_no_step _ _ _ _ c.held c.sides _ (sym h))

  pub gone_node_ends_connections : (c : NodeConnections) → meta_at g c.node.0 ≡ None → step_connections g c ≡ None
  unfolding step_connections
  gone_node_ends_connections c h = sym (no_node_no_step _ _ _ _ c.held (One Outgoing) _ (sym h))

-- What the listings hold: exactly the slots for which the test holds, ascending, so that none comes twice.

ports_once : (f : ℕ → Bool) (p k : ℕ) → Once (filter f (range p k))
ports_once f p k = rising_once ◌<◌ (λ x l. omega arith) (filter f (range p k)) (rising_filter ◌<◌ f (range p k) (range_rises p k))

pub no_link_twice : (m : NodeMeta) (sides : Sides) (f : ℕ → Bool) → Once (filter f (ports_of_node m sides))
no_link_twice m sides f = ports_once f (ports_from m sides) (ports_to m sides - ports_from m sides)

-- the walk over all ports gives exactly the live ports, each once
module _ (g : PortGraph) where
  pub no_live_port_twice : Once (all_ports g)
  unfolding all_ports
  no_live_port_twice = ports_once (is_port_in g.port_meta) 0 port_slots

  pub listed_port_is_live : (p : ℕ) → Member p (all_ports g) → contains_port g p ≡ true
  unfolding all_ports is_port_in
  listed_port_is_live p i = (member_filter (is_port_in g.port_meta) p _ i).1

  pub live_port_is_listed : (p : ℕ) → contains_port g p ≡ true → Member p (all_ports g)
  unfolding all_ports is_port_in port_entry
  live_port_is_listed p h = filter_member (is_port_in g.port_meta) p _ (range_member p 0 port_slots (omega arith) (inside (ltb p port_slots) refl)) h
    where
      inside : (b : Bool) → ltb p port_slots ≡ b → p < 0 + port_slots
      inside true e = let l : p < port_slots = ltb-true _ _ e in omega arith
      inside false e =
          let l : port_slots ≤ p = ltb-false _ _ e in
          let t : false ≡ true = ap (λ x. is_port (port_entry x)) (at_outside g.port_meta p l) ∙ h in
          let z : ◌≡◌ {A = ℕ} 0 1 = cc in
          absurd (omega arith)
