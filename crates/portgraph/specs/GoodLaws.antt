-- Every call keeps the model good.
-- A good model comes in four parts, nodes, counts, blocks and links; each call's law says what it does to each part.
use Rattle.std.specs.Prelude.{◌≡◌, refl, Bool, true, false, List, [], ◌∷◌, ◌⊎◌, ℕ, ◌+◌, ◌≤◌, ◌<◌, eqb}
use Rattle.std.proofs.Common.{sym, ◌∙◌, ap, subst, inl, inr, ⊎_elim, arith, leb-false, eqb-true, eq-eqb}
use Rattle.std.proofs.lemmas.Bool.{eqb-false}
use Rattle.port_tables.specs.Limits.{node_slots, port_slots, node_ports}
use Rattle.port_tables.specs.Lists.{Member, Once}
use Rattle.port_tables.specs.Entries.{ports_on, new_count, meta_of}
use Rattle.portgraph.specs.Model.{Model, nowhere, Slots, gone, live, unused, Valid, Good, count_of, InnerPlace}
use Rattle.port_tables.specs.Tables.{Within}
use Rattle.portgraph.specs.Meaning.{upd, same_place, at_node, beyond, first_or, rest, growth, next_slot, next_block, add_model, remove_model, link_model, unlink_model, resize_model, move_model}
use Rattle.portgraph.specs.Joins.{upd_elim, upd_same, upd_other, Joined, joined_drop, joined_drop_outside, joined_link}
use Rattle.port_tables.specs.Listing.{zero_is_not_one}
pub use Rattle.portgraph.specs.Joins.{link_elim, same_side_true as same_side_is}
use Rattle.portgraph.specs.GoodSlots.{same_held, gone_not_live, Parted, parted_same, given, taken, block_taken_lem}
use Rattle.port_tables.specs.declared.direction.Direction.{Direction}
use Rattle.port_tables.specs.declared.direction.Direction.TheVariants.{Incoming, Outgoing}
use Rattle.port_tables.specs.declared.node_entry.NodeMeta.{NodeMeta}

-- The parts.

record Nodes (node : ℕ → Slots) (free : List ℕ) (len : ℕ) : Type 0 where
  fits : len ≤ node_slots
  used : (n : ℕ) (m : NodeMeta) → node n ≡ live m → n < len
  listed : (n : ℕ) → n < len → node n ≡ gone → Member n free
  empty : (n : ℕ) → Member n free → node n ≡ gone
  within : (n : ℕ) → Member n free → n < len
  once : Once free

record Counts (m : NodeMeta) : Type 0 where
  in_block : m.incoming + m.outgoing ≤ m.capacity
  small : m.capacity ≤ node_ports
  portless : m.capacity ≡ 0 → m.first_port.0 ≡ 0

abbrev AllCounts : (ℕ → Slots) → Type 0
AllCounts node = (n : ℕ) (m : NodeMeta) → node n ≡ live m → Counts m

-- node n has a block of k slots from f on
abbrev Has : (ℕ → Slots) → ℕ → ℕ → ℕ → Type 0
Has node n f k = (m : NodeMeta) × (node n ≡ live m) × (f ≡ m.first_port.0) × (k ≡ m.capacity)

good_of : (M : Model) → Nodes M.node M.free_nodes M.node_len → AllCounts M.node → Parted (Has M.node) M.free_blocks M.port_len M.who → Joined (Valid M.node) M.join → Good M
good_of M nodes counts p links =
    record {
      nodes_fit = nodes.fits;
      ports_fit = p.fits;
      node_used = nodes.used;
      ports_in_block = λ n m e. (counts n m e).in_block;
      block_small = λ n m e. (counts n m e).small;
      block_ends = λ n m e. p.ends n m.first_port.0 m.capacity (m, e, refl, refl);
      portless = λ n m e. (counts n m e).portless;
      free_listed = nodes.listed;
      free_gone = nodes.empty;
      free_used = nodes.within;
      free_once = nodes.once;
      held_by = λ n m s e. p.held_by n m.first_port.0 m.capacity s (m, e, refl, refl);
      held_in = λ s n e.
          let r = p.held_in s n e in
          let f = r.2.2 in
          let k = r.2.3 in
          let w = r.3 in
          (r.2.0, r.2.1, omega arith);
      idle_by = p.idle_by;
      idle_in = p.idle_in;
      idle_ends = p.idle_ends;
      idle_once = p.idle_once;
      used_has = p.used_has;
      unused_beyond = p.unused_beyond;
      join_valid = links.valid;
      join_back = links.back;
      join_sides = links.sides;
    }

nodes_of : {M : Model} → Good M → Nodes M.node M.free_nodes M.node_len
nodes_of g = record { fits = g.nodes_fit; used = g.node_used; listed = g.free_listed; empty = g.free_gone; within = g.free_used; once = g.free_once }

counts_of : {M : Model} → Good M → AllCounts M.node
counts_of g n m e = record { in_block = g.ports_in_block n m e; small = g.block_small n m e; portless = g.portless n m e }

links_of : {M : Model} → Good M → Joined (Valid M.node) M.join
links_of g = record { valid = g.join_valid; back = g.join_back; sides = g.join_sides }

blocks_of : {M : Model} → Good M → Parted (Has M.node) M.free_blocks M.port_len M.who
blocks_of g =
    record {
      fits = g.ports_fit;
      ends = λ n f k o. let e = g.block_ends n o.0 o.1 in let a = o.2 in let b = o.3 in omega arith;
      held_by = λ n f k s o w. g.held_by n o.0 s o.1 (let a = o.2 in let b = o.3 in omega arith);
      held_in = λ s n e. let r = g.held_in s n e in (r.0.first_port.0, r.0.capacity, (r.0, r.1, refl, refl), r.2);
      idle_by = g.idle_by;
      idle_in = g.idle_in;
      idle_ends = g.idle_ends;
      idle_once = g.idle_once;
      used_has = g.used_has;
      unused_beyond = g.unused_beyond;
    }

-- Links.

pub good_unlink : {M : Model} → Good M → (x : InnerPlace) → Good (unlink_model M x)
good_unlink {M} g x = good_of (unlink_model M x) (nodes_of g) (counts_of g) (blocks_of g) (joined_drop (same_place x) (links_of g))

pub good_link : {M : Model} → Good M → (x y : InnerPlace) → Valid M.node x → Valid M.node y → M.join x ≡ nowhere → M.join y ≡ nowhere → (x.side ≡ y.side → ⊥) → Good (link_model M x y)
good_link {M} g x y vx vy fx fy apart = good_of (link_model M x y) (nodes_of g) (counts_of g) (blocks_of g) (joined_link (links_of g) x y vx vy fx fy apart)

-- Other counts.

nodes_recounted : {node : ℕ → Slots} {free : List ℕ} {len : ℕ} (n : ℕ) (m m' : NodeMeta) → node n ≡ live m → Nodes node free len → Nodes (upd node n (live m')) free len
nodes_recounted {node} {free} {len} n m m' e nodes =
    record {
      fits = nodes.fits;
      used = λ i l. upd_elim (λ v. v ≡ live l → i < len) node n (live m') i (λ q d. let h = nodes.used n m e in omega arith) (λ q d. nodes.used i l d);
      listed = λ i h. upd_elim (λ v. v ≡ gone → Member i free) node n (live m') i (λ q d. absurd (gone_not_live d refl)) (λ q d. nodes.listed i h d);
      empty = λ i h. upd_other node n (live m') i (λ q. gone_not_live (nodes.empty i h) (ap node q ∙ e)) ∙ nodes.empty i h;
      within = nodes.within;
      once = nodes.once;
    }

counts_updated : {node : ℕ → Slots} (n : ℕ) (m' : NodeMeta) → Counts m' → AllCounts node → AllCounts (upd node n (live m'))
counts_updated {node} n m' c counts i l =
    upd_elim (λ v. v ≡ live l → Counts l) node n (live m') i (λ q d. let a : m' ≡ l = cc in subst Counts a c) (λ q d. counts i l d)

-- a place of n that is not dropped has a port under the new counts
recounted_valid : (node : ℕ → Slots) (n : ℕ) (m' : NodeMeta) (x : InnerPlace) → Valid node x → beyond n m'.incoming m'.outgoing x ≡ false → Valid (upd node n (live m')) x
recounted_valid node n m' x v e =
    upd_elim (λ s. x.pos < count_of s x.side) node n (live m') x.node
    (λ q. kept x.side (leb-false (new_count m'.incoming m'.outgoing x.side) x.pos (rw (eq-eqb x.node n q) at e))) (λ q. v)
  where
    kept : (d : Direction) → x.pos < new_count m'.incoming m'.outgoing d → x.pos < ports_on m' d
    kept Incoming h = h
    kept Outgoing h = h

has_other : (node : ℕ → Slots) (n : ℕ) (v : Slots) (i f k : ℕ) → (i ≡ n → ⊥) → Has node i f k → Has (upd node n v) i f k
has_other node n v i f k h o = (o.0, upd_other node n v i h ∙ o.1, o.2, o.3)

-- after the update a node has its old block, or it is n with the block given
has_cases : (node : ℕ → Slots) (n : ℕ) (v : Slots) (i f k : ℕ) → Has (upd node n v) i f k → ((i ≡ n → ⊥) × Has node i f k) ⊎ ((i ≡ n) × Has (λ j. v) i f k)
has_cases node n v i f k o =
    upd_elim (λ s. s ≡ live o.0 → ((i ≡ n → ⊥) × Has node i f k) ⊎ ((i ≡ n) × Has (λ j. v) i f k)) node n v i
    (λ q d. inr (q, (o.0, d, o.2, o.3))) (λ q d. inl (q, (o.0, d, o.2, o.3))) o.1

-- what n has is its one block
has_one : {s : Slots} {m l : NodeMeta} {f k : ℕ} → s ≡ live m → s ≡ live l → f ≡ l.first_port.0 → k ≡ l.capacity → (f ≡ m.first_port.0) × (k ≡ m.capacity)
has_one p q a b = ((cc), (cc))

module _ {M : Model} (g : Good M) (n : ℕ) (m : NodeMeta) (e : M.node n ≡ live m) (incoming outgoing : ℕ) (fit : incoming + outgoing ≤ m.capacity) where
  abbrev resized : NodeMeta
  resized = meta_of m.first_port.0 incoming outgoing m.capacity

  resize_has : (i f k : ℕ) → Has M.node i f k → Has (upd M.node n (live resized)) i f k
  resize_has i f k o =
      upd_elim (λ s. (l : NodeMeta) × (s ≡ live l) × (f ≡ l.first_port.0) × (k ≡ l.capacity)) M.node n (live resized) i
      (λ q. let r = has_one (ap M.node q ∙ e) o.1 o.2 o.3 in (resized, refl, r.0, r.1)) (λ q. o)

  has_resized : (i f k : ℕ) → Has (upd M.node n (live resized)) i f k → Has M.node i f k
  has_resized i f k o =
      ⊎_elim (λ h. h.1) (λ h. let r = has_one refl h.1.1 h.1.2 h.1.3 in (m, ap M.node h.0 ∙ e, r.0, r.1)) (has_cases M.node n (live resized) i f k o)

  pub good_resize : Good (resize_model M n m incoming outgoing)
  good_resize =
      let c = counts_of g n m e in
      good_of (resize_model M n m incoming outgoing) (nodes_recounted n m resized e (nodes_of g))
      (counts_updated n resized (record { in_block = fit; small = c.small; portless = c.portless }) (counts_of g))
      (parted_same resize_has has_resized (blocks_of g))
      (joined_drop_outside (beyond n incoming outgoing) (links_of g) (recounted_valid M.node n resized))

-- Removing, and moving to another block.

-- where n has another value, every node has the block it had, but for n
has_stays : (node : ℕ → Slots) (n : ℕ) (v : Slots) (m : NodeMeta) → node n ≡ live m → (i f k : ℕ) → Has node i f k → (Has (upd node n v) i f k) ⊎ ((f ≡ m.first_port.0) × (k ≡ m.capacity))
has_stays node n v m e i f k o = go (eqb i n) refl
  where
    go : (t : Bool) → eqb i n ≡ t → (Has (upd node n v) i f k) ⊎ ((f ≡ m.first_port.0) × (k ≡ m.capacity))
    go true q = inr (has_one (ap node (eqb-true i n q) ∙ e) o.1 o.2 o.3)
    go false q = inl (has_other node n v i f k (eqb-false i n q) o)

module _ {M : Model} (g : Good M) (n : ℕ) (m : NodeMeta) (e : M.node n ≡ live m) where
  nodes_removed : Nodes (upd M.node n gone) (n ∷ M.free_nodes) M.node_len
  nodes_removed =
      record {
        fits = g.nodes_fit;
        used = λ i l. upd_elim (λ v. v ≡ live l → i < M.node_len) M.node n gone i (λ q d. absurd (gone_not_live refl d)) (λ q d. g.node_used i l d);
        listed = λ i h. upd_elim (λ v. v ≡ gone → Member i (n ∷ M.free_nodes)) M.node n gone i (λ q d. inl q) (λ q d. inr (g.free_listed i h d));
        empty = λ i h. upd_elim (λ v. v ≡ gone) M.node n gone i (λ q. refl) (λ q. ⊎_elim (λ r. absurd (q r)) (g.free_gone i) h);
        within = λ i. ⊎_elim (λ q. let h = g.node_used n m e in omega arith) (g.free_used i);
        once = ((λ h. gone_not_live (g.free_gone n h) e), g.free_once);
      }

  removed_keeps : (i f k : ℕ) → Has (upd M.node n gone) i f k → (i ≡ n → ⊥) × Has M.node i f k
  removed_keeps i f k o = ⊎_elim (λ h. h) (λ h. absurd (gone_not_live refl h.1.1)) (has_cases M.node n gone i f k o)

  removed_apart : (i f k s : ℕ) → Has (upd M.node n gone) i f k → Within f k s → Within m.first_port.0 m.capacity s → ⊥
  removed_apart i f k s o w v = let r = removed_keeps i f k o in r.0 (same_held ((blocks_of g).held_by i f k s r.1 w) (g.held_by n m s e v))

  pub good_remove : Good (remove_model M n m)
  good_remove =
      good_of (remove_model M n m) nodes_removed
      (λ i l. upd_elim (λ v. v ≡ live l → Counts l) M.node n gone i (λ q d. absurd (gone_not_live refl d)) (λ q d. counts_of g i l d))
      (given n m.first_port.0 m.capacity (g.block_small n m e) (m, e, refl, refl) (λ i f k o. (removed_keeps i f k o).1) removed_apart
      (has_stays M.node n gone m e) (blocks_of g))
      (joined_drop_outside (at_node n) (links_of g)
      (λ x v d. upd_elim (λ s. x.pos < count_of s x.side) M.node n gone x.node (λ q. absurd (eqb-false x.node n d q)) (λ q. v)))

module _ {M : Model} (g : Good M) (n : ℕ) (m : NodeMeta) (e : M.node n ≡ live m) (incoming outgoing size : ℕ) (fit : incoming + outgoing ≤ size)
    (some : 0 < size) (small : size ≤ node_ports) (room : M.port_len + growth size (M.free_blocks size) ≤ port_slots) where
  abbrev moved : NodeMeta
  moved = meta_of (next_block M size) incoming outgoing size

  -- between taking and giving back, n has both blocks
  abbrev HasBoth : ℕ → ℕ → ℕ → Type 0
  HasBoth i f k = (Has M.node i f k) ⊎ ((i ≡ n) × (f ≡ next_block M size) × (k ≡ size))

  moved_cases : (i f k : ℕ) → Has (upd M.node n (live moved)) i f k → ((i ≡ n → ⊥) × Has M.node i f k) ⊎ ((i ≡ n) × (f ≡ next_block M size) × (k ≡ size))
  moved_cases i f k o =
      ⊎_elim (λ h. inl h) (λ h. let r = has_one refl h.1.1 h.1.2 h.1.3 in inr (h.0, r.0, r.1)) (has_cases M.node n (live moved) i f k o)

  moved_apart : (i f k s : ℕ) → Has (upd M.node n (live moved)) i f k → Within f k s → Within m.first_port.0 m.capacity s → ⊥
  moved_apart i f k s o w v =
      let b = g.held_by n m s e v in
      ⊎_elim (λ h. h.0 (same_held ((blocks_of g).held_by i f k s h.1 w) b))
      (λ h. (block_taken_lem size (blocks_of g)).unheld s n (let p = h.1 in let q = h.2 in omega arith) b) (moved_cases i f k o)

  moved_stays : (i f k : ℕ) → HasBoth i f k → (Has (upd M.node n (live moved)) i f k) ⊎ ((f ≡ m.first_port.0) × (k ≡ m.capacity))
  moved_stays i f k =
      ⊎_elim (has_stays M.node n (live moved) m e i f k)
      (λ h. inl (moved, ap (upd M.node n (live moved)) h.0 ∙ upd_same M.node n (live moved), h.1, h.2))

  pub good_move : Good (move_model M n m incoming outgoing size)
  good_move =
      good_of (move_model M n m incoming outgoing size) (nodes_recounted n m moved e (nodes_of g))
      (counts_updated n moved (record { in_block = fit; small = small; portless = λ z. absurd (omega arith) }) (counts_of g))
      (given n m.first_port.0 m.capacity (g.block_small n m e) (inl (m, e, refl, refl))
      (λ i f k o. ⊎_elim (λ h. inl h.1) (λ h. inr h) (moved_cases i f k o)) moved_apart moved_stays
      (taken {own' = HasBoth} n (next_block M size) size room (λ i f k o. o) (λ i f k o. inl o) (inr (refl, refl, refl)) (blocks_of g) (block_taken_lem size (blocks_of g))))
      (joined_drop_outside (beyond n incoming outgoing) (links_of g) (recounted_valid M.node n moved))

-- Adding.

-- the slot that the next node takes has no node
pub next_slot_gone : {M : Model} → Good M → M.node (next_slot M) ≡ gone
next_slot_gone {M} g = go M.free_nodes refl (M.node M.node_len) refl
  where
    go : (l : List ℕ) → M.free_nodes ≡ l → (s : Slots) → M.node M.node_len ≡ s → M.node (first_or M.node_len l) ≡ gone
    go [] e gone d = d
    go [] e (live m) d = absurd (let h = g.node_used M.node_len m d in omega arith)
    go (n ∷ l) e s d = g.free_gone n (subst (Member n) (sym e) (inl refl))

nodes_added : {node : ℕ → Slots} {len : ℕ} (free : List ℕ) (m : NodeMeta) → Nodes node free len → len + growth 1 free ≤ node_slots → Nodes (upd node (first_or len free) (live m)) (rest free) (len + growth 1 free)
nodes_added {node} {len} [] m nodes room =
    record {
      fits = room;
      used = λ i l. upd_elim (λ v. v ≡ live l → i < len + 1) node len (live m) i (λ q d. omega arith) (λ q d. let h = nodes.used i l d in omega arith);
      listed = λ i h. upd_elim (λ v. v ≡ gone → ⊥) node len (live m) i (λ q d. gone_not_live d refl) (λ q d. nodes.listed i (omega arith) d);
      empty = λ i h. absurd h;
      within = λ i h. absurd h;
      once = tt;
    }
nodes_added {node} {len} (n ∷ free) m nodes room =
    record {
      fits = room;
      used = λ i l. upd_elim (λ v. v ≡ live l → i < len + 0) node n (live m) i (λ q d. let h = nodes.within n (inl refl) in omega arith) (λ q d. let h = nodes.used i l d in omega arith);
      listed = λ i h. upd_elim (λ v. v ≡ gone → Member i free) node n (live m) i (λ q d. absurd (gone_not_live d refl)) (λ q d. ⊎_elim (λ r. absurd (q r)) (λ r. r) (nodes.listed i (omega arith) d));
      empty = λ i h. upd_other node n (live m) i (λ q. nodes.once.0 (subst (λ (j : ℕ). Member j free) q h)) ∙ nodes.empty i (inr h);
      within = λ i h. let w = nodes.within i (inr h) in omega arith;
      once = nodes.once.1;
    }

-- a place without a node has no port
gone_not_valid : {s : Slots} (d : Direction) (p : ℕ) → s ≡ gone → p < count_of s d → ⊥
gone_not_valid d p e h = let h' : p < 0 = rw e at h in omega arith

module _ {M : Model} (g : Good M) (incoming outgoing : ℕ) (small : incoming + outgoing ≤ node_ports) (node_room : M.node_len + growth 1 M.free_nodes ≤ node_slots)
    (port_room : M.port_len + growth (incoming + outgoing) (M.free_blocks (incoming + outgoing)) ≤ port_slots) where
  abbrev added : NodeMeta
  added = meta_of (next_block M (incoming + outgoing)) incoming outgoing (incoming + outgoing)

  added_counts : Counts added
  added_counts = record { in_block = omega arith; small = small; portless = λ z. rw (eq-eqb (incoming + outgoing) 0 z) refl }

  added_cases : (i f k : ℕ) → Has (upd M.node (next_slot M) (live added)) i f k → (Has M.node i f k) ⊎ ((i ≡ next_slot M) × (f ≡ next_block M (incoming + outgoing)) × (k ≡ incoming + outgoing))
  added_cases i f k o =
      ⊎_elim (λ h. inl h.1) (λ h. let r = has_one refl h.1.1 h.1.2 h.1.3 in inr (h.0, r.0, r.1)) (has_cases M.node (next_slot M) (live added) i f k o)

  added_stays : (i f k : ℕ) → Has M.node i f k → Has (upd M.node (next_slot M) (live added)) i f k
  added_stays i f k o = has_other M.node (next_slot M) (live added) i f k (λ q. gone_not_live (ap M.node q ∙ next_slot_gone g) o.1) o

  added_valid : (x : InnerPlace) → Valid M.node x → Valid (upd M.node (next_slot M) (live added)) x
  added_valid x v =
      upd_elim (λ s. x.pos < count_of s x.side) M.node (next_slot M) (live added) x.node
      (λ q. absurd (gone_not_valid x.side x.pos (ap M.node q ∙ next_slot_gone g) v)) (λ q. v)

  pub good_add : Good (add_model M incoming outgoing)
  good_add =
      good_of (add_model M incoming outgoing) (nodes_added M.free_nodes added (nodes_of g) node_room)
      (counts_updated (next_slot M) added added_counts (counts_of g))
      (taken (next_slot M) (next_block M (incoming + outgoing)) (incoming + outgoing) port_room added_cases added_stays
      (added, upd_same M.node (next_slot M) (live added), refl, refl) (blocks_of g) (block_taken_lem (incoming + outgoing) (blocks_of g)))
      (record { valid = λ x y e. added_valid x (g.join_valid x y e); back = g.join_back; sides = g.join_sides })

-- The empty graph.

abbrev pub empty_model : Model
empty_model = record { node = λ n. gone; join = λ x. nowhere; free_nodes = []; free_blocks = λ k. []; node_len = 0; port_len = 0; who = λ s. unused }

pub good_empty : Good empty_model
good_empty =
    record {
      nodes_fit = omega arith;
      ports_fit = omega arith;
      node_used = λ n m e. absurd (gone_not_live refl e);
      ports_in_block = λ n m e. absurd (gone_not_live refl e);
      block_small = λ n m e. absurd (gone_not_live refl e);
      block_ends = λ n m e. absurd (gone_not_live refl e);
      portless = λ n m e. absurd (gone_not_live refl e);
      free_listed = λ n h. absurd (omega arith);
      free_gone = λ n h. refl;
      free_used = λ n h. absurd h;
      free_once = tt;
      held_by = λ n m s e. absurd (gone_not_live refl e);
      held_in = λ s n e. absurd (zero_is_not_one (cc));
      idle_by = λ k b s h. absurd h;
      idle_in = λ s b k e. absurd (zero_is_not_one (cc));
      idle_ends = λ k b h. absurd h;
      idle_once = λ k. tt;
      used_has = λ s h. absurd (omega arith);
      unused_beyond = λ s h. refl;
      join_valid = λ x y e. absurd (zero_is_not_one (cc));
      join_back = λ x y e. absurd (zero_is_not_one (cc));
      join_sides = λ x y e. absurd (zero_is_not_one (cc));
    }
