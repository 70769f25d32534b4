-- Which place a port number is: a slot of the tables is the slot of one valid place, or of none and then no port is live there.
-- With this the lookups answer for places, and the link table stands for the links of the model.
use Rattle.std.specs.Prelude.{◌≡◌, refl, Bool, true, false, cond, ◌⊎◌, ℕ, suc, ◌+◌, ◌-◌, ◌*◌, ◌/◌, ◌%◌, ◌≤◌, ◌<◌, eqb, ltb, Option, Some, None, Ok, Result, Err}
use Rattle.std.proofs.Common.{sym, ◌∙◌, ap, inl, inr, ⊎_elim, arith, ltb-true, ltb-false, lt-ltb, le-ltb, eq-eqb, ne_eqb}
use Rattle.port_tables.specs.Lists.{Member}
use Rattle.port_tables.specs.Entries.{owner_number, port_entry, ports_on, node#, port#, meta_of_entry}
use Rattle.port_tables.specs.Tables.{at, Within}
use Rattle.portgraph.specs.Model.{Model, Far, nowhere, to, Slots, gone, live, Who, held, idle, unused, Valid, Good, Holds, count_of, first_of, side_start, slot_of, far_number, slots_of_entry, owner_of_slots, owner_of_who, InnerPlace, Vacant}
use Rattle.portgraph.specs.Lookups.{entry_at, meta_at, port_at, port_in, port_index, offset_in, offset_of, port_offset, link_of, port_link}
use Rattle.port_tables.specs.Listing.{zero_is_not_one}
use Rattle.portgraph.specs.LinkLaws.{Rep, far_number_is_far_is}
use Rattle.portgraph.specs.GoodSlots.{gone_not_live, slot_in_block, slot_held, slot_in_range, slots_apart}
use Rattle.port_tables.specs.declared.direction.Direction.{Direction}
use Rattle.port_tables.specs.declared.direction.Direction.TheVariants.{Incoming, Outgoing}
use Rattle.port_tables.specs.declared.index.PortIndex.{PortIndex}
use Rattle.portgraph.specs.declared.portgraph.NoSuchPort.{NoSuchPort}
use Rattle.port_tables.specs.declared.index.PortOffset.{PortOffset}
use Rattle.port_tables.specs.declared.node_entry.NodeMeta.{NodeMeta}
use Rattle.port_tables.specs.declared.node_entry.NodeEntry.{NodeEntry}
use Rattle.port_tables.specs.declared.node_entry.NodeEntry.TheVariants as node_variants
use Rattle.port_tables.specs.declared.port_entry.PortMeta.{PortMeta}
use Rattle.port_tables.specs.declared.port_entry.PortEntry.TheVariants as port_variants
use Rattle.portgraph.specs.declared.portgraph.PortGraph.{PortGraph}

-- the node and side of a place, as a port's entry names them
abbrev pub meta_of_place : InnerPlace → PortMeta
meta_of_place x = record { node = node# x.node; direction = x.side }

abbrev pub offset_of_place : InnerPlace → PortOffset
offset_of_place x = record { direction = x.side; index = x.pos }

-- a live port's place
pub record PlaceOf (M : Model) (p : ℕ) (k : PortMeta) : Type 0 where
  pub place : InnerPlace
  pub valid : Valid M.node place
  pub slot : slot_of M.node place ≡ p
  pub node : place.node ≡ k.node.0
  pub side : place.side ≡ k.direction

-- an owner's number is read as it was written
pub entry_of_owner : (n : ℕ) (d : Direction) → port_entry (owner_number n d) ≡ port_variants.Port (record { node = node# n; direction = d })
unfolding port_entry
entry_of_owner n Incoming =
    let h : (2 * n + 1 - 1) / 2 ≡ n = omega arith in
    rw (ne_eqb (2 * n + 1) 0 (λ e. omega arith), h, eq-eqb ((2 * n + 1 - 1) % 2) 0 (omega arith))
entry_of_owner n Outgoing =
    let h : (2 * n + 2 - 1) / 2 ≡ n = omega arith in
    rw (ne_eqb (2 * n + 2) 0 (λ e. omega arith), h, ne_eqb ((2 * n + 2 - 1) % 2) 0 (λ e. omega arith))

pub entry_of_none : port_entry 0 ≡ port_variants.Free
unfolding port_entry
entry_of_none = refl

-- the owner's number at a port's position within its block
owner_at : (n : ℕ) (v : Slots) (d : Direction) (p : ℕ) → p < count_of v d → owner_of_slots n v (first_of v + (side_start v d + p)) ≡ owner_number n d
owner_at n gone d p h = absurd (omega arith)
owner_at n (live m) Incoming p h = rw (lt-ltb (m.first_port.0 + (0 + p)) (m.first_port.0 + m.incoming) (omega arith))
owner_at n (live m) Outgoing p h =
    rw (
      le-ltb (m.first_port.0 + (m.incoming + p)) (m.first_port.0 + m.incoming) (omega arith),
      lt-ltb (m.first_port.0 + (m.incoming + p)) (m.first_port.0 + (m.incoming + m.outgoing)) (omega arith),
    )

-- a link's number, told
told_unlinked : (far : ℕ) → far ≡ 0 → ◌≡◌ {A = Result (Option PortIndex) NoSuchPort} (cond (eqb far 0) (Ok None) (Ok (Some (port# (far - 1))))) (Ok None)
told_unlinked far z = rw (eq-eqb far 0 z)

told_linked : (far s : ℕ) → far ≡ suc s → ◌≡◌ {A = Result (Option PortIndex) NoSuchPort} (cond (eqb far 0) (Ok None) (Ok (Some (port# (far - 1))))) (Ok (Some (port# s)))
told_linked far s e =
    let d : far - 1 ≡ s = omega arith in
    rw (ne_eqb far 0 (λ z. omega arith), d)

module _ {g : PortGraph} {M : Model} (good : Good M) (holds : Holds g M) where
  -- Ports.

  owner_of_place : (x : InnerPlace) → Valid M.node x → at g.port_meta (slot_of M.node x) ≡ owner_number x.node x.side
  owner_of_place x h =
      holds.owners (slot_of M.node x)
      ∙ (ap (λ (w : Who). owner_of_who M.node w (slot_of M.node x)) (slot_held good x h)
      ∙ owner_at x.node (M.node x.node) x.side x.pos h)

  pub port_of_place : (x : InnerPlace) → Valid M.node x → port_at g (slot_of M.node x) ≡ port_variants.Port (meta_of_place x)
  port_of_place x h = ap port_entry (owner_of_place x h) ∙ entry_of_owner x.node x.side

  in_block : (n : ℕ) (m : NodeMeta) (s : ℕ) → M.node n ≡ live m → Within m.first_port.0 m.capacity s →
      ((x : InnerPlace) × Valid M.node x × (slot_of M.node x ≡ s)) ⊎ (owner_of_slots n (M.node n) s ≡ 0)
  in_block n m s e w = go (ltb s (m.first_port.0 + m.incoming)) (ltb s (m.first_port.0 + (m.incoming + m.outgoing))) refl refl
    where
      go : (a b : Bool) → ltb s (m.first_port.0 + m.incoming) ≡ a → ltb s (m.first_port.0 + (m.incoming + m.outgoing)) ≡ b →
          ((x : InnerPlace) × Valid M.node x × (slot_of M.node x ≡ s)) ⊎ (owner_of_slots n (M.node n) s ≡ 0)
      go true b p q =
          let l : s < m.first_port.0 + m.incoming = ltb-true _ _ p in
          inl (record { node = n; side = Incoming; pos = s - m.first_port.0 }, rw e (omega arith), rw e (omega arith))
      go false true p q =
          let l : m.first_port.0 + m.incoming ≤ s = ltb-false _ _ p in
          let k : s < m.first_port.0 + (m.incoming + m.outgoing) = ltb-true _ _ q in
          inl (record { node = n; side = Outgoing; pos = s - m.first_port.0 - m.incoming }, rw e (omega arith), rw e (omega arith))
      go false false p q = inr (rw (e, p, q))

  -- a slot is a valid place's, or it has no owner
  pub slot_cases : (s : ℕ) → ((x : InnerPlace) × Valid M.node x × (slot_of M.node x ≡ s)) ⊎ (port_at g s ≡ port_variants.Free)
  slot_cases s = go (M.who s) refl
    where
      free : at g.port_meta s ≡ 0 → port_at g s ≡ port_variants.Free
      free e = ap port_entry e ∙ entry_of_none

      owned : (w : Who) → M.who s ≡ w → at g.port_meta s ≡ owner_of_who M.node w s
      owned w e = holds.owners s ∙ ap (λ (v : Who). owner_of_who M.node v s) e

      go : (w : Who) → M.who s ≡ w → ((x : InnerPlace) × Valid M.node x × (slot_of M.node x ≡ s)) ⊎ (port_at g s ≡ port_variants.Free)
      go (held n) e = let r = good.held_in s n e in ⊎_elim inl (λ z. inr (free (owned (held n) e ∙ z))) (in_block n r.0 s r.1 r.2)
      go (idle b k) e = inr (free (owned (idle b k) e))
      go unused e = inr (free (owned unused e))

  pub place_of_port : (p : ℕ) (k : PortMeta) → port_at g p ≡ port_variants.Port k → PlaceOf M p k
  place_of_port p k e = ⊎_elim found (λ f. absurd (zero_is_not_one (cc))) (slot_cases p)
    where
      found : (x : InnerPlace) × Valid M.node x × (slot_of M.node x ≡ p) → PlaceOf M p k
      found r =
          let q : port_at g p ≡ port_variants.Port (meta_of_place r.0) = ap (λ (s : ℕ). port_at g s) (sym r.2) ∙ port_of_place r.0 r.1 in
          let same : meta_of_place r.0 ≡ k = cc in
          record {
            place = r.0;
            valid = r.1;
            slot = r.2;
            node = ap (λ (m : PortMeta). m.node.0) same;
            side = ap (λ (m : PortMeta). m.direction) same;
          }

  -- no valid place has the slot of a port that is not live
  pub dead_port : (p : ℕ) → port_at g p ≡ port_variants.Free → Vacant (Valid M.node) (slot_of M.node) p
  dead_port p f x h e =
      let q : port_at g p ≡ port_variants.Port (meta_of_place x) = ap (λ (s : ℕ). port_at g s) (sym e) ∙ port_of_place x h in
      zero_is_not_one (cc)

  pub vacant_is_dead : (p : ℕ) → Vacant (Valid M.node) (slot_of M.node) p → port_at g p ≡ port_variants.Free
  vacant_is_dead p none = ⊎_elim (λ r. absurd (none r.0 r.1 r.2)) (λ f. f) (slot_cases p)

  unowned_is_vacant : (s : ℕ) (w : Who) → M.who s ≡ w → owner_of_who M.node w s ≡ 0 → Vacant (Valid M.node) (slot_of M.node) s
  unowned_is_vacant s w e z =
      dead_port s (ap port_entry (holds.owners s ∙ (ap (λ (v : Who). owner_of_who M.node v s) e ∙ z)) ∙ entry_of_none)

  -- free blocks and spare slots belong to no valid place
  pub idle_vacant : (k b s : ℕ) → Member b (M.free_blocks k) → Within b k s → Vacant (Valid M.node) (slot_of M.node) s
  idle_vacant k b s i w = unowned_is_vacant s (idle b k) (good.idle_by k b s i w) refl

  pub spare_vacant : (n : ℕ) (m : NodeMeta) (s : ℕ) → M.node n ≡ live m → m.first_port.0 + (m.incoming + m.outgoing) ≤ s → s < m.first_port.0 + m.capacity →
      Vacant (Valid M.node) (slot_of M.node) s
  spare_vacant n m s e low high =
      unowned_is_vacant s (held n) (good.held_by n m s e (omega arith))
      (rw (e, le-ltb s (m.first_port.0 + m.incoming) (omega arith), le-ltb s (m.first_port.0 + (m.incoming + m.outgoing)) low))

  -- Links.

  pub rep_of : Rep (Valid M.node) (slot_of M.node) M.join g.port_link
  rep_of =
      record {
        long = holds.links_long;
        fits = slot_in_range good;
        apart = slots_apart good;
        joined = record { valid = good.join_valid; back = good.join_back; sides = good.join_sides };
        links = λ x h. holds.links x h ∙ far_number_is_far_is M.node (M.join x);
      }

  pub link_to : (x y : InnerPlace) → Valid M.node x → M.join x ≡ to y → at g.port_link (slot_of M.node x) ≡ suc (slot_of M.node y)
  link_to x y h e = holds.links x h ∙ ap (far_number M.node) e

  pub link_none : (x : InnerPlace) → Valid M.node x → M.join x ≡ nowhere → at g.port_link (slot_of M.node x) ≡ 0
  link_none x h e = holds.links x h ∙ ap (far_number M.node) e

  pub none_linked : (x : InnerPlace) → Valid M.node x → at g.port_link (slot_of M.node x) ≡ 0 → M.join x ≡ nowhere
  none_linked x h z = go (M.join x) refl
    where
      go : (f : Far) → M.join x ≡ f → M.join x ≡ nowhere
      go nowhere e = e
      go (to y) e = let k = link_to x y h e in absurd (omega arith)

  pub port_link_dead : (p : ℕ) → Vacant (Valid M.node) (slot_of M.node) p → port_link g p ≡ Err (record { 0 = port# p })
  port_link_dead p none = ap (link_of g p) (vacant_is_dead p none)

  pub port_link_none : (x : InnerPlace) → Valid M.node x → M.join x ≡ nowhere → port_link g (slot_of M.node x) ≡ Ok None
  port_link_none x h e = ap (link_of g (slot_of M.node x)) (port_of_place x h) ∙ told_unlinked (at g.port_link (slot_of M.node x)) (link_none x h e)

  pub port_link_to : (x y : InnerPlace) → Valid M.node x → M.join x ≡ to y → port_link g (slot_of M.node x) ≡ Ok (Some (port# (slot_of M.node y)))
  port_link_to x y h e =
      ap (link_of g (slot_of M.node x)) (port_of_place x h) ∙ told_linked (at g.port_link (slot_of M.node x)) (slot_of M.node y) (link_to x y h e)

  -- Nodes.

  pub entry_of_node : (n : ℕ) (m : NodeMeta) → M.node n ≡ live m → entry_at g n ≡ node_variants.Node m
  entry_of_node n m e = go (entry_at g n) (holds.nodes n ∙ e)
    where
      go : (v : NodeEntry) → slots_of_entry v ≡ live m → v ≡ node_variants.Node m
      go (node_variants.Free f) q = absurd (gone_not_live refl q)
      go (node_variants.Node k) q = cc

  pub meta_of_node : (n : ℕ) (m : NodeMeta) → M.node n ≡ live m → meta_at g n ≡ Some m
  meta_of_node n m e = ap meta_of_entry (entry_of_node n m e)

  pub node_of_meta : (n : ℕ) (m : NodeMeta) → meta_at g n ≡ Some m → M.node n ≡ live m
  node_of_meta n m e = sym (holds.nodes n) ∙ go (entry_at g n) e
    where
      go : (v : NodeEntry) → meta_of_entry v ≡ Some m → slots_of_entry v ≡ live m
      go (node_variants.Free f) q = absurd (zero_is_not_one (cc))
      go (node_variants.Node k) q = cc

  pub gone_has_no_meta : (n : ℕ) → M.node n ≡ gone → meta_at g n ≡ None
  gone_has_no_meta n e = go (entry_at g n) (holds.nodes n ∙ e)
    where
      go : (v : NodeEntry) → slots_of_entry v ≡ gone → meta_of_entry v ≡ None
      go (node_variants.Free f) q = refl
      go (node_variants.Node k) q = absurd (gone_not_live q refl)

  -- Ports by side and position.

  index_in : (m : NodeMeta) (d : Direction) (p : ℕ) → p < ports_on m d →
      port_in (Some m) (record { direction = d; index = p }) ≡ Some (port# (m.first_port.0 + (side_start (live m) d + p)))
  index_in m Incoming p h = rw (lt-ltb p m.incoming h) (ap (λ (s : ℕ). Some (port# s)) (omega arith))
  index_in m Outgoing p h = rw (lt-ltb p m.outgoing h) (ap (λ (s : ℕ). Some (port# s)) (omega arith))

  pub port_index_is : (x : InnerPlace) → Valid M.node x → port_index g x.node (offset_of_place x) ≡ Some (port# (slot_of M.node x))
  port_index_is x h =
      let r = slot_in_block good x h in
      let k : x.pos < ports_on r.0 x.side = rw r.1 at h in
      ap (λ (v : Option NodeMeta). port_in v (offset_of_place x)) (meta_of_node x.node r.0 r.1)
      ∙ (index_in r.0 x.side x.pos k
      ∙ ap (λ (v : Slots). Some (port# (first_of v + (side_start v x.side + x.pos)))) (sym r.1))

  -- a claim that nothing below cites: an answered port is the port of that valid place
  pub place_of_index : (x : InnerPlace) (p : PortIndex) → port_index g x.node (offset_of_place x) ≡ Some p → Valid M.node x × (slot_of M.node x ≡ p.0)
  place_of_index x p e = go (meta_at g x.node) refl
    where
      slot : Valid M.node x → slot_of M.node x ≡ p.0
      slot h =
          let q = port_index_is x h in
          let same : port# (slot_of M.node x) ≡ p = cc in
          ap (λ (i : PortIndex). i.0) same

      go : (v : Option NodeMeta) → meta_at g x.node ≡ v → Valid M.node x × (slot_of M.node x ≡ p.0)
      go None q =
          let f : port_index g x.node (offset_of_place x) ≡ None = ap (λ (v : Option NodeMeta). port_in v (offset_of_place x)) q in
          absurd (zero_is_not_one (cc))
      go (Some m) q = test (ltb x.pos (ports_on m x.side)) refl
        where
          answer : port_index g x.node (offset_of_place x) ≡ port_in (Some m) (offset_of_place x)
          answer = ap (λ (v : Option NodeMeta). port_in v (offset_of_place x)) q

          test : (b : Bool) → ltb x.pos (ports_on m x.side) ≡ b → Valid M.node x × (slot_of M.node x ≡ p.0)
          test true t =
              let h : Valid M.node x = rw (node_of_meta x.node m q) (ltb-true _ _ t) in
              (h, slot h)
          test false t =
              let f : port_index g x.node (offset_of_place x) ≡ None = answer ∙ rw t in
              absurd (zero_is_not_one (cc))

  offset_in_lem : (m : NodeMeta) (d : Direction) (p : ℕ) →
      offset_in (m.first_port.0 + (side_start (live m) d + p)) d (Some m) ≡ Some (record { direction = d; index = p })
  offset_in_lem m Incoming p = ap (λ (i : ℕ). Some (record { direction = Incoming; index = i })) (omega arith)
  offset_in_lem m Outgoing p = ap (λ (i : ℕ). Some (record { direction = Outgoing; index = i })) (omega arith)

  pub port_offset_is : (x : InnerPlace) → Valid M.node x → port_offset g (slot_of M.node x) ≡ Some (offset_of_place x)
  port_offset_is x h =
      let r = slot_in_block good x h in
      ap (offset_of g (slot_of M.node x)) (port_of_place x h)
      ∙ (ap (offset_in (slot_of M.node x) x.side) (meta_of_node x.node r.0 r.1)
      ∙ (ap (λ (v : Slots). offset_in (first_of v + (side_start v x.side + x.pos)) x.side (Some r.0)) r.1
      ∙ offset_in_lem r.0 x.side x.pos))
