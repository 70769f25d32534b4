-- A node gets other counts, in its block or in another one: what both have in common.
-- The links of dropped ports are cut; a place that stays is told by its old and its new slot; node table and counts follow the model.
use Rattle.std.specs.Prelude.{◌≡◌, Bool, List, ◌⊎◌, ℕ, ◌+◌, ◌-◌, ◌≤◌, ◌<◌, min, ltb, set}
use Rattle.std.proofs.Math.Path.{refl, ap, fun_ext}
use Rattle.std.proofs.Common.{sym, ◌∙◌, subst, inl, inr, arith, ltb-true, ltb-false, leb-true, leb-false, eqb-true, eq-eqb, le-leb}
use Rattle.std.proofs.Math.Bool.{true, false, cond}
use Rattle.std.proofs.Math.Dec.{eqb, leb}
use Rattle.std.proofs.lemmas.Bool.{eqb-false}
use Rattle.port_tables.specs.Limits.{node_slots}
use Rattle.port_tables.specs.Entries.{ports_on, node_slot_of, same_side, new_count, meta_of}
use Rattle.port_tables.specs.Tables.{at, cut_count}
use Rattle.portgraph.specs.Model.{Model, Far, nowhere, to, Slots, live, Valid, Good, Holds, count_of, first_of, side_start, slot_of, slots_at, NodeChain, is_live, ports_of, out_place, total, InnerPlace, Vacant}
use Rattle.portgraph.specs.Meaning.{upd, drop_join, beyond}
use Rattle.portgraph.specs.Joins.{drop_joined, drop_twice, upd_same, upd_other}
use Rattle.port_tables.specs.Listing.{zero_is_not_one}
use Rattle.port_tables.specs.ResizeLinks.{first_slot, kept_incoming, kept_outgoing, drop_incoming, drop_links, drop_count}
use Rattle.portgraph.specs.LinkLaws.{Rep, NoneOf, Cleared, side_place, not_of_side, cut_range_at, rep_same, rep_weaken}
use Rattle.portgraph.specs.GoodSlots.{gone_not_live, node_below}
use Rattle.portgraph.specs.Sums.{all_links, one_link_less, total_has, links_after_recount}
use Rattle.portgraph.specs.PlaceLaws.{rep_of}
use Rattle.portgraph.specs.LinkHolds.{node_in_range}
use Rattle.portgraph.specs.BlockHolds.{slot_of_other, valid_other, total_after}
use Rattle.portgraph.specs.SlotHolds.{nodes_after_set}
use Rattle.portgraph.specs.Chains.{node_chain_set}
use Rattle.port_tables.specs.declared.direction.Direction.{Direction}
use Rattle.port_tables.specs.declared.direction.Direction.TheVariants.{Incoming, Outgoing}
use Rattle.port_tables.specs.declared.node_entry.NodeMeta.{NodeMeta}
use Rattle.portgraph.specs.declared.portgraph.PortGraph.{PortGraph}

-- Places of one node.

-- a port of a node, by its side
pub data Sided (m : NodeMeta) (y : InnerPlace) (s : ℕ) : Type 0 where
  coming : y.side ≡ Incoming → y.pos < m.incoming → s ≡ first_slot m + y.pos → Sided m y s
  going : y.side ≡ Outgoing → y.pos < m.outgoing → s ≡ first_slot m + (m.incoming + y.pos) → Sided m y s

pub sided : (node : ℕ → Slots) (n : ℕ) (m : NodeMeta) → node n ≡ live m → (y : InnerPlace) → y.node ≡ n → Valid node y → Sided m y (slot_of node y)
sided node n m here y e v =
    go y.side refl (subst (λ (s : Slots). y.pos < count_of s y.side) is v)
    (ap (λ (s : Slots). first_of s + (side_start s y.side + y.pos)) is)
  where
    is : node y.node ≡ live m
    is = ap node e ∙ here

    go : (d : Direction) → y.side ≡ d → y.pos < ports_on m y.side → slot_of node y ≡ first_slot m + (side_start (live m) y.side + y.pos) → Sided m y (slot_of node y)
    go Incoming q h k = coming q (rw q at h) (k ∙ rw q (omega arith))
    go Outgoing q h k = going q (rw q at h) (k ∙ rw q refl)

-- a place that has a port under the old and the new counts: s is its old slot, s' its new one
pub data Stay (n : ℕ) (m l : NodeMeta) (y : InnerPlace) (s s' : ℕ) : Type 0 where
  elsewhere : (y.node ≡ n → ⊥) → s' ≡ s → Stay n m l y s s'
  coming : y.node ≡ n → y.side ≡ Incoming → y.pos < m.incoming → y.pos < l.incoming
      → s ≡ first_slot m + y.pos → s' ≡ first_slot l + y.pos → Stay n m l y s s'
  going : y.node ≡ n → y.side ≡ Outgoing → y.pos < m.outgoing → y.pos < l.outgoing
      → s ≡ first_slot m + (m.incoming + y.pos) → s' ≡ first_slot l + (l.incoming + y.pos) → Stay n m l y s s'

abbrev pub Stays : (ℕ → Slots) → (ℕ → Slots) → InnerPlace → Type 0
Stays node other y = Valid node y × Valid other y

sides_differ : {d : Direction} → d ≡ Incoming → d ≡ Outgoing → ⊥
sides_differ p q = zero_is_not_one (cc)

module _ (node : ℕ → Slots) (n : ℕ) (m l : NodeMeta) (here : node n ≡ live m) where
  pub stay : (y : InnerPlace) → Stays node (upd node n (live l)) y → Stay n m l y (slot_of node y) (slot_of (upd node n (live l)) y)
  stay y v = go (eqb y.node n) refl
    where
      both : y.node ≡ n → Sided m y (slot_of node y) → Sided l y (slot_of (upd node n (live l)) y) → Stay n m l y (slot_of node y) (slot_of (upd node n (live l)) y)
      both e (coming q h k) (coming q' h' k') = coming e q h h' k k'
      both e (coming q h k) (going q' h' k') = absurd (sides_differ q q')
      both e (going q h k) (coming q' h' k') = absurd (sides_differ q' q)
      both e (going q h k) (going q' h' k') = going e q h h' k k'

      go : (b : Bool) → eqb y.node n ≡ b → Stay n m l y (slot_of node y) (slot_of (upd node n (live l)) y)
      go true t =
          let e : y.node ≡ n = eqb-true _ _ t in
          both e (sided node n m here y e v.0) (sided (upd node n (live l)) n l (upd_same node n (live l)) y e v.1)
      go false t =
          let e : y.node ≡ n → ⊥ = eqb-false _ _ t in
          elsewhere e (slot_of_other node n (live l) y e)

  -- where slots of new ports hold no link: a port of the new counts stays, or its slot holds none
  pub stays_or_new : (t : List ℕ) → ((p : ℕ) → m.incoming ≤ p → p < l.incoming → at t (first_slot l + p) ≡ 0)
      → ((p : ℕ) → m.outgoing ≤ p → p < l.outgoing → at t (first_slot l + (l.incoming + p)) ≡ 0) → (x : InnerPlace) → Valid (upd node n (live l)) x
      → Stays node (upd node n (live l)) x ⊎ ((Stays node (upd node n (live l)) x → ⊥) × (at t (slot_of (upd node n (live l)) x) ≡ 0))
  stays_or_new t no_in noOut x v = go (ltb x.pos (count_of (node x.node) x.side)) refl
    where
      old : (d : Direction) → x.node ≡ n → x.side ≡ d → count_of (node x.node) x.side ≡ ports_on m d
      old d e q = ap (λ (s : Slots). count_of s x.side) (ap node e ∙ here) ∙ ap (ports_on m) q

      by_side : count_of (node x.node) x.side ≤ x.pos → x.node ≡ n → Sided l x (slot_of (upd node n (live l)) x) → at t (slot_of (upd node n (live l)) x) ≡ 0
      by_side k e (coming q h f) = let c : count_of (node x.node) x.side ≡ m.incoming = old Incoming e q in ap (at t) f ∙ no_in x.pos (omega arith) h
      by_side k e (going q h f) = let c : count_of (node x.node) x.side ≡ m.outgoing = old Outgoing e q in ap (at t) f ∙ noOut x.pos (omega arith) h

      at_node : count_of (node x.node) x.side ≤ x.pos → (b : Bool) → eqb x.node n ≡ b → at t (slot_of (upd node n (live l)) x) ≡ 0
      at_node k true e = let q : x.node ≡ n = eqb-true _ _ e in by_side k q (sided (upd node n (live l)) n l (upd_same node n (live l)) x q v)
      at_node k false e = let w : Valid node x = valid_other node n (live l) x (eqb-false _ _ e) v in absurd (omega arith)

      go : (b : Bool) → ltb x.pos (count_of (node x.node) x.side) ≡ b → Stays node (upd node n (live l)) x ⊎ ((Stays node (upd node n (live l)) x → ⊥) × (at t (slot_of (upd node n (live l)) x) ≡ 0))
      go true e = inl (ltb-true _ _ e, v)
      go false e =
          let k : count_of (node x.node) x.side ≤ x.pos = ltb-false _ _ e in
          inr ((λ w. let h : Valid node x = w.0 in omega arith), at_node k (eqb x.node n) refl)

pub same_live : {s : Slots} {m l : NodeMeta} → s ≡ live m → s ≡ live l → m ≡ l
same_live p q = cc

-- Dropped ports.

-- the dropped places of the incoming side
abbrev beyond_in : ℕ → ℕ → ℕ → InnerPlace → Bool
beyond_in n incoming outgoing z = cond (same_side z.side Incoming) (beyond n incoming outgoing z) false

pub is_beyond : (n incoming outgoing : ℕ) (y : InnerPlace) → y.node ≡ n → new_count incoming outgoing y.side ≤ y.pos → beyond n incoming outgoing y ≡ true
is_beyond n incoming outgoing y e h = rw (eq-eqb y.node n e) (le-leb (new_count incoming outgoing y.side) y.pos h)

-- the links of dropped ports are cut: the table stands for the links that are left, and slots without a port keep their number
pub record Dropped (M : Model) (n : ℕ) (m : NodeMeta) (incoming outgoing : ℕ) (t : List ℕ) : Type 0 where
  pub rep : Rep (Valid M.node) (slot_of M.node) (drop_join (beyond n incoming outgoing) M.join) (drop_links t m incoming outgoing)
  pub kept : (s : ℕ) → Vacant (Valid M.node) (slot_of M.node) s → at (drop_links t m incoming outgoing) s ≡ at t s
  pub count : drop_count t m incoming outgoing + all_links M.node (drop_join (beyond n incoming outgoing) M.join) ≡ all_links M.node M.join

module _ {g : PortGraph} {M : Model} (good : Good M) (holds : Holds g M) (n : ℕ) (m : NodeMeta) (here : M.node n ≡ live m) (incoming outgoing : ℕ) where
  -- a dropped port of a side is one of the cut run
  of_the_run : (d : Direction) (j : ℕ) (y : InnerPlace) → j ≡ min (ports_on m d) (new_count incoming outgoing d) → Valid M.node y → y.node ≡ n → y.side ≡ d
      → new_count incoming outgoing y.side ≤ y.pos → NoneOf (side_place n d j) (ports_on m d - j) y → ⊥
  of_the_run d j y k v e q h none =
      let a : y.pos < ports_on m y.side = subst (λ (s : Slots). y.pos < count_of s y.side) (ap M.node e ∙ here) v in
      let b : y.pos < ports_on m d = rw q at a in
      let c : new_count incoming outgoing d ≤ y.pos = rw q at h in
      not_of_side n d j (ports_on m d - j) y none e q (omega arith) (omega arith)

  first_drop : Cleared (Valid M.node) (slot_of M.node) M.join (drop_join (beyond_in n incoming outgoing) M.join)
      (first_slot m + kept_incoming m incoming) (m.incoming - kept_incoming m incoming) g.port_link (drop_incoming g.port_link m incoming)
  unfolding drop_incoming
  first_drop =
      cut_range_at (m.incoming - kept_incoming m incoming) (side_place n Incoming (kept_incoming m incoming)) (beyond_in n incoming outgoing) M.join g.port_link (first_slot m + kept_incoming m incoming)
      (rep_of good holds)
      (record { there = λ i l. rw here (omega arith); numbered = λ i l. rw here (omega arith) })
      (λ i l. is_beyond n incoming outgoing (side_place n Incoming (kept_incoming m incoming) i) refl (omega arith))
      out
    where
      out : (y w : InnerPlace) → M.join y ≡ to w → NoneOf (side_place n Incoming (kept_incoming m incoming)) (m.incoming - kept_incoming m incoming) y → beyond_in n incoming outgoing y ≡ false
      out y w e none = go y.side (eqb y.node n) (leb (new_count incoming outgoing y.side) y.pos) refl refl refl
        where
          go : (d : Direction) (a b : Bool) → y.side ≡ d → eqb y.node n ≡ a → leb (new_count incoming outgoing y.side) y.pos ≡ b → cond (same_side d Incoming) (cond a b false) false ≡ false
          go Outgoing a b q p r = refl
          go Incoming false b q p r = refl
          go Incoming true false q p r = refl
          go Incoming true true q p r =
              absurd (of_the_run Incoming (kept_incoming m incoming) y refl (good.join_valid y w e) (eqb-true _ _ p) q (leb-true _ _ r) none)

  second_drop : Cleared (Valid M.node) (slot_of M.node) (drop_join (beyond_in n incoming outgoing) M.join)
      (drop_join (beyond n incoming outgoing) (drop_join (beyond_in n incoming outgoing) M.join))
      (first_slot m + m.incoming + kept_outgoing m outgoing) (m.outgoing - kept_outgoing m outgoing) (drop_incoming g.port_link m incoming) (drop_links g.port_link m incoming outgoing)
  unfolding drop_links
  second_drop =
      cut_range_at (m.outgoing - kept_outgoing m outgoing) (side_place n Outgoing (kept_outgoing m outgoing)) (beyond n incoming outgoing) (drop_join (beyond_in n incoming outgoing) M.join)
      (drop_incoming g.port_link m incoming) (first_slot m + m.incoming + kept_outgoing m outgoing)
      first_drop.rep
      (record { there = λ i l. rw here (omega arith); numbered = λ i l. rw here (omega arith) })
      (λ i l. is_beyond n incoming outgoing (side_place n Outgoing (kept_outgoing m outgoing) i) refl (omega arith))
      out
    where
      out : (y w : InnerPlace) → drop_join (beyond_in n incoming outgoing) M.join y ≡ to w → NoneOf (side_place n Outgoing (kept_outgoing m outgoing)) (m.outgoing - kept_outgoing m outgoing) y → beyond n incoming outgoing y ≡ false
      out y w e none = go y.side (eqb y.node n) (leb (new_count incoming outgoing y.side) y.pos) refl refl refl d.1
        where
          d : (M.join y ≡ to w) × (beyond_in n incoming outgoing y ≡ false) × (beyond_in n incoming outgoing w ≡ false)
          d = drop_joined (beyond_in n incoming outgoing) M.join y w e

          go : (c : Direction) (a b : Bool) → y.side ≡ c → eqb y.node n ≡ a → leb (new_count incoming outgoing y.side) y.pos ≡ b → cond (same_side c Incoming) (cond a b false) false ≡ false → cond a b false ≡ false
          go Incoming a b q p r k = k
          go Outgoing false b q p r k = refl
          go Outgoing true false q p r k = refl
          go Outgoing true true q p r k =
              absurd (of_the_run Outgoing (kept_outgoing m outgoing) y refl (good.join_valid y w d.0) (eqb-true _ _ p) q (leb-true _ _ r) none)

  pub drops : Dropped M n m incoming outgoing g.port_link
  unfolding drop_count
  drops =
      let a : cut_count g.port_link (first_slot m + kept_incoming m incoming) (m.incoming - kept_incoming m incoming) + all_links M.node (drop_join (beyond_in n incoming outgoing) M.join) ≡ all_links M.node M.join =
      first_drop.count (all_links M.node) (λ K j x v. one_link_less M.node K (node_in_range good holds) j x) in
      let b : cut_count (drop_incoming g.port_link m incoming) (first_slot m + m.incoming + kept_outgoing m outgoing) (m.outgoing - kept_outgoing m outgoing) + all_links M.node (drop_join (beyond n incoming outgoing) (drop_join (beyond_in n incoming outgoing) M.join)) ≡ all_links M.node (drop_join (beyond_in n incoming outgoing) M.join) =
      second_drop.count (all_links M.node) (λ K j x v. one_link_less M.node K (node_in_range good holds) j x) in
      let c : all_links M.node (drop_join (beyond n incoming outgoing) (drop_join (beyond_in n incoming outgoing) M.join)) ≡ all_links M.node (drop_join (beyond n incoming outgoing) M.join) =
      ap (all_links M.node) (fun_ext same) in
      record {
        rep = rep_same second_drop.rep same (λ y v. refl);
        kept = λ s free. second_drop.kept s free ∙ first_drop.kept s free;
        count = omega arith;
      }
    where
      same : (z : InnerPlace) → drop_join (beyond n incoming outgoing) (drop_join (beyond_in n incoming outgoing) M.join) z ≡ drop_join (beyond n incoming outgoing) M.join z
      same = drop_twice (beyond_in n incoming outgoing) (beyond n incoming outgoing) (beyond n incoming outgoing) M.join either
        where
          either : (z : InnerPlace) → beyond n incoming outgoing z ≡ cond (beyond_in n incoming outgoing z) true (beyond n incoming outgoing z)
          either z = go (same_side z.side Incoming) (beyond n incoming outgoing z)
            where
              go : (a b : Bool) → b ≡ cond (cond a b false) true b
              go true true = refl
              go true false = refl
              go false b = refl

  -- The node's new entry: counts incoming and outgoing in a block of size slots from first on.
  module _ (first size : ℕ) where
    abbrev fresh : NodeMeta
    fresh = meta_of first incoming outgoing size

    below : n < node_slots
    below = node_below good n m here

    pub recount_nodes : (k : ℕ) → slots_at (set g.node_meta n (node_slot_of (meta_of first incoming outgoing size))) k ≡ upd M.node n (live (meta_of first incoming outgoing size)) k
    recount_nodes =
        let b = below in
        let long = holds.nodes_long in
        nodes_after_set g.node_meta M.node n (node_slot_of fresh) (omega arith) holds.nodes

    pub recount_chain : NodeChain (set g.node_meta n (node_slot_of (meta_of first incoming outgoing size))) 0 M.free_nodes
    recount_chain = node_chain_set g.node_meta n 0 (node_slot_of fresh) M.free_nodes (λ i. gone_not_live (good.free_gone n i) here) holds.node_chain

    pub recount_live : g.node_count ≡ total node_slots (λ k. is_live (upd M.node n (live (meta_of first incoming outgoing size)) k))
    recount_live =
        let a = total_after M.node n (live fresh) is_live below in
        let b : is_live (M.node n) ≡ 1 = ap is_live here in
        let c = holds.node_count in
        omega arith

    pub recount_ports : g.port_count - (m.incoming + m.outgoing) + (incoming + outgoing) ≡ total node_slots (λ k. ports_of (upd M.node n (live (meta_of first incoming outgoing size)) k))
    recount_ports =
        let a = total_after M.node n (live fresh) ports_of below in
        let b : ports_of (M.node n) ≡ m.incoming + m.outgoing = ap ports_of here in
        let c = total_has node_slots n (λ k. ports_of (M.node k)) below in
        let d = holds.port_count in
        omega arith

    -- a place that keeps a link has a port under the old counts and is not dropped
    pub recount_links : g.link_count - drop_count g.port_link m incoming outgoing ≡ all_links (upd M.node n (live (meta_of first incoming outgoing size))) (drop_join (beyond n incoming outgoing) M.join)
    recount_links =
        let a : drop_count g.port_link m incoming outgoing + all_links M.node J ≡ all_links M.node M.join = drops.count in
        let b : all_links (upd M.node n (live fresh)) J ≡ all_links M.node J =
        links_after_recount M.node (upd M.node n (live fresh)) J n (λ k other. ap (λ (s : Slots). count_of s Outgoing) (sym (upd_other M.node n (live fresh) k other))) none in
        let c : g.link_count ≡ all_links M.node M.join = holds.link_count in
        omega arith
      where
        J : InnerPlace → Far
        J = drop_join (beyond n incoming outgoing) M.join

        none : (i : ℕ) → min (count_of (M.node n) Outgoing) (count_of (upd M.node n (live fresh) n) Outgoing) ≤ i → drop_join (beyond n incoming outgoing) M.join (out_place n i) ≡ nowhere
        none i h = go (drop_join (beyond n incoming outgoing) M.join (out_place n i)) refl
          where
            go : (f : Far) → drop_join (beyond n incoming outgoing) M.join (out_place n i) ≡ f → f ≡ nowhere
            go nowhere e = refl
            go (to y) e =
                let d = drop_joined (beyond n incoming outgoing) M.join (out_place n i) y e in
                let a : i < m.outgoing = rw here at (good.join_valid (out_place n i) y d.0) in
                let b : leb outgoing i ≡ false = rw (eq-eqb n n refl) at d.1 in
                let c : i < outgoing = leb-false _ _ b in
                let k : min m.outgoing outgoing ≤ i = rw (here, upd_same M.node n (live fresh)) at h in
                absurd (omega arith)

    -- the table after the drops, for the places that stay
    pub stays_rep : ((x y : InnerPlace) → drop_join (beyond n incoming outgoing) M.join x ≡ to y → Valid (upd M.node n (live (meta_of first incoming outgoing size))) x)
        → Rep (Stays M.node (upd M.node n (live (meta_of first incoming outgoing size)))) (slot_of M.node) (drop_join (beyond n incoming outgoing) M.join) (drop_links g.port_link m incoming outgoing)
    stays_rep valid =
        let j = drops.rep.joined in
        rep_weaken drops.rep (λ x v. v.0) (record { valid = λ x y e. (j.valid x y e, valid x y e); back = j.back; sides = j.sides })
