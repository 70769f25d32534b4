-- What is read off the tables is what an end needs, a preparation does what the need says, and there is room for both ends of a link
-- exactly if the test of heads and lengths says so.
use Rattle.std.specs.Prelude.{◌≡◌, Bool, ◌||◌, ℕ, zero, suc, ◌+◌, ◌-◌, ◌≤◌, ◌<◌, ltb, Option, Some, Ok}
use Rattle.std.proofs.Math.Path.{refl, sym, ap}
use Rattle.std.proofs.Common.{◌∙◌, subst}
use Rattle.std.proofs.Math.Bool.{true, false, cond, not}
use mathlib.Core.List.{List, [], ◌∷◌, ◌++◌}
use native.Mathlib.Omega.{arith}
use Rattle.std.proofs.Math.Dec.{eqb, leb}
use borrow.Author.Tests.{eqb-true, eqb-false, eq-eqb, ne_eqb, le-leb, le-ltb, leb-true, leb-false, lt-ltb, ltb-true}
use Rattle.port_tables.specs.Limits.{node_slots, port_slots, node_ports}
use Rattle.port_tables.specs.Entries.{ports_on, next_of, node#}
use Rattle.port_tables.specs.Tables.{at, head_at}
use Rattle.portgraph.specs.Meaning as meaning
use Rattle.portgraph.specs.Meaning.{upd, rest, growth}
use Rattle.portgraph.specs.Lookups.{meta_at, count_in, num_ports}
use Rattle.portgraph.specs.Calls.{rest_of, grown}
use Rattle.port_tables.specs.ResizeLinks.{BlockFits, round_up}
use Rattle.portgraph.specs.ResizeSteps.{round_up_is_least, round_up_positive}
use Rattle.portgraph.specs.LookupSteps.{found_block_fits, side_fits}
use Rattle.portgraph.specs.GoodSlots.{zero_is_not_one, upd_same, upd_other}
use Rattle.portgraph.specs.Model.{Model, Holds, Chain, NodeChain, number_of_first, slot_of, count_of}
use Rattle.portgraph.specs.PlaceLaws.{meta_of_node}
use Rattle.portgraph.specs.declared.portgraph.PortGraph.{PortGraph}
use Rattle.port_tables.specs.NodeTable.{slot_in}
use Rattle.port_tables.specs.declared.direction.Direction.{Direction}
use Rattle.port_tables.specs.declared.index.NodeIndex.{NodeIndex}
use Rattle.port_tables.specs.declared.node_entry.NodeMeta.{NodeMeta}
use Rattle.multiportgraph.specs.Reading.{has_link, is_split, copy_node, subports, port_of}
use Rattle.multiportgraph.specs.HiddenNodes as hiding
use Rattle.multiportgraph.specs.CodeForms.{Prepared, prepared_as}
use Rattle.multi_tables.specs.Forms.{flag_at, lowest_unlinked}
use Rattle.multiportgraph.specs.Space.{Room, room_of, Work, give_block, block_taken, after_work, after_works, overflows, move_works, split_works, grow_works, reuse_works, prepare_works}
use Rattle.multiportgraph.specs.SpaceLaws.{overfull, overflows_at_end, after_append, overflows_append, room_is, PreparedSpace, prepare_seen_space}
use Rattle.multiportgraph.specs.Ends.{BlockPort, block_seen, split_has_copy}
use Rattle.multiportgraph.specs.PrepareLaws.{prepare_law, prepare_again}
use Rattle.multiportgraph.specs.CallSteps.{lower_wf}
use Rattle.multiportgraph.specs.PrepareSteps.{lowest_same}
use Rattle.multiportgraph.specs.LinkSteps.{others_stay}
use Rattle.multi_tables.specs.TableReads.{far_in, owner_in}
use Rattle.multiportgraph.specs.TableReadLaws.{mark_told, owner_read}
use Rattle.multiportgraph.specs.NamedLaws.{has_link_lem}
use Rattle.multiportgraph.specs.Needs.{copy_need, need_of, prepared_for, side_slot, copy_need_in, need_in, GrowsFew, takes_nothing, takes_of, next_free, nodes_left, head_left, ports_left, room_for}
use Rattle.multiportgraph.specs.declared.multiportgraph.MultiPortGraph.{MultiPortGraph}
use Rattle.multi_tables.specs.declared.answers.Refusal.TheVariants.{NoRoom}
use Rattle.multiportgraph.specs.declared.needs.Need.{Need}
use Rattle.multiportgraph.specs.declared.needs.Need.TheVariants as need
use Rattle.multiportgraph.specs.declared.needs.Takes.{Takes}
use Rattle.multiportgraph.specs.HiddenNodes.{lowest_free, split, grow, reuse, prepare, prepare_under, reuse_under}
use Rattle.multiportgraph.specs.Cases.{link_refused, link_second, link_live}
use Rattle.multiportgraph.specs.Presumed.{OnBlock, LinkedPort, BothOnBlock, GrowPort}
use Rattle.portgraph.specs.Joins.{either_way}

-- the hidden node of a split port, with its meta data
record CopyOf (m : MultiPortGraph) (p : ℕ) (d : Direction) : Type 0 where
  meta : NodeMeta
  here : meta_at m.graph (copy_node m p) ≡ Some meta
  several : 2 ≤ ports_on meta d
  fits : BlockFits meta

module _ {m : MultiPortGraph} {p : ℕ} {d : Direction} (b : OnBlock m p d) where
  block : BlockPort m b.wf.model p b.node d
  block = block_seen b.wf.fine p b.node d b.is

  copy_of : is_split m p ≡ true → CopyOf m p d
  copy_of t =
      let f = b.wf.fine in
      let h = split_has_copy f block.place block.is_seen (ap (is_split m) block.slot ∙ t) in
      let k = f.copy h.copy h.is_copy in
      let is : h.copy ≡ copy_node m p = sym h.copy_is ∙ ap (copy_node m) block.slot in
      let here : meta_at m.graph (copy_node m p) ≡ Some k.meta = ap (meta_at m.graph) (sym is) ∙ meta_of_node f.good f.holds h.copy k.meta k.here in
      let count : count_of (b.wf.model.node h.copy) block.place.side ≡ ports_on k.meta d = (λ i. count_of (k.here i) (block.side i)) in
      let many = h.several in
      record { meta = k.meta; here = here; several = omega arith; fits = found_block_fits m.graph (lower_wf m b.wf) (copy_node m p) k.meta (sym here) }

  -- A preparation does what the need says.

  reuse_by : (c : ℕ) (o n : ℕ) (u : Option NodeMeta) (k : NodeMeta) → meta_at m.graph c ≡ u → u ≡ Some k → n ≡ ports_on k d → o ≡ lowest_free m.graph c d 0 n →
      reuse m c d o ≡ prepared_for m p d (copy_need m d c u)
  unfolding reuse_under
  reuse_by c o n u k e f g h = rw (f ∙ refl) (go (ltb (lowest_free m.graph c d 0 (ports_on k d)) (ports_on k d)))
    where
      low : o ≡ lowest_free m.graph c d 0 (ports_on k d)
      low = h ∙ ap (lowest_free m.graph c d 0) g

      count : num_ports m.graph c d ≡ ports_on k d
      count = ap (λ (v : Option NodeMeta). count_in v d) (e ∙ f)

      go : (t : Bool) → cond (ltb o (num_ports m.graph c d)) (hiding.ready m (port_of m.graph c d o) o) (grow m c d)
          ≡ prepared_for m p d (cond (ltb (lowest_free m.graph c d 0 (ports_on k d)) (ports_on k d)) (need.Ready (port_of m.graph c d (lowest_free m.graph c d 0 (ports_on k d))) (lowest_free m.graph c d 0 (ports_on k d))) (need.Grow (node# c) k))
      go t = rw (low, count) (by (ltb (lowest_free m.graph c d 0 (ports_on k d)) (ports_on k d)) (port_of m.graph c d (lowest_free m.graph c d 0 (ports_on k d))) (lowest_free m.graph c d 0 (ports_on k d)))
        where
          by : (t : Bool) (x o : ℕ) → cond t (hiding.ready m x o) (grow m c d) ≡ prepared_for m p d (cond t (need.Ready x o) (need.Grow (node# c) k))
          by true x o = refl
          by false x o = refl

  pub prepare_need : prepare m p d ≡ prepared_for m p d (need_of m p d)
  unfolding prepare_under need_of subports
  prepare_need = go (is_split m p) refl
    where
      plain : (t : Bool) → cond t (split m p d) (hiding.ready m p 0) ≡ prepared_for m p d (cond t need.Split (need.Ready p 0))
      plain true = refl
      plain false = refl

      go : (t : Bool) → is_split m p ≡ t →
          cond (is_split m p) (reuse m (copy_node m p) d (lowest_free m.graph (copy_node m p) d 0 (subports m p d))) (cond (has_link m.graph p) (split m p d) (hiding.ready m p 0))
          ≡ prepared_for m p d (cond (is_split m p) (copy_need m d (copy_node m p) (meta_at m.graph (copy_node m p))) (cond (has_link m.graph p) need.Split (need.Ready p 0)))
      go true e =
          let k = copy_of e in
          rw e (reuse_by (copy_node m p) _ (num_ports m.graph (copy_node m p) d) (meta_at m.graph (copy_node m p)) k.meta refl k.here (ap (λ (v : Option NodeMeta). count_in v d) k.here) refl)
      go false e = rw e (plain (has_link m.graph p))

  -- The need that is read is the graph's.

  side_start : (k : NodeMeta) → meta_at m.graph (copy_node m p) ≡ Some k → (i : ℕ) → i < ports_on k d → port_of m.graph (copy_node m p) d i ≡ side_slot k d + i
  unfolding port_of
  side_start k e i l = rw (e, lt-ltb i (ports_on k d) l)

  copy_read : is_split m p ≡ true → (u : Option NodeMeta) → u ≡ meta_at m.graph (copy_node m p) →
      copy_need_in m.graph.port_link d (copy_node m p) u ≡ copy_need m d (copy_node m p) (meta_at m.graph (copy_node m p))
  copy_read t u e =
      let k = copy_of t in
      let some = k.several in
      let first : port_of m.graph (copy_node m p) d 0 ≡ side_slot k.meta d = side_start k.meta k.here 0 (omega arith) ∙ omega arith in
      let count : num_ports m.graph (copy_node m p) d ≡ ports_on k.meta d = ap (λ (v : Option NodeMeta). count_in v d) k.here in
      let low : lowest_unlinked m.graph.port_link (side_slot k.meta d) 0 (ports_on k.meta d) ≡ lowest_free m.graph (copy_node m p) d 0 (ports_on k.meta d) =
      (λ i. lowest_unlinked m.graph.port_link (sym first i) 0 (sym count i)) ∙ (lowest_same m b.wf (copy_node m p) d ∙ ap (lowest_free m.graph (copy_node m p) d 0) count) in
      let row = side_fits k.meta d k.fits in
      rw (e ∙ k.here, k.here, le-leb (side_slot k.meta d + ports_on k.meta d) port_slots (omega arith), low)
      (go k.meta k.here (lowest_free m.graph (copy_node m p) d 0 (ports_on k.meta d)) (ltb (lowest_free m.graph (copy_node m p) d 0 (ports_on k.meta d)) (ports_on k.meta d)) refl)
    where
      go : (k : NodeMeta) → meta_at m.graph (copy_node m p) ≡ Some k → (o : ℕ) (t : Bool) → ltb o (ports_on k d) ≡ t →
          cond t (need.Ready (side_slot k d + o) o) (need.Grow (node# (copy_node m p)) k) ≡ cond t (need.Ready (port_of m.graph (copy_node m p) d o) o) (need.Grow (node# (copy_node m p)) k)
      go k h o true e = ap (λ (x : ℕ). need.Ready x o) (sym (side_start k h o (ltb-true o (ports_on k d) e)))
      go k h o false e = refl

-- What the code takes from a need.
module _ {m : MultiPortGraph} {p : ℕ} {d : Direction} (b : OnBlock m p d) {u : Need} (e : u ≡ need_of m p d) where
  pub prepared_for_lem : {v : Need} {r : Prepared} → u ≡ v → r ≡ prepared_as m (prepared_for m p d v) → r ≡ prepared_as m (prepare m p d)
  prepared_for_lem t h = h ∙ (ap (λ (v : Need). prepared_as m (prepared_for m p d v)) (sym t ∙ e) ∙ ap (prepared_as m) (sym (prepare_need b)))

  pub ready_for : {x o : ℕ} → u ≡ need.Ready x o → prepare m p d ≡ hiding.ready m x o
  ready_for t = prepare_need b ∙ ap (prepared_for m p d) (sym e ∙ t)

  pub grow_for : {c : NodeIndex} {k : NodeMeta} → u ≡ need.Grow c k → GrowPort m p d c.0 k
  unfolding need_of
  grow_for {c} {k} t = go (is_split m p) refl (sym e ∙ t)
    where
      plain : (h : Bool) → cond h need.Split (need.Ready p 0) ≡ need.Grow c k → ⊥
      plain true q = zero_is_not_one (cc)
      plain false q = zero_is_not_one (cc)

      by : is_split m p ≡ true → (l : NodeMeta) → meta_at m.graph (copy_node m p) ≡ Some l → (h : Bool) (x o : ℕ) → cond h (need.Ready x o) (need.Grow (node# (copy_node m p)) l) ≡ need.Grow c k → GrowPort m p d c.0 k
      by s l g true x o q = absurd (zero_is_not_one (cc))
      by s l g false x o q =
          let same : node# (copy_node m p) ≡ c = cc in
          let is : copy_node m p ≡ c.0 = ap (λ (v : NodeIndex). v.0) same in
          let meta : l ≡ k = cc in
          record { port = record { block = b; split = s }; copy = is; meta = ap (meta_at m.graph) (sym is) ∙ (g ∙ ap Some meta) }

      go : (s : Bool) → is_split m p ≡ s → cond (is_split m p) (copy_need m d (copy_node m p) (meta_at m.graph (copy_node m p))) (cond (has_link m.graph p) need.Split (need.Ready p 0)) ≡ need.Grow c k → GrowPort m p d c.0 k
      go true s q =
          let l = copy_of b s in
          by s l.meta l.here (ltb (lowest_free m.graph (copy_node m p) d 0 (ports_on l.meta d)) (ports_on l.meta d)) (port_of m.graph (copy_node m p) d (lowest_free m.graph (copy_node m p) d 0 (ports_on l.meta d))) (lowest_free m.graph (copy_node m p) d 0 (ports_on l.meta d)) (rw (s, l.here) at q)
      go false s q = absurd (plain (has_link m.graph p) (rw s at q))

  pub split_for : u ≡ need.Split → LinkedPort m p d
  unfolding need_of
  split_for t = go (is_split m p) refl (sym e ∙ t)
    where
      by : (c : NodeIndex) (l : NodeMeta) (h : Bool) (x o : ℕ) → cond h (need.Ready x o) (need.Grow c l) ≡ need.Split → ⊥
      by c l true x o q = zero_is_not_one (cc)
      by c l false x o q = zero_is_not_one (cc)

      linked : (h : Bool) → eqb (at m.graph.port_link p) 0 ≡ h → cond (cond h false true) need.Split (need.Ready p 0) ≡ need.Split → at m.graph.port_link p ≡ 0 → ⊥
      linked true h q = absurd (zero_is_not_one (cc))
      linked false h q = eqb-false _ _ h

      go : (s : Bool) → is_split m p ≡ s → cond (is_split m p) (copy_need m d (copy_node m p) (meta_at m.graph (copy_node m p))) (cond (has_link m.graph p) need.Split (need.Ready p 0)) ≡ need.Split → LinkedPort m p d
      go true s q =
          let l = copy_of b s in
          absurd (by (node# (copy_node m p)) l.meta (ltb (lowest_free m.graph (copy_node m p) d 0 (ports_on l.meta d)) (ports_on l.meta d)) (port_of m.graph (copy_node m p) d (lowest_free m.graph (copy_node m p) d 0 (ports_on l.meta d))) (lowest_free m.graph (copy_node m p) d 0 (ports_on l.meta d)) (rw (s, l.here) at q))
      go false s q =
          record { block = b; plain = s; linked = linked (eqb (at m.graph.port_link p) 0) refl (rw (s, has_link_lem b.wf p b.node d b.is) at q) }

  -- no more is taken than the tables can hold
  pub grows_few : GrowsFew u
  grows_few = go u refl
    where
      go : (v : Need) → u ≡ v → GrowsFew v
      go (need.Ready x o) t = tt
      go (need.Grow c k) t =
          let g = grow_for t in
          let f = found_block_fits m.graph (lower_wf m b.wf) c.0 k (sym g.meta) in
          let q = f.ports in
          let s = f.small in
          omega arith
      go need.Split t = tt

pub takes_small : (u : Need) → GrowsFew u → {t : Takes} → t ≡ takes_of u → t.take ≤ port_slots
takes_small u f e = let s = go u f in let q = ap (λ (v : Takes). v.take) e in omega arith
  where
    by : (k : NodeMeta) (h : Bool) → k.incoming + k.outgoing ≤ node_ports → (cond h takes_nothing (record { node = false; take = round_up (k.incoming + k.outgoing + 1); give = k.capacity })).take ≤ port_slots
    by k true l = omega arith
    by k false l = let r = round_up_is_least (k.incoming + k.outgoing + 1) 11 (omega arith) in omega arith

    go : (u : Need) → GrowsFew u → (takes_of u).take ≤ port_slots
    go (need.Ready x o) f = omega arith
    go (need.Grow c k) f = by k (ltb (k.incoming + k.outgoing + 1) k.capacity) f
    go need.Split f = omega arith

-- read off the tables
module _ (m : MultiPortGraph) {p : ℕ} {d : Direction} (b : OnBlock m p d) where
  pub need_read : need_in m p d ≡ need_of m p d
  unfolding need_in need_of
  need_read = go (is_split m p) refl
    where
      plain : (t : Bool) → cond t (need.Ready p 0) need.Split ≡ cond (cond t false true) need.Split (need.Ready p 0)
      plain true = refl
      plain false = refl

      go : (t : Bool) → is_split m p ≡ t →
          cond (flag_at m.multiport port_slots p) (copy_need_in m.graph.port_link d (owner_in m.graph.port_meta (far_in m.graph.port_link p)) (meta_at m.graph (owner_in m.graph.port_meta (far_in m.graph.port_link p)))) (cond (eqb (at m.graph.port_link p) 0) (need.Ready p 0) need.Split)
          ≡ cond (is_split m p) (copy_need m d (copy_node m p) (meta_at m.graph (copy_node m p))) (cond (has_link m.graph p) need.Split (need.Ready p 0))
      go true t =
          let c = owner_read b.wf.fine p b.node d b.is t in
          rw (mark_told b.wf.fine p, t, c) (copy_read b t (meta_at m.graph (copy_node m p)) refl)
      go false t = rw (mark_told b.wf.fine p, t, has_link_lem b.wf p b.node d b.is) (plain (eqb (at m.graph.port_link p) 0))

pub need_told : {m : MultiPortGraph} {p : ℕ} {d : Direction} → OnBlock m p d → {u : Need} → u ≡ need_in m p d → u ≡ need_of m p d
need_told {m} b e = e ∙ need_read m b

-- What a preparation leaves.

module _ {m : MultiPortGraph} {a : ℕ} {d : Direction} (s : OnBlock m a d) (m₁ : MultiPortGraph) (x o : ℕ) (e : prepare m a d ≡ hiding.ready m₁ x o) where
  at_place : prepare m (slot_of s.wf.model.node (block s).place) (block s).place.side ≡ hiding.ready m₁ x o
  at_place = (λ i. prepare m ((block s).slot i) ((block s).side i)) ∙ e

  -- the same end is found again
  pub again_ready : prepare m₁ a d ≡ hiding.ready m₁ x o
  again_ready = (λ i. prepare m₁ (sym (block s).slot i) (sym (block s).side i)) ∙ prepare_again s.wf.fine (block s).place (block s).is_seen m₁ x o at_place

  -- another port needs what it needed
  pub need_stays : {b : ℕ} {f : Direction} → OnBlock m b f → (a ≡ b → ⊥) → need_of m₁ b f ≡ need_of m b f
  need_stays {b} {f} t apart =
      let r = prepare_law s.wf.fine (block s).place (block s).is_seen m₁ x o at_place in
      let y = block_seen s.wf.fine b t.node f t.is in
      let other : y.place ≡ (block s).place → ⊥ = λ q. apart (sym (block s).slot ∙ (ap (slot_of s.wf.model.node) (sym q) ∙ y.slot)) in
      (λ i. need_of m₁ (sym y.slot i) (sym y.side i)) ∙ (r.1.others y.place y.is_seen other ∙ (λ i. need_of m (y.slot i) (y.side i)))

-- Room.

abbrev need_works : Need → List Work
need_works (need.Ready x o) = []
need_works (need.Grow c k) = grow_works (Some k)
need_works need.Split = split_works

works_need : {m : MultiPortGraph} {p : ℕ} {d : Direction} → OnBlock m p d → prepare_works m p d ≡ need_works (need_of m p d)
unfolding prepare_works reuse_works need_of subports
works_need {m} {p} {d} b = go (is_split m p) refl
  where
    plain : (t : Bool) → cond t split_works [] ≡ need_works (cond t need.Split (need.Ready p 0))
    plain true = refl
    plain false = refl

    by : (c : ℕ) (k : NodeMeta) (t : Bool) (x o : ℕ) → cond t [] (grow_works (Some k)) ≡ need_works (cond t (need.Ready x o) (need.Grow (node# c) k))
    by c k true x o = refl
    by c k false x o = refl

    go : (t : Bool) → is_split m p ≡ t →
        cond (is_split m p) (cond (ltb (lowest_free m.graph (copy_node m p) d 0 (num_ports m.graph (copy_node m p) d)) (num_ports m.graph (copy_node m p) d)) [] (grow_works (meta_at m.graph (copy_node m p)))) (cond (has_link m.graph p) split_works [])
        ≡ need_works (cond (is_split m p) (copy_need m d (copy_node m p) (meta_at m.graph (copy_node m p))) (cond (has_link m.graph p) need.Split (need.Ready p 0)))
    go true e =
        let k = copy_of b e in
        rw (e, k.here)
        (by (copy_node m p) k.meta (ltb (lowest_free m.graph (copy_node m p) d 0 (ports_on k.meta d)) (ports_on k.meta d)) (port_of m.graph (copy_node m p) d (lowest_free m.graph (copy_node m p) d 0 (ports_on k.meta d))) (lowest_free m.graph (copy_node m p) d 0 (ports_on k.meta d)))
    go false e = rw e (plain (has_link m.graph p))

abbrev is_none : List ℕ → Bool
is_none [] = true
is_none (x ∷ l) = false

growth_by : (size : ℕ) (l : List ℕ) → growth size l ≡ cond (is_none l) size 0
growth_by size [] = refl
growth_by size (x ∷ l) = refl

-- whether no free block of a size is left, by those there were, after an end took and gave
abbrev none_left : Takes → List ℕ → ℕ → Bool
none_left t l size = cond (eqb size t.give) false (cond (eqb size t.take) (is_none (rest l)) (is_none l))

-- what the works of a need do to a room, by what is taken
record Took (r : Room) (t : Takes) (r' : Room) : Type 0 where
  node_len : r'.node_len ≡ r.node_len + cond t.node (growth 1 r.free_nodes) 0
  port_len : r'.port_len ≡ r.port_len + growth t.take (r.free_blocks t.take)
  nodes : r'.free_nodes ≡ cond t.node (rest r.free_nodes) r.free_nodes
  blocks : (s : ℕ) → 0 < s → is_none (r'.free_blocks s) ≡ none_left t (r.free_blocks s) s

took_nothing : (r : Room) → Took r takes_nothing r
took_nothing r =
    record {
      node_len = omega arith;
      port_len = let g = growth_by 0 (r.free_blocks 0) in let z = either_way {A = ℕ} (is_none (r.free_blocks 0)) 0 in omega arith;
      nodes = refl;
      blocks = λ s l. rw (ne_eqb s 0 (λ q. omega arith));
    }

taken_left : (blocks : ℕ → List ℕ) (size s : ℕ) → is_none (upd blocks size (rest (blocks size)) s) ≡ cond (eqb s size) (is_none (rest (blocks s))) (is_none (blocks s))
taken_left blocks size s = go (eqb s size) refl
  where
    go : (b : Bool) → eqb s size ≡ b → is_none (upd blocks size (rest (blocks size)) s) ≡ cond b (is_none (rest (blocks s))) (is_none (blocks s))
    go true e =
        let q = eqb-true s size e in
        ap (λ (k : ℕ). is_none (upd blocks size (rest (blocks size)) k)) q ∙ (ap is_none (upd_same blocks size (rest (blocks size))) ∙ ap (λ (k : ℕ). is_none (rest (blocks k))) (sym q))
    go false e = ap is_none (upd_other blocks size (rest (blocks size)) s (eqb-false s size e))

given_left : (blocks : ℕ → List ℕ) (first size s : ℕ) → 0 < s → is_none (meaning.give_block blocks first size s) ≡ cond (eqb s size) false (is_none (blocks s))
given_left blocks first size s some = go (eqb size 0) refl (eqb s size) refl
  where
    go : (z : Bool) → eqb size 0 ≡ z → (b : Bool) → eqb s size ≡ b → is_none (cond z blocks (upd blocks size (first ∷ blocks size)) s) ≡ cond b false (is_none (blocks s))
    go true h true e = absurd (let a = eqb-true size 0 h in let b = eqb-true s size e in omega arith)
    go true h false e = refl
    go false h true e =
        let q = eqb-true s size e in
        ap (λ (k : ℕ). is_none (upd blocks size (first ∷ blocks size) k)) q ∙ ap is_none (upd_same blocks size (first ∷ blocks size))
    go false h false e = ap is_none (upd_other blocks size (first ∷ blocks size) s (eqb-false s size e))

module _ (r : Room) (k : NodeMeta) where
  abbrev size# : ℕ
  size# = round_up (k.incoming + k.outgoing + 1)

  abbrev moves# : Takes
  moves# = record { node = false; take = size#; give = k.capacity }

  took_moved : Took r moves# (after_work (block_taken r size#) (give_block k.first_port.0 k.capacity))
  unfolding after_work
  took_moved =
      record {
        node_len = omega arith;
        port_len = refl;
        nodes = refl;
        blocks = λ s l.
            given_left (upd r.free_blocks size# (rest (r.free_blocks size#))) k.first_port.0 k.capacity s l
            ∙ ap (λ (b : Bool). cond (eqb s k.capacity) false b) (taken_left r.free_blocks size# s);
      }

  some_taken : (z : Bool) → eqb size# 0 ≡ z → Took r moves# (after_work (cond z r (block_taken r size#)) (give_block k.first_port.0 k.capacity))
  some_taken true e = absurd (let a = eqb-true size# 0 e in let b = round_up_positive (k.incoming + k.outgoing + 1) in omega arith)
  some_taken false e = took_moved

  took_grown : (b : Bool) → Took r (cond b takes_nothing moves#) (after_works r (cond b [] (move_works k (k.incoming + k.outgoing + 1))))
  unfolding after_works after_work
  took_grown true = took_nothing r
  took_grown false = some_taken (eqb size# 0) refl

took : (r : Room) (u : Need) → Took r (takes_of u) (after_works r (need_works u))
unfolding after_works after_work
took r (need.Ready x o) = took_nothing r
took r need.Split =
    record {
      node_len = refl;
      port_len = refl;
      nodes = refl;
      blocks = λ s l. rw (ne_eqb s 0 (λ q. omega arith)) (taken_left r.free_blocks 3 s);
    }
took r (need.Grow c k) = took_grown r k (ltb (k.incoming + k.outgoing + 1) k.capacity)

-- What the heads tell.

grown_by : (head len size : ℕ) (b : Bool) → eqb head 0 ≡ b → grown head len size ≡ len + cond b size 0
unfolding grown
grown_by head len size true e = rw e
grown_by head len size false e = rw e (omega arith)

head_none : (t : List ℕ) (h : ℕ) (l : List ℕ) → Chain t h l → eqb h 0 ≡ is_none l
head_none t h [] c = eq-eqb h 0 c
head_none t h (x ∷ l) c = let e = c.0 in ne_eqb h 0 (λ z. omega arith)

rest_none : (t : List ℕ) (h : ℕ) (l : List ℕ) → Chain t h l → eqb (rest_of h (at t (h - 1))) 0 ≡ is_none (rest l)
unfolding rest_of
rest_none t h [] c = rw (eq-eqb h 0 c)
rest_none t h (x ∷ l) c =
    let e = c.0 in
    let p : h - 1 ≡ x = omega arith in
    rw (ne_eqb h 0 (λ z. omega arith), p) (head_none t (at t x) l c.1)

first_none : (l : List ℕ) → eqb (number_of_first l) 0 ≡ is_none l
first_none [] = refl
first_none (x ∷ l) = ne_eqb (suc x) 0 (λ z. omega arith)

module _ (g : PortGraph) {M : Model} (h : Holds g M) where
  next_none : eqb (next_free g) 0 ≡ is_none (rest M.free_nodes)
  unfolding rest_of
  next_none = go M.free_nodes h.node_head h.node_chain
    where
      go : (l : List ℕ) → g.node_free ≡ number_of_first l → NodeChain g.node_meta 0 l → eqb (next_free g) 0 ≡ is_none (rest l)
      go [] e c = rw (eq-eqb g.node_free 0 e)
      go (x ∷ l) e c =
          let p : g.node_free - 1 ≡ x = omega arith in
          let next : next_of (slot_in g.node_meta (g.node_free - 1)).entry ≡ number_of_first l =
          ap (λ (k : ℕ). next_of (slot_in g.node_meta k).entry) p ∙ ap next_of c.0 in
          rw (ne_eqb g.node_free 0 (λ z. omega arith), next) (first_none l)

  free_none : eqb g.node_free 0 ≡ is_none M.free_nodes
  free_none = ap (λ (k : ℕ). eqb k 0) h.node_head ∙ first_none M.free_nodes

  left_none : (t : Takes) (s : ℕ) → eqb (head_left g t s) 0 ≡ none_left t (M.free_blocks s) s
  left_none t s = go (eqb s t.give) (eqb s t.take)
    where
      go : (a b : Bool) → eqb (cond a 1 (cond b (rest_of (head_at g.port_free s) (at g.port_link (head_at g.port_free s - 1))) (head_at g.port_free s))) 0 ≡ cond a false (cond b (is_none (rest (M.free_blocks s))) (is_none (M.free_blocks s)))
      go true b = refl
      go false true = rest_none g.port_link (head_at g.port_free s) (M.free_blocks s) (h.block_chain s)
      go false false = head_none g.port_link (head_at g.port_free s) (M.free_blocks s) (h.block_chain s)

  -- the lengths that the test computes are those after the works
  module _ (u v : Need) where
    abbrev middle : Room
    middle = after_works (room_of M) (need_works u)

    abbrev last : Room
    last = after_works middle (need_works v)

    nodes_are : nodes_left g (takes_of u).node (takes_of v).node ≡ last.node_len
    nodes_are = go (takes_of u).node (takes_of v).node (took (room_of M) u).node_len (took (room_of M) u).nodes (took middle v).node_len
      where
        go : (a b : Bool) → middle.node_len ≡ M.node_len + cond a (growth 1 M.free_nodes) 0 → middle.free_nodes ≡ cond a (rest M.free_nodes) M.free_nodes →
            last.node_len ≡ middle.node_len + cond b (growth 1 middle.free_nodes) 0 → nodes_left g a b ≡ last.node_len
        go true true p q r =
            let n = h.node_len in
            let a = grown_by g.node_free g.node_len 1 _ free_none in
            let b = grown_by (next_free g) (grown g.node_free g.node_len 1) 1 _ next_none in
            let c = growth_by 1 M.free_nodes in
            let e : growth 1 middle.free_nodes ≡ cond (is_none (rest M.free_nodes)) 1 0 = ap (growth 1) q ∙ growth_by 1 (rest M.free_nodes) in
            omega arith
        go true false p q r =
            let n = h.node_len in
            let a = grown_by g.node_free g.node_len 1 _ free_none in
            let c = growth_by 1 M.free_nodes in
            omega arith
        go false true p q r =
            let n = h.node_len in
            let a = grown_by g.node_free g.node_len 1 _ free_none in
            let e : growth 1 middle.free_nodes ≡ cond (is_none M.free_nodes) 1 0 = ap (growth 1) q ∙ growth_by 1 M.free_nodes in
            omega arith
        go false false p q r = let n = h.node_len in omega arith

    ports_are : ports_left g (takes_of u) (takes_of v) ≡ last.port_len
    ports_are =
        let one = took (room_of M) u in
        let two = took middle v in
        let n = h.port_len in
        let p = one.port_len in
        let q = two.port_len in
        let a = grown_by (head_at g.port_free (takes_of u).take) g.port_len (takes_of u).take (is_none (M.free_blocks (takes_of u).take)) (head_none g.port_link (head_at g.port_free (takes_of u).take) (M.free_blocks (takes_of u).take) (h.block_chain (takes_of u).take)) in
        let b = growth_by (takes_of u).take (M.free_blocks (takes_of u).take) in
        let c = grown_by (head_left g (takes_of u) (takes_of v).take) (grown (head_at g.port_free (takes_of u).take) g.port_len (takes_of u).take) (takes_of v).take _ (left_none (takes_of u) (takes_of v).take) in
        let e = growth_by (takes_of v).take (middle.free_blocks (takes_of v).take) in
        let f = same (takes_of v).take (one.blocks (takes_of v).take) in
        let sum : grown (head_at g.port_free (takes_of u).take) g.port_len (takes_of u).take + cond (none_left (takes_of u) (M.free_blocks (takes_of v).take) (takes_of v).take) (takes_of v).take 0 ≡ last.port_len = omega arith in
        c ∙ sum
      where
        -- no size, no growth
        same : (s : ℕ) → (0 < s → is_none (middle.free_blocks s) ≡ none_left (takes_of u) (M.free_blocks s) s) → cond (is_none (middle.free_blocks s)) s 0 ≡ cond (none_left (takes_of u) (M.free_blocks s) s) s 0
        same zero k = either_way {A = ℕ} (is_none (middle.free_blocks 0)) 0 ∙ sym (either_way {A = ℕ} (none_left (takes_of u) (M.free_blocks 0) 0) 0)
        same (suc s) k = ap (λ (b : Bool). cond b (suc s) 0) (k (omega arith))

    room_said : room_for g (takes_of u) (takes_of v) ≡ not (overflows (room_of M) (need_works u ++ need_works v))
    unfolding room_for
    room_said =
        (λ i. cond (leb (nodes_are i) node_slots) (leb (ports_are i) port_slots) false)
        ∙ (go (leb last.node_len node_slots) refl (leb last.port_len port_slots) refl
        ∙ sym (ap not (overflows_at_end (room_of M) (need_works u ++ need_works v) ∙ ap (λ (r : Room). overfull r) (after_append (need_works u) (need_works v) (room_of M)))))
      where
        go : (a : Bool) → leb last.node_len node_slots ≡ a → (b : Bool) → leb last.port_len port_slots ≡ b →
            cond (leb last.node_len node_slots) (leb last.port_len port_slots) false ≡ not ((ltb node_slots last.node_len) || (ltb port_slots last.port_len))
        go true p true q = rw (p, q, le-ltb node_slots last.node_len (leb-true _ _ p), le-ltb port_slots last.port_len (leb-true _ _ q))
        go true p false q = rw (p, q, le-ltb node_slots last.node_len (leb-true _ _ p), lt-ltb port_slots last.port_len (leb-false _ _ q))
        go false p b q = rw (p, lt-ltb node_slots last.node_len (leb-false _ _ p))

abbrev not_full : hiding.Prepared → Bool
not_full (hiding.ready m x o) = true
not_full hiding.full = false

-- what is past a limit stays so
overfull_stays : (r : Room) (v : Need) → overfull r ≡ true → overfull (after_works r (need_works v)) ≡ true
overfull_stays r v e = go (ltb node_slots r.node_len) refl (ltb port_slots r.port_len) refl e
  where
    longer : (a : Bool) → node_slots < (after_works r (need_works v)).node_len → ((ltb node_slots (after_works r (need_works v)).node_len) || a) ≡ true
    longer a l = rw (lt-ltb node_slots (after_works r (need_works v)).node_len l)

    wider : (a : Bool) → port_slots < (after_works r (need_works v)).port_len → (a || (ltb port_slots (after_works r (need_works v)).port_len)) ≡ true
    wider true l = refl
    wider false l = lt-ltb port_slots (after_works r (need_works v)).port_len l

    go : (a : Bool) → ltb node_slots r.node_len ≡ a → (b : Bool) → ltb port_slots r.port_len ≡ b → (a || b) ≡ true → overfull (after_works r (need_works v)) ≡ true
    go true p b q h = longer (ltb port_slots (after_works r (need_works v)).port_len) (let n = (took r v).node_len in let l = ltb-true node_slots r.node_len p in omega arith)
    go false p true q h = wider (ltb node_slots (after_works r (need_works v)).node_len) (let n = (took r v).port_len in let l = ltb-true port_slots r.port_len q in omega arith)
    go false p false q h = absurd (zero_is_not_one (cc))

-- Both ends of a link, on two ports.
module _ (m : MultiPortGraph) {a : ℕ} {d : Direction} {b : ℕ} {e : Direction}
    (w : BothOnBlock m a d b e) (apart : a ≡ b → ⊥) where
  abbrev M : Model
  M = w.first.wf.model

  abbrev room : Bool
  room = room_for m.graph (takes_of (need_of m a d)) (takes_of (need_of m b e))

  room_works : room ≡ not (overflows (room_of M) (need_works (need_of m a d) ++ need_works (need_of m b e)))
  room_works = room_said m.graph w.first.wf.fine.holds (need_of m a d) (need_of m b e)

  first_space : (p : hiding.Prepared) → prepare m a d ≡ p → PreparedSpace M (need_works (need_of m a d)) p
  first_space p q =
      subst (λ (l : List Work). PreparedSpace M l p) (works_need w.first)
      (subst (PreparedSpace M (prepare_works m a d)) q (prepare_seen_space w.first.wf.fine a w.first.node d w.first.is))

  -- where there is room, the first end is prepared
  pub first_finds_room : room ≡ true → prepare m a d ≡ hiding.full → ⊥
  first_finds_room r q =
      let full : overflows (room_of M) (need_works (need_of m a d)) ≡ true = first_space hiding.full q in
      let over : overfull (after_works (room_of M) (need_works (need_of m a d))) ≡ true = sym (overflows_at_end (room_of M) (need_works (need_of m a d))) ∙ full in
      let all : overflows (room_of M) (need_works (need_of m a d) ++ need_works (need_of m b e)) ≡ true =
      overflows_at_end (room_of M) (need_works (need_of m a d) ++ need_works (need_of m b e))
      ∙ (ap (λ (v : Room). overfull v) (after_append (need_works (need_of m a d)) (need_works (need_of m b e)) (room_of M)) ∙ overfull_stays (after_works (room_of M) (need_works (need_of m a d))) (need_of m b e) over) in
      let no : room ≡ false = room_works ∙ ap not all in
      zero_is_not_one (cc)

  -- the second end, after the first
  module _ (m₁ : MultiPortGraph) (x o : ℕ) (q : prepare m a d ≡ hiding.ready m₁ x o) where
    pub second_still : OnBlock m₁ b e
    second_still = others_stay w.first (m₁, Ok (x, o)) (ap (prepared_as m) (sym q)) refl b e w.second

    second_works : prepare_works m₁ b e ≡ need_works (need_of m b e)
    second_works = works_need second_still ∙ ap need_works (need_stays w.first m₁ x o q w.second apart)

    second_said : (p : hiding.Prepared) → prepare m₁ b e ≡ p → room ≡ not_full p
    second_said p k =
        room_works
        ∙ (ap not (overflows_append (room_of M) (need_works (need_of m a d)) (need_works (need_of m b e))
        ∙ (λ i. overflows (sym (room_is (first_space (hiding.ready m₁ x o) q).1 second_still.wf.fine.holds) i) (sym second_works i)))
        ∙ said p (subst (PreparedSpace second_still.wf.model (prepare_works m₁ b e)) k (prepare_seen_space second_still.wf.fine b second_still.node e second_still.is)))
      where
        said : (p : hiding.Prepared) → PreparedSpace second_still.wf.model (prepare_works m₁ b e) p → not (overflows (room_of second_still.wf.model) (prepare_works m₁ b e)) ≡ not_full p
        said (hiding.ready m₂ y r) s = ap not s.0
        said hiding.full s = ap not s

    pub second_finds_room : room ≡ true → prepare m₁ b e ≡ hiding.full → ⊥
    second_finds_room r k = let no = second_said hiding.full k in zero_is_not_one (cc)

  -- where there is none, the call is refused
  pub room_lacks : room ≡ false → link_live m a d b e (prepare m a d) ≡ link_refused m NoRoom
  room_lacks r = go (prepare m a d) refl
    where
      second : (m₁ : MultiPortGraph) (x o : ℕ) → prepare m a d ≡ hiding.ready m₁ x o → (p : hiding.Prepared) → prepare m₁ b e ≡ p → link_second m a d x o b e p ≡ link_refused m NoRoom
      second m₁ x o q hiding.full k = refl
      second m₁ x o q (hiding.ready m₂ y z) k = let yes = second_said m₁ x o q (hiding.ready m₂ y z) k in absurd (zero_is_not_one (cc))

      go : (p : hiding.Prepared) → prepare m a d ≡ p → link_live m a d b e p ≡ link_refused m NoRoom
      go hiding.full q = refl
      go (hiding.ready m₁ x o) q = second m₁ x o q (prepare m₁ b e) refl
