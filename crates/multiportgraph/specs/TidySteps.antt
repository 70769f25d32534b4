-- What the code's steps of a tidy amount to.
use Rattle.std.specs.Prelude.{◌≡◌, Bool, List, eqb, not, Option, Some, None}
use Rattle.std.proofs.Math.Path.{refl, sym, ap, transport}
use Rattle.std.proofs.Common.{◌∙◌, subst, eq-eqb, ne_eqb, lt-ltb}
use Rattle.std.proofs.Math.Bool.{true, false, cond}
use Rattle.std.specs.Option.{option_map_or}
use Prim.Native.Nat.{ℕ, zero, suc, ◌+◌, ◌-◌, ◌≤◌}
use native.Mathlib.Omega.{arith}
use Rattle.std.proofs.Math.ListN.{set}
use Rattle.port_tables.specs.Limits.{port_slots}
use Rattle.port_tables.specs.Lists.{range, on_last}
use Rattle.std.specs.List.{filter}
use Rattle.multiportgraph.specs.RangeSearches.{top_passed, top_found}
use Rattle.port_tables.specs.Tables.{at}
use Rattle.portgraph.specs.Lookups.{num_ports}
use Rattle.portgraph.specs.Calls.{link_ports}
use Rattle.portgraph.specs.Resize.{set_num_ports}
use Rattle.portgraph.specs.Model as model
use Rattle.portgraph.specs.Model.{Model, Wf, Far, nowhere, to, Slots, Valid, slot_of, count_of, first_of, side_start}
use Rattle.portgraph.specs.GoodSlots.{slot_in_range}
use Rattle.portgraph.specs.PlaceLaws.{link_none, link_to}
use Rattle.port_tables.specs.declared.direction.Direction.{Direction}
use Rattle.portgraph.specs.declared.portgraph.PortGraph.{PortGraph}
use Rattle.portgraph.specs.declared.portgraph.PortsLinked.{PortsLinked}
use Rattle.multiportgraph.specs.Reading.{far_port, has_link, port_of, is_split, copy_node, subports, subport_at}
use Rattle.multi_tables.specs.Forms.{put_flag}
use Rattle.multiportgraph.specs.WellFormed.{inner#, Fine}
use Rattle.multiportgraph.specs.Ends.{BlockPort, Hangs, block_seen, split_has_copy, port_of_lem, linked_is, unlinked_is, far_of}
use Rattle.multiportgraph.specs.Graph.{multi, with_graph, with_subports}
use Rattle.multiportgraph.specs.CodeForms.{linked_from}
use Rattle.multiportgraph.specs.CopySteps.{two_puts}
use Rattle.multi_tables.specs.TableReads.{far_in, owner_in, subports_in, first_in}
use Rattle.multiportgraph.specs.TableReadLaws.{owner_read, subports_read, first_read, far_is}
use Rattle.multiportgraph.specs.HiddenNodes.{enough, recounted, unsplit}
use Rattle.multiportgraph.specs.Tidy.{linked_up_to, subports_left, left_incoming, left_outgoing, resized_within, drop_subports, link_directly, tidied}
use Rattle.multiportgraph.specs.TidyLaws.{LastLinked, last_linked, empty_above, within_is, drop_within, drop_marks, went, bare_is, unchanged}
use Rattle.multiportgraph.specs.Presumed.{SplitPort, LeftPort}
use Rattle.multiportgraph.specs.declared.multiportgraph.MultiPortGraph.{MultiPortGraph}

-- What is read of a split port.
module _ {m : MultiPortGraph} {p : ℕ} {d : Direction} (b : SplitPort m p d) where
  abbrev M : Model
  M = b.block.wf.model

  f : Fine m M
  f = b.block.wf.fine

  block : BlockPort m M p b.block.node d
  block = block_seen f p b.block.node d b.block.is

  abbrev x : model.InnerPlace
  x = block.place

  split_here : is_split m (slot_of M.node x) ≡ true
  split_here = ap (is_split m) block.slot ∙ b.split

  h : Hangs m M x
  h = split_has_copy f x block.is_seen split_here

  first_is : first_in m.graph.port_link m.graph.port_meta p d ≡ slot_of M.node (inner# h.copy x.side 0)
  first_is =
      first_read f p b.block.node d b.block.is b.split
      ∙ ((λ i. subport_at m (sym block.slot i) (sym block.side i) 0) ∙ h.reads 0 (let l = h.several in omega arith))

  count_is : subports_in m.graph.port_link m.graph.port_meta p d ≡ count_of (M.node h.copy) x.side
  count_is =
      subports_read f p b.block.node d b.block.is b.split ∙ ((λ i. subports m (sym block.slot i) (sym block.side i)) ∙ h.count)

  -- the subports lie in a row
  in_row_lem : (i : ℕ) → slot_of M.node (inner# h.copy x.side i) ≡ slot_of M.node (inner# h.copy x.side 0) + i
  in_row_lem i = omega arith

  pub row_fits : {first count : ℕ} → first ≡ first_in m.graph.port_link m.graph.port_meta p d → count ≡ subports_in m.graph.port_link m.graph.port_meta p d →
      first + count ≤ port_slots
  row_fits {first} {count} e₁ e₂ =
      let a = first_is in
      let c = count_is in
      let k = h.several in
      let n : ℕ = count_of (M.node h.copy) x.side - 1 in
      let v : Valid M.node (inner# h.copy x.side n) = omega arith in
      let s = slot_in_range f.good (inner# h.copy x.side n) v in
      let r = in_row_lem n in
      omega arith

  links_in_row : (n : ℕ) → n ≤ count_of (M.node h.copy) x.side →
      linked_from m.graph.port_link (slot_of M.node (inner# h.copy x.side 0)) n ≡ linked_up_to m.graph h.copy x.side n
  unfolding linked_from linked_up_to
  links_in_row zero l = refl
  links_in_row (suc n) l = go (M.join (inner# h.copy x.side n)) refl (links_in_row n (omega arith))
    where
      v : Valid M.node (inner# h.copy x.side n)
      v = omega arith

      there : at m.graph.port_link (slot_of M.node (inner# h.copy x.side 0) + n) ≡ at m.graph.port_link (slot_of M.node (inner# h.copy x.side n))
      there = ap (at m.graph.port_link) (sym (in_row_lem n))

      go : (w : Far) → M.join (inner# h.copy x.side n) ≡ w →
          linked_from m.graph.port_link (slot_of M.node (inner# h.copy x.side 0)) n ≡ linked_up_to m.graph h.copy x.side n →
          cond (eqb (at m.graph.port_link (slot_of M.node (inner# h.copy x.side 0) + n)) 0)
          (linked_from m.graph.port_link (slot_of M.node (inner# h.copy x.side 0)) n) (suc n)
          ≡ cond (has_link m.graph (port_of m.graph h.copy x.side n)) (suc n) (linked_up_to m.graph h.copy x.side n)
      go nowhere j k =
          rw (port_of_lem f h.copy x.side n v, unlinked_is f (inner# h.copy x.side n) v j, eq-eqb _ 0 (there ∙ link_none f.good f.holds (inner# h.copy x.side n) v j)) k
      go (to y) j k =
          let e = there ∙ link_to f.good f.holds (inner# h.copy x.side n) y v j in
          rw (port_of_lem f h.copy x.side n v, linked_is f (inner# h.copy x.side n) y j, ne_eqb (at m.graph.port_link (slot_of M.node (inner# h.copy x.side 0) + n)) 0 (λ z. omega arith)) refl

  left_is : subports_left m p d ≡ linked_up_to m.graph h.copy x.side (count_of (M.node h.copy) x.side)
  unfolding subports_left
  left_is =
      (λ i. linked_up_to m.graph (copy_node m (sym block.slot i)) (sym block.side i) (subports m (sym block.slot i) (sym block.side i)))
      ∙ (λ i. linked_up_to m.graph (h.copy_is i) x.side (h.count i))

  pub left_read : {first count left : ℕ} → first ≡ first_in m.graph.port_link m.graph.port_meta p d → count ≡ subports_in m.graph.port_link m.graph.port_meta p d →
      left ≡ linked_from m.graph.port_link first count → left ≡ subports_left m p d
  left_read e₁ e₂ e₃ =
      e₃
      ∙ ((λ i. linked_from m.graph.port_link ((e₁ ∙ first_is) i) ((e₂ ∙ count_is) i))
      ∙ (links_in_row (count_of (M.node h.copy) x.side) (omega arith) ∙ sym left_is))

  pub many_read : {count : ℕ} → count ≡ subports_in m.graph.port_link m.graph.port_meta p d → count ≡ subports m p d
  many_read e = e ∙ subports_read f p b.block.node d b.block.is b.split

  -- The wire of the first subport.

  abbrev first# : model.InnerPlace
  first# = inner# h.copy x.side 0

  valid_first : Valid M.node first#
  valid_first = let l = h.several in omega arith

  at_first : subport_at m p d 0 ≡ slot_of M.node first#
  at_first = (λ i. subport_at m (sym block.slot i) (sym block.side i) 0) ∙ h.reads 0 valid_first

  bare# : unsplit m p ≡ unsplit m (slot_of M.node x)
  bare# = ap (unsplit m) (sym block.slot)

  -- without the hidden node the lower graph is still one of the calls
  pub bare_wf : {r : MultiPortGraph} → r ≡ unsplit m p → Wf r.graph
  bare_wf {r} e =
      let w = went f x block.is_seen h in
      subst (λ (u : MultiPortGraph). Wf u.graph) (sym (e ∙ (bare# ∙ bare_is f x block.is_seen h split_here)))
      (record { model = _; good = w.fine.good; holds = w.fine.holds })

  pub direct_none : {first held : ℕ} {r : MultiPortGraph} → first ≡ first_in m.graph.port_link m.graph.port_meta p d → held ≡ at m.graph.port_link first → r ≡ unsplit m p →
      held ≡ 0 → r ≡ link_directly m p d
  unfolding link_directly
  direct_none {first} {held} {r} e₁ e₂ e₃ e₄ = e₃ ∙ go (M.join first#) refl
    where
      none : at m.graph.port_link (slot_of M.node first#) ≡ 0
      none = ap (at m.graph.port_link) (sym (e₁ ∙ first_is)) ∙ (sym e₂ ∙ e₄)

      go : (w : Far) → M.join first# ≡ w → unsplit m p
          ≡ cond (has_link m.graph (subport_at m p d 0)) (with_graph (unsplit m p) (link_ports (unsplit m p).graph p (far_port m.graph (subport_at m p d 0))).graph) (unsplit m p)
      go nowhere j = rw (at_first, unlinked_is f first# valid_first j) refl
      go (to y) j = let l = link_to f.good f.holds first# y valid_first j in let z = none in absurd (omega arith)

  pub direct_one : {first held far : ℕ} {r : MultiPortGraph} {l : PortsLinked} → first ≡ first_in m.graph.port_link m.graph.port_meta p d → held ≡ at m.graph.port_link first →
      far ≡ far_in m.graph.port_link first → r ≡ unsplit m p → (held ≡ 0 → ⊥) → l ≡ link_ports r.graph p far → with_graph r l.graph ≡ link_directly m p d
  unfolding link_directly
  direct_one {first} {held} {far} {r} {l} e₁ e₂ e₃ e₄ e₅ e₆ = go (M.join first#) refl
    where
      first_here : first ≡ slot_of M.node first#
      first_here = e₁ ∙ first_is

      go : (w : Far) → M.join first# ≡ w → with_graph r l.graph
          ≡ cond (has_link m.graph (subport_at m p d 0)) (with_graph (unsplit m p) (link_ports (unsplit m p).graph p (far_port m.graph (subport_at m p d 0))).graph) (unsplit m p)
      go nowhere j =
          absurd (e₅ (e₂ ∙ (ap (at m.graph.port_link) first_here ∙ link_none f.good f.holds first# valid_first j)))
      go (to y) j =
          let far_here : far ≡ slot_of M.node y = e₃ ∙ (ap (far_in m.graph.port_link) first_here ∙ far_is f first# y j) in
          let z : far_port m.graph (subport_at m p d 0) ≡ far = ap (far_port m.graph) at_first ∙ (far_of f first# y j ∙ sym far_here) in
          rw (z, at_first, linked_is f first# y j)
          (ap (λ (u : PortsLinked). with_graph r u.graph) e₆ ∙ ap (λ (u : MultiPortGraph). with_graph u (link_ports u.graph p far).graph) e₄)

-- a hidden node that is left with some of its subports: the resize, and its marks
left_sized : {m : MultiPortGraph} {p : ℕ} {d : Direction} {count left : ℕ} (b : LeftPort m p d count left) →
    (resized_within m.graph (copy_node m p) (left_incoming d left) (left_outgoing d left) ≡ (set_num_ports m.graph (copy_node m p) (left_incoming d left) (left_outgoing d left) enough).graph)
    × ((recounted m (copy_node m p) (set_num_ports m.graph (copy_node m p) (left_incoming d left) (left_outgoing d left) enough).graph).multiport
    ≡ set (set m.multiport (far_in m.graph.port_link p) false) (far_in (set_num_ports m.graph (copy_node m p) (left_incoming d left) (left_outgoing d left) enough).graph.port_link p) true)
left_sized {m} {p} {d} {count} {left} b =
    let s = b.port in
    let g = s.block.wf.fine in
    let y = block s in
    let k = h s in
    let c : k.copy ≡ copy_node m p = sym k.copy_is ∙ ap (copy_node m) y.slot in
    let n = s.block.wf.model.node k.copy in
    let l = last_linked g k.copy y.place.side (count_of n y.place.side) (omega arith) in
    let e : left ≡ linked_up_to m.graph k.copy y.place.side (count_of n y.place.side) = b.leaves ∙ left_is s in
    let r : LastLinked s.block.wf.model k.copy y.place.side (count_of n y.place.side) left = subst (LastLinked s.block.wf.model k.copy y.place.side (count_of n y.place.side)) (sym e) l in
    let none = empty_above g k.copy y.place.side left r in
    transport
    (λ i. (resized_within m.graph (c i) (left_incoming (y.side i) left) (left_outgoing (y.side i) left) ≡ (set_num_ports m.graph (c i) (left_incoming (y.side i) left) (left_outgoing (y.side i) left) enough).graph)
    × ((recounted m (c i) (set_num_ports m.graph (c i) (left_incoming (y.side i) left) (left_outgoing (y.side i) left) enough).graph).multiport
    ≡ set (set m.multiport (far_in m.graph.port_link (y.slot i)) false)
    (far_in (set_num_ports m.graph (c i) (left_incoming (y.side i) left) (left_outgoing (y.side i) left) enough).graph.port_link (y.slot i)) true))
    (within_is (drop_within g y.place k left b.more r.most none), drop_marks g y.place k left b.more r.most none y.is_seen)

-- A hidden node that is left with some of its subports.
module _ {m : MultiPortGraph} {p : ℕ} {d : Direction} {count left : ℕ} (b : LeftPort m p d count left) where
  pub drop_step :
      {copy node i o len far w₁ w₂ w₃ w₄ gone subs : ℕ} {low : PortGraph} {t₁ t₂ : List Bool} →
      w₁ ≡ p →
      copy ≡ far_in m.graph.port_link w₁ →
      node ≡ owner_in m.graph.port_meta copy →
      i ≡ left_incoming d left →
      o ≡ left_outgoing d left →
      len ≡ enough →
      low ≡ (set_num_ports m.graph node i o len).graph →
      w₂ ≡ p →
      far ≡ far_in low.port_link w₂ →
      w₃ ≡ copy →
      t₁ ≡ put_flag m.multiport port_slots w₃ false →
      w₄ ≡ far →
      t₂ ≡ put_flag t₁ port_slots w₄ true →
      gone ≡ count - left →
      subs ≡ m.subport_count - gone →
      ◌≡◌ {A = MultiPortGraph} (multi low t₂ m.copy_node m.copy_node_count subs m.release) (drop_subports m (copy_node m p) d left)
  unfolding drop_subports recounted subports
  drop_step {copy} {node} {i} {o} {len} {far} {w₁} {w₂} {w₃} {w₄} {gone} {subs} {low} {t₁} {t₂} k₁ k₂ k₃ k₄ k₅ k₆ k₇ k₈ k₉ l₁ l₂ l₃ l₄ l₅ l₆ =
      let s = b.port in
      let g = s.block.wf.fine in
      let copy_is_lem : copy ≡ far_in m.graph.port_link p = k₂ ∙ ap (far_in m.graph.port_link) k₁ in
      let node_is : node ≡ copy_node m p = k₃ ∙ (ap (owner_in m.graph.port_meta) copy_is_lem ∙ owner_read g p s.block.node d s.block.is s.split) in
      let set_is : low ≡ (set_num_ports m.graph (copy_node m p) (left_incoming d left) (left_outgoing d left) enough).graph = k₇ ∙ (λ j. (set_num_ports m.graph (node_is j) (k₄ j) (k₅ j) (k₆ j)).graph) in
      let far_is' : far ≡ far_in low.port_link p = k₉ ∙ ap (far_in low.port_link) k₈ in
      let marks_is : t₂ ≡ set (set m.multiport (far_in m.graph.port_link p) false) (far_in low.port_link p) true =
      rw (l₄, l₂, l₃, l₁, far_is', copy_is_lem) (two_puts m.multiport port_slots _ _ false true g.marks_long) in
      let subs_is : subs ≡ m.subport_count - (num_ports m.graph (copy_node m p) d - left) = rw (l₆, l₅, b.counts) refl in
      (λ j. multi (set_is j) (marks_told set_is marks_is j) m.copy_node m.copy_node_count (subs_is j) m.release)
      ∙ ap (λ (u : PortGraph). with_subports (recounted m (copy_node m p) u) (m.subport_count - (num_ports m.graph (copy_node m p) d - left))) (sym (left_sized b).0)
    where
      marks_told : low ≡ (set_num_ports m.graph (copy_node m p) (left_incoming d left) (left_outgoing d left) enough).graph →
          t₂ ≡ set (set m.multiport (far_in m.graph.port_link p) false) (far_in low.port_link p) true →
          t₂ ≡ (recounted m (copy_node m p) (set_num_ports m.graph (copy_node m p) (left_incoming d left) (left_outgoing d left) enough).graph).multiport
      marks_told e q = q ∙ (ap (λ (u : PortGraph). set (set m.multiport (far_in m.graph.port_link p) false) (far_in u.port_link p) true) e ∙ sym (left_sized b).1)

-- where all subports are left nothing changes
all_left : {m : MultiPortGraph} {p : ℕ} {d : Direction} (b : SplitPort m p d) (left : ℕ) → left ≡ subports_left m p d → subports m p d ≤ left → m ≡ drop_subports m (copy_node m p) d left
all_left {m} {p} {d} b left e all =
    let y = block b in
    let k = h b in
    let n = b.block.wf.model.node k.copy in
    let most = (last_linked (f b) k.copy y.place.side (count_of n y.place.side) (omega arith)).most in
    let a = left_is b in
    let c : subports m p d ≡ count_of n y.place.side = (λ i. subports m (sym y.slot i) (sym y.side i)) ∙ k.count in
    let is : count_of n y.place.side ≡ left = omega arith in
    let own : k.copy ≡ copy_node m p = sym k.copy_is ∙ ap (copy_node m) y.slot in
    sym (unchanged (f b) y.place k) ∙ (λ i. drop_subports m (own i) (y.side i) (is i))

-- A split port, by how many of its subports are left.
module _ {m : MultiPortGraph} {p : ℕ} {d : Direction} (b : SplitPort m p d) {left : ℕ} (l : left ≡ subports_left m p d) where
  pub left_drop : {r : MultiPortGraph} → 2 ≤ left → r ≡ drop_subports m (copy_node m p) d left → r ≡ tidied m p d
  unfolding tidied
  left_drop more k =
      k ∙ (ap (drop_subports m (copy_node m p) d) l ∙ sym (ap (λ (c : Bool). cond c (drop_subports m (copy_node m p) d (subports_left m p d)) (link_directly m p d)) (lt-ltb 1 (subports_left m p d) (omega arith))))

  -- all subports are left: nothing changes
  pub left_all : {count : ℕ} → count ≡ subports m p d → 2 ≤ left → count ≤ left → m ≡ tidied m p d
  left_all c more all = left_drop more (all_left b left l (subst (λ (n : ℕ). n ≤ left) c all))

-- The linked slots of a row, by a search from its end.
module _ (t : List ℕ) (first : ℕ) where
  abbrev pub holds_link : ℕ → Bool
  holds_link k = not (eqb (at t (first + k)) 0)

  abbrev after : Option ℕ → ℕ
  after o = option_map_or (λ k. k + 1) o 0

  row_left : (n : ℕ) → linked_from t first n ≡ after (on_last None Some (filter holds_link (range 0 n)))
  unfolding linked_from on_last range
  row_left zero = refl
  row_left (suc n) = go (eqb (at t (first + n)) 0) refl (row_left n)
    where
      at_top : (b : Bool) → eqb (at t (first + n)) 0 ≡ b → holds_link (0 + n) ≡ not b
      at_top b e = let z : 0 + n ≡ n = omega arith in ap holds_link z ∙ ap not e

      go : (b : Bool) → eqb (at t (first + n)) 0 ≡ b → linked_from t first n ≡ after (on_last None Some (filter holds_link (range 0 n)))
          → cond b (linked_from t first n) (suc n) ≡ after (on_last None Some (filter holds_link (range 0 (suc n))))
      go true e h = h ∙ ap (λ (l : List ℕ). after (on_last None Some l)) (sym (top_passed holds_link 0 n (at_top true e)))
      go false e h = let s : suc n ≡ 0 + n + 1 = omega arith in s ∙ ap after (sym (top_found holds_link 0 n (at_top false e)))

  pub left_found : (n : ℕ) (r : Option ℕ) → r ≡ on_last None Some (filter holds_link (range 0 (n - 0))) → option_map_or (λ k. k + 1) r 0 ≡ linked_from t first n
  left_found n r e =
      let z : n - 0 ≡ n = omega arith in
      ap after e ∙ (ap (λ (c : ℕ). after (on_last None Some (filter holds_link (range 0 c)))) z ∙ sym (row_left n))
