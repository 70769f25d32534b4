-- The hidden node of a split port goes: every wire at that port goes with it, and nothing else changes.
-- Then the cut of a whole port.
use Rattle.std.proofs.lemmas.Bool.{cases_Bool}
use Rattle.std.proofs.lemmas.Bool.{cases_eq}
use Rattle.std.specs.Prelude.{◌≡◌, refl, Bool, true, List, [], ◌∷◌, ℕ, zero, suc, ◌+◌, ◌-◌, ◌<◌, set}
use Rattle.std.proofs.Math.Path.{sym, ap}
use Rattle.std.proofs.Common.{◌∙◌, subst, inl, inr, eq-eqb, ne_eqb}
use Rattle.std.proofs.Math.Bool.{false, cond}
use Rattle.std.proofs.Math.Logic.{⊎_elim}
use native.Mathlib.Omega.{arith}
use Rattle.std.proofs.Math.ListN.{length, get_or, length-set}
use Rattle.std.proofs.Math.Seq.{get_or-set_other}
use Rattle.std.proofs.lemmas.Bool.{eqb-false}
use Rattle.port_tables.specs.Limits.{node_slots}
use Rattle.port_tables.specs.Entries.{reversed, ports_on}
use Rattle.portgraph.specs.Model as model
use Rattle.portgraph.specs.Model.{Model, nowhere, to, Slots, gone, live, Good, Holds, Valid, slot_of, ports_of, count_of, total}
use Rattle.portgraph.specs.Meaning.{remove_model, unlink_model, at_node}
use Rattle.portgraph.specs.Lookups.{num_ports}
use Rattle.portgraph.specs.Calls.{remove_node, unlink_port}
use Rattle.portgraph.specs.Sums.{total_one, drop_kept, drop_joined, drop_there, upd_other, upd_same}
use Rattle.portgraph.specs.GoodSlots.{gone_not_live, slots_apart, same_place_lem, node_below}
use Rattle.portgraph.specs.GoodLaws.{good_remove}
use Rattle.portgraph.specs.SlotHolds.{remove_law, remove_slots, free_holds}
use Rattle.port_tables.specs.declared.node_entry.NodeMeta.{NodeMeta}
use Rattle.portgraph.specs.declared.portgraph.PortGraph.{PortGraph}
use Rattle.multiportgraph.specs.Reading.{is_hidden, is_split, copy_side, copy_node, port_of}
use Rattle.multiportgraph.specs.WellFormed.{copy_place, Fine, Seen, outer, lift, IsEnd, WireIn, SameBlocks, Wiring, subports_of_slot}
use Rattle.multiportgraph.specs.RecountLaws.{both_sides}
use Rattle.multiportgraph.specs.Ends.{Hangs, port_of_lem, count_in_lem, copy_valid, main_seen, main_back, outer_of_subport, outer_of_block, one_copy, unsplit_no_copy, split_has_copy, ends_join_ends, outer_of_unsplit}
use Rattle.multiportgraph.specs.HiddenStays.{same_wire, outer_kept, true_not_false, AtCopyLink, Frame, frame_fine, Alike, kept_end, wire_kept, kept_wire}
use Rattle.multiportgraph.specs.LinkCutLaws.{end_is_here, CutDone, cut_end_lem, end_is, touches_neither, touched_not_out, touched_not_into, at_spot_here, at_spot_is}
use Rattle.multiportgraph.specs.declared.multiportgraph.MultiPortGraph.{MultiPortGraph}
use Rattle.port_tables.specs.Places.{Place, Wire, touches, at_spot, at_end, spot, flag}
use Rattle.multiportgraph.specs.Graph.{with_graph}
use Rattle.multiportgraph.specs.HiddenNodes.{remove_copy, unsplit}
use Rattle.portgraph.specs.Joins.{to_same}

-- the ports at a place, whatever the offset
abbrev pub port_at : model.InnerPlace → Place → Bool
port_at x = at_spot (spot x.node x.side x.pos)

pub port_at_here : (x : model.InnerPlace) (o : ℕ) → port_at x (lift x o) ≡ true
port_at_here x o = at_spot_here x.node x.side x.pos (lift x o) refl refl refl

pub port_at_is : (x z : model.InnerPlace) (o : ℕ) → port_at x (lift z o) ≡ true → z ≡ x
port_at_is x z o t = let r = at_spot_is x.node x.side x.pos (lift z o) t in same_place_lem z x r.0 r.1 r.2

-- the lower graph without a node
pub removed_holds : {g : PortGraph} {M : Model} → Good M → Holds g M → (n : ℕ) (k : NodeMeta) → M.node n ≡ live k → Holds (remove_node g n).graph (remove_model M n k)
removed_holds {g} {M} good h n k e =
    subst (λ (r : _). Holds r.graph (remove_model M n k)) (sym (remove_law h n ∙ ap (remove_slots g n) e)) (free_holds good h n k e)

-- A hidden node goes, whatever hung on it: of flags and marks only its own, its copy port's and that of the port named are taken off.

cleared : (l : List Bool) (i : ℕ) → get_or (set l i false) i false ≡ false
cleared [] i = refl
cleared (x ∷ l) zero = refl
cleared (x ∷ l) (suc i) = cleared l i

module _ (m : MultiPortGraph) (p c : ℕ) where
  abbrev own_port : ℕ
  own_port = port_of m.graph c (copy_side m c) 0

  pub hidden_gone : is_hidden (remove_copy m p c) c ≡ false
  unfolding is_hidden remove_copy
  hidden_gone = cleared m.copy_node c

  pub hidden_other : (n : ℕ) → (n ≡ c → ⊥) → is_hidden (remove_copy m p c) n ≡ is_hidden m n
  unfolding is_hidden remove_copy
  hidden_other n other = get_or-set_other m.copy_node c n false false other

  pub hidden_not_copy : (n : ℕ) → is_hidden (remove_copy m p c) n ≡ true → n ≡ c → ⊥
  hidden_not_copy n t e = true_not_false t (ap (is_hidden (remove_copy m p c)) e ∙ hidden_gone)

  pub still_hidden : (n : ℕ) → is_hidden (remove_copy m p c) n ≡ true → is_hidden m n ≡ true
  still_hidden n t = sym (hidden_other n (hidden_not_copy n t)) ∙ t

  pub split_other : (s : ℕ) → (s ≡ own_port → ⊥) → (s ≡ p → ⊥) → is_split (remove_copy m p c) s ≡ is_split m s
  unfolding is_split remove_copy
  split_other s a b = get_or-set_other (set m.multiport own_port false) p s false false b ∙ get_or-set_other m.multiport own_port s false false a

  pub split_main : is_split (remove_copy m p c) p ≡ false
  unfolding is_split remove_copy
  split_main = cleared (set m.multiport own_port false) p

  pub split_copy : is_split (remove_copy m p c) own_port ≡ false
  unfolding is_split remove_copy
  split_copy = ⊎_elim
      (λ e. ap (λ (s : ℕ). get_or (set (set m.multiport own_port false) p false) s false) e ∙ split_main)
      (λ other. get_or-set_other (set m.multiport own_port false) p own_port false false other ∙ cleared m.multiport own_port)
      (cases_eq own_port p)

  pub still_split : (s : ℕ) → is_split (remove_copy m p c) s ≡ true → is_split m s ≡ true
  still_split s t =
      sym (split_other s (λ e. true_not_false t (ap (is_split (remove_copy m p c)) e ∙ split_copy)) (λ e. true_not_false t (ap (is_split (remove_copy m p c)) e ∙ split_main)))
      ∙ t

  pub marks_left : length (remove_copy m p c).multiport ≡ length m.multiport
  unfolding remove_copy
  marks_left = length-set (set m.multiport own_port false) p false ∙ length-set m.multiport own_port false

  pub flags_left : length (remove_copy m p c).copy_node ≡ length m.copy_node
  unfolding remove_copy
  flags_left = length-set m.copy_node c false

-- Other nodes of the model stay, and so do the links between them.
module _ (M : Model) (c : ℕ) (k : NodeMeta) where
  pub node_other : (n : ℕ) → (n ≡ c → ⊥) → (remove_model M c k).node n ≡ M.node n
  node_other n other = upd_other M.node c gone n other

  pub join_other : (z u : model.InnerPlace) → M.join z ≡ to u → (z.node ≡ c → ⊥) → (u.node ≡ c → ⊥) → (remove_model M c k).join z ≡ to u
  join_other z u j a b = drop_kept (at_node c) M.join z u j (ne_eqb z.node c a) (ne_eqb u.node c b)

  pub join_was : (z u : model.InnerPlace) → (remove_model M c k).join z ≡ to u → (M.join z ≡ to u) × (z.node ≡ c → ⊥) × (u.node ≡ c → ⊥)
  join_was z u j = let t = drop_joined (at_node c) M.join z u j in (t.0, eqb-false z.node c t.1, eqb-false u.node c t.2)

module _ (m : MultiPortGraph) {M : Model} (good : Good M) (holds : Holds m.graph M) (p c : ℕ) (k : NodeMeta) (here : M.node c ≡ live k) where
  pub holds_left : Holds (remove_copy m p c).graph (remove_model M c k)
  unfolding remove_copy
  holds_left = removed_holds good holds c k here

  -- the counts of hidden nodes and of subports
  pub copies_left : is_hidden m c ≡ true → m.copy_node_count ≡ total node_slots (λ n. flag (is_hidden m n))
      → (remove_copy m p c).copy_node_count ≡ total node_slots (λ n. flag (is_hidden (remove_copy m p c) n))
  unfolding remove_copy
  copies_left hc e =
      let t = total_one node_slots c (λ n. flag (is_hidden m n)) (λ n. flag (is_hidden (remove_copy m p c) n)) (node_below good c k here) (λ n l other. ap flag (sym (hidden_other m p c n other))) in
      let a : flag (is_hidden m c) ≡ 1 = ap flag hc in
      let b : flag (is_hidden (remove_copy m p c) c) ≡ 0 = ap flag (hidden_gone m p c) in
      omega arith

  pub subs_left : is_hidden m c ≡ true → ports_on k (copy_side m c) ≡ 1 → m.subport_count ≡ total node_slots (subports_of_slot m M)
      → (remove_copy m p c).subport_count ≡ total node_slots (subports_of_slot (remove_copy m p c) (remove_model M c k))
  unfolding remove_copy
  subs_left hc single e =
      let t = total_one node_slots c (subports_of_slot m M) (subports_of_slot (remove_copy m p c) (remove_model M c k)) (node_below good c k here)
      (λ n l other. sym (ap (λ (b : Bool). cond b (ports_of ((remove_model M c k).node n) - 1) 0) (hidden_other m p c n other) ∙ ap (λ (s : Slots). cond (is_hidden m n) (ports_of s - 1) 0) (node_other M c k n other))) in
      let a : subports_of_slot m M c ≡ k.incoming + k.outgoing - 1 = ap (λ (b : Bool). cond b (ports_of (M.node c) - 1) 0) hc ∙ ap (λ (s : Slots). ports_of s - 1) here in
      let b : subports_of_slot (remove_copy m p c) (remove_model M c k) c ≡ 0 = ap (λ (b : Bool). cond b (ports_of ((remove_model M c k).node c) - 1) 0) (hidden_gone m p c) in
      let s = both_sides k (copy_side m c) in
      let q : num_ports m.graph c (reversed (copy_side m c)) ≡ ports_on k (reversed (copy_side m c)) = count_in_lem good holds c (reversed (copy_side m c)) ∙ ap (λ (s : Slots). count_of s (reversed (copy_side m c))) here in
      omega arith

module _ {m : MultiPortGraph} {M : Model} (f : Fine m M) (x : model.InnerPlace) (c : ℕ) (hc : is_hidden m c ≡ true) (from : M.join (copy_place m c) ≡ to x) where
  abbrev without_copy : MultiPortGraph
  without_copy = remove_copy m (slot_of M.node x) c

  abbrev k : NodeMeta
  k = (f.copy c hc).meta

  abbrev model_after : Model
  model_after = remove_model M c k

  x_seen : Seen m M x
  x_seen = main_seen f c x hc from

  pub x_not_copy : x.node ≡ c → ⊥
  x_not_copy e = true_not_false hc (ap (is_hidden m) (sym e) ∙ x_seen.1)

  copy_slot : port_of m.graph c (copy_side m c) 0 ≡ slot_of M.node (copy_place m c)
  copy_slot = port_of_lem f c (copy_side m c) 0 (copy_valid f c hc)

  apart_split : (s : ℕ) → (s ≡ slot_of M.node (copy_place m c) → ⊥) → (s ≡ slot_of M.node x → ⊥) → is_split without_copy s ≡ is_split m s
  apart_split s a = split_other m (slot_of M.node x) c s (λ e. a (e ∙ copy_slot))

  main_not_copy : (e : ℕ) (z : model.InnerPlace) → is_hidden m e ≡ true → M.join (copy_place m e) ≡ to z → z.node ≡ c → ⊥
  main_not_copy e z h j q = true_not_false hc (ap (is_hidden m) (sym q) ∙ (main_seen f e z h j).1)

  -- the links of other hidden nodes have other slots
  other_link : (e s : ℕ) → is_hidden m e ≡ true → (e ≡ c → ⊥) → AtCopyLink m M e s
      → (s ≡ slot_of M.node (copy_place m c) → ⊥) × (s ≡ slot_of M.node x → ⊥)
  other_link e s h other (inl q) = (
    (λ r. other (ap (λ (z : model.InnerPlace). z.node) (slots_apart f.good (copy_place m e) (copy_place m c) (copy_valid f e h) (copy_valid f c hc) (q ∙ r)))),
    λ r. true_not_false h (ap (λ (z : model.InnerPlace). is_hidden m z.node) (slots_apart f.good (copy_place m e) x (copy_valid f e h) x_seen.0 (q ∙ r)) ∙ x_seen.1),
  )
  other_link e s h other (inr r) =
      let sy = main_seen f e r.0 h r.1 in (
        (λ q. true_not_false hc (ap (λ (z : model.InnerPlace). is_hidden m z.node) (sym (slots_apart f.good r.0 (copy_place m c) sy.0 (copy_valid f c hc) (r.2 ∙ q))) ∙ sy.1)),
        λ q. other (one_copy f e c x (r.1 ∙ ap to (slots_apart f.good r.0 x sy.0 x_seen.0 (r.2 ∙ q))) from),
      )

  link_marked : (e s : ℕ) → is_hidden m e ≡ true → AtCopyLink m M e s → is_split m s ≡ true
  link_marked e s h (inl q) = subst (λ (t : ℕ). is_split m t ≡ true) q (f.copy_marked e h)
  link_marked e s h (inr r) = subst (λ (t : ℕ). is_split m t ≡ true) r.2 (f.main_marked e r.0 h r.1)

  own_link_unmarked : (s : ℕ) → AtCopyLink m M c s → is_split without_copy s ≡ false
  own_link_unmarked s (inl q) = ap (is_split without_copy) (sym (copy_slot ∙ q)) ∙ split_copy m (slot_of M.node x) c
  own_link_unmarked s (inr r) =
      let j = r.1 in
      let e : r.0 ≡ x = cc in
      ap (is_split without_copy) (sym r.2) ∙ (ap (λ (z : model.InnerPlace). is_split without_copy (slot_of M.node z)) e ∙ split_main m (slot_of M.node x) c)

  stays : (e s : ℕ) → is_hidden m e ≡ true → is_split without_copy s ≡ true → AtCopyLink m M e s → is_hidden without_copy e ≡ true
  stays e s h t a =
      ⊎_elim (λ q. absurd (true_not_false t (own_link_unmarked s (subst (λ (n : ℕ). AtCopyLink m M n s) q a)))) (λ other. hidden_other m (slot_of M.node x) c e other ∙ h) (cases_eq e c)

  pub copy_frame : Frame m M without_copy model_after
  copy_frame =
      let i = f.copy c hc in
      record {
        good = good_remove f.good c k i.here;
        holds = holds_left m f.good f.holds (slot_of M.node x) c k i.here;
        marks_long = marks_left m (slot_of M.node x) c ∙ f.marks_long;
        flags_long = flags_left m (slot_of M.node x) c ∙ f.flags_long;
        hid = still_hidden m (slot_of M.node x) c;
        node = λ e h. node_other M c k e (hidden_not_copy m (slot_of M.node x) c e h);
        main = λ e z h j. node_other M c k z.node (main_not_copy e z (still_hidden m (slot_of M.node x) c e h) j);
        join = λ e h.
            let i = f.copy e (still_hidden m (slot_of M.node x) c e h) in
            join_other M c k (copy_place m e) i.main i.joined (hidden_not_copy m (slot_of M.node x) c e h) (main_not_copy e i.main (still_hidden m (slot_of M.node x) c e h) i.joined) ∙ sym i.joined;
        marked = λ e s h a.
            let n = other_link e s (still_hidden m (slot_of M.node x) c e h) (hidden_not_copy m (slot_of M.node x) c e h) a in
            apart_split s n.0 n.1 ∙ link_marked e s (still_hidden m (slot_of M.node x) c e h) a;
        only = still_split m (slot_of M.node x) c;
        stays = stays;
        copies = copies_left m f.good f.holds (slot_of M.node x) c k i.here hc f.copies;
        subs = subs_left m f.good f.holds (slot_of M.node x) c k i.here hc i.single f.subs;
      }

  -- Blocks and wires.

  copy_blocks : SameBlocks m M without_copy model_after
  copy_blocks = (
    (λ n l b. let other : n ≡ c → ⊥ = λ q. true_not_false hc (ap (is_hidden m) (sym q) ∙ b.0) in (hidden_other m (slot_of M.node x) c n other ∙ b.0, node_other M c k n other ∙ b.1)),
    λ n l b. let other : n ≡ c → ⊥ = λ q. gone_not_live (ap model_after.node q ∙ upd_same M.node c gone) b.1 in (sym (hidden_other m (slot_of M.node x) c n other) ∙ b.0, sym (node_other M c k n other) ∙ b.1),
  )

  -- the ends of that port are the hidden node's
  end_of_copy : (z : model.InnerPlace) → z.node ≡ c → port_at x (outer m M z) ≡ true
  end_of_copy z q =
      ap (port_at x) (outer_of_subport f z x (ap (is_hidden m) q ∙ hc) (ap (λ (n : ℕ). M.join (copy_place m n)) q ∙ from)) ∙ port_at_here x z.pos

  pub end_elsewhere : (z : model.InnerPlace) → IsEnd m M z → (z.node ≡ c → ⊥) → port_at x (outer m M z) ≡ false
  end_elsewhere z ez other = ⊎_elim (λ t. absurd (clash t)) (λ e. e) (cases_Bool (port_at x (outer m M z)))
    where
      clash : port_at x (outer m M z) ≡ true → ⊥
      clash t = ⊎_elim sub whole (cases_Bool (is_hidden m z.node))
        where
          whole : is_hidden m z.node ≡ false → ⊥
          whole h =
              let q : z ≡ x = port_at_is x z 0 (ap (port_at x) (sym (outer_of_block f z h)) ∙ t) in
              true_not_false (f.main_marked c x hc from) (ap (λ (y : model.InnerPlace). is_split m (slot_of M.node y)) (sym q) ∙ ez.unsplit h)

          sub : is_hidden m z.node ≡ true → ⊥
          sub h =
              let i = f.copy z.node h in
              let q : i.main ≡ x = port_at_is x i.main z.pos (ap (port_at x) (sym (outer_of_subport f z i.main h i.joined)) ∙ t) in
              other (one_copy f z.node c x (i.joined ∙ ap to q) from)

  pub copy_alike : (z : model.InnerPlace) → Valid M.node z → (z.node ≡ c → ⊥) → (z ≡ x → ⊥) → Alike m M without_copy model_after z
  copy_alike z v other away =
      record {
        node = node_other M c k z.node other;
        hidden = hidden_other m (slot_of M.node x) c z.node other;
        split = λ h.
            apart_split (slot_of M.node z)
            (λ q. other (ap (λ (y : model.InnerPlace). y.node) (slots_apart f.good z (copy_place m c) v (copy_valid f c hc) q)))
            (λ q. away (slots_apart f.good z x v x_seen.0 q));
      }

  copy_wires : Wiring m M without_copy model_after (port_at x) []
  copy_wires = record { kept = kept; came = λ w b. absurd b; only = λ w e. inl (only w e) }
    where
      kept : (w : Wire) → WireIn m M w → touches (port_at x) w ≡ false → WireIn without_copy model_after w
      kept w e n =
          let a : e.x.node ≡ c → ⊥ = λ q. true_not_false (end_of_copy e.x q) (ap (port_at x) (sym (ap (λ (v : Wire). v.out) e.is)) ∙ touched_not_out (port_at x) w n) in
          let b : e.y.node ≡ c → ⊥ = λ q. true_not_false (end_of_copy e.y q) (ap (port_at x) (sym (ap (λ (v : Wire). v.into) e.is)) ∙ touched_not_into (port_at x) w n) in
          wire_kept f copy_frame w e (join_other M c k e.x e.y e.joined a b)
          (copy_alike e.x e.end.valid a (λ q. b (ap (λ (y : model.InnerPlace). y.node) (to_same e.joined (ap M.join q ∙ main_back f c x from)))))
          (hidden_other m (slot_of M.node x) c e.y.node b)

      only : (w : Wire) → WireIn without_copy model_after w → WireIn m M w × (touches (port_at x) w ≡ false)
      only w e =
          let j = join_was M c k e.x e.y e.joined in
          let a = j.1 in
          let b = j.2 in
          let l : Alike m M without_copy model_after e.x =
          copy_alike e.x (f.good.join_valid e.x e.y j.0) a (λ q. b (ap (λ (y : model.InnerPlace). y.node) (to_same j.0 (ap M.join q ∙ main_back f c x from)))) in
          let v : WireIn m M w = kept_wire f copy_frame w e j.0 l (hidden_other m (slot_of M.node x) c e.y.node b) in
          let ez : IsEnd m M e.x = kept_end f copy_frame e.x l e.end in (
            v,
            ap (touches (port_at x)) (e.is ∙ same_wire (outer_kept f copy_frame e.x l.hidden) (outer_kept f copy_frame e.y (hidden_other m (slot_of M.node x) c e.y.node b)))
                ∙ touches_neither (port_at x) _ (end_elsewhere e.x ez a) (end_elsewhere e.y (ends_join_ends f e.x e.y ez j.0) b),
          )

-- the split port is left unsplit and free, and no port is split that was not
pub record CopyGone (m : MultiPortGraph) (M : Model) (x : model.InnerPlace) (m' : MultiPortGraph) (M' : Model) : Type 0 where
  pub fine : Fine m' M'
  pub blocks : SameBlocks m M m' M'
  pub wires : Wiring m M m' M' (port_at x) []
  pub is_seen : Seen m' M' x
  pub slot : slot_of M'.node x ≡ slot_of M.node x
  pub unsplit : is_split m' (slot_of M.node x) ≡ false
  pub free : M'.join x ≡ nowhere
  pub only_split : (s : ℕ) → is_split m' s ≡ true → is_split m s ≡ true

pub copy_goes : {m : MultiPortGraph} {M : Model} (f : Fine m M) (x : model.InnerPlace) (h : Hangs m M x)
    → CopyGone m M x (remove_copy m (slot_of M.node x) h.copy) (remove_model M h.copy (f.copy h.copy h.is_copy).meta)
copy_goes {m} {M} f x h =
    let n : (remove_model M h.copy (f.copy h.copy h.is_copy).meta).node x.node ≡ M.node x.node = node_other M h.copy (f.copy h.copy h.is_copy).meta x.node (x_not_copy f x h.copy h.is_copy h.from) in
    record {
      fine = frame_fine f (copy_frame f x h.copy h.is_copy h.from);
      blocks = copy_blocks f x h.copy h.is_copy h.from;
      wires = copy_wires f x h.copy h.is_copy h.from;
      is_seen = (
        subst (λ (s : Slots). x.pos < count_of s x.side) (sym n) (x_seen f x h.copy h.is_copy h.from).0,
        hidden_other m (slot_of M.node x) h.copy x.node (x_not_copy f x h.copy h.is_copy h.from) ∙ (x_seen f x h.copy h.is_copy h.from).1,
      );
      slot = ap (λ (s : Slots). model.first_of s + (model.side_start s x.side + x.pos)) n;
      unsplit = split_main m (slot_of M.node x) h.copy;
      free = drop_there (at_node h.copy) M.join x (copy_place m h.copy) h.back (eq-eqb h.copy h.copy refl);
      only_split = still_split m (slot_of M.node x) h.copy;
    }

-- A port loses its hidden node, if it has one.

pub unsplit_split : (m : MultiPortGraph) (p : ℕ) → is_split m p ≡ true → unsplit m p ≡ remove_copy m p (copy_node m p)
unfolding unsplit
unsplit_split m p e = rw e

pub unsplit_gone : {m : MultiPortGraph} {M : Model} (f : Fine m M) (x : model.InnerPlace) → Seen m M x → is_split m (slot_of M.node x) ≡ true
    → (M' : Model) × CopyGone m M x (unsplit m (slot_of M.node x)) M'
unsplit_gone {m} {M} f x sx t =
    let h = split_has_copy f x sx t in (
      remove_model M h.copy (f.copy h.copy h.is_copy).meta,
      subst (λ (m' : MultiPortGraph). CopyGone m M x m' (remove_model M h.copy (f.copy h.copy h.is_copy).meta))
          (sym (unsplit_split m (slot_of M.node x) t ∙ ap (remove_copy m (slot_of M.node x)) h.copy_is))
          (copy_goes f x h),
    )

-- Cutting a port.

module _ {m : MultiPortGraph} {M : Model} (f : Fine m M) where
  -- tests that agree on ends drop the same wires
  pub same_test : {m' : MultiPortGraph} {M' : Model} {more : List Wire} (t u : Place → Bool) → ((z : model.InnerPlace) → IsEnd m M z → t (outer m M z) ≡ u (outer m M z))
      → Wiring m M m' M' t more → Wiring m M m' M' u more
  same_test t u agree d =
      record {
        kept = λ w e n. d.kept w e (same w e ∙ n);
        came = d.came;
        only = λ w e. ⊎_elim (λ r. inl (r.0, sym (same w r.0) ∙ r.1)) inr (d.only w e);
      }
    where
      same : (w : Wire) → WireIn m M w → touches t w ≡ touches u w
      same w e =
          let a : t (outer m M e.x) ≡ u (outer m M e.x) = agree e.x e.end in
          let b : t (outer m M e.y) ≡ u (outer m M e.y) = agree e.y (ends_join_ends f e.x e.y e.end e.joined) in
          ap (touches t) e.is ∙ (rw (a, b) refl ∙ sym (ap (touches u) e.is))

  -- an unsplit port has one end
  one_end : (x z : model.InnerPlace) → Seen m M x → is_split m (slot_of M.node x) ≡ false → IsEnd m M z → end_is (lift x 0) (outer m M z) ≡ port_at x (outer m M z)
  unfolding at_end
  one_end x z sx n ez = ⊎_elim here away (cases_Bool (port_at x (outer m M z)))
    where
      away : port_at x (outer m M z) ≡ false → end_is (lift x 0) (outer m M z) ≡ port_at x (outer m M z)
      away e = rw e

      here : port_at x (outer m M z) ≡ true → end_is (lift x 0) (outer m M z) ≡ port_at x (outer m M z)
      here t = ⊎_elim sub whole (cases_Bool (is_hidden m z.node))
        where
          whole : is_hidden m z.node ≡ false → end_is (lift x 0) (outer m M z) ≡ port_at x (outer m M z)
          whole h =
              let o : outer m M z ≡ lift z 0 = outer_of_block f z h in
              let q : z ≡ x = port_at_is x z 0 (ap (port_at x) (sym o) ∙ t) in
              ap (end_is (lift x 0)) (o ∙ ap (λ (y : model.InnerPlace). lift y 0) q) ∙ (end_is_here (lift x 0) ∙ sym t)

          sub : is_hidden m z.node ≡ true → end_is (lift x 0) (outer m M z) ≡ port_at x (outer m M z)
          sub h =
              let i = f.copy z.node h in
              let q : i.main ≡ x = port_at_is x i.main z.pos (ap (port_at x) (sym (outer_of_subport f z i.main h i.joined)) ∙ t) in
              absurd (unsplit_no_copy f x n z.node h (i.joined ∙ ap to q))

  pub whole_cut : (x : model.InnerPlace) → Seen m M x → is_split m (slot_of M.node x) ≡ false
      → CutDone m M (with_graph m (unlink_port m.graph (slot_of M.node x)).graph) (slot_of M.node x) port_at
  whole_cut x sx n =
      let u = outer_of_unsplit f x sx n in
      let c = cut_end_lem f x u.1 in
      record {
        x = x;
        is_seen = sx;
        at = refl;
        model = unlink_model M x;
        fine = c.fine;
        blocks = c.blocks;
        wires =
            same_test (end_is (outer m M x)) (port_at x)
            (λ z ez. ap (λ (v : Place). end_is v (outer m M z)) u.0 ∙ one_end x z sx n ez) c.wires;
      }

  pub split_cut : (x : model.InnerPlace) → Seen m M x → is_split m (slot_of M.node x) ≡ true → CutDone m M (unsplit m (slot_of M.node x)) (slot_of M.node x) port_at
  split_cut x sx t =
      let r = unsplit_gone f x sx t in
      record { x = x; is_seen = sx; at = refl; model = r.0; fine = r.1.fine; blocks = r.1.blocks; wires = r.1.wires }
