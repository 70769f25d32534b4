-- Other counts for a block: the lower resize leaves the hidden nodes of dropped ports hanging on nothing (`Loose`), and they go
-- one after the other. Every wire at a dropped position goes, all others stay.
use Rattle.std.proofs.lemmas.Bool.{cases_eq}
use Rattle.std.specs.Prelude.{◌≡◌, Bool, ◌||◌, List, [], ◌∷◌, ◌++◌, ◌⊎◌, leb, length, Option, Some, None, Ok, Err, Result}
use Rattle.std.proofs.Math.Path.{refl, sym, ap, subst}
use Rattle.std.proofs.Common.{◌∙◌, inl, inr, leb-true, leb-false}
use Rattle.std.proofs.Math.Bool.{true, false, cond}
use Rattle.std.proofs.Math.Logic.{⊎_elim}
use Prim.Native.Nat.{ℕ, zero, suc, ◌+◌, ◌-◌, ◌≤◌, ◌<◌, min}
use native.Mathlib.Omega.{arith}
use Rattle.port_tables.specs.Limits.{node_slots, port_slots, node_ports, present}
use Rattle.port_tables.specs.Lists.{Member, Once}
use Rattle.port_tables.specs.Entries.{ports_on, new_count}
use Rattle.portgraph.specs.Lookups.{meta_at}
use Rattle.portgraph.specs.Model as model
use Rattle.portgraph.specs.Model.{Model, Far, nowhere, to, Slots, gone, live, Good, Holds, Valid, slot_of, count_of, ports_of, total}
use Rattle.port_tables.specs.Tables.{Within}
use Rattle.portgraph.specs.Meaning.{beyond, at_node, remove_model}
use Rattle.portgraph.specs.Resize.{set_num_ports}
use Rattle.portgraph.specs.ResizeLaws.{kept_stays, kept_link}
use Rattle.portgraph.specs.GoodLaws.{good_remove}
use Rattle.portgraph.specs.GoodSlots.{zero_is_not_one, gone_not_live, upd_same, joined_is_valid, slots_apart}
use Rattle.portgraph.specs.Sums.{drop_there, drop_nowhere, drop_joined, total_same}
use Rattle.portgraph.specs.PlaceLaws.{meta_of_node, node_of_meta, port_index_is}
use Rattle.port_tables.specs.declared.direction.Direction.{Direction}
use Rattle.port_tables.specs.declared.direction.Direction.TheVariants.{Incoming, Outgoing}
use Rattle.port_tables.specs.declared.node_entry.NodeMeta.{NodeMeta}
use Rattle.portgraph.specs.declared.portgraph.PortGraph.{PortGraph}
use Rattle.multiportgraph.specs.Reading.{is_hidden, is_split, copy_side, copy_node, port_number, port_of, subports}
use Rattle.multiportgraph.specs.Calls.{set_as, set_counts}
use Rattle.multiportgraph.specs.WellFormed.{inner#, copy_place, Fine, Marked, copy_port, main_port_lem, BlockIs, Seen, outer, IsEnd, Wiring, subports_of_slot}
use Rattle.multiportgraph.specs.Ends.{Hangs, hangs, one_copy, split_has_copy, copy_valid, main_seen, outer_of_subport, outer_of_block}
use Rattle.multiportgraph.specs.HiddenStays.{copy_side_is, same_copy, same_wire, true_not_false, wire_again}
use Rattle.multiportgraph.specs.RecountLaws.{Recount, SomeRecount, set_recounts, recount_of, stays_below, count_new, slot_on_side, PlaceAt, place_among, WasMarked, Shape, recount_marks, marked_was, marks_long_lem, other_count, count_at}
use Rattle.multiportgraph.specs.CopyLaws.{hidden_other, hidden_not_copy, still_hidden, split_other, split_copy, still_split, marks_left, flags_left, node_other, join_other, join_was, holds_left, copies_left, subs_left}
use Rattle.multiportgraph.specs.declared.multiportgraph.MultiPortGraph.{MultiPortGraph}
use Rattle.multiportgraph.specs.declared.multiportgraph.PortsSet.{PortsSet}
use Rattle.multi_tables.specs.declared.answers.Refusal.{Refusal}
use Rattle.multi_tables.specs.declared.answers.Refusal.TheVariants.{TooManyPorts, UnknownNode, HiddenNode}
use Rattle.port_tables.specs.Places.{touches, of_dropped, flag}
use Rattle.multiportgraph.specs.HiddenNodes.{recounted, copies_in, copies_dropped, remove_copy, remove_lone, remove_all}
use Rattle.multiportgraph.specs.Cases.{resized, set_meta}
use Rattle.multiportgraph.specs.CaseLaws.{set_cases}
use Rattle.portgraph.specs.declared.resize.SetError.TheVariants as set_error
use Rattle.portgraph.specs.declared.resize.SetError.{SetError}
use Rattle.port_tables.specs.Listing.{member_left, member_right, member_append}
use Rattle.std.proofs.lemmas.Bool.{or_parts}
use Rattle.portgraph.specs.DropHolds.{is_beyond}
use Rattle.portgraph.specs.Joins.{nowhere_not_to}

-- Lists.

uniq_append : (l k : List ℕ) → Once l → Once k → ((c : ℕ) → Member c l → Member c k → ⊥) → Once (l ++ k)
uniq_append [] k u v d = v
uniq_append (x ∷ l) k u v d =
    ((λ h. ⊎_elim u.0 (d x (inl refl)) (member_append x l k h)), uniq_append l k u.1 v (λ c p q. d c (inr p) q))

-- Hidden nodes of a range of ports.

record CopyAt (m : MultiPortGraph) (p k c : ℕ) : Type 0 where
  slot : ℕ
  low : p ≤ slot
  high : slot < p + k
  split : is_split m slot ≡ true
  is : copy_node m slot ≡ c

in_copies : (k : ℕ) (m : MultiPortGraph) (p c : ℕ) → Member c (copies_in m p k) → CopyAt m p k c
unfolding copies_in
in_copies zero m p c h = absurd h
in_copies (suc k) m p c h = go (is_split m p) refl (in_copies k m (suc p) c) h
  where
    later : CopyAt m (suc p) k c → CopyAt m p (suc k) c
    later t = let l = t.low in let u = t.high in record { slot = t.slot; low = omega arith; high = omega arith; split = t.split; is = t.is }

    go : (b : Bool) → is_split m p ≡ b → (Member c (copies_in m (suc p) k) → CopyAt m (suc p) k c) → Member c (cond b (copy_node m p ∷ copies_in m (suc p) k) (copies_in m (suc p) k)) → CopyAt m p (suc k) c
    go true e r (inl q) = record { slot = p; low = omega arith; high = omega arith; split = e; is = sym q }
    go true e r (inr q) = later (r q)
    go false e r q = later (r q)

copies_in_lem : (k : ℕ) (m : MultiPortGraph) (p s : ℕ) → p ≤ s → s < p + k → is_split m s ≡ true → Member (copy_node m s) (copies_in m p k)
unfolding copies_in
copies_in_lem zero m p s l u e = absurd (omega arith)
copies_in_lem (suc k) m p s l u e = ⊎_elim now (λ q. later (is_split m p) (copies_in_lem k m (suc p) s (omega arith) (omega arith) e)) (cases_eq s p)
  where
    now : s ≡ p → Member (copy_node m s) (cond (is_split m p) (copy_node m p ∷ copies_in m (suc p) k) (copies_in m (suc p) k))
    now q =
        let t : is_split m p ≡ true = sym (ap (is_split m) q) ∙ e in
        subst (λ (b : Bool). Member (copy_node m s) (cond b (copy_node m p ∷ copies_in m (suc p) k) (copies_in m (suc p) k))) (sym t) (inl (ap (copy_node m) q))

    later : (b : Bool) → Member (copy_node m s) (copies_in m (suc p) k) → Member (copy_node m s) (cond b (copy_node m p ∷ copies_in m (suc p) k) (copies_in m (suc p) k))
    later true h = inr h
    later false h = h

-- split ports among these have different hidden nodes
Apart : MultiPortGraph → ℕ → ℕ → Type 0
Apart m p k = (s t : ℕ) → Within p k s → Within p k t → is_split m s ≡ true → is_split m t ≡ true → copy_node m s ≡ copy_node m t → s ≡ t

uniq_copies : (k : ℕ) (m : MultiPortGraph) (p : ℕ) → Apart m p k → Once (copies_in m p k)
unfolding copies_in Apart
uniq_copies zero m p a = tt
uniq_copies (suc k) m p a =
    go (is_split m p) refl (uniq_copies k m (suc p) (λ s t u v.
    let u0 = u.0 in let u1 = u.1 in let v0 = v.0 in let v1 = v.1 in a s t ((omega arith), (omega arith)) ((omega arith), (omega arith))))
  where
    go : (b : Bool) → is_split m p ≡ b → Once (copies_in m (suc p) k) → Once (cond b (copy_node m p ∷ copies_in m (suc p) k) (copies_in m (suc p) k))
    go true e r = (
      (λ h.
          let t = in_copies k m (suc p) (copy_node m p) h in
          let l = t.low in
          let u = t.high in
          let q = a p t.slot ((omega arith), (omega arith)) ((omega arith), (omega arith)) e t.split (sym t.is) in
          omega arith),
      r,
    )
    go false e r = r

-- The hidden nodes of dropped ports of block n.

abbrev dropped_ins : MultiPortGraph → NodeMeta → ℕ → List ℕ
dropped_ins m a i = copies_in m (a.first_port.0 + min a.incoming i) (a.incoming - min a.incoming i)

abbrev dropped_outs : MultiPortGraph → NodeMeta → ℕ → List ℕ
dropped_outs m a o = copies_in m (a.first_port.0 + a.incoming + min a.outgoing o) (a.outgoing - min a.outgoing o)

-- a hidden node whose main port is dropped
pub record DroppedMain (m : MultiPortGraph) (M : Model) (n i o c : ℕ) : Type 0 where
  pub main : model.InnerPlace
  pub is_copy : is_hidden m c ≡ true
  pub joined : M.join (copy_place m c) ≡ to main
  pub node : main.node ≡ n
  pub dropped : new_count i o main.side ≤ main.pos

module _ {m : MultiPortGraph} {M : Model} (f : Fine m M) (n : ℕ) (a : NodeMeta) (shown : is_hidden m n ≡ false) (here : M.node n ≡ live a) where
  -- what hangs on a split port of n, by its slot
  hung_at : (t : ℕ) (p : PlaceAt a t) → is_split m t ≡ true → is_hidden m (copy_node m t) ≡ true × (M.join (copy_place m (copy_node m t)) ≡ to (inner# n p.side p.pos))
  hung_at t p e =
      let x = inner# n p.side p.pos in
      let v : Valid M.node x = subst (λ (s : Slots). p.pos < count_of s p.side) (sym here) p.below in
      let q : slot_of M.node x ≡ t = ap (λ (s : Slots). slot_on_side s p.side p.pos) here ∙ p.slot in
      let h = split_has_copy f x (v, shown) (ap (is_split m) q ∙ e) in
      let k : h.copy ≡ copy_node m t = sym h.copy_is ∙ ap (copy_node m) q in
      (ap (is_hidden m) (sym k) ∙ h.is_copy, ap (λ (c : ℕ). M.join (copy_place m c)) (sym k) ∙ h.from)

  apart_at : (s t : ℕ) → Within a.first_port.0 (a.incoming + a.outgoing) s → Within a.first_port.0 (a.incoming + a.outgoing) t
      → is_split m s ≡ true → is_split m t ≡ true → copy_node m s ≡ copy_node m t → s ≡ t
  apart_at s t u v e d q =
      let p = place_among a s u in
      let r = place_among a t v in
      let j = (hung_at s p e).1 in
      let k = (hung_at t r d).1 in
      let w : M.join (copy_place m (copy_node m s)) ≡ M.join (copy_place m (copy_node m t)) = ap (λ (c : ℕ). M.join (copy_place m c)) q in
      let same : inner# n p.side p.pos ≡ inner# n r.side r.pos = cc in
      sym p.slot ∙ ap (λ (y : model.InnerPlace). slot_on_side (live a) y.side y.pos) same ∙ r.slot

  module _ (i o : ℕ) where
    dropped_has : (c : ℕ) → Member c (copies_dropped m a i o) → DroppedMain m M n i o c
    unfolding copies_dropped
    dropped_has c h = ⊎_elim ins outs (member_append c (dropped_ins m a i) (dropped_outs m a o) h)
      where
        found : (d : Direction) (j t : ℕ) → j < ports_on a d → slot_on_side (live a) d j ≡ t → new_count i o d ≤ j → is_split m t ≡ true → copy_node m t ≡ c → DroppedMain m M n i o c
        found d j t l q b e k =
            let u = hung_at t (record { side = d; pos = j; below = l; slot = q }) e in
            record {
              main = inner# n d j;
              is_copy = ap (is_hidden m) (sym k) ∙ u.0;
              joined = ap (λ (c : ℕ). M.join (copy_place m c)) (sym k) ∙ u.1;
              node = refl;
              dropped = b;
            }

        ins : Member c (dropped_ins m a i) → DroppedMain m M n i o c
        ins h =
            let t = in_copies _ m _ c h in
            let l = t.low in
            let u = t.high in
            found Incoming (t.slot - a.first_port.0) t.slot (omega arith) (omega arith) (omega arith) t.split t.is

        outs : Member c (dropped_outs m a o) → DroppedMain m M n i o c
        outs h =
            let t = in_copies _ m _ c h in
            let l = t.low in
            let u = t.high in
            found Outgoing (t.slot - (a.first_port.0 + a.incoming)) t.slot (omega arith) (omega arith) (omega arith) t.split t.is

    has_dropped : (c : ℕ) → DroppedMain m M n i o c → Member c (copies_dropped m a i o)
    unfolding copies_dropped
    has_dropped c t = go t.main.side refl
      where
        count : (d : Direction) → t.main.side ≡ d → t.main.pos < ports_on a d
        count d e =
            let v = joined_is_valid f.good (copy_place m c) t.main t.joined in
            subst (λ (k : Direction). t.main.pos < ports_on a k) e
            (subst (λ (s : Slots). t.main.pos < count_of s t.main.side) (ap M.node t.node ∙ here) v)

        beyond_by : (d : Direction) → t.main.side ≡ d → new_count i o d ≤ t.main.pos
        beyond_by d e = subst (λ (k : Direction). new_count i o k ≤ t.main.pos) e t.dropped

        slot_by : (d : Direction) → t.main.side ≡ d → slot_of M.node t.main ≡ slot_on_side (live a) d t.main.pos
        slot_by d e =
            ap (λ (s : Slots). slot_on_side s t.main.side t.main.pos) (ap M.node t.node ∙ here) ∙ ap (λ (k : Direction). slot_on_side (live a) k t.main.pos) e

        marked : is_split m (slot_of M.node t.main) ≡ true
        marked = f.main_marked c t.main t.is_copy t.joined

        named : copy_node m (slot_of M.node t.main) ≡ c
        named = let h = hangs f c t.main t.is_copy t.joined in h.copy_is ∙ one_copy f h.copy c t.main h.from t.joined

        go : (d : Direction) → t.main.side ≡ d → Member c (dropped_ins m a i ++ dropped_outs m a o)
        go Incoming e =
            let l = count Incoming e in
            let u = beyond_by Incoming e in
            let q = slot_by Incoming e in
            member_left c (dropped_ins m a i) (dropped_outs m a o) (subst (λ (k : ℕ). Member k (dropped_ins m a i)) named
            (copies_in_lem _ m _ (slot_of M.node t.main) (omega arith) (omega arith) marked))
        go Outgoing e =
            let l = count Outgoing e in
            let u = beyond_by Outgoing e in
            let q = slot_by Outgoing e in
            member_right c (dropped_ins m a i) (dropped_outs m a o)
            (subst (λ (k : ℕ). Member k (dropped_outs m a o)) named
            (copies_in_lem _ m _ (slot_of M.node t.main) (omega arith) (omega arith) marked))

    uniq_dropped : Once (copies_dropped m a i o)
    unfolding copies_dropped Apart
    uniq_dropped =
        uniq_append (dropped_ins m a i) (dropped_outs m a o)
        (uniq_copies (a.incoming - min a.incoming i) m _ (λ s t u v. let u0 = u.0 in let u1 = u.1 in let v0 = v.0 in let v1 = v.1 in apart_at s t ((omega arith), (omega arith)) ((omega arith), (omega arith))))
        (uniq_copies (a.outgoing - min a.outgoing o) m _ (λ s t u v. let u0 = u.0 in let u1 = u.1 in let v0 = v.0 in let v1 = v.1 in apart_at s t ((omega arith), (omega arith)) ((omega arith), (omega arith))))
        (λ c p q.
        let s = in_copies _ m _ c p in
        let t = in_copies _ m _ c q in
        let s0 = s.low in
        let s1 = s.high in
        let t0 = t.low in
        let t1 = t.high in
        let e = apart_at s.slot t.slot ((omega arith), (omega arith)) ((omega arith), (omega arith)) s.split t.split (s.is ∙ sym t.is) in
        omega arith)

-- The invariant where the hidden nodes listed hang on nothing any more: their copy port is still marked.
pub record Loose (m : MultiPortGraph) (M : Model) (cs : List ℕ) : Type 0 where
  pub good : Good M
  pub holds : Holds m.graph M
  pub marks_long : length m.multiport ≡ port_slots
  pub flags_long : length m.copy_node ≡ node_slots
  pub shape : (c : ℕ) → is_hidden m c ≡ true → Shape m M c
  pub hung : (c : ℕ) → is_hidden m c ≡ true → (Member c cs → ⊥) → (x : model.InnerPlace) × (M.join (copy_place m c) ≡ to x) × (is_hidden m x.node ≡ false)
  pub loose : (c : ℕ) → Member c cs → (is_hidden m c ≡ true) × (M.join (copy_place m c) ≡ nowhere)
  pub once : Once cs
  pub copy_marked : (c : ℕ) → is_hidden m c ≡ true → is_split m (slot_of M.node (copy_place m c)) ≡ true
  pub main_marked : (c : ℕ) (x : model.InnerPlace) → is_hidden m c ≡ true → M.join (copy_place m c) ≡ to x → is_split m (slot_of M.node x) ≡ true
  pub only_marked : (s : ℕ) → is_split m s ≡ true → Marked m M s
  pub copies : m.copy_node_count ≡ total node_slots (λ n. flag (is_hidden m n))
  pub subs : m.subport_count ≡ total node_slots (subports_of_slot m M)

-- with none left it is the invariant
pub loose_fine : {m : MultiPortGraph} {M : Model} → Loose m M [] → Fine m M
loose_fine {m} {M} l =
    record {
      good = l.good;
      holds = l.holds;
      marks_long = l.marks_long;
      flags_long = l.flags_long;
      copy = λ c h.
          let t = l.shape c h in
          let x = l.hung c h (λ e. e) in
          record { meta = t.meta; here = t.here; single = t.single; several = t.several; main = x.0; joined = x.1; main_seen = x.2 };
      copy_marked = l.copy_marked;
      main_marked = l.main_marked;
      only_marked = l.only_marked;
      copies = l.copies;
      subs = l.subs;
    }

-- a hidden node's copy port is there
copy_is_there : {m : MultiPortGraph} {M : Model} {cs : List ℕ} → Loose m M cs → (k : ℕ) → is_hidden m k ≡ true → Valid M.node (copy_place m k)
copy_is_there {m} {M} l k h =
    let t = l.shape k h in
    let e : count_of (M.node k) (copy_side m k) ≡ 1 = ap (λ (s : Slots). count_of s (copy_side m k)) t.here ∙ t.single in
    omega arith

-- A loose hidden node goes.
module _ {m : MultiPortGraph} {M : Model} (c : ℕ) (cs : List ℕ) (l : Loose m M (c ∷ cs)) where
  abbrev is_hidden_lem : is_hidden m c ≡ true
  is_hidden_lem = (l.loose c (inl refl)).0

  free_there : M.join (copy_place m c) ≡ nowhere
  free_there = (l.loose c (inl refl)).1

  abbrev meta_there : NodeMeta
  meta_there = (l.shape c is_hidden_lem).meta

  here_there : M.node c ≡ live meta_there
  here_there = (l.shape c is_hidden_lem).here

  copy_there : Valid M.node (copy_place m c)
  copy_there = copy_is_there l c is_hidden_lem

  abbrev own : ℕ
  own = port_of m.graph c (copy_side m c) 0

  port_there : own ≡ slot_of M.node (copy_place m c)
  unfolding port_of
  port_there = ap port_number (port_index_is l.good l.holds (copy_place m c) copy_there)

  abbrev without_lone : MultiPortGraph
  without_lone = remove_copy m own c

  abbrev lone : Model
  lone = remove_model M c meta_there

  lone_good : Good lone
  lone_good = good_remove l.good c meta_there here_there

  lone_holds : Holds without_lone.graph lone
  lone_holds = holds_left m l.good l.holds own c meta_there here_there

  lone_slot : (x : model.InnerPlace) → (x.node ≡ c → ⊥) → slot_of lone.node x ≡ slot_of M.node x
  lone_slot x h = ap (λ (s : Slots). slot_on_side s x.side x.pos) (node_other M c meta_there x.node h)

  -- the hidden nodes that are left
  still : (k : ℕ) → is_hidden without_lone k ≡ true → (k ≡ c → ⊥) × (is_hidden m k ≡ true)
  still k h = (hidden_not_copy m own c k h, still_hidden m own c k h)

  lone_side : (k : ℕ) → (k ≡ c → ⊥) → is_hidden m k ≡ true → copy_side without_lone k ≡ copy_side m k
  lone_side k ne h =
      let t = l.shape k h in
      copy_side_is without_lone k t.meta (copy_side m k) (meta_of_node lone_good lone_holds k t.meta (node_other M c meta_there k ne ∙ t.here)) t.single t.several

  -- a place of another node is not at the copy port's slot
  not_there : (x : model.InnerPlace) → Valid M.node x → (x.node ≡ c → ⊥) → slot_of M.node x ≡ slot_of M.node (copy_place m c) → ⊥
  not_there x v ne e = ne (ap (λ (y : model.InnerPlace). y.node) (slots_apart l.good x (copy_place m c) v copy_there e))

  lone_mark_at : (x : model.InnerPlace) → Valid M.node x → (x.node ≡ c → ⊥) → is_split without_lone (slot_of lone.node x) ≡ is_split m (slot_of M.node x)
  lone_mark_at x v ne =
      let away : slot_of M.node x ≡ own → ⊥ = λ q. not_there x v ne (q ∙ port_there) in
      ap (is_split without_lone) (lone_slot x ne) ∙ split_other m own c (slot_of M.node x) away away

  lone_only : (s : ℕ) → is_split without_lone s ≡ true → Marked without_lone lone s
  lone_only s e = by (l.only_marked s (still_split m own c s e))
    where
      apart : s ≡ slot_of M.node (copy_place m c) → ⊥
      apart q = true_not_false e (ap (is_split without_lone) (q ∙ sym port_there) ∙ split_copy m own c)

      by : Marked m M s → Marked without_lone lone s
      by (copy_port k h q) =
          let ne : (k ≡ c → ⊥) = λ t. apart (sym q ∙ ap (λ (j : ℕ). slot_of M.node (copy_place m j)) t) in
          copy_port k (hidden_other m own c k ne ∙ h) (ap (slot_of lone.node) (same_copy (lone_side k ne h)) ∙ lone_slot (copy_place m k) ne ∙ q)
      by (main_port_lem k x h j q) =
          let ne : (k ≡ c → ⊥) = λ t. nowhere_not_to free_there (sym (ap (λ (j : ℕ). M.join (copy_place m j)) t) ∙ j) in
          let t = l.hung k h (λ u. nowhere_not_to (l.loose k u).1 j) in
          let d = t.1 in
          let same : t.0 ≡ x = cc in
          let xe : (x.node ≡ c → ⊥) = λ u. true_not_false (ap (is_hidden m) u ∙ is_hidden_lem) (sym (ap (λ (y : model.InnerPlace). is_hidden m y.node) same) ∙ t.2) in
          main_port_lem k x (hidden_other m own c k ne ∙ h) (ap lone.join (same_copy (lone_side k ne h)) ∙ join_other M c meta_there (copy_place m k) x j ne xe) (lone_slot x xe ∙ q)

  -- the others listed are loose still, and all else is as it was
  pub lone_goes : Loose without_lone lone cs
  lone_goes =
      record {
        good = lone_good;
        holds = lone_holds;
        marks_long = marks_left m own c ∙ l.marks_long;
        flags_long = flags_left m own c ∙ l.flags_long;
        shape = λ k h.
            let w = still k h in
            let t = l.shape k w.1 in
            record {
              meta = t.meta;
              here = node_other M c meta_there k w.0 ∙ t.here;
              single = rw (lone_side k w.0 w.1) t.single;
              several = rw (lone_side k w.0 w.1) t.several;
            };
        hung = λ k h out.
            let w = still k h in
            let t = l.hung k w.1 (⊎_elim w.0 out) in
            let xe : (t.0.node ≡ c → ⊥) = λ u. true_not_false (ap (is_hidden m) u ∙ is_hidden_lem) t.2 in
            (t.0, ap lone.join (same_copy (lone_side k w.0 w.1)) ∙ join_other M c meta_there (copy_place m k) t.0 t.1 w.0 xe, hidden_other m own c t.0.node xe ∙ t.2);
        loose = λ k h.
            let t = l.loose k (inr h) in
            let ne : (k ≡ c → ⊥) = λ q. l.once.0 (subst (λ (j : ℕ). Member j cs) q h) in
            (hidden_other m own c k ne ∙ t.0, ap lone.join (same_copy (lone_side k ne t.0)) ∙ drop_nowhere (at_node c) M.join (copy_place m k) t.1);
        once = l.once.1;
        copy_marked = λ k h.
            let w = still k h in
            ap (λ (y : model.InnerPlace). is_split without_lone (slot_of lone.node y)) (same_copy (lone_side k w.0 w.1))
            ∙ lone_mark_at (copy_place m k) (copy_is_there l k w.1) w.0 ∙ l.copy_marked k w.1;
        main_marked = λ k x h j.
            let w = still k h in
            let t = join_was M c meta_there (copy_place m k) x (sym (ap lone.join (same_copy (lone_side k w.0 w.1))) ∙ j) in
            lone_mark_at x (joined_is_valid l.good (copy_place m k) x t.0) t.2 ∙ l.main_marked k x w.1 t.0;
        only_marked = lone_only;
        copies = copies_left m l.good l.holds own c meta_there here_there is_hidden_lem l.copies;
        subs = subs_left m l.good l.holds own c meta_there here_there is_hidden_lem (l.shape c is_hidden_lem).single l.subs;
      }

-- What is left of a graph (m, M) while the hidden nodes of `all` go, of which `cs` are still there.

-- a place that stays: not at a dropped position of n, and not of a hidden node that goes
abbrev pub Stays : ℕ → ℕ → ℕ → List ℕ → model.InnerPlace → Type 0
Stays n i o all x = (x.node ≡ n → x.pos < new_count i o x.side) × (Member x.node all → ⊥)

pub record Tracks (m : MultiPortGraph) (M : Model) (m' : MultiPortGraph) (M' : Model) (n i o : ℕ) (b : NodeMeta) (all cs : List ℕ) : Type 0 where
  pub ins : b.incoming ≡ i
  pub outs : b.outgoing ≡ o
  pub here : M'.node n ≡ live b
  pub apart : Member n all → ⊥
  pub nodes : (k : ℕ) → (k ≡ n → ⊥) → (Member k all → ⊥) → M'.node k ≡ M.node k
  pub hid : (k : ℕ) → (Member k all → ⊥) → is_hidden m' k ≡ is_hidden m k
  pub went : (k : ℕ) → Member k all → Member k cs ⊎ (M'.node k ≡ gone)
  pub among : (k : ℕ) → Member k cs → Member k all
  pub was : (x y : model.InnerPlace) → M'.join x ≡ to y → M.join x ≡ to y
  pub left : (x y : model.InnerPlace) → M.join x ≡ to y → Stays n i o all x → Stays n i o all y → M'.join x ≡ to y
  pub marks : (x : model.InnerPlace) → Valid M.node x → Stays n i o all x → is_split m' (slot_of M'.node x) ≡ is_split m (slot_of M.node x)

module _ {m : MultiPortGraph} {M : Model} {m' : MultiPortGraph} {M' : Model} {n i o : ℕ} {b : NodeMeta} {all : List ℕ} where
  -- what stays has its port
  stays_valid : {cs : List ℕ} → Tracks m M m' M' n i o b all cs → (x : model.InnerPlace) → Stays n i o all x → Valid M.node x → Valid M'.node x
  stays_valid t x s v = ⊎_elim
      (λ e.
      let p : count_of (M'.node x.node) x.side ≡ ports_on b x.side = ap (λ (k : Slots). count_of k x.side) (ap M'.node e ∙ t.here) in
      let q = count_new b i o x.side t.ins t.outs in
      let h = s.0 e in
      omega arith)
      (λ e. let p : count_of (M'.node x.node) x.side ≡ count_of (M.node x.node) x.side = ap (λ (k : Slots). count_of k x.side) (t.nodes x.node e s.1) in omega arith)
      (cases_eq x.node n)

  -- in the end what has a port stays
  valid_stays : Tracks m M m' M' n i o b all [] → (x : model.InnerPlace) → Valid M'.node x → Stays n i o all x
  valid_stays t x v = (
    (λ e.
        let p : count_of (M'.node x.node) x.side ≡ ports_on b x.side = ap (λ (k : Slots). count_of k x.side) (ap M'.node e ∙ t.here) in
        let q = count_new b i o x.side t.ins t.outs in
        omega arith),
    (λ h. ⊎_elim (λ e. e) (λ e. let p : count_of (M'.node x.node) x.side ≡ 0 = ap (λ (k : Slots). count_of k x.side) e in omega arith) (t.went x.node h)),
  )

  module _ (c : ℕ) (cs : List ℕ) (l : Loose m' M' (c ∷ cs)) (t : Tracks m M m' M' n i o b all (c ∷ cs)) where
    not_gone : (k : ℕ) → (Member k all → ⊥) → k ≡ c → ⊥
    not_gone k h e = h (subst (λ (j : ℕ). Member j all) (sym e) (t.among c (inl refl)))

    tracks_lone : Tracks m M (without_lone c cs l) (lone c cs l) n i o b all cs
    tracks_lone =
        record {
          ins = t.ins;
          outs = t.outs;
          here = node_other M' c (meta_there c cs l) n (not_gone n t.apart) ∙ t.here;
          apart = t.apart;
          nodes = λ k e h. node_other M' c (meta_there c cs l) k (not_gone k h) ∙ t.nodes k e h;
          hid = λ k h. hidden_other m' (own c cs l) c k (not_gone k h) ∙ t.hid k h;
          went = λ k h. ⊎_elim
              (⊎_elim (λ e. inr (ap (lone c cs l).node e ∙ upd_same M'.node c gone)) (λ e. inl e))
              (λ e. inr (⊎_elim (λ q. ap (lone c cs l).node q ∙ upd_same M'.node c gone) (λ q. node_other M' c (meta_there c cs l) k q ∙ e) (cases_eq k c)))
              (t.went k h);
          among = λ k h. t.among k (inr h);
          was = λ x y j. t.was x y (join_was M' c (meta_there c cs l) x y j).0;
          left = λ x y j p q. join_other M' c (meta_there c cs l) x y (t.left x y j p q) (not_gone x.node p.1) (not_gone y.node q.1);
          marks = λ x v p. lone_mark_at c cs l x (stays_valid t x p v) (not_gone x.node p.1) ∙ t.marks x v p;
        }

-- a graph in the end
pub record Cleared (m : MultiPortGraph) (M : Model) (m' : MultiPortGraph) (n i o : ℕ) (b : NodeMeta) (all : List ℕ) : Type 0 where
  pub model' : Model
  pub fine : Fine m' model'
  pub tracks : Tracks m M m' model' n i o b all []

-- all hidden nodes listed go
pub all_go : {m : MultiPortGraph} {M : Model} {n i o : ℕ} {b : NodeMeta} {all : List ℕ} (cs : List ℕ) {m' : MultiPortGraph} {M' : Model}
    → Loose m' M' cs → Tracks m M m' M' n i o b all cs → Cleared m M (remove_all m' cs) n i o b all
unfolding remove_all remove_lone
all_go [] {m'} {M'} l t = record { model' = M'; fine = loose_fine l; tracks = t }
all_go (c ∷ cs) l t = all_go cs (lone_goes c cs l) (tracks_lone c cs l t)

-- The lower resize of block n, with the marks moved: exactly the hidden nodes of dropped ports are loose.

dropped_or_not : (i o : ℕ) (y : model.InnerPlace) → (new_count i o y.side ≤ y.pos) ⊎ (y.pos < new_count i o y.side)
dropped_or_not i o y = go (leb (new_count i o y.side) y.pos) refl
  where
    go : (b : Bool) → leb (new_count i o y.side) y.pos ≡ b → (new_count i o y.side ≤ y.pos) ⊎ (y.pos < new_count i o y.side)
    go true e = inl (leb-true _ _ e)
    go false e = inr (leb-false _ _ e)

module _ {m : MultiPortGraph} {M : Model} (f : Fine m M) (n : ℕ) (a : NodeMeta) (shown : is_hidden m n ≡ false) (here : M.node n ≡ live a) (i o : ℕ) where
  -- a block does not go
  out_of : (k : ℕ) → is_hidden m k ≡ false → Member k (copies_dropped m a i o) → ⊥
  out_of k e h = true_not_false (dropped_has f n a shown here i o k h).is_copy e

  not_n : (k : ℕ) → is_hidden m k ≡ true → k ≡ n → ⊥
  not_n k h e = true_not_false h (ap (is_hidden m) e ∙ shown)

  -- the main port of a hidden node that does not go stays, and so does its copy port
  main_stays : (k : ℕ) (y : model.InnerPlace) → is_hidden m k ≡ true → (Member k (copies_dropped m a i o) → ⊥) → M.join (copy_place m k) ≡ to y → Stays n i o (copies_dropped m a i o) y
  main_stays k y h out j = (
    (λ e. ⊎_elim (λ d. absurd (out (has_dropped f n a shown here i o k (record { main = y; is_copy = h; joined = j; node = e; dropped = d })))) (λ l. l) (dropped_or_not i o y)),
    out_of y.node (main_seen f k y h j).1,
  )

  copy_stays : (k : ℕ) → is_hidden m k ≡ true → (Member k (copies_dropped m a i o) → ⊥) → Stays n i o (copies_dropped m a i o) (copy_place m k)
  copy_stays k h out = ((λ e. absurd (not_n k h e)), out)

  module _ {g' : PortGraph} {M' : Model} {b : NodeMeta} (r : Recount g' M M' n a b i o) where
    re_hidden : (k : ℕ) → is_hidden (recounted m n g') k ≡ is_hidden m k
    unfolding is_hidden recounted
    re_hidden k = refl

    re_holds : Holds (recounted m n g').graph M'
    unfolding recounted
    re_holds = r.holds

    re_side : (k : ℕ) → is_hidden m k ≡ true → copy_side (recounted m n g') k ≡ copy_side m k
    re_side k h =
        let c = f.copy k h in
        copy_side_is (recounted m n g') k c.meta (copy_side m k) (meta_of_node r.good re_holds k c.meta (r.others k (not_n k h) ∙ c.here)) c.single c.several

    re_join : (x y : model.InnerPlace) → M.join x ≡ to y → (x.node ≡ n → x.pos < new_count i o x.side) → (y.node ≡ n → y.pos < new_count i o y.side) → M'.join x ≡ to y
    re_join x y j p q = r.join x ∙ kept_link M.join n i o x y j p q

    re_joined : (x y : model.InnerPlace) → M'.join x ≡ to y → M.join x ≡ to y
    re_joined x y j = (drop_joined (beyond n i o) M.join x y (sym (r.join x) ∙ j)).0

    re_valid : (x : model.InnerPlace) → Valid M.node x → (x.node ≡ n → x.pos < new_count i o x.side) → Valid M'.node x
    re_valid x v s = ⊎_elim
        (λ e. let p = count_at M' r.there x e in let q = count_new b i o x.side r.ins r.outs in let h = s e in omega arith)
        (λ e. let p = other_count f r x.node x.side e in omega arith)
        (cases_eq x.node n)

    valid_below : (x : model.InnerPlace) → Valid M'.node x → x.node ≡ n → x.pos < new_count i o x.side
    valid_below x v e = let p = count_at M' r.there x e in let q = count_new b i o x.side r.ins r.outs in omega arith

    re_flags_long : length (recounted m n g').copy_node ≡ node_slots
    unfolding recounted
    re_flags_long = f.flags_long

    re_copies : (recounted m n g').copy_node_count ≡ total node_slots (λ k. flag (is_hidden (recounted m n g') k))
    unfolding is_hidden recounted
    re_copies = f.copies

    re_subs_at : (k : ℕ) (t : Bool) → is_hidden m k ≡ t → cond t (ports_of (M.node k) - 1) 0 ≡ cond t (ports_of (M'.node k) - 1) 0
    re_subs_at k true h = ap (λ (s : Slots). ports_of s - 1) (sym (r.others k (not_n k h)))
    re_subs_at k false h = refl

    re_subs : (recounted m n g').subport_count ≡ total node_slots (subports_of_slot (recounted m n g') M')
    unfolding is_hidden recounted
    re_subs = f.subs ∙ total_same node_slots (subports_of_slot m M) (subports_of_slot (recounted m n g') M') (λ k l. re_subs_at k (is_hidden m k) refl)

    re_only : (s : ℕ) → is_split (recounted m n g') s ≡ true → Marked (recounted m n g') M' s
    re_only s e = go (marked_was f r s e)
      where
        go : WasMarked m M M' s → Marked (recounted m n g') M' s
        go w = by (f.only_marked _ w.marked)
          where
            by : Marked m M (slot_of M.node w.place) → Marked (recounted m n g') M' s
            by (copy_port c q t) =
                let z : copy_place m c ≡ w.place = slots_apart f.good (copy_place m c) w.place (copy_valid f c q) w.was t in
                copy_port c (re_hidden c ∙ q) (ap (slot_of M'.node) (same_copy (re_side c q) ∙ z) ∙ w.slot)
            by (main_port_lem c y q j t) =
                let z : y ≡ w.place = slots_apart f.good y w.place (joined_is_valid f.good (copy_place m c) y j) w.was t in
                let v : Valid M'.node y = subst (λ (u : model.InnerPlace). Valid M'.node u) (sym z) w.is in
                main_port_lem c y (re_hidden c ∙ q) (ap M'.join (same_copy (re_side c q)) ∙ re_join (copy_place m c) y j (λ u. absurd (not_n c q u)) (valid_below y v))
                (ap (slot_of M'.node) z ∙ w.slot)

    pub resize_loosens : Loose (recounted m n g') M' (copies_dropped m a i o)
    resize_loosens =
        record {
          good = r.good;
          holds = re_holds;
          marks_long = marks_long_lem f r;
          flags_long = re_flags_long;
          shape = λ k h.
              let e = sym (re_hidden k) ∙ h in
              let c = f.copy k e in
              record {
                meta = c.meta;
                here = r.others k (not_n k e) ∙ c.here;
                single = rw (re_side k e) c.single;
                several = rw (re_side k e) c.several;
              };
          hung = λ k h out.
              let e = sym (re_hidden k) ∙ h in
              let c = f.copy k e in
              (c.main, ap M'.join (same_copy (re_side k e)) ∙ re_join (copy_place m k) c.main c.joined (λ u. absurd (not_n k e u)) (main_stays k c.main e out c.joined).0, re_hidden c.main.node ∙ c.main_seen);
          loose = λ k h.
              let d = dropped_has f n a shown here i o k h in
              (re_hidden k ∙ d.is_copy, ap M'.join (same_copy (re_side k d.is_copy)) ∙ r.join _ ∙ drop_there (beyond n i o) M.join (copy_place m k) d.main d.joined (is_beyond n i o d.main d.node d.dropped));
          once = uniq_dropped f n a shown here i o;
          copy_marked = λ k h.
              let e = sym (re_hidden k) ∙ h in
              ap (λ (y : model.InnerPlace). is_split (recounted m n g') (slot_of M'.node y)) (same_copy (re_side k e))
              ∙ recount_marks f r (copy_place m k) (copy_valid f k e) (re_valid (copy_place m k) (copy_valid f k e) (λ u. absurd (not_n k e u))) ∙ f.copy_marked k e;
          main_marked = λ k x h j.
              let e = sym (re_hidden k) ∙ h in
              let d = sym (ap M'.join (same_copy (re_side k e))) ∙ j in
              let u = re_joined (copy_place m k) x d in
              recount_marks f r x (joined_is_valid f.good (copy_place m k) x u) (joined_is_valid r.good (copy_place m k) x d) ∙ f.main_marked k x e u;
          only_marked = re_only;
          copies = re_copies;
          subs = re_subs;
        }

    pub resize_tracks : Tracks m M (recounted m n g') M' n i o b (copies_dropped m a i o) (copies_dropped m a i o)
    resize_tracks =
        record {
          ins = r.ins;
          outs = r.outs;
          here = r.there;
          apart = out_of n shown;
          nodes = λ k e h. r.others k e;
          hid = λ k h. re_hidden k;
          went = λ k h. inl h;
          among = λ k h. h;
          was = re_joined;
          left = λ x y j p q. re_join x y j p.0 q.0;
          marks = λ x v s. recount_marks f r x v (re_valid x v s.0);
        }

-- a port of a block is split exactly if it was, with as many subports
abbrev pub SameSplit : MultiPortGraph → Model → MultiPortGraph → Model → model.InnerPlace → Type 0
SameSplit m M m' M' x =
    (is_split m' (slot_of M'.node x) ≡ is_split m (slot_of M.node x))
    × (is_split m (slot_of M.node x) ≡ true → subports m' (slot_of M'.node x) x.side ≡ subports m (slot_of M.node x) x.side)

-- Wires in the end.

module _ {m : MultiPortGraph} {M : Model} (f : Fine m M) (n : ℕ) (a : NodeMeta) (shown : is_hidden m n ≡ false) (here : M.node n ≡ live a) (i o : ℕ)
    {m' : MultiPortGraph} {b : NodeMeta} (z : Cleared m M m' n i o b (copies_dropped m a i o)) where
  -- an end stays exactly if it is not at a dropped position
  end_not_dropped : (x : model.InnerPlace) → Stays n i o (copies_dropped m a i o) x → of_dropped n i o (outer m M x) ≡ false
  end_not_dropped x s = go (is_hidden m x.node) refl
    where
      go : (t : Bool) → is_hidden m x.node ≡ t → of_dropped n i o (outer m M x) ≡ false
      go true h =
          let c = f.copy x.node h in
          ap (of_dropped n i o) (outer_of_subport f x c.main h c.joined)
          ∙ kept_stays n i o c.main (main_stays f n a shown here i o x.node c.main h s.1 c.joined).0
      go false h = ap (of_dropped n i o) (outer_of_block f x h) ∙ kept_stays n i o x s.0

  not_dropped_stays : (x : model.InnerPlace) → of_dropped n i o (outer m M x) ≡ false → Stays n i o (copies_dropped m a i o) x
  not_dropped_stays x e = go (is_hidden m x.node) refl
    where
      go : (t : Bool) → is_hidden m x.node ≡ t → Stays n i o (copies_dropped m a i o) x
      go true h = (
        (λ q. absurd (not_n f n a shown here i o x.node h q)),
        (λ k.
            let d = dropped_has f n a shown here i o x.node k in
            true_not_false (is_beyond n i o d.main d.node d.dropped) (sym (ap (of_dropped n i o) (outer_of_subport f x d.main h d.joined)) ∙ e)),
      )
      go false h = (stays_below n i o x (sym (ap (of_dropped n i o) (outer_of_block f x h)) ∙ e), out_of f n a shown here i o x.node h)

  left_side : (k : ℕ) → is_hidden m k ≡ true → (Member k (copies_dropped m a i o) → ⊥) → copy_side m' k ≡ copy_side m k
  left_side k h out =
      let c = f.copy k h in
      copy_side_is m' k c.meta (copy_side m k)
      (meta_of_node z.fine.good z.fine.holds k c.meta (z.tracks.nodes k (not_n f n a shown here i o k h) out ∙ c.here)) c.single c.several

  end_left : (x : model.InnerPlace) → IsEnd m M x → Stays n i o (copies_dropped m a i o) x → IsEnd m' z.model' x
  end_left x e s =
      let same = z.tracks.hid x.node s.1 in
      record {
        valid = stays_valid z.tracks x s e.valid;
        unsplit = λ h. z.tracks.marks x e.valid s ∙ e.unsplit (sym same ∙ h);
        subport = λ h q. e.subport (sym same ∙ h) (q ∙ left_side x.node (sym same ∙ h) s.1);
      }

  end_before : (x : model.InnerPlace) → Valid M.node x → IsEnd m' z.model' x → Stays n i o (copies_dropped m a i o) x → IsEnd m M x
  end_before x v e s =
      let same = z.tracks.hid x.node s.1 in
      record {
        valid = v;
        unsplit = λ h. sym (z.tracks.marks x v s) ∙ e.unsplit (same ∙ h);
        subport = λ h q. e.subport (same ∙ h) (q ∙ sym (left_side x.node h s.1));
      }

  outer_left : (x : model.InnerPlace) → Stays n i o (copies_dropped m a i o) x → outer m' z.model' x ≡ outer m M x
  unfolding outer
  outer_left x s = go (is_hidden m x.node) refl
    where
      go : (t : Bool) → is_hidden m x.node ≡ t → outer m' z.model' x ≡ outer m M x
      go true h =
          let same = z.tracks.hid x.node s.1 ∙ h in
          let c = f.copy x.node h in
          let j = c.joined in
          let p : z.model'.join (copy_place m' x.node) ≡ to c.main =
          ap (λ (d : Direction). z.model'.join (inner# x.node d 0)) (left_side x.node h s.1)
          ∙ z.tracks.left (copy_place m x.node) c.main j (copy_stays f n a shown here i o x.node h s.1) (main_stays f n a shown here i o x.node c.main h s.1 j) in
          rw (same, h, p, j)
      go false h = let same = z.tracks.hid x.node s.1 ∙ h in rw (same, h)

  wires_left : Wiring m M m' z.model' (of_dropped n i o) []
  wires_left =
      record {
        kept = λ w e t.
            let d = or_parts (of_dropped n i o (outer m M e.x)) (of_dropped n i o (outer m M e.y)) (sym (ap (touches (of_dropped n i o)) e.is) ∙ t) in
            let s = not_dropped_stays e.x d.0 in
            let u = not_dropped_stays e.y d.1 in
            wire_again e (z.tracks.left e.x e.y e.joined s u) (end_left e.x e.end s) (outer_left e.x s) (outer_left e.y u);
        came = λ w e. absurd e;
        only = λ w e.
            let j = z.tracks.was e.x e.y e.joined in
            let s = valid_stays z.tracks e.x e.end.valid in
            let u = valid_stays z.tracks e.y (joined_is_valid z.fine.good e.x e.y e.joined) in
            let k = e.is ∙ same_wire (outer_left e.x s) (outer_left e.y u) in
            inl (
              wire_again e j (end_before e.x (f.good.join_valid e.x e.y j) e.end s) (sym (outer_left e.x s)) (sym (outer_left e.y u)),
              ap (touches (of_dropped n i o)) k ∙ ap (λ (p : Bool). (p || (of_dropped n i o (outer m M e.y)))) (end_not_dropped e.x s) ∙ end_not_dropped e.y u,
            );
      }

  -- a port that stays is split exactly if it was, with as many subports
  splits_left : (x : model.InnerPlace) → Seen m M x → (x.node ≡ n → x.pos < new_count i o x.side) → SameSplit m M m' z.model' x
  splits_left x s b = (same, λ t. as_many t (split_has_copy f x s t))
    where
      stays : Stays n i o (copies_dropped m a i o) x
      stays = (b, out_of f n a shown here i o x.node s.1)

      same : is_split m' (slot_of z.model'.node x) ≡ is_split m (slot_of M.node x)
      same = z.tracks.marks x s.0 stays

      as_many : is_split m (slot_of M.node x) ≡ true → Hangs m M x → subports m' (slot_of z.model'.node x) x.side ≡ subports m (slot_of M.node x) x.side
      as_many t h =
          let out : (Member h.copy (copies_dropped m a i o) → ⊥) = λ k.
          let d = dropped_has f n a shown here i o h.copy k in
          let u = d.joined in
          let v = h.from in
          let q : d.main ≡ x = cc in
          let l = b (ap (λ (y : model.InnerPlace). y.node) (sym q) ∙ d.node) in
          let e = subst (λ (y : model.InnerPlace). new_count i o y.side ≤ y.pos) q d.dropped in
          omega arith in
          let s' : Seen m' z.model' x = (stays_valid z.tracks x stays s.0, z.tracks.hid x.node stays.1 ∙ s.1) in
          let h' = split_has_copy z.fine x s' (same ∙ t) in
          let j = z.tracks.left x (copy_place m h.copy) h.back stays (copy_stays f n a shown here i o h.copy h.is_copy out) in
          let k = h'.back in
          let q : copy_place m' h'.copy ≡ copy_place m h.copy = cc in
          h'.count
          ∙ (ap (λ (y : model.InnerPlace). count_of (z.model'.node y.node) x.side) q
          ∙ (ap (λ (v : Slots). count_of v x.side) (z.tracks.nodes h.copy (not_n f n a shown here i o h.copy h.is_copy) out) ∙ sym h.count))

  -- other blocks are the same
  others_left : (k : ℕ) (l : NodeMeta) → (k ≡ n → ⊥) → BlockIs m M k l → BlockIs m' z.model' k l
  others_left k l ne e = let out = out_of f n a shown here i o k e.0 in (z.tracks.hid k out ∙ e.0, z.tracks.nodes k ne out ∙ e.1)

  others_before : (k : ℕ) (l : NodeMeta) → (k ≡ n → ⊥) → BlockIs m' z.model' k l → BlockIs m M k l
  others_before k l ne e =
      let out : (Member k (copies_dropped m a i o) → ⊥) = λ h. ⊎_elim (λ q. q) (λ q. gone_not_live q e.1) (z.tracks.went k h) in
      (sym (z.tracks.hid k out) ∙ e.0, sym (z.tracks.nodes k ne out) ∙ e.1)

-- The call.

-- what an accepted resize did: block n has the counts named, other blocks are the same, exactly the wires at dropped positions went,
-- and every port that stays is as split as it was
pub record SetDone (m : MultiPortGraph) (M : Model) (m' : MultiPortGraph) (n i o : ℕ) : Type 0 where
  pub model' : Model
  pub old : NodeMeta
  pub new : NodeMeta
  pub fine : Fine m' model'
  pub was : BlockIs m M n old
  pub is : BlockIs m' model' n new
  pub ins : new.incoming ≡ i
  pub outs : new.outgoing ≡ o
  pub others : (k : ℕ) (l : NodeMeta) → (k ≡ n → ⊥) → BlockIs m M k l → BlockIs m' model' k l
  pub others_back : (k : ℕ) (l : NodeMeta) → (k ≡ n → ⊥) → BlockIs m' model' k l → BlockIs m M k l
  pub wires : Wiring m M m' model' (of_dropped n i o) []
  -- a port that is not dropped is split exactly if it was, with as many subports
  pub splits : (x : model.InnerPlace) → Seen m M x → (x.node ≡ n → x.pos < new_count i o x.side) → SameSplit m M m' model' x

-- answer and graph of a resize on m
abbrev SetSays : MultiPortGraph → Model → ℕ → ℕ → ℕ → PortsSet → Type 0
SetSays m M n i o s = ((e : ℕ) → s.answer ≡ Ok e → SetDone m M s.graph n i o) × ((x : Refusal) → s.answer ≡ Err x → s.graph ≡ m)

module _ {m : MultiPortGraph} {M : Model} (f : Fine m M) (n i o room : ℕ) where
  set_says : SetSays m M n i o (set_counts m n i o room)
  set_says = subst (SetSays m M n i o) (sym (set_cases present m n i o room)) (few (leb (i + o) node_ports))
    where
      refused : (x : Refusal) → SetSays m M n i o (record { graph = m; answer = Err x })
      refused x = ((λ e q. absurd (zero_is_not_one (cc))), (λ y q. refl))

      done : (k : NodeMeta) → is_hidden m n ≡ false → M.node n ≡ live k → (g' : PortGraph) → SomeRecount g' M n i o
          → SetDone m M (remove_all (recounted m n g') (copies_dropped m k i o)) n i o
      done k shown here g' s =
          let r = recount_of s k here in
          let z = all_go (copies_dropped m k i o) (resize_loosens f n k shown here i o r) (resize_tracks f n k shown here i o r) in
          record {
            model' = z.model';
            old = k;
            new = s.new;
            fine = z.fine;
            was = (shown, here);
            is = (z.tracks.hid n z.tracks.apart ∙ shown, z.tracks.here);
            ins = z.tracks.ins;
            outs = z.tracks.outs;
            others = others_left f n k shown here i o z;
            others_back = others_before f n k shown here i o z;
            wires = wires_left f n k shown here i o z;
            splits = splits_left f n k shown here i o z;
          }

      lower : (k : NodeMeta) → is_hidden m n ≡ false → M.node n ≡ live k → (t : Result ℕ SetError) → (set_num_ports m.graph n i o room).answer ≡ t
          → SetSays m M n i o (record { graph = resized m n k i o (set_num_ports m.graph n i o room).graph t; answer = set_as t })
      lower k shown here (Ok e) q =
          ((λ x p. done k shown here (set_num_ports m.graph n i o room).graph (set_recounts f.good f.holds n i o room e q)), (λ x p. absurd (zero_is_not_one (cc))))
      lower k shown here (Err set_error.TooManyPorts) q = ((λ e q. absurd (zero_is_not_one (cc))), (λ y q. refl))
      lower k shown here (Err set_error.UnknownNode) q = ((λ e q. absurd (zero_is_not_one (cc))), (λ y q. refl))
      lower k shown here (Err set_error.MovesTooShort) q = ((λ e q. absurd (zero_is_not_one (cc))), (λ y q. refl))
      lower k shown here (Err set_error.NoRoom) q = ((λ e q. absurd (zero_is_not_one (cc))), (λ y q. refl))

      block : (k : NodeMeta) → M.node n ≡ live k → (t : Bool) → is_hidden m n ≡ t
          → SetSays m M n i o (cond t (record { graph = m; answer = Err HiddenNode })
          (record {
            graph = resized m n k i o (set_num_ports m.graph n i o room).graph (set_num_ports m.graph n i o room).answer;
            answer = set_as (set_num_ports m.graph n i o room).answer;
          }))
      block k here true q = refused HiddenNode
      block k here false q = lower k q here (set_num_ports m.graph n i o room).answer refl

      node : (t : Option NodeMeta) → meta_at m.graph n ≡ t → SetSays m M n i o (set_meta m n i o room t)
      node None q = refused UnknownNode
      node (Some k) q = block k (node_of_meta f.good f.holds n k q) (is_hidden m n) refl

      few : (t : Bool) → SetSays m M n i o (cond t (set_meta m n i o room (meta_at m.graph n)) (record { graph = m; answer = Err TooManyPorts }))
      few true = node (meta_at m.graph n) refl
      few false = refused TooManyPorts

  -- an accepted resize
  pub set_counts_law : (e : ℕ) → (set_counts m n i o room).answer ≡ Ok e → SetDone m M (set_counts m n i o room).graph n i o
  set_counts_law = set_says.0

  -- a refused one changes nothing
  pub set_refused_law : (x : Refusal) → (set_counts m n i o room).answer ≡ Err x → (set_counts m n i o room).graph ≡ m
  set_refused_law = set_says.1
