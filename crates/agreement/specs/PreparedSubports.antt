-- What preparing an end of a port does to subports: every other port keeps its number, and the port itself has the number that the sketch gives it.
-- A link between two inner ends changes no number.
use Rattle.theorems.specs.Pairs.{ok_pair}
use Rattle.std.proofs.Math.Path.{◌≡◌, refl, sym, ap, subst}
use Rattle.std.proofs.Common.{◌∙◌}
use Rattle.std.specs.Prelude.{Bool, ◌⊎◌, leb, Some, Result, Ok, Err}
use Rattle.std.proofs.Math.Bool.{true, false, cond}
use Rattle.std.proofs.Math.Logic.{inl, inr}
use Prim.Native.Nat.{ℕ, suc, ◌+◌, ◌<◌}
use native.Mathlib.Omega.{arith}
use Rattle.std.proofs.Math.Dec.{ltb}
use borrow.Author.Tests.{ltb-true, leb-true, ne_eqb}
use Rattle.port_tables.specs.Limits.{node_ports}
use Rattle.port_tables.specs.Entries.{ports_on, node#, meta_of}
use Rattle.portgraph.specs.Lookups.{meta_at, num_ports}
use Rattle.portgraph.specs.Calls.{add_node}
use Rattle.portgraph.specs.Sums.{upd_same, upd_other, link_other}
use Rattle.portgraph.specs.Model as model
use Rattle.portgraph.specs.Model.{Model, Far, nowhere, to, Slots, gone, live, Good, Holds, Valid, slot_of, count_of, first_of, side_start, slots_at}
use Rattle.portgraph.specs.Meaning.{add_model, link_model, next_slot, next_block}
use Rattle.portgraph.specs.GoodSlots.{zero_is_not_one, gone_not_live, slots_apart}
use Rattle.portgraph.specs.GoodLaws.{good_add, next_slot_gone}
use Rattle.portgraph.specs.SlotHolds.{add_law, add_where, place_holds, slot_room, block_room}
use Rattle.portgraph.specs.PlaceLaws.{meta_of_node, port_index_is}
use Rattle.port_tables.specs.declared.direction.Direction.{Direction}
use Rattle.port_tables.specs.declared.index.NodeIndex.{NodeIndex}
use Rattle.port_tables.specs.declared.index.PortIndex.{PortIndex}
use Rattle.port_tables.specs.declared.node_entry.NodeMeta.{NodeMeta}
use Rattle.portgraph.specs.declared.portgraph.PortGraph.{PortGraph}
use Rattle.portgraph.specs.declared.alloc.NodeAdded.{NodeAdded}
use Rattle.multiportgraph.specs.Reading.{is_hidden, is_split, has_link, port_of, port_number, copy_node, subports}
use Rattle.multiportgraph.specs.WellFormed.{inner#, copy_place, Fine, Seen, lift, IsEnd}
use Rattle.multiportgraph.specs.Graph.{with_graph}
use Rattle.multiportgraph.specs.Ends.{Hangs, split_has_copy, one_copy, count_of_lem, port_of_lem, linked_is, unlinked_is, lift_place, outer_of_subport, outer_of_block, seen_still}
use Rattle.multiportgraph.specs.Needs.{need_of, copy_need}
use Rattle.multiportgraph.specs.SplitLaws.{PreparedEnd, split_tables, two_subports}
use Rattle.multiportgraph.specs.RecountLaws.{set_recounts, growth#, grown, more_longer}
use Rattle.port_tables.specs.Places.{Place}
use Rattle.multiportgraph.specs.HiddenNodes.{copy_incoming, copy_outgoing, ready, split, split_by, split_under, split_port, lowest_free, enough, grow, grow_under, grown_by, recounted, reuse, reuse_under, prepare, prepare_under}
use Rattle.multiportgraph.specs.declared.multiportgraph.MultiPortGraph.{MultiPortGraph}
use Rattle.multiportgraph.specs.declared.needs.Need.TheVariants as need
use Rattle.sketches.specs.Plan.{subports_ready}
use Rattle.agreement.specs.Alike.{subports_at}
use Rattle.agreement.specs.KeptSplits.{split_kept, same_subports, nodes_by_table, copies_apart}
use Rattle.portgraph.specs.declared.alloc.AddError.{AddError}
use Rattle.portgraph.specs.declared.resize.SetError.{SetError}
use Rattle.portgraph.specs.declared.alloc.AddError.TheVariants as add_error
use Rattle.portgraph.specs.declared.resize.SetError.TheVariants as set_error

-- A node that is added to the lower graph.

record NodeTaken (g' : PortGraph) (M : Model) (c i o : ℕ) : Type 0 where
  model' : Model
  good : Good model'
  holds : Holds g' model'
  was : M.node c ≡ gone
  meta : NodeMeta
  here : model'.node c ≡ live meta
  ins : meta.incoming ≡ i
  outs : meta.outgoing ≡ o
  others : (n : ℕ) → (n ≡ c → ⊥) → model'.node n ≡ M.node n

module _ {g : PortGraph} {M : Model} (good : Good M) (holds : Holds g M) (i o : ℕ) where
  abbrev Taken : NodeAdded → Type 0
  Taken r = (c : NodeIndex) (first : PortIndex) → r.answer ≡ Ok (c, first) → NodeTaken r.graph M c.0 i o

  node_taken : Taken (add_node g i o)
  node_taken = subst Taken (sym (add_law good holds i o)) (go (leb (i + o) node_ports) (slot_room M) (block_room M (i + o)) refl refl refl)
    where
      go : (few slot block : Bool) → leb (i + o) node_ports ≡ few → slot_room M ≡ slot → block_room M (i + o) ≡ block → Taken (add_where g M i o few slot block)
      go true true true p q r c first e =
          let small = leb-true _ _ p in
          let nodes = leb-true _ _ q in
          let ports = leb-true _ _ r in
          let n : next_slot M ≡ c.0 = ap (λ (k : NodeIndex). k.0) (ok_pair e).0 in
          let k : NodeMeta = meta_of (next_block M (i + o)) i o (i + o) in
          subst (λ (s : ℕ). NodeTaken (add_where g M i o true true true).graph M s i o) n
          (record {
            model' = add_model M i o;
            good = good_add good i o small nodes ports;
            holds = place_holds good holds i o small nodes ports;
            was = next_slot_gone good;
            meta = k;
            here = upd_same M.node (next_slot M) (live k);
            ins = refl;
            outs = refl;
            others = λ s d. upd_other M.node (next_slot M) (live k) s d;
          })
      go true true false p q r c first e = absurd (zero_is_not_one (cc))
      go true false block p q r c first e = absurd (zero_is_not_one (cc))
      go false slot block p q r c first e = absurd (zero_is_not_one (cc))

-- What a port's end needs tells whether it is split, and on which hidden node.

module _ {m : MultiPortGraph} {M : Model} (f : Fine m M) (v : model.InnerPlace) where
  abbrev HasFree : ℕ → Type 0
  HasFree c =
      (low : ℕ) × (low < count_of (M.node c) v.side) × (need_of m (slot_of M.node v) v.side ≡ need.Ready (slot_of M.node (inner# c v.side low)) low)

  abbrev HasNone : ℕ → Type 0
  HasNone c = (k : NodeMeta) × (need_of m (slot_of M.node v) v.side ≡ need.Grow (node# c) k)

  split_need : is_split m (slot_of M.node v) ≡ true → (h : Hangs m M v) → HasFree h.copy ⊎ HasNone h.copy
  unfolding need_of
  split_need t h =
      let k = f.copy h.copy h.is_copy in
      let here = meta_of_node f.good f.holds h.copy k.meta k.here in
      by k.meta k.here
      (ap (λ (b : Bool). cond b (copy_need m v.side (copy_node m (slot_of M.node v)) (meta_at m.graph (copy_node m (slot_of M.node v)))) (cond (has_link m.graph (slot_of M.node v)) need.Split (need.Ready (slot_of M.node v) 0))) t
      ∙ (ap (λ (c : ℕ). copy_need m v.side c (meta_at m.graph c)) h.copy_is ∙ ap (copy_need m v.side h.copy) here))
      (ltb (lowest_free m.graph h.copy v.side 0 (ports_on k.meta v.side)) (ports_on k.meta v.side)) refl
    where
      by : (k : NodeMeta) → M.node h.copy ≡ live k → need_of m (slot_of M.node v) v.side ≡ copy_need m v.side h.copy (Some k) →
          (b : Bool) → ltb (lowest_free m.graph h.copy v.side 0 (ports_on k v.side)) (ports_on k v.side) ≡ b → HasFree h.copy ⊎ HasNone h.copy
      by k here is true e =
          let low : ℕ = lowest_free m.graph h.copy v.side 0 (ports_on k v.side) in
          let l : low < count_of (M.node h.copy) v.side = subst (λ (w : Slots). low < count_of w v.side) (sym here) (ltb-true low (ports_on k v.side) e) in
          inl (low, l, is ∙ (rw e refl ∙ ap (λ (s : ℕ). need.Ready s low) (port_of_lem f h.copy v.side low l)))
      by k here is false e = inr (k, is ∙ rw e refl)

  abbrev IsPlain : Type 0
  IsPlain = (need_of m (slot_of M.node v) v.side ≡ need.Split) ⊎ (need_of m (slot_of M.node v) v.side ≡ need.Ready (slot_of M.node v) 0)

  plain_need : is_split m (slot_of M.node v) ≡ false → IsPlain
  unfolding need_of
  plain_need t = by (has_link m.graph (slot_of M.node v)) refl
    where
      by : (b : Bool) → has_link m.graph (slot_of M.node v) ≡ b → IsPlain
      by true e = inl (rw (t, e) refl)
      by false e = inr (rw (t, e) refl)

-- a port that needs the same in two graphs is not split in one alone
needs_differ : {m : MultiPortGraph} {M : Model} {n : MultiPortGraph} {N : Model} → Fine m M → Fine n N → (v : model.InnerPlace) → Seen n N v →
    slot_of M.node v ≡ slot_of N.node v → is_split m (slot_of M.node v) ≡ false → is_split n (slot_of N.node v) ≡ true →
    need_of m (slot_of M.node v) v.side ≡ need_of n (slot_of N.node v) v.side → ⊥
needs_differ {m} {M} {n} {N} f g v sv slot t u e = go (plain_need f v t) (split_need g v u h)
  where
    h : Hangs n N v
    h = split_has_copy g v sv u

    go : IsPlain f v → HasFree g v h.copy ⊎ HasNone g v h.copy → ⊥
    go (inl a) (inl (low, l, b)) = zero_is_not_one (cc)
    go (inl a) (inr (k, b)) = zero_is_not_one (cc)
    go (inr a) (inr (k, b)) = zero_is_not_one (cc)
    go (inr a) (inl (low, l, b)) =
        let s : slot_of M.node v ≡ slot_of N.node (inner# h.copy v.side low) = cc in
        let q : v ≡ inner# h.copy v.side low = slots_apart g.good v (inner# h.copy v.side low) sv.0 l (sym slot ∙ s) in
        let hid = h.is_copy in
        let not_hid = sv.1 in
        let same = ap (λ (w : model.InnerPlace). is_hidden n w.node) q in
        zero_is_not_one (cc)

-- The law.

pub record SubportsPrepared (m : MultiPortGraph) (M : Model) (x : model.InnerPlace) (m' : MultiPortGraph) (M' : Model) (o : ℕ) : Type 0 where
  pub others : (v : model.InnerPlace) → Seen m M v → (v ≡ x → ⊥) → subports_at m' M' v ≡ subports_at m M v
  pub here : subports_at m' M' x ≡ subports_ready (subports_at m M x) o

-- the one node that changed, whose subports are now one more than the offset
record OneChanged (m : MultiPortGraph) (M : Model) (x : model.InnerPlace) (M' : Model) (q o : ℕ) : Type 0 where
  node : ℕ
  others : (n : ℕ) → (n ≡ node → ⊥) → M'.node n ≡ M.node n
  count : count_of (M'.node node) x.side ≡ suc o
  slot : slot_of M'.node (inner# node x.side o) ≡ q
  later : 0 < o
  -- no other port hangs on it
  apart : (v : model.InnerPlace) → (v ≡ x → ⊥) → (h : Hangs m M v) → h.copy ≡ node → ⊥
  more : subports_ready (subports_at m M x) o ≡ suc o

split_subports : (m : MultiPortGraph) (M : Model) (v : model.InnerPlace) → is_split m (slot_of M.node v) ≡ true → (h : Hangs m M v) → subports_at m M v ≡ count_of (M.node h.copy) v.side
split_subports m M v t h = rw t h.count

whole_subports : (m : MultiPortGraph) (M : Model) (v : model.InnerPlace) → is_split m (slot_of M.node v) ≡ false → subports_at m M v ≡ 0
whole_subports m M v t = rw t refl

module _ {m : MultiPortGraph} {M : Model} {x : model.InnerPlace} {m' : MultiPortGraph} {M' : Model} {q o : ℕ} (f : Fine m M) (sx : Seen m M x) (p : PreparedEnd m M x m' M' q o) where
  -- a port whose hidden node stays has as many subports as before
  module _ (v : model.InnerPlace) (sv : Seen m M v) (other : v ≡ x → ⊥) (kept : (h : Hangs m M v) → M'.node h.copy ≡ M.node h.copy) where
    still : slot_of M'.node v ≡ slot_of M.node v
    still = (seen_still f p.fine p.blocks v sv).1

    sv' : Seen m' M' v
    sv' = (seen_still f p.fine p.blocks v sv).0

    same_need : need_of m' (slot_of M'.node v) v.side ≡ need_of m (slot_of M.node v) v.side
    same_need = ap (λ (s : ℕ). need_of m' s v.side) still ∙ p.others v sv other

    same_copy : (t : is_split m (slot_of M.node v) ≡ true) (u : is_split m' (slot_of M'.node v) ≡ true) (h : Hangs m M v) (h' : Hangs m' M' v) → h'.copy ≡ h.copy
    same_copy t u h h' = go (split_need f v t h) (split_need p.fine v u h')
      where
        go : HasFree f v h.copy ⊎ HasNone f v h.copy → HasFree p.fine v h'.copy ⊎ HasNone p.fine v h'.copy → h'.copy ≡ h.copy
        go (inl (low, l, a)) (inl (low', l', b)) =
            let e = same_need in
            let n : low' ≡ low = cc in
            let s : slot_of M'.node (inner# h'.copy v.side low') ≡ slot_of M.node (inner# h.copy v.side low) = cc in
            let k : slot_of M'.node (inner# h.copy v.side low) ≡ slot_of M.node (inner# h.copy v.side low) =
            ap (λ (w : Slots). first_of w + (side_start w v.side + low)) (kept h) in
            let valid : Valid M'.node (inner# h.copy v.side low) = subst (λ (w : Slots). low < count_of w v.side) (sym (kept h)) l in
            ap (λ (w : model.InnerPlace). w.node)
            (slots_apart p.fine.good (inner# h'.copy v.side low') (inner# h.copy v.side low) l' valid (s ∙ sym k))
        go (inr (j, a)) (inr (k, b)) = let e = same_need in let n : node# h'.copy ≡ node# h.copy = cc in ap (λ (w : NodeIndex). w.0) n
        go (inl (low, l, a)) (inr (k, b)) = let e = same_need in absurd (zero_is_not_one (cc))
        go (inr (j, a)) (inl (low, l, b)) = let e = same_need in absurd (zero_is_not_one (cc))

    subports_kept : subports_at m' M' v ≡ subports_at m M v
    subports_kept = go (is_split m (slot_of M.node v)) (is_split m' (slot_of M'.node v)) refl refl
      where
        go : (a b : Bool) → is_split m (slot_of M.node v) ≡ a → is_split m' (slot_of M'.node v) ≡ b → subports_at m' M' v ≡ subports_at m M v
        go false false t u = whole_subports m' M' v u ∙ sym (whole_subports m M v t)
        go false true t u = absurd (needs_differ f p.fine v sv' (sym still) t u (sym same_need))
        go true false t u = absurd (needs_differ p.fine f v sv still u t same_need)
        go true true t u =
            let h = split_has_copy f v sv t in
            let h' = split_has_copy p.fine v sv' u in
            let c = same_copy t u h h' in
            split_subports m' M' v u h' ∙ (ap (λ (n : ℕ). count_of (M'.node n) v.side) c ∙ (ap (λ (w : Slots). count_of w v.side) (kept h) ∙ sym (split_subports m M v t h)))

  -- where nothing changed
  nothing_changed : m ≡ m' → subports_ready (subports_at m M x) o ≡ subports_at m M x → SubportsPrepared m M x m' M' o
  nothing_changed e r =
      record { others = λ v sv n. same v; here = same x ∙ sym r }
    where
      same : (v : model.InnerPlace) → subports_at m' M' v ≡ subports_at m M v
      same v =
          let n = nodes_by_table f.holds p.fine.holds (ap (λ (w : MultiPortGraph). w.graph.node_meta) e) v.node in
          let s : slot_of M'.node v ≡ slot_of M.node v = ap (λ (w : Slots). first_of w + (side_start w v.side + v.pos)) n in
          λ i. cond (is_split (sym e i) (s i)) (subports (sym e i) (s i) v.side) 0

  -- where one node did
  module _ (c : OneChanged m M x M' q o) where
    -- the end prepared is a subport of the changed node
    its_node : is_hidden m' p.z.node ≡ true
    its_node = go (is_hidden m' p.z.node) refl
      where
        go : (b : Bool) → is_hidden m' p.z.node ≡ b → b ≡ true
        go true h = refl
        go false h =
            let e : lift p.z 0 ≡ lift x o = sym (outer_of_block p.fine p.z h) ∙ p.is in
            let n : 0 ≡ o = ap (λ (w : Place). w.offset) e in
            let l = c.later in
            absurd (omega arith)

    its_place : p.z ≡ inner# c.node x.side o
    its_place =
        let n = c.count in
        slots_apart p.fine.good p.z (inner# c.node x.side o) p.end.valid (omega arith) (p.slot ∙ sym c.slot)

    hangs_there : (M'.join (copy_place m' c.node) ≡ to x) × (is_hidden m' c.node ≡ true)
    hangs_there =
        let k = p.fine.copy p.z.node its_node in
        let e : lift k.main p.z.pos ≡ lift x o = sym (outer_of_subport p.fine p.z k.main its_node k.joined) ∙ p.is in
        let n : p.z.node ≡ c.node = ap (λ (w : model.InnerPlace). w.node) its_place in
        (ap (λ (i : ℕ). M'.join (copy_place m' i)) (sym n) ∙ (k.joined ∙ ap to (lift_place e)), ap (is_hidden m') (sym n) ∙ its_node)

    here_changed : subports_at m' M' x ≡ suc o
    here_changed =
        let t = p.fine.main_marked c.node x hangs_there.1 hangs_there.0 in
        let h = split_has_copy p.fine x (seen_still f p.fine p.blocks x sx).0 t in
        let n : h.copy ≡ c.node = one_copy p.fine h.copy c.node x h.from hangs_there.0 in
        split_subports m' M' x t h ∙ (ap (λ (i : ℕ). count_of (M'.node i) x.side) n ∙ c.count)

    one_changed : SubportsPrepared m M x m' M' o
    one_changed =
        record {
          others = λ v sv n. subports_kept v sv n (λ h. c.others h.copy (c.apart v n h));
          here = here_changed ∙ sym c.more;
        }

-- The cases of preparing.

ready_same : (c o : ℕ) → 0 < c → o < c → subports_ready c o ≡ c
ready_same c o p l = rw (ne_eqb c 0 (λ q. omega arith)) (omega arith)

ready_more : (c o : ℕ) → 0 < c → c ≡ o → subports_ready c o ≡ suc o
ready_more c o p l = rw (ne_eqb c 0 (λ q. omega arith)) (omega arith)

module _ {m : MultiPortGraph} {M : Model} (f : Fine m M) (x : model.InnerPlace) (sx : Seen m M x) (m' : MultiPortGraph) (M' : Model) (q o : ℕ) (p : PreparedEnd m M x m' M' q o) where
  slot_of_port : {g : PortGraph} {N : Model} → Good N → Holds g N → (c i : ℕ) → Valid N.node (inner# c x.side i) → (M'.node c ≡ N.node c) →
      slot_of M'.node (inner# c x.side i) ≡ port_of g c x.side i
  unfolding port_of
  slot_of_port {g} {N} good holds c i v e =
      ap (λ (w : Slots). first_of w + (side_start w x.side + i)) e ∙ sym (ap port_number (port_index_is good holds (inner# c x.side i) v))

  -- an unsplit port with a link
  split_changes : (y : model.InnerPlace) → is_split m (slot_of M.node x) ≡ false → M.join x ≡ to y → split m (slot_of M.node x) x.side ≡ ready m' q o → OneChanged m M x M' q o
  unfolding split_under split_port
  split_changes y plain linked e = go (add_node m.graph (copy_incoming x.side) (copy_outgoing x.side)).answer refl e
    where
      go : (a : Result (NodeIndex × PortIndex) AddError) → (add_node m.graph (copy_incoming x.side) (copy_outgoing x.side)).answer ≡ a → split_by m (slot_of M.node x) x.side (add_node m.graph (copy_incoming x.side) (copy_outgoing x.side)).graph a ≡ ready m' q o → OneChanged m M x M' q o
      go (Err add_error.TooManyPorts) a w = absurd (zero_is_not_one (cc))
      go (Err add_error.NoRoom) a w = absurd (zero_is_not_one (cc))
      go (Ok (c, first)) a w =
          let t = node_taken f.good f.holds (copy_incoming x.side) (copy_outgoing x.side) c first a in
          let g : PortGraph = (add_node m.graph (copy_incoming x.side) (copy_outgoing x.side)).graph in
          let tables = split_tables f x y sx linked (add_node m.graph (copy_incoming x.side) (copy_outgoing x.side)) refl c first a in
          let e1 : split_port m (slot_of M.node x) x.side g c.0 ≡ m' = cc in
          let e2 : port_of g c.0 x.side 1 ≡ q = cc in
          let e3 : ◌≡◌ {A = ℕ} 1 o = cc in
          let meta : g.node_meta ≡ m'.graph.node_meta =
          ap (λ (h : PortGraph). h.node_meta) (sym tables.graph) ∙ ap (λ (h : MultiPortGraph). h.graph.node_meta) e1 in
          let nodes = nodes_by_table t.holds p.fine.holds meta in
          let two = two_subports x.side t.meta t.ins t.outs in
          let count : count_of (t.model'.node c.0) x.side ≡ 2 = ap (λ (v : Slots). count_of v x.side) t.here ∙ two in
          record {
            node = c.0;
            others = λ n d. nodes n ∙ t.others n d;
            count = ap (λ (v : Slots). count_of v x.side) (nodes c.0) ∙ (count ∙ ap suc e3);
            slot = ap (λ (i : ℕ). slot_of M'.node (inner# c.0 x.side i)) (sym e3) ∙ (slot_of_port t.good t.holds c.0 1 (omega arith) (nodes c.0) ∙ e2);
            later = omega arith;
            apart = λ v n h r. gone_not_live (ap M.node r ∙ t.was) (f.copy h.copy h.is_copy).here;
            more = ap (λ (i : ℕ). subports_ready i o) (whole_subports m M x plain) ∙ rw (← e3) refl;
          }

  -- a split port all of whose subports are linked
  grow_changes : is_split m (slot_of M.node x) ≡ true → (h : Hangs m M x) → grow m h.copy x.side ≡ ready m' q o → OneChanged m M x M' q o
  unfolding grow_under recounted
  grow_changes t h e = go (growth# m h.copy x.side).answer refl e
    where
      go : (a : Result ℕ SetError) → (growth# m h.copy x.side).answer ≡ a → grown_by m h.copy x.side (growth# m h.copy x.side).graph a ≡ ready m' q o → OneChanged m M x M' q o
      go (Err set_error.TooManyPorts) k w = absurd (zero_is_not_one (cc))
      go (Err set_error.UnknownNode) k w = absurd (zero_is_not_one (cc))
      go (Err set_error.MovesTooShort) k w = absurd (zero_is_not_one (cc))
      go (Err set_error.NoRoom) k w = absurd (zero_is_not_one (cc))
      go (Ok i) k w =
          let s = set_recounts f.good f.holds h.copy _ _ enough i k in
          let r = s.is in
          let g : PortGraph = (growth# m h.copy x.side).graph in
          let was : num_ports m.graph h.copy x.side ≡ count_of (M.node h.copy) x.side = count_of_lem f h.copy x.side in
          let counts : ((d : Direction) → num_ports m.graph h.copy d ≡ ports_on s.old d) = λ d. count_of_lem f h.copy d ∙ ap (λ (v : Slots). count_of v d) r.here in
          let longer = (more_longer s.old s.new m.graph h.copy x.side counts r.ins r.outs).0 in
          let now : count_of (s.model'.node h.copy) x.side ≡ ports_on s.new x.side = ap (λ (v : Slots). count_of v x.side) r.there in
          let e1 : grown m h.copy g ≡ m' = cc in
          let e2 : port_of g h.copy x.side (num_ports m.graph h.copy x.side) ≡ q = cc in
          let e3 : num_ports m.graph h.copy x.side ≡ o = cc in
          let nodes = nodes_by_table r.holds p.fine.holds (ap (λ (u : MultiPortGraph). u.graph.node_meta) e1) in
          let old = counts x.side in
          let there : count_of (s.model'.node h.copy) x.side ≡ suc o = omega arith in
          let several = h.several in
          record {
            node = h.copy;
            others = λ n d. nodes n ∙ r.others n d;
            count = ap (λ (v : Slots). count_of v x.side) (nodes h.copy) ∙ there;
            slot = slot_of_port r.good r.holds h.copy o (omega arith) (nodes h.copy) ∙ (ap (port_of g h.copy x.side) (sym e3) ∙ e2);
            later = omega arith;
            apart = λ v n k z. copies_apart h k n z;
            more = ready_more (subports_at m M x) o (subst (λ (i : ℕ). 0 < i) (sym (split_subports m M x t h)) (omega arith)) (split_subports m M x t h ∙ (sym was ∙ e3));
          }

  pub prepared_subports : prepare m (slot_of M.node x) x.side ≡ ready m' q o → SubportsPrepared m M x m' M' o
  unfolding prepare_under reuse_under
  prepared_subports = go (is_split m (slot_of M.node x)) refl
    where
      again : (h : Hangs m M x) (low : ℕ) → is_split m (slot_of M.node x) ≡ true → (b : Bool) → ltb low (num_ports m.graph h.copy x.side) ≡ b →
          cond b (ready m (port_of m.graph h.copy x.side low) low) (grow m h.copy x.side) ≡ ready m' q o → SubportsPrepared m M x m' M' o
      again h low t true l e =
          let same : m ≡ m' = cc in
          let at : low ≡ o = cc in
          let below = ltb-true low (num_ports m.graph h.copy x.side) l in
          let n : subports_at m M x ≡ num_ports m.graph h.copy x.side = split_subports m M x t h ∙ sym (count_of_lem f h.copy x.side) in
          nothing_changed f sx p same (rw n (ready_same (num_ports m.graph h.copy x.side) o (omega arith) (omega arith)))
      again h low t false l e = one_changed f sx p (grow_changes t h e)

      whole : is_split m (slot_of M.node x) ≡ false → (w : Far) → M.join x ≡ w → cond (has_link m.graph (slot_of M.node x)) (split m (slot_of M.node x) x.side) (ready m (slot_of M.node x) 0) ≡ ready m' q o →
          SubportsPrepared m M x m' M' o
      whole t (to y) j e = one_changed f sx p (split_changes y t j (rw (linked_is f x y j) at e))
      whole t nowhere j e =
          let k : ready m (slot_of M.node x) 0 ≡ ready m' q o = rw (unlinked_is f x sx.0 j) at e in
          let same : m ≡ m' = cc in
          let at : 0 ≡ o = cc in
          nothing_changed f sx p same (let n = whole_subports m M x t in ap (λ (i : ℕ). subports_ready i o) n ∙ (ap (subports_ready 0) (sym at) ∙ sym n))

      go : (b : Bool) → is_split m (slot_of M.node x) ≡ b →
          cond b (reuse m (copy_node m (slot_of M.node x)) x.side (lowest_free m.graph (copy_node m (slot_of M.node x)) x.side 0 (subports m (slot_of M.node x) x.side)))
          (cond (has_link m.graph (slot_of M.node x)) (split m (slot_of M.node x) x.side) (ready m (slot_of M.node x) 0)) ≡ ready m' q o → SubportsPrepared m M x m' M' o
      go true t e =
          let h = split_has_copy f x sx t in
          again h (lowest_free m.graph h.copy x.side 0 (subports m (slot_of M.node x) x.side)) t _ refl (rw h.copy_is at e)
      go false t e = whole t (M.join x) refl e

-- A link between two inner ends: neither is a split port, so each port hangs as it did.
pub linked_subports : {m : MultiPortGraph} {M : Model} (g : PortGraph) (y z : model.InnerPlace) → Fine m M → Fine (with_graph m g) (link_model M y z) → IsEnd m M y → IsEnd m M z →
    (v : model.InnerPlace) → Seen m M v → subports_at (with_graph m g) (link_model M y z) v ≡ subports_at m M v
unfolding is_hidden is_split
linked_subports {m} {M} g y z f after ey ez v sv =
    same_subports m M (with_graph m g) (link_model M y z) v
    (split_kept f after v sv (λ h. (h.is_copy, refl, link_other y z M.join v (no_end h y ey) (no_end h z ez) ∙ h.back)) (λ t. t))
  where
    no_end : Hangs m M v → (w : model.InnerPlace) → IsEnd m M w → v ≡ w → ⊥
    no_end h w e q =
        let t = f.main_marked h.copy v h.is_copy h.from in
        let u : is_split m (slot_of M.node w) ≡ false = e.unsplit (ap (λ (x : model.InnerPlace). is_hidden m x.node) (sym q) ∙ sv.1) in
        let s = ap (λ (x : model.InnerPlace). is_split m (slot_of M.node x)) q in
        zero_is_not_one (cc)
