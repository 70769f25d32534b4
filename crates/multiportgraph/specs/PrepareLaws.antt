-- Preparing an end of a port: the port itself where it is neither split nor linked, else a split, else the lowest free subport,
-- else one more subport. None is prepared only where a table would pass its limit.
use Rattle.std.specs.Prelude.{◌≡◌, Bool, ◌⊎◌, leb, ltb, Err}
use Rattle.std.proofs.Math.Path.{refl, ap}
use Rattle.std.proofs.Common.{sym, ◌∙◌, subst, inl, inr, ⊎_elim}
use Rattle.std.proofs.Math.Bool.{true, false, cond}
use Prim.Native.Nat.{ℕ, zero, suc, ◌+◌, ◌*◌, ◌≤◌, ◌<◌}
use native.Mathlib.Omega.{arith}
use borrow.Author.Tests.{ltb-true, ltb-false, lt-ltb, leb-true, leb-false}
use Rattle.port_tables.specs.Limits.{port_slots, node_ports}
use Rattle.port_tables.specs.Entries.{ports_on}
use Rattle.portgraph.specs.Lookups.{num_ports}
use Rattle.portgraph.specs.Meaning.{growth}
use Rattle.portgraph.specs.Resize.{Plan, refuse, set_by}
use Rattle.port_tables.specs.ResizeLinks.{round_up, same_counts, fits_inside}
use Rattle.portgraph.specs.ResizeLaws.{plan_live, plan_where, set_law, none_beyond}
use Rattle.portgraph.specs.SlotHolds.{block_room}
use Rattle.port_tables.specs.declared.node_entry.NodeMeta.{NodeMeta}
use Rattle.portgraph.specs.declared.portgraph.PortGraph.{PortGraph}
use Rattle.portgraph.specs.declared.resize.PortsSet.{PortsSet}
use Rattle.portgraph.specs.GoodSlots.{zero_is_not_one, slot_in_block, same_place_lem}
use Rattle.portgraph.specs.Model as model
use Rattle.portgraph.specs.Model.{Model, Far, nowhere, to, Slots, live, Valid, slot_of, count_of, first_of, side_start}
use Rattle.port_tables.specs.declared.direction.Direction.{Direction}
use Rattle.port_tables.specs.declared.direction.Direction.TheVariants.{Incoming, Outgoing}
use Rattle.multiportgraph.specs.Reading.{is_hidden, is_split, has_link, port_of, copy_node, subports}
use Rattle.multiportgraph.specs.WellFormed.{inner#, copy_place, Fine, Seen, lift, outer, IsEnd, WireIn, HasEnd}
use Rattle.multiportgraph.specs.Ends.{Hangs, split_has_copy, one_copy, unsplit_no_copy, lift_place, port_of_lem, count_of_lem, linked_is, unlinked_is, outer_apart, outer_of_unsplit, outer_of_subport, outer_of_block}
use Rattle.multiportgraph.specs.SplitLaws.{PreparedEnd, AllLinked, NoSpace, no_subport, PreparedSays, end_of_wire, wire_of_end, split_says}
use Rattle.multiportgraph.specs.RecountLaws.{grow_law}
use Rattle.multiportgraph.specs.declared.multiportgraph.MultiPortGraph.{MultiPortGraph}
use Rattle.port_tables.specs.Places.{Place, Wire}
use Rattle.multiportgraph.specs.HiddenNodes.{Prepared, ready, full, split, lowest_free, more_incoming, more_outgoing, enough, grown_by, grow, reuse, prepare, prepare_under, reuse_under, grow_under}
use Rattle.portgraph.specs.declared.resize.SetError.TheVariants as set_error

-- Where a hidden node cannot grow.

more_ports : (k : NodeMeta) (g : PortGraph) (c : ℕ) (d : Direction) → ((e : Direction) → num_ports g c e ≡ ports_on k e) → more_incoming g c d + more_outgoing g c d ≡ suc (k.incoming + k.outgoing)
more_ports k g c Incoming n = let a = n Incoming in let b = n Outgoing in omega arith
more_ports k g c Outgoing n = let a = n Incoming in let b = n Outgoing in omega arith

not_inside : (k : NodeMeta) (i o : ℕ) → 0 < i + o → fits_inside k i o ≡ false → k.capacity ≤ i + o
unfolding fits_inside
not_inside k i o l e = ltb-false (i + o) k.capacity (ap (λ b. cond b (ltb (i + o) k.capacity) false) (sym (lt-ltb 0 (i + o) l)) ∙ e)

module _ {m : MultiPortGraph} {M : Model} (f : Fine m M) (x : model.InnerPlace) (sx : Seen m M x) (h : Hangs m M x) (linked : AllLinked M h.copy x.side) where
  grow_full : grow m h.copy x.side ≡ full → NoSpace m M x
  unfolding grow_under
  grow_full e =
      let r = f.copy h.copy h.is_copy in
      few r.meta r.here (leb (i# + o#) node_ports) refl (sym (ap (λ (u : PortsSet). grown_by m h.copy x.side u.graph u.answer)
      (set_law f.good f.holds h.copy i# o# enough ∙ ap (λ v. set_by m.graph h.copy i# o# (plan_where M i# o# enough (leb (i# + o#) node_ports) v)) r.here)) ∙ e)
    where
      i# : ℕ
      i# = more_incoming m.graph h.copy x.side

      o# : ℕ
      o# = more_outgoing m.graph h.copy x.side

      Answered : Plan → Type 0
      Answered p = grown_by m h.copy x.side (set_by m.graph h.copy i# o# p).graph (set_by m.graph h.copy i# o# p).answer ≡ full

      sum : (k : NodeMeta) → M.node h.copy ≡ live k → i# + o# ≡ suc (k.incoming + k.outgoing)
      sum k here = more_ports k m.graph h.copy x.side (λ d. count_of_lem f h.copy d ∙ ap (λ (v : Slots). count_of v d) here)

      room : (k : NodeMeta) → M.node h.copy ≡ live k → i# + o# ≤ node_ports → (a b c : Bool) → fits_inside k i# o# ≡ b → block_room M (round_up (i# + o#)) ≡ c →
          Answered (plan_live M i# o# k a b c) → NoSpace m M x
      room k here l true b c p q e = absurd (zero_is_not_one (cc))
      room k here l false true c p q e = absurd (zero_is_not_one (cc))
      room k here l false false true p q e = absurd (zero_is_not_one (cc))
      room k here l false false false p q e =
          let s = sum k here in
          let a = not_inside k i# o# (omega arith) p in
          no_subport h.copy k h.is_copy h.back linked here (omega arith)
          (subst (λ n. port_slots < M.port_len + growth (round_up n) (M.free_blocks (round_up n))) s
          (leb-false (M.port_len + growth (round_up (i# + o#)) (M.free_blocks (round_up (i# + o#)))) port_slots q))

      told : (k : NodeMeta) → M.node h.copy ≡ live k → i# + o# ≤ node_ports → (t : Bool) → leb (3 * (k.incoming + k.outgoing)) enough ≡ t →
          Answered (cond t (plan_live M i# o# k (same_counts k i# o#) (fits_inside k i# o#) (block_room M (round_up (i# + o#)))) (refuse (Err set_error.MovesTooShort))) → NoSpace m M x
      told k here l true p e = room k here l (same_counts k i# o#) (fits_inside k i# o#) (block_room M (round_up (i# + o#))) refl refl e
      told k here l false p e =
          absurd
          (let a = leb-false (3 * (k.incoming + k.outgoing)) enough p in
          let b = f.good.ports_in_block h.copy k here in
          let c = f.good.block_small h.copy k here in
          omega arith)

      few : (k : NodeMeta) → M.node h.copy ≡ live k → (t : Bool) → leb (i# + o#) node_ports ≡ t → Answered (plan_where M i# o# enough t (live k)) → NoSpace m M x
      few k here true p e = told k here (leb-true (i# + o#) node_ports p) (leb (3 * (k.incoming + k.outgoing)) enough) refl e
      few k here false p e =
          let a = leb-false (i# + o#) node_ports p in
          let s = sum k here in
          let b = f.good.ports_in_block h.copy k here in
          let c = f.good.block_small h.copy k here in
          no_subport h.copy k h.is_copy h.back linked here (omega arith)
          (none_beyond f.good h.copy k here x sx.0 (λ q. let seen = sx.1 in let copy = h.is_copy in let same = ap (is_hidden m) q in zero_is_not_one (cc))
          (suc (k.incoming + k.outgoing)) (omega arith) (omega arith))

-- what the lowest free position r of a node's side says, looking at n positions from o on
record Lowest (M : Model) (c : ℕ) (d : Direction) (o n r : ℕ) : Type 0 where
  least : o ≤ r
  most : r ≤ o + n
  linked : (i : ℕ) → o ≤ i → i < r → (y : model.InnerPlace) × (M.join (inner# c d i) ≡ to y)
  free : r < o + n → M.join (inner# c d r) ≡ nowhere

module _ {m : MultiPortGraph} {M : Model} (f : Fine m M) where
  lowest_free_lem : (c : ℕ) (d : Direction) (o n : ℕ) → o + n ≤ count_of (M.node c) d → Lowest M c d o n (lowest_free m.graph c d o n)
  unfolding lowest_free
  lowest_free_lem c d o zero l = record { least = omega arith; most = omega arith; linked = λ i a b. absurd (omega arith); free = λ h. absurd (omega arith) }
  lowest_free_lem c d o (suc n) l = go (M.join (inner# c d o)) refl (lowest_free_lem c d (suc o) n (omega arith))
    where
      v : Valid M.node (inner# c d o)
      v = omega arith

      go : (w : Far) → M.join (inner# c d o) ≡ w → Lowest M c d (suc o) n (lowest_free m.graph c d (suc o) n)
          → Lowest M c d o (suc n) (cond (has_link m.graph (port_of m.graph c d o)) (lowest_free m.graph c d (suc o) n) o)
      go nowhere j k =
          rw (port_of_lem f c d o v, unlinked_is f (inner# c d o) v j)
          (record { least = omega arith; most = omega arith; linked = λ i a b. absurd (omega arith); free = λ h. j })
      go (to y) j k =
          rw (port_of_lem f c d o v, linked_is f (inner# c d o) y j)
          (let a = k.least in let b = k.most in
          record {
            least = omega arith;
            most = omega arith;
            linked = λ i a b. ⊎_elim (λ q. (y, ap (λ u. M.join (inner# c d u)) (sym q) ∙ j)) (λ q. k.linked i q b) (first_or_later i a);
            free = λ h. k.free (omega arith);
          })
        where
          first_or_later : (i : ℕ) → o ≤ i → (o ≡ i) ⊎ (suc o ≤ i)
          first_or_later i a = either (ltb o i) refl
            where
              either : (b : Bool) → ltb o i ≡ b → (o ≡ i) ⊎ (suc o ≤ i)
              either true e = inr (ltb-true o i e)
              either false e = inl (let q = ltb-false o i e in omega arith)

  -- a free end of a port whose lower offsets are all wired
  end_as_it_is : (x z : model.InnerPlace) (o : ℕ) → IsEnd m M z → z.side ≡ x.side → M.join z ≡ nowhere → outer m M z ≡ lift x o →
      ((i : ℕ) → i < o → (w : Wire) × WireIn m M w × HasEnd w (lift x i)) → PreparedEnd m M x m M (slot_of M.node z) o
  end_as_it_is x z o e d j q lower =
      record {
        fine = f;
        wires = record { kept = λ w h t. h; came = λ w h. absurd h; only = λ w h. inl (h, refl) };
        blocks = ((λ n k b. b), (λ n k b. b));
        z = z;
        end = e;
        slot = refl;
        side = d;
        free = j;
        is = q;
        lower = lower;
        none = λ w h t.
            let r = end_of_wire f w (lift x o) h t in
            let s : r.near ≡ z = outer_apart f r.near z r.end e (r.is ∙ sym q) in
            let k : M.join r.near ≡ nowhere = ap M.join s ∙ j in
            let l = r.joined in
            zero_is_not_one (cc);
        keeps = λ v t k n. record { end = t; free = k; slot = refl; is = refl };
        others = λ v t n. refl;
      }

  subport_says : (x : model.InnerPlace) → Seen m M x → (h : Hangs m M x) (r : ℕ) →
      Lowest M h.copy x.side 0 (count_of (M.node h.copy) x.side) r → PreparedSays m M x (reuse m h.copy x.side r)
  unfolding reuse_under
  subport_says x sx h r k = rw (count_of_lem f h.copy x.side) (go (ltb r (count_of (M.node h.copy) x.side)) refl)
    where
      grown : (p : Prepared) → grow m h.copy x.side ≡ p →
          AllLinked M h.copy x.side → PreparedSays m M x p
      grown (ready m' q o) e linked = grow_law f x h linked m' q o e
      grown full e linked = grow_full f x sx h linked e

      go : (b : Bool) → ltb r (count_of (M.node h.copy) x.side) ≡ b →
          PreparedSays m M x (cond b (ready m (port_of m.graph h.copy x.side r) r) (grow m h.copy x.side))
      go true e =
          let l = ltb-true r (count_of (M.node h.copy) x.side) e in (
            M,
            subst (λ q. PreparedEnd m M x m M q r) (sym (port_of_lem f h.copy x.side r l))
                (end_as_it_is x (inner# h.copy x.side r) r (h.ends r l) refl (k.free (omega arith)) (h.outers r)
                (λ i s.
                let y = k.linked i (omega arith) s in
                let w = wire_of_end f (inner# h.copy x.side i) y.0 (h.ends i (omega arith)) y.1 in
                (w.0, w.1, subst (HasEnd w.0) (h.outers i) w.2))),
          )
      go false e =
          let l = ltb-false r (count_of (M.node h.copy) x.side) e in
          grown (grow m h.copy x.side) refl (λ j s. k.linked j (omega arith) (omega arith))

  pub prepare_says : (x : model.InnerPlace) → Seen m M x → PreparedSays m M x (prepare m (slot_of M.node x) x.side)
  unfolding prepare_under
  prepare_says x sx = go (is_split m (slot_of M.node x)) refl
    where
      plain : is_split m (slot_of M.node x) ≡ false → (w : Far) → M.join x ≡ w →
          PreparedSays m M x (cond (has_link m.graph (slot_of M.node x)) (split m (slot_of M.node x) x.side) (ready m (slot_of M.node x) 0))
      plain e nowhere j =
          rw (unlinked_is f x sx.0 j)
          (let u = outer_of_unsplit f x sx e in (M, end_as_it_is x x 0 u.1 refl j u.0 (λ i l. absurd (omega arith))))
      plain e (to y) j = rw (linked_is f x y j) (split_says f x y sx e j)

      go : (b : Bool) → is_split m (slot_of M.node x) ≡ b →
          PreparedSays m M x
          (cond (is_split m (slot_of M.node x))
          (reuse m (copy_node m (slot_of M.node x)) x.side (lowest_free m.graph (copy_node m (slot_of M.node x)) x.side 0 (subports m (slot_of M.node x) x.side)))
          (cond (has_link m.graph (slot_of M.node x)) (split m (slot_of M.node x) x.side) (ready m (slot_of M.node x) 0)))
      go true e =
          let h = split_has_copy f x sx e in
          rw (e, h.copy_is, h.count)
          (subport_says x sx h (lowest_free m.graph h.copy x.side 0 (count_of (M.node h.copy) x.side))
          (lowest_free_lem h.copy x.side 0 (count_of (M.node h.copy) x.side) (omega arith)))
      go false e = rw e (plain e (M.join x) refl)

  -- an end of a block's port is prepared
  pub prepare_law : (x : model.InnerPlace) → Seen m M x → (m' : MultiPortGraph) (q o : ℕ) → prepare m (slot_of M.node x) x.side ≡ ready m' q o →
      (M' : Model) × PreparedEnd m M x m' M' q o
  prepare_law x sx m' q o e = subst (PreparedSays m M x) e (prepare_says x sx)

-- An end that is prepared is the lowest free one of its port.
module _ {m : MultiPortGraph} {M : Model} {x : model.InnerPlace} {m' : MultiPortGraph} {M' : Model} {q o : ℕ} (p : PreparedEnd m M x m' M' q o) (sx : Seen m' M' x) where
  -- it is a subport of x, or x itself
  its_main : is_hidden m' p.z.node ≡ true → (M'.join (copy_place m' p.z.node) ≡ to x) × (p.z.pos ≡ o)
  its_main h =
      let c = p.fine.copy p.z.node h in
      let e : lift c.main p.z.pos ≡ lift x o = sym (outer_of_subport p.fine p.z c.main h c.joined) ∙ p.is in
      (c.joined ∙ ap to (lift_place e), ap (λ (w : Place). w.offset) e)

  its_place : is_hidden m' p.z.node ≡ false → (p.z ≡ x) × (0 ≡ o)
  its_place h =
      let e : lift p.z 0 ≡ lift x o = sym (outer_of_block p.fine p.z h) ∙ p.is in
      (lift_place e, ap (λ (w : Place). w.offset) e)

  again_plain : is_split m' (slot_of M'.node x) ≡ false → (b : Bool) → is_hidden m' p.z.node ≡ b →
      cond (has_link m'.graph (slot_of M'.node x)) (split m' (slot_of M'.node x) x.side) (ready m' (slot_of M'.node x) 0) ≡ ready m' q o
  again_plain e true h = absurd (unsplit_no_copy p.fine x e p.z.node h (its_main h).0)
  again_plain e false h =
      let z = its_place h in
      let free : M'.join x ≡ nowhere = ap M'.join (sym z.0) ∙ p.free in
      let slot : slot_of M'.node x ≡ q = ap (slot_of M'.node) (sym z.0) ∙ p.slot in
      rw (unlinked_is p.fine x sx.0 free) (λ i. ready m' (slot i) (z.1 i))

  module _ (h : Hangs m' M' x) (split? : is_split m' (slot_of M'.node x) ≡ true) where
    abbrev there : model.InnerPlace
    there = inner# h.copy x.side o

    its_subport : (b : Bool) → is_hidden m' p.z.node ≡ b → p.z ≡ there
    its_subport true e =
        let z = its_main e in
        same_place_lem p.z there (one_copy p.fine p.z.node h.copy x z.0 h.from) p.side z.1
    its_subport false e =
        let z = its_place e in
        let plain = p.end.unsplit e in
        let same : is_split m' (slot_of M'.node p.z) ≡ true = ap (λ (w : model.InnerPlace). is_split m' (slot_of M'.node w)) z.0 ∙ split? in
        absurd (zero_is_not_one (cc))

    is_there : p.z ≡ there
    is_there = its_subport (is_hidden m' p.z.node) refl

    below : o < count_of (M'.node h.copy) x.side
    below = subst (λ (w : model.InnerPlace). w.pos < count_of (M'.node w.node) w.side) is_there p.end.valid

    free_there : M'.join there ≡ nowhere
    free_there = ap M'.join (sym is_there) ∙ p.free

    -- every lower offset is wired
    wired_below : (i : ℕ) → i < o → M'.join (inner# h.copy x.side i) ≡ nowhere → ⊥
    wired_below i l free =
        let w = p.lower i l in
        let r = end_of_wire p.fine w.0 (lift x i) (p.wires.kept w.0 w.1 refl) w.2 in
        let s : r.near ≡ inner# h.copy x.side i = outer_apart p.fine r.near (inner# h.copy x.side i) r.end (h.ends i (omega (arith, below))) (r.is ∙ sym (h.outers i)) in
        let a : M'.join r.near ≡ nowhere = ap M'.join s ∙ free in
        let b = r.joined in
        zero_is_not_one (cc)

    lowest_is : (r : ℕ) → Lowest M' h.copy x.side 0 (count_of (M'.node h.copy) x.side) r → r ≡ o
    lowest_is r k = go (ltb r o) refl (ltb o r) refl
      where
        go : (a : Bool) → ltb r o ≡ a → (b : Bool) → ltb o r ≡ b → r ≡ o
        go true e b g = absurd (let l = ltb-true r o e in wired_below r l (k.free (omega (arith, below))))
        go false e true g =
            absurd
            (let l = ltb-true o r g in
            let y = k.linked o (omega arith) l in
            let a = y.1 in
            let b = free_there in
            zero_is_not_one (cc))
        go false e false g = let a = ltb-false r o e in let b = ltb-false o r g in omega arith

    again_split : (r : ℕ) → r ≡ o → reuse m' h.copy x.side r ≡ ready m' q o
    unfolding reuse_under
    again_split r e =
        let n = count_of_lem p.fine h.copy x.side in
        let port : port_of m'.graph h.copy x.side o ≡ q = port_of_lem p.fine h.copy x.side o below ∙ (ap (slot_of M'.node) (sym is_there) ∙ p.slot) in
        rw (e, n, lt-ltb o (count_of (M'.node h.copy) x.side) below, port)

  found_again : prepare m' (slot_of M'.node x) x.side ≡ ready m' q o
  unfolding prepare_under
  found_again = go (is_split m' (slot_of M'.node x)) refl
    where
      go : (b : Bool) → is_split m' (slot_of M'.node x) ≡ b →
          cond (is_split m' (slot_of M'.node x))
          (reuse m' (copy_node m' (slot_of M'.node x)) x.side (lowest_free m'.graph (copy_node m' (slot_of M'.node x)) x.side 0 (subports m' (slot_of M'.node x) x.side)))
          (cond (has_link m'.graph (slot_of M'.node x)) (split m' (slot_of M'.node x) x.side) (ready m' (slot_of M'.node x) 0))
          ≡ ready m' q o
      go true e =
          let h = split_has_copy p.fine x sx e in
          rw (e, h.copy_is, h.count)
          (again_split h e _ (lowest_is h e _ (lowest_free_lem p.fine h.copy x.side 0 (count_of (M'.node h.copy) x.side) (omega arith))))
      go false e = rw e (again_plain e (is_hidden m' p.z.node) refl)

module _ {m : MultiPortGraph} {M : Model} (f : Fine m M) where
  -- an end that is prepared is found again, and nothing changes
  pub prepare_again : (x : model.InnerPlace) → Seen m M x → (m' : MultiPortGraph) (q o : ℕ) → prepare m (slot_of M.node x) x.side ≡ ready m' q o →
      prepare m' (slot_of M.node x) x.side ≡ ready m' q o
  prepare_again x sx m' q o e =
      let r = prepare_law f x sx m' q o e in
      let k = slot_in_block f.good x sx.0 in
      let b = r.1.blocks.0 x.node k.0 (sx.1, k.1) in
      let same : r.0.node x.node ≡ M.node x.node = b.1 ∙ sym k.1 in
      let sx' : Seen m' r.0 x = (subst (λ (s : Slots). x.pos < count_of s x.side) (sym same) sx.0, b.0) in
      let slot : slot_of r.0.node x ≡ slot_of M.node x = ap (λ (s : Slots). first_of s + (side_start s x.side + x.pos)) same in
      ap (λ (p : ℕ). prepare m' p x.side) (sym slot) ∙ found_again r.1 sx'
