-- What other counts of a hidden node do to the tables: the copy port's mark moves with it. What one more subport does: the new port
-- follows the others.
use Rattle.std.proofs.lemmas.Bool.{cases_eq}
use Rattle.std.specs.Prelude.{◌≡◌, refl, Bool, ℕ, ◌+◌, ◌<◌, set, Ok}
use Rattle.std.proofs.Math.Path.{sym, ap, transport}
use Rattle.std.proofs.Common.{◌∙◌, length-set, get_or-set_same, get_or-set_other, lt-length-set}
use Rattle.std.proofs.Math.Bool.{true, false}
use Rattle.std.proofs.Math.Logic.{⊎_elim}
use native.Mathlib.Omega.{arith}
use Rattle.std.proofs.Math.ListN.{get_or}
use Rattle.std.proofs.Math.Seq.{ext_get_or}
use Rattle.port_tables.specs.Limits.{port_slots}
use Rattle.port_tables.specs.Entries.{reversed, ports_on}
use Rattle.portgraph.specs.Lookups.{num_ports}
use Rattle.portgraph.specs.Model as model
use Rattle.portgraph.specs.Model.{Model, to, Slots, Valid, slot_of, count_of}
use Rattle.portgraph.specs.GoodSlots.{zero_is_not_one, slot_in_range, slots_apart, joined_is_valid}
use Rattle.port_tables.specs.declared.direction.Direction.{Direction}
use Rattle.port_tables.specs.declared.direction.Direction.TheVariants.{Incoming, Outgoing}
use Rattle.port_tables.specs.declared.node_entry.NodeMeta.{NodeMeta}
use Rattle.portgraph.specs.declared.portgraph.PortGraph.{PortGraph}
use Rattle.portgraph.specs.declared.resize.PortsSet.{PortsSet}
use Rattle.multiportgraph.specs.Reading.{is_hidden, is_split, copy_side, copy_node, port_of}
use Rattle.multiportgraph.specs.WellFormed.{inner#, copy_place, Fine, Marked, copy_port, main_port_lem, Seen}
use Rattle.multiportgraph.specs.Ends.{Hangs, mark_below, copy_valid, copy_count, count_of_lem, main_seen, block_seen, split_has_copy}
use Rattle.multiportgraph.specs.RecountLaws.{Recount, WasMarked, marked_place, marks_long_lem, other_slot, other_count, recount_marks, marked_was, set_recounts, growth#, valid_kept, joins_same, grown_fine, fresh_slot, more_longer}
use Rattle.multi_tables.specs.TableReads.{far_in, last_beside, grown_incoming, grown_outgoing}
use Rattle.multiportgraph.specs.TableReadLaws.{far_is}
use Rattle.multiportgraph.specs.declared.multiportgraph.MultiPortGraph.{MultiPortGraph}
use Rattle.multiportgraph.specs.HiddenNodes.{recounted, more_incoming, more_outgoing, enough}
use Rattle.multiportgraph.specs.Presumed.{SplitPort}

-- a marked port of a hidden node is its copy port
marked_copy : {m : MultiPortGraph} {M : Model} → Fine m M → (c : ℕ) → is_hidden m c ≡ true → (y : model.InnerPlace) → Valid M.node y → y.node ≡ c → is_split m (slot_of M.node y) ≡ true → y ≡ copy_place m c
marked_copy {m} {M} f c h y v n t = go (f.only_marked (slot_of M.node y) t)
  where
    go : Marked m M (slot_of M.node y) → y ≡ copy_place m c
    go (copy_port k i e) =
        let q : copy_place m k ≡ y = slots_apart f.good (copy_place m k) y (copy_valid f k i) v e in
        sym q ∙ ap (copy_place m) (ap (λ (z : model.InnerPlace). z.node) q ∙ n)
    go (main_port_lem k z i j e) =
        let q : z ≡ y = slots_apart f.good z y (joined_is_valid f.good (copy_place m k) z j) v e in
        let a : is_hidden m z.node ≡ false = (main_seen f k z i j).1 in
        let b : is_hidden m z.node ≡ true = ap (λ (u : model.InnerPlace). is_hidden m u.node) q ∙ (ap (is_hidden m) n ∙ h) in
        absurd (zero_is_not_one (cc))

-- A hidden node has other counts, and its copy port is still there: the copy port's mark moves with it, and no other does.
module _ {m : MultiPortGraph} {M : Model} (f : Fine m M) (x : model.InnerPlace) (h : Hangs m M x) {g' : PortGraph} {M' : Model} {i o : ℕ} {a b : NodeMeta}
    (r : Recount g' M M' h.copy a b i o) (valid-cp' : Valid M'.node (copy_place m h.copy)) where
  abbrev cp : model.InnerPlace
  cp = copy_place m h.copy

  valid_cp : Valid M.node cp
  valid_cp = copy_valid f h.copy h.is_copy

  -- a marked slot after: the copy port's, or one that was marked and is another node's
  marked_after : (s : ℕ) → (s ≡ slot_of M'.node cp → ⊥) → is_split (recounted m h.copy g') s ≡ true → (is_split m s ≡ true) × (s ≡ slot_of M.node cp → ⊥)
  marked_after s n t = go (marked_was f r s t)
    where
      go : WasMarked m M M' s → (is_split m s ≡ true) × (s ≡ slot_of M.node cp → ⊥)
      go w = ⊎_elim here other (cases_eq w.place.node h.copy)
        where
          here : w.place.node ≡ h.copy → (is_split m s ≡ true) × (s ≡ slot_of M.node cp → ⊥)
          here e = absurd (n (sym w.slot ∙ ap (slot_of M'.node) (marked_copy f h.copy h.is_copy w.place w.was e w.marked)))

          other : (w.place.node ≡ h.copy → ⊥) → (is_split m s ≡ true) × (s ≡ slot_of M.node cp → ⊥)
          other e =
              let q : slot_of M.node w.place ≡ s = sym (other_slot f r w.place e) ∙ w.slot in (
                ap (is_split m) (sym q) ∙ w.marked,
                λ z. e (ap (λ (u : model.InnerPlace). u.node) (slots_apart f.good w.place cp w.was valid_cp (q ∙ z))),
              )

  -- and every such slot is marked
  marked_still : (s : ℕ) → (s ≡ slot_of M.node cp → ⊥) → is_split m s ≡ true → is_split (recounted m h.copy g') s ≡ true
  marked_still s n t =
      let p = marked_place f s t in
      let y = p.0 in
      let q = p.2 in
      let u : is_split m (slot_of M.node y) ≡ true = ap (is_split m) q ∙ t in
      let e : y.node ≡ h.copy → ⊥ = λ e. n (sym q ∙ ap (slot_of M.node) (marked_copy f h.copy h.is_copy y p.1 e u)) in
      ap (is_split (recounted m h.copy g')) (sym (other_slot f r y e ∙ q)) ∙ (recount_marks f r y p.1 (let k = other_count f r y.node y.side e in let v = p.1 in omega arith) ∙ u)

  pub mark_moves : (recounted m h.copy g').multiport ≡ set (set m.multiport (slot_of M.node cp) false) (slot_of M'.node cp) true
  unfolding is_split
  mark_moves =
      ext_get_or false _ _
      (marks_long_lem f r ∙ sym (length-set (set m.multiport (slot_of M.node cp) false) (slot_of M'.node cp) true ∙ (length-set m.multiport (slot_of M.node cp) false ∙ f.marks_long)))
      (λ s l. ⊎_elim (new s) (λ n. ⊎_elim (old s n) (else s n) (cases_eq s (slot_of M.node cp))) (cases_eq s (slot_of M'.node cp)))
    where
      new : (s : ℕ) → s ≡ slot_of M'.node cp → get_or (recounted m h.copy g').multiport s false ≡ get_or (set (set m.multiport (slot_of M.node cp) false) (slot_of M'.node cp) true) s false
      new s e =
          rw e
          (recount_marks f r cp valid_cp valid-cp' ∙ (f.copy_marked h.copy h.is_copy
          ∙ sym (get_or-set_same (set m.multiport (slot_of M.node cp) false) (slot_of M'.node cp) true false (lt-length-set m.multiport (slot_of M.node cp) false (mark_below m f.marks_long r.good cp valid-cp')))))

      old : (s : ℕ) → (s ≡ slot_of M'.node cp → ⊥) → s ≡ slot_of M.node cp → get_or (recounted m h.copy g').multiport s false ≡ get_or (set (set m.multiport (slot_of M.node cp) false) (slot_of M'.node cp) true) s false
      old s n e =
          go (get_or (recounted m h.copy g').multiport s false) refl
          ∙ sym (get_or-set_other (set m.multiport (slot_of M.node cp) false) (slot_of M'.node cp) s true false n
          ∙ (ap (λ (k : ℕ). get_or (set m.multiport (slot_of M.node cp) false) k false) e ∙ get_or-set_same m.multiport (slot_of M.node cp) false false (mark_below m f.marks_long f.good cp valid_cp)))
        where
          go : (t : Bool) → get_or (recounted m h.copy g').multiport s false ≡ t → t ≡ false
          go true t = absurd ((marked_after s n t).1 e)
          go false t = refl

      else : (s : ℕ) → (s ≡ slot_of M'.node cp → ⊥) → (s ≡ slot_of M.node cp → ⊥) → get_or (recounted m h.copy g').multiport s false ≡ get_or (set (set m.multiport (slot_of M.node cp) false) (slot_of M'.node cp) true) s false
      else s n k =
          go (get_or (recounted m h.copy g').multiport s false) (get_or m.multiport s false) refl refl
          ∙ sym (get_or-set_other (set m.multiport (slot_of M.node cp) false) (slot_of M'.node cp) s true false n ∙ get_or-set_other m.multiport (slot_of M.node cp) s false false k)
        where
          go : (t u : Bool) → get_or (recounted m h.copy g').multiport s false ≡ t → get_or m.multiport s false ≡ u → t ≡ u
          go true true p q = refl
          go true false p q = let z = (marked_after s n p).0 in absurd (zero_is_not_one (cc))
          go false true p q = let z = marked_still s k q in absurd (zero_is_not_one (cc))
          go false false p q = refl

  -- the port itself stays where it is
  pub slot_x : Seen m M x → slot_of M'.node x ≡ slot_of M.node x
  slot_x s = other_slot f r x (λ e. let a = s.1 in let b = ap (is_hidden m) e in let c = h.is_copy in zero_is_not_one (cc))

-- One more subport.
module _ {m : MultiPortGraph} {M : Model} (f : Fine m M) (x : model.InnerPlace) (h : Hangs m M x) {g' : PortGraph} {M' : Model} {i o : ℕ} {a b : NodeMeta}
    (r : Recount g' M M' h.copy a b i o) (longer : ports_on b x.side ≡ ports_on a x.side + 1)
    (same : ports_on b (reversed x.side) ≡ ports_on a (reversed x.side)) where
  valid_after : Valid M'.node (copy_place m h.copy)
  valid_after = valid_kept f x h r longer same (copy_place m h.copy) (copy_valid f h.copy h.is_copy)

  pub grown_marks : (recounted m h.copy g').multiport ≡ set (set m.multiport (slot_of M.node (copy_place m h.copy)) false) (slot_of M'.node (copy_place m h.copy)) true
  grown_marks = mark_moves f x h r valid_after

  -- it hangs on the same node
  pub far_after : Seen m M x → far_in g'.port_link (slot_of M.node x) ≡ slot_of M'.node (copy_place m h.copy)
  unfolding recounted
  far_after s =
      ap (far_in g'.port_link) (sym (slot_x f x h r valid_after s)) ∙ far_is (grown_fine f x h r longer same) x (copy_place m h.copy) (joins_same f x h r longer same x ∙ h.back)

  -- the copy port stands beside it
  pub new_beside : Seen m M x → port_of g' h.copy x.side (ports_on a x.side) ≡ last_beside x.side (far_in g'.port_link (slot_of M.node x)) (ports_on a x.side)
  new_beside s =
      sym (fresh_slot f x h r longer same) ∙ (go x.side (copy_side m h.copy) h.side longer same one ∙ ap (λ (q : ℕ). last_beside x.side q (ports_on a x.side)) (sym (far_after s)))
    where
      one : ports_on a (copy_side m h.copy) ≡ 1
      one = ap (λ (v : Slots). count_of v (copy_side m h.copy)) (sym r.here) ∙ copy_count f h.copy h.is_copy

      go : (d e : Direction) → d ≡ reversed e → ports_on b d ≡ ports_on a d + 1 → ports_on b (reversed d) ≡ ports_on a (reversed d) → ports_on a e ≡ 1 →
          slot_of M'.node (inner# h.copy d (ports_on a d)) ≡ last_beside d (slot_of M'.node (inner# h.copy e 0)) (ports_on a d)
      go Incoming Outgoing q l k u = rw r.there (omega arith)
      go Outgoing Incoming q l k u = rw r.there (omega arith)
      go Incoming Incoming q l k u = absurd (zero_is_not_one (cc))
      go Outgoing Outgoing q l k u = absurd (zero_is_not_one (cc))

-- By numbers: port p of side d, whose hidden node c has n subports; g is the lower graph after.
pub record GrowTables (m : MultiPortGraph) (p : ℕ) (d : Direction) (c n : ℕ) (g : PortGraph) : Type 0 where
  pub marks : (recounted m c g).multiport ≡ set (set m.multiport (far_in m.graph.port_link p) false) (far_in g.port_link p) true
  pub beside : port_of g c d n ≡ last_beside d (far_in g.port_link p) n
  pub low : far_in g.port_link p < port_slots

grow_here : {m : MultiPortGraph} {M : Model} (f : Fine m M) (x : model.InnerPlace) (s : Seen m M x) (h : Hangs m M x) (e : ℕ) → (growth# m h.copy x.side).answer ≡ Ok e →
    GrowTables m (slot_of M.node x) x.side h.copy (num_ports m.graph h.copy x.side) (growth# m h.copy x.side).graph
grow_here {m} {M} f x s h e t =
    let z = set_recounts f.good f.holds h.copy _ _ enough e t in
    let r = z.is in
    let a = z.old in
    let counts : ((d : Direction) → num_ports m.graph h.copy d ≡ ports_on a d) = λ d. count_of_lem f h.copy d ∙ ap (λ (v : Slots). count_of v d) r.here in
    let l = more_longer a z.new m.graph h.copy x.side counts r.ins r.outs in
    let g : PortGraph = (growth# m h.copy x.side).graph in
    let n = counts x.side in
    let before : far_in m.graph.port_link (slot_of M.node x) ≡ slot_of M.node (copy_place m h.copy) = far_is f x (copy_place m h.copy) h.back in
    let after = far_after f x h r l.0 l.1 s in
    record {
      marks = grown_marks f x h r l.0 l.1 ∙ (λ i. set (set m.multiport (sym before i) false) (sym after i) true);
      beside =
          ap (port_of g h.copy x.side) n
          ∙ (new_beside f x h r l.0 l.1 s ∙ ap (last_beside x.side (far_in g.port_link (slot_of M.node x))) (sym n));
      low = let q = slot_in_range r.good (copy_place m h.copy) (valid_after f x h r l.0 l.1) in omega arith;
    }

-- the new subport, by the copy port
pub by_copy : {m : MultiPortGraph} {p : ℕ} {d : Direction} {c n : ℕ} {g : PortGraph} → GrowTables m p d c n g → {far q : ℕ} → far ≡ far_in g.port_link p → q ≡ last_beside d far n → q ≡ port_of g c d n
by_copy {d = d} {n = n} t e k = k ∙ (ap (λ (v : ℕ). last_beside d v n) e ∙ sym t.beside)

pub grow_tables : {m : MultiPortGraph} {p : ℕ} {d : Direction} (b : SplitPort m p d) (e : ℕ) → (growth# m (copy_node m p) d).answer ≡ Ok e →
    GrowTables m p d (copy_node m p) (num_ports m.graph (copy_node m p) d) (growth# m (copy_node m p) d).graph
grow_tables {m} {p} {d} b e t =
    let f = b.block.wf.fine in
    let q = block_seen f p b.block.node d b.block.is in
    let h = split_has_copy f q.place q.is_seen (ap (is_split m) q.slot ∙ b.split) in
    let c : h.copy ≡ copy_node m p = sym h.copy_is ∙ ap (copy_node m) q.slot in
    transport (λ i. GrowTables m (q.slot i) (q.side i) (c i) (num_ports m.graph (c i) (q.side i)) (growth# m (c i) (q.side i)).graph)
    (grow_here f q.place q.is_seen h e (ap (λ (r : PortsSet). r.answer) (λ i. growth# m (c i) (q.side i)) ∙ t))

-- the counts that the code passes
pub grown_counts : {m : MultiPortGraph} {p : ℕ} {d : Direction} → SplitPort m p d → (n : ℕ) → n ≡ num_ports m.graph (copy_node m p) d →
    (grown_incoming d n ≡ more_incoming m.graph (copy_node m p) d) × (grown_outgoing d n ≡ more_outgoing m.graph (copy_node m p) d)
grown_counts {m} {p} {d} b n e =
    let f = b.block.wf.fine in
    let q = block_seen f p b.block.node d b.block.is in
    let h = split_has_copy f q.place q.is_seen (ap (is_split m) q.slot ∙ b.split) in
    let c : h.copy ≡ copy_node m p = sym h.copy_is ∙ ap (copy_node m) q.slot in
    let side : d ≡ reversed (copy_side m (copy_node m p)) = sym q.side ∙ (h.side ∙ ap (λ (k : ℕ). reversed (copy_side m k)) c) in
    let one : num_ports m.graph (copy_node m p) (copy_side m (copy_node m p)) ≡ 1 =
    count_of_lem f (copy_node m p) (copy_side m (copy_node m p)) ∙ copy_count f (copy_node m p) (ap (is_hidden m) (sym c) ∙ h.is_copy) in
    go d (copy_side m (copy_node m p)) side e one
  where
    go : (d s : Direction) → d ≡ reversed s → n ≡ num_ports m.graph (copy_node m p) d → num_ports m.graph (copy_node m p) s ≡ 1 →
        (grown_incoming d n ≡ more_incoming m.graph (copy_node m p) d) × (grown_outgoing d n ≡ more_outgoing m.graph (copy_node m p) d)
    go Incoming Outgoing k e one = (ap (λ (z : ℕ). z + 1) e, sym one)
    go Outgoing Incoming k e one = (sym one, ap (λ (z : ℕ). z + 1) e)
    go Incoming Incoming k e one = absurd (zero_is_not_one (cc))
    go Outgoing Outgoing k e one = absurd (zero_is_not_one (cc))
