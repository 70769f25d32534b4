-- The counts of a graph of the calls: blocks, ports of blocks and wires, as many as are listed. And what never happens: a split
-- port without its one hidden node, a hidden node without its one split port, a wire at a hidden node.
use Rattle.std.proofs.lemmas.List.{length-map}
use Rattle.std.specs.Prelude.{◌≡◌, Bool, ◌⊎◌}
use Rattle.std.proofs.Math.Path.{refl, ap, subst}
use Rattle.std.proofs.Common.{sym, ◌∙◌}
use Rattle.std.proofs.Math.Bool.{true, false, cond}
use mathlib.Core.List.{List, [], ◌∷◌, ◌++◌, flat_map, map}
use Rattle.std.proofs.Math.Logic.{inl, inr, ⊎_elim}
use Prim.Native.Nat.{ℕ, zero, suc, ◌+◌, ◌-◌, ◌≤◌, ◌<◌}
use native.Mathlib.Omega.{arith}
use Rattle.std.proofs.Math.ListN.{length, length-append}
use Rattle.port_tables.specs.Limits.{node_slots}
use Rattle.port_tables.specs.Lists.{range, Member, Rising}
use Rattle.std.specs.List.{filter}
use Rattle.port_tables.specs.Entries.{reversed, ports_on}
use Rattle.portgraph.specs.Lookups.{num_ports, contains_node, is_some}
use Rattle.portgraph.specs.Model as model
use Rattle.portgraph.specs.Model.{Model, Far, nowhere, to, Slots, gone, live, Good, slot_of, count_of, total, is_live, ports_of, is_linked, out_place, links_out}
use Rattle.portgraph.specs.Sums.{total_same}
use Rattle.portgraph.specs.GoodSlots.{zero_is_not_one, same_place_lem, node_below}
use Rattle.portgraph.specs.PlaceLaws.{meta_of_node, gone_has_no_meta}
use Rattle.port_tables.specs.declared.direction.Direction.{Direction}
use Rattle.port_tables.specs.declared.direction.Direction.TheVariants.{Incoming, Outgoing}
use Rattle.port_tables.specs.declared.node_entry.NodeMeta.{NodeMeta}
use Rattle.multiportgraph.specs.Reading.{port_of, is_hidden, is_split, copy_side}
use Rattle.multiportgraph.specs.Calls.{visible_nodes, visible_ports, visible_links}
use Rattle.multiportgraph.specs.Wires.{is_block, blocks, ports_of_side, all_wires, wire_places}
use Rattle.multiportgraph.specs.Walks.{ports_by_block}
use Rattle.multiportgraph.specs.WellFormed.{copy_place, Fine, Seen, outer, IsEnd, WireIn, subports_of_slot}
use Rattle.multiportgraph.specs.Ends.{split_has_copy, one_copy, unsplit_no_copy, copy_or_end, outer_seen, outer_apart, ends_join_ends, main_seen, main_side, main_back, count_of_lem, wires_by_out}
use Rattle.port_tables.specs.Listing.{Apart, once_apart, member_left, member_right, member_append, member_filter, filter_member, member_flat_map, flat_map_member, member_map, map_member, range_member, filter_all, rising_append, rising_filter, rising_flat_map, rising_map, range_rises, length_range, partners}
use Rattle.multiportgraph.specs.WalkRule.{listed_is_wire, wire_is_listed, listed_once}
use Rattle.multiportgraph.specs.declared.multiportgraph.MultiPortGraph.{MultiPortGraph}
use Rattle.port_tables.specs.Places.{Place, Wire, flag}
use Rattle.multiportgraph.specs.ScanLaws.{flat_map_single}

-- Sums and lengths.

-- a sum, the first number first
pub total_first : (n : ℕ) (f : ℕ → ℕ) → total (suc n) f ≡ f 0 + total n (λ i. f (suc i))
unfolding total
total_first zero f = omega arith
total_first (suc n) f = let r = total_first n f in omega arith

pub total_add : (n : ℕ) (f g : ℕ → ℕ) → total n (λ i. f i + g i) ≡ total n f + total n g
unfolding total
total_add zero f g = refl
total_add (suc n) f g = let r = total_add n f g in omega arith

-- the length of lists gathered over those numbers for which a test holds
gathered_from : {A : Type 0} (g : ℕ → List A) (t : ℕ → Bool) (i n : ℕ) →
    length (flat_map g (filter t (range i n))) ≡ total n (λ j. cond (t (i + j)) (length (g (i + j))) 0)
unfolding flat_map range total
gathered_from g t i zero = refl
gathered_from {A} g t i (suc n) = go (t i) refl (gathered_from g t (suc i) n) ∙ sym (total_first n (λ j. at (i + j)) ∙ shifted)
  where
    at : ℕ → ℕ
    at k = cond (t k) (length (g k)) 0

    shifted : at (i + 0) + total n (λ j. at (i + suc j)) ≡ at i + total n (λ j. at (suc i + j))
    shifted =
        let a : at (i + 0) ≡ at i = ap at (omega arith) in
        let b = total_same n (λ j. at (i + suc j)) (λ j. at (suc i + j)) (λ j l. ap at (omega arith)) in
        omega arith

    go : (b : Bool) → t i ≡ b → length (flat_map g (filter t (range (suc i) n))) ≡ total n (λ j. at (suc i + j)) →
        length (flat_map g (cond b (i ∷ filter t (range (suc i) n)) (filter t (range (suc i) n)))) ≡ cond b (length (g i)) 0 + total n (λ j. at (suc i + j))
    go true e r = length-append (g i) (flat_map g (filter t (range (suc i) n))) ∙ ap (λ (k : ℕ). length (g i) + k) r
    go false e r = omega arith

pub gathered : {A : Type 0} (g : ℕ → List A) (t : ℕ → Bool) (n : ℕ) → length (flat_map g (filter t (range 0 n))) ≡ total n (λ j. cond (t j) (length (g j)) 0)
gathered g t n = gathered_from g t 0 n ∙ total_same n (λ j. at (0 + j)) at (λ j l. ap at (omega arith))
  where
    at : ℕ → ℕ
    at k = cond (t k) (length (g k)) 0

-- how many numbers below n there are for which a test holds
pub counted : (t : ℕ → Bool) (n : ℕ) → length (filter t (range 0 n)) ≡ total n (λ j. flag (t j))
counted t n = ap length (sym (flat_map_single (filter t (range 0 n)))) ∙ (gathered (λ x. x ∷ []) t n ∙ total_same n (λ j. cond (t j) 1 0) (λ j. flag (t j)) (λ j l. go (t j)))
  where
    go : (b : Bool) → cond b 1 0 ≡ flag b
    go true = refl
    go false = refl

-- Linked outgoing places.

abbrev joined : Far → Bool
joined nowhere = false
joined (to y) = true

joined_to : (v : Far) → joined v ≡ true → (y : model.InnerPlace) × (v ≡ to y)
joined_to nowhere e = absurd (zero_is_not_one (cc))
joined_to (to y) e = (y, refl)

linked_at : Model → ℕ → List ℕ
linked_at M n = filter (λ i. joined (M.join (out_place n i))) (range 0 (count_of (M.node n) Outgoing))

linked_places : Model → List model.InnerPlace
linked_places M = flat_map (λ n. map (out_place n) (linked_at M n)) (range 0 node_slots)

module _ (M : Model) where
  length_linked : length (linked_places M) ≡ total node_slots (links_out M.node M.join)
  unfolding linked_places linked_at
  length_linked =
      ap (λ (l : List ℕ). length (flat_map at l)) (sym (filter_all (λ n. true) (range 0 node_slots) (λ n i. refl)))
      ∙ (gathered at (λ n. true) node_slots
      ∙ total_same node_slots (λ n. length (at n)) (links_out M.node M.join) (λ n l. here n))
    where
      at : ℕ → List model.InnerPlace
      at n = map (out_place n) (linked_at M n)

      one : (v : Far) → flag (joined v) ≡ is_linked v
      one nowhere = refl
      one (to y) = refl

      here : (n : ℕ) → length (at n) ≡ links_out M.node M.join n
      here n =
          length-map (linked_at M n) (out_place n)
          ∙ (counted (λ i. joined (M.join (out_place n i))) (count_of (M.node n) Outgoing)
          ∙ total_same (count_of (M.node n) Outgoing) (λ i. flag (joined (M.join (out_place n i)))) (λ i. is_linked (M.join (out_place n i))) (λ i l. one (M.join (out_place n i))))

  linked_apart : Rising Apart (linked_places M)
  unfolding linked_places linked_at
  linked_apart =
      rising_flat_map ◌<◌ Apart (λ n. map (out_place n) (linked_at M n)) (range 0 node_slots) (range_rises 0 node_slots)
      (λ n i. rising_map ◌<◌ Apart (out_place n) (linked_at M n) (rising_filter ◌<◌ (λ i. joined (M.join (out_place n i))) (range 0 (count_of (M.node n) Outgoing)) (range_rises 0 (count_of (M.node n) Outgoing)))
      (λ a c i j l e. let q : a ≡ c = ap (λ (x : model.InnerPlace). x.pos) e in omega arith))
      (λ n k x y i j l a b e.
      let g = member_map (out_place n) x (linked_at M n) a in
      let h = member_map (out_place k) y (linked_at M k) b in
      let q : n ≡ k = ap (λ (z : model.InnerPlace). z.node) (sym g.2 ∙ (e ∙ h.2)) in
      omega arith)

  linked_is : (x : model.InnerPlace) → Member x (linked_places M) → (y : model.InnerPlace) × (M.join x ≡ to y) × (x.side ≡ Outgoing)
  unfolding linked_places linked_at
  linked_is x i =
      let g = member_flat_map (λ n. map (out_place n) (linked_at M n)) x (range 0 node_slots) i in
      let h = member_map (out_place g.0) x (linked_at M g.0) g.2 in
      let t = member_filter (λ i. joined (M.join (out_place g.0 i))) h.0 (range 0 (count_of (M.node g.0) Outgoing)) h.1 in
      let r = joined_to (M.join (out_place g.0 h.0)) t.1 in
      (r.0, ap M.join h.2 ∙ r.1, ap (λ (z : model.InnerPlace). z.side) h.2)

  is_linked_lem : Good M → (x y : model.InnerPlace) → M.join x ≡ to y → x.side ≡ Outgoing → Member x (linked_places M)
  unfolding linked_places linked_at
  is_linked_lem good x y j s =
      let e : x ≡ out_place x.node x.pos = same_place_lem x (out_place x.node x.pos) refl s refl in
      let v : x.pos < count_of (M.node x.node) Outgoing = subst (λ (d : Direction). x.pos < count_of (M.node x.node) d) s (good.join_valid x y j) in
      subst (λ (z : model.InnerPlace). Member z (linked_places M)) (sym e)
      (flat_map_member (λ n. map (out_place n) (linked_at M n)) (out_place x.node x.pos) x.node (range 0 node_slots)
      (range_member x.node 0 node_slots (omega arith) (used (M.node x.node) refl v))
      (map_member (out_place x.node) x.pos (linked_at M x.node)
      (filter_member (λ i. joined (M.join (out_place x.node i))) x.pos (range 0 (count_of (M.node x.node) Outgoing))
      (range_member x.pos 0 (count_of (M.node x.node) Outgoing) (omega arith) (omega arith))
      (ap joined (ap M.join (sym e) ∙ j)))))
    where
      used : (v : Slots) → M.node x.node ≡ v → x.pos < count_of v Outgoing → x.node < 0 + node_slots
      used gone e l = absurd (omega arith)
      used (live k) e l = omega (arith, node_below good x.node k e)

side_within : (k : NodeMeta) (d : Direction) → ports_on k d ≤ k.incoming + k.outgoing
side_within k Incoming = omega arith
side_within k Outgoing = omega arith

-- What a linked outgoing place counts for: the wire that starts there, or the hidden node whose link it is an end of.
abbrev CountsFor : MultiPortGraph → Model → model.InnerPlace → Wire ⊎ ℕ → Type 0
CountsFor m M x (inl w) = IsEnd m M x × WireIn m M w × (w.out ≡ outer m M x)
CountsFor m M x (inr c) = (is_hidden m c ≡ true) × (x.side ≡ Outgoing) × ((x ≡ copy_place m c) ⊎ (M.join (copy_place m c) ≡ to x))

-- the wires, then the hidden nodes
wires_and_copies : MultiPortGraph → List (Wire ⊎ ℕ)
wires_and_copies m = map inl (map (wire_places m) (all_wires m)) ++ map inr (filter (is_hidden m) (range 0 node_slots))

module _ {m : MultiPortGraph} {M : Model} (f : Fine m M) where
  -- a live node is a block or hidden
  live_parts : (n : ℕ) → is_live (M.node n) ≡ flag (is_block m n) + flag (is_hidden m n)
  unfolding is_block
  live_parts n = go (is_hidden m n) (M.node n) refl refl
    where
      go : (b : Bool) (v : Slots) → is_hidden m n ≡ b → M.node n ≡ v → is_live v ≡ flag (cond b false (contains_node m.graph n)) + flag b
      go true v h e = let k = (f.copy n h).here in rw (sym e ∙ k) refl
      go false gone h e = rw (ap is_some (gone_has_no_meta f.good f.holds n e)) refl
      go false (live k) h e = rw (ap is_some (meta_of_node f.good f.holds n k e)) refl

  -- the number of visible nodes is that of the blocks listed
  pub visible_nodes_lem : visible_nodes m ≡ length (blocks m)
  unfolding visible_nodes blocks
  visible_nodes_lem =
      let a = f.holds.node_count in
      let b = f.copies in
      let c = total_same node_slots (λ n. is_live (M.node n)) (λ n. flag (is_block m n) + flag (is_hidden m n)) (λ n l. live_parts n) in
      let d = total_add node_slots (λ n. flag (is_block m n)) (λ n. flag (is_hidden m n)) in
      let e = counted (is_block m) node_slots in
      omega arith

  length_ports : (n : ℕ) (d : Direction) → length (ports_of_side m d n) ≡ count_of (M.node n) d
  unfolding ports_of_side
  length_ports n d = length-map (range 0 (num_ports m.graph n d)) (port_of m.graph n d) ∙ (length_range 0 (num_ports m.graph n d) ∙ count_of_lem f n d)

  length_both : (n : ℕ) → length (ports_of_side m Incoming n ++ ports_of_side m Outgoing n) ≡ ports_of (M.node n)
  length_both n =
      let a = length_ports n Incoming in
      let b = length_ports n Outgoing in
      length-append (ports_of_side m Incoming n) (ports_of_side m Outgoing n) ∙ go (M.node n) a b
    where
      go : (v : Slots) → length (ports_of_side m Incoming n) ≡ count_of v Incoming → length (ports_of_side m Outgoing n) ≡ count_of v Outgoing →
          length (ports_of_side m Incoming n) + length (ports_of_side m Outgoing n) ≡ ports_of v
      go gone a b = omega arith
      go (live k) a b = omega arith

  -- a hidden node has its subports and one more
  port_parts : (n : ℕ) → ports_of (M.node n) ≡ (cond (is_block m n) (ports_of (M.node n)) 0 + subports_of_slot m M n) + flag (is_hidden m n)
  unfolding is_block
  port_parts n = go (is_hidden m n) (M.node n) refl refl
    where
      go : (b : Bool) (v : Slots) → is_hidden m n ≡ b → M.node n ≡ v →
          ports_of v ≡ (cond (cond b false (contains_node m.graph n)) (ports_of v) 0 + cond b (ports_of v - 1) 0) + flag b
      go true v h e =
          let k = f.copy n h in
          let p : ports_of v ≡ k.meta.incoming + k.meta.outgoing = ap ports_of (sym e ∙ k.here) in
          let q = side_within k.meta (copy_side m n) in
          let r = k.single in
          omega arith
      go false gone h e = rw (ap is_some (gone_has_no_meta f.good f.holds n e)) refl
      go false (live k) h e = rw (ap is_some (meta_of_node f.good f.holds n k e)) (omega arith)

  -- the number of visible ports is that of the blocks' ports listed
  pub visible_ports_lem : visible_ports m ≡ length (ports_by_block m)
  unfolding visible_ports ports_by_block blocks
  visible_ports_lem =
      let a = f.holds.port_count in
      let b = f.copies in
      let s = f.subs in
      let c = total_same node_slots (λ n. ports_of (M.node n)) (λ n. (cond (is_block m n) (ports_of (M.node n)) 0 + subports_of_slot m M n) + flag (is_hidden m n)) (λ n l. port_parts n) in
      let d = total_add node_slots (λ n. cond (is_block m n) (ports_of (M.node n)) 0 + subports_of_slot m M n) (λ n. flag (is_hidden m n)) in
      let e = total_add node_slots (λ n. cond (is_block m n) (ports_of (M.node n)) 0) (subports_of_slot m M) in
      let g = gathered (λ n. ports_of_side m Incoming n ++ ports_of_side m Outgoing n) (is_block m) node_slots in
      let h = total_same node_slots (λ n. cond (is_block m n) (length (ports_of_side m Incoming n ++ ports_of_side m Outgoing n)) 0) (λ n. cond (is_block m n) (ports_of (M.node n)) 0)
      (λ n l. ap (λ (k : ℕ). cond (is_block m n) k 0) (length_both n)) in
      omega arith

  -- What never happens.

  -- a split port of a block has exactly one hidden node hanging on it
  pub split_one_copy : (x : model.InnerPlace) → Seen m M x → is_split m (slot_of M.node x) ≡ true →
      (c : ℕ) × (is_hidden m c ≡ true) × (M.join (copy_place m c) ≡ to x) × ((e : ℕ) → is_hidden m e ≡ true → M.join (copy_place m e) ≡ to x → e ≡ c)
  split_one_copy x s t =
      let k = split_has_copy f x s t in
      (k.copy, k.is_copy, k.from, (λ e h j. one_copy f e k.copy x j k.from))

  -- a hidden node hangs on exactly one split port, which is a block's
  pub copy_one_split : (c : ℕ) → is_hidden m c ≡ true →
      (x : model.InnerPlace) × (M.join (copy_place m c) ≡ to x) × Seen m M x × (is_split m (slot_of M.node x) ≡ true) × ((y : model.InnerPlace) → M.join (copy_place m c) ≡ to y → y ≡ x)
  copy_one_split c h =
      let k = f.copy c h in
      let j = k.joined in
      (k.main, j, main_seen f c k.main h j, f.main_marked c k.main h j, (λ y i. cc))

  -- neither end of a wire is at a hidden node
  pub no_wire_at_hidden : (w : Wire) → WireIn m M w → (is_hidden m w.out.node ≡ false) × (is_hidden m w.into.node ≡ false)
  no_wire_at_hidden w a = (
    ap (λ (v : Wire). is_hidden m v.out.node) a.is ∙ not_hidden a.x a.end,
    ap (λ (v : Wire). is_hidden m v.into.node) a.is ∙ not_hidden a.y (ends_join_ends f a.x a.y a.end a.joined),
  )
    where
      not_hidden : (z : model.InnerPlace) → IsEnd m M z → is_hidden m (outer m M z).node ≡ false
      not_hidden z e = let r = outer_seen f z e in ap (λ (p : Place). is_hidden m p.node) r.is ∙ r.is_seen.1

  -- Wires.

  -- one of the two ends of a hidden node's link is outgoing, and only one
  one_outgoing : (c : ℕ) (x : model.InnerPlace) → M.join (copy_place m c) ≡ to x → x.side ≡ Outgoing → copy_side m c ≡ Outgoing → ⊥
  one_outgoing c x j s t = f.good.join_sides (copy_place m c) x j (t ∙ sym s)

  copy_counts_once : (c : ℕ) (x z : model.InnerPlace) → CountsFor m M x (inr c) → CountsFor m M z (inr c) → x ≡ z
  copy_counts_once c x z a b = go a.2 b.2
    where
      go : (x ≡ copy_place m c) ⊎ (M.join (copy_place m c) ≡ to x) → (z ≡ copy_place m c) ⊎ (M.join (copy_place m c) ≡ to z) → x ≡ z
      go (inl p) (inl q) = cc
      go (inl p) (inr q) = absurd (one_outgoing c z q b.1 (ap (λ (y : model.InnerPlace). y.side) (sym p) ∙ a.1))
      go (inr p) (inl q) = absurd (one_outgoing c x p a.1 (ap (λ (y : model.InnerPlace). y.side) (sym q) ∙ b.1))
      go (inr p) (inr q) = cc

  counts_once : (x z : model.InnerPlace) (y : Wire ⊎ ℕ) → CountsFor m M x y → CountsFor m M z y → x ≡ z
  counts_once x z (inl w) a b = outer_apart f x z a.0 b.0 (sym a.2 ∙ b.2)
  counts_once x z (inr c) a b = copy_counts_once c x z a b

  not_both : (x : model.InnerPlace) (c : ℕ) → IsEnd m M x → CountsFor m M x (inr c) → ⊥
  not_both x c e a = go a.2
    where
      go : (x ≡ copy_place m c) ⊎ (M.join (copy_place m c) ≡ to x) → ⊥
      go (inl p) =
          let n : x.node ≡ c = ap (λ (y : model.InnerPlace). y.node) p in
          e.subport (ap (is_hidden m) n ∙ a.0) (ap (λ (y : model.InnerPlace). y.side) p ∙ ap (copy_side m) (sym n))
      go (inr j) = unsplit_no_copy f x (e.unsplit (main_seen f c x a.0 j).1) c a.0 j

  one_of_copies : (x : model.InnerPlace) (c e : ℕ) → CountsFor m M x (inr c) → CountsFor m M x (inr e) → c ≡ e
  one_of_copies x c e a b = go a.2 b.2
    where
      mixed : (c e : ℕ) → is_hidden m c ≡ true → is_hidden m e ≡ true → x ≡ copy_place m c → M.join (copy_place m e) ≡ to x → ⊥
      mixed c e h k p j =
          let n : x.node ≡ c = ap (λ (y : model.InnerPlace). y.node) p in
          let s = (main_seen f e x k j).1 in
          let t : is_hidden m x.node ≡ is_hidden m c = ap (is_hidden m) n in
          zero_is_not_one (cc)

      go : (x ≡ copy_place m c) ⊎ (M.join (copy_place m c) ≡ to x) → (x ≡ copy_place m e) ⊎ (M.join (copy_place m e) ≡ to x) → c ≡ e
      go (inl p) (inl q) = ap (λ (y : model.InnerPlace). y.node) (sym p ∙ q)
      go (inl p) (inr j) = absurd (mixed c e a.0 b.0 p j)
      go (inr i) (inl q) = absurd (mixed e c b.0 a.0 q i)
      go (inr i) (inr j) = one_copy f c e x i j

  counts_for_one : (y z : Wire ⊎ ℕ) (x : model.InnerPlace) → CountsFor m M x y → CountsFor m M x z → y ≡ z
  counts_for_one (inl w) (inl v) x a b = ap inl (wires_by_out f w v a.1 b.1 (a.2 ∙ sym b.2))
  counts_for_one (inl w) (inr c) x a b = absurd (not_both x c a.0 b)
  counts_for_one (inr c) (inl w) x a b = absurd (not_both x c b.0 a)
  counts_for_one (inr c) (inr e) x a b = ap inr (one_of_copies x c e a b)

  wire_counted : (w : Wire) → WireIn m M w → Member {A = Wire ⊎ ℕ} (inl w) (wires_and_copies m)
  unfolding wires_and_copies
  wire_counted w a =
      member_left (inl w) (map inl (map (wire_places m) (all_wires m))) (map inr (filter (is_hidden m) (range 0 node_slots)))
      (map_member inl w (map (wire_places m) (all_wires m)) (wire_is_listed f w a))

  copy_counted : (c : ℕ) → is_hidden m c ≡ true → Member {A = Wire ⊎ ℕ} (inr c) (wires_and_copies m)
  unfolding wires_and_copies
  copy_counted c h =
      let k = f.copy c h in
      let a = node_below f.good c k.meta k.here in
      member_right (inr c) (map inl (map (wire_places m) (all_wires m))) (map inr (filter (is_hidden m) (range 0 node_slots)))
      (map_member inr c (filter (is_hidden m) (range 0 node_slots)) (filter_member (is_hidden m) c (range 0 node_slots) (range_member c 0 node_slots (omega arith) (omega arith)) h))

  linked_counts : (x : model.InnerPlace) → Member x (linked_places M) → (y : Wire ⊎ ℕ) × Member y (wires_and_copies m) × CountsFor m M x y
  linked_counts x i = go (linked_is M x i)
    where
      go : (y : model.InnerPlace) × (M.join x ≡ to y) × (x.side ≡ Outgoing) → (y : Wire ⊎ ℕ) × Member y (wires_and_copies m) × CountsFor m M x y
      go r = ⊎_elim end (⊎_elim copied split) (copy_or_end f x (f.good.join_valid x r.0 r.1))
        where
          end : IsEnd m M x → (y : Wire ⊎ ℕ) × Member y (wires_and_copies m) × CountsFor m M x y
          end e =
              let w : Wire = record { out = outer m M x; into = outer m M r.0 } in
              let a : WireIn m M w = record { x = x; y = r.0; joined = r.1; outgoing = r.2; end = e; is = refl } in
              (inl w, wire_counted w a, (e, a, refl))

          copied : (is_hidden m x.node ≡ true) × (x ≡ copy_place m x.node) → (y : Wire ⊎ ℕ) × Member y (wires_and_copies m) × CountsFor m M x y
          copied h = (inr x.node, copy_counted x.node h.0, (h.0, r.2, inl h.1))

          split : (is_hidden m x.node ≡ false) × (is_split m (slot_of M.node x) ≡ true) → (y : Wire ⊎ ℕ) × Member y (wires_and_copies m) × CountsFor m M x y
          split h =
              let k = split_has_copy f x (f.good.join_valid x r.0 r.1, h.0) h.1 in
              (inr k.copy, copy_counted k.copy k.is_copy, (k.is_copy, r.2, inr k.from))

  counted_linked : (y : Wire ⊎ ℕ) → Member y (wires_and_copies m) → (x : model.InnerPlace) × Member x (linked_places M) × CountsFor m M x y
  unfolding wires_and_copies
  counted_linked y i =
      ⊎_elim (λ h. let r = member_map inl y (map (wire_places m) (all_wires m)) h in wire y r.0 r.2 (listed_is_wire f r.0 r.1))
      (λ h. let r = member_map inr y (filter (is_hidden m) (range 0 node_slots)) h in copied y r.0 r.2 (member_filter (is_hidden m) r.0 (range 0 node_slots) r.1).1)
      (member_append y (map inl (map (wire_places m) (all_wires m))) (map inr (filter (is_hidden m) (range 0 node_slots))) i)
    where
      wire : (y : Wire ⊎ ℕ) (w : Wire) → y ≡ inl w → WireIn m M w → (x : model.InnerPlace) × Member x (linked_places M) × CountsFor m M x y
      wire y w e a =
          (a.x, is_linked_lem M f.good a.x a.y a.joined a.outgoing, subst (CountsFor m M a.x) (sym e) (a.end, a, ap (λ (v : Wire). v.out) a.is))

      copied : (y : Wire ⊎ ℕ) (c : ℕ) → y ≡ inr c → is_hidden m c ≡ true → (x : model.InnerPlace) × Member x (linked_places M) × CountsFor m M x y
      copied y c e h = go (copy_side m c) refl
        where
          go : (d : Direction) → copy_side m c ≡ d → (x : model.InnerPlace) × Member x (linked_places M) × CountsFor m M x y
          go Outgoing s =
              let k = f.copy c h in
              (copy_place m c, is_linked_lem M f.good (copy_place m c) k.main k.joined s, subst (CountsFor m M (copy_place m c)) (sym e) (h, s, inl refl))
          go Incoming s =
              let k = f.copy c h in
              let t : k.main.side ≡ Outgoing = main_side f c k.main k.joined ∙ ap reversed s in
              (k.main, is_linked_lem M f.good k.main (copy_place m c) (main_back f c k.main k.joined) t, subst (CountsFor m M k.main) (sym e) (h, t, inr k.joined))

  counted_apart : Rising Apart (wires_and_copies m)
  unfolding wires_and_copies
  counted_apart =
      rising_append Apart (map inl (map (wire_places m) (all_wires m))) (map inr (filter (is_hidden m) (range 0 node_slots)))
      (rising_map Apart Apart inl (map (wire_places m) (all_wires m)) (once_apart (map (wire_places m) (all_wires m)) (listed_once f)) (λ a c i j l e. l (cc)))
      (rising_map ◌<◌ Apart inr (filter (is_hidden m) (range 0 node_slots)) (rising_filter ◌<◌ (is_hidden m) (range 0 node_slots) (range_rises 0 node_slots)) (λ a c i j l e. let q : a ≡ c = cc in omega arith))
      (λ x y i j e.
      let g = (member_map inl x (map (wire_places m) (all_wires m)) i).2 in
      let h = (member_map inr y (filter (is_hidden m) (range 0 node_slots)) j).2 in
      zero_is_not_one (cc))

  -- every link is a wire, or the link of one hidden node
  links_counted : length (linked_places M) ≡ length (all_wires m) + length (filter (is_hidden m) (range 0 node_slots))
  unfolding wires_and_copies
  links_counted =
      let a = partners (CountsFor m M) counts_once (linked_places M) (wires_and_copies m) (linked_apart M) linked_counts in
      let b = partners (λ y x. CountsFor m M x y) (λ y z x. counts_for_one y z x) (wires_and_copies m) (linked_places M) counted_apart counted_linked in
      let c = length-append (map {B = Wire ⊎ ℕ} inl (map (wire_places m) (all_wires m))) (map inr (filter (is_hidden m) (range 0 node_slots))) in
      let d = length-map {B = Wire ⊎ ℕ} (map (wire_places m) (all_wires m)) inl in
      let e = length-map (all_wires m) (wire_places m) in
      let g = length-map {B = Wire ⊎ ℕ} (filter (is_hidden m) (range 0 node_slots)) inr in
      omega arith

  -- the number of visible links is that of the wires listed
  pub visible_links_lem : visible_links m ≡ length (all_wires m)
  unfolding visible_links
  visible_links_lem =
      let a = f.holds.link_count in
      let b = f.copies in
      let c = length_linked M in
      let d = links_counted in
      let e = counted (is_hidden m) node_slots in
      omega arith
