-- The cursor over all wires that holds a port and offset, on whatever the graph is by then: a step gives the first item of the present
-- listing beyond them, counted from that port's present block. Either the item lies in that block, at a later port or at a later offset of
-- that port, or in a later block; where there is none the step ends the walk. Also where the port held is an incoming one.
use Rattle.std.specs.Prelude.{◌≡◌, Bool, ◌⊎◌, ◌↔◌, ltb, length, Some, None}
use Rattle.std.proofs.Math.Path.{refl, sym, ap}
use Rattle.std.proofs.Common.{◌∙◌, subst, arith}
use Rattle.std.proofs.Math.Bool.{true, false, cond}
use mathlib.Core.List.{List, [], ◌∷◌, ◌++◌}
use Rattle.std.proofs.Math.Logic.{inl, inr, ⊎_elim}
use Prim.Native.Nat.{ℕ, zero, suc, ◌<◌}
use Rattle.std.proofs.Math.Dec.{eqb}
use borrow.Author.Tests.{ltb-true, eqb-true, lt-ltb, le-ltb, eq-eqb, ne_eqb}
use Rattle.port_tables.specs.Lists.{range, Member, Rising}
use Rattle.std.specs.List.{filter}
use Rattle.portgraph.specs.Model as model
use Rattle.portgraph.specs.Model.{Model, live}
use Rattle.portgraph.specs.GoodSlots.{zero_is_not_one, slot_in_block}
use Rattle.port_tables.specs.declared.direction.Direction.{Direction}
use Rattle.port_tables.specs.declared.direction.Direction.TheVariants.{Outgoing}
use Rattle.port_tables.specs.declared.node_entry.NodeMeta.{NodeMeta}
use Rattle.port_tables.specs.declared.release.Release.{Release}
use Rattle.multiportgraph.specs.Reading.{seen, owner_of}
use Rattle.multi_tables.specs.Forms.{Port, dead, hidden, visible}
use Rattle.multiportgraph.specs.WellFormed.{inner#, Fine, Seen}
use Rattle.multiportgraph.specs.Ends.{owner_of_lem, seen_block, block_seen}
use Rattle.multiportgraph.specs.Wires.{blocks, ports_of_side, subports_of_port, subports_of_side, wire_of, side_links, all_wires, is_beyond, first_item, wires_beyond, wires_seen, step_wires, walk_by, walked_on, walk_wires, is_block}
use Rattle.multiportgraph.specs.Walks.{is_seen}
use Rattle.port_tables.specs.Listing.{member_filter, member_flat_map, filter_flat_map, flat_map_beyond, filter_all, rising_flat_map}
use Rattle.theorems.proofs.PortListing.{blocks_list, side_listed}
use Rattle.theorems.specs.Book.{Call}
use Rattle.theorems.specs.History.{run}
use Rattle.theorems.proofs.CallLaws.{run_kept}
use Rattle.theorems.specs.CursorClaims.{block_of_item, Beyond, later_offset, later_port, later_block, FirstOf, holding, lies_beyond}
use Rattle.multiportgraph.specs.declared.multiportgraph.MultiPortGraph.{MultiPortGraph}
use Rattle.multi_tables.specs.declared.answers.SubportIndex.{SubportIndex}
use Rattle.multi_tables.specs.declared.answers.SubportLink.{SubportLink}
use Rattle.multiportgraph.specs.declared.iter.Wires.{Wires}
use Rattle.multiportgraph.specs.ScanLaws.{subport_stands, wire_stands}
use Rattle.multiportgraph.specs.WalkRule.{blocks_rise}
use Rattle.std.proofs.lemmas.Option.{some_pair_parts}
use Rattle.theorems.specs.WalkHeldLaws.{step_holding, wires_end as gone_ends}
use Rattle.theorems.specs.Cursors.{rising_as}
use Rattle.theorems.specs.BlockWalkLaws.{block_links_rise}
use Rattle.theorems.specs.WalkStepLaws.{link_offset}
use Rattle.std.proofs.lemmas.Bool.{false_from_ne_true}
use Rattle.port_tables.specs.declared.sides.Sides.TheVariants.{One}
use Rattle.port_tables.specs.Limits.{node_slots}
use Rattle.theorems.specs.BlockWalkLaws as places

module _ (m : MultiPortGraph) (n p o : ℕ) (w : SubportLink) where
  lies_so : lies_beyond m n p o w ≡ true → Beyond m n p o w
  unfolding lies_beyond is_beyond
  lies_so h = go (eqb (block_of_item m w) n) (eqb w.from.port.0 p) refl refl h
    where
      go : (a b : Bool) → eqb (block_of_item m w) n ≡ a → eqb w.from.port.0 p ≡ b →
          cond a (cond b (ltb o w.from.subport_offset) (ltb p w.from.port.0)) (ltb n (block_of_item m w)) ≡ true → Beyond m n p o w
      go true true e d k = later_offset (eqb-true _ _ e) (eqb-true _ _ d) (ltb-true _ _ k)
      go true false e d k = later_port (eqb-true _ _ e) (ltb-true _ _ k)
      go false b e d k = later_block (ltb-true _ _ k)

  so_lies : Beyond m n p o w → lies_beyond m n p o w ≡ true
  unfolding lies_beyond is_beyond
  so_lies (later_offset e d k) = rw (eq-eqb (block_of_item m w) n e, eq-eqb w.from.port.0 p d) (lt-ltb o w.from.subport_offset k)
  so_lies (later_port e k) = rw (eq-eqb (block_of_item m w) n e, ne_eqb w.from.port.0 p (λ q. omega arith)) (lt-ltb p w.from.port.0 k)
  so_lies (later_block k) = rw (ne_eqb (block_of_item m w) n (λ q. omega arith)) (lt-ltb n (block_of_item m w) k)

-- Items of the listing start at ports of their block.

item_port : (m : MultiPortGraph) (d : Direction) (n : ℕ) (w : SubportLink) → Member w (side_links m d n) → Member w.from.port.0 (ports_of_side m d n)
unfolding side_links subports_of_side
item_port m d n w i =
    let a = member_flat_map (wire_of m d) w (subports_of_side m n d) i in
    let b = member_flat_map (subports_of_port m d) a.0 (ports_of_side m d n) a.1 in
    let q : w.from.port.0 ≡ b.0 = ap (λ (t : SubportIndex). t.port.0) (wire_stands m d a.0 w a.2) ∙ subport_stands m d b.0 a.0 b.2 in
    subst (λ (p : ℕ). Member p (ports_of_side m d n)) (sym q) b.1

module _ {m : MultiPortGraph} {M : Model} (f : Fine m M) where
  item_block : (n : ℕ) (w : SubportLink) → Member w (side_links m Outgoing n) → block_of_item m w ≡ n
  item_block n w i =
      let r = side_listed f n Outgoing w.from.port.0 (item_port m Outgoing n w i) in
      ap (owner_of m.graph) (sym r.2) ∙ owner_of_lem f (inner# n Outgoing r.0) r.1

  -- what is left beyond a port of a block is what lies beyond it in the listing
  left_is : (n : ℕ) → Member n (blocks m) → (p o : ℕ) → wires_beyond m n p o ≡ filter (lies_beyond m n p o) (all_wires m)
  unfolding wires_beyond all_wires lies_beyond
  left_is n i p o =
      sym
      (filter_flat_map (lies_beyond m n p o) (side_links m Outgoing) (blocks m)
      ∙ flat_map_beyond (side_links m Outgoing) n (lies_beyond m n p o) (is_beyond p o) (blocks m) (blocks_rise m) i
      (λ k j l v h.
      let e = item_block k v h in
      rw (ne_eqb (block_of_item m v) n (λ q. omega arith), le-ltb n (block_of_item m v) (omega arith)))
      (λ k j l v h.
      let e = item_block k v h in
      rw (eq-eqb (block_of_item m v) n (omega arith)) refl)
      (λ k j l v h.
      let e = item_block k v h in
      rw (ne_eqb (block_of_item m v) n (λ q. omega arith), lt-ltb n (block_of_item m v) (omega arith))))

  block_listed : (p n : ℕ) (d : Direction) → seen m p ≡ visible n d → Member n (blocks m)
  block_listed p n d e =
      let b = block_seen f p n d e in
      let r = block_of b.place b.is_seen in
      subst (λ (k : ℕ). Member k (blocks m)) b.node ((blocks_list f).all b.place.node r.0 (b.is_seen.1, r.1))
    where
      block_of : (x : model.InnerPlace) → Seen m M x → (k : NodeMeta) × (M.node x.node ≡ live k)
      block_of x s = let r = slot_in_block f.good x s.0 in (r.0, r.1)

  step_held : (c : Wires) (p n : ℕ) (d : Direction) → c.held.port ≡ suc p → seen m p ≡ visible n d → step_wires m c ≡ first_item (filter (lies_beyond m n p c.held.offset) (all_wires m))
  step_held c p n d h e = step_holding m c p h ∙ (ap (wires_seen m p c.held.offset) e ∙ ap first_item (left_is n (block_listed p n d e) p c.held.offset))

-- The first item that passes a test.

abbrev Passed : (SubportLink → Bool) → List SubportLink → SubportLink → Wires → Type 0
Passed t l w c = (before : List SubportLink) × (after : List SubportLink) × (l ≡ before ++ (w ∷ after)) × (t w ≡ true) × ((v : SubportLink) → Member v before → t v ≡ false) × (c ≡ holding w)

first_passed : (t : SubportLink → Bool) (l : List SubportLink) (w : SubportLink) (c : Wires) → first_item (filter t l) ≡ Some (w, c) → Passed t l w c
first_passed t [] w c e = absurd (zero_is_not_one (cc))
first_passed t (x ∷ l) w c e = go (t x) refl (first_passed t l w c) e
  where
    go : (b : Bool) → t x ≡ b → (first_item (filter t l) ≡ Some (w, c) → Passed t l w c) → first_item (cond b (x ∷ filter t l) (filter t l)) ≡ Some (w, c) → Passed t (x ∷ l) w c
    go true q r k =
        let p = some_pair_parts _ _ _ _ k in
        let s : x ≡ w = p.0 in
        let d : holding x ≡ c = p.1 in
        ([], l, ap (λ (y : SubportLink). y ∷ l) s, sym (ap t s) ∙ q, (λ v i. absurd i), sym d ∙ ap holding s)
    go false q r k =
        let s = r k in
        (x ∷ s.0, s.1, ap (λ (y : List SubportLink). x ∷ y) s.2, s.3, (λ v i. ⊎_elim (λ z. ap t z ∙ q) (s.4 v) i), s.5)

none_passed : (t : SubportLink → Bool) (l : List SubportLink) → first_item (filter t l) ≡ None → (v : SubportLink) → Member v l → t v ≡ false
none_passed t [] e v i = absurd i
none_passed t (x ∷ l) e v i = go (t x) refl (none_passed t l) e i
  where
    go : (b : Bool) → t x ≡ b → (first_item (filter t l) ≡ None → (v : SubportLink) → Member v l → t v ≡ false) → first_item (cond b (x ∷ filter t l) (filter t l)) ≡ None → Member v (x ∷ l) → t v ≡ false
    go true q r k j = absurd (zero_is_not_one (cc))
    go false q r k (inl z) = ap t z ∙ q
    go false q r k (inr j) = r k v j

-- What a step gives.

module _ {m : MultiPortGraph} {M : Model} (f : Fine m M) (c : Wires) (p : ℕ) (held : c.held.port ≡ suc p) where
  gives : (n : ℕ) (s : Direction) → seen m p ≡ visible n s → (w : SubportLink) (d : Wires) → step_wires m c ≡ Some (w, d) → FirstOf (Beyond m n p c.held.offset) (all_wires m) w × (d ≡ holding w)
  gives n s e w d g =
      let r = first_passed (lies_beyond m n p c.held.offset) (all_wires m) w d (sym (step_held f c p n s held e) ∙ g) in (
        record {
          before = r.0;
          after = r.1;
          whole = r.2;
          so = lies_so m n p c.held.offset w r.3;
          none = λ v i b. let x = r.4 v i in let y = so_lies m n p c.held.offset v b in zero_is_not_one (cc);
        },
        r.5,
      )

  -- the port held is a block's
  item_seen : (v : Port) → seen m p ≡ v → (w : SubportLink) (d : Wires) → step_wires m c ≡ Some (w, d) → (n : ℕ) × (s : Direction) × (seen m p ≡ visible n s)
  item_seen (visible n s) e w d g = (n, s, e)
  item_seen dead e w d g = let z = gone_ends m c p held (ap is_seen e) in absurd (zero_is_not_one (cc))
  item_seen hidden e w d g = let z = gone_ends m c p held (ap is_seen e) in absurd (zero_is_not_one (cc))

  ends : (v : Port) → seen m p ≡ v → step_wires m c ≡ None → (is_seen (seen m p) ≡ false) ⊎ ((n : ℕ) × (s : Direction) × (seen m p ≡ visible n s) × ((w : SubportLink) → Member w (all_wires m) → Beyond m n p c.held.offset w → ⊥))
  ends dead e g = inl (ap is_seen e)
  ends hidden e g = inl (ap is_seen e)
  ends (visible n s) e g =
      inr (
        n,
        s,
        e,
        (λ w i b.
            let x = none_passed (lies_beyond m n p c.held.offset) (all_wires m) (sym (step_held f c p n s held e) ∙ g) w i in
            let y = so_lies m n p c.held.offset w b in
            zero_is_not_one (cc)),
      )

-- A step that gives an item: the port held is one of a block, the item is the first of the present listing beyond it and the offset,
-- and the cursor comes back holding it.
pub wires_give : (release : Release) (calls : List Call) (c d : Wires) (p : ℕ) (w : SubportLink) → c.held.port ≡ suc p → step_wires (run release calls).graph c ≡ Some (w, d) →
    (n : ℕ) × (s : Direction) × (seen (run release calls).graph p ≡ visible n s) × FirstOf (Beyond (run release calls).graph n p c.held.offset) (all_wires (run release calls).graph) w × (d ≡ holding w)
wires_give release calls c d p w h g =
    let f = (run_kept release calls).fine in
    let s = item_seen f c p h (seen (run release calls).graph p) refl w d g in
    let r = gives f c p h s.0 s.1 s.2 w d g in
    (s.0, s.1, s.2, r.0, r.1)

-- A step that ends the walk: the port held is gone or hidden, or no item of the present listing lies beyond it and the offset.
pub wires_end : (release : Release) (calls : List Call) (c : Wires) (p : ℕ) → c.held.port ≡ suc p → step_wires (run release calls).graph c ≡ None →
    (is_seen (seen (run release calls).graph p) ≡ false)
    ⊎ ((n : ℕ) × (s : Direction) × (seen (run release calls).graph p ≡ visible n s) × ((w : SubportLink) → Member w (all_wires (run release calls).graph) → Beyond (run release calls).graph n p c.held.offset w → ⊥))
wires_end release calls c p h g = ends (run_kept release calls).fine c p h (seen (run release calls).graph p) refl g

-- Walks.

-- the listing ascends: each item lies beyond all earlier ones
abbrev Ahead : MultiPortGraph → SubportLink → SubportLink → Type 0
Ahead m v w = Beyond m (block_of_item m v) v.from.port.0 v.from.subport_offset w

module _ (m : MultiPortGraph) where
  not_itself : (w : SubportLink) → Ahead m w w → ⊥
  not_itself w (later_offset e d k) = omega arith
  not_itself w (later_port e k) = omega arith
  not_itself w (later_block k) = omega arith

  not_both : (v w : SubportLink) → Ahead m v w → Ahead m w v → ⊥
  not_both v w (later_offset e d k) (later_offset e' d' k') = omega arith
  not_both v w (later_offset e d k) (later_port e' k') = omega arith
  not_both v w (later_offset e d k) (later_block k') = omega arith
  not_both v w (later_port e k) (later_offset e' d' k') = omega arith
  not_both v w (later_port e k) (later_port e' k') = omega arith
  not_both v w (later_port e k) (later_block k') = omega arith
  not_both v w (later_block k) (later_offset e' d' k') = omega arith
  not_both v w (later_block k) (later_port e' k') = omega arith
  not_both v w (later_block k) (later_block k') = omega arith

  on_from : (n p o : ℕ) (w v : SubportLink) → Beyond m n p o w → Ahead m w v → Beyond m n p o v
  on_from n p o w v (later_offset e d k) (later_offset e' d' k') = later_offset (e' ∙ e) (d' ∙ d) (omega arith)
  on_from n p o w v (later_offset e d k) (later_port e' k') = later_port (e' ∙ e) (omega arith)
  on_from n p o w v (later_offset e d k) (later_block k') = later_block (omega arith)
  on_from n p o w v (later_port e k) (later_offset e' d' k') = later_port (e' ∙ e) (omega arith)
  on_from n p o w v (later_port e k) (later_port e' k') = later_port (e' ∙ e) (omega arith)
  on_from n p o w v (later_port e k) (later_block k') = later_block (omega arith)
  on_from n p o w v (later_block k) (later_offset e' d' k') = later_block (omega arith)
  on_from n p o w v (later_block k) (later_port e' k') = later_block (omega arith)
  on_from n p o w v (later_block k) (later_block k') = later_block (omega arith)

  not_lies : (n p o : ℕ) (w : SubportLink) → (Beyond m n p o w → ⊥) → lies_beyond m n p o w ≡ false
  not_lies n p o w h = false_from_ne_true (lies_beyond m n p o w) (λ t. h (lies_so m n p o w t))

-- what is left after an item of an ascending list
rest_after : (m : MultiPortGraph) (n p o : ℕ) (w : SubportLink) (r l : List SubportLink) → Rising (Ahead m) l → filter (lies_beyond m n p o) l ≡ w ∷ r →
    filter (lies_beyond m (block_of_item m w) w.from.port.0 w.from.subport_offset) l ≡ r
rest_after m n p o w r [] rise e = absurd (zero_is_not_one (cc))
rest_after m n p o w r (x ∷ l) rise e = go (lies_beyond m n p o x) refl (rest_after m n p o w r l rise.1) e
  where
    u : SubportLink → Bool
    u = lies_beyond m (block_of_item m w) w.from.port.0 w.from.subport_offset

    go : (b : Bool) → lies_beyond m n p o x ≡ b → (filter (lies_beyond m n p o) l ≡ w ∷ r → filter u l ≡ r) → cond b (x ∷ filter (lies_beyond m n p o) l) (filter (lies_beyond m n p o) l) ≡ w ∷ r → cond (u x) (x ∷ filter u l) (filter u l) ≡ r
    go true q k h =
        let s : x ≡ w = cc in
        let rest : filter (lies_beyond m n p o) l ≡ r = cc in
        let bw : Beyond m n p o w = subst (Beyond m n p o) s (lies_so m n p o x q) in
        let ahead : (v : SubportLink) → Member v l → Ahead m w v = λ v i. subst (λ (y : SubportLink). Ahead m y v) s (rise.0 v i) in
        let none : u x ≡ false = ap u s ∙ not_lies m (block_of_item m w) w.from.port.0 w.from.subport_offset w (not_itself m w) in
        rw none
        (filter_all u l (λ v i. so_lies m (block_of_item m w) w.from.port.0 w.from.subport_offset v (ahead v i))
        ∙ (sym (filter_all (lies_beyond m n p o) l (λ v i. so_lies m n p o v (on_from m n p o w v bw (ahead v i)))) ∙ rest))
    go false q k h =
        let there : Member w l = (member_filter (lies_beyond m n p o) w l (subst (Member w) (sym h) (inl refl))).0 in
        let none : u x ≡ false = not_lies m (block_of_item m w) w.from.port.0 w.from.subport_offset x (not_both m x w (rise.0 w there)) in
        rw none (k h)

module _ {m : MultiPortGraph} {M : Model} (f : Fine m M) where
  side_rises : (n : ℕ) → is_block m n ≡ true → Rising (Ahead m) (side_links m Outgoing n)
  side_rises n b =
      rising_as (places.Ahead places.link_port link_offset) (Ahead m) (side_links m Outgoing n)
      (λ v w i j a.
      let q = item_block f n w j ∙ sym (item_block f n v i) in
      ⊎_elim (λ l. later_port q l) (λ l. later_offset q (sym l.0) l.1) a)
      (block_links_rise (record { model = M; fine = f }) n b (One Outgoing))

  wires_rise : Rising (Ahead m) (all_wires m)
  unfolding all_wires blocks
  wires_rise =
      rising_flat_map ◌<◌ (Ahead m) (side_links m Outgoing) (blocks m) (blocks_rise m) (λ n i. side_rises n (member_filter (is_block m) n (range 0 node_slots) i).1)
      (λ a c v w i j l h k.
      let x = item_block f a v h in
      let y = item_block f c w k in
      later_block (omega arith))

  -- the port that an item starts at is one of its block
  item_is_seen : (w : SubportLink) → Member w (all_wires m) → seen m w.from.port.0 ≡ visible (block_of_item m w) Outgoing
  unfolding all_wires
  item_is_seen w i =
      let a = member_flat_map (side_links m Outgoing) w (blocks m) i in
      let r = side_listed f a.0 Outgoing w.from.port.0 (item_port m Outgoing a.0 w a.2) in
      let b = (blocks_list f).only a.0 a.1 in
      ap (seen m) (sym r.2) ∙ (seen_block f (inner# a.0 Outgoing r.0) (r.1, b.1.0) ∙ ap (λ (n : ℕ). visible n Outgoing) (sym (item_block f a.0 w a.2)))

  walks_on : (fuel : ℕ) (l : List SubportLink) (c : Wires) (p n : ℕ) (s : Direction) → c.held.port ≡ suc p → seen m p ≡ visible n s → filter (lies_beyond m n p c.held.offset) (all_wires m) ≡ l → length l < fuel →
      walk_wires m fuel c ≡ record { items = l; ended = true }
  unfolding walk_wires
  walks_on zero l c p n s h e k few = absurd (omega arith)
  walks_on (suc fuel) [] c p n s h e k few = ap (walk_by (walk_wires m fuel)) (step_held f c p n s h e ∙ ap first_item k)
  walks_on (suc fuel) (w ∷ r) c p n s h e k few =
      let i : Member w (all_wires m) = (member_filter (lies_beyond m n p c.held.offset) w (all_wires m) (subst (Member w) (sym k) (inl refl))).0 in
      let rest : walk_wires m fuel (holding w) ≡ record { items = r; ended = true } =
      walks_on fuel r (holding w) w.from.port.0 (block_of_item m w) Outgoing refl (item_is_seen w i) (rest_after m n p c.held.offset w r (all_wires m) wires_rise k) (omega arith) in
      ap (walk_by (walk_wires m fuel)) (step_held f c p n s h e ∙ ap first_item k) ∙ ap (walked_on w) rest

-- A walk from any cursor that holds a port of a block, with steps enough: exactly the items of the present listing that lie beyond it
-- and the offset, in the order of the listing, and then the end.
pub wires_forward : (release : Release) (calls : List Call) (c : Wires) (p n : ℕ) (s : Direction) (fuel : ℕ) → c.held.port ≡ suc p → seen (run release calls).graph p ≡ visible n s →
    length (filter (lies_beyond (run release calls).graph n p c.held.offset) (all_wires (run release calls).graph)) < fuel →
    walk_wires (run release calls).graph fuel c ≡ record { items = filter (lies_beyond (run release calls).graph n p c.held.offset) (all_wires (run release calls).graph); ended = true }
wires_forward release calls c p n s fuel h e few = walks_on (run_kept release calls).fine fuel _ c p n s h e refl few

-- the test says what lies beyond
pub lies_beyond_iff : (m : MultiPortGraph) (n p o : ℕ) (w : SubportLink) → (lies_beyond m n p o w ≡ true) ↔ Beyond m n p o w
lies_beyond_iff m n p o w = (lies_so m n p o w, so_lies m n p o w)
