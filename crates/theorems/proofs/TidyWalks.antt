-- Cursors that are held across a tidy: where blocks and wires are the same, every walk that gives wires goes on as if nothing had happened.
use Rattle.std.specs.Prelude.{◌≡◌, Bool, true, ℕ, ◌-◌, ◌<◌, ltb, None}
use Rattle.std.proofs.Math.Path.{refl, sym, ap}
use Rattle.std.proofs.Common.{◌∙◌, subst, arith}
use Rattle.std.proofs.Math.Bool.{false, cond}
use mathlib.Core.List.{List, ◌++◌, flat_map}
use Rattle.std.proofs.Math.Dec.{eqb}
use Rattle.port_tables.specs.Limits.{node_slots}
use Rattle.port_tables.specs.Lists.{range, Member, on_first, on_last}
use Rattle.std.specs.List.{filter}
use Rattle.port_tables.specs.Entries.{ports_from}
use Rattle.portgraph.specs.Model as model
use Rattle.portgraph.specs.Model.{Model, slot_of}
use Rattle.portgraph.specs.GoodSlots.{slot_in_block}
use Rattle.portgraph.specs.PlaceLaws.{meta_of_node}
use Rattle.port_tables.specs.declared.direction.Direction.{Direction}
use Rattle.port_tables.specs.declared.direction.Direction.TheVariants.{Outgoing}
use Rattle.port_tables.specs.declared.sides.Sides.{Sides}
use Rattle.port_tables.specs.declared.sides.Sides.TheVariants.{One}
use Rattle.multiportgraph.specs.Reading.{owner_of, seen, port_place}
use Rattle.multi_tables.specs.Forms.{Port, dead, hidden, visible, subport#}
use Rattle.port_tables.specs.Places.{Place, Wire, spot, at_spot, end_on, far_from}
use Rattle.multiportgraph.specs.WellFormed.{inner#, Fine, Seen, lift, WireIn, SameBlocks}
use Rattle.multiportgraph.specs.Ends.{block_seen, seen_still, lift_place, owner_of_lem}
use Rattle.multiportgraph.specs.Wires.{is_block, blocks, side_links, all_wires, is_beyond, wires_beyond, wires_seen, step_wires, first_item, place_of}
use Rattle.multiportgraph.specs.Walks.{between, is_seen, held_seen, both_seen, by_sides, port_links, port_links_seen, links_left, step_front, step_back, node_links, not_skipped, link_beyond, links_item, step_links, connections, connections_item, step_connections}
use Rattle.port_tables.specs.Listing.{rising_by_items, filter_same, member_filter}
use Rattle.multiportgraph.specs.HiddenStays.{true_not_false}
use Rattle.multiportgraph.specs.ScanLaws.{links_from_to, ports_across, links_in_row, flat_map_same, block_not_hidden}
use Rattle.multiportgraph.specs.declared.multiportgraph.MultiPortGraph.{MultiPortGraph}
use Rattle.multi_tables.specs.declared.answers.SubportLink.{SubportLink}
use Rattle.multiportgraph.specs.declared.iter.Wires.{Wires}
use Rattle.multiportgraph.specs.declared.iter.PortLinks.{PortLinks}
use Rattle.multiportgraph.specs.declared.iter.NodeLinks.{NodeLinks}
use Rattle.multiportgraph.specs.declared.iter.NodeConnections.{NodeConnections}
use Rattle.theorems.specs.ListingClaims.{wire_from}
use Rattle.theorems.specs.ListedLinks.{LinkIs, own_end, far_end, from_place, link_wire, port_link_lem, port_has_link}
use Rattle.theorems.proofs.PortListing.{is_block_lem, block_at}
use Rattle.theorems.proofs.ListingWires.{side_link, far_of_link}
use Rattle.theorems.specs.WalkStepLaws.{link_offset, port_links_rise}
use Rattle.theorems.specs.TidyClaims.{WalksKept}
use Rattle.multiportgraph.specs.SpaceLaws.{still_seen}
use Rattle.multiportgraph.specs.CopyLaws.{port_at_here}
use Rattle.theorems.specs.WalkHeldLaws.{links_unseen, wires_unseen}
use Rattle.std.specs.Cmp.{both_ways}

-- From one graph to another with the same blocks, every wire is there.
module _ {m m' : MultiPortGraph} {M M' : Model} (f : Fine m M) (f' : Fine m' M') (same : SameBlocks m M m' M') (there : (w : Wire) → WireIn m M w → WireIn m' M' w) where
  -- a link that is listed at a port is listed there in the other graph
  link_there : (x : model.InnerPlace) (w : SubportLink) → LinkIs m M x w → Member w (port_links m' (slot_of M.node x))
  link_there x w l =
      let s = seen_still f f' same x l.is_seen in
      let d = x.side in
      let own = own_end d (place_of m w.from) (place_of m w.to) ∙ from_place f x w l in
      let g = port_has_link f' x s.0 (wire_from m d w) (there (wire_from m d w) (link_wire f x w l)) (ap (at_spot (spot x.node x.side x.pos)) own ∙ port_at_here x w.from.subport_offset) in
      let k = port_link_lem f' x s.0 g.0 g.1 in
      subst (λ (q : ℕ). Member w (port_links m' q)) s.1 (subst (λ (v : SubportLink). Member v (port_links m' (slot_of M'.node x))) (is g.0 k s.1 g.2) g.1)
    where
      is : (a : SubportLink) → LinkIs m' M' x a → slot_of M'.node x ≡ slot_of M.node x → wire_from m x.side w ≡ wire_from m' x.side a → a ≡ w
      is a k slot e =
          let d = x.side in
          let from_here : lift x a.from.subport_offset ≡ lift x w.from.subport_offset =
          sym (from_place f' x a k)
          ∙ (sym (own_end d (place_of m' a.from) (place_of m' a.to)) ∙ (ap (end_on d) (sym e) ∙ (own_end d (place_of m w.from) (place_of m w.to) ∙ from_place f x w l))) in
          let offset : a.from.subport_offset ≡ w.from.subport_offset = ap (λ (v : Place). v.offset) from_here in
          let port : a.from.port.0 ≡ w.from.port.0 = sym k.slot ∙ (slot ∙ l.slot) in
          let to_here : place_of m' a.to ≡ place_of m w.to =
          sym (far_end d (place_of m' a.from) (place_of m' a.to)) ∙ (ap (far_from d) (sym e) ∙ far_end d (place_of m w.from) (place_of m w.to)) in
          let p = far_of_link f x w l in
          let q = far_of_link f' x a k in
          let far : lift q.at q.offset ≡ lift p.at p.offset = sym q.place ∙ (to_here ∙ p.place) in
          let at_same : q.at ≡ p.at = lift_place far in
          let far_offset : q.offset ≡ p.offset = ap (λ (v : Place). v.offset) far in
          let far_slot : slot_of M'.node q.at ≡ slot_of M.node p.at = ap (slot_of M'.node) at_same ∙ (seen_still f f' same p.at p.is_seen).1 in
          let to_same : a.to ≡ w.to = q.is ∙ ((λ i. subport# (far_slot i) (far_offset i)) ∙ sym p.is) in
          let stood : a.place ≡ w.place = k.stood ∙ (ap port_place to_here ∙ sym l.stood) in
          λ i. record { from = subport# (port i) (offset i); to = to_same i; place = stood i }

-- Two graphs with the same blocks and the same wires.
module _ {m m' : MultiPortGraph} {M M' : Model} (f : Fine m M) (f' : Fine m' M') (same : SameBlocks m M m' M') (there : (w : Wire) → WireIn m M w → WireIn m' M' w)
    (back : (w : Wire) → WireIn m' M' w → WireIn m M w) where
  other : SameBlocks m' M' m M
  other = (same.1, same.0)

  block_same : (n : ℕ) → is_block m' n ≡ is_block m n
  block_same n =
      both_ways (is_block m' n) (is_block m n) (λ q. let k = block_at f' n q in is_block_lem f n k.0 (same.1 n k.0 k.1))
      (λ p. let k = block_at f n p in is_block_lem f' n k.0 (same.0 n k.0 k.1))

  blocks_same : blocks m' ≡ blocks m
  unfolding blocks
  blocks_same = filter_same (is_block m') (is_block m) (range 0 node_slots) (λ n i. block_same n)

  -- The links of a port.

  port_same : (x : model.InnerPlace) → Seen m M x → port_links m' (slot_of M.node x) ≡ port_links m (slot_of M.node x)
  port_same x sx =
      let s = seen_still f f' same x sx in
      rising_by_items (λ (v w : SubportLink). link_offset v < link_offset w) (λ v w a b. omega arith)
      (port_links m' (slot_of M.node x)) (port_links m (slot_of M.node x)) (port_links_rise m' (slot_of M.node x)) (port_links_rise m (slot_of M.node x))
      (λ w i.
      subst (λ (q : ℕ). Member w (port_links m q)) s.1 (link_there f' f other back x w (port_link_lem f' x s.0 w (subst (λ (q : ℕ). Member w (port_links m' q)) (sym s.1) i))))
      (λ w i. link_there f f' same there x w (port_link_lem f x sx w i))

  -- what a port is seen as, where it is not seen as a block's
  abbrev Alike : Port → Port → Type 0
  Alike (visible n d) v = v ≡ visible n d
  Alike dead v = is_seen v ≡ false
  Alike hidden v = is_seen v ≡ false

  seen_alike : (p : ℕ) → Alike (seen m p) (seen m' p)
  seen_alike p = go (seen m p) (seen m' p) refl refl
    where
      clash : (u : Port) → is_seen u ≡ false → (n : ℕ) (d : Direction) → seen m p ≡ u → seen m' p ≡ visible n d → ⊥
      clash u h n d p q = true_not_false (ap is_seen (sym p ∙ still_seen f' f other _ n d q)) h

      go : (u v : Port) → seen m p ≡ u → seen m' p ≡ v → Alike u v
      go (visible n d) v e q = sym q ∙ still_seen f f' same p n d e
      go dead dead e q = refl
      go dead hidden e q = refl
      go dead (visible n d) e q = absurd (clash dead refl n d e q)
      go hidden dead e q = refl
      go hidden hidden e q = refl
      go hidden (visible n d) e q = absurd (clash hidden refl n d e q)

  seen_same : (p : ℕ) → is_seen (seen m' p) ≡ is_seen (seen m p)
  seen_same p = go (seen m p) (seen m' p) (seen_alike p)
    where
      go : (u v : Port) → Alike u v → is_seen v ≡ is_seen u
      go (visible n d) v e = ap is_seen e
      go dead v e = e
      go hidden v e = e

  ports_same : (p : ℕ) → port_links m' p ≡ port_links m p
  unfolding port_links
  ports_same p = go (seen m p) (seen m' p) refl refl (seen_alike p)
    where
      go : (u v : Port) → seen m p ≡ u → seen m' p ≡ v → Alike u v → port_links_seen m' p v ≡ port_links_seen m p u
      go (visible n d) v e q a =
          let b = block_seen f p n d e in
          ap (port_links_seen m' p) (sym q) ∙ (subst (λ (i : ℕ). port_links m' i ≡ port_links m i) b.slot (port_same b.place b.is_seen) ∙ ap (port_links_seen m p) e)
      go dead v e q a = links_unseen m' p v a
      go hidden v e q a = links_unseen m' p v a

  -- The links of a block.

  sides_same : (n : ℕ) → is_block m n ≡ true → (sides : Sides) → by_sides (λ d. side_links m' d n) sides ≡ by_sides (λ d. side_links m d n) sides
  unfolding links_from_to
  sides_same n b sides =
      let k = block_at f n b in
      let r = same.0 n k.0 k.1 in
      links_in_row (record { model = M'; fine = f' }) n k.0 r.0 (meta_of_node f'.good f'.holds n k.0 r.1) sides
      ∙ (flat_map_same (port_links m') (port_links m) (range (ports_from k.0 sides) (ports_across k.0 sides)) (λ p i. ports_same p)
      ∙ sym (links_in_row (record { model = M; fine = f }) n k.0 k.1.0 (meta_of_node f.good f.holds n k.0 k.1.1) sides))

  side_same : (n : ℕ) → is_block m n ≡ true → (d : Direction) → side_links m' d n ≡ side_links m d n
  side_same n b d = sides_same n b (One d)

  -- The walks.

  held_same : (held : ℕ) → held_seen m' held ≡ held_seen m held
  held_same held = ap (λ (b : Bool). cond (eqb held 0) true b) (seen_same (held - 1))

  both_same : (n held : ℕ) → both_seen m' n held ≡ both_seen m n held
  both_same n held = λ i. cond (block_same n i) (held_same held i) false

  all_same : (l : List ℕ) → ((n : ℕ) → Member n l → is_block m n ≡ true) → flat_map (side_links m' Outgoing) l ≡ flat_map (side_links m Outgoing) l
  all_same l h = flat_map_same (side_links m' Outgoing) (side_links m Outgoing) l (λ n i. side_same n (h n i) Outgoing)

  in_blocks : (n : ℕ) → Member n (blocks m) → is_block m n ≡ true
  unfolding blocks
  in_blocks n i = (member_filter (is_block m) n (range 0 node_slots) i).1

  wires_step_same : (c : Wires) → step_wires m' c ≡ step_wires m c
  unfolding step_wires all_wires wires_beyond
  wires_step_same c = λ i. cond (eqb c.held.port 0) (first_item (whole i)) (rest i)
    where
      whole : all_wires m' ≡ all_wires m
      whole = ap (flat_map (side_links m' Outgoing)) blocks_same ∙ all_same (blocks m) in_blocks

      go : (u v : Port) → seen m (c.held.port - 1) ≡ u → Alike u v → wires_seen m' (c.held.port - 1) c.held.offset v ≡ wires_seen m (c.held.port - 1) c.held.offset u
      go (visible n d) v e a =
          let b = block_seen f (c.held.port - 1) n d e in
          let s = slot_in_block f.good b.place b.is_seen.0 in
          let t : is_block m n ≡ true = subst (λ (k : ℕ). is_block m k ≡ true) b.node (is_block_lem f b.place.node s.0 (b.is_seen.1, s.1)) in
          let later : flat_map (side_links m' Outgoing) (filter (ltb n) (blocks m')) ≡ flat_map (side_links m Outgoing) (filter (ltb n) (blocks m)) =
          ap (λ (l : List ℕ). flat_map (side_links m' Outgoing) (filter (ltb n) l)) blocks_same
          ∙ all_same (filter (ltb n) (blocks m)) (λ k i. in_blocks k (member_filter (ltb n) k (blocks m) i).0) in
          ap (wires_seen m' (c.held.port - 1) c.held.offset) a ∙ (λ i. first_item (filter (is_beyond (c.held.port - 1) c.held.offset) (side_same n t Outgoing i) ++ later i))
      go dead v e a = wires_unseen m' (c.held.port - 1) c.held.offset v a
      go hidden v e a = wires_unseen m' (c.held.port - 1) c.held.offset v a

      rest : wires_seen m' (c.held.port - 1) c.held.offset (seen m' (c.held.port - 1)) ≡ wires_seen m (c.held.port - 1) c.held.offset (seen m (c.held.port - 1))
      rest = go (seen m (c.held.port - 1)) (seen m' (c.held.port - 1)) refl (seen_alike (c.held.port - 1))

  left_same : (c : PortLinks) → links_left m' c ≡ links_left m c
  unfolding links_left
  left_same c = ap (filter (λ (w : SubportLink). between c.front c.back w.from.subport_offset)) (ports_same c.port.0)

  front_same : (c : PortLinks) → step_front m' c ≡ step_front m c
  unfolding step_front
  front_same c = ap (on_first _ _) (left_same c)

  back_same : (c : PortLinks) → step_back m' c ≡ step_back m c
  unfolding step_back
  back_same c = ap (on_last _ _) (left_same c)

  -- a walk over links of a block that gives nothing where the block is gone
  at_block : {B : Type 0} (n held : ℕ) (end : B) (x y : B) → (is_block m n ≡ true → x ≡ y) → cond (both_seen m' n held) x end ≡ cond (both_seen m n held) y end
  at_block n held end x y h = ap (λ (b : Bool). cond b x end) (both_same n held) ∙ go (is_block m n) refl
    where
      go : (b : Bool) → is_block m n ≡ b → cond (cond b (held_seen m held) false) x end ≡ cond (cond b (held_seen m held) false) y end
      go true e = ap (λ u. cond (held_seen m held) u end) (h e)
      go false e = refl

  links_same : (c : NodeLinks) → step_links m' c ≡ step_links m c
  unfolding step_links node_links
  links_same c =
      at_block c.node.0 c.held.port _ _ _
      (λ b. ap (λ (l : List SubportLink). on_first None (links_item c) (filter (link_beyond c.held.port c.held.offset) (filter (not_skipped c.skip.from c.skip.to) l))) (sides_same c.node.0 b c.sides))

  -- the block at the far end of a link
  owner_same : (n : ℕ) → is_block m n ≡ true → (d : Direction) (w : SubportLink) → Member w (side_links m d n) → owner_of m'.graph w.to.port.0 ≡ owner_of m.graph w.to.port.0
  owner_same n b d w i =
      let l = side_link f n (block_not_hidden m n b) d w i in
      let p = far_of_link f (inner# n d l.0) w l.1 in
      let s = seen_still f f' same p.at p.is_seen in
      ap (owner_of m'.graph) (p.port ∙ sym s.1) ∙ (owner_of_lem f' p.at s.0.0 ∙ (sym (owner_of_lem f p.at p.is_seen.0) ∙ ap (owner_of m.graph) (sym p.port)))

  connections_same : (c : NodeConnections) → step_connections m' c ≡ step_connections m c
  unfolding step_connections connections
  connections_same c =
      λ i. cond (block_same c.target.0 i)
      (at_block c.node.0 c.held.port None _ _
      (λ b. ap (λ (l : List SubportLink). on_first None (connections_item c) (filter (link_beyond c.held.port c.held.offset) l))
      (ap (filter (λ (w : SubportLink). eqb (owner_of m'.graph w.to.port.0) c.target.0)) (side_same c.node.0 b Outgoing)
      ∙ filter_same (λ (w : SubportLink). eqb (owner_of m'.graph w.to.port.0) c.target.0) (λ (w : SubportLink). eqb (owner_of m.graph w.to.port.0) c.target.0)
      (side_links m Outgoing c.node.0) (λ w j. ap (λ (k : ℕ). eqb k c.target.0) (owner_same c.node.0 b Outgoing w j)))) i)
      None

  pub walks_kept : WalksKept m m'
  walks_kept = record { wires = wires_step_same; front = front_same; back = back_same; links = links_same; connections = connections_same }
