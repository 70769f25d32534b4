-- The listings of walks, against the wire book: the links of a block's side, of a port and of a block, its neighbours and the
-- connections between two blocks are exactly the book's wires there, each once for its end there.
use Rattle.std.specs.Prelude.{◌≡◌, Bool, false, ◌↔◌, ℕ, ◌<◌, leb}
use Rattle.std.proofs.Math.Path.{refl, sym, ap}
use Rattle.std.proofs.Common.{◌∙◌, subst, inl, inr, ⊎_elim, arith}
use Rattle.std.proofs.Math.Bool.{true, cond}
use mathlib.Core.List.{List, [], ◌∷◌, map, map-append}
use Rattle.std.proofs.Math.Dec.{eqb}
use borrow.Author.Tests.{leb-true, leb-false, le-leb, eq-eqb, eqb-true}
use Rattle.port_tables.specs.Lists.{Member, Rising}
use Rattle.std.specs.List.{filter}
use Rattle.portgraph.specs.Model as model
use Rattle.portgraph.specs.Model.{Model, slot_of}
use Rattle.port_tables.specs.Entries.{same_side}
use Rattle.portgraph.specs.GoodSlots.{zero_is_not_one, same_place_lem}
use Rattle.port_tables.specs.declared.direction.Direction.{Direction}
use Rattle.port_tables.specs.declared.direction.Direction.TheVariants.{Incoming, Outgoing}
use Rattle.port_tables.specs.declared.sides.Sides.{Sides}
use Rattle.port_tables.specs.declared.sides.Sides.TheVariants.{One, Both}
use Rattle.port_tables.specs.declared.node_entry.NodeMeta.{NodeMeta}
use Rattle.port_tables.specs.declared.release.Release.{Release}
use Rattle.multiportgraph.specs.Reading.{owner_of, is_hidden, is_split, seen}
use Rattle.multi_tables.specs.Forms.{Port, dead, hidden, visible, subport#}
use Rattle.port_tables.specs.Places as places
use Rattle.port_tables.specs.Places.{Place, Wire, Spot, spot, at_spot, touches, end_on, far_from}
use Rattle.multiportgraph.specs.Wires.{is_block, ports_of_side, subports_of_port, subports_of_side, wire_of, side_links, place_of}
use Rattle.multiportgraph.specs.Walks.{port_links_seen, port_links, not_skipped, node_links, not_ignored, neighbour_links, neighbours, connections}
use Rattle.multiportgraph.specs.WellFormed.{inner#, Fine, BlockIs, Seen, lift}
use Rattle.multiportgraph.specs.Ends.{seen_block, block_seen, ends_join_ends, outer_seen, place_of_sub}
use Rattle.multiportgraph.specs.LinkCutLaws.{at_spot_here, at_spot_is}
use Rattle.port_tables.specs.Listing.{Apart, member_filter, filter_member, member_flat_map, flat_map_member, member_map, map_member, rising_filter, rising_map, rising_once}
use Rattle.multiportgraph.specs.declared.multiportgraph.MultiPortGraph.{MultiPortGraph}
use Rattle.multi_tables.specs.declared.answers.SubportIndex.{SubportIndex}
use Rattle.multi_tables.specs.declared.answers.SubportLink.{SubportLink}
use Rattle.theorems.specs.Book.{Call, Block, Book, spot_of}
use Rattle.theorems.specs.History.{run}
use Rattle.theorems.proofs.WireRule.{Rel, Right, past_block, spot_of_lem, spot_at}
use Rattle.theorems.proofs.CallLaws.{rel_run}
use Rattle.theorems.proofs.PortListing.{side_listed, side_has, is_block_lem, block_at}
use Rattle.theorems.specs.Cursors.{rising_as}
use Rattle.theorems.specs.WalkStepLaws.{link_offset, port_links_rise}
use Rattle.theorems.specs.BlockWalkLaws.{Ahead, block_links_rise}
use Rattle.theorems.specs.ListingClaims.{wire_from, Exactly, InBook, OverSides, OutOfRange, FarNodes, NotOwnOutput}
use Rattle.theorems.specs.ListedLinks.{LinkIs, Found, placed_link, own_end, far_end, own_touches, from_place, link_wire, same_from, wire_found, touched_own, port_link_lem, port_has_link, wire_is, sub_read}
use Rattle.std.proofs.lemmas.List.Elements.{filter-append}

-- the far nodes of listed links
far_nodes : (m : MultiPortGraph) (d : Direction) (l : List SubportLink) →
    map (λ (w : SubportLink). owner_of m.graph w.to.port.0) l ≡ map (λ (w : Wire). (far_from d w).node) (map (wire_from m d) l)
unfolding place_of
far_nodes m d [] = refl
far_nodes m d (w ∷ l) =
    let a : owner_of m.graph w.to.port.0 ≡ (far_from d (wire_from m d w)).node = ap (λ (x : Place). x.node) (sym (far_end d (place_of m w.from) (place_of m w.to))) in
    let b = far_nodes m d l in
    λ i. a i ∷ b i

-- Lists of links that are exactly the wires of a book for which something holds, all different as wires.
record Lists (m : MultiPortGraph) (d : Direction) (booked : List Wire) (P : Wire → Type 0) (l : List SubportLink) : Type 0 where
  pub apart : Rising (λ v w. Apart (wire_from m d v) (wire_from m d w)) l
  pub only : (a : SubportLink) → Member a l → Member (wire_from m d a) booked × P (wire_from m d a)
  pub all : (w : Wire) → Member w booked → P w → (a : SubportLink) × Member a l × (w ≡ wire_from m d a)

module _ {m : MultiPortGraph} {d : Direction} {booked : List Wire} {P : Wire → Type 0} {l : List SubportLink} (h : Lists m d booked P l) where
  lists_exactly : Exactly booked P (map (wire_from m d) l)
  lists_exactly =
      record {
        once = rising_once Apart (λ w e. e refl) (map (wire_from m d) l) (rising_map (λ v w. Apart (wire_from m d v) (wire_from m d w)) Apart (wire_from m d) l h.apart (λ v w i j e. e));
        only = λ w i. let g = member_map (wire_from m d) w l i in subst (λ (v : Wire). Member v booked × P v) (sym g.2) (h.only g.0 g.1);
        all = λ w i p. let g = h.all w i p in subst (λ (v : Wire). Member v (map (wire_from m d) l)) (sym g.2) (map_member (wire_from m d) g.0 l g.1);
      }

  -- those that pass a test
  lists_filter : (t : SubportLink → Bool) (Q : Wire → Type 0) → ((a : SubportLink) → Member a l → t a ≡ true → Q (wire_from m d a)) →
      ((a : SubportLink) → Member a l → Q (wire_from m d a) → t a ≡ true) → Lists m d booked (λ w. P w × Q w) (filter t l)
  lists_filter t Q there back =
      record {
        apart = rising_filter (λ v w. Apart (wire_from m d v) (wire_from m d w)) t l h.apart;
        only = λ a i. let g = member_filter t a l i in let o = h.only a g.0 in (o.0, (o.1, there a g.0 g.1));
        all = λ w i p.
            let g = h.all w i p.0 in
            (g.0, filter_member t g.0 l g.1 (back g.0 g.1 (subst Q g.2 p.1)), g.2);
      }

-- where the far end of a listed link stands
pub record FarEnd (m : MultiPortGraph) (M : Model) (w : SubportLink) : Type 0 where
  pub at : model.InnerPlace
  pub offset : ℕ
  pub is_seen : Seen m M at
  pub is : w.to ≡ subport# (slot_of M.node at) offset
  pub port : w.to.port.0 ≡ slot_of M.node at
  pub place : place_of m w.to ≡ lift at offset

pub far_of_link : {m : MultiPortGraph} {M : Model} (f : Fine m M) (x : model.InnerPlace) (w : SubportLink) → LinkIs m M x w → FarEnd m M w
far_of_link {m} f x w l =
    let r = outer_seen f l.y (ends_join_ends f l.z l.y l.end l.joined) in
    let e = l.far ∙ r.read in
    record {
      at = r.main;
      offset = r.offset;
      is_seen = r.is_seen;
      is = e;
      port = ap (λ (t : SubportIndex). t.port.0) e;
      place = ap (place_of m) e ∙ place_of_sub f r.main r.offset r.is_seen;
    }

module _ {m : MultiPortGraph} {M : Model} (f : Fine m M) where
  -- The links of a side of a block.

  pub side_link : (n : ℕ) → is_hidden m n ≡ false → (d : Direction) (w : SubportLink) → Member w (side_links m d n) → (i : ℕ) × LinkIs m M (inner# n d i) w
  unfolding side_links subports_of_side
  side_link n h d w i =
      let g = member_flat_map (wire_of m d) w (subports_of_side m n d) i in
      let k = member_flat_map (subports_of_port m d) g.0 (ports_of_side m d n) g.1 in
      let r = side_listed f n d k.0 k.1 in
      let t = sub_read m d k.0 g.0 k.2 in (
        r.0,
        wire_is f (inner# n d r.0) (r.1, h) g.0.subport_offset
            (subst (λ (p : ℕ). cond (is_split m p) g.0.subport_offset 0 ≡ g.0.subport_offset) (sym r.2) t.1) w
            (subst (λ (p : ℕ). Member w (wire_of m d (subport# p g.0.subport_offset))) (t.0 ∙ sym r.2) g.2),
      )

  side_has_link : (d : Direction) (w : Wire) (e : Found m M d w) → Member (placed_link m e.from e.to) (side_links m d e.x.node)
  unfolding side_links subports_of_side
  side_has_link d w e =
      flat_map_member (wire_of m d) _ e.from (subports_of_side m e.x.node d)
      (flat_map_member (subports_of_port m d) e.from (slot_of M.node e.x) (ports_of_side m d e.x.node)
      (subst (λ (b : Direction). Member (slot_of M.node e.x) (ports_of_side m b e.x.node)) e.side (side_has f e.x e.is_seen.0)) e.listed)
      e.wired

  -- links at different subports are different wires
  links_apart : (d : Direction) (x y : model.InnerPlace) (v w : SubportLink) → LinkIs m M x v → LinkIs m M y w → Ahead (λ (u : SubportLink). u.from.port.0) link_offset v w → wire_from m d v ≡ wire_from m d w → ⊥
  links_apart d x y v w k l a e =
      let q = same_from f x y v w k l (sym (own_end d _ (place_of m v.to)) ∙ (ap (end_on d) e ∙ own_end d _ (place_of m w.to))) in
      let s = q.0 in
      let t = q.1 in
      ⊎_elim (λ h. omega arith) (λ h. let u = h.1 in omega arith) a

module _ {m : MultiPortGraph} {M : Model} {B : Book} (r : Rel m M B) where
  side_lists : (n : ℕ) (k : NodeMeta) → BlockIs m M n k → (d : Direction) → Lists m d B.wires (λ w. (end_on d w).node ≡ n) (side_links m d n)
  side_lists n k b d =
      record {
        apart = rising_as (Ahead (λ (u : SubportLink). u.from.port.0) link_offset) (λ v w. Apart (wire_from m d v) (wire_from m d w)) (side_links m d n)
            (λ v w i j a.
            let p = side_link r.fine n b.0 d v i in
            let q = side_link r.fine n b.0 d w j in
            links_apart r.fine d _ _ v w p.1 q.1 a)
            (block_links_rise (record { model = M; fine = r.fine }) n (is_block_lem r.fine n k b) (One d));
        only = λ a i.
            let p = side_link r.fine n b.0 d a i in
            (r.wires.walks _ (link_wire r.fine _ a p.1), ap (λ (x : Place). x.node) (own_end d _ (place_of m a.to) ∙ from_place r.fine _ a p.1));
        all = λ w i e.
            let g = wire_found r.fine d w (r.wires.booked w i) in
            let p : g.x.node ≡ n = sym (ap (λ (x : Place). x.node) g.at) ∙ e in
            let a : SubportLink = placed_link m g.from g.to in
            (a, subst (λ (c : ℕ). Member a (side_links m d c)) p (side_has_link r.fine d w g), g.is);
      }

  -- the block of the graph that a block of the book is
  pub block_booked : (n : ℕ) → InBook B n → (k : NodeMeta) × BlockIs m M n k
  block_booked n b = let k = r.blocks.right b.0 b.1 in (k.0, subst (λ (c : ℕ). BlockIs m M c k.0) b.2 k.1)

  -- Where a port of the book stands.

  -- a number that is no block's port stands nowhere
  spot_none : (p : ℕ) → ((x : model.InnerPlace) → Seen m M x → slot_of M.node x ≡ p → ⊥) → (l : List Block) → ((b : Block) → Member b l → Right m M b) → spot_of l p ≡ places.nowhere
  unfolding spot_of
  spot_none p h [] right = refl
  spot_none p h (b ∷ l) right =
      let k = right b (inl refl) in
      past_block b.node p k.0 b.ins b.outs (spot_of l p) k.2 k.3 (λ d i v e. h (inner# b.node d i) (rw k.1.1 v, k.1.0) (rw k.1.1 (sym e)))
      ∙ spot_none p h l (λ c i. right c (inr i))

  -- a port of the book is a port of a block, and stands where its place is
  pub spot_back : (p n : ℕ) (d : Direction) (i : ℕ) → spot_of B.blocks p ≡ spot n d i → Seen m M (inner# n d i) × (slot_of M.node (inner# n d i) ≡ p)
  spot_back p n d i e = go (seen m p) refl
    where
      other : (v : Port) → seen m p ≡ v → ((c : ℕ) (a : Direction) → v ≡ visible c a → ⊥) → Seen m M (inner# n d i) × (slot_of M.node (inner# n d i) ≡ p)
      other v q h =
          let z = spot_none p (λ x s t. h x.node x.side (sym q ∙ (ap (seen m) (sym t) ∙ seen_block r.fine x s))) B.blocks r.blocks.right in
          absurd (zero_is_not_one (cc))

      go : (v : Port) → seen m p ≡ v → Seen m M (inner# n d i) × (slot_of M.node (inner# n d i) ≡ p)
      go dead q = other dead q (λ c a t. zero_is_not_one (cc))
      go hidden q = other hidden q (λ c a t. zero_is_not_one (cc))
      go (visible c a) q =
          let k = block_seen r.fine p c a q in
          let t : spot k.place.node k.place.side k.place.pos ≡ spot n d i = sym (spot_at r k.place k.is_seen p k.slot) ∙ e in
          let z : k.place ≡ inner# n d i = same_place_lem k.place (inner# n d i) (cc) (cc) (cc) in
          (subst (Seen m M) z k.is_seen, ap (slot_of M.node) (sym z) ∙ k.slot)

  -- exactly one port stands at a place of a block
  stands : (x : model.InnerPlace) → Seen m M x → (o : ℕ) → at_spot (spot_of B.blocks (slot_of M.node x)) (lift x o) ≡ true
  stands x s o = ap (λ (t : Spot). at_spot t (lift x o)) (spot_of_lem r x s) ∙ at_spot_here x.node x.side x.pos (lift x o) refl refl refl

  stands_only : (x : model.InnerPlace) (o p : ℕ) → at_spot (spot_of B.blocks p) (lift x o) ≡ true → slot_of M.node x ≡ p
  unfolding at_spot
  stands_only x o p = go (spot_of B.blocks p) refl
    where
      go : (t : Spot) → spot_of B.blocks p ≡ t → at_spot t (lift x o) ≡ true → slot_of M.node x ≡ p
      go places.nowhere e h = absurd (zero_is_not_one (cc))
      go (spot n d i) e h =
          let k = at_spot_is n d i (lift x o) h in
          let z : x ≡ inner# n d i = same_place_lem x (inner# n d i) k.0 k.1 k.2 in
          ap (slot_of M.node) z ∙ (spot_back p n d i e).1

  -- Far ends.

  -- a link is not skipped exactly if its far port is out of the range
  module _ (d : Direction) (lo hi : ℕ) (x : model.InnerPlace) (w : SubportLink) (l : LinkIs m M x w) where
    far_out : not_skipped lo hi w ≡ true → OutOfRange B lo hi (far_from d (wire_from m d w))
    far_out t p e a b =
        let y = far_of_link r.fine x w l in
        let q : slot_of M.node y.at ≡ p = stands_only y.at y.offset p (subst (λ (v : Place). at_spot (spot_of B.blocks p) v ≡ true) (far_end d _ _ ∙ y.place) e) in
        let z = y.port in
        let c : leb hi w.to.port.0 ≡ true = subst (λ (v : Bool). cond v (leb hi w.to.port.0) true ≡ true) (le-leb lo w.to.port.0 (omega arith)) t in
        let h = leb-true hi w.to.port.0 c in
        omega arith

    out_far : OutOfRange B lo hi (far_from d (wire_from m d w)) → not_skipped lo hi w ≡ true
    out_far h = go (leb lo w.to.port.0) (leb hi w.to.port.0) refl refl
      where
        go : (a b : Bool) → leb lo w.to.port.0 ≡ a → leb hi w.to.port.0 ≡ b → cond a b true ≡ true
        go true true s t = refl
        go true false s t =
            let y = far_of_link r.fine x w l in
            absurd
            (h w.to.port.0
            (subst (λ (v : Place). at_spot (spot_of B.blocks w.to.port.0) v ≡ true) (sym (far_end d _ _ ∙ y.place))
            (subst (λ (p : ℕ). at_spot (spot_of B.blocks p) (lift y.at y.offset) ≡ true) (sym y.port) (stands y.at y.is_seen y.offset)))
            (leb-true lo _ s) (leb-false hi _ t))
        go false b s t = refl

  -- a link is not ignored exactly if the flag is not set or its far end is not on the node's own outgoing side
  module _ (d : Direction) (n : ℕ) (flag : Bool) (x : model.InnerPlace) (w : SubportLink) (l : LinkIs m M x w) where
    far_side : (y : Place) × (far_from d (wire_from m d w) ≡ y) × (seen m w.to.port.0 ≡ visible y.node y.side)
    far_side =
        let y = far_of_link r.fine x w l in
        (lift y.at y.offset, far_end d _ _ ∙ y.place, ap (seen m) y.port ∙ seen_block r.fine y.at y.is_seen)

    kept_not_own : not_ignored m n flag w ≡ true → NotOwnOutput n flag (far_from d (wire_from m d w))
    kept_not_own t e a b =
        let y = far_side in
        let p : y.0.node ≡ n = ap (λ (v : Place). v.node) (sym y.1) ∙ a in
        let q : y.0.side ≡ Outgoing = ap (λ (v : Place). v.side) (sym y.1) ∙ b in
        let z : not_ignored m n flag w ≡ false = rw (e, y.2, q, eq-eqb y.0.node n p) in
        zero_is_not_one (cc)

    not_own_kept : NotOwnOutput n flag (far_from d (wire_from m d w)) → not_ignored m n flag w ≡ true
    not_own_kept h = go flag refl
      where
        y : (y : Place) × (far_from d (wire_from m d w) ≡ y) × (seen m w.to.port.0 ≡ visible y.node y.side)
        y = far_side

        own : (a : Bool) (s : Direction) → eqb y.0.node n ≡ a → y.0.side ≡ s → flag ≡ true → cond (cond a (same_side s Outgoing) false) false true ≡ true
        own true Outgoing p q e =
            absurd (h e (ap (λ (v : Place). v.node) y.1 ∙ eqb-true _ _ p) (ap (λ (v : Place). v.side) y.1 ∙ q))
        own true Incoming p q e = refl
        own false s p q e = refl

        go : (b : Bool) → flag ≡ b → not_ignored m n b w ≡ true
        go true e = rw y.2 (own (eqb y.0.node n) y.0.side refl refl e)
        go false e = refl

  -- The listings.

  node_links_list : (n : ℕ) (k : NodeMeta) → BlockIs m M n k → (lo hi : ℕ) (d : Direction) →
      Lists m d B.wires (λ w. ((end_on d w).node ≡ n) × OutOfRange B lo hi (far_from d w)) (filter (not_skipped lo hi) (side_links m d n))
  node_links_list n k b lo hi d =
      lists_filter (side_lists n k b d) (not_skipped lo hi) (λ w. OutOfRange B lo hi (far_from d w))
      (λ a i. let l = side_link r.fine n b.0 d a i in far_out d lo hi _ a l.1)
      (λ a i. let l = side_link r.fine n b.0 d a i in out_far d lo hi _ a l.1)

  neighbour_links_list : (n : ℕ) (k : NodeMeta) → BlockIs m M n k → (flag : Bool) (d : Direction) →
      Lists m d B.wires (λ w. ((end_on d w).node ≡ n) × NotOwnOutput n flag (far_from d w)) (filter (not_ignored m n flag) (side_links m d n))
  neighbour_links_list n k b flag d =
      lists_filter (side_lists n k b d) (not_ignored m n flag) (λ w. NotOwnOutput n flag (far_from d w))
      (λ a i. let l = side_link r.fine n b.0 d a i in kept_not_own d n flag _ a l.1)
      (λ a i. let l = side_link r.fine n b.0 d a i in not_own_kept d n flag _ a l.1)

  connections_list : (n : ℕ) (k : NodeMeta) → BlockIs m M n k → (c : ℕ) →
      Lists m Outgoing B.wires (λ w. (w.out.node ≡ n) × (w.into.node ≡ c)) (connections m n c)
  unfolding connections place_of
  connections_list n k b c =
      lists_filter (side_lists n k b Outgoing) (λ (w : SubportLink). eqb (owner_of m.graph w.to.port.0) c) (λ w. w.into.node ≡ c)
      (λ a i t. eqb-true _ _ t) (λ a i e. eq-eqb _ _ e)

  -- The links of a port.

  port_lists : (x : model.InnerPlace) → Seen m M x →
      Lists m x.side B.wires (λ w. touches (at_spot (spot x.node x.side x.pos)) w ≡ true) (port_links m (slot_of M.node x))
  port_lists x s =
      record {
        apart = rising_as (λ v w. link_offset v < link_offset w) (λ v w. Apart (wire_from m x.side v) (wire_from m x.side w)) (port_links m (slot_of M.node x))
            (λ v w i j a.
            let p = port_link_lem r.fine x s v i in
            let q = port_link_lem r.fine x s w j in
            links_apart r.fine x.side x x v w p q (inr (sym p.slot ∙ q.slot, a)))
            (port_links_rise m (slot_of M.node x));
        only = λ a i.
            let p = port_link_lem r.fine x s a i in (
              r.wires.walks _ (link_wire r.fine x a p),
              own_touches x.side (at_spot (spot x.node x.side x.pos)) _ _
                  (ap (at_spot (spot x.node x.side x.pos)) (from_place r.fine x a p) ∙ at_spot_here x.node x.side x.pos _ refl refl refl),
            );
        all = λ w i t.
            port_has_link r.fine x s w (r.wires.booked w i) (touched_own r.fine w (r.wires.booked w i) x.node x.side x.pos t);
      }

  -- a number that stands nowhere in the book lists nothing
  no_port_links : (p : ℕ) → spot_of B.blocks p ≡ places.nowhere → port_links m p ≡ []
  unfolding port_links
  no_port_links p e = go (seen m p) refl
    where
      go : (v : Port) → seen m p ≡ v → port_links_seen m p v ≡ []
      go dead q = refl
      go hidden q = refl
      go (visible n d) q =
          let k = block_seen r.fine p n d q in
          let t = spot_at r k.place k.is_seen p k.slot in
          absurd (zero_is_not_one (cc))

  -- The blocks of the graph are those of the book.

  booked_block : (n : ℕ) → is_block m n ≡ true → InBook B n
  booked_block n b = let k = block_at r.fine n b in r.blocks.all n k.0 k.1

  -- The listings of any graph that goes with a book.

  pub side_listing : (d : Direction) (n : ℕ) → InBook B n → Exactly B.wires (λ w. (end_on d w).node ≡ n) (map (wire_from m d) (side_links m d n))
  side_listing d n b = let k = block_booked n b in lists_exactly (side_lists n k.0 k.1 d)

  pub port_listing : (p n : ℕ) (d : Direction) (i : ℕ) → spot_of B.blocks p ≡ spot n d i →
      Exactly B.wires (λ w. touches (at_spot (spot n d i)) w ≡ true) (map (wire_from m d) (port_links m p))
  port_listing p n d i e =
      let s = spot_back p n d i e in
      subst (λ (q : ℕ). Exactly B.wires (λ w. touches (at_spot (spot n d i)) w ≡ true) (map (wire_from m d) (port_links m q))) s.1
      (lists_exactly (port_lists (inner# n d i) s.0))

  pub node_listing : (n : ℕ) → InBook B n → (sides : Sides) (lo hi : ℕ) →
      OverSides (λ d l. Exactly B.wires (λ w. ((end_on d w).node ≡ n) × OutOfRange B lo hi (far_from d w)) (map (wire_from m d) l)) sides (node_links m n sides lo hi)
  unfolding node_links
  node_listing n b (One d) lo hi = let k = block_booked n b in lists_exactly (node_links_list n k.0 k.1 lo hi d)
  node_listing n b Both lo hi =
      let k = block_booked n b in (
        filter (not_skipped lo hi) (side_links m Incoming n),
        filter (not_skipped lo hi) (side_links m Outgoing n),
        filter-append (not_skipped lo hi) (side_links m Incoming n) (side_links m Outgoing n),
        lists_exactly (node_links_list n k.0 k.1 lo hi Incoming),
        lists_exactly (node_links_list n k.0 k.1 lo hi Outgoing),
      )

  pub neighbours_listing : (n : ℕ) → InBook B n → (sides : Sides) (flag : Bool) →
      OverSides (λ d. FarNodes B.wires (λ w. ((end_on d w).node ≡ n) × NotOwnOutput n flag (far_from d w)) d) sides (neighbours m n sides flag)
  unfolding neighbours neighbour_links
  neighbours_listing n b (One d) flag =
      let k = block_booked n b in
      (_, lists_exactly (neighbour_links_list n k.0 k.1 flag d), far_nodes m d (filter (not_ignored m n flag) (side_links m d n)))
  neighbours_listing n b Both flag =
      let k = block_booked n b in
      let a = filter (not_ignored m n flag) (side_links m Incoming n) in
      let c = filter (not_ignored m n flag) (side_links m Outgoing n) in (
        map (λ (w : SubportLink). owner_of m.graph w.to.port.0) a,
        map (λ (w : SubportLink). owner_of m.graph w.to.port.0) c,
        ap (map (λ (w : SubportLink). owner_of m.graph w.to.port.0)) (filter-append (not_ignored m n flag) (side_links m Incoming n) (side_links m Outgoing n))
            ∙ map-append (λ (w : SubportLink). owner_of m.graph w.to.port.0) a c,
        (map (wire_from m Incoming) a, lists_exactly (neighbour_links_list n k.0 k.1 flag Incoming), far_nodes m Incoming a),
        (map (wire_from m Outgoing) c, lists_exactly (neighbour_links_list n k.0 k.1 flag Outgoing), far_nodes m Outgoing c),
      )

  pub connections_listing : (n k : ℕ) → InBook B n → Exactly B.wires (λ w. (w.out.node ≡ n) × (w.into.node ≡ k)) (map (wire_from m Outgoing) (connections m n k))
  connections_listing n k b = let a = block_booked n b in lists_exactly (connections_list n a.0 a.1 k)

-- what holds of each side walked holds of a list over sides
pub over_sides : {A : Type 0} {P Q : Direction → List A → Type 0} → ((d : Direction) (l : List A) → P d l → Q d l) → (sides : Sides) (l : List A) → OverSides P sides l → OverSides Q sides l
over_sides h (One d) l e = h d l e
over_sides h Both l e = (e.0, e.1, e.2, h Incoming e.0 e.3, h Outgoing e.1 e.4)

-- 1. The links of a side of a block, either side, are exactly the book's wires with an end on that side of that block, each once.
pub listings_are_wires_of_side : (release : Release) (calls : List Call) (d : Direction) (n : ℕ) → InBook (run release calls).book n →
    Exactly (run release calls).book.wires (λ w. (end_on d w).node ≡ n) (map (wire_from (run release calls).graph d) (side_links (run release calls).graph d n))
listings_are_wires_of_side release calls = side_listing (rel_run release calls).1

-- 2. The links of a port of the book, at the spot n, d, i, are exactly the book's wires with an end at that port, each once;
pub listings_are_wires_of_port : (release : Release) (calls : List Call) (p n : ℕ) (d : Direction) (i : ℕ) → spot_of (run release calls).book.blocks p ≡ spot n d i →
    Exactly (run release calls).book.wires (λ w. touches (at_spot (spot n d i)) w ≡ true) (map (wire_from (run release calls).graph d) (port_links (run release calls).graph p))
listings_are_wires_of_port release calls = port_listing (rel_run release calls).1

-- and a number that is no port of the book lists nothing.
pub listings_are_wires_of_no_port : (release : Release) (calls : List Call) (p : ℕ) → spot_of (run release calls).book.blocks p ≡ places.nowhere → port_links (run release calls).graph p ≡ []
listings_are_wires_of_no_port release calls p = no_port_links (rel_run release calls).1 p

-- 3. The links of a block over one side or both, with a range of ports skipped: on each side walked, exactly the book's wires with an
-- end there whose far port is not in the range, its end excluded, each once. A wire from a block to itself so comes twice where both
-- sides are walked.
pub listings_are_wires_of_node : (release : Release) (calls : List Call) (n : ℕ) → InBook (run release calls).book n → (sides : Sides) (lo hi : ℕ) →
    OverSides
    (λ d l. Exactly (run release calls).book.wires (λ w. ((end_on d w).node ≡ n) × OutOfRange (run release calls).book lo hi (far_from d w)) (map (wire_from (run release calls).graph d) l))
    sides (node_links (run release calls).graph n sides lo hi)
listings_are_wires_of_node release calls = node_listing (rel_run release calls).1

-- 4. The neighbours of a block over one side or both: on each side walked, one node for each of the book's wires with an end there,
-- that of the far end; with the flag, wires whose far end is on the block's own outgoing side are left out, and no others.
pub listings_are_wires_of_neighbours : (release : Release) (calls : List Call) (n : ℕ) → InBook (run release calls).book n → (sides : Sides) (flag : Bool) →
    OverSides (λ d. FarNodes (run release calls).book.wires (λ w. ((end_on d w).node ≡ n) × NotOwnOutput n flag (far_from d w)) d) sides (neighbours (run release calls).graph n sides flag)
listings_are_wires_of_neighbours release calls = neighbours_listing (rel_run release calls).1

-- 5. The connections from one block's outgoing side to another are exactly the book's wires from the one to the other, each once.
pub listings_are_wires_between : (release : Release) (calls : List Call) (n k : ℕ) → InBook (run release calls).book n →
    Exactly (run release calls).book.wires (λ w. (w.out.node ≡ n) × (w.into.node ≡ k)) (map (wire_from (run release calls).graph Outgoing) (connections (run release calls).graph n k))
listings_are_wires_between release calls = connections_listing (rel_run release calls).1

-- The blocks at which walks start are the blocks of the book.
pub blocks_are_booked : (release : Release) (calls : List Call) (n : ℕ) → (is_block (run release calls).graph n ≡ true) ↔ InBook (run release calls).book n
blocks_are_booked release calls n =
    let r = (rel_run release calls).1 in
    (booked_block r n, (λ b. let k = block_booked r n b in is_block_lem r.fine n k.0 k.1))
