-- Links as they are listed at a port, as links between ends: each listed link is a wire, and every wire is listed at the port of its end on
-- either side.
use Rattle.std.specs.Prelude.{◌≡◌, Bool, ℕ, ◌<◌, ◌≤◌, Option, Result}
use Rattle.std.proofs.Math.Path.{refl, sym, ap, subst}
use Rattle.std.proofs.Common.{◌∙◌, inr, arith}
use Rattle.std.proofs.Math.Bool.{true, false, cond}
use mathlib.Core.List.{[], ◌∷◌, flat_map, map}
use Rattle.std.proofs.Math.Logic.{inl, ⊎_elim}
use Rattle.std.proofs.Math.Dec.{ltb}
use borrow.Author.Tests.{ltb-true}
use Rattle.port_tables.specs.Limits.{port_slots}
use Rattle.port_tables.specs.Lists.{range, Member}
use Rattle.portgraph.specs.Model as model
use Rattle.portgraph.specs.Model.{Model, Far, nowhere, to, slot_of, count_of}
use Rattle.portgraph.specs.Lookups.{port_link}
use Rattle.portgraph.specs.GoodSlots.{zero_is_not_one, same_place_lem, slot_in_range}
use Rattle.portgraph.specs.PlaceLaws.{port_link_to, port_link_none}
use Rattle.port_tables.specs.declared.direction.Direction.{Direction}
use Rattle.port_tables.specs.declared.direction.Direction.TheVariants.{Incoming, Outgoing}
use Rattle.multiportgraph.specs.Reading.{is_hidden, is_split, subports, subport_at, end_at, subport_of, standing, link_of_end, far_subport, copy_side}
use Rattle.multi_tables.specs.Forms.{End, inner, lacking, subport#, wire_to}
use Rattle.port_tables.specs.Places.{Place, Wire, spot, at_spot, touches, wire_of_sides, end_on, far_from}
use Rattle.multiportgraph.specs.Wires.{subports_of_port, wire_of, place_of}
use Rattle.multiportgraph.specs.Walks.{port_links}
use Rattle.multiportgraph.specs.WellFormed.{Fine, Seen, lift, outer, IsEnd, WireIn, copy_place}
use Rattle.multiportgraph.specs.Ends.{EndOf, lift_place, seen_block, ends_join_ends, out_side, into_side, outer_seen, outer_apart, end_read, place_of_sub, subport_of_lem, other_side, hangs, one_copy, end_side, outer_of_subport, outer_of_block, end_of_split, end_of_unsplit, wire_at}
use Rattle.multiportgraph.specs.LinkCutLaws.{at_spot_is}
use Rattle.port_tables.specs.Listing.{member_flat_map, flat_map_member, member_map, map_member, range_member}
use Rattle.multiportgraph.specs.declared.multiportgraph.MultiPortGraph.{MultiPortGraph}
use Rattle.multi_tables.specs.declared.answers.SubportIndex.{SubportIndex}
use Rattle.multi_tables.specs.declared.answers.SubportLink.{SubportLink}
use Rattle.theorems.specs.ListingClaims.{wire_from}
use Rattle.port_tables.specs.Entries.{reversed}
use Rattle.port_tables.specs.declared.index.PortIndex.{PortIndex}
use Rattle.portgraph.specs.declared.portgraph.NoSuchPort.{NoSuchPort}
use Rattle.std.proofs.lemmas.Bool.{or_right, or_cases}

-- the end of a port at which a wire ends is read as named
module _ {m : MultiPortGraph} {M : Model} (f : Fine m M) (x z : model.InnerPlace) (o : ℕ) (e : IsEnd m M z) (is : outer m M z ≡ lift x o) where
  slot_small : o ≤ z.pos → o < 65535
  slot_small h = let b : slot_of M.node z < port_slots = slot_in_range f.good z e.valid in omega arith

  pub end_named_lem : (o < 65535) × ((q : ℕ) × (end_at m (slot_of M.node x) x.side o ≡ inner q)) × (cond (is_split m (slot_of M.node x)) o 0 ≡ o)
  end_named_lem = go (is_hidden m z.node) refl
    where
      go : (b : Bool) → is_hidden m z.node ≡ b →
          (o < 65535) × ((q : ℕ) × (end_at m (slot_of M.node x) x.side o ≡ inner q)) × (cond (is_split m (slot_of M.node x)) o 0 ≡ o)
      go false h =
          let q = sym (outer_of_block f z h) ∙ is in
          let p : z ≡ x = lift_place q in
          let n : 0 ≡ o = ap (λ (v : Place). v.offset) q in
          let t : is_split m (slot_of M.node x) ≡ false = ap (λ (v : model.InnerPlace). is_split m (slot_of M.node v)) (sym p) ∙ e.unsplit h in
          (omega arith, (slot_of M.node x, end_of_unsplit f (slot_of M.node x) x.side o t), (rw (← n) (rw t refl)))
      go true h =
          let c = f.copy z.node h in
          let q = sym (outer_of_subport f z c.main h c.joined) ∙ is in
          let p : c.main ≡ x = lift_place q in
          let n : z.pos ≡ o = ap (λ (v : Place). v.offset) q in
          let j : M.join (copy_place m z.node) ≡ to x = c.joined ∙ ap to p in
          let t : is_split m (slot_of M.node x) ≡ true = f.main_marked z.node x h j in
          let k = hangs f z.node x h j in
          let a : z.node ≡ k.copy = one_copy f z.node k.copy x j k.from in
          let d : z.side ≡ x.side = end_side f z e h ∙ ap (λ (v : ℕ). reversed (copy_side m v)) a ∙ sym k.side in
          let l : o < count_of (M.node k.copy) x.side =
          subst (λ (v : ℕ). v < count_of (M.node k.copy) x.side) n
          (subst (λ (v : Direction). z.pos < count_of (M.node k.copy) v) d (subst (λ (v : ℕ). z.pos < count_of (M.node v) z.side) a e.valid)) in
          (slot_small (omega arith), (_, end_of_split f x o k t l), (rw t refl))

-- Listed links, as links between ends.

-- a link listed at a port x of a block: its end z there, and the end y that z is linked with
pub record LinkIs (m : MultiPortGraph) (M : Model) (x : model.InnerPlace) (w : SubportLink) : Type 0 where
  pub z : model.InnerPlace
  pub y : model.InnerPlace
  pub is_seen : Seen m M x
  pub end : IsEnd m M z
  pub side : z.side ≡ x.side
  pub own : outer m M z ≡ lift x w.from.subport_offset
  pub slot : slot_of M.node x ≡ w.from.port.0
  pub joined : M.join z ≡ to y
  pub far : w.to ≡ subport_of m (slot_of M.node y)
  pub stood : w.place ≡ standing m w.to

-- a wire, by its end z on a side
record EndIs (m : MultiPortGraph) (M : Model) (d : Direction) (w : Wire) : Type 0 where
  pub z : model.InnerPlace
  pub y : model.InnerPlace
  pub end : IsEnd m M z
  pub side : z.side ≡ d
  pub joined : M.join z ≡ to y
  pub is : w ≡ wire_of_sides d (outer m M z) (outer m M y)

-- a link as listed
abbrev pub placed_link : MultiPortGraph → SubportIndex → SubportIndex → SubportLink
placed_link m a b = record { from = a; to = b; place = standing m b }

-- a wire, by the port x of its end on a side and the link listed there
pub record Found (m : MultiPortGraph) (M : Model) (d : Direction) (w : Wire) : Type 0 where
  pub x : model.InnerPlace
  pub from : SubportIndex
  pub to : SubportIndex
  pub is_seen : Seen m M x
  pub side : x.side ≡ d
  pub at : end_on d w ≡ lift x from.subport_offset
  pub listed : Member from (subports_of_port m d (slot_of M.node x))
  pub wired : Member (placed_link m from to) (wire_of m d from)
  pub is : w ≡ wire_from m d (placed_link m from to)

pub own_end : (d : Direction) (x y : Place) → end_on d (wire_of_sides d x y) ≡ x
own_end Incoming x y = refl
own_end Outgoing x y = refl

pub far_end : (d : Direction) (x y : Place) → far_from d (wire_of_sides d x y) ≡ y
far_end Incoming x y = refl
far_end Outgoing x y = refl

pub own_touches : (d : Direction) (t : Place → Bool) (x y : Place) → t x ≡ true → touches t (wire_of_sides d x y) ≡ true
own_touches Incoming t x y e = or_right (t y) (t x) e
own_touches Outgoing t x y e = rw e

-- a listed subport stands at its port, with its offset as read
pub sub_read : (m : MultiPortGraph) (d : Direction) (p : ℕ) (s : SubportIndex) → Member s (subports_of_port m d p) →
    (s.port.0 ≡ p) × (cond (is_split m p) s.subport_offset 0 ≡ s.subport_offset)
unfolding subports_of_port
sub_read m d p s = go (is_split m p)
  where
    go : (b : Bool) → Member s (cond b (map (subport# p) (range 0 (subports m p d))) (subport# p 0 ∷ [])) → (s.port.0 ≡ p) × (cond b s.subport_offset 0 ≡ s.subport_offset)
    go true i = (ap (λ (t : SubportIndex). t.port.0) (member_map (subport# p) s (range 0 (subports m p d)) i).2, refl)
    go false (inl e) = (ap (λ (t : SubportIndex). t.port.0) e, sym (ap (λ (t : SubportIndex). t.subport_offset) e))
    go false (inr i) = absurd i

module _ {m : MultiPortGraph} {M : Model} (f : Fine m M) where
  pub wire_is : (x : model.InnerPlace) → Seen m M x → (o : ℕ) → cond (is_split m (slot_of M.node x)) o 0 ≡ o → (w : SubportLink) →
      Member w (wire_of m x.side (subport# (slot_of M.node x) o)) → LinkIs m M x w
  unfolding wire_of
  wire_is x s o c w = by_end (end_at m (slot_of M.node x) x.side o) refl
    where
      by_join : (q : ℕ) (r : EndOf m M x o q) (y : Far) → M.join r.end ≡ y → Member w (wire_to (subport# (slot_of M.node x) o) (link_of_end m (slot_of M.node x) (inner q))) → LinkIs m M x w
      by_join q r nowhere j i =
          absurd (subst (λ (v : Result (Option PortIndex) NoSuchPort). Member w (wire_to (subport# (slot_of M.node x) o) (far_subport m v))) (ap (port_link m.graph) (sym r.slot) ∙ port_link_none f.good f.holds r.end r.is_end.valid j) i)
      by_join q r (to y) j i =
          let h = subst (λ (v : Result (Option PortIndex) NoSuchPort). Member w (wire_to (subport# (slot_of M.node x) o) (far_subport m v))) (ap (port_link m.graph) (sym r.slot) ∙ port_link_to f.good f.holds r.end y r.is_end.valid j) i in
          let e : w ≡ placed_link m (subport# (slot_of M.node x) o) (subport_of m (slot_of M.node y)) = ⊎_elim (λ a. a) (λ a. absurd a) h in
          record {
            z = r.end;
            y = y;
            is_seen = s;
            end = r.is_end;
            side = r.side;
            own = r.is ∙ ap (lift x) (c ∙ sym (ap (λ (v : SubportLink). v.from.subport_offset) e));
            slot = sym (ap (λ (v : SubportLink). v.from.port.0) e);
            joined = j;
            far = ap (λ (v : SubportLink). v.to) e;
            stood = ap (λ (v : SubportLink). v.place) e ∙ sym (ap (λ (v : SubportLink). standing m v.to) e);
          }

      by_end : (v : End) → end_at m (slot_of M.node x) x.side o ≡ v → Member w (wire_to (subport# (slot_of M.node x) o) (link_of_end m (slot_of M.node x) v)) → LinkIs m M x w
      by_end lacking e i = absurd i
      by_end (inner q) e i = let r = end_read f x o q s e in by_join q r (M.join r.end) refl i

  -- a subport at which an end is read is listed at its port
  sub_listed : (p : ℕ) (d : Direction) (o q : ℕ) → end_at m p d o ≡ inner q → cond (is_split m p) o 0 ≡ o → Member (subport# p o) (subports_of_port m d p)
  unfolding subports_of_port end_at
  sub_listed p d o q e c = go (is_split m p) (ltb o (subports m p d)) refl e c
    where
      go : (a b : Bool) → ltb o (subports m p d) ≡ b → cond a (cond b (inner (subport_at m p d o)) lacking) (inner p) ≡ inner q → cond a o 0 ≡ o →
          Member (subport# p o) (cond a (map (subport# p) (range 0 (subports m p d))) (subport# p 0 ∷ []))
      go true true t e c = map_member (subport# p) o (range 0 (subports m p d)) (range_member o 0 (subports m p d) (omega arith) (let l = ltb-true o (subports m p d) t in omega arith))
      go true false t e c = absurd (zero_is_not_one (cc))
      go false b t e c = inl (ap (subport# p) (sym c))

  -- every link of an end is listed at the port that the end belongs to
  link_there : (z y : model.InnerPlace) → IsEnd m M z → M.join z ≡ to y → (x : model.InnerPlace) (o : ℕ) → Seen m M x → outer m M z ≡ lift x o →
      Member (subport# (slot_of M.node x) o) (subports_of_port m x.side (slot_of M.node x))
      × Member (placed_link m (subport# (slot_of M.node x) o) (subport_of m (slot_of M.node y))) (wire_of m x.side (subport# (slot_of M.node x) o))
  unfolding wire_of
  link_there z y e j x o s is =
      let n = end_named_lem f x z o e is in
      let r = end_read f x o n.1.0 s n.1.1 in
      let q : r.end ≡ z = outer_apart f r.end z r.is_end e (r.is ∙ (ap (lift x) n.2 ∙ sym is)) in
      let k : end_at m (slot_of M.node x) x.side o ≡ inner (slot_of M.node z) =
      n.1.1 ∙ ap inner (sym r.slot ∙ ap (slot_of M.node) q) in
      (sub_listed (slot_of M.node x) x.side o n.1.0 n.1.1 n.2, rw (k, port_link_to f.good f.holds z y e.valid j) (inl refl))

  -- As places.

  pub from_place : (x : model.InnerPlace) (w : SubportLink) → LinkIs m M x w → place_of m w.from ≡ lift x w.from.subport_offset
  from_place x w l =
      ap (λ (p : ℕ). place_of m (subport# p w.from.subport_offset)) (sym l.slot) ∙ place_of_sub f x w.from.subport_offset l.is_seen

  to_place : (x : model.InnerPlace) (w : SubportLink) (l : LinkIs m M x w) → place_of m w.to ≡ outer m M l.y
  to_place x w l = ap (place_of m) l.far ∙ subport_of_lem f l.y (ends_join_ends f l.z l.y l.end l.joined)

  -- a listed link is a wire
  pub link_wire : (x : model.InnerPlace) (w : SubportLink) → LinkIs m M x w → WireIn m M (wire_from m x.side w)
  link_wire x w l =
      let out : outer m M l.z ≡ place_of m w.from = l.own ∙ sym (from_place x w l) in
      let into : outer m M l.y ≡ place_of m w.to = sym (to_place x w l) in
      subst (WireIn m M) (λ i. wire_of_sides (l.side i) (out i) (into i)) (wire_at f l.z l.y l.end l.joined)

  -- two listed links with one own place are at one subport
  pub same_from : (x y : model.InnerPlace) (v w : SubportLink) → LinkIs m M x v → LinkIs m M y w → place_of m v.from ≡ place_of m w.from →
      (v.from.port.0 ≡ w.from.port.0) × (v.from.subport_offset ≡ w.from.subport_offset)
  same_from x y v w k l e =
      let q : lift x v.from.subport_offset ≡ lift y w.from.subport_offset = sym (from_place x v k) ∙ (e ∙ from_place y w l) in
      (sym k.slot ∙ (ap (slot_of M.node) (lift_place q) ∙ l.slot), ap (λ (p : Place). p.offset) q)

  -- a wire, by its end on a side
  end_of_wire : (d : Direction) (w : Wire) → WireIn m M w → EndIs m M d w
  end_of_wire Outgoing w e = record { z = e.x; y = e.y; end = e.end; side = e.outgoing; joined = e.joined; is = e.is }
  end_of_wire Incoming w e =
      record {
        z = e.y;
        y = e.x;
        end = ends_join_ends f e.x e.y e.end e.joined;
        side = other_side Outgoing e.y.side (λ q. f.good.join_sides e.x e.y e.joined (e.outgoing ∙ q));
        joined = f.good.join_back e.x e.y e.joined;
        is = e.is;
      }

  -- every wire is listed at the port of its end on a side
  pub wire_found : (d : Direction) (w : Wire) → WireIn m M w → Found m M d w
  wire_found d w e =
      let i = end_of_wire d w e in
      let r = outer_seen f i.z i.end in
      let l = link_there i.z i.y i.end i.joined r.main r.offset r.is_seen r.is in
      let own : place_of m (subport# (slot_of M.node r.main) r.offset) ≡ outer m M i.z = place_of_sub f r.main r.offset r.is_seen ∙ sym r.is in
      let far = subport_of_lem f i.y (ends_join_ends f i.z i.y i.end i.joined) in
      let p : r.main.side ≡ d = sym r.side ∙ i.side in
      let a : SubportLink = placed_link m (subport# (slot_of M.node r.main) r.offset) (subport_of m (slot_of M.node i.y)) in
      record {
        x = r.main;
        from = subport# (slot_of M.node r.main) r.offset;
        to = subport_of m (slot_of M.node i.y);
        is_seen = r.is_seen;
        side = p;
        at = ap (end_on d) i.is ∙ (own_end d (outer m M i.z) (outer m M i.y) ∙ r.is);
        listed = subst (λ (b : Direction). Member (subport# (slot_of M.node r.main) r.offset) (subports_of_port m b (slot_of M.node r.main))) p l.0;
        wired = subst (λ (b : Direction). Member a (wire_of m b (subport# (slot_of M.node r.main) r.offset))) p l.1;
        is = i.is ∙ sym (λ j. wire_of_sides d (own j) (far j));
      }

  -- a wire that touches a port has its end of that port's side there
  pub touched_own : (w : Wire) → WireIn m M w → (n : ℕ) (d : Direction) (i : ℕ) → touches (at_spot (spot n d i)) w ≡ true → at_spot (spot n d i) (end_on d w) ≡ true
  touched_own w h n Outgoing i t =
      ⊎_elim (λ e. e) (λ e. let k = (at_spot_is n Outgoing i w.into e).1 in let q = into_side f w h in absurd (zero_is_not_one (cc))) (or_cases _ _ t)
  touched_own w h n Incoming i t =
      ⊎_elim (λ e. let k = (at_spot_is n Incoming i w.out e).1 in let q = out_side f w h in absurd (zero_is_not_one (cc))) (λ e. e) (or_cases _ _ t)

  port_links_are : (x : model.InnerPlace) → Seen m M x → port_links m (slot_of M.node x) ≡ flat_map (wire_of m x.side) (subports_of_port m x.side (slot_of M.node x))
  unfolding port_links
  port_links_are x s = rw (seen_block f x s) refl

  pub port_link_lem : (x : model.InnerPlace) → Seen m M x → (w : SubportLink) → Member w (port_links m (slot_of M.node x)) → LinkIs m M x w
  port_link_lem x s w i =
      let g = member_flat_map (wire_of m x.side) w (subports_of_port m x.side (slot_of M.node x)) (subst (Member w) (port_links_are x s) i) in
      let t = sub_read m x.side (slot_of M.node x) g.0 g.1 in
      wire_is x s g.0.subport_offset t.1 w (subst (λ (p : ℕ). Member w (wire_of m x.side (subport# p g.0.subport_offset))) t.0 g.2)

  -- every wire with its end there is listed
  pub port_has_link : (x : model.InnerPlace) → Seen m M x → (w : Wire) → WireIn m M w → at_spot (spot x.node x.side x.pos) (end_on x.side w) ≡ true →
      (a : SubportLink) × Member a (port_links m (slot_of M.node x)) × (w ≡ wire_from m x.side a)
  port_has_link x s w h e =
      let g = wire_found x.side w h in
      let k = at_spot_is x.node x.side x.pos (end_on x.side w) e in
      let at = g.at in
      let z : g.x ≡ x = same_place_lem g.x x (ap (λ (v : Place). v.node) (sym g.at) ∙ k.0) g.side (ap (λ (v : Place). v.pos) (sym g.at) ∙ k.2) in
      let a : SubportLink = placed_link m g.from g.to in (
        a,
        subst (Member a) (sym (port_links_are x s))
            (flat_map_member (wire_of m x.side) a g.from (subports_of_port m x.side (slot_of M.node x))
            (subst (λ (y : model.InnerPlace). Member g.from (subports_of_port m x.side (slot_of M.node y))) z g.listed) g.wired),
        g.is,
      )
