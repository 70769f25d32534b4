-- Where an end that is answered, or given by a walk, stands: at the far end of the book's wire.
use Rattle.std.specs.Prelude.{◌≡◌, Bool, true, false, cond, List, [], ◌∷◌, ℕ, zero, suc, Option, Some, None, Result, Ok, Err}
use Rattle.std.proofs.Math.Path.{refl}
use Rattle.std.proofs.Common.{sym, ◌∙◌, ap, subst, inl, arith, ltb-true, eq-eqb}
use Rattle.port_tables.specs.Limits.{node_slots}
use Rattle.port_tables.specs.Lists.{range, Member}
use Rattle.portgraph.specs.Model as model
use Rattle.portgraph.specs.Model.{Model, Far, nowhere, to, slot_of}
use Rattle.portgraph.specs.GoodSlots.{zero_is_not_one}
use Rattle.port_tables.specs.declared.direction.Direction.{Direction}
use Rattle.port_tables.specs.declared.direction.Direction.TheVariants.{Outgoing}
use Rattle.port_tables.specs.declared.release.Release.{Release}
use Rattle.multiportgraph.specs.Reading.{is_split, seen, end_at, as_read, subport_of, standing, link_of_end, port_place}
use Rattle.multi_tables.specs.Forms.{Port, dead, hidden, visible, End, inner, lacking, subport#, good_offset}
use Rattle.multiportgraph.specs.Calls.{subport_link, cut_port}
use Rattle.multiportgraph.specs.Cases.{link_of_seen, cut_seen}
use Rattle.multiportgraph.specs.CaseLaws.{subport_link_cases}
use Rattle.multiportgraph.proofs.CutLaws.{cut_cases}
use Rattle.multi_tables.specs.EndAnswers.{unplaced}
use Rattle.port_tables.specs.Places.{Place, spot, wire_of_sides}
use Rattle.multiportgraph.specs.Wires.{is_block, blocks, side_links, all_wires, place_of, step_wires, first_item}
use Rattle.multiportgraph.specs.Walks.{port_links_seen, port_links, not_skipped, node_links, connections, step_links, step_connections}
use Rattle.multiportgraph.specs.WellFormed.{inner#}
use Rattle.multiportgraph.specs.Ends.{block_seen}
use Rattle.port_tables.specs.Listing.{member_right, member_filter, member_flat_map}
use Rattle.multiportgraph.specs.ScanLaws.{block_not_hidden}
use Rattle.multiportgraph.specs.declared.multiportgraph.MultiPortGraph.{MultiPortGraph}
use Rattle.multi_tables.specs.declared.answers.SubportIndex.{SubportIndex}
use Rattle.multi_tables.specs.declared.answers.SubportLink.{SubportLink}
use Rattle.multi_tables.specs.declared.answers.PortPlace.{PortPlace}
use Rattle.multiportgraph.specs.declared.multiportgraph.PortUnlinked.{PortUnlinked}
use Rattle.multi_tables.specs.declared.answers.Refusal.TheVariants.{BadOffset}
use Rattle.multiportgraph.specs.declared.iter.NodeLinks.{NodeLinks}
use Rattle.multiportgraph.specs.declared.iter.NodeConnections.{NodeConnections}
use Rattle.multiportgraph.specs.declared.iter.Wires.{Wires}
use Rattle.theorems.specs.Book.{Call}
use Rattle.theorems.specs.History.{State, run}
use Rattle.theorems.proofs.WireRule.{Rel, spot_at}
use Rattle.theorems.proofs.CallLaws.{rel_run}
use Rattle.theorems.specs.AnswerClaims.{wire_between, PortOfBlock, EndThere}
use Rattle.theorems.proofs.AnswerWires.{place_at, asked_linked, asked_far, found_link, found_booked, here, itself, read_plain, cut_linked, cut_free, cut_split}
use Rattle.theorems.specs.ListedLinks.{LinkIs, far_end, from_place, link_wire, port_link_lem}
use Rattle.theorems.proofs.ListingWires.{side_link}
use Rattle.theorems.specs.BlockWalkLaws.{by_sides_member}
use Rattle.theorems.specs.WalkHeldLaws.{port_links_give, port_links_give_back, links_give, links_end, connections_give, connections_end}
use Rattle.theorems.proofs.WiresHeld.{wires_give}
use Rattle.theorems.specs.PlaceClaims.{FarStands, OwnPlace, PlacesAreWires}
use Rattle.multi_tables.specs.declared.answers.Refusal.{Refusal}
use Rattle.multiportgraph.specs.LowerSteps.{link_cut}
use Rattle.std.proofs.lemmas.Option.{some_pair_parts}

-- a wire of the book between two subports, and where the second one stands
far_stands : (s : State) (near far : SubportIndex) (x : PortPlace) → Member (wire_between s.graph near far) s.book.wires → x ≡ standing s.graph far → FarStands s near far x
far_stands s near far x i e =
    record {
      wire = wire_between s.graph near far;
      is = refl;
      booked = i;
      stands = e ∙ ap port_place (sym (far_end (place_of s.graph near).side (place_of s.graph near) (place_of s.graph far)));
    }

-- Answers.

-- where something is found, the end named is there
end_there : (m : MultiPortGraph) (p o : ℕ) (t : SubportIndex) (x : PortPlace) → subport_link m p o ≡ Ok (Some (t, x)) → EndThere m p o
end_there m p o t x a = good (good_offset o) refl (sym (subport_link_cases m p o) ∙ a)
  where
    ends : (n : ℕ) (d : Direction) → good_offset o ≡ true → seen m p ≡ visible n d → (e : End) → end_at m p d o ≡ e → link_of_end m p e ≡ Ok (Some (t, x)) → EndThere m p o
    ends n d g s lacking e h = absurd (zero_is_not_one (cc))
    ends n d g s (inner q) e h = record { node = n; side = d; in_port = q; shown = s; small = let l = ltb-true o 65535 g in omega arith; there = e }

    ports : good_offset o ≡ true → (v : Port) → seen m p ≡ v → link_of_seen m p o v ≡ Ok (Some (t, x)) → EndThere m p o
    ports g dead s h = absurd (zero_is_not_one (cc))
    ports g hidden s h = absurd (zero_is_not_one (cc))
    ports g (visible n d) s h = ends n d g s (end_at m p d o) refl h

    good : (b : Bool) → good_offset o ≡ b → cond b (link_of_seen m p o (seen m p)) (Err BadOffset) ≡ Ok (Some (t, x)) → EndThere m p o
    good true g h = ports g (seen m p) refl h
    good false g h = absurd (zero_is_not_one (cc))

-- a port that is cut and found something is a block's
port_there : (m : MultiPortGraph) (p : ℕ) (u : SubportIndex) (x : PortPlace) → (cut_port m p).answer ≡ Ok (Some (u, x)) → PortOfBlock m p
port_there m p u x a = go (seen m p) refl (sym (ap (λ (v : PortUnlinked). v.answer) (cut_cases m p)) ∙ a)
  where
    go : (v : Port) → seen m p ≡ v → (cut_seen m p v).answer ≡ Ok (Some (u, x)) → PortOfBlock m p
    go dead s h = absurd (zero_is_not_one (cc))
    go hidden s h = absurd (zero_is_not_one (cc))
    go (visible n d) s h = (n, d, s)

found_place : {t u : SubportIndex} {x y : PortPlace} → ◌≡◌ {A = Result (Option (SubportIndex × PortPlace)) Refusal} (Ok (Some (t, x))) (Ok (Some (u, y))) → x ≡ y
found_place {t} {u} {x} {y} e = ap place_in e
  where
    place_in : Result (Option (SubportIndex × PortPlace)) Refusal → PortPlace
    place_in (Ok (Some (s, z))) = z
    place_in (Ok None) = x
    place_in (Err r) = x

found_end : {t u : SubportIndex} {x y : PortPlace} → ◌≡◌ {A = Result (Option (SubportIndex × PortPlace)) Refusal} (Ok (Some (t, x))) (Ok (Some (u, y))) → t ≡ u
found_end {t} {u} {x} {y} e = ap end_in e
  where
    end_in : Result (Option (SubportIndex × PortPlace)) Refusal → SubportIndex
    end_in (Ok (Some (s, z))) = s
    end_in (Ok None) = t
    end_in (Err r) = t

module _ (s : State) {M : Model} (r : Rel s.graph M s.book) where
  abbrev m : MultiPortGraph
  m = s.graph

  asked_stands : (p o : ℕ) (t : SubportIndex) (x : PortPlace) → subport_link m p o ≡ Ok (Some (t, x)) → FarStands s (as_read m p o) t x
  asked_stands p o t x a =
      let h = end_there m p o t x a in
      let k = found_link r.fine h t (ap unplaced a) in
      far_stands s (as_read m p o) t x (found_booked r h t (ap unplaced a))
      (found_place (sym a ∙ asked_linked r.fine h k.0 k.1) ∙ sym (ap (standing m) k.2))

  plain_stands : (p : ℕ) (u : SubportIndex) (x : PortPlace) → is_split m p ≡ false → (cut_port m p).answer ≡ Ok (Some (u, x)) → FarStands s (subport# p 0) (subport_of m u.port.0) x
  plain_stands p u x t a = go (M.join (itself r p b t)) refl
    where
      b : PortOfBlock m p
      b = port_there m p u x a

      go : (v : Far) → M.join (itself r p b t) ≡ v → FarStands s (subport# p 0) (subport_of m u.port.0) x
      go nowhere j = let k = cut_free r p b t j in absurd (zero_is_not_one (cc))
      go (to y) j =
          let k = sym a ∙ cut_linked r p b t y j in
          let e : u.port.0 ≡ slot_of M.node y = ap (λ (v : SubportIndex). v.port.0) (found_end k) in
          subst (λ (q : ℕ). FarStands s (subport# p 0) (subport_of m q) x) (sym e)
          (far_stands s (subport# p 0) (subport_of m (slot_of M.node y)) x
          (subst (λ (v : SubportIndex). Member (wire_between m v (subport_of m (slot_of M.node y))) s.book.wires) (read_plain r p b t)
          (found_booked r (here r p b t) (subport_of m (slot_of M.node y)) (asked_far r.fine (here r p b t) y j)))
          (found_place k))

  split_stands : (p : ℕ) (u : SubportIndex) (x : PortPlace) → is_split m p ≡ true → (cut_port m p).answer ≡ Ok (Some (u, x)) → OwnPlace s p x
  split_stands p u x t a =
      let b = port_there m p u x a in
      let c = block_seen r.fine p b.0 b.1 b.2 in
      let e : x ≡ port_place (place_of m (subport# p 0)) = found_place (sym a ∙ cut_split m p b t) in
      spot_at r c.place c.is_seen p c.slot
      ∙ sym (ap (λ (v : PortPlace). spot v.node.0 v.side v.position) (e ∙ ap port_place (place_at r.fine c.place c.is_seen p 0 c.slot)))

  -- Items of walks.

  link_stands : (x : model.InnerPlace) (w : SubportLink) → LinkIs m M x w → FarStands s w.from w.to w.place
  link_stands x w l =
      let d : x.side ≡ (place_of m w.from).side = sym (ap (λ (v : Place). v.side) (from_place r.fine x w l)) in
      far_stands s w.from w.to w.place
      (subst (λ (c : Direction). Member (wire_of_sides c (place_of m w.from) (place_of m w.to)) s.book.wires) d (r.wires.walks _ (link_wire r.fine x w l)))
      l.stood

  side_stands : (n : ℕ) → is_block m n ≡ true → (d : Direction) (w : SubportLink) → Member w (side_links m d n) → FarStands s w.from w.to w.place
  side_stands n b d w i = let l = side_link r.fine n (block_not_hidden m n b) d w i in link_stands (inner# n d l.0) w l.1

  port_stands : (p : ℕ) (w : SubportLink) → Member w (port_links m p) → FarStands s w.from w.to w.place
  unfolding port_links
  port_stands p w i = go (seen m p) refl i
    where
      go : (v : Port) → seen m p ≡ v → Member w (port_links_seen m p v) → FarStands s w.from w.to w.place
      go dead e h = absurd h
      go hidden e h = absurd h
      go (visible n d) e h =
          let c = block_seen r.fine p n d e in
          link_stands c.place w (port_link_lem r.fine c.place c.is_seen w (subst (λ (q : ℕ). Member w (port_links m q)) (sym c.slot) i))

  -- a walk of a block that gives something is one of a block
  links_block : (c d : NodeLinks) (w : SubportLink) → step_links m c ≡ Some (w, d) → is_block m c.node.0 ≡ true
  links_block c d w e = go (is_block m c.node.0) refl
    where
      go : (b : Bool) → is_block m c.node.0 ≡ b → b ≡ true
      go true h = refl
      go false h = let k = links_end m c h in absurd (zero_is_not_one (cc))

  connections_block : (c d : NodeConnections) (w : SubportLink) → step_connections m c ≡ Some (w, d) → is_block m c.node.0 ≡ true
  connections_block c d w e = go (is_block m c.node.0) refl
    where
      go : (b : Bool) → is_block m c.node.0 ≡ b → b ≡ true
      go true h = refl
      go false h = let k = connections_end m c h in absurd (zero_is_not_one (cc))

  links_stand : (c d : NodeLinks) (w : SubportLink) → step_links m c ≡ Some (w, d) → FarStands s w.from w.to w.place
  unfolding node_links
  links_stand c d w e =
      let i = (member_filter (not_skipped c.skip.from c.skip.to) w _ (links_give m c d w e).0).0 in
      let g = by_sides_member (λ a. side_links m a c.node.0) c.sides w i in
      side_stands c.node.0 (links_block c d w e) g.0 w g.1

  connections_stand : (c d : NodeConnections) (w : SubportLink) → step_connections m c ≡ Some (w, d) → FarStands s w.from w.to w.place
  unfolding connections
  connections_stand c d w e =
      side_stands c.node.0 (connections_block c d w e) Outgoing w (member_filter _ w (side_links m Outgoing c.node.0) (connections_give m c d w e).0).0

  wire_stands : (w : SubportLink) → Member w (all_wires m) → FarStands s w.from w.to w.place
  unfolding all_wires blocks
  wire_stands w i =
      let g = member_flat_map (side_links m Outgoing) w (blocks m) i in
      side_stands g.0 (member_filter (is_block m) g.0 (range 0 node_slots) g.1).1 Outgoing w g.2

-- what a step over all wires gives is listed
first_listed : (l : List SubportLink) (w : SubportLink) (d : Wires) → first_item l ≡ Some (w, d) → Member w l
first_listed (v ∷ l) w d e = inl (sym (some_pair_parts _ _ _ _ e).0)
first_listed [] w d e = absurd (zero_is_not_one (cc))

from_start : (m : MultiPortGraph) (c : Wires) → c.held.port ≡ 0 → step_wires m c ≡ first_item (all_wires m)
unfolding step_wires
from_start m c z = rw (eq-eqb c.held.port 0 z)

wire_listed : (release : Release) (calls : List Call) (c d : Wires) (w : SubportLink) (h : ℕ) → c.held.port ≡ h → step_wires (run release calls).graph c ≡ Some (w, d) → Member w (all_wires (run release calls).graph)
wire_listed release calls c d w zero z e = first_listed (all_wires (run release calls).graph) w d (sym (from_start (run release calls).graph c z) ∙ e)
wire_listed release calls c d w (suc p) z e =
    let g = (wires_give release calls c d p w z e).3 in
    subst (Member w) (sym g.whole) (member_right w g.before (w ∷ g.after) (inl refl))

-- The place that an answer or a walk's item gives is that of the far end of the book's wire; a split port that is cut answers its own.
pub places_are_wires : (release : Release) (calls : List Call) → PlacesAreWires (run release calls)
places_are_wires release calls =
    record {
      asks = asked_stands s r;
      cuts_sub = λ p o t x e. asked_stands s r p o t x (link_cut s.graph p o ∙ e);
      cuts_plain = plain_stands s r;
      cuts_split = split_stands s r;
      links = λ c d w e. port_stands s r c.port.0 w (port_links_give s.graph c d w e).0;
      links_back = λ c d w e. port_stands s r c.port.0 w (port_links_give_back s.graph c d w e).0;
      node_links = links_stand s r;
      connections = connections_stand s r;
      wires = λ c d w e. wire_stands s r w (wire_listed release calls c d w c.held.port refl e);
    }
  where
    s : State
    s = run release calls

    r : Rel (run release calls).graph (rel_run release calls).0 (run release calls).book
    r = (rel_run release calls).1
