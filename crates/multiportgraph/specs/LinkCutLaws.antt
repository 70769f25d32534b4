-- The empty graph; adding a block; linking two free ends; cutting an end; the calls on subports.
-- Each leaves a fine graph, with blocks and wires as said.
use Rattle.std.proofs.lemmas.Bool.{cases_Bool}
use Rattle.std.specs.Prelude.{◌≡◌, refl, Bool, true, false, cond, ◌||◌, List, [], ◌∷◌, ◌⊎◌, ℕ, ◌+◌, ◌-◌, ◌≤◌, eqb, leb, Option, Some, None, Result, Ok, Err}
use Rattle.std.proofs.Common.{sym, ◌∙◌, ap, subst, inl, inr, ⊎_elim, arith, eq-eqb, eqb-true, leb-true}
use Rattle.std.proofs.lemmas.List.{length-replicate}
use Rattle.port_tables.specs.Limits.{node_slots, port_slots, node_ports, present}
use Rattle.port_tables.specs.Lists.{Member}
use Rattle.portgraph.specs.Model as model
use Rattle.portgraph.specs.Model.{Model, Far, nowhere, to, gone, live, Good, Holds, Valid, slot_of, ports_of, total}
use Rattle.portgraph.specs.Meaning.{link_model, unlink_model, add_model, link_join, drop_join, same_place, next_slot, next_block, growth}
use Rattle.port_tables.specs.Entries.{same_side, meta_of}
use Rattle.port_tables.specs.Tables.{at, cut, link_count}
use Rattle.portgraph.specs.Calls.{link_ports, unlink_port, with_links, place_node}
use Rattle.port_tables.specs.TableSteps.{link_count_none}
use Rattle.portgraph.specs.LinkLaws.{cut_none}
use Rattle.portgraph.specs.PlaceLaws.{link_none}
use Rattle.portgraph.specs.Sums.{link_near, link_far, link_other, drop_kept, drop_joined, same_place_distinct, same_place_false, same_side_refl, same_side_true, upd_other, upd_same}
use Rattle.portgraph.specs.GoodSlots.{slots_apart, gone_not_live, upd_elim, joined_is_valid, slot_in_block}
use Rattle.portgraph.specs.GoodLaws.{empty_model, good_empty, good_link, good_unlink, good_add, link_elim, next_slot_gone}
use Rattle.portgraph.specs.LinkHolds.{new_holds, link_holds, link_done, unlink_holds, unlink_linked, unlink_free, link_accepted, LinkMade, total_none}
use Rattle.portgraph.specs.SlotHolds.{add_law, add_where, slot_room, block_room, place_holds}
use Rattle.port_tables.specs.declared.direction.Direction.{Direction}
use Rattle.port_tables.specs.declared.direction.Direction.TheVariants.{Incoming, Outgoing}
use Rattle.port_tables.specs.declared.node_entry.NodeMeta.{NodeMeta}
use Rattle.portgraph.specs.declared.portgraph.PortGraph.{PortGraph}
use Rattle.portgraph.specs.declared.alloc.NodeAdded.{NodeAdded}
use Rattle.multiportgraph.specs.Reading.{is_hidden, is_split, copy_side, seen, end_at, as_read, far_subport}
use Rattle.multi_tables.specs.Forms.{Port, dead, hidden, visible, End, inner, lacking, good_offset}
use Rattle.multiportgraph.specs.Calls.{add_block, added_as, link_sub, link_sub_if, cut_sub}
use Rattle.multiportgraph.specs.WellFormed.{copy_place, Fine, BlockIs, Seen, outer, lift, IsEnd, WireIn, SameBlocks, Wiring, SameWires, none}
use Rattle.multiportgraph.specs.Ends.{BlockPort, EndOf, block_seen, end_read, ends_join_ends, outer_apart}
use Rattle.multiportgraph.specs.HiddenStays.{same_wire, Alike, end_kept, kept_end, wire_kept, kept_wire, true_not_false, Frame, plain_frame, frame_fine, outer_kept, hidden_below, split_below}
use Rattle.multiportgraph.specs.declared.multiportgraph.MultiPortGraph.{MultiPortGraph}
use Rattle.port_tables.specs.declared.release.Release.{Release}
use Rattle.multi_tables.specs.declared.answers.SubportIndex.{SubportIndex}
use Rattle.multi_tables.specs.declared.answers.Refusal.TheVariants.{BadOffset}
use Rattle.multiportgraph.specs.declared.multiportgraph.PortsLinked.{PortsLinked}
use Rattle.multiportgraph.specs.declared.multiportgraph.PortUnlinked.{PortUnlinked}
use Rattle.port_tables.specs.Places.{Place, Wire, touches, wire_of_sides, at_spot, at_end, spot, flag}
use Rattle.multiportgraph.specs.Graph.{with_graph, empty_graph}
use Rattle.multiportgraph.specs.Cases.{link_sub_seen, link_first_end, link_second_end, link_inner, link_refused, cut_sub_seen, cut_end, cut_refused}
use Rattle.multiportgraph.specs.Refusals.{input_taken}
use Rattle.multiportgraph.specs.CaseLaws.{add_cases, link_sub_cases, link_sub_taken, cut_sub_cases}
use Rattle.multiportgraph.specs.declared.multiportgraph.NodeAdded as upper_added
use Rattle.port_tables.specs.declared.index.NodeIndex.{NodeIndex}
use Rattle.port_tables.specs.declared.index.PortIndex.{PortIndex}
use Rattle.portgraph.specs.declared.portgraph.NoSuchPort.{NoSuchPort}
use Rattle.multi_tables.specs.declared.answers.Refusal.{Refusal}
use Rattle.multi_tables.specs.declared.answers.PortPlace.{PortPlace}
use Rattle.portgraph.specs.declared.portgraph.LinkError.TheVariants as link_error
use Rattle.portgraph.specs.declared.portgraph.LinkError.{LinkError}
use Rattle.portgraph.specs.Joins.{nowhere_not_to, to_same}
use Rattle.port_tables.specs.Listing.{get_or-replicate_default}

-- Other links between the same nodes.

abbrev rejoined : Model → (model.InnerPlace → Far) → Model
rejoined M join =
    record {
      node = M.node;
      join = join;
      free_nodes = M.free_nodes;
      free_blocks = M.free_blocks;
      node_len = M.node_len;
      port_len = M.port_len;
      who = M.who;
    }

module _ {m : MultiPortGraph} {M : Model} (f : Fine m M) {g : PortGraph} {J : model.InnerPlace → Far} (good : Good (rejoined M J)) (holds : Holds g (rejoined M J))
    (joins : (c : ℕ) → is_hidden m c ≡ true → J (copy_place m c) ≡ M.join (copy_place m c)) where
  rejoin_frame : Frame m M (with_graph m g) (rejoined M J)
  rejoin_frame = plain_frame f good holds (λ c h. refl) (λ c x h e. refl) joins

  rejoin_fine : Fine (with_graph m g) (rejoined M J)
  rejoin_fine = frame_fine f rejoin_frame

  rejoin_blocks : SameBlocks m M (with_graph m g) (rejoined M J)
  unfolding is_hidden
  rejoin_blocks = (λ n k b. b, λ n k b. b)

  rejoin_outer : (z : model.InnerPlace) → outer (with_graph m g) (rejoined M J) z ≡ outer m M z
  rejoin_outer z = outer_kept f rejoin_frame z (hidden_below m g z.node)

  alike : (z : model.InnerPlace) → Alike m M (with_graph m g) (rejoined M J) z
  alike z = record { node = refl; hidden = hidden_below m g z.node; split = λ h. split_below m g (slot_of M.node z) }

  rejoin_end : (z : model.InnerPlace) → IsEnd m M z → IsEnd (with_graph m g) (rejoined M J) z
  rejoin_end z = end_kept f rejoin_frame z (alike z)

  end_rejoin : (z : model.InnerPlace) → IsEnd (with_graph m g) (rejoined M J) z → IsEnd m M z
  end_rejoin z = kept_end f rejoin_frame z (alike z)

  -- a link that stayed is the same wire
  rejoin_kept : (w : Wire) (e : WireIn m M w) → J e.x ≡ to e.y → WireIn (with_graph m g) (rejoined M J) w
  rejoin_kept w e j = wire_kept f rejoin_frame w e j (alike e.x) (hidden_below m g e.y.node)

  kept_rejoin : (w : Wire) (e : WireIn (with_graph m g) (rejoined M J) w) → M.join e.x ≡ to e.y → WireIn m M w
  kept_rejoin w e j = kept_wire f rejoin_frame w e j (alike e.x) (hidden_below m g e.y.node)

-- Linking two free ends.

pub record Joined (m : MultiPortGraph) (M : Model) (m' : MultiPortGraph) (M' : Model) (more : List Wire) : Type 0 where
  pub fine : Fine m' M'
  pub blocks : SameBlocks m M m' M'
  pub wires : Wiring m M m' M' none more

module _ {m : MultiPortGraph} {M : Model} (f : Fine m M) (x y : model.InnerPlace) (ex : IsEnd m M x) (ey : IsEnd m M y)
    (fx : M.join x ≡ nowhere) (fy : M.join y ≡ nowhere) (apart : x.side ≡ y.side → ⊥) where
  abbrev joined_graph : MultiPortGraph
  joined_graph = with_graph m (link_ports m.graph (slot_of M.node x) (slot_of M.node y)).graph

  still_joined : (z u : model.InnerPlace) → M.join z ≡ to u → link_join x y M.join z ≡ to u
  still_joined z u j = link_other x y M.join z (λ e. nowhere_not_to fx (ap M.join (sym e) ∙ j)) (λ e. nowhere_not_to fy (ap M.join (sym e) ∙ j)) ∙ j

  good_after : Good (link_model M x y)
  good_after = good_link f.good x y ex.valid ey.valid fx fy apart

  holds_after : Holds joined_graph.graph (link_model M x y)
  holds_after =
      subst (λ (r : _). Holds r.graph (link_model M x y)) (sym (link_done f.good f.holds x y ex.valid ey.valid apart fx fy))
      (link_holds f.good f.holds x y ex.valid ey.valid fx fy apart)

  copy_joins : (c : ℕ) → is_hidden m c ≡ true → link_join x y M.join (copy_place m c) ≡ M.join (copy_place m c)
  copy_joins c h = let k = f.copy c h in still_joined (copy_place m c) k.main k.joined ∙ sym k.joined

  near : link_join x y M.join x ≡ to y
  near = link_near x y M.join

  far : link_join x y M.join y ≡ to x
  far = link_far x y M.join (λ e. apart (ap (λ (z : model.InnerPlace). z.side) (sym e)))

  new_wire : WireIn joined_graph (link_model M x y) (wire_of_sides x.side (outer m M x) (outer m M y))
  new_wire = go x.side y.side refl refl
    where
      o : (z : model.InnerPlace) → outer joined_graph (link_model M x y) z ≡ outer m M z
      o = rejoin_outer f good_after holds_after copy_joins

      go : (d e : Direction) → x.side ≡ d → y.side ≡ e → WireIn joined_graph (link_model M x y) (wire_of_sides d (outer m M x) (outer m M y))
      go Incoming Incoming p q = absurd (apart (p ∙ sym q))
      go Outgoing Outgoing p q = absurd (apart (p ∙ sym q))
      go Incoming Outgoing p q =
          record { x = y; y = x; joined = far; outgoing = q; end = rejoin_end f good_after holds_after copy_joins y ey; is = same_wire (sym (o y)) (sym (o x)) }
      go Outgoing Incoming p q =
          record { x = x; y = y; joined = near; outgoing = p; end = rejoin_end f good_after holds_after copy_joins x ex; is = same_wire (sym (o x)) (sym (o y)) }

  only_new : (w : Wire) → WireIn joined_graph (link_model M x y) w → (WireIn m M w × (touches none w ≡ false)) ⊎ Member w (wire_of_sides x.side (outer m M x) (outer m M y) ∷ [])
  only_new w e =
      link_elim (λ v. v ≡ to e.y → (WireIn m M w × (touches none w ≡ false)) ⊎ Member w (wire_of_sides x.side (outer m M x) (outer m M y) ∷ [])) x y M.join e.x
      (λ p j. inr (inl (first p (to_same j refl))))
      (λ n p j. inr (inl (second p (to_same j refl))))
      (λ n k j. inl (kept_rejoin f good_after holds_after copy_joins w e j, refl))
      e.joined
    where
      o : (z : model.InnerPlace) → outer joined_graph (link_model M x y) z ≡ outer m M z
      o = rejoin_outer f good_after holds_after copy_joins

      first : e.x ≡ x → e.y ≡ y → w ≡ wire_of_sides x.side (outer m M x) (outer m M y)
      first p q =
          let s : x.side ≡ Outgoing = ap (λ (z : model.InnerPlace). z.side) (sym p) ∙ e.outgoing in
          e.is ∙ same_wire (o e.x ∙ ap (outer m M) p) (o e.y ∙ ap (outer m M) q)
          ∙ ap (λ (d : Direction). wire_of_sides d (outer m M x) (outer m M y)) (sym s)

      second : e.x ≡ y → e.y ≡ x → w ≡ wire_of_sides x.side (outer m M x) (outer m M y)
      second p q =
          let s : y.side ≡ Outgoing = ap (λ (z : model.InnerPlace). z.side) (sym p) ∙ e.outgoing in
          e.is ∙ same_wire (o e.x ∙ ap (outer m M) p) (o e.y ∙ ap (outer m M) q)
          ∙ ap (λ (d : Direction). wire_of_sides d (outer m M x) (outer m M y)) (incoming x.side refl s)
        where
          incoming : (d : Direction) → x.side ≡ d → y.side ≡ Outgoing → Incoming ≡ x.side
          incoming Incoming r s = sym r
          incoming Outgoing r s = absurd (apart (r ∙ sym s))

  -- one wire more, and nothing else changes
  pub join_ends : Joined m M joined_graph (link_model M x y) (wire_of_sides x.side (outer m M x) (outer m M y) ∷ [])
  join_ends =
      record {
        fine = rejoin_fine f good_after holds_after copy_joins;
        blocks = rejoin_blocks f good_after holds_after copy_joins;
        wires =
            record {
              kept = λ w e n. rejoin_kept f good_after holds_after copy_joins w e (still_joined e.x e.y e.joined);
              came = λ w. ⊎_elim (λ q. subst (WireIn joined_graph (link_model M x y)) (sym q) new_wire) absurd;
              only = only_new;
            };
      }

-- Tests on ends.

pub touches_neither : (t : Place → Bool) (w : Wire) → t w.out ≡ false → t w.into ≡ false → touches t w ≡ false
touches_neither t w p q = rw (p, q)

pub touched_not_out : (t : Place → Bool) (w : Wire) → touches t w ≡ false → t w.out ≡ false
touched_not_out t w = go (t w.out)
  where
    go : (b : Bool) → (b || (t w.into)) ≡ false → b ≡ false
    go true e = e
    go false e = refl

pub touched_not_into : (t : Place → Bool) (w : Wire) → touches t w ≡ false → t w.into ≡ false
touched_not_into t w = go (t w.out)
  where
    go : (b : Bool) → (b || (t w.into)) ≡ false → t w.into ≡ false
    go true e = absurd (true_not_false refl e)
    go false e = e

pub at_spot_here : (n : ℕ) (d : Direction) (i : ℕ) (p : Place) → p.node ≡ n → p.side ≡ d → p.pos ≡ i → at_spot (spot n d i) p ≡ true
unfolding at_spot
at_spot_here n d i p a b c = rw (eq-eqb p.node n a, b, same_side_refl d, eq-eqb p.pos i c)

pub at_spot_is : (n : ℕ) (d : Direction) (i : ℕ) (p : Place) → at_spot (spot n d i) p ≡ true → (p.node ≡ n) × (p.side ≡ d) × (p.pos ≡ i)
unfolding at_spot
at_spot_is n d i p = go (eqb p.node n) refl (same_side p.side d) refl
  where
    go : (a : Bool) → eqb p.node n ≡ a → (b : Bool) → same_side p.side d ≡ b → cond a (cond b (eqb p.pos i) false) false ≡ true → (p.node ≡ n) × (p.side ≡ d) × (p.pos ≡ i)
    go true e true s t = (eqb-true _ _ e, same_side_true _ _ s, eqb-true _ _ t)
    go true e false s t = absurd (true_not_false t refl)
    go false e b s t = absurd (true_not_false t refl)

-- the test for one end
abbrev pub end_is : Place → Place → Bool
end_is p = at_end (spot p.node p.side p.pos) p.offset

pub end_is_here : (p : Place) → end_is p p ≡ true
unfolding at_end
end_is_here p = rw (at_spot_here p.node p.side p.pos p refl refl refl, eq-eqb p.offset p.offset refl)

pub end_is_same : (p q : Place) → end_is p q ≡ true → q ≡ p
unfolding at_end
end_is_same p q = go (at_spot (spot p.node p.side p.pos) q) refl
  where
    go : (a : Bool) → at_spot (spot p.node p.side p.pos) q ≡ a → cond a (eqb q.offset p.offset) false ≡ true → q ≡ p
    go true e t =
        let r = at_spot_is p.node p.side p.pos q e in
        let o : q.offset ≡ p.offset = eqb-true _ _ t in
        λ i. record { node = r.0 i; side = r.1 i; pos = r.2 i; offset = o i }
    go false e t = absurd (true_not_false t refl)

pub end_is_other : (p q : Place) → (q ≡ p → ⊥) → end_is p q ≡ false
end_is_other p q n = ⊎_elim (λ t. absurd (n (end_is_same p q t))) (λ e. e) (cases_Bool (end_is p q))

-- Cutting an end.

pub record Cut (m : MultiPortGraph) (M : Model) (m' : MultiPortGraph) (M' : Model) (dropped : Place → Bool) : Type 0 where
  pub fine : Fine m' M'
  pub blocks : SameBlocks m M m' M'
  pub wires : Wiring m M m' M' dropped []

module _ {m : MultiPortGraph} {M : Model} (f : Fine m M) (x : model.InnerPlace) (ex : IsEnd m M x) where
  abbrev cut_graph : MultiPortGraph
  cut_graph = with_graph m (unlink_port m.graph (slot_of M.node x)).graph

  holds_cut : Holds cut_graph.graph (unlink_model M x)
  holds_cut = go (M.join x) refl
    where
      go : (v : Far) → M.join x ≡ v → Holds cut_graph.graph (unlink_model M x)
      go (to y) j =
          subst (λ (r : _). Holds r.graph (unlink_model M x)) (sym (unlink_linked f.good f.holds x y ex.valid j))
          (unlink_holds f.good f.holds x ex.valid)
      go nowhere j =
          let z : at m.graph.port_link (slot_of M.node x) ≡ 0 = link_none f.good f.holds x ex.valid j in
          let a : cut m.graph.port_link (slot_of M.node x) ≡ m.graph.port_link = cut_none m.graph.port_link (slot_of M.node x) z in
          let b : 0 ≡ link_count (at m.graph.port_link (slot_of M.node x)) = link_count_none (at m.graph.port_link (slot_of M.node x)) z in
          let c : m.graph.link_count - link_count (at m.graph.port_link (slot_of M.node x)) ≡ m.graph.link_count = omega arith in
          subst (λ (r : _). Holds r.graph (unlink_model M x)) (sym (unlink_free f.good f.holds x ex.valid j))
          (subst (λ (h : PortGraph). Holds h (unlink_model M x)) (λ i. with_links m.graph (a i) (c i)) (unlink_holds f.good f.holds x ex.valid))

  cut_kept : (z u : model.InnerPlace) → M.join z ≡ to u → (x ≡ z → ⊥) → (x ≡ u → ⊥) → drop_join (same_place x) M.join z ≡ to u
  cut_kept z u j a b = drop_kept (same_place x) M.join z u j (same_place_distinct x z a) (same_place_distinct x u b)

  copy_uncut : (c : ℕ) → is_hidden m c ≡ true → drop_join (same_place x) M.join (copy_place m c) ≡ M.join (copy_place m c)
  copy_uncut c h =
      let k = f.copy c h in
      cut_kept (copy_place m c) k.main k.joined
      (λ e. ex.subport (ap (λ (z : model.InnerPlace). is_hidden m z.node) e ∙ h) (ap (λ (z : model.InnerPlace). z.side) e ∙ ap (λ (z : model.InnerPlace). copy_side m z.node) (sym e)))
      (λ e.
      true_not_false (f.main_marked c k.main h k.joined)
      (ap (λ (z : model.InnerPlace). is_split m (slot_of M.node z)) (sym e) ∙ ex.unsplit (ap (λ (z : model.InnerPlace). is_hidden m z.node) e ∙ k.main_seen)))
      ∙ sym k.joined

  -- the wire at the end goes, if there is one, and nothing else changes
  pub cut_end_lem : Cut m M cut_graph (unlink_model M x) (end_is (outer m M x))
  cut_end_lem =
      record {
        fine = rejoin_fine f good holds_cut copy_uncut;
        blocks = rejoin_blocks f good holds_cut copy_uncut;
        wires = record { kept = kept; came = λ w b. absurd b; only = λ w e. inl (only w e) };
      }
    where
      good : Good (unlink_model M x)
      good = good_unlink f.good x

      kept : (w : Wire) → WireIn m M w → touches (end_is (outer m M x)) w ≡ false → WireIn cut_graph (unlink_model M x) w
      kept w e n =
          rejoin_kept f good holds_cut copy_uncut w e
          (cut_kept e.x e.y e.joined
          (λ q. true_not_false (end_is_here (outer m M x))
          (ap (end_is (outer m M x)) (ap (outer m M) q ∙ sym (ap (λ (v : Wire). v.out) e.is)) ∙ touched_not_out (end_is (outer m M x)) w n))
          (λ q. true_not_false (end_is_here (outer m M x))
          (ap (end_is (outer m M x)) (ap (outer m M) q ∙ sym (ap (λ (v : Wire). v.into) e.is)) ∙ touched_not_into (end_is (outer m M x)) w n)))

      only : (w : Wire) → WireIn cut_graph (unlink_model M x) w → WireIn m M w × (touches (end_is (outer m M x)) w ≡ false)
      only w e =
          let j = drop_joined (same_place x) M.join e.x e.y e.joined in
          let v : WireIn m M w = kept_rejoin f good holds_cut copy_uncut w e j.0 in
          let o = rejoin_outer f good holds_cut copy_uncut in
          let ez : IsEnd m M e.x = end_rejoin f good holds_cut copy_uncut e.x e.end in
          let eu : IsEnd m M e.y = ends_join_ends f e.x e.y ez j.0 in (
            v,
            ap (touches (end_is (outer m M x))) e.is
                ∙ touches_neither (end_is (outer m M x)) _
                (end_is_other (outer m M x) _ (λ q. same_place_false x e.x j.1 (sym (outer_apart f e.x x ez ex (sym (o e.x) ∙ q)))))
                (end_is_other (outer m M x) _ (λ q. same_place_false x e.y j.2 (sym (outer_apart f e.y x eu ex (sym (o e.y) ∙ q))))),
          )

-- The empty graph.

pub none_hidden : (release : Release) (c : ℕ) → is_hidden (empty_graph release) c ≡ false
unfolding is_hidden empty_graph
none_hidden release c = get_or-replicate_default node_slots c false

pub none_split : (release : Release) (s : ℕ) → is_split (empty_graph release) s ≡ false
unfolding is_split empty_graph
none_split release s = get_or-replicate_default port_slots s false

pub fine_empty : (release : Release) → Fine (empty_graph release) empty_model
unfolding empty_graph
fine_empty release =
    record {
      good = good_empty;
      holds = new_holds;
      marks_long = length-replicate port_slots false;
      flags_long = length-replicate node_slots false;
      copy = λ c h. absurd (true_not_false h (none_hidden release c));
      copy_marked = λ c h. absurd (true_not_false h (none_hidden release c));
      main_marked = λ c x h e. absurd (true_not_false h (none_hidden release c));
      only_marked = λ s h. absurd (true_not_false h (none_split release s));
      copies = sym (total_none node_slots _ (λ n. ap flag (none_hidden release n)));
      subs = sym (total_none node_slots _ (λ n. ap (λ (b : Bool). cond b (ports_of (empty_model.node n) - 1) 0) (none_hidden release n)));
    }

pub empty_has_no_wire : (release : Release) (w : Wire) → WireIn (empty_graph release) empty_model w → ⊥
empty_has_no_wire release w e = nowhere_not_to refl e.joined

pub empty_has_no_block : (release : Release) (n : ℕ) (k : NodeMeta) → BlockIs (empty_graph release) empty_model n k → ⊥
empty_has_no_block release n k b = gone_not_live refl b.1

-- Adding a block.

pub record AddDone (m : MultiPortGraph) (M : Model) (m' : MultiPortGraph) (n p incoming outgoing : ℕ) : Type 0 where
  pub model : Model
  pub fine : Fine m' model
  pub wires : SameWires m M m' model
  pub block : BlockIs m' model n (meta_of p incoming outgoing (incoming + outgoing))
  pub kept : (k : ℕ) (l : NodeMeta) → BlockIs m M k l → BlockIs m' model k l
  pub only : (k : ℕ) (l : NodeMeta) → BlockIs m' model k l → (k ≡ n) ⊎ BlockIs m M k l
  pub new : (l : NodeMeta) → BlockIs m M n l → ⊥

-- a node that is there stays as it is where one is added
pub live_stays : {M : Model} → Good M → (incoming outgoing n : ℕ) (k : NodeMeta) → M.node n ≡ live k → (add_model M incoming outgoing).node n ≡ M.node n
live_stays {M} g incoming outgoing n k e = upd_other M.node (next_slot M) _ n (λ q. gone_not_live (next_slot_gone g) (ap M.node (sym q) ∙ e))

module _ {m : MultiPortGraph} {M : Model} (f : Fine m M) (incoming outgoing : ℕ) (small : incoming + outgoing ≤ node_ports)
    (node_room : M.node_len + growth 1 M.free_nodes ≤ node_slots)
    (port_room : M.port_len + growth (incoming + outgoing) (M.free_blocks (incoming + outgoing)) ≤ port_slots) where
  abbrev added_graph : PortGraph
  added_graph = place_node m.graph (next_slot M) (next_block M (incoming + outgoing)) incoming outgoing

  valid_stays : (z : model.InnerPlace) → Valid M.node z → (add_model M incoming outgoing).node z.node ≡ M.node z.node
  valid_stays z v = let r = slot_in_block f.good z v in live_stays f.good incoming outgoing z.node r.0 r.1

  pub add_frame : Frame m M (with_graph m added_graph) (add_model M incoming outgoing)
  add_frame =
      plain_frame f (good_add f.good incoming outgoing small node_room port_room) (place_holds f.good f.holds incoming outgoing small node_room port_room)
      (λ c h. live_stays f.good incoming outgoing c (f.copy c h).meta (f.copy c h).here)
      (λ c x h e. valid_stays x (joined_is_valid f.good (copy_place m c) x e))
      (λ c h. refl)

  added_alike : (z : model.InnerPlace) → Valid M.node z → Alike m M (with_graph m added_graph) (add_model M incoming outgoing) z
  added_alike z v = record { node = valid_stays z v; hidden = hidden_below m added_graph z.node; split = λ h. split_below m added_graph (slot_of M.node z) }

  add_done : AddDone m M (with_graph m added_graph) (next_slot M) (next_block M (incoming + outgoing)) incoming outgoing
  add_done =
      record {
        model = add_model M incoming outgoing;
        fine = frame_fine f add_frame;
        wires =
            record {
              kept = λ w e n. wire_kept f add_frame w e e.joined (added_alike e.x e.end.valid) (hidden_below m added_graph e.y.node);
              came = λ w b. absurd b;
              only = λ w e.
                  inl (kept_wire f add_frame w e e.joined (added_alike e.x (f.good.join_valid e.x e.y e.joined)) (hidden_below m added_graph e.y.node), refl);
            };
        block = (hidden_below m added_graph (next_slot M) ∙ new_shown, upd_same M.node (next_slot M) _);
        kept = λ k l b. (hidden_below m added_graph k ∙ b.0, live_stays f.good incoming outgoing k l b.1 ∙ b.1);
        only = λ k l b.
            upd_elim (λ v. v ≡ live l → (k ≡ next_slot M) ⊎ BlockIs m M k l) M.node (next_slot M) _ k (λ q e. inl q) (λ q e. inr (sym (hidden_below m added_graph k) ∙ b.0, e)) b.1;
        new = λ l b. gone_not_live (next_slot_gone f.good) b.1;
      }
    where
      new_shown : is_hidden m (next_slot M) ≡ false
      new_shown = ⊎_elim (λ t. absurd (gone_not_live (next_slot_gone f.good) (f.copy (next_slot M) t).here)) (λ e. e) (cases_Bool (is_hidden m (next_slot M)))

-- what each answer says of the graph after the call
abbrev pub AddSays : MultiPortGraph → Model → ℕ → ℕ → MultiPortGraph → Result (NodeIndex × PortIndex) Refusal → Type 0
AddSays m M incoming outgoing m' (Ok (n, p)) = AddDone m M m' n.0 p.0 incoming outgoing
AddSays m M incoming outgoing m' (Err r) = m' ≡ m

abbrev AddSaid : MultiPortGraph → Model → ℕ → ℕ → NodeAdded → Type 0
AddSaid m M incoming outgoing r = AddSays m M incoming outgoing (with_graph m r.graph) (added_as r.answer)

-- an accepted add leaves one block more, with ports numbered on from the first; a refused one nothing
pub add_block_law : {m : MultiPortGraph} {M : Model} → Fine m M → (incoming outgoing : ℕ)
    → AddSays m M incoming outgoing (add_block m incoming outgoing).graph (add_block m incoming outgoing).answer
add_block_law {m} {M} f incoming outgoing =
    subst (λ (v : upper_added.NodeAdded). AddSays m M incoming outgoing v.graph v.answer) (sym (add_cases present m incoming outgoing))
    (subst (AddSaid m M incoming outgoing) (sym (add_law f.good f.holds incoming outgoing))
    (go (leb (incoming + outgoing) node_ports) refl (slot_room M) refl (block_room M (incoming + outgoing)) refl))
  where
    go : (a : Bool) → leb (incoming + outgoing) node_ports ≡ a → (b : Bool) → slot_room M ≡ b → (c : Bool) → block_room M (incoming + outgoing) ≡ c
        → AddSaid m M incoming outgoing (add_where m.graph M incoming outgoing a b c)
    go true p true q true r = add_done f incoming outgoing (leb-true _ _ p) (leb-true _ _ q) (leb-true _ _ r)
    go true p true q false r = refl
    go true p false q c r = refl
    go false p b q c r = refl

-- Linking subports.

pub record LinkSubDone (m : MultiPortGraph) (M : Model) (m' : MultiPortGraph) (p o q r : ℕ) (s t : SubportIndex) : Type 0 where
  pub x : model.InnerPlace
  pub y : model.InnerPlace
  pub first_seen : Seen m M x
  pub first_at : slot_of M.node x ≡ p
  pub second_seen : Seen m M y
  pub second_at : slot_of M.node y ≡ q
  pub opposite : x.side ≡ y.side → ⊥
  -- no wire had one of these ends
  pub first_free : (w : Wire) → WireIn m M w → touches (end_is (lift x (cond (is_split m p) o 0))) w ≡ false
  pub second_free : (w : Wire) → WireIn m M w → touches (end_is (lift y (cond (is_split m q) r 0))) w ≡ false
  pub model : Model
  pub fine : Fine m' model
  pub blocks : SameBlocks m M m' model
  pub wires : Wiring m M m' model none (wire_of_sides x.side (lift x (cond (is_split m p) o 0)) (lift y (cond (is_split m q) r 0)) ∷ [])
  pub first_read : s ≡ as_read m p o
  pub second_read : t ≡ as_read m q r

abbrev pub LinkSubSays : MultiPortGraph → Model → ℕ → ℕ → ℕ → ℕ → MultiPortGraph → Result (SubportIndex × SubportIndex) Refusal → Type 0
LinkSubSays m M p o q r m' (Ok (s, t)) = LinkSubDone m M m' p o q r s t
LinkSubSays m M p o q r m' (Err e) = m' ≡ m

abbrev LinkSubSaid : MultiPortGraph → Model → ℕ → ℕ → ℕ → ℕ → PortsLinked → Type 0
LinkSubSaid m M p o q r u = LinkSubSays m M p o q r u.graph u.answer

module _ {m : MultiPortGraph} {M : Model} (f : Fine m M) where
  -- an end without a link has no wire
  pub free_end_has_no_wire : (z : model.InnerPlace) → IsEnd m M z → M.join z ≡ nowhere → (w : Wire) → WireIn m M w → touches (end_is (outer m M z)) w ≡ false
  free_end_has_no_wire z ez free w e =
      ap (touches (end_is (outer m M z))) e.is
      ∙ touches_neither (end_is (outer m M z)) _
      (end_is_other (outer m M z) _
      (λ q. nowhere_not_to free (ap M.join (sym (outer_apart f e.x z e.end ez q)) ∙ e.joined)))
      (end_is_other (outer m M z) _
      (λ q. nowhere_not_to free
      (ap M.join (sym (outer_apart f e.y z (ends_join_ends f e.x e.y e.end e.joined) ez q)) ∙ f.good.join_back e.x e.y e.joined)))

  ends_linked : (x y : model.InnerPlace) (o r a b : ℕ) → Seen m M x → Seen m M y → EndOf m M x o a → EndOf m M y r b → LinkMade M a b (link_ports m.graph a b).graph
      → LinkSubDone m M (with_graph m (link_ports m.graph a b).graph) (slot_of M.node x) o (slot_of M.node y) r (as_read m (slot_of M.node x) o) (as_read m (slot_of M.node y) r)
  ends_linked x y o r a b sx sy ex ey k =
      let pz : k.ends.first ≡ ex.end = slots_apart f.good k.ends.first ex.end k.ends.first_at.0 ex.is_end.valid (k.ends.first_at.1 ∙ sym ex.slot) in
      let pu : k.ends.second ≡ ey.end = slots_apart f.good k.ends.second ey.end k.ends.second_at.0 ey.is_end.valid (k.ends.second_at.1 ∙ sym ey.slot) in
      let fz : M.join ex.end ≡ nowhere = ap M.join (sym pz) ∙ k.first_free in
      let fu : M.join ey.end ≡ nowhere = ap M.join (sym pu) ∙ k.second_free in
      let apart : ex.end.side ≡ ey.end.side → ⊥ =
      λ e. k.opposite (ap (λ (v : model.InnerPlace). v.side) pz ∙ (e ∙ ap (λ (v : model.InnerPlace). v.side) (sym pu))) in
      let j : Joined m M (with_graph m (link_ports m.graph a b).graph) (link_model M ex.end ey.end) (wire_of_sides ex.end.side (outer m M ex.end) (outer m M ey.end) ∷ []) =
      subst (λ (c : ℕ). Joined m M (with_graph m (link_ports m.graph a c).graph) (link_model M ex.end ey.end) (wire_of_sides ex.end.side (outer m M ex.end) (outer m M ey.end) ∷ [])) ey.slot
      (subst (λ (c : ℕ). Joined m M (with_graph m (link_ports m.graph c (slot_of M.node ey.end)).graph) (link_model M ex.end ey.end) (wire_of_sides ex.end.side (outer m M ex.end) (outer m M ey.end) ∷ [])) ex.slot
      (join_ends f ex.end ey.end ex.is_end ey.is_end fz fu apart)) in
      record {
        x = x;
        y = y;
        first_seen = sx;
        first_at = refl;
        second_seen = sy;
        second_at = refl;
        opposite = λ e. apart (ex.side ∙ (e ∙ sym ey.side));
        first_free = λ w e. ap (λ (v : Place). touches (end_is v) w) (sym ex.is) ∙ free_end_has_no_wire ex.end ex.is_end fz w e;
        second_free = λ w e. ap (λ (v : Place). touches (end_is v) w) (sym ey.is) ∙ free_end_has_no_wire ey.end ey.is_end fu w e;
        model = link_model M ex.end ey.end;
        fine = j.fine;
        blocks = j.blocks;
        wires =
            subst (λ (v : Wire). Wiring m M (with_graph m (link_ports m.graph a b).graph) (link_model M ex.end ey.end) none (v ∷ []))
            (ap (λ (d : Direction). wire_of_sides d (outer m M ex.end) (outer m M ey.end)) ex.side
            ∙ (ap (λ (v : Place). wire_of_sides x.side v (outer m M ey.end)) ex.is ∙ ap (wire_of_sides x.side (lift x (cond (is_split m (slot_of M.node x)) o 0))) ey.is))
            j.wires;
        first_read = refl;
        second_read = refl;
      }

  -- accepted: one wire more, between the ends as read, which had none; refused: the graph stays
  pub link_sub_law_if : (taken : Bool) (p o q r : ℕ) → LinkSubSays m M p o q r (link_sub_if taken m p o q r).graph (link_sub_if taken m p o q r).answer
  link_sub_law_if true p o q r = subst (LinkSubSaid m M p o q r) (sym (link_sub_taken m p o q r)) refl
  link_sub_law_if false p o q r = subst (LinkSubSaid m M p o q r) (sym (link_sub_cases m p o q r)) (offsets (good_offset o) (good_offset r))
    where
      lower : (a b : ℕ) (p q : ℕ) (x y : model.InnerPlace) → slot_of M.node x ≡ p → slot_of M.node y ≡ q → Seen m M x → Seen m M y → EndOf m M x o a → EndOf m M y r b
          → (v : Result (PortIndex × PortIndex) LinkError) → (link_ports m.graph a b).answer ≡ v
          → LinkSubSaid m M p o q r (link_inner m (as_read m p o) (as_read m q r) v (link_ports m.graph a b).graph)
      lower a b p q x y ep eq sx sy ex ey (Ok (c, d)) e =
          subst (λ (q : ℕ). LinkSubDone m M (with_graph m (link_ports m.graph a b).graph) p o q r (as_read m p o) (as_read m q r)) eq
          (subst (λ (p : ℕ). LinkSubDone m M (with_graph m (link_ports m.graph a b).graph) p o (slot_of M.node y) r (as_read m p o) (as_read m (slot_of M.node y) r)) ep
          (ends_linked x y o r a b sx sy ex ey (link_accepted f.good f.holds a b c d e)))
      lower a b p q x y ep eq sx sy ex ey (Err (link_error.UnknownPort c)) e = refl
      lower a b p q x y ep eq sx sy ex ey (Err (link_error.UnknownSecondPort c)) e = refl
      lower a b p q x y ep eq sx sy ex ey (Err (link_error.IncompatibleDirections c d s)) e = refl
      lower a b p q x y ep eq sx sy ex ey (Err (link_error.AlreadyLinked c)) e = refl

      read : (x : model.InnerPlace) (p : ℕ) (d : Direction) (o a : ℕ) → Seen m M x → slot_of M.node x ≡ p → x.side ≡ d → end_at m p d o ≡ inner a → EndOf m M x o a
      read x p d o a sx ep ed e = end_read f x o a sx (ap (λ (c : ℕ). end_at m c x.side o) ep ∙ (ap (λ (c : Direction). end_at m p c o) ed ∙ e))

      second : (n k : ℕ) (d s : Direction) → BlockPort m M p n d → BlockPort m M q k s → (a : ℕ) → end_at m p d o ≡ inner a → (v : End) → end_at m q s r ≡ v
          → LinkSubSaid m M p o q r (link_second_end m p o q r a v)
      second n k d s bp bq a e lacking h = refl
      second n k d s bp bq a e (inner b) h =
          lower a b p q bp.place bq.place bp.slot bq.slot bp.is_seen bq.is_seen
          (read bp.place p d o a bp.is_seen bp.slot bp.side e) (read bq.place q s r b bq.is_seen bq.slot bq.side h)
          (link_ports m.graph a b).answer refl

      first : (n k : ℕ) (d s : Direction) → BlockPort m M p n d → BlockPort m M q k s → (v : End) → end_at m p d o ≡ v → LinkSubSaid m M p o q r (link_first_end m p o q r (visible k s) v)
      first n k d s bp bq lacking e = refl
      first n k d s bp bq (inner a) e = second n k d s bp bq a e (end_at m q s r) refl

      nosecond : (v : End) → LinkSubSaid m M p o q r (link_first_end m p o q r dead v)
      nosecond lacking = refl
      nosecond (inner a) = refl

      ports : (v w : Port) → seen m p ≡ v → seen m q ≡ w → LinkSubSaid m M p o q r (link_sub_seen m p o q r v w)
      ports dead w e h = refl
      ports hidden w e h = refl
      ports (visible n d) dead e h = nosecond (end_at m p d o)
      ports (visible n d) hidden e h = refl
      ports (visible n d) (visible k s) e h = first n k d s (block_seen f p n d e) (block_seen f q k s h) (end_at m p d o) refl

      offsets : (b c : Bool) → LinkSubSaid m M p o q r (cond b (cond c (link_sub_seen m p o q r (seen m p) (seen m q)) (link_refused m BadOffset)) (link_refused m BadOffset))
      offsets true true = ports (seen m p) (seen m q) refl refl
      offsets true false = refl
      offsets false c = refl

  pub link_sub_law : (p o q r : ℕ) → LinkSubSays m M p o q r (link_sub m p o q r).graph (link_sub m p o q r).answer
  link_sub_law p o q r = link_sub_law_if (input_taken m p q) p o q r

-- Cutting subports.

pub record CutDone (m : MultiPortGraph) (M : Model) (m' : MultiPortGraph) (p : ℕ) (dropped : model.InnerPlace → Place → Bool) : Type 0 where
  pub x : model.InnerPlace
  pub is_seen : Seen m M x
  pub at : slot_of M.node x ≡ p
  pub model : Model
  pub fine : Fine m' model
  pub blocks : SameBlocks m M m' model
  pub wires : Wiring m M m' model (dropped x) []

-- not refused: the wires at the ends named are gone; refused: the graph stays
abbrev pub CutSays : MultiPortGraph → Model → ℕ → (model.InnerPlace → Place → Bool) → MultiPortGraph → Result (Option (SubportIndex × PortPlace)) Refusal → Type 0
CutSays m M p dropped m' (Ok (Some (s, x))) = CutDone m M m' p dropped
CutSays m M p dropped m' (Ok None) = CutDone m M m' p dropped
CutSays m M p dropped m' (Err r) = m' ≡ m

abbrev pub CutSaid : MultiPortGraph → Model → ℕ → (model.InnerPlace → Place → Bool) → PortUnlinked → Type 0
CutSaid m M p dropped u = CutSays m M p dropped u.graph u.answer

-- the end of a port with this offset
abbrev pub end_named : ℕ → model.InnerPlace → Place → Bool
end_named o x = end_is (lift x o)

module _ {m : MultiPortGraph} {M : Model} (f : Fine m M) where
  end_cut : (x : model.InnerPlace) (o a : ℕ) → Seen m M x → EndOf m M x o a
      → CutDone m M (with_graph m (unlink_port m.graph a).graph) (slot_of M.node x) (end_named (cond (is_split m (slot_of M.node x)) o 0))
  end_cut x o a sx e =
      let c : Cut m M (with_graph m (unlink_port m.graph a).graph) (unlink_model M e.end) (end_named (cond (is_split m (slot_of M.node x)) o 0) x) =
      subst (λ (b : ℕ). Cut m M (with_graph m (unlink_port m.graph b).graph) (unlink_model M e.end) (end_named (cond (is_split m (slot_of M.node x)) o 0) x)) e.slot
      (subst (λ (v : Place). Cut m M (with_graph m (unlink_port m.graph (slot_of M.node e.end)).graph) (unlink_model M e.end) (end_is v)) e.is (cut_end_lem f e.end e.is_end)) in
      record { x = x; is_seen = sx; at = refl; model = unlink_model M e.end; fine = c.fine; blocks = c.blocks; wires = c.wires }

  pub cut_sub_law : (p o : ℕ) → CutSays m M p (end_named (cond (is_split m p) o 0)) (cut_sub m p o).graph (cut_sub m p o).answer
  cut_sub_law p o = subst (CutSaid m M p (end_named (cond (is_split m p) o 0))) (sym (cut_sub_cases m p o)) (offset (good_offset o))
    where
      told : (m' : MultiPortGraph) → CutDone m M m' p (end_named (cond (is_split m p) o 0)) → (v : Result (Option PortIndex) NoSuchPort) → CutSays m M p (end_named (cond (is_split m p) o 0)) m' (far_subport m v)
      told m' d (Ok (Some q)) = d
      told m' d (Ok None) = d
      told m' d (Err q) = d

      done : (x : model.InnerPlace) (a : ℕ) → Seen m M x → slot_of M.node x ≡ p → EndOf m M x o a
          → CutDone m M (with_graph m (unlink_port m.graph a).graph) p (end_named (cond (is_split m p) o 0))
      done x a sx ep e =
          subst (λ (c : ℕ). CutDone m M (with_graph m (unlink_port m.graph a).graph) c (end_named (cond (is_split m c) o 0))) ep (end_cut x o a sx e)

      ends : (n : ℕ) (d : Direction) → BlockPort m M p n d → (v : End) → end_at m p d o ≡ v → CutSaid m M p (end_named (cond (is_split m p) o 0)) (cut_end m p v)
      ends n d b lacking e = refl
      ends n d b (inner a) e =
          told (with_graph m (unlink_port m.graph a).graph)
          (done b.place a b.is_seen b.slot
          (end_read f b.place o a b.is_seen (ap (λ (c : ℕ). end_at m c b.place.side o) b.slot ∙ (ap (λ (c : Direction). end_at m p c o) b.side ∙ e))))
          (unlink_port m.graph a).answer

      ports : (v : Port) → seen m p ≡ v → CutSaid m M p (end_named (cond (is_split m p) o 0)) (cut_sub_seen m p o v)
      ports dead e = refl
      ports hidden e = refl
      ports (visible n d) e = ends n d (block_seen f p n d e) (end_at m p d o) refl

      offset : (b : Bool) → CutSaid m M p (end_named (cond (is_split m p) o 0)) (cond b (cut_sub_seen m p o (seen m p)) (cut_refused m BadOffset))
      offset true = ports (seen m p) refl
      offset false = refl
