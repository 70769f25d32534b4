-- What a tidy does to subports: the port keeps them up to the last linked one, or loses its hidden node; every other port is as split as it was.
use Rattle.std.specs.Prelude.{◌≡◌, Bool, ℕ, ◌≤◌, ◌<◌, leb}
use Rattle.std.proofs.Math.Path.{refl, sym}
use Rattle.std.proofs.Common.{◌∙◌, ap, subst}
use Rattle.std.proofs.Math.Bool.{true, false, cond}
use native.Mathlib.Omega.{arith}
use Rattle.std.proofs.Math.Dec.{ltb}
use borrow.Author.Tests.{ltb-true, ltb-false, le-leb, lt-leb, eq-eqb}
use Rattle.port_tables.specs.Entries.{reversed}
use Rattle.portgraph.specs.Meaning.{remove_model, link_model, at_node}
use Rattle.portgraph.specs.Model as model
use Rattle.portgraph.specs.Model.{Model, Far, nowhere, to, Slots, gone, slot_of, count_of, slots_at}
use Rattle.portgraph.specs.Calls.{link_ports}
use Rattle.portgraph.specs.Resize.{set_num_ports}
use Rattle.portgraph.specs.Sums.{upd_other, drop_there}
use Rattle.portgraph.specs.PlaceLaws.{meta_of_node}
use Rattle.port_tables.specs.declared.direction.Direction.{Direction}
use Rattle.portgraph.specs.declared.portgraph.PortGraph.{PortGraph}
use Rattle.multiportgraph.specs.CopyLaws.{CopyGone, copy_goes, hidden_other}
use Rattle.multiportgraph.specs.Ends.{Hangs, hangs, split_has_copy, one_copy, ends_join_ends, end_side, unsplit_is_end, unlinked_is, linked_is, far_of, seen_still}
use Rattle.multiportgraph.specs.HiddenStays.{copy_side_is, true_not_false, same_slot}
use Rattle.multiportgraph.specs.Graph.{with_graph}
use Rattle.multiportgraph.specs.HiddenNodes.{recounted, remove_copy, unsplit, enough}
use Rattle.multiportgraph.specs.WellFormed.{inner#, copy_place, Fine, Seen, IsEnd}
use Rattle.multiportgraph.specs.LinkCutLaws.{join_ends}
use Rattle.multiportgraph.specs.Reading.{is_hidden, is_split, copy_side, copy_node, subports, subport_at, far_port, has_link}
use Rattle.multiportgraph.specs.RecountLaws.{set_recounts}
use Rattle.multiportgraph.specs.SetLaws.{SameSplit}
use Rattle.multiportgraph.specs.Tidy.{linked_up_to, subports_left, left_incoming, left_outgoing, drop_subports, link_directly, tidied}
use Rattle.multiportgraph.specs.TidyLaws.{LastLinked, last_linked, empty_above, ShorterDone, drop_done, drop_within, drop_set, within_is, bare_is}
use Rattle.multiportgraph.specs.declared.multiportgraph.MultiPortGraph.{MultiPortGraph}
use Rattle.agreement.specs.Alike.{subports_at}
use Rattle.agreement.specs.KeptSplits.{split_kept, same_subports, copies_apart}
use Rattle.agreement.specs.CutSquares.{copy_keeps_splits}
use Rattle.agreement.specs.PreparedSubports.{linked_subports}
use Rattle.std.proofs.lemmas.Bool.{false_from_ne_true}
use Rattle.portgraph.specs.Joins.{to_same}

-- Some subports stay.

module _ {m : MultiPortGraph} {M : Model} (f : Fine m M) (x : model.InnerPlace) (h : Hangs m M x) (r : ℕ) (several : 2 ≤ r)
    (few : r ≤ count_of (M.node h.copy) x.side) (empty : (i : ℕ) → r ≤ i → M.join (inner# h.copy x.side i) ≡ nowhere) where
  abbrev shorter# : MultiPortGraph
  shorter# = drop_subports m h.copy x.side r

  abbrev drops : ShorterDone m M x h.copy r shorter#
  drops = drop_done f x h r several few empty

  flags_same : (e : ℕ) → is_hidden shorter# e ≡ is_hidden m e
  unfolding is_hidden drop_subports recounted
  flags_same e = refl

  graph_is : shorter#.graph ≡ (set_num_ports m.graph h.copy (left_incoming x.side r) (left_outgoing x.side r) enough).graph
  unfolding drop_subports recounted
  graph_is = within_is (drop_within f x h r several few empty)

  -- other nodes are as they were
  nodes_other : (e : ℕ) → (e ≡ h.copy → ⊥) → drops.model.node e ≡ M.node e
  nodes_other e other =
      let set = drop_set f x h r several few empty in
      let s = set_recounts f.good f.holds h.copy (left_incoming x.side r) (left_outgoing x.side r) enough set.0 set.1 in
      sym (drops.is.fine.holds.nodes e) ∙ (ap (λ (g : PortGraph). slots_at g.node_meta e) graph_is ∙ (s.is.holds.nodes e ∙ s.is.others e other))

  drop_others : (y : model.InnerPlace) → Seen m M y → (y ≡ x → ⊥) → SameSplit m M shorter# drops.model y
  drop_others y s away =
      split_kept f f' y s
      (λ k. (flags_same k.copy ∙ k.is_copy, nodes_other k.copy (other k), drops.is.joins y ∙ k.back))
      (λ e. false_from_ne_true _ (λ t. whole e (split_has_copy f' y s' t)))
    where
      f' : Fine shorter# drops.model
      f' = drops.is.fine

      s' : Seen shorter# drops.model y
      s' = (seen_still f f' drops.is.blocks y s).0

      other : (k : Hangs m M y) → k.copy ≡ h.copy → ⊥
      other k = copies_apart h k away

      whole : is_split m (slot_of M.node y) ≡ false → Hangs shorter# drops.model y → ⊥
      whole e k =
          let apart : k.copy ≡ h.copy → ⊥ = λ q. away (to_same k.from (ap (λ (c : ℕ). drops.model.join (copy_place shorter# c)) q ∙ drops.is.from)) in
          let hid : is_hidden m k.copy ≡ true = sym (flags_same k.copy) ∙ k.is_copy in
          let c = f.copy k.copy hid in
          let side : copy_side shorter# k.copy ≡ copy_side m k.copy =
          copy_side_is shorter# k.copy c.meta (copy_side m k.copy) (meta_of_node f'.good f'.holds k.copy c.meta (nodes_other k.copy apart ∙ c.here)) c.single c.several in
          let j : M.join (copy_place m k.copy) ≡ to y =
          ap (λ (d : Direction). M.join (inner# k.copy d 0)) (sym side) ∙ (sym (drops.is.joins (copy_place shorter# k.copy)) ∙ k.from) in
          true_not_false (f.main_marked k.copy y hid j) e

  drop_here : subports_at shorter# drops.model x ≡ r
  drop_here =
      let f' = drops.is.fine in
      let k = hangs f' h.copy x drops.is.is_copy drops.is.from in
      let own : k.copy ≡ h.copy = one_copy f' k.copy h.copy x k.from drops.is.from in
      rw (f'.main_marked h.copy x drops.is.is_copy drops.is.from) (k.count ∙ (ap (λ (c : ℕ). count_of (drops.model.node c) x.side) own ∙ drops.is.count))

-- The hidden node goes.

module _ {m : MultiPortGraph} {M : Model} (f : Fine m M) (x : model.InnerPlace) (sx : Seen m M x) (h : Hangs m M x) where
  abbrev bare# : MultiPortGraph
  bare# = remove_copy m (slot_of M.node x) h.copy

  abbrev bare_model# : Model
  bare_model# = remove_model M h.copy (f.copy h.copy h.is_copy).meta

  abbrev first# : model.InnerPlace
  first# = inner# h.copy x.side 0

  went# : CopyGone m M x bare# bare_model#
  went# = copy_goes f x h

  bare_others : (y : model.InnerPlace) → Seen m M y → (y ≡ x → ⊥) → subports_at bare# bare_model# y ≡ subports_at m M y
  bare_others y s away = same_subports m M bare# bare_model# y (copy_keeps_splits f x h y s away)

  bare_here : subports_at bare# bare_model# x ≡ 0
  bare_here = rw (went#.slot, went#.unsplit) refl

  module _ (y : model.InnerPlace) (linked : M.join first# ≡ to y) where
    first_end# : IsEnd m M first#
    first_end# = h.ends 0 (let l = h.several in omega arith)

    far_end# : IsEnd m M y
    far_end# = ends_join_ends f first# y first_end# linked

    elsewhere : y.node ≡ h.copy → ⊥
    elsewhere n =
        f.good.join_sides first# y linked
        (h.side ∙ (ap (λ (c : ℕ). reversed (copy_side m c)) (sym n) ∙ sym (end_side f y far_end# (ap (is_hidden m) n ∙ h.is_copy))))

    far_node : bare_model#.node y.node ≡ M.node y.node
    far_node = upd_other M.node h.copy gone y.node elsewhere

    far_slot# : slot_of bare_model#.node y ≡ slot_of M.node y
    far_slot# = same_slot M bare_model# y far_node

    near_end# : IsEnd bare# bare_model# x
    near_end# = unsplit_is_end went#.fine x went#.is_seen (ap (is_split bare#) went#.slot ∙ went#.unsplit)

    far_left : IsEnd bare# bare_model# y
    far_left =
        record {
          valid = subst (λ (s : Slots). y.pos < count_of s y.side) (sym far_node) far_end#.valid;
          unsplit = λ e. false_from_ne_true _ (λ t.
              true_not_false (went#.only_split (slot_of M.node y) (ap (is_split bare#) (sym far_slot#) ∙ t)) (far_end#.unsplit (sym (hidden_other m (slot_of M.node x) h.copy y.node elsewhere) ∙ e)));
          subport = λ e q.
              let hid : is_hidden m y.node ≡ true = sym (hidden_other m (slot_of M.node x) h.copy y.node elsewhere) ∙ e in
              let c = f.copy y.node hid in
              far_end#.subport hid
              (q ∙ copy_side_is bare# y.node c.meta (copy_side m y.node) (meta_of_node went#.fine.good went#.fine.holds y.node c.meta (far_node ∙ c.here)) c.single c.several);
        }

    abbrev direct# : MultiPortGraph
    direct# = with_graph bare# (link_ports bare#.graph (slot_of M.node x) (slot_of M.node y)).graph

    direct_fine : Fine direct# (link_model bare_model# x y)
    direct_fine =
        subst (λ (q : ℕ). Fine (with_graph bare# (link_ports bare#.graph (slot_of M.node x) q).graph) (link_model bare_model# x y)) far_slot#
        (subst (λ (p : ℕ). Fine (with_graph bare# (link_ports bare#.graph p (slot_of bare_model#.node y)).graph) (link_model bare_model# x y)) went#.slot
        (join_ends went#.fine x y near_end# far_left went#.free
        (drop_there (at_node h.copy) M.join y first# (f.good.join_back first# y linked) (eq-eqb h.copy h.copy refl)) (f.good.join_sides first# y linked)).fine)

    direct_same : (v : model.InnerPlace) → Seen bare# bare_model# v → subports_at direct# (link_model bare_model# x y) v ≡ subports_at bare# bare_model# v
    direct_same = linked_subports (link_ports bare#.graph (slot_of M.node x) (slot_of M.node y)).graph x y went#.fine direct_fine near_end# far_left

-- Both.

-- the last linked subport of a split port, and what a tidy makes of it
pub record TidySubports (m : MultiPortGraph) (M : Model) (x : model.InnerPlace) (m' : MultiPortGraph) : Type 0 where
  pub hangs : Hangs m M x
  pub last : ℕ
  pub linked : LastLinked M hangs.copy x.side (count_of (M.node hangs.copy) x.side) last
  pub after : Model
  pub fine : Fine m' after
  pub here : subports_at m' after x ≡ cond (leb last 1) 0 last
  pub others : (y : model.InnerPlace) → Seen m M y → (y ≡ x → ⊥) → subports_at m' after y ≡ subports_at m M y

module _ {m : MultiPortGraph} {M : Model} (f : Fine m M) (x : model.InnerPlace) (sx : Seen m M x) (s : is_split m (slot_of M.node x) ≡ true) where
  abbrev p : ℕ
  p = slot_of M.node x

  -- linked directly
  direct_subports : (h : Hangs m M x) (r : ℕ) → LastLinked M h.copy x.side (count_of (M.node h.copy) x.side) r → r ≤ 1 → TidySubports m M x (link_directly m p x.side)
  unfolding link_directly
  direct_subports h r l small = go (M.join (first# f x sx h)) refl
    where
      few : cond (leb r 1) 0 r ≡ 0
      few = rw (le-leb r 1 small) refl

      port : subport_at m p x.side 0 ≡ slot_of M.node (first# f x sx h)
      port = h.reads 0 (let l = h.several in omega arith)

      bare : unsplit m p ≡ bare# f x sx h
      bare = bare_is f x sx h s

      go : (w : Far) → M.join (first# f x sx h) ≡ w → TidySubports m M x
          (cond (has_link m.graph (subport_at m p x.side 0)) (with_graph (unsplit m p) (link_ports (unsplit m p).graph p (far_port m.graph (subport_at m p x.side 0))).graph) (unsplit m p))
      go nowhere j =
          rw (port, unlinked_is f (first# f x sx h) (h.ends 0 (let l = h.several in omega arith)).valid j, bare)
          (record {
            hangs = h;
            last = r;
            linked = l;
            after = bare_model# f x sx h;
            fine = (went# f x sx h).fine;
            here = bare_here f x sx h ∙ sym few;
            others = bare_others f x sx h;
          })
      go (to y) j =
          rw (port, linked_is f (first# f x sx h) y j, far_of f (first# f x sx h) y j, bare)
          (record {
            hangs = h;
            last = r;
            linked = l;
            after = link_model (bare_model# f x sx h) x y;
            fine = direct_fine f x sx h y j;
            here = direct_same f x sx h y j x (went# f x sx h).is_seen ∙ (bare_here f x sx h ∙ sym few);
            others = λ v t away. direct_same f x sx h y j v (seen_still f (went# f x sx h).fine (went# f x sx h).blocks v t).0 ∙ bare_others f x sx h v t away;
          })

  pub tidied_subports : TidySubports m M x (tidied m p x.side)
  unfolding tidied subports_left
  tidied_subports = go (split_has_copy f x sx s)
    where
      go : Hangs m M x → TidySubports m M x
          (cond (ltb 1 (linked_up_to m.graph (copy_node m p) x.side (subports m p x.side)))
          (drop_subports m (copy_node m p) x.side (linked_up_to m.graph (copy_node m p) x.side (subports m p x.side))) (link_directly m p x.side))
      go h =
          rw (h.copy_is, h.count)
          (some (linked_up_to m.graph h.copy x.side (count_of (M.node h.copy) x.side))
          (last_linked f h.copy x.side (count_of (M.node h.copy) x.side) (omega arith)) (ltb 1 (linked_up_to m.graph h.copy x.side (count_of (M.node h.copy) x.side))) refl)
        where
          some : (r : ℕ) → LastLinked M h.copy x.side (count_of (M.node h.copy) x.side) r → (b : Bool) → ltb 1 r ≡ b →
              TidySubports m M x (cond b (drop_subports m h.copy x.side r) (link_directly m p x.side))
          some r l true e =
              let more : 2 ≤ r = let q = ltb-true 1 r e in omega arith in
              let empty = empty_above f h.copy x.side r l in
              record {
                hangs = h;
                last = r;
                linked = l;
                after = (drops f x h r more l.most empty).model;
                fine = (drops f x h r more l.most empty).is.fine;
                here = drop_here f x h r more l.most empty ∙ sym (rw (lt-leb r 1 more) refl);
                others = λ y t away. same_subports m M (drop_subports m h.copy x.side r) (drops f x h r more l.most empty).model y (drop_others f x h r more l.most empty y t away);
              }
          some r l false e = direct_subports h r l (ltb-false 1 r e)
