-- What the move list of an accepted resize says, by places: 01's words and reading R8, with no range of slots in them.
--
-- A place of the block is a side and a position on it. Dropped places are told first, then places that stay, each with its old and its
-- new number. `told_events` says it, over the graph before and the graph after the call; `moves_are_places` says that the move list
-- holds exactly this, before what it held already.
use Rattle.std.proofs.lemmas.List.{length-map}
use Rattle.std.specs.Prelude.{◌≡◌, Bool, ltb, length, drop, Option, Some, Ok, Err, Result}
use Rattle.std.proofs.Math.Path.{refl, sym, ap, subst}
use Rattle.std.proofs.Common.{◌∙◌, inl, inr, length-append, get_or-set_same}
use Rattle.std.proofs.Math.Bool.{true, false, cond}
use mathlib.Core.List.{List, [], ◌∷◌, ◌++◌, map, flat_map, map-append}
use Prim.Native.Nat.{ℕ, zero, suc, ◌+◌, ◌-◌, ◌*◌, ◌≤◌, ◌<◌, min}
use native.Mathlib.Omega.{arith}
use Rattle.std.proofs.Math.Dec.{eqb, leb}
use Rattle.std.proofs.lemmas.List.Edits.{sets-eq}
use borrow.Author.Tests.{leb-true, eqb-true, eqb-false, le-leb, ne_eqb}
use Rattle.port_tables.specs.Limits.{node_ports, no_port, present}
use Rattle.port_tables.specs.Lists.{range, Member}
use Rattle.std.specs.List.{filter}
use Rattle.port_tables.specs.Entries.{ports_on, node_slot_of, fresh_slot, meta_of_entry, meta_of}
use Rattle.port_tables.specs.Tables.{at, cut, cut_range, told_link, drop_events, move_up_events, move_down_events, shift_events}
use Rattle.portgraph.specs.Lookups.{meta_at, num_ports, node_port_capacity, count_in, capacity_in}
use Rattle.portgraph.specs.Model as model
use Rattle.portgraph.specs.Model.{Model, Far, nowhere, to, Slots, live, Valid, slot_of, first_of, side_start}
use Rattle.portgraph.specs.Meaning.{same_place, keep_far, drop_join, next_block}
use Rattle.portgraph.specs.Resize.{Plan, refuse, same, inside, anew, plan_of, resize_inside, resize_anew, inside_told, anew_told, set_by, told_by, set_num_ports, set_num_ports_under, moves_after_under}
use Rattle.port_tables.specs.ResizeLinks.{round_up, same_counts, fits_inside, first_slot, kept_incoming, kept_outgoing, drop_incoming, drop_told}
use Rattle.portgraph.specs.ResizeLaws.{plan_live, plan_law, events_of, told_length, events_fit}
use Rattle.portgraph.specs.SlotHolds.{block_room}
use Rattle.portgraph.specs.GoodSlots.{zero_is_not_one, joined_is_valid, node_below}
use Rattle.portgraph.specs.Joins.{same_place_true, same_place_false, same_place_distinct}
use Rattle.portgraph.specs.LinkLaws.{Rep, far_is, cut_at}
use Rattle.portgraph.specs.PlaceLaws.{meta_of_node, node_of_meta, rep_of}
use Rattle.port_tables.specs.declared.direction.Direction.{Direction}
use Rattle.port_tables.specs.declared.direction.Direction.TheVariants.{Incoming, Outgoing}
use Rattle.port_tables.specs.declared.index.PortOffset.{PortOffset}
use Rattle.port_tables.specs.declared.node_entry.NodeSlot.{NodeSlot}
use Rattle.port_tables.specs.declared.node_entry.NodeMeta.{NodeMeta}
use Rattle.portgraph.specs.declared.portgraph.PortGraph.{PortGraph}
use Rattle.portgraph.specs.declared.resize.PortsSet as lower_ports_set
use Rattle.port_tables.specs.declared.release.Release.{Release}
use Rattle.multiportgraph.specs.Reading.{port_of, has_link, far_port, is_hidden, is_split, copy_node}
use Rattle.multiportgraph.specs.HiddenNodes.{copies_in, copies_dropped, recounted, remove_all}
use Rattle.multiportgraph.specs.Calls.{set_as, set_counts, moves_told, moves_told_under, told_meta}
use Rattle.multiportgraph.specs.Cases.{resized, set_meta}
use Rattle.multiportgraph.specs.CaseLaws.{set_cases}
use Rattle.multiportgraph.specs.WellFormed.{inner#, Fine}
use Rattle.multiportgraph.specs.Ends.{port_of_lem, far_of, linked_is, unlinked_is}
use Rattle.multiportgraph.specs.RecountLaws.{SomeRecount, set_recounts, recount_of}
use Rattle.multiportgraph.specs.Space.{Room, room_of, block_taken, after_work, after_works, overflows, gone_works, copies_gone, move_works, recount_works, set_meta_works, set_works}
use Rattle.multiportgraph.specs.SpaceLaws.{after_append, room_is, set_counts_space}
use Rattle.multiportgraph.specs.SetLaws.{all_go, resize_loosens, resize_tracks, set_counts_law}
use Rattle.theorems.specs.MoveClaims.{on_side, positions, positions_down, equal_counts, within_block, dropped_places, kept_places, port_here, is_one_of, far_told, removed_events, moved_events, events_at, told_events, told_places, hidden_told, given_back}
use Rattle.theorems.specs.Book.{Call}
use Rattle.theorems.specs.History.{run}
use Rattle.theorems.proofs.CallLaws.{run_kept}
use Rattle.multiportgraph.specs.declared.multiportgraph.MultiPortGraph.{MultiPortGraph}
use Rattle.multi_tables.specs.declared.answers.Refusal.TheVariants.{NoRoom}
use Rattle.multiportgraph.specs.declared.multiportgraph.PortsSet.{PortsSet}
use Rattle.portgraph.specs.declared.resize.SetError.TheVariants as set_error
use Rattle.portgraph.specs.declared.resize.SetError.{SetError}
use Rattle.port_tables.specs.TableSteps.{told_none, told_far}
use Rattle.std.proofs.lemmas.List.Elements.{filter-append}

-- Lists.

tell : List ℕ → List ℕ → List ℕ
tell earlier [] = earlier
tell earlier (p ∷ l) = tell (p ∷ earlier) l

removed_append : (g : PortGraph) (earlier l k : List ℕ) → removed_events g earlier (l ++ k) ≡ removed_events g earlier l ++ removed_events g (tell earlier l) k
unfolding removed_events tell
removed_append g earlier [] k = refl
removed_append g earlier (p ∷ l) k = ap (λ (r : List ℕ). p ∷ 1 ∷ far_told g earlier p ∷ r) (removed_append g (p ∷ earlier) l k)

moved_append : (g h : PortGraph) (n : ℕ) (l k : List PortOffset) → moved_events g h n (l ++ k) ≡ moved_events g h n l ++ moved_events g h n k
unfolding moved_events
moved_append g h n [] k = refl
moved_append g h n (x ∷ l) k = ap (λ (r : List ℕ). port_here g n x ∷ 0 ∷ port_here h n x ∷ r) (moved_append g h n l k)

-- Places that stay.

moved_up : (c : ℕ) (g h : PortGraph) (n : ℕ) (d : Direction) (j old new : ℕ) → ((x : ℕ) → x < c → port_of g n d (j + x) ≡ old + x) → ((x : ℕ) → x < c → port_of h n d (j + x) ≡ new + x) →
    move_up_events old new c ≡ moved_events g h n (map (on_side d) (range j c))
unfolding move_up_events moved_events range
moved_up zero g h n d j old new a b = refl
moved_up (suc c) g h n d j old new a b =
    let p : port_of g n d j ≡ old = ap (port_of g n d) (omega arith) ∙ (a 0 (omega arith) ∙ omega arith) in
    let q : port_of h n d j ≡ new = ap (port_of h n d) (omega arith) ∙ (b 0 (omega arith) ∙ omega arith) in
    let r = moved_up c g h n d (suc j) (suc old) (suc new)
    (λ x l. ap (port_of g n d) (omega arith) ∙ (a (suc x) (omega arith) ∙ omega arith))
    (λ x l. ap (port_of h n d) (omega arith) ∙ (b (suc x) (omega arith) ∙ omega arith)) in
    rw (p, q) (ap (λ (l : List ℕ). old ∷ 0 ∷ new ∷ l) r)

moved_down : (c : ℕ) (g h : PortGraph) (n : ℕ) (d : Direction) (old new : ℕ) → ((x : ℕ) → x < c → port_of g n d x ≡ old + x) → ((x : ℕ) → x < c → port_of h n d x ≡ new + x) →
    move_down_events old new c ≡ moved_events g h n (positions_down d c)
unfolding move_down_events moved_events positions_down
moved_down zero g h n d old new a b = refl
moved_down (suc c) g h n d old new a b =
    let p : port_of g n d c ≡ old + c = a c (omega arith) in
    let q : port_of h n d c ≡ new + c = b c (omega arith) in
    rw (p, q) (ap (λ (l : List ℕ). (old + c) ∷ 0 ∷ (new + c) ∷ l) (moved_down c g h n d old new (λ x l. a x (omega arith)) (λ x l. b x (omega arith))))

-- the numbers of places side by side
ports_here : (c : ℕ) (g : PortGraph) (n : ℕ) (d : Direction) (j s : ℕ) → ((x : ℕ) → x < c → port_of g n d (j + x) ≡ s + x) → map (port_here g n) (map (on_side d) (range j c)) ≡ range s c
unfolding range
ports_here zero g n d j s a = refl
ports_here (suc c) g n d j s a =
    let p : port_of g n d j ≡ s = ap (port_of g n d) (omega arith) ∙ (a 0 (omega arith) ∙ omega arith) in
    rw p (ap (λ (l : List ℕ). s ∷ l) (ports_here c g n d (suc j) (suc s) (λ x l. ap (port_of g n d) (omega arith) ∙ (a (suc x) (omega arith) ∙ omega arith))))

-- Places that are dropped: the table as it is cut, and what was told.

later_new : (p : ℕ) (earlier : List ℕ) → ((q : ℕ) → p ≤ q → is_one_of q earlier ≡ false) → (q : ℕ) → suc p ≤ q → is_one_of q (p ∷ earlier) ≡ false
unfolding is_one_of
later_new p earlier new q l = rw (ne_eqb q p (λ e. omega arith)) (new q (omega arith))

-- the links that are left where these ports are told
abbrev left_of : (model.InnerPlace → ℕ) → List ℕ → Far → Far
left_of ν earlier nowhere = nowhere
left_of ν earlier (to y) = cond (is_one_of (ν y) earlier) nowhere (to y)

module _ {m : MultiPortGraph} {M : Model} (f : Fine m M) where
  record Cutting (J : model.InnerPlace → Far) (t earlier : List ℕ) : Type 0 where
    rep : Rep (Valid M.node) (slot_of M.node) J t
    left : (x : model.InnerPlace) → Valid M.node x → is_one_of (slot_of M.node x) earlier ≡ false → J x ≡ left_of (slot_of M.node) earlier (M.join x)

  cutting_starts : Cutting M.join m.graph.port_link []
  unfolding is_one_of
  cutting_starts = record { rep = rep_of f.good f.holds; left = λ x v e. go (M.join x) }
    where
      go : (w : Far) → w ≡ left_of (slot_of M.node) [] w
      go nowhere = refl
      go (to y) = refl

  module _ (x : model.InnerPlace) (v : Valid M.node x) {J : model.InnerPlace → Far} {t earlier : List ℕ} (k : Cutting J t earlier) where
    -- one more is cut
    cutting_goes : Cutting (drop_join (same_place x) J) (cut t (slot_of M.node x)) (slot_of M.node x ∷ earlier)
    unfolding is_one_of drop_join
    cutting_goes = record { rep = cut_at k.rep x v; left = λ z w e. other z w (eqb (slot_of M.node z) (slot_of M.node x)) refl e }
      where
        far : (y : model.InnerPlace) → Valid M.node y → (a b c : Bool) → eqb (slot_of M.node y) (slot_of M.node x) ≡ a → is_one_of (slot_of M.node y) earlier ≡ b → same_place x y ≡ c →
            keep_far (same_place x) (cond b nowhere (to y)) ≡ cond (cond a true b) nowhere (to y)
        far y u true true c p q r = refl
        far y u true false true p q r = rw r
        far y u true false false p q r = absurd (same_place_false x y r (sym (k.rep.apart y x u v (eqb-true _ _ p))))
        far y u false true c p q r = refl
        far y u false false true p q r = absurd (eqb-false _ _ p (ap (slot_of M.node) (sym (same_place_true x y r))))
        far y u false false false p q r = rw r

        ends : (z : model.InnerPlace) (w : Far) → M.join z ≡ w → keep_far (same_place x) (left_of (slot_of M.node) earlier w) ≡ left_of (slot_of M.node) (slot_of M.node x ∷ earlier) w
        ends z nowhere j = refl
        ends z (to y) j = far y (joined_is_valid f.good z y j) (eqb (slot_of M.node y) (slot_of M.node x)) (is_one_of (slot_of M.node y) earlier) (same_place x y) refl refl refl

        other : (z : model.InnerPlace) → Valid M.node z → (a : Bool) → eqb (slot_of M.node z) (slot_of M.node x) ≡ a → cond a true (is_one_of (slot_of M.node z) earlier) ≡ false →
            drop_join (same_place x) J z ≡ left_of (slot_of M.node) (slot_of M.node x ∷ earlier) (M.join z)
        other z w true p e = absurd (zero_is_not_one (cc))
        other z w false p e =
            let apart : same_place x z ≡ false = same_place_distinct x z (λ q. eqb-false _ _ p (ap (slot_of M.node) (sym q))) in
            rw (apart, k.left z w e) (ends z (M.join z) refl)

    -- what is told of it
    told_here : is_one_of (slot_of M.node x) earlier ≡ false → told_link (at t (slot_of M.node x)) ≡ far_told m.graph earlier (slot_of M.node x)
    unfolding far_told
    told_here new = go (M.join x) refl
      where
        held : at t (slot_of M.node x) ≡ far_is (slot_of M.node) (left_of (slot_of M.node) earlier (M.join x))
        held = k.rep.links x v ∙ ap (far_is (slot_of M.node)) (k.left x v new)

        linked : (y : model.InnerPlace) → M.join x ≡ to y → (b : Bool) → is_one_of (slot_of M.node y) earlier ≡ b →
            told_link (at t (slot_of M.node x)) ≡ cond b no_port (slot_of M.node y)
        linked y j true e =
            sym (told_none (at t (slot_of M.node x)) (held ∙ ap (λ (w : Far). far_is (slot_of M.node) (left_of (slot_of M.node) earlier w)) j ∙ ap (λ (b : Bool). far_is (slot_of M.node) (cond b nowhere (to y))) e))
        linked y j false e =
            let far : at t (slot_of M.node x) ≡ suc (slot_of M.node y) = held ∙ ap (λ (w : Far). far_is (slot_of M.node) (left_of (slot_of M.node) earlier w)) j ∙ ap (λ (b : Bool). far_is (slot_of M.node) (cond b nowhere (to y))) e in
            let told : at t (slot_of M.node x) - 1 ≡ slot_of M.node y = omega arith in
            sym (told_far (at t (slot_of M.node x)) (λ z. omega arith)) ∙ told

        go : (w : Far) → M.join x ≡ w → told_link (at t (slot_of M.node x)) ≡ cond (has_link m.graph (slot_of M.node x)) (cond (is_one_of (far_port m.graph (slot_of M.node x)) earlier) no_port (far_port m.graph (slot_of M.node x))) no_port
        go nowhere j =
            rw (unlinked_is f x v j) (sym (told_none (at t (slot_of M.node x)) (held ∙ ap (λ (w : Far). far_is (slot_of M.node) (left_of (slot_of M.node) earlier w)) j)))
        go (to y) j = rw (linked_is f x y j, far_of f x y j) (linked y j (is_one_of (slot_of M.node y) earlier) refl)

  -- a run of ports that are dropped
  record Told (t earlier : List ℕ) (p c : ℕ) : Type 0 where
    events : drop_events t p c ≡ removed_events m.graph earlier (range p c)
    join : model.InnerPlace → Far
    next : Cutting join (cut_range t p c) (tell earlier (range p c))
    new : (q : ℕ) → p + c ≤ q → is_one_of q (tell earlier (range p c)) ≡ false

  run_told : (c : ℕ) (pl : ℕ → model.InnerPlace) (J : model.InnerPlace → Far) (t : List ℕ) (p : ℕ) (earlier : List ℕ) → Cutting J t earlier →
      ((q : ℕ) → p ≤ q → is_one_of q earlier ≡ false) → ((x : ℕ) → x < c → Valid M.node (pl x)) → ((x : ℕ) → x < c → slot_of M.node (pl x) ≡ p + x) → Told t earlier p c
  unfolding drop_events removed_events range cut_range tell
  run_told zero pl J t p earlier k new there numbered = record { events = refl; join = J; next = k; new = λ q l. new q (omega arith) }
  run_told (suc c) pl J t p earlier k new there numbered =
      let x = pl 0 in
      let v : Valid M.node x = there 0 (omega arith) in
      let e : slot_of M.node x ≡ p = numbered 0 (omega arith) ∙ omega arith in
      let first : told_link (at t p) ≡ far_told m.graph earlier p =
      subst (λ (s : ℕ). told_link (at t s) ≡ far_told m.graph earlier s) e (told_here x v k (ap (λ (s : ℕ). is_one_of s earlier) e ∙ new p (omega arith))) in
      let k' : Cutting (drop_join (same_place x) J) (cut t p) (p ∷ earlier) =
      subst (λ (s : ℕ). Cutting (drop_join (same_place x) J) (cut t s) (s ∷ earlier)) e (cutting_goes x v k) in
      let r = run_told c (λ y. pl (suc y)) (drop_join (same_place x) J) (cut t p) (suc p) (p ∷ earlier) k' (later_new p earlier new)
      (λ y l. there (suc y) (omega arith)) (λ y l. numbered (suc y) (omega arith) ∙ omega arith) in
      record {
        events = rw first (ap (λ (l : List ℕ). p ∷ 1 ∷ far_told m.graph earlier p ∷ l) r.events);
        join = r.join;
        next = r.next;
        new = λ q l. r.new q (omega arith);
      }

  -- Block n.

  module _ (n : ℕ) (k : NodeMeta) (here : M.node n ≡ live k) where
    valid_here : (d : Direction) (j : ℕ) → j < ports_on k d → Valid M.node (inner# n d j)
    valid_here d j l = rw here l

    slot_here : (d : Direction) (j : ℕ) → slot_of M.node (inner# n d j) ≡ first_slot k + (side_start (live k) d + j)
    slot_here d j = ap (λ (s : Slots). first_of s + (side_start s d + j)) here

    port_here_lem : (d : Direction) (j : ℕ) → j < ports_on k d → port_of m.graph n d j ≡ first_slot k + (side_start (live k) d + j)
    port_here_lem d j l = port_of_lem f n d j (valid_here d j l) ∙ slot_here d j

    -- the numbers of the dropped places
    dropped_ports : (i o : ℕ) → map (port_here m.graph n) (dropped_places k.incoming k.outgoing i o)
        ≡ range (first_slot k + kept_incoming k i) (k.incoming - kept_incoming k i) ++ range (first_slot k + k.incoming + kept_outgoing k o) (k.outgoing - kept_outgoing k o)
    unfolding dropped_places positions
    dropped_ports i o =
        let ci : k.incoming - i ≡ k.incoming - kept_incoming k i = omega arith in
        let co : k.outgoing - o ≡ k.outgoing - kept_outgoing k o = omega arith in
        let pi : map (port_here m.graph n) (map (on_side Incoming) (range i (k.incoming - i))) ≡ range (first_slot k + kept_incoming k i) (k.incoming - kept_incoming k i) =
        ports_here (k.incoming - i) m.graph n Incoming i (first_slot k + kept_incoming k i) (λ x l. port_here_lem Incoming (i + x) (omega arith) ∙ omega arith)
        ∙ ap (range (first_slot k + kept_incoming k i)) ci in
        let po : map (port_here m.graph n) (map (on_side Outgoing) (range o (k.outgoing - o))) ≡ range (first_slot k + k.incoming + kept_outgoing k o) (k.outgoing - kept_outgoing k o) =
        ports_here (k.outgoing - o) m.graph n Outgoing o (first_slot k + k.incoming + kept_outgoing k o) (λ x l. port_here_lem Outgoing (o + x) (omega arith) ∙ omega arith)
        ∙ ap (range (first_slot k + k.incoming + kept_outgoing k o)) co in
        map-append (port_here m.graph n) (map (on_side Incoming) (range i (k.incoming - i))) (map (on_side Outgoing) (range o (k.outgoing - o)))
        ∙ (λ q. pi q ++ po q)

    dropped_told : (i o : ℕ) → drop_told m.graph.port_link k i o ≡ removed_events m.graph [] (map (port_here m.graph n) (dropped_places k.incoming k.outgoing i o))
    unfolding drop_told drop_incoming is_one_of
    dropped_told i o =
        let a = run_told (k.incoming - kept_incoming k i) (λ x. inner# n Incoming (kept_incoming k i + x)) M.join m.graph.port_link (first_slot k + kept_incoming k i) [] cutting_starts none
        (λ x l. valid_here Incoming (kept_incoming k i + x) (omega arith)) (λ x l. slot_here Incoming (kept_incoming k i + x) ∙ omega arith) in
        let b = run_told (k.outgoing - kept_outgoing k o) (λ x. inner# n Outgoing (kept_outgoing k o + x)) a.join
        (cut_range m.graph.port_link (first_slot k + kept_incoming k i) (k.incoming - kept_incoming k i)) (first_slot k + k.incoming + kept_outgoing k o)
        (tell [] (range (first_slot k + kept_incoming k i) (k.incoming - kept_incoming k i))) a.next
        (λ q l. a.new q (omega arith))
        (λ x l. valid_here Outgoing (kept_outgoing k o + x) (omega arith)) (λ x l. slot_here Outgoing (kept_outgoing k o + x) ∙ omega arith) in
        (λ q. a.events q ++ b.events q)
        ∙ (sym (removed_append m.graph [] (range (first_slot k + kept_incoming k i) (k.incoming - kept_incoming k i)) (range (first_slot k + k.incoming + kept_outgoing k o) (k.outgoing - kept_outgoing k o)))
        ∙ ap (removed_events m.graph []) (sym (dropped_ports i o)))
      where
        none : (q : ℕ) → first_slot k + kept_incoming k i ≤ q → is_one_of q [] ≡ false
        none q l = refl

-- The graph after the call.

abbrev graph_after : MultiPortGraph → ℕ → NodeMeta → ℕ → ℕ → PortGraph → MultiPortGraph
graph_after m n k i o g = remove_all (recounted m n g) (copies_dropped m k i o)

record After (m' : MultiPortGraph) (n : ℕ) (b : NodeMeta) : Type 0 where
  model : Model
  fine : Fine m' model
  here : (model).node n ≡ live b

module _ {m : MultiPortGraph} {M : Model} (f : Fine m M) (n : ℕ) (k : NodeMeta) (shown : is_hidden m n ≡ false) (here : M.node n ≡ live k) (i o : ℕ) where
  -- hidden nodes that go leave the block where it is
  after : (g' : PortGraph) → SomeRecount g' M n i o → (b : NodeMeta) → meta_at g' n ≡ Some b → After (graph_after m n k i o g') n b
  after g' s b e =
      let r = recount_of s k here in
      let z = all_go (copies_dropped m k i o) (resize_loosens f n k shown here i o r) (resize_tracks f n k shown here i o r) in
      record { model = z.model'; fine = z.fine; here = z.tracks.here ∙ (sym r.there ∙ node_of_meta r.good r.holds n b e) }

  in_table : n < length m.graph.node_meta
  in_table =
      let u = node_below f.good n k here in
      let s = f.holds.nodes_long in
      omega arith

  meta_inside : meta_at (resize_inside m.graph n k i o) n ≡ Some (meta_of (first_slot k) i o k.capacity)
  unfolding resize_inside
  meta_inside = ap (λ (s : NodeSlot). meta_of_entry s.entry) (get_or-set_same m.graph.node_meta n (node_slot_of (meta_of (first_slot k) i o k.capacity)) fresh_slot in_table)

  meta_anew : (first size : ℕ) → meta_at (resize_anew m.graph n k i o first size) n ≡ Some (meta_of first i o size)
  unfolding resize_anew
  meta_anew first size = ap (λ (s : NodeSlot). meta_of_entry s.entry) (get_or-set_same m.graph.node_meta n (node_slot_of (meta_of first i o size)) fresh_slot in_table)

  -- equal counts
  same_told : equal_counts k.incoming k.outgoing i o ≡ true → (h : PortGraph) → [] ≡ events_at m.graph h n k.incoming k.outgoing k.capacity i o
  unfolding events_at kept_places dropped_places positions removed_events moved_events equal_counts range
  same_told t h = go (eqb i k.incoming) (eqb o k.outgoing) refl refl t
    where
      go : (a b : Bool) → eqb i k.incoming ≡ a → eqb o k.outgoing ≡ b → cond a b false ≡ true → [] ≡ events_at m.graph h n k.incoming k.outgoing k.capacity i o
      go true true p q e =
          let u : k.incoming - i ≡ 0 = let x = eqb-true i k.incoming p in omega arith in
          let v : k.outgoing - o ≡ 0 = let x = eqb-true o k.outgoing q in omega arith in
          rw (p, q, u, v)
      go true false p q e = absurd (zero_is_not_one (cc))
      go false b p q e = absurd (zero_is_not_one (cc))

  -- within the block
  inside_told_lem : SomeRecount (resize_inside m.graph n k i o) M n i o → equal_counts k.incoming k.outgoing i o ≡ false → within_block k.capacity i o ≡ true →
      inside_told m.graph k i o ≡ events_at m.graph (graph_after m n k i o (resize_inside m.graph n k i o)).graph n k.incoming k.outgoing k.capacity i o
  unfolding inside_told events_at kept_places shift_events positions
  inside_told_lem s ne fits = rw (ne, fits) (λ q. dropped_told f n k here i o q ++ moved (ltb i k.incoming) q)
    where
      z : After (graph_after m n k i o (resize_inside m.graph n k i o)) n (meta_of (first_slot k) i o k.capacity)
      z = after (resize_inside m.graph n k i o) s (meta_of (first_slot k) i o k.capacity) meta_inside

      moved : (c : Bool) → shift_events c (first_slot k + k.incoming) (first_slot k + i) (kept_outgoing k o)
          ≡ moved_events m.graph (graph_after m n k i o (resize_inside m.graph n k i o)).graph n (cond c (positions Outgoing 0 (min k.outgoing o)) (positions_down Outgoing (min k.outgoing o)))
      moved true =
          let all : min k.outgoing o - 0 ≡ min k.outgoing o = omega arith in
          rw all (moved_up (min k.outgoing o) m.graph (graph_after m n k i o (resize_inside m.graph n k i o)).graph n Outgoing 0 (first_slot k + k.incoming) (first_slot k + i)
          (λ x l. port_here_lem f n k here Outgoing (0 + x) (omega arith) ∙ omega arith)
          (λ x l. port_here_lem z.fine n (meta_of (first_slot k) i o k.capacity) z.here Outgoing (0 + x) (omega arith) ∙ omega arith))
      moved false =
          moved_down (min k.outgoing o) m.graph (graph_after m n k i o (resize_inside m.graph n k i o)).graph n Outgoing (first_slot k + k.incoming) (first_slot k + i)
          (λ x l. port_here_lem f n k here Outgoing x (omega arith) ∙ omega arith)
          (λ x l. port_here_lem z.fine n (meta_of (first_slot k) i o k.capacity) z.here Outgoing x (omega arith) ∙ omega arith)

  -- in a new block
  anew_told_lem : (first size : ℕ) → SomeRecount (resize_anew m.graph n k i o first size) M n i o → equal_counts k.incoming k.outgoing i o ≡ false → within_block k.capacity i o ≡ false →
      anew_told m.graph k i o first ≡ events_at m.graph (graph_after m n k i o (resize_anew m.graph n k i o first size)).graph n k.incoming k.outgoing k.capacity i o
  unfolding anew_told events_at kept_places positions
  anew_told_lem first size s ne away =
      let ins : min k.incoming i - 0 ≡ min k.incoming i = omega arith in
      let outs : min k.outgoing o - 0 ≡ min k.outgoing o = omega arith in
      rw (ne, away, ins, outs)
      (λ q. dropped_told f n k here i o q ++ ((λ r. come r ++ go r) ∙ sym (moved_append m.graph h n (map (on_side Incoming) (range 0 (min k.incoming i))) (map (on_side Outgoing) (range 0 (min k.outgoing o))))) q)
    where
      h : PortGraph
      h = (graph_after m n k i o (resize_anew m.graph n k i o first size)).graph

      z : After (graph_after m n k i o (resize_anew m.graph n k i o first size)) n (meta_of first i o size)
      z = after (resize_anew m.graph n k i o first size) s (meta_of first i o size) (meta_anew first size)

      come : move_up_events (first_slot k) first (kept_incoming k i) ≡ moved_events m.graph h n (map (on_side Incoming) (range 0 (min k.incoming i)))
      come =
          moved_up (min k.incoming i) m.graph h n Incoming 0 (first_slot k) first
          (λ x l. port_here_lem f n k here Incoming (0 + x) (omega arith) ∙ omega arith)
          (λ x l. port_here_lem z.fine n (meta_of first i o size) z.here Incoming (0 + x) (omega arith) ∙ omega arith)

      go : move_up_events (first_slot k + k.incoming) (first + i) (kept_outgoing k o) ≡ moved_events m.graph h n (map (on_side Outgoing) (range 0 (min k.outgoing o)))
      go =
          moved_up (min k.outgoing o) m.graph h n Outgoing 0 (first_slot k + k.incoming) (first + i)
          (λ x l. port_here_lem f n k here Outgoing (0 + x) (omega arith) ∙ omega arith)
          (λ x l. port_here_lem z.fine n (meta_of first i o size) z.here Outgoing (0 + x) (omega arith) ∙ omega arith)

-- The call.

module _ {m : MultiPortGraph} {M : Model} (f : Fine m M) (n i o room e : ℕ) (ok : (set_counts m n i o room).answer ≡ Ok e) where
  abbrev lower : lower_ports_set.PortsSet
  lower = set_num_ports m.graph n i o room

  abbrev old : NodeMeta
  old = (set_counts_law f n i o room e ok).old

  shown : is_hidden m n ≡ false
  shown = (set_counts_law f n i o room e ok).was.0

  here : M.node n ≡ live old
  here = (set_counts_law f n i o room e ok).was.1

  few : i + o ≤ node_ports
  few =
      let s = set_counts_law f n i o room e ok in
      let c = s.fine.good.ports_in_block n s.new s.is.1 in
      let l = s.fine.good.block_small n s.new s.is.1 in
      let a = s.ins in
      let b = s.outs in
      omega arith

  whole : set_counts m n i o room ≡ record { graph = resized m n old i o lower.graph lower.answer; answer = set_as lower.answer }
  whole =
      let a : set_counts m n i o room ≡ set_meta m n i o room (meta_at m.graph n) = set_cases present m n i o room ∙ rw (le-leb (i + o) node_ports few) in
      let b : set_meta m n i o room (meta_at m.graph n) ≡ set_meta m n i o room (Some old) = ap (set_meta m n i o room) (meta_of_node f.good f.holds n old here) in
      let c : set_meta m n i o room (Some old) ≡ record { graph = resized m n old i o lower.graph lower.answer; answer = set_as lower.answer } = rw shown in
      a ∙ (b ∙ c)

  lower_answer : lower.answer ≡ Ok e
  lower_answer = go lower.answer (sym (ap (λ (v : PortsSet). v.answer) whole) ∙ ok)
    where
      go : (v : Result ℕ SetError) → set_as v ≡ Ok e → v ≡ Ok e
      go (Ok c) q = let r : c ≡ e = cc in ap Ok r
      go (Err set_error.TooManyPorts) q = absurd (zero_is_not_one (cc))
      go (Err set_error.UnknownNode) q = absurd (zero_is_not_one (cc))
      go (Err set_error.MovesTooShort) q = absurd (zero_is_not_one (cc))
      go (Err set_error.NoRoom) q = absurd (zero_is_not_one (cc))

  graph_is : (set_counts m n i o room).graph ≡ graph_after m n old i o lower.graph
  graph_is = ap (λ (v : PortsSet). v.graph) whole ∙ ap (resized m n old i o lower.graph) lower_answer

  abbrev plan : Plan
  plan = plan_of m.graph n i o room

  recount : SomeRecount (set_by m.graph n i o plan).graph M n i o
  unfolding set_num_ports_under
  recount = set_recounts f.good f.holds n i o room e lower_answer

  answer_is : (set_by m.graph n i o plan).answer ≡ Ok e
  unfolding set_num_ports_under
  answer_is = lower_answer

  abbrev Tells : Plan → Type 0
  Tells p = told_by m.graph i o p ≡ events_at m.graph (graph_after m n old i o (set_by m.graph n i o p).graph).graph n old.incoming old.outgoing old.capacity i o

  plan_is : (r a b c : Bool) → leb (3 * (old.incoming + old.outgoing)) room ≡ r → same_counts old i o ≡ a → fits_inside old i o ≡ b → block_room M (round_up (i + o)) ≡ c →
      plan ≡ cond r (plan_live M i o old a b c) (refuse (Err set_error.MovesTooShort))
  plan_is r a b c p q s t = plan_law f.good f.holds n i o room ∙ rw (le-leb (i + o) node_ports few, here, p, q, s, t)

  by_plan : (p : Plan) → plan ≡ p → (SomeRecount (set_by m.graph n i o p).graph M n i o → (set_by m.graph n i o p).answer ≡ Ok e → Tells p) → Tells plan
  by_plan p q h =
      subst Tells (sym q)
      (h (subst (λ (v : Plan). SomeRecount (set_by m.graph n i o v).graph M n i o) q recount) (subst (λ (v : Plan). (set_by m.graph n i o v).answer ≡ Ok e) q answer_is))

  tells : Tells plan
  unfolding same_counts fits_inside equal_counts within_block
  tells =
      go (leb (3 * (old.incoming + old.outgoing)) room) (same_counts old i o) (fits_inside old i o) (block_room M (round_up (i + o))) refl refl refl refl
    where
      go : (r a b c : Bool) → leb (3 * (old.incoming + old.outgoing)) room ≡ r → same_counts old i o ≡ a → fits_inside old i o ≡ b → block_room M (round_up (i + o)) ≡ c → Tells plan
      go false a b c p q s t = by_plan (refuse (Err set_error.MovesTooShort)) (plan_is false a b c p q s t) (λ x y. absurd (zero_is_not_one (cc)))
      go true true b c p q s t = by_plan same (plan_is true true b c p q s t) (λ x y. same_told f n old shown here i o q _)
      go true false true c p q s t = by_plan (inside old) (plan_is true false true c p q s t) (λ x y. inside_told_lem f n old shown here i o x q s)
      go true false false true p q s t = by_plan (anew old (next_block M (round_up (i + o)))) (plan_is true false false true p q s t) (λ x y. anew_told_lem f n old shown here i o (next_block M (round_up (i + o))) (round_up (i + o)) x q s)
      go true false false false p q s t = by_plan (refuse (Err set_error.NoRoom)) (plan_is true false false false p q s t) (λ x y. absurd (zero_is_not_one (cc)))

  by_lookups : (h : PortGraph) → events_at m.graph h n old.incoming old.outgoing old.capacity i o ≡ told_events m.graph h n i o
  unfolding told_events
  by_lookups h =
      let meta : meta_at m.graph n ≡ Some old = meta_of_node f.good f.holds n old here in
      λ q. events_at m.graph h n (count_in (sym meta q) Incoming) (count_in (sym meta q) Outgoing) (capacity_in (sym meta q)) i o

  told_is : told_by m.graph i o plan ≡ told_events m.graph (set_counts m n i o room).graph.graph n i o
  unfolding set_num_ports_under
  told_is =
      tells ∙ (by_lookups (graph_after m n old i o (set_by m.graph n i o plan).graph).graph
      ∙ ap (λ (v : MultiPortGraph). told_events m.graph v.graph n i o) (sym graph_is))

  told_long : length (told_by m.graph i o plan) ≡ 3 * e
  told_long = told_length m.graph n i o room ∙ ap (λ (v : Result ℕ SetError). 3 * events_of v) lower_answer

  told_fits : 3 * e ≤ room
  told_fits = subst (λ (v : Result ℕ SetError). 3 * events_of v ≤ room) lower_answer (events_fit m.graph n i o room)

-- The move list after an accepted resize: the events, by places, then what it held there before.
pub moves_by_places : {m : MultiPortGraph} {M : Model} → Fine m M → (n i o : ℕ) (moves : List ℕ) (e : ℕ) → (set_counts m n i o (length moves)).answer ≡ Ok e →
    moves_told m n i o moves ≡ told_events m.graph (set_counts m n i o (length moves)).graph.graph n i o ++ drop (3 * e) moves
unfolding moves_told_under moves_after_under
moves_by_places {m} f n i o moves e ok =
    let fits = told_fits f n i o (length moves) e ok in
    let all = told_long f n i o (length moves) e ok in
    let long : 0 + length (told_by m.graph i o (plan_of m.graph n i o (length moves))) ≡ 3 * e = omega arith in
    ap (told_meta m n i o moves) (shown f n i o (length moves) e ok)
    ∙ (sets-eq (told_by m.graph i o (plan_of m.graph n i o (length moves))) moves 0 (omega arith)
    ∙ (λ q. told_is f n i o (length moves) e ok q ++ drop (long q) moves))

-- every history
pub moves_are_places : (release : Release) (calls : List Call) (n i o : ℕ) (moves : List ℕ) (e : ℕ) → (set_counts (run release calls).graph n i o (length moves)).answer ≡ Ok e →
    moves_told (run release calls).graph n i o moves
    ≡ told_events (run release calls).graph.graph (set_counts (run release calls).graph n i o (length moves)).graph.graph n i o ++ drop (3 * e) moves
moves_are_places release calls = moves_by_places (run_kept release calls).fine

-- The number answered is the number of places told.

length_removed : (g : PortGraph) (earlier l : List ℕ) → length (removed_events g earlier l) ≡ 3 * length l
unfolding removed_events
length_removed g earlier [] = refl
length_removed g earlier (p ∷ l) = let h = length_removed g (p ∷ earlier) l in omega arith

length_moved : (g h : PortGraph) (n : ℕ) (l : List PortOffset) → length (moved_events g h n l) ≡ 3 * length l
unfolding moved_events
length_moved g h n [] = refl
length_moved g h n (x ∷ l) = let r = length_moved g h n l in omega arith

length_told : (g h : PortGraph) (n i o : ℕ) → length (told_events g h n i o) ≡ 3 * length (told_places g n i o)
unfolding told_events events_at told_places
length_told g h n i o =
    let d : List PortOffset = dropped_places (num_ports g n Incoming) (num_ports g n Outgoing) i o in
    let k : List PortOffset = kept_places (num_ports g n Incoming) (num_ports g n Outgoing) (node_port_capacity g n) i o in
    let a = length-append (removed_events g [] (map (port_here g n) d)) (moved_events g h n k) in
    let b = length_removed g [] (map (port_here g n) d) in
    let c = length-map d (port_here g n) in
    let r = length_moved g h n k in
    let s = length-append d k in
    omega arith

pub events_answered : (release : Release) (calls : List Call) (n i o room e : ℕ) → (set_counts (run release calls).graph n i o room).answer ≡ Ok e → e ≡ length (told_places (run release calls).graph.graph n i o)
events_answered release calls n i o room e ok =
    let f = (run_kept release calls).fine in
    let a = told_long f n i o room e ok in
    let b = ap length (told_is f n i o room e ok) in
    let c = length_told (run release calls).graph.graph (set_counts (run release calls).graph n i o room).graph.graph n i o in
    omega arith

-- Hidden nodes of dropped ports.

copies_are : (c : ℕ) (m : MultiPortGraph) (p : ℕ) → copies_in m p c ≡ map (copy_node m) (filter (is_split m) (range p c))
unfolding copies_in range
copies_are zero m p = refl
copies_are (suc c) m p = go (is_split m p) (copies_are c m (suc p))
  where
    go : (b : Bool) → copies_in m (suc p) c ≡ map (copy_node m) (filter (is_split m) (range (suc p) c)) →
        cond b (copy_node m p ∷ copies_in m (suc p) c) (copies_in m (suc p) c) ≡ map (copy_node m) (cond b (p ∷ filter (is_split m) (range (suc p) c)) (filter (is_split m) (range (suc p) c)))
    go true e = ap (λ (l : List ℕ). copy_node m p ∷ l) e
    go false e = e

copies_told : {m : MultiPortGraph} {M : Model} → Fine m M → (n : ℕ) (k : NodeMeta) → M.node n ≡ live k → (i o : ℕ) → copies_dropped m k i o ≡ hidden_told m n i o
unfolding copies_dropped hidden_told
copies_told {m} f n k here i o =
    let a : List ℕ = range (first_slot k + kept_incoming k i) (k.incoming - kept_incoming k i) in
    let b : List ℕ = range (first_slot k + k.incoming + kept_outgoing k o) (k.outgoing - kept_outgoing k o) in
    let meta : meta_at m.graph n ≡ Some k = meta_of_node f.good f.holds n k here in
    let ports : copies_dropped m k i o ≡ map (copy_node m) (filter (is_split m) a) ++ map (copy_node m) (filter (is_split m) b) =
    λ q. copies_are (k.incoming - kept_incoming k i) m (first_slot k + kept_incoming k i) q ++ copies_are (k.outgoing - kept_outgoing k o) m (first_slot k + k.incoming + kept_outgoing k o) q in
    ports
    ∙ (sym (map-append (copy_node m) (filter (is_split m) a) (filter (is_split m) b))
    ∙ (ap (map (copy_node m)) (sym (filter-append (is_split m) a b) ∙ ap (filter (is_split m)) (sym (dropped_ports f n k here i o)))
    ∙ (λ q. map (copy_node m) (filter (is_split m) (map (port_here m.graph n) (dropped_places (count_in (sym meta q) Incoming) (count_in (sym meta q) Outgoing) i o))))))

-- the resize itself gives no node back
recount_frees_none : (k : NodeMeta) (i o : ℕ) (r : Room) → (after_works r (recount_works k i o)).free_nodes ≡ r.free_nodes
unfolding after_works after_work recount_works
recount_frees_none k i o r = go (same_counts k i o) (fits_inside k i o)
  where
    taken : (b : Bool) → (cond b r (block_taken r (round_up (i + o)))).free_nodes ≡ r.free_nodes
    taken true = refl
    taken false = refl

    go : (a b : Bool) → (after_works r (cond a [] (cond b [] (move_works k (i + o))))).free_nodes ≡ r.free_nodes
    go true b = refl
    go false true = refl
    go false false = taken (eqb (round_up (i + o)) 0)

copies_free : (m : MultiPortGraph) (cs : List ℕ) (r : Room) → ((c : ℕ) → Member c cs → (k : NodeMeta) × (meta_at m.graph c ≡ Some k)) → (after_works r (copies_gone m cs)).free_nodes ≡ given_back cs r.free_nodes
unfolding after_works after_work flat_map
copies_free m [] r h = refl
copies_free m (c ∷ cs) r h =
    let k = h c (inl refl) in
    let gone_so : after_works r (copies_gone m (c ∷ cs)) ≡ after_works (after_works r (gone_works c (meta_at m.graph c))) (copies_gone m cs) = after_append (gone_works c (meta_at m.graph c)) (copies_gone m cs) r in
    let one : after_works r (gone_works c (meta_at m.graph c)) ≡ after_works r (gone_works c (Some k.0)) = ap (λ (v : Option NodeMeta). after_works r (gone_works c v)) k.1 in
    ap (λ (v : Room). v.free_nodes) (gone_so ∙ ap (λ (v : Room). after_works v (copies_gone m cs)) one)
    ∙ copies_free m cs (after_works r (gone_works c (Some k.0))) (λ d i. h d (inr i))

module _ {m : MultiPortGraph} {M : Model} (f : Fine m M) (n i o room e : ℕ) (ok : (set_counts m n i o room).answer ≡ Ok e) where
  list_long : 3 * ((old f n i o room e ok).incoming + (old f n i o room e ok).outgoing) ≤ room
  list_long = go (leb (3 * ((old f n i o room e ok).incoming + (old f n i o room e ok).outgoing)) room) refl
    where
      go : (r : Bool) → leb (3 * ((old f n i o room e ok).incoming + (old f n i o room e ok).outgoing)) room ≡ r → 3 * ((old f n i o room e ok).incoming + (old f n i o room e ok).outgoing) ≤ room
      go true p = leb-true _ _ p
      go false p =
          let q = plan_is f n i o room e ok false _ _ _ p refl refl refl in
          let a : (set_by m.graph n i o (refuse (Err set_error.MovesTooShort))).answer ≡ Ok e = subst (λ (v : Plan). (set_by m.graph n i o v).answer ≡ Ok e) q (answer_is f n i o room e ok) in
          absurd (zero_is_not_one (cc))

  copies_are_nodes : (c : ℕ) → Member c (copies_dropped m (old f n i o room e ok) i o) → (k : NodeMeta) × (meta_at m.graph c ≡ Some k)
  unfolding recounted is_hidden
  copies_are_nodes c h =
      let is = here f n i o room e ok in
      let r = recount_of (recount f n i o room e ok) (old f n i o room e ok) is in
      let l = (resize_loosens f n (old f n i o room e ok) (shown f n i o room e ok) is i o r).loose c h in
      let k = f.copy c l.0 in
      (k.meta, meta_of_node f.good f.holds c k.meta k.here)

  pub hidden_go : (N : Model) → Fine (set_counts m n i o room).graph N → N.free_nodes ≡ given_back (hidden_told m n i o) M.free_nodes
  unfolding set_works
  hidden_go N g =
      let k : NodeMeta = old f n i o room e ok in
      let is : M.node n ≡ live k = here f n i o room e ok in
      let meta : meta_at m.graph n ≡ Some k = meta_of_node f.good f.holds n k is in
      let s = set_counts_space f n k (shown f n i o room e ok, is) i o room (few f n i o room e ok) list_long in
      let r : room_of N ≡ after_works (room_of M) (set_works m n i o) = room_is (s.room_after (fits (overflows (room_of M) (set_works m n i o)) refl s.no_room_iff.1)) g.holds in
      let w : after_works (room_of M) (set_works m n i o) ≡ after_works (after_works (room_of M) (recount_works k i o)) (copies_gone m (copies_dropped m k i o)) =
      ap (λ (v : Option NodeMeta). after_works (room_of M) (set_meta_works m i o v)) meta ∙ after_append (recount_works k i o) (copies_gone m (copies_dropped m k i o)) (room_of M) in
      ap (λ (v : Room). v.free_nodes) (r ∙ w)
      ∙ (copies_free m (copies_dropped m k i o) (after_works (room_of M) (recount_works k i o)) copies_are_nodes
      ∙ (λ q. given_back (copies_told f n k is i o q) (recount_frees_none k i o (room_of M) q)))
    where
      fits : (b : Bool) → overflows (room_of M) (set_works m n i o) ≡ b → (overflows (room_of M) (set_works m n i o) ≡ true → (set_counts m n i o room).answer ≡ Err NoRoom) → overflows (room_of M) (set_works m n i o) ≡ false
      fits true p h = let x = h p in absurd (zero_is_not_one (cc))
      fits false p h = p

-- The hidden nodes of dropped ports go after the resize, in the order in which these ports are told: of the free node slots, those of
-- the last one told is the next to be taken, then the one before, and so on, and below them are those that were free before.
pub hidden_go_in_order : (release : Release) (calls : List Call) (n i o room e : ℕ) → (set_counts (run release calls).graph n i o room).answer ≡ Ok e →
    (M N : Model) → Fine (run release calls).graph M → Fine (set_counts (run release calls).graph n i o room).graph N →
    N.free_nodes ≡ given_back (hidden_told (run release calls).graph n i o) M.free_nodes
hidden_go_in_order release calls n i o room e ok M N f g = hidden_go f n i o room e ok N g
