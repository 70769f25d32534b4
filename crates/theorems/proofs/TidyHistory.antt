-- Proofs about tidies in histories.
use Rattle.std.proofs.lemmas.Bool.{cases_Bool}
use Rattle.std.specs.Prelude.{◌≡◌, Bool, true, false, cond, ◌⊎◌, leb, Some, Result, Ok, Err}
use Rattle.std.proofs.Math.Path.{refl, transport}
use Rattle.std.proofs.Common.{sym, ◌∙◌, ap, subst, inl, inr, ⊎_elim, arith}
use mathlib.Core.List.{List, [], ◌∷◌}
use Prim.Native.Nat.{ℕ, ◌+◌, ◌-◌, ◌≤◌, ◌<◌}
use borrow.Author.Tests.{le-leb, le-ltb, lt-ltb, ne_eqb}
use Rattle.port_tables.specs.Limits.{node_slots, port_slots, node_ports, present}
use Rattle.portgraph.specs.Lookups.{meta_at, num_ports}
use Rattle.port_tables.specs.Entries.{node#, ports_on}
use Rattle.portgraph.specs.Model as model
use Rattle.portgraph.specs.Model.{Model, Good, Slots, live, to, count_of, slot_of}
use Rattle.portgraph.specs.Meaning.{upd, rest, growth}
use Rattle.portgraph.specs.Sums.{upd_same, upd_other}
use Rattle.portgraph.specs.GoodSlots.{zero_is_not_one, upd_elim}
use Rattle.portgraph.specs.SlotHolds.{add_law, add_where, slot_room, block_room}
use Rattle.portgraph.specs.PlaceLaws.{node_of_meta}
use Rattle.port_tables.specs.declared.direction.Direction.{Direction}
use Rattle.port_tables.specs.declared.direction.Direction.TheVariants.{Incoming, Outgoing}
use Rattle.port_tables.specs.declared.node_entry.NodeMeta.{NodeMeta}
use Rattle.portgraph.specs.declared.alloc.NodeAdded as lower_added
use Rattle.multiportgraph.specs.Reading.{is_hidden, is_split, subports, copy_side, copy_node, seen}
use Rattle.multi_tables.specs.Forms.{Port, dead, hidden, visible}
use Rattle.multiportgraph.specs.Calls.{tidy_port, add_block, added_as}
use Rattle.multiportgraph.specs.Cases.{tidy_seen}
use Rattle.multiportgraph.specs.CaseLaws.{add_cases, tidy_cases}
use Rattle.multiportgraph.specs.WellFormed.{inner#, Fine, Seen, lift, WireIn, SameBlocks, MultiWf, HasEnd}
use Rattle.multiportgraph.specs.Ends.{BlockPort, split_has_copy, unsplit_no_copy, outer_of_subport, outer_of_block, lift_place, block_seen, seen_block, ports_walked_lem, count_of_lem}
use Rattle.multiportgraph.specs.HiddenStays.{true_not_false}
use Rattle.multiportgraph.specs.WalkRule.{same_wires_same_list}
use Rattle.multiportgraph.specs.Wires.{wires_walked, ports_walked}
use Rattle.multiportgraph.specs.Space.{Room, room_of, Work, take_node, take_block, give_node, give_block, after_work, after_works, overflows, tidy_works}
use Rattle.multiportgraph.specs.SpaceLaws.{room_of_graph, overfull, overflows_at_end}
use Rattle.multiportgraph.specs.Tidy.{subports_left, tidied}
use Rattle.multiportgraph.specs.TidyLaws.{TidySays, TidyLeft, SameBlock, tidy_port_law, tidy_left, left_linked, tidy_again, tidied_split}
use Rattle.multiportgraph.specs.SplitLaws.{end_of_wire, wire_of_end}
use Rattle.multiportgraph.specs.declared.multiportgraph.MultiPortGraph.{MultiPortGraph}
use Rattle.port_tables.specs.declared.release.Release.{Release}
use Rattle.multi_tables.specs.declared.answers.Refusal.{Refusal}
use Rattle.multi_tables.specs.declared.answers.Refusal.TheVariants.{NoRoom}
use Rattle.multiportgraph.specs.declared.multiportgraph.PortTidied.{PortTidied}
use Rattle.multiportgraph.specs.declared.multiportgraph.NodeAdded.{NodeAdded}
use Rattle.port_tables.specs.Places.{Place, Wire, spot, at_end, touches}
use Rattle.theorems.specs.Book.{Call, tidy_call, spot_of}
use Rattle.theorems.specs.History.{State, Stepped, step, next, run}
use Rattle.theorems.specs.Works.{works_of}
use Rattle.theorems.specs.Conditions.{RefusedBy, CutRefused, cut_dead, cut_hidden}
use Rattle.theorems.proofs.WireRule.{Rel, has_end_touches, touches_has_end}
use Rattle.theorems.proofs.CallLaws.{rel_run, rel_step, call_space, call_room_after, step_kept}
use Rattle.theorems.proofs.TidyCall.{tidy_refused_lem}
use Rattle.theorems.proofs.ListingWires.{block_booked, spot_back}
use Rattle.theorems.specs.TidyClaims.{PlacesKept, WalksKept, LeftByWires, FoundAgain}
use Rattle.theorems.proofs.TidyWalks.{walks_kept}

-- What stays.

tidy_keeps : (s : State) (M : Model) → Rel s.graph M s.book → (p : ℕ) → PlacesKept s (next s (tidy_call p))
tidy_keeps s M r p = go (tidy_port s.graph p).answer (tidy_port_law r.fine p)
  where
    go : (a : Result (Unit {0}) Refusal) → TidySays s.graph M (tidy_port s.graph p).graph a → PlacesKept s (next s (tidy_call p))
    go (Err e) same =
        record {
          book = refl;
          wires = ap wires_walked same;
          ports = λ n b. ap (λ (m : MultiPortGraph). ports_walked m n) same;
          counts = λ n b d. ap (λ (m : MultiPortGraph). num_ports m.graph n d) same;
        }
    go (Ok tt) d =
        record {
          book = refl;
          wires = sym (same_wires_same_list r.fine d.fine (λ w i. d.wires.kept w i refl) (λ w i. ⊎_elim (λ a. a.0) absurd (d.wires.only w i)));
          ports = λ n b. let k = block_booked r n b in ports_walked_lem d.fine n k.0 (d.blocks.0 n k.0 k.1) ∙ sym (ports_walked_lem r.fine n k.0 k.1);
          counts = λ n b e.
              let k = block_booked r n b in
              count_of_lem d.fine n e ∙ (ap (λ (v : Slots). count_of v e) ((d.blocks.0 n k.0 k.1).1 ∙ sym k.1.1) ∙ sym (count_of_lem r.fine n e));
        }

pub tidy_keeps_places : (release : Release) (calls : List Call) (p : ℕ) → PlacesKept (run release calls) (next (run release calls) (tidy_call p))
tidy_keeps_places release calls p = let r = rel_run release calls in tidy_keeps (run release calls) r.0 r.1 p

-- Every walk that gives wires goes on as it would have.
walks_go_on : {m : MultiPortGraph} {M : Model} → Fine m M → (p : ℕ) → WalksKept m (tidy_port m p).graph
walks_go_on {m} {M} f p = go (tidy_port m p).answer (tidy_port_law f p)
  where
    go : (a : Result (Unit {0}) Refusal) → TidySays m M (tidy_port m p).graph a → WalksKept m (tidy_port m p).graph
    go (Err e) same = walks_kept f (subst (λ (u : MultiPortGraph). Fine u M) (sym same) f) (subst (λ (u : MultiPortGraph). SameBlocks m M u M) (sym same) ((λ n k b. b), λ n k b. b))
        (λ w i. subst (λ (u : MultiPortGraph). WireIn u M w) (sym same) i) (λ w i. subst (λ (u : MultiPortGraph). WireIn u M w) same i)
    go (Ok tt) d = walks_kept f d.fine d.blocks (λ w i. d.wires.kept w i refl) (λ w i. ⊎_elim (λ a. a.0) absurd (d.wires.only w i))

pub tidy_keeps_walks : (release : Release) (calls : List Call) (p : ℕ) → WalksKept (run release calls).graph (next (run release calls) (tidy_call p)).graph
tidy_keeps_walks release calls p = walks_go_on (rel_run release calls).1.fine p

-- A port that is not split stays as it is.
unsplit_stays : (m : MultiPortGraph) (p : ℕ) → is_split m p ≡ false → (tidy_port m p).graph ≡ m
unsplit_stays m p s = ap (λ (v : PortTidied). v.graph) (tidy_cases m p) ∙ go (seen m p)
  where
    go : (v : Port) → (tidy_seen m p v).graph ≡ m
    go dead = refl
    go hidden = refl
    go (visible n d) = ap (λ (b : Bool). cond b (tidied m p d) m) s

pub tidy_leaves_an_unsplit_port : (release : Release) (calls : List Call) (p : ℕ) → is_split (run release calls).graph p ≡ false → next (run release calls) (tidy_call p) ≡ run release calls
tidy_leaves_an_unsplit_port release calls p s = ap (λ (m : MultiPortGraph). record { graph = m; book = (run release calls).book }) (unsplit_stays (run release calls).graph p s)

-- What is left.

module _ {s : State} {M : Model} (r : Rel s.graph M s.book) (x : model.InnerPlace) (sx : Seen s.graph M x) where
  abbrev at : ℕ
  at = slot_of M.node x

  -- an unsplit port has its end at offset 0 alone
  only_zero : is_split s.graph at ≡ false → (o : ℕ) → 0 < o → (w : Wire) → WireIn s.graph M w → HasEnd w (lift x o) → ⊥
  only_zero e o some w i h =
      let l = end_of_wire r.fine w (lift x o) i h in
      ⊎_elim
      (λ q.
      let c = r.fine.copy l.near.node q in
      let z : lift c.main l.near.pos ≡ lift x o = sym (outer_of_subport r.fine l.near c.main q c.joined) ∙ l.is in
      unsplit_no_copy r.fine x e l.near.node q (c.joined ∙ ap to (lift_place z)))
      (λ q. let z : 0 ≡ o = ap (λ (v : Place). v.offset) (sym (outer_of_block r.fine l.near q) ∙ l.is) in omega arith)
      (cases_Bool (is_hidden s.graph l.near.node))

  left_by_wires : TidyLeft s.graph at x.side → LeftByWires s at x.node x.side x.pos
  left_by_wires t =
      record {
        whole = λ e o some w i.
            ⊎_elim (λ h. absurd (only_zero e o some w (r.wires.booked w i) (touches_has_end x o w h))) (λ h. h)
            (cases_Bool (touches (at_end (spot x.node x.side x.pos) o) w));
        shared = λ e.
            let h = split_has_copy r.fine x sx e in
            let k = left_linked r.fine x sx h t e in
            let o = subports s.graph at x.side - 1 in
            let n : o < count_of (M.node h.copy) x.side = let a = h.count in let b = k.0 in omega arith in
            let w = wire_of_end r.fine (inner# h.copy x.side o) k.1.0 (h.ends o n) k.1.1 in
            (k.0, (w.0, r.wires.walks w.0 w.1, has_end_touches x o w.0 (subst (HasEnd w.0) (h.outers o) w.2)));
      }

pub tidy_leaves_what_is_wired : (release : Release) (calls : List Call) (p n : ℕ) (d : Direction) (i : ℕ) → spot_of (run release calls).book.blocks p ≡ spot n d i →
    LeftByWires (next (run release calls) (tidy_call p)) p n d i
tidy_leaves_what_is_wired release calls p n d i e =
    let r = rel_run release calls in
    let b = spot_back r.1 p n d i e in
    let t = rel_step r.1 (tidy_call p) in
    let c = spot_back t.1 p n d i e in
    let seen_here : seen (run release calls).graph p ≡ visible n d = ap (seen (run release calls).graph) (sym b.1) ∙ seen_block r.1.fine (inner# n d i) b.0 in
    let l = tidy_left r.1.fine p n d seen_here in
    subst (λ (q : ℕ). LeftByWires (next (run release calls) (tidy_call p)) q n d i) c.1
    (left_by_wires {s = next (run release calls) (tidy_call p)} t.1 (inner# n d i) c.0 (subst (λ (q : ℕ). TidyLeft (tidy_port (run release calls).graph p).graph q d) (sym c.1) l))

abbrev as_step : (p : ℕ) → PortTidied → Stepped (tidy_call p)
as_step p v = record { graph = v.graph; answer = v.answer }

pub tidy_twice_is_once : (release : Release) (calls : List Call) (p : ℕ) →
    (step (step (run release calls).graph (tidy_call p)).graph (tidy_call p) ≡ step (run release calls).graph (tidy_call p))
    × (next (next (run release calls) (tidy_call p)) (tidy_call p) ≡ next (run release calls) (tidy_call p))
tidy_twice_is_once release calls p =
    let e = tidy_again (rel_run release calls).1.fine p in (
      ap (as_step p) e,
      ap (λ (v : PortTidied). record { graph = v.graph; book = (run release calls).book }) e,
    )

-- a tidy is refused with 7 and 8 alone
not_room : {m : MultiPortGraph} {M : Model} (p : ℕ) (r : Refusal) → CutRefused m M p r → r ≡ NoRoom → ⊥
not_room p r (cut_dead d) q = zero_is_not_one (cc)
not_room p r (cut_hidden h) q = zero_is_not_one (cc)

pub tidy_needs_no_room : (release : Release) (calls : List Call) (p : ℕ) → RefusedBy (tidy_call p) (step (run release calls).graph (tidy_call p)).answer NoRoom → ⊥
tidy_needs_no_room release calls p e = not_room p NoRoom (tidy_refused_lem (rel_run release calls).1.fine p NoRoom e) refl

-- What is given back is found again.

-- a node slot and a block that are given back, and taken next
module _ (r : Room) (c first size : ℕ) (some : 0 < size) where
  abbrev back : Room
  back = after_works r (give_node c ∷ give_block first size ∷ [])

  listed : (back.free_nodes ≡ c ∷ r.free_nodes) × (back.free_blocks size ≡ first ∷ r.free_blocks size) × (back.node_len ≡ r.node_len) × (back.port_len ≡ r.port_len)
  unfolding after_works after_work
  listed = rw (ne_eqb size 0 (λ e. omega arith)) (refl, upd_same r.free_blocks size (first ∷ r.free_blocks size), refl, refl)

  taken_again : after_works back (take_node ∷ take_block size ∷ []) ≡ r
  unfolding after_works after_work
  taken_again =
      rw (ne_eqb size 0 (λ e. omega arith))
      (λ i. record { free_nodes = r.free_nodes; free_blocks = λ n. blocks n i; node_len = none r.node_len i; port_len = ports i })
    where
      pushed : ℕ → List ℕ
      pushed = upd r.free_blocks size (first ∷ r.free_blocks size)

      blocks : (n : ℕ) → upd pushed size (rest (pushed size)) n ≡ r.free_blocks n
      blocks n =
          upd_elim (λ l. l ≡ r.free_blocks n) pushed size (rest (pushed size)) n (λ q. ap rest (upd_same r.free_blocks size (first ∷ r.free_blocks size)) ∙ ap r.free_blocks (sym q))
          (λ q. upd_other r.free_blocks size (first ∷ r.free_blocks size) n q)

      none : (n : ℕ) → n + 0 ≡ n
      none n = omega arith

      ports : r.port_len + growth size (pushed size) ≡ r.port_len
      ports = rw (upd_same r.free_blocks size (first ∷ r.free_blocks size)) (none r.port_len)

  block_again : (b s : ℕ) → ((after_works back (take_block size ∷ give_block b s ∷ [])).node_len ≡ r.node_len) × ((after_works back (take_block size ∷ give_block b s ∷ [])).port_len ≡ r.port_len)
  unfolding after_works after_work
  block_again b s = rw (ne_eqb size 0 (λ e. omega arith)) (refl, (rw (upd_same r.free_blocks size (first ∷ r.free_blocks size)) (omega arith)))

-- what fits, fits
fitting : {M : Model} (good : Good M) (r : Room) → r.node_len ≡ M.node_len → r.port_len ≡ M.port_len → overfull r ≡ false
fitting {M} good r a b =
    let n = good.nodes_fit in
    let p = good.ports_fit in
    rw (le-ltb node_slots r.node_len (omega arith), le-ltb port_slots r.port_len (omega arith)) refl

-- the works of a tidy overflow no table
tidy_fits : {m : MultiPortGraph} {M : Model} (f : Fine m M) (p : ℕ) → overflows (room_of M) (works_of m (tidy_call p)) ≡ false
tidy_fits {m} {M} f p = go (overflows (room_of M) (works_of m (tidy_call p))) refl
  where
    go : (b : Bool) → overflows (room_of M) (works_of m (tidy_call p)) ≡ b → b ≡ false
    go false e = refl
    go true e = absurd (not_room p NoRoom (tidy_refused_lem f p NoRoom ((call_space f (tidy_call p)).no_room_iff.1 e)) refl)

-- what a tidy does to a split port of a block
abbrev Goes : MultiPortGraph → ℕ → Direction → Type 0
Goes m q d = ((is_split (tidied m q d) q ≡ true) × (1 < subports_left m q d) × SameBlock m.graph (tidied m q d).graph (copy_node m q)) ⊎ ((is_split (tidied m q d) q ≡ false) × (subports_left m q d ≤ 1))

goes_or_stays : {m : MultiPortGraph} {M : Model} (f : Fine m M) (p n : ℕ) (d : Direction) → BlockPort m M p n d → is_split m p ≡ true → Goes m p d
goes_or_stays {m} f p n d b was = transport (λ i. Goes m (b.slot i) (b.side i)) (tidied_split f b.place b.is_seen (ap (is_split m) b.slot ∙ was))

graph_is : (m : MultiPortGraph) (p n : ℕ) (d : Direction) → seen m p ≡ visible n d → is_split m p ≡ true → (tidy_port m p).graph ≡ tidied m p d
graph_is m p n d e was = ap (λ (u : PortTidied). u.graph) (tidy_cases m p ∙ ap (tidy_seen m p) e) ∙ rw was refl

-- A hidden node that stays.

stays_in_block : {m : MultiPortGraph} {M : Model} (f : Fine m M) (p n : ℕ) (d : Direction) → seen m p ≡ visible n d → is_split m p ≡ true → is_split (tidy_port m p).graph p ≡ true →
    SameBlock m.graph (tidy_port m p).graph.graph (copy_node m p) × ((A N : Model) → Fine m A → Fine (tidy_port m p).graph N → room_of N ≡ room_of A)
unfolding works_of tidy_works after_works
stays_in_block {m} {M} f p n d e was stays = go (goes_or_stays f p n d (block_seen f p n d e) was)
  where
    go : Goes m p d → SameBlock m.graph (tidy_port m p).graph.graph (copy_node m p) × ((A N : Model) → Fine m A → Fine (tidy_port m p).graph N → room_of N ≡ room_of A)
    go (inl t) =
        let works : works_of m (tidy_call p) ≡ [] = rw (e, was, lt-ltb 1 (subports_left m p d) t.1) refl in (
          subst (λ (u : MultiPortGraph). SameBlock m.graph u.graph (copy_node m p)) (sym (graph_is m p n d e was)) t.2,
          λ A N a g. call_room_after a (tidy_call p) g (tidy_fits a p) ∙ ap (after_works (room_of A)) works,
        )
    go (inr t) = absurd (true_not_false stays (ap (λ (u : MultiPortGraph). is_split u p) (graph_is m p n d e was) ∙ t.0))

-- A hidden node that goes.

module _ {m : MultiPortGraph} {M : Model} (f : Fine m M) (p : ℕ) (k : NodeMeta) (was : is_split m p ≡ true) (goes : is_split (tidy_port m p).graph p ≡ false)
    (meta : meta_at m.graph (copy_node m p) ≡ Some k) where
  abbrev m₁ : MultiPortGraph
  m₁ = (tidy_port m p).graph

  abbrev gives : List Work
  gives = give_node (copy_node m p) ∷ give_block k.first_port.0 k.capacity ∷ []

  -- the port is one of a block, and its hidden node goes
  place : (n : ℕ) × (d : Direction) × BlockPort m M p n d × (seen m p ≡ visible n d)
  place = ports (seen m p) refl
    where
      still : (v : Port) → seen m p ≡ v → (tidy_seen m p v).graph ≡ m → ⊥
      still v e g =
          true_not_false was
          (ap (λ (u : MultiPortGraph). is_split u p) (sym (ap (λ (u : PortTidied). u.graph) (tidy_cases m p ∙ ap (tidy_seen m p) e) ∙ g)) ∙ goes)

      ports : (v : Port) → seen m p ≡ v → (n : ℕ) × (d : Direction) × BlockPort m M p n d × (seen m p ≡ visible n d)
      ports dead e = absurd (still dead e refl)
      ports hidden e = absurd (still hidden e refl)
      ports (visible n d) e = (n, d, block_seen f p n d e, e)

  works : works_of m (tidy_call p) ≡ gives
  unfolding works_of tidy_works
  works =
      let d = place.1 in
      let e = place.3 in
      rw e
      (⊎_elim (λ t. absurd (true_not_false (ap (λ (u : MultiPortGraph). is_split u p) (graph_is m p place.0 d e was) ∙ t.0) goes))
      (λ t. rw (was, le-ltb 1 (subports_left m p d) t.1, meta) refl) (goes_or_stays f p place.0 d place.2 was))

  here : M.node (copy_node m p) ≡ live k
  here = node_of_meta f.good f.holds (copy_node m p) k meta

  -- the hidden node has a block
  has_block_lem : 0 < k.capacity
  has_block_lem =
      let b = place.2 in
      let h = split_has_copy f b.place b.is_seen (ap (is_split m) b.slot ∙ was) in
      let c : copy_node m p ≡ h.copy = ap (copy_node m) (sym b.slot) ∙ h.copy_is in
      let i = f.copy h.copy h.is_copy in
      let x = i.here in
      let y : M.node h.copy ≡ live k = ap M.node (sym c) ∙ here in
      let q : i.meta ≡ k = cc in
      let fit = f.good.ports_in_block (copy_node m p) k here in
      some (copy_side m h.copy) (subst (λ (z : NodeMeta). ports_on z (copy_side m h.copy) ≡ 1) q i.single) fit
    where
      some : (d : Direction) → ports_on k d ≡ 1 → k.incoming + k.outgoing ≤ k.capacity → 0 < k.capacity
      some Incoming e fit = omega arith
      some Outgoing e fit = omega arith

  after : MultiWf m₁
  after = step_kept m (tidy_call p) (record { model = M; fine = f })

  room_given : (N : Model) → Fine m₁ N → room_of N ≡ after_works (room_of M) gives
  room_given N g = call_room_after f (tidy_call p) g (tidy_fits f p) ∙ ap (after_works (room_of M)) works

  -- a call that takes both, or the block alone
  module _ (call : Call) (l : List Work) (is : works_of m₁ call ≡ l)
      (same : ((after_works (after_works (room_of M) gives) l).node_len ≡ M.node_len) × ((after_works (after_works (room_of M) gives) l).port_len ≡ M.port_len)) where
    after_call : after_works (room_of after.model) (works_of m₁ call) ≡ after_works (after_works (room_of M) gives) l
    after_call = λ i. after_works (room_given after.model after.fine i) (is i)

    fits_again : overflows (room_of after.model) (works_of m₁ call) ≡ false
    fits_again = overflows_at_end (room_of after.model) (works_of m₁ call) ∙ (ap (λ (r : Room). overfull r) after_call ∙ fitting f.good (after_works (after_works (room_of M) gives) l) same.0 same.1)

    not_refused : RefusedBy call (step m₁ call).answer NoRoom → ⊥
    not_refused e = true_not_false ((call_space after.fine call).no_room_iff.0 e) fits_again

    room_again : (N : Model) → Fine (step m₁ call).graph N → room_of N ≡ after_works (after_works (room_of M) gives) l
    room_again N g = call_room_after after.fine call g fits_again ∙ after_call

  add_again : (i o : ℕ) → i + o ≡ k.capacity → (add_block m₁ i o).answer ≡ Ok (node# (copy_node m p), k.first_port)
  add_again i o e =
      let N = after.model in
      let g = after.fine in
      let r = room_given N g in
      let l = listed (room_of M) (copy_node m p) k.first_port.0 k.capacity has_block_lem in
      let a : N.free_nodes ≡ copy_node m p ∷ M.free_nodes = ap (λ (u : Room). u.free_nodes) r ∙ l.0 in
      let b : N.free_blocks (i + o) ≡ k.first_port.0 ∷ M.free_blocks k.capacity = ap N.free_blocks e ∙ (ap (λ (u : Room). u.free_blocks k.capacity) r ∙ l.1) in
      let small = f.good.block_small (copy_node m p) k here in
      let n = g.good.nodes_fit in
      let q = g.good.ports_fit in
      let h = has_block_lem in
      let w : (add_where m₁.graph N i o (leb (i + o) node_ports) (slot_room N) (block_room N (i + o))).answer ≡ Ok (node# (copy_node m p), k.first_port) =
      rw
      (le-leb (i + o) node_ports (omega arith), a, b, le-leb (N.node_len + 0) node_slots (omega arith), le-leb (N.port_len + 0) port_slots (omega arith), ne_eqb (i + o) 0 (λ z. omega arith))
      refl in
      ap (λ (v : NodeAdded). v.answer) (add_cases present m₁ i o)
      ∙ ap added_as (ap (λ (v : lower_added.NodeAdded). v.answer) (add_law g.good g.holds i o) ∙ w)

  found_again : FoundAgain m m₁ (copy_node m p) k
  found_again =
      record {
        given = λ A N a g. call_room_after a (tidy_call p) g (tidy_fits a p) ∙ ap (after_works (room_of A)) works;
        added = add_again;
        both = λ call e.
            let t = taken_again (room_of M) (copy_node m p) k.first_port.0 k.capacity has_block_lem in
            let s : ((after_works (after_works (room_of M) gives) (take_node ∷ take_block k.capacity ∷ [])).node_len ≡ M.node_len)
            × ((after_works (after_works (room_of M) gives) (take_node ∷ take_block k.capacity ∷ [])).port_len ≡ M.port_len) =
            (ap (λ (u : Room). u.node_len) t, ap (λ (u : Room). u.port_len) t) in
            (not_refused call _ e s, λ A N a g. room_again call _ e s N g ∙ (t ∙ room_of_graph f.holds a.holds));
        block = λ call first size e.
            let s = block_again (room_of M) (copy_node m p) k.first_port.0 k.capacity has_block_lem first size in (
              not_refused call _ e s,
              λ A N a g.
                  let t = room_again call _ e s N g in
                  let u = room_of_graph f.holds a.holds in
                  (ap (λ (v : Room). v.node_len) t ∙ (s.0 ∙ ap (λ (v : Room). v.node_len) u), ap (λ (v : Room). v.port_len) t ∙ (s.1 ∙ ap (λ (v : Room). v.port_len) u)),
            );
      }

pub tidied_slots_are_found : (release : Release) (calls : List Call) (p : ℕ) (k : NodeMeta) → is_split (run release calls).graph p ≡ true → is_split (next (run release calls) (tidy_call p)).graph p ≡ false →
    meta_at (run release calls).graph.graph (copy_node (run release calls).graph p) ≡ Some k →
    FoundAgain (run release calls).graph (next (run release calls) (tidy_call p)).graph (copy_node (run release calls).graph p) k
tidied_slots_are_found release calls p k was goes meta = found_again (rel_run release calls).1.fine p k was goes meta

-- a hidden node that stays keeps its block, and nothing is taken or given back
pub tidy_drops_within_the_block : (release : Release) (calls : List Call) (p n : ℕ) (d : Direction) → seen (run release calls).graph p ≡ visible n d → is_split (run release calls).graph p ≡ true →
    is_split (next (run release calls) (tidy_call p)).graph p ≡ true →
    SameBlock (run release calls).graph.graph (next (run release calls) (tidy_call p)).graph.graph (copy_node (run release calls).graph p)
    × ((M N : Model) → Fine (run release calls).graph M → Fine (next (run release calls) (tidy_call p)).graph N → room_of N ≡ room_of M)
tidy_drops_within_the_block release calls p n d e was stays = stays_in_block (rel_run release calls).1.fine p n d e was stays
