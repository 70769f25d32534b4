-- Refusal 10 is given exactly where the works of a call would lengthen a table past its limit, and after an accepted call the
-- room is that after its works.
use Rattle.portgraph.specs.Chains.{chain_one}
use Rattle.std.specs.Prelude.{◌≡◌, Bool, cond, not, ◌||◌, ℕ, zero, suc, ◌+◌, ◌*◌, ◌≤◌, ◌<◌, eqb, leb, ltb, get_or, set, Option, Some, None, Result, Ok, Err}
use Rattle.std.proofs.Math.Path.{refl, sym, ap, subst, transport}
use Rattle.std.proofs.Common.{◌∙◌, inl, inr, arith, ltb-true, leb-true, leb-false, eqb-true, lt-ltb, le-ltb, le-leb, ne_eqb}
use Rattle.std.proofs.Math.Bool.{true, false}
use mathlib.Core.List.{List, [], ◌∷◌, ◌++◌, flat_map}
use Rattle.std.proofs.Math.Seq.{get_or-set_other}
use Rattle.std.proofs.lemmas.Bool.{lt-leb}
use Rattle.port_tables.specs.Limits.{node_slots, port_slots, node_ports, present}
use Rattle.port_tables.specs.Lists.{Member, Once}
use Rattle.port_tables.specs.Entries.{fresh_slot, same_side, port#}
use Rattle.port_tables.specs.Tables.{Within}
use Rattle.portgraph.specs.Model as model
use Rattle.portgraph.specs.Model.{Model, to, Valid, slot_of, first_of, side_start, count_of, Good, Holds, Slots, gone, live, Chain, NodeChain, number_of_first}
use Rattle.portgraph.specs.Meaning.{upd, rest, growth, add_model, remove_model, link_model, unlink_model, resize_model, move_model, at_node}
use Rattle.portgraph.specs.Calls.{add_node, remove_node, link_ports, unlink_port}
use Rattle.portgraph.specs.Resize.{set_num_ports, set_by, refuse}
use Rattle.port_tables.specs.ResizeLinks.{round_up, same_counts, fits_inside}
use Rattle.portgraph.specs.ResizeSteps.{round_up_reaches, round_up_positive, round_up_fits, fits_below}
use Rattle.portgraph.specs.ResizeLaws.{plan_live, plan_where, set_law, set_too_many, set_moves_too_short, none_beyond}
use Rattle.portgraph.specs.InsideHolds.{inside_holds}
use Rattle.portgraph.specs.AnewHolds.{anew_holds}
use Rattle.portgraph.specs.GoodSlots.{zero_is_not_one, upd_elim, upd_other, slots_apart, joined_is_valid}
use Rattle.portgraph.specs.Sums.{drop_kept}
use Rattle.portgraph.specs.LinkHolds.{LinkSays, UnlinkSays, link_law, unlink_law}
use Rattle.portgraph.specs.SlotHolds.{slot_room, block_room, add_where, add_law, place_holds, remove_slots, remove_law, free_holds}
use Rattle.portgraph.specs.GoodLaws.{good_add, good_resize, good_move, good_remove}
use Rattle.portgraph.specs.Lookups.{meta_at, num_ports}
use Rattle.portgraph.specs.PlaceLaws.{meta_of_node, node_of_meta, gone_has_no_meta}
use Rattle.port_tables.specs.declared.node_entry.NodeMeta.{NodeMeta}
use Rattle.port_tables.specs.declared.node_entry.NodeSlot.{NodeSlot}
use Rattle.port_tables.specs.declared.node_entry.FreeNodeEntry.{FreeNodeEntry}
use Rattle.port_tables.specs.declared.node_entry.NodeEntry.TheVariants.{Free}
use Rattle.portgraph.specs.declared.portgraph.PortGraph.{PortGraph}
use Rattle.port_tables.specs.declared.direction.Direction.{Direction}
use Rattle.port_tables.specs.declared.direction.Direction.TheVariants.{Incoming, Outgoing}
use Rattle.portgraph.specs.declared.alloc.NodeAdded as lower_added
use Rattle.portgraph.specs.declared.resize.PortsSet as lower_set_done
use Rattle.multiportgraph.specs.Calls.{drop_block, remove_block, added_as, add_block, set_as, set_counts, cut_sub, link_sub, link_sub_if, set_counts_under, link_pair, link_pair_if, link_clean, link_clean_if, tidy_port}
use Rattle.multiportgraph.specs.WellFormed.{inner#, copy_place, Fine, Seen, BlockIs, SameBlocks}
use Rattle.multiportgraph.specs.Reading.{owner_of, copy_side, has_link, port_of, is_hidden, is_split, seen, copy_node, subports, end_at, as_read, far_subport, far_port, subport_at}
use Rattle.multi_tables.specs.Forms.{Port, dead, hidden, visible, subport#, End, inner, lacking, good_offset}
use Rattle.multiportgraph.specs.Ends.{Hangs, split_has_copy, block_seen, seen_block, copy_valid, port_of_lem, far_of, owner_of_lem, BlockPort, seen_still}
use Rattle.multiportgraph.specs.CopyLaws.{copy_goes, unsplit_split}
use Rattle.multiportgraph.specs.PrepareLaws.{prepare_law}
use Rattle.multiportgraph.specs.Tidy.{subports_left, left_incoming, left_outgoing, drop_subports, link_directly, tidied}
use Rattle.multiportgraph.specs.TidyLaws.{DropWithin, no_change, in_block, left_within}
use Rattle.multiportgraph.specs.RecountLaws.{recount_of, SomeRecount, set_recounts, slot_on_side, place_among}
use Rattle.multiportgraph.specs.SetLaws.{resize_loosens}
use Rattle.multiportgraph.specs.Space.{Room, room_of, Work, tidy_works, tidy_seen_works, take_node, take_block, give_node, give_block, block_taken, after_work, after_works, on_the_way, nodes_past, ports_past, nodes_short, ports_short, overflows, add_works, gone_works, split_works, move_works, recount_works, grow_works, reuse_works, prepare_works, second_works, link_seen_works, link_works, link_clean_seen_works, link_clean_works, copies_gone, set_meta_works, set_works, cut_works, remove_works, remove_meta_works, told_works, HasRoom, Spaced}
use Rattle.multiportgraph.specs.declared.multiportgraph.MultiPortGraph.{MultiPortGraph}
use Rattle.multi_tables.specs.declared.answers.Refusal.{Refusal}
use Rattle.multi_tables.specs.declared.answers.Refusal.TheVariants.{BadOffset, TooManyPorts, UnknownNode, HiddenNode, MovesTooShort, NoRoom, IncompatibleDirections, InputWired}
use Rattle.multi_tables.specs.declared.answers.SubportIndex.{SubportIndex}
use Rattle.multiportgraph.specs.declared.multiportgraph.NodeAdded.{NodeAdded}
use Rattle.multiportgraph.specs.declared.multiportgraph.NodeRemoved.{NodeRemoved}
use Rattle.multiportgraph.specs.declared.multiportgraph.PortUnlinked.{PortUnlinked}
use Rattle.multiportgraph.specs.declared.multiportgraph.PortTidied.{PortTidied}
use Rattle.multiportgraph.specs.declared.multiportgraph.PortsSet.{PortsSet}
use Rattle.multiportgraph.specs.declared.multiportgraph.PortsLinked.{PortsLinked}
use Rattle.multiportgraph.specs.HiddenNodes.{unsplit_range, copies_in, recounted, Prepared, ready, full, copy_incoming, copy_outgoing, split, split_by, split_port, split_graph, lowest_free, more_incoming, more_outgoing, enough, grow, grown_by, reuse, prepare, remove_copy, remove_lone, remove_all, copies_dropped, unsplit, split_under, grow_under, prepare_under, reuse_under}
use Rattle.multiportgraph.specs.Cases.{remove_refused, remove_meta, link_first, link_second, link_seen, link_refused, set_refused, resized, set_meta, cut_refused, cut_end, cut_sub_seen, link_inner, link_second_end, link_first_end, link_sub_seen, link_live, link_clean_by, taken_sub_seen, tidy_seen}
use Rattle.multi_tables.specs.NamedEnds.{pair_seen, taken_seen, taken_second, taken_first}
use Rattle.multiportgraph.specs.Graph.{with_graph}
use Rattle.multiportgraph.specs.Refusals.{input_taken}
use Rattle.multiportgraph.specs.CaseLaws.{add_cases, set_cases, link_cases, link_taken, link_clean_cases, link_clean_taken, link_sub_cases, link_sub_taken, cut_sub_cases, remove_cases, tidy_cases}
use Rattle.port_tables.specs.declared.index.PortIndex.{PortIndex}
use Rattle.portgraph.specs.declared.portgraph.NoSuchPort.{NoSuchPort}
use Rattle.portgraph.specs.declared.alloc.AddError.TheVariants as add_error
use Rattle.portgraph.specs.declared.portgraph.LinkError.TheVariants as link_error
use Rattle.portgraph.specs.declared.resize.SetError.TheVariants as set_error
use Rattle.port_tables.specs.declared.index.NodeIndex.{NodeIndex}
use Rattle.portgraph.specs.declared.alloc.AddError.{AddError}
use Rattle.portgraph.specs.declared.portgraph.LinkError.{LinkError}
use Rattle.portgraph.specs.declared.resize.SetError.{SetError}
use Rattle.multiportgraph.specs.CopySteps.{unsplit_plain}

-- Lengths never shrink, so what is passed on the way is passed at the end.

nodes_grow : (r : Room) (w : Work) → r.node_len ≤ (after_work r w).node_len
unfolding after_work
nodes_grow r take_node = omega arith
nodes_grow r (take_block size) = go (eqb size 0)
  where
    go : (b : Bool) → r.node_len ≤ (cond b r (block_taken r size)).node_len
    go true = omega arith
    go false = omega arith
nodes_grow r (give_node n) = omega arith
nodes_grow r (give_block first size) = omega arith

ports_grow : (r : Room) (w : Work) → r.port_len ≤ (after_work r w).port_len
unfolding after_work
ports_grow r take_node = omega arith
ports_grow r (take_block size) = go (eqb size 0)
  where
    go : (b : Bool) → r.port_len ≤ (cond b r (block_taken r size)).port_len
    go true = omega arith
    go false = omega arith
ports_grow r (give_node n) = omega arith
ports_grow r (give_block first size) = omega arith

module _ (past : Room → Bool) (stays : (r : Room) (w : Work) → past r ≡ true → past (after_work r w) ≡ true) where
  stays_past : (l : List Work) (r : Room) → past r ≡ true → past (after_works r l) ≡ true
  unfolding after_works
  stays_past [] r e = e
  stays_past (w ∷ l) r e = stays_past l (after_work r w) (stays r w e)

  at_end : (l : List Work) (r : Room) → on_the_way past r l ≡ past (after_works r l)
  unfolding on_the_way after_works
  at_end [] r = refl
  at_end (w ∷ l) r = go (past r) refl (at_end l (after_work r w))
    where
      go : (b : Bool) → past r ≡ b → on_the_way past (after_work r w) l ≡ past (after_works (after_work r w) l)
          → (b || (on_the_way past (after_work r w) l)) ≡ past (after_works (after_work r w) l)
      go true e ih = sym (stays_past l (after_work r w) (stays r w e))
      go false e ih = ih

pub nodes_short_at_end : (r : Room) (l : List Work) → nodes_short r l ≡ nodes_past (after_works r l)
nodes_short_at_end r l =
    at_end (λ s. ltb node_slots s.node_len)
    (λ s w e. let a = ltb-true node_slots s.node_len e in let b = nodes_grow s w in lt-ltb node_slots (after_work s w).node_len (omega arith)) l r

pub ports_short_at_end : (r : Room) (l : List Work) → ports_short r l ≡ ports_past (after_works r l)
ports_short_at_end r l =
    at_end (λ s. ltb port_slots s.port_len)
    (λ s w e. let a = ltb-true port_slots s.port_len e in let b = ports_grow s w in lt-ltb port_slots (after_work s w).port_len (omega arith)) l r

-- a table is past its limit
abbrev pub overfull : Room → Bool
overfull r = nodes_past r || ports_past r

pub overflows_at_end : (r : Room) (l : List Work) → overflows r l ≡ overfull (after_works r l)
overflows_at_end r l = λ i. ((nodes_short_at_end r l i) || (ports_short_at_end r l i))

pub after_append : (k l : List Work) (r : Room) → after_works r (k ++ l) ≡ after_works (after_works r k) l
unfolding after_works
after_append [] l r = refl
after_append (w ∷ k) l r = after_append k l (after_work r w)

pub overflows_append : (r : Room) (k l : List Work) → overflows r (k ++ l) ≡ overflows (after_works r k) l
overflows_append r k l = overflows_at_end r (k ++ l) ∙ (ap (λ (s : Room). overfull s) (after_append k l r) ∙ sym (overflows_at_end (after_works r k) l))

pub overflows_no_more : (r : Room) (l : List Work) → overflows r (l ++ []) ≡ overflows r l
unfolding after_works
overflows_no_more r l = overflows_append r l [] ∙ (overflows_at_end (after_works r l) [] ∙ sym (overflows_at_end r l))

-- The room is read off the tables: two models of one graph have the same.

same_node_chain : (nodes : List NodeSlot) (p q : ℕ) (l k : List ℕ) → number_of_first l ≡ number_of_first k → NodeChain nodes p l → NodeChain nodes q k → l ≡ k
same_node_chain nodes p q [] [] e c d = refl
same_node_chain nodes p q [] (y ∷ k) e c d = absurd (omega arith)
same_node_chain nodes p q (x ∷ l) [] e c d = absurd (omega arith)
same_node_chain nodes p q (x ∷ l) (y ∷ k) e c d =
    let s : x ≡ y = omega arith in
    let c0 = c.0 in
    let d0 : (get_or nodes x fresh_slot).entry ≡ Free (record { prev = q; next = number_of_first k }) = subst (λ (z : ℕ). (get_or nodes z fresh_slot).entry ≡ Free (record { prev = q; next = number_of_first k })) (sym s) d.0 in
    let f : ◌≡◌ {A = FreeNodeEntry} (record { prev = p; next = number_of_first l }) (record { prev = q; next = number_of_first k }) = cc in
    let n : number_of_first l ≡ number_of_first k = ap (λ (v : FreeNodeEntry). v.next) f in
    let t = same_node_chain nodes (suc x) (suc y) l k n c.1 d.1 in
    cc

pub room_of_graph : {g : PortGraph} {M N : Model} → Holds g M → Holds g N → room_of M ≡ room_of N
room_of_graph {g} {M} {N} h k =
    let a : M.free_nodes ≡ N.free_nodes = same_node_chain g.node_meta 0 0 M.free_nodes N.free_nodes (sym h.node_head ∙ k.node_head) h.node_chain k.node_chain in
    let b : (s : ℕ) → M.free_blocks s ≡ N.free_blocks s = λ s. chain_one g.port_link _ (M.free_blocks s) (N.free_blocks s) (h.block_chain s) (k.block_chain s) in
    let c : M.node_len ≡ N.node_len = sym h.node_len ∙ k.node_len in
    let d : M.port_len ≡ N.port_len = sym h.port_len ∙ k.port_len in
    λ i. record { free_nodes = a i; free_blocks = λ s. b s i; node_len = c i; port_len = d i }

pub room_is : {g : PortGraph} {r : Room} {M : Model} → HasRoom g r → Holds g M → room_of M ≡ r
room_is h k = room_of_graph k h.holds ∙ h.is

-- Links change no room.

pub link_keeps_room : {g : PortGraph} {r : Room} → HasRoom g r → (a b : ℕ) → HasRoom (link_ports g a b).graph r
link_keeps_room {g} {r} h a b = go (link_ports g a b).graph (link_ports g a b).answer (link_law h.good h.holds a b)
  where
    go : (g' : PortGraph) (t : Result (PortIndex × PortIndex) LinkError) → LinkSays g h.model a b g' t → HasRoom g' r
    go g' (Ok (p, q)) s =
        record { model = link_model h.model s.0.ends.first s.0.ends.second; good = s.0.good; holds = s.0.holds; is = h.is }
    go g' (Err (link_error.UnknownPort p)) s = subst (λ (v : PortGraph). HasRoom v r) (sym s.0) h
    go g' (Err (link_error.UnknownSecondPort q)) s = subst (λ (v : PortGraph). HasRoom v r) (sym s.0) h
    go g' (Err (link_error.IncompatibleDirections p q d)) s = subst (λ (v : PortGraph). HasRoom v r) (sym s.0) h
    go g' (Err (link_error.AlreadyLinked p)) s = subst (λ (v : PortGraph). HasRoom v r) (sym s.0) h

pub unlink_keeps_room : {g : PortGraph} {r : Room} → HasRoom g r → (p : ℕ) → HasRoom (unlink_port g p).graph r
unlink_keeps_room {g} {r} h p = go (unlink_port g p).graph (unlink_port g p).answer (unlink_law h.good h.holds p)
  where
    go : (g' : PortGraph) (t : Result (Option PortIndex) NoSuchPort) → UnlinkSays g h.model p g' t → HasRoom g' r
    go g' (Ok (Some q)) s = record { model = unlink_model h.model s.near; good = s.good; holds = s.holds; is = h.is }
    go g' (Ok None) s = subst (λ (v : PortGraph). HasRoom v r) (sym s.0) h
    go g' (Err q) s = subst (λ (v : PortGraph). HasRoom v r) (sym s.0) h

-- Taking and giving back, said of the model.

no_empty_block : {M : Model} → Good M → M.free_blocks 0 ≡ []
no_empty_block {M} good = go (M.free_blocks 0) refl
  where
    go : (l : List ℕ) → M.free_blocks 0 ≡ l → l ≡ []
    go [] e = refl
    go (b ∷ l) e = absurd (let h = (good.idle_ends 0 b (subst (Member b) (sym e) (inl refl))).0 in omega arith)

-- a block taken, said without the case of a size of 0
block_taken_lem : (r : Room) (size : ℕ) → r.free_blocks 0 ≡ []
    → after_work r (take_block size) ≡ block_taken r size
unfolding after_work
block_taken_lem r size none = go (eqb size 0) refl
  where
    go : (z : Bool) → eqb size 0 ≡ z → cond z r (block_taken r size) ≡ block_taken r size
    go true e =
        let z : size ≡ 0 = eqb-true size 0 e in
        let t : r.free_blocks size ≡ [] = ap r.free_blocks z ∙ none in
        let b : (k : ℕ) → r.free_blocks k ≡ upd r.free_blocks size (rest (r.free_blocks size)) k =
        λ k. upd_elim (λ l. r.free_blocks k ≡ l) r.free_blocks size (rest (r.free_blocks size)) k (λ q. ap r.free_blocks q ∙ (t ∙ rw t)) (λ q. refl) in
        let p : r.port_len ≡ r.port_len + growth size (r.free_blocks size) = rw t (omega arith) in
        λ i. record { free_nodes = r.free_nodes; free_blocks = λ k. b k i; node_len = r.node_len; port_len = p i }
    go false e = refl

pub room_added : {M : Model} → Good M → (incoming outgoing : ℕ) → room_of (add_model M incoming outgoing) ≡ after_works (room_of M) (add_works incoming outgoing)
unfolding after_works after_work
room_added {M} good incoming outgoing = sym (block_taken_lem (after_work (room_of M) take_node) (incoming + outgoing) (no_empty_block good))

pub room_removed : (M : Model) (n : ℕ) (k : NodeMeta) → room_of (remove_model M n k) ≡ after_works (room_of M) (gone_works n (Some k))
unfolding after_works after_work
room_removed M n k = refl

pub room_moved : {M : Model} → Good M → (n : ℕ) (k : NodeMeta) (incoming outgoing size : ℕ)
    → room_of (move_model M n k incoming outgoing size) ≡ after_works (room_of M) (take_block size ∷ give_block k.first_port.0 k.capacity ∷ [])
unfolding after_works after_work
room_moved {M} good n k incoming outgoing size =
    ap (λ (r : Room). after_work r (give_block k.first_port.0 k.capacity)) (sym (block_taken_lem (room_of M) size (no_empty_block good)))

past_not_within : (a b : ℕ) → ltb a b ≡ not (leb b a)
past_not_within a b = go (leb b a) refl
  where
    go : (t : Bool) → leb b a ≡ t → ltb a b ≡ not t
    go true e = le-ltb a b (leb-true b a e)
    go false e = lt-ltb a b (leb-false b a e)

pub add_overflows : {M : Model} → Good M → (incoming outgoing : ℕ)
    → overflows (room_of M) (add_works incoming outgoing) ≡ ((not (slot_room M)) || (not (block_room M (incoming + outgoing))))
add_overflows {M} good incoming outgoing =
    overflows_at_end (room_of M) (add_works incoming outgoing)
    ∙ (ap (λ (r : Room). overfull r) (sym (room_added good incoming outgoing))
    ∙ (λ i. ((past_not_within node_slots (add_model M incoming outgoing).node_len i) || (past_not_within port_slots (add_model M incoming outgoing).port_len i))))

-- Adding.

-- g is the graph before
abbrev pub AddSpace : PortGraph → PortGraph → Model → List Work → Result (NodeIndex × PortIndex) AddError → Type 0
AddSpace g g' M works (Ok (n, p)) = (overflows (room_of M) works ≡ false) × HasRoom g' (after_works (room_of M) works)
AddSpace g g' M works (Err add_error.TooManyPorts) = ⊥
AddSpace g g' M works (Err add_error.NoRoom) = (overflows (room_of M) works ≡ true) × (g' ≡ g)

pub add_node_space : {g : PortGraph} {M : Model} → Good M → Holds g M → (incoming outgoing : ℕ) → incoming + outgoing ≤ node_ports
    → AddSpace g (add_node g incoming outgoing).graph M (add_works incoming outgoing) (add_node g incoming outgoing).answer
add_node_space {g} {M} good holds i o few =
    subst (λ (v : lower_added.NodeAdded). AddSpace g v.graph M (add_works i o) v.answer) (sym (add_law good holds i o))
    (go (leb (i + o) node_ports) (slot_room M) (block_room M (i + o)) (le-leb (i + o) node_ports few) refl refl)
  where
    said : (s b : Bool) → slot_room M ≡ s → block_room M (i + o) ≡ b → overflows (room_of M) (add_works i o) ≡ ((not s) || (not b))
    said s b p q = add_overflows good i o ∙ (λ j. ((not (p j)) || (not (q j))))

    go : (a s b : Bool) → a ≡ true → slot_room M ≡ s → block_room M (i + o) ≡ b → AddSpace g (add_where g M i o a s b).graph M (add_works i o) (add_where g M i o a s b).answer
    go false s b e p q = absurd (zero_is_not_one (cc))
    go true true true e p q =
        let small = few in
        let node_room = leb-true (M.node_len + growth 1 M.free_nodes) node_slots p in
        let port_room = leb-true (M.port_len + growth (i + o) (M.free_blocks (i + o))) port_slots q in (
          said true true p q,
          record {
            model = add_model M i o;
            good = good_add good i o small node_room port_room;
            holds = place_holds good holds i o small node_room port_room;
            is = room_added good i o;
          },
        )
    go true true false e p q = (said true false p q, refl)
    go true false b e p q = (said false b p q, refl)

pub spaced_done : {m : MultiPortGraph} {M : Model} {works : List Work} {refused : Type 0} {m' : MultiPortGraph} → (refused → ⊥) → overflows (room_of M) works ≡ false → HasRoom m'.graph (after_works (room_of M) works) → Spaced m M works refused m'
spaced_done never e r = record { no_room_iff = (λ c. absurd (never c), λ t. absurd (zero_is_not_one (cc))); unchanged = λ c. absurd (never c); room_after = λ t. r }

spaced_refused : {m : MultiPortGraph} {M : Model} {works : List Work} {refused : Type 0} {m' : MultiPortGraph} → refused → overflows (room_of M) works ≡ true → m' ≡ m → Spaced m M works refused m'
spaced_refused c e u = record { no_room_iff = (λ t. e, λ t. c); unchanged = λ t. u; room_after = λ t. absurd (zero_is_not_one (cc)) }

pub add_space : {m : MultiPortGraph} {M : Model} → Fine m M → (incoming outgoing : ℕ) → incoming + outgoing ≤ node_ports
    → Spaced m M (add_works incoming outgoing) ((add_block m incoming outgoing).answer ≡ Err NoRoom) (add_block m incoming outgoing).graph
add_space {m} {M} f incoming outgoing few =
    subst (λ (v : NodeAdded). Spaced m M (add_works incoming outgoing) (v.answer ≡ Err NoRoom) v.graph) (sym (add_cases present m incoming outgoing))
    (go (add_node m.graph incoming outgoing).graph (add_node m.graph incoming outgoing).answer (add_node_space f.good f.holds incoming outgoing few))
  where
    go : (g : PortGraph) (a : Result (NodeIndex × PortIndex) AddError) → AddSpace m.graph g M (add_works incoming outgoing) a → Spaced m M (add_works incoming outgoing) (added_as a ≡ Err NoRoom) (with_graph m g)
    go g (Ok (n, p)) s = spaced_done (λ e. zero_is_not_one (cc)) s.0 s.1
    go g (Err add_error.TooManyPorts) s = absurd s
    go g (Err add_error.NoRoom) s = spaced_refused refl s.0 (ap (λ (v : PortGraph). with_graph m v) s.1)

-- Preparing an end.

-- a preparation is refused exactly if its works overflow, else the room is that after them
abbrev pub PreparedSpace : Model → List Work → Prepared → Type 0
PreparedSpace M works (ready m' q o) = (overflows (room_of M) works ≡ false) × HasRoom m'.graph (after_works (room_of M) works)
PreparedSpace M works full = overflows (room_of M) works ≡ true

pub split_space : {m : MultiPortGraph} {M : Model} → Fine m M → (p : ℕ) (d : Direction) → PreparedSpace M split_works (split m p d)
unfolding split_under split_port split_graph
split_space {m} {M} f p d =
    subst (λ (l : List Work). PreparedSpace M l (split m p d)) (three d)
    (go (add_node m.graph (copy_incoming d) (copy_outgoing d)).graph (add_node m.graph (copy_incoming d) (copy_outgoing d)).answer (add_node_space f.good f.holds (copy_incoming d) (copy_outgoing d) (small d)))
  where
    three : (d : Direction) → add_works (copy_incoming d) (copy_outgoing d) ≡ split_works
    three Incoming = refl
    three Outgoing = refl

    small : (d : Direction) → copy_incoming d + copy_outgoing d ≤ node_ports
    small Incoming = omega arith
    small Outgoing = omega arith

    go : (g : PortGraph) (a : Result (NodeIndex × PortIndex) AddError) → AddSpace m.graph g M (add_works (copy_incoming d) (copy_outgoing d)) a → PreparedSpace M (add_works (copy_incoming d) (copy_outgoing d)) (split_by m p d g a)
    go g (Ok (c, first)) s = (s.0, link_keeps_room (link_keeps_room (unlink_keeps_room s.1 p) p _) _ _)
    go g (Err add_error.TooManyPorts) s = absurd s
    go g (Err add_error.NoRoom) s = s.0

-- Other counts.

fits : {M : Model} → Good M → overflows (room_of M) [] ≡ false
unfolding on_the_way
fits {M} good = rw (le-ltb node_slots M.node_len good.nodes_fit, le-ltb port_slots M.port_len good.ports_fit)

move_overflows : {M : Model} → Good M → (k : NodeMeta) (size : ℕ)
    → overflows (room_of M) (take_block size ∷ give_block k.first_port.0 k.capacity ∷ []) ≡ not (block_room M size)
move_overflows {M} good k size =
    overflows_at_end (room_of M) (take_block size ∷ give_block k.first_port.0 k.capacity ∷ [])
    ∙ (ap (λ (r : Room). overfull r) (sym (room_moved good 0 k 0 0 size))
    ∙ (λ i. ((le-ltb node_slots M.node_len good.nodes_fit i) || (past_not_within port_slots (M.port_len + growth size (M.free_blocks size)) i))))

abbrev pub SetSpace : PortGraph → Model → List Work → Result ℕ SetError → Type 0
SetSpace g M works (Ok e) = (overflows (room_of M) works ≡ false) × HasRoom g (after_works (room_of M) works)
SetSpace g M works (Err set_error.TooManyPorts) = ⊥
SetSpace g M works (Err set_error.UnknownNode) = ⊥
SetSpace g M works (Err set_error.MovesTooShort) = ⊥
SetSpace g M works (Err set_error.NoRoom) = overflows (room_of M) works ≡ true

pub set_space : {g : PortGraph} {M : Model} → Good M → Holds g M → (n : ℕ) (k : NodeMeta) → M.node n ≡ live k → (i o room : ℕ) → i + o ≤ node_ports → 3 * (k.incoming + k.outgoing) ≤ room
    → SetSpace (set_num_ports g n i o room).graph M (recount_works k i o) (set_num_ports g n i o room).answer
unfolding recount_works after_works
set_space {g} {M} good holds n k here i o room few told =
    subst Says (sym planned) (go (same_counts k i o) (fits_inside k i o) (block_room M (round_up (i + o))) refl refl)
  where
    Says : lower_set_done.PortsSet → Type 0
    Says v = SetSpace v.graph M (recount_works k i o) v.answer

    planned : set_num_ports g n i o room ≡ set_by g n i o (plan_live M i o k (same_counts k i o) (fits_inside k i o) (block_room M (round_up (i + o))))
    planned =
        set_law good holds n i o room
        ∙ ((λ j. set_by g n i o (plan_where M i o room (le-leb (i + o) node_ports few j) (here j)))
        ∙ ap (λ (b : Bool). set_by g n i o (cond b (plan_live M i o k (same_counts k i o) (fits_inside k i o) (block_room M (round_up (i + o)))) (refuse (Err set_error.MovesTooShort))))
        (le-leb (3 * (k.incoming + k.outgoing)) room told))

    go : (a b c : Bool) → fits_inside k i o ≡ b → block_room M (round_up (i + o)) ≡ c
        → SetSpace (set_by g n i o (plan_live M i o k a b c)).graph M (cond a [] (cond b [] (move_works k (i + o)))) (set_by g n i o (plan_live M i o k a b c)).answer
    go true b c q r = (fits good, record { model = M; good = good; holds = holds; is = refl })
    go false true c q r =
        let fit = fits_below k i o q in
        (fits good, record { model = resize_model M n k i o; good = good_resize good n k here i o fit; holds = inside_holds good holds n k here i o fit; is = refl })
    go false false true q r =
        let fit = round_up_reaches (i + o) in
        let some = round_up_positive (i + o) in
        let small = round_up_fits (i + o) few in
        let space = leb-true (M.port_len + growth (round_up (i + o)) (M.free_blocks (round_up (i + o)))) port_slots r in (
          move_overflows good k (round_up (i + o)) ∙ ap not r,
          record {
            model = move_model M n k i o (round_up (i + o));
            good = good_move good n k here i o (round_up (i + o)) fit some small space;
            holds = anew_holds good holds n k here i o (round_up (i + o)) fit some small space;
            is = room_moved good n k i o (round_up (i + o));
          },
        )
    go false false false q r = move_overflows good k (round_up (i + o)) ∙ ap not r

-- One more subport.

grow_works_lem : (k : NodeMeta) (i o : ℕ) → i + o ≡ k.incoming + k.outgoing + 1 → recount_works k i o ≡ grow_works (Some k)
unfolding recount_works same_counts fits_inside
grow_works_lem k i o e =
    rw (differ (eqb i k.incoming) (eqb o k.outgoing) refl refl, lt-ltb 0 (i + o) (omega arith), e)
  where
    differ : (a b : Bool) → eqb i k.incoming ≡ a → eqb o k.outgoing ≡ b → cond a b false ≡ false
    differ true true p q = absurd (let x = eqb-true i k.incoming p in let y = eqb-true o k.outgoing q in omega arith)
    differ true false p q = refl
    differ false b p q = refl

-- a node that has as many ports as a node can have gets no more, beside another node's port
grown_beyond : {M : Model} → Good M → (n : ℕ) (k : NodeMeta) → M.node n ≡ live k → (x : model.InnerPlace) → Valid M.node x → (x.node ≡ n → ⊥)
    → node_ports < k.incoming + k.outgoing + 1 → overflows (room_of M) (grow_works (Some k)) ≡ true
grown_beyond {M} good n k here x valid apart h =
    let b = good.block_small n k here in
    let e = none_beyond good n k here x valid apart (k.incoming + k.outgoing + 1) h (omega arith) in
    rw (le-ltb (k.incoming + k.outgoing + 1) k.capacity (omega arith))
    (move_overflows good k (round_up (k.incoming + k.outgoing + 1)) ∙ ap not (lt-leb _ port_slots e))

module _ {m : MultiPortGraph} {M : Model} (f : Fine m M) where
  pub grow_space : (c : ℕ) (k : NodeMeta) (d : Direction) → M.node c ≡ live k → (x : model.InnerPlace) → Valid M.node x → (x.node ≡ c → ⊥) → PreparedSpace M (grow_works (meta_at m.graph c)) (grow m c d)
  unfolding grow_under recounted
  grow_space c k d here x valid apart =
      subst (λ (v : Option NodeMeta). PreparedSpace M (grow_works v) (grow m c d)) (sym meta_is)
      (few (leb (more_incoming m.graph c d + more_outgoing m.graph c d) node_ports) refl)
    where
      meta_is : meta_at m.graph c ≡ Some k
      meta_is = meta_of_node f.good f.holds c k here

      one_more : (d : Direction) → more_incoming m.graph c d + more_outgoing m.graph c d ≡ k.incoming + k.outgoing + 1
      one_more Incoming = rw meta_is (omega arith)
      one_more Outgoing = rw meta_is (omega arith)

      said : (g : PortGraph) (a : Result ℕ SetError) → SetSpace g M (grow_works (Some k)) a → PreparedSpace M (grow_works (Some k)) (grown_by m c d g a)
      said g (Ok e) s = s
      said g (Err set_error.TooManyPorts) s = absurd s
      said g (Err set_error.UnknownNode) s = absurd s
      said g (Err set_error.MovesTooShort) s = absurd s
      said g (Err set_error.NoRoom) s = s

      few : (b : Bool) → leb (more_incoming m.graph c d + more_outgoing m.graph c d) node_ports ≡ b → PreparedSpace M (grow_works (Some k)) (grow m c d)
      few true e =
          let one = one_more d in
          let short = leb-true (more_incoming m.graph c d + more_outgoing m.graph c d) node_ports e in
          let told : 3 * (k.incoming + k.outgoing) ≤ enough = omega arith in
          said (set_num_ports m.graph c (more_incoming m.graph c d) (more_outgoing m.graph c d) enough).graph
          (set_num_ports m.graph c (more_incoming m.graph c d) (more_outgoing m.graph c d) enough).answer
          (subst (λ (l : List Work). SetSpace (set_num_ports m.graph c (more_incoming m.graph c d) (more_outgoing m.graph c d) enough).graph M l
          (set_num_ports m.graph c (more_incoming m.graph c d) (more_outgoing m.graph c d) enough).answer) (grow_works_lem k (more_incoming m.graph c d) (more_outgoing m.graph c d) one)
          (set_space f.good f.holds c k here (more_incoming m.graph c d) (more_outgoing m.graph c d) enough short told))
      few false e =
          let one = one_more d in
          let long : node_ports < more_incoming m.graph c d + more_outgoing m.graph c d = leb-false (more_incoming m.graph c d + more_outgoing m.graph c d) node_ports e in
          subst (λ (v : lower_set_done.PortsSet). PreparedSpace M (grow_works (Some k)) (grown_by m c d v.graph v.answer))
          (sym (set_too_many f.good f.holds c (more_incoming m.graph c d) (more_outgoing m.graph c d) enough long))
          (grown_beyond f.good c k here x valid apart (omega arith))

  nothing_taken : (q o : ℕ) → PreparedSpace M [] (ready m q o)
  unfolding after_works
  nothing_taken q o = (fits f.good, record { model = M; good = f.good; holds = f.holds; is = refl })

  reuse_space : (c : ℕ) (k : NodeMeta) (d : Direction) (o : ℕ) → M.node c ≡ live k → (x : model.InnerPlace) → Valid M.node x → (x.node ≡ c → ⊥) → PreparedSpace M (reuse_works m c o (num_ports m.graph c d)) (reuse m c d o)
  unfolding reuse_under reuse_works
  reuse_space c k d o here x valid apart = go (ltb o (num_ports m.graph c d))
    where
      go : (b : Bool) → PreparedSpace M (cond b [] (grow_works (meta_at m.graph c))) (cond b (ready m (port_of m.graph c d o) o) (grow m c d))
      go true = nothing_taken (port_of m.graph c d o) o
      go false = grow_space c k d here x valid apart

  -- an end of a block's port
  pub prepare_space : (x : model.InnerPlace) → Seen m M x → PreparedSpace M (prepare_works m (slot_of M.node x) x.side) (prepare m (slot_of M.node x) x.side)
  unfolding prepare_under prepare_works subports
  prepare_space x sx = go (is_split m (slot_of M.node x)) refl (has_link m.graph (slot_of M.node x))
    where
      go : (a : Bool) → is_split m (slot_of M.node x) ≡ a → (b : Bool)
          → PreparedSpace M
          (cond a
          (reuse_works m (copy_node m (slot_of M.node x)) (lowest_free m.graph (copy_node m (slot_of M.node x)) x.side 0 (subports m (slot_of M.node x) x.side)) (subports m (slot_of M.node x) x.side))
          (cond b split_works []))
          (cond a
          (reuse m (copy_node m (slot_of M.node x)) x.side (lowest_free m.graph (copy_node m (slot_of M.node x)) x.side 0 (subports m (slot_of M.node x) x.side)))
          (cond b (split m (slot_of M.node x) x.side) (ready m (slot_of M.node x) 0)))
      go true e b =
          let h = split_has_copy f x sx e in
          let c = f.copy h.copy h.is_copy in
          reuse_space (copy_node m (slot_of M.node x)) c.meta x.side
          (lowest_free m.graph (copy_node m (slot_of M.node x)) x.side 0 (subports m (slot_of M.node x) x.side))
          (ap M.node h.copy_is ∙ c.here) x sx.0
          (λ q. let seen = sx.1 in let copy = h.is_copy in let same = ap (is_hidden m) (q ∙ h.copy_is) in zero_is_not_one (cc))
      go false e true = split_space f (slot_of M.node x) x.side
      go false e false = nothing_taken (slot_of M.node x) 0

-- Linking ports.

module _ {m : MultiPortGraph} {M : Model} (f : Fine m M) where
  pub prepare_seen_space : (p n : ℕ) (d : Direction) → seen m p ≡ visible n d → PreparedSpace M (prepare_works m p d) (prepare m p d)
  prepare_seen_space p n d e =
      let b = block_seen f p n d e in
      subst (λ (t : Direction). PreparedSpace M (prepare_works m p t) (prepare m p t)) b.side
      (subst (λ (q : ℕ). PreparedSpace M (prepare_works m q b.place.side) (prepare m q b.place.side)) b.slot (prepare_space f b.place b.is_seen))

-- a block's port is seen as one still where the blocks are the same
pub still_seen : {m : MultiPortGraph} {M : Model} {m' : MultiPortGraph} {M' : Model} → Fine m M → Fine m' M' → SameBlocks m M m' M' → (p n : ℕ) (d : Direction) → seen m p ≡ visible n d → seen m' p ≡ visible n d
still_seen {m} {M} {m'} {M'} f f' same p n d e =
    let b = block_seen f p n d e in
    let k = seen_still f f' same b.place b.is_seen in
    ap (seen m') (sym (k.1 ∙ b.slot)) ∙ (seen_block f' b.place k.0 ∙ (λ i. visible (b.node i) (b.side i)))

-- 7, 8 and 18 are not 10
not_room : (a b : ℕ) (u v : Port) → ◌≡◌ {A = Result (SubportIndex × SubportIndex) Refusal} (Err (taken_seen a b u v)) (Err NoRoom) → ⊥
not_room a b dead v e = zero_is_not_one (cc)
not_room a b hidden v e = zero_is_not_one (cc)
not_room a b (visible n d) hidden e = zero_is_not_one (cc)
not_room a b (visible n d) dead e = zero_is_not_one (cc)
not_room a b (visible n d) (visible k c) e = zero_is_not_one (cc)

link_space_if : {m : MultiPortGraph} {M : Model} → Fine m M → (taken : Bool) (a b : ℕ) →
    Spaced m M (cond taken [] (link_seen_works m a b (seen m a) (seen m b))) ((link_pair_if taken present m a b).answer ≡ Err NoRoom) (link_pair_if taken present m a b).graph
link_space_if {m} {M} f true a b =
    subst (λ (v : PortsLinked). Spaced m M [] (v.answer ≡ Err NoRoom) v.graph) (sym (link_taken present m a b))
    (let s = nothing_taken f 0 0 in spaced_done (not_room a b (seen m a) (seen m b)) s.0 s.1)
link_space_if {m} {M} f false a b =
    subst (λ (v : PortsLinked). Spaced m M (link_seen_works m a b (seen m a) (seen m b)) (v.answer ≡ Err NoRoom) v.graph) (sym (link_cases present m a b)) (go (seen m a) refl (seen m b) refl)
  where
    -- nothing is done
    idle : (r : PortsLinked) → r.graph ≡ m → (r.answer ≡ Err NoRoom → ⊥) → Spaced m M [] (r.answer ≡ Err NoRoom) r.graph
    idle r e never = let s = nothing_taken f 0 0 in spaced_done never s.0 (subst (λ (g : MultiPortGraph). HasRoom g.graph (after_works (room_of M) [])) (sym e) s.1)

    first : (d : Direction) (t : Prepared) → PreparedSpace M (prepare_works m a d) t → Spaced m M (prepare_works m a d) ((link_first m b t).answer ≡ Err NoRoom) (link_first m b t).graph
    first d full s = spaced_refused refl s refl
    first d (ready m₁ x o) s = spaced_done (λ e. zero_is_not_one (cc)) s.0 s.1

    -- the second end, where the first left m₁ with the room after its works
    second : (d : Direction) (x o : ℕ) (e : Direction) (works works₂ : List Work) (M₁ : Model) → room_of M₁ ≡ after_works (room_of M) works → (t : Prepared) → PreparedSpace M₁ works₂ t
        → Spaced m M (works ++ works₂) ((link_second m a d x o b e t).answer ≡ Err NoRoom) (link_second m a d x o b e t).graph
    second d x o e works works₂ M₁ r full s = spaced_refused refl (overflows_append (room_of M) works works₂ ∙ (ap (λ (v : Room). overflows v works₂) (sym r) ∙ s)) refl
    second d x o e works works₂ M₁ r (ready m₂ y i) s =
        ended (same_side d e) (overflows_append (room_of M) works works₂ ∙ (ap (λ (v : Room). overflows v works₂) (sym r) ∙ s.0))
        (subst (HasRoom m₂.graph) (ap (λ (v : Room). after_works v works₂) r ∙ sym (after_append works works₂ (room_of M))) s.1)
      where
        ended : (c : Bool) → overflows (room_of M) (works ++ works₂) ≡ false → HasRoom m₂.graph (after_works (room_of M) (works ++ works₂))
            → Spaced m M (works ++ works₂)
            ((cond c (link_refused m₂ (IncompatibleDirections (port# x) (port# y) d)) (record { graph = with_graph m₂ (link_ports m₂.graph x y).graph; answer = Ok (subport# a o, subport# b i) })).answer ≡ Err NoRoom)
            (cond c (link_refused m₂ (IncompatibleDirections (port# x) (port# y) d)) (record { graph = with_graph m₂ (link_ports m₂.graph x y).graph; answer = Ok (subport# a o, subport# b i) })).graph
        ended true e h = spaced_done (λ q. zero_is_not_one (cc)) e h
        ended false e h = spaced_done (λ q. zero_is_not_one (cc)) e (link_keeps_room h x y)

    both : (n : ℕ) (d : Direction) → seen m a ≡ visible n d → (k : ℕ) (e : Direction) → seen m b ≡ visible k e → (t : Prepared) → prepare m a d ≡ t → PreparedSpace M (prepare_works m a d) t
        → Spaced m M (prepare_works m a d ++ second_works b e t) ((link_live m a d b e t).answer ≡ Err NoRoom) (link_live m a d b e t).graph
    both n d p k e q full u s =
        spaced_refused refl (overflows_no_more (room_of M) (prepare_works m a d) ∙ s) refl
    both n d p k e q (ready m₁ x o) u s =
        let w = block_seen f a n d p in
        let done : prepare m (slot_of M.node w.place) w.place.side ≡ ready m₁ x o = (λ i. prepare m (w.slot i) (w.side i)) ∙ u in
        let r = prepare_law f w.place w.is_seen m₁ x o done in
        second d x o e (prepare_works m a d) (prepare_works m₁ b e) r.0 (room_is s.1 r.1.fine.holds) (prepare m₁ b e)
        (prepare_seen_space r.1.fine b k e (still_seen f r.1.fine r.1.blocks b k e q))

    go : (s : Port) → seen m a ≡ s → (t : Port) → seen m b ≡ t → Spaced m M (link_seen_works m a b s t) ((link_seen m a b s t).answer ≡ Err NoRoom) (link_seen m a b s t).graph
    go dead p t q = idle (link_seen m a b dead t) refl (λ e. zero_is_not_one (cc))
    go hidden p t q = idle (link_seen m a b hidden t) refl (λ e. zero_is_not_one (cc))
    go (visible n d) p hidden q = idle (link_seen m a b (visible n d) hidden) refl (λ e. zero_is_not_one (cc))
    go (visible n d) p dead q = first d (prepare m a d) (prepare_seen_space f a n d p)
    go (visible n d) p (visible k e) q = both n d p k e q (prepare m a d) refl (prepare_seen_space f a n d p)

pub link_space : {m : MultiPortGraph} {M : Model} → Fine m M → (a b : ℕ) → Spaced m M (link_works m a b) ((link_pair m a b).answer ≡ Err NoRoom) (link_pair m a b).graph
unfolding link_works
link_space {m} f a b = link_space_if f (input_taken m a b) a b

-- Nodes that go.

abbrev meta_of_slots : Slots → Option NodeMeta
meta_of_slots gone = None
meta_of_slots (live k) = Some k

meta_by_model : {g : PortGraph} {M : Model} → Good M → Holds g M → (n : ℕ) → meta_at g n ≡ meta_of_slots (M.node n)
meta_by_model {g} {M} good holds n = go (M.node n) refl
  where
    go : (s : Slots) → M.node n ≡ s → meta_at g n ≡ meta_of_slots s
    go gone e = gone_has_no_meta good holds n e
    go (live k) e = meta_of_node good holds n k e

pub gone_node_room : {g : PortGraph} {r : Room} → HasRoom g r → (c : ℕ) → HasRoom (remove_node g c).graph (after_works r (gone_works c (meta_at g c)))
unfolding after_works
gone_node_room {g} {r} h c =
    rw (remove_law h.holds c, meta_by_model h.good h.holds c) (go (h.model.node c) refl)
  where
    go : (s : Slots) → h.model.node c ≡ s → HasRoom (remove_slots g c s).graph (after_works r (gone_works c (meta_of_slots s)))
    go gone e = h
    go (live k) e =
        record {
          model = remove_model h.model c k;
          good = good_remove h.good c k e;
          holds = free_holds h.good h.holds c k e;
          is = room_removed h.model c k ∙ ap (λ (v : Room). after_works v (gone_works c (Some k))) h.is;
        }

other_node_stays : {g : PortGraph} {M : Model} → Good M → Holds g M → (c n : ℕ) → (n ≡ c → ⊥) → meta_at (remove_node g c).graph n ≡ meta_at g n
other_node_stays {g} {M} good holds c n other =
    rw (remove_law holds c) (go (M.node c) refl)
  where
    go : (s : Slots) → M.node c ≡ s → meta_at (remove_slots g c s).graph n ≡ meta_at g n
    go gone e = refl
    go (live k) e =
        meta_by_model (good_remove good c k e) (free_holds good holds c k e) n
        ∙ (ap meta_of_slots (upd_other M.node c gone n other) ∙ sym (meta_by_model good holds n))

module _ (m : MultiPortGraph) where
  all_gone_room : (cs : List ℕ) (m' : MultiPortGraph) (r : Room) → HasRoom m'.graph r → Once cs → ((c : ℕ) → Member c cs → meta_at m'.graph c ≡ meta_at m.graph c)
      → HasRoom (remove_all m' cs).graph (after_works r (copies_gone m cs))
  unfolding remove_all remove_lone remove_copy flat_map after_works
  all_gone_room [] m' r h once same = h
  all_gone_room (c ∷ cs) m' r h once same =
      subst (HasRoom (remove_all (remove_lone m' c) cs).graph) (sym (after_append (gone_works c (meta_at m.graph c)) (copies_gone m cs) r))
      (all_gone_room cs (remove_lone m' c) (after_works r (gone_works c (meta_at m.graph c)))
      (subst (λ (v : Option NodeMeta). HasRoom (remove_node m'.graph c).graph (after_works r (gone_works c v))) (same c (inl refl)) (gone_node_room h c))
      once.1
      (λ b i. other_node_stays h.good h.holds c b (λ q. once.0 (subst (λ (a : ℕ). Member a cs) q i)) ∙ same b (inr i)))

-- what goes lengthens nothing
gone_lengthens_nothing : (r : Room) (n : ℕ) (v : Option NodeMeta) → overfull (after_works r (gone_works n v)) ≡ overfull r
unfolding after_works after_work
gone_lengthens_nothing r n None = refl
gone_lengthens_nothing r n (Some k) = refl

copies_lengthen_nothing : (m : MultiPortGraph) (cs : List ℕ) (r : Room) → overfull (after_works r (copies_gone m cs)) ≡ overfull r
unfolding flat_map after_works
copies_lengthen_nothing m [] r = refl
copies_lengthen_nothing m (c ∷ cs) r =
    ap (λ (v : Room). overfull v) (after_append (gone_works c (meta_at m.graph c)) (copies_gone m cs) r)
    ∙ (copies_lengthen_nothing m cs (after_works r (gone_works c (meta_at m.graph c))) ∙ gone_lengthens_nothing r c (meta_at m.graph c))

overflows_before_copies : (m : MultiPortGraph) (cs : List ℕ) (r : Room) (l : List Work) → overflows r (l ++ copies_gone m cs) ≡ overflows r l
overflows_before_copies m cs r l =
    overflows_append r l (copies_gone m cs)
    ∙ (overflows_at_end (after_works r l) (copies_gone m cs) ∙ (copies_lengthen_nothing m cs (after_works r l) ∙ sym (overflows_at_end r l)))

-- Changing a block's counts, past refusals 3 to 6.

pub set_counts_space : {m : MultiPortGraph} {M : Model} → Fine m M → (n : ℕ) (k : NodeMeta) → BlockIs m M n k → (i o room : ℕ) → i + o ≤ node_ports → 3 * (k.incoming + k.outgoing) ≤ room
    → Spaced m M (set_works m n i o) ((set_counts m n i o room).answer ≡ Err NoRoom) (set_counts m n i o room).graph
unfolding set_counts_under set_works recounted is_hidden
set_counts_space {m} {M} f n k block i o room few told =
    subst Says (sym called)
    (subst (λ (v : Option NodeMeta). Spaced m M (set_meta_works m i o v) (set_as (set_num_ports m.graph n i o room).answer ≡ Err NoRoom)
    (resized m n k i o (set_num_ports m.graph n i o room).graph (set_num_ports m.graph n i o room).answer)) (sym meta_is)
    (go (set_num_ports m.graph n i o room).answer refl (set_space f.good f.holds n k block.1 i o room few told)))
  where
    Says : PortsSet → Type 0
    Says v = Spaced m M (set_meta_works m i o (meta_at m.graph n)) (v.answer ≡ Err NoRoom) v.graph

    meta_is : meta_at m.graph n ≡ Some k
    meta_is = meta_of_node f.good f.holds n k block.1

    called : set_counts m n i o room
        ≡ record {
          graph = resized m n k i o (set_num_ports m.graph n i o room).graph (set_num_ports m.graph n i o room).answer;
          answer = set_as (set_num_ports m.graph n i o room).answer;
        }
    called =
        set_cases present m n i o room
        ∙ (λ j. cond (le-leb (i + o) node_ports few j) (set_meta m n i o room (meta_is j)) (set_refused m TooManyPorts))
        ∙ ap (λ (b : Bool). cond b (set_refused m HiddenNode)
        (record {
          graph = resized m n k i o (set_num_ports m.graph n i o room).graph (set_num_ports m.graph n i o room).answer;
          answer = set_as (set_num_ports m.graph n i o room).answer;
        })) block.0

    dropped : (g' : PortGraph) → SomeRecount g' M n i o → HasRoom g' (after_works (room_of M) (recount_works k i o))
        → HasRoom (remove_all (recounted m n g') (copies_dropped m k i o)).graph (after_works (room_of M) (recount_works k i o ++ copies_gone m (copies_dropped m k i o)))
    dropped g' s h =
        let r = recount_of s k block.1 in
        let l = resize_loosens f n k block.0 block.1 i o r in
        subst (HasRoom (remove_all (recounted m n g') (copies_dropped m k i o)).graph) (sym (after_append (recount_works k i o) (copies_gone m (copies_dropped m k i o)) (room_of M)))
        (all_gone_room m (copies_dropped m k i o) (recounted m n g') (after_works (room_of M) (recount_works k i o)) h l.once
        (λ b t.
        let x : is_hidden m b ≡ true = (l.loose b t).0 in
        let other : b ≡ n → ⊥ = λ e. let y : is_hidden m n ≡ true = subst (λ (z : ℕ). is_hidden m z ≡ true) e x in let w = block.0 in zero_is_not_one (cc) in
        meta_by_model r.good r.holds b ∙ (ap meta_of_slots (r.others b other) ∙ sym (meta_by_model f.good f.holds b))))

    go : (t : Result ℕ SetError) → (set_num_ports m.graph n i o room).answer ≡ t → SetSpace (set_num_ports m.graph n i o room).graph M (recount_works k i o) t
        → Spaced m M (recount_works k i o ++ copies_gone m (copies_dropped m k i o)) (set_as t ≡ Err NoRoom) (resized m n k i o (set_num_ports m.graph n i o room).graph t)
    go (Ok e) q s =
        spaced_done (λ c. zero_is_not_one (cc)) (overflows_before_copies m (copies_dropped m k i o) (room_of M) (recount_works k i o) ∙ s.0)
        (dropped (set_num_ports m.graph n i o room).graph (set_recounts f.good f.holds n i o room e q) s.1)
    go (Err set_error.TooManyPorts) q s = absurd s
    go (Err set_error.UnknownNode) q s = absurd s
    go (Err set_error.MovesTooShort) q s = absurd s
    go (Err set_error.NoRoom) q s = spaced_refused refl (overflows_before_copies m (copies_dropped m k i o) (room_of M) (recount_works k i o) ∙ s) refl

-- Cutting, linking without a stub, and linking subports.

-- a call that does no work
module _ {m : MultiPortGraph} {M : Model} (f : Fine m M) where
  pub own_room : HasRoom m.graph (after_works (room_of M) [])
  own_room = (nothing_taken f 0 0).1

  pub no_work : {refused : Type 0} {m' : MultiPortGraph} → (refused → ⊥) → HasRoom m'.graph (after_works (room_of M) []) → Spaced m M [] refused m'
  no_work never h = spaced_done never (fits f.good) h

  -- a node that goes lengthens nothing
  gone_fits : (c : ℕ) → overflows (room_of M) (gone_works c (meta_at m.graph c)) ≡ false
  unfolding after_works
  gone_fits c =
      overflows_at_end (room_of M) (gone_works c (meta_at m.graph c))
      ∙ (gone_lengthens_nothing (room_of M) c (meta_at m.graph c) ∙ (sym (overflows_at_end (room_of M) []) ∙ fits f.good))

  pub cut_fits : (p : ℕ) → overflows (room_of M) (cut_works m p) ≡ false
  unfolding cut_works
  cut_fits p = go (is_split m p)
    where
      go : (b : Bool) → overflows (room_of M) (cond b (gone_works (copy_node m p) (meta_at m.graph (copy_node m p))) []) ≡ false
      go true = gone_fits (copy_node m p)
      go false = fits f.good

pub unsplit_room : (m : MultiPortGraph) {r : Room} → HasRoom m.graph r → (p : ℕ) → HasRoom (unsplit m p).graph (after_works r (cut_works m p))
unfolding unsplit remove_copy cut_works after_works
unsplit_room m {r} h p = go (is_split m p)
  where
    go : (b : Bool) → HasRoom (cond b (remove_copy m p (copy_node m p)) m).graph (after_works r (cond b (gone_works (copy_node m p) (meta_at m.graph (copy_node m p))) []))
    go true = gone_node_room h (copy_node m p)
    go false = h

pub cuts_nothing : (m : MultiPortGraph) (p : ℕ) → is_split m p ≡ false → cut_works m p ≡ []
unfolding cut_works
cuts_nothing m p e = rw e

tidies_nothing : (m : MultiPortGraph) (p : ℕ) (d : Direction) → is_split m p ≡ false → tidy_works m p d ≡ []
unfolding tidy_works
tidies_nothing m p d e = rw e

module _ {m : MultiPortGraph} {M : Model} (f : Fine m M) where
  pub cut_sub_space : (p o : ℕ) → Spaced m M [] ((cut_sub m p o).answer ≡ Err NoRoom) (cut_sub m p o).graph
  cut_sub_space p o = subst (λ (v : PortUnlinked). Spaced m M [] (v.answer ≡ Err NoRoom) v.graph) (sym (cut_sub_cases m p o)) (offset (good_offset o))
    where
      far : (v : Result (Option PortIndex) NoSuchPort) → far_subport m v ≡ Err NoRoom → ⊥
      far (Ok (Some q)) e = zero_is_not_one (cc)
      far (Ok None) e = zero_is_not_one (cc)
      far (Err q) e = zero_is_not_one (cc)

      end : (v : End) → Spaced m M [] ((cut_end m p v).answer ≡ Err NoRoom) (cut_end m p v).graph
      end lacking = no_work f (λ e. zero_is_not_one (cc)) (own_room f)
      end (inner x) = no_work f (far (unlink_port m.graph x).answer) (unlink_keeps_room (own_room f) x)

      port : (s : Port) → Spaced m M [] ((cut_sub_seen m p o s).answer ≡ Err NoRoom) (cut_sub_seen m p o s).graph
      port dead = no_work f (λ e. zero_is_not_one (cc)) (own_room f)
      port hidden = no_work f (λ e. zero_is_not_one (cc)) (own_room f)
      port (visible n d) = end (end_at m p d o)

      offset : (b : Bool) → Spaced m M [] ((cond b (cut_sub_seen m p o (seen m p)) (cut_refused m BadOffset)).answer ≡ Err NoRoom) (cond b (cut_sub_seen m p o (seen m p)) (cut_refused m BadOffset)).graph
      offset true = port (seen m p)
      offset false = no_work f (λ e. zero_is_not_one (cc)) (own_room f)

  -- tidying takes nothing: a node that is left with fewer subports keeps its block
  drop_keeps_room : (c : ℕ) (k : NodeMeta) → M.node c ≡ live k → (d : Direction) (n : ℕ) → DropWithin m.graph c k (left_incoming d n) (left_outgoing d n) → HasRoom (drop_subports m c d n).graph (room_of M)
  unfolding drop_subports recounted
  drop_keeps_room c k here d n (no_change e w) =
      subst (λ (v : PortGraph). HasRoom v (room_of M)) (sym w) (record { model = M; good = f.good; holds = f.holds; is = refl })
  drop_keeps_room c k here d n (in_block some few e w) =
      subst (λ (v : PortGraph). HasRoom v (room_of M)) (sym w)
      (record {
        model = resize_model M c k (left_incoming d n) (left_outgoing d n);
        good = good_resize f.good c k here (left_incoming d n) (left_outgoing d n) (omega arith);
        holds = inside_holds f.good f.holds c k here (left_incoming d n) (left_outgoing d n) (omega arith);
        is = refl;
      })

  direct_room : (p : ℕ) (d : Direction) {r : Room} → HasRoom (unsplit m p).graph r → HasRoom (link_directly m p d).graph r
  unfolding link_directly
  direct_room p d {r} h = go (has_link m.graph (subport_at m p d 0))
    where
      go : (b : Bool) → HasRoom (cond b (with_graph (unsplit m p) (link_ports (unsplit m p).graph p (far_port m.graph (subport_at m p d 0))).graph) (unsplit m p)).graph r
      go true = link_keeps_room h p (far_port m.graph (subport_at m p d 0))
      go false = h

  tidied_room : (x : model.InnerPlace) → Seen m M x → is_split m (slot_of M.node x) ≡ true →
      (overflows (room_of M) (tidy_works m (slot_of M.node x) x.side) ≡ false)
      × HasRoom (tidied m (slot_of M.node x) x.side).graph (after_works (room_of M) (tidy_works m (slot_of M.node x) x.side))
  unfolding tidied tidy_works after_works cut_works
  tidied_room x sx s = rw s (go (ltb 1 (subports_left m (slot_of M.node x) x.side)) refl)
    where
      h : Hangs m M x
      h = split_has_copy f x sx s

      room : HasRoom m.graph (room_of M)
      room = record { model = M; good = f.good; holds = f.holds; is = refl }

      go : (b : Bool) → ltb 1 (subports_left m (slot_of M.node x) x.side) ≡ b →
          (overflows (room_of M) (cond b [] (gone_works (copy_node m (slot_of M.node x)) (meta_at m.graph (copy_node m (slot_of M.node x))))) ≡ false)
          × HasRoom (cond b (drop_subports m (copy_node m (slot_of M.node x)) x.side (subports_left m (slot_of M.node x) x.side)) (link_directly m (slot_of M.node x) x.side)).graph
          (after_works (room_of M) (cond b [] (gone_works (copy_node m (slot_of M.node x)) (meta_at m.graph (copy_node m (slot_of M.node x))))))
      go true e =
          let k = f.copy h.copy h.is_copy in
          let c : h.copy ≡ copy_node m (slot_of M.node x) = sym h.copy_is in (
            fits f.good,
            subst (λ (n : ℕ). HasRoom (drop_subports m n x.side (subports_left m (slot_of M.node x) x.side)).graph (room_of M)) c
                (drop_keeps_room h.copy k.meta k.here x.side (subports_left m (slot_of M.node x) x.side) (left_within f x sx h (ltb-true 1 (subports_left m (slot_of M.node x) x.side) e))),
          )
      go false e = (
        gone_fits f (copy_node m (slot_of M.node x)),
        direct_room (slot_of M.node x) x.side
            (subst (λ (l : List Work). HasRoom (unsplit m (slot_of M.node x)).graph (after_works (room_of M) l))
            (ap (λ (b : Bool). cond b (gone_works (copy_node m (slot_of M.node x)) (meta_at m.graph (copy_node m (slot_of M.node x)))) []) s)
            (unsplit_room m room (slot_of M.node x))),
      )

  pub tidy_space : (p : ℕ) → Spaced m M (tidy_seen_works m p (seen m p)) ((tidy_port m p).answer ≡ Err NoRoom) (tidy_port m p).graph
  tidy_space p = subst (λ (v : PortTidied). Spaced m M (tidy_seen_works m p (seen m p)) (v.answer ≡ Err NoRoom) v.graph) (sym (tidy_cases m p)) (go (seen m p) refl)
    where
      marks : (n : ℕ) (d : Direction) → BlockPort m M p n d → (b : Bool) → is_split m p ≡ b →
          (overflows (room_of M) (tidy_works m p d) ≡ false) × HasRoom (cond b (tidied m p d) m).graph (after_works (room_of M) (tidy_works m p d))
      marks n d b true e =
          transport (λ i. (overflows (room_of M) (tidy_works m (b.slot i) (b.side i)) ≡ false) × HasRoom (tidied m (b.slot i) (b.side i)).graph (after_works (room_of M) (tidy_works m (b.slot i) (b.side i))))
          (tidied_room b.place b.is_seen (ap (is_split m) b.slot ∙ e))
      marks n d b false e =
          subst (λ (l : List Work). (overflows (room_of M) l ≡ false) × HasRoom m.graph (after_works (room_of M) l)) (sym (tidies_nothing m p d e)) (fits f.good, own_room f)

      go : (s : Port) → seen m p ≡ s → Spaced m M (tidy_seen_works m p s) ((tidy_seen m p s).answer ≡ Err NoRoom) (tidy_seen m p s).graph
      go dead e = no_work f (λ q. zero_is_not_one (cc)) (own_room f)
      go hidden e = no_work f (λ q. zero_is_not_one (cc)) (own_room f)
      go (visible n d) e =
          let r = marks n d (block_seen f p n d e) (is_split m p) refl in
          spaced_done (λ q. zero_is_not_one (cc)) r.0 r.1

  -- leaving no stub: nothing is taken where 7, 8, 18, 11 or 12 is given
  link_clean_space_if : (taken : Bool) (a b : ℕ) → Spaced m M (cond taken [] (link_clean_seen_works m a b (seen m a) (seen m b)))
      ((link_clean_if taken present m a b).answer ≡ Err NoRoom) (link_clean_if taken present m a b).graph
  link_clean_space_if true a b =
      subst (λ (v : PortsLinked). Spaced m M [] (v.answer ≡ Err NoRoom) v.graph) (sym (link_clean_taken present m a b))
      (no_work f (not_room a b (seen m a) (seen m b)) (own_room f))
  link_clean_space_if false a b =
      subst (λ (v : PortsLinked). Spaced m M (link_clean_seen_works m a b (seen m a) (seen m b)) (v.answer ≡ Err NoRoom) v.graph)
      (sym (link_clean_cases present m a b)) (go (seen m a) (seen m b))
    where
      Says : List Work → Result (Unit {0}) Refusal → Type 0
      Says l v = Spaced m M l ((link_clean_by present m a b v).answer ≡ Err NoRoom) (link_clean_by present m a b v).graph

      go : (u v : Port) → Says (link_clean_seen_works m a b u v) (pair_seen a b u v)
      go dead v = no_work f (λ e. zero_is_not_one (cc)) (own_room f)
      go hidden v = no_work f (λ e. zero_is_not_one (cc)) (own_room f)
      go (visible n d) hidden = no_work f (λ e. zero_is_not_one (cc)) (own_room f)
      go (visible n d) dead = no_work f (λ e. zero_is_not_one (cc)) (own_room f)
      go (visible n d) (visible k e) = sides (same_side d e)
        where
          sides : (c : Bool) → Says (cond c [] (link_seen_works m a b (seen m a) (seen m b))) (cond c (Err (IncompatibleDirections (port# a) (port# b) d)) (Ok tt))
          sides true = no_work f (λ e. zero_is_not_one (cc)) (own_room f)
          sides false = link_space_if f false a b

  pub link_clean_space : (a b : ℕ) → Spaced m M (link_clean_works m a b) ((link_clean m a b).answer ≡ Err NoRoom) (link_clean m a b).graph
  unfolding link_clean_works
  link_clean_space a b = link_clean_space_if (input_taken m a b) a b

  sub_not_room : (p o q r : ℕ) → ◌≡◌ {A = Result (SubportIndex × SubportIndex) Refusal} (Err (cond (good_offset o) (cond (good_offset r) (taken_sub_seen m p o q r (seen m p) (seen m q)) BadOffset) BadOffset)) (Err NoRoom) → ⊥
  sub_not_room p o q r = offset (good_offset o)
    where
      Never : Refusal → Type 0
      Never v = ◌≡◌ {A = Result (SubportIndex × SubportIndex) Refusal} (Err v) (Err NoRoom) → ⊥

      second : (v : End) → Never (taken_second q v)
      second lacking e = zero_is_not_one (cc)
      second (inner y) e = zero_is_not_one (cc)

      first : (z : Refusal) → Never z → (v : End) → Never (taken_first p z v)
      first z n lacking e = zero_is_not_one (cc)
      first z n (inner x) e = n e

      ports : (u v : Port) → Never (taken_sub_seen m p o q r u v)
      ports dead v = λ e. zero_is_not_one (cc)
      ports hidden v = λ e. zero_is_not_one (cc)
      ports (visible n d) hidden = λ e. zero_is_not_one (cc)
      ports (visible n d) dead = first InputWired (λ e. zero_is_not_one (cc)) (end_at m p d o)
      ports (visible n d) (visible k s) = first (taken_second q (end_at m q s r)) (second (end_at m q s r)) (end_at m p d o)

      offsets : (c : Bool) → Never (cond c (taken_sub_seen m p o q r (seen m p) (seen m q)) BadOffset)
      offsets true = ports (seen m p) (seen m q)
      offsets false = λ e. zero_is_not_one (cc)

      offset : (c : Bool) → Never (cond c (cond (good_offset r) (taken_sub_seen m p o q r (seen m p) (seen m q)) BadOffset) BadOffset)
      offset true = offsets (good_offset r)
      offset false = λ e. zero_is_not_one (cc)

  pub link_sub_space : (p o q r : ℕ) → Spaced m M [] ((link_sub m p o q r).answer ≡ Err NoRoom) (link_sub m p o q r).graph
  link_sub_space p o q r = checked (input_taken m p q)
    where
      Says : PortsLinked → Type 0
      Says v = Spaced m M [] (v.answer ≡ Err NoRoom) v.graph

      ends : (s t : SubportIndex) (x y : ℕ) (v : Result (PortIndex × PortIndex) LinkError) → Says (link_inner m s t v (link_ports m.graph x y).graph)
      ends s t x y (Ok (a, b)) = no_work f (λ e. zero_is_not_one (cc)) (link_keeps_room (own_room f) x y)
      ends s t x y (Err (link_error.UnknownPort a)) = no_work f (λ e. zero_is_not_one (cc)) (own_room f)
      ends s t x y (Err (link_error.UnknownSecondPort b)) = no_work f (λ e. zero_is_not_one (cc)) (own_room f)
      ends s t x y (Err (link_error.IncompatibleDirections a b d)) = no_work f (λ e. zero_is_not_one (cc)) (own_room f)
      ends s t x y (Err (link_error.AlreadyLinked a)) = no_work f (λ e. zero_is_not_one (cc)) (own_room f)

      second : (x : ℕ) (v : End) → Says (link_second_end m p o q r x v)
      second x lacking = no_work f (λ e. zero_is_not_one (cc)) (own_room f)
      second x (inner y) = ends (as_read m p o) (as_read m q r) x y (link_ports m.graph x y).answer

      first : (t : Port) (v : End) → Says (link_first_end m p o q r t v)
      first t lacking = no_work f (λ e. zero_is_not_one (cc)) (own_room f)
      first dead (inner x) = no_work f (λ e. zero_is_not_one (cc)) (own_room f)
      first hidden (inner x) = no_work f (λ e. zero_is_not_one (cc)) (own_room f)
      first (visible k e) (inner x) = second x (end_at m q e r)

      ports : (s t : Port) → Says (link_sub_seen m p o q r s t)
      ports dead t = no_work f (λ e. zero_is_not_one (cc)) (own_room f)
      ports hidden t = no_work f (λ e. zero_is_not_one (cc)) (own_room f)
      ports (visible n d) dead = first dead (end_at m p d o)
      ports (visible n d) hidden = no_work f (λ e. zero_is_not_one (cc)) (own_room f)
      ports (visible n d) (visible k e) = first (visible k e) (end_at m p d o)

      offsets : (c : Bool) → Says (cond c (link_sub_seen m p o q r (seen m p) (seen m q)) (link_refused m BadOffset))
      offsets true = ports (seen m p) (seen m q)
      offsets false = no_work f (λ e. zero_is_not_one (cc)) (own_room f)

      offset : (c : Bool) → Says (cond c (cond (good_offset r) (link_sub_seen m p o q r (seen m p) (seen m q)) (link_refused m BadOffset)) (link_refused m BadOffset))
      offset true = offsets (good_offset r)
      offset false = no_work f (λ e. zero_is_not_one (cc)) (own_room f)

      checked : (taken : Bool) → Spaced m M [] ((link_sub_if taken m p o q r).answer ≡ Err NoRoom) (link_sub_if taken m p o q r).graph
      checked true =
          subst (λ (v : PortsLinked). Spaced m M [] (v.answer ≡ Err NoRoom) v.graph) (sym (link_sub_taken m p o q r))
          (no_work f (sub_not_room p o q r) (own_room f))
      checked false = subst (λ (v : PortsLinked). Spaced m M [] (v.answer ≡ Err NoRoom) v.graph) (sym (link_sub_cases m p o q r)) (offset (good_offset o))

-- Removing a block.

-- what a port's mark and hidden node are, where another port has lost its hidden node
abbrev Alike : MultiPortGraph → MultiPortGraph → ℕ → Type 0
Alike m m' s =
    (is_split m' s ≡ is_split m s)
    × (is_split m s ≡ true → (copy_node m' s ≡ copy_node m s) × (meta_at m'.graph (copy_node m s) ≡ meta_at m.graph (copy_node m s)))

record CopyOut (m : MultiPortGraph) (n : ℕ) (k : NodeMeta) (p : ℕ) (m' : MultiPortGraph) : Type 0 where
  model' : Model
  fine : Fine m' model'
  block : BlockIs m' model' n k
  alike : (s : ℕ) → Within k.first_port.0 (k.incoming + k.outgoing) s → (s ≡ p → ⊥) → Alike m m' s

module _ {m : MultiPortGraph} {M : Model} (f : Fine m M) (n : ℕ) (k : NodeMeta) (block : BlockIs m M n k) where
  place_here : (s : ℕ) → Within k.first_port.0 (k.incoming + k.outgoing) s → (x : model.InnerPlace) × (x.node ≡ n) × Seen m M x × (slot_of M.node x ≡ s)
  place_here s w =
      let a = place_among k s w in (
        inner# n a.side a.pos,
        refl,
        (subst (λ (v : Slots). a.pos < count_of v a.side) (sym block.1) a.below, block.0),
        ap (λ (v : Slots). slot_on_side v a.side a.pos) block.1 ∙ a.slot,
      )

  module _ (x : model.InnerPlace) (at_n : x.node ≡ n) (sx : Seen m M x) (h : Hangs m M x) where
    other_copy : (y : model.InnerPlace) (t : Hangs m M y) → (y ≡ x → ⊥) → t.copy ≡ h.copy → ⊥
    other_copy y t apart e =
        let a = h.from in
        let b : M.join (copy_place m h.copy) ≡ to y = subst (λ (c : ℕ). M.join (copy_place m c) ≡ to y) e t.from in
        let q : y ≡ x = cc in
        apart q

    block_not_copy : (y : model.InnerPlace) → Seen m M y → y.node ≡ h.copy → ⊥
    block_not_copy y sy e =
        let a = h.is_copy in
        let b : is_hidden m h.copy ≡ false = subst (λ (c : ℕ). is_hidden m c ≡ false) e sy.1 in
        zero_is_not_one (cc)

    copy_after : (y : model.InnerPlace) → Seen m M y → (y ≡ x → ⊥) → is_split m (slot_of M.node y) ≡ true
        → (copy_node (remove_copy m (slot_of M.node x) h.copy) (slot_of M.node y) ≡ copy_node m (slot_of M.node y))
        × (meta_at (remove_copy m (slot_of M.node x) h.copy).graph (copy_node m (slot_of M.node y)) ≡ meta_at m.graph (copy_node m (slot_of M.node y)))
    unfolding copy_node remove_copy
    copy_after y sy apart e =
        let t = split_has_copy f y sy e in
        let fine = (copy_goes f x h).fine in
        let other = other_copy y t apart in
        let j = drop_kept (at_node h.copy) M.join y (copy_place m t.copy) t.back (ne_eqb y.node h.copy (block_not_copy y sy)) (ne_eqb t.copy h.copy other) in
        let slot = ap (λ (v : Slots). first_of v + (side_start v y.side + y.pos)) (upd_other M.node h.copy gone y.node (block_not_copy y sy)) in
        let valid = joined_is_valid fine.good y (copy_place m t.copy) j in
        let a = ap (copy_node (remove_copy m (slot_of M.node x) h.copy)) (sym slot) ∙ (ap (owner_of (remove_node m.graph h.copy).graph) (far_of fine y (copy_place m t.copy) j) ∙ owner_of_lem fine (copy_place m t.copy) valid) in
        (a ∙ sym t.copy_is, other_node_stays f.good f.holds h.copy (copy_node m (slot_of M.node y)) (λ q. other (sym t.copy_is ∙ q)))

    alike_after : (y : model.InnerPlace) → Seen m M y → (y ≡ x → ⊥) → Alike m (remove_copy m (slot_of M.node x) h.copy) (slot_of M.node y)
    unfolding remove_copy is_split
    alike_after y sy apart = (
      get_or-set_other (set m.multiport (port_of m.graph h.copy (copy_side m h.copy) 0) false) (slot_of M.node x) (slot_of M.node y) false false
          (λ e. apart (slots_apart f.good y x sy.0 sx.0 e))
          ∙ get_or-set_other m.multiport (port_of m.graph h.copy (copy_side m h.copy) 0) (slot_of M.node y) false false
          (λ e. block_not_copy y sy (ap (λ (v : model.InnerPlace). v.node)
          (slots_apart f.good y (copy_place m h.copy) sy.0 (copy_valid f h.copy h.is_copy) (e ∙ port_of_lem f h.copy (copy_side m h.copy) 0 (copy_valid f h.copy h.is_copy))))),
      copy_after y sy apart,
    )

  copy_outgoing_lem : (p : ℕ) → Within k.first_port.0 (k.incoming + k.outgoing) p → is_split m p ≡ true → CopyOut m n k p (remove_copy m p (copy_node m p))
  copy_outgoing_lem p w e =
      let a = place_here p w in
      let x = a.0 in
      let h = split_has_copy f x a.2 (ap (is_split m) a.3 ∙ e) in
      let g = copy_goes f x h in
      subst (λ (q : ℕ). CopyOut m n k q (remove_copy m q (copy_node m q))) a.3
      (subst (λ (c : ℕ). CopyOut m n k (slot_of M.node x) (remove_copy m (slot_of M.node x) c)) (sym h.copy_is)
      (record {
        model' = remove_model M h.copy (f.copy h.copy h.is_copy).meta;
        fine = g.fine;
        block = g.blocks.0 n k block;
        alike = λ s u apart.
            let b = place_here s u in
            subst (λ (t : ℕ). Alike m (remove_copy m (slot_of M.node x) h.copy) t) b.3
            (alike_after x a.1 a.2 h b.0 b.2 (λ q. apart (sym b.3 ∙ ap (slot_of M.node) q)));
      }))

copies_alike : (m m' : MultiPortGraph) (j q : ℕ) → ((s : ℕ) → q ≤ s → s < q + j → Alike m m' s) → copies_gone m' (copies_in m' q j) ≡ copies_gone m (copies_in m q j)
unfolding copies_in flat_map
copies_alike m m' zero q same = refl
copies_alike m m' (suc j) q same =
    let here = same q (omega arith) (omega arith) in
    ap (λ (b : Bool). copies_gone m' (cond b (copy_node m' q ∷ copies_in m' (suc q) j) (copies_in m' (suc q) j))) here.0
    ∙ go (is_split m q) refl here (copies_alike m m' j (suc q) (λ s a b. same s (omega arith) (omega arith)))
  where
    go : (b : Bool) → is_split m q ≡ b → Alike m m' q → copies_gone m' (copies_in m' (suc q) j) ≡ copies_gone m (copies_in m (suc q) j)
        → copies_gone m' (cond b (copy_node m' q ∷ copies_in m' (suc q) j) (copies_in m' (suc q) j)) ≡ copies_gone m (cond b (copy_node m q ∷ copies_in m (suc q) j) (copies_in m (suc q) j))
    go true e a rest =
        let c = (a.1 e).0 in
        (λ i. gone_works (c i) (meta_at m'.graph (c i)) ++ rest i)
        ∙ ap (λ (v : Option NodeMeta). gone_works (copy_node m q) v ++ copies_gone m (copies_in m (suc q) j)) (a.1 e).1
    go false e a rest = rest

-- so many ports of a block from p on lose their hidden nodes
abbrev RangeRoom : ℕ → Type 0
RangeRoom j =
    (m : MultiPortGraph) (M : Model) → Fine m M → (n : ℕ) (k : NodeMeta) → BlockIs m M n k → (p : ℕ) → k.first_port.0 ≤ p → p + j ≤ k.first_port.0 + (k.incoming + k.outgoing)
    → (r : Room) → HasRoom m.graph r
    → HasRoom (unsplit_range m p j).graph (after_works r (copies_gone m (copies_in m p j))) × (meta_at (unsplit_range m p j).graph n ≡ Some k)

copy_gone_room : (m : MultiPortGraph) (p c : ℕ) {r : Room} → HasRoom m.graph r → HasRoom (remove_copy m p c).graph (after_works r (gone_works c (meta_at m.graph c)))
unfolding remove_copy
copy_gone_room m p c h = gone_node_room h c

copies_with : (m : MultiPortGraph) (p j : ℕ) → is_split m p ≡ true → copies_gone m (copies_in m p (suc j)) ≡ gone_works (copy_node m p) (meta_at m.graph (copy_node m p)) ++ copies_gone m (copies_in m (suc p) j)
unfolding copies_in flat_map
copies_with m p j e = rw e

copies_without : (m : MultiPortGraph) (p j : ℕ) → is_split m p ≡ false → copies_gone m (copies_in m p (suc j)) ≡ copies_gone m (copies_in m (suc p) j)
unfolding copies_in
copies_without m p j e = rw e

range_next : (m : MultiPortGraph) (p j : ℕ) → unsplit_range m p (suc j) ≡ unsplit_range (unsplit m p) (suc p) j
unfolding unsplit_range
range_next m p j = refl

-- the rest, after one port lost its hidden node
range_split : (j : ℕ) → RangeRoom j → (m m' : MultiPortGraph) (n : ℕ) (k : NodeMeta) (p : ℕ) → k.first_port.0 ≤ p → p + suc j ≤ k.first_port.0 + (k.incoming + k.outgoing)
    → CopyOut m n k p m' → (r : Room) (works : List Work) → HasRoom m'.graph (after_works r works)
    → HasRoom (unsplit_range m' (suc p) j).graph (after_works r (works ++ copies_gone m (copies_in m (suc p) j))) × (meta_at (unsplit_range m' (suc p) j).graph n ≡ Some k)
range_split j ih m m' n k p low high o r works h =
    let t = ih m' o.model' o.fine n k o.block (suc p) (omega arith) (omega arith) (after_works r works) h in (
      subst (HasRoom (unsplit_range m' (suc p) j).graph)
          (ap (after_works (after_works r works)) (copies_alike m m' j (suc p) (λ s a b. o.alike s (omega arith, omega arith) (λ q. omega arith)))
          ∙ sym (after_append works (copies_gone m (copies_in m (suc p) j)) r)) t.0,
      t.1,
    )

abbrev RangeSays : MultiPortGraph → ℕ → NodeMeta → List Work → Room → Type 0
RangeSays m' n k works r = HasRoom m'.graph (after_works r works) × (meta_at m'.graph n ≡ Some k)

range_step : (j : ℕ) → RangeRoom j → RangeRoom (suc j)
range_step j ih m M f n k block p low high r h = go (is_split m p) refl
  where
    go : (b : Bool) → is_split m p ≡ b → RangeSays (unsplit_range m p (suc j)) n k (copies_gone m (copies_in m p (suc j))) r
    go true e =
        subst (λ (v : MultiPortGraph). RangeSays v n k (copies_gone m (copies_in m p (suc j))) r)
        (ap (λ (v : MultiPortGraph). unsplit_range v (suc p) j) (sym (unsplit_split m p e)) ∙ sym (range_next m p j))
        (subst (λ (l : List Work). RangeSays (unsplit_range (remove_copy m p (copy_node m p)) (suc p) j) n k l r) (sym (copies_with m p j e))
        (range_split j ih m (remove_copy m p (copy_node m p)) n k p low high (copy_outgoing_lem f n k block p (low, omega arith) e) r
        (gone_works (copy_node m p) (meta_at m.graph (copy_node m p))) (copy_gone_room m p (copy_node m p) h)))
    go false e =
        subst (λ (v : MultiPortGraph). RangeSays v n k (copies_gone m (copies_in m p (suc j))) r)
        (ap (λ (v : MultiPortGraph). unsplit_range v (suc p) j) (unsplit_plain m p e) ∙ sym (range_next m p j))
        (subst (λ (l : List Work). RangeSays (unsplit_range m (suc p) j) n k l r) (sym (copies_without m p j e))
        (ih m M f n k block (suc p) (omega arith) (omega arith) r h))

range_none : RangeRoom zero
unfolding unsplit_range copies_in flat_map after_works
range_none m M f n k block p low high r h = (h, meta_of_node f.good f.holds n k block.1)

range_room : (j : ℕ) → RangeRoom j
range_room zero = range_none
range_room (suc j) = range_step j (range_room j)

pub drop_block_room : {m : MultiPortGraph} {M : Model} → Fine m M → (n : ℕ) (k : NodeMeta) → BlockIs m M n k → HasRoom (drop_block m n k).graph (after_works (room_of M) (remove_meta_works m n (Some k)))
unfolding drop_block
drop_block_room {m} {M} f n k block =
    let t = range_room (k.incoming + k.outgoing) m M f n k block k.first_port.0 (omega arith) (omega arith) (room_of M) (record { model = M; good = f.good; holds = f.holds; is = refl }) in
    subst (HasRoom (drop_block m n k).graph)
    (ap (λ (v : Option NodeMeta). after_works (after_works (room_of M) (copies_gone m (copies_in m k.first_port.0 (k.incoming + k.outgoing)))) (gone_works n v)) t.1
    ∙ sym (after_append (copies_gone m (copies_in m k.first_port.0 (k.incoming + k.outgoing))) (gone_works n (Some k)) (room_of M)))
    (gone_node_room t.0 n)

pub remove_fits : {m : MultiPortGraph} {M : Model} → Fine m M → (n : ℕ) (k : NodeMeta) → overflows (room_of M) (remove_meta_works m n (Some k)) ≡ false
unfolding after_works
remove_fits {m} {M} f n k =
    let cs = copies_in m k.first_port.0 (k.incoming + k.outgoing) in
    overflows_append (room_of M) (copies_gone m cs) (gone_works n (Some k))
    ∙ (overflows_at_end (after_works (room_of M) (copies_gone m cs)) (gone_works n (Some k))
    ∙ (gone_lengthens_nothing (after_works (room_of M) (copies_gone m cs)) n (Some k)
    ∙ (copies_lengthen_nothing m cs (room_of M) ∙ (sym (overflows_at_end (room_of M) []) ∙ fits f.good))))

pub remove_space : {m : MultiPortGraph} {M : Model} → Fine m M → (n : ℕ) → Spaced m M (cond (is_hidden m n) [] (remove_works m n)) ((remove_block m n).answer ≡ Err NoRoom) (remove_block m n).graph
unfolding remove_works
remove_space {m} {M} f n =
    subst (λ (v : NodeRemoved). Spaced m M (cond (is_hidden m n) [] (remove_meta_works m n (meta_at m.graph n))) (v.answer ≡ Err NoRoom) v.graph) (sym (remove_cases m n)) (go (meta_at m.graph n) refl)
  where
    Says : List Work → NodeRemoved → Type 0
    Says works v = Spaced m M works (v.answer ≡ Err NoRoom) v.graph

    idle : (b : Bool) → Says (cond b [] []) (remove_refused m UnknownNode)
    idle true = no_work f (λ q. zero_is_not_one (cc)) (own_room f)
    idle false = no_work f (λ q. zero_is_not_one (cc)) (own_room f)

    by : (k : NodeMeta) → meta_at m.graph n ≡ Some k → (b : Bool) → is_hidden m n ≡ b
        → Says (cond b [] (remove_meta_works m n (Some k))) (cond b (remove_refused m HiddenNode) (record { graph = drop_block m n k; answer = Ok tt }))
    by k e true h = no_work f (λ q. zero_is_not_one (cc)) (own_room f)
    by k e false h = spaced_done (λ q. zero_is_not_one (cc)) (remove_fits f n k) (drop_block_room f n k (h, node_of_meta f.good f.holds n k e))

    go : (v : Option NodeMeta) → meta_at m.graph n ≡ v → Says (cond (is_hidden m n) [] (remove_meta_works m n v)) (remove_meta m n v)
    go None e = idle (is_hidden m n)
    go (Some k) e = by k e (is_hidden m n) refl

-- Every call.

module _ {m : MultiPortGraph} {M : Model} (f : Fine m M) where
  pub add_call_space : (i o : ℕ) → Spaced m M (cond (leb (i + o) node_ports) (add_works i o) []) ((add_block m i o).answer ≡ Err NoRoom) (add_block m i o).graph
  add_call_space i o = go (leb (i + o) node_ports) refl
    where
      go : (a : Bool) → leb (i + o) node_ports ≡ a → Spaced m M (cond a (add_works i o) []) ((add_block m i o).answer ≡ Err NoRoom) (add_block m i o).graph
      go true e = add_space f i o (leb-true (i + o) node_ports e)
      go false e =
          subst (λ (v : NodeAdded). Spaced m M [] (v.answer ≡ Err NoRoom) v.graph) (sym (add_cases present m i o))
          (subst (λ (v : lower_added.NodeAdded). Spaced m M [] (added_as v.answer ≡ Err NoRoom) (with_graph m v.graph))
          (sym (add_law f.good f.holds i o ∙ ap (λ (a : Bool). add_where m.graph M i o a (slot_room M) (block_room M (i + o))) e))
          (no_work f (λ q. zero_is_not_one (cc)) (own_room f)))

  pub set_call_space : (n i o room : ℕ)
      → Spaced m M (cond (leb (i + o) node_ports) (cond (is_hidden m n) [] (told_works m n i o room (meta_at m.graph n))) [])
      ((set_counts m n i o room).answer ≡ Err NoRoom) (set_counts m n i o room).graph
  set_call_space n i o room = few (leb (i + o) node_ports) refl
    where
      Says : List Work → PortsSet → Type 0
      Says works v = Spaced m M works (v.answer ≡ Err NoRoom) v.graph

      refused : (x : Refusal) → ((q : ◌≡◌ {A = Result ℕ Refusal} (Err x) (Err NoRoom)) → ⊥) → cond (leb (i + o) node_ports) (set_meta m n i o room (meta_at m.graph n)) (set_refused m TooManyPorts) ≡ set_refused m x → Says [] (set_counts m n i o room)
      refused x never e = subst (Says []) (sym (set_cases present m n i o room ∙ e)) (no_work f never (own_room f))

      done : NodeMeta → lower_set_done.PortsSet → PortsSet
      done k v = record { graph = resized m n k i o v.graph v.answer; answer = set_as v.answer }

      told : (k : NodeMeta) → leb (i + o) node_ports ≡ true → meta_at m.graph n ≡ Some k → is_hidden m n ≡ false → (c : Bool) → leb (3 * (k.incoming + k.outgoing)) room ≡ c
          → Says (cond c (set_works m n i o) []) (set_counts m n i o room)
      told k e q h true t = set_counts_space f n k (h, node_of_meta f.good f.holds n k q) i o room (leb-true (i + o) node_ports e) (leb-true (3 * (k.incoming + k.outgoing)) room t)
      told k e q h false t =
          refused MovesTooShort (λ z. zero_is_not_one (cc))
          ((λ j. cond (e j) (set_meta m n i o room (q j)) (set_refused m TooManyPorts))
          ∙ (ap (λ (b : Bool). cond b (set_refused m HiddenNode) (done k (set_num_ports m.graph n i o room))) h
          ∙ ap (done k) (set_moves_too_short f.good f.holds n i o room (leb-true (i + o) node_ports e) k (node_of_meta f.good f.holds n k q) (leb-false (3 * (k.incoming + k.outgoing)) room t))))

      node : leb (i + o) node_ports ≡ true → (v : Option NodeMeta) → meta_at m.graph n ≡ v → (b : Bool) → is_hidden m n ≡ b → Says (cond b [] (told_works m n i o room v)) (set_counts m n i o room)
      node e None q true h = refused UnknownNode (λ z. zero_is_not_one (cc)) (λ j. cond (e j) (set_meta m n i o room (q j)) (set_refused m TooManyPorts))
      node e None q false h = refused UnknownNode (λ z. zero_is_not_one (cc)) (λ j. cond (e j) (set_meta m n i o room (q j)) (set_refused m TooManyPorts))
      node e (Some k) q true h =
          refused HiddenNode (λ z. zero_is_not_one (cc))
          ((λ j. cond (e j) (set_meta m n i o room (q j)) (set_refused m TooManyPorts)) ∙ ap (λ (b : Bool). cond b (set_refused m HiddenNode) (done k (set_num_ports m.graph n i o room))) h)
      node e (Some k) q false h = told k e q h (leb (3 * (k.incoming + k.outgoing)) room) refl

      few : (a : Bool) → leb (i + o) node_ports ≡ a → Says (cond a (cond (is_hidden m n) [] (told_works m n i o room (meta_at m.graph n))) []) (set_counts m n i o room)
      few true e = node e (meta_at m.graph n) refl (is_hidden m n) refl
      few false e = refused TooManyPorts (λ z. zero_is_not_one (cc)) (λ j. cond (e j) (set_meta m n i o room (meta_at m.graph n)) (set_refused m TooManyPorts))
