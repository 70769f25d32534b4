-- A node gets other counts in a new block: the tables then stand for the model in which it has moved there.
-- Ports that stay go over, incoming ones first; then no slot of the old block has a link, and the old block becomes free.
use Rattle.std.specs.Prelude.{◌≡◌, refl, Bool, true, false, cond, List, ℕ, ◌+◌, ◌-◌, ◌≤◌, ◌<◌, eqb, ltb, length}
use Rattle.std.proofs.Math.Path.{sym, ap}
use Rattle.std.proofs.Common.{◌∙◌, subst, inr, ltb-true, ltb-false, eqb-true}
use native.Mathlib.Omega.{arith}
use Rattle.std.proofs.Math.ListN.{length-set}
use Rattle.std.proofs.lemmas.Bool.{eqb-false}
use Rattle.port_tables.specs.Limits.{port_slots, node_ports}
use Rattle.port_tables.specs.Lists.{Member}
use Rattle.port_tables.specs.Tables.{at, head_at, put_head, fill_range, own_block, cut_range, cut_count, transfer, chain_block, Within}
use Rattle.portgraph.specs.TableLaws.{length_fill_range, length_own_block, length_cut_range, length_chain_block, at_fill_in, at_fill_outside, at_block_in, at_chain_first, at_chain_other}
use Rattle.portgraph.specs.Model.{Model, Far, Slots, live, held, idle, Valid, Good, Holds, Chain, count_of, slot_of, owner_of_who, InnerPlace, Vacant}
use Rattle.portgraph.specs.Meaning.{upd, drop_join, beyond, rest, growth, next_block, give_block, hand_over, move_model}
use Rattle.port_tables.specs.Entries.{same_side, new_count, meta_of}
use Rattle.portgraph.specs.Joins.{upd_elim, upd_same}
use Rattle.portgraph.specs.Calls.{head_after}
use Rattle.portgraph.specs.Resize.{resize_anew}
use Rattle.port_tables.specs.ResizeLinks.{first_slot, kept_incoming, kept_outgoing, drop_links, drop_count, anew_links}
use Rattle.portgraph.specs.LinkLaws.{Rep, NoneOf, Moved, side_place, not_of_side, transfer_at, rep_fill_vacant, rep_extend, cut_range_none, dropped_holds_none, far_number_is_far_is}
use Rattle.portgraph.specs.GoodSlots.{held_not_idle, block_within, block_of_one, free_block_apart, slot_in_range, slots_apart, hand_elim, handed_inside, give_elim, rest_in}
use Rattle.portgraph.specs.GoodLaws.{good_move}
use Rattle.portgraph.specs.Chains.{length_put_head}
use Rattle.portgraph.specs.PlaceLaws.{idle_vacant, spare_vacant}
use Rattle.portgraph.specs.BlockHolds.{chain_head, grown_by, taken_chains, given_chains, at_block_outside, slot_of_other, valid_other, other_valid, owner_of_other, place_in_block}
use Rattle.portgraph.specs.DropHolds.{Sided, coming, going, sided, same_live, is_beyond, Stays, Stay, elsewhere, stay, stays_or_new, drops, stays_rep, recount_nodes, recount_chain, recount_live, recount_ports, recount_links}
use Rattle.port_tables.specs.declared.direction.Direction.{Direction}
use Rattle.port_tables.specs.declared.direction.Direction.TheVariants.{Incoming, Outgoing}
use Rattle.port_tables.specs.declared.node_entry.NodeMeta.{NodeMeta}
use Rattle.portgraph.specs.declared.portgraph.PortGraph.{PortGraph}

module _ {g : PortGraph} {M : Model} (good : Good M) (holds : Holds g M) (n : ℕ) (m : NodeMeta) (here : M.node n ≡ live m) (incoming outgoing size : ℕ)
    (fit : incoming + outgoing ≤ size) (some : 0 < size) (small : size ≤ node_ports) (room : M.port_len + growth size (M.free_blocks size) ≤ port_slots) where
  abbrev first : ℕ
  first = next_block M size

  abbrev moved : NodeMeta
  moved = meta_of first incoming outgoing size

  abbrev node' : ℕ → Slots
  node' = upd M.node n (live moved)

  abbrev left : InnerPlace → Far
  left = drop_join (beyond n incoming outgoing) M.join

  abbrev Staying : InnerPlace → Type 0
  Staying = Stays M.node node'

  good' : Good (move_model M n m incoming outgoing size)
  good' = good_move good n m here incoming outgoing size fit some small room

  there : node' n ≡ live moved
  there = upd_same M.node n (live moved)

  -- The old block and the new one.

  old_ends : first_slot m + m.capacity ≤ port_slots
  old_ends = block_within good n m here

  new_ends : first + size ≤ port_slots
  new_ends = let a : first + size ≤ M.port_len + growth size (M.free_blocks size) = good'.block_ends n moved there in omega arith

  ports : m.incoming + m.outgoing ≤ m.capacity
  ports = good.ports_in_block n m here

  blocks_apart : (s : ℕ) → Within first size s → Within (first_slot m) m.capacity s → ⊥
  blocks_apart s w o =
      held_not_idle (good'.held_by n moved s there w)
      (handed_inside (hand_over M.who first size (held n)) (first_slot m) m.capacity (idle (first_slot m) m.capacity) s o)

  staying : (y : InnerPlace) → Staying y → Stay n m moved y (slot_of M.node y) (slot_of node' y)
  staying = stay M.node n m moved here

  -- no port was in the new block
  was_outside : (y : InnerPlace) → Valid M.node y → Within first size (slot_of M.node y) → ⊥
  was_outside y v w = go (eqb y.node n) refl
    where
      by_side : Sided m y (slot_of M.node y) → ⊥
      by_side (coming q h k) = let p = ports in blocks_apart _ w (omega arith, omega arith)
      by_side (going q h k) = let p = ports in blocks_apart _ w (omega arith, omega arith)

      go : (b : Bool) → eqb y.node n ≡ b → ⊥
      go true t = by_side (sided M.node n m here y (eqb-true _ _ t) v)
      go false t =
          let o : y.node ≡ n → ⊥ = eqb-false _ _ t in
          let e : slot_of node' y ≡ slot_of M.node y = slot_of_other M.node n (live moved) y o in
          o (place_in_block good' n moved y there (other_valid M.node n (live moved) y o v) (omega arith, omega arith))

  -- no port is in the old block
  now_outside : (x : InnerPlace) → Valid node' x → Within (first_slot m) m.capacity (slot_of node' x) → ⊥
  now_outside x v w = go (eqb x.node n) refl
    where
      by_side : Sided moved x (slot_of node' x) → ⊥
      by_side (coming q h k) = blocks_apart _ (omega arith, omega arith) w
      by_side (going q h k) = blocks_apart _ (omega arith, omega arith) w

      go : (b : Bool) → eqb x.node n ≡ b → ⊥
      go true t = by_side (sided node' n moved there x (eqb-true _ _ t) v)
      go false t =
          let o : x.node ≡ n → ⊥ = eqb-false _ _ t in
          let e : slot_of node' x ≡ slot_of M.node x = slot_of_other M.node n (live moved) x o in
          o (place_in_block good n m x here (valid_other M.node n (live moved) x o v) (omega arith, omega arith))

  -- The ports that stay go over.

  abbrev cleared : List ℕ
  cleared = fill_range (drop_links g.port_link m incoming outgoing) first size 0

  abbrev halfway : List ℕ
  halfway = transfer cleared (first_slot m) first (kept_incoming m incoming)

  abbrev over : List ℕ
  over = transfer halfway (first_slot m + m.incoming) (first + incoming) (kept_outgoing m outgoing)

  -- the slots when the incoming ports have gone over, and the outgoing ones have not
  abbrev mid : InnerPlace → ℕ
  mid y = cond (same_side y.side Incoming) (slot_of node' y) (slot_of M.node y)

  mid_in : (y : InnerPlace) → y.side ≡ Incoming → mid y ≡ slot_of node' y
  mid_in y q = go y.side q
    where
      go : (d : Direction) → d ≡ Incoming → cond (same_side d Incoming) (slot_of node' y) (slot_of M.node y) ≡ slot_of node' y
      go d e = rw e

  mid_out : (y : InnerPlace) → y.side ≡ Outgoing → mid y ≡ slot_of M.node y
  mid_out y q = go y.side q
    where
      go : (d : Direction) → d ≡ Outgoing → cond (same_side d Incoming) (slot_of node' y) (slot_of M.node y) ≡ slot_of M.node y
      go d e = rw e

  mid_other : (y : InnerPlace) → slot_of node' y ≡ slot_of M.node y → mid y ≡ slot_of M.node y
  mid_other y e = go (same_side y.side Incoming)
    where
      go : (b : Bool) → cond b (slot_of node' y) (slot_of M.node y) ≡ slot_of M.node y
      go true = e
      go false = refl

  start : Rep Staying (slot_of M.node) left cleared
  start =
      rep_fill_vacant (stays_rep good holds n m here incoming outgoing first size good'.join_valid) first size 0
      (λ y v a b. was_outside y v.0 (a, b))

  go_in : Moved Staying (slot_of M.node) mid left first (kept_incoming m incoming) cleared halfway × ((i : ℕ) → i < kept_incoming m incoming → at halfway (first_slot m + i) ≡ 0)
  go_in =
      let e = new_ends in
      transfer_at (kept_incoming m incoming) (side_place n Incoming 0) (slot_of M.node) mid cleared (first_slot m) first start
      (record { there = λ i l. (rw here (omega arith), rw there (omega arith)); numbered = λ i l. rw here (omega arith) })
      (omega arith)
      (λ y v a b. was_outside y v.0 (omega arith, omega arith))
      (record { placed = λ i l. rw there (omega arith); others = λ y v none. same y none (staying y v) })
    where
      same : (y : InnerPlace) → NoneOf (side_place n Incoming 0) (kept_incoming m incoming) y → Stay n m moved y (slot_of M.node y) (slot_of node' y) → mid y ≡ slot_of M.node y
      same y none (elsewhere o e) = mid_other y e
      same y none (coming e q h h' k k') = absurd (not_of_side n Incoming 0 (kept_incoming m incoming) y none e q (omega arith) (omega arith))
      same y none (going e q h h' k k') = mid_out y q

  go_out : Moved Staying mid (slot_of node') left (first + incoming) (kept_outgoing m outgoing) halfway over × ((i : ℕ) → i < kept_outgoing m outgoing → at over (first_slot m + m.incoming + i) ≡ 0)
  go_out =
      let e = new_ends in
      transfer_at (kept_outgoing m outgoing) (side_place n Outgoing 0) mid (slot_of node') halfway (first_slot m + m.incoming) (first + incoming) go_in.0.rep
      (record { there = λ i l. (rw here (omega arith), rw there (omega arith)); numbered = λ i l. rw here (omega arith) })
      (omega arith)
      (λ y v a b. clear y v (staying y v) a b)
      (record { placed = λ i l. rw there (omega arith); others = λ y v none. same y none (staying y v) })
    where
      clear : (y : InnerPlace) → Staying y → Stay n m moved y (slot_of M.node y) (slot_of node' y) → first + incoming ≤ mid y → mid y < first + incoming + kept_outgoing m outgoing → ⊥
      clear y v (elsewhere o e) a b = let k = mid_other y e in was_outside y v.0 (omega arith, omega arith)
      clear y v (coming e q h h' k k') a b = let f = mid_in y q in omega arith
      clear y v (going e q h h' k k') a b = let f = mid_out y q in was_outside y v.0 (omega arith, omega arith)

      same : (y : InnerPlace) → NoneOf (side_place n Outgoing 0) (kept_outgoing m outgoing) y → Stay n m moved y (slot_of M.node y) (slot_of node' y) → slot_of node' y ≡ mid y
      same y none (elsewhere o e) = e ∙ sym (mid_other y e)
      same y none (coming e q h h' k k') = sym (mid_in y q)
      same y none (going e q h h' k k') = absurd (not_of_side n Outgoing 0 (kept_outgoing m outgoing) y none e q (omega arith) (omega arith))

  -- a slot halfway is the old one, or an incoming port's new one
  mid_vacant : (s : ℕ) → Vacant Staying (slot_of M.node) s → ((p : ℕ) → p < m.incoming → p < incoming → first + p ≡ s → ⊥) → Vacant Staying mid s
  mid_vacant s vacant out y v e = go (staying y v)
    where
      go : Stay n m moved y (slot_of M.node y) (slot_of node' y) → ⊥
      go (elsewhere o f) = vacant y v (sym (mid_other y f) ∙ e)
      go (coming f q h h' k k') = let a = mid_in y q in out y.pos h h' (omega arith)
      go (going f q h h' k k') = vacant y v (sym (mid_out y q) ∙ e)

  -- outside the new block, a slot that no port which stays had keeps its number
  carried : (s : ℕ) → Vacant Staying (slot_of M.node) s → (Within first size s → ⊥) → at over s ≡ at (drop_links g.port_link m incoming outgoing) s
  carried s vacant out =
      go_out.0.kept s (mid_vacant s vacant (λ p a b e. out (omega arith, omega arith))) (λ a b. out (omega arith, omega arith))
      ∙ (go_in.0.kept s vacant (λ a b. out (omega arith, omega arith))
      ∙ at_fill_outside (drop_links g.port_link m incoming outgoing) first size s 0 (λ a b. out (a, b)))

  keeps : (s : ℕ) → Vacant (Valid M.node) (slot_of M.node) s → (Within first size s → ⊥) → at over s ≡ at g.port_link s
  keeps s vacant out = carried s (λ y v. vacant y v.0) out ∙ (drops good holds n m here incoming outgoing).kept s vacant

  -- in the new block, slots that no port went over to hold no link
  stays_empty : (s : ℕ) → Within first size s → ((p : ℕ) → p < m.incoming → p < incoming → first + p ≡ s → ⊥)
      → ((p : ℕ) → p < m.outgoing → p < outgoing → first + (incoming + p) ≡ s → ⊥) → at over s ≡ 0
  stays_empty s w no_in noOut =
      let low : first ≤ s = w.0 in
      let high : s < first + size = w.1 in
      let vacant : Vacant Staying (slot_of M.node) s = λ y v e. was_outside y v.0 (omega arith, omega arith) in
      go_out.0.kept s (mid_vacant s vacant no_in) (λ a b. noOut (s - (first + incoming)) (omega arith) (omega arith) (omega arith))
      ∙ (go_in.0.kept s vacant (λ a b. no_in (s - first) (omega arith) (omega arith) (omega arith))
      ∙ at_fill_in (drop_links g.port_link m incoming outgoing) first size s 0 (drops good holds n m here incoming outgoing).rep.long new_ends low high)

  -- a dropped port's slot holds no link
  dropped_empty : (x : InnerPlace) → Valid M.node x → x.node ≡ n → beyond n incoming outgoing x ≡ true → (Valid node' x → ⊥) → at over (slot_of M.node x) ≡ 0
  dropped_empty x v e b out =
      carried (slot_of M.node x) (λ y w q. out (subst (Valid node') (slots_apart good y x w.0 v q) w.1)) (was_outside x v)
      ∙ dropped_holds_none (beyond n incoming outgoing) M.join (drops good holds n m here incoming outgoing).rep x v b

  -- the old block has no link left
  old_empty : (s : ℕ) → first_slot m ≤ s → s < first_slot m + m.capacity → at over s ≡ 0
  old_empty s low high =
      go (ltb s (first_slot m + kept_incoming m incoming)) (ltb s (first_slot m + m.incoming)) (ltb s (first_slot m + m.incoming + kept_outgoing m outgoing)) (ltb s (first_slot m + (m.incoming + m.outgoing))) refl refl refl refl
    where
      apart : Within first size s → ⊥
      apart w = blocks_apart s w (low, high)

      -- the slot of a port that has gone over is vacant
      gone_over : s < first_slot m + kept_incoming m incoming → Vacant Staying mid s
      gone_over l y v e = by (staying y v)
        where
          outside : (y.node ≡ n → ⊥) → slot_of M.node y ≡ s → ⊥
          outside o f = o (place_in_block good n m y here v.0 (omega arith, omega arith))

          by : Stay n m moved y (slot_of M.node y) (slot_of node' y) → ⊥
          by (elsewhere o f) = outside o (sym (mid_other y f) ∙ e)
          by (coming f q h h' k k') = let a = mid_in y q in apart (omega arith, omega arith)
          by (going f q h h' k k') = let a = mid_out y q in omega arith

      dropped : (d : Direction) (p : ℕ) → p < count_of (live m) d → count_of (live moved) d ≤ p → slot_of (λ k. live m) (record { node = n; side = d; pos = p }) ≡ s → at over s ≡ 0
      dropped d p h k e =
          let f : slot_of M.node (record { node = n; side = d; pos = p }) ≡ s = rw here e in
          subst (λ (i : ℕ). at over i ≡ 0) f
          (dropped_empty (record { node = n; side = d; pos = p }) (rw here h) refl (is_beyond n incoming outgoing (record { node = n; side = d; pos = p }) refl (new d k))
          (λ v. let w : p < count_of (live moved) d = rw there at v in omega arith))
        where
          new : (d : Direction) → count_of (live moved) d ≤ p → new_count incoming outgoing d ≤ p
          new Incoming h = h
          new Outgoing h = h

      go : (a b c d : Bool) → ltb s (first_slot m + kept_incoming m incoming) ≡ a → ltb s (first_slot m + m.incoming) ≡ b
          → ltb s (first_slot m + m.incoming + kept_outgoing m outgoing) ≡ c → ltb s (first_slot m + (m.incoming + m.outgoing)) ≡ d → at over s ≡ 0
      go true b c d t u v w =
          let l : s < first_slot m + kept_incoming m incoming = ltb-true _ _ t in
          let e : first_slot m + (s - first_slot m) ≡ s = omega arith in
          go_out.0.kept s (gone_over l) (λ x y. apart (omega arith, omega arith)) ∙ subst (λ (i : ℕ). at halfway i ≡ 0) e (go_in.1 (s - first_slot m) (omega arith))
      go false true c d t u v w =
          let l : first_slot m + kept_incoming m incoming ≤ s = ltb-false _ _ t in
          let k : s < first_slot m + m.incoming = ltb-true _ _ u in
          dropped Incoming (s - first_slot m) (omega arith) (omega arith) (omega arith)
      go false false true d t u v w =
          let l : first_slot m + m.incoming ≤ s = ltb-false _ _ u in
          let k : s < first_slot m + m.incoming + kept_outgoing m outgoing = ltb-true _ _ v in
          let e : first_slot m + m.incoming + (s - (first_slot m + m.incoming)) ≡ s = omega arith in
          subst (λ (i : ℕ). at over i ≡ 0) e (go_out.1 (s - (first_slot m + m.incoming)) (omega arith))
      go false false false true t u v w =
          let l : first_slot m + m.incoming + kept_outgoing m outgoing ≤ s = ltb-false _ _ v in
          let k : s < first_slot m + (m.incoming + m.outgoing) = ltb-true _ _ w in
          dropped Outgoing (s - (first_slot m + m.incoming)) (omega arith) (omega arith) (omega arith)
      go false false false false t u v w =
          let l : first_slot m + (m.incoming + m.outgoing) ≤ s = ltb-false _ _ w in
          keeps s (spare_vacant good holds n m s here l high) apart ∙ holds.spare n m s here l high

  -- The old block becomes free.

  pub nothing_cut : (cut_range over (first_slot m) m.capacity ≡ over) × (cut_count over (first_slot m) m.capacity ≡ 0)
  nothing_cut = cut_range_none m.capacity over (first_slot m) old_empty

  abbrev heads : List ℕ
  heads = put_head g.port_free size (head_after g size)

  abbrev after : List ℕ
  after = chain_block (cut_range over (first_slot m) m.capacity) (first_slot m) m.capacity (head_at heads m.capacity)

  over_long : length over ≡ port_slots
  over_long = go_out.0.rep.long

  cut_long : length (cut_range over (first_slot m) m.capacity) ≡ port_slots
  cut_long = length_cut_range over (first_slot m) m.capacity ∙ over_long

  after_other : (s : ℕ) → (Within (first_slot m) m.capacity s → ⊥) → at after s ≡ at over s
  after_other s out =
      at_chain_other (cut_range over (first_slot m) m.capacity) (first_slot m) m.capacity (head_at heads m.capacity) s (λ z e. out (omega arith, omega arith))
      ∙ ap (λ (u : List ℕ). at u s) nothing_cut.0

  -- slots of the new block that no port went over to hold no link
  new_empty : (s : ℕ) → Within first size s → ((p : ℕ) → p < m.incoming → p < incoming → first + p ≡ s → ⊥)
      → ((p : ℕ) → p < m.outgoing → p < outgoing → first + (incoming + p) ≡ s → ⊥) → at after s ≡ 0
  new_empty s w no_in noOut = after_other s (blocks_apart s w) ∙ stays_empty s w no_in noOut

  rep_after : Rep (Valid node') (slot_of node') left after
  rep_after =
      rep_extend go_out.0.rep (length_chain_block (cut_range over (first_slot m) m.capacity) _ _ _ ∙ cut_long)
      (λ x v. after_other (slot_of node' x) (now_outside x v.1))
      (λ x v. v.1)
      (stays_or_new M.node n m moved here after
      (λ p h k. new_empty (first + p) (omega arith, omega arith) (λ q a b e. omega arith) (λ q a b e. omega arith))
      (λ p h k. new_empty (first + (incoming + p)) (omega arith, omega arith) (λ q a b e. omega arith) (λ q a b e. omega arith)))
      (slot_in_range good') (slots_apart good')

  -- the blocks that stay free
  abbrev blocks : ℕ → List ℕ
  blocks = upd M.free_blocks size (rest (M.free_blocks size))

  was_free : (k b : ℕ) → Member b (blocks k) → Member b (M.free_blocks k)
  was_free k b =
      upd_elim (λ l. Member b l → Member b (M.free_blocks k)) M.free_blocks size (rest (M.free_blocks size)) k
      (λ e i. subst (λ (j : ℕ). Member b (M.free_blocks j)) (sym e) (rest_in (M.free_blocks size) b i)) (λ o i. i)

  still_free : (k b : ℕ) → Member b (blocks k) → Member b (give_block blocks (first_slot m) m.capacity k)
  still_free k b i = give_elim (Member b) blocks (first_slot m) m.capacity k (λ z e. inr (subst (λ (j : ℕ). Member b (blocks j)) e i)) i

  chain_over : (k : ℕ) → Chain over (head_at heads k) (blocks k)
  chain_over =
      taken_chains g.port_link over g.port_free M.free_blocks size holds.heads_long small holds.block_chain
      (λ b i. let z : 0 < 0 = (good.idle_ends 0 b i).0 in omega arith)
      (λ k b i.
      let f = was_free k b i in
      let z : 0 < k = (good.idle_ends k b f).0 in
      sym (keeps b (idle_vacant good holds k b b f (omega arith, omega arith)) (λ w. free_block_apart good' n moved k b b there (still_free k b i) w (omega arith, omega arith))))

  chain_after : (k : ℕ) → Chain after (head_at (put_head heads m.capacity (first_slot m + 1)) k) (give_block blocks (first_slot m) m.capacity k)
  chain_after =
      let e = old_ends in
      given_chains over after heads blocks m.capacity (length_put_head g.port_free size (head_after g size) ∙ holds.heads_long) (good.block_small n m here) chain_over (first_slot m)
      (λ z. at_chain_first (cut_range over (first_slot m) m.capacity) (first_slot m) m.capacity (head_at heads m.capacity) cut_long (omega arith) z)
      (λ k b i.
      let f = was_free k b i in
      let z : 0 < k = (good.idle_ends k b f).0 in
      sym (after_other b (λ w. free_block_apart good n m k b b here f w (omega arith, omega arith))))

  spare_after : (k : ℕ) (l : NodeMeta) (s : ℕ) → node' k ≡ live l → first_slot l + (l.incoming + l.outgoing) ≤ s → s < first_slot l + l.capacity → at after s ≡ 0
  spare_after k l s e low high =
      upd_elim (λ v. v ≡ live l → at after s ≡ 0) M.node n (live moved) k
      (λ q d.
      let same : l ≡ moved = cc in
      own (subst (λ (r : NodeMeta). first_slot r + (r.incoming + r.outgoing) ≤ s) same low) (subst (λ (r : NodeMeta). s < first_slot r + r.capacity) same high))
      (λ o d.
      after_other s (λ w. o (block_of_one good k n l m s d here (omega arith, omega arith) w))
      ∙ (keeps s (spare_vacant good holds k l s d low high) (λ w. o (block_of_one good' k n l moved s e there (omega arith, omega arith) w))
      ∙ holds.spare k l s d low high))
      e
    where
      own : first + (incoming + outgoing) ≤ s → s < first + size → at after s ≡ 0
      own a b = new_empty s (omega arith, b) (λ p c d f. omega arith) (λ p c d f. omega arith)

  -- Owners.

  owners_after : (s : ℕ) → at (fill_range (own_block g.port_meta n moved) (first_slot m) m.capacity 0) s
      ≡ owner_of_who node' (hand_over (hand_over M.who first size (held n)) (first_slot m) m.capacity (idle (first_slot m) m.capacity) s) s
  owners_after s =
      hand_elim (λ w. at (fill_range (own_block g.port_meta n moved) (first_slot m) m.capacity 0) s ≡ owner_of_who node' w s)
      (hand_over M.who first size (held n)) (first_slot m) m.capacity (idle (first_slot m) m.capacity) s
      (λ w. at_fill_in (own_block g.port_meta n moved) (first_slot m) m.capacity s 0 (length_own_block g.port_meta n moved ∙ holds.owners_long) old_ends w.0 w.1)
      (λ out.
      at_fill_outside (own_block g.port_meta n moved) (first_slot m) m.capacity s 0 (λ a b. out (a, b))
      ∙ hand_elim (λ w. at (own_block g.port_meta n moved) s ≡ owner_of_who node' w s) M.who first size (held n) s
      (λ w. at_block_in g.port_meta n moved s holds.owners_long new_ends fit w.0 w.1 ∙ rw there)
      (λ away.
      at_block_outside g.port_meta n moved s fit away
      ∙ (holds.owners s
      ∙ sym (owner_of_other M.node n (live moved) (M.who s) s (λ h.
      let r = good.held_in s n h in
      out (subst (λ (l : NodeMeta). Within (first_slot l) l.capacity s) (same_live r.1 here) r.2))))))

  pub anew_holds : Holds (resize_anew g n m incoming outgoing (next_block M size) size) (move_model M n m incoming outgoing size)
  unfolding resize_anew anew_links
  anew_holds =
      record {
        nodes_long = length-set g.node_meta n _ ∙ holds.nodes_long;
        links_long = rep_after.long;
        owners_long = length_fill_range (own_block g.port_meta n moved) _ _ _ ∙ (length_own_block g.port_meta n moved ∙ holds.owners_long);
        heads_long = length_put_head heads _ _ ∙ (length_put_head g.port_free _ _ ∙ holds.heads_long);
        node_len = holds.node_len;
        port_len =
            grown_by (head_at g.port_free size) g.port_len size (M.free_blocks size) (chain_head g.port_link (head_at g.port_free size) (M.free_blocks size) (holds.block_chain size))
            ∙ ap (λ (k : ℕ). k + growth size (M.free_blocks size)) holds.port_len;
        nodes = recount_nodes good holds n m here incoming outgoing first size;
        node_head = holds.node_head;
        node_chain = recount_chain good holds n m here incoming outgoing first size;
        block_chain = chain_after;
        owners = owners_after;
        links = λ x v. rep_after.links x v ∙ sym (far_number_is_far_is node' (left x));
        spare = spare_after;
        node_count = recount_live good holds n m here incoming outgoing first size;
        port_count = recount_ports good holds n m here incoming outgoing first size;
        link_count =
            ap (λ (k : ℕ). g.link_count - drop_count g.port_link m incoming outgoing - k) nothing_cut.1
            ∙ (omega arith ∙ recount_links good holds n m here incoming outgoing first size);
      }
