-- A node gets other counts within its block: the tables then stand for the model with these counts.
-- Outgoing ports that stay move with the end of the incoming ones; slots of new ports, and slots no longer used, hold no link.
use Rattle.std.specs.Prelude.{◌≡◌, refl, Bool, true, false, List, ℕ, ◌+◌, ◌-◌, ◌≤◌, ◌<◌, leb, ltb}
use Rattle.std.proofs.Math.Path.{sym}
use Rattle.std.proofs.Common.{◌∙◌, ap, subst, arith, ltb-true, ltb-false, leb-true, leb-false}
use Rattle.std.proofs.Math.ListN.{length-set}
use Rattle.port_tables.specs.Limits.{port_slots}
use Rattle.port_tables.specs.Tables.{at, head_at, fill_range, own_block, shift, Within}
use Rattle.portgraph.specs.TableLaws.{length_own_block, at_fill_in, at_fill_outside, at_block_in}
use Rattle.portgraph.specs.Model.{Model, Far, Slots, live, Who, Valid, Good, Holds, Chain, slot_of, owner_of_slots, owner_of_who, InnerPlace, Vacant}
use Rattle.portgraph.specs.Meaning.{upd, drop_join, beyond, resize_model}
use Rattle.port_tables.specs.Entries.{meta_of}
use Rattle.portgraph.specs.Joins.{upd_elim, upd_same}
use Rattle.portgraph.specs.Resize.{resize_inside}
use Rattle.port_tables.specs.ResizeLinks.{first_slot, kept_outgoing, drop_links, inside_links}
use Rattle.portgraph.specs.LinkLaws.{Rep, NoneOf, Moved, side_place, not_of_side, shift_at, rep_fill_vacant, rep_extend, far_number_is_far_is}
use Rattle.portgraph.specs.GoodSlots.{block_within, block_of_one, free_block_apart, slot_in_range, slots_apart}
use Rattle.portgraph.specs.GoodLaws.{good_resize}
use Rattle.portgraph.specs.Chains.{chain_frame}
use Rattle.portgraph.specs.PlaceLaws.{idle_vacant, spare_vacant}
use Rattle.portgraph.specs.BlockHolds.{owner_of_other, place_in_block, at_block_outside}
use Rattle.portgraph.specs.DropHolds.{coming, going, same_live, Stays, Stay, elsewhere, stay, stays_or_new, drops, stays_rep, recount_nodes, recount_chain, recount_live, recount_ports, recount_links}
use Rattle.port_tables.specs.declared.direction.Direction.TheVariants.{Outgoing}
use Rattle.port_tables.specs.declared.node_entry.NodeMeta.{NodeMeta}
use Rattle.portgraph.specs.declared.portgraph.PortGraph.{PortGraph}

module _ {g : PortGraph} {M : Model} (good : Good M) (holds : Holds g M) (n : ℕ) (m : NodeMeta) (here : M.node n ≡ live m) (incoming outgoing : ℕ) (room : incoming + outgoing ≤ m.capacity) where
  abbrev resized : NodeMeta
  resized = meta_of (first_slot m) incoming outgoing m.capacity

  abbrev node' : ℕ → Slots
  node' = upd M.node n (live resized)

  abbrev left : InnerPlace → Far
  left = drop_join (beyond n incoming outgoing) M.join

  abbrev Staying : InnerPlace → Type 0
  Staying = Stays M.node node'

  good' : Good (resize_model M n m incoming outgoing)
  good' = good_resize good n m here incoming outgoing room

  -- the block lies within the table, and the old ports within the block
  ends : first_slot m + m.capacity ≤ port_slots
  ends = block_within good n m here

  ports : m.incoming + m.outgoing ≤ m.capacity
  ports = good.ports_in_block n m here

  staying : (y : InnerPlace) → Staying y → Stay n m resized y (slot_of M.node y) (slot_of node' y)
  staying = stay M.node n m resized here

  outside : (y : InnerPlace) → Staying y → (y.node ≡ n → ⊥) → Within (first_slot m) m.capacity (slot_of M.node y) → ⊥
  outside y v other w = other (place_in_block good n m y here v.0 w)

  -- The outgoing ports that stay move.

  abbrev moved_links : List ℕ
  moved_links = shift (drop_links g.port_link m incoming outgoing) (ltb incoming m.incoming) (first_slot m + m.incoming) (first_slot m + incoming) (kept_outgoing m outgoing)

  moves : Moved Staying (slot_of M.node) (slot_of node') left (first_slot m + incoming) (kept_outgoing m outgoing) (drop_links g.port_link m incoming outgoing) moved_links
  moves =
      let e = ends in
      shift_at (ltb incoming m.incoming) (kept_outgoing m outgoing) (side_place n Outgoing 0) (slot_of M.node) (slot_of node') (drop_links g.port_link m incoming outgoing)
      (first_slot m + m.incoming) (first_slot m + incoming)
      (stays_rep good holds n m here incoming outgoing (first_slot m) m.capacity good'.join_valid)
      (record { there = λ i l. (rw here (omega arith), rw (upd_same M.node n (live resized)) (omega arith)); numbered = λ i l. rw here (omega arith) })
      (λ t. let a : incoming < m.incoming = ltb-true _ _ t in omega arith)
      (λ t. let a : m.incoming ≤ incoming = ltb-false _ _ t in omega arith)
      (omega arith)
      (λ y v none. clear y v none (staying y v))
      (record { placed = λ i l. rw (upd_same M.node n (live resized)) (omega arith); others = λ y v none. same y none (staying y v) })
    where
      clear : (y : InnerPlace) → Staying y → NoneOf (side_place n Outgoing 0) (kept_outgoing m outgoing) y → Stay n m resized y (slot_of M.node y) (slot_of node' y)
          → first_slot m + incoming ≤ slot_of M.node y → slot_of M.node y < first_slot m + incoming + kept_outgoing m outgoing → ⊥
      clear y v none (elsewhere o e) a b = outside y v o (omega arith, omega arith)
      clear y v none (coming e q h h' k k') a b = omega arith
      clear y v none (going e q h h' k k') a b = not_of_side n Outgoing 0 (kept_outgoing m outgoing) y none e q (omega arith) (omega arith)

      same : (y : InnerPlace) → NoneOf (side_place n Outgoing 0) (kept_outgoing m outgoing) y → Stay n m resized y (slot_of M.node y) (slot_of node' y) → slot_of node' y ≡ slot_of M.node y
      same y none (elsewhere o e) = e
      same y none (coming e q h h' k k') = k' ∙ sym k
      same y none (going e q h h' k k') = absurd (not_of_side n Outgoing 0 (kept_outgoing m outgoing) y none e q (omega arith) (omega arith))

  -- Slots of new ports, and slots no longer used, hold no link.

  abbrev fill_in : List ℕ
  fill_in = fill_range moved_links (first_slot m + m.incoming) (incoming - m.incoming) 0

  abbrev fill_out : List ℕ
  fill_out = fill_range fill_in (first_slot m + incoming + m.outgoing) (outgoing - m.outgoing) 0

  abbrev fill_end : List ℕ
  fill_end = fill_range fill_out (first_slot m + (incoming + outgoing)) ((m.incoming + m.outgoing) - (incoming + outgoing)) 0

  -- no place that stays has a slot of such a range
  free : (i k : ℕ) → first_slot m ≤ i → (0 < k → i + k ≤ first_slot m + m.capacity)
      → ((p : ℕ) → p < m.incoming → p < incoming → i ≤ first_slot m + p → first_slot m + p < i + k → ⊥)
      → ((p : ℕ) → p < m.outgoing → p < outgoing → i ≤ first_slot m + (incoming + p) → first_slot m + (incoming + p) < i + k → ⊥)
      → (y : InnerPlace) → Staying y → i ≤ slot_of node' y → slot_of node' y < i + k → ⊥
  free i k low high inn out y v a b = go (staying y v)
    where
      go : Stay n m resized y (slot_of M.node y) (slot_of node' y) → ⊥
      go (elsewhere o e) = let h : i + k ≤ first_slot m + m.capacity = high (omega arith) in outside y v o (omega arith, omega arith)
      go (coming e q h h' f f') = inn y.pos h h' (omega arith) (omega arith)
      go (going e q h h' f f') = out y.pos h h' (omega arith) (omega arith)

  rep_in : Rep Staying (slot_of node') left fill_in
  rep_in =
      rep_fill_vacant moves.rep _ _ 0
      (free (first_slot m + m.incoming) (incoming - m.incoming) (omega arith) (λ z. omega arith) (λ p a b c d. omega arith) (λ p a b c d. omega arith))

  rep_out : Rep Staying (slot_of node') left fill_out
  rep_out =
      rep_fill_vacant rep_in _ _ 0
      (free (first_slot m + incoming + m.outgoing) (outgoing - m.outgoing) (omega arith) (λ z. omega arith) (λ p a b c d. omega arith) (λ p a b c d. omega arith))

  rep_end : Rep Staying (slot_of node') left fill_end
  rep_end =
      let h = ports in
      rep_fill_vacant rep_out _ _ 0
      (free (first_slot m + (incoming + outgoing)) ((m.incoming + m.outgoing) - (incoming + outgoing)) (omega arith) (λ z. omega arith) (λ p a b c d. omega arith) (λ p a b c d. omega arith))

  rep_after : Rep (Valid node') (slot_of node') left fill_end
  rep_after =
      let b = ends in
      rep_extend rep_end rep_end.long (λ x v. refl) (λ x v. v.1)
      (stays_or_new M.node n m resized here fill_end
      (λ p h k.
      at_fill_outside fill_out _ _ _ 0 (λ c d. omega arith)
      ∙ (at_fill_outside fill_in _ _ _ 0 (λ c d. omega arith) ∙ at_fill_in moved_links _ _ _ 0 moves.rep.long (omega arith) (omega arith) (omega arith)))
      (λ p h k. at_fill_outside fill_out _ _ _ 0 (λ c d. omega arith) ∙ at_fill_in fill_in _ _ _ 0 rep_in.long (omega arith) (omega arith) (omega arith)))
      (slot_in_range good') (slots_apart good')

  -- a slot without a port, beyond the old and the new ports, keeps its number
  keeps : (s : ℕ) → Vacant (Valid M.node) (slot_of M.node) s → (first_slot m ≤ s → s < first_slot m + (incoming + outgoing) → ⊥)
      → (first_slot m ≤ s → s < first_slot m + (m.incoming + m.outgoing) → ⊥) → at fill_end s ≡ at g.port_link s
  keeps s vacant new old =
      at_fill_outside fill_out _ _ s 0 (λ a b. old (omega arith) (omega arith))
      ∙ (at_fill_outside fill_in _ _ s 0 (λ a b. new (omega arith) (omega arith))
      ∙ (at_fill_outside moved_links _ _ s 0 (λ a b. new (omega arith) (omega arith))
      ∙ (moves.kept s (λ y v e. vacant y v.0 e) (λ a b. new (omega arith) (omega arith))
      ∙ (drops good holds n m here incoming outgoing).kept s vacant)))

  after_chain : (k : ℕ) → Chain fill_end (head_at g.port_free k) (M.free_blocks k)
  after_chain k =
      chain_frame g.port_link fill_end (head_at g.port_free k) (M.free_blocks k)
      (λ b i.
      let h = good.idle_ends k b i in
      let z : 0 < k = h.0 in
      let p = ports in
      let apart : Within (first_slot m) m.capacity b → ⊥ = λ w. free_block_apart good n m k b b here i w (omega arith, omega arith) in
      sym (keeps b (idle_vacant good holds k b b i (omega arith, omega arith)) (λ c d. apart (omega arith, omega arith)) (λ c d. apart (omega arith, omega arith))))
      (holds.block_chain k)

  after_spare : (k : ℕ) (l : NodeMeta) (s : ℕ) → node' k ≡ live l → first_slot l + (l.incoming + l.outgoing) ≤ s → s < first_slot l + l.capacity → at fill_end s ≡ 0
  after_spare k l s =
      upd_elim (λ v. v ≡ live l → first_slot l + (l.incoming + l.outgoing) ≤ s → s < first_slot l + l.capacity → at fill_end s ≡ 0) M.node n (live resized) k
      (λ e d. let same : resized ≡ l = cc in subst (λ (r : NodeMeta). first_slot r + (r.incoming + r.outgoing) ≤ s → s < first_slot r + r.capacity → at fill_end s ≡ 0) same own)
      (λ o e a b.
      let p = ports in
      let apart : Within (first_slot m) m.capacity s → ⊥ = λ w. o (block_of_one good k n l m s e here (omega arith, omega arith) w) in
      keeps s (spare_vacant good holds k l s e a b) (λ c d. apart (omega arith, omega arith)) (λ c d. apart (omega arith, omega arith)) ∙ holds.spare k l s e a b)
    where
      own : first_slot m + (incoming + outgoing) ≤ s → s < first_slot m + m.capacity → at fill_end s ≡ 0
      own a b = go (ltb s (first_slot m + (m.incoming + m.outgoing))) refl
        where
          go : (t : Bool) → ltb s (first_slot m + (m.incoming + m.outgoing)) ≡ t → at fill_end s ≡ 0
          go true t =
              let c : s < first_slot m + (m.incoming + m.outgoing) = ltb-true _ _ t in
              let d = ends in
              let e = ports in
              at_fill_in fill_out _ _ s 0 rep_out.long (omega arith) a (omega arith)
          go false t =
              let c : first_slot m + (m.incoming + m.outgoing) ≤ s = ltb-false _ _ t in
              keeps s (spare_vacant good holds n m s here c b) (λ d e. omega arith) (λ d e. omega arith) ∙ holds.spare n m s here c b

  -- Owners.

  after_owners : (s : ℕ) → at (own_block g.port_meta n resized) s ≡ owner_of_who node' (M.who s) s
  after_owners s = go (leb (first_slot m) s) (ltb s (first_slot m + m.capacity)) refl refl
    where
      away : (Within (first_slot m) m.capacity s → ⊥) → at (own_block g.port_meta n resized) s ≡ owner_of_who node' (M.who s) s
      away out =
          at_block_outside g.port_meta n resized s room out
          ∙ (holds.owners s
          ∙ sym (owner_of_other M.node n (live resized) (M.who s) s (λ h.
          let r = good.held_in s n h in
          out (subst (λ (l : NodeMeta). Within (first_slot l) l.capacity s) (same_live r.1 here) r.2))))

      go : (a b : Bool) → leb (first_slot m) s ≡ a → ltb s (first_slot m + m.capacity) ≡ b → at (own_block g.port_meta n resized) s ≡ owner_of_who node' (M.who s) s
      go false b p q = let h : s < first_slot m = leb-false _ _ p in away (λ w. let a = w.0 in omega arith)
      go true false p q = let h : first_slot m + m.capacity ≤ s = ltb-false _ _ q in away (λ w. let a = w.1 in omega arith)
      go true true p q =
          let a : first_slot m ≤ s = leb-true _ _ p in
          let b : s < first_slot m + m.capacity = ltb-true _ _ q in
          at_block_in g.port_meta n resized s holds.owners_long ends room a b
          ∙ sym (ap (λ (w : Who). owner_of_who node' w s) (good.held_by n m s here (a, b)) ∙ ap (λ (v : Slots). owner_of_slots n v s) (upd_same M.node n (live resized)))

  pub inside_holds : Holds (resize_inside g n m incoming outgoing) (resize_model M n m incoming outgoing)
  unfolding resize_inside inside_links
  inside_holds =
      record {
        nodes_long = length-set g.node_meta n _ ∙ holds.nodes_long;
        links_long = rep_after.long;
        owners_long = length_own_block g.port_meta n resized ∙ holds.owners_long;
        heads_long = holds.heads_long;
        node_len = holds.node_len;
        port_len = holds.port_len;
        nodes = recount_nodes good holds n m here incoming outgoing (first_slot m) m.capacity;
        node_head = holds.node_head;
        node_chain = recount_chain good holds n m here incoming outgoing (first_slot m) m.capacity;
        block_chain = after_chain;
        owners = after_owners;
        links = λ x v. rep_after.links x v ∙ sym (far_number_is_far_is node' (left x));
        spare = after_spare;
        node_count = recount_live good holds n m here incoming outgoing (first_slot m) m.capacity;
        port_count = recount_ports good holds n m here incoming outgoing (first_slot m) m.capacity;
        link_count = recount_links good holds n m here incoming outgoing (first_slot m) m.capacity;
      }
