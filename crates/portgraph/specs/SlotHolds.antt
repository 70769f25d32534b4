-- Adding and removing nodes, tables against model: which node slot is taken next, what the tables stand for after each call,
-- what each call answers, and that a well-formed graph stays so.
use Rattle.std.specs.Prelude.{◌≡◌, refl, Bool, true, false, cond, ◌⊎◌, eqb, leb, ltb, length, set, Some, None, Ok, Err}
use Rattle.std.proofs.Math.Path.{sym, ap}
use Rattle.std.proofs.Common.{◌∙◌, subst, inl, inr, length-set, eqb-true, eq-eqb, ltb-true, ltb-false, leb-true, le-leb}
use mathlib.Core.List.{List, [], ◌∷◌}
use Prim.Native.Nat.{ℕ, suc, ◌+◌, ◌-◌, ◌≤◌, ◌<◌}
use native.Mathlib.Omega.{arith}
use Rattle.std.proofs.Math.Dec.{eqb-suc-zero}
use Rattle.std.proofs.lemmas.Bool.{eqb-false, lt-leb}
use Rattle.port_tables.specs.Limits.{node_slots, port_slots, node_ports}
use Rattle.port_tables.specs.Lists.{Member, Once}
use Rattle.port_tables.specs.Entries.{free_slot_of, node_slot_of, next_of, set_prev, node#, port#, meta_of}
use Rattle.port_tables.specs.Tables.{at, fill_range, head_at, put_head, own_block, cut_range, cut_count, chain_block, Within}
use Rattle.portgraph.specs.TableLaws.{length_fill_range, length_own_block, length_chain_block, length_cut_range, at_fill_in, at_fill_outside, at_chain_first, at_chain_other, at_block_in}
use Rattle.portgraph.specs.Lookups.{entry_at}
use Rattle.portgraph.specs.Model.{Model, Far, nowhere, to, Slots, gone, live, held, idle, Valid, Good, Holds, Wf, Chain, NodeChain, slots_of_entry, slots_at, number_of_first, count_of, slot_of, owner_of_who, is_live, ports_of, out_place, InnerPlace}
use Rattle.portgraph.specs.Meaning.{upd, drop_join, at_node, first_or, rest, growth, next_slot, next_block, give_block, hand_over, add_model, remove_model}
use Rattle.portgraph.specs.Joins.{drop_here, joined_drop_outside, upd_elim, upd_same, upd_other}
use Rattle.portgraph.specs.Calls.{find_slot, rest_of, free_after, head_after, place_node, add_refused, add_found, add_node, free_node, remove_entry, remove_node, find_slot_under, add_node_under}
use Rattle.portgraph.specs.Sums.{all_links, one_link_less, links_after_recount}
use Rattle.portgraph.specs.Chains.{length_put_head, slots_at_set_same, slots_at_set_other, set_prev_keeps_slots, length_set_prev, node_chain_pop, node_chain_push}
use Rattle.portgraph.specs.LinkLaws.{Rep, rep_same, rep_weaken, rep_extend, rep_chain_vacant, far_number_is_far_is}
use Rattle.portgraph.specs.GoodSlots.{gone_not_live, node_below, block_within, block_of_one, free_block_apart, slot_in_block, slot_in_range, slots_apart, hand_elim}
use Rattle.portgraph.specs.GoodLaws.{good_add, good_remove, next_slot_gone}
use Rattle.portgraph.specs.PlaceLaws.{idle_vacant, spare_vacant, rep_of}
use Rattle.portgraph.specs.LinkHolds.{node_in_range}
use Rattle.portgraph.specs.BlockHolds.{chain_head, grown_by, block_found_lem, at_block_outside, taken_chains, given_chains, slot_of_other, valid_other, other_valid, owner_of_other, total_after, place_in_block, block_cleared}
use Rattle.port_tables.specs.declared.direction.Direction.TheVariants.{Outgoing}
use Rattle.port_tables.specs.declared.node_entry.NodeMeta.{NodeMeta}
use Rattle.port_tables.specs.declared.node_entry.NodeSlot.{NodeSlot}
use Rattle.port_tables.specs.declared.node_entry.NodeEntry.{NodeEntry}
use Rattle.port_tables.specs.declared.node_entry.NodeEntry.TheVariants.{Free, Node}
use Rattle.portgraph.specs.declared.portgraph.PortGraph.{PortGraph}
use Rattle.portgraph.specs.declared.alloc.NodeAdded.{NodeAdded}
use Rattle.portgraph.specs.declared.alloc.NodeRemoved.{NodeRemoved}
use Rattle.portgraph.specs.declared.alloc.AddError.TheVariants as add_error

-- The node slot that is taken next.

below_is_one_more : (a b : ℕ) → ltb a b ≡ leb (a + 1) b
below_is_one_more a b = go (ltb a b) refl
  where
    go : (t : Bool) → ltb a b ≡ t → t ≡ leb (a + 1) b
    go true e = let h : a < b = ltb-true a b e in sym (le-leb (a + 1) b (omega arith))
    go false e = let h : b ≤ a = ltb-false a b e in sym (lt-leb (a + 1) b (omega arith))

-- the slot freed last, else the next at the end; refused exactly where the table would grow past its limit
pub slot_found : {g : PortGraph} {M : Model} → Good M → Holds g M
    → find_slot g.node_free g.node_len ≡ cond (leb (M.node_len + growth 1 M.free_nodes) node_slots) (Some (next_slot M)) None
unfolding find_slot_under
slot_found {g} {M} good h = rw (h.node_head, h.node_len) (go M.free_nodes)
  where
    go : (l : List ℕ) → cond (eqb (number_of_first l) 0) (cond (ltb M.node_len node_slots) (Some M.node_len) None) (Some (number_of_first l - 1))
        ≡ cond (leb (M.node_len + growth 1 l) node_slots) (Some (first_or M.node_len l)) None
    go [] = rw (below_is_one_more M.node_len node_slots)
    go (n ∷ l) =
        let d : suc n - 1 ≡ n = omega arith in
        let f : M.node_len ≤ node_slots = good.nodes_fit in
        let k : M.node_len + 0 ≤ node_slots = omega arith in
        rw (eqb-suc-zero n, d, le-leb (M.node_len + 0) node_slots k)

next_slot_below : (len : ℕ) (l : List ℕ) → ((n : ℕ) → Member n l → n < len) → len ≤ node_slots → len + growth 1 l ≤ node_slots → first_or len l < node_slots
next_slot_below len [] used fits room = omega arith
next_slot_below len (n ∷ l) used fits room = let u : n < len = used n (inl refl) in omega arith

-- The node table, where one slot is set.

pub nodes_after_set : (nodes : List NodeSlot) (node : ℕ → Slots) (n : ℕ) (s : NodeSlot) → n < length nodes → ((i : ℕ) → slots_at nodes i ≡ node i)
    → (i : ℕ) → slots_at (set nodes n s) i ≡ upd node n (slots_of_entry s.entry) i
nodes_after_set nodes node n s below same i =
    upd_elim (λ v. slots_at (set nodes n s) i ≡ v) node n (slots_of_entry s.entry) i
    (λ q. ap (slots_at (set nodes n s)) q ∙ slots_at_set_same nodes n s below)
    (λ other. slots_at_set_other nodes n i s other ∙ same i)

nodes_as_long : (nodes : List NodeSlot) (c p n : ℕ) (s : NodeSlot) → length (set (set_prev nodes c p) n s) ≡ length nodes
nodes_as_long nodes c p n s = length-set (set_prev nodes c p) n s ∙ length_set_prev nodes c p

-- the first of the free entries is taken, if there is one
node_chain_rest : (nodes : List NodeSlot) (len : ℕ) (s : NodeSlot) (l : List ℕ) → length nodes ≡ node_slots → ((k : ℕ) → Member k l → k < node_slots)
    → Once l → NodeChain nodes 0 l → NodeChain (set (set_prev nodes (number_of_first (rest l)) 0) (first_or len l) s) 0 (rest l)
node_chain_rest nodes len s [] long below once c = tt
node_chain_rest nodes len s (n ∷ l) long below once c = node_chain_pop nodes n s l long (λ k i. below k (inr i)) once c

module _ {g : PortGraph} {M : Model} (good : Good M) (h : Holds g M) where
  free_below : (k : ℕ) → Member k M.free_nodes → k < node_slots
  free_below k i =
      let u : k < M.node_len = good.free_used k i in
      let f : M.node_len ≤ node_slots = good.nodes_fit in
      omega arith

  free_after_lem : free_after g ≡ number_of_first (rest M.free_nodes)
  unfolding rest_of
  free_after_lem = go M.free_nodes h.node_head h.node_chain
    where
      go : (l : List ℕ) → g.node_free ≡ number_of_first l → NodeChain g.node_meta 0 l → free_after g ≡ number_of_first (rest l)
      go [] e c = rw e
      go (n ∷ l) e c =
          let d : suc n - 1 ≡ n = omega arith in
          rw (e, eqb-suc-zero n, d) (ap next_of c.0)

-- Adding a node.
module _ {g : PortGraph} {M : Model} (good : Good M) (h : Holds g M) (incoming outgoing : ℕ) (small : incoming + outgoing ≤ node_ports)
    (node_room : M.node_len + growth 1 M.free_nodes ≤ node_slots)
    (port_room : M.port_len + growth (incoming + outgoing) (M.free_blocks (incoming + outgoing)) ≤ port_slots) where
  abbrev size : ℕ
  size = incoming + outgoing

  abbrev slot : ℕ
  slot = next_slot M

  abbrev first : ℕ
  first = next_block M size

  abbrev new : NodeMeta
  new = meta_of first incoming outgoing size

  abbrev with_new : ℕ → Slots
  with_new = upd M.node slot (live new)

  good_after : Good (add_model M incoming outgoing)
  good_after = good_add good incoming outgoing small node_room port_room

  new_here : with_new slot ≡ live new
  new_here = upd_same M.node slot (live new)

  slot_below : slot < node_slots
  slot_below = next_slot_below M.node_len M.free_nodes good.free_used good.nodes_fit node_room

  block_ends : first + size ≤ port_slots
  block_ends =
      let e : first + size ≤ M.port_len + growth size (M.free_blocks size) = good_after.block_ends slot new new_here in
      omega arith

  -- no port was there before
  not_here : (x : InnerPlace) → Valid M.node x → x.node ≡ slot → ⊥
  not_here x v q = gone_not_live (ap M.node q ∙ next_slot_gone good) (slot_in_block good x v).1

  still_valid : (x : InnerPlace) → Valid M.node x → Valid with_new x
  still_valid x v = other_valid M.node slot (live new) x (not_here x v) v

  same_slot : (x : InnerPlace) → Valid M.node x → slot_of M.node x ≡ slot_of with_new x
  same_slot x v = sym (slot_of_other M.node slot (live new) x (not_here x v))

  -- the block has the slots of the new node's ports, and of no other
  outside : (x : InnerPlace) → Valid M.node x → Within first size (slot_of with_new x) → ⊥
  outside x v w = not_here x v (place_in_block good_after slot new x new_here (still_valid x v) w)

  inside : (x : InnerPlace) → Valid with_new x → x.node ≡ slot → Within first size (slot_of with_new x)
  inside x v q =
      let r = slot_in_block good_after x v in
      let n : with_new x.node ≡ live new = ap with_new q ∙ new_here in
      let k : live r.0 ≡ live new = sym r.1 ∙ n in
      let m : r.0 ≡ new = cc in
      subst (λ (b : NodeMeta). Within b.first_port.0 b.capacity (slot_of with_new x)) m r.2

  rep_added : Rep (Valid with_new) (slot_of with_new) M.join (fill_range g.port_link first size 0)
  rep_added =
      rep_extend (rep_same (rep_of good h) (λ z. refl) same_slot)
      (length_fill_range g.port_link first size 0 ∙ h.links_long)
      (λ x v. at_fill_outside g.port_link first size (slot_of with_new x) 0 (λ a b. outside x v (a, b)))
      still_valid
      (λ x v. go x v (eqb x.node slot) refl)
      (slot_in_range good_after)
      (slots_apart good_after)
    where
      go : (x : InnerPlace) → Valid with_new x → (b : Bool) → eqb x.node slot ≡ b
          → Valid M.node x ⊎ ((Valid M.node x → ⊥) × (at (fill_range g.port_link first size 0) (slot_of with_new x) ≡ 0))
      go x v true e =
          let q : x.node ≡ slot = eqb-true x.node slot e in
          let w = inside x v q in
          inr ((λ u. not_here x u q), at_fill_in g.port_link first size (slot_of with_new x) 0 h.links_long block_ends w.0 w.1)
      go x v false e = inl (valid_other M.node slot (live new) x (eqb-false x.node slot e) v)

  nodes_added : (i : ℕ) → slots_at (set (set_prev g.node_meta (free_after g) 0) slot (node_slot_of new)) i ≡ with_new i
  nodes_added =
      nodes_after_set (set_prev g.node_meta (free_after g) 0) M.node slot (node_slot_of new)
      (let a = slot_below in let b = length_set_prev g.node_meta (free_after g) 0 in let c = h.nodes_long in omega arith)
      (λ i. set_prev_keeps_slots g.node_meta (free_after g) 0 i ∙ h.nodes i)

  node_chain_added : NodeChain (set (set_prev g.node_meta (free_after g) 0) slot (node_slot_of new)) 0 (rest M.free_nodes)
  node_chain_added =
      rw (free_after_lem good h)
      (node_chain_rest g.node_meta M.node_len (node_slot_of new) M.free_nodes h.nodes_long (free_below good h) good.free_once h.node_chain)

  block_chain_added : (k : ℕ)
      → Chain (fill_range g.port_link first size 0) (head_at (put_head g.port_free size (head_after g size)) k) (upd M.free_blocks size (rest (M.free_blocks size)) k)
  block_chain_added =
      taken_chains g.port_link (fill_range g.port_link first size 0) g.port_free M.free_blocks size h.heads_long small h.block_chain
      (λ b i. let z : 0 < 0 = (good.idle_ends 0 b i).0 in omega arith)
      (λ k b i.
      let z : 0 < k = (good_after.idle_ends k b i).0 in
      sym (at_fill_outside g.port_link first size b 0 (λ p q. free_block_apart good_after slot new k b b new_here i (p, q) (omega arith, omega arith))))

  owners_added : (s : ℕ) → at (own_block g.port_meta slot new) s ≡ owner_of_who with_new (hand_over M.who first size (held slot) s) s
  owners_added s =
      hand_elim (λ w. at (own_block g.port_meta slot new) s ≡ owner_of_who with_new w s) M.who first size (held slot) s
      (λ w. at_block_in g.port_meta slot new s h.owners_long block_ends (omega arith) w.0 w.1 ∙ rw new_here)
      (λ away. at_block_outside g.port_meta slot new s (omega arith) away ∙ (h.owners s ∙ sym (owner_of_other M.node slot (live new) (M.who s) s unheld)))
    where
      unheld : M.who s ≡ held slot → ⊥
      unheld e = gone_not_live (next_slot_gone good) (good.held_in s slot e).1

  spare_added : (n : ℕ) (m : NodeMeta) (s : ℕ) → with_new n ≡ live m → m.first_port.0 + (m.incoming + m.outgoing) ≤ s
      → s < m.first_port.0 + m.capacity → at (fill_range g.port_link first size 0) s ≡ 0
  spare_added n m s e low high =
      upd_elim (λ v. v ≡ live m → at (fill_range g.port_link first size 0) s ≡ 0) M.node slot (live new) n
      (λ q d.
      let k : new ≡ m = cc in
      let f : m.incoming + m.outgoing ≡ m.capacity = subst (λ (b : NodeMeta). b.incoming + b.outgoing ≡ b.capacity) k refl in
      absurd (omega arith))
      (λ other d.
      at_fill_outside g.port_link first size s 0 (λ p q. other (block_of_one good_after n slot m new s e new_here (omega arith, omega arith) (p, q)))
      ∙ h.spare n m s d low high)
      e

  links_added : g.link_count ≡ all_links with_new M.join
  links_added =
      h.link_count
      ∙ sym
      (links_after_recount M.node with_new M.join slot
      (λ k other. ap (λ (s : Slots). count_of s Outgoing) (sym (upd_other M.node slot (live new) k other)))
      (λ i _. none i (M.join (out_place slot i)) refl))
    where
      none : (i : ℕ) (w : Far) → M.join (out_place slot i) ≡ w → w ≡ nowhere
      none i nowhere e = refl
      none i (to y) e = absurd (not_here (out_place slot i) (good.join_valid (out_place slot i) y e) refl)

  pub place_holds : Holds (place_node g (next_slot M) (next_block M (incoming + outgoing)) incoming outgoing) (add_model M incoming outgoing)
  unfolding place_node
  place_holds =
      let gone_before : M.node slot ≡ gone = next_slot_gone good in
      record {
        nodes_long = nodes_as_long g.node_meta (free_after g) 0 slot (node_slot_of new) ∙ h.nodes_long;
        links_long = length_fill_range g.port_link first size 0 ∙ h.links_long;
        owners_long = length_own_block g.port_meta slot new ∙ h.owners_long;
        heads_long = length_put_head g.port_free size (head_after g size) ∙ h.heads_long;
        node_len = grown_by g.node_free g.node_len 1 M.free_nodes h.node_head ∙ ap (λ (k : ℕ). k + growth 1 M.free_nodes) h.node_len;
        port_len =
            grown_by (head_at g.port_free size) g.port_len size (M.free_blocks size) (chain_head g.port_link _ (M.free_blocks size) (h.block_chain size))
            ∙ ap (λ (k : ℕ). k + growth size (M.free_blocks size)) h.port_len;
        nodes = nodes_added;
        node_head = free_after_lem good h;
        node_chain = node_chain_added;
        block_chain = block_chain_added;
        owners = owners_added;
        links = λ x v. rep_added.links x v ∙ sym (far_number_is_far_is with_new (M.join x));
        spare = spare_added;
        node_count =
            let c = total_after M.node slot (live new) is_live slot_below in
            let k : is_live (M.node slot) ≡ 0 = ap is_live gone_before in
            let e = h.node_count in
            omega arith;
        port_count =
            let c = total_after M.node slot (live new) ports_of slot_below in
            let k : ports_of (M.node slot) ≡ 0 = ap ports_of gone_before in
            let e = h.port_count in
            omega arith;
        link_count = links_added;
      }

-- Removing a node.
module _ {g : PortGraph} {M : Model} (good : Good M) (h : Holds g M) (n : ℕ) (m : NodeMeta) (here : M.node n ≡ live m) where
  abbrev start : ℕ
  start = m.first_port.0

  abbrev without : ℕ → Slots
  without = upd M.node n gone

  abbrev left : InnerPlace → Far
  left = drop_join (at_node n) M.join

  abbrev cleared : List ℕ
  cleared = cut_range g.port_link start m.capacity

  abbrev links_after : List ℕ
  links_after = chain_block cleared start m.capacity (head_at g.port_free m.capacity)

  start_below : 0 < m.capacity → start < port_slots
  start_below z = let e = block_within good n m here in omega arith

  -- what is left is of other nodes
  left_other : (i : ℕ) (k : NodeMeta) → without i ≡ live k → (i ≡ n → ⊥) × (M.node i ≡ live k)
  left_other i k =
      upd_elim (λ v. v ≡ live k → (i ≡ n → ⊥) × (M.node i ≡ live k)) M.node n gone i
      (λ q e. absurd (gone_not_live refl e)) (λ other e. (other, e))

  left_valid : (x : InnerPlace) → Valid without x → (x.node ≡ n → ⊥) × Valid M.node x
  left_valid x =
      upd_elim (λ s. x.pos < count_of s x.side → (x.node ≡ n → ⊥) × Valid M.node x) M.node n gone x.node
      (λ q v. absurd (omega arith)) (λ other v. (other, v))

  rep_left : Rep (Valid without) (slot_of without) left links_after
  rep_left =
      rep_chain_vacant
      (rep_same
      (rep_weaken (block_cleared good h n m here).rep (λ x v. (left_valid x v).1)
      (joined_drop_outside (at_node n) (rep_of good h).joined (λ x v e. other_valid M.node n gone x (eqb-false x.node n e) v)))
      (λ z. refl) (λ x v. same x v))
      start m.capacity (head_at g.port_free m.capacity)
      (λ z x v e.
      let r = left_valid x v in
      let s = same x v in
      r.0 (place_in_block good n m x here r.1 (omega arith, omega arith)))
    where
      same : (x : InnerPlace) → Valid without x → slot_of M.node x ≡ slot_of without x
      same x v = sym (slot_of_other M.node n gone x (left_valid x v).0)

  block_chain_left : (k : ℕ) → Chain links_after (head_at (put_head g.port_free m.capacity (start + 1)) k) (give_block M.free_blocks start m.capacity k)
  block_chain_left =
      given_chains g.port_link links_after g.port_free M.free_blocks m.capacity h.heads_long (good.block_small n m here) h.block_chain start
      (λ z. at_chain_first cleared start m.capacity _ (length_cut_range g.port_link start m.capacity ∙ h.links_long) (start_below z) z)
      (λ k b i.
      let z : 0 < k = (good.idle_ends k b i).0 in
      sym
      (at_chain_other cleared start m.capacity (head_at g.port_free m.capacity) b
      (λ p q. free_block_apart good n m k b b here i (omega arith, omega arith) (omega arith, omega arith))
      ∙ (block_cleared good h n m here).kept b (idle_vacant good h k b b i (omega arith, omega arith))))

  owners_left : (s : ℕ) → at (fill_range g.port_meta start m.capacity 0) s ≡ owner_of_who without (hand_over M.who start m.capacity (idle start m.capacity) s) s
  owners_left s =
      hand_elim (λ w. at (fill_range g.port_meta start m.capacity 0) s ≡ owner_of_who without w s) M.who start m.capacity (idle start m.capacity) s
      (λ w. at_fill_in g.port_meta start m.capacity s 0 h.owners_long (block_within good n m here) w.0 w.1)
      (λ away.
      at_fill_outside g.port_meta start m.capacity s 0 (λ a b. away (a, b))
      ∙ (h.owners s ∙ sym (owner_of_other M.node n gone (M.who s) s (λ e. away (in_block e)))))
    where
      in_block : M.who s ≡ held n → Within start m.capacity s
      in_block e =
          let r = good.held_in s n e in
          let k : live r.0 ≡ live m = sym r.1 ∙ here in
          let q : r.0 ≡ m = cc in
          subst (λ (b : NodeMeta). Within b.first_port.0 b.capacity s) q r.2

  spare_left : (i : ℕ) (k : NodeMeta) (s : ℕ) → without i ≡ live k → k.first_port.0 + (k.incoming + k.outgoing) ≤ s
      → s < k.first_port.0 + k.capacity → at links_after s ≡ 0
  spare_left i k s e low high =
      let r = left_other i k e in
      at_chain_other cleared start m.capacity (head_at g.port_free m.capacity) s
      (λ z q. r.0 (block_of_one good i n k m s r.1 here (omega arith, omega arith) (omega arith, omega arith)))
      ∙ ((block_cleared good h n m here).kept s (spare_vacant good h i k s r.1 low high) ∙ h.spare i k s r.1 low high)

  node_chain_left : NodeChain (set (set_prev g.node_meta g.node_free (n + 1)) n (free_slot_of 0 g.node_free)) 0 (n ∷ M.free_nodes)
  node_chain_left =
      let one : n + 1 ≡ suc n = omega arith in
      subst (λ (x : ℕ). NodeChain (set (set_prev g.node_meta x (n + 1)) n (free_slot_of 0 x)) 0 (n ∷ M.free_nodes)) (sym h.node_head)
      (subst (λ (x : ℕ). NodeChain (set (set_prev g.node_meta (number_of_first M.free_nodes) x) n (free_slot_of 0 (number_of_first M.free_nodes))) 0 (n ∷ M.free_nodes)) (sym one)
      (node_chain_push g.node_meta n M.free_nodes h.nodes_long (node_below good n m here) (free_below good h) good.free_once
      (λ i. gone_not_live (good.free_gone n i) here) h.node_chain))

  links_left : g.link_count - cut_count g.port_link start m.capacity ≡ all_links without left
  links_left =
      let c : cut_count g.port_link start m.capacity + all_links M.node left ≡ all_links M.node M.join =
      (block_cleared good h n m here).count (all_links M.node) (λ K j x v. one_link_less M.node K (node_in_range good h) j x) in
      let e : g.link_count ≡ all_links M.node M.join = h.link_count in
      let r : all_links without left ≡ all_links M.node left =
      links_after_recount M.node without left n
      (λ k other. ap (λ (s : Slots). count_of s Outgoing) (sym (upd_other M.node n gone k other)))
      (λ i _. drop_here (at_node n) M.join (out_place n i) (eq-eqb n n refl)) in
      omega arith

  pub free_holds : Holds (free_node g n m) (remove_model M n m)
  unfolding free_node
  free_holds =
      record {
        nodes_long = nodes_as_long g.node_meta g.node_free (n + 1) n (free_slot_of 0 g.node_free) ∙ h.nodes_long;
        links_long = length_chain_block cleared start m.capacity _ ∙ (length_cut_range g.port_link start m.capacity ∙ h.links_long);
        owners_long = length_fill_range g.port_meta start m.capacity 0 ∙ h.owners_long;
        heads_long = length_put_head g.port_free m.capacity (start + 1) ∙ h.heads_long;
        node_len = h.node_len;
        port_len = h.port_len;
        nodes =
            nodes_after_set (set_prev g.node_meta g.node_free (n + 1)) M.node n (free_slot_of 0 g.node_free)
            (let a = node_below good n m here in let b = length_set_prev g.node_meta g.node_free (n + 1) in let c = h.nodes_long in omega arith)
            (λ i. set_prev_keeps_slots g.node_meta g.node_free (n + 1) i ∙ h.nodes i);
        node_head = omega arith;
        node_chain = node_chain_left;
        block_chain = block_chain_left;
        owners = owners_left;
        links = λ x v. rep_left.links x v ∙ sym (far_number_is_far_is without (left x));
        spare = spare_left;
        node_count =
            let c = total_after M.node n gone is_live (node_below good n m here) in
            let k : is_live (M.node n) ≡ 1 = ap is_live here in
            let e = h.node_count in
            omega arith;
        port_count =
            let c = total_after M.node n gone ports_of (node_below good n m here) in
            let k : ports_of (M.node n) ≡ m.incoming + m.outgoing = ap ports_of here in
            let e = h.port_count in
            omega arith;
        link_count = links_left;
      }

-- The calls.

-- whether the node table, and the port tables, have room for the slot or block that is taken next
abbrev pub slot_room : Model → Bool
slot_room M = leb (M.node_len + growth 1 M.free_nodes) node_slots

abbrev pub block_room : Model → ℕ → Bool
block_room M size = leb (M.port_len + growth size (M.free_blocks size)) port_slots

-- a node and its block, where the ports are few enough and there is room for both; else the graph stays as it is
abbrev pub add_where : PortGraph → Model → ℕ → ℕ → Bool → Bool → Bool → NodeAdded
add_where g M incoming outgoing few slot block =
    cond few
    (cond slot
    (cond block
    (record {
      graph = place_node g (next_slot M) (next_block M (incoming + outgoing)) incoming outgoing;
      answer = Ok (node# (next_slot M), port# (next_block M (incoming + outgoing)));
    })
    (add_refused g (Err add_error.NoRoom)))
    (add_refused g (Err add_error.NoRoom)))
    (add_refused g (Err add_error.TooManyPorts))

pub add_law : {g : PortGraph} {M : Model} → Good M → Holds g M → (incoming outgoing : ℕ)
    → add_node g incoming outgoing ≡ add_where g M incoming outgoing (leb (incoming + outgoing) node_ports) (slot_room M) (block_room M (incoming + outgoing))
unfolding add_node_under
add_law {g} {M} good h incoming outgoing =
    rw (slot_found good h, block_found_lem good h (incoming + outgoing))
    (go (leb (incoming + outgoing) node_ports) (slot_room M) (block_room M (incoming + outgoing)))
  where
    go : (a b c : Bool)
        → cond a (add_found g incoming outgoing (cond b (Some (next_slot M)) None) (cond c (Some (next_block M (incoming + outgoing))) None))
        (add_refused g (Err add_error.TooManyPorts))
        ≡ add_where g M incoming outgoing a b c
    go true true true = refl
    go true true false = refl
    go true false c = refl
    go false b c = refl

abbrev pub remove_slots : PortGraph → ℕ → Slots → NodeRemoved
remove_slots g n gone = record { graph = g; answer = Err (record {}) }
remove_slots g n (live m) = record { graph = free_node g n m; answer = Ok tt }

-- a live node is removed; without one the graph stays as it is
pub remove_law : {g : PortGraph} {M : Model} → Holds g M → (n : ℕ) → remove_node g n ≡ remove_slots g n (M.node n)
unfolding remove_node
remove_law {g} {M} h n = rw (← h.nodes n) (go (entry_at g n))
  where
    go : (e : NodeEntry) → remove_entry g n e ≡ remove_slots g n (slots_of_entry e)
    go (Free f) = refl
    go (Node m) = refl

pub wf_add : (g : PortGraph) (incoming outgoing : ℕ) → Wf g → Wf (add_node g incoming outgoing).graph
wf_add g incoming outgoing w =
    rw (add_law w.good w.holds incoming outgoing)
    (go (leb (incoming + outgoing) node_ports) refl (slot_room w.model) refl (block_room w.model (incoming + outgoing)) refl)
  where
    go : (a : Bool) → leb (incoming + outgoing) node_ports ≡ a → (b : Bool) → slot_room w.model ≡ b → (c : Bool) → block_room w.model (incoming + outgoing) ≡ c
        → Wf (add_where g w.model incoming outgoing a b c).graph
    go true p true q true r =
        let few = leb-true _ _ p in
        let slot = leb-true _ _ q in
        let block = leb-true _ _ r in
        record {
          model = add_model w.model incoming outgoing;
          good = good_add w.good incoming outgoing few slot block;
          holds = place_holds w.good w.holds incoming outgoing few slot block;
        }
    go true p true q false r = w
    go true p false q c r = w
    go false p b q c r = w

pub wf_remove : (g : PortGraph) (n : ℕ) → Wf g → Wf (remove_node g n).graph
wf_remove g n w = rw (remove_law w.holds n) (go (w.model.node n) refl)
  where
    go : (s : Slots) → w.model.node n ≡ s → Wf (remove_slots g n s).graph
    go gone e = w
    go (live m) e =
        record {
          model = remove_model w.model n m;
          good = good_remove w.good n m e;
          holds = free_holds w.good w.holds n m e;
        }
