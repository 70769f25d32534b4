-- Blocks of port slots, tables against model: which block is taken next, the lists of free blocks where one is taken or given back,
-- the owners and places of the other nodes, and the cut of all links of a node's block.
use Rattle.std.specs.Prelude.{◌≡◌, refl, Bool, true, false, cond, List, [], ◌∷◌, ℕ, suc, ◌+◌, ◌-◌, ◌≤◌, ◌<◌, eqb, leb, ltb, length, Some, None}
use Rattle.std.proofs.Common.{sym, ◌∙◌, ap, subst, inl, arith, eqb-true, eq-eqb, ne_eqb, le-leb}
use Rattle.std.proofs.Math.Dec.{eqb-suc-zero}
use Rattle.std.proofs.lemmas.Bool.{eqb-false}
use Rattle.port_tables.specs.Limits.{node_slots, port_slots, node_ports, free_lists}
use Rattle.port_tables.specs.Lists.{Member}
use Rattle.port_tables.specs.Tables.{at, head_at, put_head, own_block, cut_range, cut_count, Within}
use Rattle.port_tables.specs.TableSteps.{put_head_nothing}
use Rattle.portgraph.specs.TableLaws.{at_fill_outside}
use Rattle.portgraph.specs.Model.{Model, Slots, live, Who, held, idle, unused, Valid, Good, Holds, Chain, total, count_of, first_of, side_start, slot_of, number_of_first, owner_of_who, InnerPlace}
use Rattle.portgraph.specs.Meaning.{upd, drop_join, at_node, first_or, rest, growth, next_block, give_block}
use Rattle.portgraph.specs.Joins.{upd_elim, upd_same, upd_other}
use Rattle.portgraph.specs.Calls.{find_block, rest_of, grown, find_block_under}
use Rattle.portgraph.specs.Sums.{total_one}
use Rattle.portgraph.specs.Chains.{chain_frame, chain_push, head_at_put_head_same, head_at_put_head_other}
use Rattle.portgraph.specs.LinkLaws.{Rep, Cleared, cut_range_at, cut_range_none, cut_range_parts, block_place, block_run, not_of_block}
use Rattle.portgraph.specs.GoodSlots.{block_of_one, slot_in_block}
use Rattle.portgraph.specs.PlaceLaws.{spare_vacant, rep_of}
use Rattle.port_tables.specs.declared.direction.Direction.TheVariants.{Incoming, Outgoing}
use Rattle.port_tables.specs.declared.node_entry.NodeMeta.{NodeMeta}
use Rattle.portgraph.specs.declared.portgraph.PortGraph.{PortGraph}

-- Taking from a list of free ones.

pub chain_head : (t : List ℕ) (h : ℕ) (l : List ℕ) → Chain t h l → h ≡ number_of_first l
chain_head t h [] c = c
chain_head t h (b ∷ l) c = c.0

chain_rest : (t : List ℕ) (h : ℕ) (l : List ℕ) → Chain t h l → Chain t (rest_of h (at t (h - 1))) (rest l)
unfolding rest_of
chain_rest t h [] c = rw c
chain_rest t h (b ∷ l) c =
    let d : suc b - 1 ≡ b = omega arith in
    rw (c.0, eqb-suc-zero b, d) c.1

pub grown_by : (h len size : ℕ) (l : List ℕ) → h ≡ number_of_first l → grown h len size ≡ len + growth size l
unfolding grown
grown_by h len size [] e = rw e
grown_by h len size (b ∷ l) e = rw (e, eqb-suc-zero b) (omega arith)

-- the block of this size freed last, else the end; refused exactly where the tables would grow past their limit
pub block_found_lem : {g : PortGraph} {M : Model} → Good M → Holds g M → (size : ℕ)
    → find_block g.port_free g.port_len size ≡ cond (leb (M.port_len + growth size (M.free_blocks size)) port_slots) (Some (next_block M size)) None
unfolding find_block_under
block_found_lem {g} {M} good h size = rw h.port_len (go (eqb size 0) refl (M.free_blocks size) (h.block_chain size))
  where
    fits : size ≡ 0 → (l : List ℕ) → M.port_len + growth size l ≤ port_slots
    fits e [] = let f : M.port_len ≤ port_slots = good.ports_fit in omega arith
    fits e (b ∷ l) = let f : M.port_len ≤ port_slots = good.ports_fit in omega arith

    go : (z : Bool) → eqb size 0 ≡ z → (l : List ℕ) → Chain g.port_link (head_at g.port_free size) l
        → cond z (Some 0)
        (cond (eqb (head_at g.port_free size) 0) (cond (leb (M.port_len + size) port_slots) (Some M.port_len) None)
        (Some (head_at g.port_free size - 1)))
        ≡ cond (leb (M.port_len + growth size l) port_slots) (Some (cond z 0 (first_or M.port_len l))) None
    go true e l c = rw (le-leb (M.port_len + growth size l) port_slots (fits (eqb-true size 0 e) l))
    go false e [] c = rw c
    go false e (b ∷ l) c =
        let d : suc b - 1 ≡ b = omega arith in
        let f : M.port_len ≤ port_slots = good.ports_fit in
        let k : M.port_len + 0 ≤ port_slots = omega arith in
        rw (c.0, eqb-suc-zero b, d, le-leb (M.port_len + 0) port_slots k)

-- the first free block of a size after one is taken
abbrev head_rest : List ℕ → List ℕ → ℕ → ℕ
head_rest t heads size = rest_of (head_at heads size) (at t (head_at heads size - 1))

-- The lists of free blocks, where u holds at their first slots what t holds.
module _ (t u heads : List ℕ) (blocks : ℕ → List ℕ) (size : ℕ) (long : length heads ≡ free_lists) (small : size ≤ node_ports)
    (chains : (k : ℕ) → Chain t (head_at heads k) (blocks k)) where
  -- the first block of a size is taken
  pub taken_chains : ((b : ℕ) → Member b (blocks 0) → ⊥) → ((k b : ℕ) → Member b (upd blocks size (rest (blocks size)) k) → at t b ≡ at u b) → (k : ℕ)
      → Chain u (head_at (put_head heads size (head_rest t heads size)) k) (upd blocks size (rest (blocks size)) k)
  taken_chains none same k =
      chain_frame t u (head_at (put_head heads size (head_rest t heads size)) k) (upd blocks size (rest (blocks size)) k) (same k)
      (upd_elim (λ l. Chain t (head_at (put_head heads size (head_rest t heads size)) k) l) blocks size (rest (blocks size)) k
      (λ q. subst (λ (j : ℕ). Chain t (head_at (put_head heads size (head_rest t heads size)) j) (rest (blocks size))) (sym q) (go (eqb size 0) refl))
      (λ q. rw (head_at_put_head_other heads size k (head_rest t heads size) q) (chains k)))
    where
      empty : size ≡ 0 → (l : List ℕ) → blocks size ≡ l → Chain t (head_at heads size) l → Chain t (head_at heads size) (rest l)
      empty z [] e c = c
      empty z (b ∷ l) e c = absurd (none b (subst (Member b) (sym e ∙ ap blocks z) (inl refl)))

      go : (z : Bool) → eqb size 0 ≡ z → Chain t (head_at (put_head heads size (head_rest t heads size)) size) (rest (blocks size))
      go true e =
          let z : size ≡ 0 = eqb-true size 0 e in
          rw (← put_head_nothing heads size (head_rest t heads size) (omega arith)) (empty z (blocks size) refl (chains size))
      go false e =
          let z : size ≡ 0 → ⊥ = eqb-false size 0 e in
          rw (head_at_put_head_same heads size (head_rest t heads size) long (omega arith) small) (chain_rest t (head_at heads size) (blocks size) (chains size))

  -- a block is given back: its first slot holds what was first before
  pub given_chains : (first : ℕ) → (0 < size → at u first ≡ head_at heads size) → ((k b : ℕ) → Member b (blocks k) → at t b ≡ at u b) → (k : ℕ)
      → Chain u (head_at (put_head heads size (first + 1)) k) (give_block blocks first size k)
  given_chains first holds same k = go (eqb size 0) refl
    where
      go : (z : Bool) → eqb size 0 ≡ z → Chain u (head_at (put_head heads size (first + 1)) k) (cond z blocks (upd blocks size (first ∷ blocks size)) k)
      go true e =
          let z : size ≡ 0 = eqb-true size 0 e in
          rw (← put_head_nothing heads size (first + 1) (omega arith)) (chain_frame t u (head_at heads k) (blocks k) (same k) (chains k))
      go false e =
          let z : size ≡ 0 → ⊥ = eqb-false size 0 e in
          let one : first + 1 ≡ suc first = omega arith in
          upd_elim (λ l. Chain u (head_at (put_head heads size (first + 1)) k) l) blocks size (first ∷ blocks size) k
          (λ q. subst (λ (j : ℕ). Chain u (head_at (put_head heads size (first + 1)) j) (first ∷ blocks size)) (sym q)
          (rw (head_at_put_head_same heads size (first + 1) long (omega arith) small, one)
          (chain_push t u (head_at heads size) first (blocks size) (holds (omega arith)) (same size) (chains size))))
          (λ q. rw (head_at_put_head_other heads size k (first + 1) q) (chain_frame t u (head_at heads k) (blocks k) (same k) (chains k)))

-- outside a block its owners change nothing
pub at_block_outside : (t : List ℕ) (n : ℕ) (m : NodeMeta) (s : ℕ) → m.incoming + m.outgoing ≤ m.capacity
    → (Within m.first_port.0 m.capacity s → ⊥) → at (own_block t n m) s ≡ at t s
unfolding own_block
at_block_outside t n m s fits away =
    at_fill_outside _ _ _ s _ (λ a b. away (omega arith, omega arith))
    ∙ (at_fill_outside _ _ _ s _ (λ a b. away (omega arith, omega arith)) ∙ at_fill_outside _ _ _ s _ (λ a b. away (a, omega arith)))

-- One node slot changes.
module _ (node : ℕ → Slots) (n : ℕ) (v : Slots) where
  pub slot_of_other : (x : InnerPlace) → (x.node ≡ n → ⊥) → slot_of (upd node n v) x ≡ slot_of node x
  slot_of_other x other = ap (λ (s : Slots). first_of s + (side_start s x.side + x.pos)) (upd_other node n v x.node other)

  pub valid_other : (x : InnerPlace) → (x.node ≡ n → ⊥) → Valid (upd node n v) x → Valid node x
  valid_other x other = subst (λ (s : Slots). x.pos < count_of s x.side) (upd_other node n v x.node other)

  pub other_valid : (x : InnerPlace) → (x.node ≡ n → ⊥) → Valid node x → Valid (upd node n v) x
  other_valid x other = subst (λ (s : Slots). x.pos < count_of s x.side) (sym (upd_other node n v x.node other))

  -- slots that others hold keep their owner
  pub owner_of_other : (w : Who) (s : ℕ) → (w ≡ held n → ⊥) → owner_of_who (upd node n v) w s ≡ owner_of_who node w s
  owner_of_other (held i) s other = rw (upd_other node n v i (λ q. other (ap held q)))
  owner_of_other (idle b k) s other = refl
  owner_of_other unused s other = refl

  -- a sum over the nodes changes by what that slot counts
  pub total_after : (count : Slots → ℕ) → n < node_slots
      → total node_slots (λ i. count (upd node n v i)) + count (node n) ≡ total node_slots (λ i. count (node i)) + count v
  total_after count below =
      total_one node_slots n (λ i. count (node i)) (λ i. count (upd node n v i)) below
      (λ i b other. ap count (sym (upd_other node n v i other)))
      ∙ ap (λ (c : ℕ). total node_slots (λ i. count (node i)) + c) (ap count (upd_same node n v))

-- in a node's block there are places of that node only
pub place_in_block : {M : Model} → Good M → (n : ℕ) (m : NodeMeta) (y : InnerPlace) → M.node n ≡ live m → Valid M.node y
    → Within m.first_port.0 m.capacity (slot_of M.node y) → y.node ≡ n
place_in_block {M} good n m y e v w =
    let r = slot_in_block good y v in
    block_of_one good y.node n r.0 m (slot_of M.node y) r.1 e r.2 w

-- The whole block of a node is cut: the node's links go, and vacant slots keep their number.
module _ {g : PortGraph} {M : Model} (good : Good M) (h : Holds g M) (n : ℕ) (m : NodeMeta) (e : M.node n ≡ live m) where
  abbrev first : ℕ
  first = m.first_port.0

  abbrev ports : ℕ
  ports = m.incoming + m.outgoing

  ports_cleared : Cleared (Valid M.node) (slot_of M.node) M.join (drop_join (at_node n) M.join) first ports g.port_link (cut_range g.port_link first ports)
  ports_cleared =
      cut_range_at ports (block_place n m) (at_node n) M.join g.port_link first (rep_of good h) (block_run M.node n m e)
      (λ i l. here i (ltb i m.incoming))
      (λ y w j none. ne_eqb y.node n (not_of_block M.node n m e y (good.join_valid y w j) none))
    where
      here : (i : ℕ) (b : Bool) → at_node n (cond b (record { node = n; side = Incoming; pos = i }) (record { node = n; side = Outgoing; pos = i - m.incoming })) ≡ true
      here i true = eq-eqb n n refl
      here i false = eq-eqb n n refl

  pub block_cleared : Cleared (Valid M.node) (slot_of M.node) M.join (drop_join (at_node n) M.join) first m.capacity g.port_link (cut_range g.port_link first m.capacity)
  block_cleared =
      let f : ports ≤ m.capacity = good.ports_in_block n m e in
      let c : m.capacity ≡ ports + (m.capacity - ports) = omega arith in
      let parts = cut_range_parts ports (m.capacity - ports) g.port_link first in
      let none =
      cut_range_none (m.capacity - ports) (cut_range g.port_link first ports) (first + ports)
      (λ s a b. ports_cleared.kept s (spare_vacant good h n m s e a (omega arith)) ∙ h.spare n m s e a (omega arith)) in
      let t : cut_range g.port_link first m.capacity ≡ cut_range g.port_link first ports =
      ap (cut_range g.port_link first) c ∙ (parts.0 ∙ none.0) in
      let k : cut_count g.port_link first m.capacity ≡ cut_count g.port_link first ports =
      ap (cut_count g.port_link first) c ∙ (let p = parts.1 in let q = none.1 in omega arith) in
      record {
        rep = subst (Rep (Valid M.node) (slot_of M.node) (drop_join (at_node n) M.join)) (sym t) ports_cleared.rep;
        kept = λ s free. ap (λ (u : List ℕ). at u s) t ∙ ports_cleared.kept s free;
        count = λ size one. let q = ports_cleared.count size one in omega arith;
      }
