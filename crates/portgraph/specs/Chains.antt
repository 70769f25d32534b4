-- Laws of the chains of free slots: free blocks, which run through the link table, and free entries of the node table.
-- A chain depends only on the slots of its list, so it is kept by every step elsewhere; one slot goes on or comes off at its head.
use Rattle.std.specs.Prelude.{◌≡◌, refl, Bool, true, false, cond, List, [], ◌∷◌, ℕ, zero, suc, ◌-◌, ◌≤◌, ◌<◌, eqb, leb, ltb, length, get_or, set}
use Rattle.std.proofs.Common.{sym, ap, ◌∙◌, subst, inl, inr, arith, length-set, get_or-set_same, get_or-set_other, lt-ltb, le-leb}
use Rattle.std.proofs.Math.Dec.{eqb-suc-zero}
use Rattle.port_tables.specs.Limits.{node_slots, node_ports, free_lists}
use Rattle.port_tables.specs.Lists.{Member, Once}
use Rattle.port_tables.specs.Entries.{fresh_slot, free_slot_of, with_prev, with_prev_entry, set_prev}
use Rattle.port_tables.specs.Tables.{at, head_at, put_head}
use Rattle.portgraph.specs.Model.{Chain, NodeChain, slots_of_entry, slots_at, number_of_first}
use Rattle.port_tables.specs.declared.node_entry.NodeSlot.{NodeSlot}
use Rattle.port_tables.specs.declared.node_entry.NodeEntry.{NodeEntry}
use Rattle.port_tables.specs.declared.node_entry.NodeEntry.TheVariants.{Free, Node}

-- Free blocks.

pub chain_frame : (t u : List ℕ) (h : ℕ) (bs : List ℕ) → ((b : ℕ) → Member b bs → at t b ≡ at u b) → Chain t h bs → Chain u h bs
chain_frame t u h [] same c = c
chain_frame t u h (b ∷ bs) same c =
    (c.0, subst (λ (x : ℕ). Chain u x bs) (same b (inl refl)) (chain_frame t u (at t b) bs (λ k i. same k (inr i)) c.1))

-- a block is put first
pub chain_push : (t u : List ℕ) (h b : ℕ) (bs : List ℕ) → at u b ≡ h → ((k : ℕ) → Member k bs → at t k ≡ at u k) → Chain t h bs → Chain u (suc b) (b ∷ bs)
chain_push t u h b bs e same c = (refl, subst (λ (x : ℕ). Chain u x bs) (sym e) (chain_frame t u h bs same c))

-- table and head determine the list
pub chain_one : (t : List ℕ) (h : ℕ) (bs cs : List ℕ) → Chain t h bs → Chain t h cs → bs ≡ cs
chain_one t h [] [] c d = refl
chain_one t h [] (y ∷ cs) c d = absurd (omega arith)
chain_one t h (x ∷ bs) [] c d = absurd (omega arith)
chain_one t h (x ∷ bs) (y ∷ cs) c d =
    let e : x ≡ y = omega arith in
    let r : bs ≡ cs = chain_one t (at t x) bs cs c.1 (subst (λ (z : ℕ). Chain t (at t z) cs) (sym e) d.1) in
    cc

-- Heads of the free lists.

pub length_put_head : (heads : List ℕ) (k v : ℕ) → length (put_head heads k v) ≡ length heads
unfolding put_head
length_put_head heads k v = go (ltb 0 k) (leb k node_ports)
  where
    go : (b c : Bool) → length (cond b (cond c (set heads k v) heads) heads) ≡ length heads
    go true true = length-set heads k v
    go true false = refl
    go false c = refl

pub head_at_put_head_same : (heads : List ℕ) (k v : ℕ) → length heads ≡ free_lists → 0 < k → k ≤ node_ports → head_at (put_head heads k v) k ≡ v
unfolding put_head head_at
head_at_put_head_same heads k v long pos small =
    rw (lt-ltb 0 k pos, le-leb k node_ports small) (get_or-set_same heads k v 0 (omega arith))

pub head_at_put_head_other : (heads : List ℕ) (k j v : ℕ) → (j ≡ k → ⊥) → head_at (put_head heads k v) j ≡ head_at heads j
unfolding put_head head_at
head_at_put_head_other heads k j v other = go (ltb 0 k) (leb k node_ports)
  where
    go : (b c : Bool) → cond (leb j node_ports) (get_or (cond b (cond c (set heads k v) heads) heads) j 0) 0 ≡ cond (leb j node_ports) (get_or heads j 0) 0
    go true true = rw (get_or-set_other heads k j v 0 other)
    go true false = refl
    go false c = refl

-- The node table.

pub slots_at_set_same : (nodes : List NodeSlot) (n : ℕ) (s : NodeSlot) → n < length nodes → slots_at (set nodes n s) n ≡ slots_of_entry s.entry
slots_at_set_same nodes n s h = ap (λ (x : NodeSlot). slots_of_entry x.entry) (get_or-set_same nodes n s fresh_slot h)

pub slots_at_set_other : (nodes : List NodeSlot) (n k : ℕ) (s : NodeSlot) → (k ≡ n → ⊥) → slots_at (set nodes n s) k ≡ slots_at nodes k
slots_at_set_other nodes n k s other = ap (λ (x : NodeSlot). slots_of_entry x.entry) (get_or-set_other nodes n k s fresh_slot other)

-- a slot that means the same may take another's place
pub slots_at_set_alike : (nodes : List NodeSlot) (n k : ℕ) (s : NodeSlot) → slots_of_entry s.entry ≡ slots_at nodes n → slots_at (set nodes n s) k ≡ slots_at nodes k
slots_at_set_alike [] n k s e = refl
slots_at_set_alike (x ∷ nodes) zero zero s e = e
slots_at_set_alike (x ∷ nodes) zero (suc k) s e = refl
slots_at_set_alike (x ∷ nodes) (suc n) zero s e = refl
slots_at_set_alike (x ∷ nodes) (suc n) (suc k) s e = slots_at_set_alike nodes n k s e

pub with_prev_keeps_slots : (s : NodeSlot) (p : ℕ) → slots_of_entry (with_prev s p).entry ≡ slots_of_entry s.entry
with_prev_keeps_slots s p = go s.entry
  where
    go : (e : NodeEntry) → slots_of_entry (with_prev_entry e p) ≡ slots_of_entry e
    go (Free f) = refl
    go (Node m) = refl

pub set_prev_keeps_slots : (nodes : List NodeSlot) (c p n : ℕ) → slots_at (set_prev nodes c p) n ≡ slots_at nodes n
unfolding set_prev
set_prev_keeps_slots nodes c p n = go (eqb c 0)
  where
    go : (b : Bool) → slots_at (cond b nodes (set nodes (c - 1) (with_prev (get_or nodes (c - 1) fresh_slot) p))) n ≡ slots_at nodes n
    go true = refl
    go false = slots_at_set_alike nodes (c - 1) n _ (with_prev_keeps_slots (get_or nodes (c - 1) fresh_slot) p)

pub length_set_prev : (nodes : List NodeSlot) (c p : ℕ) → length (set_prev nodes c p) ≡ length nodes
unfolding set_prev
length_set_prev nodes c p = go (eqb c 0)
  where
    go : (b : Bool) → length (cond b nodes (set nodes (c - 1) (with_prev (get_or nodes (c - 1) fresh_slot) p))) ≡ length nodes
    go true = refl
    go false = length-set nodes (c - 1) _

-- Free entries.

pub node_chain_frame : (nodes slots : List NodeSlot) (p : ℕ) (l : List ℕ) → ((k : ℕ) → Member k l → get_or nodes k fresh_slot ≡ get_or slots k fresh_slot) → NodeChain nodes p l → NodeChain slots p l
node_chain_frame nodes slots p [] same c = c
node_chain_frame nodes slots p (n ∷ l) same c =
    (ap (λ (x : NodeSlot). x.entry) (sym (same n (inl refl))) ∙ c.0, node_chain_frame nodes slots (suc n) l (λ k i. same k (inr i)) c.1)

-- a slot that is not listed may be set
pub node_chain_set : (nodes : List NodeSlot) (n p : ℕ) (s : NodeSlot) (l : List ℕ) → (Member n l → ⊥) → NodeChain nodes p l → NodeChain (set nodes n s) p l
node_chain_set nodes n p s l out c =
    node_chain_frame nodes (set nodes n s) p l
    (λ k i. sym (get_or-set_other nodes n k s fresh_slot (λ e. out (subst (λ (x : ℕ). Member x l) e i))))
    c

-- the first of the list gets another entry before it
pub node_chain_set_prev : (nodes : List NodeSlot) (p q : ℕ) (l : List ℕ) → length nodes ≡ node_slots → ((k : ℕ) → Member k l → k < node_slots) → Once l → NodeChain nodes p l → NodeChain (set_prev nodes (number_of_first l) q) q l
unfolding set_prev
node_chain_set_prev nodes p q [] long below once c = tt
node_chain_set_prev nodes p q (n ∷ l) long below once c =
    let e : suc n - 1 ≡ n = omega arith in
    let b : n < node_slots = below n (inl refl) in
    let moved : set_prev nodes (number_of_first (n ∷ l)) q ≡ set nodes n (with_prev (get_or nodes n fresh_slot) q) = rw (eqb-suc-zero n, e) refl in
    subst (λ (x : List NodeSlot). NodeChain x q (n ∷ l)) (sym moved) (
      ap (λ (x : NodeSlot). x.entry) (get_or-set_same nodes n _ fresh_slot (omega arith)) ∙ ap (λ (x : NodeEntry). with_prev_entry x q) c.0,
      node_chain_set nodes n (suc n) _ l once.0 c.1,
    )

-- the first free entry becomes something else
pub node_chain_pop : (nodes : List NodeSlot) (n : ℕ) (s : NodeSlot) (l : List ℕ) → length nodes ≡ node_slots → ((k : ℕ) → Member k l → k < node_slots) → Once (n ∷ l) → NodeChain nodes 0 (n ∷ l) → NodeChain (set (set_prev nodes (number_of_first l) 0) n s) 0 l
node_chain_pop nodes n s l long below once c =
    node_chain_set _ n 0 s l once.0 (node_chain_set_prev nodes (suc n) 0 l long below once.1 c.1)

-- a slot becomes the first free entry
pub node_chain_push : (nodes : List NodeSlot) (n : ℕ) (l : List ℕ) → length nodes ≡ node_slots → n < node_slots → ((k : ℕ) → Member k l → k < node_slots) → Once l → (Member n l → ⊥) → NodeChain nodes 0 l → NodeChain (set (set_prev nodes (number_of_first l) (suc n)) n (free_slot_of 0 (number_of_first l))) 0 (n ∷ l)
node_chain_push nodes n l long small below once out c =
    let e : length (set_prev nodes (number_of_first l) (suc n)) ≡ length nodes = length_set_prev nodes (number_of_first l) (suc n) in (
      ap (λ (x : NodeSlot). x.entry) (get_or-set_same (set_prev nodes (number_of_first l) (suc n)) n (free_slot_of 0 (number_of_first l)) fresh_slot (omega arith)),
      node_chain_set _ n (suc n) _ l out (node_chain_set_prev nodes 0 (suc n) l long below once c),
    )
