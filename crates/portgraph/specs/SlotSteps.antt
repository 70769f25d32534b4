-- Taking and giving back node slots and blocks: what a found slot or block is, what comes after it in its list, and what the stores of a call amount to.
-- A law of a found slot or block takes the equation that says so.
use Rattle.std.specs.Prelude.{◌≡◌, refl, Bool, true, false, cond, List, ℕ, ◌+◌, ◌-◌, ◌≤◌, ◌<◌, eqb, leb, ltb, length, get_or, set, Some, None}
use Rattle.std.proofs.Common.{ap, arith, set-set, le-ltb, eq-eqb, ltb-true, leb-true, leb-false, eqb-true}
use Rattle.std.proofs.Math.Seq.{set_out}
use Rattle.std.proofs.lemmas.Bool.{eqb-false}
use Rattle.port_tables.specs.Limits.{node_slots, port_slots, node_ports}
use Rattle.port_tables.specs.Entries.{fresh_slot, with_prev, set_prev, next_of}
use Rattle.port_tables.specs.Tables.{at, head_at, put_head}
use Rattle.portgraph.specs.Lookups.{entry_at}
use Rattle.portgraph.specs.Calls.{find_slot, find_block, rest_of, slot_after, free_after, head_after, find_block_under, find_slot_under}
use Rattle.portgraph.specs.Model.{Wf}
use Rattle.portgraph.specs.WfFacts.{node_free_fits, head_fits}
use Rattle.port_tables.specs.declared.node_entry.NodeSlot.{NodeSlot}
use Rattle.portgraph.specs.declared.portgraph.PortGraph.{PortGraph}

-- What a found slot is: from the list, or at the end of the used part.
pub data SlotIs (free len n : ℕ) : Type 0 where
  at_end : free ≡ 0 → n ≡ len → len < node_slots → SlotIs free len n
  listed : (free ≡ 0 → ⊥) → n ≡ free - 1 → SlotIs free len n

pub slot_found : (free len n : ℕ) → find_slot free len ≡ Some n → SlotIs free len n
unfolding find_slot_under
slot_found free len n e = go (eqb free 0) refl
  where
    inner : free ≡ 0 → (b : Bool) → ltb len node_slots ≡ b → cond b (Some len) None ≡ Some n → SlotIs free len n
    inner z true f q = at_end z (cc) (ltb-true len node_slots f)
    inner z false f q = let k : ◌≡◌ {A = ℕ} 0 1 = cc in absurd (omega arith)

    go : (b : Bool) → eqb free 0 ≡ b → SlotIs free len n
    go true f = inner (eqb-true free 0 f) (ltb len node_slots) refl (rw f at e)
    go false f = let q : Some (free - 1) ≡ Some n = rw f at e in listed (eqb-false free 0 f) (cc)

pub found_slot_below : (free len n : ℕ) → free ≤ node_slots → SlotIs free len n → n < node_slots
found_slot_below free len n h (at_end z e l) = omega arith
found_slot_below free len n h (listed z e) = omega arith

-- the slot's own entry names the next free one
pub rest_of_slots : (free len n : ℕ) (f : ℕ → ℕ) → SlotIs free len n → rest_of free (f n) ≡ rest_of free (f (free - 1))
unfolding rest_of
rest_of_slots free len n f (at_end z e l) = rw (eq-eqb free 0 z)
rest_of_slots free len n f (listed z e) = ap (λ (x : ℕ). rest_of free (f x)) e

-- What a found block is: nothing for size 0, else from the list of its size, or at the end of the used part.
pub data BlockIs (head len size b : ℕ) : Type 0 where
  nothing : size ≡ 0 → b ≡ 0 → BlockIs head len size b
  at_end : head ≡ 0 → b ≡ len → len + size ≤ port_slots → BlockIs head len size b
  listed : (head ≡ 0 → ⊥) → b ≡ head - 1 → BlockIs head len size b

pub block_found_lem : (heads : List ℕ) (len size b : ℕ) → find_block heads len size ≡ Some b → BlockIs (head_at heads size) len size b
unfolding find_block_under
block_found_lem heads len size b e = go (eqb size 0) refl
  where
    room : head_at heads size ≡ 0 → (t : Bool) → leb (len + size) port_slots ≡ t → cond t (Some len) None ≡ Some b → BlockIs (head_at heads size) len size b
    room z true f q = BlockIs.at_end z (cc) (leb-true (len + size) port_slots f)
    room z false f q = let k : ◌≡◌ {A = ℕ} 0 1 = cc in absurd (omega arith)

    list : (t : Bool) → eqb (head_at heads size) 0 ≡ t → cond t (cond (leb (len + size) port_slots) (Some len) None) (Some (head_at heads size - 1)) ≡ Some b → BlockIs (head_at heads size) len size b
    list true f q = room (eqb-true (head_at heads size) 0 f) (leb (len + size) port_slots) refl q
    list false f q = BlockIs.listed (eqb-false (head_at heads size) 0 f) (cc)

    go : (t : Bool) → eqb size 0 ≡ t → BlockIs (head_at heads size) len size b
    go true f = let q : Some 0 ≡ Some b = rw f at e in nothing (eqb-true size 0 f) (cc)
    go false f = list (eqb (head_at heads size) 0) refl (rw f at e)

pub found_block_ends : (head len size b : ℕ) → size ≤ port_slots → ((head ≡ 0 → ⊥) → (head - 1) + size ≤ port_slots) → BlockIs head len size b → b + size ≤ port_slots
found_block_ends head len size b s h (nothing z e) = omega arith
found_block_ends head len size b s h (BlockIs.at_end z e l) = omega arith
found_block_ends head len size b s h (BlockIs.listed z e) = let k = h z in omega arith

-- the block's first slot names the next free block
pub rest_of_blocks : (heads : List ℕ) (head len size b : ℕ) (f : ℕ → ℕ) → BlockIs head len size b → put_head heads size (rest_of head (f b)) ≡ put_head heads size (rest_of head (f (head - 1)))
unfolding rest_of put_head
rest_of_blocks heads head len size b f (nothing z e) = let h : size ≤ 0 = omega arith in rw (le-ltb 0 size h)
rest_of_blocks heads head len size b f (BlockIs.at_end z e l) = rw (eq-eqb head 0 z)
rest_of_blocks heads head len size b f (BlockIs.listed z e) = ap (λ (x : ℕ). put_head heads size (rest_of head (f x))) e

-- The neighbour's store and the slot's own store.
pub stores_after : (nodes : List NodeSlot) (code n p : ℕ) (s : NodeSlot) → length nodes ≡ node_slots → set (set nodes (slot_after code n) (with_prev (get_or nodes (slot_after code n) fresh_slot) p)) n s ≡ set (set_prev nodes code p) n s
unfolding slot_after set_prev
stores_after nodes code n p s e = go (eqb code 0) refl
  where
    inside : (code ≡ 0 → ⊥) → (b : Bool) → leb code node_slots ≡ b → set (set nodes (cond b (code - 1) n) (with_prev (get_or nodes (cond b (code - 1) n) fresh_slot) p)) n s ≡ set (set nodes (code - 1) (with_prev (get_or nodes (code - 1) fresh_slot) p)) n s
    inside z true f = refl
    inside z false f =
        let l = leb-false code node_slots f in
        let h : length nodes ≤ code - 1 = omega arith in
        rw (set_out nodes (code - 1) (with_prev (get_or nodes (code - 1) fresh_slot) p)) (set-set nodes n (with_prev (get_or nodes n fresh_slot) p) s)

    go : (b : Bool) → eqb code 0 ≡ b → set (set nodes (slot_after code n) (with_prev (get_or nodes (slot_after code n) fresh_slot) p)) n s ≡ set (set_prev nodes code p) n s
    go true f = rw f (set-set nodes n (with_prev (get_or nodes n fresh_slot) p) s)
    go false f = rw f (inside (eqb-false code 0 f) (leb code node_slots) refl)

-- What a found slot's entry and a found block's first slot name is what comes after the first of the list.
pub found_slot_rest : (g : PortGraph) (n : ℕ) → find_slot g.node_free g.node_len ≡ Some n → rest_of g.node_free (next_of (entry_at g n)) ≡ free_after g
found_slot_rest g n e = rest_of_slots g.node_free g.node_len n (λ (x : ℕ). next_of (entry_at g x)) (slot_found _ _ n e)

pub found_block_rest : (g : PortGraph) (size b : ℕ) → find_block g.port_free g.port_len size ≡ Some b → put_head g.port_free size (rest_of (head_at g.port_free size) (at g.port_link b)) ≡ put_head g.port_free size (head_after g size)
found_block_rest g size b e = rest_of_blocks g.port_free (head_at g.port_free size) g.port_len size b (at g.port_link) (block_found_lem _ _ _ b e)

-- What a well-formed graph adds.
module _ (g : PortGraph) (w : Wf g) where
  pub node_slot_fits : (n : ℕ) → find_slot g.node_free g.node_len ≡ Some n → n < node_slots
  node_slot_fits n e = found_slot_below g.node_free g.node_len n (node_free_fits g w) (slot_found _ _ n e)

  pub new_block_fits : (size b : ℕ) → size ≤ node_ports → find_block g.port_free g.port_len size ≡ Some b → b + size ≤ port_slots
  new_block_fits size b h e = found_block_ends (head_at g.port_free size) g.port_len size b (omega arith) (head_fits g w size) (block_found_lem _ _ size b e)
