-- Laws of the port tables: what a slot holds after a number is stored, a range is filled, or a block gets its owners.
-- No step changes a table's length.
use Rattle.std.specs.Prelude.{◌≡◌, Bool, List, ℕ, zero, suc, ◌+◌, ◌≤◌, ◌<◌, eqb, leb, length, get_or, set}
use Rattle.std.proofs.Math.Path.{refl}
use Rattle.std.proofs.Common.{sym, ◌∙◌, arith, length-set, get_or-set_same, get_or-set_other}
use Rattle.std.proofs.Math.Bool.{true, false, cond}
use Rattle.std.proofs.Math.Dec.{ltb}
use borrow.Author.Tests.{ltb-true, ltb-false, eqb-false, lt-ltb, le-leb, ne_eqb}
use Rattle.port_tables.specs.Limits.{port_slots}
use Rattle.port_tables.specs.Entries.{owner_number}
use Rattle.port_tables.specs.Tables.{at, put, fill, fill_range, own_block, link_both, cut_far, cut, cut_range, relink, move_port, chain_block}
use Rattle.portgraph.specs.Model.{owner_in_block}
use Rattle.port_tables.specs.declared.direction.Direction.TheVariants.{Incoming, Outgoing}
use Rattle.port_tables.specs.declared.node_entry.NodeMeta.{NodeMeta}
use Rattle.port_tables.specs.TableSteps.{length_fill, get_d_fill_in, get_d_fill_out}

-- Lengths.

length_cond : (b : Bool) (t u w : List ℕ) → length u ≡ length t → length w ≡ length t → length (cond b u w) ≡ length t
length_cond true t u w p q = p
length_cond false t u w p q = q

pub length_put : (t : List ℕ) (s v : ℕ) → length (put t s v) ≡ length t
unfolding put
length_put t s v = length_cond (ltb s port_slots) t (set t s v) t (length-set t s v) refl

pub length_fill_range : (t : List ℕ) (i n v : ℕ) → length (fill_range t i n v) ≡ length t
unfolding fill_range
length_fill_range t i n v = length_cond (leb (i + n) port_slots) t (fill t i n v) t (length_fill t i n v) refl

pub length_own_block : (t : List ℕ) (n : ℕ) (m : NodeMeta) → length (own_block t n m) ≡ length t
unfolding own_block
length_own_block t n m = simp length_fill_range

pub length_link_both : (t : List ℕ) (a b : ℕ) → length (link_both t a b) ≡ length t
unfolding link_both
length_link_both t a b =
    length_cond (ltb a port_slots) t _ t
    (length_cond (ltb b port_slots) t _ t (simp length_put) refl)
    refl

pub length_cut : (t : List ℕ) (p : ℕ) → length (cut t p) ≡ length t
unfolding cut cut_far
length_cut t p = length_cond (eqb (at t p) 0) t t _ refl (simp length_put)

pub length_cut_range : (t : List ℕ) (p n : ℕ) → length (cut_range t p n) ≡ length t
unfolding cut_range
length_cut_range t p zero = refl
length_cut_range t p (suc n) = length_cut_range (cut t p) (suc p) n ∙ length_cut t p

pub length_move_port : (t : List ℕ) (old new : ℕ) → length (move_port t old new) ≡ length t
unfolding move_port relink
length_move_port t old new = length_cond (eqb (at t old) 0) t _ _ (simp length_put) (simp length_put)

pub length_chain_block : (t : List ℕ) (first size head : ℕ) → length (chain_block t first size head) ≡ length t
unfolding chain_block
length_chain_block t first size head = length_cond (eqb size 0) t t _ refl (length_put t first head)

-- One slot.

pub at_put_same : (t : List ℕ) (s v : ℕ) → length t ≡ port_slots → s < port_slots → at (put t s v) s ≡ v
unfolding at put
at_put_same t s v long h = rw (lt-ltb s port_slots h) (get_or-set_same t s v 0 (omega arith))

pub at_put_other : (t : List ℕ) (s r v : ℕ) → (s ≡ r → ⊥) → at (put t s v) r ≡ at t r
unfolding at put
at_put_other t s r v apart = go (ltb s port_slots) (ltb r port_slots)
  where
    go : (b c : Bool) → cond c (get_or (cond b (set t s v) t) r 0) 0 ≡ cond c (get_or t r 0) 0
    go true true = get_or-set_other t s r v 0 (λ e. apart (sym e))
    go true false = refl
    go false true = refl
    go false false = refl

-- Ranges.

pub at_fill_in : (t : List ℕ) (i n s v : ℕ) → length t ≡ port_slots → i + n ≤ port_slots → i ≤ s → s < i + n → at (fill_range t i n v) s ≡ v
unfolding at fill_range
at_fill_in t i n s v long fits h k =
    rw (lt-ltb s port_slots (omega arith), le-leb (i + n) port_slots fits) (get_d_fill_in t i n s v 0 (omega arith) h k)

pub at_fill_outside : (t : List ℕ) (i n s v : ℕ) → (i ≤ s → s < i + n → ⊥) → at (fill_range t i n v) s ≡ at t s
unfolding at fill_range
at_fill_outside t i n s v out = go (leb (i + n) port_slots) (ltb s port_slots)
  where
    go : (b c : Bool) → cond c (get_or (cond b (fill t i n v) t) s 0) 0 ≡ cond c (get_or t s 0) 0
    go true true = get_d_fill_out t i n s v 0 out
    go true false = refl
    go false true = refl
    go false false = refl

-- A free block's first slot.

pub at_chain_first : (t : List ℕ) (first size head : ℕ) → length t ≡ port_slots → first < port_slots → 0 < size
    → at (chain_block t first size head) first ≡ head
unfolding chain_block
at_chain_first t first size head long h k = rw (ne_eqb size 0 (omega arith)) (at_put_same t first head long h)

pub at_chain_other : (t : List ℕ) (first size head s : ℕ) → (0 < size → first ≡ s → ⊥) → at (chain_block t first size head) s ≡ at t s
unfolding chain_block
at_chain_other t first size head s out = go (eqb size 0) refl
  where
    go : (b : Bool) → eqb size 0 ≡ b → at (cond b t (put t first head)) s ≡ at t s
    go true e = refl
    go false e = let n : size ≡ 0 → ⊥ = eqb-false size 0 e in at_put_other t first s head (out (omega arith))

-- The owners of a block.
module _ (t : List ℕ) (n : ℕ) (m : NodeMeta) where
  pub at_block_in : (s : ℕ) → length t ≡ port_slots → m.first_port.0 + m.capacity ≤ port_slots → m.incoming + m.outgoing ≤ m.capacity
      → m.first_port.0 ≤ s → s < m.first_port.0 + m.capacity → at (own_block t n m) s ≡ owner_in_block n m s
  unfolding own_block
  at_block_in s long ends fits low high = go (ltb s (m.first_port.0 + m.incoming)) (ltb s (m.first_port.0 + (m.incoming + m.outgoing))) refl refl
    where
      go : (b c : Bool) → ltb s (m.first_port.0 + m.incoming) ≡ b → ltb s (m.first_port.0 + (m.incoming + m.outgoing)) ≡ c
          → at (own_block t n m) s ≡ cond b (owner_number n Incoming) (cond c (owner_number n Outgoing) 0)
      go true c e f =
          let h : s < m.first_port.0 + m.incoming = ltb-true _ _ e in
          at_fill_outside _ _ _ s _ (λ a b. omega arith) ∙ (at_fill_outside _ _ _ s _ (λ a b. omega arith) ∙ at_fill_in t _ _ s _ long (omega arith) low h)
      go false true e f =
          let h : m.first_port.0 + m.incoming ≤ s = ltb-false _ _ e in
          let k : s < m.first_port.0 + (m.incoming + m.outgoing) = ltb-true _ _ f in
          at_fill_outside _ _ _ s _ (λ a b. omega arith) ∙ at_fill_in _ _ _ s _ (length_fill_range t _ _ _ ∙ long) (omega arith) h (omega arith)
      go false false e f =
          let h : m.first_port.0 + m.incoming ≤ s = ltb-false _ _ e in
          let k : m.first_port.0 + (m.incoming + m.outgoing) ≤ s = ltb-false _ _ f in
          at_fill_in _ _ _ s _ (length_fill_range _ _ _ _ ∙ (length_fill_range t _ _ _ ∙ long)) (omega arith) k (omega arith)
