-- Wires of a port counted, step by step: what the functions' proofs cite.
use Rattle.std.specs.Prelude.{◌≡◌, refl, List, [], ◌∷◌, Bool}
use Rattle.std.proofs.Math.Path.{ap}
use Rattle.std.proofs.Common.{inl, inr}
use Prim.Native.Nat.{ℕ, suc, ◌+◌, ◌-◌, ◌<◌, ◌≤◌, zero}
use native.Mathlib.Omega.{arith}
use Rattle.port_tables.specs.Tables.{at}
use Rattle.multi_tables.specs.FanOutScans.{linked_at, linked_up, linked_down, linked_beside, wires_at_in, fan_out_in}
use Rattle.port_tables.specs.declared.direction.Direction.{Direction}
use Rattle.port_tables.specs.declared.direction.Direction.TheVariants.{Incoming, Outgoing}
use Rattle.multi_tables.specs.TableReads.{run_down, count_beside, first_beside}
use Rattle.multi_tables.specs.Forms.{sum_of}
use Rattle.port_tables.specs.Lists.{range, Member}
use Rattle.multi_tables.specs.TableReadSteps.{down_bound}
use Rattle.port_tables.specs.TableSteps.{left_one}

-- A turn of each count.

module _ (links : List ℕ) (s k : ℕ) where
  pub up_next : (sum c : ℕ) → sum ≡ linked_up links s k → c ≡ linked_at links (s + k) → sum + c ≡ linked_up links s (k + 1)
  unfolding linked_up
  up_next sum c e f = let a : k + 1 ≡ suc k = omega arith in rw a (omega arith)

  pub down_next : (sum c : ℕ) → sum ≡ linked_down links s k → c ≡ linked_at links (s - (k + 1)) → sum + c ≡ linked_down links s (k + 1)
  unfolding linked_down
  down_next sum c e f = let a : k + 1 ≡ suc k = omega arith in let g = ap (λ (x : ℕ). linked_at links (s - x)) a in rw a (omega arith)

pub up_none : (links : List ℕ) (s : ℕ) → 0 ≡ linked_up links s 0
unfolding linked_up
up_none links s = refl

pub down_none : (links : List ℕ) (s : ℕ) → 0 ≡ linked_down links s 0
unfolding linked_down
down_none links s = refl

-- A row of ports.

module _ (marks : List Bool) (links owners : List ℕ) (p stop sum : ℕ) where
  pub fan_out_turn : (c : ℕ) → p < stop → c ≡ wires_at_in marks links owners p Outgoing
      → sum + c + fan_out_in marks links owners (p + 1) (stop - (p + 1)) ≡ sum + fan_out_in marks links owners p (stop - p)
  unfolding fan_out_in sum_of range
  fan_out_turn c h e =
      let a : p + 1 ≡ suc p = omega arith in
      rw (left_one p stop h, a) (omega arith)

  pub fan_out_done : stop ≤ p → sum ≡ sum + fan_out_in marks links owners p (stop - p)
  unfolding fan_out_in sum_of range
  fan_out_done h = let a : stop - p ≡ 0 = omega arith in rw a (omega arith)

-- What the tables tell is what the graph has.

pub up_first : (links : List ℕ) (s k : ℕ) → linked_up links s (suc k) ≡ linked_at links s + linked_up links (suc s) k
unfolding linked_up
up_first links s zero = let a : s + 0 ≡ s = omega arith in rw a (omega arith)
up_first links s (suc k) =
    let r : linked_up links s k + linked_at links (s + k) ≡ linked_at links s + linked_up links (suc s) k = up_first links s k in
    let a : s + suc k ≡ suc s + k = omega arith in
    rw a (omega arith)

-- below a slot, the same slots from the other end
down_is_up : (links : List ℕ) (s k : ℕ) → k ≤ s → linked_down links s k ≡ linked_up links (s - k) k
unfolding linked_down linked_up
down_is_up links s zero h = refl
down_is_up links s (suc k) h =
    let r = down_is_up links s k (omega arith) in
    let f = up_first links (s - suc k) k in
    let a : suc (s - suc k) ≡ s - k = omega arith in
    let g = ap (λ (x : ℕ). linked_up links x k) a in
    omega arith

pub beside_is_up : (links owners : List ℕ) (q : ℕ) (d : Direction) → linked_beside links owners q d ≡ linked_up links (first_beside owners q d) (count_beside owners q d)
unfolding linked_beside first_beside count_beside
beside_is_up links owners q Incoming = let b = down_bound owners (at owners (q - 1)) q in down_is_up links q (run_down owners (at owners (q - 1)) q) (omega arith)
beside_is_up links owners q Outgoing = refl

pub sum_same : (f g : ℕ → ℕ) (l : List ℕ) → ((x : ℕ) → Member x l → f x ≡ g x) → sum_of f l ≡ sum_of g l
unfolding sum_of
sum_same f g [] h = refl
sum_same f g (x ∷ l) h =
    let a = h x (inl refl) in
    let r = sum_same f g l (λ y i. h y (inr i)) in
    λ i. a i + r i
