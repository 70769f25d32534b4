-- The words of the theorems about times: walks along wires, as lists of blocks, and orders of blocks.
use Rattle.std.specs.Prelude.{◌≡◌, List, [], ◌∷◌, ◌⊎◌, ℕ, ◌+◌}
use Rattle.port_tables.specs.Lists.{Member, Once}
use Rattle.port_tables.specs.Places.{Wire}

-- Walks.

-- one block feeds another: a wire goes from the one to the other
abbrev pub Feeds : List Wire → ℕ → ℕ → Type 0
Feeds wires a b = (w : Wire) × Member w wires × (w.out.node ≡ a) × (w.into.node ≡ b)

-- from one block to another by the blocks of a list, each fed by the one before it, the last the other block
abbrev pub Leads : (ℕ → ℕ → Type 0) → ℕ → ℕ → List ℕ → Type 0
Leads feeds a b [] = a ≡ b
Leads feeds a b (c ∷ l) = feeds a c × Leads feeds c b l

-- a walk along wires that ends at a block, as the list of its blocks
abbrev pub WalkTo : List Wire → ℕ → List ℕ → Type 0
WalkTo wires n [] = ⊥
WalkTo wires n (a ∷ l) = Leads (Feeds wires) a n l

-- a walk along at least one wire from some block to itself, which can be continued to a block
abbrev pub CycleReaches : (ℕ → ℕ → Type 0) → ℕ → Type 0
CycleReaches feeds n = (a : ℕ) × (b : ℕ) × (l : List ℕ) × (on : List ℕ) × Leads feeds a a (b ∷ l) × Leads feeds a n on

-- the sum of the times of the blocks of a walk
abbrev pub sum_along : (ℕ → ℕ) → List ℕ → ℕ
sum_along time [] = 0
sum_along time (n ∷ l) = time n + sum_along time l

-- Orders.

-- one block stands before another
abbrev pub Before : List ℕ → ℕ → ℕ → Type 0
Before [] a b = ⊥
Before (n ∷ l) a b = ((a ≡ n) × Member b l) ⊎ Before l a b

-- An order is right: it has the blocks, each once, and feeds go forward.
pub record RightOrder (is_one : ℕ → Type 0) (feeds : ℕ → ℕ → Type 0) (order : List ℕ) : Type 0 where
  pub only : (n : ℕ) → Member n order → is_one n
  pub all : (n : ℕ) → is_one n → Member n order
  pub once : Once order
  pub forward : (a b : ℕ) → feeds a b → Before order a b
