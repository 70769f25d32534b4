-- How the code holds a proposed order against the blocks and wires: a table has 1 for a block that is not named yet, and a named one's place
-- in the order, two higher.
use Rattle.std.specs.List.{list_all}
use Rattle.std.specs.Prelude.{Bool, true, false, cond, List, [], ◌∷◌, ℕ, suc, ◌+◌, eqb, ltb, get_or, set}
use Rattle.timing.specs.Longest.{Feed}

-- each block is entered
unfoldable pub marked : List ℕ → List ℕ → List ℕ
marked [] places = places
marked (n ∷ l) places = marked l (set places n 1)

-- the table with the places, and whether each number named a block that was not named yet
pub record Named : Type 0 where
  pub places : List ℕ
  pub right : Bool

unfoldable pub named : List ℕ → ℕ → List ℕ → Named
named places i [] = record { places = places; right = true }
named places i (n ∷ l) = cond (eqb (get_or places n 0) 1) (named (set places n (i + 2)) (suc i) l) (record { places = places; right = false })

-- every wire goes from an earlier to a later place
unfoldable pub all_forward : List ℕ → List Feed → Bool
all_forward places feeds = list_all (λ (f : Feed). ltb (get_or places f.source 0) (get_or places f.target 0)) feeds
