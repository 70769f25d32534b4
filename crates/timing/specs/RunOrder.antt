-- A proposed run order: yes exactly if it names each block once and nothing else, and every wire goes from an earlier to a later one. No number
-- refuses it.
use Rattle.std.specs.List.{list_all}
use Rattle.std.specs.Prelude.{Bool, true, false, not, ◌&&◌, ◌||◌, List, [], ◌∷◌, ℕ, eqb}
use Rattle.multiportgraph.specs.Wires.{blocks}
use Rattle.multiportgraph.specs.declared.multiportgraph.MultiPortGraph.{MultiPortGraph}
use Rattle.timing.specs.Longest.{Feed, feeds_in}

-- a number stands in a list
unfoldable pub is_in : ℕ → List ℕ → Bool
is_in n [] = false
is_in n (k ∷ l) = eqb n k || is_in n l

-- no number stands in it twice
unfoldable pub is_distinct : List ℕ → Bool
is_distinct [] = true
is_distinct (n ∷ l) = not (is_in n l) && is_distinct l

-- one number stands before another
unfoldable pub is_before : List ℕ → ℕ → ℕ → Bool
is_before [] a b = false
is_before (n ∷ l) a b = (eqb a n && is_in b l) || is_before l a b

unfoldable pub run_order : MultiPortGraph → List ℕ → Bool
run_order m order =
    list_all (λ n. is_in n (blocks m)) order
    && (is_distinct order && (list_all (λ n. is_in n order) (blocks m) && list_all (λ (f : Feed). is_before order f.source f.target) (feeds_in m)))
