-- Histories put together: a longer list runs on from where the shorter one stopped.
use Rattle.std.specs.Prelude.{◌≡◌, refl, List, [], ◌∷◌, ◌++◌}
use Rattle.port_tables.specs.declared.release.Release.{Release}
use Rattle.theorems.specs.Book.{Call}
use Rattle.theorems.specs.History.{State, next, run_from, run_from_under, run, run_under}

-- from any state
pub run_from_append : (s : State) (first second : List Call) → run_from s (first ++ second) ≡ run_from (run_from s first) second
unfolding run_from_under
run_from_append s [] second = refl
run_from_append s (c ∷ first) second = run_from_append (next s c) first second

pub run_append : (release : Release) (first second : List Call) → run release (first ++ second) ≡ run_from (run release first) second
unfolding run_under
run_append release first second = run_from_append _ first second

pub run_next : (release : Release) (calls : List Call) (c : Call) → run release (calls ++ (c ∷ [])) ≡ next (run release calls) c
unfolding run_from_under
run_next release calls c = run_append release calls (c ∷ [])
