-- What the code of the test of room takes from the definitions.
use Rattle.std.specs.Prelude.{◌≡◌, Bool, true, false, cond, ℕ, ◌+◌, ◌≤◌, eqb}
use Rattle.std.proofs.Common.{arith}
use Rattle.portgraph.specs.Calls.{grown}

pub grown_little : (head len size : ℕ) {r : ℕ} → r ≡ grown head len size → r ≤ len + size
unfolding grown
grown_little head len size e = go (eqb head 0) e
  where
    go : (b : Bool) {r : ℕ} → r ≡ cond b (len + size) len → r ≤ len + size
    go true q = omega arith
    go false q = omega arith
