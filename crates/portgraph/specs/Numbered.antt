-- What a contract says, and one conclusion more: of the numbers of an answer.
use Rattle.std.specs.Prelude.{◌≡◌, List, ℕ}
use Rattle.std.proofs.Common.{ap}

module _ {A X : Type 0} (numbers : X → List ℕ) {x y : X} where
  pub and_numbers : A × (x ≡ y) → A × (x ≡ y) × (numbers x ≡ numbers y)
  and_numbers p = (p.0, p.1, ap numbers p.1)
