-- Answers that hold a pair: two that are equal have equal parts.
use Rattle.std.specs.Prelude.{◌≡◌, Result, Ok, Err}
use Rattle.std.proofs.Math.Path.{ap}

module _ {A B : Type 0} (a : A) (b : B) where
  abbrev in_ok : {E : Type 0} → Result (A × B) E → A × B
  in_ok (Ok p) = p
  in_ok (Err r) = (a, b)

pub ok_pair : {A B E : Type 0} {a x : A} {b y : B} → ◌≡◌ {A = Result (A × B) E} (Ok (a, b)) (Ok (x, y)) → (a ≡ x) × (b ≡ y)
ok_pair {A} {B} {E} {a} {x} {b} {y} e = (ap (λ o. (in_ok a b o).0) e, ap (λ o. (in_ok a b o).1) e)
