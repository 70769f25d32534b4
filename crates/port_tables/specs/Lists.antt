-- Words about lists that the toolchain's library does not have, or has in another form.
use Rattle.std.specs.Prelude.{List, [], ◌∷◌, ◌≡◌, ◌⊎◌, ℕ, zero, suc}

-- n numbers from i on
unfoldable pub range : ℕ → ℕ → List ℕ
range i zero = []
range i (suc n) = i ∷ range (suc i) n

-- what f gives for the first item, or the end
unfoldable pub on_first {ℓ κ} : {A : Type ℓ} {B : Type κ} → B → (A → B) → List A → B
on_first end f [] = end
on_first end f (x ∷ l) = f x

-- what f gives for the last item, or the end
unfoldable pub on_last {ℓ κ} : {A : Type ℓ} {B : Type κ} → B → (A → B) → List A → B
on_last end f [] = end
on_last end f (x ∷ l) = on_last (f x) f l

-- an item stands in a list
abbrev pub Member : {A : Type 0} → A → List A → Type 0
Member x [] = ⊥
Member x (y ∷ l) = (x ≡ y) ⊎ Member x l

-- no item stands in it twice
abbrev pub Once : {A : Type 0} → List A → Type 0
Once [] = Unit {0}
Once (x ∷ l) = (Member x l → ⊥) × Once l

-- each item precedes all later ones
abbrev pub Rising : {A : Type 0} → (A → A → Type 0) → List A → Type 0
Rising R [] = Unit {0}
Rising {A} R (x ∷ l) = ((y : A) → Member y l → R x y) × Rising R l
