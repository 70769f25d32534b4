-- What the leaves over bytes lay.
use Rattle.std.specs.Prelude.{◌≡◌, List, [], ◌∷◌, ◌++◌, ℕ, ◌+◌, ◌/◌, ◌%◌}
use Rattle.std.proofs.Common.{refl, ◌∙◌, arith}
use Rattle.std.proofs.lemmas.List.Edits.{sets}
use Rattle.port_tables.specs.ResizeLinkSteps.{sets_append}
use Rattle.files.specs.Layout.{field_bytes, word_bytes, record_bytes}
use Rattle.files.specs.Forms.{record_of}

-- the bytes of a field, and of a word
pub four_bytes : (x : ℕ) → x % 256 ∷ x / 256 % 256 ∷ x / 65536 % 256 ∷ x / 16777216 % 256 ∷ [] ≡ word_bytes x
unfolding word_bytes field_bytes
four_bytes x =
    let a : x % 256 ≡ x % 65536 % 256 = omega arith in
    let b : x / 256 % 256 ≡ x % 65536 / 256 % 256 = omega arith in
    let d : x / 16777216 % 256 ≡ x / 65536 / 256 % 256 = omega arith in
    rw (a, b, d) refl

-- a field, then what follows it
pub field_then : (l : List ℕ) (i x : ℕ) (rest : List ℕ) → sets (sets l i (field_bytes x)) (i + 2) rest ≡ sets l i (field_bytes x ++ rest)
unfolding field_bytes
field_then l i x rest = sets_append l i (x % 256 ∷ x / 256 % 256 ∷ []) rest

pub record_laid : (l l₁ l₂ l₃ l₄ : List ℕ) (i x : ℕ) → l₁ ≡ sets l i (field_bytes (x / 281474976710656)) → l₂ ≡ sets l₁ (i + 2) (field_bytes (x / 4294967296 % 65536))
    → l₃ ≡ sets l₂ (i + 4) (field_bytes (x / 65536 % 65536)) → l₄ ≡ sets l₃ (i + 6) (field_bytes (x % 65536)) → l₄ ≡ sets l i (record_bytes (record_of x))
unfolding record_bytes record_of
record_laid l l₁ l₂ l₃ l₄ i x e₁ e₂ e₃ e₄ =
    let n₄ : i + 4 ≡ i + 2 + 2 = omega arith in
    let n₆ : i + 6 ≡ i + 4 + 2 = omega arith in
    let a = field_bytes (x / 281474976710656) in
    let b = field_bytes (x / 4294967296 % 65536) in
    let c = field_bytes (x / 65536 % 65536) in
    let d = field_bytes (x % 65536) in
    let q₃ : l₄ ≡ sets l₂ (i + 4) (c ++ d) = e₄ ∙ rw (n₆, e₃) (field_then l₂ (i + 4) (x / 65536 % 65536) d) in
    let q₂ : l₄ ≡ sets l₁ (i + 2) (b ++ (c ++ d)) = q₃ ∙ rw (n₄, e₂) (field_then l₁ (i + 2) (x / 4294967296 % 65536) (c ++ d)) in
    q₂ ∙ rw e₁ (field_then l i (x / 281474976710656) (b ++ (c ++ d)))
