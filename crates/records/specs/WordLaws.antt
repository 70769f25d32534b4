-- Bytes and words: how long they are, and that the words are read back from their bytes.
use Rattle.std.specs.Prelude.{◌≡◌, refl, List, [], ◌∷◌, ◌++◌, ℕ, zero, suc, ◌+◌, ◌*◌, ◌/◌, ◌%◌, ◌<◌, get_or, length}
use Rattle.std.proofs.Common.{ap, ◌∙◌, arith}
use Rattle.records.specs.Words.{word_at, bytes_of, requests_from}

-- the bytes of words laid one after the other
pub bytes_append : (v w : List ℕ) → bytes_of (v ++ w) ≡ bytes_of v ++ bytes_of w
unfolding bytes_of
bytes_append [] w = refl
bytes_append (x ∷ v) w = ap (λ r. x % 256 ∷ x / 256 % 256 ∷ x / 65536 % 256 ∷ x / 16777216 ∷ r) (bytes_append v w)

-- four bytes a word
pub bytes_long : (v : List ℕ) → length (bytes_of v) ≡ 4 * length v
unfolding bytes_of
bytes_long [] = refl
bytes_long (x ∷ v) = let h = bytes_long v in omega arith

-- as many requests as are read
pub requests_many : (bytes : List ℕ) (i n : ℕ) → length (requests_from bytes i n) ≡ n
unfolding requests_from
requests_many bytes i zero = refl
requests_many bytes i (suc n) = ap suc (requests_many bytes (i + 20) n)

-- a word beyond a first one is read four bytes later
read_later : (a b c d : ℕ) (l : List ℕ) (i : ℕ) → word_at (a ∷ b ∷ c ∷ d ∷ l) (4 + i) ≡ word_at l i
unfolding word_at
read_later a b c d l i =
    let e₀ : 4 + i ≡ suc (suc (suc (suc i))) = omega arith in
    let e₁ : 4 + i + 1 ≡ suc (suc (suc (suc (i + 1)))) = omega arith in
    let e₂ : 4 + i + 2 ≡ suc (suc (suc (suc (i + 2)))) = omega arith in
    let e₃ : 4 + i + 3 ≡ suc (suc (suc (suc (i + 3)))) = omega arith in
    rw (e₁, e₂, e₃, e₀)

-- the words are read back from their bytes
pub words_read_back : (ws : List ℕ) (k : ℕ) → k < length ws → word_at (bytes_of ws) (4 * k) ≡ get_or ws k 0
unfolding bytes_of word_at
words_read_back [] k h = absurd (omega arith)
words_read_back (w ∷ ws) zero h = omega arith
words_read_back (w ∷ ws) (suc k) h =
    let e : 4 * suc k ≡ 4 + 4 * k = omega arith in
    rw e (read_later (w % 256) (w / 256 % 256) (w / 65536 % 256) (w / 16777216) (bytes_of ws) (4 * k) ∙ words_read_back ws k (omega arith))
