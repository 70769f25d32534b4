-- Records as bytes: a request and an answer are five little-endian u32.
use Rattle.std.specs.Prelude.{List, [], ◌∷◌, ℕ, zero, suc, ◌+◌, ◌*◌, ◌/◌, ◌%◌, get_or, length}

-- the word at a byte position
unfoldable pub word_at : List ℕ → ℕ → ℕ
word_at bytes i = get_or bytes i 0 + 256 * get_or bytes (i + 1) 0 + 65536 * get_or bytes (i + 2) 0 + 16777216 * get_or bytes (i + 3) 0

-- the bytes of words; the last one takes what is left, so that a number beyond a word has no bytes
unfoldable pub bytes_of : List ℕ → List ℕ
bytes_of [] = []
bytes_of (w ∷ l) = w % 256 ∷ w / 256 % 256 ∷ w / 65536 % 256 ∷ w / 16777216 ∷ bytes_of l

-- a code with its arguments
pub record Request : Type 0 where
  pub code : ℕ
  pub a : ℕ
  pub b : ℕ
  pub c : ℕ
  pub d : ℕ

unfoldable pub request_at : List ℕ → ℕ → Request
request_at bytes i =
    record {
      code = word_at bytes i;
      a = word_at bytes (i + 4);
      b = word_at bytes (i + 8);
      c = word_at bytes (i + 12);
      d = word_at bytes (i + 16);
    }

-- n requests from a byte position on
unfoldable pub requests_from : List ℕ → ℕ → ℕ → List Request
requests_from bytes i zero = []
requests_from bytes i (suc n) = request_at bytes i ∷ requests_from bytes (i + 20) n

unfoldable pub requests_of : List ℕ → List Request
requests_of bytes = requests_from bytes 0 (length bytes / 20)
