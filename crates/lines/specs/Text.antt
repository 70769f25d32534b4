-- Words, lines and numbers in a text, which is a list of bytes. Past its end it reads as zeros.
use Rattle.std.specs.Prelude.{◌≡◌, Bool, true, false, cond, ◌&&◌, ◌||◌, List, [], ◌∷◌, ℕ, zero, suc, ◌+◌, ◌-◌, ◌*◌, ◌≤◌, ◌<◌, eqb, leb, ltb, get_or, length, take, drop, Option, unwrap_or}
use Rattle.std.specs.Bool.{beq}
use Rattle.lines.specs.declared.text.Span.{Span}

-- A blank, a tab, or a newline.
unfoldable pub is_blank : ℕ → Bool
is_blank b = eqb b 32 || (eqb b 9 || eqb b 10)

-- So many bytes from a place on.
unfoldable pub bytes_from : List ℕ → ℕ → ℕ → List ℕ
bytes_from text at zero = []
bytes_from text at (suc n) = get_or text at 0 ∷ bytes_from text (suc at) n

-- The bytes of a part; it has none if it ends before it begins.
abbrev pub bytes_of : List ℕ → Span → List ℕ
bytes_of text span = bytes_from text span.from (span.to - span.from)

-- A part that lies within a text; nothing where it does not.
unfoldable pub part_of : List ℕ → Span → List ℕ
part_of text span = cond (leb span.from span.to && leb span.to (length text)) (take (span.to - span.from) (drop span.from text)) []

-- The length of a line without a carriage return at its end.
unfoldable pub without_return : List ℕ → ℕ
without_return line = cond (ltb 0 (length line) && eqb (get_or line (length line - 1) 0) 13) (length line - 1) (length line)

-- A line without it.
unfoldable pub line_of : List ℕ → List ℕ
line_of line = take (without_return line) line

-- How many blanks a list of bytes begins with, or how many bytes that are none.
unfoldable pub leading : Bool → List ℕ → ℕ
leading blanks [] = 0
leading blanks (b ∷ l) = cond (beq (is_blank b) blanks) (suc (leading blanks l)) 0

-- Where the blanks from a place on end, or what is no blank.
unfoldable pub pass_over : List ℕ → ℕ → Bool → ℕ
pass_over text from blanks = from + leading blanks (drop from text)

-- The next word from a place on: it begins after blanks, and ends before the next blank.
unfoldable pub next_word : List ℕ → ℕ → Span
next_word text from = record {
  from = pass_over text from true;
  to = pass_over text (pass_over text from true) false;
}

-- The end of a line between two places: the first newline, or the second place where there is none.
pub record LineEnd (text : List ℕ) (from to r : ℕ) : Type 0 where
  pub within : r ≤ to
  pub unbroken : (k : ℕ) → from ≤ k → k < r → get_or text k 0 ≡ 10 → ⊥
  pub broken : r < to → (from ≤ r) × (get_or text r 0 ≡ 10)

-- Whether two lists of bytes are the same.
unfoldable pub same_bytes : List ℕ → List ℕ → Bool
same_bytes [] [] = true
same_bytes [] (c ∷ m) = false
same_bytes (b ∷ l) [] = false
same_bytes (b ∷ l) (c ∷ m) = eqb b c && same_bytes l m

-- The first number that is none of 32 bits: it stands for no number.
abbrev pub no_value : ℕ
no_value = 4294967296

-- The number that was read, or the one that stands for none.
abbrev pub value_or_none : Option ℕ → ℕ
value_or_none r = unwrap_or r no_value

unfoldable pub is_digit : ℕ → Bool
is_digit b = leb 48 b && leb b 57

-- A number with one digit more, or none.
unfoldable pub with_digit : ℕ → ℕ → ℕ
with_digit v b = cond (ltb v no_value && (is_digit b && ltb (v * 10 + (b - 48)) no_value)) (v * 10 + (b - 48)) no_value

unfoldable pub all_digits : List ℕ → Bool
all_digits [] = true
all_digits (b ∷ l) = is_digit b && all_digits l

-- The number that digits say behind those that said another.
unfoldable pub decimal_after : ℕ → List ℕ → ℕ
decimal_after v [] = v
decimal_after v (b ∷ l) = decimal_after (v * 10 + (b - 48)) l

-- The number that decimal digits say, if it has 32 bits.
unfoldable pub number_said : List ℕ → ℕ
number_said l = cond (all_digits l && ltb (decimal_after 0 l) no_value) (decimal_after 0 l) no_value

-- The same; 0 where they say none.
unfoldable pub number_or_zero : List ℕ → ℕ
number_or_zero l = cond (ltb (number_said l) no_value) (number_said l) 0
