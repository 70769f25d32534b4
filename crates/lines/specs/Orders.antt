-- What a line asks for: a command with its numbers.
use Rattle.std.specs.Prelude.{◌≡◌, Bool, true, false, cond, List, [], ◌∷◌, ◌⊎◌, ℕ, zero, suc, ◌≤◌, ◌<◌, leb, ltb, get_or, set, replicate}
use Rattle.lines.specs.Text.{bytes_of, next_word, number_said, same_bytes}
use Rattle.lines.specs.declared.text.Span.{Span}
use Rattle.lines.specs.declared.orders.Order.{Order}

-- The most numbers of a command, but for a list.
abbrev pub most_numbers : ℕ
most_numbers = 8

module _ {C : Type 0} where
  abbrev pub order : C → List ℕ → ℕ → ℕ → Order C
  order command numbers entries from =
      record {
        command = command;
        numbers = numbers;
        entries = entries;
        from = from;
      }

  -- a command, before its numbers are read
  unfoldable pub start_of : C → ℕ → Order C
  start_of command from = order command (replicate most_numbers 0) 0 from

  -- with a number at a place, if it is one
  unfoldable pub with_number : Order C → ℕ → ℕ → Order C
  with_number o place value = order o.command (cond (ltb place most_numbers) (set o.numbers place value) o.numbers) o.entries o.from

  -- the number at a place; 0 where there is none
  unfoldable pub number_at : Order C → ℕ → ℕ
  number_at o place = cond (ltb place most_numbers) (get_or o.numbers place 0) 0

  -- the offset that it is; the largest number of 16 bits stands for every larger one
  unfoldable pub offset_at : Order C → ℕ → ℕ
  offset_at o place = cond (ltb (number_at o place) 65535) (number_at o place) 65535

-- An order is of this command, and its words begin at this place.
pub record Asks {C : Type 0} (command : C) (from : ℕ) (o : Order C) : Type 0 where
  pub of_command : o.command ≡ command
  pub begins : o.from ≡ from

-- The words from a place on, counted from 0.
unfoldable pub word_at : List ℕ → ℕ → ℕ → Span
word_at text from zero = next_word text from
word_at text from (suc k) = next_word text (word_at text from k).to

abbrev pub is_empty : Span → Bool
is_empty span = leb span.to span.from

-- `NAME`: the name of a file stands there.
abbrev pub file_name : List ℕ
file_name = 78 ∷ 65 ∷ 77 ∷ 69 ∷ []

-- A number is what its word says, but where the name of a file stands.
abbrev pub Says : List ℕ → List ℕ → ℕ → Type 0
Says word name number = (number ≡ number_said word) ⊎ (same_bytes name file_name ≡ true)

-- A line has so many words from a place on as a row has names from another, and these are its numbers.
pub record Read (text : List ℕ) (from : ℕ) (usage : List ℕ) (first : ℕ) (numbers : List ℕ) (n : ℕ) : Type 0 where
  pub few : n ≤ most_numbers
  pub no_word : is_empty (word_at text from n) ≡ true
  pub no_name : is_empty (word_at usage first n) ≡ true
  pub there : (k : ℕ) → k < n → is_empty (word_at text from k) ≡ false
  pub says : (k : ℕ) → k < n → Says (bytes_of text (word_at text from k)) (bytes_of usage (word_at usage first k)) (get_or numbers k 0)

-- An order of this command, with the numbers after its first word.
pub record Numbered {C : Type 0} (command : C) (text : List ℕ) (from : ℕ) (usage : List ℕ) (o : Order C) : Type 0 where
  pub asks : Asks command from o
  pub read : (n : ℕ) × Read text from usage (next_word usage 0).to o.numbers n

-- What a line asks for that has this row for its first word: the row's command, and unless it has a list, its numbers.
abbrev pub Ordered : {C : Type 0} → C → ℕ → List ℕ → ℕ → List ℕ → Order C → Type 0
Ordered command size text from usage o = Asks command from o × (size ≡ 0 → (n : ℕ) × Read text from usage (next_word usage 0).to o.numbers n)
