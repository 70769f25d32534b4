-- What the proofs of functions over orders cite.
use Rattle.std.specs.Prelude.{◌≡◌, Bool, true, false, not, cond, List, ℕ, ◌+◌, ◌≤◌, ◌<◌, ltb, set}
use Rattle.std.proofs.Math.Path.{refl, sym, ap, subst}
use Rattle.std.proofs.Common.{◌∙◌, inl, inr, add-one, arith, length-set, get_or-set_same, get_or-set_other, lt-ltb, le-ltb, ltb-false}
use Rattle.std.specs.Bool.{beq}
use Rattle.std.specs.Prelude.{Result, Ok, Err}
use Rattle.std.specs.Result.{OkIff, result_unwrap_or}
use Rattle.std.proofs.Math.Logic.{⊎_elim}
use Rattle.std.proofs.Math.ListN.{get_or, length}
use Rattle.std.proofs.Math.Nat.{eq-or-lt_of_le}
use Rattle.std.proofs.lemmas.List.{get_or_past}
use Rattle.lines.specs.Orders.{order, start_of, with_number, number_at, offset_at, most_numbers, Asks, word_at, is_empty, file_name, Says, Numbered}
use Rattle.lines.specs.Text.{bytes_of, next_word, number_said, same_bytes}
use Rattle.lines.specs.declared.text.Span.{Span}
use Rattle.lines.specs.declared.orders.Order.{Order}

module _ {C : Type 0} (o : Order C) (place : ℕ) where
  pub with_there : (value : ℕ) → place < most_numbers → order o.command (set o.numbers place value) o.entries o.from ≡ with_number o place value
  unfolding with_number
  with_there value h = rw (lt-ltb place most_numbers h) refl

  pub with_past : (value : ℕ) → most_numbers ≤ place → o ≡ with_number o place value
  unfolding with_number
  with_past value h = rw (le-ltb place most_numbers h) refl

  pub number_read : length o.numbers ≡ most_numbers → get_or o.numbers place 0 ≡ number_at o place
  unfolding number_at
  number_read n = go (ltb place most_numbers) refl
    where
      go : (t : Bool) → ltb place most_numbers ≡ t → get_or o.numbers place 0 ≡ cond t (get_or o.numbers place 0) 0
      go true l = refl
      go false l = let p = ltb-false place most_numbers l in get_or_past o.numbers place 0 (omega arith)

  -- The number is converted, where it has 16 bits.
  pub offset_of : {E : Type 0} (number : ℕ) (r : Result ℕ E) → number ≡ number_at o place → OkIff r (number < 65536) number → result_unwrap_or r 65535 ≡ offset_at o place
  unfolding offset_at
  offset_of number (Ok x) e h = rw (← e) (go (ltb number 65535) refl)
    where
      go : (t : Bool) → ltb number 65535 ≡ t → x ≡ cond t number 65535
      go true l = h.1
      go false l = let p = ltb-false number 65535 l in let q = h.0 in let m = h.1 in omega arith
  offset_of number (Err x) e h = rw (← e, le-ltb number 65535 (omega arith)) refl

-- An order keeps its command and its place.

module _ {C : Type 0} (command : C) (from : ℕ) (o : Order C) where
  pub asks_start : o ≡ start_of command from → Asks command from o
  unfolding start_of
  asks_start e = record { of_command = ap (λ (x : Order C). x.command) e; begins = ap (λ (x : Order C). x.from) e }

  asks_number : Asks command from o → (place value : ℕ) (r : Order C) → r ≡ with_number o place value → Asks command from r
  unfolding with_number
  asks_number a place value r e = record { of_command = ap (λ (x : Order C). x.command) e ∙ a.of_command; begins = ap (λ (x : Order C). x.from) e ∙ a.begins }

-- Words and names are read side by side.

pub word_next : (text : List ℕ) (from k : ℕ) (word next : Span) → word ≡ word_at text from k → next ≡ next_word text word.to → next ≡ word_at text from (k + 1)
unfolding word_at
word_next text from k word next e h = rw add-one (h ∙ ap (λ (s : Span). next_word text s.to) e)

pub word_first : (text : List ℕ) (from at : ℕ) (word : Span) → at ≡ from → word ≡ next_word text at → word ≡ word_at text from 0
unfolding word_at
word_first text from at word e h = h ∙ ap (next_word text) e

both_empty : (a b : Bool) → not (beq a b) ≡ false → a ≡ true → b ≡ true
both_empty true true h e = refl
both_empty true false h e = sym h
both_empty false b h e = cc

module _ (numbers : List ℕ) (place value : ℕ) where
  -- the numbers with one more
  abbrev more : List ℕ
  more = cond (ltb place most_numbers) (set numbers place value) numbers

  more_long : length more ≡ length numbers
  more_long = go (ltb place most_numbers)
    where
      go : (t : Bool) → length (cond t (set numbers place value) numbers) ≡ length numbers
      go true = simp length-set refl
      go false = refl

  more_other : (k : ℕ) → k < place → get_or more k 0 ≡ get_or numbers k 0
  more_other k l = go (ltb place most_numbers)
    where
      go : (t : Bool) → get_or (cond t (set numbers place value) numbers) k 0 ≡ get_or numbers k 0
      go true = get_or-set_other numbers place k value 0 (λ e. omega arith)
      go false = refl

  more_here : place < most_numbers → place < length numbers → get_or more place 0 ≡ value
  more_here l m = rw (lt-ltb place most_numbers l) (get_or-set_same numbers place value 0 m)

-- What holds before the word at a place is read.
pub record Reading {C : Type 0} (command : C) (text : List ℕ) (from : ℕ) (usage : List ℕ) (first : ℕ) (o : Order C) (word name : Span) (place : ℕ) : Type 0 where
  pub asks : Asks command from o
  pub long : length o.numbers ≡ most_numbers
  pub is_word : word ≡ word_at text from place
  pub is_name : name ≡ word_at usage first place
  pub there : (k : ℕ) → k < place → is_empty (word_at text from k) ≡ false
  pub says : (k : ℕ) → k < place → k < most_numbers → Says (bytes_of text (word_at text from k)) (bytes_of usage (word_at usage first k)) (get_or o.numbers k 0)

module _ {C : Type 0} (command : C) (text : List ℕ) (from : ℕ) (usage : List ℕ) where
  pub reading_start : (o : Order C) (word name head : Span) → o ≡ start_of command from → word ≡ next_word text from → head ≡ next_word usage 0 → name ≡ next_word usage head.to →
      Reading command text from usage (next_word usage 0).to o word name 0
  unfolding start_of
  reading_start o word name head e w h n = record {
    asks = asks_start command from o e;
    long = ap (λ (x : Order C). length x.numbers) e;
    is_word = word_first text from from word refl w;
    is_name = word_first usage (next_word usage 0).to head.to name (ap (λ (s : Span). s.to) h) n;
    there = λ k l. absurd (omega arith);
    says = λ k l m. absurd (omega arith);
  }

  module _ {o : Order C} {word name : Span} {place : ℕ} (r : Reading command text from usage (next_word usage 0).to o word name place) where
    pub reading_end : (a b : Bool) → place < 9 → a ≡ is_empty word → b ≡ is_empty name → not (beq a b) ≡ false → a ≡ true → Numbered command text from usage o
    reading_end a b l p q h e =
        record {
          asks = r.asks;
          read = (
            place,
            record {
              few = omega arith;
              no_word = ap is_empty (sym r.is_word) ∙ sym p ∙ e;
              no_name = ap is_empty (sym r.is_name) ∙ sym q ∙ both_empty a b h e;
              there = r.there;
              says = λ k m. r.says k m (omega arith);
            },
          );
        }

    pub reading_on : (a : Bool) (value : ℕ) (o' : Order C) (word' name' : Span) → a ≡ is_empty word → a ≡ false → o' ≡ with_number o place value →
        Says (bytes_of text word) (bytes_of usage name) value → word' ≡ next_word text word.to → name' ≡ next_word usage name.to →
        Reading command text from usage (next_word usage 0).to o' word' name' (place + 1)
    unfolding with_number
    reading_on a value o' word' name' p f e s w n = record {
      asks = asks_number command from o r.asks place value o' e;
      long = ap (λ (x : Order C). length x.numbers) e ∙ more_long o.numbers place value ∙ r.long;
      is_word = word_next text from place word word' r.is_word w;
      is_name = word_next usage (next_word usage 0).to place name name' r.is_name n;
      there = λ k l. ⊎_elim (λ m. rw m (ap is_empty (sym r.is_word) ∙ sym p ∙ f)) (λ m. r.there k m) (eq-or-lt_of_le {n = k} {m = place} (omega arith));
      says = λ k l m. ⊎_elim (here k m) (λ j. subst (Says (bytes_of text (word_at text from k)) (bytes_of usage (word_at usage (next_word usage 0).to k))) (sym (number k ∙ more_other o.numbers place value k j)) (r.says k j m)) (eq-or-lt_of_le {n = k} {m = place} (omega arith));
    }
      where
        number : (k : ℕ) → get_or o'.numbers k 0 ≡ get_or (more o.numbers place value) k 0
        number k = ap (λ (x : Order C). get_or x.numbers k 0) e

        here : (k : ℕ) → k < most_numbers → k ≡ place → Says (bytes_of text (word_at text from k)) (bytes_of usage (word_at usage (next_word usage 0).to k)) (get_or o'.numbers k 0)
        here k m j =
            ⊎_elim
            (λ q. inl (number k ∙ (ap (λ (i : ℕ). get_or (more o.numbers place value) i 0) j ∙ more_here o.numbers place value (omega arith) (let h = r.long in omega arith)) ∙ q ∙ ap (λ (x : Span). number_said (bytes_of text x)) (r.is_word ∙ ap (word_at text from) (sym j))))
            (λ q. inr (ap (λ (x : Span). same_bytes (bytes_of usage x) file_name) (sym (r.is_name ∙ ap (word_at usage (next_word usage 0).to) (sym j))) ∙ q))
            s
