-- What the proofs of functions over texts cite.
use Rattle.std.specs.Prelude.{◌≡◌, Bool, not, ◌&&◌, List, [], ◌∷◌, ◌⊎◌, ℕ, suc, ◌+◌, ◌-◌, ◌*◌, ◌≤◌, ◌<◌, ltb, get_or, take, drop}
use Rattle.std.proofs.Math.Path.{refl, sym}
use Rattle.std.proofs.Common.{ap, ◌∙◌, add-one, drop_of_length-le}
use Rattle.std.proofs.Math.Bool.{true, false, cond}
use Rattle.std.specs.Bool.{beq}
use native.Mathlib.Omega.{arith}
use Rattle.std.proofs.Math.Dec.{eqb, leb}
use Rattle.std.proofs.Math.ListN.{length}
use borrow.Author.Tests.{eq-eqb, ne_eqb, lt-ltb, le-ltb, le-leb, lt-leb, ltb-true, ltb-false}
use Rattle.lines.specs.Text.{is_blank, bytes_from, bytes_of, part_of, without_return, line_of, leading, same_bytes, is_digit, with_digit, all_digits, decimal_after, number_said, no_value}
use Rattle.std.specs.Prelude.{zero, None, Some, unwrap_or}
use Rattle.std.specs.List.{position, position_or_len, list_all, range_with_len}
use Rattle.std.proofs.lemmas.List.Sums.{prefix_len-le-length}
use Rattle.std.proofs.Math.Seq.{take-length}
use Rattle.std.proofs.Math.Logic.{⊎_elim}
use Rattle.lines.specs.declared.text.Span.{Span}

-- The bytes of a part, one after the other.

bytes_more : (text : List ℕ) (at n k : ℕ) → n ≡ suc k → bytes_from text at n ≡ get_or text at 0 ∷ bytes_from text (at + 1) k
unfolding bytes_from
bytes_more text at n k e = rw (e, add-one) refl

pub bytes_next : (text : List ℕ) (at to : ℕ) → at < to → bytes_from text at (to - at) ≡ get_or text at 0 ∷ bytes_from text (at + 1) (to - (at + 1))
bytes_next text at to h = bytes_more text at (to - at) (to - (at + 1)) (omega arith)

bytes_none : (text : List ℕ) (at n : ℕ) → n ≡ 0 → bytes_from text at n ≡ []
unfolding bytes_from
bytes_none text at n e = rw e refl

pub bytes_end : (text : List ℕ) (at to : ℕ) → to ≤ at → bytes_from text at (to - at) ≡ []
bytes_end text at to h = bytes_none text at (to - at) (omega arith)

-- A part.

module _ (text : List ℕ) (span : Span) where
  pub part_within : span.from ≤ span.to → span.to ≤ length text → take (span.to - span.from) (drop span.from text) ≡ part_of text span
  unfolding part_of
  part_within h k = rw (le-leb span.from span.to h, le-leb span.to (length text) k) refl

  pub part_missing : (span.to < span.from) ⊎ (length text < span.to) → [] ≡ part_of text span
  unfolding part_of
  part_missing h = ⊎_elim (λ k. rw (lt-leb span.from span.to k) refl) (λ k. rw (lt-leb span.to (length text) k) (no_part (leb span.from span.to))) h
    where
      no_part : (t : Bool) → [] ≡ cond (t && false) (take (span.to - span.from) (drop span.from text)) []
      no_part true = refl
      no_part false = refl

-- A line without its carriage return.

module _ (line : List ℕ) where
  return_there : 0 < length line → get_or line (length line - 1) 0 ≡ 13 → length line - 1 ≡ without_return line
  unfolding without_return
  return_there h e = rw (lt-ltb 0 (length line) h, eq-eqb (get_or line (length line - 1) 0) 13 e) refl

  return_missing : 0 < length line → (get_or line (length line - 1) 0 ≡ 13 → ⊥) → length line ≡ without_return line
  unfolding without_return
  return_missing h e = rw (lt-ltb 0 (length line) h, ne_eqb (get_or line (length line - 1) 0) 13 e) refl

  return_empty : length line ≤ 0 → length line ≡ without_return line
  unfolding without_return
  return_empty h = rw (le-ltb 0 (length line) h) refl

  pub line_cut : 1 ≤ length line → get_or line (length line - 1) 0 ≡ 13 → take (length line - 1) line ≡ line_of line
  unfolding line_of
  line_cut h e = ap (λ (n : ℕ). take n line) (return_there (omega arith) e)

  line_same : length line ≡ without_return line → line ≡ line_of line
  unfolding line_of
  line_same e = sym (take-length line) ∙ ap (λ (n : ℕ). take n line) e

  pub line_whole : 1 ≤ length line → (get_or line (length line - 1) 0 ≡ 13 → ⊥) → line ≡ line_of line
  line_whole h e = line_same (return_missing (omega arith) e)

  pub line_empty : length line < 1 → line ≡ line_of line
  line_empty h = line_same (return_empty (omega arith))

-- Blanks, one after the other.

-- the first place at which a test passes, or the length
first_or_all : (p : ℕ → Bool) (l : List ℕ) → unwrap_or (position p l) (length l) ≡ position_or_len p l
first_or_all p l = go (ltb (position_or_len p l) (length l)) refl
  where
    go : (t : Bool) → ltb (position_or_len p l) (length l) ≡ t → unwrap_or (cond t (Some (position_or_len p l)) None) (length l) ≡ position_or_len p l
    go true e = refl
    go false e = let h = ltb-false (position_or_len p l) (length l) e in let k = prefix_len-le-length (λ (b : ℕ). not (p b)) l in omega arith

leading_is : (blanks : Bool) (l : List ℕ) → position_or_len (λ b. not (beq (is_blank b) blanks)) l ≡ leading blanks l
unfolding leading
leading_is blanks [] = refl
leading_is blanks (b ∷ l) = go (beq (is_blank b) blanks) (leading_is blanks l)
  where
    go : (t : Bool) → position_or_len (λ b. not (beq (is_blank b) blanks)) l ≡ leading blanks l → cond (not (not t)) (1 + position_or_len (λ b. not (beq (is_blank b) blanks)) l) 0 ≡ cond t (suc (leading blanks l)) 0
    go true e = omega arith
    go false e = refl

module _ (blanks : Bool) (l : List ℕ) where
  pub leading_read : leading blanks l ≡ unwrap_or (position (λ b. not (beq (is_blank b) blanks)) l) (length l)
  leading_read = sym (first_or_all (λ b. not (beq (is_blank b) blanks)) l ∙ leading_is blanks l)

  pub leading_short : leading blanks l ≤ length l
  leading_short = let q = leading_is blanks l in let k = prefix_len-le-length (λ (b : ℕ). not (not (beq (is_blank b) blanks))) l in omega arith

-- nothing is left beyond a text
pub none_leading : (text : List ℕ) (from : ℕ) (blanks : Bool) → length text < from → leading blanks (drop from text) ≡ 0
unfolding leading
none_leading text from blanks h = rw (drop_of_length-le text {i = from} (omega arith))

-- Words, byte by byte.

bytes_long : (text : List ℕ) (at n : ℕ) → length (bytes_from text at n) ≡ n
unfolding bytes_from
bytes_long text at zero = refl
bytes_long text at (suc n) = ap suc (bytes_long text (suc at) n)

same_long : (l m : List ℕ) → (length l ≡ length m → ⊥) → false ≡ same_bytes l m
unfolding same_bytes
same_long [] [] h = absurd (h refl)
same_long [] (c ∷ m) h = refl
same_long (b ∷ l) [] h = refl
same_long (b ∷ l) (c ∷ m) h = rw (← same_long l m (λ e. h (ap suc e))) (go (eqb b c))
  where
    go : (t : Bool) → false ≡ (t && false)
    go true = refl
    go false = refl

module _ (text other : List ℕ) where
  same_listed : (n at place k : ℕ) → list_all (λ i. eqb (get_or text (at + i) 0) (get_or other (place + i) 0)) (range_with_len k n) ≡ same_bytes (bytes_from text (at + k) n) (bytes_from other (place + k) n)
  unfolding bytes_from same_bytes
  same_listed zero at place k = refl
  same_listed (suc n) at place k =
      let p : at + (k + 1) ≡ suc (at + k) = omega arith in
      let q : place + (k + 1) ≡ suc (place + k) = omega arith in
      ap (λ b. eqb (get_or text (at + k) 0) (get_or other (place + k) 0) && b) (rw (p, q) at (same_listed n at place (k + 1)))

  -- words of one length are the same if they are at each of so many places
  pub same_all : (word name : Span) {n : ℕ} → n ≡ word.to - word.from → n ≡ name.to - name.from → list_all (λ i. eqb (get_or text (word.from + i) 0) (get_or other (name.from + i) 0)) (range_with_len 0 n) ≡ same_bytes (bytes_of text word) (bytes_of other name)
  same_all word name {n} e f =
      let p : word.from + 0 ≡ word.from = omega arith in
      let q : name.from + 0 ≡ name.from = omega arith in
      rw (← e, ← f) (rw (p, q) at (same_listed n word.from name.from 0))

pub same_unlong : (text other : List ℕ) (at n place m : ℕ) → (n ≡ m → ⊥) → same_bytes (bytes_from text at n) (bytes_from other place m) ≡ false
same_unlong text other at n place m h = sym (same_long (bytes_from text at n) (bytes_from other place m) (λ e. h (sym (bytes_long text at n) ∙ e ∙ bytes_long other place m)))

-- Digits, one after the other.

no_digits : (t : Bool) (x y : ℕ) → cond (t && false) x y ≡ y
no_digits true x y = refl
no_digits false x y = refl

unfoldable pub said_after : ℕ → List ℕ → ℕ
said_after v [] = v
said_after v (b ∷ l) = said_after (with_digit v b) l

said_none : (l : List ℕ) → said_after no_value l ≡ no_value
unfolding said_after with_digit
said_none [] = refl
said_none (b ∷ l) = said_none l

decimal_grows : (v : ℕ) (l : List ℕ) → v ≤ decimal_after v l
unfolding decimal_after
decimal_grows v [] = omega arith
decimal_grows v (b ∷ l) = let h = decimal_grows (v * 10 + (b - 48)) l in omega arith

said_is : (l : List ℕ) (v : ℕ) → v < no_value → said_after v l ≡ cond (all_digits l && ltb (decimal_after v l) no_value) (decimal_after v l) no_value
unfolding said_after with_digit all_digits decimal_after
said_is [] v h = rw (lt-ltb v no_value h) refl
said_is (b ∷ l) v h = rw (lt-ltb v no_value h) (digit (is_digit b) (ltb (v * 10 + (b - 48)) no_value) refl (said_is l (v * 10 + (b - 48))))
  where
    w : ℕ
    w = v * 10 + (b - 48)

    digit : (d t : Bool) → ltb w no_value ≡ t → (w < no_value → said_after w l ≡ cond (all_digits l && ltb (decimal_after w l) no_value) (decimal_after w l) no_value) →
        said_after (cond (d && t) w no_value) l ≡ cond ((d && all_digits l) && ltb (decimal_after w l) no_value) (decimal_after w l) no_value
    digit false t e f = said_none l
    digit true true e f = f (ltb-true w no_value e)
    digit true false e f =
        said_none l
        ∙ sym (rw (le-ltb (decimal_after w l) no_value (let p = ltb-false w no_value e in let q = decimal_grows w l in omega arith)) (no_digits (all_digits l) (decimal_after w l) no_value))

module _ (text : List ℕ) (value at to : ℕ) where
  pub said_next : at < to → said_after (with_digit value (get_or text at 0)) (bytes_from text (at + 1) (to - (at + 1))) ≡ said_after value (bytes_from text at (to - at))
  unfolding said_after
  said_next h = rw (bytes_next text at to h) refl

  -- a byte after which there is no number
  pub said_stops : at < to → with_digit value (get_or text at 0) ≡ no_value → said_after value (bytes_from text at (to - at)) ≡ no_value
  said_stops h e = sym (said_next h) ∙ ap (λ (v : ℕ). said_after v (bytes_from text (at + 1) (to - (at + 1)))) e ∙ said_none (bytes_from text (at + 1) (to - (at + 1)))

  pub said_end : to ≤ at → value ≡ said_after value (bytes_from text at (to - at))
  unfolding said_after
  said_end h = rw (bytes_end text at to h) refl

pub said_number : (l : List ℕ) → said_after 0 l ≡ number_said l
unfolding number_said
said_number l = said_is l 0 (omega arith)
