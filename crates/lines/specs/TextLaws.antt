-- What the words about texts mean. The two public laws are statements: nothing rests on them.
use Rattle.std.specs.Prelude.{◌≡◌, refl, Bool, true, false, ◌&&◌, List, [], ◌∷◌, ◌↔◌, ℕ, zero, suc, ◌+◌, ◌-◌, ◌≤◌, eqb, get_or, length, take, drop}
use Rattle.std.proofs.Common.{ap, arith, drop-cons, eqb-true, eq-eqb}
use Rattle.lines.specs.Text.{bytes_from, bytes_of, same_bytes}
use Rattle.lines.specs.declared.text.Span.{Span}

same_self : (l : List ℕ) → same_bytes l l ≡ true
unfolding same_bytes
same_self [] = refl
same_self (b ∷ l) = rw (eq-eqb b b refl) (same_self l)

same_equal : (l m : List ℕ) → same_bytes l m ≡ true → l ≡ m
unfolding same_bytes
same_equal [] [] e = refl
same_equal [] (c ∷ m) e = cc
same_equal (b ∷ l) [] e = cc
same_equal (b ∷ l) (c ∷ m) e = go (eqb b c) refl e (same_equal l m)
  where
    go : (t : Bool) → eqb b c ≡ t → (t && same_bytes l m) ≡ true → (same_bytes l m ≡ true → l ≡ m) → (b ∷ l) ≡ (c ∷ m)
    go true p e f = let q = eqb-true b c p in let h = f e in cc
    go false p e f = cc

-- Words are the same exactly if their bytes are.
pub same_exactly : (l m : List ℕ) → (same_bytes l m ≡ true) ↔ (l ≡ m)
same_exactly l m = (same_equal l m, λ e. rw (← e) (same_self l))

bytes_taken : (text : List ℕ) (at n : ℕ) → at + n ≤ length text → bytes_from text at n ≡ take n (drop at text)
unfolding bytes_from
bytes_taken text at zero h = refl
bytes_taken text at (suc n) h = rw (drop-cons text at 0 (omega arith)) (ap (λ (l : List ℕ). get_or text at 0 ∷ l) (bytes_taken text (suc at) n (omega arith)))

-- The bytes of a part within a text are the text between its ends.
pub bytes_are_part : (text : List ℕ) (span : Span) → span.from ≤ span.to → span.to ≤ length text → bytes_of text span ≡ take (span.to - span.from) (drop span.from text)
bytes_are_part text span h k = bytes_taken text span.from (span.to - span.from) (omega arith)
