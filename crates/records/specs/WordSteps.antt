-- What the leaves over bytes compute.
use Rattle.std.specs.Prelude.{◌≡◌, refl, List, [], ◌∷◌, ◌++◌, ℕ, suc, ◌+◌, ◌/◌, ◌%◌, ◌≤◌, ◌<◌, get_or, length, take, drop}
use Rattle.std.proofs.Common.{sym, ap, ◌∙◌, drop-cons, length-drop, length-append, arith}
use Rattle.std.proofs.Math.Seq.{length-sets}
use Rattle.std.proofs.lemmas.List.Edits.{sets}
use Rattle.port_tables.specs.ResizeLinkSteps.{sets_append}
use Rattle.multiportgraph.specs.ListScans.{Writing}
use Rattle.multiportgraph.specs.ListSteps.{laid}
use Rattle.records.specs.Words.{bytes_of}
use Rattle.records.specs.WordLaws.{bytes_append, bytes_long}

-- the bytes of a word take the place of four
pub word_laid : (l part : List ℕ) (i k w : ℕ) → i + 4 ≤ length l → w < 4294967296 → part ≡ w % 256 ∷ w / 256 % 256 ∷ w / 65536 % 256 ∷ w / 16777216 % 256 ∷ [] → k ≡ 4
    → take i l ++ (part ++ drop k (drop i l)) ≡ sets l i (bytes_of (w ∷ []))
unfolding bytes_of
word_laid l part i k w h b e n =
    let q : w / 16777216 % 256 ≡ w / 16777216 = omega arith in
    laid l part (bytes_of (w ∷ [])) i k (omega arith) (rw q at e) n

-- Words laid one after the other.

module _ (words : List ℕ) (i : ℕ) {l₀ l : List ℕ} {at p : ℕ} (w : Writing l₀ at (bytes_of words) l p (bytes_of (drop i words))) where
  none_left : length words ≤ i → bytes_of (drop i words) ≡ []
  unfolding bytes_of
  none_left h = go (drop i words) (let d = length-drop i words in omega arith)
    where
      go : (k : List ℕ) → length k ≡ 0 → bytes_of k ≡ []
      go [] e = refl
      go (x ∷ k) e = absurd (omega arith)

  pub words_end : length words ≤ i → l ≡ sets l₀ at (bytes_of words)
  words_end h = ap (sets l p) (sym (none_left h)) ∙ w.same

  module _ (h : i < length words) where
    word_on : bytes_of (drop i words) ≡ bytes_of (get_or words i 0 ∷ []) ++ bytes_of (drop (i + 1) words)
    word_on =
        let e : suc i ≡ i + 1 = omega arith in
        ap bytes_of (drop-cons words i 0 h ∙ ap (λ (k : ℕ). get_or words i 0 ∷ drop k words) e) ∙ bytes_append (get_or words i 0 ∷ []) (drop (i + 1) words)

    pub word_turn : {l' : List ℕ} {next : ℕ} → next ≡ p + 4 → l' ≡ sets l p (bytes_of (get_or words i 0 ∷ [])) → Writing l₀ at (bytes_of words) l' next (bytes_of (drop (i + 1) words))
    word_turn {l'} {next} q e =
        let u = bytes_of (get_or words i 0 ∷ []) in
        let a = w.counted in
        let b = ap length word_on ∙ length-append u (bytes_of (drop (i + 1) words)) in
        let n : length u ≡ 4 = bytes_long (get_or words i 0 ∷ []) in
        record {
          counted = omega arith;
          same =
              (λ j. sets (e j) ((q ∙ ap (λ (k : ℕ). p + k) (sym n)) j) (bytes_of (drop (i + 1) words)))
              ∙ (sets_append l p u (bytes_of (drop (i + 1) words)) ∙ (ap (sets l p) (sym word_on) ∙ w.same));
          long = ap length e ∙ (length-sets l p u ∙ w.long);
        }
