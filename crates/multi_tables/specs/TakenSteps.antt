-- The check of 18, step by step: what the functions' proofs cite.
use Rattle.std.specs.Prelude.{◌≡◌, Bool, List, ℕ, Ok, Err, unwrap_or, Result}
use Rattle.std.specs.Result.{result_err}
use Rattle.std.proofs.Math.Path.{refl}
use Rattle.std.proofs.Common.{sym, ◌∙◌}
use Rattle.std.proofs.Math.Bool.{true, false, cond}
use Rattle.multi_tables.specs.Forms.{Port, dead, hidden, visible, End, inner, lacking, good_offset}
use Rattle.multi_tables.specs.TableReads.{seen_in, end_in}
use Rattle.multi_tables.specs.NamedEnds.{taken_ends, taken_first, taken_second, pair_of, seen_pair, subport_pair, taken_seen}
use Rattle.port_tables.specs.declared.release.Release.{Release}
use Rattle.multi_tables.specs.TakenInputs.{there_or, there_seen, ends_there, taken_sub_in, taken_ports_in, taken_in, inputs_free}
use Rattle.multi_tables.specs.declared.answers.Refusal.{Refusal}
use Rattle.multi_tables.specs.declared.answers.Refusal.TheVariants.{BadOffset, InputWired}

-- The leaves.

module _ (marks : List Bool) (links owners : List ℕ) (flags : List Bool) where
  -- what a link of subports is refused with
  pub subports_taken : (p o q r : ℕ) → unwrap_or (result_err (ends_there marks links owners flags p o q r)) InputWired ≡ taken_sub_in marks links owners flags p o q r
  unfolding ends_there taken_sub_in subport_pair seen_pair
  subports_taken p o q r = go (good_offset o) (good_offset r) (seen_in owners flags p) (seen_in owners flags q)
    where
      ends : (second v : End) → unwrap_or (result_err (there_or marks links owners flags p (there_or marks links owners flags q (Ok tt) second) v)) InputWired ≡ taken_first p (taken_second q second) v
      ends second lacking = refl
      ends lacking (inner x) = refl
      ends (inner y) (inner x) = refl

      alone : (v : End) → unwrap_or (result_err (there_or marks links owners flags p (Ok tt) v)) InputWired ≡ taken_first p InputWired v
      alone lacking = refl
      alone (inner x) = refl

      go : (a b : Bool) (s t : Port) → unwrap_or (result_err (there_seen marks links owners flags p o q r (cond a (cond b (pair_of p q s t) (Err BadOffset)) (Err BadOffset)))) InputWired
          ≡ cond a (cond b (taken_ends p (λ d. end_in marks links owners p d o) q (λ e. end_in marks links owners q e r) s t) BadOffset) BadOffset
      go false b s t = refl
      go true false s t = refl
      go true true dead t = refl
      go true true hidden t = refl
      go true true (visible n d) hidden = refl
      go true true (visible n d) dead = alone (end_in marks links owners p d o)
      go true true (visible n d) (visible k e) = ends (end_in marks links owners q e r) (end_in marks links owners p d o)

pub ports_taken : (owners : List ℕ) (flags : List Bool) (a b : ℕ) → unwrap_or (result_err (seen_pair owners flags a b)) InputWired ≡ taken_ports_in owners flags a b
unfolding taken_ports_in seen_pair
ports_taken owners flags a b = go (seen_in owners flags a) (seen_in owners flags b)
  where
    go : (s t : Port) → unwrap_or (result_err (pair_of a b s t)) InputWired ≡ taken_seen a b s t
    go dead t = refl
    go hidden t = refl
    go (visible n d) hidden = refl
    go (visible n d) dead = refl
    go (visible n d) (visible k e) = refl

-- What the check of a link of ports tells of the inputs.
module _ (marks : List Bool) (links owners : List ℕ) (flags : List Bool) (v : Release) (a b : ℕ) {u : Result (Unit {0}) Refusal} (is : u ≡ inputs_free marks links owners flags v a b) where
  pub inputs_taken : (z : Refusal) → u ≡ Err z → (taken_in marks links owners flags v a b ≡ true) × (z ≡ taken_ports_in owners flags a b)
  unfolding inputs_free
  inputs_taken z e = go (taken_in marks links owners flags v a b) (sym is ∙ e)
    where
      go : (t : Bool) → ◌≡◌ {A = Result (Unit {0}) Refusal} (cond t (Err (taken_ports_in owners flags a b)) (Ok tt)) (Err z) → (t ≡ true) × (z ≡ taken_ports_in owners flags a b)
      go true h = (refl, cc)
      go false h = cc

  pub inputs_untaken : (x : Unit {0}) → u ≡ Ok x → taken_in marks links owners flags v a b ≡ false
  unfolding inputs_free
  inputs_untaken x e = go (taken_in marks links owners flags v a b) (sym is ∙ e)
    where
      go : (t : Bool) → ◌≡◌ {A = Result (Unit {0}) Refusal} (cond t (Err (taken_ports_in owners flags a b)) (Ok tt)) (Ok x) → t ≡ false
      go true h = cc
      go false h = refl

-- What a call names tells that no input is taken, unless it is refused.
pub unrefused : {A : Type 0} {x y v : A} (t : Bool) → cond t x y ≡ v → (x ≡ v → ⊥) → (t ≡ false) × (y ≡ v)
unrefused true e n = absurd (n e)
unrefused false e n = (refl, e)
