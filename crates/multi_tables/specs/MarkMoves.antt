-- Marks laid within their own table: what a copy within it gives, in which order two sides go, and that this lays the marks of a node
-- whose ports move.
use Rattle.std.specs.Prelude.{◌≡◌, refl, Bool, ◌⊎◌, ℕ, ◌+◌, ◌≤◌, ◌<◌, zero, suc, min, ◌-◌, leb, set, length}
use Rattle.std.proofs.Math.Path.{ap, sym}
use Rattle.std.proofs.Common.{◌∙◌, ⊎_elim, ext_get_or}
use Rattle.std.proofs.Math.Bool.{true, false}
use Rattle.std.proofs.Math.Logic.{inl, inr}
use mathlib.Core.List.{List}
use native.Mathlib.Omega.{arith}
use Rattle.std.proofs.Math.Dec.{ltb}
use Rattle.std.proofs.Math.ListN.{get_or}
use Rattle.std.proofs.lemmas.List.{set_comm, set-get_or}
use borrow.Author.Tests.{leb-true, leb-false, ltb-true, ltb-false}
use Rattle.port_tables.specs.Tables.{Within, fill}
use Rattle.multi_tables.specs.Forms.{lay_range, lay_kept, unmark_new, before_end, unmark_old, lay_marks}
use Rattle.port_tables.specs.declared.node_entry.NodeMeta.{NodeMeta}
use Rattle.multi_tables.specs.MarkLaws.{get_d_lay_range_out, length_lay_range, get_d_lay_range_in, length_lay_marks, lay_kept_in, lay_kept_out, lay_new, lay_old, lay_else}
use Rattle.port_tables.specs.TableSteps.{length_fill, get_d_fill_in, get_d_fill_out}

-- a slot is among n from f on, or it is not
pub within_cases : (f n s : ℕ) → Within f n s ⊎ (f ≤ s → s < f + n → ⊥)
within_cases f n s = go (leb f s) (ltb s (f + n)) refl refl
  where
    go : (a b : Bool) → leb f s ≡ a → ltb s (f + n) ≡ b → Within f n s ⊎ (f ≤ s → s < f + n → ⊥)
    go true true p q = inl (leb-true f s p, ltb-true s (f + n) q)
    go true false p q = let h = ltb-false s (f + n) q in inr (λ a b. omega arith)
    go false b p q = let h = leb-false f s p in inr (λ a b. omega arith)

-- a slot that is not among them, and not before them, is after them
after : (f n s : ℕ) → f ≤ s → (f ≤ s → s < f + n → ⊥) → f + n ≤ s
after f n s p h = go (ltb s (f + n)) refl
  where
    go : (b : Bool) → ltb s (f + n) ≡ b → f + n ≤ s
    go true e = absurd (h p (ltb-true s (f + n) e))
    go false e = ltb-false s (f + n) e

-- Marks that are copied within their table.

-- what a copy gives, read by slots, is what laying gives
pub copied_within : (t m : List Bool) (i j n : ℕ) → j + n ≤ length t → length m ≡ length t
    → ((s : ℕ) (d : Bool) → j ≤ s → s < j + n → get_or m s d ≡ get_or t (i + (s - j)) d)
    → ((s : ℕ) (d : Bool) → s < j → get_or m s d ≡ get_or t s d) → ((s : ℕ) (d : Bool) → j + n ≤ s → get_or m s d ≡ get_or t s d)
    → m ≡ lay_range t t i j n
copied_within t m i j n fit long copied below above =
    ext_get_or false m (lay_range t t i j n) (long ∙ sym (length_lay_range n t t i j)) (λ s l. ⊎_elim (inside s) (outside s) (within_cases j n s))
  where
    inside : (s : ℕ) → Within j n s → get_or m s false ≡ get_or (lay_range t t i j n) s false
    inside s w =
        let low = w.0 in
        let high = w.1 in
        let p : j + (s - j) ≡ s = omega arith in
        copied s false low high ∙ sym (rw p at (get_d_lay_range_in n t t i j (s - j) (omega arith) (omega arith)))

    outside : (s : ℕ) → (j ≤ s → s < j + n → ⊥) → get_or m s false ≡ get_or (lay_range t t i j n) s false
    outside s h = go (ltb s j) refl
      where
        go : (b : Bool) → ltb s j ≡ b → get_or m s false ≡ get_or (lay_range t t i j n) s false
        go true e = below s false (ltb-true s j e) ∙ sym (get_d_lay_range_out n t t i j s h)
        go false e = above s false (after j n s (ltb-false s j e) h) ∙ sym (get_d_lay_range_out n t t i j s h)

-- marks that stay where they are
pub lay_same : (n : ℕ) (t : List Bool) (i : ℕ) → lay_range t t i i n ≡ t
unfolding lay_range
lay_same zero t i = refl
lay_same (suc n) t i = ap (λ (x : List Bool). lay_range x t (suc i) (suc i) n) (set-get_or t i false) ∙ lay_same n t (suc i)

-- Two sides.

-- marks come from another table that has the same ones
lay_source : (n : ℕ) (m t t' : List Bool) (i j : ℕ) → ((s : ℕ) → Within i n s → get_or t s false ≡ get_or t' s false) → lay_range m t i j n ≡ lay_range m t' i j n
unfolding lay_range
lay_source zero m t t' i j h = refl
lay_source (suc n) m t t' i j h =
    ap (λ (v : Bool). lay_range (set m j v) t (suc i) (suc j) n) (h i (omega arith, omega arith))
    ∙ lay_source n (set m j (get_or t' i false)) t t' (suc i) (suc j) (λ s w. let a = w.0 in let b = w.1 in h s (omega arith, omega arith))

-- a mark stored elsewhere, before or after
lay_set : (n : ℕ) (m t : List Bool) (i j s : ℕ) (v : Bool) → (j ≤ s → s < j + n → ⊥) → lay_range (set m s v) t i j n ≡ set (lay_range m t i j n) s v
unfolding lay_range
lay_set zero m t i j s v h = refl
lay_set (suc n) m t i j s v h =
    ap (λ (x : List Bool). lay_range x t (suc i) (suc j) n) (set_comm m s j v (get_or t i false) (λ e. h (omega arith) (omega arith)))
    ∙ lay_set n (set m j (get_or t i false)) t (suc i) (suc j) s v (λ a b. h (omega arith) (omega arith))

-- two ranges apart, in either order
lay_either : (a b : ℕ) (m t : List Bool) (i j k l : ℕ) → ((s : ℕ) → Within j a s → Within l b s → ⊥) → lay_range (lay_range m t i j a) t k l b ≡ lay_range (lay_range m t k l b) t i j a
unfolding lay_range
lay_either zero b m t i j k l h = refl
lay_either (suc a) b m t i j k l h =
    lay_either a b (set m j (get_or t i false)) t (suc i) (suc j) k l (λ s v w. let p = v.0 in let q = v.1 in h s (omega arith, omega arith) w)
    ∙ ap (λ (x : List Bool). lay_range x t (suc i) (suc j) a) (lay_set b m t k l j (get_or t i false) (λ p q. h j (omega arith, omega arith) (p, q)))

module _ (t t₁ t₂ : List Bool) (a b : NodeMeta) where
  abbrev old_out : ℕ
  old_out = a.first_port.0 + a.incoming

  abbrev new_out : ℕ
  new_out = b.first_port.0 + b.incoming

  -- the node goes down, or stays: incoming ports first
  kept_in_first : b.first_port.0 ≤ a.first_port.0
      → t₁ ≡ lay_range t t a.first_port.0 b.first_port.0 (min a.incoming b.incoming)
      → t₂ ≡ lay_range t₁ t₁ old_out new_out (min a.outgoing b.outgoing) → t₂ ≡ lay_kept t t a b
  unfolding lay_kept
  kept_in_first low e f =
      let same : (s : ℕ) → Within old_out (min a.outgoing b.outgoing) s → get_or t₁ s false ≡ get_or t s false =
      λ s w. let p = w.0 in ap (λ (x : List Bool). get_or x s false) e ∙ get_d_lay_range_out (min a.incoming b.incoming) t t a.first_port.0 b.first_port.0 s (λ u v. omega arith) in
      f ∙ (lay_source (min a.outgoing b.outgoing) t₁ t₁ t old_out new_out same ∙ ap (λ (x : List Bool). lay_range x t old_out new_out (min a.outgoing b.outgoing)) e)

  -- it goes up: outgoing ports first
  kept_out_first : a.first_port.0 < b.first_port.0
      → t₁ ≡ lay_range t t old_out new_out (min a.outgoing b.outgoing)
      → t₂ ≡ lay_range t₁ t₁ a.first_port.0 b.first_port.0 (min a.incoming b.incoming) → t₂ ≡ lay_kept t t a b
  unfolding lay_kept
  kept_out_first high e f =
      let same : (s : ℕ) → Within a.first_port.0 (min a.incoming b.incoming) s → get_or t₁ s false ≡ get_or t s false =
      λ s w. let p = w.1 in ap (λ (x : List Bool). get_or x s false) e ∙ get_d_lay_range_out (min a.outgoing b.outgoing) t t old_out new_out s (λ u v. omega arith) in
      f ∙ (lay_source (min a.incoming b.incoming) t₁ t₁ t a.first_port.0 b.first_port.0 same
      ∙ (ap (λ (x : List Bool). lay_range x t a.first_port.0 b.first_port.0 (min a.incoming b.incoming)) e
      ∙ lay_either (min a.outgoing b.outgoing) (min a.incoming b.incoming) t t old_out new_out a.first_port.0 b.first_port.0 (λ s v w. let p = v.0 in let q = w.1 in omega arith)))

-- Two ranges unmarked.
module _ (l : List Bool) (i n j k s : ℕ) where
  unmarked_out : (i ≤ s → s < i + n → ⊥) → (j ≤ s → s < j + k → ⊥) → get_or (fill (fill l i n false) j k false) s false ≡ get_or l s false
  unmarked_out h g = get_d_fill_out (fill l i n false) j k s false false g ∙ get_d_fill_out l i n s false false h

  unmarked_in : s < length l → Within i n s ⊎ Within j k s → get_or (fill (fill l i n false) j k false) s false ≡ false
  unmarked_in h w = ⊎_elim second (λ g. get_d_fill_out (fill l i n false) j k s false false g ∙ ⊎_elim first (λ v. absurd (g v.0 v.1)) w) (within_cases j k s)
    where
      second : Within j k s → get_or (fill (fill l i n false) j k false) s false ≡ false
      second v = let long = length_fill l i n false in get_d_fill_in (fill l i n false) j k s false false (omega arith) v.0 v.1

      first : Within i n s → get_or (fill l i n false) s false ≡ false
      first v = get_d_fill_in l i n s false false h v.0 v.1

-- All marks of a node.
module _ (t : List Bool) (a b : NodeMeta) where
  abbrev kept_in : ℕ
  kept_in = min a.incoming b.incoming

  abbrev kept_out : ℕ
  kept_out = min a.outgoing b.outgoing

  length_kept : length (lay_kept t t a b) ≡ length t
  unfolding lay_kept
  length_kept = length_lay_range kept_out _ t _ _ ∙ length_lay_range kept_in t t _ _

  length_new : length (unmark_new (lay_kept t t a b) a b) ≡ length t
  unfolding unmark_new
  length_new = length_fill (fill (lay_kept t t a b) _ _ false) _ _ false ∙ (length_fill (lay_kept t t a b) _ _ false ∙ length_kept)

  length_all : length (unmark_old (unmark_new (lay_kept t t a b) a b) a b) ≡ length t
  unfolding unmark_old
  length_all = length_fill (fill (unmark_new (lay_kept t t a b) a b) _ _ false) _ _ false ∙ (length_fill (unmark_new (lay_kept t t a b) a b) _ _ false ∙ length_new)

  module _ (s : ℕ) (fit : s < length t) where
    abbrev laid : Bool
    laid = get_or (lay_marks t a b) s false

    -- a slot of a new port is not among those that are left
    new_stays : Within b.first_port.0 (b.incoming + b.outgoing) s → get_or (unmark_old (unmark_new (lay_kept t t a b) a b) a b) s false ≡ get_or (unmark_new (lay_kept t t a b) a b) s false
    unfolding unmark_old
    new_stays w =
        let p = w.0 in
        let q = w.1 in
        unmarked_out (unmark_new (lay_kept t t a b) a b) _ _ _ _ s (λ u v. omega arith) (λ u v. omega arith)

    -- nor is a kept one among the new ones
    kept_stays : (b.first_port.0 + kept_in ≤ s → s < b.first_port.0 + b.incoming → ⊥) → (b.first_port.0 + b.incoming + kept_out ≤ s → ⊥)
        → get_or (unmark_new (lay_kept t t a b) a b) s false ≡ get_or (lay_kept t t a b) s false
    unfolding unmark_new
    kept_stays g h = unmarked_out (lay_kept t t a b) _ _ _ _ s (λ u v. g u (omega arith)) (λ u v. h u)

    kept_in_lem : Within b.first_port.0 kept_in s → get_or (unmark_new (lay_kept t t a b) a b) s false ≡ laid
    unfolding lay_kept
    kept_in_lem w =
        let p = w.0 in
        let q = w.1 in
        let e : b.first_port.0 + (s - b.first_port.0) ≡ s = omega arith in
        let one = kept_stays (λ u v. omega arith) (λ u. omega arith) in
        let two = get_d_lay_range_out kept_out (lay_range t t a.first_port.0 b.first_port.0 kept_in) t (a.first_port.0 + a.incoming) (b.first_port.0 + b.incoming) s (λ u v. omega arith) in
        let three = get_d_lay_range_in kept_in t t a.first_port.0 b.first_port.0 (s - b.first_port.0) (omega arith) (omega arith) in
        let four = lay_kept_in t a b (s - b.first_port.0) (omega arith) (omega arith) in
        one ∙ (two ∙ (rw e at (three ∙ sym four)))

    kept_out_lem : Within (b.first_port.0 + b.incoming) kept_out s → get_or (unmark_new (lay_kept t t a b) a b) s false ≡ laid
    unfolding lay_kept
    kept_out_lem w =
        let p = w.0 in
        let q = w.1 in
        let e : b.first_port.0 + b.incoming + (s - (b.first_port.0 + b.incoming)) ≡ s = omega arith in
        let long = length_lay_range kept_in t t a.first_port.0 b.first_port.0 in
        let one = kept_stays (λ u v. omega arith) (λ u. omega arith) in
        let two = get_d_lay_range_in kept_out (lay_range t t a.first_port.0 b.first_port.0 kept_in) t (a.first_port.0 + a.incoming) (b.first_port.0 + b.incoming) (s - (b.first_port.0 + b.incoming)) (omega arith) (omega arith) in
        let three = lay_kept_out t a b (s - (b.first_port.0 + b.incoming)) (omega arith) (omega arith) in
        one ∙ (rw e at (two ∙ sym three))

    module _ (w : Within b.first_port.0 (b.incoming + b.outgoing) s) where
      fresh : (b.first_port.0 ≤ s → s < b.first_port.0 + kept_in → ⊥) → (b.first_port.0 + b.incoming ≤ s → s < b.first_port.0 + b.incoming + kept_out → ⊥)
          → get_or (unmark_new (lay_kept t t a b) a b) s false ≡ laid
      unfolding unmark_new
      fresh g h =
          let long = length_kept in
          let q = w.1 in
          unmarked_in (lay_kept t t a b) _ _ _ _ s (omega arith) (go (ltb s (b.first_port.0 + b.incoming)) refl)
          ∙ sym (lay_new t a b s fit w.0 w.1 g h)
        where
          go : (c : Bool) → ltb s (b.first_port.0 + b.incoming) ≡ c → Within (b.first_port.0 + kept_in) (b.incoming - kept_in) s ⊎ Within (b.first_port.0 + b.incoming + kept_out) (b.outgoing - kept_out) s
          go true e =
              let l = ltb-true s (b.first_port.0 + b.incoming) e in
              inl (after b.first_port.0 kept_in s w.0 g, omega arith)
          go false e =
              let l = ltb-false s (b.first_port.0 + b.incoming) e in
              let q = w.1 in
              inr (after (b.first_port.0 + b.incoming) kept_out s l h, omega arith)

      new_laid : get_or (unmark_old (unmark_new (lay_kept t t a b) a b) a b) s false ≡ laid
      new_laid = new_stays w ∙ ⊎_elim kept_in_lem (λ g. ⊎_elim kept_out_lem (fresh g) (within_cases (b.first_port.0 + b.incoming) kept_out s)) (within_cases b.first_port.0 kept_in s)

    module _ (away : b.first_port.0 ≤ s → s < b.first_port.0 + (b.incoming + b.outgoing) → ⊥) where
      -- a slot that is no new port's has its mark still, where it is no old port's either
      still : get_or (unmark_new (lay_kept t t a b) a b) s false ≡ get_or t s false
      unfolding unmark_new lay_kept
      still =
          unmarked_out (lay_kept t t a b) _ _ _ _ s (λ u v. away (omega arith) (omega arith)) (λ u v. away (omega arith) (omega arith))
          ∙ (get_d_lay_range_out kept_out (lay_range t t a.first_port.0 b.first_port.0 kept_in) t (a.first_port.0 + a.incoming) (b.first_port.0 + b.incoming) s (λ u v. away (omega arith) (omega arith))
          ∙ get_d_lay_range_out kept_in t t a.first_port.0 b.first_port.0 s (λ u v. away (omega arith) (omega arith)))

      old_laid : Within a.first_port.0 (a.incoming + a.outgoing) s → get_or (unmark_old (unmark_new (lay_kept t t a b) a b) a b) s false ≡ laid
      unfolding unmark_old
      old_laid w =
          let q = w.1 in
          let long = length_new in
          unmarked_in (unmark_new (lay_kept t t a b) a b) _ _ _ _ s (omega arith) (go (ltb s b.first_port.0) refl)
          ∙ sym (lay_old t a b s away fit w.0 w.1)
        where
          go : (c : Bool) → ltb s b.first_port.0 ≡ c
              → Within a.first_port.0 (min (a.incoming + a.outgoing) (b.first_port.0 - a.first_port.0)) s ⊎ Within (a.first_port.0 + before_end a b) (a.incoming + a.outgoing - before_end a b) s
          go true e =
              let l = ltb-true s b.first_port.0 e in
              let p = w.0 in
              let q = w.1 in
              inl (p, omega arith)
          go false e =
              let l = after b.first_port.0 (b.incoming + b.outgoing) s (ltb-false s b.first_port.0 e) away in
              let p = w.0 in
              let q = w.1 in
              inr (omega arith, omega arith)

      else_laid : (a.first_port.0 ≤ s → s < a.first_port.0 + (a.incoming + a.outgoing) → ⊥) → get_or (unmark_old (unmark_new (lay_kept t t a b) a b) a b) s false ≡ laid
      unfolding unmark_old
      else_laid g =
          unmarked_out (unmark_new (lay_kept t t a b) a b) _ _ _ _ s (λ u v. g u (omega arith)) (λ u v. g (omega arith) (omega arith))
          ∙ (still ∙ sym (lay_else t a b s away g))

  in_place : unmark_old (unmark_new (lay_kept t t a b) a b) a b ≡ lay_marks t a b
  in_place = ext_get_or false _ _ (length_all ∙ sym (length_lay_marks t a b)) (λ s l. at_slot s (omega (arith, length_all)))
    where
      at_slot : (s : ℕ) → s < length t → get_or (unmark_old (unmark_new (lay_kept t t a b) a b) a b) s false ≡ get_or (lay_marks t a b) s false
      at_slot s fit =
          ⊎_elim (new_laid s fit)
          (λ away. ⊎_elim (old_laid s fit away) (else_laid s fit away) (within_cases a.first_port.0 (a.incoming + a.outgoing) s))
          (within_cases b.first_port.0 (b.incoming + b.outgoing) s)

  pub laid_in_place : {t₁ t₂ t₃ : List Bool} → t₁ ≡ lay_kept t t a b → t₂ ≡ unmark_new t₁ a b → t₃ ≡ unmark_old t₂ a b → t₃ ≡ lay_marks t a b
  laid_in_place e f g = rw (g, f, e) in_place

-- What the steps of the code give.

module _ (t : List Bool) {t₁ t₂ : List Bool} (a b : NodeMeta) {old new ai bi incoming ao bo outgoing : ℕ} (e₁ : old ≡ a.first_port.0) (e₂ : new ≡ b.first_port.0)
    (e₃ : ai ≡ a.incoming) (e₄ : bi ≡ b.incoming) (e₅ : incoming ≡ min ai bi) (e₆ : ao ≡ a.outgoing) (e₇ : bo ≡ b.outgoing) (e₈ : outgoing ≡ min ao bo) where
  pub in_first : new ≤ old → t₁ ≡ lay_range t t old new incoming → t₂ ≡ lay_range t₁ t₁ (old + ai) (new + bi) outgoing → t₂ ≡ lay_kept t t a b
  in_first h f g = kept_in_first t t₁ t₂ a b (omega arith) (f ∙ rw (e₅, e₁, e₂, e₃, e₄)) (g ∙ rw (e₈, e₁, e₂, e₃, e₄, e₆, e₇))

  pub out_first : old < new → t₁ ≡ lay_range t t (old + ai) (new + bi) outgoing → t₂ ≡ lay_range t₁ t₁ old new incoming → t₂ ≡ lay_kept t t a b
  out_first h f g = kept_out_first t t₁ t₂ a b (omega arith) (f ∙ rw (e₈, e₁, e₂, e₃, e₄, e₆, e₇)) (g ∙ rw (e₅, e₁, e₂, e₃, e₄))

pub new_unmarked : (t : List Bool) {t₁ t₂ : List Bool} (a b : NodeMeta) {first i o ai ao ki ko : ℕ} →
    first ≡ b.first_port.0 → i ≡ b.incoming → o ≡ b.outgoing → ai ≡ a.incoming → ki ≡ min ai i → ao ≡ a.outgoing → ko ≡ min ao o →
    t₁ ≡ fill t (first + ki) (i - ki) false → t₂ ≡ fill t₁ (first + i + ko) (o - ko) false → t₂ ≡ unmark_new t a b
unfolding unmark_new
new_unmarked t a b e₁ e₂ e₃ e₄ e₅ e₆ e₇ f₁ f₂ = rw (f₂, f₁, e₅, e₇, e₁, e₂, e₃, e₄, e₆)

pub old_unmarked : (t : List Bool) {t₁ t₂ : List Bool} (a b : NodeMeta) {old new ac bc within before count rest : ℕ} →
    old ≡ a.first_port.0 → new ≡ b.first_port.0 → ac ≡ a.incoming + a.outgoing → bc ≡ b.incoming + b.outgoing →
    within ≡ new + bc - old → before ≡ new - old → count ≡ min ac before → rest ≡ ac - within →
    t₁ ≡ fill t old count false → t₂ ≡ fill t₁ (old + within) rest false → t₂ ≡ unmark_old t a b
unfolding unmark_old
old_unmarked t a b e₁ e₂ e₃ e₄ g₁ g₂ g₃ g₄ f₁ f₂ = rw (f₂, f₁, g₄, g₃, g₂, g₁, e₁, e₂, e₃, e₄)
