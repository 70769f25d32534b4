-- Marks of a node whose ports move: a kept port has its old mark at its new slot, new ports and slots left behind are unmarked,
-- and every other slot keeps its mark.
use Rattle.std.specs.Prelude.{◌≡◌, refl, List, Bool, true, ℕ, zero, suc, ◌+◌, ◌≤◌, ◌<◌, min, ◌-◌, get_or, length, set, leb, ltb}
use Rattle.std.proofs.Common.{◌∙◌, subst, arith, length-set, get_or-set_other, get_or-set_same, ext_get_or, leb-true, leb-false, ltb-true, ltb-false}
use Rattle.std.proofs.Math.Bool.{false}
use Rattle.port_tables.specs.Tables.{fill}
use Rattle.multi_tables.specs.Forms.{lay_range, lay_marks}
use Rattle.port_tables.specs.TableSteps.{length_fill, get_d_fill_in, get_d_fill_out}
use Rattle.port_tables.specs.declared.node_entry.NodeMeta.{NodeMeta}

-- A range of marks laid into another list.

pub length_lay_range : (n : ℕ) (marks old : List Bool) (i j : ℕ) → length (lay_range marks old i j n) ≡ length marks
unfolding lay_range
length_lay_range zero marks old i j = refl
length_lay_range (suc n) marks old i j = length_lay_range n (set marks j (get_or old i false)) old (suc i) (suc j) ∙ length-set marks j _

pub get_d_lay_range_out : (n : ℕ) (marks old : List Bool) (i j s : ℕ) → (j ≤ s → s < j + n → ⊥) → get_or (lay_range marks old i j n) s false ≡ get_or marks s false
unfolding lay_range
get_d_lay_range_out zero marks old i j s h = refl
get_d_lay_range_out (suc n) marks old i j s h =
    get_d_lay_range_out n (set marks j (get_or old i false)) old (suc i) (suc j) s (λ a b. h (omega arith) (omega arith))
    ∙ get_or-set_other marks j s _ false (λ e. h (omega arith) (omega arith))

pub get_d_lay_range_in : (n : ℕ) (marks old : List Bool) (i j k : ℕ) → k < n → j + k < length marks → get_or (lay_range marks old i j n) (j + k) false ≡ get_or old (i + k) false
unfolding lay_range
get_d_lay_range_in zero marks old i j k h fit = absurd (omega arith)
get_d_lay_range_in (suc n) marks old i j zero h fit =
    let e : j + zero ≡ j = omega arith in
    let d : i + zero ≡ i = omega arith in
    rw (e, d)
    (get_d_lay_range_out n (set marks j (get_or old i false)) old (suc i) (suc j) j (λ a b. omega arith)
    ∙ get_or-set_same marks j (get_or old i false) false (omega arith))
get_d_lay_range_in (suc n) marks old i j (suc k) h fit =
    let long = length-set marks j (get_or old i false) in
    let e : j + suc k ≡ suc j + k = omega arith in
    let d : i + suc k ≡ suc i + k = omega arith in
    rw (e, d) (get_d_lay_range_in n (set marks j (get_or old i false)) old (suc i) (suc j) k (omega arith) (omega arith))

-- All marks of a node: a is its meta data before, b after.
module _ (marks : List Bool) (a b : NodeMeta) where
  cleared : List Bool
  cleared = fill (fill marks a.first_port.0 (a.incoming + a.outgoing) false) b.first_port.0 (b.incoming + b.outgoing) false

  length_cleared : length cleared ≡ length marks
  unfolding cleared
  length_cleared = length_fill (fill marks _ _ false) _ _ false ∙ length_fill marks _ _ false

  laid_in : List Bool
  laid_in = lay_range cleared marks a.first_port.0 b.first_port.0 (min a.incoming b.incoming)

  length_laid_in : length laid_in ≡ length marks
  unfolding laid_in
  length_laid_in = length_lay_range (min a.incoming b.incoming) cleared marks _ _ ∙ length_cleared

  pub length_lay_marks : length (lay_marks marks a b) ≡ length marks
  unfolding lay_marks cleared laid_in
  length_lay_marks = length_lay_range (min a.outgoing b.outgoing) laid_in marks _ _ ∙ length_laid_in

  pub lay_kept_in : (i : ℕ) → b.first_port.0 + i < length marks → i < min a.incoming b.incoming
      → get_or (lay_marks marks a b) (b.first_port.0 + i) false ≡ get_or marks (a.first_port.0 + i) false
  unfolding lay_marks cleared laid_in
  lay_kept_in i fit h =
      let long = length_cleared in
      get_d_lay_range_out (min a.outgoing b.outgoing) laid_in marks _ _ (b.first_port.0 + i) (λ p q. omega arith)
      ∙ get_d_lay_range_in (min a.incoming b.incoming) cleared marks _ _ i h (omega arith)

  pub lay_kept_out : (i : ℕ) → b.first_port.0 + b.incoming + i < length marks → i < min a.outgoing b.outgoing
      → get_or (lay_marks marks a b) (b.first_port.0 + b.incoming + i) false ≡ get_or marks (a.first_port.0 + a.incoming + i) false
  unfolding lay_marks cleared laid_in
  lay_kept_out i fit h =
      let long = length_laid_in in
      get_d_lay_range_in (min a.outgoing b.outgoing) laid_in marks _ _ i h (omega arith)

  -- a slot into which no mark is laid
  lay_past : (s : ℕ) → (b.first_port.0 ≤ s → s < b.first_port.0 + min a.incoming b.incoming → ⊥)
      → (b.first_port.0 + b.incoming ≤ s → s < b.first_port.0 + b.incoming + min a.outgoing b.outgoing → ⊥)
      → get_or (lay_marks marks a b) s false ≡ get_or cleared s false
  unfolding lay_marks cleared laid_in
  lay_past s h k =
      get_d_lay_range_out (min a.outgoing b.outgoing) laid_in marks _ _ s k
      ∙ get_d_lay_range_out (min a.incoming b.incoming) cleared marks _ _ s h

  -- a new port of the node: within its ports, and no kept one
  pub lay_new : (s : ℕ) → s < length marks → b.first_port.0 ≤ s → s < b.first_port.0 + (b.incoming + b.outgoing)
      → (b.first_port.0 ≤ s → s < b.first_port.0 + min a.incoming b.incoming → ⊥)
      → (b.first_port.0 + b.incoming ≤ s → s < b.first_port.0 + b.incoming + min a.outgoing b.outgoing → ⊥)
      → get_or (lay_marks marks a b) s false ≡ false
  unfolding cleared
  lay_new s fit p q h k =
      let long = length_fill marks a.first_port.0 (a.incoming + a.outgoing) false in
      lay_past s h k ∙ get_d_fill_in (fill marks _ _ false) b.first_port.0 (b.incoming + b.outgoing) s false false (omega arith) p q

  module _ (s : ℕ) (away : b.first_port.0 ≤ s → s < b.first_port.0 + (b.incoming + b.outgoing) → ⊥) where
    lay_away : get_or (lay_marks marks a b) s false ≡ get_or (fill marks a.first_port.0 (a.incoming + a.outgoing) false) s false
    unfolding cleared
    lay_away =
        lay_past s (λ p q. away (omega arith) (omega arith)) (λ p q. away (omega arith) (omega arith))
        ∙ get_d_fill_out (fill marks _ _ false) b.first_port.0 (b.incoming + b.outgoing) s false false away

    -- an old port's slot that is no new port's
    pub lay_old : s < length marks → a.first_port.0 ≤ s → s < a.first_port.0 + (a.incoming + a.outgoing)
        → get_or (lay_marks marks a b) s false ≡ false
    lay_old fit p q = lay_away ∙ get_d_fill_in marks a.first_port.0 (a.incoming + a.outgoing) s false false (omega arith) p q

    -- a slot of neither
    pub lay_else : (a.first_port.0 ≤ s → s < a.first_port.0 + (a.incoming + a.outgoing) → ⊥) → get_or (lay_marks marks a b) s false ≡ get_or marks s false
    lay_else h = lay_away ∙ get_d_fill_out marks a.first_port.0 (a.incoming + a.outgoing) s false false h

-- where nothing moves, no mark changes
pub lay_same : (marks : List Bool) (a : NodeMeta) → a.first_port.0 + (a.incoming + a.outgoing) ≤ length marks → lay_marks marks a a ≡ marks
lay_same marks a fit = ext_get_or false _ _ (length_lay_marks marks a a) (λ s l. at s)
  where
    at : (s : ℕ) → get_or (lay_marks marks a a) s false ≡ get_or marks s false
    at s = go (leb a.first_port.0 s) refl (ltb s (a.first_port.0 + a.incoming)) refl (ltb s (a.first_port.0 + (a.incoming + a.outgoing))) refl
      where
        go : (b : Bool) → leb a.first_port.0 s ≡ b → (c : Bool) → ltb s (a.first_port.0 + a.incoming) ≡ c → (d : Bool) → ltb s (a.first_port.0 + (a.incoming + a.outgoing)) ≡ d
            → get_or (lay_marks marks a a) s false ≡ get_or marks s false
        go false p c q d r = let h = leb-false a.first_port.0 s p in lay_else marks a a s (λ u v. omega arith) (λ u v. omega arith)
        go true p true q d r =
            let h = leb-true a.first_port.0 s p in
            let k = ltb-true s (a.first_port.0 + a.incoming) q in
            let e : a.first_port.0 + (s - a.first_port.0) ≡ s = omega arith in
            subst (λ (i : ℕ). get_or (lay_marks marks a a) i false ≡ get_or marks i false) e (lay_kept_in marks a a (s - a.first_port.0) (omega arith) (omega arith))
        go true p false q true r =
            let k = ltb-false s (a.first_port.0 + a.incoming) q in
            let l = ltb-true s (a.first_port.0 + (a.incoming + a.outgoing)) r in
            let e : a.first_port.0 + a.incoming + (s - (a.first_port.0 + a.incoming)) ≡ s = omega arith in
            subst (λ (i : ℕ). get_or (lay_marks marks a a) i false ≡ get_or marks i false) e (lay_kept_out marks a a (s - (a.first_port.0 + a.incoming)) (omega arith) (omega arith))
        go true p false q false r = let l = ltb-false s (a.first_port.0 + (a.incoming + a.outgoing)) r in lay_else marks a a s (λ u v. omega arith) (λ u v. omega arith)
