-- What is left of a walk: from its start that is the whole list, each step takes one item from the front or from the back, and where a step gives the end
-- nothing is left. So a walk gives each item once, from either end, and ends.
-- The laws of the starts (walk_of_.., walk_between, walk_with_neighbours), .._takes_.. and .._ends_empty are statements: they say what the walks do, and nothing rests on them.
use Rattle.std.proofs.lemmas.List.{map-append}
use Rattle.std.proofs.lemmas.Option.{some_pair_parts}
use Rattle.std.proofs.Math.Path.{◌≡◌, refl, ap}
use Rattle.std.proofs.Common.{sym, ◌∙◌}
use Rattle.std.specs.Prelude.{Bool, not, eqb, Some, None}
use Rattle.std.proofs.Math.Bool.{true, false, cond}
use mathlib.Core.List.{List, [], ◌∷◌, ◌++◌, map, map-map, append-nil}
use Prim.Native.Nat.{ℕ, zero, suc, ◌+◌, ◌-◌, ◌≤◌, ◌<◌, min}
use native.Mathlib.Omega.{arith}
use Rattle.std.proofs.Math.Dec.{leb}
use borrow.Author.Tests.{eqb-true, eqb-false, le-leb, lt-leb, leb-true, leb-false}
use Rattle.std.specs.List.{filter}
use Rattle.port_tables.specs.declared.direction.Direction.{Direction}
use Rattle.port_tables.specs.Places.{Wire, touches, at_spot, end_on, far_from}
use Rattle.port_tables.specs.Listing.{filter_same, filter_map, filter_all}
use Rattle.sketches.specs.Plan.{PlanBlock, spot_named}
use Rattle.sketches.specs.PlanLists.{links_of_port, links_of_side, is_own_output, neighbours_of_side, connections, block_names}
use Rattle.sketches.specs.Rows.{row_at, rows_in, block_of, wire_of, hits, newest_hit, oldest_hit}
use Rattle.sketches.specs.SketchTables.{Totals, plan_in}
use Rattle.sketches.specs.SketchWalks.{whole_walk, wire_held, wire_below, wire_above, block_below, next_wire, previous_wire, next_block}
use Rattle.sketches.specs.declared.rows.Row.{Row}
use Rattle.sketches.specs.declared.tests.EndTest.TheVariants as ask
use Rattle.sketches.specs.declared.tests.Test.{Test}
use Rattle.sketches.specs.declared.tests.Test.TheVariants as test
use Rattle.sketches.specs.declared.tests.Walk.{Walk}
use Rattle.sketches.specs.declared.walks.SketchWire.{SketchWire}
use Rattle.sketches.specs.declared.sketch.SketchPort.{SketchPort}
use Rattle.sketches.specs.WalkSteps.{newest_high}
use Rattle.std.proofs.lemmas.List.Elements.{filter-append}

-- the rows from low up to high, newest first
unfoldable pub rows_between : List Row → ℕ → ℕ → List Row
rows_between t low zero = []
rows_between t low (suc i) = cond (leb low i) (row_at t i ∷ rows_between t low i) []

-- the rows that are left of a walk over the first n rows
abbrev pub rows_left : List Row → ℕ → Walk → List Row
rows_left t n w = filter (hits w.test) (rows_between t w.low (min w.high n))

pub all_rows : (t : List Row) (n : ℕ) → rows_between t 0 n ≡ rows_in t n
unfolding rows_between rows_in
all_rows t zero = refl
all_rows t (suc n) = rw (le-leb 0 n (omega arith)) (ap (λ (l : List Row). row_at t n ∷ l) (all_rows t n))

-- at the start, all that are hit
pub whole_left : (t : List Row) (n : ℕ) (x : Test) → rows_left t n (whole_walk n x) ≡ filter (hits x) (rows_in t n)
whole_left t n x = let e : min n n ≡ n = omega arith in ap (filter (hits x)) (ap (rows_between t 0) e ∙ all_rows t n)

-- From the front.

module _ (f : Row → Bool) (t : List Row) (low : ℕ) where
  newest_first_none : (n : ℕ) → newest_hit f t low n ≡ 0 → filter f (rows_between t low n) ≡ []
  unfolding newest_hit rows_between
  newest_first_none zero e = refl
  newest_first_none (suc n) e = go (leb low n) (f (row_at t n)) refl e (newest_first_none n)
    where
      go : (a b : Bool) → f (row_at t n) ≡ b → cond a (cond b (suc n) (newest_hit f t low n)) 0 ≡ 0 → (newest_hit f t low n ≡ 0 → filter f (rows_between t low n) ≡ []) →
          filter f (cond a (row_at t n ∷ rows_between t low n) []) ≡ []
      go true true p q rest = absurd (omega arith)
      go true false p q rest = rw p (rest q)
      go false b p q rest = refl

  newest_first : (n k : ℕ) → newest_hit f t low n ≡ suc k → filter f (rows_between t low n) ≡ row_at t k ∷ filter f (rows_between t low k)
  unfolding newest_hit rows_between
  newest_first zero k e = absurd (omega arith)
  newest_first (suc n) k e = go (leb low n) (f (row_at t n)) refl e (newest_first n k)
    where
      go : (a b : Bool) → f (row_at t n) ≡ b → cond a (cond b (suc n) (newest_hit f t low n)) 0 ≡ suc k → (newest_hit f t low n ≡ suc k → filter f (rows_between t low n) ≡ row_at t k ∷ filter f (rows_between t low k)) →
          filter f (cond a (row_at t n ∷ rows_between t low n) []) ≡ row_at t k ∷ filter f (rows_between t low k)
      go true true p q rest = let e : n ≡ k = omega arith in rw p (ap (λ (m : ℕ). row_at t m ∷ filter f (rows_between t low m)) e)
      go true false p q rest = rw p (rest q)
      go false b p q rest = absurd (omega arith)

-- From the back.

none_between : (t : List Row) (low high : ℕ) → high ≤ low → rows_between t low high ≡ []
unfolding rows_between
none_between t low zero h = refl
none_between t low (suc n) h = rw (lt-leb low n (omega arith))

oldest_last : (t : List Row) (low high : ℕ) → low < high → rows_between t low high ≡ rows_between t (suc low) high ++ (row_at t low ∷ [])
unfolding rows_between
oldest_last t low zero h = absurd (omega arith)
oldest_last t low (suc n) h = go (eqb low n) refl (oldest_last t low n)
  where
    go : (b : Bool) → eqb low n ≡ b → (low < n → rows_between t low n ≡ rows_between t (suc low) n ++ (row_at t low ∷ [])) →
        cond (leb low n) (row_at t n ∷ rows_between t low n) [] ≡ cond (leb (suc low) n) (row_at t n ∷ rows_between t (suc low) n) [] ++ (row_at t low ∷ [])
    go true p rest =
        let e = eqb-true low n p in
        rw (le-leb low n (omega arith), lt-leb (suc low) n (omega arith), none_between t low n (omega arith)) (ap (λ (m : ℕ). row_at t m ∷ []) (sym e))
    go false p rest =
        let d = eqb-false low n p in
        let h : low < n = omega (arith, d) in
        rw (le-leb low n (omega arith), le-leb (suc low) n (omega arith)) (ap (λ (l : List Row). row_at t n ∷ l) (rest h))

module _ (f : Row → Bool) (t : List Row) (high : ℕ) where
  one_back : (low : ℕ) → low < high → (b : Bool) → f (row_at t low) ≡ b → filter f (rows_between t low high) ≡ filter f (rows_between t (suc low) high) ++ cond b (row_at t low ∷ []) []
  one_back low h b e = ap (filter f) (oldest_last t low high h) ∙ filter-append f (rows_between t (suc low) high) (row_at t low ∷ []) ∙ ap (λ (l : List Row). filter f (rows_between t (suc low) high) ++ l) (rw e)

  oldest_last_none : (low n : ℕ) → high ≡ low + n → oldest_hit f t low n ≡ 0 → filter f (rows_between t low high) ≡ []
  unfolding oldest_hit
  oldest_last_none low zero h e = ap (filter f) (none_between t low high (omega arith))
  oldest_last_none low (suc n) h e = go (f (row_at t low)) refl e (oldest_last_none (suc low) n (omega arith))
    where
      go : (b : Bool) → f (row_at t low) ≡ b → cond b (suc low) (oldest_hit f t (suc low) n) ≡ 0 → (oldest_hit f t (suc low) n ≡ 0 → filter f (rows_between t (suc low) high) ≡ []) → filter f (rows_between t low high) ≡ []
      go true p q rest = absurd (omega arith)
      go false p q rest = one_back low (omega arith) false p ∙ append-nil (filter f (rows_between t (suc low) high)) ∙ rest q

  oldest_last_some : (low n k : ℕ) → high ≡ low + n → oldest_hit f t low n ≡ suc k → filter f (rows_between t low high) ≡ filter f (rows_between t (suc k) high) ++ (row_at t k ∷ [])
  unfolding oldest_hit
  oldest_last_some low zero k h e = absurd (omega arith)
  oldest_last_some low (suc n) k h e = go (f (row_at t low)) refl e (oldest_last_some (suc low) n k (omega arith))
    where
      go : (b : Bool) → f (row_at t low) ≡ b → cond b (suc low) (oldest_hit f t (suc low) n) ≡ suc k →
          (oldest_hit f t (suc low) n ≡ suc k → filter f (rows_between t (suc low) high) ≡ filter f (rows_between t (suc k) high) ++ (row_at t k ∷ [])) →
          filter f (rows_between t low high) ≡ filter f (rows_between t (suc k) high) ++ (row_at t k ∷ [])
      go true p q rest = let e : low ≡ k = omega arith in one_back low (omega arith) true p ∙ ap (λ (m : ℕ). filter f (rows_between t (suc m) high) ++ (row_at t m ∷ [])) e
      go false p q rest = one_back low (omega arith) false p ∙ append-nil (filter f (rows_between t (suc low) high)) ∙ rest q

-- The steps.

none_there : (f : Row → Bool) (t : List Row) (i n k : ℕ) → n ≡ 0 → oldest_hit f t i n ≡ suc k → ⊥
unfolding oldest_hit
none_there f t i zero k z e = omega arith
none_there f t i (suc n) k z e = omega arith

-- the wires that are left, as they are given
abbrev pub wires_left : List Row → ℕ → Walk → List SketchWire
wires_left t n w = map (λ r. wire_held (wire_of r)) (rows_left t n w)

module _ (t : List Row) (n : ℕ) (w : Walk) where
  -- the next wire is the first of those that are left
  pub next_takes_first : (x : SketchWire) (v : Walk) → next_wire t n w ≡ Some (x, v) → wires_left t n w ≡ x ∷ wires_left t n v
  unfolding next_wire
  next_takes_first x v e = go (newest_hit (hits w.test) t w.low (min w.high n)) refl e
    where
      go : (k : ℕ) → newest_hit (hits w.test) t w.low (min w.high n) ≡ k → wire_below t w k ≡ Some (x, v) → wires_left t n w ≡ x ∷ wires_left t n v
      go zero p q = absurd (let z : ◌≡◌ {A = ℕ} 0 1 = cc in omega arith)
      go (suc k) p q =
          let a : wire_held (wire_of (row_at t k)) ≡ x = (some_pair_parts _ _ _ _ q).0 in
          let c : record { low = w.low; high = k; test = w.test } ≡ v = (some_pair_parts _ _ _ _ q).1 in
          let h = newest_high (hits w.test) t w.low (min w.high n) in
          let m : min k n ≡ k = omega arith in
          ap (map (λ r. wire_held (wire_of r))) (newest_first (hits w.test) t w.low (min w.high n) k p)
          ∙ ap (λ (y : SketchWire). y ∷ map (λ r. wire_held (wire_of r)) (filter (hits w.test) (rows_between t w.low k))) a
          ∙ ap (λ (j : ℕ). x ∷ map (λ r. wire_held (wire_of r)) (filter (hits w.test) (rows_between t w.low j))) (sym m)
          ∙ ap (λ (u : Walk). x ∷ wires_left t n u) c

  pub next_ends_empty : next_wire t n w ≡ None → wires_left t n w ≡ []
  unfolding next_wire
  next_ends_empty e = go (newest_hit (hits w.test) t w.low (min w.high n)) refl e
    where
      go : (k : ℕ) → newest_hit (hits w.test) t w.low (min w.high n) ≡ k → wire_below t w k ≡ None → wires_left t n w ≡ []
      go zero p q = ap (map (λ r. wire_held (wire_of r))) (newest_first_none (hits w.test) t w.low (min w.high n) p)
      go (suc k) p q = absurd (let z : ◌≡◌ {A = ℕ} 0 1 = cc in omega arith)

  -- from the back, the last of them
  pub previous_takes_last : (x : SketchWire) (v : Walk) → previous_wire t n w ≡ Some (x, v) → wires_left t n w ≡ wires_left t n v ++ (x ∷ [])
  unfolding previous_wire
  previous_takes_last x v e = go (oldest_hit (hits w.test) t w.low (min w.high n - w.low)) refl e (leb w.low (min w.high n)) refl
    where
      go : (k : ℕ) → oldest_hit (hits w.test) t w.low (min w.high n - w.low) ≡ k → wire_above t w k ≡ Some (x, v) → (b : Bool) → leb w.low (min w.high n) ≡ b → wires_left t n w ≡ wires_left t n v ++ (x ∷ [])
      go zero p q b l = absurd (let z : ◌≡◌ {A = ℕ} 0 1 = cc in omega arith)
      go (suc k) p q true l =
          let a : wire_held (wire_of (row_at t k)) ≡ x = (some_pair_parts _ _ _ _ q).0 in
          let c : record { low = suc k; high = w.high; test = w.test } ≡ v = (some_pair_parts _ _ _ _ q).1 in
          let h = leb-true w.low (min w.high n) l in
          ap (map (λ r. wire_held (wire_of r))) (oldest_last_some (hits w.test) t (min w.high n) w.low (min w.high n - w.low) k (omega arith) p)
          ∙ map-append (λ r. wire_held (wire_of r)) (filter (hits w.test) (rows_between t (suc k) (min w.high n))) (row_at t k ∷ [])
          ∙ ap (λ (y : SketchWire). map (λ r. wire_held (wire_of r)) (filter (hits w.test) (rows_between t (suc k) (min w.high n))) ++ (y ∷ [])) a
          ∙ ap (λ (u : Walk). wires_left t n u ++ (x ∷ [])) c
      go (suc k) p q false l =
          let h = leb-false w.low (min w.high n) l in
          let z : min w.high n - w.low ≡ 0 = omega arith in
          absurd (none_there (hits w.test) t w.low (min w.high n - w.low) k z p)

  pub previous_ends_empty : previous_wire t n w ≡ None → wires_left t n w ≡ []
  unfolding previous_wire
  previous_ends_empty e = go (oldest_hit (hits w.test) t w.low (min w.high n - w.low)) refl e (leb w.low (min w.high n)) refl
    where
      go : (k : ℕ) → oldest_hit (hits w.test) t w.low (min w.high n - w.low) ≡ k → wire_above t w k ≡ None → (b : Bool) → leb w.low (min w.high n) ≡ b → wires_left t n w ≡ []
      go zero p q true l =
          let h = leb-true w.low (min w.high n) l in
          ap (map (λ r. wire_held (wire_of r))) (oldest_last_none (hits w.test) t (min w.high n) w.low (min w.high n - w.low) (omega arith) p)
      go zero p q false l =
          let h = leb-false w.low (min w.high n) l in
          ap (λ (z : List Row). map (λ r. wire_held (wire_of r)) (filter (hits w.test) z)) (none_between t w.low (min w.high n) (omega arith))
      go (suc k) p q b l = absurd (let z : ◌≡◌ {A = ℕ} 0 1 = cc in omega arith)

-- The lists of a plan are those of the walks.

filter_twice : {A : Type 0} (f g : A → Bool) (l : List A) → filter g (filter f l) ≡ filter (λ a. cond (f a) (g a) false) l
filter_twice f g [] = refl
filter_twice {A} f g (x ∷ l) = go (f x) (g x) refl (filter_twice f g l)
  where
    go : (a b : Bool) → g x ≡ b → filter g (filter f l) ≡ filter (λ a. cond (f a) (g a) false) l →
        filter g (cond a (x ∷ filter f l) (filter f l)) ≡ cond (cond a (g x) false) (x ∷ filter (λ a. cond (f a) (g a) false) l) (filter (λ a. cond (f a) (g a) false) l)
    go true true p e = rw p (ap (λ (r : List A). x ∷ r) e)
    go true false p e = rw p e
    go false b p e = e

module _ (b s w : List Row) (h : Totals) where
  listed : (g : Wire → Bool) (x : Test) → ((r : Row) → hits x r ≡ g (wire_of r)) → wires_left w h.wires (whole_walk h.wires x) ≡ map wire_held (filter g (plan_in b s w h).wires)
  listed g x e =
      ap (map (λ r. wire_held (wire_of r))) (whole_left w h.wires x ∙ filter_same (hits x) (λ r. g (wire_of r)) (rows_in w h.wires) (λ r i. e r))
      ∙ sym (map-map wire_held wire_of (filter (λ r. g (wire_of r)) (rows_in w h.wires)))
      ∙ ap (map wire_held) (sym (filter_map wire_of g (rows_in w h.wires)))

  pub walk_of_port : (x : SketchPort) → wires_left w h.wires (whole_walk h.wires (test.Wire (ask.AtPort x))) ≡ map wire_held (links_of_port (plan_in b s w h) x)
  walk_of_port x = listed (touches (at_spot (spot_named x))) (test.Wire (ask.AtPort x)) (λ r. refl)

  pub walk_of_side : (n : ℕ) (d : Direction) → wires_left w h.wires (whole_walk h.wires (test.Side n d)) ≡ map wire_held (links_of_side (plan_in b s w h) n d)
  walk_of_side n d = listed (λ v. eqb (end_on d v).node n) (test.Side n d) (λ r. refl)

  pub walk_between : (n k : ℕ) → wires_left w h.wires (whole_walk h.wires (test.Between n k)) ≡ map wire_held (connections (plan_in b s w h) n k)
  walk_between n k =
      listed (λ v. cond (eqb v.out.node n) (eqb v.into.node k) false) (test.Between n k) (λ r. refl)
      ∙ ap (map wire_held) (sym (filter_twice (λ (v : Wire). eqb v.out.node n) (λ (v : Wire). eqb v.into.node k) (plan_in b s w h).wires))

  pub walk_of_all : wires_left w h.wires (whole_walk h.wires test.Every) ≡ map wire_held (plan_in b s w h).wires
  walk_of_all = listed (λ v. true) test.Every (λ r. refl) ∙ ap (map wire_held) (filter_all (λ (v : Wire). true) (plan_in b s w h).wires (λ v i. refl))

  -- one far block for each wire of the walk
  pub walk_of_neighbours : (n : ℕ) (d : Direction) (flag : Bool) →
      map (λ v. (far_from d v).node) (filter (λ v. cond (eqb (end_on d v).node n) (not (is_own_output n flag (far_from d v))) false) (plan_in b s w h).wires) ≡ neighbours_of_side (plan_in b s w h) n d flag
  walk_of_neighbours n d flag =
      ap (map (λ v. (far_from d v).node)) (sym (filter_twice (λ (v : Wire). eqb (end_on d v).node n) (λ (v : Wire). not (is_own_output n flag (far_from d v))) (plan_in b s w h).wires))

  pub walk_with_neighbours : (n : ℕ) (d : Direction) (flag : Bool) →
      wires_left w h.wires (whole_walk h.wires (test.Neighbour n d flag)) ≡ map wire_held (filter (λ v. cond (eqb (end_on d v).node n) (not (is_own_output n flag (far_from d v))) false) (plan_in b s w h).wires)
  walk_with_neighbours n d flag = listed (λ v. cond (eqb (end_on d v).node n) (not (is_own_output n flag (far_from d v))) false) (test.Neighbour n d flag) (λ r. refl)

-- Blocks.

abbrev pub names_left : List Row → ℕ → Walk → List ℕ
names_left t n w = map (λ r. r.0) (rows_left t (min n 3072) w)

module _ (t : List Row) (n : ℕ) (w : Walk) where
  pub block_takes_first : (x : ℕ) (v : Walk) → next_block t n w ≡ Some (x, v) → names_left t n w ≡ x ∷ names_left t n v
  unfolding next_block
  block_takes_first x v e = go (newest_hit (hits w.test) t w.low (min w.high (min n 3072))) refl e
    where
      go : (k : ℕ) → newest_hit (hits w.test) t w.low (min w.high (min n 3072)) ≡ k → block_below t w k ≡ Some (x, v) → names_left t n w ≡ x ∷ names_left t n v
      go zero p q = absurd (let z : ◌≡◌ {A = ℕ} 0 1 = cc in omega arith)
      go (suc k) p q =
          let a : (row_at t k).0 ≡ x = (some_pair_parts _ _ _ _ q).0 in
          let c : record { low = w.low; high = k; test = w.test } ≡ v = (some_pair_parts _ _ _ _ q).1 in
          let h = newest_high (hits w.test) t w.low (min w.high (min n 3072)) in
          let m : min k (min n 3072) ≡ k = omega arith in
          ap (map (λ r. r.0)) (newest_first (hits w.test) t w.low (min w.high (min n 3072)) k p)
          ∙ ap (λ (y : ℕ). y ∷ map (λ r. r.0) (filter (hits w.test) (rows_between t w.low k))) a
          ∙ ap (λ (j : ℕ). x ∷ map (λ r. r.0) (filter (hits w.test) (rows_between t w.low j))) (sym m)
          ∙ ap (λ (u : Walk). x ∷ names_left t n u) c

  pub block_ends_empty : next_block t n w ≡ None → names_left t n w ≡ []
  unfolding next_block
  block_ends_empty e = go (newest_hit (hits w.test) t w.low (min w.high (min n 3072))) refl e
    where
      go : (k : ℕ) → newest_hit (hits w.test) t w.low (min w.high (min n 3072)) ≡ k → block_below t w k ≡ None → names_left t n w ≡ []
      go zero p q = ap (map (λ r. r.0)) (newest_first_none (hits w.test) t w.low (min w.high (min n 3072)) p)
      go (suc k) p q = absurd (let z : ◌≡◌ {A = ℕ} 0 1 = cc in omega arith)

-- the names of all blocks, where there are no more rows than a table has
pub walk_of_blocks : (b s w : List Row) (h : Totals) → h.blocks ≤ 3072 → names_left b h.blocks (whole_walk h.blocks test.Every) ≡ block_names (plan_in b s w h)
walk_of_blocks b s w h l =
    let e : min h.blocks (min h.blocks 3072) ≡ h.blocks = omega arith in
    ap (λ (k : List Row). map (λ r. r.0) (filter (hits test.Every) k)) (ap (rows_between b 0) e ∙ all_rows b h.blocks)
    ∙ ap (map (λ r. r.0)) (filter_all (hits test.Every) (rows_in b h.blocks) (λ r i. refl))
    ∙ sym (map-map (λ (x : PlanBlock). x.name) block_of (rows_in b h.blocks))
