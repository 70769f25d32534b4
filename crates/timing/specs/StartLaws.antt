-- Laws of the tables that settling begins with: the wires into each block are counted, the first wire out of each is found, and what holds
-- of settling holds at the start.
use Rattle.std.specs.Prelude.{◌≡◌, Bool, true, false, ◌&&◌, ◌⊎◌, eqb, ltb, length, set, drop, Ok, Err}
use Rattle.std.proofs.Math.Path.{refl, subst}
use Rattle.std.proofs.Common.{sym, ap, ◌∙◌, inl, inr, ⊎_elim, length-append, length-set, get_or-set_same, get_or-set_other}
use Rattle.std.proofs.Math.Bool.{cond}
use mathlib.Core.List.{List, [], ◌∷◌, ◌++◌, append_assoc, append-nil}
use Prim.Native.Nat.{ℕ, suc, ◌+◌, ◌≤◌, ◌<◌}
use native.Mathlib.Omega.{arith}
use Rattle.std.proofs.Math.ListN.{get_or}
use Rattle.std.proofs.lemmas.List.{length-replicate}
use Rattle.std.proofs.Math.Seq.{drop-append_seam}
use Rattle.std.proofs.lemmas.Bool.{cases_eq}
use borrow.Author.Tests.{eqb-true, eqb-false, eq-eqb, ne_eqb, lt-ltb}
use Rattle.port_tables.specs.Limits.{node_slots}
use Rattle.port_tables.specs.Lists.{Member, Rising, range}
use Rattle.std.specs.List.{filter}
use Rattle.port_tables.specs.Places.{flag}
use Rattle.port_tables.specs.Listing.{Apart, member_filter, filter_member, rising_filter, range_rises, member_range, range_member, length_range, get_or-replicate_default, numbers_apart}
use Rattle.timing.specs.Longest.{Feed, feeders, comes, largest_sum, longest_among, time_in}
use Rattle.timing.specs.RunOrder.{is_in}
use Rattle.timing.specs.Settling.{Tables, zeros, waits_of, firsts_of, pushed, push_ready, start_tables, wire_done, run_done, settled}
use Rattle.timing.specs.SettleLaws.{into, waiting, group, InOrder, Settling, Settled, waiting_none, member_feeders, settle_ends, settled_comes, unsettled_comes, settled_sum}
use Rattle.timing.specs.declared.answers.LongestError.TheVariants.{Cycle}

pub zeros_long : length zeros ≡ node_slots
unfolding zeros
zeros_long = length-replicate {A = ℕ} node_slots 0

pub zeros_read : (n : ℕ) → get_or zeros n 0 ≡ 0
unfolding zeros
zeros_read n = get_or-replicate_default node_slots n 0

-- Wires into a block.

pub waits_length : (l : List Feed) (w : List ℕ) → length (waits_of l w) ≡ length w
unfolding waits_of
waits_length [] w = refl
waits_length (f ∷ l) w = waits_length l (set w f.target (get_or w f.target 0 + 1)) ∙ length-set w f.target (get_or w f.target 0 + 1)

waits_counted : (l : List Feed) (w : List ℕ) → ((f : Feed) → Member f l → f.target < length w) → (n : ℕ) → get_or (waits_of l w) n 0 ≡ get_or w n 0 + waiting [] n l
unfolding waits_of waiting is_in
waits_counted [] w h n = omega arith
waits_counted (f ∷ l) w h n =
    go (eqb f.target n) refl (waits_counted l (set w f.target (get_or w f.target 0 + 1)) (λ g i. let k = h g (inr i) in let e = length-set w f.target (get_or w f.target 0 + 1) in omega arith) n)
  where
    go : (b : Bool) → eqb f.target n ≡ b → get_or (waits_of l (set w f.target (get_or w f.target 0 + 1))) n 0 ≡ get_or (set w f.target (get_or w f.target 0 + 1)) n 0 + waiting [] n l →
        get_or (waits_of l (set w f.target (get_or w f.target 0 + 1))) n 0 ≡ get_or w n 0 + (flag (b && true) + waiting [] n l)
    go true e r =
        let q = eqb-true f.target n e in
        let a : get_or (set w f.target (get_or w f.target 0 + 1)) n 0 ≡ get_or w n 0 + 1 =
        ap (λ (k : ℕ). get_or (set w f.target (get_or w f.target 0 + 1)) k 0) (sym q) ∙ (get_or-set_same w f.target (get_or w f.target 0 + 1) 0 (h f (inl refl)) ∙ ap (λ (k : ℕ). get_or w k 0 + 1) q) in
        omega arith
    go false e r =
        let a = get_or-set_other w f.target n (get_or w f.target 0 + 1) 0 (λ q. eqb-false f.target n e (sym q)) in
        omega arith

-- Wires out of a block.

pub firsts_length : (l : List Feed) (i : ℕ) (w : List ℕ) → length (firsts_of l i w) ≡ length w
unfolding firsts_of
firsts_length [] i w = refl
firsts_length (f ∷ l) i w = length-set (firsts_of l (suc i) w) f.source i ∙ firsts_length l (suc i) w

abbrev pub Sourced : Feed → Feed → Type 0
Sourced f g = f.source ≤ g.source

-- feeds as a graph has them: by ascending source, between slots
pub record FeedsFit (feeds : List Feed) : Type 0 where
  pub rises : Rising Sourced feeds
  pub below : (p n : ℕ) → Member p (feeders feeds n) → (p < node_slots) × (n < node_slots)

group_none : (b : ℕ) (l : List Feed) → ((f : Feed) → Member f l → f.source ≡ b → ⊥) → group b l ≡ []
unfolding group
group_none b [] h = refl
group_none b (f ∷ l) h = rw (ne_eqb f.source b (h f (inl refl))) (group_none b l (λ g i. h g (inr i)))

-- in an ascending list the wires of the first block are its group
run_group : (b v : ℕ) (l : List Feed) (t : Tables) → Rising Sourced l → ((f : Feed) → Member f l → b ≤ f.source) → run_done b v l t ≡ run_done b v (group b l) t
unfolding run_done group
run_group b v [] t r h = refl
run_group b v (f ∷ l) t r h = go (eqb f.source b) refl (run_group b v l (wire_done b v f.target t) r.1 (λ g i. h g (inr i)))
  where
    go : (a : Bool) → eqb f.source b ≡ a → run_done b v l (wire_done b v f.target t) ≡ run_done b v (group b l) (wire_done b v f.target t) →
        cond a (run_done b v l (wire_done b v f.target t)) t ≡ run_done b v (cond a (f ∷ group b l) (group b l)) t
    go true e q = q ∙ sym (rw (eq-eqb f.source b (eqb-true f.source b e)) refl)
    go false e q =
        let d = eqb-false f.source b e in
        let k = h f (inl refl) in
        sym (ap (λ (x : List Feed). run_done b v x t) (group_none b l (λ g i p. let m = r.0 g i in d (omega arith))))

-- where the wires of a block begin: nowhere, if it has none
data Begins (b : ℕ) (l : List Feed) (i : ℕ) (w : List ℕ) : Type 0 where
  absent : ((f : Feed) → Member f l → f.source ≡ b → ⊥) → get_or (firsts_of l i w) b 0 ≡ get_or w b 0 → Begins b l i w
  present : (x : List Feed) (f : Feed) (y : List Feed) → l ≡ x ++ (f ∷ y) → f.source ≡ b → ((g : Feed) → Member g x → g.source ≡ b → ⊥) → get_or (firsts_of l i w) b 0 ≡ i + length x → Begins b l i w

begins : (b : ℕ) (l : List Feed) (i : ℕ) (w : List ℕ) → b < length w → Begins b l i w
unfolding firsts_of
begins b [] i w h = absent (λ f k. absurd k) refl
begins b (f ∷ l) i w h = go (cases_eq b f.source) (begins b l (suc i) w h)
  where
    inside : b < length (firsts_of l (suc i) w)
    inside = let e = firsts_length l (suc i) w in omega arith

    other : (b ≡ f.source → ⊥) → get_or (set (firsts_of l (suc i) w) f.source i) b 0 ≡ get_or (firsts_of l (suc i) w) b 0
    other k = get_or-set_other (firsts_of l (suc i) w) f.source b i 0 k

    go : (b ≡ f.source) ⊎ (b ≡ f.source → ⊥) → Begins b l (suc i) w → Begins b (f ∷ l) i w
    go (inl e) r =
        present [] f l refl (sym e) (λ g k. absurd k)
        (ap (λ (k : ℕ). get_or (set (firsts_of l (suc i) w) k i) b 0) (sym e) ∙ (get_or-set_same (firsts_of l (suc i) w) b i 0 inside ∙ omega arith))
    go (inr k) (absent n q) = absent (λ g j. ⊎_elim (λ p s. k (sym s ∙ ap (λ (x : Feed). x.source) p)) (n g) j) (other k ∙ q)
    go (inr k) (present x g y p s n q) =
        present (f ∷ x) g y (ap (λ (z : List Feed). f ∷ z) p) s (λ g j. ⊎_elim (λ p s. k (sym s ∙ ap (λ (x : Feed). x.source) p)) (n g) j)
        (let o = other k in omega arith)

group_past : (b : ℕ) (x y : List Feed) → ((g : Feed) → Member g x → g.source ≡ b → ⊥) → group b (x ++ y) ≡ group b y
unfolding group
group_past b [] y h = refl
group_past b (f ∷ x) y h = rw (ne_eqb f.source b (h f (inl refl))) (group_past b x y (λ g i. h g (inr i)))

rising_rest : (x y : List Feed) → Rising Sourced (x ++ y) → Rising Sourced y
rising_rest [] y r = r
rising_rest (f ∷ x) y r = rising_rest x y r.1

run_none : (b v : ℕ) (t : Tables) (l : List Feed) → ((f : Feed) → Member f l → f.source ≡ b → ⊥) → run_done b v l t ≡ t
unfolding run_done
run_none b v t [] n = refl
run_none b v t (f ∷ l) n = rw (ne_eqb f.source b (n f (inl refl)))

-- from the first wire of a block on, those in a row are all that it has
pub grouped : (feeds : List Feed) → Rising Sourced feeds → (b v : ℕ) (t : Tables) → b < node_slots → run_done b v (drop (get_or (firsts_of feeds 0 zeros) b 0) feeds) t ≡ run_done b v (group b feeds) t
grouped feeds r b v t h = go (begins b feeds 0 zeros (let e = zeros_long in omega arith))
  where
    go : Begins b feeds 0 zeros → run_done b v (drop (get_or (firsts_of feeds 0 zeros) b 0) feeds) t ≡ run_done b v (group b feeds) t
    go (absent n q) =
        ap (λ (k : ℕ). run_done b v (drop k feeds) t) (q ∙ zeros_read b)
        ∙ (run_none b v t feeds n ∙ sym (ap (λ (l : List Feed). run_done b v l t) (group_none b feeds n) ∙ run_none b v t [] (λ f i. absurd i)))
    go (present x f y p s n q) =
        let k : get_or (firsts_of feeds 0 zeros) b 0 ≡ length x = omega arith in
        let d : drop (get_or (firsts_of feeds 0 zeros) b 0) feeds ≡ f ∷ y = (λ j. drop (k j) (p j)) ∙ drop-append_seam x (f ∷ y) in
        let u : Rising Sourced (f ∷ y) = rising_rest x (f ∷ y) (subst (Rising Sourced) p r) in
        let g : group b feeds ≡ group b (f ∷ y) = ap (group b) p ∙ group_past b x (f ∷ y) n in
        ap (λ (l : List Feed). run_done b v l t) d
        ∙ (run_group b v (f ∷ y) t u (λ g i. ⊎_elim (λ e. let z = ap (λ (x : Feed). x.source) e in omega arith) (λ j. let m = u.0 g j in omega arith) i)
        ∙ sym (ap (λ (l : List Feed). run_done b v l t) g))

-- The start.

push_ready_lem : (waits l order : List ℕ) → length order + length l ≤ node_slots → push_ready waits l order ≡ order ++ filter (λ n. eqb (get_or waits n 0) 0) l
unfolding push_ready pushed
push_ready_lem waits [] order h = sym (append-nil order)
push_ready_lem waits (n ∷ l) order h =
    go (eqb (get_or waits n 0) 0) (push_ready_lem waits l order (omega arith)) (push_ready_lem waits l (order ++ (n ∷ [])) (let e = length-append order (n ∷ []) in omega arith))
  where
    go : (b : Bool) → push_ready waits l order ≡ order ++ filter (λ n. eqb (get_or waits n 0) 0) l →
        push_ready waits l (order ++ (n ∷ [])) ≡ (order ++ (n ∷ [])) ++ filter (λ n. eqb (get_or waits n 0) 0) l →
        push_ready waits l (cond b (cond (ltb (length order) node_slots) (order ++ (n ∷ [])) order) order) ≡ order ++ cond b (n ∷ filter (λ n. eqb (get_or waits n 0) 0) l) (filter (λ n. eqb (get_or waits n 0) 0) l)
    go true p q = rw (lt-ltb (length order) node_slots (omega arith)) (q ∙ append_assoc order (n ∷ []) (filter (λ n. eqb (get_or waits n 0) 0) l))
    go false p q = p

in_order_none : (feeds : List Feed) (seen l : List ℕ) → ((n p : ℕ) → Member n l → Member p (feeders feeds n) → ⊥) → InOrder feeds seen l
in_order_none feeds seen [] h = tt
in_order_none feeds seen (n ∷ l) h = ((λ p i. absurd (h n p (inl refl) i)), in_order_none feeds (n ∷ seen) l (λ k p i. h k p (inr i)))

module _ (feeds : List Feed) (below : (p n : ℕ) → Member p (feeders feeds n) → (p < node_slots) × (n < node_slots)) where
  abbrev counts : List ℕ
  counts = waits_of feeds zeros

  counted : (n : ℕ) → get_or counts n 0 ≡ waiting [] n feeds
  counted n =
      let z = zeros_read n in
      let e = zeros_long in
      let w = waits_counted feeds zeros (λ f i. let b = (below f.source f.target (member_feeders f feeds i)).1 in omega arith) n in
      omega arith

  is_ready : ℕ → Bool
  is_ready n = eqb (get_or counts n 0) 0

  starts_are : (start_tables feeds).order ≡ filter is_ready (range 0 node_slots)
  unfolding start_tables is_ready
  starts_are = push_ready_lem counts (range 0 node_slots) [] (let e = length_range 0 node_slots in omega arith)

  starts_only : (n : ℕ) → Member n (start_tables feeds).order → (n < node_slots) × (get_or counts n 0 ≡ 0)
  unfolding is_ready
  starts_only n i =
      let g = member_filter is_ready n (range 0 node_slots) (subst (Member n) starts_are i) in
      let r = member_range n 0 node_slots g.0 in
      (omega arith, eqb-true (get_or counts n 0) 0 g.1)

  pub settling_starts : (time : ℕ → ℕ) → Settling feeds time [] [] (start_tables feeds)
  unfolding start_tables is_ready into
  settling_starts time =
      record {
        long_waits = waits_length feeds zeros ∙ zeros_long;
        long_best = zeros_long;
        long_origin = zeros_long;
        waits = λ n h. let e = counted n in omega arith;
        ready = λ n h e. subst (Member n) (sym starts_are) (filter_member is_ready n (range 0 node_slots) (range_member n 0 node_slots (omega arith) (omega arith)) (eq-eqb (get_or counts n 0) 0 e));
        only = starts_only;
        once = subst (Rising Apart) (sym starts_are) (numbers_apart (filter is_ready (range 0 node_slots)) (rising_filter ◌<◌ is_ready (range 0 node_slots) (range_rises 0 node_slots)));
        first = ((start_tables feeds).order, refl);
        fed = in_order_none feeds [] (start_tables feeds).order (λ n p i j. waiting_none [] n feeds (sym (counted n) ∙ (starts_only n i).1) p j);
        above = λ p n i j. absurd j;
        comes_from = λ n p e. let z = zeros_read n in absurd (omega arith);
        from_none = λ n e. zeros_read n;
      }

  module _ (rises : Rising Sourced feeds) (times : List ℕ) where
    pub all_settled : Settled feeds (time_in times) (settled feeds times)
    unfolding settled
    all_settled = settle_ends feeds (firsts_of feeds 0 zeros) times below (grouped feeds rises) node_slots 0 [] (start_tables feeds) (settling_starts (time_in times)) refl (omega arith)

    -- what the tables say of a block is the answer
    pub answer_settled : (n : ℕ) → n < node_slots →
        cond (eqb (get_or (settled feeds times).waits n 0) 0) (Ok (get_or (settled feeds times).best n 0 + time_in times n)) (Err Cycle) ≡ longest_among feeds times n
    unfolding longest_among
    answer_settled n h = go (cases_eq (get_or (settled feeds times).waits n 0) 0)
      where
        go : (get_or (settled feeds times).waits n 0 ≡ 0) ⊎ (get_or (settled feeds times).waits n 0 ≡ 0 → ⊥) →
            cond (eqb (get_or (settled feeds times).waits n 0) 0) (Ok (get_or (settled feeds times).best n 0 + time_in times n)) (Err Cycle) ≡ cond (comes feeds node_slots n) (Err Cycle) (Ok (largest_sum feeds (time_in times) node_slots n))
        go (inl e) =
            let s = all_settled in
            let i = s.ready n h e in
            let c = settled_comes feeds (time_in times) below (settled feeds times) s n i in
            let q : get_or (settled feeds times).best n 0 + time_in times n ≡ largest_sum feeds (time_in times) node_slots n =
            let z = settled_sum feeds (time_in times) below (settled feeds times) s node_slots n i c in omega arith in
            rw (eq-eqb (get_or (settled feeds times).waits n 0) 0 e, c) (ap Ok q)
        go (inr k) =
            let s = all_settled in
            let c = unsettled_comes feeds (time_in times) below (settled feeds times) s node_slots n h (λ i. k (s.only n i).1) in
            rw (ne_eqb (get_or (settled feeds times).waits n 0) 0 k, c) refl
