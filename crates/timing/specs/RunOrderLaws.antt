-- Laws of run orders: the tests say what they are named for; what the table of places says; and some order is right exactly if no cycle
-- reaches a block.
use Rattle.std.specs.List.{list_all}
use Rattle.std.specs.Prelude.{◌≡◌, refl, Bool, true, false, cond, not, ◌&&◌, ◌||◌, List, [], ◌∷◌, ◌⊎◌, ℕ, suc, ◌+◌, ◌≤◌, ◌<◌, eqb, length, get_or, set}
use Rattle.std.proofs.Common.{sym, ap, ◌∙◌, subst, inl, inr, ⊎_elim, arith, length-set, get_or-set_same, get_or-set_other}
use Rattle.std.proofs.Math.Dec.{ltb}
use Rattle.std.proofs.Math.ListN.{get_or-eq_default}
use Rattle.std.proofs.lemmas.Bool.{and_parts, cases_eq}
use borrow.Author.Tests.{eqb-true, eq-eqb, ltb-true, ltb-false, lt-ltb, not-true}
use Rattle.port_tables.specs.Lists.{Member, Rising, Once}
use Rattle.std.specs.List.{filter}
use Rattle.multiportgraph.specs.HiddenStays.{true_not_false}
use Rattle.port_tables.specs.Listing.{Apart, once_apart, filter_member, partners}
use Rattle.files.specs.SoundLaws.{every_item, item_every}
use Rattle.theorems.proofs.PortListing.{same_length}
use Rattle.multiportgraph.specs.Wires.{blocks}
use Rattle.multiportgraph.specs.declared.multiportgraph.MultiPortGraph.{MultiPortGraph}
use Rattle.timing.specs.Longest.{Feed, feeds_in, feeders}
use Rattle.timing.specs.RunOrder.{is_in, is_distinct, is_before, run_order}
use Rattle.timing.specs.Naming.{marked, Named, named, all_forward}
use Rattle.timing.specs.TimingClaims.{Leads, CycleReaches, Before, RightOrder}
use Rattle.timing.specs.WalkLaws.{member_or_not}
use Rattle.timing.specs.SettleLaws.{feed#, in_member, member_in, feeders_member, member_feeders, InOrder}

-- Tests.

distinct_once : (l : List ℕ) → is_distinct l ≡ true → Once l
unfolding is_distinct
distinct_once [] e = tt
distinct_once (n ∷ l) e =
    let r = and_parts (not (is_in n l)) (is_distinct l) e in
    ((λ i. true_not_false (member_in n l i) (not-true (is_in n l) r.0)), distinct_once l r.1)

once_distinct : (l : List ℕ) → Once l → is_distinct l ≡ true
unfolding is_distinct
once_distinct [] h = refl
once_distinct (n ∷ l) h = go (is_in n l) refl (once_distinct l h.1)
  where
    go : (b : Bool) → is_in n l ≡ b → is_distinct l ≡ true → (not b && is_distinct l) ≡ true
    go true e k = absurd (h.0 (in_member n l e))
    go false e k = k

before_is : (l : List ℕ) (a b : ℕ) → is_before l a b ≡ true → Before l a b
unfolding is_before
before_is [] a b e = absurd (true_not_false e refl)
before_is (n ∷ l) a b e = go (eqb a n && is_in b l) refl e (before_is l a b)
  where
    go : (t : Bool) → (eqb a n && is_in b l) ≡ t → (t || is_before l a b) ≡ true → (is_before l a b ≡ true → Before l a b) → Before (n ∷ l) a b
    go true h k rest = let r = and_parts (eqb a n) (is_in b l) h in inl (eqb-true a n r.0, in_member b l r.1)
    go false h k rest = inr (rest k)

is_before_lem : (l : List ℕ) (a b : ℕ) → Before l a b → is_before l a b ≡ true
unfolding is_before
is_before_lem [] a b never = absurd never
is_before_lem (n ∷ l) a b (inl h) = rw (eq-eqb a n h.0, member_in b l h.1)
is_before_lem (n ∷ l) a b (inr h) = go (eqb a n && is_in b l) (is_before_lem l a b h)
  where
    go : (t : Bool) → is_before l a b ≡ true → (t || is_before l a b) ≡ true
    go true e = refl
    go false e = e

-- Which of two stands before the other.

before_member : (l : List ℕ) (a b : ℕ) → Before l a b → Member a l × Member b l
before_member [] a b never = absurd never
before_member (n ∷ l) a b (inl h) = (inl h.0, inr h.1)
before_member (n ∷ l) a b (inr h) = let r = before_member l a b h in (inr r.0, inr r.1)

before_trans : (l : List ℕ) (a b c : ℕ) → Once l → Before l a b → Before l b c → Before l a c
before_trans [] a b c o never _ = absurd never
before_trans (n ∷ l) a b c o (inl h) (inl k) = absurd (o.0 (subst (λ (x : ℕ). Member x l) k.0 h.1))
before_trans (n ∷ l) a b c o (inl h) (inr k) = inl (h.0, (before_member l b c k).1)
before_trans (n ∷ l) a b c o (inr h) (inl k) = absurd (o.0 (subst (λ (x : ℕ). Member x l) k.0 (before_member l a b h).1))
before_trans (n ∷ l) a b c o (inr h) (inr k) = inr (before_trans l a b c o.1 h k)

before_itself : (l : List ℕ) (a : ℕ) → Once l → Before l a a → ⊥
before_itself [] a o never = absurd never
before_itself (n ∷ l) a o (inl h) = o.0 (subst (λ (x : ℕ). Member x l) h.0 h.1)
before_itself (n ∷ l) a o (inr h) = before_itself l a o.1 h

pub before_filter : (t : ℕ → Bool) (l : List ℕ) (a b : ℕ) → Before l a b → t a ≡ true → t b ≡ true → Before (filter t l) a b
before_filter t [] a b never e f = absurd never
before_filter t (n ∷ l) a b (inl h) e f = rw (ap t (sym h.0) ∙ e) (inl (h.0, filter_member t b l h.1 f))
before_filter t (n ∷ l) a b (inr h) e f = go (t n) (before_filter t l a b h e f)
  where
    go : (c : Bool) → Before (filter t l) a b → Before (cond c (n ∷ filter t l) (filter t l)) a b
    go true k = inr k
    go false k = k

-- in an order in which feeders come first, feeds go forward
in_order_before : (feeds : List Feed) (seen l : List ℕ) → InOrder feeds seen l → (a b : ℕ) → Member a (feeders feeds b) → Member b l → Member a seen ⊎ Before l a b
in_order_before feeds seen [] o a b f never = absurd never
in_order_before feeds seen (n ∷ l) o a b f (inl e) = inl (o.0 a (subst (λ (x : ℕ). Member a (feeders feeds x)) e f))
in_order_before feeds seen (n ∷ l) o a b f (inr i) = go (in_order_before feeds (n ∷ seen) l o.1 a b f i)
  where
    go : Member a (n ∷ seen) ⊎ Before l a b → Member a seen ⊎ Before (n ∷ l) a b
    go (inl (inl e)) = inr (inl (e, i))
    go (inl (inr j)) = inl j
    go (inr h) = inr (inr h)

pub ordered_before : (feeds : List Feed) (l : List ℕ) → InOrder feeds [] l → (a b : ℕ) → Member a (feeders feeds b) → Member b l → Before l a b
ordered_before feeds l o a b f i = ⊎_elim (λ j. absurd j) (λ h. h) (in_order_before feeds [] l o a b f i)

-- along a walk in a right order one stands before the other, so there is no cycle
module _ (is_one : ℕ → Type 0) (feeds : ℕ → ℕ → Type 0) (order : List ℕ) (r : RightOrder is_one feeds order) where
  along : (a b c : ℕ) (l : List ℕ) → feeds a c → Leads feeds c b l → Before order a b
  along a b c [] f e = subst (Before order a) e (r.forward a c f)
  along a b c (d ∷ l) f w = before_trans order a c b r.once (r.forward a c f) (along c b d l w.0 w.1)

  pub right_order_no_cycle : (n : ℕ) → CycleReaches feeds n → ⊥
  right_order_no_cycle n c = before_itself order c.0 r.once (along c.0 c.0 c.1 c.2 c.4.0 c.4.1)

-- The table of places.

one_inside : (l : List ℕ) (n : ℕ) → get_or l n 0 ≡ 1 → n < length l
one_inside l n e = go (ltb n (length l)) refl
  where
    go : (b : Bool) → ltb n (length l) ≡ b → n < length l
    go true k = ltb-true n (length l) k
    go false k = let z = get_or-eq_default l 0 {n = n} (ltb-false n (length l) k) in absurd (omega arith)

-- every number named has 1 in the table, and none is named twice; else the order is not right
named_each : (places : List ℕ) (i : ℕ) (l : List ℕ) → (named places i l).right ≡ true → (n : ℕ) → Member n l → get_or places n 0 ≡ 1
unfolding named
named_each places i [] e n never = absurd never
named_each places i (k ∷ l) e n m = go (eqb (get_or places k 0) 1) refl e m (named_each (set places k (i + 2)) (suc i) l)
  where
    go : (b : Bool) → eqb (get_or places k 0) 1 ≡ b → (cond b (named (set places k (i + 2)) (suc i) l) (record { places = places; right = false })).right ≡ true → (n ≡ k) ⊎ Member n l →
        ((named (set places k (i + 2)) (suc i) l).right ≡ true → (n : ℕ) → Member n l → get_or (set places k (i + 2)) n 0 ≡ 1) → get_or places n 0 ≡ 1
    go true h r (inl p) rest = ap (λ (x : ℕ). get_or places x 0) p ∙ eqb-true (get_or places k 0) 1 h
    go true h r (inr j) rest = ⊎_elim (λ p. ap (λ (x : ℕ). get_or places x 0) p ∙ eqb-true (get_or places k 0) 1 h) (λ d. sym (get_or-set_other places k n (i + 2) 0 d) ∙ rest r n j) (cases_eq n k)
    go false h r m rest = absurd (true_not_false r refl)

-- what holds of the first number and the rest
record First (places : List ℕ) (i k : ℕ) (l : List ℕ) : Type 0 where
  one : get_or places k 0 ≡ 1
  rest : (named (set places k (i + 2)) (suc i) l).right ≡ true
  same : named places i (k ∷ l) ≡ named (set places k (i + 2)) (suc i) l
  written : get_or (set places k (i + 2)) k 0 ≡ i + 2
  apart : Member k l → ⊥

first : (places : List ℕ) (i k : ℕ) (l : List ℕ) → (named places i (k ∷ l)).right ≡ true → First places i k l
unfolding named
first places i k l e = go (eqb (get_or places k 0) 1) refl e
  where
    go : (b : Bool) → eqb (get_or places k 0) 1 ≡ b → (cond b (named (set places k (i + 2)) (suc i) l) (record { places = places; right = false })).right ≡ true → First places i k l
    go true h r =
        let q = eqb-true (get_or places k 0) 1 h in
        let w = get_or-set_same places k (i + 2) 0 (one_inside places k q) in
        record {
          one = q;
          rest = r;
          same = rw h;
          written = w;
          apart = λ j. let z = named_each (set places k (i + 2)) (suc i) l r k j in absurd (omega arith);
        }
    go false h r = absurd (true_not_false r refl)

named_once : (places : List ℕ) (i : ℕ) (l : List ℕ) → (named places i l).right ≡ true → Once l
named_once places i [] e = tt
named_once places i (k ∷ l) e = let f = first places i k l e in (f.apart, named_once (set places k (i + 2)) (suc i) l f.rest)

once_named : (places : List ℕ) (i : ℕ) (l : List ℕ) → ((n : ℕ) → Member n l → get_or places n 0 ≡ 1) → Once l → (named places i l).right ≡ true
unfolding named
once_named places i [] h o = refl
once_named places i (k ∷ l) h o =
    rw (eq-eqb (get_or places k 0) 1 (h k (inl refl)))
    (once_named (set places k (i + 2)) (suc i) l
    (λ n j. get_or-set_other places k n (i + 2) 0 (λ e. o.0 (subst (λ (x : ℕ). Member x l) e j)) ∙ h n (inr j)) o.1)

place_stays : (places : List ℕ) (i : ℕ) (l : List ℕ) → (named places i l).right ≡ true → (n : ℕ) → (Member n l → ⊥) → get_or (named places i l).places n 0 ≡ get_or places n 0
unfolding named
place_stays places i [] e n h = refl
place_stays places i (k ∷ l) e n h =
    let f = first places i k l e in
    ap (λ (r : Named). get_or r.places n 0) f.same
    ∙ (place_stays (set places k (i + 2)) (suc i) l f.rest n (λ j. h (inr j)) ∙ get_or-set_other places k n (i + 2) 0 (λ p. h (inl p)))

place_first : (places : List ℕ) (i k : ℕ) (l : List ℕ) → (named places i (k ∷ l)).right ≡ true → get_or (named places i (k ∷ l)).places k 0 ≡ i + 2
place_first places i k l e =
    let f = first places i k l e in
    ap (λ (r : Named). get_or r.places k 0) f.same ∙ (place_stays (set places k (i + 2)) (suc i) l f.rest k f.apart ∙ f.written)

place_later : (places : List ℕ) (i : ℕ) (l : List ℕ) → (named places i l).right ≡ true → (n : ℕ) → Member n l → i + 2 ≤ get_or (named places i l).places n 0
place_later places i [] e n never = absurd never
place_later places i (k ∷ l) e n (inl p) = let q = place_first places i k l e in subst (λ (x : ℕ). i + 2 ≤ get_or (named places i (k ∷ l)).places x 0) (sym p) (omega arith)
place_later places i (k ∷ l) e n (inr j) =
    let f = first places i k l e in
    let r = place_later (set places k (i + 2)) (suc i) l f.rest n j in
    let q = ap (λ (r : Named). get_or r.places n 0) f.same in
    omega arith

before_places : (places : List ℕ) (i : ℕ) (l : List ℕ) → (named places i l).right ≡ true → (a b : ℕ) → Before l a b → get_or (named places i l).places a 0 < get_or (named places i l).places b 0
before_places places i [] e a b never = absurd never
before_places places i (k ∷ l) e a b (inl h) =
    let f = first places i k l e in
    let x = place_first places i k l e in
    let y = ap (λ (r : Named). get_or r.places b 0) f.same in
    let z = place_later (set places k (i + 2)) (suc i) l f.rest b h.1 in
    subst (λ (n : ℕ). get_or (named places i (k ∷ l)).places n 0 < get_or (named places i (k ∷ l)).places b 0) (sym h.0) (omega arith)
before_places places i (k ∷ l) e a b (inr h) =
    let f = first places i k l e in
    let x = ap (λ (r : Named). get_or r.places a 0) f.same in
    let y = ap (λ (r : Named). get_or r.places b 0) f.same in
    let z = before_places (set places k (i + 2)) (suc i) l f.rest a b h in
    omega arith

places_before : (places : List ℕ) (i : ℕ) (l : List ℕ) → (named places i l).right ≡ true → (a b : ℕ) → Member a l → Member b l →
    get_or (named places i l).places a 0 < get_or (named places i l).places b 0 → Before l a b
places_before places i [] e a b never _ h = absurd never
places_before places i (k ∷ l) e a b (inl p) (inl q) h =
    let x : a ≡ b = p ∙ sym q in
    let y = ap (λ (n : ℕ). get_or (named places i (k ∷ l)).places n 0) x in
    absurd (omega arith)
places_before places i (k ∷ l) e a b (inl p) (inr j) h = inl (p, j)
places_before places i (k ∷ l) e a b (inr j) (inl q) h =
    let f = first places i k l e in
    let x = ap (λ (n : ℕ). get_or (named places i (k ∷ l)).places n 0) q ∙ place_first places i k l e in
    let y = ap (λ (r : Named). get_or r.places a 0) f.same in
    let z = place_later (set places k (i + 2)) (suc i) l f.rest a j in
    absurd (omega arith)
places_before places i (k ∷ l) e a b (inr i₁) (inr j) h =
    let f = first places i k l e in
    let x = ap (λ (r : Named). get_or r.places a 0) f.same in
    let y = ap (λ (r : Named). get_or r.places b 0) f.same in
    inr (places_before (set places k (i + 2)) (suc i) l f.rest a b i₁ j (omega arith))

-- blocks marked in a table of zeros
marked_stays : (l places : List ℕ) (n : ℕ) → (Member n l → ⊥) → get_or (marked l places) n 0 ≡ get_or places n 0
unfolding marked
marked_stays [] places n h = refl
marked_stays (k ∷ l) places n h = marked_stays l (set places k 1) n (λ i. h (inr i)) ∙ get_or-set_other places k n 1 0 (λ e. h (inl e))

marked_one : (l places : List ℕ) (n : ℕ) → Member n l → n < length places → get_or (marked l places) n 0 ≡ 1
unfolding marked
marked_one [] places n never h = absurd never
marked_one (k ∷ l) places n i h = go (member_or_not n l) i (marked_one l (set places k 1) n)
  where
    go : Member n l ⊎ (Member n l → ⊥) → (n ≡ k) ⊎ Member n l → (Member n l → n < length (set places k 1) → get_or (marked l (set places k 1)) n 0 ≡ 1) → get_or (marked l (set places k 1)) n 0 ≡ 1
    go (inl j) i rest = rest j (let e = length-set places k 1 in omega arith)
    go (inr d) (inl p) rest = marked_stays l (set places k 1) n d ∙ (ap (λ (x : ℕ). get_or (set places k 1) x 0) p ∙ get_or-set_same places k 1 0 (let e = p in omega arith))
    go (inr d) (inr j) rest = absurd (d j)

-- What the code finds, of blocks without repeats that have their entry in a table of zeros.
module _ (blocks : List ℕ) (apart : Rising Apart blocks) (table : List ℕ) (zero-there : (n : ℕ) → get_or table n 0 ≡ 0) (inside : (n : ℕ) → Member n blocks → n < length table)
    (feeds : List Feed) (between : (a b : ℕ) → Member a (feeders feeds b) → Member a blocks × Member b blocks) where
  abbrev found : List ℕ → Named
  found order = named (marked blocks table) 0 order

  abbrev Right : List ℕ → Type 0
  Right order = RightOrder (λ n. Member n blocks) (λ a b. Member a (feeders feeds b)) order

  block_marked : (n : ℕ) → get_or (marked blocks table) n 0 ≡ 1 → Member n blocks
  block_marked n e = ⊎_elim (λ i. i) (λ h. let z = marked_stays blocks table n h in let y = zero-there n in absurd (omega arith)) (member_or_not n blocks)

  pub right_length : (order : List ℕ) → Right order → length order ≡ length blocks
  right_length order r = same_length order blocks (once_apart order r.once) apart r.only r.all

  pub right_named : (order : List ℕ) → Right order → (found order).right ≡ true
  right_named order r = once_named (marked blocks table) 0 order (λ n i. let b = r.only n i in marked_one blocks table n b (inside n b)) r.once

  pub right_forward : (order : List ℕ) → Right order → all_forward (found order).places feeds ≡ true
  unfolding all_forward
  right_forward order r =
      item_every (λ (f : Feed). ltb (get_or (found order).places f.source 0) (get_or (found order).places f.target 0)) feeds
      (λ f i. lt-ltb _ _ (before_places (marked blocks table) 0 order (right_named order r) f.source f.target (r.forward f.source f.target (member_feeders f feeds i))))

  pub found_right : (order : List ℕ) → length order ≡ length blocks → (found order).right ≡ true → all_forward (found order).places feeds ≡ true → Right order
  unfolding all_forward
  found_right order long right forward = record { only = only; all = all; once = once; forward = go }
    where
      only : (n : ℕ) → Member n order → Member n blocks
      only n i = block_marked n (named_each (marked blocks table) 0 order right n i)

      once : Once order
      once = named_once (marked blocks table) 0 order right

      -- one more than the blocks would not go among them
      all : (n : ℕ) → Member n blocks → Member n order
      all n b =
          ⊎_elim (λ i. i)
          (λ h. let k = partners (λ x y. x ≡ y) (λ x z y i j. i ∙ sym j) (n ∷ order) blocks ((λ y i e. h (subst (λ (x : ℕ). Member x order) (sym e) i)), once_apart order once)
          (λ x i. (x, ⊎_elim (λ e. subst (λ (y : ℕ). Member y blocks) (sym e) b) (only x) i, refl)) in
          absurd (omega arith))
          (member_or_not n order)

      go : (a b : ℕ) → Member a (feeders feeds b) → Before order a b
      go a b f =
          let e = between a b f in
          let t = every_item (λ (f : Feed). ltb (get_or (found order).places f.source 0) (get_or (found order).places f.target 0)) feeds forward (feed# a b) (feeders_member a b feeds f) in
          places_before (marked blocks table) 0 order right a b (all a e.0) (all b e.1) (ltb-true _ _ t)

-- The definition.

module _ (m : MultiPortGraph) where
  pub run_order_right : (order : List ℕ) → run_order m order ≡ true → RightOrder (λ n. Member n (blocks m)) (λ a b. Member a (feeders (feeds_in m) b)) order
  unfolding run_order
  run_order_right order e =
      let p = and_parts (list_all (λ n. is_in n (blocks m)) order) _ e in
      let q = and_parts (is_distinct order) _ p.1 in
      let r = and_parts (list_all (λ n. is_in n order) (blocks m)) _ q.1 in
      record {
        only = λ n i. in_member n (blocks m) (every_item (λ k. is_in k (blocks m)) order p.0 n i);
        all = λ n i. in_member n order (every_item (λ k. is_in k order) (blocks m) r.0 n i);
        once = distinct_once order q.0;
        forward = λ a b f.
            before_is order a b (every_item (λ (f : Feed). is_before order f.source f.target) (feeds_in m) r.1 (feed# a b) (feeders_member a b (feeds_in m) f));
      }

  pub right_run_order : (order : List ℕ) → RightOrder (λ n. Member n (blocks m)) (λ a b. Member a (feeders (feeds_in m) b)) order → run_order m order ≡ true
  unfolding run_order
  right_run_order order r =
      rw (
        item_every (λ n. is_in n (blocks m)) order (λ n i. member_in n (blocks m) (r.only n i)),
        once_distinct order r.once,
        item_every (λ n. is_in n order) (blocks m) (λ n i. member_in n order (r.all n i)),
      )
      (item_every (λ (f : Feed). is_before order f.source f.target) (feeds_in m)
      (λ f i. is_before_lem order f.source f.target (r.forward f.source f.target (member_feeders f (feeds_in m) i))))
