-- Laws of settling: what holds after each wire and each block that is done; so a block is settled exactly if no walk of as many wires as
-- there are slots comes to it, with the largest sum, and the path found has this sum.
use Rattle.std.specs.Prelude.{◌≡◌, Bool, cond, not, ◌&&◌, ◌||◌, ◌⊎◌, eqb, ltb, set, drop}
use Rattle.std.proofs.Math.Path.{refl, sym, ap, subst}
use Rattle.std.proofs.Common.{◌∙◌}
use Rattle.std.proofs.Math.Bool.{true, false}
use mathlib.Core.List.{List, [], ◌∷◌, ◌++◌, append_assoc, append-nil}
use Rattle.std.proofs.Math.Logic.{inl, inr, ⊎_elim}
use Prim.Native.Nat.{ℕ, zero, suc, ◌+◌, ◌-◌, ◌≤◌, ◌<◌}
use native.Mathlib.Omega.{arith}
use Rattle.std.proofs.Math.Dec.{leb}
use Rattle.std.proofs.Math.ListN.{length, get_or, length-append, length-set}
use Rattle.std.proofs.Math.Seq.{get_or-set_same, get_or-set_other, get_or_at}
use Rattle.std.proofs.lemmas.Bool.{cases_eq, false_from_ne_true}
use borrow.Author.Tests.{eqb-true, eq-eqb, ne_eqb, lt-ltb, le-ltb, leb-true, leb-false}
use Rattle.port_tables.specs.Limits.{node_slots}
use Rattle.port_tables.specs.Lists.{Member, Rising}
use Rattle.port_tables.specs.Places.{flag}
use Rattle.multiportgraph.specs.HiddenStays.{true_not_false}
use Rattle.port_tables.specs.Listing.{Apart, apart_below, member_append, member_left, member_right, rising_append}
use Rattle.timing.specs.Longest.{Feed, feeders, largest_of, comes, largest_sum, time_in}
use Rattle.timing.specs.RunOrder.{is_in}
use Rattle.timing.specs.TimingClaims.{Leads, sum_along}
use Rattle.timing.specs.WalkLaws.{Fed, none_any, any_none, some_any, largest_is, largest_same, comes_less, comes_fewer}
use Rattle.timing.specs.Settling.{Tables, pushed, wire_done, run_done, block_done, settle, path_back}

-- Counts.

pub in_member : (x : ℕ) (l : List ℕ) → is_in x l ≡ true → Member x l
unfolding is_in
in_member x [] e = absurd (true_not_false e refl)
in_member x (y ∷ l) e = go (eqb x y) refl (in_member x l) e
  where
    go : (b : Bool) → eqb x y ≡ b → (is_in x l ≡ true → Member x l) → (b || is_in x l) ≡ true → Member x (y ∷ l)
    go true h rest k = inl (eqb-true x y h)
    go false h rest k = inr (rest k)

pub member_in : (x : ℕ) (l : List ℕ) → Member x l → is_in x l ≡ true
unfolding is_in
member_in x [] never = absurd never
member_in x (y ∷ l) (inl e) = rw (eq-eqb x y e)
member_in x (y ∷ l) (inr i) = go (eqb x y) (member_in x l i)
  where
    go : (b : Bool) → is_in x l ≡ true → (b || is_in x l) ≡ true
    go true h = refl
    go false h = h

in_snoc : (x b : ℕ) (l : List ℕ) → is_in x (l ++ (b ∷ [])) ≡ (is_in x l || eqb x b)
unfolding is_in
in_snoc x b [] = go (eqb x b)
  where
    go : (t : Bool) → (t || false) ≡ t
    go true = refl
    go false = refl
in_snoc x b (y ∷ l) = go (eqb x y) (in_snoc x b l)
  where
    go : (t : Bool) → is_in x (l ++ (b ∷ [])) ≡ (is_in x l || eqb x b) → (t || is_in x (l ++ (b ∷ []))) ≡ ((t || is_in x l) || eqb x b)
    go true e = refl
    go false e = e

-- the feeds into a block,
unfoldable pub into : ℕ → List Feed → ℕ
into n [] = 0
into n (f ∷ l) = flag (eqb f.target n) + into n l

-- and those of blocks that are not done
unfoldable pub waiting : List ℕ → ℕ → List Feed → ℕ
waiting done n [] = 0
waiting done n (f ∷ l) = flag (eqb f.target n && not (is_in f.source done)) + waiting done n l

-- the feeds out of a block
unfoldable pub group : ℕ → List Feed → List Feed
group b [] = []
group b (f ∷ l) = cond (eqb f.source b) (f ∷ group b l) (group b l)

waiting_split : (done : List ℕ) (b n : ℕ) → (Member b done → ⊥) → (l : List Feed) → waiting done n l ≡ into n (group b l) + waiting (done ++ (b ∷ [])) n l
unfolding waiting into group
waiting_split done b n h [] = refl
waiting_split done b n h (f ∷ l) =
    go (eqb f.target n) (is_in f.source done) (eqb f.source b) (is_in f.source (done ++ (b ∷ []))) refl
    (λ p q. h (subst (λ (k : ℕ). Member k done) (eqb-true f.source b q) (in_member f.source done p)))
    (in_snoc f.source b done) (waiting_split done b n h l)
  where
    go : (t s g u : Bool) → eqb f.target n ≡ t → (s ≡ true → g ≡ true → ⊥) → u ≡ (s || g) →
        waiting done n l ≡ into n (group b l) + waiting (done ++ (b ∷ [])) n l →
        flag (t && not s) + waiting done n l ≡ into n (cond g (f ∷ group b l) (group b l)) + (flag (t && not u) + waiting (done ++ (b ∷ [])) n l)
    go true true true u c d e r = absurd (d refl refl)
    go true true false u c d e r = rw e (omega arith)
    go true false true u c d e r = let z = ap flag c in rw e (omega arith)
    go true false false u c d e r = rw e (omega arith)
    go false s true u c d e r = let z = ap flag c in omega arith
    go false s false u c d e r = omega arith

-- where none is left, every feeder is done
pub waiting_none : (done : List ℕ) (n : ℕ) (l : List Feed) → waiting done n l ≡ 0 → (p : ℕ) → Member p (feeders l n) → Member p done
unfolding waiting feeders
waiting_none done n [] e p never = absurd never
waiting_none done n (f ∷ l) e p i = go (eqb f.target n) (is_in f.source done) refl (waiting_none done n l) e i
  where
    go : (t s : Bool) → is_in f.source done ≡ s → (waiting done n l ≡ 0 → (p : ℕ) → Member p (feeders l n) → Member p done) →
        flag (t && not s) + waiting done n l ≡ 0 → Member p (cond t (f.source ∷ feeders l n) (feeders l n)) → Member p done
    go true true q rest e (inl j) = subst (λ (k : ℕ). Member k done) (sym j) (in_member f.source done q)
    go true true q rest e (inr j) = rest (omega arith) p j
    go true false q rest e j = absurd (omega arith)
    go false s q rest e j = rest (omega arith) p j

-- and where some are, some feeder is not
waiting_some : (done : List ℕ) (n : ℕ) (l : List Feed) → (waiting done n l ≡ 0 → ⊥) → (p : ℕ) × Member p (feeders l n) × (Member p done → ⊥)
unfolding waiting feeders
waiting_some done n [] h = absurd (h refl)
waiting_some done n (f ∷ l) h = go (eqb f.target n) (is_in f.source done) refl (waiting_some done n l) h
  where
    go : (t s : Bool) → is_in f.source done ≡ s → ((waiting done n l ≡ 0 → ⊥) → (p : ℕ) × Member p (feeders l n) × (Member p done → ⊥)) →
        (flag (t && not s) + waiting done n l ≡ 0 → ⊥) → (p : ℕ) × Member p (cond t (f.source ∷ feeders l n) (feeders l n)) × (Member p done → ⊥)
    go true true q rest h = let r = rest (λ e. h (omega arith)) in (r.0, inr r.1, r.2)
    go true false q rest h = (f.source, inl refl, λ i. true_not_false (member_in f.source done i) q)
    go false s q rest h = rest (λ e. h (omega arith))

-- Feeds and feeders.

abbrev pub feed# : ℕ → ℕ → Feed
feed# p n = record { source = p; target = n }

pub feeders_member : (p n : ℕ) (l : List Feed) → Member p (feeders l n) → Member (feed# p n) l
unfolding feeders
feeders_member p n [] never = absurd never
feeders_member p n (f ∷ l) i = go (eqb f.target n) refl (feeders_member p n l) i
  where
    go : (t : Bool) → eqb f.target n ≡ t → (Member p (feeders l n) → Member (feed# p n) l) → Member p (cond t (f.source ∷ feeders l n) (feeders l n)) → Member (feed# p n) (f ∷ l)
    go true e rest (inl j) = let q = eqb-true f.target n e in inl (λ k. record { source = j k; target = sym q k })
    go true e rest (inr j) = inr (rest j)
    go false e rest j = inr (rest j)

pub member_feeders : (f : Feed) (l : List Feed) → Member f l → Member f.source (feeders l f.target)
unfolding feeders
member_feeders f [] never = absurd never
member_feeders f (g ∷ l) (inl e) = rw (eq-eqb g.target f.target (sym (ap (λ (x : Feed). x.target) e))) (inl (ap (λ (x : Feed). x.source) e))
member_feeders f (g ∷ l) (inr i) = go (eqb g.target f.target) (member_feeders f l i)
  where
    go : (t : Bool) → Member f.source (feeders l f.target) → Member f.source (cond t (g.source ∷ feeders l f.target) (feeders l f.target))
    go true j = inr j
    go false j = j

group_member : (b : ℕ) (f : Feed) (l : List Feed) → Member f (group b l) → Member f l × (f.source ≡ b)
unfolding group
group_member b f [] never = absurd never
group_member b f (g ∷ l) i = go (eqb g.source b) refl (group_member b f l) i
  where
    go : (t : Bool) → eqb g.source b ≡ t → (Member f (group b l) → Member f l × (f.source ≡ b)) → Member f (cond t (g ∷ group b l) (group b l)) → Member f (g ∷ l) × (f.source ≡ b)
    go true e rest (inl j) = (inl j, ap (λ (x : Feed). x.source) j ∙ eqb-true g.source b e)
    go true e rest (inr j) = let r = rest j in (inr r.0, r.1)
    go false e rest j = let r = rest j in (inr r.0, r.1)

member_group : (b : ℕ) (f : Feed) (l : List Feed) → Member f l → f.source ≡ b → Member f (group b l)
unfolding group
member_group b f [] never h = absurd never
member_group b f (g ∷ l) (inl e) h = rw (eq-eqb g.source b (sym (ap (λ (x : Feed). x.source) e) ∙ h)) (inl e)
member_group b f (g ∷ l) (inr i) h = go (eqb g.source b) (member_group b f l i h)
  where
    go : (t : Bool) → Member f (group b l) → Member f (cond t (g ∷ group b l) (group b l))
    go true j = inr j
    go false j = j

-- Orders in which every feeder of a block comes before it.

abbrev pub InOrder : List Feed → List ℕ → List ℕ → Type 0
InOrder feeds seen [] = Unit {0}
InOrder feeds seen (n ∷ l) = ((p : ℕ) → Member p (feeders feeds n) → Member p seen) × InOrder feeds (n ∷ seen) l

in_order_snoc : (feeds : List Feed) (seen l : List ℕ) (c : ℕ) → InOrder feeds seen l → ((p : ℕ) → Member p (feeders feeds c) → Member p seen ⊎ Member p l) → InOrder feeds seen (l ++ (c ∷ []))
in_order_snoc feeds seen [] c o h = ((λ p i. ⊎_elim (λ j. j) (λ j. absurd j) (h p i)), tt)
in_order_snoc feeds seen (n ∷ l) c o h =
    (o.0, in_order_snoc feeds (n ∷ seen) l c o.1 (λ p i. ⊎_elim (λ j. inl (inr j)) (λ j. ⊎_elim (λ e. inl (inl e)) inr j) (h p i)))

-- no walk is longer than the blocks before
in_order_comes : (feeds : List Feed) (seen l : List ℕ) → InOrder feeds seen l → ((p : ℕ) → Member p seen → comes feeds (length seen) p ≡ false) →
    (p : ℕ) → Member p seen ⊎ Member p l → comes feeds (length l + length seen) p ≡ false
unfolding comes
in_order_comes feeds seen [] o h p (inl i) = let z : length seen ≡ 0 + length seen = omega arith in subst (λ (k : ℕ). comes feeds k p ≡ false) z (h p i)
in_order_comes feeds seen [] o h p (inr i) = absurd i
in_order_comes feeds seen (n ∷ l) o h p i =
    let z : length l + suc (length seen) ≡ suc (length l) + length seen = omega arith in
    subst (λ (k : ℕ). comes feeds k p ≡ false) z (in_order_comes feeds (n ∷ seen) l o.1 next p (⊎_elim (λ j. inl (inr j)) (λ j. ⊎_elim (λ e. inl (inl e)) inr j) i))
  where
    more : (q : ℕ) → comes feeds (length seen) q ≡ false → comes feeds (suc (length seen)) q ≡ false
    more q e = false_from_ne_true _ (λ k. true_not_false (comes_less feeds (length seen) q k) e)

    next : (q : ℕ) → Member q (n ∷ seen) → comes feeds (suc (length seen)) q ≡ false
    next q (inl e) = subst (λ (k : ℕ). comes feeds (suc (length seen)) k ≡ false) (sym e) (none_any (comes feeds (length seen)) (feeders feeds n) (λ r j. h r (o.0 r j)))
    next q (inr j) = more q (h q j)

-- What holds while blocks are settled.

module _ (feeds : List Feed) (time : ℕ → ℕ) where
  -- the blocks in `done` have their wires done, but for those in `left`
  pub record Settling (done : List ℕ) (left : List Feed) (t : Tables) : Type 0 where
    pub long_waits : length t.waits ≡ node_slots
    pub long_best : length t.best ≡ node_slots
    pub long_origin : length t.origin ≡ node_slots
    pub waits : (n : ℕ) → n < node_slots → get_or t.waits n 0 ≡ into n left + waiting done n feeds
    pub ready : (n : ℕ) → n < node_slots → get_or t.waits n 0 ≡ 0 → Member n t.order
    pub only : (n : ℕ) → Member n t.order → (n < node_slots) × (get_or t.waits n 0 ≡ 0)
    pub once : Rising Apart t.order
    pub first : (rest : List ℕ) × (t.order ≡ done ++ rest)
    pub fed : InOrder feeds [] t.order
    pub above : (p n : ℕ) → Member p (feeders feeds n) → Member p done → Member (feed# p n) left ⊎ (time p + get_or t.best p 0 ≤ get_or t.best n 0)
    pub comes_from : (n p : ℕ) → get_or t.origin n 0 ≡ suc p → Member p done × Member p (feeders feeds n) × (get_or t.best n 0 ≡ time p + get_or t.best p 0)
    pub from_none : (n : ℕ) → get_or t.origin n 0 ≡ 0 → get_or t.best n 0 ≡ 0

  -- One wire.

  module _ (b v c : ℕ) (t : Tables) where
    best_other : (n : ℕ) → (n ≡ c → ⊥) → get_or (wire_done b v c t).best n 0 ≡ get_or t.best n 0
    unfolding wire_done
    best_other n h = go (leb (get_or t.best c 0) v)
      where
        go : (a : Bool) → get_or (cond a (set t.best c v) t.best) n 0 ≡ get_or t.best n 0
        go true = get_or-set_other t.best c n v 0 h
        go false = refl

    origin_other : (n : ℕ) → (n ≡ c → ⊥) → get_or (wire_done b v c t).origin n 0 ≡ get_or t.origin n 0
    unfolding wire_done
    origin_other n h = go (leb (get_or t.best c 0) v)
      where
        go : (a : Bool) → get_or (cond a (set t.origin c (b + 1)) t.origin) n 0 ≡ get_or t.origin n 0
        go true = get_or-set_other t.origin c n (b + 1) 0 h
        go false = refl

    waits_other : (n : ℕ) → (n ≡ c → ⊥) → get_or (wire_done b v c t).waits n 0 ≡ get_or t.waits n 0
    unfolding wire_done
    waits_other n h = get_or-set_other t.waits c n _ 0 h

    waits_there : c < length t.waits → get_or (wire_done b v c t).waits c 0 ≡ get_or t.waits c 0 - 1
    unfolding wire_done
    waits_there h = get_or-set_same t.waits c _ 0 h

    -- the sum at the far end is the larger one
    there : c < length t.best → c < length t.origin →
        ((get_or (wire_done b v c t).best c 0 ≡ v) × (get_or t.best c 0 ≤ v) × (get_or (wire_done b v c t).origin c 0 ≡ suc b))
        ⊎ ((get_or (wire_done b v c t).best c 0 ≡ get_or t.best c 0) × (v < get_or t.best c 0) × (get_or (wire_done b v c t).origin c 0 ≡ get_or t.origin c 0))
    unfolding wire_done
    there h k = go (leb (get_or t.best c 0) v) refl
      where
        go : (a : Bool) → leb (get_or t.best c 0) v ≡ a →
            ((get_or (cond a (set t.best c v) t.best) c 0 ≡ v) × (get_or t.best c 0 ≤ v) × (get_or (cond a (set t.origin c (b + 1)) t.origin) c 0 ≡ suc b))
            ⊎ ((get_or (cond a (set t.best c v) t.best) c 0 ≡ get_or t.best c 0) × (v < get_or t.best c 0) × (get_or (cond a (set t.origin c (b + 1)) t.origin) c 0 ≡ get_or t.origin c 0))
        go true e = let s : b + 1 ≡ suc b = omega arith in inl (get_or-set_same t.best c v 0 h, leb-true (get_or t.best c 0) v e, get_or-set_same t.origin c (b + 1) 0 k ∙ s)
        go false e = inr (refl, leb-false (get_or t.best c 0) v e, refl)

    best_long : length (wire_done b v c t).best ≡ length t.best
    unfolding wire_done
    best_long = go (leb (get_or t.best c 0) v)
      where
        go : (a : Bool) → length (cond a (set t.best c v) t.best) ≡ length t.best
        go true = length-set t.best c v
        go false = refl

    origin_long : length (wire_done b v c t).origin ≡ length t.origin
    unfolding wire_done
    origin_long = go (leb (get_or t.best c 0) v)
      where
        go : (a : Bool) → length (cond a (set t.origin c (b + 1)) t.origin) ≡ length t.origin
        go true = length-set t.origin c (b + 1)
        go false = refl

    waits_long : length (wire_done b v c t).waits ≡ length t.waits
    unfolding wire_done
    waits_long = length-set t.waits c _

    -- the block is settled with its last wire
    order_last : get_or t.waits c 0 - 1 ≡ 0 → length t.order < node_slots → (wire_done b v c t).order ≡ t.order ++ (c ∷ [])
    unfolding wire_done pushed
    order_last e h = rw (eq-eqb (get_or t.waits c 0 - 1) 0 e, lt-ltb (length t.order) node_slots h)

    order_stays : (get_or t.waits c 0 - 1 ≡ 0 → ⊥) → (wire_done b v c t).order ≡ t.order
    unfolding wire_done
    order_stays h = rw (ne_eqb (get_or t.waits c 0 - 1) 0 h)

  module _ {done : List ℕ} {left : List Feed} {t : Tables} (b v c : ℕ) (s : Settling done (feed# b c ∷ left) t) (inDone : Member b done) (isSum : v ≡ time b + get_or t.best b 0) (below : c < node_slots)
      (isFed : Member b (feeders feeds c)) where
    into_here : into c (feed# b c ∷ left) ≡ suc (into c left)
    unfolding into
    into_here = let e = ap flag (eq-eqb c c refl) in omega arith

    into_other : (n : ℕ) → (n ≡ c → ⊥) → into n (feed# b c ∷ left) ≡ into n left
    unfolding into
    into_other n h = let e = ap flag (ne_eqb c n (λ q. h (sym q))) in omega arith

    -- the far end waits, so it is not settled yet
    unsettled : Member c t.order → ⊥
    unsettled i = let e = (s.only c i).1 in let w = s.waits c below in let z = into_here in omega arith

    apart : (n : ℕ) → Member n t.order → n ≡ c → ⊥
    apart n i e = unsettled (subst (λ (k : ℕ). Member k t.order) e i)

    done_settled : (p : ℕ) → Member p done → Member p t.order
    done_settled p i = subst (Member p) (sym s.first.1) (member_left p done s.first.0 i)

    once_more : Rising Apart (t.order ++ (c ∷ []))
    once_more = rising_append Apart t.order (c ∷ []) s.once ((λ y i. absurd i), tt) (λ x y i j. ⊎_elim (λ e q. apart x i (q ∙ e)) (λ k. absurd k) j)

    room : length t.order < node_slots
    room =
        let l = length-append t.order (c ∷ []) in
        let k = apart_below node_slots (t.order ++ (c ∷ [])) once_more (λ x i. ⊎_elim (λ j. (s.only x j).0) (λ j. ⊎_elim (λ e. subst (λ (y : ℕ). y < node_slots) (sym e) below) (λ k. absurd k) j) (member_append x t.order (c ∷ []) i)) in
        omega arith

    abbrev after : Tables
    after = wire_done b v c t

    best_done : (p : ℕ) → Member p done → get_or after.best p 0 ≡ get_or t.best p 0
    best_done p i = best_other b v c t p (apart p (done_settled p i))

    at_best : c < length t.best
    at_best = let e = s.long_best in omega arith

    at_origin : c < length t.origin
    at_origin = let e = s.long_origin in omega arith

    at_waits : c < length t.waits
    at_waits = let e = s.long_waits in omega arith

    best_more : (n : ℕ) → get_or t.best n 0 ≤ get_or after.best n 0
    best_more n = ⊎_elim (λ e. subst (λ (k : ℕ). get_or t.best k 0 ≤ get_or after.best k 0) (sym e) here) (λ h. let e = best_other b v c t n h in omega arith) (cases_eq n c)
      where
        here : get_or t.best c 0 ≤ get_or after.best c 0
        here = ⊎_elim (λ h. let e = h.0 in let k = h.1 in omega arith) (λ h. let e = h.0 in omega arith) (there b v c t at_best at_origin)

    best_here : v ≤ get_or after.best c 0
    best_here = ⊎_elim (λ h. let e = h.0 in omega arith) (λ h. let e = h.0 in let k = h.1 in omega arith) (there b v c t at_best at_origin)

    pub sum_stays : v ≡ time b + get_or after.best b 0
    sum_stays = let e = best_done b inDone in omega arith

    waits_after : (n : ℕ) → n < node_slots → get_or after.waits n 0 ≡ into n left + waiting done n feeds
    waits_after n h = ⊎_elim there_is (λ k. let e = waits_other b v c t n k in let w = s.waits n h in let z = into_other n k in omega arith) (cases_eq n c)
      where
        here : get_or after.waits c 0 ≡ into c left + waiting done c feeds
        here = let e = waits_there b v c t at_waits in let w = s.waits c below in let z = into_here in omega arith

        there_is : n ≡ c → get_or after.waits n 0 ≡ into n left + waiting done n feeds
        there_is e = subst (λ (k : ℕ). get_or after.waits k 0 ≡ into k left + waiting done k feeds) (sym e) here

    above_after : (p n : ℕ) → Member p (feeders feeds n) → Member p done → Member (feed# p n) left ⊎ (time p + get_or after.best p 0 ≤ get_or after.best n 0)
    above_after p n i j = go (s.above p n i j)
      where
        go : Member (feed# p n) (feed# b c ∷ left) ⊎ (time p + get_or t.best p 0 ≤ get_or t.best n 0) → Member (feed# p n) left ⊎ (time p + get_or after.best p 0 ≤ get_or after.best n 0)
        go (inl (inl e)) =
            let x : p ≡ b = ap (λ (f : Feed). f.source) e in
            let y : n ≡ c = ap (λ (f : Feed). f.target) e in
            let h = best_here in
            let k = sum_stays in
            inr (subst (λ (q : ℕ). time q + get_or after.best q 0 ≤ get_or after.best n 0) (sym x) (subst (λ (q : ℕ). time b + get_or after.best b 0 ≤ get_or after.best q 0) (sym y) (omega arith)))
        go (inl (inr k)) = inl k
        go (inr k) = let e = best_done p j in let h = best_more n in inr (omega arith)

    from_after : (n p : ℕ) → get_or after.origin n 0 ≡ suc p → Member p done × Member p (feeders feeds n) × (get_or after.best n 0 ≡ time p + get_or after.best p 0)
    from_after n p e = ⊎_elim here (λ h. old n (sym (origin_other b v c t n h) ∙ e) (best_other b v c t n h)) (cases_eq n c)
      where
        old : (n : ℕ) → get_or t.origin n 0 ≡ suc p → get_or after.best n 0 ≡ get_or t.best n 0 → Member p done × Member p (feeders feeds n) × (get_or after.best n 0 ≡ time p + get_or after.best p 0)
        old n q k = let r = s.comes_from n p q in let x = r.2 in let y = best_done p r.0 in (r.0, r.1, omega arith)

        there_is : get_or after.origin c 0 ≡ suc p → Member p done × Member p (feeders feeds c) × (get_or after.best c 0 ≡ time p + get_or after.best p 0)
        there_is q =
            ⊎_elim
            (λ h. let x : b ≡ p = let y = h.2 in omega arith in
            let z = sum_stays in
            let y = h.0 in
            subst (λ (k : ℕ). Member k done × Member k (feeders feeds c) × (get_or after.best c 0 ≡ time k + get_or after.best k 0)) x (inDone, isFed, omega arith))
            (λ h. old c (sym h.2 ∙ q) h.0)
            (there b v c t at_best at_origin)

        here : n ≡ c → Member p done × Member p (feeders feeds n) × (get_or after.best n 0 ≡ time p + get_or after.best p 0)
        here q = subst (λ (k : ℕ). Member p done × Member p (feeders feeds k) × (get_or after.best k 0 ≡ time p + get_or after.best p 0)) (sym q) (there_is (subst (λ (k : ℕ). get_or after.origin k 0 ≡ suc p) q e))

    none_after : (n : ℕ) → get_or after.origin n 0 ≡ 0 → get_or after.best n 0 ≡ 0
    none_after n e = ⊎_elim here (λ h. best_other b v c t n h ∙ s.from_none n (sym (origin_other b v c t n h) ∙ e)) (cases_eq n c)
      where
        there_is : get_or after.origin c 0 ≡ 0 → get_or after.best c 0 ≡ 0
        there_is q = ⊎_elim (λ h. let y = h.2 in absurd (omega arith)) (λ h. h.0 ∙ s.from_none c (sym h.2 ∙ q)) (there b v c t at_best at_origin)

        here : n ≡ c → get_or after.best n 0 ≡ 0
        here q = subst (λ (k : ℕ). get_or after.best k 0 ≡ 0) (sym q) (there_is (subst (λ (k : ℕ). get_or after.origin k 0 ≡ 0) q e))

    -- what holds of the order, whether the block is settled or not
    record Ordered : Type 0 where
      ready : (n : ℕ) → n < node_slots → get_or after.waits n 0 ≡ 0 → Member n after.order
      only : (n : ℕ) → Member n after.order → (n < node_slots) × (get_or after.waits n 0 ≡ 0)
      once : Rising Apart after.order
      first : (rest : List ℕ) × (after.order ≡ done ++ rest)
      fed : InOrder feeds [] after.order

    waits_settled : (n : ℕ) → Member n t.order → (n < node_slots) × (get_or after.waits n 0 ≡ 0)
    waits_settled n i = let r = s.only n i in (r.0, waits_other b v c t n (apart n i) ∙ r.1)

    ready_other : (n : ℕ) → n < node_slots → get_or after.waits n 0 ≡ 0 → (n ≡ c → ⊥) → Member n t.order
    ready_other n h e k = s.ready n h (sym (waits_other b v c t n k) ∙ e)

    ordered : Ordered
    ordered = ⊎_elim last stays (cases_eq (get_or t.waits c 0 - 1) 0)
      where
        last : get_or t.waits c 0 - 1 ≡ 0 → Ordered
        last z =
            let o = order_last b v c t z room in
            let w = waits_there b v c t at_waits in
            record {
              ready = λ n h e. subst (Member n) (sym o) (⊎_elim (λ q. member_right n t.order (c ∷ []) (inl q)) (λ k. member_left n t.order (c ∷ []) (ready_other n h e k)) (cases_eq n c));
              only = λ n i. ⊎_elim (waits_settled n) (λ j. ⊎_elim (λ q. subst (λ (k : ℕ). (k < node_slots) × (get_or after.waits k 0 ≡ 0)) (sym q) (below, w ∙ z)) (λ k. absurd k) j)
                  (member_append n t.order (c ∷ []) (subst (Member n) o i));
              once = subst (Rising Apart) (sym o) once_more;
              first = (s.first.0 ++ (c ∷ []), o ∙ (ap (λ (l : List ℕ). l ++ (c ∷ [])) s.first.1 ∙ append_assoc done s.first.0 (c ∷ [])));
              fed = subst (InOrder feeds []) (sym o) (in_order_snoc feeds [] t.order c s.fed
                  (λ p i. inr (done_settled p (waiting_none done c feeds (let y = waits_after c below in omega arith) p i))));
            }

        stays : (get_or t.waits c 0 - 1 ≡ 0 → ⊥) → Ordered
        stays z =
            let o = order_stays b v c t z in
            let w = waits_there b v c t at_waits in
            record {
              ready = λ n h e. subst (Member n) (sym o) (ready_other n h e (λ q. z (sym w ∙ subst (λ (k : ℕ). get_or after.waits k 0 ≡ 0) q e)));
              only = λ n i. waits_settled n (subst (Member n) o i);
              once = subst (Rising Apart) (sym o) s.once;
              first = (s.first.0, o ∙ s.first.1);
              fed = subst (InOrder feeds []) (sym o) s.fed;
            }

    pub wire_settles : Settling done left (wire_done b v c t)
    wire_settles =
        record {
          long_waits = waits_long b v c t ∙ s.long_waits;
          long_best = best_long b v c t ∙ s.long_best;
          long_origin = origin_long b v c t ∙ s.long_origin;
          waits = waits_after;
          ready = ordered.ready;
          only = ordered.only;
          once = ordered.once;
          first = ordered.first;
          fed = ordered.fed;
          above = above_after;
          comes_from = from_after;
          from_none = none_after;
        }

  -- The wires of a block.

  run_settles : {done : List ℕ} (b v : ℕ) (left : List Feed) (t : Tables) → Settling done left t → Member b done → v ≡ time b + get_or t.best b 0 →
      ((f : Feed) → Member f left → (f.source ≡ b) × (f.target < node_slots) × Member b (feeders feeds f.target)) → Settling done [] (run_done b v left t)
  unfolding run_done
  run_settles b v [] t s i e h = s
  run_settles {done} b v (f ∷ l) t s i e h =
      let k = h f (inl refl) in
      let q : f ≡ feed# b f.target = λ j. record { source = k.0 j; target = f.target } in
      let s' : Settling done (feed# b f.target ∷ l) t = subst (λ (g : Feed). Settling done (g ∷ l) t) q s in
      rw (eq-eqb f.source b k.0)
      (run_settles b v l (wire_done b v f.target t) (wire_settles b v f.target s' i e k.1 k.2) i (sum_stays b v f.target s' i e k.1 k.2) (λ g j. h g (inr j)))

  -- A block.

  not_before : (a rest : List ℕ) (b : ℕ) → Rising Apart (a ++ (b ∷ rest)) → Member b a → ⊥
  not_before [] rest b r never = absurd never
  not_before (x ∷ a) rest b r (inl e) = r.0 b (member_right b a (b ∷ rest) (inl refl)) (sym e)
  not_before (x ∷ a) rest b r (inr i) = not_before a rest b r.1 i

  block_begins : {done : List ℕ} {t : Tables} (b : ℕ) (rest : List ℕ) → Settling done [] t → t.order ≡ done ++ (b ∷ rest) → Settling (done ++ (b ∷ [])) (group b feeds) t
  unfolding into
  block_begins {done} {t} b rest s o =
      record {
        long_waits = s.long_waits;
        long_best = s.long_best;
        long_origin = s.long_origin;
        waits = λ n h. let w = s.waits n h in let z = waiting_split done b n (not_before done rest b (subst (Rising Apart) o s.once)) feeds in omega arith;
        ready = s.ready;
        only = s.only;
        once = s.once;
        first = (rest, o ∙ sym (append_assoc done (b ∷ []) rest));
        fed = s.fed;
        above = λ p n i j.
            ⊎_elim (λ k. ⊎_elim (λ x. absurd x) inr (s.above p n i k))
            (λ k. ⊎_elim (λ e. inl (member_group b (feed# p n) feeds (feeders_member p n feeds i) e)) (λ x. absurd x) k)
            (member_append p done (b ∷ []) j);
        comes_from = λ n p e. let r = s.comes_from n p e in (member_left p done (b ∷ []) r.0, r.1, r.2);
        from_none = s.from_none;
      }

  -- All blocks.

  -- the order is no longer than the table
  order_short : {done : List ℕ} {left : List Feed} {t : Tables} → Settling done left t → length t.order ≤ node_slots
  order_short {t = t} s = apart_below node_slots t.order s.once (λ x i. (s.only x i).0)

-- everything that was settled is done
abbrev pub Settled : List Feed → (ℕ → ℕ) → Tables → Type 0
Settled feeds time t = Settling feeds time t.order [] t

module _ (feeds : List Feed) (firsts times : List ℕ) (below : (p n : ℕ) → Member p (feeders feeds n) → (p < node_slots) × (n < node_slots))
    (grouped : (b v : ℕ) (t : Tables) → b < node_slots → run_done b v (drop (get_or firsts b 0) feeds) t ≡ run_done b v (group b feeds) t) where
  block_settles : {done : List ℕ} {t : Tables} (b : ℕ) (rest : List ℕ) → Settling feeds (time_in times) done [] t → t.order ≡ done ++ (b ∷ rest) →
      Settling feeds (time_in times) (done ++ (b ∷ [])) [] (block_done feeds firsts times b t)
  unfolding block_done
  block_settles {done} {t} b rest s o =
      let v = get_or t.best b 0 + time_in times b in
      let i : Member b t.order = subst (Member b) (sym o) (member_right b done (b ∷ rest) (inl refl)) in
      subst (Settling feeds (time_in times) (done ++ (b ∷ [])) []) (sym (rw (lt-ltb b node_slots (s.only b i).0) (grouped b v t (s.only b i).0)))
      (run_settles feeds (time_in times) b v (group b feeds) t (block_begins feeds (time_in times) b rest s o) (member_right b done (b ∷ []) (inl refl)) (omega arith)
      (λ f j. let g = group_member b f feeds j in
      let k = member_feeders f feeds g.0 in
      (g.1, (below f.source f.target k).1, subst (λ (x : ℕ). Member x (feeders feeds f.target)) g.1 k)))

  pub settle_ends : (fuel head : ℕ) (done : List ℕ) (t : Tables) → Settling feeds (time_in times) done [] t → length done ≡ head → fuel + head ≡ node_slots →
      Settled feeds (time_in times) (settle feeds firsts times fuel head t)
  unfolding settle
  settle_ends zero head done t s e h = go s.first.0 s.first.1
    where
      go : (rest : List ℕ) → t.order ≡ done ++ rest → Settled feeds (time_in times) t
      go [] o = subst (λ (d : List ℕ). Settling feeds (time_in times) d [] t) (sym (o ∙ append-nil done)) s
      go (b ∷ rest) o = let k = order_short feeds (time_in times) s in let l = ap length o ∙ length-append done (b ∷ rest) in absurd (omega arith)
  settle_ends (suc fuel) head done t s e h = go s.first.0 s.first.1 (settle_ends fuel)
    where
      go : (rest : List ℕ) → t.order ≡ done ++ rest →
          ((head : ℕ) (done : List ℕ) (t : Tables) → Settling feeds (time_in times) done [] t → length done ≡ head → fuel + head ≡ node_slots → Settled feeds (time_in times) (settle feeds firsts times fuel head t)) →
          Settled feeds (time_in times) (cond (ltb head (length t.order)) (settle feeds firsts times fuel (suc head) (block_done feeds firsts times (get_or t.order head 0) t)) t)
      go [] o rest = let l = ap length (o ∙ append-nil done) in rw (le-ltb head (length t.order) (omega arith)) (subst (λ (d : List ℕ). Settling feeds (time_in times) d [] t) (sym (o ∙ append-nil done)) s)
      go (b ∷ l) o rest =
          let k = ap length o ∙ length-append done (b ∷ l) in
          let q : get_or t.order head 0 ≡ b = ap (λ (x : List ℕ). get_or x head 0) o ∙ get_or_at done b l 0 head e in
          let z = length-append done (b ∷ []) in
          rw (lt-ltb head (length t.order) (omega arith), q)
          (rest (suc head) (done ++ (b ∷ [])) (block_done feeds firsts times b t) (block_settles b l s o) (omega arith) (omega arith))

-- The end.

module _ (feeds : List Feed) (time : ℕ → ℕ) (below : (p n : ℕ) → Member p (feeders feeds n) → (p < node_slots) × (n < node_slots)) (t : Tables) (s : Settled feeds time t) where
  feeders_settled : (n : ℕ) → Member n t.order → (p : ℕ) → Member p (feeders feeds n) → Member p t.order
  unfolding into
  feeders_settled n i p j = let r = s.only n i in let w = s.waits n r.0 in waiting_none t.order n feeds (omega arith) p j

  pub settled_comes : (n : ℕ) → Member n t.order → comes feeds node_slots n ≡ false
  settled_comes n i =
      let h = in_order_comes feeds [] t.order s.fed (λ p j. absurd j) n (inr i) in
      let k = order_short feeds time s in
      let e : (node_slots - length t.order) + (length t.order + 0) ≡ node_slots = omega arith in
      subst (λ (j : ℕ). comes feeds j n ≡ false) e (longer (node_slots - length t.order) (length t.order + 0) h)
    where
      longer : (d k : ℕ) → comes feeds k n ≡ false → comes feeds (d + k) n ≡ false
      longer d k e = false_from_ne_true _ (λ q. true_not_false (comes_fewer feeds d k n q) e)

  pub unsettled_comes : (k n : ℕ) → n < node_slots → (Member n t.order → ⊥) → comes feeds k n ≡ true
  unfolding comes into
  unsettled_comes zero n h i = refl
  unsettled_comes (suc k) n h i =
      let w = s.waits n h in
      let r = waiting_some t.order n feeds (λ e. i (s.ready n h (omega arith))) in
      some_any (comes feeds k) (feeders feeds n) r.0 r.1 (unsettled_comes k r.0 (below r.0 n r.1).0 r.2)

  best_is : (n : ℕ) → Member n t.order → get_or t.best n 0 ≡ largest_of (λ p. time p + get_or t.best p 0) (feeders feeds n)
  best_is n i =
      largest_is (λ p. time p + get_or t.best p 0) (feeders feeds n) (get_or t.best n 0)
      (λ p j. ⊎_elim (λ k. absurd k) (λ k. k) (s.above p n j (feeders_settled n i p j)))
      (go (get_or t.origin n 0) refl)
    where
      go : (v : ℕ) → get_or t.origin n 0 ≡ v → (get_or t.best n 0 ≡ 0) ⊎ ((p : ℕ) × Member p (feeders feeds n) × (get_or t.best n 0 ≡ time p + get_or t.best p 0))
      go zero e = inl (s.from_none n e)
      go (suc p) e = let r = s.comes_from n p e in inr (p, r.1, r.2)

  pub settled_sum : (k n : ℕ) → Member n t.order → comes feeds k n ≡ false → largest_sum feeds time k n ≡ time n + get_or t.best n 0
  unfolding comes largest_sum
  settled_sum zero n i e = absurd (true_not_false refl e)
  settled_sum (suc k) n i e =
      let a = largest_same (largest_sum feeds time k) (λ p. time p + get_or t.best p 0) (feeders feeds n)
      (λ p j. settled_sum k p (feeders_settled n i p j) (any_none (comes feeds k) (feeders feeds n) e p j)) in
      let b = best_is n i in
      omega arith

  -- A path.

  -- a path found back from a block by so many steps at least
  PathTo : ℕ → ℕ → Type 0
  PathTo steps p =
      (k : ℕ) → steps ≤ suc k → (path : List ℕ) (z : ℕ) → Leads (Fed feeds) p z path →
      (a : ℕ) × (q : List ℕ) × (path_back t.origin k p path ≡ a ∷ q) × Leads (Fed feeds) a z q × (sum_along time (a ∷ q) ≡ (time p + get_or t.best p 0) + sum_along time path)

  path_next : (seen : List ℕ) (n : ℕ) → ((p : ℕ) → Member p (feeders feeds n) → Member p seen) → ((p : ℕ) → Member p seen → PathTo (length seen) p) → PathTo (suc (length seen)) n
  unfolding PathTo path_back
  path_next seen n fed h zero l path z w = (n, path, refl, w, go (get_or t.origin n 0) refl)
    where
      empty : (seen : List ℕ) → suc (length seen) ≤ 1 → (p : ℕ) → Member p seen → ⊥
      empty [] h p never = absurd never
      empty (x ∷ seen) h p i = omega arith

      go : (v : ℕ) → get_or t.origin n 0 ≡ v → sum_along time (n ∷ path) ≡ (time n + get_or t.best n 0) + sum_along time path
      go zero e = let b = s.from_none n e in omega arith
      go (suc p) e = absurd (empty seen l p (fed p (s.comes_from n p e).1))
  path_next seen n fed h (suc k) l path z w = go (get_or t.origin n 0) refl
    where
      go : (v : ℕ) → get_or t.origin n 0 ≡ v →
          (a : ℕ) × (q : List ℕ) × (cond (eqb (get_or t.origin n 0) 0) (n ∷ path) (path_back t.origin k (get_or t.origin n 0 - 1) (n ∷ path)) ≡ a ∷ q) × Leads (Fed feeds) a z q
          × (sum_along time (a ∷ q) ≡ (time n + get_or t.best n 0) + sum_along time path)
      go zero e = let b = s.from_none n e in (n, path, rw (eq-eqb (get_or t.origin n 0) 0 e), w, omega arith)
      go (suc p) e =
          let c = s.comes_from n p e in
          let r = h p (fed p c.1) k (omega arith) (n ∷ path) z (c.1, w) in
          let m : get_or t.origin n 0 - 1 ≡ p = omega arith in
          let x = c.2 in
          let y = r.4 in
          (r.0, r.1, rw (ne_eqb (get_or t.origin n 0) 0 (λ q. omega arith), m) r.2, r.3, omega arith)

  paths : (seen l : List ℕ) → InOrder feeds seen l → ((p : ℕ) → Member p seen → PathTo (length seen) p) → (p : ℕ) → Member p l → PathTo (length l + length seen) p
  unfolding PathTo
  paths seen [] o h p never k g = absurd never
  paths seen (n ∷ l) o h p i k g = find (paths (n ∷ seen) l o.1 next p) i
    where
      next : (q : ℕ) → Member q (n ∷ seen) → PathTo (suc (length seen)) q
      next q (inl e) = subst (PathTo (suc (length seen))) (sym e) (path_next seen n o.0 h)
      next q (inr j) = λ k g. h q j k (omega arith)

      find : (Member p l → PathTo (length l + suc (length seen)) p) → (p ≡ n) ⊎ Member p l → (path : List ℕ) (z : ℕ) → Leads (Fed feeds) p z path →
          (a : ℕ) × (q : List ℕ) × (path_back t.origin k p path ≡ a ∷ q) × Leads (Fed feeds) a z q × (sum_along time (a ∷ q) ≡ (time p + get_or t.best p 0) + sum_along time path)
      find rest (inl e) = subst (PathTo (suc (length seen))) (sym e) (path_next seen n o.0 h) k (omega arith)
      find rest (inr j) = rest j k (omega arith)

  -- the path found leads to the block and has its sum
  pub path_found : (n : ℕ) → Member n t.order →
      (a : ℕ) × (q : List ℕ) × (path_back t.origin (node_slots - 1) n [] ≡ a ∷ q) × Leads (Fed feeds) a n q × (sum_along time (a ∷ q) ≡ time n + get_or t.best n 0)
  unfolding PathTo
  path_found n i =
      let k = order_short feeds time s in
      let r = paths [] t.order s.fed (λ p j. absurd j) n i (node_slots - 1) (omega arith) [] n refl in
      let e = r.4 in
      (r.0, r.1, r.2, r.3, omega arith)
