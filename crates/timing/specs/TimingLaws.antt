-- Proofs of the theorems about times, of any graph whose wires are given: the answer by cases, and walks along wires.
use Rattle.std.proofs.Math.Path.{◌≡◌, refl, sym, ap, subst}
use Rattle.std.proofs.Common.{◌∙◌, inl, inr, ⊎_elim, length-set, get_or-set_same, get_or-set_other}
use Rattle.std.specs.Prelude.{Bool, cond, List, [], ◌∷◌, map, ◌⊎◌, ◌↔◌, ℕ, zero, suc, ◌+◌, ◌-◌, ◌≤◌, ◌<◌, ltb, get_or, set, Ok, Err}
use Rattle.std.proofs.Math.Bool.{true, false}
use native.Mathlib.Omega.{arith}
use Rattle.std.proofs.Math.Dec.{eqb}
use Rattle.std.proofs.Math.ListN.{length}
use Rattle.std.proofs.Math.Seq.{set_out}
use Rattle.std.proofs.lemmas.Bool.{cases_eq}
use borrow.Author.Tests.{eqb-true, eq-eqb, ne_eqb, ltb-true, ltb-false}
use Rattle.port_tables.specs.Limits.{node_slots}
use Rattle.port_tables.specs.Lists.{Member, Rising}
use Rattle.std.specs.List.{filter}
use Rattle.portgraph.specs.Model.{Model}
use Rattle.multiportgraph.specs.HiddenStays.{true_not_false}
use Rattle.multiportgraph.specs.WellFormed.{Fine}
use Rattle.port_tables.specs.Listing.{Apart, rising_once, member_map, map_member, member_filter, filter_member, rising_filter}
use Rattle.port_tables.specs.Places.{Wire}
use Rattle.multiportgraph.specs.Walks.{Start, started, refused, start_at_node}
use Rattle.multiportgraph.specs.Wires.{blocks, wires_walked}
use Rattle.multiportgraph.specs.declared.multiportgraph.MultiPortGraph.{MultiPortGraph}
use Rattle.multi_tables.specs.declared.answers.Refusal.{Refusal}
use Rattle.theorems.proofs.PortListing.{blocks_list}
use Rattle.theorems.proofs.StartLaws.{start_at_node_starts}
use Rattle.timing.specs.Longest.{Feed, feed_of, feeds_in, feeders, comes, largest_sum, time_in, longest_among, longest_timed, longest_from, longest_of}
use Rattle.timing.specs.RunOrder.{is_in, run_order}
use Rattle.timing.specs.Path.{path_of}
use Rattle.timing.specs.TimingClaims.{Feeds, Leads, sum_along}
use Rattle.timing.specs.WalkLaws.{Fed, member_or_not, walk_short, walk_apart, sum_above, sum_some}
use Rattle.timing.specs.Settling.{settled, path_back, path_among}
use Rattle.timing.specs.SettleLaws.{feed#, in_member, member_in, feeders_member, member_feeders, unsettled_comes, settled_sum, path_found}
use Rattle.timing.specs.StartLaws.{all_settled}
use Rattle.timing.specs.FeedLaws.{feeds_rise, feeders_below, feeders_between, block_below}
use Rattle.timing.specs.RunOrderLaws.{ordered_before, before_filter, right_run_order}
use Rattle.timing.specs.AnswerSteps.{started_below}
use Rattle.timing.specs.declared.answers.LongestError.TheVariants.{Refused, BadTimes, Cycle}

-- The answer by cases.

module _ (m : MultiPortGraph) (n : ℕ) (times : List ℕ) where
  -- what a sum says
  pub record Summed (s : ℕ) : Type 0 where
    pub block : start_at_node m n ≡ started
    pub long : length times ≡ node_slots
    pub short : comes (feeds_in m) node_slots n ≡ false
    pub sum : s ≡ largest_sum (feeds_in m) (time_in times) node_slots n

  pub summed : (s : ℕ) → longest_of m n times ≡ Ok s → Summed s
  unfolding longest_of longest_timed longest_among
  summed s = go (start_at_node m n) (eqb (length times) node_slots) (comes (feeds_in m) node_slots n) refl refl refl
    where
      go : (v : Start) (b c : Bool) → start_at_node m n ≡ v → eqb (length times) node_slots ≡ b → comes (feeds_in m) node_slots n ≡ c →
          longest_from v (cond b (cond c (Err Cycle) (Ok (largest_sum (feeds_in m) (time_in times) node_slots n))) (Err BadTimes)) ≡ Ok s → Summed s
      go started true true p q r e = let z : ◌≡◌ {A = ℕ} 0 1 = cc in absurd (omega arith)
      go started true false p q r e = record { block = p; long = eqb-true (length times) node_slots q; short = r; sum = cc }
      go started false c p q r e = let z : ◌≡◌ {A = ℕ} 0 1 = cc in absurd (omega arith)
      go (refused x) b c p q r e = let z : ◌≡◌ {A = ℕ} 0 1 = cc in absurd (omega arith)

  pub sums : (s : ℕ) → Summed s → longest_of m n times ≡ Ok s
  unfolding longest_of longest_timed longest_among
  sums s h = rw (h.block, eq-eqb (length times) node_slots h.long, h.short) (ap Ok (sym h.sum))

  -- what 20 says
  pub cycles : start_at_node m n ≡ started → length times ≡ node_slots → (longest_of m n times ≡ Err Cycle) ↔ (comes (feeds_in m) node_slots n ≡ true)
  unfolding longest_of longest_timed longest_among
  cycles p q = (go (comes (feeds_in m) node_slots n), back)
    where
      go : (c : Bool) → longest_from (start_at_node m n) (cond (eqb (length times) node_slots) (cond c (Err Cycle) (Ok (largest_sum (feeds_in m) (time_in times) node_slots n))) (Err BadTimes)) ≡ Err Cycle → c ≡ true
      go true e = refl
      go false e =
          let a : longest_from (start_at_node m n) (cond (eqb (length times) node_slots) (Ok (largest_sum (feeds_in m) (time_in times) node_slots n)) (Err BadTimes)) ≡ Ok (largest_sum (feeds_in m) (time_in times) node_slots n) =
          rw (p, eq-eqb (length times) node_slots q) refl in
          let z : ◌≡◌ {A = ℕ} 0 1 = cc in absurd (omega arith)

      back : comes (feeds_in m) node_slots n ≡ true → longest_from (start_at_node m n) (cond (eqb (length times) node_slots) (cond (comes (feeds_in m) node_slots n) (Err Cycle) (Ok (largest_sum (feeds_in m) (time_in times) node_slots n))) (Err BadTimes)) ≡ Err Cycle
      back c = rw (p, eq-eqb (length times) node_slots q, c) refl

  -- what 19 says
  pub bad_times : start_at_node m n ≡ started → (longest_of m n times ≡ Err BadTimes) ↔ (length times ≡ node_slots → ⊥)
  unfolding longest_of longest_timed longest_among
  bad_times p = ((λ e q. go (comes (feeds_in m) node_slots n) q e), (λ h. rw (p, ne_eqb (length times) node_slots h) refl))
    where
      go : (c : Bool) → length times ≡ node_slots → longest_from (start_at_node m n) (cond (eqb (length times) node_slots) (cond c (Err Cycle) (Ok (largest_sum (feeds_in m) (time_in times) node_slots n))) (Err BadTimes)) ≡ Err BadTimes → ⊥
      go true q e =
          let a : longest_from (start_at_node m n) (cond (eqb (length times) node_slots) (Err Cycle) (Err BadTimes)) ≡ Err Cycle = rw (p, eq-eqb (length times) node_slots q) refl in
          let z : ◌≡◌ {A = ℕ} 0 1 = cc in omega arith
      go false q e =
          let a : longest_from (start_at_node m n) (cond (eqb (length times) node_slots) (Ok (largest_sum (feeds_in m) (time_in times) node_slots n)) (Err BadTimes)) ≡ Ok (largest_sum (feeds_in m) (time_in times) node_slots n) =
          rw (p, eq-eqb (length times) node_slots q) refl in
          let z : ◌≡◌ {A = ℕ} 0 1 = cc in omega arith

  -- what 4 and 5 say
  pub refuses : (r : Refusal) → (longest_of m n times ≡ Err (Refused r)) ↔ (start_at_node m n ≡ refused r)
  unfolding longest_of longest_timed longest_among
  refuses r = (go (start_at_node m n) (eqb (length times) node_slots) (comes (feeds_in m) node_slots n), (λ e. rw e refl))
    where
      go : (v : Start) (b c : Bool) → longest_from v (cond b (cond c (Err Cycle) (Ok (largest_sum (feeds_in m) (time_in times) node_slots n))) (Err BadTimes)) ≡ Err (Refused r) → v ≡ refused r
      go started true true e = let z : ◌≡◌ {A = ℕ} 0 1 = cc in absurd (omega arith)
      go started true false e = let z : ◌≡◌ {A = ℕ} 0 1 = cc in absurd (omega arith)
      go started false c e = let z : ◌≡◌ {A = ℕ} 0 1 = cc in absurd (omega arith)
      go (refused x) b c e = let z : x ≡ r = cc in ap refused z

-- Times that differ at one slot.

sum_same : (t u : ℕ → ℕ) (b : ℕ) → ((k : ℕ) → (k ≡ b → ⊥) → u k ≡ t k) → (l : List ℕ) → ((k : ℕ) → Member k l → k ≡ b → ⊥) → sum_along u l ≡ sum_along t l
sum_same t u b same [] h = refl
sum_same t u b same (n ∷ l) h = let e = same n (h n (inl refl)) in let r = sum_same t u b same l (λ k i. h k (inr i)) in omega arith

-- a walk that passes it at most once has a sum that differs by no more
sum_moves : (t u : ℕ → ℕ) (b by : ℕ) → ((k : ℕ) → (k ≡ b → ⊥) → u k ≡ t k) → u b ≤ t b + by → (l : List ℕ) → Rising Apart l → sum_along u l ≤ sum_along t l + by
sum_moves t u b by same h [] r = omega arith
sum_moves t u b by same h (n ∷ l) r = go (cases_eq n b) (sum_moves t u b by same h l r.1)
  where
    go : (n ≡ b) ⊎ (n ≡ b → ⊥) → sum_along u l ≤ sum_along t l + by → sum_along u (n ∷ l) ≤ sum_along t (n ∷ l) + by
    go (inl e) s =
        let q = sum_same t u b same l (λ k i p. r.0 k i (e ∙ sym p)) in
        let x = ap u e in
        let y = ap t e in
        omega arith
    go (inr d) s = let e = same n d in omega arith

module _ (times : List ℕ) (b y : ℕ) where
  other_times : (k : ℕ) → (k ≡ b → ⊥) → time_in (set times b y) k ≡ time_in times k
  other_times k d = get_or-set_other times b k y 0 d

  there_or_same : (time_in (set times b y) b ≡ y) ⊎ (time_in (set times b y) b ≡ time_in times b)
  there_or_same = go (ltb b (length times)) refl
    where
      go : (a : Bool) → ltb b (length times) ≡ a → (time_in (set times b y) b ≡ y) ⊎ (time_in (set times b y) b ≡ time_in times b)
      go true e = inl (get_or-set_same times b y 0 (ltb-true b (length times) e))
      go false e = inr (ap (λ (l : List ℕ). get_or l b 0) (set_out times b y (ltb-false b (length times) e)))

  time_moves : (by : ℕ) → y ≤ time_in times b + by → time_in times b ≤ y + by → (time_in (set times b y) b ≤ time_in times b + by) × (time_in times b ≤ time_in (set times b y) b + by)
  time_moves by h k = ⊎_elim (λ e. (omega arith, omega arith)) (λ e. (omega arith, omega arith)) there_or_same

-- Of a graph.

module _ {m : MultiPortGraph} {M : Model} (f : Fine m M) where
  abbrev F : ℕ → ℕ → Type 0
  F = Fed (feeds_in m)

  -- the largest sum of walks along its feeds
  pub largest : (n : ℕ) (times : List ℕ) → comes (feeds_in m) node_slots n ≡ false → (a : ℕ) (l : List ℕ) → Leads F a n l → sum_along (time_in times) (a ∷ l) ≤ largest_sum (feeds_in m) (time_in times) node_slots n
  largest n times e a l w = sum_above (feeds_in m) (time_in times) node_slots a n l w (walk_short (feeds_in m) node_slots a n l e w)

  pub moved : (n : ℕ) (times : List ℕ) (b y by s : ℕ) → y ≤ time_in times b + by → time_in times b ≤ y + by → longest_of m n times ≡ Ok s →
      (r : ℕ) × (longest_of m n (set times b y) ≡ Ok r) × (r ≤ s + by) × (s ≤ r + by)
  moved n times b y by s h k e =
      let a = summed m n times s e in
      let t = time_in times in
      let u = time_in (set times b y) in
      let r = largest_sum (feeds_in m) u node_slots n in
      let d = time_moves times b y by h k in
      let v = sum_some (feeds_in m) u node_slots n in
      let w = sum_some (feeds_in m) t node_slots n in
      let p = sum_moves t u b by (other_times times b y) d.0 (v.0 ∷ v.1) (walk_apart (feeds_in m) node_slots v.0 n v.1 a.short v.2) in
      let q = sum_moves u t b by (λ k x. sym (other_times times b y k x)) d.1 (w.0 ∷ w.1) (walk_apart (feeds_in m) node_slots w.0 n w.1 a.short w.2) in
      let x = largest n times a.short v.0 v.1 v.2 in
      let z = largest n (set times b y) a.short w.0 w.1 w.2 in
      let i = v.3 in
      let j = w.3 in
      let c = a.sum in
      (r, sums m n (set times b y) r (record { block = a.block; long = length-set times b y ∙ a.long; short = a.short; sum = refl }), omega arith, omega arith)

  -- a block
  pub started_block : (n : ℕ) → Member n (blocks m) → start_at_node m n ≡ started
  started_block n i = let b = (blocks_list f).only n i in (start_at_node_starts f n).1 b

  settled_block : (times : List ℕ) (n : ℕ) → n < node_slots → comes (feeds_in m) node_slots n ≡ false → Member n (settled (feeds_in m) times).order
  settled_block times n h e =
      ⊎_elim (λ i. i)
      (λ d. absurd (true_not_false (unsettled_comes (feeds_in m) (time_in times) (feeders_below f) (settled (feeds_in m) times) (all_settled (feeds_in m) (feeders_below f) (feeds_rise f) times) node_slots n h d) e))
      (member_or_not n (settled (feeds_in m) times).order)

  -- a path that has the sum
  pub path_has : (n : ℕ) (times : List ℕ) (s : ℕ) → longest_of m n times ≡ Ok s → (a : ℕ) × (l : List ℕ) × (path_of m n times ≡ a ∷ l) × Leads F a n l × (sum_along (time_in times) (a ∷ l) ≡ s)
  unfolding path_of path_among
  path_has n times s e =
      let c = summed m n times s e in
      let g = all_settled (feeds_in m) (feeders_below f) (feeds_rise f) times in
      let i = settled_block times n (started_below f n c.block) c.short in
      let p = path_found (feeds_in m) (time_in times) (feeders_below f) (settled (feeds_in m) times) g n i in
      let q = settled_sum (feeds_in m) (time_in times) (feeders_below f) (settled (feeds_in m) times) g node_slots n i c.short in
      let x = p.4 in
      let y = c.sum in
      (p.0, p.1, p.2, p.3, omega arith)

  -- some order
  pub order_found : ((n : ℕ) → Member n (blocks m) → comes (feeds_in m) node_slots n ≡ false) → (order : List ℕ) × (run_order m order ≡ true)
  order_found h =
      let t = settled (feeds_in m) [] in
      let s = all_settled (feeds_in m) (feeders_below f) (feeds_rise f) [] in
      let is_one : ℕ → Bool = λ n. is_in n (blocks m) in
      let there : (n : ℕ) → Member n (blocks m) → Member n t.order = λ n i. settled_block [] n (block_below f n i) (h n i) in (
        filter is_one t.order,
        right_run_order m (filter is_one t.order)
            (record {
              only = λ n i. in_member n (blocks m) (member_filter is_one n t.order i).1;
              all = λ n i. filter_member is_one n t.order (there n i) (member_in n (blocks m) i);
              once = rising_once Apart (λ x e. e refl) (filter is_one t.order) (rising_filter Apart is_one t.order s.once);
              forward = λ a b g.
                  let e = feeders_between f a b g in
                  before_filter is_one t.order a b (ordered_before (feeds_in m) t.order s.fed a b g (there b e.1)) (member_in a (blocks m) e.0) (member_in b (blocks m) e.1);
            }),
      )

-- Of a graph whose wires are those of a list.

module _ (m : MultiPortGraph) (wires : List Wire) (has : (w : Wire) → Member w (wires_walked m) → Member w wires) (lists : (w : Wire) → Member w wires → Member w (wires_walked m)) where
  pub fed_feeds : (a b : ℕ) → Member a (feeders (feeds_in m) b) → Feeds wires a b
  unfolding feeds_in
  fed_feeds a b i =
      let g = member_map feed_of (feed# a b) (wires_walked m) (feeders_member a b (map feed_of (wires_walked m)) i) in
      (g.0, has g.0 g.1, sym (ap (λ (x : Feed). x.source) g.2), sym (ap (λ (x : Feed). x.target) g.2))

  pub feeds_fed : (a b : ℕ) → Feeds wires a b → Member a (feeders (feeds_in m) b)
  unfolding feeds_in
  feeds_fed a b (w, i, p, q) =
      let k = member_feeders (feed_of w) (map feed_of (wires_walked m)) (map_member feed_of w (wires_walked m) (lists w i)) in
      subst (λ (x : ℕ). Member x (feeders (map feed_of (wires_walked m)) b)) p (subst (λ (y : ℕ). Member w.out.node (feeders (map feed_of (wires_walked m)) y)) q k)

-- no more blocks than steps back, and one
pub path_length : (origin : List ℕ) (fuel n : ℕ) (path : List ℕ) → length (path_back origin fuel n path) ≤ suc fuel + length path
unfolding path_back
path_length origin zero n path = omega arith
path_length origin (suc fuel) n path = go (eqb (get_or origin n 0) 0) (path_length origin fuel (get_or origin n 0 - 1) (n ∷ path))
  where
    go : (b : Bool) → length (path_back origin fuel (get_or origin n 0 - 1) (n ∷ path)) ≤ suc fuel + suc (length path) →
        length (cond b (n ∷ path) (path_back origin fuel (get_or origin n 0 - 1) (n ∷ path))) ≤ suc (suc fuel) + length path
    go true h = omega arith
    go false h = omega arith
