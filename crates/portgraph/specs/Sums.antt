-- Laws of sums over the numbers below a bound, and how many links a graph has after one is made or cut.
-- Links are counted at their outgoing ends, so a link counts once.
use Rattle.std.specs.Prelude.{◌≡◌, refl, Bool, true, false, ◌≢◌, ℕ, zero, suc, ◌+◌, ◌*◌, ◌≤◌, ◌<◌, min, eqb, leb}
use Rattle.std.proofs.Common.{sym, ap, ◌∙◌, subst, suc-mul, arith, eqb-true, leb-true, leb-false}
use Rattle.std.proofs.lemmas.Bool.{eqb-false}
use Rattle.port_tables.specs.Limits.{node_slots, node_ports}
use Rattle.portgraph.specs.Model.{Far, nowhere, to, Slots, total, count_of, Valid, is_linked, out_place, links_out, InnerPlace}
use Rattle.portgraph.specs.Meaning.{same_place, drop_join, link_join}
use Rattle.portgraph.specs.Joins.{to_same, drop_elsewhere, drop_unlinked, Joined, far_valid}
pub use Rattle.portgraph.specs.Joins.{upd_same, upd_other, same_side_refl, same_side_true, same_side_false, same_side_distinct, place_by_parts, same_place_refl, same_place_true, same_place_false, same_place_distinct, place_cases, drop_here, drop_there, drop_nowhere, drop_kept, drop_joined, link_near, link_far, link_other, drop_elsewhere as cut_elsewhere}
use Rattle.port_tables.specs.declared.direction.Direction.{Direction}
use Rattle.port_tables.specs.declared.direction.Direction.TheVariants.{Incoming, Outgoing}

-- Sums.

pub total_same : (n : ℕ) (f g : ℕ → ℕ) → ((i : ℕ) → i < n → f i ≡ g i) → total n f ≡ total n g
unfolding total
total_same zero f g same = refl
total_same (suc n) f g same =
    let e : total n f ≡ total n g = total_same n f g (λ i h. same i (omega arith)) in
    let d : f n ≡ g n = same n (omega arith) in
    omega arith

-- f and g differ at k only
pub total_one : (n k : ℕ) (f g : ℕ → ℕ) → k < n → ((i : ℕ) → i < n → (i ≡ k → ⊥) → f i ≡ g i) → total n g + f k ≡ total n f + g k
unfolding total
total_one zero k f g below same = absurd (omega arith)
total_one (suc n) k f g below same = go (eqb n k) refl (λ h. total_one n k f g h (λ i b. same i (omega arith)))
  where
    go : (b : Bool) → eqb n k ≡ b → (k < n → total n g + f k ≡ total n f + g k) → total n g + g n + f k ≡ total n f + f n + g k
    go true e rest =
        let d : n ≡ k = eqb-true n k e in
        let s : total n f ≡ total n g = total_same n f g (λ i h. same i (omega arith) (omega arith)) in
        rw (← d) (omega arith)
    go false e rest =
        let d : n ≢ k = eqb-false n k e in
        let r : total n g + f k ≡ total n f + g k = rest (omega arith) in
        let s : f n ≡ g n = same n (omega arith) d in
        omega arith

pub total_bound : (n b : ℕ) (f : ℕ → ℕ) → ((i : ℕ) → i < n → f i ≤ b) → total n f ≤ n * b
unfolding total
total_bound zero b f small = omega arith
total_bound (suc n) b f small =
    let r : total n f ≤ n * b = total_bound n b f (λ i h. small i (omega arith)) in
    let d : f n ≤ b = small n (omega arith) in
    omega (arith, suc-mul n b)

pub total_has : (n k : ℕ) (f : ℕ → ℕ) → k < n → f k ≤ total n f
unfolding total
total_has zero k f below = absurd (omega arith)
total_has (suc n) k f below = go (eqb n k) refl (λ h. total_has n k f h)
  where
    go : (b : Bool) → eqb n k ≡ b → (k < n → f k ≤ total n f) → f k ≤ total n f + f n
    go true e rest = let d : n ≡ k = eqb-true n k e in rw (← d) (omega arith)
    go false e rest =
        let d : n ≢ k = eqb-false n k e in
        let r : f k ≤ total n f = rest (omega arith) in
        omega arith

-- zeros at the end do not count
pub total_more : (n k : ℕ) (f : ℕ → ℕ) → k ≤ n → ((i : ℕ) → k ≤ i → i < n → f i ≡ 0) → total n f ≡ total k f
unfolding total
total_more zero k f le none = let e : k ≡ zero = omega arith in rw e
total_more (suc n) k f le none = go (leb k n) refl (λ h. total_more n k f h (λ i a b. none i a (omega arith)))
  where
    go : (b : Bool) → leb k n ≡ b → (k ≤ n → total n f ≡ total k f) → total n f + f n ≡ total k f
    go true e rest =
        let h : k ≤ n = leb-true k n e in
        let r : total n f ≡ total k f = rest h in
        let z : f n ≡ 0 = none n h (omega arith) in
        omega arith
    go false e rest =
        let h : n < k = leb-false k n e in
        let d : k ≡ suc n = omega arith in
        rw d

-- two ranges beyond whose common part there are zeros
pub total_alike : (a b : ℕ) (f : ℕ → ℕ) → ((i : ℕ) → min a b ≤ i → f i ≡ 0) → total a f ≡ total b f
total_alike a b f none =
    total_more a (min a b) f (omega arith) (λ i h l. none i h) ∙ sym (total_more b (min a b) f (omega arith) (λ i h l. none i h))

-- How many links there are.

abbrev pub all_links : (ℕ → Slots) → (InnerPlace → Far) → ℕ
all_links node join = total node_slots (links_out node join)

pub links_same : (node other : ℕ → Slots) (j k : InnerPlace → Far) → ((z : InnerPlace) → j z ≡ k z) → ((n : ℕ) → count_of (node n) Outgoing ≡ count_of (other n) Outgoing) → all_links node j ≡ all_links other k
links_same node other j k same counts =
    total_same node_slots (links_out node j) (links_out other k)
    (λ n h. total_same (count_of (node n) Outgoing) _ (λ i. is_linked (k (out_place n i))) (λ i b. ap is_linked (same (out_place n i)))
    ∙ ap (λ (c : ℕ). total c (λ i. is_linked (k (out_place n i)))) (counts n))

-- a node has other counts, and no links beyond the smaller of the two
pub links_after_recount : (node other : ℕ → Slots) (join : InnerPlace → Far) (n : ℕ) → ((k : ℕ) → (k ≡ n → ⊥) → count_of (node k) Outgoing ≡ count_of (other k) Outgoing) → ((i : ℕ) → min (count_of (node n) Outgoing) (count_of (other n) Outgoing) ≤ i → join (out_place n i) ≡ nowhere) → all_links other join ≡ all_links node join
links_after_recount node other join n counts none =
    total_same node_slots (links_out other join) (links_out node join) (λ k h. go k (eqb k n) refl)
  where
    go : (k : ℕ) (b : Bool) → eqb k n ≡ b → links_out other join k ≡ links_out node join k
    go k true e =
        subst (λ (m : ℕ). links_out other join m ≡ links_out node join m) (sym (eqb-true k n e))
        (sym (total_alike (count_of (node n) Outgoing) (count_of (other n) Outgoing) (λ i. is_linked (join (out_place n i))) (λ i h. ap is_linked (none i h))))
    go k false e = ap (λ (c : ℕ). total c (λ i. is_linked (join (out_place k i)))) (sym (counts k (eqb-false k n e)))

pub links_bound : (node : ℕ → Slots) (join : InnerPlace → Far) → ((n : ℕ) → n < node_slots → count_of (node n) Outgoing ≤ node_ports) → all_links node join ≤ node_slots * node_ports
links_bound node join small =
    total_bound node_slots node_ports (links_out node join)
    (λ n h. few n (total_bound (count_of (node n) Outgoing) 1 (λ i. is_linked (join (out_place n i))) (λ i b. one (join (out_place n i)))) (small n h))
  where
    one : (w : Far) → is_linked w ≤ 1
    one nowhere = omega arith
    one (to y) = omega arith

    few : (n : ℕ) → links_out node join n ≤ count_of (node n) Outgoing * 1 → count_of (node n) Outgoing ≤ node_ports → links_out node join n ≤ node_ports
    few n a b = omega arith

module _ (node : ℕ → Slots) (j k : InnerPlace → Far) where
  -- k has a link more, whose outgoing end is x
  outgoing_end_counts : (x y : InnerPlace) → x.side ≡ Outgoing → y.side ≡ Incoming → Valid node x → x.node < node_slots → ((z : InnerPlace) → (z ≡ x → ⊥) → (z ≡ y → ⊥) → j z ≡ k z) → j x ≡ nowhere → k x ≡ to y → all_links node k ≡ suc (all_links node j)
  outgoing_end_counts x y out incoming valid below same before after =
      let inner : links_out node k x.node + is_linked (j here) ≡ links_out node j x.node + is_linked (k here) = total_one (count_of (node x.node) Outgoing) x.pos (λ i. is_linked (j (out_place x.node i))) (λ i. is_linked (k (out_place x.node i))) (subst (λ (d : Direction). x.pos < count_of (node x.node) d) out valid) (λ i b other. elsewhere x.node i (λ e. other (ap (λ (z : InnerPlace). z.pos) e))) in
      let outer : all_links node k + links_out node j x.node ≡ all_links node j + links_out node k x.node = total_one node_slots x.node (links_out node j) (links_out node k) below (λ n b other. total_same (count_of (node n) Outgoing) _ _ (λ i h. elsewhere n i (λ e. other (ap (λ (z : InnerPlace). z.node) e)))) in
      let a : is_linked (j here) ≡ 0 = ap (λ (z : InnerPlace). is_linked (j z)) is_here ∙ ap is_linked before in
      let b : is_linked (k here) ≡ 1 = ap (λ (z : InnerPlace). is_linked (k z)) is_here ∙ ap is_linked after in
      omega arith
    where
      here : InnerPlace
      here = out_place x.node x.pos

      is_here : here ≡ x
      is_here = place_by_parts here x refl (sym out) refl

      elsewhere : (n i : ℕ) → (out_place n i ≡ x → ⊥) → is_linked (j (out_place n i)) ≡ is_linked (k (out_place n i))
      elsewhere n i other = ap is_linked (same (out_place n i) other (λ e. let d : Outgoing ≡ Incoming = ap (λ (z : InnerPlace). z.side) e ∙ incoming in let z : ◌≡◌ {A = ℕ} 0 1 = cc in omega arith))

  -- k has a link more
  pub pair_counts : (x y : InnerPlace) → (x.side ≡ y.side → ⊥) → Valid node x → Valid node y → x.node < node_slots → y.node < node_slots → ((z : InnerPlace) → (z ≡ x → ⊥) → (z ≡ y → ⊥) → j z ≡ k z) → j x ≡ nowhere → j y ≡ nowhere → k x ≡ to y → k y ≡ to x → all_links node k ≡ suc (all_links node j)
  pair_counts x y differ vx vy bx by same jx jy kx ky = go x.side y.side refl refl
    where
      go : (d e : Direction) → x.side ≡ d → y.side ≡ e → all_links node k ≡ suc (all_links node j)
      go Incoming Incoming p q = absurd (differ (p ∙ sym q))
      go Incoming Outgoing p q = outgoing_end_counts y x q p vy by (λ z a b. same z b a) jy ky
      go Outgoing Incoming p q = outgoing_end_counts x y p q vx bx same jx kx
      go Outgoing Outgoing p q = absurd (differ (p ∙ sym q))

module _ (node : ℕ → Slots) (join : InnerPlace → Far) (below : (z : InnerPlace) → Valid node z → z.node < node_slots) where
  cut_counts_one : Joined (Valid node) join → (x y : InnerPlace) → join x ≡ to y → suc (all_links node (drop_join (same_place x) join)) ≡ all_links node join
  cut_counts_one l x y j =
      sym
      (pair_counts node (drop_join (same_place x) join) join x y (l.sides x y j) vx vy (below x vx) (below y vy)
      (λ z a b. drop_elsewhere join x z a (λ e. b (to_same (l.back z x e) j)))
      (drop_here (same_place x) join x (same_place_refl x))
      (drop_there (same_place x) join y x (l.back x y j) (same_place_refl x))
      j
      (l.back x y j))
    where
      vx : Valid node x
      vx = l.valid x y j

      vy : Valid node y
      vy = far_valid l x y j

  -- a link that is cut is one link less
  pub one_link_less : Joined (Valid node) join → (x : InnerPlace) → is_linked (join x) + all_links node (drop_join (same_place x) join) ≡ all_links node join
  one_link_less l x = go (join x) refl
    where
      go : (w : Far) → join x ≡ w → is_linked w + all_links node (drop_join (same_place x) join) ≡ all_links node join
      go nowhere e = omega (arith, links_same node node (drop_join (same_place x) join) join (drop_unlinked l x e) (λ n. refl))
      go (to y) e = omega (arith, cut_counts_one l x y e)

  pub link_counts_one : (x y : InnerPlace) → Valid node x → Valid node y → (x.side ≡ y.side → ⊥) → join x ≡ nowhere → join y ≡ nowhere → all_links node (link_join x y join) ≡ suc (all_links node join)
  link_counts_one x y vx vy differ jx jy =
      pair_counts node join (link_join x y join) x y differ vx vy (below x vx) (below y vy)
      (λ z a b. sym (link_other x y join z a b))
      jx
      jy
      (link_near x y join)
      (link_far x y join (λ e. differ (ap (λ (z : InnerPlace). z.side) (sym e))))
