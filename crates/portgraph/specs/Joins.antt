-- Laws of single changes: tests on places, a function changed at one number, links dropped, a link made.
-- A join says which place is linked with which. Good joins, symmetric and between opposite sides, stay good.
use Rattle.std.specs.Prelude.{◌≡◌, Bool, ◌⊎◌, ℕ, eqb}
use Rattle.std.proofs.Math.Path.{refl, sym}
use Rattle.std.proofs.Common.{◌∙◌, ap, true≢false, inl, inr, eqb-true, eq-eqb}
use Rattle.std.proofs.Math.Bool.{true, false, cond}
use Rattle.std.proofs.lemmas.Bool.{eqb-false, false_from_ne_true}
use Rattle.portgraph.specs.Model.{Far, nowhere, to, InnerPlace}
use Rattle.portgraph.specs.Meaning.{upd, same_place, keep_far, drop_join, link_join}
use Rattle.port_tables.specs.Entries.{same_side}
use Rattle.port_tables.specs.declared.direction.Direction.{Direction}
use Rattle.port_tables.specs.declared.direction.Direction.TheVariants.{Incoming, Outgoing}
use Rattle.port_tables.specs.Listing.{zero_is_not_one}

-- A function changed at one number.

pub upd_elim {ℓ κ} : {A : Type ℓ} (P : A → Type κ) (f : ℕ → A) (n : ℕ) (v : A) (i : ℕ) → (i ≡ n → P v) → ((i ≡ n → ⊥) → P (f i)) → P (upd f n v i)
unfolding upd
upd_elim P f n v i here away = go (eqb i n) refl
  where
    go : (t : Bool) → eqb i n ≡ t → P (cond t v (f i))
    go true e = here (eqb-true i n e)
    go false e = away (eqb-false i n e)

pub upd_same {ℓ} : {A : Type ℓ} (f : ℕ → A) (n : ℕ) (v : A) → upd f n v n ≡ v
upd_same f n v = upd_elim (λ a. a ≡ v) f n v n (λ e. refl) (λ h. absurd (h refl))

pub upd_other {ℓ} : {A : Type ℓ} (f : ℕ → A) (n : ℕ) (v : A) (i : ℕ) → (i ≡ n → ⊥) → upd f n v i ≡ f i
upd_other f n v i h = upd_elim (λ a. a ≡ f i) f n v i (λ e. absurd (h e)) (λ k. refl)

-- Sides and places: the tests say what they are named for.

pub same_side_refl : (d : Direction) → same_side d d ≡ true
same_side_refl Incoming = refl
same_side_refl Outgoing = refl

pub same_side_true : (d e : Direction) → same_side d e ≡ true → d ≡ e
same_side_true Incoming Incoming t = refl
same_side_true Incoming Outgoing t = absurd (zero_is_not_one (cc))
same_side_true Outgoing Incoming t = absurd (zero_is_not_one (cc))
same_side_true Outgoing Outgoing t = refl

pub same_side_false : (d e : Direction) → same_side d e ≡ false → d ≡ e → ⊥
same_side_false d e t s = true≢false (sym (same_side_refl d) ∙ ap (same_side d) s ∙ t)

pub same_side_distinct : (d e : Direction) → (d ≡ e → ⊥) → same_side d e ≡ false
same_side_distinct d e other = false_from_ne_true (same_side d e) (λ t. other (same_side_true d e t))

pub place_by_parts : (x y : InnerPlace) → x.node ≡ y.node → x.side ≡ y.side → x.pos ≡ y.pos → x ≡ y
place_by_parts x y p q r = λ i. record { node = p i; side = q i; pos = r i }

pub same_place_refl : (x : InnerPlace) → same_place x x ≡ true
unfolding same_place
same_place_refl x = rw (eq-eqb x.node x.node refl, same_side_refl x.side, eq-eqb x.pos x.pos refl)

pub same_place_true : (x y : InnerPlace) → same_place x y ≡ true → x ≡ y
unfolding same_place
same_place_true x y = go (eqb x.node y.node) refl (same_side x.side y.side) refl
  where
    go : (a : Bool) → eqb x.node y.node ≡ a → (b : Bool) → same_side x.side y.side ≡ b → cond a (cond b (eqb x.pos y.pos) false) false ≡ true → x ≡ y
    go true p true q r = place_by_parts x y (eqb-true _ _ p) (same_side_true _ _ q) (eqb-true _ _ r)
    go true p false q r = absurd (zero_is_not_one (cc))
    go false p b q r = absurd (zero_is_not_one (cc))

pub same_place_false : (x y : InnerPlace) → same_place x y ≡ false → x ≡ y → ⊥
same_place_false x y t s = true≢false (sym (same_place_refl x) ∙ ap (same_place x) s ∙ t)

pub same_place_distinct : (x y : InnerPlace) → (x ≡ y → ⊥) → same_place x y ≡ false
same_place_distinct x y other = false_from_ne_true (same_place x y) (λ t. other (same_place_true x y t))

-- two places are the same or not
pub place_cases : (x y : InnerPlace) → (x ≡ y) ⊎ (x ≡ y → ⊥)
place_cases x y = go (same_place x y) refl
  where
    go : (b : Bool) → same_place x y ≡ b → (x ≡ y) ⊎ (x ≡ y → ⊥)
    go true t = inl (same_place_true x y t)
    go false t = inr (same_place_false x y t)

pub nowhere_not_to : {f : Far} {y : InnerPlace} → f ≡ nowhere → f ≡ to y → ⊥
nowhere_not_to p q = zero_is_not_one (cc)

pub to_same : {f : Far} {x y : InnerPlace} → f ≡ to x → f ≡ to y → x ≡ y
to_same p q = cc

-- Links that go with the places of a test.

pub either_way {ℓ} : {A : Type ℓ} (b : Bool) (x : A) → cond b x x ≡ x
either_way true x = refl
either_way false x = refl

module _ (f : InnerPlace → Bool) (join : InnerPlace → Far) (x : InnerPlace) where
  pub drop_here : f x ≡ true → drop_join f join x ≡ nowhere
  unfolding drop_join
  drop_here t = rw t

  pub drop_there : (y : InnerPlace) → join x ≡ to y → f y ≡ true → drop_join f join x ≡ nowhere
  unfolding drop_join
  drop_there y j t = rw (j, t) (either_way (f x) nowhere)

  pub drop_nowhere : join x ≡ nowhere → drop_join f join x ≡ nowhere
  unfolding drop_join
  drop_nowhere j = rw j (either_way (f x) nowhere)

  pub drop_kept : (y : InnerPlace) → join x ≡ to y → f x ≡ false → f y ≡ false → drop_join f join x ≡ to y
  unfolding drop_join
  drop_kept y j a b = rw (a, j, b)

  -- a link that is left has neither end among the dropped places, and was there before
  pub drop_joined : (y : InnerPlace) → drop_join f join x ≡ to y → (join x ≡ to y) × (f x ≡ false) × (f y ≡ false)
  unfolding drop_join
  drop_joined y = go (f x) refl (join x) refl
    where
      far : (w : InnerPlace) (b : Bool) → f w ≡ b → cond b nowhere (to w) ≡ to y → (to w ≡ to y) × (f y ≡ false)
      far w true t e = absurd (nowhere_not_to refl e)
      far w false t e = (e, sym (ap f (to_same refl e)) ∙ t)

      go : (b : Bool) → f x ≡ b → (w : Far) → join x ≡ w → cond b nowhere (keep_far f w) ≡ to y → (join x ≡ to y) × (f x ≡ false) × (f y ≡ false)
      go true a w j e = absurd (nowhere_not_to refl e)
      go false a nowhere j e = absurd (nowhere_not_to refl e)
      go false a (to w) j e = let r = far w (f w) refl e in (j ∙ r.0, a, r.1)

  -- a place is left alone where neither it nor its far end is dropped
  pub drop_leaves : ((y : InnerPlace) → join x ≡ to y → (f x ≡ false) × (f y ≡ false)) → drop_join f join x ≡ join x
  drop_leaves h = go (join x) refl
    where
      go : (w : Far) → join x ≡ w → drop_join f join x ≡ join x
      go nowhere j = drop_nowhere j ∙ sym j
      go (to y) j = drop_kept y j (h y j).0 (h y j).1 ∙ sym j

-- to drop twice is to drop with either test
pub drop_twice : (f g h : InnerPlace → Bool) (join : InnerPlace → Far) → ((z : InnerPlace) → h z ≡ cond (f z) true (g z)) → (z : InnerPlace)
    → drop_join g (drop_join f join) z ≡ drop_join h join z
unfolding drop_join
drop_twice f g h join either z = rw (either z) (go (f z) (g z) (join z))
  where
    ends : (w : InnerPlace) (c d : Bool) → g w ≡ d → keep_far g (cond c nowhere (to w)) ≡ cond (cond c true d) nowhere (to w)
    ends w true d e = refl
    ends w false d e = rw e

    go : (a b : Bool) (far : Far) → cond b nowhere (keep_far g (cond a nowhere (keep_far f far))) ≡ cond (cond a true b) nowhere (keep_far h far)
    go true true far = refl
    go true false far = refl
    go false true far = refl
    go false false nowhere = refl
    go false false (to w) = rw (either w) (ends w (f w) (g w) refl)

-- the link of x is dropped: every place but x and its far end is left alone
pub drop_elsewhere : (join : InnerPlace → Far) (x z : InnerPlace) → (z ≡ x → ⊥) → (join z ≡ to x → ⊥) → drop_join (same_place x) join z ≡ join z
drop_elsewhere join x z other apart =
    drop_leaves (same_place x) join z
    (λ w j. (same_place_distinct x z (λ e. other (sym e)), same_place_distinct x w (λ e. apart (j ∙ ap to (sym e)))))

-- A link is made.

pub link_elim {ℓ} : (P : Far → Type ℓ) (x y : InnerPlace) (join : InnerPlace → Far) (z : InnerPlace) → (z ≡ x → P (to y)) → ((z ≡ x → ⊥) → z ≡ y → P (to x)) → ((z ≡ x → ⊥) → (z ≡ y → ⊥) → P (join z)) → P (link_join x y join z)
unfolding link_join
link_elim P x y join z first second other = go (same_place z x) refl (same_place z y) refl
  where
    go : (t : Bool) → same_place z x ≡ t → (u : Bool) → same_place z y ≡ u → P (cond t (to y) (cond u (to x) (join z)))
    go true e u d = first (same_place_true z x e)
    go false e true d = second (same_place_false z x e) (same_place_true z y d)
    go false e false d = other (same_place_false z x e) (same_place_false z y d)

module _ (x y : InnerPlace) (join : InnerPlace → Far) where
  pub link_near : link_join x y join x ≡ to y
  unfolding link_join
  link_near = rw (same_place_refl x)

  pub link_far : (y ≡ x → ⊥) → link_join x y join y ≡ to x
  unfolding link_join
  link_far other = rw (same_place_distinct y x other, same_place_refl y)

  pub link_other : (z : InnerPlace) → (z ≡ x → ⊥) → (z ≡ y → ⊥) → link_join x y join z ≡ join z
  unfolding link_join
  link_other z a b = rw (same_place_distinct z x a, same_place_distinct z y b)

-- Good joins: links of places of P, symmetric, between opposite sides.

pub record Joined (P : InnerPlace → Type 0) (J : InnerPlace → Far) : Type 0 where
  pub valid : (x y : InnerPlace) → J x ≡ to y → P x
  pub back : (x y : InnerPlace) → J x ≡ to y → J y ≡ to x
  pub sides : (x y : InnerPlace) → J x ≡ to y → x.side ≡ y.side → ⊥

pub far_valid : {P : InnerPlace → Type 0} {J : InnerPlace → Far} → Joined P J → (x y : InnerPlace) → J x ≡ to y → P y
far_valid j x y e = j.valid y x (j.back x y e)

-- what is left joins places that are not dropped
pub joined_drop_outside : {P Q : InnerPlace → Type 0} {J : InnerPlace → Far} (g : InnerPlace → Bool) → Joined P J → ((x : InnerPlace) → P x → g x ≡ false → Q x)
    → Joined Q (drop_join g J)
joined_drop_outside {J} g j stays =
    record {
      valid = λ x y e. let d = drop_joined g J x y e in stays x (j.valid x y d.0) d.1;
      back = λ x y e. let d = drop_joined g J x y e in drop_kept g J y x (j.back x y d.0) d.2 d.1;
      sides = λ x y e. j.sides x y (drop_joined g J x y e).0;
    }

pub joined_drop : {P : InnerPlace → Type 0} {J : InnerPlace → Far} (g : InnerPlace → Bool) → Joined P J → Joined P (drop_join g J)
joined_drop g j = joined_drop_outside g j (λ x p e. p)

-- dropping the link of a place that has none changes nothing
pub drop_unlinked : {P : InnerPlace → Type 0} {J : InnerPlace → Far} → Joined P J → (x : InnerPlace) → J x ≡ nowhere → (z : InnerPlace) → drop_join (same_place x) J z ≡ J z
drop_unlinked {J} j x e z =
    drop_leaves (same_place x) J z
    (λ w f. (
      same_place_distinct x z (λ p. nowhere_not_to e (rw (← p) at f)),
      same_place_distinct x w (λ p. nowhere_not_to e (rw (← p) at (j.back z w f))),
    ))

-- two places without links, of opposite sides, are linked
pub joined_link : {P : InnerPlace → Type 0} {J : InnerPlace → Far} → Joined P J → (x y : InnerPlace) → P x → P y → J x ≡ nowhere → J y ≡ nowhere
    → (x.side ≡ y.side → ⊥) → Joined P (link_join x y J)
joined_link {P} {J} j x y px py freeX free_y opposite =
    record {
      valid = λ z w. link_elim (λ f. f ≡ to w → P z) x y J z (λ p e. rw p px) (λ h p e. rw p py) (λ h k. j.valid z w);
      back = λ z w.
          link_elim (λ f. f ≡ to w → link_join x y J w ≡ to z) x y J z
          (λ p e. rw (p, ← to_same refl e) (link_far x y J (λ q. opposite (ap (λ (u : InnerPlace). u.side) (sym q)))))
          (λ h p e. rw (p, ← to_same refl e) (link_near x y J))
          (λ h k e.
          let b : J w ≡ to z = j.back z w e in
          link_other x y J w (λ p. nowhere_not_to freeX (rw p at b)) (λ p. nowhere_not_to free_y (rw p at b)) ∙ b);
      sides = λ z w.
          link_elim (λ f. f ≡ to w → z.side ≡ w.side → ⊥) x y J z
          (λ p e s. opposite (cc)) (λ h p e s. opposite (cc)) (λ h k. j.sides z w);
    }
