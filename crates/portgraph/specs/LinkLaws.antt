-- The link table stands for a join under a numbering of the places: laws that carry this through every step.
-- A step on one place is cut, link or move; a step on a run of places is a chain of these.
use Rattle.std.specs.Prelude.{◌≡◌, refl, Bool, cond, ◌⊎◌, eqb, ltb, length}
use Rattle.std.proofs.Common.{sym, ◌∙◌, ap, inl, inr, arith, ltb-true, ltb-false, eqb-true, lt-ltb, le-ltb}
use Rattle.std.proofs.Math.Path.{fun_ext}
use Rattle.std.proofs.Math.Bool.{true, false}
use mathlib.Core.List.{List}
use Prim.Native.Nat.{ℕ, zero, suc, ◌+◌, ◌-◌, ◌≤◌, ◌<◌}
use Rattle.std.proofs.Math.Dec.{eqb-suc-zero}
use Rattle.std.proofs.lemmas.Bool.{eqb-false}
use Rattle.port_tables.specs.Limits.{port_slots}
use Rattle.port_tables.specs.Entries.{ports_on}
use Rattle.port_tables.specs.Tables.{at, put, fill_range, chain_block, shift, link_both, cut_far, cut, cut_range, link_count, cut_count, relink, move_port, move_up, move_down, transfer}
use Rattle.portgraph.specs.TableLaws.{length_put, length_fill_range, length_chain_block, length_link_both, length_cut, length_move_port, at_put_same, at_put_other, at_fill_outside, at_chain_other}
use Rattle.portgraph.specs.Model.{Far, nowhere, to, Slots, live, Valid, slot_of, far_number, is_linked, InnerPlace, Vacant}
use Rattle.portgraph.specs.Meaning.{same_place, drop_join, link_join}
use Rattle.port_tables.specs.TableSteps.{linked_both, cut_both}
use Rattle.portgraph.specs.Joins.{same_place_refl, same_place_true, same_place_false, same_place_distinct, place_cases, nowhere_not_to, to_same, drop_here, drop_there, drop_joined, drop_leaves, drop_twice, drop_unlinked, drop_elsewhere, link_near, link_far, link_other, Joined, far_valid, joined_drop, joined_link}
use Rattle.port_tables.specs.declared.direction.Direction.{Direction}
use Rattle.port_tables.specs.declared.direction.Direction.TheVariants.{Incoming, Outgoing}
use Rattle.port_tables.specs.declared.node_entry.NodeMeta.{NodeMeta}

-- What a link table has for a far end.
abbrev pub far_is : (InnerPlace → ℕ) → Far → ℕ
far_is ν nowhere = 0
far_is ν (to y) = suc (ν y)

pub far_number_is_far_is : (node : ℕ → Slots) (f : Far) → far_number node f ≡ far_is (slot_of node) f
far_number_is_far_is node nowhere = refl
far_number_is_far_is node (to y) = refl

-- a link table stands for a join under a numbering of the places of P
pub record Rep (P : InnerPlace → Type 0) (ν : InnerPlace → ℕ) (J : InnerPlace → Far) (t : List ℕ) : Type 0 where
  pub long : length t ≡ port_slots
  pub fits : (x : InnerPlace) → P x → ν x < port_slots
  pub apart : (x y : InnerPlace) → P x → P y → ν x ≡ ν y → x ≡ y
  pub joined : Joined P J
  pub links : (x : InnerPlace) → P x → at t (ν x) ≡ far_is ν (J x)

-- the far end's number depends on the numbering at the far end only
far_is_agrees : {ν ν' : InnerPlace → ℕ} (f : Far) → ((y : InnerPlace) → f ≡ to y → ν y ≡ ν' y) → far_is ν f ≡ far_is ν' f
far_is_agrees nowhere h = refl
far_is_agrees (to y) h = ap suc (h y refl)

-- Other tables, joins, numberings and places.

pub rep_table : {P : InnerPlace → Type 0} {ν : InnerPlace → ℕ} {J : InnerPlace → Far} {t t' : List ℕ} → Rep P ν J t → length t' ≡ port_slots
    → ((x : InnerPlace) → P x → at t' (ν x) ≡ at t (ν x)) → Rep P ν J t'
rep_table R l h =
    record { long = l; fits = R.fits; apart = R.apart; joined = R.joined; links = λ x p. h x p ∙ R.links x p }

pub rep_put_vacant : {P : InnerPlace → Type 0} {ν : InnerPlace → ℕ} {J : InnerPlace → Far} {t : List ℕ} → Rep P ν J t → (s v : ℕ) → Vacant P ν s
    → Rep P ν J (put t s v)
rep_put_vacant {ν} {t} R s v free =
    rep_table R (length_put t s v ∙ R.long) (λ x p. at_put_other t s (ν x) v (λ e. free x p (sym e)))

pub rep_fill_vacant : {P : InnerPlace → Type 0} {ν : InnerPlace → ℕ} {J : InnerPlace → Far} {t : List ℕ} → Rep P ν J t → (i n v : ℕ)
    → ((y : InnerPlace) → P y → i ≤ ν y → ν y < i + n → ⊥) → Rep P ν J (fill_range t i n v)
rep_fill_vacant {ν} {t} R i n v free =
    rep_table R (length_fill_range t i n v ∙ R.long) (λ x p. at_fill_outside t i n (ν x) v (free x p))

pub rep_chain_vacant : {P : InnerPlace → Type 0} {ν : InnerPlace → ℕ} {J : InnerPlace → Far} {t : List ℕ} → Rep P ν J t → (first size head : ℕ)
    → (0 < size → Vacant P ν first) → Rep P ν J (chain_block t first size head)
rep_chain_vacant {ν} {t} R first size head free =
    rep_table R (length_chain_block t first size head ∙ R.long)
    (λ x p. at_chain_other t first size head (ν x) (λ k e. free k x p (sym e)))

pub rep_same : {P : InnerPlace → Type 0} {ν ν' : InnerPlace → ℕ} {J J' : InnerPlace → Far} {t : List ℕ} → Rep P ν J t → ((z : InnerPlace) → J z ≡ J' z)
    → ((x : InnerPlace) → P x → ν x ≡ ν' x) → Rep P ν' J' t
rep_same {P} {ν} {ν'} {J} {J'} {t} R sameJoin sameNumber =
    record {
      long = R.long;
      fits = λ x p. rw (← sameNumber x p) (R.fits x p);
      apart = λ x y p q e. R.apart x y p q (sameNumber x p ∙ (e ∙ sym (sameNumber y q)));
      joined =
          record {
            valid = λ x y e. R.joined.valid x y (sameJoin x ∙ e);
            back = λ x y e. sym (sameJoin y) ∙ R.joined.back x y (sameJoin x ∙ e);
            sides = λ x y e. R.joined.sides x y (sameJoin x ∙ e);
          };
      links = λ x p.
          ap (at t) (sym (sameNumber x p))
          ∙ (R.links x p
          ∙ (ap (far_is ν) (sameJoin x)
          ∙ far_is_agrees (J' x) (λ y e. sameNumber y (far_valid R.joined x y (sameJoin x ∙ e)))));
    }

pub rep_weaken : {P Q : InnerPlace → Type 0} {ν : InnerPlace → ℕ} {J : InnerPlace → Far} {t : List ℕ} → Rep P ν J t → ((x : InnerPlace) → Q x → P x)
    → Joined Q J → Rep Q ν J t
rep_weaken R sub j =
    record {
      long = R.long;
      fits = λ x q. R.fits x (sub x q);
      apart = λ x y p q. R.apart x y (sub x p) (sub y q);
      joined = j;
      links = λ x q. R.links x (sub x q);
    }

-- more places: the new ones have no link, and their slots hold 0
pub rep_extend : {P Q : InnerPlace → Type 0} {ν : InnerPlace → ℕ} {J : InnerPlace → Far} {t t' : List ℕ} → Rep P ν J t → length t' ≡ port_slots
    → ((x : InnerPlace) → P x → at t' (ν x) ≡ at t (ν x)) → ((x : InnerPlace) → P x → Q x)
    → ((x : InnerPlace) → Q x → P x ⊎ ((P x → ⊥) × (at t' (ν x) ≡ 0))) → ((x : InnerPlace) → Q x → ν x < port_slots)
    → ((x y : InnerPlace) → Q x → Q y → ν x ≡ ν y → x ≡ y) → Rep Q ν J t'
rep_extend {P} {Q} {ν} {J} {t} {t'} R l kept grow which fits apart =
    record {
      long = l;
      fits = fits;
      apart = apart;
      joined =
          record {
            valid = λ x y e. grow x (R.joined.valid x y e);
            back = R.joined.back;
            sides = R.joined.sides;
          };
      links = λ x q. at_place x (which x q);
    }
  where
    at_new : (x : InnerPlace) → (P x → ⊥) → at t' (ν x) ≡ 0 → (f : Far) → J x ≡ f → at t' (ν x) ≡ far_is ν f
    at_new x out e nowhere h = e
    at_new x out e (to y) h = absurd (out (R.joined.valid x y h))

    at_place : (x : InnerPlace) → P x ⊎ ((P x → ⊥) × (at t' (ν x) ≡ 0)) → at t' (ν x) ≡ far_is ν (J x)
    at_place x (inl p) = kept x p ∙ R.links x p
    at_place x (inr n) = at_new x n.0 n.1 (J x) refl

-- a dropped place's slot holds no link
pub dropped_holds_none : {P : InnerPlace → Type 0} {ν : InnerPlace → ℕ} {t : List ℕ} (g : InnerPlace → Bool) (J : InnerPlace → Far) → Rep P ν (drop_join g J) t
    → (x : InnerPlace) → P x → g x ≡ true → at t (ν x) ≡ 0
dropped_holds_none {ν} g J R x p e = R.links x p ∙ ap (far_is ν) (drop_here g J x e)

-- The link of one place is cut.

pub cut_none : (t : List ℕ) (s : ℕ) → at t s ≡ 0 → cut t s ≡ t
unfolding cut cut_far
cut_none t s e = rw e

pub link_count_far_is : (ν : InnerPlace → ℕ) (f : Far) → link_count (far_is ν f) ≡ is_linked f
unfolding link_count
link_count_far_is ν nowhere = refl
link_count_far_is ν (to y) = rw (eqb-suc-zero (ν y))

-- a number is stored that a slot has already
at_put_again : (t : List ℕ) (s r v : ℕ) → length t ≡ port_slots → r < port_slots → at t r ≡ v → at (put t s v) r ≡ v
at_put_again t s r v l k e = go (eqb s r) refl
  where
    go : (b : Bool) → eqb s r ≡ b → at (put t s v) r ≡ v
    go true h = rw (eqb-true s r h) (at_put_same t r v l k)
    go false h = at_put_other t s r v (eqb-false s r h) ∙ e

module _ {P : InnerPlace → Type 0} {ν : InnerPlace → ℕ} {J : InnerPlace → Far} {t : List ℕ} (R : Rep P ν J t) (x : InnerPlace) (px : P x) where
  -- the table after a cut, by the far end
  pub cut_linked : (y : InnerPlace) → J x ≡ to y → cut t (ν x) ≡ put (put t (ν x) 0) (ν y) 0
  cut_linked y e =
      let far : at t (ν x) ≡ suc (ν y) = R.links x px ∙ ap (far_is ν) e in
      let one : suc (ν y) - 1 ≡ ν y = omega arith in
      sym (cut_both t (ν x) (suc (ν y)) (sym far) (λ z. omega arith)) ∙ ap (λ (r : ℕ). put (put t (ν x) 0) r 0) one

  pub cut_unlinked : J x ≡ nowhere → cut t (ν x) ≡ t
  cut_unlinked e = cut_none t (ν x) (R.links x px ∙ ap (far_is ν) e)

  pub cut_at : Rep P ν (drop_join (same_place x) J) (cut t (ν x))
  cut_at =
      record {
        long = length_cut t (ν x) ∙ R.long;
        fits = R.fits;
        apart = R.apart;
        joined = joined_drop (same_place x) R.joined;
        links = λ z pz. go (J x) refl z pz;
      }
    where
      linked : (y : InnerPlace) → J x ≡ to y → (z : InnerPlace) → P z → (z ≡ x) ⊎ (z ≡ x → ⊥) → (z ≡ y) ⊎ (z ≡ y → ⊥)
          → at (put (put t (ν x) 0) (ν y) 0) (ν z) ≡ far_is ν (drop_join (same_place x) J z)
      linked y e z pz (inl p) o =
          let d : drop_join (same_place x) J z ≡ nowhere = drop_here (same_place x) J z (rw p (same_place_refl x)) in
          rw (d, p) (at_put_again _ (ν y) (ν x) 0 (length_put t (ν x) 0 ∙ R.long) (R.fits x px) (at_put_same t (ν x) 0 R.long (R.fits x px)))
      linked y e z pz (inr n) (inl q) =
          let b : J z ≡ to x = rw q (R.joined.back x y e) in
          let d : drop_join (same_place x) J z ≡ nowhere = drop_there (same_place x) J z x b (same_place_refl x) in
          rw (d, ← q) (at_put_same _ (ν z) 0 (length_put t (ν x) 0 ∙ R.long) (R.fits z pz))
      linked y e z pz (inr n) (inr m) =
          let py : P y = far_valid R.joined x y e in
          let d : drop_join (same_place x) J z ≡ J z =
          drop_elsewhere J x z n (λ p. m (to_same (R.joined.back z x p) e)) in
          rw d
          (at_put_other _ (ν y) (ν z) 0 (λ h. m (sym (R.apart y z py pz h)))
          ∙ (at_put_other t (ν x) (ν z) 0 (λ h. n (sym (R.apart x z px pz h))) ∙ R.links z pz))

      go : (f : Far) → J x ≡ f → (z : InnerPlace) → P z → at (cut t (ν x)) (ν z) ≡ far_is ν (drop_join (same_place x) J z)
      go nowhere e z pz = rw (cut_unlinked e, drop_unlinked R.joined x e z) (R.links z pz)
      go (to y) e z pz = rw (cut_linked y e) (linked y e z pz (place_cases z x) (place_cases z y))

  pub cut_elsewhere : (s : ℕ) → Vacant P ν s → at (cut t (ν x)) s ≡ at t s
  cut_elsewhere s free = go (J x) refl
    where
      go : (f : Far) → J x ≡ f → at (cut t (ν x)) s ≡ at t s
      go nowhere e = rw (cut_unlinked e)
      go (to y) e =
          rw (cut_linked y e)
          (at_put_other _ (ν y) s 0 (free y (far_valid R.joined x y e)) ∙ at_put_other t (ν x) s 0 (free x px))

  pub cut_counts : link_count (at t (ν x)) ≡ is_linked (J x)
  cut_counts = ap link_count (R.links x px) ∙ link_count_far_is ν (J x)

-- Two places are linked.

module _ {P : InnerPlace → Type 0} {ν : InnerPlace → ℕ} {J : InnerPlace → Far} {t : List ℕ} (R : Rep P ν J t) (x y : InnerPlace) (px : P x) (py : P y) where
  link_table : link_both t (ν x) (ν y) ≡ put (put t (ν x) (ν y + 1)) (ν y) (ν x + 1)
  link_table = sym (linked_both t (ν x) (ν y) (R.fits x px) (R.fits y py))

  pub link_at : J x ≡ nowhere → J y ≡ nowhere → (x.side ≡ y.side → ⊥) → Rep P ν (link_join x y J) (link_both t (ν x) (ν y))
  link_at freeX free_y opposite =
      record {
        long = length_link_both t (ν x) (ν y) ∙ R.long;
        fits = R.fits;
        apart = R.apart;
        joined = joined_link R.joined x y px py freeX free_y opposite;
        links = λ z pz. rw link_table (go z pz (place_cases z x) (place_cases z y));
      }
    where
      unlike : y ≡ x → ⊥
      unlike e = opposite (ap (λ p. p.side) (sym e))

      go : (z : InnerPlace) → P z → (z ≡ x) ⊎ (z ≡ x → ⊥) → (z ≡ y) ⊎ (z ≡ y → ⊥)
          → at (put (put t (ν x) (ν y + 1)) (ν y) (ν x + 1)) (ν z) ≡ far_is ν (link_join x y J z)
      go z pz (inl p) o =
          let one : ν y + 1 ≡ suc (ν y) = omega arith in
          rw (p, link_near x y J)
          (at_put_other _ (ν y) (ν x) _ (λ h. unlike (R.apart y x py px h)) ∙ (at_put_same t (ν x) _ R.long (R.fits x px) ∙ one))
      go z pz (inr n) (inl q) =
          let one : ν x + 1 ≡ suc (ν x) = omega arith in
          rw (q, link_far x y J unlike)
          (at_put_same _ (ν y) _ (length_put t _ _ ∙ R.long) (R.fits y py) ∙ one)
      go z pz (inr n) (inr m) =
          rw (link_other x y J z n m)
          (at_put_other _ (ν y) (ν z) _ (λ h. m (sym (R.apart y z py pz h)))
          ∙ (at_put_other t (ν x) (ν z) _ (λ h. n (sym (R.apart x z px pz h))) ∙ R.links z pz))

  pub link_elsewhere : (s : ℕ) → Vacant P ν s → at (link_both t (ν x) (ν y)) s ≡ at t s
  link_elsewhere s free =
      rw link_table (at_put_other _ (ν y) s _ (free y py) ∙ at_put_other t (ν x) s _ (free x px))

-- One place moves to another slot.

move_none : (t : List ℕ) (old new : ℕ) → at t old ≡ 0 → move_port t old new ≡ put t new 0
unfolding move_port relink
move_none t old new e = rw e

move_both : (t : List ℕ) (old new r : ℕ) → at t old ≡ suc r → move_port t old new ≡ put (put t new (suc r)) r (new + 1)
unfolding move_port relink
move_both t old new r e =
    let one : suc r - 1 ≡ r = omega arith in
    rw (e, eqb-suc-zero r, one)

module _ {P : InnerPlace → Type 0} {ν : InnerPlace → ℕ} {J : InnerPlace → Far} {t : List ℕ} (R : Rep P ν J t) (x : InnerPlace) (px : P x) (new : ℕ) where
  move_unlinked : J x ≡ nowhere → move_port t (ν x) new ≡ put t new 0
  move_unlinked e = move_none t (ν x) new (R.links x px ∙ ap (far_is ν) e)

  move_linked : (y : InnerPlace) → J x ≡ to y → move_port t (ν x) new ≡ put (put t new (suc (ν y))) (ν y) (new + 1)
  move_linked y e = move_both t (ν x) new (ν y) (R.links x px ∙ ap (far_is ν) e)

  pub move_elsewhere : (s : ℕ) → Vacant P ν s → (s ≡ new → ⊥) → at (move_port t (ν x) new) s ≡ at t s
  move_elsewhere s free n = go (J x) refl
    where
      go : (f : Far) → J x ≡ f → at (move_port t (ν x) new) s ≡ at t s
      go nowhere e = rw (move_unlinked e) (at_put_other t new s 0 (λ h. n (sym h)))
      go (to y) e =
          rw (move_linked y e)
          (at_put_other _ (ν y) s _ (free y (far_valid R.joined x y e)) ∙ at_put_other t new s _ (λ h. n (sym h)))

  pub move_at : new < port_slots → ((y : InnerPlace) → P y → (y ≡ x → ⊥) → ν y ≡ new → ⊥) → (ν' : InnerPlace → ℕ) → ν' x ≡ new
      → ((y : InnerPlace) → P y → (y ≡ x → ⊥) → ν' y ≡ ν y) → Rep P ν' J (move_port t (ν x) new)
  move_at small free ν' here others =
      record {
        long = length_move_port t (ν x) new ∙ R.long;
        fits = λ z pz. fits' z pz (place_cases z x);
        apart = λ z w pz pw. apart' z w pz pw (place_cases z x) (place_cases w x);
        joined = R.joined;
        links = λ z pz. go (J x) refl z pz (place_cases z x);
      }
    where
      fits' : (z : InnerPlace) → P z → (z ≡ x) ⊎ (z ≡ x → ⊥) → ν' z < port_slots
      fits' z pz (inl p) = rw (p, here) small
      fits' z pz (inr n) = rw (others z pz n) (R.fits z pz)

      apart' : (z w : InnerPlace) → P z → P w → (z ≡ x) ⊎ (z ≡ x → ⊥) → (w ≡ x) ⊎ (w ≡ x → ⊥) → ν' z ≡ ν' w → z ≡ w
      apart' z w pz pw (inl p) (inl q) e = p ∙ sym q
      apart' z w pz pw (inl p) (inr m) e = absurd (free w pw m (sym (others w pw m) ∙ (sym e ∙ (ap ν' p ∙ here))))
      apart' z w pz pw (inr n) (inl q) e = absurd (free z pz n (sym (others z pz n) ∙ (e ∙ (ap ν' q ∙ here))))
      apart' z w pz pw (inr n) (inr m) e = R.apart z w pz pw (sym (others z pz n) ∙ (e ∙ others w pw m))

      -- a place whose far end is not x has the same number for it
      same_far : (z : InnerPlace) → P z → ((w : InnerPlace) → J z ≡ to w → w ≡ x → ⊥) → far_is ν (J z) ≡ far_is ν' (J z)
      same_far z pz h = far_is_agrees (J z) (λ w e. sym (others w (far_valid R.joined z w e) (h w e)))

      linked : (y : InnerPlace) → J x ≡ to y → (y ≡ x → ⊥) → P y → (z : InnerPlace) → P z → (z ≡ x) ⊎ (z ≡ x → ⊥) → (z ≡ y) ⊎ (z ≡ y → ⊥)
          → at (put (put t new (suc (ν y))) (ν y) (new + 1)) (ν' z) ≡ far_is ν' (J z)
      linked y e k py z pz (inl p) o =
          rw (p, here, e, others y py k)
          (at_put_other _ (ν y) new _ (free y py k) ∙ at_put_same t new _ R.long small)
      linked y e k py z pz (inr n) (inl q) =
          let b : J y ≡ to x = R.joined.back x y e in
          let one : new + 1 ≡ suc new = omega arith in
          rw (q, others y py k, b, here)
          (at_put_same _ (ν y) _ (length_put t _ _ ∙ R.long) (R.fits y py) ∙ one)
      linked y e k py z pz (inr n) (inr m) =
          rw (others z pz n)
          (at_put_other _ (ν y) (ν z) _ (λ h. m (sym (R.apart y z py pz h)))
          ∙ (at_put_other t new (ν z) _ (λ h. free z pz n (sym h))
          ∙ (R.links z pz
          ∙ same_far z pz (λ w f h. m (to_same (rw h at (R.joined.back z w f)) e)))))

      go : (f : Far) → J x ≡ f → (z : InnerPlace) → P z → (z ≡ x) ⊎ (z ≡ x → ⊥) → at (move_port t (ν x) new) (ν' z) ≡ far_is ν' (J z)
      go nowhere e z pz (inl p) = rw (move_unlinked e, p, here, e) (at_put_same t new 0 R.long small)
      go nowhere e z pz (inr n) =
          rw (move_unlinked e, others z pz n)
          (at_put_other t new (ν z) 0 (λ h. free z pz n (sym h))
          ∙ (R.links z pz
          ∙ same_far z pz (λ w f h. nowhere_not_to e (rw h at (R.joined.back z w f)))))
      go (to y) e z pz o =
          rw (move_linked y e)
          (linked y e (λ h. R.joined.sides x y e (ap (λ p. p.side) (sym h))) (far_valid R.joined x y e) z pz o (place_cases z y))

-- Runs of places. The numbering says that they are all different.

-- a place is none of the first n of these
abbrev pub NoneOf : (ℕ → InnerPlace) → ℕ → InnerPlace → Type 0
NoneOf pl n y = (i : ℕ) → i < n → y ≡ pl i → ⊥

-- n places of P, in slots side by side from s on
pub record Run (P : InnerPlace → Type 0) (ν : InnerPlace → ℕ) (pl : ℕ → InnerPlace) (s n : ℕ) : Type 0 where
  pub there : (i : ℕ) → i < n → P (pl i)
  pub numbered : (i : ℕ) → i < n → ν (pl i) ≡ s + i

-- another numbering: these n places side by side from s on, the others as before
pub record Renumbered (P : InnerPlace → Type 0) (ν ν' : InnerPlace → ℕ) (pl : ℕ → InnerPlace) (s n : ℕ) : Type 0 where
  pub placed : (i : ℕ) → i < n → ν' (pl i) ≡ s + i
  pub others : (y : InnerPlace) → P y → NoneOf pl n y → ν' y ≡ ν y

-- what a move of a run leaves: the table stands for the same join, and vacant slots other than the new ones keep their number
pub record Moved (P : InnerPlace → Type 0) (ν ν' : InnerPlace → ℕ) (J : InnerPlace → Far) (new n : ℕ) (t t' : List ℕ) : Type 0 where
  pub rep : Rep P ν' J t'
  pub kept : (s : ℕ) → Vacant P ν s → (new ≤ s → s < new + n → ⊥) → at t' s ≡ at t s

none_of_last : (pl : ℕ → InnerPlace) (n : ℕ) (y : InnerPlace) → NoneOf pl n y → (y ≡ pl n → ⊥) → NoneOf pl (suc n) y
none_of_last pl n y h k i l e = go (eqb i n) refl
  where
    go : (b : Bool) → eqb i n ≡ b → ⊥
    go true q = k (e ∙ ap pl (eqb-true i n q))
    go false q = let m : i ≡ n → ⊥ = eqb-false i n q in h i (omega arith) e

-- the places of a run after the first
abbrev after : (ℕ → InnerPlace) → ℕ → InnerPlace
after pl i = pl (suc i)

none_of_suc : (pl : ℕ → InnerPlace) (n : ℕ) (y : InnerPlace) → (y ≡ pl 0 → ⊥) → NoneOf (after pl) n y → NoneOf pl (suc n) y
none_of_suc pl n y h k zero l = h
none_of_suc pl n y h k (suc i) l = k i (omega arith)

module _ {P : InnerPlace → Type 0} {ν : InnerPlace → ℕ} {pl : ℕ → InnerPlace} {s n : ℕ} (run : Run P ν pl s (suc n)) where
  run_first : ν (pl 0) ≡ s
  run_first = run.numbered 0 (omega arith) ∙ omega arith

  run_after : Run P ν (after pl) (suc s) n
  run_after =
      record {
        there = λ i l. run.there (suc i) (omega arith);
        numbered = λ i l. run.numbered (suc i) (omega arith) ∙ omega arith;
      }

  run_before : Run P ν pl s n
  run_before = record { there = λ i l. run.there i (omega arith); numbered = λ i l. run.numbered i (omega arith) }

  run_apart : (i j : ℕ) → i < suc n → j < suc n → pl i ≡ pl j → i ≡ j
  run_apart i j k l e =
      let a : ν (pl i) ≡ s + i = run.numbered i k in
      let b : ν (pl j) ≡ s + j = run.numbered j l in
      let c : ν (pl i) ≡ ν (pl j) = ap ν e in
      omega arith

  first_not_after : NoneOf (after pl) n (pl 0)
  first_not_after i l e = let a : 0 ≡ suc i = run_apart 0 (suc i) (omega arith) (omega arith) e in omega arith

  last_not_before : NoneOf pl n (pl n)
  last_not_before i l e = let a : n ≡ i = run_apart n i (omega arith) (omega arith) e in omega arith

-- a place is one of these, or none of them
pub one_or_none : (pl : ℕ → InnerPlace) (n : ℕ) (y : InnerPlace) → ((i : ℕ) × (i < n) × (y ≡ pl i)) ⊎ NoneOf pl n y
one_or_none pl zero y = inr (λ i l e. omega arith)
one_or_none pl (suc n) y = go (one_or_none pl n y) (place_cases y (pl n))
  where
    go : ((i : ℕ) × (i < n) × (y ≡ pl i)) ⊎ NoneOf pl n y → (y ≡ pl n) ⊎ (y ≡ pl n → ⊥) → ((i : ℕ) × (i < suc n) × (y ≡ pl i)) ⊎ NoneOf pl (suc n) y
    go (inl a) o = inl (a.0, (let l : a.0 < n = a.1 in omega arith), a.2)
    go (inr h) (inl e) = inl (n, omega arith, e)
    go (inr h) (inr k) = inr (none_of_last pl n y h k)

-- the numbering with one place at another slot
abbrev placed : (InnerPlace → ℕ) → InnerPlace → ℕ → InnerPlace → ℕ
placed ν x s y = cond (same_place y x) s (ν y)

placed_here : (ν : InnerPlace → ℕ) (x : InnerPlace) (s : ℕ) → placed ν x s x ≡ s
placed_here ν x s = rw (same_place_refl x)

placed_other : (ν : InnerPlace → ℕ) (x : InnerPlace) (s : ℕ) (y : InnerPlace) → (y ≡ x → ⊥) → placed ν x s y ≡ ν y
placed_other ν x s y n = rw (same_place_distinct y x n)

-- a slot that is vacant stays so where a place goes to another one
placed_vacant : {P : InnerPlace → Type 0} {ν : InnerPlace → ℕ} (x : InnerPlace) (new s : ℕ) → Vacant P ν s → (s ≡ new → ⊥) → Vacant P (placed ν x new) s
placed_vacant {P} {ν} x new s free n y py e = go (place_cases y x)
  where
    go : (y ≡ x) ⊎ (y ≡ x → ⊥) → ⊥
    go (inl p) = n (sym e ∙ (ap (placed ν x new) p ∙ placed_here ν x new))
    go (inr m) = free y py (sym (placed_other ν x new y m) ∙ e)

-- One place x of a run goes to the slot new; pl are the places of the run that are left.
module _ {P : InnerPlace → Type 0} {ν : InnerPlace → ℕ} {J : InnerPlace → Far} {t : List ℕ} (R : Rep P ν J t) (x : InnerPlace) (px : P x) (old new : ℕ) (from : ν x ≡ old) where
  move_placed : new < port_slots → ((y : InnerPlace) → P y → (y ≡ x → ⊥) → ν y ≡ new → ⊥) → Rep P (placed ν x new) J (move_port t old new)
  move_placed small free =
      rw from at (move_at R x px new small free (placed ν x new) (placed_here ν x new) (λ y py n. placed_other ν x new y n))

  move_placed_elsewhere : (s : ℕ) → Vacant P ν s → (s ≡ new → ⊥) → at (move_port t old new) s ≡ at t s
  move_placed_elsewhere s free n = rw from at (move_elsewhere R x px new s free n)

  run_left : (pl : ℕ → InnerPlace) (s n : ℕ) → Run P ν pl s n → NoneOf pl n x → Run P (placed ν x new) pl s n
  run_left pl s n run out =
      record {
        there = run.there;
        numbered = λ i l. placed_other ν x new (pl i) (λ e. out i l (sym e)) ∙ run.numbered i l;
      }

  -- what holds of x at its new slot, and of the places that are not in the run, holds of all places that are not left
  not_left : (Q : InnerPlace → ℕ → Type 0) (pl : ℕ → InnerPlace) (n : ℕ) → Q x new → ((y : InnerPlace) → P y → (y ≡ x → ⊥) → NoneOf pl n y → Q y (ν y))
      → (y : InnerPlace) → P y → NoneOf pl n y → Q y (placed ν x new y)
  not_left Q pl n atX rest y py out = go (place_cases y x)
    where
      go : (y ≡ x) ⊎ (y ≡ x → ⊥) → Q y (placed ν x new y)
      go (inl e) = rw (e, same_place_refl x) atX
      go (inr ne) = rw (same_place_distinct y x ne) (rest y py ne out)

  -- a vacant slot keeps its number in the first move, and in the others
  moved_kept : (new₀ new₁ n : ℕ) (t' : List ℕ) → new₀ ≤ new → new < new₀ + suc n → new₀ ≤ new₁ → new₁ + n ≤ new₀ + suc n
      → ((s : ℕ) → Vacant P ν s → Vacant P (placed ν x new) s → (new₁ ≤ s → s < new₁ + n → ⊥) → at t' s ≡ at (move_port t old new) s)
      → (s : ℕ) → Vacant P ν s → (new₀ ≤ s → s < new₀ + suc n → ⊥) → at t' s ≡ at t s
  moved_kept new₀ new₁ n t' a b c d kept s free out =
      let diff : s ≡ new → ⊥ = λ e. out (omega arith) (omega arith) in
      kept s free (placed_vacant x new s free diff) (λ k l. out (omega arith) (omega arith))
      ∙ move_placed_elsewhere s free diff

module _ {P : InnerPlace → Type 0} {J : InnerPlace → Far} where
  moved_none : (pl : ℕ → InnerPlace) (ν ν' : InnerPlace → ℕ) (t : List ℕ) (new : ℕ) → Rep P ν J t → Renumbered P ν ν' pl new 0 → Moved P ν ν' J new 0 t t
  moved_none pl ν ν' t new R num =
      record {
        rep = rep_same R (λ z. refl) (λ y py. sym (num.others y py (λ i l e. omega arith)));
        kept = λ s free out. refl;
      }

  renumbered_after : (pl : ℕ → InnerPlace) (ν ν' : InnerPlace → ℕ) (t : List ℕ) (old new n : ℕ) → Rep P ν J t → Run P ν pl old (suc n)
      → Renumbered P ν ν' pl new (suc n) → Renumbered P (placed ν (pl 0) new) ν' (after pl) (suc new) n
  renumbered_after pl ν ν' t old new n R run num =
      record {
        placed = λ i l. num.placed (suc i) (omega arith) ∙ omega arith;
        others = not_left R (pl 0) (run.there 0 (omega arith)) old new (run_first run) (λ y s. ν' y ≡ s) (after pl) n
            (num.placed 0 (omega arith) ∙ omega arith)
            (λ y py ne no. num.others y py (none_of_suc pl n y ne no));
      }

  -- where a run moves down in number, or stays, its first place goes first
  pub move_up_at : (n : ℕ) (pl : ℕ → InnerPlace) (ν ν' : InnerPlace → ℕ) (t : List ℕ) (old new : ℕ) → Rep P ν J t → Run P ν pl old n → new ≤ old
      → new + n ≤ port_slots → ((y : InnerPlace) → P y → NoneOf pl n y → new ≤ ν y → ν y < new + n → ⊥) → Renumbered P ν ν' pl new n
      → Moved P ν ν' J new n t (move_up t old new n)
  unfolding move_up
  move_up_at zero pl ν ν' t old new R run le ends clear num = moved_none pl ν ν' t new R num
  move_up_at (suc n) pl ν ν' t old new R run le ends clear num =
      let left : Moved P (placed ν (pl 0) new) ν' J (suc new) n (move_port t old new) (move_up (move_port t old new) (suc old) (suc new) n) =
      move_up_at n (after pl) (placed ν (pl 0) new) ν' (move_port t old new) (suc old) (suc new)
      (move_placed R (pl 0) px old new first (omega arith) free)
      (run_left R (pl 0) px old new first (after pl) (suc old) n (run_after run) (first_not_after run))
      (omega arith) (omega arith)
      (not_left R (pl 0) px old new first (λ y s. suc new ≤ s → s < suc new + n → ⊥) (after pl) n (λ a b. omega arith)
      (λ y py ne no a b. clear y py (none_of_suc pl n y ne no) (omega arith) (omega arith)))
      (renumbered_after pl ν ν' t old new n R run num) in
      record {
        rep = left.rep;
        kept = moved_kept R (pl 0) px old new first new (suc new) n _ (omega arith) (omega arith) (omega arith) (omega arith) (λ s _. left.kept s);
      }
    where
      px : P (pl 0)
      px = run.there 0 (omega arith)

      first : ν (pl 0) ≡ old
      first = run_first run

      free : (y : InnerPlace) → P y → (y ≡ pl 0 → ⊥) → ν y ≡ new → ⊥
      free y py ne e = go (one_or_none (after pl) n y)
        where
          go : ((i : ℕ) × (i < n) × (y ≡ after pl i)) ⊎ NoneOf (after pl) n y → ⊥
          go (inl a) =
              let l : a.0 < n = a.1 in
              let b : ν y ≡ suc old + a.0 = ap ν a.2 ∙ (run_after run).numbered a.0 l in
              omega arith
          go (inr h) = clear y py (none_of_suc pl n y ne h) (omega arith) (omega arith)

  -- where it moves up in number, or stays, its last place goes first
  pub move_down_at : (n : ℕ) (pl : ℕ → InnerPlace) (ν ν' : InnerPlace → ℕ) (t : List ℕ) (old new : ℕ) → Rep P ν J t → Run P ν pl old n → old ≤ new
      → new + n ≤ port_slots → ((y : InnerPlace) → P y → NoneOf pl n y → new ≤ ν y → ν y < new + n → ⊥) → Renumbered P ν ν' pl new n
      → Moved P ν ν' J new n t (move_down t old new n)
  unfolding move_down
  move_down_at zero pl ν ν' t old new R run le ends clear num = moved_none pl ν ν' t new R num
  move_down_at (suc n) pl ν ν' t old new R run le ends clear num =
      let left : Moved P (placed ν (pl n) (new + n)) ν' J new n (move_port t (old + n) (new + n)) (move_down (move_port t (old + n) (new + n)) old new n) =
      move_down_at n pl (placed ν (pl n) (new + n)) ν' (move_port t (old + n) (new + n)) old new
      (move_placed R (pl n) px (old + n) (new + n) last (omega arith) free)
      (run_left R (pl n) px (old + n) (new + n) last pl old n (run_before run) (last_not_before run))
      le (omega arith)
      (not_left R (pl n) px (old + n) (new + n) last (λ y s. new ≤ s → s < new + n → ⊥) pl n (λ a b. omega arith)
      (λ y py ne no a b. clear y py (none_of_last pl n y no ne) (omega arith) (omega arith)))
      (record {
        placed = λ i l. num.placed i (omega arith);
        others = not_left R (pl n) px (old + n) (new + n) last (λ y s. ν' y ≡ s) pl n (num.placed n (omega arith))
            (λ y py ne no. num.others y py (none_of_last pl n y no ne));
      }) in
      record {
        rep = left.rep;
        kept = moved_kept R (pl n) px (old + n) (new + n) last new new n _ (omega arith) (omega arith) (omega arith) (omega arith) (λ s _. left.kept s);
      }
    where
      px : P (pl n)
      px = run.there n (omega arith)

      last : ν (pl n) ≡ old + n
      last = run.numbered n (omega arith)

      free : (y : InnerPlace) → P y → (y ≡ pl n → ⊥) → ν y ≡ new + n → ⊥
      free y py ne e = go (one_or_none pl n y)
        where
          go : ((i : ℕ) × (i < n) × (y ≡ pl i)) ⊎ NoneOf pl n y → ⊥
          go (inl a) =
              let l : a.0 < n = a.1 in
              let b : ν y ≡ old + a.0 = ap ν a.2 ∙ (run_before run).numbered a.0 l in
              omega arith
          go (inr h) = clear y py (none_of_last pl n y h ne) (omega arith) (omega arith)

  -- within its block a run moves either way
  pub shift_at : (b : Bool) (n : ℕ) (pl : ℕ → InnerPlace) (ν ν' : InnerPlace → ℕ) (t : List ℕ) (old new : ℕ) → Rep P ν J t → Run P ν pl old n
      → (b ≡ true → new ≤ old) → (b ≡ false → old ≤ new) → new + n ≤ port_slots
      → ((y : InnerPlace) → P y → NoneOf pl n y → new ≤ ν y → ν y < new + n → ⊥) → Renumbered P ν ν' pl new n
      → Moved P ν ν' J new n t (shift t b old new n)
  unfolding shift
  shift_at true n pl ν ν' t old new R run down up = move_up_at n pl ν ν' t old new R run (down refl)
  shift_at false n pl ν ν' t old new R run down up = move_down_at n pl ν ν' t old new R run (up refl)

  -- a run moves to slots that no place has, and leaves its old slots empty
  pub transfer_at : (n : ℕ) (pl : ℕ → InnerPlace) (ν ν' : InnerPlace → ℕ) (t : List ℕ) (old new : ℕ) → Rep P ν J t → Run P ν pl old n
      → new + n ≤ port_slots → ((y : InnerPlace) → P y → new ≤ ν y → ν y < new + n → ⊥) → Renumbered P ν ν' pl new n
      → Moved P ν ν' J new n t (transfer t old new n) × ((i : ℕ) → i < n → at (transfer t old new n) (old + i) ≡ 0)
  unfolding transfer
  transfer_at zero pl ν ν' t old new R run ends clear num = (moved_none pl ν ν' t new R num, λ i l. absurd (omega arith))
  transfer_at (suc n) pl ν ν' t old new R run ends clear num =
      let left : Moved P (placed ν (pl 0) new) ν' J (suc new) n t₁ (transfer t₁ (suc old) (suc new) n) × ((i : ℕ) → i < n → at (transfer t₁ (suc old) (suc new) n) (suc old + i) ≡ 0) =
      transfer_at n (after pl) (placed ν (pl 0) new) ν' t₁ (suc old) (suc new)
      R₁
      (run_left R (pl 0) px old new first (after pl) (suc old) n (run_after run) (first_not_after run))
      (omega arith)
      clear₁
      (renumbered_after pl ν ν' t old new n R run num) in (
        record {
          rep = left.0.rep;
          kept = moved_kept R (pl 0) px old new first new (suc new) n _ (omega arith) (omega arith) (omega arith) (omega arith)
              (λ s free free₁ k. left.0.kept s free₁ k ∙ at_put_other _ old s 0 (λ e. free (pl 0) px (first ∙ e)));
        },
        λ i l. emptied (transfer t₁ (suc old) (suc new) n)
            (left.0.kept old vacated (λ a b. apart_new (omega arith) (omega arith)) ∙ at_put_same _ old 0 R₀.long (rw first at (R.fits (pl 0) px)))
            left.1 i l,
      )
    where
      t₁ : List ℕ
      t₁ = put (move_port t old new) old 0

      px : P (pl 0)
      px = run.there 0 (omega arith)

      first : ν (pl 0) ≡ old
      first = run_first run

      apart_new : new ≤ old → old < new + suc n → ⊥
      apart_new a b = let f : ν (pl 0) ≡ old = first in clear (pl 0) px (omega arith) (omega arith)

      R₀ : Rep P (placed ν (pl 0) new) J (move_port t old new)
      R₀ = move_placed R (pl 0) px old new first (omega arith) (λ y py ne e. clear y py (omega arith) (omega arith))

      vacated : Vacant P (placed ν (pl 0) new) old
      vacated y py e = go (place_cases y (pl 0))
        where
          go : (y ≡ pl 0) ⊎ (y ≡ pl 0 → ⊥) → ⊥
          go (inl p) =
              let q : new ≡ old = sym (placed_here ν (pl 0) new) ∙ (ap (placed ν (pl 0) new) (sym p) ∙ e) in
              apart_new (omega arith) (omega arith)
          go (inr ne) = ne (R.apart y (pl 0) py px (sym (placed_other ν (pl 0) new y ne) ∙ (e ∙ sym first)))

      R₁ : Rep P (placed ν (pl 0) new) J t₁
      R₁ = rep_put_vacant R₀ old 0 vacated

      clear₁ : (y : InnerPlace) → P y → suc new ≤ placed ν (pl 0) new y → placed ν (pl 0) new y < suc new + n → ⊥
      clear₁ y py =
          not_left R (pl 0) px old new first (λ y s. suc new ≤ s → s < suc new + n → ⊥) pl 0 (λ a b. omega arith)
          (λ y py ne no a b. clear y py (omega arith) (omega arith)) y py (λ i l e. omega arith)

      emptied : (u : List ℕ) → at u old ≡ 0 → ((i : ℕ) → i < n → at u (suc old + i) ≡ 0) → (i : ℕ) → i < suc n → at u (old + i) ≡ 0
      emptied u h k zero l = let e : old + 0 ≡ old = omega arith in rw e h
      emptied u h k (suc i) l = let e : old + suc i ≡ suc old + i = omega arith in rw e (k i (omega arith))

-- The links of a run are cut.

-- what the cuts leave: the table stands for the join J', vacant slots keep their number,
-- and the number of cut links is the difference of any size that goes down by one with each link
pub record Cleared (P : InnerPlace → Type 0) (ν : InnerPlace → ℕ) (J J' : InnerPlace → Far) (p n : ℕ) (t t' : List ℕ) : Type 0 where
  pub rep : Rep P ν J' t'
  pub kept : (s : ℕ) → Vacant P ν s → at t' s ≡ at t s
  pub count : (size : (InnerPlace → Far) → ℕ)
      → ((K : InnerPlace → Far) → Joined P K → (x : InnerPlace) → P x → is_linked (K x) + size (drop_join (same_place x) K) ≡ size K)
      → cut_count t p n + size J' ≡ size J

-- the test holds of the run's places, and of no other place with a link
pub cut_range_at : {P : InnerPlace → Type 0} {ν : InnerPlace → ℕ} (n : ℕ) (pl : ℕ → InnerPlace) (g : InnerPlace → Bool) (J : InnerPlace → Far) (t : List ℕ) (p : ℕ)
    → Rep P ν J t → Run P ν pl p n → ((i : ℕ) → i < n → g (pl i) ≡ true) → ((y w : InnerPlace) → J y ≡ to w → NoneOf pl n y → g y ≡ false)
    → Cleared P ν J (drop_join g J) p n t (cut_range t p n)
unfolding cut_range cut_count
cut_range_at zero pl g J t p R run yeah nope =
    let none : (y : InnerPlace) → NoneOf pl 0 y = λ y i l e. omega arith in
    let same : (z : InnerPlace) → drop_join g J z ≡ J z =
    λ z. drop_leaves g J z (λ w e. (nope z w e (none z), nope w z (R.joined.back z w e) (none w))) in
    record {
      rep = rep_same R (λ z. sym (same z)) (λ x q. refl);
      kept = λ s free. refl;
      count = λ size one. let e : size (drop_join g J) ≡ size J = ap size (fun_ext same) in omega arith;
    }
cut_range_at {P} {ν} (suc n) pl g J t p R run yeah nope =
    let left : Cleared P ν K (drop_join g K) (suc p) n (cut t p) (cut_range (cut t p) (suc p) n) =
    cut_range_at n (after pl) g K (cut t p) (suc p) (rw first at (cut_at R x px)) (run_after run)
    (λ i l. yeah (suc i) (omega arith))
    (λ y w e no.
    let d = drop_joined (same_place x) J y w e in
    nope y w d.0 (none_of_suc pl n y (λ q. same_place_false x y d.1 (sym q)) no)) in
    record {
      rep = rep_same left.rep same (λ y q. refl);
      kept = λ s free. left.kept s free ∙ rw first at (cut_elsewhere R x px s free);
      count = λ size one.
          let a : cut_count (cut t p) (suc p) n + size (drop_join g K) ≡ size K = left.count size one in
          let b : size (drop_join g K) ≡ size (drop_join g J) = ap size (fun_ext same) in
          let c : is_linked (J x) + size K ≡ size J = one J R.joined x px in
          let d : link_count (at t p) ≡ is_linked (J x) = rw first at (cut_counts R x px) in
          omega arith;
    }
  where
    x : InnerPlace
    x = pl 0

    px : P x
    px = run.there 0 (omega arith)

    first : ν x ≡ p
    first = run_first run

    K : InnerPlace → Far
    K = drop_join (same_place x) J

    same : (z : InnerPlace) → drop_join g K z ≡ drop_join g J z
    same = drop_twice (same_place x) g g J either
      where
        either : (z : InnerPlace) → g z ≡ cond (same_place x z) true (g z)
        either z = go (same_place x z) refl
          where
            go : (b : Bool) → same_place x z ≡ b → g z ≡ cond b true (g z)
            go true e = ap g (sym (same_place_true x z e)) ∙ yeah 0 (omega arith)
            go false e = refl

-- Ranges without places, and ranges in two parts.

pub cut_range_none : (n : ℕ) (t : List ℕ) (p : ℕ) → ((s : ℕ) → p ≤ s → s < p + n → at t s ≡ 0) → (cut_range t p n ≡ t) × (cut_count t p n ≡ 0)
unfolding cut_range cut_count link_count
cut_range_none zero t p empty = (refl, refl)
cut_range_none (suc n) t p empty =
    let e : at t p ≡ 0 = empty p (omega arith) (omega arith) in
    let left : (cut_range t (suc p) n ≡ t) × (cut_count t (suc p) n ≡ 0) =
    cut_range_none n t (suc p) (λ s a b. empty s (omega arith) (omega arith)) in
    (rw (cut_none t p e) left.0, rw (e, cut_none t p e) (let k = left.1 in omega arith))

pub cut_range_parts : (n m : ℕ) (t : List ℕ) (p : ℕ)
    → (cut_range t p (n + m) ≡ cut_range (cut_range t p n) (p + n) m) × (cut_count t p (n + m) ≡ cut_count t p n + cut_count (cut_range t p n) (p + n) m)
unfolding cut_range cut_count
cut_range_parts zero m t p =
    let a : 0 + m ≡ m = omega arith in
    let b : p + 0 ≡ p = omega arith in
    (rw (a, b), rw (a, b) (omega arith))
cut_range_parts (suc n) m t p =
    let a : suc n + m ≡ suc (n + m) = omega arith in
    let b : p + suc n ≡ suc p + n = omega arith in
    let left : (cut_range (cut t p) (suc p) (n + m) ≡ cut_range (cut_range (cut t p) (suc p) n) (suc p + n) m) × (cut_count (cut t p) (suc p) (n + m) ≡ cut_count (cut t p) (suc p) n + cut_count (cut_range (cut t p) (suc p) n) (suc p + n) m) =
    cut_range_parts n m (cut t p) (suc p) in
    (rw (a, b) left.0, rw (a, b) (let k = left.1 in omega arith))

-- The runs of a node's ports.

-- the ports of one side of a node, from a position on
abbrev pub side_place : ℕ → Direction → ℕ → ℕ → InnerPlace
side_place n d j i = record { node = n; side = d; pos = j + i }

-- a port that is none of a side's run is of another node or side, or has another position
pub not_of_side : (n : ℕ) (d : Direction) (j k : ℕ) (y : InnerPlace) → NoneOf (side_place n d j) k y → y.node ≡ n → y.side ≡ d → j ≤ y.pos → y.pos < j + k → ⊥
not_of_side n d j k y none p q a b =
    let r : y.pos ≡ j + (y.pos - j) = omega arith in
    none (y.pos - j) (omega arith) (λ i. record { node = p i; side = q i; pos = r i })

-- all ports of a node, in the order of its block
abbrev pub block_place : ℕ → NodeMeta → ℕ → InnerPlace
block_place n m i =
    cond (ltb i m.incoming) (record { node = n; side = Incoming; pos = i }) (record { node = n; side = Outgoing; pos = i - m.incoming })

module _ (node : ℕ → Slots) (n : ℕ) (m : NodeMeta) (here : node n ≡ live m) where
  pub block_run : Run (Valid node) (slot_of node) (block_place n m) m.first_port.0 (m.incoming + m.outgoing)
  block_run = record { there = λ i l. valid i l (ltb i m.incoming) refl; numbered = λ i l. at_slot i (ltb i m.incoming) refl }
    where
      place : ℕ → Bool → InnerPlace
      place i b = cond b (record { node = n; side = Incoming; pos = i }) (record { node = n; side = Outgoing; pos = i - m.incoming })

      valid : (i : ℕ) → i < m.incoming + m.outgoing → (b : Bool) → ltb i m.incoming ≡ b → Valid node (place i b)
      valid i l true e = rw here (ltb-true _ _ e)
      valid i l false e = rw here (let k : m.incoming ≤ i = ltb-false _ _ e in omega arith)

      at_slot : (i : ℕ) (b : Bool) → ltb i m.incoming ≡ b → slot_of node (place i b) ≡ m.first_port.0 + i
      at_slot i true e = rw here (omega arith)
      at_slot i false e = rw here (let k : m.incoming ≤ i = ltb-false _ _ e in omega arith)

  -- a port that is none of a block's is of another node
  pub not_of_block : (y : InnerPlace) → Valid node y → NoneOf (block_place n m) (m.incoming + m.outgoing) y → y.node ≡ n → ⊥
  not_of_block y v none p = go y.side refl (rw (p, here) at v)
    where
      go : (d : Direction) → y.side ≡ d → y.pos < ports_on m y.side → ⊥
      go Incoming q l =
          let k : y.pos < m.incoming = rw q at l in
          none y.pos (omega arith) (rw (lt-ltb y.pos m.incoming k) (λ i. record { node = p i; side = q i; pos = y.pos }))
      go Outgoing q l =
          let k : y.pos < m.outgoing = rw q at l in
          let r : y.pos ≡ (m.incoming + y.pos) - m.incoming = omega arith in
          none (m.incoming + y.pos) (omega arith)
          (rw (le-ltb (m.incoming + y.pos) m.incoming (omega arith)) (λ i. record { node = p i; side = q i; pos = r i }))
