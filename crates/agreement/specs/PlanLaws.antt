-- Laws of a plan's list of split ports: how many subports are found at a spot after it is sifted, and after a port is given another number.
use Rattle.std.specs.Prelude.{◌≡◌, Bool, false, cond, List, [], ◌∷◌, ◌⊎◌, ℕ, eqb}
use Rattle.std.proofs.Math.Path.{refl, ap}
use Rattle.std.proofs.Common.{sym, ◌∙◌, inl, inr, eqb-true, ⊎_elim}
use Rattle.std.proofs.Math.Bool.{true, not}
use Rattle.port_tables.specs.Lists.{Member}
use Rattle.std.specs.List.{filter}
use Rattle.port_tables.specs.declared.direction.Direction.{Direction}
use Rattle.port_tables.specs.Listing.{member_filter}
use Rattle.multiportgraph.specs.HiddenStays.{true_not_false}
use Rattle.multiportgraph.specs.LinkCutLaws.{at_spot_here, at_spot_is}
use Rattle.port_tables.specs.Places.{Place, Spot, spot, at_spot}
use Rattle.sketches.specs.Plan.{Plan, port_at, spot_named, subports_among, subports_of, set_subports, with_splits}
use Rattle.sketches.specs.declared.sketch.SketchPort.{SketchPort}
use Rattle.std.proofs.lemmas.Bool.{false_from_ne_true, cond_both}

-- what holds of both holds of either
pub either_way : {A : Type 0} (P : A → Type 0) (t : Bool) {u v : A} → P u → P v → P (cond t u v)
either_way P t {u} {v} p q = cond_both t u v P (λ e. p) (λ e. q)

-- a sift that keeps what stands at a spot
pub among_kept : (t : Place → Bool) (l : List Place) (s : Spot) → ((x : Place) → at_spot s x ≡ true → t x ≡ true) → subports_among (filter t l) s ≡ subports_among l s
unfolding subports_among
among_kept t [] s h = refl
among_kept t (x ∷ l) s h = go (t x) (at_spot s x) refl refl (among_kept t l s h)
  where
    go : (a b : Bool) → t x ≡ a → at_spot s x ≡ b → subports_among (filter t l) s ≡ subports_among l s →
        subports_among (cond a (x ∷ filter t l) (filter t l)) s ≡ cond b x.offset (subports_among l s)
    go true true p q rest = rw q refl
    go true false p q rest = rw q rest
    go false true p q rest = absurd (true_not_false (h x q) p)
    go false false p q rest = rest

-- a sift that leaves nothing there
pub among_gone : (t : Place → Bool) (l : List Place) (s : Spot) → ((x : Place) → at_spot s x ≡ true → t x ≡ false) → subports_among (filter t l) s ≡ 0
unfolding subports_among
among_gone t [] s h = refl
among_gone t (x ∷ l) s h = go (t x) (at_spot s x) refl refl (among_gone t l s h)
  where
    go : (a b : Bool) → t x ≡ a → at_spot s x ≡ b → subports_among (filter t l) s ≡ 0 → subports_among (cond a (x ∷ filter t l) (filter t l)) s ≡ 0
    go true true p q rest = absurd (true_not_false p (h x q))
    go true false p q rest = rw q rest
    go false b p q rest = rest

-- nothing stands at a spot
pub among_none : (l : List Place) (s : Spot) → ((x : Place) → Member x l → at_spot s x ≡ false) → subports_among l s ≡ 0
unfolding subports_among
among_none [] s h = refl
among_none (x ∷ l) s h = rw (h x (inl refl)) (among_none l s (λ y i. h y (inr i)))

-- A port with another number of subports.

module _ (K : Plan) (x : SketchPort) (c : ℕ) where
  abbrev others : List Place
  others = filter (λ s. not (at_spot (spot_named x) s)) K.splits

  abbrev entry : Place
  entry = record { node = x.block; side = x.side; pos = x.position; offset = c }

  -- what holds of each of the plans that it can be
  set_elim : (P : Plan → Type 0) → (eqb (subports_of K x) c ≡ true → P K) → (eqb c 0 ≡ true → P (with_splits K others)) → P (with_splits K (entry ∷ others)) → P (set_subports K x c)
  set_elim P same none one =
      cond_both (eqb (subports_of K x) c) K (with_splits K (cond (eqb c 0) others (entry ∷ others))) P same
      (λ e. cond_both (eqb c 0) others (entry ∷ others) (λ l. P (with_splits K l)) none (λ z. one))

  -- the rest of the plan stays
  pub set_release : (set_subports K x c).release ≡ K.release
  set_release = set_elim (λ Q. Q.release ≡ K.release) (λ e. refl) (λ e. refl) refl

  pub set_adds : (set_subports K x c).adds ≡ K.adds
  set_adds = set_elim (λ Q. Q.adds ≡ K.adds) (λ e. refl) (λ e. refl) refl

  pub set_blocks : (set_subports K x c).blocks ≡ K.blocks
  set_blocks = set_elim (λ Q. Q.blocks ≡ K.blocks) (λ e. refl) (λ e. refl) refl

  pub set_wires : (set_subports K x c).wires ≡ K.wires
  set_wires = set_elim (λ Q. Q.wires ≡ K.wires) (λ e. refl) (λ e. refl) refl

  -- the number set is found at the port
  pub set_here : subports_among (set_subports K x c).splits (spot_named x) ≡ c
  unfolding subports_among
  set_here =
      set_elim (λ Q. subports_among Q.splits (spot_named x) ≡ c) (λ e. eqb-true _ _ e)
      (λ e. among_gone (λ s. not (at_spot (spot_named x) s)) K.splits (spot_named x) (λ y h. ap not h) ∙ sym (eqb-true c 0 e))
      (rw (at_spot_here x.block x.side x.position entry refl refl refl) refl)

  -- and nothing changed elsewhere
  pub set_elsewhere : (n : ℕ) (d : Direction) (i : ℕ) → (x.block ≡ n → x.side ≡ d → x.position ≡ i → ⊥) →
      subports_among (set_subports K x c).splits (spot n d i) ≡ subports_among K.splits (spot n d i)
  unfolding subports_among
  set_elsewhere n d i other = set_elim (λ Q. subports_among Q.splits (spot n d i) ≡ subports_among K.splits (spot n d i)) (λ e. refl) (λ e. kept) (rw absent kept)
    where
      away : (y : Place) → at_spot (spot n d i) y ≡ true → not (at_spot (spot_named x) y) ≡ true
      away y h =
          let p = at_spot_is n d i y h in
          ap not (false_from_ne_true (at_spot (spot_named x) y) (λ t. let q = at_spot_is x.block x.side x.position y t in other (sym q.0 ∙ p.0) (sym q.1 ∙ p.1) (sym q.2 ∙ p.2)))

      kept : subports_among others (spot n d i) ≡ subports_among K.splits (spot n d i)
      kept = among_kept (λ s. not (at_spot (spot_named x) s)) K.splits (spot n d i) away

      absent : at_spot (spot n d i) entry ≡ false
      absent = false_from_ne_true (at_spot (spot n d i) entry) (λ t. let q = at_spot_is n d i entry t in other q.0 q.1 q.2)

  -- what is split afterwards was, or is the port
  pub set_splits : (s : Place) → Member s (set_subports K x c).splits → Member s K.splits ⊎ (port_at s ≡ x)
  set_splits s =
      set_elim (λ Q. Member s Q.splits → Member s K.splits ⊎ (port_at s ≡ x)) (λ e i. inl i) (λ e. among) (λ i. ⊎_elim (λ e. inr (ap port_at e)) among i)
    where
      among : Member s others → Member s K.splits ⊎ (port_at s ≡ x)
      among i = inl (member_filter (λ s. not (at_spot (spot_named x) s)) s K.splits i).0
