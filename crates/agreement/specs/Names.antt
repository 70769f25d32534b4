-- Laws of names: a node has one name and a name one node, so tests on places, and lists of wires sifted by them, are the same under the names.
use Rattle.std.proofs.lemmas.List.{length-map}
use Rattle.std.proofs.Math.Path.{◌≡◌, refl, ap}
use Rattle.std.proofs.Common.{sym, ◌∙◌, subst, inl, inr, eq-eqb, ne_eqb, eqb-true}
use Rattle.std.specs.Prelude.{Bool, not, eqb, leb, length}
use Rattle.std.proofs.Math.Bool.{true, false, cond}
use mathlib.Core.List.{List, [], ◌∷◌, map}
use Prim.Native.Nat.{ℕ, zero, suc}
use Rattle.port_tables.specs.Lists.{Member, Once, Rising}
use Rattle.std.specs.List.{filter}
use Rattle.port_tables.specs.Entries.{same_side, new_count}
use Rattle.port_tables.specs.declared.direction.Direction.{Direction}
use Rattle.port_tables.specs.Listing.{member_map, map_same_on, filter_same, filter_map}
use Rattle.port_tables.specs.Places.{Place, Wire, spot, at_spot, at_end, touches, of_node, of_dropped, without, any_touches, lowest_unwired, next_offset}
use Rattle.sketches.specs.Plan.{Far, nothing, far, far_from}
use Rattle.agreement.specs.Meaning.{Naming}
use Rattle.agreement.specs.Alike.{Apart, name_of, place_renamed, wire_renamed}
use Rattle.std.specs.Cmp.{both_ways}

abbrev pub naming : ℕ → ℕ → Naming
naming n k = record { node = n; name = k }

-- a node has a name
abbrev pub HasName : List Naming → ℕ → Type 0
HasName l n = (k : ℕ) × Member (naming n k) l

abbrev pub WireNamed : List Naming → Wire → Type 0
WireNamed l w = HasName l w.out.node × HasName l w.into.node

pub name_of_lem : (l : List Naming) → Rising Apart l → (n k : ℕ) → Member (naming n k) l → name_of l n ≡ k
unfolding name_of
name_of_lem [] r n k never = absurd never
name_of_lem (x ∷ l) r n k (inl p) = rw (← p, eq-eqb n n refl) refl
name_of_lem (x ∷ l) r n k (inr i) = rw (ne_eqb x.node n (r.0 (naming n k) i).0) (name_of_lem l r.1 n k i)

-- one name, one node
pub node_of_lem : (l : List Naming) → Rising Apart l → (x y : Naming) → Member x l → Member y l → x.name ≡ y.name → x.node ≡ y.node
node_of_lem [] r x y never _ e = absurd never
node_of_lem (z ∷ l) r x y (inl p) (inl q) e = ap (λ (v : Naming). v.node) (p ∙ sym q)
node_of_lem (z ∷ l) r x y (inl p) (inr j) e = absurd ((r.0 y j).1 (ap (λ (v : Naming). v.name) (sym p) ∙ e))
node_of_lem (z ∷ l) r x y (inr i) (inl q) e = absurd ((r.0 x i).1 (ap (λ (v : Naming). v.name) (sym q) ∙ sym e))
node_of_lem (z ∷ l) r x y (inr i) (inr j) e = node_of_lem l r.1 x y i j e

module _ (l : List Naming) (r : Rising Apart l) where
  pub one_name : (n k j : ℕ) → Member (naming n k) l → Member (naming n j) l → k ≡ j
  one_name n k j a b = sym (name_of_lem l r n k a) ∙ name_of_lem l r n j b

  -- nodes are the same exactly if their names are
  pub same_eqb : (n k c j : ℕ) → Member (naming n k) l → Member (naming c j) l → eqb c n ≡ eqb j k
  same_eqb n k c j a b =
      both_ways (eqb c n) (eqb j k) (λ t. eq-eqb j k (one_name c j k b (subst (λ (v : ℕ). Member (naming v k) l) (sym (eqb-true c n t)) a)))
      (λ t. eq-eqb c n (node_of_lem l r (naming c j) (naming n k) b a (eqb-true j k t)))

  pub named_eqb : (n k c : ℕ) → Member (naming n k) l → HasName l c → eqb c n ≡ eqb (name_of l c) k
  named_eqb n k c a h = same_eqb n k c h.0 a h.1 ∙ ap (λ (v : ℕ). eqb v k) (sym (name_of_lem l r c h.0 h.1))

-- Tests on places.

-- a test of the engine and one of the sketch that agree under the names
abbrev pub SameTest : List Naming → (Place → Bool) → (Place → Bool) → Type 0
SameTest l f g = (x : Place) → HasName l x.node → f x ≡ g (place_renamed l x)

module _ (l : List Naming) (r : Rising Apart l) (n k : ℕ) (a : Member (naming n k) l) where
  pub same_spot : (d : Direction) (i : ℕ) → SameTest l (at_spot (spot n d i)) (at_spot (spot k d i))
  unfolding at_spot
  same_spot d i x h = ap (λ (t : Bool). cond t (cond (same_side x.side d) (eqb x.pos i) false) false) (named_eqb l r n k x.node a h)

  pub same_end : (d : Direction) (i o : ℕ) → SameTest l (at_end (spot n d i) o) (at_end (spot k d i) o)
  unfolding at_end
  same_end d i o x h = ap (λ (t : Bool). cond t (eqb x.offset o) false) (same_spot d i x h)

  pub same_node : SameTest l (of_node n) (of_node k)
  same_node x h = named_eqb l r n k x.node a h

  pub same_dropped : (i o : ℕ) → SameTest l (of_dropped n i o) (of_dropped k i o)
  same_dropped i o x h = ap (λ (t : Bool). cond t (leb (new_count i o x.side) x.pos) false) (named_eqb l r n k x.node a h)

-- Lists of wires.

abbrev pub renamed : List Naming → List Wire → List Wire
renamed l ws = map (wire_renamed l) ws

abbrev pub AllNamed : List Naming → List Wire → Type 0
AllNamed l ws = (w : Wire) → Member w ws → WireNamed l w

-- those of a book's wires that pass a test are those of the sketch's that pass the same one
pub filter_renamed : (l : List Naming) (f g : Wire → Bool) → ((w : Wire) → WireNamed l w → f w ≡ g (wire_renamed l w)) → (ws : List Wire) → AllNamed l ws →
    renamed l (filter f ws) ≡ filter g (renamed l ws)
filter_renamed l f g same ws h =
    ap (renamed l) (filter_same f (λ w. g (wire_renamed l w)) ws (λ w i. same w (h w i))) ∙ sym (filter_map (wire_renamed l) g ws)

module _ (l : List Naming) (f g : Place → Bool) (same : SameTest l f g) where
  pub same_touches : (w : Wire) → WireNamed l w → touches f w ≡ touches g (wire_renamed l w)
  same_touches w h = let p = same w.out h.0 in let q = same w.into h.1 in rw (p, q) refl

  pub without_renamed : (ws : List Wire) → AllNamed l ws → renamed l (without f ws) ≡ without g (renamed l ws)
  without_renamed ws h = filter_renamed l (λ w. not (touches f w)) (λ w. not (touches g w)) (λ w k. ap not (same_touches w k)) ws h

  pub any_renamed : (ws : List Wire) → AllNamed l ws → any_touches f ws ≡ any_touches g (renamed l ws)
  unfolding any_touches
  any_renamed [] h = refl
  any_renamed (w ∷ ws) h =
      let p = same_touches w (h w (inl refl)) in
      let q = any_renamed ws (λ v i. h v (inr i)) in
      rw (p, q) refl

  abbrev pub far_renamed : Far → Far
  far_renamed nothing = nothing
  far_renamed (far x) = far (place_renamed l x)

  pub far_renamed_lem : (ws : List Wire) → AllNamed l ws → far_renamed (far_from f ws) ≡ far_from g (renamed l ws)
  unfolding far_from
  far_renamed_lem [] h = refl
  far_renamed_lem (w ∷ ws) h =
      let p = same w.out (h w (inl refl)).0 in
      let q = same w.into (h w (inl refl)).1 in
      rw (p, q) (go (g (place_renamed l w.out)) (g (place_renamed l w.into)) (far_renamed_lem ws (λ v i. h v (inr i))))
    where
      go : (s t : Bool) → far_renamed (far_from f ws) ≡ far_from g (renamed l ws) →
          far_renamed (cond s (far w.into) (cond t (far w.out) (far_from f ws)))
          ≡ cond s (far (place_renamed l w.into)) (cond t (far (place_renamed l w.out)) (far_from g (renamed l ws)))
      go true t rest = refl
      go false true rest = refl
      go false false rest = rest

module _ (l : List Naming) (r : Rising Apart l) where
  -- the lowest unwired offset is the same
  lowest_renamed : (n k : ℕ) → Member (naming n k) l → (d : Direction) (i : ℕ) (ws : List Wire) → AllNamed l ws → (o c : ℕ) →
      lowest_unwired ws (spot n d i) o c ≡ lowest_unwired (renamed l ws) (spot k d i) o c
  unfolding lowest_unwired
  lowest_renamed n k a d i ws h o zero = refl
  lowest_renamed n k a d i ws h o (suc c) =
      let p = any_renamed l (at_end (spot n d i) o) (at_end (spot k d i) o) (same_end l r n k a d i o) ws h in
      let q = lowest_renamed n k a d i ws h (suc o) c in
      rw (p, q) refl

  pub next_renamed : (n k : ℕ) → Member (naming n k) l → (d : Direction) (i : ℕ) (ws : List Wire) → AllNamed l ws →
      next_offset ws (spot n d i) ≡ next_offset (renamed l ws) (spot k d i)
  next_renamed n k a d i ws h =
      lowest_renamed n k a d i ws h 0 (length ws) ∙ ap (lowest_unwired (renamed l ws) (spot k d i) 0) (sym (length-map ws (wire_renamed l)))

  -- different wires have different names
  place_back : (x y : Place) → HasName l x.node → HasName l y.node → place_renamed l x ≡ place_renamed l y → x ≡ y
  place_back x y h k e =
      let p : h.0 ≡ k.0 = sym (name_of_lem l r x.node h.0 h.1) ∙ (ap (λ (v : Place). v.node) e ∙ name_of_lem l r y.node k.0 k.1) in
      let n : x.node ≡ y.node = node_of_lem l r (naming x.node h.0) (naming y.node k.0) h.1 k.1 p in
      λ i. record { node = n i; side = (e i).side; pos = (e i).pos; offset = (e i).offset }

  pub wire_back : (w v : Wire) → WireNamed l w → WireNamed l v → wire_renamed l w ≡ wire_renamed l v → w ≡ v
  wire_back w v h k e =
      let p = place_back w.out v.out h.0 k.0 (ap (λ (u : Wire). u.out) e) in
      let q = place_back w.into v.into h.1 k.1 (ap (λ (u : Wire). u.into) e) in
      λ i. record { out = p i; into = q i }

  pub renamed_once : (ws : List Wire) → AllNamed l ws → Once ws → Once (renamed l ws)
  renamed_once [] h o = tt
  renamed_once (w ∷ ws) h o = (
    (λ i.
        let g = member_map (wire_renamed l) (wire_renamed l w) ws i in
        o.0 (subst (λ (v : Wire). Member v ws) (sym (wire_back w g.0 (h w (inl refl)) (h g.0 (inr g.1)) g.2)) g.1)),
    renamed_once ws (λ v i. h v (inr i)) o.1,
  )

-- Other names of the same nodes.

-- wires whose nodes have the same names in two lists of names
pub renamed_same : (l k : List Naming) (ws : List Wire) → ((w : Wire) → Member w ws → (name_of k w.out.node ≡ name_of l w.out.node) × (name_of k w.into.node ≡ name_of l w.into.node)) →
    renamed k ws ≡ renamed l ws
renamed_same l k ws h =
    map_same_on (wire_renamed k) (wire_renamed l) ws
    (λ w i. let s = h w i in λ j.
    record {
      out = record { node = s.0 j; side = w.out.side; pos = w.out.pos; offset = w.out.offset };
      into = record { node = s.1 j; side = w.into.side; pos = w.into.pos; offset = w.into.offset };
    })
