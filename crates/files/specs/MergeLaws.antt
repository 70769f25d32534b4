-- The view of two files as one: sorting in is appending, since every rank of the second is larger; the result is sound, fits its fields, and
-- doesn't depend on the grouping.
use Rattle.std.specs.Prelude.{◌≡◌, refl, Bool, true, false, cond, List, [], ◌∷◌, ◌++◌, map, ℕ, ◌+◌, ◌≤◌, ◌<◌, eqb, ltb}
use Rattle.std.proofs.Common.{sym, ap, ◌∙◌, append_assoc, append-nil, inl, inr, arith, length-append, get_or-append-add, eqb-true, eq-eqb, ne_eqb, ltb-true, ltb-false, lt-ltb, le-ltb}
use Rattle.std.proofs.Math.Path.{subst}
use Rattle.std.proofs.Math.Logic.{⊎_elim}
use Rattle.std.proofs.Math.ListN.{length, get_or-append}
use Rattle.std.proofs.lemmas.Bool.{eqb-false}
use Rattle.std.proofs.lemmas.List.{map-append, map-id}
use Rattle.std.proofs.lemmas.Simd.{map-map}
use Rattle.port_tables.specs.Lists.{Member, Rising}
use Rattle.port_tables.specs.Listing.{member_append, member_map, map_member, rising_append}
use Rattle.files.specs.View.{BlockPorts, RankWire, View, by_first, is_before, insert, insert_all}
use Rattle.files.specs.Layout.{block_record, wire_record, empty_view, FieldsFit, ViewFits}
use Rattle.files.specs.Loading.{block_at}
use Rattle.files.specs.Claims.{AtMost, Sound}
use Rattle.files.specs.Merging.{raised, merged_view}

-- Sorting in behind.

insert_behind : (w : RankWire) (l : List RankWire) → ((v : RankWire) → Member v l → AtMost v w) → insert w l ≡ l ++ (w ∷ [])
unfolding insert
insert_behind w [] h = refl
insert_behind w (v ∷ l) h = rw (h v (inl refl)) (ap (λ k. v ∷ k) (insert_behind w l (λ u i. h u (inr i))))

sorted_behind : (l among : List RankWire) → Rising AtMost l → ((v w : RankWire) → Member v among → Member w l → AtMost v w) → insert_all l among ≡ among ++ l
unfolding insert_all
sorted_behind [] among r h = sym (append-nil among)
sorted_behind (w ∷ l) among r h =
    ap (insert_all l) (insert_behind w among (λ v i. h v w i (inl refl)))
    ∙ (sorted_behind l (among ++ (w ∷ [])) r.1 (λ v u i j. ⊎_elim (λ k. h v u k (inr j)) (λ k. last v u k j) (member_append v among (w ∷ []) i))
    ∙ append_assoc among (w ∷ []) l)
  where
    last : (v u : RankWire) → Member v (w ∷ []) → Member u l → AtMost v u
    last v u (inl e) j = subst (λ (x : RankWire). AtMost x u) (sym e) (r.0 u j)
    last v u (inr i) j = absurd i

-- Raised wires.

first_raised : (n a b : ℕ) (p : Bool) → by_first (n + a) (n + b) p ≡ by_first a b p
first_raised n a b p = go (eqb a b) refl (ltb a b) refl
  where
    go : (s : Bool) → eqb a b ≡ s → (t : Bool) → ltb a b ≡ t → by_first (n + a) (n + b) p ≡ cond s p t
    go true x t y = let e = eqb-true a b x in rw (eq-eqb (n + a) (n + b) (omega arith))
    go false x true y =
        let h = ltb-true a b y in
        rw (ne_eqb (n + a) (n + b) (λ (z : n + a ≡ n + b). absurd (omega arith)), lt-ltb (n + a) (n + b) (omega arith))
    go false x false y =
        let h = ltb-false a b y in
        rw (ne_eqb (n + a) (n + b) (λ (z : n + a ≡ n + b). eqb-false a b x (omega arith)), le-ltb (n + a) (n + b) (omega arith))

raised_order : (n : ℕ) (v w : RankWire) → is_before (raised n v) (raised n w) ≡ is_before v w
unfolding is_before
raised_order n v w =
    first_raised n v.source w.source _
    ∙ ap (λ (p : Bool). by_first v.source w.source (by_first v.output w.output p)) (first_raised n v.target w.target _)

raised_rise : (n : ℕ) (l : List RankWire) → Rising AtMost l → Rising AtMost (map (raised n) l)
raised_rise n [] r = tt
raised_rise n (w ∷ l) r = (
  (λ y i. let k = member_map (raised n) y l i in subst (AtMost (raised n w)) (sym k.2) (raised_order n k.0 w ∙ r.0 k.0 k.1)),
  raised_rise n l r.1,
)

-- a wire of the first stands before every raised one
first_before : (n : ℕ) (v w : RankWire) → v.source < n → AtMost v (raised n w)
unfolding is_before
first_before n v w h = rw (ne_eqb (n + w.source) v.source (λ (z : n + w.source ≡ v.source). absurd (omega arith)), le-ltb (n + w.source) v.source (omega arith))

map_raised : (n k : ℕ) (l : List RankWire) → map (raised (n + k)) l ≡ map (raised n) (map (raised k) l)
map_raised n k l =
    let e : (a : ℕ) → n + k + a ≡ n + (k + a) = λ a. omega arith in
    (λ j. map (λ (w : RankWire). record { source = e w.source j; output = w.output; target = e w.target j; input = w.input }) l) ∙ sym (map-map (raised n) (raised k) l)

pub map_unraised : (l : List RankWire) → map (raised 0) l ≡ l
map_unraised l =
    let e : (a : ℕ) → 0 + a ≡ a = λ a. omega arith in
    (λ j. map (λ (w : RankWire). record { source = e w.source j; output = w.output; target = e w.target j; input = w.input }) l) ∙ map-id l

-- The result of two sound views.

module _ {v w : View} (s : Sound v) (t : Sound w) where
  -- sorting in is appending
  pub merged_appends : merged_view v w ≡ record { blocks = v.blocks ++ w.blocks; wires = v.wires ++ map (raised (length v.blocks)) w.wires }
  unfolding merged_view
  merged_appends =
      let n = length v.blocks in
      let e = sorted_behind (map (raised n) w.wires) v.wires (raised_rise n w.wires t.rise)
      (λ x y i j. let k = member_map (raised n) y w.wires j in subst (AtMost x) (sym k.2) (first_before n x k.0 (s.source x i))) in
      λ j. record { blocks = v.blocks ++ w.blocks; wires = e j }

  -- a wire of the result is one of the first, or one of the second, raised
  merged_wire : (P : RankWire → Type 0) → ((x : RankWire) → Member x v.wires → P x) → ((x : RankWire) → Member x w.wires → P (raised (length v.blocks) x)) →
      (x : RankWire) → Member x (merged_view v w).wires → P x
  merged_wire P one two x i =
      ⊎_elim (one x) (λ k. let z = member_map (raised (length v.blocks)) x w.wires k in subst P (sym z.2) (two z.0 z.1))
      (member_append x v.wires (map (raised (length v.blocks)) w.wires) (subst (λ (u : View). Member x u.wires) merged_appends i))

  -- its blocks, of each
  first_block : (r : ℕ) → r < length v.blocks → block_at (v.blocks ++ w.blocks) r ≡ block_at v.blocks r
  first_block r h = get_or-append v.blocks w.blocks _ r h

  second_block : (r : ℕ) → block_at (v.blocks ++ w.blocks) (length v.blocks + r) ≡ block_at w.blocks r
  second_block r = get_or-append-add v.blocks w.blocks r _

  pub merged_sound : Sound (merged_view v w)
  merged_sound =
      let n = length v.blocks in
      let many = length-append v.blocks w.blocks in
      subst Sound (sym merged_appends)
      (record {
        rise =
            rising_append AtMost v.wires (map (raised n) w.wires) s.rise (raised_rise n w.wires t.rise)
            (λ x y i j. let k = member_map (raised n) y w.wires j in subst (AtMost x) (sym k.2) (first_before n x k.0 (s.source x i)));
        source = each (λ (x : RankWire). x.source < length (v.blocks ++ w.blocks)) (λ x i. let h = s.source x i in omega arith) (λ x i. let h = t.source x i in omega arith);
        output =
            each (λ (x : RankWire). x.output < (block_at (v.blocks ++ w.blocks) x.source).outgoing)
            (λ x i. subst (λ (b : BlockPorts). x.output < b.outgoing) (sym (first_block x.source (s.source x i))) (s.output x i))
            (λ x i. subst (λ (b : BlockPorts). x.output < b.outgoing) (sym (second_block x.source)) (t.output x i));
        target = each (λ (x : RankWire). x.target < length (v.blocks ++ w.blocks)) (λ x i. let h = s.target x i in omega arith) (λ x i. let h = t.target x i in omega arith);
        input =
            each (λ (x : RankWire). x.input < (block_at (v.blocks ++ w.blocks) x.target).incoming)
            (λ x i. subst (λ (b : BlockPorts). x.input < b.incoming) (sym (first_block x.target (s.target x i))) (s.input x i))
            (λ x i. subst (λ (b : BlockPorts). x.input < b.incoming) (sym (second_block x.target)) (t.input x i));
      })
    where
      each : (P : RankWire → Type 0) → ((x : RankWire) → Member x v.wires → P x) → ((x : RankWire) → Member x w.wires → P (raised (length v.blocks) x)) →
          (x : RankWire) → Member x (v.wires ++ map (raised (length v.blocks)) w.wires) → P x
      each P one two x i = merged_wire P one two x (subst (λ (u : View). Member x u.wires) (sym merged_appends) i)

  pub merged_fits : ViewFits v → ViewFits w → length v.blocks + length w.blocks ≤ 65536 → ViewFits (merged_view v w)
  unfolding merged_view
  merged_fits f g few = (
    (λ r i.
        let k = member_map block_record r (v.blocks ++ w.blocks) i in
        ⊎_elim (λ j. subst FieldsFit (sym k.2) (f.0 (block_record k.0) (map_member block_record k.0 v.blocks j)))
        (λ j. subst FieldsFit (sym k.2) (g.0 (block_record k.0) (map_member block_record k.0 w.blocks j))) (member_append k.0 v.blocks w.blocks k.1)),
    (λ r i.
        let k = member_map wire_record r (merged_view v w).wires i in
        subst FieldsFit (sym k.2)
        (merged_wire (λ (x : RankWire). FieldsFit (wire_record x)) (λ x j. f.1 (wire_record x) (map_member wire_record x v.wires j))
        (λ x j.
        let h = g.1 (wire_record x) (map_member wire_record x w.wires j) in
        let p = t.source x j in
        let q = t.target x j in
        record { a = omega arith; b = h.b; c = omega arith; d = h.d }) k.0 k.1)),
  )

-- Nothing on either side, and three.

-- a view with no wires is sound
pub unwired_sound : (blocks : List BlockPorts) → Sound (record { blocks = blocks; wires = [] })
unwired_sound blocks = record { rise = tt; source = λ x i. absurd i; output = λ x i. absurd i; target = λ x i. absurd i; input = λ x i. absurd i }

pub merged_nothing : {v : View} → Sound v → (merged_view empty_view v ≡ v) × (merged_view v empty_view ≡ v)
merged_nothing {v} s = (
  merged_appends (unwired_sound []) s ∙ (λ j. record { blocks = v.blocks; wires = map_unraised v.wires j }),
  merged_appends s (unwired_sound []) ∙ (λ j. record { blocks = append-nil v.blocks j; wires = append-nil v.wires j }),
)

pub merged_grouping : {u v w : View} → Sound u → Sound v → Sound w → merged_view (merged_view u v) w ≡ merged_view u (merged_view v w)
merged_grouping {u} {v} {w} r s t =
    let n = length u.blocks in
    let k = length v.blocks in
    let uv = merged_appends r s in
    let vw = merged_appends s t in
    let many = ap (λ (x : View). length x.blocks) uv ∙ length-append u.blocks v.blocks in
    let left = merged_appends (merged_sound r s) t in
    let right = merged_appends r (merged_sound s t) in
    let wires : (u.wires ++ map (raised n) v.wires) ++ map (raised (n + k)) w.wires ≡ u.wires ++ map (raised n) (v.wires ++ map (raised k) w.wires) =
    append_assoc u.wires (map (raised n) v.wires) (map (raised (n + k)) w.wires)
    ∙ ap (λ (l : List RankWire). u.wires ++ l)
    (ap (λ (l : List RankWire). map (raised n) v.wires ++ l) (map_raised n k w.wires) ∙ sym (map-append (raised n) v.wires (map (raised k) w.wires))) in
    left
    ∙ ((λ j. record { blocks = (uv j).blocks ++ w.blocks; wires = (uv j).wires ++ map (raised (many j)) w.wires })
    ∙ ((λ j. record { blocks = append_assoc u.blocks v.blocks w.blocks j; wires = wires j })
    ∙ ((λ j. record { blocks = u.blocks ++ (sym vw j).blocks; wires = u.wires ++ map (raised n) (sym vw j).wires }) ∙ sym right)))
