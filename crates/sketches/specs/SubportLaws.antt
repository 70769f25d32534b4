-- What is left of a walk over the subports of a side: from its start the whole list, and each step takes the first of what is left.
-- subports_whole, subport_takes_first and subport_ends_empty are statements: they say what the walk does, and nothing rests on them.
use Rattle.std.proofs.lemmas.Option.{some_pair_parts}
use Rattle.std.proofs.Math.Path.{◌≡◌, refl, ap}
use Rattle.std.proofs.Common.{sym, ◌∙◌, arith}
use Rattle.std.specs.Prelude.{Bool, cond, eqb, Option, Some, None}
use Rattle.std.proofs.Math.Bool.{true, false}
use mathlib.Core.List.{List, [], ◌∷◌, ◌++◌, map, flat_map}
use Prim.Native.Nat.{ℕ, zero, suc, ◌-◌, ◌≤◌, ◌<◌}
use Rattle.std.proofs.Math.Dec.{leb, ltb}
use borrow.Author.Tests.{eqb-true, eqb-false, leb-true, leb-false, ltb-true, ltb-false}
use Rattle.port_tables.specs.Lists.{range}
use Rattle.port_tables.specs.declared.direction.Direction.{Direction}
use Rattle.sketches.specs.Plan.{Plan, ports_on_side, subports_of, end#}
use Rattle.sketches.specs.PlanLists.{offsets_of, port_on, subports_of_side}
use Rattle.sketches.specs.SketchWalks.{offset_count, next_subport}
use Rattle.sketches.specs.declared.walks.SubportWalk.{SubportWalk}
use Rattle.sketches.specs.declared.sketch.SketchPort.{SketchPort}
use Rattle.sketches.specs.declared.sketch.SketchEnd.{SketchEnd}
use Rattle.port_tables.specs.Listing.{range_none, range_first}

-- the ends of a port, from an offset on
abbrev ends_from : Plan → SketchPort → ℕ → List SketchEnd
ends_from K x o = map (end# x) (range o (offset_count (subports_of K x) - o))

-- those of all ports of a side, from a position on
abbrev ends_beyond : Plan → ℕ → Direction → ℕ → List SketchEnd
ends_beyond K n d i = flat_map (λ j. map (end# (port_on n d j)) (offsets_of (subports_of K (port_on n d j)))) (range i (ports_on_side K.blocks n d - i))

abbrev ports_of_walk : Plan → SubportWalk → ℕ
ports_of_walk K w = ports_on_side K.blocks w.port.block w.port.side

abbrev pub subports_left : Plan → SubportWalk → List SketchEnd
subports_left K w = cond (leb (ports_of_walk K w) w.port.position) [] (ends_from K w.port w.offset ++ ends_beyond K w.port.block w.port.side (suc w.port.position))

count_positive : (c : ℕ) → 0 < offset_count c
count_positive c = go (eqb c 0) refl
  where
    go : (b : Bool) → eqb c 0 ≡ b → 0 < cond b 1 c
    go true p = omega arith
    go false p = let d = eqb-false c 0 p in omega (arith, d)

offsets_are : (c : ℕ) → offsets_of c ≡ range 0 (offset_count c)
unfolding range
offsets_are zero = refl
offsets_are (suc c) = ap (range 0) (go (eqb (suc c) 0) refl)
  where
    go : (b : Bool) → eqb (suc c) 0 ≡ b → suc c ≡ cond b 1 (suc c)
    go true p = let e = eqb-true (suc c) 0 p in absurd (omega arith)
    go false p = refl

ends_first : (K : Plan) (x : SketchPort) (o : ℕ) → o < offset_count (subports_of K x) → ends_from K x o ≡ end# x o ∷ ends_from K x (suc o)
ends_first K x o h =
    ap (map (end# x)) (range_first o (offset_count (subports_of K x) - o) (offset_count (subports_of K x) - suc o) (omega arith))

ends_none : (K : Plan) (x : SketchPort) (o : ℕ) → offset_count (subports_of K x) ≤ o → ends_from K x o ≡ []
ends_none K x o h = ap (map (end# x)) (range_none o (offset_count (subports_of K x) - o) (omega arith))

beyond_first : (K : Plan) (n : ℕ) (d : Direction) (i : ℕ) → i < ports_on_side K.blocks n d → ends_beyond K n d i ≡ ends_from K (port_on n d i) 0 ++ ends_beyond K n d (suc i)
unfolding flat_map
beyond_first K n d i h =
    let z : offset_count (subports_of K (port_on n d i)) - 0 ≡ offset_count (subports_of K (port_on n d i)) = omega arith in
    ap (flat_map (λ j. map (end# (port_on n d j)) (offsets_of (subports_of K (port_on n d j))))) (range_first i (ports_on_side K.blocks n d - i) (ports_on_side K.blocks n d - suc i) (omega arith))
    ∙ ap (λ (l : List ℕ). map (end# (port_on n d i)) l ++ ends_beyond K n d (suc i)) (offsets_are (subports_of K (port_on n d i)) ∙ ap (range 0) (sym z))

beyond_none : (K : Plan) (n : ℕ) (d : Direction) (i : ℕ) → ports_on_side K.blocks n d ≤ i → ends_beyond K n d i ≡ []
unfolding flat_map
beyond_none K n d i h = ap (flat_map (λ j. map (end# (port_on n d j)) (offsets_of (subports_of K (port_on n d j))))) (range_none i (ports_on_side K.blocks n d - i) (omega arith))

-- at the start, all of them
pub subports_whole : (K : Plan) (n : ℕ) (d : Direction) → subports_left K (record { port = port_on n d 0; offset = 0 }) ≡ subports_of_side K n d
subports_whole K n d = go (leb (ports_on_side K.blocks n d) 0) refl
  where
    whole : ends_beyond K n d 0 ≡ subports_of_side K n d
    whole = let e : ports_on_side K.blocks n d - 0 ≡ ports_on_side K.blocks n d = omega arith in ap (λ (m : ℕ). flat_map (λ j. map (end# (port_on n d j)) (offsets_of (subports_of K (port_on n d j)))) (range 0 m)) e

    go : (b : Bool) → leb (ports_on_side K.blocks n d) 0 ≡ b → cond b [] (ends_from K (port_on n d 0) 0 ++ ends_beyond K n d 1) ≡ subports_of_side K n d
    go true p = let h = leb-true (ports_on_side K.blocks n d) 0 p in sym (beyond_none K n d 0 h) ∙ whole
    go false p = let h = leb-false (ports_on_side K.blocks n d) 0 p in sym (beyond_first K n d 0 h) ∙ whole

module _ (K : Plan) (w : SubportWalk) where
  step : Bool → Bool → Bool → Option (SketchEnd × SubportWalk)
  step a b c =
      cond a None
      (cond b (Some (end# w.port w.offset, record { port = w.port; offset = suc w.offset }))
      (cond c None
      (Some (end# (port_on w.port.block w.port.side (suc w.port.position)) 0, record { port = port_on w.port.block w.port.side (suc w.port.position); offset = 1 }))))

  pub subport_takes_first : (x : SketchEnd) (v : SubportWalk) → next_subport K w ≡ Some (x, v) → subports_left K w ≡ x ∷ subports_left K v
  unfolding next_subport step
  subport_takes_first x v e =
      go (leb (ports_of_walk K w) w.port.position) refl (ltb w.offset (offset_count (subports_of K w.port))) refl (leb (ports_of_walk K w) (suc w.port.position)) refl e
    where
      go : (a : Bool) → leb (ports_of_walk K w) w.port.position ≡ a → (b : Bool) → ltb w.offset (offset_count (subports_of K w.port)) ≡ b → (c : Bool) → leb (ports_of_walk K w) (suc w.port.position) ≡ c →
          step a b c ≡ Some (x, v) → subports_left K w ≡ x ∷ subports_left K v
      go true p b q c r e = absurd (let z : ◌≡◌ {A = ℕ} 0 1 = cc in omega arith)
      go false p true q c r e =
          let i : end# w.port w.offset ≡ x = (some_pair_parts _ _ _ _ e).0 in
          let j : record { port = w.port; offset = suc w.offset } ≡ v = (some_pair_parts _ _ _ _ e).1 in
          let h = ltb-true w.offset (offset_count (subports_of K w.port)) q in
          (rw p (ap (λ (l : List SketchEnd). l ++ ends_beyond K w.port.block w.port.side (suc w.port.position)) (ends_first K w.port w.offset h)))
          ∙ here w.port (suc w.offset) p
          ∙ ap (λ (y : SketchEnd). y ∷ subports_left K (record { port = w.port; offset = suc w.offset })) i ∙ ap (λ (u : SubportWalk). x ∷ subports_left K u) j
        where
          here : (y : SketchPort) (o : ℕ) → leb (ports_on_side K.blocks y.block y.side) y.position ≡ false →
              end# w.port w.offset ∷ (ends_from K y o ++ ends_beyond K y.block y.side (suc y.position)) ≡ end# w.port w.offset ∷ subports_left K (record { port = y; offset = o })
          here y o p = rw p
      go false p false q true r e = absurd (let z : ◌≡◌ {A = ℕ} 0 1 = cc in omega arith)
      go false p false q false r e =
          let y = port_on w.port.block w.port.side (suc w.port.position) in
          let i : end# y 0 ≡ x = (some_pair_parts _ _ _ _ e).0 in
          let j : record { port = y; offset = 1 } ≡ v = (some_pair_parts _ _ _ _ e).1 in
          let h = ltb-false w.offset (offset_count (subports_of K w.port)) q in
          let k = leb-false (ports_of_walk K w) (suc w.port.position) r in
          (rw (p, ends_none K w.port w.offset h) refl)
          ∙ beyond_first K w.port.block w.port.side (suc w.port.position) k
          ∙ ap (λ (l : List SketchEnd). l ++ ends_beyond K w.port.block w.port.side (suc (suc w.port.position))) (ends_first K y 0 (count_positive (subports_of K y)))
          ∙ (rw r refl)
          ∙ ap (λ (z : SketchEnd). z ∷ subports_left K (record { port = y; offset = 1 })) i ∙ ap (λ (u : SubportWalk). x ∷ subports_left K u) j

  pub subport_ends_empty : next_subport K w ≡ None → subports_left K w ≡ []
  unfolding next_subport step
  subport_ends_empty e =
      go (leb (ports_of_walk K w) w.port.position) refl (ltb w.offset (offset_count (subports_of K w.port))) refl (leb (ports_of_walk K w) (suc w.port.position)) refl e
    where
      go : (a : Bool) → leb (ports_of_walk K w) w.port.position ≡ a → (b : Bool) → ltb w.offset (offset_count (subports_of K w.port)) ≡ b → (c : Bool) → leb (ports_of_walk K w) (suc w.port.position) ≡ c →
          step a b c ≡ None → subports_left K w ≡ []
      go true p b q c r e = rw p
      go false p true q c r e = absurd (let z : ◌≡◌ {A = ℕ} 0 1 = cc in omega arith)
      go false p false q true r e =
          let h = ltb-false w.offset (offset_count (subports_of K w.port)) q in
          let k = leb-true (ports_of_walk K w) (suc w.port.position) r in
          (rw (p, ends_none K w.port w.offset h) refl) ∙ beyond_none K w.port.block w.port.side (suc w.port.position) k
      go false p false q false r e = absurd (let z : ◌≡◌ {A = ℕ} 0 1 = cc in omega arith)
