-- Names are counts: what a sketch keeps as its number of adds is how many it accepted, and an accepted add answers it as the name.
use Rattle.std.specs.Prelude.{◌≡◌, Bool, not, ◌||◌, List, [], ◌∷◌, map, eqb, leb, ltb, length, Result, Ok, Err}
use Rattle.std.proofs.Math.Path.{refl}
use Rattle.std.proofs.Common.{◌∙◌}
use Rattle.std.proofs.Math.Bool.{true, false, cond}
use Prim.Native.Nat.{ℕ, suc, ◌+◌, ◌≤◌}
use native.Mathlib.Omega.{arith}
use Rattle.portgraph.specs.GoodSlots.{zero_is_not_one}
use Rattle.port_tables.specs.Limits.{node_slots, port_slots, node_ports}
use Rattle.port_tables.specs.Entries.{same_side}
use Rattle.port_tables.specs.declared.release.Release.{Release}
use Rattle.port_tables.specs.Places.{at_spot, without}
use Rattle.sketches.specs.Plan.{Plan, has_block, ports_in_all, spot_named, is_there, lacks_offset, input_taken, above_wired, ready, subports_of, offset_ready, subports_ready, with_wires}
use Rattle.sketches.specs.PlanCalls as sketch
use Rattle.sketches.specs.PlanCalls.{Sketched, leaves}
use Rattle.sketches.specs.declared.sketch.SketchPort.{SketchPort}
use Rattle.sketches.specs.declared.sketch.Reason.TheVariants as reason
use Rattle.agreement.specs.Meaning.{PlanCall, add_plan, remove_plan, set_plan, link_plan, link_clean_plan, link_sub_plan, cut_plan, cut_sub_plan, tidy_plan, PlanAnswerOf, plan_step, Both, start}
use Rattle.agreement.specs.Histories.{PlanEntry, PairItem, calls, sheets, next_item, after, adds_of, call_adds, item_adds, accepted_adds}
use Rattle.agreement.specs.PlanLaws.{set_adds, either_way}
use Rattle.sketches.specs.declared.sketch.Reason.{Reason}

-- the number of adds stays
abbrev Kept : Plan → {A : Type 0} → Sketched A → Type 0
Kept K v = v.plan.adds ≡ K.adds

-- Calls.

ready_adds : (K : Plan) (x : SketchPort) → (ready K x).adds ≡ K.adds
unfolding ready
ready_adds K x = set_adds K x (subports_ready (subports_of K x) (offset_ready K x))

module _ (K : Plan) where
  twice_ready : (x y : SketchPort) → (ready (ready K x) y).adds ≡ K.adds
  twice_ready x y = ready_adds (ready K x) y ∙ ready_adds K x

  pub links_adds : (x y : SketchPort) → (sketch.link_ports K x y).plan.adds ≡ K.adds
  unfolding sketch.link_ports
  links_adds x y =
      either_way (Kept K) (not (is_there K x)) refl
      (either_way (Kept K) (input_taken K x y) refl
      (either_way (Kept K) (not (is_there K y)) (ready_adds K x) (either_way (Kept K) (same_side x.side y.side) (twice_ready x y) (either_way (Kept K) (sketch.is_full K) refl (twice_ready x y)))))

  -- an add: refused, or accepted with the number so far for its name
  module _ (i o : ℕ) where
    too_wide : Bool
    too_wide = not (leb (i + o) node_ports)

    full : Bool
    full = leb sketch.most_adds K.adds || (leb node_slots (length K.blocks) || ltb port_slots (ports_in_all K.blocks + (i + o)))

    add_adds : (sketch.add_block K i o).plan.adds ≡ K.adds + adds_of (sketch.add_block K i o).answer
    unfolding sketch.add_block too_wide full
    add_adds = go too_wide full _ refl
      where
        go : (t u : Bool) (l : Plan) → l.adds ≡ suc K.adds →
            (cond {A = Sketched (Result ℕ Reason)} t (leaves K (Err reason.TooManyPorts)) (cond u (leaves K (Err reason.NoRoom)) (leaves l (Ok K.adds)))).plan.adds
            ≡ K.adds + adds_of (cond {A = Sketched (Result ℕ Reason)} t (leaves K (Err reason.TooManyPorts)) (cond u (leaves K (Err reason.NoRoom)) (leaves l (Ok K.adds)))).answer
        go true u l e = omega arith
        go false true l e = omega arith
        go false false l e = omega arith

    pub add_name : (k : ℕ) → (sketch.add_block K i o).answer ≡ Ok k → k ≡ K.adds
    unfolding sketch.add_block too_wide full
    add_name k = go too_wide full _
      where
        go : (t u : Bool) (l : Plan) →
            (cond {A = Sketched (Result ℕ Reason)} t (leaves K (Err reason.TooManyPorts)) (cond u (leaves K (Err reason.NoRoom)) (leaves l (Ok K.adds)))).answer ≡ Ok k →
            k ≡ K.adds
        go true u l q = absurd (zero_is_not_one (cc))
        go false true l q = absurd (zero_is_not_one (cc))
        go false false l q = cc

  -- every other call keeps the number
  same : {n : ℕ} → n ≡ K.adds → n ≡ K.adds + 0
  same e = omega arith

  pub call_adds_lem : (k : PlanCall) → (plan_step K k).plan.adds ≡ K.adds + call_adds k (plan_step K k).answer
  unfolding sketch.remove_block sketch.set_counts sketch.link_clean sketch.link_subports sketch.cut_port sketch.cut_subport sketch.tidy_port
  call_adds_lem (add_plan i o) = add_adds i o
  call_adds_lem (remove_plan n) = same (either_way (Kept K) (not (has_block K.blocks n)) refl refl)
  call_adds_lem (set_plan n i o) =
      same
      (either_way (Kept K) (not (leb (i + o) node_ports)) refl
      (either_way (Kept K) (not (has_block K.blocks n)) refl (either_way (Kept K) (ltb port_slots (ports_in_all (map (sketch.recount n i o) K.blocks))) refl refl)))
  call_adds_lem (link_plan x y) = same (links_adds x y)
  call_adds_lem (link_clean_plan x y) =
      same
      (either_way (Kept K) (not (is_there K x)) refl
      (either_way (Kept K) (input_taken K x y) refl
      (either_way (Kept K) (not (is_there K y)) refl (either_way (Kept K) (same_side x.side y.side) refl (either_way (Kept K) (sketch.is_full K) refl (twice_ready x y))))))
  call_adds_lem (link_sub_plan x o y r) =
      same
      (either_way (Kept K) (sketch.bad_offset o || sketch.bad_offset r) refl
      (either_way (Kept K) (not (is_there K x)) refl
      (either_way (Kept K) (lacks_offset K x o || cond (is_there K y) (lacks_offset K y r) false) refl
      (either_way (Kept K) (input_taken K x y) refl
      (either_way (Kept K) (not (is_there K y)) refl
      (either_way (Kept K) (same_side x.side y.side) refl
      (either_way (Kept K) (sketch.is_wired K x o || sketch.is_wired K y r) refl (either_way (Kept K) (sketch.is_full K) refl refl))))))))
  call_adds_lem (cut_plan x) = same (either_way (Kept K) (not (is_there K x)) refl (set_adds (with_wires K (without (at_spot (spot_named x)) K.wires)) x 0))
  call_adds_lem (cut_sub_plan x o) = same (either_way (λ (l : Plan). l.adds ≡ K.adds) (sketch.is_refused (sketch.subport_link K x o)) refl refl)
  call_adds_lem (tidy_plan x) =
      same
      (either_way (Kept K) (not (is_there K x)) refl
      (either_way (λ (l : Plan). l.adds ≡ K.adds) (eqb (subports_of K x) 0) refl (set_adds K x (sketch.tidied (above_wired (spot_named x) K.wires)))))

  -- a call accepts one add at the most
  pub one_add : (k : PlanCall) → (plan_step K k).plan.adds ≤ suc K.adds
  one_add k = let e = call_adds_lem k in let f = few k (plan_step K k).answer in omega arith
    where
      one : (v : Result ℕ Reason) → adds_of v ≤ 1
      one (Ok n) = omega arith
      one (Err r) = omega arith

      few : (k : PlanCall) (v : PlanAnswerOf k) → call_adds k v ≤ 1
      few (add_plan i o) v = one v
      few (remove_plan n) v = omega arith
      few (set_plan n i o) v = omega arith
      few (link_plan x y) v = omega arith
      few (link_clean_plan x y) v = omega arith
      few (link_sub_plan x o y r) v = omega arith
      few (cut_plan x) v = omega arith
      few (cut_sub_plan x o) v = omega arith
      few (tidy_plan x) v = omega arith

-- Sheets.

entries_adds : (K : Plan) (ps : List PlanEntry) → (sketch.sheet_plan K ps).adds ≡ K.adds
unfolding sketch.sheet_plan
entries_adds K [] = refl
entries_adds K (p ∷ ps) = entries_adds (sketch.link_ports K p.from p.to).plan ps ∙ links_adds K p.from p.to

sheet_adds : (K : Plan) (ps : List PlanEntry) → (sketch.sheet K ps).plan.adds ≡ K.adds
unfolding sketch.sheet
sheet_adds K ps = either_way (Kept K) (ltb sketch.sheet_entries (length ps)) refl (entries_adds K ps)

-- Histories.

item_adds_lem : (b : Both) (i : PairItem) → (next_item b i).plan.adds ≡ b.plan.adds + item_adds b i
item_adds_lem b (calls p) = call_adds_lem b.plan p.sketched
item_adds_lem b (sheets es ps) = same b.plan (sheet_adds b.plan ps)

after_adds : (b : Both) (items : List PairItem) → (after b items).plan.adds ≡ b.plan.adds + accepted_adds b items
after_adds b [] = omega arith
after_adds b (i ∷ items) = let e = item_adds_lem b i in let r = after_adds (next_item b i) items in omega arith

pub names_are_adds : (release : Release) (items : List PairItem) → (after (start release) items).plan.adds ≡ accepted_adds (start release) items
names_are_adds release items = let e = after_adds (start release) items in omega arith

pub added_name : (release : Release) (items : List PairItem) (i o k : ℕ) → (sketch.add_block (after (start release) items).plan i o).answer ≡ Ok k →
    k ≡ accepted_adds (start release) items
added_name release items i o k e = add_name (after (start release) items).plan i o k e ∙ names_are_adds release items
