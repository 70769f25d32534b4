-- What holds of a plan after every call: the limits, that a split port is there and stands once, and how high offsets are. It follows that there are
-- never more split ports than ports, and that an offset fits 16 bits.
use Rattle.std.proofs.lemmas.List.{length-map}
use Rattle.std.specs.Prelude.{◌≡◌, refl, Bool, true, false, cond, not, List, [], ◌∷◌, ◌++◌, map, ℕ, suc, ◌≤◌, ◌<◌, eqb, length}
use Rattle.std.proofs.Common.{sym, ◌∙◌, subst, ⊎_elim, arith, length-append, eqb-true, eq-eqb, ltb-true}
use Rattle.std.proofs.lemmas.Bool.{not-true, true≢false}
use Rattle.port_tables.specs.Lists.{range, Member, Rising}
use Rattle.std.specs.List.{filter}
use Rattle.port_tables.specs.Limits.{node_slots, port_slots}
use Rattle.port_tables.specs.Entries.{same_side, new_count}
use Rattle.port_tables.specs.declared.direction.Direction.{Direction}
use Rattle.port_tables.specs.declared.direction.Direction.TheVariants.{Incoming, Outgoing}
use Rattle.port_tables.specs.Places.{Place, Wire, Spot, spot, at_spot}
use Rattle.port_tables.specs.Listing.{member_left, member_right, member_filter, member_map, map_member, range_member, rising_filter, rising_map, Apart, partners, length_range}
use Rattle.sketches.specs.Plan.{PlanBlock, Plan, with_splits, ports_on_side, ports_in_all, spot_named, is_there, subports_of, set_subports}
use Rattle.sketches.specs.PlanCalls.{most_wires}
use Rattle.sketches.specs.declared.sketch.SketchPort.{SketchPort}

-- the most subports of a port: an offset that is made ready is at most the number of wires
abbrev pub most_subports : ℕ
most_subports = suc most_wires

abbrev pub spot_at : Place → Spot
spot_at x = spot x.node x.side x.pos

abbrev pub Elsewhere : Place → Place → Type 0
Elsewhere x y = spot_at x ≡ spot_at y → ⊥

pub record PlanWf (K : Plan) : Type 0 where
  pub blocks : length K.blocks ≤ node_slots
  pub ports : ports_in_all K.blocks ≤ port_slots
  pub wires : length K.wires ≤ most_wires
  pub named : (b : PlanBlock) → Member b K.blocks → b.name < K.adds
  pub there : (x : Place) → Member x K.splits → x.pos < ports_on_side K.blocks x.node x.side
  pub apart : Rising Elsewhere K.splits
  pub subports : (x : Place) → Member x K.splits → x.offset ≤ most_subports
  pub offsets : (w : Wire) → Member w K.wires → (w.out.offset < most_subports) × (w.into.offset < most_subports)

-- No more split ports than ports.

spots_of : List PlanBlock → List Spot
spots_of [] = []
spots_of (b ∷ l) = map (spot b.name Incoming) (range 0 b.incoming) ++ (map (spot b.name Outgoing) (range 0 b.outgoing) ++ spots_of l)

length_spots : (l : List PlanBlock) → length (spots_of l) ≡ ports_in_all l
unfolding spots_of ports_in_all
length_spots [] = refl
length_spots (b ∷ l) =
    let e = length-append (map (spot b.name Incoming) (range 0 b.incoming)) (map (spot b.name Outgoing) (range 0 b.outgoing) ++ spots_of l) in
    let f = length-append (map (spot b.name Outgoing) (range 0 b.outgoing)) (spots_of l) in
    let i = length-map (range 0 b.incoming) (spot b.name Incoming) ∙ length_range 0 b.incoming in
    let o = length-map (range 0 b.outgoing) (spot b.name Outgoing) ∙ length_range 0 b.outgoing in
    let k = length_spots l in
    omega arith

spot_listed : (l : List PlanBlock) (n : ℕ) (d : Direction) (i : ℕ) → i < ports_on_side l n d → Member (spot n d i) (spots_of l)
unfolding spots_of ports_on_side
spot_listed [] n d i h = absurd (omega arith)
spot_listed (b ∷ l) n d i h = go (eqb b.name n) refl h (spot_listed l n d i)
  where
    own : (d : Direction) → b.name ≡ n → i < new_count b.incoming b.outgoing d →
        Member (spot n d i) (map (spot b.name Incoming) (range 0 b.incoming) ++ (map (spot b.name Outgoing) (range 0 b.outgoing) ++ spots_of l))
    own Incoming e k =
        member_left (spot n Incoming i) (map (spot b.name Incoming) (range 0 b.incoming)) (map (spot b.name Outgoing) (range 0 b.outgoing) ++ spots_of l)
        (subst (λ (m : ℕ). Member (spot m Incoming i) (map (spot b.name Incoming) (range 0 b.incoming))) e (map_member (spot b.name Incoming) i (range 0 b.incoming) (range_member i 0 b.incoming (omega arith) (omega arith))))
    own Outgoing e k =
        member_right (spot n Outgoing i) (map (spot b.name Incoming) (range 0 b.incoming)) (map (spot b.name Outgoing) (range 0 b.outgoing) ++ spots_of l)
        (member_left (spot n Outgoing i) (map (spot b.name Outgoing) (range 0 b.outgoing)) (spots_of l)
        (subst (λ (m : ℕ). Member (spot m Outgoing i) (map (spot b.name Outgoing) (range 0 b.outgoing))) e (map_member (spot b.name Outgoing) i (range 0 b.outgoing) (range_member i 0 b.outgoing (omega arith) (omega arith)))))

    go : (t : Bool) → eqb b.name n ≡ t → i < cond t (new_count b.incoming b.outgoing d) (ports_on_side l n d) → (i < ports_on_side l n d → Member (spot n d i) (spots_of l)) →
        Member (spot n d i) (map (spot b.name Incoming) (range 0 b.incoming) ++ (map (spot b.name Outgoing) (range 0 b.outgoing) ++ spots_of l))
    go true e k rest = own d (eqb-true b.name n e) k
    go false e k rest =
        member_right (spot n d i) (map (spot b.name Incoming) (range 0 b.incoming)) (map (spot b.name Outgoing) (range 0 b.outgoing) ++ spots_of l)
        (member_right (spot n d i) (map (spot b.name Outgoing) (range 0 b.outgoing)) (spots_of l) (rest k))

pub splits_fit : (K : Plan) → PlanWf K → length K.splits ≤ port_slots
splits_fit K wf =
    let a = length-map K.splits spot_at in
    let b = length_spots K.blocks in
    let p = wf.ports in
    let h = partners {A = Spot} {B = Spot} (λ x y. x ≡ y) (λ x z y e f. e ∙ sym f) (map spot_at K.splits) (spots_of K.blocks)
    (rising_map Elsewhere Apart spot_at K.splits wf.apart (λ x y i j r. r))
    (λ x i. let g = member_map spot_at x K.splits i in (x, subst (λ y. Member y (spots_of K.blocks)) (sym g.2) (spot_listed K.blocks g.0.node g.0.side g.0.pos (wf.there g.0 g.1)), refl)) in
    omega arith

-- Another number of subports.

pub at_own_spot : (x : Place) (p : SketchPort) → spot_at x ≡ spot_named p → at_spot (spot_named p) x ≡ true
unfolding at_spot
at_own_spot x p e = subst (λ (s : Spot). at_spot s x ≡ true) e (rw (eq-eqb x.node x.node refl) (own x.side))
  where
    own : (d : Direction) → cond (same_side d d) (eqb x.pos x.pos) false ≡ true
    own Incoming = eq-eqb x.pos x.pos refl
    own Outgoing = eq-eqb x.pos x.pos refl

-- the list of the split ports with another number at one of them
abbrev pub splits_set : List Place → SketchPort → ℕ → List Place
splits_set l p c =
    cond (eqb c 0) (filter (λ s. not (at_spot (spot_named p) s)) l)
    (record { node = p.block; side = p.side; pos = p.position; offset = c } ∷ filter (λ s. not (at_spot (spot_named p) s)) l)

with_splits_wf : (K : Plan) (p : SketchPort) (c : ℕ) → PlanWf K → is_there K p ≡ true → c ≤ most_subports → (b : Bool) →
    PlanWf (with_splits K (cond b (filter (λ s. not (at_spot (spot_named p) s)) K.splits) (record { node = p.block; side = p.side; pos = p.position; offset = c } ∷ filter (λ s. not (at_spot (spot_named p) s)) K.splits)))
unfolding is_there
with_splits_wf K p c wf h k true =
    record {
      blocks = wf.blocks;
      ports = wf.ports;
      wires = wf.wires;
      named = wf.named;
      there = λ x i. wf.there x (member_filter (λ s. not (at_spot (spot_named p) s)) x K.splits i).0;
      apart = rising_filter Elsewhere (λ s. not (at_spot (spot_named p) s)) K.splits wf.apart;
      subports = λ x i. wf.subports x (member_filter (λ s. not (at_spot (spot_named p) s)) x K.splits i).0;
      offsets = wf.offsets;
    }
with_splits_wf K p c wf h k false =
    record {
      blocks = wf.blocks;
      ports = wf.ports;
      wires = wf.wires;
      named = wf.named;
      there = λ x i. ⊎_elim
          (λ e. subst (λ (y : Place). y.pos < ports_on_side K.blocks y.node y.side) (sym e) (ltb-true p.position (ports_on_side K.blocks p.block p.side) h))
          (λ j. wf.there x (member_filter (λ s. not (at_spot (spot_named p) s)) x K.splits j).0) i;
      apart = (
        (λ x i e. true≢false (sym (at_own_spot x p (sym e)) ∙ not-true (at_spot (spot_named p) x) (member_filter (λ s. not (at_spot (spot_named p) s)) x K.splits i).1)),
        rising_filter Elsewhere (λ s. not (at_spot (spot_named p) s)) K.splits wf.apart,
      );
      subports = λ x i. ⊎_elim (λ e. subst (λ (y : Place). y.offset ≤ most_subports) (sym e) k) (λ j. wf.subports x (member_filter (λ s. not (at_spot (spot_named p) s)) x K.splits j).0) i;
      offsets = wf.offsets;
    }

pub subports_wf : (K : Plan) (p : SketchPort) (c : ℕ) → PlanWf K → is_there K p ≡ true → c ≤ most_subports → PlanWf (set_subports K p c)
subports_wf K p c wf h k = go (eqb (subports_of K p) c)
  where
    go : (b : Bool) → PlanWf (cond b K (with_splits K (splits_set K.splits p c)))
    go true = wf
    go false = with_splits_wf K p c wf h k (eqb c 0)
