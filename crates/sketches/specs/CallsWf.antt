-- Every call keeps what holds of a plan.
use Rattle.std.proofs.lemmas.List.{length-map}
use Rattle.std.proofs.Math.Path.{◌≡◌, refl, ap}
use Rattle.std.proofs.Common.{sym, ◌∙◌, subst, inl, inr, ⊎_elim, arith}
use Rattle.std.specs.Prelude.{Bool, not, ◌||◌, ℕ, zero, suc, ◌+◌, ◌≤◌, ◌<◌, max, leb, ltb, length, Result, Ok, Err}
use Rattle.std.proofs.Math.Bool.{true, false, cond}
use mathlib.Core.List.{List, [], ◌∷◌, map}
use Rattle.std.proofs.Math.Dec.{eqb}
use borrow.Author.Tests.{eqb-true, eqb-false, eq-eqb, ne_eqb, leb-false, ltb-false, not-true}
use Rattle.port_tables.specs.Lists.{Member}
use Rattle.std.specs.List.{filter}
use Rattle.port_tables.specs.Limits.{node_slots, port_slots, node_ports}
use Rattle.port_tables.specs.Entries.{new_count}
use Rattle.port_tables.specs.declared.direction.Direction.{Direction}
use Rattle.port_tables.specs.declared.direction.Direction.TheVariants.{Incoming, Outgoing}
use Rattle.port_tables.specs.Places.{Place, Wire, Spot, at_spot, at_end, of_node, of_dropped, touches, wire_of_sides, without, any_touches, lowest_unwired}
use Rattle.port_tables.specs.Listing.{member_filter, member_map, rising_filter, filter_shorter}
use Rattle.sketches.specs.Plan.{PlanBlock, Plan, with_splits, with_wires, has_block, ports_on_side, ports_in_all, spot_named, is_there, subports_among, subports_of, set_subports, offset_read, lacks_offset, place_named, above_end, above_wired, offset_ready, subports_ready, ready}
use Rattle.sketches.specs.PlanCalls.{most_adds, most_wires, Sketched, leaves, add_block, remove_block, recount, set_counts, with_wire, both_linked, tidied}
use Rattle.sketches.specs.PlanWf.{PlanWf, most_subports, Elsewhere, subports_wf}
use Rattle.sketches.specs.declared.sketch.SketchPort.{SketchPort}
use Rattle.sketches.specs.declared.sketch.Reason.{Reason}
use Rattle.sketches.specs.declared.sketch.Reason.TheVariants.{TooManyPorts, UnknownBlock, NoRoom}

-- Blocks.

unnamed : (l : List PlanBlock) (n : ℕ) (d : Direction) → ((b : PlanBlock) → Member b l → b.name < n) → ports_on_side l n d ≡ 0
unfolding ports_on_side
unnamed [] n d h = refl
unnamed (b ∷ l) n d h = let k = h b (inl refl) in rw (ne_eqb b.name n (λ e. omega arith)) (unnamed l n d (λ c i. h c (inr i)))

pub add_wf : (K : Plan) (i o : ℕ) → PlanWf K → PlanWf (add_block K i o).plan
unfolding add_block ports_in_all ports_on_side
add_wf K i o wf = go (not (leb (i + o) node_ports)) (leb most_adds K.adds) (leb node_slots (length K.blocks)) refl (ltb port_slots (ports_in_all K.blocks + (i + o))) refl
  where
    new : PlanBlock
    new = record { name = K.adds; incoming = i; outgoing = o }

    grown : Plan
    grown = record { release = K.release; adds = suc K.adds; blocks = new ∷ K.blocks; splits = K.splits; wires = K.wires }

    go : (a b c : Bool) → leb node_slots (length K.blocks) ≡ c → (d : Bool) → ltb port_slots (ports_in_all K.blocks + (i + o)) ≡ d →
        PlanWf (cond a (leaves K (Err TooManyPorts)) (cond (b || (c || d)) (leaves K (Err NoRoom)) (leaves grown (Ok K.adds)))).plan
    go true b c p d q = wf
    go false true c p d q = wf
    go false false true p d q = wf
    go false false false p true q = wf
    go false false false p false q =
        let h = leb-false node_slots (length K.blocks) p in
        let k = ltb-false port_slots (ports_in_all K.blocks + (i + o)) q in
        record {
          blocks = omega arith;
          ports = omega arith;
          wires = wf.wires;
          named = λ b j. ⊎_elim (λ e. subst (λ (x : PlanBlock). x.name < suc K.adds) (sym e) (omega arith)) (λ m. let l = wf.named b m in omega arith) j;
          there = λ x j.
              let l = wf.there x j in
              let u = unnamed K.blocks K.adds x.side wf.named in
              let e : (K.adds ≡ x.node) → ⊥ = λ e. (let v : ports_on_side K.blocks x.node x.side ≡ 0 = subst (λ (n : ℕ). ports_on_side K.blocks n x.side ≡ 0) e u in omega arith) in
              rw (ne_eqb K.adds x.node e) l;
          apart = wf.apart;
          subports = wf.subports;
          offsets = wf.offsets;
        }

fewer_ports : (f : PlanBlock → Bool) (l : List PlanBlock) → ports_in_all (filter f l) ≤ ports_in_all l
unfolding ports_in_all
fewer_ports f [] = omega arith
fewer_ports f (b ∷ l) = go (f b) (fewer_ports f l)
  where
    go : (t : Bool) → ports_in_all (filter f l) ≤ ports_in_all l → ports_in_all (cond t (b ∷ filter f l) (filter f l)) ≤ b.incoming + b.outgoing + ports_in_all l
    go true h = omega arith
    go false h = omega arith

pub other_ports : (l : List PlanBlock) (n m : ℕ) (d : Direction) → (m ≡ n → ⊥) → ports_on_side (filter (λ (b : PlanBlock). not (eqb b.name n)) l) m d ≡ ports_on_side l m d
unfolding ports_on_side
other_ports [] n m d h = refl
other_ports (b ∷ l) n m d h = go (eqb b.name n) refl (other_ports l n m d h)
  where
    go : (t : Bool) → eqb b.name n ≡ t → ports_on_side (filter (λ (b : PlanBlock). not (eqb b.name n)) l) m d ≡ ports_on_side l m d →
        ports_on_side (cond (not t) (b ∷ filter (λ (b : PlanBlock). not (eqb b.name n)) l) (filter (λ (b : PlanBlock). not (eqb b.name n)) l)) m d
        ≡ cond (eqb b.name m) (new_count b.incoming b.outgoing d) (ports_on_side l m d)
    go true p e = let q = eqb-true b.name n p in rw (ne_eqb b.name m (λ s. h (sym s ∙ q))) e
    go false p e = ap (cond (eqb b.name m) (new_count b.incoming b.outgoing d)) e

-- what stays of the wires and of the split ports
pub kept_offsets : (f : Wire → Bool) (l : List Wire) → ((w : Wire) → Member w l → (w.out.offset < most_subports) × (w.into.offset < most_subports)) →
    (w : Wire) → Member w (filter f l) → (w.out.offset < most_subports) × (w.into.offset < most_subports)
kept_offsets f l h w i = h w (member_filter f w l i).0

-- a plan without a block
abbrev pub block_gone : Plan → ℕ → Plan
block_gone K n =
    record {
      release = K.release;
      adds = K.adds;
      blocks = filter (λ (b : PlanBlock). not (eqb b.name n)) K.blocks;
      splits = filter (λ (s : Place). not (of_node n s)) K.splits;
      wires = without (of_node n) K.wires;
    }

pub remove_wf : (K : Plan) (n : ℕ) → PlanWf K → PlanWf (remove_block K n).plan
unfolding remove_block
remove_wf K n wf = go (not (has_block K.blocks n))
  where
    go : (b : Bool) → PlanWf (cond {A = Sketched (Result (Unit {0}) Reason)} b (leaves K (Err UnknownBlock)) (leaves (block_gone K n) (Ok tt))).plan
    go true = wf
    go false =
        let a = filter_shorter (λ (b : PlanBlock). not (eqb b.name n)) K.blocks in
        let b = fewer_ports (λ (b : PlanBlock). not (eqb b.name n)) K.blocks in
        let c = filter_shorter (λ w. not (touches (of_node n) w)) K.wires in
        let x = wf.blocks in
        let y = wf.ports in
        let z = wf.wires in
        record {
          blocks = omega arith;
          ports = omega arith;
          wires = omega arith;
          named = λ b i. wf.named b (member_filter (λ (b : PlanBlock). not (eqb b.name n)) b K.blocks i).0;
          there = λ s i.
              let m = member_filter (λ (s : Place). not (of_node n s)) s K.splits i in
              rw (other_ports K.blocks n s.node s.side (eqb-false s.node n (not-true (of_node n s) m.1))) (wf.there s m.0);
          apart = rising_filter Elsewhere (λ (s : Place). not (of_node n s)) K.splits wf.apart;
          subports = λ s i. wf.subports s (member_filter (λ (s : Place). not (of_node n s)) s K.splits i).0;
          offsets = kept_offsets (λ w. not (touches (of_node n) w)) K.wires wf.offsets;
        }

module _ (n i o : ℕ) where
  recount_other : (l : List PlanBlock) (m : ℕ) (d : Direction) → (m ≡ n → ⊥) → ports_on_side (map (recount n i o) l) m d ≡ ports_on_side l m d
  unfolding ports_on_side
  recount_other [] m d h = refl
  recount_other (b ∷ l) m d h = go (eqb b.name n) refl (recount_other l m d h)
    where
      go : (t : Bool) → eqb b.name n ≡ t → ports_on_side (map (recount n i o) l) m d ≡ ports_on_side l m d →
          ports_on_side (cond t (record { name = n; incoming = i; outgoing = o }) b ∷ map (recount n i o) l) m d ≡ cond (eqb b.name m) (new_count b.incoming b.outgoing d) (ports_on_side l m d)
      go true p e = let q = eqb-true b.name n p in rw (ne_eqb n m (λ s. h (sym s)), ne_eqb b.name m (λ s. h (sym s ∙ q))) e
      go false p e = ap (cond (eqb b.name m) (new_count b.incoming b.outgoing d)) e

  recount_own : (l : List PlanBlock) (d : Direction) → has_block l n ≡ true → ports_on_side (map (recount n i o) l) n d ≡ new_count i o d
  unfolding ports_on_side has_block
  recount_own [] d h = absurd (let z : ◌≡◌ {A = ℕ} 0 1 = cc in omega arith)
  recount_own (b ∷ l) d h = go (eqb b.name n) refl h (recount_own l d)
    where
      go : (t : Bool) → eqb b.name n ≡ t → cond t true (has_block l n) ≡ true → (has_block l n ≡ true → ports_on_side (map (recount n i o) l) n d ≡ new_count i o d) →
          ports_on_side (cond t (record { name = n; incoming = i; outgoing = o }) b ∷ map (recount n i o) l) n d ≡ new_count i o d
      go true p k rest = rw (eq-eqb n n refl)
      go false p k rest = rw p (rest k)

  recount_named : (l : List PlanBlock) (a : ℕ) → ((b : PlanBlock) → Member b l → b.name < a) → (b : PlanBlock) → Member b (map (recount n i o) l) → b.name < a
  recount_named l a h b j =
      let g = member_map (recount n i o) b l j in
      let k = h g.0 g.1 in
      subst (λ (x : PlanBlock). x.name < a) (sym g.2) (go g.0 (eqb g.0.name n) refl k)
    where
      go : (x : PlanBlock) (t : Bool) → eqb x.name n ≡ t → x.name < a → (cond t (record { name = n; incoming = i; outgoing = o }) x).name < a
      go x true p k = let e = eqb-true x.name n p in omega arith
      go x false p k = k

-- a plan with other counts of a block
abbrev pub block_resized : Plan → ℕ → ℕ → ℕ → Plan
block_resized K n i o =
    record {
      release = K.release;
      adds = K.adds;
      blocks = map (recount n i o) K.blocks;
      splits = filter (λ (s : Place). not (of_dropped n i o s)) K.splits;
      wires = without (of_dropped n i o) K.wires;
    }

pub resize_wf : (K : Plan) (n i o : ℕ) → PlanWf K → PlanWf (set_counts K n i o).plan
unfolding set_counts
resize_wf K n i o wf = go (not (leb (i + o) node_ports)) (has_block K.blocks n) refl (ltb port_slots (ports_in_all (map (recount n i o) K.blocks))) refl
  where
    go : (a b : Bool) → has_block K.blocks n ≡ b → (c : Bool) → ltb port_slots (ports_in_all (map (recount n i o) K.blocks)) ≡ c →
        PlanWf (cond {A = Sketched (Result (Unit {0}) Reason)} a (leaves K (Err TooManyPorts)) (cond (not b) (leaves K (Err UnknownBlock)) (cond c (leaves K (Err NoRoom)) (leaves (block_resized K n i o) (Ok tt))))).plan
    go true b p c q = wf
    go false false p c q = wf
    go false true p true q = wf
    go false true p false q =
        let a = length-map K.blocks (recount n i o) in
        let k = ltb-false port_slots (ports_in_all (map (recount n i o) K.blocks)) q in
        let c = filter_shorter (λ w. not (touches (of_dropped n i o) w)) K.wires in
        let x = wf.blocks in
        let z = wf.wires in
        record {
          blocks = omega arith;
          ports = k;
          wires = omega arith;
          named = recount_named n i o K.blocks K.adds wf.named;
          there = λ s j.
              let m = member_filter (λ (s : Place). not (of_dropped n i o s)) s K.splits j in
              left s (wf.there s m.0) (eqb s.node n) refl (not-true (of_dropped n i o s) m.1);
          apart = rising_filter Elsewhere (λ (s : Place). not (of_dropped n i o s)) K.splits wf.apart;
          subports = λ s j. wf.subports s (member_filter (λ (s : Place). not (of_dropped n i o s)) s K.splits j).0;
          offsets = kept_offsets (λ w. not (touches (of_dropped n i o) w)) K.wires wf.offsets;
        }
      where
        left : (s : Place) → s.pos < ports_on_side K.blocks s.node s.side → (t : Bool) → eqb s.node n ≡ t → cond t (leb (new_count i o s.side) s.pos) false ≡ false →
            s.pos < ports_on_side (map (recount n i o) K.blocks) s.node s.side
        left s l true e f =
            subst (λ (m : ℕ). s.pos < ports_on_side (map (recount n i o) K.blocks) m s.side) (sym (eqb-true s.node n e))
            (rw (recount_own n i o K.blocks s.side p) (leb-false (new_count i o s.side) s.pos f))
        left s l false e f = rw (recount_other n i o K.blocks s.node s.side (eqb-false s.node n e)) l

-- Making an end ready.

pub lowest_within : (l : List Wire) (s : Spot) (o n : ℕ) → lowest_unwired l s o n ≤ o + n
unfolding lowest_unwired
lowest_within l s o zero = omega arith
lowest_within l s o (suc n) = go (any_touches (at_end s o) l) (lowest_within l s (suc o) n)
  where
    go : (b : Bool) → lowest_unwired l s (suc o) n ≤ suc o + n → cond b (lowest_unwired l s (suc o) n) o ≤ o + suc n
    go true h = omega arith
    go false h = omega arith

-- there are at most as many wired offsets as wires
pub offset_within : (K : Plan) (x : SketchPort) → offset_ready K x ≤ length K.wires
offset_within K x = let h = lowest_within K.wires (spot_named x) 0 (length K.wires) in omega arith

pub subports_among_lem : (l : List Place) (s : Spot) → ((x : Place) → Member x l → x.offset ≤ most_subports) → subports_among l s ≤ most_subports
unfolding subports_among
subports_among_lem [] s h = omega arith
subports_among_lem (x ∷ l) s h = go (at_spot s x) (subports_among_lem l s (λ y i. h y (inr i)))
  where
    go : (b : Bool) → subports_among l s ≤ most_subports → cond b x.offset (subports_among l s) ≤ most_subports
    go true k = h x (inl refl)
    go false k = k

pub subports_within : (K : Plan) (x : SketchPort) → PlanWf K → subports_of K x ≤ most_subports
subports_within K x wf = subports_among_lem K.splits (spot_named x) wf.subports

pub ready_within : (c o : ℕ) → c ≤ most_subports → o ≤ most_wires → subports_ready c o ≤ most_subports
ready_within c o h k = go (eqb c 0) (eqb o 0)
  where
    go : (a b : Bool) → cond a (cond b 0 2) (max c (suc o)) ≤ most_subports
    go true true = omega arith
    go true false = omega arith
    go false b = omega arith

pub ready_wf : (K : Plan) (x : SketchPort) → PlanWf K → is_there K x ≡ true → PlanWf (ready K x)
unfolding ready
ready_wf K x wf h =
    let o = offset_within K x in
    let w = wf.wires in
    subports_wf K x (subports_ready (subports_of K x) (offset_ready K x)) wf h (ready_within (subports_of K x) (offset_ready K x) (subports_within K x wf) (omega arith))

-- nothing but the split ports changes
set_same : {A : Type 0} (f : Plan → A) (K : Plan) (x : SketchPort) (c : ℕ) → ((l : List Place) → f (with_splits K l) ≡ f K) → f (set_subports K x c) ≡ f K
set_same {A} f K x c h = go (eqb (subports_of K x) c)
  where
    go : (b : Bool) → f (cond b K (with_splits K (cond (eqb c 0) (filter (λ s. not (at_spot (spot_named x) s)) K.splits) (record { node = x.block; side = x.side; pos = x.position; offset = c } ∷ filter (λ s. not (at_spot (spot_named x) s)) K.splits)))) ≡ f K
    go true = refl
    go false = h (cond (eqb c 0) (filter (λ s. not (at_spot (spot_named x) s)) K.splits) (record { node = x.block; side = x.side; pos = x.position; offset = c } ∷ filter (λ s. not (at_spot (spot_named x) s)) K.splits))

pub ready_wires : (K : Plan) (x : SketchPort) → (ready K x).wires ≡ K.wires
unfolding ready
ready_wires K x = set_same (λ k. k.wires) K x (subports_ready (subports_of K x) (offset_ready K x)) (λ l. refl)

pub ready_there : (K : Plan) (x y : SketchPort) → is_there (ready K x) y ≡ is_there K y
unfolding ready is_there
ready_there K x y = set_same (λ k. is_there k y) K x (subports_ready (subports_of K x) (offset_ready K x)) (λ l. refl)

-- One more wire.

pub wire_wf : (K : Plan) (x : SketchPort) (o : ℕ) (y : SketchPort) (r : ℕ) → PlanWf K → length K.wires < most_wires → o < most_subports → r < most_subports → PlanWf (with_wire K x o y r)
wire_wf K x o y r wf h a b =
    record {
      blocks = wf.blocks;
      ports = wf.ports;
      wires = h;
      named = wf.named;
      there = wf.there;
      apart = wf.apart;
      subports = wf.subports;
      offsets = λ w i. ⊎_elim (λ e. subst (λ (v : Wire). (v.out.offset < most_subports) × (v.into.offset < most_subports)) (sym e) (own x.side)) (wf.offsets w) i;
    }
  where
    own : (d : Direction) → ((wire_of_sides d (place_named x o) (place_named y r)).out.offset < most_subports) × ((wire_of_sides d (place_named x o) (place_named y r)).into.offset < most_subports)
    own Incoming = (b, a)
    own Outgoing = (a, b)

pub linked_wf : (K : Plan) (x y : SketchPort) → PlanWf K → is_there K x ≡ true → is_there K y ≡ true → length K.wires < most_wires → PlanWf (both_linked K x y).plan
linked_wf K x y wf h k l =
    let a = offset_within K x in
    let b = offset_within K y in
    let e = ap length (ready_wires (ready K x) y ∙ ready_wires K x) in
    wire_wf (ready (ready K x) y) x (offset_ready K x) y (offset_ready K y) (ready_wf (ready K x) y (ready_wf K x wf h) (ready_there K x y ∙ k)) (omega arith) (omega arith) (omega arith)

-- an offset as read
pub read_within : (K : Plan) (x : SketchPort) (o : ℕ) → PlanWf K → lacks_offset K x o ≡ false → offset_read K x o < most_subports
read_within K x o wf h = go (eqb (subports_of K x) 0) refl h
  where
    go : (b : Bool) → eqb (subports_of K x) 0 ≡ b → cond b false (leb (subports_of K x) o) ≡ false → cond b 0 o < most_subports
    go true p q = omega arith
    go false p q = let l = leb-false (subports_of K x) o q in let w = subports_within K x wf in omega arith

-- Fewer wires.

pub cut_wf : (K : Plan) (f : Place → Bool) → PlanWf K → PlanWf (with_wires K (without f K.wires))
cut_wf K f wf =
    let c = filter_shorter (λ w. not (touches f w)) K.wires in
    let z = wf.wires in
    record {
      blocks = wf.blocks;
      ports = wf.ports;
      wires = omega arith;
      named = wf.named;
      there = wf.there;
      apart = wf.apart;
      subports = wf.subports;
      offsets = kept_offsets (λ w. not (touches f w)) K.wires wf.offsets;
    }

-- Tidying.

above_end_within : (s : Spot) (x : Place) (n : ℕ) → x.offset < most_subports → n ≤ most_subports → above_end s x n ≤ most_subports
above_end_within s x n h k = go (at_spot s x)
  where
    go : (b : Bool) → cond b (max (suc x.offset) n) n ≤ most_subports
    go true = omega arith
    go false = k

above_among : (s : Spot) (l : List Wire) → ((w : Wire) → Member w l → (w.out.offset < most_subports) × (w.into.offset < most_subports)) → above_wired s l ≤ most_subports
unfolding above_wired
above_among s [] h = omega arith
above_among s (w ∷ l) h =
    let k = h w (inl refl) in
    above_end_within s w.out (above_end s w.into (above_wired s l)) k.0 (above_end_within s w.into (above_wired s l) k.1 (above_among s l (λ v i. h v (inr i))))

pub above_within : (K : Plan) (x : SketchPort) → PlanWf K → above_wired (spot_named x) K.wires ≤ most_subports
above_within K x wf = above_among (spot_named x) K.wires wf.offsets

pub tidied_within : (n : ℕ) → n ≤ most_subports → tidied n ≤ most_subports
tidied_within n h = go (leb n 1)
  where
    go : (b : Bool) → cond b 0 n ≤ most_subports
    go true = omega arith
    go false = h
