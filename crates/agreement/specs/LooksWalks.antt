-- What each walk lists is alike, from the relation; with it, all that both look like.
use Rattle.std.specs.Prelude.{◌≡◌, Bool, true, false, cond, not, eqb}
use Rattle.std.proofs.Math.Path.{refl, ap}
use Rattle.std.proofs.Common.{sym, ◌∙◌, subst, arith, eqb-true, eq-eqb}
use mathlib.Core.List.{List, [], ◌∷◌, ◌++◌, map, flat_map}
use Prim.Native.Nat.{ℕ, zero, suc, ◌+◌, ◌<◌}
use Rattle.port_tables.specs.Lists.{Member, range}
use Rattle.port_tables.specs.Entries.{ports_on, same_side}
use Rattle.portgraph.specs.Lookups.{num_ports}
use Rattle.portgraph.specs.Model.{Model, Slots, slot_of, count_of}
use Rattle.portgraph.specs.Sums.{same_side_true}
use Rattle.port_tables.specs.declared.direction.Direction.{Direction}
use Rattle.port_tables.specs.declared.direction.Direction.TheVariants.{Incoming, Outgoing}
use Rattle.port_tables.specs.declared.sides.Sides.{Sides}
use Rattle.port_tables.specs.declared.sides.Sides.TheVariants.{One, Both}
use Rattle.multiportgraph.specs.Ends.{port_of_lem, split_has_subports}
use Rattle.multiportgraph.specs.HiddenStays.{true_not_false}
use Rattle.multiportgraph.specs.WellFormed.{inner#, Seen}
use Rattle.port_tables.specs.Places.{Place, Wire, spot, at_spot, touches, end_on, far_from}
use Rattle.multiportgraph.specs.Reading.{is_split, subports, port_of}
use Rattle.multi_tables.specs.Forms.{subport#}
use Rattle.multiportgraph.specs.WalkRule.{walked_is_wires, walked_once}
use Rattle.multiportgraph.specs.Walks.{port_links, node_links, neighbours, connections, subports_of}
use Rattle.multiportgraph.specs.Wires.{wires_walked, ports_of_side, subports_of_port, subports_of_side}
use Rattle.multiportgraph.specs.declared.multiportgraph.MultiPortGraph.{MultiPortGraph}
use Rattle.multi_tables.specs.declared.answers.SubportLink.{SubportLink}
use Rattle.theorems.specs.ListingClaims.{wire_from, Exactly, InBook, OverSides, OutOfRange, NotOwnOutput, FarNodes}
use Rattle.theorems.proofs.ListingWires.{port_listing, node_listing, neighbours_listing, connections_listing, over_sides}
use Rattle.theorems.proofs.WireRule.{spot_at}
use Rattle.sketches.specs.Plan as plan
use Rattle.sketches.specs.Plan.{spot_named, ports_on_side, end#}
use Rattle.sketches.specs.PlanLists as listed
use Rattle.sketches.specs.PlanLists.{is_own_output, offsets_of, port_on}
use Rattle.sketches.specs.declared.sketch.SketchPort.{SketchPort}
use Rattle.agreement.specs.Meaning as meaning
use Rattle.agreement.specs.Meaning.{Naming}
use Rattle.agreement.specs.Agreement.{EndMeans, WiresAlike, SamePort, SameBlock, FarAlike, Alongside, LooksAlike}
use Rattle.agreement.specs.Alike.{Alike, name_of, wire_renamed}
use Rattle.agreement.specs.Names.{naming, WireNamed, named_eqb, same_spot, same_touches}
use Rattle.agreement.specs.Standing.{BlockHere, block_here, PortHere, here#, port_there, wires_named, subports_here, whole_here}
use Rattle.agreement.specs.Asked.{asked_alike}
use Rattle.agreement.specs.Looks.{exactly_alike, passing, passing_too, plan_once}
use Rattle.agreement.specs.LooksCounts.{same_nodes_count, same_side_ports, same_ports_count, same_links_count, same_fan_out, same_block_fan_out, starts_at_port_lem, starts_at_block_lem, starts_between_lem, same_blocks}
use Rattle.multiportgraph.specs.ScanLaws.{flat_map_map}

-- Lists that go along with each other.

module _ {A B : Type 0} (R : A → B → Type 0) where
  along_append : (a c : List A) (b d : List B) → Alongside R a b → Alongside R c d → Alongside R (a ++ c) (b ++ d)
  along_append [] c [] d p q = q
  along_append [] c (y ∷ b) d p q = absurd p
  along_append (x ∷ a) c [] d p q = absurd p
  along_append (x ∷ a) c (y ∷ b) d p q = (p.0, along_append a c b d p.1 q)

  along_gather : (f : ℕ → List A) (g : ℕ → List B) (i n : ℕ) → ((j : ℕ) → j < i + n → Alongside R (f j) (g j)) → Alongside R (flat_map f (range i n)) (flat_map g (range i n))
  unfolding flat_map range
  along_gather f g i zero h = tt
  along_gather f g i (suc n) h =
      along_append (f i) (flat_map f (range (suc i) n)) (g i) (flat_map g (range (suc i) n)) (h i (omega arith)) (along_gather f g (suc i) n (λ j l. h j (omega arith)))

  along_map : (f : ℕ → A) (g : ℕ → B) (i n : ℕ) → ((j : ℕ) → R (f j) (g j)) → Alongside R (map f (range i n)) (map g (range i n))
  unfolding range
  along_map f g i zero h = tt
  along_map f g i (suc n) h = (h i, along_map f g (suc i) n h)

-- an end on a side is named
end_named_lem : (d : Direction) (l : List Naming) (w : Wire) → WireNamed l w → (k : ℕ) × Member (naming (end_on d w).node k) l
end_named_lem Incoming l w h = h.1
end_named_lem Outgoing l w h = h.0

far_named : (d : Direction) (l : List Naming) (w : Wire) → WireNamed l w → (k : ℕ) × Member (naming (far_from d w).node k) l
far_named Incoming l w h = h.0
far_named Outgoing l w h = h.1

end_renamed : (d : Direction) (l : List Naming) (w : Wire) → (end_on d (wire_renamed l w)).node ≡ name_of l (end_on d w).node
end_renamed Incoming l w = refl
end_renamed Outgoing l w = refl

far_renamed_node : (d : Direction) (l : List Naming) (w : Wire) → ((far_from d (wire_renamed l w)).node ≡ name_of l (far_from d w).node) × ((far_from d (wire_renamed l w)).side ≡ (far_from d w).side)
far_renamed_node Incoming l w = (refl, refl)
far_renamed_node Outgoing l w = (refl, refl)

module _ {b : meaning.Both} {M : Model} (a : Alike b M) where
  abbrev m : MultiPortGraph
  m = b.kit.graph

  -- All wires.

  pub same_wires : WiresAlike b.names (wires_walked m) b.plan.wires
  same_wires =
      exactly_alike a {P = λ w. Unit {0}} {Q = λ w. Unit {0}}
      (record {
        once = walked_once a.rel.fine;
        only = λ w i. (a.rel.wires.walks w ((walked_is_wires a.rel.fine w).0 i), tt);
        all = λ w i t. (walked_is_wires a.rel.fine w).1 (a.rel.wires.booked w i);
      })
      (record { once = plan_once a; only = λ w i. (i, tt); all = λ w i t. i })
      (λ w i. ((λ t. tt), λ t. tt))

  -- Subports.

  module _ (n k : ℕ) (i : SameBlock b n k) where
    h : BlockHere b M n k
    h = block_here a n k i

    -- a port of the block
    here : (d : Direction) (j : ℕ) → j < ports_on h.meta d → PortHere b M (port_of m.graph n d j) (port_on k d j)
    here d j l =
        let s : Seen m M (inner# n d j) = (subst (λ (v : Slots). j < count_of v d) (sym h.block.1) l, h.block.0) in
        record { node = n; is_seen = s; slot = sym (port_of_lem a.rel.fine n d j s.0); named = i; there = port_there a n (port_on k d j) i s }

    end_means : (d : Direction) (j o : ℕ) → j < ports_on h.meta d → EndMeans b (subport# (port_of m.graph n d j) o) (end# (port_on k d j) o)
    unfolding here
    end_means d j o l =
        let p = here d j l in
        ((n, spot_at a.rel (inner# n d j) p.is_seen _ p.slot, i), refl)

    port_subports : (d : Direction) (j : ℕ) → j < ports_on h.meta d →
        Alongside (EndMeans b) (subports_of_port m d (port_of m.graph n d j)) (map (end# (port_on k d j)) (offsets_of (plan.subports_of b.plan (port_on k d j))))
    unfolding subports_of_port
    port_subports d j l = go (is_split m p) refl
      where
        p : ℕ
        p = port_of m.graph n d j

        q : PortHere b M (port_of m.graph n d j) (port_on k d j)
        q = here d j l

        many : (c : ℕ) → 0 < c → offsets_of c ≡ range 0 c
        many zero e = absurd (omega arith)
        many (suc c) e = refl

        go : (t : Bool) → is_split m p ≡ t → Alongside (EndMeans b) (cond t (map (subport# p) (range 0 (subports m p d))) (subport# p 0 ∷ [])) (map (end# (port_on k d j)) (offsets_of (plan.subports_of b.plan (port_on k d j))))
        go true e =
            let s : is_split m (slot_of M.node (here# q)) ≡ true = ap (is_split m) q.slot ∙ e in
            let two = split_has_subports a.rel.fine (here# q) q.is_seen s in
            let c : plan.subports_of b.plan (port_on k d j) ≡ subports m p d = subports_here a q ∙ (rw s refl ∙ ap (λ (v : ℕ). subports m v d) q.slot) in
            let pos : 0 < subports m p d = let z = ap (λ (v : ℕ). subports m v d) q.slot in omega arith in
            rw (c, many (subports m p d) pos) (along_map (EndMeans b) (subport# p) (end# (port_on k d j)) 0 (subports m p d) (λ o. end_means d j o l))
        go false e = rw (whole_here a q e) (end_means d j 0 l, tt)

    side_subports : (d : Direction) → Alongside (EndMeans b) (subports_of_side m n d) (listed.subports_of_side b.plan k d)
    unfolding subports_of_side ports_of_side
    side_subports d =
        let c : num_ports m.graph n d ≡ ports_on_side b.plan.blocks k d = same_side_ports a n k i d in
        let g : ports_on_side b.plan.blocks k d ≡ ports_on h.meta d = h.counts d in
        rw (flat_map_map (subports_of_port m d) (port_of m.graph n d) (range 0 (num_ports m.graph n d)), c)
        (along_gather (EndMeans b) (λ j. subports_of_port m d (port_of m.graph n d j)) _ 0 (ports_on_side b.plan.blocks k d) (λ j l. port_subports d j (omega arith)))

    pub same_subports : (sides : Sides) → OverSides (λ d l. Alongside (EndMeans b) l (listed.subports_of_side b.plan k d)) sides (subports_of m n sides)
    unfolding subports_of
    same_subports (One d) = side_subports d
    same_subports Both = (subports_of_side m n Incoming, subports_of_side m n Outgoing, refl, side_subports Incoming, side_subports Outgoing)

  -- With the engine's book.

  in_book : (n k : ℕ) → SameBlock b n k → InBook b.kit.book n
  in_book n k i = let h = block_here a n k i in let c = a.rel.blocks.all n h.meta h.block in (c.0, c.1, c.2)

  pub same_port_links : (p : ℕ) (x : SketchPort) → SamePort b p x → WiresAlike b.names (map (wire_from m x.side) (port_links m p)) (listed.links_of_port b.plan x)
  same_port_links p x s =
      let n = s.0 in
      exactly_alike a (port_listing a.rel p n x.side x.position s.1) (passing a (touches (at_spot (spot_named x))))
      (λ w i.
      let e = same_touches b.names (at_spot (spot n x.side x.position)) (at_spot (spot_named x)) (same_spot b.names a.apart n x.block s.2 x.side x.position) w (wires_named a w i) in
      ((λ t. sym e ∙ t), λ t. e ∙ t))

  -- a wire has an end on a side of a block exactly if it has one on that of its name
  end_at : (n k : ℕ) → SameBlock b n k → (d : Direction) (w : Wire) → Member w b.kit.book.wires →
      ((end_on d w).node ≡ n → eqb (end_on d (wire_renamed b.names w)).node k ≡ true) × (eqb (end_on d (wire_renamed b.names w)).node k ≡ true → (end_on d w).node ≡ n)
  end_at n k i d w j =
      let e : eqb (end_on d w).node n ≡ eqb (end_on d (wire_renamed b.names w)).node k =
      named_eqb b.names a.apart n k (end_on d w).node i (end_named_lem d b.names w (wires_named a w j)) ∙ ap (λ (v : ℕ). eqb v k) (sym (end_renamed d b.names w)) in
      ((λ q. sym e ∙ eq-eqb _ _ q), λ t. eqb-true _ _ (e ∙ t))

  side_links : (n k : ℕ) → SameBlock b n k → (d : Direction) (l : List SubportLink) →
      Exactly b.kit.book.wires (λ w. ((end_on d w).node ≡ n) × OutOfRange b.kit.book 0 0 (far_from d w)) (map (wire_from m d) l) →
      WiresAlike b.names (map (wire_from m d) l) (listed.links_of_side b.plan k d)
  side_links n k i d l e =
      exactly_alike a e (passing a (λ w. eqb (end_on d w).node k))
      (λ w j. let s = end_at n k i d w j in ((λ t. s.0 t.0), λ t. (s.1 t, λ p u v z. absurd (omega arith))))

  pub same_block_links : (n k : ℕ) → SameBlock b n k → (sides : Sides) →
      OverSides (λ d l. WiresAlike b.names (map (wire_from m d) l) (listed.links_of_side b.plan k d)) sides (node_links m n sides 0 0)
  same_block_links n k i sides = over_sides (λ d l e. side_links n k i d l e) sides (node_links m n sides 0 0) (node_listing a.rel n (in_book n k i) sides 0 0)

  -- with the flag, a far end is on the block's own outgoing side in both or in neither
  own_output : (n k : ℕ) → SameBlock b n k → (flag : Bool) (x y : Place) → (eqb x.node n ≡ eqb y.node k) → x.side ≡ y.side →
      (NotOwnOutput n flag x → not (is_own_output k flag y) ≡ true) × (not (is_own_output k flag y) ≡ true → NotOwnOutput n flag x)
  own_output n k i flag x y e s = (there flag (eqb y.node k) (same_side y.side Outgoing) refl refl, back)
    where
      there : (f c t : Bool) → eqb y.node k ≡ c → same_side y.side Outgoing ≡ t → NotOwnOutput n f x → not (cond f (cond c t false) false) ≡ true
      there true true true p q h = absurd (h refl (eqb-true _ _ (e ∙ p)) (s ∙ same_side_true _ _ q))
      there true true false p q h = refl
      there true false t p q h = refl
      there false c t p q h = refl

      back : not (is_own_output k flag y) ≡ true → NotOwnOutput n flag x
      back t f p q =
          let c : eqb y.node k ≡ true = sym e ∙ eq-eqb _ _ p in
          let d : y.side ≡ Outgoing = sym s ∙ q in
          let z : not (is_own_output k flag y) ≡ false = rw (f, c, d) refl in
          true_not_false t z

  side_neighbours : (n k : ℕ) → SameBlock b n k → (d : Direction) (flag : Bool) (l : List ℕ) →
      FarNodes b.kit.book.wires (λ w. ((end_on d w).node ≡ n) × NotOwnOutput n flag (far_from d w)) d l → FarAlike b.names d l (listed.neighbours_of_side b.plan k d flag)
  side_neighbours n k i d flag l e = (
    e.0,
    _,
    exactly_alike a e.1 (passing_too (passing a (λ w. eqb (end_on d w).node k)) (λ w. not (is_own_output k flag (far_from d w))))
        (λ w j.
        let s = end_at n k i d w j in
        let r = far_renamed_node d b.names w in
        let q : eqb (far_from d w).node n ≡ eqb (far_from d (wire_renamed b.names w)).node k =
        named_eqb b.names a.apart n k (far_from d w).node i (far_named d b.names w (wires_named a w j)) ∙ ap (λ (v : ℕ). eqb v k) (sym r.0) in
        let o = own_output n k i flag (far_from d w) (far_from d (wire_renamed b.names w)) q (sym r.1) in
        ((λ t. (s.0 t.0, o.0 t.1)), λ t. (s.1 t.0, o.1 t.1))),
    e.2,
    refl,
  )

  pub same_neighbours : (n k : ℕ) → SameBlock b n k → (sides : Sides) (flag : Bool) →
      OverSides (λ d l. FarAlike b.names d l (listed.neighbours_of_side b.plan k d flag)) sides (neighbours m n sides flag)
  same_neighbours n k i sides flag = over_sides (λ d l e. side_neighbours n k i d flag l e) sides (neighbours m n sides flag) (neighbours_listing a.rel n (in_book n k i) sides flag)

  pub same_connections : (n k c j : ℕ) → SameBlock b n k → SameBlock b c j →
      WiresAlike b.names (map (wire_from m Outgoing) (connections m n c)) (listed.connections b.plan k j)
  same_connections n k c j i l =
      exactly_alike a (connections_listing a.rel n c (in_book n k i)) (passing_too (passing a (λ w. eqb w.out.node k)) (λ w. eqb w.into.node j))
      (λ w t.
      let s = end_at n k i Outgoing w t in
      let u = end_at c j l Incoming w t in
      ((λ q. (s.0 q.0, u.0 q.1)), λ q. (s.1 q.0, u.1 q.1)))

  -- All of it.

  pub looks_alike : LooksAlike b
  looks_alike =
      record {
        release = a.release;
        nodes = same_nodes_count a;
        ports = same_ports_count a;
        links = same_links_count a;
        side_ports = same_side_ports a;
        fan_out = same_fan_out a;
        block_fan_out = same_block_fan_out a;
        asked = asked_alike a;
        starts_at_port = starts_at_port_lem a;
        starts_at_block = starts_at_block_lem a;
        starts_between = starts_between_lem a;
        blocks = same_blocks a;
        wires = same_wires;
        links_of_port = same_port_links;
        links_of_block = same_block_links;
        neighbours = same_neighbours;
        connections = same_connections;
        subports = same_subports;
      }
