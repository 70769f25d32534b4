-- What the tables alone tell of a graph of the calls is what the graph tells: ports, subports, ends and wires.
use Rattle.std.proofs.Math.ListN.{length}
use Rattle.multi_tables.specs.declared.answers.PortPlace.{PortPlace}
use Rattle.std.specs.Prelude.{◌≡◌, Bool, List, eqb, Some, None, Ok}
use Rattle.std.proofs.Math.Path.{refl, sym, ap}
use Rattle.std.proofs.Common.{◌∙◌, subst}
use Rattle.std.proofs.Math.Bool.{true, false, cond}
use Prim.Native.Nat.{ℕ, suc, ◌+◌, ◌-◌, ◌*◌, ◌/◌, ◌%◌, ◌≤◌, ◌<◌, min}
use native.Mathlib.Omega.{arith}
use Rattle.std.proofs.Math.Dec.{ltb}
use borrow.Author.Tests.{eq-eqb, ne_eqb, lt-ltb, eqb-true, eqb-false, ltb-true, ltb-false}
use Rattle.port_tables.specs.Limits.{node_slots, port_slots}
use Rattle.port_tables.specs.Entries.{reversed, owner_number, port_entry, node#}
use Rattle.port_tables.specs.Tables.{at}
use Rattle.portgraph.specs.Lookups.{port_at, port_link}
use Rattle.portgraph.specs.Model as model
use Rattle.portgraph.specs.Model.{Model, Far, nowhere, to, Valid, slot_of, count_of, first_of, side_start}
use Rattle.portgraph.specs.GoodSlots.{zero_is_not_one, slot_in_range}
use Rattle.portgraph.specs.PlaceLaws.{PlaceOf, meta_of_place, entry_of_owner, port_of_place, place_of_port, link_to, link_none, port_link_to, port_link_none}
use Rattle.port_tables.specs.declared.direction.Direction.{Direction}
use Rattle.port_tables.specs.declared.direction.Direction.TheVariants.{Incoming, Outgoing}
use Rattle.port_tables.specs.declared.port_entry.PortMeta.{PortMeta}
use Rattle.port_tables.specs.declared.port_entry.PortEntry.{PortEntry}
use Rattle.port_tables.specs.declared.port_entry.PortEntry.TheVariants as port_variants
use Rattle.multiportgraph.specs.Reading.{is_hidden, is_split, seen_entry, seen, owner_of, copy_node, copy_side, subports, subport_at, end_at, subport_of, standing, standing_of, far_subport, port_place}
use Rattle.multi_tables.specs.Forms.{hidden, visible, inner, lacking, End, subport#, flag_at}
use Rattle.multiportgraph.specs.Calls.{cut_plain}
use Rattle.multi_tables.specs.FormSteps.{flag_is}
use Rattle.multiportgraph.specs.WellFormed.{inner#, copy_place, Fine, IsEnd, Seen}
use Rattle.multiportgraph.specs.Ends.{BlockPort, EndOf, block_seen, Hangs, split_has_copy, copy_count, copy_valid, owner_of_lem, end_side, end_read, ends_join_ends, subport_of_hidden, subport_of_block, outer_seen, place_of_sub, unsplit_is_end}
use Rattle.multi_tables.specs.TableReads.{far_in, owner_in, seen_owner, seen_in, owns_up, owns_down, run_up, run_down, count_beside, first_beside, end_beside, subports_in, first_in, end_in, copy_beside, subport_owned, subport_in, leaps_down, leap_down, row_below, place_owned, place_in, far_place_in, wire_in, wire_end_in, plain_in}
use Rattle.multiportgraph.specs.declared.multiportgraph.MultiPortGraph.{MultiPortGraph}
use Rattle.multi_tables.specs.declared.answers.SubportIndex.{SubportIndex}
use Rattle.multi_tables.specs.EndAnswers.{unplaced}
use Rattle.multi_tables.specs.TableReadSteps.{run_ends}
use Rattle.multiportgraph.specs.Ends.{twice_reversed}

-- Ports.

-- a port number reads as the tables tell it
pub seen_read : (m : MultiPortGraph) → length m.copy_node ≡ node_slots → (p : ℕ) → seen_in m.graph.port_meta m.copy_node p ≡ seen m p
unfolding seen_in seen is_hidden
seen_read m long p = go (port_at m.graph p)
  where
    go : (e : PortEntry) → seen_owner m.copy_node e ≡ seen_entry m e
    go port_variants.Free = refl
    go (port_variants.Port k) = ap (λ (b : Bool). cond b hidden (visible k.node.0 k.direction)) (flag_is m.copy_node node_slots k.node.0 long)

-- Runs.

-- a row of slots that alone has an owner
pub record Row (t : List ℕ) (x start count : ℕ) : Type 0 where
  pub ends : start + count ≤ port_slots
  pub there : (j : ℕ) → j < count → at t (start + j) ≡ x
  pub only : (s : ℕ) → at t s ≡ x → (start ≤ s) × (s < start + count)

module _ {t : List ℕ} {x start count : ℕ} (r : Row t x start count) where
  in_row_lem : (s : ℕ) → start ≤ s → s < start + count → at t s ≡ x
  in_row_lem s a b = let e : start + (s - start) ≡ s = omega arith in ap (at t) (sym e) ∙ r.there (s - start) (omega arith)

  pub row_up : (i : ℕ) → start ≤ i → i ≤ start + count → run_up t x i ≡ start + count - i
  unfolding run_up owns_up
  row_up i a b =
      let ends = r.ends in
      run_ends (owns_up t x i) 0 (start + count - i) port_slots
      (λ j h. eq-eqb (at t (i + (0 + j))) x (in_row_lem (i + (0 + j)) (omega arith) (omega arith)))
      (omega arith)
      (λ h. ne_eqb (at t (i + (0 + (start + count - i)))) x (λ e. let o = r.only (i + (0 + (start + count - i))) e in omega arith))

  pub row_down : (i : ℕ) → start ≤ i → i ≤ start + count → run_down t x i ≡ i - start
  unfolding run_down owns_down
  row_down i a b =
      let ends = r.ends in
      run_ends (owns_down t x i) 0 (i - start) (min i port_slots)
      (λ j h. eq-eqb (at t (i - suc (0 + j))) x (in_row_lem (i - suc (0 + j)) (omega arith) (omega arith)))
      (omega arith)
      (λ h. ne_eqb (at t (i - suc (0 + (i - start)))) x (λ e. let o = r.only (i - suc (0 + (i - start))) e in omega arith))

  pub row_leap : (i : ℕ) → start ≤ i → i ≤ start + count → leap_down t x i ≡ (i - start) / 32
  unfolding leap_down leaps_down
  row_leap i a b =
      let ends = r.ends in
      run_ends (leaps_down t x i) 0 ((i - start) / 32) (min i port_slots / 32)
      (λ j h. eq-eqb (at t (i - 32 * suc (0 + j))) x (in_row_lem (i - 32 * suc (0 + j)) (omega arith) (omega arith)))
      (omega arith)
      (λ h. ne_eqb (at t (i - 32 * suc (0 + (i - start) / 32))) x (λ e. let o = r.only (i - 32 * suc (0 + (i - start) / 32)) e in omega arith))

  -- leaps and a in_row come to a in_row
  pub row_below_lem : (i : ℕ) → start ≤ i → i ≤ start + count → row_below t x i ≡ i - start
  unfolding row_below
  row_below_lem i a b =
      let l = row_leap i a b in
      let d = row_down (i - 32 * leap_down t x i) (omega arith) (omega arith) in
      omega arith

-- a slot stands just after the row of incoming subports, or just before the row of outgoing ones
abbrev pub Beside : Direction → ℕ → ℕ → ℕ → Type 0
Beside Incoming q start count = q ≡ start + count
Beside Outgoing q start count = start ≡ q + 1

module _ {t : List ℕ} {x start count : ℕ} (r : Row t x start count) where
  pub row_count : (d : Direction) (q : ℕ) → Beside d q start count → 0 < count → count_beside t q d ≡ count
  unfolding count_beside
  row_count Incoming q b l =
      let e : at t (q - 1) ≡ x = in_row_lem r (q - 1) (omega arith) (omega arith) in
      ap (λ (y : ℕ). run_down t y q) e ∙ (row_down r q (omega arith) (omega arith) ∙ omega arith)
  row_count Outgoing q b l =
      let e : at t (q + 1) ≡ x = in_row_lem r (q + 1) (omega arith) (omega arith) in
      ap (λ (y : ℕ). run_up t y (q + 1)) e ∙ (row_up r (q + 1) (omega arith) (omega arith) ∙ omega arith)

  pub row_first : (d : Direction) (q : ℕ) → Beside d q start count → 0 < count → first_beside t q d ≡ start
  unfolding first_beside
  row_first Incoming q b l = let e = row_count Incoming q b l in omega arith
  row_first Outgoing q b l = sym b

  pub row_end : (d : Direction) (q o : ℕ) → Beside d q start count → 0 < count → end_beside t q d o ≡ cond (ltb o count) (inner (start + o)) lacking
  unfolding end_beside
  row_end Incoming q o b l = rw (row_count Incoming q b l, row_first Incoming q b l)
  row_end Outgoing q o b l = go (ltb o count) refl
    where
      first : at t (q + 1) ≡ x
      first = in_row_lem r (q + 1) (omega arith) (omega arith)

      go : (c : Bool) → ltb o count ≡ c →
          cond (ltb (q + 1 + o) port_slots) (cond (eqb (at t (q + 1 + o)) (at t (q + 1))) (inner (q + 1 + o)) lacking) lacking ≡ cond c (inner (start + o)) lacking
      go true e =
          let h = ltb-true o count e in
          let ends = r.ends in
          let s : at t (q + 1 + o) ≡ at t (q + 1) = in_row_lem r (q + 1 + o) (omega arith) (omega arith) ∙ sym first in
          rw (lt-ltb (q + 1 + o) port_slots (omega arith), eq-eqb (at t (q + 1 + o)) (at t (q + 1)) s) (ap inner (omega arith))
      go false e =
          let h = ltb-false o count e in
          let s : at t (q + 1 + o) ≡ at t (q + 1) → ⊥ = λ z. (let k = r.only (q + 1 + o) (z ∙ first) in omega arith) in
          rw (ne_eqb (at t (q + 1 + o)) (at t (q + 1)) s) (none (ltb (q + 1 + o) port_slots))
        where
          none : (c : Bool) → ◌≡◌ {A = End} (cond c lacking lacking) lacking
          none true = refl
          none false = refl

  module _ (z : ℕ) (a : start ≤ z) (b : z < start + count) where
    pub row_offset : run_down t (at t z) z ≡ z - start
    row_offset = ap (λ (y : ℕ). run_down t y z) (in_row_lem r z a b) ∙ row_down r z a (omega arith)

    pub row_position : row_below t (at t z) z ≡ z - start
    row_position = ap (λ (y : ℕ). row_below t y z) (in_row_lem r z a b) ∙ row_below_lem r z a (omega arith)

    pub row_copy : (d : Direction) (q : ℕ) → Beside d q start count → copy_beside t z d ≡ q
    unfolding copy_beside
    row_copy Incoming q e =
        let n : run_up t (at t z) z ≡ start + count - z = ap (λ (y : ℕ). run_up t y z) (in_row_lem r z a b) ∙ row_up r z a (omega arith) in
        omega arith
    row_copy Outgoing q e = let n = row_offset in omega arith

-- Owners.

abbrev node_in : PortEntry → ℕ
node_in port_variants.Free = 0
node_in (port_variants.Port k) = k.node.0

abbrev side_in : PortEntry → Direction
side_in port_variants.Free = Incoming
side_in (port_variants.Port k) = k.direction

owner_number_lem : (e n : ℕ) (d : Direction) → port_entry e ≡ port_variants.Port (record { node = node# n; direction = d }) → e ≡ owner_number n d
unfolding port_entry
owner_number_lem e n d h = go (eqb e 0) (eqb ((e - 1) % 2) 0) refl refl h
  where
    go : (a b : Bool) → eqb e 0 ≡ a → eqb ((e - 1) % 2) 0 ≡ b →
        cond a port_variants.Free (port_variants.Port (record { node = record { 0 = (e - 1) / 2 }; direction = cond b Incoming Outgoing }))
        ≡ port_variants.Port (record { node = node# n; direction = d }) → e ≡ owner_number n d
    go true b p q k = absurd (zero_is_not_one (cc))
    go false true p q k =
        let z = eqb-false e 0 p in
        let u = eqb-true ((e - 1) % 2) 0 q in
        let v : (e - 1) / 2 ≡ n = ap node_in k in
        let w : e ≡ 2 * n + 1 = omega arith in
        w ∙ ap (owner_number n) (ap side_in k)
    go false false p q k =
        let z = eqb-false e 0 p in
        let u = eqb-false ((e - 1) % 2) 0 q in
        let v : (e - 1) / 2 ≡ n = ap node_in k in
        let w : e ≡ 2 * n + 2 = omega arith in
        w ∙ ap (owner_number n) (ap side_in k)

-- the reader that leaves the place out gives the same end
pub wire_unplaced : (links owners : List ℕ) (flags : List Bool) (q : ℕ) → wire_end_in links owners flags q ≡ unplaced (wire_in links owners flags q)
unfolding wire_end_in wire_in
wire_unplaced links owners flags q = go (eqb (at links q) 0)
  where
    go : (b : Bool) → cond b (Ok None) (Ok (Some (subport_in links owners flags (far_in links q))))
        ≡ unplaced (cond b (Ok None) (Ok (Some (subport_in links owners flags (far_in links q), place_in owners (subport_in links owners flags (far_in links q)).port.0))))
    go true = refl
    go false = refl

-- the slot of the first port of a node's side
abbrev pub row_start : Model → ℕ → Direction → ℕ
row_start M c d = first_of (M.node c) + side_start (M.node c) d

module _ {m : MultiPortGraph} {M : Model} (f : Fine m M) where
  pub owner_at : (x : model.InnerPlace) → Valid M.node x → at m.graph.port_meta (slot_of M.node x) ≡ owner_number x.node x.side
  owner_at x h = owner_number_lem _ x.node x.side (port_of_place f.good f.holds x h)

  -- the ports of a side lie in a row
  pub side_row : (c : ℕ) (d : Direction) → 0 < count_of (M.node c) d → Row m.graph.port_meta (owner_number c d) (row_start M c d) (count_of (M.node c) d)
  side_row c d l =
      record {
        ends = let e = slot_in_range f.good (inner# c d (count_of (M.node c) d - 1)) (omega arith) in omega arith;
        there = λ j h. ap (at m.graph.port_meta) (omega arith) ∙ owner_at (inner# c d j) h;
        only = λ s e. found s (place_of_port f.good f.holds s (record { node = node# c; direction = d }) (ap port_entry e ∙ entry_of_owner c d));
      }
    where
      found : (s : ℕ) → PlaceOf M s (record { node = node# c; direction = d }) → (row_start M c d ≤ s) × (s < row_start M c d + count_of (M.node c) d)
      found s p =
          let n : count_of (M.node p.place.node) p.place.side ≡ count_of (M.node c) d = λ i. count_of (M.node (p.node i)) (p.side i) in
          let z : row_start M p.place.node p.place.side ≡ row_start M c d = λ i. row_start M (p.node i) (p.side i) in
          let v = p.valid in
          let e = p.slot in
          omega arith

  -- a hidden node's copy port stands beside the row of its subports
  beside : (c : ℕ) (d : Direction) → is_hidden m c ≡ true → copy_side m c ≡ reversed d → Beside d (slot_of M.node (copy_place m c)) (row_start M c d) (count_of (M.node c) d)
  beside c Incoming h s =
      let e : slot_of M.node (copy_place m c) ≡ slot_of M.node (inner# c Outgoing 0) = ap (λ (d : Direction). slot_of M.node (inner# c d 0)) s in
      omega arith
  beside c Outgoing h s =
      let e : slot_of M.node (copy_place m c) ≡ slot_of M.node (inner# c Incoming 0) = ap (λ (d : Direction). slot_of M.node (inner# c d 0)) s in
      let n : count_of (M.node c) Incoming ≡ 1 = ap (count_of (M.node c)) (sym s) ∙ copy_count f c h in
      omega arith

  pub far_is : (x y : model.InnerPlace) → M.join x ≡ to y → far_in m.graph.port_link (slot_of M.node x) ≡ slot_of M.node y
  unfolding far_in
  far_is x y j = let e = link_to f.good f.holds x y (f.good.join_valid x y j) j in omega arith

  pub flag_told : (n : ℕ) → flag_at m.copy_node node_slots n ≡ is_hidden m n
  unfolding is_hidden
  flag_told n = flag_is m.copy_node node_slots n f.flags_long

  pub mark_told : (p : ℕ) → flag_at m.multiport port_slots p ≡ is_split m p
  unfolding is_split
  mark_told p = flag_is m.multiport port_slots p f.marks_long

  -- Subports and ends.
  module _ (x : model.InnerPlace) (k : Hangs m M x) where
    pub copy_place_lem : far_in m.graph.port_link (slot_of M.node x) ≡ slot_of M.node (copy_place m k.copy)
    copy_place_lem = far_is x (copy_place m k.copy) k.back

    some : 0 < count_of (M.node k.copy) x.side
    some = let h = k.several in omega arith

    row : Row m.graph.port_meta (owner_number k.copy x.side) (row_start M k.copy x.side) (count_of (M.node k.copy) x.side)
    row = side_row k.copy x.side some

    stands : Beside x.side (far_in m.graph.port_link (slot_of M.node x)) (row_start M k.copy x.side) (count_of (M.node k.copy) x.side)
    stands =
        subst (λ (q : ℕ). Beside x.side q (row_start M k.copy x.side) (count_of (M.node k.copy) x.side)) (sym copy_place_lem)
        (beside k.copy x.side k.is_copy (sym (ap reversed k.side ∙ twice_reversed (copy_side m k.copy))))

    subports_there : subports_in m.graph.port_link m.graph.port_meta (slot_of M.node x) x.side ≡ subports m (slot_of M.node x) x.side
    unfolding subports_in
    subports_there = row_count row x.side _ stands some ∙ sym k.count

    pub first_there : first_in m.graph.port_link m.graph.port_meta (slot_of M.node x) x.side ≡ subport_at m (slot_of M.node x) x.side 0
    unfolding first_in
    first_there = row_first row x.side _ stands some ∙ (omega arith ∙ sym (k.reads 0 some))

    end_there : (o : ℕ) → is_split m (slot_of M.node x) ≡ true →
        end_in m.multiport m.graph.port_link m.graph.port_meta (slot_of M.node x) x.side o ≡ end_at m (slot_of M.node x) x.side o
    unfolding end_in end_at
    end_there o t =
        rw (mark_told (slot_of M.node x), t, k.count)
        (row_end row x.side _ o stands some ∙ go (ltb o (count_of (M.node k.copy) x.side)) refl)
      where
        go : (b : Bool) → ltb o (count_of (M.node k.copy) x.side) ≡ b →
            cond b (inner (row_start M k.copy x.side + o)) lacking ≡ cond b (inner (subport_at m (slot_of M.node x) x.side o)) lacking
        go true e = ap inner (omega arith ∙ sym (k.reads o (ltb-true o (count_of (M.node k.copy) x.side) e)))
        go false e = refl

  -- An end's subport, and what it is linked with.

  subport_there : (z : model.InnerPlace) → IsEnd m M z →
      subport_in m.graph.port_link m.graph.port_meta m.copy_node (slot_of M.node z) ≡ subport_of m (slot_of M.node z)
  unfolding subport_in
  subport_there z e =
      ap (subport_owned m.graph.port_link m.graph.port_meta m.copy_node (slot_of M.node z)) (port_of_place f.good f.holds z e.valid)
      ∙ go (is_hidden m z.node) refl
    where
      flagged_as : (b : Bool) → is_hidden m z.node ≡ b → flag_at m.copy_node node_slots z.node ≡ b
      flagged_as b h = flag_told z.node ∙ h

      go : (b : Bool) → is_hidden m z.node ≡ b →
          cond (flag_at m.copy_node node_slots z.node)
          (subport# (far_in m.graph.port_link (copy_beside m.graph.port_meta (slot_of M.node z) z.side)) (run_down m.graph.port_meta (at m.graph.port_meta (slot_of M.node z)) (slot_of M.node z)))
          (subport# (slot_of M.node z) 0)
          ≡ subport_of m (slot_of M.node z)
      go true h =
          let k = f.copy z.node h in
          let v = e.valid in
          let l : 0 < count_of (M.node z.node) z.side = omega arith in
          let r = side_row z.node z.side l in
          let b = beside z.node z.side h (sym (ap reversed (end_side f z e h) ∙ twice_reversed (copy_side m z.node))) in
          let o : run_down m.graph.port_meta (at m.graph.port_meta (slot_of M.node z)) (slot_of M.node z) ≡ z.pos =
          row_offset r (slot_of M.node z) (omega arith) (omega arith) ∙ omega arith in
          let c : far_in m.graph.port_link (copy_beside m.graph.port_meta (slot_of M.node z) z.side) ≡ slot_of M.node k.main =
          ap (far_in m.graph.port_link) (row_copy r (slot_of M.node z) (omega arith) (omega arith) z.side _ b) ∙ far_is (copy_place m z.node) k.main k.joined in
          rw (flagged_as true h) ((λ i. subport# (c i) (o i)) ∙ sym (subport_of_hidden f z k.main v h k.joined))
      go false h = rw (flagged_as false h) (sym (subport_of_block f z (e.valid, h)))

  -- where a port of a block stands
  place_there : (x : model.InnerPlace) (o : ℕ) → Seen m M x → place_in m.graph.port_meta (slot_of M.node x) ≡ standing m (subport# (slot_of M.node x) o)
  unfolding place_in
  place_there x o s =
      let v = s.0 in
      let r = side_row x.node x.side (omega arith) in
      let i : row_below m.graph.port_meta (at m.graph.port_meta (slot_of M.node x)) (slot_of M.node x) ≡ x.pos =
      row_position r (slot_of M.node x) (omega arith) (omega arith) ∙ omega arith in
      ap (place_owned m.graph.port_meta (slot_of M.node x)) (port_of_place f.good f.holds x v)
      ∙ (ap (λ (k : ℕ). record { node = node# x.node; side = x.side; position = k }) i
      ∙ sym (ap port_place (place_of_sub f x o s)))

  -- where the visible end of an inner port stands
  far_place_there : (z : model.InnerPlace) → IsEnd m M z →
      far_place_in m.graph.port_link m.graph.port_meta m.copy_node (slot_of M.node z) ≡ standing_of m (slot_of M.node z)
  far_place_there z e =
      let r = outer_seen f z e in
      ap (λ (t : SubportIndex). place_in m.graph.port_meta t.port.0) (subport_there z e ∙ r.read)
      ∙ (place_there r.main r.offset r.is_seen ∙ sym (ap (standing m) r.read))

  wire_there : (x : model.InnerPlace) → IsEnd m M x →
      wire_in m.graph.port_link m.graph.port_meta m.copy_node (slot_of M.node x) ≡ far_subport m (port_link m.graph (slot_of M.node x))
  unfolding wire_in
  wire_there x e = go (M.join x) refl
    where
      go : (y : Far) → M.join x ≡ y →
          cond (eqb (at m.graph.port_link (slot_of M.node x)) 0) (Ok None)
          (Ok (Some (subport_in m.graph.port_link m.graph.port_meta m.copy_node (far_in m.graph.port_link (slot_of M.node x)), far_place_in m.graph.port_link m.graph.port_meta m.copy_node (far_in m.graph.port_link (slot_of M.node x)))))
          ≡ far_subport m (port_link m.graph (slot_of M.node x))
      go nowhere j =
          rw (eq-eqb (at m.graph.port_link (slot_of M.node x)) 0 (link_none f.good f.holds x e.valid j))
          (sym (ap (far_subport m) (port_link_none f.good f.holds x e.valid j)))
      go (to y) j =
          let l = link_to f.good f.holds x y e.valid j in
          rw (ne_eqb (at m.graph.port_link (slot_of M.node x)) 0 (λ z. omega arith), far_is x y j)
          ((λ i. Ok (Some (subport_there y (ends_join_ends f x y e j) i, far_place_there y (ends_join_ends f x y e j) i)))
          ∙ sym (ap (far_subport m) (port_link_to f.good f.holds x y e.valid j)))

  -- an unsplit port: what cutting it answers
  plain_there : (x : model.InnerPlace) → IsEnd m M x →
      plain_in m.graph.port_link m.graph.port_meta m.copy_node (slot_of M.node x) ≡ cut_plain m (port_link m.graph (slot_of M.node x))
  unfolding plain_in
  plain_there x e = go (M.join x) refl
    where
      go : (y : Far) → M.join x ≡ y →
          cond (eqb (at m.graph.port_link (slot_of M.node x)) 0) (Ok None)
          (Ok (Some (subport# (far_in m.graph.port_link (slot_of M.node x)) 0, far_place_in m.graph.port_link m.graph.port_meta m.copy_node (far_in m.graph.port_link (slot_of M.node x)))))
          ≡ cut_plain m (port_link m.graph (slot_of M.node x))
      go nowhere j =
          rw (eq-eqb (at m.graph.port_link (slot_of M.node x)) 0 (link_none f.good f.holds x e.valid j))
          (sym (ap (cut_plain m) (port_link_none f.good f.holds x e.valid j)))
      go (to y) j =
          let l = link_to f.good f.holds x y e.valid j in
          rw (ne_eqb (at m.graph.port_link (slot_of M.node x)) 0 (λ z. omega arith), far_is x y j)
          (ap (λ (x : PortPlace). Ok (Some (subport# (slot_of M.node y) 0, x))) (far_place_there y (ends_join_ends f x y e j))
          ∙ sym (ap (cut_plain m) (port_link_to f.good f.holds x y e.valid j)))

  -- By numbers, as the code has them.
  module _ (p n : ℕ) (d : Direction) (s : seen m p ≡ visible n d) where
    block : BlockPort m M p n d
    block = block_seen f p n d s

    split_there : is_split m p ≡ true → Hangs m M block.place
    split_there t = split_has_copy f block.place block.is_seen (ap (is_split m) block.slot ∙ t)

    pub subports_read : is_split m p ≡ true → subports_in m.graph.port_link m.graph.port_meta p d ≡ subports m p d
    subports_read t =
        (λ i. subports_in m.graph.port_link m.graph.port_meta (sym block.slot i) (sym block.side i))
        ∙ (subports_there block.place (split_there t) ∙ (λ i. subports m (block.slot i) (block.side i)))

    pub first_read : is_split m p ≡ true → first_in m.graph.port_link m.graph.port_meta p d ≡ subport_at m p d 0
    first_read t =
        (λ i. first_in m.graph.port_link m.graph.port_meta (sym block.slot i) (sym block.side i))
        ∙ (first_there block.place (split_there t) ∙ (λ i. subport_at m (block.slot i) (block.side i) 0))

    -- where the port stands, and what cutting it answers where it is not split
    pub place_read : place_in m.graph.port_meta p ≡ standing m (subport# p 0)
    place_read = subst (λ (q : ℕ). place_in m.graph.port_meta q ≡ standing m (subport# q 0)) block.slot (place_there block.place 0 block.is_seen)

    pub plain_read_lem : is_split m p ≡ false → plain_in m.graph.port_link m.graph.port_meta m.copy_node p ≡ cut_plain m (port_link m.graph p)
    plain_read_lem t =
        subst (λ (q : ℕ). plain_in m.graph.port_link m.graph.port_meta m.copy_node q ≡ cut_plain m (port_link m.graph q)) block.slot
        (plain_there block.place (unsplit_is_end f block.place block.is_seen (ap (is_split m) block.slot ∙ t)))

    -- the hidden node of a split port: its number, its copy port, and its other side
    pub owner_read : is_split m p ≡ true → owner_in m.graph.port_meta (far_in m.graph.port_link p) ≡ copy_node m p
    unfolding owner_in owner_of
    owner_read t =
        let k = split_there t in
        let c = copy_place m k.copy in
        ap (λ (q : ℕ). owner_of m.graph (far_in m.graph.port_link q)) (sym block.slot)
        ∙ (ap (owner_of m.graph) (far_is block.place c k.back)
        ∙ (owner_of_lem f c (copy_valid f k.copy k.is_copy) ∙ (sym k.copy_is ∙ ap (copy_node m) block.slot)))

    pub end_read_off : (o : ℕ) → end_in m.multiport m.graph.port_link m.graph.port_meta p d o ≡ end_at m p d o
    unfolding end_in end_at
    end_read_off o = go (is_split m p) refl
      where
        go : (b : Bool) → is_split m p ≡ b → end_in m.multiport m.graph.port_link m.graph.port_meta p d o ≡ end_at m p d o
        go true t =
            (λ i. end_in m.multiport m.graph.port_link m.graph.port_meta (sym block.slot i) (sym block.side i) o)
            ∙ (end_there block.place (split_there t) o (ap (is_split m) block.slot ∙ t) ∙ (λ i. end_at m (block.slot i) (block.side i) o))
        go false t = rw (mark_told p, t)

    module _ (o q : ℕ) (e : end_at m p d o ≡ inner q) where
      end_there_is : EndOf m M block.place o q
      end_there_is = end_read f block.place o q block.is_seen ((λ i. end_at m (block.slot i) (block.side i) o) ∙ e)

      pub wire_read : wire_in m.graph.port_link m.graph.port_meta m.copy_node q ≡ far_subport m (port_link m.graph q)
      wire_read =
          let k = end_there_is in
          subst (λ (z : ℕ). wire_in m.graph.port_link m.graph.port_meta m.copy_node z ≡ far_subport m (port_link m.graph z)) k.slot (wire_there k.end k.is_end)

      -- the end has a port there
      pub end_is_port : (k : PortMeta) × (port_at m.graph q ≡ port_variants.Port k) × (k.direction ≡ d)
      end_is_port =
          let k = end_there_is in
          (meta_of_place k.end, (ap (port_at m.graph) (sym k.slot) ∙ port_of_place f.good f.holds k.end k.is_end.valid), (k.side ∙ block.side))
