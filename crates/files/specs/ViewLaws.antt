-- Laws of the view of a graph of the calls: its numbers stay within the limits, its counts are those of the graph, and it has the
-- blocks and the wires of the book.
use Rattle.std.proofs.lemmas.List.{length-map}
use Rattle.std.specs.Prelude.{◌≡◌, refl, Bool, List, [], ◌∷◌, ◌++◌, map, ◌↔◌, ℕ, ◌+◌, ◌*◌, ◌≤◌, ◌<◌}
use Rattle.std.proofs.Math.Path.{sym, ap, subst}
use Rattle.std.proofs.Common.{◌∙◌, inl, inr}
use Rattle.std.proofs.Math.Bool.{true, false}
use Rattle.std.proofs.Math.Logic.{⊎_elim}
use native.Mathlib.Omega.{arith}
use Rattle.std.proofs.Math.ListN.{length, length-append}
use Rattle.port_tables.specs.Limits.{node_slots, port_slots, node_ports}
use Rattle.port_tables.specs.Lists.{range, Member, Rising}
use Rattle.portgraph.specs.Lookups.{num_ports}
use Rattle.portgraph.specs.Model as model
use Rattle.portgraph.specs.Model.{Model, Slots, gone, live, slot_of, count_of}
use Rattle.portgraph.specs.GoodSlots.{slot_in_range, slots_apart}
use Rattle.port_tables.specs.declared.direction.Direction.{Direction}
use Rattle.port_tables.specs.declared.direction.Direction.TheVariants.{Incoming, Outgoing}
use Rattle.port_tables.specs.Places.{Place, Wire, flag}
use Rattle.multiportgraph.specs.Wires.{blocks, all_wires, wires_walked, wire_places}
use Rattle.multiportgraph.specs.Calls.{visible_nodes, visible_links}
use Rattle.multiportgraph.specs.WellFormed.{Fine, outer, IsEnd, WireIn}
use Rattle.multiportgraph.specs.HiddenStays.{true_not_false}
use Rattle.multiportgraph.specs.Ends.{count_of_lem, outer_seen, ends_join_ends, wires_by_out, wires_by_into, out_not_into}
use Rattle.port_tables.specs.Listing.{Apart, once_apart, member_map, member_append, rising_append, rising_map, range_member, partners, length_range, numbers_apart}
use Rattle.multiportgraph.specs.WalkRule.{walked_places, walked_is_wires, walked_once, blocks_rise, blocks_are_few}
use Rattle.multiportgraph.specs.CountLaws.{visible_nodes_lem, visible_links_lem}
use Rattle.multiportgraph.specs.declared.multiportgraph.MultiPortGraph.{MultiPortGraph}
use Rattle.theorems.specs.Book.{Block, Book}
use Rattle.theorems.specs.BookLaws.{same_count}
use Rattle.theorems.specs.Claims.{count}
use Rattle.theorems.proofs.WireRule.{Rel, seen_live}
use Rattle.theorems.proofs.PortListing.{blocks_list}
use Rattle.files.specs.View.{BlockPorts, RankWire, View, rank_among, sorted, block_ports, rank_wire, view_of}
use Rattle.files.specs.Layout.{block_record, wire_record, units_for, file_length, FieldsFit, ViewFits}
use Rattle.files.specs.Saving.{file_of}
use Rattle.files.specs.LayoutLaws.{file_length_lem}
use Rattle.files.specs.Claims.{rank_in, At, HasBlock, same_wire, how_many, wires_between, WithinLimits, longest_file}
use Rattle.files.specs.OrderLaws.{sorted_counts, sorted_member, sorted_length}
use Rattle.files.specs.RankLaws.{at_member, at_map, map_at, rank_below, rank_at, at_rank, booked_block, rank_booked}

-- an end of a wire: its node is a block, and its position one of a port there
pub record EndFits (m : MultiPortGraph) (x : Place) : Type 0 where
  pub block : Member x.node (blocks m)
  pub pos : x.pos < node_ports

module _ {m : MultiPortGraph} {M : Model} (f : Fine m M) where
  count_small : (n : ℕ) (d : Direction) (v : Slots) → M.node n ≡ v → count_of v d ≤ node_ports
  count_small n d gone e = omega arith
  count_small n Incoming (live k) e = let a = f.good.ports_in_block n k e in let b = f.good.block_small n k e in omega arith
  count_small n Outgoing (live k) e = let a = f.good.ports_in_block n k e in let b = f.good.block_small n k e in omega arith

  pub ports_small : (n : ℕ) (d : Direction) → num_ports m.graph n d ≤ node_ports
  ports_small n d = let a = count_small n d (M.node n) refl in let e = count_of_lem f n d in omega arith

  end_fits : (z : model.InnerPlace) → IsEnd m M z → EndFits m (outer m M z)
  end_fits z e =
      let o = outer_seen f z e in
      let k = seen_live f o.main o.is_seen in
      let b = count_small o.main.node o.main.side (M.node o.main.node) refl in
      let v = o.is_seen.0 in
      subst (EndFits m) (sym o.is) (record { block = (blocks_list f).all o.main.node k.0 k.1; pos = omega arith })

  pub wire_fits : (w : Wire) → WireIn m M w → EndFits m w.out × EndFits m w.into
  wire_fits w h =
      let y = ends_join_ends f h.x h.y h.end h.joined in
      subst (λ (v : Wire). EndFits m v.out × EndFits m v.into) (sym h.is) (end_fits h.x h.end, end_fits h.y y)

  pub walked_fits : (w : Wire) → Member w (wires_walked m) → EndFits m w.out × EndFits m w.into
  walked_fits w i = wire_fits w ((walked_is_wires f w).0 i)

  -- Numbers within the limits.

  -- a block's node is one of the slots in use
  pub node_in_use : (n : ℕ) → Member n (blocks m) → n < m.graph.node_len
  node_in_use n i = let k = (blocks_list f).only n i in let u = f.good.node_used n k.0 k.1.1 in let v = f.holds.node_len in omega arith

  pub view_within : WithinLimits (view_of m)
  unfolding view_of block_ports
  view_within =
      record {
        blocks_few = let e = length-map (blocks m) (block_ports m) in let h = blocks_are_few m in omega arith;
        incoming = λ b i. let g = member_map (block_ports m) b (blocks m) i in subst (λ (x : BlockPorts). x.incoming ≤ node_ports) (sym g.2) (ports_small g.0 Incoming);
        outgoing = λ b i. let g = member_map (block_ports m) b (blocks m) i in subst (λ (x : BlockPorts). x.outgoing ≤ node_ports) (sym g.2) (ports_small g.0 Outgoing);
        source = λ w i. (fits w i).0;
        output = λ w i. (fits w i).1;
        target = λ w i. (fits w i).2;
        input = λ w i. (fits w i).3;
      }
    where
      fits : (w : RankWire) → Member w (sorted (map (rank_wire (rank_among (blocks m))) (wires_walked m))) → (w.source < node_slots) × (w.output < node_ports) × (w.target < node_slots) × (w.input < node_ports)
      fits w i =
          let g = member_map (rank_wire (rank_among (blocks m))) w (wires_walked m) (sorted_member w (map (rank_wire (rank_among (blocks m))) (wires_walked m)) i) in
          let e = walked_fits g.0 g.1 in
          let a = rank_below (blocks m) g.0.out.node e.0.block in
          let b = rank_below (blocks m) g.0.into.node e.1.block in
          let h = blocks_are_few m in
          subst (λ (x : RankWire). (x.source < node_slots) × (x.output < node_ports) × (x.target < node_slots) × (x.input < node_ports)) (sym g.2)
          (omega arith, e.0.pos, omega arith, e.1.pos)

-- limits that fit fields
pub within_fits : (v : View) → WithinLimits v → ViewFits v
within_fits v h = (
  (λ r i. let g = member_map block_record r v.blocks i in subst FieldsFit (sym g.2)
      (let a = h.incoming g.0 g.1 in let b = h.outgoing g.0 g.1 in record { a = omega arith; b = omega arith; c = omega arith; d = omega arith })),
  (λ r i. let g = member_map wire_record r v.wires i in subst FieldsFit (sym g.2)
      (let a = h.source g.0 g.1 in let b = h.output g.0 g.1 in let c = h.target g.0 g.1 in let d = h.input g.0 g.1 in
      record { a = omega arith; b = omega arith; c = omega arith; d = omega arith })),
)

-- The number of wires: each takes two port slots.

-- an end of a wire
record Half : Type 0 where
  pub out : Bool
  pub wire : Wire

abbrev half : Bool → Wire → Half
half t w = record { out = t; wire = w }

abbrev place_in : Bool → Wire → Place
place_in true w = w.out
place_in false w = w.into

module _ {m : MultiPortGraph} {M : Model} (f : Fine m M) where
  -- the slot of a wire's end
  abbrev SlotOf : Half → ℕ → Type 0
  SlotOf h s = (z : model.InnerPlace) × IsEnd m M z × (slot_of M.node z ≡ s) × WireIn m M h.wire × (outer m M z ≡ place_in h.out h.wire)

  one_end : (a b : Half) (s : ℕ) → SlotOf a s → SlotOf b s → a ≡ b
  one_end a b s p q =
      let z = slots_apart f.good p.0 q.0 p.1.valid q.1.valid (p.2 ∙ sym q.2) in
      go a.out b.out refl refl (sym p.4 ∙ (ap (outer m M) z ∙ q.4))
    where
      go : (t u : Bool) → a.out ≡ t → b.out ≡ u → place_in a.out a.wire ≡ place_in b.out b.wire → a ≡ b
      go true true x y e =
          let e' : a.wire.out ≡ b.wire.out = ap (λ (t : Bool). place_in t a.wire) (sym x) ∙ (e ∙ ap (λ (t : Bool). place_in t b.wire) y) in
          let w = wires_by_out f a.wire b.wire p.3 q.3 e' in
          λ i. record { out = (x ∙ sym y) i; wire = w i }
      go false false x y e =
          let e' : a.wire.into ≡ b.wire.into = ap (λ (t : Bool). place_in t a.wire) (sym x) ∙ (e ∙ ap (λ (t : Bool). place_in t b.wire) y) in
          let w = wires_by_into f a.wire b.wire p.3 q.3 e' in
          λ i. record { out = (x ∙ sym y) i; wire = w i }
      go true false x y e =
          absurd (out_not_into f a.wire b.wire p.3 q.3 (ap (λ (t : Bool). place_in t a.wire) (sym x) ∙ (e ∙ ap (λ (t : Bool). place_in t b.wire) y)))
      go false true x y e =
          absurd (out_not_into f b.wire a.wire q.3 p.3 (ap (λ (t : Bool). place_in t b.wire) (sym y) ∙ (sym e ∙ ap (λ (t : Bool). place_in t a.wire) x)))

  -- both ends of all wires
  halves : List Half
  halves = map (half true) (wires_walked m) ++ map (half false) (wires_walked m)

  halves_apart : Rising Apart halves
  unfolding halves
  halves_apart =
      let r = once_apart (wires_walked m) (walked_once f) in
      rising_append Apart (map (half true) (wires_walked m)) (map (half false) (wires_walked m))
      (rising_map Apart Apart (half true) (wires_walked m) r (λ v w i j l e. l (ap (λ (h : Half). h.wire) e)))
      (rising_map Apart Apart (half false) (wires_walked m) r (λ v w i j l e. l (ap (λ (h : Half). h.wire) e)))
      (λ x y i j e.
      let a = member_map (half true) x (wires_walked m) i in
      let b = member_map (half false) y (wires_walked m) j in
      true_not_false (ap (λ (h : Half). h.out) a.2) (ap (λ (h : Half). h.out) (e ∙ b.2)))

  has_slot : (h : Half) → Member h halves → (s : ℕ) × Member s (range 0 port_slots) × SlotOf h s
  unfolding halves
  has_slot h i = ⊎_elim (λ j. there true (member_map (half true) h (wires_walked m) j)) (λ j. there false (member_map (half false) h (wires_walked m) j))
      (member_append h (map (half true) (wires_walked m)) (map (half false) (wires_walked m)) i)
    where
      slotted : (t : Bool) (w : Wire) → WireIn m M w → (z : model.InnerPlace) × IsEnd m M z × (outer m M z ≡ place_in t w)
      slotted true w k = (k.x, k.end, ap (λ (v : Wire). v.out) (sym k.is))
      slotted false w k = (k.y, ends_join_ends f k.x k.y k.end k.joined, ap (λ (v : Wire). v.into) (sym k.is))

      there : (t : Bool) → (w : Wire) × Member w (wires_walked m) × (h ≡ half t w) → (s : ℕ) × Member s (range 0 port_slots) × SlotOf h s
      there t g =
          let k = (walked_is_wires f g.0).0 g.1 in
          let z = slotted t g.0 k in
          let b = slot_in_range f.good z.0 z.1.valid in
          subst (λ (x : Half). (s : ℕ) × Member s (range 0 port_slots) × SlotOf x s) (sym g.2)
          (slot_of M.node z.0, range_member (slot_of M.node z.0) 0 port_slots (omega arith) (omega arith), (z.0, z.1, refl, k, z.2))

  pub wires_few : 2 * length (wires_walked m) ≤ port_slots
  unfolding halves
  wires_few =
      let a = partners SlotOf one_end halves (range 0 port_slots) halves_apart has_slot in
      let b = length-append (map (half true) (wires_walked m)) (map (half false) (wires_walked m)) in
      let c = length-map (wires_walked m) (half true) in
      let d = length-map (wires_walked m) (half false) in
      let e = length_range 0 port_slots in
      omega arith

-- The counts of a view are those of the graph.

pub view_walked : (m : MultiPortGraph) → length (view_of m).wires ≡ length (wires_walked m)
unfolding view_of
view_walked m = sorted_length (map (rank_wire (rank_among (blocks m))) (wires_walked m)) ∙ length-map (wires_walked m) (rank_wire (rank_among (blocks m)))

module _ {m : MultiPortGraph} {M : Model} (f : Fine m M) where
  pub view_blocks : length (view_of m).blocks ≡ visible_nodes m
  unfolding view_of
  view_blocks = length-map (blocks m) (block_ports m) ∙ sym (visible_nodes_lem f)

  pub links_walked : length (wires_walked m) ≡ visible_links m
  links_walked = ap length (walked_places f) ∙ (length-map (all_wires m) (wire_places m) ∙ sym (visible_links_lem f))

  pub view_wires : length (view_of m).wires ≡ visible_links m
  view_wires = view_walked m ∙ links_walked

-- The file of a graph.

module _ {m : MultiPortGraph} {M : Model} (f : Fine m M) where
  pub view_fits : ViewFits (view_of m)
  view_fits = within_fits (view_of m) (view_within f)

  pub file_length_is : length (file_of m) ≡ file_length (visible_nodes m) (visible_links m)
  unfolding file_of
  file_length_is = file_length_lem (view_of m) ∙ (λ i. file_length (view_blocks f i) (view_wires f i))

  pub file_length_most : length (file_of m) ≤ longest_file
  unfolding file_length units_for longest_file
  file_length_most =
      let e = file_length_is in
      let a = blocks_are_few m in
      let b = wires_few f in
      let c = visible_nodes_lem f in
      let d = links_walked f in
      omega arith

-- The view and the book.

counted_as : (f : Wire → RankWire) (v : RankWire) (l : List Wire) → how_many same_wire v (map f l) ≡ count (λ (w : Wire). same_wire (f w) v) l
counted_as f v [] = refl
counted_as f v (w ∷ l) = ap (λ (n : ℕ). flag (same_wire (f w) v) + n) (counted_as f v l)

count_same : (s t : Wire → Bool) (l : List Wire) → ((w : Wire) → Member w l → s w ≡ t w) → count s l ≡ count t l
count_same s t [] h = refl
count_same s t (w ∷ l) h =
    let a = ap flag (h w (inl refl)) in
    let b = count_same s t l (λ v i. h v (inr i)) in
    omega arith

module _ {m : MultiPortGraph} {M : Model} {B : Book} (r : Rel m M B) where
  -- a block of the book has as many ports as the graph's
  side_counted : (b : Block) → Member b B.blocks → block_ports m b.node ≡ record { incoming = length b.ins; outgoing = length b.outs }
  unfolding block_ports
  side_counted b i =
      let s = r.blocks.right b i in
      let k = s.0 in
      let x : num_ports m.graph b.node Incoming ≡ length b.ins =
      count_of_lem r.fine b.node Incoming ∙ (ap (λ (v : Slots). count_of v Incoming) s.1.1 ∙ sym (ap length s.2 ∙ length_range k.first_port.0 k.incoming)) in
      let y : num_ports m.graph b.node Outgoing ≡ length b.outs =
      count_of_lem r.fine b.node Outgoing ∙ (ap (λ (v : Slots). count_of v Outgoing) s.1.1 ∙ sym (ap length s.3 ∙ length_range (k.first_port.0 + k.incoming) k.outgoing)) in
      λ j. record { incoming = x j; outgoing = y j }

  -- the view has the book's blocks, each at its rank
  pub blocks_viewed : (n i o : ℕ) → HasBlock B n i o ↔ At (view_of m).blocks n (record { incoming = i; outgoing = o })
  unfolding view_of
  blocks_viewed n i o = (there, back)
    where
      there : HasBlock B n i o → At (map (block_ports m) (blocks m)) n (record { incoming = i; outgoing = o })
      there h =
          let b = h.0 in
          let s = r.blocks.right b h.1 in
          let there = booked_block r b.node s.0 s.1 in
          let p : rank_among (blocks m) b.node ≡ n = rank_booked r b.node there ∙ h.2 in
          let q : block_ports m b.node ≡ record { incoming = i; outgoing = o } = side_counted b h.1 ∙ (λ j. record { incoming = h.3 j; outgoing = h.4 j }) in
          subst (λ (x : BlockPorts). At (map (block_ports m) (blocks m)) n x) q
          (subst (λ (a : ℕ). At (map (block_ports m) (blocks m)) a (block_ports m b.node)) p (map_at (block_ports m) (blocks m) (rank_among (blocks m) b.node) b.node (rank_at (blocks m) b.node there)))

      back : At (map (block_ports m) (blocks m)) n (record { incoming = i; outgoing = o }) → HasBlock B n i o
      back h =
          let g = at_map (block_ports m) (blocks m) n _ h in
          let there = at_member (blocks m) n g.0 g.1 in
          let k = (blocks_list r.fine).only g.0 there in
          let s = r.blocks.all g.0 k.0 k.1 in
          let e = g.2 ∙ (ap (block_ports m) (sym s.2) ∙ side_counted s.0 s.1) in (
            s.0,
            s.1,
            (ap (rank_in B) s.2 ∙ (sym (rank_booked r g.0 there) ∙ at_rank (blocks m) (numbers_apart (blocks m) (blocks_rise m)) n g.0 g.1)),
            sym (ap (λ (x : BlockPorts). x.incoming) e),
            sym (ap (λ (x : BlockPorts). x.outgoing) e),
          )

  -- a wire of the book by rank, in the graph's words and in the book's
  same_ranks : (w : Wire) → Member w B.wires → rank_wire (rank_among (blocks m)) w ≡ rank_wire (rank_in B) w
  same_ranks w i =
      let e = wire_fits r.fine w (r.wires.booked w i) in
      let a = rank_booked r w.out.node e.0.block in
      let b = rank_booked r w.into.node e.1.block in
      λ j. record { source = a j; output = w.out.pos; target = b j; input = w.into.pos }

  -- the view has as many wires between two ports as the book
  pub wires_viewed : (v : RankWire) → how_many same_wire v (view_of m).wires ≡ wires_between B v
  unfolding view_of
  wires_viewed v =
      let f = rank_wire (rank_among (blocks m)) in
      sorted_counts v (map f (wires_walked m))
      ∙ (counted_as f v (wires_walked m)
      ∙ (same_count (λ (w : Wire). same_wire (f w) v) (wires_walked m) B.wires (walked_once r.fine) r.wires.once
      (λ w i. r.wires.walks w ((walked_is_wires r.fine w).0 i)) (λ w i. (walked_is_wires r.fine w).1 (r.wires.booked w i))
      ∙ count_same (λ (w : Wire). same_wire (f w) v) (λ (w : Wire). same_wire (rank_wire (rank_in B) w) v) B.wires (λ w i. ap (λ (x : RankWire). same_wire x v) (same_ranks w i))))
