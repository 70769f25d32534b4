-- What a reader takes from the bytes of a view is the listings of its graph, and they show the book.
use Rattle.std.specs.Prelude.{◌≡◌, ℕ, zero, suc, ◌+◌, ◌*◌, ◌/◌, ◌%◌, ◌<◌, length, take, drop}
use Rattle.std.proofs.Math.Path.{refl, sym, ap}
use Rattle.std.proofs.Common.{◌∙◌, subst, take_at, drop_at}
use mathlib.Core.List.{List, [], ◌∷◌, ◌++◌, map, flat_map, append_assoc}
use native.Mathlib.Omega.{arith}
use Rattle.std.proofs.Math.ListN.{get_or}
use Rattle.std.proofs.lemmas.Simd.{map-map}
use Rattle.port_tables.specs.Lists.{range, Member, Once, Rising}
use Rattle.portgraph.specs.Lookups.{num_ports}
use Rattle.portgraph.specs.Model as model
use Rattle.portgraph.specs.Model.{Model, Slots, live, slot_of, count_of, side_start}
use Rattle.port_tables.specs.declared.direction.Direction.{Direction}
use Rattle.port_tables.specs.declared.direction.Direction.TheVariants.{Incoming, Outgoing}
use Rattle.port_tables.specs.declared.node_entry.NodeMeta.{NodeMeta}
use Rattle.multiportgraph.specs.Ends.{count_of_lem, ports_of_side_lem, outer_seen, ends_join_ends, place_of_sub}
use Rattle.multiportgraph.specs.WellFormed.{inner#, Fine, BlockIs, Seen, lift}
use Rattle.multiportgraph.specs.Listed.{end_numbers, wire_numbers, wires_listed, first_port, block_numbers, blocks_listed}
use Rattle.port_tables.specs.Listing.{member_map, map_member, map_same_on, member_flat_map, rising_map}
use Rattle.multiportgraph.specs.ListReads.{blocks_length, wires_length}
use Rattle.port_tables.specs.Places.{Place, spot}
use Rattle.multi_tables.specs.Forms.{subport#}
use Rattle.multiportgraph.specs.WalkRule.{listed_is_wire, wire_is_listed, listed_once, blocks_rise}
use Rattle.multiportgraph.specs.Wires.{blocks, all_wires, side_links, place_of, wire_places, ports_of_side}
use Rattle.multiportgraph.specs.declared.multiportgraph.MultiPortGraph.{MultiPortGraph}
use Rattle.multi_tables.specs.declared.answers.SubportIndex.{SubportIndex}
use Rattle.multi_tables.specs.declared.answers.SubportLink.{SubportLink}
use Rattle.theorems.specs.Book.{Block, Book, spot_of}
use Rattle.theorems.specs.ListedLinks.{LinkIs}
use Rattle.theorems.proofs.ListingWires.{side_link}
use Rattle.theorems.proofs.PortListing.{blocks_list}
use Rattle.theorems.proofs.WireRule.{Rel, spot_of_lem}
use Rattle.records.specs.Words.{bytes_of}
use Rattle.exports.specs.Viewed.{view_words, view_bytes}
use Rattle.exports.specs.ViewedClaims.{ShownBlock, ShownEnd, ShownWire, Shown, fours, word_of, shown_block, shown_end, wires_of, words_read, view_read, ShownAs, place_shown, wire_shown, Shows}

-- Reading back.

words_back : (ws rest : List ℕ) → fours word_of (bytes_of ws ++ rest) ≡ ws ++ fours word_of rest
unfolding fours bytes_of
words_back [] rest = refl
words_back (w ∷ ws) rest =
    let e : w % 256 + 256 * (w / 256 % 256) + 65536 * (w / 65536 % 256) + 16777216 * (w / 16777216) ≡ w = omega arith in
    λ j. e j ∷ words_back ws rest j

-- what is shown of a block and of a wire
abbrev block_shown : MultiPortGraph → ℕ → ShownBlock
block_shown m n = record { node = n; incoming = num_ports m.graph n Incoming; outgoing = num_ports m.graph n Outgoing; first = first_port m n }

abbrev end_shown : MultiPortGraph → SubportIndex → ShownEnd
end_shown m s = record { port = s.port.0; offset = s.subport_offset; node = (place_of m s).node; position = (place_of m s).pos }

abbrev link_shown : MultiPortGraph → SubportLink → ShownWire
link_shown m w = record { out = end_shown m w.from; into = end_shown m w.to }

abbrev shown : MultiPortGraph → Shown
shown m = record { blocks = map (block_shown m) (blocks m); wires = map (link_shown m) (all_wires m) }

blocks_back : (m : MultiPortGraph) (l : List ℕ) → fours shown_block (flat_map (block_numbers m) l) ≡ map (block_shown m) l
unfolding fours flat_map block_numbers
blocks_back m [] = refl
blocks_back m (n ∷ l) = ap (λ k. block_shown m n ∷ k) (blocks_back m l)

wires_back : (m : MultiPortGraph) (l : List SubportLink) → wires_of (fours shown_end (flat_map (wire_numbers m) l)) ≡ map (link_shown m) l
unfolding fours flat_map wire_numbers end_numbers wires_of
wires_back m [] = refl
wires_back m (w ∷ l) = ap (λ k. link_shown m w ∷ k) (wires_back m l)

-- the words of a view, with others behind them
words_shown : (m : MultiPortGraph) (r : List ℕ) → words_read (length (blocks m) ∷ length (all_wires m) ∷ (blocks_listed m ++ wires_listed m) ++ r) ≡ shown m
unfolding words_read blocks_listed wires_listed
words_shown m r =
    let b = flat_map (block_numbers m) (blocks m) in
    let w = flat_map (wire_numbers m) (all_wires m) in
    let n = length (blocks m) in
    let e : (b ++ w) ++ r ≡ b ++ (w ++ r) = append_assoc b w r in
    let x : take (4 * n) ((b ++ w) ++ r) ≡ b = ap (take (4 * n)) e ∙ take_at b (w ++ r) (4 * n) (blocks_length m) in
    let y : drop (4 * n) ((b ++ w) ++ r) ≡ w ++ r = ap (drop (4 * n)) e ∙ drop_at b (w ++ r) (4 * n) (blocks_length m) in
    let z : take (8 * length (all_wires m)) (drop (4 * n) ((b ++ w) ++ r)) ≡ w = ap (take (8 * length (all_wires m))) y ∙ take_at w r (8 * length (all_wires m)) (wires_length m) in
    λ j. record {
      blocks = (ap (fours shown_block) x ∙ blocks_back m (blocks m)) j;
      wires = (ap (λ (l : List ℕ). wires_of (fours shown_end l)) z ∙ wires_back m (all_wires m)) j;
    }

-- from the bytes of a view, and whatever follows them
pub view_read_back : (m : MultiPortGraph) (rest : List ℕ) → view_read (view_bytes m ++ rest) ≡ shown m
unfolding view_read view_bytes view_words
view_read_back m rest =
    ap words_read (words_back (length (blocks m) ∷ length (all_wires m) ∷ blocks_listed m ++ wires_listed m) rest) ∙ words_shown m (fours word_of rest)

-- Blocks.

-- the ports of a block from its first port on, which is 0 if there is none
first_is : (f i o : ℕ) → (range f i ≡ range (get_or (range f i ++ range (f + i) o) 0 0) i) × (range (f + i) o ≡ range (get_or (range f i ++ range (f + i) o) 0 0 + i) o)
unfolding range
first_is f zero zero = (refl, refl)
first_is f zero (suc o) = let e : f + 0 ≡ f + 0 + 0 = omega arith in (refl, ap (λ (k : ℕ). range k (suc o)) e)
first_is f (suc i) o = (refl, refl)

module _ {m : MultiPortGraph} {M : Model} {B : Book} (r : Rel m M B) where
  block_shown_lem : (b : Block) → Member b B.blocks → ShownAs b (block_shown m b.node)
  unfolding first_port
  block_shown_lem b i =
      let s = r.blocks.right b i in
      let k = s.0 in
      let f = k.first_port.0 in
      let e = s.1.1 in
      let x : num_ports m.graph b.node Incoming ≡ k.incoming = count_of_lem r.fine b.node Incoming ∙ ap (λ (v : Slots). count_of v Incoming) e in
      let y : num_ports m.graph b.node Outgoing ≡ k.outgoing = count_of_lem r.fine b.node Outgoing ∙ ap (λ (v : Slots). count_of v Outgoing) e in
      let z : f + 0 ≡ f = omega arith in
      let ins : ports_of_side m Incoming b.node ≡ range f k.incoming = ports_of_side_lem r.fine b.node Incoming k e ∙ ap (λ (c : ℕ). range c k.incoming) z in
      let outs : ports_of_side m Outgoing b.node ≡ range (f + k.incoming) k.outgoing = ports_of_side_lem r.fine b.node Outgoing k e in
      let p : get_or (ports_of_side m Incoming b.node ++ ports_of_side m Outgoing b.node) 0 0 ≡ get_or (range f k.incoming ++ range (f + k.incoming) k.outgoing) 0 0 =
      λ j. get_or (ins j ++ outs j) 0 0 in
      let h = first_is f k.incoming k.outgoing in (
        refl,
        s.2 ∙ (h.0 ∙ (λ j. range (sym p j) (sym x j))),
        s.3 ∙ (h.1 ∙ (λ j. range (sym p j + sym x j) (sym y j))),
      )

  blocks_only_lem : (x : ShownBlock) → Member x (map (block_shown m) (blocks m)) → (b : Block) × Member b B.blocks × ShownAs b x
  blocks_only_lem x i =
      let g = member_map (block_shown m) x (blocks m) i in
      let k = (blocks_list r.fine).only g.0 g.1 in
      let s = r.blocks.all g.0 k.0 k.1 in
      (s.0, s.1, subst (ShownAs s.0) (ap (block_shown m) s.2 ∙ sym g.2) (block_shown_lem s.0 s.1))

  blocks_all_lem : (b : Block) → Member b B.blocks → (x : ShownBlock) × Member x (map (block_shown m) (blocks m)) × ShownAs b x
  blocks_all_lem b i =
      let s = r.blocks.right b i in
      (block_shown m b.node, map_member (block_shown m) b.node (blocks m) ((blocks_list r.fine).all b.node s.0 s.1), block_shown_lem b i)

  blocks_ascend : Rising ◌<◌ (map (λ (x : ShownBlock). x.node) (map (block_shown m) (blocks m)))
  blocks_ascend =
      rising_map (λ (x y : ShownBlock). x.node < y.node) ◌<◌ (λ (x : ShownBlock). x.node) (map (block_shown m) (blocks m))
      (rising_map ◌<◌ (λ (x y : ShownBlock). x.node < y.node) (block_shown m) (blocks m) (blocks_rise m) (λ a c i j l. l)) (λ a c i j l. l)

-- Wires.

-- a listed wire by the places of its two ends
record ListedEnds (m : MultiPortGraph) (M : Model) (w : SubportLink) : Type 0 where
  pub from : model.InnerPlace
  pub into : model.InnerPlace
  pub from_seen : Seen m M from
  pub into_seen : Seen m M into
  pub from_at : slot_of M.node from ≡ w.from.port.0
  pub into_at : slot_of M.node into ≡ w.to.port.0
  pub from_side : from.side ≡ Outgoing
  pub into_side : into.side ≡ Incoming

listed_ends : {m : MultiPortGraph} {M : Model} → Fine m M → (w : SubportLink) → Member w (all_wires m) → ListedEnds m M w
unfolding all_wires
listed_ends {m} {M} f w i = go l.y.side refl
  where
    g : (n : ℕ) × Member n (blocks m) × Member w (side_links m Outgoing n)
    g = member_flat_map (side_links m Outgoing) w (blocks m) i

    k : (k : NodeMeta) × BlockIs m M g.0 k
    k = (blocks_list f).only g.0 g.1

    s : (i : ℕ) × LinkIs m M (inner# g.0 Outgoing i) w
    s = side_link f g.0 k.1.0 Outgoing w g.2

    l : LinkIs m M (inner# g.0 Outgoing s.0) w
    l = s.1

    go : (d : Direction) → l.y.side ≡ d → ListedEnds m M w
    go Incoming e =
        let o = outer_seen f l.y (ends_join_ends f l.z l.y l.end l.joined) in
        record {
          from = inner# g.0 Outgoing s.0;
          into = o.main;
          from_seen = l.is_seen;
          into_seen = o.is_seen;
          from_at = l.slot;
          into_at = sym (ap (λ (t : SubportIndex). t.port.0) (l.far ∙ o.read));
          from_side = refl;
          into_side = sym o.side ∙ e;
        }
    go Outgoing e = absurd (f.good.join_sides l.z l.y l.joined (l.side ∙ sym e))

module _ {m : MultiPortGraph} {M : Model} (f : Fine m M) where
  -- the place of an end, and what is shown of it
  end_place : (t : SubportIndex) (x : model.InnerPlace) → Seen m M x → slot_of M.node x ≡ t.port.0 → place_of m t ≡ lift x t.subport_offset
  end_place t x s e = ap (λ (p : ℕ). place_of m (subport# p t.subport_offset)) (sym e) ∙ place_of_sub f x t.subport_offset s

  end_shown_lem : (t : SubportIndex) (x : model.InnerPlace) → Seen m M x → slot_of M.node x ≡ t.port.0 → (d : Direction) → x.side ≡ d → place_shown d (end_shown m t) ≡ place_of m t
  end_shown_lem t x s e d h =
      let p = end_place t x s e in
      λ j. record { node = (place_of m t).node; side = (sym h ∙ sym (ap (λ (q : Place). q.side) p)) j; pos = (place_of m t).pos; offset = sym (ap (λ (q : Place). q.offset) p) j }

  wire_shown_lem : (w : SubportLink) → Member w (all_wires m) → wire_shown (link_shown m w) ≡ wire_places m w
  wire_shown_lem w i =
      let l = listed_ends f w i in
      let a = end_shown_lem w.from l.from l.from_seen l.from_at Outgoing l.from_side in
      let b = end_shown_lem w.to l.into l.into_seen l.into_at Incoming l.into_side in
      λ j. record { out = a j; into = b j }

module _ {m : MultiPortGraph} {M : Model} {B : Book} (r : Rel m M B) where
  wires_shown : map wire_shown (map (link_shown m) (all_wires m)) ≡ map (wire_places m) (all_wires m)
  wires_shown = map-map wire_shown (link_shown m) (all_wires m) ∙ map_same_on (λ w. wire_shown (link_shown m w)) (wire_places m) (all_wires m) (wire_shown_lem r.fine)

  -- where the port of an end stands
  end_spot : (t : SubportIndex) (x : model.InnerPlace) → Seen m M x → slot_of M.node x ≡ t.port.0 → (d : Direction) → x.side ≡ d →
      spot_of B.blocks t.port.0 ≡ spot (place_of m t).node d (place_of m t).pos
  end_spot t x s e d h =
      let p = end_place r.fine t x s e in
      ap (spot_of B.blocks) (sym e) ∙ (spot_of_lem r x s ∙ (λ j. spot (sym p j).node (h j) (sym p j).pos))

  out_port_lem : (x : ShownWire) → Member x (map (link_shown m) (all_wires m)) → spot_of B.blocks x.out.port ≡ spot x.out.node Outgoing x.out.position
  out_port_lem x i =
      let g = member_map (link_shown m) x (all_wires m) i in
      let l = listed_ends r.fine g.0 g.1 in
      subst (λ (y : ShownWire). spot_of B.blocks y.out.port ≡ spot y.out.node Outgoing y.out.position) (sym g.2)
      (end_spot g.0.from l.from l.from_seen l.from_at Outgoing l.from_side)

  in_port_lem : (x : ShownWire) → Member x (map (link_shown m) (all_wires m)) → spot_of B.blocks x.into.port ≡ spot x.into.node Incoming x.into.position
  in_port_lem x i =
      let g = member_map (link_shown m) x (all_wires m) i in
      let l = listed_ends r.fine g.0 g.1 in
      subst (λ (y : ShownWire). spot_of B.blocks y.into.port ≡ spot y.into.node Incoming y.into.position) (sym g.2)
      (end_spot g.0.to l.into l.into_seen l.into_at Incoming l.into_side)

  -- what is shown of a graph shows its book
  pub graph_shows : Shows B (shown m)
  graph_shows =
      record {
        ascending = blocks_ascend r;
        blocks_only = blocks_only_lem r;
        blocks_all = blocks_all_lem r;
        wires_once = subst Once (sym wires_shown) (listed_once r.fine);
        wires_only = λ w i. r.wires.walks w (listed_is_wire r.fine w (subst (Member w) wires_shown i));
        wires_all = λ w i. subst (Member w) (sym wires_shown) (wire_is_listed r.fine w (r.wires.booked w i));
        out_port = out_port_lem;
        in_port = in_port_lem;
      }
