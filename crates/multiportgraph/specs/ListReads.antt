-- What one pass over lent tables lists is what the walk lists: under MultiWf each end, the wires of a port, of a block, and all;
-- and all blocks.
use Rattle.std.specs.Prelude.{◌≡◌, Bool, ℕ, zero, suc, ◌+◌, ◌-◌, ◌*◌, ◌≤◌, ◌<◌, eqb, length, Option, Some, None, Result, Ok}
use Rattle.std.proofs.Math.Path.{refl, sym, ap}
use Rattle.std.proofs.Common.{◌∙◌, inl, inr, length-append}
use Rattle.std.proofs.Math.Bool.{true, false, cond}
use mathlib.Core.List.{List, [], ◌∷◌, ◌++◌, append-nil, flat_map}
use native.Mathlib.Omega.{arith}
use Rattle.std.proofs.Math.ListN.{get_or}
use borrow.Author.Tests.{eq-eqb, ne_eqb, lt-ltb}
use Rattle.port_tables.specs.Limits.{node_slots, node_ports}
use Rattle.port_tables.specs.Lists.{range, Member}
use Rattle.std.specs.List.{filter}
use Rattle.port_tables.specs.Entries.{reversed, port#}
use Rattle.port_tables.specs.Tables.{at}
use Rattle.portgraph.specs.Lookups.{meta_at, is_some, count_in, port_link}
use Rattle.portgraph.specs.Model as model
use Rattle.portgraph.specs.Model.{Model, Far, nowhere, to, Slots, live, Valid, slot_of, count_of, first_of, side_start}
use Rattle.port_tables.specs.NodeTable.{meta_in}
use Rattle.portgraph.specs.WfFacts.{link_count_fits, node_count_fits, node_len_fits}
use Rattle.portgraph.specs.PlaceLaws.{meta_of_node, node_of_meta, link_to, link_none, port_link_to, port_link_none}
use Rattle.portgraph.specs.GoodSlots.{zero_is_not_one, slot_in_block}
use Rattle.port_tables.specs.declared.direction.Direction.{Direction}
use Rattle.port_tables.specs.declared.direction.Direction.TheVariants.{Incoming, Outgoing}
use Rattle.port_tables.specs.declared.sides.Sides.TheVariants.{One}
use Rattle.port_tables.specs.declared.node_entry.NodeMeta.{NodeMeta}
use Rattle.multiportgraph.specs.Reading.{owner_of, position_of, is_hidden, is_split, seen, copy_node, copy_side, subports, subport_at, end_at, subport_of, standing_of, far_subport, link_of_end}
use Rattle.multi_tables.specs.Forms.{visible, inner, End, subport#, wire_to, flag_at}
use Rattle.multiportgraph.specs.Calls.{visible_nodes, visible_links}
use Rattle.multiportgraph.specs.Wires.{is_block, blocks, wire_of, side_links, all_wires, place_of}
use Rattle.multiportgraph.specs.Walks.{port_links}
use Rattle.multiportgraph.specs.WellFormed.{inner#, copy_place, MultiWf, IsEnd}
use Rattle.multiportgraph.specs.Ends.{Hangs, EndOf, BlockPort, block_seen, split_has_copy, owner_of_lem, position_of_lem, end_side, end_read, ends_join_ends, other_side, main_seen, main_side, subport_of_hidden, subport_of_block, map_range}
use Rattle.port_tables.specs.Listing.{member_range}
use Rattle.multi_tables.specs.TableReads.{far_in, owner_in}
use Rattle.multiportgraph.specs.TableReadLaws.{far_is, owner_read, mark_told, flag_told}
use Rattle.multiportgraph.specs.ScanLaws.{links_from_to, ports_across, range_append, flat_map_same, flat_map_map, flat_map_flat_map, port_seen_there, side_in_row, links_in_row, links_of_split, links_of_plain, flat_map_append}
use Rattle.multiportgraph.specs.CallSteps.{lower_wf}
use Rattle.multiportgraph.specs.CountLaws.{visible_nodes_lem, visible_links_lem}
use Rattle.multiportgraph.specs.Listed.{end_numbers, wire_numbers, wires_listed, first_port, block_numbers, blocks_listed, list_after, list_answer}
use Rattle.multiportgraph.specs.ListScans.{end_words, first_of_meta, in_end, far_end, out_end, slot_wire, subport_wire, split_wires, port_wires, place_wires, side_wires, node_wires, table_wires, of_block, port_of_meta, block_words, node_block, table_blocks, AllFit}
use Rattle.multiportgraph.specs.declared.list_ends.TooShort.{TooShort}
use Rattle.multiportgraph.specs.declared.multiportgraph.MultiPortGraph.{MultiPortGraph}
use Rattle.multi_tables.specs.declared.answers.SubportIndex.{SubportIndex}
use Rattle.multi_tables.specs.declared.answers.PortPlace.{PortPlace}
use Rattle.multi_tables.specs.declared.answers.SubportLink.{SubportLink}
use Rattle.port_tables.specs.declared.index.PortIndex.{PortIndex}
use Rattle.portgraph.specs.declared.portgraph.NoSuchPort.{NoSuchPort}

-- Lists.

-- what is gathered over those for which a test holds
flat_map_filter : {A B : Type 0} (f : A → List B) (t : A → Bool) (l : List A) → flat_map f (filter t l) ≡ flat_map (λ x. cond (t x) (f x) []) l
unfolding flat_map
flat_map_filter f t [] = refl
flat_map_filter {A} {B} f t (x ∷ l) = go (t x) (flat_map_filter f t l)
  where
    go : (b : Bool) → flat_map f (filter t l) ≡ flat_map (λ x. cond (t x) (f x) []) l → flat_map f (cond b (x ∷ filter t l) (filter t l)) ≡ cond b (f x) [] ++ flat_map (λ x. cond (t x) (f x) []) l
    go true e = ap (λ (r : List B). f x ++ r) e
    go false e = e

flat_map_none : {A B : Type 0} (f : A → List B) (l : List A) → ((x : A) → Member x l → f x ≡ []) → flat_map f l ≡ []
unfolding flat_map
flat_map_none f [] h = refl
flat_map_none f (x ∷ l) h =
    let a = h x (inl refl) in
    let r = flat_map_none f l (λ y i. h y (inr i)) in
    λ i. a i ++ r i

-- items of equal length
pub flat_map_length : {A B : Type 0} (f : A → List B) (c : ℕ) → ((x : A) → length (f x) ≡ c) → (l : List A) → length (flat_map f l) ≡ c * length l
unfolding flat_map
flat_map_length f c h [] = omega arith
flat_map_length f c h (x ∷ l) =
    let a = length-append (f x) (flat_map f l) in
    let r = flat_map_length f c h l in
    let e = h x in
    a ∙ (λ i. e i + r i) ∙ go
  where
    go : c + c * length l ≡ c * suc (length l)
    go = omega arith

pub wire_length : (m : MultiPortGraph) (w : SubportLink) → length (wire_numbers m w) ≡ 8
unfolding wire_numbers end_numbers
wire_length m w = refl

-- eight numbers a wire
pub wires_length : (m : MultiPortGraph) → length (wires_listed m) ≡ 8 * length (all_wires m)
unfolding wires_listed
wires_length m = flat_map_length (wire_numbers m) 8 (wire_length m) (all_wires m)

pub block_length : (m : MultiPortGraph) (n : ℕ) → length (block_numbers m n) ≡ 4
unfolding block_numbers
block_length m n = refl

-- four numbers a block
pub blocks_length : (m : MultiPortGraph) → length (blocks_listed m) ≡ 4 * length (blocks m)
unfolding blocks_listed
blocks_length m = flat_map_length (block_numbers m) 4 (block_length m) (blocks m)

-- the first of consecutive numbers, if there is one
first_of_range : (i c : ℕ) → cond (eqb c 0) 0 i ≡ get_or (range i c) 0 0
unfolding range
first_of_range i zero = refl
first_of_range i (suc c) = rw (ne_eqb (suc c) 0 (λ e. omega arith))

-- the numbers at a row of slots, by position
flat_map_shift : {B : Type 0} (f : ℕ → List B) (s c : ℕ) → flat_map f (range s c) ≡ flat_map (λ i. f (s + i)) (range 0 c)
flat_map_shift f s c =
    let q : s + 0 ≡ s = omega arith in
    ap (flat_map f) (ap (λ (k : ℕ). range k c) (sym q) ∙ sym (map_range (λ i. s + i) s 0 c (λ j l. refl)))
    ∙ flat_map_map f (λ i. s + i) (range 0 c)

module _ (graph : MultiPortGraph) (w : MultiWf graph) where
  abbrev M : Model
  M = w.model

  meta_there : (n : ℕ) → meta_in graph.graph.node_meta n ≡ meta_at graph.graph n
  meta_there n = refl

  meta_live : (n : ℕ) (k : NodeMeta) → M.node n ≡ live k → meta_in graph.graph.node_meta n ≡ Some k
  meta_live n k e = meta_there n ∙ meta_of_node w.fine.good w.fine.holds n k e

  live_meta : (n : ℕ) (k : NodeMeta) → meta_in graph.graph.node_meta n ≡ Some k → M.node n ≡ live k
  live_meta n k e = node_of_meta w.fine.good w.fine.holds n k (sym (meta_there n) ∙ e)

  -- Ends.

  owner_in_lem : (z : model.InnerPlace) → Valid M.node z → owner_in graph.graph.port_meta (slot_of M.node z) ≡ z.node
  unfolding owner_in owner_of
  owner_in_lem z v = owner_of_lem w.fine z v

  -- an incoming port's position is counted from its node's first port
  position_in : (z : model.InnerPlace) → Valid M.node z → z.side ≡ Incoming → slot_of M.node z - first_of_meta (meta_in graph.graph.node_meta z.node) ≡ z.pos
  position_in z v s =
      let r = slot_in_block w.fine.good z v in
      let a : first_of (M.node z.node) ≡ r.0.first_port.0 = ap first_of r.1 in
      let b : first_of_meta (meta_in graph.graph.node_meta z.node) ≡ r.0.first_port.0 = ap first_of_meta (meta_live z.node r.0 r.1) in
      let c : side_start (M.node z.node) z.side ≡ 0 = ap (side_start (M.node z.node)) s in
      omega arith

  in_end_is : (z : model.InnerPlace) (o : ℕ) → Valid M.node z → z.side ≡ Incoming → end_words (in_end graph.graph.node_meta graph.graph.port_meta (slot_of M.node z) o) ≡ end_numbers graph (subport# (slot_of M.node z) o)
  unfolding in_end end_numbers place_of
  in_end_is z o v s =
      let a = owner_in_lem z v in
      let b = owner_of_lem w.fine z v in
      let n : owner_in graph.graph.port_meta (slot_of M.node z) ≡ owner_of graph.graph (slot_of M.node z) = a ∙ sym b in
      let q : slot_of M.node z - first_of_meta (meta_in graph.graph.node_meta (owner_in graph.graph.port_meta (slot_of M.node z))) ≡ position_of graph.graph (slot_of M.node z) =
      ap (λ (x : ℕ). slot_of M.node z - first_of_meta (meta_in graph.graph.node_meta x)) a ∙ (position_in z v s ∙ sym (position_of_lem w.fine z v)) in
      λ i. slot_of M.node z ∷ o ∷ n i ∷ q i ∷ []

  incoming_reversed : (d : Direction) → Incoming ≡ reversed d → d ≡ Outgoing
  incoming_reversed Incoming e = absurd (zero_is_not_one (cc))
  incoming_reversed Outgoing e = refl

  -- the incoming end of a wire: by its inner port, or by the main port of its hidden node
  far_end_is : (y : model.InnerPlace) → IsEnd graph M y → y.side ≡ Incoming → end_words (far_end graph.graph.node_meta graph.graph.port_link graph.graph.port_meta graph.copy_node (slot_of M.node y)) ≡ end_numbers graph (subport_of graph (slot_of M.node y))
  unfolding far_end
  far_end_is y e s = go (is_hidden graph y.node) refl
    where
      told : (b : Bool) → is_hidden graph y.node ≡ b → flag_at graph.copy_node node_slots (owner_in graph.graph.port_meta (slot_of M.node y)) ≡ b
      told b h = ap (flag_at graph.copy_node node_slots) (owner_in_lem y e.valid) ∙ (flag_told w.fine y.node ∙ h)

      go : (b : Bool) → is_hidden graph y.node ≡ b → end_words (far_end graph.graph.node_meta graph.graph.port_link graph.graph.port_meta graph.copy_node (slot_of M.node y)) ≡ end_numbers graph (subport_of graph (slot_of M.node y))
      go false h = rw (told false h) (in_end_is y 0 e.valid s ∙ ap (end_numbers graph) (sym (subport_of_block w.fine y (e.valid, h))))
      go true h =
          let k = w.fine.copy y.node h in
          let c : copy_side graph y.node ≡ Outgoing = incoming_reversed (copy_side graph y.node) (sym s ∙ end_side w.fine y e h) in
          let x : meta_in graph.graph.node_meta (owner_in graph.graph.port_meta (slot_of M.node y)) ≡ Some k.meta = ap (meta_in graph.graph.node_meta) (owner_in_lem y e.valid) ∙ meta_live y.node k.meta k.here in
          let f : first_of (M.node y.node) ≡ k.meta.first_port.0 = ap first_of k.here in
          let i : count_of (M.node y.node) Incoming ≡ k.meta.incoming = ap (λ (v : Slots). count_of v Incoming) k.here in
          let z : side_start (M.node y.node) y.side ≡ 0 = ap (side_start (M.node y.node)) s in
          let d : side_start (M.node y.node) (copy_side graph y.node) ≡ count_of (M.node y.node) Incoming = ap (side_start (M.node y.node)) c in
          let t : k.meta.first_port.0 + k.meta.incoming ≡ slot_of M.node (copy_place graph y.node) = omega arith in
          let q : far_in graph.graph.port_link (k.meta.first_port.0 + k.meta.incoming) ≡ slot_of M.node k.main = ap (far_in graph.graph.port_link) t ∙ far_is w.fine (copy_place graph y.node) k.main k.joined in
          let o : slot_of M.node y - k.meta.first_port.0 ≡ y.pos = omega arith in
          let r : k.main.side ≡ Incoming = main_side w.fine y.node k.main k.joined ∙ ap reversed c in
          rw (told true h, x)
          ((λ j. end_words (in_end graph.graph.node_meta graph.graph.port_meta (q j) (o j)))
          ∙ (in_end_is k.main y.pos (main_seen w.fine y.node k.main h k.joined).0 r
          ∙ ap (end_numbers graph) (sym (subport_of_hidden w.fine y k.main e.valid h k.joined))))

  -- Wires.

  wire_by_end : (p o s : ℕ) → end_at graph p Outgoing o ≡ inner s → wire_of graph Outgoing (subport# p o) ≡ wire_to (subport# p o) (far_subport graph (port_link graph.graph s))
  unfolding wire_of
  wire_by_end p o s e = ap (λ (x : End). wire_to (subport# p o) (link_of_end graph p x)) e

  one_wire : (a b : SubportIndex) (x : PortPlace) → flat_map (wire_numbers graph) (record { from = a; to = b; place = x } ∷ []) ≡ end_numbers graph a ++ end_numbers graph b
  unfolding flat_map wire_numbers
  one_wire a b x = append-nil (end_numbers graph a ++ end_numbers graph b)

  no_wire : flat_map (wire_numbers graph) [] ≡ []
  unfolding flat_map
  no_wire = refl

  outgoing_end : (p n i o : ℕ) → owner_of graph.graph p ≡ n → position_of graph.graph p ≡ i → end_words (out_end p o n i) ≡ end_numbers graph (subport# p o)
  unfolding end_numbers place_of
  outgoing_end p n i o a b = λ j. p ∷ o ∷ sym a j ∷ sym b j ∷ []

  -- the wire at an end of an outgoing port
  slot_wire_is : (p n i o s : ℕ) → seen graph p ≡ visible n Outgoing → position_of graph.graph p ≡ i → end_at graph p Outgoing o ≡ inner s
      → slot_wire graph.graph.node_meta graph.graph.port_link graph.graph.port_meta graph.copy_node (out_end p o n i) s ≡ flat_map (wire_numbers graph) (wire_of graph Outgoing (subport# p o))
  unfolding slot_wire
  slot_wire_is p n i o s see pos e = go (M.join end.end) refl
    where
      block : BlockPort graph M p n Outgoing
      block = block_seen w.fine p n Outgoing see

      end : EndOf graph M block.place o s
      end = end_read w.fine block.place o s block.is_seen ((λ j. end_at graph (block.slot j) (block.side j) o) ∙ e)

      from : end_words (out_end p o n i) ≡ end_numbers graph (subport# p o)
      from = outgoing_end p n i o (ap (owner_of graph.graph) (sym block.slot) ∙ (owner_of_lem w.fine block.place block.is_seen.0 ∙ block.node)) pos

      go : (y : Far) → M.join end.end ≡ y → slot_wire graph.graph.node_meta graph.graph.port_link graph.graph.port_meta graph.copy_node (out_end p o n i) s ≡ flat_map (wire_numbers graph) (wire_of graph Outgoing (subport# p o))
      go nowhere j =
          let z : at graph.graph.port_link s ≡ 0 = ap (at graph.graph.port_link) (sym end.slot) ∙ link_none w.fine.good w.fine.holds end.end end.is_end.valid j in
          let l : port_link graph.graph s ≡ Ok None = ap (port_link graph.graph) (sym end.slot) ∙ port_link_none w.fine.good w.fine.holds end.end end.is_end.valid j in
          rw (eq-eqb (at graph.graph.port_link s) 0 z)
          (sym (ap (flat_map (wire_numbers graph)) (wire_by_end p o s e ∙ ap (λ (x : Result (Option PortIndex) NoSuchPort). wire_to (subport# p o) (far_subport graph x)) l) ∙ no_wire))
      go (to y) j =
          let z : at graph.graph.port_link s ≡ suc (slot_of M.node y) = ap (at graph.graph.port_link) (sym end.slot) ∙ link_to w.fine.good w.fine.holds end.end y end.is_end.valid j in
          let l : port_link graph.graph s ≡ Ok (Some (port# (slot_of M.node y))) = ap (port_link graph.graph) (sym end.slot) ∙ port_link_to w.fine.good w.fine.holds end.end y end.is_end.valid j in
          let q : far_in graph.graph.port_link s ≡ slot_of M.node y = ap (far_in graph.graph.port_link) (sym end.slot) ∙ far_is w.fine end.end y j in
          let d : y.side ≡ Incoming = other_side end.end.side y.side (w.fine.good.join_sides end.end y j) ∙ ap reversed (end.side ∙ block.side) in
          let t : end_words (far_end graph.graph.node_meta graph.graph.port_link graph.graph.port_meta graph.copy_node (far_in graph.graph.port_link s)) ≡ end_numbers graph (subport_of graph (slot_of M.node y)) =
          ap (λ (x : ℕ). end_words (far_end graph.graph.node_meta graph.graph.port_link graph.graph.port_meta graph.copy_node x)) q ∙ far_end_is y (ends_join_ends w.fine end.end y end.is_end j) d in
          rw (ne_eqb (at graph.graph.port_link s) 0 (λ h. omega arith))
          ((λ x. from x ++ t x)
          ∙ (sym (one_wire (subport# p o) (subport_of graph (slot_of M.node y)) (standing_of graph (slot_of M.node y)))
          ∙ ap (flat_map (wire_numbers graph)) (sym (wire_by_end p o s e ∙ ap (λ (x : Result (Option PortIndex) NoSuchPort). wire_to (subport# p o) (far_subport graph x)) l))))

  -- the wires of a block's outgoing port
  module _ (n : ℕ) (k : NodeMeta) (open_node : is_hidden graph n ≡ false) (meta : meta_at graph.graph n ≡ Some k) (i : ℕ) (h : i < k.outgoing) where
    abbrev port : ℕ
    port = k.first_port.0 + k.incoming + i

    see : seen graph port ≡ visible n Outgoing
    see = port_seen_there w n k open_node meta Outgoing port (omega arith) (omega arith)

    position : position_of graph.graph port ≡ i
    position =
        let l : M.node n ≡ live k = node_of_meta w.fine.good w.fine.holds n k meta in
        let c : count_of (M.node n) Outgoing ≡ k.outgoing = ap (λ (v : Slots). count_of v Outgoing) l in
        let s : slot_of M.node (inner# n Outgoing i) ≡ port = ap (λ (v : Slots). first_of v + (side_start v Outgoing + i)) l ∙ omega arith in
        ap (position_of graph.graph) (sym s) ∙ position_of_lem w.fine (inner# n Outgoing i) (omega arith)

    plain_end : is_split graph port ≡ false → end_at graph port Outgoing 0 ≡ inner port
    unfolding end_at
    plain_end t = rw t

    module _ (t : is_split graph port ≡ true) where
      block : BlockPort graph M port n Outgoing
      block = block_seen w.fine port n Outgoing see

      hang : Hangs graph M block.place
      hang = split_has_copy w.fine block.place block.is_seen (ap (is_split graph) block.slot ∙ t)

      copy : NodeMeta
      copy = (w.fine.copy hang.copy hang.is_copy).meta

      copy_here : M.node hang.copy ≡ live copy
      unfolding copy
      copy_here = (w.fine.copy hang.copy hang.is_copy).here

      copy_meta : meta_in graph.graph.node_meta (owner_in graph.graph.port_meta (far_in graph.graph.port_link port)) ≡ Some copy
      copy_meta =
          ap (meta_in graph.graph.node_meta) (owner_read w.fine port n Outgoing see t ∙ (ap (copy_node graph) (sym block.slot) ∙ hang.copy_is))
          ∙ meta_live hang.copy copy copy_here

      copy_ports : count_of (M.node hang.copy) block.place.side ≡ copy.outgoing
      copy_ports = ap (count_of (M.node hang.copy)) block.side ∙ ap (λ (v : Slots). count_of v Outgoing) copy_here

      copy_subports : subports graph port Outgoing ≡ copy.outgoing
      copy_subports = (λ j. subports graph (sym block.slot j) (sym block.side j)) ∙ (hang.count ∙ copy_ports)

      subport_slot : (o : ℕ) → o < copy.outgoing → subport_at graph port Outgoing o ≡ copy.first_port.0 + copy.incoming + o
      subport_slot o l =
          let c = copy_ports in
          (λ j. subport_at graph (sym block.slot j) (sym block.side j) o)
          ∙ (hang.reads o (omega arith)
          ∙ (ap (λ (d : Direction). slot_of M.node (inner# hang.copy d o)) block.side
          ∙ (ap (λ (v : Slots). first_of v + (side_start v Outgoing + o)) copy_here ∙ omega arith)))

      split_end : (o : ℕ) → o < copy.outgoing → end_at graph port Outgoing o ≡ inner (copy.first_port.0 + copy.incoming + o)
      unfolding end_at
      split_end o l = let c = copy_subports in rw (t, lt-ltb o (subports graph port Outgoing) (omega arith)) (ap inner (subport_slot o l))

      split_wires_are : split_wires graph.graph.node_meta graph.graph.port_link graph.graph.port_meta graph.copy_node port n i copy ≡ flat_map (wire_numbers graph) (port_links graph port)
      unfolding split_wires subport_wire
      split_wires_are =
          flat_map_same (subport_wire graph.graph.node_meta graph.graph.port_link graph.graph.port_meta graph.copy_node port n i (copy.first_port.0 + copy.incoming)) (λ o. flat_map (wire_numbers graph) (wire_of graph Outgoing (subport# port o))) (range 0 copy.outgoing)
          (λ o j. let r = member_range o 0 copy.outgoing j in slot_wire_is port n i o (copy.first_port.0 + copy.incoming + o) see position (split_end o (omega arith)))
          ∙ (sym (flat_map_flat_map (wire_numbers graph) (λ o. wire_of graph Outgoing (subport# port o)) (range 0 copy.outgoing))
          ∙ ap (flat_map (wire_numbers graph))
          (ap (λ (c : ℕ). flat_map (λ o. wire_of graph Outgoing (subport# port o)) (range 0 c)) (sym copy_subports) ∙ sym (links_of_split graph port n Outgoing see t)))

    place_wires_are : place_wires graph.graph.node_meta graph.graph.port_link graph.graph.port_meta graph.multiport graph.copy_node n (k.first_port.0 + k.incoming) i ≡ flat_map (wire_numbers graph) (port_links graph port)
    unfolding place_wires port_wires
    place_wires_are = go (is_split graph port) refl
      where
        go : (b : Bool) → is_split graph port ≡ b → place_wires graph.graph.node_meta graph.graph.port_link graph.graph.port_meta graph.multiport graph.copy_node n (k.first_port.0 + k.incoming) i ≡ flat_map (wire_numbers graph) (port_links graph port)
        go true t = rw (mark_told w.fine port ∙ t, copy_meta t) (split_wires_are t)
        go false t =
            rw (mark_told w.fine port ∙ t)
            (slot_wire_is port n i 0 port see position (plain_end t) ∙ ap (flat_map (wire_numbers graph)) (sym (links_of_plain graph port n Outgoing see t)))

  -- of a block
  side_wires_are : (n : ℕ) (k : NodeMeta) → is_hidden graph n ≡ false → meta_at graph.graph n ≡ Some k → side_wires graph.graph.node_meta graph.graph.port_link graph.graph.port_meta graph.multiport graph.copy_node n k ≡ flat_map (wire_numbers graph) (side_links graph Outgoing n)
  unfolding side_wires links_from_to
  side_wires_are n k h e =
      let c : k.outgoing ≡ ports_across k (One Outgoing) = omega arith in
      flat_map_same (place_wires graph.graph.node_meta graph.graph.port_link graph.graph.port_meta graph.multiport graph.copy_node n (k.first_port.0 + k.incoming)) (λ i. flat_map (wire_numbers graph) (port_links graph (k.first_port.0 + k.incoming + i))) (range 0 k.outgoing)
      (λ i j. let r = member_range i 0 k.outgoing j in place_wires_are n k h e i (omega arith))
      ∙ (sym (flat_map_shift (λ p. flat_map (wire_numbers graph) (port_links graph p)) (k.first_port.0 + k.incoming) k.outgoing)
      ∙ (sym (flat_map_flat_map (wire_numbers graph) (port_links graph) (range (k.first_port.0 + k.incoming) k.outgoing))
      ∙ ap (flat_map (wire_numbers graph)) (ap (λ (x : ℕ). flat_map (port_links graph) (range (k.first_port.0 + k.incoming) x)) c ∙ sym (links_in_row w n k h e (One Outgoing)))))

  -- beyond the used part of the node table there is no node
  no_node : (n : ℕ) → graph.graph.node_len ≤ n → meta_in graph.graph.node_meta n ≡ None
  no_node n l = go (meta_in graph.graph.node_meta n) refl
    where
      go : (x : Option NodeMeta) → meta_in graph.graph.node_meta n ≡ x → x ≡ None
      go None e = refl
      go (Some k) e =
          let a = w.fine.good.node_used n k (live_meta n k e) in
          let b = w.fine.holds.node_len in
          absurd (omega arith)

  pub len_fits : graph.graph.node_len ≤ node_slots
  len_fits = node_len_fits graph.graph (lower_wf graph w)

  -- what is gathered over the used node slots is gathered over all
  flat_map_used : (f : ℕ → List ℕ) → ((n : ℕ) → meta_in graph.graph.node_meta n ≡ None → f n ≡ []) → flat_map f (range 0 graph.graph.node_len) ≡ flat_map f (range 0 node_slots)
  flat_map_used f h =
      let u = len_fits in
      let len = graph.graph.node_len in
      sym (ap (flat_map f) (range_append 0 len (node_slots - len) node_slots (omega arith))
      ∙ (flat_map_append f (range 0 len) (range (0 + len) (node_slots - len))
      ∙ (ap (λ (r : List ℕ). flat_map f (range 0 len) ++ r) (flat_map_none f (range (0 + len) (node_slots - len)) (λ n i. let r = member_range n (0 + len) (node_slots - len) i in h n (no_node n (omega arith))))
      ∙ append-nil (flat_map f (range 0 len)))))

  -- What a pass over the node slots gathers: what f gives for a block's meta data, where that is what g gives for the block.
  module _ (f : ℕ → NodeMeta → List ℕ) (g : ℕ → List ℕ) (same : (n : ℕ) (k : NodeMeta) → is_hidden graph n ≡ false → meta_at graph.graph n ≡ Some k → f n k ≡ g n) where
    slot_gives : (n : ℕ) → of_block (f n) (flag_at graph.copy_node node_slots n) (meta_in graph.graph.node_meta n) ≡ cond (is_block graph n) (g n) []
    unfolding is_block
    slot_gives n = (λ i. of_block (f n) (flag_told w.fine n i) (meta_there n i)) ∙ go (is_hidden graph n) refl (meta_at graph.graph n) refl
      where
        go : (b : Bool) → is_hidden graph n ≡ b → (x : Option NodeMeta) → meta_at graph.graph n ≡ x → of_block (f n) b x ≡ cond (cond b false (is_some x)) (g n) []
        go true h None e = refl
        go true h (Some k) e = refl
        go false h None e = refl
        go false h (Some k) e = same n k h e

    blocks_give : flat_map (λ n. of_block (f n) (flag_at graph.copy_node node_slots n) (meta_in graph.graph.node_meta n)) (range 0 graph.graph.node_len) ≡ flat_map g (blocks graph)
    unfolding blocks
    blocks_give =
        flat_map_used (λ n. of_block (f n) (flag_at graph.copy_node node_slots n) (meta_in graph.graph.node_meta n)) (λ n e. ap (of_block (f n) (flag_at graph.copy_node node_slots n)) e)
        ∙ (flat_map_same (λ n. of_block (f n) (flag_at graph.copy_node node_slots n) (meta_in graph.graph.node_meta n)) (λ n. cond (is_block graph n) (g n) []) (range 0 node_slots) (λ n i. slot_gives n)
        ∙ sym (flat_map_filter g (is_block graph) (range 0 node_slots)))

  -- all wires
  pub wires_listed_lem : table_wires graph.graph.node_meta graph.graph.port_link graph.graph.port_meta graph.multiport graph.copy_node graph.graph.node_len ≡ wires_listed graph
  unfolding table_wires node_wires wires_listed all_wires
  wires_listed_lem =
      blocks_give (side_wires graph.graph.node_meta graph.graph.port_link graph.graph.port_meta graph.multiport graph.copy_node) (λ n. flat_map (wire_numbers graph) (side_links graph Outgoing n)) side_wires_are
      ∙ sym (flat_map_flat_map (wire_numbers graph) (side_links graph Outgoing) (blocks graph))

  -- What the pass presumes.

  pub all_fit : AllFit graph.graph.node_meta
  all_fit n k e =
      let l = live_meta n k e in
      let a = w.fine.good.block_ends n k l in
      let b = w.fine.good.ports_fit in
      record { ends = omega arith; ports = w.fine.good.ports_in_block n k l; small = w.fine.good.block_small n k l }

  -- the number of wires, and that of their numbers
  pub wires_counted : (count : ℕ) → count ≡ visible_links graph → count ≡ length (all_wires graph)
  unfolding visible_links
  wires_counted count e = e ∙ visible_links_lem w.fine

  pub few_wires : visible_links graph ≤ node_slots * node_ports
  unfolding visible_links
  few_wires = let h = link_count_fits graph.graph (lower_wf graph w) in omega arith

  -- Blocks.

  -- the first port of a block is its first slot, if it has ports
  first_port_is : (n : ℕ) (k : NodeMeta) → meta_at graph.graph n ≡ Some k → port_of_meta k ≡ first_port graph n
  unfolding port_of_meta first_port
  first_port_is n k e =
      let a = side_in_row graph n k e Incoming in
      let b = side_in_row graph n k e Outgoing in
      first_of_range k.first_port.0 (k.incoming + k.outgoing)
      ∙ ap (λ (l : List ℕ). get_or l 0 0) (range_append k.first_port.0 k.incoming k.outgoing (k.incoming + k.outgoing) refl ∙ sym (λ i. a i ++ b i))

  block_words_are : (n : ℕ) (k : NodeMeta) → is_hidden graph n ≡ false → meta_at graph.graph n ≡ Some k → block_words n k ≡ block_numbers graph n
  unfolding block_numbers
  block_words_are n k h e =
      let f = first_port_is n k e in
      λ i. n ∷ count_in (sym e i) Incoming ∷ count_in (sym e i) Outgoing ∷ f i ∷ []

  -- all blocks
  pub blocks_listed_lem : table_blocks graph.graph.node_meta graph.copy_node graph.graph.node_len ≡ blocks_listed graph
  unfolding table_blocks node_block blocks_listed
  blocks_listed_lem = blocks_give block_words (block_numbers graph) block_words_are

  -- their number, and that of their numbers
  pub blocks_counted : (count : ℕ) → count ≡ visible_nodes graph → count ≡ length (blocks graph)
  unfolding visible_nodes
  blocks_counted count e = e ∙ visible_nodes_lem w.fine

  pub few_blocks : visible_nodes graph ≤ node_slots
  unfolding visible_nodes
  few_blocks = let h = node_count_fits graph.graph (lower_wf graph w) in omega arith

  -- What a listing of so many presumes, and what it tells.

  pub wires_list_fits : {count : ℕ} → count ≡ visible_links graph
      → AllFit graph.graph.node_meta × (graph.graph.node_len ≤ node_slots) × (8 * count ≡ length (table_wires graph.graph.node_meta graph.graph.port_link graph.graph.port_meta graph.multiport graph.copy_node graph.graph.node_len)) × (count ≤ node_slots * node_ports)
  wires_list_fits {count} e =
      let few = few_wires in
      (all_fit, len_fits, ap (λ (n : ℕ). 8 * n) (wires_counted count e) ∙ (sym (wires_length graph) ∙ sym (ap length wires_listed_lem)), omega (arith, few, e))

  pub wires_list_told : {count : ℕ} {r : Result ℕ TooShort} (l : List ℕ) {l' : List ℕ} → count ≡ visible_links graph
      → (r ≡ list_answer count (table_wires graph.graph.node_meta graph.graph.port_link graph.graph.port_meta graph.multiport graph.copy_node graph.graph.node_len) l) × (l' ≡ list_after (table_wires graph.graph.node_meta graph.graph.port_link graph.graph.port_meta graph.multiport graph.copy_node graph.graph.node_len) l)
      → (r ≡ list_answer (length (all_wires graph)) (wires_listed graph) l) × (l' ≡ list_after (wires_listed graph) l)
  wires_list_told {count} l e x =
      let n = wires_counted count e in
      let t = wires_listed_lem in
      (x.0 ∙ (λ i. list_answer (n i) (t i) l), x.1 ∙ ap (λ (w : List ℕ). list_after w l) t)

  pub blocks_list_fits : {count : ℕ} → count ≡ visible_nodes graph
      → (graph.graph.node_len ≤ node_slots) × (4 * count ≡ length (table_blocks graph.graph.node_meta graph.copy_node graph.graph.node_len)) × (count ≤ node_slots)
  blocks_list_fits {count} e =
      let few = few_blocks in
      (len_fits, ap (λ (n : ℕ). 4 * n) (blocks_counted count e) ∙ (sym (blocks_length graph) ∙ sym (ap length blocks_listed_lem)), omega (arith, few, e))

  pub blocks_list_told : {count : ℕ} {r : Result ℕ TooShort} (l : List ℕ) {l' : List ℕ} → count ≡ visible_nodes graph
      → (r ≡ list_answer count (table_blocks graph.graph.node_meta graph.copy_node graph.graph.node_len) l) × (l' ≡ list_after (table_blocks graph.graph.node_meta graph.copy_node graph.graph.node_len) l)
      → (r ≡ list_answer (length (blocks graph)) (blocks_listed graph) l) × (l' ≡ list_after (blocks_listed graph) l)
  blocks_list_told {count} l e x =
      let n = blocks_counted count e in
      let t = blocks_listed_lem in
      (x.0 ∙ (λ i. list_answer (n i) (t i) l), x.1 ∙ ap (λ (w : List ℕ). list_after w l) t)
