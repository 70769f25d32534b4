-- What the scans over lent tables list is what the walks list: under MultiWf the links of a port, of a row of ports beyond what a
-- cursor holds, and of all blocks.
use Rattle.std.specs.Prelude.{◌≡◌, Bool, eqb, get_or, Some}
use Rattle.std.proofs.Math.Path.{refl, sym, ap}
use Rattle.std.proofs.Common.{◌∙◌}
use Rattle.std.proofs.Math.Bool.{true, false, cond}
use mathlib.Core.List.{List, [], ◌∷◌, ◌++◌, append-nil, flat_map}
use Prim.Native.Nat.{ℕ, zero, suc, ◌+◌, ◌-◌, ◌<◌, min}
use native.Mathlib.Omega.{arith}
use Rattle.std.proofs.Math.Dec.{ltb}
use borrow.Author.Tests.{lt-ltb, ltb-true, ltb-false}
use Rattle.port_tables.specs.Limits.{node_slots, port_slots}
use Rattle.port_tables.specs.Lists.{range}
use Rattle.std.specs.List.{filter}
use Rattle.port_tables.specs.Entries.{fresh_slot, port_entry, meta_of_entry, ports_from, ports_to}
use Rattle.port_tables.specs.Tables.{at}
use Rattle.port_tables.specs.TableSteps.{at_outside}
use Rattle.portgraph.specs.Lookups.{meta_at, is_some, port_at, entry_at}
use Rattle.portgraph.specs.GoodSlots.{zero_is_not_one, slot_in_block, node_below}
use Rattle.portgraph.specs.PlaceLaws.{meta_of_node}
use Rattle.port_tables.specs.declared.direction.Direction.{Direction}
use Rattle.port_tables.specs.declared.direction.Direction.TheVariants.{Incoming, Outgoing}
use Rattle.port_tables.specs.declared.sides.Sides.{Sides}
use Rattle.port_tables.specs.declared.sides.Sides.TheVariants.{One}
use Rattle.port_tables.specs.declared.node_entry.NodeMeta.{NodeMeta}
use Rattle.port_tables.specs.declared.node_entry.NodeEntry.{NodeEntry}
use Rattle.port_tables.specs.declared.node_entry.NodeEntry.TheVariants as node_variants
use Rattle.port_tables.specs.declared.port_entry.PortMeta.{PortMeta}
use Rattle.port_tables.specs.declared.port_entry.PortEntry.TheVariants as port_variants
use Rattle.multiportgraph.specs.Reading.{is_hidden, is_split, seen, subports, subport_at, end_at, link_of_end}
use Rattle.multi_tables.specs.Forms.{Port, dead, hidden, visible, End, inner, lacking, subport#, flag_at, wire_to}
use Rattle.multiportgraph.specs.WellFormed.{MultiWf}
use Rattle.multiportgraph.specs.Ends.{block_seen, end_of_unsplit}
use Rattle.multi_tables.specs.TableReads.{far_in, count_beside, first_beside, end_beside, first_in, end_in, wire_in}
use Rattle.multiportgraph.specs.TableReadLaws.{seen_read, subports_read, end_read_off, wire_read, end_is_port, flag_told, mark_told}
use Rattle.multiportgraph.specs.Wires.{is_block, blocks, wire_of, side_links, all_wires, is_beyond, wires_beyond}
use Rattle.multiportgraph.specs.Walks.{by_sides, port_links_seen, port_links, link_beyond}
use Rattle.port_tables.specs.Listing.{member_range, member_filter}
use Rattle.multiportgraph.specs.ScanLaws.{links_from_to, link_past, flat_map_same, flat_map_under, filter_swap, offsets_past, wire_stands, filter_beyond_held, links_of_split, links_of_plain, link_at_port, links_in_row, row_fits, row_past, row_end}
use Rattle.multi_tables.specs.Scans.{span_first, span_count, links_in, port_links_by, port_links_in, links_rest, beyond_in, block_links_in, wires_in}
use Rattle.multi_tables.specs.ScanSteps.{filter_every}
use Rattle.multiportgraph.specs.declared.multiportgraph.MultiPortGraph.{MultiPortGraph}
use Rattle.multi_tables.specs.declared.answers.SubportIndex.{SubportIndex}
use Rattle.multi_tables.specs.declared.answers.SubportLink.{SubportLink}

-- an end beside a copy port lies at its offset from the first
end_from_first : (owners : List ℕ) (q o x : ℕ) (d : Direction) → end_beside owners q d o ≡ inner x → x ≡ first_beside owners q d + o
unfolding end_beside first_beside
end_from_first owners q o x Incoming e = go (ltb o (count_beside owners q Incoming)) e
  where
    go : (b : Bool) → cond b (inner (first_beside owners q Incoming + o)) lacking ≡ inner x → x ≡ first_beside owners q Incoming + o
    go true h = cc
    go false h = absurd (zero_is_not_one (cc))
end_from_first owners q o x Outgoing e = go (ltb (q + 1 + o) port_slots) (eqb (at owners (q + 1 + o)) (at owners (q + 1))) e
  where
    go : (b c : Bool) → cond b (cond c (inner (q + 1 + o)) lacking) lacking ≡ inner x → x ≡ q + 1 + o
    go true true h = cc
    go true false h = absurd (zero_is_not_one (cc))
    go false c h = absurd (zero_is_not_one (cc))

module _ (m : MultiPortGraph) (w : MultiWf m) where
  -- a live port lies in the tables
  port_inside : (q : ℕ) (k : PortMeta) → port_at m.graph q ≡ port_variants.Port k → q < port_slots
  unfolding port_entry
  port_inside q k e = go (ltb q port_slots) refl
    where
      go : (b : Bool) → ltb q port_slots ≡ b → q < port_slots
      go true h = ltb-true q port_slots h
      go false h =
          let z : port_entry 0 ≡ port_variants.Port k = ap port_entry (at_outside m.graph.port_meta q (ltb-false q port_slots h)) ∙ e in
          absurd (zero_is_not_one (cc))

  -- the node of a port that is seen is a block
  pub seen_is_block : (p n : ℕ) (d : Direction) → seen m p ≡ visible n d → (is_block m n ≡ true) × (n < node_slots)
  unfolding is_block
  seen_is_block p n d e =
      let b = block_seen w.fine p n d e in
      let f = w.fine in
      let r = slot_in_block f.good b.place b.is_seen.0 in
      let u = node_below f.good b.place.node r.0 r.1 in
      let eq = b.node in
      let t : is_some (meta_at m.graph b.place.node) ≡ true = rw (meta_of_node f.good f.holds b.place.node r.0 r.1) refl in
      let h : cond (is_hidden m b.place.node) false (is_some (meta_at m.graph b.place.node)) ≡ true = rw b.is_seen.1 t in
      (sym (ap (λ (x : ℕ). cond (is_hidden m x) false (is_some (meta_at m.graph x))) eq) ∙ h, omega arith)

  module _ (p n : ℕ) (d : Direction) (s : seen m p ≡ visible n d) where
    abbrev first : ℕ
    first = span_first m.multiport m.graph.port_link m.graph.port_meta p d

    abbrev count : ℕ
    count = span_count m.multiport m.graph.port_link m.graph.port_meta p d

    pub count_split : is_split m p ≡ true → count ≡ subports m p d
    unfolding span_count
    count_split t = rw (mark_told w.fine p, t) (subports_read w.fine p n d s t)

    pub count_plain : is_split m p ≡ false → count ≡ 1
    unfolding span_count
    count_plain t = rw (mark_told w.fine p, t)

    inner_inside : (o q : ℕ) → end_at m p d o ≡ inner q → q < port_slots
    inner_inside o q e = let k = end_is_port w.fine p n d s o q e in port_inside q k.0 k.1

    module _ (o : ℕ) (l : o < count) where
      end_of_split : is_split m p ≡ true → end_at m p d o ≡ inner (subport_at m p d o)
      unfolding end_at
      end_of_split t = let e = count_split t in rw (t, lt-ltb o (subports m p d) (omega arith))

      end_beside_lem : is_split m p ≡ true → end_beside m.graph.port_meta (far_in m.graph.port_link p) d o ≡ inner (subport_at m p d o)
      unfolding end_in
      end_beside_lem t =
          let e : end_beside m.graph.port_meta (far_in m.graph.port_link p) d o ≡ end_in m.multiport m.graph.port_link m.graph.port_meta p d o = rw (mark_told w.fine p, t) in
          e ∙ (end_read_off w.fine p n d s o ∙ end_of_split t)

      first_of_split : is_split m p ≡ true → first ≡ min (first_beside m.graph.port_meta (far_in m.graph.port_link p) d) port_slots
      unfolding span_first first_in
      first_of_split t = rw (mark_told w.fine p, t)

      first_of_plain : is_split m p ≡ false → first ≡ min p port_slots
      unfolding span_first
      first_of_plain t = rw (mark_told w.fine p, t)

      -- the end at an offset is the slot so far from the first
      end_slot : end_at m p d o ≡ inner (first + o)
      end_slot = go (is_split m p) refl
        where
          go : (b : Bool) → is_split m p ≡ b → end_at m p d o ≡ inner (first + o)
          go true t =
              let e = end_from_first m.graph.port_meta (far_in m.graph.port_link p) o (subport_at m p d o) d (end_beside_lem t) in
              let i = inner_inside o (subport_at m p d o) (end_of_split t) in
              let f = first_of_split t in
              let g : subport_at m p d o ≡ first + o = omega arith in
              end_of_split t ∙ ap inner g
          go false t =
              let e = count_plain t in
              let i = inner_inside o p (end_of_unsplit w.fine p d o t) in
              let f = first_of_plain t in
              let g : p ≡ first + o = omega arith in
              end_of_unsplit w.fine p d o t ∙ ap inner g

    -- the slot of the first end, where there is one
    pub first_subport : is_split m p ≡ true → 0 < count → first ≡ first_beside m.graph.port_meta (far_in m.graph.port_link p) d
    first_subport t l = let e = first_of_split 0 l t in let i = inner_inside 0 (first + 0) (end_slot 0 l) in omega arith

    pub first_itself : is_split m p ≡ false → first ≡ p
    first_itself t =
        let c = count_plain t in
        let l : 0 < count = omega arith in
        let e = first_of_plain 0 l t in
        let i = inner_inside 0 (first + 0) (end_slot 0 l) in
        omega arith

    link_read : (o : ℕ) → o < count
        → wire_of m d (subport# p o) ≡ wire_to (subport# p o) (wire_in m.graph.port_link m.graph.port_meta m.copy_node (first + o))
    unfolding wire_of
    link_read o l =
        let e = end_slot o l in
        ap (λ (x : End). wire_to (subport# p o) (link_of_end m p x)) e ∙ ap (wire_to (subport# p o)) (sym (wire_read w.fine p n d s o (first + o) e))

    links_once : port_links m p ≡ wire_of m d (subport# p 0) → port_links m p ≡ flat_map (λ i. wire_of m d (subport# p i)) (range 0 1)
    unfolding range flat_map
    links_once e = e ∙ sym (append-nil (wire_of m d (subport# p 0)))

    links_by_offset : port_links m p ≡ flat_map (λ i. wire_of m d (subport# p i)) (range 0 count)
    links_by_offset = go (is_split m p) refl
      where
        go : (b : Bool) → is_split m p ≡ b → port_links m p ≡ flat_map (λ i. wire_of m d (subport# p i)) (range 0 count)
        go true t = links_of_split m p n d s t ∙ ap (λ (c : ℕ). flat_map (λ i. wire_of m d (subport# p i)) (range 0 c)) (sym (count_split t))
        go false t = links_once (links_of_plain m p n d s t) ∙ ap (λ (c : ℕ). flat_map (λ i. wire_of m d (subport# p i)) (range 0 c)) (sym (count_plain t))

    -- the links of a port whose offset is in a row of those that there are
    pub links_under : (t : ℕ → Bool) (a b : ℕ) → filter t (range 0 count) ≡ range a b
        → filter (λ (v : SubportLink). t v.from.subport_offset) (port_links m p)
        ≡ links_in m.graph.port_link m.graph.port_meta m.copy_node p first a b
    unfolding links_in
    links_under t a b e =
        ap (filter (λ (v : SubportLink). t v.from.subport_offset)) links_by_offset
        ∙ (flat_map_under (λ i. wire_of m d (subport# p i)) (λ (v : SubportLink). t v.from.subport_offset) t
        (λ i v h. ap (λ (x : SubportIndex). t x.subport_offset) (wire_stands m d (subport# p i) v h)) (range 0 count)
        ∙ (flat_map_same (λ i. wire_of m d (subport# p i)) (λ i. wire_to (subport# p i) (wire_in m.graph.port_link m.graph.port_meta m.copy_node (first + i))) (filter t (range 0 count))
        (λ i h. let r = member_range i 0 count (member_filter t i (range 0 count) h).0 in link_read i (omega arith))
        ∙ ap (flat_map (λ i. wire_to (subport# p i) (wire_in m.graph.port_link m.graph.port_meta m.copy_node (first + i)))) e))

    pub links_whole : port_links m p ≡ links_in m.graph.port_link m.graph.port_meta m.copy_node p first 0 count
    unfolding links_in
    links_whole =
        links_by_offset
        ∙ flat_map_same (λ i. wire_of m d (subport# p i)) (λ i. wire_to (subport# p i) (wire_in m.graph.port_link m.graph.port_meta m.copy_node (first + i))) (range 0 count)
        (λ i h. let r = member_range i 0 count h in link_read i (omega arith))

  abbrev table_links : ℕ → ℕ → List SubportLink
  table_links p o = port_links_in m.multiport m.graph.port_link m.graph.port_meta m.copy_node p o

  -- the links of a port
  pub port_links_read : (p : ℕ) → table_links p 0 ≡ port_links m p
  unfolding port_links_in port_links
  port_links_read p = go (seen m p) refl
    where
      go : (s : Port) → seen m p ≡ s → table_links p 0 ≡ port_links m p
      go dead e = rw (seen_read m w.fine.flags_long p, e)
      go hidden e = rw (seen_read m w.fine.flags_long p, e)
      go (visible n d) e =
          let f = links_whole p n d e in
          let z : count p n d e - 0 ≡ count p n d e = omega arith in
          rw (seen_read m w.fine.flags_long p, e, z) (sym f ∙ ap (port_links_seen m p) e)

  past_none : (p o : ℕ) (s : Port) → seen m p ≡ s → port_links_seen m p s ≡ [] → port_links_by m.multiport m.graph.port_link m.graph.port_meta m.copy_node p (suc o) s ≡ []
      → table_links p (suc o) ≡ filter (link_past o) (port_links m p)
  unfolding port_links_in port_links
  past_none p o s e f g = rw (seen_read m w.fine.flags_long p, e, f, g)

  past_some : (p o n : ℕ) (d : Direction) → seen m p ≡ visible n d → table_links p (suc o) ≡ filter (link_past o) (port_links m p)
  unfolding port_links_in
  past_some p o n d e =
      let r = links_under p n d e (ltb o) (suc o) (count p n d e - suc o) (offsets_past o (count p n d e)) in
      rw (seen_read m w.fine.flags_long p, e) (sym r)

  -- those beyond an offset
  pub port_links_past : (p o : ℕ) → table_links p (suc o) ≡ filter (link_past o) (port_links m p)
  port_links_past p o = go (seen m p) refl
    where
      go : (s : Port) → seen m p ≡ s → table_links p (suc o) ≡ filter (link_past o) (port_links m p)
      go dead e = past_none p o dead e refl refl
      go hidden e = past_none p o hidden e refl refl
      go (visible n d) e = past_some p o n d e

  module _ (n : ℕ) (k : NodeMeta) (open_node : is_hidden m n ≡ false) (meta : meta_at m.graph n ≡ Some k) (t : SubportLink → Bool) (sides : Sides) (held o : ℕ) where
    -- the links of a block beyond what a cursor holds, under any test
    pub beyond_read : filter t (beyond_in m.multiport m.graph.port_link m.graph.port_meta m.copy_node (ports_from k sides) (ports_to k sides) held o)
        ≡ filter (link_beyond held o) (filter t (by_sides (λ d. side_links m d n) sides))
    unfolding beyond_in links_rest links_from_to is_beyond
    beyond_read =
        ap (filter t)
        (rw (row_end w n k open_node meta sides)
        (row_past (λ (v : SubportLink). v.from.port.0) (λ (v : SubportLink). v.from.subport_offset) (port_links m) (link_at_port m) table_links port_links_read port_links_past
        (links_rest m.multiport m.graph.port_link m.graph.port_meta m.copy_node) (λ p i. refl) (λ p i c. refl) (ports_from k sides) (ports_to k sides) held o (row_fits w n k open_node meta sides).0)
        ∙ ap (filter (link_beyond held o)) (sym (links_in_row w n k open_node meta sides)))
        ∙ filter_swap t (link_beyond held o) (by_sides (λ d. side_links m d n) sides)

  -- Blocks.

  abbrev block_part : ℕ → ℕ → ℕ → List SubportLink
  block_part n held o = cond (is_block m n) (filter (link_beyond held o) (side_links m Outgoing n)) []

  block_part_lem : (n held o : ℕ)
      → block_links_in m.multiport m.graph.port_link m.graph.port_meta m.copy_node (get_or m.graph.node_meta n fresh_slot).entry (flag_at m.copy_node node_slots n) held o
      ≡ block_part n held o
  unfolding is_block
  block_part_lem n held o = rw (flag_told w.fine n) (go (entry_at m.graph n) refl (is_hidden m n) refl)
    where
      go : (e : NodeEntry) → entry_at m.graph n ≡ e → (h : Bool) → is_hidden m n ≡ h
          → block_links_in m.multiport m.graph.port_link m.graph.port_meta m.copy_node e h held o
          ≡ cond (cond h false (is_some (meta_of_entry e))) (filter (link_beyond held o) (side_links m Outgoing n)) []
      go (node_variants.Free f) e true g = refl
      go (node_variants.Free f) e false g = refl
      go (node_variants.Node k) e true g = refl
      go (node_variants.Node k) e false g =
          sym (filter_every (beyond_in m.multiport m.graph.port_link m.graph.port_meta m.copy_node (ports_from k (One Outgoing)) (ports_to k (One Outgoing)) held o))
          ∙ (beyond_read n k g (ap meta_of_entry e) (λ v. true) (One Outgoing) held o
          ∙ ap (filter (link_beyond held o)) (filter_every (side_links m Outgoing n)))

  abbrev table_wires : ℕ → ℕ → ℕ → ℕ → List SubportLink
  table_wires n held o c = wires_in m.multiport m.graph.port_link m.graph.port_meta m.copy_node m.graph.node_meta n held o c

  wires_later : (c n : ℕ) → table_wires n 0 0 c ≡ flat_map (side_links m Outgoing) (filter (is_block m) (range n c))
  unfolding wires_in range flat_map
  wires_later zero n = refl
  wires_later (suc c) n = go (is_block m n) (block_part_lem n 0 0 ∙ ap (λ (l : List SubportLink). cond (is_block m n) l []) (filter_every (side_links m Outgoing n))) (wires_later c (suc n))
    where
      go : (b : Bool) → block_links_in m.multiport m.graph.port_link m.graph.port_meta m.copy_node (get_or m.graph.node_meta n fresh_slot).entry (flag_at m.copy_node node_slots n) 0 0 ≡ cond b (side_links m Outgoing n) []
          → table_wires (suc n) 0 0 c ≡ flat_map (side_links m Outgoing) (filter (is_block m) (range (suc n) c))
          → block_links_in m.multiport m.graph.port_link m.graph.port_meta m.copy_node (get_or m.graph.node_meta n fresh_slot).entry (flag_at m.copy_node node_slots n) 0 0 ++ table_wires (suc n) 0 0 c
          ≡ flat_map (side_links m Outgoing) (cond b (n ∷ filter (is_block m) (range (suc n) c)) (filter (is_block m) (range (suc n) c)))
      go true e r = λ i. e i ++ r i
      go false e r = λ i. e i ++ r i

  -- all wires
  pub wires_read : table_wires 0 0 0 node_slots ≡ all_wires m
  unfolding all_wires blocks
  wires_read = wires_later node_slots 0

  -- those beyond a port of a block and an offset
  pub wires_beyond_read : (p n : ℕ) (d : Direction) (o : ℕ) → seen m p ≡ visible n d → table_wires n (suc p) o (node_slots - n) ≡ wires_beyond m n p o
  unfolding wires_in wires_beyond blocks
  wires_beyond_read p n d o e =
      let b = seen_is_block p n d e in
      let here = block_part_lem n (suc p) o ∙ (ap (λ (q : Bool). cond q (filter (link_beyond (suc p) o) (side_links m Outgoing n)) []) b.0 ∙ sym (filter_beyond_held p o (side_links m Outgoing n))) in
      let more = wires_later (node_slots - suc n) (suc n) in
      let l : node_slots - n ≡ suc (node_slots - suc n) = let h = b.1 in omega arith in
      let later : filter (is_block m) (range (suc n) (node_slots - suc n)) ≡ filter (ltb n) (filter (is_block m) (range 0 node_slots)) =
      ap (filter (is_block m)) (sym (offsets_past n node_slots)) ∙ filter_swap (is_block m) (ltb n) (range 0 node_slots) in
      rw l ((λ i. here i ++ more i) ∙ ap (λ (x : List ℕ). filter (is_beyond p o) (side_links m Outgoing n) ++ flat_map (side_links m Outgoing) x) later)
