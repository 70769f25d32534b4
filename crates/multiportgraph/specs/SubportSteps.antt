-- Steps of the walk over the subports of a block, over plain values.
use Rattle.std.proofs.Math.Path.{◌≡◌, refl, sym, ap}
use Rattle.std.proofs.Common.{◌∙◌}
use Rattle.std.specs.Prelude.{Bool, false, leb, Option, Some, None, Ok}
use Rattle.std.proofs.Math.Bool.{true, cond}
use mathlib.Core.List.{List, [], map}
use Prim.Native.Nat.{ℕ, suc, ◌+◌, ◌-◌, ◌≤◌, ◌<◌, min}
use native.Mathlib.Omega.{arith}
use Rattle.port_tables.specs.Limits.{port_slots}
use Rattle.port_tables.specs.Lists.{range}
use Rattle.std.specs.List.{filter}
use Rattle.portgraph.specs.Lookups.{meta_at}
use Rattle.port_tables.specs.Entries.{ports_from, ports_to}
use Rattle.port_tables.specs.declared.direction.Direction.{Direction}
use Rattle.port_tables.specs.declared.sides.Sides.{Sides}
use Rattle.port_tables.specs.declared.node_entry.NodeMeta.{NodeMeta}
use Rattle.multiportgraph.specs.Wires.{held_at}
use Rattle.multiportgraph.specs.Reading.{is_hidden, is_split, seen}
use Rattle.multi_tables.specs.Forms.{Port, dead, hidden, visible, subport#}
use Rattle.multiportgraph.specs.WellFormed.{MultiWf}
use Rattle.multi_tables.specs.TableReads.{seen_in}
use Rattle.multiportgraph.specs.TableReadLaws.{seen_read}
use Rattle.multiportgraph.specs.Walks.{both_seen, subports_of, subport_beyond, step_subports}
use Rattle.multiportgraph.specs.ScanLaws.{subports_seen, subports_at, subports_from_to, subport_past, found_told, subport_at_port, subports_in_row, subports_of_split, subports_of_plain, offsets_past, block_not_hidden, row_fits, row_past, row_end}
use Rattle.multiportgraph.specs.LookupSteps.{block_at, meta_is}
use Rattle.multi_tables.specs.Scans.{span_count, first_found}
use Rattle.multiportgraph.specs.ScanReads.{count_split, count_plain}
use Rattle.multiportgraph.specs.WalkScans.{held_in, port_subports_by, port_subports_in, subports_rest, subports_beyond}
use Rattle.multiportgraph.specs.WalkSteps.{both_found}
use Rattle.multiportgraph.specs.declared.multiportgraph.MultiPortGraph.{MultiPortGraph}
use Rattle.multi_tables.specs.declared.answers.SubportIndex.{SubportIndex}
use Rattle.multiportgraph.specs.declared.iter.NodeSubports.{NodeSubports}
use Rattle.multiportgraph.specs.CodeForms.{block_found}
use Rattle.multi_tables.specs.declared.scans.Held.{Held}
use Rattle.port_tables.specs.TableSteps.{left_one}
use Rattle.multi_tables.specs.ScanSteps.{first_here, first_later}
use Rattle.port_tables.specs.Listing.{filter_map}

module _ (marks : List Bool) (links owners : List ℕ) (flags : List Bool) where
  module _ (p o : ℕ) where
    -- One port.

    subports_by : (s : Port) → seen_in owners flags p ≡ s → first_found (port_subports_by marks links owners p o s) ≡ first_found (port_subports_in marks links owners flags p o)
    unfolding port_subports_in
    subports_by s e = ap (λ (x : Port). first_found (port_subports_by marks links owners p o x)) (sym e)

    pub subports_unseen : (s : Port) → seen_in owners flags p ≡ s → port_subports_by marks links owners p o s ≡ [] → None ≡ first_found (port_subports_in marks links owners flags p o)
    unfolding first_found
    subports_unseen s e f = ap first_found (sym f) ∙ subports_by s e

    module _ (n : ℕ) (d : Direction) (c : ℕ) (e : seen_in owners flags p ≡ visible n d) (g : c ≡ span_count marks links owners p d) where
      pub subport_there : o < c → Some (subport# p o) ≡ first_found (port_subports_in marks links owners flags p o)
      unfolding first_found range
      subport_there h =
          let l : span_count marks links owners p d - o ≡ suc (c - (o + 1)) = omega arith in
          let f : Some (subport# p o) ≡ first_found (map (subport# p) (range o (span_count marks links owners p d - o))) = rw l in
          f ∙ subports_by (visible n d) e

      pub subport_past_lem : c ≤ o → None ≡ first_found (port_subports_in marks links owners flags p o)
      unfolding first_found range
      subport_past_lem h =
          let l : span_count marks links owners p d - o ≡ 0 = omega arith in
          let f : None ≡ first_found (map (subport# p) (range o (span_count marks links owners p d - o))) = rw l in
          f ∙ subports_by (visible n d) e

    -- A row of ports.

    module _ (stop : ℕ) where
      pub subports_turn : (r : Option SubportIndex) → p < stop → r ≡ first_found (port_subports_in marks links owners flags p o) → r ≡ None
          → first_found (subports_rest marks links owners flags (p + 1) 0 (stop - (p + 1))) ≡ first_found (subports_rest marks links owners flags p o (stop - p))
      unfolding subports_rest
      subports_turn r h e n =
          let a : p + 1 ≡ suc p = omega arith in
          rw (left_one p stop h, a) (sym (first_later _ _ (sym e ∙ n)))

      pub subports_found : (r : Option SubportIndex) (s : SubportIndex) → p < stop → r ≡ first_found (port_subports_in marks links owners flags p o) → r ≡ Some s
          → r ≡ first_found (subports_rest marks links owners flags p o (stop - p))
      unfolding subports_rest
      subports_found r s h e n = rw (left_one p stop h) (n ∙ sym (first_here _ _ s (sym e ∙ n)))

      pub subports_done : stop ≤ p → None ≡ first_found (subports_rest marks links owners flags p o (stop - p))
      unfolding subports_rest first_found
      subports_done h = let a : stop - p ≡ 0 = omega arith in rw a

  -- Where a walk goes on.

  pub beyond_start : (from end held o : ℕ) (s : ℕ × ℕ) {r : Option SubportIndex} → s ≡ cond (leb held from) (from, 0) (held - 1, o + 1)
      → r ≡ first_found (subports_rest marks links owners flags s.0 s.1 (min end port_slots - s.0)) → r ≡ first_found (subports_beyond marks links owners flags from end held o)
  unfolding subports_beyond
  beyond_start from end held o s e f = f ∙ go (leb held from) s e
    where
      go : (b : Bool) (s : ℕ × ℕ) → s ≡ cond b (from, 0) (held - 1, o + 1)
          → first_found (subports_rest marks links owners flags s.0 s.1 (min end port_slots - s.0))
          ≡ first_found (cond b (subports_rest marks links owners flags from 0 (min end port_slots - from)) (subports_rest marks links owners flags (held - 1) (suc o) (min end port_slots - (held - 1))))
      go true s e = rw e
      go false s e = let a : o + 1 ≡ suc o = omega arith in rw (e, a)

-- What the tables tell is what the graph has.

module _ (m : MultiPortGraph) (w : MultiWf m) where
  abbrev count : ℕ → Direction → ℕ
  count p d = span_count m.multiport m.graph.port_link m.graph.port_meta p d

  abbrev table_port : ℕ → ℕ → List SubportIndex
  table_port p o = port_subports_in m.multiport m.graph.port_link m.graph.port_meta m.copy_node p o

  subports_unseen_read : (p o : ℕ) (s : Port) → seen m p ≡ s → subports_seen m p s ≡ [] → port_subports_by m.multiport m.graph.port_link m.graph.port_meta p o s ≡ []
      → (table_port p o ≡ []) × (subports_at m p ≡ [])
  unfolding port_subports_in subports_at
  subports_unseen_read p o s e f g = (rw (seen_read m w.fine.flags_long p, e) g, rw e f)

  module _ (p n : ℕ) (d : Direction) (s : seen m p ≡ visible n d) where
    table_seen : (o : ℕ) → table_port p o ≡ map (subport# p) (range o (count p d - o))
    unfolding port_subports_in
    table_seen o = rw (seen_read m w.fine.flags_long p, s)

    by_offset : subports_at m p ≡ map (subport# p) (range 0 (count p d))
    unfolding range
    by_offset = go (is_split m p) refl
      where
        go : (b : Bool) → is_split m p ≡ b → subports_at m p ≡ map (subport# p) (range 0 (count p d))
        go true t = subports_of_split m p n d s t ∙ ap (λ (c : ℕ). map (subport# p) (range 0 c)) (sym (count_split m w p n d s t))
        go false t = subports_of_plain m p n d s t ∙ ap (λ (c : ℕ). map (subport# p) (range 0 c)) (sym (count_plain m w p n d s t))

    seen_whole : table_port p 0 ≡ subports_at m p
    seen_whole = let e : count p d - 0 ≡ count p d = omega arith in table_seen 0 ∙ ap (λ (c : ℕ). map (subport# p) (range 0 c)) e ∙ sym by_offset

    seen_past : (o : ℕ) → table_port p (suc o) ≡ filter (subport_past o) (subports_at m p)
    seen_past o =
        table_seen (suc o)
        ∙ sym (ap (filter (subport_past o)) by_offset ∙ filter_map (subport# p) (subport_past o) (range 0 (count p d)) ∙ ap (map (subport# p)) (offsets_past o (count p d)))

  port_read : (p : ℕ) → table_port p 0 ≡ subports_at m p
  port_read p = go (seen m p) refl
    where
      go : (s : Port) → seen m p ≡ s → table_port p 0 ≡ subports_at m p
      go dead e = let r = subports_unseen_read p 0 dead e refl refl in r.0 ∙ sym r.1
      go hidden e = let r = subports_unseen_read p 0 hidden e refl refl in r.0 ∙ sym r.1
      go (visible n d) e = seen_whole p n d e

  port_past : (p o : ℕ) → table_port p (suc o) ≡ filter (subport_past o) (subports_at m p)
  port_past p o = go (seen m p) refl
    where
      go : (s : Port) → seen m p ≡ s → table_port p (suc o) ≡ filter (subport_past o) (subports_at m p)
      go dead e = let r = subports_unseen_read p (suc o) dead e refl refl in r.0 ∙ sym (ap (filter (subport_past o)) r.1)
      go hidden e = let r = subports_unseen_read p (suc o) hidden e refl refl in r.0 ∙ sym (ap (filter (subport_past o)) r.1)
      go (visible n d) e = seen_past p n d e o

  -- the subports of a block beyond what a cursor holds
  subports_read : (n : ℕ) (k : NodeMeta) → is_hidden m n ≡ false → meta_at m.graph n ≡ Some k → (sides : Sides) (held o : ℕ)
      → subports_beyond m.multiport m.graph.port_link m.graph.port_meta m.copy_node (ports_from k sides) (ports_to k sides) held o ≡ filter (subport_beyond held o) (subports_of m n sides)
  unfolding subports_beyond subports_rest subports_from_to subport_beyond
  subports_read n k open_node meta sides held o =
      rw (row_end w n k open_node meta sides)
      (row_past (λ (s : SubportIndex). s.port.0) (λ (s : SubportIndex). s.subport_offset) (subports_at m) (subport_at_port m) table_port port_read port_past
      (subports_rest m.multiport m.graph.port_link m.graph.port_meta m.copy_node) (λ p i. refl) (λ p i c. refl) (ports_from k sides) (ports_to k sides) held o (row_fits w n k open_node meta sides).0)
      ∙ ap (filter (subport_beyond held o)) (sym (subports_in_row w n k open_node meta sides))

module _ (m : MultiPortGraph) (c : NodeSubports) where
  abbrev subports_item : SubportIndex → Option (SubportIndex × NodeSubports)
  subports_item s = Some (s, record { node = c.node; sides = c.sides; held = held_at s })

  pub subports_gone : both_seen m c.node.0 c.held.port ≡ false → None ≡ step_subports m c
  unfolding step_subports
  subports_gone e = rw e

  module _ (w : MultiWf m) (k : NodeMeta) (e : block_found m c.node.0 ≡ Ok k) (there : held_in m.graph.port_meta m.copy_node c.held.port ≡ true)
      (a b : ℕ) (r : Option SubportIndex) (ea : a ≡ ports_from k c.sides) (eb : b ≡ ports_to k c.sides)
      (er : r ≡ first_found (subports_beyond m.multiport m.graph.port_link m.graph.port_meta m.copy_node a b c.held.port c.held.offset)) where
    listed : r ≡ first_found (filter (subport_beyond c.held.port c.held.offset) (subports_of m c.node.0 c.sides))
    listed =
        let read = subports_read m w c.node.0 k (block_not_hidden m c.node.0 (sym (block_at m c.node.0 (Ok k) e))) (meta_is m c.node.0 k e) c.sides c.held.port c.held.offset in
        er
        ∙ ap (λ (x : ℕ). first_found (subports_beyond m.multiport m.graph.port_link m.graph.port_meta m.copy_node x b c.held.port c.held.offset)) ea
        ∙ ap (λ (x : ℕ). first_found (subports_beyond m.multiport m.graph.port_link m.graph.port_meta m.copy_node (ports_from k c.sides) x c.held.port c.held.offset)) eb
        ∙ ap first_found read

    pub subports_item_lem : (s : SubportIndex) (h : Held) → r ≡ Some s → h ≡ held_at s → Some (s, record { node = c.node; sides = c.sides; held = h }) ≡ step_subports m c
    unfolding step_subports
    subports_item_lem s h f g =
        rw (both_found m c.node.0 k c.held.port true w e there)
        (ap (λ (x : Held). Some (s, record { node = c.node; sides = c.sides; held = x })) g
        ∙ found_told None subports_item _ (sym f ∙ listed))

    pub subports_none : r ≡ None → None ≡ step_subports m c
    unfolding step_subports
    subports_none h =
        rw (both_found m c.node.0 k c.held.port true w e there) (found_told None subports_item _ (sym h ∙ listed))
