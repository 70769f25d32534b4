-- Steps of fan-out over plain values: a turn of each count, and that what the tables tell is how many wires the graph has.
use Rattle.std.specs.Prelude.{◌≡◌, Bool, Ok, Err}
use Rattle.std.proofs.Math.Path.{refl, sym, ap}
use Rattle.std.proofs.Common.{◌∙◌}
use Rattle.std.proofs.Math.Bool.{true, false}
use mathlib.Core.List.{List, flat_map}
use Prim.Native.Nat.{ℕ, zero, suc, ◌+◌, ◌-◌, min}
use native.Mathlib.Omega.{arith}
use Rattle.std.proofs.Math.Dec.{eqb}
use Rattle.std.proofs.Math.ListN.{length, length-append}
use Rattle.port_tables.specs.Limits.{port_slots}
use Rattle.port_tables.specs.Lists.{range}
use Rattle.port_tables.specs.Tables.{at}
use Rattle.port_tables.specs.Entries.{ports_from, ports_to}
use Rattle.port_tables.specs.declared.direction.Direction.{Direction}
use Rattle.port_tables.specs.declared.direction.Direction.TheVariants.{Outgoing}
use Rattle.port_tables.specs.declared.sides.Sides.TheVariants.{One}
use Rattle.port_tables.specs.declared.node_entry.NodeMeta.{NodeMeta}
use Rattle.multiportgraph.specs.Reading.{is_hidden, is_split, seen}
use Rattle.multi_tables.specs.Forms.{visible, subport#, wire_to, sum_of}
use Rattle.multiportgraph.specs.WellFormed.{MultiWf}
use Rattle.multiportgraph.specs.CodeForms.{block_found}
use Rattle.multi_tables.specs.TableReads.{far_in, count_beside, first_beside, subports_in, wire_in}
use Rattle.multiportgraph.specs.Wires.{ports_of_side}
use Rattle.multiportgraph.specs.Walks.{fan_out, block_fan_out, port_links, ports_of_node}
use Rattle.multiportgraph.specs.Lookups.{counted, port_fan_out, node_fan_out}
use Rattle.multiportgraph.specs.LookupSteps.{start_at, block_at, meta_is, fan_out_at}
use Rattle.port_tables.specs.Listing.{member_range}
use Rattle.multiportgraph.specs.ScanLaws.{block_not_hidden, row_fits, port_seen_there, ports_in_row}
use Rattle.multi_tables.specs.Scans.{span_first, span_count, links_in}
use Rattle.multiportgraph.specs.ScanReads.{count_plain, links_whole, first_subport, first_itself}
use Rattle.multi_tables.specs.FanOutScans.{linked_at, linked_up, wires_at_in, fan_out_in}
use Rattle.multiportgraph.specs.declared.multiportgraph.MultiPortGraph.{MultiPortGraph}
use Rattle.multi_tables.specs.declared.answers.Refusal.{Refusal}
use Rattle.multi_tables.specs.FanOutScanSteps.{beside_is_up, sum_same, up_first}
use Rattle.multiportgraph.specs.TableReadLaws.{mark_told}

module _ (links owners : List ℕ) (flags : List Bool) (p first : ℕ) where
  slot_long : (i : ℕ) → length (wire_to (subport# p i) (wire_in links owners flags (first + i))) ≡ linked_at links (first + i)
  unfolding wire_in linked_at
  slot_long i = go (eqb (at links (first + i)) 0) refl
    where
      go : (b : Bool) → eqb (at links (first + i)) 0 ≡ b → length (wire_to (subport# p i) (wire_in links owners flags (first + i))) ≡ linked_at links (first + i)
      go true e = rw e
      go false e = rw e

  row_long : (k i : ℕ) → length (flat_map (λ j. wire_to (subport# p j) (wire_in links owners flags (first + j))) (range i k)) ≡ linked_up links (first + i) k
  unfolding range flat_map linked_up
  row_long zero i = refl
  row_long (suc k) i =
      let r = row_long k (suc i) in
      let a : first + suc i ≡ suc (first + i) = omega arith in
      let g = ap (λ (x : ℕ). linked_up links x k) a in
      let f = up_first links (first + i) k in
      let l = length-append (wire_to (subport# p i) (wire_in links owners flags (first + i))) (flat_map (λ j. wire_to (subport# p j) (wire_in links owners flags (first + j))) (range (suc i) k)) in
      let e = slot_long i in
      omega arith

  links_long : (k : ℕ) → length (links_in links owners flags p first 0 k) ≡ linked_up links first k
  unfolding links_in
  links_long k = let a : first + 0 ≡ first = omega arith in row_long k 0 ∙ ap (λ (x : ℕ). linked_up links x k) a

module _ (m : MultiPortGraph) (w : MultiWf m) (p n : ℕ) (d : Direction) (s : seen m p ≡ visible n d) where
  abbrev told : ℕ
  told = wires_at_in m.multiport m.graph.port_link m.graph.port_meta p d

  abbrev first : ℕ
  first = span_first m.multiport m.graph.port_link m.graph.port_meta p d

  abbrev count : ℕ
  count = span_count m.multiport m.graph.port_link m.graph.port_meta p d

  counted_by_slots : length (port_links m p) ≡ linked_up m.graph.port_link first count
  counted_by_slots = ap length (links_whole m w p n d s) ∙ links_long m.graph.port_link m.graph.port_meta m.copy_node p first count

  told_split : is_split m p ≡ true → told ≡ linked_up m.graph.port_link first count
  unfolding wires_at_in span_count subports_in linked_up
  told_split t = rw (mark_told w.fine p, t) (beside_is_up m.graph.port_link m.graph.port_meta (far_in m.graph.port_link p) d ∙ go _ refl)
    where
      beside : ℕ
      beside = first_beside m.graph.port_meta (far_in m.graph.port_link p) d

      go : (k : ℕ) → count_beside m.graph.port_meta (far_in m.graph.port_link p) d ≡ k → linked_up m.graph.port_link beside k ≡ linked_up m.graph.port_link first k
      go zero e = refl
      go (suc k) e = let c : count ≡ suc k = rw (mark_told w.fine p, t) e in ap (λ (x : ℕ). linked_up m.graph.port_link x (suc k)) (sym (first_subport m w p n d s t (omega arith)))

  told_plain : is_split m p ≡ false → told ≡ linked_up m.graph.port_link first count
  unfolding wires_at_in linked_up
  told_plain t =
      let c = count_plain m w p n d s t in
      let f = first_itself m w p n d s t in
      let a : p + 0 ≡ p = omega arith in
      rw (mark_told w.fine p, t, c, f, a) (omega arith)

  pub wires_told : told ≡ fan_out m p
  unfolding fan_out
  wires_told = go (is_split m p) refl
    where
      go : (b : Bool) → is_split m p ≡ b → told ≡ length (port_links m p)
      go true t = told_split t ∙ sym counted_by_slots
      go false t = told_plain t ∙ sym counted_by_slots

  -- fan-out of a port
  pub fan_out_at_port : (r : ℕ) → r ≡ told → Ok r ≡ port_fan_out m p
  fan_out_at_port r e = ap Ok (e ∙ wires_told) ∙ fan_out_at m p (visible n d) s

module _ (m : MultiPortGraph) (n : ℕ) where
  pub fan_out_refused : (r : Refusal) → block_found m n ≡ Err r → Err r ≡ node_fan_out m n
  unfolding node_fan_out
  fan_out_refused r e = ap (λ s. counted s (block_fan_out m n)) (start_at m n (Err r) e)

  module _ (w : MultiWf m) (k : NodeMeta) (e : block_found m n ≡ Ok k) where
    open_node : is_hidden m n ≡ false
    open_node = block_not_hidden m n (sym (block_at m n (Ok k) e))

    outputs : ports_of_side m Outgoing n ≡ range (ports_from k (One Outgoing)) (ports_to k (One Outgoing) - ports_from k (One Outgoing))
    unfolding ports_of_node
    outputs = ports_in_row m n k (meta_is m n k e) (One Outgoing)

    -- fan-out of a block
    pub fan_out_counted : (a b r : ℕ) → a ≡ ports_from k (One Outgoing) → b ≡ ports_to k (One Outgoing)
        → r ≡ fan_out_in m.multiport m.graph.port_link m.graph.port_meta a (min b port_slots - a) → Ok r ≡ node_fan_out m n
    unfolding node_fan_out block_fan_out fan_out_in
    fan_out_counted a b r ea eb er =
        let f = row_fits w n k open_node (meta_is m n k e) (One Outgoing) in
        let l : min b port_slots - a ≡ ports_to k (One Outgoing) - ports_from k (One Outgoing) = omega arith in
        let sum : r ≡ sum_of (fan_out m) (ports_of_side m Outgoing n) =
        er
        ∙ ap (λ (x : ℕ). fan_out_in m.multiport m.graph.port_link m.graph.port_meta a x) l
        ∙ ap (λ (x : ℕ). fan_out_in m.multiport m.graph.port_link m.graph.port_meta x (ports_to k (One Outgoing) - ports_from k (One Outgoing))) ea
        ∙ sum_same (λ p. wires_at_in m.multiport m.graph.port_link m.graph.port_meta p Outgoing) (fan_out m)
        (range (ports_from k (One Outgoing)) (ports_to k (One Outgoing) - ports_from k (One Outgoing)))
        (λ p i. let h = member_range p (ports_from k (One Outgoing)) (ports_to k (One Outgoing) - ports_from k (One Outgoing)) i in wires_told m w p n Outgoing (port_seen_there w n k open_node (meta_is m n k e) Outgoing p (omega arith) (omega arith)))
        ∙ ap (sum_of (fan_out m)) (sym outputs) in
        ap Ok sum ∙ ap (λ s. counted s (sum_of (fan_out m) (ports_of_side m Outgoing n))) (start_at m n (Ok k) e)
