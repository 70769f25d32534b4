-- Steps of the scans over lent tables, over plain values.
use Rattle.port_tables.specs.Listing.{filter_all}
use Rattle.std.specs.Prelude.{◌≡◌, Bool, get_or, leb, Option, Some, None, Result, Ok}
use Rattle.std.proofs.Math.Path.{refl, ap, sym}
use Rattle.std.proofs.Common.{◌∙◌, eq-eqb}
use mathlib.Core.List.{List, [], ◌∷◌, ◌++◌, flat_map}
use Rattle.std.proofs.Math.Bool.{true, false, cond}
use Prim.Native.Nat.{ℕ, ◌<◌, ◌+◌, ◌-◌, ◌≤◌, min, suc}
use native.Mathlib.Omega.{arith}
use Rattle.multi_tables.specs.Scans.{first_found, link_port, span_first, span_count, links_in, port_links_by, port_links_in, links_rest, beyond_in, block_links_in, wires_in}
use Rattle.multi_tables.specs.declared.answers.SubportLink.{SubportLink}
use Rattle.port_tables.specs.Lists.{range}
use Rattle.std.specs.List.{filter}
use Rattle.port_tables.specs.Limits.{port_slots, node_slots}
use Rattle.port_tables.specs.Tables.{at}
use Rattle.port_tables.specs.declared.direction.Direction.{Direction}
use Rattle.port_tables.specs.declared.direction.Direction.TheVariants.{Outgoing}
use Rattle.multi_tables.specs.Forms.{flag_at, wire_to, subport#, Port, visible}
use Rattle.multi_tables.specs.TableReads.{seen_in, place_in, wire_in, wire_end_in}
use Rattle.multi_tables.specs.TableReadSteps.{placed, wire_placed}
use Rattle.multi_tables.specs.NamedEnds.{block_port}
use Rattle.multi_tables.specs.NamedEndSteps.{err_told, read_ok, block_unseen, block_found}
use Rattle.port_tables.specs.declared.index.NodeIndex.{NodeIndex}
use Rattle.std.specs.Result.{result_ok}
use Rattle.port_tables.specs.Entries.{fresh_slot, meta_of_entry, ports_from, ports_to}
use Rattle.port_tables.specs.TableSteps.{at_outside, left_one}
use Rattle.multi_tables.specs.declared.answers.SubportIndex.{SubportIndex}
use Rattle.multi_tables.specs.declared.answers.PortPlace.{PortPlace}
use Rattle.multi_tables.specs.declared.answers.Refusal.{Refusal}
use Rattle.port_tables.specs.declared.sides.Sides.TheVariants.{One}
use Rattle.port_tables.specs.declared.node_entry.NodeEntry.{NodeEntry}
use Rattle.port_tables.specs.declared.node_entry.NodeMeta.{NodeMeta}
use Rattle.port_tables.specs.declared.node_entry.NodeSlot.{NodeSlot}
use Rattle.port_tables.specs.declared.node_entry.NodeEntry.TheVariants as node_variants
use Rattle.std.proofs.lemmas.List.Elements.{filter-append}

-- The first of two lists, one after the other.

pub first_here : {A : Type 0} (a b : List A) (w : A) → first_found a ≡ Some w → first_found (a ++ b) ≡ Some w
unfolding first_found
first_here [] b w e = let z : ◌≡◌ {A = ℕ} 0 1 = cc in absurd (omega arith)
first_here (x ∷ a) b w e = e

pub first_later : {A : Type 0} (a b : List A) → first_found a ≡ None → first_found (a ++ b) ≡ first_found b
unfolding first_found
first_later [] b e = refl
first_later (x ∷ a) b e = let z : ◌≡◌ {A = ℕ} 0 1 = cc in absurd (omega arith)

pub filter_every : (l : List SubportLink) → filter (λ w. true) l ≡ l
filter_every l = filter_all (λ w. true) l (λ w i. refl)

module _ (t : SubportLink → Bool) where
  first_filter_here : (a b : List SubportLink) (w : SubportLink) → first_found (filter t a) ≡ Some w → first_found (filter t (a ++ b)) ≡ Some w
  first_filter_here a b w e = ap first_found (filter-append t a b) ∙ first_here (filter t a) (filter t b) w e

  first_filter_later : (a b : List SubportLink) → first_found (filter t a) ≡ None → first_found (filter t (a ++ b)) ≡ first_found (filter t b)
  first_filter_later a b e = ap first_found (filter-append t a b) ∙ first_later (filter t a) (filter t b) e

-- a link that was found stands at its port
pub port_below : (p k : ℕ) (r : Option SubportLink) → link_port p r ≡ p → p < k → 0 < k → link_port 0 r < k
port_below p k (Some w) e h z = omega arith
port_below p k None e h z = z

-- One end.

module _ (links owners : List ℕ) (flags : List Bool) (t : SubportLink → Bool) (q : SubportIndex) (s : ℕ) where
  abbrev at_end : Result (Option SubportIndex) Refusal → Option SubportLink
  at_end x = first_found (filter t (wire_to q (placed links owners flags s x)))

  end_by : {x : Option SubportIndex} (y : Option SubportIndex) → Ok x ≡ wire_end_in links owners flags s → x ≡ y → at_end (Ok y) ≡ first_found (filter t (wire_to q (wire_in links owners flags s)))
  end_by y e h = ap at_end (ap Ok (sym h) ∙ e) ∙ ap (λ z. first_found (filter t (wire_to q z))) (wire_placed links owners flags s)

  pub end_outside : port_slots ≤ s → None ≡ first_found (filter t (wire_to q (wire_in links owners flags s)))
  unfolding wire_in first_found
  end_outside h = rw (eq-eqb (at links s) 0 (sym (at_outside links s h)))

  pub end_nothing : {x : Option SubportIndex} → Ok x ≡ wire_end_in links owners flags s → x ≡ None → None ≡ first_found (filter t (wire_to q (wire_in links owners flags s)))
  unfolding first_found
  end_nothing e h = end_by None e h

  module _ {x : Option SubportIndex} {to : SubportIndex} (e : Ok x ≡ wire_end_in links owners flags s) (h : x ≡ Some to) where
    abbrev given : PortPlace → SubportLink
    given place = record { from = q; to = to; place = place }

    pub end_given : (place : PortPlace) → place ≡ place_in owners to.port.0 → t (given (place_in owners to.port.0)) ≡ true → Some (given place) ≡ first_found (filter t (wire_to q (wire_in links owners flags s)))
    unfolding first_found
    end_given place k g = rw (sym (end_by (Some to) e h), g, k)

    pub end_passed : t (given (place_in owners to.port.0)) ≡ false → None ≡ first_found (filter t (wire_to q (wire_in links owners flags s)))
    unfolding first_found
    end_passed g = rw (sym (end_by (Some to) e h), g)

-- One port: a turn over its offsets.

module _ (links owners : List ℕ) (flags : List Bool) (t : SubportLink → Bool) (p first o end : ℕ) where
  abbrev here : Option SubportLink
  here = first_found (filter t (wire_to (subport# p o) (wire_in links owners flags (first + o))))

  pub scan_turn : (r : Option SubportLink) → o < end → r ≡ here → r ≡ None
      → first_found (filter t (links_in links owners flags p first (o + 1) (end - (o + 1)))) ≡ first_found (filter t (links_in links owners flags p first o (end - o)))
  unfolding links_in range flat_map
  scan_turn r h e n =
      let a : o + 1 ≡ suc o = omega arith in
      rw (left_one o end h, a) (sym (first_filter_later t _ _ (sym e ∙ n)))

  pub scan_found : (r : Option SubportLink) (w : SubportLink) → o < end → r ≡ here → r ≡ Some w → r ≡ first_found (filter t (links_in links owners flags p first o (end - o)))
  unfolding links_in range flat_map
  scan_found r w h e n = rw (left_one o end h) (n ∙ sym (first_filter_here t _ _ w (sym e ∙ n)))

  pub scan_done : end ≤ o → None ≡ first_found (filter t (links_in links owners flags p first o (end - o)))
  unfolding links_in range flat_map first_found
  scan_done h = let a : end - o ≡ 0 = omega arith in rw a

-- A row of ports.

module _ (marks : List Bool) (links owners : List ℕ) (flags : List Bool) where
  module _ (t : SubportLink → Bool) (p o : ℕ) where
    pub port_links_at : (s : Port) → seen_in owners flags p ≡ s → first_found (filter t (port_links_by marks links owners flags p o s)) ≡ first_found (filter t (port_links_in marks links owners flags p o))
    unfolding port_links_in
    port_links_at s e = ap (λ x. first_found (filter t (port_links_by marks links owners flags p o x))) (sym e)

    -- what block_port answers, and `ok` of it
    module _ {b : Result (NodeIndex × Direction) Refusal} {k : Option (NodeIndex × Direction)} (e : b ≡ block_port owners flags p) (g : k ≡ result_ok b) where
      pub port_links_none : k ≡ None → None ≡ first_found (filter t (port_links_in marks links owners flags p o))
      unfolding first_found
      port_links_none n =
          let r = err_told b g n in
          ap (λ l. first_found (filter t l)) (sym (block_unseen owners flags p (port_links_by marks links owners flags p o) [] r.0 refl refl (sym e ∙ r.1)))
          ∙ port_links_at (seen_in owners flags p) refl

      pub port_links_scanned : {n : NodeIndex} {d : Direction} {first end : ℕ} {r : Option SubportLink} → k ≡ Some (n, d)
          → first ≡ span_first marks links owners p d → end ≡ span_count marks links owners p d
          → r ≡ first_found (filter t (links_in links owners flags p first o (end - o))) → r ≡ first_found (filter t (port_links_in marks links owners flags p o))
      port_links_scanned {n} {d} {first} {end} s f h q =
          q ∙ ap (λ x. first_found (filter t (links_in links owners flags p x o (end - o)))) f
          ∙ ap (λ x. first_found (filter t (links_in links owners flags p (span_first marks links owners p d) o (x - o)))) h
          ∙ port_links_at (visible n.0 d) (block_found owners flags p n d (read_ok e g s))

    module _ (stop : ℕ) where
      pub row_turn : (r : Option SubportLink) → p < stop → r ≡ first_found (filter t (port_links_in marks links owners flags p o)) → r ≡ None
          → first_found (filter t (links_rest marks links owners flags (p + 1) 0 (stop - (p + 1)))) ≡ first_found (filter t (links_rest marks links owners flags p o (stop - p)))
      unfolding links_rest
      row_turn r h e n =
          let a : p + 1 ≡ suc p = omega arith in
          rw (left_one p stop h, a) (sym (first_filter_later t _ _ (sym e ∙ n)))

      pub row_found : (r : Option SubportLink) (w : SubportLink) → p < stop → r ≡ first_found (filter t (port_links_in marks links owners flags p o)) → r ≡ Some w
          → r ≡ first_found (filter t (links_rest marks links owners flags p o (stop - p)))
      unfolding links_rest
      row_found r w h e n = rw (left_one p stop h) (n ∙ sym (first_filter_here t _ _ w (sym e ∙ n)))

      pub row_done : stop ≤ p → None ≡ first_found (filter t (links_rest marks links owners flags p o (stop - p)))
      unfolding links_rest first_found
      row_done h = let a : stop - p ≡ 0 = omega arith in rw a

  module _ (t : SubportLink → Bool) (from end held o : ℕ) where
    pub beyond_start : (s : ℕ × ℕ) {r : Option SubportLink} → s ≡ cond (leb held from) (from, 0) (held - 1, o + 1)
        → r ≡ first_found (filter t (links_rest marks links owners flags s.0 s.1 (min end port_slots - s.0))) → r ≡ first_found (filter t (beyond_in marks links owners flags from end held o))
    unfolding beyond_in
    beyond_start s e f = f ∙ go (leb held from) s e
      where
        go : (b : Bool) (s : ℕ × ℕ) → s ≡ cond b (from, 0) (held - 1, o + 1)
            → first_found (filter t (links_rest marks links owners flags s.0 s.1 (min end port_slots - s.0)))
            ≡ first_found (filter t (cond b (links_rest marks links owners flags from 0 (min end port_slots - from)) (links_rest marks links owners flags (held - 1) (suc o) (min end port_slots - (held - 1)))))
        go true s e = rw e
        go false s e = let a : o + 1 ≡ suc o = omega arith in rw (e, a)

  -- A block.

  module _ (held o : ℕ) where
    pub block_hidden : (e : NodeEntry) (h : Bool) → h ≡ true → None ≡ first_found (block_links_in marks links owners flags e h held o)
    unfolding first_found
    block_hidden (node_variants.Free f) h g = refl
    block_hidden (node_variants.Node k) h g = rw g

    pub block_free : (e : NodeEntry) (h : Bool) {m : Option NodeMeta} → m ≡ meta_of_entry e → m ≡ None → None ≡ first_found (block_links_in marks links owners flags e h held o)
    unfolding first_found
    block_free (node_variants.Free f) h g k = refl
    block_free (node_variants.Node k) h g n = cc

    pub block_scanned : (e : NodeEntry) {k : NodeMeta} {h : Bool} {a b : ℕ} {r : Option SubportLink} {m : Option NodeMeta} → m ≡ meta_of_entry e → m ≡ Some k → h ≡ false
        → a ≡ ports_from k (One Outgoing) → b ≡ ports_to k (One Outgoing)
        → r ≡ first_found (filter (λ w. true) (beyond_in marks links owners flags a b held o)) → r ≡ first_found (block_links_in marks links owners flags e h held o)
    block_scanned (node_variants.Free f) g n off ea eb er = cc
    block_scanned (node_variants.Node l) {k = k} {a = a} {b = b} g n off ea eb er =
        let same : k ≡ l = cc in
        er ∙ ap first_found (filter_every (beyond_in marks links owners flags a b held o)) ∙ rw (off, ea, eb, same)

  -- A row of node slots.
  module _ (nodes : List NodeSlot) (n held o : ℕ) where
    abbrev slot_links : List SubportLink
    slot_links = block_links_in marks links owners flags (get_or nodes n fresh_slot).entry (flag_at flags node_slots n) held o

    pub nodes_turn : (r : Option SubportLink) → n < node_slots → r ≡ first_found slot_links → r ≡ None
        → first_found (wires_in marks links owners flags nodes (n + 1) 0 0 (node_slots - (n + 1))) ≡ first_found (wires_in marks links owners flags nodes n held o (node_slots - n))
    unfolding wires_in
    nodes_turn r h e z =
        let a : n + 1 ≡ suc n = omega arith in
        rw (left_one n node_slots h, a) (sym (first_later slot_links _ (sym e ∙ z)))
