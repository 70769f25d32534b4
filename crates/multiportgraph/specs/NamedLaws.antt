-- What a call names by the tables is what it names by the graph, so that each call is what Named makes of it.
use Rattle.std.specs.Prelude.{◌≡◌, Bool, List, ℕ, ◌+◌, ◌-◌, Option, Some, None, Result, Ok, Err}
use Rattle.std.proofs.Math.Path.{refl, sym, ap}
use Rattle.std.proofs.Common.{◌∙◌}
use Rattle.std.proofs.Math.Bool.{true, false, cond}
use Rattle.std.proofs.Math.Dec.{eqb}
use borrow.Author.Tests.{eqb-true, eqb-false}
use Rattle.port_tables.specs.Limits.{present}
use Rattle.port_tables.specs.Entries.{same_side, port#}
use Rattle.port_tables.specs.Tables.{at, link_both}
use Rattle.portgraph.specs.Lookups.{port_at, port_link, link_of}
use Rattle.portgraph.specs.LookupSteps.{link_by_sides, link_first_taken, link_second_taken, link_made, unlink_live}
use Rattle.portgraph.specs.Calls.{with_links, link_ports, unlink_port}
use Rattle.portgraph.specs.Model as model
use Rattle.portgraph.specs.Model.{Model, nowhere, to, Valid, slot_of}
use Rattle.portgraph.specs.GoodSlots.{zero_is_not_one}
use Rattle.portgraph.specs.PlaceLaws.{meta_of_place, port_of_place, link_none}
use Rattle.port_tables.specs.declared.direction.Direction.{Direction}
use Rattle.port_tables.specs.declared.direction.Direction.TheVariants.{Incoming, Outgoing}
use Rattle.port_tables.specs.declared.port_entry.PortMeta.{PortMeta}
use Rattle.port_tables.specs.declared.port_entry.PortEntry.{PortEntry}
use Rattle.port_tables.specs.declared.port_entry.PortEntry.TheVariants as port_variants
use Rattle.portgraph.specs.declared.portgraph.PortsLinked as lower_linked
use Rattle.portgraph.specs.declared.portgraph.PortUnlinked as lower_unlinked
use Rattle.multiportgraph.specs.Reading.{is_linked, has_link, seen, end_at, as_read, link_of_end, far_subport}
use Rattle.multi_tables.specs.Forms.{Port, dead, hidden, visible, End, inner, lacking, subport#, seen_as, good_offset}
use Rattle.multiportgraph.specs.HiddenNodes as hiding
use Rattle.multiportgraph.specs.Cases as cases
use Rattle.multiportgraph.specs.Calls.{subport_link, cut_sub, link_sub_if, link_clean_if}
use Rattle.multiportgraph.specs.CodeForms.{Prepared, prepared_as}
use Rattle.multiportgraph.specs.WellFormed.{Fine, MultiWf}
use Rattle.multiportgraph.specs.Ends.{BlockPort, block_seen}
use Rattle.multiportgraph.specs.SplitLaws.{PreparedEnd}
use Rattle.multiportgraph.specs.PrepareLaws.{prepare_law}
use Rattle.multiportgraph.specs.LinkSteps.{is_ready, others_stay, both_linked_lem}
use Rattle.multi_tables.specs.TableReads.{seen_in}
use Rattle.multiportgraph.specs.TableReadLaws.{mark_told, seen_read, end_read_off, wire_read, end_is_port}
use Rattle.multiportgraph.specs.Named.{cut_at, read_named, cut_named, link_by}
use Rattle.multi_tables.specs.NamedEnds.{end_or, end_seen, end_named, free_ends, second_or, second_seen, second_end, first_or, first_end, both_seen, link_named, read_in, pair_named, pair_seen}
use Rattle.multiportgraph.specs.declared.multiportgraph.MultiPortGraph.{MultiPortGraph}
use Rattle.multi_tables.specs.declared.answers.SubportIndex.{SubportIndex}
use Rattle.multi_tables.specs.declared.answers.Refusal.{Refusal}
use Rattle.multi_tables.specs.declared.answers.Refusal.TheVariants.{BadOffset, IncompatibleDirections, AlreadyLinked}
use Rattle.multiportgraph.specs.declared.multiportgraph.PortUnlinked.{PortUnlinked}
use Rattle.multiportgraph.specs.declared.multiportgraph.PortsLinked.{PortsLinked}
use Rattle.multi_tables.specs.declared.seen.SeenPort.{SeenPort}
use Rattle.multiportgraph.specs.Graph.{with_graph}
use Rattle.multiportgraph.specs.HiddenNodes.{unsplit, lowest_free, reuse, prepare, prepare_under, reuse_under}
use Rattle.multiportgraph.specs.Cases.{link_of_seen, cut_sub_seen, cut_end, cut_refused, link_refused, link_inner, link_ends, link_second_end, link_first_end, link_sub_seen, link_first, link_second, link_clean_by}
use Rattle.multiportgraph.specs.CaseLaws.{cut_sub_cases, subport_link_cases, link_clean_cases, link_sub_cases}
use Rattle.multiportgraph.specs.Presumed.{OnBlock, BothOnBlock}
use Rattle.multi_tables.specs.declared.answers.PortPlace.{PortPlace}

module _ {m : MultiPortGraph} {M : Model} (f : Fine m M) where
  -- A subport that is named.

  pub cut_live : (x : ℕ) (k : PortMeta) → port_at m.graph x ≡ port_variants.Port k → (unlink_port m.graph x).graph ≡ (cut_at m x).graph
  cut_live x k e =
      ap (λ (u : lower_unlinked.PortUnlinked). u.graph)
      (sym (unlink_live m.graph x x _ _ _ _ k (sym e) refl refl refl refl refl))

  cut_answer : (x : ℕ) (k : PortMeta) → port_at m.graph x ≡ port_variants.Port k → (unlink_port m.graph x).answer ≡ port_link m.graph x
  cut_answer x k e =
      ap (λ (u : lower_unlinked.PortUnlinked). u.answer)
      (sym (unlink_live m.graph x x _ _ _ _ k (sym e) refl refl refl refl refl))

  module _ (p o : ℕ) where
    -- either call, by what it does with an end and with a refusal
    by_end : (n : ℕ) (d : Direction) → seen m p ≡ visible n d → (e : End) → end_at m p d o ≡ e →
        (link_of_end m p e ≡ read_named m (end_or m.multiport m.graph.port_link m.graph.port_meta m.copy_node p e))
        × (cut_end m p e ≡ cut_named m (end_or m.multiport m.graph.port_link m.graph.port_meta m.copy_node p e))
    by_end n d s lacking t = (refl, refl)
    by_end n d s (inner x) t =
        let w = wire_read f p n d s o x t in
        let k = end_is_port f p n d s o x t in (
          sym w,
          (λ i. record { graph = with_graph m (cut_live x k.0 k.1 i); answer = far_subport m (cut_answer x k.0 k.1 i) })
              ∙ ap (λ (a : Result (Option (SubportIndex × PortPlace)) Refusal). record { graph = cut_at m x; answer = a }) (sym w),
        )

    by_seen : (s : Port) → seen m p ≡ s →
        (link_of_seen m p o s ≡ read_named m (end_seen m.multiport m.graph.port_link m.graph.port_meta m.copy_node p o s))
        × (cut_sub_seen m p o s ≡ cut_named m (end_seen m.multiport m.graph.port_link m.graph.port_meta m.copy_node p o s))
    by_seen dead e = (refl, refl)
    by_seen hidden e = (refl, refl)
    by_seen (visible n d) e =
        let r = by_end n d e (end_at m p d o) refl in
        let z = ap (end_or m.multiport m.graph.port_link m.graph.port_meta m.copy_node p) (sym (end_read_off f p n d e o)) in
        (r.0 ∙ ap (read_named m) z, r.1 ∙ ap (cut_named m) z)

    pub link_of_named : subport_link m p o ≡ read_named m (end_named m.multiport m.graph.port_link m.graph.port_meta m.copy_node p o)
    unfolding end_named
    link_of_named = subport_link_cases m p o ∙ go (good_offset o)
      where
        go : (b : Bool) → cond b (link_of_seen m p o (seen m p)) (Err BadOffset)
            ≡ read_named m (cond b (end_seen m.multiport m.graph.port_link m.graph.port_meta m.copy_node p o (seen_in m.graph.port_meta m.copy_node p)) (Err BadOffset))
        go true = (by_seen (seen m p) refl).0 ∙ ap (λ (s : Port). read_named m (end_seen m.multiport m.graph.port_link m.graph.port_meta m.copy_node p o s)) (sym (seen_read m f.flags_long p))
        go false = refl

    pub cut_of_named : cut_sub m p o ≡ cut_named m (end_named m.multiport m.graph.port_link m.graph.port_meta m.copy_node p o)
    unfolding end_named
    cut_of_named = cut_sub_cases m p o ∙ go (good_offset o)
      where
        go : (b : Bool) → cond b (cut_sub_seen m p o (seen m p)) (cut_refused m BadOffset)
            ≡ cut_named m (cond b (end_seen m.multiport m.graph.port_link m.graph.port_meta m.copy_node p o (seen_in m.graph.port_meta m.copy_node p)) (Err BadOffset))
        go true = (by_seen (seen m p) refl).1 ∙ ap (λ (s : Port). cut_named m (end_seen m.multiport m.graph.port_link m.graph.port_meta m.copy_node p o s)) (sym (seen_read m f.flags_long p))
        go false = refl

  -- Two subports that are named.

  read_is : (p o : ℕ) → read_in m.multiport p o ≡ as_read m p o
  unfolding read_in as_read
  read_is p o = ap (λ (b : Bool). subport# p (cond b o 0)) (mark_told f p)

  -- two live ports, with their sides, are linked by the tables as by the lower graph
  module _ (s t : SubportIndex) (x y : ℕ) (k l : PortMeta) (h : port_at m.graph x ≡ port_variants.Port k) (i : port_at m.graph y ≡ port_variants.Port l) where
    ends_by : (r : lower_linked.PortsLinked) → r ≡ link_ports m.graph x y → link_inner m s t r.answer r.graph ≡ link_ends m s t x y
    ends_by r e = ap (λ (u : lower_linked.PortsLinked). link_inner m s t u.answer u.graph) e

    ends_linked : link_ends m s t x y ≡ link_by m s t (free_ends m.graph.port_link x k.direction y l.direction)
    unfolding free_ends
    ends_linked = go (same_side k.direction l.direction) (eqb (at m.graph.port_link x) 0) (eqb (at m.graph.port_link y) 0) refl refl refl
      where
        go : (a b c : Bool) → same_side k.direction l.direction ≡ a → eqb (at m.graph.port_link x) 0 ≡ b → eqb (at m.graph.port_link y) 0 ≡ c →
            link_ends m s t x y
            ≡ link_by m s t (cond a (Err (IncompatibleDirections (port# x) (port# y) k.direction))
            (cond b (cond c (Ok (x, y)) (Err (AlreadyLinked (port# y)))) (Err (AlreadyLinked (port# x)))))
        go true b c u v w = sym (ends_by _ (link_by_sides m.graph x y k l (sym h) (sym i) true u))
        go false false c u v w = sym (ends_by _ (link_first_taken m.graph x y k l (sym h) (sym i) u (eqb-false _ _ v)))
        go false true false u v w = sym (ends_by _ (link_second_taken m.graph x y k l (sym h) (sym i) u (eqb-true _ _ v) (eqb-false _ _ w)))
        go false true true u v w = sym (ends_by _ (link_made m.graph x y k l (sym h) (sym i) _ u (eqb-true _ _ v) (eqb-true _ _ w) refl))

  module _ (p o q r : ℕ) where
    abbrev both : Result (ℕ × ℕ) Refusal → PortsLinked
    both = link_by m (as_read m p o) (as_read m q r)

    second_by : (n : ℕ) (d : Direction) → seen m p ≡ visible n d → (x : ℕ) → end_at m p d o ≡ inner x → (k : ℕ) (e : Direction) → seen m q ≡ visible k e → (v : End) → end_at m q e r ≡ v →
        link_second_end m p o q r x v ≡ both (second_or m.multiport m.graph.port_link m.graph.port_meta m.copy_node x d q e v)
    second_by n d s x t k e u lacking w = refl
    second_by n d s x t k e u (inner y) w =
        let a = end_is_port f p n d s o x t in
        let b = end_is_port f q k e u r y w in
        ends_linked (as_read m p o) (as_read m q r) x y a.0 b.0 a.1 b.1
        ∙ (λ j. both (free_ends m.graph.port_link x (a.2 j) y (b.2 j)))

    first_by : (n : ℕ) (d : Direction) → seen m p ≡ visible n d → (second : Port) → seen m q ≡ second → (second ≡ hidden → ⊥) → (v : End) → end_at m p d o ≡ v →
        link_first_end m p o q r second v ≡ both (first_or m.multiport m.graph.port_link m.graph.port_meta m.copy_node p q r d v)
    unfolding second_end
    first_by n d s second z h lacking t = refl
    first_by n d s second z h (inner x) t = go second z h
      where
        told : (w : Port) → seen m q ≡ w →
            both (second_seen m.multiport m.graph.port_link m.graph.port_meta m.copy_node q r x d w)
            ≡ both (second_end m.multiport m.graph.port_link m.graph.port_meta m.copy_node q r x d)
        told w e = ap (λ (v : Port). both (second_seen m.multiport m.graph.port_link m.graph.port_meta m.copy_node q r x d v)) (sym e ∙ sym (seen_read m f.flags_long q))

        go : (w : Port) → seen m q ≡ w → (w ≡ hidden → ⊥) → link_first_end m p o q r w (inner x) ≡ both (second_end m.multiport m.graph.port_link m.graph.port_meta m.copy_node q r x d)
        go dead e h = told dead e
        go hidden e h = absurd (h refl)
        go (visible k e) u h =
            second_by n d s x t k e u (end_at m q e r) refl
            ∙ (ap (λ (v : End). both (second_or m.multiport m.graph.port_link m.graph.port_meta m.copy_node x d q e v)) (sym (end_read_off f q k e u r))
            ∙ told (visible k e) u)

    both_by : (a b : Port) → seen m p ≡ a → seen m q ≡ b →
        link_sub_seen m p o q r a b ≡ both (both_seen m.multiport m.graph.port_link m.graph.port_meta m.copy_node p o q r a b)
    unfolding first_end
    both_by dead b e u = refl
    both_by hidden b e u = refl
    both_by (visible n d) hidden e u = refl
    both_by (visible n d) dead e u =
        first_by n d e dead u (λ z. zero_is_not_one (cc)) (end_at m p d o) refl
        ∙ ap (λ (v : End). both (first_or m.multiport m.graph.port_link m.graph.port_meta m.copy_node p q r d v)) (sym (end_read_off f p n d e o))
    both_by (visible n d) (visible k c) e u =
        first_by n d e (visible k c) u (λ z. zero_is_not_one (cc)) (end_at m p d o) refl
        ∙ ap (λ (v : End). both (first_or m.multiport m.graph.port_link m.graph.port_meta m.copy_node p q r d v)) (sym (end_read_off f p n d e o))

    pub sub_of_named : link_sub_if false m p o q r
        ≡ link_by m (read_in m.multiport p o) (read_in m.multiport q r) (link_named m.multiport m.graph.port_link m.graph.port_meta m.copy_node p o q r)
    unfolding link_named
    sub_of_named =
        link_sub_cases m p o q r
        ∙ go (good_offset o) (good_offset r)
        ∙ (λ i. link_by m (sym (read_is p o) i) (sym (read_is q r) i) (link_named m.multiport m.graph.port_link m.graph.port_meta m.copy_node p o q r))
      where
        go : (a b : Bool) → cond a (cond b (link_sub_seen m p o q r (seen m p) (seen m q)) (link_refused m BadOffset)) (link_refused m BadOffset)
            ≡ both (cond a (cond b (both_seen m.multiport m.graph.port_link m.graph.port_meta m.copy_node p o q r (seen_in m.graph.port_meta m.copy_node p) (seen_in m.graph.port_meta m.copy_node q)) (Err BadOffset)) (Err BadOffset))
        go false b = refl
        go true false = refl
        go true true =
            both_by (seen m p) (seen m q) refl refl
            ∙ (λ i. both (both_seen m.multiport m.graph.port_link m.graph.port_meta m.copy_node p o q r (sym (seen_read m f.flags_long p) i) (sym (seen_read m f.flags_long q) i)))

-- Two ports that are linked.

-- an end that is ready: its port is live, on the port's side, and has no link
pub record ReadyEnd (m : MultiPortGraph) (d : Direction) (x : ℕ) : Type 0 where
  pub meta : PortMeta
  pub live : port_at m.graph x ≡ port_variants.Port meta
  pub side : meta.direction ≡ d
  pub free : at m.graph.port_link x ≡ 0

-- two such ends of opposite sides are linked
pub ready_joined : {m : MultiPortGraph} (d e : Direction) (x y : ℕ) → ReadyEnd m d x → ReadyEnd m e y → same_side d e ≡ false → {t : List ℕ} → t ≡ link_both m.graph.port_link x y →
    ◌≡◌ {A = lower_linked.PortsLinked} (record { graph = with_links m.graph t (m.graph.link_count + 1); answer = Ok (port# x, port# y) }) (link_ports m.graph x y)
ready_joined {m} d e x y u v h k =
    link_made m.graph x y u.meta v.meta (sym u.live) (sym v.live) _ ((λ i. same_side (u.side i) (v.side i)) ∙ h) u.free v.free k

end_ready : {m : MultiPortGraph} {M : Model} → Fine m M → (z : model.InnerPlace) → Valid M.node z → M.join z ≡ nowhere → {d : Direction} {x : ℕ} → slot_of M.node z ≡ x → z.side ≡ d → ReadyEnd m d x
end_ready {m} {M} f z v j q s =
    record {
      meta = meta_of_place z;
      live = ap (port_at m.graph) (sym q) ∙ port_of_place f.good f.holds z v;
      side = s;
      free = ap (at m.graph.port_link) (sym q) ∙ link_none f.good f.holds z v j;
    }

module _ {m : MultiPortGraph} (w : MultiWf m) where
  module _ (p n : ℕ) (d : Direction) (s : seen m p ≡ visible n d) where
    block : BlockPort m w.model p n d
    block = block_seen w.fine p n d s

    pub has_link_lem : has_link m.graph p ≡ cond (eqb (at m.graph.port_link p) 0) false true
    unfolding has_link
    has_link_lem =
        ap (λ (e : PortEntry). is_linked (link_of m.graph p e)) (ap (port_at m.graph) (sym block.slot) ∙ port_of_place w.fine.good w.fine.holds block.place block.is_seen.0)
        ∙ go (eqb (at m.graph.port_link p) 0)
      where
        go : (b : Bool) → is_linked (cond b (Ok None) (Ok (Some (port# (at m.graph.port_link p - 1))))) ≡ cond b false true
        go true = refl
        go false = refl

    prepared : (m' : MultiPortGraph) (x o : ℕ) → prepare m p d ≡ hiding.ready m' x o → (M' : Model) × PreparedEnd m w.model block.place m' M' x o
    prepared m' x o e = prepare_law w.fine block.place block.is_seen m' x o ((λ i. prepare m (block.slot i) (block.side i)) ∙ e)

    pub ready_end : (m' : MultiPortGraph) (x o : ℕ) → prepare m p d ≡ hiding.ready m' x o → ReadyEnd m' d x
    ready_end m' x o e =
        let z = (prepared m' x o e).1 in
        end_ready z.fine z.z z.end.valid z.free z.slot (z.side ∙ block.side)

-- What the code of each call comes to.
module _ {m : MultiPortGraph} (w : MultiWf m) where
  module _ (p o : ℕ) {e v : Result ℕ Refusal} (is : e ≡ end_named m.multiport m.graph.port_link m.graph.port_meta m.copy_node p o) (told : e ≡ v) where
    pub read_done : {r : Result (Option (SubportIndex × PortPlace)) Refusal} → r ≡ read_named m v → r ≡ subport_link m p o
    read_done h = h ∙ (ap (read_named m) (sym told ∙ is) ∙ sym (link_of_named w.fine p o))

    pub cut_done : {r : PortUnlinked} → r ≡ cut_named m v → r ≡ cut_sub m p o
    cut_done h = h ∙ (ap (cut_named m) (sym told ∙ is) ∙ sym (cut_of_named w.fine p o))

  pub link_done : (p o q r : ℕ) {e v : Result (ℕ × ℕ) Refusal} {s t : SubportIndex} {l : PortsLinked} → e ≡ link_named m.multiport m.graph.port_link m.graph.port_meta m.copy_node p o q r → e ≡ v →
      s ≡ read_in m.multiport p o → t ≡ read_in m.multiport q r → l ≡ link_by m s t v → l ≡ link_sub_if false m p o q r
  link_done p o q r is told a b h = h ∙ ((λ i. link_by m (a i) (b i) ((sym told ∙ is) i)) ∙ sym (sub_of_named w.fine p o q r))

  -- and leaving no stub
  clean_of_pair : (a b : ℕ) → link_clean_if false present m a b ≡ link_clean_by present m a b (pair_named m.graph.port_meta m.copy_node a b)
  unfolding pair_named
  clean_of_pair a b =
      link_clean_cases present m a b ∙ (λ i. link_clean_by present m a b (pair_seen a b (sym (seen_read m w.fine.flags_long a) i) (sym (seen_read m w.fine.flags_long b) i)))

  pub clean_done : (a b : ℕ) {e v : Result (Unit {0}) Refusal} {l : PortsLinked} → e ≡ pair_named m.graph.port_meta m.copy_node a b → e ≡ v →
      l ≡ link_clean_by present m a b v → l ≡ link_clean_if false present m a b
  clean_done a b is told h = h ∙ (ap (link_clean_by present m a b) (sym told ∙ is) ∙ sym (clean_of_pair a b))

-- how a port number is seen by the tables, and by the graph
pub seen_as_lem : {m : MultiPortGraph} (w : MultiWf m) (p : ℕ) {s : SeenPort} → s ≡ seen_as (seen_in m.graph.port_meta m.copy_node p) → s ≡ seen_as (seen m p)
seen_as_lem {m = m} w p e = e ∙ ap seen_as (seen_read m w.fine.flags_long p)

-- both ends are prepared, and linked in the tables
module _ {m : MultiPortGraph} {a b : ℕ} {d e : Direction} (both : BothOnBlock m a d b e) {r s : Prepared}
    (h : r ≡ prepared_as m (prepare m a d)) {u : ℕ × ℕ} (t : r.1 ≡ Ok u) (k : s ≡ prepared_as r.0 (prepare r.0 b e)) {w : ℕ × ℕ} (v : s.1 ≡ Ok w) (apart : same_side d e ≡ false) where
  middle : OnBlock r.0 b e
  middle = others_stay both.first r h t b e both.second

  second_ready_lem : ReadyEnd s.0 e w.0
  second_ready_lem = ready_end middle.wf b middle.node e middle.is s.0 w.0 w.1 (is_ready r.0 (prepare r.0 b e) s k v)

  sides_apart : (d e : Direction) → same_side d e ≡ false → d ≡ e → ⊥
  sides_apart Incoming Incoming p q = zero_is_not_one (cc)
  sides_apart Incoming Outgoing p q = zero_is_not_one (cc)
  sides_apart Outgoing Incoming p q = zero_is_not_one (cc)
  sides_apart Outgoing Outgoing p q = zero_is_not_one (cc)

  first_ready_lem : ReadyEnd s.0 d u.0
  first_ready_lem =
      let one = prepared both.first.wf a both.first.node d both.first.is r.0 u.0 u.1 (is_ready m (prepare m a d) r h t) in
      let z = one.1 in
      let c = block both.first.wf a both.first.node d both.first.is in
      let x = block_seen z.fine b middle.node e middle.is in
      let two = prepare_law z.fine x.place x.is_seen s.0 w.0 w.1
      ((λ i. prepare r.0 (x.slot i) (x.side i)) ∙ is_ready r.0 (prepare r.0 b e) s k v) in
      let side : z.z.side ≡ d = z.side ∙ c.side in
      let kept = two.1.keeps z.z z.end z.free (λ q. sides_apart d e apart (sym side ∙ (q ∙ x.side))) in
      end_ready two.1.fine z.z kept.end.valid kept.free (kept.slot ∙ z.slot) side

  pub both_joined : {l : List ℕ} → l ≡ link_both s.0.graph.port_link u.0 w.0 →
      ◌≡◌ {A = PortsLinked}
      (record {
        graph = with_graph s.0 (with_links s.0.graph l (s.0.graph.link_count + 1));
        answer = Ok (subport# a u.1, subport# b w.1);
      }) (cases.link_live m a d b e (prepare m a d))
  both_joined q = both_linked_lem m a d b e r h t s k _ v apart (ready_joined d e u.0 w.0 first_ready_lem second_ready_lem apart q)
