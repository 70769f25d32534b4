-- An engine and a sketch that are alike stay so where an end of a port is prepared in both, and where two ends are linked in both; from these, what
-- a link that is accepted leaves.
use Rattle.std.specs.Prelude.{◌≡◌, refl, List, [], ◌∷◌, map, ℕ, Result, Ok}
use Rattle.std.proofs.Math.Path.{sym, transport}
use Rattle.std.proofs.Common.{◌∙◌, ap, subst}
use Rattle.port_tables.specs.Limits.{present}
use Rattle.portgraph.specs.Calls.{link_ports}
use Rattle.portgraph.specs.Meaning.{link_model}
use Rattle.portgraph.specs.Model as model
use Rattle.portgraph.specs.Model.{Model, nowhere, slot_of}
use Rattle.portgraph.specs.GoodSlots.{zero_is_not_one}
use Rattle.port_tables.specs.declared.direction.Direction.{Direction}
use Rattle.port_tables.specs.declared.direction.Direction.TheVariants.{Incoming, Outgoing}
use Rattle.multi_tables.specs.Forms.{subport#}
use Rattle.multiportgraph.specs.WellFormed.{Fine, lift, outer, IsEnd, WireIn, SameBlocks}
use Rattle.multiportgraph.specs.Ends.{outer_apart, seen_still}
use Rattle.multiportgraph.specs.Graph.{with_graph}
use Rattle.multiportgraph.specs.HiddenNodes.{prepare}
use Rattle.multiportgraph.specs.HiddenNodes as hiding
use Rattle.port_tables.specs.Places.{Wire, spot, wire_of_sides, next_offset}
use Rattle.multiportgraph.specs.LinkCutLaws.{Joined, join_ends}
use Rattle.multiportgraph.specs.PrepareLaws.{prepare_law}
use Rattle.multiportgraph.specs.SplitLaws.{KeptEnd, PreparedEnd, end_of_wire}
use Rattle.multiportgraph.specs.declared.multiportgraph.MultiPortGraph.{MultiPortGraph}
use Rattle.multiportgraph.specs.declared.multiportgraph.PortsLinked.{PortsLinked}
use Rattle.theorems.specs.Book.{Book, with_wires, spot_of, add_wire, book_link}
use Rattle.theorems.specs.History.{State}
use Rattle.theorems.specs.ReleaseClaims.{for_release}
use Rattle.theorems.specs.ReleaseLaws.{prepare_for}
use Rattle.theorems.proofs.WireRule.{rel_same, rel_linked, spot_at}
use Rattle.sketches.specs.Plan.{Plan, spot_named, subports_of, place_named, subports_ready, offset_ready, ready}
use Rattle.sketches.specs.PlanCalls.{Sketched, both_linked, with_wire}
use Rattle.sketches.specs.CallsWf.{ready_wires}
use Rattle.sketches.specs.declared.sketch.SketchPort.{SketchPort}
use Rattle.agreement.specs.Meaning.{Both}
use Rattle.agreement.specs.Agreement.{LinkAlike}
use Rattle.agreement.specs.Alike.{Alike, subports_at, place_renamed, wire_renamed}
use Rattle.agreement.specs.Names.{naming, name_of_lem}
use Rattle.agreement.specs.Standing.{PortHere, here#, subports_here}
use Rattle.agreement.specs.PlanLaws.{set_release, set_adds, set_blocks, set_wires}
use Rattle.agreement.specs.Carry.{there_by_blocks, alike_after, subports_set, set_there}
use Rattle.agreement.specs.PreparedSubports.{prepared_subports, linked_subports}
use Rattle.agreement.specs.LinkTests.{next_alike, ready_offset}
use Rattle.sketches.specs.declared.sketch.Reason.{Reason}
use Rattle.sketches.specs.declared.sketch.SketchEnd.{SketchEnd}
use Rattle.multi_tables.specs.declared.answers.Refusal.{Refusal}
use Rattle.multi_tables.specs.declared.answers.SubportIndex.{SubportIndex}
use Rattle.theorems.specs.LinkLaw.{end_of_sides}

-- a port that both have, after a call that keeps the blocks
unfoldable pub still_here : {b : Both} {M : Model} {p : ℕ} {x : SketchPort} → Alike b M → PortHere b M p x → (kit : State) (K : Plan) {M' : Model} → Fine kit.graph M' →
    SameBlocks b.kit.graph M kit.graph M' → K.blocks ≡ b.plan.blocks → PortHere (record { kit = kit; names = b.names; plan = K }) M' p x
still_here {b} {M} {p} {x} a h kit K f same blocks =
    record {
      node = h.node;
      is_seen = (seen_still a.rel.fine f same (here# h) h.is_seen).0;
      slot = (seen_still a.rel.fine f same (here# h) h.is_seen).1 ∙ h.slot;
      named = h.named;
      there = there_by_blocks b.plan K blocks x ∙ h.there;
    }

-- where the book has it
pub spot_here : {b : Both} {M : Model} {p : ℕ} {x : SketchPort} → Alike b M → (h : PortHere b M p x) → spot_of b.kit.book.blocks p ≡ spot h.node x.side x.position
spot_here a h = spot_at a.rel (here# h) h.is_seen _ h.slot

-- Preparing.

prepare_release : (m : MultiPortGraph) (p : ℕ) (d : Direction) (m' : MultiPortGraph) (q o : ℕ) → prepare m p d ≡ hiding.ready m' q o → m'.release ≡ m.release
prepare_release m p d m' q o e =
    let k : hiding.ready m' q o ≡ hiding.ready (for_release m.release m') q o = rw e at (prepare_for m.release present m p d) in
    let same : m' ≡ for_release m.release m' = cc in
    ap (λ (n : MultiPortGraph). n.release) same

pub ready_blocks : (K : Plan) (x : SketchPort) → (ready K x).blocks ≡ K.blocks
unfolding ready
ready_blocks K x = set_blocks K x _

abbrev pub prepared_both : Both → MultiPortGraph → SketchPort → Both
prepared_both b m x = record { kit = record { graph = m; book = b.kit.book }; names = b.names; plan = ready b.plan x }

-- an end of the port at y is prepared in the engine, and the port x is ready in the sketch
pub record PreparedAlike (b : Both) (M : Model) (x : SketchPort) (y : model.InnerPlace) (m : MultiPortGraph) (u o : ℕ) : Type 0 where
  pub model : Model
  pub end : PreparedEnd b.kit.graph M y m model u o
  pub offset : offset_ready b.plan x ≡ o
  pub alike : Alike (prepared_both b m x) model

pub prepare_alike : {b : Both} {M : Model} {p : ℕ} {x : SketchPort} → (a : Alike b M) (h : PortHere b M p x) (m : MultiPortGraph) (u o : ℕ) →
    prepare b.kit.graph p x.side ≡ hiding.ready m u o → PreparedAlike b M x (here# h) m u o
unfolding ready
prepare_alike {b} {M} {p} {x} a h m u o e =
    let f = a.rel.fine in
    let here : prepare b.kit.graph (slot_of M.node (here# h)) x.side ≡ hiding.ready m u o = ap (λ (s : ℕ). prepare b.kit.graph s x.side) h.slot ∙ e in
    let r = prepare_law f (here# h) h.is_seen m u o here in
    let q = r.1 in
    let s = prepared_subports f (here# h) h.is_seen m r.0 u o q here in
    let off = ready_offset a h o q.lower q.none in
    let c : ℕ = subports_ready (subports_of b.plan x) (offset_ready b.plan x) in
    let count : subports_at m r.0 (here# h) ≡ c = s.here ∙ sym (λ i. subports_ready (subports_here a h i) (off i)) in
    record {
      model = r.0;
      end = q;
      offset = off;
      alike =
          alike_after a (record { graph = m; book = b.kit.book }) (ready b.plan x) (rel_same a.rel q.fine q.blocks q.wires) q.blocks
          (set_release b.plan x c) (prepare_release b.kit.graph p x.side m u o e) (set_adds b.plan x c) (set_blocks b.plan x c)
          (subports_set a h b.plan refl c m r.0 count s.others)
          (set_there a h b.plan refl c)
          (set_wires b.plan x c ∙ a.wires);
    }

-- Linking.

-- two free inner ends, of ports that both have
pub record FreeEnds {b : Both} {M : Model} {p q : ℕ} {x y : SketchPort} (h : PortHere b M p x) (k : PortHere b M q y) (o r : ℕ) : Type 0 where
  pub first : model.InnerPlace
  pub second : model.InnerPlace
  pub first_end : IsEnd b.kit.graph M first
  pub second_end : IsEnd b.kit.graph M second
  pub first_free : M.join first ≡ nowhere
  pub second_free : M.join second ≡ nowhere
  pub first_side : first.side ≡ x.side
  pub second_side : second.side ≡ y.side
  pub first_is : outer b.kit.graph M first ≡ lift (here# h) o
  pub second_is : outer b.kit.graph M second ≡ lift (here# k) r
  pub opposite : x.side ≡ y.side → ⊥

module _ {b : Both} {M : Model} {p q : ℕ} {x y : SketchPort} (a : Alike b M) (h : PortHere b M p x) (k : PortHere b M q y) (o r : ℕ) (e : FreeEnds h k o r) where
  abbrev wire# : Wire
  wire# = wire_of_sides x.side (lift (here# h) o) (lift (here# k) r)

  abbrev joined_graph : MultiPortGraph
  joined_graph = with_graph b.kit.graph (link_ports b.kit.graph.graph (slot_of M.node e.first) (slot_of M.node e.second)).graph

  abbrev pub joined_both : Both
  joined_both =
      record {
        kit =
            record {
              graph = joined_graph;
              book = with_wires b.kit.book (add_wire b.kit.book.wires (spot_of b.kit.book.blocks p) o (spot_of b.kit.book.blocks q) r);
            };
        names = b.names;
        plan = with_wire b.plan x o y r;
      }

  joined : Joined b.kit.graph M joined_graph (link_model M e.first e.second) (wire# ∷ [])
  joined =
      subst (λ (w : Wire). Joined b.kit.graph M joined_graph (link_model M e.first e.second) (w ∷ [])) (λ i. wire_of_sides (e.first_side i) (e.first_is i) (e.second_is i))
      (join_ends a.rel.fine e.first e.second e.first_end e.second_end e.first_free e.second_free (λ g. e.opposite (sym e.first_side ∙ (g ∙ e.second_side))))

  fresh : WireIn b.kit.graph M wire# → ⊥
  fresh i =
      let l = end_of_wire a.rel.fine wire# (lift (here# h) o) i (end_of_sides x.side (lift (here# h) o) (lift (here# k) r)) in
      let s : l.near ≡ e.first = outer_apart a.rel.fine l.near e.first l.end e.first_end (l.is ∙ sym e.first_is) in
      let j = l.joined in
      let n = e.first_free in
      let t = ap M.join s in
      zero_is_not_one (cc)

  -- the book's wire under the names is the plan's
  wire_named : wire_renamed b.names wire# ≡ wire_of_sides x.side (place_named x o) (place_named y r)
  wire_named = go x.side ∙ (λ i. wire_of_sides x.side (first i) (second i))
    where
      first : place_renamed b.names (lift (here# h) o) ≡ place_named x o
      first = let n = name_of_lem b.names a.apart h.node x.block h.named in λ i. record { node = n i; side = x.side; pos = x.position; offset = o }

      second : place_renamed b.names (lift (here# k) r) ≡ place_named y r
      second = let n = name_of_lem b.names a.apart k.node y.block k.named in λ i. record { node = n i; side = y.side; pos = y.position; offset = r }

      go : (d : Direction) → wire_renamed b.names (wire_of_sides d (lift (here# h) o) (lift (here# k) r)) ≡ wire_of_sides d (place_renamed b.names (lift (here# h) o)) (place_renamed b.names (lift (here# k) r))
      go Incoming = refl
      go Outgoing = refl

  pub join_alike : Alike joined_both (link_model M e.first e.second)
  join_alike =
      alike_after a joined_both.kit joined_both.plan
      (rel_linked a.rel joined.fine joined.blocks (here# h) (here# k) h.is_seen k.is_seen p q h.slot k.slot o r o r refl refl joined.wires fresh)
      joined.blocks refl refl refl refl
      (λ v sv n i. a.subports v sv (naming v.node n) i refl ∙ sym (linked_subports _ e.first e.second a.rel.fine joined.fine e.first_end e.second_end v sv))
      a.splits_there
      ((λ i. sym wire_named i ∷ a.wires i)
      ∙ (λ i. map (wire_renamed b.names) (add_wire b.kit.book.wires (sym (spot_here a h) i) o (sym (spot_here a k) i) r)))

-- What a link answers and leaves on both.

abbrev pub LinkResult : Both → (Result (SubportIndex × SubportIndex) Refusal → Book) → PortsLinked → Sketched (Result (SketchEnd × SketchEnd) Reason) → Type 0
LinkResult b enter v w =
    LinkAlike b v.answer w.answer × ((M : Model) × Alike (record { kit = record { graph = v.graph; book = enter v.answer }; names = b.names; plan = w.plan }) M)

-- Both ends of a link of ports are prepared.

-- a port after the first end is
unfoldable still_prepared : {b : Both} {M : Model} {x : SketchPort} {z : model.InnerPlace} {m : MultiPortGraph} {u o : ℕ} → Alike b M → (s : PreparedAlike b M x z m u o) →
    {q : ℕ} {y : SketchPort} → PortHere b M q y → PortHere (prepared_both b m x) s.model q y
still_prepared {b} {M} {x} {z} {m} a s g = still_here a g (record { graph = m; book = b.kit.book }) (ready b.plan x) s.end.fine s.end.blocks (ready_blocks b.plan x)

pub second_prepared : {b : Both} {M : Model} {x : SketchPort} {z : model.InnerPlace} {m₁ : MultiPortGraph} {u o : ℕ} → Alike b M → (s : PreparedAlike b M x z m₁ u o) →
    {q : ℕ} {y : SketchPort} (k : PortHere b M q y) (m₂ : MultiPortGraph) (v r : ℕ) → prepare m₁ q y.side ≡ hiding.ready m₂ v r →
    PreparedAlike (prepared_both b m₁ x) s.model y (here# k) m₂ v r
unfolding still_prepared still_here
second_prepared a s k m₂ v r e = prepare_alike s.alike (still_prepared a s k) m₂ v r e

module _ {b : Both} {M : Model} {p q : ℕ} {x y : SketchPort} (a : Alike b M) (h : PortHere b M p x) (k : PortHere b M q y) (m₁ : MultiPortGraph) (u o : ℕ) (m₂ : MultiPortGraph) (v r : ℕ)
    (s : PreparedAlike b M x (here# h) m₁ u o) (t : PreparedAlike (prepared_both b m₁ x) s.model y (here# k) m₂ v r) where
  abbrev both : Both
  both = prepared_both (prepared_both b m₁ x) m₂ y

  first_here : PortHere both t.model p x
  first_here = still_here s.alike (still_prepared a s h) both.kit both.plan t.end.fine t.end.blocks (ready_blocks (ready b.plan x) y)

  second_here : PortHere both t.model q y
  second_here = still_here s.alike (still_prepared a s k) both.kit both.plan t.end.fine t.end.blocks (ready_blocks (ready b.plan x) y)

  kept_first : (x.side ≡ y.side → ⊥) → KeptEnd m₁ s.model m₂ t.model s.end.z
  kept_first opposite = t.end.keeps s.end.z s.end.end s.end.free (λ g. opposite (sym s.end.side ∙ g))

  free_ends : (x.side ≡ y.side → ⊥) → FreeEnds first_here second_here o r
  unfolding still_here still_prepared first_here second_here
  free_ends opposite =
      let kept = kept_first opposite in
      record {
        first = s.end.z;
        second = t.end.z;
        first_end = kept.end;
        second_end = t.end.end;
        first_free = kept.free;
        second_free = t.end.free;
        first_side = s.end.side;
        second_side = t.end.side;
        first_is = kept.is ∙ s.end.is;
        second_is = t.end.is;
        opposite = opposite;
      }

  first_offset : offset_ready b.plan x ≡ o
  first_offset = s.offset

  second_offset : offset_ready b.plan y ≡ r
  second_offset = ap (λ (l : List Wire). next_offset l (spot_named y)) (sym (ready_wires b.plan x)) ∙ t.offset

  first_booked : next_offset b.kit.book.wires (spot_of b.kit.book.blocks p) ≡ o
  first_booked = ap (next_offset b.kit.book.wires) (spot_here a h) ∙ (sym (next_alike a h) ∙ first_offset)

  second_booked : next_offset b.kit.book.wires (spot_of b.kit.book.blocks q) ≡ r
  second_booked = ap (next_offset b.kit.book.wires) (spot_here a k) ∙ (sym (next_alike a k) ∙ second_offset)

  abbrev linked_both : ℕ → ℕ → ℕ → ℕ → ℕ → ℕ → Both
  linked_both i j c d e f =
      record {
        kit =
            record {
              graph = with_graph m₂ (link_ports m₂.graph i j).graph;
              book = with_wires b.kit.book (add_wire b.kit.book.wires (spot_of b.kit.book.blocks p) c (spot_of b.kit.book.blocks q) d);
            };
        names = b.names;
        plan = with_wire (ready (ready b.plan x) y) x e y f;
      }

  -- the link is accepted
  pub accepted_result : (x.side ≡ y.side → ⊥) →
      LinkResult b (book_link b.kit.book p q) (record { graph = with_graph m₂ (link_ports m₂.graph u v).graph; answer = Ok (subport# p o, subport# q r) }) (both_linked b.plan x y)
  unfolding free_ends
  accepted_result opposite =
      let slot₁ : slot_of t.model.node s.end.z ≡ u = (kept_first opposite).slot ∙ s.end.slot in
      let slot₂ : slot_of t.model.node t.end.z ≡ v = t.end.slot in (
        (((h.node, spot_here a h, h.named), sym first_offset), ((k.node, spot_here a k, k.named), sym second_offset)),
        (
          link_model t.model s.end.z t.end.z,
          transport (λ i. Alike (linked_both (slot₁ i) (slot₂ i) (sym first_booked i) (sym second_booked i) (sym first_offset i) (sym second_offset i)) (link_model t.model s.end.z t.end.z))
              (join_alike t.alike first_here second_here o r (free_ends opposite)),
        ),
      )
