-- An engine and a sketch that are alike stay so after calls that keep the blocks, from what these did to subports and wires; and where nothing changed.
use Rattle.std.specs.Prelude.{◌≡◌, refl, Bool, true, false, List, map, ℕ, ◌<◌, ltb}
use Rattle.std.proofs.Common.{sym, ◌∙◌, ap, subst, ⊎_elim}
use Rattle.port_tables.specs.Lists.{Member}
use Rattle.portgraph.specs.Model as model
use Rattle.portgraph.specs.Model.{Model, Slots, count_of, slot_of}
use Rattle.portgraph.specs.GoodSlots.{same_place_lem}
use Rattle.multiportgraph.specs.WellFormed.{Seen, SameBlocks, lift}
use Rattle.multiportgraph.specs.HiddenStays.{true_not_false}
use Rattle.multiportgraph.specs.LinkCutLaws.{at_spot_here, at_spot_is}
use Rattle.port_tables.specs.Places.{Place, spot, at_spot}
use Rattle.multiportgraph.specs.declared.multiportgraph.MultiPortGraph.{MultiPortGraph}
use Rattle.theorems.specs.History.{State}
use Rattle.theorems.proofs.WireRule.{Rel}
use Rattle.sketches.specs.Plan.{Plan, PlanBlock, port_at, ports_on_side, is_there, subports_among, set_subports}
use Rattle.sketches.specs.declared.sketch.SketchPort.{SketchPort}
use Rattle.agreement.specs.Meaning.{Both}
use Rattle.agreement.specs.Alike.{Alike, subports_at, wire_renamed}
use Rattle.agreement.specs.Names.{naming, node_of_lem, one_name}
use Rattle.agreement.specs.Standing.{PortHere, here#}
use Rattle.agreement.specs.PlanLaws.{set_here, set_elsewhere, set_splits}
use Rattle.multiportgraph.specs.Ends.{seen_still}

-- what is there depends on the blocks alone
pub there_by_blocks : (K K' : Plan) → K'.blocks ≡ K.blocks → (x : SketchPort) → is_there K' x ≡ is_there K x
unfolding is_there
there_by_blocks K K' e x = ap (λ (l : List PlanBlock). ltb x.position (ports_on_side l x.block x.side)) e

-- The blocks are the same.

module _ {b : Both} {M : Model} (a : Alike b M) (kit : State) (plan : Plan) {M' : Model} (rel : Rel kit.graph M' kit.book) (same : SameBlocks b.kit.graph M kit.graph M') where
  pub alike_after : plan.release ≡ b.plan.release → kit.graph.release ≡ b.kit.graph.release → plan.adds ≡ b.plan.adds → plan.blocks ≡ b.plan.blocks →
      ((x : model.InnerPlace) → Seen b.kit.graph M x → (k : ℕ) → Member (naming x.node k) b.names →
      subports_among plan.splits (spot k x.side x.pos) ≡ subports_at kit.graph M' x) →
      ((s : Place) → Member s plan.splits → is_there b.plan (port_at s) ≡ true) →
      plan.wires ≡ map (wire_renamed b.names) kit.book.wires → Alike (record { kit = kit; names = b.names; plan = plan }) M'
  alike_after planRelease kitRelease adds blocks subports splits wires =
      record {
        rel = rel;
        release = planRelease ∙ (a.release ∙ sym kitRelease);
        apart = a.apart;
        given = λ x i. subst (λ (n : ℕ). x.name < n) (sym adds) (a.given x i);
        named = λ x i.
            let r = a.named x i in
            (r.0, same.0 x.node r.0 r.1, subst (λ (l : List PlanBlock). Member (record { name = x.name; incoming = r.0.incoming; outgoing = r.0.outgoing }) l) (sym blocks) r.2);
        kit_named = λ n k h. a.kit_named n k (same.1 n k h);
        plan_named = λ p i. a.plan_named p (subst (Member p) blocks i);
        plan_once = rw blocks a.plan_once;
        subports = λ x s n i e.
            subports x (seen_still rel.fine a.rel.fine (same.1, same.0) x s).0 n.name (subst (λ (v : ℕ). Member (naming v n.name) b.names) e i);
        splits_there = λ s i. there_by_blocks b.plan plan blocks (port_at s) ∙ splits s i;
        wires = wires;
      }

-- A port of the sketch is given another number of subports.

module _ {b : Both} {M : Model} (a : Alike b M) {p : ℕ} {x : SketchPort} (h : PortHere b M p x) (K : Plan) (same : K.splits ≡ b.plan.splits) (c : ℕ) where
  -- as many as the engine's port has then, and the engine's others as many as before
  pub subports_set : (m' : MultiPortGraph) (M' : Model) → subports_at m' M' (here# h) ≡ c →
      ((y : model.InnerPlace) → Seen b.kit.graph M y → (y ≡ here# h → ⊥) → subports_at m' M' y ≡ subports_at b.kit.graph M y) →
      (y : model.InnerPlace) → Seen b.kit.graph M y → (k : ℕ) → Member (naming y.node k) b.names →
      subports_among (set_subports K x c).splits (spot k y.side y.pos) ≡ subports_at m' M' y
  subports_set m' M' now others y s k i = go (at_spot (spot h.node x.side x.position) (lift y 0)) refl
    where
      go : (t : Bool) → at_spot (spot h.node x.side x.position) (lift y 0) ≡ t → subports_among (set_subports K x c).splits (spot k y.side y.pos) ≡ subports_at m' M' y
      go true e =
          let q = at_spot_is h.node x.side x.position (lift y 0) e in
          let n : k ≡ x.block = one_name b.names a.apart y.node k x.block i (subst (λ (v : ℕ). Member (naming v x.block) b.names) (sym q.0) h.named) in
          let z : y ≡ here# h = same_place_lem y (here# h) q.0 q.1 q.2 in
          (λ j. subports_among (set_subports K x c).splits (spot (n j) (q.1 j) (q.2 j))) ∙ (set_here K x c ∙ (sym now ∙ ap (subports_at m' M') (sym z)))
      go false e =
          let away : y ≡ here# h → ⊥ = λ z.
          true_not_false
          (at_spot_here h.node x.side x.position (lift y 0) (ap (λ (v : model.InnerPlace). v.node) z) (ap (λ (v : model.InnerPlace). v.side) z) (ap (λ (v : model.InnerPlace). v.pos) z))
          e in
          set_elsewhere K x c k y.side y.pos
          (λ u v w.
          let n = node_of_lem b.names a.apart (naming y.node k) (naming h.node x.block) i h.named (sym u) in
          away (same_place_lem y (here# h) n (sym v) (sym w)))
          ∙ (ap (λ (l : List Place). subports_among l (spot k y.side y.pos)) same
          ∙ (a.subports y s (naming y.node k) i refl ∙ sym (others y s away)))

  pub set_there : (s : Place) → Member s (set_subports K x c).splits → is_there b.plan (port_at s) ≡ true
  set_there s i =
      ⊎_elim (λ j. a.splits_there s (subst (Member s) same j)) (λ e. ap (is_there b.plan) e ∙ h.there) (set_splits K x c s i)
