-- The square of a link of ports: 7, 18, 11, 12 in the same places, with what 11 and 12 leave prepared; accepted, the same ends and one wire more.
use Rattle.std.specs.Prelude.{◌≡◌, Bool, ◌⊎◌, ℕ, Result, Err}
use Rattle.std.proofs.Math.Path.{refl}
use Rattle.std.proofs.Common.{ap, inl, inr}
use Rattle.std.proofs.Math.Bool.{true, false}
use Rattle.port_tables.specs.Entries.{same_side}
use Rattle.portgraph.specs.Model.{Model}
use Rattle.portgraph.specs.GoodLaws.{same_side_is}
use Rattle.multiportgraph.specs.Calls.{link_pair}
use Rattle.multiportgraph.specs.HiddenNodes as hiding
use Rattle.multiportgraph.specs.HiddenNodes.{prepare}
use Rattle.multiportgraph.specs.Refusals as kit
use Rattle.multiportgraph.specs.declared.multiportgraph.MultiPortGraph.{MultiPortGraph}
use Rattle.multiportgraph.specs.declared.multiportgraph.PortsLinked.{PortsLinked}
use Rattle.multi_tables.specs.declared.answers.Refusal.TheVariants.{NoRoom}
use Rattle.theorems.specs.Book as book
use Rattle.theorems.specs.Book.{book_link}
use Rattle.theorems.specs.Conditions.{LinkRefused, OfBlock, OfHidden, Taken, link_first_dead, link_first_full, link_one_side, link_second_dead, link_second_full, link_wired}
use Rattle.theorems.proofs.LinkCall.{block_not_hidden, dead_not_hidden, link_refuses, links_otherwise}
use Rattle.theorems.specs.TakenLaws.{so_free, so_taken}
use Rattle.sketches.specs.Plan.{input_taken, ready}
use Rattle.sketches.specs.PlanCalls as sketch
use Rattle.sketches.specs.PlanCalls.{Sketched, leaves, is_full, both_linked}
use Rattle.sketches.specs.PlanNumbers.{reason_number}
use Rattle.sketches.specs.declared.sketch.Reason.TheVariants as reason
use Rattle.sketches.specs.declared.sketch.SketchPort.{SketchPort}
use Rattle.agreement.specs.Meaning.{Both, PortMeans, link_plan, means_link}
use Rattle.agreement.specs.Agreement.{HasRoom}
use Rattle.agreement.specs.Alike.{Alike}
use Rattle.agreement.specs.Square.{pair, Square, squared, as_both}
use Rattle.agreement.specs.Standing.{PortHere, PortGone, here#, port_meant}
use Rattle.agreement.specs.LinkTests.{taken_alike}
use Rattle.agreement.specs.LinkSteps.{LinkResult, prepare_alike, second_prepared, accepted_result}
use Rattle.sketches.specs.declared.sketch.Reason.{Reason}
use Rattle.sketches.specs.declared.sketch.SketchEnd.{SketchEnd}
use Rattle.portgraph.specs.Joins.{same_side_false}

-- the port that a call names is no hidden one
pub none_hidden : {b : Both} {M : Model} → Alike b M → (q : ℕ) (y : SketchPort) → PortHere b M q y ⊎ PortGone b M q y → OfHidden b.kit.graph M q → ⊥
none_hidden a q y (inl k) = block_not_hidden a.rel.fine q (here# k) (k.is_seen, k.slot)
none_hidden a q y (inr g) = dead_not_hidden a.rel.fine q g.0

-- both ports are of blocks and free, and 10 is not given: both ends are prepared
module _ {b : Both} {M : Model} (a : Alike b M) (p q : ℕ) {x y : SketchPort} (h : PortHere b M p x) (k : PortHere b M q y)
    (free : Taken b.kit.graph M p q → ⊥) (no_room : LinkRefused b.kit.graph M p q b.kit.graph NoRoom → ⊥) {D : Type 0}
    (prepared : (m₁ m₂ : MultiPortGraph) (u o v r : ℕ) → prepare b.kit.graph p x.side ≡ hiding.ready m₁ u o → prepare m₁ q y.side ≡ hiding.ready m₂ v r → D) where
  second_end_lem : (m₁ : MultiPortGraph) (u o : ℕ) → prepare b.kit.graph p x.side ≡ hiding.ready m₁ u o → (w : hiding.Prepared) → prepare m₁ q y.side ≡ w → D
  second_end_lem m₁ u o e hiding.full g = absurd (no_room (link_second_full (here# h) (here# k) m₁ u o (h.is_seen, h.slot) (k.is_seen, k.slot) free e g))
  second_end_lem m₁ u o e (hiding.ready m₂ v r) g = prepared m₁ m₂ u o v r e g

  first_end : (w : hiding.Prepared) → prepare b.kit.graph p x.side ≡ w → D
  first_end hiding.full e = absurd (no_room (link_first_full (here# h) (h.is_seen, h.slot) (block_not_hidden a.rel.fine q (here# k) (k.is_seen, k.slot)) free e))
  first_end (hiding.ready m₁ u o) e = second_end_lem m₁ u o e (prepare m₁ q y.side) refl

  pub both_ends : D
  both_ends = first_end (prepare b.kit.graph p x.side) refl

module _ {b : Both} {M : Model} (a : Alike b M) (p q : ℕ) (x y : SketchPort) (first : PortMeans b p x) (second : PortMeans b q y) (room : HasRoom b (pair (book.link_call p q) (link_plan x y))) where
  abbrev m : MultiPortGraph
  m = b.kit.graph

  abbrev Outcome : PortsLinked → Sketched (Result (SketchEnd × SketchEnd) Reason) → Type 0
  Outcome = LinkResult b (book_link b.kit.book p q)

  abbrev Done : Type 0
  Done = Outcome (link_pair m p q) (sketch.link_ports b.plan x y)

  no_room : LinkRefused m M p q m NoRoom → ⊥
  no_room c = room.kit (ap (λ (v : PortsLinked). v.answer) (link_refuses a.rel.fine p q m NoRoom c))

  -- both ports are of blocks, and 18 is not given
  module _ (h : PortHere b M p x) (k : PortHere b M q y) (free : Taken m M p q → ⊥) (untaken : input_taken b.plan x y ≡ false) where
    at_first : OfBlock m M p (here# h)
    at_first = (h.is_seen, h.slot)

    at_second : OfBlock m M q (here# k)
    at_second = (k.is_seen, k.slot)

    sides : (m₁ m₂ : MultiPortGraph) (u o v r : ℕ) → prepare m p x.side ≡ hiding.ready m₁ u o → prepare m₁ q y.side ≡ hiding.ready m₂ v r →
        (c : Bool) → same_side x.side y.side ≡ c → (full : Bool) → is_full b.plan ≡ full → Done
    unfolding sketch.link_ports reason_number
    sides m₁ m₂ u o v r e g true c full i =
        let s = prepare_alike a h m₁ u o e in
        let t = second_prepared a s k m₂ v r g in
        as_both Outcome (leaves (ready (ready b.plan x) y) (Err reason.SameSide))
        (link_refuses a.rel.fine p q m₂ _ (link_one_side (here# h) (here# k) m₁ m₂ u o v r at_first at_second free e g (same_side_is x.side y.side c)))
        (rw (h.there, untaken, k.there, c) refl) ((_, refl), (t.model, t.alike))
    sides m₁ m₂ u o v r e g false c true i =
        let z : sketch.link_ports b.plan x y ≡ leaves b.plan (Err reason.NoRoom) = rw (h.there, untaken, k.there, c, i) refl in
        absurd (room.sketched (ap (λ (w : Sketched (Result (SketchEnd × SketchEnd) Reason)). w.answer) z))
    sides m₁ m₂ u o v r e g false c false i =
        let s = prepare_alike a h m₁ u o e in
        let t = second_prepared a s k m₂ v r g in
        let opposite = same_side_false x.side y.side c in
        as_both Outcome (both_linked b.plan x y) (links_otherwise a.rel.fine p q free (here# h) (here# k) m₁ m₂ u o v r at_first at_second e g opposite)
        (rw (h.there, untaken, k.there, c, i) refl) (accepted_result a h k m₁ u o m₂ v r s t opposite)

    here : Done
    here = both_ends a p q h k free no_room (λ m₁ m₂ u o v r e g. sides m₁ m₂ u o v r e g (same_side x.side y.side) refl (is_full b.plan) refl)

  -- the second is not there
  alone : (h : PortHere b M p x) → PortGone b M q y → (Taken m M p q → ⊥) → input_taken b.plan x y ≡ false → (w : hiding.Prepared) → prepare m p x.side ≡ w → Done
  unfolding sketch.link_ports reason_number
  alone h g free untaken hiding.full e = absurd (no_room (link_first_full (here# h) (h.is_seen, h.slot) (dead_not_hidden a.rel.fine q g.0) free e))
  alone h g free untaken (hiding.ready m₁ u o) e =
      let s = prepare_alike a h m₁ u o e in
      as_both Outcome (leaves (ready b.plan x) (Err reason.UnknownSecondPort))
      (link_refuses a.rel.fine p q m₁ _ (link_second_dead (here# h) m₁ u o (h.is_seen, h.slot) g.0 free e))
      (rw (h.there, untaken, g.1) refl) ((_, refl), (s.model, s.alike))

  wired : (h : PortHere b M p x) (k : PortHere b M q y ⊎ PortGone b M q y) (taken : Bool) → kit.input_taken m p q ≡ taken → input_taken b.plan x y ≡ taken → Done
  unfolding sketch.link_ports reason_number
  wired h k true e t =
      as_both Outcome (leaves b.plan (Err reason.InputWired))
      (link_refuses a.rel.fine p q m _ (link_wired (here# h) (h.is_seen, h.slot) (none_hidden a q y k) (so_taken a.rel.fine p q e)))
      (rw (h.there, t) refl) ((_, refl), (M, a))
  wired h (inl k) false e t = here h k (so_free a.rel.fine p q e) t
  wired h (inr g) false e t = alone h g (so_free a.rel.fine p q e) t (prepare m p x.side) refl

  done : (h : PortHere b M p x ⊎ PortGone b M p x) (k : PortHere b M q y ⊎ PortGone b M q y) → Done
  unfolding sketch.link_ports reason_number
  done (inl h) k = wired h k (kit.input_taken m p q) refl (taken_alike a p q x y (inl h) k)
  done (inr g) k =
      as_both Outcome (leaves b.plan (Err reason.UnknownPort)) (link_refuses a.rel.fine p q m _ (link_first_dead g.0)) (rw g.1 refl) ((_, refl), (M, a))

pub link_square : {b : Both} {M : Model} (p q : ℕ) (x y : SketchPort) (first : PortMeans b p x) (second : PortMeans b q y) → Square b M (means_link p q x y first second)
link_square p q x y first second a room =
    squared (done a p q x y first second room (port_meant a p x first) (port_meant a q y second))
