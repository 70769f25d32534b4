-- The square of a link that leaves no stub: 7, 18, 11, 12 in the same places and nothing left by them; accepted, it is the link of ports.
use Rattle.std.specs.Prelude.{◌≡◌, Bool, ◌⊎◌, ℕ, Result, Err}
use Rattle.std.proofs.Math.Path.{refl}
use Rattle.std.proofs.Common.{◌∙◌, ap, inl, inr}
use Rattle.std.proofs.Math.Bool.{true, false}
use Rattle.port_tables.specs.Entries.{same_side}
use Rattle.portgraph.specs.Model.{Model}
use Rattle.portgraph.specs.GoodLaws.{same_side_is}
use Rattle.multiportgraph.specs.Calls.{link_clean}
use Rattle.multiportgraph.specs.HiddenNodes as hiding
use Rattle.multiportgraph.specs.HiddenNodes.{prepare}
use Rattle.multiportgraph.specs.Refusals as kit
use Rattle.multiportgraph.specs.declared.multiportgraph.MultiPortGraph.{MultiPortGraph}
use Rattle.multiportgraph.specs.declared.multiportgraph.PortsLinked.{PortsLinked}
use Rattle.multi_tables.specs.declared.answers.Refusal.TheVariants.{NoRoom}
use Rattle.theorems.specs.Book as book
use Rattle.theorems.specs.Book.{book_link}
use Rattle.theorems.specs.Conditions.{LinkRefused, OfBlock, Taken, clean_first_dead, clean_full, clean_one_side, clean_second_dead, clean_wired}
use Rattle.theorems.proofs.LinkCall.{links_otherwise}
use Rattle.theorems.proofs.LinkCleanCall.{clean_refuses, link_is_clean}
use Rattle.theorems.specs.TakenLaws.{so_free, so_taken}
use Rattle.sketches.specs.Plan.{input_taken}
use Rattle.sketches.specs.PlanCalls as sketch
use Rattle.sketches.specs.PlanCalls.{Sketched, leaves, is_full, both_linked}
use Rattle.sketches.specs.PlanNumbers.{reason_number}
use Rattle.sketches.specs.declared.sketch.Reason.TheVariants as reason
use Rattle.sketches.specs.declared.sketch.SketchPort.{SketchPort}
use Rattle.agreement.specs.Meaning.{Both, PortMeans, link_clean_plan, means_link_clean}
use Rattle.agreement.specs.Agreement.{HasRoom}
use Rattle.agreement.specs.Alike.{Alike}
use Rattle.agreement.specs.Square.{pair, Square, squared, as_both}
use Rattle.agreement.specs.Standing.{PortHere, PortGone, here#, port_meant}
use Rattle.agreement.specs.LinkTests.{taken_alike}
use Rattle.agreement.specs.LinkSteps.{LinkResult, prepare_alike, second_prepared, accepted_result}
use Rattle.agreement.specs.LinkSquare.{none_hidden, both_ends}
use Rattle.sketches.specs.declared.sketch.Reason.{Reason}
use Rattle.sketches.specs.declared.sketch.SketchEnd.{SketchEnd}
use Rattle.portgraph.specs.Joins.{same_side_false}

module _ {b : Both} {M : Model} (a : Alike b M) (p q : ℕ) (x y : SketchPort) (first : PortMeans b p x) (second : PortMeans b q y)
    (room : HasRoom b (pair (book.link_clean_call p q) (link_clean_plan x y))) where
  abbrev m : MultiPortGraph
  m = b.kit.graph

  abbrev Outcome : PortsLinked → Sketched (Result (SketchEnd × SketchEnd) Reason) → Type 0
  Outcome = LinkResult b (book_link b.kit.book p q)

  abbrev Done : Type 0
  Done = Outcome (link_clean m p q) (sketch.link_clean b.plan x y)

  -- both ports are of blocks, and 18 is not given
  module _ (h : PortHere b M p x) (k : PortHere b M q y) (free : Taken m M p q → ⊥) (untaken : input_taken b.plan x y ≡ false) where
    at_first : OfBlock m M p (here# h)
    at_first = (h.is_seen, h.slot)

    at_second : OfBlock m M q (here# k)
    at_second = (k.is_seen, k.slot)

    module _ (c : same_side x.side y.side ≡ false) where
      opposite : x.side ≡ y.side → ⊥
      opposite = same_side_false x.side y.side c

      no_room : LinkRefused m M p q m NoRoom → ⊥
      no_room e = room.kit (ap (λ (v : PortsLinked). v.answer) (clean_refuses a.rel.fine p q NoRoom (clean_full (here# h) (here# k) at_first at_second opposite e)))

      linked : (m₁ m₂ : MultiPortGraph) (u o v r : ℕ) → prepare m p x.side ≡ hiding.ready m₁ u o → prepare m₁ q y.side ≡ hiding.ready m₂ v r → (full : Bool) → is_full b.plan ≡ full → Done
      unfolding sketch.link_clean
      linked m₁ m₂ u o v r e g true i =
          let z : sketch.link_clean b.plan x y ≡ leaves b.plan (Err reason.NoRoom) = rw (h.there, untaken, k.there, c, i) refl in
          absurd (room.sketched (ap (λ (w : Sketched (Result (SketchEnd × SketchEnd) Reason)). w.answer) z))
      linked m₁ m₂ u o v r e g false i =
          let s = prepare_alike a h m₁ u o e in
          let t = second_prepared a s k m₂ v r g in
          let l = links_otherwise a.rel.fine p q free (here# h) (here# k) m₁ m₂ u o v r at_first at_second e g opposite in
          as_both Outcome (both_linked b.plan x y) (link_is_clean m p q _ _ (ap (λ (v : PortsLinked). v.answer) l) ∙ l)
          (rw (h.there, untaken, k.there, c, i) refl) (accepted_result a h k m₁ u o m₂ v r s t opposite)

    sides : (c : Bool) → same_side x.side y.side ≡ c → Done
    unfolding sketch.link_clean reason_number
    sides false c = both_ends a p q h k free (no_room c) (λ m₁ m₂ u o v r e g. linked c m₁ m₂ u o v r e g (is_full b.plan) refl)
    sides true c =
        as_both Outcome (leaves b.plan (Err reason.SameSide))
        (clean_refuses a.rel.fine p q _ (clean_one_side (here# h) (here# k) at_first at_second free (same_side_is x.side y.side c)))
        (rw (h.there, untaken, k.there, c) refl) ((_, refl), (M, a))

  wired : (h : PortHere b M p x) (k : PortHere b M q y ⊎ PortGone b M q y) (taken : Bool) → kit.input_taken m p q ≡ taken → input_taken b.plan x y ≡ taken → Done
  unfolding sketch.link_clean reason_number
  wired h k true e t =
      as_both Outcome (leaves b.plan (Err reason.InputWired))
      (clean_refuses a.rel.fine p q _ (clean_wired (here# h) (h.is_seen, h.slot) (none_hidden a q y k) (so_taken a.rel.fine p q e)))
      (rw (h.there, t) refl) ((_, refl), (M, a))
  wired h (inl k) false e t = sides h k (so_free a.rel.fine p q e) t (same_side x.side y.side) refl
  wired h (inr g) false e t =
      as_both Outcome (leaves b.plan (Err reason.UnknownSecondPort))
      (clean_refuses a.rel.fine p q _ (clean_second_dead (here# h) (h.is_seen, h.slot) g.0 (so_free a.rel.fine p q e)))
      (rw (h.there, t, g.1) refl) ((_, refl), (M, a))

  done : (h : PortHere b M p x ⊎ PortGone b M p x) (k : PortHere b M q y ⊎ PortGone b M q y) → Done
  unfolding sketch.link_clean reason_number
  done (inl h) k = wired h k (kit.input_taken m p q) refl (taken_alike a p q x y (inl h) k)
  done (inr g) k =
      as_both Outcome (leaves b.plan (Err reason.UnknownPort)) (clean_refuses a.rel.fine p q _ (clean_first_dead g.0)) (rw g.1 refl) ((_, refl), (M, a))

pub link_clean_square : {b : Both} {M : Model} (p q : ℕ) (x y : SketchPort) (first : PortMeans b p x) (second : PortMeans b q y) → Square b M (means_link_clean p q x y first second)
link_clean_square p q x y first second a room =
    squared (done a p q x y first second room (port_meant a p x first) (port_meant a q y second))
