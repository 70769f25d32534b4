-- The square of a link of subports: 2, 7, 9, 18, 11, 12, 13 in the same places; accepted, both ends as read and one wire more.
use Rattle.std.specs.Prelude.{◌≡◌, Bool, [], ◌∷◌, ◌⊎◌, ℕ, ◌≤◌, ◌<◌, ltb, Result, Ok, Err}
use Rattle.std.proofs.Math.Path.{refl, sym, transport}
use Rattle.std.proofs.Common.{◌∙◌, ap, inl, inr, arith}
use Rattle.std.proofs.Math.Bool.{true, false}
use borrow.Author.Tests.{ltb-true, ltb-false}
use Rattle.portgraph.specs.Meaning.{link_model}
use Rattle.port_tables.specs.Entries.{same_side}
use Rattle.portgraph.specs.Calls.{link_ports}
use Rattle.portgraph.specs.Model.{Model}
use Rattle.portgraph.specs.GoodLaws.{same_side_is}
use Rattle.multiportgraph.specs.Calls.{link_sub}
use Rattle.multiportgraph.specs.Ends.{EndOf}
use Rattle.multiportgraph.specs.Graph.{with_graph}
use Rattle.multiportgraph.specs.WellFormed.{lift}
use Rattle.multiportgraph.specs.Reading.{is_split, as_read}
use Rattle.multiportgraph.specs.Refusals as kit
use Rattle.multiportgraph.specs.declared.multiportgraph.MultiPortGraph.{MultiPortGraph}
use Rattle.multiportgraph.specs.declared.multiportgraph.PortsLinked.{PortsLinked}
use Rattle.theorems.specs.Book as book
use Rattle.theorems.specs.Book.{Book, with_wires, spot_of, add_wire, read_by, book_link_sub}
use Rattle.theorems.specs.Conditions.{Lacks, OfBlock, Offsets, Taken, sub_first_dead, sub_first_lacks, sub_first_linked, sub_offsets, sub_one_side, sub_second_dead, sub_second_lacks, sub_second_linked, sub_wired}
use Rattle.theorems.proofs.LinkSubCall.{link_sub_refuses, links_sub_otherwise}
use Rattle.theorems.specs.PortCases.{end_is_lem, not_lacking_there, only_there}
use Rattle.theorems.specs.TakenLaws.{so_free, so_taken}
use Rattle.sketches.specs.Plan.{input_taken, lacks_offset, offset_read, end#}
use Rattle.sketches.specs.PlanCalls as sketch
use Rattle.sketches.specs.PlanCalls.{Sketched, leaves, is_full, is_wired, with_wire}
use Rattle.sketches.specs.PlanNumbers.{reason_number}
use Rattle.sketches.specs.declared.sketch.Reason.TheVariants as reason
use Rattle.sketches.specs.declared.sketch.SketchPort.{SketchPort}
use Rattle.agreement.specs.Meaning.{Both, PortMeans, link_sub_plan, means_link_sub}
use Rattle.agreement.specs.Agreement.{HasRoom}
use Rattle.agreement.specs.Alike.{Alike}
use Rattle.agreement.specs.Square.{pair, Square, squared, as_both}
use Rattle.agreement.specs.Standing.{PortHere, PortGone, here#, port_meant, offset_read_lem, lacks_so, lacks_not}
use Rattle.agreement.specs.LinkTests.{taken_alike, wired_linked, unwired_free}
use Rattle.agreement.specs.LinkSteps.{spot_here, LinkResult, FreeEnds, join_alike}
use Rattle.agreement.specs.LinkSquare.{none_hidden}
use Rattle.sketches.specs.declared.sketch.Reason.{Reason}
use Rattle.sketches.specs.declared.sketch.SketchEnd.{SketchEnd}
use Rattle.multi_tables.specs.declared.answers.Refusal.{Refusal}
use Rattle.multi_tables.specs.declared.answers.SubportIndex.{SubportIndex}
use Rattle.portgraph.specs.Joins.{same_side_false}

-- an end that is not lacking
pub end_there : {b : Both} {M : Model} {p : ℕ} {x : SketchPort} (a : Alike b M) (h : PortHere b M p x) (o : ℕ) → (Lacks b.kit.graph M (here# h) o → ⊥) →
    (u : ℕ) × EndOf b.kit.graph M (here# h) o u
end_there {b} {M} {p} {x} a h o n =
    let w = not_lacking_there a.rel.fine p (here# h) o (h.is_seen, h.slot) n in
    (w.0, end_is_lem a.rel.fine p (here# h) o w.0 (h.is_seen, h.slot) w.1)

module _ {b : Both} {M : Model} (a : Alike b M) (p o q r : ℕ) (x y : SketchPort) (first : PortMeans b p x) (second : PortMeans b q y)
    (room : HasRoom b (pair (book.link_sub_call p o q r) (link_sub_plan x o y r))) where
  abbrev m : MultiPortGraph
  m = b.kit.graph

  abbrev enter : Result (SubportIndex × SubportIndex) Refusal → Book
  enter v = book_link_sub b.kit.book p o q r v (is_split m p ∷ is_split m q ∷ [])

  abbrev Outcome : PortsLinked → Sketched (Result (SketchEnd × SketchEnd) Reason) → Type 0
  Outcome = LinkResult b enter

  abbrev Done : Type 0
  Done = Outcome (link_sub m p o q r) (sketch.link_subports b.plan x o y r)

  module _ (good-first : ltb o 65535 ≡ true) (good-second : ltb r 65535 ≡ true) where
    offsets : Offsets o r
    offsets = let k : o < 65535 = ltb-true _ _ good-first in let l : r < 65535 = ltb-true _ _ good-second in (omega arith, omega arith)

    module _ (h : PortHere b M p x) (there : lacks_offset b.plan x o ≡ false) where
      at_first : OfBlock m M p (here# h)
      at_first = (h.is_seen, h.slot)

      has_first : Lacks m M (here# h) o → ⊥
      has_first = lacks_not a h o there

      -- both ends are there, and 18 is not given
      module _ (k : PortHere b M q y) (there-too : lacks_offset b.plan y r ≡ false) (free : Taken m M p q → ⊥) (untaken : input_taken b.plan x y ≡ false)
          (u v : ℕ) (e : EndOf m M (here# h) o u) (g : EndOf m M (here# k) r v) where
        at_second : OfBlock m M q (here# k)
        at_second = (k.is_seen, k.slot)

        module _ (c : same_side x.side y.side ≡ false) where
          opposite : x.side ≡ y.side → ⊥
          opposite = same_side_false x.side y.side c

          module _ (w₁ : is_wired b.plan x o ≡ false) (w₂ : is_wired b.plan y r ≡ false) where
            free_ends : FreeEnds h k (read_by (is_split m p) o) (read_by (is_split m q) r)
            free_ends =
                record {
                  first = e.end;
                  second = g.end;
                  first_end = e.is_end;
                  second_end = g.is_end;
                  first_free = unwired_free a h o u e w₁;
                  second_free = unwired_free a k r v g w₂;
                  first_side = e.side;
                  second_side = g.side;
                  first_is = e.is ∙ ap (λ (s : ℕ). lift (here# h) (read_by (is_split m s) o)) h.slot;
                  second_is = g.is ∙ ap (λ (s : ℕ). lift (here# k) (read_by (is_split m s) r)) k.slot;
                  opposite = opposite;
                }

            abbrev linked_both : ℕ → ℕ → ℕ → ℕ → Both
            linked_both i j d s =
                record {
                  kit =
                      record {
                        graph = with_graph m (link_ports m.graph i j).graph;
                        book =
                            with_wires b.kit.book
                            (add_wire b.kit.book.wires (spot_of b.kit.book.blocks p) (read_by (is_split m p) o) (spot_of b.kit.book.blocks q) (read_by (is_split m q) r));
                      };
                  names = b.names;
                  plan = with_wire b.plan x d y s;
                }

            linked : (full : Bool) → is_full b.plan ≡ full → Done
            unfolding sketch.link_subports as_read free_ends
            linked true i =
                let z : sketch.link_subports b.plan x o y r ≡ leaves b.plan (Err reason.NoRoom) =
                rw (good-first, good-second, h.there, there, k.there, there-too, untaken, c, w₁, w₂, i) refl in
                absurd (room.sketched (ap (λ (w : Sketched (Result (SketchEnd × SketchEnd) Reason)). w.answer) z))
            linked false i =
                let d = offset_read_lem a h o in
                let s = offset_read_lem a k r in
                as_both Outcome (leaves (with_wire b.plan x (offset_read b.plan x o) y (offset_read b.plan y r)) (Ok (end# x (offset_read b.plan x o), end# y (offset_read b.plan y r))))
                (links_sub_otherwise a.rel.fine p o q r offsets (here# h) (here# k) u v at_first at_second e g free opposite (unwired_free a h o u e w₁) (unwired_free a k r v g w₂))
                (rw (good-first, good-second, h.there, there, k.there, there-too, untaken, c, w₁, w₂, i) refl) (
                  (((h.node, spot_here a h, h.named), sym d), ((k.node, spot_here a k, k.named), sym s)),
                  (
                    link_model M e.end g.end,
                    transport (λ i. Alike (linked_both (e.slot i) (g.slot i) (sym d i) (sym s i)) (link_model M e.end g.end)) (join_alike a h k _ _ free_ends),
                  ),
                )

          -- 13
          wires : (s t : Bool) → is_wired b.plan x o ≡ s → is_wired b.plan y r ≡ t → Done
          unfolding sketch.link_subports reason_number
          wires false false w₁ w₂ = linked w₁ w₂ (is_full b.plan) refl
          wires true t w₁ w₂ =
              as_both Outcome (leaves b.plan (Err reason.AlreadyLinked))
              (link_sub_refuses a.rel.fine p o q r _ (sub_first_linked offsets (here# h) (here# k) u v at_first at_second e g free opposite (wired_linked a h o u e w₁)))
              (rw (good-first, good-second, h.there, there, k.there, there-too, untaken, c, w₁) refl) ((_, refl), (M, a))
          wires false true w₁ w₂ =
              as_both Outcome (leaves b.plan (Err reason.AlreadyLinked))
              (link_sub_refuses a.rel.fine p o q r _
              (sub_second_linked offsets (here# h) (here# k) u v at_first at_second e g free opposite (unwired_free a h o u e w₁) (wired_linked a k r v g w₂)))
              (rw (good-first, good-second, h.there, there, k.there, there-too, untaken, c, w₁, w₂) refl) ((_, refl), (M, a))

        -- 12
        sides : (c : Bool) → same_side x.side y.side ≡ c → Done
        unfolding sketch.link_subports reason_number
        sides false c = wires c (is_wired b.plan x o) (is_wired b.plan y r) refl refl
        sides true c =
            as_both Outcome (leaves b.plan (Err reason.SameSide))
            (link_sub_refuses a.rel.fine p o q r _ (sub_one_side offsets (here# h) (here# k) u v at_first at_second e g free (same_side_is x.side y.side c)))
            (rw (good-first, good-second, h.there, there, k.there, there-too, untaken, c) refl) ((_, refl), (M, a))

      -- 18, with the second port there
      wired : (k : PortHere b M q y) → lacks_offset b.plan y r ≡ false → (taken : Bool) → kit.input_taken m p q ≡ taken → input_taken b.plan x y ≡ taken → Done
      unfolding sketch.link_subports reason_number
      wired k there-too false e t =
          let f = end_there a h o has_first in
          let g = end_there a k r (lacks_not a k r there-too) in
          sides k there-too (so_free a.rel.fine p q e) t f.0 g.0 f.1 g.1 (same_side x.side y.side) refl
      wired k there-too true e t =
          as_both Outcome (leaves b.plan (Err reason.InputWired))
          (link_sub_refuses a.rel.fine p o q r _
          (sub_wired offsets (here# h) at_first (none_hidden a q y (inl k)) has_first (only_there a.rel.fine q r (here# k) (k.is_seen, k.slot) (lacks_not a k r there-too)) (so_taken a.rel.fine p q e)))
          (rw (good-first, good-second, h.there, there, k.there, there-too, t) refl) ((_, refl), (M, a))

      -- 9 of the second
      second_there : (k : PortHere b M q y) (s : Bool) → lacks_offset b.plan y r ≡ s → Done
      unfolding sketch.link_subports reason_number
      second_there k false s = wired k s (kit.input_taken m p q) refl (taken_alike a p q x y (inl h) (inl k))
      second_there k true s =
          as_both Outcome (leaves b.plan (Err reason.UnknownOffset))
          (link_sub_refuses a.rel.fine p o q r _ (sub_second_lacks offsets (here# h) (here# k) at_first (k.is_seen, k.slot) has_first (lacks_so a k r s)))
          (rw (good-first, good-second, h.there, there, k.there, s) refl) ((_, refl), (M, a))

      -- 18 and 11, with the second not there
      second_gone : (g : PortGone b M q y) (taken : Bool) → kit.input_taken m p q ≡ taken → input_taken b.plan x y ≡ taken → Done
      unfolding sketch.link_subports reason_number
      second_gone g true e t =
          as_both Outcome (leaves b.plan (Err reason.InputWired))
          (link_sub_refuses a.rel.fine p o q r _
          (sub_wired offsets (here# h) at_first (none_hidden a q y (inr g)) has_first (λ z s l. g.0 z s.0.0 s.1) (so_taken a.rel.fine p q e)))
          (rw (good-first, good-second, h.there, there, g.1, t) refl) ((_, refl), (M, a))
      second_gone g false e t =
          as_both Outcome (leaves b.plan (Err reason.UnknownSecondPort))
          (link_sub_refuses a.rel.fine p o q r _ (sub_second_dead offsets (here# h) at_first g.0 has_first (so_free a.rel.fine p q e)))
          (rw (good-first, good-second, h.there, there, g.1, t) refl) ((_, refl), (M, a))

    -- 9 of the first
    first_there : (h : PortHere b M p x) (k : PortHere b M q y ⊎ PortGone b M q y) (s : Bool) → lacks_offset b.plan x o ≡ s → Done
    unfolding sketch.link_subports reason_number
    first_there h k true s =
        as_both Outcome (leaves b.plan (Err reason.UnknownOffset))
        (link_sub_refuses a.rel.fine p o q r _ (sub_first_lacks offsets (here# h) (h.is_seen, h.slot) (none_hidden a q y k) (lacks_so a h o s)))
        (rw (good-first, good-second, h.there, s) refl) ((_, refl), (M, a))
    first_there h (inl k) false s = second_there h s k (lacks_offset b.plan y r) refl
    first_there h (inr g) false s = second_gone h s g (kit.input_taken m p q) refl (taken_alike a p q x y (inl h) (inr g))

    ports : (h : PortHere b M p x ⊎ PortGone b M p x) (k : PortHere b M q y ⊎ PortGone b M q y) → Done
    unfolding sketch.link_subports reason_number
    ports (inl h) k = first_there h k (lacks_offset b.plan x o) refl
    ports (inr g) k =
        as_both Outcome (leaves b.plan (Err reason.UnknownPort)) (link_sub_refuses a.rel.fine p o q r _ (sub_first_dead offsets g.0))
        (rw (good-first, good-second, g.1) refl) ((_, refl), (M, a))

  -- 2
  done : (s t : Bool) → ltb o 65535 ≡ s → ltb r 65535 ≡ t → Done
  unfolding sketch.link_subports reason_number
  done true true s t = ports s t (port_meant a p x first) (port_meant a q y second)
  done false t s k =
      as_both Outcome (leaves b.plan (Err reason.BadOffset))
      (link_sub_refuses a.rel.fine p o q r _ (sub_offsets (λ n. let i = n.0 in let l : 65535 ≤ o = ltb-false _ _ s in omega arith)))
      (rw s refl) ((_, refl), (M, a))
  done true false s t =
      as_both Outcome (leaves b.plan (Err reason.BadOffset))
      (link_sub_refuses a.rel.fine p o q r _ (sub_offsets (λ n. let i = n.1 in let l : 65535 ≤ r = ltb-false _ _ t in omega arith)))
      (rw (s, t) refl) ((_, refl), (M, a))

pub link_sub_square : {b : Both} {M : Model} (p o q r : ℕ) (x y : SketchPort) (first : PortMeans b p x) (second : PortMeans b q y) → Square b M (means_link_sub p o q r x y first second)
link_sub_square p o q r x y first second a room =
    squared (done a p o q r x y first second room (ltb o 65535) (ltb r 65535) refl refl)
