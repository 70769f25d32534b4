-- Two histories give the same view exactly if they have the same wiring, by the book.
use Rattle.std.specs.Prelude.{◌≡◌, map, ℕ}
use Rattle.std.proofs.Common.{sym, ap, ◌∙◌, subst}
use Rattle.port_tables.specs.Lists.{Rising}
use Rattle.portgraph.specs.Model.{Model}
use Rattle.multiportgraph.specs.Wires.{blocks, wires_walked}
use Rattle.multiportgraph.specs.declared.multiportgraph.MultiPortGraph.{MultiPortGraph}
use Rattle.theorems.specs.Book.{Book}
use Rattle.theorems.proofs.WireRule.{Rel}
use Rattle.files.specs.View.{View, rank_among, rank_wire, view_of}
use Rattle.files.specs.Claims.{same_wire, SameWiring, At, how_many, AtMost}
use Rattle.files.specs.OrderLaws.{sorted_rises, wires_by_counts}
use Rattle.files.specs.RankLaws.{same_positions}
use Rattle.files.specs.ViewLaws.{blocks_viewed, wires_viewed}

-- the wires of a view are sorted
pub wires_rise : (m : MultiPortGraph) → Rising AtMost (view_of m).wires
unfolding view_of
wires_rise m = sorted_rises (map (rank_wire (rank_among (blocks m))) (wires_walked m))

-- two books of one view have the same wiring, and two of the same wiring one view
module _ {m m' : MultiPortGraph} {M M' : Model} {B C : Book} (r : Rel m M B) (s : Rel m' M' C) where
  pub view_gives_wiring : view_of m ≡ view_of m' → SameWiring B C
  view_gives_wiring e =
      record {
        blocks = λ n i o. (
          (λ h. (blocks_viewed s n i o).1 (subst_view n i o e ((blocks_viewed r n i o).0 h))),
          (λ h. (blocks_viewed r n i o).1 (subst_view n i o (sym e) ((blocks_viewed s n i o).0 h))),
        );
        wires = λ w. sym (wires_viewed r w) ∙ (ap (λ (v : View). how_many same_wire w v.wires) e ∙ wires_viewed s w);
      }
    where
      subst_view : {v w : View} (n i o : ℕ) → v ≡ w → At v.blocks n (record { incoming = i; outgoing = o }) → At w.blocks n (record { incoming = i; outgoing = o })
      subst_view n i o e h = subst (λ (v : View). At v.blocks n (record { incoming = i; outgoing = o })) e h

  pub wiring_gives_view : SameWiring B C → view_of m ≡ view_of m'
  wiring_gives_view h =
      let a : (view_of m).blocks ≡ (view_of m').blocks =
      same_positions (view_of m).blocks (view_of m').blocks
      (λ n b i. (blocks_viewed s n b.incoming b.outgoing).0 ((h.blocks n b.incoming b.outgoing).0 ((blocks_viewed r n b.incoming b.outgoing).1 i)))
      (λ n b i. (blocks_viewed r n b.incoming b.outgoing).0 ((h.blocks n b.incoming b.outgoing).1 ((blocks_viewed s n b.incoming b.outgoing).1 i))) in
      let b : (view_of m).wires ≡ (view_of m').wires =
      wires_by_counts (view_of m).wires (view_of m').wires (wires_rise m) (wires_rise m')
      (λ w. wires_viewed r w ∙ (h.wires w ∙ sym (wires_viewed s w))) in
      λ i. record { blocks = a i; wires = b i }
