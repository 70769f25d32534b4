-- The square of a removal: the block goes in both, with its name, its split ports and every wire at it.
use Rattle.std.specs.Prelude.{◌≡◌, refl, Bool, true, false, cond, List, [], ◌∷◌, ℕ, ◌<◌, eqb, ltb, Result, Ok}
use Rattle.std.proofs.Math.Path.{sym, ap}
use Rattle.std.proofs.Common.{◌∙◌, subst}
use Rattle.std.proofs.Math.Bool.{not}
use Rattle.std.proofs.Math.Logic.{⊎_elim}
use borrow.Author.Tests.{eqb-true, eqb-false, ne_eqb}
use Rattle.port_tables.specs.Lists.{Member}
use Rattle.std.specs.List.{filter}
use Rattle.portgraph.specs.Model as model
use Rattle.portgraph.specs.Model.{Model, Slots, count_of}
use Rattle.multiportgraph.specs.Calls.{remove_block, drop_block}
use Rattle.multiportgraph.specs.WellFormed.{Fine, Seen}
use Rattle.port_tables.specs.Listing.{member_filter, filter_member, rising_filter}
use Rattle.multiportgraph.specs.LinkCutLaws.{touched_not_out, touched_not_into, at_spot_is}
use Rattle.port_tables.specs.Places.{Place, spot, of_node, without}
use Rattle.multiportgraph.specs.declared.multiportgraph.MultiPortGraph.{MultiPortGraph}
use Rattle.multiportgraph.specs.declared.multiportgraph.NodeRemoved.{NodeRemoved}
use Rattle.theorems.specs.Book as book
use Rattle.theorems.specs.Book.{book_remove}
use Rattle.theorems.specs.BookLaws.{stayed_wire}
use Rattle.theorems.specs.Conditions.{remove_unknown}
use Rattle.theorems.proofs.ReleaseRuns.{step_keeps}
use Rattle.theorems.proofs.RemoveCall.{remove_refuses, remove_live}
use Rattle.theorems.specs.RemoveLaws.{RemoveDone, drop_block_done}
use Rattle.theorems.proofs.WireRule.{blocks_removed, wires_dropped, seen_live}
use Rattle.sketches.specs.Plan.{Plan, PlanBlock, is_there, subports_among}
use Rattle.sketches.specs.PlanCalls as sketch
use Rattle.sketches.specs.PlanCalls.{Sketched}
use Rattle.sketches.specs.CallsWf.{other_ports}
use Rattle.sketches.specs.PlanNumbers.{reason_number}
use Rattle.agreement.specs.Meaning.{Naming, Both, BlockMeans, named_remove, means_remove}
use Rattle.agreement.specs.Agreement.{RemoveAlike}
use Rattle.agreement.specs.Alike.{Alike, Apart, OtherName, subports_at, name_of}
use Rattle.agreement.specs.Square.{Square, squared}
use Rattle.agreement.specs.Names.{naming, node_of_lem, one_name, same_node, renamed, renamed_same, without_renamed}
use Rattle.agreement.specs.Standing.{BlockHere, BlockGone, block_meant, wires_named}
use Rattle.agreement.specs.PlanLaws.{among_kept}
use Rattle.agreement.specs.KeptSplits.{any_model}
use Rattle.agreement.specs.RemoveSplits.{removal_splits}
use Rattle.sketches.specs.declared.sketch.Reason.{Reason}
use Rattle.std.proofs.lemmas.Bool.{not-true}

-- a name that stays
name_left : (l : List Naming) (n c : ℕ) → (c ≡ n → ⊥) → name_of (filter (λ (x : Naming). not (eqb x.node n)) l) c ≡ name_of l c
unfolding name_of
name_left [] n c other = refl
name_left (x ∷ l) n c other = go (eqb x.node n) (eqb x.node c) refl refl (name_left l n c other)
  where
    go : (s t : Bool) → eqb x.node n ≡ s → eqb x.node c ≡ t → name_of (filter (λ (x : Naming). not (eqb x.node n)) l) c ≡ name_of l c →
        name_of (cond (not s) (x ∷ filter (λ (x : Naming). not (eqb x.node n)) l) (filter (λ (x : Naming). not (eqb x.node n)) l)) c ≡ cond t x.name (name_of l c)
    go true true p q rest = absurd (other (sym (eqb-true x.node c q) ∙ eqb-true x.node n p))
    go true false p q rest = rest
    go false true p q rest = rw q refl
    go false false p q rest = rw q rest

module _ {b : Both} {M : Model} (a : Alike b M) (n k : ℕ) where
  abbrev m : MultiPortGraph
  m = b.kit.graph

  abbrev Left : NodeRemoved → Sketched (Result (Unit {0}) Reason) → Type 0
  Left w v =
      RemoveAlike w.answer v.answer
      × ((M' : Model) × Alike (record { kit = record { graph = w.graph; book = book_remove b.kit.book n w.answer }; names = named_remove b.names n w.answer; plan = v.plan }) M')

  abbrev plan_left : Plan
  plan_left =
      record {
        release = b.plan.release;
        adds = b.plan.adds;
        blocks = filter (λ (b : PlanBlock). not (eqb b.name k)) b.plan.blocks;
        splits = filter (λ (s : Place). not (of_node k s)) b.plan.splits;
        wires = without (of_node k) b.plan.wires;
      }

  abbrev names_left : List Naming
  names_left = filter (λ (x : Naming). not (eqb x.node n)) b.names

  module _ (h : BlockHere b M n k) (g : MultiPortGraph) (release : g.release ≡ m.release) (d : RemoveDone m M g n) (N : Model) (fine : Fine g N)
      (others : (y : model.InnerPlace) → Seen m M y → (y.node ≡ n → ⊥) → subports_at g N y ≡ subports_at m M y) where
    -- a naming that is left, and its node and name
    left_name : (x : Naming) → Member x names_left → Member x b.names × (x.node ≡ n → ⊥)
    left_name x i = let r = member_filter (λ (x : Naming). not (eqb x.node n)) x b.names i in (r.0, eqb-false x.node n (not-true _ r.1))

    name_stays : (x : Naming) → Member x b.names → (x.node ≡ n → ⊥) → Member x names_left
    name_stays x i other = filter_member (λ (x : Naming). not (eqb x.node n)) x b.names i (ap not (ne_eqb x.node n other))

    other_name : (x : Naming) → Member x b.names → (x.node ≡ n → ⊥) → x.name ≡ k → ⊥
    other_name x i other e = other (node_of_lem b.names a.apart x (naming n k) i h.named e)

    other_node : (x : Naming) → Member x b.names → (x.name ≡ k → ⊥) → x.node ≡ n → ⊥
    other_node x i other e = other (one_name b.names a.apart n x.name k (subst (λ (v : ℕ). Member (naming v x.name) b.names) e i) h.named)

    wires_left : plan_left.wires ≡ renamed names_left (without (of_node n) b.kit.book.wires)
    wires_left =
        ap (without (of_node k)) a.wires
        ∙ (sym (without_renamed b.names (of_node n) (of_node k) (same_node b.names a.apart n k h.named) b.kit.book.wires (wires_named a))
        ∙ sym (renamed_same b.names names_left (without (of_node n) b.kit.book.wires)
        (λ w i.
        let r = stayed_wire (of_node n) w b.kit.book.wires i in (
          name_left b.names n w.out.node (eqb-false _ _ (touched_not_out (of_node n) w r.1)),
          name_left b.names n w.into.node (eqb-false _ _ (touched_not_into (of_node n) w r.1)),
        ))))

    subports : (y : model.InnerPlace) → Seen g d.model y → (x : Naming) → Member x names_left → x.node ≡ y.node →
        subports_among plan_left.splits (spot x.name y.side y.pos) ≡ subports_at g d.model y
    subports y s x i e =
        let r = left_name x i in
        let c = seen_live d.fine y s in
        let o = d.only y.node c.0 c.1 in
        let s' : Seen m M y = (subst (λ (v : Slots). y.pos < count_of v y.side) (c.1.1 ∙ sym o.0.1) s.0, o.0.0) in
        among_kept (λ (s : Place). not (of_node k s)) b.plan.splits (spot x.name y.side y.pos)
        (λ z t. ap not (ne_eqb z.node k (λ q. other_name x r.0 r.1 (sym (at_spot_is x.name y.side y.pos z t).0 ∙ q))))
        ∙ (a.subports y s' x r.0 e ∙ sym (any_model g fine.holds d.fine.holds y ∙ others y s' o.1))

    left_alike : Alike (record { kit = record { graph = g; book = book_remove b.kit.book n (Ok tt) }; names = names_left; plan = plan_left }) d.model
    unfolding is_there
    left_alike =
        record {
          rel =
              record {
                fine = d.fine;
                blocks = blocks_removed a.rel.blocks d.fine n d.kept (λ i l other c. (d.only i l c).0) (λ l c. (d.only n l c).1 refl);
                wires = wires_dropped a.rel.wires d.wires;
              };
          release = a.release ∙ sym release;
          apart = rising_filter Apart (λ (x : Naming). not (eqb x.node n)) b.names a.apart;
          given = λ x i. a.given x (left_name x i).0;
          named = λ x i.
              let r = left_name x i in
              let c = a.named x r.0 in (
                c.0,
                d.kept x.node c.0 r.1 c.1,
                filter_member (λ (b : PlanBlock). not (eqb b.name k)) _ b.plan.blocks c.2 (ap not (ne_eqb x.name k (other_name x r.0 r.1))),
              );
          kit_named = λ i l c.
              let o = d.only i l c in
              let x = a.kit_named i l o.0 in
              (x.0, name_stays x.0 x.1 (λ e. o.1 (sym x.2 ∙ e)), x.2);
          plan_named = λ p i.
              let r = member_filter (λ (b : PlanBlock). not (eqb b.name k)) p b.plan.blocks i in
              let x = a.plan_named p r.0 in
              (x.0, name_stays x.0 x.1 (other_node x.0 x.1 (λ e. eqb-false p.name k (not-true _ r.1) (sym x.2 ∙ e))), x.2);
          plan_once = rising_filter OtherName (λ (b : PlanBlock). not (eqb b.name k)) b.plan.blocks a.plan_once;
          subports = subports;
          splits_there = λ s i.
              let r = member_filter (λ (s : Place). not (of_node k s)) s b.plan.splits i in
              ap (ltb s.pos) (other_ports b.plan.blocks k s.node s.side (eqb-false s.node k (not-true _ r.1))) ∙ a.splits_there s r.0;
          wires = wires_left;
        }

  remove_left : BlockMeans b n k → Left (remove_block m n) (sketch.remove_block b.plan k)
  unfolding sketch.remove_block reason_number
  remove_left means = ⊎_elim here away (block_meant a n k means)
    where
      away : BlockGone b M n k → Left (remove_block m n) (sketch.remove_block b.plan k)
      away g = rw (remove_refuses a.rel.fine n _ (remove_unknown g.0), g.1) ((_, refl), (M, a))

      here : BlockHere b M n k → Left (remove_block m n) (sketch.remove_block b.plan k)
      here h =
          let f = a.rel.fine in
          let is : remove_block m n ≡ record { graph = drop_block m n h.meta; answer = Ok tt } = remove_live f n h.meta false h.block.0 h.block.1 in
          let d = drop_block_done f n h.meta h.block in
          let r = removal_splits f n h.meta h.block in
          let kept : (drop_block m n h.meta).release ≡ m.release = ap (λ (v : NodeRemoved). v.graph.release) (sym is) ∙ step_keeps m (book.remove_call n) in
          rw (is, h.there) (tt, (d.model, left_alike h (drop_block m n h.meta) kept d r.0 r.1 r.2))

pub remove_square : {b : Both} {M : Model} (n k : ℕ) (means : BlockMeans b n k) → Square b M (means_remove n k means)
remove_square {b} {M} n k means a room = squared (remove_left a n k means)
