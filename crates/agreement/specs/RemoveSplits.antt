-- The removal of a block leaves the ports of other blocks as split as they were: its split ports lose their hidden nodes one by one, then the node goes.
use Rattle.std.specs.Prelude.{◌≡◌, refl, Bool, true, false, ℕ, zero, suc, ◌+◌, ◌≤◌}
use Rattle.std.proofs.Common.{sym, ◌∙◌, ap, subst, arith}
use Rattle.portgraph.specs.Meaning.{remove_model}
use Rattle.portgraph.specs.Model as model
use Rattle.portgraph.specs.Model.{Model, to, Slots, gone, live, Valid, slot_of, count_of, first_of, side_start}
use Rattle.portgraph.specs.Calls.{remove_node}
use Rattle.portgraph.specs.Sums.{upd_other}
use Rattle.port_tables.specs.declared.node_entry.NodeMeta.{NodeMeta}
use Rattle.multiportgraph.specs.Calls.{drop_block}
use Rattle.multiportgraph.specs.WellFormed.{copy_place, Fine, BlockIs, Seen, SameBlocks}
use Rattle.multiportgraph.specs.Ends.{split_has_copy, seen_still}
use Rattle.multiportgraph.specs.HiddenStays.{frame_fine, hidden_below, split_below, same_slot}
use Rattle.multiportgraph.specs.CopyLaws.{copy_goes, unsplit_split}
use Rattle.multiportgraph.specs.Graph.{with_graph}
use Rattle.multiportgraph.specs.HiddenNodes.{remove_copy, unsplit, unsplit_range}
use Rattle.multiportgraph.specs.Reading.{is_split}
use Rattle.multiportgraph.specs.declared.multiportgraph.MultiPortGraph.{MultiPortGraph}
use Rattle.theorems.specs.RemoveLaws.{port_of_block, range_passed, block_unsplit, hidden_is_other, stays_joined, node_frame}
use Rattle.agreement.specs.Alike.{subports_at}
use Rattle.agreement.specs.KeptSplits.{split_kept, same_subports}
use Rattle.agreement.specs.CutSquares.{copy_keeps_splits}
use Rattle.multiportgraph.specs.CopySteps.{unsplit_plain}

-- the ports of all other blocks have as many subports
abbrev Others : MultiPortGraph → Model → MultiPortGraph → Model → ℕ → Type 0
Others m M m' M' n = (y : model.InnerPlace) → Seen m M y → (y.node ≡ n → ⊥) → subports_at m' M' y ≡ subports_at m M y

range_splits : (j : ℕ) {m : MultiPortGraph} {M : Model} → Fine m M → (n : ℕ) (k : NodeMeta) → BlockIs m M n k → (p : ℕ) → k.first_port.0 ≤ p →
    p + j ≤ k.first_port.0 + (k.incoming + k.outgoing) →
    (M' : Model) × Fine (unsplit_range m p j) M' × SameBlocks m M (unsplit_range m p j) M' × Others m M (unsplit_range m p j) M' n
unfolding unsplit_range
range_splits zero {m} {M} f n k b p low high = (M, f, ((λ i l c. c), λ i l c. c), λ y s other. refl)
range_splits (suc j) {m} {M} f n k b p low high =
    go (λ u U g c. range_splits j g n k c (suc p) (omega arith) (omega arith)) (is_split m p) refl (port_of_block m M n k b p low (omega arith))
  where
    go : ((u : MultiPortGraph) (U : Model) → Fine u U → BlockIs u U n k → (M' : Model) × Fine (unsplit_range u (suc p) j) M' × SameBlocks u U (unsplit_range u (suc p) j) M' × Others u U (unsplit_range u (suc p) j) M' n)
        → (t : Bool) → is_split m p ≡ t → (x : model.InnerPlace) × Seen m M x × (slot_of M.node x ≡ p) × (x.node ≡ n)
        → (M' : Model) × Fine (unsplit_range (unsplit m p) (suc p) j) M' × SameBlocks m M (unsplit_range (unsplit m p) (suc p) j) M' × Others m M (unsplit_range (unsplit m p) (suc p) j) M' n
    go rest false e x =
        subst (λ (u : MultiPortGraph). (M' : Model) × Fine (unsplit_range u (suc p) j) M' × SameBlocks m M (unsplit_range u (suc p) j) M' × Others m M (unsplit_range u (suc p) j) M' n) (unsplit_plain m p e)
        (rest m M f b)
    go rest true e x =
        let h = split_has_copy f x.0 x.1 (ap (is_split m) x.2 ∙ e) in
        let U = remove_model M h.copy (f.copy h.copy h.is_copy).meta in
        let g = copy_goes f x.0 h in
        let is : unsplit m p ≡ remove_copy m (slot_of M.node x.0) h.copy =
        ap (unsplit m) (sym x.2) ∙ (unsplit_split m (slot_of M.node x.0) (ap (is_split m) x.2 ∙ e) ∙ ap (remove_copy m (slot_of M.node x.0)) h.copy_is) in
        let r = rest (remove_copy m (slot_of M.node x.0) h.copy) U g.fine (g.blocks.0 n k b) in
        subst (λ (u : MultiPortGraph). (M' : Model) × Fine (unsplit_range u (suc p) j) M' × SameBlocks m M (unsplit_range u (suc p) j) M' × Others m M (unsplit_range u (suc p) j) M' n) (sym is) (
          r.0,
          r.1,
          ((λ i l c. r.2.0 i l (g.blocks.0 i l c)), λ i l c. g.blocks.1 i l (r.2.1 i l c)),
          λ y s other.
              r.3 y (seen_still f g.fine g.blocks y s).0 other
              ∙ same_subports m M _ U y (copy_keeps_splits f x.0 h y s (λ q. other (ap (λ (v : model.InnerPlace). v.node) q ∙ x.3))),
        )

-- a block without split ports goes
module _ {m : MultiPortGraph} {M : Model} (f : Fine m M) (n : ℕ) (k : NodeMeta) (b : BlockIs m M n k)
    (whole : (z : model.InnerPlace) → Valid M.node z → z.node ≡ n → is_split m (slot_of M.node z) ≡ false) where
  pub node_gone : Fine (with_graph m (remove_node m.graph n).graph) (remove_model M n k)
  node_gone = frame_fine f (node_frame f n k b whole)

  pub node_gone_splits : Others m M (with_graph m (remove_node m.graph n).graph) (remove_model M n k) n
  node_gone_splits y s other =
      same_subports m M _ (remove_model M n k) y
      (split_kept f node_gone y s
      (λ h. (
        hidden_below m _ h.copy ∙ h.is_copy,
        upd_other M.node n gone h.copy (hidden_is_other f n k b whole h.copy h.is_copy),
        stays_joined f n k b whole y (copy_place m h.copy) h.back other (hidden_is_other f n k b whole h.copy h.is_copy),
      ))
      (λ e. split_below m _ _ ∙ (ap (is_split m) (same_slot M (remove_model M n k) y (upd_other M.node n gone y.node other)) ∙ e)))

-- the block goes
pub removal_splits : {m : MultiPortGraph} {M : Model} → Fine m M → (n : ℕ) (k : NodeMeta) → BlockIs m M n k →
    (M' : Model) × Fine (drop_block m n k) M' × Others m M (drop_block m n k) M' n
unfolding drop_block
removal_splits {m} {M} f n k b =
    let r = range_splits (k.incoming + k.outgoing) f n k b k.first_port.0 (omega arith) (omega arith) in
    let t = range_passed (k.incoming + k.outgoing) f n k b k.first_port.0 (omega arith) (omega arith) in
    let c : BlockIs passed r.0 n k = r.2.0 n k b in
    let w = block_unsplit k r.0 t.1 c in (
      remove_model r.0 n k,
      node_gone r.1 n k c w,
      λ y s other. node_gone_splits r.1 n k c w y (seen_still f r.1 r.2 y s).0 other ∙ r.3 y s other,
    )
  where
    passed : MultiPortGraph
    passed = unsplit_range m k.first_port.0 (k.incoming + k.outgoing)
