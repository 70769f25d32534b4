-- A port whose hidden node stays, with its counts and its link, stays split with as many subports.
use Rattle.std.specs.Prelude.{◌≡◌, refl, Bool, true, false, cond, ℕ, List}
use Rattle.std.proofs.Common.{sym, ◌∙◌, ap, arith}
use Rattle.portgraph.specs.Model as model
use Rattle.portgraph.specs.Model.{Model, to, Slots, Holds, slot_of, count_of, first_of, side_start, slots_at}
use Rattle.port_tables.specs.declared.node_entry.NodeSlot.{NodeSlot}
use Rattle.portgraph.specs.PlaceLaws.{meta_of_node}
use Rattle.port_tables.specs.declared.direction.Direction.{Direction}
use Rattle.portgraph.specs.declared.portgraph.PortGraph.{PortGraph}
use Rattle.multiportgraph.specs.WellFormed.{inner#, copy_place, Fine, Seen}
use Rattle.multiportgraph.specs.Ends.{Hangs, hangs, split_has_copy, one_copy}
use Rattle.multiportgraph.specs.HiddenStays.{copy_side_is, same_slot}
use Rattle.multiportgraph.specs.SetLaws.{SameSplit}
use Rattle.multiportgraph.specs.Reading.{is_hidden, is_split, copy_side, subports}
use Rattle.multiportgraph.specs.declared.multiportgraph.MultiPortGraph.{MultiPortGraph}
use Rattle.agreement.specs.Alike.{subports_at}
use Rattle.std.proofs.lemmas.Bool.{false_from_ne_true}
use Rattle.portgraph.specs.Joins.{to_same}

-- models of graphs with one node table have the same nodes
pub nodes_by_table : {g h : PortGraph} {M N : Model} → Holds g M → Holds h N → g.node_meta ≡ h.node_meta → (n : ℕ) → N.node n ≡ M.node n
nodes_by_table a b e n = sym (b.nodes n) ∙ (ap (λ (l : List NodeSlot). slots_at l n) (sym e) ∙ a.nodes n)

-- so they count the same subports
pub any_model : (m : MultiPortGraph) {M N : Model} → Holds m.graph M → Holds m.graph N → (x : model.InnerPlace) → subports_at m N x ≡ subports_at m M x
any_model m {M} {N} h k x = ap (λ (s : ℕ). cond (is_split m s) (subports m s x.side) 0) (same_slot M N x (nodes_by_table h k refl x.node))

-- a port that is not linked is not split
pub unlinked_whole : {m : MultiPortGraph} {M : Model} → Fine m M → (x : model.InnerPlace) → Seen m M x → ((y : model.InnerPlace) → M.join x ≡ to y → ⊥) → subports_at m M x ≡ 0
unlinked_whole {m} {M} f x s free = rw (false_from_ne_true (is_split m (slot_of M.node x)) (λ t. let h = split_has_copy f x s t in free _ h.back)) refl

-- different ports hang on different hidden nodes
pub copies_apart : {m : MultiPortGraph} {M : Model} {x y : model.InnerPlace} (h : Hangs m M x) (k : Hangs m M y) → (y ≡ x → ⊥) → k.copy ≡ h.copy → ⊥
copies_apart {m} {M} h k away e = away (to_same k.from (ap (λ (c : ℕ). M.join (copy_place m c)) e ∙ h.from))

module _ {m : MultiPortGraph} {M : Model} {m' : MultiPortGraph} {M' : Model} (f : Fine m M) (f' : Fine m' M') (x : model.InnerPlace) where
  pub hangs_after : (h : Hangs m M x) → is_hidden m' h.copy ≡ true → M'.node h.copy ≡ M.node h.copy → M'.join x ≡ to (copy_place m h.copy) →
      (is_split m' (slot_of M'.node x) ≡ true) × (subports m' (slot_of M'.node x) x.side ≡ subports m (slot_of M.node x) x.side)
  hangs_after h hid node join =
      let k = f.copy h.copy h.is_copy in
      let side : copy_side m' h.copy ≡ copy_side m h.copy =
      copy_side_is m' h.copy k.meta (copy_side m h.copy) (meta_of_node f'.good f'.holds h.copy k.meta (node ∙ k.here)) k.single k.several in
      let back : M'.join (copy_place m' h.copy) ≡ to x =
      ap (λ (d : Direction). M'.join (inner# h.copy d 0)) side ∙ f'.good.join_back x (copy_place m h.copy) join in
      let h' = hangs f' h.copy x hid back in
      let same : h'.copy ≡ h.copy = one_copy f' h'.copy h.copy x h'.from back in (
        f'.main_marked h.copy x hid back,
        h'.count ∙ (ap (λ (c : ℕ). count_of (M'.node c) x.side) same ∙ (ap (λ (s : Slots). count_of s x.side) node ∙ sym h.count)),
      )

  -- a port that is split exactly if it was, and whose hidden node stays
  pub split_kept : Seen m M x →
      ((h : Hangs m M x) → (is_hidden m' h.copy ≡ true) × (M'.node h.copy ≡ M.node h.copy) × (M'.join x ≡ to (copy_place m h.copy))) →
      (is_split m (slot_of M.node x) ≡ false → is_split m' (slot_of M'.node x) ≡ false) → SameSplit m M m' M' x
  split_kept s stays whole = go (is_split m (slot_of M.node x)) refl
    where
      go : (t : Bool) → is_split m (slot_of M.node x) ≡ t → SameSplit m M m' M' x
      go true e =
          let h = split_has_copy f x s e in
          let k = stays h in
          let r = hangs_after h k.0 k.1 k.2 in
          (r.0 ∙ sym e, λ t. r.1)
      go false e = (whole e ∙ sym e, λ t. absurd (let z : ◌≡◌ {A = ℕ} 0 1 = cc in omega arith))

-- as many subports
pub same_subports : (m : MultiPortGraph) (M : Model) (m' : MultiPortGraph) (M' : Model) (x : model.InnerPlace) → SameSplit m M m' M' x → subports_at m' M' x ≡ subports_at m M x
same_subports m M m' M' x s = go (is_split m (slot_of M.node x)) refl
  where
    go : (t : Bool) → is_split m (slot_of M.node x) ≡ t →
        cond (is_split m' (slot_of M'.node x)) (subports m' (slot_of M'.node x) x.side) 0 ≡ cond (is_split m (slot_of M.node x)) (subports m (slot_of M.node x) x.side) 0
    go true e = let p = s.0 ∙ e in rw (p, e) (s.1 e)
    go false e = let p = s.0 ∙ e in rw (p, e) refl
