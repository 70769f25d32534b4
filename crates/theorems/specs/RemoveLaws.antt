-- Removing a block: its ports lose their hidden nodes one by one, then the node itself goes.
-- Every wire at the block goes, and nothing else changes.
use Rattle.std.proofs.lemmas.Bool.{cases_Bool, false_from_ne_true}
use Rattle.std.specs.Prelude.{◌≡◌, refl, Bool, true, false, cond, [], ℕ, zero, suc, ◌+◌, ◌-◌, ◌≤◌, ◌<◌, eqb, ltb, Option, Some, None, Result, Ok, Err}
use Rattle.std.proofs.Common.{sym, ◌∙◌, ap, subst, inl, ⊎_elim, arith, eq-eqb, ne_eqb, eqb-true}
use Rattle.std.proofs.lemmas.Bool.{eqb-false}
use Rattle.port_tables.specs.Entries.{ports_on}
use Rattle.portgraph.specs.Model as model
use Rattle.portgraph.specs.Model.{Model, to, Slots, gone, live, Valid, slot_of, count_of, first_of, side_start}
use Rattle.portgraph.specs.Meaning.{remove_model, at_node}
use Rattle.portgraph.specs.Lookups.{meta_at}
use Rattle.portgraph.specs.Calls.{remove_node}
use Rattle.portgraph.specs.Sums.{drop_kept, drop_joined, upd_other, upd_same}
use Rattle.portgraph.specs.GoodSlots.{gone_not_live}
use Rattle.portgraph.specs.GoodLaws.{good_remove}
use Rattle.portgraph.specs.LinkLaws.{block_place, block_run}
use Rattle.portgraph.specs.PlaceLaws.{node_of_meta}
use Rattle.port_tables.specs.declared.direction.Direction.{Direction}
use Rattle.port_tables.specs.declared.direction.Direction.TheVariants.{Incoming, Outgoing}
use Rattle.port_tables.specs.declared.node_entry.NodeMeta.{NodeMeta}
use Rattle.multiportgraph.specs.Reading.{is_hidden, is_split}
use Rattle.multiportgraph.specs.Calls.{drop_block, remove_block}
use Rattle.multiportgraph.specs.WellFormed.{copy_place, Fine, BlockIs, Seen, outer, WireIn, SameBlocks, Wiring}
use Rattle.multiportgraph.specs.Ends.{main_seen, outer_of_subport, outer_of_block}
use Rattle.multiportgraph.specs.HiddenStays.{true_not_false, same_wire, Frame, plain_frame, frame_fine, outer_kept, Alike, wire_kept, kept_wire, hidden_below, split_below}
use Rattle.multiportgraph.specs.LinkCutLaws.{touches_neither, touched_not_out, touched_not_into, at_spot_is}
use Rattle.multiportgraph.specs.CopyLaws.{port_at, removed_holds, CopyGone, unsplit_gone}
use Rattle.multiportgraph.specs.declared.multiportgraph.MultiPortGraph.{MultiPortGraph}
use Rattle.multi_tables.specs.declared.answers.Refusal.TheVariants.{HiddenNode}
use Rattle.multiportgraph.specs.declared.multiportgraph.NodeRemoved.{NodeRemoved}
use Rattle.port_tables.specs.Places.{Place, Wire, touches, of_node}
use Rattle.multiportgraph.specs.Graph.{with_graph}
use Rattle.multiportgraph.specs.HiddenNodes.{unsplit, unsplit_range}
use Rattle.multiportgraph.specs.Cases.{remove_meta, remove_refused}
use Rattle.multiportgraph.specs.CaseLaws.{remove_cases}
use Rattle.multi_tables.specs.declared.answers.Refusal.{Refusal}
use Rattle.multiportgraph.specs.CopySteps.{unsplit_plain}

-- Ports lose their hidden nodes.

-- after j ports of block n from p on: wires away from n stayed, none came, and none of these ports is split
pub record Passed (m : MultiPortGraph) (M : Model) (m' : MultiPortGraph) (M' : Model) (n p j : ℕ) : Type 0 where
  pub fine : Fine m' M'
  pub blocks : SameBlocks m M m' M'
  pub kept : (w : Wire) → WireIn m M w → touches (of_node n) w ≡ false → WireIn m' M' w
  pub only : (w : Wire) → WireIn m' M' w → WireIn m M w
  pub only_split : (s : ℕ) → is_split m' s ≡ true → is_split m s ≡ true
  pub unsplit : (s : ℕ) → p ≤ s → s < p + j → is_split m' s ≡ false

not_split : (m m' : MultiPortGraph) (s : ℕ) → ((s : ℕ) → is_split m' s ≡ true → is_split m s ≡ true) → is_split m s ≡ false → is_split m' s ≡ false
not_split m m' s only n = false_from_ne_true (is_split m' s) (λ t. true_not_false (only s t) n)

-- a test that a stronger one implies
touches_less : (t u : Place → Bool) (w : Wire) → ((v : Place) → t v ≡ true → u v ≡ true) → touches u w ≡ false → touches t w ≡ false
touches_less t u w less n =
    touches_neither t w
    (false_from_ne_true (t w.out) (λ a. true_not_false (less w.out a) (touched_not_out u w n)))
    (false_from_ne_true (t w.into) (λ a. true_not_false (less w.into a) (touched_not_into u w n)))

passed_one : {m m₁ m₂ : MultiPortGraph} {M M₁ M₂ : Model} {n : ℕ} (x : model.InnerPlace) (p j : ℕ) → x.node ≡ n → slot_of M.node x ≡ p → CopyGone m M x m₁ M₁ → Passed m₁ M₁ m₂ M₂ n (suc p) j → Passed m M m₂ M₂ n p (suc j)
passed_one {m} {m₁} {m₂} {M} {M₁} {M₂} {n} x p j ex ep g r =
    record {
      fine = r.fine;
      blocks = ((λ i l b. r.blocks.0 i l (g.blocks.0 i l b)), λ i l b. g.blocks.1 i l (r.blocks.1 i l b));
      kept = λ w e a.
          r.kept w (g.wires.kept w e (touches_less (port_at x) (of_node n) w (λ v t. eq-eqb v.node n ((at_spot_is x.node x.side x.pos v t).0 ∙ ex)) a)) a;
      only = λ w e. ⊎_elim (λ a. a.0) absurd (g.wires.only w (r.only w e));
      only_split = λ s t. g.only_split s (r.only_split s t);
      unsplit = λ s a b. go s a b (eqb s p) refl;
    }
  where
    go : (s : ℕ) → p ≤ s → s < p + suc j → (t : Bool) → eqb s p ≡ t → is_split m₂ s ≡ false
    go s a b true e = not_split m₁ m₂ s r.only_split (ap (is_split m₁) (eqb-true s p e ∙ sym ep) ∙ g.unsplit)
    go s a b false e = let d : s ≡ p → ⊥ = eqb-false s p e in r.unsplit s (omega arith) (omega arith)

passed_whole : {m m₂ : MultiPortGraph} {M M₂ : Model} {n : ℕ} (p j : ℕ) → is_split m p ≡ false → Passed m M m₂ M₂ n (suc p) j → Passed m M m₂ M₂ n p (suc j)
passed_whole {m} {m₂} p j whole r =
    record { fine = r.fine; blocks = r.blocks; kept = r.kept; only = r.only; only_split = r.only_split; unsplit = λ s a b. go s a b (eqb s p) refl }
  where
    go : (s : ℕ) → p ≤ s → s < p + suc j → (t : Bool) → eqb s p ≡ t → is_split m₂ s ≡ false
    go s a b true e = not_split m m₂ s r.only_split (ap (is_split m) (eqb-true s p e) ∙ whole)
    go s a b false e = let d : s ≡ p → ⊥ = eqb-false s p e in r.unsplit s (omega arith) (omega arith)

block_place_node : (n : ℕ) (k : NodeMeta) (i : ℕ) → (block_place n k i).node ≡ n
block_place_node n k i = go (ltb i k.incoming)
  where
    go : (b : Bool) → (cond {A = model.InnerPlace} b (record { node = n; side = Incoming; pos = i }) (record { node = n; side = Outgoing; pos = i - k.incoming })).node ≡ n
    go true = refl
    go false = refl

-- the port with a number among a block's
pub port_of_block : (m : MultiPortGraph) (M : Model) (n : ℕ) (k : NodeMeta) → BlockIs m M n k → (p : ℕ) → k.first_port.0 ≤ p → p < k.first_port.0 + (k.incoming + k.outgoing)
    → (x : model.InnerPlace) × Seen m M x × (slot_of M.node x ≡ p) × (x.node ≡ n)
port_of_block m M n k b p low high =
    let r = block_run M.node n k b.1 in
    let e = block_place_node n k (p - k.first_port.0) in (
      block_place n k (p - k.first_port.0),
      (r.there (p - k.first_port.0) (omega arith), ap (is_hidden m) e ∙ b.0),
      r.numbered (p - k.first_port.0) (omega arith) ∙ omega arith,
      e,
    )

pub range_passed : (j : ℕ) {m : MultiPortGraph} {M : Model} → Fine m M → (n : ℕ) (k : NodeMeta) → BlockIs m M n k → (p : ℕ)
    → k.first_port.0 ≤ p → p + j ≤ k.first_port.0 + (k.incoming + k.outgoing) → (M' : Model) × Passed m M (unsplit_range m p j) M' n p j
unfolding unsplit_range
range_passed zero {m} {M} f n k b p low high = (
  M,
  record {
    fine = f;
    blocks = ((λ i l c. c), λ i l c. c);
    kept = λ w e a. e;
    only = λ w e. e;
    only_split = λ s t. t;
    unsplit = λ s x y. absurd (omega arith);
  },
)
range_passed (suc j) {m} {M} f n k b p low high =
    go (λ u U g c. range_passed j g n k c (suc p) (omega arith) (omega arith)) (is_split m p) refl (port_of_block m M n k b p low (omega arith))
  where
    go : ((u : MultiPortGraph) (U : Model) → Fine u U → BlockIs u U n k → (M' : Model) × Passed u U (unsplit_range u (suc p) j) M' n (suc p) j)
        → (t : Bool) → is_split m p ≡ t → (x : model.InnerPlace) × Seen m M x × (slot_of M.node x ≡ p) × (x.node ≡ n)
        → (M' : Model) × Passed m M (unsplit_range (unsplit m p) (suc p) j) M' n p (suc j)
    go rest false e x =
        let r = rest m M f b in
        (r.0, passed_whole p j e (subst (λ (u : MultiPortGraph). Passed m M (unsplit_range u (suc p) j) r.0 n (suc p) j) (unsplit_plain m p e) r.1))
    go rest true e x =
        let c = unsplit_gone f x.0 x.1 (ap (is_split m) x.2 ∙ e) in
        let g : CopyGone m M x.0 (unsplit m p) c.0 = subst (λ (s : ℕ). CopyGone m M x.0 (unsplit m s) c.0) x.2 c.1 in
        let r = rest (unsplit m p) c.0 g.fine (g.blocks.0 n k b) in
        (r.0, passed_one x.0 p j x.3 x.2 g r.1)

-- A block without split ports goes.

module _ {m : MultiPortGraph} {M : Model} (f : Fine m M) (n : ℕ) (k : NodeMeta) (b : BlockIs m M n k)
    (whole : (z : model.InnerPlace) → Valid M.node z → z.node ≡ n → is_split m (slot_of M.node z) ≡ false) where
  abbrev without_node : MultiPortGraph
  without_node = with_graph m (remove_node m.graph n).graph

  pub hidden_is_other : (c : ℕ) → is_hidden m c ≡ true → c ≡ n → ⊥
  hidden_is_other c h e = true_not_false h (ap (is_hidden m) e ∙ b.0)

  main_is_other : (c : ℕ) (x : model.InnerPlace) → is_hidden m c ≡ true → M.join (copy_place m c) ≡ to x → x.node ≡ n → ⊥
  main_is_other c x h j e = true_not_false (f.main_marked c x h j) (whole x (main_seen f c x h j).0 e)

  pub stays_joined : (z u : model.InnerPlace) → M.join z ≡ to u → (z.node ≡ n → ⊥) → (u.node ≡ n → ⊥) → (remove_model M n k).join z ≡ to u
  stays_joined z u j p q = drop_kept (at_node n) M.join z u j (ne_eqb z.node n p) (ne_eqb u.node n q)

  pub node_frame : Frame m M without_node (remove_model M n k)
  node_frame =
      plain_frame f (good_remove f.good n k b.1) (removed_holds f.good f.holds n k b.1)
      (λ c h. upd_other M.node n gone c (hidden_is_other c h))
      (λ c x h j. upd_other M.node n gone x.node (main_is_other c x h j))
      (λ c h. let i = f.copy c h in stays_joined (copy_place m c) i.main i.joined (hidden_is_other c h) (main_is_other c i.main h i.joined) ∙ sym i.joined)

  -- an end is at the block exactly if it is one of its ports
  end_at_node : (z : model.InnerPlace) → of_node n (outer m M z) ≡ eqb z.node n
  end_at_node z = ⊎_elim sub own (cases_Bool (is_hidden m z.node))
    where
      own : is_hidden m z.node ≡ false → of_node n (outer m M z) ≡ eqb z.node n
      own h = ap (of_node n) (outer_of_block f z h)

      sub : is_hidden m z.node ≡ true → of_node n (outer m M z) ≡ eqb z.node n
      sub h =
          let i = f.copy z.node h in
          ap (of_node n) (outer_of_subport f z i.main h i.joined)
          ∙ (ne_eqb i.main.node n (main_is_other z.node i.main h i.joined) ∙ sym (ne_eqb z.node n (hidden_is_other z.node h)))

  node_alike : (z : model.InnerPlace) → (z.node ≡ n → ⊥) → Alike m M without_node (remove_model M n k) z
  node_alike z other =
      record {
        node = upd_other M.node n gone z.node other;
        hidden = hidden_below m without_node.graph z.node;
        split = λ h. split_below m without_node.graph (slot_of M.node z);
      }

  node_wires : Wiring m M without_node (remove_model M n k) (of_node n) []
  node_wires = record { kept = kept; came = λ w a. absurd a; only = λ w e. inl (only w e) }
    where
      kept : (w : Wire) → WireIn m M w → touches (of_node n) w ≡ false → WireIn without_node (remove_model M n k) w
      kept w e t =
          let p : e.x.node ≡ n → ⊥ =
          eqb-false e.x.node n (sym (end_at_node e.x) ∙ (ap (of_node n) (sym (ap (λ (v : Wire). v.out) e.is)) ∙ touched_not_out (of_node n) w t)) in
          let q : e.y.node ≡ n → ⊥ =
          eqb-false e.y.node n (sym (end_at_node e.y) ∙ (ap (of_node n) (sym (ap (λ (v : Wire). v.into) e.is)) ∙ touched_not_into (of_node n) w t)) in
          wire_kept f node_frame w e (stays_joined e.x e.y e.joined p q) (node_alike e.x p) (hidden_below m without_node.graph e.y.node)

      only : (w : Wire) → WireIn without_node (remove_model M n k) w → WireIn m M w × (touches (of_node n) w ≡ false)
      only w e =
          let j = drop_joined (at_node n) M.join e.x e.y e.joined in
          let l : Alike m M without_node (remove_model M n k) e.x = node_alike e.x (eqb-false e.x.node n j.1) in
          let h : is_hidden without_node e.y.node ≡ is_hidden m e.y.node = hidden_below m without_node.graph e.y.node in (
            kept_wire f node_frame w e j.0 l h,
            ap (touches (of_node n)) (e.is ∙ same_wire (outer_kept f node_frame e.x l.hidden) (outer_kept f node_frame e.y h))
                ∙ touches_neither (of_node n) (record { out = outer m M e.x; into = outer m M e.y }) (end_at_node e.x ∙ j.1) (end_at_node e.y ∙ j.2),
          )

-- Removing a block.

pub record RemoveDone (m : MultiPortGraph) (M : Model) (m' : MultiPortGraph) (n : ℕ) : Type 0 where
  pub meta : NodeMeta
  pub was : BlockIs m M n meta
  pub model : Model
  pub fine : Fine m' model
  pub kept : (i : ℕ) (l : NodeMeta) → (i ≡ n → ⊥) → BlockIs m M i l → BlockIs m' model i l
  pub only : (i : ℕ) (l : NodeMeta) → BlockIs m' model i l → BlockIs m M i l × (i ≡ n → ⊥)
  pub wires : Wiring m M m' model (of_node n) []

-- a block whose ports were all unsplit has no split port
pub block_unsplit : {m : MultiPortGraph} {M M' : Model} {n : ℕ} (k : NodeMeta) (N : Model) → Passed m M (unsplit_range m k.first_port.0 (k.incoming + k.outgoing)) M' n k.first_port.0 (k.incoming + k.outgoing)
    → BlockIs (unsplit_range m k.first_port.0 (k.incoming + k.outgoing)) N n k
    → (z : model.InnerPlace) → Valid N.node z → z.node ≡ n → is_split (unsplit_range m k.first_port.0 (k.incoming + k.outgoing)) (slot_of N.node z) ≡ false
block_unsplit {m} {M} {M'} {n} k N p c z v e =
    let s : N.node z.node ≡ live k = ap N.node e ∙ c.1 in
    let u : z.pos < count_of (live k) z.side = subst (λ (t : Slots). z.pos < count_of t z.side) s v in
    ap (λ (t : Slots). is_split (unsplit_range m k.first_port.0 (k.incoming + k.outgoing)) (first_of t + (side_start t z.side + z.pos))) s
    ∙ p.unsplit (k.first_port.0 + (side_start (live k) z.side + z.pos)) (omega arith) (within z.side u)
  where
    within : (d : Direction) → z.pos < ports_on k d → k.first_port.0 + (side_start (live k) d + z.pos) < k.first_port.0 + (k.incoming + k.outgoing)
    within Incoming l = omega arith
    within Outgoing l = omega arith

pub drop_block_done : {m : MultiPortGraph} {M : Model} → Fine m M → (n : ℕ) (k : NodeMeta) → BlockIs m M n k → RemoveDone m M (drop_block m n k) n
unfolding drop_block
drop_block_done {m} {M} f n k b =
    let r = range_passed (k.incoming + k.outgoing) f n k b k.first_port.0 (omega arith) (omega arith) in
    let c : BlockIs passed r.0 n k = r.1.blocks.0 n k b in
    let w = node_wires r.1.fine n k c (block_unsplit k r.0 r.1 c) in
    record {
      meta = k;
      was = b;
      model = remove_model r.0 n k;
      fine = frame_fine r.1.fine (node_frame r.1.fine n k c (block_unsplit k r.0 r.1 c));
      kept = λ i l other a.
          let d = r.1.blocks.0 i l a in
          (hidden_below passed (remove_node passed.graph n).graph i ∙ d.0, upd_other r.0.node n gone i other ∙ d.1);
      only = λ i l a.
          let other : i ≡ n → ⊥ = λ q. gone_not_live (ap (remove_model r.0 n k).node q ∙ upd_same r.0.node n gone) a.1 in
          (r.1.blocks.1 i l (sym (hidden_below passed (remove_node passed.graph n).graph i) ∙ a.0, sym (upd_other r.0.node n gone i other) ∙ a.1), other);
      wires =
          record {
            kept = λ v e t. w.kept v (r.1.kept v e t) t;
            came = λ v a. absurd a;
            only = λ v e. ⊎_elim (λ a. inl (r.1.only v a.0, a.1)) absurd (w.only v e);
          };
    }
  where
    passed : MultiPortGraph
    passed = unsplit_range m k.first_port.0 (k.incoming + k.outgoing)

abbrev pub RemoveSays : MultiPortGraph → Model → ℕ → MultiPortGraph → Result (Unit {0}) Refusal → Type 0
RemoveSays m M n m' (Ok tt) = RemoveDone m M m' n
RemoveSays m M n m' (Err r) = m' ≡ m

abbrev RemoveSaid : MultiPortGraph → Model → ℕ → NodeRemoved → Type 0
RemoveSaid m M n u = RemoveSays m M n u.graph u.answer

-- an accepted removal takes the block and every wire at it; a refused one nothing
pub remove_block_law : {m : MultiPortGraph} {M : Model} → Fine m M → (n : ℕ) → RemoveSays m M n (remove_block m n).graph (remove_block m n).answer
remove_block_law {m} {M} f n = subst (RemoveSaid m M n) (sym (remove_cases m n)) (node (meta_at m.graph n) refl)
  where
    flags : (k : NodeMeta) → M.node n ≡ live k → (b : Bool) → is_hidden m n ≡ b
        → RemoveSaid m M n (cond b (remove_refused m HiddenNode) (record { graph = drop_block m n k; answer = Ok tt }))
    flags k e true h = refl
    flags k e false h = drop_block_done f n k (h, e)

    node : (v : Option NodeMeta) → meta_at m.graph n ≡ v → RemoveSaid m M n (remove_meta m n v)
    node None e = refl
    node (Some k) e = flags k (node_of_meta f.good f.holds n k e) (is_hidden m n) refl
