-- Linking two ports: each end is prepared at its lowest unwired offset, then one wire comes between them. A refused call leaves
-- blocks and wires as they were.
use Rattle.std.specs.Prelude.{◌≡◌, Bool, List, [], ◌∷◌, ℕ, ◌+◌, ◌<◌, Result, Ok, Err}
use Rattle.std.proofs.Math.Path.{refl, subst}
use Rattle.std.proofs.Common.{sym, ◌∙◌, ap, inl, inr, ⊎_elim}
use Rattle.std.proofs.Math.Bool.{true, false}
use Rattle.port_tables.specs.Limits.{present}
use Rattle.portgraph.specs.Sums.{same_side_false}
use Rattle.portgraph.specs.Meaning.{link_model}
use Rattle.port_tables.specs.Entries.{same_side}
use Rattle.portgraph.specs.Calls.{link_ports}
use Rattle.portgraph.specs.GoodSlots.{slot_in_block}
use Rattle.portgraph.specs.Model as model
use Rattle.portgraph.specs.Model.{Model, Good, slot_of, count_of, first_of, side_start}
use Rattle.port_tables.specs.declared.direction.Direction.{Direction}
use Rattle.port_tables.specs.declared.direction.Direction.TheVariants.{Incoming, Outgoing}
use Rattle.multiportgraph.specs.Reading.{seen}
use Rattle.multi_tables.specs.Forms.{Port, dead, hidden, visible, subport#}
use Rattle.multiportgraph.specs.WellFormed.{Fine, Seen, lift, WireIn, SameBlocks, Wiring, none, SameWires, HasEnd}
use Rattle.multiportgraph.specs.Ends.{BlockPort, block_seen}
use Rattle.multiportgraph.specs.LinkCutLaws.{Joined, join_ends}
use Rattle.multiportgraph.specs.SplitLaws.{KeptEnd, PreparedEnd, PreparedSays}
use Rattle.multiportgraph.specs.PrepareLaws.{prepare_says}
use Rattle.multiportgraph.specs.declared.multiportgraph.MultiPortGraph.{MultiPortGraph}
use Rattle.multi_tables.specs.declared.answers.SubportIndex.{SubportIndex}
use Rattle.multi_tables.specs.declared.answers.Refusal.{Refusal}
use Rattle.multiportgraph.specs.declared.multiportgraph.PortsLinked.{PortsLinked}
use Rattle.port_tables.specs.Places.{Place, Wire, wire_of_sides}
use Rattle.multiportgraph.specs.Graph.{with_graph}
use Rattle.multiportgraph.specs.HiddenNodes.{Prepared, ready, full, prepare}
use Rattle.multiportgraph.specs.Cases.{link_prepared, link_second, link_first, link_seen, link_live}
use Rattle.multiportgraph.specs.CaseLaws.{link_cases, link_taken}
use Rattle.multiportgraph.specs.Refusals.{input_taken}
use Rattle.multiportgraph.specs.Calls.{link_pair, link_pair_if}

-- one wire came, between the ports named, each at its lowest unwired offset
pub record LinkDone (m : MultiPortGraph) (M : Model) (m' : MultiPortGraph) (a b : ℕ) (s t : SubportIndex) : Type 0 where
  pub x : model.InnerPlace
  pub y : model.InnerPlace
  pub first_seen : Seen m M x
  pub first_at : slot_of M.node x ≡ a
  pub second_seen : Seen m M y
  pub second_at : slot_of M.node y ≡ b
  pub opposite : x.side ≡ y.side → ⊥
  pub o : ℕ
  pub r : ℕ
  pub first_read : s ≡ subport# a o
  pub second_read : t ≡ subport# b r
  pub model : Model
  pub fine : Fine m' model
  pub blocks : SameBlocks m M m' model
  pub wires : Wiring m M m' model none (wire_of_sides x.side (lift x o) (lift y r) ∷ [])
  pub new : WireIn m M (wire_of_sides x.side (lift x o) (lift y r)) → ⊥
  pub first_lower : (i : ℕ) → i < o → (w : Wire) × WireIn m M w × HasEnd w (lift x i)
  pub first_none : (w : Wire) → WireIn m M w → HasEnd w (lift x o) → ⊥
  pub second_lower : (i : ℕ) → i < r → (w : Wire) × WireIn m M w × HasEnd w (lift y i)
  pub second_none : (w : Wire) → WireIn m M w → HasEnd w (lift y r) → ⊥

-- nothing changed but what the preparations left
pub record LinkRefused (m : MultiPortGraph) (M : Model) (m' : MultiPortGraph) : Type 0 where
  pub model : Model
  pub fine : Fine m' model
  pub blocks : SameBlocks m M m' model
  pub wires : SameWires m M m' model

abbrev pub LinkSays : MultiPortGraph → Model → ℕ → ℕ → MultiPortGraph → Result (SubportIndex × SubportIndex) Refusal → Type 0
LinkSays m M a b m' (Ok (s, t)) = LinkDone m M m' a b s t
LinkSays m M a b m' (Err e) = LinkRefused m M m'

abbrev LinkSaid : MultiPortGraph → Model → ℕ → ℕ → PortsLinked → Type 0
LinkSaid m M a b u = LinkSays m M a b u.graph u.answer

-- One step after another.

blocks_after : (m : MultiPortGraph) (M : Model) (m₁ : MultiPortGraph) (M₁ : Model) (m₂ : MultiPortGraph) (M₂ : Model) →
    SameBlocks m M m₁ M₁ → SameBlocks m₁ M₁ m₂ M₂ → SameBlocks m M m₂ M₂
blocks_after m M m₁ M₁ m₂ M₂ p q = ((λ n k b. q.0 n k (p.0 n k b)), (λ n k b. p.1 n k (q.1 n k b)))

same_wires_back : {m : MultiPortGraph} {M : Model} {m₁ : MultiPortGraph} {M₁ : Model} → SameWires m M m₁ M₁ → (w : Wire) → WireIn m₁ M₁ w → WireIn m M w
same_wires_back s w h = ⊎_elim (λ p. p.0) absurd (s.only w h)

wiring_after : {m : MultiPortGraph} {M : Model} {m₁ : MultiPortGraph} {M₁ : Model} {m₂ : MultiPortGraph} {M₂ : Model} {l : List Wire} →
    SameWires m M m₁ M₁ → Wiring m₁ M₁ m₂ M₂ none l → Wiring m M m₂ M₂ none l
wiring_after s t =
    record {
      kept = λ w h n. t.kept w (s.kept w h refl) n;
      came = t.came;
      only = λ w h. ⊎_elim (λ p. inl (same_wires_back s w p.0, p.1)) (λ p. inr p) (t.only w h);
    }

-- a block's port is where it was
port_kept : {m : MultiPortGraph} {M : Model} {m' : MultiPortGraph} {M' : Model} → Good M → SameBlocks m M m' M' → (p n : ℕ) (d : Direction) →
    BlockPort m M p n d → BlockPort m' M' p n d
port_kept {m} {M} {m'} {M'} good s p n d b =
    let y = b.place in
    let k = slot_in_block good y b.is_seen.0 in
    let c = s.0 y.node k.0 (b.is_seen.1, k.1) in
    let e : M'.node y.node ≡ M.node y.node = c.1 ∙ sym k.1 in
    record {
      place = y;
      is_seen = (subst (λ w. y.pos < count_of w y.side) (sym e) b.is_seen.0, c.0);
      slot = ap (λ w. first_of w + (side_start w y.side + y.pos)) e ∙ b.slot;
      node = b.node;
      side = b.side;
    }

prepare_at : {m : MultiPortGraph} {M : Model} → Fine m M → (p n : ℕ) (d : Direction) → (b : BlockPort m M p n d) → PreparedSays m M b.place (prepare m p d)
prepare_at {m} {M} f p n d b =
    subst (λ q. PreparedSays m M b.place (prepare m q d)) b.slot
    (subst (λ e. PreparedSays m M b.place (prepare m (slot_of M.node b.place) e)) b.side (prepare_says f b.place b.is_seen))

-- a wire of two ends has them
pub end_of_sides : (d : Direction) (p q : Place) → HasEnd (wire_of_sides d p q) p
end_of_sides Incoming p q = inr refl
end_of_sides Outgoing p q = inl refl

pub far_of_sides : (d : Direction) (p q : Place) → HasEnd (wire_of_sides d p q) q
far_of_sides Incoming p q = inl refl
far_of_sides Outgoing p q = inr refl

-- Both ends are prepared, on different sides.

module _ {m : MultiPortGraph} {M : Model} {m₁ : MultiPortGraph} {M₁ : Model} {m₂ : MultiPortGraph} {M₂ : Model} {x y : model.InnerPlace} {q o u r : ℕ}
    (p₁ : PreparedEnd m M x m₁ M₁ q o) (p₂ : PreparedEnd m₁ M₁ y m₂ M₂ u r) (apart : x.side ≡ y.side → ⊥) where
  still : KeptEnd m₁ M₁ m₂ M₂ p₁.z
  still = p₂.keeps p₁.z p₁.end p₁.free (λ e. apart (sym p₁.side ∙ e))

  ends_joined : Joined m₂ M₂ (with_graph m₂ (link_ports m₂.graph q u).graph) (link_model M₂ p₁.z p₂.z) (wire_of_sides x.side (lift x o) (lift y r) ∷ [])
  ends_joined =
      let j = join_ends p₂.fine p₁.z p₂.z still.end p₂.end still.free p₂.free (λ e. apart (sym p₁.side ∙ (e ∙ p₂.side))) in
      let a = still.slot ∙ p₁.slot in
      let b = p₂.slot in
      let c = still.is ∙ p₁.is in
      let d = p₂.is in
      let e = p₁.side in
      subst (λ (v : ℕ). Joined m₂ M₂ (with_graph m₂ (link_ports m₂.graph v u).graph) (link_model M₂ p₁.z p₂.z) (wire_of_sides x.side (lift x o) (lift y r) ∷ [])) a
      (subst (λ (v : ℕ). Joined m₂ M₂ (with_graph m₂ (link_ports m₂.graph (slot_of M₂.node p₁.z) v).graph) (link_model M₂ p₁.z p₂.z) (wire_of_sides x.side (lift x o) (lift y r) ∷ [])) b
      (subst (λ (w : Wire). Joined m₂ M₂ (with_graph m₂ (link_ports m₂.graph (slot_of M₂.node p₁.z) (slot_of M₂.node p₂.z)).graph) (link_model M₂ p₁.z p₂.z) (w ∷ []))
      (λ i. wire_of_sides (e i) (c i) (d i)) j))

  ends_linked : (sx : Seen m M x) (sy : Seen m M y) (a b : ℕ) → slot_of M.node x ≡ a → slot_of M.node y ≡ b →
      LinkDone m M (with_graph m₂ (link_ports m₂.graph q u).graph) a b (subport# a o) (subport# b r)
  ends_linked sx sy a b ea eb =
      record {
        x = x;
        y = y;
        first_seen = sx;
        first_at = ea;
        second_seen = sy;
        second_at = eb;
        opposite = apart;
        o = o;
        r = r;
        first_read = refl;
        second_read = refl;
        model = link_model M₂ p₁.z p₂.z;
        fine = ends_joined.fine;
        blocks =
            blocks_after m M m₁ M₁ (with_graph m₂ (link_ports m₂.graph q u).graph) (link_model M₂ p₁.z p₂.z) p₁.blocks
            (blocks_after m₁ M₁ m₂ M₂ (with_graph m₂ (link_ports m₂.graph q u).graph) (link_model M₂ p₁.z p₂.z) p₂.blocks ends_joined.blocks);
        wires = wiring_after p₁.wires (wiring_after p₂.wires ends_joined.wires);
        new = λ h. p₁.none _ h (end_of_sides x.side (lift x o) (lift y r));
        first_lower = p₁.lower;
        first_none = p₁.none;
        second_lower = λ i l. let w = p₂.lower i l in (w.0, same_wires_back p₁.wires w.0 w.1, w.2);
        second_none = λ w h e. p₂.none w (p₁.wires.kept w h refl) e;
      }

both_left : {m : MultiPortGraph} {M : Model} {m₁ : MultiPortGraph} {M₁ : Model} {m₂ : MultiPortGraph} {M₂ : Model} {x y : model.InnerPlace} {q o u r : ℕ} →
    PreparedEnd m M x m₁ M₁ q o → PreparedEnd m₁ M₁ y m₂ M₂ u r → LinkRefused m M m₂
both_left {m} {M} {m₁} {M₁} {m₂} {M₂} p₁ p₂ =
    record {
      model = M₂;
      fine = p₂.fine;
      blocks = blocks_after m M m₁ M₁ m₂ M₂ p₁.blocks p₂.blocks;
      wires = wiring_after p₁.wires p₂.wires;
    }

-- The call.

module _ {m : MultiPortGraph} {M : Model} (f : Fine m M) where
  pub nothing_left : LinkRefused m M m
  nothing_left =
      record {
        model = M;
        fine = f;
        blocks = ((λ n k b. b), (λ n k b. b));
        wires = record { kept = λ w h t. h; came = λ w h. absurd h; only = λ w h. inl (h, refl) };
      }

  -- where an input named has a wire, under release 2, nothing is done
  pub link_says_if : (taken : Bool) (a b : ℕ) → LinkSays m M a b (link_pair_if taken present m a b).graph (link_pair_if taken present m a b).answer
  unfolding port_kept
  link_says_if true a b = subst (LinkSaid m M a b) (sym (link_taken present m a b)) nothing_left
  link_says_if false a b = subst (LinkSaid m M a b) (sym (link_cases present m a b)) (go (seen m a) (seen m b) refl refl)
    where
      first : (x : model.InnerPlace) (p : Prepared) → PreparedSays m M x p → LinkSaid m M a b (link_first m b p)
      first x full s = nothing_left
      first x (ready m₁ q o) s =
          record { model = s.0; fine = s.1.fine; blocks = s.1.blocks; wires = s.1.wires }

      second : (n : ℕ) (d : Direction) (x : BlockPort m M a n d) (k : ℕ) (e : Direction) (y : BlockPort m M b k e)
          (m₁ : MultiPortGraph) (q o : ℕ) (s : PreparedSays m M x.place (ready m₁ q o)) (p : Prepared) → PreparedSays m₁ s.0 y.place p →
          LinkSaid m M a b (link_second m a d q o b e p)
      second n d x k e y m₁ q o s full t = nothing_left
      second n d x k e y m₁ q o s (ready m₂ u r) t = sides (same_side d e) refl
        where
          sides : (c : Bool) → same_side d e ≡ c → LinkSaid m M a b (link_prepared m₂ a d q o b e u r)
          sides true g = rw g (both_left s.1 t.1)
          sides false g =
              rw g
              (ends_linked s.1 t.1 (λ c. same_side_false d e g (sym x.side ∙ (c ∙ y.side))) x.is_seen y.is_seen a b x.slot y.slot)

      both : (n : ℕ) (d : Direction) (x : BlockPort m M a n d) (k : ℕ) (e : Direction) (y : BlockPort m M b k e) (p : Prepared) → PreparedSays m M x.place p →
          LinkSaid m M a b (link_live m a d b e p)
      both n d x k e y full s = nothing_left
      both n d x k e y (ready m₁ q o) s =
          second n d x k e y m₁ q o s (prepare m₁ b e) (prepare_at s.1.fine b k e (port_kept f.good s.1.blocks b k e y))

      go : (v w : Port) → seen m a ≡ v → seen m b ≡ w → LinkSaid m M a b (link_seen m a b v w)
      go dead w p q = nothing_left
      go hidden w p q = nothing_left
      go (visible n d) hidden p q = nothing_left
      go (visible n d) dead p q =
          let x = block_seen f a n d p in
          first x.place (prepare m a d) (prepare_at f a n d x)
      go (visible n d) (visible k e) p q =
          let x = block_seen f a n d p in
          both n d x k e (block_seen f b k e q) (prepare m a d) (prepare_at f a n d x)

  pub link_says : (a b : ℕ) → LinkSays m M a b (link_pair m a b).graph (link_pair m a b).answer
  link_says a b = link_says_if (input_taken m a b) a b

  pub link_done_law : (a b : ℕ) (s t : SubportIndex) → (link_pair m a b).answer ≡ Ok (s, t) → LinkDone m M (link_pair m a b).graph a b s t
  link_done_law a b s t e = subst (LinkSays m M a b (link_pair m a b).graph) e (link_says a b)

  pub link_refused_law : (a b : ℕ) (r : Refusal) → (link_pair m a b).answer ≡ Err r → LinkRefused m M (link_pair m a b).graph
  link_refused_law a b r e = subst (LinkSays m M a b (link_pair m a b).graph) e (link_says a b)
