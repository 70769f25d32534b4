-- Graph and book go together (`Rel`): the book's blocks are the blocks of the graph, with their slots, and its wires are the
-- wires of the graph, all of them once. Every call keeps this.
use Rattle.std.specs.Prelude.{◌≡◌, Bool, true, false, not, ◌⊎◌, ℕ, ◌+◌, ◌<◌, eqb, take, drop, Option, Some, None, Result, Ok, Err}
use Rattle.std.proofs.Math.Path.{refl, ap}
use Rattle.std.proofs.Common.{sym, ◌∙◌, subst, inl, inr, ⊎_elim, arith, take_at, drop_at, eqb-true, ne_eqb}
use mathlib.Core.List.{List, [], ◌∷◌, ◌++◌}
use Rattle.std.proofs.lemmas.Bool.{eqb-false, false_from_ne_true, or_right, not-true, or_cases}
use Rattle.port_tables.specs.Lists.{range, Member, Once, Rising}
use Rattle.std.specs.List.{filter}
use Rattle.port_tables.specs.Entries.{ports_on, meta_of}
use Rattle.portgraph.specs.Model as model
use Rattle.portgraph.specs.Model.{Model, Slots, gone, live, Valid, slot_of, first_of, side_start}
use Rattle.portgraph.specs.GoodSlots.{slots_apart, slot_in_block}
use Rattle.portgraph.specs.GoodLaws.{empty_model}
use Rattle.port_tables.specs.declared.direction.Direction.{Direction}
use Rattle.port_tables.specs.declared.direction.Direction.TheVariants.{Incoming, Outgoing}
use Rattle.port_tables.specs.declared.node_entry.NodeMeta.{NodeMeta}
use Rattle.theorems.specs.Book.{empty_book, read_by, Block, Book, with_wires, spot_among, spot_of, add_wire, not_block, book_add, book_remove, book_set, book_link, book_link_sub, book_cut}
use Rattle.port_tables.specs.Places.{without, next_offset, Place, Wire, Spot, spot, at_end, touches, wire_of_sides}
use Rattle.multiportgraph.specs.WellFormed.{inner#, Fine, BlockIs, Seen, lift, WireIn, SameBlocks, Wiring, none, SameWires, HasEnd}
use Rattle.theorems.specs.BookLaws.{left_once, wire_stays, stayed_wire, among_run, beside_run, any_touches_lem, none_touches, next_offset_lem}
use Rattle.port_tables.specs.Listing.{member_filter, filter_member, rising_filter, length_range}
use Rattle.multiportgraph.specs.HiddenStays.{true_not_false}
use Rattle.multiportgraph.specs.Ends.{out_side, into_side, ports_walked_lem}
use Rattle.multiportgraph.specs.Reading.{is_split, as_read}
use Rattle.multi_tables.specs.Forms.{subport#}
use Rattle.multiportgraph.specs.LinkCutLaws.{end_is_here, end_is_same, fine_empty, empty_has_no_wire, empty_has_no_block, AddSays, LinkSubDone, LinkSubSays, CutDone, CutSays}
use Rattle.theorems.specs.LinkLaw.{LinkDone, LinkSays, end_of_sides}
use Rattle.theorems.specs.RemoveLaws.{RemoveSays}
use Rattle.multiportgraph.specs.SetLaws.{SetDone}
use Rattle.multiportgraph.specs.declared.multiportgraph.MultiPortGraph.{MultiPortGraph}
use Rattle.multi_tables.specs.declared.answers.SubportIndex.{SubportIndex}
use Rattle.multi_tables.specs.declared.answers.Refusal.{Refusal}
use Rattle.multiportgraph.specs.TidyLaws.{TidySays}
use Rattle.multiportgraph.specs.Wires.{ports_walked}
use Rattle.port_tables.specs.declared.release.Release.{Release}
use Rattle.multiportgraph.specs.Graph.{empty_graph}
use Rattle.port_tables.specs.declared.index.NodeIndex.{NodeIndex}
use Rattle.port_tables.specs.declared.index.PortIndex.{PortIndex}
use Rattle.multi_tables.specs.declared.answers.PortPlace.{PortPlace}

-- The relation.

-- a block of the book is a block of the graph, its ports are the slots
abbrev pub Right : MultiPortGraph → Model → Block → Type 0
Right m M b =
    (k : NodeMeta) × BlockIs m M b.node k × (b.ins ≡ range k.first_port.0 k.incoming)
    × (b.outs ≡ range (k.first_port.0 + k.incoming) k.outgoing)

abbrev pub OtherNode : Block → Block → Type 0
OtherNode b c = b.node ≡ c.node → ⊥

pub record RightBlocks (m : MultiPortGraph) (M : Model) (l : List Block) : Type 0 where
  pub right : (b : Block) → Member b l → Right m M b
  pub all : (n : ℕ) (k : NodeMeta) → BlockIs m M n k → (b : Block) × Member b l × (b.node ≡ n)
  -- no node has two blocks
  pub once : Rising OtherNode l

pub record RightWires (m : MultiPortGraph) (M : Model) (l : List Wire) : Type 0 where
  pub booked : (w : Wire) → Member w l → WireIn m M w
  pub walks : (w : Wire) → WireIn m M w → Member w l
  pub once : Once l

pub record Rel (m : MultiPortGraph) (M : Model) (B : Book) : Type 0 where
  pub fine : Fine m M
  pub blocks : RightBlocks m M B.blocks
  pub wires : RightWires m M B.wires

-- Where a port stands.

block_spot : (n p : ℕ) (k : NodeMeta) (ins outs : List ℕ) (d : Direction) (i : ℕ) (other : Spot) → ins ≡ range k.first_port.0 k.incoming →
    outs ≡ range (k.first_port.0 + k.incoming) k.outgoing → i < ports_on k d → p ≡ k.first_port.0 + (side_start (live k) d + i) →
    spot_among n Incoming p ins 0 (spot_among n Outgoing p outs 0 other) ≡ spot n d i
block_spot n p k ins outs Incoming i other a b h s =
    let e : p ≡ k.first_port.0 + i = omega arith in
    rw (e, a) (among_run n Incoming k.first_port.0 k.incoming 0 i _ h ∙ ap (spot n Incoming) (omega arith))
block_spot n p k ins outs Outgoing i other a b h s =
    let e : p ≡ k.first_port.0 + k.incoming + i = omega arith in
    rw (e, a, b)
    (beside_run n Incoming (k.first_port.0 + k.incoming + i) k.first_port.0 k.incoming 0 _ (λ j l q. omega arith)
    ∙ among_run n Outgoing (k.first_port.0 + k.incoming) k.outgoing 0 i other h ∙ ap (spot n Outgoing) (omega arith))

pub past_block : (n p : ℕ) (k : NodeMeta) (ins outs : List ℕ) (other : Spot) → ins ≡ range k.first_port.0 k.incoming →
    outs ≡ range (k.first_port.0 + k.incoming) k.outgoing →
    ((d : Direction) (i : ℕ) → i < ports_on k d → p ≡ k.first_port.0 + (side_start (live k) d + i) → ⊥) →
    spot_among n Incoming p ins 0 (spot_among n Outgoing p outs 0 other) ≡ other
past_block n p k ins outs other a b out =
    rw (a, b)
    (beside_run n Incoming p k.first_port.0 k.incoming 0 _ (λ j h z. out Incoming j h (omega arith))
    ∙ beside_run n Outgoing p (k.first_port.0 + k.incoming) k.outgoing 0 other (λ j h z. out Outgoing j h (omega arith)))

module _ {m : MultiPortGraph} {M : Model} (f : Fine m M) where
  -- a place of another node is not among a block's ports
  other_block : (x : model.InnerPlace) → Valid M.node x → (n : ℕ) (k : NodeMeta) → M.node n ≡ live k → (n ≡ x.node → ⊥) → (d : Direction) (i : ℕ) → i < ports_on k d →
      slot_of M.node x ≡ k.first_port.0 + (side_start (live k) d + i) → ⊥
  other_block x v n k e other d i h s =
      other (ap (λ (z : model.InnerPlace). z.node) (slots_apart f.good (inner# n d i) x (rw e h) v (rw e (sym s))))

  spot_in : (x : model.InnerPlace) → Seen m M x → (l : List Block) → ((b : Block) → Member b l → Right m M b) → (b : Block) → Member b l → b.node ≡ x.node →
      spot_of l (slot_of M.node x) ≡ spot x.node x.side x.pos
  unfolding spot_of
  spot_in x s [] right b i p = absurd i
  spot_in x s (c ∷ l) right b i p = go (eqb c.node x.node) refl i (λ h. spot_in x s l (λ a j. right a (inr j)) b h p)
    where
      r : Right m M c
      r = right c (inl refl)

      go : (t : Bool) → eqb c.node x.node ≡ t → (b ≡ c) ⊎ Member b l →
          (Member b l → spot_of l (slot_of M.node x) ≡ spot x.node x.side x.pos) →
          spot_among c.node Incoming (slot_of M.node x) c.ins 0 (spot_among c.node Outgoing (slot_of M.node x) c.outs 0 (spot_of l (slot_of M.node x)))
          ≡ spot x.node x.side x.pos
      go true e j rest =
          let q : c.node ≡ x.node = eqb-true c.node x.node e in
          let n : M.node x.node ≡ live r.0 = ap M.node (sym q) ∙ r.1.1 in
          let v : x.pos < ports_on r.0 x.side = (rw n at s).0 in
          let z : slot_of M.node x ≡ r.0.first_port.0 + (side_start (live r.0) x.side + x.pos) =
          ap (λ (t : Slots). first_of t + (side_start t x.side + x.pos)) n in
          block_spot c.node (slot_of M.node x) r.0 c.ins c.outs x.side x.pos _ r.2 r.3 v z
          ∙ ap (λ (a : ℕ). spot a x.side x.pos) q
      go false e j rest =
          let q : c.node ≡ x.node → ⊥ = eqb-false c.node x.node e in
          past_block c.node (slot_of M.node x) r.0 c.ins c.outs _ r.2 r.3 (other_block x s.0 c.node r.0 r.1.1 q)
          ∙ rest (⊎_elim (λ z. absurd (q (ap (λ (a : Block). a.node) (sym z) ∙ p))) (λ z. z) j)

  pub seen_live : (x : model.InnerPlace) → Seen m M x → (k : NodeMeta) × BlockIs m M x.node k
  seen_live x s = let r = slot_in_block f.good x s.0 in (r.0, (s.1, r.1))

-- a port of a block stands in the book where it stands in the graph
pub spot_of_lem : {m : MultiPortGraph} {M : Model} {B : Book} → Rel m M B → (x : model.InnerPlace) → Seen m M x → spot_of B.blocks (slot_of M.node x) ≡ spot x.node x.side x.pos
spot_of_lem {m} {M} {B} r x s =
    let k = seen_live r.fine x s in
    let b = r.blocks.all x.node k.0 k.1 in
    spot_in r.fine x s B.blocks r.blocks.right b.0 b.1 b.2

-- by its number
pub spot_at : {m : MultiPortGraph} {M : Model} {B : Book} → Rel m M B → (x : model.InnerPlace) → Seen m M x → (p : ℕ) → slot_of M.node x ≡ p → spot_of B.blocks p ≡ spot x.node x.side x.pos
spot_at {B = B} r x s p at = ap (spot_of B.blocks) (sym at) ∙ spot_of_lem r x s

-- What a call does to the wires.

module _ {m : MultiPortGraph} {M : Model} {m' : MultiPortGraph} {M' : Model} {l : List Wire} (r : RightWires m M l) where
  pub wires_dropped : {f : Place → Bool} → Wiring m M m' M' f [] → RightWires m' M' (without f l)
  wires_dropped {f} c =
      record {
        booked = λ w i. let s = stayed_wire f w l i in c.kept w (r.booked w s.0) s.1;
        walks = λ w h. ⊎_elim (λ s. wire_stays f w l (r.walks w s.0) s.1) (λ z. absurd z) (c.only w h);
        once = left_once _ l r.once;
      }

  pub wires_same : SameWires m M m' M' → RightWires m' M' l
  wires_same c =
      record {
        booked = λ w i. c.kept w (r.booked w i) refl;
        walks = λ w h. ⊎_elim (λ s. r.walks w s.0) (λ z. absurd z) (c.only w h);
        once = r.once;
      }

  pub wires_more : {w : Wire} → Wiring m M m' M' none (w ∷ []) → (WireIn m M w → ⊥) → RightWires m' M' (w ∷ l)
  wires_more {w} c fresh =
      record {
        booked = λ v i. ⊎_elim (λ e. c.came v (inl e)) (λ h. c.kept v (r.booked v h) refl) i;
        walks = λ v h. ⊎_elim (λ s. inr (r.walks v s.0)) (λ z. ⊎_elim (λ e. inl e) (λ y. absurd y) z) (c.only v h);
        once = ((λ i. fresh (r.booked w i)), r.once);
      }

-- What a call does to the blocks.

module _ {m : MultiPortGraph} {M : Model} {m' : MultiPortGraph} {M' : Model} {l : List Block} (r : RightBlocks m M l) (f : Fine m' M') where
  still_right : (b : Block) → Member b l → ((k : NodeMeta) → BlockIs m M b.node k → BlockIs m' M' b.node k) → Right m' M' b
  still_right b i h = let s = r.right b i in (s.0, h s.0 s.1, s.2, s.3)

  pub blocks_same : SameBlocks m M m' M' → RightBlocks m' M' l
  blocks_same s =
      record {
        right = λ b i. still_right b i (s.0 b.node);
        all = λ n k h. r.all n k (s.1 n k h);
        once = r.once;
      }

  pub blocks_added : (n p i o c : ℕ) → BlockIs m' M' n (meta_of p i o c) → ((k : ℕ) (a : NodeMeta) → BlockIs m M k a → BlockIs m' M' k a) →
      ((k : ℕ) (a : NodeMeta) → BlockIs m' M' k a → (k ≡ n) ⊎ BlockIs m M k a) → ((a : NodeMeta) → BlockIs m M n a → ⊥) →
      RightBlocks m' M' (record { node = n; ins = range p i; outs = range (p + i) o } ∷ l)
  blocks_added n p i o c new kept only free =
      record {
        right = λ b h. ⊎_elim (λ e. subst (Right m' M') (sym e) (meta_of p i o c, new, refl, refl)) (λ j. still_right b j (kept b.node)) h;
        all = λ k a h. ⊎_elim (λ e. (_, inl refl, sym e)) (λ j. let s = r.all k a j in (s.0, inr s.1, s.2)) (only k a h);
        once = ((λ b j e. let s = r.right b j in free s.0 (subst (λ (k : ℕ). BlockIs m M k s.0) (sym e) s.1)), r.once);
      }

  module _ (n : ℕ) (kept : (k : ℕ) (a : NodeMeta) → (k ≡ n → ⊥) → BlockIs m M k a → BlockIs m' M' k a)
      (only : (k : ℕ) (a : NodeMeta) → (k ≡ n → ⊥) → BlockIs m' M' k a → BlockIs m M k a) where
    others_right : (b : Block) → Member b (filter (not_block n) l) → Right m' M' b
    others_right b i =
        let s = member_filter (not_block n) b l i in
        let e : eqb b.node n ≡ false = not-true _ s.1 in
        still_right b s.0 (λ k. kept b.node k (eqb-false b.node n e))

    others_all : (k : ℕ) (a : NodeMeta) → (k ≡ n → ⊥) → BlockIs m' M' k a → (b : Block) × Member b (filter (not_block n) l) × (b.node ≡ k)
    others_all k a other h =
        let s = r.all k a (only k a other h) in
        let e : eqb s.0.node n ≡ false = ne_eqb s.0.node n (λ q. other (sym s.2 ∙ q)) in
        (s.0, filter_member (not_block n) s.0 l s.1 (ap not e), s.2)

    pub blocks_removed : ((a : NodeMeta) → BlockIs m' M' n a → ⊥) → RightBlocks m' M' (filter (not_block n) l)
    blocks_removed lost =
        record {
          right = others_right;
          all = λ k a h. others_all k a (λ e. lost a (subst (λ (j : ℕ). BlockIs m' M' j a) e h)) h;
          once = rising_filter OtherNode (not_block n) l r.once;
        }

    pub blocks_set : (k : NodeMeta) → BlockIs m' M' n k → (ports : List ℕ) →
        ports ≡ range k.first_port.0 k.incoming ++ range (k.first_port.0 + k.incoming) k.outgoing →
        RightBlocks m' M' (record { node = n; ins = take k.incoming ports; outs = drop k.incoming ports } ∷ filter (not_block n) l)
    blocks_set k new ports e =
        let a : take k.incoming ports ≡ range k.first_port.0 k.incoming =
        rw e (take_at (range k.first_port.0 k.incoming) _ k.incoming (length_range _ _)) in
        let b : drop k.incoming ports ≡ range (k.first_port.0 + k.incoming) k.outgoing =
        rw e (drop_at (range k.first_port.0 k.incoming) _ k.incoming (length_range _ _)) in
        record {
          right = λ c h. ⊎_elim (λ q. subst (Right m' M') (sym q) (k, new, a, b)) (others_right c) h;
          all = λ j c h. go j c h (eqb j n) refl;
          once = (
            (λ c i q. eqb-false c.node n (not-true _ (member_filter (not_block n) c l i).1) (sym q)),
            rising_filter OtherNode (not_block n) l r.once,
          );
        }
      where
        go : (j : ℕ) (c : NodeMeta) → BlockIs m' M' j c → (t : Bool) → eqb j n ≡ t →
            (b : Block) × Member b (record { node = n; ins = take k.incoming ports; outs = drop k.incoming ports } ∷ filter (not_block n) l) × (b.node ≡ j)
        go j c h true t = (_, inl refl, sym (eqb-true j n t))
        go j c h false t = let s = others_all j c (eqb-false j n t) h in (s.0, inr s.1, s.2)

-- The book's lowest unwired offset of a port is the graph's.

pub has_end_touches : (x : model.InnerPlace) (o : ℕ) (w : Wire) → HasEnd w (lift x o) → touches (at_end (spot x.node x.side x.pos) o) w ≡ true
has_end_touches x o w (inl e) = rw (e, end_is_here (lift x o))
has_end_touches x o w (inr e) = rw e (or_right (at_end (spot x.node x.side x.pos) o w.out) _ (end_is_here (lift x o)))

pub touches_has_end : (x : model.InnerPlace) (o : ℕ) (w : Wire) → touches (at_end (spot x.node x.side x.pos) o) w ≡ true → HasEnd w (lift x o)
touches_has_end x o w t =
    ⊎_elim (λ a. inl (end_is_same (lift x o) w.out a)) (λ a. inr (end_is_same (lift x o) w.into a)) (or_cases _ _ t)

pub offset_of_lem : {m : MultiPortGraph} {M : Model} {B : Book} → Rel m M B → (x : model.InnerPlace) (o : ℕ) →
    ((i : ℕ) → i < o → (w : Wire) × WireIn m M w × HasEnd w (lift x i)) → ((w : Wire) → WireIn m M w → HasEnd w (lift x o) → ⊥) →
    next_offset B.wires (spot x.node x.side x.pos) ≡ o
offset_of_lem {m} {M} {B} r x o lower free =
    next_offset_lem x.node x.side x.pos o B.wires
    (λ w i. let h = r.wires.booked w i in (out_side r.fine w h, into_side r.fine w h))
    (λ j h. let e = lower j h in any_touches_lem _ e.0 B.wires (r.wires.walks e.0 e.1) (has_end_touches x j e.0 e.2))
    (none_touches _ B.wires (λ w i. false_from_ne_true _ (λ t. free w (r.wires.booked w i) (touches_has_end x o w t))))

-- by the port's number
pub lowest : {m : MultiPortGraph} {M : Model} {B : Book} → Rel m M B → (x : model.InnerPlace) (p o : ℕ) → Seen m M x → slot_of M.node x ≡ p →
    ((i : ℕ) → i < o → (w : Wire) × WireIn m M w × HasEnd w (lift x i)) → ((w : Wire) → WireIn m M w → HasEnd w (lift x o) → ⊥) →
    next_offset B.wires (spot_of B.blocks p) ≡ o
lowest {B = B} r x p o s at lower free = ap (next_offset B.wires) (spot_at r x s p at) ∙ offset_of_lem r x o lower free

-- The calls, from what they did to blocks and wires.

module _ {m : MultiPortGraph} {M : Model} {B : Book} (r : Rel m M B) {m' : MultiPortGraph} {M' : Model} (f : Fine m' M') where
  pub rel_same : SameBlocks m M m' M' → SameWires m M m' M' → Rel m' M' B
  rel_same s w = record { fine = f; blocks = blocks_same r.blocks f s; wires = wires_same r.wires w }

  pub rel_cut : SameBlocks m M m' M' → (g h : Place → Bool) → g ≡ h → Wiring m M m' M' g [] → Rel m' M' (with_wires B (without h B.wires))
  rel_cut s g h e w =
      record { fine = f; blocks = blocks_same r.blocks f s; wires = subst (λ t. RightWires m' M' (without t B.wires)) e (wires_dropped r.wires w) }

  pub rel_linked : SameBlocks m M m' M' → (x y : model.InnerPlace) → Seen m M x → Seen m M y → (p q : ℕ) → slot_of M.node x ≡ p → slot_of M.node y ≡ q →
      (o t a b : ℕ) → a ≡ o → b ≡ t → Wiring m M m' M' none (wire_of_sides x.side (lift x o) (lift y t) ∷ []) →
      (WireIn m M (wire_of_sides x.side (lift x o) (lift y t)) → ⊥) →
      Rel m' M' (with_wires B (add_wire B.wires (spot_of B.blocks p) a (spot_of B.blocks q) b))
  rel_linked s x y sx sy p q ep eq o t a b ea eb w fresh =
      let u = spot_at r x sx p ep in
      let v = spot_at r y sy q eq in
      rw (u, v, ea, eb) (record { fine = f; blocks = blocks_same r.blocks f s; wires = wires_more r.wires w fresh })

-- A call leads from one graph to another: that stands for a model too, and a book that goes with the one goes on with the other.
pub record Leads (m : MultiPortGraph) (M : Model) (m' : MultiPortGraph) (enter : Book → Book) : Type 0 where
  pub model : Model
  pub fine : Fine m' model
  pub booked : (B : Book) → Rel m M B → Rel m' model (enter B)

-- nothing changed
stays : {m : MultiPortGraph} {M : Model} → Fine m M → (m' : MultiPortGraph) → m' ≡ m → Leads m M m' (λ B. B)
stays {m} {M} f m' e =
    record {
      model = M;
      fine = subst (λ (t : MultiPortGraph). Fine t M) (sym e) f;
      booked = λ B r. subst (λ (t : MultiPortGraph). Rel t M B) (sym e) r;
    }

-- An accepted link of either kind: one wire more, between ends that had none, and both are answered.
pub record OneMore (m : MultiPortGraph) (M : Model) (m' : MultiPortGraph) (a o b r : ℕ) (s t : SubportIndex) : Type 0 where
  pub x : model.InnerPlace
  pub y : model.InnerPlace
  pub first_seen : Seen m M x
  pub first_at : slot_of M.node x ≡ a
  pub second_seen : Seen m M y
  pub second_at : slot_of M.node y ≡ b
  pub first_free : (w : Wire) → WireIn m M w → HasEnd w (lift x o) → ⊥
  pub second_free : (w : Wire) → WireIn m M w → HasEnd w (lift y r) → ⊥
  pub model : Model
  pub fine : Fine m' model
  pub blocks : SameBlocks m M m' model
  pub wires : Wiring m M m' model none (wire_of_sides x.side (lift x o) (lift y r) ∷ [])
  pub first_read : s ≡ subport# a o
  pub second_read : t ≡ subport# b r

module _ {m : MultiPortGraph} {M : Model} {m' : MultiPortGraph} {s t : SubportIndex} where
  pub ports_link : {a b : ℕ} → (d : LinkDone m M m' a b s t) → OneMore m M m' a d.o b d.r s t
  ports_link d =
      record {
        x = d.x;
        y = d.y;
        first_seen = d.first_seen;
        first_at = d.first_at;
        second_seen = d.second_seen;
        second_at = d.second_at;
        first_free = d.first_none;
        second_free = d.second_none;
        model = d.model;
        fine = d.fine;
        blocks = d.blocks;
        wires = d.wires;
        first_read = d.first_read;
        second_read = d.second_read;
      }

  pub subports_link : {p o q r : ℕ} → LinkSubDone m M m' p o q r s t → OneMore m M m' p (read_by (is_split m p) o) q (read_by (is_split m q) r) s t
  unfolding as_read
  subports_link d =
      record {
        x = d.x;
        y = d.y;
        first_seen = d.first_seen;
        first_at = d.first_at;
        second_seen = d.second_seen;
        second_at = d.second_at;
        first_free = λ w h e. true_not_false (has_end_touches d.x _ w e) (d.first_free w h);
        second_free = λ w h e. true_not_false (has_end_touches d.y _ w e) (d.second_free w h);
        model = d.model;
        fine = d.fine;
        blocks = d.blocks;
        wires = d.wires;
        first_read = d.first_read;
        second_read = d.second_read;
      }

-- From what each call says to the next graph and book.

module _ {m : MultiPortGraph} {M : Model} (f : Fine m M) (m' : MultiPortGraph) where
  pub after_add : (i o : ℕ) (a : Result (NodeIndex × PortIndex) Refusal) → AddSays m M i o m' a → Leads m M m' (λ B. book_add B i o a)
  after_add i o (Ok (n, p)) d =
      record {
        model = d.model;
        fine = d.fine;
        booked = λ B r.
            record {
              fine = d.fine;
              blocks = blocks_added r.blocks d.fine n.0 p.0 i o (i + o) d.block d.kept d.only d.new;
              wires = wires_same r.wires d.wires;
            };
      }
  after_add i o (Err e) d = stays f m' d

  pub after_remove : (n : ℕ) (a : Result (Unit {0}) Refusal) → RemoveSays m M n m' a → Leads m M m' (λ B. book_remove B n a)
  after_remove n (Ok tt) d =
      record {
        model = d.model;
        fine = d.fine;
        booked = λ B r.
            record {
              fine = d.fine;
              blocks = blocks_removed r.blocks d.fine n d.kept (λ k a other h. (d.only k a h).0) (λ a h. (d.only n a h).1 refl);
              wires = wires_dropped r.wires d.wires;
            };
      }
  after_remove n (Err e) d = stays f m' d

  pub after_set : (n i o : ℕ) (a : Result ℕ Refusal) → ((e : ℕ) → a ≡ Ok e → SetDone m M m' n i o) → ((x : Refusal) → a ≡ Err x → m' ≡ m) →
      Leads m M m' (λ B. book_set B n i o a (ports_walked m' n))
  after_set n i o (Ok e) done same =
      let d = done e refl in
      record {
        model = d.model';
        fine = d.fine;
        booked = λ B r.
            record {
              fine = d.fine;
              blocks =
                  subst (λ (k : ℕ). RightBlocks m' d.model' (record { node = n; ins = take k (ports_walked m' n); outs = drop k (ports_walked m' n) } ∷ filter (not_block n) B.blocks)) d.ins
                  (blocks_set r.blocks d.fine n d.others d.others_back d.new d.is (ports_walked m' n) (ports_walked_lem d.fine n d.new d.is));
              wires = wires_dropped r.wires d.wires;
            };
      }
  after_set n i o (Err e) done same = stays f m' (same e refl)

  -- the wire that came was not there
  was_free : {a o b e : ℕ} {s t : SubportIndex} → (l : OneMore m M m' a o b e s t) → WireIn m M (wire_of_sides l.x.side (lift l.x o) (lift l.y e)) → ⊥
  was_free l h = l.first_free _ h (end_of_sides l.x.side _ _)

  pub after_link : (a b : ℕ) (x : Result (SubportIndex × SubportIndex) Refusal) → LinkSays m M a b m' x → Leads m M m' (λ B. book_link B a b x)
  unfolding ports_link
  after_link a b (Ok (s, t)) d =
      let l = ports_link d in
      record {
        model = l.model;
        fine = l.fine;
        booked = λ B r.
            rel_linked r l.fine l.blocks l.x l.y l.first_seen l.second_seen a b l.first_at l.second_at d.o d.r _ _
            (lowest r l.x a d.o l.first_seen l.first_at d.first_lower l.first_free)
            (lowest r l.y b d.r l.second_seen l.second_at d.second_lower l.second_free) l.wires (was_free l);
      }
  after_link a b (Err e) d = record { model = d.model; fine = d.fine; booked = λ B r. rel_same r d.fine d.blocks d.wires }

  pub after_link_sub : (p o q t : ℕ) (x : Result (SubportIndex × SubportIndex) Refusal) → LinkSubSays m M p o q t m' x → Leads m M m' (λ B. book_link_sub B p o q t x (is_split m p ∷ is_split m q ∷ []))
  after_link_sub p o q t (Ok (s, u)) d =
      let l = subports_link d in
      record {
        model = l.model;
        fine = l.fine;
        booked = λ B r.
            rel_linked r l.fine l.blocks l.x l.y l.first_seen l.second_seen p q l.first_at l.second_at _ _ _ _ refl refl l.wires (was_free l);
      }
  after_link_sub p o q t (Err e) d = stays f m' d

  -- the ends dropped are told by where the port stands
  pub after_cut : (p : ℕ) (dropped : model.InnerPlace → Place → Bool) (test : Spot → Place → Bool) → ((x : model.InnerPlace) → test (spot x.node x.side x.pos) ≡ dropped x) →
      (a : Result (Option (SubportIndex × PortPlace)) Refusal) → CutSays m M p dropped m' a → Leads m M m' (λ B. book_cut B (test (spot_of B.blocks p)) a)
  after_cut p dropped test same a d = go a d
    where
      done : CutDone m M m' p dropped → Leads m M m' (λ B. with_wires B (without (test (spot_of B.blocks p)) B.wires))
      done k =
          record {
            model = k.model;
            fine = k.fine;
            booked = λ B r. rel_cut r k.fine k.blocks _ _ (sym (same k.x) ∙ ap test (sym (spot_at r k.x k.is_seen p k.at))) k.wires;
          }

      go : (a : Result (Option (SubportIndex × PortPlace)) Refusal) → CutSays m M p dropped m' a → Leads m M m' (λ B. book_cut B (test (spot_of B.blocks p)) a)
      go (Ok (Some (s, x))) k = done k
      go (Ok None) k = done k
      go (Err e) k = stays f m' k

  -- every block and every wire is where it was
  pub after_tidy : (a : Result (Unit {0}) Refusal) → TidySays m M m' a → Leads m M m' (λ B. B)
  after_tidy (Ok tt) d = record { model = d.model; fine = d.fine; booked = λ B r. rel_same r d.fine d.blocks d.wires }
  after_tidy (Err e) d = stays f m' d

-- Every history.

pub rel_start : (release : Release) → Rel (empty_graph release) empty_model empty_book
rel_start release =
    record {
      fine = fine_empty release;
      blocks = record { right = λ b i. absurd i; all = λ n k h. absurd (empty_has_no_block release n k h); once = tt };
      wires = record { booked = λ w i. absurd i; walks = λ w h. absurd (empty_has_no_wire release w h); once = tt };
    }
