-- What carries over from one graph to another where the hidden nodes that are left keep their counts and their links:
-- which side has the copy port, what each end is, and that the graph is fine.
use Rattle.std.proofs.lemmas.Bool.{false_from_ne_true}
use Rattle.std.specs.Prelude.{◌≡◌, Bool, ◌⊎◌, ℕ, ◌+◌, ◌≤◌, ◌<◌, length, Some}
use Rattle.std.proofs.Math.Path.{refl, sym, subst}
use Rattle.std.proofs.Common.{◌∙◌, ap, inl, inr, arith, eq-eqb, ne_eqb}
use Rattle.std.proofs.Math.Bool.{true, false}
use Rattle.std.proofs.Math.Logic.{⊎_elim}
use Rattle.port_tables.specs.Limits.{node_slots, port_slots}
use Rattle.port_tables.specs.Entries.{reversed, ports_on}
use Rattle.portgraph.specs.Model as model
use Rattle.portgraph.specs.Model.{Model, to, Slots, Good, Holds, slot_of, count_of, total}
use Rattle.portgraph.specs.Lookups.{meta_at}
use Rattle.portgraph.specs.Sums.{total_same}
use Rattle.portgraph.specs.GoodSlots.{zero_is_not_one}
use Rattle.portgraph.specs.PlaceLaws.{meta_of_node}
use Rattle.port_tables.specs.declared.direction.Direction.{Direction}
use Rattle.port_tables.specs.declared.direction.Direction.TheVariants.{Incoming, Outgoing}
use Rattle.port_tables.specs.declared.node_entry.NodeMeta.{NodeMeta}
use Rattle.portgraph.specs.declared.portgraph.PortGraph.{PortGraph}
use Rattle.multiportgraph.specs.Reading.{is_hidden, is_split, copy_side}
use Rattle.multiportgraph.specs.WellFormed.{inner#, copy_place, Marked, copy_port, main_port_lem, Fine, outer, IsEnd, WireIn, subports_of_slot}
use Rattle.multiportgraph.specs.declared.multiportgraph.MultiPortGraph.{MultiPortGraph}
use Rattle.port_tables.specs.Places.{Place, Wire, flag}
use Rattle.multiportgraph.specs.Graph.{with_graph}

pub same_slot : (M N : Model) (x : model.InnerPlace) → N.node x.node ≡ M.node x.node → slot_of N.node x ≡ slot_of M.node x
same_slot M N x e = ap (λ (s : Slots). model.first_of s + (model.side_start s x.side + x.pos)) e

pub true_not_false : {b : Bool} → b ≡ true → b ≡ false → ⊥
true_not_false p q = zero_is_not_one (cc)

-- the side with a single port has the copy port, where the other has two or more
pub copy_side_is : (m : MultiPortGraph) (c : ℕ) (k : NodeMeta) (d : Direction) → meta_at m.graph c ≡ Some k → ports_on k d ≡ 1
    → 2 ≤ ports_on k (reversed d) → copy_side m c ≡ d
unfolding copy_side
copy_side_is m c k Incoming e one more = rw (e, eq-eqb k.incoming 1 one, ne_eqb k.outgoing 1 (λ q. omega arith))
copy_side_is m c k Outgoing e one more = rw (e, ne_eqb k.incoming 1 (λ q. omega arith))

-- the copy port is the one of its side
pub same_copy : {c : ℕ} {d e : Direction} → d ≡ e → inner# c d 0 ≡ inner# c e 0
same_copy {c} p = ap (λ (d : Direction). inner# c d 0) p

-- a slot at an end of a hidden node's own link
abbrev pub AtCopyLink : MultiPortGraph → Model → ℕ → ℕ → Type 0
AtCopyLink m M c s =
    (slot_of M.node (copy_place m c) ≡ s) ⊎ ((x : model.InnerPlace) × (M.join (copy_place m c) ≡ to x) × (slot_of M.node x ≡ s))

-- some hidden nodes may go; the others keep their meta data, their main port and its slot, and the marks of their own link
pub record Frame (m : MultiPortGraph) (M : Model) (m' : MultiPortGraph) (M' : Model) : Type 0 where
  pub good : Good M'
  pub holds : Holds m'.graph M'
  pub marks_long : length m'.multiport ≡ port_slots
  pub flags_long : length m'.copy_node ≡ node_slots
  pub hid : (c : ℕ) → is_hidden m' c ≡ true → is_hidden m c ≡ true
  pub node : (c : ℕ) → is_hidden m' c ≡ true → M'.node c ≡ M.node c
  pub main : (c : ℕ) (x : model.InnerPlace) → is_hidden m' c ≡ true → M.join (copy_place m c) ≡ to x → M'.node x.node ≡ M.node x.node
  pub join : (c : ℕ) → is_hidden m' c ≡ true → M'.join (copy_place m c) ≡ M.join (copy_place m c)
  pub marked : (c s : ℕ) → is_hidden m' c ≡ true → AtCopyLink m M c s → is_split m' s ≡ true
  pub only : (s : ℕ) → is_split m' s ≡ true → is_split m s ≡ true
  pub stays : (c s : ℕ) → is_hidden m c ≡ true → is_split m' s ≡ true → AtCopyLink m M c s → is_hidden m' c ≡ true
  pub copies : m'.copy_node_count ≡ total node_slots (λ n. flag (is_hidden m' n))
  pub subs : m'.subport_count ≡ total node_slots (subports_of_slot m' M')

module _ {m : MultiPortGraph} {M : Model} {m' : MultiPortGraph} {M' : Model} (f : Fine m M) (F : Frame m M m' M') where
  pub copy_side_kept : (c : ℕ) → is_hidden m' c ≡ true → copy_side m' c ≡ copy_side m c
  copy_side_kept c h =
      let k = f.copy c (F.hid c h) in
      copy_side_is m' c k.meta (copy_side m c) (meta_of_node F.good F.holds c k.meta (F.node c h ∙ k.here)) k.single k.several

  pub copy_join_kept : (c : ℕ) → is_hidden m' c ≡ true → M'.join (copy_place m' c) ≡ M.join (copy_place m c)
  copy_join_kept c h = ap M'.join (same_copy (copy_side_kept c h)) ∙ F.join c h

  pub shown_kept : (n : ℕ) → is_hidden m n ≡ false → is_hidden m' n ≡ false
  shown_kept n h = false_from_ne_true (is_hidden m' n) (λ t. true_not_false (F.hid n t) h)

  pub copy_slot_kept : (c : ℕ) → is_hidden m' c ≡ true → slot_of M'.node (copy_place m' c) ≡ slot_of M.node (copy_place m c)
  copy_slot_kept c h =
      ap (slot_of M'.node) (same_copy (copy_side_kept c h))
      ∙ ap (λ (s : Slots). model.first_of s + (model.side_start s (copy_side m c) + 0)) (F.node c h)

  pub frame_fine : Fine m' M'
  frame_fine =
      record {
        good = F.good;
        holds = F.holds;
        marks_long = F.marks_long;
        flags_long = F.flags_long;
        copy = λ c h.
            let k = f.copy c (F.hid c h) in
            record {
              meta = k.meta;
              here = F.node c h ∙ k.here;
              single = rw (copy_side_kept c h) k.single;
              several = rw (copy_side_kept c h) k.several;
              main = k.main;
              joined = copy_join_kept c h ∙ k.joined;
              main_seen = shown_kept k.main.node k.main_seen;
            };
        copy_marked = λ c h. F.marked c _ h (inl (sym (copy_slot_kept c h)));
        main_marked = λ c x h j.
            let i : M.join (copy_place m c) ≡ to x = sym (copy_join_kept c h) ∙ j in
            F.marked c _ h (inr (x, i, sym (same_slot M M' x (F.main c x h i))));
        only_marked = λ s h. only s h (f.only_marked s (F.only s h));
        copies = F.copies;
        subs = F.subs;
      }
    where
      only : (s : ℕ) → is_split m' s ≡ true → Marked m M s → Marked m' M' s
      only s h (copy_port c i e) =
          let j : is_hidden m' c ≡ true = F.stays c s i h (inl e) in
          copy_port c j (copy_slot_kept c j ∙ e)
      only s h (main_port_lem c x i q e) =
          let j : is_hidden m' c ≡ true = F.stays c s i h (inr (x, q, e)) in
          main_port_lem c x j (copy_join_kept c j ∙ q) (same_slot M M' x (F.main c x j q) ∙ e)

  -- an end is where it was
  pub outer_kept : (z : model.InnerPlace) → is_hidden m' z.node ≡ is_hidden m z.node → outer m' M' z ≡ outer m M z
  unfolding outer
  outer_kept z same = go (is_hidden m' z.node) refl
    where
      go : (b : Bool) → is_hidden m' z.node ≡ b → outer m' M' z ≡ outer m M z
      go true e = rw (e, sym same ∙ e, copy_join_kept z.node e)
      go false e = rw (e, sym same ∙ e)

-- Hidden nodes and marks are the same.

module _ {m : MultiPortGraph} {M : Model} (f : Fine m M) {g : PortGraph} {M' : Model} (good : Good M') (holds : Holds g M')
    (nodes : (c : ℕ) → is_hidden m c ≡ true → M'.node c ≡ M.node c)
    (mains : (c : ℕ) (x : model.InnerPlace) → is_hidden m c ≡ true → M.join (copy_place m c) ≡ to x → M'.node x.node ≡ M.node x.node)
    (joins : (c : ℕ) → is_hidden m c ≡ true → M'.join (copy_place m c) ≡ M.join (copy_place m c)) where
  pub plain_frame : Frame m M (with_graph m g) M'
  unfolding is_hidden is_split
  plain_frame =
      record {
        good = good;
        holds = holds;
        marks_long = f.marks_long;
        flags_long = f.flags_long;
        hid = λ c h. h;
        node = nodes;
        main = mains;
        join = joins;
        marked = λ c s h. ⊎_elim (λ e. subst (λ (t : ℕ). is_split m t ≡ true) e (f.copy_marked c h)) (λ r. subst (λ (t : ℕ). is_split m t ≡ true) r.2 (f.main_marked c r.0 h r.1));
        only = λ s h. h;
        stays = λ c s h e a. h;
        copies = f.copies;
        subs = f.subs ∙ total_same node_slots _ _ (λ n l. same n (is_hidden m n) refl);
      }
    where
      same : (n : ℕ) (b : Bool) → is_hidden m n ≡ b → subports_of_slot m M n ≡ subports_of_slot m M' n
      same n true e = rw (e, nodes n e)
      same n false e = rw e

-- the same graph with other tables below it: what is hidden and what is split
pub hidden_below : (m : MultiPortGraph) (g : PortGraph) (n : ℕ) → is_hidden (with_graph m g) n ≡ is_hidden m n
unfolding is_hidden
hidden_below m g n = refl

pub split_below : (m : MultiPortGraph) (g : PortGraph) (s : ℕ) → is_split (with_graph m g) s ≡ is_split m s
unfolding is_split
split_below m g s = refl

-- Ends and wires where a place's node, its being hidden and its mark are the same.

pub record Alike (m : MultiPortGraph) (M : Model) (m' : MultiPortGraph) (M' : Model) (z : model.InnerPlace) : Type 0 where
  pub node : M'.node z.node ≡ M.node z.node
  pub hidden : is_hidden m' z.node ≡ is_hidden m z.node
  pub split : is_hidden m z.node ≡ false → is_split m' (slot_of M.node z) ≡ is_split m (slot_of M.node z)

pub same_wire : {a b c d : Place} → a ≡ b → c ≡ d → ◌≡◌ {A = Wire} (record { out = a; into = c }) (record { out = b; into = d })
same_wire p q = λ i. record { out = p i; into = q i }

-- a wire is one of another graph where its places are linked, the first is an end, and both are seen from outside as they were
pub wire_again : {m : MultiPortGraph} {M : Model} {m' : MultiPortGraph} {M' : Model} {w : Wire} (e : WireIn m M w) → M'.join e.x ≡ to e.y → IsEnd m' M' e.x
    → outer m' M' e.x ≡ outer m M e.x → outer m' M' e.y ≡ outer m M e.y → WireIn m' M' w
wire_again e j end p q = record { x = e.x; y = e.y; joined = j; outgoing = e.outgoing; end = end; is = e.is ∙ same_wire (sym p) (sym q) }

module _ {m : MultiPortGraph} {M : Model} {m' : MultiPortGraph} {M' : Model} (f : Fine m M) (F : Frame m M m' M') where
  pub slot_alike : (z : model.InnerPlace) → Alike m M m' M' z → slot_of M'.node z ≡ slot_of M.node z
  slot_alike z a = ap (λ (s : Slots). model.first_of s + (model.side_start s z.side + z.pos)) a.node

  pub end_kept : (z : model.InnerPlace) → Alike m M m' M' z → IsEnd m M z → IsEnd m' M' z
  end_kept z a e =
      record {
        valid = subst (λ (s : Slots). z.pos < count_of s z.side) (sym a.node) e.valid;
        unsplit = λ h. let k : is_hidden m z.node ≡ false = sym a.hidden ∙ h in ap (is_split m') (slot_alike z a) ∙ (a.split k ∙ e.unsplit k);
        subport = λ h s. e.subport (F.hid z.node h) (s ∙ copy_side_kept f F z.node h);
      }

  pub kept_end : (z : model.InnerPlace) → Alike m M m' M' z → IsEnd m' M' z → IsEnd m M z
  kept_end z a e =
      record {
        valid = subst (λ (s : Slots). z.pos < count_of s z.side) a.node e.valid;
        unsplit = λ h. sym (a.split h) ∙ (ap (is_split m') (sym (slot_alike z a)) ∙ e.unsplit (a.hidden ∙ h));
        subport = λ h s. let k : is_hidden m' z.node ≡ true = a.hidden ∙ h in e.subport k (s ∙ sym (copy_side_kept f F z.node k));
      }

  pub wire_kept : (w : Wire) (e : WireIn m M w) → M'.join e.x ≡ to e.y → Alike m M m' M' e.x → is_hidden m' e.y.node ≡ is_hidden m e.y.node → WireIn m' M' w
  wire_kept w e j a b = wire_again e j (end_kept e.x a e.end) (outer_kept f F e.x a.hidden) (outer_kept f F e.y b)

  pub kept_wire : (w : Wire) (e : WireIn m' M' w) → M.join e.x ≡ to e.y → Alike m M m' M' e.x → is_hidden m' e.y.node ≡ is_hidden m e.y.node → WireIn m M w
  kept_wire w e j a b = wire_again e j (kept_end e.x a e.end) (sym (outer_kept f F e.x a.hidden)) (sym (outer_kept f F e.y b))
