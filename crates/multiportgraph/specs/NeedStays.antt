-- What a port's end needs depends on its mark, on whether it is linked, and on its hidden node alone: where these stay, so does the need.
use Rattle.std.specs.Prelude.{◌≡◌, Bool, Option, Some}
use Rattle.std.proofs.Math.Path.{refl, sym, ap}
use Rattle.std.proofs.Common.{◌∙◌, subst}
use Rattle.std.proofs.Math.Bool.{true, false, cond}
use Prim.Native.Nat.{ℕ, zero, suc, ◌+◌, ◌≤◌, ◌<◌}
use native.Mathlib.Omega.{arith}
use Rattle.port_tables.specs.Entries.{ports_on}
use Rattle.portgraph.specs.Lookups.{meta_at, port_in}
use Rattle.portgraph.specs.Model as model
use Rattle.portgraph.specs.Model.{Model, Far, nowhere, to, Slots, Valid, slot_of, count_of, first_of, side_start}
use Rattle.portgraph.specs.PlaceLaws.{meta_of_node}
use Rattle.port_tables.specs.declared.direction.Direction.{Direction}
use Rattle.port_tables.specs.declared.node_entry.NodeMeta.{NodeMeta}
use Rattle.multiportgraph.specs.Reading.{has_link, is_hidden, is_split, copy_node, port_of, port_number}
use Rattle.multiportgraph.specs.WellFormed.{inner#, copy_place, Fine, Seen}
use Rattle.multiportgraph.specs.Ends.{Hangs, hangs, split_has_copy, one_copy, port_of_lem, linked_is, unlinked_is}
use Rattle.multiportgraph.specs.Needs.{copy_need, need_of}
use Rattle.multiportgraph.specs.declared.multiportgraph.MultiPortGraph.{MultiPortGraph}
use Rattle.multiportgraph.specs.declared.needs.Need.TheVariants as need
use Rattle.multiportgraph.specs.HiddenNodes.{lowest_free}

-- both linked, or neither
abbrev pub Alike : Far → Far → Type 0
Alike nowhere nowhere = Unit {0}
Alike nowhere (to y) = ⊥
Alike (to y) nowhere = ⊥
Alike (to y) (to z) = Unit {0}

pub alike_same : (a b : Far) → a ≡ b → Alike a b
alike_same nowhere nowhere e = tt
alike_same nowhere (to y) e = let z : ◌≡◌ {A = ℕ} 0 1 = cc in absurd (omega arith)
alike_same (to y) nowhere e = let z : ◌≡◌ {A = ℕ} 0 1 = cc in absurd (omega arith)
alike_same (to y) (to z) e = tt

pub alike_linked : (a b : Far) (y z : model.InnerPlace) → a ≡ to y → b ≡ to z → Alike a b
alike_linked nowhere b y z e f = let k : ◌≡◌ {A = ℕ} 0 1 = cc in absurd (omega arith)
alike_linked (to w) nowhere y z e f = let k : ◌≡◌ {A = ℕ} 0 1 = cc in absurd (omega arith)
alike_linked (to w) (to v) y z e f = tt

-- the hidden node of the port at v stays, and which of its subports are linked
pub record CopyStays (m : MultiPortGraph) (M : Model) (m' : MultiPortGraph) (M' : Model) (v : model.InnerPlace) (h : Hangs m M v) : Type 0 where
  pub hid : is_hidden m' h.copy ≡ true
  pub from : M'.join (copy_place m' h.copy) ≡ to v
  pub node : M'.node h.copy ≡ M.node h.copy
  pub links : (i : ℕ) → i < count_of (M.node h.copy) v.side → Alike (M'.join (inner# h.copy v.side i)) (M.join (inner# h.copy v.side i))

module _ {m : MultiPortGraph} {M : Model} {m' : MultiPortGraph} {M' : Model} (f : Fine m M) (f' : Fine m' M') where
  link_alike : (x : model.InnerPlace) → Valid M.node x → Valid M'.node x → (a b : Far) → M'.join x ≡ a → M.join x ≡ b → Alike a b → has_link m'.graph (slot_of M'.node x) ≡ has_link m.graph (slot_of M.node x)
  link_alike x v v' nowhere nowhere e h k = unlinked_is f' x v' e ∙ sym (unlinked_is f x v h)
  link_alike x v v' nowhere (to y) e h k = absurd k
  link_alike x v v' (to y) nowhere e h k = absurd k
  link_alike x v v' (to y) (to z) e h k = linked_is f' x y e ∙ sym (linked_is f x z h)

  module _ (c : ℕ) (d : Direction) (node : M'.node c ≡ M.node c)
      (links : (i : ℕ) → i < count_of (M.node c) d → Alike (M'.join (inner# c d i)) (M.join (inner# c d i))) where
    valid_still : (i : ℕ) → i < count_of (M.node c) d → Valid M'.node (inner# c d i)
    valid_still i l = subst (λ (s : Slots). i < count_of s d) (sym node) l

    lowest_alike : (o n : ℕ) → o + n ≤ count_of (M.node c) d → lowest_free m'.graph c d o n ≡ lowest_free m.graph c d o n
    unfolding lowest_free
    lowest_alike o zero l = refl
    lowest_alike o (suc n) l =
        let v : o < count_of (M.node c) d = omega arith in
        let same : has_link m'.graph (port_of m'.graph c d o) ≡ has_link m.graph (port_of m.graph c d o) =
        ap (has_link m'.graph) (port_of_lem f' c d o (valid_still o v))
        ∙ (link_alike (inner# c d o) v (valid_still o v) _ _ refl refl (links o v) ∙ ap (has_link m.graph) (sym (port_of_lem f c d o v))) in
        λ i. cond (same i) (lowest_alike (suc o) n (omega arith) i) o

  module _ (v : model.InnerPlace) (sv : Seen m M v) (node : M'.node v.node ≡ M.node v.node) (mark : is_split m' (slot_of M.node v) ≡ is_split m (slot_of M.node v))
      (link : Alike (M'.join v) (M.join v)) (copy : (h : Hangs m M v) → CopyStays m M m' M' v h) where
    slot_still : slot_of M'.node v ≡ slot_of M.node v
    slot_still = ap (λ (s : Slots). first_of s + (side_start s v.side + v.pos)) node

    valid_there : Valid M'.node v
    valid_there = subst (λ (s : Slots). v.pos < count_of s v.side) (sym node) sv.0

    linked_still : has_link m'.graph (slot_of M.node v) ≡ has_link m.graph (slot_of M.node v)
    linked_still = ap (has_link m'.graph) (sym slot_still) ∙ link_alike v sv.0 valid_there _ _ refl refl link

    port_same : (c : ℕ) (k : NodeMeta) → meta_at m'.graph c ≡ Some k → meta_at m.graph c ≡ Some k → (d : Direction) (i : ℕ) → port_of m'.graph c d i ≡ port_of m.graph c d i
    unfolding port_of
    port_same c k e h d i = ap (λ (u : Option NodeMeta). port_number (port_in u (record { direction = d; index = i }))) (e ∙ sym h)

    copy_need_lem : is_split m (slot_of M.node v) ≡ true →
        copy_need m' v.side (copy_node m' (slot_of M.node v)) (meta_at m'.graph (copy_node m' (slot_of M.node v)))
        ≡ copy_need m v.side (copy_node m (slot_of M.node v)) (meta_at m.graph (copy_node m (slot_of M.node v)))
    copy_need_lem t =
        let h = split_has_copy f v sv t in
        let s = copy h in
        let c = h.copy in
        let h' = hangs f' c v s.hid s.from in
        let same : h'.copy ≡ c = one_copy f' h'.copy c v h'.from s.from in
        let is' : copy_node m' (slot_of M.node v) ≡ c = ap (copy_node m') (sym slot_still) ∙ (h'.copy_is ∙ same) in
        let k = f.copy c h.is_copy in
        let here = meta_of_node f.good f.holds c k.meta k.here in
        let here' = meta_of_node f'.good f'.holds c k.meta (s.node ∙ k.here) in
        let count : count_of (M.node c) v.side ≡ ports_on k.meta v.side = ap (λ (u : Slots). count_of u v.side) k.here in
        let low = lowest_alike c v.side s.node s.links 0 (ports_on k.meta v.side) (omega arith) in
        let port = port_same c k.meta here' here v.side (lowest_free m.graph c v.side 0 (ports_on k.meta v.side)) in
        rw (is', h.copy_is, here', here, low, port)

    pub need_alike : need_of m' (slot_of M.node v) v.side ≡ need_of m (slot_of M.node v) v.side
    unfolding need_of
    need_alike = go (is_split m (slot_of M.node v)) refl
      where
        go : (b : Bool) → is_split m (slot_of M.node v) ≡ b →
            cond (is_split m' (slot_of M.node v)) (copy_need m' v.side (copy_node m' (slot_of M.node v)) (meta_at m'.graph (copy_node m' (slot_of M.node v))))
            (cond (has_link m'.graph (slot_of M.node v)) need.Split (need.Ready (slot_of M.node v) 0))
            ≡ cond (is_split m (slot_of M.node v)) (copy_need m v.side (copy_node m (slot_of M.node v)) (meta_at m.graph (copy_node m (slot_of M.node v))))
            (cond (has_link m.graph (slot_of M.node v)) need.Split (need.Ready (slot_of M.node v) 0))
        go true t = rw (mark, t) (copy_need_lem t)
        go false t = rw (mark, t, linked_still)
