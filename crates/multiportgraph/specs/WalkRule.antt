-- The walk over all wires: the list of all wires ascends, the cursor gives it whole, and it has exactly the wires of the model,
-- each once. So it is known by the set of its wires.
use Rattle.std.proofs.lemmas.List.{length-map}
use Rattle.std.specs.Prelude.{◌≡◌, Bool, ◌⊎◌, ◌↔◌, eqb, ltb, length, Option, Some, None, Result, Ok, Err}
use Rattle.std.proofs.Math.Path.{refl, sym, ap, subst}
use Rattle.std.proofs.Common.{◌∙◌, ⊎_elim}
use Rattle.std.proofs.Math.Bool.{true, false, cond}
use mathlib.Core.List.{List, [], ◌∷◌, ◌++◌, append_assoc, map}
use Rattle.std.proofs.Math.Logic.{inl, inr}
use Prim.Native.Nat.{ℕ, zero, suc, ◌-◌, ◌≤◌, ◌<◌}
use native.Mathlib.Omega.{arith}
use borrow.Author.Tests.{lt-ltb, le-ltb, eq-eqb, ne_eqb}
use Rattle.port_tables.specs.Limits.{node_slots, port_slots}
use Rattle.port_tables.specs.Lists.{range, Member, Once, Rising}
use Rattle.std.specs.List.{filter}
use Rattle.portgraph.specs.Lookups.{num_ports, contains_node, is_some, meta_at}
use Rattle.portgraph.specs.Model as model
use Rattle.portgraph.specs.Model.{Model, Far, nowhere, to, Valid, slot_of, count_of}
use Rattle.portgraph.specs.GoodSlots.{zero_is_not_one, slot_in_block, slot_in_range, slots_apart, node_below}
use Rattle.portgraph.specs.PlaceLaws.{port_link_to, port_link_none, meta_of_node}
use Rattle.port_tables.specs.declared.direction.Direction.{Direction}
use Rattle.port_tables.specs.declared.direction.Direction.TheVariants.{Outgoing}
use Rattle.multiportgraph.specs.Reading.{owner_of, port_of, is_hidden, is_split, seen, subports, end_at, subport_of, standing_of, link_of_end}
use Rattle.multi_tables.specs.Forms.{visible, End, inner, lacking, subport#, wire_to}
use Rattle.multiportgraph.specs.Wires.{is_block, blocks, ports_of_side, subports_of_port, subports_of_side, wire_of, side_links, all_wires, is_beyond, first_item, wires_beyond, step_wires, start_wires, Walked, walked_on, walk_by, walk_wires, place_of, wire_places, long_walk, walked, wires_walked, held_at}
use Rattle.multiportgraph.specs.WellFormed.{inner#, copy_place, Fine, Seen, lift, outer, IsEnd, WireIn}
use Rattle.port_tables.specs.Listing.{Apart, member_right, member_flat_map, flat_map_member, member_map, map_member, member_filter, filter_member, member_range, range_member, filter_flat_map, flat_map_beyond, filter_rest, rising_by_items, rising_filter, rising_flat_map, rising_map, range_rises, apart_below, rising_once, numbers_apart}
use Rattle.multiportgraph.specs.Ends.{Hangs, ends_join_ends, place_of_sub, subport_of_lem, main_side, owner_of_lem, port_of_lem, count_of_lem, seen_block, main_seen, end_side, split_has_copy, one_copy, outer_of_block, unsplit_is_end}
use Rattle.multiportgraph.specs.declared.multiportgraph.MultiPortGraph.{MultiPortGraph}
use Rattle.multi_tables.specs.declared.answers.SubportIndex.{SubportIndex}
use Rattle.multi_tables.specs.declared.answers.SubportLink.{SubportLink}
use Rattle.multiportgraph.specs.declared.iter.Wires.{Wires}
use Rattle.port_tables.specs.Places.{Place, Wire}
use Rattle.multi_tables.specs.declared.answers.Refusal.{Refusal}
use Rattle.multi_tables.specs.declared.answers.PortPlace.{PortPlace}
use Rattle.multiportgraph.specs.ScanLaws.{wire_stands, subport_stands}

-- a listed subport: the port x of a block that it stands at, and the end z that it is
pub record SubportIs (m : MultiPortGraph) (M : Model) (x z : model.InnerPlace) (s : SubportIndex) : Type 0 where
  pub is_seen : Seen m M x
  pub slot : slot_of M.node x ≡ s.port.0
  pub end : IsEnd m M z
  pub side : z.side ≡ Outgoing
  pub is_outer : outer m M z ≡ lift x s.subport_offset
  pub read : end_at m s.port.0 Outgoing s.subport_offset ≡ inner (slot_of M.node z)

-- a listed subport, by its block, position and end
pub record ListedIs (m : MultiPortGraph) (M : Model) (n : ℕ) (s : SubportIndex) : Type 0 where
  pub pos : ℕ
  pub z : model.InnerPlace
  pub is : SubportIs m M (inner# n Outgoing pos) z s

-- an end, by its block and the subport listed there
pub record EndListed (m : MultiPortGraph) (M : Model) (z : model.InnerPlace) : Type 0 where
  pub node : ℕ
  pub pos : ℕ
  pub subport : SubportIndex
  pub block : Member node (blocks m)
  pub listed : Member subport (subports_of_side m node Outgoing)
  pub is : SubportIs m M (inner# node Outgoing pos) z subport

-- a listed wire, by its block and the link between its ends
pub record WireListed (m : MultiPortGraph) (M : Model) (n : ℕ) (w : SubportLink) : Type 0 where
  pub pos : ℕ
  pub z : model.InnerPlace
  pub y : model.InnerPlace
  pub start : SubportIs m M (inner# n Outgoing pos) z w.from
  pub joined : M.join z ≡ to y
  pub far : w.to ≡ subport_of m (slot_of M.node y)

-- Order: by three numbers, the first one first.

abbrev pub Lex : ℕ → ℕ → ℕ → ℕ → ℕ → ℕ → Type 0
Lex a b c a' b' c' = (a < a') ⊎ ((a ≡ a') × ((b < b') ⊎ ((b ≡ b') × (c < c'))))

lex_asym : (a b c a' b' c' : ℕ) → Lex a b c a' b' c' → Lex a' b' c' a b c → ⊥
lex_asym a b c a' b' c' (inl p) (inl q) = omega arith
lex_asym a b c a' b' c' (inl p) (inr q) = let r = q.0 in omega arith
lex_asym a b c a' b' c' (inr p) (inl q) = let r = p.0 in omega arith
lex_asym a b c a' b' c' (inr p) (inr q) = go p.1 q.1
  where
    go : (b < b') ⊎ ((b ≡ b') × (c < c')) → (b' < b) ⊎ ((b' ≡ b) × (c' < c)) → ⊥
    go (inl h) (inl k) = omega arith
    go (inl h) (inr k) = let r = k.0 in omega arith
    go (inr h) (inl k) = let r = h.0 in omega arith
    go (inr h) (inr k) = let r = h.1 in let t = k.1 in omega arith

-- subports by node, port, offset
abbrev Ahead : MultiPortGraph → SubportIndex → SubportIndex → Type 0
Ahead m s t =
    Lex (owner_of m.graph s.port.0) s.port.0 s.subport_offset (owner_of m.graph t.port.0) t.port.0 t.subport_offset

-- listed wires by their first ends
abbrev Before : MultiPortGraph → SubportLink → SubportLink → Type 0
Before m v w = Ahead m v.from w.from

-- wires by node, position and offset of their outgoing ends
abbrev pub Earlier : Wire → Wire → Type 0
Earlier v w = Lex v.out.node v.out.pos v.out.offset w.out.node w.out.pos w.out.offset

-- a subport has one wire or none, from itself
pub wire_rises : (R : SubportLink → SubportLink → Type 0) (m : MultiPortGraph) (d : Direction) (s : SubportIndex) → Rising R (wire_of m d s)
unfolding wire_of
wire_rises R m d s = go (link_of_end m s.port.0 (end_at m s.port.0 d s.subport_offset))
  where
    go : (a : Result (Option (SubportIndex × PortPlace)) Refusal) → Rising R (wire_to s a)
    go (Ok (Some (t, x))) = ((λ y i. absurd i), tt)
    go (Ok None) = tt
    go (Err r) = tt

subports_rise : (m : MultiPortGraph) (p : ℕ) → Rising (Ahead m) (subports_of_port m Outgoing p)
unfolding subports_of_port
subports_rise m p = go (is_split m p)
  where
    go : (b : Bool) → Rising (Ahead m) (cond b (map (subport# p) (range 0 (subports m p Outgoing))) (subport# p 0 ∷ []))
    go true =
        rising_map ◌<◌ (Ahead m) (subport# p) (range 0 (subports m p Outgoing)) (range_rises 0 (subports m p Outgoing))
        (λ a c h k l. inr (refl, inr (refl, l)))
    go false = ((λ y i. absurd i), tt)

-- a wire beyond a node, port and offset
abbrev is_after : MultiPortGraph → ℕ → ℕ → ℕ → SubportLink → Bool
is_after m n p o v = cond (eqb (owner_of m.graph v.from.port.0) n) (is_beyond p o v) (ltb n (owner_of m.graph v.from.port.0))

-- the test answers as the order does
module _ (m : MultiPortGraph) (w : SubportLink) where
  abbrev after : SubportLink → Bool
  after = is_after m (owner_of m.graph w.from.port.0) w.from.port.0 w.from.subport_offset

  not_after_itself : after w ≡ false
  unfolding is_beyond
  not_after_itself =
      rw (
        eq-eqb (owner_of m.graph w.from.port.0) (owner_of m.graph w.from.port.0) refl,
        eq-eqb w.from.port.0 w.from.port.0 refl,
        le-ltb w.from.subport_offset w.from.subport_offset (omega arith),
      )

  after_where_ahead : (v : SubportLink) → Before m w v → after v ≡ true
  unfolding is_beyond
  after_where_ahead v (inl h) =
      rw (
        ne_eqb (owner_of m.graph v.from.port.0) (owner_of m.graph w.from.port.0) (λ e. omega arith),
        lt-ltb (owner_of m.graph w.from.port.0) (owner_of m.graph v.from.port.0) h,
      )
  after_where_ahead v (inr h) = rw (eq-eqb (owner_of m.graph v.from.port.0) (owner_of m.graph w.from.port.0) (sym h.0)) (go h.1)
    where
      go : (w.from.port.0 < v.from.port.0) ⊎ ((w.from.port.0 ≡ v.from.port.0) × (w.from.subport_offset < v.from.subport_offset)) →
          cond (eqb v.from.port.0 w.from.port.0) (ltb w.from.subport_offset v.from.subport_offset) (ltb w.from.port.0 v.from.port.0) ≡ true
      go (inl l) = rw (ne_eqb v.from.port.0 w.from.port.0 (λ e. omega arith), lt-ltb w.from.port.0 v.from.port.0 l)
      go (inr l) = rw (eq-eqb v.from.port.0 w.from.port.0 (sym l.0), lt-ltb w.from.subport_offset v.from.subport_offset l.1)

  not_after_where_behind : (v : SubportLink) → Before m v w → after v ≡ false
  unfolding is_beyond
  not_after_where_behind v (inl h) =
      rw (
        ne_eqb (owner_of m.graph v.from.port.0) (owner_of m.graph w.from.port.0) (λ e. omega arith),
        le-ltb (owner_of m.graph w.from.port.0) (owner_of m.graph v.from.port.0) (omega arith),
      )
  not_after_where_behind v (inr h) = rw (eq-eqb (owner_of m.graph v.from.port.0) (owner_of m.graph w.from.port.0) h.0) (go h.1)
    where
      go : (v.from.port.0 < w.from.port.0) ⊎ ((v.from.port.0 ≡ w.from.port.0) × (v.from.subport_offset < w.from.subport_offset)) →
          cond (eqb v.from.port.0 w.from.port.0) (ltb w.from.subport_offset v.from.subport_offset) (ltb w.from.port.0 v.from.port.0) ≡ false
      go (inl l) = rw (ne_eqb v.from.port.0 w.from.port.0 (λ e. omega arith), le-ltb w.from.port.0 v.from.port.0 (omega arith))
      go (inr l) = let k = l.1 in rw (eq-eqb v.from.port.0 w.from.port.0 l.0, le-ltb w.from.subport_offset v.from.subport_offset (omega arith))

-- the cursor after a wire
abbrev cursor_at : SubportLink → Wires
cursor_at w = record { held = held_at w.from }

abbrev whole : List SubportLink → Walked
whole l = record { items = l; ended = true }

-- the inner port of an end
abbrev end_number : End → ℕ
end_number (inner q) = q
end_number lacking = 0

-- a fact of outgoing places
by_outgoing : (P : model.InnerPlace → Type 0) → ((n i : ℕ) → P (inner# n Outgoing i)) → (x : model.InnerPlace) → x.side ≡ Outgoing → P x
by_outgoing P h x e = subst (λ (d : Direction). P (inner# x.node d x.pos)) (sym e) (h x.node x.pos)

pub blocks_rise : (m : MultiPortGraph) → Rising ◌<◌ (blocks m)
unfolding blocks
blocks_rise m = rising_filter ◌<◌ (is_block m) (range 0 node_slots) (range_rises 0 node_slots)

pub blocks_are_few : (m : MultiPortGraph) → length (blocks m) ≤ node_slots
unfolding blocks
blocks_are_few m =
    apart_below node_slots (blocks m) (numbers_apart (blocks m) (blocks_rise m))
    (λ n i. let k = member_range n 0 node_slots (member_filter (is_block m) n (range 0 node_slots) i).0 in omega arith)

module _ {m : MultiPortGraph} {M : Model} (f : Fine m M) where
  -- Blocks.

  block_is : (n : ℕ) → Member n (blocks m) → is_hidden m n ≡ false
  unfolding blocks is_block
  block_is n i = go (is_hidden m n) refl (member_filter (is_block m) n (range 0 node_slots) i).1
    where
      go : (b : Bool) → is_hidden m n ≡ b → cond b false (contains_node m.graph n) ≡ true → b ≡ false
      go true e h = absurd (zero_is_not_one (cc))
      go false e h = refl

  block_listed : (x : model.InnerPlace) → Seen m M x → Member x.node (blocks m)
  unfolding blocks is_block
  block_listed x s =
      let r = slot_in_block f.good x s.0 in
      let u = node_below f.good x.node r.0 r.1 in
      let t : is_some (meta_at m.graph x.node) ≡ true = rw (meta_of_node f.good f.holds x.node r.0 r.1) refl in
      filter_member (is_block m) x.node (range 0 node_slots) (range_member x.node 0 node_slots (omega arith) (omega arith)) (rw s.1 t)

  -- Ports of a block's outgoing side.

  port_is : (n p : ℕ) → Member p (ports_of_side m Outgoing n) → (i : ℕ) × Valid M.node (inner# n Outgoing i) × (p ≡ slot_of M.node (inner# n Outgoing i))
  unfolding ports_of_side
  port_is n p h =
      let r = member_map (port_of m.graph n Outgoing) p (range 0 (num_ports m.graph n Outgoing)) h in
      let b = member_range r.0 0 (num_ports m.graph n Outgoing) r.1 in
      let c = count_of_lem f n Outgoing in
      let v : Valid M.node (inner# n Outgoing r.0) = omega arith in
      (r.0, v, r.2 ∙ port_of_lem f n Outgoing r.0 v)

  port_listed : (n i : ℕ) → Valid M.node (inner# n Outgoing i) → Member (slot_of M.node (inner# n Outgoing i)) (ports_of_side m Outgoing n)
  unfolding ports_of_side
  port_listed n i v =
      let c = count_of_lem f n Outgoing in
      subst (λ (p : ℕ). Member p (map (port_of m.graph n Outgoing) (range 0 (num_ports m.graph n Outgoing)))) (port_of_lem f n Outgoing i v)
      (map_member (port_of m.graph n Outgoing) i (range 0 (num_ports m.graph n Outgoing)) (range_member i 0 (num_ports m.graph n Outgoing) (omega arith) (omega arith)))

  ports_rise : (n : ℕ) → Rising ◌<◌ (ports_of_side m Outgoing n)
  unfolding ports_of_side
  ports_rise n =
      rising_map ◌<◌ ◌<◌ (port_of m.graph n Outgoing) (range 0 (num_ports m.graph n Outgoing)) (range_rises 0 (num_ports m.graph n Outgoing))
      (λ i j h k l.
      let c = count_of_lem f n Outgoing in
      let a = member_range i 0 (num_ports m.graph n Outgoing) h in
      let b = member_range j 0 (num_ports m.graph n Outgoing) k in
      let p = port_of_lem f n Outgoing i (omega arith) in
      let q = port_of_lem f n Outgoing j (omega arith) in
      omega arith)

  -- Subports of a port.

  -- an unsplit port is its only subport
  plain_is : (n i : ℕ) → Seen m M (inner# n Outgoing i) → is_split m (slot_of M.node (inner# n Outgoing i)) ≡ false →
      SubportIs m M (inner# n Outgoing i) (inner# n Outgoing i) (subport# (slot_of M.node (inner# n Outgoing i)) 0)
  unfolding end_at
  plain_is n i s e =
      record {
        is_seen = s;
        slot = refl;
        end = unsplit_is_end f (inner# n Outgoing i) s e;
        side = refl;
        is_outer = outer_of_block f (inner# n Outgoing i) s.1;
        read = rw e;
      }

  -- a split port has those of its hidden node
  split_is : (n i : ℕ) → Seen m M (inner# n Outgoing i) → is_split m (slot_of M.node (inner# n Outgoing i)) ≡ true →
      (h : Hangs m M (inner# n Outgoing i)) (o : ℕ) → o < count_of (M.node h.copy) Outgoing →
      SubportIs m M (inner# n Outgoing i) (inner# h.copy Outgoing o) (subport# (slot_of M.node (inner# n Outgoing i)) o)
  unfolding end_at
  split_is n i s e h o b =
      let c : subports m (slot_of M.node (inner# n Outgoing i)) Outgoing ≡ count_of (M.node h.copy) Outgoing = h.count in
      record {
        is_seen = s;
        slot = refl;
        end = h.ends o b;
        side = refl;
        is_outer = h.outers o;
        read = rw (e, lt-ltb o (subports m (slot_of M.node (inner# n Outgoing i)) Outgoing) (omega arith)) (ap inner (h.reads o b));
      }

  subport_is : (n i : ℕ) → Seen m M (inner# n Outgoing i) → (s : SubportIndex) →
      Member s (subports_of_port m Outgoing (slot_of M.node (inner# n Outgoing i))) → ListedIs m M n s
  unfolding subports_of_port
  subport_is n i x s = go (is_split m p) refl
    where
      p : ℕ
      p = slot_of M.node (inner# n Outgoing i)

      go : (b : Bool) → is_split m p ≡ b → Member s (cond b (map (subport# p) (range 0 (subports m p Outgoing))) (subport# p 0 ∷ [])) → ListedIs m M n s
      go true e j =
          let h = split_has_copy f (inner# n Outgoing i) x e in
          let r = member_map (subport# p) s (range 0 (subports m p Outgoing)) j in
          let b = member_range r.0 0 (subports m p Outgoing) r.1 in
          let c : subports m p Outgoing ≡ count_of (M.node h.copy) Outgoing = h.count in
          record {
            pos = i;
            z = inner# h.copy Outgoing r.0;
            is = subst (λ (t : SubportIndex). SubportIs m M (inner# n Outgoing i) (inner# h.copy Outgoing r.0) t) (sym r.2) (split_is n i x e h r.0 (omega arith));
          }
      go false e (inl j) =
          record {
            pos = i;
            z = inner# n Outgoing i;
            is = subst (λ (t : SubportIndex). SubportIs m M (inner# n Outgoing i) (inner# n Outgoing i) t) (sym j) (plain_is n i x e);
          }
      go false e (inr j) = absurd j

  plain_listed : (n i : ℕ) → is_split m (slot_of M.node (inner# n Outgoing i)) ≡ false →
      Member (subport# (slot_of M.node (inner# n Outgoing i)) 0) (subports_of_port m Outgoing (slot_of M.node (inner# n Outgoing i)))
  unfolding subports_of_port
  plain_listed n i e = rw e (inl refl)

  split_listed : (n i : ℕ) → is_split m (slot_of M.node (inner# n Outgoing i)) ≡ true → (h : Hangs m M (inner# n Outgoing i)) (o : ℕ) → o < count_of (M.node h.copy) Outgoing →
      Member (subport# (slot_of M.node (inner# n Outgoing i)) o) (subports_of_port m Outgoing (slot_of M.node (inner# n Outgoing i)))
  unfolding subports_of_port
  split_listed n i e h o b =
      let c : subports m (slot_of M.node (inner# n Outgoing i)) Outgoing ≡ count_of (M.node h.copy) Outgoing = h.count in
      rw e
      (map_member (subport# (slot_of M.node (inner# n Outgoing i))) o (range 0 (subports m (slot_of M.node (inner# n Outgoing i)) Outgoing))
      (range_member o 0 (subports m (slot_of M.node (inner# n Outgoing i)) Outgoing) (omega arith) (omega arith)))

  -- Subports of a block's outgoing side: all of them are ends, and every outgoing end is one of them.

  side_is : (n : ℕ) → Member n (blocks m) → (s : SubportIndex) → Member s (subports_of_side m n Outgoing) → ListedIs m M n s
  unfolding subports_of_side
  side_is n b s h =
      let r = member_flat_map (subports_of_port m Outgoing) s (ports_of_side m Outgoing n) h in
      let q = port_is n r.0 r.1 in
      subport_is n q.0 (q.1, block_is n b) s (subst (λ (p : ℕ). Member s (subports_of_port m Outgoing p)) q.2 r.2)

  side_listed : (n i : ℕ) → Seen m M (inner# n Outgoing i) → (s : SubportIndex) → Member s (subports_of_port m Outgoing (slot_of M.node (inner# n Outgoing i))) →
      (z : model.InnerPlace) → SubportIs m M (inner# n Outgoing i) z s → EndListed m M z
  unfolding subports_of_side
  side_listed n i x s h z e =
      record {
        node = n;
        pos = i;
        subport = s;
        block = block_listed (inner# n Outgoing i) x;
        listed = flat_map_member (subports_of_port m Outgoing) s (slot_of M.node (inner# n Outgoing i)) (ports_of_side m Outgoing n) (port_listed n i x.0) h;
        is = e;
      }

  subport_listed : (c o : ℕ) → IsEnd m M (inner# c Outgoing o) → is_hidden m c ≡ true → (x : model.InnerPlace) → x.side ≡ Outgoing → M.join (copy_place m c) ≡ to x → EndListed m M (inner# c Outgoing o)
  subport_listed c o e t =
      by_outgoing (λ x. M.join (copy_place m c) ≡ to x → EndListed m M (inner# c Outgoing o))
      (λ n i j.
      let s = main_seen f c (inner# n Outgoing i) t j in
      let k = f.main_marked c (inner# n Outgoing i) t j in
      let h = split_has_copy f (inner# n Outgoing i) s k in
      let p : h.copy ≡ c = one_copy f h.copy c (inner# n Outgoing i) h.from j in
      let b : o < count_of (M.node h.copy) Outgoing = subst (λ (d : ℕ). o < count_of (M.node d) Outgoing) (sym p) e.valid in
      side_listed n i s (subport# (slot_of M.node (inner# n Outgoing i)) o) (split_listed n i k h o b) (inner# c Outgoing o)
      (subst (λ (d : ℕ). SubportIs m M (inner# n Outgoing i) (inner# d Outgoing o) (subport# (slot_of M.node (inner# n Outgoing i)) o)) p (split_is n i s k h o b)))

  end_listed : (z : model.InnerPlace) → z.side ≡ Outgoing → IsEnd m M z → EndListed m M z
  end_listed =
      by_outgoing (λ z. IsEnd m M z → EndListed m M z) (λ c o e. go c o e (is_hidden m c) refl)
    where
      go : (c o : ℕ) → IsEnd m M (inner# c Outgoing o) → (b : Bool) → is_hidden m c ≡ b → EndListed m M (inner# c Outgoing o)
      go c o e true t =
          let k = f.copy c t in
          subport_listed c o e t k.main (main_side f c k.main k.joined ∙ sym (end_side f (inner# c Outgoing o) e t)) k.joined
      go c o e false t =
          side_listed c o (e.valid, t) (subport# (slot_of M.node (inner# c Outgoing o)) 0) (plain_listed c o (e.unsplit t)) (inner# c Outgoing o)
          (plain_is c o (e.valid, t) (e.unsplit t))

  -- Wires.

  wire_there : (x z y : model.InnerPlace) (s : SubportIndex) → SubportIs m M x z s → M.join z ≡ to y →
      wire_of m Outgoing s ≡ record { from = s; to = subport_of m (slot_of M.node y); place = standing_of m (slot_of M.node y) } ∷ []
  unfolding wire_of
  wire_there x z y s e j = rw (e.read, port_link_to f.good f.holds z y e.end.valid j) refl

  no_wire_there : (x z : model.InnerPlace) (s : SubportIndex) → SubportIs m M x z s → M.join z ≡ nowhere → wire_of m Outgoing s ≡ []
  unfolding wire_of
  no_wire_there x z s e j = rw (e.read, port_link_none f.good f.holds z e.end.valid j) refl

  side_wire : (n : ℕ) → Member n (blocks m) → (w : SubportLink) → Member w (side_links m Outgoing n) → WireListed m M n w
  unfolding side_links
  side_wire n b w h = go (M.join r.z) refl
    where
      g : (s : SubportIndex) × Member s (subports_of_side m n Outgoing) × Member w (wire_of m Outgoing s)
      g = member_flat_map (wire_of m Outgoing) w (subports_of_side m n Outgoing) h

      r : ListedIs m M n g.0
      r = side_is n b g.0 g.1

      go : (y : Far) → M.join r.z ≡ y → WireListed m M n w
      go nowhere e = absurd (subst (λ (l : List SubportLink). Member w l) (no_wire_there (inner# n Outgoing r.pos) r.z g.0 r.is e) g.2)
      go (to y) e =
          let k = subst (λ (l : List SubportLink). Member w l) (wire_there (inner# n Outgoing r.pos) r.z y g.0 r.is e) g.2 in
          let q : w ≡ record { from = g.0; to = subport_of m (slot_of M.node y); place = standing_of m (slot_of M.node y) } = ⊎_elim (λ a. a) (λ a. absurd a) k in
          record {
            pos = r.pos;
            z = r.z;
            y = y;
            start = subst (λ (s : SubportIndex). SubportIs m M (inner# n Outgoing r.pos) r.z s) (sym (ap (λ (v : SubportLink). v.from) q)) r.is;
            joined = e;
            far = ap (λ (v : SubportLink). v.to) q;
          }

  wire_is : (w : SubportLink) → Member w (all_wires m) → (n : ℕ) × Member n (blocks m) × WireListed m M n w
  unfolding all_wires
  wire_is w i =
      let g = member_flat_map (side_links m Outgoing) w (blocks m) i in
      (g.0, g.1, side_wire g.0 g.1 w g.2)

  -- a listed wire, as places
  place_of_first : (n : ℕ) (w : SubportLink) (l : WireListed m M n w) → place_of m w.from ≡ lift (inner# n Outgoing l.pos) w.from.subport_offset
  place_of_first n w l =
      ap (λ (p : ℕ). place_of m (subport# p w.from.subport_offset)) (sym l.start.slot)
      ∙ place_of_sub f (inner# n Outgoing l.pos) w.from.subport_offset l.start.is_seen

  wire_places_lem : (n : ℕ) (w : SubportLink) (l : WireListed m M n w) → wire_places m w ≡ record { out = outer m M l.z; into = outer m M l.y }
  wire_places_lem n w l =
      let a : place_of m w.from ≡ outer m M l.z = place_of_first n w l ∙ sym l.start.is_outer in
      let b : place_of m w.to ≡ outer m M l.y =
      ap (place_of m) l.far ∙ subport_of_lem f l.y (ends_join_ends f l.z l.y l.start.end l.joined) in
      λ i. record { out = a i; into = b i }

  -- every link between ends is listed
  join_listed : (z y : model.InnerPlace) → z.side ≡ Outgoing → IsEnd m M z → M.join z ≡ to y →
      (w : SubportLink) × Member w (all_wires m) × (wire_places m w ≡ record { out = outer m M z; into = outer m M y })
  unfolding all_wires side_links
  join_listed z y d e j =
      let r = end_listed z d e in
      let w : SubportLink = record { from = r.subport; to = subport_of m (slot_of M.node y); place = standing_of m (slot_of M.node y) } in
      let k : Member w (wire_of m Outgoing r.subport) = rw (wire_there (inner# r.node Outgoing r.pos) z y r.subport r.is j) (inl refl) in (
        w,
        flat_map_member (side_links m Outgoing) w r.node (blocks m) r.block (flat_map_member (wire_of m Outgoing) w r.subport (subports_of_side m r.node Outgoing) r.listed k),
        wire_places_lem r.node w (record { pos = r.pos; z = z; y = y; start = r.is; joined = j; far = refl }),
      )

  pub listed_is_wire : (w : Wire) → Member w (map (wire_places m) (all_wires m)) → WireIn m M w
  listed_is_wire w i =
      let g = member_map (wire_places m) w (all_wires m) i in
      let r = wire_is g.0 g.1 in
      let l = r.2 in
      record {
        x = l.z;
        y = l.y;
        joined = l.joined;
        outgoing = l.start.side;
        end = l.start.end;
        is = g.2 ∙ wire_places_lem r.0 g.0 l;
      }

  pub wire_is_listed : (w : Wire) → WireIn m M w → Member w (map (wire_places m) (all_wires m))
  wire_is_listed w h =
      let r = join_listed h.x h.y h.outgoing h.end h.joined in
      let e : wire_places m r.0 ≡ w = r.2 ∙ sym h.is in
      subst (λ (v : Wire). Member v (map (wire_places m) (all_wires m))) e (map_member (wire_places m) r.0 (all_wires m) r.1)

  -- The listing ascends.

  owner_is : (n : ℕ) (s : SubportIndex) → ListedIs m M n s → owner_of m.graph s.port.0 ≡ n
  owner_is n s l =
      ap (owner_of m.graph) (sym l.is.slot) ∙ owner_of_lem f (inner# n Outgoing l.pos) l.is.is_seen.0

  owner_of_wire : (n : ℕ) (w : SubportLink) → WireListed m M n w → owner_of m.graph w.from.port.0 ≡ n
  owner_of_wire n w l = owner_is n w.from (record { pos = l.pos; z = l.z; is = l.start })

  owner_of_port : (n p : ℕ) → Member p (ports_of_side m Outgoing n) → owner_of m.graph p ≡ n
  owner_of_port n p i =
      let r = port_is n p i in
      ap (owner_of m.graph) r.2 ∙ owner_of_lem f (inner# n Outgoing r.0) r.1

  side_subports_rise : (n : ℕ) → Rising (Ahead m) (subports_of_side m n Outgoing)
  unfolding subports_of_side
  side_subports_rise n =
      rising_flat_map ◌<◌ (Ahead m) (subports_of_port m Outgoing) (ports_of_side m Outgoing n) (ports_rise n) (λ p i. subports_rise m p)
      (λ p q s t i j l h k.
      let a = subport_stands m Outgoing p s h in
      let b = subport_stands m Outgoing q t k in
      let c = owner_of_port n p i in
      let d = owner_of_port n q j in
      inr ((cc), inl (omega arith)))

  side_rises : (n : ℕ) → Rising (Before m) (side_links m Outgoing n)
  unfolding side_links
  side_rises n =
      rising_flat_map (Ahead m) (Before m) (wire_of m Outgoing) (subports_of_side m n Outgoing) (side_subports_rise n) (λ s i. wire_rises (Before m) m Outgoing s)
      (λ s t v w i j l h k. rw (wire_stands m Outgoing s v h, wire_stands m Outgoing t w k) l)

  wires_rise : Rising (Before m) (all_wires m)
  unfolding all_wires
  wires_rise =
      rising_flat_map ◌<◌ (Before m) (side_links m Outgoing) (blocks m) (blocks_rise m) (λ n i. side_rises n)
      (λ n k v w i j l a b.
      let c = owner_of_wire n v (side_wire n i v a) in
      let d = owner_of_wire k w (side_wire k j w b) in
      inl (omega arith))

  -- so do the places
  by_place : (n k i j o r : ℕ) → Lex n (slot_of M.node (inner# n Outgoing i)) o k (slot_of M.node (inner# k Outgoing j)) r → Lex n i o k j r
  by_place n k i j o r (inl h) = inl h
  by_place n k i j o r (inr h) = inr (h.0, go h.1)
    where
      q : slot_of M.node (inner# k Outgoing j) ≡ slot_of M.node (inner# n Outgoing j)
      q = ap (λ (c : ℕ). slot_of M.node (inner# c Outgoing j)) (sym h.0)

      go : (slot_of M.node (inner# n Outgoing i) < slot_of M.node (inner# k Outgoing j)) ⊎ ((slot_of M.node (inner# n Outgoing i) ≡ slot_of M.node (inner# k Outgoing j)) × (o < r)) →
          (i < j) ⊎ ((i ≡ j) × (o < r))
      go (inl l) = let e = q in inl (omega arith)
      go (inr l) = let e = q in let d = l.0 in inr (omega arith, l.1)

  earlier : (n k : ℕ) (v w : SubportLink) → WireListed m M n v → WireListed m M k w → Before m v w → Earlier (wire_places m v) (wire_places m w)
  earlier n k v w a b l =
      rw (place_of_first n v a, place_of_first k w b)
      (by_place n k a.pos b.pos v.from.subport_offset w.from.subport_offset
      (rw (owner_of_wire n v a, owner_of_wire k w b, ← a.start.slot, ← b.start.slot) at l))

  places_rise : Rising Earlier (map (wire_places m) (all_wires m))
  places_rise =
      rising_map (Before m) Earlier (wire_places m) (all_wires m) wires_rise
      (λ v w i j l. let a = wire_is v i in let b = wire_is w j in earlier a.0 b.0 v w a.2 b.2 l)

  pub listed_once : Once (map (wire_places m) (all_wires m))
  listed_once = rising_once Earlier (λ w h. lex_asym _ _ _ _ _ _ h h) (map (wire_places m) (all_wires m)) places_rise

  -- The cursor.

  beyond_is : (n : ℕ) → Member n (blocks m) → (p o : ℕ) → wires_beyond m n p o ≡ filter (is_after m n p o) (all_wires m)
  unfolding wires_beyond all_wires
  beyond_is n i p o =
      sym
      (filter_flat_map (is_after m n p o) (side_links m Outgoing) (blocks m)
      ∙ flat_map_beyond (side_links m Outgoing) n (is_after m n p o) (is_beyond p o) (blocks m) (blocks_rise m) i
      (λ k j l v h.
      let e = owner_of_wire k v (side_wire k j v h) in
      rw (ne_eqb (owner_of m.graph v.from.port.0) n (λ q. omega arith), le-ltb n (owner_of m.graph v.from.port.0) (omega arith)))
      (λ k j l v h.
      let e = owner_of_wire k v (side_wire k j v h) in
      rw (eq-eqb (owner_of m.graph v.from.port.0) n (omega arith)) refl)
      (λ k j l v h.
      let e = owner_of_wire k v (side_wire k j v h) in
      rw (ne_eqb (owner_of m.graph v.from.port.0) n (λ q. omega arith), lt-ltb n (owner_of m.graph v.from.port.0) (omega arith))))

  -- beyond a listed wire stands the rest of the list
  beyond_is_rest : (a : List SubportLink) (w : SubportLink) (rest : List SubportLink) → all_wires m ≡ a ++ (w ∷ rest) → (n : ℕ) → Member n (blocks m) → WireListed m M n w →
      wires_beyond m n w.from.port.0 w.from.subport_offset ≡ rest
  beyond_is_rest a w rest e n i l =
      beyond_is n i w.from.port.0 w.from.subport_offset
      ∙ (ap (λ (k : ℕ). filter (is_after m k w.from.port.0 w.from.subport_offset) (all_wires m)) (sym (owner_of_wire n w l))
      ∙ (ap (filter (after m w)) e
      ∙ filter_rest (Before m) (after m w) w (not_after_itself m w) (after_where_ahead m w) (not_after_where_behind m w) a rest (subst (Rising (Before m)) e wires_rise)))

  step_after : (a : List SubportLink) (w : SubportLink) (rest : List SubportLink) → all_wires m ≡ a ++ (w ∷ rest) → step_wires m (cursor_at w) ≡ first_item rest
  unfolding step_wires
  step_after a w rest e =
      let r = wire_is w (subst (Member w) (sym e) (member_right w a (w ∷ rest) (inl refl))) in
      let n = r.0 in
      let l = r.2 in
      let d : suc w.from.port.0 - 1 ≡ w.from.port.0 = omega arith in
      let s : seen m w.from.port.0 ≡ visible n Outgoing = ap (seen m) (sym l.start.slot) ∙ seen_block f (inner# n Outgoing l.pos) l.start.is_seen in
      rw (ne_eqb (suc w.from.port.0) 0 (λ q. omega arith), d, s) (ap first_item (beyond_is_rest a w rest e n r.1 l))

  walk_gives_rest : (rest a : List SubportLink) (w : SubportLink) → all_wires m ≡ a ++ (w ∷ rest) → (fuel : ℕ) → length rest < fuel → walk_wires m fuel (cursor_at w) ≡ whole rest
  unfolding walk_wires
  walk_gives_rest [] a w e zero h = absurd (omega arith)
  walk_gives_rest [] a w e (suc fuel) h = ap (walk_by (walk_wires m fuel)) (step_after a w [] e)
  walk_gives_rest (v ∷ rest) a w e zero h = absurd (omega arith)
  walk_gives_rest (v ∷ rest) a w e (suc fuel) h =
      ap (walk_by (walk_wires m fuel)) (step_after a w (v ∷ rest) e)
      ∙ ap (walked_on v) (walk_gives_rest rest (a ++ (w ∷ [])) v (e ∙ sym (append_assoc a (w ∷ []) (v ∷ rest))) fuel (omega arith))

  walk_gives_all : (l : List SubportLink) → all_wires m ≡ l → (fuel : ℕ) → length l < fuel → walk_wires m fuel start_wires ≡ whole l
  unfolding walk_wires step_wires
  walk_gives_all [] e zero h = absurd (omega arith)
  walk_gives_all [] e (suc fuel) h = ap (λ (l : List SubportLink). walk_by (walk_wires m fuel) (first_item l)) e
  walk_gives_all (v ∷ l) e zero h = absurd (omega arith)
  walk_gives_all (v ∷ l) e (suc fuel) h =
      ap (λ (l : List SubportLink). walk_by (walk_wires m fuel) (first_item l)) e
      ∙ ap (walked_on v) (walk_gives_rest l [] v e fuel (omega arith))

  -- each wire starts at an inner port of its own
  start_port : SubportLink → ℕ
  start_port w = end_number (end_at m w.from.port.0 Outgoing w.from.subport_offset)

  start_is : (n : ℕ) (w : SubportLink) (l : WireListed m M n w) → start_port w ≡ slot_of M.node l.z
  unfolding start_port
  start_is n w l = ap end_number l.start.read

  starts_apart : (n k : ℕ) (v w : SubportLink) → WireListed m M n v → WireListed m M k w → Before m v w → start_port v ≡ start_port w → ⊥
  starts_apart n k v w a b l e =
      let p : a.z ≡ b.z =
      slots_apart f.good a.z b.z a.start.end.valid b.start.end.valid (sym (start_is n v a) ∙ (e ∙ start_is k w b)) in
      let q : (wire_places m v).out ≡ (wire_places m w).out =
      ap (λ (x : Wire). x.out) (wire_places_lem n v a) ∙ (ap (outer m M) p ∙ sym (ap (λ (x : Wire). x.out) (wire_places_lem k w b))) in
      let h : Earlier (wire_places m v) (wire_places m w) = earlier n k v w a b l in
      let c : Earlier (wire_places m v) (wire_places m v) =
      subst (λ (x : Place). Earlier (wire_places m v) (record { out = x; into = (wire_places m w).into })) (sym q) h in
      lex_asym _ _ _ _ _ _ c c

  few_wires : length (all_wires m) ≤ port_slots
  few_wires =
      let h : length (map start_port (all_wires m)) ≤ port_slots =
      apart_below port_slots (map start_port (all_wires m))
      (rising_map (Before m) Apart start_port (all_wires m) wires_rise
      (λ v w i j l. let a = wire_is v i in let b = wire_is w j in starts_apart a.0 b.0 v w a.2 b.2 l))
      (λ s i.
      let g = member_map start_port s (all_wires m) i in
      let r = wire_is g.0 g.1 in
      let e = start_is r.0 g.0 r.2 in
      let b = slot_in_range f.good r.2.z r.2.start.end.valid in
      let q = g.2 in
      omega arith) in
      let e = length-map (all_wires m) start_port in
      omega arith

  -- the walk from the start gives the whole list, and ends
  pub walk_is_listing : walked m ≡ record { items = all_wires m; ended = true }
  unfolding walked
  walk_is_listing = let h = few_wires in walk_gives_all (all_wires m) refl long_walk (omega arith)

  pub walked_places : wires_walked m ≡ map (wire_places m) (all_wires m)
  unfolding wires_walked
  walked_places = ap (λ (r : Walked). map (wire_places m) r.items) walk_is_listing

  pub walk_ends_lem : (walked m).ended ≡ true
  walk_ends_lem = ap (λ (r : Walked). r.ended) walk_is_listing

  pub walked_is_wires : (w : Wire) → Member w (wires_walked m) ↔ WireIn m M w
  walked_is_wires w =
      ((λ i. listed_is_wire w (subst (Member w) walked_places i)), (λ h. subst (Member w) (sym walked_places) (wire_is_listed w h)))

  pub walked_once : Once (wires_walked m)
  walked_once = subst Once (sym walked_places) listed_once

  pub walked_rises : Rising Earlier (wires_walked m)
  walked_rises = subst (Rising Earlier) (sym walked_places) places_rise

-- the walked list is known by its wires
pub same_wires_same_list : {m m' : MultiPortGraph} {M M' : Model} → Fine m M → Fine m' M' →
    ((w : Wire) → WireIn m M w → WireIn m' M' w) → ((w : Wire) → WireIn m' M' w → WireIn m M w) → wires_walked m ≡ wires_walked m'
same_wires_same_list {m} {m'} f f' there back =
    rising_by_items Earlier (λ v w. lex_asym _ _ _ _ _ _) (wires_walked m) (wires_walked m') (walked_rises f) (walked_rises f')
    (λ w i. (walked_is_wires f' w).1 (there w ((walked_is_wires f w).0 i)))
    (λ w i. (walked_is_wires f w).1 (back w ((walked_is_wires f' w).0 i)))
