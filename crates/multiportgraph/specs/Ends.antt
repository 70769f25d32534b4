-- How port numbers and subports of a graph of the calls read as places: lookups at the slot of a place, ports of blocks and of
-- hidden nodes, and the ends that hang on a port. Wires are told apart by their ends.
use Rattle.std.proofs.Math.ListN.{length}
use Rattle.std.proofs.lemmas.Bool.{cases_Bool}
use Rattle.std.specs.Prelude.{◌≡◌, Bool, ◌⊎◌, ℕ, zero, suc, ◌+◌, ◌-◌, ◌≤◌, ◌<◌, Option}
use Rattle.std.proofs.Math.Path.{refl, ap, subst}
use Rattle.std.proofs.Common.{sym, ◌∙◌, inl, inr}
use Rattle.std.proofs.Math.Bool.{true, false, cond}
use mathlib.Core.List.{List, [], ◌∷◌, ◌++◌, flat_map, map, map-append}
use Rattle.std.proofs.Math.Logic.{⊎_elim}
use native.Mathlib.Omega.{arith}
use Rattle.std.proofs.Math.Dec.{ltb}
use borrow.Author.Tests.{ltb-true, ltb-false, lt-ltb, le-ltb, ne_eqb}
use Rattle.port_tables.specs.Limits.{port_slots}
use Rattle.port_tables.specs.Lists.{range}
use Rattle.std.specs.List.{filter}
use Rattle.port_tables.specs.Entries.{reversed, ports_on, node_of}
use Rattle.portgraph.specs.Lookups.{num_ports, count_in}
use Rattle.portgraph.specs.Model as model
use Rattle.portgraph.specs.Model.{Model, nowhere, to, Slots, gone, live, Good, Holds, Valid, slot_of, count_of, first_of, side_start, Vacant}
use Rattle.portgraph.specs.GoodSlots.{zero_is_not_one, same_place_lem, slots_apart, slot_in_range, slot_in_block, joined_is_valid}
use Rattle.portgraph.specs.PlaceLaws.{port_of_place, slot_cases, vacant_is_dead, port_link_to, port_link_none, port_index_is, port_offset_is, meta_of_node, gone_has_no_meta}
use Rattle.port_tables.specs.declared.direction.Direction.{Direction}
use Rattle.port_tables.specs.declared.direction.Direction.TheVariants.{Incoming, Outgoing}
use Rattle.port_tables.specs.declared.node_entry.NodeMeta.{NodeMeta}
use Rattle.port_tables.specs.declared.port_entry.PortEntry.{PortEntry}
use Rattle.multiportgraph.specs.Reading.{side_of, link_number, is_linked, far_port, has_link, owner_of, port_number, port_of, position_number, position_of, is_hidden, is_split, seen_entry, seen, copy_node, subports, subport_at, end_at, copy_side, main_port, subport_of}
use Rattle.multi_tables.specs.Forms.{node_number, dead, hidden, visible, inner, lacking, subport#}
use Rattle.multiportgraph.specs.Wires.{ports_of_side, subports_of_port, subports_of_side, place_of, is_first, ports_walked}
use Rattle.multiportgraph.specs.WellFormed.{inner#, copy_place, Marked, copy_port, main_port_lem, Fine, BlockIs, Seen, lift, outer, IsEnd, WireIn, SameBlocks}
use Rattle.portgraph.specs.declared.portgraph.PortGraph.{PortGraph}
use Rattle.multiportgraph.specs.declared.multiportgraph.MultiPortGraph.{MultiPortGraph}
use Rattle.multi_tables.specs.declared.answers.SubportIndex.{SubportIndex}
use Rattle.port_tables.specs.Places.{Place, Wire, wire_of_sides}
use Rattle.std.proofs.lemmas.List.Elements.{filter-append}

-- the slot of a place lies in the table of marks
pub mark_below : (m : MultiPortGraph) {M : Model} → length m.multiport ≡ port_slots → Good M → (z : model.InnerPlace) → Valid M.node z → slot_of M.node z < length m.multiport
mark_below m long g z v = rw long (slot_in_range g z v)

-- the counts of a node in the single-link graph
pub count_in_lem : {g : PortGraph} {M : Model} → Good M → Holds g M → (n : ℕ) (d : Direction) → num_ports g n d ≡ count_of (M.node n) d
count_in_lem {g} {M} good holds n d = go (M.node n) refl
  where
    go : (v : Slots) → M.node n ≡ v → num_ports g n d ≡ count_of v d
    go gone e = ap (λ (k : Option NodeMeta). count_in k d) (gone_has_no_meta good holds n e)
    go (live k) e = ap (λ (k : Option NodeMeta). count_in k d) (meta_of_node good holds n k e)

-- a port of a block, by its number
pub record BlockPort (m : MultiPortGraph) (M : Model) (p n : ℕ) (d : Direction) : Type 0 where
  pub place : model.InnerPlace
  pub is_seen : Seen m M place
  pub slot : slot_of M.node place ≡ p
  pub node : place.node ≡ n
  pub side : place.side ≡ d

-- What hangs on a split port of a block: its hidden node, whose other side has the subports.
pub record Hangs (m : MultiPortGraph) (M : Model) (x : model.InnerPlace) : Type 0 where
  pub copy : ℕ
  pub is_copy : is_hidden m copy ≡ true
  pub from : M.join (copy_place m copy) ≡ to x
  pub back : M.join x ≡ to (copy_place m copy)
  pub side : x.side ≡ reversed (copy_side m copy)
  pub copy_is : copy_node m (slot_of M.node x) ≡ copy
  pub several : 2 ≤ count_of (M.node copy) x.side
  pub count : subports m (slot_of M.node x) x.side ≡ count_of (M.node copy) x.side
  pub reads : (o : ℕ) → o < count_of (M.node copy) x.side → subport_at m (slot_of M.node x) x.side o ≡ slot_of M.node (inner# copy x.side o)
  pub ends : (o : ℕ) → o < count_of (M.node copy) x.side → IsEnd m M (inner# copy x.side o)
  pub outers : (o : ℕ) → outer m M (inner# copy x.side o) ≡ lift x o

-- an end as read: the port of a block that it belongs to, and its offset there
pub record OuterOf (m : MultiPortGraph) (M : Model) (z : model.InnerPlace) : Type 0 where
  pub main : model.InnerPlace
  pub offset : ℕ
  pub is_seen : Seen m M main
  pub is : outer m M z ≡ lift main offset
  pub side : z.side ≡ main.side
  pub read : subport_of m (slot_of M.node z) ≡ subport# (slot_of M.node main) offset

-- the end that an offset of a port means, by its inner port
pub record EndOf (m : MultiPortGraph) (M : Model) (x : model.InnerPlace) (o q : ℕ) : Type 0 where
  pub end : model.InnerPlace
  pub is_end : IsEnd m M end
  pub slot : slot_of M.node end ≡ q
  pub side : end.side ≡ x.side
  pub is : outer m M end ≡ lift x (cond (is_split m (slot_of M.node x)) o 0)

-- Sides and places.

pub twice_reversed : (d : Direction) → reversed (reversed d) ≡ d
twice_reversed Incoming = refl
twice_reversed Outgoing = refl

pub not_reversed : (d : Direction) → reversed d ≡ d → ⊥
not_reversed Incoming e = zero_is_not_one (cc)
not_reversed Outgoing e = zero_is_not_one (cc)

pub other_side : (d e : Direction) → (d ≡ e → ⊥) → e ≡ reversed d
other_side Incoming Incoming h = absurd (h refl)
other_side Incoming Outgoing h = refl
other_side Outgoing Incoming h = refl
other_side Outgoing Outgoing h = absurd (h refl)

pub side_cases : (d e : Direction) → (d ≡ e) ⊎ (d ≡ reversed e)
side_cases Incoming Incoming = inl refl
side_cases Incoming Outgoing = inr refl
side_cases Outgoing Incoming = inr refl
side_cases Outgoing Outgoing = inl refl

-- a place is told by its node, side and position
pub lift_place : {x y : model.InnerPlace} {o r : ℕ} → lift x o ≡ lift y r → x ≡ y
lift_place {x} {y} e = same_place_lem x y (ap (λ (z : Place). z.node) e) (ap (λ (z : Place). z.side) e) (ap (λ (z : Place). z.pos) e)

-- Lists of ports.

pub map_range : (h : ℕ → ℕ) (s i c : ℕ) → ((j : ℕ) → j < i + c → h j ≡ s + j) → map h (range i c) ≡ range (s + i) c
unfolding range
map_range h s i zero e = refl
map_range h s i (suc c) e =
    let r = map_range h s (suc i) c (λ j l. e j (omega arith)) in
    let q : s + suc i ≡ suc (s + i) = omega arith in
    let z = e i (omega arith) in
    (λ k. z k ∷ r k) ∙ ap (λ n. (s + i) ∷ range n c) q

-- offsets other than 0 are left out
later_offsets : (p i c : ℕ) → filter is_first (map (subport# p) (range (suc i) c)) ≡ []
unfolding range
later_offsets p i zero = refl
later_offsets p i (suc c) = rw (ne_eqb (suc i) 0 (λ e. omega arith)) (later_offsets p (suc i) c)

first_offset : (p n : ℕ) → 0 < n → filter is_first (map (subport# p) (range 0 n)) ≡ subport# p 0 ∷ []
unfolding range
first_offset p zero h = absurd (omega arith)
first_offset p (suc n) h = ap (λ l. subport# p 0 ∷ l) (later_offsets p 0 n)

port_once : (m : MultiPortGraph) (d : Direction) (p : ℕ) → (is_split m p ≡ true → 0 < subports m p d) → filter is_first (subports_of_port m d p) ≡ subport# p 0 ∷ []
unfolding subports_of_port
port_once m d p h = go (is_split m p) refl
  where
    go : (b : Bool) → is_split m p ≡ b → filter is_first (cond b (map (subport# p) (range 0 (subports m p d))) (subport# p 0 ∷ [])) ≡ subport# p 0 ∷ []
    go true e = first_offset p (subports m p d) (h e)
    go false e = refl

ports_once : (m : MultiPortGraph) (d : Direction) (s c : ℕ) → ((p : ℕ) → s ≤ p → p < s + c → is_split m p ≡ true → 0 < subports m p d) →
    map (λ (t : SubportIndex). t.port.0) (filter is_first (flat_map (subports_of_port m d) (range s c))) ≡ range s c
unfolding flat_map range
ports_once m d s zero h = refl
ports_once m d s (suc c) h =
    ap (map (λ (t : SubportIndex). t.port.0))
    (filter-append is_first (subports_of_port m d s) (flat_map (subports_of_port m d) (range (suc s) c))
    ∙ ap (λ l. l ++ filter is_first (flat_map (subports_of_port m d) (range (suc s) c))) (port_once m d s (h s (omega arith) (omega arith))))
    ∙ ap (λ l. s ∷ l) (ports_once m d (suc s) c (λ p a b. h p (omega arith) (omega arith)))

module _ {m : MultiPortGraph} {M : Model} (f : Fine m M) where
  -- Lookups at the slot of a place.

  pub far_of : (x y : model.InnerPlace) → M.join x ≡ to y → far_port m.graph (slot_of M.node x) ≡ slot_of M.node y
  unfolding far_port
  far_of x y j = ap link_number (port_link_to f.good f.holds x y (f.good.join_valid x y j) j)

  pub linked_is : (x y : model.InnerPlace) → M.join x ≡ to y → has_link m.graph (slot_of M.node x) ≡ true
  unfolding has_link
  linked_is x y j = ap is_linked (port_link_to f.good f.holds x y (f.good.join_valid x y j) j)

  pub unlinked_is : (x : model.InnerPlace) → Valid M.node x → M.join x ≡ nowhere → has_link m.graph (slot_of M.node x) ≡ false
  unfolding has_link
  unlinked_is x h j = ap is_linked (port_link_none f.good f.holds x h j)

  pub owner_of_lem : (x : model.InnerPlace) → Valid M.node x → owner_of m.graph (slot_of M.node x) ≡ x.node
  unfolding owner_of
  owner_of_lem x h = ap (λ (e : PortEntry). node_number (node_of e)) (port_of_place f.good f.holds x h)

  pub position_of_lem : (x : model.InnerPlace) → Valid M.node x → position_of m.graph (slot_of M.node x) ≡ x.pos
  unfolding position_of
  position_of_lem x h = ap position_number (port_offset_is f.good f.holds x h)

  pub port_of_lem : (n : ℕ) (d : Direction) (i : ℕ) → Valid M.node (inner# n d i) → port_of m.graph n d i ≡ slot_of M.node (inner# n d i)
  unfolding port_of
  port_of_lem n d i h = ap port_number (port_index_is f.good f.holds (inner# n d i) h)

  pub count_of_lem : (n : ℕ) (d : Direction) → num_ports m.graph n d ≡ count_of (M.node n) d
  count_of_lem = count_in_lem f.good f.holds

  -- Ports of blocks, of hidden nodes, and none.

  pub seen_block : (x : model.InnerPlace) → Seen m M x → seen m (slot_of M.node x) ≡ visible x.node x.side
  unfolding seen
  seen_block x s =
      ap (seen_entry m) (port_of_place f.good f.holds x s.0)
      ∙ ap (λ (b : Bool). cond b hidden (visible x.node x.side)) s.1

  pub seen_hidden : (x : model.InnerPlace) → Valid M.node x → is_hidden m x.node ≡ true → seen m (slot_of M.node x) ≡ hidden
  unfolding seen
  seen_hidden x h e =
      ap (seen_entry m) (port_of_place f.good f.holds x h)
      ∙ ap (λ (b : Bool). cond b hidden (visible x.node x.side)) e

  pub seen_dead : (p : ℕ) → Vacant (Valid M.node) (slot_of M.node) p → seen m p ≡ dead
  unfolding seen
  seen_dead p none = ap (seen_entry m) (vacant_is_dead f.good f.holds p none)

  pub block_seen : (p n : ℕ) (d : Direction) → seen m p ≡ visible n d → BlockPort m M p n d
  unfolding seen
  block_seen p n d e = ⊎_elim found (λ z. absurd (zero_is_not_one (let k = ap (seen_entry m) z in cc))) (slot_cases f.good f.holds p)
    where
      found : (x : model.InnerPlace) × Valid M.node x × (slot_of M.node x ≡ p) → BlockPort m M p n d
      found r = go (is_hidden m r.0.node) refl
        where
          go : (b : Bool) → is_hidden m r.0.node ≡ b → BlockPort m M p n d
          go true h =
              let k : seen m p ≡ hidden = ap (seen m) (sym r.2) ∙ seen_hidden r.0 r.1 h in
              absurd (zero_is_not_one (cc))
          go false h =
              let k : seen m p ≡ visible r.0.node r.0.side = ap (seen m) (sym r.2) ∙ seen_block r.0 (r.1, h) in
              record { place = r.0; is_seen = (r.1, h); slot = r.2; node = cc; side = cc }

  pub dead_seen : (p : ℕ) → seen m p ≡ dead → Vacant (Valid M.node) (slot_of M.node) p
  dead_seen p e x h s = go (is_hidden m x.node) refl
    where
      go : (b : Bool) → is_hidden m x.node ≡ b → ⊥
      go true q = let k = ap (seen m) s in let l = seen_hidden x h q in zero_is_not_one (cc)
      go false q = let k = ap (seen m) s in let l = seen_block x (h, q) in zero_is_not_one (cc)

  -- Hidden nodes.

  pub copy_valid : (c : ℕ) → is_hidden m c ≡ true → Valid M.node (copy_place m c)
  copy_valid c h = let k = f.copy c h in f.good.join_valid (copy_place m c) k.main k.joined

  pub copy_count : (c : ℕ) → is_hidden m c ≡ true → count_of (M.node c) (copy_side m c) ≡ 1
  copy_count c h = let k = f.copy c h in ap (λ (v : Slots). count_of v (copy_side m c)) k.here ∙ k.single

  pub subport_count : (c : ℕ) → is_hidden m c ≡ true → 2 ≤ count_of (M.node c) (reversed (copy_side m c))
  subport_count c h = let k = f.copy c h in subst (λ (v : Slots). 2 ≤ count_of v (reversed (copy_side m c))) (sym k.here) k.several

  -- a port of the copy port's side is the copy port
  pub copy_only : (x : model.InnerPlace) → Valid M.node x → is_hidden m x.node ≡ true → x.side ≡ copy_side m x.node → x ≡ copy_place m x.node
  copy_only x v h s =
      let c = copy_count x.node h in
      let w : x.pos < count_of (M.node x.node) (copy_side m x.node) = subst (λ (d : Direction). x.pos < count_of (M.node x.node) d) s v in
      same_place_lem x (copy_place m x.node) refl s (omega arith)

  pub main_side : (c : ℕ) (x : model.InnerPlace) → M.join (copy_place m c) ≡ to x → x.side ≡ reversed (copy_side m c)
  main_side c x j = other_side (copy_side m c) x.side (f.good.join_sides (copy_place m c) x j)

  pub main_back : (c : ℕ) (x : model.InnerPlace) → M.join (copy_place m c) ≡ to x → M.join x ≡ to (copy_place m c)
  main_back c x j = f.good.join_back (copy_place m c) x j

  pub main_seen : (c : ℕ) (x : model.InnerPlace) → is_hidden m c ≡ true → M.join (copy_place m c) ≡ to x → Seen m M x
  main_seen c x h j =
      let k = f.copy c h in
      let q = k.joined in
      let e : k.main ≡ x = cc in
      (joined_is_valid f.good (copy_place m c) x j, subst (λ (y : model.InnerPlace). is_hidden m y.node ≡ false) e k.main_seen)

  -- a subport of a hidden node, by its main port
  pub outer_of_subport : (z x : model.InnerPlace) → is_hidden m z.node ≡ true → M.join (copy_place m z.node) ≡ to x → outer m M z ≡ lift x z.pos
  unfolding outer
  outer_of_subport z x h j = rw (h, j)

  pub outer_of_block : (x : model.InnerPlace) → is_hidden m x.node ≡ false → outer m M x ≡ lift x 0
  unfolding outer
  outer_of_block x h = rw h

  pub subport_end : (z : model.InnerPlace) → Valid M.node z → is_hidden m z.node ≡ true → z.side ≡ reversed (copy_side m z.node) → IsEnd m M z
  subport_end z v h s =
      record {
        valid = v;
        unsplit = λ e. absurd (zero_is_not_one (cc));
        subport = λ e q. not_reversed (copy_side m z.node) (sym s ∙ q);
      }

  pub hangs : (c : ℕ) (x : model.InnerPlace) → is_hidden m c ≡ true → M.join (copy_place m c) ≡ to x → Hangs m M x
  unfolding copy_node subports subport_at
  hangs c x h j =
      let s = main_side c x j in
      let b = main_back c x j in
      let n : copy_node m (slot_of M.node x) ≡ c = ap (owner_of m.graph) (far_of x (copy_place m c) b) ∙ owner_of_lem (copy_place m c) (copy_valid c h) in
      record {
        copy = c;
        is_copy = h;
        from = j;
        back = b;
        side = s;
        copy_is = n;
        several = subst (λ (d : Direction). 2 ≤ count_of (M.node c) d) (sym s) (subport_count c h);
        count = ap (λ (i : ℕ). num_ports m.graph i x.side) n ∙ count_of_lem c x.side;
        reads = λ o l. ap (λ (i : ℕ). port_of m.graph i x.side o) n ∙ port_of_lem c x.side o l;
        ends = λ o l. subport_end (inner# c x.side o) l h s;
        outers = λ o. outer_of_subport (inner# c x.side o) x h j;
      }

  pub split_has_copy : (x : model.InnerPlace) → Seen m M x → is_split m (slot_of M.node x) ≡ true → Hangs m M x
  split_has_copy x s t = go (f.only_marked (slot_of M.node x) t)
    where
      go : Marked m M (slot_of M.node x) → Hangs m M x
      go (copy_port c h e) =
          let q : copy_place m c ≡ x = slots_apart f.good (copy_place m c) x (copy_valid c h) s.0 e in
          let n : is_hidden m c ≡ is_hidden m x.node = ap (λ (y : model.InnerPlace). is_hidden m y.node) q in
          let k = s.1 in
          absurd (zero_is_not_one (cc))
      go (main_port_lem c y h j e) =
          let q : y ≡ x = slots_apart f.good y x (joined_is_valid f.good (copy_place m c) y j) s.0 e in
          hangs c x h (j ∙ ap to q)

  pub one_copy : (c e : ℕ) (x : model.InnerPlace) → M.join (copy_place m c) ≡ to x → M.join (copy_place m e) ≡ to x → c ≡ e
  one_copy c e x j k =
      let a = main_back c x j in
      let b = main_back e x k in
      let q : copy_place m c ≡ copy_place m e = cc in
      ap (λ (y : model.InnerPlace). y.node) q

  pub unsplit_no_copy : (x : model.InnerPlace) → is_split m (slot_of M.node x) ≡ false → (c : ℕ) → is_hidden m c ≡ true → M.join (copy_place m c) ≡ to x → ⊥
  unsplit_no_copy x t c h j = let k = f.main_marked c x h j in zero_is_not_one (cc)

  -- Ends.

  pub unsplit_is_end : (x : model.InnerPlace) → Seen m M x → is_split m (slot_of M.node x) ≡ false → IsEnd m M x
  unsplit_is_end x s t =
      let k = s.1 in
      record { valid = s.0; unsplit = λ e. t; subport = λ e q. zero_is_not_one (cc) }

  pub outer_of_unsplit : (x : model.InnerPlace) → Seen m M x → is_split m (slot_of M.node x) ≡ false → (outer m M x ≡ lift x 0) × IsEnd m M x
  outer_of_unsplit x s t = (outer_of_block x s.1, unsplit_is_end x s t)

  -- the side of a subport is the main port's
  pub end_side : (z : model.InnerPlace) → IsEnd m M z → is_hidden m z.node ≡ true → z.side ≡ reversed (copy_side m z.node)
  end_side z e h = other_side (copy_side m z.node) z.side (λ q. e.subport h (sym q))

  pub ends_join_ends : (x y : model.InnerPlace) → IsEnd m M x → M.join x ≡ to y → IsEnd m M y
  ends_join_ends x y e j =
      let v = joined_is_valid f.good x y j in
      let b = f.good.join_back x y j in
      record {
        valid = v;
        unsplit = λ h. ⊎_elim (λ t. absurd (split_far (split_has_copy y (v, h) t) b)) (λ t. t) (cases_Bool (is_split m (slot_of M.node y)));
        subport = λ h s. copy_far y.node h (subst (λ (z : model.InnerPlace). M.join z ≡ to x) (copy_only y v h s) b);
      }
    where
      split_far : Hangs m M y → M.join y ≡ to x → ⊥
      split_far k b =
          let d = k.back in
          let q : copy_place m k.copy ≡ x = cc in
          e.subport (subst (λ (z : model.InnerPlace). is_hidden m z.node ≡ true) q k.is_copy) (ap (λ (z : model.InnerPlace). z.side) (sym q) ∙ ap (λ (z : model.InnerPlace). copy_side m z.node) q)

      copy_far : (c : ℕ) → is_hidden m c ≡ true → M.join (copy_place m c) ≡ to x → ⊥
      copy_far c h k =
          let t = f.main_marked c x h k in
          let u = e.unsplit (main_seen c x h k).1 in
          zero_is_not_one (cc)

  pub copy_or_end : (x : model.InnerPlace) → Valid M.node x →
      IsEnd m M x ⊎ (((is_hidden m x.node ≡ true) × (x ≡ copy_place m x.node)) ⊎ ((is_hidden m x.node ≡ false) × (is_split m (slot_of M.node x) ≡ true)))
  copy_or_end x v = go (is_hidden m x.node) (is_split m (slot_of M.node x)) (side_cases x.side (copy_side m x.node)) refl refl
    where
      go : (a b : Bool) → (x.side ≡ copy_side m x.node) ⊎ (x.side ≡ reversed (copy_side m x.node)) → is_hidden m x.node ≡ a → is_split m (slot_of M.node x) ≡ b →
          IsEnd m M x ⊎ (((is_hidden m x.node ≡ true) × (x ≡ copy_place m x.node)) ⊎ ((is_hidden m x.node ≡ false) × (is_split m (slot_of M.node x) ≡ true)))
      go true b (inl s) h t = inr (inl (h, copy_only x v h s))
      go true b (inr s) h t = inl (subport_end x v h s)
      go false true s h t = inr (inr (h, t))
      go false false s h t = inl (unsplit_is_end x (v, h) t)

  -- the main port of a hidden node
  pub main_port_of : (c : ℕ) (x : model.InnerPlace) → is_hidden m c ≡ true → M.join (copy_place m c) ≡ to x → main_port m c ≡ slot_of M.node x
  unfolding main_port
  main_port_of c x h j = ap (far_port m.graph) (port_of_lem c (copy_side m c) 0 (copy_valid c h)) ∙ far_of (copy_place m c) x j

  pub subport_of_hidden : (z x : model.InnerPlace) → Valid M.node z → is_hidden m z.node ≡ true → M.join (copy_place m z.node) ≡ to x →
      subport_of m (slot_of M.node z) ≡ subport# (slot_of M.node x) z.pos
  unfolding subport_of
  subport_of_hidden z x v h j =
      rw (owner_of_lem z v, h, position_of_lem z v) (ap (λ (p : ℕ). subport# p z.pos) (main_port_of z.node x h j))

  pub subport_of_block : (x : model.InnerPlace) → Seen m M x → subport_of m (slot_of M.node x) ≡ subport# (slot_of M.node x) 0
  unfolding subport_of
  subport_of_block x s = rw (owner_of_lem x s.0, s.1)

  pub outer_seen : (z : model.InnerPlace) → IsEnd m M z → OuterOf m M z
  outer_seen z e = go (is_hidden m z.node) refl
    where
      go : (b : Bool) → is_hidden m z.node ≡ b → OuterOf m M z
      go true h =
          let k = f.copy z.node h in
          let j = k.joined in
          record {
            main = k.main;
            offset = z.pos;
            is_seen = main_seen z.node k.main h j;
            is = outer_of_subport z k.main h j;
            side = end_side z e h ∙ sym (main_side z.node k.main j);
            read = subport_of_hidden z k.main e.valid h j;
          }
      go false h =
          record {
            main = z;
            offset = 0;
            is_seen = (e.valid, h);
            is = outer_of_block z h;
            side = refl;
            read = subport_of_block z (e.valid, h);
          }

  pub outer_side : (z : model.InnerPlace) → IsEnd m M z → (outer m M z).side ≡ z.side
  outer_side z e = let r = outer_seen z e in ap (λ (y : Place). y.side) r.is ∙ sym r.side

  pub outer_apart : (x y : model.InnerPlace) → IsEnd m M x → IsEnd m M y → outer m M x ≡ outer m M y → x ≡ y
  outer_apart x y a b e = go (is_hidden m x.node) (is_hidden m y.node) refl refl
    where
      mixed : (x y : model.InnerPlace) → IsEnd m M x → outer m M x ≡ outer m M y → is_hidden m x.node ≡ false → is_hidden m y.node ≡ true → ⊥
      mixed x y a e h k =
          let c = f.copy y.node k in
          let q : x ≡ c.main = lift_place (sym (outer_of_block x h) ∙ e ∙ outer_of_subport y c.main k c.joined) in
          unsplit_no_copy x (a.unsplit h) y.node k (c.joined ∙ ap to (sym q))

      go : (s t : Bool) → is_hidden m x.node ≡ s → is_hidden m y.node ≡ t → x ≡ y
      go false false h k = lift_place (sym (outer_of_block x h) ∙ e ∙ outer_of_block y k)
      go false true h k = absurd (mixed x y a e h k)
      go true false h k = absurd (mixed y x b (sym e) k h)
      go true true h k =
          let c = f.copy x.node h in
          let d = f.copy y.node k in
          let l : lift c.main x.pos ≡ lift d.main y.pos = sym (outer_of_subport x c.main h c.joined) ∙ e ∙ outer_of_subport y d.main k d.joined in
          let n : x.node ≡ y.node = one_copy x.node y.node c.main c.joined (d.joined ∙ ap to (sym (lift_place l))) in
          same_place_lem x y n (end_side x a h ∙ (ap (λ (i : ℕ). reversed (copy_side m i)) n ∙ sym (end_side y b k))) (ap (λ (w : Place). w.offset) l)

  -- Ends as read.

  pub end_of_split : (x : model.InnerPlace) (o : ℕ) → (k : Hangs m M x) → is_split m (slot_of M.node x) ≡ true → o < count_of (M.node k.copy) x.side →
      end_at m (slot_of M.node x) x.side o ≡ inner (slot_of M.node (inner# k.copy x.side o))
  unfolding end_at
  end_of_split x o k t l = rw (t, k.count, lt-ltb o (count_of (M.node k.copy) x.side) l) (ap inner (k.reads o l))

  pub end_of_unsplit : (p : ℕ) (d : Direction) (o : ℕ) → is_split m p ≡ false → end_at m p d o ≡ inner p
  unfolding end_at
  end_of_unsplit p d o t = rw t

  pub lacks_end : (p : ℕ) (d : Direction) (o : ℕ) → is_split m p ≡ true → subports m p d ≤ o → end_at m p d o ≡ lacking
  unfolding end_at
  lacks_end p d o t l = rw (t, le-ltb o (subports m p d) l)

  pub end_lacks : (p : ℕ) (d : Direction) (o : ℕ) → end_at m p d o ≡ lacking → (is_split m p ≡ true) × (subports m p d ≤ o)
  unfolding end_at
  end_lacks p d o e = go (is_split m p) (ltb o (subports m p d)) refl refl e
    where
      go : (a b : Bool) → is_split m p ≡ a → ltb o (subports m p d) ≡ b → cond a (cond b (inner (subport_at m p d o)) lacking) (inner p) ≡ lacking → (is_split m p ≡ true) × (subports m p d ≤ o)
      go true true s t e = absurd (zero_is_not_one (cc))
      go true false s t e = (s, ltb-false o (subports m p d) t)
      go false b s t e = absurd (zero_is_not_one (cc))

  pub end_read : (x : model.InnerPlace) (o q : ℕ) → Seen m M x → end_at m (slot_of M.node x) x.side o ≡ inner q → EndOf m M x o q
  end_read x o q s e = go (is_split m (slot_of M.node x)) (ltb o (subports m (slot_of M.node x) x.side)) refl refl
    where
      go : (a b : Bool) → is_split m (slot_of M.node x) ≡ a → ltb o (subports m (slot_of M.node x) x.side) ≡ b → EndOf m M x o q
      go true true t u =
          let k = split_has_copy x s t in
          let l : o < count_of (M.node k.copy) x.side = subst (λ (n : ℕ). o < n) k.count (ltb-true o (subports m (slot_of M.node x) x.side) u) in
          let r = end_of_split x o k t l in
          record {
            end = inner# k.copy x.side o;
            is_end = k.ends o l;
            slot = cc;
            side = refl;
            is = k.outers o ∙ ap (λ (b : Bool). lift x (cond b o 0)) (sym t);
          }
      go true false t u =
          let r = lacks_end (slot_of M.node x) x.side o t (ltb-false o (subports m (slot_of M.node x) x.side) u) in
          absurd (zero_is_not_one (cc))
      go false b t u =
          let r = end_of_unsplit (slot_of M.node x) x.side o t in
          record {
            end = x;
            is_end = unsplit_is_end x s t;
            slot = cc;
            side = refl;
            is = outer_of_block x s.1 ∙ ap (λ (b : Bool). lift x (cond b o 0)) (sym t);
          }

  pub place_of_sub : (x : model.InnerPlace) (o : ℕ) → Seen m M x → place_of m (subport# (slot_of M.node x) o) ≡ lift x o
  unfolding place_of
  place_of_sub x o s = λ i. record { node = owner_of_lem x s.0 i; side = side_of (seen_block x s i); pos = position_of_lem x s.0 i; offset = o }

  pub subport_of_lem : (z : model.InnerPlace) → IsEnd m M z → place_of m (subport_of m (slot_of M.node z)) ≡ outer m M z
  subport_of_lem z e =
      let r = outer_seen z e in
      ap (place_of m) r.read ∙ (place_of_sub r.main r.offset r.is_seen ∙ sym r.is)

  pub subport_is : (z x : model.InnerPlace) (o : ℕ) → IsEnd m M z → outer m M z ≡ lift x o → subport_of m (slot_of M.node z) ≡ subport# (slot_of M.node x) o
  subport_is z x o e l =
      let r = outer_seen z e in
      let q : lift r.main r.offset ≡ lift x o = sym r.is ∙ l in
      r.read ∙ (λ i. subport# (slot_of M.node (lift_place q i)) (q i).offset)

  -- Wires.

  -- a link at an end is a wire
  pub wire_at : (x y : model.InnerPlace) → IsEnd m M x → M.join x ≡ to y → WireIn m M (wire_of_sides x.side (outer m M x) (outer m M y))
  wire_at x y e j = go x.side y.side refl refl
    where
      go : (a b : Direction) → x.side ≡ a → y.side ≡ b → WireIn m M (wire_of_sides a (outer m M x) (outer m M y))
      go Outgoing b p q = record { x = x; y = y; joined = j; outgoing = p; end = e; is = refl }
      go Incoming Outgoing p q = record { x = y; y = x; joined = f.good.join_back x y j; outgoing = q; end = ends_join_ends x y e j; is = refl }
      go Incoming Incoming p q = absurd (f.good.join_sides x y j (p ∙ sym q))

  pub wires_by_out : (w v : Wire) → WireIn m M w → WireIn m M v → w.out ≡ v.out → w ≡ v
  wires_by_out w v a b e =
      let q : a.x ≡ b.x = outer_apart a.x b.x a.end b.end (ap (λ (u : Wire). u.out) (sym a.is) ∙ e ∙ ap (λ (u : Wire). u.out) b.is) in
      let j = a.joined in
      let k = b.joined in
      let r : a.y ≡ b.y = cc in
      a.is ∙ ((λ i. record { out = outer m M (q i); into = outer m M (r i) }) ∙ sym b.is)

  pub wires_by_into : (w v : Wire) → WireIn m M w → WireIn m M v → w.into ≡ v.into → w ≡ v
  wires_by_into w v a b e =
      let q : a.y ≡ b.y =
      outer_apart a.y b.y (ends_join_ends a.x a.y a.end a.joined) (ends_join_ends b.x b.y b.end b.joined)
      (ap (λ (u : Wire). u.into) (sym a.is) ∙ e ∙ ap (λ (u : Wire). u.into) b.is) in
      let j = f.good.join_back a.x a.y a.joined in
      let k = f.good.join_back b.x b.y b.joined in
      let r : a.x ≡ b.x = cc in
      a.is ∙ ((λ i. record { out = outer m M (r i); into = outer m M (q i) }) ∙ sym b.is)

  pub out_side : (w : Wire) → WireIn m M w → w.out.side ≡ Outgoing
  out_side w a = ap (λ (u : Wire). u.out.side) a.is ∙ (outer_side a.x a.end ∙ a.outgoing)

  pub into_side : (w : Wire) → WireIn m M w → w.into.side ≡ Incoming
  into_side w a =
      ap (λ (u : Wire). u.into.side) a.is
      ∙ (outer_side a.y (ends_join_ends a.x a.y a.end a.joined)
      ∙ other_side Outgoing a.y.side (λ e. f.good.join_sides a.x a.y a.joined (a.outgoing ∙ e)))

  pub out_not_into : (w v : Wire) → WireIn m M w → WireIn m M v → w.out ≡ v.into → ⊥
  out_not_into w v a b e =
      let p = out_side w a in
      let q = into_side v b in
      let r = ap (λ (y : Place). y.side) e in
      zero_is_not_one (cc)

  -- Ports as walked.

  pub ports_of_side_lem : (n : ℕ) (d : Direction) (k : NodeMeta) → M.node n ≡ live k → ports_of_side m d n ≡ range (k.first_port.0 + side_start (live k) d) (ports_on k d)
  unfolding ports_of_side
  ports_of_side_lem n d k e =
      ap (λ (c : ℕ). map (port_of m.graph n d) (range 0 c)) (count_of_lem n d ∙ ap (λ (v : Slots). count_of v d) e)
      ∙ (map_range (port_of m.graph n d) (k.first_port.0 + side_start (live k) d) 0 (ports_on k d) at_slot
      ∙ ap (λ (i : ℕ). range i (ports_on k d)) (omega arith))
    where
      at_slot : (j : ℕ) → j < 0 + ports_on k d → port_of m.graph n d j ≡ k.first_port.0 + side_start (live k) d + j
      at_slot j l =
          port_of_lem n d j (subst (λ (v : Slots). j < count_of v d) (sym e) (omega arith))
          ∙ (ap (λ (v : Slots). first_of v + (side_start v d + j)) e ∙ omega arith)

  -- a split port of a block has subports
  pub split_has_subports : (x : model.InnerPlace) → Seen m M x → is_split m (slot_of M.node x) ≡ true → 2 ≤ subports m (slot_of M.node x) x.side
  split_has_subports x s t = let k = split_has_copy x s t in subst (λ (c : ℕ). 2 ≤ c) (sym k.count) k.several

  side_once : (n : ℕ) (d : Direction) (k : NodeMeta) → BlockIs m M n k →
      map (λ (t : SubportIndex). t.port.0) (filter is_first (subports_of_side m n d)) ≡ range (k.first_port.0 + side_start (live k) d) (ports_on k d)
  unfolding subports_of_side
  side_once n d k b =
      ap (λ (l : List ℕ). map (λ (t : SubportIndex). t.port.0) (filter is_first (flat_map (subports_of_port m d) l))) (ports_of_side_lem n d k b.1)
      ∙ ports_once m d (k.first_port.0 + side_start (live k) d) (ports_on k d) several
    where
      several : (p : ℕ) → k.first_port.0 + side_start (live k) d ≤ p → p < k.first_port.0 + side_start (live k) d + ports_on k d → is_split m p ≡ true → 0 < subports m p d
      several p a c t =
          let x : model.InnerPlace = inner# n d (p - (k.first_port.0 + side_start (live k) d)) in
          let v : Valid M.node x = subst (λ (s : Slots). p - (k.first_port.0 + side_start (live k) d) < count_of s d) (sym b.1) (omega arith) in
          let q : slot_of M.node x ≡ p = ap (λ (s : Slots). first_of s + (side_start s d + (p - (k.first_port.0 + side_start (live k) d)))) b.1 ∙ omega arith in
          let r : 2 ≤ subports m p d = subst (λ (s : ℕ). 2 ≤ subports m s d) q (split_has_subports x (v, b.0) (ap (is_split m) q ∙ t)) in
          omega arith

  pub ports_walked_lem : (n : ℕ) (k : NodeMeta) → BlockIs m M n k → ports_walked m n ≡ range k.first_port.0 k.incoming ++ range (k.first_port.0 + k.incoming) k.outgoing
  unfolding ports_walked
  ports_walked_lem n k b =
      let i = side_once n Incoming k b in
      let o = side_once n Outgoing k b in
      let q : k.first_port.0 + 0 ≡ k.first_port.0 = omega arith in
      ap (map (λ (t : SubportIndex). t.port.0)) (filter-append is_first (subports_of_side m n Incoming) (subports_of_side m n Outgoing))
      ∙ (map-append (λ (t : SubportIndex). t.port.0) (filter is_first (subports_of_side m n Incoming)) (filter is_first (subports_of_side m n Outgoing))
      ∙ ((λ j. i j ++ o j) ∙ ap (λ (s : ℕ). range s k.incoming ++ range (k.first_port.0 + k.incoming) k.outgoing) q))

-- A port of a block where the blocks are the same: it is one still, with its number.
pub seen_still : {m : MultiPortGraph} {M : Model} {m' : MultiPortGraph} {M' : Model} → Fine m M → Fine m' M' → SameBlocks m M m' M' → (x : model.InnerPlace) → Seen m M x →
    Seen m' M' x × (slot_of M'.node x ≡ slot_of M.node x)
seen_still {m} {M} {m'} {M'} f f' same x s =
    let b = slot_in_block f.good x s.0 in
    let r = same.0 x.node b.0 (s.1, b.1) in
    let q : M'.node x.node ≡ M.node x.node = r.1 ∙ sym b.1 in
    ((subst (λ (t : Slots). x.pos < count_of t x.side) (sym q) s.0, r.0), ap (λ (t : Slots). first_of t + (side_start t x.side + x.pos)) q)
