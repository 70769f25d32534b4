-- Steps of the loops that lay blocks, and of the walk that lists them, over plain values.
use Rattle.std.specs.Prelude.{◌≡◌, Bool, true, false, ltb, length, replicate, set, Option, Some, None}
use Rattle.std.proofs.Math.Path.{refl, sym, ap}
use Rattle.std.proofs.Common.{◌∙◌, eq-eqb, ne_eqb, ltb-true, ltb-false}
use mathlib.Core.List.{List, [], ◌∷◌, ◌++◌, flat_map, map}
use Prim.Native.Nat.{ℕ, zero, suc, ◌+◌, ◌-◌, ◌≤◌, ◌<◌}
use native.Mathlib.Omega.{arith}
use Rattle.std.proofs.Math.Seq.{sets}
use Rattle.port_tables.specs.Limits.{node_slots, port_slots, free_lists}
use Rattle.port_tables.specs.Lists.{range}
use Rattle.port_tables.specs.Tables.{at, put, head_at}
use Rattle.portgraph.specs.GoodSlots.{zero_is_not_one}
use Rattle.port_tables.specs.NodeTable.{meta_in}
use Rattle.portgraph.specs.declared.portgraph.PortGraph.{PortGraph}
use Rattle.port_tables.specs.declared.node_entry.NodeSlot.{NodeSlot}
use Rattle.port_tables.specs.declared.node_entry.NodeMeta.{NodeMeta}
use Rattle.slots.specs.Blocks.{Holder, by_node, free, SlotBlock, slot_block, node_holds, held_blocks, chained, free_of, free_blocks, holder_number, holder_of, size_of, holder_of_block, laid, sizes_laid, holders_laid, walk_blocks, slot_list, block_numbers, node_of, told, block_told, slots_told, told_numbers, node_number}
use Rattle.port_tables.specs.declared.index.NodeIndex.{NodeIndex}
use Rattle.slots.specs.declared.listing.SlotBlock as listed
use Rattle.slots.specs.Forms.{list_in, taken_in, list_from, free_in, LaysBoth}
use Rattle.port_tables.specs.TableSteps.{at_outside}
use Rattle.port_tables.specs.Listing.{flat_map_on, flat_map_end}

-- Laying.

laid_append : (f : SlotBlock → ℕ) (a b : List SlotBlock) (t : List ℕ) → laid f (a ++ b) t ≡ laid f b (laid f a t)
unfolding laid
laid_append f [] b t = refl
laid_append f (x ∷ a) b t = laid_append f a b (put t x.first (f x))

-- nothing is laid
pub lays_none : (s h : List ℕ) → LaysBoth [] s h s h
unfolding laid
lays_none s h = record { sizes_are = refl; holders_are = refl }

-- one block is laid
pub lays_one : (first size holder : ℕ) (s h s' h' : List ℕ) (slot : ℕ) → slot ≡ first → s' ≡ put s slot size → h' ≡ put h slot holder →
    LaysBoth (slot_block first size (holder_of holder) ∷ []) s h s' h'
unfolding laid
lays_one first size holder s h s' h' slot e p q =
    record { sizes_are = p ∙ ap (λ (i : ℕ). put s i size) e; holders_are = q ∙ (ap (λ (i : ℕ). put h i holder) e ∙ ap (put h first) (sym (back holder))) }
  where
    back : (n : ℕ) → holder_number (holder_of n) ≡ n
    back zero = refl
    back (suc n) = refl

-- some blocks, and then others
pub lays_then : {a b : List SlotBlock} {s h s' h' s'' h'' : List ℕ} → LaysBoth a s h s' h' → LaysBoth b s' h' s'' h'' → LaysBoth (a ++ b) s h s'' h''
lays_then {a} {b} {s} {h} x y =
    record {
      sizes_are = y.sizes_are ∙ (ap (laid size_of b) x.sizes_are ∙ sym (laid_append size_of a b s));
      holders_are = y.holders_are ∙ (ap (laid holder_of_block b) x.holders_are ∙ sym (laid_append holder_of_block a b h));
    }

-- Where some blocks of a whole are laid and the rest are left: the rest laid on what is laid now is the whole laid on what was at first.
pub record Left (whole rest : List SlotBlock) (s₀ h₀ s h : List ℕ) : Type 0 where
  pub sizes_are : laid size_of rest s ≡ laid size_of whole s₀
  pub holders_are : laid holder_of_block rest h ≡ laid holder_of_block whole h₀

pub left_all : (whole : List SlotBlock) (s h : List ℕ) → Left whole whole s h s h
left_all whole s h = record { sizes_are = refl; holders_are = refl }

pub left_turn : {whole a rest : List SlotBlock} {s₀ h₀ s h s' h' : List ℕ} → Left whole (a ++ rest) s₀ h₀ s h → LaysBoth a s h s' h' → Left whole rest s₀ h₀ s' h'
left_turn {whole} {a} {rest} {s₀} {h₀} {s} {h} x y =
    record {
      sizes_are = ap (laid size_of rest) y.sizes_are ∙ (sym (laid_append size_of a rest s) ∙ x.sizes_are);
      holders_are = ap (laid holder_of_block rest) y.holders_are ∙ (sym (laid_append holder_of_block a rest h) ∙ x.holders_are);
    }

pub left_none : {whole : List SlotBlock} {s₀ h₀ s h : List ℕ} → Left whole [] s₀ h₀ s h → LaysBoth whole s₀ h₀ s h
unfolding laid
left_none x = record { sizes_are = x.sizes_are; holders_are = x.holders_are }

-- what f gives for the numbers from o on and below n: the first, and the rest

-- a free list: none left, the next block, or its bound reached
pub list_end : (links : List ℕ) (size n : ℕ) → list_from links 0 size n ≡ []
unfolding list_from chained
list_end links size zero = refl
list_end links size (suc n) = refl

pub list_on : (links : List ℕ) (head size n : ℕ) → (head ≡ 0 → ⊥) → 0 < n → list_from links head size n ≡ (slot_block (head - 1) size free ∷ []) ++ list_from links (at links (head - 1)) size (n - 1)
unfolding list_from chained
list_on links head size zero some never = absurd (omega arith)
list_on links head size (suc n) some h =
    let e : suc n - 1 ≡ n = omega arith in
    rw (ne_eqb head 0 some, e)

-- The tables.

pub listed_in : (g : PortGraph) → list_in g.node_meta g.port_link g.port_free ≡ slot_list g
unfolding list_in slot_list sizes_laid holders_laid held_blocks free_blocks taken_in free_in list_from free_of
listed_in g = refl

-- Turns of the loops.

module _ {whole : List SlotBlock} {s₀ h₀ s h : List ℕ} where
  -- over numbers that ascend
  pub range_turn : (f : ℕ → List SlotBlock) (o n : ℕ) {s' h' : List ℕ} → Left whole (flat_map f (range o (n - o))) s₀ h₀ s h → o < n → LaysBoth (f o) s h s' h' →
      Left whole (flat_map f (range (o + 1) (n - (o + 1)))) s₀ h₀ s' h'
  range_turn f o n x l y = left_turn {a = f o} (rw (sym (flat_map_on f o n l)) x) y

  pub range_done : (f : ℕ → List SlotBlock) (o n : ℕ) → Left whole (flat_map f (range o (n - o))) s₀ h₀ s h → n ≤ o → LaysBoth whole s₀ h₀ s h
  range_done f o n x l = left_none (rw (sym (flat_map_end f o n l)) x)

  -- along a free list
  pub list_turn : (links : List ℕ) (next size count first wide after : ℕ) {s' h' : List ℕ} → Left whole (list_from links next size (port_slots - count)) s₀ h₀ s h →
      (next ≡ 0 → ⊥) → count < port_slots → first ≡ next - 1 → LaysBoth (slot_block first size free ∷ []) s h s' h' → wide ≡ first → after ≡ at links wide →
      Left whole (list_from links after size (port_slots - (count + 1))) s₀ h₀ s' h'
  list_turn links next size count first wide after {s'} {h'} x some l e y w r =
      let n : port_slots - count - 1 ≡ port_slots - (count + 1) = omega arith in
      let on = list_on links next size (port_slots - count) some (omega arith) in
      let a : at links (next - 1) ≡ after = ap (at links) (sym (w ∙ e)) ∙ sym r in
      left_turn {a = slot_block first size free ∷ []}
      (rw (sym (on ∙ (λ i. (slot_block (sym e i) size free ∷ []) ++ list_from links (a i) size (n i)))) x) y

  pub list_done : (links : List ℕ) (next size n : ℕ) → Left whole (list_from links next size n) s₀ h₀ s h → next ≡ 0 → LaysBoth whole s₀ h₀ s h
  list_done links next size n x z = left_none (rw (sym (ap (λ (k : ℕ). list_from links k size n) z ∙ list_end links size n)) x)

  pub list_out : (links : List ℕ) (next size n : ℕ) → Left whole (list_from links next size n) s₀ h₀ s h → n ≡ 0 → LaysBoth whole s₀ h₀ s h
  unfolding list_from chained
  list_out links next size n x z = left_none (rw (sym (ap (list_from links next size) z)) x)

-- all that is held, and all that is free, is left at first
pub held_begun : (nodes : List NodeSlot) (s h : List ℕ) → Left (taken_in nodes) (flat_map (λ n. node_holds n (meta_in nodes n)) (range 0 (node_slots - 0))) s h s h
unfolding taken_in
held_begun nodes s h = left_all _ s h

pub free_begun : (links heads s h : List ℕ) → Left (free_in links heads) (flat_map (λ k. list_from links (head_at heads k) k port_slots) (range 1 (free_lists - 1))) s h s h
unfolding free_in
free_begun links heads s h = left_all _ s h

-- The walk.

-- a slot at which something is laid lies within the table
pub laid_inside : (t : List ℕ) (s v : ℕ) → v ≡ at t s → (v ≡ 0 → ⊥) → s < port_slots
laid_inside t s v e some = go (ltb s port_slots) refl
  where
    go : (b : Bool) → ltb s port_slots ≡ b → s < port_slots
    go true q = ltb-true s port_slots q
    go false q = absurd (some (e ∙ sym (at_outside t s (ltb-false s port_slots q))))

-- so many blocks are listed, and the rest are left
pub record Listing (whole rest : List SlotBlock) (l₀ l : List listed.SlotBlock) (count : ℕ) : Type 0 where
  pub counted : count + length rest ≡ length whole
  pub same : sets l count (map block_told rest) ≡ sets l₀ 0 (map block_told whole)

listing_on : {whole rest : List SlotBlock} {l₀ l l' : List listed.SlotBlock} {count : ℕ} (b : SlotBlock) → Listing whole (b ∷ rest) l₀ l count → l' ≡ set l count (block_told b) → Listing whole rest l₀ l' (count + 1)
listing_on {whole} {rest} {l₀} {l} {l'} {count} b x e =
    let c = x.counted in
    let p : count + 1 ≡ suc count = omega arith in
    record { counted = omega arith; same = rw (e, p) x.same }

module _ (sizes holders : List ℕ) {whole : List SlotBlock} {l₀ l : List listed.SlotBlock} where
  pub walk_turn : (slot count size holder wide : ℕ) (held : Option NodeIndex) {l' : List listed.SlotBlock} → Listing whole (walk_blocks sizes holders slot (port_slots - count)) l₀ l count → count < port_slots →
      size ≡ at sizes slot → (size ≡ 0 → ⊥) → holder ≡ at holders slot → held ≡ node_of (holder_of holder) → l' ≡ set l count (told slot size held) → wide ≡ size →
      Listing whole (walk_blocks sizes holders (slot + wide) (port_slots - (count + 1))) l₀ l' (count + 1)
  unfolding walk_blocks
  walk_turn slot count size holder wide held {l'} x h e some f d g w =
      let n : port_slots - count ≡ suc (port_slots - (count + 1)) = omega arith in
      let nonzero : at sizes slot ≡ 0 → ⊥ = λ z. some (e ∙ z) in
      let on : walk_blocks sizes holders slot (port_slots - count) ≡ slot_block slot (at sizes slot) (holder_of (at holders slot)) ∷ walk_blocks sizes holders (slot + at sizes slot) (port_slots - (count + 1)) =
      ap (walk_blocks sizes holders slot) n ∙ rw (ne_eqb (at sizes slot) 0 nonzero) in
      let same : l' ≡ set l count (block_told (slot_block slot (at sizes slot) (holder_of (at holders slot)))) =
      g ∙ (λ i. set l count (told slot (e i) ((d ∙ ap (λ (k : ℕ). node_of (holder_of k)) f) i))) in
      let next : slot + at sizes slot ≡ slot + wide = ap (λ (k : ℕ). slot + k) (sym (w ∙ e)) in
      listing_on {l = l} {count = count} (slot_block slot (at sizes slot) (holder_of (at holders slot)))
      (rw (sym (on ∙ ap (λ (k : ℕ). slot_block slot (at sizes slot) (holder_of (at holders slot)) ∷ walk_blocks sizes holders k (port_slots - (count + 1))) next)) x) same

  ended : (count : ℕ) (rest : List SlotBlock) → rest ≡ [] → Listing whole rest l₀ l count → (count ≡ length whole) × (l ≡ sets l₀ 0 (map block_told whole))
  ended count [] e x = let c = x.counted in (omega arith, x.same)
  ended count (b ∷ rest) e x = absurd (zero_is_not_one (cc))

  pub walk_done : (slot count size : ℕ) → Listing whole (walk_blocks sizes holders slot (port_slots - count)) l₀ l count → size ≡ at sizes slot → size ≡ 0 →
      (count ≡ length whole) × (l ≡ sets l₀ 0 (map block_told whole))
  unfolding walk_blocks
  walk_done slot count size x e z = ended count (walk_blocks sizes holders slot (port_slots - count)) (none (port_slots - count)) x
    where
      none : (n : ℕ) → walk_blocks sizes holders slot n ≡ []
      none zero = refl
      none (suc n) = rw (eq-eqb (at sizes slot) 0 (sym e ∙ z))

  pub walk_out : (slot count : ℕ) → Listing whole (walk_blocks sizes holders slot (port_slots - count)) l₀ l count → port_slots ≤ count →
      (count ≡ length whole) × (l ≡ sets l₀ 0 (map block_told whole))
  unfolding walk_blocks
  walk_out slot count x h =
      let n : port_slots - count ≡ 0 = omega arith in
      ended count (walk_blocks sizes holders slot (port_slots - count)) (ap (walk_blocks sizes holders slot) n) x

-- The block of a node: none where it is not live or has no slot.
module _ (nodes : List NodeSlot) (n : ℕ) (v : Option NodeMeta) (s h : List ℕ) where
  pub node_gone : v ≡ meta_in nodes n → v ≡ None → LaysBoth (node_holds n (meta_in nodes n)) s h s h
  node_gone e z = rw (sym e ∙ z) (lays_none s h)

  pub node_blockless : (k : NodeMeta) → v ≡ meta_in nodes n → v ≡ Some k → k.capacity ≡ 0 → LaysBoth (node_holds n (meta_in nodes n)) s h s h
  node_blockless k e f z = rw (sym e ∙ f, eq-eqb k.capacity 0 z) (lays_none s h)

  pub node_block : (k : NodeMeta) {s' h' : List ℕ} → v ≡ meta_in nodes n → v ≡ Some k → (k.capacity ≡ 0 → ⊥) →
      LaysBoth (slot_block k.first_port.0 k.capacity (holder_of (n + 1)) ∷ []) s h s' h' → LaysBoth (node_holds n (meta_in nodes n)) s h s' h'
  node_block k {s'} {h'} e f some x =
      let q : n + 1 ≡ suc n = omega arith in
      rw (sym e ∙ f, ne_eqb k.capacity 0 some) (rw q at x)

-- a free list from the head that was read
pub from_head : (links heads : List ℕ) (size head : ℕ) {s h s' h' : List ℕ} → head ≡ head_at heads size → LaysBoth (list_from links head size port_slots) s h s' h' →
    LaysBoth (list_from links (head_at heads size) size port_slots) s h s' h'
from_head links heads size head e x = rw e at x

-- Both tables, from nothing laid: what is held and then what is free.
pub laid_all : (nodes : List NodeSlot) (links heads : List ℕ) {s₀ h₀ s h s' h' : List ℕ} → (s₀ ≡ replicate port_slots 0) × (h₀ ≡ replicate port_slots 0) → LaysBoth (taken_in nodes) s₀ h₀ s h → LaysBoth (free_in links heads) s h s' h' →
    (walk_blocks s' h' 0 port_slots ≡ list_in nodes links heads)
unfolding list_in
laid_all nodes links heads none x y =
    let z = lays_then {a = taken_in nodes} {b = free_in links heads} x y in
    let all = taken_in nodes ++ free_in links heads in
    λ i. walk_blocks ((z.sizes_are ∙ ap (laid size_of all) none.0) i) ((z.holders_are ∙ ap (laid holder_of_block all) none.1) i) 0 port_slots

-- the walk over them lists the blocks of the tables
pub listed_so : (blocks list : List SlotBlock) (l l' : List listed.SlotBlock) (r : ℕ) → blocks ≡ list → (r ≡ length blocks) × (l' ≡ sets l 0 (map block_told blocks)) →
    (r ≡ length list) × (l' ≡ sets l 0 (map block_told list))
listed_so blocks list l l' r e x = (x.0 ∙ ap length e, x.1 ∙ ap (λ (b : List SlotBlock). sets l 0 (map block_told b)) e)

-- and those of the graph whose tables they are
pub listed_of : (g : PortGraph) (l l' : List listed.SlotBlock) (r : ℕ) → (r ≡ length (list_in g.node_meta g.port_link g.port_free)) × (l' ≡ sets l 0 (map block_told (list_in g.node_meta g.port_link g.port_free))) →
    (r ≡ length (slot_list g)) × (l' ≡ sets l 0 (slots_told g))
unfolding slots_told
listed_of g l l' r x = listed_so (list_in g.node_meta g.port_link g.port_free) (slot_list g) l l' r (listed_in g) x

-- The blocks that are told have the numbers of the listing.
pub told_alike : (l : List SlotBlock) → flat_map told_numbers (map block_told l) ≡ flat_map block_numbers l
unfolding flat_map
told_alike [] = refl
told_alike (b ∷ l) = λ i. b.first ∷ b.size ∷ same b.holder i ∷ told_alike l i
  where
    same : (h : Holder) → node_number (node_of h) ≡ holder_number h
    same (by_node n) = refl
    same free = refl
