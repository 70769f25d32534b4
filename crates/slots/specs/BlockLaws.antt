-- The blocks read off the tables are those of the model that the tables stand for; so every slot of the used length lies in one of them,
-- and the listing has them end to end.
use Rattle.std.specs.Prelude.{◌≡◌, Bool, cond, ltb, length, replicate, Option, Some, None}
use Rattle.std.proofs.Math.Path.{refl, ap}
use Rattle.std.proofs.Common.{sym, ◌∙◌, subst, inl, inr, arith}
use Rattle.std.proofs.Math.Bool.{true, false}
use mathlib.Core.List.{List, [], ◌∷◌, flat_map}
use Rattle.std.proofs.Math.Logic.{⊎_elim}
use Prim.Native.Nat.{ℕ, zero, suc, ◌+◌, ◌-◌, ◌≤◌, ◌<◌}
use Rattle.std.proofs.Math.Dec.{eqb}
use Rattle.std.proofs.lemmas.List.{length-replicate}
use borrow.Author.Tests.{eqb-true, eqb-false, eq-eqb, ne_eqb, ltb-true, ltb-false}
use Rattle.std.proofs.lemmas.List.{get_or-replicate}
use Rattle.port_tables.specs.Limits.{node_slots, port_slots, node_ports}
use Rattle.port_tables.specs.Lists.{Member, Once, Rising, range}
use Rattle.port_tables.specs.Tables.{at, put, head_at, Within}
use Rattle.portgraph.specs.Lookups.{meta_at}
use Rattle.portgraph.specs.Model.{Model, live, Who, held, idle, unused, Good, Holds, Chain}
use Rattle.portgraph.specs.GoodSlots.{same_held, held_not_idle, free_block_of_one, node_below}
use Rattle.portgraph.specs.TableLaws.{length_put, at_put_same, at_put_other}
use Rattle.portgraph.specs.PlaceLaws.{meta_of_node, node_of_meta}
use Rattle.port_tables.specs.declared.node_entry.NodeMeta.{NodeMeta}
use Rattle.portgraph.specs.declared.portgraph.PortGraph.{PortGraph}
use Rattle.port_tables.specs.Listing.{Apart, once_apart, rising_once, apart_below, member_left, member_right, member_append, member_flat_map, flat_map_member, member_map, map_member, range_member, range_rises, rising_append, rising_flat_map, rising_map}
use Rattle.slots.specs.Blocks.{Holder, by_node, free, SlotBlock, slot_block, node_holds, held_blocks, chained, free_of, listed_free, free_blocks, blocks_of, holder_number, size_of, holder_of_block, laid, sizes_laid, holders_laid, slot_list}
use Rattle.slots.specs.SlotClaims.{InBlock, SlotsAccounted, SlotsListed}
use Rattle.slots.specs.TileLaws.{walk_tiles, walk_gives, tiles_rise, tiles_add}
use Rattle.port_tables.specs.TableSteps.{at_inside, at_outside}

-- Free lists.

chained_is : (t : List ℕ) (h : ℕ) (l : List ℕ) (n : ℕ) → Chain t h l → length l ≤ n → chained t h n ≡ l
unfolding chained
chained_is t h [] zero c k = refl
chained_is t h [] (suc n) c k = rw (eq-eqb h 0 c)
chained_is t h (b ∷ l) zero c k = absurd (omega arith)
chained_is t h (b ∷ l) (suc n) c k =
    let e = c.0 in
    let z : h - 1 ≡ b = omega arith in
    rw (ne_eqb h 0 (omega arith), z, chained_is t (at t b) l n c.1 (omega arith))

-- A number that each block lays at its first slot is read there, if blocks with one first slot lay the same.

module _ (f : SlotBlock → ℕ) where
  laid_keeps : (l : List SlotBlock) (t : List ℕ) (s v : ℕ) → length t ≡ port_slots → s < port_slots → ((c : SlotBlock) → Member c l → c.first ≡ s → f c ≡ v) → at t s ≡ v → at (laid f l t) s ≡ v
  unfolding laid
  laid_keeps [] t s v long small same e = e
  laid_keeps (c ∷ l) t s v long small same e =
      laid_keeps l (put t c.first (f c)) s v (length_put t c.first (f c) ∙ long) small (λ d i. same d (inr i)) (go (eqb c.first s) refl)
    where
      go : (b : Bool) → eqb c.first s ≡ b → at (put t c.first (f c)) s ≡ v
      go true q =
          let z = eqb-true c.first s q in
          ap (λ (i : ℕ). at (put t i (f c)) s) z ∙ (at_put_same t s (f c) long small ∙ same c (inl refl) z)
      go false q = at_put_other t c.first s (f c) (eqb-false c.first s q) ∙ e

  laid_read : (l : List SlotBlock) (t : List ℕ) (b : SlotBlock) → length t ≡ port_slots → b.first < port_slots → Member b l → ((c : SlotBlock) → Member c l → c.first ≡ b.first → f c ≡ f b) →
      at (laid f l t) b.first ≡ f b
  unfolding laid
  laid_read [] t b long small never same = absurd never
  laid_read (c ∷ l) t b long small (inl e) same =
      laid_keeps l (put t c.first (f c)) b.first (f b) (length_put t c.first (f c) ∙ long) small (λ d i. same d (inr i))
      (ap (λ (d : SlotBlock). at (put t d.first (f d)) b.first) (sym e) ∙ at_put_same t b.first (f b) long small)
  laid_read (c ∷ l) t b long small (inr i) same =
      laid_read l (put t c.first (f c)) b (length_put t c.first (f c) ∙ long) small i (λ d j. same d (inr j))

-- A block of the model: a live node's, or one that is listed as free.
abbrev pub Has : Model → ℕ → ℕ → Holder → Type 0
Has M f k (by_node n) = (m : NodeMeta) × (M.node n ≡ live m) × (m.first_port.0 ≡ f) × (m.capacity ≡ k) × (0 < k)
Has M f k free = Member f (M.free_blocks k)

module _ {M : Model} (good : Good M) where
  pub has_some : (f k : ℕ) (h : Holder) → Has M f k h → 0 < k
  has_some f k (by_node n) b = b.4
  has_some f k free b = (good.idle_ends k f b).0

  pub has_within : (f k : ℕ) (h : Holder) → Has M f k h → f + k ≤ M.port_len
  has_within f k (by_node n) b = let e = good.block_ends n b.0 b.1 in let p = b.2 in let q = b.3 in omega arith
  has_within f k free b = (good.idle_ends k f b).2

  has_small : (f k : ℕ) (h : Holder) → Has M f k h → k ≤ node_ports
  has_small f k (by_node n) b = let e = good.block_small n b.0 b.1 in let q = b.3 in omega arith
  has_small f k free b = (good.idle_ends k f b).1

  has_lies : (s : ℕ) → s < M.port_len → (f : ℕ) × (k : ℕ) × (h : Holder) × Has M f k h × Within f k s
  has_lies s l = go (M.who s) refl
    where
      go : (w : Who) → M.who s ≡ w → (f : ℕ) × (k : ℕ) × (h : Holder) × Has M f k h × Within f k s
      go (held n) e =
          let r = good.held_in s n e in
          let w = r.2 in
          (r.0.first_port.0, r.0.capacity, by_node n, (r.0, r.1, refl, refl, omega arith), w)
      go (idle b k) e = let r = good.idle_in s b k e in (b, k, free, r.0, r.1)
      go unused e = absurd (good.used_has s l e)

  held_within : (n f k s : ℕ) → Has M f k (by_node n) → Within f k s → M.who s ≡ held n
  held_within n f k s b w = let p = b.2 in let q = b.3 in good.held_by n b.0 s b.1 (omega arith, omega arith)

  has_alone : (s f k : ℕ) (h : Holder) (f' k' : ℕ) (h' : Holder) → Has M f k h → Has M f' k' h' → Within f k s → Within f' k' s → slot_block f k h ≡ slot_block f' k' h'
  has_alone s f k (by_node n) f' k' (by_node i) a b u v =
      let e : n ≡ i = same_held (held_within n f k s a u) (held_within i f' k' s b v) in
      let p = a.1 in
      let q : M.node n ≡ live b.0 = ap M.node e ∙ b.1 in
      let same : a.0 ≡ b.0 = cc in
      let x : f ≡ f' = sym a.2 ∙ (ap (λ (m : NodeMeta). m.first_port.0) same ∙ b.2) in
      let y : k ≡ k' = sym a.3 ∙ (ap (λ (m : NodeMeta). m.capacity) same ∙ b.3) in
      cc
  has_alone s f k (by_node n) f' k' free a b u v = absurd (held_not_idle (held_within n f k s a u) (good.idle_by k' f' s b v))
  has_alone s f k free f' k' (by_node i) a b u v = absurd (held_not_idle (held_within i f' k' s b v) (good.idle_by k f s a u))
  has_alone s f k free f' k' free a b u v = let r = free_block_of_one good k f k' f' s a b u v in let x = r.0 in let y = r.1 in cc

-- The blocks of the tables.
module _ {g : PortGraph} {M : Model} (good : Good M) (holds : Holds g M) where
  pub free_of_lem : (k : ℕ) → free_of g k ≡ M.free_blocks k
  unfolding free_of
  free_of_lem k =
      chained_is g.port_link (head_at g.port_free k) (M.free_blocks k) port_slots (holds.block_chain k)
      (apart_below port_slots (M.free_blocks k) (once_apart (M.free_blocks k) (good.idle_once k))
      (λ b i. let e = good.idle_ends k b i in let p = e.0 in let q = e.2 in let f = good.ports_fit in omega arith))

  of_meta : (n : ℕ) (v : Option NodeMeta) (b : SlotBlock) → meta_at g n ≡ v → Member b (node_holds n v) → Has M b.first b.size b.holder
  of_meta n None b e i = absurd i
  of_meta n (Some k) b e i = go (eqb k.capacity 0) refl i
    where
      go : (z : Bool) → eqb k.capacity 0 ≡ z → Member b (cond z [] (slot_block k.first_port.0 k.capacity (by_node n) ∷ [])) → Has M b.first b.size b.holder
      go true q i = absurd i
      go false q i =
          let c = eqb-false k.capacity 0 q in
          ⊎_elim (λ e'. subst (λ (x : SlotBlock). Has M x.first x.size x.holder) (sym e') (k, node_of_meta good holds n k e, refl, refl, omega arith)) (λ x. absurd x) i

  pub in_blocks : (b : SlotBlock) → Member b (blocks_of g) → Has M b.first b.size b.holder
  unfolding held_blocks free_blocks
  in_blocks b i = ⊎_elim nodes listed (member_append b (held_blocks g) (free_blocks g) i)
    where
      nodes : Member b (flat_map (λ n. node_holds n (meta_at g n)) (range 0 node_slots)) → Has M b.first b.size b.holder
      nodes j = let r = member_flat_map (λ n. node_holds n (meta_at g n)) b (range 0 node_slots) j in of_meta r.0 (meta_at g r.0) b refl r.2

      listed : Member b (flat_map (listed_free g) (range 1 node_ports)) → Has M b.first b.size b.holder
      listed j =
          let r = member_flat_map (listed_free g) b (range 1 node_ports) j in
          let c = member_map (λ f. slot_block f r.0 free) b (free_of g r.0) r.2 in
          subst (λ (x : SlotBlock). Has M x.first x.size x.holder) (sym c.2) (subst (Member c.0) (free_of_lem r.0) c.1)

  pub blocks_lent : (f k : ℕ) (h : Holder) → Has M f k h → Member (slot_block f k h) (blocks_of g)
  unfolding held_blocks free_blocks
  blocks_lent f k (by_node n) b =
      let u = node_below good n b.0 b.1 in
      let x = b.2 in
      let y = b.3 in
      let z = b.4 in
      let mine : Member (slot_block f k (by_node n)) (node_holds n (meta_at g n)) =
      rw (meta_of_node good holds n b.0 b.1, ne_eqb b.0.capacity 0 (omega arith), x, y) (inl refl) in
      member_left (slot_block f k (by_node n)) (held_blocks g) (free_blocks g)
      (flat_map_member (λ n. node_holds n (meta_at g n)) (slot_block f k (by_node n)) n (range 0 node_slots) (range_member n 0 node_slots (omega arith) (omega arith)) mine)
  blocks_lent f k free b =
      let s = has_some good f k free b in
      let l = has_small good f k free b in
      member_right (slot_block f k free) (held_blocks g) (free_blocks g)
      (flat_map_member (listed_free g) (slot_block f k free) k (range 1 node_ports) (range_member k 1 node_ports (omega arith) (omega arith))
      (map_member (λ x. slot_block x k free) f (free_of g k) (subst (Member f) (sym (free_of_lem k)) b)))

  -- each is listed once
  held_once : Rising Apart (held_blocks g)
  unfolding held_blocks
  held_once =
      rising_flat_map ◌<◌ Apart (λ n. node_holds n (meta_at g n)) (range 0 node_slots) (range_rises 0 node_slots)
      (λ n i. single n (meta_at g n))
      (λ n i x y a b l j k e.
      let u : holder_number x.holder ≡ suc n = holder_of n (meta_at g n) x j in
      let v : holder_number y.holder ≡ suc i = holder_of i (meta_at g i) y k in
      let w = ap (λ (z : SlotBlock). holder_number z.holder) e in
      omega arith)
    where
      single : (n : ℕ) (v : Option NodeMeta) → Rising Apart (node_holds n v)
      single n None = tt
      single n (Some k) = go (eqb k.capacity 0)
        where
          go : (z : Bool) → Rising Apart (cond z [] (slot_block k.first_port.0 k.capacity (by_node n) ∷ []))
          go true = tt
          go false = ((λ y i. absurd i), tt)

      holder_of : (n : ℕ) (v : Option NodeMeta) (x : SlotBlock) → Member x (node_holds n v) → holder_number x.holder ≡ suc n
      holder_of n None x i = absurd i
      holder_of n (Some k) x i = go (eqb k.capacity 0) i
        where
          go : (z : Bool) → Member x (cond z [] (slot_block k.first_port.0 k.capacity (by_node n) ∷ [])) → holder_number x.holder ≡ suc n
          go true i = absurd i
          go false i = ⊎_elim (λ e. ap (λ (y : SlotBlock). holder_number y.holder) e) (λ y. absurd y) i

  free_is_free : (b : SlotBlock) → Member b (free_blocks g) → holder_number b.holder ≡ 0
  unfolding free_blocks
  free_is_free b i =
      let r = member_flat_map (listed_free g) b (range 1 node_ports) i in
      let c = member_map (λ f. slot_block f r.0 free) b (free_of g r.0) r.2 in
      ap (λ (x : SlotBlock). holder_number x.holder) c.2

  held_is_held : (b : SlotBlock) → Member b (held_blocks g) → holder_number b.holder ≡ 0 → ⊥
  unfolding held_blocks
  held_is_held b i z =
      let r = member_flat_map (λ n. node_holds n (meta_at g n)) b (range 0 node_slots) i in
      go r.0 (meta_at g r.0) r.2
    where
      go : (n : ℕ) (v : Option NodeMeta) → Member b (node_holds n v) → ⊥
      go n None j = j
      go n (Some k) j = by_size (eqb k.capacity 0) j
        where
          by_size : (q : Bool) → Member b (cond q [] (slot_block k.first_port.0 k.capacity (by_node n) ∷ [])) → ⊥
          by_size true j = j
          by_size false j = ⊎_elim (λ e. let h = ap (λ (y : SlotBlock). holder_number y.holder) e in omega arith) (λ y. y) j

  free_once : Rising Apart (free_blocks g)
  unfolding free_blocks
  free_once =
      rising_flat_map ◌<◌ Apart (listed_free g) (range 1 node_ports) (range_rises 1 node_ports)
      (λ k i. rising_map Apart Apart (λ b. slot_block b k free) (free_of g k) (once_apart (free_of g k) (subst Once (sym (free_of_lem k)) (good.idle_once k)))
      (λ a c p q n e. n (ap (λ (x : SlotBlock). x.first) e)))
      (λ k j x y a b l p q e.
      let u = member_map (λ f. slot_block f k free) x (free_of g k) p in
      let v = member_map (λ f. slot_block f j free) y (free_of g j) q in
      let s = ap (λ (z : SlotBlock). z.size) (sym u.2 ∙ (e ∙ v.2)) in
      omega arith)

  blocks_once : Once (blocks_of g)
  blocks_once =
      rising_once Apart (λ b e. e refl) (blocks_of g)
      (rising_append Apart (held_blocks g) (free_blocks g) held_once free_once
      (λ x y i j e. held_is_held x i (ap (λ (z : SlotBlock). holder_number z.holder) e ∙ free_is_free y j)))

  block_some : (b : SlotBlock) → Member b (blocks_of g) → 0 < b.size
  block_some b i = has_some good b.first b.size b.holder (in_blocks b i)

  block_within : (b : SlotBlock) → Member b (blocks_of g) → b.first + b.size ≤ g.port_len
  block_within b i = let h = has_within good b.first b.size b.holder (in_blocks b i) in let e = holds.port_len in omega arith

  block_lies : (s : ℕ) → s < g.port_len → (b : SlotBlock) × Member b (blocks_of g) × InBlock b s
  block_lies s l =
      let e = holds.port_len in
      let r = has_lies good s (omega arith) in
      (slot_block r.0 r.1 r.2, blocks_lent r.0 r.1 r.2 r.3, r.4)

  block_alone : (s : ℕ) (a b : SlotBlock) → Member a (blocks_of g) → Member b (blocks_of g) → InBlock a s → InBlock b s → a ≡ b
  block_alone s a b i j = has_alone good s a.first a.size a.holder b.first b.size b.holder (in_blocks a i) (in_blocks b j)

  pub slots_accounted : SlotsAccounted g
  slots_accounted = record { lies = block_lies; alone = block_alone; once = blocks_once; some = block_some; used = block_within }

  -- The listing.

  laid_there : (f : SlotBlock → ℕ) (b : SlotBlock) → Member b (blocks_of g) → at (laid f (blocks_of g) (replicate port_slots 0)) b.first ≡ f b
  laid_there f b i =
      let w = block_within b i in
      let p = block_some b i in
      let e = holds.port_len in
      let l = good.ports_fit in
      laid_read f (blocks_of g) (replicate port_slots 0) b (length-replicate {A = ℕ} port_slots 0) (omega arith) i
      (λ c j q. let r = block_some c j in ap f (block_alone b.first c b j i (omega arith, omega arith) (omega arith, omega arith)))

  -- no block is laid at the end of the used length
  none_there : at (laid size_of (blocks_of g) (replicate port_slots 0)) g.port_len ≡ 0
  none_there = go (ltb g.port_len port_slots) refl
    where
      go : (b : Bool) → ltb g.port_len port_slots ≡ b → at (laid size_of (blocks_of g) (replicate port_slots 0)) g.port_len ≡ 0
      go true q =
          laid_keeps size_of (blocks_of g) (replicate port_slots 0) g.port_len 0 (length-replicate {A = ℕ} port_slots 0) (ltb-true g.port_len port_slots q)
          (λ c i e. let w = block_within c i in let p = block_some c i in absurd (omega arith))
          (sym (at_inside (replicate port_slots 0) g.port_len (ltb-true g.port_len port_slots q)) ∙ get_or-replicate port_slots g.port_len 0 0 (ltb-true g.port_len port_slots q))
      go false q = sym (at_outside (laid size_of (blocks_of g) (replicate port_slots 0)) g.port_len (ltb-false g.port_len port_slots q))

  pub slots_listed : SlotsListed g
  unfolding slot_list sizes_laid holders_laid
  slots_listed =
      let e = holds.port_len in
      let l = good.ports_fit in
      let w =
      walk_tiles (λ b. Member b (blocks_of g)) g.port_len block_some block_within block_lies block_alone (sizes_laid g) (holders_laid g)
      (laid_there size_of) (laid_there holder_of_block) none_there port_slots 0 (inl refl) (omega arith) (omega arith) in
      record {
        tiles = w.0;
        there =
            walk_gives (λ b. Member b (blocks_of g)) g.port_len block_some block_within block_lies block_alone (sizes_laid g) (holders_laid g)
            (laid_there size_of) (laid_there holder_of_block) none_there port_slots (omega arith);
        only = w.1;
        rises = tiles_rise 0 g.port_len (slot_list g) w.0;
        adds = let a = tiles_add 0 g.port_len (slot_list g) w.0 in omega arith;
      }
