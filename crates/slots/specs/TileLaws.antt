-- Blocks that lie end to end, and what follows where every slot of a length lies in one block and in no other.
use Rattle.std.specs.Prelude.{◌≡◌, Bool, cond, ◌⊎◌, ltb}
use Rattle.std.proofs.Math.Path.{refl}
use Rattle.std.proofs.Common.{sym, ◌∙◌, ap, subst, inl, inr, ⊎_elim}
use Rattle.std.proofs.Math.Bool.{true, false}
use mathlib.Core.List.{List, [], ◌∷◌, ◌++◌, map}
use Prim.Native.Nat.{ℕ, zero, suc, ◌+◌, ◌-◌, ◌≤◌, ◌<◌}
use native.Mathlib.Omega.{arith}
use Rattle.std.proofs.Math.Dec.{eqb, leb}
use borrow.Author.Tests.{ltb-true, ltb-false, leb-true, leb-false, eqb-true, eqb-false}
use Rattle.port_tables.specs.Lists.{Member, Once, Rising}
use Rattle.port_tables.specs.Listing.{map_member}
use Rattle.port_tables.specs.Tables.{at}
use Rattle.slots.specs.Blocks.{Holder, by_node, free, SlotBlock, slot_block, holder_number, holder_of, walk_blocks}
use Rattle.slots.specs.SlotClaims.{InBlock, Tiles, Cut, cut_of, TilesCut, sizes_total}

-- End to end.

cuts_beyond : (from to : ℕ) (l : List Cut) → TilesCut from l to → (c : Cut) → Member c l → from ≤ c.first
cuts_beyond from to [] t b i = absurd i
cuts_beyond from to (c ∷ l) t b (inl e) = let p = t.0 in let q = ap (λ (x : Cut). x.first) e in omega arith
cuts_beyond from to (c ∷ l) t b (inr i) = let h = cuts_beyond (from + c.size) to l t.2 b i in omega arith

pub tiles_cuts : (from to : ℕ) (l : List SlotBlock) → Tiles from l to → TilesCut from (map cut_of l) to
tiles_cuts from to [] t = t
tiles_cuts from to (b ∷ l) t = (t.0, t.1, tiles_cuts (from + b.size) to l t.2)

tiles_beyond : (from to : ℕ) (l : List SlotBlock) → Tiles from l to → (b : SlotBlock) → Member b l → from ≤ b.first
tiles_beyond from to l t b i = cuts_beyond from to (map cut_of l) (tiles_cuts from to l t) (cut_of b) (map_member cut_of b l i)

-- every slot between lies in one of them
pub tiles_cover : (from to : ℕ) (l : List SlotBlock) → Tiles from l to → (s : ℕ) → from ≤ s → s < to → (b : SlotBlock) × Member b l × InBlock b s
tiles_cover from to [] t s h k = absurd (omega arith)
tiles_cover from to (b ∷ l) t s h k = go (ltb s (from + b.size)) refl (λ u. tiles_cover (from + b.size) to l t.2 s u k)
  where
    go : (v : Bool) → ltb s (from + b.size) ≡ v → (from + b.size ≤ s → (c : SlotBlock) × Member c l × InBlock c s) → (c : SlotBlock) × Member c (b ∷ l) × InBlock c s
    go true e later = let u = ltb-true s (from + b.size) e in let p = t.0 in (b, inl refl, (omega arith, omega arith))
    go false e later = let r = later (ltb-false s (from + b.size) e) in (r.0, inr r.1, r.2)

-- they ascend by first slot
pub tiles_rise : (from to : ℕ) (l : List SlotBlock) → Tiles from l to → Rising (λ (a b : SlotBlock). a.first < b.first) l
tiles_rise from to [] t = tt
tiles_rise from to (b ∷ l) t = (
  (λ c i. let h = tiles_beyond (from + b.size) to l t.2 c i in let p = t.0 in let q = t.1 in omega arith),
  tiles_rise (from + b.size) to l t.2,
)

-- so each is there once
pub tiles_once : (from to : ℕ) (l : List SlotBlock) → Tiles from l to → Once l
tiles_once from to [] t = tt
tiles_once from to (b ∷ l) t = (
  (λ i. let h = tiles_beyond (from + b.size) to l t.2 b i in let p = t.0 in let q = t.1 in absurd (omega arith)),
  tiles_once (from + b.size) to l t.2,
)

-- their sizes add up to the length
pub tiles_add : (from to : ℕ) (l : List SlotBlock) → Tiles from l to → from + sizes_total l ≡ to
tiles_add from to [] t = let e : from ≡ to = t in omega arith
tiles_add from to (b ∷ l) t = let h = tiles_add (from + b.size) to l t.2 in omega arith

-- Two lists of cuts end to end from one slot on: where each of the first is one of the second, the second goes on where the first ends.

pub cuts_go_on : (from to later : ℕ) (l k : List Cut) → TilesCut from l to → TilesCut from k later → ((c : Cut) → Member c l → Member c k) → (more : List Cut) × (k ≡ l ++ more)
cuts_go_on from to later [] k t u h = (k, refl)
cuts_go_on from to later (c ∷ l) [] t u h = absurd (h c (inl refl))
cuts_go_on from to later (c ∷ l) (d ∷ k) t u h =
    let e : c ≡ d = same (h c (inl refl)) in
    let s : d.size ≡ c.size = ap (λ (x : Cut). x.size) (sym e) in
    let r =
    cuts_go_on (from + c.size) to later l k t.2 (subst (λ (n : ℕ). TilesCut (from + n) k later) s u.2)
    (λ b i. ⊎_elim (λ q. absurd (below b i q)) (λ j. j) (h b (inr i))) in
    let q = r.1 in
    (r.0, cc)
  where
    same : (c ≡ d) ⊎ Member c k → c ≡ d
    same (inl e) = e
    same (inr i) = let b = cuts_beyond (from + d.size) later k u.2 c i in let p = t.0 in let q = u.1 in absurd (omega arith)

    below : (b : Cut) → Member b l → b ≡ d → ⊥
    below b i e =
        let f = cuts_beyond (from + c.size) to l t.2 b i in
        let p = t.1 in
        let q = u.0 in
        let g = ap (λ (x : Cut). x.first) e in
        omega arith

-- Every slot in one block.

module _ (P : SlotBlock → Type 0) (len : ℕ) (some : (b : SlotBlock) → P b → 0 < b.size) (within : (b : SlotBlock) → P b → b.first + b.size ≤ len)
    (lies : (s : ℕ) → s < len → (b : SlotBlock) × P b × InBlock b s) (alone : (s : ℕ) (a b : SlotBlock) → P a → P b → InBlock a s → InBlock b s → a ≡ b) where
  -- where a block may start: at 0, and where one ends
  abbrev Edge : ℕ → Type 0
  Edge s = (s ≡ 0) ⊎ ((a : SlotBlock) × P a × (a.first + a.size ≡ s))

  pub edge_starts : (s : ℕ) → Edge s → s < len → (b : SlotBlock) × P b × (b.first ≡ s)
  edge_starts s e h = go (lies s h) e
    where
      go : (b : SlotBlock) × P b × InBlock b s → Edge s → (b : SlotBlock) × P b × (b.first ≡ s)
      go b (inl z) = let f = b.2 in (b.0, b.1, omega arith)
      go b (inr a) = cases (leb s b.0.first) refl
        where
          cases : (v : Bool) → leb s b.0.first ≡ v → (b : SlotBlock) × P b × (b.first ≡ s)
          cases true q = let f = b.2 in let l = leb-true s b.0.first q in (b.0, b.1, omega arith)
          cases false q =
              let f = b.2 in
              let l = leb-false s b.0.first q in
              let n = some a.0 a.1 in
              let z = a.2 in
              let same : a.0 ≡ b.0 = alone (s - 1) a.0 b.0 a.1 b.1 (omega arith, omega arith) (omega arith, omega arith) in
              let x = ap (λ (c : SlotBlock). c.first) same in
              let y = ap (λ (c : SlotBlock). c.size) same in
              absurd (omega arith)

  module _ (sizes holders : List ℕ) (size-read : (b : SlotBlock) → P b → at sizes b.first ≡ b.size) (holder-read : (b : SlotBlock) → P b → at holders b.first ≡ holder_number b.holder)
      (none_read : at sizes len ≡ 0) where
    holder_back : (h : Holder) → holder_of (holder_number h) ≡ h
    holder_back (by_node n) = refl
    holder_back free = refl

    read_off : (s : ℕ) (b : SlotBlock) → P b → b.first ≡ s → slot_block s (at sizes s) (holder_of (at holders s)) ≡ b
    read_off s b p e =
        let x : at sizes s ≡ b.size = ap (at sizes) (sym e) ∙ size-read b p in
        let y : holder_of (at holders s) ≡ b.holder = ap holder_of (ap (at holders) (sym e) ∙ holder-read b p) ∙ holder_back b.holder in
        let z = sym e in
        λ i. slot_block (z i) (x i) (y i)

    pub walk_tiles : (n s : ℕ) → Edge s → s ≤ len → len ≤ s + n →
        Tiles s (walk_blocks sizes holders s n) len × ((b : SlotBlock) → Member b (walk_blocks sizes holders s n) → P b)
    unfolding walk_blocks
    walk_tiles zero s e h k = (omega arith, (λ b i. absurd i))
    walk_tiles (suc n) s e h k = go (leb len s) refl (eqb (at sizes s) 0) refl (walk_tiles n)
      where
        go : (t : Bool) → leb len s ≡ t → (v : Bool) → eqb (at sizes s) 0 ≡ v →
            ((r : ℕ) → Edge r → r ≤ len → len ≤ r + n → Tiles r (walk_blocks sizes holders r n) len × ((b : SlotBlock) → Member b (walk_blocks sizes holders r n) → P b)) →
            Tiles s (cond v [] (slot_block s (at sizes s) (holder_of (at holders s)) ∷ walk_blocks sizes holders (s + at sizes s) n)) len
            × ((b : SlotBlock) → Member b (cond v [] (slot_block s (at sizes s) (holder_of (at holders s)) ∷ walk_blocks sizes holders (s + at sizes s) n)) → P b)
        go true u true q later = (let l = leb-true len s u in omega arith, (λ b i. absurd i))
        go true u false q later =
            let l = leb-true len s u in
            let at_end : s ≡ len = omega arith in
            absurd (eqb-false (at sizes s) 0 q (ap (at sizes) at_end ∙ none_read))
        go false u v q later = inside v q
          where
            b : (c : SlotBlock) × P c × (c.first ≡ s)
            b = edge_starts s e (leb-false len s u)

            is : slot_block s (at sizes s) (holder_of (at holders s)) ≡ b.0
            is = read_off s b.0 b.1 b.2

            inside : (v : Bool) → eqb (at sizes s) 0 ≡ v →
                Tiles s (cond v [] (slot_block s (at sizes s) (holder_of (at holders s)) ∷ walk_blocks sizes holders (s + at sizes s) n)) len
                × ((b : SlotBlock) → Member b (cond v [] (slot_block s (at sizes s) (holder_of (at holders s)) ∷ walk_blocks sizes holders (s + at sizes s) n)) → P b)
            inside true q =
                let size : at sizes s ≡ b.0.size = ap (λ (c : SlotBlock). c.size) is in
                let zero_size = eqb-true (at sizes s) 0 q in
                let positive = some b.0 b.1 in
                absurd (omega arith)
            inside false q =
                let size : at sizes s ≡ b.0.size = ap (λ (c : SlotBlock). c.size) is in
                let first = b.2 in
                let positive = some b.0 b.1 in
                let ends = within b.0 b.1 in
                let r = later (s + at sizes s) (inr (b.0, b.1, omega arith)) (omega arith) (omega arith) in (
                  (refl, omega arith, r.0),
                  (λ c i. ⊎_elim (λ x. subst P (sym (x ∙ is)) b.1) (r.1 c) i),
                )

    -- each of them is walked
    pub walk_gives : (n : ℕ) → len ≤ n → (b : SlotBlock) → P b → Member b (walk_blocks sizes holders 0 n)
    walk_gives n k b p =
        let t = walk_tiles n 0 (inl refl) (omega arith) (omega arith) in
        let f = some b p in
        let w = within b p in
        let c = tiles_cover 0 len (walk_blocks sizes holders 0 n) t.0 b.first (omega arith) (omega arith) in
        subst (λ (x : SlotBlock). Member x (walk_blocks sizes holders 0 n)) (alone b.first c.0 b (t.1 c.0 c.1) p c.2 (omega arith, omega arith)) c.1
