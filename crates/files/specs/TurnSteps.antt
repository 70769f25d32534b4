-- Loops turn by turn: what is left of a loop amounts to the whole.
use Rattle.std.specs.Prelude.{◌≡◌, List, ◌++◌, length, get_or, set, drop, ◌^◌}
use Rattle.std.specs.Iterator.Adapters.{enumerate_source, enumerate_count}
use Rattle.std.specs.Slice.Iter.{chunks_exact_rest, chunks_exact_size, chunks_exact_remainder}
use Rattle.std.specs.declared.iter.Enumerate.{Enumerate}
use Rattle.std.specs.declared.slice.ChunksExact.{ChunksExact}
use Rattle.std.proofs.Common.{sym, ap, ◌∙◌, length-append, length-drop, drop_at, drop-drop, get_or-drop}
use Rattle.std.proofs.Math.ListN.{get_or-append}
use Rattle.std.proofs.Math.Nat.{mul-add}
use Prim.Native.Nat.{ℕ, suc, ◌+◌, ◌-◌, ◌*◌, ◌≤◌, ◌<◌}
use native.Mathlib.Omega.{arith}
use Rattle.files.specs.View.{BlockPorts, RankWire}
use Rattle.files.specs.Layout.{block_record, wire_record}
use Rattle.files.specs.Forms.{number_of, turns, node_listed, block_listed, wire_listed, rank_read, rank_turn, block_turn, wire_turn}

module _ (step : ℕ → List ℕ → List ℕ) where
  turn_made : (i n : ℕ) (l : List ℕ) → i < n → turns step (i + 1) (n - (i + 1)) (step i l) ≡ turns step i (n - i) l
  unfolding turns
  turn_made i n l h =
      let e : n - i ≡ suc (n - (i + 1)) = omega arith in
      let s : i + 1 ≡ suc i = omega arith in
      rw (e, s)

  pub turn_next : {i i' n : ℕ} {l l' : List ℕ} → i < n → i' ≡ i + 1 → l' ≡ step i l → turns step i' (n - i') l' ≡ turns step i (n - i) l
  turn_next {i} {i'} {n} {l} h s e = (λ j. turns step (s j) (n - s j) (e j)) ∙ turn_made i n l h

  pub turns_end : (i n : ℕ) (l : List ℕ) → n ≤ i → l ≡ turns step i (n - i) l
  unfolding turns
  turns_end i n l h = let e : n - i ≡ 0 = omega arith in rw e

-- Loops over a list in parts of one length.

-- what is left after so many parts
pub record Parts (k : ℕ) (l rest : List ℕ) (i : ℕ) : Type 0 where
  pub left : rest ≡ drop (k * i) l
  pub inside : k * i ≤ length l

module _ {k : ℕ} {l rest : List ℕ} {i : ℕ} (p : Parts k l rest i) where
  pub left_long : length rest + k * i ≡ length l
  left_long = let a = ap length p.left in let b = length-drop (k * i) l in let c = p.inside in omega arith

  module _ (part next : List ℕ) (e : rest ≡ part ++ next) (n : length part ≡ k) where
    pub part_there : k * i + k ≤ length l
    part_there = let a = left_long in let b = ap length e ∙ length-append part next in omega arith

    pub parts_next : {i' : ℕ} → i' ≡ i + 1 → Parts k l next i'
    parts_next {i'} s =
        let m = mul-add k i 1 in
        let d : drop k rest ≡ next = ap (drop k) e ∙ drop_at part next k n in
        let h = part_there in
        rw s
        (record {
          left = sym d ∙ (ap (drop k) p.left ∙ (drop-drop k (k * i) l ∙ ap (λ (x : ℕ). drop x l) (omega arith)));
          inside = omega arith;
        })

    -- a number of the part
    part_read : (j : ℕ) → j < k → get_or part j 0 ≡ get_or l (k * i + j) 0
    part_read j h = sym (get_or-append part next 0 j (omega arith)) ∙ (ap (λ (x : List ℕ). get_or x j 0) (sym e) ∙ (ap (λ (x : List ℕ). get_or x j 0) p.left ∙ get_or-drop (k * i) l j 0))

-- a loop over a list in n parts of one length: what is left of the list, and that the turns that are left amount to all
pub record Turning (k n : ℕ) (step : ℕ → List ℕ → List ℕ) (l out₀ : List ℕ) (s : Enumerate (ChunksExact ℕ)) (out : List ℕ) : Type 0 where
  pub sized : chunks_exact_size (enumerate_source s) ≡ k
  pub counted : (j : ℕ) → (k * j + k ≤ length l → j < n) × (length l < k * j + k → n ≤ j)
  pub parts : Parts k l (chunks_exact_rest (enumerate_source s)) (enumerate_count s)
  pub same : turns step (enumerate_count s) (n - enumerate_count s) out ≡ turns step 0 n out₀

-- the next part of it
abbrev pub Taken : Enumerate (ChunksExact ℕ) → ℕ → List ℕ → Enumerate (ChunksExact ℕ) → Type 0
Taken s i part t =
    ((chunks_exact_size (enumerate_source t) ≡ chunks_exact_size (enumerate_source s))
    × ((chunks_exact_rest (enumerate_source s) ≡ part ++ chunks_exact_rest (enumerate_source t)) × (length part ≡ chunks_exact_size (enumerate_source s)))
    × (chunks_exact_remainder (enumerate_source t) ≡ chunks_exact_remainder (enumerate_source s)))
    × (i ≡ enumerate_count s) × (enumerate_count t ≡ enumerate_count s + 1) × (i + 1 < 2 ^ 64)

module _ {k n : ℕ} {step : ℕ → List ℕ → List ℕ} {l out₀ : List ℕ} {s : Enumerate (ChunksExact ℕ)} {out : List ℕ} (w : Turning k n step l out₀ s out) where
  pub turned : length (chunks_exact_rest (enumerate_source s)) < chunks_exact_size (enumerate_source s) → out ≡ turns step 0 n out₀
  turned h =
      let a = left_long w.parts in
      let b = w.sized in
      turns_end step (enumerate_count s) n out ((w.counted (enumerate_count s)).1 (omega arith)) ∙ w.same

  module _ {i : ℕ} (part : List ℕ) (t : Enumerate (ChunksExact ℕ)) (x : Taken s i part t) where
    pub part_below : i < n
    part_below = let a = x.1 in let b = (w.counted (enumerate_count s)).0 (part_there w.parts part _ x.0.1.0 (x.0.1.1 ∙ w.sized)) in omega arith

    pub part_number : (j : ℕ) → j < k → get_or part j 0 ≡ get_or l (k * i + j) 0
    part_number j h = part_read w.parts part _ x.0.1.0 (x.0.1.1 ∙ w.sized) j h ∙ ap (λ (m : ℕ). get_or l (k * m + j) 0) (sym x.1)

    turning : {out' : List ℕ} → out' ≡ step i out → Turning k n step l out₀ t out'
    turning e =
        let a = x.1 in
        let b = part_below in
        record {
          sized = x.0.0 ∙ w.sized;
          counted = w.counted;
          parts = parts_next w.parts part _ x.0.1.0 (x.0.1.1 ∙ w.sized) x.2;
          same = turn_next step {n = n} (omega arith) x.2 (e ∙ ap (λ (m : ℕ). step m out) x.1) ∙ w.same;
        }

-- What a listing says of one block, and of one wire, is what its part says.

module _ {n : ℕ} {step : ℕ → List ℕ → List ℕ} {l out₀ : List ℕ} {s : Enumerate (ChunksExact ℕ)} {out : List ℕ} {i : ℕ} where
  module _ (w : Turning 4 n step l out₀ s out) (part : List ℕ) (t : Enumerate (ChunksExact ℕ)) (x : Taken s i part t) where
    node_part : get_or part 0 0 ≡ node_listed l i
    node_part = let z : 4 * i + 0 ≡ 4 * i = omega arith in part_number w part t x 0 (omega arith) ∙ ap (λ (k : ℕ). get_or l k 0) z

    block_part : block_listed part 0 ≡ block_listed l i
    block_part = let r = part_number w part t x in λ j. record { incoming = r 1 (omega arith) j; outgoing = r 2 (omega arith) j }

  pub wire_part : Turning 8 n step l out₀ s out → (part : List ℕ) (t : Enumerate (ChunksExact ℕ)) → Taken s i part t → (rank : ℕ → ℕ) → wire_listed rank part 0 ≡ wire_listed rank l i
  wire_part w part t x rank =
      let r = part_number w part t x in
      λ j. record { source = rank (r 2 (omega arith) j); output = r 3 (omega arith) j; target = rank (r 6 (omega arith) j); input = r 7 (omega arith) j }

-- One turn: what the part says is stored.

module _ {n : ℕ} {l out₀ : List ℕ} {s t : Enumerate (ChunksExact ℕ)} {out : List ℕ} {i : ℕ} (part : List ℕ) where
  pub rank_turned : Turning 4 n (rank_turn l) l out₀ s out → Taken s i part t → {out' : List ℕ} → out' ≡ set out (get_or part 0 0) i → Turning 4 n (rank_turn l) l out₀ t out'
  rank_turned w x e = turning w part t x (rw (node_part w part t x) at e)

  pub block_turned : Turning 4 n (block_turn l) l out₀ s out → Taken s i part t → {v : ℕ} → v ≡ number_of (block_record (block_listed part 0)) → Turning 4 n (block_turn l) l out₀ t (set out i v)
  block_turned w x e = turning w part t x (ap (set out i) (e ∙ ap (λ (b : BlockPorts). number_of (block_record b)) (block_part w part t x)))

  pub wire_turned : (ranks : List ℕ) → Turning 8 n (wire_turn l ranks) l out₀ s out → Taken s i part t → {v : ℕ} → v ≡ number_of (wire_record (wire_listed (rank_read ranks) part 0)) →
      Turning 8 n (wire_turn l ranks) l out₀ t (set out i v)
  wire_turned ranks w x e = turning w part t x (ap (set out i) (e ∙ ap (λ (v : RankWire). number_of (wire_record v)) (wire_part w part t x (rank_read ranks))))
