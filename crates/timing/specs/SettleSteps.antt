-- What the functions that settle blocks cite: loops over a listing of wires, turn by turn, and settled blocks in a table.
use Rattle.std.proofs.lemmas.List.{length-map}
use Rattle.std.specs.Prelude.{◌≡◌, Bool, true, false, ◌⊎◌, eqb, leb, ltb, length, take, drop}
use Rattle.std.proofs.Math.Path.{refl, sym, ap}
use Rattle.std.proofs.Common.{◌∙◌, subst, inl, inr, drop_of_length-le, drop-cons, take-suc-set, get_or-set_other}
use Rattle.std.proofs.Math.Bool.{cond}
use mathlib.Core.List.{List, [], ◌∷◌, map}
use Prim.Native.Nat.{ℕ, zero, suc, ◌+◌, ◌-◌, ◌*◌, ◌/◌, ◌≤◌, ◌<◌}
use native.Mathlib.Omega.{arith}
use Rattle.std.proofs.Math.ListN.{get_or, set, get_or-map}
use Rattle.std.proofs.Math.Seq.{length-take-le, get_or-take}
use Rattle.std.proofs.lemmas.Bool.{cases_eq}
use borrow.Author.Tests.{eq-eqb, ne_eqb, lt-ltb, le-ltb}
use Rattle.port_tables.specs.Limits.{node_slots}
use Rattle.port_tables.specs.Lists.{range}
use Rattle.port_tables.specs.Listing.{length_range}
use Rattle.timing.specs.Longest.{Feed, time_in}
use Rattle.timing.specs.Settling.{feed_at, feeds_listed, Tables, zeros, waits_of, firsts_of, unsettled, with_order, pushed, push_ready, raised, wire_done, run_done, block_done, start_tables, settle, settled, Bounded}
use Rattle.timing.specs.StartLaws.{zeros_read}

-- A listing, wire by wire.

range_at : (n s i : ℕ) → i < n → get_or (range s n) i 0 ≡ s + i
unfolding range
range_at zero s i h = absurd (omega arith)
range_at (suc n) s zero h = omega arith
range_at (suc n) s (suc i) h = let e = range_at n (suc s) i (omega arith) in omega arith

-- what is read at each number from 0 on, from one of them on
pub listed_next : {A : Type 0} (f : ℕ → A) (n i : ℕ) → i < n → drop i (map f (range 0 n)) ≡ f i ∷ drop (suc i) (map f (range 0 n))
listed_next f n i h =
    let l = length-map (range 0 n) f ∙ length_range 0 n in
    drop-cons (map f (range 0 n)) i (f 0) (omega arith)
    ∙ ap (λ x. x ∷ drop (suc i) (map f (range 0 n))) (get_or-map f (range 0 n) i 0 ∙ ap f (let e = range_at n 0 i h in omega arith))

pub listed_end : {A : Type 0} (f : ℕ → A) (n i : ℕ) → n ≤ i → drop i (map f (range 0 n)) ≡ []
listed_end f n i h = let l = length-map (range 0 n) f ∙ length_range 0 n in drop_of_length-le (map f (range 0 n)) {i = i} (omega arith)

module _ (ends : List ℕ) where
  pub feeds_next : (i : ℕ) → i < length ends / 8 → drop i (feeds_listed ends) ≡ feed_at ends i ∷ drop (suc i) (feeds_listed ends)
  unfolding feeds_listed
  feeds_next i h = listed_next (feed_at ends) (length ends / 8) i h

  pub feeds_end : (i : ℕ) → length ends / 8 ≤ i → drop i (feeds_listed ends) ≡ []
  unfolding feeds_listed
  feeds_end i h = listed_end (feed_at ends) (length ends / 8) i h

  pub feed_one_more : (i : ℕ) → drop (suc i) (feeds_listed ends) ≡ drop (i + 1) (feeds_listed ends)
  feed_one_more i = let e : suc i ≡ i + 1 = omega arith in ap (λ (k : ℕ). drop k (feeds_listed ends)) e

-- Wires into each block.

pub record Counting (ends waits : List ℕ) (i : ℕ) : Type 0 where
  pub inside : i ≤ length ends / 8
  pub small : (n : ℕ) → get_or waits n 0 ≤ i
  pub rest : waits_of (drop i (feeds_listed ends)) waits ≡ waits_of (feeds_listed ends) zeros

pub counting_begins : (ends waits : List ℕ) → waits ≡ zeros → Counting ends waits 0
counting_begins ends waits e =
    record {
      inside = omega arith;
      small = λ n. let z = zeros_read n in let q = ap (λ (l : List ℕ). get_or l n 0) e in omega arith;
      rest = ap (waits_of (feeds_listed ends)) e;
    }

pub counting_turns : {ends waits waits' : List ℕ} {i t b : ℕ} → Counting ends waits i → i < length ends / 8 → t ≡ get_or ends (8 * i + 6) 0 → b ≡ get_or waits t 0 → waits' ≡ set waits t (b + 1) → Counting ends waits' (i + 1)
unfolding waits_of
counting_turns {ends} {waits} {waits'} {i} {t} {b} c h p q e =
    record {
      inside = omega arith;
      small = λ n. subst (λ (l : List ℕ). get_or l n 0 ≤ i + 1) (sym e) (go n (cases_eq n t));
      rest =
          ap (waits_of (drop (i + 1) (feeds_listed ends))) (e ∙ (λ j. set waits (p j) ((q ∙ ap (λ (k : ℕ). get_or waits k 0) p) j + 1)))
          ∙ (ap (λ (l : List Feed). waits_of l (set waits (get_or ends (8 * i + 6) 0) (get_or waits (get_or ends (8 * i + 6) 0) 0 + 1))) (sym (feed_one_more ends i))
          ∙ (sym (ap (λ (l : List Feed). waits_of l waits) (feeds_next ends i h)) ∙ c.rest));
    }
  where
    inside_or_not : (k : ℕ) → get_or (set waits k (b + 1)) k 0 ≤ b + 1
    inside_or_not k = at_most waits k
      where
        at_most : (l : List ℕ) (k : ℕ) → get_or (set l k (b + 1)) k 0 ≤ b + 1
        at_most [] k = omega arith
        at_most (x ∷ l) zero = omega arith
        at_most (x ∷ l) (suc k) = at_most l k

    go : (n : ℕ) → (n ≡ t) ⊎ (n ≡ t → ⊥) → get_or (set waits t (b + 1)) n 0 ≤ i + 1
    go n (inl s) = let m = c.small t in let k = inside_or_not t in subst (λ (k : ℕ). get_or (set waits t (b + 1)) k 0 ≤ i + 1) (sym s) (omega arith)
    go n (inr d) = let m = c.small n in let k = get_or-set_other waits t n (b + 1) 0 d in omega arith

pub counting_ends : {ends waits : List ℕ} {i : ℕ} → Counting ends waits i → length ends / 8 ≤ i → waits ≡ waits_of (feeds_listed ends) zeros
unfolding waits_of
counting_ends {ends} {waits} {i} c h = sym (ap (λ (l : List Feed). waits_of l waits) (feeds_end ends i h)) ∙ c.rest

-- The first wire out of each block.

pub record Finding (ends firsts₀ firsts : List ℕ) (i : ℕ) : Type 0 where
  pub inside : i ≤ length ends / 8
  pub found : firsts ≡ firsts_of (drop i (feeds_listed ends)) i firsts₀

pub finding_begins : (ends firsts : List ℕ) → Finding ends firsts firsts (length ends / 8)
unfolding firsts_of
finding_begins ends firsts =
    record { inside = omega arith; found = sym (ap (λ (l : List Feed). firsts_of l (length ends / 8) firsts) (feeds_end ends (length ends / 8) (omega arith))) }

pub finding_turns : {ends firsts₀ firsts firsts' : List ℕ} {i k s : ℕ} → Finding ends firsts₀ firsts i → 0 < i → k ≡ i - 1 → s ≡ get_or ends (8 * k + 2) 0 → firsts' ≡ set firsts s k → Finding ends firsts₀ firsts' k
unfolding firsts_of
finding_turns {ends} {firsts₀} {firsts} {firsts'} {i} {k} {s} f h p q e =
    let b = f.inside in
    let z : i ≡ suc k = omega arith in
    record {
      inside = omega arith;
      found =
          e
          ∙ ((λ j. set ((f.found ∙ ap (λ (n : ℕ). firsts_of (drop n (feeds_listed ends)) n firsts₀) z) j) (q j) k)
          ∙ sym (ap (λ (l : List Feed). firsts_of l k firsts₀) (feeds_next ends k (omega arith))));
    }

-- Settled blocks in a table.

module _ (queue : List ℕ) (tail block : ℕ) (long : length queue ≡ node_slots) where
  pub push_room : tail < length queue → take (tail + 1) (set queue tail block) ≡ pushed (take tail queue) block
  unfolding pushed
  push_room h =
      let e : tail + 1 ≡ suc tail = omega arith in
      let n = length-take-le tail queue (omega arith) in
      rw (lt-ltb (length (take tail queue)) node_slots (omega arith), e) (take-suc-set queue tail block h)

  pub push_full : tail ≤ node_slots → length queue ≤ tail → take tail queue ≡ pushed (take tail queue) block
  unfolding pushed
  push_full h k =
      let n = length-take-le tail queue (omega arith) in
      rw (le-ltb (length (take tail queue)) node_slots (omega arith))

-- slots one after the other
module _ (t : Tables) (n slots : ℕ) where
  ready_turn : {t' : Tables} → n < slots → t' ≡ with_order t (cond (eqb (get_or t.waits n 0) 0) (pushed t.order n) t.order) →
      with_order t' (push_ready t'.waits (range (n + 1) (slots - (n + 1))) t'.order) ≡ with_order t (push_ready t.waits (range n (slots - n)) t.order)
  unfolding push_ready range
  ready_turn h e =
      let k : slots - n ≡ suc (slots - (n + 1)) = omega arith in
      let s : n + 1 ≡ suc n = omega arith in
      ap (λ (r : Tables). with_order r (push_ready r.waits (range (n + 1) (slots - (n + 1))) r.order)) e ∙ rw (k, s) refl

  module _ (inside : n < slots) {x : ℕ} {t' : Tables} (is_x : x ≡ get_or t.waits n 0) where
    pub ready_push : x ≡ 0 → t' ≡ with_order t (pushed t.order n) →
        with_order t' (push_ready t'.waits (range (n + 1) (slots - (n + 1))) t'.order) ≡ with_order t (push_ready t.waits (range n (slots - n)) t.order)
    ready_push z e = ready_turn inside (rw (eq-eqb (get_or t.waits n 0) 0 (sym is_x ∙ z)) e)

    pub ready_stays : (x ≡ 0 → ⊥) → t' ≡ t → with_order t' (push_ready t'.waits (range (n + 1) (slots - (n + 1))) t'.order) ≡ with_order t (push_ready t.waits (range n (slots - n)) t.order)
    ready_stays d e = ready_turn inside (rw (ne_eqb (get_or t.waits n 0) 0 (λ z. d (is_x ∙ z))) e)

  pub ready_end : slots ≤ n → with_order t (push_ready t.waits (range n (slots - n)) t.order) ≡ t
  unfolding push_ready range
  ready_end h = let e : slots - n ≡ 0 = omega arith in rw e refl

-- The wires of a block.

module _ (t : Tables) (block sum : ℕ) {waits best origin waits' order : List ℕ} {target c left : ℕ} (is_target : c ≡ target)
    (raised_so : ◌≡◌ {A = Tables} (record { waits = waits; best = best; origin = origin; order = order }) (raised block sum c t)) (is_left : left ≡ get_or waits c 0 - 1) (are_waits : waits' ≡ set waits c left) where
  wire_tables : (order' : List ℕ) → order' ≡ cond (eqb left 0) (pushed order c) order → ◌≡◌ {A = Tables} (record { waits = waits'; best = best; origin = origin; order = order' }) (wire_done block sum target t)
  unfolding raised wire_done
  wire_tables order' q =
      (λ j.
      record {
        waits = (are_waits ∙ (λ k. set (raised_so k).waits c ((is_left ∙ ap (λ (r : Tables). get_or r.waits c 0 - 1) raised_so) k))) j;
        best = (raised_so j).best;
        origin = (raised_so j).origin;
        order = (q ∙ (λ k. cond (eqb ((is_left ∙ ap (λ (r : Tables). get_or r.waits c 0 - 1) raised_so) k) 0) (pushed (raised_so k).order c) (raised_so k).order)) j;
      })
      ∙ ap (λ (x : ℕ). wire_done block sum x t) is_target

  pub wire_last : {t' : Tables} → left ≡ 0 → t' ≡ record { waits = waits'; best = best; origin = origin; order = pushed order target } → t' ≡ wire_done block sum target t
  wire_last e q = q ∙ wire_tables (pushed order target) (rw (eq-eqb left 0 e, is_target) refl)

  pub wire_stays : (left ≡ 0 → ⊥) → ◌≡◌ {A = Tables} (record { waits = waits'; best = best; origin = origin; order = order }) (wire_done block sum target t)
  wire_stays e = wire_tables order (rw (ne_eqb left 0 e) refl)

module _ (ends : List ℕ) (b v i : ℕ) (t : Tables) where
  pub run_turn : i < length ends / 8 → get_or ends (8 * i + 2) 0 ≡ b → run_done b v (drop (i + 1) (feeds_listed ends)) (wire_done b v (get_or ends (8 * i + 6) 0) t) ≡ run_done b v (drop i (feeds_listed ends)) t
  unfolding run_done
  run_turn h e =
      ap (λ (l : List Feed). run_done b v l (wire_done b v (get_or ends (8 * i + 6) 0) t)) (sym (feed_one_more ends i))
      ∙ sym (ap (λ (l : List Feed). run_done b v l t) (feeds_next ends i h) ∙ rw (eq-eqb (get_or ends (8 * i + 2) 0) b e) refl)

  pub run_stop : i < length ends / 8 → (get_or ends (8 * i + 2) 0 ≡ b → ⊥) → t ≡ run_done b v (drop i (feeds_listed ends)) t
  unfolding run_done
  run_stop h d = sym (ap (λ (l : List Feed). run_done b v l t) (feeds_next ends i h) ∙ rw (ne_eqb (get_or ends (8 * i + 2) 0) b d) refl)

  pub run_end : length ends / 8 ≤ i → t ≡ run_done b v (drop i (feeds_listed ends)) t
  unfolding run_done
  run_end h = sym (ap (λ (l : List Feed). run_done b v l t) (feeds_end ends i h))

-- A block.

module _ (feeds : List Feed) (firsts times : List ℕ) (t : Tables) (block : ℕ) where
  pub block_in_lem : {t' : Tables} {b x y z from : ℕ} → b ≡ block → b < node_slots → x ≡ get_or t.best b 0 → y ≡ get_or times b 0 → z ≡ get_or firsts b 0 → from ≡ z → t' ≡ run_done block (x + y) (drop from feeds) t →
      t' ≡ block_done feeds firsts times block t
  unfolding block_done
  block_in_lem {t'} {b} {x} {y} {z} {from} p h q r s f e =
      let u : x ≡ get_or t.best block 0 = q ∙ ap (λ (n : ℕ). get_or t.best n 0) p in
      let w : y ≡ time_in times block = r ∙ ap (λ (n : ℕ). get_or times n 0) p in
      let g : from ≡ get_or firsts block 0 = f ∙ (s ∙ ap (λ (n : ℕ). get_or firsts n 0) p) in
      rw (lt-ltb block node_slots (omega arith)) (e ∙ (λ j. run_done block (u j + w j) (drop (g j) feeds) t))

  pub block_out : {b : ℕ} → b ≡ block → node_slots ≤ b → t ≡ block_done feeds firsts times block t
  unfolding block_done
  block_out p h = rw (le-ltb block node_slots (omega arith))

-- Sums stay small.

bounded_wire : (b v c k : ℕ) (t : Tables) → v ≤ 65535 * k → Bounded t.best k → Bounded (wire_done b v c t).best k
unfolding wire_done
bounded_wire b v c k t h s n = go (leb (get_or t.best c 0) v)
  where
    at_most : (l : List ℕ) (c n : ℕ) → get_or l n 0 ≤ 65535 * k → get_or (set l c v) n 0 ≤ 65535 * k
    at_most [] c n m = m
    at_most (x ∷ l) zero zero m = h
    at_most (x ∷ l) zero (suc n) m = m
    at_most (x ∷ l) (suc c) zero m = m
    at_most (x ∷ l) (suc c) (suc n) m = at_most l c n m

    go : (a : Bool) → get_or (cond a (set t.best c v) t.best) n 0 ≤ 65535 * k
    go true = at_most t.best c n (s n)
    go false = s n

bounded_run : (b v k : ℕ) (l : List Feed) (t : Tables) → v ≤ 65535 * k → Bounded t.best k → Bounded (run_done b v l t).best k
unfolding run_done
bounded_run b v k [] t h s = s
bounded_run b v k (f ∷ l) t h s = go (eqb f.source b) (bounded_run b v k l (wire_done b v f.target t) h (bounded_wire b v f.target k t h s))
  where
    go : (a : Bool) → Bounded (run_done b v l (wire_done b v f.target t)).best k → Bounded (cond a (run_done b v l (wire_done b v f.target t)) t).best k
    go true r = r
    go false r = s

pub bounded_block : (feeds : List Feed) (firsts times : List ℕ) (b k : ℕ) (t : Tables) → ((n : ℕ) → get_or times n 0 < 65536) → Bounded t.best k → Bounded (block_done feeds firsts times b t).best (k + 1)
unfolding block_done
bounded_block feeds firsts times b k t small s = go (ltb b node_slots)
  where
    more : Bounded t.best (k + 1)
    more n = let h = s n in omega arith

    go : (a : Bool) → Bounded (cond a (run_done b (get_or t.best b 0 + time_in times b) (drop (get_or firsts b 0) feeds) t) t).best (k + 1)
    go true = bounded_run b (get_or t.best b 0 + time_in times b) (k + 1) (drop (get_or firsts b 0) feeds) t (let h = s b in let m = small b in omega arith) more
    go false = more

-- Settled blocks one after the other.

module _ (feeds : List Feed) (firsts times : List ℕ) (t : Tables) (queue : List ℕ) (tail head : ℕ) (long : length queue ≡ node_slots) (short : tail ≤ node_slots) (seen : take tail queue ≡ t.order) where
  so_many : length t.order ≡ tail
  so_many = ap length (sym seen) ∙ length-take-le tail queue (omega arith)

  pub settle_turn : head < tail → settle feeds firsts times (node_slots - (head + 1)) (head + 1) (block_done feeds firsts times (get_or queue head 0) t) ≡ settle feeds firsts times (node_slots - head) head t
  unfolding settle
  settle_turn h =
      let n = so_many in
      let e : node_slots - head ≡ suc (node_slots - (head + 1)) = omega arith in
      let s : head + 1 ≡ suc head = omega arith in
      let g : get_or t.order head 0 ≡ get_or queue head 0 = ap (λ (l : List ℕ). get_or l head 0) (sym seen) ∙ get_or-take tail queue head 0 h in
      rw (e, lt-ltb head (length t.order) (omega arith), g, s) refl

  pub settle_end : tail ≤ head → t ≡ settle feeds firsts times (node_slots - head) head t
  unfolding settle
  settle_end h = go (node_slots - head)
    where
      go : (fuel : ℕ) → t ≡ settle feeds firsts times fuel head t
      go zero = refl
      go (suc fuel) = let n = so_many in rw (le-ltb head (length t.order) (omega arith))

-- From tables of zeros.
module _ (feeds : List Feed) {t : Tables} where
  pub starts : {i : Tables} {waits : List ℕ} → i ≡ unsettled → waits ≡ waits_of feeds zeros →
      t ≡ record { waits = waits; best = i.best; origin = i.origin; order = push_ready waits (range 0 node_slots) i.order } → t ≡ start_tables feeds
  unfolding unsettled start_tables
  starts s w e = e ∙ (λ j. record { waits = w j; best = (s j).best; origin = (s j).origin; order = push_ready (w j) (range 0 node_slots) (s j).order })

  pub start_bounded : t ≡ start_tables feeds → Bounded t.best 0
  unfolding start_tables
  start_bounded e n = let z = ap (λ (r : Tables). get_or r.best n 0) e ∙ zeros_read n in omega arith

  pub settled_is : (times : List ℕ) {firsts : List ℕ} → firsts ≡ firsts_of feeds 0 zeros → t ≡ start_tables feeds → settle feeds firsts times node_slots 0 t ≡ settled feeds times
  unfolding settled
  settled_is times f e = λ j. settle feeds (f j) times node_slots 0 (e j)
