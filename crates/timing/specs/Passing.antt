-- A listing that is gone through record by record, so many numbers each: what is left of it is its end from some record on, and what holds there.
use Rattle.std.specs.Prelude.{◌≡◌, List, ◌++◌, ℕ, length, get_or, take, drop, Some, None}
use Rattle.std.specs.Slice.Iter.{chunks_exact_rest, chunks_exact_size, chunks_exact_steps}
use Rattle.std.specs.declared.slice.ChunksExact.{ChunksExact}
use denote.Bor.{Bor}
use Rattle.std.proofs.Common.{refl, sym, ap, subst, append_assoc, ◌∙◌}
use Prim.Native.Nat.{◌+◌, ◌*◌, ◌/◌, ◌%◌, ◌≤◌, ◌<◌}
use native.Mathlib.Omega.{arith}
use Rattle.std.proofs.Math.ListN.{get_or-append, length-append}
use Rattle.std.proofs.Math.Nat.{mul-add, mul_comm, div-lt_iff_lt-mul}
use Rattle.std.proofs.lemmas.Nat.{le-div}
use Rattle.std.proofs.lemmas.List.{get_or-drop, get_or-take, get_or-append-add, length-drop, length-take, drop-drop, drop_at, take-take, take_at, take_all}

pub record Passing (size : ℕ) (list : List ℕ) (it : ChunksExact ℕ) (P : ℕ → Type 0) : Type 0 where
  pub at : ℕ
  pub sized : chunks_exact_size it ≡ size
  pub left : chunks_exact_rest it ≡ drop (size * at) list
  pub holds : P at

-- what a record says is what the listing says of it
abbrev pub Reads : ℕ → List ℕ → List ℕ → ℕ → Type 0
Reads size list one i = (j : ℕ) → j < size → get_or one j 0 ≡ get_or list (size * i + j) 0

-- from some record on
pub passing_from : {size : ℕ} {list : List ℕ} {it items : ChunksExact ℕ} {P : ℕ → Type 0} (at : ℕ) → it ≡ items → chunks_exact_size items ≡ size → chunks_exact_rest items ≡ drop (size * at) list → P at → Passing size list it P
passing_from at g n e p = record { at = at; sized = ap chunks_exact_size g ∙ n; left = ap chunks_exact_rest g ∙ e; holds = p }

module _ {size : ℕ} {list : List ℕ} {it : ChunksExact ℕ} {P : ℕ → Type 0} (s : Passing size list it P) (some : 0 < size) (next : ChunksExact ℕ) where
  module _ (one : Bor (List ℕ)) (k : chunks_exact_steps it (Some one) next) where
    pub long : length one.now ≡ size
    long = k.1.1 ∙ s.sized

    inside : s.at < length list / size
    inside =
        let l = length-drop (size * s.at) list in
        let a = ap length s.left in
        let b = ap length k.1.0 ∙ length-append one.now (chunks_exact_rest next) in
        let o = long in
        let m = mul-add size s.at 1 in
        let c = mul_comm size (s.at + 1) in
        let d : (s.at + 1) * size ≤ length list = omega arith in
        let q = le-div (s.at + 1) (length list) size some d in
        omega arith

    reads : Reads size list one.now s.at
    reads j h = sym (sym (get_or-drop (size * s.at) list j 0) ∙ ap (λ (l : List ℕ). get_or l j 0) (sym s.left ∙ k.1.0) ∙ get_or-append one.now (chunks_exact_rest next) 0 j (let o = long in omega arith))

    pub passing_at : {R : Type 0} → ((i : ℕ) → i < length list / size → Reads size list one.now i → P i → R) → R
    passing_at f = f s.at inside reads s.holds

    pub passing_on : {Q : ℕ → Type 0} → ((i : ℕ) → i < length list / size → Reads size list one.now i → P i → Q (i + 1)) → Passing size list next Q
    passing_on f =
        record {
          at = s.at + 1;
          sized = k.0 ∙ s.sized;
          left = sym (drop_at one.now (chunks_exact_rest next) size long) ∙ ap (drop size) (sym k.1.0 ∙ s.left) ∙ drop-drop size (size * s.at) list ∙ ap (λ (k : ℕ). drop k list) (let m = mul-add size s.at 1 in omega arith);
          holds = f s.at inside reads s.holds;
        }

  pub passing_ends : chunks_exact_steps it None next → {R : Type 0} → ((i : ℕ) → length list / size ≤ i → P i → R) → R
  passing_ends k f = f s.at past s.holds
    where
      past : length list / size ≤ s.at
      past =
          let l = length-drop (size * s.at) list in
          let a = ap length s.left in
          let h = k.1.0 in
          let z = s.sized in
          let m = mul-add size s.at 1 in
          let c = mul_comm size (s.at + 1) in
          let d : length list < (s.at + 1) * size = omega arith in
          let q = (div-lt_iff_lt-mul some).1 d in
          omega arith

-- From the back, eight numbers a record: what is left is the listing up to some record.

pub record Returning (list rest : List ℕ) (P : ℕ → Type 0) : Type 0 where
  pub front : take (length rest) list ≡ rest
  pub holds : P (length rest / 8)

pub returning_begins : {list rest : List ℕ} {P : ℕ → Type 0} → rest ≡ list → P (length list / 8) → Returning list rest P
returning_begins {list} {rest} {P} e p = record { front = ap (λ (n : ℕ). take n list) (ap length e) ∙ take_all (length list) list (omega arith) ∙ sym e; holds = subst (λ (l : List ℕ). P (length l / 8)) (sym e) p }

module _ {list rest : List ℕ} {P : ℕ → Type 0} (s : Returning list rest P) where
  pub short : length rest ≤ length list
  short = let a = ap length (sym s.front) ∙ length-take (length rest) list in omega arith

  module _ (before one after : List ℕ) (e : rest ≡ (before ++ one) ++ after) (n : length one ≡ 8) (o : length after ≡ length rest % 8) where
    lengths : length rest ≡ length before + 8 + length after
    lengths = let a = ap length e ∙ length-append (before ++ one) after in let b = length-append before one in omega arith

    last : length before / 8 + 1 ≡ length rest / 8
    last = let l = lengths in omega arith

    reads_back : Reads 8 list one (length before / 8)
    reads_back j h =
        let l = lengths in
        let k : 8 * (length before / 8) + j ≡ length before + j = omega arith in
        sym
        (ap (λ (i : ℕ). get_or list i 0) k
        ∙ (sym (get_or-take (length rest) list (length before + j) 0 (omega arith)) ∙ ap (λ (l : List ℕ). get_or l (length before + j) 0) (s.front ∙ e ∙ append_assoc before one after)
        ∙ (get_or-append-add before (one ++ after) j 0 ∙ get_or-append one after 0 j (omega arith))))

    pub returning_on : {Q : ℕ → Type 0} → ((i : ℕ) → i ≡ length before / 8 → Reads 8 list one i → P (i + 1) → Q i) → Returning list before Q
    returning_on f =
        let l = lengths in
        let m = short in
        let a = last in
        record {
          front =
              sym (take-take (length before) (length rest) list (omega arith)) ∙ ap (take (length before)) (s.front ∙ e ∙ append_assoc before one after) ∙ take_at before (one ++ after) (length before) refl;
          holds = f (length before / 8) refl reads_back (subst P (sym last) s.holds);
        }

  pub returning_ends : length rest < 8 → P 0
  returning_ends h = let z : length rest / 8 ≡ 0 = omega arith in subst P z s.holds
