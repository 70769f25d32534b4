-- What the functions that list the build of a file cite: pairs of numbers laid one after the other, and the load's answer.
use Rattle.std.proofs.Math.Path.{◌≡◌, refl, sym, ap}
use Rattle.std.proofs.Common.{◌∙◌, drop_of_length-le, drop-cons, le-leb}
use Rattle.std.specs.Prelude.{get_or, Result, Ok, Err, IsErrAnd}
use mathlib.Core.List.{List, [], ◌∷◌, ◌++◌, flat_map}
use Prim.Native.Nat.{ℕ, suc, ◌+◌, ◌*◌, ◌≤◌, ◌<◌}
use native.Mathlib.Omega.{arith}
use Rattle.std.proofs.Math.ListN.{length, drop, length-append}
use Rattle.std.proofs.Math.Seq.{sets, length-sets}
use Rattle.std.proofs.lemmas.List.Edits.{sets-eq}
use Rattle.std.proofs.lemmas.Bool.{lt-leb}
use Rattle.port_tables.specs.ResizeLinkSteps.{sets_append}
use Rattle.port_tables.specs.TableSteps.{passed_on}
use Rattle.multiportgraph.specs.Listed.{list_after}
use Rattle.multiportgraph.specs.ListReads.{flat_map_length}
use Rattle.port_tables.specs.declared.release.Release.{Release}
use Rattle.files.specs.Layout.{Record, block_of, wire_of, unbytes}
use Rattle.files.specs.Loading.{out_port, in_port, load_answer}
use Rattle.files.specs.BuildList.{add_pair, link_pair, build_numbers, list_build, build_after}
use Rattle.files.specs.LoadForms.{place_of, record_in, no_wire, BlocksRead, WiresRead, Laid}
use Rattle.files.specs.declared.load.LoadError.{LoadError}
use Rattle.files.specs.declared.check.Shape.{Shape}

-- Pairs one after the other.

-- what is left of the pairs amounts to all
pub record Pairs {A : Type 0} (f : A → List ℕ) (l : List A) (numbers₀ : List ℕ) (at : ℕ) (numbers : List ℕ) (i : ℕ) : Type 0 where
  pub same : sets numbers (at + 2 * i) (flat_map f (drop i l)) ≡ sets numbers₀ at (flat_map f l)
  pub long : length numbers ≡ length numbers₀

module _ {A : Type 0} {f : A → List ℕ} {l : List A} where
  module _ {numbers₀ numbers : List ℕ} {at i : ℕ} (p : Pairs f l numbers₀ at numbers i) where
    pub pairs_turn : {numbers' : List ℕ} {k : ℕ} {x : A} → (d : A) → i < length l → get_or l i d ≡ x → length (f x) ≡ 2 → k ≡ at + 2 * i → numbers' ≡ sets numbers k (f x) → Pairs f l numbers₀ at numbers' (i + 1)
    unfolding flat_map
    pairs_turn {numbers'} {k} {x} d h e two q g =
        let s : suc i ≡ i + 1 = omega arith in
        let on : flat_map f (drop i l) ≡ f x ++ flat_map f (drop (i + 1) l) = ap (flat_map f) (drop-cons l i d h) ∙ (λ j. f (e j) ++ flat_map f (drop (s j) l)) in
        let n : at + 2 * (i + 1) ≡ k + length (f x) = omega arith in
        record {
          same =
              (λ j. sets (g j) (n j) (flat_map f (drop (i + 1) l)))
              ∙ (sets_append numbers k (f x) (flat_map f (drop (i + 1) l)) ∙ ((λ j. sets numbers (q j) (sym on j)) ∙ p.same));
          long = ap length g ∙ (length-sets numbers k (f x) ∙ p.long);
        }

    pub pairs_end : length l ≤ i → numbers ≡ sets numbers₀ at (flat_map f l)
    unfolding flat_map
    pairs_end h = sym (ap (λ (k : List A). sets numbers (at + 2 * i) (flat_map f k)) (drop_of_length-le l {i = i} h)) ∙ p.same

-- The blocks and wires of a file.

pub add_turn : {bytes numbers₀ numbers numbers' : List ℕ} {n i k : ℕ} {block : Record} → BlocksRead bytes n → Pairs add_pair (unbytes bytes).blocks numbers₀ 0 numbers i → i < n → block ≡ record_in bytes (place_of 0 i) →
    k ≡ 2 * i → numbers' ≡ sets numbers k (block.a ∷ block.b ∷ []) → Pairs add_pair (unbytes bytes).blocks numbers₀ 0 numbers' (i + 1)
add_turn {bytes} r p h e q g =
    let m = r.many in
    pairs_turn p (record { incoming = 0; outgoing = 0 }) (omega arith) (r.each _ h ∙ ap block_of (sym e)) refl (omega arith) g

pub link_turn : {bytes numbers₀ numbers numbers' : List ℕ} {u n i from a b k : ℕ} {wire : Record} → WiresRead bytes u n → Pairs (link_pair (unbytes bytes).blocks) (unbytes bytes).wires numbers₀ from numbers i → i < n → wire ≡ record_in bytes (place_of u i) →
    a ≡ out_port (unbytes bytes).blocks (wire_of wire) → b ≡ in_port (unbytes bytes).blocks (wire_of wire) → k ≡ from + 2 * i → numbers' ≡ sets numbers k (a ∷ b ∷ []) →
    Pairs (link_pair (unbytes bytes).blocks) (unbytes bytes).wires numbers₀ from numbers' (i + 1)
link_turn {bytes} {numbers = numbers} {k = k} r p h e x y q g =
    let m = r.many in
    pairs_turn p no_wire (omega arith) (r.each _ h ∙ ap wire_of (sym e)) refl q (g ∙ (λ j. sets numbers k (x j ∷ y j ∷ [])))

module _ {bytes : List ℕ} {n w : ℕ} (l : Laid bytes n w) where
  numbers_long : length (build_numbers (unbytes bytes)) ≡ 2 * (n + w)
  unfolding build_numbers
  numbers_long =
      let v = unbytes bytes in
      let a = flat_map_length add_pair 2 (λ b. refl) v.blocks in
      let b = flat_map_length (link_pair v.blocks) 2 (λ x. refl) v.wires in
      let c = length-append (flat_map add_pair v.blocks) (flat_map (link_pair v.blocks) v.wires) in
      let d = (l.blocks_are).many in
      let e = (l.wires_are).many in
      omega arith

  pub listed_short : {numbers : List ℕ} → length numbers < 2 * (n + w) → numbers ≡ list_after (build_numbers (unbytes bytes)) numbers
  unfolding list_after
  listed_short {numbers} h = let e = numbers_long in rw (lt-leb (length (build_numbers (unbytes bytes))) (length numbers) (omega arith))

  pub listed_full : (numbers : List ℕ) {numbers₁ numbers₂ : List ℕ} {at : ℕ} → 2 * (n + w) ≤ length numbers → numbers₁ ≡ sets numbers 0 (flat_map add_pair (unbytes bytes).blocks) → at ≡ 2 * n →
      numbers₂ ≡ sets numbers₁ at (flat_map (link_pair (unbytes bytes).blocks) (unbytes bytes).wires) → numbers₂ ≡ list_after (build_numbers (unbytes bytes)) numbers
  unfolding list_after build_numbers
  listed_full numbers {numbers₁} {numbers₂} {at} h e₁ q e₂ =
      let v = unbytes bytes in
      let a = flat_map add_pair v.blocks in
      let b = flat_map (link_pair v.blocks) v.wires in
      let m = (l.blocks_are).many in
      let p = flat_map_length add_pair 2 (λ x. refl) v.blocks in
      let z : at ≡ 0 + length a = omega arith in
      let n = numbers_long in
      let y : 0 + length (a ++ b) ≡ length (a ++ b) = omega arith in
      rw (le-leb (length (a ++ b)) (length numbers) (omega arith))
      (e₂ ∙ ((λ j. sets (e₁ j) (z j) b) ∙ (sets_append numbers 0 a b ∙ (sets-eq (a ++ b) numbers 0 (omega arith) ∙ ap (λ (k : ℕ). (a ++ b) ++ drop k numbers) y))))

-- Answers.

module _ (release : Release) (bytes numbers : List ℕ) where
  pub list_refused : {r : LoadError} (a : Result Shape LoadError) → IsErrAnd a (λ told. told ≡ r) → load_answer release bytes ≡ Err r → (a ≡ list_build release bytes) × (numbers ≡ build_after release bytes numbers)
  unfolding list_build build_after
  list_refused a h e = rw e (passed_on h, refl)

  pub list_done : {blocks wires : ℕ} → Laid bytes blocks wires → Ok tt ≡ load_answer release bytes → {numbers' : List ℕ} →
      numbers' ≡ list_after (build_numbers (unbytes bytes)) numbers → (Ok (record { blocks = blocks; wires = wires }) ≡ list_build release bytes) × (numbers' ≡ build_after release bytes numbers)
  unfolding list_build build_after
  list_done l e g =
      let b = l.blocks_are.many in
      let w = l.wires_are.many in
      rw (← e) ((λ j. Ok (record { blocks = sym b j; wires = sym w j })), g)
