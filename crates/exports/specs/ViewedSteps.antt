-- What the proofs of the entry that writes views cite.
use Rattle.std.specs.Prelude.{◌≡◌, ℕ, ◌+◌, ◌*◌, ◌≤◌}
use Rattle.std.proofs.Math.Path.{ap}
use Rattle.std.proofs.Common.{sym, ◌∙◌}
use mathlib.Core.List.{List, [], ◌∷◌, ◌++◌}
use native.Mathlib.Omega.{arith}
use Rattle.std.proofs.Math.ListN.{length, drop, length-append}
use Rattle.std.proofs.Math.Seq.{sets, length-sets}
use Rattle.std.proofs.lemmas.List.Edits.{sets-eq}
use borrow.Author.Tests.{le-leb}
use Rattle.port_tables.specs.Limits.{node_slots, port_slots}
use Rattle.portgraph.specs.Model.{Model}
use Rattle.port_tables.specs.ResizeLinkSteps.{sets_append}
use Rattle.multiportgraph.specs.Calls.{visible_nodes, visible_links}
use Rattle.multiportgraph.specs.CountLaws.{visible_nodes_lem, visible_links_lem}
use Rattle.multiportgraph.specs.WellFormed.{Fine, MultiWf}
use Rattle.multiportgraph.specs.Listed.{blocks_listed, wires_listed, list_after}
use Rattle.multiportgraph.specs.ListReads.{blocks_length, wires_length, few_blocks}
use Rattle.multiportgraph.specs.Wires.{blocks, all_wires}
use Rattle.multiportgraph.specs.declared.multiportgraph.MultiPortGraph.{MultiPortGraph}
use Rattle.records.specs.Words.{bytes_of}
use Rattle.records.specs.WordLaws.{bytes_append, bytes_long}
use Rattle.files.specs.SaveSteps.{visible_links_few}
use Rattle.exports.specs.Viewed.{view_words, view_bytes}

-- the words of a view in three parts
view_parts : (x y : ℕ) (b w : List ℕ) → bytes_of (x ∷ y ∷ b ++ w) ≡ (bytes_of (x ∷ y ∷ []) ++ bytes_of b) ++ bytes_of w
view_parts x y b w = bytes_append (x ∷ y ∷ b) w ∙ ap (λ (l : List ℕ). l ++ bytes_of w) (bytes_append (x ∷ y ∷ []) b)

-- the two counts leave a buffer's length
pub counts_long : (view : List ℕ) (x y : ℕ) {view₁ : List ℕ} → view₁ ≡ sets view 0 (bytes_of (x ∷ y ∷ [])) → length view₁ ≡ length view
counts_long view x y e = ap length e ∙ length-sets view 0 (bytes_of (x ∷ y ∷ []))

module _ {m : MultiPortGraph} {M : Model} (f : Fine m M) where
  pub listing_long : (view : List ℕ) {view' : List ℕ} → view' ≡ sets view 8 (bytes_of (blocks_listed m)) → length view' ≡ length view
  listing_long view e = ap length e ∙ length-sets view 8 (bytes_of (blocks_listed m))

  -- The length of a view follows from the counts.
  pub view_length : length (view_bytes m) ≡ 8 + 16 * visible_nodes m + 32 * visible_links m
  unfolding view_bytes view_words
  view_length =
      let a = bytes_long (length (blocks m) ∷ length (all_wires m) ∷ blocks_listed m ++ wires_listed m) in
      let b = length-append (blocks_listed m) (wires_listed m) in
      let c = blocks_length m in
      let d = wires_length m in
      let x = visible_nodes_lem f in
      let y = visible_links_lem f in
      omega arith

  -- no view is so long that its length could be taken for a refusal
  pub view_most : 8 + 16 * visible_nodes m + 32 * visible_links m ≤ 8 + 16 * (node_slots + port_slots)
  view_most = let w : MultiWf m = record { model = M; fine = f } in let a = few_blocks m w in let b = visible_links_few w in omega arith

  module _ (view : List ℕ) (blocks# wires# : ℕ) (areBlocks : blocks# ≡ visible_nodes m) (areWires : wires# ≡ visible_links m) where
    module _ {view₁ view₂ view₃ : List ℕ} (is_first : view₁ ≡ sets view 0 (bytes_of (blocks# ∷ wires# ∷ [])))
        (isSecond : view₂ ≡ sets view₁ 8 (bytes_of (blocks_listed m))) (isThird : view₃ ≡ sets view₂ (8 + 16 * blocks#) (bytes_of (wires_listed m))) where
      view_laid : view₃ ≡ sets view 0 (view_bytes m)
      unfolding view_bytes view_words
      view_laid =
          let u = bytes_of (length (blocks m) ∷ length (all_wires m) ∷ []) in
          let b = bytes_of (blocks_listed m) in
          let w = bytes_of (wires_listed m) in
          let x : blocks# ≡ length (blocks m) = areBlocks ∙ visible_nodes_lem f in
          let y : wires# ≡ length (all_wires m) = areWires ∙ visible_links_lem f in
          let lu = bytes_long (length (blocks m) ∷ length (all_wires m) ∷ []) in
          let lb = bytes_long (blocks_listed m) in
          let lm = blocks_length m in
          let lall = length-append u b in
          let z₁ : 8 ≡ 0 + length u = omega arith in
          let z₂ : 8 + 16 * blocks# ≡ 0 + length (u ++ b) = omega arith in
          let first : view₁ ≡ sets view 0 u = is_first ∙ (λ j. sets view 0 (bytes_of (x j ∷ y j ∷ []))) in
          let second : view₂ ≡ sets view 0 (u ++ b) = isSecond ∙ ((λ j. sets (first j) (z₁ j) b) ∙ sets_append view 0 u b) in
          let third : view₃ ≡ sets view 0 ((u ++ b) ++ w) = isThird ∙ ((λ j. sets (second j) (z₂ j) w) ∙ sets_append view 0 (u ++ b) w) in
          third ∙ ap (sets view 0) (sym (view_parts (length (blocks m)) (length (all_wires m)) (blocks_listed m) (wires_listed m)))

      pub view_done : 8 + 16 * blocks# + 32 * wires# ≤ length view → view₃ ≡ list_after (view_bytes m) view
      unfolding list_after
      view_done h =
          let n = view_length in
          let t = le-leb (length (view_bytes m)) (length view) (omega arith) in
          let z : 0 + length (view_bytes m) ≡ length (view_bytes m) = omega arith in
          rw t (view_laid ∙ (sets-eq (view_bytes m) view 0 (omega arith) ∙ ap (λ (k : ℕ). view_bytes m ++ drop k view) z))
