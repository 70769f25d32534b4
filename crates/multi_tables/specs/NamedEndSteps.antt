-- Ends that calls name, step by step: what the functions' proofs cite.
use Rattle.std.specs.Prelude.{◌≡◌, List, Bool, ℕ, Result, Ok, Err, Option, Some, None}
use Rattle.std.proofs.Common.{sym, ◌∙◌, arith}
use Rattle.std.proofs.Math.Path.{ap, refl}
use Rattle.std.specs.Result.{result_ok}
use Rattle.port_tables.specs.Entries.{node#, port#}
use Rattle.multi_tables.specs.Forms.{Port, dead, hidden, visible, End, inner, lacking}
use Rattle.multi_tables.specs.TableReads.{seen_in}
use Rattle.multi_tables.specs.NamedEnds.{block_or, block_port, end_or}
use Rattle.port_tables.specs.declared.direction.Direction.{Direction}
use Rattle.port_tables.specs.declared.index.NodeIndex.{NodeIndex}
use Rattle.multi_tables.specs.declared.answers.Refusal.TheVariants.{UnknownPort, HiddenPort, UnknownOffset}
use Rattle.multi_tables.specs.declared.answers.Refusal.{Refusal}

-- What `ok` of a result says of it.

pub ok_told : {A E : Type 0} {o : Option A} (r : Result A E) (x : A) → o ≡ result_ok r → o ≡ Some x → r ≡ Ok x
ok_told (Ok y) x e f = cc
ok_told (Err z) x e f = cc

-- the same of a result that is told of by its contract
pub read_ok : {A E : Type 0} {b y : Result A E} {o : Option A} {x : A} → b ≡ y → o ≡ result_ok b → o ≡ Some x → y ≡ Ok x
read_ok {b = b} {x = x} e k s = sym e ∙ ok_told b x k s

pub err_told : {A E : Type 0} {o : Option A} (r : Result A E) → o ≡ result_ok r → o ≡ None → (z : E) × (r ≡ Err z)
err_told (Ok y) e f = cc
err_told (Err z) e f = (z, refl)

-- The block that has a port. What is refused is refused alike by all that refuse 7 and 8.
pub refused_as : (p : ℕ) {A : Type 0} (v : Refusal → A) (f : Port → A) (s : Port) (r : Refusal) → f dead ≡ v (UnknownPort (port# p)) → f hidden ≡ v (HiddenPort (port# p))
    → block_or p s ≡ Err r → v r ≡ f s
refused_as p v f dead r g h e = let k : UnknownPort (port# p) ≡ r = cc in ap v (sym k) ∙ sym g
refused_as p v f hidden r g h e = let k : HiddenPort (port# p) ≡ r = cc in ap v (sym k) ∙ sym h
refused_as p v f (visible n d) r g h e = let z : ◌≡◌ {A = ℕ} 0 1 = cc in absurd (omega arith)

found_as : (p : ℕ) (s : Port) (n : NodeIndex) (d : Direction) → block_or p s ≡ Ok (n, d) → s ≡ visible n.0 d
found_as p dead n d e = let z : ◌≡◌ {A = ℕ} 0 1 = cc in absurd (omega arith)
found_as p hidden n d e = let z : ◌≡◌ {A = ℕ} 0 1 = cc in absurd (omega arith)
found_as p (visible k f) n d e = let g : ◌≡◌ {A = NodeIndex × Direction} (node# k, f) (n, d) = cc in ap (λ (x : NodeIndex × Direction). visible x.0.0 x.1) g

unseen_as : (p : ℕ) {A : Type 0} (f : Port → A) (z : A) (s : Port) (r : Refusal) → f dead ≡ z → f hidden ≡ z → block_or p s ≡ Err r → f s ≡ z
unseen_as p f z dead r g h e = g
unseen_as p f z hidden r g h e = h
unseen_as p f z (visible n d) r g h e = let k : ◌≡◌ {A = ℕ} 0 1 = cc in absurd (omega arith)

module _ (owners : List ℕ) (flags : List Bool) (p : ℕ) where
  pub block_seen : (s : Port) → seen_in owners flags p ≡ s → block_or p s ≡ block_port owners flags p
  unfolding block_port
  block_seen s e = ap (block_or p) (sym e)

  pub block_refused : {A : Type 0} (f : Port → Result A Refusal) (r : Refusal) → f dead ≡ Err (UnknownPort (port# p)) → f hidden ≡ Err (HiddenPort (port# p))
      → block_port owners flags p ≡ Err r → Err r ≡ f (seen_in owners flags p)
  unfolding block_port
  block_refused f r g h e = refused_as p Err f (seen_in owners flags p) r g h e

  -- what a dead and a hidden port give alike, a port that is refused gives
  pub block_unseen : {A : Type 0} (f : Port → A) (z : A) (r : Refusal) → f dead ≡ z → f hidden ≡ z → block_port owners flags p ≡ Err r
      → f (seen_in owners flags p) ≡ z
  unfolding block_port
  block_unseen f z r g h e = unseen_as p f z (seen_in owners flags p) r g h e

  pub block_found : (n : NodeIndex) (d : Direction) → block_port owners flags p ≡ Ok (n, d) → seen_in owners flags p ≡ visible n.0 d
  unfolding block_port
  block_found n d e = found_as p (seen_in owners flags p) n d e

-- What the end of a block's port is, or why it is refused.
module _ (marks : List Bool) (links owners : List ℕ) (flags : List Bool) (p : ℕ) where
  pub end_there : (v : End) (x : ℕ) {r : Result ℕ Refusal} → r ≡ end_or marks links owners flags p v → r ≡ Ok x → v ≡ inner x
  end_there (inner y) x e f = let g : x ≡ y = cc in ap inner (sym g)
  end_there lacking x e f = cc

  pub end_lacking : (v : End) (z : Refusal) {r : Result ℕ Refusal} → r ≡ end_or marks links owners flags p v → r ≡ Err z → (v ≡ lacking) × (z ≡ UnknownOffset (port# p))
  end_lacking (inner y) z e f = cc
  end_lacking lacking z e f = (refl, cc)
