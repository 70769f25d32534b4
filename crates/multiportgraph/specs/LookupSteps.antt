-- A node number as the lookups and the starts of walks read it, and what their steps amount to, over plain values.
use Rattle.std.specs.Prelude.{◌≡◌, refl, Bool, true, false, cond, ℕ, Option, Some, None, Result, Ok, Err}
use Rattle.std.proofs.Common.{sym, ◌∙◌, arith}
use Rattle.std.proofs.Math.Path.{ap}
use Rattle.port_tables.specs.Entries.{ports_on}
use Rattle.portgraph.specs.Lookups.{meta_at, port_index, count_in, capacity_in, is_some}
use Rattle.port_tables.specs.declared.direction.Direction.{Direction}
use Rattle.port_tables.specs.declared.index.PortOffset.{PortOffset}
use Rattle.port_tables.specs.declared.node_entry.NodeMeta.{NodeMeta}
use Rattle.multiportgraph.specs.Reading.{position_of, is_hidden, seen}
use Rattle.multi_tables.specs.Forms.{Port, visible}
use Rattle.multiportgraph.specs.Wires.{is_block}
use Rattle.multiportgraph.specs.Walks.{Start, started, refused, start_at_node}
use Rattle.multiportgraph.specs.Lookups.{offset_seen, offset_of, fan_out_seen, port_fan_out, counted, num_ports_of, capacity_of, port_found, port_index_of}
use Rattle.multiportgraph.specs.declared.multiportgraph.MultiPortGraph.{MultiPortGraph}
use Rattle.multi_tables.specs.declared.answers.Refusal.{Refusal}
use Rattle.multi_tables.specs.declared.answers.Refusal.TheVariants.{UnknownNode, HiddenNode}
use Rattle.multiportgraph.specs.CodeForms.{block_in, block_found}
use Rattle.port_tables.specs.declared.index.PortIndex.{PortIndex}

-- Nodes.

-- what was found, as a start has it
abbrev pub start_of : Result NodeMeta Refusal → Start
start_of (Ok k) = started
start_of (Err r) = refused r

abbrev pub found_block : Result NodeMeta Refusal → Bool
found_block (Ok k) = true
found_block (Err r) = false

start_by : (h : Bool) (k : Option NodeMeta) → start_of (block_in h k) ≡ cond (is_some k) (cond h (refused HiddenNode) started) (refused UnknownNode)
start_by h None = refl
start_by true (Some k) = refl
start_by false (Some k) = refl

block_by : (h : Bool) (k : Option NodeMeta) → found_block (block_in h k) ≡ cond h false (is_some k)
block_by true None = refl
block_by false None = refl
block_by true (Some k) = refl
block_by false (Some k) = refl

meta_by : (h : Bool) (a : Option NodeMeta) (k : NodeMeta) → block_in h a ≡ Ok k → (a ≡ Some k) × (h ≡ false)
meta_by h None k e = let z : ◌≡◌ {A = ℕ} 0 1 = cc in absurd (omega arith)
meta_by true (Some b) k e = let z : ◌≡◌ {A = ℕ} 0 1 = cc in absurd (omega arith)
meta_by false (Some b) k e = (cc, refl)

module _ (m : MultiPortGraph) (n : ℕ) where
  -- a start is refused as the block is
  pub start_is : start_of (block_found m n) ≡ start_at_node m n
  unfolding block_found start_at_node
  start_is = start_by (is_hidden m n) (meta_at m.graph n)

  pub block_is : found_block (block_found m n) ≡ is_block m n
  unfolding block_found is_block
  block_is = block_by (is_hidden m n) (meta_at m.graph n)

  pub meta_is : (k : NodeMeta) → block_found m n ≡ Ok k → meta_at m.graph n ≡ Some k
  unfolding block_found
  meta_is k e = (meta_by (is_hidden m n) (meta_at m.graph n) k e).0

  pub start_at : (f : Result NodeMeta Refusal) → block_found m n ≡ f → start_of f ≡ start_at_node m n
  start_at f e = ap start_of (sym e) ∙ start_is

  pub start_refused : {r : Refusal} → block_found m n ≡ Err r → start_at_node m n ≡ refused r
  start_refused e = sym (start_at (Err _) e)

  pub start_made : {k : NodeMeta} → block_found m n ≡ Ok k → start_at_node m n ≡ started
  start_made e = sym (start_at (Ok _) e)

  pub block_at : (f : Result NodeMeta Refusal) → block_found m n ≡ f → found_block f ≡ is_block m n
  block_at f e = ap found_block (sym e) ∙ block_is

  module _ (d : Direction) where
    pub ports_refused : (r : Refusal) → block_found m n ≡ Err r → Err r ≡ num_ports_of m n d
    unfolding num_ports_of
    ports_refused r e = ap (λ s. counted s (count_in (meta_at m.graph n) d)) (start_at (Err r) e)

    pub ports_counted : (k : NodeMeta) (c : ℕ) → block_found m n ≡ Ok k → c ≡ ports_on k d → Ok c ≡ num_ports_of m n d
    unfolding num_ports_of
    ports_counted k c e f =
        ap Ok (f ∙ ap (λ x. count_in x d) (sym (meta_is k e)))
        ∙ ap (λ s. counted s (count_in (meta_at m.graph n) d)) (start_at (Ok k) e)

  pub capacity_refused : (r : Refusal) → block_found m n ≡ Err r → Err r ≡ capacity_of m n
  unfolding capacity_of
  capacity_refused r e = ap (λ s. counted s (capacity_in (meta_at m.graph n))) (start_at (Err r) e)

  pub capacity_counted : {f : Result NodeMeta Refusal} {k : NodeMeta} {c : ℕ} → f ≡ block_found m n → f ≡ Ok k → c ≡ k.capacity → Ok c ≡ capacity_of m n
  unfolding capacity_of
  capacity_counted {k = k} e h f =
      let there = sym e ∙ h in
      ap Ok (f ∙ ap capacity_in (sym (meta_is k there)))
      ∙ ap (λ s. counted s (capacity_in (meta_at m.graph n))) (start_at (Ok k) there)

  pub index_refused : (o : PortOffset) (r : Refusal) → block_found m n ≡ Err r → Err r ≡ port_index_of m n o
  unfolding port_index_of
  index_refused o r e = ap (λ s. port_found s (port_index m.graph n o)) (start_at (Err r) e)

  pub index_found : (o : PortOffset) (k : NodeMeta) (p : Option PortIndex) → block_found m n ≡ Ok k → p ≡ port_index m.graph n o → Ok p ≡ port_index_of m n o
  unfolding port_index_of
  index_found o k p e h = ap Ok h ∙ ap (λ s. port_found s (port_index m.graph n o)) (start_at (Ok k) e)

-- Ports.

module _ (m : MultiPortGraph) (p : ℕ) where
  pub offset_at : (s : Port) → seen m p ≡ s → offset_seen m p s ≡ offset_of m p
  unfolding offset_of
  offset_at s e = ap (offset_seen m p) (sym e)

  pub offset_found : (n : ℕ) (d : Direction) (i : ℕ) → seen m p ≡ visible n d → i ≡ position_of m.graph p
      → Ok (record { direction = d; index = i }) ≡ offset_of m p
  offset_found n d i e f = ap (λ (x : ℕ). Ok (record { direction = d; index = x })) f ∙ offset_at (visible n d) e

  pub fan_out_at : (s : Port) → seen m p ≡ s → fan_out_seen m p s ≡ port_fan_out m p
  unfolding port_fan_out
  fan_out_at s e = ap (fan_out_seen m p) (sym e)
