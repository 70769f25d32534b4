-- Preparing an end: what the calls of the code give amounts to the definitions.
use Rattle.std.proofs.Math.Path.{◌≡◌, refl}
use Rattle.std.proofs.Common.{sym, ap, ◌∙◌}
use Rattle.std.specs.Prelude.{Bool, cond, eqb, Option, Some, None, Result, Ok, Err}
use Rattle.std.specs.Result.{result_or}
use Rattle.std.proofs.Math.Bool.{true, false}
use Prim.Native.Nat.{ℕ, zero, suc, ◌+◌, ◌-◌, ◌*◌, ◌≤◌, ◌<◌}
use native.Mathlib.Omega.{arith}
use Rattle.std.proofs.Math.Dec.{leb}
use borrow.Author.Tests.{eq-eqb, ne_eqb}
use Rattle.port_tables.specs.Limits.{node_slots, node_ports}
use Rattle.port_tables.specs.Tables.{at}
use Rattle.portgraph.specs.Lookups.{num_ports}
use Rattle.portgraph.specs.Calls.{add_found, find_slot, find_block, add_node, add_node_under}
use Rattle.portgraph.specs.Resize.{Plan, refuse, same, inside, anew, plan_of, set_by, set_num_ports, set_num_ports_under}
use Rattle.portgraph.specs.Model.{Far, nowhere, to, Slots, gone, live, Valid, slot_of, count_of, ports_of}
use Rattle.portgraph.specs.PlaceLaws.{link_none, link_to}
use Rattle.portgraph.specs.Sums.{total_bound}
use Rattle.port_tables.specs.declared.direction.Direction.{Direction}
use Rattle.port_tables.specs.declared.index.NodeIndex.{NodeIndex}
use Rattle.port_tables.specs.declared.index.PortIndex.{PortIndex}
use Rattle.portgraph.specs.declared.portgraph.PortGraph.{PortGraph}
use Rattle.portgraph.specs.declared.alloc.NodeAdded.{NodeAdded}
use Rattle.multiportgraph.specs.Reading.{has_link, port_of, is_hidden}
use Rattle.multiportgraph.specs.WellFormed.{inner#, MultiWf, subports_of_slot}
use Rattle.multiportgraph.specs.Ends.{port_of_lem, count_of_lem, linked_is, unlinked_is}
use Rattle.multiportgraph.specs.CodeForms.{Prepared, prepared_as}
use Rattle.multi_tables.specs.Forms.{lowest_unlinked}
use Rattle.multiportgraph.specs.declared.multiportgraph.MultiPortGraph.{MultiPortGraph}
use Rattle.multiportgraph.specs.Graph.{with_graph}
use Rattle.multiportgraph.specs.HiddenNodes.{copy_incoming, copy_outgoing, split_by, split, lowest_free, split_under}
use Rattle.port_tables.specs.Places.{flag}
use Rattle.portgraph.specs.declared.alloc.AddError.{AddError}
use Rattle.portgraph.specs.declared.alloc.AddError.TheVariants as add_error
use Rattle.portgraph.specs.declared.resize.SetError.{SetError}
use Rattle.multi_tables.specs.declared.answers.Refusal.TheVariants.{NoRoom}
use Rattle.port_tables.specs.Listing.{flag_small}

-- What a graph of the calls keeps small.

pub few_copies : (m : MultiPortGraph) → MultiWf m → m.copy_node_count ≤ node_slots
few_copies m w =
    let e = w.fine.copies in
    let h = total_bound node_slots 1 (λ n. flag (is_hidden m n)) (λ i l. flag_small (is_hidden m i)) in
    omega arith

pub few_subs : (m : MultiPortGraph) → MultiWf m → m.subport_count ≤ node_slots * node_ports
few_subs m w =
    let e = w.fine.subs in
    let h = total_bound node_slots node_ports (subports_of_slot m w.model) (λ i l. small i (is_hidden m i) (w.model.node i) refl) in
    omega arith
  where
    small : (i : ℕ) (b : Bool) (v : Slots) → w.model.node i ≡ v → cond b (ports_of v - 1) 0 ≤ node_ports
    small i true gone e = omega arith
    small i true (live k) e = let p = w.fine.good.ports_in_block i k e in let s = w.fine.good.block_small i k e in omega arith
    small i false v e = omega arith

-- the ports of a side lie in a row, so the lowest unlinked slot is the lowest unlinked port
module _ (m : MultiPortGraph) (w : MultiWf m) (c : ℕ) (d : Direction) where
  lowest_in_row : (s : ℕ) → ((i : ℕ) → i < count_of (w.model.node c) d → slot_of w.model.node (inner# c d i) ≡ s + i) →
      (o n : ℕ) → o + n ≤ count_of (w.model.node c) d → lowest_unlinked m.graph.port_link s o n ≡ lowest_free m.graph c d o n
  unfolding lowest_unlinked lowest_free
  lowest_in_row s row o zero l = refl
  lowest_in_row s row o (suc n) l = go (w.model.join (inner# c d o)) refl (lowest_in_row s row (suc o) n (omega arith))
    where
      v : Valid w.model.node (inner# c d o)
      v = omega arith

      there : at m.graph.port_link (s + o) ≡ at m.graph.port_link (slot_of w.model.node (inner# c d o))
      there = ap (at m.graph.port_link) (sym (row o v))

      go : (y : Far) → w.model.join (inner# c d o) ≡ y → lowest_unlinked m.graph.port_link s (suc o) n ≡ lowest_free m.graph c d (suc o) n →
          cond (eqb (at m.graph.port_link (s + o)) 0) o (lowest_unlinked m.graph.port_link s (suc o) n)
          ≡ cond (has_link m.graph (port_of m.graph c d o)) (lowest_free m.graph c d (suc o) n) o
      go nowhere j k =
          rw (port_of_lem w.fine c d o v, unlinked_is w.fine (inner# c d o) v j, eq-eqb (at m.graph.port_link (s + o)) 0 (there ∙ link_none w.fine.good w.fine.holds (inner# c d o) v j))
      go (to y) j k =
          let f = there ∙ link_to w.fine.good w.fine.holds (inner# c d o) y v j in
          rw (port_of_lem w.fine c d o v, linked_is w.fine (inner# c d o) y j, ne_eqb (at m.graph.port_link (s + o)) 0 (λ z. omega arith)) k

  pub lowest_same : lowest_unlinked m.graph.port_link (port_of m.graph c d 0) 0 (num_ports m.graph c d) ≡ lowest_free m.graph c d 0 (num_ports m.graph c d)
  lowest_same =
      let e = count_of_lem w.fine c d in
      lowest_in_row (port_of m.graph c d 0)
      (λ i l. let z = port_of_lem w.fine c d 0 (omega arith) in omega arith)
      0 (num_ports m.graph c d) (omega arith)

-- What is refused below is refused here for lack of room, and changes nothing.

pub or_ok : {A E F : Type 0} (r : Result A E) (z : F) {x : A} {s : Result A F} → s ≡ result_or r (Err z) → s ≡ Ok x → r ≡ Ok x
or_ok (Ok y) z e f = let g : y ≡ _ = cc in ap Ok g
or_ok (Err y) z e f = cc

pub or_err : {A E F : Type 0} (r : Result A E) {z w : F} {s : Result A F} → s ≡ result_or r (Err z) → s ≡ Err w → (w ≡ z) × ((x : A) → r ≡ Ok x → ⊥)
or_err (Ok y) e f = cc
or_err (Err y) e f = (cc, λ x q. cc)

add_kept : (g : PortGraph) (i o : ℕ) {a : Result (NodeIndex × PortIndex) AddError} → a ≡ (add_node g i o).answer → ((x : NodeIndex × PortIndex) → a ≡ Ok x → ⊥) →
    (add_node g i o).graph ≡ g
unfolding add_node_under
add_kept g i o {a} e none = go (leb (i + o) node_ports) (find_slot g.node_free g.node_len) (find_block g.port_free g.port_len (i + o)) e
  where
    go : (c : Bool) (x y : Option ℕ) → a ≡ (cond c (add_found g i o x y) (record { graph = g; answer = Err add_error.TooManyPorts })).answer →
        (cond c (add_found g i o x y) (record { graph = g; answer = Err add_error.TooManyPorts })).graph ≡ g
    go false x y h = refl
    go true None y h = refl
    go true (Some n) None h = refl
    go true (Some n) (Some f) h = absurd (none _ h)

pub set_kept : (g : PortGraph) (n i o room : ℕ) {a : Result ℕ SetError} → a ≡ (set_num_ports g n i o room).answer → ((e : ℕ) → a ≡ Ok e → ⊥) →
    (set_num_ports g n i o room).graph ≡ g
unfolding set_num_ports_under
set_kept g n i o room {a} e none = go (plan_of g n i o room) e
  where
    go : (p : Plan) → a ≡ (set_by g n i o p).answer → (set_by g n i o p).graph ≡ g
    go (refuse x) h = refl
    go same h = refl
    go (inside k) h = absurd (none _ h)
    go (anew k f) h = absurd (none _ h)

-- Splitting.

-- what adding a node gives, with other counts that are the same
pub added_is : (m : MultiPortGraph) {i o i' o' : ℕ} {g : PortGraph} {r : Result (NodeIndex × PortIndex) AddError} → i ≡ i' → o ≡ o' → g ≡ (add_node m.graph i o).graph → r ≡ (add_node m.graph i o).answer
    → ◌≡◌ {A = NodeAdded} (record { graph = g; answer = r }) (add_node m.graph i' o')
added_is m e₁ e₂ e₃ e₄ = (λ j. record { graph = e₃ j; answer = e₄ j }) ∙ (λ j. add_node m.graph (e₁ j) (e₂ j))

module _ (m : MultiPortGraph) (p : ℕ) (d : Direction) {i o : ℕ} {g : PortGraph} {r : Result (NodeIndex × PortIndex) AddError} (e₁ : i ≡ copy_incoming d) (e₂ : o ≡ copy_outgoing d)
    (e₃ : g ≡ (add_node m.graph i o).graph) (e₄ : r ≡ (add_node m.graph i o).answer) where
  pub split_full : ((x : NodeIndex × PortIndex) → r ≡ Ok x → ⊥) → ◌≡◌ {A = Prepared} (with_graph m g, Err NoRoom) (prepared_as m (split m p d))
  unfolding split_under
  split_full none =
      ap (λ (v : PortGraph). (with_graph m v, Err NoRoom)) (e₃ ∙ add_kept m.graph i o e₄ none)
      ∙ (go r none ∙ (λ j. prepared_as m (split_by m p d (added_is m e₁ e₂ e₃ e₄ j).graph (added_is m e₁ e₂ e₃ e₄ j).answer)))
    where
      go : (a : Result (NodeIndex × PortIndex) AddError) → ((x : NodeIndex × PortIndex) → a ≡ Ok x → ⊥) → ◌≡◌ {A = Prepared} (m, Err NoRoom) (prepared_as m (split_by m p d g a))
      go (Ok x) n = absurd (n x refl)
      go (Err add_error.TooManyPorts) n = refl
      go (Err add_error.NoRoom) n = refl
