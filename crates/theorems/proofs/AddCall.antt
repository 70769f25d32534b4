-- Adding a block: its bundle.
use Rattle.std.specs.Prelude.{◌≡◌, refl, Bool, true, false, ℕ, ◌+◌, leb, Result, Ok, Err}
use Rattle.std.proofs.Common.{sym, ◌∙◌, ap, subst, inl, inr, leb-true, leb-false, le-leb}
use Rattle.std.proofs.lemmas.Bool.{lt-leb}
use Rattle.port_tables.specs.Limits.{node_slots, port_slots, node_ports, present}
use Rattle.portgraph.specs.Model.{Model}
use Rattle.portgraph.specs.Calls.{add_node}
use Rattle.portgraph.specs.SlotHolds.{slot_room, block_room, add_where, add_law}
use Rattle.portgraph.specs.declared.alloc.NodeAdded as lower_added
use Rattle.multiportgraph.specs.Calls.{added_as, add_block}
use Rattle.theorems.specs.Book as book
use Rattle.multiportgraph.specs.WellFormed.{Fine}
use Rattle.multiportgraph.specs.declared.multiportgraph.MultiPortGraph.{MultiPortGraph}
use Rattle.multi_tables.specs.declared.answers.Refusal.{Refusal}
use Rattle.multi_tables.specs.declared.answers.Refusal.TheVariants.{NoRoom}
use Rattle.multiportgraph.specs.declared.multiportgraph.NodeAdded.{NodeAdded}
use Rattle.multiportgraph.specs.Graph.{with_graph}
use Rattle.multiportgraph.specs.CaseLaws.{add_cases}
use Rattle.multiportgraph.specs.LinkCutLaws.{add_block_law}
use Rattle.theorems.proofs.WireRule.{after_add}
use Rattle.multiportgraph.specs.SpaceLaws.{add_call_space}
use Rattle.theorems.specs.Works.{works_of}
use Rattle.theorems.specs.Conditions.{AddRefused, add_full, add_many}
use Rattle.theorems.proofs.CallLaw.{CallLaw, whole}
use Rattle.port_tables.specs.declared.index.NodeIndex.{NodeIndex}
use Rattle.port_tables.specs.declared.index.PortIndex.{PortIndex}

-- Adding a block.

module _ {m : MultiPortGraph} {M : Model} (f : Fine m M) (incoming outgoing : ℕ) where
  -- what it does, by what it finds
  pub add_is : (a b c : Bool) → leb (incoming + outgoing) node_ports ≡ a → slot_room M ≡ b → block_room M (incoming + outgoing) ≡ c →
      add_block m incoming outgoing
      ≡ record {
        graph = with_graph m (add_where m.graph M incoming outgoing a b c).graph;
        answer = added_as (add_where m.graph M incoming outgoing a b c).answer;
      }
  add_is a b c p q r =
      add_cases present m incoming outgoing ∙ (
      let e : add_node m.graph incoming outgoing ≡ add_where m.graph M incoming outgoing a b c = add_law f.good f.holds incoming outgoing ∙ rw (p, q, r) in
      ap (λ (v : lower_added.NodeAdded). record { graph = with_graph m v.graph; answer = added_as v.answer }) e)

  pub add_refuses : (r : Refusal) → AddRefused M incoming outgoing r → add_block m incoming outgoing ≡ record { graph = m; answer = Err r }
  add_refuses r (add_many h) = add_is false _ _ (lt-leb (incoming + outgoing) node_ports h) refl refl
  add_refuses r (add_full h (inl k)) = add_is true false _ (le-leb (incoming + outgoing) node_ports h) (lt-leb _ node_slots k) refl
  add_refuses r (add_full h (inr k)) = go (slot_room M) refl
    where
      go : (b : Bool) → slot_room M ≡ b → add_block m incoming outgoing ≡ record { graph = m; answer = Err NoRoom }
      go true q = add_is true true false (le-leb (incoming + outgoing) node_ports h) q (lt-leb _ port_slots k)
      go false q = add_is true false _ (le-leb (incoming + outgoing) node_ports h) q refl

  abbrev AddSays : Result (NodeIndex × PortIndex) Refusal → Type 0
  AddSays (Ok (n, p)) = Unit {0}
  AddSays (Err r) = AddRefused M incoming outgoing r

  add_says : AddSays (add_block m incoming outgoing).answer
  add_says = go (leb (incoming + outgoing) node_ports) (slot_room M) (block_room M (incoming + outgoing)) refl refl refl
    where
      go : (a b c : Bool) → leb (incoming + outgoing) node_ports ≡ a → slot_room M ≡ b → block_room M (incoming + outgoing) ≡ c → AddSays (add_block m incoming outgoing).answer
      go false b c p q r = subst (λ (v : NodeAdded). AddSays v.answer) (sym (add_is false b c p q r)) (add_many (leb-false _ _ p))
      go true false c p q r = subst (λ (v : NodeAdded). AddSays v.answer) (sym (add_is true false c p q r)) (add_full (leb-true _ _ p) (inl (leb-false _ _ q)))
      go true true false p q r = subst (λ (v : NodeAdded). AddSays v.answer) (sym (add_is true true false p q r)) (add_full (leb-true _ _ p) (inr (leb-false _ _ r)))
      go true true true p q r = subst (λ (v : NodeAdded). AddSays v.answer) (sym (add_is true true true p q r)) tt

  pub add_refused : (r : Refusal) → (add_block m incoming outgoing).answer ≡ Err r → AddRefused M incoming outgoing r
  add_refused r e = subst AddSays e add_says

module _ {m : MultiPortGraph} {M : Model} (f : Fine m M) where
  pub add_call : (i o : ℕ) → CallLaw m M (book.add_call i o)
  unfolding works_of
  add_call i o =
      record {
        leads = after_add f _ i o (add_block m i o).answer (add_block_law f i o);
        refuses = λ r k. whole (λ (v : NodeAdded). v.answer) (λ v. v.graph) (add_refuses f i o r k);
        only = add_refused f i o;
        space = add_call_space f i o;
      }
