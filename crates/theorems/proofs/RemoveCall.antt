-- Removing a block: its bundle.
use Rattle.std.specs.Prelude.{◌≡◌, refl, Bool, true, false, cond, ℕ, Option, Some, None, Result, Ok, Err}
use Rattle.std.proofs.Common.{sym, ◌∙◌, ap, subst}
use Rattle.portgraph.specs.Lookups.{meta_at}
use Rattle.portgraph.specs.Model.{Model, Slots, gone, live}
use Rattle.portgraph.specs.PlaceLaws.{meta_of_node, gone_has_no_meta}
use Rattle.port_tables.specs.declared.node_entry.NodeMeta.{NodeMeta}
use Rattle.multiportgraph.specs.Reading.{is_hidden}
use Rattle.multiportgraph.specs.Calls.{drop_block, remove_block}
use Rattle.theorems.specs.Book as book
use Rattle.multiportgraph.specs.WellFormed.{Fine}
use Rattle.multiportgraph.specs.declared.multiportgraph.MultiPortGraph.{MultiPortGraph}
use Rattle.multi_tables.specs.declared.answers.Refusal.{Refusal}
use Rattle.multi_tables.specs.declared.answers.Refusal.TheVariants.{UnknownNode, HiddenNode}
use Rattle.multiportgraph.specs.declared.multiportgraph.NodeRemoved.{NodeRemoved}
use Rattle.multiportgraph.specs.Cases.{remove_refused, remove_meta}
use Rattle.multiportgraph.specs.CaseLaws.{remove_cases}
use Rattle.theorems.specs.RemoveLaws.{remove_block_law}
use Rattle.theorems.proofs.WireRule.{after_remove}
use Rattle.multiportgraph.specs.SpaceLaws.{remove_space}
use Rattle.theorems.specs.Works.{works_of}
use Rattle.theorems.specs.Conditions.{RemoveRefused, remove_hidden, remove_unknown}
use Rattle.theorems.proofs.CallLaw.{CallLaw, whole}

-- Removing a block.

module _ {m : MultiPortGraph} {M : Model} (f : Fine m M) (n : ℕ) where
  remove_is : (v : Option NodeMeta) → meta_at m.graph n ≡ v → remove_block m n ≡ remove_meta m n v
  remove_is v e = remove_cases m n ∙ ap (remove_meta m n) e

  pub remove_live : (k : NodeMeta) (b : Bool) → is_hidden m n ≡ b → M.node n ≡ live k →
      remove_block m n ≡ cond b (remove_refused m HiddenNode) (record { graph = drop_block m n k; answer = Ok tt })
  remove_live k b h e = remove_is (Some k) (meta_of_node f.good f.holds n k e) ∙ rw h

  pub remove_refuses : (r : Refusal) → RemoveRefused m M n r → remove_block m n ≡ remove_refused m r
  remove_refuses r (remove_unknown e) = remove_is None (gone_has_no_meta f.good f.holds n e)
  remove_refuses r (remove_hidden h) = let k = f.copy n h in remove_live k.meta true h k.here

  abbrev RemoveSays : Result (Unit {0}) Refusal → Type 0
  RemoveSays (Ok tt) = Unit {0}
  RemoveSays (Err r) = RemoveRefused m M n r

  remove_says : RemoveSays (remove_block m n).answer
  remove_says = go (M.node n) refl
    where
      flagged : (k : NodeMeta) (b : Bool) → is_hidden m n ≡ b → M.node n ≡ live k → RemoveSays (remove_block m n).answer
      flagged k true h e = subst (λ (v : NodeRemoved). RemoveSays v.answer) (sym (remove_live k true h e)) (remove_hidden h)
      flagged k false h e = subst (λ (v : NodeRemoved). RemoveSays v.answer) (sym (remove_live k false h e)) tt

      go : (s : Slots) → M.node n ≡ s → RemoveSays (remove_block m n).answer
      go gone e = subst (λ (v : NodeRemoved). RemoveSays v.answer) (sym (remove_refuses UnknownNode (remove_unknown e))) (remove_unknown e)
      go (live k) e = flagged k (is_hidden m n) refl e

  pub remove_refused_lem : (r : Refusal) → (remove_block m n).answer ≡ Err r → RemoveRefused m M n r
  remove_refused_lem r e = subst RemoveSays e remove_says

module _ {m : MultiPortGraph} {M : Model} (f : Fine m M) where
  pub remove_call : (n : ℕ) → CallLaw m M (book.remove_call n)
  unfolding works_of
  remove_call n =
      record {
        leads = after_remove f _ n (remove_block m n).answer (remove_block_law f n);
        refuses = λ r k. whole (λ (v : NodeRemoved). v.answer) (λ v. v.graph) (remove_refuses f n r k);
        only = remove_refused_lem f n;
        space = remove_space f n;
      }
