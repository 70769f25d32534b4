-- Tidying a port: its bundle.
use Rattle.std.specs.Prelude.{◌≡◌, ℕ, Err}
use Rattle.std.proofs.Common.{sym, ◌∙◌, ap, subst}
use Rattle.portgraph.specs.Model.{Model}
use Rattle.multiportgraph.specs.Reading.{seen}
use Rattle.multi_tables.specs.Forms.{Port, dead, hidden, visible}
use Rattle.multiportgraph.specs.Calls.{tidy_port}
use Rattle.theorems.specs.Book as book
use Rattle.multiportgraph.specs.WellFormed.{Fine}
use Rattle.multiportgraph.specs.declared.multiportgraph.MultiPortGraph.{MultiPortGraph}
use Rattle.multi_tables.specs.declared.answers.Refusal.{Refusal}
use Rattle.multiportgraph.specs.declared.multiportgraph.PortTidied.{PortTidied}
use Rattle.multiportgraph.specs.Cases.{tidy_refused, tidy_seen}
use Rattle.multiportgraph.specs.CaseLaws.{tidy_cases}
use Rattle.multiportgraph.specs.TidyLaws.{tidy_port_law}
use Rattle.multiportgraph.specs.SpaceLaws.{tidy_space}
use Rattle.theorems.proofs.WireRule.{after_tidy}
use Rattle.theorems.specs.Works.{works_of}
use Rattle.theorems.specs.Conditions.{CutRefused, TidySays, PortIs, block_port, cut_dead, cut_hidden, hidden_port, no_port}
use Rattle.theorems.specs.PortCases.{port_is, seen_block_port, seen_hidden_port, seen_none}
use Rattle.theorems.proofs.CallLaw.{CallLaw, whole}

module _ {m : MultiPortGraph} {M : Model} (f : Fine m M) (p : ℕ) where
  pub tidy_is : (v : Port) → seen m p ≡ v → tidy_port m p ≡ tidy_seen m p v
  tidy_is v e = tidy_cases m p ∙ ap (tidy_seen m p) e

  pub tidy_refuses : (r : Refusal) → CutRefused m M p r → tidy_port m p ≡ tidy_refused m r
  tidy_refuses r (cut_dead d) = tidy_is dead (seen_none f p d)
  tidy_refuses r (cut_hidden h) = tidy_is hidden (seen_hidden_port f p h)

  abbrev Said : PortTidied → Type 0
  Said v = TidySays (CutRefused m M p) v.answer

  tidy_says : Said (tidy_port m p)
  tidy_says = go (port_is f p)
    where
      go : PortIs m M p → Said (tidy_port m p)
      go (no_port d) = subst Said (sym (tidy_refuses _ (cut_dead d))) (cut_dead d)
      go (hidden_port h) = subst Said (sym (tidy_refuses _ (cut_hidden h))) (cut_hidden h)
      go (block_port x b) = subst Said (sym (tidy_is (visible x.node x.side) (seen_block_port f p x b))) tt

  pub tidy_refused_lem : (r : Refusal) → (tidy_port m p).answer ≡ Err r → CutRefused m M p r
  tidy_refused_lem r e = subst (TidySays (CutRefused m M p)) e tidy_says

  pub tidy_call : CallLaw m M (book.tidy_call p)
  unfolding works_of
  tidy_call =
      record {
        leads = after_tidy f _ (tidy_port m p).answer (tidy_port_law f p);
        refuses = λ r k. whole (λ (v : PortTidied). v.answer) (λ v. v.graph) (tidy_refuses r k);
        only = tidy_refused_lem;
        space = tidy_space f p;
      }
