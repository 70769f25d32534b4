-- Cutting every wire at a port: its bundle.
use Rattle.std.specs.Prelude.{◌≡◌, refl, Bool, true, false, ℕ, Option, Some, None, Result, Ok, Err}
use Rattle.std.proofs.Common.{sym, subst}
use Rattle.portgraph.specs.Model.{Model}
use Rattle.portgraph.specs.Calls.{unlink_port}
use Rattle.port_tables.specs.declared.direction.Direction.{Direction}
use Rattle.multiportgraph.specs.Reading.{is_split}
use Rattle.multi_tables.specs.Forms.{dead, hidden, visible}
use Rattle.multiportgraph.specs.Calls.{cut_plain, cut_port}
use Rattle.theorems.specs.Book as book
use Rattle.multiportgraph.specs.WellFormed.{Fine}
use Rattle.multiportgraph.specs.declared.multiportgraph.MultiPortGraph.{MultiPortGraph}
use Rattle.multi_tables.specs.declared.answers.Refusal.{Refusal}
use Rattle.multiportgraph.specs.declared.multiportgraph.PortUnlinked.{PortUnlinked}
use Rattle.port_tables.specs.Places.{at_spot}
use Rattle.multiportgraph.specs.Cases.{cut_refused, cut_seen}
use Rattle.multiportgraph.specs.CopyLaws.{port_at}
use Rattle.theorems.proofs.WireRule.{after_cut}
use Rattle.multiportgraph.proofs.CutLaws.{cut_port_law, cut_space, cut_port_seen}
use Rattle.theorems.specs.Works.{works_of}
use Rattle.theorems.specs.Conditions.{CutRefused, CutSays, PortIs, block_port, cut_dead, cut_hidden, hidden_port, no_port}
use Rattle.theorems.specs.PortCases.{port_is, seen_block_port, seen_hidden_port, seen_none}
use Rattle.theorems.proofs.CallLaw.{CallLaw, whole}
use Rattle.port_tables.specs.declared.index.PortIndex.{PortIndex}
use Rattle.portgraph.specs.declared.portgraph.NoSuchPort.{NoSuchPort}

-- Cutting a port.

module _ {m : MultiPortGraph} {M : Model} (f : Fine m M) (p : ℕ) where
  pub cut_refuses : (r : Refusal) → CutRefused m M p r → cut_port m p ≡ cut_refused m r
  cut_refuses r (cut_dead d) = sym (cut_port_seen m p dead (seen_none f p d))
  cut_refuses r (cut_hidden h) = sym (cut_port_seen m p hidden (seen_hidden_port f p h))

  cut_says : CutSays (CutRefused m M p) (cut_port m p).answer
  cut_says = go (port_is f p)
    where
      plain : (a : Result (Option PortIndex) NoSuchPort) → CutSays (CutRefused m M p) (cut_plain m a)
      plain (Ok (Some q)) = tt
      plain (Ok None) = tt
      plain (Err q) = tt

      marked : (n : ℕ) (d : Direction) (b : Bool) → is_split m p ≡ b → CutSays (CutRefused m M p) (cut_seen m p (visible n d)).answer
      marked n d true e = rw e tt
      marked n d false e = rw e (plain (unlink_port m.graph p).answer)

      go : PortIs m M p → CutSays (CutRefused m M p) (cut_port m p).answer
      go (no_port d) = subst (λ (v : PortUnlinked). CutSays (CutRefused m M p) v.answer) (sym (cut_refuses _ (cut_dead d))) (cut_dead d)
      go (hidden_port h) = subst (λ (v : PortUnlinked). CutSays (CutRefused m M p) v.answer) (sym (cut_refuses _ (cut_hidden h))) (cut_hidden h)
      go (block_port x b) =
          subst (λ (v : PortUnlinked). CutSays (CutRefused m M p) v.answer) (cut_port_seen m p (visible x.node x.side) (seen_block_port f p x b))
          (marked x.node x.side (is_split m p) refl)

  pub cut_refused_lem : (r : Refusal) → (cut_port m p).answer ≡ Err r → CutRefused m M p r
  cut_refused_lem r e = subst (CutSays (CutRefused m M p)) e cut_says

module _ {m : MultiPortGraph} {M : Model} (f : Fine m M) where
  pub cut_call : (p : ℕ) → CallLaw m M (book.cut_call p)
  unfolding works_of
  cut_call p =
      record {
        leads = after_cut f _ p port_at at_spot (λ x. refl) (cut_port m p).answer (cut_port_law f p);
        refuses = λ r k. whole (λ (v : PortUnlinked). v.answer) (λ v. v.graph) (cut_refuses f p r k);
        only = cut_refused_lem f p;
        space = cut_space f p;
      }
