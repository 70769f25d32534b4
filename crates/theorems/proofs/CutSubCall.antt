-- Cutting a subport, and what a subport is linked with: the bundle of the one, the refusals of both.
use Rattle.std.specs.Prelude.{◌≡◌, refl, Bool, true, false, ℕ, ◌≤◌, ◌<◌, ltb, Option, Some, None, Result, Ok, Err}
use Rattle.std.proofs.Common.{sym, ◌∙◌, subst, arith, ltb-true, ltb-false, lt-ltb, le-ltb}
use Rattle.std.proofs.Math.Path.{ap}
use Rattle.portgraph.specs.Lookups.{port_link}
use Rattle.portgraph.specs.Model as model
use Rattle.portgraph.specs.Model.{Model}
use Rattle.portgraph.specs.Calls.{unlink_port}
use Rattle.multiportgraph.specs.Reading.{is_split, seen, end_at, far_subport, link_of_end}
use Rattle.multi_tables.specs.Forms.{Port, dead, hidden, visible, End, inner, lacking}
use Rattle.multiportgraph.specs.Calls.{cut_sub, subport_link}
use Rattle.theorems.specs.Book as book
use Rattle.theorems.specs.Book.{read_by}
use Rattle.multiportgraph.specs.WellFormed.{Fine}
use Rattle.multiportgraph.specs.declared.multiportgraph.MultiPortGraph.{MultiPortGraph}
use Rattle.multi_tables.specs.declared.answers.Refusal.{Refusal}
use Rattle.multiportgraph.specs.declared.multiportgraph.PortUnlinked.{PortUnlinked}
use Rattle.port_tables.specs.Places.{at_end}
use Rattle.multiportgraph.specs.Cases.{cut_refused, cut_end, cut_sub_seen, link_of_seen}
use Rattle.multiportgraph.specs.CaseLaws.{cut_sub_cases, subport_link_cases}
use Rattle.multiportgraph.specs.LinkCutLaws.{end_named, cut_sub_law}
use Rattle.theorems.proofs.WireRule.{after_cut}
use Rattle.multiportgraph.specs.SpaceLaws.{cut_sub_space}
use Rattle.theorems.specs.Works.{works_of}
use Rattle.theorems.specs.Conditions.{CutSays, OfBlock, PortIs, SubRefused, block_port, hidden_port, no_port, sub_dead, sub_hidden, sub_lacks, sub_offset}
use Rattle.theorems.specs.PortCases.{is_lacking, lacks_is, port_is, seen_block_port, seen_hidden_port, seen_none}
use Rattle.theorems.proofs.CallLaw.{CallLaw, whole}
use Rattle.port_tables.specs.declared.index.PortIndex.{PortIndex}
use Rattle.portgraph.specs.declared.portgraph.NoSuchPort.{NoSuchPort}

-- Cutting a subport, and what it is linked with.

module _ {m : MultiPortGraph} {M : Model} (f : Fine m M) (p o : ℕ) where
  cut_sub_is : o ≤ 65534 → (v : Port) → seen m p ≡ v → cut_sub m p o ≡ cut_sub_seen m p o v
  cut_sub_is h v e = cut_sub_cases m p o ∙ rw (lt-ltb o 65535 (omega arith)) (ap (cut_sub_seen m p o) e)

  link_of_is : o ≤ 65534 → (v : Port) → seen m p ≡ v → subport_link m p o ≡ link_of_seen m p o v
  link_of_is h v e = subport_link_cases m p o ∙ rw (lt-ltb o 65535 (omega arith)) (ap (link_of_seen m p o) e)

  -- where the end is there
  module _ (x : model.InnerPlace) (h : o ≤ 65534) (b : OfBlock m M p x) (u : ℕ) (e : end_at m p x.side o ≡ inner u) where
    pub cut_sub_there : cut_sub m p o ≡ cut_end m p (inner u)
    cut_sub_there = cut_sub_is h (visible x.node x.side) (seen_block_port f p x b) ∙ ap (cut_end m p) e

    pub link_of_there : subport_link m p o ≡ link_of_end m p (inner u)
    link_of_there = link_of_is h (visible x.node x.side) (seen_block_port f p x b) ∙ ap (link_of_end m p) e

  pub cut_sub_refuses : (r : Refusal) → SubRefused m M p o r → cut_sub m p o ≡ cut_refused m r
  unfolding cut_sub
  cut_sub_refuses r (sub_offset h) = rw (le-ltb o 65535 (omega arith))
  cut_sub_refuses r (sub_dead h d) = cut_sub_is h dead (seen_none f p d)
  cut_sub_refuses r (sub_hidden h k) = cut_sub_is h hidden (seen_hidden_port f p k)
  cut_sub_refuses r (sub_lacks h x b l) = cut_sub_is h (visible x.node x.side) (seen_block_port f p x b) ∙ ap (cut_end m p) (lacks_is f p x o b l)

  pub subport_link_refuses : (r : Refusal) → SubRefused m M p o r → subport_link m p o ≡ Err r
  unfolding subport_link
  subport_link_refuses r (sub_offset h) = rw (le-ltb o 65535 (omega arith))
  subport_link_refuses r (sub_dead h d) = link_of_is h dead (seen_none f p d)
  subport_link_refuses r (sub_hidden h k) = link_of_is h hidden (seen_hidden_port f p k)
  subport_link_refuses r (sub_lacks h x b l) = link_of_is h (visible x.node x.side) (seen_block_port f p x b) ∙ ap (link_of_end m p) (lacks_is f p x o b l)

  far_says : (a : Result (Option PortIndex) NoSuchPort) → CutSays (SubRefused m M p o) (far_subport m a)
  far_says (Ok (Some q)) = tt
  far_says (Ok None) = tt
  far_says (Err q) = tt

  -- the call refuses with its condition, or the end is there
  data SubCases : Type 0 where
    refused_so : (r : Refusal) → SubRefused m M p o r → SubCases
    end_there : (x : model.InnerPlace) → o ≤ 65534 → OfBlock m M p x → (u : ℕ) → end_at m p x.side o ≡ inner u → SubCases

  sub_cases : SubCases
  sub_cases = go (ltb o 65535) (port_is f p) refl
    where
      ended : (x : model.InnerPlace) → o ≤ 65534 → OfBlock m M p x → (v : End) → end_at m p x.side o ≡ v → SubCases
      ended x h b lacking e = refused_so _ (sub_lacks h x b (is_lacking f p x o b e))
      ended x h b (inner u) e = end_there x h b u e

      go : (b : Bool) → PortIs m M p → ltb o 65535 ≡ b → SubCases
      go false q e = let h : 65535 ≤ o = ltb-false _ _ e in refused_so _ (sub_offset (omega arith))
      go true (no_port d) e = let h : o < 65535 = ltb-true _ _ e in refused_so _ (sub_dead (omega arith) d)
      go true (hidden_port k) e = let h : o < 65535 = ltb-true _ _ e in refused_so _ (sub_hidden (omega arith) k)
      go true (block_port x b) e = let h : o < 65535 = ltb-true _ _ e in ended x (omega arith) b (end_at m p x.side o) refl

  pub cut_sub_refused : (r : Refusal) → (cut_sub m p o).answer ≡ Err r → SubRefused m M p o r
  cut_sub_refused r e = subst (CutSays (SubRefused m M p o)) e (go sub_cases)
    where
      go : SubCases → CutSays (SubRefused m M p o) (cut_sub m p o).answer
      go (refused_so r c) = subst (λ (v : PortUnlinked). CutSays (SubRefused m M p o) v.answer) (sym (cut_sub_refuses r c)) c
      go (end_there x h b u e) =
          subst (λ (v : PortUnlinked). CutSays (SubRefused m M p o) v.answer)
          (sym (cut_sub_there x h b u e))
          (far_says (unlink_port m.graph u).answer)

  pub subport_link_refused : (r : Refusal) → subport_link m p o ≡ Err r → SubRefused m M p o r
  subport_link_refused r e = subst (CutSays (SubRefused m M p o)) e (go sub_cases)
    where
      go : SubCases → CutSays (SubRefused m M p o) (subport_link m p o)
      go (refused_so r c) = subst (CutSays (SubRefused m M p o)) (sym (subport_link_refuses r c)) c
      go (end_there x h b u e) =
          subst (CutSays (SubRefused m M p o))
          (sym (link_of_there x h b u e))
          (far_says (port_link m.graph u))

module _ {m : MultiPortGraph} {M : Model} (f : Fine m M) where
  pub cut_sub_call : (p o : ℕ) → CallLaw m M (book.cut_sub_call p o)
  unfolding works_of
  cut_sub_call p o =
      record {
        leads = after_cut f _ p (end_named (read_by (is_split m p) o)) (λ s. at_end s (read_by (is_split m p) o)) (λ x. refl) (cut_sub m p o).answer (cut_sub_law f p o);
        refuses = λ r k. whole (λ (v : PortUnlinked). v.answer) (λ v. v.graph) (cut_sub_refuses f p o r k);
        only = cut_sub_refused f p o;
        space = cut_sub_space f p o;
      }
