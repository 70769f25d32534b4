-- Numbers that fit a word, and the words of an answer.
use Rattle.std.specs.Prelude.{◌≡◌, refl, Bool, true, false, cond, List, [], ◌∷◌, ℕ, ◌+◌, ◌*◌, ◌≤◌, ◌<◌, leb, Option, Some, None, Result, Ok, Err}
use Rattle.std.proofs.Common.{sym, ap, subst, ◌∙◌}
use native.Mathlib.Omega.{arith}
use borrow.Author.Tests.{leb-true}
use Rattle.port_tables.specs.Limits.{node_ports, present}
use Rattle.portgraph.specs.Lookups.{entry_at, meta_at}
use Rattle.portgraph.specs.Calls.{find_block}
use Rattle.portgraph.specs.Resize.{Plan, refuse, same, inside, anew, plan_block, plan_counts, plan_entry, plan_of, set_by, set_num_ports, set_num_ports_under, plan_of_under}
use Rattle.port_tables.specs.ResizeLinks.{same_counts, fits_inside, round_up}
use Rattle.portgraph.specs.WfFacts.{node_count_fits, port_count_fits, link_count_fits}
use Rattle.port_tables.specs.declared.node_entry.NodeMeta.{NodeMeta}
use Rattle.port_tables.specs.declared.node_entry.NodeEntry.{NodeEntry}
use Rattle.port_tables.specs.declared.node_entry.NodeEntry.TheVariants as node_variants
use Rattle.portgraph.specs.declared.portgraph.PortGraph.{PortGraph}
use Rattle.multiportgraph.specs.Reading.{is_hidden}
use Rattle.multiportgraph.specs.Calls.{set_as, set_counts, visible_nodes, visible_ports, visible_links}
use Rattle.multiportgraph.specs.WellFormed.{MultiWf}
use Rattle.multiportgraph.specs.CallSteps.{lower_wf}
use Rattle.multiportgraph.specs.declared.multiportgraph.PortsSet.{PortsSet}
use Rattle.multiportgraph.specs.declared.multiportgraph.MultiPortGraph.{MultiPortGraph}
use Rattle.multi_tables.specs.declared.answers.Refusal.{Refusal}
use Rattle.multi_tables.specs.declared.answers.Refusal.TheVariants.{BadOffset, TooManyPorts, UnknownNode, HiddenNode, MovesTooShort, UnknownPort, HiddenPort, UnknownOffset, NoRoom, UnknownSecondPort, IncompatibleDirections, AlreadyLinked, InputWired}
use Rattle.records.specs.Run.{counts, without_place, numbers, five}
use Rattle.records.specs.Forms.{CountsFit, EventsFit}
use Rattle.multiportgraph.specs.Answers.{cut_numbers}
use Rattle.multi_tables.specs.EndAnswers.{refusal_numbers, unplaced, unplaced_numbers}
use Rattle.multiportgraph.specs.Cases.{set_refused, set_meta}
use Rattle.multiportgraph.specs.CaseLaws.{set_cases}
use Rattle.multi_tables.specs.declared.answers.SubportIndex.{SubportIndex}
use Rattle.multi_tables.specs.declared.answers.PortPlace.{PortPlace}
use Rattle.portgraph.specs.declared.resize.SetError.TheVariants as set_error
use Rattle.portgraph.specs.declared.resize.SetError.{SetError}

-- Event counts: a resize tells each port of the node at most once, and the move list has room for three numbers each.

either : {A : Type 0} (P : A → Type 0) (t : Bool) (x y : A) → (t ≡ true → P x) → P y → P (cond t x y)
either P true x y h k = h refl
either P false x y h k = k

abbrev LowerFit : Result ℕ SetError → Type 0
LowerFit (Ok e) = e < 4294967296
LowerFit (Err set_error.TooManyPorts) = Unit {0}
LowerFit (Err set_error.UnknownNode) = Unit {0}
LowerFit (Err set_error.MovesTooShort) = Unit {0}
LowerFit (Err set_error.NoRoom) = Unit {0}

abbrev PlanFits : ℕ → Plan → Type 0
PlanFits room (refuse a) = LowerFit a
PlanFits room same = Unit {0}
PlanFits room (inside k) = 3 * (k.incoming + k.outgoing) ≤ room
PlanFits room (anew k first) = 3 * (k.incoming + k.outgoing) ≤ room

module _ (g : PortGraph) (n incoming outgoing room : ℕ) (small : room < 4294967296) where
  block_fits : (k : NodeMeta) → 3 * (k.incoming + k.outgoing) ≤ room → (f : Option ℕ) → PlanFits room (plan_block k f)
  block_fits k h (Some first) = h
  block_fits k h None = tt

  entry_fits : (e : NodeEntry) → PlanFits room (plan_entry g incoming outgoing room e)
  entry_fits (node_variants.Free f) = tt
  entry_fits (node_variants.Node k) =
      either (PlanFits room) (leb (3 * (k.incoming + k.outgoing)) room) (plan_counts g k incoming outgoing) (refuse (Err set_error.MovesTooShort))
      (λ q.
      let h : 3 * (k.incoming + k.outgoing) ≤ room = leb-true _ _ q in
      either (PlanFits room) (same_counts k incoming outgoing) same _ (λ _. tt)
      (either (PlanFits room) (fits_inside k incoming outgoing) (inside k) _ (λ _. h)
      (block_fits k h (find_block g.port_free g.port_len (round_up (incoming + outgoing))))))
      tt

  plan_fits : PlanFits room (plan_of g n incoming outgoing room)
  unfolding plan_of_under
  plan_fits =
      either (PlanFits room) (leb (incoming + outgoing) node_ports) (plan_entry g incoming outgoing room (entry_at g n)) (refuse (Err set_error.TooManyPorts))
      (λ _. entry_fits (entry_at g n)) tt

  by_fits : (p : Plan) → PlanFits room p → LowerFit (set_by g n incoming outgoing p).answer
  by_fits (refuse a) h = h
  by_fits same h = omega arith
  by_fits (inside k) h = omega arith
  by_fits (anew k first) h = omega arith

  lower_fits : LowerFit (set_num_ports g n incoming outgoing room).answer
  unfolding set_num_ports_under
  lower_fits = by_fits (plan_of g n incoming outgoing room) plan_fits

as_fits : (a : Result ℕ SetError) → LowerFit a → EventsFit (set_as a)
as_fits (Ok e) h = h
as_fits (Err set_error.TooManyPorts) h = tt
as_fits (Err set_error.UnknownNode) h = tt
as_fits (Err set_error.MovesTooShort) h = tt
as_fits (Err set_error.NoRoom) h = tt

module _ (m : MultiPortGraph) (n incoming outgoing room : ℕ) (small : room < 4294967296) where
  meta_fits : (k : Option NodeMeta) → EventsFit (set_meta m n incoming outgoing room k).answer
  meta_fits None = tt
  meta_fits (Some k) =
      either (λ s. EventsFit s.answer) (is_hidden m n) (set_refused m HiddenNode) _ (λ _. tt)
      (as_fits (set_num_ports m.graph n incoming outgoing room).answer (lower_fits m.graph n incoming outgoing room small))

  pub events_fit : EventsFit (set_counts m n incoming outgoing room).answer
  events_fit =
      subst (λ (s : PortsSet). EventsFit s.answer) (sym (set_cases present m n incoming outgoing room))
      (either (λ s. EventsFit s.answer) (leb (incoming + outgoing) node_ports) (set_meta m n incoming outgoing room (meta_at m.graph n)) (set_refused m TooManyPorts)
      (λ _. meta_fits (meta_at m.graph n)) tt)

-- The visible counts fit a word.
pub counts_fit : (m : MultiPortGraph) {n p l : ℕ} → MultiWf m → n ≡ visible_nodes m → p ≡ visible_ports m → l ≡ visible_links m → CountsFit n p l
unfolding visible_nodes visible_ports visible_links
counts_fit m w e f g =
    let h = lower_wf m w in
    let i = node_count_fits m.graph h in
    let j = port_count_fits m.graph h in
    let k = link_count_fits m.graph h in
    (omega arith, omega arith, omega arith)

-- what a record keeps of an answer is the answer without its place
refusal_kept : (r : Refusal) → refusal_numbers r ≡ without_place (refusal_numbers r)
refusal_kept BadOffset = refl
refusal_kept TooManyPorts = refl
refusal_kept UnknownNode = refl
refusal_kept HiddenNode = refl
refusal_kept MovesTooShort = refl
refusal_kept (UnknownPort p) = refl
refusal_kept (HiddenPort p) = refl
refusal_kept (UnknownOffset p) = refl
refusal_kept NoRoom = refl
refusal_kept (UnknownSecondPort p) = refl
refusal_kept (IncompatibleDirections p q d) = refl
refusal_kept (AlreadyLinked p) = refl
refusal_kept InputWired = refl

unplaced_kept : (a : Result (Option (SubportIndex × PortPlace)) Refusal) → unplaced_numbers (unplaced a) ≡ without_place (cut_numbers a)
unplaced_kept (Ok (Some (s, x))) = refl
unplaced_kept (Ok None) = refl
unplaced_kept (Err r) = refusal_kept r

pub cut_told : {ws : List ℕ} {v : Result (Option SubportIndex) Refusal} (a : Result (Option (SubportIndex × PortPlace)) Refusal) → ws ≡ five (unplaced_numbers v) → v ≡ unplaced a → ws ≡ five (without_place (cut_numbers a))
cut_told a t e = t ∙ (ap (λ (x : Result (Option SubportIndex) Refusal). five (unplaced_numbers x)) e ∙ ap five (unplaced_kept a))

pub counts_told : (m : MultiPortGraph) (n p l : ℕ) (r : List ℕ) → n ≡ visible_nodes m → p ≡ visible_ports m → l ≡ visible_links m → r ≡ 0 ∷ n ∷ p ∷ l ∷ 0 ∷ []
    → r ≡ five (numbers m counts)
counts_told m n p l r e f g h = rw (← e, ← f, ← g) h
