-- One request on a graph: what is asked is answered, and what it leaves is again a graph of the calls.
use Rattle.std.specs.Prelude.{◌≡◌, refl, List, [], ◌∷◌, ℕ, ◌<◌, Option, Result}
use Rattle.std.proofs.Common.{sym, ap, subst, ◌∙◌}
use Rattle.multiportgraph.specs.Calls.{set_counts, cut_port, cut_sub, visible_nodes, visible_ports, visible_links, tidy_port}
use Rattle.theorems.specs.Book.{set_call, cut_call, cut_sub_call, tidy_call}
use Rattle.multiportgraph.specs.WellFormed.{MultiWf}
use Rattle.theorems.proofs.CallLaws.{empty_kept, step_kept}
use Rattle.multiportgraph.specs.declared.multiportgraph.MultiPortGraph.{MultiPortGraph}
use Rattle.multiportgraph.specs.declared.multiportgraph.PortsSet.{PortsSet}
use Rattle.multiportgraph.specs.declared.multiportgraph.PortUnlinked.{PortUnlinked}
use Rattle.multiportgraph.specs.declared.multiportgraph.PortTidied.{PortTidied}
use Rattle.records.specs.Run.{Asked, call, link_of, counts, refused, after, numbers, five, Answered}
use Rattle.records.specs.Forms.{EventsFit}
use Rattle.records.specs.AnswerSteps.{events_fit, cut_told, counts_told}
use Rattle.port_tables.specs.declared.release.Release.{Release}
use Rattle.multiportgraph.specs.Graph.{empty_graph}
use Rattle.multiportgraph.specs.Answers.{set_numbers}
use Rattle.multi_tables.specs.EndAnswers.{unplaced, unplaced_numbers}
use Rattle.multiportgraph.specs.HiddenNodes.{enough}
use Rattle.multi_tables.specs.declared.answers.Refusal.{Refusal}
use Rattle.multi_tables.specs.declared.answers.SubportIndex.{SubportIndex}

after_kept : {m : MultiPortGraph} → MultiWf m → (x : Asked) → MultiWf (after m x)
after_kept {m} w (call c) = step_kept m c w
after_kept w (link_of p o) = w
after_kept w counts = w
after_kept w refused = w

-- the words and the graph are those of what is asked
pub answered : {m m' : MultiPortGraph} {ws : List ℕ} {x y : Asked} → MultiWf m → x ≡ y → ws ≡ five (numbers m y) → m' ≡ after m y → Answered m x ws m'
answered {y = y} w e t g = record { told = rw e t; graph = rw e g; kept = subst MultiWf (sym g) (after_kept w y) }

pub counts_answered : {m : MultiPortGraph} {ws : List ℕ} {x : Asked} {n p l : ℕ} → MultiWf m → x ≡ counts
    → n ≡ visible_nodes m → p ≡ visible_ports m → l ≡ visible_links m → ws ≡ 0 ∷ n ∷ p ∷ l ∷ 0 ∷ [] → Answered m x ws m
counts_answered {m} w e f g h t = answered w e (counts_told m _ _ _ _ f g h t) refl

-- a resize with a move list that is long enough
pub set_answered : {m m' : MultiPortGraph} {ws : List ℕ} {x : Asked} {n i o room : ℕ} {a : Result ℕ Refusal} → MultiWf m → x ≡ call (set_call n i o enough)
    → room ≡ enough → a ≡ (set_counts m n i o room).answer → ws ≡ five (set_numbers a) → m' ≡ (set_counts m n i o room).graph → Answered m x ws m'
set_answered {m} {n = n} {i = i} {o = o} w e q f t g =
    let z = ap (set_counts m n i o) q in
    answered w e (t ∙ ap (λ (k : Result ℕ Refusal). five (set_numbers k)) f ∙ ap (λ (r : PortsSet). five (set_numbers r.answer)) z) (g ∙ ap (λ (r : PortsSet). r.graph) z)

pub empty_told : (release : Release) (m : MultiPortGraph) → m ≡ empty_graph release → (m ≡ empty_graph release) × MultiWf m
empty_told release m e = (e, rw e (empty_kept release))

pub set_wf : (m : MultiPortGraph) (n i o room : ℕ) (r : PortsSet) → MultiWf m → r ≡ set_counts m n i o room → MultiWf r.graph
set_wf m n i o room r w e = rw e (step_kept m (set_call n i o room) w)

pub cut_wf : (m : MultiPortGraph) (p : ℕ) (r : PortUnlinked) → MultiWf m → r ≡ cut_port m p → MultiWf r.graph
cut_wf m p r w e = rw e (step_kept m (cut_call p) w)

pub cut_sub_wf : (m : MultiPortGraph) (p o : ℕ) (r : PortUnlinked) → MultiWf m → r ≡ cut_sub m p o → MultiWf r.graph
cut_sub_wf m p o r w e = rw e (step_kept m (cut_sub_call p o) w)

pub tidy_wf : (m : MultiPortGraph) (p : ℕ) (r : PortTidied) → MultiWf m → r ≡ tidy_port m p → MultiWf r.graph
tidy_wf m p r w e = rw e (step_kept m (tidy_call p) w)

-- the event count of a resize fits a word
pub set_fits : (m : MultiPortGraph) (n i o room : ℕ) {a : Result ℕ Refusal} → a ≡ (set_counts m n i o room).answer → room < 4294967296 → EventsFit a
set_fits m n i o room e small = rw e (events_fit m n i o room small)

-- What is told of a cut, or of what a subport is linked with, is the answer without its place.
module _ {m m' : MultiPortGraph} {ws : List ℕ} {x : Asked} {v : Result (Option SubportIndex) Refusal} (w : MultiWf m) where
  pub cut_answered : {p : ℕ} → x ≡ call (cut_call p) → ws ≡ five (unplaced_numbers v) → v ≡ unplaced (cut_port m p).answer → m' ≡ (cut_port m p).graph → Answered m x ws m'
  cut_answered {p} e t u g = answered w e (cut_told (cut_port m p).answer t u) g

  pub cut_sub_answered : {p o : ℕ} → x ≡ call (cut_sub_call p o) → ws ≡ five (unplaced_numbers v) → v ≡ unplaced (cut_sub m p o).answer → m' ≡ (cut_sub m p o).graph → Answered m x ws m'
  cut_sub_answered {p} {o} e t u g = answered w e (cut_told (cut_sub m p o).answer t u) g
