-- Histories under the two releases: 18 or the step without that check, and what follows for lists of calls.
use Rattle.std.specs.Prelude.{◌≡◌, refl, Bool, true, false, cond, List, [], ◌∷◌, ◌⊎◌, ℕ, eqb, Option, Some, None, Result, Ok, Err}
use Rattle.std.proofs.Common.{sym, ◌∙◌, ap, subst, inl, inr, ⊎_elim, eq-eqb}
use Rattle.std.proofs.lemmas.Bool.{eqb-false}
use Rattle.port_tables.specs.Limits.{present}
use Rattle.portgraph.specs.Calls.{add_node, unlink_port}
use Rattle.port_tables.specs.declared.direction.Direction.{Direction}
use Rattle.multiportgraph.specs.Reading.{is_split, seen, end_at, far_subport, subports, copy_node}
use Rattle.multi_tables.specs.Forms.{Port, dead, hidden, visible, End, inner, lacking, good_offset, taken_under}
use Rattle.multiportgraph.specs.Graph.{empty_graph}
use Rattle.multiportgraph.specs.Answers.{add_numbers, remove_numbers, set_numbers, link_numbers, cut_numbers, tidy_numbers}
use Rattle.multiportgraph.specs.Wires.{ports_of_side, ports_walked, subports_of_port, subports_of_side}
use Rattle.multiportgraph.specs.Refusals.{input_taken, wired_input}
use Rattle.multiportgraph.specs.Calls.{add_block, added_as, cut_plain, cut_port, cut_sub, link_clean_if, link_pair_if, link_sub_if, remove_block, set_counts, tidy_port}
use Rattle.multiportgraph.specs.Cases.{link_clean_by, link_first_end, link_refused, link_second_end, link_seen, link_sub_seen, taken_sub_seen}
use Rattle.multi_tables.specs.NamedEnds.{pair_seen, taken_first, taken_second, taken_seen}
use Rattle.multiportgraph.specs.CaseLaws.{add_cases, link_cases, link_taken, link_clean_cases, link_clean_taken, link_sub_cases, link_sub_taken}
use Rattle.multiportgraph.specs.declared.multiportgraph.MultiPortGraph.{MultiPortGraph}
use Rattle.port_tables.specs.declared.release.Release.{Release}
use Rattle.port_tables.specs.declared.release.Release.TheVariants.{One, Two}
use Rattle.multiportgraph.specs.declared.multiportgraph.NodeAdded.{NodeAdded}
use Rattle.multiportgraph.specs.declared.multiportgraph.NodeRemoved.{NodeRemoved}
use Rattle.multiportgraph.specs.declared.multiportgraph.PortsSet.{PortsSet}
use Rattle.multiportgraph.specs.declared.multiportgraph.PortsLinked.{PortsLinked}
use Rattle.multiportgraph.specs.declared.multiportgraph.PortUnlinked.{PortUnlinked}
use Rattle.multiportgraph.specs.declared.multiportgraph.PortTidied.{PortTidied}
use Rattle.multi_tables.specs.declared.answers.Refusal.TheVariants.{BadOffset, InputWired}
use Rattle.theorems.specs.Book as book
use Rattle.theorems.specs.Book.{Call, Book, book_answer}
use Rattle.theorems.specs.History.{Stepped, State, step, next, entered, marks_named, ports_shown, run, run_from, run_from_under, run_under}
use Rattle.theorems.specs.ReleaseClaims.{for_release, step_unchecked, stepped_for, first_of, number_of, Answered, start, answers_from, answers, without18, calls_of, calls_passed}
use Rattle.theorems.specs.CallCases.{remove_each, set_each, link_each, clean_each, link_sub_each, cut_each, cut_sub_each, tidy_each}
use Rattle.theorems.specs.ReleaseLaws.{add_for, remove_for, set_for_lem, link_for, clean_for, sub_for, cut_for_lem, cut_sub_for, tidy_for}
use Rattle.port_tables.specs.declared.index.PortIndex.{PortIndex}
use Rattle.portgraph.specs.declared.portgraph.NoSuchPort.{NoSuchPort}
use Rattle.portgraph.specs.declared.alloc.AddError.TheVariants as add_error
use Rattle.port_tables.specs.declared.index.NodeIndex.{NodeIndex}
use Rattle.portgraph.specs.declared.alloc.AddError.{AddError}

-- Without the check the release plays no part.

pub unchecked_for : (r : Release) (m : MultiPortGraph) (c : Call) → step_unchecked (for_release r m) c ≡ stepped_for r (step_unchecked m c)
unchecked_for r m (book.add_call i o) = ap (λ (v : NodeAdded). record { graph = v.graph; answer = v.answer }) (add_for r present m i o)
unchecked_for r m (book.remove_call n) = ap (λ (v : NodeRemoved). record { graph = v.graph; answer = v.answer }) (remove_for r m n)
unchecked_for r m (book.set_call n i o room) = ap (λ (v : PortsSet). record { graph = v.graph; answer = v.answer }) (set_for_lem r present m n i o room)
unchecked_for r m (book.link_call a b) = ap (λ (v : PortsLinked). record { graph = v.graph; answer = v.answer }) (link_for r present m a b)
unchecked_for r m (book.link_clean_call a b) = ap (λ (v : PortsLinked). record { graph = v.graph; answer = v.answer }) (clean_for r present m a b)
unchecked_for r m (book.link_sub_call p o q s) = ap (λ (v : PortsLinked). record { graph = v.graph; answer = v.answer }) (sub_for r m p o q s)
unchecked_for r m (book.cut_call p) = ap (λ (v : PortUnlinked). record { graph = v.graph; answer = v.answer }) (cut_for_lem r m p)
unchecked_for r m (book.cut_sub_call p o) = ap (λ (v : PortUnlinked). record { graph = v.graph; answer = v.answer }) (cut_sub_for r m p o)
unchecked_for r m (book.tidy_call p) = ap (λ (v : PortTidied). record { graph = v.graph; answer = v.answer }) (tidy_for r m p)

-- 18 is given, graph and book are as they were; or the step is that without the check.

module _ (m : MultiPortGraph) where
  abbrev Either : (Bool → PortsLinked) → Bool → Type 0
  Either link taken = (link taken ≡ link_refused m InputWired) ⊎ (link taken ≡ link false)

  -- the calls on two ports: 18 stands after the refusals of a port that is dead or hidden
  either_seen : (a b : ℕ) (link : Bool → PortsLinked) (call_of : Port → Port → PortsLinked) → ((v : Port) → call_of dead v ≡ link_refused m (taken_seen a b dead v)) →
      ((v : Port) → call_of hidden v ≡ link_refused m (taken_seen a b hidden v)) → ((n : ℕ) (d : Direction) → call_of (visible n d) hidden ≡ link_refused m (taken_seen a b (visible n d) hidden)) →
      (u v : Port) → link true ≡ link_refused m (taken_seen a b u v) → link false ≡ call_of u v → Either link true
  either_seen a b link call_of first_dead first_hidden second_hidden dead v e f = inr (e ∙ (sym (first_dead v) ∙ sym f))
  either_seen a b link call_of first_dead first_hidden second_hidden hidden v e f = inr (e ∙ (sym (first_hidden v) ∙ sym f))
  either_seen a b link call_of first_dead first_hidden second_hidden (visible n d) hidden e f = inr (e ∙ (sym (second_hidden n d) ∙ sym f))
  either_seen a b link call_of first_dead first_hidden second_hidden (visible n d) dead e f = inl e
  either_seen a b link call_of first_dead first_hidden second_hidden (visible n d) (visible k s) e f = inl e

  pair_either : (a b : ℕ) (t : Bool) → Either (λ u. link_pair_if u present m a b) t
  pair_either a b false = inr refl
  pair_either a b true =
      either_seen a b (λ u. link_pair_if u present m a b) (link_seen m a b) (λ v. refl) (λ v. refl) (λ n d. refl) (seen m a) (seen m b) (link_taken present m a b) (link_cases present m a b)

  clean_either : (a b : ℕ) (t : Bool) → Either (λ u. link_clean_if u present m a b) t
  clean_either a b false = inr refl
  clean_either a b true =
      either_seen a b (λ u. link_clean_if u present m a b) (λ u v. link_clean_by present m a b (pair_seen a b u v)) (λ v. refl) (λ v. refl) (λ n d. refl) (seen m a) (seen m b)
      (link_clean_taken present m a b) (link_clean_cases present m a b)

  sub_either : (p o q r : ℕ) (t : Bool) → Either (λ u. link_sub_if u m p o q r) t
  sub_either p o q r false = inr refl
  sub_either p o q r true = offsets (good_offset o) (good_offset r) (link_sub_taken m p o q r) (link_sub_cases m p o q r)
    where
      Goal : Type 0
      Goal = Either (λ w. link_sub_if w m p o q r) true

      alone : (v : End) → link_sub_if true m p o q r ≡ link_refused m (taken_first p InputWired v) → link_sub_if false m p o q r ≡ link_first_end m p o q r dead v → Goal
      alone lacking e f = inr (e ∙ sym f)
      alone (inner x) e f = inl e

      second : (x : ℕ) (v : End) → link_sub_if true m p o q r ≡ link_refused m (taken_second q v) → link_sub_if false m p o q r ≡ link_second_end m p o q r x v → Goal
      second x lacking e f = inr (e ∙ sym f)
      second x (inner y) e f = inl e

      both : (k : ℕ) (s : Direction) (v : End) → link_sub_if true m p o q r ≡ link_refused m (taken_first p (taken_second q (end_at m q s r)) v) →
          link_sub_if false m p o q r ≡ link_first_end m p o q r (visible k s) v → Goal
      both k s lacking e f = inr (e ∙ sym f)
      both k s (inner x) e f = second x (end_at m q s r) e f

      go : (u v : Port) → link_sub_if true m p o q r ≡ link_refused m (taken_sub_seen m p o q r u v) → link_sub_if false m p o q r ≡ link_sub_seen m p o q r u v → Goal
      go dead v e f = inr (e ∙ sym f)
      go hidden v e f = inr (e ∙ sym f)
      go (visible n d) hidden e f = inr (e ∙ sym f)
      go (visible n d) dead e f = alone (end_at m p d o) e f
      go (visible n d) (visible k s) e f = both k s (end_at m p d o) e f

      offsets : (g h : Bool) → link_sub_if true m p o q r ≡ link_refused m (cond g (cond h (taken_sub_seen m p o q r (seen m p) (seen m q)) BadOffset) BadOffset) →
          link_sub_if false m p o q r ≡ cond g (cond h (link_sub_seen m p o q r (seen m p) (seen m q)) (link_refused m BadOffset)) (link_refused m BadOffset) → Goal
      offsets true true e f = go (seen m p) (seen m q) e f
      offsets true false e f = inr (e ∙ sym f)
      offsets false h e f = inr (e ∙ sym f)

-- what a call that gives 18 does: nothing
pub record Gave18 (m : MultiPortGraph) (c : Call) : Type 0 where
  pub number : number_of c (step m c).answer ≡ 18
  pub graph : (step m c).graph ≡ m
  pub book : (B : Book) → entered m c B ≡ B

module _ (m : MultiPortGraph) where
  -- a link of any kind, as the step that it is
  link_either : (c : Call) (link : Bool → PortsLinked) (taken : Bool) (into : PortsLinked → Stepped c) → step m c ≡ into (link taken) → step_unchecked m c ≡ into (link false) →
      number_of c (into (link_refused m InputWired)).answer ≡ 18 → (into (link_refused m InputWired)).graph ≡ m →
      ((B : Book) → book_answer B c (into (link_refused m InputWired)).answer (marks_named m c) (ports_shown (into (link_refused m InputWired)).graph c) ≡ B) →
      Either m link taken → Gave18 m c ⊎ (step m c ≡ step_unchecked m c)
  link_either c link taken into is unchecked number graph book =
      ⊎_elim
      (λ e.
      let s = is ∙ ap into e in
      inl (record {
        number = ap (λ (v : Stepped c). number_of c v.answer) s ∙ number;
        graph = ap (λ (v : Stepped c). v.graph) s ∙ graph;
        book = λ B. ap (λ (v : Stepped c). book_answer B c v.answer (marks_named m c) (ports_shown v.graph c)) s ∙ book B;
      }))
      (λ e. inr (is ∙ (ap into e ∙ sym unchecked)))

  pub step_either : (c : Call) → Gave18 m c ⊎ (step m c ≡ step_unchecked m c)
  step_either (book.add_call i o) = inr refl
  step_either (book.remove_call n) = inr refl
  step_either (book.set_call n i o room) = inr refl
  step_either (book.link_call a b) =
      link_either (book.link_call a b) (λ u. link_pair_if u present m a b) (input_taken m a b) (λ v. record { graph = v.graph; answer = v.answer }) refl refl refl refl (λ B. refl)
      (pair_either m a b (input_taken m a b))
  step_either (book.link_clean_call a b) =
      link_either (book.link_clean_call a b) (λ u. link_clean_if u present m a b) (input_taken m a b) (λ v. record { graph = v.graph; answer = v.answer }) refl refl refl refl (λ B. refl)
      (clean_either m a b (input_taken m a b))
  step_either (book.link_sub_call p o q r) =
      link_either (book.link_sub_call p o q r) (λ u. link_sub_if u m p o q r) (input_taken m p q) (λ v. record { graph = v.graph; answer = v.answer }) refl refl refl refl (λ B. refl)
      (sub_either m p o q r (input_taken m p q))
  step_either (book.cut_call p) = inr refl
  step_either (book.cut_sub_call p o) = inr refl
  step_either (book.tidy_call p) = inr refl

-- Under release 1 it is always the latter.

untaken : (m : MultiPortGraph) → m.release ≡ One → (a b : ℕ) → input_taken m a b ≡ false
unfolding input_taken
untaken m e a b = ap (λ (r : Release). taken_under r (wired_input m a) (wired_input m b)) e

pub one_unchecked : (m : MultiPortGraph) → m.release ≡ One → (c : Call) → step m c ≡ step_unchecked m c
one_unchecked m e (book.add_call i o) = refl
one_unchecked m e (book.remove_call n) = refl
one_unchecked m e (book.set_call n i o room) = refl
one_unchecked m e (book.link_call a b) =
    ap (λ (t : Bool). record { graph = (link_pair_if t present m a b).graph; answer = (link_pair_if t present m a b).answer }) (untaken m e a b)
one_unchecked m e (book.link_clean_call a b) =
    ap (λ (t : Bool). record { graph = (link_clean_if t present m a b).graph; answer = (link_clean_if t present m a b).answer }) (untaken m e a b)
one_unchecked m e (book.link_sub_call p o q r) =
    ap (λ (t : Bool). record { graph = (link_sub_if t m p o q r).graph; answer = (link_sub_if t m p o q r).answer }) (untaken m e p q)
one_unchecked m e (book.cut_call p) = refl
one_unchecked m e (book.cut_sub_call p o) = refl
one_unchecked m e (book.tidy_call p) = refl

-- and 18 is not given.

module _ (m : MultiPortGraph) where
  abbrev Other : List ℕ → Type 0
  Other l = eqb (first_of l) 18 ≡ false

  add_other : (i o : ℕ) → Other (add_numbers (add_block m i o).answer)
  add_other i o = subst (λ (v : NodeAdded). Other (add_numbers v.answer)) (sym (add_cases present m i o)) (go (add_node m.graph i o).answer)
    where
      go : (a : Result (NodeIndex × PortIndex) AddError) → Other (add_numbers (added_as a))
      go (Ok (n, p)) = refl
      go (Err add_error.TooManyPorts) = refl
      go (Err add_error.NoRoom) = refl

  remove_other : (n : ℕ) → Other (remove_numbers (remove_block m n).answer)
  remove_other n = remove_each m (λ v. Other (remove_numbers v.answer)) n (λ z w. w) (λ k h. refl)

  set_other : (n i o room : ℕ) → Other (set_numbers (set_counts m n i o room).answer)
  set_other n i o room = set_each m (λ v. Other (set_numbers v.answer)) n i o room (λ z w. w) (λ k e h q. refl)

  link_other : (a b : ℕ) → Other (link_numbers (link_pair_if false present m a b).answer)
  link_other a b =
      link_each m (λ v. Other (link_numbers v.answer)) a b (λ z w. w) (λ n d s m₁ x o g z w. w) (λ n d s k e t m₁ x o g m₂ y r h. ((λ z w. w), refl))

  clean_other : (a b : ℕ) → Other (link_numbers (link_clean_if false present m a b).answer)
  clean_other a b = clean_each m (λ v. Other (link_numbers v.answer)) a b (λ z w. w) (link_other a b)

  sub_other : (p o q r : ℕ) → Other (link_numbers (link_sub_if false m p o q r).answer)
  sub_other p o q r = link_sub_each m (λ v. Other (link_numbers v.answer)) p o q r (λ z w. w) (λ x y. refl)

  cut_other : (p : ℕ) → Other (cut_numbers (cut_port m p).answer)
  cut_other p = cut_each m (λ v. Other (cut_numbers v.answer)) p (λ z w. w) refl (plain (unlink_port m.graph p).answer)
    where
      plain : (v : Result (Option PortIndex) NoSuchPort) → Other (cut_numbers (cut_plain m v))
      plain (Ok (Some q)) = refl
      plain (Ok None) = refl
      plain (Err q) = refl

  cut_sub_other : (p o : ℕ) → Other (cut_numbers (cut_sub m p o).answer)
  cut_sub_other p o = cut_sub_each m (λ v. Other (cut_numbers v.answer)) p o (λ z w. w) (λ x. far (unlink_port m.graph x).answer)
    where
      far : (v : Result (Option PortIndex) NoSuchPort) → Other (cut_numbers (far_subport m v))
      far (Ok (Some q)) = refl
      far (Ok None) = refl
      far (Err q) = refl

  tidy_other : (p : ℕ) → Other (tidy_numbers (tidy_port m p).answer)
  tidy_other p = tidy_each m (λ v. Other (tidy_numbers v.answer)) p (λ z w. w) (λ n d e b s. refl)

  pub unchecked_other : (c : Call) → eqb (number_of c (step_unchecked m c).answer) 18 ≡ false
  unchecked_other (book.add_call i o) = add_other i o
  unchecked_other (book.remove_call n) = remove_other n
  unchecked_other (book.set_call n i o room) = set_other n i o room
  unchecked_other (book.link_call a b) = link_other a b
  unchecked_other (book.link_clean_call a b) = clean_other a b
  unchecked_other (book.link_sub_call p o q r) = sub_other p o q r
  unchecked_other (book.cut_call p) = cut_other p
  unchecked_other (book.cut_sub_call p o) = cut_sub_other p o
  unchecked_other (book.tidy_call p) = tidy_other p

-- The release is kept.

pub step_keeps : (m : MultiPortGraph) (c : Call) → (step m c).graph.release ≡ m.release
step_keeps m c =
    ⊎_elim (λ (g : Gave18 m c). ap (λ (k : MultiPortGraph). k.release) g.graph)
    (λ e. ap (λ (s : Stepped c). s.graph.release) (e ∙ unchecked_for m.release m c))
    (step_either m c)

from_keeps : (s : State) (l : List Call) → (run_from s l).graph.release ≡ s.graph.release
unfolding run_from_under
from_keeps s [] = refl
from_keeps s (c ∷ l) = from_keeps (next s c) l ∙ step_keeps s.graph c

pub release_kept : (release : Release) (calls : List Call) → (run release calls).graph.release ≡ release
unfolding run_under empty_graph
release_kept release calls = from_keeps (start release) calls

-- Release 1.

one_is_unchecked : (calls : List Call) (c : Call) → step (run One calls).graph c ≡ step_unchecked (run One calls).graph c
one_is_unchecked calls c = one_unchecked (run One calls).graph (release_kept One calls) c

one_never_gives_18 : (calls : List Call) (c : Call) → number_of c (step (run One calls).graph c).answer ≡ 18 → ⊥
one_never_gives_18 calls c h =
    let e = ap (λ (s : Stepped c). number_of c s.answer) (one_is_unchecked calls c) in
    eqb-false (number_of c (step_unchecked (run One calls).graph c).answer) 18 (unchecked_other (run One calls).graph c) (sym e ∙ h)

pub one_is_as_before : (calls : List Call) (c : Call) →
    (step (run One calls).graph c ≡ step_unchecked (run One calls).graph c) × (number_of c (step (run One calls).graph c).answer ≡ 18 → ⊥)
one_is_as_before calls c = (one_is_unchecked calls c, one_never_gives_18 calls c)

-- Release 2, and release 1 without the calls that gave 18.

abbrev state_for : Release → State → State
state_for r s = record { graph = for_release r s.graph; book = s.book }

marks_for : (r : Release) (m : MultiPortGraph) (c : Call) → marks_named (for_release r m) c ≡ marks_named m c
unfolding is_split
marks_for r m (book.add_call i o) = refl
marks_for r m (book.remove_call n) = refl
marks_for r m (book.set_call n i o room) = refl
marks_for r m (book.link_call a b) = refl
marks_for r m (book.link_clean_call a b) = refl
marks_for r m (book.link_sub_call p o q s) = refl
marks_for r m (book.cut_call p) = refl
marks_for r m (book.cut_sub_call p o) = refl
marks_for r m (book.tidy_call p) = refl

shown_for : (r : Release) (m : MultiPortGraph) (c : Call) → ports_shown (for_release r m) c ≡ ports_shown m c
unfolding ports_walked subports_of_side subports_of_port ports_of_side is_split subports copy_node
shown_for r m (book.add_call i o) = refl
shown_for r m (book.remove_call n) = refl
shown_for r m (book.set_call n i o room) = refl
shown_for r m (book.link_call a b) = refl
shown_for r m (book.link_clean_call a b) = refl
shown_for r m (book.link_sub_call p o q s) = refl
shown_for r m (book.cut_call p) = refl
shown_for r m (book.cut_sub_call p o) = refl
shown_for r m (book.tidy_call p) = refl

-- a step that is the one without the check, on a graph made for release 1
module _ (s : State) (c : Call) (e : step s.graph c ≡ step_unchecked s.graph c) where
  one_steps : step (for_release One s.graph) c ≡ stepped_for One (step s.graph c)
  one_steps = one_unchecked (for_release One s.graph) refl c ∙ (unchecked_for One s.graph c ∙ ap (stepped_for One) (sym e))

  one_next : next (state_for One s) c ≡ state_for One (next s c)
  one_next =
      (λ i. record {
        graph = (one_steps i).graph;
        book = book_answer s.book c (one_steps i).answer (marks_named (for_release One s.graph) c) (ports_shown (one_steps i).graph c);
      })
      ∙ (λ i. record {
        graph = for_release One (step s.graph c).graph;
        book = book_answer s.book c (step s.graph c).answer (marks_for One s.graph c i) (shown_for One (step s.graph c).graph c i);
      })

-- a state of release 1 goes through these answers, and ends as a state of release 2 does
abbrev Through : State → List Answered → State → Type 0
Through s l t = (answers_from s (calls_of l) ≡ l) × (run_from s (calls_of l) ≡ state_for One t)

-- the first answer of a list gave 18, or it did not
left_out : (a : Answered) (l : List Answered) → number_of a.call a.answer ≡ 18 → without18 (a ∷ l) ≡ without18 l
left_out a l e = rw (eq-eqb (number_of a.call a.answer) 18 e)

left_in : (a : Answered) (l : List Answered) → eqb (number_of a.call a.answer) 18 ≡ false → without18 (a ∷ l) ≡ a ∷ without18 l
left_in a l e = rw e

pub two_through_one : (s : State) (l : List Call) → Through (state_for One s) (without18 (answers_from s l)) (run_from s l)
unfolding answers_from run_from_under
two_through_one s [] = (refl, refl)
two_through_one s (c ∷ l) = let t = two_through_one (next s c) l in ⊎_elim (gave t) (passes t) (step_either s.graph c)
  where
    a : Answered
    a = record { call = c; answer = (step s.graph c).answer }

    rest : List Answered
    rest = answers_from (next s c) l

    Later : Type 0
    Later = Through (state_for One (next s c)) (without18 rest) (run_from (next s c) l)

    gave : Later → Gave18 s.graph c → Through (state_for One s) (without18 (a ∷ rest)) (run_from (next s c) l)
    gave t g =
        let same : next s c ≡ s = λ i. record { graph = g.graph i; book = g.book s.book i } in
        subst (λ (w : List Answered). Through (state_for One s) w (run_from (next s c) l)) (sym (left_out a rest g.number))
        (subst (λ (u : State). Through (state_for One u) (without18 rest) (run_from (next s c) l)) same t)

    passes : Later → step s.graph c ≡ step_unchecked s.graph c → Through (state_for One s) (without18 (a ∷ rest)) (run_from (next s c) l)
    passes t e =
        let k = calls_of (without18 rest) in
        let n : eqb (number_of c (step s.graph c).answer) 18 ≡ false = ap (λ (u : Stepped c). eqb (number_of c u.answer) 18) e ∙ unchecked_other s.graph c in
        let p : answers_from (next (state_for One s) c) k ≡ without18 rest = ap (λ (u : State). answers_from u k) (one_next s c e) ∙ t.0 in
        subst (λ (w : List Answered). Through (state_for One s) w (run_from (next s c) l)) (sym (left_in a rest n))
        ((λ i. record { call = c; answer = (one_steps s c e i).answer } ∷ p i), ap (λ (u : State). run_from u k) (one_next s c e) ∙ t.1)

-- from the empty graph
pub two_is_one_without_18 : (calls : List Call) →
    (answers One (calls_passed calls) ≡ without18 (answers Two calls))
    × ((run One (calls_passed calls)).graph ≡ for_release One (run Two calls).graph)
    × ((run One (calls_passed calls)).book ≡ (run Two calls).book)
unfolding run_under empty_graph
two_is_one_without_18 calls =
    let t = two_through_one (start Two) calls in
    (t.0, ap (λ (s : State). s.graph) t.1, ap (λ (s : State). s.book) t.1)

-- every call of a history has its answer
calls_answered : (s : State) (l : List Call) → calls_of (answers_from s l) ≡ l
unfolding answers_from
calls_answered s [] = refl
calls_answered s (c ∷ l) = ap (λ (k : List Call). c ∷ k) (calls_answered (next s c) l)

-- where 18 is not given the releases agree
pub two_is_one : (calls : List Call) → without18 (answers Two calls) ≡ answers Two calls →
    (answers One calls ≡ answers Two calls) × ((run One calls).graph ≡ for_release One (run Two calls).graph) × ((run One calls).book ≡ (run Two calls).book)
two_is_one calls e =
    let t = two_is_one_without_18 calls in
    let q : calls_passed calls ≡ calls = ap calls_of e ∙ calls_answered (start Two) calls in (
      ap (answers One) (sym q) ∙ (t.0 ∙ e),
      ap (λ (l : List Call). (run One l).graph) (sym q) ∙ t.1,
      ap (λ (l : List Call). (run One l).book) (sym q) ∙ t.2,
    )
