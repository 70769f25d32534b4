-- Files and the two releases: a file holds no release, so each may be loaded for either. What loads for release 2 loads for release 1, to the
-- same wiring; and it loads for release 2 exactly if it loads for release 1 and no two of its wires end at one input.
use Rattle.std.specs.Prelude.{◌≡◌, true, false, List, [], ◌∷◌, map, ◌↔◌, ◌⊎◌, ℕ, get_or, Result, Ok, Err}
use Rattle.std.proofs.Math.Path.{refl, ap}
use Rattle.std.proofs.Common.{sym, ◌∙◌, subst, inl, inr, arith}
use Rattle.std.proofs.Math.Bool.{Bool, cond}
use Rattle.std.proofs.Math.Logic.{⊎_elim}
use Rattle.port_tables.specs.Lists.{Member}
use Rattle.multi_tables.specs.EndAnswers.{refusal_numbers}
use Rattle.multiportgraph.specs.Graph.{empty_graph}
use Rattle.port_tables.specs.Listing.{member_map, member_append}
use Rattle.multiportgraph.specs.declared.multiportgraph.MultiPortGraph.{MultiPortGraph}
use Rattle.port_tables.specs.declared.release.Release.{Release}
use Rattle.port_tables.specs.declared.release.Release.TheVariants.{One, Two}
use Rattle.multi_tables.specs.declared.answers.Refusal.{Refusal}
use Rattle.multi_tables.specs.declared.answers.Refusal.TheVariants.{BadOffset, TooManyPorts, UnknownNode, HiddenNode, MovesTooShort, UnknownPort, HiddenPort, UnknownOffset, NoRoom, UnknownSecondPort, IncompatibleDirections, AlreadyLinked, InputWired}
use Rattle.theorems.specs.Book as book
use Rattle.theorems.specs.Book.{Call, AnswerOf}
use Rattle.theorems.specs.History.{Stepped, step, run}
use Rattle.theorems.specs.Conditions.{RefusedBy}
use Rattle.theorems.specs.ReleaseClaims.{for_release, stepped_for, number_of}
use Rattle.theorems.proofs.ReleaseRuns.{Gave18, step_either, one_unchecked, unchecked_for}
use Rattle.files.specs.View.{View}
use Rattle.files.specs.Layout.{unbytes}
use Rattle.files.specs.Loading.{add_of, link_of, build_of, after_call, first_refusal, first_refusal_under, is_whole, is_laid, load_answer, load_answer_under, load_graph, load_graph_under}
use Rattle.files.specs.LoadForms.{graph_after}
use Rattle.files.specs.BuildSteps.{run_graph}
use Rattle.files.specs.BuildLaws.{goes_or_stops, refused_not_loaded}
use Rattle.files.specs.LoadClaims.{SharesInput}
use Rattle.files.specs.BuildRefusals.{which_refusal, shared_stops}
use Rattle.files.specs.SoundLaws.{laid_sound}
use Rattle.files.specs.LoadAnswers.{loaded_parts, parts_loaded, build_answers}
use Rattle.files.specs.declared.load.LoadError.{LoadError}
use Rattle.files.specs.declared.load.LoadError.TheVariants.{BadSums, BadLayout, Refused}

-- Builds on graphs of either release.

-- an add or a link, as builds have them
abbrev Builds : Call → Type 0
Builds (book.add_call i o) = Unit {0}
Builds (book.remove_call n) = ⊥
Builds (book.set_call n i o room) = ⊥
Builds (book.link_call a b) = Unit {0}
Builds (book.link_clean_call a b) = ⊥
Builds (book.link_sub_call p o q r) = ⊥
Builds (book.cut_call p) = ⊥
Builds (book.cut_sub_call p o) = ⊥
Builds (book.tidy_call p) = ⊥

-- the refusal with number 18
refusal_eighteen : (r : Refusal) → get_or (refusal_numbers r) 0 0 ≡ 18 → r ≡ InputWired
refusal_eighteen BadOffset h = absurd (omega arith)
refusal_eighteen TooManyPorts h = absurd (omega arith)
refusal_eighteen UnknownNode h = absurd (omega arith)
refusal_eighteen HiddenNode h = absurd (omega arith)
refusal_eighteen MovesTooShort h = absurd (omega arith)
refusal_eighteen (UnknownPort p) h = absurd (omega arith)
refusal_eighteen (HiddenPort p) h = absurd (omega arith)
refusal_eighteen (UnknownOffset p) h = absurd (omega arith)
refusal_eighteen NoRoom h = absurd (omega arith)
refusal_eighteen (UnknownSecondPort p) h = absurd (omega arith)
refusal_eighteen (IncompatibleDirections p q d) h = absurd (omega arith)
refusal_eighteen (AlreadyLinked p) h = absurd (omega arith)
refusal_eighteen InputWired h = refl

first_same : (r : Refusal) → number_of (book.add_call 0 0) (Err r) ≡ get_or (refusal_numbers r) 0 0
first_same BadOffset = refl
first_same TooManyPorts = refl
first_same UnknownNode = refl
first_same HiddenNode = refl
first_same MovesTooShort = refl
first_same (UnknownPort p) = refl
first_same (HiddenPort p) = refl
first_same (UnknownOffset p) = refl
first_same NoRoom = refl
first_same (UnknownSecondPort p) = refl
first_same (IncompatibleDirections p q d) = refl
first_same (AlreadyLinked p) = refl
first_same InputWired = refl

-- a call of a build that gives 18 stops it with 18
eighteen_stops : (c : Call) (v : AnswerOf c) → Builds c → number_of c v ≡ 18 → (rest : Result (Unit {0}) LoadError) → after_call c v rest ≡ Err (Refused InputWired)
eighteen_stops (book.add_call i o) (Ok (n, p)) b e rest = absurd (omega arith)
eighteen_stops (book.add_call i o) (Err r) b e rest = ap (λ (x : Refusal). Err (Refused x)) (refusal_eighteen r (sym (first_same r) ∙ e))
eighteen_stops (book.link_call x y) (Ok (s, t)) b e rest = absurd (omega arith)
eighteen_stops (book.link_call x y) (Err r) b e rest = ap (λ (x : Refusal). Err (Refused x)) (refusal_eighteen r (sym (first_same r) ∙ e))
eighteen_stops (book.remove_call n) v b e rest = absurd b
eighteen_stops (book.set_call n i o room) v b e rest = absurd b
eighteen_stops (book.link_clean_call x y) v b e rest = absurd b
eighteen_stops (book.link_sub_call p o q r) v b e rest = absurd b
eighteen_stops (book.cut_call p) v b e rest = absurd b
eighteen_stops (book.cut_sub_call p o) v b e rest = absurd b
eighteen_stops (book.tidy_call p) v b e rest = absurd b

-- one that does not give 18 does the same on the graph as made for release 1
step_alike : (m : MultiPortGraph) (c : Call) → Gave18 m c ⊎ (step (for_release One m) c ≡ stepped_for One (step m c))
step_alike m c =
    ⊎_elim (λ g. inl g) (λ e. inr (one_unchecked (for_release One m) refl c ∙ (unchecked_for One m c ∙ ap (stepped_for One) (sym e)))) (step_either m c)

all_later : (c : Call) (l : List Call) → ((x : Call) → Member x (c ∷ l) → Builds x) → (x : Call) → Member x l → Builds x
all_later c l h x i = h x (inr i)

-- a build is refused with 18, or it goes the same for release 1
refusals_alike : (l : List Call) → ((c : Call) → Member c l → Builds c) → (m : MultiPortGraph) →
    (first_refusal m l ≡ Err (Refused InputWired)) ⊎ ((first_refusal (for_release One m) l ≡ first_refusal m l) × (first_refusal m l ≡ Ok tt → graph_after (for_release One m) l ≡ for_release One (graph_after m l)))
unfolding first_refusal_under graph_after
refusals_alike [] builds m = inr (refl, λ e. refl)
refusals_alike (c ∷ l) builds m =
    ⊎_elim
    (λ (g : Gave18 m c). inl (eighteen_stops c (step m c).answer (builds c (inl refl)) g.number _))
    (λ e. goes e (refusals_alike l (all_later c l builds) (step m c).graph))
    (step_alike m c)
  where
    Later : Type 0
    Later =
        (first_refusal (step m c).graph l ≡ Err (Refused InputWired))
        ⊎ ((first_refusal (for_release One (step m c).graph) l ≡ first_refusal (step m c).graph l)
        × (first_refusal (step m c).graph l ≡ Ok tt → graph_after (for_release One (step m c).graph) l ≡ for_release One (graph_after (step m c).graph l)))

    Goal : Type 0
    Goal =
        (after_call c (step m c).answer (first_refusal (step m c).graph l) ≡ Err (Refused InputWired))
        ⊎ ((after_call c (step (for_release One m) c).answer (first_refusal (step (for_release One m) c).graph l) ≡ after_call c (step m c).answer (first_refusal (step m c).graph l))
        × (after_call c (step m c).answer (first_refusal (step m c).graph l) ≡ Ok tt →
        graph_after (step (for_release One m) c).graph l ≡ for_release One (graph_after (step m c).graph l)))

    goes : step (for_release One m) c ≡ stepped_for One (step m c) → Later → Goal
    goes e later = either (goes_or_stops c (step m c).answer) later
      where
        first : after_call c (step (for_release One m) c).answer (first_refusal (step (for_release One m) c).graph l)
            ≡ after_call c (step m c).answer (first_refusal (for_release One (step m c).graph) l)
        first = ap (λ (s : Stepped c). after_call c s.answer (first_refusal s.graph l)) e

        graphs : (graph_after (for_release One (step m c).graph) l ≡ for_release One (graph_after (step m c).graph l)) →
            graph_after (step (for_release One m) c).graph l ≡ for_release One (graph_after (step m c).graph l)
        graphs h = ap (λ (s : Stepped c). graph_after s.graph l) e ∙ h

        either : ((rest : Result (Unit {0}) LoadError) → after_call c (step m c).answer rest ≡ rest) ⊎ ((r : Refusal) × RefusedBy c (step m c).answer r × ((rest : Result (Unit {0}) LoadError) → after_call c (step m c).answer rest ≡ Err (Refused r))) →
            Later → Goal
        either (inl go) (inl h) = inl (go _ ∙ h)
        either (inl go) (inr h) = inr (first ∙ (go _ ∙ (h.0 ∙ sym (go _))), λ k. graphs (h.1 (sym (go _) ∙ k)))
        either (inr stop) h = inr (first ∙ (stop.2 _ ∙ sym (stop.2 _)), λ k. absurd (refused_not_loaded stop.0 (sym (stop.2 _) ∙ k)))

-- the calls of a build
build_builds : (v : View) (c : Call) → Member c (build_of v) → Builds c
unfolding build_of
build_builds v c i =
    ⊎_elim
    (λ a. let k = member_map add_of c v.blocks a in subst Builds (sym k.2) tt)
    (λ a. let k = member_map (link_of v.blocks) c v.wires a in subst Builds (sym k.2) tt)
    (member_append c (map add_of v.blocks) (map (link_of v.blocks) v.wires) i)

-- Files.

module _ (bytes : List ℕ) where
  abbrev view : View
  view = unbytes bytes

  for_one : for_release One (empty_graph Two) ≡ empty_graph One
  unfolding empty_graph
  for_one = refl

  build_alike : (first_refusal (empty_graph Two) (build_of view) ≡ Err (Refused InputWired))
      ⊎ ((first_refusal (empty_graph One) (build_of view) ≡ first_refusal (empty_graph Two) (build_of view))
      × (first_refusal (empty_graph Two) (build_of view) ≡ Ok tt → graph_after (empty_graph One) (build_of view) ≡ for_release One (graph_after (empty_graph Two) (build_of view))))
  build_alike =
      subst
      (λ (m : MultiPortGraph). (first_refusal (empty_graph Two) (build_of view) ≡ Err (Refused InputWired))
      ⊎ ((first_refusal m (build_of view) ≡ first_refusal (empty_graph Two) (build_of view))
      × (first_refusal (empty_graph Two) (build_of view) ≡ Ok tt → graph_after m (build_of view) ≡ for_release One (graph_after (empty_graph Two) (build_of view)))))
      for_one (refusals_alike (build_of view) (build_builds view) (empty_graph Two))

  -- a load for release 2 answers as one for release 1, or with 18
  pub two_answers_as_one : (load_answer Two bytes ≡ load_answer One bytes) ⊎ (load_answer Two bytes ≡ Err (Refused InputWired))
  unfolding load_answer_under
  two_answers_as_one = go (is_whole bytes) (is_laid bytes)
    where
      answer : Release → Bool → Bool → Result (Unit {0}) LoadError
      answer release w l = cond w (cond l (first_refusal (empty_graph release) (build_of view)) (Err BadLayout)) (Err BadSums)

      go : (w l : Bool) → (answer Two w l ≡ answer One w l) ⊎ (answer Two w l ≡ Err (Refused InputWired))
      go true true = ⊎_elim (λ e. inr e) (λ h. inl (sym h.0)) build_alike
      go true false = inl refl
      go false l = inl refl

  -- what loads for release 2 loads for release 1, to the same graph but for the release
  pub two_loads_one : load_answer Two bytes ≡ Ok tt → (load_answer One bytes ≡ Ok tt) × (load_graph One bytes ≡ for_release One (load_graph Two bytes))
  unfolding load_graph_under
  two_loads_one e =
      let p = loaded_parts Two bytes e in
      ⊎_elim
      (λ k. absurd (refused_not_loaded InputWired (sym k ∙ p.2)))
      (λ k.
      let o = parts_loaded One bytes p.0 p.1 (k.0 ∙ p.2) in
      let g : (run One (build_of view)).graph ≡ for_release One (run Two (build_of view)).graph =
      run_graph One (build_of view) ∙ (k.1 p.2 ∙ ap (for_release One) (sym (run_graph Two (build_of view)))) in
      (o, rw (o, e) g))
      build_alike

  -- it loads for release 2 exactly if it loads for release 1 and no two of its wires end at one input
  pub two_loads_exactly : (load_answer Two bytes ≡ Ok tt) ↔ ((load_answer One bytes ≡ Ok tt) × (SharesInput view.wires → ⊥))
  two_loads_exactly = (
    (λ e.
        let p = loaded_parts Two bytes e in
        ((two_loads_one e).0, λ s. shared_stops view (laid_sound bytes p.1) s p.2)),
    (λ (e, n).
        ⊎_elim (λ k. k ∙ e)
        (λ k.
        let b = (build_answers Two bytes InputWired).0 k in
        absurd (n (shares (which_refusal b.2))))
        two_answers_as_one),
  )
    where
      other : (r : Refusal) → InputWired ≡ r → get_or (refusal_numbers r) 0 0 ≡ 18
      other r e = ap (λ (x : Refusal). get_or (refusal_numbers x) 0 0) (sym e)

      shares : ((InputWired ≡ TooManyPorts) ⊎ (InputWired ≡ NoRoom)) ⊎ ((InputWired ≡ InputWired) × (Two ≡ Two) × SharesInput view.wires) → SharesInput view.wires
      shares (inl (inl e)) = let h = other TooManyPorts e in absurd (omega arith)
      shares (inl (inr e)) = let h = other NoRoom e in absurd (omega arith)
      shares (inr k) = k.2
