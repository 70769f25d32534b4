-- The bundles of all calls, collected; from them, what holds of every call and of every history.
use Rattle.std.specs.Prelude.{◌≡◌, refl, false, ℕ, List, [], ◌∷◌, ◌⊎◌, Option, Some, None, Result, Ok, Err}
use Rattle.std.proofs.Common.{inl, inr, ⊎_elim}
use Rattle.portgraph.specs.Model.{Model}
use Rattle.portgraph.specs.GoodLaws.{empty_model}
use Rattle.theorems.specs.Book as book
use Rattle.theorems.specs.Book.{Call, AnswerOf, Book, empty_book, read_by}
use Rattle.port_tables.specs.declared.release.Release.{Release}
use Rattle.multiportgraph.specs.WellFormed.{Fine, MultiWf}
use Rattle.multiportgraph.specs.declared.multiportgraph.MultiPortGraph.{MultiPortGraph}
use Rattle.multi_tables.specs.declared.answers.SubportIndex.{SubportIndex}
use Rattle.multi_tables.specs.declared.answers.PortPlace.{PortPlace}
use Rattle.multi_tables.specs.declared.answers.Refusal.{Refusal}
use Rattle.multi_tables.specs.declared.answers.Refusal.TheVariants.{NoRoom}
use Rattle.multiportgraph.specs.Graph.{empty_graph}
use Rattle.theorems.specs.History.{step, entered, State, next, run_from, run_from_under, run, run_under}
use Rattle.multiportgraph.specs.LinkCutLaws.{fine_empty}
use Rattle.theorems.proofs.WireRule.{Rel, rel_start, OneMore, ports_link, subports_link}
use Rattle.multiportgraph.specs.Space.{room_of, after_works, overflows, Spaced}
use Rattle.multiportgraph.specs.SpaceLaws.{room_is}
use Rattle.theorems.specs.Works.{works_of}
use Rattle.theorems.specs.Conditions.{Accepted, Condition, RefusedBy, leaves_prepared}
use Rattle.theorems.proofs.CallLaw.{CallLaw}
use Rattle.theorems.proofs.AddCall.{add_call}
use Rattle.theorems.proofs.RemoveCall.{remove_call}
use Rattle.theorems.proofs.SetCall.{set_call}
use Rattle.theorems.proofs.CutCall.{cut_call}
use Rattle.theorems.proofs.CutSubCall.{cut_sub_call}
use Rattle.theorems.proofs.TidyCall.{tidy_call}
use Rattle.theorems.proofs.LinkCall.{link_call}
use Rattle.theorems.proofs.LinkCleanCall.{link_clean_call, clean_done_law}
use Rattle.theorems.proofs.LinkSubCall.{link_sub_call, link_sub_done}
use Rattle.theorems.specs.Claims.{Link, by_ports, by_ports_clean, by_subports, linking, LinkedBy}
use Rattle.theorems.specs.LinkLaw.{link_done_law}
use Rattle.multiportgraph.specs.Reading.{is_split}

-- an answer is one or the other
cut_or_refused : (v : Result (Option (SubportIndex × PortPlace)) Refusal) → (((s : SubportIndex) × (x : PortPlace) × (v ≡ Ok (Some (s, x)))) ⊎ (v ≡ Ok None)) ⊎ ((r : Refusal) × (v ≡ Err r))
cut_or_refused (Ok (Some (s, x))) = inl (inl (s, x, refl))
cut_or_refused (Ok None) = inl (inr refl)
cut_or_refused (Err r) = inr (r, refl)

accepted_or_refused : (c : Call) (v : AnswerOf c) → Accepted c v ⊎ ((r : Refusal) × RefusedBy c v r)
accepted_or_refused (book.add_call i o) (Ok (n, p)) = inl (n, p, refl)
accepted_or_refused (book.add_call i o) (Err r) = inr (r, refl)
accepted_or_refused (book.remove_call n) (Ok tt) = inl refl
accepted_or_refused (book.remove_call n) (Err r) = inr (r, refl)
accepted_or_refused (book.set_call n i o room) (Ok e) = inl (e, refl)
accepted_or_refused (book.set_call n i o room) (Err r) = inr (r, refl)
accepted_or_refused (book.link_call a b) (Ok (s, t)) = inl (s, t, refl)
accepted_or_refused (book.link_call a b) (Err r) = inr (r, refl)
accepted_or_refused (book.link_clean_call a b) (Ok (s, t)) = inl (s, t, refl)
accepted_or_refused (book.link_clean_call a b) (Err r) = inr (r, refl)
accepted_or_refused (book.link_sub_call p o q t) (Ok (x, y)) = inl (x, y, refl)
accepted_or_refused (book.link_sub_call p o q t) (Err r) = inr (r, refl)
accepted_or_refused (book.cut_call p) v = cut_or_refused v
accepted_or_refused (book.cut_sub_call p o) v = cut_or_refused v
accepted_or_refused (book.tidy_call p) (Ok tt) = inl refl
accepted_or_refused (book.tidy_call p) (Err r) = inr (r, refl)

module _ {m : MultiPortGraph} {M : Model} (f : Fine m M) where
  pub call_law : (c : Call) → CallLaw m M c
  call_law (book.add_call i o) = add_call f i o
  call_law (book.remove_call n) = remove_call f n
  call_law (book.set_call n i o room) = set_call f n i o room
  call_law (book.link_call a b) = link_call f a b
  call_law (book.link_clean_call a b) = link_clean_call f a b
  call_law (book.link_sub_call p o q t) = link_sub_call f p o q t
  call_law (book.cut_call p) = cut_call f p
  call_law (book.cut_sub_call p o) = cut_sub_call f p o
  call_law (book.tidy_call p) = tidy_call f p

  -- All calls.

  -- each refusal is given under its condition and no other
  pub refused_under_condition : (c : Call) (r : Refusal) → Condition m M c r → RefusedBy c (step m c).answer r
  refused_under_condition c r k = ((call_law c).refuses r k).0

  pub refused_under_no_other : (c : Call) (r : Refusal) → RefusedBy c (step m c).answer r → Condition m M c r
  refused_under_no_other c = (call_law c).only

  pub accepted_otherwise : (c : Call) → ((r : Refusal) → Condition m M c r → ⊥) → Accepted c (step m c).answer
  accepted_otherwise c h = ⊎_elim (λ a. a) (λ k. absurd (h k.0 (refused_under_no_other c k.0 k.1))) (accepted_or_refused c (step m c).answer)

  -- a refused call leaves the graph, but for the preparations that stay
  pub refused_changes_nothing : (c : Call) (r : Refusal) → RefusedBy c (step m c).answer r → leaves_prepared c r ≡ false → (step m c).graph ≡ m
  refused_changes_nothing c r e = ((call_law c).refuses r (refused_under_no_other c r e)).1

  -- every call is refused with 10 exactly if its works overflow, else the room is that after them
  pub call_space : (c : Call) → Spaced m M (works_of m c) (RefusedBy c (step m c).answer NoRoom) (step m c).graph
  call_space c = (call_law c).space

-- in the words of the model that the graph after the call stands for
pub call_room_after : {m : MultiPortGraph} {M N : Model} → Fine m M → (c : Call) → Fine (step m c).graph N → overflows (room_of M) (works_of m c) ≡ false → room_of N ≡ after_works (room_of M) (works_of m c)
call_room_after f c g e = room_is ((call_space f c).room_after e) g.holds

-- An accepted link of any kind: one wire more, between the ports that it names.
pub one_more_wire : (s : State) {M : Model} → Fine s.graph M → (c : Link) (x y : SubportIndex) → LinkedBy s c x y →
    (a : ℕ) × (o : ℕ) × (b : ℕ) × (r : ℕ) × OneMore s.graph M (next s (linking c)).graph a o b r x y
one_more_wire s f (by_ports a b) x y h = let d = link_done_law f a b x y h in (a, d.o, b, d.r, ports_link d)
one_more_wire s f (by_ports_clean a b) x y h = let d = clean_done_law f a b x y h in (a, d.o, b, d.r, ports_link d)
one_more_wire s f (by_subports p o q r) x y h =
    (p, read_by (is_split s.graph p) o, q, read_by (is_split s.graph q) r, subports_link (link_sub_done f p o q r x y h))

-- Every history.

pub rel_step : {m : MultiPortGraph} {M : Model} {B : Book} → Rel m M B → (c : Call) → (M' : Model) × Rel (step m c).graph M' (entered m c B)
rel_step {m} {M} {B} r c = let l = (call_law r.fine c).leads in (l.model, l.booked B r)

rel_from : {s : State} {M : Model} → Rel s.graph M s.book → (calls : List Call) → (M' : Model) × Rel (run_from s calls).graph M' (run_from s calls).book
unfolding run_from_under
rel_from {s} {M} r [] = (M, r)
rel_from {s} {M} r (c ∷ l) = let t = rel_step r c in rel_from {s = next s c} t.1 l

pub rel_run : (release : Release) (calls : List Call) → (M : Model) × Rel (run release calls).graph M (run release calls).book
unfolding run_under
rel_run release calls = rel_from {s = record { graph = empty_graph release; book = empty_book }} (rel_start release) calls

-- `MultiWf`, which the contracts presume, holds of every graph that came from these calls.

pub empty_kept : (release : Release) → MultiWf (empty_graph release)
empty_kept release = record { model = empty_model; fine = fine_empty release }

pub step_kept : (m : MultiPortGraph) (c : Call) → MultiWf m → MultiWf (step m c).graph
step_kept m c w = let l = (call_law w.fine c).leads in record { model = l.model; fine = l.fine }

pub run_kept : (release : Release) (calls : List Call) → MultiWf (run release calls).graph
run_kept release calls = record { model = (rel_run release calls).0; fine = (rel_run release calls).1.fine }
