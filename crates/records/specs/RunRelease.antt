-- A record run is of release 1, so no answer of a run is 18.
use Rattle.std.specs.Prelude.{◌≡◌, refl, List, [], ◌∷◌, ℕ, get_or, Option, Some, None, Result, Ok, Err}
use Rattle.std.proofs.Common.{sym, ◌∙◌, arith}
use Rattle.portgraph.specs.Model.{Model}
use Rattle.multiportgraph.specs.Answers.{cut_numbers}
use Rattle.multi_tables.specs.EndAnswers.{refusal_numbers}
use Rattle.multiportgraph.specs.Calls.{subport_link}
use Rattle.multiportgraph.specs.WellFormed.{Fine}
use Rattle.multiportgraph.specs.declared.multiportgraph.MultiPortGraph.{MultiPortGraph}
use Rattle.port_tables.specs.declared.release.Release.TheVariants.{One}
use Rattle.multi_tables.specs.declared.answers.Refusal.{Refusal}
use Rattle.theorems.specs.Book as book
use Rattle.theorems.specs.Book.{Call, AnswerOf}
use Rattle.theorems.specs.History.{run, numbers_of}
use Rattle.theorems.proofs.CallLaws.{rel_run}
use Rattle.theorems.specs.Conditions as laws
use Rattle.theorems.specs.Conditions.{SubRefused}
use Rattle.theorems.proofs.CutSubCall.{subport_link_refused}
use Rattle.theorems.specs.ReleaseClaims.{first_of, number_of}
use Rattle.theorems.proofs.ReleaseTheorems.{release_one_is_as_before}
use Rattle.records.specs.Words.{Request}
use Rattle.records.specs.RoomLaws.{first_kept}
use Rattle.records.specs.Run.{Asked, call, link_of, counts, refused, asked, without_place, recorded, numbers, calls_of}
use Rattle.multi_tables.specs.declared.answers.SubportIndex.{SubportIndex}
use Rattle.multi_tables.specs.declared.answers.PortPlace.{PortPlace}

-- the first of some numbers, as it is read
first_is : (l : List ℕ) → first_of l ≡ get_or l 0 0
first_is [] = refl
first_is (n ∷ l) = refl

number_recorded : (c : Call) (v : AnswerOf c) → number_of c v ≡ get_or (recorded c (numbers_of c v)) 0 0
number_recorded (book.add_call i o) v = first_is (numbers_of (book.add_call i o) v)
number_recorded (book.remove_call n) v = first_is (numbers_of (book.remove_call n) v)
number_recorded (book.set_call n i o room) v = first_is (numbers_of (book.set_call n i o room) v)
number_recorded (book.link_call a b) v = first_is (numbers_of (book.link_call a b) v)
number_recorded (book.link_clean_call a b) v = first_is (numbers_of (book.link_clean_call a b) v)
number_recorded (book.link_sub_call p o q r) v = first_is (numbers_of (book.link_sub_call p o q r) v)
number_recorded (book.cut_call p) v = first_is (numbers_of (book.cut_call p) v) ∙ sym (first_kept (numbers_of (book.cut_call p) v))
number_recorded (book.cut_sub_call p o) v = first_is (numbers_of (book.cut_sub_call p o) v) ∙ sym (first_kept (numbers_of (book.cut_sub_call p o) v))
number_recorded (book.tidy_call p) v = first_is (numbers_of (book.tidy_call p) v)

-- asking for a subport's link is not refused with it
module _ {m : MultiPortGraph} {M : Model} (f : Fine m M) (p o : ℕ) where
  never_so : (r : Refusal) → SubRefused m M p o r → get_or (without_place (refusal_numbers r)) 0 0 ≡ 18 → ⊥
  never_so r (laws.sub_offset h) e = omega arith
  never_so r (laws.sub_dead h d) e = omega arith
  never_so r (laws.sub_hidden h d) e = omega arith
  never_so r (laws.sub_lacks h x b l) e = omega arith

  link_of_not : (a : Result (Option (SubportIndex × PortPlace)) Refusal) → subport_link m p o ≡ a → get_or (without_place (cut_numbers a)) 0 0 ≡ 18 → ⊥
  link_of_not (Ok (Some (s, x))) q e = omega arith
  link_of_not (Ok None) q e = omega arith
  link_of_not (Err r) q e = never_so r (subport_link_refused f p o r q) e

pub eighteen_never_given : (l : List Request) (q : Request) → get_or (numbers (run One (calls_of l)).graph (asked q)) 0 0 ≡ 18 → ⊥
eighteen_never_given l q = go (asked q)
  where
    go : (x : Asked) → get_or (numbers (run One (calls_of l)).graph x) 0 0 ≡ 18 → ⊥
    go (call c) h = (release_one_is_as_before (calls_of l) c).1 (number_recorded c _ ∙ h)
    go (link_of p o) h = link_of_not (rel_run One (calls_of l)).1.fine p o (subport_link (run One (calls_of l)).graph p o) refl h
    go counts h = omega arith
    go refused h = omega arith
