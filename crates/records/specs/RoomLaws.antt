-- The move list of a run is long enough for every node, so refusal 6 is never given in a run.
use Rattle.std.specs.Prelude.{◌≡◌, refl, Bool, true, false, cond, List, [], ◌∷◌, ℕ, eqb, get_or, Option, Some, None, Result, Ok, Err}
use Rattle.std.proofs.Common.{sym, ap, ◌∙◌, arith}
use Rattle.portgraph.specs.Model.{Model}
use Rattle.portgraph.specs.GoodSlots.{zero_is_not_one}
use Rattle.multiportgraph.specs.Calls.{subport_link}
use Rattle.theorems.specs.Book as book
use Rattle.theorems.specs.Book.{Call, AnswerOf}
use Rattle.theorems.specs.History.{step, run, numbers_of}
use Rattle.multiportgraph.specs.WellFormed.{Fine}
use Rattle.theorems.proofs.CallLaws.{rel_run, refused_under_no_other}
use Rattle.theorems.specs.Conditions as laws
use Rattle.multiportgraph.specs.declared.multiportgraph.MultiPortGraph.{MultiPortGraph}
use Rattle.port_tables.specs.declared.release.Release.TheVariants.{One}
use Rattle.multi_tables.specs.declared.answers.Refusal.{Refusal}
use Rattle.multi_tables.specs.declared.answers.Refusal.TheVariants.{BadOffset, TooManyPorts, UnknownNode, HiddenNode, MovesTooShort, UnknownPort, HiddenPort, UnknownOffset, NoRoom, UnknownSecondPort, IncompatibleDirections, AlreadyLinked, InputWired}
use Rattle.records.specs.Words.{Request}
use Rattle.records.specs.Run.{Asked, call, link_of, counts, refused, all_zero, good_offsets, asked, asked_by, without_place, recorded, numbers, calls_of}
use Rattle.multiportgraph.specs.HiddenNodes.{enough}
use Rattle.multiportgraph.specs.Answers.{cut_numbers}
use Rattle.multi_tables.specs.EndAnswers.{refusal_numbers}
use Rattle.theorems.specs.Conditions.{AddRefused, RemoveRefused, SetRefused, CutRefused, SubRefused, LinkRefused, CleanRefused, LinkSubRefused, RefusedBy, Condition}
use Rattle.theorems.proofs.CutSubCall.{subport_link_refused}
use Rattle.multi_tables.specs.declared.answers.SubportIndex.{SubportIndex}
use Rattle.multi_tables.specs.declared.answers.PortPlace.{PortPlace}

-- the refusal with number 6
refusal_six : (r : Refusal) → get_or (refusal_numbers r) 0 0 ≡ 6 → r ≡ MovesTooShort
refusal_six BadOffset h = absurd (omega arith)
refusal_six TooManyPorts h = absurd (omega arith)
refusal_six UnknownNode h = absurd (omega arith)
refusal_six HiddenNode h = absurd (omega arith)
refusal_six MovesTooShort h = refl
refusal_six (UnknownPort p) h = absurd (omega arith)
refusal_six (HiddenPort p) h = absurd (omega arith)
refusal_six (UnknownOffset p) h = absurd (omega arith)
refusal_six NoRoom h = absurd (omega arith)
refusal_six (UnknownSecondPort p) h = absurd (omega arith)
refusal_six (IncompatibleDirections p q d) h = absurd (omega arith)
refusal_six (AlreadyLinked p) h = absurd (omega arith)
refusal_six InputWired h = absurd (omega arith)

pub first_kept : (l : List ℕ) → get_or (without_place l) 0 0 ≡ get_or l 0 0
first_kept [] = refl
first_kept (x ∷ l) = refl

cut_six : (a : Result (Option (SubportIndex × PortPlace)) Refusal) → get_or (without_place (cut_numbers a)) 0 0 ≡ 6 → a ≡ Err MovesTooShort
cut_six (Ok (Some (s, x))) h = absurd (omega arith)
cut_six (Ok None) h = absurd (omega arith)
cut_six (Err r) h = ap Err (refusal_six r (sym (first_kept (refusal_numbers r)) ∙ h))

answer_six : (c : Call) (v : AnswerOf c) → get_or (recorded c (numbers_of c v)) 0 0 ≡ 6 → RefusedBy c v MovesTooShort
answer_six (book.add_call i o) (Ok (n, p)) h = absurd (omega arith)
answer_six (book.add_call i o) (Err r) h = ap Err (refusal_six r h)
answer_six (book.remove_call n) (Ok tt) h = absurd (omega arith)
answer_six (book.remove_call n) (Err r) h = ap Err (refusal_six r h)
answer_six (book.set_call n i o room) (Ok e) h = absurd (omega arith)
answer_six (book.set_call n i o room) (Err r) h = ap Err (refusal_six r h)
answer_six (book.link_call a b) (Ok (s, t)) h = absurd (omega arith)
answer_six (book.link_call a b) (Err r) h = ap Err (refusal_six r h)
answer_six (book.link_clean_call a b) (Ok (s, t)) h = absurd (omega arith)
answer_six (book.link_clean_call a b) (Err r) h = ap Err (refusal_six r h)
answer_six (book.link_sub_call p o q r) (Ok (s, t)) h = absurd (omega arith)
answer_six (book.link_sub_call p o q r) (Err z) h = ap Err (refusal_six z h)
answer_six (book.cut_call p) v h = cut_six v h
answer_six (book.cut_sub_call p o) v h = cut_six v h
answer_six (book.tidy_call p) (Ok tt) h = absurd (omega arith)
answer_six (book.tidy_call p) (Err r) h = ap Err (refusal_six r h)

-- only a resize gives it, and only with a shorter move list
abbrev Roomy : Call → Type 0
Roomy (book.add_call i o) = Unit {0}
Roomy (book.remove_call n) = Unit {0}
Roomy (book.set_call n i o room) = room ≡ enough
Roomy (book.link_call a b) = Unit {0}
Roomy (book.link_clean_call a b) = Unit {0}
Roomy (book.link_sub_call p o q r) = Unit {0}
Roomy (book.cut_call p) = Unit {0}
Roomy (book.cut_sub_call p o) = Unit {0}
Roomy (book.tidy_call p) = Unit {0}

module _ {m : MultiPortGraph} {M : Model} (f : Fine m M) where
  add_never : (i o : ℕ) (r : Refusal) → AddRefused M i o r → r ≡ MovesTooShort → ⊥
  add_never i o r (laws.add_many h) e = zero_is_not_one (cc)
  add_never i o r (laws.add_full h k) e = zero_is_not_one (cc)

  remove_never : (n : ℕ) (r : Refusal) → RemoveRefused m M n r → r ≡ MovesTooShort → ⊥
  remove_never n r (laws.remove_unknown h) e = zero_is_not_one (cc)
  remove_never n r (laws.remove_hidden h) e = zero_is_not_one (cc)

  set_never : (n i o room : ℕ) (r : Refusal) → room ≡ enough → SetRefused m M n i o room r → r ≡ MovesTooShort → ⊥
  set_never n i o room r z (laws.set_many h) e = zero_is_not_one (cc)
  set_never n i o room r z (laws.set_gone h g) e = zero_is_not_one (cc)
  set_never n i o room r z (laws.set_hidden h t) e = zero_is_not_one (cc)
  set_never n i o room r z (laws.set_short h k b l) e =
      let p = f.good.ports_in_block n k b.1 in
      let s = f.good.block_small n k b.1 in
      omega arith
  set_never n i o room r z (laws.set_full h k b l x) e = zero_is_not_one (cc)

  cut_never : (p : ℕ) (r : Refusal) → CutRefused m M p r → r ≡ MovesTooShort → ⊥
  cut_never p r (laws.cut_dead h) e = zero_is_not_one (cc)
  cut_never p r (laws.cut_hidden h) e = zero_is_not_one (cc)

  sub_never : (p o : ℕ) (r : Refusal) → SubRefused m M p o r → r ≡ MovesTooShort → ⊥
  sub_never p o r (laws.sub_offset h) e = zero_is_not_one (cc)
  sub_never p o r (laws.sub_dead h d) e = zero_is_not_one (cc)
  sub_never p o r (laws.sub_hidden h d) e = zero_is_not_one (cc)
  sub_never p o r (laws.sub_lacks h x b l) e = zero_is_not_one (cc)

  link_never : (a b : ℕ) (h : MultiPortGraph) (r : Refusal) → LinkRefused m M a b h r → r ≡ MovesTooShort → ⊥
  link_never a b h r (laws.link_first_dead d) e = zero_is_not_one (cc)
  link_never a b h r (laws.link_first_hidden k) e = zero_is_not_one (cc)
  link_never a b h r (laws.link_second_hidden x s k) e = zero_is_not_one (cc)
  link_never a b h r (laws.link_wired x s k t) e = zero_is_not_one (cc)
  link_never a b h r (laws.link_first_full x s k n g) e = zero_is_not_one (cc)
  link_never a b h r (laws.link_second_full x y m₁ u o s t n g k) e = zero_is_not_one (cc)
  link_never a b h r (laws.link_second_dead x m₁ u o s d n g) e = zero_is_not_one (cc)
  link_never a b h r (laws.link_one_side x y m₁ m₂ u o v w s t n g k q) e = zero_is_not_one (cc)

  clean_never : (a b : ℕ) (r : Refusal) → CleanRefused m M a b r → r ≡ MovesTooShort → ⊥
  clean_never a b r (laws.clean_first_dead d) e = zero_is_not_one (cc)
  clean_never a b r (laws.clean_first_hidden k) e = zero_is_not_one (cc)
  clean_never a b r (laws.clean_second_hidden x s k) e = zero_is_not_one (cc)
  clean_never a b r (laws.clean_wired x s k t) e = zero_is_not_one (cc)
  clean_never a b r (laws.clean_second_dead x s d n) e = zero_is_not_one (cc)
  clean_never a b r (laws.clean_one_side x y s t n q) e = zero_is_not_one (cc)
  clean_never a b r (laws.clean_full x y s t n k) e = zero_is_not_one (cc)

  link_sub_never : (p o q r : ℕ) (z : Refusal) → LinkSubRefused m M p o q r z → z ≡ MovesTooShort → ⊥
  link_sub_never p o q r z (laws.sub_offsets h) e = zero_is_not_one (cc)
  link_sub_never p o q r z (laws.sub_first_dead h d) e = zero_is_not_one (cc)
  link_sub_never p o q r z (laws.sub_first_hidden h d) e = zero_is_not_one (cc)
  link_sub_never p o q r z (laws.sub_second_hidden h x b k) e = zero_is_not_one (cc)
  link_sub_never p o q r z (laws.sub_first_lacks h x b k l) e = zero_is_not_one (cc)
  link_sub_never p o q r z (laws.sub_second_lacks h x y b k l g) e = zero_is_not_one (cc)
  link_sub_never p o q r z (laws.sub_wired h x b k l g t) e = zero_is_not_one (cc)
  link_sub_never p o q r z (laws.sub_second_dead h x b d l n) e = zero_is_not_one (cc)
  link_sub_never p o q r z (laws.sub_one_side h x y u v b k l g n s) e = zero_is_not_one (cc)
  link_sub_never p o q r z (laws.sub_first_linked h x y u v b k l g n s j) e = zero_is_not_one (cc)
  link_sub_never p o q r z (laws.sub_second_linked h x y u v b k l g n s j i) e = zero_is_not_one (cc)

  never : (c : Call) → Roomy c → Condition m M c MovesTooShort → ⊥
  never (book.add_call i o) z h = add_never i o MovesTooShort h refl
  never (book.remove_call n) z h = remove_never n MovesTooShort h refl
  never (book.set_call n i o room) z h = set_never n i o room MovesTooShort z h refl
  never (book.link_call a b) z h = link_never a b h.0 MovesTooShort h.1 refl
  never (book.link_clean_call a b) z h = clean_never a b MovesTooShort h refl
  never (book.link_sub_call p o q r) z h = link_sub_never p o q r MovesTooShort h refl
  never (book.cut_call p) z h = cut_never p MovesTooShort h refl
  never (book.cut_sub_call p o) z h = sub_never p o MovesTooShort h refl
  never (book.tidy_call p) z h = cut_never p MovesTooShort h refl

-- what a request asks has room
abbrev AskedRoomy : Asked → Type 0
AskedRoomy (call c) = Roomy c
AskedRoomy (link_of p o) = Unit {0}
AskedRoomy counts = Unit {0}
AskedRoomy refused = Unit {0}

record HasRoom (x : Asked) : Type 0 where
  roomy : AskedRoomy x

either : (t : Bool) {x y : Asked} → HasRoom x → HasRoom y → HasRoom (cond t x y)
either true h k = h
either false h k = k

-- refusal 2 unless a test holds
tested : (t : Bool) {x : Asked} → HasRoom x → HasRoom (cond t x refused)
tested t h = either t h (record { roomy = tt })

free : (c : Call) → Roomy c → HasRoom (call c)
free c h = record { roomy = h }

asked_has_room : (code a b c d : ℕ) → HasRoom (asked_by code a b c d)
unfolding asked_by
asked_has_room code a b c d =
    either (eqb code 1) (tested (all_zero (c ∷ d ∷ [])) (free (book.add_call a b) tt))
    (either (eqb code 2) (tested (all_zero (b ∷ c ∷ d ∷ [])) (free (book.remove_call a) tt))
    (either (eqb code 3) (tested (all_zero (d ∷ [])) (free (book.set_call a b c enough) refl))
    (either (eqb code 4) (tested (all_zero (c ∷ d ∷ [])) (free (book.link_call a b) tt))
    (either (eqb code 5) (tested (all_zero (b ∷ c ∷ d ∷ [])) (free (book.cut_call a) tt))
    (either (eqb code 6) (tested (good_offsets (b ∷ d ∷ [])) (free (book.link_sub_call a b c d) tt))
    (either (eqb code 7) (tested (all_zero (c ∷ d ∷ [])) (tested (good_offsets (b ∷ [])) (free (book.cut_sub_call a b) tt)))
    (either (eqb code 8) (tested (all_zero (c ∷ d ∷ [])) (tested (good_offsets (b ∷ [])) {x = link_of a b} (record { roomy = tt })))
    (tested (eqb code 9) (tested (all_zero (a ∷ b ∷ c ∷ d ∷ [])) {x = counts} (record { roomy = tt }))))))))))

numbers_not_six : {m : MultiPortGraph} {M : Model} → Fine m M → (x : Asked) → AskedRoomy x → get_or (numbers m x) 0 0 ≡ 6 → ⊥
numbers_not_six {m} f (call c) z h = never f c z (refused_under_no_other f c MovesTooShort (answer_six c (step m c).answer h))
numbers_not_six {m} f (link_of p o) z h = sub_never f p o MovesTooShort (subport_link_refused f p o MovesTooShort (cut_six (subport_link m p o) h)) refl
numbers_not_six f counts z h = omega arith
numbers_not_six f refused z h = omega arith

-- no answer of a run is 6
pub six_never_given : (l : List Request) (q : Request) → get_or (numbers (run One (calls_of l)).graph (asked q)) 0 0 ≡ 6 → ⊥
six_never_given l q h = numbers_not_six (rel_run One (calls_of l)).1.fine (asked q) (asked_has_room q.code q.a q.b q.c q.d).roomy h
