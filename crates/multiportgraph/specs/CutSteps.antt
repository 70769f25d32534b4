-- What a cut, or a lookup, answers without the place: step by step, for the functions' proofs.
use Rattle.std.specs.Prelude.{◌≡◌, refl, Option, Some, None, Result, Ok, Err}
use Rattle.std.proofs.Common.{ap, ◌∙◌}
use Rattle.multi_tables.specs.EndAnswers.{refusal_numbers, unplaced, unplaced_numbers}
use Rattle.multi_tables.specs.declared.answers.PortPlace.{PortPlace}
use Rattle.multi_tables.specs.declared.answers.Refusal.{Refusal}
use Rattle.multi_tables.specs.declared.answers.Refusal.TheVariants as refusal
use Rattle.multi_tables.specs.declared.answers.SubportIndex.{SubportIndex}
use Rattle.multiportgraph.specs.Answers.{cut_numbers, before_place}

refused_short : (r : Refusal) → refusal_numbers r ≡ before_place (refusal_numbers r)
refused_short refusal.BadOffset = refl
refused_short refusal.TooManyPorts = refl
refused_short refusal.UnknownNode = refl
refused_short refusal.HiddenNode = refl
refused_short refusal.MovesTooShort = refl
refused_short (refusal.UnknownPort p) = refl
refused_short (refusal.HiddenPort p) = refl
refused_short (refusal.UnknownOffset p) = refl
refused_short refusal.NoRoom = refl
refused_short (refusal.UnknownSecondPort p) = refl
refused_short (refusal.IncompatibleDirections p q d) = refl
refused_short (refusal.AlreadyLinked p) = refl
refused_short refusal.InputWired = refl

-- its numbers are the full answer's without the place
pub unplaced_numbers_lem : (a : Result (Option (SubportIndex × PortPlace)) Refusal) → unplaced_numbers (unplaced a) ≡ before_place (cut_numbers a)
unplaced_numbers_lem (Ok (Some (s, x))) = refl
unplaced_numbers_lem (Ok None) = refl
unplaced_numbers_lem (Err r) = refused_short r

pub with_end_numbers : (a : Result (Option (SubportIndex × PortPlace)) Refusal) {e : Result (Option SubportIndex) Refusal} → e ≡ unplaced a → (e ≡ unplaced a) × (unplaced_numbers e ≡ before_place (cut_numbers a))
with_end_numbers a p = (p, ap unplaced_numbers p ∙ unplaced_numbers_lem a)

pub and_end_numbers : (a : Result (Option (SubportIndex × PortPlace)) Refusal) {A : Type 0} {e : Result (Option SubportIndex) Refusal} → A → e ≡ unplaced a → A × (e ≡ unplaced a) × (unplaced_numbers e ≡ before_place (cut_numbers a))
and_end_numbers a g p = (g, p, ap unplaced_numbers p ∙ unplaced_numbers_lem a)
