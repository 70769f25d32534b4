-- 01's numbers and values of a refusal, and of an end that is answered without its place.
use Rattle.std.specs.Prelude.{List, [], ◌∷◌, ℕ, Option, Some, None, Result, Ok, Err}
use Rattle.port_tables.specs.Entries.{side_number}
use Rattle.multi_tables.specs.declared.answers.Refusal.{Refusal}
use Rattle.multi_tables.specs.declared.answers.Refusal.TheVariants.{BadOffset, TooManyPorts, UnknownNode, HiddenNode, MovesTooShort, UnknownPort, HiddenPort, UnknownOffset, NoRoom, UnknownSecondPort, IncompatibleDirections, AlreadyLinked, InputWired}
use Rattle.multi_tables.specs.declared.answers.SubportIndex.{SubportIndex}
use Rattle.multi_tables.specs.declared.answers.PortPlace.{PortPlace}

abbrev pub refusal_numbers : Refusal → List ℕ
refusal_numbers BadOffset = 2 ∷ []
refusal_numbers TooManyPorts = 3 ∷ []
refusal_numbers UnknownNode = 4 ∷ []
refusal_numbers HiddenNode = 5 ∷ []
refusal_numbers MovesTooShort = 6 ∷ []
refusal_numbers (UnknownPort p) = 7 ∷ p.0 ∷ []
refusal_numbers (HiddenPort p) = 8 ∷ p.0 ∷ []
refusal_numbers (UnknownOffset p) = 9 ∷ p.0 ∷ []
refusal_numbers NoRoom = 10 ∷ []
refusal_numbers (UnknownSecondPort p) = 11 ∷ p.0 ∷ []
refusal_numbers (IncompatibleDirections p q d) = 12 ∷ p.0 ∷ q.0 ∷ side_number d ∷ []
refusal_numbers (AlreadyLinked p) = 13 ∷ p.0 ∷ []
refusal_numbers InputWired = 18 ∷ []

-- The answer without the place, as the calls in place give it; nothing else is left out.
abbrev pub unplaced : Result (Option (SubportIndex × PortPlace)) Refusal → Result (Option SubportIndex) Refusal
unplaced (Ok (Some (s, x))) = Ok (Some s)
unplaced (Ok None) = Ok None
unplaced (Err r) = Err r

abbrev pub unplaced_numbers : Result (Option SubportIndex) Refusal → List ℕ
unplaced_numbers (Ok (Some s)) = 0 ∷ 1 ∷ s.port.0 ∷ s.subport_offset ∷ []
unplaced_numbers (Ok None) = 0 ∷ 0 ∷ 0 ∷ 0 ∷ []
unplaced_numbers (Err r) = refusal_numbers r
