-- 01's numbers and values of each answer.
use Rattle.std.specs.Prelude.{List, [], ◌∷◌, ℕ, take, Option, Some, None, Result, Ok, Err}
use Rattle.port_tables.specs.Entries.{side_number}
use Rattle.multi_tables.specs.declared.answers.PortPlace.{PortPlace}
use Rattle.multi_tables.specs.EndAnswers.{refusal_numbers}
use Rattle.port_tables.specs.declared.index.NodeIndex.{NodeIndex}
use Rattle.port_tables.specs.declared.index.PortIndex.{PortIndex}
use Rattle.multi_tables.specs.declared.answers.Refusal.{Refusal}
use Rattle.multi_tables.specs.declared.answers.SubportIndex.{SubportIndex}

abbrev pub add_numbers : Result (NodeIndex × PortIndex) Refusal → List ℕ
add_numbers (Ok (n, p)) = 0 ∷ n.0 ∷ p.0 ∷ []
add_numbers (Err r) = refusal_numbers r

abbrev pub remove_numbers : Result (Unit {0}) Refusal → List ℕ
remove_numbers (Ok tt) = 0 ∷ []
remove_numbers (Err r) = refusal_numbers r

abbrev pub set_numbers : Result ℕ Refusal → List ℕ
set_numbers (Ok e) = 0 ∷ e ∷ []
set_numbers (Err r) = refusal_numbers r

abbrev pub link_numbers : Result (SubportIndex × SubportIndex) Refusal → List ℕ
link_numbers (Ok (a, b)) = 0 ∷ a.port.0 ∷ a.subport_offset ∷ b.port.0 ∷ b.subport_offset ∷ []
link_numbers (Err r) = refusal_numbers r

-- where an end stands: node, side and position
abbrev pub place_numbers : PortPlace → List ℕ
place_numbers x = x.node.0 ∷ side_number x.side ∷ x.position ∷ []

abbrev pub cut_numbers : Result (Option (SubportIndex × PortPlace)) Refusal → List ℕ
cut_numbers (Ok (Some (s, x))) = 0 ∷ 1 ∷ s.port.0 ∷ s.subport_offset ∷ place_numbers x
cut_numbers (Ok None) = 0 ∷ 0 ∷ 0 ∷ 0 ∷ []
cut_numbers (Err r) = refusal_numbers r

-- the numbers of such an answer without the place, which stands after the fourth
abbrev pub before_place : List ℕ → List ℕ
before_place numbers = take 4 numbers

-- an accepted tidy answers no value
abbrev pub tidy_numbers : Result (Unit {0}) Refusal → List ℕ
tidy_numbers (Ok tt) = 0 ∷ []
tidy_numbers (Err r) = refusal_numbers r
