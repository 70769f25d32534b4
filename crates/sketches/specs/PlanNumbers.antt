-- The numbers of each answer; a refusal has its number of document 01 or 02, and carries nothing.
use Rattle.std.specs.Prelude.{ℕ, List, [], ◌∷◌, ◌++◌, Option, Some, None, Result, Ok, Err}
use Rattle.port_tables.specs.Entries.{side_number}
use Rattle.sketches.specs.declared.sketch.Reason.{Reason}
use Rattle.sketches.specs.declared.sketch.Reason.TheVariants.{BadOffset, TooManyPorts, UnknownBlock, UnknownPort, UnknownOffset, NoRoom, UnknownSecondPort, SameSide, AlreadyLinked, InputWired}
use Rattle.sketches.specs.declared.sketch.SketchPort.{SketchPort}
use Rattle.sketches.specs.declared.sketch.SketchEnd.{SketchEnd}
use Rattle.sketches.specs.declared.sketch.TooManyEntries.{TooManyEntries}

unfoldable pub reason_number : Reason → ℕ
reason_number BadOffset = 2
reason_number TooManyPorts = 3
reason_number UnknownBlock = 4
reason_number UnknownPort = 7
reason_number UnknownOffset = 9
reason_number NoRoom = 10
reason_number UnknownSecondPort = 11
reason_number SameSide = 12
reason_number AlreadyLinked = 13
reason_number InputWired = 18

-- The numbers of each answer: 0 and what it gives, or that of the refusal.

abbrev pub port_numbers : SketchPort → List ℕ
port_numbers x = x.block ∷ side_number x.side ∷ x.position ∷ []

abbrev pub end_numbers : SketchEnd → List ℕ
end_numbers x = port_numbers x.port ++ (x.offset ∷ [])

abbrev pub add_numbers : Result ℕ Reason → List ℕ
add_numbers (Ok n) = 0 ∷ n ∷ []
add_numbers (Err r) = reason_number r ∷ []

abbrev pub done_numbers : Result (Unit {0}) Reason → List ℕ
done_numbers (Ok u) = 0 ∷ []
done_numbers (Err r) = reason_number r ∷ []

abbrev pub link_numbers : Result (SketchEnd × SketchEnd) Reason → List ℕ
link_numbers (Ok (x, y)) = 0 ∷ (end_numbers x ++ end_numbers y)
link_numbers (Err r) = reason_number r ∷ []

-- 1 for found, or 0
abbrev pub cut_numbers : Result (Option SketchPort) Reason → List ℕ
cut_numbers (Ok (Some x)) = 0 ∷ 1 ∷ port_numbers x
cut_numbers (Ok None) = 0 ∷ 0 ∷ []
cut_numbers (Err r) = reason_number r ∷ []

abbrev pub found_numbers : Result (Option SketchEnd) Reason → List ℕ
found_numbers (Ok (Some x)) = 0 ∷ 1 ∷ end_numbers x
found_numbers (Ok None) = 0 ∷ 0 ∷ []
found_numbers (Err r) = reason_number r ∷ []

abbrev pub count_numbers : Result ℕ Reason → List ℕ
count_numbers (Ok n) = 0 ∷ n ∷ []
count_numbers (Err r) = reason_number r ∷ []

abbrev pub sheet_numbers : Result (Unit {0}) TooManyEntries → List ℕ
sheet_numbers (Ok u) = 0 ∷ []
sheet_numbers (Err e) = 14 ∷ []
