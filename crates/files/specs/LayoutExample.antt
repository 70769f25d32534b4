-- The bytes of one small wiring, written out by hand from 02: two blocks, (0,1) and (2,0), and three wires from the output, two of
-- them to the second input. The sums are 196,611 and 327,685.
use Rattle.std.specs.Prelude.{◌≡◌, refl, ℕ, replicate}
use mathlib.Core.List.{List, [], ◌∷◌, ◌++◌, flat_map}
use Rattle.portgraph.specs.Model.{total}
use Rattle.files.specs.View.{View, sorted, insert_all, insert, is_before}
use Rattle.files.specs.Layout.{field_bytes, word_bytes, field_at, word_at, record_bytes, unit_head, sum_of, unit, units_for, units_from, units_of, bytes_of}

abbrev small : View
small =
    record {
      blocks = record { incoming = 0; outgoing = 1 } ∷ record { incoming = 2; outgoing = 0 } ∷ [];
      wires =
          sorted
          (record { source = 0; output = 0; target = 1; input = 1 }
          ∷ record { source = 0; output = 0; target = 1; input = 0 }
          ∷ record { source = 0; output = 0; target = 1; input = 1 } ∷ []);
    }

abbrev small_bytes : List ℕ
small_bytes =
    (1 ∷ 0 ∷ 2 ∷ 0 ∷ 0 ∷ 0 ∷ 1 ∷ 0 ∷ 0 ∷ 0 ∷ 0 ∷ 0 ∷ 2 ∷ 0 ∷ 0 ∷ 0 ∷ 0 ∷ 0 ∷ 0 ∷ 0 ∷ [])
    ++ (replicate 488 0
    ++ ((3 ∷ 0 ∷ 3 ∷ 0 ∷ [])
    ++ ((2 ∷ 0 ∷ 3 ∷ 0 ∷ 0 ∷ 0 ∷ 0 ∷ 0 ∷ 1 ∷ 0 ∷ 0 ∷ 0 ∷ 0 ∷ 0 ∷ 0 ∷ 0 ∷ 1 ∷ 0 ∷ 1 ∷ 0 ∷ 0 ∷ 0 ∷ 0 ∷ 0 ∷ 1 ∷ 0 ∷ 1 ∷ 0 ∷ [])
    ++ (replicate 480 0 ++ (5 ∷ 0 ∷ 5 ∷ 0 ∷ [])))))

pub small_file : bytes_of small ≡ small_bytes
unfolding sorted insert_all insert is_before field_bytes word_bytes field_at word_at record_bytes unit_head sum_of unit units_for units_from units_of bytes_of total flat_map
small_file = refl
