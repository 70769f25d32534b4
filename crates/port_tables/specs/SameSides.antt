-- The derived test of two directions is the one of specs/Entries.antt.
use Rattle.std.specs.Prelude.{◌≡◌, refl, Bool}
use Rattle.std.proofs.Common.{◌∙◌}
use denote.Enum.Bare.{sameb}
use Rattle.port_tables.specs.Entries.{same_side}
use Rattle.port_tables.specs.declared.direction.Direction.{Direction}
use Rattle.port_tables.specs.declared.direction.Direction.TheVariants.{Incoming, Outgoing}
use Rattle.port_tables.specs.contracts.direction.Direction.{the_type}

equal_sides : (d e : Direction) → sameb the_type d e ≡ same_side d e
equal_sides Incoming Incoming = refl
equal_sides Incoming Outgoing = refl
equal_sides Outgoing Incoming = refl
equal_sides Outgoing Outgoing = refl

pub sides_compared : (d e : Direction) {r : Bool} → r ≡ sameb the_type d e → r ≡ same_side d e
sides_compared d e h = h ∙ equal_sides d e
