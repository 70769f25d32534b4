-- What a number of a line names.
use Rattle.std.specs.Prelude.{ℕ, cond, eqb}
use Rattle.port_tables.specs.declared.direction.Direction.TheVariants as side
use Rattle.port_tables.specs.declared.release.Release.{Release}
use Rattle.port_tables.specs.declared.release.Release.TheVariants as release
use Rattle.port_tables.specs.declared.sides.Sides.{Sides}
use Rattle.port_tables.specs.declared.sides.Sides.TheVariants as sides

-- 1 names the first release, every other number the second
abbrev pub release_of : ℕ → Release
release_of n = cond (eqb n 1) release.One release.Two

-- 0 the incoming side, 1 the outgoing one, every other number both
abbrev pub sides_of : ℕ → Sides
sides_of n = cond (eqb n 0) (sides.One side.Incoming) (cond (eqb n 1) (sides.One side.Outgoing) sides.Both)
