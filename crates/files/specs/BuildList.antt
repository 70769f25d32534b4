-- The adds and links that build the wiring of a file, as numbers: two for each block, then two for each wire, in file order.
use mathlib.Core.List.{List, [], ◌∷◌, ◌++◌, flat_map}
use Rattle.std.specs.Prelude.{ℕ, length, Result, Ok, Err}
use Rattle.std.specs.Result.{result_and}
use Rattle.multiportgraph.specs.Listed.{list_after}
use Rattle.port_tables.specs.declared.release.Release.{Release}
use Rattle.files.specs.View.{BlockPorts, RankWire, View}
use Rattle.files.specs.Layout.{unbytes}
use Rattle.files.specs.Loading.{out_port, in_port, load_answer}
use Rattle.files.specs.declared.load.LoadError.{LoadError}
use Rattle.files.specs.declared.check.Shape.{Shape}

-- what an add is asked with: incoming and outgoing
abbrev pub add_pair : BlockPorts → List ℕ
add_pair b = b.incoming ∷ b.outgoing ∷ []

-- what a link is asked with: the output and the input
abbrev pub link_pair : List BlockPorts → RankWire → List ℕ
link_pair blocks w = out_port blocks w ∷ in_port blocks w ∷ []

unfoldable pub build_numbers : View → List ℕ
build_numbers v = flat_map add_pair v.blocks ++ flat_map (link_pair v.blocks) v.wires

-- of an accepted load the one, of a refused one the other
abbrev pub if_loaded : {A : Type 0} → Result (Unit {0}) LoadError → A → A → A
if_loaded (Ok _) x y = x
if_loaded (Err _) x y = y

-- how many blocks and wires were built, or why the load for a release is refused
unfoldable pub list_build : Release → List ℕ → Result Shape LoadError
list_build release bytes = result_and (load_answer release bytes) (Ok (record { blocks = length (unbytes bytes).blocks; wires = length (unbytes bytes).wires }))

-- the lent list afterwards: the numbers, and past them what it held; as it was if the load is refused or it is too short
unfoldable pub build_after : Release → List ℕ → List ℕ → List ℕ
build_after release bytes numbers = if_loaded (load_answer release bytes) (list_after (build_numbers (unbytes bytes)) numbers) numbers
