-- `files::build::link_wires` meets its contract. Invariant: the links that are left amount to all.
use mathlib.Core.List.{map}
use lib.ListN.{drop}
use Rattle.files.specs.Layout.{unbytes}
use Rattle.files.specs.Loading.{link_of}
use Rattle.files.specs.BuildSteps.{Building}
use Rattle.files.proofs.build.link_wires.Given as goal

abbrev pub invariant-loop-i : goal.invariant-loop-i
invariant-loop-i l = Building l.initial.graph (map (link_of (unbytes l.ports.file.bytes.now).blocks) (unbytes l.ports.file.bytes.now).wires) l.graph (map (link_of (unbytes l.ports.file.bytes.now).blocks) (drop l.i (unbytes l.ports.file.bytes.now).wires))
