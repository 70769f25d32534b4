-- `files::build::add_blocks` meets its contract. Invariant: the adds that are left amount to all.
use mathlib.Core.List.{map}
use lib.ListN.{drop}
use Rattle.files.specs.Layout.{unbytes}
use Rattle.files.specs.Loading.{add_of}
use Rattle.files.specs.BuildSteps.{Building}
use Rattle.files.proofs.build.add_blocks.Given as goal

abbrev pub invariant-loop-i : goal.invariant-loop-i
invariant-loop-i l = Building l.initial.graph (map add_of (unbytes l.file.bytes.now).blocks) l.graph (map add_of (drop l.i (unbytes l.file.bytes.now).blocks))
