-- `timing::path::path_back` meets its contract. Invariant: the path back from here on is the whole.
use Prim.Native.Nat.{◌-◌, ◌≤◌}
use lib.ListN.{drop}
use mathlib.Core.List.{[]}
use mathlib.Core.Path.{◌≡◌}
use Rattle.port_tables.specs.Limits.{node_slots}
use Rattle.timing.specs.Settling.{path_back}
use Rattle.timing.proofs.path.path_back.Given as goal

abbrev pub invariant-loop-k : goal.invariant-loop-k
invariant-loop-k l = (1 ≤ l.k) × (path_back l.origin (l.k - 1) l.n (drop l.k l.back) ≡ path_back l.origin (node_slots - 1) l.block [])
