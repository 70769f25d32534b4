-- What every history under release 2 keeps: the release, and hidden nodes on outputs alone.
use Rattle.std.specs.Prelude.{◌≡◌, refl, false, List, [], ◌∷◌, ℕ}
use Rattle.std.proofs.Common.{◌∙◌}
use Rattle.port_tables.specs.Lists.{Member}
use Rattle.port_tables.specs.declared.direction.Direction.TheVariants.{Incoming}
use Rattle.multiportgraph.specs.Reading.{is_split, seen}
use Rattle.multi_tables.specs.Forms.{visible}
use Rattle.multiportgraph.specs.Graph.{empty_graph}
use Rattle.multiportgraph.specs.WellFormed.{MultiWf}
use Rattle.multiportgraph.specs.HiddenStays.{true_not_false}
use Rattle.multiportgraph.specs.LinkCutLaws.{none_hidden}
use Rattle.port_tables.specs.Places.{Wire}
use Rattle.port_tables.specs.declared.release.Release.TheVariants.{Two}
use Rattle.theorems.specs.Book.{Call}
use Rattle.theorems.specs.History.{State, next, run, run_from, run_from_under, run_under}
use Rattle.theorems.proofs.CallLaws.{empty_kept, rel_run, run_kept, step_kept}
use Rattle.theorems.specs.ReleaseClaims.{start}
use Rattle.theorems.proofs.ReleaseRuns.{step_keeps}
use Rattle.theorems.specs.ReleaseHidden.{OnOutputs}
use Rattle.theorems.specs.ReleaseInputs.{input_whole, one_wire, step_on}

from_on : (s : State) → MultiWf s.graph → s.graph.release ≡ Two → OnOutputs s.graph → (l : List Call) → OnOutputs (run_from s l).graph
unfolding run_from_under
from_on s w two on [] = on
from_on s w two on (c ∷ l) = from_on (next s c) (step_kept s.graph c w) (step_keeps s.graph c ∙ two) (step_on w.fine on two c) l

run_on : (calls : List Call) → OnOutputs (run Two calls).graph
unfolding run_under empty_graph
run_on calls = from_on (start Two) (empty_kept Two) refl (λ c h. absurd (true_not_false h (none_hidden Two c))) calls

pub two_never_splits_an_input : (calls : List Call) (p n : ℕ) → seen (run Two calls).graph p ≡ visible n Incoming → is_split (run Two calls).graph p ≡ false
two_never_splits_an_input calls = input_whole (run_kept Two calls).fine (run_on calls)

pub two_wires_an_input_once : (calls : List Call) (w v : Wire) → Member w (run Two calls).book.wires → Member v (run Two calls).book.wires →
    w.into.node ≡ v.into.node → w.into.pos ≡ v.into.pos → w ≡ v
two_wires_an_input_once calls w v i j =
    let r = rel_run Two calls in
    one_wire r.1.fine (run_on calls) w v (r.1.wires.booked w i) (r.1.wires.booked v j)
