-- `multiportgraph::MultiPortGraph::copies_dropped` meets its contract: the incoming side's hidden nodes, then the outgoing side's.
use mathlib.Core.Path.{ap, ◌∙◌}
use Prim.Native.Nat.{ℕ, ◌+◌, ◌-◌, ◌≤◌}
use native.Mathlib.Omega.{arith}
use lib.ListN.{length}
use Rattle.std.proofs.Math.Seq.{length-sets}
use Rattle.multiportgraph.specs.HiddenNodes.{copies_in}
use Rattle.multiportgraph.specs.BlockSteps.{dropped_listed}
use Rattle.multiportgraph.specs.ListSteps.{part_laid}
use Rattle.multiportgraph.proofs.multiportgraph.MultiPortGraph.copies_dropped.Goals as goal
use Rattle.multiportgraph.proofs.multiportgraph.MultiPortGraph.copies_dropped.Goals.{After-copies_in-middle}

-- the second side fits behind the first
room : (c : After-copies_in-middle) → c.copies_in-middle.result + (c.outgoing-old_out.result - c.kept_outgoing-kept_out.result) ≤ length c.copies_in-middle.new.list
room c =
    let size = ap length c.copies_in-middle.ensures.1 ∙ length-sets c.args.list.now 0 (copies_in c.args.self.now (c.first-first.result + c.kept_incoming-kept_in.result) (c.incoming-old_in.result - c.kept_incoming-kept_in.result)) in
    omega (arith, c.incoming-old_in.ensures, c.outgoing-old_out.ensures, c.copies_in-middle.ensures.2, size, c.requires.1, c.requires.0.small, c.requires.0.ports)

pub returns : goal.returns
returns c =
    let fits = room (goal.at.returns c).After-copies_in-middle in
    let part = copies_in c.args.self.now (c.first-first.result + c.incoming-old_in.result + c.kept_outgoing-kept_out.result) (c.outgoing-old_out.result - c.kept_outgoing-kept_out.result) in
    dropped_listed c.args.self.now c.args.resize.meta c.args.resize.incoming c.args.resize.outgoing c.first-first.result c.incoming-old_in.result c.outgoing-old_out.result
    c.kept_incoming-kept_in.result c.kept_outgoing-kept_out.result c.copies_in-middle.result _ c.args.list.now _ _
    c.first-first.ensures c.incoming-old_in.ensures c.outgoing-old_out.ensures
    c.kept_incoming-kept_in.ensures c.kept_outgoing-kept_out.ensures
    (omega (arith, c.copies_in-middle.ensures.0)) c.copies_in-middle.ensures.1
    (ap (λ (k : ℕ). c.copies_in-middle.result + k) c.copies_in.ensures.0)
    (part_laid c.copies_in-middle.new.list part c.copies_in.new.list c.copies_in-middle.result (let n = c.copies_in.ensures.2 in let e = c.copies_in.ensures.0 in omega (arith, fits, n, e)) c.copies_in.ensures.1)
