-- `multiportgraph::MultiPortGraph::copies_in` meets its contract. Invariant: listing what is left amounts to listing all from the start.
use Rattle.std.specs.Prelude.{Bool, true, false, get_or}
use mathlib.Core.List.{List}
use mathlib.Core.Path.{◌≡◌, sym, ◌∙◌}
use Prim.Native.Nat.{ℕ, ◌+◌, ◌-◌, ◌<◌}
use native.Mathlib.Omega.{arith}
use borrow.Author.Rules.{rules}
use lib.ListN.{length, take, drop}
use Rattle.std.proofs.lemmas.List.{get_or-take, get_or-drop, length-take, length-drop}
use Rattle.port_tables.specs.Limits.{port_slots}
use Rattle.multiportgraph.specs.Reading.{is_split}
use Rattle.multiportgraph.specs.BlockSteps.{copies_turn_split, copies_turn_plain, copies_few, copies_listed}
use Rattle.multiportgraph.specs.declared.multiportgraph.MultiPortGraph.{MultiPortGraph}
use Rattle.multiportgraph.proofs.multiportgraph.MultiPortGraph.copies_in.Goals as goal
use Rattle.multiportgraph.proofs.multiportgraph.MultiPortGraph.copies_in.Goals.{Start, else-split, then-split}

-- the marks of the ports gone through
abbrev part : MultiPortGraph → ℕ → ℕ → List Bool
part m first count = take (first + count - first) (drop first m.multiport)

counted : (c : Start) → length (part c.args.self.now c.args.first c.args.count) ≡ c.args.count
counted c =
    let long : length c.args.self.now.multiport ≡ port_slots = search rules in
    let a = length-take (c.args.first + c.args.count - c.args.first) (drop c.args.first c.args.self.now.multiport) in
    let b = length-drop c.args.first c.args.self.now.multiport in
    omega (arith, c.requires.0)

mark_is : (m : MultiPortGraph) (first count k : ℕ) (b : Bool) → k < count → get_or (part m first count) k false ≡ b → is_split m (first + k) ≡ b
unfolding is_split
mark_is m first count k b h e = sym (get_or-take (first + count - first) (drop first m.multiport) k false (omega arith) ∙ get_or-drop first m.multiport k false) ∙ e

pub loop-k-preserved : goal.loop-k-preserved
loop-k-preserved c =
    let size = counted (goal.at.loop-k-preserved c).Start in
    let more : c.loop-k.k < c.args.count = omega (arith, size, c.loop-k-test.true) in
    elim c.if-split.branch [
      | then-split w ↦ copies_turn_split c.loop-k.invariant more (mark_is c.args.self.now c.args.first c.args.count c.loop-k.k true more w.if-split.true) w.copy_node_of.ensures w.list-is w.place-is
      | else-split w ↦ copies_turn_plain c.loop-k.invariant more (mark_is c.args.self.now c.args.first c.args.count c.loop-k.k false more w.if-split.false) w.list-is w.place-is
    ]

pub returns : goal.returns
returns c =
    let size = counted (goal.at.returns c).Start in
    let all = copies_listed c.loop-k.invariant (omega (arith, size, c.loop-k-test.false)) in
    (all.0, all.1, let most = copies_few c.args.self.now c.args.first c.args.count in omega (arith, all.0))
