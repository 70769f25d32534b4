-- `files::load::build_over` meets its contract: the adds, then the links, each as far as the first that is refused.
use native.Mathlib.Omega.{arith}
use mathlib.Core.Path.{sym, subst}
use Prim.Native.Nat.{◌≤◌}
use Rattle.port_tables.specs.Limits.{node_slots}
use Rattle.multiportgraph.specs.WellFormed.{MultiWf}
use Rattle.theorems.proofs.CallLaws.{empty_kept}
use Rattle.files.specs.Layout.{unbytes}
use Rattle.files.specs.BuildSteps.{err_says, blocks_fit_table, stopped_wires, built_wires}
use Rattle.files.proofs.load.build_over.Goals as goal
use Rattle.files.proofs.load.build_over.Goals.{In_ok-add_blocks}

-- the blocks fit the table
few : (c : In_ok-add_blocks) → c.args.file.shape.blocks ≤ node_slots
few c =
    let h = blocks_fit_table c.args.release (unbytes c.args.file.bytes.now) c.requires c.in_ok-add_blocks.ensures in
    let m = c.args.file.laid.blocks_are.many in
    omega arith

pub add_blocks-requires : goal.add_blocks-requires
add_blocks-requires c = subst MultiWf (sym c.requires) (empty_kept _)

pub fill_firsts-requires : goal.fill_firsts-requires
fill_firsts-requires c = few (goal.at.fill_firsts-requires c).In_ok-add_blocks

pub invariant_of-ports : goal.invariant_of-ports
invariant_of-ports c = record { told = c.fill_firsts.ensures; few = few (goal.at.invariant_of-ports c).In_ok-add_blocks }

pub returns-in_err-link_wires : goal.returns-in_err-link_wires
returns-in_err-link_wires c = err_says _ _ _ c.from_residual-in_err-link_wires.ensures.1 (stopped_wires c.args.release (unbytes c.args.file.bytes.now) c.requires c.in_ok-add_blocks.ensures c.in_err-link_wires.ensures)

pub returns : goal.returns
returns c = built_wires c.args.release (unbytes c.args.file.bytes.now) c.requires c.in_ok-add_blocks.ensures c.in_ok-link_wires.ensures
