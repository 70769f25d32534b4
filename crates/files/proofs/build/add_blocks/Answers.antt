-- `files::build::add_blocks` meets its contract. Invariant: the adds that are left amount to all.
use Rattle.files.specs.BuildSteps.{err_says, build_ends, build_stops, build_turns, adds_on, adds_none}
use Rattle.files.proofs.build.add_blocks.Goals as goal

pub returns : goal.returns
returns c = build_ends c.loop-i.invariant (adds_none c.args.file.laid.blocks_are c.loop-i-test.false)

pub returns-in_err-add_block : goal.returns-in_err-add_block
returns-in_err-add_block c = err_says _ _ _ c.from_residual.ensures.1 (build_stops c.loop-i.invariant (adds_on c.args.file.laid.blocks_are c.loop-i-test.true c.block.ensures) c.in_err-add_block.ensures)

pub loop-i-preserved : goal.loop-i-preserved
loop-i-preserved c = build_turns c.loop-i.invariant (adds_on c.args.file.laid.blocks_are c.loop-i-test.true c.block.ensures) c.in_ok-add_block.ensures
