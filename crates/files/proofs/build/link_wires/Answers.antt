-- `files::build::link_wires` meets its contract. Invariant: the links that are left amount to all.
use Rattle.files.specs.BuildSteps.{err_says, build_ends, build_stops, build_turns, links_on, links_none, link_stepped, link_stops}
use mathlib.Core.Path.{refl}
use Rattle.files.proofs.build.link_wires.Goals as goal

pub returns : goal.returns
returns c = build_ends c.loop-i.invariant (links_none c.args.ports.file.laid.wires_are c.loop-i-test.false)

pub returns-in_err-link_lent : goal.returns-in_err-link_lent
returns-in_err-link_lent c =
    err_says _ _ _ c.from_residual.ensures.1
    (build_stops c.loop-i.invariant (links_on c.args.ports.file.laid.wires_are c.loop-i-test.true refl)
    (link_stops _ _ _ c.ends.ensures.0 c.ends.ensures.1 c.link_lent.ensures.1 c.in_err-link_lent.was refl))

pub loop-i-preserved : goal.loop-i-preserved
loop-i-preserved c =
    build_turns c.loop-i.invariant (links_on c.args.ports.file.laid.wires_are c.loop-i-test.true refl)
    (link_stepped _ _ _ c.ends.ensures.0 c.ends.ensures.1 c.link_lent.ensures.1 c.loop-i.invariant.kept c.link_lent.ensures.0 c.in_ok-link_lent.was)
