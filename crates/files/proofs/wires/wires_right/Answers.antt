-- `files::wires::wires_right` meets its contract. Invariant: the wires from one on amount to all.
use native.Mathlib.Omega.{arith}
use Rattle.files.specs.WireSteps.{wires_begin, order_wrong, wire_wrong, wire_next, wires_end}
use Rattle.files.proofs.wires.wires_right.Goals as goal

pub loop-i-init : goal.loop-i-init
loop-i-init c = wires_begin c.args.file.now _ c.args.shape.wires (λ k. omega (arith, c.shared_slice_known-1.given k)) c.requires.1

pub returns-then-number-before : goal.returns-then-number-before
returns-then-number-before c =
    order_wrong c.requires.1 c.loop-i.invariant c.loop-i-test.true c.units_for-unit.ensures c.place.ensures c.record_at-wire.ensures c.number-number.ensures c.if-number-before.true

pub returns-then-not-wire_fits : goal.returns-then-not-wire_fits
returns-then-not-wire_fits c =
    wire_wrong c.requires.1 c.loop-i.invariant c.loop-i-test.true c.units_for-unit.ensures c.place.ensures c.record_at-wire.ensures c.number-number.ensures c.if-number-before.false c.wire_fits.ensures c.if-not-wire_fits.true

pub loop-i-preserved : goal.loop-i-preserved
loop-i-preserved c =
    wire_next c.requires.1 c.loop-i.invariant c.loop-i-test.true c.units_for-unit.ensures c.place.ensures c.record_at-wire.ensures c.number-number.ensures c.if-number-before.false c.wire_fits.ensures c.if-not-wire_fits.false

pub returns : goal.returns
returns c = wires_end c.requires.1 c.loop-i.invariant c.loop-i-test.false
