-- `frames::lookup::find` meets its contract: what was passed, with the first place in the rest, is the first place.
-- Assumes nothing.
use native.Mathlib.Omega.{arith}
use Rattle.frames.proofs.Lookups.{first_here, first_later, first_none, first_counts}
use Rattle.frames.proofs.lookup.find.Goals as goal

pub loop-i-init : goal.loop-i-init
loop-i-init c = (omega arith, omega arith)

pub returns-then-identifier-id : goal.returns-then-identifier-id
returns-then-identifier-id c = omega (arith, c.loop-i.invariant.1, first_here c.args.identifier c.args.ids.now c.loop-i.i c.loop-i-test.true c.if-identifier-id.true)

pub loop-i-preserved : goal.loop-i-preserved
loop-i-preserved c = (omega (arith, c.loop-i-test.true), first_counts c.args.identifier c.args.ids.now c.loop-i.i c.loop-i.invariant.1 (first_later c.args.identifier c.args.ids.now c.loop-i.i c.loop-i-test.true c.if-identifier-id.false))

pub returns : goal.returns
returns c = omega (arith, c.loop-i.invariant.0, c.loop-i.invariant.1, c.loop-i-test.false, first_none c.args.identifier c.args.ids.now c.loop-i.i (omega (arith, c.loop-i-test.false)))
