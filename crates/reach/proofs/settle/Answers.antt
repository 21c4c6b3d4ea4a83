-- `reach::settle` meets its contract: each pass but the last makes the masks grow, and they cannot grow for ever. Assumes nothing.
use native.Mathlib.Omega.{arith}
use Rattle.reach.proofs.Passing.{settling_start, settling_more, settling_less, settling_end}
use Rattle.reach.proofs.settle.Goals as goal

pub loop-new-init : goal.loop-new-init
loop-new-init c = settling_start _ _ _ (omega arith) c.requires

pub loop-new-smaller : goal.loop-new-smaller
loop-new-smaller c =
    let at-pass = c.pass-new in
    let at-loop-test = c.loop-new-test in
    let at-loop = c.loop-new in
    settling_less _ _ _ _ _ _ at-loop.invariant at-pass.ensures at-loop-test.true c.args.table.now.numbers

pub loop-new-preserved : goal.loop-new-preserved
loop-new-preserved c = settling_more _ _ _ _ _ _ c.loop-new.invariant c.pass-new.ensures

pub returns : goal.returns
returns c = settling_end _ _ _ _ c.loop-new.invariant c.loop-new-test.false
