-- `reach::fill` meets its contract: the masks of the first i routes say what each leads on to. Assumes nothing.
use Prim.Native.Nat.{◌*◌, ◌<◌}
use native.Mathlib.Omega.{arith}
use lib.ListN.{length}
use Rattle.masks.specs.Bit.{width}
use Rattle.reach.proofs.Leading.{real_start, tells_one, leading_start, leading_more, leading_end}
use Rattle.reach.proofs.fill.Goals as goal

pub settle-requires : goal.settle-requires
settle-requires c = real_start _ _ (2 * width)

pub loop-i-init : goal.loop-i-init
loop-i-init c = leading_start _ _ _

pub bounds-masks-end : goal.bounds-masks-end
bounds-masks-end c = omega (arith, c.from-end.ensures, c.args.table.now.numbers.to.low c.loop-i.i c.loop-i-test.true)

pub overflow_cast-end : goal.overflow_cast-end
overflow_cast-end c = omega (arith, c.from-end.ensures, c.args.table.now.numbers.to.low c.loop-i.i c.loop-i-test.true)

pub with-requires : goal.with-requires
with-requires c = omega (arith, c.from-end.ensures, c.args.table.now.numbers.to.low c.loop-i.i c.loop-i-test.true)

pub loop-i-preserved : goal.loop-i-preserved
loop-i-preserved c =
    let on : c.loop-i.i < length c.args.table.now.starts.now = omega (arith, c.loop-i-test.true, c.args.table.now.numbers.same) in
    let low : c.loop-i.i < length c.loop-i.onward = omega (arith, on, c.requires, c.loop-i.invariant.long) in
    leading_more _ _ _ _ _ c.loop-i.invariant on low _ (tells_one _ _ _ c.settle.ensures _ _ _ c.from-end.ensures c.with.ensures)

pub returns : goal.returns
returns c = leading_end _ _ _ _ _ c.loop-i.invariant (omega (arith, c.loop-i-test.false, c.args.table.now.numbers.same))
