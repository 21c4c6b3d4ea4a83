-- `reach::pass` meets its contract: the routes of the turns passed have handed on. Assumes nothing.
use native.Mathlib.Omega.{arith}
use lib.ListN.{length}
use Rattle.reach.proofs.Handed.{handing_none, handing_both}
use Rattle.reach.proofs.Passing.{turned_none, turned_more, turned_all, handing_for}
use Rattle.reach.proofs.pass.Goals as goal

pub loop-t-init : goal.loop-t-init
loop-t-init c =
    let at-args = c.args in
    (omega arith, handing_none _ _ _ _ (turned_none (length at-args.table.now.starts.now) at-args.down))

pub loop-t-preserved : goal.loop-t-preserved
loop-t-preserved c =
    let at-hand = c.hand-new in
    let at-nth = c.nth in
    let at-loop-test = c.loop-t-test in
    let at-loop = c.loop-t in
    let at-args = c.args in
    let more = turned_more (length at-args.table.now.starts.now) at-args.down _ _ at-nth.ensures.0 in
    (omega (arith, at-loop-test.true), handing_both _ _ _ _ _ _ _ _ _ at-loop.invariant.1 at-hand.ensures _ more)

pub returns : goal.returns
returns c =
    let at-loop = c.loop-t in
    let at-args = c.args in
    let all = turned_all (length at-args.table.now.starts.now) at-args.down _ c.loop-t-test.false in
    handing_for _ _ _ _ _ _ _ at-loop.invariant.1 all
