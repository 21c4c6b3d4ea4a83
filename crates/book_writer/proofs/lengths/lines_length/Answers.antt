-- `book_writer::lengths::lines_length` meets its contract: what is summed so far, and what is left, is all. Assumes nothing.
use native.Mathlib.Omega.{arith}
use mathlib.Core.Logic.{inl}
use lib.ListN.{drop_of_length-le}
use Rattle.line_writer.proofs.Left.{LengthSoFar, one_summed, all_summed}
use Rattle.book_writer.proofs.Pairs.{pairs_few, both_from, pairs_next, pairs_done}
use Rattle.book_writer.proofs.lengths.lines_length.Goals as goal

pub bounds-pairs-i : goal.bounds-pairs-i
bounds-pairs-i g c = omega (arith, c.loop-i-test.true, c.args.pairs.now.in_step)

pub loop-i-preserved : goal.loop-i-preserved
loop-i-preserved g c =
    one_summed _ _ (pairs_next (LengthSoFar _ _) g.L.PairLine.line (both_from _ _ _ c.args.pairs.now.in_step c.loop-i-test.true) c.loop-i.invariant) c.length-sum.ensures

pub overflow_add-sum : goal.overflow_add-sum
overflow_add-sum g c =
    let s = one_summed _ _ (pairs_next (LengthSoFar _ _) g.L.PairLine.line (both_from _ _ _ c.args.pairs.now.in_step c.loop-i-test.true) c.loop-i.invariant) c.length-sum.ensures in
    omega (arith, s.whole, c.requires, pairs_few g.L.PairLine.line g.met.L.PairLine.short c.args.pairs.now.firsts.now c.args.pairs.now.seconds.now)

pub returns : goal.returns
returns g c = all_summed (pairs_done (LengthSoFar _ _) g.L.PairLine.line (inl (drop_of_length-le _ c.loop-i-test.false)) c.loop-i.invariant)
