-- `book_writer::lines::put_lines` meets its contract: writing the lines that are left gives the final list. Assumes nothing.
use mathlib.Core.List.{[], ◌∷◌}
use mathlib.Core.Logic.{inl}
use native.Mathlib.Omega.{arith}
use lib.ListN.{drop_of_length-le}
use Rattle.line_writer.proofs.Left.{LinesLeft, first_fit, lines_put, none_left}
use Rattle.book_writer.proofs.Pairs.{both_from, pairs_next, pairs_done}
use Rattle.book_writer.proofs.lines.put_lines.Goals as goal

pub bounds-pairs-i : goal.bounds-pairs-i
bounds-pairs-i g c = omega (arith, c.loop-i-test.true, c.args.pairs.now.in_step)

pub put-next-requires : goal.put-next-requires
put-next-requires g c =
    first_fit (_ ∷ []) _ (pairs_next (LinesLeft _ _ _ _ _) g.L.PairLine.line (both_from _ _ _ c.args.pairs.now.in_step c.loop-i-test.true) c.loop-i.invariant)

pub loop-i-preserved : goal.loop-i-preserved
loop-i-preserved g c =
    lines_put (_ ∷ []) _ (pairs_next (LinesLeft _ _ _ _ _) g.L.PairLine.line (both_from _ _ _ c.args.pairs.now.in_step c.loop-i-test.true) c.loop-i.invariant) c.put-next.ensures

pub returns : goal.returns
returns g c = none_left (pairs_done (LinesLeft _ _ _ _ _) g.L.PairLine.line (inl (drop_of_length-le _ c.loop-i-test.false)) c.loop-i.invariant)
