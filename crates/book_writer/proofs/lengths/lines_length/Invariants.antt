-- `book_writer::lengths::lines_length` meets its contract: what is summed so far, and what is left, is all. Assumes nothing.
use lib.ListN.{drop}
use Rattle.line_writer.proofs.Left.{LengthSoFar}
use Rattle.book_writer.specs.ShownLines.{pair_lines}
use Rattle.book_writer.proofs.lengths.lines_length.Given as goal

abbrev pub invariant-loop-i : goal.invariant-loop-i
invariant-loop-i g l =
    LengthSoFar (pair_lines g.L.PairLine.line l.pairs.firsts.now l.pairs.seconds.now) l.sum (pair_lines g.L.PairLine.line (drop l.i l.pairs.firsts.now) (drop l.i l.pairs.seconds.now))
