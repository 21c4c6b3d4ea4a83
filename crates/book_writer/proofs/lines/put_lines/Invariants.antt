-- `book_writer::lines::put_lines` meets its contract: writing the lines that are left gives the final list. Assumes nothing.
use lib.ListN.{drop}
use Rattle.line_writer.proofs.Left.{LinesLeft}
use Rattle.book_writer.specs.ShownLines.{pair_lines}
use Rattle.book_writer.proofs.lines.put_lines.Given as goal

abbrev pub invariant-loop-i : goal.invariant-loop-i
invariant-loop-i g l =
    LinesLeft l.initial.out l.at (pair_lines g.L.PairLine.line l.pairs.firsts.now l.pairs.seconds.now) l.out l.next
    (pair_lines g.L.PairLine.line (drop l.i l.pairs.firsts.now) (drop l.i l.pairs.seconds.now))
