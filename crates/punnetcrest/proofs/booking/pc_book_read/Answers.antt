-- `punnetcrest::booking::pc_book_read` meets its contract: the reader leaves the book, and its answer tells the number and the line. Assumes nothing.
use Rattle.punnetcrest.proofs.BookNumbers.{as_read}
use Rattle.punnetcrest.proofs.booking.pc_book_read.Goals as goal

pub returns-in-Ok : goal.returns-in-Ok
returns-in-Ok c = as_read c.read-answer.ensures c.in-Ok.is

pub returns-in-Err : goal.returns-in-Err
returns-in-Err c = rw c.from.ensures (as_read c.read-answer.ensures c.in-Err.is)
