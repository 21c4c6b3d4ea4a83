-- `punnetcrest::book_text::pc_book_write` meets its contract: in each arm the answer is the one that the arm names. Assumes nothing.
use Rattle.punnetcrest.proofs.WriteNumbers.{as_wrote, as_refused}
use Rattle.punnetcrest.proofs.book_text.pc_book_write.Goals as goal

pub returns-in-Ok : goal.returns-in-Ok
returns-in-Ok c = as_wrote _ _ _ c.write.ensures c.in-Ok.is

pub returns-in-Err : goal.returns-in-Err
returns-in-Err c = as_refused _ _ _ c.write.ensures c.in-Err.is c.from.ensures
