-- `answer_line::print` meets its contract: the answer says which line it is. Assumes nothing.
use Rattle.answer_line.proofs.Pieces.{no_room, with_room}
use Rattle.answer_line.proofs.print.Goals as goal

pub returns-then-out-lt-LINE_ROOM : goal.returns-then-out-lt-LINE_ROOM
returns-then-out-lt-LINE_ROOM c = no_room _ _ c.if-out-lt-LINE_ROOM.true

pub returns-in-Ok : goal.returns-in-Ok
returns-in-Ok c = rw c.in-Ok.is (with_room _ c.if-out-lt-LINE_ROOM.false c.put_taken.ensures)

pub returns-in-Err : goal.returns-in-Err
returns-in-Err c = rw c.in-Err.is (with_room _ c.if-out-lt-LINE_ROOM.false c.put_refused.ensures)
