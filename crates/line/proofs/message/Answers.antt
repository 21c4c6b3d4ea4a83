-- `line::message` meets its contract: what stands after the kind is an identifier and a newline, or the line is ill formed. Assumes nothing.
use Rattle.line.proofs.Rooms.{message_ill, message_well}
use Rattle.line.proofs.message.Goals as goal

pub returns-in_err-id : goal.returns-in_err-id
returns-in_err-id c = rw c.from_residual.ensures (message_ill _ c.in_err-id.ensures)

pub returns : goal.returns
returns c = message_well _ c.in_ok-id.ensures
