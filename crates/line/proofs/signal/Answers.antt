-- `line::signal` meets its contract: each number that is found is written there, and where one is not the line is ill formed. Assumes nothing.
use Rattle.line.proofs.Rooms.{signal_ill, start_ill, signal_well}
use Rattle.line.proofs.signal.Goals as goal

pub returns-in_err-number : goal.returns-in_err-number
returns-in_err-number c = rw c.from_residual.ensures (signal_ill _ c.in_err-number.ensures)

pub returns-in_err-start : goal.returns-in_err-start
returns-in_err-start c = rw c.from_residual-in_err-start.ensures (start_ill _ c.in_ok-number.ensures c.in_err-start.ensures)

pub returns : goal.returns
returns c = signal_well _ c.in_ok-number.ensures c.in_ok-start.ensures
