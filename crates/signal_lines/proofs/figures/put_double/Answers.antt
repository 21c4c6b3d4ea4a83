-- `signal_lines::figures::put_double` meets its contract. Assumes nothing.
use Rattle.signal_lines.proofs.Showing.{double_put}
use Rattle.signal_lines.proofs.figures.put_double.Goals as goal

pub returns : goal.returns
returns c = double_put _ c.bits_in_units-bits.ensures c.put_hexadecimals.ensures
