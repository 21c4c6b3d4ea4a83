-- `ChargeState::try_from` meets its contract: a number over fault's is no state's, any other that of its step or of fault. Assumes nothing.
use native.Mathlib.Omega.{arith}
use borrow.Author.Tests.{le-leb, lt-leb}
use Rattle.charging.specs.States.{charge_numbered}
use Rattle.charging.proofs.ChargeStateTryFromU32.try_from.Goals as goal

pub returns-then-n-gt-FAULT_NUMBER : goal.returns-then-n-gt-FAULT_NUMBER
unfolding charge_numbered
returns-then-n-gt-FAULT_NUMBER c = simp (lt-leb c.args.n 7 (omega (arith, c.if-n-gt-FAULT_NUMBER.true)))

pub returns : goal.returns
unfolding charge_numbered
returns c = simp (le-leb c.args.n 7 c.if-n-gt-FAULT_NUMBER.false, c.step_with.ensures)
