-- `tester::following::pct_charge_step` meets its contract where the monitor refuses: the number lent stays. Assumes nothing.
use Rattle.tester.proofs.ChargeNumbers.{as_refused}
use Rattle.tester.proofs.following.pct_charge_step.Goals as goal

pub returns-in-Err : goal.returns-in-Err
returns-in-Err c = as_refused _ _ c.in-Ok.ensures c.observation_of.ensures c.in-Err.ensures c.from-in-Err.ensures
