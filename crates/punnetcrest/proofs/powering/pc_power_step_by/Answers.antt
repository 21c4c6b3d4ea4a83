-- `punnetcrest::powering::pc_power_step_by` meets its contract where the monitor refuses: the number lent stays. Assumes nothing.
use Rattle.punnetcrest.proofs.PowerNumbers.{as_refused}
use Rattle.punnetcrest.proofs.powering.pc_power_step_by.Goals as goal

pub returns-in-Err : goal.returns-in-Err
returns-in-Err c = as_refused _ _ _ c.in-Ok.ensures c.observation_of.ensures c.in-Err.ensures c.from-in-Err.ensures
