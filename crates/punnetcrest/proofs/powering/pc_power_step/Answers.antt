-- `punnetcrest::powering::pc_power_step` meets its contract: no share given is the call with 90 named. Assumes nothing.
use mathlib.Core.Path.{sym, ◌∙◌}
use Rattle.punnetcrest.proofs.PowerShares.{none_given}
use Rattle.punnetcrest.proofs.powering.pc_power_step.Goals as goal

pub returns : goal.returns
returns c = rw c.hundredths.ensures at c.pc_power_step_by.ensures ∙ sym (none_given _ _)
