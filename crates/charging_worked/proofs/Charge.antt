-- The worked charge, by the definition of a step: each state and refusal is the one that is written beside what is seen. Assumes nothing.
use mathlib.Core.Path.{◌≡◌, refl}
use mathlib.Core.List.{map}
use Rattle.rows.specs.Rows.{rows}
use Rattle.catalogue.specs.Find.{row_of}
use Rattle.catalogue.specs.Class.{between, class_of_spec}
use Rattle.charging.specs.Conditions.{conditions}
use Rattle.charging.specs.States.{charge_start}
use Rattle.charging.specs.Rules.{next_charge_spec}
use Rattle.charging.specs.Refusals.{counts_fit, charge_step_of}
use Rattle.charging_worked.specs.Charge.{WorkedStep, worked_charge, answers_from}

pub worked_charge_law : answers_from charge_start worked_charge ≡ map (λ (w : WorkedStep). (w.why, w.after)) worked_charge
unfolding worked_charge charge_step_of next_charge_spec counts_fit conditions class_of_spec between row_of rows
worked_charge_law = refl
