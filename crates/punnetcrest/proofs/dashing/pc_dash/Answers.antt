-- `punnetcrest::dashing::pc_dash` meets its contract: in each arm the answer is the one that the arm names. Assumes nothing.
use mathlib.Core.Path.{◌∙◌}
use Rattle.punnetcrest.proofs.DashNumbers.{in_numbers, shown_in_numbers}
use Rattle.punnetcrest.proofs.dashing.pc_dash.Goals as goal

pub returns-in-Ok : goal.returns-in-Ok
returns-in-Ok c = shown_in_numbers _ _ _ _ c.show-answer.ensures c.in-Ok.is c.code_of.ensures c.reading_of.ensures

pub returns-in-Err : goal.returns-in-Err
returns-in-Err c = (λ i. (c.from.ensures i, (c.args.class_code.now, c.args.reading.now))) ∙ in_numbers _ _ _ _ c.show-answer.ensures c.in-Err.is
