-- `charging::step` meets its contract: the test that led to each `return` says whether it is refused. Assumes nothing.
use Rattle.charging.specs.Refusals.{charge_step_of}
use Rattle.charging.proofs.step.Goals as goal

pub returns-then-not-all_fit : goal.returns-then-not-all_fit
unfolding charge_step_of
returns-then-not-all_fit c = simp (← c.all_fit.ensures, c.if-not-all_fit.true)

pub returns : goal.returns
unfolding charge_step_of
returns c = simp (← c.all_fit.ensures, c.if-not-all_fit.false, c.next_charge.ensures)
