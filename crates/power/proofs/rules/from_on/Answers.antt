-- `power::rules::from_on` meets its contract: the only step from on is the one to falling. Assumes nothing.
use Rattle.power.specs.Rules.{step_else, rule3, rule4}
use Rattle.power.proofs.rules.from_on.Goals as goal

pub returns-then-shows_picture-down : goal.returns-then-shows_picture-down
unfolding step_else rule3 rule4
returns-then-shows_picture-down c = simp (← c.shows_picture.ensures, ← c.is_urgent.ensures, ← c.is_under_10_amps-calm.ensures, c.if-shows_picture-down.true)

pub returns : goal.returns
unfolding step_else rule3 rule4
returns c = simp (← c.shows_picture.ensures, ← c.is_urgent.ensures, ← c.is_under_10_amps-calm.ensures, c.if-shows_picture-down.false)
