-- `power::rules::from_off` meets its contract: the only step from off is the one to rising. Assumes nothing.
use Rattle.power.specs.Rules.{step_else, rule3, rule4}
use Rattle.power.proofs.rules.from_off.Goals as goal

pub returns-then-shows_picture-tested : goal.returns-then-shows_picture-tested
unfolding step_else rule3 rule4
returns-then-shows_picture-tested c = simp (← c.shows_picture.ensures, c.if-shows_picture-tested.true)

pub returns : goal.returns
unfolding step_else rule3 rule4
returns c = simp (← c.shows_picture.ensures, c.if-shows_picture-tested.false)
