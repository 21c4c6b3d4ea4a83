-- `power::rules::from_rising` meets its contract: from rising to precharge, or else to off. Assumes nothing.
use Rattle.power.specs.Rules.{step_else, rule3, rule4}
use Rattle.power.proofs.rules.from_rising.Goals as goal

pub returns-then-shows_picture-tested : goal.returns-then-shows_picture-tested
unfolding step_else rule3 rule4
returns-then-shows_picture-tested c = simp (← c.shows_picture.ensures, c.if-shows_picture-tested.true)

pub returns-then-shows_picture-tested-2 : goal.returns-then-shows_picture-tested-2
unfolding step_else rule3 rule4
returns-then-shows_picture-tested-2 c = simp (← c.shows_picture.ensures, c.if-shows_picture-tested.false, ← c.shows_picture-2.ensures, c.if-shows_picture-tested-2.true)

pub returns : goal.returns
unfolding step_else rule3 rule4
returns c = simp (← c.shows_picture.ensures, c.if-shows_picture-tested.false, ← c.shows_picture-2.ensures, c.if-shows_picture-tested-2.false)
