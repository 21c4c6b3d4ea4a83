-- `power::rules::from_precharge` meets its contract: from precharge to both, or else to falling. Assumes nothing.
use Rattle.power.specs.Rules.{step_else, rule3, rule4}
use Rattle.power.proofs.rules.from_precharge.Goals as goal

pub returns-then-shows_picture-tested : goal.returns-then-shows_picture-tested
unfolding step_else rule3 rule4
returns-then-shows_picture-tested c = simp (← c.shows_picture.ensures, ← c.precharge_complete-complete.ensures, c.if-shows_picture-tested.true)

pub returns-then-shows_picture-down : goal.returns-then-shows_picture-down
unfolding step_else rule3 rule4
returns-then-shows_picture-down c = simp (← c.shows_picture.ensures, ← c.precharge_complete-complete.ensures, c.if-shows_picture-tested.false, ← c.shows_picture-2.ensures, ← c.is_urgent.ensures, c.if-shows_picture-down.true)

pub returns : goal.returns
unfolding step_else rule3 rule4
returns c = simp (← c.shows_picture.ensures, ← c.precharge_complete-complete.ensures, c.if-shows_picture-tested.false, ← c.shows_picture-2.ensures, ← c.is_urgent.ensures, c.if-shows_picture-down.false)
