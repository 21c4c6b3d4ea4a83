-- `power::rules::by_rules` meets its contract: at each `return` the tests that led there say which rule holds. Assumes nothing.
use Rattle.power.proofs.rules.by_rules.Goals as goal

pub returns-then-shows_picture : goal.returns-then-shows_picture
returns-then-shows_picture c = simp (← c.shows_picture.ensures, c.if-shows_picture.true)

pub returns-then-urgent-all_open : goal.returns-then-urgent-all_open
returns-then-urgent-all_open c = simp (← c.shows_picture.ensures, c.if-shows_picture.false, ← c.is_urgent-urgent.ensures, ← c.all_open.ensures, c.if-urgent-all_open.true)

pub returns : goal.returns
returns c = simp (← c.shows_picture.ensures, c.if-shows_picture.false, ← c.is_urgent-urgent.ensures, ← c.all_open.ensures, c.if-urgent-all_open.false)
