-- `power::rules::from_fault` meets its contract. Assumes nothing.
use Rattle.power.proofs.rules.from_fault.Goals as goal

pub returns-then-all_open-left : goal.returns-then-all_open-left
returns-then-all_open-left c = simp (← c.all_open.ensures, c.if-all_open-left.true)

pub returns : goal.returns
returns c = simp (← c.all_open.ensures, c.if-all_open-left.false)
