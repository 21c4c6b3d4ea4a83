-- `tables::judging::last_begin` meets its contract: the last of the messages is at their count less one. Assumes nothing.
use mathlib.Core.Path.{refl, ◌∙◌}
use Rattle.tables.proofs.judging.last_begin.Goals as goal

pub returns : goal.returns
returns c = c.begin.ensures ∙ rw c.ends.ensures.0 refl
