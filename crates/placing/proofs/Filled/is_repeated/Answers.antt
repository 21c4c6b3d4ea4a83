-- `placing::Filled::is_repeated` meets its contract: a number whose mark is not set stands nowhere among them. Assumes nothing.
use mathlib.Core.Path.{sym, ◌∙◌}
use Rattle.placing.proofs.Marks.{unmarked}
use Rattle.placing.proofs.Filled.is_repeated.Goals as goal

pub returns-else-has : goal.returns-else-has
returns-else-has c = c.if-has.false ∙ sym (unmarked _ _ _ c.requires (sym c.has.ensures ∙ c.if-has.false))
