-- `columns::holds` meets its contract: that one of the entries is the number. Assumes nothing.
use mathlib.Core.Path.{◌∙◌}
use Rattle.columns.proofs.Searching.{any_is_in}
use Rattle.columns.proofs.holds.Goals as goal

pub returns : goal.returns
returns c = c.contains.ensures.value ∙ any_is_in c.args.number c.args.column.now
