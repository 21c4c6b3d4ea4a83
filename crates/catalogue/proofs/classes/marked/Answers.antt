-- `catalogue::classes::marked` meets its contract: what is unmarked is of none of the kinds. Assumes nothing.
use mathlib.Core.Path.{subst}
use Rattle.rows.specs.Rule.{IsKind}
use Rattle.catalogue.proofs.Marks.{unmarked_none}
use Rattle.catalogue.proofs.classes.marked.Goals as goal

pub returns-in-Unmarked : goal.returns-in-Unmarked
returns-in-Unmarked c = absurd (unmarked_none (subst IsKind c.in-Unmarked.is c.requires))
