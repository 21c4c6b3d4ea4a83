-- `rows::table::widths` meets its contract: the column is that of the list of rows. Assumes nothing.
use mathlib.Core.Path.{refl}
use Rattle.rows.specs.Rows.{rows}
use Rattle.rows.proofs.table.widths.Goals as goal

pub returns : goal.returns
unfolding rows
returns c = refl
