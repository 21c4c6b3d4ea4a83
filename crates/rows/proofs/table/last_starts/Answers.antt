-- `rows::table::last_starts` meets its contract: the column has 64 less the bits of each row. Assumes nothing.
use mathlib.Core.Path.{refl}
use Rattle.rows.specs.Rows.{rows}
use Rattle.rows.proofs.table.last_starts.Goals as goal

pub returns : goal.returns
unfolding rows
returns c = refl
