-- `zeros::all_zero` meets its contract: what is gathered is 0 and the rest is zeros just where the whole is. Assumes nothing.
use mathlib.Core.Path.{◌≡◌}
use mathlib.Core.Bool.{◌&&◌}
use lib.Dec.{eqb}
use lib.ListN.{drop}
use Rattle.zeros.specs.Zeros.{zeros}
use Rattle.zeros.proofs.all_zero.Given as goal

abbrev pub invariant-loop-x : goal.invariant-loop-x
invariant-loop-x l = eqb l.all 0 && zeros (drop l.x-index l.entries) ≡ zeros l.entries
