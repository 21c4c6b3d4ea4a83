-- `zeros::four_zero` meets its contract: what is gathered is 0 and the rests are zeros just where all four are. Assumes nothing.
use mathlib.Core.Path.{◌≡◌}
use mathlib.Core.Bool.{◌&&◌}
use lib.Dec.{eqb}
use lib.ListN.{drop}
use Rattle.zeros.specs.Zeros.{zeros}
use Rattle.zeros.proofs.four_zero.Given as goal

abbrev pub invariant-loop-at : goal.invariant-loop-at
invariant-loop-at l = eqb l.all 0 && ((zeros (drop l.at l.one) && zeros (drop l.at l.two)) && (zeros (drop l.at l.three) && zeros (drop l.at l.four))) ≡ (zeros l.one && zeros l.two) && (zeros l.three && zeros l.four)
