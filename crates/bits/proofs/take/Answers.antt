-- `bits::take` meets its contract: what lies past the count is shifted out. Assumes nothing.
use Rattle.bits.proofs.Placing.{taken_out}
use native.Mathlib.Omega.{arith}
use Rattle.bits.proofs.take.Goals as goal

pub window-requires : goal.window-requires
window-requires c = omega (arith, c.requires.some, c.requires.inside)

pub returns : goal.returns
returns c = taken_out _ _ _ _ c.requires.most c.window.ensures
