-- `reach::nth` meets its contract. Assumes nothing.
use mathlib.Core.Path.{refl}
use native.Mathlib.Omega.{arith}
use Rattle.reach.proofs.nth.Goals as goal

pub returns-then-down : goal.returns-then-down
returns-then-down c = ((rw c.if-down.true refl), omega arith)
