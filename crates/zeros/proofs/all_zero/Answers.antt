-- `zeros::all_zero` meets its contract: what is gathered is 0 and the rest is zeros just where the whole is. Assumes nothing.
use mathlib.Core.Path.{refl, ◌∙◌}
use native.Mathlib.Omega.{arith}
use lib.Seq.{take_all}
use Rattle.std.proofs.lemmas.Grind.{common_steps}
use Rattle.zeros.proofs.Gathering.{zeros_step, zeros_end}
use Rattle.zeros.proofs.all_zero.Goals as goal

pub loop-x-init : goal.loop-x-init
loop-x-init c = refl

pub loop-x-preserved : goal.loop-x-preserved
loop-x-preserved c = zeros_step _ c.loop-x.x-index c.loop-x.all c.loop-x-test.true ∙ c.loop-x.invariant

pub returns : goal.returns
returns c = grind (arith, common_steps, zeros_end, take_all)
