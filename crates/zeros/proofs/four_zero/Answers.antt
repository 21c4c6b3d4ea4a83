-- `zeros::four_zero` meets its contract: what is gathered is 0 and the rests are zeros just where all four are. Assumes nothing.
use mathlib.Core.Path.{refl, sym, ◌∙◌}
use native.Mathlib.Omega.{arith}
use Rattle.zeros.proofs.Gathering.{four_step, four_end}
use Rattle.zeros.proofs.four_zero.Goals as goal

pub loop-at-init : goal.loop-at-init
loop-at-init c = refl

pub offset_bounds-two-at : goal.offset_bounds-two-at
offset_bounds-two-at c = omega (arith, c.requires.0)

pub bounds-two-at : goal.bounds-two-at
bounds-two-at c = omega (arith, c.requires.0)

pub offset_bounds-three-at : goal.offset_bounds-three-at
offset_bounds-three-at c = omega (arith, c.requires.1)

pub bounds-three-at : goal.bounds-three-at
bounds-three-at c = omega (arith, c.requires.1)

pub offset_bounds-four-at : goal.offset_bounds-four-at
offset_bounds-four-at c = omega (arith, c.requires.2)

pub bounds-four-at : goal.bounds-four-at
bounds-four-at c = omega (arith, c.requires.2)

pub loop-at-preserved : goal.loop-at-preserved
loop-at-preserved c = four_step _ _ _ _ c.requires c.loop-at.at c.loop-at.all c.loop-at-test.true ∙ c.loop-at.invariant

pub returns : goal.returns
returns c = sym (four_end _ _ _ _ c.requires c.loop-at.at c.loop-at.all c.loop-at-test.false) ∙ c.loop-at.invariant
