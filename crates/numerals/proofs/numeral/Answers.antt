-- `numerals::numeral` meets its contract: the answer for the rest, after the value of the digits passed, is the answer for the whole. Assumes nothing.
use Rattle.numerals.proofs.Reading.{all_passed, no_digit, one_passed, fits}
use native.Mathlib.Omega.{arith}
use Rattle.numerals.proofs.numeral.Goals as goal

pub returns-then-d-base : goal.returns-then-d-base
returns-then-d-base c = no_digit c.loop-b.invariant c.loop-b-test.true _ c.digit-d.ensures c.if-d-base.true

pub overflow_mul-v : goal.overflow_mul-v
overflow_mul-v c = omega (arith, fits (one_passed c.loop-b.invariant c.loop-b-test.true _ c.digit-d.ensures c.if-d-base.false) c.requires.1 c.requires.0)

pub overflow_add-v : goal.overflow_add-v
overflow_add-v c = omega (arith, fits (one_passed c.loop-b.invariant c.loop-b-test.true _ c.digit-d.ensures c.if-d-base.false) c.requires.1 c.requires.0)

pub loop-b-preserved : goal.loop-b-preserved
loop-b-preserved c = one_passed c.loop-b.invariant c.loop-b-test.true _ c.digit-d.ensures c.if-d-base.false

pub returns : goal.returns
returns c = all_passed c.loop-b.invariant c.loop-b-test.false
