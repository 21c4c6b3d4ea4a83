-- `printing::numbers::digit_count` meets its contract: the digits counted and those of the rest are those of the number, and one. Assumes nothing.
use mathlib.Core.Path.{refl}
use native.Mathlib.Omega.{arith}
use Rattle.printing.proofs.Counting.{one_digit, more_digits, count_few}
use Rattle.printing.proofs.numbers.digit_count.Goals as goal

pub loop-rest-init : goal.loop-rest-init
loop-rest-init c = refl

pub overflow_add-count : goal.overflow_add-count
overflow_add-count c = omega (arith, count_few _ c.ranges.n.fits, more_digits _ c.loop-rest-test.true, c.loop-rest.invariant)

pub loop-rest-smaller : goal.loop-rest-smaller
loop-rest-smaller c = omega (arith, c.loop-rest-test.true)

pub loop-rest-preserved : goal.loop-rest-preserved
loop-rest-preserved c = omega (arith, more_digits _ c.loop-rest-test.true, c.loop-rest.invariant)

pub returns : goal.returns
returns c = omega (arith, one_digit _ c.loop-rest-test.false, c.loop-rest.invariant)
