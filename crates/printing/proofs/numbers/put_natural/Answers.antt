-- `printing::numbers::put_natural` meets its contract: the digits counted hold the number, and there are at most 20. Assumes nothing.
use native.Mathlib.Omega.{arith}
use Rattle.printing.proofs.Counting.{count_few, count_holds}
use Rattle.printing.proofs.Spelling.{natural_put}
use Rattle.printing.proofs.numbers.put_natural.Goals as goal

pub put_digits-requires : goal.put_digits-requires
put_digits-requires c = record { inside = omega (arith, c.requires, count_few _ c.ranges.n.fits, c.digit_count-count.ensures); some = omega arith; few = omega arith; holds = rw c.digit_count-count.ensures (count_holds _) }

pub overflow_add-result : goal.overflow_add-result
overflow_add-result c = omega (arith, c.requires, count_few _ c.ranges.n.fits, c.digit_count-count.ensures)

pub returns : goal.returns
returns c = natural_put _ c.digit_count-count.ensures c.put_digits.ensures
