-- `writing::put_digits` meets its contract: writing what is left gives the final list. Assumes nothing.
use Rattle.writing.proofs.Left.{all_left, none_left, one_less}
use Rattle.writing.proofs.put_digits.Goals as goal

pub loop-j-init : goal.loop-j-init
loop-j-init c = all_left _ _ _ _ _ c.requires

pub loop-j-preserved : goal.loop-j-preserved
loop-j-preserved c = one_less _ _ _ c.loop-j.invariant c.loop-j-test.true c.requires.some c.digit_byte.ensures

pub returns : goal.returns
returns c = none_left _ _ c.loop-j.invariant c.loop-j-test.false
