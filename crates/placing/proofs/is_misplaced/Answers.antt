-- `placing::is_misplaced` meets its contract: each `return` is one case of the rule. Assumes nothing.
use mathlib.Core.Path.{sym}
use Rattle.placing.proofs.Placing.{past_end, sum_placed, counter_placed, well_placed}
use Rattle.placing.proofs.is_misplaced.Goals as goal

pub returns-then-start-bits-gt-FRAME_BITS : goal.returns-then-start-bits-gt-FRAME_BITS
returns-then-start-bits-gt-FRAME_BITS c = sym (past_end _ _ _ c.requires.2 c.if-start-bits-gt-FRAME_BITS.true)

pub returns-then-number-eq-CHECKSUM : goal.returns-then-number-eq-CHECKSUM
returns-then-number-eq-CHECKSUM c = sym (sum_placed _ _ _ c.requires.2 c.if-start-bits-gt-FRAME_BITS.false c.if-number-eq-CHECKSUM.true)

pub returns-then-number-eq-COUNTER : goal.returns-then-number-eq-COUNTER
returns-then-number-eq-COUNTER c = sym (counter_placed _ _ _ c.requires.2 c.if-start-bits-gt-FRAME_BITS.false c.if-number-eq-COUNTER.true)

pub returns : goal.returns
returns c = sym (well_placed _ _ _ c.requires.2 c.if-start-bits-gt-FRAME_BITS.false c.if-number-eq-CHECKSUM.false c.if-number-eq-COUNTER.false)
