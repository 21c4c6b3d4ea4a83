-- `placing::has_fixed_start` meets its contract: each `return` is one case of it. Assumes nothing.
use borrow.Author.Tests.{ne_eqb}
use Rattle.placing.proofs.has_fixed_start.Goals as goal

pub returns-then-place-eq-CHECKSUM_PLACE : goal.returns-then-place-eq-CHECKSUM_PLACE
returns-then-place-eq-CHECKSUM_PLACE c = rw c.if-place-eq-CHECKSUM_PLACE.true

pub returns-then-place-eq-COUNTER_PLACE : goal.returns-then-place-eq-COUNTER_PLACE
returns-then-place-eq-COUNTER_PLACE c = rw c.if-place-eq-COUNTER_PLACE.true

pub returns : goal.returns
returns c = rw (ne_eqb _ _ c.if-place-eq-CHECKSUM_PLACE.false, ne_eqb _ _ c.if-place-eq-COUNTER_PLACE.false)
