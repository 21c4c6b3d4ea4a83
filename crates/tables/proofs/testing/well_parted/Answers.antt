-- `tables::testing::well_parted` meets its contract: the answer for the messages from `at` on is the answer for all, and the stamps are below that of the next message. Assumes nothing.
use mathlib.Core.Path.{refl, sym, ◌∙◌}
use native.Mathlib.Omega.{arith}
use Rattle.placing.proofs.Stamped.{its_answer, left_below}
use Rattle.tables.proofs.Parted.{begin_parted, end_parted, refuse_back, refuse_past, refuse_message, next_parted}
use Rattle.tables.proofs.testing.well_parted.Goals as goal

pub loop-at-init : goal.loop-at-init
loop-at-init c = (begin_parted _ _ _, c.requires.3)

pub returns-then-end-begin : goal.returns-then-end-begin
returns-then-end-begin c = refuse_back _ _ _ _ _ c.requires.0 c.loop-at.invariant.0 _ c.loop-at-test.true refl c.if-end-begin.true

pub returns-then-end-numbers : goal.returns-then-end-numbers
returns-then-end-numbers c = refuse_past _ _ _ _ _ c.requires.0 c.loop-at.invariant.0 _ c.loop-at-test.true refl c.if-end-begin.false c.if-end-numbers.true

pub part-requires : goal.part-requires
part-requires c = (c.if-end-begin.false, c.if-end-numbers.false)

pub part-requires-in-loop-at : goal.part-requires-in-loop-at
part-requires-in-loop-at c = (c.if-end-begin.false, omega (arith, c.requires.0, c.if-end-numbers.false))

pub well_placed-requires : goal.well_placed-requires
well_placed-requires c = (omega (arith, c.part.ensures.1, c.part-in-loop-at.ensures.1), c.requires.2, c.loop-at.invariant.1)

pub returns-then-not-well_placed : goal.returns-then-not-well_placed
returns-then-not-well_placed c =
    refuse_message _ _ _ _ _ c.requires.0 c.loop-at.invariant.0 _ c.loop-at-test.true refl c.if-end-begin.false c.if-end-numbers.false _ _ c.part.ensures.0 c.part-in-loop-at.ensures.0
    (sym (its_answer _ _ _ _ _ c.well_placed.ensures) ∙ c.if-not-well_placed.true)

pub loop-at-preserved : goal.loop-at-preserved
loop-at-preserved c = (
  next_parted _ _ _ _ _ c.requires.0 c.loop-at.invariant.0 _ c.loop-at-test.true refl c.if-end-begin.false c.if-end-numbers.false _ _ c.part.ensures.0 c.part-in-loop-at.ensures.0
      (sym (its_answer _ _ _ _ _ c.well_placed.ensures) ∙ c.if-not-well_placed.false),
  left_below _ _ _ _ _ c.well_placed.ensures c.loop-at.invariant.1,
)

pub returns : goal.returns
returns c = end_parted _ _ _ _ _ c.requires.0 c.loop-at.invariant.0 c.loop-at-test.false
