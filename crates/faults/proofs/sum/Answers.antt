-- `faults::sum` meets its contract: the tests that led to each `return` pick the answer, and each part of the sum is its callee's. Assumes nothing.
use borrow.Author.Tests.{eq-eqb, ne_eqb}
use Rattle.faults.specs.Sum.{answer_to}
use Rattle.faults.proofs.sum.Goals as goal

pub returns-then-counts-ne-ROW_COUNT : goal.returns-then-counts-ne-ROW_COUNT
unfolding answer_to
returns-then-counts-ne-ROW_COUNT c = simp (ne_eqb _ _ c.if-counts-ne-ROW_COUNT.true)

pub returns-then-not-all_fit : goal.returns-then-not-all_fit
unfolding answer_to
returns-then-not-all_fit c = simp (eq-eqb _ _ c.if-counts-ne-ROW_COUNT.false, ← c.all_fit.ensures, c.if-not-all_fit.true)

pub returns : goal.returns
unfolding answer_to
returns c =
    simp (eq-eqb _ _ c.if-counts-ne-ROW_COUNT.false, ← c.all_fit.ensures, c.if-not-all_fit.false, c.stands_at-agrees.ensures, c.is_emergency-emergency.ensures, c.one_bit_faults-set.ensures, c.levels_at-at_3.ensures, c.levels_at-at_2.ensures, c.levels_at-at_1.ensures, c.highest_level-highest.ensures)
