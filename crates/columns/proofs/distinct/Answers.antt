-- `columns::distinct` meets its contract: the answer for the rest from `at` is the answer for the whole, and the slot of each identifier passed is used. Assumes nothing.
use mathlib.Core.Path.{◌≡◌, sym, ◌∙◌}
use mathlib.Core.Bool.{false}
use native.Mathlib.Omega.{arith}
use lib.ListN.{take, get_or}
use Rattle.books.specs.Lines.{is_in}
use borrow.Author.Rules.{rules}
use Rattle.columns.proofs.Slots.{unused, used_more, distinct_end, distinct_over, distinct_again, distinct_next}
use Rattle.columns.proofs.distinct.Goals as goal
use Rattle.columns.proofs.distinct.Goals.{then-used-place+else-holds, else-used-place}

pub returns-then-identifier-ge-IDENTIFIER_LIMIT : goal.returns-then-identifier-ge-IDENTIFIER_LIMIT
returns-then-identifier-ge-IDENTIFIER_LIMIT c = sym (distinct_over _ _ c.loop-at-test.true c.if-identifier-ge-IDENTIFIER_LIMIT.true) ∙ c.loop-at.invariant.1

pub returns-then-holds : goal.returns-then-holds
returns-then-holds c = sym (distinct_again _ _ c.loop-at-test.true c.if-identifier-ge-IDENTIFIER_LIMIT.false (sym c.holds.ensures ∙ c.if-holds.true)) ∙ c.loop-at.invariant.1

pub loop-at-preserved : goal.loop-at-preserved
loop-at-preserved c = let s = c.args.ids.now in
    let i = c.loop-at.at in
    let m : is_in (get_or s i 0) (take i s) ≡ false =
    elim c.if-used-place.branch [
      | then-used-place+else-holds w ↦ sym w.holds.ensures ∙ w.if-holds.false
      | else-used-place w ↦ unused s c.loop-at.used i (get_or s i 0) c.slot-place.result c.slot-place.ensures.0 w.if-used-place.false c.loop-at.invariant.2
    ]
    in
    (search rules, distinct_next s i c.loop-at-test.true c.if-identifier-ge-IDENTIFIER_LIMIT.false m ∙ c.loop-at.invariant.1, used_more s c.loop-at.used i c.slot-place.result c.slot-place.ensures.0 (omega arith) c.loop-at.invariant.2)

pub returns : goal.returns
returns c = sym (distinct_end _ _ c.loop-at-test.false) ∙ c.loop-at.invariant.1
