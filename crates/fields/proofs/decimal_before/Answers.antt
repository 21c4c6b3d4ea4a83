-- `fields::decimal_before` meets its contract: the answer for the rest, after the digits passed, is the answer for the whole. Assumes nothing.
use Rattle.std.proofs.Common.{rules, arith, ◌≡◌, ◌<◌, get_or}
use Rattle.fields.proofs.Run.{none_passed, small, no_stop, empty_field, zero_first, all_digits, six_digits, no_digit, one_passed}
use Rattle.fields.proofs.decimal_before.Goals as goal
use Rattle.fields.proofs.decimal_before.Goals.{then-i-eq0-via-then-i-eq0, then-i-eq0-via-else-i-eq0+then-text-eq48}

pub loop-i-init : goal.loop-i-init
loop-i-init c = none_passed _ _

pub returns-then-i-eq0 : goal.returns-then-i-eq0
returns-then-i-eq0 c =
    elim c.then-i-eq0.branch [
      | then-i-eq0-via-then-i-eq0 w ↦ empty_field c.loop-i.invariant c.loop-i-test.true c.if-b-stop.true w.if-i-eq0.true
      | then-i-eq0-via-else-i-eq0+then-text-eq48 w ↦
          let m : 1 < c.loop-i.i = search rules in
          let q : get_or c.args.text.now 0 0 ≡ 48 = search rules in
          zero_first c.loop-i.invariant c.loop-i-test.true c.if-b-stop.true m q
    ]

pub overflow_cast-result : goal.overflow_cast-result
overflow_cast-result c = omega (arith, small c.loop-i.invariant)

pub returns-then-b-stop : goal.returns-then-b-stop
returns-then-b-stop c =
    let n : 1 < c.loop-i.i → get_or c.args.text.now 0 0 ≡ 48 → ⊥ = search rules in
    all_digits c.loop-i.invariant c.loop-i-test.true c.if-b-stop.true c.if-i-eq0.false n

pub returns-then-i-eq-DECIMAL_DIGITS : goal.returns-then-i-eq-DECIMAL_DIGITS
returns-then-i-eq-DECIMAL_DIGITS c = six_digits c.loop-i.invariant c.loop-i-test.true c.if-b-stop.false c.if-i-eq-DECIMAL_DIGITS.true

pub returns-then-d-ge10 : goal.returns-then-d-ge10
returns-then-d-ge10 c = no_digit c.loop-i.invariant c.loop-i-test.true c.if-b-stop.false _ c.digit-d.ensures c.if-d-ge10.true

pub overflow_mul-v : goal.overflow_mul-v
overflow_mul-v c = omega (arith, small (one_passed c.loop-i.invariant c.loop-i-test.true c.if-b-stop.false _ c.digit-d.ensures c.if-i-eq-DECIMAL_DIGITS.false c.if-d-ge10.false))

pub overflow_add-v : goal.overflow_add-v
overflow_add-v c = omega (arith, small (one_passed c.loop-i.invariant c.loop-i-test.true c.if-b-stop.false _ c.digit-d.ensures c.if-i-eq-DECIMAL_DIGITS.false c.if-d-ge10.false))

pub loop-i-preserved : goal.loop-i-preserved
loop-i-preserved c = one_passed c.loop-i.invariant c.loop-i-test.true c.if-b-stop.false _ c.digit-d.ensures c.if-i-eq-DECIMAL_DIGITS.false c.if-d-ge10.false

pub returns : goal.returns
returns c = no_stop c.loop-i.invariant c.loop-i-test.false
