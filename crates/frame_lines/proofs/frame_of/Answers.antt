-- `frame_lines::frame_of` meets its contract: at each `return` the tests that led there say which case holds. Assumes nothing.
use Rattle.std.proofs.Common.{rules, ◌≡◌, ◌++◌, ◌∷◌, [], ◌<◌, ◌+◌, ◌*◌, length, ap, ◌∙◌}
use native.Mathlib.Omega.{arith}
use lib.ListN.{length-append}
use Rattle.numerals.specs.Numeral.{digit_value}
use Rattle.frame_lines.proofs.Digits.{no_digit}
use Rattle.frame_lines.proofs.Gathered.{none_gathered, one_gathered, all_digits, gathered, next_pair, last_pair}
use Rattle.frame_lines.proofs.Bytes.{too_long, odd, no_digits, fewer, eight}
use Rattle.frame_lines.proofs.frame_of.Goals as goal

pub returns-then-digits-gt-FRAME_DIGITS : goal.returns-then-digits-gt-FRAME_DIGITS
returns-then-digits-gt-FRAME_DIGITS c = too_long _ _ c.if-digits-gt-FRAME_DIGITS.true

pub returns-then-digits-ne0 : goal.returns-then-digits-ne0
returns-then-digits-ne0 c = odd _ _ c.if-digits-gt-FRAME_DIGITS.false c.if-digits-ne0.true

pub loop-pair-init : goal.loop-pair-init
loop-pair-init c =
    let r : c.into_iter-pair-iterator.result.rest.now ≡ c.args.digits.now = search rules in
    (none_gathered _, r, search rules)

pub returns-then-high-ge16 : goal.returns-then-high-ge16
returns-then-high-ge16 c =
    let e : c.loop-pair.pair-iterator.rest.now ≡ c.in-Some.pair.now ++ c.next.new.self.rest.now = search rules in
    let s : length c.in-Some.pair.now ≡ 2 = search rules in
    let p = next_pair c.args.digits.now _ c.in-Some.pair.now _ (length c.loop-pair.yielded) c.loop-pair.invariant.1 e s in
    let i : 2 * length c.loop-pair.yielded < length c.args.digits.now = omega (arith, p.more) in
    no_digits _ _ c.if-digits-gt-FRAME_DIGITS.false c.if-digits-ne0.false (no_digit _ _ i (c.digit-high.ensures ∙ ap digit_value p.high) c.if-high-ge16.true)

pub returns-then-low-ge16 : goal.returns-then-low-ge16
returns-then-low-ge16 c =
    let e : c.loop-pair.pair-iterator.rest.now ≡ c.in-Some.pair.now ++ c.next.new.self.rest.now = search rules in
    let s : length c.in-Some.pair.now ≡ 2 = search rules in
    let p = next_pair c.args.digits.now _ c.in-Some.pair.now _ (length c.loop-pair.yielded) c.loop-pair.invariant.1 e s in
    let i : 2 * length c.loop-pair.yielded + 1 < length c.args.digits.now = omega (arith, p.more) in
    no_digits _ _ c.if-digits-gt-FRAME_DIGITS.false c.if-digits-ne0.false (no_digit _ _ i (c.digit-low.ensures ∙ ap digit_value p.low) c.if-low-ge16.true)

pub loop-pair-preserved : goal.loop-pair-preserved
loop-pair-preserved c =
    let e : c.loop-pair.pair-iterator.rest.now ≡ c.in-Some.pair.now ++ c.next.new.self.rest.now = search rules in
    let s : length c.in-Some.pair.now ≡ 2 = search rules in
    let p = next_pair c.args.digits.now _ c.in-Some.pair.now _ (length c.loop-pair.yielded) c.loop-pair.invariant.1 e s in
    let n : length (c.loop-pair.yielded ++ c.in-Some.pair ∷ []) ≡ length c.loop-pair.yielded + 1 = length-append c.loop-pair.yielded (c.in-Some.pair ∷ []) in
    let g = one_gathered _ _ _ c.loop-pair.invariant.0 p.more (c.digit-high.ensures ∙ ap digit_value p.high) (c.digit-low.ensures ∙ ap digit_value p.low) c.if-high-ge16.false c.if-low-ge16.false in
    (rw n g, rw n p.left, search rules)

pub returns-then-digits-lt-FRAME_DIGITS : goal.returns-then-digits-lt-FRAME_DIGITS
returns-then-digits-lt-FRAME_DIGITS c =
    let s : length c.loop-pair.pair-iterator.rest.now < 2 = search rules in
    let h = last_pair c.args.digits.now _ (length c.loop-pair.yielded) c.loop-pair.invariant.1 s in
    fewer _ _ c.if-digits-gt-FRAME_DIGITS.false c.if-digits-ne0.false (all_digits _ c.loop-pair.invariant.0 h c.if-digits-ne0.false) c.if-digits-lt-FRAME_DIGITS.true

pub returns : goal.returns
returns c =
    let s : length c.loop-pair.pair-iterator.rest.now < 2 = search rules in
    let h = last_pair c.args.digits.now _ (length c.loop-pair.yielded) c.loop-pair.invariant.1 s in
    let w = gathered _ c.loop-pair.invariant.0 h c.if-digits-ne0.false (omega (arith, c.if-digits-gt-FRAME_DIGITS.false, c.if-digits-lt-FRAME_DIGITS.false)) in
    eight _ _ c.if-digits-gt-FRAME_DIGITS.false c.if-digits-ne0.false (all_digits _ c.loop-pair.invariant.0 h c.if-digits-ne0.false) c.if-digits-lt-FRAME_DIGITS.false w
