-- `sleep::Watch::updated` meets its contract: at each `return` the tests that led there pick the case of `after_call`. Assumes nothing.
use Rattle.std.proofs.Common.{◌≡◌, ℕ, ◌+◌, ◌-◌, ◌%◌, arith, le-leb, rules, Fits, w32}
use borrow.Author.Tests.{lt-leb}
use Rattle.sleep.specs.Watching.{circle, age, after_call}
use Rattle.sleep.proofs.Watch.updated.Goals as goal

passed_is : (time last : ℕ) → Fits w32 last → age time last ≡ (time + (circle - last)) % circle
passed_is time last h = omega (arith, h)

pub returns-then-wake : goal.returns-then-wake
unfolding after_call
returns-then-wake c = simp (c.new-woken.ensures, c.if-self.true, c.if-wake.true)

pub returns-then-self : goal.returns-then-self
unfolding after_call
returns-then-self c = simp (c.if-self.true, c.if-wake.false)

pub returns-then-passed-ge-HALF_THE_CIRCLE : goal.returns-then-passed-ge-HALF_THE_CIRCLE
unfolding after_call
returns-then-passed-ge-HALF_THE_CIRCLE c =
    simp (c.if-self.false, passed_is c.args.time c.args.self.last_wake (search rules), le-leb _ _ c.if-passed-ge-HALF_THE_CIRCLE.true)

pub returns-then-wake-2 : goal.returns-then-wake-2
unfolding after_call
returns-then-wake-2 c =
    simp (c.new-woken.ensures, c.if-self.false, passed_is c.args.time c.args.self.last_wake (search rules), lt-leb _ _ c.if-passed-ge-HALF_THE_CIRCLE.false, c.if-wake-2.true)

pub returns : goal.returns
unfolding after_call
returns c =
    simp (c.if-self.false, passed_is c.args.time c.args.self.last_wake (search rules), lt-leb _ _ c.if-passed-ge-HALF_THE_CIRCLE.false, c.if-wake-2.false)
