-- When a call is refused, by document 01's number, and that a refused call keeps the watch. Assumes nothing.
use Rattle.std.proofs.Common.{◌≡◌, ℕ, Bool, true, false, cond, not, ◌&&◌, leb, refl, arith}
use Rattle.sleep.specs.declared.Watch.{Watch}
use Rattle.sleep.specs.Watching.{taken, clock_went_back, sleep_refusal, half_the_circle, age, watch_and_answer, while_asleep, while_awake, after_call}

-- "while awake, an age of 2^31 or more is refusal 51, whether wake is on or off"; "While asleep no call is refused"
pub refused : (w : Watch) (time : ℕ) (wake : Bool)
    → sleep_refusal (after_call w time wake).answer ≡ cond (not w.asleep && leb half_the_circle (age time w.last_wake)) 51 0
unfolding after_call
refused w time wake = go w.asleep (leb half_the_circle (age time w.last_wake))
  where
    go : (a b : Bool)
        → sleep_refusal (cond a (while_asleep w time wake) (cond b (watch_and_answer w clock_went_back) (watch_and_answer (while_awake w time wake) taken))).answer ≡ cond (not a && b) 51 0
    go true b = refl
    go false true = refl
    go false false = refl

-- 51: "state kept"
pub kept : (w : Watch) (time : ℕ) (wake : Bool) → sleep_refusal (after_call w time wake).answer ≡ 51 → (after_call w time wake).watch ≡ w
unfolding after_call
kept w time wake = go w.asleep (leb half_the_circle (age time w.last_wake))
  where
    go : (a b : Bool)
        → sleep_refusal (cond a (while_asleep w time wake) (cond b (watch_and_answer w clock_went_back) (watch_and_answer (while_awake w time wake) taken))).answer ≡ 51
        → (cond a (while_asleep w time wake) (cond b (watch_and_answer w clock_went_back) (watch_and_answer (while_awake w time wake) taken))).watch ≡ w
    go true b e = absurd (omega arith)
    go false true e = refl
    go false false e = absurd (omega arith)
