-- Calls of the watch, worked by hand: ages 9,999 and 10,000, at the circle's seam too; a clock that went back, awake and asleep; wake on.
-- Assumes nothing: these are definitions.
use Rattle.std.specs.Prelude.{ℕ, Bool, true, false, List, [], ◌∷◌}
use Rattle.sleep.specs.declared.Watch.{Watch}
use Rattle.sleep.specs.declared.Updated.{Updated}
use Rattle.sleep.specs.Watching.{SleepAnswer, taken, clock_went_back, awake_at, watch_of, watch_and_answer}

-- a watch, a call on it, and the watch with the answer after it
pub record WorkedCall : Type 0 where
  pub before : Watch
  pub time : ℕ
  pub wake : Bool
  pub after : Updated

abbrev pub worked_call : Watch → ℕ → Bool → Watch → SleepAnswer → WorkedCall
worked_call w t b x a = record { before = w; time = t; wake = b; after = watch_and_answer x a }

abbrev pub asleep_since : ℕ → Watch
asleep_since time = watch_of time true

unfoldable pub worked_calls : List WorkedCall
worked_calls =
    worked_call (awake_at 5) 10004 false (awake_at 5) taken
    ∷ worked_call (awake_at 5) 10005 false (asleep_since 5) taken
    ∷ worked_call (awake_at 4294967295) 9998 false (awake_at 4294967295) taken
    ∷ worked_call (awake_at 4294967295) 9999 false (asleep_since 4294967295) taken
    ∷ worked_call (awake_at 1000) 999 true (awake_at 1000) clock_went_back
    ∷ worked_call (awake_at 0) 2147483648 true (awake_at 0) clock_went_back
    ∷ worked_call (awake_at 0) 2147483648 false (awake_at 0) clock_went_back
    ∷ worked_call (awake_at 0) 2147483647 true (awake_at 2147483647) taken
    ∷ worked_call (awake_at 0) 2147483647 false (asleep_since 0) taken
    ∷ worked_call (asleep_since 1000) 999 false (asleep_since 1000) taken
    ∷ worked_call (asleep_since 1000) 999 true (awake_at 999) taken
    ∷ []
